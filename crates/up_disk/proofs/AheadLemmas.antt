-- What was read ahead is what a read gives.
use Rattle.std.proofs.Common.{◌≡◌, ◌≤◌, ◌+◌, ◌-◌, ℕ, List, length, take, drop, Option, None, Some, IfSome, refl, ap, ◌∙◌, arith}
use Rattle.std.proofs.lemmas.List.{drop-drop, drop-take, take-take}
use Rattle.up_disk.specs.Ahead.{AreAmong, IsAhead}
use Rattle.up_disk.specs.Disk.{part}

-- a part of a part
part-part : (k n many from : ℕ) (all : List ℕ) → k + n ≤ many → part k n (part from many all) ≡ part (from + k) n all
part-part k n many from all fits =
    let rest = drop from all in
    let whole : many ≡ k + (many - k) = omega arith in
    ap (take n) (ap (λ m. drop k (take m rest)) whole ∙ drop-take k (many - k) rest)
    ∙ take-take n (many - k) (drop k rest) (omega arith)
    ∙ ap (take n) (drop-drop k from all)

-- those of these bytes that stand at a place are what a read gives there
pub ahead_read : (content : Option (List ℕ)) (from : ℕ) (bytes : List ℕ) (at n : ℕ) (copied : List ℕ)
    → IsAhead content from bytes → AreAmong from bytes at n copied → IfSome content (λ all. copied ≡ part at n all)
ahead_read None from bytes at n copied ahead among = tt
ahead_read (Some all) from bytes at n copied ahead among =
    let there : from + (at - from) ≡ at = let behind = among.behind in omega arith in
    among.copied_are ∙ ap (part (at - from) n) (ahead.same all refl)
    ∙ part-part (at - from) n (length bytes) from all among.within ∙ ap (λ k. part k n all) there

-- the front of what was read is what a shorter read gives
pub front_read : (content : Option (List ℕ)) (at n many : ℕ) (read : List ℕ) → n ≤ many
    → IfSome content (λ all. read ≡ part at many all) → IfSome content (λ all. take n read ≡ part at n all)
front_read None at n many read fits given = tt
front_read (Some all) at n many read fits given = ap (take n) given ∙ take-take n many (drop at all) fits

-- what was read is what stands there
pub read_is_ahead : (content : Option (List ℕ)) (at : ℕ) (read : List ℕ) → IfSome content (λ all. read ≡ part at (length read) all) → IsAhead content at read
read_is_ahead None at read given = record { same = λ all told. cc }
read_is_ahead (Some bytes) at read given = record { same = λ all told. let one : bytes ≡ all = cc in given ∙ ap (part at (length read)) one }
