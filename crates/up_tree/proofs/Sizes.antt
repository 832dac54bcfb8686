-- How many bytes a log has, by the sizes of its records.
use Rattle.std.proofs.Common.{◌≡◌, ◌+◌, ◌≤◌, ℕ, List, [], ◌∷◌, length, map, ap, Option, Some, None, IfSome, refl, arith, sum_by}
use Rattle.std.proofs.lemmas.List.{length-map}
use Rattle.std.proofs.lemmas.List.Sums.{sum_by-cons}
use Rattle.up_entry.specs.declared.records.Rec.{Rec}
use Rattle.up_journal.specs.Journal as journal
use Rattle.up_log_tree.specs.Logs.{bytes_of}
use Rattle.up_log_tree.specs.Sizes.{size_of, sizes_of}

sums : (log : List Rec) → sum_by (λ size. size + 37) (sizes_of log) ≡ sum_by (λ rec. size_of rec + 37) log
sums [] = refl
sums (rec ∷ log) = omega (arith, sum_by-cons (λ (size : ℕ). size + 37) (size_of rec) (sizes_of log), sum_by-cons (λ (rec : Rec). size_of rec + 37) rec log, sums log)

pub log_bytes : (log : List Rec) → journal.bytes_of (sizes_of log) ≡ bytes_of log
log_bytes log = omega (arith, sums log)

-- all payloads are read once their number is come to
pub none_left : (log : Option (List (List ℕ))) (sizes : List ℕ) (n : ℕ) → IfSome log (λ payloads. map length payloads ≡ sizes) → length sizes ≤ n → IfSome log (λ payloads. length payloads ≤ n)
none_left None sizes n is ended = tt
none_left (Some payloads) sizes n is ended = omega (arith, ended, ap length is, length-map payloads (λ (payload : List ℕ). length payload))
