-- A store whose disk tells nothing tells no bytes.
use Rattle.std.proofs.Common.{◌≡◌, ℕ, Bool, true, false, not, cond, List, [], ◌∷◌, refl, sym, ap, subst, Option, Some, None}
use Rattle.std.specs.FinMap.Entries.{find, find-put, find-where_key}
use Rattle.std.specs.List.{AllByRecursion, fold}
use Rattle.std.specs.Option.{option_and_then}
use Rattle.std.specs.Ordering.{eq_by_cmp}
use Rattle.std.proofs.lemmas.Cmp.{nat_list_cmp_total}
use Rattle.std.specs.FinMap.{IsAntisymmetric, nat_cmp-IsAntisymmetric, slice_cmp-IsAntisymmetric}
use Rattle.std.specs.Cmp.Lexicographic.{slice_cmp}
use Rattle.std.specs.Ordering.{nat_cmp}
use Rattle.std.specs.declared.cmp.Ordering.TheVariants.{Equal}
use Rattle.up_blocks.specs.Records.{IsTold, after_record, reference_cmp}
use Rattle.up_blocks.specs.declared.record.BlockRecord.{BlockRecord}
use Rattle.up_blocks.specs.declared.record.BlockRecord.TheVariants.{Put, Delete}
use Rattle.up_calls.specs.Services.{told_in}

-- no entry that is found has bytes
abbrev NoBytes : List (List ℕ × Option (List ℕ)) → Type 0
NoBytes blocks = (reference : List ℕ) → option_and_then (λ (told : Option (List ℕ)). told) (find reference_cmp reference blocks) ≡ None

none_else : (b : Bool) (found : Option (Option (List ℕ))) → option_and_then (λ (told : Option (List ℕ)). told) found ≡ None → option_and_then (λ (told : Option (List ℕ)). told) (cond b (Some None) found) ≡ None
none_else true found h = refl
none_else false found h = h

some_or_none : (b : Bool) (found : Option (Option (List ℕ))) → option_and_then (λ (told : Option (List ℕ)). told) found ≡ None → option_and_then (λ (told : Option (List ℕ)). told) (cond b found None) ≡ None
some_or_none true found h = h
some_or_none false found h = refl

same_bytes : IsAntisymmetric (slice_cmp nat_cmp)
same_bytes = slice_cmp-IsAntisymmetric nat_cmp-IsAntisymmetric

-- the references that tie are equal
tied : (taken q x : List ℕ) → reference_cmp q x ≡ Equal → not (eq_by_cmp reference_cmp taken x) ≡ not (eq_by_cmp reference_cmp taken q)
tied taken q x h = ap (λ r. not (eq_by_cmp reference_cmp taken r)) (sym (same_bytes q x h))

after_none : (blocks : List (List ℕ × Option (List ℕ))) (rec : BlockRecord) → IsTold false rec → NoBytes blocks → NoBytes (after_record blocks rec)
after_none blocks (Put reference size (Some bytes)) told h = absurd (cc)
after_none blocks (Put reference size None) told h = λ q.
    subst (λ found. option_and_then (λ (told : Option (List ℕ)). told) found ≡ None) (sym (find-put reference_cmp nat_list_cmp_total q reference None blocks)) (none_else (eq_by_cmp reference_cmp q reference) (find reference_cmp q blocks) (h q))
after_none blocks (Delete reference) told h = λ q.
    subst (λ found. option_and_then (λ (told : Option (List ℕ)). told) found ≡ None)
    (sym (find-where_key reference_cmp (λ other. not (eq_by_cmp reference_cmp reference other)) q (tied reference q) blocks))
    (some_or_none (not (eq_by_cmp reference_cmp reference q)) (find reference_cmp q blocks) (h q))

fold_none : (log : List BlockRecord) (blocks : List (List ℕ × Option (List ℕ))) → AllByRecursion (IsTold false) log → NoBytes blocks → NoBytes (fold after_record blocks log)
fold_none [] blocks told h = h
fold_none (rec ∷ log) blocks told h = fold_none log (after_record blocks rec) told.1 (after_none blocks rec told.0 h)

pub untold_none : (log : List BlockRecord) → AllByRecursion (IsTold false) log → (reference : List ℕ) → told_in log reference ≡ None
untold_none log told = fold_none log [] told (λ reference. refl)
