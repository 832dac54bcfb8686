-- What is kept of an empty log.
use Rattle.std.proofs.Common.{◌≡◌, ℕ, false, List, [], Some, refl, sym, ap, subst, ◌∙◌}
use Rattle.std.specs.Prelude.{slice_get}
use Rattle.std.proofs.lemmas.Bool.{false≢true}
use Rattle.up_names.specs.PathNames.{PathName}
use Rattle.up_policy.specs.Trees.{owns_snapshots}
use Rattle.up_mem_tree.specs.Kept.{Stands, befores_of, slots_of}
use Rattle.up_mem_tree.specs.Slots.{AreLinked, known_all, named_paths, path_in}
use Rattle.up_mem_tree.specs.declared.kept.Kept.{Kept}
use Rattle.up_log_tree.specs.Fits.{IsLog}
use Rattle.up_log_tree.specs.Snapshots.{snapshots_of}
use Rattle.up_log_tree.proofs.Paths.{some_none}
use Rattle.up_mem_tree.proofs.Named.{named_paths-none}

no_path : (i : ℕ) (path : PathName) → path_in [] i ≡ Some path → ⊥
unfolding path_in
no_path i path is = some_none path (sym is)

no_item : {X : Type 0} (i : ℕ) (x : X) → slice_get [] i ≡ Some x → ⊥
no_item i x is = some_none x (sym is)

nothing_linked : (owner : List ℕ) → AreLinked owner [] []
nothing_linked owner = record {
  rising = refl;
  alone = λ i j path one two. absurd (no_path i path one);
  all = λ path there. absurd (false≢true there);
  only = λ i path is. absurd (no_path i path is);
  root = λ path is. absurd (no_path 0 path is);
  parents = λ i slot is. absurd (no_item i slot is);
  named = λ i slot is. absurd (no_item i slot is);
  closed = λ path there. absurd (false≢true there);
}

empty_log : (owner : List ℕ) → owns_snapshots owner ≡ false → IsLog owner []
empty_log owner plain = record { fitting = record { each = λ n rec is. absurd (no_item n rec is) }; plain = plain }

no_snaps : snapshots_of [] ≡ []
unfolding snapshots_of
no_snaps = refl

pub stands_empty : (kept : Kept) → owns_snapshots kept.owner ≡ false → kept.log.items ≡ [] → kept.before.items ≡ [] → kept.slots.items ≡ [] → kept.snaps.entries ≡ [] → Stands kept
stands_empty kept plain log before slots snaps =
    let none : slots_of kept ≡ [] = ap known_all slots in
    record {
      log = subst (IsLog kept.owner) (sym log) (empty_log kept.owner plain);
      linked = subst (λ paths. AreLinked kept.owner paths (slots_of kept)) (sym (ap named_paths log ∙ named_paths-none)) (subst (AreLinked kept.owner []) (sym none) (nothing_linked kept.owner));
      slots = λ i slot is. absurd (no_item i slot (sym (ap (λ l. slice_get l i) none) ∙ is));
      before = before ∙ ap befores_of (sym log);
      snaps = snaps ∙ sym (ap snapshots_of log ∙ no_snaps);
    }
