use Rattle.std.proofs.Common.{◌≡◌, ◌<◌, ◌≤◌, ◌+◌, ℕ, Bool, true, false, not, List, Some, None, length, ap, sym, subst, ◌∙◌, arith, refl}
use Rattle.std.proofs.lemmas.Bool.{eqb-true, eqb-false, false≢true}
use Rattle.std.proofs.lemmas.List.{length-map}
use Rattle.std.proofs.lemmas.Slice.Eq.{bytes_eq-Decides}
use Rattle.up_names.specs.PathNames.{PathName, cut}
use Rattle.up_mem_tree.specs.Kept.{paths_of, slots_of}
use Rattle.up_log_tree.specs.Orders.{has_path}
use Rattle.up_mem_tree.specs.Slots.{IsDeepest, IsIdOf, Known, known, path_in}
use Rattle.up_log_tree.proofs.Paths.{some_none, some_same}
use Rattle.up_mem_tree.proofs.Walks.{below_unnamed, first_root, none_of_others, none_without_slots}
use Rattle.up_mem_tree.proofs.kept.Kept.deepest.Goals as goal
use Rattle.up_mem_tree.proofs.kept.Kept.deepest.Goals.{then-is_empty-via-then-is_empty, then-is_empty-via-else-is_empty+then-ne}

nothing : (paths : List PathName) (slots : List Known) (path : PathName) → ((p : PathName) → p.owner ≡ path.owner → has_path paths p ≡ false) → IsDeepest paths slots path None
nothing paths slots path none = record { none = λ is m le. none (cut m path) refl; some = λ n id is. absurd (some_none (n, id) (sym is)) }

pub found_at : (paths : List PathName) (slots : List Known) (path : PathName) (n id : ℕ) → n ≤ length path.elements → path_in slots id ≡ Some (cut n path)
    → ((m : ℕ) → n < m → m ≤ length path.elements → has_path paths (cut m path) ≡ false) → IsDeepest paths slots path (Some (n, id))
found_at paths slots path n id le at rest = record {
  none = λ is m within. absurd (some_none (n, id) is);
  some = λ k j is.
      let same : (n, id) ≡ (k, j) = some_same (n, id) (k, j) is in
      let ns : n ≡ k = ap (λ (p : ℕ × ℕ). p.0) same in
      let ids : id ≡ j = ap (λ (p : ℕ × ℕ). p.1) same in (
        omega (arith, le, ns),
        ap (path_in slots) (sym ids) ∙ at ∙ ap (λ m. Some (cut m path)) ns,
        λ m lt within. rest m (omega (arith, lt, ns)) within,
      );
}

pub returns-then-is_empty : goal.returns-then-is_empty
returns-then-is_empty c =
    let self = c.args.self.now in
    elim c.then-is_empty.branch [
      | then-is_empty-via-then-is_empty w ↦
          nothing (paths_of self) (slots_of self) c.args.path.now (λ p same. none_without_slots self.owner (paths_of self) (slots_of self) c.requires.linked (omega (arith, length-map self.slots.items known, eqb-true _ 0 (sym c.is_empty.ensures ∙ w.if-is_empty.true), self.slots.ok.0)) p)
      | then-is_empty-via-else-is_empty+then-ne w ↦
          nothing (paths_of self) (slots_of self) c.args.path.now (λ p same. none_of_others self.owner (paths_of self) (slots_of self) c.requires.linked p
          (λ mine. false≢true (sym (ap not ((bytes_eq-Decides w.owner.result.now self.owner).1 (w.owner.ensures ∙ sym same ∙ mine))) ∙ sym w.ne.ensures ∙ w.if-ne.true)))
    ]

not_false : (b : Bool) → not b ≡ false → b ≡ true
not_false true h = refl
not_false false h = absurd (false≢true (sym h))

pub begin-start-requires : goal.begin-start-requires
begin-start-requires c =
    let self = c.args.self.now in
    first_root self.owner (paths_of self) (slots_of self) c.requires.linked c.args.path.now (omega (arith, length-map self.slots.items known, eqb-false _ 0 (sym c.is_empty.ensures ∙ c.if-is_empty.false), self.slots.ok.0))
    (sym c.owner.ensures ∙ (bytes_eq-Decides c.owner.result.now self.owner).0 (not_false _ (sym c.ne.ensures ∙ c.if-ne.false)))

pub loop-n-init : goal.loop-n-init
loop-n-init c = (c.begin-start.ensures.within, c.begin-start.ensures.at)

pub returns-in-None : goal.returns-in-None
returns-in-None c =
    let self = c.args.self.now in
    let path = c.args.path.now in
    let next : has_path (paths_of self) (cut (c.loop-n.n + 1) path) ≡ false = subst (IsIdOf (paths_of self) (slots_of self) (cut (c.loop-n.n + 1) path)) c.in-None.is c.step.ensures in
    found_at (paths_of self) (slots_of self) path c.loop-n.n c.loop-n.id c.loop-n.invariant.0 c.loop-n.invariant.1
    (λ m lt within. below_unnamed self.owner (paths_of self) (slots_of self) c.requires.linked path (c.loop-n.n + 1) m (omega (arith, lt)) within next)
