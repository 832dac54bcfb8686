-- What stays of a host over several calls.
use Rattle.std.proofs.Common.{◌≡◌, ◌⊎◌, ℕ, zero, suc, List, [], ◌∷◌, length, Some, inl, inr, refl, sym, ap, subst, ◌∙◌, arith}
use Rattle.std.specs.Prelude.{slice_get}
use Rattle.up_disk.specs.declared.disk.Disk.{Ghosts}
use Rattle.up_lists.proofs.Causes.{Rose-after, Rose-before}
use Rattle.up_lists.specs.Counts.{Rose}
use Rattle.up_host.specs.Alone.{HostState}
use Rattle.up_calls.specs.Settled.{KeepsSettled}
use Rattle.up_host.specs.Settled.{StaysSettled, owner_of}
use Rattle.up_host.specs.declared.held.Held.{Held}
use Rattle.up_journal.specs.Logs.{IsSettledLog, LogState}
use Rattle.up_sessions.proofs.KeptLemmas.{as_many}
use Rattle.up_sessions.specs.Asking.{StaysHost}
use Rattle.up_tree.specs.States.{State, over_journal}

-- a list that is as long has an item there too
there_too : {X : Type 0} (xs ys : List X) (i : ℕ) (x : X) → slice_get xs i ≡ Some x → length ys ≡ length xs → (y : X) × (slice_get ys i ≡ Some y)
there_too [] ys i x is same = absurd (cc)
there_too (z ∷ xs) [] i x is same = absurd (omega (arith, same))
there_too (z ∷ xs) (y ∷ ys) zero x is same = (y, refl)
there_too (z ∷ xs) (y ∷ ys) (suc i) x is same = there_too xs ys i x is (omega (arith, same))

module _ {D : Type 0} (disks : Ghosts D) where
  keeps_none : {R : Type 0} (log : LogState D R) → KeepsSettled disks log log
  keeps_none log = record { settled = λ is. inl is; told = refl; later = omega arith }

  keeps_then : {R : Type 0} (a b c : LogState D R) → KeepsSettled disks a b → KeepsSettled disks b c → KeepsSettled disks a c
  keeps_then a b c one two = record {
    settled = λ is. then_settled (one.settled is);
    told = two.told ∙ one.told;
    later = let x = one.later in let y = two.later in omega (arith, x, y);
  }
    where
      last : IsSettledLog c ⊎ Rose (disks.faults b.disk) (disks.faults c.disk) → IsSettledLog c ⊎ Rose (disks.faults a.disk) (disks.faults c.disk)
      last (inl is) = inl is
      last (inr rose) = inr (Rose-after (disks.faults a.disk) (disks.faults b.disk) (disks.faults c.disk) one.later two.later rose)

      then_settled : IsSettledLog b ⊎ Rose (disks.faults a.disk) (disks.faults b.disk) → IsSettledLog c ⊎ Rose (disks.faults a.disk) (disks.faults c.disk)
      then_settled (inl is) = last (two.settled is)
      then_settled (inr rose) = inr (Rose-before (disks.faults a.disk) (disks.faults b.disk) (disks.faults c.disk) rose two.later)

  settled_none : (host : HostState D) → StaysSettled disks host host
  settled_none host = record {
    owners = refl;
    trees = λ i one other at also. keeps_same (over_journal one.state) (over_journal other.state) (ap (λ (h : Held (State D)). over_journal h.state) (let e : one ≡ other = same_item one other (sym at ∙ also) in e));
    store = keeps_none host.store.state;
    keys = keeps_none host.keys.state;
  }
    where
      same_item : (x y : Held (State D)) → Some x ≡ Some y → x ≡ y
      same_item x y is = cc

      keeps_same : {R : Type 0} (a b : LogState D R) → a ≡ b → KeepsSettled disks a b
      keeps_same {R} a b is = subst (λ (x : LogState D R). KeepsSettled disks a x) is (keeps_none a)

  settled_then : (a b c : HostState D) → StaysSettled disks a b → StaysSettled disks b c → StaysSettled disks a c
  settled_then a b c one two = record {
    owners = two.owners ∙ one.owners;
    trees = λ i first last at also.
        let mid = there_too a.trees b.trees i first at (as_many owner_of a.trees b.trees one.owners) in
        keeps_then (over_journal first.state) (over_journal mid.0.state) (over_journal last.state) (one.trees i first mid.0 at mid.1) (two.trees i mid.0 last mid.1 also);
    store = keeps_then a.store.state b.store.state c.store.state one.store two.store;
    keys = keeps_then a.keys.state b.keys.state c.keys.state one.keys two.keys;
  }

  pub stays_none : (host : HostState D) → StaysHost disks host host
  stays_none host = record { name_is = refl; operator_is = refl; settled = settled_none host }

  pub stays_then : (a b c : HostState D) → StaysHost disks a b → StaysHost disks b c → StaysHost disks a c
  stays_then a b c one two = record { name_is = two.name_is ∙ one.name_is; operator_is = two.operator_is ∙ one.operator_is; settled = settled_then a b c one.settled two.settled }
