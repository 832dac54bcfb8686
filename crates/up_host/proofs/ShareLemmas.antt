-- A host that is shared: its trees, one by one.
use Rattle.std.proofs.Common.{◌≡◌, List, [], ◌∷◌, ◌++◌, refl, sym, ap, subst, ◌∙◌, append_assoc, append-nil, Some}
use Rattle.up_cell.specs.Known.{newcomer}
use Rattle.up_host.specs.Shares.{AreShared, IsSharedTree}
use Rattle.up_host.specs.declared.held.Held.{Held}
use Rattle.up_journal.specs.declared.limits.Limits.{Limits}
use Rattle.up_names.specs.Texts.{UserName}
use Rattle.up_shared.specs.Sharing.{EachPair, IsTreeSeat}
use Rattle.up_shared.specs.declared.shared.TreeCell.{TreeCell}
use Rattle.up_shared.specs.declared.shared.TreeSeat.{TreeSeat}
use Rattle.up_tree.specs.States.{State, fixed_of}

module _ {D : Type 0} where
  -- one more
  shared_snoc : (trees : List (Held (State D))) (cells : List (TreeCell D)) (seats : List (TreeSeat D)) (held : Held (State D)) (cell : TreeCell D) (seat : TreeSeat D)
      → AreShared trees cells seats → IsSharedTree held.state cell seat → AreShared (trees ++ held ∷ []) (cells ++ cell ∷ []) (seats ++ seat ∷ [])
  shared_snoc [] [] [] held cell seat h one = (one, tt)
  shared_snoc [] [] (x ∷ xs) held cell seat h one = absurd h
  shared_snoc [] (c ∷ cs) xs held cell seat h one = absurd h
  shared_snoc (t ∷ ts) [] xs held cell seat h one = absurd h
  shared_snoc (t ∷ ts) (c ∷ cs) [] held cell seat h one = absurd h
  shared_snoc (t ∷ ts) (c ∷ cs) (x ∷ xs) held cell seat h one = (h.0, shared_snoc ts cs xs held cell seat h.1 one)

  -- so many were put into cells
  pub record Sharing (trees left : List (Held (State D))) (cells : List (TreeCell D)) (seats : List (TreeSeat D)) : Type 0 where
    pub done : List (Held (State D))
    pub whole : trees ≡ done ++ left
    pub shared : AreShared done cells seats

  pub sharing_none : (trees left : List (Held (State D))) (cells : List (TreeCell D)) (seats : List (TreeSeat D)) → left ≡ trees → cells ≡ [] → seats ≡ [] → Sharing trees left cells seats
  sharing_none trees left cells seats all none nor = record {
    done = [];
    whole = sym all;
    shared = subst (λ (cs : List (TreeCell D)). AreShared [] cs seats) (sym none) (subst (AreShared [] []) (sym nor) tt);
  }

  pub sharing_next : (trees left more : List (Held (State D))) (cells : List (TreeCell D)) (seats : List (TreeSeat D)) (held : Held (State D)) (cell : TreeCell D) (seat : TreeSeat D)
      → Sharing trees left cells seats → left ≡ held ∷ more → IsSharedTree held.state cell seat → Sharing trees more (cells ++ cell ∷ []) (seats ++ seat ∷ [])
  sharing_next trees left more cells seats held cell seat h is one = record {
    done = h.done ++ held ∷ [];
    whole = h.whole ∙ ap (λ (xs : List (Held (State D))). h.done ++ xs) is ∙ sym (append_assoc h.done (held ∷ []) more);
    shared = shared_snoc h.done cells seats held cell seat h.shared one;
  }

  pub sharing_ends : (trees left : List (Held (State D))) (cells : List (TreeCell D)) (seats : List (TreeSeat D)) → Sharing trees left cells seats → left ≡ [] → AreShared trees cells seats
  sharing_ends trees left cells seats h is =
      subst (λ (ts : List (Held (State D))). AreShared ts cells seats) (sym (h.whole ∙ ap (λ (xs : List (Held (State D))). h.done ++ xs) is ∙ append-nil h.done)) h.shared

  -- the seats are those of the cells
  pub shared_sits : (trees : List (Held (State D))) (cells : List (TreeCell D)) (seats : List (TreeSeat D)) → AreShared trees cells seats → EachPair IsTreeSeat cells seats
  shared_sits [] [] [] h = tt
  shared_sits [] [] (x ∷ xs) h = absurd h
  shared_sits [] (c ∷ cs) xs h = absurd h
  shared_sits (t ∷ ts) [] xs h = absurd h
  shared_sits (t ∷ ts) (c ∷ cs) [] h = absurd h
  shared_sits (t ∷ ts) (c ∷ cs) (x ∷ xs) h = (
    record {
      owner = h.0.seat_owner ∙ sym h.0.owner;
      cell = ap (λ k. k.cell) h.0.seat;
      fixed = ap (λ k. k.fixed) h.0.seat
          ∙ sym (ap (λ (o : UserName). Some (o, x.limits)) h.0.seat_owner ∙ ap (λ (l : Limits). Some (t.state.owner, l)) h.0.limits);
    },
    shared_sits ts cs xs h.1,
  )
