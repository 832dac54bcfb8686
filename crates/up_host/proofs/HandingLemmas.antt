-- The disks of a host, as they are handed back.
use Rattle.std.proofs.Common.{◌≡◌, ◌≤◌, ◌+◌, ℕ, List, [], ◌∷◌, ◌++◌, length, take, drop, refl, sym, ap, ◌∙◌, arith, add-one, append_assoc, length-append, Result}
use Rattle.up_blocks.specs.declared.record.BlockRecord.{BlockRecord}
use Rattle.up_disk.specs.declared.disk.Disk.{Ghosts}
use Rattle.up_host.proofs.OpeningLemmas.{as_many_disks, as_many_owners, opened_bases, turned}
use Rattle.up_host.specs.Alone.{IsHost}
use Rattle.up_host.specs.Opens.{OpensLogs, StopsAtTree, TakesOne, TakesTrees}
use Rattle.up_host.specs.declared.held.Held.{Held}
use Rattle.up_journal.specs.Logs.{LogState}
use Rattle.up_journal.specs.declared.fault.OpenFault.{OpenFault}
use Rattle.up_journal.specs.declared.limits.Limits.{Limits}
use Rattle.up_names.specs.Texts.{UserName}
use Rattle.up_tree.specs.States as tree
use Rattle.up_wire.specs.declared.keys.KeyRecord.{KeyRecord}

-- those of the opened trees and the refused one, and then the others
pub in_order : {X : Type 0} (front rest given back all : List X) (x : X) (n : ℕ) → given ≡ front ++ rest → back ≡ given ++ x ∷ [] → n ≡ length front → all ≡ drop n back ++ take n back → all ≡ rest ++ x ∷ front
in_order front rest given back all x n is then many turn =
    let whole : back ≡ front ++ (rest ++ x ∷ []) = then ∙ ap (λ xs. xs ++ x ∷ []) is ∙ append_assoc front rest (x ∷ []) in
    turn ∙ ap (λ xs. drop n xs ++ take n xs) whole ∙ ap (λ m. drop m (front ++ (rest ++ x ∷ [])) ++ take m (front ++ (rest ++ x ∷ []))) many
    ∙ turned front (rest ++ x ∷ []) ∙ append_assoc rest (x ∷ []) front

-- those of the trees, and two more
pub behind : {X : Type 0} (none trees given back all : List X) (x y : X) → none ≡ [] → given ≡ none ++ trees → back ≡ given ++ x ∷ [] → all ≡ back ++ y ∷ [] → all ≡ trees ++ x ∷ y ∷ []
behind none trees given back all x y empty is then last =
    last ∙ ap (λ xs. xs ++ y ∷ []) (then ∙ ap (λ xs. xs ++ x ∷ []) (is ∙ ap (λ xs. xs ++ trees) empty)) ∙ append_assoc trees (x ∷ []) (y ∷ [])

-- ---- how many there are

none_of : {X : Type 0} (xs : List X) → length xs ≡ 0 → xs ≡ []
none_of [] h = refl
none_of (x ∷ xs) h = absurd (omega (arith, h))

module _ {D : Type 0} (disks : Ghosts D) (limits : Limits) where
  -- the room for the disks of the trees and of the refused one
  pub stops_spare : (owners : List UserName) (given room : List D) (trees : List (Held (tree.State D))) (refused : OpenFault D) (before after : ℕ) → StopsAtTree disks limits owners given room trees refused
      → after + length room ≡ before + length given → after ≡ before + (length trees + 1)
  stops_spare owners given room trees refused before after stops kept =
      let many = as_many_disks disks limits stops.before stops.used trees stops.opened in
      let long : length given ≡ length stops.used + (length room + 1) = ap length stops.taken ∙ length-append stops.used (stops.disk ∷ room) ∙ ap (λ n. length stops.used + n) (sym (add-one (length room))) in
      omega (arith, many, long, kept)

  -- the room for the disks of the trees
  pub takes_spare : (owners : List UserName) (given room : List D) (trees : List (Held (tree.State D))) (before after : ℕ) → TakesTrees disks limits owners given room trees
      → after + length room ≡ before + length given → after ≡ before + length trees
  takes_spare owners given room trees before after takes kept =
      let many = as_many_disks disks limits owners takes.used trees takes.opened in
      let long : length given ≡ length takes.used + length room = ap length takes.taken ∙ length-append takes.used room in
      omega (arith, many, long, kept)

  -- two disks are left for the store and the keys
  pub two_left : (owners : List UserName) (given room : List D) (trees : List (Held (tree.State D))) → TakesTrees disks limits owners given room trees → length given ≡ length owners + 2 → length room ≡ 2
  two_left owners given room trees takes all =
      let many = as_many_disks disks limits owners takes.used trees takes.opened in
      let same = as_many_owners disks limits owners takes.used trees takes.opened in
      let long : length given ≡ length takes.used + length room = ap length takes.taken ∙ length-append takes.used room in
      omega (arith, many, same, long, all)

  pub one_left : {S : Type 0} (opens : D → S → Type 0) (refuses : D → OpenFault D → Type 0) (room rest : List D) (result : Result S (OpenFault D)) (n : ℕ) → TakesOne opens refuses room rest result → length room ≡ n + 1 → length rest ≡ n
  one_left opens refuses room rest result n takes many =
      let long : length room ≡ length rest + 1 = ap length takes.taken ∙ sym (add-one (length rest)) in
      omega (arith, long, many)

  pub none_left : {S : Type 0} (opens : D → S → Type 0) (refuses : D → OpenFault D → Type 0) (room rest : List D) (result : Result S (OpenFault D)) → TakesOne opens refuses room rest result → length room ≡ 1 → rest ≡ []
  none_left opens refuses room rest result takes many = none_of rest (one_left opens refuses room rest result 0 takes many)

  -- no disk is left behind those of the store and the keys
  pub last_is_none : {S T : Type 0} (owners : List UserName) (given room rest last : List D) (trees : List (Held (tree.State D))) (opens : D → S → Type 0) (refuses : D → OpenFault D → Type 0) (first : Result S (OpenFault D))
      (other_opens : D → T → Type 0) (other_refuses : D → OpenFault D → Type 0) (second : Result T (OpenFault D)) → TakesTrees disks limits owners given room trees → TakesOne opens refuses room rest first → TakesOne other_opens other_refuses rest last second
      → length given ≡ length owners + 2 → last ≡ []
  last_is_none owners given room rest last trees opens refuses first other_opens other_refuses second takes one two all =
      none_left other_opens other_refuses rest last second two (one_left opens refuses room rest first 1 one (two_left owners given room trees takes all))

  -- no base is past the end of its log
  pub bases : (owners : List UserName) (given : List D) (trees : List (Held (tree.State D))) (store : Held (LogState D BlockRecord)) (key_log : Held (LogState D KeyRecord)) (spare : ℕ) → OpensLogs disks limits owners given trees store key_log
      → length trees + 2 ≤ spare → IsHost trees store key_log spare
  bases owners given trees store key_log spare opens room =
      let of_store = opens.store_is.base_is in
      let of_keys = opens.keys_are.base_is in
      record {
        trees_base = opened_bases disks limits owners opens.of_trees trees opens.trees_are;
        store_base = omega (arith, of_store);
        keys_base = omega (arith, of_keys);
        room = room;
      }
