-- What a pull gives, by the log that is told.
use Rattle.std.proofs.Common.{◌≡◌, ◌≤◌, ℕ, true, List, length, sym, ap, subst, ◌∙◌, option_map, position, slice_get, Option, Some}
use Rattle.std.specs.Prelude.{IfSome, is_some}
use Rattle.std.proofs.lemmas.List.Folds.{find_at}
use Rattle.std.proofs.lemmas.Slice.Eq.{bytes_eq-Decides}
use Rattle.up_entry.specs.Spelling as spelling
use Rattle.up_entry.specs.declared.records.Rec.{Rec}
use Rattle.up_feed.specs.Feeding.{PullsTree, fed_log, owner_at, owner_by, texts_of}
use Rattle.up_follow.proofs.BatchLemmas.{batch_taken, few_taken}
use Rattle.up_follow.specs.Feeds.{IsBatch, OnlyLonger, batch_limit}
use Rattle.up_follow.specs.ListLogs.{batch_of}
use Rattle.up_lists.specs.Begins.{Begins}
use Rattle.up_names.specs.Texts.{UserName}
use Rattle.up_shared.proofs.Pairs.{map_append}
use Rattle.up_shared.proofs.Places.{cell_at, found_passes, position-place, some_at}
use Rattle.up_shared.specs.Sharing.{cell_for, is_cell_of}
use Rattle.up_shared.specs.declared.shared.Seats.{Seats}
use Rattle.up_shared.specs.declared.shared.Shared.{Shared}
use Rattle.up_shared.specs.declared.shared.TreeCell.{TreeCell}
use Rattle.up_shared.specs.declared.shared.TreeSeat.{TreeSeat}

-- the bytes of a log that begins with another begin with those of that
texts_begin : (front log : List Rec) → Begins front log → Begins (texts_of front) (texts_of log)
texts_begin front log begins = record { rest = texts_of begins.rest; whole = sym (map_append spelling.rec front begins.rest) ∙ ap texts_of begins.whole }

told_by : (p : Option (List (List ℕ))) (log : List (List ℕ)) (P : List (List ℕ) → Type 0) → p ≡ Some log → P log → IfSome p P
told_by p log P is holds = subst (λ q. IfSome q P) (sym is) holds

longer_by : (p q : Option (List (List ℕ))) (front log : List (List ℕ)) → p ≡ Some front → q ≡ Some log → Begins front log → OnlyLonger p q
longer_by p q front log one two begins = subst (λ x. OnlyLonger x q) (sym one) (subst (λ x. OnlyLonger (Some front) x) (sym two) begins)

module _ {D : Type 0} where
  -- the owner at a place where its tree is
  pub owner_is : (shared : Shared D) (owner : UserName) (place : ℕ) → position (is_cell_of owner) shared.trees.items ≡ Some place → owner_at shared place ≡ owner
  owner_is shared owner place at =
      let cells = shared.trees.items in
      let test = is_cell_of owner in
      let where_is = position-place test cells place at in
      let there = some_at cells place where_is.1 in
      let passes = found_passes test cells there.0 (find_at test cells ∙ ap (slice_get cells) (sym where_is.0) ∙ there.1) in
      ap (λ (tree : Option (TreeCell D)). owner_by (option_map (λ one. one.owner) tree)) there.1 ∙ (bytes_eq-Decides there.0.owner owner).0 passes

  pub has_cell : (shared : Shared D) (owner : UserName) (place : ℕ) → position (is_cell_of owner) shared.trees.items ≡ Some place → is_some (cell_for shared.trees.items owner) ≡ true
  has_cell shared owner place at =
      let there = some_at shared.trees.items place (position-place (is_cell_of owner) shared.trees.items place at).1 in
      ap is_some (cell_at owner shared.trees.items place there.0 at there.1)

  pub owner_first : (shared : Shared D) (owner : UserName) (place : ℕ) → position (is_cell_of owner) shared.trees.items ≡ Some place → position (is_cell_of (owner_at shared place)) shared.trees.items ≡ Some place
  owner_first shared owner place at = ap (λ (o : UserName). position (is_cell_of o) shared.trees.items) (owner_is shared owner place at) ∙ at

module _ {D : Type 0} (owner : UserName) (from : ℕ) (a b : Seats D) (batch : Option (List (List ℕ))) (p : PullsTree owner from a b batch) where
  abbrev tells : TreeSeat D → List (List ℕ)
  tells place = texts_of place.seat.seen

  pub now_told : fed_log b owner ≡ Some (tells p.pulled.w)
  now_told = ap (option_map tells) p.pulled.after

  pub is_told : is_some (fed_log b owner) ≡ true
  is_told = ap is_some now_told

  pub longer : OnlyLonger (fed_log a owner) (fed_log b owner)
  longer = longer_by (fed_log a owner) (fed_log b owner) (tells p.pulled.v) (tells p.pulled.w) (ap (option_map tells) p.pulled.before) now_told (texts_begin p.pulled.v.seat.seen p.pulled.w.seat.seen p.pulled.is.seen)

  module _ (given : List (List ℕ)) (came : batch ≡ Some given) where
    given_is : given ≡ batch_of from (tells p.pulled.w)
    given_is = subst (λ x. IfSome x (λ one. one ≡ batch_of from (tells p.pulled.w))) came p.pulled.is.batch

    pub exact : IfSome (fed_log b owner) (λ log. given ≡ batch_of from log)
    exact = told_by (fed_log b owner) (tells p.pulled.w) (λ log. given ≡ batch_of from log) now_told given_is

    pub few : length given ≤ batch_limit
    few = subst (λ (one : List (List ℕ)). length one ≤ batch_limit) (sym given_is) (few_taken from (tells p.pulled.w))

    pub is_batch : IfSome (fed_log b owner) (IsBatch from given)
    is_batch = told_by (fed_log b owner) (tells p.pulled.w) (IsBatch from given) now_told (subst (λ (one : List (List ℕ)). IsBatch from one (tells p.pulled.w)) (sym given_is) (batch_taken from (tells p.pulled.w)))
