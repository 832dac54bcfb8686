-- A leader's caller, as who answers a connection.
use Rattle.std.proofs.Common.{◌≡◌, ℕ, ap, List, Some, None, refl, sym, ◌∙◌, option_map, position}
use Rattle.std.specs.Prelude.{◌≢◌}
use Rattle.up_calls.specs.Routes.{OwnStays}
use Rattle.up_calls.specs.Views.{own_of}
use Rattle.up_cell.specs.Known.{Known}
use Rattle.up_feed.specs.Feeding.{Feeds, PullsTree, leader_with}
use Rattle.up_feed_wire.specs.declared.ask.FeedAsk.{FeedAsk}
use Rattle.up_feed_wire.specs.declared.reply.FeedReply.TheVariants as replies
use Rattle.up_names.specs.Texts.{UserName}
use Rattle.up_shared.proofs.Pairs.{some_none}
use Rattle.up_shared.proofs.Places.{cell_none, cell_same, position-none, position_same}
use Rattle.up_shared.specs.Records.{LooksAtKeys}
use Rattle.up_shared.specs.Sharing.{AreSeats, cell_for, is_cell_of, is_seat_of, seat_for, tree_seen, views_of}
use Rattle.up_shared.specs.declared.shared.Seats.{Seats}
use Rattle.up_shared.specs.declared.shared.Shared.{Shared}
use Rattle.up_shared.specs.declared.shared.TreeSeat.{TreeSeat}

records_no_refusal : (records : List (List ℕ)) → replies.Records records ≢ replies.NoTree
records_no_refusal records same = cc

memory_no_refusal : replies.OutOfMemory ≢ replies.NoTree
memory_no_refusal same = cc

module _ {D : Type 0} where
  -- a look at the keys adds nothing to any log
  pub looks_own : (a b : Seats D) → LooksAtKeys a b → OwnStays None (views_of a) (views_of b)
  looks_own a b h = record {
    trees = λ owner differs. ap (λ xs. own_of (option_map tree_seen (seat_for xs.items owner))) h.trees;
    store = λ differs. ap (λ (k : Known _ _). k.own) h.store;
    keys = λ differs. h.own;
  }

  -- where there is a seat there is a tree
  has_tree : (owner : UserName) (shared : Shared D) (a : Seats D) (v : TreeSeat D) → AreSeats shared a → seat_for a.trees.items owner ≡ Some v → cell_for shared.trees.items owner ≢ None
  has_tree owner shared a v sits found none =
      some_none v.seat.cell (sym (ap (option_map (λ (place : TreeSeat D). place.seat.cell)) found) ∙ cell_same owner shared.trees.items a.trees.items sits.trees ∙ none)

  -- ---- what a question is answered

  pub no_tree : (shared : Shared D) (a : Seats D) (user : UserName) (ask : FeedAsk) (moment : ℕ) → AreSeats shared a → position (is_cell_of user) shared.trees.items ≡ None
      → Feeds (leader_with shared a) user ask moment replies.NoTree (leader_with shared a)
  no_tree shared a user ask moment sits at = record {
    came = (position-none (is_seat_of user) a.trees.items (sym (position_same user shared.trees.items a.trees.items sits.trees) ∙ at), refl);
    none = ((λ same. cell_none user shared.trees.items at), (λ none. refl));
    host = refl;
  }

  pub given : (shared : Shared D) (a b : Seats D) (user : UserName) (ask : FeedAsk) (moment : ℕ) (records : List (List ℕ)) → AreSeats shared a → PullsTree user ask.from a b (Some records)
      → Feeds (leader_with shared a) user ask moment (replies.Records records) (leader_with shared b)
  given shared a b user ask moment records sits pulls = record {
    came = pulls;
    none = ((λ same. absurd (records_no_refusal records same)), (λ none. absurd (has_tree user shared a pulls.pulled.v sits pulls.pulled.before none)));
    host = refl;
  }

  pub no_memory : (shared : Shared D) (a b : Seats D) (user : UserName) (ask : FeedAsk) (moment : ℕ) → AreSeats shared a → PullsTree user ask.from a b None
      → Feeds (leader_with shared a) user ask moment replies.OutOfMemory (leader_with shared b)
  no_memory shared a b user ask moment sits pulls = record {
    came = pulls;
    none = ((λ same. absurd (memory_no_refusal same)), (λ none. absurd (has_tree user shared a pulls.pulled.v sits pulls.pulled.before none)));
    host = refl;
  }
