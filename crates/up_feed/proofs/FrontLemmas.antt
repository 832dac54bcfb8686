-- The answers of one connection are over logs that never get shorter.
use Rattle.std.proofs.Common.{◌≡◌, List, [], ◌∷◌, length, refl, sym, ap, subst, ◌∙◌, Option, Some, None}
use Rattle.up_ends.specs.declared.nonces.Nonces as nonces
use Rattle.up_ends.specs.declared.verifier.Verifier as verifier
use Rattle.up_entry.specs.declared.records.Rec.{Rec}
use Rattle.up_feed.specs.Feeding.{FeedCame, Leader, leader_among}
use Rattle.up_feed.specs.Fronts.{AreFed, FeedsNeverFall, IsOver}
use Rattle.up_feed.specs.declared.talking.Timeless.{Timeless}
use Rattle.up_feed_wire.specs.declared.ask.FeedAsk.{FeedAsk}
use Rattle.up_feed_wire.specs.declared.reply.FeedReply.{FeedReply}
use Rattle.up_feed_wire.specs.declared.reply.FeedReply.TheVariants as replies
use Rattle.up_lists.specs.Begins.{Begins}
use Rattle.up_lists.specs.Runs.{Run}
use Rattle.up_lists.proofs.BeginsLemmas.{Begins-self, Begins-trans, length-Begins, take-Begins}
use Rattle.up_names.specs.Texts.{UserName}
use Rattle.up_shared.specs.Sharing.{seat_for}
use Rattle.up_shared.specs.declared.shared.Seats.{Seats}
use Rattle.up_shared.specs.declared.shared.TreeSeat.{TreeSeat}
use Rattle.up_talk.specs.Around.{Around}
use Rattle.up_talk.specs.Transcripts.{Answered}

module _ {D : Type 0} where
  -- what was seen stays seen
  abbrev Grown : Option (TreeSeat D) → Option (TreeSeat D) → Type 0
  Grown (Some v) (Some w) = Begins v.seat.seen w.seat.seen
  Grown None None = Unit {0}
  Grown (Some v) None = ⊥
  Grown None (Some w) = ⊥

  abbrev FedOn : Option (TreeSeat D) → Option (TreeSeat D) → List FeedAsk → List FeedReply → Type 0
  FedOn p q asks answers = AreFed p q asks answers × Grown p q

  fed_none : (p : Option (TreeSeat D)) → FedOn p p [] []
  fed_none (Some v) = (tt, Begins-self v.seat.seen)
  fed_none None = (tt, tt)

  -- a pull, and then the others
  pulled_on : (v w : TreeSeat D) (r : Option (TreeSeat D)) (ask : FeedAsk) (reply : FeedReply) (asks : List FeedAsk) (answers : List FeedReply)
      → Begins v.seat.seen w.seat.seen → IsOver w.seat.seen ask reply → FedOn (Some w) r asks answers → FedOn (Some v) r (ask ∷ asks) (reply ∷ answers)
  pulled_on v w (Some z) ask reply asks answers one over (rest, grown) = (
    (length w.seat.seen, (length-Begins one, length-Begins grown, subst (λ (log : List Rec). IsOver log ask reply) (sym (take-Begins grown)) over, rest)),
    Begins-trans one grown,
  )
  pulled_on v w None ask reply asks answers one over (rest, grown) = absurd rest

  pulled_at : (p q r : Option (TreeSeat D)) (v w : TreeSeat D) (ask : FeedAsk) (reply : FeedReply) (asks : List FeedAsk) (answers : List FeedReply) → p ≡ Some v → q ≡ Some w
      → Begins v.seat.seen w.seat.seen → IsOver w.seat.seen ask reply → FedOn q r asks answers → FedOn p r (ask ∷ asks) (reply ∷ answers)
  pulled_at p q r v w ask reply asks answers at then one over rest =
      subst (λ (x : Option (TreeSeat D)). FedOn x r (ask ∷ asks) (reply ∷ answers)) (sym at)
      (pulled_on v w r ask reply asks answers one over (subst (λ (x : Option (TreeSeat D)). FedOn x r asks answers) then rest))

  -- there is no such tree, before and after
  no_tree_on : (r : Option (TreeSeat D)) (ask : FeedAsk) (asks : List FeedAsk) (answers : List FeedReply) → FedOn None r asks answers → FedOn None r (ask ∷ asks) (replies.NoTree ∷ answers)
  no_tree_on None ask asks answers (rest, grown) = ((refl, rest), tt)
  no_tree_on (Some z) ask asks answers (rest, grown) = absurd rest

  no_tree_at : (p q r : Option (TreeSeat D)) (ask : FeedAsk) (asks : List FeedAsk) (answers : List FeedReply) → p ≡ None → q ≡ p → FedOn q r asks answers → FedOn p r (ask ∷ asks) (replies.NoTree ∷ answers)
  no_tree_at p q r ask asks answers none same rest =
      subst (λ (x : Option (TreeSeat D)). FedOn x r (ask ∷ asks) (replies.NoTree ∷ answers)) (sym none)
      (no_tree_on r ask asks answers (subst (λ (x : Option (TreeSeat D)). FedOn x r asks answers) (same ∙ none) rest))

  -- one answer, and then the others
  one_on : (user : UserName) (a b : Seats D) (r : Option (TreeSeat D)) (ask : FeedAsk) (reply : FeedReply) (asks : List FeedAsk) (answers : List FeedReply)
      → FeedCame a user ask.from reply b → FedOn (seat_for b.trees.items user) r asks answers → FedOn (seat_for a.trees.items user) r (ask ∷ asks) (reply ∷ answers)
  one_on user a b r ask (replies.Records records) asks answers came rest =
      pulled_at (seat_for a.trees.items user) (seat_for b.trees.items user) r came.pulled.v came.pulled.w ask (replies.Records records) asks answers
      came.pulled.before came.pulled.after came.pulled.is.seen came.pulled.is.batch rest
  one_on user a b r ask replies.NoTree asks answers came rest =
      no_tree_at (seat_for a.trees.items user) (seat_for b.trees.items user) r ask asks answers came.0 (ap (λ (s : Seats D). seat_for s.trees.items user) came.1) rest
  one_on user a b r ask replies.OutOfMemory asks answers came rest =
      pulled_at (seat_for a.trees.items user) (seat_for b.trees.items user) r came.pulled.v came.pulled.w ask replies.OutOfMemory asks answers
      came.pulled.before came.pulled.after came.pulled.is.seen tt rest

module _ {D V N : Type 0} (verifiers : verifier.Ghosts V) (drawn : nonces.Ghosts N) (user : UserName) where
  abbrev at : Around (Leader D) V Timeless N → Option (TreeSeat D)
  at a = seat_for a.answerer.seats.trees.items user

  fed_on : (a b : Around (Leader D) V Timeless N) (asks : List FeedAsk) (answers : List FeedReply) → Run (Answered (leader_among verifiers drawn) user) a asks answers b → FedOn (at a) (at b) asks answers
  fed_on a b [] [] run = subst (λ (x : Around (Leader D) V Timeless N). FedOn (at a) (at x) [] []) (sym run) (fed_none (at a))
  fed_on a b (ask ∷ asks) (reply ∷ answers) (next, (step, rest)) =
      one_on user a.answerer.seats next.answerer.seats (at b) ask reply asks answers step.asked.came (fed_on next b asks answers rest)
  fed_on a b [] (reply ∷ answers) run = absurd run
  fed_on a b (ask ∷ asks) [] run = absurd run

pub never_fall : {D V N : Type 0} (verifiers : verifier.Ghosts V) (drawn : nonces.Ghosts N) → FeedsNeverFall D verifiers drawn
never_fall verifiers drawn user a b asks answers run = (fed_on verifiers drawn user a b asks answers run).0
