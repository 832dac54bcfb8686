-- What one call of a session is made of.
use Rattle.std.proofs.Common.{◌≡◌, ℕ, Bool, false, ◌++◌, sym, ap, subst, ◌∙◌}
use Rattle.up_calls.specs.Alike.{TellsNoMore}
use Rattle.up_calls.specs.Answered.{Leaves, LoadsInRounds, Risen}
use Rattle.up_calls.specs.Calls.{Asked}
use Rattle.up_calls.specs.Routes.{Question}
use Rattle.up_calls.specs.declared.event.Event.{Event}
use Rattle.up_peer.specs.declared.loader.Loader.{Ghosts}
use Rattle.up_shared.specs.Sharing.{HasFailed, HasLooked, SeatsLater, views_of}
use Rattle.up_shared.specs.declared.shared.Seats.{Seats}
use Rattle.up_shared.specs.declared.shared.Shared.{Shared}
use Rattle.up_storm.specs.Asked.{request_of}
use Rattle.up_storm.specs.Generator.{drawn_of, next_number}
use Rattle.up_storm.specs.Sessions.{HasAsked, IsAnswered, Session, is_fault}
use Rattle.up_storm.specs.Telling.{counted, told}

module _ {D L : Type 0} (loader : Ghosts L) (shared : Shared D) where
  pub answered : (a b : Seats D) (old new : L) (q : Question) (event : Event)
      → Asked loader shared.operator (views_of a) old q event (views_of b) new
      → Leaves (λ log n. HasLooked log n a b) (views_of a) q event
      → Risen (λ log. HasFailed log a b) (loader.faults old) (loader.faults new) q event
      → LoadsInRounds (views_of a) (views_of b) q event → TellsNoMore (views_of b) q event → SeatsLater a b → event.moment ≡ 0
      → IsAnswered loader shared a old q event b new
  answered a b old new q event asked looked risen rounds alike later moment = record {
    asked = asked;
    looked = looked;
    risen = risen;
    rounds = rounds;
    alike = alike;
    later = later;
    moment = moment;
  }

  -- v before the call, m once it was answered, w once it was noted
  pub asked_noted : (full : Bool) (k : ℕ) (v m w : Session D L) (event : Event)
      → IsAnswered loader shared v.seats v.peers (record { user = v.user; request = request_of k (drawn_of (next_number v.number)) }) event m.seats m.peers
      → m ≡ record v { seats = m.seats; peers = m.peers }
      → is_fault event.reply ≡ false
      → w.seats ≡ m.seats → w.peers ≡ m.peers → w.user ≡ m.user → w.number ≡ next_number v.number
      → w.text ≡ m.text ++ told full k (drawn_of (next_number v.number)) event
      → w.tally ≡ counted m.tally event.reply → w.failed ≡ m.failed
      → HasAsked loader shared full k v w
  asked_noted full k v m w event answered rest sound seats peers user number text tally failed =
      let q : Question = record { user = v.user; request = request_of k (drawn_of (next_number v.number)) } in
      record {
        event = event;
        answered = subst (λ (s : Seats D). IsAnswered loader shared v.seats v.peers q event s w.peers) (sym seats)
            (subst (λ (p : L). IsAnswered loader shared v.seats v.peers q event m.seats p) (sym peers) answered);
        sound = sound;
        user = user ∙ ap (λ (s : Session D L). s.user) rest;
        number = number;
        text = text ∙ ap (λ (s : Session D L). s.text ++ told full k (drawn_of (next_number v.number)) event) rest;
        tally = tally ∙ ap (λ (s : Session D L). counted s.tally event.reply) rest;
        failed = failed ∙ ap (λ (s : Session D L). s.failed) rest;
      }
