-- How a connection ends at a frame.
use Rattle.std.proofs.Common.{◌≡◌, ◌+◌, ℕ, List, take, drop, refl, Result, Ok, Err}
use Rattle.up_bytes.specs.Forms.{IsBytes}
use Rattle.up_lists.specs.Counts.{HasCause, StaysUnless}
use Rattle.up_lists.proofs.Causes.{HasCause-weaker}
use Rattle.up_frame.specs.Cutting.{IsWhole}
use Rattle.up_talk.specs.Around.{Around, Ends, Parties, World}
use Rattle.up_talk.specs.Incoming.{Held}
use Rattle.up_talk.specs.Limits.{longest}
use Rattle.up_talk.specs.Talks.{IsUnfit}
use Rattle.up_talk.specs.Transcripts.{Standing}
use Rattle.up_talk.specs.Turns.{Ending, Handled, SaysThis, Talking, end_at, standing_at, world}
use Rattle.up_talk.specs.declared.end.TalkEnd.TheVariants as talk
use Rattle.up_talk.specs.declared.fault.Stop.{Stop}
use Rattle.up_talk.specs.declared.fault.Stop.TheVariants as stop
use Rattle.up_talk.specs.declared.message.FromClient.{FromClient}
use Rattle.up_talk.specs.declared.stage.Stage.{Stage}
use Rattle.up_talk.proofs.TurnLemmas.{front_bye, front_failed, front_goes, front_refused, front_unfit, front_wanting, open_at, talking_ends}

-- no more frames are handled
abbrev pub failed : Stop → Result (Unit {0}) Stop
failed why = Err why

abbrev pub done : Unit {0} → Result (Unit {0}) Stop
done nothing = Ok nothing

module _ {A V C N Q R : Type 0} (who : Parties A V C N Q R) (joined : (a b c : A) → who.tied a b → who.tied b c → who.tied a c) where
  pub front_done : (a : World A V C N) (b c : Around A V C N) (at : Ends) (stage : Stage) (then : Standing) (incoming : Held) (n : ℕ) (f : FromClient Q) (out new : List ℕ) (nothing : Unit {0}) → IsBytes incoming.bytes → IsWhole longest incoming.bytes n
      → SaysThis who.asking who.fits (standing_at stage) (take n (drop 4 incoming.bytes)) f
      → StaysUnless (who.verifier_faults b.verifier) (who.verifier_faults c.verifier) (done nothing ≡ failed stop.HelperFault) → who.tied b.answerer c.answerer → Handled who (standing_at stage) b f out (done nothing) then c new
      → Talking who a (world b at) (standing_at stage) incoming out → Talking who a (world c at) then (record { handled = incoming.handled + (4 + n); bytes = drop (4 + n) incoming.bytes }) new
  front_done a b c at stage then incoming n f out new nothing fits whole says quiet tie handled t =
      front_goes who joined a b c at (standing_at stage) then incoming n f out new fits whole says.spelled says.fit (quiet.stays (λ e. absurd (cc))) tie handled t

  pub front_stops : (a : World A V C N) (b c : Around A V C N) (at : Ends) (stage : Stage) (then : Standing) (incoming : Held) (n : ℕ) (f : FromClient Q) (out new : List ℕ) (why : Stop) → IsBytes incoming.bytes → IsWhole longest incoming.bytes n
      → SaysThis who.asking who.fits (standing_at stage) (take n (drop 4 incoming.bytes)) f
      → HasCause (who.verifier_faults b.verifier) (who.verifier_faults c.verifier) (failed why ≡ failed stop.HelperFault)
      → StaysUnless (who.verifier_faults b.verifier) (who.verifier_faults c.verifier) (failed why ≡ failed stop.HelperFault)
      → who.tied b.answerer c.answerer → Handled who (standing_at stage) b f out (failed why) then c new
      → Talking who a (world b at) (standing_at stage) incoming out → Ending who a (world c at) new (end_at why incoming.handled)
  front_stops a b c at stage then incoming n f out new stop.Unfit fits whole says cause quiet tie handled t =
      let h = handled a.around t.came t.made t.transcript in
      front_unfit who joined a b c at (standing_at stage) incoming n out new fits whole (open_at stage) (says.unfit h.0) h.1 h.2 t
  front_stops a b c at stage then incoming n f out new stop.Bye fits whole says cause quiet tie handled t =
      let h = handled a.around t.came t.made t.transcript in
      front_bye who joined a b c at (standing_at stage) incoming n f out new fits whole says.spelled (open_at stage) h.0 h.1 h.2 h.3 t
  front_stops a b c at stage then incoming n f out new stop.NotSigned fits whole says cause quiet tie handled t =
      front_refused who joined a b c at (standing_at stage) then incoming n f out new fits whole says.spelled says.fit (quiet.stays (λ e. absurd (cc))) tie handled t
  front_stops a b c at stage then incoming n f out new stop.HelperFault fits whole says cause quiet tie handled t =
      front_failed who joined a b c at (standing_at stage) then incoming n f out new fits whole says.spelled says.fit (HasCause-weaker _ _ _ ⊥ cause (λ failed. absurd failed)) (cause.rose refl) tie handled t
  front_stops a b c at stage then incoming n f out new stop.OutOfMemory fits whole says cause quiet tie handled t =
      front_wanting who joined a b c at (standing_at stage) then incoming n f out new fits whole says.spelled says.fit (quiet.stays (λ e. absurd (cc))) tie handled t

  -- the payload is that of nothing that may come
  pub front_misspelled : (a : World A V C N) (b : Around A V C N) (at : Ends) (stage : Stage) (incoming : Held) (n : ℕ) (out : List ℕ) → IsBytes incoming.bytes → IsWhole longest incoming.bytes n
      → IsUnfit who.asking who.fits (standing_at stage) (take n (drop 4 incoming.bytes))
      → Talking who a (world b at) (standing_at stage) incoming out → Ending who a (world b at) out (talk.BadFrame incoming.handled)
  front_misspelled a b at stage incoming n out fits whole unfit t =
      front_unfit who joined a b b at (standing_at stage) incoming n out out fits whole (open_at stage) unfit refl refl t

  -- there was no memory to read it
  pub front_unread : (a : World A V C N) (b : Around A V C N) (at : Ends) (stage : Stage) (incoming : Held) (out : List ℕ) → Talking who a (world b at) (standing_at stage) incoming out → Ending who a (world b at) out talk.OutOfMemory
  front_unread a b at stage incoming out t = talking_ends who joined a b at (standing_at stage) incoming out talk.OutOfMemory t tt
