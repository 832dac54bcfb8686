-- How a connection goes on by a frame, and how it ends at one.
use Rattle.std.proofs.Common.{◌≡◌, ◌⊎◌, ◌+◌, ℕ, true, false, List, [], ◌∷◌, ◌++◌, length, take, drop, refl, sym, ap, subst, ◌∙◌, inl, inr, append_assoc, append-nil, arith, Option, Ok, Err}
use Rattle.std.specs.Io.KnownBytes.{Consumes}
use Rattle.up_bytes.specs.Forms.{IsBytes}
use Rattle.up_ends.specs.Writing.{Going}
use Rattle.up_lists.specs.Counts.{HasCause, Rose, count_after}
use Rattle.up_frame.specs.Cutting.{IsWhole}
use Rattle.up_frame.specs.Stream.{IsBad, frame}
use Rattle.up_talk.specs.Around.{Around, Ends, Parties, World}
use Rattle.up_talk.specs.Incoming.{Held}
use Rattle.up_talk.specs.Limits.{longest}
use Rattle.up_talk.specs.Messages.{Fits, ToClient, payload_from, payload_to}
use Rattle.up_talk.specs.Talks.{Begins, CountsSame, CountsStay, EndsBy, HasRead, IsUnfit, SaysBye, bytes_from, bytes_to, is_cut, is_open}
use Rattle.up_talk.specs.Transcripts.{Standing, Transcript, may_come}
use Rattle.up_talk.specs.Turns.{Ending, Handled, Talking, standing_at, world}
use Rattle.up_talk.specs.declared.end.TalkEnd.{TalkEnd}
use Rattle.up_talk.specs.declared.end.TalkEnd.TheVariants as talk
use Rattle.up_talk.specs.declared.fault.Stop.TheVariants as stop
use Rattle.up_talk.specs.declared.message.FromClient.{FromClient}
use Rattle.up_talk.specs.declared.message.FromClient.TheVariants as says
use Rattle.up_talk.specs.declared.stage.Stage.{Stage}
use Rattle.up_talk.specs.declared.stage.Stage.TheVariants as stages
use Rattle.up_talk.proofs.FrameLemmas.{all_more, frames_more, front_fits, front_off, moved, moved_place}

-- at each stage a connection goes on
pub open_at : (stage : Stage) → is_open (standing_at stage) ≡ true
open_at stages.Unsaid = refl
open_at (stages.Challenged signing) = refl
open_at (stages.Signed signing) = refl

pub going_nil : {old now : Option (List ℕ)} {all : List ℕ} (out : List ℕ) → Going old now out all → Going old now (out ++ []) all
going_nil {old} {now} {all} out g = subst (λ (xs : List ℕ). Going old now xs all) (sym (append-nil out)) g

-- a count that is as before
pub same_cause : (before now : ℕ) → now ≡ before → HasCause before now ⊥
same_cause before now same = record { later = omega (arith, same); bounded = λ low. omega (arith, same, low); rose = λ failed. absurd failed }

module _ {A V C N Q R : Type 0} (who : Parties A V C N Q R) where
  -- a frame more is to be written
  pub going_puts : {old now : Option (List ℕ)} (out new : List ℕ) (made : List (ToClient R)) (sent : ToClient R) → Going old now out (bytes_to who made) → new ≡ out ++ frame (payload_to who.answering sent)
      → Going old now new (bytes_to who (made ++ sent ∷ []))
  going_puts out new made sent g puts =
      let one = frame (payload_to who.answering sent) in
      record {
        front = g.front;
        written = g.written;
        whole = ap (λ (t : List ℕ). g.front ++ t) puts ∙ sym (append_assoc g.front out one) ∙ ap (λ (t : List ℕ). t ++ one) g.whole ∙ sym (frames_more (payload_to who.answering) made sent);
      }

  -- ---- counts

  pub counts_then : (a : World A V C N) (b c : Around A V C N) (at : Ends) → CountsSame who a (world b at) → who.verifier_faults c.verifier ≡ who.verifier_faults b.verifier → CountsSame who a (world c at)
  counts_then a b c at stay same = record { reads = stay.reads; writes = stay.writes; verdicts = same ∙ stay.verdicts }

  -- those that are as before stay, however it ends
  pub counts_stay : (a b : World A V C N) (end : TalkEnd) → CountsSame who a b → CountsStay who a b end
  counts_stay a b end same = record { reads = same_cause _ _ same.reads; writes = same_cause _ _ same.writes; verdicts = same_cause _ _ same.verdicts; quiet = λ fine. same }

  -- the verifier's rose
  pub counts_judged : (a : World A V C N) (b c : Around A V C N) (at : Ends) → CountsSame who a (world b at) → HasCause (who.verifier_faults b.verifier) (who.verifier_faults c.verifier) ⊥ → CountsStay who a (world c at) talk.HelperFault
  counts_judged a b c at same cause = record {
    reads = same_cause _ _ same.reads;
    writes = same_cause _ _ same.writes;
    verdicts = subst (λ (n : ℕ). HasCause n (who.verifier_faults c.verifier) ⊥) same.verdicts cause;
    quiet = λ fine. absurd (cc);
  }

  -- ---- the frame at the front came

  reads_moved : (a : World A V C N) (b c : Around A V C N) (at : Ends) (n : ℕ) (came : List (FromClient Q)) (f : FromClient Q) (bytes : List ℕ) → IsBytes bytes → IsWhole longest bytes n → payload_from who.asking f ≡ take n (drop 4 bytes) → Fits who.fits f
      → HasRead who a (world b at) came bytes → HasRead who a (world c at) (came ++ f ∷ []) (drop (4 + n) bytes)
  reads_moved a b c at n came f bytes fits whole is fine read =
      let same = moved (payload_from who.asking) longest n came f bytes fits whole is in
      record {
        read = subst (λ (xs : List ℕ). Consumes a.ends.left at.left xs) same read.read;
        given = read.given ∙ ap (λ (xs : List ℕ). count_after a.ends.given (length xs)) same;
        fits = all_more _ came f read.fits (fine, front_fits longest n bytes (payload_from who.asking f) fits whole is);
      }

  -- ---- one frame

  module _ (joined : (a b c : A) → who.tied a b → who.tied b c → who.tied a c) where
    pub front_goes : (a : World A V C N) (b c : Around A V C N) (at : Ends) (standing then : Standing) (incoming : Held) (n : ℕ) (f : FromClient Q) (out new : List ℕ) → IsBytes incoming.bytes → IsWhole longest incoming.bytes n
        → payload_from who.asking f ≡ take n (drop 4 incoming.bytes) → Fits who.fits f
        → who.verifier_faults c.verifier ≡ who.verifier_faults b.verifier → who.tied b.answerer c.answerer → Handled who standing b f out (Ok tt) then c new
        → Talking who a (world b at) standing incoming out → Talking who a (world c at) then (record { handled = incoming.handled + (4 + n); bytes = drop (4 + n) incoming.bytes }) new
    front_goes a b c at standing then incoming n f out new fits whole is fine quiet tie handled t =
        let h = handled a.around t.came t.made t.transcript in
        record {
          came = t.came ++ f ∷ [];
          made = t.made ++ h.0 ∷ [];
          transcript = h.1.0;
          has_read = reads_moved a b c at n t.came f incoming.bytes fits whole is fine t.has_read;
          place = ap (λ (k : ℕ). k + (4 + n)) t.place ∙ moved_place (payload_from who.asking) longest n (length (bytes_from who t.came)) t.came f incoming.bytes whole is refl;
          going = going_puts out new t.made h.0 t.going h.1.1;
          counts = counts_then a b c at t.counts quiet;
          tie = joined a.around.answerer b.answerer c.answerer t.tie tie;
        }

    -- it ends before the frame at the front
    pub talking_ends : (a : World A V C N) (b : Around A V C N) (at : Ends) (standing : Standing) (incoming : Held) (out : List ℕ) (end : TalkEnd) (t : Talking who a (world b at) standing incoming out)
        → EndsBy who a (world b at) standing (bytes_from who t.came) incoming.bytes end → Ending who a (world b at) out end
    talking_ends a b at standing incoming out end t ends = record {
      came = t.came;
      made = t.made;
      standing = standing;
      rest = incoming.bytes;
      transcript = t.transcript;
      has_read = t.has_read;
      ends = ends;
      lost = [];
      kept = λ whole. refl;
      going = going_nil out t.going;
      counts = counts_stay a (world b at) end t.counts;
      tie = t.tie;
    }

    -- the same where nothing was asked since
    ends_same : (a : World A V C N) (b c : Around A V C N) (at : Ends) (out new : List ℕ) (end : TalkEnd) → c ≡ b → new ≡ out → Ending who a (world b at) out end → Ending who a (world c at) new end
    ends_same a b c at out new end same unwritten e = subst (λ (x : Around A V C N). Ending who a (world x at) new end) (sym same) (subst (λ (o : List ℕ). Ending who a (world b at) o end) (sym unwritten) e)

    -- no frame begins here that may come
    pub front_unfit : (a : World A V C N) (b c : Around A V C N) (at : Ends) (standing : Standing) (incoming : Held) (n : ℕ) (out new : List ℕ) → IsBytes incoming.bytes → IsWhole longest incoming.bytes n → is_open standing ≡ true
        → IsUnfit who.asking who.fits standing (take n (drop 4 incoming.bytes)) → c ≡ b → new ≡ out → Talking who a (world b at) standing incoming out → Ending who a (world c at) new (talk.BadFrame incoming.handled)
    front_unfit a b c at standing incoming n out new fits whole goes unfit same unwritten t =
        let payload = take n (drop 4 incoming.bytes) in
        let begins : Begins incoming.bytes payload = record { more = drop (4 + n) incoming.bytes; whole = sym (front_off longest n incoming.bytes payload fits whole refl); fits = front_fits longest n incoming.bytes payload fits whole refl } in
        ends_same a b c at out new (talk.BadFrame incoming.handled) same unwritten (talking_ends a b at standing incoming out (talk.BadFrame incoming.handled) t (goes, inr (payload, (begins, unfit)), t.place))

    pub front_bad : (a : World A V C N) (b : Around A V C N) (at : Ends) (standing : Standing) (incoming : Held) (out : List ℕ) → IsBad longest incoming.bytes → is_open standing ≡ true
        → Talking who a (world b at) standing incoming out → Ending who a (world b at) out (talk.BadFrame incoming.handled)
    front_bad a b at standing incoming out bad goes t = talking_ends a b at standing incoming out (talk.BadFrame incoming.handled) t (goes, inl bad, t.place)

    pub front_bye : (a : World A V C N) (b c : Around A V C N) (at : Ends) (standing : Standing) (incoming : Held) (n : ℕ) (f : FromClient Q) (out new : List ℕ) → IsBytes incoming.bytes → IsWhole longest incoming.bytes n
        → payload_from who.asking f ≡ take n (drop 4 incoming.bytes) → is_open standing ≡ true
        → f ≡ says.Bye → may_come standing f ≡ true → c ≡ b → new ≡ out → Talking who a (world b at) standing incoming out → Ending who a (world c at) new talk.Ended
    front_bye a b c at standing incoming n f out new fits whole is goes bye may same unwritten t =
        let payload = payload_from who.asking says.Bye in
        let spelled : payload ≡ take n (drop 4 incoming.bytes) = ap (payload_from who.asking) (sym bye) ∙ is in
        let says_so : SaysBye who standing incoming.bytes = record {
          may = ap (may_come standing) (sym bye) ∙ may;
          begins = record { more = drop (4 + n) incoming.bytes; whole = sym (front_off longest n incoming.bytes payload fits whole spelled); fits = front_fits longest n incoming.bytes payload fits whole spelled };
        } in
        ends_same a b c at out new talk.Ended same unwritten (talking_ends a b at standing incoming out talk.Ended t (goes, inr says_so))

    -- it ends behind the frame
    moved_ends : (a : World A V C N) (b c : Around A V C N) (at : Ends) (standing last : Standing) (incoming : Held) (n : ℕ) (f : FromClient Q) (out new lost : List ℕ) (made : List (ToClient R)) (end : TalkEnd) → IsBytes incoming.bytes → IsWhole longest incoming.bytes n
        → payload_from who.asking f ≡ take n (drop 4 incoming.bytes) → Fits who.fits f
        → who.tied b.answerer c.answerer
        → (t : Talking who a (world b at) standing incoming out) → CountsStay who a (world c at) end → Transcript who a.around last (t.came ++ f ∷ []) made c → (is_cut end ≡ false → lost ≡ [])
        → Going a.ends.held at.held (new ++ lost) (bytes_to who made)
        → EndsBy who a (world c at) last (bytes_from who (t.came ++ f ∷ [])) (drop (4 + n) incoming.bytes) end → Ending who a (world c at) new end
    moved_ends a b c at standing last incoming n f out new lost made end fits whole is fine tie t counts transcript kept going ends = record {
      came = t.came ++ f ∷ [];
      made = made;
      standing = last;
      rest = drop (4 + n) incoming.bytes;
      transcript = transcript;
      has_read = reads_moved a b c at n t.came f incoming.bytes fits whole is fine t.has_read;
      ends = ends;
      lost = lost;
      kept = kept;
      going = going;
      counts = counts;
      tie = joined a.around.answerer b.answerer c.answerer t.tie tie;
    }

    pub front_refused : (a : World A V C N) (b c : Around A V C N) (at : Ends) (standing then : Standing) (incoming : Held) (n : ℕ) (f : FromClient Q) (out new : List ℕ) → IsBytes incoming.bytes → IsWhole longest incoming.bytes n
        → payload_from who.asking f ≡ take n (drop 4 incoming.bytes) → Fits who.fits f
        → who.verifier_faults c.verifier ≡ who.verifier_faults b.verifier → who.tied b.answerer c.answerer → Handled who standing b f out (Err stop.NotSigned) then c new
        → Talking who a (world b at) standing incoming out → Ending who a (world c at) new talk.NotSigned
    front_refused a b c at standing then incoming n f out new fits whole is fine quiet tie handled t =
        let h = handled a.around t.came t.made t.transcript in
        moved_ends a b c at standing Standing.Refused incoming n f out new [] (t.made ++ ToClient.NotSigned ∷ []) talk.NotSigned fits whole is fine tie t
        (counts_stay a (world c at) talk.NotSigned (counts_then a b c at t.counts quiet)) h.0 (λ uncut. refl) (going_nil new (going_puts out new t.made ToClient.NotSigned t.going h.1)) refl

    pub front_failed : (a : World A V C N) (b c : Around A V C N) (at : Ends) (standing then : Standing) (incoming : Held) (n : ℕ) (f : FromClient Q) (out new : List ℕ) → IsBytes incoming.bytes → IsWhole longest incoming.bytes n
        → payload_from who.asking f ≡ take n (drop 4 incoming.bytes) → Fits who.fits f
        → HasCause (who.verifier_faults b.verifier) (who.verifier_faults c.verifier) ⊥ → Rose (who.verifier_faults b.verifier) (who.verifier_faults c.verifier) → who.tied b.answerer c.answerer
        → Handled who standing b f out (Err stop.HelperFault) then c new → Talking who a (world b at) standing incoming out → Ending who a (world c at) new talk.HelperFault
    front_failed a b c at standing then incoming n f out new fits whole is fine cause rose tie handled t =
        let h = handled a.around t.came t.made t.transcript in
        moved_ends a b c at standing Standing.Failed incoming n f out new [] t.made talk.HelperFault fits whole is fine tie t
        (counts_judged a b c at t.counts cause) h.0 (λ uncut. refl)
        (going_nil new (subst (λ (o : List ℕ). Going a.ends.held at.held o (bytes_to who t.made)) (sym h.1) t.going))
        (refl, subst (λ (k : ℕ). Rose k (who.verifier_faults c.verifier)) t.counts.verdicts rose)

    pub front_wanting : (a : World A V C N) (b c : Around A V C N) (at : Ends) (standing then : Standing) (incoming : Held) (n : ℕ) (f : FromClient Q) (out new : List ℕ) → IsBytes incoming.bytes → IsWhole longest incoming.bytes n
        → payload_from who.asking f ≡ take n (drop 4 incoming.bytes) → Fits who.fits f
        → who.verifier_faults c.verifier ≡ who.verifier_faults b.verifier → who.tied b.answerer c.answerer → Handled who standing b f out (Err stop.OutOfMemory) then c new
        → Talking who a (world b at) standing incoming out → Ending who a (world c at) new talk.OutOfMemory
    front_wanting a b c at standing then incoming n f out new fits whole is fine quiet tie handled t =
        let h = handled a.around t.came t.made t.transcript in by h.0 h.1
      where
        by : new ≡ out → (c ≡ b) ⊎ ((last : Standing) × ((sent : ToClient R) × Transcript who a.around last (t.came ++ f ∷ []) (t.made ++ sent ∷ []) c)) → Ending who a (world c at) new talk.OutOfMemory
        by unwritten (inl same) = ends_same a b c at out new talk.OutOfMemory same unwritten (talking_ends a b at standing incoming out talk.OutOfMemory t tt)
        by unwritten (inr more) =
            moved_ends a b c at standing more.0 incoming n f out new (frame (payload_to who.answering more.1.0)) (t.made ++ more.1.0 ∷ []) talk.OutOfMemory fits whole is fine tie t
            (counts_stay a (world c at) talk.OutOfMemory (counts_then a b c at t.counts quiet)) more.1.1 (λ uncut. absurd (cc))
            (going_puts out (new ++ frame (payload_to who.answering more.1.0)) t.made more.1.0 t.going (ap (λ (o : List ℕ). o ++ frame (payload_to who.answering more.1.0)) unwritten)) tt
