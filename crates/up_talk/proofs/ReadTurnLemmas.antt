-- A turn of a connection: a read, all frames that are whole, and a write.
use Rattle.std.proofs.Common.{◌≡◌, ◌+◌, ℕ, List, [], length, sym, ap, subst, ◌∙◌, length-append, arith, inl, inr, Option, Result, Ok, Err, OnOk}
use Rattle.std.specs.Io.KnownBytes.{Appends}
use Rattle.up_ends.specs.Writing.{WritesPart}
use Rattle.up_ends.specs.declared.ends.Sink as sink
use Rattle.up_ends.specs.declared.ends.Source as source
use Rattle.up_ends.specs.declared.fault.Failed.{Failed}
use Rattle.up_lists.specs.Counts.{HasCause, Rose}
use Rattle.up_frame.specs.Stream.{IsPartial}
use Rattle.up_talk.specs.Around.{Around, Parties, World}
use Rattle.up_talk.specs.Incoming.{Held, ReadMore}
use Rattle.up_talk.specs.Limits.{longest}
use Rattle.up_talk.specs.Turns.{Ending, FlushCame, GoesOn, IsEndOf, Talked, Talking, Turned, Waiting, ends, ends_at, standing_at, world}
use Rattle.up_talk.specs.declared.end.TalkEnd.{TalkEnd}
use Rattle.up_talk.specs.declared.end.TalkEnd.TheVariants as talk
use Rattle.up_talk.specs.declared.stage.Stage.{Stage}
use Rattle.up_talk.proofs.EndLemmas.{ended_cut, ended_whole, flushed, read_cut, read_ends, talked_cut, write_failed}

module _ {A V C N Q R S K : Type 0} (who : Parties A V C N Q R) (sources : source.Ghosts S) (sinks : sink.Ghosts K) where
  -- the input has ended
  pub input_ends : (a : World A V C N) (b : Around A V C N) (stage : Stage) (incoming new : Held) (out : List ℕ) (from then : S) (to : K) (end : TalkEnd) → ReadMore sources incoming from 0 new then → IsEndOf new end
      → Waiting who a (world b (ends sources sinks from to)) (standing_at stage) incoming out → Talked who a (world b (ends sources sinks then to)) end
  input_ends a b stage incoming new out from then to talk.Ended more is w = read_ends who sources sinks a b stage incoming new out from then to more is w
  input_ends a b stage incoming new out from then to (talk.Cut n) more is w =
      subst (λ (k : ℕ). Talked who a (world b (ends sources sinks then to)) (talk.Cut k)) (sym is.1) (read_cut who sources sinks a b stage incoming new out from then to more is.0 w)
  input_ends a b stage incoming new out from then to (talk.BadFrame place) more is w = absurd is
  input_ends a b stage incoming new out from then to talk.NotSigned more is w = absurd is
  input_ends a b stage incoming new out from then to talk.HelperFault more is w = absurd is
  input_ends a b stage incoming new out from then to talk.ReadFault more is w = absurd is
  input_ends a b stage incoming new out from then to talk.WriteFault more is w = absurd is
  input_ends a b stage incoming new out from then to talk.TurnsSpent more is w = absurd is
  input_ends a b stage incoming new out from then to talk.OutOfMemory more is w = absurd is

  -- all that was made is written
  pub turn_written : (a : World A V C N) (c : Around A V C N) (stage : Stage) (new : Held) (out now : List ℕ) (then : S) (to after : K) (handled : Result (Unit {0}) TalkEnd) → OnOk handled (IsPartial longest new.bytes)
      → now ≡ [] → Appends (sinks.held to) (sinks.held after) out → sinks.faults after ≡ sinks.faults to
      → GoesOn who a (world c (ends sources sinks then to)) (standing_at stage) new out handled → Turned who a (world c (ends sources sinks then after)) (standing_at stage) new now handled
  turn_written a c stage new out now then to after (Ok done) partial none appends same goes = record {
    talking = subst (λ (o : List ℕ). Talking who a (world c (ends sources sinks then after)) (standing_at stage) new o) (sym none)
        (flushed who a c (ends sources sinks then to) (sinks.held after) (sinks.faults after) (standing_at stage) new out appends same goes);
    written = none;
    partial = partial;
  }
  turn_written a c stage new out now then to after (Err end) partial none appends same goes =
      ended_whole who a c (ends sources sinks then to) (sinks.held after) (sinks.faults after) out end appends same goes

  -- a write failed
  pub turn_unwritten : (a : World A V C N) (c : Around A V C N) (stage : Stage) (new : Held) (out : List ℕ) (then : S) (to after : K) (handled : Result (Unit {0}) TalkEnd) → WritesPart (sinks.held to) (sinks.held after) out
      → HasCause (sinks.faults to) (sinks.faults after) ⊥ → Rose (sinks.faults to) (sinks.faults after)
      → GoesOn who a (world c (ends sources sinks then to)) (standing_at stage) new out handled → Talked who a (world c (ends sources sinks then after)) talk.WriteFault
  turn_unwritten a c stage new out then to after (Ok done) part cause rose goes =
      talked_cut who a c (ends sources sinks then to) (sinks.held after) (sinks.faults after) (standing_at stage) new out part cause rose goes
  turn_unwritten a c stage new out then to after (Err end) part cause rose goes =
      ended_cut who a c (ends sources sinks then to) (sinks.held after) (sinks.faults after) out end part cause rose goes

module _ {A V C N Q R K : Type 0} (who : Parties A V C N Q R) (sinks : sink.Ghosts K) where
  -- what was gathered is written, or kept
  pub full_done : (a : World A V C N) (c : Around A V C N) (left : Option (List ℕ)) (given faults : ℕ) (stage : Stage) (incoming : Held) (out now : List ℕ) (to after : K) (nothing : Unit {0}) → FlushCame sinks out to (Ok nothing) now after
      → Talking who a (world c (ends_at left given faults sinks to)) (standing_at stage) incoming out → Talking who a (world c (ends_at left given faults sinks after)) (standing_at stage) incoming now
  full_done a c left given faults stage incoming out now to after nothing (inl kept) t =
      subst (λ (k : K). Talking who a (world c (ends_at left given faults sinks k)) (standing_at stage) incoming now) (sym kept.1)
      (subst (λ (o : List ℕ). Talking who a (world c (ends_at left given faults sinks to)) (standing_at stage) incoming o) (sym kept.0) t)
  full_done a c left given faults stage incoming out now to after nothing (inr written) t =
      subst (λ (o : List ℕ). Talking who a (world c (ends_at left given faults sinks after)) (standing_at stage) incoming o) (sym written.0)
      (flushed who a c (ends_at left given faults sinks to) (sinks.held after) (sinks.faults after) (standing_at stage) incoming out written.1 written.2 t)

  -- a write failed
  pub full_failed : (a : World A V C N) (c : Around A V C N) (left : Option (List ℕ)) (given faults : ℕ) (stage : Stage) (incoming : Held) (out now : List ℕ) (to after : K) (failed : Failed) → FlushCame sinks out to (Err failed) now after
      → Talking who a (world c (ends_at left given faults sinks to)) (standing_at stage) incoming out → Ending who a (world c (ends_at left given faults sinks after)) now talk.WriteFault
  full_failed a c left given faults stage incoming out now to after failed cut t =
      subst (λ (o : List ℕ). Ending who a (world c (ends_at left given faults sinks after)) o talk.WriteFault) (sym cut.0)
      (write_failed who a c (ends_at left given faults sinks to) (sinks.held after) (sinks.faults after) (standing_at stage) incoming out cut.1 cut.2 cut.3 t)

-- how many bytes came
pub read_grown : {S : Type 0} (sources : source.Ghosts S) (old new : Held) (from then : S) (count : ℕ) → ReadMore sources old from count new then → new.handled + length new.bytes ≡ old.handled + length old.bytes + count
read_grown sources old new from then count more =
    let long : length new.bytes ≡ length old.bytes + count = ap length more.bytes ∙ length-append old.bytes more.piece ∙ ap (λ (n : ℕ). length old.bytes + n) more.long in omega (arith, more.handled, long)
