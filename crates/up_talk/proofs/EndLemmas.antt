-- How a connection reads and writes, and how it begins and ends.
use Rattle.std.proofs.Common.{◌≡◌, ◌+◌, ◌<◌, ◌≤◌, ℕ, List, [], ◌∷◌, ◌++◌, length, refl, sym, ap, subst, ◌∙◌, inl, append_assoc, append-nil, length-append, arith, Option}
use Rattle.std.specs.Io.KnownBytes.{Appends, Consumes}
use Rattle.std.proofs.KnownBytes.{Consumes-nil, Consumes-trans, Consumes-kept}
use Rattle.up_ends.specs.Writing.{Going, WritesPart}
use Rattle.up_ends.proofs.Going.{Going-all, Going-more, Going-none, WritesPart-step, WritesPart-so_far}
use Rattle.up_ends.specs.declared.ends.Sink as sink
use Rattle.up_ends.specs.declared.ends.Source as source
use Rattle.up_lists.specs.Counts.{HasCause, Rose, count_after}
use Rattle.up_lists.proofs.Causes.{HasCause-then, Rose-after}
use Rattle.up_frame.specs.Stream.{IsPartial}
use Rattle.up_talk.specs.Around.{Around, Ends, Parties, World}
use Rattle.up_talk.specs.Incoming.{Held, ReadFailed, ReadMore}
use Rattle.up_talk.specs.Limits.{longest, most_turns}
use Rattle.up_talk.specs.Talks.{CountsSame, CountsStay, EndsBy, HasRead, bytes_from, bytes_to}
use Rattle.up_talk.specs.Transcripts.{Standing}
use Rattle.up_talk.specs.Turns.{Ending, Talked, Talking, Waiting, ends, standing_at, world}
use Rattle.up_talk.specs.declared.end.TalkEnd.{TalkEnd}
use Rattle.up_talk.specs.declared.end.TalkEnd.TheVariants as talk
use Rattle.up_talk.specs.declared.stage.Stage.{Stage}
use Rattle.up_talk.proofs.TurnLemmas.{counts_stay, going_nil, open_at, same_cause}

nil_of : (xs : List ℕ) → length xs ≡ 0 → xs ≡ []
nil_of [] none = refl
nil_of (x ∷ xs) none = absurd (omega arith)

counted_on : (count n m : ℕ) → count_after (count_after count n) m ≡ count_after count (n + m)
counted_on count n m = omega arith

module _ {A V C N Q R : Type 0} (who : Parties A V C N Q R) where
  -- the same ends, but that more was written
  abbrev pub written_to : Ends → Option (List ℕ) → ℕ → Ends
  written_to at held faults = record at { held = held; write_faults = faults }

  -- what was read stays so
  read_still : (a : World A V C N) (b : Around A V C N) (at : Ends) (held : Option (List ℕ)) (faults : ℕ) (came : _) (rest : List ℕ) → HasRead who a (world b at) came rest → HasRead who a (world b (written_to at held faults)) came rest
  read_still a b at held faults came rest r = record { read = r.read; given = r.given; fits = r.fits }

  written_same : (a : World A V C N) (b : Around A V C N) (at : Ends) (held : Option (List ℕ)) (faults : ℕ) → faults ≡ at.write_faults → CountsSame who a (world b at) → CountsSame who a (world b (written_to at held faults))
  written_same a b at held faults same c = record { reads = c.reads; writes = same ∙ c.writes; verdicts = c.verdicts }

  -- the sink's count rose
  written_cut : (a : World A V C N) (b : Around A V C N) (at : Ends) (held : Option (List ℕ)) (faults : ℕ) (end : TalkEnd) → HasCause at.write_faults faults ⊥ → CountsStay who a (world b at) end
      → CountsStay who a (world b (written_to at held faults)) talk.WriteFault
  written_cut a b at held faults end cause c = record { reads = c.reads; writes = HasCause-then _ _ _ ⊥ ⊥ c.writes cause; verdicts = c.verdicts; quiet = λ fine. absurd (cc) }

  -- all that was made is written
  pub flushed : (a : World A V C N) (b : Around A V C N) (at : Ends) (held : Option (List ℕ)) (faults : ℕ) (standing : Standing) (incoming : Held) (out : List ℕ) → Appends at.held held out → faults ≡ at.write_faults
      → Talking who a (world b at) standing incoming out → Talking who a (world b (written_to at held faults)) standing incoming []
  flushed a b at held faults standing incoming out appends same t = record {
    came = t.came;
    made = t.made;
    transcript = t.transcript;
    has_read = read_still a b at held faults t.came incoming.bytes t.has_read;
    place = t.place;
    going = Going-more out [] (going_nil out t.going) appends;
    counts = written_same a b at held faults same t.counts;
    tie = t.tie;
  }

  -- how it ends stays so
  ends_later : (a : World A V C N) (b : Around A V C N) (at : Ends) (held : Option (List ℕ)) (faults : ℕ) (standing : Standing) (before rest : List ℕ) (end : TalkEnd) → faults ≡ at.write_faults
      → EndsBy who a (world b at) standing before rest end → EndsBy who a (world b (written_to at held faults)) standing before rest end
  ends_later a b at held faults standing before rest talk.Ended same e = e
  ends_later a b at held faults standing before rest (talk.Cut n) same e = e
  ends_later a b at held faults standing before rest (talk.BadFrame place) same e = e
  ends_later a b at held faults standing before rest talk.NotSigned same e = e
  ends_later a b at held faults standing before rest talk.HelperFault same e = e
  ends_later a b at held faults standing before rest talk.ReadFault same e = e
  ends_later a b at held faults standing before rest talk.WriteFault same e = subst (λ (n : ℕ). Rose a.ends.write_faults n) (sym same) e
  ends_later a b at held faults standing before rest talk.TurnsSpent same e = e
  ends_later a b at held faults standing before rest talk.OutOfMemory same e = e

  -- it has ended, and all that was made is written
  pub ended_whole : (a : World A V C N) (b : Around A V C N) (at : Ends) (held : Option (List ℕ)) (faults : ℕ) (out : List ℕ) (end : TalkEnd) → Appends at.held held out → faults ≡ at.write_faults
      → Ending who a (world b at) out end → Talked who a (world b (written_to at held faults)) end
  ended_whole a b at held faults out end appends same e =
      let g : Going a.ends.held held e.lost (bytes_to who e.made) = Going-more out e.lost e.going appends in
      record {
        talks = record {
          came = e.came;
          made = e.made;
          standing = e.standing;
          rest = e.rest;
          transcript = e.transcript;
          has_read = read_still a b at held faults e.came e.rest e.has_read;
          ends = ends_later a b at held faults e.standing (bytes_from who e.came) e.rest end same e.ends;
          whole = λ uncut. Going-all (subst (λ (l : List ℕ). Going a.ends.held held l (bytes_to who e.made)) (e.kept uncut) g);
          part = WritesPart-so_far g;
          counts = record {
            reads = e.counts.reads;
            writes = subst (λ (n : ℕ). HasCause a.ends.write_faults n ⊥) (sym same) e.counts.writes;
            verdicts = e.counts.verdicts;
            quiet = λ fine. written_same a b at held faults same (e.counts.quiet fine);
          };
        };
        tie = e.tie;
      }

  -- it has ended, but a write failed
  pub ended_cut : (a : World A V C N) (b : Around A V C N) (at : Ends) (held : Option (List ℕ)) (faults : ℕ) (out : List ℕ) (end : TalkEnd) → WritesPart at.held held out → HasCause at.write_faults faults ⊥ → Rose at.write_faults faults
      → Ending who a (world b at) out end → Talked who a (world b (written_to at held faults)) talk.WriteFault
  ended_cut a b at held faults out end part cause rose e = record {
    talks = record {
      came = e.came;
      made = e.made;
      standing = e.standing;
      rest = e.rest;
      transcript = e.transcript;
      has_read = read_still a b at held faults e.came e.rest e.has_read;
      ends = Rose-after _ _ _ e.counts.writes.later cause.later rose;
      whole = λ uncut. absurd (cc);
      part = WritesPart-step out e.lost e.going part;
      counts = written_cut a b at held faults end cause e.counts;
    };
    tie = e.tie;
  }

  rose_then : (before mid now : ℕ) → mid ≡ before → Rose mid now → Rose before now
  rose_then before mid now same rose = subst (λ (n : ℕ). Rose n now) same rose

  -- it goes on, but a write failed: nothing is left to be written
  pub write_failed : (a : World A V C N) (b : Around A V C N) (at : Ends) (held : Option (List ℕ)) (faults : ℕ) (standing : Standing) (incoming : Held) (out : List ℕ) → WritesPart at.held held out → HasCause at.write_faults faults ⊥ → Rose at.write_faults faults
      → Talking who a (world b at) standing incoming out → Ending who a (world b (written_to at held faults)) [] talk.WriteFault
  write_failed a b at held faults standing incoming out part cause rose t =
      let stepped = WritesPart-step out [] (going_nil out t.going) part in
      record {
        came = t.came;
        made = t.made;
        standing = standing;
        rest = incoming.bytes;
        transcript = t.transcript;
        has_read = read_still a b at held faults t.came incoming.bytes t.has_read;
        ends = rose_then _ _ _ t.counts.writes rose;
        lost = stepped.0;
        kept = λ uncut. absurd (cc);
        going = stepped.1;
        counts = written_cut a b at held faults talk.WriteFault cause (counts_stay who a (world b at) talk.WriteFault t.counts);
        tie = t.tie;
      }

  pub talked_cut : (a : World A V C N) (b : Around A V C N) (at : Ends) (held : Option (List ℕ)) (faults : ℕ) (standing : Standing) (incoming : Held) (out : List ℕ) → WritesPart at.held held out → HasCause at.write_faults faults ⊥ → Rose at.write_faults faults
      → Talking who a (world b at) standing incoming out → Talked who a (world b (written_to at held faults)) talk.WriteFault
  talked_cut a b at held faults standing incoming out part cause rose t = record {
    talks = record {
      came = t.came;
      made = t.made;
      standing = standing;
      rest = incoming.bytes;
      transcript = t.transcript;
      has_read = read_still a b at held faults t.came incoming.bytes t.has_read;
      ends = rose_then _ _ _ t.counts.writes rose;
      whole = λ uncut. absurd (cc);
      part = WritesPart-step out [] (going_nil out t.going) part;
      counts = written_cut a b at held faults talk.WriteFault cause (counts_stay who a (world b at) talk.WriteFault t.counts);
    };
    tie = t.tie;
  }

  -- it ends where all is written
  pub talking_talked : (a b : World A V C N) (standing : Standing) (incoming : Held) (out : List ℕ) (end : TalkEnd) → out ≡ [] → (t : Talking who a b standing incoming out)
      → EndsBy who a b standing (bytes_from who t.came) incoming.bytes end → Talked who a b end
  talking_talked a b standing incoming out end none t ends =
      let g : Going a.ends.held b.ends.held [] (bytes_to who t.made) = subst (λ (o : List ℕ). Going a.ends.held b.ends.held o (bytes_to who t.made)) none t.going in
      record {
        talks = record {
          came = t.came;
          made = t.made;
          standing = standing;
          rest = incoming.bytes;
          transcript = t.transcript;
          has_read = t.has_read;
          ends = ends;
          whole = λ uncut. Going-all g;
          part = WritesPart-so_far g;
          counts = counts_stay who a b end t.counts;
        };
        tie = t.tie;
      }

  -- ---- reading

  module _ {S K : Type 0} (sources : source.Ghosts S) (sinks : sink.Ghosts K) where
    pub read_goes : (a : World A V C N) (b : Around A V C N) (standing : Standing) (incoming new : Held) (out : List ℕ) (from then : S) (to : K) (count : ℕ) → ReadMore sources incoming from count new then
        → Talking who a (world b (ends sources sinks from to)) standing incoming out → Talking who a (world b (ends sources sinks then to)) standing new out
    read_goes a b standing incoming new out from then to count more t =
        let before = bytes_from who t.came in
        let same : (before ++ incoming.bytes) ++ more.piece ≡ before ++ new.bytes = append_assoc before incoming.bytes more.piece ∙ ap (λ (xs : List ℕ). before ++ xs) (sym more.bytes) in
        let long : length (before ++ new.bytes) ≡ length (before ++ incoming.bytes) + count = ap length (sym same) ∙ length-append (before ++ incoming.bytes) more.piece ∙ ap (λ (n : ℕ). length (before ++ incoming.bytes) + n) more.long in
        record {
          came = t.came;
          made = t.made;
          transcript = t.transcript;
          has_read = record {
            read = subst (λ (xs : List ℕ). Consumes a.ends.left (sources.left then) xs) same (Consumes-trans a.ends.left (sources.left from) (sources.left then) (before ++ incoming.bytes) more.piece t.has_read.read more.taken);
            given = more.given ∙ ap (λ (n : ℕ). count_after n count) t.has_read.given ∙ counted_on a.ends.given (length (before ++ incoming.bytes)) count ∙ ap (count_after a.ends.given) (sym long);
            fits = t.has_read.fits;
          };
          place = more.handled ∙ t.place;
          going = t.going;
          counts = record { reads = more.quiet ∙ t.counts.reads; writes = t.counts.writes; verdicts = t.counts.verdicts };
          tie = t.tie;
        }

    -- a read failed
    pub read_fails : (a : World A V C N) (b : Around A V C N) (stage : Stage) (incoming new : Held) (out : List ℕ) (from then : S) (to : K) → ReadFailed sources incoming from new then
        → Waiting who a (world b (ends sources sinks from to)) (standing_at stage) incoming out → Talked who a (world b (ends sources sinks then to)) talk.ReadFault
    read_fails a b stage incoming new out from then to failed w =
        let t = w.talking in
        let g : Going a.ends.held (sinks.held to) [] (bytes_to who t.made) = subst (λ (o : List ℕ). Going a.ends.held (sinks.held to) o (bytes_to who t.made)) w.written t.going in
        record {
          talks = record {
            came = t.came;
            made = t.made;
            standing = standing_at stage;
            rest = incoming.bytes;
            transcript = t.transcript;
            has_read = record {
              read = Consumes-kept a.ends.left (sources.left from) (sources.left then) _ t.has_read.read failed.kept;
              given = failed.given ∙ t.has_read.given;
              fits = t.has_read.fits;
            };
            ends = (open_at stage, w.partial, rose_then _ _ _ t.counts.reads failed.rose);
            whole = λ uncut. Going-all g;
            part = WritesPart-so_far g;
            counts = record {
              reads = subst (λ (n : ℕ). HasCause n (sources.faults then) ⊥) t.counts.reads failed.cause;
              writes = same_cause _ _ t.counts.writes;
              verdicts = same_cause _ _ t.counts.verdicts;
              quiet = λ fine. absurd (cc);
            };
          };
          tie = t.tie;
        }

    -- there was no memory for a read
    pub read_wants : (a : World A V C N) (b : Around A V C N) (stage : Stage) (incoming : Held) (out : List ℕ) (from then : S) (to : K) → then ≡ from
        → Waiting who a (world b (ends sources sinks from to)) (standing_at stage) incoming out → Talked who a (world b (ends sources sinks then to)) talk.OutOfMemory
    read_wants a b stage incoming out from then to same w =
        subst (λ (s : S). Talked who a (world b (ends sources sinks s to)) talk.OutOfMemory) (sym same) (talking_talked a (world b (ends sources sinks from to)) (standing_at stage) incoming out talk.OutOfMemory w.written w.talking tt)

    -- the input has ended
    none_more : (incoming new : Held) (from then : S) → ReadMore sources incoming from 0 new then → new.bytes ≡ incoming.bytes
    none_more incoming new from then more = more.bytes ∙ ap (λ (xs : List ℕ). incoming.bytes ++ xs) (nil_of more.piece more.long) ∙ append-nil incoming.bytes

    pub read_ends : (a : World A V C N) (b : Around A V C N) (stage : Stage) (incoming new : Held) (out : List ℕ) (from then : S) (to : K) → ReadMore sources incoming from 0 new then → length new.bytes ≡ 0
        → Waiting who a (world b (ends sources sinks from to)) (standing_at stage) incoming out → Talked who a (world b (ends sources sinks then to)) talk.Ended
    read_ends a b stage incoming new out from then to more none w =
        let t = read_goes a b (standing_at stage) incoming new out from then to 0 more w.talking in
        talking_talked a (world b (ends sources sinks then to)) (standing_at stage) new out talk.Ended w.written t (open_at stage, inl (nil_of new.bytes none, more.end refl))

    pub read_cut : (a : World A V C N) (b : Around A V C N) (stage : Stage) (incoming new : Held) (out : List ℕ) (from then : S) (to : K) → ReadMore sources incoming from 0 new then → 0 < length new.bytes
        → Waiting who a (world b (ends sources sinks from to)) (standing_at stage) incoming out → Talked who a (world b (ends sources sinks then to)) (talk.Cut (new.handled + length new.bytes))
    read_cut a b stage incoming new out from then to more some w =
        let t = read_goes a b (standing_at stage) incoming new out from then to 0 more w.talking in
        let partial : IsPartial longest new.bytes = subst (IsPartial longest) (sym (none_more incoming new from then more)) w.partial in
        let n : new.handled + length new.bytes ≡ length (bytes_from who t.came ++ new.bytes) = ap (λ (k : ℕ). k + length new.bytes) t.place ∙ sym (length-append (bytes_from who t.came) new.bytes) in
        talking_talked a (world b (ends sources sinks then to)) (standing_at stage) new out (talk.Cut (new.handled + length new.bytes)) w.written t
        (open_at stage, (λ (none : new.bytes ≡ []). absurd (let k : length new.bytes ≡ 0 = ap length none in omega arith)), partial, more.end refl, n)

  -- ---- the whole

  pub at_first : (same : (a : A) → who.tied a a) (a : World A V C N) → Waiting who a a Standing.Unsaid (record { handled = 0; bytes = [] }) []
  at_first same a = record {
    talking = record {
      came = [];
      made = [];
      transcript = (refl, refl, refl);
      has_read = record { read = Consumes-nil a.ends.left; given = omega arith; fits = tt };
      place = refl;
      going = Going-none a.ends.held [];
      counts = record { reads = refl; writes = refl; verdicts = refl };
      tie = same a.around.answerer;
    };
    written = refl;
    partial = inl (omega arith);
  }

  pub wants_at_first : (same : (a : A) → who.tied a a) (a : World A V C N) → Talked who a a talk.OutOfMemory
  wants_at_first same a = let w = at_first same a in talking_talked a a Standing.Unsaid (record { handled = 0; bytes = [] }) [] talk.OutOfMemory refl w.talking tt

  pub turns_spent : (a b : World A V C N) (stage : Stage) (incoming : Held) (out : List ℕ) → most_turns ≤ incoming.handled + length incoming.bytes → Waiting who a b (standing_at stage) incoming out → Talked who a b talk.TurnsSpent
  turns_spent a b stage incoming out many w =
      let t = w.talking in
      let n : incoming.handled + length incoming.bytes ≡ length (bytes_from who t.came ++ incoming.bytes) = ap (λ (k : ℕ). k + length incoming.bytes) t.place ∙ sym (length-append (bytes_from who t.came) incoming.bytes) in
      talking_talked a b (standing_at stage) incoming out talk.TurnsSpent w.written t (open_at stage, w.partial, subst (λ (k : ℕ). most_turns ≤ k) n many)
