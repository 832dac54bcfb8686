-- A connection, from its first byte to its end. This project's own.
use Rattle.std.specs.Prelude.{◌≡◌, ◌≢◌, ◌≤◌, ◌⊎◌, ℕ, Bool, true, false, List, [], ◌++◌, length, map}
use Rattle.std.specs.List.{AllByRecursion}
use Rattle.std.specs.Io.KnownBytes.{Appends, Consumes, IsAtEnd}
use Rattle.up_ends.specs.Writing.{WritesPart}
use Rattle.up_lists.specs.Counts.{HasCause, Rose, count_after}
use Rattle.up_frame.specs.Stream.{IsBad, IsPartial, IsPayload, frame, frames}
use Rattle.up_talk.specs.Around.{Parties, World}
use Rattle.up_talk.specs.Limits.{longest, most_turns}
use Rattle.up_talk.specs.Messages.{Fits, ToClient, payload_from, payload_to}
use Rattle.up_talk.specs.Transcripts.{Standing, Transcript, may_come}
use Rattle.up_talk.specs.declared.end.TalkEnd.{TalkEnd}
use Rattle.up_talk.specs.declared.end.TalkEnd.TheVariants as talk
use Rattle.up_talk.specs.declared.message.FromClient.{FromClient}
use Rattle.up_talk.specs.declared.message.FromClient.TheVariants as says

-- whether the connection goes on
abbrev pub is_open : Standing → Bool
is_open Standing.Refused = false
is_open Standing.Failed = false
is_open _ = true

-- a whole frame with this payload stands at the front
pub record Begins (bytes payload : List ℕ) : Type 0 where
  pub more : List ℕ
  pub whole : frame payload ++ more ≡ bytes
  pub fits : IsPayload longest payload

-- the payload is that of nothing that may come now
abbrev pub IsUnfit : {Q : Type 0} → (Q → List ℕ) → (Q → Type 0) → Standing → List ℕ → Type 0
IsUnfit {Q} asking fits standing payload = (f : FromClient Q) → may_come standing f ≡ true → Fits fits f → payload_from asking f ≢ payload

-- a write fault or want of memory cut the frames short that are written
abbrev pub is_cut : TalkEnd → Bool
is_cut talk.WriteFault = true
is_cut talk.OutOfMemory = true
is_cut _ = false

-- the source, the sink or the verifier failed
abbrev pub is_fault : TalkEnd → Bool
is_fault talk.ReadFault = true
is_fault talk.WriteFault = true
is_fault talk.HelperFault = true
is_fault _ = false

module _ {A V C N Q R : Type 0} (who : Parties A V C N Q R) where
  -- the bytes of frames
  abbrev pub bytes_from : List (FromClient Q) → List ℕ
  bytes_from came = frames (map (payload_from who.asking) came)

  -- the bytes of the frames that carry what is said to a client
  abbrev pub bytes_to : List (ToClient R) → List ℕ
  bytes_to made = frames (map (payload_to who.answering) made)

  -- no frame begins here that may come now: the length is 0 or too large, or the payload is that of nothing that may come
  abbrev pub NoFrame : Standing → List ℕ → Type 0
  NoFrame standing bytes =
      IsBad longest bytes ⊎ ((payload : List ℕ) × (Begins bytes payload × IsUnfit who.asking who.fits standing payload))

  -- the client says that nothing more comes
  pub record SaysBye (standing : Standing) (bytes : List ℕ) : Type 0 where
    pub may : may_come {Q = Q} standing says.Bye ≡ true
    pub begins : Begins bytes (payload_from who.asking says.Bye)

  -- How a connection ends that stands so, by the bytes of the frames that came, those behind them, and all that it stands among.
  abbrev pub EndsBy : World A V C N → World A V C N → Standing → List ℕ → List ℕ → TalkEnd → Type 0
  -- the input has ended behind a frame, or the client says so
  EndsBy a b standing before rest talk.Ended = (is_open standing ≡ true) × (((rest ≡ []) × IsAtEnd b.ends.left) ⊎ SaysBye standing rest)
  -- it has ended within a frame, after so many bytes
  EndsBy a b standing before rest (talk.Cut n) =
      (is_open standing ≡ true) × (rest ≢ []) × IsPartial longest rest × IsAtEnd b.ends.left × (n ≡ length (before ++ rest))
  -- at this place no frame begins that may come
  EndsBy a b standing before rest (talk.BadFrame place) = (is_open standing ≡ true) × NoFrame standing rest × (place ≡ length before)
  EndsBy a b standing before rest talk.NotSigned = standing ≡ Standing.Refused
  EndsBy a b standing before rest talk.HelperFault =
      (standing ≡ Standing.Failed) × Rose (who.verifier_faults a.around.verifier) (who.verifier_faults b.around.verifier)
  EndsBy a b standing before rest talk.ReadFault =
      (is_open standing ≡ true) × IsPartial longest rest × Rose a.ends.read_faults b.ends.read_faults
  EndsBy a b standing before rest talk.WriteFault = Rose a.ends.write_faults b.ends.write_faults
  EndsBy a b standing before rest talk.TurnsSpent =
      (is_open standing ≡ true) × IsPartial longest rest × (most_turns ≤ length (before ++ rest))
  EndsBy a b standing before rest talk.OutOfMemory = Unit {0}

  -- no count of faults changed
  pub record CountsSame (a b : World A V C N) : Type 0 where
    pub reads : b.ends.read_faults ≡ a.ends.read_faults
    pub writes : b.ends.write_faults ≡ a.ends.write_faults
    pub verdicts : who.verifier_faults b.around.verifier ≡ who.verifier_faults a.around.verifier

  -- Counts of faults never fall, and where it did not end by a fault they are as before.
  pub record CountsStay (a b : World A V C N) (end : TalkEnd) : Type 0 where
    pub reads : HasCause a.ends.read_faults b.ends.read_faults ⊥
    pub writes : HasCause a.ends.write_faults b.ends.write_faults ⊥
    pub verdicts : HasCause (who.verifier_faults a.around.verifier) (who.verifier_faults b.around.verifier) ⊥
    pub quiet : is_fault end ≡ false → CountsSame a b

  -- These frames were read, and bytes behind them; each has this spelling.
  pub record HasRead (a b : World A V C N) (came : List (FromClient Q)) (rest : List ℕ) : Type 0 where
    pub read : Consumes a.ends.left b.ends.left (bytes_from came ++ rest)
    pub given : b.ends.given ≡ count_after a.ends.given (length (bytes_from came ++ rest))
    pub fits : AllByRecursion (λ f. Fits who.fits f × IsPayload longest (payload_from who.asking f)) came

  -- A connection from a to b: the frames that came, those that were made for them, how it ended, and what was written: the frames that
  -- were made; but where a write fault or want of memory cut them short, a front of them.
  pub record Talks (a b : World A V C N) (end : TalkEnd) : Type 0 where
    pub came : List (FromClient Q)
    pub made : List (ToClient R)
    pub standing : Standing
    pub rest : List ℕ
    pub transcript : Transcript who a.around standing came made b.around
    pub has_read : HasRead a b came rest
    pub ends : EndsBy a b standing (bytes_from came) rest end
    pub whole : is_cut end ≡ false → Appends a.ends.held b.ends.held (bytes_to made)
    pub part : WritesPart a.ends.held b.ends.held (bytes_to made)
    pub counts : CountsStay a b end
