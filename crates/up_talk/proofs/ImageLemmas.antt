-- The same connection, seen of who answers through a part of it, and what its client gets.
use Rattle.std.proofs.Common.{ℕ, List, ap, inl, inr}
use Rattle.up_lists.proofs.RunLemmas.{Run-image}
use Rattle.up_names.specs.Texts.{UserName}
use Rattle.up_sign.specs.SigningOn.{Signing}
use Rattle.up_ends.specs.declared.verifier.Verdict.{Verdict}
use Rattle.up_talk.specs.Around.{Around, Parties, World}
use Rattle.up_talk.specs.Challenges.{Greets, Unmet}
use Rattle.up_talk.specs.Completing.{Completes, IsInOrder}
use Rattle.up_talk.specs.Messages.{ToClient}
use Rattle.up_talk.specs.Talks.{CountsSame, EndsBy, Talks, bytes_from}
use Rattle.up_talk.specs.Transcripts.{Answered, IsChallenged, IsJudged, IsRefused, Standing, Transcript}
use Rattle.up_talk.specs.declared.end.TalkEnd.{TalkEnd}
use Rattle.up_talk.specs.declared.end.TalkEnd.TheVariants as talk
use Rattle.up_talk.specs.declared.message.FromClient.{FromClient}

module _ {A B V C N Q R : Type 0} (f : A → B) (tied : A → A → Type 0) (who : Parties B V C N Q R) where
  -- what is told of the part
  abbrev pub through : Parties A V C N Q R
  through = record {
    name = λ a. who.name (f a);
    looked = λ a user found b. who.looked (f a) user found (f b);
    asking = who.asking;
    fits = who.fits;
    answering = who.answering;
    asked = λ a user question moment answer b. who.asked (f a) user question moment answer (f b);
    tied = tied;
    judged = who.judged;
    verifier_faults = who.verifier_faults;
    moments = who.moments;
    challenges = who.challenges;
  }

  abbrev pub part_of : Around A V C N → Around B V C N
  part_of a = record { answerer = f a.answerer; verifier = a.verifier; clock = a.clock; nonces = a.nonces }

  abbrev pub part_in : World A V C N → World B V C N
  part_in a = record { around = part_of a.around; ends = a.ends }

  unmet_through : (text : List ℕ) (a b : A) (n m : N) → Unmet through.name through.looked through.challenges text a n b m → Unmet who.name who.looked who.challenges text (f a) n (f b) m
  unmet_through text a b n m (Unmet.no_user is here there) = Unmet.no_user is (ap f here) there
  unmet_through text a b n m (Unmet.no_record is looked there) = Unmet.no_record is looked there

  greets_through : (text : List ℕ) (a b : A) (n m : N) (signing : Signing) (nonce : List ℕ) → Greets through.name through.looked through.challenges text a n signing nonce b m
      → Greets who.name who.looked who.challenges text (f a) n signing nonce (f b) m
  greets_through text a b n m signing nonce g = record { user = g.user; user_is = g.user_is; draws = record { card = g.draws.card; found = g.draws.found; drawn = g.draws.drawn; signing_is = g.draws.signing_is } }

  challenged_through : (a : Around A V C N) (text : List ℕ) (signing : Signing) (nonce : List ℕ) (b : Around A V C N) → IsChallenged through a text signing nonce b → IsChallenged who (part_of a) text signing nonce (part_of b)
  challenged_through a text signing nonce b c = record { greets = greets_through text a.answerer b.answerer a.nonces b.nonces signing nonce c.greets; verifier = c.verifier; clock = c.clock }

  judged_through : (a : Around A V C N) (text : List ℕ) (signing : Signing) (nonce signature : List ℕ) (verdict : Verdict) (b : Around A V C N) → IsJudged through a text signing nonce signature verdict b
      → IsJudged who (part_of a) text signing nonce signature verdict (part_of b)
  judged_through a text signing nonce signature verdict b j = record { before = part_of j.before; challenged = challenged_through a text signing nonce j.before j.challenged; judged = j.judged; rest = ap part_of j.rest }

  answered_through : (user : UserName) (a : Around A V C N) (question : Q) (answer : R) (b : Around A V C N) → Answered through user a question answer b → Answered who user (part_of a) question answer (part_of b)
  answered_through user a question answer b s = record { moment = s.moment; read = s.read; asked = s.asked; verifier = s.verifier; nonces = s.nonces }

  refused_through : (a : Around A V C N) (came : List (FromClient Q)) (made : List (ToClient R)) (b : Around A V C N) → IsRefused through a came made b → IsRefused who (part_of a) came made (part_of b)
  refused_through a came made b (IsRefused.unknown came_is made_is u) =
      IsRefused.unknown came_is made_is (record { unmet = unmet_through _ a.answerer b.answerer a.nonces b.nonces u.unmet; verifier = u.verifier; clock = u.clock })
  refused_through a came made b (IsRefused.denied came_is made_is j) = IsRefused.denied came_is made_is (judged_through a _ _ _ _ _ b j)

  transcript_through : (a : Around A V C N) (standing : Standing) (came : List (FromClient Q)) (made : List (ToClient R)) (b : Around A V C N) → Transcript through a standing came made b → Transcript who (part_of a) standing came made (part_of b)
  transcript_through a Standing.Unsaid came made b t = (t.0, t.1, ap part_of t.2)
  transcript_through a (Standing.Challenged signing) came made b t = record { text = t.text; nonce = t.nonce; came_is = t.came_is; made_is = t.made_is; challenged = challenged_through a t.text signing t.nonce b t.challenged }
  transcript_through a (Standing.Signed signing) came made b t = record {
    text = t.text;
    nonce = t.nonce;
    signature = t.signature;
    questions = t.questions;
    answers = t.answers;
    before = part_of t.before;
    came_is = t.came_is;
    made_is = t.made_is;
    judged = judged_through a t.text signing t.nonce t.signature _ t.before t.judged;
    run = Run-image part_of (Answered through signing.user) (Answered who signing.user) (answered_through signing.user) t.before b t.questions t.answers t.run;
  }
  transcript_through a Standing.Refused came made b t = refused_through a came made b t
  transcript_through a Standing.Failed came made b t = record {
    text = t.text;
    nonce = t.nonce;
    signature = t.signature;
    signing = t.signing;
    came_is = t.came_is;
    made_is = t.made_is;
    unjudged = record { before = part_of t.unjudged.before; challenged = challenged_through a t.text t.signing t.nonce t.unjudged.before t.unjudged.challenged; judged = t.unjudged.judged; rest = ap part_of t.unjudged.rest };
  }

  ends_through : (a b : World A V C N) (standing : Standing) (before rest : List ℕ) (end : TalkEnd) → EndsBy through a b standing before rest end → EndsBy who (part_in a) (part_in b) standing before rest end
  ends_through a b standing before rest talk.Ended (goes, inl none) = (goes, inl none)
  ends_through a b standing before rest talk.Ended (goes, inr bye) = (goes, inr (record { may = bye.may; begins = bye.begins }))
  ends_through a b standing before rest (talk.Cut n) e = e
  ends_through a b standing before rest (talk.BadFrame place) e = e
  ends_through a b standing before rest talk.NotSigned e = e
  ends_through a b standing before rest talk.HelperFault e = e
  ends_through a b standing before rest talk.ReadFault e = e
  ends_through a b standing before rest talk.WriteFault e = e
  ends_through a b standing before rest talk.TurnsSpent e = e
  ends_through a b standing before rest talk.OutOfMemory e = e

  same_through : (a b : World A V C N) → CountsSame through a b → CountsSame who (part_in a) (part_in b)
  same_through a b c = record { reads = c.reads; writes = c.writes; verdicts = c.verdicts }

  -- the whole connection
  pub talks_through : (a b : World A V C N) (end : TalkEnd) → Talks through a b end → Talks who (part_in a) (part_in b) end
  talks_through a b end t = record {
    came = t.came;
    made = t.made;
    standing = t.standing;
    rest = t.rest;
    transcript = transcript_through a.around t.standing t.came t.made b.around t.transcript;
    has_read = record { read = t.has_read.read; given = t.has_read.given; fits = t.has_read.fits };
    ends = ends_through a b t.standing (bytes_from through t.came) t.rest end t.ends;
    whole = t.whole;
    part = t.part;
    counts = record { reads = t.counts.reads; writes = t.counts.writes; verdicts = t.counts.verdicts; quiet = λ fine. same_through a b (t.counts.quiet fine) };
  }

  -- a client that is in order by the part is so by the whole
  pub order_within : (a b : World A V C N) (text signature : List ℕ) (questions : List Q) (last : List (FromClient Q)) → IsInOrder who (part_in a) (part_in b) text signature questions last → IsInOrder through a b text signature questions last
  order_within a b text signature questions last order = record {
    last_is = order.last_is;
    told = order.told;
    few = order.few;
    fits = order.fits;
    user = order.user;
    user_is = order.user_is;
    known = λ c looked. order.known (f c) looked;
    verdicts = order.verdicts;
    no_read_failed = order.no_read_failed;
    no_write_failed = order.no_write_failed;
    no_verdict_failed = order.no_verdict_failed;
  }

  -- and gets all its answers
  pub completes_through : (a b : World A V C N) (asked : List (FromClient Q)) (end : TalkEnd) → Completes through a b asked end → Completes who (part_in a) (part_in b) asked end
  unfolding talks_through
  completes_through a b asked talk.Ended c = (talks_through a b talk.Ended c.0, c.1)
  completes_through a b asked (talk.Cut n) c = absurd c
  completes_through a b asked (talk.BadFrame place) c = absurd c
  completes_through a b asked talk.NotSigned c = absurd c
  completes_through a b asked talk.HelperFault c = absurd c
  completes_through a b asked talk.ReadFault c = absurd c
  completes_through a b asked talk.WriteFault c = absurd c
  completes_through a b asked talk.TurnsSpent c = absurd c
  completes_through a b asked talk.OutOfMemory c = tt
