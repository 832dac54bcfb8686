-- The same run, by how what is lent is seen.
use Rattle.std.proofs.Common.{◌≡◌, ◌⊎◌, inl, inr, ℕ, List, [], ◌∷◌, Option, Some, None, Result, Ok, Err, refl, sym, ap, subst, ◌∙◌}
use Rattle.up_lists.specs.Runs.{Run}
use Rattle.up_lists.proofs.RunLemmas.{Run-image}
use Rattle.up_client.specs.Getting.{get_talk}
use Rattle.up_client.specs.Talks.{Held, Talking, ended, heard, unanswered, wanting}
use Rattle.up_client.specs.declared.fault.ClientFault.{ClientFault}
use Rattle.up_names.specs.Texts.{Text}
use Rattle.up_wire.specs.declared.replies.Reply.{Reply}
use Rattle.up_wire.specs.declared.requests.Request.{Request}
use Rattle.up_cache.specs.Blocks.{BlockCache}
use Rattle.up_cache.specs.Caching.{Caching, caching}
use Rattle.up_cache.specs.Copying.{PathResult, Copied, CopiedOver, PathDid, PathCame, PathDoes, copy_capacity, printed}
use Rattle.up_cache.specs.Printing.{Running, Stopped, StopsBy, WrittenBy}
use Rattle.up_cache.specs.declared.stop.Stop.{Stop}
use Rattle.up_cache.specs.declared.stop.Stop.TheVariants as stop

-- a conversation, held with who is seen otherwise
held_image : {T S X : Type 0} (f : T → S) (one : T → Request → Option Reply → T → Type 0) (two : S → Request → Option Reply → S → Type 0)
    → ((a b : T) (request : Request) (given : Option Reply) → one a request given b → two (f a) request given (f b))
    → (talk : Talking X) (result : Result X ClientFault) (a b : T) → Held one talk a result b → Held two talk (f a) result (f b)
held_image f one two each talk result a b ended = ended
held_image f one two each talk result a b wanting = wanting
held_image f one two each talk result a b (unanswered {request = request} none) = unanswered (each a b request None none)
held_image f one two each talk result a b (heard {request = request} {hear = hear} {next = next} reply answer rest) =
    heard reply (each a next request (Some reply) answer) (held_image f one two each (hear reply) result next b rest)

path_image : {T S : Type 0} (f : T → S) (one : T → Request → Option Reply → T → Type 0) (two : S → Request → Option Reply → S → Type 0)
    → ((a b : T) (request : Request) (given : Option Reply) → one a request given b → two (f a) request given (f b))
    → (a b : T) (word : Text) (came : PathResult) → PathCame one a word came b → PathCame two (f a) word came (f b)
path_image f one two each a b word came (PathCame.bad_path none) = PathCame.bad_path none
path_image f one two each a b word came (PathCame.got {path = path} {result = result} some held) = PathCame.got some (held_image f one two each (get_talk path) result a b held)
path_image f one two each a b word came PathCame.unread = PathCame.unread

module _ {T S : Type 0} (f : T → S) (one : T → Request → Option Reply → T → Type 0) (two : S → Request → Option Reply → S → Type 0)
    (each : (a b : T) (request : Request) (given : Option Reply) → one a request given b → two (f a) request given (f b)) where
  run_image : (a b : T) (words : List Text) (dids : List PathDid) → Run (PathDoes one) a words dids b → Run (PathDoes two) (f a) words dids (f b)
  run_image a b words dids run = Run-image f (PathDoes one) (PathDoes two) (λ x word did y came. path_image f one two each x y word (Ok did) came) a b words dids run

  pub running_image : (old now : Option Text) (a b : T) (words : List Text) → Running one old now a words b → Running two old now (f a) words (f b)
  running_image old now a b words so = record { dids = so.dids; run = run_image a b words so.dids so.run; written = so.written }

  stops_image : (last b : T) (rest : List Text) (why : Stop) → StopsBy one last rest why b → StopsBy two (f last) rest why (f b)
  stops_image last b rest stop.AskFault is = (is.0, (is.1.0, (is.1.1.0, path_image f one two each last b is.0 (Err stop.AskFault) is.1.1.1)))
  stops_image last b rest stop.WriteFault is = ap f is
  stops_image last b rest stop.OutOfMemory (inl is) = inl (ap f is)
  stops_image last b rest stop.OutOfMemory (inr is) = inr (is.0, (is.1.0, (is.1.1.0, path_image f one two each last b is.0 (Err stop.OutOfMemory) is.1.1.1)))

  written_image : (old now : Option Text) (text : Text) (why : Stop) → WrittenBy one old now text why → WrittenBy two old now text why
  written_image old now text stop.AskFault is = is
  written_image old now text stop.WriteFault is = is
  written_image old now text stop.OutOfMemory is = is

  pub stopped_image : (old now : Option Text) (a b : T) (words : List Text) (why : Stop) → Stopped one old now a words why b → Stopped two old now (f a) words why (f b)
  stopped_image old now a b words why so = record {
    done = so.done;
    rest = so.rest;
    cut = so.cut;
    dids = so.dids;
    last = f so.last;
    run = run_image a so.last so.done so.dids so.run;
    stops = stops_image so.last b so.rest why so.stops;
    written = written_image old now (printed so.dids) why so.written;
  }

-- from a new cache on
pub copied_new : {S : Type 0} (answers : S → Request → Option Reply → S → Type 0) (old now : Option Text) (start last : S) (cache : BlockCache) (first end : Caching S) (words : List Text) (status : ℕ) → first ≡ record { ask = start; cache = cache; asked = 0; kept = 0 }
    → cache ≡ record { blocks = []; capacity = copy_capacity } → last ≡ end.ask → Copied answers old now first words status end → CopiedOver answers old now start words status last
copied_new {S} answers old now start last cache first end words status is empty left copied = record {
  end = end;
  copied = subst (λ (c : Caching S). Copied answers old now c words status end) (is ∙ ap (λ (k : BlockCache). record { ask = start; cache = k; asked = 0; kept = 0 }) empty) copied;
  left = sym left;
}
