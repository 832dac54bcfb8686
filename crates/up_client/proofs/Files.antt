-- What is got over a fixed table.
use Rattle.std.proofs.Common.{◌≡◌, ◌≢◌, ◌==◌, ℕ, ◌+◌, suc, zero, not, Bool, true, false, if◌then◌else◌, List, [], ◌∷◌, ◌++◌, length, Option, Some, None, Result, Ok, Err, refl, sym, subst, ap, ◌∙◌, append_assoc}
use Rattle.std.proofs.lemmas.Bool.{eqb-true}
use Rattle.std.proofs.lemmas.List.{append-nil}
use Rattle.std.proofs.lemmas.Slice.Eq.{bytes_eq-Decides}
use Rattle.std.specs.List.{AllZip, concat}
use Rattle.std.specs.Str.{bytes_eq}
use Rattle.sha2.specs.Sha256.{sha256}
use Rattle.up_refs.specs.References.{text_of}
use Rattle.up_names.specs.PathNames.{PathName}
use Rattle.up_entry.specs.declared.entries.Block.{Block}
use Rattle.up_entry.specs.declared.entries.Endpoint.{Endpoint}
use Rattle.up_entry.specs.declared.entries.Endpoint.TheVariants as endpoints
use Rattle.up_entry.specs.declared.entries.Entry.{Entry}
use Rattle.up_entry.specs.declared.entries.Kind.{Kind}
use Rattle.up_entry.specs.declared.entries.Kind.TheVariants as kinds
use Rattle.up_wire.specs.declared.requests.Request.{Request}
use Rattle.up_wire.specs.declared.requests.Request.TheVariants as requests
use Rattle.up_wire.specs.declared.replies.Done.{Done}
use Rattle.up_wire.specs.declared.replies.Done.TheVariants as dones
use Rattle.up_wire.specs.declared.replies.Reply.{Reply}
use Rattle.up_wire.specs.declared.replies.Reply.TheVariants as replies
use Rattle.up_client.specs.declared.fault.ClientFault.{ClientFault}
use Rattle.up_client.specs.declared.fault.ClientFault.TheVariants as faults
use Rattle.up_client.specs.Getting.{block_from, blocks_in, fetched_at, fetching, file_blocks, fitting, get_talk, joined_blocks, look_up_at, reading}
use Rattle.up_client.specs.Links.{following, leads_to, led, short}
use Rattle.up_client.specs.Replies.{outcome}
use Rattle.up_client.specs.Tables.{AnswersFrom, HasBlock, HasFile, IsReplyIn, IsSteady, LinksLead, Table, along, there}
use Rattle.up_client.proofs.Behind.{short_is}
use Rattle.up_client.specs.Talks.{Held, Talking, and_then, asking, done, ended, heard, reply_to, unanswered, wanting}

-- A conversation of two that ended well: so did the one, and then the other.
pub record Parted {S X Y : Type 0} (answers : S → Request → Option Reply → S → Type 0) (talk : Talking X) (more : X → Talking Y) (a : S) (y : Y) (c : S) : Type 0 where
  pub x : X
  pub between : S
  pub first : Held answers talk a (Ok x) between
  pub after : Held answers (more x) between (Ok y) c

-- what was looked up through links
pub record Looked (rows : List (Request × Reply)) (more : ℕ) (path : PathName) (d : Done) : Type 0 where
  pub last : PathName
  pub led : LinksLead rows more path last
  pub found : IsReplyIn rows (look_up_at last) (replies.Ok d)

-- the contents of the blocks that were read, behind those that were there
pub record Fetched (rows : List (Request × Reply)) (blocks : List Block) (read pieces : List (List ℕ)) : Type 0 where
  pub more : List (List ℕ)
  pub whole : pieces ≡ read ++ more
  pub each : AllZip (HasBlock rows) blocks more

module _ {S : Type 0} (answers : S → Request → Option Reply → S → Type 0) where
  -- what ended at once ended as it was meant
  held_done : {X : Type 0} (meant : Result X ClientFault) (a : S) (x : X) (b : S) → Held answers (done meant) a (Ok x) b → meant ≡ Ok x
  held_done meant a x b ended = refl

  parted : {X Y : Type 0} (talk : Talking X) (more : X → Talking Y) (a : S) (y : Y) (c : S)
      → Held answers (and_then talk more) a (Ok y) c → Parted answers talk more a y c
  parted (done (Ok x)) more a y c held = record { x = x; between = a; first = ended; after = held }
  parted {X} {Y} (done (Err fault)) more a y c held = let none : Err fault ≡ Ok y = held_done (Err fault) a y c held in absurd (cc)
  parted (asking request hear) more a y c (heard {next = next} reply answer rest) =
      let p = parted (hear reply) more next y c rest in
      record { x = p.x; between = p.between; first = heard reply answer p.first; after = p.after }

-- a reply whose outcome is that something was done
outcome_ok : (reply : Reply) (d : Done) → outcome reply ≡ Ok d → reply ≡ replies.Ok d
outcome_ok (replies.Ok e) d is = cc
outcome_ok reply d is = cc

-- what fits stays the same
short_same : (path fit : PathName) → short path ≡ Ok fit → fit ≡ path
short_same path fit is = sym (short_is path fit is)

-- bytes that fit a block
record Fits (block : Block) (given bytes : List ℕ) : Type 0 where
  same : given ≡ bytes
  sized : length bytes ≡ block.size
  named : sha256 bytes ≡ block.location.reference

fitting_ok : (i : ℕ) (block : Block) (given bytes : List ℕ) → fitting i block given ≡ Ok bytes → Fits block given bytes
fitting_ok i block given bytes is = by_tests (length given == block.size) (bytes_eq (sha256 given) block.location.reference) refl refl is
  where
    by_tests : (p q : Bool) → (length given == block.size) ≡ p → bytes_eq (sha256 given) block.location.reference ≡ q
        → (if not p then Err (faults.BadSize i block.size (length given)) else if not q then Err (faults.Corrupt block.location.reference (sha256 given)) else Ok given) ≡ Ok bytes
        → Fits block given bytes
    by_tests false q size digest is = absurd (cc)
    by_tests true false size digest is = absurd (cc)
    by_tests true true size digest is =
        let same : given ≡ bytes = cc in record {
          same = same;
          sized = subst (λ (b : List ℕ). length b ≡ block.size) same (eqb-true _ _ size);
          named = subst (λ (b : List ℕ). sha256 b ≡ block.location.reference) same ((bytes_eq-Decides _ _).0 digest);
        }

-- a reply by which a block was read
record Read (block : Block) (reply : Reply) (bytes : List ℕ) : Type 0 where
  given : reply ≡ replies.Ok (dones.Bytes bytes)
  sized : length bytes ≡ block.size
  named : sha256 bytes ≡ block.location.reference

block_from_ok : (i : ℕ) (block : Block) (reply : Reply) (bytes : List ℕ) → block_from i block reply ≡ Ok bytes → Read block reply bytes
block_from_ok i block (replies.Ok (dones.Bytes given)) bytes is =
    let fits = fitting_ok i block given bytes is in record {
      given = ap (λ (b : List ℕ). replies.Ok (dones.Bytes b)) fits.same;
      sized = fits.sized;
      named = fits.named;
    }
block_from_ok i block (replies.Ok d) bytes is = absurd (cc)
block_from_ok i block reply bytes is = absurd (cc)

-- what is read of what was looked up
record Blocks (d : Done) (blocks : List Block) : Type 0 where
  entry : Entry
  is_entry : d ≡ dones.Entry entry
  plain : file_blocks entry.attr.kind entry ≡ Ok entry.blocks
  same : blocks ≡ entry.blocks

blocks_in_ok : (d : Done) (blocks : List Block) → blocks_in d ≡ Ok blocks → Blocks d blocks
blocks_in_ok (dones.Entry entry) blocks is =
    let same : blocks ≡ entry.blocks = by_kind entry.attr.kind is in record {
      entry = entry;
      is_entry = refl;
      plain = is ∙ ap Ok same;
      same = same;
    }
  where
    by_tests : (p q : Bool) → (if p then Err faults.NoRead else if not q then Err (faults.Opaque entry.packing) else Ok entry.blocks) ≡ Ok blocks → blocks ≡ entry.blocks
    by_tests true q is = absurd (cc)
    by_tests false false is = absurd (cc)
    by_tests false true is = cc

    by_kind : (kind : Kind) → file_blocks kind entry ≡ Ok blocks → blocks ≡ entry.blocks
    by_kind kinds.Link is = absurd (cc)
    by_kind kinds.Directory is = absurd (cc)
    by_kind kinds.File is = by_tests entry.attr.incomplete (entry.packing == 1) is
blocks_in_ok d blocks is = absurd (cc)

module _ {S : Type 0} (answers : S → Request → Option Reply → S → Type 0) (rows : List (Request × Reply)) (such : S → Type 0) (steady : IsSteady answers rows such) where
  such_after : {X : Type 0} (talk : Talking X) (result : Result X ClientFault) (a b : S) → such a → Held answers talk a result b → such b
  such_after talk result a b is ended = is
  such_after talk result a b is wanting = is
  such_after talk result a b is (unanswered {request = request} none) = steady.stays a b request None is none
  such_after talk result a b is (heard {request = request} {hear = hear} {next = next} reply answer rest) =
      such_after (hear reply) result next b (steady.stays a next _ (Some reply) is answer) rest

  -- the reply to one request, other than want of memory, is the table's
  answered : (request : Request) (reply : Reply) (a b : S) → such a → Held answers (reply_to request) a (Ok reply) b
      → reply ≢ replies.OutOfMemory → IsReplyIn rows request reply
  answered request reply a b is (heard {next = next} given answer rest) known =
      let ok : Ok given ≡ Ok reply = held_done answers (Ok given) next reply b rest in
      let same : given ≡ reply = cc in
      subst (λ r. IsReplyIn rows request r) same (steady.replies a next request given is answer (λ wanted. known (sym same ∙ wanted)))

  -- One step on the way: the reply leads nowhere, and then it is what was looked up; or it leads on.
  step : (more : ℕ) (path : PathName) (reply : Reply) (d : Done) (go : PathName → Talking Done) (a b c : S)
      → such a → Held answers (reply_to (look_up_at path)) a (Ok reply) b
      → (o : Option PathName) → leads_to path reply ≡ o → Held answers (led o go reply) b (Ok d) c
      → ((next : PathName) → leads_to path reply ≡ Some next → Held answers (go next) b (Ok d) c → IsReplyIn rows (look_up_at path) reply → Looked rows more path d)
      → Looked rows more path d
  step more path reply d go a b c is first None none after goes =
      let same : reply ≡ replies.Ok d = outcome_ok reply d (held_done answers (outcome reply) b d c after) in record {
        last = path;
        led = there;
        found = subst (λ r. IsReplyIn rows (look_up_at path) r) same (answered (look_up_at path) reply a b is first (λ wanted. cc));
      }
  step more path reply d go a b c is first (Some next) some after goes =
      goes next some after (answered (look_up_at path) reply a b is first (λ wanted. nowhere (subst (λ r. leads_to path r ≡ Some next) wanted some)))
    where
      nowhere : leads_to path replies.OutOfMemory ≡ Some next → ⊥
      nowhere e = cc

  -- The reply leads on, and what is looked up from there is what is looked up from here.
  goes_on : (more : ℕ) (path : PathName) (d : Done) (b : S)
      → ((other : PathName) (start : S) → such start → Held answers (following look_up_at more other) start (Ok d) b → Looked rows more other d)
      → (reply : Reply) (between : S) (next : PathName) → leads_to path reply ≡ Some next → IsReplyIn rows (look_up_at path) reply → such between
      → Parted answers (done (short next)) (following look_up_at more) between d b → Looked rows (suc more) path d
  goes_on more path d b from reply between next some known is p =
      let fit : short next ≡ Ok p.x = held_done answers (short next) between p.x p.between p.first in
      let same : p.x ≡ next = short_same next p.x fit in
      let rest = from p.x p.between (such_after _ _ _ _ is p.first) p.after in record {
        last = rest.last;
        led = along reply known some (fit ∙ ap Ok same) (subst (λ x. LinksLead rows more x rest.last) same rest.led);
        found = rest.found;
      }

  looked : (more : ℕ) (path : PathName) (d : Done) (a b : S) → such a → Held answers (following look_up_at more path) a (Ok d) b → Looked rows more path d
  unfolding following
  looked zero path d a b is held =
      let go : PathName → Talking Done = λ next. done (Err faults.TooManyLinks) in
      let p = parted answers (reply_to (look_up_at path)) (λ reply. led (leads_to path reply) go reply) a d b held in
      step zero path p.x d go a p.between b is p.first (leads_to path p.x) refl p.after
      (λ next some after known. let none : Err faults.TooManyLinks ≡ Ok d = held_done answers (Err faults.TooManyLinks) p.between d b after in absurd (cc))
  looked (suc more) path d a b is held =
      let go : PathName → Talking Done = λ next. and_then (done (short next)) (following look_up_at more) in
      let p = parted answers (reply_to (look_up_at path)) (λ reply. led (leads_to path reply) go reply) a d b held in
      step (suc more) path p.x d go a p.between b is p.first (leads_to path p.x) refl p.after
      (λ next some after known. goes_on more path d b (λ other start still held. looked more other d start b still held) p.x p.between next some known (such_after _ _ _ _ is p.first) (parted answers (done (short next)) (following look_up_at more) p.between d b after))

  fetched : (i : ℕ) (block : Block) (bytes : List ℕ) (a b : S) → such a
      → Held answers (fetched_at block.location.endpoint i block) a (Ok bytes) b → HasBlock rows block bytes
  fetched i block bytes a b is held = by_endpoint block.location.endpoint refl held
    where
      by_endpoint : (endpoint : Endpoint) → block.location.endpoint ≡ endpoint → Held answers (fetched_at endpoint i block) a (Ok bytes) b → HasBlock rows block bytes
      by_endpoint endpoints.Local at held =
          let request : Request = requests.Get (text_of block.location.reference) in
          let p = parted answers (reply_to request) (λ reply. done (block_from i block reply)) a bytes b held in
          let read = block_from_ok i block p.x bytes (held_done answers (block_from i block p.x) p.between bytes b p.after) in record {
            local = at;
            kept = subst (λ r. IsReplyIn rows request r) read.given (answered request p.x a p.between is p.first (λ wanted. apart (sym read.given ∙ wanted)));
            sized = read.sized;
            named = read.named;
          }
        where
          apart : replies.Ok (dones.Bytes bytes) ≡ replies.OutOfMemory → ⊥
          apart e = cc
      by_endpoint (endpoints.Address address) at held =
          let none : Err (faults.Elsewhere i) ≡ Ok bytes = held_done answers (Err (faults.Elsewhere i)) a bytes b held in absurd (cc)

  fetched_all : (i : ℕ) (blocks : List Block) (read pieces : List (List ℕ)) (a b : S) → such a
      → Held answers (fetching i blocks read) a (Ok pieces) b → Fetched rows blocks read pieces
  fetched_all i [] read pieces a b is held =
      let same : Ok read ≡ Ok pieces = held_done answers (Ok read) a pieces b held in
      record { more = []; whole = sym (append-nil read ∙ (cc)); each = tt }
  fetched_all i (block ∷ blocks) read pieces a b is held =
      let p = parted answers (fetched_at block.location.endpoint i block) (λ bytes. fetching (i + 1) blocks (read ++ bytes ∷ [])) a pieces b held in
      let rest = fetched_all (i + 1) blocks (read ++ p.x ∷ []) pieces p.between b (such_after _ _ _ _ is p.first) p.after in record {
        more = p.x ∷ rest.more;
        whole = rest.whole ∙ append_assoc read (p.x ∷ []) rest.more;
        each = (fetched i block p.x a p.between is p.first, rest.each);
      }

  -- What is got is the file that the table has.
  pub file_got : (path : PathName) (bytes : List ℕ) (a b : S) → such a → Held answers (get_talk path) a (Ok bytes) b → HasFile rows path bytes
  file_got path bytes a b is held =
      let p = parted answers (following look_up_at 20 path) reading a bytes b held in
      let at = looked 20 path p.x a p.between is p.first in
      let q = parted answers (done (blocks_in p.x)) joined_blocks p.between bytes b p.after in
      let told = blocks_in_ok p.x q.x (held_done answers (blocks_in p.x) p.between q.x q.between q.first) in
      let r = parted answers (fetching 0 q.x []) (λ read. done (Ok (concat read))) q.between bytes b q.after in
      let all = fetched_all 0 q.x [] r.x q.between r.between (such_after _ _ _ _ (such_after _ _ _ _ is p.first) q.first) r.first in
      let joined : Ok (concat r.x) ≡ Ok bytes = held_done answers (Ok (concat r.x)) r.between bytes b r.after in record {
        last = at.last;
        entry = told.entry;
        led = at.led;
        found = subst (λ d. IsReplyIn rows (look_up_at at.last) (replies.Ok d)) told.is_entry at.found;
        plain = told.plain;
        pieces = r.x;
        each = subst (λ blocks. AllZip (HasBlock rows) blocks r.x) told.same (subst (λ pieces. AllZip (HasBlock rows) q.x pieces) (sym all.whole) all.each);
        joined = cc;
      }

-- a table is steady with its rows
pub table_steady : (table : Table) → IsSteady AnswersFrom table.rows (λ other. other.rows ≡ table.rows)
table_steady table = record {
  replies = λ a b request reply is answer known. subst (λ rows. IsReplyIn rows request reply) is (answer.reply known);
  stays = λ a b request given is answer. answer.rows ∙ is;
}
