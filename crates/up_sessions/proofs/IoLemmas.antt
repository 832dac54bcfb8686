-- Where a client's conversation comes to Io.
use Rattle.std.proofs.Common.{◌≡◌, ◌+◌, ℕ, ℤ, zero, suc, Bool, true, false, not, ◌==◌, nat_lt, if◌then◌else◌, List, [], ◌∷◌, ◌++◌, length, Option, Some, None, Result, Ok, Err, refl}
use Rattle.std.specs.Str.{bytes_eq}
use Rattle.sha2.specs.Sha256.{sha256}
use Rattle.up_client.specs.Getting.{blocks_in, fetched_at, fetching, file_blocks, fitting, get_talk, joined_blocks, look_up_at, reading}
use Rattle.up_client.specs.Links.{following, leads_to, led, short}
use Rattle.up_client.specs.Putting.{block_at, entering, pieces_of, put_file_at, put_talk, stored, storing}
use Rattle.up_client.specs.Replies.{◌>>=◌, bytes_in, outcome, position_in, reference_in}
use Rattle.up_client.specs.Talks.{Talking, and_then, asking, done, reply_to}
use Rattle.up_client.specs.declared.fault.ClientFault.{ClientFault}
use Rattle.up_client.specs.declared.fault.ClientFault.TheVariants as client
use Rattle.up_entry.specs.declared.entries.Block.{Block}
use Rattle.up_entry.specs.declared.entries.Endpoint.{Endpoint}
use Rattle.up_entry.specs.declared.entries.Endpoint.TheVariants as endpoints
use Rattle.up_entry.specs.declared.entries.Entry.{Entry}
use Rattle.up_entry.specs.declared.entries.Kind.{Kind}
use Rattle.up_entry.specs.declared.entries.Kind.TheVariants as kinds
use Rattle.up_host.specs.Alone.{io_of}
use Rattle.up_names.specs.PathNames.{PathName, canonical}
use Rattle.up_sessions.specs.Talking.{io_in}
use Rattle.up_wire.specs.declared.replies.Done.{Done}
use Rattle.up_wire.specs.declared.replies.Done.TheVariants as dones
use Rattle.up_wire.specs.declared.replies.Reply.{Reply}
use Rattle.up_wire.specs.declared.replies.Reply.TheVariants as replies
use Rattle.up_wire.specs.declared.requests.Request.{Request}

-- a conversation comes to Io only by a reply Io
pub data IoByReply {X : Type 0} : Talking X → Type 0 where
  at_end : {result : Result X ClientFault} → io_in result ≡ 0 → IoByReply (done result)
  after : {request : Request} {hear : Reply → Talking X} → ((reply : Reply) → io_of reply ≡ 0 → IoByReply (hear reply)) → IoByReply (asking request hear)

then_io : {X Y : Type 0} (talk : Talking X) (more : X → Talking Y) → IoByReply talk → ((x : X) → IoByReply (more x)) → IoByReply (and_then talk more)
then_io (done (Ok x)) more (at_end none) rest = rest x
then_io (done (Err fault)) more (at_end none) rest = at_end none
then_io (asking request hear) more (after each) rest = after (λ reply is. then_io (hear reply) more (each reply is) rest)

asked_io : {Y : Type 0} (request : Request) (more : Reply → Talking Y) → ((reply : Reply) → io_of reply ≡ 0 → IoByReply (more reply)) → IoByReply (and_then (reply_to request) more)
asked_io request more each = after each

then_none : {A B : Type 0} (first : Result A ClientFault) (next : A → Result B ClientFault) → io_in first ≡ 0 → ((x : A) → io_in (next x) ≡ 0) → io_in (first >>= next) ≡ 0
then_none (Ok x) next one two = two x
then_none (Err fault) next one two = one

outcome_none : (reply : Reply) → io_of reply ≡ 0 → io_in (outcome reply) ≡ 0
outcome_none (replies.Ok d) is = refl
outcome_none replies.OutOfMemory is = refl
outcome_none reply is = is

bytes_none : (d : Done) → io_in (bytes_in d) ≡ 0
bytes_none (dones.Bytes bytes) = refl
bytes_none d = refl

reference_none : (d : Done) → io_in (reference_in d) ≡ 0
reference_none (dones.Reference reference) = refl
reference_none d = refl

position_none : (d : Done) → io_in (position_in d) ≡ 0
position_none (dones.Changed position) = refl
position_none d = refl

either_none : {X : Type 0} (test : Bool) (one two : Result X ClientFault) → io_in one ≡ 0 → io_in two ≡ 0 → io_in (if test then one else two) ≡ 0
either_none true one two first second = first
either_none false one two first second = second

fitting_none : (i : ℕ) (block : Block) (bytes : List ℕ) → io_in (fitting i block bytes) ≡ 0
fitting_none i block bytes =
    either_none (not (length bytes == block.size)) (Err (client.BadSize i block.size (length bytes)))
    (if not (bytes_eq (sha256 bytes) block.location.reference) then Err (client.Corrupt block.location.reference (sha256 bytes)) else Ok bytes) refl
    (either_none (not (bytes_eq (sha256 bytes) block.location.reference)) (Err (client.Corrupt block.location.reference (sha256 bytes))) (Ok bytes) refl refl)

kind_none : (kind : Kind) (entry : Entry) → io_in (file_blocks kind entry) ≡ 0
kind_none kinds.Link entry = refl
kind_none kinds.Directory entry = refl
kind_none kinds.File entry =
    either_none entry.attr.incomplete (Err client.NoRead) (if not (entry.packing == 1) then Err (client.Opaque entry.packing) else Ok entry.blocks) refl
    (either_none (not (entry.packing == 1)) (Err (client.Opaque entry.packing)) (Ok entry.blocks) refl refl)

blocks_none : (d : Done) → io_in (blocks_in d) ≡ 0
blocks_none (dones.Entry entry) = kind_none entry.attr.kind entry
blocks_none d = refl

short_none : (path : PathName) → io_in (short path) ≡ 0
short_none path = either_none (nat_lt 4096 (length (canonical path))) (Err client.TooLong) (Ok path) refl refl

led_io : (to : Option PathName) (go : PathName → Talking Done) (reply : Reply) → io_of reply ≡ 0 → ((next : PathName) → IoByReply (go next)) → IoByReply (led to go reply)
led_io (Some next) go reply is each = each next
led_io None go reply is each = at_end (outcome_none reply is)

following_io : (request : PathName → Request) (more : ℕ) (path : PathName) → IoByReply (following request more path)
unfolding following
following_io request zero path =
    asked_io (request path) (λ reply. led (leads_to path reply) (λ next. done (Err client.TooManyLinks)) reply)
    (λ reply is. led_io (leads_to path reply) (λ next. done (Err client.TooManyLinks)) reply is (λ next. at_end refl))
following_io request (suc more) path =
    asked_io (request path) (λ reply. led (leads_to path reply) (λ next. and_then (done (short next)) (following request more)) reply)
    (λ reply is. led_io (leads_to path reply) (λ next. and_then (done (short next)) (following request more)) reply is
    (λ next. then_io (done (short next)) (following request more) (at_end (short_none next)) (following_io request more)))

fetched_io : (endpoint : Endpoint) (i : ℕ) (block : Block) → IoByReply (fetched_at endpoint i block)
fetched_io endpoints.Local i block =
    after (λ reply is. at_end (then_none (outcome reply) (λ d. bytes_in d >>= λ bytes. fitting i block bytes) (outcome_none reply is)
    (λ d. then_none (bytes_in d) (λ bytes. fitting i block bytes) (bytes_none d) (λ bytes. fitting_none i block bytes))))
fetched_io (endpoints.Address address) i block = at_end refl

fetching_io : (i : ℕ) (blocks : List Block) (read : List (List ℕ)) → IoByReply (fetching i blocks read)
fetching_io i [] read = at_end refl
fetching_io i (block ∷ blocks) read =
    then_io (fetched_at block.location.endpoint i block) (λ bytes. fetching (i + 1) blocks (read ++ bytes ∷ [])) (fetched_io block.location.endpoint i block)
    (λ bytes. fetching_io (i + 1) blocks (read ++ bytes ∷ []))

joined_io : (blocks : List Block) → IoByReply (joined_blocks blocks)
joined_io blocks = then_io (fetching 0 blocks []) _ (fetching_io 0 blocks []) (λ read. at_end refl)

reading_io : (d : Done) → IoByReply (reading d)
reading_io d = then_io (done (blocks_in d)) joined_blocks (at_end (blocks_none d)) joined_io

pub get_io : (path : PathName) → IoByReply (get_talk path)
get_io path = then_io (following look_up_at 20 path) reading (following_io look_up_at 20 path) reading_io

stored_io : (piece : List ℕ) → IoByReply (stored piece)
stored_io piece =
    after (λ reply is. at_end (then_none (outcome reply) (λ d. reference_in d >>= λ given. if bytes_eq given (sha256 piece) then Ok given else Err (client.Corrupt (sha256 piece) given)) (outcome_none reply is)
    (λ d. then_none (reference_in d) (λ given. if bytes_eq given (sha256 piece) then Ok given else Err (client.Corrupt (sha256 piece) given)) (reference_none d)
    (λ given. either_none (bytes_eq given (sha256 piece)) (Ok given) (Err (client.Corrupt (sha256 piece) given)) refl refl))))

storing_io : (offset : ℕ) (pieces : List (List ℕ)) (blocks : List Block) → IoByReply (storing offset pieces blocks)
storing_io offset [] blocks = at_end refl
storing_io offset (piece ∷ pieces) blocks =
    then_io (stored piece) (λ reference. storing (offset + length piece) pieces (blocks ++ block_at offset (length piece) reference ∷ [])) (stored_io piece)
    (λ reference. storing_io (offset + length piece) pieces (blocks ++ block_at offset (length piece) reference ∷ []))

entering_io : (user : List ℕ) (time sequence : ℤ) (path : PathName) (blocks : List Block) → IoByReply (entering user time sequence path blocks)
entering_io user time sequence path blocks =
    then_io (following (put_file_at user time sequence blocks) 20 path) _ (following_io (put_file_at user time sequence blocks) 20 path) (λ d. at_end (position_none d))

pub put_io : (user : List ℕ) (path : PathName) (time sequence : ℤ) (bytes : List ℕ) → IoByReply (put_talk user path time sequence bytes)
put_io user path time sequence bytes =
    then_io (storing 0 (pieces_of bytes) []) (entering user time sequence path) (storing_io 0 (pieces_of bytes) []) (entering_io user time sequence path)
