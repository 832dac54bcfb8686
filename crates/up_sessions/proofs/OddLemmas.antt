-- A client that is answered by what it asked for never tells of an odd reply.
use Rattle.std.proofs.Common.{◌≡◌, ◌≢◌, ◌+◌, ℕ, ℤ, zero, suc, Bool, true, false, not, ◌==◌, nat_lt, if◌then◌else◌, List, [], ◌∷◌, ◌++◌, length, Option, Some, None, Result, Ok, Err, subst}
use Rattle.std.specs.Str.{bytes_eq}
use Rattle.sha2.specs.Sha256.{sha256}
use Rattle.up_client.specs.Getting.{blocks_in, fetched_at, fetching, file_blocks, fitting, get_talk, joined_blocks, look_up_at, reading}
use Rattle.up_client.specs.Links.{following, leads_to, led, short}
use Rattle.up_client.specs.Putting.{block_at, entering, pieces_of, put_file_at, put_talk, stored, storing}
use Rattle.up_client.specs.Replies.{◌>>=◌, bytes_in, outcome, position_in, reference_in}
use Rattle.up_client.specs.Talks.{Held, Talking, and_then, asking, done, ended, heard, unanswered, wanting}
use Rattle.up_client.specs.declared.fault.ClientFault.{ClientFault}
use Rattle.up_client.specs.declared.fault.ClientFault.TheVariants as client
use Rattle.up_entry.specs.declared.entries.Block.{Block}
use Rattle.up_entry.specs.declared.entries.Endpoint.{Endpoint}
use Rattle.up_entry.specs.declared.entries.Endpoint.TheVariants as endpoints
use Rattle.up_entry.specs.declared.entries.Entry.{Entry}
use Rattle.up_entry.specs.declared.entries.Kind.{Kind}
use Rattle.up_entry.specs.declared.entries.Kind.TheVariants as kinds
use Rattle.up_log_tree.specs.Trees.{is_link}
use Rattle.up_names.specs.PathNames.{PathName, canonical}
use Rattle.up_refs.specs.References.{text_of}
use Rattle.up_sessions.proofs.KindLemmas.{IsBytes, IsChange, IsFileEntry, IsReference, KindIn, OfKind}
use Rattle.up_wire.specs.declared.replies.Done.{Done}
use Rattle.up_wire.specs.declared.replies.Done.TheVariants as dones
use Rattle.up_wire.specs.declared.replies.Reply.{Reply}
use Rattle.up_wire.specs.declared.replies.Reply.TheVariants as replies
use Rattle.up_wire.specs.declared.requests.Request.{Request}
use Rattle.up_wire.specs.declared.requests.Request.TheVariants as requests

-- a conversation in which each reply is of the kind that was asked for comes to such a result
pub data ComesTo {X : Type 0} (P : Result X ClientFault → Type 0) : Talking X → Type 0 where
  at_end : {result : Result X ClientFault} → P result → ComesTo P (done result)
  after : {request : Request} {hear : Reply → Talking X} → ((reply : Reply) → OfKind request reply → ComesTo P (hear reply)) → ComesTo P (asking request hear)

-- the fault tells of no odd reply
abbrev pub IsEven : ClientFault → Type 0
IsEven client.Odd = ⊥
IsEven other = Unit {0}

-- no odd reply is told of, and what came of it is this
abbrev pub Comes : {X : Type 0} → (X → Type 0) → Result X ClientFault → Type 0
Comes K (Ok x) = K x
Comes K (Err fault) = IsEven fault

abbrev pub Any : {X : Type 0} → X → Type 0
Any x = Unit {0}

then_comes : {X Y : Type 0} (K : X → Type 0) (L : Y → Type 0) (talk : Talking X) (more : X → Talking Y) → ComesTo (Comes K) talk → ((x : X) → K x → ComesTo (Comes L) (more x)) → ComesTo (Comes L) (and_then talk more)
then_comes K L (done (Ok x)) more (at_end k) rest = rest x k
then_comes K L (done (Err fault)) more (at_end even) rest = at_end even
then_comes K L (asking request hear) more (after each) rest = after (λ reply kind. then_comes K L (hear reply) more (each reply kind) rest)

either_comes : {X : Type 0} (K : X → Type 0) (test : Bool) (one two : Result X ClientFault) → Comes K one → Comes K two → Comes K (if test then one else two)
either_comes K true one two first second = first
either_comes K false one two first second = second

-- ---- the entry

outcome_comes : (K : Done → Type 0) (reply : Reply) (request : Request) → ((d : Done) → KindIn request d → K d) → OfKind request reply → Comes K (outcome reply)
outcome_comes K (replies.Ok d) request each kind = each d kind
outcome_comes K replies.OutOfMemory request each kind = tt
outcome_comes K other request each kind = tt

led_comes : (K : Done → Type 0) (to : Option PathName) (go : PathName → Talking Done) (reply : Reply) → Comes K (outcome reply) → ((next : PathName) → ComesTo (Comes K) (go next)) → ComesTo (Comes K) (led to go reply)
led_comes K (Some next) go reply kind each = each next
led_comes K None go reply kind each = at_end kind

short_comes : (path : PathName) → Comes Any (short path)
short_comes path = either_comes Any (nat_lt 4096 (length (canonical path))) (Err client.TooLong) (Ok path) tt tt

following_comes : (K : Done → Type 0) (request : PathName → Request) → ((path : PathName) (d : Done) → KindIn (request path) d → K d) → (more : ℕ) (path : PathName) → ComesTo (Comes K) (following request more path)
unfolding following
following_comes K request each zero path =
    after (λ reply kind. led_comes K (leads_to path reply) (λ next. done (Err client.TooManyLinks)) reply (outcome_comes K reply (request path) (each path) kind) (λ next. at_end tt))
following_comes K request each (suc more) path =
    after (λ reply kind. led_comes K (leads_to path reply) (λ next. and_then (done (short next)) (following request more)) reply (outcome_comes K reply (request path) (each path) kind)
    (λ next. then_comes Any K (done (short next)) (following request more) (at_end (short_comes next)) (λ p any. following_comes K request each more p)))

-- ---- get

fitting_comes : (i : ℕ) (block : Block) (bytes : List ℕ) → Comes Any (fitting i block bytes)
fitting_comes i block bytes =
    either_comes Any (not (length bytes == block.size)) (Err (client.BadSize i block.size (length bytes)))
    (if not (bytes_eq (sha256 bytes) block.location.reference) then Err (client.Corrupt block.location.reference (sha256 bytes)) else Ok bytes) tt
    (either_comes Any (not (bytes_eq (sha256 bytes) block.location.reference)) (Err (client.Corrupt block.location.reference (sha256 bytes))) (Ok bytes) tt tt)

then_even : {A B : Type 0} (K : A → Type 0) (L : B → Type 0) (first : Result A ClientFault) (next : A → Result B ClientFault) → Comes K first → ((x : A) → K x → Comes L (next x)) → Comes L (first >>= next)
then_even K L (Ok x) next one two = two x one
then_even K L (Err fault) next one two = one

bytes_come : (d : Done) → IsBytes d → Comes Any (bytes_in d)
bytes_come (dones.Bytes bytes) kind = tt
bytes_come (dones.Entry entry) kind = absurd kind
bytes_come (dones.Access entry) kind = absurd kind
bytes_come (dones.Text text) kind = absurd kind
bytes_come (dones.Rows rows) kind = absurd kind
bytes_come (dones.Events events cursor) kind = absurd kind
bytes_come (dones.Changed position) kind = absurd kind
bytes_come (dones.Reference reference) kind = absurd kind
bytes_come (dones.Key known) kind = absurd kind

fetched_comes : (endpoint : Endpoint) (i : ℕ) (block : Block) → ComesTo (Comes Any) (fetched_at endpoint i block)
fetched_comes endpoints.Local i block =
    after (λ reply kind. at_end (then_even IsBytes Any (outcome reply) (λ d. bytes_in d >>= λ bytes. fitting i block bytes) (outcome_comes IsBytes reply (requests.Get (text_of block.location.reference)) (λ d k. k) kind)
    (λ d k. then_even Any Any (bytes_in d) (λ bytes. fitting i block bytes) (bytes_come d k) (λ bytes any. fitting_comes i block bytes))))
fetched_comes (endpoints.Address address) i block = at_end tt

fetching_comes : (i : ℕ) (blocks : List Block) (read : List (List ℕ)) → ComesTo (Comes Any) (fetching i blocks read)
fetching_comes i [] read = at_end tt
fetching_comes i (block ∷ blocks) read =
    then_comes Any Any (fetched_at block.location.endpoint i block) (λ bytes. fetching (i + 1) blocks (read ++ bytes ∷ [])) (fetched_comes block.location.endpoint i block)
    (λ bytes any. fetching_comes (i + 1) blocks (read ++ bytes ∷ []))

joined_comes : (blocks : List Block) → ComesTo (Comes Any) (joined_blocks blocks)
joined_comes blocks = then_comes Any Any (fetching 0 blocks []) _ (fetching_comes 0 blocks []) (λ read any. at_end tt)

kind_comes : (kind : Kind) (entry : Entry) → is_link kind ≡ false → Comes Any (file_blocks kind entry)
kind_comes kinds.Link entry plain = absurd (cc)
kind_comes kinds.Directory entry plain = tt
kind_comes kinds.File entry plain =
    either_comes Any entry.attr.incomplete (Err client.NoRead) (if not (entry.packing == 1) then Err (client.Opaque entry.packing) else Ok entry.blocks) tt
    (either_comes Any (not (entry.packing == 1)) (Err (client.Opaque entry.packing)) (Ok entry.blocks) tt tt)

blocks_come : (d : Done) → IsFileEntry d → Comes Any (blocks_in d)
blocks_come (dones.Entry entry) kind = kind_comes entry.attr.kind entry kind
blocks_come (dones.Bytes bytes) kind = absurd kind
blocks_come (dones.Access entry) kind = absurd kind
blocks_come (dones.Text text) kind = absurd kind
blocks_come (dones.Rows rows) kind = absurd kind
blocks_come (dones.Events events cursor) kind = absurd kind
blocks_come (dones.Changed position) kind = absurd kind
blocks_come (dones.Reference reference) kind = absurd kind
blocks_come (dones.Key known) kind = absurd kind

reading_comes : (d : Done) → IsFileEntry d → ComesTo (Comes Any) (reading d)
reading_comes d kind = then_comes Any Any (done (blocks_in d)) joined_blocks (at_end (blocks_come d kind)) (λ blocks any. joined_comes blocks)

pub get_comes : (path : PathName) → ComesTo (Comes Any) (get_talk path)
get_comes path = then_comes IsFileEntry Any (following look_up_at 20 path) reading (following_comes IsFileEntry look_up_at (λ p d k. k) 20 path) reading_comes

-- ---- put

reference_comes : (d : Done) → IsReference d → Comes Any (reference_in d)
reference_comes (dones.Reference reference) kind = tt
reference_comes (dones.Entry entry) kind = absurd kind
reference_comes (dones.Bytes bytes) kind = absurd kind
reference_comes (dones.Access entry) kind = absurd kind
reference_comes (dones.Text text) kind = absurd kind
reference_comes (dones.Rows rows) kind = absurd kind
reference_comes (dones.Events events cursor) kind = absurd kind
reference_comes (dones.Changed position) kind = absurd kind
reference_comes (dones.Key known) kind = absurd kind

position_comes : (d : Done) → IsChange d → Comes Any (position_in d)
position_comes (dones.Changed position) kind = tt
position_comes (dones.Entry entry) kind = absurd kind
position_comes (dones.Bytes bytes) kind = absurd kind
position_comes (dones.Access entry) kind = absurd kind
position_comes (dones.Text text) kind = absurd kind
position_comes (dones.Rows rows) kind = absurd kind
position_comes (dones.Events events cursor) kind = absurd kind
position_comes (dones.Reference reference) kind = absurd kind
position_comes (dones.Key known) kind = absurd kind

stored_comes : (piece : List ℕ) → ComesTo (Comes Any) (stored piece)
stored_comes piece =
    after (λ reply kind. at_end (then_even IsReference Any (outcome reply) (λ d. reference_in d >>= λ given. if bytes_eq given (sha256 piece) then Ok given else Err (client.Corrupt (sha256 piece) given)) (outcome_comes IsReference reply (requests.StorePut piece) (λ d k. k) kind)
    (λ d k. then_even Any Any (reference_in d) (λ given. if bytes_eq given (sha256 piece) then Ok given else Err (client.Corrupt (sha256 piece) given)) (reference_comes d k)
    (λ given any. either_comes Any (bytes_eq given (sha256 piece)) (Ok given) (Err (client.Corrupt (sha256 piece) given)) tt tt))))

storing_comes : (offset : ℕ) (pieces : List (List ℕ)) (blocks : List Block) → ComesTo (Comes Any) (storing offset pieces blocks)
storing_comes offset [] blocks = at_end tt
storing_comes offset (piece ∷ pieces) blocks =
    then_comes Any Any (stored piece) (λ reference. storing (offset + length piece) pieces (blocks ++ block_at offset (length piece) reference ∷ [])) (stored_comes piece)
    (λ reference any. storing_comes (offset + length piece) pieces (blocks ++ block_at offset (length piece) reference ∷ []))

entering_comes : (user : List ℕ) (time sequence : ℤ) (path : PathName) (blocks : List Block) → ComesTo (Comes Any) (entering user time sequence path blocks)
entering_comes user time sequence path blocks =
    then_comes IsChange Any (following (put_file_at user time sequence blocks) 20 path) _ (following_comes IsChange (put_file_at user time sequence blocks) (λ p d k. k) 20 path) (λ d k. at_end (position_comes d k))

pub put_comes : (user : List ℕ) (path : PathName) (time sequence : ℤ) (bytes : List ℕ) → ComesTo (Comes Any) (put_talk user path time sequence bytes)
put_comes user path time sequence bytes =
    then_comes Any Any (storing 0 (pieces_of bytes) []) (entering user time sequence path) (storing_comes 0 (pieces_of bytes) []) (λ blocks any. entering_comes user time sequence path blocks)

-- ---- what came of it

-- where whoever is asked answers by what was asked for, and always answers
pub held_comes : {S X : Type 0} (answers : S → Request → Option Reply → S → Type 0) → ((a b : S) (request : Request) (reply : Reply) → answers a request (Some reply) b → OfKind request reply)
    → (talk : Talking X) (a b : S) (result : Result X ClientFault) → ComesTo (Comes Any) talk → Held answers talk a result b → Comes Any result
held_comes answers kind talk a b result (at_end comes) ended = comes
held_comes answers kind talk a b result by wanting = tt
held_comes answers kind talk a b result by (unanswered none) = tt
held_comes answers kind talk a b result (after each) (heard {request = request} {hear = hear} {next = next} reply answer rest) =
    held_comes answers kind (hear reply) next b result (each reply (kind a next request reply answer)) rest

pub never_odd : {X : Type 0} (result : Result X ClientFault) → Comes Any result → result ≢ Err client.Odd
never_odd {X} result comes odd = subst (Comes {X = X} Any) odd comes
