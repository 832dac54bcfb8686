-- What a call of a host came to is short, and so is the payload that answers a request on a connection.
use Rattle.std.proofs.Common.{◌≡◌, ◌≤◌, ◌<◌, ℕ, zero, suc, Bool, true, false, List, [], ◌∷◌, length, take, refl, sym, ap, subst, ◌∙◌, inl, inr, Option, Some, None, arith}
use Rattle.std.specs.Prelude.{⊤, is_some, if◌then◌else◌, slice_get, option_map}
use Rattle.std.specs.Prelude as std
use Rattle.up_alone.specs.Alone.{AnswersAlone, HostAlone}
use Rattle.up_answers.specs.Answers.{answer, fault_reply}
use Rattle.up_answers.specs.Routes.{locations_asked}
use Rattle.up_blocks.specs.Records as blocks
use Rattle.up_blocks.specs.declared.record.BlockRecord.{BlockRecord}
use Rattle.up_calls.specs.Calls.{KeysTurn, Outcome, StoreTurn, TreeSays, TreeTurn}
use Rattle.up_calls.specs.Routes.{Question, refusal, refusal_by, route_refusal, service_of}
use Rattle.up_calls.specs.Services.{KeysSay, StoreSays, key_fault, key_leads, store_fault, store_leads}
use Rattle.up_calls.specs.Turns.{IsReplied}
use Rattle.up_calls.specs.Views.{SeenKeys, SeenStore, SeenTree, Views, log_seen}
use Rattle.up_calls.specs.declared.event.Event.{Event}
use Rattle.up_calls.specs.declared.service.Service.{Service}
use Rattle.up_calls.specs.declared.service.Service.TheVariants as service
use Rattle.up_edits.specs.Routes.{route_of}
use Rattle.up_edits.specs.declared.routes.Route.{Route}
use Rattle.up_edits.specs.declared.routes.Route.TheVariants as route
use Rattle.up_disk.specs.declared.disk.Disk as disk
use Rattle.up_entry.specs.declared.fault.EntryFault.{EntryFault}
use Rattle.up_entry.specs.declared.fault.EntryFault.TheVariants as fault
use Rattle.up_entry.specs.declared.what.What.{What}
use Rattle.up_host.specs.Alone.{views}
use Rattle.up_journal.specs.Logs.{EachFits}
use Rattle.up_keys.specs.Records as keys
use Rattle.up_list.specs.Asking.{asked_of, owner_asked}
use Rattle.up_list.specs.declared.asking.ReadRequest.{ReadRequest}
use Rattle.up_names.specs.Texts.{UserName}
use Rattle.up_peer.specs.declared.loader.Loader as loader
use Rattle.up_log_tree.proofs.Paths.{some_none, some_same}
use Rattle.up_wire.specs.Spelling.{IsReply, IsServer, server}
use Rattle.up_wire.specs.declared.keys.KeyRecord.{KeyRecord}
use Rattle.up_wire.specs.declared.messages.ServerFrame.{ServerFrame}
use Rattle.up_wire.specs.declared.messages.ServerFrame.TheVariants.{Answer}
use Rattle.up_wire.specs.declared.replies.Reply.{Reply}
use Rattle.up_wire.specs.declared.replies.Reply.TheVariants as reply
use Rattle.up_wire.specs.declared.requests.Request.{Request}
use Rattle.up_answers.specs.Answers.{log_owner}
use Rattle.up_alone.specs.Short.{ConnectionRepliesAreShort, HostRepliesAreShort, IsShort, KeyRepliesAreShort, LogsFit, StoreRepliesAreShort, TreeRepliesAreShort, most_bytes}
use Rattle.up_alone.proofs.ReplyLemmas.{keys_short, store_short, tree_short}
use Rattle.up_alone.proofs.SizeLemmas.{IsFew, few_short}

pub tree_replies_are_short : TreeRepliesAreShort
tree_replies_are_short = tree_short

pub store_replies_are_short : StoreRepliesAreShort
store_replies_are_short = store_short

pub key_replies_are_short : KeyRepliesAreShort
key_replies_are_short = keys_short

-- ---- no log is looked at

abbrev FewRefusal : Option Reply → Type 0
FewRefusal None = ⊤
FewRefusal (Some given) = IsFew given

abbrev FewRoute : Route → Type 0
FewRoute (route.Refused given) = IsFew given
FewRoute (route.Tree owner locations) = ⊤

fault_few : (why : EntryFault) → IsFew (fault_reply why)
fault_few (fault.Invalid w) = tt
fault_few fault.OutOfMemory = tt

route_few : (user : UserName) (request : Request) → FewRoute (route_of user request)
unfolding route_of
route_few user request = go (asked_of user request)
  where
    go : (o : std.Result ReadRequest EntryFault) → FewRoute (elim o as (λ _. Route) [ std.Ok asked ↦ route.Tree (log_owner (owner_asked asked)) (locations_asked asked) | std.Err why ↦ route.Refused (fault_reply why) ])
    go (std.Ok asked) = tt
    go (std.Err why) = fault_few why

by_route : (a : Views) (on : Route) → FewRoute on → FewRefusal (route_refusal a on)
by_route a (route.Refused given) few = few
by_route a (route.Tree owner locations) few = go (is_some (a.tree owner))
  where
    go : (b : Bool) → FewRefusal (if b then None else Some reply.WrongHost)
    go true = tt
    go false = tt

invalid_few : (o : Option What) → FewRefusal (option_map (λ w. reply.Invalid w) o)
invalid_few None = tt
invalid_few (Some w) = tt

by_service : (a : Views) (q : Question) (s : Service) → FewRefusal (refusal_by a q s)
by_service a q service.Directory = by_route a (route_of q.user q.request) (route_few q.user q.request)
by_service a q service.Store = invalid_few (store_fault q.request)
by_service a q service.Keys = invalid_few (key_fault q.request)

refused_few : (a : Views) (q : Question) (given : Reply) → refusal a q ≡ Some given → IsFew given
unfolding refusal
refused_few a q given is = subst FewRefusal is (by_service a q (service_of q.request))

-- ---- one call

-- the first records of a log fit as all do
front_fits : {R : Type 0} (fits : List R → R → Bool) (n : ℕ) (log : List R) → EachFits fits log → EachFits fits (take n log)
front_fits {R} fits n log all = record { each = λ i r got. subst (λ front. fits front r ≡ true) (same i n log r got) (all.each i r (got_in i n log r got)) }
  where
    got_in : (i n : ℕ) (xs : List R) (r : R) → slice_get (take n xs) i ≡ Some r → slice_get xs i ≡ Some r
    got_in i zero xs r got = absurd (some_none r (sym got))
    got_in i (suc n) [] r got = absurd (some_none r (sym got))
    got_in zero (suc n) (x ∷ xs) r got = got
    got_in (suc i) (suc n) (x ∷ xs) r got = got_in i n xs r got

    same : (i n : ℕ) (xs : List R) (r : R) → slice_get (take n xs) i ≡ Some r → take i xs ≡ take i (take n xs)
    same i zero xs r got = absurd (some_none r (sym got))
    same i (suc n) [] r got = absurd (some_none r (sym got))
    same zero (suc n) (x ∷ xs) r got = refl
    same (suc i) (suc n) (x ∷ xs) r got = ap (λ front. x ∷ front) (same i n xs r got)

io_short : (given : Reply) → given ≡ reply.Io → IsShort given
io_short given is = subst IsShort (sym is) (few_short reply.Io tt tt)

tree_turn_short : (operator : UserName) (a b : Views) (v w : SeenTree) (q : Question) (e : Event) → TreeTurn operator a b v w q e → IsReply e.reply → IsShort e.reply
tree_turn_short operator a b v w q e (inr failed) is = io_short e.reply failed.0.io
tree_turn_short operator a b v w q e (inl replied) is =
    let says = replied.0.reply in
    let log = record (log_seen w) { records = take e.position w.seen } in
    subst IsShort (sym says.reply) (tree_short log e.loaded e.fetched q.user q.request e.moment says.legal (subst IsReply says.reply is))

store_turn_short : (operator : UserName) (v w : SeenStore) (q : Question) (e : Event) → StoreTurn operator v w q e → EachFits blocks.fits w.seen → IsReply e.reply → IsShort e.reply
store_turn_short operator v w q e (inr failed) fits is = io_short e.reply failed.io
store_turn_short operator v w q e (inl replied) fits is =
    store_short operator q.user q.request w.fixed (take e.position w.seen) replied.added e.reply (front_fits blocks.fits e.position w.seen fits) replied.reply is

keys_turn_short : (v w : SeenKeys) (q : Question) (e : Event) → KeysTurn v w q e → EachFits keys.fits w.seen → IsReply e.reply → IsShort e.reply
keys_turn_short v w q e (inr failed) fits is = io_short e.reply failed.io
keys_turn_short v w q e (inl replied) fits is =
    keys_short q.user q.request w.fixed (take e.position w.seen) replied.added e.reply (front_fits keys.fits e.position w.seen fits) replied.reply is

pub host_replies_are_short : HostRepliesAreShort
host_replies_are_short operator a b q e (Outcome.Refused refused position plain own) fits is = few_short e.reply is (refused_few a q e.reply refused)
host_replies_are_short operator a b q e (Outcome.ByTree owner v w refused asked before after turn) fits is = tree_turn_short operator a b v w q e turn is
host_replies_are_short operator a b q e (Outcome.ByStore refused asked plain turn) fits is = store_turn_short operator a.store b.store q e turn fits.store is
host_replies_are_short operator a b q e (Outcome.ByKeys refused asked plain turn) fits is = keys_turn_short a.keys b.keys q e turn fits.keys is
host_replies_are_short operator a b q e (Outcome.Wanting wants own) fits is = subst IsShort (sym wants) (few_short reply.OutOfMemory tt tt)

-- ---- a connection

pub connection_replies_are_short : {D L : Type 0} (disks : disk.Ghosts D) (loaders : loader.Ghosts L) → ConnectionRepliesAreShort disks loaders
connection_replies_are_short disks loaders a user request moment frame b answers fits is =
    let asks = answers.asks in
    let of_event : IsReply answers.event.reply = subst IsServer answers.frame_is is in
    subst (λ f. length (server f) ≤ most_bytes) (sym answers.frame_is)
    (host_replies_are_short a.host.operator (views disks a.host) (views disks b.host) (record { user = user; request = request }) answers.event asks.asked.outcome fits of_event)
