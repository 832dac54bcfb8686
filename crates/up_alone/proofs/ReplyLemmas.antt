-- What a tree, a store and the keys answer is short.
use Rattle.std.proofs.Common.{◌≡◌, ◌≤◌, ◌||◌, ℕ, zero, suc, ◌+◌, Bool, true, false, not, List, [], ◌∷◌, length, take, refl, sym, ap, subst, ◌∙◌, Option, Some, None, Result, Ok, Err, arith, bytes_eq}
use Rattle.std.specs.Prelude.{⊤, nat_lt, slice_get, fold, if◌then◌else◌}
use Rattle.std.specs.FinMap.Entries.{find}
use Rattle.std.specs.List.{AllByRecursion}
use Rattle.std.proofs.lemmas.Bool.{and_parts, leb-true}
use Rattle.up_answers.specs.Answers.{answer, outcome}
use Rattle.up_answers.specs.Laws.{IsWhole}
use Rattle.up_blocks.specs.Records as blocks
use Rattle.up_blocks.specs.Records.{held_sizes, holds, largest_block, put_record, reference_cmp, size_in, sized_after}
use Rattle.up_blocks.specs.declared.record.BlockRecord.{BlockRecord}
use Rattle.up_blocks.specs.declared.record.BlockRecord.TheVariants as block
use Rattle.up_calls.specs.Services.{IsBlock, KeysSay, Leads, StoreSays, adding, card_leads, delete_leads, get_leads, key_leads, put_leads, store_leads}
use Rattle.up_entry.specs.declared.records.Rec.{Rec}
use Rattle.up_entry.specs.declared.what.What.TheVariants as what
use Rattle.up_journal.specs.Journal.{is_full}
use Rattle.up_journal.specs.Logs.{EachFits}
use Rattle.up_journal.specs.declared.limits.Limits.{Limits}
use Rattle.up_keys.specs.Answers.{known_reply, looked_up, may_put, record_of, reply_of_name, to_put, to_put_named}
use Rattle.up_keys.specs.Keys as key_sizes
use Rattle.up_keys.specs.Records as keys
use Rattle.up_keys.specs.Records.{has_bounds, keeps_bounds, keys_of, record_in, user_cmp, with_record}
use Rattle.up_list.specs.Changes as changes
use Rattle.up_list.specs.Changes.{answer_of}
use Rattle.up_names.specs.UserNames.{user_of}
use Rattle.up_names.specs.declared.fault.NameFault.{NameFault}
use Rattle.up_refs.specs.References.{reference_in}
use Rattle.up_refs.specs.Sha256.{sha256}
use Rattle.up_log_tree.specs.Logs.{Log}
use Rattle.up_rights.specs.declared.Right.TheVariants as right
use Rattle.up_log_tree.specs.Sizes.{size_of}
use Rattle.up_wire.specs.Bounds.{bounded}
use Rattle.up_wire.specs.Keys.{logged}
use Rattle.up_wire.specs.Spelling.{IsReply}
use Rattle.up_wire.specs.declared.keys.KeyCard.{KeyCard}
use Rattle.up_wire.specs.declared.keys.KeyRecord.{KeyRecord}
use Rattle.up_wire.specs.declared.replies.Done.TheVariants as done
use Rattle.up_wire.specs.declared.replies.Reply.{Reply}
use Rattle.up_wire.specs.declared.replies.Reply.TheVariants as reply
use Rattle.up_wire.specs.declared.requests.Request.{Request}
use Rattle.up_wire.specs.declared.requests.Request.TheVariants as request
use Rattle.up_alone.specs.Short.{IsShort, KeyRepliesAreShort, StoreRepliesAreShort, TreeRepliesAreShort}
use Rattle.up_alone.proofs.BareLemmas.{BareLed, outcome_bare}
use Rattle.up_alone.proofs.EachLemmas.{Each, all_filter, all_fold, all_got, each_found, each_put}
use Rattle.up_alone.proofs.SizeLemmas.{IsFew, bounded_short, few_short}

-- ---- a tree

answered_short : (log : Log) (led : Result Rec Reply) → BareLed led → IsReply (answer_of log led) → IsShort (answer_of log led)
unfolding answer_of
answered_short log (Err given) bare is = bounded_short given bare is
answered_short log (Ok r) bare is = go (nat_lt log.limits.largest (size_of r)) (changes.is_full log (size_of r)) is
  where
    go : (a b : Bool) → IsReply (if a then reply.TooLarge (size_of r) else if b then reply.Full (length log.records) else reply.Ok (done.Changed (length log.records + 1)))
        → IsShort (if a then reply.TooLarge (size_of r) else if b then reply.Full (length log.records) else reply.Ok (done.Changed (length log.records + 1)))
    go true b is = few_short (reply.TooLarge (size_of r)) is tt
    go false true is = few_short (reply.Full (length log.records)) is tt
    go false false is = few_short (reply.Ok (done.Changed (length log.records + 1))) is tt

pub tree_short : TreeRepliesAreShort
unfolding answer
tree_short log loaded fetched user request now whole is =
    answered_short log (outcome log loaded fetched user request now) (outcome_bare log user now whole loaded fetched request) is

-- ---- what the records of a log leave

abbrev AllFit : {R : Type 0} → (R → Type 0) → List R → Type 0
AllFit P log = AllByRecursion P log

-- a block is not too long
abbrev SmallBlock : BlockRecord → Type 0
SmallBlock (block.Put reference size bytes) = size ≤ largest_block
SmallBlock (block.Delete reference) = ⊤

block_small : (log : List BlockRecord) (r : BlockRecord) → blocks.fits log r ≡ true → SmallBlock r
block_small log (block.Put reference size bytes) fits = leb-true size largest_block (and_parts _ _ fits).0
block_small log (block.Delete reference) fits = tt

abbrev Small : ℕ → Type 0
Small size = size ≤ largest_block

sized_small : (sizes : List (List ℕ × ℕ)) (r : BlockRecord) → Each reference_cmp Small sizes → SmallBlock r → Each reference_cmp Small (sized_after sizes r)
sized_small sizes (block.Put reference size bytes) all is = each_put reference_cmp Small reference size sizes is all
sized_small sizes (block.Delete reference) all is = all_filter _ _ sizes all

size_small : (log : List BlockRecord) (reference : List ℕ) (size : ℕ) → EachFits blocks.fits log → size_in log reference ≡ Some size → size ≤ largest_block
size_small log reference size fits is =
    each_found reference_cmp Small reference (held_sizes log) size
    (all_fold SmallBlock (Each reference_cmp Small) sized_after sized_small [] log tt (all_got SmallBlock log (λ n r got. block_small (take n log) r (fits.each n r got)))) is

-- a record of the keys keeps its bounds
abbrev Bounded : KeyRecord → Type 0
Bounded known = has_bounds known ≡ true

known_bounded : (log : List KeyRecord) (user : List ℕ) (known : KeyRecord) → EachFits keys.fits log → record_in log user ≡ Some known → has_bounds known ≡ true
known_bounded log user known fits is =
    each_found user_cmp Bounded user (keys_of log) known
    (all_fold Bounded (Each user_cmp Bounded) with_record (λ known_by one all bounds. each_put user_cmp Bounded one.user one known_by bounds all) [] log tt (all_got Bounded log (λ n r got. fits.each n r got))) is

-- ---- the store

-- what is said and what is said of a record that is added has few bytes
abbrev FewLed : {E : Type 0} → Leads E → Type 0
FewLed (Leads.Says meant) = IsFew meant
FewLed (Leads.Adds r meant) = IsFew meant
FewLed (Leads.Reads reference) = ⊤

adding_few : {E : Type 0} (full : Bool) (position : ℕ) (r : E) (given : Reply) → IsFew given → FewLed (adding full position r given)
adding_few true position r given few = tt
adding_few false position r given few = few

get_few : (log : List BlockRecord) (o : Option (List ℕ)) → FewLed (get_leads log o)
get_few log None = tt
get_few log (Some reference) = go (holds log reference)
  where
    go : (b : Bool) → FewLed {E = BlockRecord} (if b then Leads.Reads reference else Leads.Says reply.NotExist)
    go true = tt
    go false = tt

put_few : (limits : Limits) (log : List BlockRecord) (bytes : List ℕ) → FewLed (put_leads limits log bytes)
put_few limits log bytes = go (holds log (sha256 bytes))
  where
    added : Leads BlockRecord
    added = adding (is_full limits (blocks.sizes_of log) (blocks.size_of (put_record true bytes))) (length log) (put_record true bytes) (reply.Ok (done.Reference (sha256 bytes)))

    go : (b : Bool) → FewLed (if b then Leads.Says (reply.Ok (done.Reference (sha256 bytes))) else added)
    go true = tt
    go false = adding_few (is_full limits (blocks.sizes_of log) (blocks.size_of (put_record true bytes))) (length log) (put_record true bytes) (reply.Ok (done.Reference (sha256 bytes))) tt

delete_few : (operator user : List ℕ) (limits : Limits) (log : List BlockRecord) (o : Option (List ℕ)) → FewLed (delete_leads operator user limits log o)
delete_few operator user limits log None = tt
delete_few operator user limits log (Some reference) = go (bytes_eq user operator) (holds log reference)
  where
    added : Leads BlockRecord
    added = adding (is_full limits (blocks.sizes_of log) (blocks.size_of (block.Delete reference))) (length log) (block.Delete reference) (reply.Ok (done.Changed (length log + 1)))

    go : (a b : Bool) → FewLed (if not a then Leads.Says (reply.Permission right.Delete) else if not b then Leads.Says reply.NotExist else added)
    go false b = tt
    go true false = tt
    go true true = adding_few (is_full limits (blocks.sizes_of log) (blocks.size_of (block.Delete reference))) (length log) (block.Delete reference) (reply.Ok (done.Changed (length log + 1))) tt

store_few : (operator user : List ℕ) (asked : Request) (limits : Limits) (log : List BlockRecord) → FewLed (store_leads operator user asked limits log)
unfolding store_leads
store_few operator user (request.Get text) limits log = get_few log (reference_in text)
store_few operator user (request.StorePut bytes) limits log = put_few limits log bytes
store_few operator user (request.StoreDelete text) limits log = delete_few operator user limits log (reference_in text)
store_few operator user (request.Lookup text) limits log = tt
store_few operator user (request.Put put) limits log = tt
store_few operator user (request.Delete text) limits log = tt
store_few operator user (request.Glob text) limits log = tt
store_few operator user (request.WhichAccess text) limits log = tt
store_few operator user (request.Watch text sequence) limits log = tt
store_few operator user (request.GroupText text) limits log = tt
store_few operator user (request.KeyLookup text) limits log = tt
store_few operator user (request.KeyPut card) limits log = tt

store_said_few : (log added : List BlockRecord) (leads : Leads BlockRecord) (said : Reply) → EachFits blocks.fits log → FewLed leads → StoreSays log leads said added → IsFew said
store_said_few log added (Leads.Says meant) said fits few says = subst IsFew (sym says.0) few
store_said_few log added (Leads.Adds r meant) said fits few says = subst IsFew (sym says.0) few
store_said_few log added (Leads.Reads reference) said fits few says =
    let of = says.1 in
    subst IsFew (sym of.1) (size_small log reference (length of.0) fits of.2.size)

pub store_short : StoreRepliesAreShort
store_short operator user asked limits log added said fits says is =
    few_short said is (store_said_few log added (store_leads operator user asked limits log) said fits (store_few operator user asked limits log) says)

-- ---- the keys

found_few : (log : List KeyRecord) (user : List ℕ) → EachFits keys.fits log → IsFew (known_reply (record_in log user))
found_few log user fits = go (record_in log user) refl
  where
    go : (o : Option KeyRecord) → record_in log user ≡ o → IsFew (known_reply o)
    go None is = tt
    go (Some known) is = known_bounded log user known fits is

named_few : (log : List KeyRecord) (o : Result (List ℕ) NameFault) → EachFits keys.fits log → IsFew (reply_of_name log o)
named_few log (Ok user) fits = found_few log user fits
named_few log (Err fault) fits = tt

looked_few : (log : List KeyRecord) (text : List ℕ) → EachFits keys.fits log → IsFew (looked_up log text)
unfolding looked_up
looked_few log text fits = named_few log (user_of text) fits

abbrev FewPut : Result KeyRecord Reply → Type 0
FewPut (Ok known) = ⊤
FewPut (Err refusal) = IsFew refusal

to_put_few : (user : List ℕ) (card : KeyCard) (o : Result (List ℕ) NameFault) → FewPut (to_put_named user card o)
to_put_few user card (Err fault) = tt
to_put_few user card (Ok named) = go (keeps_bounds card.dirs card.stores card.key) (may_put user named)
  where
    go : (a b : Bool) → FewPut (if not a then Err (reply.Invalid what.Key) else if not b then Err (reply.Permission right.Write) else Ok (record_of named card))
    go false b = tt
    go true false = tt
    go true true = tt

card_few : (limits : Limits) (log : List KeyRecord) (o : Result KeyRecord Reply) → FewPut o → FewLed (card_leads limits log o)
card_few limits log (Err refusal) few = few
card_few limits log (Ok known) few = adding_few (is_full limits (key_sizes.sizes_of log) (length (logged known))) (length log) known (reply.Ok (done.Changed (length log + 1))) tt

put_card_few : (user : List ℕ) (card : KeyCard) (limits : Limits) (log : List KeyRecord) → FewLed (card_leads limits log (to_put user card))
unfolding to_put
put_card_few user card limits log = card_few limits log (to_put_named user card (user_of card.user)) (to_put_few user card (user_of card.user))

keys_few : (user : List ℕ) (asked : Request) (limits : Limits) (log : List KeyRecord) → EachFits keys.fits log → FewLed (key_leads user asked limits log)
unfolding key_leads
keys_few user (request.KeyLookup text) limits log fits = looked_few log text fits
keys_few user (request.KeyPut card) limits log fits = put_card_few user card limits log
keys_few user (request.Get text) limits log fits = tt
keys_few user (request.StorePut bytes) limits log fits = tt
keys_few user (request.StoreDelete text) limits log fits = tt
keys_few user (request.Lookup text) limits log fits = tt
keys_few user (request.Put put) limits log fits = tt
keys_few user (request.Delete text) limits log fits = tt
keys_few user (request.Glob text) limits log fits = tt
keys_few user (request.WhichAccess text) limits log fits = tt
keys_few user (request.Watch text sequence) limits log fits = tt
keys_few user (request.GroupText text) limits log fits = tt

keys_said_few : (leads : Leads KeyRecord) (said : Reply) (added : List KeyRecord) → FewLed leads → KeysSay leads said added → IsFew said
keys_said_few (Leads.Says meant) said added few says = subst IsFew (sym says.0) few
keys_said_few (Leads.Adds r meant) said added few says = subst IsFew (sym says.0) few
keys_said_few (Leads.Reads reference) said added few says = absurd says

pub keys_short : KeyRepliesAreShort
keys_short user asked limits log added said fits says is =
    few_short said is (keys_said_few (key_leads user asked limits log) said added (keys_few user asked limits log fits) says)
