-- How long the payload of a reply is. This project's own bound.
use Rattle.std.specs.Prelude.{◌≤◌, ℕ, List, length}
use Rattle.up_alone.specs.Alone.{AnswersAlone, HostAlone}
use Rattle.up_answers.specs.Answers.{answer}
use Rattle.up_answers.specs.Fetching.{Fetched}
use Rattle.up_answers.specs.Laws.{IsWhole}
use Rattle.up_blocks.specs.Records as blocks
use Rattle.up_blocks.specs.declared.record.BlockRecord.{BlockRecord}
use Rattle.up_calls.specs.Calls.{Outcome}
use Rattle.up_calls.specs.Routes.{Question}
use Rattle.up_calls.specs.Services.{KeysSay, StoreSays, key_leads, store_leads}
use Rattle.up_calls.specs.Views.{Views}
use Rattle.up_calls.specs.declared.event.Event.{Event}
use Rattle.up_disk.specs.declared.disk.Disk as disk
use Rattle.up_host.specs.Alone.{views}
use Rattle.up_journal.specs.Logs.{EachFits}
use Rattle.up_journal.specs.declared.limits.Limits.{Limits}
use Rattle.up_keys.specs.Records as keys
use Rattle.up_names.specs.Texts.{UserName}
use Rattle.up_peer.specs.declared.loader.Loader as loader
use Rattle.up_policy.specs.Loadings.{Loading}
use Rattle.up_log_tree.specs.Logs.{Log}
use Rattle.up_wire.specs.Spelling.{IsReply, IsServer, server}
use Rattle.up_wire.specs.declared.keys.KeyRecord.{KeyRecord}
use Rattle.up_wire.specs.declared.messages.ServerFrame.{ServerFrame}
use Rattle.up_wire.specs.declared.messages.ServerFrame.TheVariants.{Answer}
use Rattle.up_wire.specs.declared.replies.Reply.{Reply}
use Rattle.up_wire.specs.declared.requests.Request.{Request}

-- the most bytes of a payload from a server
abbrev pub most_bytes : ℕ
most_bytes = 67108864

-- the payload of a reply has at most so many bytes
abbrev pub IsShort : Reply → Type 0
IsShort given = length (server (Answer given)) ≤ most_bytes

-- The law that a tree's replies are short: what a tree answers over a log whose records fit, as the program can hold it.
abbrev pub TreeRepliesAreShort : Type 0
TreeRepliesAreShort = (log : Log) (loaded : Loading) (fetched : Fetched) (user : UserName) (request : Request) (now : ℕ) → IsWhole log →
    IsReply (answer log loaded fetched user request now) → IsShort (answer log loaded fetched user request now)

-- The law that a store's replies are short: what it says over a log whose records fit.
abbrev pub StoreRepliesAreShort : Type 0
StoreRepliesAreShort =
    (operator user : UserName) (request : Request) (limits : Limits) (log added : List BlockRecord) (said : Reply)
    → EachFits blocks.fits log →
    StoreSays log (store_leads operator user request limits log) said added → IsReply said → IsShort said

-- The law that the replies of the keys are short: what they say over a log whose records fit.
abbrev pub KeyRepliesAreShort : Type 0
KeyRepliesAreShort =
    (user : UserName) (request : Request) (limits : Limits) (log added : List KeyRecord) (said : Reply) → EachFits keys.fits log →
    KeysSay (key_leads user request limits log) said added → IsReply said → IsShort said

-- The records of the store and of the keys fit. (Those of a tree do where it answers.)
pub record LogsFit (seen : Views) : Type 0 where
  pub store : EachFits blocks.fits seen.store.seen
  pub keys : EachFits keys.fits seen.keys.seen

-- The law that a host's replies are short: what a call of it came to, where its logs' records fit.
abbrev pub HostRepliesAreShort : Type 0
HostRepliesAreShort =
    (operator : UserName) (a b : Views) (q : Question) (e : Event)
    → Outcome operator a b q e → LogsFit b → IsReply e.reply → IsShort e.reply

-- The law that a connection's frames are short: what answers a request there, where the host's records fit.
abbrev pub ConnectionRepliesAreShort : {D L : Type 0} → disk.Ghosts D → loader.Ghosts L → Type 0
ConnectionRepliesAreShort {D} {L} disks loaders =
    (a : HostAlone D L) (user : UserName) (request : Request) (moment : ℕ) (frame : ServerFrame) (b : HostAlone D L) →
    AnswersAlone disks loaders a user request moment frame b
    → LogsFit (views disks b.host) → IsServer frame → length (server frame) ≤ most_bytes
