-- A whole host as another one's peer. This project's own.
use Rattle.std.specs.Prelude.{◌≡◌, ℕ, if◌then◌else◌, List, Option, Some, None, Result, Ok, Err, IfOk}
use Rattle.up_answers.specs.Answers.{log_owner}
use Rattle.up_blocks.specs.Blocks.{GivesBlock}
use Rattle.up_blocks.specs.declared.fault.BlockWhy.{BlockWhy}
use Rattle.up_blocks.specs.declared.fault.BlockWhy.TheVariants as why
use Rattle.up_blocks.specs.declared.record.BlockRecord.{BlockRecord}
use Rattle.up_disk.specs.declared.disk.Disk.{Ghosts}
use Rattle.up_entry.specs.declared.what.What.TheVariants as what
use Rattle.up_host.specs.Alone.{HostState, tree_for}
use Rattle.up_calls.specs.Loads.{group_text_answer}
use Rattle.up_host.specs.declared.held.Held.{Held}
use Rattle.up_journal.specs.Logs.{LogState}
use Rattle.up_lists.specs.Counts.{StaysUnless}
use Rattle.up_names.specs.PathNames.{PathName}
use Rattle.up_names.specs.Texts.{UserName}
use Rattle.up_peer.specs.InMemory.{faults_after}
use Rattle.up_peer.specs.declared.answers.PeerAnswer.{PeerAnswer}
use Rattle.up_peer.specs.declared.answers.PeerAnswer.TheVariants as peer
use Rattle.up_peer.specs.declared.answers.PeerCall.{PeerCall}
use Rattle.up_log_tree.specs.Rights.{is_group}
use Rattle.up_tree.specs.States as tree
use Rattle.up_wire.specs.declared.replies.Done.{Done}
use Rattle.up_wire.specs.declared.replies.Done.TheVariants as done
use Rattle.up_wire.specs.declared.replies.Reply.{Reply}
use Rattle.up_wire.specs.declared.replies.Reply.TheVariants as reply

-- ---- the text of a group

-- the tree whose log answers on the paths of an owner: the owner's own, or for a snapshot user that of its base user
abbrev pub tree_on : {D : Type 0} → List (Held (tree.State D)) → UserName → Option (Held (tree.State D))
tree_on trees owner = tree_for trees (log_owner owner)

-- what a user is answered where the host does not have the tree
abbrev pub answer_elsewhere : PathName → Reply
answer_elsewhere path = if is_group path then reply.WrongHost else reply.Invalid what.GroupName

-- what a user is answered who asks for a group's text, with nothing loaded, by that tree
abbrev pub text_by : {D : Type 0} → Option (Held (tree.State D)) → UserName → PathName → Reply
text_by (Some held) asker path = group_text_answer (tree.log_of held.state) asker path
text_by None asker path = answer_elsewhere path

-- the reply of a host of these trees to the question for a group's text
abbrev pub group_text_by : {D : Type 0} → List (Held (tree.State D)) → UserName → PathName → Reply
group_text_by trees asker path = text_by (tree_on trees path.owner) asker path

-- ---- what a peer makes of it

-- what a peer answers for a reply: the text, a failure for Io, and nothing for all else
abbrev pub peer_done : Done → PeerAnswer
peer_done (done.Text bytes) = peer.Got bytes
peer_done other = peer.Nothing

-- what a host as a peer answers for a reply: the text or the block, a failure for Io, and nothing for all else
abbrev pub peer_answer : Reply → PeerAnswer
peer_answer (reply.Ok what) = peer_done what
peer_answer reply.Io = peer.Failed
peer_answer other = peer.Nothing

-- what a peer answers for what its store gives: the block, a failure for a fault of the disk, and nothing for all else but want of
-- memory, for which there is no answer
abbrev pub IsBlockAnswer : Result (List ℕ) BlockWhy → PeerAnswer → Type 0
IsBlockAnswer (Ok bytes) answer = answer ≡ peer.Got bytes
IsBlockAnswer (Err why.Fault) answer = answer ≡ peer.Failed
IsBlockAnswer (Err why.OutOfMemory) answer = ⊥
IsBlockAnswer (Err other) answer = answer ≡ peer.Nothing

-- A block of the store was read, and nothing else of the host changed; the disk's count is as before, but for a fault.
pub record ReadsBlock {D : Type 0} (disks : Ghosts D) (reference : List ℕ)
    (host after : HostState D) (result : Result (List ℕ) BlockWhy) : Type 0 where
  pub store : LogState D BlockRecord
  pub whole : after ≡ record host { store = record { state = store; base = host.store.base } }
  pub gives : GivesBlock disks reference host.store.state store result
  pub quiet : StaysUnless (disks.faults host.store.state.disk) (disks.faults store.disk) (result ≡ Err why.Fault)

-- the store was asked for a block, and what it gave is the answer
pub record AsksStore {D E : Type 0} (disks : Ghosts D) (reference : List ℕ)
    (host after : HostState D) (result : Result PeerAnswer E) : Type 0 where
  pub given : Result (List ℕ) BlockWhy
  pub reads : ReadsBlock disks reference host after given
  pub made : IfOk result (IsBlockAnswer given)

-- a count of failures after a call, which want of memory leaves
abbrev pub failed_after : {E : Type 0} → ℕ → Result PeerAnswer E → ℕ
failed_after count (Ok answer) = faults_after count answer
failed_after count (Err e) = count

-- a host, as whom it is asked, what it was asked so far, and how often the answer was a failure
pub record PeerState (D : Type 0) : Type 0 where
  pub host : HostState D
  pub asker : UserName
  pub calls : List PeerCall
  pub faults : ℕ
