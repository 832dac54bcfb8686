-- What a loader is asked, and what a list of peers gives as one. This project's own.
use Rattle.std.specs.Prelude.{◌≡◌, ◌-◌, ◌^◌, ℕ, List, min, sum_by, position, Option, Some, None, option_map, IfSome, Result, Ok, Err}
use Rattle.std.specs.Result.{result_ok}
use Rattle.std.specs.declared.alloc.AllocError.{AllocError}
use Rattle.up_names.specs.PathNames.{PathName}
use Rattle.up_names.specs.declared.fault.TextFault.{TextFault}
use Rattle.up_names.specs.declared.fault.TextFault.TheVariants as text
use Rattle.up_names.specs.declared.items.Item.{Item}
use Rattle.up_group.specs.GroupTexts.{group_of}
use Rattle.up_policy.specs.declared.load_answer.LoadAnswer.{LoadAnswer}
use Rattle.up_policy.specs.declared.load_answer.LoadAnswer.TheVariants as loads
use Rattle.up_entry.specs.declared.fetch.Fetch.{Fetch}
use Rattle.up_entry.specs.declared.fetch.Fetch.TheVariants as fetches
use Rattle.up_peer.specs.declared.answers.PeerAnswer.{PeerAnswer}
use Rattle.up_peer.specs.declared.answers.PeerAnswer.TheVariants as answers
use Rattle.up_peer.specs.declared.answers.PeerCall.{PeerCall}
use Rattle.up_peer.specs.declared.answers.PeerQuestion.TheVariants as questions
use Rattle.up_peer.specs.Asking.{Asks, KeptPeer, has_address, has_owner}

-- the question for a group's text, and the user as whom it is asked
pub record GroupQuestion : Type 0 where
  pub asker : List ℕ
  pub name : PathName

-- the question for a block, and the address at which it is asked
pub record BlockQuestion : Type 0 where
  pub address : List ℕ
  pub reference : List ℕ

-- What the text of a group is as a loaded one: its items, or the number of its first bad line.
abbrev pub text_answer : Result (List Item) TextFault → LoadAnswer
text_answer (Ok items) = loads.Text items
text_answer (Err (text.BadText line)) = loads.BadText line
text_answer (Err text.OutOfMemory) = loads.Missing

-- What is made of a peer's answer to a load in this owner's tree: a text is read, for which memory may be wanting.
abbrev pub LoadsAs : List ℕ → PeerAnswer → Option LoadAnswer → Type 0
LoadsAs owner (answers.Got bytes) answer = IfSome answer (λ read. read ≡ text_answer (group_of owner bytes))
LoadsAs owner answers.Nothing answer = answer ≡ Some loads.Missing
LoadsAs owner answers.Failed answer = answer ≡ Some loads.Failed

-- what is made of a peer's answer to a fetch
abbrev pub fetch_of : PeerAnswer → Fetch
fetch_of (answers.Got bytes) = fetches.Got bytes
fetch_of answers.Nothing = fetches.Missing
fetch_of answers.Failed = fetches.Failed

-- what is made of an answer; none on want of memory
abbrev pub IfAnswered : {E B : Type 0} → (PeerAnswer → Option B → Type 0) → Result PeerAnswer E → Option B → Type 0
IfAnswered as_made (Ok given) answer = as_made given answer
IfAnswered as_made (Err e) answer = answer ≡ None

-- A load: the first peer that has the owner was asked and no other, and what it gave is the answer.
pub record LoadsFrom {P : Type 0} (asked : P → Option (List PeerCall)) (faults : P → ℕ) (old : List (KeptPeer P))
    (question : GroupQuestion) (answer : Option LoadAnswer) (new : List (KeptPeer P)) : Type 0 where
  pub given : Result PeerAnswer AllocError
  pub asks : Asks asked faults (position (has_owner question.name.owner) old) old new (questions.Group question.name) given
  pub made : IfAnswered (LoadsAs question.name.owner) given answer

-- A fetch: the first peer that has the address was asked and no other, and what it gave is the answer.
pub record FetchesFrom {P : Type 0} (asked : P → Option (List PeerCall)) (faults : P → ℕ) (old : List (KeptPeer P))
    (question : BlockQuestion) (answer : Option Fetch) (new : List (KeptPeer P)) : Type 0 where
  pub given : Result PeerAnswer AllocError
  pub asks : Asks asked faults (position (has_address question.address) old) old new (questions.Block question.reference) given
  pub made : answer ≡ option_map fetch_of (result_ok given)

-- the sum of the counts of peers, which stops at 2^64 - 1 as each count does
abbrev pub fault_sum : {P : Type 0} → (P → ℕ) → List (KeptPeer P) → ℕ
fault_sum faults peers = min (sum_by (λ kept. faults kept.peer) peers) (2 ^ 64 - 1)
