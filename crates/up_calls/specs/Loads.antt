-- What was loaded of the groups of other owners, and who gave it. This project's own.
use Rattle.std.specs.Prelude.{◌≡◌, ◌≤◌, ℕ, Bool, true, false, List, [], ◌∷◌, length, Option, Some, None, is_some}
use Rattle.std.specs.List.{AllByRecursion}
use Rattle.std.specs.Option.{option_or}
use Rattle.up_answers.specs.Answers.{answer, log_owner}
use Rattle.up_group.specs.GroupTexts.{group_of}
use Rattle.up_calls.specs.Views.{SeenTree, Views, log_after}
use Rattle.up_names.specs.PathNames.{PathName, canonical}
use Rattle.up_names.specs.Texts.{UserName}
use Rattle.up_peer.specs.Loading.{GroupQuestion, text_answer}
use Rattle.up_policy.specs.Loadings.{Loading}
use Rattle.up_policy.specs.declared.load_answer.LoadAnswer.{LoadAnswer}
use Rattle.up_policy.specs.declared.load_answer.LoadAnswer.TheVariants as loads
use Rattle.up_log_tree.specs.Logs.{Log}
use Rattle.up_wire.specs.declared.replies.Done.{Done}
use Rattle.up_wire.specs.declared.replies.Done.TheVariants as done
use Rattle.up_wire.specs.declared.replies.Reply.{Reply}
use Rattle.up_wire.specs.declared.replies.Reply.TheVariants as reply
use Rattle.up_wire.specs.declared.requests.Request.TheVariants as request

-- a name with the answer of its load
abbrev pub Pair : Type 0
Pair = PathName × LoadAnswer

-- the answer of a tree to GroupText, with nothing loaded; the moment does not matter
abbrev pub group_text_answer : Log → UserName → PathName → Reply
group_text_answer log user path = answer log [] [] user (request.GroupText (canonical path)) 0

-- what is loaded by what a GroupText of this owner's tree did: a text is read, and all else is Missing
abbrev pub load_of_done : UserName → Done → LoadAnswer
load_of_done owner (done.Text bytes) = text_answer (group_of owner bytes)
load_of_done owner other = loads.Missing

-- what is loaded by the reply to a GroupText of this owner's tree: a text is read, Io is a failure, and all else is Missing
abbrev pub load_of : UserName → Reply → LoadAnswer
load_of owner (reply.Ok what) = load_of_done owner what
load_of owner reply.Io = loads.Failed
load_of owner other = loads.Missing

-- The host's own tree answered its operator, at a position between what the caller had seen of it and what it has seen.
pub record IsFromOwn (operator : UserName) (v w : SeenTree) (pair : Pair) : Type 0 where
  pub position : ℕ
  pub from : length v.seen ≤ position
  pub to : position ≤ length w.seen
  pub given : pair.1 ≡ load_of pair.0.owner (group_text_answer (log_after w position) operator pair.0)

-- a name whose owner's tree the host has was answered from there
abbrev pub IsOwn : UserName → Views → Views → Pair → Type 0
IsOwn operator a b pair = (v w : SeenTree) → a.tree pair.0.owner ≡ Some v → b.tree pair.0.owner ≡ Some w → IsFromOwn operator v w pair

-- a group of the snapshot user of an owner whose tree the host has is missing
abbrev pub IsOld : Views → Pair → Type 0
IsOld a pair = a.tree pair.0.owner ≡ None → is_some (a.tree (log_owner pair.0.owner)) ≡ true → pair.1 ≡ loads.Missing

-- each name whose owner's tree the host has was answered from there, and one of the snapshot user of such an owner is missing
abbrev pub OwnTexts : UserName → Views → Views → Loading → Type 0
OwnTexts operator a b loaded = AllByRecursion (λ (pair : Pair). IsOwn operator a b pair × IsOld a pair) loaded

-- the tree of the host for a group of this owner: the owner's own, or for a snapshot user that of the owner
abbrev pub tree_by : Views → UserName → Option SeenTree
tree_by a owner = option_or (a.tree owner) (a.tree (log_owner owner))

-- the loader is asked, as the operator, for the names for which the host has no tree
abbrev pub asked_of_others : UserName → Option SeenTree → PathName → List GroupQuestion
asked_of_others operator None name = record { asker = operator; name = name } ∷ []
asked_of_others operator (Some view) name = []

-- what the loader is asked of a group: nothing where the host has its owner's tree
abbrev pub group_question : UserName → Views → Pair → List GroupQuestion
group_question operator a pair = asked_of_others operator (tree_by a pair.0.owner) pair.0

-- the loader's answer for a name; there is none for one whose owner's tree the host has
abbrev pub answered_by_others : Option SeenTree → LoadAnswer → List (Option LoadAnswer)
answered_by_others None answer = Some answer ∷ []
answered_by_others (Some view) answer = []

-- what the loader answered of a group: nothing where it was not asked
abbrev pub group_answer : Views → Pair → List (Option LoadAnswer)
group_answer a pair = answered_by_others (tree_by a pair.0.owner) pair.1

-- whether a load failed
abbrev pub load_failed : Option LoadAnswer → Bool
load_failed (Some loads.Failed) = true
load_failed other = false
