-- Laws of answers: nothing stands below a link, and what a user is answered depends on what the user sees alone.
use Rattle.std.specs.Prelude.{◌≡◌, ◌≢◌, ℕ, ◌<◌, ◌≤◌, ◌⊎◌, ◌↔◌, true, false, List, [], ◌∷◌, ◌++◌, length, take, ⊤}
use Rattle.std.specs.Prelude.{if◌then◌else◌, ◌&&◌, is_some, Contains, IsTrue, Option, Some, None}
use Rattle.std.specs.Str.{bytes_eq}
use Rattle.up_names.specs.Texts.{UserName}
use Rattle.up_names.specs.PathNames.{PathName, control_of, cut, ends_in_access, is_under, parent_of}
use Rattle.up_names.specs.declared.paths.Control.TheVariants as control
use Rattle.up_names.specs.UserNames.{base_of}
use Rattle.up_rights.specs.declared.Right.{Right}
use Rattle.up_rights.specs.RightSets.{has_right}
use Rattle.up_entry.specs.declared.entries.Entry.{Entry}
use Rattle.up_entry.specs.declared.records.Rec.{Rec}
use Rattle.up_entry.specs.declared.records.Rec.TheVariants as rec
use Rattle.up_pattern.specs.Patterns.{PatternName}
use Rattle.up_policy.specs.Governors.{governor}
use Rattle.up_policy.specs.Loadings.{Loading, answer_for}
use Rattle.up_policy.specs.Laws.{ListsGroups}
use Rattle.up_policy.specs.Reached.{needed}
use Rattle.up_policy.specs.declared.load_answer.LoadAnswer.{LoadAnswer}
use Rattle.up_policy.specs.Trees.{TreeFacts, owns_snapshots}
use Rattle.up_policy.specs.Verdicts.{HasRight}
use Rattle.up_wire.specs.declared.replies.Reply.{Reply}
use Rattle.up_wire.specs.declared.replies.Done.TheVariants.{Rows}
use Rattle.up_wire.specs.declared.replies.Reply.TheVariants.{Ok, Private}
use Rattle.up_wire.specs.declared.requests.Request.{Request}
use Rattle.up_log_tree.specs.Trees.{made_of, node_at, tree_of}
use Rattle.up_log_tree.specs.declared.node.Node.{Node}
use Rattle.up_log_tree.specs.Rights.{facts_of, group_node}
use Rattle.up_log_tree.specs.Fits.{IsLog}
use Rattle.up_log_tree.specs.Logs.{Log}
use Rattle.up_log_tree.specs.Sizes.{size_of}
use Rattle.up_list.specs.Looks.{Look, rights, has_some, look_now, shown}
use Rattle.up_list.specs.Checks.{check, link_at, ways}
use Rattle.up_list.specs.Globs.{ends_literal, glob_reply, is_met, is_whole, literal_path, row_of}
use Rattle.up_answers.specs.Agreement.{Agree, SeesTheSame, used}
use Rattle.up_answers.specs.Answers.{added, answer}
use Rattle.up_answers.specs.Fetching.{Fetched}
use Rattle.up_answers.specs.Needs.{needs_asked}
use Rattle.up_list.specs.declared.asking.ReadRequest.{ReadRequest}
use Rattle.up_answers.specs.Views.{View, view}
use Rattle.up_answers.specs.Watches.{items_under}
use Rattle.up_wire.specs.declared.replies.Row.{Row}
use Rattle.std.specs.Map.{values_of}
use Rattle.up_ends.specs.Moments.{IsMoment}

-- each record of the log fits those before it, and its owner is no snapshot user
abbrev pub IsWhole : Log → Type 0
IsWhole log = IsLog log.owner log.records

-- nothing stands below a link
abbrev pub NothingBelowLinks : Type 0
NothingBelowLinks = (log : Log) → IsWhole log → (path : PathName) (m : ℕ) (link : Entry) → m < length path.elements →
    link_at (tree_of log.records) (cut m path) ≡ Some link → node_at (tree_of log.records) path ≡ None

-- a path below a link has the link's governor, and a user other than the owner who has no right on the link has none on the path
abbrev pub NoRightsBelowLinks : Type 0
NoRightsBelowLinks =
    (log : Log) (loaded : Loading) (user : UserName) → IsWhole log → user ≢ log.owner
    → (path : PathName) (m : ℕ) (link : Entry) → m ≤ length path.elements →
    link_at (tree_of log.records) (cut m path) ≡ Some link →
    (governor (facts_of log.owner (tree_of log.records)) path ≡ governor (facts_of log.owner (tree_of log.records)) (cut m path))
    × (has_some (look_now log loaded user) (cut m path) ≡ false → has_some (look_now log loaded user) path ≡ false)

-- the tests of links and rights answer alike, where a user other than the owner sees the same
abbrev pub ChecksAreAlike : Type 0
ChecksAreAlike =
    (user : UserName) (loaded : Loading) (one two : Log) → IsWhole one → IsWhole two
    → one.owner ≡ two.owner → user ≢ one.owner → SeesTheSame user loaded one two →
    (path : PathName) (needed : Option Right)
    → check (look_now one loaded user) (ways path) path needed ≡ check (look_now two loaded user) (ways path) path needed

-- the last of the elements of a pattern that a path matches is not literal
abbrev pub EndsUnlike : PatternName → PathName → Type 0
EndsUnlike pattern path = ends_literal (take (length path.elements) pattern.elements) ≡ false

-- an item that a row of Glob shows is seen at its path, or, where the last element that it matches is not literal, is listed in its parent
abbrev pub RowsAreSeen : Type 0
RowsAreSeen = (look : Look) (pattern : PatternName) (path : PathName) → is_met look pattern path ≡ true →
    (has_some look path ≡ true)
    ⊎ (EndsUnlike pattern path × ((dir : PathName) × (parent_of path ≡ Some dir) × ((rights look dir).list ≡ true)))

-- an entry is what is seen at a path
abbrev pub IsSeenAt : Look → PathName → Entry → Type 0
IsSeenAt look path entry = (seen : View) × (view look path ≡ Some seen) × (seen.entry ≡ Some entry)

-- an entry is among the children in what is seen of the parent of a path
abbrev pub IsListedAt : Look → PathName → Entry → Type 0
IsListedAt look path entry =
    (dir : PathName) × (seen : View) × (listed : List (PathName × Entry)) × (parent_of path ≡ Some dir) × (view look dir ≡ Some seen)
    × (seen.children ≡ Some listed) × Contains listed (path, entry)

-- The entry of a row of Glob is seen at its path, or, where the last element that it matches is not literal, among the children in
-- what is seen of its parent. A pattern that is all literal has one row, whose entry is seen at the pattern's path.
pub record RowsAreShown : Type 0 where
  pub matched : (log : Log) (loaded : Loading) (user : UserName) (pattern : PatternName) (path : PathName) (node : Node) (row : Row)
      → IsWhole log →
      node_at (tree_of log.records) path ≡ Some node → row_of (look_now log loaded user) pattern path node ≡ Some row →
      IsSeenAt (look_now log loaded user) path row.entry ⊎ (EndsUnlike pattern path × IsListedAt (look_now log loaded user) path row.entry)
  pub literal : (look : Look) (pattern : PatternName) (rows : List Row)
      → is_whole pattern ≡ true → glob_reply look pattern ≡ Ok (Rows rows) →
      (row : Row) × (rows ≡ row ∷ []) × IsSeenAt look (literal_path pattern) row.entry

-- the items of Watch are those under the watched path of which something is seen
abbrev pub ItemsAreSeen : Type 0
ItemsAreSeen = (look : Look) (path : PathName) → items_under look path
    ≡ values_of (made_of (λ name node. if is_under name path && is_some (view look name)
    then Some (record { position = node.entry.sequence; delete = false; entry = shown look node.entry }) else None) look.tree)

-- in a snapshot tree nobody but its base user passes a check, and all others are answered Private
abbrev pub SnapshotsArePrivate : Type 0
SnapshotsArePrivate =
    (look : Look) (tested : List PathName) (path : PathName) (needed : Option Right)
    → owns_snapshots look.owner ≡ true → look.user ≢ base_of look.owner →
    check look tested path needed ≡ Some Private

-- a right in the set of a user's rights is one that the user has
abbrev pub RightsAreMeant : Type 0
RightsAreMeant = (log : Log) (loaded : Loading) (user : UserName) (right : Right) (path : PathName) →
    IsTrue (has_right (rights (look_now log loaded user) path) right) ↔ HasRight
    (facts_of log.owner (tree_of log.records)) loaded user right path

-- at a path of another owner a user who is not the tree's owner sees nothing; so "every path" says no more than "every path of
-- the owner"
abbrev pub OtherPathsAreHidden : Type 0
OtherPathsAreHidden =
    (log : Log) (loaded : Loading) (user : UserName) (path : PathName) → IsWhole log
    → user ≢ log.owner → path.owner ≢ log.owner → view (look_now log loaded user) path ≡ None

-- Two logs that agree for a user, and for what the request uses of what was loaded, give the user the same answer: to every request,
-- refusals and requests on snapshot trees too.
abbrev pub AnswersAgree : Type 0
AnswersAgree =
    (user : UserName) (loaded : Loading) (fetched : Fetched) (request : Request) (now : ℕ) (one two : Log) → IsWhole one → IsWhole two →
    Agree user (used request loaded ∷ []) one two → answer one loaded fetched user request now ≡ answer two loaded fetched user request now

-- ---- agreement is kept

-- a log with one more record
abbrev pub with_record : Log → Rec → Log
with_record log record' = record log { records = log.records ++ record' ∷ [] }

-- the path that a Put or a Delete changes
abbrev pub touched : Rec → Option PathName
touched (rec.Put entry text) = Some entry.name
touched (rec.Delete path) = Some path
touched (rec.Snap time) = None

-- A Put or Delete of which a user sees nothing: its path is no Access path, and it puts, replaces and removes no file at a
-- Group path; the user has no right on the path, and neither list nor delete on its parent.
pub record IsApart (user : UserName) (loadings : List Loading) (log : Log) (record' : Rec) : Type 0 where
  pub path : PathName
  pub changes : touched record' ≡ Some path
  pub no_access : ends_in_access path ≡ false
  pub no_group : group_node (tree_of log.records) path ≡ None
  pub no_group_then : group_node (tree_of (log.records ++ record' ∷ [])) path ≡ None
  pub hidden : (loaded : Loading) → Contains loadings loaded → has_some (look_now log loaded user) path ≡ false
  pub unlisted : (loaded : Loading) (dir : PathName) → Contains loadings loaded
      → parent_of path ≡ Some dir → (rights (look_now log loaded user) dir).list ≡ false
  pub unnamed : (loaded : Loading) (dir : PathName) → Contains loadings loaded
      → parent_of path ≡ Some dir → (rights (look_now log loaded user) dir).delete ≡ false

-- Two logs that agree for a user who is not the owner still agree after changes of which the user sees nothing, with as many bytes.
abbrev pub ApartChangesKeepAgreement : Type 0
ApartChangesKeepAgreement =
    (user : UserName) (loadings : List Loading) (one two : Log) (a b : Rec) → user ≢ one.owner → IsWhole one → IsWhole two →
    IsApart user loadings one a → IsApart user loadings two b → size_of a ≡ size_of b →
    Agree user loadings one two → Agree user loadings (with_record one a) (with_record two b)

-- ---- what a request adds

-- a log after a request
abbrev pub after_request : Log → Loading → Fetched → UserName → Request → ℕ → Log
after_request log loaded fetched user request now = record log { records = log.records ++ added log loaded fetched user request now }

-- the record that a request adds at a moment of the calendar fits the log
abbrev pub AddedRecordsFit : Type 0
AddedRecordsFit =
    (log : Log) (loaded : Loading) (fetched : Fetched) (user : UserName) (request : Request) (now : ℕ) → IsWhole log → IsMoment now →
    IsWhole (after_request log loaded fetched user request now)

-- Two logs that agree for a user who is not the owner still agree after the same record of an ordinary path, whoever adds it.
abbrev pub SameRecordsKeepAgreement : Type 0
SameRecordsKeepAgreement =
    (user : UserName) (loadings : List Loading) (one two : Log) (record' : Rec) (path : PathName)
    → user ≢ one.owner → IsWhole one → IsWhole two →
    touched record' ≡ Some path → control_of path ≡ control.Ordinary
    → IsWhole (with_record one record') → IsWhole (with_record two record') →
    Agree user loadings one two → Agree user loadings (with_record one record') (with_record two record')

-- Two logs that agree for a user agree after the same request of that user.
abbrev pub RequestsKeepAgreement : Type 0
RequestsKeepAgreement =
    (user : UserName) (loadings : List Loading) (loaded : Loading) (fetched : Fetched) (request : Request) (now : ℕ) (one two : Log)
    → IsWhole one → IsWhole two →
    IsMoment now → Contains loadings (used request loaded) → Agree user loadings one two →
    Agree user loadings (after_request one loaded fetched user request now) (after_request two loaded fetched user request now)

-- ---- two lists of turns

-- a turn: who asks what and when, with what was loaded and fetched
pub record Turn : Type 0 where
  pub user : UserName
  pub request : Request
  pub loaded : Loading
  pub fetched : Fetched
  pub now : ℕ

-- the log after a turn
abbrev pub after_turn : Log → Turn → Log
after_turn log turn = after_request log turn.loaded turn.fetched turn.user turn.request turn.now

-- what a user is answered in the user's turns, in order
abbrev pub replies_to : UserName → Log → List Turn → List Reply
replies_to user log [] = []
replies_to user log (turn ∷ turns) =
    if bytes_eq turn.user user
    then answer log turn.loaded turn.fetched turn.user turn.request turn.now ∷ replies_to user (after_turn log turn) turns
    else replies_to user (after_turn log turn) turns

-- all moments are of the calendar
abbrev pub AreInCalendar : List Turn → Type 0
AreInCalendar [] = ⊤
AreInCalendar (turn ∷ turns) = (IsMoment turn.now) × AreInCalendar turns

-- At each place both turns are the user's, and equal, and use one of the loadings; or neither is the user's, and the logs agree
-- after that turn.
abbrev pub InStep : UserName → List Loading → Log → Log → List Turn → List Turn → Type 0
InStep user loadings one two [] [] = ⊤
InStep user loadings one two [] (turn ∷ turns) = ⊥
InStep user loadings one two (turn ∷ turns) [] = ⊥
InStep user loadings one two (a ∷ as') (b ∷ bs) =
    (((a.user ≡ user) × (a ≡ b) × Contains loadings (used a.request a.loaded))
    ⊎ ((a.user ≢ user) × (b.user ≢ user) × Agree user loadings (after_turn one a) (after_turn two b)))
    × InStep user loadings (after_turn one a) (after_turn two b) as' bs

-- Two logs that agree for a user at the start give the user the same replies, turn by turn.
abbrev pub HistoriesAgree : Type 0
HistoriesAgree =
    (user : UserName) (loadings : List Loading) (one two : Log) (as' bs : List Turn)
    → IsWhole one → IsWhole two → AreInCalendar as' → AreInCalendar bs →
    Agree user loadings one two → InStep user loadings one two as' bs → replies_to user one as' ≡ replies_to user two bs

-- ---- what is loaded

-- Agreement says nothing of what has to be loaded: two logs can agree for a user where a loading leaves no group needed in the one, and
-- some group needed in the other. So "the same answer" is one for the same loading, also where the other tree's host would have
-- loaded more.
abbrev pub NeedsMayDiffer : Type 0
NeedsMayDiffer =
    (user : UserName) × (loaded : Loading) × (asked : ReadRequest) × (one : Log)
    × (two : Log) × IsWhole one × IsWhole two × Agree user (loaded ∷ []) one two
    × (needs_asked one loaded user asked ≡ []) × (needs_asked two loaded user asked ≢ [])

-- the second loading has each answer of the first
abbrev pub Extends : Loading → Loading → Type 0
Extends less more = (name : PathName) (answer : LoadAnswer) → answer_for less name ≡ Some answer → answer_for more name ≡ Some answer

-- Where no group is needed at a path any more, what is loaded besides changes no right on it.
abbrev pub RightsAreSettled : Type 0
RightsAreSettled =
    (tree : TreeFacts) (listed : List PathName) (less more : Loading) (user : UserName) (right : Right) (path : PathName)
    → ListsGroups tree listed → Extends less more →
    needed tree listed less path ≡ [] → HasRight tree less user right path ↔ HasRight tree more user right path
