-- A host that is asked for a group's text never answers Io.
use Rattle.std.proofs.Common.{◌≡◌, ◌≢◌, ℕ, Bool, true, false, not, if◌then◌else◌, List, [], Option, Some, None, Result, Ok, Err, refl, sym, ap, ◌∙◌, bytes_eq}
use Rattle.std.specs.Prelude as std
use Rattle.std.specs.Prelude.{⊤, IfOk, unwrap_or}
use Rattle.up_answers.specs.Answers.{answer, asked_outcome, fault_reply, log_owner, outcome, tree_outcome}
use Rattle.up_answers.specs.SnapshotReplies.{snapshot_outcome}
use Rattle.up_answers.specs.SnapshotTrees.{snapshot_look}
use Rattle.up_entry.specs.Checking.{◌>>=◌, path_or, rule}
use Rattle.up_entry.specs.declared.entries.Entry.{Entry}
use Rattle.up_entry.specs.declared.fault.EntryFault.{EntryFault}
use Rattle.up_entry.specs.declared.fault.EntryFault.TheVariants as fault
use Rattle.up_entry.specs.declared.records.Rec.{Rec}
use Rattle.up_entry.specs.declared.what.What.TheVariants as what
use Rattle.up_lists.proofs.Causes.{HasCause-same}
use Rattle.up_lists.specs.Counts.{HasCause}
use Rattle.up_group.specs.GroupTexts.{group_of}
use Rattle.up_host.specs.Alone.{io_of}
use Rattle.up_host.specs.Loads.{load_of}
use Rattle.up_host.specs.Peers.{answer_elsewhere, group_text_by, text_by}
use Rattle.up_host.specs.declared.held.Held.{Held}
use Rattle.up_list.specs.Asking.{asked_of}
use Rattle.up_list.specs.Changes.{answer_of}
use Rattle.up_list.specs.Checks.{at_link, check, first_link, lacking, ways}
use Rattle.up_list.specs.Looks.{Look, has_some, look_now, rights, shown}
use Rattle.up_list.specs.Reads.{file_text, group_text_reply, text_reply}
use Rattle.up_list.specs.declared.asking.ReadRequest.TheVariants.{GroupText}
use Rattle.up_names.specs.PathNames.{PathName, canonical}
use Rattle.up_names.specs.Texts.{UserName}
use Rattle.up_names.specs.declared.fault.TextFault.{TextFault}
use Rattle.up_names.specs.declared.fault.TextFault.TheVariants as text
use Rattle.up_names.specs.declared.items.Item.{Item}
use Rattle.up_peer.specs.Loading.{text_answer}
use Rattle.up_policy.specs.declared.load_answer.LoadAnswer.{LoadAnswer}
use Rattle.up_policy.specs.declared.load_answer.LoadAnswer.TheVariants as loads
use Rattle.up_log_tree.specs.Logs.{Log}
use Rattle.up_log_tree.specs.Rights.{is_group}
use Rattle.up_log_tree.specs.Trees.{node_at}
use Rattle.up_rights.specs.RightSets.{Rights, has_any, has_right}
use Rattle.up_rights.specs.declared.Right.{Right}
use Rattle.up_rights.specs.declared.Right.TheVariants as right
use Rattle.up_tree.specs.States as tree
use Rattle.up_wire.specs.Bounds.{bounded, reply_size}
use Rattle.up_wire.specs.declared.replies.Done.TheVariants as done
use Rattle.up_wire.specs.declared.replies.Reply.{Reply}
use Rattle.up_wire.specs.declared.replies.Reply.TheVariants as reply
use Rattle.up_wire.specs.declared.requests.Request.TheVariants as request

-- no refusal, or one that is not Io
abbrev IsQuiet : Option Reply → Type 0
IsQuiet None = ⊤
IsQuiet (Some given) = io_of given ≡ 0

either : (b : Bool) (x y : Reply) → io_of x ≡ 0 → io_of y ≡ 0 → io_of (if b then x else y) ≡ 0
either true x y one two = one
either false x y one two = two

lacking_quiet : (held : Rights) (needed : Right) → IsQuiet (lacking held (Some needed))
unfolding lacking
lacking_quiet held needed = go (has_any held) (has_right held needed)
  where
    go : (a b : Bool) → IsQuiet (if not a then Some reply.Private else if not b then Some (reply.Permission needed) else None)
    go false b = refl
    go true false = refl
    go true true = tt

check_quiet : (look : Look) (tested : List PathName) (path : PathName) (needed : Right) → IsQuiet (check look tested path (Some needed))
unfolding check
check_quiet look tested path needed = go (first_link look.tree tested)
  where
    go : (link : Option Entry) → IsQuiet (elim link as (λ _. Option Reply) [ Some link ↦ Some (at_link look link) | None ↦ lacking (rights look path) (Some needed) ])
    go (Some link) = either (has_some look link.name) (reply.FollowLink (shown look link)) reply.Private refl refl
    go None = lacking_quiet (rights look path) needed

or_quiet : (refusal : Option Reply) (given : Reply) → IsQuiet refusal → io_of given ≡ 0 → io_of (unwrap_or refusal given) ≡ 0
or_quiet None given one two = two
or_quiet (Some other) given one two = one

text_quiet : (found : Option (List ℕ)) → io_of (text_reply found) ≡ 0
text_quiet None = refl
text_quiet (Some bytes) = refl

group_quiet : (look : Look) (path : PathName) → io_of (group_text_reply look path) ≡ 0
unfolding group_text_reply
group_quiet look path =
    or_quiet (check (record look { loaded = [] }) (ways path) path (Some right.Read)) (text_reply (file_text (node_at look.tree path)))
    (check_quiet (record look { loaded = [] }) (ways path) path right.Read) (text_quiet (file_text (node_at look.tree path)))

bounded_quiet : (given : Reply) → io_of given ≡ 0 → io_of (bounded given) ≡ 0
bounded_quiet (reply.Ok d) is = either (std.nat_lt 67108864 (reply_size (reply.Ok d))) (reply.TooLarge (reply_size (reply.Ok d))) (reply.Ok d) refl refl
bounded_quiet given is = is

module _ (log : Log) (user : UserName) where
  asked_quiet : (path : PathName) → io_of (answer_of log (asked_outcome log [] [] user (GroupText path) 0)) ≡ 0
  unfolding asked_outcome tree_outcome snapshot_outcome answer_of
  asked_quiet path = go (bytes_eq path.owner log.owner) (bytes_eq (log_owner path.owner) log.owner)
    where
      go : (a b : Bool) → io_of (answer_of log (if a then tree_outcome log [] [] user (GroupText path) else if b then snapshot_outcome log user (GroupText path) 0 else std.Err reply.WrongHost)) ≡ 0
      go true b = bounded_quiet (group_text_reply (look_now log [] user) path) (group_quiet (look_now log [] user) path)
      go false true = bounded_quiet (group_text_reply (snapshot_look log user) path) (group_quiet (snapshot_look log user) path)
      go false false = refl

  fault_quiet : (why : EntryFault) → io_of (bounded (fault_reply why)) ≡ 0
  fault_quiet (fault.Invalid what) = refl
  fault_quiet fault.OutOfMemory = refl

  by_group : (path : PathName) (group : Bool) → io_of (answer_of log (elim (rule what.GroupName group >>= λ ok. Ok (GroupText path)) as (λ _. Result Rec Reply) [ Ok asked ↦ asked_outcome log [] [] user asked 0 | Err why ↦ std.Err (fault_reply why) ])) ≡ 0
  unfolding answer_of
  by_group path true = asked_quiet path
  by_group path false = refl

  by_path : (r : Result PathName EntryFault) → io_of (answer_of log (elim (r >>= λ path. (rule what.GroupName (is_group path) >>= λ ok. Ok (GroupText path))) as (λ _. Result Rec Reply) [ Ok asked ↦ asked_outcome log [] [] user asked 0 | Err why ↦ std.Err (fault_reply why) ])) ≡ 0
  unfolding answer_of
  by_path (Ok path) = by_group path (is_group path)
  by_path (Err why) = fault_quiet why

  answer_quiet : (name : List ℕ) → io_of (answer log [] [] user (request.GroupText name) 0) ≡ 0
  unfolding answer outcome asked_of
  answer_quiet name = by_path (path_or what.Name name)

-- the reply of a host is not Io
elsewhere_quiet : (path : PathName) → io_of (answer_elsewhere path) ≡ 0
elsewhere_quiet path = either (is_group path) reply.WrongHost (reply.Invalid what.GroupName) refl refl

by_tree : {D : Type 0} (found : Option (Held (tree.State D))) (asker : UserName) (path : PathName) → io_of (text_by found asker path) ≡ 0
by_tree (Some held) asker path = answer_quiet (tree.log_of held.state) asker (canonical path)
by_tree None asker path = elsewhere_quiet path

-- and what is loaded by it is no failure
read_quiet : (r : Result (List Item) TextFault) → text_answer r ≢ loads.Failed
read_quiet (Ok items) = λ is. cc
read_quiet (Err (text.BadText line)) = λ is. cc
read_quiet (Err text.OutOfMemory) = λ is. cc

load_quiet : (owner : UserName) (given : Reply) → io_of given ≡ 0 → load_of owner given ≢ loads.Failed
load_quiet owner (reply.Ok (done.Text bytes)) is = read_quiet (group_of owner bytes)
load_quiet owner (reply.Ok other) is = λ same. cc
load_quiet owner reply.Io is = λ same. absurd (cc)
load_quiet owner other is = λ same. cc

ok_same : {E : Type 0} (x y : LoadAnswer) → ◌≡◌ {A = Result LoadAnswer E} (Ok x) (Ok y) → x ≡ y
ok_same x y is = cc

no_ok : {E : Type 0} (e : E) (y : LoadAnswer) → ◌≡◌ {A = Result LoadAnswer E} (Err e) (Ok y) → ⊥
no_ok e y is = cc

-- no count rises for it
pub host_counts : {D E : Type 0} (count : ℕ) (trees : List (Held (tree.State D))) (asker : UserName) (name : PathName) (said : Reply) (result : Result LoadAnswer E)
    → (said ≢ reply.OutOfMemory → said ≡ group_text_by trees asker name) → IfOk result (λ (given : LoadAnswer). (said ≢ reply.OutOfMemory) × (given ≡ load_of name.owner said)) → HasCause count count (result ≡ Ok loads.Failed)
host_counts count trees asker name said (Err e) text made = HasCause-same count _ (λ is. absurd (no_ok e loads.Failed is))
host_counts count trees asker name said (Ok given) text made = HasCause-same count _ (λ is. absurd (quiet (ok_same given loads.Failed is)))
  where
    quiet : given ≡ loads.Failed → ⊥
    quiet failed = load_quiet name.owner said (ap io_of (text made.0) ∙ by_tree _ asker name) (sym made.1 ∙ failed)
