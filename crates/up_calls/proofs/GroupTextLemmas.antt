-- What a tree answers to GroupText with nothing loaded.
use Rattle.std.proofs.Common.{◌≡◌, true, false, [], ap, ◌∙◌, Result, Ok, Err, bytes_eq}
use Rattle.std.specs.Prelude as std
use Rattle.std.specs.Prelude.{if◌then◌else◌}
use Rattle.std.proofs.lemmas.Slice.Eq.{bytes_eq-Decides}
use Rattle.up_answers.specs.Answers.{answer, asked_outcome, fault_reply, log_owner, outcome, tree_outcome}
use Rattle.up_answers.specs.SnapshotReplies.{snapshot_outcome}
use Rattle.up_entry.specs.Checking.{◌>>=◌, rule}
use Rattle.up_entry.specs.declared.fault.EntryFault.{EntryFault}
use Rattle.up_entry.specs.declared.fault.EntryFault.TheVariants.{Invalid}
use Rattle.up_entry.specs.declared.records.Rec.{Rec}
use Rattle.up_entry.specs.declared.what.What.TheVariants as what
use Rattle.up_calls.specs.Loads.{group_text_answer}
use Rattle.up_list.specs.Asking.{asked_of}
use Rattle.up_list.specs.Changes.{answer_of}
use Rattle.up_list.specs.Looks.{look_now}
use Rattle.up_list.specs.Reads.{group_text_reply}
use Rattle.up_list.specs.declared.asking.ReadRequest.{ReadRequest}
use Rattle.up_list.specs.declared.asking.ReadRequest.TheVariants.{GroupText}
use Rattle.up_names.specs.PathNames.{PathName, canonical, path_of}
use Rattle.up_names.specs.Texts.{UserName}
use Rattle.up_names.specs.declared.fault.NameFault.{NameFault}
use Rattle.up_log_tree.specs.Logs.{Log}
use Rattle.up_log_tree.specs.Rights.{is_group}
use Rattle.up_wire.specs.Bounds.{bounded}
use Rattle.up_wire.specs.declared.replies.Reply.{Reply}
use Rattle.up_wire.specs.declared.replies.Reply.TheVariants as reply
use Rattle.up_wire.specs.declared.requests.Request.TheVariants as request

module _ (log : Log) (user : UserName) (path : PathName) (again : path_of (canonical path) ≡ Ok path) where
  pub asked_is : asked_of user (request.GroupText (canonical path)) ≡ (rule what.GroupName (is_group path) >>= λ group. Ok (GroupText path))
  unfolding asked_of
  asked_is = ap (λ (found : Result PathName NameFault). (elim found as (λ _. Result PathName EntryFault) [ Ok p ↦ Ok p | Err fault ↦ Err (Invalid what.Name) ]) >>= λ p. (rule what.GroupName (is_group p) >>= λ group. Ok (GroupText p))) again

  pub by_asked : (asked : Result ReadRequest EntryFault) → asked_of user (request.GroupText (canonical path)) ≡ asked
      → group_text_answer log user path ≡ answer_of log (elim asked as (λ _. Result Rec Reply) [ Ok asked ↦ asked_outcome log [] [] user asked 0 | Err fault ↦ std.Err (fault_reply fault) ])
  unfolding answer outcome
  by_asked asked h = ap (λ (r : Result ReadRequest EntryFault). answer_of log (elim r as (λ _. Result Rec Reply) [ Ok asked ↦ asked_outcome log [] [] user asked 0 | Err fault ↦ std.Err (fault_reply fault) ])) h

  pub no_group : is_group path ≡ false → group_text_answer log user path ≡ reply.Invalid what.GroupName
  unfolding answer_of
  no_group h = by_asked (Err (Invalid what.GroupName)) (asked_is ∙ ap (λ b. rule what.GroupName b >>= λ group. Ok (GroupText path)) h)

  pub group_text_is : is_group path ≡ true → path.owner ≡ log.owner → group_text_answer log user path ≡ bounded (group_text_reply (look_now log [] user) path)
  unfolding answer_of asked_outcome tree_outcome
  group_text_is h owned =
      by_asked (Ok (GroupText path)) (asked_is ∙ ap (λ b. rule what.GroupName b >>= λ group. Ok (GroupText path)) h)
      ∙ ap (λ b. answer_of log (if b then tree_outcome log [] [] user (GroupText path) else if bytes_eq (log_owner path.owner) log.owner then snapshot_outcome log user (GroupText path) 0 else std.Err reply.WrongHost)) ((bytes_eq-Decides path.owner log.owner).1 owned)
