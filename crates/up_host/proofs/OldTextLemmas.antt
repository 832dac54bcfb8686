-- What a tree answers to GroupText of a path of its snapshot tree, with nothing loaded.
use Rattle.std.proofs.Common.{◌≡◌, true, List, [], sym, ap, ◌∙◌, Ok, bytes_eq}
use Rattle.std.specs.Prelude as std
use Rattle.std.specs.Prelude.{if◌then◌else◌}
use Rattle.std.proofs.lemmas.Slice.Eq.{bytes_eq-Decides}
use Rattle.up_answers.specs.Answers.{asked_outcome, log_owner, tree_outcome}
use Rattle.up_answers.specs.SnapshotReplies.{snapshot_outcome}
use Rattle.up_entry.specs.Checking.{◌>>=◌, rule}
use Rattle.up_entry.specs.declared.records.Rec.{Rec}
use Rattle.up_entry.specs.declared.what.What.TheVariants as what
use Rattle.up_calls.proofs.GroupTextLemmas.{asked_is, by_asked}
use Rattle.up_calls.specs.Loads.{group_text_answer}
use Rattle.up_list.specs.Changes.{answer_of}
use Rattle.up_list.specs.Reads.{group_text_reply}
use Rattle.up_list.specs.declared.asking.ReadRequest.TheVariants.{GroupText}
use Rattle.up_names.specs.PathNames.{PathName, canonical, path_of}
use Rattle.up_names.specs.Texts.{UserName}
use Rattle.up_log_tree.specs.Logs.{Log}
use Rattle.up_log_tree.specs.Rights.{is_group}
use Rattle.up_snap.specs.Looked.{look_at}
use Rattle.up_snap.specs.Outcomes.{IsOfSnapshots}
use Rattle.up_wire.specs.Bounds.{bounded}
use Rattle.up_wire.specs.declared.replies.Reply.{Reply}
use Rattle.up_wire.specs.declared.replies.Reply.TheVariants as reply

module _ (log : Log) (user : UserName) (path : PathName) (again : path_of (canonical path) ≡ Ok path) where
  pub old_text_is : is_group path ≡ true → IsOfSnapshots log.owner path.owner → group_text_answer log user path ≡ bounded (group_text_reply (look_at log.owner log.records user) path)
  unfolding answer_of asked_outcome snapshot_outcome
  old_text_is h place =
      by_asked log user path again (Ok (GroupText path)) (asked_is log user path again ∙ ap (λ b. rule what.GroupName b >>= λ group. Ok (GroupText path)) h)
      ∙ ap (λ b. answer_of log (if b then tree_outcome log [] [] user (GroupText path) else if bytes_eq (log_owner path.owner) log.owner then snapshot_outcome log user (GroupText path) 0 else std.Err reply.WrongHost)) place.0
      ∙ ap (λ b. answer_of log (if b then snapshot_outcome log user (GroupText path) 0 else std.Err reply.WrongHost)) ((bytes_eq-Decides (log_owner path.owner) log.owner).1 place.1)

  -- a reply of that look, bounded
  pub old_text_given : (owner : UserName) (records : List Rec) (made given : Reply) → owner ≡ log.owner → records ≡ log.records → made ≡ group_text_reply (look_at owner records user) path → given ≡ bounded made → is_group path ≡ true
      → IsOfSnapshots log.owner path.owner → given ≡ group_text_answer log user path
  old_text_given owner records made given of_owner of_records is bound h place =
      bound
      ∙ ap bounded (is ∙ ap (λ o. group_text_reply (look_at o records user) path) of_owner ∙ ap (λ rs. group_text_reply (look_at log.owner rs user) path) of_records)
      ∙ sym (old_text_is h place)
