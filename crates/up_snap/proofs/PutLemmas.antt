-- What a Put on a snapshot tree leads to, by what was found.
use Rattle.std.proofs.Common.{◌≡◌, ℕ, Bool, true, false, sym, ap, ◌∙◌, Result, None}
use Rattle.std.specs.Prelude.{if◌then◌else◌}
use Rattle.std.specs.Prelude as std
use Rattle.up_entry.specs.declared.entries.Entry.{Entry}
use Rattle.up_entry.specs.declared.puts.Checked.{Checked}
use Rattle.up_entry.specs.declared.records.Rec.{Rec}
use Rattle.up_wire.specs.declared.replies.Reply.{Reply}
use Rattle.up_wire.specs.declared.replies.Reply.TheVariants as reply
use Rattle.up_log_tree.specs.Logs.{Log}
use Rattle.up_log_tree.specs.Trees.{node_at}
use Rattle.up_list.specs.declared.asking.ReadRequest.{ReadRequest}
use Rattle.up_list.specs.declared.asking.ReadRequest.TheVariants.{Put}
use Rattle.up_list.specs.Changes.{◌>>=◌, right_to_put, unless}
use Rattle.up_list.specs.Checks.{check, ways}
use Rattle.up_list.specs.Looks.{Look}
use Rattle.up_answers.specs.SnapshotReplies.{snapshot_outcome, snapshot_put, snapshot_record, takes_snapshot}
use Rattle.up_answers.specs.SnapshotTrees.{snapshot_look}

module _ (log : Log) (look : Look) (entry : Entry) (now : ℕ) (passed : None ≡ check look (ways entry.name) entry.name None) where
  abbrev refused : Result Rec Reply
  refused = std.Err (reply.Permission (right_to_put (node_at look.tree entry.name)))

  by_file : (b : Bool) → takes_snapshot log entry ≡ b → (if b then snapshot_record log now else refused) ≡ snapshot_put log look entry now
  unfolding snapshot_put
  by_file b takes =
      sym (ap (λ o. unless o >>= λ seen. if takes_snapshot log entry then snapshot_record log now else refused) (sym passed)
      ∙ ap (λ c. if c then snapshot_record log now else refused) takes)

  -- the file that takes a snapshot
  pub put_takes : takes_snapshot log entry ≡ true → snapshot_record log now ≡ snapshot_put log look entry now
  put_takes takes = by_file true takes

  -- another
  pub put_refused : takes_snapshot log entry ≡ false → std.Err (reply.Permission (right_to_put (node_at look.tree entry.name))) ≡ snapshot_put log look entry now
  put_refused takes = by_file false takes

-- as a request
pub put_outcome : (log : Log) (look : Look) (put : Checked) (asked : ReadRequest) (now : ℕ) → look ≡ snapshot_look log look.user → asked ≡ Put put → snapshot_put log look put.entry now ≡ snapshot_outcome log look.user asked now
unfolding snapshot_outcome
put_outcome log look put asked now seen is = ap (λ (l : Look). snapshot_put log l put.entry now) seen ∙ ap (λ a. snapshot_outcome log look.user a now) (sym is)
