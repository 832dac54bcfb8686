-- What was written begins with the summary of the words: over a host that was prepared.
use Rattle.std.proofs.Common.{◌≡◌, ℕ, true, ap, Option}
use Rattle.up_command.specs.Statuses.{AnswersWith, is_cut_short}
use Rattle.up_disk.specs.declared.disk.Disk as disk
use Rattle.up_names.specs.Texts.{Text}
use Rattle.up_peer.specs.declared.loader.Loader.{Ghosts}
use Rattle.up_storm.proofs.AccessDigests.{all_are_apart}
use Rattle.up_storm.proofs.Ending.{few_sessions}
use Rattle.up_storm.proofs.PreparedTrees.{prepared_tree}
use Rattle.up_storm.proofs.Summing.{summary_of_storm}
use Rattle.up_storm.proofs.Totals.{IsPreparedTree, in_tree, in_tree_from, in_tree_yes}
use Rattle.up_storm.specs.Plans.{is_within}
use Rattle.up_storm.specs.Storms.{IsStorm}
use Rattle.up_storm.specs.Summary.{TellsSummary}
use Rattle.up_storm.specs.declared.plan.Plan.{Plan}

module _ {D L : Type 0} (disks : disk.Ghosts D) (loader : Ghosts L) (none : L) (plan : Plan) (text : Text) (within : is_within plan ≡ true)
    (storm : IsStorm disks loader none plan text) where
  -- both trees of the host of a storm
  ready : (c : ℕ) → IsPreparedTree disks plan.sessions c storm.host
  ready c =
      let t = prepared_tree disks loader none plan.sessions storm.host storm.prepared storm.kept (few_sessions plan within) (all_are_apart plan.sessions (few_sessions plan within)) c (in_tree c) (in_tree_yes c) (in_tree_from c) in
      record {
        view = t.v;
        there = t.there;
        fixed = t.fixed;
        ground = t.ground;
        empty = λ k j less here small. t.empty k j;
        records = t.long;
        rows = t.wide;
      }

  pub told_summary : (old new : Option Text) (status : ℕ) → AnswersWith old new (record { text = text; status = 0 }) status → status ≡ 0 → TellsSummary plan old new
  told_summary old new status answers done = record {
    text = text;
    summed = summary_of_storm disks loader none plan within text storm (λ c low. ready c);
    written = (answers.whole (ap is_cut_short done)).0;
  }
