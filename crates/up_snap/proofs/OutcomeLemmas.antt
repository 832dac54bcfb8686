-- A snapshot that is taken fits.
use Rattle.std.proofs.Common.{◌≡◌, ℕ, ◌<◌, ◌≤◌, false, List, length, refl, sym, ap, subst, ◌∙◌, Option, Some, None}
use Rattle.std.specs.Prelude.{IsSome, Ok, is_none, is_some}
use Rattle.std.specs.FinMap.Entries.{find}
use Rattle.std.specs.Ordering.{nat_cmp}
use Rattle.std.proofs.lemmas.Bool.{eq-eqb, false≢true}
use Rattle.up_names.specs.UserNames.{user_of}
use Rattle.up_names.proofs.Owners.{at_most_254}
use Rattle.up_entry.specs.declared.records.Rec.{Rec}
use Rattle.up_entry.specs.declared.records.Rec.TheVariants.{Snap}
use Rattle.up_mem_tree.proofs.SnapTimes.{is_taken, snap_is}
use Rattle.up_policy.proofs.VerdictLemmas.{any_at}
use Rattle.up_log_tree.specs.Fits.{Fits, IsLog, is_snap_at, root_of}
use Rattle.up_log_tree.specs.Snapshots.{snap_at, snapshots_of}
use Rattle.up_log_tree.specs.Trees.{node_at, tree_of}
use Rattle.up_log_tree.specs.declared.node.Node.{Node}
use Rattle.up_answers.proofs.BaseLemmas.{IsPlain, base_plain, no_suffix}
use Rattle.up_snap.specs.Looked.{IsSnapUser}

pub snap_fits : (owner snap_user : List ℕ) (records : List Rec) (now : ℕ) → IsSnapUser owner snap_user → user_of snap_user ≡ Ok snap_user → IsLog owner records → now < 253402207200 →
    is_none (node_at (tree_of records) (root_of owner)) ≡ false → is_some (snap_at records now) ≡ false → Fits owner records (Snap now)
snap_fits owner snap_user records now shows named log moment rooted new = record {
  plain = no_suffix owner (subst IsPlain shows.base (base_plain snap_user));
  short = subst (λ s. length s ≤ 254) shows.named (at_most_254 snap_user snap_user named);
  rooted = some (node_at (tree_of records) (root_of owner)) rooted;
  calendar = moment;
  new = λ there.
      let none : is_some (find nat_cmp now (snapshots_of records)) ≡ false = ap is_some (snap_is now owner records log.fitting) ∙ new in
      false≢true (sym none ∙ is_taken now records ∙ any_at (is_snap_at now) records (Snap now) there (eq-eqb now now refl));
}
  where
    some : (o : Option Node) → is_none o ≡ false → IsSome o
    some None h = absurd (false≢true (sym h))
    some (Some n) h = refl
