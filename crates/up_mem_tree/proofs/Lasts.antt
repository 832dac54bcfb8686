-- What the last change of a path has left there.
use Rattle.std.proofs.Common.{◌≡◌, ℕ, zero, suc, Bool, true, false, cond, List, length, take, refl, sym, ap, ◌∙◌, arith, Option, Some, None}
use Rattle.std.specs.Prelude.{slice_get, unwrap_or}
use Rattle.std.specs.Option.{option_and_then}
use Rattle.std.proofs.lemmas.Bool.{false≢true}
use Rattle.std.proofs.lemmas.List.{length-take-le, take_all}
use Rattle.std.proofs.lemmas.Option.{slice_get_within}
use Rattle.up_names.specs.PathNames.{PathName}
use Rattle.up_names.specs.PathOrder.{path_eq}
use Rattle.up_entry.specs.declared.records.Rec.{Rec}
use Rattle.up_entry.specs.declared.records.Rec.TheVariants.{Put, Delete, Snap}
use Rattle.up_log_tree.specs.Changes.{changes_some, last_change, record_at}
use Rattle.up_log_tree.specs.Trees.{after_record, node_at, tree_at, tree_of}
use Rattle.up_log_tree.specs.declared.node.Node.{Node}
use Rattle.up_mem_tree.specs.Nodes.{put_by}
use Rattle.up_log_tree.proofs.Fronts.{take_next, take_past}
use Rattle.up_log_tree.proofs.Paths.{path_eq_turned}
use Rattle.up_log_tree.proofs.Trees.{node_at-delete, node_at-empty, node_at-put, node_at-snap, tree_of-push}
use Rattle.up_mem_tree.proofs.Named.{last_change-none, last_change-push}

module _ (records : List Rec) (path : PathName) where
  -- the last change among the first n records
  abbrev Last : ℕ → Option ℕ
  Last n = last_change (take n records) path

  abbrev changes : Rec → Bool
  changes rec = changes_some (path_eq path) rec

  pub last_next : (n : ℕ) (rec : Rec) → slice_get records n ≡ Some rec → Last (suc n) ≡ cond (changes rec) (Some (suc n)) (Last n)
  last_next n rec is =
      ap (λ rs. last_change rs path) (take_next n records rec is) ∙ last_change-push (take n records) rec path
      ∙ ap (λ k. cond (changes rec) (Some k) (Last n)) (let e : length (take n records) ≡ n = length-take-le n records (let w = slice_get_within records n rec is in omega (arith, w)) in omega (arith, e))

  pub last_past : (n : ℕ) → slice_get records n ≡ None → Last (suc n) ≡ Last n
  last_past n is = ap (λ rs. last_change rs path) (take_past n records is)

  -- ---- what the last change has left

  abbrev pub left : Option ℕ → Option Node
  left last = option_and_then (λ at. put_by (record_at records at)) last

  pub left_is : (n : ℕ) → node_at (tree_at records n) path ≡ left (Last n)
  left_is zero = node_at-empty path ∙ sym (ap left (last_change-none path))
  left_is (suc n) = go (slice_get records n) refl (left_is n)
    where
      by : (rec : Rec) → slice_get records n ≡ Some rec → (b : Bool) → changes rec ≡ b → node_at (tree_at records n) path ≡ left (Last n) →
          node_at (after_record (tree_at records n) rec) path ≡ left (cond b (Some (suc n)) (Last n))
      by (Put entry text) is true e so_far =
          node_at-put (tree_at records n) entry text path ∙ ap (λ b. cond b (Some (record { entry = entry; text = text })) (node_at (tree_at records n) path)) e
          ∙ sym (ap put_by is)
      by (Put entry text) is false e so_far =
          node_at-put (tree_at records n) entry text path ∙ ap (λ b. cond b (Some (record { entry = entry; text = text })) (node_at (tree_at records n) path)) e ∙ so_far
      by (Delete gone) is true e so_far =
          node_at-delete (tree_at records n) gone path ∙ ap (λ b. cond b None (node_at (tree_at records n) path)) (path_eq_turned gone path ∙ e) ∙ sym (ap put_by is)
      by (Delete gone) is false e so_far =
          node_at-delete (tree_at records n) gone path ∙ ap (λ b. cond b None (node_at (tree_at records n) path)) (path_eq_turned gone path ∙ e) ∙ so_far
      by (Snap time) is true e so_far = absurd (false≢true e)
      by (Snap time) is false e so_far = node_at-snap (tree_at records n) time path ∙ so_far

      go : (o : Option Rec) → slice_get records n ≡ o → node_at (tree_at records n) path ≡ left (Last n) → node_at (tree_at records (suc n)) path ≡ left (Last (suc n))
      go None is so_far = ap (λ rs. node_at (tree_of rs) path) (take_past n records is) ∙ so_far ∙ sym (ap left (last_past n is))
      go (Some rec) is so_far =
          ap (λ rs. node_at (tree_of rs) path) (take_next n records rec is) ∙ ap (λ t. node_at t path) (tree_of-push (take n records) rec)
          ∙ by rec is (changes rec) refl so_far ∙ sym (ap left (last_next n rec is))

  -- what stands there now
  pub left_now : put_by (record_at records (unwrap_or (last_change records path) 0)) ≡ node_at (tree_of records) path
  left_now =
      by (last_change records path) ∙ ap (λ rs. left (last_change rs path)) (sym whole) ∙ sym (left_is (length records))
      ∙ ap (λ rs. node_at (tree_of rs) path) whole
    where
      whole : take (length records) records ≡ records
      whole = take_all (length records) records (omega arith)

      by : (o : Option ℕ) → put_by (record_at records (unwrap_or o 0)) ≡ left o
      by None = refl
      by (Some at) = refl
