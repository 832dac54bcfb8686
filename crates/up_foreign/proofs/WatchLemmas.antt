-- The places of a Watch by its sequence.
use Rattle.std.proofs.Common.{◌≡◌, ℕ, zero, suc, [], length, refl, ap, sym, ◌∙◌, w64, SFits, to_z, of_z}
use Rattle.std.proofs.Math.Facts.{to_z-of_z}
use Rattle.std.specs.Prelude.{ℤ, pos, negsuc}
use Rattle.up_names.specs.PathNames.{PathName, is_under}
use Rattle.up_log_tree.specs.Logs.{Log}
use Rattle.up_log_tree.specs.Trees.{tree_of}
use Rattle.up_answers.specs.Needs.{event_places_to, items_where, watch_places}
use Rattle.up_foreign.specs.Watched.{watched_by}
use Rattle.up_foreign.specs.declared.needed.Watched.{Watched}
use Rattle.up_foreign.specs.declared.needed.Watched.TheVariants.{Above, Items, Nothing}

-- a sequence as it is handed on
pub same_number : (z : ℤ) → SFits w64 z → to_z w64 (of_z w64 z) ≡ z
same_number z fits = to_z-of_z fits

pub means : (z : ℤ) → SFits w64 z → (watched : Watched) → watched ≡ watched_by (to_z w64 (of_z w64 z)) → watched_by z ≡ watched
means z fits watched is = sym (is ∙ ap watched_by (same_number z fits))

above_same : (a b : ℕ) → Above a ≡ Above b → a ≡ b
above_same a b h = cc

pub above_places : (log : Log) (path : PathName) (sequence : ℤ) (n : ℕ) → watched_by sequence ≡ Above n → watch_places log path sequence ≡ event_places_to log n path (length log.records)
above_places log path (pos m) n h = ap (λ k. event_places_to log k path (length log.records)) (above_same m n h)
above_places log path (negsuc zero) n h = absurd (cc)
above_places log path (negsuc (suc m)) n h = absurd (cc)

pub items_places : (log : Log) (path : PathName) (sequence : ℤ) → watched_by sequence ≡ Items → watch_places log path sequence ≡ items_where (λ name. is_under name path) (tree_of log.records)
items_places log path (pos m) h = absurd (cc)
items_places log path (negsuc zero) h = refl
items_places log path (negsuc (suc m)) h = absurd (cc)

pub no_places : (log : Log) (path : PathName) (sequence : ℤ) → watched_by sequence ≡ Nothing → watch_places log path sequence ≡ []
no_places log path (pos m) h = absurd (cc)
no_places log path (negsuc zero) h = absurd (cc)
no_places log path (negsuc (suc m)) h = refl
