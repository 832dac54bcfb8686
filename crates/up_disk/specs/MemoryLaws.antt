-- The laws of a disk, for one in memory.
use Rattle.std.specs.Prelude.{◌≡◌, ◌≤◌, ℕ, List, length, take}
use Rattle.std.proofs.Common.{sym, subst, arith}
use Rattle.std.proofs.lemmas.List.{take_all}
use Rattle.up_disk.specs.Pending.{MayLeave, content_after}
use Rattle.up_disk.specs.PendingLaws.{reads}
use Rattle.up_disk.specs.declared.call.Call.{Call}

-- what a read gives is one of the images that a crash may leave
pub leaves_bytes : (first bytes : List ℕ) (calls : List Call) → bytes ≡ content_after first calls → MayLeave first first calls bytes
leaves_bytes first bytes calls is = subst (λ (b : List ℕ). MayLeave first first calls b) (sym is) (reads first calls)

-- an image that a crash may leave now is one of those since any earlier moment
pub since_now : (first : List ℕ) (calls : List Call) (t : ℕ) (image : List ℕ) → t ≤ length calls → MayLeave first first calls image
    → (k : ℕ) × (t ≤ k) × (k ≤ length calls) × MayLeave first first (take k calls) image
since_now first calls t image le left = (
  length calls,
  le,
  omega arith,
  subst (λ (l : List Call). MayLeave first first l image) (sym (take_all (length calls) calls (omega arith))) left,
)

-- an image that a crash may leave since now is one that it may leave now
pub now_only : (first : List ℕ) (calls : List Call) (image : List ℕ)
    → (k : ℕ) × (length calls ≤ k) × (k ≤ length calls) × MayLeave first first (take k calls) image
    → MayLeave first first calls image
now_only first calls image left = subst (λ (l : List Call). MayLeave first first l image) (take_all left.0 calls left.1) left.3
