-- No damage is found on empty disks.
use Rattle.std.proofs.Common.{◌≡◌, ℕ, zero, suc, Bool, false, List, [], ◌∷◌, ◌++◌, take, Option, Some, Result, Ok, Err, inl, inr, refl, ap, subst, ◌∙◌}
use Rattle.std.specs.List.{AllByRecursion}
use Rattle.std.specs.Prelude.{IfSome}
use Rattle.up_blocks.specs.Records as blocks
use Rattle.up_disk.specs.declared.disk.Disk.{Ghosts}
use Rattle.up_host.specs.Opens.{IsNoLog, IsRefusedAs, Reader, RefusesHost, store_limits}
use Rattle.up_host.specs.Routes.{LogName}
use Rattle.up_host.specs.declared.fault.HostFault.{HostFault}
use Rattle.up_journal.specs.Damages.{Damage}
use Rattle.up_journal.specs.Damages as damage
use Rattle.up_journal.specs.Format2.{log_of}
use Rattle.up_journal.specs.Logs.{log_in}
use Rattle.up_journal.specs.Opened.{IsDamageOf, why_of}
use Rattle.up_journal.specs.Records.{state_of}
use Rattle.up_journal.specs.declared.fault.OpenFault.{OpenFault}
use Rattle.up_journal.specs.declared.fault.OpenWhy.{OpenWhy}
use Rattle.up_journal.specs.declared.fault.OpenWhy.TheVariants as reason
use Rattle.up_journal.specs.declared.limits.Limits.{Limits}
use Rattle.up_keys.specs.Records as keys
use Rattle.up_names.specs.Texts.{UserName}
use Rattle.up_log_tree.specs.Fits.{fits}
use Rattle.up_disk.specs.Leaving.{IsBlank}
use Rattle.up_sessions.specs.Opening.{is_damage}
use Rattle.up_tree.specs.States as tree

-- an empty image has the empty log
pub empty_log : {R : Type 0} (decode : List ℕ → Option R) (fits : List R → R → Bool) (largest : ℕ) → log_in decode fits largest [] ≡ Ok []
unfolding state_of log_of
empty_log decode fits largest = refl

-- and so no damage
undamaged : {R : Type 0} (read : List ℕ → Result (List R) Damage) (told : Option (List ℕ)) (why : OpenWhy) → told ≡ Some [] → read [] ≡ Ok [] → IsDamageOf read told why → is_damage why ≡ false
undamaged {R} read told why empty none found = by_why why refl
  where
    no : (d : Damage) → why ≡ why_of d → ⊥
    no d is = let bad : read [] ≡ Err d = subst (λ seen. IfSome seen (λ image. read image ≡ Err d)) empty (found d is) in absurd (cc)

    by_why : (found : OpenWhy) → why ≡ found → is_damage why ≡ false
    by_why reason.Fault is = ap is_damage is
    by_why reason.OutOfMemory is = ap is_damage is
    by_why (reason.Damaged gate) is = absurd (no (damage.Damaged gate) is)
    by_why (reason.Chain gate wanted got) is = absurd (no (damage.Chain gate wanted got) is)
    by_why reason.OldFormat is = absurd (no damage.OldFormat is)

-- an item of a list of which something holds
all_at : {X : Type 0} (P : X → Type 0) (before after : List X) (x : X) → AllByRecursion P (before ++ x ∷ after) → P x
all_at P [] after x all = all.0
all_at P (y ∷ before) after x all = all_at P before after x all.1

pub all_first : {X : Type 0} (P : X → Type 0) (n : ℕ) (xs : List X) → AllByRecursion P xs → AllByRecursion P (take n xs)
all_first P zero xs all = tt
all_first P (suc n) [] all = tt
all_first P (suc n) (x ∷ xs) all = (all.0, all_first P n xs all.1)

module _ {D : Type 0} (disks : Ghosts D) (limits : Limits) where
  at_disk : {R : Type 0} (read : Reader R) (limits : Limits) (disk : D) (fault : OpenFault D) → read limits.largest [] ≡ Ok [] → IsBlank disks disk → IsNoLog disks read limits disk fault → is_damage fault.why ≡ false
  at_disk read limits disk fault none blank refused = undamaged (read limits.largest) (disks.content disk) fault.why blank.empty none refused.refuses.damaged

  as_log : (log : LogName) (disk : D) (fault : OpenFault D) → IsBlank disks disk → IsRefusedAs disks limits log disk fault → is_damage fault.why ≡ false
  as_log (LogName.OfTree owner) disk fault blank refused = at_disk (tree.records_in owner) limits disk fault (empty_log tree.record_in (fits owner) limits.largest) blank refused
  as_log LogName.OfStore disk fault blank refused = at_disk blocks.blocks_in (store_limits limits) disk fault (empty_log blocks.decoded blocks.fits 1048640) blank refused
  as_log LogName.OfKeys disk fault blank refused = at_disk keys.records_in limits disk fault (empty_log keys.decoded keys.fits limits.largest) blank refused

  -- a host over empty disks is refused for a fault or for want of memory
  pub refused_blank : (owners : List UserName) (given : List D) (fault : HostFault D) → AllByRecursion (IsBlank disks) given → RefusesHost disks limits owners given fault → is_damage fault.why ≡ false
  refused_blank owners given fault blank (inl none) = ap is_damage none.why_is
  refused_blank owners given fault blank (inr one) =
      ap is_damage one.why_is ∙ as_log one.log one.disk one.refused (all_at (IsBlank disks) one.used one.rest one.disk (subst (AllByRecursion (IsBlank disks)) one.given_is blank)) one.was_refused
