-- What follows from what came of an audit.
use Rattle.std.proofs.Common.{◌≡◌, ◌∙◌, ◌≤◌, ◌++◌, ℕ, List, [], ◌∷◌, Option, Some, None, refl, sym, ap, subst, inl, arith}
use Rattle.std.specs.List.{sum_by}
use Rattle.std.specs.Prelude.{IfSome}
use Rattle.up_audit.specs.Runs.{Audits}
use Rattle.up_audit.specs.Texts.{audit_answer}
use Rattle.up_blocks.specs.declared.record.BlockRecord.{BlockRecord}
use Rattle.up_command.specs.Statuses.{IsOneOf}
use Rattle.up_disk.specs.declared.disk.Disk.{Ghosts}
use Rattle.up_ends.proofs.Going.{WritesPart-none}
use Rattle.up_journal.specs.Logs.{LogState}
use Rattle.up_journal.specs.declared.fault.OpenWhy.TheVariants as why
use Rattle.up_journal.specs.declared.limits.Limits.{Limits}
use Rattle.up_lists.specs.Counts.{Rose}
use Rattle.up_names.specs.Texts.{Text, UserName}
use Rattle.up_reports.proofs.CountLemmas.{opens_later, refuses_later, refuses_rose, refuses_well}
use Rattle.up_reports.proofs.TellLemmas.{refused_codes, refused_complete, refused_six}
use Rattle.up_reports.specs.Opens.{AreLogs, OpensLogs, RefusesLogs, disks_of, logs_of}
use Rattle.up_reports.specs.Telling.{AnswersOne, Stays, told_of}
use Rattle.up_reports.specs.declared.refused.Refused.{Refused}
use Rattle.up_tree.specs.States as tree

-- ---- numbers

from_refused : (n : ℕ) → IsOneOf (3 ∷ 4 ∷ 6 ∷ 8 ∷ []) n → IsOneOf (0 ∷ 3 ∷ 4 ∷ 6 ∷ 8 ∷ []) n
from_refused n one = grind (arith)

from_audited : (n : ℕ) → IsOneOf (3 ∷ 4 ∷ 0 ∷ []) n → IsOneOf (0 ∷ 3 ∷ 4 ∷ 6 ∷ 8 ∷ []) n
from_audited n one = grind (arith)

not_six : (n : ℕ) → IsOneOf (3 ∷ 4 ∷ 0 ∷ []) n → n ≡ 6 → ⊥
not_six n one six = grind (arith)

audited_well : (n : ℕ) → IsOneOf (3 ∷ 4 ∷ 0 ∷ []) n → (n ≡ 3 → ⊥) → IsOneOf (0 ∷ 4 ∷ []) n
audited_well n one write = grind (arith)

pub more_64 : (n : ℕ) → IsOneOf (0 ∷ 3 ∷ 4 ∷ 6 ∷ 8 ∷ []) n → IsOneOf (0 ∷ 3 ∷ 4 ∷ 6 ∷ 8 ∷ 64 ∷ []) n
more_64 n one = grind (arith)

pub never_64 : (n : ℕ) → IsOneOf (0 ∷ 3 ∷ 4 ∷ 6 ∷ 8 ∷ []) n → n ≡ 64 → ⊥
never_64 n one is = grind (arith)

pub usage_codes : (n : ℕ) → IsOneOf (3 ∷ 64 ∷ []) n → IsOneOf (0 ∷ 3 ∷ 4 ∷ 6 ∷ 8 ∷ 64 ∷ []) n
usage_codes n one = grind (arith)

pub usage_or_4 : (n : ℕ) → IsOneOf (3 ∷ 64 ∷ []) n → IsOneOf (3 ∷ 4 ∷ 64 ∷ []) n
usage_or_4 n one = grind (arith)

pub usage_not_6 : (n : ℕ) → IsOneOf (3 ∷ 64 ∷ []) n → n ≡ 6 → ⊥
usage_not_6 n one is = grind (arith)

pub four_or_usage : (n : ℕ) → n ≡ 4 → IsOneOf (3 ∷ 4 ∷ 64 ∷ []) n
four_or_usage n is = grind (arith)

pub four_well : (n : ℕ) → n ≡ 4 → IsOneOf (0 ∷ 4 ∷ []) n
four_well n is = grind (arith)

module _ {D : Type 0} (disks : Ghosts D) (limits : Limits) (owners : List UserName) (given now : List D) (held held_now : Option Text) where
  pub statuses : (status : ℕ) → Audits disks limits owners given now held held_now status → IsOneOf (0 ∷ 3 ∷ 4 ∷ 6 ∷ 8 ∷ []) status
  statuses status (Audits.refused {refusal = refusal} refuses one) = from_refused status (refused_codes held held_now refusal status one)
  statuses status (Audits.audited opens back one) = from_audited status one.one

  pub later : (status : ℕ) → Audits disks limits owners given now held held_now status → sum_by disks.faults given ≤ sum_by disks.faults now
  later status (Audits.refused {refusal = refusal} refuses one) = refuses_later disks limits (logs_of owners) given now refusal refuses
  later status (Audits.audited {trees = trees} {store = store} opens back one) = subst (λ ds. sum_by disks.faults given ≤ sum_by disks.faults ds) (sym back) (opens_later disks limits owners given trees store opens)

  pub rose : (status : ℕ) → Audits disks limits owners given now held held_now status → status ≡ 6 → Rose (sum_by disks.faults given) (sum_by disks.faults now)
  rose status (Audits.refused {refusal = refusal} refuses one) six = refuses_rose disks limits (logs_of owners) given now refusal refuses (refused_six held held_now refusal status one six)
  rose status (Audits.audited opens back one) six = absurd (not_six status one.one six)

  pub complete : (wrote wrote_now : ℕ) (status : ℕ) → Audits disks limits owners given now held held_now status → (status ≡ 3 → Rose wrote wrote_now) → AreLogs disks limits (logs_of owners) given → Stays wrote wrote_now
      → Stays (sum_by disks.faults given) (sum_by disks.faults now) → IsOneOf (0 ∷ 4 ∷ []) status
  complete wrote wrote_now status audits cause logs sink disk = by audits (rose status audits)
    where
      by : Audits disks limits owners given now held held_now status → (status ≡ 6 → Rose (sum_by disks.faults given) (sum_by disks.faults now)) → IsOneOf (0 ∷ 4 ∷ []) status
      by (Audits.refused {refusal = refusal} refuses one) failed =
          refused_complete held held_now refusal status one (refuses_well disks limits (logs_of owners) given now refusal logs refuses) (λ three. sink (cause three)) (λ six. disk (failed six))
      by (Audits.audited opens back one) failed = audited_well status one.one (λ three. sink (cause three))

  -- ---- each exit

  pub was_refused : (refusal : Refused) (status : ℕ) → RefusesLogs disks limits (logs_of owners) given now refusal → AnswersOne held held_now (told_of refusal) status → Audits disks limits owners given now held held_now status
  was_refused refusal status refuses one = Audits.refused refuses one

  pub was_audited : (trees : List (tree.State D)) (store : LogState D BlockRecord) (rest : List D) (status : ℕ) → OpensLogs disks limits owners given trees store → rest ≡ [] → now ≡ rest ++ disks_of trees store → AnswersOne held held_now (audit_answer trees store) status
      → Audits disks limits owners given now held held_now status
  was_audited trees store rest status opens none back one = Audits.audited opens (back ∙ ap (λ ds. ds ++ disks_of trees store) none) one

pub ruleset cases = (was_refused, was_audited)

-- ---- words that are not read, for want of memory

abbrev wanting : Refused
wanting = record { which = 0; why = why.OutOfMemory }

if_any : {X : Type 0} (P : X → Type 0) (found : Option X) → ((x : X) → P x) → IfSome found P
if_any P None each = tt
if_any P (Some x) each = each x

module _ {D : Type 0} (disks : Ghosts D) (limits : Limits) (given : List D) (held : Option Text) where
  unread : (owners : List UserName) (status : ℕ) → status ≡ 4 → Audits disks limits owners given given held held status
  unread owners status four =
      subst (Audits disks limits owners given given held held) (sym four) (Audits.refused {refusal = wanting} (inl (record { back_is = refl; refused_is = refl })) (record { one = refl; answers = record { whole = λ bad. absurd (cc); part = WritesPart-none held [] } }))

  pub words_unread : (found : Option (List UserName)) (status : ℕ) → status ≡ 4 → IfSome found (λ owners. Audits disks limits owners given given held held status)
  words_unread found status four = if_any (λ owners. Audits disks limits owners given given held held status) found (λ owners. unread owners status four)

  pub unread_well : (wrote wrote_now : ℕ) (found : Option (List UserName)) (status : ℕ) → status ≡ 4
      → IfSome found (λ owners. AreLogs disks limits (logs_of owners) given → Stays wrote wrote_now → Stays (sum_by disks.faults given) (sum_by disks.faults given) → IsOneOf (0 ∷ 4 ∷ []) status)
  unread_well wrote wrote_now found status four = if_any _ found (λ owners logs sink disk. four_well status four)

pub ruleset runs = (more_64, usage_codes, usage_or_4, words_unread, unread_well)
