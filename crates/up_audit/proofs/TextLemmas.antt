-- How an audit is printed.
use Rattle.std.proofs.Common.{◌≡◌, ◌∙◌, ℕ, zero, suc, ◌+◌, ◌<◌, ◌≤◌, List, [], ◌∷◌, ◌++◌, length, map, drop, Option, sym, ap, subst, arith, append_assoc, append-nil}
use Rattle.std.proofs.Math.ListN.{get_or}
use Rattle.std.proofs.lemmas.List.{drop_all}
use Rattle.std.specs.Io.KnownBytes.{Appends}
use Rattle.std.specs.List.{flat_map}
use Rattle.up_audit.specs.Audits.{Ref, audit_of}
use Rattle.up_audit.specs.Texts.{audit_answer, audit_text, held_line, loose_line}
use Rattle.up_audit.specs.declared.audit.Audit.{Audit}
use Rattle.up_blocks.specs.declared.record.BlockRecord.{BlockRecord}
use Rattle.up_ends.proofs.Going.{Going-all, Going-more, WritesPart-none, WritesPart-step}
use Rattle.up_ends.specs.Writing.{Going, WritesPart}
use Rattle.up_journal.specs.Logs.{LogState}
use Rattle.up_names.specs.Texts.{Text}
use Rattle.up_reports.proofs.TellLemmas.{told_part, told_wanting, told_whole}
use Rattle.up_reports.specs.Telling.{AnswersOne}
use Rattle.up_tree.specs.States as tree

pub nothing_written : (held : Option Text) (all : Text) → WritesPart held held all
nothing_written held all = WritesPart-none held all

-- ---- the lines of loose blocks

abbrev pub lines : List Ref → Text
lines loose = flat_map loose_line loose

drop_suc : {X : Type 0} (xs : List X) (i : ℕ) (x : X) → i < length xs → x ≡ get_or xs i x → drop i xs ≡ x ∷ drop (suc i) xs
drop_suc [] i x within is = absurd (omega (arith, within))
drop_suc (y ∷ xs) zero x within is = ap (λ z. z ∷ xs) (sym is)
drop_suc (y ∷ xs) (suc i) x within is = drop_suc xs i x (omega (arith, within)) is

drop_more : {X : Type 0} (xs : List X) (i : ℕ) (x : X) → i < length xs → x ≡ get_or xs i x → drop i xs ≡ x ∷ drop (i + 1) xs
drop_more xs i x within is = drop_suc xs i x within is ∙ ap (λ n. x ∷ drop n xs) (let e : suc i ≡ i + 1 = omega arith in e)

-- what is gathered, and the lines that are left, the first of them apart
split_first : (gathered : Text) (loose : List Ref) (i : ℕ) (reference : Ref) → i < length loose → reference ≡ get_or loose i reference → gathered ++ lines (drop i loose) ≡ (gathered ++ loose_line reference) ++ lines (drop (i + 1) loose)
split_first gathered loose i reference within is = ap (λ rs. gathered ++ lines rs) (drop_more loose i reference within is) ∙ sym (append_assoc gathered (loose_line reference) (lines (drop (i + 1) loose)))

pub line_next : {old mid now : Option Text} {all : Text} (gathered kept : Text) (loose : List Ref) (i : ℕ) (reference : Ref) → i < length loose → reference ≡ get_or loose i reference → Going old mid (gathered ++ lines (drop i loose)) all → Going mid now kept (gathered ++ loose_line reference)
    → Going old now (kept ++ lines (drop (i + 1) loose)) all
line_next {old = old} {mid = mid} {all = all} gathered kept loose i reference within is before printed =
    let regroup : gathered ++ lines (drop i loose) ≡ printed.front ++ (kept ++ lines (drop (i + 1) loose)) =
    split_first gathered loose i reference within is ∙ ap (λ xs. xs ++ lines (drop (i + 1) loose)) (sym printed.whole) ∙ append_assoc printed.front kept (lines (drop (i + 1) loose)) in
    Going-more printed.front (kept ++ lines (drop (i + 1) loose)) (subst (λ xs. Going old mid xs all) regroup before) printed.written

pub line_part : {old mid now : Option Text} {all : Text} (gathered : Text) (loose : List Ref) (i : ℕ) (reference : Ref) → i < length loose → reference ≡ get_or loose i reference → Going old mid (gathered ++ lines (drop i loose)) all
    → WritesPart mid now (gathered ++ loose_line reference) → WritesPart old now all
line_part {old = old} {mid = mid} {all = all} gathered loose i reference within is before part =
    WritesPart-step (gathered ++ loose_line reference) (lines (drop (i + 1) loose)) (subst (λ xs. Going old mid xs all) (split_first gathered loose i reference within is) before) part

-- no line is left
none_left : (gathered : Text) (loose : List Ref) (i : ℕ) → length loose ≤ i → gathered ++ lines (drop i loose) ≡ (gathered ++ []) ++ []
none_left gathered loose i past = ap (λ rs. gathered ++ lines rs) (drop_all i loose past) ∙ sym (append-nil (gathered ++ []))

pub lines_all : (old mid now : Option Text) (all gathered : Text) (loose : List Ref) (i : ℕ) → length loose ≤ i → Going old mid (gathered ++ lines (drop i loose)) all → Appends mid now (gathered ++ []) → Appends old now all
lines_all old mid now all gathered loose i past before written = Going-all (Going-more (gathered ++ []) [] (subst (λ xs. Going old mid xs all) (none_left gathered loose i past) before) written)

pub lines_part : {old mid now : Option Text} {all : Text} (gathered : Text) (loose : List Ref) (i : ℕ) → length loose ≤ i → Going old mid (gathered ++ lines (drop i loose)) all → WritesPart mid now (gathered ++ []) → WritesPart old now all
lines_part {old = old} {mid = mid} {all = all} gathered loose i past before part = WritesPart-step (gathered ++ []) [] (subst (λ xs. Going old mid xs all) (none_left gathered loose i past) before) part

pub ruleset endings = (nothing_written)

-- ---- an audit

text_is : (gathered : Text) (loose : List Ref) (audit : Audit) → gathered ≡ held_line audit.held (length audit.loose) → loose ≡ audit.loose → gathered ++ lines loose ≡ audit_text audit
text_is gathered loose audit first others = ap (λ xs. xs ++ lines loose) first ∙ ap (λ rs. held_line audit.held (length audit.loose) ++ lines rs) others

pub audit_written : (old now : Option Text) (gathered : Text) (loose : List Ref) (audit : Audit) → gathered ≡ held_line audit.held (length audit.loose) → loose ≡ audit.loose → Appends old now (gathered ++ lines loose) → Appends old now (audit_text audit)
audit_written old now gathered loose audit first others written = subst (Appends old now) (text_is gathered loose audit first others) written

pub audit_part : (old now : Option Text) (gathered : Text) (loose : List Ref) (audit : Audit) → gathered ≡ held_line audit.held (length audit.loose) → loose ≡ audit.loose → WritesPart old now (gathered ++ lines loose) → WritesPart old now (audit_text audit)
audit_part old now gathered loose audit first others part = subst (WritesPart old now) (text_is gathered loose audit first others) part

pub ruleset printings = (nothing_written, audit_written, audit_part)

-- ---- what a report answers

module _ {D : Type 0} (held held_now : Option Text) (trees seen : List (tree.State D)) (store : LogState D BlockRecord) where
  abbrev printed : Text
  printed = audit_text (audit_of (map tree.entries_of trees) store.log)

  same_text : (audit : Audit) → seen ≡ trees → audit ≡ audit_of (map tree.entries_of seen) store.log → audit_text audit ≡ printed
  same_text audit same is = ap audit_text (is ∙ ap (λ ts. audit_of (map tree.entries_of ts) store.log) same)

  pub report_whole : (audit : Audit) (code : ℕ) → seen ≡ trees → audit ≡ audit_of (map tree.entries_of seen) store.log → Appends held held_now (audit_text audit) → WritesPart held held_now (audit_text audit) → code ≡ 0 → AnswersOne held held_now (audit_answer trees store) code
  report_whole audit code same is whole part done =
      subst (AnswersOne held held_now (audit_answer trees store)) (sym done) (told_whole held held_now printed 0 (subst (Appends held held_now) (same_text audit same is) whole) (subst (WritesPart held held_now) (same_text audit same is) part))

  pub report_part : (audit : Audit) (code : ℕ) → seen ≡ trees → audit ≡ audit_of (map tree.entries_of seen) store.log → WritesPart held held_now (audit_text audit) → code ≡ 3 → AnswersOne held held_now (audit_answer trees store) code
  report_part audit code same is part three = subst (AnswersOne held held_now (audit_answer trees store)) (sym three) (told_part held held_now printed 0 (subst (WritesPart held held_now) (same_text audit same is) part))

  pub report_wanting : (audit : Audit) (code : ℕ) → seen ≡ trees → audit ≡ audit_of (map tree.entries_of seen) store.log → WritesPart held held_now (audit_text audit) → code ≡ 4 → AnswersOne held held_now (audit_answer trees store) code
  report_wanting audit code same is part four = subst (AnswersOne held held_now (audit_answer trees store)) (sym four) (told_wanting held held_now printed 0 (subst (WritesPart held held_now) (same_text audit same is) part))

module _ {D : Type 0} (held : Option Text) (trees : List (tree.State D)) (store : LogState D BlockRecord) where
  pub report_none : (code : ℕ) → code ≡ 4 → AnswersOne held held (audit_answer trees store) code
  report_none code four = subst (AnswersOne held held (audit_answer trees store)) (sym four) (told_wanting held held (audit_text (audit_of (map tree.entries_of trees) store.log)) 0 (WritesPart-none held (audit_text (audit_of (map tree.entries_of trees) store.log))))

pub ruleset reports = (report_whole, report_part, report_wanting, report_none)
