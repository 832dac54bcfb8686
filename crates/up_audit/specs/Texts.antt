-- What `upspin audit` prints. This project's own.
use Rattle.std.specs.Prelude.{ℕ, List, length, ◌++◌, codes, decimal, map}
use Rattle.std.specs.List.{flat_map}
use Rattle.up_audit.specs.Audits.{Ref, audit_of}
use Rattle.up_audit.specs.declared.audit.Audit.{Audit}
use Rattle.up_blocks.specs.declared.record.BlockRecord.{BlockRecord}
use Rattle.up_command.specs.Printed.{ended}
use Rattle.up_command.specs.Statuses.{Answer}
use Rattle.up_journal.specs.Logs.{LogState}
use Rattle.up_names.specs.Texts.{Text}
use Rattle.up_refs.specs.References.{text_of}
use Rattle.up_tree.specs.States as tree

-- `held H loose L`: how many blocks the store holds, and how many of them are loose
abbrev pub held_line : ℕ → ℕ → Text
held_line held loose = ended (codes "held " ++ decimal held ++ codes " loose " ++ decimal loose)

-- `loose REF`: the line of a loose reference
abbrev pub loose_line : Ref → Text
loose_line reference = ended (codes "loose " ++ text_of reference)

-- what is printed of an audit: how many references are held and how many of these are loose, and a line for each loose one
abbrev pub audit_text : Audit → Text
audit_text audit = held_line audit.held (length audit.loose) ++ flat_map loose_line audit.loose

-- what is printed of opened logs, with status 0
abbrev pub audit_answer : {D : Type 0} → List (tree.State D) → LogState D BlockRecord → Answer
audit_answer trees store = record { text = audit_text (audit_of (map tree.entries_of trees) store.log); status = 0 }
