-- There is one disk more than trees; and where there was no memory to read the words, nothing was printed.
use Rattle.std.proofs.Common.{◌≡◌, Some, map, string_bytes, refl, sym, ◌∙◌}
use Rattle.up_audit.proofs.RunLemmas.{four_or_usage}
use Rattle.up_audit.proofs.WordLemmas.{so_many}
use Rattle.up_audit.proofs.run.audit_run.Goals as goal
use Rattle.up_audit.specs.Words.{owners_for}
use Rattle.up_command.specs.Statuses.{usage_line}
use Rattle.up_ends.proofs.Going.{WritesPart-none}

pub audit_within-requires-clause-disks : goal.audit_within-requires-clause-disks
audit_within-requires-clause-disks g c =
    let plan = c.in-Ok-Some.ensures.plan in
    let result_is = c.in-Ok-Some.is in
    let found_is = c.in-Ok-Some.field-0-is in
    let owners_is = c.in-Ok-Some.owners-is in
    let some : Some c.in-Ok-Some.owners ≡ owners_for (map string_bytes c.args.words.now) c.len.result = cc in
    sym c.len.ensures ∙ so_many (map string_bytes c.args.words.now) c.len.result c.in-Ok-Some.owners some

pub returns-in-Err-clause-usage : goal.returns-in-Err-clause-usage
returns-in-Err-clause-usage g c = λ none. (four_or_usage c.code-in-Err.result c.code-in-Err.ensures, refl, WritesPart-none (g.K.Sink.held c.args.sink.now) usage_line)
