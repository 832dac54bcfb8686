use Rattle.std.proofs.Common.{map, refl, string_bytes, subst, IfSome, Option}
use Rattle.up_names.specs.Texts.{UserName}
use Rattle.up_command.specs.Statuses.{usage_line}
use Rattle.up_ends.proofs.Going.{WritesPart-none}
use Rattle.up_share.proofs.ShareLemmas.{Fits, fits_completes, want_code}
use Rattle.up_share.proofs.share.share_run.Goals as goal

pub returns-in-Ok-Some-clause-complete : goal.returns-in-Ok-Some-clause-complete
returns-in-Ok-Some-clause-complete g c =
    fits_completes g.D.Disk (map string_bytes c.args.words.now) c.args.disks.now.disks c.in-Ok-Some.owner c.share_within.new.disks.disks (g.K.Sink.faults c.args.sink.now) (g.K.Sink.faults c.share_within.new.sink) c.share_within.result
    (subst (λ (found : Option UserName). IfSome found (Fits g.D.Disk (map string_bytes c.args.words.now) c.args.disks.now.disks)) c.in-Ok-Some.field-0-is c.in-Ok-Some.ensures.fits) c.share_within.ensures.complete

pub returns-in-Err-clause-usage : goal.returns-in-Err-clause-usage
returns-in-Err-clause-usage g c = λ not. (want_code c.code-in-Err.result c.code-in-Err.ensures, refl, WritesPart-none (g.K.Sink.held c.args.sink.now) usage_line)
