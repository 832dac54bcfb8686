use Rattle.std.proofs.Common.{refl, subst}
use Rattle.std.specs.Prelude.{is_ok}
use Rattle.up_watch.specs.Decided.{IsGiven}
use Rattle.up_watch.proofs.DecidedLemmas.{put_control, put_ordinary}
use Rattle.up_watch.proofs.decided.Decided.add.Goals as goal

-- on the Access and Group paths
pub returns-then-control : goal.returns-then-control
returns-then-control c = λ watching is are.
    put_control watching c.args.dir c.args.given (is_ok c.put.result) c.args.self.now (record { ordinary = c.args.self.now.ordinary; control = c.put.new.dirs }) refl c.put.ensures
    (subst (λ b. IsGiven watching b c.args.dir c.args.given) c.if-control.true is) are

-- on the ordinary paths
pub returns-else-control : goal.returns-else-control
returns-else-control c = λ watching is are.
    put_ordinary watching c.args.dir c.args.given (is_ok c.put-else-control.result) c.args.self.now (record { ordinary = c.put-else-control.new.dirs; control = c.args.self.now.control }) refl c.put-else-control.ensures
    (subst (λ b. IsGiven watching b c.args.dir c.args.given) c.if-control.false is) are
