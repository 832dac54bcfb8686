use Rattle.up_calls.proofs.ApartLemmas.{tells_no_more}
use Rattle.up_calls.proofs.CameLemmas.{asked_by, tied_by}
use Rattle.up_calls.specs.Routes.{Question, log_asked}
use Rattle.up_calls.proofs.asking.ask.Goals as goal

pub returns-clause-asked : goal.returns-clause-asked
returns-clause-asked g c =
    let q : Question = record { user = c.args.user.now; request = c.args.request.now } in
    let first = c.args.logs.now in
    let last = c.ask_by.new.logs in
    asked_by g.L.Loader (g.B.Logs.operator_of first) (λ log n. g.B.Logs.left log n first last) (λ log. g.B.Logs.rises log first last) (g.B.Logs.views first) (g.B.Logs.views last) q
    c.args.loader.now c.ask_by.new.loader c.ask_by.result c.ask_by.ensures.came
    (g.met.B.Logs.later (log_asked q) first last c.ask_by.ensures.tie) (g.met.B.Logs.stays (log_asked q) first last c.ask_by.ensures.tie)

pub returns-clause-leaves : goal.returns-clause-leaves
returns-clause-leaves g c = c.ask_by.ensures.came.leaves

pub returns-clause-risen : goal.returns-clause-risen
returns-clause-risen g c = c.ask_by.ensures.came.risen

pub returns-clause-quiet : goal.returns-clause-quiet
returns-clause-quiet g c = c.ask_by.ensures.quiet

pub returns-clause-rounds : goal.returns-clause-rounds
returns-clause-rounds g c = c.ask_by.ensures.came.rounds

pub returns-clause-alike : goal.returns-clause-alike
returns-clause-alike g c =
    let q : Question = record { user = c.args.user.now; request = c.args.request.now } in
    let first = c.args.logs.now in
    let last = c.ask_by.new.logs in
    tells_no_more g.L.Loader (g.B.Logs.operator_of first) (g.B.Logs.views first) (g.B.Logs.views last) c.args.loader.now c.ask_by.new.loader q c.ask_by.result
    (asked_by g.L.Loader (g.B.Logs.operator_of first) (λ log n. g.B.Logs.left log n first last) (λ log. g.B.Logs.rises log first last) (g.B.Logs.views first) (g.B.Logs.views last) q
    c.args.loader.now c.ask_by.new.loader c.ask_by.result c.ask_by.ensures.came
    (g.met.B.Logs.later (log_asked q) first last c.ask_by.ensures.tie) (g.met.B.Logs.stays (log_asked q) first last c.ask_by.ensures.tie))

pub returns-clause-loader : goal.returns-clause-loader
returns-clause-loader g c = tied_by g.L.Loader g.met.L.Loader.joined c.args.loader.now c.ask_by.new.loader c.ask_by.ensures.came.loads.some
