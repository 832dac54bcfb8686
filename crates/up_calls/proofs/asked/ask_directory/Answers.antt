use Rattle.std.proofs.Common.{rules, ◌≡◌, Err}
use Rattle.up_calls.proofs.CameLemmas.{came_malformed, nothing_bare}
use Rattle.up_calls.proofs.ReadLemmas.{route_malformed}
use Rattle.up_calls.proofs.ShownLemmas.{all_shown}
use Rattle.up_calls.specs.Routes.{Question}
use Rattle.up_entry.specs.declared.fault.EntryFault.TheVariants as fault
use Rattle.up_list.specs.Asking.{asked_of}
use Rattle.up_wire.specs.declared.replies.Reply.TheVariants as reply
use Rattle.up_calls.proofs.asked.ask_directory.Goals as goal

pub returns-in-Err-Invalid-clause-came : goal.returns-in-Err-Invalid-clause-came
returns-in-Err-Invalid-clause-came g c =
    let q : Question = record { user = c.args.user.now; request = c.args.request.now } in
    let logs = c.args.logs.now in
    let what = c.in-Err-Invalid.what in
    let is : asked_of q.user q.request ≡ Err (fault.Invalid what) = search rules in
    came_malformed g.L.Loader g.met.L.Loader.same (g.B.Logs.operator_of logs) (λ log n. g.B.Logs.left log n logs logs) (λ log. g.B.Logs.rises log logs logs) q c.args.loader.now c.args.now
    (g.B.Logs.views logs) (reply.Invalid what) c.bare.result c.requires.directory (route_malformed q.user q.request what is) c.bare.ensures

pub returns-in-Err-OutOfMemory-clause-came : goal.returns-in-Err-OutOfMemory-clause-came
returns-in-Err-OutOfMemory-clause-came g c =
    let q : Question = record { user = c.args.user.now; request = c.args.request.now } in
    let logs = c.args.logs.now in
    nothing_bare g.L.Loader g.met.L.Loader.same (g.B.Logs.operator_of logs) (λ log n. g.B.Logs.left log n logs logs) (λ log. g.B.Logs.rises log logs logs) (g.B.Logs.views logs) q
    c.args.loader.now c.bare-in-Err-OutOfMemory.result c.args.now c.bare-in-Err-OutOfMemory.ensures

pub returns-in-Err-Invalid-clause-quiet : goal.returns-in-Err-Invalid-clause-quiet
returns-in-Err-Invalid-clause-quiet g c =
    let q : Question = record { user = c.args.user.now; request = c.args.request.now } in
    let logs = c.args.logs.now in
    all_shown (λ log. g.B.Logs.quiet log logs logs) q c.bare.result (λ log. g.met.B.Logs.quiet_same log logs)

pub returns-in-Err-OutOfMemory-clause-quiet : goal.returns-in-Err-OutOfMemory-clause-quiet
returns-in-Err-OutOfMemory-clause-quiet g c =
    let q : Question = record { user = c.args.user.now; request = c.args.request.now } in
    let logs = c.args.logs.now in
    all_shown (λ log. g.B.Logs.quiet log logs logs) q c.bare-in-Err-OutOfMemory.result (λ log. g.met.B.Logs.quiet_same log logs)
