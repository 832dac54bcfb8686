use Rattle.std.proofs.Common.{ap, ◌∙◌, arith, length, slice_get}
use Rattle.std.specs.Map.{keys_of}
use Rattle.up_log_tree.specs.Trees.{tree_of}
use Rattle.up_share.proofs.KnownLemmas.{told_all, told_next, unread_all}
use Rattle.up_share.proofs.report.tell_paths.Goals as goal

pub loop-i-preserved : goal.loop-i-preserved
loop-i-preserved g c =
    told_next c.args.state.now.owner (tree_of c.args.state.now.log) c.args.text.now.items c.loop-i.i c.in-Some.path.now c.loop-i.known c.tell_path.new.known c.loop-i.text.items c.tell_path.new.text.items
    (c.in-Some.ensures ∙ ap (λ entries. slice_get (keys_of entries) c.loop-i.i) c.requires.paths) c.loop-i.invariant c.in_ok-tell_path.ensures

pub returns-clause-text : goal.returns-clause-text
returns-clause-text g c =
    let all = ap length c.requires.paths in
    told_all c.args.state.now.owner (tree_of c.args.state.now.log) c.args.text.now.items c.loop-i.i c.loop-i.known c.loop-i.text.items (omega (arith, all, c.len-i-end.ensures, c.loop-i-test.false)) c.loop-i.invariant

pub returns-clause-unread : goal.returns-clause-unread
returns-clause-unread g c =
    let all = ap length c.requires.paths in
    unread_all c.args.state.now.owner (tree_of c.args.state.now.log) c.args.text.now.items c.loop-i.i c.loop-i.known c.loop-i.text.items (omega (arith, all, c.len-i-end.ensures, c.loop-i-test.false)) c.loop-i.invariant
