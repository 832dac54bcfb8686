use Rattle.std.proofs.Common.{◌≡◌, refl, sym, ◌∙◌, None}
use Rattle.up_log_tree.specs.Rights.{access_node}
use Rattle.up_list.specs.Deciding.{AreGovernedAlike, IsDecided}
use Rattle.up_list.proofs.BelowLemmas.{below_failed, decided_below, governed_alike, no_some, nothing_decided}
use Rattle.up_list.proofs.walk.rights_below.Goals as goal

-- the item has an Access file of its own: all is decided anew
pub returns-then-branch : goal.returns-then-branch
returns-then-branch g c = λ at dir stands is.
    let look = g.O.Onlooker.look c.args.onlooker.now in
    let own = c.args.entry.now.name in
    let new : IsDecided look own c.nothing-own.result = nothing_decided look own c.nothing-own.result c.nothing-own.ensures.ordinary c.nothing-own.ensures.control in
    let alike : AreGovernedAlike look own own = refl in
    record { held = c.in_ok-held.ensures.held own new alike; below = c.in_ok-held.ensures.kept own new alike; kept = is }

-- else it is governed as the directory is
pub returns-in_err-held-2 : goal.returns-in_err-held-2
returns-in_err-held-2 g c = λ at dir stands is.
    let look = g.O.Onlooker.look c.args.onlooker.now in
    let none : access_node look.tree c.args.entry.now.name ≡ None = no_some (access_node look.tree c.args.entry.now.name) (sym (c.in_ok-has_own_access.ensures stands.stands) ∙ c.if-branch.false) in
    let alike : AreGovernedAlike look dir c.args.entry.now.name = governed_alike look c.args.entry.now.name dir stands.parent none in
    below_failed look dir c.args.entry.now c.rights-2.new.self c.from_residual-in_err-held-2.result c.from_residual-in_err-held-2.ensures.0 (c.rights-2.ensures.kept dir is alike)

pub returns : goal.returns
returns g c = λ at dir stands is.
    let look = g.O.Onlooker.look c.args.onlooker.now in
    let none : access_node look.tree c.args.entry.now.name ≡ None = no_some (access_node look.tree c.args.entry.now.name) (sym (c.in_ok-has_own_access.ensures stands.stands) ∙ c.if-branch.false) in
    let alike : AreGovernedAlike look dir c.args.entry.now.name = governed_alike look c.args.entry.now.name dir stands.parent none in
    let kept : IsDecided look dir c.rights-2.new.self = c.rights-2.ensures.kept dir is alike in
    record { held = c.in_ok-held-2.ensures.held dir is alike; below = decided_below look dir c.args.entry.now.name c.rights-2.new.self alike kept; kept = kept }
