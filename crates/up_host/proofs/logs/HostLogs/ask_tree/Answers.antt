use Rattle.std.proofs.Common.{◌≡◌, ◌<◌, ◌≤◌, Some, true, length, arith, sym, ap, ◌∙◌, slice_get}
use Rattle.std.specs.Prelude.{position}
use Rattle.std.proofs.lemmas.Option.{slice_get-get_or}
use Rattle.up_host.proofs.PlaceLemmas.{base_at, bases_set, length_set, position-place}
use Rattle.up_host.proofs.TiedLemmas.{quiet_tree_now}
use Rattle.up_host.proofs.TurnedLemmas.{kept_there, nowhere, tree_kept, tree_left, tree_tied, tree_told}
use Rattle.up_calls.proofs.ShownLemmas.{tried_quiet}
use Rattle.up_calls.specs.Told.{tells_io}
use Rattle.up_host.specs.Alone.{is_of}
use Rattle.up_lists.proofs.BeginsLemmas.{length-Begins}
use Rattle.up_host.proofs.logs.HostLogs.ask_tree.Goals as goal

pub unreachable-requires : goal.unreachable-requires
unreachable-requires g c =
    let trees = c.deref.ensures.value ∙ ap (λ h. h.trees) c.self.view_is in
    nowhere g.D.Disk c.args.self.now c.args.owner.now (sym (ap (position (is_of c.args.owner.now)) trees) ∙ sym c.place_of.ensures ∙ c.in_default.is) c.requires.there

pub index_mut-held-requires : goal.index_mut-held-requires
index_mut-held-requires g c =
    let at : position (is_of c.args.owner.now) c.self.inside.trees.items ≡ Some c.in-Some.place = sym (ap (position (is_of c.args.owner.now)) c.deref.ensures.value) ∙ sym c.place_of.ensures ∙ c.in-Some.is in
    let within : c.in-Some.place < length c.self.inside.trees.items = (position-place (is_of c.args.owner.now) c.self.inside.trees.items c.in-Some.place at).1 in
    omega (arith, within, c.self.inside.trees.ok.0)

pub invariant_of-self : goal.invariant_of-self
invariant_of-self g c =
    let at : position (is_of c.args.owner.now) c.self.inside.trees.items ≡ Some c.in-Some.place = sym (ap (position (is_of c.args.owner.now)) c.deref.ensures.value) ∙ sym c.place_of.ensures ∙ c.in-Some.is in
    let there : slice_get c.self.inside.trees.items c.in-Some.place ≡ Some c.index_mut-held.result.now =
    slice_get-get_or c.self.inside.trees.items c.in-Some.place c.index_mut-held.result.now (position-place (is_of c.args.owner.now) c.self.inside.trees.items c.in-Some.place at).1 ∙ ap Some (sym c.index_mut-held.ensures.value) in
    let fits : c.index_mut-held.result.now.base ≤ length c.index_mut-held.result.now.state.log = base_at c.self.inside.trees.items c.in-Some.place c.index_mut-held.result.now c.self.invariant.trees_base there in
    let grown : length c.index_mut-held.result.now.state.log ≤ length c.try_tree.new.state.log = length-Begins c.try_tree.ensures.grows.begins in
    let long = length_set c.self.inside.trees.items c.in-Some.place (record { state = c.try_tree.new.state; base = c.index_mut-held.result.now.base }) in
    let room = c.self.invariant.room in
    record {
      trees_base = bases_set c.self.inside.trees.items c.in-Some.place (record { state = c.try_tree.new.state; base = c.index_mut-held.result.now.base }) c.self.invariant.trees_base (omega (arith, fits, grown));
      store_base = c.self.invariant.store_base;
      keys_base = c.self.invariant.keys_base;
      room = omega (arith, long, room);
    }

pub returns-clause-told : goal.returns-clause-told
returns-clause-told g c =
    let at : position (is_of c.args.owner.now) c.self.inside.trees.items ≡ Some c.in-Some.place = sym (ap (position (is_of c.args.owner.now)) c.deref.ensures.value) ∙ sym c.place_of.ensures ∙ c.in-Some.is in
    let there : slice_get c.self.inside.trees.items c.in-Some.place ≡ Some c.index_mut-held.result.now =
    slice_get-get_or c.self.inside.trees.items c.in-Some.place c.index_mut-held.result.now (position-place (is_of c.args.owner.now) c.self.inside.trees.items c.in-Some.place at).1 ∙ ap Some (sym c.index_mut-held.ensures.value) in
    let fits : c.index_mut-held.result.now.base ≤ length c.index_mut-held.result.now.state.log = base_at c.self.inside.trees.items c.in-Some.place c.index_mut-held.result.now c.self.invariant.trees_base there in
    rw (← c.self.view_is) (tree_told g.D.Disk _ c.args.owner.now c.in-Some.place c.index_mut-held.result.now c.try_tree.new.state at there c.try_tree.ensures.grows fits (record { user = c.args.user.now; request = c.args.request.now }) c.args.loaded.now c.args.fetched.now c.args.now c.try_tree.result c.try_tree.ensures.tried)

pub returns-clause-left : goal.returns-clause-left
returns-clause-left g c =
    let at : position (is_of c.args.owner.now) c.self.inside.trees.items ≡ Some c.in-Some.place = sym (ap (position (is_of c.args.owner.now)) c.deref.ensures.value) ∙ sym c.place_of.ensures ∙ c.in-Some.is in
    let there : slice_get c.self.inside.trees.items c.in-Some.place ≡ Some c.index_mut-held.result.now =
    slice_get-get_or c.self.inside.trees.items c.in-Some.place c.index_mut-held.result.now (position-place (is_of c.args.owner.now) c.self.inside.trees.items c.in-Some.place at).1 ∙ ap Some (sym c.index_mut-held.ensures.value) in
    let fits : c.index_mut-held.result.now.base ≤ length c.index_mut-held.result.now.state.log = base_at c.self.inside.trees.items c.in-Some.place c.index_mut-held.result.now c.self.invariant.trees_base there in
    tree_left g.D.Disk _ c.args.owner.now c.in-Some.place c.index_mut-held.result.now c.try_tree.new.state at there c.try_tree.ensures.grows fits (record { user = c.args.user.now; request = c.args.request.now }) c.args.loaded.now c.args.fetched.now c.args.now c.try_tree.result c.try_tree.ensures.tried c.args.self.now c.self.view_is

pub returns-clause-tie : goal.returns-clause-tie
returns-clause-tie g c =
    let at : position (is_of c.args.owner.now) c.self.inside.trees.items ≡ Some c.in-Some.place = sym (ap (position (is_of c.args.owner.now)) c.deref.ensures.value) ∙ sym c.place_of.ensures ∙ c.in-Some.is in
    let there : slice_get c.self.inside.trees.items c.in-Some.place ≡ Some c.index_mut-held.result.now =
    slice_get-get_or c.self.inside.trees.items c.in-Some.place c.index_mut-held.result.now (position-place (is_of c.args.owner.now) c.self.inside.trees.items c.in-Some.place at).1 ∙ ap Some (sym c.index_mut-held.ensures.value) in
    let fits : c.index_mut-held.result.now.base ≤ length c.index_mut-held.result.now.state.log = base_at c.self.inside.trees.items c.in-Some.place c.index_mut-held.result.now c.self.invariant.trees_base there in
    rw (← c.self.view_is) (tree_tied g.D.Disk _ c.args.owner.now c.in-Some.place c.index_mut-held.result.now c.try_tree.new.state at there c.try_tree.ensures.grows fits (record { user = c.args.user.now; request = c.args.request.now }) c.args.loaded.now c.args.fetched.now c.args.now c.try_tree.result c.try_tree.ensures.tried)

pub try_tree-requires-clause-kept : goal.try_tree-requires-clause-kept
try_tree-requires-clause-kept g c =
    let at : position (is_of c.args.owner.now) c.self.inside.trees.items ≡ Some c.in-Some.place = sym (ap (position (is_of c.args.owner.now)) c.deref.ensures.value) ∙ sym c.place_of.ensures ∙ c.in-Some.is in
    let there : slice_get c.self.inside.trees.items c.in-Some.place ≡ Some c.index_mut-held.result.now =
    slice_get-get_or c.self.inside.trees.items c.in-Some.place c.index_mut-held.result.now (position-place (is_of c.args.owner.now) c.self.inside.trees.items c.in-Some.place at).1 ∙ ap Some (sym c.index_mut-held.ensures.value) in
    kept_there g.D.Disk _ c.args.owner.now c.in-Some.place c.index_mut-held.result.now at there c.args.self.now c.self.view_is c.args.loaded.now c.args.kept.now c.requires.kept

pub returns-clause-kept : goal.returns-clause-kept
returns-clause-kept g c =
    let at : position (is_of c.args.owner.now) c.self.inside.trees.items ≡ Some c.in-Some.place = sym (ap (position (is_of c.args.owner.now)) c.deref.ensures.value) ∙ sym c.place_of.ensures ∙ c.in-Some.is in
    let there : slice_get c.self.inside.trees.items c.in-Some.place ≡ Some c.index_mut-held.result.now =
    slice_get-get_or c.self.inside.trees.items c.in-Some.place c.index_mut-held.result.now (position-place (is_of c.args.owner.now) c.self.inside.trees.items c.in-Some.place at).1 ∙ ap Some (sym c.index_mut-held.ensures.value) in
    let fits : c.index_mut-held.result.now.base ≤ length c.index_mut-held.result.now.state.log = base_at c.self.inside.trees.items c.in-Some.place c.index_mut-held.result.now c.self.invariant.trees_base there in
    tree_kept g.D.Disk _ c.args.owner.now c.in-Some.place c.index_mut-held.result.now c.try_tree.new.state at there c.try_tree.ensures.grows fits (record { user = c.args.user.now; request = c.args.request.now }) c.args.loaded.now c.args.fetched.now c.args.now c.try_tree.result c.try_tree.ensures.tried c.args.self.now c.self.view_is c.try_tree.new.kept c.try_tree.ensures.kept

pub returns-clause-quiet : goal.returns-clause-quiet
returns-clause-quiet g c =
    let at : position (is_of c.args.owner.now) c.self.inside.trees.items ≡ Some c.in-Some.place = sym (ap (position (is_of c.args.owner.now)) c.deref.ensures.value) ∙ sym c.place_of.ensures ∙ c.in-Some.is in
    let there : slice_get c.self.inside.trees.items c.in-Some.place ≡ Some c.index_mut-held.result.now =
    slice_get-get_or c.self.inside.trees.items c.in-Some.place c.index_mut-held.result.now (position-place (is_of c.args.owner.now) c.self.inside.trees.items c.in-Some.place at).1 ∙ ap Some (sym c.index_mut-held.ensures.value) in
    let fits : c.index_mut-held.result.now.base ≤ length c.index_mut-held.result.now.state.log = base_at c.self.inside.trees.items c.in-Some.place c.index_mut-held.result.now c.self.invariant.trees_base there in
    quiet_tree_now g.D.Disk _ c.args.owner.now c.in-Some.place c.index_mut-held.result.now c.try_tree.new.state at there c.try_tree.ensures.grows fits c.args.self.now c.self.view_is (tells_io c.try_tree.result ≡ true)
    (tried_quiet g.D.Disk (record { user = c.args.user.now; request = c.args.request.now }) c.args.loaded.now c.args.fetched.now c.args.now c.index_mut-held.result.now.state c.try_tree.new.state c.try_tree.result c.try_tree.ensures.tried)
