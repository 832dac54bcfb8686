use Rattle.std.proofs.Common.{refl, sym, ◌∙◌, arith}
use Rattle.std.specs.List.{flat_map}
use Rattle.std.proofs.lemmas.Option.{slice_get_within}
use Rattle.up_foreign.specs.Foreign.{needed_in, places_at}
use Rattle.up_foreign.proofs.EventLemmas.{position_next}
use Rattle.up_foreign.proofs.LeftLemmas.{all_noted, may_cover_any, may_cover_more, own_there, passed_over, rising_changes}
use Rattle.up_foreign.proofs.TimesLemmas.{both_begun}
use Rattle.up_foreign.proofs.needed.note_positions.Goals as goal

-- none yet
pub loop-count-init : goal.loop-count-init
loop-count-init c = record {
  within = omega arith;
  noted = both_begun c.args.tree.now c.args.loaded.now c.args.noted c.new-times.result c.args.names.now c.requires.noted c.new-times.ensures.current c.new-times.ensures.past;
  names = refl;
  covers = may_cover_any c.args.tree.now c.args.loaded.now c.args.range.path.now c.args.range.above c.in_ok-left.left c.args.names.now c.in_ok-left.ensures;
}

pub next-next-requires-clause-rising : goal.next-next-requires-clause-rising
next-next-requires-clause-rising c = rising_changes c.args.tree.now.log c.args.range.path.now c.args.range.above c.args.positions.now c.requires.are

pub note_record-requires-clause-change : goal.note_record-requires-clause-change
note_record-requires-clause-change c =
    own_there c.args.tree.now c.args.range.path.now c.args.range.above c.args.positions.now c.next-next.result c.in-Some.position c.requires.owned c.requires.are (sym c.position_at.ensures ∙ c.in-Some.is)

-- one position more
pub loop-count-preserved : goal.loop-count-preserved
loop-count-preserved c =
    let over = passed_over c.args.tree.now c.args.loaded.now c.args.range.path.now c.args.range.above c.args.positions.now c.requires.are c.args.names.now c.loop-count.names c.loop-count.next c.next-next.result c.next-next.ensures.later
    (c.next-next.ensures.found c.args.tree.now c.args.loaded.now c.args.range.path.now c.args.range.above (c.in_ok-look_ahead.ensures c.loop-count.names c.loop-count.invariant.covers)) c.loop-count.invariant.names in
    record {
      within = let w = slice_get_within c.args.positions.now c.next-next.result c.in-Some.position (sym c.position_at.ensures ∙ c.in-Some.is) in omega (arith, w);
      noted = c.in_ok-note_record.ensures.noted;
      names = position_next (needed_in c.args.tree.now.owner c.args.loaded.now) c.args.tree.now.log c.args.positions.now c.next-next.result c.in-Some.position c.args.names.now c.loop-count.names c.note_record.new.names (sym c.position_at.ensures ∙ c.in-Some.is)
          over c.in_ok-note_record.ensures.added;
      covers = may_cover_more c.args.tree.now c.args.loaded.now c.args.range.path.now c.args.range.above c.next-next.new.self c.loop-count.names
          (flat_map (needed_in c.args.tree.now.owner c.args.loaded.now) (places_at c.args.tree.now.log c.in-Some.position)) c.note_record.new.names c.in_ok-note_record.ensures.added
          (c.next-next.ensures.kept c.args.tree.now c.args.loaded.now c.args.range.path.now c.args.range.above (c.in_ok-look_ahead.ensures c.loop-count.names c.loop-count.invariant.covers));
    }

-- all of them
pub returns-in_default : goal.returns-in_default
returns-in_default c =
    all_noted c.args.tree.now c.args.loaded.now c.args.positions.now c.args.names.now c.loop-count.names c.next-next.result (sym (sym c.position_at.ensures ∙ c.in_default.is))
    (passed_over c.args.tree.now c.args.loaded.now c.args.range.path.now c.args.range.above c.args.positions.now c.requires.are c.args.names.now c.loop-count.names c.loop-count.next c.next-next.result c.next-next.ensures.later
    (c.next-next.ensures.found c.args.tree.now c.args.loaded.now c.args.range.path.now c.args.range.above (c.in_ok-look_ahead.ensures c.loop-count.names c.loop-count.invariant.covers)) c.loop-count.invariant.names)
