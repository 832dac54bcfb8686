use Rattle.std.proofs.Common.{◌∙◌, ap, sym, subst, inl, inr}
use Rattle.std.specs.Option.{option_copied}
use Rattle.std.proofs.lemmas.Bool.{false≢true}
use Rattle.up_names.specs.PathNames.{is_under}
use Rattle.up_mem_tree.specs.Kept.{paths_of, slots_of}
use Rattle.up_mem_tree.specs.Namings.{IsFrom}
use Rattle.up_mem_tree.specs.Slots.{known_all, path_in}
use Rattle.up_mem_tree.proofs.Meeting.{dir_is, first_under, under_both}
use Rattle.up_mem_tree.proofs.namings.first_under.Goals as goal

-- neither is above the other
pub returns-then-not-is_under : goal.returns-then-not-is_under
returns-then-not-is_under c = λ dir n changed file less is in_path in_dir.
    let kept = c.args.kept.now in
    let same = dir_is (paths_of kept) (slots_of kept) c.args.file.now dir c.in-Some-path_in.dir.now c.in-Some.id c.ids_of.result.1 c.in-Some.is c.ids_of.ensures.parent file (sym (ap option_copied c.in-Some-path_in.is) ∙ (c.path_in.ensures ∙ ap (λ slots. path_in (known_all slots) c.in-Some.id) c.as_slice.ensures.value)) in
    elim (under_both changed c.args.path.now c.in-Some-path_in.dir.now in_path (ap (is_under changed) same ∙ in_dir)) [
      | inl there ↦ false≢true (sym c.if-not-is_under.true ∙ (c.is_under-2.ensures ∙ there))
      | inr there ↦ false≢true (sym c.if-is_under.false ∙ (c.is_under.ensures ∙ there))
    ]

pub returns : goal.returns
returns c = λ dir n changed file less is in_path in_dir.
    let kept = c.args.kept.now in
    let same = dir_is (paths_of kept) (slots_of kept) c.args.file.now dir c.in-Some-path_in.dir.now c.in-Some.id c.ids_of.result.1 c.in-Some.is c.ids_of.ensures.parent file (sym (ap option_copied c.in-Some-path_in.is) ∙ (c.path_in.ensures ∙ ap (λ slots. path_in (known_all slots) c.in-Some.id) c.as_slice.ensures.value)) in
    subst (λ o. IsFrom o n) (sym c.first_below.ensures) (first_under kept.log.items c.in-Some-path_in.dir.now c.args.above n changed less is (ap (is_under changed) same ∙ in_dir))
