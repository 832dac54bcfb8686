use Rattle.std.proofs.Common.{ap, refl, sym, ◌∙◌}
use Rattle.std.specs.Option.{option_and_then, option_copied}
use Rattle.up_log_tree.specs.Changes.{path_of_change}
use Rattle.up_foreign.specs.Foreign.{needed_in}
use Rattle.up_foreign.proofs.EventLemmas.{both_added, none_added}
use Rattle.up_foreign.proofs.needed.note_record.Goals as goal

-- it changes no path
pub returns-in_default-clause-added : goal.returns-in_default-clause-added
returns-in_default-clause-added c =
    none_added c.args.tree.now.log (needed_in c.args.tree.now.owner c.args.loaded.now) c.args.n c.args.names.now c.args.names.now
    (sym (ap option_copied c.in_default.is) ∙ (c.changed_path.ensures ∙ ap (option_and_then path_of_change) c.rec_at.ensures)) refl

pub note_both-requires-clause-owned : goal.note_both-requires-clause-owned
note_both-requires-clause-owned c =
    c.requires.change.owned c.in-Some.path.now (sym (sym (ap option_copied c.in-Some.is) ∙ (c.changed_path.ensures ∙ ap (option_and_then path_of_change) c.rec_at.ensures)))

pub returns-clause-added : goal.returns-clause-added
returns-clause-added c =
    both_added c.args.tree.now.log (needed_in c.args.tree.now.owner c.args.loaded.now) c.args.n c.args.names.now c.note_both.new.names c.note_both.result c.in-Some.path.now
    (sym (ap option_copied c.in-Some.is) ∙ (c.changed_path.ensures ∙ ap (option_and_then path_of_change) c.rec_at.ensures)) c.note_both.ensures.added
