use Rattle.std.proofs.Common.{◌≡◌, true, ap, ◌∙◌}
use Rattle.indexmap.specs.IndexMap.{insert_entry}
use Rattle.up_names.specs.PathNames.{canonical}
use Rattle.up_names.specs.PathOrder.{path_eq}
use Rattle.up_names.specs.PathParts.{path_in}
use Rattle.up_names.proofs.PathLaws.{path_in-canonical}
use Rattle.up_policy.specs.Marks.{may_have}
use Rattle.up_policy.specs.Directories.{all_pass, are_canonical, by_path, passes}
use Rattle.up_policy.proofs.DirectoryLemmas.{all_pass_still, set_by_text, set_canonical, set_passes}
use Rattle.up_policy.proofs.directories.Directories.set.Goals as goal

pub invariant_of-self : goal.invariant_of-self
invariant_of-self c = record {
  canonical = c.self.invariant.canonical;
  pass = all_pass_still c.self.inside.marks c.note.new.self c.note.ensures.kept c.self.inside.texts.entries c.self.invariant.pass;
}

pub invariant_of-self-in_err-insert : goal.invariant_of-self-in_err-insert
invariant_of-self-in_err-insert c =
    let texts = c.self.inside.texts.entries in
    let marks = c.note.new.self in
    let still : all_pass marks texts ≡ true = all_pass_still c.self.inside.marks marks c.note.ensures.kept texts c.self.invariant.pass in
    record {
      canonical = ap are_canonical c.in_err-insert.ensures.err ∙ c.self.invariant.canonical;
      pass = ap (all_pass marks) c.in_err-insert.ensures.err ∙ still;
    }

pub invariant_of-self-2 : goal.invariant_of-self-2
invariant_of-self-2 c =
    let texts = c.self.inside.texts.entries in
    let marks = c.note.new.self in
    let key = c.into_text.result in
    let still : all_pass marks texts ≡ true = all_pass_still c.self.inside.marks marks c.note.ensures.kept texts c.self.invariant.pass in
    let own : passes marks (key, c.args.text) ≡ true =
    ap (may_have marks) (ap path_in c.into_text.ensures.text ∙ path_in-canonical c.args.dir c.into_text.ensures.again) ∙ c.in_ok-note.ensures.noted in
    record {
      canonical = ap are_canonical c.in_ok-insert.ensures.entries ∙ set_canonical texts c.self.invariant.canonical c.args.dir c.into_text.ensures.again key c.into_text.ensures.text c.args.text;
      pass = ap (all_pass marks) c.in_ok-insert.ensures.entries ∙ set_passes marks texts still key c.args.text own;
    }

pub returns : goal.returns
returns c =
    ap by_path c.in_ok-insert.ensures.entries
    ∙ set_by_text c.self.inside.texts.entries c.self.invariant.canonical c.args.dir c.into_text.ensures.again c.into_text.result c.into_text.ensures.text c.args.text
    ∙ ap (λ texts. insert_entry path_eq texts c.args.dir c.args.text) c.self.view_is
