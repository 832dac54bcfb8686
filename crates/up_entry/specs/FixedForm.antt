-- The form that each entry of a tree has, whoever wrote it and when: the rules of Put that look at the entry alone, which
-- are all but those of its writer and its sequence.
use Rattle.std.specs.Prelude.{◌≡◌, Bool, true, false, not, ◌&&◌, IsTrue, Option, Some, None}
use Rattle.up_names.specs.PathNames.{PathName, control_of}
use Rattle.up_names.specs.PathOrder.{path_eq}
use Rattle.up_entry.specs.declared.entries.Entry.{Entry}
use Rattle.up_entry.specs.declared.entries.Kind.{Kind}
use Rattle.up_entry.specs.declared.entries.Kind.TheVariants.{File, Directory, Link}
use Rattle.up_entry.specs.Rules.{blocks_fit, control_fits, control_size_fits, packdata_fits, packing_fits, root_fits}
use Rattle.up_entry.specs.Spelling.{HasItsLink}

-- the rules, one by one
pub record HasFixedForm (e : Entry) : Type 0 where
  -- it was signed for the name under which it stands
  pub signed_name : e.signed_name ≡ e.name
  pub packing : IsTrue (packing_fits (Some e.attr) e.name e.packing)
  -- it has no incomplete mark
  pub whole : e.attr.incomplete ≡ false
  pub link : HasItsLink e.attr.kind e.link
  pub blocks : IsTrue (blocks_fit e.attr.kind e.blocks)
  pub packdata : IsTrue (packdata_fits e.attr.kind e.packdata)
  pub root : IsTrue (root_fits e.attr.kind e.name)
  pub control : IsTrue (control_fits e.attr.kind (control_of e.name))
  pub control_size : IsTrue (control_size_fits e.attr.kind e.name e.blocks)

-- a link has a target, an entry of another kind has none
abbrev pub link_fits : Kind → Option PathName → Bool
link_fits File None = true
link_fits File (Some target) = false
link_fits Directory None = true
link_fits Directory (Some target) = false
link_fits Link None = false
link_fits Link (Some target) = true

-- whether an entry keeps these rules, as a test
unfoldable pub has_fixed_form : Entry → Bool
has_fixed_form e =
    path_eq e.signed_name e.name
    && packing_fits (Some e.attr) e.name e.packing
    && not e.attr.incomplete
    && link_fits e.attr.kind e.link
    && blocks_fit e.attr.kind e.blocks
    && packdata_fits e.attr.kind e.packdata
    && root_fits e.attr.kind e.name
    && control_fits e.attr.kind (control_of e.name)
    && control_size_fits e.attr.kind e.name e.blocks
