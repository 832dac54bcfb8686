-- Control files: the files that say who may do what (Upspin access control document).
use Rattle.std.specs.Prelude.{Bool, true, false, not}
use Rattle.up_names.specs.PathNames.{PathName, control_of}
use Rattle.up_names.specs.declared.paths.Control.{Control}
use Rattle.up_names.specs.declared.paths.Control.TheVariants.{Ordinary, Access, Group}
use Rattle.up_entry.specs.declared.entries.Kind.{Kind}
use Rattle.up_entry.specs.declared.entries.Kind.TheVariants.{File, Directory, Link}

-- whether a file is no control file
abbrev pub is_ordinary : Control → Bool
is_ordinary Ordinary = true
is_ordinary Access = false
is_ordinary Group = false

-- a file, and no directory or link, at an Access or a Group path
abbrev pub is_control_file : Kind → PathName → Bool
is_control_file File path = not (is_ordinary (control_of path))
is_control_file Directory path = false
is_control_file Link path = false
