-- What is asked of a tree over its log.
use Rattle.up_names.specs.PathNames.{PathName}
use Rattle.up_names.specs.Texts.{UserName}
use Rattle.up_entry.specs.declared.entries.Entry.{Entry}
use Rattle.up_policy.specs.Loadings.{Loading}
use Rattle.up_tree.specs.States.{State, log_of}
use Rattle.up_list.specs.Looks.{Look, look_now}

-- the path at which an entry stands
abbrev pub name_of : Entry → PathName
name_of entry = entry.name

-- a user before the tree as it is now, with what was loaded
abbrev pub look_at : {D : Type 0} → State D → Loading → UserName → Look
look_at state loaded user = look_now (log_of state) loaded user
