-- The names in Access and Group texts (Upspin access control document). `all` in any case, and in a Group text, is this
-- project's own.
use Rattle.std.specs.Prelude.{Bool, false, ◌&&◌, ◌||◌, not, nat_eq, if◌then◌else◌, ◌++◌, drop, codes, Option, Some, None, Result, Ok, Err}
use Rattle.std.specs.List.{list_any, before_first, starts_with}
use Rattle.std.specs.Str.{bytes_eq, str_to_ascii_lowercase}
use Rattle.up_names.specs.Texts.{Text, UserName}
use Rattle.up_names.specs.declared.fault.NameFault.{NameFault}
use Rattle.up_names.specs.declared.items.Item.{Item}
use Rattle.up_names.specs.declared.items.Item.TheVariants.{Everyone, Domain, User, Group}
use Rattle.up_names.specs.UserNames.{user_of, domain_of, is_at}
use Rattle.up_names.specs.PathNames.{PathName, path_of, is_in_group, is_slash}

-- whether a text names this user
abbrev pub names_user : Result UserName NameFault → Text → Bool
names_user (Ok user) text = bytes_eq user text
names_user (Err fault) text = false

-- everyone: `all` in any case, or any spelling of the user `all@upspin.io`
unfoldable pub is_everyone : Text → Bool
is_everyone name = bytes_eq (str_to_ascii_lowercase name) (codes "all") || names_user (user_of name) (codes "all@upspin.io")

-- the item of a domain, where a text names one
abbrev pub domain_item : Option Text → Option Item
domain_item (Some domain) = Some (Domain domain)
domain_item None = None

-- the item of a user, where a text names one
abbrev pub user_item : Result UserName NameFault → Option Item
user_item (Ok user) = Some (User user)
user_item (Err fault) = None

-- a group: a path with at least two elements, the first of which is `Group`
abbrev pub group_item : Result PathName NameFault → Option Item
group_item (Ok path) = if is_in_group path then Some (Group path) else None
group_item (Err fault) = None

-- whether a text has a `/`
abbrev pub has_slash : Text → Bool
has_slash name = list_any is_slash name

-- `*@` and what stands after it, without a slash
abbrev pub is_domain_name : Text → Bool
is_domain_name name = starts_with nat_eq name (codes "*@") && not (has_slash name)

-- an `@` before the first slash
abbrev pub has_owner : Text → Bool
has_owner name = list_any is_at (before_first is_slash name)

-- The item that a name stands for in a text of this owner, read in this order, or none where the name is bad: everyone;
-- `*@` and a domain; with an `@` before the first slash a user, or after a slash a group; else the short name of a group
-- of the owner.
unfoldable pub item_of : UserName → Text → Option Item
item_of owner name =
    if is_everyone name then Some Everyone
    else if is_domain_name name then domain_item (domain_of (drop 2 name))
    else if not (has_owner name) then group_item (path_of (owner ++ codes "/Group/" ++ name))
    else if has_slash name then group_item (path_of name)
    else user_item (user_of name)
