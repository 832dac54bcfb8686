-- Sets of the five rights of the Upspin access control document.
use Rattle.std.specs.Prelude.{Bool, true, false, ◌||◌}
use Rattle.up_rights.specs.declared.Right.{Right}
use Rattle.up_rights.specs.declared.Right.TheVariants.{Read, Write, List, Create, Delete}

-- a set of rights: of each of the five, whether it is in the set
pub record Rights : Type 0 where
  pub read : Bool
  pub write : Bool
  pub list : Bool
  pub create : Bool
  pub delete : Bool

-- whether a right is in the set
abbrev pub has_right : Rights → Right → Bool
has_right set Read = set.read
has_right set Write = set.write
has_right set List = set.list
has_right set Create = set.create
has_right set Delete = set.delete

-- the set with no right
abbrev pub no_rights : Rights
no_rights = record { read = false; write = false; list = false; create = false; delete = false }

-- the set of all five
abbrev pub all_rights : Rights
all_rights = record { read = true; write = true; list = true; create = true; delete = true }

-- the set with one right more
abbrev pub with_right : Rights → Right → Rights
with_right set Read = record set { read = true }
with_right set Write = record set { write = true }
with_right set List = record set { list = true }
with_right set Create = record set { create = true }
with_right set Delete = record set { delete = true }

-- the rights of either set
abbrev pub both_rights : Rights → Rights → Rights
both_rights set other =
    record {
      read = set.read || other.read;
      write = set.write || other.write;
      list = set.list || other.list;
      create = set.create || other.create;
      delete = set.delete || other.delete;
    }

-- whether any of the five is in the set
abbrev pub has_any : Rights → Bool
has_any set = set.read || set.write || set.list || set.create || set.delete
