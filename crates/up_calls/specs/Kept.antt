-- What a call keeps of its search for the groups that have to be loaded, from one turn of a tree to the next. This project's own.
use Rattle.std.specs.Prelude.{◌≡◌, Option, Some}
use Rattle.up_calls.specs.Views.{SeenTree}
use Rattle.up_calls.specs.declared.logs.Turn.{Turn}
use Rattle.up_calls.specs.declared.logs.Turn.TheVariants as turn
use Rattle.up_foreign.specs.Kept.{Keeps}
use Rattle.up_foreign.specs.declared.kept.KeptSearch.{KeptSearch}
use Rattle.up_policy.specs.Loadings.{Loading}

-- what is kept is of the tree, after all records of it that the caller has seen, or the first of them
pub record KeepsSeen (view : Option SeenTree) (loaded : Loading) (kept : KeptSearch) : Type 0 where
  pub seen : (v : SeenTree) → view ≡ Some v → Keeps v.fixed.0 v.seen loaded kept

-- what holds where a turn told what is missing
abbrev pub where_missing : Turn → Type 0 → Type 0
where_missing (turn.Missing names) holds = holds
where_missing (turn.Said answer position) holds = Unit {0}
where_missing turn.Wanting holds = Unit {0}
