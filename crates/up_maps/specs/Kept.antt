-- How a list is kept that may be long or short. This project's own.
use Rattle.std.specs.Prelude.{◌≡◌, ◌≤◌, ◌<◌, Bool, true, List, vec_len, vec_capacity}
use Rattle.up_maps.specs.declared.long_list.Shape.{Shape}
use Rattle.up_maps.specs.declared.long_list.Shape.TheVariants.{Short, Long}

-- the items of a long list, whichever shape it has
abbrev pub items_of : {T : Type 0} → Shape T → List T
items_of (Short items) = items.items
items_of (Long long) = long.value.items

-- a short list has at most 512 items; where the next insert takes no memory, there is room for one more
abbrev pub IsKept : {T : Type 0} → Shape T → Bool → Type 0
IsKept (Short items) ready = (vec_len items ≤ 512) × (ready ≡ true → (vec_len items < 512) × (vec_len items < vec_capacity items))
IsKept (Long long) ready = ready ≡ true → long.value.ready ≡ true
