-- Seats of a host that are split and joined, and the shares that they have. This project's own.
use Rattle.std.specs.Prelude.{◌≡◌, ◌≤◌, ◌+◌, ◌*◌, ◌-◌, ◌^◌, ℕ, List, [], ◌∷◌, map}
use Rattle.up_cell.specs.Known.{Known, both_of, first_of, longer, second_of}
use Rattle.up_lists.specs.Begins.{Begins}
use Rattle.up_shared.specs.declared.shared.Seats.{Seats}
use Rattle.up_shared.specs.declared.shared.TreeSeat.{TreeSeat}

module _ {D : Type 0} where
  -- ---- split

  -- the seat at a tree that was split, and the one that was split off
  abbrev pub first_tree : TreeSeat D → TreeSeat D
  first_tree place = record place { seat = first_of place.seat }

  -- the seat that was split off from a seat at a tree
  abbrev pub second_tree : TreeSeat D → TreeSeat D
  second_tree place = record place { seat = second_of place.seat }

  -- Each seat is the first half of that before.
  pub record AreFirsts (before after : Seats D) : Type 0 where
    pub trees : after.trees.items ≡ map first_tree before.trees.items
    pub store : after.store ≡ first_of before.store
    pub store_limits : after.store_limits ≡ before.store_limits
    pub keys : after.keys ≡ first_of before.keys
    pub keys_limits : after.keys_limits ≡ before.keys_limits

  -- Each seat is the second half of that before.
  pub record AreSeconds (before other : Seats D) : Type 0 where
    pub trees : other.trees.items ≡ map second_tree before.trees.items
    pub store : other.store ≡ second_of before.store
    pub store_limits : other.store_limits ≡ before.store_limits
    pub keys : other.keys ≡ second_of before.keys
    pub keys_limits : other.keys_limits ≡ before.keys_limits

  -- ---- join

  -- two seats at a tree as one
  abbrev pub both_trees : TreeSeat D → TreeSeat D → TreeSeat D
  both_trees place other = record place { seat = both_of place.seat other.seat }

  -- the seats at the trees, each joined with that at its place in the other list
  abbrev pub joined_trees : List (TreeSeat D) → List (TreeSeat D) → List (TreeSeat D)
  joined_trees (x ∷ xs) (y ∷ ys) = both_trees x y ∷ joined_trees xs ys
  joined_trees [] ys = []
  joined_trees (x ∷ xs) [] = x ∷ xs

  -- What two seats at a tree had seen is one log: the longer of it begins with both.
  pub record SeenAlike (place other : TreeSeat D) : Type 0 where
    pub this : Begins place.seat.seen (longer place.seat.seen other.seat.seen)
    pub that : Begins other.seat.seen (longer place.seat.seen other.seat.seen)

  -- Each seat is both of its place.
  pub record AreBoth (before other after : Seats D) : Type 0 where
    pub trees : after.trees.items ≡ joined_trees before.trees.items other.trees.items
    pub store : after.store ≡ both_of before.store other.store
    pub store_limits : after.store_limits ≡ before.store_limits
    pub keys : after.keys ≡ both_of before.keys other.keys
    pub keys_limits : after.keys_limits ≡ before.keys_limits

-- ---- shares

-- the share of a seat, as so many parts of which 2 ^ n are one
abbrev pub parts : {E F : Type 0} → ℕ → Known E F → ℕ
parts n seat = seat.part * 2 ^ (n - seat.halvings)

-- the seat has the whole share of its cell
abbrev pub IsWhole : {E F : Type 0} → Known E F → Type 0
IsWhole seat = seat.part ≡ 2 ^ seat.halvings

-- Two seats have together the share of a third, counted in parts that are small enough for all three.
pub record SharesAdd {E F : Type 0} (one other whole : Known E F) : Type 0 where
  pub add : (n : ℕ) → one.halvings ≤ n → other.halvings ≤ n → whole.halvings ≤ n → parts n one + parts n other ≡ parts n whole

module _ {D : Type 0} where
  -- at each place of three lists, two seats have together the share of the third
  abbrev pub TreesAdd : List (TreeSeat D) → List (TreeSeat D) → List (TreeSeat D) → Type 0
  TreesAdd [] [] [] = Unit {0}
  TreesAdd (x ∷ xs) (y ∷ ys) (z ∷ zs) = SharesAdd x.seat y.seat z.seat × TreesAdd xs ys zs
  TreesAdd _ _ _ = ⊥

  -- Of each cell, two callers have together the share of a third.
  pub record SeatsAdd (one other whole : Seats D) : Type 0 where
    pub trees : TreesAdd one.trees.items other.trees.items whole.trees.items
    pub store : SharesAdd one.store other.store whole.store
    pub keys : SharesAdd one.keys other.keys whole.keys

  -- a caller has the whole share of each cell
  abbrev pub AreWholeTrees : List (TreeSeat D) → Type 0
  AreWholeTrees [] = Unit {0}
  AreWholeTrees (x ∷ xs) = IsWhole x.seat × AreWholeTrees xs

  -- a caller has the whole share of each cell of a host
  pub record AreWhole (seats : Seats D) : Type 0 where
    pub trees : AreWholeTrees seats.trees.items
    pub store : IsWhole seats.store
    pub keys : IsWhole seats.keys
