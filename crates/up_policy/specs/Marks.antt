-- Which directories may have an Access text, told by keyed hashes of their elements (this project's own).
use Rattle.std.specs.Prelude.{◌≡◌, ℕ, Bool, true, ◌&&◌, nat_eq, nat_le, List, length, fold}
use Rattle.std.specs.Hash as fed
use Rattle.std.specs.Hash.DefaultHasher.{write, finish}
use Rattle.std.specs.List.{list_any}
use Rattle.std.specs.RandomState.{initial_hasher}
use Rattle.std.specs.declared.hash.RandomState.{RandomState}
use Rattle.std.specs.declared.hash.DefaultHasher.{DefaultHasher}
use Rattle.up_names.specs.Texts.{Text}
use Rattle.up_names.specs.PathNames.{PathName}
use Rattle.up_policy.specs.declared.marks.Marks.{Marks}

-- a hasher after one more element
abbrev pub after_element : DefaultHasher → Text → DefaultHasher
after_element hasher element = fold write hasher (fed.str element)

-- a hasher with these keys after elements, one after the other
abbrev pub hasher_after : RandomState → List Text → DefaultHasher
hasher_after keys elements = fold after_element (initial_hasher keys) elements

-- the keyed hash of elements
abbrev pub hash_of : RandomState → List Text → ℕ
hash_of keys elements = finish (hasher_after keys elements)

-- a directory passes where its hash was noted and one with as many elements was
abbrev pub may_have : Marks → PathName → Bool
may_have marks dir = list_any (nat_eq (hash_of marks.keys dir.elements)) marks.hashes.keys && nat_le (length dir.elements) marks.depth

-- what passed passes still
abbrev pub PassStill : Marks → Marks → Type 0
PassStill old new = (dir : PathName) → may_have old dir ≡ true → may_have new dir ≡ true
