-- Owners that differ, and one more.
use Rattle.std.proofs.Common.{◌≡◌, Bool, true, false, ◌||◌, List, [], ◌∷◌, ◌++◌, refl, sym, bytes_eq}
use Rattle.std.specs.List.{AllByRecursion, IsDistinct, list_any}
use Rattle.std.proofs.lemmas.Bool.{false≢true}
use Rattle.up_names.specs.Texts.{UserName}
use Rattle.up_policy.specs.Trees.{owns_snapshots}

all_push : {X : Type 0} (P : X → Type 0) (xs : List X) (y : X) → AllByRecursion P xs → P y → AllByRecursion P (xs ++ y ∷ [])
all_push P [] y all one = (one, tt)
all_push P (x ∷ xs) y all one = (all.0, all_push P xs y all.1 one)

neither : (a b : Bool) → (a || b) ≡ false → (a ≡ false) × (b ≡ false)
neither true b h = absurd (false≢true (sym h))
neither false b h = (refl, h)

pub none_differ : IsDistinct {K = UserName} bytes_eq []
unfolding IsDistinct
none_differ = tt

-- an owner that none of them is
pub differs : (owners : List UserName) (owner : UserName) → IsDistinct bytes_eq owners → list_any (λ one. bytes_eq one owner) owners ≡ false → IsDistinct bytes_eq (owners ++ owner ∷ [])
unfolding IsDistinct
differs [] owner distinct none = (tt, tt)
differs (one ∷ owners) owner distinct none =
    let both = neither (bytes_eq one owner) (list_any (λ other. bytes_eq other owner) owners) none in
    (all_push (λ other. bytes_eq one other ≡ false) owners owner distinct.0 both.0, differs owners owner distinct.1 both.1)

-- an owner of no snapshot tree
pub is_plain : (owners : List UserName) (owner : UserName) → AllByRecursion (λ one. owns_snapshots one ≡ false) owners → owns_snapshots owner ≡ false → AllByRecursion (λ one. owns_snapshots one ≡ false) (owners ++ owner ∷ [])
is_plain owners owner plain one = all_push (λ other. owns_snapshots other ≡ false) owners owner plain one
