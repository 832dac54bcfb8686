-- A record that keeps its bounds is read again, and its bytes are few.
use Rattle.std.proofs.Common.{◌≡◌, ◌≤◌, ◌+◌, ◌*◌, ◌&&◌, ℕ, Bool, true, false, List, [], ◌∷◌, ◌++◌, length, Ok, refl, arith}
use Rattle.std.proofs.lemmas.Bool.{leb-true}
use Rattle.std.proofs.lemmas.List.{length-append}
use Rattle.std.specs.List.{AllByRecursion, flat_map, list_all}
use Rattle.up_bytes.specs.Num.{num}
use Rattle.up_bytes.specs.Spelling.{text}
use Rattle.up_bytes.proofs.Numbers.{length-num}
use Rattle.up_entry.specs.Rules.{endpoint_fits, is_address}
use Rattle.up_entry.specs.Spelling.{HasAddress, endpoint_text}
use Rattle.up_entry.specs.declared.entries.Endpoint.{Endpoint}
use Rattle.up_entry.specs.declared.entries.Endpoint.TheVariants.{Address, Local}
use Rattle.up_keys.specs.Records.{endpoints_fit, has_bounds, keeps_bounds, largest_room}
use Rattle.up_names.specs.UserNames.{user_of}
use Rattle.up_names.proofs.Owners.{at_most_254}
use Rattle.up_wire.specs.Keys.{IsSpelledKeyRecord, endpoints, key_record, logged}
use Rattle.up_wire.specs.declared.keys.KeyRecord.{KeyRecord}

and_parts : (a b : Bool) → (a && b) ≡ true → (a ≡ true) × (b ≡ true)
and_parts true b h = (refl, h)
and_parts false b h = absurd (cc)

-- ---- endpoints

address_parts : (address : List ℕ) → is_address address ≡ true → (1 ≤ length address) × (length address ≤ 255)
unfolding is_address
address_parts address h =
    let outer = and_parts _ _ h in
    let inner = and_parts _ _ outer.0 in
    (leb-true 1 (length address) inner.0, leb-true (length address) 255 inner.1)

text_small : (bytes : List ℕ) (n : ℕ) → length bytes ≤ n → length (text bytes) ≤ 10 + n
text_small bytes n le = omega (arith, length-append (num (length bytes)) bytes, length-num (length bytes))

has_address : (endpoint : Endpoint) → endpoint_fits endpoint ≡ true → HasAddress endpoint
has_address Local h = tt
has_address (Address address) h = let parts = address_parts address h in omega (arith, parts.0)

endpoint_small : (endpoint : Endpoint) → endpoint_fits endpoint ≡ true → length (endpoint_text endpoint) ≤ 255
endpoint_small Local h = omega arith
endpoint_small (Address address) h = (address_parts address h).1

-- how an endpoint is spelled
abbrev spelled : Endpoint → List ℕ
spelled endpoint = text (endpoint_text endpoint)

each_spelled : (xs : List Endpoint) → list_all endpoint_fits xs ≡ true → AllByRecursion HasAddress xs
each_spelled [] h = tt
each_spelled (x ∷ xs) h = let parts = and_parts _ _ h in (has_address x parts.0, each_spelled xs parts.1)

all_small : (xs : List Endpoint) → list_all endpoint_fits xs ≡ true → length (flat_map spelled xs) ≤ 265 * length xs
all_small [] h = omega arith
all_small (x ∷ xs) h =
    let parts = and_parts _ _ h in
    omega (arith, length-append (spelled x) (flat_map spelled xs), text_small (endpoint_text x) 255 (endpoint_small x parts.0), all_small xs parts.1)

fit_parts : (xs : List Endpoint) → endpoints_fit xs ≡ true → (length xs ≤ 8) × (list_all endpoint_fits xs ≡ true)
unfolding endpoints_fit
fit_parts xs h = let parts = and_parts _ _ h in (leb-true (length xs) 8 parts.0, parts.1)

list_small : (xs : List Endpoint) → endpoints_fit xs ≡ true → length (endpoints xs) ≤ 2130
list_small xs h =
    let parts = fit_parts xs h in
    omega (arith, length-append (num (length xs)) (flat_map spelled xs), length-num (length xs), parts.0, all_small xs parts.1)

-- ---- the record

record Bounds (known : KeyRecord) : Type 0 where
  dirs : endpoints_fit known.dirs ≡ true
  stores : endpoints_fit known.stores ≡ true
  key : length known.key ≤ 1024

bounds : (known : KeyRecord) → has_bounds known ≡ true → Bounds known
unfolding keeps_bounds
bounds known h =
    let outer = and_parts _ _ h in
    let lists = and_parts _ _ outer.0 in
    let key = and_parts _ _ outer.1 in
    record { dirs = lists.0; stores = lists.1; key = leb-true (length known.key) 1024 key.1 }

pub is_spelled : (known : KeyRecord) → has_bounds known ≡ true → IsSpelledKeyRecord known
is_spelled known h =
    let b = bounds known h in
    (each_spelled known.dirs (fit_parts known.dirs b.dirs).1, each_spelled known.stores (fit_parts known.stores b.stores).1)

size_is : (known : KeyRecord) → length (key_record known) ≡ length (text known.user) + (length (endpoints known.dirs) + (length (endpoints known.stores) + length (text known.key)))
unfolding key_record
size_is known =
    let user = text known.user in
    let dirs = endpoints known.dirs in
    let stores = endpoints known.stores in
    let key = text known.key in
    let fields : length (user ++ dirs ++ stores ++ key) ≡ length user + (length dirs + (length stores + length key)) =
    omega (arith, length-append (user ++ dirs ++ stores) key, length-append (user ++ dirs) stores, length-append user dirs) in
    fields

pub is_small : (known : KeyRecord) → user_of known.user ≡ Ok known.user → has_bounds known ≡ true → length (logged known) ≤ largest_room
is_small known canonical h =
    let b = bounds known h in
    omega (arith, size_is known, text_small known.user 254 (at_most_254 known.user known.user canonical), list_small known.dirs b.dirs, list_small known.stores b.stores, text_small known.key 1024 b.key)
