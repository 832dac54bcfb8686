-- The blocks whose fetch failed.
use Rattle.std.proofs.Common.{◌≡◌, Bool, true, false, ◌&&◌, ◌||◌, List, [], ◌∷◌, ◌++◌, map, fold, refl, sym, ap, subst, ◌∙◌, bytes_eq}
use Rattle.std.specs.Prelude.{if◌then◌else◌}
use Rattle.std.specs.List.{list_any}
use Rattle.std.specs.Map.{lookup}
use Rattle.std.proofs.lemmas.Bool.{false≢true}
use Rattle.std.proofs.lemmas.List.Folds.{list_any-append}
use Rattle.std.proofs.lemmas.Slice.Eq.{bytes_eq-Decides}
use Rattle.up_entry.specs.declared.entries.Block.{Block}
use Rattle.up_entry.specs.declared.entries.Endpoint.{Endpoint}
use Rattle.up_entry.specs.declared.entries.Endpoint.TheVariants.{Local, Address}
use Rattle.up_entry.specs.declared.entries.Location.{Location}
use Rattle.up_answers.specs.Fetching.{Fetched, endpoint_eq, fetch_for, is_failed, location_eq}
use Rattle.up_answers.specs.Routes.{locations_of, with_location}
use Rattle.up_laws.specs.Turns.{any_failed}

endpoint_same : (a b : Endpoint) → endpoint_eq a b ≡ true → a ≡ b
endpoint_same Local Local h = refl
endpoint_same Local (Address b) h = absurd (false≢true h)
endpoint_same (Address a) Local h = absurd (false≢true h)
endpoint_same (Address a) (Address b) h = ap Address ((bytes_eq-Decides a b).0 h)

both : (a b : Bool) → (a && b) ≡ true → (a ≡ true) × (b ≡ true)
both true b h = (refl, h)
both false b h = absurd (false≢true h)

location_same : (a b : Location) → location_eq a b ≡ true → a ≡ b
location_same a b h =
    let parts = both (bytes_eq a.reference b.reference) (endpoint_eq a.endpoint b.endpoint) h in
    let reference = (bytes_eq-Decides a.reference b.reference).0 parts.0 in
    let endpoint = endpoint_same a.endpoint b.endpoint parts.1 in
    λ i. record { reference = reference i; endpoint = endpoint i }

module _ (fetched : Fetched) where
  abbrev failed : Location → Bool
  failed location = is_failed (lookup (location_eq location) fetched)

  -- a location that stands there fails as one of them
  among : (locations : List Location) (location : Location) → list_any (location_eq location) locations ≡ true → is_failed (lookup (location_eq location) fetched) ≡ true → any_failed fetched locations ≡ true
  among [] location there h = absurd (false≢true there)
  among (other ∷ locations) location there h = go (location_eq location other) refl there (λ behind. among locations location behind h)
    where
      go : (b : Bool) → location_eq location other ≡ b → (b || list_any (location_eq location) locations) ≡ true → (list_any (location_eq location) locations ≡ true → any_failed fetched locations ≡ true) → any_failed fetched (other ∷ locations) ≡ true
      go true e k later = ap (λ c. c || any_failed fetched locations) (subst (λ (l : Location). is_failed (lookup (location_eq l) fetched) ≡ true) (location_same location other e) h)
      go false e k later = ap (λ c. is_failed (lookup (location_eq other) fetched) || c) (later k) ∙ or_true (is_failed (lookup (location_eq other) fetched))
        where
          or_true : (b : Bool) → (b || true) ≡ true
          or_true true = refl
          or_true false = refl

  with_one : (locations : List Location) (location : Location) → any_failed fetched (with_location locations location) ≡ (any_failed fetched locations || is_failed (lookup (location_eq location) fetched))
  with_one locations location = go (list_any (location_eq location) locations) refl
    where
      or_false : (b : Bool) → (b || false) ≡ b
      or_false true = refl
      or_false false = refl

      there : (a b : Bool) → (b ≡ true → a ≡ true) → a ≡ (a || b)
      there true b h = refl
      there false true h = h refl
      there false false h = refl

      go : (b : Bool) → list_any (location_eq location) locations ≡ b → any_failed fetched (if b then locations else locations ++ location ∷ []) ≡ (any_failed fetched locations || is_failed (lookup (location_eq location) fetched))
      go true e = there (any_failed fetched locations) (is_failed (lookup (location_eq location) fetched)) (among locations location e)
      go false e =
          list_any-append (λ l. is_failed (lookup (location_eq l) fetched)) locations (location ∷ [])
          ∙ ap (λ b. any_failed fetched locations || b) (or_false (is_failed (lookup (location_eq location) fetched)))

  folded : (front locations : List Location) → any_failed fetched (fold with_location front locations) ≡ (any_failed fetched front || any_failed fetched locations)
  folded front [] = sym (or_false (any_failed fetched front))
    where
      or_false : (b : Bool) → (b || false) ≡ b
      or_false true = refl
      or_false false = refl
  folded front (location ∷ locations) =
      folded (with_location front location) locations
      ∙ (ap (λ b. b || any_failed fetched locations) (with_one front location)
      ∙ or_assoc (any_failed fetched front) (is_failed (lookup (location_eq location) fetched)) (any_failed fetched locations))
    where
      or_assoc : (a b c : Bool) → ((a || b) || c) ≡ (a || (b || c))
      or_assoc true b c = refl
      or_assoc false b c = refl

  -- of the different locations of blocks one fails exactly where a block does
  pub failed_same : (blocks : List Block) → any_failed fetched (locations_of blocks) ≡ list_any (λ block. is_failed (fetch_for fetched block)) blocks
  failed_same blocks = folded [] (map (λ (block : Block). block.location) blocks) ∙ mapped blocks
    where
      mapped : (blocks : List Block) → any_failed fetched (map (λ (block : Block). block.location) blocks) ≡ list_any (λ block. is_failed (fetch_for fetched block)) blocks
      mapped [] = refl
      mapped (block ∷ blocks) = ap (λ b. is_failed (fetch_for fetched block) || b) (mapped blocks)
