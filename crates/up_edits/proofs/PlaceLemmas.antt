-- Locations in order: those that tie are one, and what is noted at one stands at that one alone.
use Rattle.std.proofs.Common.{◌≡◌, Bool, true, false, cond, ◌&&◌, ◌||◌, List, [], ◌∷◌, ◌++◌, refl, ap, sym, ◌∙◌, subst, Option, Some, None}
use Rattle.std.specs.Prelude.{if◌then◌else◌, is_some}
use Rattle.std.specs.List.{list_any}
use Rattle.std.specs.Map.{lookup}
use Rattle.std.specs.Option.{option_copied}
use Rattle.std.specs.Str.{bytes_eq}
use Rattle.std.specs.BTreeMap.{is_at}
use Rattle.std.specs.declared.cmp.Ordering.{Ordering}
use Rattle.std.specs.declared.cmp.Ordering.TheVariants.{Less, Equal, Greater}
use Rattle.std.specs.Ordering.{nat_cmp, ordering_then, is_eq}
use Rattle.std.specs.Cmp.Lexicographic.{slice_cmp}
use Rattle.std.proofs.lemmas.Bool.{and_parts, false≢true}
use Rattle.std.proofs.lemmas.Cmp.{eq_by_cmp_equiv}
use Rattle.std.proofs.lemmas.Map.Text.{is_eq-slice_cmp}
use Rattle.std.proofs.lemmas.Slice.Eq.{bytes_eq-Decides}
use denote.Ref.{Bor}
use Rattle.up_entry.specs.declared.entries.Endpoint.{Endpoint}
use Rattle.up_entry.specs.declared.entries.Endpoint.TheVariants.{Local, Address}
use Rattle.up_entry.specs.declared.fetch.Fetch.{Fetch}
use Rattle.up_entry.specs.declared.entries.Location.{Location}
use Rattle.up_answers.specs.Fetching.{Fetched, endpoint_eq, location_eq}
use Rattle.up_edits.specs.Places.{AreFirst, AreKnown, NotesOne, location_cmp, noted, or_else, rank}
use Rattle.up_edits.specs.PlaceLaws.{location_total}

-- ---- those that tie are one

then_ties : (o r : Ordering) → is_eq (ordering_then o r) ≡ is_eq o && is_eq r
then_ties Less r = refl
then_ties Equal r = refl
then_ties Greater r = refl

ranks_tie : (a b : Endpoint) → is_eq (slice_cmp nat_cmp (rank a) (rank b)) ≡ endpoint_eq a b
ranks_tie Local Local = refl
ranks_tie Local (Address b) = refl
ranks_tie (Address a) Local = refl
ranks_tie (Address a) (Address b) = is_eq-slice_cmp a b

-- locations tie where they are the same
pub ties : (a b : Location) → is_eq (location_cmp a b) ≡ location_eq a b
ties a b =
    then_ties (slice_cmp nat_cmp a.reference b.reference) (slice_cmp nat_cmp (rank a.endpoint) (rank b.endpoint))
    ∙ (ap (λ x. x && is_eq (slice_cmp nat_cmp (rank a.endpoint) (rank b.endpoint))) (is_eq-slice_cmp a.reference b.reference)
    ∙ ap (λ x. bytes_eq a.reference b.reference && x) (ranks_tie a.endpoint b.endpoint))

pub ties_back : (a b : Location) → is_eq (location_cmp a b) ≡ location_eq b a
ties_back a b = (eq_by_cmp_equiv location_total).symm a b ∙ ties b a

same_endpoint : (a b : Endpoint) → endpoint_eq a b ≡ true → a ≡ b
same_endpoint Local Local h = refl
same_endpoint Local (Address b) h = absurd (false≢true h)
same_endpoint (Address a) Local h = absurd (false≢true h)
same_endpoint (Address a) (Address b) h = ap Address ((bytes_eq-Decides a b).0 h)

pub same_location : (a b : Location) → location_eq a b ≡ true → a ≡ b
same_location a b h =
    let both = and_parts (bytes_eq a.reference b.reference) (endpoint_eq a.endpoint b.endpoint) h in
    ap (λ r. record { endpoint = a.endpoint; reference = r }) ((bytes_eq-Decides a.reference b.reference).0 both.0)
    ∙ ap (λ e. record { endpoint = e; reference = b.reference }) (same_endpoint a.endpoint b.endpoint both.1)

-- ---- the first answer of each location

or_none : (found : Option Fetch) → or_else found None ≡ found
or_none None = refl
or_none (Some x) = refl

or_twice : (one two three : Option Fetch) → or_else (or_else one two) three ≡ or_else one (or_else two three)
or_twice None two three = refl
or_twice (Some x) two three = refl

copied_none : (found : Option (Bor Fetch)) → is_some found ≡ false → option_copied found ≡ None
copied_none None h = refl
copied_none (Some x) h = absurd (false≢true (sym h))

copied_some : (found : Option (Bor Fetch)) (other : Option Fetch) → is_some found ≡ true → or_else (option_copied found) other ≡ option_copied found
copied_some None other h = absurd (false≢true h)
copied_some (Some x) other h = refl

-- where none stood, one is put
pub answer_put : (old new : List (Location × Bor Fetch)) (location : Location) (fetch : Bor Fetch) → is_some (lookup (is_at (location_cmp location)) old) ≡ false
    → ((q : Location) → lookup (is_at (location_cmp q)) new ≡ cond (is_at (location_cmp location) q) (Some fetch) (lookup (is_at (location_cmp q)) old))
    → NotesOne old new location fetch.now
answer_put old new location fetch absent h = record { same = λ q. ap option_copied (h q) ∙ go q (location_eq q location) refl (is_eq (location_cmp location q)) (ties_back location q) }
  where
    go : (q : Location) (b : Bool) → location_eq q location ≡ b → (t : Bool) → t ≡ location_eq q location
        → option_copied (cond t (Some fetch) (lookup (is_at (location_cmp q)) old)) ≡ or_else (noted old q) (if location_eq q location then Some fetch.now else None)
    go q true e true s =
        sym (ap (λ b. or_else (noted old q) (if b then Some fetch.now else None)) e
        ∙ ap (λ o. or_else o (Some fetch.now)) (ap (noted old) (same_location q location e) ∙ copied_none (lookup (is_at (location_cmp location)) old) absent))
    go q true e false s = absurd (false≢true (s ∙ e))
    go q false e true s = absurd (false≢true (sym (s ∙ e)))
    go q false e false s = sym (ap (λ b. or_else (noted old q) (if b then Some fetch.now else None)) e ∙ or_none (noted old q))

-- the answer that is noted in the end is the first
pub first_found : (answers : List (Location × Bor Fetch)) (all : Fetched) (location : Location) → AreFirst answers [] all → noted answers location ≡ lookup (location_eq location) all
first_found answers all location are = sym (or_none (noted answers location)) ∙ are.same location

-- ---- a set of locations

any_end : (test : Location → Bool) (front : List Location) (x : Location) → list_any test (front ++ x ∷ []) ≡ cond (test x) true (list_any test front)
any_end test [] x = go (test x)
  where
    go : (b : Bool) → b || false ≡ cond b true false
    go true = refl
    go false = refl
any_end test (y ∷ front) x = ap (λ b. test y || b) (any_end test front x) ∙ go (test y) (test x) (list_any test front)
  where
    go : (a b c : Bool) → a || cond b true c ≡ cond b true (a || c)
    go true true c = refl
    go true false c = refl
    go false true c = refl
    go false false c = refl

-- a new one is put into both
pub known_more : (old new : List Location) (locations : List Location) (location : Location) → AreKnown old locations
    → ((q : Location) → list_any (is_at (location_cmp q)) new ≡ cond (is_at (location_cmp location) q) true (list_any (is_at (location_cmp q)) old))
    → AreKnown new (locations ++ location ∷ [])
known_more old new locations location are h = record {
  same = λ q.
      h q ∙ (ap (λ b. cond b true (list_any (is_at (location_cmp q)) old)) (ties_back location q)
      ∙ (ap (λ b. cond (location_eq q location) true b) (are.same q) ∙ sym (any_end (location_eq q) locations location)));
}
