-- How references are noted.
use Rattle.std.proofs.Common.{◌≡◌, ◌∙◌, ℕ, zero, suc, ◌+◌, ◌-◌, ◌<◌, ◌≤◌, Bool, true, false, cond, not, ◌||◌, List, [], ◌∷◌, ◌++◌, length, map, take, Option, Some, None, is_some, refl, sym, ap, subst, arith}
use Rattle.std.proofs.Math.ListN.{get_or}
use Rattle.std.proofs.lemmas.Bool.{le-ltb, lt-ltb}
use Rattle.std.proofs.lemmas.Cmp.{nat_list_cmp_total}
use Rattle.std.proofs.lemmas.List.{take_all}
use Rattle.std.proofs.lemmas.List.Folds.{list_any-append}
use Rattle.std.proofs.lemmas.Map.Text.{is_eq-slice_cmp}
use Rattle.std.specs.FinMap.Entries.{find, find-put, put}
use Rattle.std.specs.List.{filter, flat_map}
use Rattle.std.specs.Ordering.{eq_by_cmp}
use Rattle.std.specs.Prelude.{if◌then◌else◌, option_to_list, slice_get}
use Rattle.std.specs.Str.{bytes_eq}
use Rattle.up_audit.proofs.ListLemmas.{filter_same}
use Rattle.up_audit.proofs.MarkLemmas.{all_told}
use Rattle.up_audit.specs.Audits.{Ref, audit_of, held_in, is_among, loose_in, used_in}
use Rattle.up_audit.specs.Marks.{Notes, gone_at, gone_by, has_noted, is_loose, last_snap, put_references, snap_after, standing_at, stands_at, told_at, told_by}
use Rattle.up_blocks.specs.Records.{reference_cmp}
use Rattle.up_blocks.specs.declared.record.BlockRecord.{BlockRecord}
use Rattle.up_entry.specs.declared.entries.Block.{Block}
use Rattle.up_entry.specs.declared.records.Rec.{Rec}
use Rattle.up_log_tree.specs.Changes.{change_before, record_at}

or_none : (b : Bool) → b ≡ (b || false)
or_none true = refl
or_none false = refl

or_three : (a b c : Bool) → ((a || b) || c) ≡ (a || (b || c))
or_three true b c = refl
or_three false b c = refl

-- nothing more
pub notes_none : (noted : List (Ref × Bool)) → Notes noted noted []
notes_none noted = record { each = λ r. or_none (has_noted noted r) }

-- one after the other
pub notes_both : {old mid new : List (Ref × Bool)} {some more : List Ref} → Notes old mid some → Notes mid new more → Notes old new (some ++ more)
notes_both {old = old} {some = some} {more = more} one two = record {
  each = λ r. two.each r ∙ ap (λ b. b || is_among more r) (one.each r) ∙ or_three (has_noted old r) (is_among some r) (is_among more r)
      ∙ ap (λ b. has_noted old r || b) (sym (list_any-append (bytes_eq r) some more));
}

pub notes_same : {old new : List (Ref × Bool)} {some more : List Ref} → Notes old new some → ((r : Ref) → is_among some r ≡ is_among more r) → Notes old new more
notes_same {old = old} one same = record { each = λ r. one.each r ∙ ap (λ b. has_noted old r || b) (same r) }

-- one reference
pub notes_put : (old : List (Ref × Bool)) (reference : Ref) → Notes old (put reference_cmp reference true old) (reference ∷ [])
notes_put old reference = record {
  each = λ r. ap is_some (find-put reference_cmp nat_list_cmp_total r reference true old)
      ∙ go (eq_by_cmp reference_cmp r reference) (find reference_cmp r old)
      ∙ ap (λ b. has_noted old r || (b || false)) (is_eq-slice_cmp r reference);
}
  where
    go : (b : Bool) (found : Option Bool) → is_some (cond b (Some true) found) ≡ (is_some found || (b || false))
    go true (Some x) = refl
    go true None = refl
    go false (Some x) = refl
    go false None = refl

pub put_notes : (old new : List (Ref × Bool)) (reference : Ref) → new ≡ put reference_cmp reference true old → Notes old new (reference ∷ [])
put_notes old new reference is = subst (λ n. Notes old n (reference ∷ [])) (sym is) (notes_put old reference)

-- ---- loops

-- an element more of a list
take_suc : {X : Type 0} (xs : List X) (i : ℕ) (x : X) → i < length xs → x ≡ get_or xs i x → take (suc i) xs ≡ take i xs ++ x ∷ []
take_suc [] i x within is = absurd (omega (arith, within))
take_suc (y ∷ xs) zero x within is = ap (λ z. z ∷ []) (sym is)
take_suc (y ∷ xs) (suc i) x within is = ap (λ zs. y ∷ zs) (take_suc xs i x (omega (arith, within)) is)

take_more : {X : Type 0} (xs : List X) (i : ℕ) (x : X) → i < length xs → x ≡ get_or xs i x → take (i + 1) xs ≡ take i xs ++ x ∷ []
take_more xs i x within is = ap (λ n. take n xs) (let e : i + 1 ≡ suc i = omega arith in e) ∙ take_suc xs i x within is

abbrev pub block_references : List Block → List Ref
block_references blocks = map (λ (block : Block). block.location.reference) blocks

map_push : {X Y : Type 0} (f : X → Y) (xs : List X) (x : X) → map f (xs ++ x ∷ []) ≡ map f xs ++ f x ∷ []
map_push f [] x = refl
map_push f (y ∷ xs) x = ap (λ zs. f y ∷ zs) (map_push f xs x)

-- one more of the blocks
pub blocks_next : {old mid new : List (Ref × Bool)} (blocks : List Block) (i : ℕ) (block : Block) → i < length blocks → block ≡ get_or blocks i block → Notes old mid (block_references (take i blocks)) → Notes mid new (block.location.reference ∷ [])
    → Notes old new (block_references (take (i + 1) blocks))
blocks_next {old = old} {new = new} blocks i block within is before one =
    subst (Notes old new) (sym (ap block_references (take_more blocks i block within is) ∙ map_push (λ (b : Block). b.location.reference) (take i blocks) block)) (notes_both before one)

pub blocks_all : {old new : List (Ref × Bool)} (blocks : List Block) (i : ℕ) → length blocks ≤ i → Notes old new (block_references (take i blocks)) → Notes old new (block_references blocks)
blocks_all {old = old} {new = new} blocks i past notes = subst (λ bs. Notes old new (block_references bs)) (take_all i blocks past) notes

flat_push : {X : Type 0} (f : X → List Ref) (xs : List X) (x : X) → flat_map f (xs ++ x ∷ []) ≡ flat_map f xs ++ f x
flat_push f [] x = go (f x)
  where
    go : (ys : List Ref) → ys ++ [] ≡ ys
    go [] = refl
    go (y ∷ ys) = ap (λ zs. y ∷ zs) (go ys)
flat_push f (y ∷ xs) x = ap (λ zs. f y ++ zs) (flat_push f xs x) ∙ sym (assoc (f y) (flat_map f xs) (f x))
  where
    assoc : (xs ys zs : List Ref) → (xs ++ ys) ++ zs ≡ xs ++ (ys ++ zs)
    assoc [] ys zs = refl
    assoc (x ∷ xs) ys zs = ap (λ l. x ∷ l) (assoc xs ys zs)

-- one more of the logs
module _ {S : Type 0} (log : S → List Rec) where
  pub logs_next : {old mid new : List (Ref × Bool)} (trees : List S) (i : ℕ) (state : S) → i < length trees → state ≡ get_or trees i state → Notes old mid (flat_map used_in (map log (take i trees))) → Notes mid new (used_in (log state))
      → Notes old new (flat_map used_in (map log (take (i + 1) trees)))
  logs_next {old = old} {new = new} trees i state within is before one =
      subst (Notes old new) (sym (ap (λ ts. flat_map used_in (map log ts)) (take_more trees i state within is) ∙ ap (flat_map used_in) (map_push log (take i trees) state) ∙ flat_push used_in (map log (take i trees)) (log state))) (notes_both before one)

  pub logs_all : {old new : List (Ref × Bool)} (trees : List S) (i : ℕ) → length trees ≤ i → Notes old new (flat_map used_in (map log (take i trees))) → Notes old new (flat_map used_in (map log trees))
  logs_all {old = old} {new = new} trees i past notes = subst (λ ts. Notes old new (flat_map used_in (map log ts))) (take_all i trees past) notes

-- the last snapshot, one record more
pub snap_next : (records : List Rec) (i snap next : ℕ) (found : Option Rec) → snap ≡ last_snap records i → found ≡ record_at records (i + 1) → next ≡ snap_after found (i + 1) snap → next ≡ last_snap records (i + 1)
snap_next records i snap next found before is after =
    let e : i + 1 ≡ suc i = omega arith in
    after ∙ ap (λ f. snap_after f (i + 1) snap) is ∙ ap (λ n. snap_after (record_at records n) n snap) e ∙ ap (λ s. snap_after (slice_get records i) (suc i) s) before ∙ ap (last_snap records) (sym e)

-- what one record tells
pub told_both : {old mid new : List (Ref × Bool)} (records : List Rec) (n snap : ℕ) → snap ≡ last_snap records (n - 1) → Notes old mid (gone_at records snap n) → Notes mid new (standing_at records n) → Notes old new (told_at records n)
unfolding told_at
told_both {old = old} {mid = mid} records n snap is gone standing = notes_both (subst (λ s. Notes old mid (gone_at records s n)) is gone) standing

pub gone_none : (noted : List (Ref × Bool)) (records : List Rec) (snap n : ℕ) (found : Option ℕ) → found ≡ change_before records n → found ≡ None → Notes noted noted (gone_at records snap n)
gone_none noted records snap n found is none = subst (λ f. Notes noted noted (gone_by records snap f)) (sym none ∙ is) (notes_none noted)

pub gone_unseen : (noted : List (Ref × Bool)) (records : List Rec) (snap n before : ℕ) (found : Option ℕ) → found ≡ change_before records n → found ≡ Some before → snap ≤ before → Notes noted noted (gone_at records snap n)
gone_unseen noted records snap n before found is some late =
    subst (λ f. Notes noted noted (gone_by records snap f)) (sym some ∙ is) (subst (λ b. Notes noted noted (if b then put_references (record_at records before) else [])) (sym (le-ltb before snap late)) (notes_none noted))

pub gone_seen : (old new : List (Ref × Bool)) (records : List Rec) (snap n before : ℕ) (found : Option ℕ) (rec : Option Rec) → found ≡ change_before records n → found ≡ Some before → before < snap → rec ≡ record_at records before → Notes old new (put_references rec)
    → Notes old new (gone_at records snap n)
gone_seen old new records snap n before found rec is some early rec_is notes =
    subst (λ f. Notes old new (gone_by records snap f)) (sym some ∙ is)
    (subst (λ b. Notes old new (if b then put_references (record_at records before) else [])) (sym (lt-ltb before snap early)) (subst (λ r. Notes old new (put_references r)) rec_is notes))

pub ruleset gones = (gone_none, gone_unseen, gone_seen)

pub stands_not : (noted : List (Ref × Bool)) (records : List Rec) (n : ℕ) (stands : Bool) → stands ≡ stands_at records n → stands ≡ false → Notes noted noted (standing_at records n)
stands_not noted records n stands is gone = subst (λ b. Notes noted noted (if b then put_references (record_at records n) else [])) (sym gone ∙ is) (notes_none noted)

pub stands_so : (old new : List (Ref × Bool)) (records : List Rec) (n : ℕ) (stands : Bool) (rec : Option Rec) → stands ≡ stands_at records n → stands ≡ true → rec ≡ record_at records n → Notes old new (put_references rec) → Notes old new (standing_at records n)
stands_so old new records n stands rec is there rec_is notes =
    subst (λ b. Notes old new (if b then put_references (record_at records n) else [])) (sym there ∙ is) (subst (λ r. Notes old new (put_references r)) rec_is notes)

pub ruleset standings = (stands_not, stands_so)

-- one more of the records
pub told_next : {old mid new : List (Ref × Bool)} (records : List Rec) (i : ℕ) → Notes old mid (told_by records i) → Notes mid new (told_at records (i + 1)) → Notes old new (told_by records (i + 1))
told_next {old = old} {mid = mid} {new = new} records i before one =
    let e : suc i ≡ i + 1 = omega arith in
    subst (λ n. Notes old new (told_by records n)) e (notes_both before (subst (λ n. Notes mid new (told_at records n)) (sym e) one))

-- all of them
pub told_all : {old new : List (Ref × Bool)} (records : List Rec) (i : ℕ) → i ≡ length records → Notes old new (told_by records i) → Notes old new (used_in records)
told_all {old = old} {new = new} records i is told = notes_same (subst (λ n. Notes old new (told_by records n)) is told) (all_told records)

-- ---- what is loose

filter_push : (p : Ref → Bool) (xs ys : List Ref) → filter p (xs ++ ys) ≡ filter p xs ++ filter p ys
filter_push p [] ys = refl
filter_push p (x ∷ xs) ys = go (p x) (filter_push p xs ys)
  where
    go : (b : Bool) → filter p (xs ++ ys) ≡ filter p xs ++ filter p ys → cond b (x ∷ filter p (xs ++ ys)) (filter p (xs ++ ys)) ≡ cond b (x ∷ filter p xs) (filter p xs) ++ filter p ys
    go true so_far = ap (λ zs. x ∷ zs) so_far
    go false so_far = so_far

-- one more of the held blocks
pub loose_next : (p : Ref → Bool) (held : List Ref) (i : ℕ) → filter p (take i held) ++ filter p (option_to_list (slice_get held i)) ≡ filter p (take (i + 1) held)
loose_next p held i = sym (filter_push p (take i held) (option_to_list (slice_get held i))) ∙ ap (filter p) (more held i)
  where
    by_suc : (xs : List Ref) (n : ℕ) → take n xs ++ option_to_list (slice_get xs n) ≡ take (suc n) xs
    by_suc [] zero = refl
    by_suc [] (suc n) = refl
    by_suc (x ∷ xs) zero = refl
    by_suc (x ∷ xs) (suc n) = ap (λ zs. x ∷ zs) (by_suc xs n)

    more : (xs : List Ref) (n : ℕ) → take n xs ++ option_to_list (slice_get xs n) ≡ take (n + 1) xs
    more xs n = by_suc xs n ∙ ap (λ m. take m xs) (let e : suc n ≡ n + 1 = omega arith in e)

pub loose_step : (p : Ref → Bool) (held : List Ref) (i : ℕ) (old new : List Ref) (found : Option Ref) → old ≡ filter p (take i held) → found ≡ slice_get held i → new ≡ old ++ filter p (option_to_list found) → new ≡ filter p (take (i + 1) held)
loose_step p held i old new found before is after =
    after ∙ ap (λ xs. xs ++ filter p (option_to_list found)) before ∙ ap (λ f. filter p (take i held) ++ filter p (option_to_list f)) is ∙ loose_next p held i

pub loose_end : (p : Ref → Bool) (held : List Ref) (i : ℕ) (all : List Ref) → length held ≤ i → all ≡ filter p (take i held) → all ≡ filter p held
loose_end p held i all past is = is ∙ ap (filter p) (take_all i held past)

-- those that were not noted, where nothing was noted but what is used
pub loose_all : (noted : List (Ref × Bool)) (logs : List (List Rec)) (store : List BlockRecord) (loose : List Ref) → Notes [] noted (flat_map used_in logs) → loose ≡ filter (is_loose noted) (held_in store) → loose ≡ loose_in logs store
unfolding loose_in
loose_all noted logs store loose notes is = is ∙ filter_same (is_loose noted) (λ r. not (is_among (flat_map used_in logs) r)) (held_in store) (λ r. ap not (notes.each r))

pub audit_is : (noted first : List (Ref × Bool)) (logs : List (List Rec)) (store : List BlockRecord) (held : ℕ) (loose : List Ref) → first ≡ [] → Notes first noted (flat_map used_in logs) → loose ≡ filter (is_loose noted) (held_in store) → held ≡ length (held_in store)
    → record { held = held; loose = loose } ≡ audit_of logs store
unfolding audit_of
audit_is noted first logs store held loose none notes is many =
    ap (λ n. record { held = n; loose = loose }) many ∙ ap (λ l. record { held = length (held_in store); loose = l }) (loose_all noted logs store loose (subst (λ f. Notes f noted (flat_map used_in logs)) none notes) is)
