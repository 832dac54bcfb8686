-- Texts and the records that they spell.
use Rattle.std.proofs.Common.{◌≡◌, ◌≤◌, ◌+◌, ◌-◌, ℕ, min, zero, suc, List, [], ◌∷◌, ◌++◌, length, drop, Option, Some, None, option_map, refl, sym, ap, subst, ◌∙◌, append_assoc, append-nil, length-append, arith}
use Rattle.std.specs.Option.{option_and_then}
use Rattle.up_entry.specs.declared.records.Rec.{Rec}
use Rattle.std.proofs.lemmas.List.{length-drop, length-take}
use Rattle.up_follow.specs.Feeds.{AreFirst, Follows, IsAllOf, IsBatch, batch_limit}
use Rattle.up_follow.specs.ListLogs.{batch_of}
use Rattle.up_lists.proofs.BeginsLemmas.{Begins-take}
use Rattle.up_journal.specs.Records.{records_of}
use Rattle.up_lists.specs.Begins.{Begins}
use Rattle.up_tree.specs.States.{record_in}

module _ {R : Type 0} (decode : List ℕ → Option R) where
  pub records_append : (xs ys : List (List ℕ)) (firsts others : List R) → records_of decode xs ≡ Some firsts → records_of decode ys ≡ Some others → records_of decode (xs ++ ys) ≡ Some (firsts ++ others)
  records_append [] ys firsts others one two = let none : firsts ≡ [] = cc in two ∙ ap (λ (l : List R). Some (l ++ others)) (sym none)
  records_append (x ∷ xs) ys firsts others one two = at (decode x) (records_of decode xs) refl one (λ more. records_append xs ys more others)
    where
      at : (found : Option R) (rest : Option (List R)) → records_of decode xs ≡ rest → option_and_then (λ f. option_map (λ more. f ∷ more) rest) found ≡ Some firsts
          → ((more : List R) → records_of decode xs ≡ Some more → records_of decode ys ≡ Some others → records_of decode (xs ++ ys) ≡ Some (more ++ others))
          → option_and_then (λ f. option_map (λ more. f ∷ more) (records_of decode (xs ++ ys))) found ≡ Some (firsts ++ others)
      at None rest rest_is is go = absurd (cc)
      at (Some found) None rest_is is go = absurd (cc)
      at (Some found) (Some more) rest_is is go =
          let same : found ∷ more ≡ firsts = cc in
          ap (λ (o : Option (List R)). option_map (λ more. found ∷ more) o) (go more rest_is two) ∙ ap (λ (l : List R). Some (l ++ others)) same

  -- the records of two lists of texts, one behind the other
  pub record Split (xs ys : List (List ℕ)) (all : List R) : Type 0 where
    pub firsts : List R
    pub others : List R
    pub one : records_of decode xs ≡ Some firsts
    pub two : records_of decode ys ≡ Some others
    pub whole : firsts ++ others ≡ all

  pub records_split : (xs ys : List (List ℕ)) (all : List R) → records_of decode (xs ++ ys) ≡ Some all → Split xs ys all
  records_split [] ys all is = record { firsts = []; others = all; one = refl; two = is; whole = refl }
  records_split (x ∷ xs) ys all is = at (decode x) (records_of decode (xs ++ ys)) refl refl is (λ more. records_split xs ys more)
    where
      at : (found : Option R) (rest : Option (List R)) → decode x ≡ found → records_of decode (xs ++ ys) ≡ rest → option_and_then (λ f. option_map (λ more. f ∷ more) rest) found ≡ Some all
          → ((more : List R) → records_of decode (xs ++ ys) ≡ Some more → Split xs ys more) → Split (x ∷ xs) ys all
      at None rest found_is rest_is is go = absurd (cc)
      at (Some found) None found_is rest_is is go = absurd (cc)
      at (Some found) (Some more) found_is rest_is is go =
          let same : found ∷ more ≡ all = cc in
          let cut = go more rest_is in
          record {
            firsts = found ∷ cut.firsts;
            others = cut.others;
            one = ap (λ (o : Option R). option_and_then (λ f. option_map (λ more. f ∷ more) (records_of decode xs)) o) found_is ∙ ap (λ (o : Option (List R)). option_map (λ more. found ∷ more) o) cut.one;
            two = cut.two;
            whole = ap (λ (l : List R). found ∷ l) cut.whole ∙ same;
          }

  pub records_length : (xs : List (List ℕ)) (all : List R) → records_of decode xs ≡ Some all → length all ≡ length xs
  records_length [] all is = let none : all ≡ [] = cc in ap length none
  records_length (x ∷ xs) all is = at (decode x) (records_of decode xs) refl is (λ more. records_length xs more)
    where
      at : (found : Option R) (rest : Option (List R)) → records_of decode xs ≡ rest → option_and_then (λ f. option_map (λ more. f ∷ more) rest) found ≡ Some all
          → ((more : List R) → records_of decode xs ≡ Some more → length more ≡ length xs) → length all ≡ length (x ∷ xs)
      at None rest rest_is is go = absurd (cc)
      at (Some found) None rest_is is go = absurd (cc)
      at (Some found) (Some more) rest_is is go =
          let same : found ∷ more ≡ all = cc in
          omega (arith, ap length (sym same), go more rest_is)

  -- the record that the first text spells
  pub record Headed (text : List ℕ) (texts : List (List ℕ)) (all : List R) : Type 0 where
    pub rec : R
    pub more : List R
    pub decoded : decode text ≡ Some rec
    pub whole : rec ∷ more ≡ all

  pub records_headed : (text : List ℕ) (texts : List (List ℕ)) (all : List R) → records_of decode (text ∷ texts) ≡ Some all → Headed text texts all
  records_headed text texts all is = at (decode text) (records_of decode texts) refl is
    where
      at : (found : Option R) (rest : Option (List R)) → decode text ≡ found → option_and_then (λ f. option_map (λ more. f ∷ more) rest) found ≡ Some all → Headed text texts all
      at None rest found_is is = absurd (cc)
      at (Some found) None found_is is = absurd (cc)
      at (Some found) (Some more) found_is is = let same : found ∷ more ≡ all = cc in record { rec = found; more = more; decoded = found_is; whole = same }

  pub records_one : (text : List ℕ) (rec : R) → decode text ≡ Some rec → records_of decode (text ∷ []) ≡ Some (rec ∷ [])
  records_one text rec decoded = ap (λ (o : Option R). option_and_then (λ f. option_map (λ more. f ∷ more) (Some [])) o) decoded

-- what is left of a list without its front
pub drop_front : {X : Type 0} (front rest : List X) (n : ℕ) → n ≡ length front → drop n (front ++ rest) ≡ rest
drop_front [] rest n is = ap (λ k. drop k rest) is
drop_front (x ∷ xs) rest zero is = absurd (omega (arith, is))
drop_front (x ∷ xs) rest (suc n) is = drop_front xs rest n (omega (arith, is))

-- ---- a log that follows another

pub follows_longer : (log : List Rec) (before after : List (List ℕ)) → Follows log before → Begins before after → Follows log after
follows_longer log before after first longer = record {
  front = first.front;
  rest = first.rest ++ longer.rest;
  cut = sym (append_assoc first.front first.rest longer.rest) ∙ ap (λ (l : List (List ℕ)). l ++ longer.rest) first.cut ∙ longer.whole;
  spelled = first.spelled;
}

-- what stands behind it in the other
pub rest_behind : (log : List Rec) (leader : List (List ℕ)) (first : Follows log leader) → drop (length log) leader ≡ first.rest
rest_behind log leader first =
    ap (drop (length log)) (sym first.cut) ∙ drop_front first.front first.rest (length log) (records_length record_in first.front log first.spelled)

-- with records that stand behind it there, it follows the other still
pub follows_more : (log added : List Rec) (leader batch taken left : List (List ℕ)) → Follows log leader → Begins batch (drop (length log) leader)
    → taken ++ left ≡ batch → records_of record_in taken ≡ Some added → Follows (log ++ added) leader
follows_more log added leader batch taken left first behind cut spelled = record {
  front = first.front ++ taken;
  rest = left ++ behind.rest;
  cut = append_assoc first.front taken (left ++ behind.rest)
      ∙ ap (λ (l : List (List ℕ)). first.front ++ l) (sym (append_assoc taken left behind.rest) ∙ ap (λ (l : List (List ℕ)). l ++ behind.rest) cut ∙ behind.whole ∙ rest_behind log leader first)
      ∙ first.cut;
  spelled = records_append record_in first.front taken log added first.spelled spelled;
}

-- what is left behind it then
pub more_rest : (log added : List Rec) (leader batch taken left : List (List ℕ)) (first : Follows log leader) (behind : Begins batch (drop (length log) leader))
    (cut : taken ++ left ≡ batch) (spelled : records_of record_in taken ≡ Some added) → (follows_more log added leader batch taken left first behind cut spelled).rest ≡ left ++ behind.rest
unfolding follows_more
more_rest log added leader batch taken left first behind cut spelled = refl

none_of : {X : Type 0} (xs : List X) → length xs ≡ 0 → xs ≡ []
none_of [] is = refl
none_of (x ∷ xs) is = absurd (omega (arith, is))

-- a log that follows another that is no longer is the whole of it
pub follows_whole : (log : List Rec) (leader : List (List ℕ)) → Follows log leader → length leader ≤ length log → IsAllOf log leader
follows_whole log leader first short =
    let front = records_length record_in first.front log first.spelled in
    let both = length-append first.front first.rest in
    let rest : first.rest ≡ [] = none_of first.rest (omega (arith, front, both, ap length first.cut, short)) in
    let same : leader ≡ first.front = sym first.cut ∙ ap (λ (l : List (List ℕ)). first.front ++ l) rest ∙ append-nil first.front in
    ap (records_of record_in) same ∙ first.spelled

pub whole_length : (log : List Rec) (leader : List (List ℕ)) → IsAllOf log leader → length leader ≤ length log
whole_length log leader whole = omega (arith, records_length record_in leader log whole)

-- ---- what a list in memory gives

taken_length : (from : ℕ) (log : List (List ℕ)) → length (batch_of from log) ≡ min 64 (length log - from)
taken_length from log = length-take 64 (drop from log) ∙ ap (min 64) (length-drop from log)

pub few_taken : (from : ℕ) (log : List (List ℕ)) → length (batch_of from log) ≤ batch_limit
few_taken from log = omega (arith, taken_length from log)

pub batch_taken : (from : ℕ) (log : List (List ℕ)) → IsBatch from (batch_of from log) log
batch_taken from log = record {
  behind = Begins-take 64 (drop from log);
  none = ((λ none. omega (arith, taken_length from log, ap length none)), (λ no_more. none_of (batch_of from log) (omega (arith, taken_length from log, no_more))));
}
