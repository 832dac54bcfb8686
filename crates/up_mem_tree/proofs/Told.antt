-- How the changes of a control file tell its texts.
use Rattle.std.proofs.Common.{◌≡◌, ◌≤◌, ◌<◌, ◌+◌, ℕ, zero, suc, Bool, true, cond, List, [], ◌∷◌, ◌++◌, take, length, Option, None, refl, sym, ap, subst, ◌∙◌, inl, inr, arith, leb, ltb, fold, get_or, ◌&&◌}
use Rattle.std.specs.List.{list_all}
use Rattle.std.proofs.lemmas.Bool.{cases_lt, le-leb, lt-ltb, lt-leb, leb-true, ltb-true, and_parts, and_from}
use Rattle.std.proofs.lemmas.Grind.{fold-append, take_at_read}
use Rattle.up_mem_tree.specs.declared.history.Change.{Change}
use Rattle.up_mem_tree.specs.Histories.{Tells, are_rising, found, seen}

module _ {X : Type 0} where
  -- one change more
  pub found_more : (n : ℕ) (changes : List (Change X)) (change : Change X) → found n (changes ++ change ∷ []) ≡ seen n (found n changes) change
  unfolding found
  found_more n changes change = fold-append (seen n) None changes (change ∷ [])

  abbrev are_later : ℕ → List (Change X) → Bool
  are_later n changes = list_all (λ (change : Change X). ltb n change.position) changes

  -- later changes are passed over
  all_later : (n : ℕ) (was : Option X) (changes : List (Change X)) → are_later n changes ≡ true → fold (seen n) was changes ≡ was
  all_later n was [] late = refl
  all_later n was (change ∷ changes) late =
      let both = and_parts (ltb n change.position) (are_later n changes) late in
      ap (λ b. fold (seen n) (cond b change.text was) changes) (lt-leb change.position n (ltb-true n change.position both.0)) ∙ all_later n was changes both.1

  even_later : (n m : ℕ) (changes : List (Change X)) → n < m → are_later m changes ≡ true → are_later n changes ≡ true
  even_later n m [] lt late = refl
  even_later n m (change ∷ changes) lt late =
      let both = and_parts (ltb m change.position) (are_later m changes) late in
      and_from (ltb n change.position) (are_later n changes) (lt-ltb n change.position (omega (arith, lt, ltb-true m change.position both.0))) (even_later n m changes lt both.1)

  rest_of : (last : ℕ) (change : Change X) (changes : List (Change X)) → are_rising last (change ∷ changes) ≡ true → are_rising last changes ≡ true
  rest_of last change changes rising =
      (and_parts (leb change.position last && are_later change.position changes) (are_rising last changes) rising).1

  after_of : (last : ℕ) (change : Change X) (changes : List (Change X)) → are_rising last (change ∷ changes) ≡ true → are_later change.position changes ≡ true
  after_of last change changes rising =
      (and_parts (leb change.position last) (are_later change.position changes) (and_parts (leb change.position last && are_later change.position changes) (are_rising last changes) rising).0).1

  front_alone : (n last i : ℕ) (was : Option X) (changes : List (Change X)) → are_rising last changes ≡ true → ((d : Change X) → i < length changes → n < (get_or changes i d).position) → fold (seen n) was changes ≡ fold (seen n) was (take i changes)
  front_alone n last zero was [] rising later = refl
  front_alone n last (suc i) was [] rising later = refl
  front_alone n last zero was (change ∷ changes) rising later =
      let lt : n < change.position = later change (omega arith) in
      all_later n was (change ∷ changes) (and_from (ltb n change.position) (are_later n changes) (lt-ltb n change.position lt) (even_later n change.position changes lt (after_of last change changes rising)))
  front_alone n last (suc i) was (change ∷ changes) rising later =
      front_alone n last i (seen n was change) changes (rest_of last change changes rising) (λ d lt. later d (omega (arith, lt)))

  -- the changes from a later one on tell nothing
  pub found_front : (n last i : ℕ) (changes : List (Change X)) → are_rising last changes ≡ true → ((d : Change X) → i < length changes → n < (get_or changes i d).position) → found n changes ≡ found n (take i changes)
  unfolding found
  found_front n last i changes rising later = front_alone n last i None changes rising later

  -- the last one before them tells the text
  pub told_by : (n i j : ℕ) (changes : List (Change X)) (change : Change X) → i < length changes → change ≡ get_or changes i change → j ≡ i + 1 → change.position ≤ n → found n (take j changes) ≡ change.text
  told_by n i j changes change lt is next early =
      ap (λ k. found n (take k changes)) next
      ∙ ap (found n) ((take_at_read changes i change lt).1 ∙ ap (λ x. take i changes ++ x ∷ []) (sym is))
      ∙ found_more n (take i changes) change
      ∙ ap (λ b. cond b change.text (found n (take i changes))) (le-leb change.position n early)

  pub none_left : (n i : ℕ) (changes : List (Change X)) → i ≡ 0 → found n (take i changes) ≡ None
  unfolding found
  none_left n i changes is = ap (λ k. fold (seen n) None (take k changes)) is

  -- ---- one record more

  weaker_rising : (m n : ℕ) (changes : List (Change X)) → m ≤ n → are_rising m changes ≡ true → are_rising n changes ≡ true
  weaker_rising m n [] le rising = refl
  weaker_rising m n (change ∷ changes) le rising =
      let both = and_parts (leb change.position m && are_later change.position changes) (are_rising m changes) rising in
      let first = and_parts (leb change.position m) (are_later change.position changes) both.0 in
      and_from (leb change.position n && are_later change.position changes) (are_rising n changes)
      (and_from (leb change.position n) (are_later change.position changes) (le-leb change.position n (omega (arith, le, leb-true change.position m first.0))) first.1) (weaker_rising m n changes le both.1)

  later_push : (n : ℕ) (changes : List (Change X)) (change : Change X) → are_later n changes ≡ true → n < change.position → are_later n (changes ++ change ∷ []) ≡ true
  later_push n [] change late lt = and_from (ltb n change.position) true (lt-ltb n change.position lt) refl
  later_push n (first ∷ changes) change late lt =
      let both = and_parts (ltb n first.position) (are_later n changes) late in
      and_from (ltb n first.position) (are_later n (changes ++ change ∷ [])) both.0 (later_push n changes change both.1 lt)

  rising_push : (last : ℕ) (changes : List (Change X)) (change : Change X) → are_rising last changes ≡ true → change.position ≡ last + 1 → are_rising (last + 1) (changes ++ change ∷ []) ≡ true
  rising_push last [] change rising is = and_from (leb change.position (last + 1) && true) true (and_from (leb change.position (last + 1)) true (le-leb change.position (last + 1) (omega (arith, is))) refl) refl
  rising_push last (first ∷ changes) change rising is =
      let both = and_parts (leb first.position last && are_later first.position changes) (are_rising last changes) rising in
      let parts = and_parts (leb first.position last) (are_later first.position changes) both.0 in
      let le = leb-true first.position last parts.0 in
      and_from (leb first.position (last + 1) && are_later first.position (changes ++ change ∷ [])) (are_rising (last + 1) (changes ++ change ∷ []))
      (and_from (leb first.position (last + 1)) (are_later first.position (changes ++ change ∷ [])) (le-leb first.position (last + 1) (omega (arith, le))) (later_push first.position changes change parts.1 (omega (arith, le, is))))
      (rising_push last changes change both.1 is)

  -- after the last change nothing is new
  all_early : (m n : ℕ) (was : Option X) (changes : List (Change X)) → m ≤ n → are_rising m changes ≡ true → fold (seen n) was changes ≡ fold (seen m) was changes
  all_early m n was [] le rising = refl
  all_early m n was (change ∷ changes) le rising =
      let both = and_parts (leb change.position m && are_later change.position changes) (are_rising m changes) rising in
      let early = leb-true change.position m (and_parts (leb change.position m) (are_later change.position changes) both.0).0 in
      ap (λ b. fold (seen n) (cond b change.text was) changes) (le-leb change.position n (omega (arith, early, le)))
      ∙ all_early m n change.text changes le both.1
      ∙ sym (ap (λ b. fold (seen m) (cond b change.text was) changes) (le-leb change.position m early))

  found_later : (m n : ℕ) (changes : List (Change X)) → m ≤ n → are_rising m changes ≡ true → found n changes ≡ found m changes
  unfolding found
  found_later m n changes le rising = all_early m n None changes le rising

  -- a record that leaves the text
  pub tells_same : (changes : List (Change X)) (last : ℕ) (old new : ℕ → Option X) → Tells changes last old → ((n : ℕ) → n ≤ last → new n ≡ old n) → new (last + 1) ≡ old last → Tells changes (last + 1) new
  tells_same changes last old new tells same kept = record {
    rising = weaker_rising last (last + 1) changes (omega arith) tells.rising;
    texts = λ n le. elim (cases_lt n (last + 1)) [
      | inl lt ↦ tells.texts n (omega (arith, lt)) ∙ sym (same n (omega (arith, lt)))
      | inr ge ↦
          let is : last + 1 ≡ n = omega (arith, le, ge) in
          subst (λ k. found k changes ≡ new k) is (found_later last (last + 1) changes (omega arith) tells.rising ∙ tells.texts last (omega arith) ∙ sym kept)
    ];
  }

  -- a record that changes it
  pub tells_more : (changes : List (Change X)) (last : ℕ) (old new : ℕ → Option X) (text : Option X) → Tells changes last old → ((n : ℕ) → n ≤ last → new n ≡ old n) → new (last + 1) ≡ text
      → Tells (changes ++ record { position = last + 1; text = text } ∷ []) (last + 1) new
  tells_more changes last old new text tells same now =
      let change : Change X = record { position = last + 1; text = text } in
      record {
        rising = rising_push last changes change tells.rising refl;
        texts = λ n le. found_more n changes change ∙ elim (cases_lt n (last + 1)) [
          | inl lt ↦ ap (λ b. cond b text (found n changes)) (lt-leb (last + 1) n lt) ∙ tells.texts n (omega (arith, lt)) ∙ sym (same n (omega (arith, lt)))
          | inr ge ↦
              let is : last + 1 ≡ n = omega (arith, le, ge) in
              ap (λ b. cond b text (found n changes)) (le-leb (last + 1) n ge) ∙ sym now ∙ ap new is
        ];
      }

  -- none yet
  pub tells_none : (last : ℕ) (text : ℕ → Option X) → ((n : ℕ) → n ≤ last → text n ≡ None) → Tells [] last text
  unfolding found
  tells_none last text none = record { rising = refl; texts = λ n le. sym (none n le) }
