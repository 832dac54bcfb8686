-- The bytes of an item's text are those of the name that it was read from, of user names, and `*` and `/`: so the text
-- is one word, wherever the name was one.
use Rattle.std.proofs.Common.{◌≡◌, ◌∙◌, ℕ, ◌+◌, Bool, true, false, not, ◌||◌, cond, List, [], ◌∷◌, ◌++◌, take, drop, filter, refl, ap, sym, Option, Some, None, Result, Ok, Err, codes, IfSome}
use Rattle.std.proofs.lemmas.Bool.{and_parts, and_from, cond_both}
use Rattle.std.proofs.lemmas.List.{take-append-drop}
use Rattle.std.proofs.lemmas.List.Folds.{list_all-append}
use Rattle.std.specs.List.{list_any, list_all, before_first, after_first, slice_split, onto_first, position_or_len}
use Rattle.std.specs.Str.{str_to_ascii_lowercase}
use Rattle.up_names.specs.declared.fault.NameFault.{NameFault}
use Rattle.up_names.specs.declared.items.Item.{Item}
use Rattle.up_names.specs.declared.items.Item.TheVariants.{Group}
use Rattle.up_names.specs.UserNames.{user_of, domain_of, is_domain, is_label_byte, is_period}
use Rattle.up_names.specs.PathNames.{PathName, path_of, pieces_of, cleaned, canonical, is_in_group, is_slash, is_skipped, is_up}
use Rattle.up_names.specs.ItemNames.{item_of, is_everyone, is_domain_name, has_owner, has_slash, domain_item, user_item, group_item}
use Rattle.up_names.proofs.Cleaning.{staying-all}
use Rattle.up_names.proofs.CutLemmas.{list_all-weaker}
use Rattle.up_names.proofs.ItemLaws.{item_text}
use Rattle.up_names.proofs.Joined.{joined_text}
use Rattle.up_names.proofs.Owners.{peel}
use Rattle.up_names.proofs.PathLaws.{read_from}
use Rattle.up_names.proofs.UserLemmas.{user_of-again, user-bytes, is_user_byte, domain-bytes, label-user}

list_all-drop : (q : ℕ → Bool) (n : ℕ) (xs : List ℕ) → list_all q xs ≡ true → list_all q (drop n xs) ≡ true
list_all-drop q n xs all =
    (and_parts (list_all q (take n xs)) (list_all q (drop n xs)) (sym (list_all-append q (take n xs) (drop n xs)) ∙ ap (list_all q) (take-append-drop n xs) ∙ all)).1

list_all-split : (q p : ℕ → Bool) (xs : List ℕ) → list_all q xs ≡ true → list_all (list_all q) (slice_split p xs) ≡ true
list_all-split q p [] all = refl
list_all-split q p (x ∷ xs) all =
    let parts = and_parts (q x) (list_all q xs) all in
    at (p x) (slice_split p xs) parts.0 (list_all-split q p xs parts.1)
  where
    at : (b : Bool) (rest : List (List ℕ)) → q x ≡ true → list_all (list_all q) rest ≡ true → list_all (list_all q) (cond b ([] ∷ rest) (onto_first x rest)) ≡ true
    at true rest first each = each
    at false [] first each = and_from _ _ (and_from _ _ first refl) refl
    at false (part ∷ rest) first each = let h = and_parts (list_all q part) _ each in and_from _ _ (and_from _ _ first h.0) h.1

list_all-kept : (test keep : List ℕ → Bool) (pieces : List (List ℕ)) → list_all test pieces ≡ true → list_all test (filter keep pieces) ≡ true
list_all-kept test keep [] all = refl
list_all-kept test keep (piece ∷ rest) all =
    let h = and_parts (test piece) (list_all test rest) all in
    let behind = list_all-kept test keep rest h.1 in
    cond_both (keep piece) (piece ∷ filter keep rest) (filter keep rest) (λ kept. list_all test kept ≡ true) (λ _. and_from _ _ h.0 behind) (λ _. behind)

pub list_all-joined_text : (q : ℕ → Bool) → q 47 ≡ true → (es : List (List ℕ)) → list_all (list_all q) es ≡ true → list_all q (joined_text es) ≡ true
list_all-joined_text q slash [] all = refl
list_all-joined_text q slash (e ∷ []) all = (and_parts (list_all q e) true all).0
list_all-joined_text q slash (e ∷ f ∷ es) all =
    let h = and_parts (list_all q e) (list_all (list_all q) (f ∷ es)) all in
    list_all-append q e (47 ∷ joined_text (f ∷ es)) ∙ and_from _ _ h.0 (and_from _ _ slash (list_all-joined_text q slash (f ∷ es) h.1))

pieces-bytes : (q : ℕ → Bool) (text : List ℕ) → list_all q text ≡ true → list_all (list_all q) (cleaned (pieces_of text)) ≡ true
unfolding pieces_of cleaned
pieces-bytes q text all =
    let pieces : list_all (list_all q) (pieces_of text) ≡ true =
    cond_both (list_any is_slash text) (slice_split is_slash (after_first is_slash text)) [] (λ pieces. list_all (list_all q) pieces ≡ true) (λ _. list_all-split q is_slash (after_first is_slash text) (list_all-drop q (position_or_len is_slash text + 1) text all)) (λ _. refl) in
    staying-all is_up (list_all q) (filter (λ piece. not (is_skipped piece)) (pieces_of text)) (list_all-kept (list_all q) (λ piece. not (is_skipped piece)) (pieces_of text) pieces)

-- a path's canonical text has no other bytes than its text and user names, and slashes
pub path_of-bytes : (q : ℕ → Bool) → q 47 ≡ true → ((b : ℕ) → is_user_byte b ≡ true → q b ≡ true) → (text : List ℕ) (path : PathName) → list_all q text ≡ true → path_of text ≡ Ok path → list_all q (canonical path) ≡ true
unfolding path_of
path_of-bytes q slash user text path all is =
    let fits = peel _ _ _ _ is in
    let read = read_from _ _ _ path fits.1 in
    let owner = list_all-weaker is_user_byte q user path.owner (user-bytes path.owner (user_of-again (before_first is_slash text) path.owner read.owner)) in
    let elements : list_all (list_all q) path.elements ≡ true = ap (list_all (list_all q)) read.elements ∙ pieces-bytes q text all in
    list_all-append q path.owner (47 ∷ joined_text path.elements) ∙ and_from _ _ owner (and_from _ _ slash (list_all-joined_text q slash path.elements elements))

module _ (q : ℕ → Bool) (star : q 42 ≡ true) (slash : q 47 ≡ true) (user : (b : ℕ) → is_user_byte b ≡ true → q b ≡ true) where
  group-bytes : (text : List ℕ) → list_all q text ≡ true → IfSome (group_item (path_of text)) (λ item. list_all q (item_text item) ≡ true)
  group-bytes text all = at (path_of text) refl
    where
      at : (result : Result PathName NameFault) → path_of text ≡ result → IfSome (group_item result) (λ item. list_all q (item_text item) ≡ true)
      at (Ok path) is =
          cond_both (is_in_group path) (Some (Group path)) None (λ found. IfSome found (λ item. list_all q (item_text item) ≡ true)) (λ _. path_of-bytes q slash user text path all is) (λ _. tt)
      at (Err fault) is = tt

  user-item-bytes : (text : List ℕ) → IfSome (user_item (user_of text)) (λ item. list_all q (item_text item) ≡ true)
  user-item-bytes text = at (user_of text) refl
    where
      at : (result : Result (List ℕ) NameFault) → user_of text ≡ result → IfSome (user_item result) (λ item. list_all q (item_text item) ≡ true)
      at (Ok name) is = list_all-weaker is_user_byte q user name (user-bytes name (user_of-again text name is))
      at (Err fault) is = tt

  domain-bytes' : (text : List ℕ) → IfSome (domain_item (domain_of text)) (λ item. list_all q (item_text item) ≡ true)
  unfolding domain_of
  domain-bytes' text =
      cond_both (is_domain (str_to_ascii_lowercase text)) (Some (str_to_ascii_lowercase text)) None (λ found. IfSome (domain_item found) (λ item. list_all q (item_text item) ≡ true))
      (λ good. and_from _ _ star (and_from _ _ (user 64 refl) (list_all-weaker (λ b. is_label_byte b || is_period b) q (λ b h. user b (label-user b h)) (str_to_ascii_lowercase text) (domain-bytes (str_to_ascii_lowercase text) good)))) (λ _. tt)

  pub item_of-bytes : (owner name : List ℕ) → user_of owner ≡ Ok owner → list_all q name ≡ true → IfSome (item_of owner name) (λ item. list_all q (item_text item) ≡ true)
  unfolding item_of
  item_of-bytes owner name is all =
      let P : Option Item → Type 0 = λ found. IfSome found (λ item. list_all q (item_text item) ≡ true) in
      let short : list_all q (owner ++ codes "/Group/" ++ name) ≡ true =
      list_all-append q (owner ++ codes "/Group/") name ∙ and_from _ _ (list_all-append q owner (codes "/Group/") ∙ and_from _ _ (list_all-weaker is_user_byte q user owner (user-bytes owner is)) group) all in
      cond_both (is_everyone name) _ _ P (λ _. everyone) (λ _.
      cond_both (is_domain_name name) _ _ P (λ _. domain-bytes' (drop 2 name)) (λ _.
      cond_both (not (has_owner name)) _ _ P (λ _. group-bytes (owner ++ codes "/Group/" ++ name) short) (λ _.
      cond_both (has_slash name) _ _ P (λ _. group-bytes name all) (λ _. user-item-bytes name))))
    where
      everyone : list_all q (codes "all") ≡ true
      everyone = and_from _ _ (user 97 refl) (and_from _ _ (user 108 refl) (and_from _ _ (user 108 refl) refl))

      group : list_all q (codes "/Group/") ≡ true
      group = and_from _ _ slash (and_from _ _ (user 71 refl) (and_from _ _ (user 114 refl) (and_from _ _ (user 111 refl) (and_from _ _ (user 117 refl) (and_from _ _ (user 112 refl) (and_from _ _ slash refl))))))
