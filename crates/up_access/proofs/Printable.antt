-- What the rules of a text have, so that they can be printed and read again.
use Rattle.std.proofs.Common.{◌≡◌, ◌∙◌, ℕ, ◌+◌, Bool, true, false, cond, not, ◌&&◌, ◌||◌, leb, List, [], ◌∷◌, ◌++◌, drop, take, filter, map, ap, sym, subst, refl, arith, codes, IfSome, Option, Some, None, option_map, Result, Ok, Err}
use Rattle.std.proofs.lemmas.Bool.{and_parts, and_from, or_parts, or_left, or_right, cond_both, not_from_false}
use Rattle.std.proofs.lemmas.Bool.Decides.{nat_tests}
use Rattle.std.proofs.lemmas.List.{take-append-drop}
use Rattle.std.proofs.lemmas.List.Folds.{list_all-append}
use Rattle.std.proofs.lemmas.Option.{MatchOption-at_some}
use Rattle.std.specs.List.{flat_map, list_all, list_any, before_first, after_first, slice_split, position_or_len, AllByRecursion}
use Rattle.std.specs.Option.{option_and_then, is_none}
use Rattle.std.specs.Str.{bytes_eq, str_to_ascii_lowercase}
use Rattle.up_names.specs.declared.fault.TextFault.{TextFault}
use Rattle.up_names.specs.declared.fault.TextFault.TheVariants.{BadText}
use Rattle.up_names.specs.declared.items.Item.{Item}
use Rattle.up_names.specs.declared.items.Item.TheVariants.{Everyone, Domain, User, Group}
use Rattle.up_names.specs.ControlTexts.{control_lines, line_of, without_return, words_in, says_nothing, is_gap, is_line_feed, is_number_sign}
use Rattle.up_names.specs.ItemLists.{items_in}
use Rattle.up_names.specs.ItemNames.{item_of}
use Rattle.up_names.specs.PathNames.{is_name, is_element, is_allowed_byte}
use Rattle.up_names.specs.TextMeanings.{all_some, meaning_of}
use Rattle.up_names.specs.UserNames.{user_of, is_label_byte, is_period}
use Rattle.up_names.proofs.CutLemmas.{before_first-none, list_all-weaker}
use Rattle.up_names.proofs.ItemBytes.{item_of-bytes, list_all-joined_text}
use Rattle.up_names.proofs.ItemLaws.{IsCanonicalItem, item_of-canonical}
use Rattle.up_names.proofs.Joined.{joined_text}
use Rattle.up_names.proofs.PathLaws.{canonical-proper}
use Rattle.up_names.proofs.UserLemmas.{is_user_byte, user-bytes, domain-bytes}
use Rattle.up_rights.specs.RightSets.{Rights, no_rights, all_rights, both_rights, has_any, with_right}
use Rattle.up_rights.specs.declared.Right.TheVariants as right
use Rattle.up_rights.specs.Words.{rights_of, is_word_for}
use Rattle.up_access.specs.AccessTexts.{is_colon, rights_in, granted_by, rule_of, rules_in, access_of}
use Rattle.up_access.specs.Printing.{item_text}
use Rattle.up_access.specs.declared.Rule.{Rule}
use Rattle.up_access.proofs.WordLemmas.{split-parts}

-- no control byte
abbrev pub is_shown : ℕ → Bool
is_shown b = leb 32 b

-- stands in a word, and begins no comment
abbrev pub is_wordy : ℕ → Bool
is_wordy b = not (is_number_sign b) && not (is_gap b)

-- an item whose text is one word of a line, and names it again
pub record IsPrintable (item : Item) : Type 0 where
  pub is_canonical : IsCanonicalItem item
  pub shown : list_all is_shown (item_text item) ≡ true
  pub wordy : list_all is_wordy (item_text item) ≡ true

-- a rule of such items that grants something
pub record IsPrintableRule (rule : Rule) : Type 0 where
  pub grants : has_any rule.rights ≡ true
  pub named : AllByRecursion IsPrintable rule.items

-- bytes

shown_user : (b : ℕ) → is_user_byte b ≡ true → is_shown b ≡ true
shown_user b h = grind (arith, nat_tests)

shown_label : (b : ℕ) → (is_label_byte b || is_period b) ≡ true → is_shown b ≡ true
shown_label b h = grind (arith, nat_tests)

shown_allowed : (b : ℕ) → is_allowed_byte b ≡ true → is_shown b ≡ true
shown_allowed b h = (and_parts _ _ (and_parts _ _ h).0).0

wordy_user : (b : ℕ) → is_user_byte b ≡ true → is_wordy b ≡ true
wordy_user b h = grind (arith, nat_tests)

shown_name : (name : List ℕ) → is_name name ≡ true → list_all is_shown name ≡ true
unfolding is_element
shown_name name is = list_all-weaker is_allowed_byte is_shown shown_allowed name (and_parts _ _ (and_parts _ _ (and_parts _ _ is).0).0).1

shown_canonical : (item : Item) → IsCanonicalItem item → list_all is_shown (item_text item) ≡ true
shown_canonical Everyone is = refl
shown_canonical (Domain domain) is = list_all-weaker (λ b. is_label_byte b || is_period b) is_shown shown_label domain (domain-bytes domain is.0)
shown_canonical (User user) is = list_all-weaker is_user_byte is_shown shown_user user (user-bytes user is.0)
shown_canonical (Group path) is =
    let proper = canonical-proper path is.0 in
    list_all-append is_shown path.owner (47 ∷ joined_text path.elements)
    ∙ and_from _ _ (list_all-weaker is_user_byte is_shown shown_user path.owner (user-bytes path.owner proper.owner))
    (list_all-joined_text is_shown refl path.elements (list_all-weaker is_name (list_all is_shown) shown_name path.elements proper.names))

-- what names an item of a word

item_printable : (owner word : List ℕ) (item : Item) → user_of owner ≡ Ok owner → list_all is_wordy word ≡ true → item_of owner word ≡ Some item → IsPrintable item
item_printable owner word item user wordy is =
    let canonical_item : IsCanonicalItem item = MatchOption-at_some Unit IsCanonicalItem item is (item_of-canonical owner word) in
    record {
      is_canonical = canonical_item;
      shown = shown_canonical item canonical_item;
      wordy = MatchOption-at_some Unit (λ item. list_all is_wordy (item_text item) ≡ true) item is (item_of-bytes is_wordy refl refl wordy_user owner word user wordy);
    }

items_printable : (owner : List ℕ) (words : List (List ℕ)) (items : List Item) → user_of owner ≡ Ok owner → list_all (list_all is_wordy) words ≡ true → all_some (map (item_of owner) words) ≡ Some items → AllByRecursion IsPrintable items
items_printable owner [] items user wordy all =
    let none : [] ≡ items = cc in
    subst (AllByRecursion IsPrintable) none tt
items_printable owner (word ∷ words) items user wordy all =
    let parts = and_parts (list_all is_wordy word) (list_all (list_all is_wordy) words) wordy in
    at (item_of owner word) refl parts.0 (λ others are. items_printable owner words others user parts.1 are) all
  where
    rest : (item : Item) → IsPrintable item → (more : Option (List Item)) → all_some (map (item_of owner) words) ≡ more → ((others : List Item) → all_some (map (item_of owner) words) ≡ Some others → AllByRecursion IsPrintable others) → option_map (λ items. item ∷ items) more ≡ Some items → AllByRecursion IsPrintable items
    rest item first None are behind e = absurd (cc)
    rest item first (Some others) are behind e =
        let same : item ∷ others ≡ items = cc in
        subst (AllByRecursion IsPrintable) same (first, behind others are)

    at : (found : Option Item) → item_of owner word ≡ found → list_all is_wordy word ≡ true → ((others : List Item) → all_some (map (item_of owner) words) ≡ Some others → AllByRecursion IsPrintable others) → all_some (found ∷ map (item_of owner) words) ≡ Some items → AllByRecursion IsPrintable items
    at None is first behind e = absurd (cc)
    at (Some item) is first behind e = rest item (item_printable owner word item user first is) (all_some (map (item_of owner) words)) refl behind e

filter-all : (test keep : List ℕ → Bool) (pieces : List (List ℕ)) → list_all test pieces ≡ true → list_all test (filter keep pieces) ≡ true
filter-all test keep [] all = refl
filter-all test keep (piece ∷ rest) all =
    let parts = and_parts (test piece) (list_all test rest) all in
    let behind = filter-all test keep rest parts.1 in
    cond_both (keep piece) (piece ∷ filter keep rest) (filter keep rest) (λ kept. list_all test kept ≡ true) (λ _. and_from _ _ parts.0 behind) (λ _. behind)

-- the words of a line without a comment
words-wordy : (line : List ℕ) → list_all (λ b. not (is_number_sign b)) line ≡ true → list_all (list_all is_wordy) (words_in line) ≡ true
unfolding words_in
words-wordy line plain = filter-all (list_all is_wordy) (λ run. not (bytes_eq run [])) (slice_split is_gap line) (split-parts (λ b. not (is_number_sign b)) is_gap line plain)

-- each right grants something

or_both : (a b c d : Bool) → (a ≡ true → c ≡ true) → (b ≡ true → d ≡ true) → (a || b) ≡ true → (c || d) ≡ true
or_both true b c d first second h = or_left c d (first refl)
or_both false b c d first second h = or_right c d (second h)

both_rights-any : (set more : Rights) → has_any set ≡ true → has_any (both_rights set more) ≡ true
both_rights-any set more =
    or_both _ _ _ _ (or_both _ _ _ _ (or_both _ _ _ _ (or_both _ _ _ _ (or_left set.read more.read) (or_left set.write more.write)) (or_left set.list more.list)) (or_left set.create more.create)) (or_left set.delete more.delete)

chosen-any : (a b c d e f : Bool) → IfSome (cond a (Some (with_right no_rights right.Read)) (cond b (Some (with_right no_rights right.Write)) (cond c (Some (with_right no_rights right.List)) (cond d (Some (with_right no_rights right.Create)) (cond e (Some (with_right no_rights right.Delete)) (cond f (Some all_rights) None)))))) (λ set. has_any set ≡ true)
chosen-any true b c d e f = refl
chosen-any false true c d e f = refl
chosen-any false false true d e f = refl
chosen-any false false false true e f = refl
chosen-any false false false false true f = refl
chosen-any false false false false false true = refl
chosen-any false false false false false false = tt

right-any : (word : List ℕ) → IfSome (rights_of word) (λ set. has_any set ≡ true)
unfolding rights_of
right-any word =
    let lower = str_to_ascii_lowercase word in
    chosen-any (is_word_for lower right.Read) (is_word_for lower right.Write) (is_word_for lower right.List) (is_word_for lower right.Create) (is_word_for lower right.Delete) (bytes_eq lower (codes "*") || bytes_eq lower (codes "all"))

rights-any : (words : List (List ℕ)) (set : Rights) → granted_by words ≡ Some set → has_any set ≡ true
rights-any [] set e = absurd (cc)
rights-any (word ∷ words) set e = at (rights_of word) (rights_in words) (right-any word) e
  where
    at : (first : Option Rights) (rest : Option Rights) → IfSome first (λ set. has_any set ≡ true) → option_and_then (λ rights. option_and_then (λ more. Some (both_rights rights more)) rest) first ≡ Some set → has_any set ≡ true
    at None rest any e = absurd (cc)
    at (Some rights) None any e = absurd (cc)
    at (Some rights) (Some more) any e =
        let same : both_rights rights more ≡ set = cc in
        subst (λ s. has_any s ≡ true) same (both_rights-any rights more any)

list_all-behind : (q : ℕ → Bool) (n : ℕ) (xs : List ℕ) → list_all q xs ≡ true → list_all q (drop n xs) ≡ true
list_all-behind q n xs all =
    (and_parts (list_all q (take n xs)) (list_all q (drop n xs)) (sym (list_all-append q (take n xs) (drop n xs)) ∙ ap (list_all q) (take-append-drop n xs) ∙ all)).1

-- the rule that a line without a comment says

rule_printable : (owner line : List ℕ) (rule : Rule) → user_of owner ≡ Ok owner → list_all (λ b. not (is_number_sign b)) line ≡ true → rule_of owner line ≡ Some rule → IsPrintableRule rule
unfolding rule_of items_in
rule_printable owner line rule user plain e =
    let names = after_first is_colon line in
    let wordy = words-wordy names (list_all-behind (λ b. not (is_number_sign b)) (position_or_len is_colon line + 1) line plain) in
    at (not (list_any is_colon line)) (granted_by (words_in (before_first is_colon line))) refl (all_some (map (item_of owner) (words_in names))) refl wordy e
  where
    at : (bad : Bool) (granted : Option Rights) → granted_by (words_in (before_first is_colon line)) ≡ granted → (found : Option (List Item)) → all_some (map (item_of owner) (words_in (after_first is_colon line))) ≡ found → list_all (list_all is_wordy) (words_in (after_first is_colon line)) ≡ true
        → cond bad None (option_and_then (λ rights. option_and_then (λ items. Some (record { rights = rights; items = items })) found) granted) ≡ Some rule → IsPrintableRule rule
    at true granted _ found _ wordy e = absurd (cc)
    at false None _ found _ wordy e = absurd (cc)
    at false (Some rights) _ None _ wordy e = absurd (cc)
    at false (Some rights) grants (Some items) named wordy e =
        let same : record { rights = rights; items = items } ≡ rule = cc in
        subst IsPrintableRule same (record { grants = rights-any (words_in (before_first is_colon line)) rights grants; named = items_printable owner (words_in (after_first is_colon line)) items user wordy named })

line_printable : (owner line : List ℕ) (rules : List Rule) → user_of owner ≡ Ok owner → list_all (λ b. not (is_number_sign b)) line ≡ true → rules_in owner line ≡ Some rules → AllByRecursion IsPrintableRule rules
unfolding rules_in
line_printable owner line rules user plain e = at (says_nothing line) (rule_of owner line) refl e
  where
    at : (nothing : Bool) (said : Option Rule) → rule_of owner line ≡ said → cond nothing (Some []) (option_map (λ rule. rule ∷ []) said) ≡ Some rules → AllByRecursion IsPrintableRule rules
    at true said is e =
        let same : [] ≡ rules = cc in
        subst (AllByRecursion IsPrintableRule) same tt
    at false None is e = absurd (cc)
    at false (Some rule) is e =
        let same : rule ∷ [] ≡ rules = cc in
        subst (AllByRecursion IsPrintableRule) same (rule_printable owner line rule user plain is, tt)

-- a line has no comment
line_of-plain : (piece : List ℕ) → list_all (λ b. not (is_number_sign b)) (line_of piece) ≡ true
line_of-plain piece = list_all-not is_number_sign (line_of piece) (before_first-none is_number_sign (without_return piece))
  where
    list_all-not : (p : ℕ → Bool) (xs : List ℕ) → list_any p xs ≡ false → list_all (λ b. not (p b)) xs ≡ true
    list_all-not p [] none = refl
    list_all-not p (x ∷ xs) none = let parts = or_parts (p x) (list_any p xs) none in and_from _ _ (not_from_false _ parts.0) (list_all-not p xs parts.1)

each_appended : (P : Rule → Type 0) (xs ys : List Rule) → AllByRecursion P xs → AllByRecursion P ys → AllByRecursion P (xs ++ ys)
each_appended P [] ys first rest = rest
each_appended P (x ∷ xs) ys first rest = (first.0, each_appended P xs ys first.1 rest)

pieces_printable : (owner : List ℕ) (pieces : List (List ℕ)) (said : List (List Rule)) → user_of owner ≡ Ok owner → all_some (map (rules_in owner) (map line_of pieces)) ≡ Some said → AllByRecursion IsPrintableRule (flat_map (λ rules. rules) said)
pieces_printable owner [] said user e =
    let none : [] ≡ said = cc in
    subst (λ said. AllByRecursion IsPrintableRule (flat_map (λ rules. rules) said)) none tt
pieces_printable owner (piece ∷ pieces) said user e =
    at (rules_in owner (line_of piece)) refl (λ others are. pieces_printable owner pieces others user are) e
  where
    rest : (rules : List Rule) → AllByRecursion IsPrintableRule rules → (more : Option (List (List Rule))) → all_some (map (rules_in owner) (map line_of pieces)) ≡ more → ((others : List (List Rule)) → all_some (map (rules_in owner) (map line_of pieces)) ≡ Some others → AllByRecursion IsPrintableRule (flat_map (λ rules. rules) others)) → option_map (λ said. rules ∷ said) more ≡ Some said → AllByRecursion IsPrintableRule (flat_map (λ rules. rules) said)
    rest rules first None are behind e = absurd (cc)
    rest rules first (Some others) are behind e =
        let same : rules ∷ others ≡ said = cc in
        subst (λ said. AllByRecursion IsPrintableRule (flat_map (λ rules. rules) said)) same (each_appended IsPrintableRule rules (flat_map (λ rules. rules) others) first (behind others are))

    at : (first : Option (List Rule)) → rules_in owner (line_of piece) ≡ first → ((others : List (List Rule)) → all_some (map (rules_in owner) (map line_of pieces)) ≡ Some others → AllByRecursion IsPrintableRule (flat_map (λ rules. rules) others)) → all_some (first ∷ map (rules_in owner) (map line_of pieces)) ≡ Some said → AllByRecursion IsPrintableRule (flat_map (λ rules. rules) said)
    at None is behind e = absurd (cc)
    at (Some rules) is behind e = rest rules (line_printable owner (line_of piece) rules user (line_of-plain piece) is) (all_some (map (rules_in owner) (map line_of pieces))) refl behind e

-- the rules of a text
pub rules_printable : (owner text : List ℕ) (rules : List Rule) → user_of owner ≡ Ok owner → access_of owner text ≡ Ok rules → AllByRecursion IsPrintableRule rules
unfolding access_of meaning_of control_lines
rules_printable owner text rules user e =
    at (all_some (map (rules_in owner) (map line_of (slice_split is_line_feed text)))) refl e
  where
    meant : Option (List (List Rule)) → Result (List Rule) TextFault
    meant found = elim found [ Some said ↦ Ok (flat_map (λ rules. rules) said) | None ↦ Err (BadText (position_or_len is_none (map (rules_in owner) (map line_of (slice_split is_line_feed text))) + 1)) ]

    at : (found : Option (List (List Rule))) → all_some (map (rules_in owner) (map line_of (slice_split is_line_feed text))) ≡ found → meant found ≡ Ok rules → AllByRecursion IsPrintableRule rules
    at None is e = absurd (cc)
    at (Some said) is e =
        let same : flat_map (λ rules. rules) said ≡ rules = cc in
        subst (AllByRecursion IsPrintableRule) same (pieces_printable owner (slice_split is_line_feed text) said user is)
