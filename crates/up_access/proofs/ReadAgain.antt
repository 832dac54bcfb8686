-- A printed text is read as the rules that were printed.
use Rattle.std.proofs.Common.{◌≡◌, ◌∙◌, ℕ, ◌+◌, ◌-◌, Bool, true, false, cond, ◌&&◌, ◌||◌, eqb, List, [], ◌∷◌, ◌++◌, drop, take, filter, map, length, ap, sym, subst, refl, arith, codes, Option, Some, None, option_map, Result, Ok, Err, append_assoc}
use Rattle.std.proofs.lemmas.Bool.{and_parts, and_from, not-true, and_left, and_right, or_parts, or_from, or_right, cond-false, false≢true, false_from_ne_true}
use Rattle.std.proofs.lemmas.Bool.Decides.{nat_tests}
use Rattle.std.proofs.lemmas.List.{take-append-drop}
use Rattle.std.proofs.lemmas.List.Folds.{list_all-append, list_any-append}
use Rattle.std.proofs.lemmas.Slice.Eq.{bytes_eq-Decides}
use Rattle.std.specs.List.{flat_map, list_all, list_any, before_first, after_first, slice_split, position_or_len, AllByRecursion}
use Rattle.std.specs.Option.{is_none}
use Rattle.std.specs.Str.{bytes_eq}
use lib.Pointwise.{pointwise}
use Rattle.up_names.specs.declared.fault.TextFault.{TextFault}
use Rattle.up_names.specs.declared.fault.TextFault.TheVariants.{BadText}
use Rattle.up_names.specs.declared.items.Item.{Item}
use Rattle.up_names.specs.declared.items.Item.TheVariants.{Everyone, Domain, User, Group}
use Rattle.up_names.specs.ControlTexts.{control_lines, line_of, without_return, words_in, says_nothing, is_gap, is_blank, is_line_feed, is_number_sign}
use Rattle.up_names.specs.ItemLists.{items_in}
use Rattle.up_names.specs.ItemNames.{item_of}
use Rattle.up_names.specs.TextMeanings.{all_some, meaning_of}
use Rattle.up_names.specs.UserNames.{user_of, without_final_period}
use Rattle.up_names.proofs.CutLemmas.{before_first-all, before_first-joined, after_first-joined, list_any-excluded}
use Rattle.up_names.proofs.Joined.{joined_text}
use Rattle.up_names.proofs.ItemLaws.{IsCanonicalItem, item_of-again}
use Rattle.up_rights.specs.declared.Right.{Right}
use Rattle.up_rights.specs.declared.Right.TheVariants as right
use Rattle.up_rights.specs.RightSets.{Rights, no_rights, with_right, both_rights, has_right, has_any}
use Rattle.up_rights.specs.Words.{letter, rights_of}
use Rattle.up_access.specs.AccessTexts.{is_colon, rights_in, granted_by, rule_of, rules_in, access_of}
use Rattle.up_access.specs.Printing.{five_rights, item_text, printed, printed_items, printed_rights, printed_rule}
use Rattle.up_access.specs.declared.Rule.{Rule}
use Rattle.up_access.proofs.Printable.{IsPrintable, IsPrintableRule, is_shown, is_wordy, rules_printable}
use Rattle.up_access.proofs.RightsLemmas.{rights_in-word}
use Rattle.up_access.proofs.WordLemmas.{IsWord, split-joined, words_in-gaps, words_in-joined, none_joined, each_of, each_weaker}

-- the letters are the rights' words

is_letter : (r : Right) → IsWord (letter r)
is_letter right.Read = record { has_no_gap = refl; not_empty = refl }
is_letter right.Write = record { has_no_gap = refl; not_empty = refl }
is_letter right.List = record { has_no_gap = refl; not_empty = refl }
is_letter right.Create = record { has_no_gap = refl; not_empty = refl }
is_letter right.Delete = record { has_no_gap = refl; not_empty = refl }

words_in-rights : (set : Rights) → words_in (printed_rights set) ≡ map letter (filter (has_right set) five_rights)
unfolding printed_rights
words_in-rights set = words_in-joined letter 44 [] refl refl (filter (has_right set) five_rights) (each_of (λ r. IsWord (letter r)) is_letter (filter (has_right set) five_rights))

letter-right : (r : Right) → Some (with_right no_rights r) ≡ rights_of (letter r)
unfolding rights_of
letter-right right.Read = refl
letter-right right.Write = refl
letter-right right.List = refl
letter-right right.Create = refl
letter-right right.Delete = refl

letter_again : (r : Right) (rest : List Right) (found : Rights) → rights_in (map letter rest) ≡ Some found → rights_in (letter r ∷ map letter rest) ≡ Some (both_rights (with_right no_rights r) found)
letter_again r rest found is =
    rights_in-word (letter r) (map letter rest) (with_right no_rights r) (letter-right r) ∙ ap (option_map (both_rights (with_right no_rights r))) is

-- the letters of a set, the last ones first
delete_again : (d : Bool) → rights_in (map letter (cond d (right.Delete ∷ []) [])) ≡ Some (record { read = false; write = false; list = false; create = false; delete = d })
delete_again true = letter_again right.Delete [] no_rights refl
delete_again false = refl

create_again : (c d : Bool) (rest : List Right) → rights_in (map letter rest) ≡ Some (record { read = false; write = false; list = false; create = false; delete = d }) → rights_in (map letter (cond c (right.Create ∷ rest) rest)) ≡ Some (record { read = false; write = false; list = false; create = c; delete = d })
create_again true d rest is = letter_again right.Create rest _ is
create_again false d rest is = is

list_again : (l c d : Bool) (rest : List Right) → rights_in (map letter rest) ≡ Some (record { read = false; write = false; list = false; create = c; delete = d }) → rights_in (map letter (cond l (right.List ∷ rest) rest)) ≡ Some (record { read = false; write = false; list = l; create = c; delete = d })
list_again true c d rest is = letter_again right.List rest _ is
list_again false c d rest is = is

write_again : (w l c d : Bool) (rest : List Right) → rights_in (map letter rest) ≡ Some (record { read = false; write = false; list = l; create = c; delete = d }) → rights_in (map letter (cond w (right.Write ∷ rest) rest)) ≡ Some (record { read = false; write = w; list = l; create = c; delete = d })
write_again true l c d rest is = letter_again right.Write rest _ is
write_again false l c d rest is = is

read_again : (r w l c d : Bool) (rest : List Right) → rights_in (map letter rest) ≡ Some (record { read = false; write = w; list = l; create = c; delete = d }) → rights_in (map letter (cond r (right.Read ∷ rest) rest)) ≡ Some (record { read = r; write = w; list = l; create = c; delete = d })
read_again true w l c d rest is = letter_again right.Read rest _ is
read_again false w l c d rest is = is

rights_again : (set : Rights) → rights_in (map letter (filter (has_right set) five_rights)) ≡ Some set
rights_again set =
    read_again set.read set.write set.list set.create set.delete _
    (write_again set.write set.list set.create set.delete _
    (list_again set.list set.create set.delete _
    (create_again set.create set.delete _ (delete_again set.delete))))

-- a set that is not empty grants what its letters do
some_letters : (rights : List Right) (set : Rights) → rights_in (map letter rights) ≡ Some set → has_any set ≡ true → granted_by (map letter rights) ≡ Some set
some_letters [] set is any = let none : no_rights ≡ set = cc in absurd (false≢true (ap has_any none ∙ any))
some_letters (r ∷ rights) set is any = is

granted_again : (set : Rights) → has_any set ≡ true → granted_by (words_in (printed_rights set)) ≡ Some set
granted_again set any = ap granted_by (words_in-rights set) ∙ some_letters (filter (has_right set) five_rights) set (rights_again set) any

-- what stands in no letter and is no comma
none_in_rights : (p : ℕ → Bool) → ((r : Right) → list_any p (letter r) ≡ false) → p 44 ≡ false → (set : Rights) → list_any p (printed_rights set) ≡ false
unfolding printed_rights
none_in_rights p letters comma set =
    none_joined p letter (44 ∷ []) (filter (has_right set) five_rights) (or_from _ _ comma refl) (each_of (λ r. list_any p (letter r) ≡ false) letters (filter (has_right set) five_rights))

no_colon : (r : Right) → list_any is_colon (letter r) ≡ false
no_colon right.Read = refl
no_colon right.Write = refl
no_colon right.List = refl
no_colon right.Create = refl
no_colon right.Delete = refl

-- ends a line, or what stands in it
is_mark : ℕ → Bool
is_mark b = is_line_feed b || eqb b 13 || is_number_sign b

no_mark : (r : Right) → list_any is_mark (letter r) ≡ false
unfolding is_mark
no_mark right.Read = refl
no_mark right.Write = refl
no_mark right.List = refl
no_mark right.Create = refl
no_mark right.Delete = refl

-- an item's text is its word

wordy-gap : (b : ℕ) → is_wordy b ≡ true → is_gap b ≡ false
wordy-gap b h = not-true _ (and_parts _ _ h).1

shown_wordy-mark : (b : ℕ) → (is_shown b && is_wordy b) ≡ true → is_mark b ≡ false
unfolding is_mark
shown_wordy-mark b h = grind (arith, nat_tests)

list_all-both : (p q : ℕ → Bool) (xs : List ℕ) → list_all p xs ≡ true → list_all q xs ≡ true → list_all (λ b. p b && q b) xs ≡ true
list_all-both p q [] all each = refl
list_all-both p q (x ∷ xs) all each =
    let first = and_parts (p x) (list_all p xs) all in
    let second = and_parts (q x) (list_all q xs) each in
    and_from _ _ (and_from _ _ first.0 second.0) (list_all-both p q xs first.1 second.1)

no_user : user_of [] ≡ Ok [] → ⊥
unfolding user_of without_final_period
no_user e = cc

not_empty_text : (item : Item) → IsCanonicalItem item → bytes_eq (item_text item) [] ≡ false
not_empty_text Everyone is = refl
not_empty_text (Domain domain) is = refl
not_empty_text (User user) is = false_from_ne_true _ (λ empty. no_user (subst (λ u. user_of u ≡ Ok u) ((bytes_eq-Decides user []).0 empty) is.0))
not_empty_text (Group path) is = not_empty_path path.owner
  where
    not_empty_path : (owner : List ℕ) → bytes_eq (owner ++ 47 ∷ joined_text path.elements) [] ≡ false
    not_empty_path [] = refl
    not_empty_path (b ∷ owner) = refl

item_word : (item : Item) → IsPrintable item → IsWord (item_text item)
item_word item is = record {
  has_no_gap = list_any-excluded is_wordy is_gap wordy-gap (item_text item) is.wordy;
  not_empty = not_empty_text item is.is_canonical;
}

words_in-items : (items : List Item) → AllByRecursion IsPrintable items → words_in (printed_items items) ≡ map item_text items
unfolding printed_items
words_in-items items each = words_in-joined item_text 44 (32 ∷ []) refl refl items (each_weaker IsPrintable (λ item. IsWord (item_text item)) item_word items each)

items_again : (owner : List ℕ) (items : List Item) → AllByRecursion IsPrintable items → all_some (map (item_of owner) (map item_text items)) ≡ Some items
items_again owner [] each = refl
items_again owner (item ∷ items) each =
    ap (λ found. all_some (found ∷ map (item_of owner) (map item_text items))) (item_of-again owner item each.0.is_canonical)
    ∙ ap (option_map (λ items. item ∷ items)) (items_again owner items each.1)

no_mark_in_items : (items : List Item) → AllByRecursion IsPrintable items → list_any is_mark (printed_items items) ≡ false
unfolding printed_items is_mark
no_mark_in_items items each =
    none_joined is_mark item_text (codes ", ") items refl
    (each_weaker IsPrintable (λ item. list_any is_mark (item_text item) ≡ false) (λ item is. list_any-excluded (λ b. is_shown b && is_wordy b) is_mark shown_wordy-mark (item_text item) (list_all-both is_shown is_wordy (item_text item) is.shown is.wordy)) items each)

-- a rule is one line

abbrev line_for : Rule → List ℕ
line_for rule = printed_rights rule.rights ++ codes ": " ++ printed_items rule.items

no_mark_in_line : (rule : Rule) → IsPrintableRule rule → list_any is_mark (line_for rule) ≡ false
unfolding is_mark
no_mark_in_line rule is =
    list_any-append is_mark (printed_rights rule.rights ++ codes ": ") (printed_items rule.items)
    ∙ or_from _ _ (list_any-append is_mark (printed_rights rule.rights) (codes ": ") ∙ or_from _ _ (none_in_rights is_mark no_mark refl rule.rights) refl) (no_mark_in_items rule.items is.named)

no_part : (p q : ℕ → Bool) → ((b : ℕ) → q b ≡ false → p b ≡ false) → (xs : List ℕ) → list_any q xs ≡ false → list_any p xs ≡ false
no_part p q weaker [] none = refl
no_part p q weaker (x ∷ xs) none =
    let parts = or_parts (q x) (list_any q xs) none in
    or_from _ _ (weaker x parts.0) (no_part p q weaker xs parts.1)

no_return_alone : (ys : List ℕ) → list_any (λ b. eqb b 13) ys ≡ false → pointwise eqb (13 ∷ []) ys ≡ false
no_return_alone [] none = refl
no_return_alone (y ∷ ys) none =
    let other : eqb y 13 ≡ false = (or_parts (eqb y 13) (list_any (λ b. eqb b 13) ys) none).0 in
    let same : eqb 13 y ≡ false = grind (arith, nat_tests, other) in
    and_left (eqb 13 y) (pointwise eqb [] ys) same

without_return-kept : (piece : List ℕ) → list_any (λ b. eqb b 13) piece ≡ false → without_return piece ≡ piece
unfolding without_return
without_return-kept piece none =
    let n = length piece - 1 in
    let last : list_any (λ b. eqb b 13) (drop n piece) ≡ false =
    (or_parts _ _ (sym (list_any-append (λ b. eqb b 13) (take n piece) (drop n piece)) ∙ ap (list_any (λ b. eqb b 13)) (take-append-drop n piece) ∙ none)).1 in
    cond-false (pointwise eqb (13 ∷ []) (drop n piece)) (take n piece) piece (no_return_alone (drop n piece) last)

mark-feed : (b : ℕ) → is_mark b ≡ false → is_line_feed b ≡ false
unfolding is_mark
mark-feed b h = (or_parts _ _ (or_parts _ _ h).0).0

mark-return : (b : ℕ) → is_mark b ≡ false → eqb b 13 ≡ false
unfolding is_mark
mark-return b h = (or_parts _ _ (or_parts _ _ h).0).1

mark-sign : (b : ℕ) → is_mark b ≡ false → is_number_sign b ≡ false
unfolding is_mark
mark-sign b h = (or_parts _ _ h).1

line_of-kept : (line : List ℕ) → list_any is_mark line ≡ false → line_of line ≡ line
line_of-kept line none =
    ap (before_first is_number_sign) (without_return-kept line (no_part (λ b. eqb b 13) is_mark mark-return line none))
    ∙ before_first-all is_number_sign line (no_part is_number_sign is_mark mark-sign line none)

control_lines-more : (line rest : List ℕ) → list_any is_mark line ≡ false → control_lines (line ++ 10 ∷ rest) ≡ line ∷ control_lines rest
unfolding control_lines
control_lines-more line rest none =
    ap (map line_of) (split-joined is_line_feed line 10 rest (no_part is_line_feed is_mark mark-feed line none) refl)
    ∙ ap (λ l. l ∷ map line_of (slice_split is_line_feed rest)) (line_of-kept line none)

-- what a line of these parts says
line_says : (owner line part names : List ℕ) (rights : Rights) (items : List Item) → says_nothing line ≡ false → list_any is_colon line ≡ true → before_first is_colon line ≡ part → after_first is_colon line ≡ names → granted_by (words_in part) ≡ Some rights → items_in owner (words_in names) ≡ Some items → rules_in owner line ≡ Some (record { rights = rights; items = items } ∷ [])
unfolding rules_in rule_of
line_says owner line part names rights items says any before behind granted named =
    let grants : granted_by (words_in (before_first is_colon line)) ≡ Some rights = ap (λ part. granted_by (words_in part)) before ∙ granted in
    let names_items : items_in owner (words_in (after_first is_colon line)) ≡ Some items = ap (λ names. items_in owner (words_in names)) behind ∙ named in
    rw (says, any, grants, names_items) refl

items_in-again : (owner : List ℕ) (items : List Item) → AllByRecursion IsPrintable items → items_in owner (words_in (32 ∷ printed_items items)) ≡ Some items
unfolding items_in
items_in-again owner items each =
    ap (λ words. all_some (map (item_of owner) words)) (words_in-gaps (32 ∷ []) (printed_items items) refl ∙ words_in-items items each) ∙ items_again owner items each

line_again : (owner : List ℕ) (rule : Rule) → IsPrintableRule rule → rules_in owner (line_for rule) ≡ Some (rule ∷ [])
line_again owner rule is =
    let part = printed_rights rule.rights in
    let names = 32 ∷ printed_items rule.items in
    let no_colons : list_any is_colon part ≡ false = none_in_rights is_colon no_colon refl rule.rights in
    let cut : line_for rule ≡ part ++ 58 ∷ names = append_assoc part (codes ": ") (printed_items rule.items) in
    line_says owner (line_for rule) part names rule.rights rule.items
    (ap says_nothing cut ∙ list_all-append is_blank part (58 ∷ names) ∙ and_right (list_all is_blank part) false refl)
    (ap (list_any is_colon) cut ∙ list_any-append is_colon part (58 ∷ names) ∙ or_right (list_any is_colon part) true refl)
    (ap (before_first is_colon) cut ∙ before_first-joined is_colon part 58 names no_colons refl)
    (ap (after_first is_colon) cut ∙ after_first-joined is_colon part 58 names no_colons refl)
    (granted_again rule.rights is.grants)
    (items_in-again owner rule.items is.named)

printed_rule-line : (rule : Rule) (rest : List ℕ) → printed_rule rule ++ rest ≡ line_for rule ++ 10 ∷ rest
unfolding printed_rule
printed_rule-line rule rest = append_assoc (line_for rule) (10 ∷ []) rest

no_line : (owner : List ℕ) → all_some (map (rules_in owner) (control_lines [])) ≡ Some ([] ∷ [])
unfolding control_lines without_return rules_in
no_line owner = refl

lines_again : (owner : List ℕ) (rules : List Rule) → AllByRecursion IsPrintableRule rules → all_some (map (rules_in owner) (control_lines (printed rules))) ≡ Some (map (λ rule. rule ∷ []) rules ++ [] ∷ [])
lines_again owner [] each = no_line owner
lines_again owner (rule ∷ rules) each =
    ap (λ text. all_some (map (rules_in owner) (control_lines text))) (printed_rule-line rule (printed rules))
    ∙ ap (λ lines. all_some (map (rules_in owner) lines)) (control_lines-more (line_for rule) (printed rules) (no_mark_in_line rule each.0))
    ∙ ap (λ said. all_some (said ∷ map (rules_in owner) (control_lines (printed rules)))) (line_again owner rule each.0)
    ∙ ap (option_map (λ said. (rule ∷ []) ∷ said)) (lines_again owner rules each.1)

one_each : (rules : List Rule) → flat_map (λ rules. rules) (map (λ rule. rule ∷ []) rules ++ [] ∷ []) ≡ rules
one_each [] = refl
one_each (rule ∷ rules) = ap (λ rest. rule ∷ rest) (one_each rules)

meaning-whole : (lines : List (Option (List Rule))) (said : List (List Rule)) → all_some lines ≡ Some said → meaning_of lines ≡ Ok (flat_map (λ rules. rules) said)
unfolding meaning_of
meaning-whole lines said is = ap meant is
  where
    meant : Option (List (List Rule)) → Result (List Rule) TextFault
    meant found = elim found [ Some said ↦ Ok (flat_map (λ rules. rules) said) | None ↦ Err (BadText (position_or_len is_none lines + 1)) ]

rules_again : (owner : List ℕ) (rules : List Rule) → AllByRecursion IsPrintableRule rules → access_of owner (printed rules) ≡ Ok rules
unfolding access_of
rules_again owner rules each =
    meaning-whole (map (rules_in owner) (control_lines (printed rules))) _ (lines_again owner rules each) ∙ ap Ok (one_each rules)

-- the rules of a user's text, printed and read by any owner
pub access_of-printed : (owner text : List ℕ) (rules : List Rule) → user_of owner ≡ Ok owner → access_of owner text ≡ Ok rules → (other : List ℕ) → access_of other (printed rules) ≡ Ok rules
access_of-printed owner text rules user is other = rules_again other rules (rules_printable owner text rules user is)
