-- Worked examples of Access texts in the tree of `ann@a.example`: they compute.
use Rattle.std.specs.Prelude.{◌≡◌, ◌∷◌, ◌++◌, [], List, ℕ, codes, refl, Result, Ok, Err}
use Rattle.std.specs.Str.{is_utf8, chars}
use lib.Utf8.{encode}
use Rattle.up_names.specs.declared.fault.TextFault.{TextFault}
use Rattle.up_names.specs.declared.fault.TextFault.TheVariants.{BadText}
use Rattle.up_names.specs.declared.items.Item.{Item}
use Rattle.up_names.specs.declared.items.Item.TheVariants.{Everyone, Domain, User, Group}
use Rattle.up_names.specs.ControlTexts.{control_lines, without_return, words_in}
use Rattle.up_names.specs.ItemLists.{items_in}
use Rattle.up_names.specs.ItemNames.{item_of, is_everyone}
use Rattle.up_names.specs.PathNames.{path_of, is_element, cleaned, pieces_of}
use Rattle.up_names.specs.TextMeanings.{meaning_of}
use Rattle.up_names.specs.UserNames.{user_of, domain_of, without_final_period, is_local_part, is_suffix, is_domain, is_label}
use Rattle.up_rights.specs.RightSets.{Rights, no_rights, all_rights, with_right}
use Rattle.up_rights.specs.Words.{rights_of}
use Rattle.up_rights.specs.declared.Right.TheVariants as right
use Rattle.up_access.specs.declared.Rule.{Rule}
use Rattle.up_access.specs.AccessTexts.{access_of, rule_of, rules_in}
use Rattle.up_access.specs.Printing.{printed, printed_items, printed_rights, printed_rule}

abbrev anns : List ℕ → Result (List Rule) TextFault
anns text = access_of (codes "ann@a.example") text

abbrev group_named : List ℕ → Item
group_named name = Group (record { owner = codes "ann@a.example"; elements = codes "Group" ∷ name ∷ [] })

abbrev bob : Item
bob = User (codes "bob@b.example")

abbrev to_read : Rights
to_read = with_right no_rights right.Read

abbrev rule : Rights → List Item → Rule
rule rights items = record { rights = rights; items = items }

-- any case, long words and letters, a comment, a user and a short name; and how that is printed
abbrev read_and_list : List Rule
read_and_list = rule (with_right to_read right.List) (User (codes "Bob@b.example") ∷ group_named (codes "fam") ∷ []) ∷ []

a_rule : anns (codes "R,list: Bob@B.example, fam # kin") ≡ Ok read_and_list
unfolding access_of rules_in rule_of rights_of control_lines without_return words_in items_in item_of is_everyone user_of domain_of without_final_period is_local_part is_suffix is_domain is_label meaning_of path_of pieces_of is_element cleaned is_utf8 chars encode
a_rule = refl

a_rule_printed : printed read_and_list ≡ codes "r,l: Bob@b.example, ann@a.example/Group/fam" ++ 10 ∷ []
unfolding printed_rule printed_rights printed_items
a_rule_printed = refl

printed_apart : printed (rule all_rights (Everyone ∷ Domain (codes "b.example") ∷ []) ∷ rule to_read [] ∷ []) ≡ codes "r,w,l,c,d: all, *@b.example" ++ 10 ∷ codes "r: " ++ 10 ∷ []
unfolding printed_rule printed_rights printed_items
printed_apart = refl

no_text : anns [] ≡ Ok []
unfolding access_of rules_in rule_of rights_of control_lines without_return words_in items_in item_of is_everyone user_of domain_of without_final_period is_local_part is_suffix is_domain is_label meaning_of
no_text = refl

grants_nobody : anns (codes "r:") ≡ Ok (rule to_read [] ∷ [])
unfolding access_of rules_in rule_of rights_of control_lines without_return words_in items_in item_of is_everyone user_of domain_of without_final_period is_local_part is_suffix is_domain is_label meaning_of
grants_nobody = refl

no_colon : anns (codes "r") ≡ Err (BadText 1)
unfolding access_of rules_in rule_of rights_of control_lines without_return words_in items_in item_of is_everyone user_of domain_of without_final_period is_local_part is_suffix is_domain is_label meaning_of
no_colon = refl

no_rights_named : anns (codes ":bob@b.example") ≡ Err (BadText 1)
unfolding access_of rules_in rule_of rights_of control_lines without_return words_in items_in item_of is_everyone user_of domain_of without_final_period is_local_part is_suffix is_domain is_label meaning_of
no_rights_named = refl

comma_for_a_right : anns (codes ", :bob@b.example") ≡ Err (BadText 1)
unfolding access_of rules_in rule_of rights_of control_lines without_return words_in items_in item_of is_everyone user_of domain_of without_final_period is_local_part is_suffix is_domain is_label meaning_of
comma_for_a_right = refl

commas_alone : anns (codes ",") ≡ Err (BadText 1)
unfolding access_of rules_in rule_of rights_of control_lines without_return words_in items_in item_of is_everyone user_of domain_of without_final_period is_local_part is_suffix is_domain is_label meaning_of
commas_alone = refl

names_before_rights : anns (codes "bob@b.example: r") ≡ Err (BadText 1)
unfolding access_of rules_in rule_of rights_of control_lines without_return words_in items_in item_of is_everyone user_of domain_of without_final_period is_local_part is_suffix is_domain is_label meaning_of
names_before_rights = refl

several_colons : anns (codes "r::x") ≡ Ok (rule to_read (group_named (codes ":x") ∷ []) ∷ [])
unfolding access_of rules_in rule_of rights_of control_lines without_return words_in items_in item_of is_everyone user_of domain_of without_final_period is_local_part is_suffix is_domain is_label meaning_of path_of pieces_of is_element cleaned is_utf8 chars encode
several_colons = refl

tabs : anns (9 ∷ codes "r" ++ 9 ∷ codes ":" ++ 9 ∷ codes "all" ++ 9 ∷ []) ≡ Ok (rule to_read (Everyone ∷ []) ∷ [])
unfolding access_of rules_in rule_of rights_of control_lines without_return words_in items_in item_of is_everyone user_of domain_of without_final_period is_local_part is_suffix is_domain is_label meaning_of
tabs = refl

sign_inside_a_name : anns (codes "r: bob@b.example#c.example") ≡ Ok (rule to_read (bob ∷ []) ∷ [])
unfolding access_of rules_in rule_of rights_of control_lines without_return words_in items_in item_of is_everyone user_of domain_of without_final_period is_local_part is_suffix is_domain is_label meaning_of
sign_inside_a_name = refl

-- one CR goes before an LF and at the end, and none elsewhere
returns : anns (codes "r: all" ++ 13 ∷ 10 ∷ codes "*:" ++ 13 ∷ []) ≡ Ok (rule to_read (Everyone ∷ []) ∷ rule all_rights [] ∷ [])
unfolding access_of rules_in rule_of rights_of control_lines without_return words_in items_in item_of is_everyone user_of domain_of without_final_period is_local_part is_suffix is_domain is_label meaning_of
returns = refl

return_in_the_middle : anns (codes "r: all" ++ 13 ∷ codes ",bob@b.example") ≡ Err (BadText 1)
unfolding access_of rules_in rule_of rights_of control_lines without_return words_in items_in item_of is_everyone user_of domain_of without_final_period is_local_part is_suffix is_domain is_label meaning_of path_of pieces_of is_element cleaned is_utf8 chars encode
return_in_the_middle = refl

two_returns : anns (codes "r: bob@b.example" ++ 13 ∷ 13 ∷ []) ≡ Err (BadText 1)
unfolding access_of rules_in rule_of rights_of control_lines without_return words_in items_in item_of is_everyone user_of domain_of without_final_period is_local_part is_suffix is_domain is_label meaning_of
two_returns = refl

return_before_a_comment : anns (codes "r: bob@b.example" ++ 13 ∷ codes "#x") ≡ Err (BadText 1)
unfolding access_of rules_in rule_of rights_of control_lines without_return words_in items_in item_of is_everyone user_of domain_of without_final_period is_local_part is_suffix is_domain is_label meaning_of
return_before_a_comment = refl

-- a silent line counts too, and the first bad one is told
bad_line_after_good_ones : anns (codes "r: all" ++ 10 ∷ 10 ∷ codes "x: all" ++ 10 ∷ codes "r") ≡ Err (BadText 3)
unfolding access_of rules_in rule_of rights_of control_lines without_return words_in items_in item_of is_everyone user_of domain_of without_final_period is_local_part is_suffix is_domain is_label meaning_of
bad_line_after_good_ones = refl
