-- Worked examples of Group texts in the tree of `ann@a.example`: they compute.
use Rattle.std.specs.Prelude.{◌≡◌, ◌∷◌, ◌++◌, [], List, ℕ, codes, refl, Result, Ok, Err}
use Rattle.std.specs.Str.{is_utf8, chars}
use lib.Utf8.{encode}
use Rattle.up_names.specs.declared.fault.TextFault.{TextFault}
use Rattle.up_names.specs.declared.fault.TextFault.TheVariants.{BadText}
use Rattle.up_names.specs.declared.items.Item.{Item}
use Rattle.up_names.specs.declared.items.Item.TheVariants.{Everyone, Domain, User, Group}
use Rattle.up_names.specs.ControlTexts.{control_lines, without_return, words_in}
use Rattle.up_names.specs.ItemLists.{items_in}
use Rattle.up_names.specs.ItemNames.{item_of, is_everyone}
use Rattle.up_names.specs.PathNames.{path_of, is_element, cleaned, pieces_of}
use Rattle.up_names.specs.TextMeanings.{meaning_of}
use Rattle.up_names.specs.UserNames.{user_of, domain_of, without_final_period, is_local_part, is_suffix, is_domain, is_label}
use Rattle.up_group.specs.GroupTexts.{group_of}

abbrev anns : List ℕ → Result (List Item) TextFault
anns text = group_of (codes "ann@a.example") text

abbrev group_named : List ℕ → Item
group_named name = Group (record { owner = codes "ann@a.example"; elements = codes "Group" ∷ name ∷ [] })

abbrev bob : Item
bob = User (codes "bob@b.example")

no_text : anns [] ≡ Ok []
unfolding group_of control_lines without_return words_in items_in item_of is_everyone user_of domain_of without_final_period is_local_part is_suffix is_domain is_label meaning_of
no_text = refl

commas_and_blanks : anns (codes ", ," ++ 10 ∷ 9 ∷ []) ≡ Ok []
unfolding group_of control_lines without_return words_in items_in item_of is_everyone user_of domain_of without_final_period is_local_part is_suffix is_domain is_label meaning_of
commas_and_blanks = refl

-- items of several lines, in order, with tabs, comments and CRs
several_lines : anns (codes "bob@B.example," ++ 9 ∷ codes "ALL # kin" ++ 13 ∷ 10 ∷ 10 ∷ codes "*@c.example" ++ 13 ∷ []) ≡ Ok (bob ∷ Everyone ∷ Domain (codes "c.example") ∷ [])
unfolding group_of control_lines without_return words_in items_in item_of is_everyone user_of domain_of without_final_period is_local_part is_suffix is_domain is_label meaning_of
several_lines = refl

short_name : anns (codes "fam") ≡ Ok (group_named (codes "fam") ∷ [])
unfolding group_of control_lines without_return words_in items_in item_of is_everyone user_of domain_of without_final_period is_local_part is_suffix is_domain is_label meaning_of path_of pieces_of is_element cleaned is_utf8 chars encode
short_name = refl

sign_inside_a_name : anns (codes "bob@b.example#c.example") ≡ Ok (bob ∷ [])
unfolding group_of control_lines without_return words_in items_in item_of is_everyone user_of domain_of without_final_period is_local_part is_suffix is_domain is_label meaning_of
sign_inside_a_name = refl

out_of_the_groups : anns (codes "../x") ≡ Err (BadText 1)
unfolding group_of control_lines without_return words_in items_in item_of is_everyone user_of domain_of without_final_period is_local_part is_suffix is_domain is_label meaning_of path_of pieces_of is_element cleaned is_utf8 chars encode
out_of_the_groups = refl

path_of_no_group : anns (codes "bob@b.example/x") ≡ Err (BadText 1)
unfolding group_of control_lines without_return words_in items_in item_of is_everyone user_of domain_of without_final_period is_local_part is_suffix is_domain is_label meaning_of path_of pieces_of is_element cleaned is_utf8 chars encode
path_of_no_group = refl

-- a silent line counts too, and the first bad one is told
bad_line_after_good_ones : anns (codes "bob@b.example" ++ 10 ∷ codes "#" ++ 10 ∷ codes "all bob@b" ++ 10 ∷ codes "@") ≡ Err (BadText 3)
unfolding group_of control_lines without_return words_in items_in item_of is_everyone user_of domain_of without_final_period is_local_part is_suffix is_domain is_label meaning_of
bad_line_after_good_ones = refl

return_in_the_middle : anns (codes "bob@b.example" ++ 13 ∷ codes ",all") ≡ Err (BadText 1)
unfolding group_of control_lines without_return words_in items_in item_of is_everyone user_of domain_of without_final_period is_local_part is_suffix is_domain is_label meaning_of
return_in_the_middle = refl

two_returns : anns (codes "bob@b.example" ++ 13 ∷ 13 ∷ []) ≡ Err (BadText 1)
unfolding group_of control_lines without_return words_in items_in item_of is_everyone user_of domain_of without_final_period is_local_part is_suffix is_domain is_label meaning_of
two_returns = refl
