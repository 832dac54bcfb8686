-- Worked examples of items, in a text of the owner `ann@a.example`: they compute.
use Rattle.std.specs.Prelude.{◌≡◌, ◌∷◌, [], List, ℕ, codes, refl, Option, Some, None}
use Rattle.std.specs.Str.{is_utf8, chars}
use lib.Utf8.{encode}
use Rattle.up_names.specs.declared.items.Item.{Item}
use Rattle.up_names.specs.declared.items.Item.TheVariants.{Everyone, Domain, User, Group}
use Rattle.up_names.specs.ItemNames.{item_of, is_everyone}
use Rattle.up_names.specs.PathNames.{path_of, is_element, cleaned, pieces_of}
use Rattle.up_names.specs.UserNames.{user_of, domain_of, without_final_period, is_local_part, is_suffix, is_domain, is_label}

abbrev anns : List ℕ → Option Item
anns name = item_of (codes "ann@a.example") name

all_in_capitals : anns (codes "ALL") ≡ Some Everyone
unfolding item_of is_everyone
all_in_capitals = refl

everyone_as_a_user : anns (codes "all@UPSPIN.io.") ≡ Some Everyone
unfolding item_of is_everyone user_of without_final_period is_local_part is_suffix is_domain is_label
everyone_as_a_user = refl

another_user : anns (codes "ALL@upspin.io") ≡ Some (User (codes "ALL@upspin.io"))
unfolding item_of is_everyone user_of without_final_period is_local_part is_suffix is_domain is_label
another_user = refl

users_of_a_domain : anns (codes "*@B.example") ≡ Some (Domain (codes "b.example"))
unfolding item_of is_everyone user_of domain_of without_final_period is_local_part is_suffix is_domain is_label
users_of_a_domain = refl

domain_with_a_final_period : anns (codes "*@b.example.") ≡ None
unfolding item_of is_everyone user_of domain_of without_final_period is_local_part is_suffix is_domain is_label
domain_with_a_final_period = refl

a_user : anns (codes "bob@B.example") ≡ Some (User (codes "bob@b.example"))
unfolding item_of is_everyone user_of without_final_period is_local_part is_suffix is_domain is_label
a_user = refl

a_path_of_no_group : anns (codes "bob@b.example/x") ≡ None
unfolding item_of is_everyone path_of pieces_of is_element cleaned user_of without_final_period is_local_part is_suffix is_domain is_label is_utf8 chars encode
a_path_of_no_group = refl

group_of_another_owner : anns (codes "bob@b.example./Group//x/../fam") ≡ Some (Group (record { owner = codes "bob@b.example"; elements = codes "Group" ∷ codes "fam" ∷ [] }))
unfolding item_of is_everyone path_of pieces_of is_element cleaned user_of without_final_period is_local_part is_suffix is_domain is_label is_utf8 chars encode
group_of_another_owner = refl

short_name : anns (codes "fam") ≡ Some (Group (record { owner = codes "ann@a.example"; elements = codes "Group" ∷ codes "fam" ∷ [] }))
unfolding item_of is_everyone path_of pieces_of is_element cleaned user_of without_final_period is_local_part is_suffix is_domain is_label is_utf8 chars encode
short_name = refl

star_as_a_short_name : anns (codes "*") ≡ Some (Group (record { owner = codes "ann@a.example"; elements = codes "Group" ∷ codes "*" ∷ [] }))
unfolding item_of is_everyone path_of pieces_of is_element cleaned user_of without_final_period is_local_part is_suffix is_domain is_label is_utf8 chars encode
star_as_a_short_name = refl

at_sign_behind_a_slash : anns (codes "a/b@c") ≡ Some (Group (record { owner = codes "ann@a.example"; elements = codes "Group" ∷ codes "a" ∷ codes "b@c" ∷ [] }))
unfolding item_of is_everyone path_of pieces_of is_element cleaned user_of without_final_period is_local_part is_suffix is_domain is_label is_utf8 chars encode
at_sign_behind_a_slash = refl

out_of_the_groups : anns (codes "../x") ≡ None
unfolding item_of is_everyone path_of pieces_of is_element cleaned user_of without_final_period is_local_part is_suffix is_domain is_label is_utf8 chars encode
out_of_the_groups = refl
