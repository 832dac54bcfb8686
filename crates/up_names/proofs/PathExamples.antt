-- Worked examples of paths: they compute.
use Rattle.std.specs.Prelude.{◌≡◌, ◌++◌, ◌∷◌, [], List, ℕ, codes, replicate, true, false, refl, Ok, Err, Some, None}
use Rattle.std.specs.declared.cmp.Ordering.TheVariants.{Less, Greater}
use Rattle.std.specs.Str.{is_utf8, chars}
use lib.Utf8.{encode}
use Rattle.up_names.specs.declared.fault.NameFault.TheVariants.{AtSigns, Element, TooLong}
use Rattle.up_names.specs.declared.paths.Control.TheVariants.{Ordinary, Access, Group}
use Rattle.up_names.specs.UserNames.{user_of, without_final_period, is_local_part, is_suffix, is_domain, is_label}
use Rattle.up_names.specs.PathNames.{PathName, path_of, pieces_of, is_element, cleaned, canonical, is_under, parent_of, joined, control_of}
use Rattle.up_names.specs.PathOrder.{path_cmp, parts_cmp}

-- a path of `a@x.example`
abbrev path : List (List ℕ) → PathName
path elements = record { owner = codes "a@x.example"; elements = elements }

-- what a text names
no_slash : path_of (codes "a@x.example") ≡ Ok (path [])
unfolding path_of pieces_of is_element cleaned user_of without_final_period is_local_part is_suffix is_domain is_label is_utf8 chars encode
no_slash = refl

root : path_of (codes "a@x.example/") ≡ Ok (path [])
unfolding path_of pieces_of is_element cleaned user_of without_final_period is_local_part is_suffix is_domain is_label is_utf8 chars encode
root = refl

trailing_slash : path_of (codes "a@x.example/b/") ≡ Ok (path (codes "b" ∷ []))
unfolding path_of pieces_of is_element cleaned user_of without_final_period is_local_part is_suffix is_domain is_label is_utf8 chars encode
trailing_slash = refl

dots : path_of (codes "a@x.example//x/./y/../z") ≡ Ok (path (codes "x" ∷ codes "z" ∷ []))
unfolding path_of pieces_of is_element cleaned user_of without_final_period is_local_part is_suffix is_domain is_label is_utf8 chars encode
dots = refl

above_the_root : path_of (codes "a@x.example/../../b") ≡ Ok (path (codes "b" ∷ []))
unfolding path_of pieces_of is_element cleaned user_of without_final_period is_local_part is_suffix is_domain is_label is_utf8 chars encode
above_the_root = refl

two_up : path_of (codes "a@x.example/b/c/../../d") ≡ Ok (path (codes "d" ∷ []))
unfolding path_of pieces_of is_element cleaned user_of without_final_period is_local_part is_suffix is_domain is_label is_utf8 chars encode
two_up = refl

three_dots : path_of (codes "a@x.example/...") ≡ Ok (path (codes "..." ∷ []))
unfolding path_of pieces_of is_element cleaned user_of without_final_period is_local_part is_suffix is_domain is_label is_utf8 chars encode
three_dots = refl

final_period_of_the_owner : path_of (codes "a@X.example./f") ≡ Ok (path (codes "f" ∷ []))
unfolding path_of pieces_of is_element cleaned user_of without_final_period is_local_part is_suffix is_domain is_label is_utf8 chars encode
final_period_of_the_owner = refl

two_bytes_of_one_character : path_of (codes "a@x.example/" ++ 0xC3 ∷ 0xA9 ∷ []) ≡ Ok (path ((0xC3 ∷ 0xA9 ∷ []) ∷ []))
unfolding path_of pieces_of is_element cleaned user_of without_final_period is_local_part is_suffix is_domain is_label is_utf8 chars encode
two_bytes_of_one_character = refl

-- what it does not
control_byte : path_of (codes "a@x.example/b/" ++ 7 ∷ []) ≡ Err (Element 14)
unfolding path_of pieces_of is_element cleaned user_of without_final_period is_local_part is_suffix is_domain is_label is_utf8 chars encode
control_byte = refl

dropped_control_byte : path_of (codes "a@x.example/b/" ++ 7 ∷ codes "/..") ≡ Err (Element 14)
unfolding path_of pieces_of is_element cleaned user_of without_final_period is_local_part is_suffix is_domain is_label is_utf8 chars encode
dropped_control_byte = refl

first_of_two_bad : path_of (codes "a@x.example/" ++ 31 ∷ codes "/" ++ 127 ∷ []) ≡ Err (Element 12)
unfolding path_of pieces_of is_element cleaned user_of without_final_period is_local_part is_suffix is_domain is_label is_utf8 chars encode
first_of_two_bad = refl

no_utf8 : path_of (codes "a@x.example/b/c" ++ 0xFF ∷ []) ≡ Err (Element 14)
unfolding path_of pieces_of is_element cleaned user_of without_final_period is_local_part is_suffix is_domain is_label is_utf8 chars encode
no_utf8 = refl

owner_first : path_of (codes "a/" ++ 7 ∷ []) ≡ Err (AtSigns 0)
unfolding path_of pieces_of is_element cleaned user_of without_final_period is_local_part is_suffix is_domain is_label is_utf8 chars encode
owner_first = refl

too_long : path_of (codes "a/" ++ replicate 4095 7) ≡ Err (TooLong 4097)
unfolding path_of pieces_of is_element cleaned user_of without_final_period is_local_part is_suffix is_domain is_label is_utf8 chars encode
too_long = refl

-- the canonical text
canonical_root : canonical (path []) ≡ codes "a@x.example/"
canonical_root = refl

canonical_text : canonical (path (codes "x" ∷ codes "z" ∷ [])) ≡ codes "a@x.example/x/z"
canonical_text = refl

-- under
under_itself : is_under (path (codes "b" ∷ [])) (path (codes "b" ∷ [])) ≡ true
under_itself = refl

under_the_root : is_under (path (codes "b" ∷ [])) (path []) ≡ true
under_the_root = refl

longer_name : is_under (path (codes "bc" ∷ [])) (path (codes "b" ∷ [])) ≡ false
longer_name = refl

other_owner : is_under (path (codes "b" ∷ [])) (record { owner = codes "b@x.example"; elements = [] }) ≡ false
other_owner = refl

-- up and down
root_has_no_parent : parent_of (path []) ≡ None
root_has_no_parent = refl

parent : parent_of (path (codes "b" ∷ codes "c" ∷ [])) ≡ Some (path (codes "b" ∷ []))
parent = refl

join_a_name : joined (path (codes "b" ∷ [])) (codes "c") ≡ Ok (path (codes "b" ∷ codes "c" ∷ []))
unfolding joined is_element is_utf8 chars encode
join_a_name = refl

join_nothing : joined (path []) [] ≡ Err (Element 0)
unfolding joined is_element is_utf8 chars encode
join_nothing = refl

join_dot : joined (path []) (codes ".") ≡ Err (Element 0)
unfolding joined is_element is_utf8 chars encode
join_dot = refl

join_dots : joined (path (codes "b" ∷ [])) (codes "..") ≡ Err (Element 0)
unfolding joined is_element is_utf8 chars encode
join_dots = refl

join_two_names : joined (path []) (codes "b/c") ≡ Err (Element 0)
unfolding joined is_element is_utf8 chars encode
join_two_names = refl

-- kinds of files
plain_access : control_of (path (codes "Access" ∷ [])) ≡ Access
plain_access = refl

group_folder : control_of (path (codes "Group" ∷ [])) ≡ Ordinary
group_folder = refl

group_file : control_of (path (codes "Group" ∷ codes "x" ∷ [])) ≡ Group
group_file = refl

access_of_groups : control_of (path (codes "Group" ∷ codes "Access" ∷ [])) ≡ Access
access_of_groups = refl

group_below : control_of (path (codes "a" ∷ codes "Group" ∷ codes "x" ∷ [])) ≡ Ordinary
group_below = refl

access_above : control_of (path (codes "Access" ∷ codes "x" ∷ [])) ≡ Ordinary
access_above = refl

-- the order of the texts is not that of the elements
text_order : path_cmp (path (codes "d!" ∷ [])) (path (codes "d" ∷ codes "x" ∷ [])) ≡ Less
text_order = refl

order_of_elements : parts_cmp (path (codes "d!" ∷ [])) (path (codes "d" ∷ codes "x" ∷ [])) ≡ Greater
order_of_elements = refl
