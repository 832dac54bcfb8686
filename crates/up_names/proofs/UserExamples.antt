-- Worked examples of user names, at each of their limits: they compute.
use Rattle.std.specs.Prelude.{◌≡◌, ◌++◌, List, ℕ, codes, replicate, refl, Ok, Err}
use Rattle.up_names.specs.declared.fault.NameFault.TheVariants.{Domain, Local, Suffix, TooLong}
use Rattle.up_names.specs.UserNames.{user_of, without_final_period, is_local_part, is_suffix, is_domain, is_label}

-- so many times `a`
abbrev some : ℕ → List ℕ
some n = replicate n 97

local_part_of_64 : user_of (some 64 ++ codes "@x.example") ≡ Ok (some 64 ++ codes "@x.example")
unfolding user_of without_final_period is_local_part is_suffix is_domain is_label
local_part_of_64 = refl

local_part_of_65 : user_of (some 65 ++ codes "@x.example") ≡ Err Local
unfolding user_of without_final_period is_local_part is_suffix is_domain is_label
local_part_of_65 = refl

empty_local_part : user_of (codes "@x.example") ≡ Err Local
unfolding user_of without_final_period is_local_part is_suffix is_domain is_label
empty_local_part = refl

suffix_of_32 : user_of (codes "a+" ++ some 32 ++ codes "@x.example") ≡ Ok (codes "a+" ++ some 32 ++ codes "@x.example")
unfolding user_of without_final_period is_local_part is_suffix is_domain is_label
suffix_of_32 = refl

suffix_of_33 : user_of (codes "a+" ++ some 33 ++ codes "@x.example") ≡ Err Suffix
unfolding user_of without_final_period is_local_part is_suffix is_domain is_label
suffix_of_33 = refl

empty_suffix : user_of (codes "a+@x.example") ≡ Err Suffix
unfolding user_of without_final_period is_local_part is_suffix is_domain is_label
empty_suffix = refl

period_in_suffix : user_of (codes "a+b.c@x.example") ≡ Err Suffix
unfolding user_of without_final_period is_local_part is_suffix is_domain is_label
period_in_suffix = refl

label_of_63 : user_of (codes "a@" ++ some 63 ++ codes ".example") ≡ Ok (codes "a@" ++ some 63 ++ codes ".example")
unfolding user_of without_final_period is_local_part is_suffix is_domain is_label
label_of_63 = refl

label_of_64 : user_of (codes "a@" ++ some 64 ++ codes ".example") ≡ Err Domain
unfolding user_of without_final_period is_local_part is_suffix is_domain is_label
label_of_64 = refl

label_begins_with_hyphen : user_of (codes "a@-x.example") ≡ Err Domain
unfolding user_of without_final_period is_local_part is_suffix is_domain is_label
label_begins_with_hyphen = refl

label_ends_with_hyphen : user_of (codes "a@x-.example") ≡ Err Domain
unfolding user_of without_final_period is_local_part is_suffix is_domain is_label
label_ends_with_hyphen = refl

hyphens_within : user_of (codes "-a-@x--y.example") ≡ Ok (codes "-a-@x--y.example")
unfolding user_of without_final_period is_local_part is_suffix is_domain is_label
hyphens_within = refl

two_final_periods : user_of (codes "a@x.example..") ≡ Err Domain
unfolding user_of without_final_period is_local_part is_suffix is_domain is_label
two_final_periods = refl

-- a user of so many bytes more than 226
abbrev long : ℕ → List ℕ
long n = some 64 ++ codes "+" ++ some 32 ++ codes "@" ++ some 63 ++ codes "." ++ some 63 ++ codes "." ++ some n

user_of_254 : user_of (long 28 ++ codes ".") ≡ Ok (long 28)
unfolding user_of without_final_period is_local_part is_suffix is_domain is_label
user_of_254 = refl

user_of_255 : user_of (long 29) ≡ Err (TooLong 255)
unfolding user_of without_final_period is_local_part is_suffix is_domain is_label
user_of_255 = refl
