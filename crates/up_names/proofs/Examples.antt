-- Worked examples of the definitions: they compute.
use Rattle.std.specs.Prelude.{◌≡◌, [], codes, refl, Ok, Err}
use Rattle.up_names.specs.declared.fault.NameFault.TheVariants.{AtSigns, Suffix, Domain}
use Rattle.up_names.specs.UserNames.{user_of, without_final_period, is_local_part, is_suffix, is_domain, is_label}

suffixed_user : user_of (codes "Ann+x@EXAMPLE.COM.") ≡ Ok (codes "Ann+x@example.com")
unfolding user_of without_final_period is_local_part is_suffix is_domain is_label
suffixed_user = refl

one_label : user_of (codes "a@b") ≡ Err Domain
unfolding user_of without_final_period is_local_part is_suffix is_domain is_label
one_label = refl

short_last_label : user_of (codes "a@x.c") ≡ Err Domain
unfolding user_of without_final_period is_local_part is_suffix is_domain is_label
short_last_label = refl

two_suffixes : user_of (codes "a+b+c@x.example") ≡ Err Suffix
unfolding user_of without_final_period is_local_part is_suffix is_domain is_label
two_suffixes = refl

two_at_signs : user_of (codes "a@b@x.example") ≡ Err (AtSigns 2)
unfolding user_of without_final_period is_local_part is_suffix is_domain is_label
two_at_signs = refl

empty_user : user_of [] ≡ Err (AtSigns 0)
unfolding user_of without_final_period is_local_part is_suffix is_domain is_label
empty_user = refl
