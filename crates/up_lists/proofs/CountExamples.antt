-- Worked examples of the definitions.
use Rattle.std.proofs.Common.{◌≡◌, ◌-◌, ◌^◌, true, false, [], ◌∷◌, refl}
use Rattle.up_lists.specs.Counts.{count_after}
use Rattle.up_lists.specs.Calls.{CallPlan, after_call, fails_next, no_call_made}

count_goes_on : count_after 3 2 ≡ 5
count_goes_on = refl

count_stops_at_its_end : count_after (2 ^ 64 - 2) 7 ≡ 2 ^ 64 - 1
count_stops_at_its_end = refl

count_stays_at_its_end : count_after (2 ^ 64 - 1) 1 ≡ 2 ^ 64 - 1
count_stays_at_its_end = refl

abbrev first_and_third : CallPlan
first_and_third = no_call_made (0 ∷ 2 ∷ [])

first_call_fails : fails_next first_and_third ≡ true
first_call_fails = refl

second_call_does_not : fails_next (after_call first_and_third true) ≡ false
second_call_does_not = refl

third_call_fails : fails_next (after_call (after_call first_and_third true) false) ≡ true
third_call_fails = refl

each_call_is_counted : after_call (after_call first_and_third true) false ≡ record first_and_third { made = 2; faults = 1 }
each_call_is_counted = refl
