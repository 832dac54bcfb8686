-- The length of the name of a snapshot user.
use Rattle.std.proofs.Common.{◌≡◌, ℕ, ◌+◌, Bool, true, false, List, ◌∷◌, ◌++◌, length, refl, sym, ap, ◌∙◌, arith, Ok, leb-true, leb-false}
use Rattle.std.specs.Prelude.{codes, nat_le}
use Rattle.std.proofs.lemmas.Bool.{le-leb, lt-leb}
use Rattle.std.proofs.lemmas.List.{length-append}
use Rattle.up_names.specs.UserNames.{domain_part, name_part, user_of}
use Rattle.up_names.proofs.UserLemmas.{parts-of_user}
use Rattle.up_log_tree.specs.Fits.{snapshot_user}

length_of : (user : List ℕ) → user_of user ≡ Ok user → length (snapshot_user user) ≡ length user + 9
length_of user is =
    let parts = ap length (parts-of_user user is).1 in
    let own = length-append (name_part user) (64 ∷ domain_part user) in
    let longer : length (snapshot_user user) ≡ length (name_part user ++ codes "+snapshot") + length (64 ∷ domain_part user) = length-append (name_part user ++ codes "+snapshot") (64 ∷ domain_part user) in
    let first : length (name_part user ++ codes "+snapshot") ≡ length (name_part user) + 9 = length-append (name_part user) (codes "+snapshot") in
    omega (arith, parts, own, longer, first)

shifted : (n : ℕ) → nat_le n 245 ≡ nat_le (n + 9) 254
shifted n = go (nat_le n 245) refl
  where
    go : (b : Bool) → nat_le n 245 ≡ b → nat_le n 245 ≡ nat_le (n + 9) 254
    go true is = is ∙ sym (le-leb (n + 9) 254 (omega (arith, leb-true n 245 is)))
    go false is = is ∙ sym (lt-leb (n + 9) 254 (omega (arith, leb-false n 245 is)))

-- a name that has room for the suffix
pub has_room : (user : List ℕ) → user_of user ≡ Ok user → nat_le (length user) 245 ≡ nat_le (length (snapshot_user user)) 254
has_room user is = shifted (length user) ∙ ap (λ n. nat_le n 254) (sym (length_of user is))
