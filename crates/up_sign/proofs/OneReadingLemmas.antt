-- A message is cut at its spaces, and neither a host's name nor a canonical user has one.
use Rattle.std.proofs.Common.{◌≡◌, ◌==◌, ℕ, Bool, true, false, List, [], ◌∷◌, ◌++◌, drop, length, codes, Option, Some, Ok, refl, sym, ap, ◌∙◌, append_assoc, arith}
use Rattle.std.proofs.lemmas.Bool.Decides.{nat_tests}
use Rattle.std.proofs.lemmas.Bool.{and_parts}
use Rattle.std.specs.List.{after_first, before_first, list_all, list_any}
use Rattle.hex.specs.Hex.{IsBytes}
use Rattle.up_names.specs.UserNames.{user_of}
use Rattle.up_names.proofs.CutLemmas.{after_first-joined, before_first-joined, list_any-excluded}
use Rattle.up_names.proofs.UserLemmas.{is_user_byte, user-bytes}
use Rattle.up_refs.specs.References.{reference_in, text_of}
use Rattle.up_refs.proofs.Texts.{reference_in-text_of}
use Rattle.up_sign.specs.HostNames.{is_host_name, is_name_byte}
use Rattle.up_sign.specs.SigningOn.{message_of}
use Rattle.up_sign.specs.OneReading.{AreSameParts, HaveOneReading, SignedParts, message_made}

abbrev is_space : ℕ → Bool
is_space b = b == 32

name_byte : (b : ℕ) → is_name_byte b ≡ true → is_space b ≡ false
name_byte b h = grind (arith, nat_tests)

user_byte : (b : ℕ) → is_user_byte b ≡ true → is_space b ≡ false
user_byte b h = grind (arith, nat_tests)

host-no_space : (host : List ℕ) → is_host_name host ≡ true → list_any is_space host ≡ false
host-no_space host is = list_any-excluded is_name_byte is_space name_byte host (and_parts _ _ is).1

user-no_space : (user : List ℕ) → user_of user ≡ Ok user → list_any is_space user ≡ false
user-no_space user is = list_any-excluded is_user_byte is_space user_byte user (user-bytes user is)

-- texts that are the same up to their first space and behind it
record CutAlike (one other behind_one behind_other : List ℕ) : Type 0 where
  front : one ≡ other
  behind : behind_one ≡ behind_other

cut_alike : (one other x y : List ℕ) → list_any is_space one ≡ false → list_any is_space other ≡ false
    → one ++ 32 ∷ x ≡ other ++ 32 ∷ y → CutAlike one other x y
cut_alike one other x y none none' same = record {
  front = sym (before_first-joined is_space one 32 x none refl) ∙ ap (before_first is_space) same ∙ before_first-joined is_space other 32 y none' refl;
  behind = sym (after_first-joined is_space one 32 x none refl) ∙ ap (after_first is_space) same ∙ after_first-joined is_space other 32 y none' refl;
}

-- the message behind its first words
behind_words : (host user challenge : List ℕ) → drop 9 (message_of host user challenge) ≡ host ++ 32 ∷ (user ++ 32 ∷ text_of challenge)
behind_words host user challenge =
    ap (drop 9) (append_assoc (codes "upspin 1 " ++ host) (32 ∷ user) (32 ∷ text_of challenge) ∙ append_assoc (codes "upspin 1 ") host (32 ∷ (user ++ 32 ∷ text_of challenge)))

same_digits : (one other : List ℕ) → length one ≡ 32 → length other ≡ 32 → IsBytes one → IsBytes other → text_of one ≡ text_of other → one ≡ other
same_digits one other long long' bytes bytes' same =
    let read : Some one ≡ Some other = sym (reference_in-text_of one long bytes) ∙ ap reference_in same ∙ reference_in-text_of other long' bytes' in
    cc

pub have_one_reading : HaveOneReading
have_one_reading one other same =
    let behind = sym (behind_words one.host one.user one.challenge) ∙ ap (drop 9) same ∙ behind_words other.host other.user other.challenge in
    let hosts = cut_alike one.host other.host _ _ (host-no_space one.host one.named) (host-no_space other.host other.named) behind in
    let users = cut_alike one.user other.user _ _ (user-no_space one.user one.canonical) (user-no_space other.user other.canonical) hosts.behind in
    record {
      host = hosts.front;
      user = users.front;
      challenge = same_digits one.challenge other.challenge one.long other.long one.bytes other.bytes users.behind;
    }
