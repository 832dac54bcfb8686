-- A host's name is of ASCII.
use Rattle.std.proofs.Common.{◌≡◌, ◌<◌, ℕ, true, List, arith}
use Rattle.std.proofs.lemmas.Bool.Decides.{nat_tests}
use Rattle.std.proofs.lemmas.Bool.{and_parts}
use Rattle.std.proofs.lemmas.List.Sums.{AllPass-from_list_all}
use Rattle.std.proofs.lemmas.List.Elements.{All-weaker}
use Rattle.std.proofs.lemmas.Str.Ascii.{IsAscii-from_all}
use Rattle.std.specs.Str.{IsAscii}
use Rattle.up_sign.specs.HostNames.{is_host_name, is_name_byte}

small : (b : ℕ) → is_name_byte b ≡ true → b < 128
small b h = grind (arith, nat_tests)

pub IsAscii-host_name : (word : List ℕ) → is_host_name word ≡ true → IsAscii word
IsAscii-host_name word is =
    IsAscii-from_all word (All-weaker (λ b. is_name_byte b ≡ true) (λ b. b < 128) small word (AllPass-from_list_all is_name_byte word (and_parts _ _ is).1))
