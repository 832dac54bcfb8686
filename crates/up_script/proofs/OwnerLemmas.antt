-- What is known of the owners of a host's trees, and of a key, by the tests that they passed.
use Rattle.std.proofs.Common.{◌≡◌, ◌≤◌, true, false, List, length}
use Rattle.std.proofs.lemmas.Bool.{and_parts, leb-true}
use Rattle.std.specs.List.{AllByRecursion, IsDistinct, list_all}
use Rattle.std.specs.Prelude.{nat_le, not}
use Rattle.std.specs.Str.{bytes_eq}
use Rattle.up_names.specs.Texts.{UserName}
use Rattle.up_policy.specs.Trees.{owns_snapshots}
use Rattle.up_command.proofs.UserLemmas.{all_fail, different}
use Rattle.up_command.specs.Users.{are_different}
use Rattle.up_script_lines.specs.ScriptLines.{are_owners}

pub owners_few : (owners : List UserName) → are_owners owners ≡ true → length owners ≤ 8
owners_few owners is = leb-true (length owners) 8 (and_parts (nat_le (length owners) 8) _ (and_parts _ (are_different owners) is).0).0

-- no owner is a snapshot user
pub owners_plain : (owners : List UserName) → are_owners owners ≡ true → AllByRecursion (λ owner. owns_snapshots owner ≡ false) owners
owners_plain owners is = all_fail owns_snapshots owners (and_parts (nat_le (length owners) 8) (list_all (λ owner. not (owns_snapshots owner)) owners) (and_parts _ (are_different owners) is).0).1

-- no owner stands twice
pub owners_distinct : (owners : List UserName) → are_owners owners ≡ true → IsDistinct bytes_eq owners
owners_distinct owners is = different owners (and_parts _ (are_different owners) is).1
