-- Access texts (Upspin access control document). Lines that grant nobody are this project's own.
use Rattle.std.specs.Prelude.{ℕ, Bool, ◌==◌, not, if◌then◌else◌, List, [], ◌∷◌, map, Option, Some, None}
use Rattle.std.specs.Prelude.{option_map, option_and_then, Result}
use Rattle.std.specs.List.{list_any, before_first, after_first}
use Rattle.std.specs.Str.{byte}
use Rattle.up_names.specs.Texts.{Text, UserName}
use Rattle.up_names.specs.declared.fault.TextFault.{TextFault}
use Rattle.up_names.specs.ControlTexts.{control_lines, words_in, says_nothing}
use Rattle.up_names.specs.ItemLists.{items_in}
use Rattle.up_names.specs.TextMeanings.{meaning_of}
use Rattle.up_rights.specs.RightSets.{Rights, no_rights, both_rights}
use Rattle.up_rights.specs.Words.{rights_of}
use Rattle.up_access.specs.declared.Rule.{Rule}

infixl 10 ◌>>=◌
-- what comes next, where the first was found
abbrev pub ◌>>=◌ : {A B : Type 0} → Option A → (A → Option B) → Option B
found >>= next = option_and_then next found

-- the byte `:`
abbrev pub is_colon : ℕ → Bool
is_colon b = b == byte ":"

-- the rights that words stand for, all of them together; none where one of the words is no right
abbrev pub rights_in : List Text → Option Rights
rights_in [] = Some no_rights
rights_in (word ∷ words) = do
  rights ← rights_of word
  more ← rights_in words
  Some (both_rights rights more)

-- the rights that words grant: there is at least one word, and each is a right
abbrev pub granted_by : List Text → Option Rights
granted_by [] = None
granted_by (word ∷ words) = rights_in (word ∷ words)

-- The rule that a line says: it has a `:`, the first of which parts rights from names. There is at least one right, and
-- perhaps no name; a line with a word that is no right, or names no item, is bad.
unfoldable pub rule_of : UserName → Text → Option Rule
rule_of owner line =
    if not (list_any is_colon line) then None else do
      rights ← granted_by (words_in (before_first is_colon line))
      items ← items_in owner (words_in (after_first is_colon line))
      Some (record { rights = rights; items = items })

-- the rules of a line: none where it says nothing, else one, or the line is bad
unfoldable pub rules_in : UserName → Text → Option (List Rule)
rules_in owner line = if says_nothing line then Some [] else option_map (λ rule. rule ∷ []) (rule_of owner line)

-- What an Access text in this owner's tree stands for: the rules of all lines, in order, or, where a line is bad, its
-- number, the first such from 1.
unfoldable pub access_of : UserName → Text → Result (List Rule) TextFault
access_of owner text = meaning_of (map (rules_in owner) (control_lines text))
