-- The rights of words, word by word.
use Rattle.std.proofs.Common.{◌≡◌, ◌∙◌, ℕ, Bool, true, false, ◌||◌, List, ◌∷◌, ap, sym, refl, Option, Some, None, option_map}
use Rattle.std.specs.Option.{option_and_then}
use Rattle.up_names.specs.ControlTexts.{words_in}
use Rattle.up_rights.specs.RightSets.{Rights, both_rights}
use Rattle.up_rights.specs.Words.{rights_of}
use Rattle.up_access.specs.AccessTexts.{rights_in}

or_assoc : (a b c : Bool) → (a || (b || c)) ≡ ((a || b) || c)
or_assoc true b c = refl
or_assoc false b c = refl

both_rights-both : (set word more : Rights) → both_rights set (both_rights word more) ≡ both_rights (both_rights set word) more
both_rights-both set word more =
    rw (or_assoc set.read word.read more.read, or_assoc set.write word.write more.write, or_assoc set.list word.list more.list, or_assoc set.create word.create more.create, or_assoc set.delete word.delete more.delete) refl

moved : (set word : Rights) (found : Option Rights) → option_map (both_rights set) (option_map (both_rights word) found) ≡ option_map (both_rights (both_rights set word)) found
moved set word None = refl
moved set word (Some more) = ap Some (both_rights-both set word more)

-- a word that is a right
pub rights_in-word : (word : List ℕ) (words : List (List ℕ)) (rights : Rights) → Some rights ≡ rights_of word → rights_in (word ∷ words) ≡ option_map (both_rights rights) (rights_in words)
rights_in-word word words rights is = ap (option_and_then (λ found. option_and_then (λ more. Some (both_rights found more)) (rights_in words))) (sym is) ∙ mapped (rights_in words)
  where
    mapped : (found : Option Rights) → option_and_then (λ more. Some (both_rights rights more)) found ≡ option_map (both_rights rights) found
    mapped None = refl
    mapped (Some more) = refl

-- a word that is a right moves it to those before
pub rights_more : (line word after : List ℕ) (set rights : Rights) (meant : Option Rights) → words_in line ≡ word ∷ words_in after → Some rights ≡ rights_of word → option_map (both_rights set) (rights_in (words_in line)) ≡ meant → option_map (both_rights (both_rights set rights)) (rights_in (words_in after)) ≡ meant
rights_more line word after set rights meant words is all =
    sym (moved set rights (rights_in (words_in after)))
    ∙ ap (option_map (both_rights set)) (sym (ap rights_in words ∙ rights_in-word word (words_in after) rights is))
    ∙ all
