-- The items of a line, word by word.
use Rattle.std.proofs.Common.{◌≡◌, ◌∙◌, ℕ, List, [], ◌∷◌, ◌++◌, ap, sym, refl, Option, Some, None, option_map, append_assoc}
use Rattle.std.proofs.lemmas.List.{append-nil}
use Rattle.up_names.specs.declared.items.Item.{Item}
use Rattle.up_names.specs.ControlTexts.{words_in}
use Rattle.up_names.specs.ItemNames.{item_of}
use Rattle.up_names.specs.ItemLists.{items_in}

pub items_in-good : (owner word : List ℕ) (words : List (List ℕ)) (item : Item) → item_of owner word ≡ Some item → items_in owner (word ∷ words) ≡ option_map (λ items. item ∷ items) (items_in owner words)
unfolding items_in
items_in-good owner word words item is = rw is refl

pub items_in-bad : (owner word : List ℕ) (words : List (List ℕ)) → item_of owner word ≡ None → items_in owner (word ∷ words) ≡ None
unfolding items_in
items_in-bad owner word words is = rw is refl

pub items_in-end : (owner : List ℕ) → items_in owner [] ≡ Some []
unfolding items_in
items_in-end owner = refl

moved : (before : List Item) (item : Item) (found : Option (List Item)) → option_map (λ items. before ++ items) (option_map (λ items. item ∷ items) found) ≡ option_map (λ items. (before ++ item ∷ []) ++ items) found
moved before item None = refl
moved before item (Some items) = ap Some (sym (append_assoc before (item ∷ []) items))

-- a word that names an item moves it to those before
pub items_more : (owner line word after : List ℕ) (item : Item) (before : List Item) (meant : Option (List Item)) → words_in line ≡ word ∷ words_in after → Some item ≡ item_of owner word → option_map (λ found. before ++ found) (items_in owner (words_in line)) ≡ meant → option_map (λ found. (before ++ item ∷ []) ++ found) (items_in owner (words_in after)) ≡ meant
items_more owner line word after item before meant words names all =
    sym (moved before item (items_in owner (words_in after)))
    ∙ ap (option_map (λ found. before ++ found)) (sym (ap (items_in owner) words ∙ items_in-good owner word (words_in after) item (sym names)))
    ∙ all

-- a word that names none spoils the line
pub items_spoilt : (owner line word after : List ℕ) (before : List Item) (meant : Option (List Item)) → words_in line ≡ word ∷ words_in after → None ≡ item_of owner word → option_map (λ found. before ++ found) (items_in owner (words_in line)) ≡ meant → meant ≡ None
items_spoilt owner line word after before meant words names all =
    sym all ∙ ap (option_map (λ found. before ++ found)) (ap (items_in owner) words ∙ items_in-bad owner word (words_in after) (sym names))

-- where no word is left, these are all
pub items_all : (owner line : List ℕ) (before : List Item) (meant : Option (List Item)) → words_in line ≡ [] → option_map (λ found. before ++ found) (items_in owner (words_in line)) ≡ meant → meant ≡ Some before
items_all owner line before meant words all =
    sym all ∙ ap (option_map (λ found. before ++ found)) (ap (items_in owner) words ∙ items_in-end owner) ∙ ap Some (append-nil before)
