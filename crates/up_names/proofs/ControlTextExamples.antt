-- Worked examples of lines and words: they compute.
use Rattle.std.specs.Prelude.{◌≡◌, ◌++◌, ◌∷◌, [], codes, refl, true, false}
use Rattle.up_names.specs.ControlTexts.{control_lines, without_return, words_in, says_nothing}

-- the empty text has one line, which is empty
no_text : control_lines [] ≡ [] ∷ []
unfolding control_lines without_return
no_text = refl

-- a CR before an LF, and one at the end
returns_dropped : control_lines (codes "r:all" ++ 13 ∷ 10 ∷ codes "w:all" ++ 13 ∷ []) ≡ codes "r:all" ∷ codes "w:all" ∷ []
unfolding control_lines without_return
returns_dropped = refl

one_of_two_returns : control_lines (codes "r" ++ 13 ∷ 13 ∷ []) ≡ (codes "r" ++ 13 ∷ []) ∷ []
unfolding control_lines without_return
one_of_two_returns = refl

return_in_the_middle : control_lines (codes "r" ++ 13 ∷ codes ":all") ≡ (codes "r" ++ 13 ∷ codes ":all") ∷ []
unfolding control_lines without_return
return_in_the_middle = refl

return_before_a_comment : control_lines (codes "r:all" ++ 13 ∷ codes "#x") ≡ (codes "r:all" ++ 13 ∷ []) ∷ []
unfolding control_lines without_return
return_before_a_comment = refl

comments : control_lines (codes "r: bob # kin # all" ++ 10 ∷ codes "#") ≡ codes "r: bob " ∷ [] ∷ []
unfolding control_lines without_return
comments = refl

words : words_in (codes ", Bob@b.example," ++ 9 ∷ codes "fam  x,,") ≡ codes "Bob@b.example" ∷ codes "fam" ∷ codes "x" ∷ []
unfolding words_in
words = refl

no_words : words_in (codes " ,, ") ≡ []
unfolding words_in
no_words = refl

blanks : says_nothing (codes " " ++ 9 ∷ []) ≡ true
blanks = refl

a_comma : says_nothing (codes " , ") ≡ false
a_comma = refl
