-- The lines of a reply are its first one, and those behind it.
use Rattle.std.proofs.Common.{◌≡◌, ◌≢◌, ◌∙◌, ◌<◌, List, [], ◌∷◌, ◌++◌, length, map, drop, codes, Result, Ok, Err, OnOk, refl, sym, ap, append_assoc, append-nil, arith}
use Rattle.std.specs.List.{flat_map}
use Rattle.up_names.specs.Texts.{Text}
use Rattle.up_text.specs.Lines.{spaced}
use Rattle.up_text.specs.Replies.{first_text, line_behind, reply_lines, reply_words}
use Rattle.up_wire.specs.declared.replies.Reply.{Reply}
use Rattle.up_wire.specs.declared.replies.Reply.TheVariants as reply

-- what follows from what a call promises where it succeeds
pub then_ok : {X E P Q : Type 0} (result : Result X E) → (P → Q) → OnOk result P → OnOk result Q
then_ok (Ok x) follows promised = follows promised
then_ok (Err e) follows promised = tt

-- each reply but want of memory has a line
pub has_lines : (given : Reply) → given ≢ reply.OutOfMemory → 0 < length (reply_words given)
unfolding reply_words
has_lines (reply.Ok d) other = omega arith
has_lines (reply.Invalid w) other = omega arith
has_lines reply.WrongHost other = omega arith
has_lines (reply.FollowLink entry) other = omega arith
has_lines reply.Private other = omega arith
has_lines (reply.Permission right) other = omega arith
has_lines reply.NotExist other = omega arith
has_lines reply.NotDir other = omega arith
has_lines reply.IsDir other = omega arith
has_lines reply.Exist other = omega arith
has_lines (reply.BadSequence current) other = omega arith
has_lines reply.NotEmpty other = omega arith
has_lines (reply.BadBlock reference) other = omega arith
has_lines (reply.BadText line) other = omega arith
has_lines (reply.TooLarge size) other = omega arith
has_lines (reply.Full records) other = omega arith
has_lines reply.Io other = omega arith
has_lines reply.OutOfMemory other = absurd (other refl)

-- ---- line by line

cut_lines : (all : List (List Text)) → 0 < length all → map (λ words. spaced words) all ≡ first_text all ∷ map (λ words. spaced words) (drop 1 all)
cut_lines [] some = absurd (omega (arith, some))
cut_lines (words ∷ more) some = refl

pub all_added : (given : Reply) (old one new : List Text) (line : Text) → given ≢ reply.OutOfMemory → line ≡ first_text (reply_words given) → one ≡ old ++ line ∷ [] → new ≡ one ++ map (λ words. spaced words) (drop 1 (reply_words given))
    → new ≡ old ++ map (λ words. spaced words) (reply_words given)
all_added given old one new line other line_is one_is new_is =
    let rest = map (λ words. spaced words) (drop 1 (reply_words given)) in
    new_is ∙ ap (λ l. l ++ rest) (one_is ∙ ap (λ t. old ++ t ∷ []) line_is) ∙ append_assoc old (first_text (reply_words given) ∷ []) rest
    ∙ ap (λ l. old ++ l) (sym (cut_lines (reply_words given) (has_lines given other)))

pub none_added : (given : Reply) (old : List Text) → given ≡ reply.OutOfMemory → old ≡ old ++ map (λ words. spaced words) (reply_words given)
unfolding reply_words
none_added given old is = sym (ap (λ r. old ++ map (λ words. spaced words) (reply_words r)) is ∙ append-nil old)

-- ---- in one text

behind_each : (front : Text) (all : List (List Text)) → flat_map (line_behind front) (map (λ words. spaced words) all) ≡ flat_map (λ words. line_behind front (spaced words)) all
behind_each front [] = refl
behind_each front (words ∷ more) = ap (λ rest. line_behind front (spaced words) ++ rest) (behind_each front more)

cut_text : (front : Text) (all : List (List Text)) → 0 < length all
    → flat_map (line_behind front) (map (λ words. spaced words) all) ≡ line_behind front (first_text all) ++ flat_map (λ words. line_behind front (spaced words)) (drop 1 all)
cut_text front [] some = absurd (omega (arith, some))
cut_text front (words ∷ more) some = ap (λ rest. line_behind front (spaced words) ++ rest) (behind_each front more)

five : (a b c d e : Text) → (((a ++ b) ++ c) ++ d) ++ e ≡ a ++ ((b ++ (c ++ d)) ++ e)
five a b c d e =
    append_assoc ((a ++ b) ++ c) d e ∙ append_assoc (a ++ b) c (d ++ e) ∙ append_assoc a b (c ++ (d ++ e))
    ∙ ap (λ t. a ++ t) (sym (append_assoc b (c ++ d) e ∙ ap (λ t. b ++ t) (append_assoc c d e)))

pub all_pushed : (front : Text) (given : Reply) (old one two three four : Text) → given ≢ reply.OutOfMemory → one ≡ old ++ front → two ≡ one ++ first_text (reply_words given) → three ≡ two ++ 10 ∷ []
    → four ≡ three ++ flat_map (λ words. line_behind front (spaced words)) (drop 1 (reply_words given)) → four ≡ old ++ flat_map (line_behind front) (reply_lines given)
unfolding reply_lines
all_pushed front given old one two three four other one_is two_is three_is four_is =
    let first = first_text (reply_words given) in
    let rest = flat_map (λ words. line_behind front (spaced words)) (drop 1 (reply_words given)) in
    four_is ∙ ap (λ t. t ++ rest) (three_is ∙ ap (λ t. t ++ 10 ∷ []) (two_is ∙ ap (λ t. t ++ first) one_is))
    ∙ five old front first (10 ∷ []) rest ∙ ap (λ t. old ++ t) (sym (cut_text front (reply_words given) (has_lines given other)))

pub none_pushed : (front : Text) (given : Reply) (old : Text) → given ≡ reply.OutOfMemory → old ≡ old ++ flat_map (line_behind front) (reply_lines given)
unfolding reply_lines reply_words
none_pushed front given old is = sym (ap (λ r. old ++ flat_map (line_behind front) (reply_lines r)) is ∙ append-nil old)
