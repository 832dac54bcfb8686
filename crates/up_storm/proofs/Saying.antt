-- Texts that are added one after the other: what is said and what is left make the whole.
use Rattle.std.proofs.Common.{◌≡◌, ℕ, zero, suc, ◌+◌, ◌*◌, ◌<◌, ◌≤◌, List, [], ◌∷◌, ◌++◌, length, drop, refl, sym, ap, subst, ◌∙◌, append_assoc, append-nil, arith, slice_get, Some, None}
use Rattle.std.specs.Prelude.{codes, decimal, OnOk, Result, Ok, Err}
use Rattle.std.specs.List.{AllByRecursion}
use Rattle.up_command.specs.Printed.{ended}
use Rattle.up_entry.specs.declared.entries.Entry.{Entry}
use Rattle.up_entry.specs.declared.records.Rec.{Rec}
use Rattle.up_names.specs.Texts.{Text}
use Rattle.up_storm.specs.Telling.{IsFew, all_counted, both_counted, none_counted, record_words, records_text, sessions_text, total}
use Rattle.up_storm.specs.declared.session.Said.{Said}
use Rattle.up_storm.specs.declared.tally.Tally.{Tally}
use Rattle.up_log_tree.specs.Changes.{record_at}
use Rattle.up_text.specs.Entries.{entry_words}
use Rattle.up_text.specs.Lines.{behind_spaces, spaced}
use Rattle.up_text.specs.Replies.{done_words, further_words, reply_lines, reply_words}
use Rattle.up_wire.specs.declared.replies.Done.TheVariants as done
use Rattle.up_wire.specs.declared.replies.Reply.TheVariants as reply

some_is : {X : Type 0} (x y : X) → Some x ≡ Some y → x ≡ y
some_is x y h = cc

none_some : {X : Type 0} (x : X) → None ≡ Some x → ⊥
none_some x h = cc

-- what is behind a place begins with what is there
pub drop_next : {X : Type 0} (xs : List X) (n : ℕ) (x : X) → slice_get xs n ≡ Some x → drop n xs ≡ x ∷ drop (n + 1) xs
drop_next [] n x h = cc
drop_next (y ∷ xs) zero x h = cc
drop_next (y ∷ xs) (suc n) x h = let e : suc n + 1 ≡ suc (n + 1) = omega arith in drop_next xs n x h ∙ ap (λ (m : ℕ). x ∷ drop m (y ∷ xs)) (sym e)

pub drop_end : {X : Type 0} (xs : List X) → drop (length xs) xs ≡ []
drop_end [] = refl
drop_end (x ∷ xs) = drop_end xs

-- the record behind the first n
record_found : (log : List Rec) (n : ℕ) (rec : Rec) → record_at log (n + 1) ≡ Some rec → slice_get log n ≡ Some rec
record_found log n rec is = let e : n + 1 ≡ suc n = omega arith in sym (ap (record_at log) e) ∙ is

get_there : {X : Type 0} (xs : List X) (n : ℕ) → n < length xs → slice_get xs n ≡ None → ⊥
get_there [] n less h = absurd (omega (arith, less))
get_there (x ∷ xs) zero less h = none_some x (sym h)
get_there (x ∷ xs) (suc n) less h = get_there xs n (omega (arith, less)) h

pub record_there : (log : List Rec) (n : ℕ) → n < length log → None ≡ record_at log (n + 1) → ⊥
record_there log n less h = let e : n + 1 ≡ suc n = omega arith in get_there log n less (sym (ap (record_at log) e) ∙ sym h)

-- one more record was said
pub records_next : (log : List Rec) (n : ℕ) (rec : Rec) (before after whole : Text) → record_at log (n + 1) ≡ Some rec
    → after ≡ before ++ ended (spaced (record_words (n + 1) rec)) → before ++ records_text n (drop n log) ≡ whole → after ++ records_text (n + 1) (drop (n + 1) log) ≡ whole
records_next log n rec before after whole at one h =
    ap (λ (t : Text). t ++ records_text (n + 1) (drop (n + 1) log)) one
    ∙ append_assoc before (ended (spaced (record_words (n + 1) rec))) (records_text (n + 1) (drop (n + 1) log))
    ∙ ap (λ (rest : List Rec). before ++ records_text n rest) (sym (drop_next log n rec (record_found log n rec at)))
    ∙ h

-- the reply that has an entry has one line
pub entry_told : (entry : Entry) → reply_lines (reply.Ok (done.Entry entry)) ≡ (codes "entry" ++ behind_spaces (entry_words entry)) ∷ []
unfolding reply_lines reply_words done_words further_words
entry_told entry = refl

-- what a Put adds: its position, the keyword, and the entry's words
pub put_said : (old : Text) (n : ℕ) (entry : Entry)
    → ((old ++ (decimal n ++ codes " ")) ++ codes "put") ++ ended (behind_spaces (entry_words entry) ++ []) ≡ old ++ ended (spaced (decimal n ∷ codes "put" ∷ entry_words entry))
put_said old n entry =
    let words : Text = behind_spaces (entry_words entry) in
    append_assoc (old ++ (decimal n ++ codes " ")) (codes "put") (ended (words ++ []))
    ∙ append_assoc old (decimal n ++ codes " ") (codes "put" ++ ended (words ++ []))
    ∙ ap (λ (t : Text). old ++ t) (append_assoc (decimal n) (codes " ") (codes "put" ++ ended (words ++ []))
    ∙ ap (λ (t : Text). decimal n ++ (codes " put" ++ ended t)) (append-nil words)
    ∙ sym (append_assoc (decimal n) (codes " put" ++ words) (codes "\n")))

pub records_all : (log : List Rec) (n : ℕ) (text whole : Text) → n ≡ length log → text ++ records_text n (drop n log) ≡ whole → text ≡ whole
records_all log n text whole end h =
    sym (append-nil text) ∙ ap (λ (rest : List Rec). text ++ records_text n rest) (sym (ap (λ (m : ℕ). drop m log) end ∙ drop_end log)) ∙ h

-- one more session was told
pub sessions_next : (said : List Said) (k : ℕ) (one : Said) (before after whole : Text) → slice_get said k ≡ Some one
    → after ≡ before ++ (ended (codes "session " ++ decimal k) ++ one.text) → before ++ sessions_text k (drop k said) ≡ whole → after ++ sessions_text (k + 1) (drop (k + 1) said) ≡ whole
sessions_next said k one before after whole at told h =
    ap (λ (t : Text). t ++ sessions_text (k + 1) (drop (k + 1) said)) told
    ∙ append_assoc before (ended (codes "session " ++ decimal k) ++ one.text) (sessions_text (k + 1) (drop (k + 1) said))
    ∙ ap (λ (rest : List Said). before ++ sessions_text k rest) (sym (drop_next said k one at))
    ∙ h

pub sessions_all : (said : List Said) (k : ℕ) (text whole : Text) → k ≡ length said → text ++ sessions_text k (drop k said) ≡ whole → text ≡ whole
sessions_all said k text whole end h =
    sym (append-nil text) ∙ ap (λ (rest : List Said). text ++ sessions_text k rest) (sym (ap (λ (m : ℕ). drop m said) end ∙ drop_end said)) ∙ h

-- the replies of one session more were counted
abbrev record_of : ℕ → ℕ → ℕ → Tally
record_of a b c = record { ok = a; notexist = b; private = c }

tally_same : (a b c d e f : ℕ) → a ≡ d → b ≡ e → c ≡ f → record_of a b c ≡ record_of d e f
tally_same a b c d e f p q r = cc

both_assoc : (t u v : Tally) → both_counted (both_counted t u) v ≡ both_counted t (both_counted u v)
both_assoc t u v =
    let p : t.ok + u.ok + v.ok ≡ t.ok + (u.ok + v.ok) = omega arith in
    let q : t.notexist + u.notexist + v.notexist ≡ t.notexist + (u.notexist + v.notexist) = omega arith in
    let r : t.private + u.private + v.private ≡ t.private + (u.private + v.private) = omega arith in
    tally_same _ _ _ _ _ _ p q r

both_none : (t : Tally) → both_counted t none_counted ≡ t
both_none t =
    let p : t.ok + 0 ≡ t.ok = omega arith in
    let q : t.notexist + 0 ≡ t.notexist = omega arith in
    let r : t.private + 0 ≡ t.private = omega arith in
    tally_same _ _ _ _ _ _ p q r

pub counted_next : (said : List Said) (i : ℕ) (one : Said) (all whole : Tally) → slice_get said i ≡ Some one → both_counted all (all_counted (drop i said)) ≡ whole
    → both_counted (both_counted all one.tally) (all_counted (drop (i + 1) said)) ≡ whole
counted_next said i one all whole at h =
    both_assoc all one.tally (all_counted (drop (i + 1) said)) ∙ ap (λ (rest : List Said). both_counted all (all_counted rest)) (sym (drop_next said i one at)) ∙ h

pub counted_all : (said : List Said) (i : ℕ) (all whole : Tally) → i ≡ length said → both_counted all (all_counted (drop i said)) ≡ whole → all ≡ whole
counted_all said i all whole end h =
    sym (both_none all) ∙ ap (λ (rest : List Said). both_counted all (all_counted rest)) (sym (ap (λ (m : ℕ). drop m said) end ∙ drop_end said)) ∙ h

pub few_at : (said : List Said) (i : ℕ) (one : Said) → AllByRecursion (λ (s : Said). IsFew 4096 s.tally) said → slice_get said i ≡ Some one → IsFew 4096 one.tally
few_at [] i one few h = absurd (none_some one h)
few_at (s ∷ said) zero one few h = subst (λ (x : Said). IsFew 4096 x.tally) (some_is s one h) few.0
few_at (s ∷ said) (suc i) one few h = few_at said i one few.1 h

pub few_next : (said : List Said) (i : ℕ) (one : Said) (all : Tally) → AllByRecursion (λ (s : Said). IsFew 4096 s.tally) said → slice_get said i ≡ Some one
    → total all ≤ i * 4096 → total (both_counted all one.tally) ≤ (i + 1) * 4096
few_next said i one all few at h = let more = few_at said i one few at in omega (arith, more, h)

-- 32 sessions of 4,096 requests are no more than a number of 64 bits holds
product_le : (a b : ℕ) → b ≤ 4096 → a * b ≤ a * 4096
product_le zero b h = omega arith
product_le (suc a) b h = let rest = product_le a b h in omega (arith, rest, h)

pub product_below : (a b : ℕ) → a ≤ 32 → b ≤ 4096 → a * b ≤ 131072
product_below a b h k = let less = product_le a b k in omega (arith, less, h)

-- what holds of an Ok, and follows from what held
pub on_ok_then : {A E : Type 0} (r : Result A E) (P Q : Type 0) → (P → Q) → OnOk r P → OnOk r Q
on_ok_then (Ok a) P Q f h = f h
on_ok_then (Err e) P Q f h = h
