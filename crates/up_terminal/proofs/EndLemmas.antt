-- What the status of a session says.
use Rattle.std.proofs.Common.{◌≡◌, ◌≢◌, ◌≤◌, ◌<◌, ◌==◌, ◌||◌, ◌⊎◌, inl, inr, ℕ, Bool, true, false, List, [], ◌∷◌, ◌++◌, length, cond, not, Option, Some, None, Result, Ok, Err, refl, sym, ap, subst, ◌∙◌, append_assoc, append-nil, length-append, arith}
use Rattle.std.specs.Prelude.{IfSome, IsErrOf, is_some, if◌then◌else◌}
use Rattle.std.specs.List.{AllByRecursion, after_first, before_first, list_any, onto_first, slice_split}
use Rattle.std.proofs.lemmas.Bool.{cases_eq, ne_eqb}
use Rattle.std.proofs.lemmas.List.Sums.{prefix_len-le-length}
use Rattle.std.proofs.lemmas.List.Splits.{slice_split-cons_no, slice_split-cons_yes}
use Rattle.up_command.specs.Statuses.{IsOneOf, is_cut}
use Rattle.up_lists.specs.Counts.{HasCause, Rose}
use Rattle.up_lists.proofs.Causes.{HasCause-weaker}
use Rattle.up_names.specs.Texts.{Text, UserName}
use Rattle.up_text.specs.Lines.{is_line_end, script_lines, without_empty_last}
use Rattle.up_wire.specs.declared.replies.Reply.{Reply}
use Rattle.up_wire.specs.declared.requests.Request.{Request}
use Rattle.up_terminal.proofs.InputLemmas.{Means-none}
use Rattle.up_terminal.proofs.CutLemmas.{IsUnbroken, before_is_unbroken, before_none, cut_at, length-before, lines_cons, lines_front, lines_last, lines_none, no_cut, unbroken_append}
use Rattle.up_terminal.specs.Lines.{IsGoodLine, IsLine, cut_text, line_of, lines_text}
use Rattle.up_terminal.specs.Runs.{Ends, Means, Ran, read_limit}
use Rattle.up_terminal.specs.Sessions.{code_by, stopped_code}
use Rattle.up_terminal.specs.declared.stop.LineStop.TheVariants as stops
use Rattle.up_terminal.specs.declared.stop.Stop.{Stop}
use Rattle.up_terminal.specs.declared.stop.Stop.TheVariants as stop

-- ---- the status that a session ends with

-- each is one way to end
abbrev ending_of : ℕ → Result (Unit {0}) Stop
ending_of n =
    if n == 0 then Ok tt
    else if n == 1 then Err stop.BadLine
    else if n == 2 then Err stop.ReadFault
    else if n == 3 then Err stop.WriteFault
    else if n == 4 then Err stop.OutOfMemory
    else if n == 7 then Err stop.TooLong
    else Err stop.AskFault

ending_again : (result : Result (Unit {0}) Stop) → ending_of (code_by result) ≡ result
ending_again (Ok done) = refl
ending_again (Err stop.BadLine) = refl
ending_again (Err stop.ReadFault) = refl
ending_again (Err stop.WriteFault) = refl
ending_again (Err stop.OutOfMemory) = refl
ending_again (Err stop.TooLong) = refl
ending_again (Err stop.AskFault) = refl

pub code_is : (result : Result (Unit {0}) Stop) (why : Stop) → code_by result ≡ stopped_code why → IsErrOf result why
code_is result why is = sym (ending_again result) ∙ ap ending_of is ∙ ending_again (Err why)

-- a fault of a session is a fault of the command
pub cause_by : (before now : ℕ) (result : Result (Unit {0}) Stop) (why : Stop) (status : ℕ) → status ≡ code_by result → HasCause before now (IsErrOf result why) → HasCause before now (status ≡ stopped_code why)
cause_by before now result why status same cause = HasCause-weaker before now (IsErrOf result why) (status ≡ stopped_code why) cause (λ is. code_is result why (sym same ∙ is))

-- what holds of the user of words that name one
pub of_user : (found : Option UserName) (user : UserName) (P : UserName → Type 0) → found ≡ Some user → P user → IfSome found P
of_user found user P is holds = subst (λ (one : Option UserName). IfSome one P) (sym is) holds

-- ---- where all lines are good

all-at : (P : Text → Type 0) (done : List Text) (line : Text) (more : List Text) → AllByRecursion P (done ++ line ∷ more) → P line
all-at P [] line more each = each.0
all-at P (first ∷ done) line more each = all-at P done line more each.1

-- no LF stands in the lines of a text
onto_unbroken : (b : ℕ) (pieces : List Text) → is_line_end b ≡ false → AllByRecursion IsUnbroken pieces → AllByRecursion IsUnbroken (onto_first b pieces)
onto_unbroken b [] e each = (ap (λ t. t || false) e, tt)
onto_unbroken b (piece ∷ pieces) e each = (ap (λ t. t || list_any is_line_end piece) e ∙ each.0, each.1)

split_unbroken : (text : Text) → AllByRecursion IsUnbroken (slice_split is_line_end text)
split_unbroken [] = (refl, tt)
split_unbroken (b ∷ text) = by (is_line_end b) refl (split_unbroken text)
  where
    by : (t : Bool) → is_line_end b ≡ t → AllByRecursion IsUnbroken (slice_split is_line_end text) → AllByRecursion IsUnbroken (slice_split is_line_end (b ∷ text))
    by true e rest = subst (AllByRecursion IsUnbroken) (sym (slice_split-cons_yes is_line_end b text e)) (refl, rest)
    by false e rest = subst (AllByRecursion IsUnbroken) (sym (slice_split-cons_no is_line_end b text e)) (onto_unbroken b (slice_split is_line_end text) e rest)

without_last : (P : Text → Type 0) (pieces : List Text) → AllByRecursion P pieces → AllByRecursion P (without_empty_last pieces)
without_last P [] each = tt
without_last P (last ∷ []) each = by (length last == 0)
  where
    by : (t : Bool) → AllByRecursion P (cond t [] (last ∷ []))
    by true = tt
    by false = each
without_last P (piece ∷ next ∷ more) each = (each.0, without_last P (next ∷ more) each.1)

lines_unbroken : (text : Text) → AllByRecursion IsUnbroken (script_lines text)
unfolding script_lines
lines_unbroken text = without_last IsUnbroken (slice_split is_line_end text) (split_unbroken text)

are_lines : (user : UserName) (lines : List Text) → AllByRecursion IsUnbroken lines → AllByRecursion (IsGoodLine user) lines → AllByRecursion IsLine lines
are_lines user [] none good = tt
are_lines user (line ∷ lines) none good = (record { unbroken = none.0; short = good.0.short }, are_lines user lines none.1 good.1)

-- a text whose lines all have an LF has the same lines
relined : (text : Text) → AllByRecursion IsLine (script_lines text) → script_lines (lines_text (script_lines text)) ≡ script_lines text
relined text each =
    let lines = script_lines text in
    ap script_lines (sym (append-nil (lines_text lines))) ∙ lines_front lines [] each ∙ ap (λ xs. lines ++ xs) lines_none ∙ append-nil lines

-- the lines of what the source had left, behind those that were done
lines_behind : (user : UserName) (over : Bool) (read more rest : Text) (done : List Text) → lines_text done ++ rest ≡ cut_text over read → (over ≡ true → more ≡ []) → AllByRecursion IsLine done → AllByRecursion (IsGoodLine user) (script_lines (read ++ more))
    → script_lines (read ++ more) ≡ done ++ script_lines (rest ++ more)
lines_behind user false read more rest done cut none each good =
    ap (λ xs. script_lines (xs ++ more)) (sym cut) ∙ ap script_lines (append_assoc (lines_text done) rest more) ∙ lines_front done (rest ++ more) each
lines_behind user true read more rest done cut none each good =
    let nil : more ≡ [] = none refl in
    let all : read ++ more ≡ read = ap (λ xs. read ++ xs) nil ∙ append-nil read in
    let good_read : AllByRecursion (IsGoodLine user) (script_lines read) = subst (λ xs. AllByRecursion (IsGoodLine user) (script_lines xs)) all good in
    let left : rest ≡ rest ++ more = sym (append-nil rest) ∙ ap (λ xs. rest ++ xs) (sym nil) in
    ap script_lines all ∙ sym (relined read (are_lines user (script_lines read) (lines_unbroken read) good_read)) ∙ ap script_lines (sym cut) ∙ lines_front done rest each ∙ ap (λ xs. done ++ script_lines xs) left

-- the first line of a text that goes on is at least as long
long_first : (rest more : Text) → 0 < length rest → (line : Text) × ((lines : List Text) × ((script_lines (rest ++ more) ≡ line ∷ lines) × (length (before_first is_line_end rest) ≤ length line)))
long_first rest more some = by (cases_eq (length (before_first is_line_end rest)) (length rest))
  where
    whole : IsUnbroken rest → (line : Text) × ((lines : List Text) × ((script_lines (rest ++ more) ≡ line ∷ lines) × (length (before_first is_line_end rest) ≤ length line)))
    whole none = on (cases_eq (length (before_first is_line_end more)) (length more))
      where
        at_most : (tail : Text) → length (before_first is_line_end rest) ≤ length (rest ++ tail)
        at_most tail = let same = ap length (before_none rest none) in let long = length-append rest tail in omega (arith, same, long)

        on : (length (before_first is_line_end more) ≡ length more) ⊎ (length (before_first is_line_end more) ≢ length more)
            → (line : Text) × ((lines : List Text) × ((script_lines (rest ++ more) ≡ line ∷ lines) × (length (before_first is_line_end rest) ≤ length line)))
        on (inl same) =
            (rest ++ more, ([], (lines_last (rest ++ more) (unbroken_append rest more none (no_cut more same)) (λ is. absurd (let n = ap length is in let long = length-append rest more in omega (arith, n, long, some))), at_most more)))
        on (inr other) =
            let first = before_first is_line_end more in
            let next = after_first is_line_end more in
            let cut : rest ++ more ≡ (rest ++ first) ++ 10 ∷ next = ap (λ xs. rest ++ xs) (cut_at more other) ∙ sym (append_assoc rest first (10 ∷ next)) in
            (rest ++ first, (script_lines next, (ap script_lines cut ∙ lines_cons (rest ++ first) next (unbroken_append rest first none (before_is_unbroken more)), at_most first)))

    by : (length (before_first is_line_end rest) ≡ length rest) ⊎ (length (before_first is_line_end rest) ≢ length rest)
        → (line : Text) × ((lines : List Text) × ((script_lines (rest ++ more) ≡ line ∷ lines) × (length (before_first is_line_end rest) ≤ length line)))
    by (inl same) = whole (no_cut rest same)
    by (inr other) =
        let first = before_first is_line_end rest in
        let next = after_first is_line_end rest in
        let cut : rest ++ more ≡ first ++ 10 ∷ (next ++ more) = ap (λ xs. xs ++ more) (cut_at rest other) ∙ append_assoc first (10 ∷ next) more in
        (first, (script_lines (next ++ more), (ap script_lines cut ∙ lines_cons first (next ++ more) (before_is_unbroken rest), omega arith)))

before_le : (text : Text) → length (before_first is_line_end text) ≤ length text
before_le text = let le = prefix_len-le-length (λ b. not (is_line_end b)) text in omega (arith, le, length-before text)

-- neither a write fault nor want of memory
uncut : (status : ℕ) → (status ≡ 3 → ⊥) → (status ≡ 4 → ⊥) → is_cut status ≡ false
uncut status three four = ap (λ b. b || (status == 4)) (ne_eqb status 3 three) ∙ ne_eqb status 4 four

module _ {S : Type 0} (answers : S → Request → Option Reply → S → Type 0) (user : UserName) where
  -- an input of good lines ends at its end, or by a fault
  ends_well : (last b : S) (number : ℕ) (read more : Text) (over : Bool) (done : List Text) (rest tail : Text) (code : ℕ) → lines_text done ++ rest ≡ cut_text over read → (over ≡ true → more ≡ []) → AllByRecursion IsLine done → AllByRecursion (IsGoodLine user) (script_lines (read ++ more))
      → length (read ++ more) < read_limit → Ends answers user last number (length read) over rest tail code b → (code ≡ 2 → ⊥) → (code ≡ 3 → ⊥) → (code ≡ 11 → ⊥) → IsOneOf (0 ∷ 4 ∷ []) code
  ends_well last b number read more over done rest tail code cut none each good few (Ends.at_end is nil) two three eleven = refl
  ends_well last b number read more over done rest tail code cut none each good few (Ends.bad line after is_rest is_line malformed) two three eleven =
      let behind : script_lines (rest ++ more) ≡ line ∷ script_lines (after ++ more) =
      ap (λ xs. script_lines (xs ++ more)) is_rest ∙ ap script_lines (append_assoc line (10 ∷ after) more) ∙ lines_cons line (after ++ more) is_line.unbroken in
      let all = lines_behind user over read more rest done cut none each good ∙ ap (λ xs. done ++ xs) behind in
      let one = all-at (IsGoodLine user) done line (script_lines (after ++ more)) (subst (AllByRecursion (IsGoodLine user)) all good) in
      absurd (let e : true ≡ is_some (line_of user line) = sym one.good in let k : is_some (line_of user line) ≡ false = ap is_some malformed in let q : true ≡ false = e ∙ k in cc)
  ends_well last b number read more over done rest tail code cut none each good few (Ends.stopped line after stops.AskFault is_rest is_line came) two three eleven = absurd (eleven refl)
  ends_well last b number read more over done rest tail code cut none each good few (Ends.stopped line after stops.OutOfMemory is_rest is_line came) two three eleven = refl
  ends_well last b number read more over done rest tail code cut none each good few (Ends.unread is is_line) two three eleven = absurd (two refl)
  ends_well last b number read more over done rest tail code cut none each good few Ends.unwritten two three eleven = absurd (three refl)
  ends_well last b number read more over done rest tail code cut none each good few (Ends.too_long long) two three eleven =
      let le : length (before_first is_line_end rest) ≤ length rest = before_le rest in
      let first = long_first rest more (omega (arith, long, le)) in
      let all = lines_behind user over read more rest done cut none each good ∙ ap (λ xs. done ++ xs) first.1.1.0 in
      let one = all-at (IsGoodLine user) done first.0 first.1.0 (subst (AllByRecursion (IsGoodLine user)) all good) in
      absurd (let short = one.short in let most = first.1.1.1 in omega (arith, long, short, most))
  ends_well last b number read more over done rest tail code cut none each good few (Ends.spent many) two three eleven =
      absurd (let l = length-append read more in omega (arith, many, few, l))

  well_told : (text more : Text) (given given_now : ℕ) (old now : Option Text) (a b : S) (status : ℕ) → Means answers user (Some text) (Some more) given given_now old now a status b → (status ≡ 2 → ⊥) → (status ≡ 3 → ⊥) → (status ≡ 11 → ⊥)
      → AllByRecursion (IsGoodLine user) (script_lines text) → length text < read_limit → IsOneOf (0 ∷ 4 ∷ []) status
  well_told text more given given_now old now a b status means two three eleven good few = by (cases_eq status 4)
    where
      ran : Ran answers user old now a (cut_text means.over means.read) (length means.read) means.over status b
      ran = means.ran

      by : (status ≡ 4) ⊎ (status ≢ 4) → IsOneOf (0 ∷ 4 ∷ []) status
      by (inl four) = subst (IsOneOf (0 ∷ 4 ∷ [])) (sym four) refl
      by (inr other) =
          let same : status ≡ ran.code = ran.status_is (uncut status three other) in
          subst (IsOneOf (0 ∷ 4 ∷ [])) (sym same)
          (ends_well ran.last b _ means.read more means.over ran.done ran.rest ran.tail ran.code ran.cut means.at_end ran.each (subst (λ xs. AllByRecursion (IsGoodLine user) (script_lines xs)) means.consumed good)
          (subst (λ xs. length xs < read_limit) means.consumed few) ran.ends (λ is. two (same ∙ is)) (λ is. three (same ∙ is)) (λ is. eleven (same ∙ is)))

  pub completes : (left left_now : Option Text) (given given_now : ℕ) (old now : Option Text) (a b : S) (status : ℕ) → Means answers user left left_now given given_now old now a status b → (status ≡ 2 → ⊥) → (status ≡ 3 → ⊥) → (status ≡ 11 → ⊥)
      → IfSome left (λ text. AllByRecursion (IsGoodLine user) (script_lines text) → length text < read_limit → IsOneOf (0 ∷ 4 ∷ []) status)
  completes None left_now given given_now old now a b status means two three eleven = tt
  completes (Some text) None given given_now old now a b status means two three eleven = absurd means.consumed
  completes (Some text) (Some more) given given_now old now a b status means two three eleven = well_told text more given given_now old now a b status means two three eleven

  -- the same by the counts of faults, none of which rose
  pub completes_faultless : (left left_now : Option Text) (given given_now : ℕ) (old now : Option Text) (a b : S) (status sources sources_now sinks sinks_now asks asks_now : ℕ) → Means answers user left left_now given given_now old now a status b
      → HasCause sources sources_now (status ≡ 2) → HasCause sinks sinks_now (status ≡ 3) → HasCause asks asks_now (status ≡ 11)
      → IfSome left (λ text. AllByRecursion (IsGoodLine user) (script_lines text) → length text < read_limit → (Rose sources sources_now → ⊥) → (Rose sinks sinks_now → ⊥) → (Rose asks asks_now → ⊥) → IsOneOf (0 ∷ 4 ∷ []) status)
  completes_faultless None left_now given given_now old now a b status sources sources_now sinks sinks_now asks asks_now means source sink ask = tt
  completes_faultless (Some text) left_now given given_now old now a b status sources sources_now sinks sinks_now asks asks_now means source sink ask = λ good few no_source no_sink no_ask.
      completes (Some text) left_now given given_now old now a b status means (λ is. no_source (source.rose is)) (λ is. no_sink (sink.rose is)) (λ is. no_ask (ask.rose is)) good few

-- where there was no memory to read the words
pub none_meant : {S : Type 0} (answers : S → Request → Option Reply → S → Type 0) (found : Option UserName) (left : Option Text) (given : ℕ) (held : Option Text) (a : S) (status : ℕ) → status ≡ 4 → IfSome found (λ user. Means answers user left left given given held held a status a)
none_meant answers None left given held a status is = tt
none_meant answers (Some user) left given held a status is = Means-none answers user left given held a status is
