-- How the loop over the lines of a script keeps what it explains.
use Rattle.std.proofs.Common.{◌≡◌, ℕ, ◌+◌, ◌<◌, Bool, true, false, nat_lt, List, [], ◌∷◌, ◌++◌, length, Option, Some, None, IfSome, Result, Ok, Err, refl, sym, ap, subst, ◌∙◌, append_assoc, append-nil, arith}
use Rattle.std.proofs.KnownBytes.{Appends-nil}
use Rattle.std.proofs.lemmas.Bool.{lt-ltb, true≢false}
use Rattle.std.specs.Io.KnownBytes.{Appends}
use Rattle.up_ends.specs.Writing.{Going, WritesPart}
use Rattle.up_ends.proofs.Going.{Going-all, Going-more, Going-none, WritesPart-all, WritesPart-none, WritesPart-step}
use Rattle.up_command.specs.Statuses.{IsOneOf, code_by, input_limit, is_cut_short}
use Rattle.up_command.specs.declared.output.Stop.{Stop}
use Rattle.up_command.specs.declared.output.Stop.TheVariants as stop
use Rattle.up_command.specs.declared.status.Status.{Status}
use Rattle.up_names.specs.Texts.{Text}
use Rattle.up_text.specs.Lines.{script_lines}
use Rattle.up_explain_can.specs.Explaining.{Explains, ExplainsInput, Explanation, InputMeans, IsOneLine, TellsWhy, Told, bad_from, code_behind, explained, number_if, stands, status_for}

-- ---- texts that explain

pub explains_append : {one other : List ℕ} {front back : Text} → Explains one front → Explains other back → Explains (one ++ other) (front ++ back)
explains_append {back = back} Explains.nothing more = more
explains_append {other = other} {back = back} (Explains.further {number} {numbers} {later} why is_line rest) more =
    subst (Explains (number ∷ (numbers ++ other))) (sym (append_assoc (explained number why) later back)) (Explains.further why is_line (explains_append rest more))

pub explains_one : (number : ℕ) (why : Text) → IsOneLine why → Explains (number ∷ []) (explained number why)
explains_one number why is_line = subst (Explains (number ∷ [])) (append-nil (explained number why)) (Explains.further why is_line Explains.nothing)

-- some text explains any lines
pub explains_some : (numbers : List ℕ) → (text : Text) × Explains numbers text
explains_some [] = ([], Explains.nothing)
explains_some (number ∷ more) = let later = explains_some more in (explained number [] ++ later.0, Explains.further [] refl later.1)

-- ---- the loop

-- What was written so far and is gathered explains the first of all numbers, more are to come, and the status is that of the first.
pub record Telling (all more : List ℕ) (old now : Option Text) (gathered : Text) (code : ℕ) : Type 0 where
  pub numbers : List ℕ
  pub text : Text
  pub split : numbers ++ more ≡ all
  pub explains : Explains numbers text
  pub going : Going old now gathered text
  pub status : code ≡ status_for numbers

pub Telling-none : (all : List ℕ) (held : Option Text) → Telling all all held held [] 0
Telling-none all held = record { numbers = []; text = []; split = refl; explains = Explains.nothing; going = Going-none held []; status = refl }

-- a text is gathered that explains the next numbers
grown : {old now : Option Text} {gathered text : Text} (added : Text) → Going old now gathered text → Going old now (gathered ++ added) (text ++ added)
grown {gathered = gathered} {text = text} added before = record {
  front = before.front;
  written = before.written;
  whole = sym (append_assoc before.front gathered added) ∙ ap (λ xs. xs ++ added) before.whole;
}

some_bad : (numbers : List ℕ) (number : ℕ) → status_for (numbers ++ number ∷ []) ≡ 1
some_bad [] number = refl
some_bad (first ∷ more) number = refl

-- a line was judged
pub told : {S : Type 0} {all : List ℕ} {old now : Option Text} {gathered kept : Text} {code : ℕ} (step : S → Text → Option S) (number : ℕ) (here next : S) (line : Text) (lines : List Text) (good : Bool)
    → Telling all (bad_from step number here (line ∷ lines)) old now gathered code → Told step number here line next good gathered kept
    → Telling all (bad_from step (number + 1) next lines) old now kept (code_behind code good)
unfolding bad_from
told {all = all} {old = old} {now = now} step number here next line lines true before is =
    let same : number_if number (step here line) ++ bad_from step (number + 1) (stands here (step here line)) lines ≡ bad_from step (number + 1) next lines =
    ap (λ o. number_if number o ++ bad_from step (number + 1) (stands here o) lines) is.0 in
    record {
      numbers = before.numbers;
      text = before.text;
      split = ap (λ more. before.numbers ++ more) (sym same) ∙ before.split;
      explains = before.explains;
      going = subst (λ xs. Going old now xs before.text) (sym is.1) before.going;
      status = before.status;
    }
told {all = all} {old = old} {now = now} step number here next line lines false before is =
    let same : number_if number (step here line) ++ bad_from step (number + 1) (stands here (step here line)) lines ≡ number ∷ bad_from step (number + 1) next lines =
    ap (λ o. number_if number o ++ bad_from step (number + 1) (stands here o) lines) is.0 ∙ ap (λ s. number ∷ bad_from step (number + 1) s lines) (sym is.1) in
    record {
      numbers = before.numbers ++ number ∷ [];
      text = before.text ++ explained number is.2.why;
      split = append_assoc before.numbers (number ∷ []) (bad_from step (number + 1) next lines) ∙ (ap (λ more. before.numbers ++ more) (sym same) ∙ before.split);
      explains = explains_append before.explains (explains_one number is.2.why is.2.one_line);
      going = subst (λ xs. Going old now xs (before.text ++ explained number is.2.why)) (sym is.2.added) (grown (explained number is.2.why) before.going);
      status = sym (some_bad before.numbers number);
    }

-- what is gathered was written, or kept
pub flushed : {all more : List ℕ} {old mid now : Option Text} {gathered kept : Text} {code : ℕ} → Telling all more old mid gathered code → Going mid now kept gathered → Telling all more old now kept code
flushed {old = old} {mid = mid} {kept = kept} before step = record {
  numbers = before.numbers;
  text = before.text;
  split = before.split;
  explains = before.explains;
  going = Going-more step.front kept (subst (λ xs. Going old mid xs before.text) (sym step.whole) before.going) step.written;
  status = before.status;
}

-- all was written
pub ended_well : {all more : List ℕ} {old mid now : Option Text} {gathered : Text} {code : ℕ} → Telling all more old mid gathered code → more ≡ [] → Appends mid now (gathered ++ []) → Explanation all old now code
ended_well {all = all} {more = more} {old = old} {mid = mid} {now = now} {gathered = gathered} before none written =
    let all_is : before.numbers ≡ all = sym (append-nil before.numbers) ∙ (ap (λ xs. before.numbers ++ xs) (sym none) ∙ before.split) in
    let whole : Appends old now before.text =
    Going-all (Going-more gathered [] (subst (λ xs. Going old mid xs before.text) (sym (append-nil gathered)) before.going) (subst (λ xs. Appends mid now xs) (append-nil gathered) written)) in
    record {
      text = before.text;
      explains = subst (λ numbers. Explains numbers before.text) all_is before.explains;
      answers = record { whole = λ not_cut. (whole, before.status ∙ ap status_for all_is); part = WritesPart-all before.text whole };
    }

-- a front of what is gathered was written, as after a fault
pub cut_short : {all more : List ℕ} {old mid now : Option Text} {gathered : Text} {code : ℕ} (status : ℕ) → is_cut_short status ≡ true → Telling all more old mid gathered code → WritesPart mid now gathered → Explanation all old now status
cut_short {more = more} {gathered = gathered} status cut before part =
    let rest = explains_some more in
    record {
      text = before.text ++ rest.0;
      explains = subst (λ numbers. Explains numbers (before.text ++ rest.0)) before.split (explains_append before.explains rest.1);
      answers = record {
        whole = λ not_cut. absurd (true≢false (sym cut ∙ not_cut));
        part = WritesPart-step gathered rest.0 (grown rest.0 before.going) part;
      };
    }

-- nothing is malformed where there is no line
pub bad_nil : {S : Type 0} (step : S → Text → Option S) (number : ℕ) (here : S) → bad_from step number here [] ≡ []
unfolding bad_from
bad_nil step number here = refl

cut_err : (why : Stop) → is_cut_short (code_by (Err why)) ≡ true
cut_err stop.WriteFault = refl
cut_err stop.OutOfMemory = refl

-- where lines were not explained to their end the text is cut short
pub cut_by : (result : Result Status Stop) (why : Stop) → result ≡ Err why → is_cut_short (code_by result) ≡ true
cut_by result why is = ap (λ r. is_cut_short (code_by r)) is ∙ cut_err why

pub kind_behind : (code : ℕ) (good : Bool) → IsOneOf (0 ∷ 1 ∷ []) code → IsOneOf (0 ∷ 1 ∷ []) (code_behind code good)
kind_behind code true kind = kind
kind_behind code false kind = refl

unread_by : {S : Type 0} (step : S → Text → Option S) (first : S) (input : Text) (held : Option Text) (status : ℕ) → IsOneOf (2 ∷ 4 ∷ 7 ∷ []) status → (status ≡ 7 → input_limit < length input) → (b : Bool)
    → nat_lt input_limit (length input) ≡ b → InputMeans b step first input held held status
unread_by step first input held status can long true is = record {
  whole = λ not_cut. (Appends-nil held, grind (arith));
  part = WritesPart-none held [];
}
unread_by step first input held status can long false is =
    let some = explains_some (bad_from step 1 first (script_lines input)) in
    record {
      text = some.0;
      explains = some.1;
      answers = record {
        whole = λ not_cut.
            let is_7 : status ≡ 7 = grind (arith) in
            absurd (true≢false (sym (lt-ltb input_limit (length input) (long is_7)) ∙ is));
        part = WritesPart-none held some.0;
      };
    }

-- nothing was read, and nothing written
pub unread : {S : Type 0} (step : S → Text → Option S) (first : S) (left held : Option Text) (status : ℕ) → IsOneOf (2 ∷ 4 ∷ 7 ∷ []) status → (status ≡ 7 → IfSome left (λ input. input_limit < length input))
    → IfSome left (λ input. ExplainsInput step first input held held status)
unread step first None held status can long = tt
unread step first (Some input) held status can long = unread_by step first input held status can long (nat_lt input_limit (length input)) refl
