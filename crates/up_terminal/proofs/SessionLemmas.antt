-- How a session runs on, line by line, and how it ends.
use Rattle.std.proofs.Common.{◌≡◌, ◌≢◌, ◌≤◌, ◌<◌, ◌+◌, ◌⊎◌, inl, inr, ℕ, Bool, true, false, List, [], ◌∷◌, ◌++◌, length, Option, None, Result, Ok, Err, refl, sym, ap, subst, ◌∙◌, append_assoc, append-nil, length-append, arith}
use Rattle.std.specs.Prelude.{codes, IfErr, IsErrOf, OnOk}
use Rattle.std.specs.Io.KnownBytes.{Appends}
use Rattle.std.specs.List.{before_first}
use Rattle.std.proofs.KnownBytes.{Appends-nil, Appends-trans}
use Rattle.std.proofs.lemmas.Grind.{flat_map-append}
use Rattle.up_ends.specs.Writing.{WritesPart}
use Rattle.up_ends.proofs.Going.{WritesPart-all, WritesPart-none}
use Rattle.up_lists.proofs.RunLemmas.{Run-snoc}
use Rattle.up_command.specs.Printed.{bad_line, ended}
use Rattle.up_command.specs.Statuses.{input_limit, is_cut}
use Rattle.up_names.specs.Texts.{Text, UserName}
use Rattle.up_text.specs.Lines.{is_line_end, script_lines}
use Rattle.up_wire.specs.declared.replies.Reply.{Reply}
use Rattle.up_wire.specs.declared.requests.Request.{Request}
use Rattle.up_terminal.proofs.CutLemmas.{IsUnbroken, before_cons, before_none, each-snoc, lines_front, lines_last, lines_none, lines_text-snoc}
use Rattle.up_terminal.specs.Answers.{LineDid, LineCame, did_text}
use Rattle.up_terminal.specs.Lines.{IsLine, cut_text, line_of, lines_text}
use Rattle.up_terminal.specs.Runs.{Ends, LineDoes, Ran, printed, stop_code}
use Rattle.up_terminal.specs.Sessions.{Closes, Goes, LineRan, Reading, Running, behind, stopped_code}
use Rattle.up_terminal.specs.declared.stop.LineStop.{LineStop}
use Rattle.up_terminal.specs.declared.stop.LineStop.TheVariants as stops
use Rattle.up_terminal.specs.declared.stop.Stop.{Stop}
use Rattle.up_terminal.specs.declared.stop.Stop.TheVariants as stop

printed-more : (dids : List LineDid) (did : LineDid) → printed (dids ++ did ∷ []) ≡ printed dids ++ did_text did
printed-more dids did = flat_map-append did_text dids (did ∷ []) ∙ ap (λ xs. printed dids ++ xs) (append-nil (did_text did))

-- a text was written, and of the next one a part
part-after : (old mid now : Option Text) (all text : Text) → Appends old mid all → WritesPart mid now text → WritesPart old now (all ++ text)
part-after old mid now all text before part = (
  part.0,
  record {
    front = all ++ part.1.front;
    written = Appends-trans old mid now all part.1.front before part.1.written;
    whole = append_assoc all part.1.front part.0 ∙ ap (λ xs. all ++ xs) part.1.whole;
  },
)

-- an LF behind a line stands before what follows it
cut-more : (done : List Text) (line more text : Text) → lines_text done ++ (line ++ 10 ∷ more) ≡ text → lines_text (done ++ line ∷ []) ++ more ≡ text
cut-more done line more text cut =
    ap (λ xs. xs ++ more) (lines_text-snoc done line)
    ∙ append_assoc (lines_text done) (ended line) more
    ∙ ap (λ xs. lines_text done ++ xs) (append_assoc line (codes "\n") more)
    ∙ cut

pub uncut_is_absurd : {X : Type 0} (status : ℕ) → is_cut status ≡ true → is_cut status ≡ false → X
uncut_is_absurd status cut uncut = absurd (let e : true ≡ false = sym cut ∙ uncut in cc)

module _ {S : Type 0} (answers : S → Request → Option Reply → S → Type 0) (user : UserName) where
  -- nothing was done yet
  pub Running-none : (held : Option Text) (a : S) → Running answers user held held a a [] [] 1
  Running-none held a = record { done = []; cut = refl; each = tt; dids = []; run = refl; written = Appends-nil held; count = refl }

  -- more was read
  pub Running-read : (old now : Option Text) (a b : S) (text rest piece : Text) (number : ℕ) → Running answers user old now a b text rest number → Running answers user old now a b (text ++ piece) (rest ++ piece) number
  Running-read old now a b text rest piece number h = record {
    done = h.done;
    cut = sym (append_assoc (lines_text h.done) rest piece) ∙ ap (λ xs. xs ++ piece) h.cut;
    each = h.each;
    dids = h.dids;
    run = h.run;
    written = h.written;
    count = h.count;
  }

  -- a line was done
  pub Running-line : (old mid now : Option Text) (a b c : S) (text line more : Text) (number : ℕ) (did : LineDid) → Running answers user old mid a b text (line ++ 10 ∷ more) number → IsLine line → LineCame answers user b line (Ok did) c → Appends mid now (did_text did)
      → Running answers user old now a c text more (number + 1)
  Running-line old mid now a b c text line more number did h good came wrote = record {
    done = h.done ++ line ∷ [];
    cut = cut-more h.done line more text h.cut;
    each = each-snoc IsLine h.done line h.each good;
    dids = h.dids ++ did ∷ [];
    run = Run-snoc (LineDoes answers user) a b c h.done line h.dids did h.run came;
    written = subst (λ xs. Appends old now xs) (sym (printed-more h.dids did)) (Appends-trans old mid now (printed h.dids) (did_text did) h.written wrote);
    count = let k : length (h.done ++ line ∷ []) ≡ length h.done + 1 = length-append h.done (line ∷ []) in omega (arith, h.count, k);
  }

  -- ---- how it ends

  -- with nothing more written
  pub Ran-end : (old now : Option Text) (a b : S) (text rest : Text) (number bytes status code : ℕ) (over : Bool) → Running answers user old now a b text rest number → Ends answers user b number bytes over rest [] code b → (is_cut status ≡ false → status ≡ code)
      → Ran answers user old now a text bytes over status b
  Ran-end old now a b text rest number bytes status code over h ends exact =
      let all : Appends old now (printed h.dids ++ []) = subst (λ xs. Appends old now xs) (sym (append-nil (printed h.dids))) h.written in
      record {
        done = h.done;
        rest = rest;
        cut = h.cut;
        each = h.each;
        dids = h.dids;
        last = b;
        run = h.run;
        tail = [];
        code = code;
        ends = subst (λ n. Ends answers user b n bytes over rest [] code b) h.count ends;
        status_is = exact;
        whole = λ uncut. all;
        part = WritesPart-all (printed h.dids ++ []) all;
      }

  -- at the next line, which is malformed
  pub Ran-bad : (old mid now : Option Text) (a b : S) (text line more : Text) (number bytes status : ℕ) (over : Bool) → Running answers user old mid a b text (line ++ 10 ∷ more) number → IsLine line → line_of user line ≡ None
      → (is_cut status ≡ false → status ≡ 1) → (is_cut status ≡ false → Appends mid now (bad_line number)) → WritesPart mid now (bad_line number) → Ran answers user old now a text bytes over status b
  Ran-bad old mid now a b text line more number bytes status over h good none exact whole part =
      let ends : Ends answers user b number bytes over (line ++ 10 ∷ more) (bad_line number) 1 b = Ends.bad line more refl good none in
      record {
        done = h.done;
        rest = line ++ 10 ∷ more;
        cut = h.cut;
        each = h.each;
        dids = h.dids;
        last = b;
        run = h.run;
        tail = bad_line number;
        code = 1;
        ends = subst (λ n. Ends answers user b n bytes over (line ++ 10 ∷ more) (bad_line number) 1 b) h.count ends;
        status_is = exact;
        whole = λ uncut. Appends-trans old mid now (printed h.dids) (bad_line number) h.written (whole uncut);
        part = part-after old mid now (printed h.dids) (bad_line number) h.written part;
      }

  -- at the next line, which was not done
  pub Ran-stop : (old now : Option Text) (a b c : S) (text line more : Text) (number bytes status : ℕ) (over : Bool) (why : LineStop) → Running answers user old now a b text (line ++ 10 ∷ more) number → IsLine line → LineCame answers user b line (Err why) c
      → (is_cut status ≡ false → status ≡ stop_code why) → Ran answers user old now a text bytes over status c
  Ran-stop old now a b c text line more number bytes status over why h good came exact =
      let ends : Ends answers user b number bytes over (line ++ 10 ∷ more) [] (stop_code why) c = Ends.stopped line more why refl good came in
      let all : Appends old now (printed h.dids ++ []) = subst (λ xs. Appends old now xs) (sym (append-nil (printed h.dids))) h.written in
      record {
        done = h.done;
        rest = line ++ 10 ∷ more;
        cut = h.cut;
        each = h.each;
        dids = h.dids;
        last = b;
        run = h.run;
        tail = [];
        code = stop_code why;
        ends = subst (λ n. Ends answers user b n bytes over (line ++ 10 ∷ more) [] (stop_code why) c) h.count ends;
        status_is = exact;
        whole = λ uncut. all;
        part = WritesPart-all (printed h.dids ++ []) all;
      }

  -- behind a line whose text was not written whole
  pub Ran-unwritten : (old mid now : Option Text) (a b c : S) (text line more : Text) (number bytes status : ℕ) (over : Bool) (did : LineDid) → Running answers user old mid a b text (line ++ 10 ∷ more) number → IsLine line → LineCame answers user b line (Ok did) c
      → is_cut status ≡ true → WritesPart mid now (did_text did) → Ran answers user old now a text bytes over status c
  Ran-unwritten old mid now a b c text line more number bytes status over did h good came cut part = record {
    done = h.done ++ line ∷ [];
    rest = more;
    cut = cut-more h.done line more text h.cut;
    each = each-snoc IsLine h.done line h.each good;
    dids = h.dids ++ did ∷ [];
    last = c;
    run = Run-snoc (LineDoes answers user) a b c h.done line h.dids did h.run came;
    tail = [];
    code = 3;
    ends = Ends.unwritten;
    status_is = λ uncut. uncut_is_absurd status cut uncut;
    whole = λ uncut. uncut_is_absurd status cut uncut;
    part = subst (λ xs. WritesPart old now xs) (sym (append-nil (printed (h.dids ++ did ∷ [])) ∙ printed-more h.dids did)) (part-after old mid now (printed h.dids) (did_text did) h.written part);
  }

  -- by why a line was not done
  pub Ran-by : (old mid now : Option Text) (a b c : S) (text line more : Text) (number bytes : ℕ) (over : Bool) (why : Stop) → Running answers user old mid a b text (line ++ 10 ∷ more) number → IsUnbroken line → ((why ≡ stop.TooLong → ⊥) → length line ≤ input_limit)
      → LineRan answers user number mid now b line (Err why) c → Ran answers user old now a text bytes over (stopped_code why) c
  Ran-by old mid now a b c text line more number bytes over stop.BadLine h none short ran =
      subst (λ s. Ran answers user old now a text bytes over 1 s) (sym ran.1.0)
      (Ran-bad old mid now a b text line more number bytes 1 over h (record { unbroken = none; short = short (λ is. cc) }) ran.0 (λ uncut. refl) (λ uncut. ran.1.1) (WritesPart-all (bad_line number) ran.1.1))
  Ran-by old mid now a b c text line more number bytes over stop.AskFault h none short ran =
      subst (λ to. Ran answers user old to a text bytes over 11 c) (sym ran.1)
      (Ran-stop old mid a b c text line more number bytes 11 over stops.AskFault h (record { unbroken = none; short = short (λ is. cc) }) ran.0 (λ uncut. refl))
  Ran-by old mid now a b c text line more number bytes over stop.WriteFault h none short (inl did) =
      Ran-unwritten old mid now a b c text line more number bytes 3 over did.0 h (record { unbroken = none; short = short (λ is. cc) }) did.1.0 refl did.1.1
  Ran-by old mid now a b c text line more number bytes over stop.WriteFault h none short (inr bad) =
      subst (λ s. Ran answers user old now a text bytes over 3 s) (sym bad.1.0)
      (Ran-bad old mid now a b text line more number bytes 3 over h (record { unbroken = none; short = short (λ is. cc) }) bad.0 (λ uncut. uncut_is_absurd 3 refl uncut) (λ uncut. uncut_is_absurd 3 refl uncut) bad.1.1)
  Ran-by old mid now a b c text line more number bytes over stop.OutOfMemory h none short ran =
      subst (λ to. Ran answers user old to a text bytes over 4 c) (sym ran.1) (by ran.0)
    where
      good : IsLine line
      good = record { unbroken = none; short = short (λ is. cc) }

      by : (LineCame answers user b line (Err stops.OutOfMemory) c ⊎ ((did : LineDid) × LineCame answers user b line (Ok did) c)) → Ran answers user old mid a text bytes over 4 c
      by (inl came) = Ran-stop old mid a b c text line more number bytes 4 over stops.OutOfMemory h good came (λ uncut. uncut_is_absurd 4 refl uncut)
      by (inr did) = Ran-unwritten old mid mid a b c text line more number bytes 4 over did.0 h good did.1 refl (WritesPart-none mid (did_text did.0))
  Ran-by old mid now a b c text line more number bytes over stop.ReadFault h none short ran = absurd ran
  Ran-by old mid now a b c text line more number bytes over stop.TooLong h none short ran =
      let long : input_limit < length (before_first is_line_end (line ++ 10 ∷ more)) = subst (λ xs. input_limit < length xs) (sym (before_cons line more none)) ran.0 in
      let here : Running answers user old now a c text (line ++ 10 ∷ more) number =
      subst (λ s. Running answers user old now a s text (line ++ 10 ∷ more) number) (sym ran.1.0) (subst (λ to. Running answers user old to a b text (line ++ 10 ∷ more) number) (sym ran.1.1) h) in
      Ran-end old now a c text (line ++ 10 ∷ more) number bytes 7 7 over here (Ends.too_long long) (λ uncut. refl)

  -- ---- what calls within a session come to

  -- the bytes of a line, cut where a piece of them ends
  regroup : (line end more : Text) → line ++ (end ++ 10 ∷ more) ≡ (line ++ end) ++ 10 ∷ more
  regroup line end more = sym (append_assoc line end (10 ∷ more))

  -- a line was run
  pub line_goes : (held mid now : Option Text) (a b c : S) (whole line end more rest : Text) (first number : ℕ) → Goes answers user held mid a whole first (Ok tt) b (line ++ rest) number → rest ≡ end ++ 10 ∷ more → IsLine (line ++ end)
      → LineRan answers user number mid now b (line ++ end) (Ok tt) c → Goes answers user held now a whole first (Ok tt) c more (number + 1)
  line_goes held mid now a b c whole line end more rest first number goes cut good ran start origin text bytes h =
      let here : Running answers user start mid origin b text ((line ++ end) ++ 10 ∷ more) number =
      subst (λ xs. Running answers user start mid origin b text xs number) (ap (λ xs. line ++ xs) cut ∙ regroup line end more) (goes start origin text bytes h) in
      Running-line start mid now origin b c text (line ++ end) more number ran.0 here good ran.1.0 ran.1.1

  -- a line was not done
  pub line_stops : (held mid now : Option Text) (a b c : S) (whole line end more rest rest_now : Text) (first number number_now : ℕ) (why : Stop) → Goes answers user held mid a whole first (Ok tt) b (line ++ rest) number → rest ≡ end ++ 10 ∷ more → IsUnbroken (line ++ end)
      → ((why ≡ stop.TooLong → ⊥) → length (line ++ end) ≤ input_limit) → LineRan answers user number mid now b (line ++ end) (Err why) c → Goes answers user held now a whole first (Err why) c rest_now number_now
  line_stops held mid now a b c whole line end more rest rest_now first number number_now why goes cut none short ran start origin text bytes h =
      let here : Running answers user start mid origin b text ((line ++ end) ++ 10 ∷ more) number =
      subst (λ xs. Running answers user start mid origin b text xs number) (ap (λ xs. line ++ xs) cut ∙ regroup line end more) (goes start origin text bytes h) in
      Ran-by start mid now origin b c text (line ++ end) more number bytes false why here none short ran

  -- what is left of a piece begins the next line
  pub rest_goes : (held mid : Option Text) (a b : S) (whole line rest : Text) (first number : ℕ) (result : Result (Unit {0}) Stop) (after : Reading) → Goes answers user held mid a whole first (Ok tt) b (line ++ rest) number → IsUnbroken (line ++ rest)
      → OnOk result (after ≡ record { line = line ++ rest; number = number }) → IfErr result (λ why. (why ≡ stop.TooLong) ⊎ (why ≡ stop.OutOfMemory)) → (IsErrOf result stop.TooLong → input_limit < length (line ++ rest))
      → Goes answers user held mid a whole first result b after.line after.number
  rest_goes held mid a b whole line rest first number (Ok done) after goes none added kinds long start origin text bytes h =
      subst (λ (r : Reading). Running answers user start mid origin b text r.line r.number) (sym added) (goes start origin text bytes h)
  rest_goes held mid a b whole line rest first number (Err why) after goes none added (inl is) long start origin text bytes h =
      let same : ◌≡◌ {A = Result (Unit {0}) Stop} (Err why) (Err stop.TooLong) = ap (λ (w : Stop). Err w) is in
      let over_long : input_limit < length (before_first is_line_end (line ++ rest)) = subst (λ xs. input_limit < length xs) (sym (before_none (line ++ rest) none)) (long same) in
      subst (λ (w : Stop). Ran answers user start mid origin text bytes false (stopped_code w) b) (sym is)
      (Ran-end start mid origin b text (line ++ rest) number bytes 7 7 false (goes start origin text bytes h) (Ends.too_long over_long) (λ uncut. refl))
  rest_goes held mid a b whole line rest first number (Err why) after goes none added (inr is) long start origin text bytes h =
      subst (λ (w : Stop). Ran answers user start mid origin text bytes false (stopped_code w) b) (sym is)
      (Ran-end start mid origin b text (line ++ rest) number bytes 4 3 false (goes start origin text bytes h) Ends.unwritten (λ uncut. uncut_is_absurd 4 refl uncut))

  -- bytes were not added to a line
  pub added_ran : (held : Option Text) (a : S) (line bytes : Text) (number : ℕ) (why : Stop) → (why ≡ stop.TooLong) ⊎ (why ≡ stop.OutOfMemory) → (IsErrOf {T = Unit {0}} (Err why) stop.TooLong → input_limit < length line + length bytes)
      → LineRan answers user number held held a (line ++ bytes) (Err why) a
  added_ran held a line bytes number why (inl is) long =
      let same : ◌≡◌ {A = Result (Unit {0}) Stop} (Err why) (Err stop.TooLong) = ap (λ (w : Stop). Err w) is in
      let all = length-append line bytes in
      let more = long same in
      subst (λ (w : Stop). LineRan answers user number held held a (line ++ bytes) (Err w) a) (sym is) (omega (arith, all, more), (refl, refl))
  added_ran held a line bytes number why (inr is) long =
      subst (λ (w : Stop). LineRan answers user number held held a (line ++ bytes) (Err w) a) (sym is) (inl LineCame.unread, refl)

  -- they were, and the line was run
  pub run_added : (held now : Option Text) (a b : S) (line bytes : Text) (number : ℕ) (after : Reading) (result : Result (Unit {0}) Stop) → after ≡ record { line = line ++ bytes; number = number } → LineRan answers user after.number held now a after.line result b
      → LineRan answers user number held now a (line ++ bytes) result b
  run_added held now a b line bytes number after result is ran = subst (λ (r : Reading). LineRan answers user r.number held now a r.line result b) is ran

  -- ---- where the input has ended

  -- no byte is left
  pub closes_empty : (held : Option Text) (a : S) (line : Text) (number : ℕ) → line ≡ [] → Closes answers user held held a line number (Ok tt) a
  closes_empty held a line number none start first text bytes h =
      let all : text ++ behind line ≡ text = ap (λ xs. text ++ behind xs) none ∙ append-nil text in
      let here : Running answers user start held first a (text ++ behind line) [] number =
      subst (λ xs. Running answers user start held first a xs [] number) (sym all) (subst (λ xs. Running answers user start held first a text xs number) none h) in
      Ran-end start held first a (text ++ behind line) [] number bytes 0 0 true here (Ends.at_end refl refl) (λ uncut. refl)

  -- the last line is run, with an LF behind it
  behind_some : (line : Text) → line ≢ [] → behind line ≡ codes "\n"
  behind_some [] some = absurd (some refl)
  behind_some (b ∷ line) some = refl

  pub closes_line : (held now : Option Text) (a b : S) (line : Text) (number : ℕ) (result : Result (Unit {0}) Stop) → line ≢ [] → IsLine line → LineRan answers user number held now a line result b → Closes answers user held now a line number result b
  closes_line held now a b line number (Ok done) some good ran start first text bytes h =
      let read : Running answers user start held first a (text ++ behind line) (line ++ 10 ∷ []) number =
      subst (λ xs. Running answers user start held first a (text ++ behind line) (line ++ xs) number) (behind_some line some) (Running-read start held first a text line (behind line) number h) in
      let done_line = Running-line start held now first a b (text ++ behind line) line [] number ran.0 read good ran.1.0 ran.1.1 in
      Ran-end start now first b (text ++ behind line) [] (number + 1) bytes 0 0 true done_line (Ends.at_end refl refl) (λ uncut. refl)
  closes_line held now a b line number (Err why) some good ran start first text bytes h =
      let read : Running answers user start held first a (text ++ behind line) (line ++ 10 ∷ []) number =
      subst (λ xs. Running answers user start held first a (text ++ behind line) (line ++ xs) number) (behind_some line some) (Running-read start held first a text line (behind line) number h) in
      Ran-by start held now first a b (text ++ behind line) line [] number bytes true why read good.unbroken (λ kind. good.short) ran

  -- what was read, with an LF behind its last line where that lacks it
  pub closed_text : (old now : Option Text) (a b : S) (text line : Text) (number : ℕ) → Running answers user old now a b text line number → IsUnbroken line → cut_text true text ≡ text ++ behind line
  closed_text old now a b text line number h none =
      ap (λ xs. lines_text (script_lines xs)) (sym h.cut) ∙ ap (λ xs. lines_text xs) (lines_front h.done line h.each) ∙ by line none ∙ ap (λ xs. xs ++ behind line) h.cut
    where
      by : (last : Text) → IsUnbroken last → lines_text (h.done ++ script_lines last) ≡ (lines_text h.done ++ last) ++ behind last
      by [] e =
          ap (λ xs. lines_text (h.done ++ xs)) lines_none ∙ ap (λ xs. lines_text xs) (append-nil h.done) ∙ sym (append-nil (lines_text h.done ++ []) ∙ append-nil (lines_text h.done))
      by (c ∷ last) e =
          ap (λ xs. lines_text (h.done ++ xs)) (lines_last (c ∷ last) e (λ is. cc)) ∙ lines_text-snoc h.done (c ∷ last) ∙ sym (append_assoc (lines_text h.done) (c ∷ last) (codes "\n"))
