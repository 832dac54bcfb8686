-- How a session goes over its input, read by read.
use Rattle.std.proofs.Common.{◌≡◌, ◌≤◌, ◌<◌, ◌+◌, ◌*◌, ℕ, true, false, [], ◌++◌, length, Option, Result, Ok, Err, refl, sym, ap, subst, ◌∙◌, append-nil, length-append, arith}
use Rattle.std.specs.Result.{IsErrAnd}
use Rattle.std.specs.Io.KnownBytes.{Consumes, IsAtEnd, Keeps}
use Rattle.std.proofs.KnownBytes.{Consumes-kept, Consumes-nil, Consumes-trans}
use Rattle.up_lists.specs.Counts.{count_after}
use Rattle.up_names.specs.Texts.{Text, UserName}
use Rattle.up_wire.specs.declared.replies.Reply.{Reply}
use Rattle.up_wire.specs.declared.requests.Request.{Request}
use Rattle.up_terminal.proofs.SessionLemmas.{Ran-end, Running-none, Running-read, closed_text, uncut_is_absurd}
use Rattle.up_terminal.specs.Lines.{IsLine}
use Rattle.up_command.specs.Statuses.{is_cut}
use Rattle.up_terminal.specs.Runs.{Ends, Means, Ran, read_limit}
use Rattle.up_terminal.specs.Sessions.{Closes, Goes, Running, code_by, stopped_code}
use Rattle.up_terminal.specs.declared.stop.Stop.{Stop}
use Rattle.up_terminal.specs.declared.stop.Stop.TheVariants as stop

-- a count went on twice
count_twice : (count n m : ℕ) → count_after (count_after count n) m ≡ count_after count (n + m)
count_twice count n m = omega arith

count_none : (count : ℕ) → count ≡ count_after count 0
count_none count = omega arith

module _ {S : Type 0} (answers : S → Request → Option Reply → S → Type 0) (user : UserName) where
  -- So much was read so far, in so many reads at the most, and all lines in it were run.
  pub record SoFar (left left_now : Option Text) (given given_now : ℕ) (old now : Option Text) (a b : S) (begun : Text) (number reads : ℕ) : Type 0 where
    pub read : Text
    pub consumed : Consumes left left_now read
    pub counted : given_now ≡ count_after given (length read)
    pub running : Running answers user old now a b read begun number
    pub is_line : IsLine begun
    pub few : reads ≤ length read
    pub numbered : number ≤ reads * 65536 + 1

  pub SoFar-none : (left : Option Text) (given : ℕ) (held : Option Text) (a : S) → SoFar left left given given held held a a [] 1 0
  SoFar-none left given held a = record {
    read = [];
    consumed = Consumes-nil left;
    counted = count_none given;
    running = Running-none answers user held a;
    is_line = record { unbroken = refl; short = omega arith };
    few = omega arith;
    numbered = omega arith;
  }

  -- a piece was read, and its lines were run
  pub SoFar-more : (left mid next : Option Text) (given given_mid given_next : ℕ) (old now later : Option Text) (a b c : S) (begun piece line : Text) (number number_now reads : ℕ) → SoFar left mid given given_mid old now a b begun number reads
      → Consumes mid next piece → given_next ≡ count_after given_mid (length piece) → 0 < length piece → length piece ≤ 65536 → Goes answers user now later b (begun ++ piece) number (Ok tt) c line number_now → IsLine line → number_now ≤ number + length piece
      → SoFar left next given given_next old later a c line number_now (reads + 1)
  SoFar-more left mid next given given_mid given_next old now later a b c begun piece line number number_now reads h consumed counted some few goes good numbered =
      let long : length (h.read ++ piece) ≡ length h.read + length piece = length-append h.read piece in
      let count : count_after given_mid (length piece) ≡ count_after given (length h.read + length piece) = ap (λ n. count_after n (length piece)) h.counted ∙ count_twice given (length h.read) (length piece) in
      let h_few = h.few in let h_numbered = h.numbered in
      record {
        read = h.read ++ piece;
        consumed = Consumes-trans left mid next h.read piece h.consumed consumed;
        counted = counted ∙ count ∙ ap (λ n. count_after given n) (sym long);
        running = goes old a (h.read ++ piece) 0 (Running-read answers user old now a b h.read begun piece number h.running);
        is_line = good;
        few = omega (arith, long, some, h_few);
        numbered = omega (arith, numbered, few, h_numbered);
      }

  -- ---- how it ends

  -- in a piece
  pub Means-stop : (left mid next : Option Text) (given given_mid given_next : ℕ) (old now later : Option Text) (a b c : S) (begun piece line : Text) (number number_now reads : ℕ) (why : Stop) → SoFar left mid given given_mid old now a b begun number reads
      → Consumes mid next piece → given_next ≡ count_after given_mid (length piece) → Goes answers user now later b (begun ++ piece) number (Err why) c line number_now → Means answers user left next given given_next old later a (stopped_code why) c
  Means-stop left mid next given given_mid given_next old now later a b c begun piece line number number_now reads why h consumed counted goes =
      let long : length (h.read ++ piece) ≡ length h.read + length piece = length-append h.read piece in
      let count : count_after given_mid (length piece) ≡ count_after given (length h.read + length piece) = ap (λ n. count_after n (length piece)) h.counted ∙ count_twice given (length h.read) (length piece) in
      record {
        read = h.read ++ piece;
        over = false;
        consumed = Consumes-trans left mid next h.read piece h.consumed consumed;
        counted = counted ∙ count ∙ ap (λ n. count_after given n) (sym long);
        at_end = λ is. absurd (cc);
        ran = goes old a (h.read ++ piece) (length (h.read ++ piece)) (Running-read answers user old now a b h.read begun piece number h.running);
      }

  -- where a read failed
  pub Means-unread : (left mid next : Option Text) (given given_mid given_next : ℕ) (old now : Option Text) (a b : S) (begun : Text) (number reads : ℕ) → SoFar left mid given given_mid old now a b begun number reads → Keeps mid next → given_next ≡ given_mid
      → Means answers user left next given given_next old now a 2 b
  Means-unread left mid next given given_mid given_next old now a b begun number reads h kept counted = record {
    read = h.read;
    over = false;
    consumed = Consumes-kept left mid next h.read h.consumed kept;
    counted = counted ∙ h.counted;
    at_end = λ is. absurd (cc);
    ran = Ran-end answers user old now a b h.read begun number (length h.read) 2 2 false h.running (Ends.unread refl h.is_line) (λ uncut. refl);
  }

  -- where the source was read as often as it may be
  pub Means-spent : (left mid : Option Text) (given given_mid : ℕ) (old now : Option Text) (a b : S) (begun : Text) (number reads : ℕ) → SoFar left mid given given_mid old now a b begun number reads → read_limit ≤ reads → Means answers user left mid given given_mid old now a 7 b
  Means-spent left mid given given_mid old now a b begun number reads h many = record {
    read = h.read;
    over = false;
    consumed = h.consumed;
    counted = h.counted;
    at_end = λ is. absurd (cc);
    ran = Ran-end answers user old now a b h.read begun number (length h.read) 7 7 false h.running (Ends.spent (let few = h.few in omega (arith, many, few))) (λ uncut. refl);
  }

  -- where the input has ended
  pub Means-over : (left mid next : Option Text) (given given_mid given_next : ℕ) (old now later : Option Text) (a b c : S) (begun : Text) (number reads : ℕ) (result : Result (Unit {0}) Stop) → SoFar left mid given given_mid old now a b begun number reads
      → Consumes mid next [] → IsAtEnd next → given_next ≡ count_after given_mid 0 → Closes answers user now later b begun number result c → Means answers user left next given given_next old later a (code_by result) c
  Means-over left mid next given given_mid given_next old now later a b c begun number reads result h consumed end counted closes = record {
    read = h.read;
    over = true;
    consumed = subst (λ xs. Consumes left next xs) (append-nil h.read) (Consumes-trans left mid next h.read [] h.consumed consumed);
    counted = counted ∙ sym (count_none given_mid) ∙ h.counted;
    at_end = λ is. end;
    ran = subst (λ xs. Ran answers user old later a xs (length h.read) true (code_by result) c) (sym (closed_text answers user old now a b h.read begun number h.running h.is_line.unbroken)) (closes old a h.read (length h.read) h.running);
  }

  -- before anything was read, for want of memory
  pub Means-none : (left : Option Text) (given : ℕ) (held : Option Text) (a : S) (status : ℕ) → status ≡ 4 → Means answers user left left given given held held a status a
  Means-none left given held a status is =
      let cut : is_cut status ≡ true = ap is_cut is in
      record {
        read = [];
        over = false;
        consumed = Consumes-nil left;
        counted = count_none given;
        at_end = λ is. absurd (cc);
        ran = Ran-end answers user held held a a [] [] 1 0 status 3 false (Running-none answers user held a) Ends.unwritten (λ uncut. uncut_is_absurd status cut uncut);
      }

-- a result that is want of memory
pub wanting_code : (result : Result (Unit {0}) Stop) → IsErrAnd result (λ why. why ≡ stop.OutOfMemory) → code_by result ≡ 4
wanting_code (Ok done) is = absurd is
wanting_code (Err why) is = ap stopped_code is
