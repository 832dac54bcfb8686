-- Words that are done one after the other.
use Rattle.std.proofs.Common.{◌≡◌, ◌≢◌, ◌<◌, ◌+◌, ◌⊎◌, inl, inr, ℕ, true, false, List, [], ◌∷◌, ◌++◌, length, take, drop, map, get_or, zero, suc, Option, Some, None, Result, Ok, Err, refl, sym, ap, subst, ◌∙◌, append-nil, arith}
use Rattle.std.specs.Prelude.{codes, IfSome}
use Rattle.std.specs.Result.{result_ok}
use Rattle.std.specs.Io.KnownBytes.{Appends}
use Rattle.std.specs.List.{AllZip}
use Rattle.std.proofs.KnownBytes.{Appends-nil, Appends-trans}
use Rattle.std.proofs.lemmas.Grind.{flat_map-append}
use Rattle.std.proofs.lemmas.List.{drop_more, length-map, take-append-drop}
use Rattle.up_ends.specs.Writing.{WritesPart}
use Rattle.up_ends.proofs.Going.{WritesPart-all, WritesPart-none}
use Rattle.up_lists.specs.Runs.{Run}
use Rattle.up_lists.proofs.RunLemmas.{Run-taken}
use Rattle.up_client.specs.Getting.{get_talk}
use Rattle.up_client.specs.declared.fault.ClientFault.{ClientFault}
use Rattle.up_client.specs.declared.fault.ClientFault.TheVariants as client
use Rattle.up_names.specs.PathNames.{PathName, path_of}
use Rattle.up_names.specs.Texts.{Text, UserName}
use Rattle.up_wire.specs.declared.replies.Reply.{Reply}
use Rattle.up_wire.specs.declared.requests.Request.{Request}
use Rattle.up_cache.specs.Caching.{CachedAnswers, Caching, caching}
use Rattle.up_command.specs.Statuses.{is_cut}
use Rattle.up_cache.specs.Copying.{PathResult, Copied, CopiedOver, PathDid, Ends, PathCame, PathDoes, PlainDid, PlainlyCopied, copy_capacity, counts_line, result_of_get, printed, did_text}
use Rattle.up_cache.specs.Printing.{FileCopied, PrintedAs, Running, Stopped, StopsBy, PrintedResult, WordCopied, WrittenBy, code_by}
use Rattle.up_cache.specs.Steady.{IsSteady, Leads}
use Rattle.up_cache.specs.declared.stop.Stop.{Stop}
use Rattle.up_cache.specs.declared.stop.Stop.TheVariants as stop
use Rattle.up_cache.proofs.Printings.{part_after}
use Rattle.up_cache.proofs.Steadiness.{cache_steady, got_plain, held_leads}

printed_more : (dids : List PathDid) (did : PathDid) → printed (dids ++ did ∷ []) ≡ printed dids ++ did_text did
printed_more dids did = flat_map-append did_text dids (did ∷ []) ∙ ap (λ xs. printed dids ++ xs) (append-nil (did_text did))

-- what was told of a word that was done
done_told : (old now : Option Text) (came : PathResult) → PrintedResult old now came (Ok tt) → (did : PathDid) × ((came ≡ Ok did) × Appends old now (did_text did))
done_told old now (Ok did) told = (did, (refl, told))
done_told old now (Err why) told = absurd (let e : ◌≡◌ {A = Result (Unit {0}) Stop} (Ok tt) (Err why) = told.0 in cc)

-- and of one that was not
abbrev NotTold : Option Text → Option Text → PathResult → Stop → Type 0
NotTold old now came why = ((came ≡ Err why) × (now ≡ old)) ⊎ ((did : PathDid) × ((came ≡ Ok did) × (WritesPart old now (did_text did) × (why ≢ stop.AskFault))))

same_stop : (one two : Stop) → ◌≡◌ {A = Result (Unit {0}) Stop} (Err one) (Err two) → two ≡ one
same_stop one two e = cc

not_told : (old now : Option Text) (came : PathResult) (why : Stop) → PrintedResult old now came (Err why) → NotTold old now came why
not_told old now (Ok did) stop.WriteFault told = inr (did, (refl, (told, λ e. cc)))
not_told old now (Ok did) stop.OutOfMemory told = inr (did, (refl, (told, λ e. cc)))
not_told old now (Ok did) stop.AskFault told = absurd told
not_told old now (Err other) why told = inl (ap (λ (w : Stop). Err w) (same_stop why other told.0), told.1)

-- words, seen otherwise
get_map : {X : Type 0} (f : X → Text) (words : List X) (k : ℕ) (word : X) → get_or (map f words) k (f word) ≡ f (get_or words k word)
get_map f [] k word = refl
get_map f (first ∷ words) zero word = refl
get_map f (first ∷ words) (suc k) word = get_map f words k word

pub word_at : {X : Type 0} (f : X → Text) (words : List X) (k : ℕ) (word : X) (shown : Text) → shown ≡ f word → word ≡ get_or words k word → shown ≡ get_or (map f words) k shown
word_at f words k word shown is at = is ∙ ap f at ∙ sym (get_map f words k word) ∙ ap (λ w. get_or (map f words) k w) (sym is)

pub fewer_words : {X : Type 0} (f : X → Text) (words : List X) (k : ℕ) → k < length words → k < length (map f words)
fewer_words f words k below = let same = length-map words f in omega (arith, same, below)

module _ {S : Type 0} (answers : S → Request → Option Reply → S → Type 0) where
  -- the first words were done
  abbrev pub Going : Option Text → Option Text → S → List Text → ℕ → S → Type 0
  Going old now a words k b = Running answers old now a (take k words) b

  pub going_none : (held : Option Text) (a : S) → Running answers held held a [] a
  going_none held a = record { dids = []; run = refl; written = Appends-nil held }

  pub going_more : (old mid now : Option Text) (a b c : S) (words : List Text) (k : ℕ) (word : Text) → k < length words → word ≡ get_or words k word → Going old mid a words k b → WordCopied answers mid now b word (Ok tt) c
      → Going old now a words (k + 1) c
  going_more old mid now a b c words k word below at so next =
      let told = done_told mid now next.came next.printed in
      let does : PathCame answers b word (Ok told.0) c = subst (λ (came : PathResult). PathCame answers b word came c) told.1.0 next.path in
      record {
        dids = so.dids ++ told.0 ∷ [];
        run = Run-taken (PathDoes answers) a b c words k word so.dids told.0 so.run below at does;
        written = subst (λ xs. Appends old now xs) (sym (printed_more so.dids told.0)) (Appends-trans old mid now (printed so.dids) (did_text told.0) so.written told.1.1);
      }

  -- the words that are left begin with the next one
  left_is : (words : List Text) (k : ℕ) (word : Text) → k < length words → word ≡ get_or words k word → drop k words ≡ word ∷ drop (k + 1) words
  left_is words k word below at = drop_more words k word below ∙ (λ j. sym at j ∷ drop (k + 1) words)

  written_by : (old mid now : Option Text) (text : Text) (why : Stop) → Appends old mid text → now ≡ mid → WrittenBy answers old now text why
  written_by old mid now text stop.AskFault so same = subst (λ to. Appends old to text) (sym same) so
  written_by old mid now text stop.WriteFault so same = subst (λ to. WritesPart old to text) (sym same) (WritesPart-all text so)
  written_by old mid now text stop.OutOfMemory so same = subst (λ to. WritesPart old to text) (sym same) (WritesPart-all text so)

  cut_by : (old now : Option Text) (text : Text) (why : Stop) → why ≢ stop.AskFault → WritesPart old now text → WrittenBy answers old now text why
  cut_by old now text stop.AskFault other part = absurd (other refl)
  cut_by old now text stop.WriteFault other part = part
  cut_by old now text stop.OutOfMemory other part = part

  -- nothing came of the next word but why the run ends
  stops_at : (last c : S) (rest : List Text) (word : Text) (more : List Text) (why : Stop) → rest ≡ word ∷ more → PathCame answers last word (Err why) c → StopsBy answers last rest why c
  stops_at last c rest word more stop.AskFault is came = (word, (more, (is, came)))
  stops_at last c rest word more stop.OutOfMemory is came = inr (word, (more, (is, came)))
  stops_at last c rest word more stop.WriteFault is came = absurd (no_fault last c word (Err stop.WriteFault) came refl)
    where
      never : (result : Result (List ℕ) ClientFault) → result_of_get result ≡ Err stop.WriteFault → ⊥
      never (Ok bytes) e = cc
      never (Err client.Failed) e = cc
      never (Err client.OutOfMemory) e = cc
      never (Err fault) e = cc

      no_fault : (a b : S) (w : Text) (came : PathResult) → PathCame answers a w came b → came ≡ Err stop.WriteFault → ⊥
      no_fault a b w came (PathCame.bad_path none) e = cc
      no_fault a b w came (PathCame.got {result = result} some held) e = never result e
      no_fault a b w came PathCame.unread e = cc

  -- behind a word that was done
  stops_behind : (last : S) (rest : List Text) (why : Stop) → why ≢ stop.AskFault → StopsBy answers last rest why last
  stops_behind last rest stop.AskFault other = absurd (other refl)
  stops_behind last rest stop.OutOfMemory other = inl refl
  stops_behind last rest stop.WriteFault other = refl

  pub going_stop : (old mid now : Option Text) (a b c : S) (words : List Text) (k : ℕ) (word : Text) (why : Stop) → k < length words → word ≡ get_or words k word → Going old mid a words k b → WordCopied answers mid now b word (Err why) c
      → Stopped answers old now a words why c
  going_stop old mid now a b c words k word why below at so next = by (not_told mid now next.came why next.printed)
    where
      by : NotTold mid now next.came why → Stopped answers old now a words why c
      by (inl none) = record {
        done = take k words;
        rest = drop k words;
        cut = take-append-drop k words;
        dids = so.dids;
        last = b;
        run = so.run;
        stops = stops_at b c (drop k words) word (drop (k + 1) words) why (left_is words k word below at) (subst (λ (came : PathResult). PathCame answers b word came c) none.0 next.path);
        written = written_by old mid now (printed so.dids) why so.written none.1;
      }
      by (inr told) =
          let does : PathCame answers b word (Ok told.0) c = subst (λ (came : PathResult). PathCame answers b word came c) told.1.0 next.path in
          record {
            done = take (k + 1) words;
            rest = drop (k + 1) words;
            cut = take-append-drop (k + 1) words;
            dids = so.dids ++ told.0 ∷ [];
            last = c;
            run = Run-taken (PathDoes answers) a b c words k word so.dids told.0 so.run below at does;
            stops = stops_behind c (drop (k + 1) words) why told.1.1.1;
            written = cut_by old now (printed (so.dids ++ told.0 ∷ [])) why told.1.1.1
                (subst (λ xs. WritesPart old now xs) (sym (printed_more so.dids told.0)) (part_after old mid now (printed so.dids) (did_text told.0) so.written told.1.1.0));
          }

  -- ---- one word

  pub word_bad : (old now : Option Text) (a : S) (word : Text) (result : Result (Unit {0}) Stop) → result_ok (path_of word) ≡ None → PrintedAs old now (codes "invalid name\n") result → WordCopied answers old now a word result a
  word_bad old now a word result none is = record { came = Ok PathDid.BadPath; path = PathCame.bad_path none; printed = is }

  pub word_unread : (held : Option Text) (a : S) (word : Text) → WordCopied answers held held a word (Err stop.OutOfMemory) a
  word_unread held a word = record { came = Err stop.OutOfMemory; path = PathCame.unread; printed = (refl, refl) }

  pub word_got : (old now : Option Text) (a b : S) (word : Text) (path : PathName) (result : Result (Unit {0}) Stop) → result_ok (path_of word) ≡ Some path → FileCopied answers old now a path result b → WordCopied answers old now a word result b
  word_got old now a b word path result is file = record { came = result_of_get file.got; path = PathCame.got is file.talk; printed = file.printed }

-- ---- a run over a cache

uncut_is_absurd : {X : Type 0} (status : ℕ) → is_cut status ≡ true → is_cut status ≡ false → X
uncut_is_absurd status cut uncut = absurd (let e : true ≡ false = sym cut ∙ uncut in cc)

module _ {S : Type 0} (answers : S → Request → Option Reply → S → Type 0) where
  -- all words were done, and then the last line was printed
  pub copied_end : (old mid now : Option Text) (a b : Caching S) (words : List Text) (result : Result (Unit {0}) Stop) → Running (CachedAnswers answers) old mid a words b → PrintedAs mid now (counts_line b.asked b.kept) result
      → Copied answers old now a words (code_by result) b
  copied_end old mid now a b words (Ok done) so last = record {
    done = words;
    rest = [];
    cut = append-nil words;
    dids = so.dids;
    last = b;
    run = so.run;
    tail = counts_line b.asked b.kept;
    ends = Ends.at_end refl;
    whole = λ uncut. Appends-trans old mid now (printed so.dids) (counts_line b.asked b.kept) so.written last;
    part = WritesPart-all (printed so.dids ++ counts_line b.asked b.kept) (Appends-trans old mid now (printed so.dids) (counts_line b.asked b.kept) so.written last);
  }
  copied_end old mid now a b words (Err stop.WriteFault) so last = record {
    done = words;
    rest = [];
    cut = append-nil words;
    dids = so.dids;
    last = b;
    run = so.run;
    tail = counts_line b.asked b.kept;
    ends = Ends.cut_at_end refl refl;
    whole = λ uncut. uncut_is_absurd 3 refl uncut;
    part = part_after old mid now (printed so.dids) (counts_line b.asked b.kept) so.written last;
  }
  copied_end old mid now a b words (Err stop.OutOfMemory) so last = record {
    done = words;
    rest = [];
    cut = append-nil words;
    dids = so.dids;
    last = b;
    run = so.run;
    tail = counts_line b.asked b.kept;
    ends = Ends.cut_at_end refl refl;
    whole = λ uncut. uncut_is_absurd 4 refl uncut;
    part = part_after old mid now (printed so.dids) (counts_line b.asked b.kept) so.written last;
  }
  copied_end old mid now a b words (Err stop.AskFault) so last = absurd last

  -- the same by the counts that were told
  pub copied_counted : (old mid now : Option Text) (a b : Caching S) (words : List Text) (asked kept : ℕ) (result : Result (Unit {0}) Stop) → Running (CachedAnswers answers) old mid a words b → asked ≡ b.asked → kept ≡ b.kept → PrintedAs mid now (counts_line asked kept) result
      → Copied answers old now a words (code_by result) b
  copied_counted old mid now a b words asked kept result so one two last =
      copied_end old mid now a b words result so (subst (λ k. PrintedAs mid now (counts_line b.asked k) result) two (subst (λ n. PrintedAs mid now (counts_line n kept) result) one last))

  abbrev End : Caching S → List Text → Stop → Caching S → Type 0
  End last rest why b = Ends answers last rest (code_by (Err why)) [] b

  end_by : (last b : Caching S) (rest : List Text) (why : Stop) → StopsBy (CachedAnswers answers) last rest why b → End last rest why b
  end_by last b rest stop.AskFault stops = Ends.unanswered stops.1.1.0 stops.1.1.1
  end_by last b rest stop.WriteFault stops = subst (λ to. Ends answers last rest 3 [] to) (sym stops) (Ends.cut refl)
  end_by last b rest stop.OutOfMemory (inl same) = subst (λ to. Ends answers last rest 4 [] to) (sym same) (Ends.cut refl)
  end_by last b rest stop.OutOfMemory (inr stops) = Ends.wanting stops.1.1.0 stops.1.1.1

  whole_by : (old now : Option Text) (text : Text) (why : Stop) → WrittenBy (CachedAnswers answers) old now text why → is_cut (code_by (Err why)) ≡ false → Appends old now (text ++ [])
  whole_by old now text stop.AskFault so uncut = subst (λ xs. Appends old now xs) (sym (append-nil text)) so
  whole_by old now text stop.WriteFault so uncut = uncut_is_absurd 3 refl uncut
  whole_by old now text stop.OutOfMemory so uncut = uncut_is_absurd 4 refl uncut

  part_by : (old now : Option Text) (text : Text) (why : Stop) → WrittenBy (CachedAnswers answers) old now text why → WritesPart old now (text ++ [])
  part_by old now text stop.AskFault so = subst (λ xs. WritesPart old now xs) (sym (append-nil text)) (WritesPart-all text so)
  part_by old now text stop.WriteFault so = subst (λ xs. WritesPart old now xs) (sym (append-nil text)) so
  part_by old now text stop.OutOfMemory so = subst (λ xs. WritesPart old now xs) (sym (append-nil text)) so

  -- not all were
  pub copied_stop : (old now : Option Text) (a b : Caching S) (words : List Text) (why : Stop) → Stopped (CachedAnswers answers) old now a words why b → Copied answers old now a words (code_by (Err why)) b
  copied_stop old now a b words why so = record {
    done = so.done;
    rest = so.rest;
    cut = so.cut;
    dids = so.dids;
    last = so.last;
    run = so.run;
    tail = [];
    ends = end_by so.last b so.rest why so.stops;
    whole = whole_by old now (printed so.dids) why so.written;
    part = part_by old now (printed so.dids) why so.written;
  }

  -- there was no memory for a cache
  pub copied_none : (held : Option Text) (a : S) (words : List Text) → CopiedOver answers held held a words 4 a
  copied_none held a words = record {
    end = caching a copy_capacity;
    copied = record {
      done = [];
      rest = words;
      cut = refl;
      dids = [];
      last = caching a copy_capacity;
      run = refl;
      tail = [];
      ends = Ends.cut refl;
      whole = λ uncut. uncut_is_absurd 4 refl uncut;
      part = WritesPart-none held [];
    };
    left = refl;
  }

-- ---- over a table

-- what was got is no want of an answer or of memory
got_is : (result : Result (List ℕ) ClientFault) (did : PathDid) → result_of_get result ≡ Ok did → (did ≡ PathDid.Got result) × ((result ≢ Err client.Failed) × (result ≢ Err client.OutOfMemory))
got_is (Ok bytes) did is = (cc, (λ e. cc, λ e. cc))
got_is (Err client.Failed) did is = absurd (cc)
got_is (Err client.OutOfMemory) did is = absurd (cc)
got_is (Err fault) did is = (cc, (λ e. cc, λ e. cc))

module _ {T : Type 0} (answers : T → Request → Option Reply → T → Type 0) (rows : List (Request × Reply)) (start : T) (steady : IsSteady answers rows start) where
  path_leads : (a b : T) (word : Text) (came : PathResult) → Leads answers start a → PathCame answers a word came b → Leads answers start b
  path_leads a b word came way (PathCame.bad_path none) = way
  path_leads a b word came way (PathCame.got {path = path} {result = result} some held) = held_leads answers start (get_talk path) result a b way held
  path_leads a b word came way PathCame.unread = way

  path_plain : (a b : T) (word : Text) (came : PathResult) (did : PathDid) → Leads answers start a → PathCame answers a word came b → came ≡ Ok did → PlainDid rows word did
  path_plain a b word came did way (PathCame.bad_path none) is = subst (PlainDid rows word) (bad did is) (PlainDid.plain_none none)
    where
      bad : (d : PathDid) → ◌≡◌ {A = PathResult} (Ok PathDid.BadPath) (Ok d) → PathDid.BadPath ≡ d
      bad d e = cc
  path_plain a b word came did way (PathCame.got {path = path} {result = result} some held) is =
      let got = got_is result did is in
      subst (PlainDid rows word) (sym got.0) (PlainDid.plain_got some (got_plain answers rows start steady path result a b way held got.1.0 got.1.1))
  path_plain a b word came did way PathCame.unread is = absurd (cc)

  run_plain : (a b : T) (words : List Text) (dids : List PathDid) → Leads answers start a → Run (PathDoes answers) a words dids b → AllZip (PlainDid rows) words dids
  run_plain a b [] [] way run = tt
  run_plain a b (word ∷ words) (did ∷ dids) way run =
      (path_plain a run.0 word (Ok did) did way run.1.0 refl, run_plain run.0 b words dids (path_leads a run.0 word (Ok did) way run.1.0) run.1.1)
  run_plain a b [] (did ∷ dids) way run = absurd run
  run_plain a b (word ∷ words) [] way run = absurd run

module _ {S : Type 0} (answers : S → Request → Option Reply → S → Type 0) where
  -- a run that ends with 0 ends at its end
  abbrev AtEnd : Caching S → List Text → Text → Type 0
  AtEnd last rest tail = (rest ≡ []) × (tail ≡ counts_line last.asked last.kept)

  ends_so : (last b : Caching S) (rest : List Text) (status : ℕ) (tail : Text) → Ends answers last rest status tail b → status ≡ 0 → AtEnd last rest tail
  ends_so last b rest status tail (Ends.at_end none) is = (none, refl)
  ends_so last b rest status tail (Ends.unanswered next came) is = absurd (omega (arith, is))
  ends_so last b rest status tail (Ends.wanting next came) is = absurd (omega (arith, is))
  ends_so last b rest status tail (Ends.cut cut) is = uncut_is_absurd status cut (ap is_cut is)
  ends_so last b rest status tail (Ends.cut_at_end cut none) is = uncut_is_absurd status cut (ap is_cut is)

  -- what is copied over somebody who is steady with a table is what the table says
  pub copied_plainly : (rows : List (Request × Reply)) (old now : Option Text) (a b : S) (words : List Text) (status : ℕ) → IsSteady answers rows a → CopiedOver answers old now a words status b → status ≡ 0 → PlainlyCopied rows old now words
  copied_plainly rows old now a b words status steady over is =
      let copied = over.copied in
      let ends = ends_so copied.last over.end copied.rest status copied.tail copied.ends is in
      let all : copied.done ≡ words = sym (append-nil copied.done) ∙ ap (λ xs. copied.done ++ xs) (sym ends.0) ∙ copied.cut in
      record {
        dids = copied.dids;
        each = subst (λ ws. AllZip (PlainDid rows) ws copied.dids) all
            (run_plain (CachedAnswers answers) rows (caching a copy_capacity) (cache_steady answers rows a steady copy_capacity) (caching a copy_capacity) copied.last copied.done copied.dids Leads.here copied.run);
        asked = copied.last.asked;
        kept = copied.last.kept;
        written = subst (λ tail. Appends old now (printed copied.dids ++ tail)) ends.1 (copied.whole (ap is_cut is));
      }

-- ---- the command

-- there was no memory to read the words
pub none_copied : {S : Type 0} (answers : S → Request → Option Reply → S → Type 0) (found : Option UserName) (held : Option Text) (a : S) (words : List Text) (status : ℕ) → status ≡ 4 → IfSome found (λ user. CopiedOver answers held held a words status a)
none_copied answers None held a words status is = tt
none_copied answers (Some user) held a words status is = subst (λ n. CopiedOver answers held held a words n a) (sym is) (copied_none answers held a words)

module _ {S : Type 0} (answers : S → Request → Option Reply → S → Type 0) (found : Option UserName) (user : UserName) (is : found ≡ Some user) (old now : Option Text) (a b : S) (words paths : List Text) (same : words ≡ paths)
    (status code : ℕ) (coded : status ≡ code) (copied : CopiedOver answers old now a words code b) where
  over_paths : CopiedOver answers old now a paths status b
  over_paths = subst (λ n. CopiedOver answers old now a paths n b) (sym coded) (subst (λ ws. CopiedOver answers old now a ws code b) same copied)

  pub copied_steady : IfSome found (λ u. (rows : List (Request × Reply)) → IsSteady answers rows a → status ≡ 0 → PlainlyCopied rows old now paths)
  copied_steady =
      subst (λ (one : Option UserName). IfSome one (λ u. (rows : List (Request × Reply)) → IsSteady answers rows a → status ≡ 0 → PlainlyCopied rows old now paths)) (sym is)
      (λ rows steady zero_is. copied_plainly answers rows old now a b paths status steady over_paths zero_is)
