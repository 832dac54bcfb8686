-- How the loop over the lines keeps its meaning.
use Rattle.std.proofs.Common.{◌≡◌, ◌+◌, ℕ, true, false, List, [], ◌∷◌, ◌++◌, length, inl, inr, IfOk, OnOk, Option, Result, Ok, Err, refl, sym, ap, subst, ◌∙◌, append_assoc, append-nil, length-append, arith}
use Rattle.std.proofs.lemmas.Grind.{flat_map-append}
use Rattle.std.specs.Io.KnownBytes.{Appends}
use Rattle.up_command.proofs.GatherLemmas.{all-more, going-more, part-more}
use Rattle.up_command.specs.Statuses.{code_by, code_of, is_cut}
use Rattle.up_command.specs.declared.output.Stop.{Stop}
use Rattle.up_command.specs.declared.output.Stop.TheVariants as out
use Rattle.up_command.specs.declared.status.Status.{Status}
use Rattle.up_disk.specs.declared.disk.Disk as disk
use Rattle.up_ends.specs.Writing.{Going, WritesPart}
use Rattle.up_ends.proofs.Going.{Going-none, WritesPart-all, WritesPart-none}
use Rattle.up_follow.specs.declared.feed.Feed as feed
use Rattle.up_lists.proofs.RunLemmas.{Run-snoc}
use Rattle.up_lists.specs.Runs.{Run}
use Rattle.up_names.specs.Texts.{Text}
use Rattle.up_following.proofs.StayLemmas.{line_stays, stays_same, stays_then}
use Rattle.up_following.specs.FollowRuns.{Ends, Followed, LineDoes, Stays, printed, stop_code, stop_text}
use Rattle.up_following.specs.FollowTurns.{LineResult, LineDid, LineCame, LineGathered, World, did_text}
use Rattle.up_following.specs.declared.stop.LineStop.{LineStop}
use Rattle.up_following.specs.declared.stop.LineStop.TheVariants as stop

module _ {D F : Type 0} (disks : disk.Ghosts D) (feeds : feed.Ghosts F) where
  -- Some first lines were done, and what they print was written, but for what is gathered.
  pub record Running (old now : Option Text) (gathered : Text) (a b : World D F) (lines left : List Text) (number : ℕ) : Type 0 where
    pub done : List Text
    pub cut : done ++ left ≡ lines
    pub dids : List LineDid
    pub run : Run (LineDoes disks feeds) a done dids b
    pub text : Going old now gathered (printed dids)
    pub count : number ≡ length done + 1
    pub stays : Stays disks feeds a b

  pub Running-none : (held : Option Text) (gathered : Text) (a : World D F) (lines : List Text) → gathered ≡ [] → Running held held gathered a a lines lines 1
  Running-none held gathered a lines none = record {
    done = [];
    cut = refl;
    dids = [];
    run = refl;
    text = subst (λ xs. Going held held xs []) (sym none) (Going-none held []);
    count = refl;
    stays = stays_same disks feeds a;
  }

  printed-more : (dids : List LineDid) (did : LineDid) → printed (dids ++ did ∷ []) ≡ printed dids ++ did_text did
  printed-more dids did = flat_map-append did_text dids (did ∷ []) ∙ ap (λ xs. printed dids ++ xs) (append-nil (did_text did))

  -- a line was done
  Running-more : (old mid now : Option Text) (gathered kept : Text) (a b c : World D F) (lines : List Text) (line : Text) (more : List Text) (number : ℕ) (did : LineDid)
      → Running old mid gathered a b lines (line ∷ more) number → LineCame disks feeds b line (Ok did) c → Going mid now kept (gathered ++ did_text did) → Running old now kept a c lines more (number + 1)
  Running-more old mid now gathered kept a b c lines line more number did h came text = record {
    done = h.done ++ line ∷ [];
    cut = append_assoc h.done (line ∷ []) more ∙ h.cut;
    dids = h.dids ++ did ∷ [];
    run = Run-snoc (LineDoes disks feeds) a b c h.done line h.dids did h.run came;
    text = subst (λ xs. Going old now kept xs) (sym (printed-more h.dids did)) (going-more old mid now gathered kept (did_text did) (printed h.dids) h.text text);
    count = let k : length (h.done ++ line ∷ []) ≡ length h.done + 1 = length-append h.done (line ∷ []) in omega (arith, h.count, k);
    stays = stays_then disks feeds a b c h.stays (line_stays disks feeds b c line (Ok did) came);
  }

  -- there is no line left
  pub Followed-end : (old mid now : Option Text) (gathered : Text) (a b : World D F) (lines : List Text) (number : ℕ) → Running old mid gathered a b lines [] number → Appends mid now (gathered ++ []) → Followed disks feeds old now a lines 0 b
  Followed-end old mid now gathered a b lines number h text =
      let all = all-more old mid now gathered [] (printed h.dids) h.text text in
      record {
        done = h.done;
        left = [];
        cut = h.cut;
        dids = h.dids;
        last = b;
        run = h.run;
        tail = [];
        code = 0;
        ends = Ends.at_end;
        status_is = λ whole. refl;
        whole = λ whole. all;
        part = WritesPart-all (printed h.dids ++ []) all;
        stays = h.stays;
      }

  -- no more could be written, or gathered: behind any number of lines
  Followed-cut : (old mid now : Option Text) (gathered : Text) (a b : World D F) (lines left : List Text) (number status : ℕ) → Running old mid gathered a b lines left number → is_cut status ≡ true → WritesPart mid now (gathered ++ []) → Followed disks feeds old now a lines status b
  Followed-cut old mid now gathered a b lines left number status h cut text = record {
    done = h.done;
    left = left;
    cut = h.cut;
    dids = h.dids;
    last = b;
    run = h.run;
    tail = [];
    code = 3;
    ends = Ends.unwritten;
    status_is = λ whole. absurd (let e : true ≡ false = sym cut ∙ whole in cc);
    whole = λ whole. absurd (let e : true ≡ false = sym cut ∙ whole in cc);
    part = part-more old mid now gathered [] (printed h.dids) h.text text;
    stays = h.stays;
  }

  -- the next line was not done
  Followed-stop : (old mid now : Option Text) (gathered : Text) (a b c : World D F) (lines : List Text) (line : Text) (more : List Text) (number status : ℕ) (why : LineStop)
      → Running old mid gathered a b lines (line ∷ more) number → LineCame disks feeds b line (Err why) c
      → (is_cut status ≡ false → status ≡ stop_code why) → (is_cut status ≡ false → Appends mid now (gathered ++ stop_text number why)) → WritesPart mid now (gathered ++ stop_text number why)
      → Followed disks feeds old now a lines status c
  Followed-stop old mid now gathered a b c lines line more number status why h came code whole part =
      let ends : Ends disks feeds b number (line ∷ more) (stop_text number why) (stop_code why) c = Ends.stopped why came in
      record {
        done = h.done;
        left = line ∷ more;
        cut = h.cut;
        dids = h.dids;
        last = b;
        run = h.run;
        tail = stop_text number why;
        code = stop_code why;
        ends = subst (λ n. Ends disks feeds b n (line ∷ more) (stop_text number why) (stop_code why) c) h.count ends;
        status_is = code;
        whole = λ is. all-more old mid now gathered (stop_text number why) (printed h.dids) h.text (whole is);
        part = part-more old mid now gathered (stop_text number why) (printed h.dids) h.text part;
        stays = stays_then disks feeds a b c h.stays (line_stays disks feeds b c line (Err why) came);
      }

  -- ---- by what the calls of the loop answer

  -- a line was done, and perhaps all that is gathered was written
  pub Running-turned : (old mid now : Option Text) (gathered next kept : Text) (a b c : World D F) (lines : List Text) (line : Text) (more : List Text) (number : ℕ) (result : Result (Unit {0}) LineStop)
      → Running old mid gathered a b lines (line ∷ more) number → LineGathered (λ came. LineCame disks feeds b line came c) gathered result next → result ≡ Ok tt → Going mid now kept next → Running old now kept a c lines more (number + 1)
  Running-turned old mid now gathered next kept a b c lines line more number (Ok done) h turned is text =
      Running-more old mid now gathered kept a b c lines line more number turned.0 h turned.1.0 (subst (λ xs. Going mid now kept xs) turned.1.1 text)
  Running-turned old mid now gathered next kept a b c lines line more number (Err why) h turned is text = absurd (cc)

  -- a write fault, or want of memory
  cut_by : (why : Stop) → is_cut (code_by (Err why)) ≡ true
  cut_by out.WriteFault = refl
  cut_by out.OutOfMemory = refl

  -- what was gathered could not be written
  pub Followed-fault : (old mid now : Option Text) (gathered : Text) (a b : World D F) (lines left : List Text) (number : ℕ) (why : Stop) (ended : Result Status Stop) → ended ≡ Err why → Running old mid gathered a b lines left number → WritesPart mid now (gathered ++ [])
      → Followed disks feeds old now a lines (code_by ended) b
  Followed-fault old mid now gathered a b lines left number why ended is h part =
      Followed-cut old mid now gathered a b lines left number (code_by ended) h (ap (λ r. is_cut (code_by r)) is ∙ cut_by why) part

  -- what a line printed is gathered, and could not be written
  pub Followed-unwritten : (old mid now : Option Text) (gathered next : Text) (a b c : World D F) (lines : List Text) (line : Text) (more : List Text) (number : ℕ) (result : Result (Unit {0}) LineStop) (why : Stop) (ended : Result Status Stop)
      → Running old mid gathered a b lines (line ∷ more) number → LineGathered (λ came. LineCame disks feeds b line came c) gathered result next → result ≡ Ok tt → ended ≡ Err why → WritesPart mid now next → Followed disks feeds old now a lines (code_by ended) c
  Followed-unwritten old mid now gathered next a b c lines line more number result why ended h turned done is part =
      Followed-fault old mid now next a c lines more (number + 1) why ended is (Running-turned old mid mid gathered next next a b c lines line more number result h turned done (Going-none mid next)) (subst (WritesPart mid now) (sym (append-nil next)) part)

  code_stop : (ended : Result Status Stop) (why : LineStop) → IfOk ended (λ status. code_of status ≡ stop_code why) → is_cut (code_by ended) ≡ false → code_by ended ≡ stop_code why
  code_stop (Ok status) why code whole = code
  code_stop (Err e) why code whole = absurd (let k : true ≡ false = sym (cut_by e) ∙ whole in cc)

  whole_stop : (ended : Result Status Stop) (A : Type 0) → OnOk ended A → is_cut (code_by ended) ≡ false → A
  whole_stop (Ok status) A given whole = given
  whole_stop (Err e) A given whole = absurd (let k : true ≡ false = sym (cut_by e) ∙ whole in cc)

  -- a line was not done, or there was no memory for its text
  pub Followed-turned : (old mid now : Option Text) (gathered next : Text) (a b c : World D F) (lines : List Text) (line : Text) (more : List Text) (number : ℕ) (why : LineStop) (ended : Result Status Stop)
      → Running old mid gathered a b lines (line ∷ more) number → LineGathered (λ came. LineCame disks feeds b line came c) gathered (Err why) next
      → IfOk ended (λ status. code_of status ≡ stop_code why) → OnOk ended (Appends mid now (next ++ stop_text number why)) → WritesPart mid now (next ++ stop_text number why) → (why ≡ stop.OutOfMemory → now ≡ mid) → (why ≡ stop.OutOfMemory → ended ≡ Err out.OutOfMemory)
      → Followed disks feeds old now a lines (code_by ended) c
  Followed-turned old mid now gathered next a b c lines line more number stop.Malformed ended h turned code whole part same kind =
      let g : next ≡ gathered = turned.1 in
      Followed-stop old mid now gathered a b c lines line more number (code_by ended) stop.Malformed h turned.0 (code_stop ended stop.Malformed code)
      (whole_stop ended _ (subst (λ xs. OnOk ended (Appends mid now (xs ++ stop_text number stop.Malformed))) g whole)) (subst (λ xs. WritesPart mid now (xs ++ stop_text number stop.Malformed)) g part)
  Followed-turned old mid now gathered next a b c lines line more number stop.OutOfMemory ended h (inl came) code whole part same kind =
      Followed-stop old mid now gathered a b c lines line more number (code_by ended) stop.OutOfMemory h came
      (λ uncut. absurd (let e : is_cut (code_by ended) ≡ true = ap (λ r. is_cut (code_by r)) (kind refl) in let k : true ≡ false = sym e ∙ uncut in cc))
      (λ uncut. absurd (let e : is_cut (code_by ended) ≡ true = ap (λ r. is_cut (code_by r)) (kind refl) in let k : true ≡ false = sym e ∙ uncut in cc))
      (subst (λ to. WritesPart mid to (gathered ++ [])) (sym (same refl)) (WritesPart-none mid (gathered ++ [])))
  Followed-turned old mid now gathered next a b c lines line more number stop.OutOfMemory ended h (inr made) code whole part same kind =
      let go : Going mid mid (gathered ++ did_text made.0) (gathered ++ did_text made.0) = Going-none mid (gathered ++ did_text made.0) in
      let after = Running-more old mid mid gathered (gathered ++ did_text made.0) a b c lines line more number made.0 h made.1 go in
      Followed-cut old mid now (gathered ++ did_text made.0) a c lines more (number + 1) (code_by ended) after (ap (λ r. is_cut (code_by r)) (kind refl))
      (subst (λ to. WritesPart mid to ((gathered ++ did_text made.0) ++ [])) (sym (same refl)) (WritesPart-none mid ((gathered ++ did_text made.0) ++ [])))
