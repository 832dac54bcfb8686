-- How a batch is added, text by text.
use Rattle.std.proofs.Common.{◌≡◌, ◌≢◌, ◌<◌, ◌+◌, ℕ, Bool, true, false, ◌||◌, cond, List, [], ◌∷◌, ◌++◌, length, Option, Some, None, Result, Ok, Err, IfOk, IsErrAnd, refl, sym, ap, subst, ◌∙◌, append_assoc, append-nil, length-append, ◌⊎◌, inl, inr, ⊎_elim, arith}
use Rattle.std.specs.Option.{option_and_then}
use Rattle.std.specs.Prelude.{nat_lt}
use Rattle.up_dir.specs.Crashes.{image_log}
use Rattle.up_disk.proofs.Moments.{joined, started, weaker}
use Rattle.up_disk.specs.Disk.{LeavesOnly}
use Rattle.up_disk.specs.Leaving.{LeavesNow}
use Rattle.up_disk.specs.declared.disk.Disk.{Ghosts}
use Rattle.up_entry.specs.declared.records.Rec.{Rec}
use Rattle.up_follow.proofs.BatchLemmas.{records_append, records_one}
use Rattle.up_follow.proofs.PullLemmas.{starts}
use Rattle.up_follow.specs.Feeds.{AreFirst}
use Rattle.up_follow.specs.Pulls.{HasNext, HasSome, IsStrange, MayHaveSome, StopsAt, Takes}
use Rattle.up_follow.specs.Taking.{IsAdded, IsHindered, TakesFitting, TakesRecord, TakesText, fitting_in, if_fits, passes_limits}
use Rattle.up_follow.specs.declared.fault.FollowWhy.{FollowWhy}
use Rattle.up_follow.specs.declared.fault.FollowWhy.TheVariants as why
use Rattle.up_journal.specs.Journal.{is_full}
use Rattle.up_journal.specs.Damages.{Damage}
use Rattle.up_journal.specs.Logs.{HasOneMore, MayHaveLog, StandsForLog}
use Rattle.up_journal.specs.Records.{records_of}
use Rattle.up_journal.specs.declared.fault.AppendWhy.{AppendWhy}
use Rattle.up_journal.specs.declared.fault.AppendWhy.TheVariants as append
use Rattle.up_journal.specs.declared.limits.Limits.{Limits}
use Rattle.up_log_tree.specs.Fits.{fits}
use Rattle.up_log_tree.specs.Sizes.{size_of, sizes_of}
use Rattle.up_follow.specs.Whys.{why_of_append}
use Rattle.up_ends.specs.Growing.{OnlyGrows}
use Rattle.up_lists.proofs.BeginsLemmas.{Begins-self, Begins-trans}
use Rattle.up_tree.specs.States.{Applies, State, entries_of, fixed_of, record_in, records_in}

-- ---- one record

pub fits_found : (owner : List ℕ) (log : List Rec) (text : List ℕ) (rec : Rec) → record_in text ≡ Some rec → fits owner log rec ≡ true → fitting_in owner log text ≡ Some rec
fits_found owner log text rec decoded fitted = ap (option_and_then (if_fits owner log)) decoded ∙ ap (λ b. cond b (Some rec) None) fitted

pub unfit_none : (owner : List ℕ) (log : List Rec) (text : List ℕ) (rec : Rec) → record_in text ≡ Some rec → fits owner log rec ≡ false → fitting_in owner log text ≡ None
unfit_none owner log text rec decoded unfit = ap (option_and_then (if_fits owner log)) decoded ∙ ap (λ b. cond b (Some rec) None) unfit

pub undecoded_none : (owner : List ℕ) (log : List Rec) (text : List ℕ) → record_in text ≡ None → fitting_in owner log text ≡ None
undecoded_none owner log text none = ap (option_and_then (if_fits owner log)) none

module _ {D : Type 0} (disks : Ghosts D) where
  -- what came of a record that a text spells came of the text
  pub takes_text : (text : List ℕ) (rec : Rec) (old new : State D) (result : Result (Unit {0}) FollowWhy) → record_in text ≡ Some rec → fits old.owner old.log rec ≡ true
      → TakesRecord disks rec old new result → TakesText disks text old new result
  takes_text text rec old new (Ok done) decoded fitted takes = record { rec = rec; decoded = decoded; fits_it = fitted; takes = takes }
  takes_text text rec old new (Err (why.Full records)) decoded fitted takes = record { rec = rec; decoded = decoded; fits_it = fitted; takes = takes }
  takes_text text rec old new (Err why.Io) decoded fitted takes = record { rec = rec; decoded = decoded; fits_it = fitted; takes = takes }
  takes_text text rec old new (Err why.OutOfMemory) decoded fitted takes = takes
  takes_text text rec old new (Err (why.Strange position)) decoded fitted takes = absurd takes
  takes_text text rec old new (Err why.Failed) decoded fitted takes = absurd takes

  -- one that is strange, unless there are more records than memory holds
  pub takes_strange : (state : State D) (text : List ℕ) (reason : FollowWhy) (records : ℕ) → records ≡ length state.log → (reason ≡ why.Strange (records + 1)) ⊎ (reason ≡ why.OutOfMemory)
      → fitting_in state.owner state.log text ≡ None → TakesText disks text state state (Err reason)
  takes_strange state text reason records count which none = ⊎_elim
      (λ (is : reason ≡ why.Strange (records + 1)). subst (λ (r : FollowWhy). TakesText disks text state state (Err r)) (sym is) (refl, none, ap (λ n. n + 1) count))
      (λ (is : reason ≡ why.OutOfMemory). subst (λ (r : FollowWhy). TakesText disks text state state (Err r)) (sym is) refl)
      which

  -- what the tree answered
  passes_as : (a b : Bool) → a ≡ false → b ≡ false → (a || b) ≡ false
  passes_as true b one two = absurd (let e : true ≡ false = one in cc)
  passes_as false b one two = two

  passes_full : (a b : Bool) → b ≡ true → (a || b) ≡ true
  passes_full true b full = refl
  passes_full false b full = full

  pub passes_large : (a b : Bool) → a ≡ true → (a || b) ≡ true
  passes_large true b large = refl
  passes_large false b large = absurd (let e : false ≡ true = large in cc)

  not_full : (rec : Rec) (old new : State D) → Applies disks rec old new (Err append.Fault) → is_full old.limits (sizes_of old.log) (size_of rec) ≡ false
  not_full rec old new applies = by (is_full old.limits (sizes_of old.log) (size_of rec)) refl
    where
      by : (b : Bool) → is_full old.limits (sizes_of old.log) (size_of rec) ≡ b → b ≡ false
      by false is = refl
      by true is = absurd (let e = applies.full is (λ bad. cc) in cc)

  pub takes_added : (rec : Rec) (old new : State D) (position : ℕ) → Applies disks rec old new (Ok position) → TakesRecord disks rec old new (Ok tt)
  takes_added rec old new position applies = record { position = position; applies = applies }

  pub takes_refused : (rec : Rec) (old new : State D) (reason : AppendWhy) → nat_lt old.limits.largest (size_of rec) ≡ false → Applies disks rec old new (Err reason)
      → TakesRecord disks rec old new (Err (why_of_append reason))
  takes_refused rec old new (append.Full records) within applies =
      let full = applies.full_only records refl in
      (applies.untouched (λ bad. cc), passes_full (nat_lt old.limits.largest (size_of rec)) (is_full old.limits (sizes_of old.log) (size_of rec)) full.0, full.1)
  takes_refused rec old new append.Fault within applies = record {
    room = passes_as (nat_lt old.limits.largest (size_of rec)) (is_full old.limits (sizes_of old.log) (size_of rec)) within (not_full rec old new applies);
    applies = applies;
  }
  takes_refused rec old new append.OutOfMemory within applies = applies.untouched (λ bad. cc)

  -- ---- a batch

  -- nothing was added, or all that was is there after each crash
  pub record IsThere (state : State D) : Type 0 where
    pub nothing : state.further ≡ None
    pub leaves : LeavesNow disks state.disk (λ image. image_log state image ≡ Ok state.log)

  -- Of a batch the records of some first texts were added, and these are left.
  pub record Taking (batch left : List (List ℕ)) (old now : State D) : Type 0 where
    pub added : List Rec
    pub taken : List (List ℕ)
    pub cut : taken ++ left ≡ batch
    pub spelled : records_of record_in taken ≡ Some added
    pub log : now.log ≡ old.log ++ added
    pub fixed : fixed_of now ≡ fixed_of old
    pub there : (now ≡ old) ⊎ IsThere now
    pub any_moment : LeavesOnly disks.moment disks.left_since old.disk now.disk (MayHaveSome old batch)

  module _ (only_now : (disk : D) (image : List ℕ) → disks.left_since disk (disks.moment disk) image → disks.may_leave disk image) where
    pub taking_none : (state : State D) (batch : List (List ℕ)) → LeavesNow disks state.disk (StandsForLog (image_log state) state.log state.further) → Taking batch batch state state
    taking_none state batch safe = record {
      added = [];
      taken = [];
      cut = refl;
      spelled = refl;
      log = sym (append-nil state.log);
      fixed = refl;
      there = inl refl;
      any_moment = started disks.moment disks.left_since state.disk (MayHaveSome state batch) (starts disks only_now state batch safe);
    }

  image_same : (a b : State D) (image : List ℕ) → fixed_of a ≡ fixed_of b → image_log a image ≡ image_log b image
  image_same a b image same = ap (λ (f : List ℕ × Limits). records_in (f.0) ((f.1).largest) image) same

  one_more : (batch left more : List (List ℕ)) (text : List ℕ) (added : List Rec) (taken : List (List ℕ)) (rec : Rec) → taken ++ left ≡ batch → left ≡ text ∷ more
      → records_of record_in taken ≡ Some added → record_in text ≡ Some rec → AreFirst (added ++ rec ∷ []) batch
  one_more batch left more text added taken rec cut next spelled decoded = record {
    front = taken ++ text ∷ [];
    rest = more;
    cut = append_assoc taken (text ∷ []) more ∙ ap (λ (l : List (List ℕ)). taken ++ l) (sym next) ∙ cut;
    spelled = records_append record_in taken (text ∷ []) added (rec ∷ []) spelled (records_one record_in text rec decoded);
  }

  module _ (batch left more : List (List ℕ)) (text : List ℕ) (old mid : State D) where
    -- a crash as the next record is added leaves some first records of the batch, or what it could leave before
    may_have_next : (rec : Rec) → left ≡ text ∷ more → record_in text ≡ Some rec → (so_far : Taking batch left old mid)
        → (image : List ℕ) → MayHaveLog (image_log mid) mid.log mid.further rec image → MayHaveSome old batch image
    may_have_next rec next decoded so_far image may = ⊎_elim stands (λ has. inr (grown has)) may
      where
        as_old : (result : Result (List Rec) Damage) → image_log mid image ≡ result → image_log old image ≡ result
        as_old result is = sym (image_same mid old image so_far.fixed) ∙ is

        whole : image_log mid image ≡ Ok mid.log → HasSome old batch image
        whole has = record {
          some = so_far.added;
          first = record { front = so_far.taken; rest = left; cut = so_far.cut; spelled = so_far.spelled };
          has = as_old (Ok (old.log ++ so_far.added)) (has ∙ ap Ok so_far.log);
        }

        grown : image_log mid image ≡ Ok (mid.log ++ rec ∷ []) → HasSome old batch image
        grown has = record {
          some = so_far.added ++ rec ∷ [];
          first = one_more batch left more text so_far.added so_far.taken rec so_far.cut next so_far.spelled decoded;
          has = as_old (Ok (old.log ++ (so_far.added ++ rec ∷ []))) (has ∙ ap (λ (l : List Rec). Ok (l ++ rec ∷ [])) so_far.log ∙ ap Ok (append_assoc old.log so_far.added (rec ∷ [])));
        }

        further : HasOneMore (image_log mid) mid.log mid.further image → MayHaveSome old batch image
        further one = ⊎_elim
            (λ (same : mid ≡ old). inl (inr (subst (λ (s : State D). HasOneMore (image_log s) s.log s.further image) same one)))
            (λ (is : IsThere mid). absurd (let e = sym is.nothing ∙ one.held in cc))
            so_far.there

        stands : StandsForLog (image_log mid) mid.log mid.further image → MayHaveSome old batch image
        stands known = ⊎_elim (λ has. inr (whole has)) further known

    goes : (new : State D) (result : Result ℕ AppendWhy) (rec : Rec) → left ≡ text ∷ more → record_in text ≡ Some rec → (so_far : Taking batch left old mid) → Applies disks rec mid new result
        → LeavesOnly disks.moment disks.left_since old.disk new.disk (MayHaveSome old batch)
    goes new result rec next decoded so_far applies =
        joined disks.moment disks.left_since old.disk mid.disk new.disk (MayHaveSome old batch) so_far.any_moment
        (weaker disks.moment disks.left_since mid.disk new.disk (MayHaveLog (image_log mid) mid.log mid.further rec) (MayHaveSome old batch) applies.added.crash.any_moment
        (may_have_next rec next decoded so_far))

    fixed_same : (new : State D) (result : Result ℕ AppendWhy) (rec : Rec) → Applies disks rec mid new result → fixed_of new ≡ fixed_of mid
    fixed_same new result rec applies = let owner : new.owner ≡ mid.owner = applies.owner in let limits : new.limits ≡ mid.limits = applies.added.limits in cc

    -- the next record was added
    pub taking_more : (new : State D) → left ≡ text ∷ more → Taking batch left old mid → TakesText disks text mid new (Ok tt) → Taking batch more old new
    taking_more new next so_far took =
        let a = took.takes.applies in
        let fixed = fixed_same new (Ok took.takes.position) took.rec a in
        let first = one_more batch left more text so_far.added so_far.taken took.rec so_far.cut next so_far.spelled took.decoded in
        record {
          added = so_far.added ++ took.rec ∷ [];
          taken = so_far.taken ++ text ∷ [];
          cut = append_assoc so_far.taken (text ∷ []) more ∙ ap (λ (l : List (List ℕ)). so_far.taken ++ l) (sym next) ∙ so_far.cut;
          spelled = records_append record_in so_far.taken (text ∷ []) so_far.added (took.rec ∷ []) so_far.spelled (records_one record_in text took.rec took.decoded);
          log = a.added.log ∙ ap (λ (l : List Rec). l ++ took.rec ∷ []) so_far.log ∙ append_assoc old.log so_far.added (took.rec ∷ []);
          fixed = fixed ∙ so_far.fixed;
          there = inr (record {
            nothing = a.added.settled.nothing;
            leaves = record { each = λ image may. image_of new took a image (a.added.acknowledged.each image may) };
          });
          any_moment = goes new (Ok took.takes.position) took.rec next took.decoded so_far a;
        }
      where
        image_of : (new : State D) (took : TakesText disks text mid new (Ok tt)) (a : Applies disks took.rec mid new (Ok took.takes.position)) (image : List ℕ)
            → records_in mid.owner new.limits.largest image ≡ Ok new.log → image_log new image ≡ Ok new.log
        image_of new took a image is = ap (λ (o : List ℕ). records_in o new.limits.largest image) a.owner ∙ is

  acknowledged : (batch left : List (List ℕ)) (old now : State D) (so_far : Taking batch left old now) → 0 < length so_far.added → LeavesNow disks now.disk (λ image. image_log now image ≡ Ok now.log)
  acknowledged batch left old now so_far lt = ⊎_elim
      (λ (same : now ≡ old).
      let logs : old.log ≡ old.log ++ so_far.added = ap (λ (s : State D). s.log) (sym same) ∙ so_far.log in
      absurd (omega (arith, lt, ap length logs, length-append old.log so_far.added)))
      (λ (is : IsThere now). is.leaves)
      so_far.there

  -- all of them were
  pub takes_all : (batch : List (List ℕ)) (old now : State D) (count : ℕ) → count ≡ length batch → Taking batch [] old now → Takes disks batch old now (Ok count)
  takes_all batch old now count is so_far = record {
    added = so_far.added;
    taken = so_far.taken;
    left = [];
    cut = so_far.cut;
    spelled = so_far.spelled;
    log = so_far.log;
    count = is;
    stops = refl;
    any_moment = so_far.any_moment;
    acknowledged = λ _ lt. acknowledged batch [] old now so_far lt;
  }

  -- the next one was not, and the log is as before it
  stopped : (batch left : List (List ℕ)) (old mid new : State D) (reason : FollowWhy) → new ≡ mid → Taking batch left old mid → StopsAt mid left (Err reason) → Takes disks batch old new (Err reason)
  stopped batch left old mid new reason same so_far stops = subst (λ (s : State D). Takes disks batch old s (Err reason)) (sym same) (record {
    added = so_far.added;
    taken = so_far.taken;
    left = left;
    cut = so_far.cut;
    spelled = so_far.spelled;
    log = so_far.log;
    count = tt;
    stops = stops;
    any_moment = so_far.any_moment;
    acknowledged = λ _ lt. acknowledged batch left old mid so_far lt;
  })

  -- or the disk failed
  hindered : (batch left more : List (List ℕ)) (text : List ℕ) (old mid new : State D) → left ≡ text ∷ more → Taking batch left old mid → TakesFitting disks text mid new (Err why.Io) → Takes disks batch old new (Err why.Io)
  hindered batch left more text old mid new next so_far took =
      let a = took.takes.applies in
      let fits = fits_found mid.owner mid.log text took.rec took.decoded took.fits_it in
      let log : new.log ≡ mid.log = a.added.log in
      let limits : new.limits ≡ mid.limits = a.added.limits in
      record {
        added = so_far.added;
        taken = so_far.taken;
        left = left;
        cut = so_far.cut;
        spelled = so_far.spelled;
        log = log ∙ so_far.log;
        count = tt;
        stops = record {
          text = text;
          more = more;
          next = next;
          rec = took.rec;
          fits = ap (λ (o : List ℕ). fitting_in o new.log text) a.owner ∙ ap (λ (l : List Rec). fitting_in mid.owner l text) log ∙ fits;
          limits = ap (λ (m : Limits). passes_limits m new.log took.rec) limits ∙ ap (λ (l : List Rec). passes_limits mid.limits l took.rec) log ∙ took.takes.room;
        };
        any_moment = goes batch left more text old mid new (Err append.Fault) took.rec next took.decoded so_far a;
        acknowledged = λ not_io _. absurd (not_io refl);
      }

  pub takes_stopped : (batch left more : List (List ℕ)) (text : List ℕ) (old mid new : State D) (reason : FollowWhy) → left ≡ text ∷ more → Taking batch left old mid → TakesText disks text mid new (Err reason)
      → Takes disks batch old new (Err reason)
  takes_stopped batch left more text old mid new (why.Strange position) next so_far took =
      stopped batch left old mid new (why.Strange position) took.0 so_far (record { text = text; more = more; next = next; strange = took.1; place = took.2 })
  takes_stopped batch left more text old mid new (why.Full records) next so_far took =
      stopped batch left old mid new (why.Full records) took.takes.0 so_far
      (record { text = text; more = more; next = next; rec = took.rec; fits = fits_found mid.owner mid.log text took.rec took.decoded took.fits_it; limits = took.takes.1 }, took.takes.2)
  takes_stopped batch left more text old mid new why.Io next so_far took = hindered batch left more text old mid new next so_far took
  takes_stopped batch left more text old mid new why.OutOfMemory next so_far took = stopped batch left old mid new why.OutOfMemory took so_far tt
  takes_stopped batch left more text old mid new why.Failed next so_far took = absurd took

  -- no text is refused for want of a batch
  pub takes_given : (text : List ℕ) (old new : State D) (reason : FollowWhy) → TakesText disks text old new (Err reason) → reason ≡ why.Failed → ⊥
  takes_given text old new (why.Strange position) took is = absurd (cc)
  takes_given text old new (why.Full records) took is = absurd (cc)
  takes_given text old new why.Io took is = absurd (cc)
  takes_given text old new why.OutOfMemory took is = absurd (cc)
  takes_given text old new why.Failed took is = took

-- ---- on the way

-- it is no fault of the disk
pub strange_not_io : (reason : FollowWhy) (records : ℕ) → (reason ≡ why.Strange (records + 1)) ⊎ (reason ≡ why.OutOfMemory) → ◌≡◌ {A = Result (Unit {0}) FollowWhy} (Err reason) (Err why.Io) → ⊥
strange_not_io reason records which io = ⊎_elim (λ is. let e : why.Strange (records + 1) ≡ why.Io = (let k : reason ≡ why.Io = cc in sym is ∙ k) in cc) (λ is. let e : why.OutOfMemory ≡ why.Io = (let k : reason ≡ why.Io = cc in sym is ∙ k) in cc) which

pub io_of : (reason : FollowWhy) (result : Result (Unit {0}) FollowWhy) → result ≡ Err reason → ◌≡◌ {A = Result ℕ FollowWhy} (Err reason) (Err why.Io) → result ≡ Err why.Io
io_of reason result is io = let k : reason ≡ why.Io = cc in is ∙ ap (λ (r : FollowWhy). Err r) k

pub io_to : (reason : FollowWhy) (result : Result (Unit {0}) FollowWhy) → result ≡ Err reason → result ≡ Err why.Io → ◌≡◌ {A = Result ℕ FollowWhy} (Err reason) (Err why.Io)
io_to reason result is io = let both : ◌≡◌ {A = Result (Unit {0}) FollowWhy} (Err reason) (Err why.Io) = sym is ∙ io in let k : reason ≡ why.Io = cc in ap (λ (r : FollowWhy). Err r) k

pub done_not_io : (result : Result (Unit {0}) FollowWhy) → result ≡ Ok tt → result ≡ Err why.Io → ⊥
done_not_io result is io = let both : ◌≡◌ {A = Result (Unit {0}) FollowWhy} (Ok tt) (Err why.Io) = sym is ∙ io in cc

pub not_failed : (reason : FollowWhy) → ◌≡◌ {A = Result ℕ FollowWhy} (Err reason) (Err why.Failed) → reason ≡ why.Failed
not_failed reason is = cc

pub counted_not_io : (count : ℕ) → ◌≡◌ {A = Result ℕ FollowWhy} (Ok count) (Err why.Io) → ⊥
counted_not_io count is = cc

module _ {D : Type 0} (disks : Ghosts D) where
  abbrev pub Grows : State D → State D → Type 0
  Grows old new = OnlyGrows entries_of (λ (state : State D). disks.faults state.disk) fixed_of old new

  pub grows_same : (state : State D) → Grows state state
  grows_same state = record { begins = Begins-self state.log; later = omega arith; stays = refl }

  pub grows_then : (old mid new : State D) → Grows old mid → Grows mid new → Grows old new
  grows_then old mid new one two = record { begins = Begins-trans one.begins two.begins; later = omega (arith, one.later, two.later); stays = two.stays ∙ one.stays }
