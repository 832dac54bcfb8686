-- What is done in one turn over a state, as whoever has the logs tells it.
use Rattle.std.proofs.Common.{◌≡◌, ◌≢◌, ◌⊎◌, ◌≤◌, ◌+◌, ℕ, Bool, true, false, List, [], ◌∷◌, ◌++◌, length, take, refl, sym, ap, subst, ◌∙◌, inl, inr, arith, Option, Some, None, slice_get, length-append, append-nil, Result, Ok, Err, not, bytes_eq}
use Rattle.std.specs.Prelude.{if◌then◌else◌}
use Rattle.std.proofs.lemmas.List.{take_all}
use Rattle.up_commit.specs.Steps.{is_changed}
use Rattle.up_answers.specs.Answers.{added, answer}
use Rattle.up_answers.specs.Fetching.{Fetched}
use Rattle.up_answers.specs.Needs.{needs}
use Rattle.up_blocks.specs.declared.record.BlockRecord.{BlockRecord}
use Rattle.up_calls.specs.Blocks.{GivenBy, IsFromStore}
use Rattle.up_calls.specs.Calls.{KeysTurn, StoreTurn, TreeNeedsDisk, TreeSays}
use Rattle.up_calls.specs.Done.{IsDone}
use Rattle.up_calls.specs.Gathered.{missing_over}
use Rattle.up_calls.specs.Routes.{Question}
use Rattle.up_calls.specs.Rounds.{bound}
use Rattle.up_blocks.specs.Records as blocks
use Rattle.up_blocks.specs.Records.{holds, put_record}
use Rattle.up_blocks.specs.declared.record.BlockRecord.TheVariants as block
use Rattle.up_calls.specs.Services.{KeysSay, Leads, NeedsDisk, StoreSays, adding, card_leads, delete_leads, get_leads, key_fault, key_leads, store_fault, store_leads}
use Rattle.up_journal.specs.Journal.{is_full}
use Rattle.up_keys.specs.Answers.{to_put}
use Rattle.up_keys.specs.Keys as keys
use Rattle.up_wire.specs.Keys.{logged}
use Rattle.up_refs.specs.References.{reference_in}
use Rattle.up_refs.specs.Sha256.{sha256}
use Rattle.up_rights.specs.declared.Right.TheVariants as right
use Rattle.up_wire.specs.declared.replies.Done.TheVariants as done
use Rattle.up_wire.specs.declared.requests.Request.{Request}
use Rattle.up_wire.specs.declared.requests.Request.TheVariants as request
use Rattle.up_calls.specs.Steps.{Answers, BlockRead, KeysTried, Lacks, StoreReads, StoreTried, Takes, Tried}
use Rattle.up_calls.specs.Told.{IsSaidToFail, LogTold, TurnTold}
use Rattle.up_calls.specs.Turns.{IsFailed, IsReplied, Recorded}
use Rattle.up_calls.specs.Views.{Seen, SeenKeys, SeenStore, SeenTree, log_after, log_seen}
use Rattle.up_calls.specs.declared.event.Event.{Event}
use Rattle.up_calls.specs.declared.logs.Turn.{Turn}
use Rattle.up_calls.specs.declared.logs.Turn.TheVariants as turn
use Rattle.up_disk.specs.declared.disk.Disk.{Ghosts}
use Rattle.up_ends.specs.Growing.{OnlyGrows}
use Rattle.up_entry.specs.declared.fetch.Fetch.{Fetch}
use Rattle.up_entry.specs.declared.records.Rec.{Rec}
use Rattle.up_entry.specs.declared.what.What.{What}
use Rattle.up_journal.specs.Logs.{LogState}
use Rattle.up_journal.specs.declared.limits.Limits.{Limits}
use Rattle.up_lists.proofs.BeginsLemmas.{length-Begins, take-Begins}
use Rattle.up_lists.specs.Counts.{Rose}
use Rattle.up_names.specs.PathNames.{PathName}
use Rattle.up_names.specs.Texts.{UserName}
use Rattle.up_policy.specs.Loadings.{Loading}
use Rattle.up_log_tree.specs.Fits.{IsLog}
use Rattle.up_log_tree.specs.Logs.{Log}
use Rattle.up_tree.specs.States.{State, entries_of, fixed_of, log_of}
use Rattle.up_wire.specs.declared.keys.KeyRecord.{KeyRecord}
use Rattle.up_wire.specs.declared.replies.Reply.{Reply}
use Rattle.up_wire.specs.declared.replies.Reply.TheVariants as reply

-- ---- the reply is one of three

data Kind (said : Reply) : Type 0 where
  Wanted : said ≡ reply.OutOfMemory → Kind said
  Fails : said ≡ reply.Io → Kind said
  Exact : said ≢ reply.OutOfMemory → said ≢ reply.Io → Kind said

kind_of : (said : Reply) → Kind said
kind_of reply.OutOfMemory = Kind.Wanted refl
kind_of reply.Io = Kind.Fails refl
kind_of (reply.Ok what) = Kind.Exact (λ e. cc) (λ e. cc)
kind_of (reply.Invalid what) = Kind.Exact (λ e. cc) (λ e. cc)
kind_of reply.WrongHost = Kind.Exact (λ e. cc) (λ e. cc)
kind_of (reply.FollowLink entry) = Kind.Exact (λ e. cc) (λ e. cc)
kind_of reply.Private = Kind.Exact (λ e. cc) (λ e. cc)
kind_of (reply.Permission right) = Kind.Exact (λ e. cc) (λ e. cc)
kind_of reply.NotExist = Kind.Exact (λ e. cc) (λ e. cc)
kind_of reply.NotDir = Kind.Exact (λ e. cc) (λ e. cc)
kind_of reply.IsDir = Kind.Exact (λ e. cc) (λ e. cc)
kind_of reply.Exist = Kind.Exact (λ e. cc) (λ e. cc)
kind_of (reply.BadSequence sequence) = Kind.Exact (λ e. cc) (λ e. cc)
kind_of reply.NotEmpty = Kind.Exact (λ e. cc) (λ e. cc)
kind_of (reply.BadBlock reference) = Kind.Exact (λ e. cc) (λ e. cc)
kind_of (reply.BadText line) = Kind.Exact (λ e. cc) (λ e. cc)
kind_of (reply.TooLarge size) = Kind.Exact (λ e. cc) (λ e. cc)
kind_of (reply.Full records) = Kind.Exact (λ e. cc) (λ e. cc)

-- ---- one log before and after

-- none, or one
abbrev AtMostOne : {E : Type 0} → List E → Type 0
AtMostOne {E} new = (new ≡ []) ⊎ ((one : E) × (new ≡ one ∷ []))

nothing_added : {X : Type 0} (xs ys : List X) → xs ≡ xs ++ ys → ys ≡ []
nothing_added xs [] h = refl
nothing_added xs (y ∷ ys) h =
    let k : length xs ≡ length xs + length (y ∷ ys) = ap length h ∙ length-append xs (y ∷ ys) in
    let l : length (y ∷ ys) ≡ length ys + 1 = omega arith in
    absurd (omega (arith, k, l))

get_last : {X : Type 0} (xs : List X) (x : X) → slice_get (xs ++ x ∷ []) (length xs) ≡ Some x
get_last [] x = refl
get_last (y ∷ xs) x = get_last xs x

take_front : {X : Type 0} (xs ys : List X) → take (length xs) (xs ++ ys) ≡ xs
take_front [] ys = refl
take_front (x ∷ xs) ys = ap (λ zs. x ∷ zs) (take_front xs ys)

module _ {E F : Type 0} (before after : List E) (v w : Seen E F) (faults_before faults_after : ℕ) (rises : Type 0) (took : Takes before after v w faults_before faults_after rises) where
  recorded_of : (new : List E) → AtMostOne new → after ≡ before ++ new → Recorded v w (length before) new
  recorded_of new (inl none) grown =
      subst (Recorded v w (length before)) (sym none) (took.same (grown ∙ ap (λ xs. before ++ xs) none ∙ append-nil before))
  recorded_of new (inr one) grown =
      let whole : after ≡ before ++ one.0 ∷ [] = grown ∙ ap (λ xs. before ++ xs) one.1 in
      subst (Recorded v w (length before)) (sym one.1)
      (ap (λ (xs : List E). slice_get xs (length before)) (took.seen ∙ whole) ∙ get_last before one.0, took.one one.0 whole)

  replied_of : (means : List E → Reply → List E → Type 0) (e : Event) (new : List E) → AtMostOne new → after ≡ before ++ new → e.position ≡ length before → means before e.reply new → IsReplied means v w e
  replied_of means e new few grown at says =
      let cut : take e.position w.seen ≡ before = ap (λ n. take n w.seen) at ∙ ap (take (length before)) (took.seen ∙ grown) ∙ take_front before new in
      let from = took.from in
      let long : length w.seen ≡ length before + length new = ap length (took.seen ∙ grown) ∙ length-append before new in
      record {
        from = omega (arith, at, from);
        to = omega (arith, at, long);
        added = new;
        reply = subst (λ xs. means xs e.reply new) (sym cut) says;
        recorded = subst (λ n. Recorded v w n new) (sym at) (recorded_of new few grown);
      }

  failed_of : (needed : List E → Type 0) (e : Event) → e.reply ≡ reply.Io → Rose faults_before faults_after → after ≡ before → needed before → IsFailed needed v w e
  failed_of needed e io rose same needs = record { io = io; rose = (took.rose rose).0; own = took.same same; needs = subst needed (sym (took.seen ∙ same)) needs }

-- ---- a tree

module _ {D : Type 0} (disks : Ghosts D) (q : Question) (loaded : Loading) (fetched : Fetched) (now : ℕ) (old new : State D) (v w : SeenTree) (rises : Type 0)
    (grows : OnlyGrows entries_of (λ (s : State D). disks.faults s.disk) fixed_of old new) (took : Takes old.log new.log v w (disks.faults old.disk) (disks.faults new.disk) rises) (fixed : w.fixed ≡ fixed_of new) where
  fixed_before : w.fixed ≡ fixed_of old
  fixed_before = fixed ∙ grows.stays

  -- the log before the turn, from what was seen of it after
  log_by : (records : List Rec) → records ≡ old.log → record (log_seen w) { records = records } ≡ log_of old
  log_by records is =
      ap (λ rs. record (log_seen w) { records = rs }) is
      ∙ ap (λ (f : UserName × Limits). let log : Log = record { owner = f.0; limits = f.1; records = old.log } in log) fixed_before

  log_at : log_after w (length old.log) ≡ log_of old
  log_at = log_by (take (length old.log) w.seen) (ap (take (length old.log)) took.seen ∙ take-Begins grows.begins)

  long : length old.log ≤ length w.seen
  long = let longer = length-Begins grows.begins in let same : length w.seen ≡ length new.log = ap length took.seen in omega (arith, longer, same)

  missing_is : missing_over w q (length old.log) loaded ≡ needs (log_of old) loaded q.user q.request
  missing_is = ap (λ log. needs log loaded q.user q.request) log_at

  lacks_told : (names : List PathName) → Lacks q loaded old new names → TurnTold rises v w q loaded fetched now (turn.Missing names)
  lacks_told names h = (
    record { position = length old.log; from = took.from; to = long; needed = h.needed ∙ sym missing_is; some = h.some; few = h.few },
    took.same (ap (λ (s : State D). s.log) h.stays),
  )

  module _ (said : Reply) (position : ℕ) (h : Answers disks q loaded fetched now old new said position) where
    abbrev event : Event
    event = record { reply = said; position = position; loaded = loaded; fetched = fetched; moment = now }

    abbrev over_log : Reply
    over_log = answer (log_of old) loaded fetched q.user q.request now

    abbrev would_add : List Rec
    would_add = added (log_of old) loaded fetched q.user q.request now

    few : AtMostOne (if is_changed said then would_add else [])
    few = by (is_changed said) h.steps.log
      where
        by : (b : Bool) → new.log ≡ old.log ++ (if b then would_add else []) → AtMostOne (if b then would_add else [])
        by false k = inl refl
        by true k = elim h.steps.stands [
          | inl same ↦ inl (nothing_added old.log would_add (ap (λ (s : State D). s.log) (sym same) ∙ k))
          | inr applied ↦ inr (applied.rec, applied.one)
        ]

    says : said ≡ over_log → TreeSays w q event old.log said (if is_changed said then would_add else [])
    says is =
        let same : log_of old ≡ record (log_seen w) { records = old.log } = sym (log_by old.log refl) in
        record {
          legal = subst (λ (f : UserName × Limits). IsLog f.0 old.log) (sym fixed_before) h.legal;
          reply = is ∙ ap (λ log. answer log loaded fetched q.user q.request now) same;
          added = ap (λ log. if is_changed said then added log loaded fetched q.user q.request now else []) same;
        }

    replied : said ≡ over_log → IsReplied (TreeSays w q event) v w event ⊎ IsSaidToFail rises v w q event
    replied is =
        inl (replied_of old.log new.log v w (disks.faults old.disk) (disks.faults new.disk) rises took (TreeSays w q event) event (if is_changed said then would_add else []) few h.steps.log h.position_is (says is))

    failed : said ≡ reply.Io → is_changed over_log ≡ true → Rose (disks.faults old.disk) (disks.faults new.disk) → IsReplied (TreeSays w q event) v w event ⊎ IsSaidToFail rises v w q event
    failed io change rose =
        let stays : new.log ≡ old.log = h.steps.log ∙ ap (λ b. old.log ++ (if b then would_add else [])) (ap is_changed io) ∙ append-nil old.log in
        let same : log_of old ≡ record (log_seen w) { records = old.log } = sym (log_by old.log refl) in
        let at = h.position_is in
        let from = took.from in
        let seen : length w.seen ≡ length old.log = ap length (took.seen ∙ stays) in
        inr (record {
          failed = failed_of old.log new.log v w (disks.faults old.disk) (disks.faults new.disk) rises took (TreeNeedsDisk w q event) event io rose stays
              (ap (λ log. is_changed (answer log loaded fetched q.user q.request now)) (sym same) ∙ change);
          from = omega (arith, at, from);
          at_end = at ∙ sym seen;
          rose = (took.rose rose).1;
        })

    answers_told : TurnTold rises v w q loaded fetched now (turn.Said said position)
    answers_told = (
      h.enough,
      record {
        enough = subst (λ n. (missing_over w q n loaded ≡ []) ⊎ (length loaded ≡ bound)) (sym h.position_is) (subst (λ names. (names ≡ []) ⊎ (length loaded ≡ bound)) (sym missing_is) h.whole.enough);
        said = elim (kind_of said) [
          | Kind.Wanted wants ↦ absurd (h.enough wants)
          | Kind.Fails io ↦ elim (h.steps.failed io) [
            | inl fetch ↦ replied (io ∙ sym fetch)
            | inr disk ↦ failed io disk.0 disk.1
          ]
          | Kind.Exact enough fails ↦ replied (h.steps.exact enough fails)
        ];
      },
    )

  -- one turn of a tree
  pub turn_told : (came : Turn) → Tried disks q loaded fetched now old new came → TurnTold rises v w q loaded fetched now came
  turn_told (turn.Missing names) h = lacks_told names h
  turn_told (turn.Said said position) h = answers_told said position h
  turn_told turn.Wanting h = took.same h.log

-- ---- the store and the keys

store_few : (log : List BlockRecord) (leads : Leads BlockRecord) (said : Reply) (new : List BlockRecord) → StoreSays log leads said new → AtMostOne new
store_few log (Leads.Says meant) said new h = inl h.1
store_few log (Leads.Adds rec meant) said new h = inr (h.1.0, h.1.1)
store_few log (Leads.Reads reference) said new h = inl h.0

keys_few : (leads : Leads KeyRecord) (said : Reply) (new : List KeyRecord) → KeysSay leads said new → AtMostOne new
keys_few (Leads.Says meant) said new h = inl h.1
keys_few (Leads.Adds rec meant) said new h = inr (rec, h.1)
keys_few (Leads.Reads reference) said new h = absurd h

-- what is added has a position
abbrev HasPosition : {E : Type 0} → Leads E → Type 0
HasPosition (Leads.Says meant) = Unit {0}
HasPosition (Leads.Adds rec meant) = meant ≢ reply.OutOfMemory
HasPosition (Leads.Reads reference) = Unit {0}

position_if : {E : Type 0} (b : Bool) (one other : Leads E) → HasPosition one → HasPosition other → HasPosition (if b then one else other)
position_if true one other h k = h
position_if false one other h k = k

position_adding : {E : Type 0} (full : Bool) (position : ℕ) (rec : E) (meant : Reply) → meant ≢ reply.OutOfMemory → HasPosition (adding full position rec meant)
position_adding true position rec meant h = tt
position_adding false position rec meant h = h

store_position : (operator user : UserName) (asked : Request) (limits : Limits) (log : List BlockRecord) → HasPosition (store_leads operator user asked limits log)
unfolding store_leads
store_position operator user (request.Get text) limits log = gets (reference_in text)
  where
    gets : (found : Option (List ℕ)) → HasPosition (get_leads log found)
    gets None = tt
    gets (Some reference) = position_if (holds log reference) (Leads.Reads reference) (Leads.Says reply.NotExist) tt tt
store_position operator user (request.StorePut bytes) limits log =
    position_if (holds log (sha256 bytes)) (Leads.Says (reply.Ok (done.Reference (sha256 bytes)))) _ tt
    (position_adding (is_full limits (blocks.sizes_of log) (blocks.size_of (put_record true bytes))) (length log) (put_record true bytes) (reply.Ok (done.Reference (sha256 bytes))) (λ e. cc))
store_position operator user (request.StoreDelete text) limits log = deletes (reference_in text)
  where
    deletes : (found : Option (List ℕ)) → HasPosition (delete_leads operator user limits log found)
    deletes None = tt
    deletes (Some reference) =
        position_if (not (bytes_eq user operator)) (Leads.Says (reply.Permission right.Delete)) _ tt
        (position_if (not (holds log reference)) (Leads.Says reply.NotExist) _ tt
        (position_adding (is_full limits (blocks.sizes_of log) (blocks.size_of (block.Delete reference))) (length log) (block.Delete reference) (reply.Ok (done.Changed (length log + 1))) (λ e. cc)))
store_position operator user (request.Lookup text) limits log = tt
store_position operator user (request.Put put) limits log = tt
store_position operator user (request.Delete text) limits log = tt
store_position operator user (request.Glob text) limits log = tt
store_position operator user (request.WhichAccess text) limits log = tt
store_position operator user (request.Watch text sequence) limits log = tt
store_position operator user (request.GroupText text) limits log = tt
store_position operator user (request.KeyLookup text) limits log = tt
store_position operator user (request.KeyPut card) limits log = tt

keys_position : (user : UserName) (asked : Request) (limits : Limits) (log : List KeyRecord) → HasPosition (key_leads user asked limits log)
unfolding key_leads
keys_position user (request.KeyPut card) limits log = puts (to_put user card)
  where
    puts : (meant : Result KeyRecord Reply) → HasPosition (card_leads limits log meant)
    puts (Err refusal) = tt
    puts (Ok known) = position_adding (is_full limits (keys.sizes_of log) (length (logged known))) (length log) known (reply.Ok (done.Changed (length log + 1))) (λ e. cc)
keys_position user (request.KeyLookup text) limits log = tt
keys_position user (request.Get text) limits log = tt
keys_position user (request.StorePut bytes) limits log = tt
keys_position user (request.StoreDelete text) limits log = tt
keys_position user (request.Lookup text) limits log = tt
keys_position user (request.Put put) limits log = tt
keys_position user (request.Delete text) limits log = tt
keys_position user (request.Glob text) limits log = tt
keys_position user (request.WhichAccess text) limits log = tt
keys_position user (request.Watch text sequence) limits log = tt
keys_position user (request.GroupText text) limits log = tt

-- where memory was wanting nothing was added
store_wanting : (log : List BlockRecord) (leads : Leads BlockRecord) (said : Reply) (new : List BlockRecord) → HasPosition leads → StoreSays log leads said new → said ≡ reply.OutOfMemory → new ≡ []
store_wanting log (Leads.Says meant) said new good h wants = h.1
store_wanting log (Leads.Adds rec meant) said new good h wants = absurd (good (sym h.0 ∙ wants))
store_wanting log (Leads.Reads reference) said new good h wants = h.0

keys_wanting : (log : List KeyRecord) (leads : Leads KeyRecord) (said : Reply) (new : List KeyRecord) → HasPosition leads → KeysSay leads said new → said ≡ reply.OutOfMemory → new ≡ []
keys_wanting log (Leads.Says meant) said new good h wants = h.1
keys_wanting log (Leads.Adds rec meant) said new good h wants = absurd (good (sym h.0 ∙ wants))
keys_wanting log (Leads.Reads reference) said new good h wants = absurd h

-- A turn of a log of which nothing malformed was asked: what it leads to was said, or the disk failed, or memory was wanting.
module _ {E F : Type 0} (says : List E → Leads E → Reply → List E → Type 0) (leads : F → List E → Leads E) (before after : List E) (v w : Seen E F) (faults_before faults_after : ℕ) (rises : Type 0)
    (took : Takes before after v w faults_before faults_after rises) (fixed : F) (stays : w.fixed ≡ fixed)
    (few_of : (said : Reply) (new : List E) → says before (leads fixed before) said new → AtMostOne new)
    (wants_of : (said : Reply) (new : List E) → says before (leads fixed before) said new → said ≡ reply.OutOfMemory → new ≡ []) where
  log_told : (fault : Option What) → fault ≡ None → (said : Reply) (position : ℕ) → position ≡ length before → (said ≡ reply.Io → Rose faults_before faults_after)
      → IsDone says fault (leads fixed before) before after faults_before faults_after said
      → LogTold (λ e. IsReplied (λ records. says records (leads w.fixed records)) v w e ⊎ IsFailed (λ records. NeedsDisk (leads w.fixed records)) v w e) rises v w said position
  log_told fault sound said position at cause (IsDone.Refused what is refused same) = let k : Some what ≡ None = sym is ∙ sound in absurd (cc)
  log_told fault sound said position at cause (IsDone.Said is valid new meant grown) = record {
    told = λ e is_said is_at enough.
        inl (subst (λ f. IsReplied (λ records. says records (leads f records)) v w e) (sym stays)
        (replied_of before after v w faults_before faults_after rises took (λ records. says records (leads fixed records)) e new (few_of said new meant) grown (is_at ∙ at)
        (subst (λ r. says before (leads fixed before) r new) (sym is_said) meant)));
    rose = λ io. (took.rose (cause io)).1;
    wanting = λ wants. took.same (grown ∙ ap (λ xs. before ++ xs) (wants_of said new meant wants) ∙ append-nil before);
  }
  log_told fault sound said position at cause (IsDone.Failed is io rose needs same) = record {
    told = λ e is_said is_at enough.
        inr (subst (λ f. IsFailed (λ records. NeedsDisk (leads f records)) v w e) (sym stays)
        (failed_of before after v w faults_before faults_after rises took (λ records. NeedsDisk (leads fixed records)) e (is_said ∙ io) rose same needs));
    rose = λ h. (took.rose rose).1;
    wanting = λ wants. took.same same;
  }
  log_told fault sound said position at cause (IsDone.Wanting wants same) = record {
    told = λ e is_said is_at enough. absurd (enough wants);
    rose = λ io. (took.rose (cause io)).1;
    wanting = λ h. took.same same;
  }

pub store_told : {D : Type 0} (disks : Ghosts D) (operator : UserName) (q : Question) (old new : LogState D BlockRecord) (v w : SeenStore) (rises : Type 0) → Takes old.log new.log v w (disks.faults old.disk) (disks.faults new.disk) rises → w.fixed ≡ old.limits
    → store_fault q.request ≡ None → (said : Reply) (position : ℕ) → StoreTried disks operator q old new said position → LogTold (StoreTurn operator v w q) rises v w said position
store_told disks operator q old new v w rises took fixed sound said position h =
    let leads : Leads BlockRecord = store_leads operator q.user q.request old.limits old.log in
    log_told StoreSays (λ limits log. store_leads operator q.user q.request limits log) old.log new.log v w (disks.faults old.disk) (disks.faults new.disk) rises took old.limits fixed
    (store_few old.log leads) (λ r xs. store_wanting old.log leads r xs (store_position operator q.user q.request old.limits old.log)) (store_fault q.request) sound said position h.position_is h.rose h.done

pub keys_told : {D : Type 0} (disks : Ghosts D) (q : Question) (old new : LogState D KeyRecord) (v w : SeenKeys) (rises : Type 0) → Takes old.log new.log v w (disks.faults old.disk) (disks.faults new.disk) rises → w.fixed ≡ old.limits
    → key_fault q.request ≡ None → (said : Reply) (position : ℕ) → KeysTried disks q old new said position → LogTold (KeysTurn v w q) rises v w said position
keys_told disks q old new v w rises took fixed sound said position h =
    let leads : Leads KeyRecord = key_leads q.user q.request old.limits old.log in
    log_told (λ log. KeysSay) (λ limits log. key_leads q.user q.request limits log) old.log new.log v w (disks.faults old.disk) (disks.faults new.disk) rises took old.limits fixed
    (keys_few leads) (λ r xs. keys_wanting old.log leads r xs (keys_position q.user q.request old.limits old.log)) (key_fault q.request) sound said position h.position_is h.rose h.done

-- ---- a block

-- what a read of the store gave, or that its disk failed
pub block_told : {D : Type 0} (disks : Ghosts D) (old new : LogState D BlockRecord) (v w : SeenStore) (rises : Type 0) → Takes old.log new.log v w (disks.faults old.disk) (disks.faults new.disk) rises → StoreReads disks old new
    → (reference : List ℕ) (given : Fetch) → BlockRead disks old new reference given → IsFromStore v w reference given
block_told disks old new v w rises took reads reference given (inl by) =
    let from = took.from in
    let same : w.seen ≡ old.log = took.seen ∙ reads.log in
    let long : length w.seen ≡ length old.log = ap length same in
    inl (record {
      position = length old.log;
      from = from;
      to = omega (arith, long);
      by = subst (λ log. GivenBy log reference given) (sym (take_all (length old.log) w.seen (omega (arith, long)) ∙ same)) by;
    })
block_told disks old new v w rises took reads reference given (inr failed) = inr (failed.0, (took.rose failed.1).0)
