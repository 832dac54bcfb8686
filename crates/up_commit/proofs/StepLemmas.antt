-- What comes of a request, by its answer.
use Rattle.std.proofs.Common.{◌≡◌, ◌≢◌, ℕ, ◌+◌, ◌<◌, ◌≤◌, ◌^◌, ◌||◌, Bool, true, false, List, [], ◌∷◌, ◌++◌, length, refl, sym, ap, subst, ◌∙◌, inl, inr, Result, Ok, Err, arith}
use Rattle.std.specs.Prelude.{if◌then◌else◌, nat_lt, nat_le, IfOk}
use Rattle.std.proofs.lemmas.Bool.{false≢true, le-ltb, lt-ltb}
use Rattle.std.proofs.lemmas.List.{append-nil, length-append, length-map}
use Rattle.up_bytes.specs.Sizes.{capped}
use Rattle.up_disk.specs.declared.disk.Disk.{Ghosts}
use Rattle.up_entry.specs.declared.records.Rec.{Rec}
use Rattle.up_journal.specs.Journal as journal
use Rattle.up_journal.specs.declared.fault.AppendWhy.{AppendWhy}
use Rattle.up_journal.specs.declared.fault.AppendWhy.TheVariants as why
use Rattle.up_list.specs.Changes.{added_by, answer_of, is_full}
use Rattle.up_log_tree.specs.Logs.{bytes_of}
use Rattle.up_log_tree.specs.Sizes.{size_of, sizes_of}
use Rattle.up_tree.specs.States.{Applies, State, log_of}
use Rattle.up_tree.proofs.Sizes.{log_bytes}
use Rattle.up_wire.specs.Bounds.{bounded}
use Rattle.up_wire.specs.declared.replies.Done.TheVariants as done
use Rattle.up_wire.specs.declared.replies.Reply.{Reply}
use Rattle.up_wire.specs.declared.replies.Reply.TheVariants as reply
use Rattle.up_commit.specs.Steps.{IsTold, Steps, applied_reply, is_changed}

none_added : {X : Type 0} (b : Bool) (xs : List X) → xs ≡ xs ++ (if b then [] else [])
none_added true xs = sym (append-nil xs)
none_added false xs = sym (append-nil xs)

-- ---- a size, where it is more than 64 bits have

pub above : (n size largest : ℕ) → size ≡ capped n → largest < size → nat_lt largest n ≡ true
above n size largest is large = lt-ltb largest n (omega (arith, is, large))

pub within : (n size largest : ℕ) → size ≡ capped n → largest < 2 ^ 32 → size ≤ largest → n ≤ largest
within n size largest is small fits = omega (arith, is, small, fits)

pub not_above : (n largest : ℕ) → n ≤ largest → nat_lt largest n ≡ false
not_above n largest fits = le-ltb largest n fits

changed_io : (n : ℕ) → reply.Ok (done.Changed n) ≢ reply.Io
changed_io n h = absurd (cc)

module _ {D : Type 0} (disks : Ghosts D) where
  -- ---- nothing is added

  pub steps_told : (answer : Reply) (state : State D) (answered : Reply) → IsTold answer answered → Steps disks answer [] state state answered
  steps_told answer state answered told = record {
    exact = λ memory io. elim told [ inl same ↦ same | inr wants ↦ absurd (memory wants) ];
    failed = λ io. inl (elim told [ inl same ↦ sym same ∙ io | inr wants ↦ absurd (other (sym wants ∙ io)) ]);
    log = none_added (is_changed answered) state.log;
    untouched = λ _ _. refl;
    stands = inl refl;
  }
    where
      other : reply.OutOfMemory ≢ reply.Io
      other h = absurd (cc)

  -- it leads to a reply
  pub steps_read : (meant : Reply) (state : State D) (answered : Reply) → IsTold (bounded meant) answered → Steps disks (answer_of (log_of state) (Err meant)) (added_by (log_of state) (Err meant)) state state answered
  unfolding answer_of added_by
  steps_read meant state answered told = steps_told (bounded meant) state answered told

  pub steps_refused : {E : Type 0} (refusal : Reply) (state : State D) (answered : Reply) (led : Result (Result Rec Reply) E) → led ≡ Ok (Err refusal) → answered ≡ bounded refusal → (meant : Result Rec Reply) → IfOk led (λ led. led ≡ meant) →
      Steps disks (answer_of (log_of state) meant) (added_by (log_of state) meant) state state answered
  steps_refused refusal state answered led is told meant known =
      subst (λ r. Steps disks (answer_of (log_of state) r) (added_by (log_of state) r) state state answered) (subst (λ l. IfOk l (λ r. r ≡ meant)) is known) (steps_read refusal state answered (inl told))

  pub steps_memory : (answer : Reply) (added : List Rec) (state : State D) → Steps disks answer added state state reply.OutOfMemory
  steps_memory answer added state = record {
    exact = λ memory io. absurd (memory refl);
    failed = λ io. absurd (cc);
    log = sym (append-nil state.log);
    untouched = λ _ _. refl;
    stands = inl refl;
  }

  -- ---- a record is too large

  pub steps_large : (rec : Rec) (state : State D) (answered : Reply) → nat_lt state.limits.largest (size_of rec) ≡ true → IsTold (reply.TooLarge (size_of rec)) answered →
      Steps disks (answer_of (log_of state) (Ok rec)) (added_by (log_of state) (Ok rec)) state state answered
  unfolding answer_of added_by
  steps_large rec state answered large told =
      subst (λ b. Steps disks (if b then reply.TooLarge (size_of rec) else if is_full (log_of state) (size_of rec) then reply.Full (length state.log) else reply.Ok (done.Changed (length state.log + 1)))
      (if b || is_full (log_of state) (size_of rec) then [] else rec ∷ []) state state answered) (sym large) (steps_told (reply.TooLarge (size_of rec)) state answered told)

  -- ---- a record is handed to the tree

  full_is : (state : State D) (size : ℕ) → is_full (log_of state) size ≡ journal.is_full state.limits (sizes_of state.log) size
  full_is state size =
      ap (λ n. nat_le state.limits.records n || nat_lt state.limits.device (bytes_of state.log + size + 37)) (sym (length-map state.log size_of))
      ∙ ap (λ n. nat_le state.limits.records (length (sizes_of state.log)) || nat_lt state.limits.device (n + size + 37)) (sym (log_bytes state.log))

  module _ (rec : Rec) (old new : State D) (fits : nat_lt old.limits.largest (size_of rec) ≡ false) where
    abbrev pub answer : Bool → Reply
    answer b = if b then reply.Full (length old.log) else reply.Ok (done.Changed (length old.log + 1))

    abbrev pub added : Bool → List Rec
    added b = if b then [] else rec ∷ []

    -- by whether the log is full
    by_full : (b : Bool) (answered : Reply) → is_full (log_of old) (size_of rec) ≡ b → Steps disks (answer b) (added b) old new answered →
        Steps disks (answer_of (log_of old) (Ok rec)) (added_by (log_of old) (Ok rec)) old new answered
    unfolding answer_of added_by
    by_full b answered full steps =
        subst (λ c. Steps disks (if c then reply.TooLarge (size_of rec) else answer (is_full (log_of old) (size_of rec))) (added (c || is_full (log_of old) (size_of rec))) old new answered) (sym fits)
        (subst (λ c. Steps disks (answer c) (added c) old new answered) (sym full) steps)

    pub steps_applied : (result : Result ℕ AppendWhy) → Applies disks rec old new result →
        Steps disks (answer_of (log_of old) (Ok rec)) (added_by (log_of old) (Ok rec)) old new (applied_reply result)
    steps_applied (Ok position) applies = by_full false (reply.Ok (done.Changed position)) room (record {
      exact = λ memory io. ap (λ n. reply.Ok (done.Changed n)) place;
      failed = λ io. absurd (cc);
      log = applies.added.log;
      untouched = λ unchanged _. absurd (false≢true (sym unchanged));
      stands = inr (record { rec = rec; result = Ok position; one = refl; applies = applies; told = refl });
    })
      where
        room : is_full (log_of old) (size_of rec) ≡ false
        room = go (journal.is_full old.limits (sizes_of old.log) (size_of rec)) refl
          where
            ok_err : (n : ℕ) (w : AppendWhy) → ◌≡◌ {A = Result ℕ AppendWhy} (Ok n) (Err w) → ⊥
            ok_err n w h = absurd (cc)

            go : (b : Bool) → journal.is_full old.limits (sizes_of old.log) (size_of rec) ≡ b → is_full (log_of old) (size_of rec) ≡ false
            go false e = full_is old (size_of rec) ∙ e
            go true e = absurd (ok_err position (why.Full (length old.log)) (applies.full e (λ h. ok_err position why.OutOfMemory h)))

        place : position ≡ length old.log + 1
        place = applies.added.position ∙ (ap length applies.added.log ∙ length-append old.log (rec ∷ []))
    steps_applied (Err why.OutOfMemory) applies = subst (λ (s : State D). Steps disks (answer_of (log_of old) (Ok rec)) (added_by (log_of old) (Ok rec)) old s reply.OutOfMemory) (sym (applies.untouched (λ h. absurd (cc))))
        (steps_memory (answer_of (log_of old) (Ok rec)) (added_by (log_of old) (Ok rec)) old)
    steps_applied (Err (why.Full records)) applies =
        let known = applies.full_only records refl in
        by_full true (reply.Full records) (full_is old (size_of rec) ∙ known.0)
        (subst (λ (s : State D). Steps disks (reply.Full (length old.log)) [] old s (reply.Full records)) (sym (applies.untouched (λ h. absurd (cc))))
        (steps_told (reply.Full (length old.log)) old (reply.Full records) (inl (ap reply.Full known.1))))
    steps_applied (Err why.Fault) applies = by_full false reply.Io room (record {
      exact = λ memory io. absurd (io refl);
      failed = λ io. inr (refl, applies.cause.rose refl);
      log = applies.added.log ∙ sym (append-nil old.log);
      untouched = λ _ same. absurd (changed_io (length old.log + 1) (same refl));
      stands = inr (record { rec = rec; result = Err why.Fault; one = refl; applies = applies; told = refl });
    })
      where
        room : is_full (log_of old) (size_of rec) ≡ false
        room = go (journal.is_full old.limits (sizes_of old.log) (size_of rec)) refl
          where
            full_fault : (n : ℕ) → ◌≡◌ {A = Result ℕ AppendWhy} (Err why.Fault) (Err (why.Full n)) → ⊥
            full_fault n h = absurd (cc)

            memory_fault : ◌≡◌ {A = Result ℕ AppendWhy} (Err why.Fault) (Err why.OutOfMemory) → ⊥
            memory_fault h = absurd (cc)

            go : (b : Bool) → journal.is_full old.limits (sizes_of old.log) (size_of rec) ≡ b → is_full (log_of old) (size_of rec) ≡ false
            go false e = full_is old (size_of rec) ∙ e
            go true e = absurd (full_fault (length old.log) (applies.full e memory_fault))
