-- What is kept after a call that added no record.
use Rattle.std.proofs.Common.{◌≡◌, ◌≤◌, ◌<◌, ◌+◌, ◌^◌, ◌⊎◌, inl, inr, ⊎_elim, arith, ℕ, true, List, [], ◌∷◌, length, Option, Some, None, option_map, is_some, IsSome, IfSome, Result, Ok, Err, OnOk, OnErr, refl, sym, ◌∙◌, ap, subst}
use Rattle.up_disk.specs.Disk.{LeavesOnly, written}
use Rattle.up_disk.specs.declared.disk.Disk.{Ghosts}
use Rattle.up_disk.proofs.Moments.{weaker}
use Rattle.up_journal.specs.Cells.{EachShape, IsOneOf, IsSized, Rests, RestsAsOne, Stands}
use Rattle.up_disk.specs.Leaving.{Leaves}
use Rattle.up_journal.specs.Format2.{head_size}
use Rattle.up_journal.specs.Gates.{behind_gate}
use Rattle.up_journal.specs.Journal.{HasLog, MayHave, StandsFor, with_further}
use Rattle.up_journal.specs.Kept.{IsKept, further_seen, held_for, log_seen}
use Rattle.up_journal.specs.declared.limits.Limits.{Limits}
use Rattle.up_journal.specs.declared.limits.Span.{Span}
use Rattle.up_journal.proofs.Kept.{kept_safe}
use Rattle.up_journal.proofs.Runs.{shape_now}
use Rattle.up_journal.proofs.Bases.{Base, base, further_same, log_same, moved, rests_further, rests_stand}

-- what may be further after a record was not written: nothing, what was, or its payload
abbrev pub IsOneFurther : Option (List ℕ) → List ℕ → Option (List ℕ) → Type 0
IsOneFurther was payload now = (now ≡ None) ⊎ ((now ≡ was) ⊎ (now ≡ Some payload))

-- what is held for it
pub record HeldFurther (content : Option (List ℕ)) (head : List ℕ) (was : Option (List ℕ)) (payload : List ℕ) (which : Option (List ℕ)) : Type 0 where
  pub further : Option (List ℕ)
  pub held : IsSome content → which ≡ held_for head further
  pub one : IsOneFurther was payload further

pub held_further : (content : Option (List ℕ)) (head : List ℕ) (was : Option (List ℕ)) (payload : List ℕ) (held which : Option (List ℕ)) → (IsSome content → held ≡ held_for head was) → IsOneOf held (behind_gate head payload) which
    → HeldFurther content head was payload which
held_further content head was payload held which held_is (inl none) = record { further = None; held = λ some. none; one = inl refl }
held_further content head was payload held which held_is (inr (inl same)) = record { further = was; held = λ some. same ∙ held_is some; one = inr (inl refl) }
held_further content head was payload held which held_is (inr (inr one)) = record { further = Some payload; held = λ some. one; one = inr (inr refl) }

nothing_seen : (gate : ℕ) (size : Option ℕ) → further_seen None gate size ≡ None
nothing_seen gate None = refl
nothing_seen gate (Some n) = refl

-- what is seen of it
pub seen_as : (content next : Option (List ℕ)) (gate : ℕ) (was now : Option ℕ) → is_some next ≡ is_some content → (IsSome content → further_seen next gate now ≡ further_seen content gate was)
    → further_seen next gate now ≡ further_seen content gate was
seen_as None None gate was now told same = nothing_seen gate now ∙ sym (nothing_seen gate was)
seen_as None (Some bytes) gate was now told same = absurd (cc)
seen_as (Some bytes) next gate was now told same = same refl

pub seen_one : (content next : Option (List ℕ)) (gate : ℕ) (now : Option ℕ) (was : Option (List ℕ)) (payload : List ℕ) (further : Option (List ℕ)) → is_some next ≡ is_some content → (IsSome content → further_seen next gate now ≡ further)
    → IsOneFurther was payload further → IsOneFurther was payload (further_seen next gate now)
seen_one None None gate now was payload further told same one = inl (nothing_seen gate now)
seen_one None (Some bytes) gate now was payload further told same one = absurd (cc)
seen_one (Some bytes) next gate now was payload further told same one = subst (λ (f : Option (List ℕ)). IsOneFurther was payload f) (sym (same refl)) one

module _ {D : Type 0} (disks : Ghosts D) (old new : D) (limits : Limits) (spans : List Span) (gate : ℕ) (head : List ℕ) (was now : Option ℕ) where
  -- what is kept, and what is seen of it
  pub record Unadded (further : Option (List ℕ)) : Type 0 where
    pub kept : IsKept disks new limits spans gate head now
    pub log : log_seen (disks.content new) spans ≡ log_seen (disks.content old) spans
    pub seen : IsSome (disks.content old) → further_seen (disks.content new) gate now ≡ further

  pub unadded : IsKept disks old limits spans gate head was → (b : Base (disks.content old) (disks.may_leave old) gate head was) → is_some (disks.content new) ≡ is_some (disks.content old)
      → IfSome (disks.content new) (disks.may_leave new) → disks.size_of old ≤ disks.size_of new
      → ((n : ℕ) → now ≡ Some n → (gate + head_size + n < disks.size_of new) × (gate + head_size + n < 2 ^ 62) × (n ≤ limits.largest))
      → (which : Option (List ℕ)) → EachShape which b.front (disks.may_leave new) → (further : Option (List ℕ)) → (IsSome (disks.content old) → which ≡ held_for head further) → IsSized which now → Unadded further
  unadded kept b told leaves longer doubt which shape further same sized = record {
    kept = moved disks old new limits spans gate head was now kept b told leaves longer doubt which shape further same sized;
    log = log_same limits spans gate head (disks.may_leave old) (disks.may_leave new) was (disks.size_of old) (disks.content old) (disks.content new) kept.gates b told leaves which shape;
    seen = λ some. further_same limits spans gate head (disks.may_leave old) (disks.may_leave new) was (disks.size_of old) (disks.content old) (disks.content new) kept.gates b told leaves further now
        (subst (λ (w : Option (List ℕ)). IsSized w now) (same some) sized) (subst (λ (w : Option (List ℕ)). EachShape w b.front (disks.may_leave new)) (same some) shape) some;
  }

-- what is doubtful after a call keeps the limits
pub doubt_kept : {E : Type 0} (result : Result (Unit {0}) E) (doubtful next : Option ℕ) → OnOk result (next ≡ None) → OnErr result ((next ≡ doubtful) × IsSome doubtful) → (n : ℕ) → next ≡ Some n → doubtful ≡ Some n
doubt_kept (Ok x) doubtful next none same n is = absurd (cc)
doubt_kept (Err e) doubtful next none same n is = sym same.0 ∙ is

pub doubt_by : (doubtful next : Option ℕ) (gate size behind old_size new_size largest : ℕ) → behind ≡ size + head_size → (next ≡ None) ⊎ ((next ≡ doubtful) ⊎ ((next ≡ Some size) × (gate + 1 + behind ≤ new_size)))
    → ((n : ℕ) → doubtful ≡ Some n → (gate + head_size + n < old_size) × (gate + head_size + n < 2 ^ 62) × (n ≤ largest)) → gate + head_size + size < 2 ^ 62 → size ≤ largest → old_size ≤ new_size
    → (n : ℕ) → next ≡ Some n → (gate + head_size + n < new_size) × (gate + head_size + n < 2 ^ 62) × (n ≤ largest)
doubt_by doubtful next gate size behind old_size new_size largest sums (inl none) doubt small fits longer n is = absurd (cc)
doubt_by doubtful next gate size behind old_size new_size largest sums (inr (inl same)) doubt small fits longer n is = let old = doubt n (sym same ∙ is) in (omega (arith, old.0, longer), old.1, old.2)
doubt_by doubtful next gate size behind old_size new_size largest sums (inr (inr new)) doubt small fits longer n is =
    let same : size ≡ n = cc in (omega (arith, same, new.1, sums), omega (arith, same, small), omega (arith, same, fits))

-- nothing is held where the gate was closed, else what was
pub record Settled {E : Type 0} (result : Result (Unit {0}) E) (content : Option (List ℕ)) (head : List ℕ) (front : List ℕ) (was : Option (List ℕ)) (size : Option ℕ) (images : List ℕ → Type 0) : Type 0 where
  pub which : Option (List ℕ)
  pub further : Option (List ℕ)
  pub held : IsSome content → which ≡ held_for head further
  pub sized : IsSized which size
  pub shape : EachShape which front images
  pub done : OnOk result (further ≡ None)
  pub kept : OnErr result (further ≡ was)

pub settled : {E : Type 0} (result : Result (Unit {0}) E) (content : Option (List ℕ)) (head front : List ℕ) (held was : Option (List ℕ)) (doubtful next : Option ℕ) (images : List ℕ → Type 0)
    → (IsSome content → held ≡ held_for head was) → IsSized held doubtful → OnOk result (next ≡ None) → OnErr result ((next ≡ doubtful) × IsSome doubtful) → OnOk result (EachShape None front images) → EachShape held front images
    → Settled result content head front was next images
settled (Ok x) content head front held was doubtful next images held_is sized none same closed shape =
    record { which = None; further = None; held = λ some. refl; sized = sym (ap (option_map (λ n. n + head_size)) none); shape = closed; done = refl; kept = tt }
settled (Err e) content head front held was doubtful next images held_is sized none same closed shape =
    record { which = held; further = was; held = held_is; sized = sized ∙ sym (ap (option_map (λ n. n + head_size)) same.0); shape = shape; done = tt; kept = refl }

pub on_ok_given : {T E P Q : Type 0} (result : Result T E) → (P → Q) → OnOk result P → OnOk result Q
on_ok_given (Ok x) f p = f p
on_ok_given (Err e) f p = tt

pub on_err_given : {T E P Q : Type 0} (result : Result T E) → (P → Q) → OnErr result P → OnErr result Q
on_err_given (Ok x) f p = tt
on_err_given (Err e) f p = f p

pub on_err_both : {T E P Q R : Type 0} (result : Result T E) → (P → Q → R) → OnErr result P → OnErr result Q → OnErr result R
on_err_both (Ok x) both p q = tt
on_err_both (Err e) both p q = both p q

-- ---- what a crash leaves meanwhile

module _ {D : Type 0} (disks : Ghosts D) (old new : D) (limits : Limits) (spans : List Span) (gate : ℕ) (head : List ℕ) (was : Option ℕ) (kept : IsKept disks old limits spans gate head was)
    (sized : IfSome (disks.content old) (λ bytes. length bytes ≡ disks.size_of old)) (b : Base (disks.content old) (disks.may_leave old) gate head was) where
  pub settling : LeavesOnly disks.moment disks.left_since old new (Rests (disks.content old) b.held b.front)
      → LeavesOnly disks.moment disks.left_since old new (StandsFor limits.largest (log_seen (disks.content old) spans) (further_seen (disks.content old) gate was))
  settling run = weaker disks.moment disks.left_since old new (Rests (disks.content old) b.held b.front) (StandsFor limits.largest (log_seen (disks.content old) spans) (further_seen (disks.content old) gate was)) run
      (rests_stand disks old limits spans gate head was kept sized b)

  may_have : (payload : List ℕ) → length payload ≤ limits.largest → (image : List ℕ) → RestsAsOne (disks.content old) b.held (behind_gate head payload) b.front image
      → MayHave limits.largest (log_seen (disks.content old) spans) (further_seen (disks.content old) gate was) payload image
  may_have payload fits image rests = by_which rests.which rests.one rests.rests
    where
      alone : StandsFor limits.largest (log_seen (disks.content old) spans) None image → MayHave limits.largest (log_seen (disks.content old) spans) (further_seen (disks.content old) gate was) payload image
      alone stands = ⊎_elim (λ has. inl (inl has)) (λ has. by_log (log_seen (disks.content old) spans) has) stands
        where
          by_log : (log : Option (List (List ℕ))) → HasLog limits.largest (with_further log None) image → MayHave limits.largest log (further_seen (disks.content old) gate was) payload image
          by_log None has = absurd (let e = has.told in cc)
          by_log (Some log) has = absurd (let e = has.told in cc)

      by_which : (which : Option (List ℕ)) → IsOneOf b.held (behind_gate head payload) which → Rests (disks.content old) which b.front image
          → MayHave limits.largest (log_seen (disks.content old) spans) (further_seen (disks.content old) gate was) payload image
      by_which which (inl none) rests =
          alone (rests_further disks old limits spans gate head was kept sized b None (λ some. tt) image (subst (λ (h : Option (List ℕ)). Rests (disks.content old) h b.front image) none rests))
      by_which which (inr (inl same)) rests =
          inl (rests_stand disks old limits spans gate head was kept sized b image (subst (λ (h : Option (List ℕ)). Rests (disks.content old) h b.front image) same rests))
      by_which which (inr (inr one)) rests =
          ⊎_elim (λ has. inl (inl has)) (λ has. inr has)
          (rests_further disks old limits spans gate head was kept sized b (Some payload) (λ some. fits) image (subst (λ (h : Option (List ℕ)). Rests (disks.content old) h b.front image) one rests))

  pub appending : (payload : List ℕ) → length payload ≤ limits.largest → LeavesOnly disks.moment disks.left_since old new (RestsAsOne (disks.content old) b.held (behind_gate head payload) b.front)
      → LeavesOnly disks.moment disks.left_since old new (MayHave limits.largest (log_seen (disks.content old) spans) (further_seen (disks.content old) gate was) payload)
  appending payload fits run =
      weaker disks.moment disks.left_since old new (RestsAsOne (disks.content old) b.held (behind_gate head payload) b.front)
      (MayHave limits.largest (log_seen (disks.content old) spans) (further_seen (disks.content old) gate was) payload) run (may_have payload fits)

-- ---- a call that settles

-- what is kept, seen and left once a doubtful record is settled, or not
pub record Resolved {D E : Type 0} (disks : Ghosts D) (old new : D) (limits : Limits) (spans : List Span) (gate : ℕ) (head : List ℕ) (was now : Option ℕ) (result : Result (Unit {0}) E) : Type 0 where
  pub kept : IsKept disks new limits spans gate head now
  pub log : log_seen (disks.content new) spans ≡ log_seen (disks.content old) spans
  pub refused : OnErr result (further_seen (disks.content new) gate now ≡ further_seen (disks.content old) gate was)
  pub crash : Leaves disks old new (StandsFor limits.largest (log_seen (disks.content new) spans) (further_seen (disks.content new) gate now))
      (StandsFor limits.largest (log_seen (disks.content old) spans) (further_seen (disks.content old) gate was))

pub resolved : {D E : Type 0} (disks : Ghosts D) (sized : (disk : D) → IfSome (disks.content disk) (λ bytes. length bytes ≡ disks.size_of disk)) (told : (disk : D) (image : List ℕ) → disks.may_leave disk image → IsSome (disks.content disk))
    (leaves_read : (disk : D) → IfSome (disks.content disk) (disks.may_leave disk)) (counts_now : (disk : D) (t : ℕ) (image : List ℕ) → t ≤ disks.moment disk → disks.may_leave disk image → disks.left_since disk t image)
    (old new : D) (limits : Limits) (spans : List Span) (gate : ℕ) (head : List ℕ) (was now : Option ℕ) (result : Result (Unit {0}) E) → IsKept disks old limits spans gate head was
    → disks.size_of new ≡ disks.size_of old → is_some (disks.content new) ≡ is_some (disks.content old) → OnOk result (now ≡ None) → OnErr result ((now ≡ was) × IsSome was)
    → ((held : Option (List ℕ)) (front : List ℕ) → Stands held front gate was (disks.may_leave old) → LeavesOnly disks.moment disks.left_since old new (Rests (disks.content old) held front))
    → OnOk result ((held : Option (List ℕ)) (front : List ℕ) → Stands held front gate was (disks.may_leave old) → EachShape None front (disks.may_leave new))
    → Resolved disks old new limits spans gate head was now result
resolved disks sized told leaves_read counts_now old new limits spans gate head was now result kept size same none refused run closed =
    let b = base disks old limits spans gate head was kept (sized old) (told old) in
    let meanwhile = run b.held b.front b.stands in
    let s = settled result (disks.content old) head b.front b.held (further_seen (disks.content old) gate was) was now (disks.may_leave new) b.held_is b.stands.sized none refused
    (on_ok_given result (λ f. f b.held b.front b.stands) closed) (shape_now disks counts_now old new b.held b.front meanwhile) in
    let after = unadded disks old new limits spans gate head was now kept b same (leaves_read new) (omega (arith, size))
    (λ n is. let doubt = kept.doubt n (doubt_kept result was now none refused n is) in (omega (arith, doubt.0, size), doubt.1, doubt.2)) s.which s.shape s.further s.held s.sized in
    record {
      kept = after.kept;
      log = after.log;
      refused = on_err_given result (λ is. seen_as (disks.content old) (disks.content new) gate was now same (λ some. after.seen some ∙ is)) s.kept;
      crash = record {
        safe = (kept_safe disks new limits spans gate head now after.kept (sized new) (told new)).each;
        any_moment = settling disks old new limits spans gate head was kept (sized old) b meanwhile;
      };
    }

-- the gate that was closed is the one behind the log
pub closed_at : {E : Type 0} (result : Result (Unit {0}) E) (doubtful : Option ℕ) (gate place : ℕ) (was now : Option (List ℕ)) → gate ≡ place → OnOk result (IsSome doubtful → now ≡ option_map (written gate (0 ∷ [])) was)
    → OnOk result (is_some doubtful ≡ true → now ≡ option_map (written place (0 ∷ [])) was)
closed_at (Ok x) doubtful gate place was now same closed = λ some. closed some ∙ ap (λ (k : ℕ). option_map (written k (0 ∷ [])) was) same
closed_at (Err e) doubtful gate place was now same closed = tt
