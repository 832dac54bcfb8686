-- What every reader of records above a journal needs.
use Rattle.std.proofs.Common.{◌≡◌, ◌+◌, ◌≤◌, ◌-◌, ℕ, suc, List, [], ◌∷◌, ◌++◌, length, take, drop, take-append-drop, Option, Some, None, option_map, is_some, IsSome, IfSome, Result, Ok, Err, refl, sym, ◌∙◌, ap, subst, ◌⊎◌, inl, inr, ⊎_elim, arith, sum_by}
use Rattle.std.proofs.Math.Seq.{drop-cons}
use Rattle.std.proofs.lemmas.List.{drop_all}
use Rattle.std.proofs.lemmas.Grind.{take_at_read}
use Rattle.std.proofs.lemmas.List.Sums.{sum_by-append, sum_by-cons}
use Rattle.std.proofs.lemmas.Option.{get_or_from_slice_get, slice_get_within}
use Rattle.std.specs.List.{slice_get}
use Rattle.std.specs.Option.{option_and_then}
use Rattle.up_disk.proofs.Moments.{joined, started, weaker}
use Rattle.up_disk.specs.declared.disk.Disk.{Ghosts}
use Rattle.up_disk.specs.Leaving.{Leaves, LeavesNow}
use Rattle.up_journal.specs.Crashes.{IsOpened, SyncsFirst}
use Rattle.up_journal.specs.Damages.{Damage, Damaged}
use Rattle.up_journal.specs.Format2.{head_size, log_of}
use Rattle.up_journal.specs.Gates.{first_gate}
use Rattle.up_journal.specs.Journal.{gate_behind as gate_after}
use Rattle.up_journal.specs.Journal.{HasLog, IsReadAs, MayHave, StandsFor, State, with_further}
use Rattle.up_journal.specs.Opened.{IsDamageOf, IsLogOf}
use Rattle.up_journal.specs.declared.fault.OpenWhy.{OpenWhy}
use Rattle.up_journal.specs.declared.fault.OpenWhy.TheVariants as open_why
use Rattle.up_journal.specs.declared.limits.Limits.{Limits}
use Rattle.up_journal.proofs.Opened.{damaged_is}
use Rattle.up_journal.specs.Records.{HasNext, IsReadAlike, LeadsTo, MayHaveState, OnlyPayloads, ReadUpTo, Replays, StandsForState, by_record, of_log, or_place, records_of, replay, replay_from, state_after, state_of}

-- ---- lists

pub drop_get : {A : Type 0} (xs : List A) (n : ℕ) (x : A) → slice_get xs n ≡ Some x → drop n xs ≡ x ∷ drop (n + 1) xs
drop_get {A} xs n x is =
    let next : suc n ≡ n + 1 = omega arith in
    drop-cons xs n x (slice_get_within xs n x is)
    ∙ ap (λ (y : A). y ∷ drop (suc n) xs) (get_or_from_slice_get xs n x x is)
    ∙ ap (λ (k : ℕ). x ∷ drop k xs) next

pub take_next : {A : Type 0} (xs : List A) (n : ℕ) (x : A) → slice_get xs n ≡ Some x → take (n + 1) xs ≡ take n xs ++ x ∷ []
take_next {A} xs n x is = (take_at_read xs n x (slice_get_within xs n x is)).1 ∙ ap (λ (y : A). take n xs ++ y ∷ []) (get_or_from_slice_get xs n x x is)

-- ---- places of gates

-- the place of the gate behind records of which the first stands at that gate
abbrev pub gate_behind : ℕ → List (List ℕ) → ℕ
gate_behind gate [] = gate
gate_behind gate (payload ∷ log) = gate_behind (gate + head_size + length payload) log

-- the gate behind one record more
pub gate_next : (sizes : List ℕ) (n size : ℕ) → slice_get sizes n ≡ Some size → gate_after (take (n + 1) sizes) ≡ gate_after (take n sizes) + head_size + size
gate_next sizes n size is =
    omega (arith, ap (λ (l : List ℕ). sum_by (λ s. s + head_size) l) (take_next sizes n size is), sum_by-append (λ (s : ℕ). s + head_size) (take n sizes) (size ∷ []), sum_by-cons (λ (s : ℕ). s + head_size) size [])

-- ---- replays

module _ {S : Type 0} (step : S → List ℕ → Option S) where
  joined_at : (found : Option S) (gate next : ℕ) (log more : List (List ℕ)) (mid : S)
      → ((state : S) → replay_from step next state log ≡ Ok mid → replay_from step next state (log ++ more) ≡ replay_from step (gate_behind next log) mid more)
      → or_place gate found (λ s. replay_from step next s log) ≡ Ok mid → or_place gate found (λ s. replay_from step next s (log ++ more)) ≡ replay_from step (gate_behind next log) mid more
  joined_at None gate next log more mid rest is = absurd (cc)
  joined_at (Some state) gate next log more mid rest is = rest state is

  -- the records behind others are replayed from the state that those lead to
  pub replay_joined : (log more : List (List ℕ)) (gate : ℕ) (state mid : S) → replay_from step gate state log ≡ Ok mid
      → replay_from step gate state (log ++ more) ≡ replay_from step (gate_behind gate log) mid more
  replay_joined [] more gate state mid is = let same : state ≡ mid = cc in ap (λ (s : S). replay_from step gate s more) same
  replay_joined (payload ∷ log) more gate state mid is =
      joined_at (step state payload) gate (gate + head_size + length payload) log more mid (λ next. replay_joined log more (gate + head_size + length payload) next mid) is

  -- one record more, which fits
  pub replay_more : (log : List (List ℕ)) (payload : List ℕ) (gate : ℕ) (state mid next : S) → replay_from step gate state log ≡ Ok mid → step mid payload ≡ Some next
      → replay_from step gate state (log ++ payload ∷ []) ≡ Ok next
  replay_more log payload gate state mid next is fits =
      replay_joined log (payload ∷ []) gate state mid is
      ∙ ap (λ (found : Option S). or_place (gate_behind gate log) found (λ s. replay_from step (gate_behind gate log + head_size + length payload) s [])) fits

  -- a record that does not decode or does not fit, whatever comes behind it
  pub replay_unfit : (log more : List (List ℕ)) (payload : List ℕ) (gate : ℕ) (state mid : S) → replay_from step gate state log ≡ Ok mid → step mid payload ≡ None
      → replay_from step gate state (log ++ payload ∷ more) ≡ Err (Damaged (gate_behind gate log))
  replay_unfit log more payload gate state mid is unfit =
      replay_joined log (payload ∷ more) gate state mid is
      ∙ ap (λ (found : Option S). or_place (gate_behind gate log) found (λ s. replay_from step (gate_behind gate log + head_size + length payload) s more)) unfit

  -- where the whole leads to a state, so does each front
  pub record Fronted (gate : ℕ) (state end : S) (log more : List (List ℕ)) : Type 0 where
    pub mid : S
    pub front : replay_from step gate state log ≡ Ok mid
    pub behind : replay_from step (gate_behind gate log) mid more ≡ Ok end

  fronted_at : (found : Option S) (state end : S) (payload : List ℕ) (gate : ℕ) (log more : List (List ℕ)) → step state payload ≡ found
      → ((next : S) → replay_from step (gate + head_size + length payload) next (log ++ more) ≡ Ok end → Fronted (gate + head_size + length payload) next end log more)
      → or_place gate found (λ s. replay_from step (gate + head_size + length payload) s (log ++ more)) ≡ Ok end → Fronted gate state end (payload ∷ log) more
  fronted_at None state end payload gate log more found_is rest is = absurd (cc)
  fronted_at (Some next) state end payload gate log more found_is rest is =
      let r = rest next is in
      record {
        mid = r.mid;
        front = ap (λ (found : Option S). or_place gate found (λ s. replay_from step (gate + head_size + length payload) s log)) found_is ∙ r.front;
        behind = r.behind;
      }

  pub replay_front : (log more : List (List ℕ)) (gate : ℕ) (state end : S) → replay_from step gate state (log ++ more) ≡ Ok end → Fronted gate state end log more
  replay_front [] more gate state end is = record { mid = state; front = refl; behind = is }
  replay_front (payload ∷ log) more gate state end is =
      fronted_at (step state payload) state end payload gate log more refl (λ next. replay_front log more (gate + head_size + length payload) next end) is

  -- the record at whose gate a replay ends is the first that does not decode or does not fit
  pub record FirstUnfit (gate : ℕ) (state : S) (log : List (List ℕ)) (place : ℕ) : Type 0 where
    pub front : List (List ℕ)
    pub payload : List ℕ
    pub more : List (List ℕ)
    pub is : log ≡ front ++ payload ∷ more
    pub mid : S
    pub fits : replay_from step gate state front ≡ Ok mid
    pub unfit : step mid payload ≡ None
    pub at : place ≡ gate_behind gate front

  unfit_at : (found : Option S) (state : S) (payload : List ℕ) (gate place : ℕ) (log : List (List ℕ)) → step state payload ≡ found
      → ((next : S) → replay_from step (gate + head_size + length payload) next log ≡ Err (Damaged place) → FirstUnfit (gate + head_size + length payload) next log place)
      → or_place gate found (λ s. replay_from step (gate + head_size + length payload) s log) ≡ Err (Damaged place) → FirstUnfit gate state (payload ∷ log) place
  unfit_at None state payload gate place log found_is rest is =
      let at : gate ≡ place = cc in
      record { front = []; payload = payload; more = log; is = refl; mid = state; fits = refl; unfit = found_is; at = sym at }
  unfit_at (Some next) state payload gate place log found_is rest is =
      let r = rest next is in
      record {
        front = payload ∷ r.front;
        payload = r.payload;
        more = r.more;
        is = ap (λ (l : List (List ℕ)). payload ∷ l) r.is;
        mid = r.mid;
        fits = ap (λ (found : Option S). or_place gate found (λ s. replay_from step (gate + head_size + length payload) s r.front)) found_is ∙ r.fits;
        unfit = r.unfit;
        at = r.at;
      }

  pub first_unfit : (log : List (List ℕ)) (gate : ℕ) (state : S) (place : ℕ) → replay_from step gate state log ≡ Err (Damaged place) → FirstUnfit gate state log place
  first_unfit [] gate state place is = absurd (cc)
  first_unfit (payload ∷ log) gate state place is =
      unfit_at (step state payload) state payload gate place log refl (λ next. first_unfit log (gate + head_size + length payload) next place) is

  -- a record of a log that leads to a state fits the state to which those before it lead
  pub record FitsAt (gate : ℕ) (state : S) (log : List (List ℕ)) (n : ℕ) (payload : List ℕ) : Type 0 where
    pub mid : S
    pub front : replay_from step gate state (take n log) ≡ Ok mid
    pub next : S
    pub fits : step mid payload ≡ Some next

  fits_first : (found : Option S) (gate next_gate : ℕ) (mid end : S) (payload : List ℕ) (more : List (List ℕ)) → step mid payload ≡ found
      → or_place gate found (λ s. replay_from step next_gate s more) ≡ Ok end → (next : S) × (step mid payload ≡ Some next)
  fits_first None gate next_gate mid end payload more found_is is = absurd (cc)
  fits_first (Some next) gate next_gate mid end payload more found_is is = (next, found_is)

  pub fits_at : (log : List (List ℕ)) (n gate : ℕ) (payload : List ℕ) (state end : S) → replay_from step gate state log ≡ Ok end → slice_get log n ≡ Some payload → FitsAt gate state log n payload
  fits_at log n gate payload state end is seen =
      let parts : take n log ++ payload ∷ drop (n + 1) log ≡ log = ap (λ (l : List (List ℕ)). take n log ++ l) (sym (drop_get log n payload seen)) ∙ take-append-drop n log in
      let whole : replay_from step gate state (take n log ++ payload ∷ drop (n + 1) log) ≡ Ok end = ap (λ (l : List (List ℕ)). replay_from step gate state l) parts ∙ is in
      let split = replay_front (take n log) (payload ∷ drop (n + 1) log) gate state end whole in
      let first = fits_first (step split.mid payload) (gate_behind gate (take n log)) (gate_behind gate (take n log) + head_size + length payload) split.mid end payload (drop (n + 1) log) refl split.behind in
      record { mid = split.mid; front = split.front; next = first.0; fits = first.1 }

-- ---- payloads as records

module _ {S R : Type 0} (decode : List ℕ → Option R) (fits : S → R → Option S) where
  by_parts : (found : Option R) (after : Option S) (gate : ℕ) (state end : S) (payload : List ℕ) (log : List (List ℕ)) → decode payload ≡ found → option_and_then (fits state) found ≡ after
      → ((next : S) → replay_from (by_record decode fits) (gate + head_size + length payload) next log ≡ Ok end → LeadsTo decode fits next log end)
      → or_place gate after (λ next. replay_from (by_record decode fits) (gate + head_size + length payload) next log) ≡ Ok end → LeadsTo decode fits state (payload ∷ log) end
  by_parts None after gate state end payload log found_is after_is rest is = absurd (let e = sym after_is in cc)
  by_parts (Some first) None gate state end payload log found_is after_is rest is = absurd (cc)
  by_parts (Some first) (Some next) gate state end payload log found_is after_is rest is =
      let r = rest next is in
      record {
        records = first ∷ r.records;
        decoded = ap (λ (o : Option R). option_and_then (λ f. option_map (λ others. f ∷ others) (records_of decode log)) o) found_is ∙ ap (λ (o : Option (List R)). option_map (λ others. first ∷ others) o) r.decoded;
        fitted = ap (λ (o : Option S). option_and_then (λ s. state_after fits s r.records) o) after_is ∙ r.fitted;
      }

  -- a log that is replayed is one of records that fit
  pub leads_to : (log : List (List ℕ)) (gate : ℕ) (state end : S) → replay_from (by_record decode fits) gate state log ≡ Ok end → LeadsTo decode fits state log end
  leads_to [] gate state end is = let same : state ≡ end = cc in record { records = []; decoded = refl; fitted = ap Some same }
  leads_to (payload ∷ log) gate state end is =
      by_parts (decode payload) (option_and_then (fits state) (decode payload)) gate state end payload log refl refl (λ next. leads_to log (gate + head_size + length payload) next end) is

  led_at : (found : Option R) (others : Option (List R)) (after : Option S) (gate : ℕ) (state end : S) (payload : List ℕ) (log : List (List ℕ)) (records : List R)
      → decode payload ≡ found → records_of decode log ≡ others → option_and_then (fits state) found ≡ after
      → option_and_then (λ first. option_map (λ rest. first ∷ rest) others) found ≡ Some records → state_after fits state records ≡ Some end
      → ((rest : List R) (next : S) → records_of decode log ≡ Some rest → state_after fits next rest ≡ Some end
      → replay_from (by_record decode fits) (gate + head_size + length payload) next log ≡ Ok end)
      → or_place gate after (λ next. replay_from (by_record decode fits) (gate + head_size + length payload) next log) ≡ Ok end
  led_at None others after gate state end payload log records found_is others_is after_is decoded fitted rest = absurd (cc)
  led_at (Some first) None after gate state end payload log records found_is others_is after_is decoded fitted rest = absurd (cc)
  led_at (Some first) (Some others) None gate state end payload log records found_is others_is after_is decoded fitted rest =
      let same : first ∷ others ≡ records = cc in
      let none : option_and_then (λ next. state_after fits next others) (fits state first) ≡ None = ap (λ (o : Option S). option_and_then (λ next. state_after fits next others) o) after_is in
      absurd (let e = sym none ∙ ap (λ (l : List R). state_after fits state l) same ∙ fitted in cc)
  led_at (Some first) (Some others) (Some next) gate state end payload log records found_is others_is after_is decoded fitted rest =
      let same : first ∷ others ≡ records = cc in
      rest others next others_is
      (sym (ap (λ (o : Option S). option_and_then (λ s. state_after fits s others) o) after_is) ∙ ap (λ (l : List R). state_after fits state l) same ∙ fitted)

  replay_records : (log : List (List ℕ)) (gate : ℕ) (state end : S) (records : List R) → records_of decode log ≡ Some records → state_after fits state records ≡ Some end
      → replay_from (by_record decode fits) gate state log ≡ Ok end
  replay_records [] gate state end records decoded fitted =
      let none : records ≡ [] = cc in
      let same : state ≡ end = (let e = ap (λ (l : List R). state_after fits state l) (sym none) ∙ fitted in cc) in
      ap Ok same
  replay_records (payload ∷ log) gate state end records decoded fitted =
      led_at (decode payload) (records_of decode log) (option_and_then (fits state) (decode payload)) gate state end payload log records refl refl refl decoded fitted
      (λ rest next others led. replay_records log (gate + head_size + length payload) next end rest others led)

  -- and the other way
  pub replayed : (log : List (List ℕ)) (gate : ℕ) (state end : S) → LeadsTo decode fits state log end → replay_from (by_record decode fits) gate state log ≡ Ok end
  replayed log gate state end leads = replay_records log gate state end leads.records leads.decoded leads.fitted

  -- one record more
  pub records_more : (log : List (List ℕ)) (payload : List ℕ) (records : List R) (last : R) → records_of decode log ≡ Some records → decode payload ≡ Some last
      → records_of decode (log ++ payload ∷ []) ≡ Some (records ++ last ∷ [])
  records_more [] payload records last decoded is =
      let none : records ≡ [] = cc in
      ap (λ (o : Option R). option_and_then (λ f. option_map (λ others. f ∷ others) (Some [])) o) is ∙ ap (λ (l : List R). Some (l ++ last ∷ [])) (sym none)
  records_more (first ∷ log) payload records last decoded is = more_at (decode first) (records_of decode log) refl decoded (λ others. records_more log payload others last)
    where
      more_at : (found : Option R) (rest : Option (List R)) → records_of decode log ≡ rest → option_and_then (λ f. option_map (λ others. f ∷ others) rest) found ≡ Some records
          → ((others : List R) → records_of decode log ≡ Some others → decode payload ≡ Some last → records_of decode (log ++ payload ∷ []) ≡ Some (others ++ last ∷ []))
          → option_and_then (λ f. option_map (λ others. f ∷ others) (records_of decode (log ++ payload ∷ []))) found ≡ Some (records ++ last ∷ [])
      more_at None rest rest_is decoded more = absurd (cc)
      more_at (Some found) None rest_is decoded more = absurd (cc)
      more_at (Some found) (Some others) rest_is decoded more =
          let same : found ∷ others ≡ records = cc in
          ap (λ (o : Option (List R)). option_map (λ others. found ∷ others) o) (more others rest_is is) ∙ ap (λ (l : List R). Some (l ++ last ∷ [])) same

  pub state_more : (records : List R) (last : R) (state mid : S) → state_after fits state records ≡ Some mid → state_after fits state (records ++ last ∷ []) ≡ option_and_then (λ next. Some next) (fits mid last)
  state_more [] last state mid is = let same : state ≡ mid = cc in ap (λ (s : S). option_and_then (λ next. Some next) (fits s last)) same
  state_more (first ∷ records) last state mid is = more_at (fits state first) is (λ next. state_more records last next mid)
    where
      more_at : (found : Option S) → option_and_then (λ next. state_after fits next records) found ≡ Some mid
          → ((next : S) → state_after fits next records ≡ Some mid → state_after fits next (records ++ last ∷ []) ≡ option_and_then (λ next. Some next) (fits mid last))
          → option_and_then (λ next. state_after fits next (records ++ last ∷ [])) found ≡ option_and_then (λ next. Some next) (fits mid last)
      more_at None is more = absurd (cc)
      more_at (Some next) is more = more next is

-- ---- reading a log record by record

module _ {S : Type 0} (step : S → List ℕ → Option S) (start : S) where
  pub read_first : (log : Option (List (List ℕ))) (gate : ℕ) → gate ≡ first_gate → ReadUpTo step start log 0 gate start
  read_first log gate is = record { rest = λ payloads told. ap (λ (k : ℕ). replay_from step k start payloads) (sym is) }

  -- what is left begins with the record
  left_at : (log : Option (List (List ℕ))) (n : ℕ) (payload : List ℕ) → IfSome log (λ payloads. slice_get payloads n ≡ Some payload)
      → (payloads : List (List ℕ)) → log ≡ Some payloads → drop n payloads ≡ payload ∷ drop (n + 1) payloads
  left_at None n payload is payloads told = absurd (cc)
  left_at (Some all) n payload is payloads told =
      let same : all ≡ payloads = cc in
      subst (λ (l : List (List ℕ)). drop n l ≡ payload ∷ drop (n + 1) l) same (drop_get all n payload is)

  pub read_more : (log : Option (List (List ℕ))) (n gate : ℕ) (state next : S) (payload : List ℕ) (behind : ℕ) → ReadUpTo step start log n gate state
      → IfSome log (λ payloads. slice_get payloads n ≡ Some payload) → step state payload ≡ Some next → behind ≡ gate + head_size + length payload
      → ReadUpTo step start log (n + 1) behind next
  read_more log n gate state next payload behind so_far is fits place = record {
    rest = λ payloads told. so_far.rest payloads told
        ∙ ap (λ (l : List (List ℕ)). replay_from step gate state l) (left_at log n payload is payloads told)
        ∙ ap (λ (found : Option S). or_place gate found (λ s. replay_from step (gate + head_size + length payload) s (drop (n + 1) payloads))) fits
        ∙ ap (λ (k : ℕ). replay_from step k next (drop (n + 1) payloads)) (sym place);
  }

  -- nothing is left
  pub read_all : (log : Option (List (List ℕ))) (n gate : ℕ) (state : S) → ReadUpTo step start log n gate state → IfSome log (λ payloads. length payloads ≤ n)
      → (payloads : List (List ℕ)) → log ≡ Some payloads → replay step start payloads ≡ Ok state
  read_all log n gate state so_far all payloads told = so_far.rest payloads told ∙ ap (λ (l : List (List ℕ)). replay_from step gate state l) (none_left log all told)
    where
      none_left : (log : Option (List (List ℕ))) → IfSome log (λ payloads. length payloads ≤ n) → log ≡ Some payloads → drop n payloads ≡ []
      none_left None all told = absurd (cc)
      none_left (Some whole) all told = let same : whole ≡ payloads = cc in drop_all n payloads (subst (λ (l : List (List ℕ)). length l ≤ n) same all)

  pub read_unfit : (log : Option (List (List ℕ))) (n gate : ℕ) (state : S) (payload : List ℕ) → ReadUpTo step start log n gate state
      → IfSome log (λ payloads. slice_get payloads n ≡ Some payload) → step state payload ≡ None
      → (payloads : List (List ℕ)) → log ≡ Some payloads → replay step start payloads ≡ Err (Damaged gate)
  read_unfit log n gate state payload so_far is unfit payloads told =
      so_far.rest payloads told
      ∙ ap (λ (l : List (List ℕ)). replay_from step gate state l) (left_at log n payload is payloads told)
      ∙ ap (λ (found : Option S). or_place gate found (λ s. replay_from step (gate + head_size + length payload) s (drop (n + 1) payloads))) unfit

-- a payload by its number, from 1, as the record of that place, from 0
pub payload_seen : (log mid : Option (List (List ℕ))) (n : ℕ) (payload : List ℕ) → mid ≡ log → IfSome mid (λ payloads. slice_get payloads (n + 1 - 1) ≡ Some payload)
    → IfSome log (λ payloads. slice_get payloads n ≡ Some payload)
payload_seen log mid n payload same is =
    let place : n + 1 - 1 ≡ n = omega arith in
    subst (λ (k : ℕ). IfSome log (λ payloads. slice_get payloads k ≡ Some payload)) place
    (subst (λ (o : Option (List (List ℕ))). IfSome o (λ payloads. slice_get payloads (n + 1 - 1) ≡ Some payload)) same is)

pub size_seen : (sizes mid : List ℕ) (n size : ℕ) → mid ≡ sizes → slice_get mid (n + 1 - 1) ≡ Some size → slice_get sizes n ≡ Some size
size_seen sizes mid n size same is =
    let place : n + 1 - 1 ≡ n = omega arith in
    subst (λ (k : ℕ). slice_get sizes k ≡ Some size) place (subst (λ (l : List ℕ). slice_get l (n + 1 - 1) ≡ Some size) same is)

-- The loop of a reader of records: its next payload is read, by its number from 1, and makes a state, or does not decode or does not
-- fit, which is damage at the gate that the journal names.
module _ {D S : Type 0} (disks : Ghosts D) (step : S → List ℕ → Option S) (start : S) where
  pub next_read : (old mid : State D) (n : ℕ) (state next : S) (payload : List ℕ) → ReadUpTo step start old.log n (gate_after (take n old.sizes)) state → OnlyPayloads disks old mid
      → IfSome mid.log (λ payloads. slice_get payloads (n + 1 - 1) ≡ Some payload) → slice_get mid.sizes (n + 1 - 1) ≡ Some (length payload) → step state payload ≡ Some next
      → ReadUpTo step start old.log (n + 1) (gate_after (take (n + 1) old.sizes)) next
  next_read old mid n state next payload so_far reads is size fits =
      read_more step start old.log n (gate_after (take n old.sizes)) state next payload (gate_after (take (n + 1) old.sizes)) so_far
      (payload_seen old.log mid.log n payload (ap (λ (j : State D). j.log) reads.unchanged) is) fits
      (gate_next old.sizes n (length payload) (size_seen old.sizes mid.sizes n (length payload) (ap (λ (j : State D). j.sizes) reads.unchanged) size))

  pub next_damaged : (old mid new : State D) (n gate : ℕ) (state : S) (payload : List ℕ) → ReadUpTo step start old.log n (gate_after (take n old.sizes)) state → OnlyPayloads disks old mid
      → IfSome mid.log (λ payloads. slice_get payloads (n + 1 - 1) ≡ Some payload) → new ≡ record mid { disk = new.disk } → gate ≡ gate_after (take (n + 1 - 1) new.sizes) → step state payload ≡ None
      → IsDamageOf (replay step start) old.log (open_why.Damaged gate)
  next_damaged old mid new n gate state payload so_far reads is unchanged gate_is unfit =
      let place : n + 1 - 1 ≡ n = omega arith in
      let sizes : new.sizes ≡ old.sizes = ap (λ (j : State D). j.sizes) unchanged ∙ ap (λ (j : State D). j.sizes) reads.unchanged in
      let gate_seen : gate ≡ gate_after (take n old.sizes) = gate_is ∙ ap (λ (k : ℕ). gate_after (take k new.sizes)) place ∙ ap (λ (l : List ℕ). gate_after (take n l)) sizes in
      damaged_is (replay step start) old.log gate (if_told old.log (λ payloads told.
      read_unfit step start old.log n (gate_after (take n old.sizes)) state payload so_far
      (payload_seen old.log mid.log n payload (ap (λ (j : State D). j.log) reads.unchanged) is) unfit payloads told ∙ ap (λ (k : ℕ). Err (Damaged k)) (sym gate_seen)))
    where
      if_told : {A : Type 0} {P : A → Type 0} (told : Option A) → ((x : A) → told ≡ Some x → P x) → IfSome told P
      if_told None each = tt
      if_told (Some x) each = each x refl

-- ---- images

module _ {S : Type 0} (step : S → List ℕ → Option S) (start : S) (largest : ℕ) where
  pub state_read : (image : List ℕ) (log : List (List ℕ)) (answer : Result S Damage) → log_of largest image ≡ Ok log → replay step start log ≡ answer → state_of step start largest image ≡ answer
  unfolding state_of
  state_read image log answer read replayed = ap (λ (r : Result (List (List ℕ)) Damage). of_log r (replay step start)) read ∙ replayed

  state_damaged : (image : List ℕ) (damage : Damage) → log_of largest image ≡ Err damage → state_of step start largest image ≡ Err damage
  unfolding state_of
  state_damaged image damage read = ap (λ (r : Result (List (List ℕ)) Damage). of_log r (replay step start)) read

  state_same : (image bytes : List ℕ) → log_of largest image ≡ log_of largest bytes → state_of step start largest image ≡ state_of step start largest bytes
  unfolding state_of
  state_same image bytes same = ap (λ (r : Result (List (List ℕ)) Damage). of_log r (replay step start)) same

  -- what the content stands for
  pub content_state : (content : Option (List ℕ)) (log : Option (List (List ℕ))) (answer : Result S Damage) → option_map (log_of largest) content ≡ option_map Ok log
      → ((payloads : List (List ℕ)) → log ≡ Some payloads → replay step start payloads ≡ answer) → IfSome content (λ bytes. state_of step start largest bytes ≡ answer)
  content_state None log answer read replayed = tt
  content_state (Some bytes) None answer read replayed = absurd (cc)
  content_state (Some bytes) (Some log) answer read replayed = let is : log_of largest bytes ≡ Ok log = cc in state_read bytes log answer is (replayed log refl)

  damaged_at : (content : Option (List ℕ)) (damage : Damage) → IfSome content (λ bytes. log_of largest bytes ≡ Err damage) → IfSome content (λ bytes. state_of step start largest bytes ≡ Err damage)
  damaged_at None damage read = tt
  damaged_at (Some bytes) damage read = state_damaged bytes damage read

  -- a device that is refused for its gates is refused by the reader of its records
  pub content_damaged : (content : Option (List ℕ)) (why : OpenWhy) → IsDamageOf (log_of largest) content why → IsDamageOf (state_of step start largest) content why
  content_damaged content why damaged damage is = damaged_at content damage (damaged damage is)

  pub read_alike : (content : Option (List ℕ)) (image : List ℕ) → IsReadAs largest content image → IsReadAlike step start largest content image
  read_alike content image read = record { bytes = read.bytes; told = read.told; same = state_same image read.bytes read.same }

  next_at : (found : Option S) (log : List (List ℕ)) (payload : List ℕ) (state : S) (image : List ℕ) → step state payload ≡ found → IsSome found → replay step start log ≡ Ok state
      → log_of largest image ≡ Ok (log ++ payload ∷ []) → HasNext step start largest state (Some payload) image
  next_at None log payload state image found_is some whole read = absurd (cc)
  next_at (Some next) log payload state image found_is some whole read = record {
    payload = payload;
    held = refl;
    next = next;
    fits = found_is;
    read = state_read image (log ++ payload ∷ []) (Ok next) read (replay_more step log payload first_gate start state next whole found_is);
  }

  -- the log with a further record stands for the state after it
  pub has_next : (log : Option (List (List ℕ))) (further : Option (List ℕ)) (state : S) (image : List ℕ) → Replays step start log further state
      → HasLog largest (with_further log further) image → HasNext step start largest state further image
  has_next None further state image replays has = absurd (let e = has.told in cc)
  has_next (Some log) None state image replays has = absurd (let e = has.told in cc)
  has_next (Some log) (Some payload) state image replays has =
      let same : log ++ payload ∷ [] ≡ has.payloads = (let e = has.told in cc) in
      next_at (step state payload) log payload state image refl (replays.fits payload refl) (replays.whole log refl) (has.read ∙ ap Ok (sym same))

  pub has_state : (log : Option (List (List ℕ))) (further : Option (List ℕ)) (state : S) (image : List ℕ) → Replays step start log further state
      → HasLog largest log image → state_of step start largest image ≡ Ok state
  has_state log further state image replays has = state_read image has.payloads (Ok state) has.read (replays.whole has.payloads has.told)

  -- the log or the log with the further record, seen as states
  pub stands_for_state : (log : Option (List (List ℕ))) (further : Option (List ℕ)) (state : S) (image : List ℕ) → Replays step start log further state
      → StandsFor largest log further image → StandsForState step start largest state further image
  stands_for_state log further state image replays stands =
      ⊎_elim (λ has. inl (has_state log further state image replays has)) (λ has. inr (has_next log further state image replays has)) stands

  -- the same, or the log with the payload in hand
  pub may_have_state : (log : Option (List (List ℕ))) (further : Option (List ℕ)) (payload : List ℕ) (state : S) (image : List ℕ) → Replays step start log further state → IsSome (step state payload)
      → MayHave largest log further payload image → MayHaveState step start largest state further payload image
  may_have_state log further payload state image replays fits may =
      ⊎_elim (λ stands. inl (stands_for_state log further state image replays stands))
      (λ has. inr (has_next log (Some payload) state image (record { whole = replays.whole; fits = λ p is. subst (λ (q : List ℕ). IsSome (step state q)) (same_payload p is) fits }) has))
      may
    where
      same_payload : (p : List ℕ) → Some payload ≡ Some p → payload ≡ p
      same_payload p is = cc

  -- with no further record there is the state alone
  pub settled_state : (further : Option (List ℕ)) (state : S) (image : List ℕ) → further ≡ None → StandsForState step start largest state further image → state_of step start largest image ≡ Ok state
  settled_state further state image none stands = ⊎_elim (λ is. is) (λ next. absurd (let e = sym none ∙ next.held in cc)) stands

-- an image that has the log of the content is read as the content is
pub read_as_content : (largest : ℕ) (content : Option (List ℕ)) (log : Option (List (List ℕ))) (image : List ℕ) → option_map (log_of largest) content ≡ option_map Ok log
    → HasLog largest log image → IsReadAs largest content image
read_as_content largest None None image read has = absurd (let e = has.told in cc)
read_as_content largest None (Some log) image read has = absurd (cc)
read_as_content largest (Some bytes) None image read has = absurd (cc)
read_as_content largest (Some bytes) (Some log) image read has =
    let same : log ≡ has.payloads = (let e = has.told in cc) in
    let is : log_of largest bytes ≡ Ok log = cc in
    record { bytes = bytes; told = refl; same = has.read ∙ sym (is ∙ ap Ok same) }

-- ---- what a journal's log leads to, as it goes on

module _ {S : Type 0} (step : S → List ℕ → Option S) (start : S) where
  -- once it is opened
  pub replays_opened : (log : Option (List (List ℕ))) (further : Option (List ℕ)) (state : S) → ((payloads : List (List ℕ)) → log ≡ Some payloads → replay step start payloads ≡ Ok state) → further ≡ None
      → Replays step start log further state
  replays_opened log further state whole none = record { whole = whole; fits = λ payload is. absurd (let e = sym none ∙ is in cc) }

  -- with one record more
  pub replays_more : (log now : Option (List (List ℕ))) (further now_further : Option (List ℕ)) (state next : S) (payload : List ℕ) → Replays step start log further state
      → step state payload ≡ Some next → now ≡ with_further log (Some payload) → now_further ≡ None → Replays step start now now_further next
  replays_more log now further now_further state next payload replays fits is none =
      replays_opened now now_further next (whole log replays.whole is) none
    where
      whole : (log : Option (List (List ℕ))) → ((payloads : List (List ℕ)) → log ≡ Some payloads → replay step start payloads ≡ Ok state) → now ≡ with_further log (Some payload)
          → (payloads : List (List ℕ)) → now ≡ Some payloads → replay step start payloads ≡ Ok next
      whole None was is payloads told = absurd (let e = sym is ∙ told in cc)
      whole (Some log) was is payloads told =
          let same : log ++ payload ∷ [] ≡ payloads = (let e = sym is ∙ told in cc) in
          subst (λ (l : List (List ℕ)). replay step start l ≡ Ok next) same (replay_more step log payload first_gate start state next (was log refl) fits)

  -- with the same records, whatever is doubtful now
  pub replays_kept : (log now : Option (List (List ℕ))) (further now_further : Option (List ℕ)) (state : S) (payload : List ℕ) → Replays step start log further state
      → IsSome (step state payload) → now ≡ log → (now_further ≡ None) ⊎ ((now_further ≡ further) ⊎ (now_further ≡ Some payload)) → Replays step start now now_further state
  replays_kept log now further now_further state payload replays fits same which = record {
    whole = λ payloads told. replays.whole payloads (sym same ∙ told);
    fits = λ p is. ⊎_elim (λ none. absurd (let e = sym none ∙ is in cc))
        (λ some. ⊎_elim (λ old. replays.fits p (sym old ∙ is)) (λ one. subst (λ (q : List ℕ). IsSome (step state q)) (same_some p (sym one ∙ is)) fits) some) which;
  }
    where
      same_some : (p : List ℕ) → Some payload ≡ Some p → payload ≡ p
      same_some p is = cc

  -- with the same records, and the doubtful one settled or not
  pub replays_settled : (log now : Option (List (List ℕ))) (further now_further : Option (List ℕ)) (state : S) → Replays step start log further state
      → now ≡ log → (now_further ≡ None) ⊎ (now_further ≡ further) → Replays step start now now_further state
  replays_settled log now further now_further state replays same which = record {
    whole = λ payloads told. replays.whole payloads (sym same ∙ told);
    fits = λ p is. ⊎_elim (λ none. absurd (let e = sym none ∙ is in cc)) (λ old. replays.fits p (sym old ∙ is)) which;
  }

-- ---- runs

module _ {D : Type 0} (disks : Ghosts D) where
  -- before the first
  pub nothing_read : ((disk : D) (image : List ℕ) → disks.left_since disk (disks.moment disk) image → disks.may_leave disk image)
      → (journal : State D) → LeavesNow disks journal.disk (StandsFor journal.limits.largest journal.log journal.further) → OnlyPayloads disks journal journal
  nothing_read only_now journal safe = record {
    unchanged = refl;
    same = refl;
    fewer = λ image left. left;
    run = started disks.moment disks.left_since journal.disk (StandsFor journal.limits.largest journal.log journal.further) (λ image left. safe.each image (only_now journal.disk image left));
  }

  -- what a crash leaves afterwards
  pub read_safe : (old new : State D) → OnlyPayloads disks old new
      → LeavesNow disks old.disk (StandsFor old.limits.largest old.log old.further) → LeavesNow disks new.disk (StandsFor new.limits.largest new.log new.further)
  read_safe old new reads safe = record {
    each = λ image left. subst (λ (s : State D). StandsFor s.limits.largest s.log s.further image) (sym reads.unchanged) (safe.each image (reads.fewer image left));
  }

  -- one more
  pub payload_read : (old mid new : State D) → OnlyPayloads disks old mid → new ≡ record mid { disk = new.disk } → disks.content new.disk ≡ disks.content mid.disk
      → LeavesNow disks new.disk (disks.may_leave mid.disk)
      → Leaves disks mid.disk new.disk (StandsFor new.limits.largest new.log new.further) (StandsFor mid.limits.largest mid.log mid.further) → OnlyPayloads disks old new
  payload_read old mid new so_far unchanged same fewer crash = record {
    unchanged = unchanged ∙ ap (λ (s : State D). record s { disk = new.disk }) so_far.unchanged;
    same = same ∙ so_far.same;
    fewer = λ image left. so_far.fewer image (fewer.each image left);
    run = joined disks.moment disks.left_since old.disk mid.disk new.disk (StandsFor old.limits.largest old.log old.further) so_far.run
        (weaker disks.moment disks.left_since mid.disk new.disk (StandsFor mid.limits.largest mid.log mid.further) (StandsFor old.limits.largest old.log old.further) crash.any_moment
        (λ image stands. subst (λ (s : State D). StandsFor s.limits.largest s.log s.further image) so_far.unchanged stands));
  }

-- with no further record there is the log alone
pub settled_log : (largest : ℕ) (log : Option (List (List ℕ))) (further : Option (List ℕ)) (image : List ℕ) → further ≡ None → StandsFor largest log further image → HasLog largest log image
settled_log largest log further image none stands = by_log log (subst (λ (f : Option (List ℕ)). StandsFor largest log f image) none stands)
  where
    by_log : (log : Option (List (List ℕ))) → StandsFor largest log None image → HasLog largest log image
    by_log None stands = ⊎_elim (λ has. has) (λ has. has) stands
    by_log (Some payloads) stands = ⊎_elim (λ has. has) (λ has. absurd (let e = has.told in cc)) stands

module _ {D : Type 0} (disks : Ghosts D) where
  -- opening a journal, and then reading payloads
  pub opened_and_read : (disk : D) (opened read : State D) (limits : Limits) (fault : Type 0) → IsLogOf limits.largest (disks.content disk) opened.log → opened.further ≡ None → opened.limits ≡ limits
      → IsOpened disks limits.largest disk opened.disk ⊥ → OnlyPayloads disks opened read → IsOpened disks limits.largest disk read.disk fault
  opened_and_read disk opened read limits fault log none same is_opened reads = record {
    told = ap is_some reads.same ∙ is_opened.told;
    unchanged = λ long. reads.same ∙ is_opened.unchanged long;
    any_moment = inr (⊎_elim (λ fails. absurd fails.failed) goes_on is_opened.any_moment);
  }
    where
      stands : (image : List ℕ) → StandsFor opened.limits.largest opened.log opened.further image → IsReadAs limits.largest (disks.content disk) image
      stands image has = read_as_content limits.largest (disks.content disk) opened.log image log
          (settled_log limits.largest opened.log opened.further image none (subst (λ (l : Limits). StandsFor l.largest opened.log opened.further image) same has))

      goes_on : SyncsFirst disks disk opened.disk (IsReadAs limits.largest (disks.content disk)) → SyncsFirst disks disk read.disk (IsReadAs limits.largest (disks.content disk))
      goes_on first = record {
        synced = first.synced;
        until = first.until;
        settled = first.settled;
        behind = joined disks.moment disks.left_since first.synced opened.disk read.disk (IsReadAs limits.largest (disks.content disk)) first.behind
            (weaker disks.moment disks.left_since opened.disk read.disk (StandsFor opened.limits.largest opened.log opened.further) (IsReadAs limits.largest (disks.content disk)) reads.run stands);
      }

  -- a refusal of the reader of the records leaves the disk synced
  pub refused_synced : (disk : D) (opened read : State D) (limits : Limits) → IsLogOf limits.largest (disks.content disk) opened.log → LeavesNow disks opened.disk (HasLog limits.largest opened.log)
      → OnlyPayloads disks opened read → LeavesNow disks read.disk (IsReadAs limits.largest (disks.content disk))
  refused_synced disk opened read limits log safe reads = record {
    each = λ image left. read_as_content limits.largest (disks.content disk) opened.log image log (safe.each image (reads.fewer image left));
  }
