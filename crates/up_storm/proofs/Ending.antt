-- The sessions have ended, or one of them has failed: what comes of joining their seats, and of telling the whole.
use Rattle.std.proofs.Common.{◌≡◌, ◌≤◌, ◌<◌, ℕ, Bool, true, false, List, [], ◌∷◌, ◌++◌, length, take, drop, refl, sym, ap, subst, ◌∙◌, arith, nat_le}
use Rattle.std.specs.Prelude.{◌&&◌, Result, Ok, Err, IfOk, is_some, map, slice_index_or}
use Rattle.std.specs.List.{AllByRecursion, list_any}
use Rattle.std.proofs.lemmas.Bool.Decides.{nat_tests}
use Rattle.up_blocks.specs.Records.{IsTold}
use Rattle.up_disk.specs.declared.disk.Disk as disk
use Rattle.up_host.specs.Alone.{HostState}
use Rattle.up_host.specs.Shares.{IsSharedHost}
use Rattle.up_names.specs.Texts.{Text}
use Rattle.up_peer.specs.declared.loader.Loader.{Ghosts}
use Rattle.up_shared.specs.Sharing.{AreSeats}
use Rattle.up_shared.specs.declared.shared.Seats.{Seats}
use Rattle.up_shared.specs.declared.shared.Shared.{Shared}
use Rattle.up_storm.proofs.StormLemmas.{few_said, has_ended, is_storm}
use Rattle.up_storm.specs.Plans.{is_within}
use Rattle.up_storm.specs.Preparing.{IsPrepared}
use Rattle.up_storm.specs.Seating.{AreBegun, AreJoined, HasEnded}
use Rattle.up_storm.specs.Sessions.{HasRun, Session, said_of}
use Rattle.up_storm.specs.Storms.{HasTold, IsStorm}
use Rattle.up_storm.specs.Telling.{IsFew}
use Rattle.up_storm.specs.declared.plan.Plan.{Plan}
use Rattle.up_storm.specs.declared.session.Said.{Said}

-- what was lent as a slice and comes back as long as it was
take_front : {X : Type 0} (xs rest : List X) → take (length xs) (xs ++ rest) ≡ xs
take_front [] rest = refl
take_front (x ∷ xs) rest = ap (λ ys. x ∷ ys) (take_front xs rest)

pub comes_back : {X : Type 0} (n : ℕ) (xs old : List X) → n ≡ length xs → take n (xs ++ drop (length xs) old) ≡ xs
comes_back n xs old long = ap (λ m. take m (xs ++ drop (length xs) old)) long ∙ take_front xs (drop (length xs) old)

-- what is tested of a list that is shown holds of that list
pub none_failed : {D L : Type 0} (shown ws : List (Session D L)) → shown ≡ ws → false ≡ list_any (λ (w : Session D L). w.failed) shown → list_any (λ (w : Session D L). w.failed) ws ≡ false
none_failed {D} {L} shown ws same h = sym (h ∙ ap (λ (vs : List (Session D L)). list_any (λ (w : Session D L). w.failed) vs) same)

module _ {D L : Type 0} (loader : Ghosts L) (shared : Shared D) (plan : Plan) where
  abbrev Ran : List (Session D L) → List (Session D L) → Type 0
  Ran vs ws = (k : ℕ) (d : Session D L) → k < length vs → (slice_index_or ws k d).failed ≡ false → HasRun loader shared plan.full k plan.requests (slice_index_or vs k d) (slice_index_or ws k d)

  -- The sessions that began were given to be run, came back, and were shown: none has failed.
  pub ended_ok : {V E : Type 0} (result : Result V E) (items : V → List Said) (none : L) (seats left all : Seats D) (begun given ended back shown : List (Session D L))
      → AreBegun none plan.seed 0 seats begun left → length begun ≡ plan.sessions → given ≡ begun → length ended ≡ length given → back ≡ ended → shown ≡ back
      → false ≡ list_any (λ (w : Session D L). w.failed) shown
      → ((k : ℕ) (d : Session D L) → k < length given → (slice_index_or ended k d).failed ≡ false → HasRun loader shared plan.full k plan.requests (slice_index_or given k d) (slice_index_or ended k d))
      → IfOk result (λ (v : V). AreJoined left back all) → IfOk result (λ (v : V). items v ≡ map (λ (w : Session D L). said_of w) back)
      → IfOk result (λ (v : V). HasEnded loader none shared plan seats all (items v))
  ended_ok (Ok v) items none seats left all begun given ended back shown begins number same long came shows sound ran joins said =
      has_ended loader shared plan none seats left all begun ended (items v) begins number (long ∙ ap (λ (vs : List (Session D L)). length vs) same) (none_failed shown ended (shows ∙ came) sound)
      (subst (λ (vs : List (Session D L)). Ran vs ended) same ran) (subst (λ (vs : List (Session D L)). AreJoined left vs all) came joins)
      (said ∙ ap (λ (vs : List (Session D L)). map (λ (w : Session D L). said_of w) vs) came)
  ended_ok (Err e) items none seats left all begun given ended back shown begins number same long came shows sound ran joins said = joins

-- a plan keeps its bounds
and_rest : (p q : Bool) → p && q ≡ true → q ≡ true
and_rest true q h = h
and_rest false true h = refl
and_rest false false h = h

and_first : (p q : Bool) → p && q ≡ true → p ≡ true
and_first true q h = refl
and_first false q h = h

le_from_test : (a b : ℕ) → nat_le a b ≡ true → a ≤ b
le_from_test a b h = grind (arith, nat_tests)

pub few_requests : (plan : Plan) → is_within plan ≡ true → plan.requests ≤ 4096
few_requests plan h =
    le_from_test plan.requests 4096 (and_rest (nat_le plan.sessions 32) (nat_le plan.requests 4096) (and_rest (nat_le 1 plan.sessions) (nat_le plan.sessions 32 && nat_le plan.requests 4096) h))

pub few_sessions : (plan : Plan) → is_within plan ≡ true → plan.sessions ≤ 32
few_sessions plan h =
    le_from_test plan.sessions 32 (and_first (nat_le plan.sessions 32) (nat_le plan.requests 4096) (and_rest (nat_le 1 plan.sessions) (nat_le plan.sessions 32 && nat_le plan.requests 4096) h))

pub few_ok : {D L V E : Type 0} (result : Result V E) (items : V → List Said) (requests n : ℕ) (ws back : List (Session D L)) → requests ≤ 4096 → n ≡ length ws
    → ((k : ℕ) (d : Session D L) → k < n → IsFew requests (slice_index_or ws k d).tally) → back ≡ ws → IfOk result (λ (v : V). items v ≡ map (λ (w : Session D L). said_of w) back)
    → IfOk result (λ (v : V). AllByRecursion (λ (one : Said). IsFew 4096 one.tally) (items v))
few_ok {D} {L} (Ok v) items requests n ws back less long few came is =
    few_said requests n ws (items v) less long few (is ∙ ap (λ (vs : List (Session D L)). map (λ (w : Session D L). said_of w) vs) came)
few_ok (Err e) items requests n ws back less long few came is = is

module _ {D L : Type 0} (disks : disk.Ghosts D) (loader : Ghosts L) (none : L) (plan : Plan) (host : HostState D) where
  -- what was told is the text of a storm
  storm_told : {A E : Type 0} (made : Result A E) (text : A → Text) (shared : Shared D) (seats all : Seats D) (said : List Said)
      → IsPrepared disks loader none plan.sessions host → IsSharedHost host shared seats → AllByRecursion (IsTold (is_some (disks.content host.store.state.disk))) host.store.state.log
      → HasEnded loader none shared plan seats all said → AreSeats shared all
      → IfOk made (λ (a : A). HasTold plan all said (text a)) → IfOk made (λ (a : A). IsStorm disks loader none plan (text a))
  storm_told (Ok a) text shared seats all said prepared is_shared kept ended sits told = is_storm disks loader none plan (text a) host shared seats all said prepared is_shared kept ended sits told
  storm_told (Err e) text shared seats all said prepared is_shared kept ended sits told = told

  pub storm_ok : {A E : Type 0} (result made : Result A E) (text : A → Text) (shared : Shared D) (seats all : Seats D) (shown said : List Said)
      → IsPrepared disks loader none plan.sessions host → IsSharedHost host shared seats → AllByRecursion (IsTold (is_some (disks.content host.store.state.disk))) host.store.state.log
      → HasEnded loader none shared plan seats all said → AreSeats shared all
      → shown ≡ said → IfOk made (λ (a : A). HasTold plan all shown (text a)) → result ≡ made → IfOk result (λ (a : A). IsStorm disks loader none plan (text a))
  storm_ok {A} {E} result made text shared seats all shown said prepared is_shared kept ended sits shows told is =
      subst (λ (r : Result A E). IfOk r (λ (a : A). IsStorm disks loader none plan (text a))) (sym is)
      (storm_told made text shared seats all said prepared is_shared kept ended sits (subst (λ (s : List Said). IfOk made (λ (a : A). HasTold plan all s (text a))) shows told))

  -- where a session has failed, nothing is told
  pub storm_err : {A E : Type 0} {e : E} (result : Result A E) (text : A → Text) → IsPrepared disks loader none plan.sessions host → result ≡ Err e
      → IfOk result (λ (a : A). IsStorm disks loader none plan (text a))
  storm_err {A} {E} result text prepared is = subst (λ (r : Result A E). IfOk r (λ (a : A). IsStorm disks loader none plan (text a))) (sym is) tt
