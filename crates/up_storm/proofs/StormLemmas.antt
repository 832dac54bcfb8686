-- A whole storm, put together.
use Rattle.std.proofs.Common.{◌≡◌, ◌≤◌, ◌<◌, ℕ, zero, suc, Bool, true, false, List, [], ◌∷◌, ◌++◌, length, refl, sym, ap, subst, ◌∙◌, arith, slice_get, Option, Some, None}
use Rattle.std.specs.Prelude.{◌||◌, codes, is_some, map, slice_index_or, if◌then◌else◌}
use Rattle.std.specs.List.{AllByRecursion, list_any}
use Rattle.up_blocks.specs.Records.{IsTold}
use Rattle.up_command.specs.Printed.{ended}
use Rattle.up_command.specs.Statuses.{AnswersWith}
use Rattle.up_disk.specs.declared.disk.Disk as disk
use Rattle.up_entry.specs.declared.records.Rec.{Rec}
use Rattle.up_host.specs.Alone.{HostState}
use Rattle.up_host.specs.Opens.{OpensTrees}
use Rattle.up_host.specs.Runs.{Called, IsRun}
use Rattle.up_host.specs.Settled.{owner_of}
use Rattle.up_host.specs.Shares.{AreShared, IsSharedHost}
use Rattle.up_host.specs.declared.held.Held.{Held}
use Rattle.up_journal.specs.declared.limits.Limits.{Limits}
use Rattle.up_names.specs.Texts.{Text, UserName}
use Rattle.up_peer.specs.declared.loader.Loader.{Ghosts}
use Rattle.up_shared.proofs.Pairs.{each_length}
use Rattle.up_shared.specs.Sharing.{AreSeats, EachPair, IsTreeSeat}
use Rattle.up_storm.proofs.Wholeness.{whole_again}
use Rattle.up_shared.specs.declared.shared.Seats.{Seats}
use Rattle.up_shared.specs.declared.shared.Shared.{Shared}
use Rattle.up_shared.specs.declared.shared.TreeCell.{TreeCell}
use Rattle.up_shared.specs.declared.shared.TreeSeat.{TreeSeat}
use Rattle.up_storm.specs.Preparing.{IsPrepared, storm_limits}
use Rattle.up_storm.specs.Storms.{HasTold, IsStorm, Means}
use Rattle.up_tree.specs.States.{State}
use Rattle.up_storm.specs.Logs.{IsLogRead, full_of, logged, told_text}
use Rattle.up_storm.specs.Seating.{AreBegun, AreJoined, HasEnded, HasRead}
use Rattle.up_storm.specs.Sessions.{HasRun, Session, said_of}
use Rattle.up_storm.specs.Telling.{IsFew, all_counted, full_text, heading, log_text, numbers_line, sessions_text, storm_text, summary_text, tally_line, tree_line}
use Rattle.up_storm.specs.declared.logs.LogRead.{LogRead}
use Rattle.up_storm.specs.declared.plan.Plan.{Plan}
use Rattle.up_storm.specs.declared.session.Said.{Said}

some_is : {X : Type 0} (x y : X) → Some x ≡ Some y → x ≡ y
some_is x y h = cc

none_some : {X : Type 0} (x : X) → None ≡ Some x → ⊥
none_some x h = cc

false_true : false ≡ true → ⊥
false_true h = cc

-- an item that is there, by its place
get_is : {X : Type 0} (xs : List X) (k : ℕ) (x d : X) → slice_get xs k ≡ Some x → slice_index_or xs k d ≡ x
get_is [] k x d h = absurd (none_some x h)
get_is (y ∷ xs) zero x d h = some_is y x h
get_is (y ∷ xs) (suc k) x d h = get_is xs k x d h

get_below : {X : Type 0} (xs : List X) (k : ℕ) (x : X) → slice_get xs k ≡ Some x → k < length xs
get_below [] k x h = absurd (none_some x h)
get_below (y ∷ xs) zero x h = omega arith
get_below (y ∷ xs) (suc k) x h = let less = get_below xs k x h in omega (arith, less)

-- none of a list passes a test that none passes
neither_first : (p q : Bool) → p || q ≡ false → p ≡ false
neither_first false q h = refl
neither_first true q h = h

neither_rest : (p q : Bool) → p || q ≡ false → q ≡ false
neither_rest false q h = h
neither_rest true false h = refl
neither_rest true true h = h

none_at : {X : Type 0} (test : X → Bool) (xs : List X) (k : ℕ) (x : X) → list_any test xs ≡ false → slice_get xs k ≡ Some x → test x ≡ false
none_at test [] k x none h = absurd (none_some x h)
none_at test (y ∷ xs) zero x none h = subst (λ z. test z ≡ false) (some_is y x h) (neither_first (test y) (list_any test xs) none)
none_at test (y ∷ xs) (suc k) x none h = none_at test xs k x (neither_rest (test y) (list_any test xs) none) h

module _ {D L : Type 0} (loader : Ghosts L) (shared : Shared D) (plan : Plan) where
  -- what holds of each place holds of each session there
  pub all_ran : (begun ended : List (Session D L)) → list_any (λ (w : Session D L). w.failed) ended ≡ false
      → ((k : ℕ) (d : Session D L) → k < length begun → (slice_index_or ended k d).failed ≡ false → HasRun loader shared plan.full k plan.requests (slice_index_or begun k d) (slice_index_or ended k d))
      → (k : ℕ) (v w : Session D L) → slice_get begun k ≡ Some v → slice_get ended k ≡ Some w → HasRun loader shared plan.full k plan.requests v w
  all_ran begun ended none ran k v w hv hw =
      let p : slice_index_or begun k w ≡ v = get_is begun k v w hv in
      let q : slice_index_or ended k w ≡ w = get_is ended k w w hw in
      let sound : (slice_index_or ended k w).failed ≡ false = ap (λ (s : Session D L). s.failed) q ∙ none_at (λ (s : Session D L). s.failed) ended k w none hw in
      subst (λ (s : Session D L). HasRun loader shared plan.full k plan.requests s w) p
      (subst (λ (s : Session D L). HasRun loader shared plan.full k plan.requests (slice_index_or begun k w) s) q (ran k w (get_below begun k v hv) sound))

  pub has_ended : (none : L) (seats left all : Seats D) (begun ended : List (Session D L)) (said : List Said)
      → AreBegun none plan.seed 0 seats begun left → length begun ≡ plan.sessions → length ended ≡ length begun
      → list_any (λ (w : Session D L). w.failed) ended ≡ false
      → ((k : ℕ) (d : Session D L) → k < length begun → (slice_index_or ended k d).failed ≡ false → HasRun loader shared plan.full k plan.requests (slice_index_or begun k d) (slice_index_or ended k d))
      → AreJoined left ended all → said ≡ map (λ (w : Session D L). said_of w) ended
      → HasEnded loader none shared plan seats all said
  has_ended none seats left all begun ended said begins number long sound ran joins said_is = record {
    begun = begun;
    left = left;
    begins = begins;
    ended = ended;
    as_many = number;
    all_ended = long ∙ number;
    ran = all_ran begun ended sound ran;
    joins = joins;
    said_is = said_is;
  }

-- few replies of each session are few of what each says
pub few_said : {D L : Type 0} (requests n : ℕ) (ws : List (Session D L)) (said : List Said) → requests ≤ 4096 → n ≡ length ws
    → ((k : ℕ) (d : Session D L) → k < n → IsFew requests (slice_index_or ws k d).tally) → said ≡ map (λ (w : Session D L). said_of w) ws
    → AllByRecursion (λ (one : Said). IsFew 4096 one.tally) said
few_said {D} {L} requests n ws said less long few is = subst (AllByRecursion (λ (one : Said). IsFew 4096 one.tally)) (sym is) (by_each ws (λ k d below. few k d (omega (arith, long, below)))) where
  by_each : (vs : List (Session D L)) → ((k : ℕ) (d : Session D L) → k < length vs → IsFew requests (slice_index_or vs k d).tally)
      → AllByRecursion (λ (one : Said). IsFew 4096 one.tally) (map (λ (w : Session D L). said_of w) vs)
  by_each [] each = tt
  by_each (v ∷ vs) each = (let first = each 0 v (omega arith) in omega (arith, first, less), by_each vs (λ k d below. each (suc k) d (omega (arith, below))))

-- what is told over what was read is told over the logs
logged_is : (owner : Text) (log : List Rec) (read : LogRead) (full : Bool) → full ≡ true → IsLogRead full log read → logged owner read ≡ log_text owner log
logged_is owner log read true is h = ap (λ (t : Text). ended (codes "log " ++ owner) ++ t) h.text
logged_is owner log read false is h = absurd (false_true is)

full_is : (first second : LogRead) (a b : List Rec) (said : List Said) (full : Bool) → IsLogRead full a first → IsLogRead full b second
    → (if full then full_of first second said else []) ≡ (if full then full_text a b said else [])
full_is first second a b said false h k = refl
full_is first second a b said true h k =
    ap (λ (t : Text). t ++ (logged (codes "b@storm.example") second ++ sessions_text 0 said)) (logged_is (codes "a@storm.example") a first true refl h)
    ∙ ap (λ (t : Text). log_text (codes "a@storm.example") a ++ (t ++ sessions_text 0 said)) (logged_is (codes "b@storm.example") b second true refl k)

numbers_are : (owner : Text) (log : List Rec) (read : LogRead) (full : Bool) → IsLogRead full log read → numbers_line owner read.records read.rows ≡ tree_line owner log
numbers_are owner log read full h = ap (λ (n : ℕ). numbers_line owner n read.rows) h.records ∙ ap (λ (m : ℕ). numbers_line owner (length log) m) h.rows

pub told_is : (plan : Plan) (first second : LogRead) (a b : List Rec) (said : List Said) (text : Text) → IsLogRead plan.full a first → IsLogRead plan.full b second
    → text ≡ told_text plan first second said → text ≡ storm_text plan a b said
told_is plan first second a b said text h k is =
    let t = all_counted said in
    let rest : Text = if plan.full then full_of first second said else [] in
    is
    ∙ ap (λ (l : Text). (heading plan ++ ((l ++ numbers_line (codes "b@storm.example") second.records second.rows) ++ tally_line t)) ++ rest) (numbers_are (codes "a@storm.example") a first plan.full h)
    ∙ ap (λ (l : Text). (heading plan ++ ((tree_line (codes "a@storm.example") a ++ l) ++ tally_line t)) ++ rest) (numbers_are (codes "b@storm.example") b second plan.full k)
    ∙ ap (λ (l : Text). summary_text plan a b t ++ l) (full_is first second a b said plan.full h k)

-- ---- both trees are there

opened_owners : {D : Type 0} (disks : disk.Ghosts D) (limits : Limits) (owners : List UserName) (given : List D) (trees : List (Held (State D))) → OpensTrees disks limits owners given trees → map owner_of trees ≡ owners
opened_owners disks limits [] [] [] h = refl
opened_owners disks limits (o ∷ owners) (d ∷ given) (t ∷ trees) h =
    ap (λ (u : UserName). u ∷ map owner_of trees) h.0.owner_is ∙ ap (λ (us : List UserName). o ∷ us) (opened_owners disks limits owners given trees h.1)
opened_owners disks limits [] [] (t ∷ trees) h = absurd h
opened_owners disks limits [] (d ∷ given) trees h = absurd h
opened_owners disks limits (o ∷ owners) [] trees h = absurd h
opened_owners disks limits (o ∷ owners) (d ∷ given) [] h = absurd h

shared_owners : {D : Type 0} (trees : List (Held (State D))) (cells : List (TreeCell D)) (seats : List (TreeSeat D)) → AreShared trees cells seats → map (λ (c : TreeCell D). c.owner) cells ≡ map owner_of trees
shared_owners [] [] [] h = refl
shared_owners {D} (t ∷ trees) (c ∷ cells) (s ∷ seats) h =
    ap (λ (u : UserName). u ∷ map (λ (d : TreeCell D). d.owner) cells) h.0.owner ∙ ap (λ (us : List UserName). owner_of t ∷ us) (shared_owners trees cells seats h.1)
shared_owners [] [] (s ∷ seats) h = absurd h
shared_owners [] (c ∷ cells) seats h = absurd h
shared_owners (t ∷ trees) [] seats h = absurd h
shared_owners (t ∷ trees) (c ∷ cells) [] h = absurd h

pub seated_owners : {D : Type 0} (cells : List (TreeCell D)) (seats : List (TreeSeat D)) → EachPair IsTreeSeat cells seats → map (λ (s : TreeSeat D). s.owner) seats ≡ map (λ (c : TreeCell D). c.owner) cells
seated_owners [] [] h = refl
seated_owners {D} (c ∷ cells) (s ∷ seats) h =
    ap (λ (u : UserName). u ∷ map (λ (x : TreeSeat D). x.owner) seats) h.0.owner ∙ ap (λ (us : List UserName). c.owner ∷ us) (seated_owners cells seats h.1)
seated_owners [] (s ∷ seats) h = absurd h
seated_owners (c ∷ cells) [] h = absurd h

run_owners : {D L : Type 0} (disks : disk.Ghosts D) (loader : Ghosts L) (host : HostState D) (old : L) (calls : List (Called D)) (after : HostState D) (new : L) → IsRun disks loader host old calls after new
    → map owner_of after.trees ≡ map owner_of host.trees
run_owners {D} disks loader host old [] after new h = ap (λ (s : HostState D). map owner_of s.trees) h.0
run_owners disks loader host old (c ∷ calls) after new h = run_owners disks loader c.after h.0 calls after new h.2 ∙ h.1.stays.owners

pub both_trees : {D L : Type 0} (disks : disk.Ghosts D) (loader : Ghosts L) (none : L) (sessions : ℕ) (host : HostState D) (shared : Shared D) (seats : Seats D)
    → IsPrepared disks loader none sessions host → IsSharedHost host shared seats → map (λ (c : TreeCell D). c.owner) shared.trees.items ≡ codes "a@storm.example" ∷ codes "b@storm.example" ∷ []
both_trees disks loader none sessions host shared seats h k =
    let history = h.prepared.asked.history in
    shared_owners host.trees shared.trees.items seats.trees.items k.trees
    ∙ run_owners disks loader h.opened none history.called host h.prepared.asked.after history.run
    ∙ opened_owners disks storm_limits (codes "a@storm.example" ∷ codes "b@storm.example" ∷ []) h.is_opened.opens.logs.of_trees h.opened.trees h.is_opened.opens.logs.trees_are

map_length : {X Y : Type 0} (f : X → Y) (xs : List X) → length (map f xs) ≡ length xs
map_length f [] = refl
map_length f (x ∷ xs) = ap suc (map_length f xs)

-- so there are two
pub two_trees : {D : Type 0} (shared : Shared D) → map (λ (c : TreeCell D). c.owner) shared.trees.items ≡ codes "a@storm.example" ∷ codes "b@storm.example" ∷ [] → length shared.trees.items ≡ 2
two_trees {D} shared h = sym (map_length (λ (c : TreeCell D). c.owner) shared.trees.items) ∙ ap length h

-- and what is told of them
pub told_by : {D : Type 0} (plan : Plan) (shared : Shared D) (all : Seats D) (first second : LogRead) (said : List Said) (text : Text) → AreSeats shared all
    → map (λ (c : TreeCell D). c.owner) shared.trees.items ≡ codes "a@storm.example" ∷ codes "b@storm.example" ∷ []
    → HasRead plan.full all 0 first → HasRead plan.full all 1 second → text ≡ told_text plan first second said → HasTold plan all said text
told_by plan shared all first second said text sits owners h k is = record {
  owners = seated_owners shared.trees.items all.trees.items sits.trees ∙ owners;
  first = h.log;
  reads_first = h.is_read;
  second = k.log;
  reads_second = k.is_read;
  text_is = told_is plan first second h.log k.log said text h.told k.told is;
}

pub is_storm : {D L : Type 0} (disks : disk.Ghosts D) (loader : Ghosts L) (none : L) (plan : Plan) (text : Text) (host : HostState D) (shared : Shared D) (seats all : Seats D) (said : List Said)
    → IsPrepared disks loader none plan.sessions host → IsSharedHost host shared seats → AllByRecursion (IsTold (is_some (disks.content host.store.state.disk))) host.store.state.log
    → HasEnded loader none shared plan seats all said → AreSeats shared all → HasTold plan all said text → IsStorm disks loader none plan text
is_storm disks loader none plan text host shared seats all said prepared is_shared kept ended sits told =
    let even : length all.trees.items ≡ length seats.trees.items
    = each_length IsTreeSeat shared.trees.items all.trees.items sits.trees ∙ sym (each_length IsTreeSeat shared.trees.items seats.trees.items is_shared.sits.trees) in
    record {
      host = host;
      prepared = prepared;
      shared = shared;
      seats = seats;
      is_shared = is_shared;
      kept = kept;
      all = all;
      said = said;
      ended = ended;
      whole = whole_again loader shared plan.full plan.requests none plan.seed host seats ended.left all ended.begun ended.ended is_shared ended.begins ended.joins (ended.all_ended ∙ sym ended.as_many) ended.ran even;
      told = told;
    }

pub means : {D L : Type 0} (disks : disk.Ghosts D) (loader : Ghosts L) (none : L) (plan : Plan) (text : Text) (old new : Option Text) (status : ℕ) → IsStorm disks loader none plan text
    → AnswersWith old new (record { text = text; status = 0 }) status → Means disks loader none plan old new status
means disks loader none plan text old new status storm answers = record { text = text; storm = storm; answers = answers }
