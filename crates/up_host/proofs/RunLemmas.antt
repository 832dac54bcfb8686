-- In a run of calls, positions never fall.
use Rattle.std.proofs.Common.{◌≡◌, ◌≤◌, ◌<◌, ℕ, zero, suc, Bool, true, false, List, [], ◌∷◌, ◌++◌, length, refl, sym, ap, subst, ◌∙◌, inl, inr, arith, Option, Some, None, option_map, slice_get, nat_le, map, take, ◌+◌}
use Rattle.std.specs.Prelude.{Contains, if◌then◌else◌}
use Rattle.std.specs.List.{AllByRecursion}
use Rattle.std.proofs.Math.ListN.{get_or}
use Rattle.std.proofs.lemmas.List.{take_more}
use Rattle.std.proofs.lemmas.List.{map-append}
use Rattle.std.proofs.lemmas.List.Elements.{Contains-append_cases}
use Rattle.up_disk.specs.declared.disk.Disk as disk
use Rattle.up_calls.proofs.LaterLemmas.{refusal_later}
use Rattle.up_host.specs.Alone.{Counts, HostState, IsAlone, disk_faults, ends_at, io_of, positions, tree_for, tree_view, views}
use Rattle.up_calls.specs.Routes.{LogName, Question}
use Rattle.up_host.specs.Runs.{Called, HasFewIo, IsCalled, IsHistory, IsOrdered, IsRun, LooksAt, all_faults, number_of_io, own_at, question_of}
use Rattle.up_calls.specs.Views.{Later, LaterTree, SeenTree, Views, own_of}
use Rattle.up_calls.specs.declared.event.Event.{Event}
use Rattle.up_host.specs.declared.run.Call.{Call}
use Rattle.up_host.specs.declared.held.Held.{Held}
use Rattle.up_lists.proofs.BeginsLemmas.{length-Begins}
use Rattle.up_peer.specs.declared.loader.Loader.{Ghosts}
use Rattle.up_policy.proofs.PathLists.{Contains-cons, no_member}
use Rattle.up_tree.specs.States.{State}

-- ---- own positions are within the log

positions_within : (base n m : ℕ) → Contains (positions base n) m → m ≤ n
positions_within base zero m h = absurd (no_member m h)
positions_within base (suc n) m h = by (nat_le base n) h (positions_within base n m)
  where
    by : (b : Bool) → Contains (if b then positions base n ++ suc n ∷ [] else positions base n) m → (Contains (positions base n) m → m ≤ n) → m ≤ suc n
    by false h rest = let k : m ≤ n = rest h in omega (arith, k)
    by true h rest = elim (Contains-append_cases (positions base n) (suc n ∷ []) m h) [
      | inl before ↦ let k : m ≤ n = rest before in omega (arith, k)
      | inr last ↦ elim (Contains-cons (suc n) m [] last) [
        | inl same ↦ omega (arith, same)
        | inr none ↦ absurd (no_member m none)
      ]
    ]

tree_within : {D : Type 0} (disks : disk.Ghosts D) (found : Option (Held (State D))) (n m : ℕ) (own : List ℕ)
    → option_map (λ (v : SeenTree). length v.seen) (option_map (tree_view disks) found) ≡ Some m → own_of (option_map (tree_view disks) found) ≡ Some own → Contains own n → n ≤ m
tree_within disks None n m own h k l = absurd (cc)
tree_within disks (Some held) n m own h k l =
    let long : length held.state.log ≡ m = cc in
    let same : own ≡ positions held.base (length held.state.log) = cc in
    let within : n ≤ length held.state.log = positions_within held.base (length held.state.log) n (subst (λ xs. Contains xs n) same l) in
    omega (arith, long, within)

own_within : {D : Type 0} (disks : disk.Ghosts D) (host : HostState D) (log : LogName) (n m : ℕ) (own : List ℕ) → ends_at (Some log) (views disks host) ≡ Some m → own_at log (views disks host) ≡ Some own → Contains own n → n ≤ m
own_within disks host (LogName.OfTree owner) n m own h k l = tree_within disks (tree_for host.trees owner) n m own h k l
own_within disks host LogName.OfStore n m own h k l =
    let long : length host.store.state.log ≡ m = cc in
    let same : own ≡ positions host.store.base (length host.store.state.log) = cc in
    let within : n ≤ length host.store.state.log = positions_within host.store.base (length host.store.state.log) n (subst (λ xs. Contains xs n) same l) in
    omega (arith, long, within)
own_within disks host LogName.OfKeys n m own h k l =
    let long : length host.keys.state.log ≡ m = cc in
    let same : own ≡ positions host.keys.base (length host.keys.state.log) = cc in
    let within : n ≤ length host.keys.state.log = positions_within host.keys.base (length host.keys.state.log) n (subst (λ xs. Contains xs n) same l) in
    omega (arith, long, within)

-- ---- moments

pub moment_at : (calls : List Call) (i : ℕ) (call : Call) → AllByRecursion (λ (c : Call). c.moment < 253402207200) calls → i < length calls → call ≡ get_or calls i call → call.moment < 253402207200
moment_at [] i call all within is = absurd (omega (arith, within))
moment_at (c ∷ calls) zero call all within is = subst (λ (c : Call). c.moment < 253402207200) (sym is) all.0
moment_at (c ∷ calls) (suc i) call all within is = moment_at calls i call all.1 (omega (arith, within)) is

-- ---- what is seen later

tree_ends : (x y : Option SeenTree) → LaterTree x y → (n : ℕ) → option_map (λ (v : SeenTree). length v.seen) x ≡ Some n → (m : ℕ) × (option_map (λ (v : SeenTree). length v.seen) y ≡ Some m) × (n ≤ m)
tree_ends None y later n h = absurd (cc)
tree_ends (Some v) None later n h = absurd later
tree_ends (Some v) (Some w) later n h =
    let long : length v.seen ≡ n = cc in
    let grown : length v.seen ≤ length w.seen = length-Begins later.begins in
    (length w.seen, refl, omega (arith, long, grown))

ends_later : (log : LogName) (a b : Views) → Later a b → (n : ℕ) → ends_at (Some log) a ≡ Some n → (m : ℕ) × (ends_at (Some log) b ≡ Some m) × (n ≤ m)
ends_later (LogName.OfTree owner) a b later n h = tree_ends (a.tree owner) (b.tree owner) (later.trees owner) n h
ends_later LogName.OfStore a b later n h =
    let long : length a.store.seen ≡ n = cc in
    let grown : length a.store.seen ≤ length b.store.seen = length-Begins later.store.begins in
    (length b.store.seen, refl, omega (arith, long, grown))
ends_later LogName.OfKeys a b later n h =
    let long : length a.keys.seen ≡ n = cc in
    let grown : length a.keys.seen ≤ length b.keys.seen = length-Begins later.keys.begins in
    (length b.keys.seen, refl, omega (arith, long, grown))

looks_later : (a b : Views) → Later a b → (log : LogName) (q : Question) (e : Event) → LooksAt a log q e → LooksAt b log q e
looks_later a b later log q e h = record { seen = refusal_later a b later q ∙ h.seen; log_is = h.log_is; enough = h.enough }

-- ---- the replies Io

io_snoc : (events : List Event) (e : Event) → number_of_io (events ++ e ∷ []) ≡ number_of_io events + io_of e.reply
io_snoc [] e = omega arith
io_snoc (event ∷ events) e = let rest = io_snoc events e in omega (arith, rest)

few_none : (n : ℕ) → HasFewIo n n []
few_none n = record { later = omega arith; io = λ h. omega arith }

few_more : (before d d' l l' : ℕ) (events : List Event) (e : Event) → HasFewIo before (d + l) events → Counts d d' l l' e → HasFewIo before (d' + l') (events ++ e ∷ [])
few_more before d d' l l' events e h counts =
    let first = h.later in
    let disks = counts.disks in
    let loader = counts.loader in
    record {
      later = omega (arith, first, disks, loader);
      io = λ below.
          let some = h.io (omega (arith, disks, loader, below)) in
          let more = counts.io below in
          let all = io_snoc events e in
          omega (arith, some, more, all);
    }

-- ---- a run

module _ {D L : Type 0} (disks : disk.Ghosts D) (loader : Ghosts L) where
  end_is : (host after : HostState D) (log : LogName) (q : Question) (e : Event) → IsAlone (views disks host) (views disks after) q e → LooksAt (views disks host) log q e → ends_at (Some log) (views disks host) ≡ Some e.position
  end_is host after log q e alone looks = subst (λ l. ends_at l (views disks host) ≡ Some e.position) looks.log_is (alone.at_end looks.seen looks.enough)

  at_least : (calls : List (Called D)) (host after : HostState D) (old new : L) → IsRun disks loader host old calls after new → (j : ℕ) (next : Called D) (log : LogName) → slice_get calls j ≡ Some next
      → LooksAt (views disks host) log next.question next.event → (n : ℕ) → ends_at (Some log) (views disks host) ≡ Some n → n ≤ next.event.position
  at_least [] host after old new run j next log at looks n ends = absurd (cc)
  at_least (c ∷ calls) host after old new run zero next log at looks n ends =
      let same : c ≡ next = cc in
      let alone : IsAlone (views disks host) (views disks next.after) next.question next.event = subst (λ (c : Called D). IsAlone (views disks host) (views disks c.after) c.question c.event) same run.1.alone in
      let k : Some n ≡ Some next.event.position = sym ends ∙ end_is host next.after log next.question next.event alone looks in
      let equal : n ≡ next.event.position = cc in
      omega (arith, equal)
  at_least (c ∷ calls) host after old new run (suc j) next log at looks n ends =
      let later = run.1.asked.later in
      let more = ends_later log (views disks host) (views disks c.after) later n ends in
      let less : n ≤ more.0 = more.2 in
      let rest : more.0 ≤ next.event.position = at_least calls c.after after run.0 new run.2 j next log at (looks_later (views disks host) (views disks c.after) later log next.question next.event looks) more.0 more.1 in
      omega (arith, less, rest)

  pub ordered : (calls : List (Called D)) (host after : HostState D) (old new : L) → IsRun disks loader host old calls after new → IsOrdered disks (views disks host) calls
  ordered [] host after old new run i j first next log lt at_i at_j looks_i looks_j = absurd (cc)
  ordered (c ∷ calls) host after old new run zero zero first next log lt at_i at_j looks_i looks_j = absurd (omega (arith, lt))
  ordered (c ∷ calls) host after old new run (suc i) zero first next log lt at_i at_j looks_i looks_j = absurd (omega (arith, lt))
  ordered (c ∷ calls) host after old new run (suc i) (suc j) first next log lt at_i at_j looks_i looks_j =
      let later = run.1.asked.later in
      ordered calls c.after after run.0 new run.2 i j first next log (omega (arith, lt)) at_i at_j
      (looks_later (views disks host) (views disks c.after) later log first.question first.event looks_i) (looks_later (views disks host) (views disks c.after) later log next.question next.event looks_j)
  ordered (c ∷ calls) host after old new run zero (suc j) first next log lt at_i at_j looks_i looks_j =
      let same : c ≡ first = cc in
      let alone : IsAlone (views disks host) (views disks first.after) first.question first.event = subst (λ (c : Called D). IsAlone (views disks host) (views disks c.after) c.question c.event) same run.1.alone in
      let later = run.1.asked.later in
      let more = ends_later log (views disks host) (views disks c.after) later first.event.position (end_is host first.after log first.question first.event alone looks_i) in
      let less : first.event.position ≤ more.0 = more.2 in
      let rest : more.0 ≤ next.event.position = at_least calls c.after after run.0 new run.2 j next log at_j (looks_later (views disks host) (views disks c.after) later log next.question next.event looks_j) more.0 more.1 in
      record {
        never_falls = omega (arith, less, rest);
        behind_own = λ n own is there.
            let within : n ≤ more.0 = own_within disks c.after log n more.0 own more.1 (subst (λ (f : Called D). own_at log (views disks f.after) ≡ Some own) (sym same) is) there in
            omega (arith, within, rest);
      }

  -- ---- a run goes on by one call

  run_more : (calls : List (Called D)) (host mid : HostState D) (old l new : L) (c : Called D) → IsRun disks loader host old calls mid l
      → IsCalled disks loader mid l c new → IsRun disks loader host old (calls ++ c ∷ []) c.after new
  run_more [] host mid old l new c run called = (
    new,
    subst (λ (h : HostState D). IsCalled disks loader h old c new) run.0 (subst (λ o. IsCalled disks loader mid o c new) run.1 called),
    (refl, refl),
  )
  run_more (d ∷ calls) host mid old l new c run called = (run.0, run.1, run_more calls d.after mid run.0 l new c run.2 called)

  pub history_none : (host : HostState D) (old : L) → IsHistory disks loader host old [] host old []
  history_none host old = record {
    called = [];
    asked = refl;
    made = refl;
    moments = refl;
    run = (refl, refl);
    ordered = ordered [] host host old old (refl, refl);
    few_io = few_none (all_faults disks loader host old);
  }

  history_more : (host mid : HostState D) (old l new : L) (calls : List Call) (call : Call) (events : List Event) (c : Called D) → IsHistory disks loader host old calls mid l events
      → IsCalled disks loader mid l c new → c.question ≡ question_of call → c.event.moment ≡ call.moment → IsHistory disks loader host old (calls ++ call ∷ []) c.after new (events ++ c.event ∷ [])
  history_more host mid old l new calls call events c h called question moment =
      let run = run_more h.called host mid old l new c h.run called in
      record {
        called = h.called ++ c ∷ [];
        asked = map-append (λ (c : Called D). c.question) h.called (c ∷ []) ∙ ap (λ q. map (λ (c : Called D). c.question) h.called ++ q ∷ []) question
            ∙ ap (λ xs. xs ++ question_of call ∷ []) h.asked ∙ sym (map-append question_of calls (call ∷ []));
        made = map-append (λ (c : Called D). c.event) h.called (c ∷ []) ∙ ap (λ xs. xs ++ c.event ∷ []) h.made;
        moments = map-append (λ (c : Called D). c.event.moment) h.called (c ∷ []) ∙ ap (λ n. map (λ (c : Called D). c.event.moment) h.called ++ n ∷ []) moment
            ∙ ap (λ xs. xs ++ call.moment ∷ []) h.moments ∙ sym (map-append (λ (call : Call). call.moment) calls (call ∷ []));
        run = run;
        ordered = ordered (h.called ++ c ∷ []) host c.after old new run;
        few_io = few_more (all_faults disks loader host old) (disk_faults disks mid) (disk_faults disks c.after) (loader.faults l) (loader.faults new) events c.event h.few_io called.counts;
      }

  pub history_taken : (host mid after : HostState D) (old l new : L) (calls : List Call) (i : ℕ) (call : Call) (events : List Event) (e : Event) → IsHistory disks loader host old (take i calls) mid l events
      → i < length calls → call ≡ get_or calls i call
      → IsCalled disks loader mid l (record { question = question_of call; event = e; after = after }) new → e.moment ≡ call.moment
      → IsHistory disks loader host old (take (i + 1) calls) after new (events ++ e ∷ [])
  history_taken host mid after old l new calls i call events e h within is called moment =
      subst (λ taken. IsHistory disks loader host old taken after new (events ++ e ∷ [])) (sym (take_more calls i call within ∙ ap (λ item. take i calls ++ item ∷ []) (sym is)))
      (history_more host mid old l new (take i calls) call events (record { question = question_of call; event = e; after = after }) h called refl moment)
