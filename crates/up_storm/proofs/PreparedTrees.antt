-- The trees that a storm's preparation makes: flat ones, in which each session has its directory and its Access file, and no file.
use Rattle.std.proofs.Common.{◌≡◌, ℕ, zero, suc, ◌+◌, ◌%◌, ◌<◌, ◌≤◌, Bool, true, false, List, [], ◌∷◌, length, map, refl, sym, ap, subst, ◌∙◌, inl, inr, arith, Option, Some, is_some}
use Rattle.std.specs.Prelude.{◌==◌, decimal, if◌then◌else◌, Result, Ok}
use Rattle.std.specs.List.{AllByRecursion, list_any}
use Rattle.std.proofs.lemmas.Bool.{false≢true, or_parts}
use Rattle.std.proofs.lemmas.List.{take_all}
use Rattle.up_blocks.specs.Records.{IsTold}
use Rattle.up_blocks.specs.declared.record.BlockRecord.{BlockRecord}
use Rattle.up_calls.specs.Calls.{Asked}
use Rattle.up_calls.specs.Routes.{Question}
use Rattle.up_calls.specs.Views.{SeenTree}
use Rattle.up_calls.specs.declared.event.Event.{Event}
use Rattle.up_disk.specs.declared.disk.Disk as disk
use Rattle.up_entry.specs.declared.records.Rec.{Rec}
use Rattle.up_host.specs.Alone.{HostState, IsAlone, views}
use Rattle.up_host.specs.Runs.{Called, IsCalled, IsRun, question_of}
use Rattle.up_host.specs.declared.run.Call.{Call}
use Rattle.up_lists.proofs.BeginsLemmas.{Begins-self, Begins-trans}
use Rattle.up_lists.specs.Begins.{Begins}
use Rattle.up_log_tree.proofs.Paths.{some_none}
use Rattle.up_log_tree.specs.Trees.{node_at, tree_of}
use Rattle.up_log_tree.specs.declared.node.Node.{Node}
use Rattle.up_names.specs.Texts.{Text, UserName}
use Rattle.up_names.specs.UserNames.{user_of}
use Rattle.up_names.specs.declared.fault.NameFault.{NameFault}
use Rattle.up_peer.specs.declared.loader.Loader.{Ghosts}
use Rattle.up_shared.specs.Sharing.{EachPair}
use Rattle.up_storm.proofs.AccessDigests.{AreApart}
use Rattle.up_storm.proofs.Grounds.{Ground, path_at, stands_in}
use Rattle.up_storm.proofs.KeptBlocks.{blocks_weaker}
use Rattle.up_storm.proofs.Placings.{Placed, other_placed}
use Rattle.up_storm.proofs.PreparedCalls.{Made, block_call}
use Rattle.up_storm.proofs.PreparedOpening.{store_new, store_tells, trees_new}
use Rattle.up_storm.proofs.PreparedPuts.{access_call, access_stage, plot_call, plot_stage, plot_stands_there, root_call, root_stage}
use Rattle.up_storm.proofs.PreparedReadings.{even_is, odd_is, owners_apart}
use Rattle.up_storm.proofs.PreparedStages.{Stage, StoreStage, TreeNew, TreeStage, new_stays, side_cases, size_at, size_more, size_stays, stage_stays, stage_turned, store_stays, test_other, test_same}
use Rattle.up_storm.proofs.Readings.{owner_read}
use Rattle.up_storm.proofs.SeenGrowth.{all_front}
use Rattle.up_storm.specs.Asked.{owner_text}
use Rattle.up_storm.specs.Preparing.{IsPrepared, IsWanted, Wanted, access_of, block_of, directory_of, prepares_from, preparing, root_of, storm_limits}
use Rattle.up_storm.specs.Sessions.{is_fault}
use Rattle.up_storm.specs.Summary.{added_up}
use Rattle.up_wire.specs.declared.requests.Request.{Request}

-- ---- the calls of a run

-- a call of a run is what was wanted, and no disk failed in it
pub record CalledFor {D : Type 0} (wanted : Wanted) (c : Called D) : Type 0 where
  pub user : user_of wanted.who ≡ Ok c.question.user
  pub request : c.question.request ≡ wanted.what
  pub sound : is_fault c.event.reply ≡ false

module _ {D : Type 0} where
  -- each of the calls that were made is what was wanted
  paired : (wanted : List Wanted) (calls : List Call) (called : List (Called D)) → EachPair IsWanted wanted calls → map (λ (c : Called D). c.question) called ≡ map question_of calls
      → list_any (λ (event : Event). is_fault event.reply) (map (λ (c : Called D). c.event) called) ≡ false → EachPair CalledFor wanted called
  paired [] [] [] each asked sound = tt
  paired [] [] (c ∷ cs) each asked sound = absurd (cc)
  paired [] (call ∷ calls) called each asked sound = absurd each
  paired (w ∷ ws) [] called each asked sound = absurd each
  paired (w ∷ ws) (call ∷ calls) [] each asked sound = absurd (cc)
  paired (w ∷ ws) (call ∷ calls) (c ∷ cs) each asked sound =
      let both : c.question ∷ map (λ (d : Called D). d.question) cs ≡ question_of call ∷ map question_of calls = asked in
      let first : c.question ≡ question_of call = cc in
      let rest : map (λ (d : Called D). d.question) cs ≡ map question_of calls = cc in
      let none = or_parts (is_fault c.event.reply) (list_any (λ (event : Event). is_fault event.reply) (map (λ (d : Called D). d.event) cs)) sound in (
        record {
          user = each.0.user ∙ ap (λ (q : Question). Ok q.user) (sym first);
          request = ap (λ (q : Question). q.request) first ∙ each.0.request;
          sound = none.0;
        },
        paired ws calls cs each.1 rest none.1,
      )

user_same : (r : Result UserName NameFault) (a b : UserName) → r ≡ Ok a → r ≡ Ok b → a ≡ b
user_same r a b p q = cc

-- the two sides are two
sides_differ : 1 % 2 ≡ 0 % 2 → ⊥
sides_differ h = one_zero h
  where
    one_zero : ◌≡◌ {A = ℕ} 1 0 → ⊥
    one_zero h = omega (arith, h)

module _ {D L : Type 0} (disks : disk.Ghosts D) (loader : Ghosts L) where
  -- the store's log only grows
  run_later : (host after : HostState D) (old new : L) (calls : List (Called D)) → IsRun disks loader host old calls after new → Begins host.store.state.log after.store.state.log
  run_later host after old new [] run = subst (λ (h : HostState D). Begins host.store.state.log h.store.state.log) (sym run.0) (Begins-self host.store.state.log)
  run_later host after old new (c ∷ calls) run = Begins-trans run.1.asked.later.store.begins (run_later c.after after run.0 new calls run.2)

  -- and its disk tells what it has as before
  run_tells : (host after : HostState D) (old new : L) (calls : List (Called D)) → IsRun disks loader host old calls after new
      → is_some (disks.content after.store.state.disk) ≡ is_some (disks.content host.store.state.disk)
  run_tells host after old new [] run = ap (λ (h : HostState D). is_some (disks.content h.store.state.disk)) run.0
  run_tells host after old new (c ∷ calls) run = run_tells c.after after run.0 new calls run.2 ∙ run.1.stays.store.told

  -- a call as it was wanted
  made_by : (host : HostState D) (old : L) (c : Called D) (new : L) (who : Text) (what : Request) → user_of who ≡ Ok who → IsCalled disks loader host old c new
      → CalledFor (record { who = who; what = what }) c
      → Made loader host.operator (views disks host) (views disks c.after) old new (record { user = who; request = what }) c.event
  made_by host old c new who what named called fits =
      let user : c.question.user ≡ who = user_same (user_of who) c.question.user who fits.user named in
      let question : c.question ≡ record { user = who; request = what } =
      ap (λ (u : UserName). record { user = u; request = c.question.request }) user ∙ ap (λ (r : Request). record { user = who; request = r }) fits.request in
      record {
        asked = subst (λ (q : Question). Asked loader host.operator (views disks host) old q c.event (views disks c.after) new) question called.asked;
        alone = subst (λ (q : Question). IsAlone (views disks host) (views disks c.after) q c.event) question called.alone;
        sound = fits.sound;
      }

  module _ (sessions : ℕ) (most : sessions ≤ 32) (apart : AreApart sessions) (after : HostState D) (new : L) (told : AllByRecursion (IsTold true) after.store.state.log) where
    -- what the store's log has on the way is told
    told_before : (host : HostState D) (old : L) (calls : List (Called D)) → IsRun disks loader host old calls after new → AllByRecursion (IsTold true) host.store.state.log
    told_before host old calls run =
        let begins = run_later host after old new calls run in
        all_front (IsTold true) host.store.state.log begins.rest (subst (λ (log : List BlockRecord). AllByRecursion (IsTold true) log) (sym begins.whole) told)

    -- ---- a session

    -- one session more is prepared
    one_session : (host : HostState D) (old : L) (d b a : Called D) (rest : List (Called D)) (k : ℕ) → k < sessions → Stage (views disks host) k → CalledFor (directory_of k) d → CalledFor (block_of k) b → CalledFor (access_of k) a
        → IsRun disks loader host old (d ∷ (b ∷ (a ∷ rest))) after new → Stage (views disks a.after) (k + 1)
    one_session host old d b a rest k inside stage for_directory for_block for_access run =
        let low : k < 32 = omega (arith, inside, most) in
        let owner : Text = owner_text k in
        let size : ℕ = size_at (k % 2) k in
        -- the directory
        let first = made_by host old d run.0 owner (directory_of k).what (owner_read k) run.1 for_directory in
        let one = plot_call loader host.operator (views disks host) (views disks d.after) old run.0 d.event k size low first (stage.tree k) in
        let tree_one = plot_stage loader host.operator (views disks host) (views disks d.after) old run.0 d.event k size low first (stage.tree k) in
        let there = plot_stands_there loader host.operator (views disks host) (views disks d.after) old run.0 d.event k size low first (stage.tree k) in
        let store_one = store_stays (views disks host) (views disks d.after) k one.store one.store_fixed stage.store in
        -- the block
        let second = made_by d.after run.0 b run.2.0 owner (block_of k).what (owner_read k) run.2.1 for_block in
        let few_one = store_one.few in
        let two = block_call loader d.after.operator (views disks d.after) (views disks b.after) run.0 run.2.0 owner k low b.event second store_one.blocks (omega (arith, few_one, low)) store_one.fixed
        (told_before b.after run.2.0 (a ∷ rest) run.2.2) in
        let tree_two : TreeStage (views disks b.after) k k (k + 1) (size + 1) = record { v = tree_one.v; there = two.trees owner ∙ tree_one.there; fixed = tree_one.fixed; placed = tree_one.placed } in
        -- the Access file
        let third = made_by b.after run.2.0 a run.2.2.0 owner (access_of k).what (owner_read k) run.2.2.1 for_access in
        let kept = blocks_weaker (k + 1) sessions (omega (arith, inside)) b.after.store.state.log two.blocks in
        let three = access_call loader b.after.operator (views disks b.after) (views disks a.after) run.2.0 run.2.2.0 a.event k (size + 1) low third tree_two there sessions inside apart kept two.held in
        let tree_three = access_stage loader b.after.operator (views disks b.after) (views disks a.after) run.2.0 run.2.2.0 a.event k (size + 1) low third tree_two there sessions inside apart kept two.held in
        let few_two = two.few in
        record {
          tree = λ c. elim (side_cases (k % 2) (c % 2)) [
            | inl same ↦
                let turned = stage_turned (views disks a.after) k c (k + 1) (k + 1) ((size + 1) + 1) same tree_three in
                let count : (size + 1) + 1 ≡ size_at (c % 2) (k + 1) = ap (λ (side : ℕ). (size_at side k + 1) + 1) same ∙ sym (size_more (c % 2) k same) in
                subst (λ (n : ℕ). TreeStage (views disks a.after) c (k + 1) (k + 1) n) count turned
            | inr other ↦
                let owners : owner_text c ≡ owner → ⊥ = owners_apart c k (λ same. other (sym same)) in
                let s = stage.tree c in
                let stays = three.others (owner_text c) owners ∙ two.trees (owner_text c) ∙ one.others (owner_text c) owners in
                stage_stays (views disks host) (views disks a.after) c (k + 1) (k + 1) (size_at (c % 2) (k + 1)) stays (record {
                  v = s.v;
                  there = s.there;
                  fixed = s.fixed;
                  placed = subst (λ (n : ℕ). Placed (owner_text c) (c % 2) (k + 1) (k + 1) n s.v.seen) (sym (size_stays (c % 2) k other)) (other_placed (owner_text c) (c % 2) k (size_at (c % 2) k) s.v.seen other s.placed);
                })
          ];
          store = store_stays (views disks b.after) (views disks a.after) (k + 1) three.store three.store_fixed
              (record { fixed = two.fixed ∙ store_one.fixed; blocks = two.blocks; few = omega (arith, few_two, few_one) });
        }

    -- one session after the other
    all_sessions : (m k : ℕ) → k + m ≤ sessions → (host : HostState D) (old : L) (calls : List (Called D)) → Stage (views disks host) k → EachPair CalledFor (prepares_from k m) calls → IsRun disks loader host old calls after new
        → Stage (views disks after) (k + m)
    all_sessions zero k inside host old [] stage each run =
        let e : k ≡ k + 0 = omega arith in
        subst (λ (n : ℕ). Stage (views disks after) n) e (subst (λ (h : HostState D). Stage (views disks h) k) (sym run.0) stage)
    all_sessions zero k inside host old (c ∷ calls) stage each run = absurd each
    all_sessions (suc m) k inside host old [] stage each run = absurd each
    all_sessions (suc m) k inside host old (d ∷ []) stage each run = absurd each.1
    all_sessions (suc m) k inside host old (d ∷ (b ∷ [])) stage each run = absurd each.1.1
    all_sessions (suc m) k inside host old (d ∷ (b ∷ (a ∷ rest))) stage each run =
        let next = one_session host old d b a rest k (omega (arith, inside)) stage each.0 each.1.0 each.1.1.0 run in
        let e : (k + 1) + m ≡ k + suc m = omega arith in
        subst (λ (n : ℕ). Stage (views disks after) n) e (all_sessions m (k + 1) (omega (arith, inside)) a.after run.2.2.0 rest next each.1.1.1 run.2.2.2)

    -- ---- the roots

    -- both roots are put
    both_roots : (host : HostState D) (old : L) (one two : Called D) → ((c : ℕ) → TreeNew (views disks host) c) → StoreStage (views disks host) 0 → CalledFor (root_of (owner_text 0)) one → CalledFor (root_of (owner_text 1)) two
        → (mid last : L) → IsCalled disks loader host old one mid → IsCalled disks loader one.after mid two last → Stage (views disks two.after) 0
    both_roots host old one two trees store for_one for_two mid last is_one is_two =
        let first = made_by host old one mid (owner_text 0) (root_of (owner_text 0)).what (owner_read 0) is_one for_one in
        let call_one = root_call loader host.operator (views disks host) (views disks one.after) old mid one.event 0 first (trees 0) in
        let tree_one = root_stage loader host.operator (views disks host) (views disks one.after) old mid one.event 0 first (trees 0) in
        let new_one = new_stays (views disks host) (views disks one.after) 1 (call_one.others (owner_text 1) (owners_apart 1 0 sides_differ)) (trees 1) in
        let second = made_by one.after mid two last (owner_text 1) (root_of (owner_text 1)).what (owner_read 1) is_two for_two in
        let call_two = root_call loader one.after.operator (views disks one.after) (views disks two.after) mid last two.event 1 second new_one in
        let tree_two = root_stage loader one.after.operator (views disks one.after) (views disks two.after) mid last two.event 1 second new_one in
        let still_one = stage_stays (views disks one.after) (views disks two.after) 0 0 0 1 (call_two.others (owner_text 0) (owners_apart 0 1 (λ same. sides_differ (sym same)))) tree_one in
        record {
          tree = λ c. elim (side_cases (0 % 2) (c % 2)) [
            | inl same ↦ stage_turned (views disks two.after) 0 c 0 0 1 same still_one
            | inr other ↦ stage_turned (views disks two.after) 1 c 0 0 1 (odd c other) tree_two
          ];
          store = store_stays (views disks one.after) (views disks two.after) 0 call_two.store call_two.store_fixed
              (store_stays (views disks host) (views disks one.after) 0 call_one.store call_one.store_fixed store);
        }
      where
        odd : (c : ℕ) → (0 % 2 ≡ c % 2 → ⊥) → 1 % 2 ≡ c % 2
        odd c other = go (c % 2 == 0) refl
          where
            go : (b : Bool) → (c % 2 == 0) ≡ b → 1 % 2 ≡ c % 2
            go true h = absurd (other (sym (even_is c h)))
            go false h = sym (odd_is c h)

    -- all that prepares a host
    all_prepared : (host : HostState D) (old : L) (calls : List (Called D)) → ((c : ℕ) → TreeNew (views disks host) c) → StoreStage (views disks host) 0 → EachPair CalledFor (preparing sessions) calls
        → IsRun disks loader host old calls after new → Stage (views disks after) sessions
    all_prepared host old [] trees store each run = absurd each
    all_prepared host old (one ∷ []) trees store each run = absurd each.1
    all_prepared host old (one ∷ (two ∷ calls)) trees store each run =
        let none : 0 + sessions ≡ sessions = omega arith in
        subst (λ (n : ℕ). Stage (views disks after) n) none
        (all_sessions sessions 0 (omega arith) two.after run.2.0 calls (both_roots host old one two trees store each.0 each.1.0 run.0 run.2.0 run.1 run.2.1) each.1.1 run.2.2)

-- ---- the trees

-- what counts as a tree's sessions by one test counts so by another that says the same
added_alike : (p q : ℕ → Bool) (f : ℕ → ℕ) → ((k : ℕ) → p k ≡ q k) → (k n : ℕ) → added_up p f k n ≡ added_up q f k n
added_alike p q f same k zero = refl
added_alike p q f same k (suc n) =
    let rest = added_alike p q f same (k + 1) n in
    let first : (if p k then f k else 0) ≡ (if q k then f k else 0) = ap (λ (b : Bool). if b then f k else 0) (same k) in
    omega (arith, rest, first)

-- The tree of session c as a prepared host has it: what is known of it is known for all sessions, no session's file stands, and it has a
-- record and an item for its root, and for each of its sessions two.
pub record PreparedTree {D : Type 0} (disks : disk.Ghosts D) (host : HostState D) (c sessions : ℕ) (is_in : ℕ → Bool) : Type 0 where
  pub v : SeenTree
  pub there : (views disks host).tree (owner_text c) ≡ Some v
  pub fixed : v.fixed ≡ (owner_text c, storm_limits)
  pub ground : Ground c sessions v.seen
  pub empty : (k j : ℕ) → stands_in v.seen k (length v.seen) j ≡ false
  pub long : length v.seen ≡ 1 + added_up is_in (λ k. 2) 0 sessions
  pub wide : length (tree_of v.seen) ≡ 1 + added_up is_in (λ k. 2) 0 sessions

module _ {D L : Type 0} (disks : disk.Ghosts D) (loader : Ghosts L) (none : L) (sessions : ℕ) (host : HostState D) (prepared : IsPrepared disks loader none sessions host)
    (told : AllByRecursion (IsTold (is_some (disks.content host.store.state.disk))) host.store.state.log) (most : sessions ≤ 32) (apart : AreApart sessions) where
  -- the bytes of each block that was kept are told
  all_told : AllByRecursion (IsTold true) host.store.state.log
  all_told =
      let history = prepared.prepared.asked.history in
      let tells : is_some (disks.content host.store.state.disk) ≡ true = run_tells disks loader prepared.opened host none prepared.prepared.asked.after history.called history.run ∙ store_tells disks prepared.opened prepared.is_opened in
      subst (λ (b : Bool). AllByRecursion (IsTold b) host.store.state.log) tells told

  -- all sessions are prepared
  staged : Stage (views disks host) sessions
  staged =
      let asked = prepared.prepared.asked in
      let history = asked.history in
      let sound : list_any (λ (event : Event). is_fault event.reply) (map (λ (c : Called D). c.event) history.called) ≡ false =
      ap (λ (events : List Event). list_any (λ (event : Event). is_fault event.reply) events) history.made ∙ asked.sound in
      all_prepared disks loader sessions most apart host asked.after all_told prepared.opened none history.called (trees_new disks prepared.opened prepared.is_opened) (store_new disks prepared.opened prepared.is_opened)
      (paired (preparing sessions) prepared.prepared.calls history.called prepared.prepared.wanted history.asked sound) history.run

  -- A prepared host has the trees of both owners so.
  pub prepared_tree : (c : ℕ) (is_in : ℕ → Bool) → ((k : ℕ) → is_in k ≡ true → k % 2 ≡ c % 2) → ((k : ℕ) → k % 2 ≡ c % 2 → is_in k ≡ true) → PreparedTree disks host c sessions is_in
  prepared_tree c is_in inside within =
      let s = staged.tree c in
      let p = s.placed in
      let count : size_at (c % 2) sessions ≡ 1 + added_up is_in (λ k. 2) 0 sessions = ap (λ (n : ℕ). 1 + n) (added_alike (λ k. k % 2 == c % 2) is_in (λ k. 2) alike 0 sessions) in
      record {
        v = s.v;
        there = s.there;
        fixed = s.fixed;
        ground = record {
          flat = p.stands.flat;
          plots = p.stands.plots;
          bare = p.stands.bare;
          files = λ name j node there. absurd (some_none node (sym there ∙ p.stands.no_files (owner_text c) name j));
          slight = p.slight;
          slight_tree = p.stands.slight;
          few = (let wide = p.wide in omega (arith, wide));
        };
        empty = λ k j. ap (λ (rs : List Rec). is_some (node_at (tree_of rs) (path_at k j))) (take_all (length s.v.seen) s.v.seen (omega arith))
            ∙ ap (λ (o : Option Node). is_some o) (p.stands.no_files (owner_text k) (decimal k) j);
        long = p.long ∙ count;
        wide = p.wide ∙ (p.long ∙ count);
      }
    where
      alike : (k : ℕ) → (k % 2 == c % 2) ≡ is_in k
      alike k = go (is_in k) refl
        where
          go : (b : Bool) → is_in k ≡ b → (k % 2 == c % 2) ≡ is_in k
          go true is = test_same k (c % 2) (inside k is) ∙ sym is
          go false is = test_other k (c % 2) (λ same. false≢true (sym is ∙ within k same)) ∙ sym is
