-- What every call leaves of a host that is not shared.
use Rattle.std.proofs.Common.{◌≡◌, ◌≢◌, ◌≤◌, ◌<◌, ◌+◌, ℕ, Bool, true, false, List, [], ◌∷◌, ◌++◌, length, refl, sym, ap, subst, ◌∙◌, arith, Option, Some, option_map, slice_get, slice_set, bytes_eq}
use Rattle.std.specs.Prelude.{position}
use Rattle.std.specs.List.{sum_by}
use Rattle.std.proofs.Math.Seq.{take-length}
use Rattle.std.proofs.lemmas.Bool.{false≢true}
use Rattle.std.proofs.lemmas.Slice.Eq.{bytes_eq-Decides}
use Rattle.up_blocks.specs.Blocks as blocks
use Rattle.up_blocks.specs.declared.record.BlockRecord.{BlockRecord}
use Rattle.up_calls.proofs.SettledLemmas.{settled_same}
use Rattle.up_calls.specs.Gathered.{OwnText}
use Rattle.up_calls.specs.Loads.{group_text_answer, load_of}
use Rattle.up_calls.specs.Routes.{LogName}
use Rattle.up_calls.specs.Settled.{KeepsSettled}
use Rattle.up_calls.specs.Shown.{QuietBut, failures}
use Rattle.up_calls.specs.Steps.{Takes}
use Rattle.up_calls.specs.Views.{LaterSeen, LaterTree, SeenTree, own_of}
use Rattle.up_disk.specs.declared.disk.Disk.{Ghosts}
use Rattle.up_ends.specs.Growing.{OnlyGrows}
use Rattle.up_host.proofs.AloneLemmas.{grown_own, positions_next}
use Rattle.up_host.proofs.PlaceLemmas.{find_other, found_at, found_is, found_set}
use Rattle.up_host.proofs.SettledLemmas.{host_keys, host_store, host_tree}
use Rattle.up_host.proofs.SumLemmas.{sum_most, sum_set}
use Rattle.up_host.specs.Alone.{AddsOwn, HostState, disk_faults, is_of, positions, tree_for, tree_view, view_of, views}
use Rattle.up_host.specs.Tied.{DiskRose, IsTied}
use Rattle.up_host.specs.TiedLaws.{later_tree, le_same, same_view, seen_same}
use Rattle.up_host.specs.declared.held.Held.{Held}
use Rattle.up_journal.specs.Logs.{LogState}
use Rattle.up_keys.specs.Keys as keys
use Rattle.up_lists.proofs.BeginsLemmas.{length-Begins}
use Rattle.up_lists.specs.Counts.{Rose, StaysUnless}
use Rattle.up_names.specs.PathNames.{PathName}
use Rattle.up_names.specs.Texts.{UserName}
use Rattle.up_policy.specs.declared.load_answer.LoadAnswer.{LoadAnswer}
use Rattle.up_tree.specs.States.{State, entries_of, fixed_of, log_of, over_journal}
use Rattle.up_wire.specs.declared.keys.KeyRecord.{KeyRecord}

-- ---- numbers

first_later : (t u a b s k : ℕ) → u + a ≡ t + b → a ≤ b → t + (s + k) ≤ u + (s + k)
first_later t u a b s k sums later = omega (arith, sums, later)

first_rose : (t u a b s k : ℕ) → u + a ≡ t + b → a ≤ t → Rose a b → Rose (t + (s + k)) (u + (s + k))
first_rose t u a b s k sums most rose = λ small. (let more : a < b = rose (omega (arith, most, small)) in omega (arith, sums, more))

middle_later : (t a b k : ℕ) → a ≤ b → t + (a + k) ≤ t + (b + k)
middle_later t a b k later = omega (arith, later)

middle_rose : (t a b k : ℕ) → Rose a b → Rose (t + (a + k)) (t + (b + k))
middle_rose t a b k rose = λ small. (let more : a < b = rose (omega (arith, small)) in omega (arith, more))

last_later : (t s a b : ℕ) → a ≤ b → t + (s + a) ≤ t + (s + b)
last_later t s a b later = omega (arith, later)

last_rose : (t s a b : ℕ) → Rose a b → Rose (t + (s + a)) (t + (s + b))
last_rose t s a b rose = λ small. (let more : a < b = rose (omega (arith, small)) in omega (arith, more))

-- ---- one log

length-one : {X : Type 0} (xs : List X) (x : X) → length (xs ++ x ∷ []) ≡ length xs + 1
length-one [] x = refl
length-one (y ∷ ys) x = let rest : length (ys ++ x ∷ []) ≡ length ys + 1 = length-one ys x in omega (arith, rest)

-- what a turn of a log of a host takes
pub took_view : {E F : Type 0} (before after : List E) (base failed_before failed_after : ℕ) (fixed_before fixed_after : F) (rises : Type 0) → base ≤ length before → (Rose failed_before failed_after → rises)
    → Takes before after (view_of before base failed_before fixed_before) (view_of after base failed_after fixed_after) failed_before failed_after rises
took_view {E} before after base failed_before failed_after fixed_before fixed_after rises fits up = record {
  from = le_same (length before);
  seen = refl;
  same = λ h. ap (λ (xs : List E). positions base (length xs)) h;
  one = λ x h. ap (λ (xs : List E). positions base (length xs)) h ∙ ap (positions base) (length-one before x) ∙ positions_next base (length before) fits;
  rose = λ h. (h, up h);
}

module _ {D : Type 0} (disks : Ghosts D) where
  -- ---- a tree was changed

  module _ (host : HostState D) (owner : UserName) (place : ℕ) (before : Held (State D)) (state : State D) (at : position (is_of owner) host.trees ≡ Some place) (there : slice_get host.trees place ≡ Some before)
      (grows : OnlyGrows entries_of (λ (s : State D). disks.faults s.disk) fixed_of before.state state) (fits : before.base ≤ length before.state.log) where
    abbrev held : Held (State D)
    held = record { state = state; base = before.base }

    abbrev after : HostState D
    after = record host { trees = slice_set host.trees place (record { state = state; base = before.base }) }

    found : tree_for host.trees owner ≡ Some before
    found = found_at (is_of owner) host.trees place at ∙ there

    owner_is : before.state.owner ≡ owner
    owner_is = found_is host.trees owner before found

    owner_then : state.owner ≡ owner
    owner_then = ap (λ fixed. fixed.0) grows.stays ∙ owner_is

    found_then : tree_for after.trees owner ≡ Some held
    found_then = found_set (is_of owner) host.trees place held at ((bytes_eq-Decides state.owner owner).1 owner_then)

    pub view_before : (views disks host).tree owner ≡ Some (tree_view disks before)
    view_before = ap (option_map (tree_view disks)) found

    pub view_after : (views disks after).tree owner ≡ Some (tree_view disks held)
    view_after = ap (option_map (tree_view disks)) found_then

    not_of : (o : UserName) → o ≢ owner → (h : Held (State D)) → h.state.owner ≡ owner → is_of o h ≡ false
    not_of o differs h is = by (bytes_eq h.state.owner o) refl
      where
        by : (b : Bool) → bytes_eq h.state.owner o ≡ b → b ≡ false
        by false e = refl
        by true e = absurd (differs (sym ((bytes_eq-Decides h.state.owner o).0 e) ∙ is))

    other_tree : (o : UserName) → o ≢ owner → (views disks after).tree o ≡ (views disks host).tree o
    other_tree o differs = ap (option_map (tree_view disks)) (find_other (is_of o) host.trees place before held there (not_of o differs before owner_is) (not_of o differs held owner_then))

    tree_later : LaterSeen (tree_view disks before) (tree_view disks held)
    tree_later = record { begins = grows.begins; failed = grows.later; fixed = grows.stays }

    each_later : (o : UserName) → LaterTree ((views disks host).tree o) ((views disks after).tree o)
    each_later o = by (bytes_eq o owner) refl
      where
        by : (b : Bool) → bytes_eq o owner ≡ b → LaterTree ((views disks host).tree o) ((views disks after).tree o)
        by true h =
            let same : o ≡ owner = (bytes_eq-Decides o owner).0 h in
            subst (λ p. LaterTree ((views disks host).tree p) ((views disks after).tree p)) (sym same)
            (subst (λ v. LaterTree v ((views disks after).tree owner)) (sym view_before) (subst (λ w. LaterTree (Some (tree_view disks before)) w) (sym view_after) tree_later))
        by false h = subst (LaterTree ((views disks host).tree o)) (sym (other_tree o (λ same. false≢true (sym h ∙ (bytes_eq-Decides o owner).1 same)))) (later_tree ((views disks host).tree o))

    own_grown : AddsOwn (tree_view disks before) (tree_view disks held)
    own_grown =
        let grown : length before.state.log ≤ length state.log = length-Begins grows.begins in
        grown_own before.state.log state.log before.base (disks.faults before.state.disk) (disks.faults state.disk) (tree_view disks before).fixed (tree_view disks held).fixed fits (omega (arith, fits, grown))

    each_grown : (o : UserName) (v w : SeenTree) → (views disks host).tree o ≡ Some v → (views disks after).tree o ≡ Some w → AddsOwn v w
    each_grown o v w is_v is_w = by (bytes_eq o owner) refl
      where
        by : (b : Bool) → bytes_eq o owner ≡ b → AddsOwn v w
        by false h = same_view ((views disks host).tree o) v w is_v (sym (other_tree o (λ same. false≢true (sym h ∙ (bytes_eq-Decides o owner).1 same))) ∙ is_w)
        by true h =
            let same : o ≡ owner = (bytes_eq-Decides o owner).0 h in
            let k : Some (tree_view disks before) ≡ Some v = sym view_before ∙ ap (λ p. (views disks host).tree p) (sym same) ∙ is_v in
            let l : Some (tree_view disks held) ≡ Some w = sym view_after ∙ ap (λ p. (views disks after).tree p) (sym same) ∙ is_w in
            let old_is : tree_view disks before ≡ v = cc in
            let new_is : tree_view disks held ≡ w = cc in
            subst (λ x. AddsOwn x w) old_is (subst (AddsOwn (tree_view disks before)) new_is own_grown)

    -- the disks failed as often as the tree's did
    abbrev of_tree : Held (State D) → ℕ
    of_tree h = disks.faults h.state.disk

    sums : sum_by of_tree after.trees + disks.faults before.state.disk ≡ sum_by of_tree host.trees + disks.faults state.disk
    sums = sum_set of_tree host.trees place before held there

    tree_counts : disk_faults disks host ≤ disk_faults disks after
    tree_counts = first_later (sum_by of_tree host.trees) (sum_by of_tree after.trees) (disks.faults before.state.disk) (disks.faults state.disk) (disks.faults host.store.state.disk) (disks.faults host.keys.state.disk) sums grows.later

    pub tree_rose : Rose (disks.faults before.state.disk) (disks.faults state.disk) → DiskRose disks host after
    tree_rose rose = record {
      later = tree_counts;
      rose = first_rose (sum_by of_tree host.trees) (sum_by of_tree after.trees) (disks.faults before.state.disk) (disks.faults state.disk) (disks.faults host.store.state.disk) (disks.faults host.keys.state.disk) sums
          (sum_most of_tree host.trees place before there) rose;
    }

    -- no disk failed but the tree's, and that one only where its count did not stay
    quiet_tree : (fault : Type 0) → StaysUnless (disks.faults before.state.disk) (disks.faults state.disk) fault → QuietBut (λ log. failures (views disks after) log ≡ failures (views disks host) log) (LogName.OfTree owner) fault
    quiet_tree fault stays = record { stays = by }
      where
        mine : (fault → ⊥) → failures (views disks after) (LogName.OfTree owner) ≡ failures (views disks host) (LogName.OfTree owner)
        mine none =
            ap (option_map (λ (v : SeenTree). v.failed)) view_after ∙ ap (λ (n : ℕ). Some n) (stays.stays none) ∙ sym (ap (option_map (λ (v : SeenTree). v.failed)) view_before)

        at_tree : (o : UserName) (b : Bool) → bytes_eq o owner ≡ b → (LogName.OfTree o ≡ LogName.OfTree owner → fault → ⊥) → failures (views disks after) (LogName.OfTree o) ≡ failures (views disks host) (LogName.OfTree o)
        at_tree o true e none =
            let same : o ≡ owner = (bytes_eq-Decides o owner).0 e in
            subst (λ p. failures (views disks after) (LogName.OfTree p) ≡ failures (views disks host) (LogName.OfTree p)) (sym same) (mine (none (ap (λ (p : UserName). LogName.OfTree p) same)))
        at_tree o false e none =
            ap (option_map (λ (v : SeenTree). v.failed)) (other_tree o (λ same. false≢true (sym e ∙ (bytes_eq-Decides o owner).1 same)))

        by : (log : LogName) → (log ≡ LogName.OfTree owner → fault → ⊥) → failures (views disks after) log ≡ failures (views disks host) log
        by (LogName.OfTree o) none = at_tree o (bytes_eq o owner) refl none
        by LogName.OfStore none = refl
        by LogName.OfKeys none = refl

    -- of the host as its caller has it
    pub quiet_tree_now : (now_is : HostState D) → host ≡ now_is → (fault : Type 0) → StaysUnless (disks.faults before.state.disk) (disks.faults state.disk) fault
        → QuietBut (λ log. failures (views disks after) log ≡ failures (views disks now_is) log) (LogName.OfTree owner) fault
    quiet_tree_now now_is is fault stays =
        subst (λ (h : HostState D). QuietBut (λ log. failures (views disks after) log ≡ failures (views disks h) log) (LogName.OfTree owner) fault) is (quiet_tree fault stays)

    pub tied_tree : KeepsSettled disks (over_journal before.state) (over_journal state) → IsTied disks (Some (LogName.OfTree owner)) host after
    tied_tree keeps = record {
      name = refl;
      operator = refl;
      trees = λ o n. other_tree o (λ same. n (ap (λ p. Some (LogName.OfTree p)) (sym same)));
      keys = λ n. refl;
      later = record { trees = each_later; store = seen_same _; keys = seen_same _ };
      own = record { trees = λ o n. ap own_of (other_tree o (λ same. n (ap (λ p. Some (LogName.OfTree p)) (sym same)))); store = λ n. refl; keys = λ n. refl };
      tree_grown = each_grown;
      store_grown = refl;
      keys_grown = refl;
      stays = host_tree disks host after place before held host.store.state there refl (ap (λ (fixed : UserName × _). fixed.0) grows.stays) keeps (settled_same disks host.store.state);
      counts = tree_counts;
    }

  -- ---- the store was changed, or read

  module _ (host : HostState D) (state : LogState D BlockRecord) (grows : OnlyGrows blocks.log_of (λ (b : LogState D BlockRecord). disks.faults b.disk) blocks.limits_of host.store.state state)
      (fits : host.store.base ≤ length host.store.state.log) where
    abbrev stored : HostState D
    stored = record host { store = record { state = state; base = host.store.base } }

    store_counts : disk_faults disks host ≤ disk_faults disks stored
    store_counts = middle_later (sum_by (λ (h : Held (State D)). disks.faults h.state.disk) host.trees) (disks.faults host.store.state.disk) (disks.faults state.disk) (disks.faults host.keys.state.disk) grows.later

    pub store_rose : Rose (disks.faults host.store.state.disk) (disks.faults state.disk) → DiskRose disks host stored
    store_rose rose = record { later = store_counts; rose = middle_rose (sum_by (λ (h : Held (State D)). disks.faults h.state.disk) host.trees) (disks.faults host.store.state.disk) (disks.faults state.disk) (disks.faults host.keys.state.disk) rose }

    -- no disk failed but the store's, and that one only where its count did not stay
    quiet_store : (fault : Type 0) → StaysUnless (disks.faults host.store.state.disk) (disks.faults state.disk) fault → QuietBut (λ log. failures (views disks stored) log ≡ failures (views disks host) log) LogName.OfStore fault
    quiet_store fault stays = record { stays = by }
      where
        by : (log : LogName) → (log ≡ LogName.OfStore → fault → ⊥) → failures (views disks stored) log ≡ failures (views disks host) log
        by (LogName.OfTree o) none = refl
        by LogName.OfStore none = ap (λ (n : ℕ). Some n) (stays.stays (none refl))
        by LogName.OfKeys none = refl

    -- of the host as its caller has it
    pub quiet_store_now : (now_is : HostState D) → host ≡ now_is → (fault : Type 0) → StaysUnless (disks.faults host.store.state.disk) (disks.faults state.disk) fault
        → QuietBut (λ log. failures (views disks stored) log ≡ failures (views disks now_is) log) LogName.OfStore fault
    quiet_store_now now_is is fault stays =
        subst (λ (h : HostState D). QuietBut (λ log. failures (views disks stored) log ≡ failures (views disks h) log) LogName.OfStore fault) is (quiet_store fault stays)

    pub tied_store : (but : Option LogName) → (but ≢ Some LogName.OfStore → state.log ≡ host.store.state.log) → KeepsSettled disks host.store.state state → IsTied disks but host stored
    tied_store but same keeps = record {
      name = refl;
      operator = refl;
      trees = λ o n. refl;
      keys = λ n. refl;
      later = record { trees = λ o. later_tree ((views disks host).tree o); store = record { begins = grows.begins; failed = grows.later; fixed = grows.stays }; keys = seen_same _ };
      own = record { trees = λ o n. refl; store = λ n. ap (λ (xs : List BlockRecord). positions host.store.base (length xs)) (same n); keys = λ n. refl };
      tree_grown = λ o v w is_v is_w. same_view ((views disks host).tree o) v w is_v is_w;
      store_grown = (
          let grown : length host.store.state.log ≤ length state.log = length-Begins grows.begins in
          grown_own host.store.state.log state.log host.store.base (disks.faults host.store.state.disk) (disks.faults state.disk) host.store.state.limits state.limits fits (omega (arith, fits, grown)));
      keys_grown = refl;
      stays = host_store disks host stored state refl keeps;
      counts = store_counts;
    }

  -- ---- the keys were changed

  module _ (host : HostState D) (state : LogState D KeyRecord) (grows : OnlyGrows keys.log_of (λ (k : LogState D KeyRecord). disks.faults k.disk) keys.limits_of host.keys.state state)
      (fits : host.keys.base ≤ length host.keys.state.log) where
    abbrev keyed : HostState D
    keyed = record host { keys = record { state = state; base = host.keys.base } }

    keys_counts : disk_faults disks host ≤ disk_faults disks keyed
    keys_counts = last_later (sum_by (λ (h : Held (State D)). disks.faults h.state.disk) host.trees) (disks.faults host.store.state.disk) (disks.faults host.keys.state.disk) (disks.faults state.disk) grows.later

    pub keys_rose : Rose (disks.faults host.keys.state.disk) (disks.faults state.disk) → DiskRose disks host keyed
    keys_rose rose = record { later = keys_counts; rose = last_rose (sum_by (λ (h : Held (State D)). disks.faults h.state.disk) host.trees) (disks.faults host.store.state.disk) (disks.faults host.keys.state.disk) (disks.faults state.disk) rose }

    -- no disk failed but that of the keys, and that one only where its count did not stay
    quiet_keys : (fault : Type 0) → StaysUnless (disks.faults host.keys.state.disk) (disks.faults state.disk) fault → QuietBut (λ log. failures (views disks keyed) log ≡ failures (views disks host) log) LogName.OfKeys fault
    quiet_keys fault stays = record { stays = by }
      where
        by : (log : LogName) → (log ≡ LogName.OfKeys → fault → ⊥) → failures (views disks keyed) log ≡ failures (views disks host) log
        by (LogName.OfTree o) none = refl
        by LogName.OfStore none = refl
        by LogName.OfKeys none = ap (λ (n : ℕ). Some n) (stays.stays (none refl))

    -- of the host as its caller has it
    pub quiet_keys_now : (now_is : HostState D) → host ≡ now_is → (fault : Type 0) → StaysUnless (disks.faults host.keys.state.disk) (disks.faults state.disk) fault
        → QuietBut (λ log. failures (views disks keyed) log ≡ failures (views disks now_is) log) LogName.OfKeys fault
    quiet_keys_now now_is is fault stays =
        subst (λ (h : HostState D). QuietBut (λ log. failures (views disks keyed) log ≡ failures (views disks h) log) LogName.OfKeys fault) is (quiet_keys fault stays)

    pub tied_keys : KeepsSettled disks host.keys.state state → IsTied disks (Some LogName.OfKeys) host keyed
    tied_keys keeps = record {
      name = refl;
      operator = refl;
      trees = λ o n. refl;
      keys = λ n. absurd (n refl);
      later = record { trees = λ o. later_tree ((views disks host).tree o); store = seen_same _; keys = record { begins = grows.begins; failed = grows.later; fixed = grows.stays } };
      own = record { trees = λ o n. refl; store = λ n. refl; keys = λ n. absurd (n refl) };
      tree_grown = λ o v w is_v is_w. same_view ((views disks host).tree o) v w is_v is_w;
      store_grown = refl;
      keys_grown = (
          let grown : length host.keys.state.log ≤ length state.log = length-Begins grows.begins in
          grown_own host.keys.state.log state.log host.keys.base (disks.faults host.keys.state.disk) (disks.faults state.disk) host.keys.state.limits state.limits fits (omega (arith, fits, grown)));
      stays = host_keys disks host keyed state refl keeps;
      counts = keys_counts;
    }

  -- ---- the text of a group

  pub text_told : (operator : UserName) (host : HostState D) (name : PathName) (one : Held (State D)) (answer : LoadAnswer) → tree_for host.trees name.owner ≡ Some one
      → answer ≡ load_of name.owner (group_text_answer (log_of one.state) operator name) → OwnText operator (views disks host) (views disks host) name (Some answer)
  text_told operator host name one answer is given = (
    tree_view disks one,
    tree_view disks one,
    ap (option_map (tree_view disks)) is,
    ap (option_map (tree_view disks)) is,
    record {
      position = length one.state.log;
      from = le_same (length one.state.log);
      to = le_same (length one.state.log);
      given = given ∙ sym (ap (λ records. load_of name.owner (group_text_answer (record { owner = one.state.owner; limits = one.state.limits; records = records }) operator name)) (take-length one.state.log));
    },
  )
