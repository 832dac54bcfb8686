-- How many items a tree has, record after record of its log.
use Rattle.std.proofs.Common.{◌≡◌, ℕ, zero, suc, ◌+◌, ◌-◌, ◌<◌, ◌≤◌, Bool, true, false, not, cond, ◌||◌, List, [], ◌∷◌, ◌++◌, length, take, drop, refl, sym, ap, subst, ◌∙◌, arith, length-append, Option, Some, None, is_some}
use Rattle.std.specs.Prelude.{⊤, slice_get, IsSome}
use Rattle.std.specs.FinMap.Entries.{by_order}
use Rattle.std.specs.List.{filter, remove}
use Rattle.std.specs.Map.{keys_of}
use Rattle.std.specs.Option.{option_and_then}
use Rattle.std.specs.declared.cmp.Ordering.{Ordering}
use Rattle.std.specs.declared.cmp.Ordering.TheVariants.{Less, Equal, Greater}
use Rattle.std.proofs.lemmas.Bool.{false≢true}
use Rattle.std.proofs.Math.Seq.{take-length}
use Rattle.std.proofs.lemmas.List.{take-append-drop}
use Rattle.up_entry.specs.declared.entries.Entry.{Entry}
use Rattle.up_entry.specs.declared.records.Rec.{Rec}
use Rattle.up_entry.specs.declared.records.Rec.TheVariants.{Delete, Put, Snap}
use Rattle.up_names.specs.PathNames.{PathName}
use Rattle.up_names.specs.PathOrder.{path_cmp, path_eq}
use Rattle.up_names.specs.PathOrderLaws.{path_exact}
use Rattle.up_mem_tree.proofs.Named.{last_change-none, last_change-push}
use Rattle.up_log_tree.proofs.Fronts.{take_next, whole_front}
use Rattle.up_log_tree.proofs.Paths.{path_eq_itself, path_eq_turned, some_none}
use Rattle.up_log_tree.proofs.Rising.{keys-filter, keys-put, place_of, with_there, without_removed}
use Rattle.up_log_tree.proofs.Trees.{has_node, node_at-delete, node_at-empty, node_at-put, node_at-snap, rising_tree, tree_of-push}
use Rattle.up_log_tree.specs.Changes.{change_before, changes_some, last_change, path_of_change, record_at}
use Rattle.up_log_tree.specs.Fits.{IsLog}
use Rattle.up_log_tree.specs.Orders.{are_rising, has_path as has, with_path}
use Rattle.up_log_tree.specs.Trees.{Tree, after_record, node_at, tree_of}
use Rattle.up_storm.specs.Logs.{is_put, put_at, stood_before}

-- ---- lists of paths

either_false : (p q : Bool) → (p || q) ≡ false → (p ≡ false) × (q ≡ false)
either_false false q h = (refl, h)
either_false true q h = absurd (false≢true (sym h))

length_new : (k : PathName) (paths : List PathName) → has paths k ≡ false → length (with_path k paths) ≡ length paths + 1
length_new k [] h = refl
length_new k (path ∷ paths) h = let both = either_false (path_eq k path) (has paths k) h in go (path_cmp k path) refl both.0 (length_new k paths both.1)
  where
    go : (o : Ordering) → path_cmp k path ≡ o → path_eq k path ≡ false → length (with_path k paths) ≡ length paths + 1
        → length (by_order o (k ∷ path ∷ paths) (path ∷ paths) (path ∷ with_path k paths)) ≡ suc (length paths) + 1
    go Less is other rest = omega arith
    go Equal is other rest = absurd (false≢true (sym other ∙ subst (λ p. path_eq k p ≡ true) (path_exact k path is) (path_eq_itself k)))
    go Greater is other rest = omega (arith, rest)

length_removed : {X : Type 0} (xs : List X) (n : ℕ) (x : X) → slice_get xs n ≡ Some x → length (remove xs n) + 1 ≡ length xs
length_removed [] n x h = absurd (some_none x (sym h))
length_removed (y ∷ xs) zero x h = omega arith
length_removed (y ∷ xs) (suc n) x h = let rest = length_removed xs n x h in omega (arith, rest)

length_without : (k : PathName) (paths : List PathName) → are_rising paths ≡ true → has paths k ≡ true → length (filter (λ p. not (path_eq k p)) paths) + 1 ≡ length paths
length_without k paths rising there =
    let at = place_of paths k there in
    ap (λ ps. length ps + 1) (without_removed k paths at.0 rising at.1) ∙ length_removed paths at.0 k at.1

length_keys : {X : Type 0} (es : List (PathName × X)) → length (keys_of es) ≡ length es
length_keys [] = refl
length_keys (e ∷ es) = ap suc (length_keys es)

-- ---- the items after one more record

put_keys : (tree : Tree) (entry : Entry) (text : List ℕ) → keys_of (after_record tree (Put entry text)) ≡ with_path entry.name (keys_of tree)
unfolding after_record
put_keys tree entry text = keys-put entry.name (record { entry = entry; text = text }) tree

delete_keys : (tree : Tree) (path : PathName) → keys_of (after_record tree (Delete path)) ≡ filter (λ p. not (path_eq path p)) (keys_of tree)
unfolding after_record
delete_keys tree path = keys-filter (λ p. not (path_eq path p)) tree

snap_same : (tree : Tree) (time : ℕ) → after_record tree (Snap time) ≡ tree
unfolding after_record
snap_same tree time = refl

by_keys : (tree : Tree) (ks : List PathName) → keys_of tree ≡ ks → length tree ≡ length ks
by_keys tree ks is = sym (length_keys tree) ∙ ap length is

rows_old : (tree : Tree) (entry : Entry) (text : List ℕ) → are_rising (keys_of tree) ≡ true → is_some (node_at tree entry.name) ≡ true → length (after_record tree (Put entry text)) ≡ length tree
rows_old tree entry text rising there =
    by_keys (after_record tree (Put entry text)) (with_path entry.name (keys_of tree)) (put_keys tree entry text)
    ∙ ap length (with_there entry.name (keys_of tree) rising (has_node tree entry.name ∙ there)) ∙ length_keys tree

rows_new : (tree : Tree) (entry : Entry) (text : List ℕ) → is_some (node_at tree entry.name) ≡ false → length (after_record tree (Put entry text)) ≡ length tree + 1
rows_new tree entry text new =
    by_keys (after_record tree (Put entry text)) (with_path entry.name (keys_of tree)) (put_keys tree entry text)
    ∙ length_new entry.name (keys_of tree) (has_node tree entry.name ∙ new) ∙ ap (λ n. n + 1) (length_keys tree)

rows_gone : (tree : Tree) (path : PathName) → are_rising (keys_of tree) ≡ true → is_some (node_at tree path) ≡ true → length (after_record tree (Delete path)) + 1 ≡ length tree
rows_gone tree path rising there =
    ap (λ n. n + 1) (by_keys (after_record tree (Delete path)) (filter (λ p. not (path_eq path p)) (keys_of tree)) (delete_keys tree path))
    ∙ length_without path (keys_of tree) rising (has_node tree path ∙ there) ∙ length_keys tree

-- ---- the last change of a path was a Put exactly where something stands there

get_front : {X : Type 0} (xs ys : List X) (k : ℕ) → k < length xs → slice_get (xs ++ ys) k ≡ slice_get xs k
get_front [] ys k less = absurd (omega (arith, less))
get_front (x ∷ xs) ys zero less = refl
get_front (x ∷ xs) ys (suc k) less = get_front xs ys k (omega (arith, less))

get_end : {X : Type 0} (xs : List X) (x : X) → slice_get (xs ++ x ∷ []) (length xs) ≡ Some x
get_end [] x = refl
get_end (y ∷ xs) x = get_end xs x

-- a position of a record of the log, if any
abbrev Within : List Rec → Option ℕ → Type 0
Within log None = ⊤
Within log (Some m) = (k : ℕ) × (m ≡ suc k) × (k < length log)

within_more : (front : List Rec) (rec : Rec) (o : Option ℕ) → Within front o → Within (front ++ rec ∷ []) o
within_more front rec None w = tt
within_more front rec (Some m) w = let less = w.2 in (w.0, w.1, omega (arith, less, length-append front (rec ∷ [])))

put_stays : (front more : List Rec) (o : Option ℕ) → Within front o → put_at (front ++ more) o ≡ put_at front o
put_stays front more None w = refl
put_stays front more (Some m) w =
    ap (λ n. is_put (record_at (front ++ more) n)) w.1 ∙ ap is_put (get_front front more w.0 w.2) ∙ sym (ap (λ n. is_put (record_at front n)) w.1)

put_end : (front : List Rec) (rec : Rec) → put_at (front ++ rec ∷ []) (Some (length front + 1)) ≡ is_put (Some rec)
put_end front rec =
    let e : length front + 1 ≡ suc (length front) = omega arith in
    ap (λ n. is_put (record_at (front ++ rec ∷ []) n)) e ∙ ap is_put (get_end front rec)

module _ (front : List Rec) (rec : Rec) (q : PathName) where
  change_is : (b : Bool) → changes_some (path_eq q) rec ≡ b → last_change (front ++ rec ∷ []) q ≡ cond b (Some (length front + 1)) (last_change front q)
  change_is b is = last_change-push front rec q ∙ ap (λ c. cond c (Some (length front + 1)) (last_change front q)) is

  put_after : (b : Bool) → changes_some (path_eq q) rec ≡ b → Within front (last_change front q)
      → put_at (front ++ rec ∷ []) (last_change (front ++ rec ∷ []) q) ≡ cond b (is_put (Some rec)) (put_at front (last_change front q))
  put_after true is w = ap (put_at (front ++ rec ∷ [])) (change_is true is) ∙ put_end front rec
  put_after false is w = ap (put_at (front ++ rec ∷ [])) (change_is false is) ∙ put_stays front (rec ∷ []) (last_change front q) w

  within_after : (b : Bool) → changes_some (path_eq q) rec ≡ b → Within front (last_change front q) → Within (front ++ rec ∷ []) (last_change (front ++ rec ∷ []) q)
  within_after true is w =
      let e : length front + 1 ≡ suc (length front) = omega arith in
      subst (Within (front ++ rec ∷ [])) (sym (change_is true is)) (length front, e, omega (arith, length-append front (rec ∷ [])))
  within_after false is w = subst (Within (front ++ rec ∷ [])) (sym (change_is false is)) (within_more front rec (last_change front q) w)

abbrev Told : List Rec → PathName → Type 0
Told front q = (put_at front (last_change front q) ≡ is_some (node_at (tree_of front) q)) × Within front (last_change front q)

told_next : (front : List Rec) (rec : Rec) (q : PathName) → Told front q → Told (front ++ rec ∷ []) q
told_next front (Put entry text) q h = (go (path_eq q entry.name) refl, within_after front (Put entry text) q (path_eq q entry.name) refl h.1)
  where
    by : (b : Bool) → cond b true (put_at front (last_change front q)) ≡ is_some (cond b (Some (record { entry = entry; text = text })) (node_at (tree_of front) q))
    by true = refl
    by false = h.0

    go : (b : Bool) → path_eq q entry.name ≡ b → put_at (front ++ Put entry text ∷ []) (last_change (front ++ Put entry text ∷ []) q) ≡ is_some (node_at (tree_of (front ++ Put entry text ∷ [])) q)
    go b is =
        put_after front (Put entry text) q b is h.1 ∙ by b
        ∙ sym (ap is_some (ap (λ t. node_at t q) (tree_of-push front (Put entry text)) ∙ node_at-put (tree_of front) entry text q
        ∙ ap (λ c. cond c (Some (record { entry = entry; text = text })) (node_at (tree_of front) q)) is))
told_next front (Delete path) q h = (go (path_eq q path) refl, within_after front (Delete path) q (path_eq q path) refl h.1)
  where
    by : (b : Bool) → cond b false (put_at front (last_change front q)) ≡ is_some (cond b None (node_at (tree_of front) q))
    by true = refl
    by false = h.0

    go : (b : Bool) → path_eq q path ≡ b → put_at (front ++ Delete path ∷ []) (last_change (front ++ Delete path ∷ []) q) ≡ is_some (node_at (tree_of (front ++ Delete path ∷ [])) q)
    go b is =
        put_after front (Delete path) q b is h.1 ∙ by b
        ∙ sym (ap is_some (ap (λ t. node_at t q) (tree_of-push front (Delete path)) ∙ node_at-delete (tree_of front) path q
        ∙ ap (λ c. cond c None (node_at (tree_of front) q)) (path_eq_turned path q ∙ is)))
told_next front (Snap time) q h = (
  put_after front (Snap time) q false refl h.1 ∙ h.0
      ∙ sym (ap is_some (ap (λ t. node_at t q) (tree_of-push front (Snap time)) ∙ node_at-snap (tree_of front) time q)),
  within_after front (Snap time) q false refl h.1,
)

told_none : (q : PathName) → Told [] q
told_none q = (ap (put_at []) (last_change-none q) ∙ sym (ap is_some (node_at-empty q)), subst (Within []) (sym (last_change-none q)) tt)

told : (front : List Rec) (q : PathName) → Told front q
told front q = whole_front (λ records. Told records q) front (told_none q) (λ n rec is so_far. told_next (take n front) rec q so_far)

-- the same of a front of a log, over the whole log
put_whole : (log : List Rec) (n : ℕ) (q : PathName) → put_at log (last_change (take n log) q) ≡ is_some (node_at (tree_of (take n log)) q)
put_whole log n q =
    let one = told (take n log) q in
    subst (λ all. put_at all (last_change (take n log) q) ≡ put_at (take n log) (last_change (take n log) q)) (take-append-drop n log) (put_stays (take n log) (drop n log) (last_change (take n log) q) one.1)
    ∙ one.0

-- ---- the items after each record of a log

at_place : (log : List Rec) (n : ℕ) (rec : Rec) → record_at log (n + 1) ≡ Some rec → slice_get log n ≡ Some rec
at_place log n rec is = let e : n + 1 ≡ suc n = omega arith in sym (ap (record_at log) e) ∙ is

stood_is : (log : List Rec) (n : ℕ) (rec : Rec) (path : PathName) → record_at log (n + 1) ≡ Some rec → path_of_change rec ≡ Some path
    → stood_before log (n + 1) ≡ is_some (node_at (tree_of (take n log)) path)
unfolding change_before
stood_is log n rec path is names =
    let e : n + 1 - 1 ≡ n = omega arith in
    ap (λ o. put_at log (option_and_then (last_change (take (n + 1 - 1) log)) (option_and_then path_of_change o))) is
    ∙ ap (λ o. put_at log (option_and_then (last_change (take (n + 1 - 1) log)) o)) names
    ∙ ap (λ m. put_at log (last_change (take m log) path)) e
    ∙ put_whole log n path

tree_next : (log : List Rec) (n : ℕ) (rec : Rec) → record_at log (n + 1) ≡ Some rec → tree_of (take (n + 1) log) ≡ after_record (tree_of (take n log)) rec
tree_next log n rec is =
    let e : n + 1 ≡ suc n = omega arith in
    ap (λ m. tree_of (take m log)) e ∙ ap tree_of (take_next n log rec (at_place log n rec is)) ∙ tree_of-push (take n log) rec

pub rows_stood : (log : List Rec) (n rows : ℕ) (entry : Entry) (text : List ℕ) → record_at log (n + 1) ≡ Some (Put entry text) → stood_before log (n + 1) ≡ true
    → rows ≡ length (tree_of (take n log)) → rows ≡ length (tree_of (take (n + 1) log))
rows_stood log n rows entry text is stood h =
    h ∙ sym (ap length (tree_next log n (Put entry text) is)
    ∙ rows_old (tree_of (take n log)) entry text (rising_tree (take n log)) (sym (stood_is log n (Put entry text) entry.name is refl) ∙ stood))

pub rows_added : (log : List Rec) (n rows : ℕ) (entry : Entry) (text : List ℕ) → record_at log (n + 1) ≡ Some (Put entry text) → stood_before log (n + 1) ≡ false
    → rows ≡ length (tree_of (take n log)) → rows + 1 ≡ length (tree_of (take (n + 1) log))
rows_added log n rows entry text is stood h =
    ap (λ m. m + 1) h ∙ sym (ap length (tree_next log n (Put entry text) is)
    ∙ rows_new (tree_of (take n log)) entry text (sym (stood_is log n (Put entry text) entry.name is refl) ∙ stood))

is_there : {X : Type 0} (o : Option X) → IsSome o → is_some o ≡ true
is_there (Some x) h = refl
is_there None h = h

pub rows_deleted : (owner : List ℕ) (log : List Rec) (n rows : ℕ) (path : PathName) → IsLog owner log → record_at log (n + 1) ≡ Some (Delete path)
    → rows ≡ length (tree_of (take n log)) → rows ≡ length (tree_of (take (n + 1) log)) + 1
rows_deleted owner log n rows path good is h =
    h ∙ sym (ap (λ t. length t + 1) (tree_next log n (Delete path) is)
    ∙ rows_gone (tree_of (take n log)) path (rising_tree (take n log))
    (is_there (node_at (tree_of (take n log)) path) (good.fitting.each n (Delete path) (at_place log n (Delete path) is)).there))

pub rows_kept : (log : List Rec) (n rows : ℕ) (time : ℕ) → record_at log (n + 1) ≡ Some (Snap time)
    → rows ≡ length (tree_of (take n log)) → rows ≡ length (tree_of (take (n + 1) log))
rows_kept log n rows time is h = h ∙ sym (ap length (tree_next log n (Snap time) is ∙ snap_same (tree_of (take n log)) time))

-- before the first record there is none, and what stands after the last is the tree of the log
pub rows_none : 0 ≡ length (tree_of [])
unfolding tree_of
rows_none = refl

pub rows_all : (log : List Rec) (n rows : ℕ) → n ≡ length log → rows ≡ length (tree_of (take n log)) → rows ≡ length (tree_of log)
rows_all log n rows is h = h ∙ ap (λ m. length (tree_of (take m log))) is ∙ ap (λ rs. length (tree_of rs)) (take-length log)

-- where an item goes, there was one
pub rows_some : (owner : List ℕ) (log : List Rec) (n rows : ℕ) (path : PathName) → IsLog owner log → record_at log (n + 1) ≡ Some (Delete path)
    → rows ≡ length (tree_of (take n log)) → 1 ≤ rows
rows_some owner log n rows path good is h = let one = rows_deleted owner log n rows path good is h in omega (arith, one)

-- there are no more items than records
put_most : (tree : Tree) (entry : Entry) (text : List ℕ) → are_rising (keys_of tree) ≡ true → length (after_record tree (Put entry text)) ≤ length tree + 1
put_most tree entry text rising = go (is_some (node_at tree entry.name)) refl
  where
    go : (b : Bool) → is_some (node_at tree entry.name) ≡ b → length (after_record tree (Put entry text)) ≤ length tree + 1
    go true is = let same = rows_old tree entry text rising is in omega (arith, same)
    go false is = let more = rows_new tree entry text is in omega (arith, more)

length_filter : {X : Type 0} (test : X → Bool) (xs : List X) → length (filter test xs) ≤ length xs
length_filter test [] = omega arith
length_filter test (x ∷ xs) = go (test x) (length_filter test xs)
  where
    go : (b : Bool) → length (filter test xs) ≤ length xs → length (cond b (x ∷ filter test xs) (filter test xs)) ≤ suc (length xs)
    go true rest = omega (arith, rest)
    go false rest = omega (arith, rest)

delete_most : (tree : Tree) (path : PathName) → length (after_record tree (Delete path)) ≤ length tree
unfolding after_record
delete_most tree path = length_filter (λ item. not (path_eq path item.0)) tree

few_next : (front : List Rec) (rec : Rec) → length (tree_of front) ≤ length front → length (tree_of (front ++ rec ∷ [])) ≤ length (front ++ rec ∷ [])
few_next front (Put entry text) h =
    let is = ap length (tree_of-push front (Put entry text)) in
    let most = put_most (tree_of front) entry text (rising_tree front) in
    omega (arith, is, most, h, length-append front (Put entry text ∷ []))
few_next front (Delete path) h =
    let is = ap length (tree_of-push front (Delete path)) in
    let most = delete_most (tree_of front) path in
    omega (arith, is, most, h, length-append front (Delete path ∷ []))
few_next front (Snap time) h =
    let is = ap length (tree_of-push front (Snap time) ∙ snap_same (tree_of front) time) in
    omega (arith, is, h, length-append front (Snap time ∷ []))

few_none : length (tree_of []) ≤ 0
unfolding tree_of
few_none = omega arith

length_take : {X : Type 0} (n : ℕ) (xs : List X) → length (take n xs) ≤ n
length_take zero xs = omega arith
length_take (suc n) [] = omega arith
length_take (suc n) (x ∷ xs) = let rest = length_take n xs in omega (arith, rest)

pub rows_few : (log : List Rec) (n rows : ℕ) → rows ≡ length (tree_of (take n log)) → rows ≤ n
rows_few log n rows h =
    let few = whole_front (λ records. length (tree_of records) ≤ length records) (take n log) few_none (λ m rec is so_far. few_next (take m (take n log)) rec so_far) in
    let short = length_take n log in
    omega (arith, h, few, short)
