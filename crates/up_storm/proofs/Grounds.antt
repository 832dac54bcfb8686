-- What is known of a storm's tree over its first records: what prepared it stands, and files of the sessions come and go.
use Rattle.std.proofs.Common.{◌≡◌, ℕ, suc, ◌+◌, ◌%◌, ◌^◌, ◌<◌, ◌≤◌, Bool, true, false, not, cond, ◌&&◌, ◌||◌, List, [], ◌∷◌, ◌++◌, length, take, drop, refl, sym, ap, subst, ◌∙◌, ◌⊎◌, inl, inr, arith, length-append, Some, None, is_some}
use Rattle.std.specs.Prelude.{◌==◌, decimal, slice_get, codes}
use Rattle.std.specs.List.{AllByRecursion}
use Rattle.std.proofs.lemmas.Bool.Decides.{nat_tests}
use Rattle.std.proofs.lemmas.Fmt.{decimal_injective}
use Rattle.up_entry.specs.declared.entries.Kind.TheVariants.{File}
use Rattle.up_entry.specs.declared.records.Rec.{Rec}
use Rattle.up_entry.specs.declared.records.Rec.TheVariants.{Delete}
use Rattle.up_log_tree.proofs.Fronts.{take_next}
use Rattle.up_log_tree.proofs.Paths.{path_apart, path_eq_itself, path_eq_turned}
use Rattle.up_log_tree.proofs.Trees.{node_at-delete, tree_of-push}
use Rattle.up_log_tree.specs.Rights.{access_node}
use Rattle.up_log_tree.specs.Trees.{Tree, after_record, kind_of, node_at, tree_of}
use Rattle.up_log_tree.specs.declared.node.Node.{Node}
use Rattle.up_names.specs.PathNames.{PathName}
use Rattle.up_names.specs.PathOrder.{path_eq}
use Rattle.up_names.specs.Texts.{Text, UserName}
use Rattle.up_plots.proofs.PlotChanges.{file_record}
use Rattle.up_plots.proofs.PlotSizes.{IsSlightRec, IsSlightTree, few_after, slight_after}
use Rattle.up_plots.proofs.PlotTrees.{file_stays_file, flat_stays, none_stays, others_stay, plot_stays, put_elsewhere, put_here, same_file}
use Rattle.up_plots.specs.Asks.{new_file}
use Rattle.up_plots.specs.Plots.{ChangesFile, HasPlot, IsFlat, file_path, plot_path}
use Rattle.up_storm.proofs.Readings.{decimal_short, file_length, file_name, file_no_access, owner_same}
use Rattle.up_storm.specs.Asked.{owner_text, user_text}

-- the path of a session's file
abbrev pub path_at : ℕ → ℕ → PathName
path_at k j = file_path (owner_text k) (decimal k) (file_name j)

-- the record behind n others that puts a session's file, or deletes it
abbrev pub IsFileRec : ℕ → ℕ → ℕ → Rec → Type 0
IsFileRec k j n rec = (rec ≡ file_record (user_text k) (path_at k j) n) ⊎ (rec ≡ Delete (path_at k j))

-- Over these records of the tree of session c: it is flat, each session of it has its directory, no other does, and what stands at a
-- session's file is a file; and all is short.
pub record Ground (c sessions : ℕ) (records : List Rec) : Type 0 where
  pub flat : IsFlat (owner_text c) (tree_of records)
  pub plots : (k : ℕ) → k < sessions → k % 2 ≡ c % 2 → HasPlot (owner_text c) (tree_of records) (decimal k) (user_text k)
  pub bare : (k : ℕ) → sessions ≤ k → k < 34 → access_node (tree_of records) (plot_path (owner_text c) (decimal k)) ≡ None
  pub files : (name : Text) (j : ℕ) (node : Node) → node_at (tree_of records) (file_path (owner_text c) name (file_name j)) ≡ Some node → kind_of node ≡ File
  pub slight : AllByRecursion IsSlightRec records
  pub slight_tree : IsSlightTree (tree_of records)
  pub few : length (tree_of records) ≤ length records

-- ---- numbers in names

below_word : (k : ℕ) → k < 34 → k < 2 ^ 64
below_word k less = omega (arith, less)

pub same_number : (k m : ℕ) → k < 34 → m < 34 → decimal k ≡ decimal m → k ≡ m
same_number k m a b same = decimal_injective k m (below_word k a) (below_word m b) same

pub same_file_number : (i j : ℕ) → i < 16 → j < 16 → file_name i ≡ file_name j → i ≡ j
same_file_number i j a b same = decimal_injective i j (omega (arith, a)) (omega (arith, b)) (ap (λ (t : Text). drop 1 t) same)

-- two files of one directory are one exactly where their numbers are
pub file_eq : (owner : UserName) (name : Text) (i j : ℕ) → i < 16 → j < 16 → path_eq (file_path owner name (file_name i)) (file_path owner name (file_name j)) ≡ (j == i)
file_eq owner name i j a b = go (j == i) refl
  where
    same : j == i ≡ true → j ≡ i
    same h = grind (arith, nat_tests)

    other : j == i ≡ false → i ≡ j → ⊥
    other h k = grind (arith, nat_tests)

    go : (c : Bool) → j == i ≡ c → path_eq (file_path owner name (file_name i)) (file_path owner name (file_name j)) ≡ c
    go true h = ap (λ (n : ℕ). path_eq (file_path owner name (file_name i)) (file_path owner name (file_name n))) (same h) ∙ path_eq_itself (file_path owner name (file_name i))
    go false h = path_apart (file_path owner name (file_name i)) (file_path owner name (file_name j)) (λ p. other h (same_file_number i j a b (same_file owner name (file_name i) name (file_name j) p)))

-- ---- one record more

file_change : (k j n : ℕ) (rec : Rec) → IsFileRec k j n rec → ChangesFile (path_at k j) rec
file_change k j n rec (inl put) = subst (ChangesFile (path_at k j)) (sym put) (refl, refl)
file_change k j n rec (inr gone) = subst (ChangesFile (path_at k j)) (sym gone) refl

user_length : (k : ℕ) → k < 34 → length (user_text k) ≤ 18
user_length k less =
    let a = length-append (decimal k) (codes "@storm.example") in
    let b = decimal_short k less in
    let c : length (user_text k) ≡ length (decimal k ++ codes "@storm.example") + 1 = omega arith in
    let d : length (codes "@storm.example") ≡ 14 = refl in
    omega (arith, a, b, c, d)

pub slight_file : (k j n : ℕ) → k < 34 → j < 16 → IsSlightRec (file_record (user_text k) (path_at k j) n)
slight_file k j n less small = (
  record {
    name = (let a = file_length k less j small in omega (arith, a));
    signed_name = (let a = file_length k less j small in omega (arith, a));
    writer = (let a = user_length k less in omega (arith, a));
    link = omega arith;
    packdata = omega arith;
    blocks = omega arith;
  },
  omega arith,
)

pub slight_rec : (k j n : ℕ) (rec : Rec) → k < 34 → j < 16 → IsFileRec k j n rec → IsSlightRec rec
slight_rec k j n rec less small (inl put) = subst IsSlightRec (sym put) (slight_file k j n less small)
slight_rec k j n rec less small (inr gone) = subst IsSlightRec (sym gone) (let a = file_length k less j small in omega (arith, a))

all_push : (records : List Rec) (rec : Rec) → AllByRecursion IsSlightRec records → IsSlightRec rec → AllByRecursion IsSlightRec (records ++ rec ∷ [])
all_push [] rec h one = (one, tt)
all_push (r ∷ records) rec h one = (h.0, all_push records rec h.1 one)

pub ground_next : (c sessions : ℕ) (records : List Rec) (rec : Rec) (k j : ℕ) → Ground c sessions records → k < 34 → j < 16 → k % 2 ≡ c % 2 → IsFileRec k j (length records) rec
    → Ground c sessions (records ++ rec ∷ [])
ground_next c sessions records rec k j ground less small tree is =
    let tree_is = tree_of-push records rec in
    let owner : owner_text k ≡ owner_text c = owner_same k c tree in
    let change : ChangesFile (file_path (owner_text c) (decimal k) (file_name j)) rec = subst (λ (o : UserName). ChangesFile (file_path o (decimal k) (file_name j)) rec) owner (file_change k j (length records) rec is) in
    let slight : IsSlightRec rec = slight_rec k j (length records) rec less small is in
    let ordinary = file_no_access j small in
    record {
      flat = subst (IsFlat (owner_text c)) (sym tree_is) (flat_stays (owner_text c) (tree_of records) (decimal k) (file_name j) rec change ground.flat);
      plots = λ m low same. subst (λ (t : Tree). HasPlot (owner_text c) t (decimal m) (user_text m)) (sym tree_is)
          (plot_stays (owner_text c) (tree_of records) (decimal k) (file_name j) rec change ordinary (decimal m) (user_text m) (ground.plots m low same));
      bare = λ m high low. subst (λ (t : Tree). access_node t (plot_path (owner_text c) (decimal m)) ≡ None) (sym tree_is)
          (none_stays (owner_text c) (tree_of records) (decimal k) (file_name j) rec change ordinary (decimal m) (ground.bare m high low));
      files = λ name i node there. file_stays_file (owner_text c) (tree_of records) (decimal k) (file_name j) rec change (file_path (owner_text c) name (file_name i))
          (λ n old. ground.files name i n old) node (sym (ap (λ (t : Tree). node_at t (file_path (owner_text c) name (file_name i))) tree_is) ∙ there);
      slight = all_push records rec ground.slight slight;
      slight_tree = subst IsSlightTree (sym tree_is) (slight_after (tree_of records) rec ground.slight_tree slight);
      few = (
          let long = length-append records (rec ∷ []) in
          let grown = few_after (tree_of records) rec in
          let before = ground.few in
          let same : length (tree_of (records ++ rec ∷ [])) ≡ length (after_record (tree_of records) rec) = ap (λ (t : Tree). length t) tree_is in
          omega (arith, long, grown, before, same)
          );
    }

-- ---- which files stand

-- whether a session's file stands over the first n records
abbrev pub stands_in : List Rec → ℕ → ℕ → ℕ → Bool
stands_in log k n j = is_some (node_at (tree_of (take n log)) (path_at k j))

module _ (log : List Rec) (n : ℕ) where
  next_tree : (rec : Rec) → slice_get log n ≡ Some rec → tree_of (take (n + 1) log) ≡ after_record (tree_of (take n log)) rec
  next_tree rec is =
      let e : n + 1 ≡ suc n = omega arith in
      ap (λ (m : ℕ). tree_of (take m log)) e ∙ ap tree_of (take_next n log rec is) ∙ tree_of-push (take n log) rec

  module _ (k : ℕ) (less : k < 34) where
    -- after a Put of a file
    pub stands_put : (j m : ℕ) → j < 16 → slice_get log n ≡ Some (file_record (user_text k) (path_at k j) m) → (i : ℕ) → i < 16 → stands_in log k (n + 1) i ≡ (j == i || stands_in log k n i)
    stands_put j m small is i low =
        ap (λ (t : Tree). is_some (node_at t (path_at k i))) (next_tree (file_record (user_text k) (path_at k j) m) is) ∙ go (j == i) refl
      where
        same : j == i ≡ true → j ≡ i
        same h = grind (arith, nat_tests)

        go : (b : Bool) → j == i ≡ b → is_some (node_at (after_record (tree_of (take n log)) (file_record (user_text k) (path_at k j) m)) (path_at k i)) ≡ (b || stands_in log k n i)
        go true h = ap is_some (put_here (tree_of (take n log)) (record ((new_file (user_text k) (path_at k j)).entry) { sequence = m + 1 }) [] (path_at k i) (ap (λ (x : ℕ). path_at k x) (same h)))
        go false h = ap is_some (put_elsewhere (tree_of (take n log)) (record ((new_file (user_text k) (path_at k j)).entry) { sequence = m + 1 }) [] (path_at k i) (file_eq (owner_text k) (decimal k) i j low small ∙ h))

    -- after a Delete of a file
    pub stands_gone : (j : ℕ) → j < 16 → slice_get log n ≡ Some (Delete (path_at k j)) → (i : ℕ) → i < 16 → stands_in log k (n + 1) i ≡ (not (j == i) && stands_in log k n i)
    stands_gone j small is i low =
        ap (λ (t : Tree). is_some (node_at t (path_at k i))) (next_tree (Delete (path_at k j)) is)
        ∙ ap is_some (node_at-delete (tree_of (take n log)) (path_at k j) (path_at k i))
        ∙ ap (λ (b : Bool). is_some (cond b None (node_at (tree_of (take n log)) (path_at k i)))) (path_eq_turned (path_at k j) (path_at k i) ∙ file_eq (owner_text k) (decimal k) i j low small)
        ∙ by (j == i)
      where
        by : (b : Bool) → is_some (cond b None (node_at (tree_of (take n log)) (path_at k i))) ≡ (not b && stands_in log k n i)
        by true = refl
        by false = refl

    -- a record of another session leaves them
    pub stands_still : (other j m : ℕ) (rec : Rec) → other < 34 → (other ≡ k → ⊥) → slice_get log n ≡ Some rec → IsFileRec other j m rec → (i : ℕ) → stands_in log k (n + 1) i ≡ stands_in log k n i
    stands_still other j m rec low apart is change i =
        ap (λ (t : Tree). is_some (node_at t (path_at k i))) (next_tree rec is)
        ∙ ap is_some (others_stay (tree_of (take n log)) (path_at other j) rec (file_change other j m rec change) (path_at k i)
        (path_apart (path_at k i) (path_at other j) (λ p. apart (sym (same_number k other less low (some_decimal p))))))
      where
        some_decimal : path_at k i ≡ path_at other j → decimal k ≡ decimal other
        some_decimal p = first_same (decimal k) (decimal other) (ap (λ (q : PathName). slice_get q.elements 0) p)
          where
            first_same : (a b : Text) → Some a ≡ Some b → a ≡ b
            first_same a b h = cc
