-- The items of a directory, one by one in order of paths, are those of the tree.
use Rattle.std.proofs.Common.{◌≡◌, ℕ, zero, suc, ◌+◌, Bool, true, false, cond, ◌&&◌, ◌||◌, List, [], ◌∷◌, ◌++◌, map, take, T, refl, sym, ap, subst, ◌∙◌, arith, Option, Some, None}
use Rattle.std.specs.Prelude.{if◌then◌else◌, slice_get}
use Rattle.std.specs.FinMap.Entries.{below_all, find, is_sorted, same_entries}
use Rattle.std.specs.List.{cons_option, filter_map, list_all}
use Rattle.std.specs.Map.{values_of}
use Rattle.std.specs.Option.{option_and_then, option_map}
use Rattle.std.specs.Ordering.{eq_by_cmp, is_eq, is_lt}
use Rattle.std.specs.declared.cmp.Ordering.{Ordering}
use Rattle.std.specs.declared.cmp.Ordering.TheVariants.{Less, Equal, Greater}
use Rattle.std.proofs.lemmas.Bool.{and_parts, false≢true}
use Rattle.up_names.specs.PathNames.{PathName, extended}
use Rattle.up_names.specs.PathOrder.{path_cmp, path_eq}
use Rattle.up_names.specs.PathOrderLaws.{path_cmp_eq, path_cmp_total, path_exact}
use Rattle.up_entry.specs.declared.entries.Entry.{Entry}
use Rattle.up_list.specs.Entries.{entries_in, entry_at, entry_of, nodes_in}
use Rattle.up_log_tree.specs.Orders.{are_rising, has_path as has}
use Rattle.up_log_tree.specs.Trees.{Tree, is_parent, last_element, made_of, node_at}
use Rattle.up_log_tree.specs.declared.node.Node.{Node}
use Rattle.up_log_tree.proofs.Paths.{extended_last, is_parent_of, last_extended, parent_extended, parent_passes, path_apart, path_eq_itself, path_same, sibling_cmp}
use Rattle.up_log_tree.proofs.Trees.{find-made, made_sorted}
use Rattle.up_log_tree.proofs.Fronts.{take_next}
use Rattle.std.proofs.lemmas.List.{append-nil, map-append}
use Rattle.up_list.specs.Founds.{entry_found}
use Rattle.up_list.specs.declared.found.Found.{Found}

tied : (p q : PathName) → eq_by_cmp path_cmp p q ≡ path_eq p q
tied p q = sym (path_cmp_eq p q)

-- ---- a list that has what the tree has in a directory

entry_in : PathName → PathName → Node → Option Entry
entry_in dir path node = if is_parent dir path then Some node.entry else None

values_in : (tree : Tree) (dir : PathName) → values_of (made_of (entry_in dir) tree) ≡ entries_in tree dir
unfolding entry_in made_of
values_in [] dir = refl
values_in (item ∷ items) dir = go (is_parent dir item.0) (values_in items dir)
  where
    go : (b : Bool) → values_of (made_of (entry_in dir) items) ≡ map entry_of (values_of (nodes_in items dir)) →
        values_of (cons_option (option_map (λ y. (item.0, y)) (if b then Some item.1.entry else None)) (made_of (entry_in dir) items))
        ≡ map entry_of (values_of (cons_option (option_map (λ y. (item.0, y)) (if b then Some item.1 else None)) (nodes_in items dir)))
    go true rest = ap (λ es. item.1.entry ∷ es) rest
    go false rest = rest

pub listed_is : (tree : Tree) (dir : PathName) (found : List (PathName × Entry)) → T (is_sorted path_cmp tree) → T (is_sorted path_cmp found) →
    ((q : PathName) → find path_cmp q found ≡ (if is_parent dir q then entry_at tree q else None)) → values_of found ≡ entries_in tree dir
unfolding entry_in
listed_is tree dir found sorted rising each =
    ap values_of (same_entries path_cmp path_cmp_total path_exact found (made_of (entry_in dir) tree) rising (made_sorted (entry_in dir) tree sorted)
    (λ q. each q ∙ sym (find-made (entry_in dir) q tree sorted ∙ go (is_parent dir q) (node_at tree q))))
    ∙ values_in tree dir
  where
    go : (b : Bool) (o : Option Node) → option_and_then (λ (node : Node). if b then Some node.entry else None) o ≡ (if b then option_map entry_of o else None)
    go true None = refl
    go true (Some node) = refl
    go false None = refl
    go false (Some node) = refl

-- ---- what is made of the paths of one directory, under another

module _ (dir old : PathName) (make : PathName → Option Entry) where
  abbrev named_entry : PathName → Option (PathName × Entry)
  named_entry p = option_map (λ entry. (extended dir (last_element p), entry)) (make p)

  pub under_names : List PathName → List (PathName × Entry)
  under_names paths = filter_map named_entry paths

  pub under_values : (paths : List PathName) → values_of (under_names paths) ≡ filter_map make paths
  unfolding under_names
  under_values [] = refl
  under_values (p ∷ ps) = go (make p) (under_values ps)
    where
      go : (o : Option Entry) → values_of (filter_map named_entry ps) ≡ filter_map make ps →
          values_of (cons_option (option_map (λ entry. (extended dir (last_element p), entry)) o) (filter_map named_entry ps)) ≡ cons_option o (filter_map make ps)
      go None rest = rest
      go (Some e) rest = ap (λ es. e ∷ es) rest

  T_of : (b : Bool) → b ≡ true → T b
  T_of true h = tt
  T_of false h = absurd (false≢true h)

  T_both : (a b : Bool) → T a → T b → T (a && b)
  T_both true b g h = h
  T_both false b g h = absurd g

  -- siblings keep their order
  sibling_lt : (p q : PathName) → is_parent old p ≡ true → is_parent old q ≡ true → is_lt (path_cmp p q) ≡ true → is_lt (path_cmp (extended dir (last_element p)) (extended dir (last_element q))) ≡ true
  sibling_lt p q at_p at_q lt =
      ap is_lt (sibling_cmp dir (last_element p) (last_element q) ∙ sym (sibling_cmp old (last_element p) (last_element q)))
      ∙ ap (λ r. is_lt (path_cmp r (extended old (last_element q)))) (sym (extended_last p old (is_parent_of old p at_p)))
      ∙ ap (λ r. is_lt (path_cmp p r)) (sym (extended_last q old (is_parent_of old q at_q)))
      ∙ lt

  below_names : (p : PathName) (ps : List PathName) → is_parent old p ≡ true → list_all (is_parent old) ps ≡ true → list_all (λ later. is_lt (path_cmp p later)) ps ≡ true →
      T (below_all path_cmp (extended dir (last_element p)) (under_names ps))
  unfolding under_names
  below_names p [] at all above = tt
  below_names p (q ∷ ps) at all above =
      let here = and_parts (is_parent old q) (list_all (is_parent old) ps) all in
      let order = and_parts (is_lt (path_cmp p q)) (list_all (λ later. is_lt (path_cmp p later)) ps) above in
      go (make q) (below_names p ps at here.1 order.1) (sibling_lt p q at here.0 order.0)
    where
      go : (o : Option Entry) → T (below_all path_cmp (extended dir (last_element p)) (filter_map named_entry ps)) → is_lt (path_cmp (extended dir (last_element p)) (extended dir (last_element q))) ≡ true →
          T (below_all path_cmp (extended dir (last_element p)) (cons_option (option_map (λ entry. (extended dir (last_element q), entry)) o) (filter_map named_entry ps)))
      go None rest lt = rest
      go (Some e) rest lt = T_both _ _ (T_of _ lt) rest

  pub under_sorted : (paths : List PathName) → are_rising paths ≡ true → list_all (is_parent old) paths ≡ true → T (is_sorted path_cmp (under_names paths))
  unfolding under_names
  under_sorted [] rising all = tt
  under_sorted (p ∷ ps) rising all =
      let order = and_parts (list_all (λ later. is_lt (path_cmp p later)) ps) (are_rising ps) rising in
      let here = and_parts (is_parent old p) (list_all (is_parent old) ps) all in
      go (make p) (below_names p ps here.0 here.1 order.0) (under_sorted ps order.1 here.1)
    where
      go : (o : Option Entry) → T (below_all path_cmp (extended dir (last_element p)) (filter_map named_entry ps)) → T (is_sorted path_cmp (filter_map named_entry ps)) →
          T (is_sorted path_cmp (cons_option (option_map (λ entry. (extended dir (last_element p), entry)) o) (filter_map named_entry ps)))
      go None below rest = rest
      go (Some e) below rest = T_both _ _ below rest

  -- elsewhere there is none
  pub under_elsewhere : (q : PathName) → is_parent dir q ≡ false → (paths : List PathName) → find path_cmp q (under_names paths) ≡ None
  unfolding under_names
  under_elsewhere q other [] = refl
  under_elsewhere q other (p ∷ ps) = go (make p) (under_elsewhere q other ps)
    where
      apart : eq_by_cmp path_cmp q (extended dir (last_element p)) ≡ false
      apart =
          tied q (extended dir (last_element p))
          ∙ path_apart q (extended dir (last_element p)) (λ same. false≢true (sym other ∙ ap (is_parent dir) same ∙ parent_passes dir (extended dir (last_element p)) (parent_extended dir (last_element p))))

      go : (o : Option Entry) → find path_cmp q (filter_map named_entry ps) ≡ None → find path_cmp q (cons_option (option_map (λ entry. (extended dir (last_element p), entry)) o) (filter_map named_entry ps)) ≡ None
      go None rest = rest
      go (Some e) rest = ap (λ b. cond b (Some e) (find path_cmp q (filter_map named_entry ps))) apart ∙ rest

  -- under a name there is what is made of the path with it, where it is one of the paths or nothing is made of it
  named_so : (x : List ℕ) (p : PathName) → is_parent old p ≡ true → path_eq (extended dir x) (extended dir (last_element p)) ≡ path_eq (extended old x) p
  named_so x p at = go (path_eq (extended old x) p) refl
    where
      go : (b : Bool) → path_eq (extended old x) p ≡ b → path_eq (extended dir x) (extended dir (last_element p)) ≡ b
      go true is =
          let name : x ≡ last_element p = sym (last_extended old x) ∙ ap last_element (path_same (extended old x) p is) in
          ap (λ y. path_eq (extended dir x) (extended dir y)) (sym name) ∙ path_eq_itself (extended dir x)
      go false is =
          path_apart (extended dir x) (extended dir (last_element p))
          (λ same. let name : x ≡ last_element p = sym (last_extended dir x) ∙ ap last_element same ∙ last_extended dir (last_element p) in
          false≢true (sym is ∙ ap (λ y. path_eq (extended old y) p) name ∙ ap (path_eq (extended old (last_element p))) (extended_last p old (is_parent_of old p at)) ∙ path_eq_itself (extended old (last_element p))))

  pub under_found : (x : List ℕ) → (paths : List PathName) → are_rising paths ≡ true → list_all (is_parent old) paths ≡ true →
      find path_cmp (extended dir x) (under_names paths) ≡ (if has paths (extended old x) then make (extended old x) else None)
  unfolding under_names
  under_found x [] rising all = refl
  under_found x (p ∷ ps) rising all =
      let order = and_parts (list_all (λ later. is_lt (path_cmp p later)) ps) (are_rising ps) rising in
      let here = and_parts (is_parent old p) (list_all (is_parent old) ps) all in
      go (path_eq (extended old x) p) refl (named_so x p here.0) (under_found x ps order.1 here.1) (below_names p ps here.0 here.1 order.0)
    where
      none_behind : (q : PathName) (es : List (PathName × Entry)) → T (below_all path_cmp q es) → find path_cmp q es ≡ None
      none_behind q [] h = refl
      none_behind q (e ∷ es) h = go (is_lt (path_cmp q e.0)) refl h (λ k. none_behind q es k)
        where
          not_tied : is_lt (path_cmp q e.0) ≡ true → eq_by_cmp path_cmp q e.0 ≡ false
          not_tied lt = by (path_cmp q e.0) lt
            where
              by : (o : Ordering) → is_lt o ≡ true → is_eq o ≡ false
              by Less h = refl
              by Equal h = absurd (false≢true h)
              by Greater h = absurd (false≢true h)

          go : (b : Bool) → is_lt (path_cmp q e.0) ≡ b → T (b && below_all path_cmp q es) → (T (below_all path_cmp q es) → find path_cmp q es ≡ None) → find path_cmp q (e ∷ es) ≡ None
          go true lt h ih = ap (λ b. cond b (Some e.1) (find path_cmp q es)) (not_tied lt) ∙ ih h
          go false lt h ih = absurd h

      here_found : (b : Bool) → path_eq (extended dir x) (extended dir (last_element p)) ≡ b → (o : Option Entry) →
          find path_cmp (extended dir x) (cons_option (option_map (λ entry. (extended dir (last_element p), entry)) o) (filter_map named_entry ps))
          ≡ cond b (elim o as (λ _. Option Entry) [ None ↦ find path_cmp (extended dir x) (filter_map named_entry ps) | Some e ↦ Some e ]) (find path_cmp (extended dir x) (filter_map named_entry ps))
      here_found true is None = refl
      here_found false is None = refl
      here_found b is (Some e) = ap (λ c. cond c (Some e) (find path_cmp (extended dir x) (filter_map named_entry ps))) (tied (extended dir x) (extended dir (last_element p)) ∙ is) ∙ both b
        where
          both : (b : Bool) → cond b (Some e) (find path_cmp (extended dir x) (filter_map named_entry ps)) ≡ cond b (elim (Some e) as (λ _. Option Entry) [ None ↦ find path_cmp (extended dir x) (filter_map named_entry ps) | Some e ↦ Some e ]) (find path_cmp (extended dir x) (filter_map named_entry ps))
          both true = refl
          both false = refl

      only : (o : Option Entry) → find path_cmp (extended dir x) (filter_map named_entry ps) ≡ None → elim o as (λ _. Option Entry) [ None ↦ find path_cmp (extended dir x) (filter_map named_entry ps) | Some e ↦ Some e ] ≡ o
      only None none = none
      only (Some e) none = refl

      go : (b : Bool) → path_eq (extended old x) p ≡ b → path_eq (extended dir x) (extended dir (last_element p)) ≡ path_eq (extended old x) p →
          find path_cmp (extended dir x) (filter_map named_entry ps) ≡ (if has ps (extended old x) then make (extended old x) else None) →
          T (below_all path_cmp (extended dir (last_element p)) (filter_map named_entry ps)) →
          find path_cmp (extended dir x) (cons_option (option_map (λ entry. (extended dir (last_element p), entry)) (make p)) (filter_map named_entry ps)) ≡ (if path_eq (extended old x) p || has ps (extended old x) then make (extended old x) else None)
      go true is named rest below =
          let same : extended dir x ≡ extended dir (last_element p) = path_same (extended dir x) (extended dir (last_element p)) (named ∙ is) in
          here_found true (named ∙ is) (make p)
          ∙ only (make p) (none_behind (extended dir x) (filter_map named_entry ps) (subst (λ q. T (below_all path_cmp q (filter_map named_entry ps))) (sym same) below))
          ∙ ap make (sym (path_same (extended old x) p is))
          ∙ sym (ap (λ b. if b || has ps (extended old x) then make (extended old x) else None) is)
      go false is named rest below =
          here_found false (named ∙ is) (make p) ∙ rest
          ∙ sym (ap (λ b. if b || has ps (extended old x) then make (extended old x) else None) is)

-- ---- the first items of a list

module _ {X Y : Type 0} (make : X → Option Y) where
  made_more : (xs : List X) (x : X) → filter_map make (xs ++ x ∷ []) ≡ filter_map make xs ++ cons_option (make x) []
  made_more [] x = refl
  made_more (y ∷ ys) x = go (make y) (made_more ys x)
    where
      go : (o : Option Y) → filter_map make (ys ++ x ∷ []) ≡ filter_map make ys ++ cons_option (make x) [] → cons_option o (filter_map make (ys ++ x ∷ [])) ≡ cons_option o (filter_map make ys) ++ cons_option (make x) []
      go None rest = rest
      go (Some z) rest = ap (λ zs. z ∷ zs) rest

  made_next : (xs : List X) (i : ℕ) (x : X) → slice_get xs i ≡ Some x → filter_map make (take (i + 1) xs) ≡ filter_map make (take i xs) ++ cons_option (make x) []
  made_next xs i x is = ap (λ n. filter_map make (take n xs)) (let e : i + 1 ≡ suc i = omega arith in e) ∙ ap (filter_map make) (take_next i xs x is) ∙ made_more (take i xs) x

  pub made_step : (xs : List X) (i : ℕ) (x : X) (o : Option Y) (found now : List Y) → slice_get xs i ≡ Some x → o ≡ make x → found ≡ filter_map make (take i xs) → now ≡ found ++ cons_option o [] → now ≡ filter_map make (take (i + 1) xs)
  made_step xs i x o found now is made so_far more =
      more ∙ ap (λ ys. ys ++ cons_option o []) so_far ∙ ap (λ o. filter_map make (take i xs) ++ cons_option o []) made ∙ sym (made_next xs i x is)

  pub made_all : (xs : List X) (i : ℕ) (found : List Y) → slice_get xs i ≡ None → found ≡ filter_map make (take i xs) → found ≡ filter_map make xs
  made_all xs i found none so_far = so_far ∙ ap (filter_map make) (past xs i none)
    where
      past : (xs : List X) (i : ℕ) → slice_get xs i ≡ None → take i xs ≡ xs
      past [] zero e = refl
      past [] (suc i) e = refl
      past (x ∷ xs) zero e = absurd (cc)
      past (x ∷ xs) (suc i) e = ap (λ ys. x ∷ ys) (past xs i e)

-- ---- what was found, added to a list

pub pushed : (items now : List Found) (found : Found) → now ≡ items ++ found ∷ [] → map entry_found now ≡ map entry_found items ++ entry_found found ∷ []
pushed items now found h = ap (map entry_found) h ∙ map-append entry_found items (found ∷ [])

pub not_pushed : (items : List Found) → map entry_found items ≡ map entry_found items ++ []
not_pushed items = sym (append-nil (map entry_found items))
