-- What is kept of the texts that were searched, and what was told of the paths so far.
use Rattle.std.proofs.Common.{◌≡◌, ℕ, suc, ◌+◌, ◌≤◌, Bool, true, false, ◌||◌, cond, T, List, [], ◌∷◌, ◌++◌, length, map, take, drop, refl, sym, ap, subst, ◌∙◌, arith, Option, Some, None, is_some, IsSome, filter, slice_get, append_assoc, append-nil, codes, is_eq}
use Rattle.std.specs.Prelude.{if◌then◌else◌}
use Rattle.std.specs.Cmp.{Equal-is, tied_itself}
use Rattle.std.specs.FinMap.Entries.{find, find-put, is_some-find, is_sorted, put}
use Rattle.std.specs.List.{flat_map, list_any}
use Rattle.std.specs.Map.{keys_of}
use Rattle.std.specs.Ordering.{eq_by_cmp}
use Rattle.std.proofs.lemmas.Bool.{false≢true}
use Rattle.std.proofs.lemmas.Grind.{flat_map-append}
use Rattle.std.proofs.lemmas.List.{length-map, take_all}
use Rattle.std.proofs.lemmas.List.Folds.{list_any-append}
use Rattle.up_names.specs.Texts.{Text, UserName}
use Rattle.up_names.specs.PathNames.{PathName, canonical}
use Rattle.up_names.specs.PathOrder.{path_cmp}
use Rattle.up_names.specs.PathOrderLaws.{path_cmp_total, path_exact}
use Rattle.up_access.specs.declared.Rule.{Rule}
use Rattle.up_policy.specs.Loadings.{Loading}
use Rattle.up_policy.specs.Trees.{owns_snapshots}
use Rattle.up_log_tree.specs.Rights.{facts_of, governing_prefix, group_paths}
use Rattle.up_log_tree.specs.Trees.{Tree}
use Rattle.up_log_tree.proofs.Fronts.{take_next}
use Rattle.up_log_tree.proofs.Paths.{some_none, some_same}
use Rattle.up_share.specs.declared.known.Known.{Known}
use Rattle.up_share.specs.Known.{AreKnown, HasSearched, HasTold, is_key, is_listed, lacking_by, line_of, paths_in, rules_in, unread_of, word_by}
use Rattle.up_share.specs.Orders.{Keys, in_order, with_keys}
use Rattle.up_share.specs.Readers.{governing_rules, lacking, readers_by}
use Rattle.up_share.specs.Report.{unread_line, file_line, files_of, is_file_at, items_text, readers_at, unread_at, unread_in}
use Rattle.up_share.proofs.LoopLemmas.{end, step_at}
use Rattle.up_share.proofs.PathLemmas.{governed_by, keys_again, ungoverned}
use Rattle.up_share.proofs.SetLemmas.{found_more, same_keys, sorted_more}
use Rattle.up_text.specs.Words.{coded}

or_kept : (a b : Bool) → a ≡ true → (a || b) ≡ true
or_kept true b h = refl
or_kept false b h = absurd (false≢true h)

or_new : (a b : Bool) → b ≡ true → (a || b) ≡ true
or_new true b h = refl
or_new false b h = h

or_within : (a b : Bool) → (b ≡ true → a ≡ true) → a ≡ (a || b)
or_within true b h = refl
or_within false true h = h refl
or_within false false h = refl

or_assoc : (a b c : Bool) → ((a || b) || c) ≡ (a || (b || c))
or_assoc true b c = refl
or_assoc false b c = refl

or_none : (a : Bool) → (a || false) ≡ a
or_none true = refl
or_none false = refl

-- a list has the paths that it has in order
listed_in_order : (paths : List PathName) (q : PathName) → is_listed (in_order path_cmp paths) q ≡ is_listed paths q
listed_in_order paths q = sym (is_some-find path_cmp q (with_keys path_cmp [] paths)) ∙ found_more path_cmp path_cmp_total [] paths q

module _ (owner : UserName) (tree : Tree) where
  pub after_search : (rules : List Rule) (old new : Known) → AreKnown owner tree old → new.loaded ≡ old.loaded → new.words.entries ≡ old.words.entries →
      new.unread.entries ≡ with_keys path_cmp old.unread.entries (lacking (facts_of owner tree) (group_paths tree) old.loaded rules) → HasSearched owner tree rules old new
  after_search rules old new known nothing words unread = record { knows = still; lacks = more }
    where
      more : (q : PathName) → is_key new.unread.entries q ≡ (is_key old.unread.entries q || is_listed (lacking_by owner tree rules) q)
      more q =
          ap (λ keys. is_key keys q) unread
          ∙ (found_more path_cmp path_cmp_total old.unread.entries (lacking (facts_of owner tree) (group_paths tree) old.loaded rules) q
          ∙ ap (λ (loaded : Loading). is_key old.unread.entries q || is_listed (lacking (facts_of owner tree) (group_paths tree) loaded rules) q) known.nothing)

      still : AreKnown owner tree new
      still = record {
        nothing = nothing ∙ known.nothing;
        words = λ dir word is. known.words dir word (sym (ap (find path_cmp dir) words) ∙ is);
        searched = λ dir word is q h. more q ∙ or_kept (is_key old.unread.entries q) (is_listed (lacking_by owner tree rules) q) (known.searched dir word (sym (ap (find path_cmp dir) words) ∙ is) q h);
        sorted = subst (λ keys. T (is_sorted path_cmp keys)) (sym unread) (sorted_more path_cmp path_cmp_total old.unread.entries (lacking (facts_of owner tree) (group_paths tree) old.loaded rules) known.sorted);
      }

  pub word_is : (loaded : Loading) (rules : List Rule) → loaded ≡ [] → coded (items_text (readers_by (facts_of owner tree) (group_paths tree) loaded rules)) ≡ word_by owner tree rules
  word_is loaded rules none = ap (λ (l : Loading). coded (items_text (readers_by (facts_of owner tree) (group_paths tree) l rules))) none

  -- the text was searched already
  pub known_already : (dir : PathName) (word : Text) (known : Known) → AreKnown owner tree known → find path_cmp dir known.words.entries ≡ Some word → HasSearched owner tree (rules_in owner tree dir) known known
  known_already dir word known are is = record {
    knows = are;
    lacks = λ q. or_within (is_key known.unread.entries q) (is_listed (lacking_by owner tree (rules_in owner tree dir)) q) (are.searched dir word is q);
  }

  -- its word is kept
  pub known_now : (dir : PathName) (word : Text) (old between new : Known) → HasSearched owner tree (rules_in owner tree dir) old between → word ≡ word_by owner tree (rules_in owner tree dir) →
      new.loaded ≡ between.loaded → new.words.entries ≡ put path_cmp dir word between.words.entries → new.unread.entries ≡ between.unread.entries → HasSearched owner tree (rules_in owner tree dir) old new
  known_now dir word old between new found_out is nothing words unread = record {
    knows = record {
      nothing = nothing ∙ found_out.knows.nothing;
      words = λ other found at. by_words other found (eq_by_cmp path_cmp other dir) refl (sym (put_is other) ∙ at);
      searched = λ other found at q h. ap (λ keys. is_key keys q) unread ∙ by_unread other found q h (eq_by_cmp path_cmp other dir) refl (sym (put_is other) ∙ at);
      sorted = subst (λ keys. T (is_sorted path_cmp keys)) (sym unread) found_out.knows.sorted;
    };
    lacks = λ q. ap (λ keys. is_key keys q) unread ∙ found_out.lacks q;
  }
    where
      put_is : (other : PathName) → find path_cmp other new.words.entries ≡ cond (eq_by_cmp path_cmp other dir) (Some word) (find path_cmp other between.words.entries)
      put_is other = ap (find path_cmp other) words ∙ find-put path_cmp path_cmp_total other dir word between.words.entries

      same_dir : (other : PathName) → eq_by_cmp path_cmp other dir ≡ true → other ≡ dir
      same_dir other h = path_exact other dir ((Equal-is (path_cmp other dir)).0 h)

      by_words : (other : PathName) (found : Text) (b : Bool) → eq_by_cmp path_cmp other dir ≡ b → cond b (Some word) (find path_cmp other between.words.entries) ≡ Some found → found ≡ word_by owner tree (rules_in owner tree other)
      by_words other found true tied at = sym (some_same word found at) ∙ (is ∙ ap (λ d. word_by owner tree (rules_in owner tree d)) (sym (same_dir other tied)))
      by_words other found false tied at = found_out.knows.words other found at

      by_unread : (other : PathName) (found : Text) (q : PathName) → is_listed (lacking_by owner tree (rules_in owner tree other)) q ≡ true → (b : Bool) → eq_by_cmp path_cmp other dir ≡ b → cond b (Some word) (find path_cmp other between.words.entries) ≡ Some found → is_key between.unread.entries q ≡ true
      by_unread other found q h true tied at =
          found_out.lacks q ∙ or_new (is_key old.unread.entries q) (is_listed (lacking_by owner tree (rules_in owner tree dir)) q) (ap (λ d. is_listed (lacking_by owner tree (rules_in owner tree d)) q) (sym (same_dir other tied)) ∙ h)
      by_unread other found q h false tied at = found_out.knows.searched other found at q h

  pub there_now : (dir : PathName) (word : Text) (entries now : List (PathName × Text)) → now ≡ put path_cmp dir word entries → IsSome (find path_cmp dir now)
  there_now dir word entries now is = ap is_some (ap (find path_cmp dir) is ∙ find-put path_cmp path_cmp_total dir dir word entries) ∙ ap (λ o. is_some (cond (is_eq o) (Some word) (find path_cmp dir entries))) (tied_itself path_cmp_total dir)

  -- ---- what is told of a path

  -- nothing, where no file stands there
  pub told_nothing : (path : PathName) (known : Known) (text : Text) → AreKnown owner tree known → is_file_at tree path ≡ false → HasTold owner tree path known known text text
  told_nothing path known text are none = record {
    knows = are;
    lacks = λ q. sym (ap (λ b. is_key known.unread.entries q || is_listed (if b then unread_at owner tree path else []) q) none ∙ or_none (is_key known.unread.entries q));
    line = sym (ap (λ b. text ++ (if b then file_line path (readers_at owner tree path) else [])) none ∙ append-nil text);
  }

  -- the line of a file, by the rules that govern it
  told_by : (path : PathName) (rules : List Rule) (old new : Known) (text now word : Text) → governing_rules (facts_of owner tree) path ≡ rules → is_file_at tree path ≡ true →
      HasSearched owner tree rules old new → word ≡ word_by owner tree rules → now ≡ text ++ (coded (canonical path) ++ codes " " ++ word ++ codes "\n") → HasTold owner tree path old new text now
  unfolding file_line
  told_by path rules old new text now word governs file found_out word_is is = record {
    knows = found_out.knows;
    lacks = λ q. found_out.lacks q ∙ sym (ap (λ b. is_key old.unread.entries q || is_listed (if b then unread_at owner tree path else []) q) file
        ∙ ap (λ b. is_key old.unread.entries q || b) (listed_in_order (lacking (facts_of owner tree) (group_paths tree) [] (governing_rules (facts_of owner tree) path)) q ∙ ap (λ r. is_listed (lacking_by owner tree r) q) governs));
    line = is ∙ (ap (λ w. text ++ (coded (canonical path) ++ codes " " ++ w ++ codes "\n")) (word_is ∙ ap (word_by owner tree) (sym governs))
        ∙ sym (ap (λ b. text ++ (if b then file_line path (readers_at owner tree path) else [])) file));
  }

  pub told_governed : (path dir : PathName) (old new : Known) (text now word : Text) → owns_snapshots owner ≡ false → governing_prefix tree path ≡ Some dir → is_file_at tree path ≡ true →
      HasSearched owner tree (rules_in owner tree dir) old new → Some word ≡ find path_cmp dir new.words.entries → now ≡ text ++ (coded (canonical path) ++ codes " " ++ word ++ codes "\n") → HasTold owner tree path old new text now
  told_governed path dir old new text now word plain governs file found_out at is =
      told_by path (rules_in owner tree dir) old new text now word (governed_by owner tree path dir plain governs) file found_out (found_out.knows.words dir word (sym at)) is

  pub told_ungoverned : (path : PathName) (old new : Known) (text now word : Text) → owns_snapshots owner ≡ false → governing_prefix tree path ≡ None → is_file_at tree path ≡ true →
      HasSearched owner tree [] old new → word ≡ word_by owner tree [] → now ≡ text ++ (coded (canonical path) ++ codes " " ++ word ++ codes "\n") → HasTold owner tree path old new text now
  told_ungoverned path old new text now word plain none file found_out word_is is =
      told_by path [] old new text now word (ungoverned owner tree path plain none) file found_out word_is is

  -- ---- what is told of the paths so far

  pub record ToldSoFar (begun : Text) (i : ℕ) (kept : Known) (now : Text) : Type 0 where
    pub knows : AreKnown owner tree kept
    pub lacks : (q : PathName) → is_key kept.unread.entries q ≡ is_listed (flat_map (unread_of owner tree) (take i (keys_of tree))) q
    pub lines : now ≡ begun ++ flat_map (line_of owner tree) (take i (keys_of tree))

  pub told_start : (known : Known) (text : Text) → known.loaded ≡ [] → known.words.entries ≡ [] → known.unread.entries ≡ [] → ToldSoFar text 0 known text
  told_start known text nothing words unread = record {
    knows = record {
      nothing = nothing;
      words = λ dir word is. absurd (some_none word (sym (sym (ap (find path_cmp dir) words) ∙ is)));
      searched = λ dir word is. absurd (some_none word (sym (sym (ap (find path_cmp dir) words) ∙ is)));
      sorted = subst (λ keys. T (is_sorted path_cmp keys)) (sym unread) tt;
    };
    lacks = λ q. ap (λ keys. is_key keys q) unread;
    lines = sym (append-nil text);
  }

  pub told_next : (text : Text) (i : ℕ) (path : PathName) (old new : Known) (before now : Text) → Some path ≡ slice_get (keys_of (paths_in tree)) i → ToldSoFar text i old before → HasTold owner tree path old new before now → ToldSoFar text (i + 1) new now
  told_next text i path old new before now at so_far told = record {
    knows = told.knows;
    lacks = λ q. told.lacks q ∙ (ap (λ b. b || is_listed (unread_of owner tree path) q) (so_far.lacks q)
        ∙ (ap (λ b. is_listed (flat_map (unread_of owner tree) (take i (keys_of tree))) q || b) (ap (λ l. is_listed l q) (sym (append-nil (unread_of owner tree path))))
        ∙ (sym (list_any-append (eq_by_cmp path_cmp q) (flat_map (unread_of owner tree) (take i (keys_of tree))) (unread_of owner tree path ++ []))
        ∙ ap (λ l. is_listed l q) (joined (unread_of owner tree)))));
    lines = told.line ∙ (ap (λ t. t ++ line_of owner tree path) so_far.lines
        ∙ (append_assoc text (flat_map (line_of owner tree) (take i (keys_of tree))) (line_of owner tree path)
        ∙ ap (λ t. text ++ t) (ap (λ t. flat_map (line_of owner tree) (take i (keys_of tree)) ++ t) (sym (append-nil (line_of owner tree path))) ∙ joined (line_of owner tree))));
  }
    where
      here : slice_get (keys_of tree) i ≡ Some path
      here = ap (λ keys. slice_get keys i) (sym (keys_again tree)) ∙ sym at

      joined : {Y : Type 0} (f : PathName → List Y) → flat_map f (take i (keys_of tree)) ++ flat_map f (path ∷ []) ≡ flat_map f (take (i + 1) (keys_of tree))
      joined f =
          sym (flat_map-append f (take i (keys_of tree)) (path ∷ []))
          ∙ ap (flat_map f) (sym (take_next i (keys_of tree) path here) ∙ ap (λ n. take n (keys_of tree)) (let e : suc i ≡ i + 1 = omega arith in e))

  all_keys : (i : ℕ) → length (paths_in tree) ≤ i → take i (keys_of tree) ≡ keys_of tree
  all_keys i end = take_all i (keys_of tree) (let e : length (keys_of tree) ≡ length (paths_in tree) = length-map tree (λ item. item.0) ∙ sym (length-map tree (λ item. (item.0, tt))) in omega (arith, end, e))

  -- only files are told of
  joined_files : {Y : Type 0} (f : PathName → List Y) (paths : List PathName) → flat_map (λ path. if is_file_at tree path then f path else []) paths ≡ flat_map f (filter (is_file_at tree) paths)
  joined_files f [] = refl
  joined_files {Y = Y} f (path ∷ paths) = go (is_file_at tree path) (joined_files f paths)
    where
      go : (b : Bool) → flat_map (λ path. if is_file_at tree path then f path else []) paths ≡ flat_map f (filter (is_file_at tree) paths) → (if b then f path else []) ++ flat_map (λ path. if is_file_at tree path then f path else []) paths ≡ flat_map f (if b then path ∷ filter (is_file_at tree) paths else filter (is_file_at tree) paths)
      go true rest = ap (λ rest. f path ++ rest) rest
      go false rest = rest

  pub told_all : (text : Text) (i : ℕ) (known : Known) (now : Text) → length (paths_in tree) ≤ i → ToldSoFar text i known now → now ≡ text ++ flat_map (λ path. file_line path (readers_at owner tree path)) (files_of tree)
  unfolding files_of
  told_all text i known now end so_far =
      so_far.lines ∙ ap (λ t. text ++ t) (ap (flat_map (line_of owner tree)) (all_keys i end) ∙ joined_files (λ path. file_line path (readers_at owner tree path)) (keys_of tree))

  pub unread_all : (text : Text) (i : ℕ) (known : Known) (now : Text) → length (paths_in tree) ≤ i → ToldSoFar text i known now → keys_of known.unread.entries ≡ unread_in owner tree
  unfolding unread_in files_of
  unread_all text i known now end so_far =
      let all = flat_map (unread_at owner tree) (filter (is_file_at tree) (keys_of tree)) in
      ap keys_of (same_keys path_cmp path_cmp_total path_exact known.unread.entries (with_keys path_cmp [] all) so_far.knows.sorted (sorted_more path_cmp path_cmp_total [] all tt)
      (λ q. so_far.lacks q ∙ (ap (λ l. is_listed l q) (ap (flat_map (unread_of owner tree)) (all_keys i end) ∙ joined_files (unread_at owner tree) (keys_of tree)) ∙ sym (found_more path_cmp path_cmp_total [] all q))))

-- ---- the lines of the groups that are unread

pub lines_step : (old now all : Text) (groups : List PathName) (i : ℕ) (group : PathName) → Some group ≡ slice_get groups i → now ≡ old ++ unread_line group → old ++ flat_map unread_line (drop i groups) ≡ all → now ++ flat_map unread_line (drop (i + 1) groups) ≡ all
lines_step old now all groups i group at is before = step_at (λ (text : Text) (left : List PathName). text ++ flat_map unread_line left) (λ (text : Text) (group : PathName). text ++ unread_line group) (λ text group left. sym (append_assoc text (unread_line group) (flat_map unread_line left))) old now all groups i group at is before

pub lines_end : (now all : Text) (groups : List PathName) (i : ℕ) → length groups ≤ i → now ++ flat_map unread_line (drop i groups) ≡ all → now ≡ all
lines_end now all groups i last before = end (λ (text : Text) (left : List PathName). text ++ flat_map unread_line left) (λ (text : Text) (group : PathName). text ++ unread_line group) (λ text group left. sym (append_assoc text (unread_line group) (flat_map unread_line left))) append-nil now all groups i last before
