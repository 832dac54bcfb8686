-- What a user is answered in a directory whose Access file gives all to that user, by what stands in the tree.
use Rattle.std.proofs.Common.{◌≡◌, ℕ, ◌+◌, ◌-◌, ◌<◌, Bool, true, false, not, ◌&&◌, ◌||◌, List, [], ◌∷◌, length, refl, sym, ap, ◌∙◌, arith, Option, Some, None}
use Rattle.std.specs.Prelude.{if◌then◌else◌, ◌==◌, ⊤, Result, is_none, is_some, unwrap_or, pos}
use Rattle.std.specs.Prelude as std
use Rattle.std.specs.Option.{option_and_then, option_map, option_or}
use Rattle.std.proofs.lemmas.Bool.{false≢true}
use Rattle.up_answers.specs.Deletes.{delete_outcome}
use Rattle.up_answers.specs.Fetching.{Fetched, parsed_as, text_put}
use Rattle.up_answers.specs.Puts.{holds, place_refusal, put_outcome, sequence_refusal}
use Rattle.up_entry.specs.ControlFiles.{is_ordinary}
use Rattle.up_entry.specs.Rules.{is_directory}
use Rattle.up_entry.specs.declared.entries.Entry.{Entry}
use Rattle.up_entry.specs.declared.entries.Kind.{Kind}
use Rattle.up_entry.specs.declared.records.Rec.{Rec}
use Rattle.up_entry.specs.declared.records.Rec.TheVariants as rec
use Rattle.up_list.proofs.BelowLemmas.{parent_is}
use Rattle.up_list.specs.Changes.{◌>>=◌, refuse, right_to_put, unless}
use Rattle.up_list.specs.Checks.{at_link, check, first_link, lacking, link_at, ways, ways_before}
use Rattle.up_list.specs.Entries.{entry_at, entry_of, if_link}
use Rattle.up_list.specs.Globs.{glob_reply, is_whole, literal_path, rows, rows_reply, whole_reply}
use Rattle.up_list.specs.Looks.{Look, rights}
use Rattle.up_list.specs.Reads.{entry_reply, lookup_reply}
use Rattle.up_log_tree.proofs.Paths.{is_parent_of, length_cut, path_eq_itself}
use Rattle.up_log_tree.proofs.Trees.{has_child}
use Rattle.up_log_tree.specs.Fits.{HasDirectory}
use Rattle.up_log_tree.specs.Orders.{has_path as has}
use Rattle.up_log_tree.specs.Trees.{children, is_file, is_parent, kind_of, node_at}
use Rattle.up_log_tree.specs.declared.node.Node.{Node}
use Rattle.up_names.specs.PathNames.{PathName, control_of, cut}
use Rattle.up_names.specs.Texts.{Text, UserName}
use Rattle.up_names.specs.declared.paths.Control.{Control}
use Rattle.up_names.specs.declared.paths.Control.TheVariants as control
use Rattle.up_pattern.specs.Patterns.{PatternName}
use Rattle.up_plots.proofs.PlotRights.{nothing_deep}
use Rattle.up_plots.specs.Asks.{new_file}
use Rattle.up_plots.specs.Plots.{IsFlat, file_path, plot_path}
use Rattle.up_rights.specs.RightSets.{Rights, all_rights, no_rights}
use Rattle.up_rights.specs.declared.Right.{Right}
use Rattle.up_rights.specs.declared.Right.TheVariants as right
use Rattle.up_wire.specs.declared.replies.Done.TheVariants as done
use Rattle.up_wire.specs.declared.replies.Reply.{Reply}
use Rattle.up_wire.specs.declared.replies.Reply.TheVariants as reply

-- ---- rights decide, since no link is met

-- who has all rights lacks none
all_pass : (needed : Option Right) → lacking all_rights needed ≡ None
unfolding lacking
all_pass None = refl
all_pass (Some right.Read) = refl
all_pass (Some right.Write) = refl
all_pass (Some right.List) = refl
all_pass (Some right.Create) = refl
all_pass (Some right.Delete) = refl

-- who has none is told nothing
none_pass : (needed : Option Right) → lacking no_rights needed ≡ Some reply.Private
unfolding lacking
none_pass None = refl
none_pass (Some needed) = refl

-- an empty file at an ordinary path has the empty text
module _ (owner user : UserName) (path : PathName) (ordinary : control_of path ≡ control.Ordinary) where
  -- its text, by which control file its path is of
  abbrev text_by : Control → Result Text Reply
  text_by c = if not (not (is_ordinary c)) then std.Ok [] else parsed_as owner (control_of path) []

  -- it is empty
  pub text_is : (fetched : Fetched) → text_put owner fetched (new_file user path).entry ≡ std.Ok []
  unfolding text_put
  text_is fetched = ap (λ (c : Control). text_by c) ordinary

-- no child stands where none is told
empty_by : (paths : List PathName) → ((q : PathName) → has paths q ≡ false) → paths ≡ []
empty_by [] none = refl
empty_by (path ∷ paths) none = absurd (false≢true (sym (none path) ∙ ap (λ (b : Bool). b || has paths path) (path_eq_itself path)))

module _ (look : Look) (flat : IsFlat look.owner look.tree) where
  -- no link stands at any path of a flat tree
  no_link : (path : PathName) → link_at look.tree path ≡ None
  no_link path = go (node_at look.tree path) refl
    where
      go : (found : Option Node) → node_at look.tree path ≡ found → option_and_then if_link (option_map entry_of found) ≡ None
      go None is = refl
      go (Some node) is = ap (λ (b : Bool). if b then Some node.entry else None) (flat.plain path node is)

  -- no link stands at any of these paths
  pub no_first : (paths : List PathName) → first_link look.tree paths ≡ None
  no_first [] = refl
  no_first (path ∷ paths) = ap (λ (o : Option Entry). option_or o (first_link look.tree paths)) (no_link path) ∙ no_first paths

  -- so a check is one of rights alone
  check_is : (tested : List PathName) (path : PathName) (needed : Option Right) → check look tested path needed ≡ lacking (rights look path) needed
  unfolding check
  check_is tested path needed =
      ap (λ (o : Option Entry). elim o as (λ _. Option Reply) [ Some link ↦ Some (at_link look link) | None ↦ lacking (rights look path) needed ]) (no_first tested)

  -- who has no right is told nothing
  pub hidden : (path : PathName) → rights look path ≡ no_rights → lookup_reply look path ≡ reply.Private
  unfolding lookup_reply
  hidden path held =
      ap (λ (o : Option Reply). unwrap_or o (entry_reply look (entry_at look.tree path)))
      (check_is (ways path) path None ∙ ap (λ (r : Rights). lacking r None) held ∙ none_pass None)

  module _ (path : PathName) (held : rights look path ≡ all_rights) where
    -- who has all rights passes every check
    passes : (tested : List PathName) (needed : Option Right) → check look tested path needed ≡ None
    passes tested needed = check_is tested path needed ∙ ap (λ (r : Rights). lacking r needed) held ∙ all_pass needed

    -- a Lookup gives what stands there
    pub lookup_is : lookup_reply look path ≡ entry_reply look (entry_at look.tree path)
    unfolding lookup_reply
    lookup_is = ap (λ (o : Option Reply). unwrap_or o (entry_reply look (entry_at look.tree path))) (passes (ways path) None)

    -- a Delete of what has nothing below it takes out what stands there
    pub delete_is : children look.tree path ≡ [] → delete_outcome look path ≡ (if is_none (node_at look.tree path) then std.Err reply.NotExist else std.Ok (rec.Delete path))
    unfolding delete_outcome
    delete_is empty =
        ap (λ (o : Option Reply). unless o >>= λ allowed. refuse (is_none (node_at look.tree path)) reply.NotExist >>= λ there.
        refuse (not (length (children look.tree path) == 0)) reply.NotEmpty >>= λ bare. std.Ok (rec.Delete path))
        (passes (ways_before path) (Some right.Delete))
        ∙ by (is_none (node_at look.tree path))
      where
        by : (b : Bool) → (refuse b reply.NotExist >>= λ there. refuse (not (length (children look.tree path) == 0)) reply.NotEmpty >>= λ bare. std.Ok (rec.Delete path))
            ≡ (if b then std.Err reply.NotExist else std.Ok (rec.Delete path))
        by true = refl
        by false = ap (λ (paths : List PathName). refuse (not (length paths == 0)) reply.NotEmpty >>= λ bare. std.Ok (rec.Delete path)) empty

  -- below a file in a directory of the root stands nothing
  pub no_children : (owner : UserName) (name file : Text) → children look.tree (file_path owner name file) ≡ []
  no_children owner name file = empty_by (children look.tree (file_path owner name file)) (λ q. has_child look.tree (file_path owner name file) q ∙ go q (is_parent (file_path owner name file) q) refl)
    where
      deep : (q : PathName) → is_parent (file_path owner name file) q ≡ true → 2 < length q.elements
      deep q is =
          let above = parent_is q (file_path owner name file) (is_parent_of (file_path owner name file) q is) in
          let two : length (cut (length q.elements - 1) q).elements ≡ 2 = ap (λ (p : PathName). length p.elements) above.1 in
          let one : length (cut (length q.elements - 1) q).elements ≡ length q.elements - 1 = length_cut (length q.elements - 1) q (omega arith) in
          let some = above.0 in
          omega (arith, two, one, some)

      go : (q : PathName) (b : Bool) → is_parent (file_path owner name file) q ≡ b → (b && is_some (node_at look.tree q)) ≡ false
      go q false is = refl
      go q true is = ap (λ (o : Option Node). is_some o) (nothing_deep look.owner look.tree flat q (deep q is))

  -- ---- Put of an empty file

  module _ (owner user : UserName) (name file : Text) (directory : HasDirectory look.tree (plot_path owner name)) (ordinary : control_of (file_path owner name file) ≡ control.Ordinary) where
    -- the path of the file
    abbrev here : PathName
    here = file_path owner name file

    -- the refusals of the place, by what stands above and there
    abbrev placing : Option Node → Bool → Bool → Option Node → Result ⊤ Reply
    placing above in_file over found =
        refuse (is_none above || (false && is_none found)) reply.NotExist >>= λ placed. refuse in_file reply.NotDir >>= λ below.
        refuse (over && true) reply.IsDir >>= λ kept. refuse (is_some found && (false || false)) reply.Exist >>= λ new. sequence_refusal found (pos 0)

    -- a file in a directory may stand over a file or over nothing
    placed_at : (found : Option Node) → placing (Some directory.0) false false found ≡ std.Ok tt
    placed_at None = refl
    placed_at (Some node) = refl

    -- so its place refuses nothing
    place_is : (found : Option Node) → holds found (λ (node : Node). is_directory (kind_of node)) ≡ false → place_refusal found look.tree (new_file user here) ≡ std.Ok tt
    unfolding place_refusal
    place_is found over =
        ap (λ (above : Option Node). placing above (holds above (λ (node : Node). is_file (kind_of node))) (holds found (λ (node : Node). is_directory (kind_of node))) found) directory.1
        ∙ ap (λ (kind : Kind). placing (Some directory.0) (is_file kind) (holds found (λ (node : Node). is_directory (kind_of node))) found) directory.2
        ∙ ap (λ (b : Bool). placing (Some directory.0) false b found) over
        ∙ placed_at found

    -- the record, once the text is there
    abbrev recorded : ℕ → Result Text Reply → Result Rec Reply
    recorded n text = text >>= λ kept. std.Ok (rec.Put (record ((new_file user here).entry) { sequence = n + 1 }) kept)

    -- a user with all rights there puts it, over a file or over nothing
    pub put_is : (n : ℕ) (fetched : Fetched) → rights look here ≡ all_rights → holds (node_at look.tree here) (λ (node : Node). is_directory (kind_of node)) ≡ false
        → put_outcome look n fetched (new_file user here) ≡ std.Ok (rec.Put (record ((new_file user here).entry) { sequence = n + 1 }) [])
    unfolding put_outcome
    put_is n fetched held over =
        ap (λ (o : Option Reply). unless o >>= λ allowed. place_refusal (node_at look.tree here) look.tree (new_file user here) >>= λ placed. recorded n (text_put look.owner fetched (new_file user here).entry))
        (passes here held (ways here) (Some (right_to_put (node_at look.tree here))))
        ∙ ap (λ (r : Result ⊤ Reply). r >>= λ placed. recorded n (text_put look.owner fetched (new_file user here).entry)) (place_is (node_at look.tree here) over)
        ∙ ap (λ (r : Result Text Reply). recorded n r) (text_is look.owner user here ordinary fetched)

  -- ---- Glob of all that stands in the directory

  module _ (pattern : PatternName) (owner : UserName) (name : Text) (literal : literal_path pattern ≡ plot_path owner name)
      (mixed : is_whole pattern ≡ false) (directory : HasDirectory look.tree (plot_path owner name)) where
    -- with all rights, all that is met is listed
    pub glob_is : rights look (plot_path owner name) ≡ all_rights → glob_reply look pattern ≡ reply.Ok (done.Rows (rows look pattern))
    unfolding glob_reply
    glob_is held =
        let plot = plot_path owner name in
        ap (λ (b : Bool). if b then whole_reply look (literal_path pattern)
        else unwrap_or (check look (ways (literal_path pattern)) (literal_path pattern) (Some right.List)) (rows_reply look pattern (entry_at look.tree (literal_path pattern)))) mixed
        ∙ ap (λ (p : PathName). unwrap_or (check look (ways p) p (Some right.List)) (rows_reply look pattern (entry_at look.tree p))) literal
        ∙ ap (λ (o : Option Reply). unwrap_or o (rows_reply look pattern (entry_at look.tree plot))) (passes plot held (ways plot) (Some right.List))
        ∙ ap (λ (o : Option Node). rows_reply look pattern (option_map entry_of o)) directory.1
        ∙ ap (λ (kind : Kind). if is_file kind then reply.NotDir else reply.Ok (done.Rows (rows look pattern))) directory.2
