-- What an owner is answered who puts the root of a tree, a directory in it, and that directory's Access file of one block.
use Rattle.std.proofs.Common.{◌≡◌, ℕ, ◌+◌, ◌<◌, ◌≤◌, Bool, true, false, not, cond, ◌||◌, List, [], ◌∷◌, ◌++◌, length, refl, ap, ◌∙◌, arith, append-nil, Option, Some, None, bytes_eq}
use Rattle.std.specs.Prelude.{if◌then◌else◌, ◌==◌, ⊤, Result, codes, is_none}
use Rattle.std.specs.Prelude as std
use Rattle.std.specs.List.{flat_map, list_any}
use Rattle.std.specs.Option.{option_map}
use Rattle.std.proofs.lemmas.Bool.{and_from}
use Rattle.std.proofs.lemmas.Bool.Decides.{nat_tests}
use Rattle.std.proofs.lemmas.Slice.Eq.{bytes_eq-Decides}
use Rattle.sha2.specs.Sha256.{sha256}
use Rattle.up_access.specs.AccessTexts.{access_of}
use Rattle.up_access.specs.declared.Rule.{Rule}
use Rattle.up_answers.specs.Fetching.{Fetched, endpoint_eq, fetch_for, good_bytes, is_failed, joined_bytes, location_eq, parsed, parsed_as, text_put}
use Rattle.up_answers.specs.Puts.{holds, place_refusal}
use Rattle.up_bytes.proofs.Numbers.{length-num}
use Rattle.up_bytes.specs.Num.{num}
use Rattle.up_bytes.specs.Spelling.{raw, text as text_bytes}
use Rattle.up_entry.specs.ControlFiles.{is_ordinary}
use Rattle.up_entry.specs.Rules.{blocks_fit, control_size_fits}
use Rattle.up_entry.specs.Spelling as spelling
use Rattle.up_entry.specs.declared.entries.Block.{Block}
use Rattle.up_entry.specs.declared.entries.Endpoint.{Endpoint}
use Rattle.up_entry.specs.declared.entries.Endpoint.TheVariants.{Address, Local}
use Rattle.up_entry.specs.declared.entries.Kind.{Kind}
use Rattle.up_entry.specs.declared.entries.Kind.TheVariants.{File}
use Rattle.up_entry.specs.declared.entries.Location.{Location}
use Rattle.up_entry.specs.declared.fetch.Fetch.{Fetch}
use Rattle.up_entry.specs.declared.fetch.Fetch.TheVariants.{Failed, Got}
use Rattle.up_entry.specs.declared.records.Rec.{Rec}
use Rattle.up_entry.specs.declared.records.Rec.TheVariants as rec
use Rattle.up_journal.specs.declared.limits.Limits.{Limits}
use Rattle.up_list.specs.Changes.{◌>>=◌, refuse}
use Rattle.up_list.specs.Checks.{first_link, ways}
use Rattle.up_list.specs.Looks.{Look, look_now}
use Rattle.up_log_tree.proofs.Trees.{node_at-empty}
use Rattle.up_log_tree.specs.Fits.{HasDirectory, root_of}
use Rattle.up_log_tree.specs.Logs.{Log}
use Rattle.up_log_tree.specs.Rights.{access_node, facts_of, rules_of}
use Rattle.up_log_tree.specs.Trees.{Tree, is_file, kind_of, node_at, tree_of}
use Rattle.up_log_tree.specs.declared.node.Node.{Node}
use Rattle.up_names.specs.PathNames.{PathName, canonical, control_of, path_of}
use Rattle.up_names.specs.Texts.{Text, UserName}
use Rattle.up_names.specs.UserNames.{user_of}
use Rattle.up_names.specs.declared.fault.TextFault.{TextFault}
use Rattle.up_names.specs.declared.paths.Control.{Control}
use Rattle.up_names.specs.declared.paths.Control.TheVariants as control
use Rattle.up_plots.proofs.PlotAnswers.{ordinary_path}
use Rattle.up_plots.proofs.PlotChecking.{block_asked, directory_asked}
use Rattle.up_plots.proofs.PlotMaking.{may_create_control, may_create_plain, put_made, put_unmade}
use Rattle.up_plots.proofs.PlotReplies.{no_first}
use Rattle.up_plots.proofs.PlotRights.{plot_governed}
use Rattle.up_plots.proofs.PlotSizes.{IsSlightRec, two}
use Rattle.up_plots.specs.Answered.{HasRoom, IsAnswered}
use Rattle.up_plots.specs.Asks.{block_put, directory_put, new_block_file, new_directory}
use Rattle.up_plots.specs.Plots.{IsFlat, file_path, plot_path}
use Rattle.up_policy.specs.Governors.{first_text, governor, prefixes}
use Rattle.up_policy.specs.Loadings.{Loading}
use Rattle.up_policy.specs.Trees.{owns_snapshots}
use Rattle.up_policy.specs.Verdicts.{is_control}
use Rattle.up_wire.specs.Bounds.{bounded}
use Rattle.up_wire.specs.declared.replies.Done.TheVariants as done
use Rattle.up_wire.specs.declared.replies.Reply.{Reply}
use Rattle.up_wire.specs.declared.replies.Reply.TheVariants as reply
use Rattle.up_wire.specs.declared.requests.Request.TheVariants as request

-- ---- the records

-- the record of a directory that is put after n others
abbrev pub directory_record : UserName → PathName → ℕ → Rec
directory_record owner path n = rec.Put (record ((new_directory owner path).entry) { sequence = n + 1 }) []

-- the record of a file of one block that is put after n others, with the text that is kept
abbrev pub block_record : UserName → PathName → Block → Text → ℕ → Rec
block_record owner path block kept n = rec.Put (record ((new_block_file owner path block).entry) { sequence = n + 1 }) kept

-- the record of a directory is slight where its names are short
pub slight_directory : (owner : UserName) (path : PathName) (n : ℕ) → length (canonical path) ≤ 32 → length owner ≤ 32 → IsSlightRec (directory_record owner path n)
slight_directory owner path n short named = (
  record { name = short; signed_name = short; writer = named; link = omega arith; packdata = omega arith; blocks = omega arith },
  omega arith,
)

-- a block of the host's own store has few bytes
few_bytes : (reference : List ℕ) (size : ℕ) → length reference ≡ 32
    → length (flat_map spelling.block ((record { location = record { endpoint = Local; reference = reference }; offset = 0; size = size; packdata = [] }) ∷ [])) ≤ 128
unfolding spelling.block
few_bytes reference size long =
    let none : length (text_bytes []) ≤ 10 = two (num 0) [] 10 0 (length-num 0) (omega arith) in
    let s1 : List ℕ = text_bytes [] ++ raw reference in
    let s2 : List ℕ = s1 ++ num 0 in
    let s3 : List ℕ = s2 ++ num size in
    let s4 : List ℕ = s3 ++ text_bytes [] in
    let b1 = two (text_bytes []) (raw reference) 10 32 none (omega (arith, long)) in
    let b2 = two s1 (num 0) 42 10 b1 (length-num 0) in
    let b3 = two s2 (num size) 52 10 b2 (length-num size) in
    let b4 = two s3 (text_bytes []) 62 10 b3 none in
    let all = two s4 [] 72 0 b4 (omega arith) in
    let whole : length (s4 ++ []) ≤ 128 = omega (arith, all) in
    whole

-- the record of a file of one block is slight where its names and its text are short
pub slight_block : (owner : UserName) (path : PathName) (reference : List ℕ) (size : ℕ) (kept : Text) (n : ℕ) → length (canonical path) ≤ 32 → length owner ≤ 32 → length kept ≤ 32 → length reference ≡ 32
    → IsSlightRec (block_record owner path (record { location = record { endpoint = Local; reference = reference }; offset = 0; size = size; packdata = [] }) kept n)
slight_block owner path reference size kept n short named brief long = (
  record { name = short; signed_name = short; writer = named; link = omega arith; packdata = omega arith; blocks = few_bytes reference size long },
  brief,
)

-- ---- their places

-- the refusals of a place where nothing stands, by what stands above it
abbrev placing : Option Node → Bool → Result ⊤ Reply
placing above in_file = refuse (is_none above || false) reply.NotExist >>= λ placed. refuse in_file reply.NotDir >>= λ below. std.Ok tt

-- a root may stand where nothing does
place_of_root : (owner : UserName) (tree : Tree) → place_refusal None tree (new_directory owner (root_of owner)) ≡ std.Ok tt
unfolding place_refusal
place_of_root owner tree = refl

-- and a directory in a root that stands
place_in_root : (owner : UserName) (name : Text) (tree : Tree) → HasDirectory tree (root_of owner) → place_refusal None tree (new_directory owner (plot_path owner name)) ≡ std.Ok tt
unfolding place_refusal
place_in_root owner name tree directory =
    ap (λ (above : Option Node). placing above (holds above (λ (node : Node). is_file (kind_of node)))) directory.1
    ∙ ap (λ (kind : Kind). placing (Some directory.0) (is_file kind)) directory.2

-- and an Access file in a directory that stands
place_in_plot : (owner : UserName) (name : Text) (block : Block) (tree : Tree) → HasDirectory tree (plot_path owner name)
    → place_refusal None tree (new_block_file owner (file_path owner name (codes "Access")) block) ≡ std.Ok tt
unfolding place_refusal
place_in_plot owner name block tree directory =
    ap (λ (above : Option Node). placing above (holds above (λ (node : Node). is_file (kind_of node)))) directory.1
    ∙ ap (λ (kind : Kind). placing (Some directory.0) (is_file kind)) directory.2

-- ---- their texts

-- a directory has the empty text
text_of_directory : (owner : UserName) (path : PathName) (fetched : Fetched) → text_put owner fetched (new_directory owner path).entry ≡ std.Ok []
unfolding text_put
text_of_directory owner path fetched = refl

-- an endpoint is the same as itself
endpoint_itself : (endpoint : Endpoint) → endpoint_eq endpoint endpoint ≡ true
endpoint_itself Local = refl
endpoint_itself (Address address) = (bytes_eq-Decides address address).1 refl

-- and so is a location
location_itself : (location : Location) → location_eq location location ≡ true
location_itself location =
    and_from (bytes_eq location.reference location.reference) (endpoint_eq location.endpoint location.endpoint) ((bytes_eq-Decides location.reference location.reference).1 refl)
    (endpoint_itself location.endpoint)

-- equal numbers pass the test of equality
same_numbers : (a b : ℕ) → a ≡ b → (a == b) ≡ true
same_numbers a b h = grind (arith, nat_tests)

-- An Access file of one block, for which this was fetched.
module _ (owner : UserName) (path : PathName) (access : control_of path ≡ control.Access) (block : Block) where
  -- what was fetched, by what its block gave
  abbrev fetched_as : Fetch → Fetched
  fetched_as given = (block.location, given) ∷ []

  -- that is what is found for the block
  found_as : (given : Fetch) → fetch_for (fetched_as given) block ≡ Some given
  found_as given = ap (λ (b : Bool). cond b (Some given) None) (location_itself block.location)

  -- its text by which control file it is
  abbrev kept_by : Fetch → Control → Result Text Reply
  kept_by given c =
      if list_any (λ (b : Block). is_failed (fetch_for (fetched_as given) b)) (block ∷ []) then std.Err reply.Io
      else (joined_bytes (fetched_as given) (block ∷ []) >>= parsed_as owner c)

  -- its text is that of an Access file
  text_by : (given : Fetch) → text_put owner (fetched_as given) (new_block_file owner path block).entry ≡ kept_by given control.Access
  unfolding text_put
  text_by given =
      ap (λ (c : Control). if not (not (is_ordinary c)) then std.Ok [] else kept_by given (control_of path)) access
      ∙ ap (λ (c : Control). kept_by given c) access

  -- where the block could not be read, there is none
  pub text_failed : text_put owner (fetched_as Failed) (new_block_file owner path block).entry ≡ std.Err reply.Io
  text_failed =
      text_by Failed
      ∙ ap (λ (o : Option Fetch). if is_failed o || false then std.Err reply.Io else (joined_bytes (fetched_as Failed) (block ∷ []) >>= parsed_as owner control.Access)) (found_as Failed)

  module _ (bytes : Text) (rules : List Rule) (size : length bytes ≡ block.size) (reference : sha256 bytes ≡ block.location.reference) (reads : access_of owner bytes ≡ std.Ok rules) where
    -- the bytes are those of the block
    good_is : good_bytes block (Some (Got bytes)) ≡ Some bytes
    good_is =
        ap (λ (b : Bool). if b then Some bytes else None)
        (and_from (length bytes == block.size) (bytes_eq (sha256 bytes) block.location.reference) (same_numbers (length bytes) block.size size)
        ((bytes_eq-Decides (sha256 bytes) block.location.reference).1 reference))

    -- and all bytes of the file
    joined_is : joined_bytes (fetched_as (Got bytes)) (block ∷ []) ≡ std.Ok bytes
    joined_is =
        ap (λ (o : Option Fetch). elim (good_bytes block o) as (λ _. Result Text Reply) [
          | None ↦ std.Err (reply.BadBlock block.location.reference)
          | Some these ↦ std.Ok (these ++ [])
        ]) (found_as (Got bytes))
        ∙ ap (λ (o : Option Text). elim o as (λ _. Result Text Reply) [
          | None ↦ std.Err (reply.BadBlock block.location.reference)
          | Some these ↦ std.Ok (these ++ [])
        ]) good_is
        ∙ ap (λ (t : Text). std.Ok t) (append-nil bytes)

    -- where its bytes were read, they are its text
    pub text_kept : text_put owner (fetched_as (Got bytes)) (new_block_file owner path block).entry ≡ std.Ok bytes
    text_kept =
        text_by (Got bytes)
        ∙ ap (λ (o : Option Fetch). if is_failed o || false then std.Err reply.Io else (joined_bytes (fetched_as (Got bytes)) (block ∷ []) >>= parsed_as owner control.Access)) (found_as (Got bytes))
        ∙ ap (λ (r : Result Text Reply). r >>= parsed_as owner control.Access) joined_is
        ∙ ap (λ (r : Result (List Rule) TextFault). parsed bytes r) reads

-- ---- what is answered

-- no text governs the root of an empty tree
root_ungoverned : (owner : UserName) → owns_snapshots owner ≡ false → governor (facts_of owner (tree_of [])) (root_of owner) ≡ None
unfolding governor facts_of node_at tree_of
root_ungoverned owner plain =
    ap (λ (b : Bool). if b then None else first_text (λ dir. option_map (rules_of owner) (access_node (tree_of []) dir)) (prefixes (root_of owner))) plain

-- no link stands in it
root_unlinked : (owner : UserName) → first_link (tree_of []) (ways (root_of owner)) ≡ None
unfolding ways node_at tree_of
root_unlinked owner = refl

-- an Access path is a control path
control_path : (path : PathName) → control_of path ≡ control.Access → is_control path ≡ true
control_path path h = ap (λ (c : Control). elim c as (λ _. Bool) [ control.Ordinary ↦ false | control.Access ↦ true | control.Group ↦ true ]) h

module _ (owner : UserName) (limits : Limits) (loaded : Loading) (fetched : Fetched) (now : ℕ) (plain : owns_snapshots owner ≡ false) (named : user_of owner ≡ std.Ok owner) where
  -- the owner's log with these records
  abbrev pub log_over : List Rec → Log
  log_over records = record { owner = owner; limits = limits; records = records }

  -- the tree as its owner meets it
  abbrev look : List Rec → Look
  look records = look_now (log_over records) loaded owner

  -- the root of a new tree
  pub root_put : (text : Text) → path_of text ≡ std.Ok (root_of owner) → HasRoom (log_over []) (directory_record owner (root_of owner) 0)
      → IsAnswered (log_over []) loaded fetched owner (request.Put (directory_put owner text)) now (reply.Ok (done.Changed 1)) (directory_record owner (root_of owner) 0 ∷ [])
  root_put text reads room =
      put_made (log_over []) loaded fetched owner now (directory_put owner text) (new_directory owner (root_of owner)) []
      (directory_asked owner text (root_of owner) reads named refl) refl (root_unlinked owner)
      (may_create_plain (look []) refl plain (root_of owner) refl (root_ungoverned owner plain))
      (node_at-empty (root_of owner)) (place_of_root owner (tree_of [])) (text_of_directory owner (root_of owner) fetched) room

  module _ (records : List Rec) (flat : IsFlat owner (tree_of records)) (name : Text) where
    abbrev tree : Tree
    tree = tree_of records

    -- a directory in the root
    pub directory_made : (text : Text) → path_of text ≡ std.Ok (plot_path owner name) → control_of (plot_path owner name) ≡ control.Ordinary → node_at tree (plot_path owner name) ≡ None
        → access_node tree (plot_path owner name) ≡ None → HasRoom (log_over records) (directory_record owner (plot_path owner name) (length records))
        → IsAnswered (log_over records) loaded fetched owner (request.Put (directory_put owner text)) now (reply.Ok (done.Changed (length records + 1)))
        (directory_record owner (plot_path owner name) (length records) ∷ [])
    directory_made text reads ordinary free bare room =
        put_made (log_over records) loaded fetched owner now (directory_put owner text) (new_directory owner (plot_path owner name)) []
        (directory_asked owner text (plot_path owner name) reads named ordinary) refl (no_first (look records) flat (ways (plot_path owner name)))
        (may_create_plain (look records) refl plain (plot_path owner name) (ordinary_path (plot_path owner name) ordinary)
        (plot_governed owner tree flat plain name ∙ ap (λ (o : Option Node). option_map (rules_of owner) o) bare))
        free (place_in_root owner name tree flat.root) (text_of_directory owner (plot_path owner name) fetched) room

    -- the Access file in that directory
    abbrev here : PathName
    here = file_path owner name (codes "Access")

    module _ (text : Text) (block : Block) (reads : path_of text ≡ std.Ok here) (access : control_of here ≡ control.Access) (fit : blocks_fit File (block ∷ []) ≡ true)
        (small : control_size_fits File here (block ∷ []) ≡ true) (directory : HasDirectory tree (plot_path owner name)) (free : access_node tree (plot_path owner name) ≡ None) where
      -- it is no root
      below : 0 < length here.elements
      below = let e : length here.elements ≡ 2 = refl in omega (arith, e)

      -- it is put, with the text that is kept
      pub access_made : (kept : Text) → text_put owner fetched (new_block_file owner here block).entry ≡ std.Ok kept → HasRoom (log_over records) (block_record owner here block kept (length records))
          → IsAnswered (log_over records) loaded fetched owner (request.Put (block_put owner text block)) now (reply.Ok (done.Changed (length records + 1)))
          (block_record owner here block kept (length records) ∷ [])
      access_made kept is room =
          put_made (log_over records) loaded fetched owner now (block_put owner text block) (new_block_file owner here block) kept
          (block_asked owner text here reads named block access fit small below) refl (no_first (look records) flat (ways here))
          (may_create_control (look records) refl plain here (control_path here access)) free (place_in_plot owner name block tree directory) is room

      -- or a refusal of its text
      pub access_refused : (refusal : Reply) → text_put owner fetched (new_block_file owner here block).entry ≡ std.Err refusal
          → IsAnswered (log_over records) loaded fetched owner (request.Put (block_put owner text block)) now (bounded refusal) []
      access_refused refusal is =
          put_unmade (log_over records) loaded fetched owner now (block_put owner text block) (new_block_file owner here block) refusal
          (block_asked owner text here reads named block access fit small below) refl (no_first (look records) flat (ways here))
          (may_create_control (look records) refl plain here (control_path here access)) free (place_in_plot owner name block tree directory) is
