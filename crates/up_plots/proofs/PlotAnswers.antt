-- What a user's requests on a directory whose Access file gives all to that user are answered over a tree's log.
use Rattle.std.proofs.Common.{◌≡◌, ℕ, ◌+◌, Bool, true, false, not, ◌||◌, List, [], ◌∷◌, length, refl, ap, ◌∙◌, Option, Some, None, bytes_eq}
use Rattle.std.specs.Prelude.{if◌then◌else◌, ◌==◌, ⊤, Result, is_none}
use Rattle.std.specs.Prelude as std
use Rattle.std.specs.Option.{option_map}
use Rattle.std.proofs.lemmas.Slice.Eq.{bytes_eq-Decides}
use Rattle.up_answers.specs.Answers.{added, answer, asked_outcome, fault_reply, log_owner, outcome, tree_outcome}
use Rattle.up_answers.specs.Fetching.{Fetched}
use Rattle.up_answers.specs.SnapshotReplies.{snapshot_outcome}
use Rattle.up_entry.specs.Attrs.{attr_of}
use Rattle.up_entry.specs.Checking.{◌>>=◌, checked_as, checked_of, content_rules, kind_of, link_or, path_or, rule, signed_name_of, user_or, writer_of}
use Rattle.up_entry.specs.ControlFiles.{is_ordinary}
use Rattle.up_entry.specs.declared.entries.Kind.{Kind}
use Rattle.up_entry.specs.declared.entries.Kind.TheVariants.{File}
use Rattle.up_entry.specs.declared.fault.EntryFault.{EntryFault}
use Rattle.up_entry.specs.declared.fault.EntryFault.TheVariants as fault
use Rattle.up_entry.specs.declared.puts.Checked.{Checked}
use Rattle.up_entry.specs.declared.puts.PutEntry.{PutEntry}
use Rattle.up_entry.specs.Rules.{is_directory}
use Rattle.up_entry.specs.declared.records.Rec.{Rec}
use Rattle.up_entry.specs.declared.records.Rec.TheVariants as rec
use Rattle.up_entry.specs.declared.what.What.{What}
use Rattle.up_entry.specs.declared.what.What.TheVariants as what
use Rattle.up_list.specs.Asking.{asked_of, owner_asked, pattern_fault}
use Rattle.up_answers.specs.Puts.{holds}
use Rattle.up_list.specs.Changes.{added_by, answer_of, is_full}
use Rattle.up_list.specs.Entries.{entry_of}
use Rattle.up_list.specs.Globs.{is_whole, literal_path, rows}
use Rattle.up_list.specs.Looks.{Look, look_now, rights, shown}
use Rattle.up_list.specs.Reads.{entry_reply, lookup_reply}
use Rattle.up_list.specs.declared.asking.ReadRequest.{ReadRequest}
use Rattle.up_list.specs.declared.asking.ReadRequest.TheVariants as asks
use Rattle.up_log_tree.proofs.Paths.{path_eq_itself}
use Rattle.up_log_tree.specs.Logs.{Log}
use Rattle.up_log_tree.specs.Rights.{access_node}
use Rattle.up_log_tree.specs.Sizes.{size_of}
use Rattle.up_log_tree.specs.Trees.{Tree, kind_of as kind_in, node_at, tree_of}
use Rattle.up_log_tree.specs.declared.node.Node.{Node}
use Rattle.up_names.specs.PathNames.{PathName, control_of, path_of}
use Rattle.up_names.specs.PathOrder.{path_eq}
use Rattle.up_names.specs.Texts.{Text, UserName}
use Rattle.up_names.specs.UserNames.{user_of}
use Rattle.up_names.specs.declared.fault.NameFault.{NameFault}
use Rattle.up_names.specs.declared.paths.Control.{Control}
use Rattle.up_names.specs.declared.paths.Control.TheVariants as control
use Rattle.up_pattern.specs.Patterns.{PatternName, pattern_of}
use Rattle.up_pattern.specs.declared.fault.PatternFault.{PatternFault}
use Rattle.up_plots.specs.Asks.{file_put, new_file}
use Rattle.up_plots.proofs.PlotReplies.{delete_is, glob_is, hidden, lookup_is, no_children, put_is}
use Rattle.up_plots.proofs.PlotRights.{file_governed, no_access_rights, other_rights, own_rights, plot_governed}
use Rattle.up_plots.specs.Answered.{HasRoom, IsAnswered}
use Rattle.up_plots.specs.Plots.{HasPlot, IsFlat, file_path, plot_path}
use Rattle.up_policy.specs.Loadings.{Loading}
use Rattle.up_policy.specs.Trees.{owns_snapshots}
use Rattle.up_policy.specs.Verdicts.{is_control}
use Rattle.up_rights.specs.RightSets.{all_rights, no_rights}
use Rattle.up_wire.specs.Bounds.{bounded}
use Rattle.up_wire.specs.declared.replies.Done.TheVariants as done
use Rattle.up_wire.specs.declared.replies.Reply.{Reply}
use Rattle.up_wire.specs.declared.replies.Reply.TheVariants as reply
use Rattle.up_wire.specs.declared.requests.Request.{Request}
use Rattle.up_wire.specs.declared.requests.Request.TheVariants as request

-- ---- what is asked

-- a text that names a path is read as it, whatever it stands for
pub read_as : (w : What) (text : Text) (path : PathName) → path_of text ≡ std.Ok path → path_or w text ≡ std.Ok path
read_as w text path h = ap (λ (r : Result PathName NameFault). elim r as (λ _. Result PathName EntryFault) [ std.Ok p ↦ std.Ok p | std.Err e ↦ std.Err (fault.Invalid w) ]) h

-- a text that names a user is read as that user
pub user_as : (w : What) (text : Text) (user : UserName) → user_of text ≡ std.Ok user → user_or w text ≡ std.Ok user
user_as w text user h = ap (λ (r : Result UserName NameFault). elim r as (λ _. Result UserName EntryFault) [ std.Ok u ↦ std.Ok u | std.Err e ↦ std.Err (fault.Invalid w) ]) h

-- a Lookup of a text that names a path asks of that path
pub lookup_asked : (user : UserName) (text : Text) (path : PathName) → path_of text ≡ std.Ok path → asked_of user (request.Lookup text) ≡ std.Ok (asks.Lookup path)
unfolding asked_of
lookup_asked user text path h = ap (λ (r : Result PathName EntryFault). r >>= λ p. std.Ok (asks.Lookup p)) (read_as what.Name text path h)

-- and so does a Delete
pub delete_asked : (user : UserName) (text : Text) (path : PathName) → path_of text ≡ std.Ok path → asked_of user (request.Delete text) ≡ std.Ok (asks.Delete path)
unfolding asked_of
delete_asked user text path h = ap (λ (r : Result PathName EntryFault). r >>= λ p. std.Ok (asks.Delete p)) (read_as what.Name text path h)

-- a Glob of a text that is a pattern asks for that pattern
pub glob_asked : (user : UserName) (text : Text) (pattern : PatternName) → pattern_of text ≡ std.Ok pattern → asked_of user (request.Glob text) ≡ std.Ok (asks.Glob pattern)
unfolding asked_of
glob_asked user text pattern h =
    ap (λ (r : Result PatternName PatternFault). (elim r as (λ _. Result PatternName EntryFault) [ std.Ok p ↦ std.Ok p | std.Err why ↦ std.Err (pattern_fault why) ]) >>= λ p. std.Ok (asks.Glob p)) h

module _ (user : UserName) (owner : UserName) (name file : Text) (text : Text) (reads : path_of text ≡ std.Ok (file_path owner name file))
    (named : user_of user ≡ std.Ok user) (ordinary : control_of (file_path owner name file) ≡ control.Ordinary) where
  -- the empty file that the user puts
  abbrev put : PutEntry
  put = file_put user text

  -- the path at which it is put
  abbrev here : PathName
  here = file_path owner name file

  -- its signed name is its path
  signed_is : signed_name_of put here ≡ std.Ok here
  unfolding signed_name_of
  signed_is =
      ap (λ (r : Result PathName EntryFault). r >>= λ s. rule what.SignedName (path_eq s here) >>= λ same. std.Ok s) (read_as what.SignedName text here reads)
      ∙ ap (λ (b : Bool). rule what.SignedName b >>= λ same. std.Ok here) (path_eq_itself here)

  -- its writer is the user
  writer_is : writer_of put user ≡ std.Ok user
  unfolding writer_of
  writer_is =
      ap (λ (r : Result UserName EntryFault). r >>= λ w. rule what.Writer (bytes_eq w user) >>= λ own. std.Ok w) (user_as what.Writer user user named)
      ∙ ap (λ (b : Bool). rule what.Writer b >>= λ own. std.Ok user) ((bytes_eq-Decides user user).1 refl)

  -- the kind that its packing allows, by which control file its path is of
  abbrev packs : Control → Result Kind EntryFault
  packs c = rule what.Packing (if not (is_ordinary c) then 1 == 1 else not (1 == 0)) >>= λ packed. std.Ok File

  -- it is a file
  kind_is : kind_of put here ≡ std.Ok File
  unfolding kind_of attr_of
  kind_is = ap packs ordinary

  -- the rule of its size, by which control file its path is of
  abbrev sizes : Control → Result ⊤ EntryFault
  sizes c = rule what.ControlSize (not (not (is_ordinary c)) || true) >>= λ size. std.Ok tt

  -- its content breaks no rule
  content_is : content_rules put File here ≡ std.Ok tt
  unfolding content_rules
  content_is = ap sizes ordinary

  -- so it breaks no rule of an entry
  put_checked : checked_as put user ≡ std.Ok (new_file user here)
  unfolding checked_as
  put_checked =
      ap (λ (r : Result PathName EntryFault). r >>= λ n. signed_name_of put n >>= λ s. writer_of put user >>= λ w. kind_of put n >>= λ k.
      link_or k [] >>= λ l. content_rules put k n >>= λ c. std.Ok (checked_of put n s w k l)) (read_as what.Name text here reads)
      ∙ ap (λ (r : Result PathName EntryFault). r >>= λ s. writer_of put user >>= λ w. kind_of put here >>= λ k.
      link_or k [] >>= λ l. content_rules put k here >>= λ c. std.Ok (checked_of put here s w k l)) signed_is
      ∙ ap (λ (r : Result UserName EntryFault). r >>= λ w. kind_of put here >>= λ k.
      link_or k [] >>= λ l. content_rules put k here >>= λ c. std.Ok (checked_of put here here w k l)) writer_is
      ∙ ap (λ (r : Result Kind EntryFault). r >>= λ k. link_or k [] >>= λ l. content_rules put k here >>= λ c. std.Ok (checked_of put here here user k l)) kind_is
      ∙ ap (λ (r : Result ⊤ EntryFault). r >>= λ c. std.Ok (checked_of put here here user File None)) content_is

  -- and its Put asks for the file at its path
  pub put_asked : asked_of user (request.Put put) ≡ std.Ok (asks.Put (new_file user here))
  unfolding asked_of
  put_asked = ap (λ (r : Result Checked EntryFault). r >>= λ checked. std.Ok (asks.Put checked)) put_checked

-- ---- what is answered

module _ (log : Log) (loaded : Loading) (fetched : Fetched) (user : UserName) (now : ℕ) where
  -- what a request leads to is what it asks of its own tree
  pub led_by : (request' : Request) (asked : ReadRequest) → asked_of user request' ≡ std.Ok asked → owner_asked asked ≡ log.owner
      → outcome log loaded fetched user request' now ≡ tree_outcome log loaded fetched user asked
  unfolding outcome asked_outcome
  led_by request' asked h own =
      ap (λ (r : Result ReadRequest EntryFault). elim r as (λ _. Result Rec Reply) [ std.Ok a ↦ asked_outcome log loaded fetched user a now | std.Err e ↦ std.Err (fault_reply e) ]) h
      ∙ ap (λ (b : Bool). if b then tree_outcome log loaded fetched user asked
      else if bytes_eq (log_owner (owner_asked asked)) log.owner then snapshot_outcome log user asked now else std.Err reply.WrongHost) ((bytes_eq-Decides (owner_asked asked) log.owner).1 own)

  -- a reply that adds nothing
  pub said_is : (request' : Request) (said : Reply) → outcome log loaded fetched user request' now ≡ std.Err said → IsAnswered log loaded fetched user request' now (bounded said) []
  unfolding answer added answer_of added_by
  said_is request' said h = record { reply = ap (λ (r : Result Rec Reply). answer_of log r) h; added = ap (λ (r : Result Rec Reply). added_by log r) h }

  -- a record that is added
  pub changed_is : (request' : Request) (rec : Rec) → outcome log loaded fetched user request' now ≡ std.Ok rec → HasRoom log rec
      → IsAnswered log loaded fetched user request' now (reply.Ok (done.Changed (length log.records + 1))) (rec ∷ [])
  unfolding answer added answer_of added_by
  changed_is request' rec h room = record {
    reply = ap (λ (r : Result Rec Reply). answer_of log r) h
        ∙ ap (λ (b : Bool). if b then reply.TooLarge (size_of rec) else if is_full log (size_of rec) then reply.Full (length log.records) else reply.Ok (done.Changed (length log.records + 1))) room.small
        ∙ ap (λ (b : Bool). if b then reply.Full (length log.records) else reply.Ok (done.Changed (length log.records + 1))) room.room;
    added = ap (λ (r : Result Rec Reply). added_by log r) h
        ∙ ap (λ (b : Bool). if b || is_full log (size_of rec) then [] else rec ∷ []) room.small
        ∙ ap (λ (b : Bool). if b then [] else rec ∷ []) room.room;
  }

-- an ordinary path is none of a control file
pub ordinary_path : (path : PathName) → control_of path ≡ control.Ordinary → is_control path ≡ false
ordinary_path path h = ap (λ (c : Control). elim c as (λ _. Bool) [ control.Ordinary ↦ false | control.Access ↦ true | control.Group ↦ true ]) h

module _ (log : Log) (loaded : Loading) (fetched : Fetched) (user : UserName) (now : ℕ) (flat : IsFlat log.owner (tree_of log.records))
    (stranger : bytes_eq user log.owner ≡ false) (plain : owns_snapshots log.owner ≡ false) (name : Text) where
  -- the tree of the log
  abbrev tree : Tree
  tree = tree_of log.records

  -- and as the user meets it
  abbrev look : Look
  look = look_now log loaded user

  -- what a request is answered
  abbrev Gives : Request → Reply → List Rec → Type 0
  Gives request' said records = IsAnswered log loaded fetched user request' now said records

  module _ (file : Text) (ordinary : control_of (file_path log.owner name file) ≡ control.Ordinary) (text : Text) (reads : path_of text ≡ std.Ok (file_path log.owner name file)) where
    -- the path of the file
    abbrev path : PathName
    path = file_path log.owner name file

    -- a Lookup of it leads to the reply to that
    looked : outcome log loaded fetched user (request.Lookup text) now ≡ std.Err (lookup_reply look path)
    unfolding tree_outcome
    looked = led_by log loaded fetched user now (request.Lookup text) (asks.Lookup path) (lookup_asked user text path reads) refl

    -- in a directory of another user's, or in none, nothing is told
    pub hidden_from : rights look path ≡ no_rights → Gives (request.Lookup text) reply.Private []
    hidden_from held = said_is log loaded fetched user now (request.Lookup text) reply.Private (looked ∙ ap (λ (r : Reply). std.Err r) (hidden look flat path held))

    -- in a directory of another user, nothing is told
    pub elsewhere : (other : UserName) → HasPlot log.owner tree name other → bytes_eq other user ≡ false → Gives (request.Lookup text) reply.Private []
    elsewhere other plot apart =
        hidden_from (other_rights look stranger plain flat name path (ordinary_path path ordinary) (file_governed log.owner tree flat plain name file) other plot apart)

    -- in a directory without an Access file, nothing is told
    pub nowhere : access_node tree (plot_path log.owner name) ≡ None → Gives (request.Lookup text) reply.Private []
    nowhere none = hidden_from (no_access_rights look stranger plain flat name path (ordinary_path path ordinary) (file_governed log.owner tree flat plain name file) none)

    module _ (plot : HasPlot log.owner tree name user) where
      -- in the own directory the user has all rights
      held_there : rights look path ≡ all_rights
      held_there = own_rights look stranger plain flat name path (ordinary_path path ordinary) (file_governed log.owner tree flat plain name file) plot

      -- there a Lookup of what stands gives its entry
      pub found : (node : Node) → node_at tree path ≡ Some node → Gives (request.Lookup text) (bounded (reply.Ok (done.Entry (shown look node.entry)))) []
      found node is =
          said_is log loaded fetched user now (request.Lookup text) (reply.Ok (done.Entry (shown look node.entry)))
          (looked ∙ ap (λ (r : Reply). std.Err r) (lookup_is look flat path held_there ∙ ap (λ (o : Option Node). entry_reply look (option_map entry_of o)) is))

      -- and of what does not stand, NotExist
      pub missing : node_at tree path ≡ None → Gives (request.Lookup text) reply.NotExist []
      missing is =
          said_is log loaded fetched user now (request.Lookup text) reply.NotExist
          (looked ∙ ap (λ (r : Reply). std.Err r) (lookup_is look flat path held_there ∙ ap (λ (o : Option Node). entry_reply look (option_map entry_of o)) is))

      -- what a Delete leads to, by whether nothing stands there
      abbrev deleting : Bool → Result Rec Reply
      deleting b = if b then std.Err reply.NotExist else std.Ok (rec.Delete path)

      -- a Delete leads to that
      deleted : outcome log loaded fetched user (request.Delete text) now ≡ deleting (is_none (node_at tree path))
      unfolding tree_outcome
      deleted =
          led_by log loaded fetched user now (request.Delete text) (asks.Delete path) (delete_asked user text path reads) refl
          ∙ delete_is look flat path held_there (no_children look flat log.owner name file)

      -- a Delete of what stands is answered by the position of its record
      pub taken_out : (node : Node) → node_at tree path ≡ Some node → HasRoom log (rec.Delete path)
          → Gives (request.Delete text) (reply.Ok (done.Changed (length log.records + 1))) (rec.Delete path ∷ [])
      taken_out node is room =
          changed_is log loaded fetched user now (request.Delete text) (rec.Delete path)
          (deleted ∙ ap (λ (o : Option Node). deleting (is_none o)) is) room

      -- and of what does not stand, NotExist
      pub not_there : node_at tree path ≡ None → Gives (request.Delete text) reply.NotExist []
      not_there is =
          said_is log loaded fetched user now (request.Delete text) reply.NotExist
          (deleted ∙ ap (λ (o : Option Node). deleting (is_none o)) is)

      -- the record of the file that is put
      abbrev put_record : Rec
      put_record = rec.Put (record ((new_file user path).entry) { sequence = length log.records + 1 }) []

      -- a Put of an empty file, where no directory stands, is answered by the position of its record
      pub put_in : user_of user ≡ std.Ok user → holds (node_at tree path) (λ (node : Node). is_directory (kind_in node)) ≡ false → HasRoom log put_record
          → Gives (request.Put (file_put user text)) (reply.Ok (done.Changed (length log.records + 1))) (put_record ∷ [])
      unfolding tree_outcome
      put_in named over room =
          changed_is log loaded fetched user now (request.Put (file_put user text)) put_record
          (led_by log loaded fetched user now (request.Put (file_put user text)) (asks.Put (new_file user path)) (put_asked user log.owner name file text reads named ordinary) refl
          ∙ put_is look flat log.owner user name file plot.directory ordinary (length log.records) fetched held_there over) room

  -- all that stands in the user's own directory
  pub listed : (plot : HasPlot log.owner tree name user) (text : Text) (pattern : PatternName) → pattern_of text ≡ std.Ok pattern → pattern.owner ≡ log.owner → literal_path pattern ≡ plot_path log.owner name
      → is_whole pattern ≡ false → control_of (plot_path log.owner name) ≡ control.Ordinary → Gives (request.Glob text) (bounded (reply.Ok (done.Rows (rows look pattern)))) []
  unfolding tree_outcome
  listed plot text pattern reads own literal mixed ordinary =
      let held = own_rights look stranger plain flat name (plot_path log.owner name) (ordinary_path (plot_path log.owner name) ordinary) (plot_governed log.owner tree flat plain name) plot in
      said_is log loaded fetched user now (request.Glob text) (reply.Ok (done.Rows (rows look pattern)))
      (led_by log loaded fetched user now (request.Glob text) (asks.Glob pattern) (glob_asked user text pattern reads) own
      ∙ ap (λ (r : Reply). std.Err r) (glob_is look flat pattern log.owner name literal mixed plot.directory held))
