-- The link that a reply tells to follow has neither blocks nor packdata.
use Rattle.std.proofs.Common.{◌≡◌, ℕ, ◌+◌, Bool, true, false, not, ◌&&◌, ◌||◌, List, [], ◌∷◌, ◌++◌, length, refl, sym, ◌∙◌, Option, Some, None, Result, Ok, Err, bytes_eq, unwrap_or}
use Rattle.std.specs.Prelude.{if◌then◌else◌, ℤ, pos, negsuc, zero, suc, int_le, nat_lt, ⊤, is_none, is_some, ◌==◌, filter}
use Rattle.std.specs.List.{list_any}
use Rattle.std.specs.Option.{option_map, option_or}
use Rattle.up_names.specs.PathNames.{PathName, control_of}
use Rattle.up_names.specs.declared.paths.Control.{Control}
use Rattle.up_names.specs.declared.paths.Control.TheVariants as control
use Rattle.up_names.specs.declared.fault.TextFault.{TextFault}
use Rattle.up_names.specs.declared.fault.TextFault.TheVariants as text_fault
use Rattle.up_rights.specs.declared.Right.{Right}
use Rattle.up_rights.specs.declared.Right.TheVariants as right
use Rattle.up_rights.specs.RightSets.{has_right}
use Rattle.up_access.specs.AccessTexts.{access_of}
use Rattle.up_group.specs.GroupTexts.{group_of}
use Rattle.up_entry.specs.ControlFiles.{is_control_file}
use Rattle.up_entry.specs.Rules.{is_directory}
use Rattle.up_entry.specs.Showing.{shown_as}
use Rattle.up_entry.specs.declared.entries.Block.{Block}
use Rattle.up_entry.specs.declared.entries.Entry.{Entry}
use Rattle.up_entry.specs.declared.fault.EntryFault.{EntryFault}
use Rattle.up_entry.specs.declared.fault.EntryFault.TheVariants as fault
use Rattle.up_entry.specs.declared.puts.Checked.{Checked}
use Rattle.up_entry.specs.declared.records.Rec.{Rec}
use Rattle.up_entry.specs.declared.records.Rec.TheVariants as rec
use Rattle.up_entry.specs.declared.what.What.TheVariants as what
use Rattle.up_policy.specs.Loadings.{Loading}
use Rattle.up_wire.specs.declared.replies.Done.TheVariants as done
use Rattle.up_wire.specs.declared.replies.Reply.{Reply}
use Rattle.up_wire.specs.declared.replies.Reply.TheVariants as reply
use Rattle.up_wire.specs.declared.requests.Request.{Request}
use Rattle.up_log_tree.specs.declared.node.Node.{Node}
use Rattle.up_log_tree.specs.Fits.{IsLog, root_of}
use Rattle.up_log_tree.specs.Trees.{Tree, children, is_file, kind_of, node_at, tree_of}
use Rattle.up_log_tree.specs.Snapshots.{snap_at}
use Rattle.up_log_tree.specs.Logs.{Log}
use Rattle.up_list.specs.declared.asking.ReadRequest.{ReadRequest}
use Rattle.up_list.specs.declared.asking.ReadRequest.TheVariants.{Lookup, WhichAccess, GroupText, Delete, Put, Glob, Watch}
use Rattle.up_list.specs.Asking.{asked_of, owner_asked}
use Rattle.up_list.specs.Changes.{◌>>=◌, refuse, right_to_put, unless}
use Rattle.up_list.specs.Checks.{at_link, check, first_link, lacking, link_at, ways, ways_before}
use Rattle.up_list.specs.Entries.{entry_at}
use Rattle.up_list.specs.Globs.{glob_reply, is_whole, literal_path, one_row, rows, rows_reply, whole_reply}
use Rattle.up_list.specs.Looks.{Look, has_some, look_now, rights, shown}
use Rattle.up_list.specs.Reads.{access_reply, entry_reply, file_text, group_text_reply, lookup_reply, text_reply}
use Rattle.up_pattern.specs.Patterns.{PatternName}
use Rattle.up_answers.specs.Answers.{asked_outcome, fault_reply, log_owner, outcome, tree_outcome}
use Rattle.up_answers.specs.Deletes.{delete_outcome}
use Rattle.up_answers.specs.Events.{events}
use Rattle.up_answers.specs.Fetching.{Fetched, fetch_for, good_bytes, is_failed, joined_bytes, parsed, parsed_as, text_put}
use Rattle.up_answers.specs.Puts.{holds, is_in_file, is_new, lacks_parent, place_refusal, put_outcome, sequence_refusal, wanted}
use Rattle.up_answers.specs.SnapshotReplies.{snapshot_delete, snapshot_outcome, snapshot_put, snapshot_record, takes_snapshot}
use Rattle.up_answers.specs.SnapshotTrees.{snapshot_look}
use Rattle.up_answers.specs.Watches.{batch, is_watched, watch_reply, watched}
use Rattle.up_log_tree.proofs.Paths.{some_none, some_same}
use Rattle.up_alone.proofs.LinkLemmas.{IsBare, ShowsBareLinks, snapshot_links, tree_links}

-- where the reply is to follow a link, that has neither blocks nor packdata
abbrev pub BareReply : Reply → Type 0
BareReply (reply.FollowLink e) = IsBare e
BareReply other = ⊤

abbrev BareRefusal : Option Reply → Type 0
BareRefusal None = ⊤
BareRefusal (Some given) = BareReply given

abbrev pub BareLed : {A : Type 0} → Result A Reply → Type 0
BareLed (Ok x) = ⊤
BareLed (Err given) = BareReply given

bind_bare : {A B : Type 0} (m : Result A Reply) (k : A → Result B Reply) → BareLed m → ((x : A) → BareLed (k x)) → BareLed (m >>= k)
bind_bare (Ok x) k h each = each x
bind_bare (Err given) k h each = h

refuse_bare : (b : Bool) (given : Reply) → BareReply given → BareLed (refuse b given)
refuse_bare true given h = h
refuse_bare false given h = tt

behind_bare : (o : Option Reply) (given : Reply) → BareRefusal o → BareReply given → BareReply (unwrap_or o given)
behind_bare None given h k = k
behind_bare (Some refusal) given h k = h

unless_bare : (o : Option Reply) → BareRefusal o → BareLed (unless o)
unless_bare None h = tt
unless_bare (Some refusal) h = h

-- a text by whether it is a control file's, and whether the fetch of a block failed
abbrev text_by : Bool → Bool → Result (List ℕ) Reply → Result (List ℕ) Reply
text_by is_control failed read = if not is_control then Ok [] else if failed then Err reply.Io else read

-- ---- checks

found_bare : (tree : Tree) (tested : List PathName) (link : Entry) → ShowsBareLinks tree → first_link tree tested ≡ Some link → (read : Bool) → IsBare (shown_as read link)
found_bare tree [] link links is read = absurd (some_none link (sym is))
found_bare tree (path ∷ paths) link links is read = go (link_at tree path) refl (λ later. found_bare tree paths link links later read) is
  where
    go : (o : Option Entry) → link_at tree path ≡ o → (first_link tree paths ≡ Some link → IsBare (shown_as read link)) → option_or o (first_link tree paths) ≡ Some link → IsBare (shown_as read link)
    go None there rest is = rest is
    go (Some other) there rest is = links path link (there ∙ is) read

module _ (look : Look) (links : ShowsBareLinks look.tree) where
  lacking_bare : (path : PathName) (needed : Option Right) → BareRefusal (lacking (rights look path) needed)
  unfolding lacking
  lacking_bare path None = go (has_some look path)
    where
      go : (b : Bool) → BareRefusal (if b then None else Some reply.Private)
      go true = tt
      go false = tt
  lacking_bare path (Some r) = go (has_some look path) (has_right (rights look path) r)
    where
      go : (a b : Bool) → BareRefusal (if not a then Some reply.Private else if not b then Some (reply.Permission r) else None)
      go false b = tt
      go true false = tt
      go true true = tt

  at_link_bare : (link : Entry) → ((read : Bool) → IsBare (shown_as read link)) → BareReply (at_link look link)
  at_link_bare link bare = go (has_some look link.name)
    where
      go : (b : Bool) → BareReply (if b then reply.FollowLink (shown look link) else reply.Private)
      go true = bare (rights look link.name).read
      go false = tt

  check_bare : (tested : List PathName) (path : PathName) (needed : Option Right) → BareRefusal (check look tested path needed)
  unfolding check
  check_bare tested path needed = go (first_link look.tree tested) refl
    where
      go : (o : Option Entry) → first_link look.tree tested ≡ o → BareRefusal (elim o as (λ _. Option Reply) [ Some link ↦ Some (at_link look link) | None ↦ lacking (rights look path) needed ])
      go None is = lacking_bare path needed
      go (Some link) is = at_link_bare link (found_bare look.tree tested link links is)

-- ---- reads

module _ (look : Look) (links : ShowsBareLinks look.tree) where
  lookup_bare : (path : PathName) → BareReply (lookup_reply look path)
  unfolding lookup_reply
  lookup_bare path = behind_bare (check look (ways path) path None) (entry_reply look (entry_at look.tree path)) (check_bare look links (ways path) path None) (go (entry_at look.tree path))
    where
      go : (o : Option Entry) → BareReply (entry_reply look o)
      go None = tt
      go (Some entry) = tt

  access_bare : (path : PathName) → BareReply (access_reply look path)
  unfolding access_reply
  access_bare path = behind_bare (check look (ways path) path None) _ (check_bare look links (ways path) path None) tt

  text_bare : (path : PathName) → BareReply (group_text_reply look path)
  unfolding group_text_reply
  text_bare path =
      let alone : Look = record look { loaded = [] } in
      behind_bare (check alone (ways path) path (Some right.Read)) (text_reply (file_text (node_at look.tree path))) (check_bare alone links (ways path) path (Some right.Read)) (go (file_text (node_at look.tree path)))
    where
      go : (o : Option (List ℕ)) → BareReply (text_reply o)
      go None = tt
      go (Some text) = tt

  glob_bare : (pattern : PatternName) → BareReply (glob_reply look pattern)
  unfolding glob_reply whole_reply
  glob_bare pattern = go (is_whole pattern)
    where
      one : (o : Option Entry) → BareReply (one_row look o)
      one None = tt
      one (Some entry) = tt

      many : (o : Option Entry) → BareReply (rows_reply look pattern o)
      many None = tt
      many (Some entry) = by (is_file entry.attr.kind)
        where
          by : (b : Bool) → BareReply (if b then reply.NotDir else reply.Ok (done.Rows (rows look pattern)))
          by true = tt
          by false = tt

      go : (b : Bool) → BareReply (if b then whole_reply look (literal_path pattern) else unwrap_or (check look (ways (literal_path pattern)) (literal_path pattern) (Some right.List)) (rows_reply look pattern (entry_at look.tree (literal_path pattern))))
      go true = behind_bare (check look (ways (literal_path pattern)) (literal_path pattern) None) (one_row look (entry_at look.tree (literal_path pattern))) (check_bare look links (ways (literal_path pattern)) (literal_path pattern) None) (one (entry_at look.tree (literal_path pattern)))
      go false = behind_bare (check look (ways (literal_path pattern)) (literal_path pattern) (Some right.List)) (rows_reply look pattern (entry_at look.tree (literal_path pattern))) (check_bare look links (ways (literal_path pattern)) (literal_path pattern) (Some right.List)) (many (entry_at look.tree (literal_path pattern)))

watch_bare : (log : Log) (loaded : Loading) (user : List ℕ) (path : PathName) (sequence : ℤ) → ShowsBareLinks (tree_of log.records) → BareReply (watch_reply log loaded user path sequence)
unfolding watch_reply watched batch
watch_bare log loaded user path sequence links = go (int_le (negsuc 1) sequence)
  where
    told : (sequence : ℤ) → BareReply (watched log loaded user path sequence)
    told (pos n) = by (nat_lt (length log.records) n)
      where
        by : (b : Bool) → BareReply (if b then reply.Invalid what.Sequence else batch (length log.records) (filter (is_watched n path) (events log loaded user)))
        by true = tt
        by false = tt
    told (negsuc zero) = tt
    told (negsuc (suc n)) = tt

    go : (b : Bool) → BareReply (if not b then reply.Invalid what.Sequence else unwrap_or (check (look_now log loaded user) (ways path) path None) (watched log loaded user path sequence))
    go false = tt
    go true = behind_bare (check (look_now log loaded user) (ways path) path None) (watched log loaded user path sequence) (check_bare (look_now log loaded user) links (ways path) path None) (told sequence)

-- ---- changes

sequence_bare : (found : Option Node) (sequence : ℤ) → BareLed (sequence_refusal found sequence)
sequence_bare None sequence = tt
sequence_bare (Some node) sequence = go (wanted sequence)
  where
    go : (o : Option ℕ) → BareLed (elim o as (λ _. Result ⊤ Reply) [ None ↦ Ok tt | Some n ↦ refuse (not (n == node.entry.sequence)) (reply.BadSequence node.entry.sequence) ])
    go None = tt
    go (Some n) = refuse_bare (not (n == node.entry.sequence)) (reply.BadSequence node.entry.sequence) tt

place_bare : (found : Option Node) (tree : Tree) (put : Checked) → BareLed (place_refusal found tree put)
unfolding place_refusal
place_bare found tree put =
    bind_bare (refuse (lacks_parent tree put.entry.name || (is_some (wanted put.sequence) && is_none found)) reply.NotExist) _ (refuse_bare _ reply.NotExist tt) (λ _.
    bind_bare (refuse (is_in_file tree put.entry.name) reply.NotDir) _ (refuse_bare _ reply.NotDir tt) (λ _.
    bind_bare (refuse (holds found (λ node. is_directory (kind_of node)) && not (is_directory put.entry.attr.kind)) reply.IsDir) _ (refuse_bare _ reply.IsDir tt) (λ _.
    bind_bare (refuse (is_some found && (is_new put.sequence || is_directory put.entry.attr.kind)) reply.Exist) (λ _. sequence_refusal found put.sequence) (refuse_bare _ reply.Exist tt) (λ _. sequence_bare found put.sequence))))

joined_bare : (fetched : Fetched) (blocks : List Block) → BareLed (joined_bytes fetched blocks)
joined_bare fetched [] = tt
joined_bare fetched (block ∷ blocks) = go (good_bytes block (fetch_for fetched block)) (joined_bare fetched blocks)
  where
    go : (o : Option (List ℕ)) → BareLed (joined_bytes fetched blocks) → BareLed (elim o as (λ _. Result (List ℕ) Reply) [ None ↦ Err (reply.BadBlock block.location.reference) | Some bytes ↦ joined_bytes fetched blocks >>= λ more. Ok (bytes ++ more) ])
    go None rest = tt
    go (Some bytes) rest = bind_bare (joined_bytes fetched blocks) (λ more. Ok (bytes ++ more)) rest (λ _. tt)

parse_bare : {X : Type 0} (text : List ℕ) (said : Result X TextFault) → BareLed (parsed text said)
parse_bare text (Ok x) = tt
parse_bare text (Err (text_fault.BadText line)) = tt
parse_bare text (Err text_fault.OutOfMemory) = tt

parsed_bare : (owner : List ℕ) (c : Control) (text : List ℕ) → BareLed (parsed_as owner c text)
parsed_bare owner control.Access text = parse_bare text (access_of owner text)
parsed_bare owner control.Group text = parse_bare text (group_of owner text)
parsed_bare owner control.Ordinary text = tt

put_text_bare : (owner : List ℕ) (fetched : Fetched) (entry : Entry) → BareLed (text_put owner fetched entry)
unfolding text_put
put_text_bare owner fetched entry = go (is_control_file entry.attr.kind entry.name) (list_any (λ block. is_failed (fetch_for fetched block)) entry.blocks)
  where
    go : (b f : Bool) → BareLed (text_by b f (joined_bytes fetched entry.blocks >>= parsed_as owner (control_of entry.name)))
    go false f = tt
    go true true = tt
    go true false = bind_bare (joined_bytes fetched entry.blocks) (parsed_as owner (control_of entry.name)) (joined_bare fetched entry.blocks) (parsed_bare owner (control_of entry.name))

module _ (look : Look) (links : ShowsBareLinks look.tree) where
  delete_bare : (path : PathName) → BareLed (delete_outcome look path)
  unfolding delete_outcome
  delete_bare path =
      bind_bare (unless (check look (ways_before path) path (Some right.Delete))) _ (unless_bare _ (check_bare look links (ways_before path) path (Some right.Delete))) (λ _.
      bind_bare (refuse (is_none (node_at look.tree path)) reply.NotExist) _ (refuse_bare (is_none (node_at look.tree path)) reply.NotExist tt) (λ _.
      bind_bare (refuse (not (length (children look.tree path) == 0)) reply.NotEmpty) (λ _. Ok (rec.Delete path)) (refuse_bare (not (length (children look.tree path) == 0)) reply.NotEmpty tt) (λ _. tt)))

  put_bare : (n : ℕ) (fetched : Fetched) (put : Checked) → BareLed (put_outcome look n fetched put)
  unfolding put_outcome
  put_bare n fetched put =
      let found = node_at look.tree put.entry.name in
      bind_bare (unless (check look (ways put.entry.name) put.entry.name (Some (right_to_put found)))) _ (unless_bare _ (check_bare look links (ways put.entry.name) put.entry.name (Some (right_to_put found)))) (λ _.
      bind_bare (place_refusal found look.tree put) _ (place_bare found look.tree put) (λ _.
      bind_bare (text_put look.owner fetched put.entry) (λ text. Ok (rec.Put (record (put.entry) { sequence = n + 1 }) text)) (put_text_bare look.owner fetched put.entry) (λ _. tt)))

  -- ---- snapshot trees

  snapshot_put_bare : (log : Log) (entry : Entry) (now : ℕ) → BareLed (snapshot_put log look entry now)
  unfolding snapshot_put snapshot_record
  snapshot_put_bare log entry now =
      bind_bare (unless (check look (ways entry.name) entry.name None)) _ (unless_bare _ (check_bare look links (ways entry.name) entry.name None)) (λ _. go (takes_snapshot log entry))
    where
      go : (b : Bool) → BareLed (if b then snapshot_record log now else Err (reply.Permission (right_to_put (node_at look.tree entry.name))))
      go true =
          bind_bare (refuse (is_none (node_at (tree_of log.records) (root_of log.owner))) reply.NotExist) _ (refuse_bare _ reply.NotExist tt) (λ _.
          bind_bare (refuse (is_some (snap_at log.records now)) reply.Exist) (λ _. Ok (rec.Snap now)) (refuse_bare _ reply.Exist tt) (λ _. tt))
      go false = tt

module _ (log : Log) (user : List ℕ) (now : ℕ) (is : IsLog log.owner log.records) where
  snapshot_bare : (asked : ReadRequest) → BareLed (snapshot_outcome log user asked now)
  unfolding snapshot_outcome snapshot_delete
  snapshot_bare (Lookup path) = lookup_bare (snapshot_look log user) (snapshot_links log is) path
  snapshot_bare (WhichAccess path) = access_bare (snapshot_look log user) (snapshot_links log is) path
  snapshot_bare (GroupText path) = text_bare (snapshot_look log user) (snapshot_links log is) path
  snapshot_bare (Glob pattern) = glob_bare (snapshot_look log user) (snapshot_links log is) pattern
  snapshot_bare (Watch path sequence) = tt
  snapshot_bare (Delete path) = behind_bare (check (snapshot_look log user) (ways_before path) path None) (reply.Permission right.Delete) (check_bare (snapshot_look log user) (snapshot_links log is) (ways_before path) path None) tt
  snapshot_bare (Put put) = snapshot_put_bare (snapshot_look log user) (snapshot_links log is) log put.entry now

  -- ---- all requests

  module _ (loaded : Loading) (fetched : Fetched) where
    tree_bare : (asked : ReadRequest) → BareLed (tree_outcome log loaded fetched user asked)
    unfolding tree_outcome
    tree_bare (Lookup path) = lookup_bare (look_now log loaded user) (tree_links log is) path
    tree_bare (WhichAccess path) = access_bare (look_now log loaded user) (tree_links log is) path
    tree_bare (GroupText path) = text_bare (look_now log loaded user) (tree_links log is) path
    tree_bare (Glob pattern) = glob_bare (look_now log loaded user) (tree_links log is) pattern
    tree_bare (Watch path sequence) = watch_bare log loaded user path sequence (tree_links log is)
    tree_bare (Delete path) = delete_bare (look_now log loaded user) (tree_links log is) path
    tree_bare (Put put) = put_bare (look_now log loaded user) (tree_links log is) (length log.records) fetched put

    asked_bare : (asked : ReadRequest) → BareLed (asked_outcome log loaded fetched user asked now)
    unfolding asked_outcome
    asked_bare asked = go (bytes_eq (owner_asked asked) log.owner) (bytes_eq (log_owner (owner_asked asked)) log.owner)
      where
        go : (a b : Bool) → BareLed (if a then tree_outcome log loaded fetched user asked else if b then snapshot_outcome log user asked now else Err reply.WrongHost)
        go true b = tree_bare asked
        go false true = snapshot_bare asked
        go false false = tt

    pub outcome_bare : (request : Request) → BareLed (outcome log loaded fetched user request now)
    unfolding outcome
    outcome_bare request = go (asked_of user request)
      where
        why_bare : (why : EntryFault) → BareReply (fault_reply why)
        why_bare (fault.Invalid w) = tt
        why_bare fault.OutOfMemory = tt

        go : (o : Result ReadRequest EntryFault) → BareLed (elim o as (λ _. Result Rec Reply) [ Ok asked ↦ asked_outcome log loaded fetched user asked now | Err why ↦ Err (fault_reply why) ])
        go (Ok asked) = asked_bare asked
        go (Err why) = why_bare why
