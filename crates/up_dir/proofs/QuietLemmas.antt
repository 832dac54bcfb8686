-- No reply of what only looks is a position; no request leads to one, and where no fetch of a block failed, none leads to Io.
use Rattle.std.proofs.Common.{◌≡◌, ℕ, ◌+◌, Bool, true, false, not, ◌&&◌, ◌||◌, List, [], ◌∷◌, ◌++◌, length, refl, Option, Some, None, Result, Ok, Err, bytes_eq, unwrap_or}
use Rattle.std.specs.Prelude.{if◌then◌else◌, ℤ, pos, negsuc, zero, suc, int_le, nat_lt, ⊤, is_none, is_some, ◌==◌, filter}
use Rattle.std.specs.List.{list_any}
use Rattle.std.specs.Str.{bytes_eq}
use Rattle.up_names.specs.PathNames.{PathName, control_of}
use Rattle.up_names.specs.declared.paths.Control.{Control}
use Rattle.up_names.specs.declared.paths.Control.TheVariants as control
use Rattle.up_names.specs.declared.fault.TextFault.{TextFault}
use Rattle.up_names.specs.declared.fault.TextFault.TheVariants as text_fault
use Rattle.up_rights.specs.declared.Right.{Right}
use Rattle.up_rights.specs.declared.Right.TheVariants as right
use Rattle.up_rights.specs.RightSets.{has_right}
use Rattle.up_access.specs.AccessTexts.{access_of}
use Rattle.up_group.specs.GroupTexts.{group_of}
use Rattle.up_entry.specs.ControlFiles.{is_control_file}
use Rattle.up_entry.specs.Rules.{is_directory}
use Rattle.up_entry.specs.declared.entries.Block.{Block}
use Rattle.up_entry.specs.declared.entries.Entry.{Entry}
use Rattle.up_entry.specs.declared.puts.Checked.{Checked}
use Rattle.up_entry.specs.declared.records.Rec.TheVariants as rec
use Rattle.up_entry.specs.declared.what.What.TheVariants as what
use Rattle.up_policy.specs.Loadings.{Loading}
use Rattle.up_wire.specs.Bounds.{bounded, reply_size}
use Rattle.up_wire.specs.declared.replies.Done.TheVariants as done
use Rattle.up_wire.specs.declared.replies.Reply.{Reply}
use Rattle.up_wire.specs.declared.replies.Reply.TheVariants as reply
use Rattle.up_log_tree.specs.declared.node.Node.{Node}
use Rattle.up_log_tree.specs.Trees.{children, is_file, kind_of, node_at, tree_of}
use Rattle.up_log_tree.specs.Fits.{root_of}
use Rattle.up_log_tree.specs.Snapshots.{snap_at}
use Rattle.up_log_tree.specs.Logs.{Log}
use Rattle.up_list.specs.declared.asking.ReadRequest.{ReadRequest}
use Rattle.up_list.specs.declared.asking.ReadRequest.TheVariants.{Lookup, WhichAccess, GroupText, Delete, Put, Glob, Watch}
use Rattle.up_list.specs.Asking.{owner_asked}
use Rattle.up_list.specs.Changes.{◌>>=◌, refuse, right_to_put, unless}
use Rattle.up_list.specs.Checks.{at_link, check, first_link, lacking, ways, ways_before}
use Rattle.up_list.specs.Entries.{entry_at}
use Rattle.up_list.specs.Globs.{glob_reply, is_whole, literal_path, one_row, rows, rows_reply, whole_reply}
use Rattle.up_list.specs.Looks.{Look, has_some, look_now, rights, shown}
use Rattle.up_list.specs.Reads.{access_reply, entry_reply, file_text, group_text_reply, lookup_reply, text_reply}
use Rattle.up_pattern.specs.Patterns.{PatternName}
use Rattle.up_answers.specs.Answers.{asked_outcome, log_owner, tree_outcome}
use Rattle.up_answers.specs.Deletes.{delete_outcome}
use Rattle.up_answers.specs.Events.{events}
use Rattle.up_answers.specs.Fetching.{Fetched, fetch_for, good_bytes, is_failed, joined_bytes, parsed, parsed_as, text_put}
use Rattle.up_answers.specs.Puts.{holds, is_in_file, is_new, lacks_parent, place_refusal, put_outcome, sequence_refusal, wanted}
use Rattle.up_answers.specs.SnapshotReplies.{snapshot_delete, snapshot_outcome, snapshot_put, snapshot_record, takes_snapshot}
use Rattle.up_answers.specs.SnapshotTrees.{snapshot_look}
use Rattle.up_answers.specs.Watches.{batch, is_watched, watch_reply, watched}
use Rattle.up_commit.specs.Steps.{is_changed, is_position}

-- the reply is a position, or, where that counts, Io
abbrev pub is_odd : Bool → Reply → Bool
is_odd io reply.Io = io
is_odd io (reply.Ok what) = is_position what
is_odd io other = false

-- a request leads to such a reply
abbrev pub leads_odd : {A : Type 0} → Bool → Result A Reply → Bool
leads_odd io (Ok x) = false
leads_odd io (Err given) = is_odd io given

-- a text by whether it is a control file's, and whether the fetch of a block failed
abbrev pub text_by : Bool → Bool → Result (List ℕ) Reply → Result (List ℕ) Reply
text_by is_control failed read = if not is_control then Ok [] else if failed then Err reply.Io else read

module _ (io : Bool) where
  bind_quiet : {A B : Type 0} (m : Result A Reply) (k : A → Result B Reply) → leads_odd io m ≡ false → ((x : A) → leads_odd io (k x) ≡ false) → leads_odd io (m >>= k) ≡ false
  bind_quiet (Ok x) k h each = each x
  bind_quiet (Err given) k h each = h

  refuse_quiet : (b : Bool) (given : Reply) → is_odd io given ≡ false → leads_odd io (refuse b given) ≡ false
  refuse_quiet true given h = h
  refuse_quiet false given h = refl

  -- ---- checks

  link_quiet : (look : Look) (link : Entry) → is_odd io (at_link look link) ≡ false
  link_quiet look link = go (has_some look link.name)
    where
      go : (b : Bool) → is_odd io (if b then reply.FollowLink (shown look link) else reply.Private) ≡ false
      go true = refl
      go false = refl

  -- a refusal, where there is one, is no such reply
  abbrev IsQuiet : Option Reply → Type 0
  IsQuiet None = Unit {0}
  IsQuiet (Some given) = is_odd io given ≡ false

  lacking_quiet : (look : Look) (path : PathName) (needed : Option Right) → IsQuiet (lacking (rights look path) needed)
  unfolding lacking
  lacking_quiet look path None = go (has_some look path)
    where
      go : (b : Bool) → IsQuiet (if b then None else Some reply.Private)
      go true = tt
      go false = refl
  lacking_quiet look path (Some r) = go (has_some look path) (has_right (rights look path) r)
    where
      go : (a b : Bool) → IsQuiet (if not a then Some reply.Private else if not b then Some (reply.Permission r) else None)
      go false b = refl
      go true false = refl
      go true true = tt

  check_quiet : (look : Look) (tested : List PathName) (path : PathName) (needed : Option Right) → IsQuiet (check look tested path needed)
  unfolding check
  check_quiet look tested path needed = go (first_link look.tree tested)
    where
      go : (o : Option Entry) → IsQuiet (elim o as (λ _. Option Reply) [ Some link ↦ Some (at_link look link) | None ↦ lacking (rights look path) needed ])
      go None = lacking_quiet look path needed
      go (Some link) = link_quiet look link

  behind_quiet : (o : Option Reply) (given : Reply) → IsQuiet o → is_odd io given ≡ false → is_odd io (unwrap_or o given) ≡ false
  behind_quiet None given h k = k
  behind_quiet (Some refusal) given h k = h

  unless_quiet : (o : Option Reply) → IsQuiet o → leads_odd io (unless o) ≡ false
  unless_quiet None h = refl
  unless_quiet (Some refusal) h = h

  -- ---- reads

  pub lookup_quiet : (look : Look) (path : PathName) → is_odd io (lookup_reply look path) ≡ false
  unfolding lookup_reply
  lookup_quiet look path = behind_quiet (check look (ways path) path None) (entry_reply look (entry_at look.tree path)) (check_quiet look (ways path) path None) (go (entry_at look.tree path))
    where
      go : (o : Option Entry) → is_odd io (entry_reply look o) ≡ false
      go None = refl
      go (Some entry) = refl

  pub access_quiet : (look : Look) (path : PathName) → is_odd io (access_reply look path) ≡ false
  unfolding access_reply
  access_quiet look path = behind_quiet (check look (ways path) path None) _ (check_quiet look (ways path) path None) refl

  pub text_quiet : (look : Look) (path : PathName) → is_odd io (group_text_reply look path) ≡ false
  unfolding group_text_reply
  text_quiet look path =
      let alone : Look = record look { loaded = [] } in
      behind_quiet (check alone (ways path) path (Some right.Read)) (text_reply (file_text (node_at look.tree path))) (check_quiet alone (ways path) path (Some right.Read)) (go (file_text (node_at look.tree path)))
    where
      go : (o : Option (List ℕ)) → is_odd io (text_reply o) ≡ false
      go None = refl
      go (Some text) = refl

  pub glob_quiet : (look : Look) (pattern : PatternName) → is_odd io (glob_reply look pattern) ≡ false
  unfolding glob_reply whole_reply
  glob_quiet look pattern = go (is_whole pattern)
    where
      one : (o : Option Entry) → is_odd io (one_row look o) ≡ false
      one None = refl
      one (Some entry) = refl

      many : (o : Option Entry) → is_odd io (rows_reply look pattern o) ≡ false
      many None = refl
      many (Some entry) = by (is_file entry.attr.kind)
        where
          by : (b : Bool) → is_odd io (if b then reply.NotDir else reply.Ok (done.Rows (rows look pattern))) ≡ false
          by true = refl
          by false = refl

      go : (b : Bool) → is_odd io (if b then whole_reply look (literal_path pattern) else unwrap_or (check look (ways (literal_path pattern)) (literal_path pattern) (Some right.List)) (rows_reply look pattern (entry_at look.tree (literal_path pattern)))) ≡ false
      go true = behind_quiet (check look (ways (literal_path pattern)) (literal_path pattern) None) (one_row look (entry_at look.tree (literal_path pattern))) (check_quiet look (ways (literal_path pattern)) (literal_path pattern) None) (one (entry_at look.tree (literal_path pattern)))
      go false = behind_quiet (check look (ways (literal_path pattern)) (literal_path pattern) (Some right.List)) (rows_reply look pattern (entry_at look.tree (literal_path pattern))) (check_quiet look (ways (literal_path pattern)) (literal_path pattern) (Some right.List)) (many (entry_at look.tree (literal_path pattern)))

  pub watch_quiet : (log : Log) (loaded : Loading) (user : List ℕ) (path : PathName) (sequence : ℤ) → is_odd io (watch_reply log loaded user path sequence) ≡ false
  unfolding watch_reply watched batch
  watch_quiet log loaded user path sequence = go (int_le (negsuc 1) sequence)
    where
      told : (sequence : ℤ) → is_odd io (watched log loaded user path sequence) ≡ false
      told (pos n) = by (nat_lt (length log.records) n)
        where
          by : (b : Bool) → is_odd io (if b then reply.Invalid what.Sequence else batch (length log.records) (filter (is_watched n path) (events log loaded user))) ≡ false
          by true = refl
          by false = refl
      told (negsuc zero) = refl
      told (negsuc (suc n)) = refl

      go : (b : Bool) → is_odd io (if not b then reply.Invalid what.Sequence else unwrap_or (check (look_now log loaded user) (ways path) path None) (watched log loaded user path sequence)) ≡ false
      go false = refl
      go true = behind_quiet (check (look_now log loaded user) (ways path) path None) (watched log loaded user path sequence) (check_quiet (look_now log loaded user) (ways path) path None) (told sequence)

  -- ---- what was fetched

  -- where Io counts, no block of a control file failed
  abbrev pub IsFetched : Fetched → Entry → Type 0
  IsFetched fetched entry = io ≡ true → is_control_file entry.attr.kind entry.name ≡ true → list_any (λ block. is_failed (fetch_for fetched block)) entry.blocks ≡ false

  -- so it is with what a request puts
  abbrev pub Fetches : Fetched → ReadRequest → Type 0
  Fetches fetched (Put put) = IsFetched fetched put.entry
  Fetches fetched (Lookup path) = Unit {0}
  Fetches fetched (WhichAccess path) = Unit {0}
  Fetches fetched (GroupText path) = Unit {0}
  Fetches fetched (Delete path) = Unit {0}
  Fetches fetched (Glob pattern) = Unit {0}
  Fetches fetched (Watch path sequence) = Unit {0}

  -- ---- changes

  delete_quiet : (look : Look) (path : PathName) → leads_odd io (delete_outcome look path) ≡ false
  unfolding delete_outcome
  delete_quiet look path =
      bind_quiet (unless (check look (ways_before path) path (Some right.Delete))) _ (unless_quiet _ (check_quiet look (ways_before path) path (Some right.Delete))) (λ _.
      bind_quiet (refuse (is_none (node_at look.tree path)) reply.NotExist) _ (refuse_quiet (is_none (node_at look.tree path)) reply.NotExist refl) (λ _.
      bind_quiet (refuse (not (length (children look.tree path) == 0)) reply.NotEmpty) (λ _. Ok (rec.Delete path)) (refuse_quiet (not (length (children look.tree path) == 0)) reply.NotEmpty refl) (λ _. refl)))

  sequence_quiet : (found : Option Node) (sequence : ℤ) → leads_odd io (sequence_refusal found sequence) ≡ false
  sequence_quiet None sequence = refl
  sequence_quiet (Some node) sequence = go (wanted sequence)
    where
      go : (o : Option ℕ) → leads_odd io (elim o as (λ _. Result ⊤ Reply) [ None ↦ Ok tt | Some n ↦ refuse (not (n == node.entry.sequence)) (reply.BadSequence node.entry.sequence) ]) ≡ false
      go None = refl
      go (Some n) = refuse_quiet (not (n == node.entry.sequence)) (reply.BadSequence node.entry.sequence) refl

  place_quiet : (found : Option Node) (look : Look) (put : Checked) → leads_odd io (place_refusal found look.tree put) ≡ false
  unfolding place_refusal
  place_quiet found look put =
      bind_quiet (refuse (lacks_parent look.tree put.entry.name || (is_some (wanted put.sequence) && is_none found)) reply.NotExist) _ (refuse_quiet _ reply.NotExist refl) (λ _.
      bind_quiet (refuse (is_in_file look.tree put.entry.name) reply.NotDir) _ (refuse_quiet _ reply.NotDir refl) (λ _.
      bind_quiet (refuse (holds found (λ node. is_directory (kind_of node)) && not (is_directory put.entry.attr.kind)) reply.IsDir) _ (refuse_quiet _ reply.IsDir refl) (λ _.
      bind_quiet (refuse (is_some found && (is_new put.sequence || is_directory put.entry.attr.kind)) reply.Exist) (λ _. sequence_refusal found put.sequence) (refuse_quiet _ reply.Exist refl) (λ _. sequence_quiet found put.sequence))))

  joined_quiet : (fetched : Fetched) (blocks : List Block) → leads_odd io (joined_bytes fetched blocks) ≡ false
  joined_quiet fetched [] = refl
  joined_quiet fetched (block ∷ blocks) = go (good_bytes block (fetch_for fetched block)) (joined_quiet fetched blocks)
    where
      go : (o : Option (List ℕ)) → leads_odd io (joined_bytes fetched blocks) ≡ false → leads_odd io (elim o as (λ _. Result (List ℕ) Reply) [ None ↦ Err (reply.BadBlock block.location.reference) | Some bytes ↦ joined_bytes fetched blocks >>= λ more. Ok (bytes ++ more) ]) ≡ false
      go None rest = refl
      go (Some bytes) rest = bind_quiet (joined_bytes fetched blocks) (λ more. Ok (bytes ++ more)) rest (λ _. refl)

  parse_quiet : {X : Type 0} (text : List ℕ) (said : Result X TextFault) → leads_odd io (parsed text said) ≡ false
  parse_quiet text (Ok x) = refl
  parse_quiet text (Err (text_fault.BadText line)) = refl
  parse_quiet text (Err text_fault.OutOfMemory) = refl

  parsed_quiet : (owner : List ℕ) (c : Control) (text : List ℕ) → leads_odd io (parsed_as owner c text) ≡ false
  parsed_quiet owner control.Access text = parse_quiet text (access_of owner text)
  parsed_quiet owner control.Group text = parse_quiet text (group_of owner text)
  parsed_quiet owner control.Ordinary text = refl

  put_text_quiet : (owner : List ℕ) (fetched : Fetched) (entry : Entry) → IsFetched fetched entry → leads_odd io (text_put owner fetched entry) ≡ false
  unfolding text_put
  put_text_quiet owner fetched entry h = go (is_control_file entry.attr.kind entry.name) refl
    where
      read : leads_odd io (joined_bytes fetched entry.blocks >>= parsed_as owner (control_of entry.name)) ≡ false
      read = bind_quiet (joined_bytes fetched entry.blocks) (parsed_as owner (control_of entry.name)) (joined_quiet fetched entry.blocks) (parsed_quiet owner (control_of entry.name))

      uncounted : (b : Bool) → (b ≡ true → true ≡ false) → b ≡ false
      uncounted true h = h refl
      uncounted false h = refl

      by : (f : Bool) → (io ≡ true → f ≡ false) → leads_odd io (if f then Err reply.Io else (joined_bytes fetched entry.blocks >>= parsed_as owner (control_of entry.name))) ≡ false
      by true h = uncounted io h
      by false h = read

      go : (b : Bool) → is_control_file entry.attr.kind entry.name ≡ b → leads_odd io (text_by b (list_any (λ block. is_failed (fetch_for fetched block)) entry.blocks) (joined_bytes fetched entry.blocks >>= parsed_as owner (control_of entry.name))) ≡ false
      go false is = refl
      go true is = by (list_any (λ block. is_failed (fetch_for fetched block)) entry.blocks) (λ counts. h counts is)

  put_quiet : (look : Look) (n : ℕ) (fetched : Fetched) (put : Checked) → IsFetched fetched put.entry → leads_odd io (put_outcome look n fetched put) ≡ false
  unfolding put_outcome
  put_quiet look n fetched put h =
      let found = node_at look.tree put.entry.name in
      bind_quiet (unless (check look (ways put.entry.name) put.entry.name (Some (right_to_put found)))) _ (unless_quiet _ (check_quiet look (ways put.entry.name) put.entry.name (Some (right_to_put found)))) (λ _.
      bind_quiet (place_refusal found look.tree put) _ (place_quiet found look put) (λ _.
      bind_quiet (text_put look.owner fetched put.entry) (λ text. Ok (rec.Put (record (put.entry) { sequence = n + 1 }) text)) (put_text_quiet look.owner fetched put.entry h) (λ _. refl)))

  -- ---- snapshot trees

  snapshot_record_quiet : (log : Log) (now : ℕ) → leads_odd io (snapshot_record log now) ≡ false
  unfolding snapshot_record
  snapshot_record_quiet log now =
      bind_quiet (refuse (is_none (node_at (tree_of log.records) (root_of log.owner))) reply.NotExist) _ (refuse_quiet _ reply.NotExist refl) (λ _.
      bind_quiet (refuse (is_some (snap_at log.records now)) reply.Exist) (λ _. Ok (rec.Snap now)) (refuse_quiet _ reply.Exist refl) (λ _. refl))

  snapshot_put_quiet : (log : Log) (look : Look) (entry : Entry) (now : ℕ) → leads_odd io (snapshot_put log look entry now) ≡ false
  unfolding snapshot_put
  snapshot_put_quiet log look entry now =
      bind_quiet (unless (check look (ways entry.name) entry.name None)) _ (unless_quiet _ (check_quiet look (ways entry.name) entry.name None)) (λ _. go (takes_snapshot log entry))
    where
      go : (b : Bool) → leads_odd io (if b then snapshot_record log now else Err (reply.Permission (right_to_put (node_at look.tree entry.name)))) ≡ false
      go true = snapshot_record_quiet log now
      go false = refl

  snapshot_quiet : (log : Log) (user : List ℕ) (asked : ReadRequest) (now : ℕ) → leads_odd io (snapshot_outcome log user asked now) ≡ false
  unfolding snapshot_outcome snapshot_delete
  snapshot_quiet log user (Lookup path) now = lookup_quiet (snapshot_look log user) path
  snapshot_quiet log user (WhichAccess path) now = access_quiet (snapshot_look log user) path
  snapshot_quiet log user (GroupText path) now = text_quiet (snapshot_look log user) path
  snapshot_quiet log user (Glob pattern) now = glob_quiet (snapshot_look log user) pattern
  snapshot_quiet log user (Watch path sequence) now = refl
  snapshot_quiet log user (Delete path) now = behind_quiet (check (snapshot_look log user) (ways_before path) path None) (reply.Permission right.Delete) (check_quiet (snapshot_look log user) (ways_before path) path None) refl
  snapshot_quiet log user (Put put) now = snapshot_put_quiet log (snapshot_look log user) put.entry now

  -- ---- all requests

  module _ (log : Log) (loaded : Loading) (fetched : Fetched) (user : List ℕ) (now : ℕ) where
    tree_quiet : (asked : ReadRequest) → Fetches fetched asked → leads_odd io (tree_outcome log loaded fetched user asked) ≡ false
    unfolding tree_outcome
    tree_quiet (Lookup path) h = lookup_quiet (look_now log loaded user) path
    tree_quiet (WhichAccess path) h = access_quiet (look_now log loaded user) path
    tree_quiet (GroupText path) h = text_quiet (look_now log loaded user) path
    tree_quiet (Glob pattern) h = glob_quiet (look_now log loaded user) pattern
    tree_quiet (Watch path sequence) h = watch_quiet log loaded user path sequence
    tree_quiet (Delete path) h = delete_quiet (look_now log loaded user) path
    tree_quiet (Put put) h = put_quiet (look_now log loaded user) (length log.records) fetched put h

    pub asked_quiet : (asked : ReadRequest) → Fetches fetched asked → leads_odd io (asked_outcome log loaded fetched user asked now) ≡ false
    unfolding asked_outcome
    asked_quiet asked h = go (bytes_eq (owner_asked asked) log.owner) (bytes_eq (log_owner (owner_asked asked)) log.owner)
      where
        go : (a b : Bool) → leads_odd io (if a then tree_outcome log loaded fetched user asked else if b then snapshot_outcome log user asked now else Err reply.WrongHost) ≡ false
        go true b = tree_quiet asked h
        go false true = snapshot_quiet log user asked now
        go false false = refl

-- a reply that is no position is none either once it is bounded
pub no_position : (given : Reply) → is_odd false given ≡ false → is_changed (bounded given) ≡ false
no_position (reply.Ok d) h = go (nat_lt 67108864 (reply_size (reply.Ok d)))
  where
    go : (b : Bool) → is_changed (if b then reply.TooLarge (reply_size (reply.Ok d)) else reply.Ok d) ≡ false
    go true = refl
    go false = h
no_position (reply.Invalid what) h = refl
no_position reply.WrongHost h = refl
no_position (reply.FollowLink entry) h = refl
no_position reply.Private h = refl
no_position (reply.Permission right) h = refl
no_position reply.NotExist h = refl
no_position reply.NotDir h = refl
no_position reply.IsDir h = refl
no_position reply.Exist h = refl
no_position (reply.BadSequence n) h = refl
no_position reply.NotEmpty h = refl
no_position (reply.BadBlock reference) h = refl
no_position (reply.BadText line) h = refl
no_position (reply.TooLarge size) h = refl
no_position (reply.Full n) h = refl
no_position reply.Io h = refl
no_position reply.OutOfMemory h = refl
