-- A host answers what was done by something of the kind that was asked for.
use Rattle.std.proofs.Common.{◌≡◌, ℕ, zero, suc, ◌+◌, Bool, true, false, not, ◌&&◌, ◌||◌, List, [], ◌∷◌, ◌++◌, length, take, inl, inr, refl, sym, ap, subst, ◌∙◌, Option, Some, None, Result, Ok, Err, bytes_eq, unwrap_or}
use Rattle.std.specs.Prelude.{if◌then◌else◌, ℤ, nat_lt, ⊤, is_none, is_some, ◌==◌}
use Rattle.std.specs.List.{list_any}
use Rattle.std.specs.Option.{option_and_then, option_map, option_or}
use Rattle.up_access.specs.AccessTexts.{access_of}
use Rattle.up_answers.specs.Answers.{answer, asked_outcome, fault_reply, log_owner, outcome, tree_outcome}
use Rattle.up_answers.specs.Fetching.{Fetched, fetch_for, good_bytes, is_failed, joined_bytes, parsed, parsed_as, text_put}
use Rattle.up_answers.specs.Routes.{locations_asked}
use Rattle.up_answers.specs.Puts.{holds, is_in_file, is_new, lacks_parent, place_refusal, put_outcome, sequence_refusal, wanted}
use Rattle.up_answers.specs.SnapshotReplies.{snapshot_outcome, snapshot_put, snapshot_record, takes_snapshot}
use Rattle.up_answers.specs.SnapshotTrees.{snapshot_look}
use Rattle.up_blocks.specs.Records as blocks
use Rattle.up_blocks.specs.Records.{holds as is_held, put_record}
use Rattle.up_blocks.specs.declared.record.BlockRecord.{BlockRecord}
use Rattle.up_calls.specs.Calls.{Outcome}
use Rattle.up_calls.specs.Routes.{Question, refusal, refusal_by, route_refusal, service_of}
use Rattle.up_calls.specs.Services.{KeysSay, Leads, StoreSays, adding, card_leads, delete_leads, get_leads, key_fault, key_leads, put_leads, store_fault, store_leads}
use Rattle.up_calls.specs.Views.{Views}
use Rattle.up_calls.specs.declared.event.Event.{Event}
use Rattle.up_calls.specs.declared.service.Service.{Service}
use Rattle.up_calls.specs.declared.service.Service.TheVariants as service
use Rattle.up_edits.specs.Routes.{route_of}
use Rattle.up_edits.specs.declared.routes.Route.{Route}
use Rattle.up_edits.specs.declared.routes.Route.TheVariants as route
use Rattle.up_entry.specs.ControlFiles.{is_control_file}
use Rattle.up_entry.specs.Rules.{is_directory}
use Rattle.up_entry.specs.Showing.{shown_as}
use Rattle.up_entry.specs.declared.entries.Block.{Block}
use Rattle.up_entry.specs.declared.entries.Entry.{Entry}
use Rattle.up_entry.specs.declared.fault.EntryFault.{EntryFault}
use Rattle.up_entry.specs.declared.fault.EntryFault.TheVariants as fault
use Rattle.up_entry.specs.declared.puts.Checked.{Checked}
use Rattle.up_entry.specs.declared.puts.PutEntry.{PutEntry}
use Rattle.up_entry.specs.declared.records.Rec.{Rec}
use Rattle.up_entry.specs.declared.records.Rec.TheVariants as rec
use Rattle.up_entry.specs.declared.what.What.{What}
use Rattle.up_entry.specs.declared.what.What.TheVariants as what
use Rattle.up_group.specs.GroupTexts.{group_of}
use Rattle.up_journal.specs.Journal.{is_full}
use Rattle.up_journal.specs.declared.limits.Limits.{Limits}
use Rattle.up_keys.specs.Answers.{looked_up, to_put}
use Rattle.up_list.specs.Asking.{asked_of, owner_asked}
use Rattle.up_list.specs.Changes as changes
use Rattle.up_list.specs.Changes.{◌>>=◌, answer_of, refuse, right_to_put, unless}
use Rattle.up_list.specs.Checks.{at_link, check, first_link, lacking, link_at, ways, ways_to}
use Rattle.up_list.specs.Entries.{entry_at, if_link}
use Rattle.up_list.specs.Looks.{Look, has_some, look_now, rights, shown}
use Rattle.up_list.specs.Reads.{entry_reply, lookup_reply}
use Rattle.up_list.specs.declared.asking.ReadRequest.{ReadRequest}
use Rattle.up_list.specs.declared.asking.ReadRequest.TheVariants.{Lookup, WhichAccess, GroupText, Delete, Put, Glob, Watch}
use Rattle.up_log_tree.proofs.Paths.{cut_whole, some_none}
use Rattle.up_log_tree.specs.Fits.{root_of}
use Rattle.up_log_tree.specs.Logs.{Log}
use Rattle.up_log_tree.specs.Sizes.{size_of}
use Rattle.up_log_tree.specs.Snapshots.{snap_at}
use Rattle.up_log_tree.specs.Trees.{Tree, is_link, kind_of, node_at, tree_of}
use Rattle.up_log_tree.specs.declared.node.Node.{Node}
use Rattle.up_names.specs.PathNames.{PathName, control_of, cut}
use Rattle.up_names.specs.Texts.{UserName}
use Rattle.up_names.specs.declared.fault.TextFault.{TextFault}
use Rattle.up_names.specs.declared.fault.TextFault.TheVariants as text_fault
use Rattle.up_names.specs.declared.paths.Control.{Control}
use Rattle.up_names.specs.declared.paths.Control.TheVariants as control
use Rattle.up_policy.specs.Loadings.{Loading}
use Rattle.up_refs.specs.References.{reference_in}
use Rattle.up_sessions.proofs.ReadLemmas.{ReadBy, lookup_read, put_read}
use Rattle.up_refs.specs.Sha256.{sha256}
use Rattle.up_rights.specs.RightSets.{has_right}
use Rattle.up_rights.specs.declared.Right.{Right}
use Rattle.up_wire.specs.Bounds.{bounded, reply_size}
use Rattle.up_wire.specs.declared.keys.KeyRecord.{KeyRecord}
use Rattle.up_wire.specs.declared.replies.Done.{Done}
use Rattle.up_wire.specs.declared.replies.Done.TheVariants as dones
use Rattle.up_wire.specs.declared.replies.Reply.{Reply}
use Rattle.up_wire.specs.declared.replies.Reply.TheVariants as reply
use Rattle.up_wire.specs.declared.requests.Request.{Request}
use Rattle.up_wire.specs.declared.requests.Request.TheVariants as request

-- ---- what was asked for

-- the entry of a file or a directory
abbrev pub IsFileEntry : Done → Type 0
IsFileEntry (dones.Entry entry) = is_link entry.attr.kind ≡ false
IsFileEntry d = ⊥

-- the bytes of a block
abbrev pub IsBytes : Done → Type 0
IsBytes (dones.Bytes bytes) = ⊤
IsBytes d = ⊥

-- the reference of a block
abbrev pub IsReference : Done → Type 0
IsReference (dones.Reference reference) = ⊤
IsReference d = ⊥

-- the position of a change
abbrev pub IsChange : Done → Type 0
IsChange (dones.Changed position) = ⊤
IsChange d = ⊥

-- what a client's request asks for; of all others anything
abbrev pub KindIn : Request → Done → Type 0
KindIn (request.Lookup text) d = IsFileEntry d
KindIn (request.Get text) d = IsBytes d
KindIn (request.StorePut bytes) d = IsReference d
KindIn (request.Put put) d = IsChange d
KindIn other d = ⊤

-- what was done is of the kind that was asked for
abbrev pub OfKind : Request → Reply → Type 0
OfKind asked (reply.Ok d) = KindIn asked d
OfKind asked other = ⊤

-- nothing was done
abbrev NoneDone : Reply → Type 0
NoneDone (reply.Ok d) = ⊥
NoneDone other = ⊤

of_none : (asked : Request) (given : Reply) → NoneDone given → OfKind asked given
of_none asked (reply.Ok d) none = absurd none
of_none asked other none = tt

of_any : (asked : Request) → ((d : Done) → KindIn asked d) → (given : Reply) → OfKind asked given
of_any asked any (reply.Ok d) = any d
of_any asked any other = tt

of_bounded : (asked : Request) (given : Reply) → OfKind asked given → OfKind asked (bounded given)
of_bounded asked (reply.Ok d) kind = go (nat_lt 67108864 (reply_size (reply.Ok d)))
  where
    go : (b : Bool) → OfKind asked (if b then reply.TooLarge (reply_size (reply.Ok d)) else reply.Ok d)
    go true = tt
    go false = kind
of_bounded asked other kind = tt

-- ---- a check is passed, or nothing is done

abbrev RefusesAll : Option Reply → Type 0
RefusesAll None = ⊤
RefusesAll (Some given) = NoneDone given

abbrev LeadsOn : {A : Type 0} → Result A Reply → Type 0
LeadsOn (Ok x) = ⊤
LeadsOn (Err given) = NoneDone given

bind_on : {A B : Type 0} (m : Result A Reply) (k : A → Result B Reply) → LeadsOn m → ((x : A) → LeadsOn (k x)) → LeadsOn (m >>= k)
bind_on (Ok x) k h each = each x
bind_on (Err given) k h each = h

refuse_on : (b : Bool) (given : Reply) → NoneDone given → LeadsOn (refuse b given)
refuse_on true given h = h
refuse_on false given h = tt

unless_on : (o : Option Reply) → RefusesAll o → LeadsOn (unless o)
unless_on None h = tt
unless_on (Some refusal) h = h

module _ (look : Look) where
  lacking_all : (path : PathName) (needed : Option Right) → RefusesAll (lacking (rights look path) needed)
  unfolding lacking
  lacking_all path None = go (has_some look path)
    where
      go : (b : Bool) → RefusesAll (if b then None else Some reply.Private)
      go true = tt
      go false = tt
  lacking_all path (Some r) = go (has_some look path) (has_right (rights look path) r)
    where
      go : (a b : Bool) → RefusesAll (if not a then Some reply.Private else if not b then Some (reply.Permission r) else None)
      go false b = tt
      go true false = tt
      go true true = tt

  at_link_none : (link : Entry) → NoneDone (at_link look link)
  at_link_none link = go (has_some look link.name)
    where
      go : (b : Bool) → NoneDone (if b then reply.FollowLink (shown look link) else reply.Private)
      go true = tt
      go false = tt

  check_all : (tested : List PathName) (path : PathName) (needed : Option Right) → RefusesAll (check look tested path needed)
  unfolding check
  check_all tested path needed = go (first_link look.tree tested)
    where
      go : (o : Option Entry) → RefusesAll (elim o as (λ _. Option Reply) [ Some link ↦ Some (at_link look link) | None ↦ lacking (rights look path) needed ])
      go None = lacking_all path needed
      go (Some link) = at_link_none link

-- ---- Lookup

first_none : {X : Type 0} (a b : Option X) → option_or a b ≡ None → a ≡ None
first_none None b h = refl
first_none (Some x) b h = absurd (some_none x h)

second_none : {X : Type 0} (a b : Option X) → option_or a b ≡ None → b ≡ None
second_none None b h = h
second_none (Some x) b h = absurd (some_none x h)

last_none : (tree : Tree) (xs : List PathName) (p : PathName) → first_link tree (xs ++ p ∷ []) ≡ None → link_at tree p ≡ None
last_none tree [] p h = first_none (link_at tree p) None h
last_none tree (x ∷ xs) p h = last_none tree xs p (second_none (link_at tree x) (first_link tree (xs ++ p ∷ [])) h)

none_to : (tree : Tree) (n : ℕ) (path : PathName) → first_link tree (ways_to n path) ≡ None → link_at tree (cut n path) ≡ None
none_to tree zero path h = last_none tree [] (cut 0 path) h
none_to tree (suc n) path h = last_none tree (ways_to n path) (cut (suc n) path) h

none_at : (tree : Tree) (path : PathName) → first_link tree (ways path) ≡ None → link_at tree path ≡ None
unfolding ways
none_at tree path h = sym (ap (link_at tree) (cut_whole path)) ∙ none_to tree (length path.elements) path h

no_link : (entry : Entry) → if_link entry ≡ None → is_link entry.attr.kind ≡ false
no_link entry h = go (is_link entry.attr.kind) h
  where
    go : (b : Bool) → (if b then Some entry else None) ≡ None → b ≡ false
    go true is = absurd (some_none entry is)
    go false is = refl

shown_no_link : (read : Bool) (entry : Entry) → is_link entry.attr.kind ≡ false → is_link (shown_as read entry).attr.kind ≡ false
shown_no_link true entry h = h
shown_no_link false entry h = h

module _ (look : Look) (text : List ℕ) where
  lookup_kind : (path : PathName) → OfKind (request.Lookup text) (lookup_reply look path)
  unfolding lookup_reply check lacking
  lookup_kind path = go (first_link look.tree (ways path)) refl
    where
      found : link_at look.tree path ≡ None → (o : Option Entry) → entry_at look.tree path ≡ o → OfKind (request.Lookup text) (entry_reply look o)
      found none None is = tt
      found none (Some entry) is = shown_no_link (rights look entry.name).read entry (no_link entry (sym (ap (λ o. option_and_then if_link o) is) ∙ none))

      passed : link_at look.tree path ≡ None → (b : Bool) → OfKind (request.Lookup text) (unwrap_or (if b then None else Some reply.Private) (entry_reply look (entry_at look.tree path)))
      passed none true = found none (entry_at look.tree path) refl
      passed none false = tt

      go : (o : Option Entry) → first_link look.tree (ways path) ≡ o
          → OfKind (request.Lookup text) (unwrap_or (elim o as (λ _. Option Reply) [ Some link ↦ Some (at_link look link) | None ↦ lacking (rights look path) None ]) (entry_reply look (entry_at look.tree path)))
      go None is = passed (none_at look.tree path is) (has_some look path)
      go (Some link) is = of_none (request.Lookup text) (at_link look link) (at_link_none look link)

-- ---- Put

sequence_on : (found : Option Node) (sequence : ℤ) → LeadsOn (sequence_refusal found sequence)
sequence_on None sequence = tt
sequence_on (Some node) sequence = go (wanted sequence)
  where
    go : (o : Option ℕ) → LeadsOn (elim o as (λ _. Result ⊤ Reply) [ None ↦ Ok tt | Some n ↦ refuse (not (n == node.entry.sequence)) (reply.BadSequence node.entry.sequence) ])
    go None = tt
    go (Some n) = refuse_on (not (n == node.entry.sequence)) (reply.BadSequence node.entry.sequence) tt

place_on : (found : Option Node) (tree : Tree) (put : Checked) → LeadsOn (place_refusal found tree put)
unfolding place_refusal
place_on found tree put =
    bind_on (refuse (lacks_parent tree put.entry.name || (is_some (wanted put.sequence) && is_none found)) reply.NotExist) _ (refuse_on _ reply.NotExist tt) (λ _.
    bind_on (refuse (is_in_file tree put.entry.name) reply.NotDir) _ (refuse_on _ reply.NotDir tt) (λ _.
    bind_on (refuse (holds found (λ node. is_directory (kind_of node)) && not (is_directory put.entry.attr.kind)) reply.IsDir) _ (refuse_on _ reply.IsDir tt) (λ _.
    bind_on (refuse (is_some found && (is_new put.sequence || is_directory put.entry.attr.kind)) reply.Exist) (λ _. sequence_refusal found put.sequence) (refuse_on _ reply.Exist tt) (λ _. sequence_on found put.sequence))))

joined_on : (fetched : Fetched) (all : List Block) → LeadsOn (joined_bytes fetched all)
joined_on fetched [] = tt
joined_on fetched (block ∷ more) = go (good_bytes block (fetch_for fetched block)) (joined_on fetched more)
  where
    go : (o : Option (List ℕ)) → LeadsOn (joined_bytes fetched more) → LeadsOn (elim o as (λ _. Result (List ℕ) Reply) [ None ↦ Err (reply.BadBlock block.location.reference) | Some bytes ↦ joined_bytes fetched more >>= λ rest. Ok (bytes ++ rest) ])
    go None rest = tt
    go (Some bytes) rest = bind_on (joined_bytes fetched more) (λ rest. Ok (bytes ++ rest)) rest (λ _. tt)

parse_on : {X : Type 0} (text : List ℕ) (said : Result X TextFault) → LeadsOn (parsed text said)
parse_on text (Ok x) = tt
parse_on text (Err (text_fault.BadText line)) = tt
parse_on text (Err text_fault.OutOfMemory) = tt

parsed_on : (owner : List ℕ) (c : Control) (text : List ℕ) → LeadsOn (parsed_as owner c text)
parsed_on owner control.Access text = parse_on text (access_of owner text)
parsed_on owner control.Group text = parse_on text (group_of owner text)
parsed_on owner control.Ordinary text = tt

-- a text by whether it is a control file's, and whether the fetch of a block failed
abbrev text_by : Bool → Bool → Result (List ℕ) Reply → Result (List ℕ) Reply
text_by is_control failed read = if not is_control then Ok [] else if failed then Err reply.Io else read

text_on : (owner : List ℕ) (fetched : Fetched) (entry : Entry) → LeadsOn (text_put owner fetched entry)
unfolding text_put
text_on owner fetched entry = go (is_control_file entry.attr.kind entry.name) (list_any (λ block. is_failed (fetch_for fetched block)) entry.blocks)
  where
    go : (b f : Bool) → LeadsOn (text_by b f (joined_bytes fetched entry.blocks >>= parsed_as owner (control_of entry.name)))
    go false f = tt
    go true true = tt
    go true false = bind_on (joined_bytes fetched entry.blocks) (parsed_as owner (control_of entry.name)) (joined_on fetched entry.blocks) (parsed_on owner (control_of entry.name))

module _ (look : Look) where
  put_on : (n : ℕ) (fetched : Fetched) (put : Checked) → LeadsOn (put_outcome look n fetched put)
  unfolding put_outcome
  put_on n fetched put =
      let found = node_at look.tree put.entry.name in
      bind_on (unless (check look (ways put.entry.name) put.entry.name (Some (right_to_put found)))) _ (unless_on _ (check_all look (ways put.entry.name) put.entry.name (Some (right_to_put found)))) (λ _.
      bind_on (place_refusal found look.tree put) _ (place_on found look.tree put) (λ _.
      bind_on (text_put look.owner fetched put.entry) (λ text. Ok (rec.Put (record (put.entry) { sequence = n + 1 }) text)) (text_on look.owner fetched put.entry) (λ _. tt)))

  snapshot_put_on : (log : Log) (entry : Entry) (now : ℕ) → LeadsOn (snapshot_put log look entry now)
  unfolding snapshot_put snapshot_record
  snapshot_put_on log entry now =
      bind_on (unless (check look (ways entry.name) entry.name None)) _ (unless_on _ (check_all look (ways entry.name) entry.name None)) (λ _. go (takes_snapshot log entry))
    where
      go : (b : Bool) → LeadsOn (if b then snapshot_record log now else Err (reply.Permission (right_to_put (node_at look.tree entry.name))))
      go true =
          bind_on (refuse (is_none (node_at (tree_of log.records) (root_of log.owner))) reply.NotExist) _ (refuse_on _ reply.NotExist tt) (λ _.
          bind_on (refuse (is_some (snap_at log.records now)) reply.Exist) (λ _. Ok (rec.Snap now)) (refuse_on _ reply.Exist tt) (λ _. tt))
      go false = tt

-- ---- what a tree answers

module _ (log : Log) (user : List ℕ) (now : ℕ) (loaded : Loading) (fetched : Fetched) where
  said_kind : (asked : Request) (given : Reply) → OfKind asked given → OfKind asked (answer_of log (Err given))
  unfolding answer_of
  said_kind asked given kind = of_bounded asked given kind

  changed_kind : (asked : Request) → ((n : ℕ) → KindIn asked (dones.Changed n)) → (led : Result Rec Reply) → LeadsOn led → OfKind asked (answer_of log led)
  unfolding answer_of
  changed_kind asked change (Err given) none = of_bounded asked given (of_none asked given none)
  changed_kind asked change (Ok r) none = go (nat_lt log.limits.largest (size_of r)) (changes.is_full log (size_of r))
    where
      go : (a b : Bool) → OfKind asked (if a then reply.TooLarge (size_of r) else if b then reply.Full (length log.records) else reply.Ok (dones.Changed (length log.records + 1)))
      go true b = tt
      go false true = tt
      go false false = change (length log.records + 1)

  looked_up_kind : (text : List ℕ) (path : PathName) → OfKind (request.Lookup text) (answer_of log (asked_outcome log loaded fetched user (Lookup path) now))
  unfolding asked_outcome tree_outcome snapshot_outcome
  looked_up_kind text path = go (bytes_eq path.owner log.owner) (bytes_eq (log_owner path.owner) log.owner)
    where
      go : (a b : Bool) → OfKind (request.Lookup text) (answer_of log (if a then Err (lookup_reply (look_now log loaded user) path) else if b then Err (lookup_reply (snapshot_look log user) path) else Err reply.WrongHost))
      go true b = said_kind (request.Lookup text) (lookup_reply (look_now log loaded user) path) (lookup_kind (look_now log loaded user) text path)
      go false true = said_kind (request.Lookup text) (lookup_reply (snapshot_look log user) path) (lookup_kind (snapshot_look log user) text path)
      go false false = said_kind (request.Lookup text) reply.WrongHost tt

  put_asked_on : (put : Checked) → LeadsOn (asked_outcome log loaded fetched user (Put put) now)
  unfolding asked_outcome tree_outcome snapshot_outcome
  put_asked_on put = go (bytes_eq put.entry.name.owner log.owner) (bytes_eq (log_owner put.entry.name.owner) log.owner)
    where
      go : (a b : Bool) → LeadsOn (if a then put_outcome (look_now log loaded user) (length log.records) fetched put else if b then snapshot_put log (snapshot_look log user) put.entry now else Err reply.WrongHost)
      go true b = put_on (look_now log loaded user) (length log.records) fetched put
      go false true = snapshot_put_on (snapshot_look log user) log put.entry now
      go false false = tt

  fault_none : (why : EntryFault) → NoneDone (fault_reply why)
  fault_none (fault.Invalid w) = tt
  fault_none fault.OutOfMemory = tt

  lookup_answer : (text : List ℕ) → OfKind (request.Lookup text) (answer log loaded fetched user (request.Lookup text) now)
  unfolding answer outcome
  lookup_answer text = go (asked_of user (request.Lookup text)) (lookup_read user text)
    where
      go : (o : Result ReadRequest EntryFault) → ReadBy (request.Lookup text) o
          → OfKind (request.Lookup text) (answer_of log (elim o as (λ _. Result Rec Reply) [ Ok asked ↦ asked_outcome log loaded fetched user asked now | Err why ↦ Err (fault_reply why) ]))
      go (Ok (Lookup path)) by = looked_up_kind text path
      go (Ok (WhichAccess path)) by = absurd by
      go (Ok (GroupText path)) by = absurd by
      go (Ok (Delete path)) by = absurd by
      go (Ok (Put put)) by = absurd by
      go (Ok (Glob pattern)) by = absurd by
      go (Ok (Watch path sequence)) by = absurd by
      go (Err why) by = said_kind (request.Lookup text) (fault_reply why) (of_none (request.Lookup text) (fault_reply why) (fault_none why))

  put_answer : (entry : PutEntry) → OfKind (request.Put entry) (answer log loaded fetched user (request.Put entry) now)
  unfolding answer outcome
  put_answer entry = go (asked_of user (request.Put entry)) (put_read user entry)
    where
      go : (o : Result ReadRequest EntryFault) → ReadBy (request.Put entry) o
          → OfKind (request.Put entry) (answer_of log (elim o as (λ _. Result Rec Reply) [ Ok asked ↦ asked_outcome log loaded fetched user asked now | Err why ↦ Err (fault_reply why) ]))
      go (Ok (Put put)) by = changed_kind (request.Put entry) (λ n. tt) (asked_outcome log loaded fetched user (Put put) now) (put_asked_on put)
      go (Ok (Lookup path)) by = absurd by
      go (Ok (WhichAccess path)) by = absurd by
      go (Ok (GroupText path)) by = absurd by
      go (Ok (Delete path)) by = absurd by
      go (Ok (Glob pattern)) by = absurd by
      go (Ok (Watch path sequence)) by = absurd by
      go (Err why) by = said_kind (request.Put entry) (fault_reply why) (of_none (request.Put entry) (fault_reply why) (fault_none why))

  bare_answer : (asked : Request) → asked_of user asked ≡ Err (fault.Invalid what.Name) → OfKind asked (answer log loaded fetched user asked now)
  unfolding answer outcome
  bare_answer asked is =
      subst (λ o. OfKind asked (answer_of log (elim o as (λ _. Result Rec Reply) [ Ok read ↦ asked_outcome log loaded fetched user read now | Err why ↦ Err (fault_reply why) ]))) (sym is)
      (said_kind asked (reply.Invalid what.Name) (of_none asked (reply.Invalid what.Name) tt))

  pub tree_kind : (asked : Request) → OfKind asked (answer log loaded fetched user asked now)
  unfolding asked_of
  tree_kind (request.Lookup text) = lookup_answer text
  tree_kind (request.Put entry) = put_answer entry
  tree_kind (request.Get text) = bare_answer (request.Get text) refl
  tree_kind (request.StorePut bytes) = bare_answer (request.StorePut bytes) refl
  tree_kind (request.Delete text) = of_any (request.Delete text) (λ d. tt) (answer log loaded fetched user (request.Delete text) now)
  tree_kind (request.Glob text) = of_any (request.Glob text) (λ d. tt) (answer log loaded fetched user (request.Glob text) now)
  tree_kind (request.WhichAccess text) = of_any (request.WhichAccess text) (λ d. tt) (answer log loaded fetched user (request.WhichAccess text) now)
  tree_kind (request.Watch text sequence) = of_any (request.Watch text sequence) (λ d. tt) (answer log loaded fetched user (request.Watch text sequence) now)
  tree_kind (request.GroupText text) = of_any (request.GroupText text) (λ d. tt) (answer log loaded fetched user (request.GroupText text) now)
  tree_kind (request.StoreDelete text) = of_any (request.StoreDelete text) (λ d. tt) (answer log loaded fetched user (request.StoreDelete text) now)
  tree_kind (request.KeyLookup text) = of_any (request.KeyLookup text) (λ d. tt) (answer log loaded fetched user (request.KeyLookup text) now)
  tree_kind (request.KeyPut card) = of_any (request.KeyPut card) (λ d. tt) (answer log loaded fetched user (request.KeyPut card) now)

-- ---- what a store and the keys answer

abbrev LeadsTo : {E : Type 0} → Request → Leads E → Type 0
LeadsTo asked (Leads.Says meant) = OfKind asked meant
LeadsTo asked (Leads.Adds r meant) = OfKind asked meant
LeadsTo asked (Leads.Reads reference) = (bytes : List ℕ) → OfKind asked (reply.Ok (dones.Bytes bytes))

adding_to : {E : Type 0} (asked : Request) (full : Bool) (position : ℕ) (r : E) (given : Reply) → OfKind asked given → LeadsTo asked (adding full position r given)
adding_to asked true position r given kind = tt
adding_to asked false position r given kind = kind

get_to : (text : List ℕ) (log : List BlockRecord) (o : Option (List ℕ)) → LeadsTo (request.Get text) (get_leads log o)
get_to text log None = tt
get_to text log (Some reference) = go (is_held log reference)
  where
    go : (b : Bool) → LeadsTo {E = BlockRecord} (request.Get text) (if b then Leads.Reads reference else Leads.Says reply.NotExist)
    go true = λ bytes. tt
    go false = tt

put_to : (limits : Limits) (log : List BlockRecord) (bytes : List ℕ) → LeadsTo (request.StorePut bytes) (put_leads limits log bytes)
put_to limits log bytes = go (is_held log (sha256 bytes))
  where
    added : Leads BlockRecord
    added = adding (is_full limits (blocks.sizes_of log) (blocks.size_of (put_record true bytes))) (length log) (put_record true bytes) (reply.Ok (dones.Reference (sha256 bytes)))

    go : (b : Bool) → LeadsTo (request.StorePut bytes) (if b then Leads.Says (reply.Ok (dones.Reference (sha256 bytes))) else added)
    go true = tt
    go false = adding_to (request.StorePut bytes) (is_full limits (blocks.sizes_of log) (blocks.size_of (put_record true bytes))) (length log) (put_record true bytes) (reply.Ok (dones.Reference (sha256 bytes))) tt

any_to : {E : Type 0} (asked : Request) → ((d : Done) → KindIn asked d) → (leads : Leads E) → LeadsTo asked leads
any_to asked any (Leads.Says meant) = of_any asked any meant
any_to asked any (Leads.Adds r meant) = of_any asked any meant
any_to asked any (Leads.Reads reference) = λ bytes. any (dones.Bytes bytes)

store_to : (operator user : List ℕ) (asked : Request) (limits : Limits) (log : List BlockRecord) → LeadsTo asked (store_leads operator user asked limits log)
unfolding store_leads
store_to operator user (request.Get text) limits log = get_to text log (reference_in text)
store_to operator user (request.StorePut bytes) limits log = put_to limits log bytes
store_to operator user (request.StoreDelete text) limits log = any_to (request.StoreDelete text) (λ d. tt) (delete_leads operator user limits log (reference_in text))
store_to operator user (request.Lookup text) limits log = tt
store_to operator user (request.Put entry) limits log = tt
store_to operator user (request.Delete text) limits log = tt
store_to operator user (request.Glob text) limits log = tt
store_to operator user (request.WhichAccess text) limits log = tt
store_to operator user (request.Watch text sequence) limits log = tt
store_to operator user (request.GroupText text) limits log = tt
store_to operator user (request.KeyLookup text) limits log = tt
store_to operator user (request.KeyPut card) limits log = tt

store_kind : (asked : Request) (log added : List BlockRecord) (leads : Leads BlockRecord) (said : Reply) → LeadsTo asked leads → StoreSays log leads said added → OfKind asked said
store_kind asked log added (Leads.Says meant) said kind says = subst (OfKind asked) (sym says.0) kind
store_kind asked log added (Leads.Adds r meant) said kind says = subst (OfKind asked) (sym says.0) kind
store_kind asked log added (Leads.Reads reference) said kind says = let of = says.1 in subst (OfKind asked) (sym of.1) (kind of.0)

keys_to : (user : List ℕ) (asked : Request) (limits : Limits) (log : List KeyRecord) → LeadsTo asked (key_leads user asked limits log)
unfolding key_leads
keys_to user (request.KeyLookup text) limits log = any_to {E = KeyRecord} (request.KeyLookup text) (λ d. tt) (Leads.Says (looked_up log text))
keys_to user (request.KeyPut card) limits log = any_to (request.KeyPut card) (λ d. tt) (card_leads limits log (to_put user card))
keys_to user (request.Get text) limits log = tt
keys_to user (request.StorePut bytes) limits log = tt
keys_to user (request.StoreDelete text) limits log = tt
keys_to user (request.Lookup text) limits log = tt
keys_to user (request.Put entry) limits log = tt
keys_to user (request.Delete text) limits log = tt
keys_to user (request.Glob text) limits log = tt
keys_to user (request.WhichAccess text) limits log = tt
keys_to user (request.Watch text sequence) limits log = tt
keys_to user (request.GroupText text) limits log = tt

keys_kind : (asked : Request) (added : List KeyRecord) (leads : Leads KeyRecord) (said : Reply) → LeadsTo asked leads → KeysSay leads said added → OfKind asked said
keys_kind asked added (Leads.Says meant) said kind says = subst (OfKind asked) (sym says.0) kind
keys_kind asked added (Leads.Adds r meant) said kind says = subst (OfKind asked) (sym says.0) kind
keys_kind asked added (Leads.Reads reference) said kind says = absurd says

-- ---- where no log is looked at, nothing is done

same_given : (one other : Reply) → Some one ≡ Some other → one ≡ other
same_given one other same = cc

named_none : (o : Option What) (given : Reply) → option_map (λ w. reply.Invalid w) o ≡ Some given → NoneDone given
named_none None given is = absurd (cc)
named_none (Some w) given is = subst NoneDone (same_given (reply.Invalid w) given is) tt

routed_none : (a : Views) (user : List ℕ) (asked : Request) (given : Reply) → route_refusal a (route_of user asked) ≡ Some given → NoneDone given
unfolding route_of
routed_none a user asked given = go (asked_of user asked)
  where
    elsewhere : (b : Bool) → (if b then None else Some reply.WrongHost) ≡ Some given → NoneDone given
    elsewhere true is = absurd (cc)
    elsewhere false is = subst NoneDone (same_given reply.WrongHost given is) tt

    go : (o : Result ReadRequest EntryFault) → route_refusal a (elim o as (λ _. Route) [ Ok read ↦ route.Tree (log_owner (owner_asked read)) (locations_asked read) | Err why ↦ route.Refused (fault_reply why) ]) ≡ Some given → NoneDone given
    go (Ok read) is = elsewhere (is_some (a.tree (log_owner (owner_asked read)))) is
    go (Err (fault.Invalid w)) is = subst NoneDone (same_given (reply.Invalid w) given is) tt
    go (Err fault.OutOfMemory) is = subst NoneDone (same_given reply.OutOfMemory given is) tt

refused_none : (a : Views) (q : Question) (given : Reply) → refusal a q ≡ Some given → NoneDone given
unfolding refusal
refused_none a q given = go (service_of q.request)
  where
    go : (s : Service) → refusal_by a q s ≡ Some given → NoneDone given
    go service.Directory is = routed_none a q.user q.request given is
    go service.Store is = named_none (store_fault q.request) given is
    go service.Keys is = named_none (key_fault q.request) given is

-- ---- one call of a host

failed_kind : (asked : Request) (given : Reply) → given ≡ reply.Io → OfKind asked given
failed_kind asked given io = subst (OfKind asked) (sym io) tt

pub call_kind : (operator : UserName) (a b : Views) (q : Question) (e : Event) → Outcome operator a b q e → OfKind q.request e.reply
call_kind operator a b q e (Outcome.Refused refused at plain own) = of_none q.request e.reply (refused_none a q e.reply refused)
call_kind operator a b q e (Outcome.ByTree owner v w passed asked before after (inl answered)) =
    subst (OfKind q.request) (sym answered.0.reply.reply) (tree_kind _ q.user e.moment e.loaded e.fetched q.request)
call_kind operator a b q e (Outcome.ByTree owner v w passed asked before after (inr failed)) = failed_kind q.request e.reply failed.0.io
call_kind operator a b q e (Outcome.ByStore passed asked plain (inl answered)) =
    store_kind q.request (take e.position b.store.seen) answered.added (store_leads operator q.user q.request b.store.fixed (take e.position b.store.seen)) e.reply
    (store_to operator q.user q.request b.store.fixed (take e.position b.store.seen)) answered.reply
call_kind operator a b q e (Outcome.ByStore passed asked plain (inr failed)) = failed_kind q.request e.reply failed.io
call_kind operator a b q e (Outcome.ByKeys passed asked plain (inl answered)) =
    keys_kind q.request answered.added (key_leads q.user q.request b.keys.fixed (take e.position b.keys.seen)) e.reply
    (keys_to q.user q.request b.keys.fixed (take e.position b.keys.seen)) answered.reply
call_kind operator a b q e (Outcome.ByKeys passed asked plain (inr failed)) = failed_kind q.request e.reply failed.io
call_kind operator a b q e (Outcome.Wanting none own) = subst (OfKind q.request) (sym none) tt
