-- Equal answers over two logs that agree.
use Rattle.std.proofs.Common.{◌≡◌, ℕ, zero, suc, ◌+◌, Bool, true, false, not, ◌||◌, List, [], length, refl, sym, ap, subst, ◌∙◌, Option, Some, None, bytes_eq}
use Rattle.std.specs.Prelude.{if◌then◌else◌, ⊤, ℤ, pos, negsuc, int_le, unwrap_or, Result, nat_le, nat_lt, filter}
use Rattle.std.specs.Prelude as std
use Rattle.std.proofs.lemmas.Bool.{false≢true}
use Rattle.std.proofs.lemmas.Slice.Eq.{bytes_eq-Decides}
use Rattle.up_names.specs.PathNames.{PathName, control_of}
use Rattle.up_names.specs.UserNames.{base_of}
use Rattle.up_names.specs.declared.paths.Control.{Control}
use Rattle.up_names.specs.declared.paths.Control.TheVariants as control
use Rattle.up_rights.specs.declared.Right.TheVariants as right
use Rattle.up_entry.specs.Checking as checking
use Rattle.up_entry.specs.Checking.{checked_as, path_or, rule}
use Rattle.up_entry.specs.declared.fault.EntryFault.{EntryFault}
use Rattle.up_entry.specs.declared.records.Rec.{Rec}
use Rattle.up_entry.specs.declared.what.What.{What}
use Rattle.up_entry.specs.declared.what.What.TheVariants as what
use Rattle.up_pattern.specs.Patterns.{PatternName}
use Rattle.up_policy.proofs.PathLists.{Contains-head}
use Rattle.up_policy.specs.Loadings.{Loading}
use Rattle.up_policy.specs.Trees.{owns_snapshots}
use Rattle.up_wire.specs.Bounds.{bounded}
use Rattle.up_wire.specs.declared.replies.Reply.{Reply}
use Rattle.up_wire.specs.declared.replies.Reply.TheVariants as reply
use Rattle.up_wire.specs.declared.replies.Done.TheVariants as done
use Rattle.up_wire.specs.declared.requests.Request.{Request}
use Rattle.up_wire.specs.declared.requests.Request.TheVariants as request
use Rattle.up_log_tree.specs.declared.node.Node.{Node}
use Rattle.up_log_tree.specs.Trees.{node_at, tree_of}
use Rattle.up_log_tree.specs.Rights.{is_group}
use Rattle.up_log_tree.specs.Logs.{Limits, Log, bytes_of}
use Rattle.up_log_tree.specs.Sizes.{size_of}
use Rattle.up_log_tree.proofs.Trees.{tree_sorted}
use Rattle.up_log_tree.proofs.Rooted.{IsRooted, rooted}
use Rattle.up_list.specs.declared.asking.ReadRequest.{ReadRequest}
use Rattle.up_list.specs.declared.asking.ReadRequest.TheVariants.{Lookup, WhichAccess, GroupText, Delete, Put, Glob, Watch}
use Rattle.up_list.specs.Asking.{asked_of, owner_asked, pattern_or_fault}
use Rattle.up_list.specs.Looks.{look_now}
use Rattle.up_list.specs.Checks.{check, ways, ways_before}
use Rattle.up_list.specs.Changes.{◌>>=◌, answer_of, right_to_put, unless}
use Rattle.up_list.specs.Entries.{entry_at}
use Rattle.up_list.specs.Globs.{glob_reply, is_whole, literal_path, one_row, rows_reply, whole_reply}
use Rattle.up_list.specs.Reads.{access_reply, group_text_reply, lookup_reply}
use Rattle.up_answers.specs.Agreement.{SeesTheSame, used}
use Rattle.up_answers.specs.Answers.{answer, asked_outcome, fault_reply, log_owner, outcome, tree_outcome}
use Rattle.up_answers.specs.Events.{events}
use Rattle.up_answers.specs.Fetching.{Fetched}
use Rattle.up_answers.specs.Laws.{IsWhole, NothingBelowLinks, NoRightsBelowLinks, ChecksAreAlike, RowsAreSeen, AnswersAgree}
use Rattle.up_answers.specs.Puts.{put_outcome}
use Rattle.up_answers.specs.SnapshotReplies.{snapshot_delete, snapshot_outcome, snapshot_put, snapshot_record, takes_snapshot}
use Rattle.up_answers.specs.SnapshotTrees.{snapshot_look, snapshot_tree}
use Rattle.up_answers.specs.Views.{view}
use Rattle.up_answers.specs.Watches.{batch, is_watched, items_under, watch_reply, watched}
use Rattle.up_answers.proofs.AlikeLemmas.{AreAlike, ways_are, check_same, behind_check, lookup_same, access_same}
use Rattle.up_answers.proofs.BaseLemmas.{IsPlain, base_again, base_plain, owns_them}
use Rattle.up_answers.proofs.ChangeLemmas.{delete_same}
use Rattle.up_answers.proofs.LinkedLemmas.{nothing_below}
use Rattle.up_answers.proofs.MeaningLemmas.{snapshots_are_private}
use Rattle.up_answers.proofs.OtherLemmas.{other_paths_are_hidden}
use Rattle.up_answers.proofs.PutLemmas.{group_text_same, put_same}
use Rattle.up_answers.proofs.RightLemmas.{link_governs, none_below}
use Rattle.up_answers.proofs.SeenLemmas.{items_same, met_seen, glob_same}

pub nothing_below_links : NothingBelowLinks
nothing_below_links log is path m link less there = go (node_at (tree_of log.records) path) refl
  where
    go : (found : Option Node) → node_at (tree_of log.records) path ≡ found → found ≡ None
    go None h = refl
    go (Some node) h = absurd (nothing_below log.owner (tree_of log.records) (rooted log.owner log.records is.fitting) path link m node there less h)

pub no_rights_below_links : NoRightsBelowLinks
no_rights_below_links log loaded user is stranger path m link low there =
    let at = look_now log loaded user in
    let r = rooted log.owner log.records is.fitting in
    (link_governs at r stranger path m link low there, none_below at r stranger path m link low there)

pub rows_are_seen : RowsAreSeen
rows_are_seen look pattern path h = met_seen look pattern path h

pub alike_of : (user : List ℕ) (loaded : Loading) (one two : Log) → IsWhole one → IsWhole two → one.owner ≡ two.owner → (user ≡ one.owner → ⊥) → SeesTheSame user loaded one two → AreAlike (look_now one loaded user) (look_now two loaded user)
alike_of user loaded one two is is' owner stranger same = record { views = λ path. go path (bytes_eq path.owner one.owner) refl }
  where
    go : (path : PathName) (b : Bool) → bytes_eq path.owner one.owner ≡ b → view (look_now one loaded user) path ≡ view (look_now two loaded user) path
    go path true e = same.views path ((bytes_eq-Decides path.owner one.owner).0 e)
    go path false e =
        let other : path.owner ≡ one.owner → ⊥ = λ h. false≢true (sym e ∙ (bytes_eq-Decides path.owner one.owner).1 h) in
        other_paths_are_hidden one loaded user path is stranger other
        ∙ sym (other_paths_are_hidden two loaded user path is' (λ h. stranger (h ∙ sym owner)) (λ h. other (h ∙ sym owner)))

pub checks_are_alike : ChecksAreAlike
checks_are_alike user loaded one two is is' owner stranger same path needed =
    check_same (look_now one loaded user) (look_now two loaded user) (alike_of user loaded one two is is' owner stranger same) (rooted one.owner one.records is.fitting) (rooted two.owner two.records is'.fitting) stranger (λ h. stranger (h ∙ sym owner)) (ways path) path (ways_are path) needed

-- ---- what is answered, by what a request leads to

abbrev answer_by : Limits → ℕ → ℕ → Result Rec Reply → Reply
answer_by limits count bytes (std.Err given) = bounded given
answer_by limits count bytes (std.Ok record') =
    if nat_lt limits.largest (size_of record') then reply.TooLarge (size_of record')
    else if nat_le limits.records count || nat_lt limits.device (bytes + size_of record' + 37) then reply.Full count
    else reply.Ok (done.Changed (count + 1))

by_parts : (log : Log) (led : Result Rec Reply) → answer_of log led ≡ answer_by log.limits (length log.records) (bytes_of log.records) led
unfolding answer_of
by_parts log (std.Err given) = refl
by_parts log (std.Ok record') = refl

led_same : (one two : Log) (a b : Result Rec Reply) → one.limits ≡ two.limits → length one.records ≡ length two.records → bytes_of one.records ≡ bytes_of two.records → a ≡ b → answer_of one a ≡ answer_of two b
led_same one two a b limits count bytes same =
    by_parts one a
    ∙ (ap (λ l. answer_by l (length one.records) (bytes_of one.records) a) limits
    ∙ (ap (λ n. answer_by two.limits n (bytes_of one.records) a) count
    ∙ (ap (λ n. answer_by two.limits (length two.records) n a) bytes
    ∙ (ap (answer_by two.limits (length two.records) (bytes_of two.records)) same
    ∙ sym (by_parts two b)))))

-- ---- what a request uses of what was loaded

abbrev used_by : ReadRequest → Loading → Loading
used_by (GroupText path) loaded = []
used_by (Lookup path) loaded = loaded
used_by (WhichAccess path) loaded = loaded
used_by (Delete path) loaded = loaded
used_by (Put put) loaded = loaded
used_by (Glob pattern) loaded = loaded
used_by (Watch path sequence) loaded = loaded

-- a GroupText is asked of a Group path
abbrev IsWellAsked : ReadRequest → Type 0
IsWellAsked (GroupText path) = control_of path ≡ control.Group
IsWellAsked (Lookup path) = ⊤
IsWellAsked (WhichAccess path) = ⊤
IsWellAsked (Delete path) = ⊤
IsWellAsked (Put put) = ⊤
IsWellAsked (Glob pattern) = ⊤
IsWellAsked (Watch path sequence) = ⊤

record IsReadAs (request : Request) (loaded : Loading) (asked : ReadRequest) : Type 0 where
  uses : used request loaded ≡ used_by asked loaded
  well : IsWellAsked asked

pub step_ok : {A B : Type 0} (m : Result A EntryFault) (k : A → Result B EntryFault) (y : B) → checking.◌>>=◌ m k ≡ std.Ok y → (x : A) × (m ≡ std.Ok x) × (k x ≡ std.Ok y)
step_ok (std.Ok x) k y h = (x, refl, h)
step_ok (std.Err e) k y h = absurd (cc)

rule_ok : (w : What) (b : Bool) (x : ⊤) → rule w b ≡ std.Ok x → b ≡ true
rule_ok w true x h = refl
rule_ok w false x h = absurd (cc)

pub asked_same : (x y : ReadRequest) → ◌≡◌ {A = Result ReadRequest EntryFault} (std.Ok x) (std.Ok y) → x ≡ y
asked_same x y h = cc

pub not_asked : (fault : EntryFault) (y : ReadRequest) → ◌≡◌ {A = Result ReadRequest EntryFault} (std.Err fault) (std.Ok y) → ⊥
not_asked fault y h = absurd (cc)

group_control : (path : PathName) → is_group path ≡ true → control_of path ≡ control.Group
group_control path h = go (control_of path) refl
  where
    go : (c : Control) → control_of path ≡ c → control_of path ≡ control.Group
    go control.Group e = e
    go control.Access e = absurd (false≢true (sym (ap (λ c. elim c as (λ _. Bool) [ control.Group ↦ true | control.Access ↦ false | control.Ordinary ↦ false ]) e) ∙ h))
    go control.Ordinary e = absurd (false≢true (sym (ap (λ c. elim c as (λ _. Bool) [ control.Group ↦ true | control.Access ↦ false | control.Ordinary ↦ false ]) e) ∙ h))

read_as : (user : List ℕ) (loaded : Loading) (request' : Request) (asked : ReadRequest) → asked_of user request' ≡ std.Ok asked → IsReadAs request' loaded asked
unfolding asked_of
read_as user loaded (request.Lookup text) asked h =
    let a = step_ok (path_or what.Name text) _ asked h in
    subst (IsReadAs (request.Lookup text) loaded) (asked_same (Lookup a.0) asked a.2) (record { uses = refl; well = tt })
read_as user loaded (request.WhichAccess text) asked h =
    let a = step_ok (path_or what.Name text) _ asked h in
    subst (IsReadAs (request.WhichAccess text) loaded) (asked_same (WhichAccess a.0) asked a.2) (record { uses = refl; well = tt })
read_as user loaded (request.GroupText text) asked h =
    let a = step_ok (path_or what.Name text) _ asked h in
    let b = step_ok (rule what.GroupName (is_group a.0)) _ asked a.2 in
    subst (IsReadAs (request.GroupText text) loaded) (asked_same (GroupText a.0) asked b.2) (record { uses = refl; well = group_control a.0 (rule_ok what.GroupName (is_group a.0) b.0 b.1) })
read_as user loaded (request.Delete text) asked h =
    let a = step_ok (path_or what.Name text) _ asked h in
    subst (IsReadAs (request.Delete text) loaded) (asked_same (Delete a.0) asked a.2) (record { uses = refl; well = tt })
read_as user loaded (request.Put put) asked h =
    let a = step_ok (checked_as put user) _ asked h in
    subst (IsReadAs (request.Put put) loaded) (asked_same (Put a.0) asked a.2) (record { uses = refl; well = tt })
read_as user loaded (request.Glob text) asked h =
    let a = step_ok (pattern_or_fault text) _ asked h in
    subst (IsReadAs (request.Glob text) loaded) (asked_same (Glob a.0) asked a.2) (record { uses = refl; well = tt })
read_as user loaded (request.Watch text sequence) asked h =
    let a = step_ok (path_or what.Name text) _ asked h in
    let b = step_ok (rule what.Sequence (int_le (negsuc 1) sequence)) _ asked a.2 in
    let c = step_ok (rule what.SnapshotWatch (not (owns_snapshots (a.0).owner))) _ asked b.2 in
    subst (IsReadAs (request.Watch text sequence) loaded) (asked_same (Watch a.0 sequence) asked c.2) (record { uses = refl; well = tt })
read_as user loaded (request.Get text) asked h = absurd (not_asked _ asked h)
read_as user loaded (request.StorePut bytes) asked h = absurd (not_asked _ asked h)
read_as user loaded (request.StoreDelete text) asked h = absurd (not_asked _ asked h)
read_as user loaded (request.KeyLookup text) asked h = absurd (not_asked _ asked h)
read_as user loaded (request.KeyPut card) asked h = absurd (not_asked _ asked h)

-- ---- on the tree

module _ (user : List ℕ) (loaded : Loading) (one two : Log) (is : IsWhole one) (is' : IsWhole two) (owner : one.owner ≡ two.owner) (count : length one.records ≡ length two.records) (stranger : user ≡ one.owner → ⊥) (same : SeesTheSame user loaded one two) where
  rooted₁ : IsRooted one.owner (tree_of one.records)
  rooted₁ = rooted one.owner one.records is.fitting

  rooted₂ : IsRooted two.owner (tree_of two.records)
  rooted₂ = rooted two.owner two.records is'.fitting

  stranger' : user ≡ two.owner → ⊥
  stranger' h = stranger (h ∙ sym owner)

  alike : AreAlike (look_now one loaded user) (look_now two loaded user)
  alike = alike_of user loaded one two is is' owner stranger same

  watched_same : (path : PathName) (sequence : ℤ) → watched one loaded user path sequence ≡ watched two loaded user path sequence
  unfolding watched
  watched_same path (pos sequence) =
      ap (λ n. if nat_lt n sequence then reply.Invalid what.Sequence else batch n (filter (is_watched sequence path) (events one loaded user))) count
      ∙ ap (λ es. if nat_lt (length two.records) sequence then reply.Invalid what.Sequence else batch (length two.records) (filter (is_watched sequence path) es)) same.events
  watched_same path (negsuc zero) =
      ap (λ es. reply.Ok (done.Events es (length one.records))) (items_same (look_now one loaded user) (look_now two loaded user) alike (tree_sorted one.records) (tree_sorted two.records) path)
      ∙ ap (λ n. reply.Ok (done.Events (items_under (look_now two loaded user) path) n)) count
  watched_same path (negsuc (suc n)) = ap (λ n. reply.Ok (done.Events [] n)) count

  watch_same : (path : PathName) (sequence : ℤ) → watch_reply one loaded user path sequence ≡ watch_reply two loaded user path sequence
  unfolding watch_reply
  watch_same path sequence =
      ap (λ r. if not (int_le (negsuc 1) sequence) then reply.Invalid what.Sequence else r)
      (behind_check (check (look_now one loaded user) (ways path) path None) (check (look_now two loaded user) (ways path) path None) (watched one loaded user path sequence) (watched two loaded user path sequence)
      (check_same (look_now one loaded user) (look_now two loaded user) alike rooted₁ rooted₂ stranger stranger' (ways path) path (ways_are path) None)
      (λ passes. watched_same path sequence))

  tree_same : (fetched : Fetched) (asked : ReadRequest) → used_by asked loaded ≡ loaded → IsWellAsked asked → tree_outcome one loaded fetched user asked ≡ tree_outcome two loaded fetched user asked
  unfolding tree_outcome
  tree_same fetched (Lookup path) u well = ap (λ r. std.Err r) (lookup_same (look_now one loaded user) (look_now two loaded user) alike rooted₁ rooted₂ stranger stranger' path)
  tree_same fetched (WhichAccess path) u well = ap (λ r. std.Err r) (access_same (look_now one loaded user) (look_now two loaded user) alike rooted₁ rooted₂ stranger stranger' path)
  tree_same fetched (GroupText path) u well =
      ap (λ r. std.Err r) (group_text_same (look_now one loaded user) (look_now two loaded user) (subst (λ l. AreAlike (look_now one l user) (look_now two l user)) (sym u) alike) rooted₁ rooted₂ stranger stranger' path well)
  tree_same fetched (Delete path) u well = delete_same (look_now one loaded user) (look_now two loaded user) alike rooted₁ rooted₂ (tree_sorted one.records) (tree_sorted two.records) stranger stranger' path
  tree_same fetched (Put put) u well =
      put_same (look_now one loaded user) (look_now two loaded user) alike rooted₁ rooted₂ is.plain is'.plain stranger stranger' owner (length one.records) fetched put
      ∙ ap (λ n. put_outcome (look_now two loaded user) n fetched put) count
  tree_same fetched (Glob pattern) u well = ap (λ r. std.Err r) (glob_same (look_now one loaded user) (look_now two loaded user) alike rooted₁ rooted₂ (tree_sorted one.records) (tree_sorted two.records) stranger stranger' pattern)
  tree_same fetched (Watch path sequence) u well = ap (λ r. std.Err r) (watch_same path sequence)

-- what is loaded makes no difference to what uses nothing of it
tree_used : (log : Log) (loaded : Loading) (fetched : Fetched) (user : List ℕ) (asked : ReadRequest) → tree_outcome log loaded fetched user asked ≡ tree_outcome log (used_by asked loaded) fetched user asked
unfolding tree_outcome group_text_reply
tree_used log loaded fetched user (GroupText path) = refl
tree_used log loaded fetched user (Lookup path) = refl
tree_used log loaded fetched user (WhichAccess path) = refl
tree_used log loaded fetched user (Delete path) = refl
tree_used log loaded fetched user (Put put) = refl
tree_used log loaded fetched user (Glob pattern) = refl
tree_used log loaded fetched user (Watch path sequence) = refl

used_twice : (asked : ReadRequest) (loaded : Loading) → used_by asked (used_by asked loaded) ≡ used_by asked loaded
used_twice (GroupText path) loaded = refl
used_twice (Lookup path) loaded = refl
used_twice (WhichAccess path) loaded = refl
used_twice (Delete path) loaded = refl
used_twice (Put put) loaded = refl
used_twice (Glob pattern) loaded = refl
used_twice (Watch path sequence) loaded = refl

-- ---- on the snapshot tree

-- what is answered there to anybody but the base user
abbrev pub hidden_outcome : ReadRequest → Result Rec Reply
hidden_outcome (Watch path sequence) = std.Err (reply.Invalid what.SnapshotWatch)
hidden_outcome (Lookup path) = std.Err reply.Private
hidden_outcome (WhichAccess path) = std.Err reply.Private
hidden_outcome (GroupText path) = std.Err reply.Private
hidden_outcome (Delete path) = std.Err reply.Private
hidden_outcome (Put put) = std.Err reply.Private
hidden_outcome (Glob pattern) = std.Err reply.Private

module _ (log : Log) (user : List ℕ) (plain : IsPlain log.owner) (stranger : user ≡ log.owner → ⊥) where
  refused : (paths : List PathName) (path : PathName) (needed : Option _) → check (snapshot_look log user) paths path needed ≡ Some reply.Private
  refused paths path needed = snapshots_are_private (snapshot_look log user) paths path needed (owns_them log.owner plain) (λ h. stranger (h ∙ base_again log.owner plain))

  kept : (o : Option Reply) (x : Reply) → o ≡ Some reply.Private → unwrap_or o x ≡ reply.Private
  kept o x h = ap (λ o. unwrap_or o x) h

  glob_hidden : (pattern : PatternName) → glob_reply (snapshot_look log user) pattern ≡ reply.Private
  unfolding glob_reply whole_reply
  glob_hidden pattern = go (is_whole pattern)
    where
      go : (b : Bool) → (if b then unwrap_or (check (snapshot_look log user) (ways (literal_path pattern)) (literal_path pattern) None) (one_row (snapshot_look log user) (entry_at (snapshot_look log user).tree (literal_path pattern)))
          else unwrap_or (check (snapshot_look log user) (ways (literal_path pattern)) (literal_path pattern) (Some right.List)) (rows_reply (snapshot_look log user) pattern (entry_at (snapshot_look log user).tree (literal_path pattern)))) ≡ reply.Private
      go true = kept (check (snapshot_look log user) (ways (literal_path pattern)) (literal_path pattern) None) _ (refused (ways (literal_path pattern)) (literal_path pattern) None)
      go false = kept (check (snapshot_look log user) (ways (literal_path pattern)) (literal_path pattern) (Some right.List)) _ (refused (ways (literal_path pattern)) (literal_path pattern) (Some right.List))

  pub snapshot_hidden : (asked : ReadRequest) (now : ℕ) → snapshot_outcome log user asked now ≡ hidden_outcome asked
  unfolding snapshot_outcome lookup_reply access_reply group_text_reply snapshot_delete snapshot_put
  snapshot_hidden (Lookup path) now = ap (λ r. std.Err r) (kept (check (snapshot_look log user) (ways path) path None) _ (refused (ways path) path None))
  snapshot_hidden (WhichAccess path) now = ap (λ r. std.Err r) (kept (check (snapshot_look log user) (ways path) path None) _ (refused (ways path) path None))
  snapshot_hidden (GroupText path) now = ap (λ r. std.Err r) (kept (check (snapshot_look log user) (ways path) path (Some right.Read)) _ (refused (ways path) path (Some right.Read)))
  snapshot_hidden (Glob pattern) now = ap (λ r. std.Err r) (glob_hidden pattern)
  snapshot_hidden (Watch path sequence) now = refl
  snapshot_hidden (Delete path) now = ap (λ r. std.Err r) (kept (check (snapshot_look log user) (ways_before path) path None) _ (refused (ways_before path) path None))
  snapshot_hidden (Put put) now =
      ap (λ o. unless o >>= λ seen. if takes_snapshot log put.entry then snapshot_record log now else std.Err (reply.Permission (right_to_put (node_at (snapshot_tree log) put.entry.name)))) (refused (ways put.entry.name) put.entry.name None)

-- ---- all requests

pub same_log : (one two : Log) → one.owner ≡ two.owner → one.limits ≡ two.limits → one.records ≡ two.records → one ≡ two
same_log one two owner limits records i = record { owner = owner i; limits = limits i; records = records i }

-- the owner of a log to which a path of a snapshot tree belongs has no suffix
pub plain_owner : (log : Log) (name : List ℕ) → bytes_eq name log.owner ≡ false → bytes_eq (log_owner name) log.owner ≡ true → IsPlain log.owner
plain_owner log name other same = go (owns_snapshots name) ((bytes_eq-Decides (log_owner name) log.owner).0 same)
  where
    go : (b : Bool) → (if b then base_of name else name) ≡ log.owner → IsPlain log.owner
    go true e = subst IsPlain e (base_plain name)
    go false e = absurd (false≢true (sym other ∙ (bytes_eq-Decides name log.owner).1 e))

module _ (user : List ℕ) (loaded : Loading) (fetched : Fetched) (now : ℕ) (one two : Log) (is : IsWhole one) (is' : IsWhole two) (owner : one.owner ≡ two.owner) (count : length one.records ≡ length two.records) (stranger : user ≡ one.owner → ⊥) where
  asked_alike : (asked : ReadRequest) → SeesTheSame user (used_by asked loaded) one two → IsWellAsked asked → asked_outcome one loaded fetched user asked now ≡ asked_outcome two loaded fetched user asked now
  unfolding asked_outcome
  asked_alike asked same well =
      go (bytes_eq (owner_asked asked) one.owner) refl (bytes_eq (log_owner (owner_asked asked)) one.owner) refl
      ∙ (ap (λ o. if bytes_eq (owner_asked asked) o then tree_outcome two loaded fetched user asked else if bytes_eq (log_owner (owner_asked asked)) o then snapshot_outcome two user asked now else std.Err reply.WrongHost) owner)
    where
      on_tree : tree_outcome one loaded fetched user asked ≡ tree_outcome two loaded fetched user asked
      on_tree =
          tree_used one loaded fetched user asked
          ∙ (tree_same user (used_by asked loaded) one two is is' owner count stranger same fetched asked (used_twice asked loaded) well
          ∙ sym (tree_used two loaded fetched user asked))

      on_snapshots : bytes_eq (owner_asked asked) one.owner ≡ false → bytes_eq (log_owner (owner_asked asked)) one.owner ≡ true → snapshot_outcome one user asked now ≡ snapshot_outcome two user asked now
      on_snapshots a b =
          let plain = plain_owner one (owner_asked asked) a b in
          snapshot_hidden one user plain stranger asked now
          ∙ sym (snapshot_hidden two user (subst IsPlain owner plain) (λ h. stranger (h ∙ sym owner)) asked now)

      go : (a : Bool) → bytes_eq (owner_asked asked) one.owner ≡ a → (b : Bool) → bytes_eq (log_owner (owner_asked asked)) one.owner ≡ b →
          (if bytes_eq (owner_asked asked) one.owner then tree_outcome one loaded fetched user asked else if bytes_eq (log_owner (owner_asked asked)) one.owner then snapshot_outcome one user asked now else std.Err reply.WrongHost)
          ≡ (if bytes_eq (owner_asked asked) one.owner then tree_outcome two loaded fetched user asked else if bytes_eq (log_owner (owner_asked asked)) one.owner then snapshot_outcome two user asked now else std.Err reply.WrongHost)
      go true a b f =
          ap (λ c. if c then tree_outcome one loaded fetched user asked else if bytes_eq (log_owner (owner_asked asked)) one.owner then snapshot_outcome one user asked now else std.Err reply.WrongHost) a
          ∙ (on_tree
          ∙ sym (ap (λ c. if c then tree_outcome two loaded fetched user asked else if bytes_eq (log_owner (owner_asked asked)) one.owner then snapshot_outcome two user asked now else std.Err reply.WrongHost) a))
      go false a true f =
          ap (λ c. if c then tree_outcome one loaded fetched user asked else if bytes_eq (log_owner (owner_asked asked)) one.owner then snapshot_outcome one user asked now else std.Err reply.WrongHost) a
          ∙ (ap (λ c. if c then snapshot_outcome one user asked now else std.Err reply.WrongHost) f
          ∙ (on_snapshots a f
          ∙ (sym (ap (λ c. if c then snapshot_outcome two user asked now else std.Err reply.WrongHost) f)
          ∙ sym (ap (λ c. if c then tree_outcome two loaded fetched user asked else if bytes_eq (log_owner (owner_asked asked)) one.owner then snapshot_outcome two user asked now else std.Err reply.WrongHost) a))))
      go false a false f =
          ap (λ c. if c then tree_outcome one loaded fetched user asked else if bytes_eq (log_owner (owner_asked asked)) one.owner then snapshot_outcome one user asked now else std.Err reply.WrongHost) a
          ∙ (ap (λ c. if c then snapshot_outcome one user asked now else std.Err reply.WrongHost) f
          ∙ (sym (ap (λ c. if c then snapshot_outcome two user asked now else std.Err reply.WrongHost) f)
          ∙ sym (ap (λ c. if c then tree_outcome two loaded fetched user asked else if bytes_eq (log_owner (owner_asked asked)) one.owner then snapshot_outcome two user asked now else std.Err reply.WrongHost) a)))

  pub led_alike : (request' : Request) → SeesTheSame user (used request' loaded) one two → outcome one loaded fetched user request' now ≡ outcome two loaded fetched user request' now
  unfolding outcome
  led_alike request' same = go (asked_of user request') refl
    where
      go : (r : Result ReadRequest EntryFault) → asked_of user request' ≡ r →
          (elim r as (λ _. Result Rec Reply) [ std.Ok asked ↦ asked_outcome one loaded fetched user asked now | std.Err fault ↦ std.Err (fault_reply fault) ])
          ≡ (elim r as (λ _. Result Rec Reply) [ std.Ok asked ↦ asked_outcome two loaded fetched user asked now | std.Err fault ↦ std.Err (fault_reply fault) ])
      go (std.Err fault) e = refl
      go (std.Ok asked) e =
          let read = read_as user loaded request' asked e in
          asked_alike asked (subst (λ l. SeesTheSame user l one two) read.uses same) read.well

pub answers_agree : AnswersAgree
unfolding answer
answers_agree user loaded fetched request' now one two is is' agree = go (bytes_eq user one.owner) refl
  where
    go : (b : Bool) → bytes_eq user one.owner ≡ b → answer_of one (outcome one loaded fetched user request' now) ≡ answer_of two (outcome two loaded fetched user request' now)
    go true own = ap (λ log. answer_of log (outcome log loaded fetched user request' now)) (same_log one two agree.owner agree.limits (agree.for_owner ((bytes_eq-Decides user one.owner).0 own)))
    go false own =
        let stranger : user ≡ one.owner → ⊥ = λ h. false≢true (sym own ∙ (bytes_eq-Decides user one.owner).1 h) in
        led_same one two (outcome one loaded fetched user request' now) (outcome two loaded fetched user request' now) agree.limits agree.length agree.bytes
        (led_alike user loaded fetched now one two is is' agree.owner agree.length stranger request' (agree.for_others stranger (used request' loaded) (Contains-head (used request' loaded) [])))
