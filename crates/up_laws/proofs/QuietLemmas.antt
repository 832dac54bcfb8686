-- Where no fetch of a block failed, no request leads to Io; and where one did, none leads to a record.
use Rattle.std.proofs.Common.{◌≡◌, ℕ, ◌+◌, Bool, true, false, ◌&&◌, List, [], ◌∷◌, length, refl, sym, ap, ◌∙◌, Some, None, Result, Ok, Err, bytes_eq}
use Rattle.std.specs.Prelude.{if◌then◌else◌, codes}
use Rattle.std.specs.List.{list_any}
use Rattle.std.specs.Str.{bytes_eq}
use Rattle.std.proofs.lemmas.Bool.{false≢true}
use Rattle.up_names.specs.PathNames.{PathName, control_of}
use Rattle.up_names.specs.PathOrder.{path_eq}
use Rattle.up_entry.specs.ControlFiles.{is_control_file}
use Rattle.up_entry.specs.declared.entries.Entry.{Entry}
use Rattle.up_entry.specs.declared.entries.Kind.{Kind}
use Rattle.up_entry.specs.declared.entries.Kind.TheVariants.{File, Directory, Link}
use Rattle.up_entry.specs.declared.puts.Checked.{Checked}
use Rattle.up_entry.specs.declared.records.Rec.{Rec}
use Rattle.up_entry.specs.declared.records.Rec.TheVariants as rec
use Rattle.up_policy.specs.Loadings.{Loading}
use Rattle.up_wire.specs.declared.replies.Reply.{Reply}
use Rattle.up_wire.specs.declared.replies.Reply.TheVariants as reply
use Rattle.up_log_tree.specs.Trees.{is_file, node_at}
use Rattle.up_log_tree.specs.Fits.{snapshot_user}
use Rattle.up_log_tree.specs.Logs.{Log}
use Rattle.up_log_tree.proofs.Paths.{path_same}
use Rattle.up_list.specs.declared.asking.ReadRequest.{ReadRequest}
use Rattle.up_list.specs.declared.asking.ReadRequest.TheVariants.{Lookup, WhichAccess, GroupText, Delete, Put, Glob, Watch}
use Rattle.up_list.specs.Asking.{owner_asked}
use Rattle.up_list.specs.Changes.{◌>>=◌, right_to_put, unless}
use Rattle.up_list.specs.Checks.{check, ways}
use Rattle.up_list.specs.Looks.{Look, look_now}
use Rattle.up_answers.specs.Answers.{asked_outcome, log_owner, tree_outcome}
use Rattle.up_answers.specs.Fetching.{Fetched, fetch_for, is_failed, joined_bytes, parsed_as, text_put}
use Rattle.up_answers.specs.Puts.{place_refusal, put_outcome}
use Rattle.up_answers.specs.Routes.{locations_asked, locations_for, locations_of}
use Rattle.up_answers.specs.SnapshotReplies.{snapshot_outcome, snapshot_put, snapshot_record, takes_snapshot}
use Rattle.up_answers.specs.SnapshotTrees.{snapshot_look}
use Rattle.up_answers.proofs.FitLemmas.{bind_ok, err_ok}
use Rattle.up_dir.proofs.QuietLemmas as quiet
use Rattle.up_dir.proofs.QuietLemmas.{Fetches, leads_odd, text_by}
use Rattle.up_laws.specs.Turns.{any_failed}
use Rattle.up_laws.proofs.FetchLemmas.{failed_same}

-- where no fetch failed, none did of what a request puts
fetches : (io : Bool) (fetched : Fetched) (asked : ReadRequest) → (io ≡ true → any_failed fetched (locations_asked asked) ≡ false) → Fetches io fetched asked
fetches io fetched (Put put) none = λ counts is.
    sym (failed_same fetched put.entry.blocks) ∙ ap (λ b. any_failed fetched (if b then locations_of put.entry.blocks else [])) (sym is) ∙ none counts
fetches io fetched (Lookup path) none = tt
fetches io fetched (WhichAccess path) none = tt
fetches io fetched (GroupText path) none = tt
fetches io fetched (Delete path) none = tt
fetches io fetched (Glob pattern) none = tt
fetches io fetched (Watch path sequence) none = tt

pub asked_quiet : (io : Bool) (log : Log) (loaded : Loading) (fetched : Fetched) (user : List ℕ) (now : ℕ) (asked : ReadRequest) → (io ≡ true → any_failed fetched (locations_asked asked) ≡ false)
    → leads_odd io (asked_outcome log loaded fetched user asked now) ≡ false
asked_quiet io log loaded fetched user now asked none = quiet.asked_quiet io log loaded fetched user now asked (fetches io fetched asked none)

-- ---- a fetch that failed

module _ (log : Log) (loaded : Loading) (fetched : Fetched) (user : List ℕ) (now : ℕ) where
  failed_text : (owner : List ℕ) (entry : Entry) (text : List ℕ) → any_failed fetched (locations_for entry) ≡ true → text_put owner fetched entry ≡ Ok text → ⊥
  unfolding text_put
  failed_text owner entry text h k = go (is_control_file entry.attr.kind entry.name) h k
    where
      go : (b : Bool) → any_failed fetched (if b then locations_of entry.blocks else []) ≡ true →
          text_by b (list_any (λ block. is_failed (fetch_for fetched block)) entry.blocks) (joined_bytes fetched entry.blocks >>= parsed_as owner (control_of entry.name)) ≡ Ok text → ⊥
      go false h k = false≢true h
      go true h k =
          err_ok reply.Io text (sym (ap (λ f. if f then Err reply.Io else (joined_bytes fetched entry.blocks >>= parsed_as owner (control_of entry.name))) (sym (failed_same fetched entry.blocks) ∙ h)) ∙ k)

  failed_put : (look : Look) (n : ℕ) (put : Checked) (record' : Rec) → any_failed fetched (locations_for put.entry) ≡ true → put_outcome look n fetched put ≡ Ok record' → ⊥
  unfolding put_outcome
  failed_put look n put record' h k =
      let path : PathName = put.entry.name in
      let found = node_at look.tree path in
      let last : List ℕ → Result Rec Reply = λ text. Ok (rec.Put (record (put.entry) { sequence = n + 1 }) text) in
      let a = bind_ok (unless (check look (ways path) path (Some (right_to_put found)))) (λ ok. place_refusal found look.tree put >>= λ placed. text_put look.owner fetched put.entry >>= last) record' k in
      let b = bind_ok (place_refusal found look.tree put) (λ placed. text_put look.owner fetched put.entry >>= last) record' a.2 in
      let c = bind_ok (text_put look.owner fetched put.entry) last record' b.2 in
      failed_text look.owner put.entry c.0 h c.1

  -- the file that takes a snapshot is no control file
  taking_fetches_none : (entry : Entry) → takes_snapshot log entry ≡ true → any_failed fetched (locations_for entry) ≡ false
  taking_fetches_none entry h =
      let named : path_eq entry.name (record { owner = snapshot_user log.owner; elements = codes "TakeSnapshot" ∷ [] }) ≡ true = right_of (is_file entry.attr.kind) _ h in
      ap (λ b. any_failed fetched (if b then locations_of entry.blocks else [])) (go entry.attr.kind entry.name (path_same entry.name (record { owner = snapshot_user log.owner; elements = codes "TakeSnapshot" ∷ [] }) named))
    where
      right_of : (a b : Bool) → (a && b) ≡ true → b ≡ true
      right_of true b h = h
      right_of false b h = absurd (false≢true h)

      at_file : (kind : Kind) → is_control_file kind (record { owner = snapshot_user log.owner; elements = codes "TakeSnapshot" ∷ [] }) ≡ false
      at_file File = refl
      at_file Directory = refl
      at_file Link = refl

      go : (kind : Kind) (name : PathName) → name ≡ record { owner = snapshot_user log.owner; elements = codes "TakeSnapshot" ∷ [] } → is_control_file kind name ≡ false
      go kind name e = ap (is_control_file kind) e ∙ at_file kind

  failed_snapshot : (look : Look) (entry : Entry) (record' : Rec) → any_failed fetched (locations_for entry) ≡ true → snapshot_put log look entry now ≡ Ok record' → ⊥
  unfolding snapshot_put
  failed_snapshot look entry record' h k =
      let last : Result Rec Reply = if takes_snapshot log entry then snapshot_record log now else Err (reply.Permission (right_to_put (node_at look.tree entry.name))) in
      let a = bind_ok (unless (check look (ways entry.name) entry.name None)) (λ seen. last) record' k in
      go (takes_snapshot log entry) refl a.2
    where
      go : (b : Bool) → takes_snapshot log entry ≡ b → (if b then snapshot_record log now else Err (reply.Permission (right_to_put (node_at look.tree entry.name)))) ≡ Ok record' → ⊥
      go true e k = false≢true (sym (taking_fetches_none entry e) ∙ h)
      go false e k = err_ok (reply.Permission (right_to_put (node_at look.tree entry.name))) record' k

  failed_in_tree : (asked : ReadRequest) (record' : Rec) → any_failed fetched (locations_asked asked) ≡ true → tree_outcome log loaded fetched user asked ≡ Ok record' → ⊥
  unfolding tree_outcome
  failed_in_tree (Put put) record' h k = failed_put (look_now log loaded user) (length log.records) put record' h k
  failed_in_tree (Lookup path) record' h k = false≢true h
  failed_in_tree (WhichAccess path) record' h k = false≢true h
  failed_in_tree (GroupText path) record' h k = false≢true h
  failed_in_tree (Delete path) record' h k = false≢true h
  failed_in_tree (Glob pattern) record' h k = false≢true h
  failed_in_tree (Watch path sequence) record' h k = false≢true h

  failed_in_snapshots : (asked : ReadRequest) (record' : Rec) → any_failed fetched (locations_asked asked) ≡ true → snapshot_outcome log user asked now ≡ Ok record' → ⊥
  unfolding snapshot_outcome
  failed_in_snapshots (Put put) record' h k = failed_snapshot (snapshot_look log user) put.entry record' h k
  failed_in_snapshots (Lookup path) record' h k = false≢true h
  failed_in_snapshots (WhichAccess path) record' h k = false≢true h
  failed_in_snapshots (GroupText path) record' h k = false≢true h
  failed_in_snapshots (Delete path) record' h k = false≢true h
  failed_in_snapshots (Glob pattern) record' h k = false≢true h
  failed_in_snapshots (Watch path sequence) record' h k = false≢true h

  pub failed_adds_none : (asked : ReadRequest) (record' : Rec) → any_failed fetched (locations_asked asked) ≡ true → asked_outcome log loaded fetched user asked now ≡ Ok record' → ⊥
  unfolding asked_outcome
  failed_adds_none asked record' h = go (bytes_eq (owner_asked asked) log.owner) (bytes_eq (log_owner (owner_asked asked)) log.owner)
    where
      go : (a b : Bool) → (if a then tree_outcome log loaded fetched user asked else if b then snapshot_outcome log user asked now else Err reply.WrongHost) ≡ Ok record' → ⊥
      go true b k = failed_in_tree asked record' h k
      go false true k = failed_in_snapshots asked record' h k
      go false false k = err_ok reply.WrongHost record' k
