-- The record that a request adds fits.
use Rattle.std.proofs.Common.{◌≡◌, ℕ, zero, suc, ◌+◌, ◌<◌, ◌≤◌, Bool, true, false, not, ◌&&◌, ◌||◌, List, [], ◌∷◌, ◌++◌, length, take, refl, sym, ap, subst, ◌∙◌, ◌⊎◌, inl, inr, arith, Option, Some, None, bytes_eq}
use Rattle.std.specs.Prelude.{if◌then◌else◌, ⊤, Contains, MatchOption, IsSome, Result, is_none, int_le, is_some, nat_lt, negsuc, ◌==◌, slice_get, codes}
use Rattle.std.specs.Prelude as std
use Rattle.std.specs.List.{list_any, position}
use Rattle.std.specs.Option.{option_and_then, option_map}
use Rattle.std.proofs.Math.Seq.{take-length}
use Rattle.std.proofs.lemmas.List.{append-nil, take-append-le}
use Rattle.std.proofs.lemmas.List.Elements.{Contains-append_left, Contains-append_right}
use Rattle.std.proofs.lemmas.Bool.{false≢true, or_parts, cases_order, eqb-true, not-false, and_parts, eq-eqb}
use Rattle.std.proofs.lemmas.Slice.Eq.{bytes_eq-Decides}
use Rattle.up_names.specs.PathNames.{PathName, cut, control_of}
use Rattle.up_names.specs.PathOrder.{path_eq}
use Rattle.up_names.specs.declared.fault.TextFault.{TextFault}
use Rattle.up_names.specs.declared.fault.TextFault.TheVariants as fault
use Rattle.up_names.specs.declared.paths.Control.{Control}
use Rattle.up_names.specs.declared.paths.Control.TheVariants as control
use Rattle.up_rights.specs.declared.Right.TheVariants as right
use Rattle.up_access.specs.AccessTexts.{access_of}
use Rattle.up_group.specs.GroupTexts.{group_of}
use Rattle.up_entry.specs.Checking.{checked_as}
use Rattle.up_entry.specs.ControlFiles.{is_control_file, is_ordinary}
use Rattle.up_entry.specs.FixedForm.{HasFixedForm}
use Rattle.up_entry.specs.Rules.{is_directory}
use Rattle.up_entry.specs.declared.entries.Entry.{Entry}
use Rattle.up_entry.specs.declared.entries.Kind.{Kind}
use Rattle.up_entry.specs.declared.entries.Kind.TheVariants.{File, Directory, Link}
use Rattle.up_entry.specs.declared.fault.EntryFault.{EntryFault}
use Rattle.up_entry.specs.declared.puts.Checked.{Checked}
use Rattle.up_entry.specs.declared.records.Rec.{Rec}
use Rattle.up_entry.specs.declared.records.Rec.TheVariants as rec
use Rattle.up_entry.proofs.CheckedLemmas.{checked_kept}
use Rattle.up_policy.proofs.PathLists.{Contains-cons, Contains-head, no_member}
use Rattle.up_policy.specs.Loadings.{Loading}
use Rattle.up_policy.specs.Trees.{owns_snapshots}
use Rattle.up_wire.specs.declared.replies.Reply.{Reply}
use Rattle.up_wire.specs.declared.replies.Reply.TheVariants as reply
use Rattle.up_log_tree.specs.declared.node.Node.{Node}
use Rattle.up_log_tree.specs.Trees.{Tree, node_at, tree_of, kind_of, is_file, is_link, children}
use Rattle.up_log_tree.specs.Fits.{Fits, HasDirectory, HasPlace, MayReplace, TextFits, control_for}
use Rattle.up_log_tree.specs.Logs.{Log}
use Rattle.up_log_tree.specs.Sizes.{size_of}
use Rattle.up_log_tree.proofs.Paths.{cut_whole, parent_is, parent_none, some_none, some_same}
use Rattle.up_list.specs.Checks.{check, first_link, link_at, ways_to, ways, ways_before}
use Rattle.up_list.specs.Changes.{◌>>=◌, added_by, is_full, unless, refuse, right_to_put}
use Rattle.up_list.specs.Entries.{entry_of, if_link}
use Rattle.up_list.specs.Looks.{look_now}
use Rattle.up_answers.specs.Deletes.{delete_outcome}
use Rattle.up_answers.specs.Fetching.{Fetched, fetch_for, is_failed, joined_bytes, parsed, parsed_as, text_put}
use Rattle.up_answers.specs.Laws.{AddedRecordsFit, IsWhole}
use Rattle.up_answers.specs.Puts.{holds, is_in_file, is_new, lacks_parent, place_refusal, put_outcome, wanted}
use Rattle.up_entry.specs.Checking.{path_or, rule}
use Rattle.up_entry.specs.declared.puts.PutEntry.{PutEntry}
use Rattle.up_entry.specs.declared.what.What.TheVariants as what
use Rattle.up_names.proofs.CutLemmas.{before_first-none, none_before}
use Rattle.up_names.proofs.Owners.{at_most_254}
use Rattle.up_names.proofs.PathAgain.{path_of-again}
use Rattle.up_names.proofs.PathLaws.{canonical-proper}
use Rattle.up_wire.specs.declared.requests.Request.{Request}
use Rattle.up_wire.specs.declared.requests.Request.TheVariants as request
use Rattle.up_log_tree.specs.Fits.{is_snap_at, root_of, snapshot_user}
use Rattle.up_log_tree.specs.Rights.{is_group}
use Rattle.up_log_tree.specs.Snapshots.{snap_at}
use Rattle.up_log_tree.proofs.Paths.{path_same}
use Rattle.up_list.specs.declared.asking.ReadRequest.{ReadRequest}
use Rattle.up_list.specs.declared.asking.ReadRequest.TheVariants.{Lookup, WhichAccess, GroupText, Delete, Put, Glob, Watch}
use Rattle.up_list.specs.Asking.{asked_of, owner_asked, pattern_or_fault}
use Rattle.up_answers.specs.Answers.{added, asked_outcome, fault_reply, log_owner, outcome, tree_outcome}
use Rattle.up_answers.specs.SnapshotReplies.{snapshot_outcome, snapshot_put, snapshot_record, takes_snapshot}
use Rattle.up_answers.specs.SnapshotTrees.{snapshot_look, snapshot_tree}
use Rattle.up_answers.proofs.AlikeLemmas.{first_none, passed_links}
use Rattle.up_answers.proofs.AnswerLemmas.{asked_same, not_asked, plain_owner, step_ok}
use Rattle.up_answers.proofs.BaseLemmas.{IsPlain, no_suffix}
use Rattle.up_answers.proofs.ChangeLemmas.{unless_ok}
use Rattle.up_answers.proofs.QuietLemmas.{slice_get-front, slice_get-last}

-- ---- what a change that is made tells

pub bind_ok : {A B : Type 0} (m : Result A Reply) (k : A → Result B Reply) (y : B) → (m >>= k) ≡ std.Ok y → (x : A) × (m ≡ std.Ok x) × (k x ≡ std.Ok y)
bind_ok (std.Ok x) k y h = (x, refl, h)
bind_ok (std.Err e) k y h = absurd (cc)

pub ok_same : {A : Type 0} (x y : A) → ◌≡◌ {A = Result A Reply} (std.Ok x) (std.Ok y) → x ≡ y
ok_same x y h = cc

pub err_ok : {A : Type 0} (e : Reply) (y : A) → ◌≡◌ {A = Result A Reply} (std.Err e) (std.Ok y) → ⊥
err_ok e y h = absurd (cc)

-- nothing, or the record that a request leads to
pub added_cases : (log : Log) (led : Result Rec Reply) → (added_by log led ≡ []) ⊎ ((record' : Rec) × (led ≡ std.Ok record') × (added_by log led ≡ record' ∷ []))
unfolding added_by
added_cases log (std.Err given) = inl refl
added_cases log (std.Ok record') = go (nat_lt log.limits.largest (size_of record') || is_full log (size_of record')) refl
  where
    go : (b : Bool) → (nat_lt log.limits.largest (size_of record') || is_full log (size_of record')) ≡ b →
        ((if nat_lt log.limits.largest (size_of record') || is_full log (size_of record') then [] else record' ∷ []) ≡ []) ⊎ ((r : Rec) × (◌≡◌ {A = Result Rec Reply} (std.Ok record') (std.Ok r)) × ((if nat_lt log.limits.largest (size_of record') || is_full log (size_of record') then [] else record' ∷ []) ≡ r ∷ []))
    go true e = inl (ap (λ b. if b then [] else record' ∷ []) e)
    go false e = inr (record', refl, ap (λ b. if b then [] else record' ∷ []) e)

-- ---- one more record

pub with_one : (log : Log) (record' : Rec) → IsWhole log → Fits log.owner log.records record' → IsWhole (record log { records = log.records ++ record' ∷ [] })
with_one log record' is fits = record { plain = is.plain; fitting = record { each = λ n r h. go n r h (cases_order n (length log.records)) } }
  where
    past : (xs : List Rec) (n : ℕ) → length xs < n → slice_get (xs ++ record' ∷ []) n ≡ None
    past [] zero h = absurd (omega arith)
    past [] (suc n) h = refl
    past (x ∷ xs) zero h = absurd (omega arith)
    past (x ∷ xs) (suc n) h = past xs n (omega arith)

    go : (n : ℕ) (r : Rec) → slice_get (log.records ++ record' ∷ []) n ≡ Some r → (n ≡ length log.records) ⊎ ((n < length log.records) ⊎ (length log.records < n)) → Fits log.owner (take n (log.records ++ record' ∷ [])) r
    go n r h (inl at) =
        let same : record' ≡ r = some_same record' r (sym (slice_get-last log.records record') ∙ (ap (slice_get (log.records ++ record' ∷ [])) (sym at) ∙ h)) in
        subst (Fits log.owner (take n (log.records ++ record' ∷ []))) same
        (subst (λ rs. Fits log.owner rs record') (sym (ap (λ k. take k (log.records ++ record' ∷ [])) at ∙ (take-append-le (length log.records) log.records (record' ∷ []) (omega arith) ∙ take-length log.records))) fits)
    go n r h (inr (inl less)) =
        subst (λ rs. Fits log.owner rs r) (sym (take-append-le n log.records (record' ∷ []) (omega arith))) (is.fitting.each n r (sym (slice_get-front log.records (record' ∷ []) n less) ∙ h))
    go n r h (inr (inr more)) = absurd (some_none r (sym h ∙ past log.records n more))

-- ---- refusals that did not come

refuse_ok : (b : Bool) (e : Reply) (x : ⊤) → refuse b e ≡ std.Ok x → b ≡ false
refuse_ok true e x h = absurd (cc)
refuse_ok false e x h = refl

ways_to_has : (n m : ℕ) (path : PathName) → m ≤ n → Contains (ways_to n path) (cut m path)
ways_to_has zero m path h = subst (λ k. Contains (ways_to 0 path) (cut k path)) (let e : 0 ≡ m = omega arith in e) (Contains-head (cut 0 path) [])
ways_to_has (suc n) m path h = elim (cases_order m (suc n)) [
  | inl same ↦ subst (λ k. Contains (ways_to (suc n) path) (cut k path)) (sym same) (Contains-append_right (ways_to n path) (cut (suc n) path ∷ []) (cut (suc n) path) (Contains-head (cut (suc n) path) []))
  | inr apart ↦ elim apart [
    | inl less ↦ Contains-append_left (ways_to n path) (cut (suc n) path ∷ []) (cut m path) (ways_to_has n m path (omega arith))
    | inr more ↦ absurd (omega arith)
  ]
]

ways_has : (path : PathName) (m : ℕ) → m ≤ length path.elements → Contains (ways path) (cut m path)
unfolding ways
ways_has path m h = ways_to_has (length path.elements) m path h

no_link : (tree : Tree) (path : PathName) (node : Node) → node_at tree path ≡ Some node → link_at tree path ≡ None → is_link (kind_of node) ≡ false
no_link tree path node there none = go (is_link (kind_of node)) refl (sym (ap (λ o. option_and_then if_link (option_map entry_of o)) there) ∙ none)
  where
    go : (b : Bool) → is_link (kind_of node) ≡ b → (if is_link (kind_of node) then Some node.entry else None) ≡ None → is_link (kind_of node) ≡ false
    go false e h = e
    go true e h = absurd (some_none node.entry (sym (ap (λ b. if b then Some node.entry else None) e) ∙ h))

of_kind : (k : Kind) → is_directory k ≡ false → is_link k ≡ false → k ≡ File
of_kind File d l = refl
of_kind Directory d l = absurd (false≢true (sym d))
of_kind Link d l = absurd (false≢true (sym l))

directory_kind : (k : Kind) → is_file k ≡ false → is_link k ≡ false → k ≡ Directory
directory_kind File f l = absurd (false≢true (sym f))
directory_kind Directory f l = refl
directory_kind Link f l = absurd (false≢true (sym l))

not_directory : (k : Kind) → is_directory k ≡ false → k ≡ Directory → ⊥
not_directory File d h = absurd (cc)
not_directory Directory d h = absurd (false≢true (sym d))
not_directory Link d h = absurd (cc)

-- ---- the places of a Put

module _ (tree : Tree) (put : Checked) (links : first_link tree (ways put.entry.name) ≡ None) where
  unlinked : (m : ℕ) → m ≤ length put.entry.name.elements → link_at tree (cut m put.entry.name) ≡ None
  unlinked m h = first_none tree (ways put.entry.name) links (cut m put.entry.name) (ways_has put.entry.name m h)

  placed_parent : lacks_parent tree put.entry.name ≡ false → is_in_file tree put.entry.name ≡ false → HasPlace put.entry.name.owner tree put.entry.name
  placed_parent there above = go (length put.entry.name.elements) refl
    where
      name : PathName
      name = put.entry.name

      node : (o : Option Node) (n : ℕ) → node_at tree (cut n put.entry.name) ≡ o → n ≤ length put.entry.name.elements → is_none o ≡ false → holds o (λ node. is_file (kind_of node)) ≡ false → HasDirectory tree (cut n put.entry.name)
      node None n e low h f = absurd (false≢true (sym h))
      node (Some x) n e low h f = (x, e, directory_kind (kind_of x) f (no_link tree (cut n put.entry.name) x e (unlinked n low)))

      go : (l : ℕ) → length put.entry.name.elements ≡ l → HasPlace put.entry.name.owner tree put.entry.name
      go zero e = subst (λ o. MatchOption o (put.entry.name.owner ≡ put.entry.name.owner) (HasDirectory tree)) (sym (parent_none put.entry.name e)) refl
      go (suc n) e =
          let dir = parent_is put.entry.name n e in
          subst (λ o. MatchOption o (put.entry.name.owner ≡ put.entry.name.owner) (HasDirectory tree)) (sym dir)
          (node (node_at tree (cut n put.entry.name)) n refl (omega arith)
          (sym (ap (λ o. elim o as (λ _. Bool) [ None ↦ false | Some parent ↦ is_none (node_at tree parent) ]) dir) ∙ there)
          (sym (ap (λ o. elim o as (λ _. Bool) [ None ↦ false | Some parent ↦ holds (node_at tree parent) (λ node. is_file (kind_of node)) ]) dir) ∙ above))

  placed_item : (found : Option Node) → node_at tree put.entry.name ≡ found → (holds found (λ node. is_directory (kind_of node)) && not (is_directory put.entry.attr.kind)) ≡ false → (is_some found && (is_new put.sequence || is_directory put.entry.attr.kind)) ≡ false →
      MayReplace found put.entry.attr.kind
  placed_item None e d n = tt
  placed_item (Some node) e d n =
      let plain : is_directory put.entry.attr.kind ≡ false = (or_parts (is_new put.sequence) (is_directory put.entry.attr.kind) n).1 in
      let kind : is_directory (kind_of node) ≡ false = both (is_directory (kind_of node)) (is_directory put.entry.attr.kind) plain d in
      let link = no_link tree put.entry.name node e (ap (link_at tree) (sym (cut_whole put.entry.name)) ∙ unlinked (length put.entry.name.elements) (omega arith)) in
      (of_kind (kind_of node) kind link, not_directory put.entry.attr.kind plain)
    where
      both : (a b : Bool) → b ≡ false → (a && not b) ≡ false → a ≡ false
      both true true h k = absurd (false≢true (sym h))
      both true false h k = absurd (false≢true (sym k))
      both false b h k = refl

-- ---- the text of a Put

parsed_ok : {X : Type 0} (text text' : List ℕ) (said : Result X TextFault) → parsed text said ≡ std.Ok text' → (x : X) × (said ≡ std.Ok x) × (text ≡ text')
parsed_ok text text' (std.Ok x) h = (x, refl, ok_same text text' h)
parsed_ok text text' (std.Err (fault.BadText line)) h = absurd (cc)
parsed_ok text text' (std.Err fault.OutOfMemory) h = absurd (cc)

parsed_fits : (owner : List ℕ) (c : Control) (text text' : List ℕ) → is_ordinary c ≡ false → parsed_as owner c text ≡ std.Ok text' → TextFits owner c text'
parsed_fits owner control.Access text text' other h = let found = parsed_ok text text' (access_of owner text) h in (found.0, ap (access_of owner) (sym found.2) ∙ found.1)
parsed_fits owner control.Group text text' other h = let found = parsed_ok text text' (group_of owner text) h in (found.0, ap (group_of owner) (sym found.2) ∙ found.1)
parsed_fits owner control.Ordinary text text' other h = absurd (false≢true (sym other))

-- what is kept of a text that is no control file's
abbrev put_text : Bool → Bool → Result (List ℕ) Reply → Result (List ℕ) Reply
put_text is_control failed read = if not is_control then std.Ok [] else if failed then std.Err reply.Io else read

text_is : (owner : List ℕ) (fetched : Fetched) (entry : Entry) → text_put owner fetched entry
    ≡ put_text (is_control_file entry.attr.kind entry.name) (list_any (λ block. is_failed (fetch_for fetched block)) entry.blocks) (joined_bytes fetched entry.blocks >>= parsed_as owner (control_of entry.name))
unfolding text_put
text_is owner fetched entry = refl

text_by : (owner : List ℕ) (fetched : Fetched) (entry : Entry) (kind : Kind) (text : List ℕ) (failed : Bool) →
    put_text (is_control_file kind entry.name) failed (joined_bytes fetched entry.blocks >>= parsed_as owner (control_of entry.name)) ≡ std.Ok text → TextFits owner (control_for kind entry.name) text
text_by owner fetched entry Directory text failed h = sym (ok_same [] text h)
text_by owner fetched entry Link text failed h = sym (ok_same [] text h)
text_by owner fetched entry File text failed h = go (control_of entry.name) refl failed h
  where
    ordinary : (c : Control) → is_ordinary c ≡ true → text ≡ [] → TextFits owner c text
    ordinary control.Ordinary o e = e
    ordinary control.Access o e = absurd (false≢true o)
    ordinary control.Group o e = absurd (false≢true o)

    by : (c : Control) (failed : Bool) (b : Bool) → is_ordinary c ≡ b → put_text (not b) failed (joined_bytes fetched entry.blocks >>= parsed_as owner c) ≡ std.Ok text → TextFits owner c text
    by c failed true o k = ordinary c o (sym (ok_same [] text k))
    by c true false o k = absurd (err_ok reply.Io text k)
    by c false false o k =
        let found = bind_ok (joined_bytes fetched entry.blocks) (parsed_as owner c) text k in
        parsed_fits owner c found.0 text o found.2

    go : (c : Control) → control_of entry.name ≡ c → (failed : Bool) → put_text (not (is_ordinary (control_of entry.name))) failed (joined_bytes fetched entry.blocks >>= parsed_as owner (control_of entry.name)) ≡ std.Ok text → TextFits owner (control_of entry.name) text
    go c e failed k = by (control_of entry.name) failed (is_ordinary (control_of entry.name)) refl k

text_fits : (owner : List ℕ) (fetched : Fetched) (entry : Entry) (text : List ℕ) → text_put owner fetched entry ≡ std.Ok text → TextFits owner (control_for entry.attr.kind entry.name) text
text_fits owner fetched entry text h =
    text_by owner fetched entry entry.attr.kind text (list_any (λ block. is_failed (fetch_for fetched block)) entry.blocks) (sym (text_is owner fetched entry) ∙ h)

-- ---- the records

-- the form does not look at the sequence
form_at : (entry : Entry) (n : ℕ) → HasFixedForm entry → HasFixedForm (record entry { sequence = n })
form_at entry n form = record {
  signed_name = form.signed_name;
  packing = form.packing;
  whole = form.whole;
  link = form.link;
  blocks = form.blocks;
  packdata = form.packdata;
  root = form.root;
  control = form.control;
  control_size = form.control_size;
}

module _ (log : Log) (loaded : Loading) (user : List ℕ) where
  pub delete_fits : (path : PathName) (record' : Rec) → delete_outcome (look_now log loaded user) path ≡ std.Ok record' → Fits log.owner log.records record'
  unfolding delete_outcome
  delete_fits path record' h =
      let tree = tree_of log.records in
      let a = bind_ok (unless (check (look_now log loaded user) (ways_before path) path (Some right.Delete))) (λ ok. refuse (is_none (node_at tree path)) reply.NotExist >>= λ there. refuse (not (length (children tree path) == 0)) reply.NotEmpty >>= λ empty. std.Ok (rec.Delete path)) record' h in
      let b = bind_ok (refuse (is_none (node_at tree path)) reply.NotExist) (λ there. refuse (not (length (children tree path) == 0)) reply.NotEmpty >>= λ empty. std.Ok (rec.Delete path)) record' a.2 in
      let c = bind_ok (refuse (not (length (children tree path) == 0)) reply.NotEmpty) (λ empty. std.Ok (rec.Delete path)) record' b.2 in
      subst (Fits log.owner log.records) (ok_same (rec.Delete path) record' c.2) (record {
        there = some (node_at tree path) (refuse_ok (is_none (node_at tree path)) reply.NotExist b.0 b.1);
        empty = none (children tree path) (refuse_ok (not (length (children tree path) == 0)) reply.NotEmpty c.0 c.1);
      })
    where
      some : (o : Option Node) → is_none o ≡ false → IsSome o
      some None h = absurd (false≢true (sym h))
      some (Some n) h = refl

      none : (xs : List PathName) → not (length xs == 0) ≡ false → xs ≡ []
      none [] h = refl
      none (x ∷ xs) h = absurd (let e : suc (length xs) ≡ 0 = eqb-true (suc (length xs)) 0 (not-false (suc (length xs) == 0) h) in let z : ⊥ = omega (arith, e) in z)

  pub put_fits : (fetched : Fetched) (put : Checked) (record' : Rec) → HasFixedForm put.entry → put.entry.name.owner ≡ log.owner → put_outcome (look_now log loaded user) (length log.records) fetched put ≡ std.Ok record' → Fits log.owner log.records record'
  unfolding put_outcome place_refusal
  put_fits fetched put record' form owned h =
      let tree = tree_of log.records in
      let path : PathName = put.entry.name in
      let found = node_at tree path in
      let last : List ℕ → Result Rec Reply = λ text. std.Ok (rec.Put (record (put.entry) { sequence = length log.records + 1 }) text) in
      let a = bind_ok (unless (check (look_now log loaded user) (ways path) path (Some (right_to_put found)))) (λ ok. place_refusal found tree put >>= λ placed. text_put log.owner fetched put.entry >>= last) record' h in
      let b = bind_ok (place_refusal found tree put) (λ placed. text_put log.owner fetched put.entry >>= last) record' a.2 in
      let c = bind_ok (text_put log.owner fetched put.entry) last record' b.2 in
      let links = passed_links (look_now log loaded user) (ways path) path (Some (right_to_put found)) (unless_ok (check (look_now log loaded user) (ways path) path (Some (right_to_put found))) a.1) in
      let p = bind_ok (refuse (lacks_parent tree path || (is_some (wanted put.sequence) && is_none found)) reply.NotExist) _ b.0 b.1 in
      let q = bind_ok (refuse (is_in_file tree path) reply.NotDir) _ b.0 p.2 in
      let r = bind_ok (refuse (holds found (λ node. is_directory (kind_of node)) && not (is_directory put.entry.attr.kind)) reply.IsDir) _ b.0 q.2 in
      let s = bind_ok (refuse (is_some found && (is_new put.sequence || is_directory put.entry.attr.kind)) reply.Exist) _ b.0 r.2 in
      subst (Fits log.owner log.records) (ok_same (rec.Put (record (put.entry) { sequence = length log.records + 1 }) c.0) record' c.2) (record {
        form = form_at put.entry (length log.records + 1) form;
        sequence = refl;
        place = subst (λ o. HasPlace o tree path) owned (placed_parent tree put links (or_parts (lacks_parent tree path) (is_some (wanted put.sequence) && is_none found) (refuse_ok (lacks_parent tree path || (is_some (wanted put.sequence) && is_none found)) reply.NotExist p.0 p.1)).0 (refuse_ok (is_in_file tree path) reply.NotDir q.0 q.1));
        replaces = placed_item tree put links found refl (refuse_ok (holds found (λ node. is_directory (kind_of node)) && not (is_directory put.entry.attr.kind)) reply.IsDir r.0 r.1) (refuse_ok (is_some found && (is_new put.sequence || is_directory put.entry.attr.kind)) reply.Exist s.0 s.1);
        parses = text_fits log.owner fetched put.entry c.0 c.1;
      })

-- ---- a snapshot

or_right : (a b : Bool) → b ≡ true → (a || b) ≡ true
or_right true b h = refl
or_right false b h = h

has_any_of : {X : Type 0} (p : X → Bool) (xs : List X) (x : X) → Contains xs x → p x ≡ true → list_any p xs ≡ true
has_any_of p [] x h passes = absurd (no_member x h)
has_any_of p (y ∷ ys) x h passes = elim (Contains-cons y x ys h) [
  | inl same ↦ ap (λ b. b || list_any p ys) (ap p same ∙ passes)
  | inr behind ↦ or_right (p y) (list_any p ys) (has_any_of p ys x behind passes)
]

none_passes : (p : Rec → Bool) (xs : List Rec) → position p xs ≡ None → list_any p xs ≡ false
none_passes p xs none = ap (list_any p) (none_before p xs (sym none)) ∙ before_first-none p xs

no_snap_at : (records : List Rec) (time : ℕ) → is_some (snap_at records time) ≡ false → position (is_snap_at time) records ≡ None
unfolding snap_at
no_snap_at records time h = go (position (is_snap_at time) records) refl
  where
    go : (o : Option ℕ) → position (is_snap_at time) records ≡ o → position (is_snap_at time) records ≡ None
    go None e = e
    go (Some n) e = absurd (false≢true (sym h ∙ ap (λ o. is_some (option_map suc o)) e))

snapshot_made : (log : Log) (now : ℕ) (record' : Rec) → snapshot_record log now ≡ std.Ok record' → (is_none (node_at (tree_of log.records) (root_of log.owner)) ≡ false) × (is_some (snap_at log.records now) ≡ false) × (rec.Snap now ≡ record')
unfolding snapshot_record
snapshot_made log now record' h =
    let a = bind_ok (refuse (is_none (node_at (tree_of log.records) (root_of log.owner))) reply.NotExist) (λ rooted. refuse (is_some (snap_at log.records now)) reply.Exist >>= λ new. std.Ok (rec.Snap now)) record' h in
    let b = bind_ok (refuse (is_some (snap_at log.records now)) reply.Exist) (λ new. std.Ok (rec.Snap now)) record' a.2 in
    (refuse_ok (is_none (node_at (tree_of log.records) (root_of log.owner))) reply.NotExist a.0 a.1, refuse_ok (is_some (snap_at log.records now)) reply.Exist b.0 b.1, ok_same (rec.Snap now) record' b.2)

snap_fits : (log : Log) (now : ℕ) → IsPlain log.owner → length (snapshot_user log.owner) ≤ 254 → now < 253402207200 →
    is_none (node_at (tree_of log.records) (root_of log.owner)) ≡ false → is_some (snap_at log.records now) ≡ false → Fits log.owner log.records (rec.Snap now)
snap_fits log now plain short calendar rooted' new = record {
  plain = no_suffix log.owner plain;
  short = short;
  rooted = some (node_at (tree_of log.records) (root_of log.owner)) rooted';
  calendar = calendar;
  new = λ there. false≢true (sym (none_passes (is_snap_at now) log.records (no_snap_at log.records now new)) ∙ has_any_of (is_snap_at now) log.records (rec.Snap now) there (eq-eqb now now refl));
}
  where
    some : (o : Option Node) → is_none o ≡ false → IsSome o
    some None h = absurd (false≢true (sym h))
    some (Some n) h = refl

-- a Put on the snapshot tree adds a snapshot, or nothing
put_on_snapshots : (log : Log) (user : List ℕ) (put : Checked) (now : ℕ) (record' : Rec) → IsPlain log.owner → now < 253402207200 → length put.entry.name.owner ≤ 254 →
    snapshot_put log (snapshot_look log user) put.entry now ≡ std.Ok record' → Fits log.owner log.records record'
unfolding snapshot_put
put_on_snapshots log user put now record' plain calendar short h = go (takes_snapshot log put.entry) refl passed.2
  where
    path : PathName
    path = put.entry.name

    passed : (x : ⊤) × (unless (check (snapshot_look log user) (ways put.entry.name) put.entry.name None) ≡ std.Ok x) × ((if takes_snapshot log put.entry then snapshot_record log now else std.Err (reply.Permission (right_to_put (node_at (snapshot_tree log) put.entry.name)))) ≡ std.Ok record')
    passed = bind_ok (unless (check (snapshot_look log user) (ways put.entry.name) put.entry.name None)) (λ seen. if takes_snapshot log put.entry then snapshot_record log now else std.Err (reply.Permission (right_to_put (node_at (snapshot_tree log) put.entry.name)))) record' h

    go : (b : Bool) → takes_snapshot log put.entry ≡ b → (if takes_snapshot log put.entry then snapshot_record log now else std.Err (reply.Permission (right_to_put (node_at (snapshot_tree log) put.entry.name)))) ≡ std.Ok record' → Fits log.owner log.records record'
    go false e k = absurd (err_ok (reply.Permission (right_to_put (node_at (snapshot_tree log) put.entry.name))) record' (sym (ap (λ b. if b then snapshot_record log now else std.Err (reply.Permission (right_to_put (node_at (snapshot_tree log) put.entry.name)))) e) ∙ k))
    go true e k =
        let made = snapshot_made log now record' (sym (ap (λ b. if b then snapshot_record log now else std.Err (reply.Permission (right_to_put (node_at (snapshot_tree log) put.entry.name)))) e) ∙ k) in
        let named = path_same put.entry.name (record { owner = snapshot_user log.owner; elements = codes "TakeSnapshot" ∷ [] }) (and_parts (is_file put.entry.attr.kind) (path_eq put.entry.name (record { owner = snapshot_user log.owner; elements = codes "TakeSnapshot" ∷ [] })) e).1 in
        subst (Fits log.owner log.records) made.2 (snap_fits log now plain (subst (λ n. n ≤ 254) (ap (λ (p : PathName). length p.owner) named) short) calendar made.0 made.1)

-- ---- all requests

-- the entry of a Put has the form of entries, under a user's name
abbrev pub IsFormed : ReadRequest → Type 0
IsFormed (Put put) = HasFixedForm put.entry × (length put.entry.name.owner ≤ 254)
IsFormed (Lookup path) = ⊤
IsFormed (WhichAccess path) = ⊤
IsFormed (GroupText path) = ⊤
IsFormed (Delete path) = ⊤
IsFormed (Glob pattern) = ⊤
IsFormed (Watch path sequence) = ⊤

put_formed : (put : PutEntry) (user : List ℕ) (checked : Checked) → checked_as put user ≡ std.Ok checked → HasFixedForm checked.entry × (length checked.entry.name.owner ≤ 254)
put_formed put user checked h =
    let is = (checked_kept put user).at checked h in
    let proper = canonical-proper checked.entry.name (path_of-again put.name checked.entry.name is.name) in
    (is.form, at_most_254 checked.entry.name.owner checked.entry.name.owner proper.owner)

formed : (user : List ℕ) (request' : Request) (asked : ReadRequest) → asked_of user request' ≡ std.Ok asked → IsFormed asked
unfolding asked_of
formed user (request.Lookup text) asked h = let a = step_ok (path_or what.Name text) _ asked h in subst IsFormed (asked_same (Lookup a.0) asked a.2) tt
formed user (request.WhichAccess text) asked h = let a = step_ok (path_or what.Name text) _ asked h in subst IsFormed (asked_same (WhichAccess a.0) asked a.2) tt
formed user (request.GroupText text) asked h =
    let a = step_ok (path_or what.Name text) _ asked h in
    let b = step_ok (rule what.GroupName (is_group a.0)) _ asked a.2 in
    subst IsFormed (asked_same (GroupText a.0) asked b.2) tt
formed user (request.Delete text) asked h = let a = step_ok (path_or what.Name text) _ asked h in subst IsFormed (asked_same (Delete a.0) asked a.2) tt
formed user (request.Put put) asked h = let a = step_ok (checked_as put user) _ asked h in subst IsFormed (asked_same (Put a.0) asked a.2) (put_formed put user a.0 a.1)
formed user (request.Glob text) asked h = let a = step_ok (pattern_or_fault text) _ asked h in subst IsFormed (asked_same (Glob a.0) asked a.2) tt
formed user (request.Watch text sequence) asked h =
    let a = step_ok (path_or what.Name text) _ asked h in
    let b = step_ok (rule what.Sequence (int_le (negsuc 1) sequence)) _ asked a.2 in
    let c = step_ok (rule what.SnapshotWatch (not (owns_snapshots (a.0).owner))) _ asked b.2 in
    subst IsFormed (asked_same (Watch a.0 sequence) asked c.2) tt
formed user (request.Get text) asked h = absurd (not_asked _ asked h)
formed user (request.StorePut bytes) asked h = absurd (not_asked _ asked h)
formed user (request.StoreDelete text) asked h = absurd (not_asked _ asked h)
formed user (request.KeyLookup text) asked h = absurd (not_asked _ asked h)
formed user (request.KeyPut card) asked h = absurd (not_asked _ asked h)

module _ (log : Log) (loaded : Loading) (fetched : Fetched) (user : List ℕ) (now : ℕ) (calendar : now < 253402207200) where
  on_tree : (asked : ReadRequest) (record' : Rec) → owner_asked asked ≡ log.owner → IsFormed asked → tree_outcome log loaded fetched user asked ≡ std.Ok record' → Fits log.owner log.records record'
  unfolding tree_outcome
  on_tree (Lookup path) record' owned form h = absurd (err_ok _ record' h)
  on_tree (WhichAccess path) record' owned form h = absurd (err_ok _ record' h)
  on_tree (GroupText path) record' owned form h = absurd (err_ok _ record' h)
  on_tree (Glob pattern) record' owned form h = absurd (err_ok _ record' h)
  on_tree (Watch path sequence) record' owned form h = absurd (err_ok _ record' h)
  on_tree (Delete path) record' owned form h = delete_fits log loaded user path record' h
  on_tree (Put put) record' owned form h = put_fits log loaded user fetched put record' form.0 owned h

  on_snapshots : (asked : ReadRequest) (record' : Rec) → IsPlain log.owner → IsFormed asked → snapshot_outcome log user asked now ≡ std.Ok record' → Fits log.owner log.records record'
  unfolding snapshot_outcome
  on_snapshots (Lookup path) record' plain form h = absurd (err_ok _ record' h)
  on_snapshots (WhichAccess path) record' plain form h = absurd (err_ok _ record' h)
  on_snapshots (GroupText path) record' plain form h = absurd (err_ok _ record' h)
  on_snapshots (Glob pattern) record' plain form h = absurd (err_ok _ record' h)
  on_snapshots (Watch path sequence) record' plain form h = absurd (err_ok _ record' h)
  on_snapshots (Delete path) record' plain form h = absurd (err_ok _ record' h)
  on_snapshots (Put put) record' plain form h = put_on_snapshots log user put now record' plain calendar form.1 h

  asked_fits : (asked : ReadRequest) (record' : Rec) → IsFormed asked → asked_outcome log loaded fetched user asked now ≡ std.Ok record' → Fits log.owner log.records record'
  unfolding asked_outcome
  asked_fits asked record' form h = go (bytes_eq (owner_asked asked) log.owner) refl (bytes_eq (log_owner (owner_asked asked)) log.owner) refl h
    where
      go : (a : Bool) → bytes_eq (owner_asked asked) log.owner ≡ a → (b : Bool) → bytes_eq (log_owner (owner_asked asked)) log.owner ≡ b →
          (if bytes_eq (owner_asked asked) log.owner then tree_outcome log loaded fetched user asked else if bytes_eq (log_owner (owner_asked asked)) log.owner then snapshot_outcome log user asked now else std.Err reply.WrongHost) ≡ std.Ok record' → Fits log.owner log.records record'
      go true e b f k =
          on_tree asked record' ((bytes_eq-Decides (owner_asked asked) log.owner).0 e) form
          (sym (ap (λ c. if c then tree_outcome log loaded fetched user asked else if bytes_eq (log_owner (owner_asked asked)) log.owner then snapshot_outcome log user asked now else std.Err reply.WrongHost) e) ∙ k)
      go false e true f k =
          on_snapshots asked record' (plain_owner log (owner_asked asked) e f) form
          (sym (ap (λ c. if c then tree_outcome log loaded fetched user asked else if bytes_eq (log_owner (owner_asked asked)) log.owner then snapshot_outcome log user asked now else std.Err reply.WrongHost) e
          ∙ ap (λ c. if c then snapshot_outcome log user asked now else std.Err reply.WrongHost) f) ∙ k)
      go false e false f k =
          absurd (err_ok reply.WrongHost record' (sym (ap (λ c. if c then tree_outcome log loaded fetched user asked else if bytes_eq (log_owner (owner_asked asked)) log.owner then snapshot_outcome log user asked now else std.Err reply.WrongHost) e
          ∙ ap (λ c. if c then snapshot_outcome log user asked now else std.Err reply.WrongHost) f) ∙ k))

  led_fits : (request' : Request) (record' : Rec) → outcome log loaded fetched user request' now ≡ std.Ok record' → Fits log.owner log.records record'
  unfolding outcome
  led_fits request' record' h = go (asked_of user request') refl h
    where
      go : (r : Result ReadRequest EntryFault) → asked_of user request' ≡ r → (elim r as (λ _. Result Rec Reply) [ std.Ok asked ↦ asked_outcome log loaded fetched user asked now | std.Err fault ↦ std.Err (fault_reply fault) ]) ≡ std.Ok record' → Fits log.owner log.records record'
      go (std.Err fault) e k = absurd (err_ok (fault_reply fault) record' k)
      go (std.Ok asked) e k = asked_fits asked record' (formed user request' asked e) k

pub added_records_fit : AddedRecordsFit
unfolding added
added_records_fit log loaded fetched user request' now is calendar = elim (added_cases log (outcome log loaded fetched user request' now)) [
  | inl none ↦ subst (λ rs. IsWhole (record log { records = log.records ++ rs })) (sym none) (subst (λ rs. IsWhole (record log { records = rs })) (sym (append-nil log.records)) is)
  | inr (record', asks, adds) ↦ subst (λ rs. IsWhole (record log { records = log.records ++ rs })) (sym adds) (with_one log record' is (led_fits log loaded fetched user now calendar request' record' asks))
]
