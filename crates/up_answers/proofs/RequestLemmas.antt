-- Agreement is kept by the same request.
use Rattle.std.proofs.Common.{◌≡◌, ℕ, ◌+◌, Bool, true, false, ◌||◌, List, [], ◌∷◌, ◌++◌, length, refl, sym, ap, subst, ◌∙◌, inl, inr, Option, Some, None, bytes_eq}
use Rattle.std.specs.Prelude.{if◌then◌else◌, Result, is_none, nat_le, nat_lt, not, ◌==◌}
use Rattle.std.specs.Prelude as std
use Rattle.std.specs.List.{sum_by}
use Rattle.std.proofs.lemmas.List.{append-nil, length_push}
use Rattle.std.proofs.lemmas.Bool.{false≢true}
use Rattle.std.proofs.lemmas.Slice.Eq.{bytes_eq-Decides}
use Rattle.up_names.specs.PathNames.{PathName, control_of}
use Rattle.up_names.specs.declared.paths.Control.TheVariants as control
use Rattle.up_rights.specs.declared.Right.{Right}
use Rattle.up_rights.specs.declared.Right.TheVariants as right
use Rattle.up_rights.specs.RightSets.{has_right}
use Rattle.up_entry.specs.declared.fault.EntryFault.{EntryFault}
use Rattle.up_entry.specs.declared.puts.Checked.{Checked}
use Rattle.up_entry.specs.declared.records.Rec.{Rec}
use Rattle.up_entry.specs.declared.records.Rec.TheVariants as rec
use Rattle.up_policy.specs.Loadings.{Loading}
use Rattle.up_policy.specs.Verdicts.{is_control, only_looks}
use Rattle.up_wire.specs.declared.replies.Reply.{Reply}
use Rattle.up_wire.specs.declared.replies.Reply.TheVariants as reply
use Rattle.up_wire.specs.declared.requests.Request.{Request}
use Rattle.up_log_tree.specs.declared.node.Node.{Node}
use Rattle.up_log_tree.specs.Trees.{children, node_at}
use Rattle.up_log_tree.specs.Logs.{Limits, Log, bytes_of}
use Rattle.up_log_tree.specs.Sizes.{size_of}
use Rattle.up_list.specs.declared.asking.ReadRequest.{ReadRequest}
use Rattle.up_list.specs.declared.asking.ReadRequest.TheVariants.{Lookup, WhichAccess, GroupText, Delete, Put, Glob, Watch}
use Rattle.up_list.specs.Asking.{asked_of, owner_asked}
use Rattle.up_list.specs.Changes.{◌>>=◌, added_by, refuse, right_to_put, unless}
use Rattle.up_list.specs.Checks.{check, ways, ways_before}
use Rattle.up_list.specs.Looks.{Look, look_now, rights}
use Rattle.up_answers.specs.Agreement.{Agree, used}
use Rattle.up_answers.specs.Answers.{added, asked_outcome, fault_reply, log_owner, outcome, tree_outcome}
use Rattle.up_answers.specs.Deletes.{delete_outcome}
use Rattle.up_answers.specs.Fetching.{Fetched, text_put}
use Rattle.up_answers.specs.Laws.{IsWhole, RequestsKeepAgreement, SameRecordsKeepAgreement, after_request, touched, with_record}
use Rattle.up_answers.specs.Puts.{place_refusal, put_outcome}
use Rattle.up_answers.specs.SnapshotReplies.{snapshot_outcome}
use Rattle.up_answers.proofs.AlikeLemmas.{passed_right}
use Rattle.up_answers.proofs.AnswerLemmas.{hidden_outcome, led_alike, plain_owner, same_log, snapshot_hidden}
use Rattle.up_answers.proofs.ApartLemmas.{bytes_push}
use Rattle.up_answers.proofs.ChangeLemmas.{unless_ok}
use Rattle.up_answers.proofs.FitLemmas.{added_cases, added_records_fit, bind_ok, err_ok, ok_same}
use Rattle.up_answers.proofs.KeptLemmas.{changes_ordinary, last_fits, ordinary, same_after}

-- ---- what a change that is made tells

-- a record that a user adds changes a path on which the user holds a right to change
abbrev Made : Look → Rec → Type 0
Made look record' = (path : PathName) × (touched record' ≡ Some path) × (r : Right) × (only_looks r ≡ false) × (has_right (rights look path) r ≡ true)

delete_made : (look : Look) (path : PathName) (record' : Rec) → delete_outcome look path ≡ std.Ok record' → Made look record'
unfolding delete_outcome
delete_made look path record' h =
    let a = bind_ok (unless (check look (ways_before path) path (Some right.Delete))) (λ ok. refuse (is_none (node_at look.tree path)) reply.NotExist >>= λ there. refuse (not (length (children look.tree path) == 0)) reply.NotEmpty >>= λ empty. std.Ok (rec.Delete path)) record' h in
    let b = bind_ok (refuse (is_none (node_at look.tree path)) reply.NotExist) (λ there. refuse (not (length (children look.tree path) == 0)) reply.NotEmpty >>= λ empty. std.Ok (rec.Delete path)) record' a.2 in
    let c = bind_ok (refuse (not (length (children look.tree path) == 0)) reply.NotEmpty) (λ empty. std.Ok (rec.Delete path)) record' b.2 in
    (path, ap touched (sym (ok_same (rec.Delete path) record' c.2)), right.Delete, refl, passed_right look (ways_before path) path right.Delete (unless_ok (check look (ways_before path) path (Some right.Delete)) a.1))

changing : (found : Option Node) → only_looks (right_to_put found) ≡ false
changing None = refl
changing (Some node) = refl

put_made : (look : Look) (n : ℕ) (fetched : Fetched) (put : Checked) (record' : Rec) → put_outcome look n fetched put ≡ std.Ok record' → Made look record'
unfolding put_outcome
put_made look n fetched put record' h =
    let path : PathName = put.entry.name in
    let found = node_at look.tree path in
    let last : List ℕ → Result Rec Reply = λ text. std.Ok (rec.Put (record (put.entry) { sequence = n + 1 }) text) in
    let a = bind_ok (unless (check look (ways path) path (Some (right_to_put found)))) (λ ok. place_refusal found look.tree put >>= λ placed. text_put look.owner fetched put.entry >>= last) record' h in
    let b = bind_ok (place_refusal found look.tree put) (λ placed. text_put look.owner fetched put.entry >>= last) record' a.2 in
    let c = bind_ok (text_put look.owner fetched put.entry) last record' b.2 in
    (path, ap touched (sym (ok_same (rec.Put (record (put.entry) { sequence = n + 1 }) c.0) record' c.2)), right_to_put found, changing found, passed_right look (ways path) path (right_to_put found) (unless_ok (check look (ways path) path (Some (right_to_put found))) a.1))

hidden_adds_none : (asked : ReadRequest) (record' : Rec) → hidden_outcome asked ≡ std.Ok record' → ⊥
hidden_adds_none (Lookup path) record' h = err_ok reply.Private record' h
hidden_adds_none (WhichAccess path) record' h = err_ok reply.Private record' h
hidden_adds_none (GroupText path) record' h = err_ok reply.Private record' h
hidden_adds_none (Delete path) record' h = err_ok reply.Private record' h
hidden_adds_none (Put put) record' h = err_ok reply.Private record' h
hidden_adds_none (Glob pattern) record' h = err_ok reply.Private record' h
hidden_adds_none (Watch path sequence) record' h = err_ok _ record' h

module _ (log : Log) (loaded : Loading) (fetched : Fetched) (user : List ℕ) (now : ℕ) (stranger : user ≡ log.owner → ⊥) where
  tree_made : (asked : ReadRequest) (record' : Rec) → tree_outcome log loaded fetched user asked ≡ std.Ok record' → Made (look_now log loaded user) record'
  unfolding tree_outcome
  tree_made (Delete path) record' h = delete_made (look_now log loaded user) path record' h
  tree_made (Put put) record' h = put_made (look_now log loaded user) (length log.records) fetched put record' h
  tree_made (Lookup path) record' h = absurd (err_ok _ record' h)
  tree_made (WhichAccess path) record' h = absurd (err_ok _ record' h)
  tree_made (GroupText path) record' h = absurd (err_ok _ record' h)
  tree_made (Glob pattern) record' h = absurd (err_ok _ record' h)
  tree_made (Watch path sequence) record' h = absurd (err_ok _ record' h)

  asked_made : (asked : ReadRequest) (record' : Rec) → asked_outcome log loaded fetched user asked now ≡ std.Ok record' → Made (look_now log loaded user) record'
  unfolding asked_outcome
  asked_made asked record' h = go (bytes_eq (owner_asked asked) log.owner) refl (bytes_eq (log_owner (owner_asked asked)) log.owner) refl h
    where
      go : (a : Bool) → bytes_eq (owner_asked asked) log.owner ≡ a → (b : Bool) → bytes_eq (log_owner (owner_asked asked)) log.owner ≡ b →
          (if bytes_eq (owner_asked asked) log.owner then tree_outcome log loaded fetched user asked else if bytes_eq (log_owner (owner_asked asked)) log.owner then snapshot_outcome log user asked now else std.Err reply.WrongHost) ≡ std.Ok record' → Made (look_now log loaded user) record'
      go true e b f k =
          tree_made asked record'
          (sym (ap (λ c. if c then tree_outcome log loaded fetched user asked else if bytes_eq (log_owner (owner_asked asked)) log.owner then snapshot_outcome log user asked now else std.Err reply.WrongHost) e) ∙ k)
      go false e true f k =
          absurd (hidden_adds_none asked record' (sym (snapshot_hidden log user (plain_owner log (owner_asked asked) e f) stranger asked now)
          ∙ (sym (ap (λ c. if c then tree_outcome log loaded fetched user asked else if bytes_eq (log_owner (owner_asked asked)) log.owner then snapshot_outcome log user asked now else std.Err reply.WrongHost) e
          ∙ ap (λ c. if c then snapshot_outcome log user asked now else std.Err reply.WrongHost) f) ∙ k)))
      go false e false f k =
          absurd (err_ok reply.WrongHost record' (sym (ap (λ c. if c then tree_outcome log loaded fetched user asked else if bytes_eq (log_owner (owner_asked asked)) log.owner then snapshot_outcome log user asked now else std.Err reply.WrongHost) e
          ∙ ap (λ c. if c then snapshot_outcome log user asked now else std.Err reply.WrongHost) f) ∙ k))

  led_made : (request' : Request) (record' : Rec) → outcome log loaded fetched user request' now ≡ std.Ok record' → Made (look_now log loaded user) record'
  unfolding outcome
  led_made request' record' h = go (asked_of user request') h
    where
      go : (r : Result ReadRequest EntryFault) → (elim r as (λ _. Result Rec Reply) [ std.Ok asked ↦ asked_outcome log loaded fetched user asked now | std.Err fault ↦ std.Err (fault_reply fault) ]) ≡ std.Ok record' → Made (look_now log loaded user) record'
      go (std.Err fault) k = absurd (err_ok (fault_reply fault) record' k)
      go (std.Ok asked) k = asked_made asked record' k

-- ---- what is added

abbrev adding : Limits → ℕ → ℕ → Result Rec Reply → List Rec
adding limits count bytes (std.Err given) = []
adding limits count bytes (std.Ok record') = if nat_lt limits.largest (size_of record') || (nat_le limits.records count || nat_lt limits.device (bytes + size_of record' + 37)) then [] else record' ∷ []

adding_is : (log : Log) (led : Result Rec Reply) → added_by log led ≡ adding log.limits (length log.records) (bytes_of log.records) led
unfolding added_by
adding_is log (std.Err given) = refl
adding_is log (std.Ok record') = refl

added_same : (one two : Log) (a b : Result Rec Reply) → one.limits ≡ two.limits → length one.records ≡ length two.records → bytes_of one.records ≡ bytes_of two.records → a ≡ b → added_by one a ≡ added_by two b
added_same one two a b limits count bytes same =
    adding_is one a
    ∙ (ap (λ l. adding l (length one.records) (bytes_of one.records) a) limits
    ∙ (ap (λ n. adding two.limits n (bytes_of one.records) a) count
    ∙ (ap (λ n. adding two.limits (length two.records) n a) bytes
    ∙ (ap (adding two.limits (length two.records) (bytes_of two.records)) same
    ∙ sym (adding_is two b)))))

-- ---- the two logs

module _ (user : List ℕ) (loadings : List Loading) (one two : Log) (is : IsWhole one) (is' : IsWhole two) (agree : Agree user loadings one two) where
  nothing_added : Agree user loadings (record one { records = one.records ++ [] }) (record two { records = two.records ++ [] })
  nothing_added = subst (λ rs. Agree user loadings (record one { records = rs }) (record two { records = two.records ++ [] })) (sym (append-nil one.records)) (subst (λ rs. Agree user loadings one (record two { records = rs })) (sym (append-nil two.records)) agree)

  one_added : (record' : Rec) → (user ≡ one.owner → ⊥) → (path : PathName) → touched record' ≡ Some path → control_of path ≡ control.Ordinary → IsWhole (with_record one record') → IsWhole (with_record two record') → Agree user loadings (with_record one record') (with_record two record')
  one_added record' stranger path changes plain is₁ is₂ = record {
    owner = agree.owner;
    limits = agree.limits;
    length = length_push one.records record' ∙ (ap (λ n. n + 1) agree.length ∙ sym (length_push two.records record'));
    bytes = bytes_push one.records record' ∙ (ap (λ n. n + sum_by (λ r. size_of r + 37) (record' ∷ [])) agree.bytes ∙ sym (bytes_push two.records record'));
    for_owner = λ own. absurd (stranger own);
    for_others = λ other loaded among. same_after one two is is' agree.owner record' path changes plain (last_fits one record' is₁) (last_fits two record' is₂) loaded user stranger (agree.for_others other loaded among) agree.length;
  }

pub requests_keep_agreement : RequestsKeepAgreement
unfolding added
requests_keep_agreement user loadings loaded fetched request' now one two is is' calendar among agree = go (bytes_eq user one.owner) refl
  where
    led₁ : Result Rec Reply
    led₁ = outcome one loaded fetched user request' now

    led₂ : Result Rec Reply
    led₂ = outcome two loaded fetched user request' now

    go : (b : Bool) → bytes_eq user one.owner ≡ b → Agree user loadings (after_request one loaded fetched user request' now) (after_request two loaded fetched user request' now)
    go true own =
        let mine : user ≡ one.owner = (bytes_eq-Decides user one.owner).0 own in
        let one_is : one ≡ two = same_log one two agree.owner agree.limits (agree.for_owner mine) in
        let after_is : after_request one loaded fetched user request' now ≡ after_request two loaded fetched user request' now = ap (λ log. after_request log loaded fetched user request' now) one_is in
        record {
          owner = agree.owner;
          limits = agree.limits;
          length = ap (λ (log : Log). length log.records) after_is;
          bytes = ap (λ (log : Log). bytes_of log.records) after_is;
          for_owner = λ own. ap (λ (log : Log). log.records) after_is;
          for_others = λ other. absurd (other mine);
        }
    go false own = elim (added_cases one led₁) [
      | inl none ↦ subst (λ rs. Agree user loadings (record one { records = one.records ++ rs }) (record two { records = two.records ++ added_by two led₂ })) (sym none) (subst (λ rs. Agree user loadings (record one { records = one.records ++ [] }) (record two { records = two.records ++ rs })) (sym (sym added_alike ∙ none)) (nothing_added user loadings one two is is' agree))
      | inr (record', asks, adds) ↦
          let made = led_made one loaded fetched user now stranger request' record' asks in
          let plain : is_control made.0 ≡ false = changes_ordinary (look_now one loaded user) is.plain stranger made.0 made.2 made.3 made.4 in
          let adds₂ : added_by two led₂ ≡ record' ∷ [] = sym added_alike ∙ adds in
          subst (λ rs. Agree user loadings (record one { records = one.records ++ rs }) (record two { records = two.records ++ added_by two led₂ })) (sym adds) (subst (λ rs. Agree user loadings (record one { records = one.records ++ record' ∷ [] }) (record two { records = two.records ++ rs })) (sym adds₂)
          (one_added user loadings one two is is' agree record' stranger made.0 made.1 (ordinary made.0 plain)
          (subst (λ rs. IsWhole (record one { records = one.records ++ rs })) adds (added_records_fit one loaded fetched user request' now is calendar))
          (subst (λ rs. IsWhole (record two { records = two.records ++ rs })) adds₂ (added_records_fit two loaded fetched user request' now is' calendar))))
    ]
      where
        stranger : user ≡ one.owner → ⊥
        stranger h = false≢true (sym own ∙ (bytes_eq-Decides user one.owner).1 h)

        led_same : outcome one loaded fetched user request' now ≡ outcome two loaded fetched user request' now
        led_same = led_alike user loaded fetched now one two is is' agree.owner agree.length stranger request' (agree.for_others stranger (used request' loaded) among)

        added_alike : added_by one led₁ ≡ added_by two led₂
        added_alike = added_same one two led₁ led₂ agree.limits agree.length agree.bytes led_same

pub same_records_keep_agreement : SameRecordsKeepAgreement
same_records_keep_agreement user loadings one two record' path stranger is is' changes plain then₁ then₂ agree = one_added user loadings one two is is' agree record' stranger path changes plain then₁ then₂
