-- What a request on a file may add to a log, whatever the tree is: nothing, or the one record of that file.
use Rattle.std.proofs.Common.{◌≡◌, ℕ, ◌+◌, [], ◌∷◌, length, refl, sym, ap, ◌∙◌, ◌⊎◌, inl, inr, Some}
use Rattle.std.specs.Prelude.{not, ◌==◌, ⊤, Result, is_none}
use Rattle.std.specs.Prelude as std
use Rattle.up_answers.proofs.FitLemmas.{added_cases, bind_ok, ok_same}
use Rattle.up_answers.specs.Answers.{added, outcome, tree_outcome}
use Rattle.up_answers.specs.Deletes.{delete_outcome}
use Rattle.up_answers.specs.Fetching.{Fetched, text_put}
use Rattle.up_answers.specs.Puts.{place_refusal, put_outcome}
use Rattle.up_entry.specs.declared.records.Rec.{Rec}
use Rattle.up_entry.specs.declared.records.Rec.TheVariants as rec
use Rattle.up_list.specs.Changes.{◌>>=◌, added_by, refuse, right_to_put, unless}
use Rattle.up_list.specs.Checks.{check, ways, ways_before}
use Rattle.up_list.specs.Looks.{Look, look_now}
use Rattle.up_list.specs.declared.asking.ReadRequest.TheVariants as asks
use Rattle.up_log_tree.specs.Logs.{Log}
use Rattle.up_log_tree.specs.Trees.{children, node_at}
use Rattle.up_names.specs.PathNames.{PathName, control_of, path_of}
use Rattle.up_names.specs.Texts.{Text, UserName}
use Rattle.up_names.specs.UserNames.{user_of}
use Rattle.up_names.specs.declared.paths.Control.TheVariants as control
use Rattle.up_pattern.specs.Patterns.{PatternName, pattern_of}
use Rattle.up_plots.proofs.PlotAnswers.{delete_asked, glob_asked, led_by, lookup_asked, put_asked}
use Rattle.up_plots.proofs.PlotReplies.{text_is}
use Rattle.up_plots.specs.Asks.{file_put, new_file}
use Rattle.up_plots.specs.Plots.{file_path}
use Rattle.up_policy.specs.Loadings.{Loading}
use Rattle.up_rights.specs.declared.Right.TheVariants as right
use Rattle.up_wire.specs.declared.replies.Reply.{Reply}
use Rattle.up_wire.specs.declared.replies.Reply.TheVariants as reply
use Rattle.up_wire.specs.declared.requests.Request.{Request}
use Rattle.up_wire.specs.declared.requests.Request.TheVariants as request

-- the record of an empty file that is put after n others
abbrev pub file_record : UserName → PathName → ℕ → Rec
file_record user path n = rec.Put (record ((new_file user path).entry) { sequence = n + 1 }) []

module _ (look : Look) (owner user : UserName) (name file : Text) (ordinary : control_of (file_path owner name file) ≡ control.Ordinary) where
  -- the path of the file
  abbrev here : PathName
  here = file_path owner name file

  -- what is put is that record
  put_record : (n : ℕ) (fetched : Fetched) (r : Rec) → put_outcome look n fetched (new_file user here) ≡ std.Ok r → r ≡ file_record user here n
  unfolding put_outcome
  put_record n fetched r h =
      let allowed = unless (check look (ways here) here (Some (right_to_put (node_at look.tree here)))) in
      let texted : Result Rec Reply = text_put look.owner fetched (new_file user here).entry >>= λ text. std.Ok (rec.Put (record ((new_file user here).entry) { sequence = n + 1 }) text) in
      let one = bind_ok allowed (λ (_ : ⊤). place_refusal (node_at look.tree here) look.tree (new_file user here) >>= λ (_ : ⊤). texted) r h in
      let two = bind_ok (place_refusal (node_at look.tree here) look.tree (new_file user here)) (λ (_ : ⊤). texted) r one.2 in
      let three = bind_ok (text_put look.owner fetched (new_file user here).entry) (λ (text : Text). std.Ok (rec.Put (record ((new_file user here).entry) { sequence = n + 1 }) text)) r two.2 in
      let same : three.0 ≡ [] = text_same three.0 (sym three.1 ∙ text_is look.owner user here ordinary fetched) in
      sym (ok_same (rec.Put (record ((new_file user here).entry) { sequence = n + 1 }) three.0) r three.2)
      ∙ ap (λ (text : Text). rec.Put (record ((new_file user here).entry) { sequence = n + 1 }) text) same
    where
      text_same : (a : Text) → ◌≡◌ {A = Result Text Reply} (std.Ok a) (std.Ok []) → a ≡ []
      text_same a h = ok_same a [] h

  -- what is deleted is the file
  delete_record : (r : Rec) → delete_outcome look here ≡ std.Ok r → r ≡ rec.Delete here
  unfolding delete_outcome
  delete_record r h =
      let last : Result Rec Reply = refuse (not (length (children look.tree here) == 0)) reply.NotEmpty >>= λ (_ : ⊤). std.Ok (rec.Delete here) in
      let one = bind_ok (unless (check look (ways_before here) here (Some right.Delete))) (λ (_ : ⊤). refuse (is_none (node_at look.tree here)) reply.NotExist >>= λ (_ : ⊤). last) r h in
      let two = bind_ok (refuse (is_none (node_at look.tree here)) reply.NotExist) (λ (_ : ⊤). last) r one.2 in
      let three = bind_ok (refuse (not (length (children look.tree here) == 0)) reply.NotEmpty) (λ (_ : ⊤). std.Ok (rec.Delete here)) r two.2 in
      sym (ok_same (rec.Delete here) r three.2)

module _ (log : Log) (loaded : Loading) (fetched : Fetched) (user : UserName) (now : ℕ) where
  -- a request that leads to a reply adds nothing
  none_added : (request' : Request) (said : Reply) → outcome log loaded fetched user request' now ≡ std.Err said → added log loaded fetched user request' now ≡ []
  unfolding added added_by
  none_added request' said h = ap (λ (r : Result Rec Reply). added_by log r) h

  -- one that leads to this record alone, if to any, adds nothing or it
  one_added : (request' : Request) (one : Rec) → ((r : Rec) → outcome log loaded fetched user request' now ≡ std.Ok r → r ≡ one)
      → (added log loaded fetched user request' now ≡ []) ⊎ (added log loaded fetched user request' now ≡ one ∷ [])
  unfolding added
  one_added request' one each = elim (added_cases log (outcome log loaded fetched user request' now)) [
    | inl none ↦ inl none
    | inr some ↦ inr (some.2 ∙ ap (λ (r : Rec). r ∷ []) (each some.0 some.1))
  ]

  module _ (name file text : Text) (ordinary : control_of (file_path log.owner name file) ≡ control.Ordinary) (reads : path_of text ≡ std.Ok (file_path log.owner name file)) where
    -- a Put adds nothing, or the record of its file
    pub put_adds : user_of user ≡ std.Ok user → (added log loaded fetched user (request.Put (file_put user text)) now ≡ [])
        ⊎ (added log loaded fetched user (request.Put (file_put user text)) now ≡ file_record user (file_path log.owner name file) (length log.records) ∷ [])
    unfolding tree_outcome
    put_adds named =
        one_added (request.Put (file_put user text)) (file_record user (file_path log.owner name file) (length log.records))
        (λ r h. put_record (look_now log loaded user) log.owner user name file ordinary (length log.records) fetched r
        (sym (led_by log loaded fetched user now (request.Put (file_put user text)) (asks.Put (new_file user (file_path log.owner name file))) (put_asked user log.owner name file text reads named ordinary) refl) ∙ h))

    -- a Delete adds nothing, or the record that takes its file out
    pub delete_adds : (added log loaded fetched user (request.Delete text) now ≡ []) ⊎ (added log loaded fetched user (request.Delete text) now ≡ rec.Delete (file_path log.owner name file) ∷ [])
    unfolding tree_outcome
    delete_adds =
        one_added (request.Delete text) (rec.Delete (file_path log.owner name file))
        (λ r h. delete_record (look_now log loaded user) log.owner user name file ordinary r
        (sym (led_by log loaded fetched user now (request.Delete text) (asks.Delete (file_path log.owner name file)) (delete_asked user text (file_path log.owner name file) reads) refl) ∙ h))

    -- a Lookup adds nothing
    pub lookup_adds : added log loaded fetched user (request.Lookup text) now ≡ []
    unfolding tree_outcome
    lookup_adds = none_added (request.Lookup text) _ (led_by log loaded fetched user now (request.Lookup text) (asks.Lookup (file_path log.owner name file)) (lookup_asked user text (file_path log.owner name file) reads) refl)

  -- a Glob adds nothing
  pub glob_adds : (text : Text) (pattern : PatternName) → pattern_of text ≡ std.Ok pattern → pattern.owner ≡ log.owner → added log loaded fetched user (request.Glob text) now ≡ []
  unfolding tree_outcome
  glob_adds text pattern reads own = none_added (request.Glob text) _ (led_by log loaded fetched user now (request.Glob text) (asks.Glob pattern) (glob_asked user text pattern reads) own)
