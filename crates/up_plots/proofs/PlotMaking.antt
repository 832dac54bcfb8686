-- What an owner's Puts are answered that make a root, a directory in it, and that directory's Access file.
use Rattle.std.proofs.Common.{◌≡◌, ℕ, ◌+◌, Bool, true, false, not, ◌&&◌, List, [], ◌∷◌, length, refl, ap, ◌∙◌, Option, Some, None, bytes_eq}
use Rattle.std.specs.Prelude.{if◌then◌else◌, ⊤, Result}
use Rattle.std.specs.Prelude as std
use Rattle.std.proofs.lemmas.Slice.Eq.{bytes_eq-Decides}
use Rattle.up_access.specs.declared.Rule.{Rule}
use Rattle.up_answers.proofs.RightLemmas.{any_from, decided, held_is}
use Rattle.up_answers.specs.Answers.{tree_outcome}
use Rattle.up_answers.specs.Fetching.{Fetched, text_put}
use Rattle.up_answers.specs.Puts.{place_refusal, put_outcome}
use Rattle.up_entry.specs.declared.entries.Entry.{Entry}
use Rattle.up_entry.specs.declared.puts.Checked.{Checked}
use Rattle.up_entry.specs.declared.puts.PutEntry.{PutEntry}
use Rattle.up_entry.specs.declared.records.Rec.{Rec}
use Rattle.up_entry.specs.declared.records.Rec.TheVariants as rec
use Rattle.up_list.specs.Asking.{asked_of}
use Rattle.up_list.specs.Changes.{◌>>=◌, right_to_put, unless}
use Rattle.up_list.specs.Checks.{at_link, check, first_link, lacking, ways}
use Rattle.up_list.specs.Looks.{Look, look_now, rights}
use Rattle.up_list.specs.declared.asking.ReadRequest.TheVariants as asks
use Rattle.up_log_tree.specs.Logs.{Log}
use Rattle.up_log_tree.specs.Rights.{facts_of, group_paths}
use Rattle.up_log_tree.specs.Trees.{Tree, node_at, tree_of}
use Rattle.up_log_tree.specs.declared.node.Node.{Node}
use Rattle.up_names.specs.PathNames.{PathName}
use Rattle.up_names.specs.Texts.{Text, UserName}
use Rattle.up_plots.proofs.PlotAnswers.{changed_is, led_by, said_is}
use Rattle.up_plots.specs.Answered.{HasRoom, IsAnswered}
use Rattle.up_policy.specs.Governors.{governor}
use Rattle.up_policy.specs.Loadings.{Loading}
use Rattle.up_policy.specs.Trees.{owns_snapshots}
use Rattle.up_policy.specs.Verdicts.{is_control, right_test, text_decides, without_text}
use Rattle.up_rights.specs.RightSets.{Rights, has_right}
use Rattle.up_rights.specs.declared.Right.TheVariants as right
use Rattle.up_wire.specs.Bounds.{bounded}
use Rattle.up_wire.specs.declared.replies.Done.TheVariants as done
use Rattle.up_wire.specs.declared.replies.Reply.{Reply}
use Rattle.up_wire.specs.declared.replies.Reply.TheVariants as reply
use Rattle.up_wire.specs.declared.requests.Request.TheVariants as request

-- ---- what an owner may do

-- where no text governs an ordinary path, and at every Access and Group path, the owner may create
module _ (look : Look) (own : look.user ≡ look.owner) (plain : owns_snapshots look.owner ≡ false) (path : PathName) where
  -- the user is the owner
  itself : bytes_eq look.user look.owner ≡ true
  itself = (bytes_eq-Decides look.user look.owner).1 own

  -- the right to create, by whether the path is a control path and what the governing text decides
  create_is : (changes text : Bool) → is_control path ≡ changes → text_decides (facts_of look.owner look.tree) (group_paths look.tree) look.loaded look.user right.Create (governor (facts_of look.owner look.tree) path) ≡ text
      → right_test (facts_of look.owner look.tree) (group_paths look.tree) look.loaded look.user right.Create path ≡ decided false false false changes true text
  unfolding right_test without_text facts_of
  create_is changes text control governed =
      let said : Bool = text_decides (facts_of look.owner look.tree) (group_paths look.tree) look.loaded look.user right.Create (governor (facts_of look.owner look.tree) path) in
      ap (λ (s : Bool). decided s false (bytes_eq look.user look.owner && false) (is_control path && true) (bytes_eq look.user look.owner) said) plain
      ∙ ap (λ (o : Bool). decided false false (o && false) (is_control path && true) o said) itself
      ∙ ap (λ (c : Bool). decided false false false (c && true) true said) control
      ∙ ap (λ (t : Bool). decided false false false (changes && true) true t) governed
      ∙ by changes
    where
      by : (c : Bool) → decided false false false (c && true) true text ≡ decided false false false c true text
      by true = refl
      by false = refl

  -- the owner is that of the tree
  facts_owner : (facts_of look.owner look.tree).owner ≡ look.owner
  unfolding facts_of
  facts_owner = refl

  -- where no text governs, the owner is given the right
  ungoverned_decide : governor (facts_of look.owner look.tree) path ≡ None
      → text_decides (facts_of look.owner look.tree) (group_paths look.tree) look.loaded look.user right.Create (governor (facts_of look.owner look.tree) path) ≡ true
  unfolding text_decides
  ungoverned_decide none =
      ap (λ (t : Option (List Rule)). text_decides (facts_of look.owner look.tree) (group_paths look.tree) look.loaded look.user right.Create t) none
      ∙ ap (λ (o : UserName). bytes_eq look.user o) facts_owner ∙ itself

  -- the right is among those that are held
  held_create : right_test (facts_of look.owner look.tree) (group_paths look.tree) look.loaded look.user right.Create path ≡ true → has_right (rights look path) right.Create ≡ true
  unfolding rights
  held_create h = held_is (facts_of look.owner look.tree) (group_paths look.tree) look.loaded look.user path right.Create ∙ h

  -- so the owner may create at an ordinary path that no text governs
  pub may_create_plain : is_control path ≡ false → governor (facts_of look.owner look.tree) path ≡ None → has_right (rights look path) right.Create ≡ true
  may_create_plain ordinary none = held_create (create_is false true ordinary (ungoverned_decide none))

  -- and at every control path
  pub may_create_control : is_control path ≡ true → has_right (rights look path) right.Create ≡ true
  may_create_control control =
      held_create (create_is true (text_decides (facts_of look.owner look.tree) (group_paths look.tree) look.loaded look.user right.Create (governor (facts_of look.owner look.tree) path)) control refl)

-- ---- what is put where nothing stands

-- who may create is let pass
created : (held : Rights) → has_right held right.Create ≡ true → lacking held (Some right.Create) ≡ None
unfolding lacking
created held h =
    ap (λ (b : Bool). if not b then Some reply.Private else if not (has_right held right.Create) then Some (reply.Permission right.Create) else None) (any_from held right.Create h)
    ∙ ap (λ (b : Bool). if not b then Some (reply.Permission right.Create) else None) h

module _ (log : Log) (loaded : Loading) (fetched : Fetched) (user : UserName) (now : ℕ) (raw : PutEntry) (put : Checked) (text : Text) where
  -- the tree as the user meets it
  abbrev look : Look
  look = look_now log loaded user

  -- the tree of the log
  abbrev tree : Tree
  tree = tree_of log.records

  -- the record of what is put
  abbrev made : Rec
  made = rec.Put (record (put.entry) { sequence = length log.records + 1 }) text

  -- what a Put leads to, by its text
  abbrev texted : Result Text Reply → Result Rec Reply
  texted r = r >>= λ t. std.Ok (rec.Put (record (put.entry) { sequence = length log.records + 1 }) t)

  -- what is put where nothing stands, with the right to create and in a good place, leads to what its text allows
  put_texted : (r : Result Text Reply) → first_link tree (ways put.entry.name) ≡ None → has_right (rights look put.entry.name) right.Create ≡ true → node_at tree put.entry.name ≡ None → place_refusal None tree put ≡ std.Ok tt
      → text_put log.owner fetched put.entry ≡ r → put_outcome look (length log.records) fetched put ≡ texted r
  unfolding put_outcome check
  put_texted r none held free placed kept =
      ap (λ (o : Option Node). unless (check look (ways put.entry.name) put.entry.name (Some (right_to_put o))) >>= λ allowed. place_refusal o tree put >>= λ placed'. texted (text_put log.owner fetched put.entry)) free
      ∙ ap (λ (o : Option Entry). unless (elim o as (λ _. Option Reply) [ Some link ↦ Some (at_link look link) | None ↦ lacking (rights look put.entry.name) (Some right.Create) ]) >>= λ allowed. place_refusal None tree put >>= λ placed'.
      texted (text_put log.owner fetched put.entry)) none
      ∙ ap (λ (o : Option Reply). unless o >>= λ allowed. place_refusal None tree put >>= λ placed'. texted (text_put log.owner fetched put.entry)) (created (rights look put.entry.name) held)
      ∙ ap (λ (s : Result ⊤ Reply). s >>= λ placed'. texted (text_put log.owner fetched put.entry)) placed
      ∙ ap (λ (s : Result Text Reply). texted s) kept

  -- it is answered by the record's position
  pub put_made : asked_of user (request.Put raw) ≡ std.Ok (asks.Put put) → put.entry.name.owner ≡ log.owner → first_link tree (ways put.entry.name) ≡ None → has_right (rights look put.entry.name) right.Create ≡ true
      → node_at tree put.entry.name ≡ None → place_refusal None tree put ≡ std.Ok tt → text_put log.owner fetched put.entry ≡ std.Ok text → HasRoom log made
      → IsAnswered log loaded fetched user (request.Put raw) now (reply.Ok (done.Changed (length log.records + 1))) (made ∷ [])
  unfolding tree_outcome
  put_made asked own none held free placed kept room =
      changed_is log loaded fetched user now (request.Put raw) made
      (led_by log loaded fetched user now (request.Put raw) (asks.Put put) asked own ∙ put_texted (std.Ok text) none held free placed kept) room

-- where its text is refused, nothing is added
module _ (log : Log) (loaded : Loading) (fetched : Fetched) (user : UserName) (now : ℕ) (raw : PutEntry) (put : Checked) (refusal : Reply) where
  -- such a Put is answered by the refusal of its text
  pub put_unmade : asked_of user (request.Put raw) ≡ std.Ok (asks.Put put) → put.entry.name.owner ≡ log.owner → first_link (tree_of log.records) (ways put.entry.name) ≡ None
      → has_right (rights (look_now log loaded user) put.entry.name) right.Create ≡ true → node_at (tree_of log.records) put.entry.name ≡ None → place_refusal None (tree_of log.records) put ≡ std.Ok tt
      → text_put log.owner fetched put.entry ≡ std.Err refusal → IsAnswered log loaded fetched user (request.Put raw) now (bounded refusal) []
  unfolding tree_outcome
  put_unmade asked own none held free placed kept =
      said_is log loaded fetched user now (request.Put raw) refusal
      (led_by log loaded fetched user now (request.Put raw) (asks.Put put) asked own ∙ put_texted log loaded fetched user now raw put [] (std.Err refusal) none held free placed kept)
