-- What is told, once it was found; and what holds after a call that may want memory.
use Rattle.std.proofs.Common.{◌≡◌, ℕ, suc, ◌+◌, ◌<◌, false, List, [], ◌∷◌, length, refl, sym, ap, subst, ◌∙◌, arith, Option, Some, None, unwrap_or, slice_get, IfOk, OnOk, Result, Ok, Err, IsTrue}
use Rattle.std.specs.Prelude.{◌↔◌, if◌then◌else◌}
use Rattle.std.specs.declared.alloc.AllocError.{AllocError}
use Rattle.std.specs.List.{list_any}
use Rattle.std.specs.Map.{keys_of}
use Rattle.std.proofs.lemmas.Option.{slice_get-get_or}
use Rattle.up_names.specs.Texts.{UserName}
use Rattle.up_names.specs.PathNames.{PathName}
use Rattle.up_names.specs.PathOrder.{path_cmp}
use Rattle.up_names.specs.declared.items.Item.{Item}
use Rattle.up_rights.specs.declared.Right.TheVariants.{Read}
use Rattle.up_access.specs.declared.Rule.{Rule}
use Rattle.up_policy.specs.Governors.{first_text, governor, prefixes}
use Rattle.up_policy.specs.Laws.{ListsGroups}
use Rattle.up_policy.specs.Loadings.{Loading}
use Rattle.up_policy.specs.Members.{is_user}
use Rattle.up_policy.specs.Trees.{TreeFacts, owns_snapshots}
use Rattle.up_policy.specs.Verdicts.{HasRight, right_test}
use Rattle.up_entry.specs.declared.records.Rec.{Rec}
use Rattle.up_log_tree.specs.Changes.{record_at}
use Rattle.up_share.specs.declared.readers.Readers.{Readers}
use Rattle.up_share.specs.Orders.{Keys, with_keys}
use Rattle.up_share.specs.Readers.{AreReaders, AreUnread, governing_rules, lacking, readers_by}
use Rattle.up_share.proofs.ReaderLemmas.{are_readers, are_unread, holds_where, reads_where}

-- what holds holds after any answer
pub on_any : {X E : Type 0} (result : Result X E) {P : Type 0} → P → OnOk result P
on_any (Ok value) h = h
on_any (Err fault) h = tt

-- and what follows from what holds
pub on_ok : {X E : Type 0} (result : Result X E) {P Q : Type 0} → (P → Q) → OnOk result P → OnOk result Q
on_ok (Ok value) f h = f h
on_ok (Err fault) f h = tt

-- a record stands at each place within the log
pub record_there : (records : List Rec) (n : ℕ) → n < length records → record_at records (n + 1) ≡ None → ⊥
record_there records n within none = no_place records n within (ap (record_at records) (let e : suc n ≡ n + 1 = omega arith in e) ∙ none)
  where
    no_place : (records : List Rec) (n : ℕ) → n < length records → slice_get records n ≡ None → ⊥
    no_place [] n within none = absurd (omega arith)
    no_place (rec ∷ records) n within none = absurd (let e = sym (slice_get-get_or (rec ∷ records) n rec within) ∙ none in cc)

module _ (tree : TreeFacts) (listed : List PathName) (loaded : Loading) (path : PathName) (lists : ListsGroups tree listed) (plain : owns_snapshots tree.owner ≡ false) (found : Option (List Rule)) (rules : List Rule) (nearest : found ≡ first_text tree.access (prefixes path)) (are : rules ≡ unwrap_or found []) where
  rules_are : rules ≡ governing_rules tree path
  unfolding governor
  rules_are = are ∙ ap (λ (text : Option (List Rule)). unwrap_or text []) (nearest ∙ sym (ap (λ b. if b then None else first_text tree.access (prefixes path)) plain))

  module _ (items : List Item) (is : items ≡ readers_by tree listed loaded rules) where
    items_are : items ≡ readers_by tree listed loaded (governing_rules tree path)
    items_are = is ∙ ap (readers_by tree listed loaded) rules_are

    pub told_readers : (result : Result Readers AllocError) → IfOk result (λ told. told.items ≡ items) → IfOk result (λ told. AreReaders tree loaded path told.items)
    told_readers (Ok told) same = subst (AreReaders tree loaded path) (sym (same ∙ items_are)) (are_readers tree listed loaded path lists)
    told_readers (Err e) same = tt

    pub told_test : (result : Result Readers AllocError) → IfOk result (λ told. told.items ≡ items) → IfOk result (λ told. (user : UserName) → right_test tree listed loaded user Read path ≡ list_any (is_user user) told.items)
    told_test (Ok told) same = λ user. reads_where tree listed loaded path lists user plain ∙ sym (ap (list_any (is_user user)) (same ∙ items_are))
    told_test (Err e) same = tt

    pub told_meaning : (result : Result Readers AllocError) → IfOk result (λ told. told.items ≡ items) → IfOk result (λ told. (user : UserName) → IsTrue (list_any (is_user user) told.items) ↔ HasRight tree loaded user Read path)
    told_meaning (Ok told) same = λ user.
        let holds = holds_where tree listed loaded path lists user plain in
        let all = ap (list_any (is_user user)) (same ∙ items_are) in
        (λ h. holds.0 (sym all ∙ h), λ h. all ∙ holds.1 h)
    told_meaning (Err e) same = tt

  pub told_unread : (old now : Keys PathName) → old ≡ [] → now ≡ with_keys path_cmp old (lacking tree listed loaded rules) → (result : Result Readers AllocError) → IfOk result (λ told. told.unread ≡ keys_of now) → IfOk result (λ told. AreUnread tree loaded path told.unread)
  told_unread old now none is (Ok told) same =
      subst (AreUnread tree loaded path) (sym (same ∙ ap keys_of (is ∙ (ap (λ (keys : Keys PathName). with_keys path_cmp keys (lacking tree listed loaded rules)) none ∙ ap (λ rs. with_keys path_cmp [] (lacking tree listed loaded rs)) rules_are))))
      (are_unread tree listed loaded path lists)
  told_unread old now none is (Err e) same = tt
