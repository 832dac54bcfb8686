-- Two lists of turns.
use Rattle.std.proofs.Common.{◌≡◌, ℕ, true, false, List, [], ◌∷◌, refl, sym, ap, subst, ◌∙◌, inl, inr, bytes_eq}
use Rattle.std.specs.Prelude.{if◌then◌else◌, Contains}
use Rattle.std.proofs.lemmas.Bool.{false_from_ne_true}
use Rattle.std.proofs.lemmas.Slice.Eq.{bytes_eq-Decides}
use Rattle.up_policy.proofs.PathLists.{Contains-cons, no_member}
use Rattle.up_policy.specs.Loadings.{Loading}
use Rattle.up_log_tree.specs.Logs.{Log}
use Rattle.up_answers.specs.Agreement.{Agree, used}
use Rattle.up_answers.specs.Answers.{answer}
use Rattle.up_answers.specs.Laws.{HistoriesAgree, Turn, after_request, after_turn, replies_to}
use Rattle.up_answers.proofs.AnswerLemmas.{answers_agree}
use Rattle.up_answers.proofs.FitLemmas.{added_records_fit}
use Rattle.up_answers.proofs.RequestLemmas.{requests_keep_agreement}

-- agreement for one of the loadings
agree_for : (user : List ℕ) (loadings : List Loading) (loaded : Loading) (one two : Log) → Contains loadings loaded → Agree user loadings one two → Agree user (loaded ∷ []) one two
agree_for user loadings loaded one two among agree = record {
  owner = agree.owner;
  limits = agree.limits;
  length = agree.length;
  bytes = agree.bytes;
  for_owner = agree.for_owner;
  for_others = λ other l h. elim (Contains-cons loaded l [] h) [ inl same ↦ agree.for_others other l (subst (Contains loadings) same among) | inr none ↦ absurd (no_member l none) ];
}

pub histories_agree : HistoriesAgree
histories_agree user loadings one two [] [] is is' q q' agree step = refl
histories_agree user loadings one two [] (b ∷ bs) is is' q q' agree step = absurd step
histories_agree user loadings one two (a ∷ as') [] is is' q q' agree step = absurd step
histories_agree user loadings one two (a ∷ as') (b ∷ bs) is is' q q' agree step = elim (step.0) [
  | inl (mine, same, among) ↦
      let yes' : bytes_eq a.user user ≡ true = (bytes_eq-Decides a.user user).1 mine in
      let answers : answer one a.loaded a.fetched a.user a.request a.now ≡ answer two b.loaded b.fetched b.user b.request b.now =
      ap (λ u. answer one a.loaded a.fetched u a.request a.now) mine
      ∙ (answers_agree user a.loaded a.fetched a.request a.now one two is is' (agree_for user loadings (used a.request a.loaded) one two among agree)
      ∙ (sym (ap (λ u. answer two a.loaded a.fetched u a.request a.now) mine) ∙ ap (λ (t : Turn). answer two t.loaded t.fetched t.user t.request t.now) same)) in
      let agrees : Agree user loadings (after_turn one a) (after_turn two b) =
      subst (λ (t : Turn). Agree user loadings (after_turn one a) (after_turn two t)) same
      (subst (λ u. Agree user loadings (after_request one a.loaded a.fetched u a.request a.now) (after_request two a.loaded a.fetched u a.request a.now)) (sym mine)
      (requests_keep_agreement user loadings a.loaded a.fetched a.request a.now one two is is' q.0 among agree)) in
      let rest = histories_agree user loadings (after_turn one a) (after_turn two b) as' bs
      (added_records_fit one a.loaded a.fetched a.user a.request a.now is q.0) (added_records_fit two b.loaded b.fetched b.user b.request b.now is' q'.0) q.1 q'.1 agrees step.1 in
      ap (λ t. if t then answer one a.loaded a.fetched a.user a.request a.now ∷ replies_to user (after_turn one a) as' else replies_to user (after_turn one a) as') yes'
      ∙ (ap (λ r. r ∷ replies_to user (after_turn one a) as') answers
      ∙ (ap (λ rs. answer two b.loaded b.fetched b.user b.request b.now ∷ rs) rest
      ∙ sym (ap (λ t. if t then answer two b.loaded b.fetched b.user b.request b.now ∷ replies_to user (after_turn two b) bs else replies_to user (after_turn two b) bs) (ap (λ (t : Turn). bytes_eq t.user user) (sym same) ∙ yes'))))
  | inr (other, other', agrees) ↦
      let no₁ : bytes_eq a.user user ≡ false = false_from_ne_true (bytes_eq a.user user) (λ h. other ((bytes_eq-Decides a.user user).0 h)) in
      let no₂ : bytes_eq b.user user ≡ false = false_from_ne_true (bytes_eq b.user user) (λ h. other' ((bytes_eq-Decides b.user user).0 h)) in
      let rest = histories_agree user loadings (after_turn one a) (after_turn two b) as' bs
      (added_records_fit one a.loaded a.fetched a.user a.request a.now is q.0) (added_records_fit two b.loaded b.fetched b.user b.request b.now is' q'.0) q.1 q'.1 agrees step.1 in
      ap (λ t. if t then answer one a.loaded a.fetched a.user a.request a.now ∷ replies_to user (after_turn one a) as' else replies_to user (after_turn one a) as') no₁
      ∙ (rest
      ∙ sym (ap (λ t. if t then answer two b.loaded b.fetched b.user b.request b.now ∷ replies_to user (after_turn two b) bs else replies_to user (after_turn two b) bs) no₂))
]
