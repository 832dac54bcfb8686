-- Turns of others of which a user sees nothing.
use Rattle.std.proofs.Common.{◌≡◌, ◌≢◌, ℕ, List, [], ◌∷◌, ◌++◌, sym, subst, inl, inr}
use Rattle.std.proofs.lemmas.List.{append-nil}
use Rattle.up_entry.specs.declared.records.Rec.{Rec}
use Rattle.up_policy.specs.Loadings.{Loading}
use Rattle.up_log_tree.specs.Logs.{Log}
use Rattle.up_answers.specs.Agreement.{Agree}
use Rattle.up_answers.specs.Laws.{IsWhole, Turn, after_request, after_turn}
use Rattle.up_answers.proofs.ApartLemmas.{apart_changes_keep_agreement}
use Rattle.up_answers.proofs.FitLemmas.{added_records_fit}
use Rattle.up_answers.proofs.RequestLemmas.{requests_keep_agreement, same_records_keep_agreement}
use Rattle.up_laws.specs.Turns.{added_in}
use Rattle.up_laws.specs.Apart.{ApartTurnsAreInStep, TellNothing}

abbrev with_records : Log → List Rec → Log
with_records log records = record log { records = log.records ++ records }

unchanged : (log : Log) → with_records log [] ≡ log
unchanged log i = record log { records = append-nil log.records i }

-- what tells nothing keeps agreement
nothing_told : (user : List ℕ) (loadings : List Loading) (one two : Log) (xs ys : List Rec) → user ≢ one.owner → IsWhole one → IsWhole two → IsWhole (with_records one xs) → IsWhole (with_records two ys) →
    Agree user loadings one two → TellNothing user loadings one two xs ys → Agree user loadings (with_records one xs) (with_records two ys)
nothing_told user loadings one two [] [] stranger is is' then' then₂ agree tells =
    subst (λ (l : Log). Agree user loadings l (with_records two [])) (sym (unchanged one)) (subst (λ (l : Log). Agree user loadings one l) (sym (unchanged two)) agree)
nothing_told user loadings one two (x ∷ []) (y ∷ []) stranger is is' then' then₂ agree (inl (same, ordinary)) =
    subst (λ (r : Rec). Agree user loadings (with_records one (x ∷ [])) (with_records two (r ∷ []))) same
    (same_records_keep_agreement user loadings one two x ordinary.path stranger is is' ordinary.changes ordinary.ordinary then'
    (subst (λ (r : Rec). IsWhole (with_records two (r ∷ []))) (sym same) then₂) agree)
nothing_told user loadings one two (x ∷ []) (y ∷ []) stranger is is' then' then₂ agree (inr (first, second, size)) =
    apart_changes_keep_agreement user loadings one two x y stranger is is' first second size agree
nothing_told user loadings one two [] (y ∷ ys) stranger is is' then' then₂ agree tells = absurd tells
nothing_told user loadings one two (x ∷ xs) [] stranger is is' then' then₂ agree tells = absurd tells
nothing_told user loadings one two (x ∷ []) (y ∷ z ∷ ys) stranger is is' then' then₂ agree tells = absurd tells
nothing_told user loadings one two (x ∷ z ∷ xs) (y ∷ ys) stranger is is' then' then₂ agree tells = absurd tells

pub apart_turns_are_in_step : ApartTurnsAreInStep
apart_turns_are_in_step user loadings one two [] [] stranger is is' q q' agree apart = tt
apart_turns_are_in_step user loadings one two [] (b ∷ bs) stranger is is' q q' agree apart = absurd apart
apart_turns_are_in_step user loadings one two (a ∷ as') [] stranger is is' q q' agree apart = absurd apart
apart_turns_are_in_step user loadings one two (a ∷ as') (b ∷ bs) stranger is is' q q' agree apart =
    let then' = added_records_fit one a.loaded a.fetched a.user a.request a.now is q.0 in
    let then₂ = added_records_fit two b.loaded b.fetched b.user b.request b.now is' q'.0 in
    elim (apart.0) [
      | inl (mine, same, among) ↦
          let agrees : Agree user loadings (after_turn one a) (after_turn two b) =
          subst (λ (t : Turn). Agree user loadings (after_turn one a) (after_turn two t)) same
          (subst (λ u. Agree user loadings (after_request one a.loaded a.fetched u a.request a.now) (after_request two a.loaded a.fetched u a.request a.now)) (sym mine)
          (requests_keep_agreement user loadings a.loaded a.fetched a.request a.now one two is is' q.0 among agree)) in
          (inl (mine, same, among), apart_turns_are_in_step user loadings (after_turn one a) (after_turn two b) as' bs stranger then' then₂ q.1 q'.1 agrees apart.1)
      | inr (other, other', tells) ↦
          let agrees : Agree user loadings (after_turn one a) (after_turn two b) = nothing_told user loadings one two (added_in one a) (added_in two b) stranger is is' then' then₂ agree tells in
          (inr (other, other', agrees), apart_turns_are_in_step user loadings (after_turn one a) (after_turn two b) as' bs stranger then' then₂ q.1 q'.1 agrees apart.1)
    ]
