-- Two trees that are asked the same.
use Rattle.std.proofs.Common.{◌≡◌, Bool, true, false, ◌||◌, ◌<◌, refl, sym, subst, ◌∙◌}
use Rattle.std.proofs.lemmas.Bool.{false≢true}
use Rattle.up_disk.specs.declared.disk.Disk.{Ghosts}
use Rattle.up_wire.specs.declared.replies.Reply.{Reply}
use Rattle.up_log_tree.specs.Logs.{Log}
use Rattle.up_tree.specs.States.{State, log_of}
use Rattle.up_answers.specs.Agreement.{Agree}
use Rattle.up_answers.specs.Laws.{Turn, after_turn}
use Rattle.up_answers.proofs.AnswerLemmas.{answers_agree}
use Rattle.up_answers.proofs.RequestLemmas.{requests_keep_agreement}
use Rattle.up_laws.specs.Turns.{IsMade, stops}
use Rattle.up_laws.specs.Worlds.{AreAlike}
use Rattle.up_laws.proofs.TurnLemmas.{made_log}

-- neither of two holds
pub neither : (a b : Bool) → (a || b) ≡ false → (a ≡ false) × (b ≡ false)
neither false b h = (refl, h)
neither true b h = absurd (false≢true (sym h))

module _ {D E : Type 0} (disks : Ghosts D) (others : Ghosts E) (turn : Turn) (a a' : State D) (b b' : State E) (first second : Reply) where
  -- the same turn on two trees
  pub made_alike : turn.now < 253402207200 → IsMade disks turn a a' first → IsMade others turn b b' second → AreAlike turn (log_of a) (log_of b) (log_of a') (log_of b') (first, second)
  made_alike moment one two = record {
    same = λ goes agree.
        let each = neither (stops turn first) (stops turn second) goes in
        one.answered each.0
        ∙ (answers_agree turn.user turn.loaded turn.fetched turn.request turn.now (log_of a) (log_of b) one.log two.log agree
        ∙ sym (two.answered each.1));
    kept = λ goes loadings among agree.
        let each = neither (stops turn first) (stops turn second) goes in
        subst (λ (l : Log). Agree turn.user loadings l (log_of b')) (sym (made_log disks turn a a' first one each.0))
        (subst (λ (l : Log). Agree turn.user loadings (after_turn (log_of a) turn) l) (sym (made_log others turn b b' second two each.1))
        (requests_keep_agreement turn.user loadings turn.loaded turn.fetched turn.request turn.now (log_of a) (log_of b) one.log two.log moment among agree));
  }
