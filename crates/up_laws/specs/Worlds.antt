-- Two trees that are asked the same. This project's own.
use Rattle.std.specs.Prelude.{◌≡◌, false, List, [], ◌∷◌, Contains}
use Rattle.up_policy.specs.Loadings.{Loading}
use Rattle.up_wire.specs.declared.replies.Reply.{Reply}
use Rattle.up_log_tree.specs.Logs.{Log}
use Rattle.up_answers.specs.Agreement.{Agree, used}
use Rattle.up_answers.specs.Laws.{Turn}
use Rattle.up_laws.specs.Turns.{one_stops}

-- Two logs, and what they became by the same turn, with the two replies, none of which tells of want of memory or of a disk. Logs that
-- agree for the user and for what the request uses of what was loaded give the same reply. Logs that agree for the user and for some
-- loadings, that one among them, still agree for them.
pub record AreAlike (turn : Turn) (one two one' two' : Log) (replies : Reply × Reply) : Type 0 where
  pub same : one_stops (turn, turn) replies ≡ false → Agree turn.user (used turn.request turn.loaded ∷ []) one two → replies.0 ≡ replies.1
  pub kept : one_stops (turn, turn) replies ≡ false → (loadings : List Loading) → Contains loadings (used turn.request turn.loaded) →
      Agree turn.user loadings one two → Agree turn.user loadings one' two'
