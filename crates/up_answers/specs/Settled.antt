-- The law of a whole reply under a longer loading: what is loaded besides changes nothing once nothing more is needed.
use Rattle.std.specs.Prelude.{◌≡◌, ℕ, []}
use Rattle.up_names.specs.Texts.{UserName}
use Rattle.up_policy.specs.Loadings.{Loading}
use Rattle.up_wire.specs.declared.requests.Request.{Request}
use Rattle.up_log_tree.specs.Logs.{Log}
use Rattle.up_answers.specs.Answers.{added, answer}
use Rattle.up_answers.specs.Fetching.{Fetched}
use Rattle.up_answers.specs.Laws.{Extends, IsWhole}
use Rattle.up_answers.specs.Needs.{needs}

-- Where no group is needed for a request any more, what is loaded besides changes neither its answer nor the record that it adds.
abbrev pub RepliesAreSettled : Type 0
RepliesAreSettled =
    (log : Log) (less more : Loading) (fetched : Fetched) (user : UserName) (request : Request) (now : ℕ)
    → IsWhole log → Extends less more →
    needs log less user request ≡ [] →
    (answer log less fetched user request now ≡ answer log more fetched user request now)
    × (added log less fetched user request now ≡ added log more fetched user request now)
