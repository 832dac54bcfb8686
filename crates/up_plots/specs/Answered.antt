-- What is answered over a log, and how much room it has. This project's own.
use Rattle.std.specs.Prelude.{◌≡◌, ℕ, List, nat_lt, false}
use Rattle.up_answers.specs.Answers.{added, answer}
use Rattle.up_answers.specs.Fetching.{Fetched}
use Rattle.up_entry.specs.declared.records.Rec.{Rec}
use Rattle.up_list.specs.Changes.{is_full}
use Rattle.up_log_tree.specs.Logs.{Log}
use Rattle.up_log_tree.specs.Sizes.{size_of}
use Rattle.up_names.specs.Texts.{UserName}
use Rattle.up_policy.specs.Loadings.{Loading}
use Rattle.up_wire.specs.declared.replies.Reply.{Reply}
use Rattle.up_wire.specs.declared.requests.Request.{Request}

-- a log has room for a record
pub record HasRoom (log : Log) (rec : Rec) : Type 0 where
  pub small : nat_lt log.limits.largest (size_of rec) ≡ false
  pub room : is_full log (size_of rec) ≡ false

-- a user's request over a log is answered by this reply, and adds these records
pub record IsAnswered (log : Log) (loaded : Loading) (fetched : Fetched) (user : UserName) (request : Request) (now : ℕ)
    (said : Reply) (records : List Rec) : Type 0 where
  pub reply : answer log loaded fetched user request now ≡ said
  pub added : added log loaded fetched user request now ≡ records
