-- Where a request goes, before any tree is looked at (this project's own).
use Rattle.std.specs.Prelude.{Ok, Err}
use Rattle.up_names.specs.Texts.{UserName}
use Rattle.up_wire.specs.declared.requests.Request.{Request}
use Rattle.up_list.specs.Asking.{asked_of, owner_asked}
use Rattle.up_answers.specs.Answers.{fault_reply, log_owner}
use Rattle.up_answers.specs.Routes.{locations_asked}
use Rattle.up_edits.specs.declared.routes.Route.{Route}
use Rattle.up_edits.specs.declared.routes.Route.TheVariants.{Refused, Tree}

-- Something of a user's request is malformed, and this is the reply whatever the tree; or the owner of the log to which its path
-- belongs, and the blocks that have to be fetched.
unfoldable pub route_of : UserName → Request → Route
route_of user request = elim (asked_of user request) [
  | Ok asked ↦ Tree (log_owner (owner_asked asked)) (locations_asked asked)
  | Err fault ↦ Refused (fault_reply fault)
]
