-- When two logs agree for a user: when the user can tell no difference (this project's own).
use Rattle.std.specs.Prelude.{◌≡◌, ◌≢◌, List, [], length, Contains}
use Rattle.up_names.specs.Texts.{UserName}
use Rattle.up_names.specs.PathNames.{PathName}
use Rattle.up_wire.specs.declared.requests.Request.{Request}
use Rattle.up_wire.specs.declared.requests.Request.TheVariants as request
use Rattle.up_log_tree.specs.Logs.{Log, bytes_of}
use Rattle.up_list.specs.Looks.{look_now}
use Rattle.up_answers.specs.Events.{events}
use Rattle.up_policy.specs.Loadings.{Loading}
use Rattle.up_answers.specs.Views.{view}

-- with this loaded, a user sees the same at every path of the owner, and the same events
pub record SeesTheSame (user : UserName) (loaded : Loading) (one two : Log) : Type 0 where
  pub views : (path : PathName) → path.owner ≡ one.owner → view (look_now one loaded user) path ≡ view (look_now two loaded user) path
  pub events : events one loaded user ≡ events two loaded user

-- Two logs agree for a user and a list of loadings: owner and limits are the same, and the logs are as long, in records and in bytes.
-- For the owner the logs are one. Any other user sees the same with each of the loadings.
pub record Agree (user : UserName) (loadings : List Loading) (one two : Log) : Type 0 where
  pub owner : one.owner ≡ two.owner
  pub limits : one.limits ≡ two.limits
  pub length : length one.records ≡ length two.records
  pub bytes : bytes_of one.records ≡ bytes_of two.records
  pub for_owner : user ≡ one.owner → one.records ≡ two.records
  pub for_others : user ≢ one.owner → (loaded : Loading) → Contains loadings loaded → SeesTheSame user loaded one two

-- what a request uses of what was loaded: nothing for GroupText
abbrev pub used : Request → Loading → Loading
used (request.GroupText text) loaded = []
used other loaded = loaded
