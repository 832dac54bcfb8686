-- What the words of `upspin share` say. This project's own.
use Rattle.std.specs.Prelude.{if◌then◌else◌, List, [], ◌∷◌, codes, Option, Some, None}
use Rattle.std.specs.Str.{bytes_eq}
use Rattle.up_command.specs.Words.{◌>>=◌}
use Rattle.up_names.specs.Texts.{Text}
use Rattle.up_reports.specs.Owners.{owner_in}
use Rattle.up_share.specs.declared.plan.SharePlan.{SharePlan}
use Rattle.up_text.specs.Numbers.{num_of}

-- a folder, the number of a tree's file, and its owner, who is no snapshot user; each word stands for itself
unfoldable pub plan_from : Text → Text → Text → Option SharePlan
plan_from folder place user = do
  number ← num_of place
  owner ← owner_in user
  Some (record { folder = folder; place = number; owner = owner })

-- the words `share DIR K USER`, and no others
unfoldable pub plan_of : List Text → Option SharePlan
plan_of (command ∷ folder ∷ place ∷ user ∷ []) = if bytes_eq command (codes "share") then plan_from folder place user else None
plan_of words = None
