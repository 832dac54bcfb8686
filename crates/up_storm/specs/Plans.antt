-- What the words of `upspin storm` plan. This project's own.
use Rattle.std.specs.Prelude.{Bool, true, false, ◌&&◌, nat_le, if◌then◌else◌, List, [], ◌∷◌, codes, Option, Some, None}
use Rattle.std.specs.Str.{bytes_eq}
use Rattle.up_command.specs.Words.{◌>>=◌}
use Rattle.up_names.specs.Texts.{Text}
use Rattle.up_storm.specs.declared.plan.Plan.{Plan}
use Rattle.up_text.specs.Numbers.{num_of}

-- 1 to 32 sessions at once, each of at most 4,096 requests
abbrev pub is_within : Plan → Bool
is_within plan = nat_le 1 plan.sessions && (nat_le plan.sessions 32 && nat_le plan.requests 4096)

-- a plan, where it keeps these bounds
abbrev pub bounded : Plan → Option Plan
bounded plan = if is_within plan then Some plan else None

-- `SEED SESSIONS REQUESTS`: three numbers
unfoldable pub planned : Text → Text → Text → Bool → Option Plan
planned seed sessions requests full = do
  start ← num_of seed
  count ← num_of sessions
  each ← num_of requests
  bounded (record { seed = start; sessions = count; requests = each; full = full })

-- `storm SEED SESSIONS REQUESTS`, and perhaps `--full` behind it
unfoldable pub plan_of : List Text → Option Plan
plan_of (command ∷ seed ∷ sessions ∷ requests ∷ []) =
    if bytes_eq command (codes "storm") then planned seed sessions requests false else None
plan_of (command ∷ seed ∷ sessions ∷ requests ∷ option ∷ []) =
    if bytes_eq command (codes "storm") && bytes_eq option (codes "--full") then planned seed sessions requests true else None
plan_of _ = None
