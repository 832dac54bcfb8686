-- Which lines of a script of `upspin script` are malformed: by themselves, or by the hosts and trees that the good lines before them have
-- named. Each good `host` line counts as opened. This project's own.
use Rattle.std.specs.Prelude.{◌≡◌, ◌≢◌, ℕ, Bool, ◌&&◌, not, nat_lt, if◌then◌else◌, List, [], ◌∷◌, ◌++◌, length, Option, Some, None}
use Rattle.std.specs.List.{list_all, list_any}
use Rattle.std.specs.Option.{option_and_then}
use Rattle.std.specs.Str.{bytes_eq}
use Rattle.up_names.specs.Texts.{Text, UserName}
use Rattle.up_command.specs.Users.{has_user}
use Rattle.up_script_lines.specs.ScriptLines.{line_of}
use Rattle.up_script_lines.specs.declared.script_lines.NewHost.{NewHost}
use Rattle.up_script_lines.specs.declared.script_lines.ScriptLine.{ScriptLine}
use Rattle.up_script_lines.specs.declared.script_lines.ScriptLine.TheVariants as lines
use Rattle.up_text.specs.Lines.{script_lines}
use Rattle.up_explain_can.specs.Explaining.{bad_from}

-- whether one of the hosts has this name
abbrev pub has_host : List NewHost → Text → Bool
has_host hosts name = list_any (λ host. bytes_eq host.name name) hosts

-- whether one of the hosts has the tree of this owner
abbrev pub has_tree : List NewHost → UserName → Bool
has_tree hosts owner = list_any (λ host. has_user host.owners owner) hosts

-- A host is new: there are fewer than 8, none has its name, and none has one of its trees.
abbrev pub is_new : List NewHost → NewHost → Bool
is_new hosts host = nat_lt (length hosts) 8 && not (has_host hosts host.name) && list_all (λ owner. not (has_tree hosts owner)) host.owners

-- the hosts behind what a line says; none where it does not fit behind these
abbrev pub hosts_behind : List NewHost → ScriptLine → Option (List NewHost)
hosts_behind hosts (lines.Host host) = if is_new hosts host then Some (hosts ++ host ∷ []) else None
hosts_behind hosts (lines.Enrol user) = if has_host hosts user.host then Some hosts else None
hosts_behind hosts (lines.Open session) = if has_host hosts session.host then Some hosts else None
hosts_behind hosts lines.Silent = Some hosts
hosts_behind hosts (lines.Request number words) = Some hosts
hosts_behind hosts (lines.Client number call) = Some hosts

-- the hosts behind a line; none where it is malformed
abbrev pub line_behind : List NewHost → Text → Option (List NewHost)
line_behind hosts line = option_and_then (hosts_behind hosts) (line_of line)

-- the numbers of the malformed lines of a whole script
abbrev pub bad_in_script : Text → List ℕ
bad_in_script input = bad_from line_behind 1 [] (script_lines input)
