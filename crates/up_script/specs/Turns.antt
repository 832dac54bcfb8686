-- What is known of what a line of a script says, and the results of lines by what the hosts answered. This project's own.
use Rattle.std.specs.Prelude.{◌≡◌, ◌≤◌, ℕ, Bool, true, Result, Ok, Err}
use Rattle.up_journal.specs.declared.fault.AppendWhy.{AppendWhy}
use Rattle.up_journal.specs.declared.fault.AppendWhy.TheVariants as append
use Rattle.up_names.specs.Texts.{Text, UserName}
use Rattle.up_sessions.specs.declared.fault.LineFault.{LineFault}
use Rattle.up_sessions.specs.declared.fault.LineFault.TheVariants as fault
use Rattle.up_command.specs.Words.{is_key}
use Rattle.up_script_lines.specs.ScriptLines.{are_owners}
use Rattle.up_script.specs.Scripts.{LineResult, LineDid, did_of_open}
use Rattle.up_script_lines.specs.Askable.{AskSomething}
use Rattle.up_script_lines.specs.declared.script_lines.ScriptLine.{ScriptLine}
use Rattle.up_script_lines.specs.declared.script_lines.ScriptLine.TheVariants as lines
use Rattle.up_script.specs.declared.stop.LineStop.TheVariants as stop

-- the trees of a host are few and of different users, a key has its bounds, a number is one of the hundred, and words ask something
abbrev pub IsGood : ScriptLine → Type 0
IsGood lines.Silent = Unit {0}
IsGood (lines.Host host) = are_owners host.owners ≡ true
IsGood (lines.Enrol user) = is_key user.key ≡ true
IsGood (lines.Open session) = session.number ≤ 99
IsGood (lines.Request number words) = AskSomething words
IsGood (lines.Client number call) = Unit {0}

-- ---- results

-- the result of a line that was to open a host with this name
abbrev pub result_of_host : Text → Result (Unit {0}) LineFault → LineResult
result_of_host name (Ok done) = Ok (LineDid.HostOpened name)
result_of_host name (Err fault.Fault) = Err stop.DiskFault
result_of_host name (Err fault.OutOfMemory) = Err stop.OutOfMemory

-- the result of a line that was to enrol this user
abbrev pub result_of_enrol : UserName → Result ℕ AppendWhy → LineResult
result_of_enrol user (Ok position) = Ok (LineDid.Enrolled user)
result_of_enrol user (Err (append.Full records)) = Ok (LineDid.EnrolFull records)
result_of_enrol user (Err append.Fault) = Err stop.DiskFault
result_of_enrol user (Err append.OutOfMemory) = Err stop.OutOfMemory

-- the result of a line that was to open this session
abbrev pub result_of_open : ℕ → Result Bool LineFault → LineResult
result_of_open number (Ok is_open) = Ok (did_of_open number is_open)
result_of_open number (Err fault.Fault) = Err stop.HelperFault
result_of_open number (Err fault.OutOfMemory) = Err stop.OutOfMemory
