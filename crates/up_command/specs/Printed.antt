-- What a command prints, line by line. This project's own.
use Rattle.std.specs.Prelude.{ℕ, List, ◌++◌, codes, decimal, Result, Ok, Err}
use Rattle.std.specs.List.{flat_map}
use Rattle.up_client.specs.declared.fault.ClientFault.{ClientFault}
use Rattle.up_names.specs.Texts.{Text}
use Rattle.up_text.specs.ClientFaults.{fault_lines}
use Rattle.up_text.specs.Replies.{reply_lines}
use Rattle.up_wire.specs.declared.replies.Done.TheVariants as done
use Rattle.up_wire.specs.declared.replies.Reply.TheVariants as reply

-- a line of output
abbrev pub ended : Text → Text
ended text = text ++ codes "\n"

-- a line of output about a session: its number and a space stand before it
abbrev pub numbered : ℕ → Text → Text
numbered number text = decimal number ++ codes " " ++ ended text

-- lines of output about a session, each with the session's number
abbrev pub all_numbered : ℕ → List Text → Text
all_numbered number texts = flat_map (numbered number) texts

-- `bad line N`, the last line of a run that ends at a malformed line
abbrev pub bad_line : ℕ → Text
bad_line number = codes "bad line " ++ decimal number ++ codes "\n"

-- the lines of a put: the position, as the reply to it, or why it failed
abbrev pub put_lines : Result ℕ ClientFault → List Text
put_lines (Ok position) = reply_lines (reply.Ok (done.Changed position))
put_lines (Err why) = fault_lines why

-- the lines of a get: the bytes, as the reply to it, or why it failed
abbrev pub got_lines : Result (List ℕ) ClientFault → List Text
got_lines (Ok bytes) = reply_lines (reply.Ok (done.Bytes bytes))
got_lines (Err why) = fault_lines why
