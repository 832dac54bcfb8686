-- what the rows that are left tell, the whole table tells
use Rattle.std.proofs.Common.{drop}
use Rattle.up_wire.specs.declared.replies.Reply.{Reply}
use Rattle.up_client.specs.Tables.{IsReplyIn}
use Rattle.up_client.proofs.table.reply_in.Given as goal

abbrev pub invariant-loop-row : goal.invariant-loop-row
invariant-loop-row l = (reply : Reply) → IsReplyIn (drop l.row-index l.rows) l.request reply → IsReplyIn l.rows l.request reply
