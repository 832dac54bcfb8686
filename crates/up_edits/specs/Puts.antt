-- A Put in two parts (this project's own).
use Rattle.std.specs.Prelude.{ℕ, ◌+◌, ⊤, Some, Result}
use Rattle.std.specs.Prelude as std
use Rattle.up_names.specs.Texts.{UserName}
use Rattle.up_entry.specs.declared.entries.Entry.{Entry}
use Rattle.up_entry.specs.declared.puts.Checked.{Checked}
use Rattle.up_entry.specs.declared.records.Rec.{Rec}
use Rattle.up_entry.specs.declared.records.Rec.TheVariants as rec
use Rattle.up_wire.specs.declared.replies.Reply.{Reply}
use Rattle.up_log_tree.specs.Trees.{node_at}
use Rattle.up_list.specs.Looks.{Look}
use Rattle.up_list.specs.Checks.{check, ways}
use Rattle.up_list.specs.Changes.{◌>>=◌, unless, right_to_put}
use Rattle.up_answers.specs.Fetching.{Fetched, text_put}
use Rattle.up_answers.specs.Puts.{place_refusal}

-- links and rights, and then what stands at the path and above it
unfoldable pub may_put : Look → Checked → Result ⊤ Reply
may_put look put =
    unless (check look (ways put.entry.name) put.entry.name (Some (right_to_put (node_at look.tree put.entry.name))))
    >>= λ allowed. place_refusal (node_at look.tree put.entry.name) look.tree put

-- the text, and then the record after n others
unfoldable pub recorded : UserName → ℕ → Fetched → Entry → Result Rec Reply
recorded owner n fetched entry = text_put owner fetched entry >>= λ text. std.Ok (rec.Put (record entry { sequence = n + 1 }) text)
