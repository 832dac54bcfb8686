-- How long a reply may be: this project's own bound.
use Rattle.std.specs.Prelude.{ℕ, nat_lt, if◌then◌else◌}
use Rattle.up_bytes.specs.Sizes.{size_of}
use Rattle.up_wire.specs.declared.messages.ServerFrame.TheVariants.{Answer}
use Rattle.up_wire.specs.declared.replies.Reply.{Reply}
use Rattle.up_wire.specs.declared.replies.Reply.TheVariants as reply
use Rattle.up_wire.specs.Spelling.{server}

-- how many bytes the payload of a reply has
abbrev pub reply_size : Reply → ℕ
reply_size given = size_of (server (Answer given))

-- a reply of what was done has at most 67,108,864 bytes: in place of a longer one stands how many it would have
abbrev pub bounded : Reply → Reply
bounded (reply.Ok d) = if nat_lt 67108864 (reply_size (reply.Ok d)) then reply.TooLarge (reply_size (reply.Ok d)) else reply.Ok d
bounded given = given
