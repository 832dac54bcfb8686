-- Which requests a follower answers: those that only look at a tree. This project's own.
use Rattle.std.specs.Prelude.{Bool, true, false}
use Rattle.up_wire.specs.declared.requests.Request.{Request}
use Rattle.up_wire.specs.declared.requests.Request.TheVariants as request

-- whether a request only looks at a tree
abbrev pub is_read : Request → Bool
is_read (request.Lookup path) = true
is_read (request.WhichAccess path) = true
is_read (request.GroupText path) = true
is_read (request.Glob pattern) = true
is_read (request.Watch path sequence) = true
is_read other = false
