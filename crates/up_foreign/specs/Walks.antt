-- What a walk has found. (That it finds the items that are wanted is proved; nothing outside rests on these definitions.)
use Rattle.std.specs.Prelude.{List, fold}
use Rattle.up_names.specs.PathNames.{PathName}
use Rattle.up_log_tree.specs.Orders.{with_path}

-- paths in order, with more of them at their places
abbrev pub noted : List PathName → List PathName → List PathName
noted found more = fold (λ paths path. with_path path paths) found more
