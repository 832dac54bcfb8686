use Rattle.std.proofs.Common.{◌≡◌, None, Some, rules}
use Rattle.std.specs.List.{position}
use Rattle.up_pattern.specs.Elements.{is_close}
use Rattle.up_pattern.proofs.Closing.{closed_at, open_from}
use Rattle.up_pattern.proofs.elements.split_at_close.Goals as goal

pub returns-in_err-close : goal.returns-in_err-close
returns-in_err-close c =
    let none : position is_close c.args.tokens.now ≡ None = search rules in
    let open_to_end = open_from c.args.tokens.now none in
    search rules

pub returns : goal.returns
returns c =
    let found : position is_close c.args.tokens.now ≡ Some c.in_ok-close.close = search rules in
    closed_at c.args.tokens.now c.in_ok-close.close found
