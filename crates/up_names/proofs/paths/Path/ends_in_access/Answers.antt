use Rattle.std.proofs.Common.{◌≡◌, ◌-◌, codes, length, slice_get, get_or, [], Some, option_copied, ap, sym, ◌∙◌, arith}
use Rattle.std.proofs.lemmas.Option.{none-some, slice_get-get_or}
use Rattle.up_names.proofs.PathComparisons.{ends_in}
use Rattle.up_names.proofs.paths.Path.ends_in_access.Goals as goal

pub returns-in-Some : goal.returns-in-Some
returns-in-Some c =
    let elements = c.args.self.now.elements in
    let found : slice_get elements (length elements - 1) ≡ Some c.in-Some.last.now = ap (λ n. slice_get elements (n - 1)) (sym c.len-len.ensures) ∙ sym c.element.ensures ∙ ap option_copied c.in-Some.is in
    c.eq.ensures ∙ sym (ends_in elements c.in-Some.last.now (codes "Access") found)

pub returns-in-None : goal.returns-in-None
returns-in-None c =
    let elements = c.args.self.now.elements in
    let found = slice_get-get_or elements (c.len-len.result - 1) [] (omega arith) in
    absurd (none-some (get_or elements (c.len-len.result - 1) []) (ap option_copied (sym c.in-None.is) ∙ c.element.ensures ∙ found))
