use Rattle.std.proofs.Common.{◌≡◌, ◌∷◌, ◌++◌, [], cond, not, eqb, ap, ◌∙◌, length, arith}
use Rattle.std.specs.String.{string_bytes}
use Rattle.up_names.specs.PathNames.{extended}
use Rattle.up_names.specs.PathParts.{read_off, IsKept}
use Rattle.up_names.proofs.PathEdits.{longer_seen, extended_seen}
use Rattle.up_names.proofs.paths.Path.add.Goals as goal
use Rattle.up_names.proofs.paths.Path.add.Goals.{After-len}

-- a slash is written below the root alone
below : (c : After-len) → not c.is_empty-below_root.result ≡ not (eqb (length c.self.inside.ends.items) 0)
below c = ap not c.is_empty-below_root.ensures

-- what is written
long : (c : After-len) → string_bytes c.push_element.new.text ≡ cond (not c.is_empty-below_root.result) (string_bytes c.self.inside.text ++ 47 ∷ []) (string_bytes c.self.inside.text) ++ c.args.element.now
long c = c.push_element.ensures ∙ ap (λ text. cond (not c.is_empty-below_root.result) (text ++ 47 ∷ []) text ++ c.args.element.now) c.in_ok-reserve-2.ensures.bytes

pub overflow_cast-len : goal.overflow_cast-len
overflow_cast-len c =
    let text = longer_seen c.self.invariant c.args.self.now c.self.view_is c.args.element.now (string_bytes c.push_element.new.text) (not c.is_empty-below_root.result) (below c) (long c) in
    omega (arith, c.push_element.new.text.bytes.ok.0, ap length text)

-- where the element ends
places : (c : goal.After-push_reserved) → c.push_reserved.new.self.items ≡ c.self.inside.ends.items ++ length (string_bytes c.push_element.new.text) ∷ []
places c =
    let end : c.len.result ≡ length (string_bytes c.push_element.new.text) = c.len.ensures ∙ c.push_element.new.text.bytes.ok.0 in
    let ends : c.reserve.new.self.items ≡ c.self.inside.ends.items = c.in_ok-reserve.ensures.items in
    rw (c.push_reserved.ensures.items, end, ends)

-- the fields with the element
added : (c : goal.After-push_reserved) → IsKept c.self.inside.owner (string_bytes c.push_element.new.text) c.push_reserved.new.self.items × (read_off c.self.inside.owner (string_bytes c.push_element.new.text) ≡ extended c.args.self.now c.args.element.now)
added c =
    let before = (goal.at.invariant_of-self-2 c).After-len in
    extended_seen c.self.invariant c.args.self.now c.self.view_is c.args.element.now (string_bytes c.push_element.new.text)
    (not c.is_empty-below_root.result) (below before) (long before) c.push_reserved.new.self.items (places c) c.requires.named c.requires.fits

pub invariant_of-self-2 : goal.invariant_of-self-2
invariant_of-self-2 c = (added c).0

pub returns-clause-added : goal.returns-clause-added
returns-clause-added c = (added c).1
