use Rattle.std.proofs.Common.{◌≡◌, ap, ◌∙◌, take, arith}
use Rattle.std.specs.String.{string_bytes}
use Rattle.std.proofs.lemmas.Str.{IsUtf8-string_bytes}
use Rattle.up_names.specs.PathNames.{cut}
use Rattle.up_names.specs.PathParts.{read_off, IsKept}
use Rattle.up_names.proofs.PathEdits.{text_seen, cut_seen}
use Rattle.up_names.proofs.PathPlaces.{cut_boundary-at}
use Rattle.up_names.proofs.paths.Path.drop_all.Goals as goal

pub truncate-requires : goal.truncate-requires
truncate-requires c =
    let path = c.args.self.now in
    let text = c.self.inside.text in
    let at = cut_boundary-at path 0 (omega arith) (string_bytes text) (text_seen c.self.invariant path c.self.view_is) (IsUtf8-string_bytes text) c.front_len-root.result c.front_len-root.ensures.end in
    λ _. (at.0, λ _ below. at.1 below)

-- the fields behind the cut
cut_is : (c : goal.After-truncate-2) → IsKept c.self.inside.owner (string_bytes c.truncate.new.self) c.truncate-2.new.self.items × (read_off c.self.inside.owner (string_bytes c.truncate.new.self) ≡ cut 0 c.args.self.now)
cut_is c =
    cut_seen c.self.invariant c.args.self.now c.self.view_is 0 (string_bytes c.truncate.new.self) c.truncate-2.new.self.items
    (c.truncate.ensures.bytes ∙ ap (λ n. take n (string_bytes c.self.inside.text)) c.front_len-root.ensures.end) c.truncate-2.ensures.items

pub invariant_of-self : goal.invariant_of-self
invariant_of-self c = (cut_is c).0

pub returns : goal.returns
returns c = (cut_is c).1
