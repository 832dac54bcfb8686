use Rattle.std.proofs.Common.{◌≡◌, ◌-◌, ap, ◌∙◌, length, take, arith}
use Rattle.std.specs.String.{string_bytes}
use Rattle.std.proofs.lemmas.Str.{IsUtf8-string_bytes}
use Rattle.up_names.specs.PathNames.{cut}
use Rattle.up_names.specs.PathParts.{read_off, IsKept}
use Rattle.up_names.proofs.PathEdits.{text_seen, len_seen, cut_seen}
use Rattle.up_names.proofs.PathPlaces.{cut_boundary-at}
use Rattle.up_names.proofs.paths.Path.drop_last.Goals as goal

-- the number of elements
len_is : (c : goal.Else-len-eq0) → c.len-len.result ≡ length c.args.self.now.elements
len_is c = c.len-len.ensures.value ∙ len_seen c.self.invariant c.args.self.now c.self.view_is

pub front_len-front-requires : goal.front_len-front-requires
front_len-front-requires c = omega (arith, len_is c)

pub truncate-requires : goal.truncate-requires
truncate-requires c =
    let path = c.args.self.now in
    let text = c.self.inside.text in
    let len : c.len-len.result ≡ length path.elements = c.len-len.ensures.value ∙ len_seen c.self.invariant path c.self.view_is in
    let at = cut_boundary-at path (c.len-len.result - 1) (omega arith) (string_bytes text) (text_seen c.self.invariant path c.self.view_is) (IsUtf8-string_bytes text) c.front_len-front.result c.front_len-front.ensures.end in
    λ _. (at.0, λ _ below. at.1 below)

-- the fields behind the cut
cut_is : (c : goal.After-truncate-2) → IsKept c.self.inside.owner (string_bytes c.truncate.new.self) c.truncate-2.new.self.items × (read_off c.self.inside.owner (string_bytes c.truncate.new.self) ≡ cut (c.len-len.result - 1) c.args.self.now)
cut_is c =
    cut_seen c.self.invariant c.args.self.now c.self.view_is (c.len-len.result - 1) (string_bytes c.truncate.new.self) c.truncate-2.new.self.items
    (c.truncate.ensures.bytes ∙ ap (λ n. take n (string_bytes c.self.inside.text)) c.front_len-front.ensures.end) c.truncate-2.ensures.items

pub invariant_of-self : goal.invariant_of-self
invariant_of-self c = (cut_is c).0

pub returns-clause-last : goal.returns-clause-last
returns-clause-last c =
    let path = c.args.self.now in
    let len : c.len-len.result ≡ length path.elements = c.len-len.ensures.value ∙ len_seen c.self.invariant path c.self.view_is in
    (cut_is c).1 ∙ ap (λ n. cut (n - 1) path) len
