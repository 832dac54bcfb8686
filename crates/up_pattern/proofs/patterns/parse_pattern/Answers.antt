use Rattle.std.proofs.Common.{◌≡◌, ◌∙◌, [], Ok, ap, rules, arith}
use Rattle.std.specs.List.{before_first}
use Rattle.up_names.specs.PathNames.{is_slash, pieces_of}
use Rattle.up_names.specs.UserNames.{user_of}
use Rattle.up_pattern.specs.Patterns.{elements_of}
use Rattle.up_pattern.proofs.LiteralNames.{elements_of-names}
use Rattle.up_pattern.proofs.PatternTexts.{elements_of-nil, pattern_of-good, pieces_of-none, pieces_of-some}
use Rattle.up_pattern.proofs.patterns.parse_pattern.Goals as goal
use Rattle.up_pattern.proofs.patterns.parse_pattern.Goals.{Joined-pieces, in-Some+in_ok-elements-in-Some, in-None}

-- the elements are those of the pieces behind the owner, if there are any
elements_read : (c : Joined-pieces) → elements_of (pieces_of c.args.text.now) ≡ Ok c.match-pieces.elements.items
elements_read c = elim c.match-pieces.branch [
  | in-Some+in_ok-elements-in-Some w ↦
      let pieces = pieces_of-some c.args.text.now w.in-Some.pieces.now (search rules) in
      let kept : w.in_ok-elements-in-Some.elements.items ≡ c.match-pieces.elements.items = search rules in
      ap elements_of pieces ∙ w.in_ok-elements-in-Some.ensures ∙ ap Ok kept
  | in-None w ↦
      let pieces = pieces_of-none c.args.text.now (search rules) in
      let kept : [] ≡ c.match-pieces.elements.items = search rules in
      ap elements_of pieces ∙ elements_of-nil ∙ ap Ok kept
]

pub returns : goal.returns
returns c =
    let owner : user_of (before_first is_slash c.args.text.now) ≡ Ok c.in_ok-owner.owner = search rules in
    pattern_of-good c.args.text.now c.in_ok-owner.owner c.match-pieces.elements.items (omega arith) owner (elements_read (goal.at.returns c).Joined-pieces)

pub invariant_of-result : goal.invariant_of-result
invariant_of-result c = elements_of-names (pieces_of c.args.text.now) c.match-pieces.elements.items (elements_read (goal.at.invariant_of-result c).Joined-pieces)
