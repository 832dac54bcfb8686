use Rattle.std.proofs.Common.{◌≡◌, ◌+◌, ◌++◌, [], drop, get_or, Some, None, Ok, sym, subst, ap, ◌∙◌, arith}
use Rattle.std.specs.List.{slice_get}
use Rattle.std.specs.Option.{option_copied}
use Rattle.std.proofs.lemmas.Option.{slice_get-get_or}
use Rattle.up_names.specs.PathNames.{PathName, extended}
use Rattle.up_client.specs.Links.{behind, short}
use Rattle.up_client.proofs.Behind.{canonical_short, element_named, meant_handed, short_is, whole_fault, whole_more}
use Rattle.up_client.proofs.links.behind.Goals as goal

pub loop-i-init : goal.loop-i-init
loop-i-init c =
    let same : c.in_ok-next.next ≡ c.args.target.now = c.in_ok-next.ensures.cases in record {
      owner = ap (λ (p : PathName). p.owner) same;
      whole = ap (λ (p : PathName). p.elements ++ drop c.args.n c.args.path.now.elements) same;
      fits = subst (λ (p : PathName). short p ≡ Ok p) (sym same) (canonical_short c.args.target.now c.as_str-target.ensures.again);
    }

pub returns-in_default : goal.returns-in_default
returns-in_default c =
    let some : slice_get c.args.path.now.elements c.loop-i.i ≡ Some (get_or c.args.path.now.elements c.loop-i.i []) = slice_get-get_or c.args.path.now.elements c.loop-i.i [] (omega arith) in
    let none : slice_get c.args.path.now.elements c.loop-i.i ≡ None = sym c.element.ensures ∙ ap option_copied c.in_default.is in
    absurd (let both = sym none ∙ some in cc)

pub joined-requires : goal.joined-requires
joined-requires c = element_named c.args.path.now c.loop-i.i c.in-Some.element.now c.as_str-path.ensures.again (sym c.element.ensures ∙ ap option_copied c.in-Some.is)

pub returns-in_err-next-2 : goal.returns-in_err-next-2
returns-in_err-next-2 c =
    let is : slice_get c.args.path.now.elements c.loop-i.i ≡ Some c.in-Some.element.now = sym c.element.ensures ∙ ap option_copied c.in-Some.is in
    meant_handed c.from_residual-in_err-next-2.result c.in_err-next-2.field-0.0 (short (behind c.args.n c.args.path.now c.args.target.now))
    (whole_fault c.args.n c.loop-i.i c.args.path.now c.args.target.now c.loop-i.next c.in-Some.element.now c.in_err-next-2.field-0.0 is c.loop-i.invariant.owner c.loop-i.invariant.whole c.in_err-next-2.ensures)
    c.from_residual-in_err-next-2.ensures.1

pub loop-i-preserved : goal.loop-i-preserved
loop-i-preserved c =
    let is : slice_get c.args.path.now.elements c.loop-i.i ≡ Some c.in-Some.element.now = sym c.element.ensures ∙ ap option_copied c.in-Some.is in
    let fit : short (extended c.loop-i.next c.in-Some.element.now) ≡ Ok c.in_ok-next-2.next = c.in_ok-next-2.ensures in
    let same : extended c.loop-i.next c.in-Some.element.now ≡ c.in_ok-next-2.next = short_is (extended c.loop-i.next c.in-Some.element.now) c.in_ok-next-2.next fit in record {
      owner = ap (λ (p : PathName). p.owner) (sym same) ∙ c.loop-i.invariant.owner;
      whole = ap (λ (p : PathName). p.elements ++ drop (c.loop-i.i + 1) c.args.path.now.elements) (sym same)
          ∙ whole_more c.loop-i.next.elements c.args.path.now.elements (c.args.target.now.elements ++ drop c.args.n c.args.path.now.elements) c.loop-i.i c.in-Some.element.now is c.loop-i.invariant.whole;
      fits = subst (λ (p : PathName). short p ≡ Ok c.in_ok-next-2.next) same fit;
    }
