use Rattle.std.proofs.Common.{◌≡◌, ◌≤◌, ◌-◌, ap, sym, subst, ◌∙◌, length, get_or, arith}
use Rattle.std.proofs.lemmas.Grind.{get_or_default_zero}
use Rattle.up_names.specs.PathNames.{PathName, canonical, cut}
use Rattle.up_names.proofs.Owners.{at_most_254}
use Rattle.up_names.proofs.PathEdits.{kept_len, cut_end-at, cut_short}
use Rattle.up_names.proofs.paths.Path.front_len.Goals as goal

pub bounds-as_slice-n : goal.bounds-as_slice-n
bounds-as_slice-n c =
    let len = kept_len c.self.invariant ∙ ap (λ (path : PathName). length path.elements) c.self.view_is in
    omega (arith, ap length c.as_slice.ensures, len)

pub offset_bounds-as_slice-n : goal.offset_bounds-as_slice-n
offset_bounds-as_slice-n c =
    let len = kept_len c.self.invariant ∙ ap (λ (path : PathName). length path.elements) c.self.view_is in
    omega (arith, ap length c.as_slice.ensures, len, c.as_slice.type_inv.1)

pub returns-in-0-clause-short : goal.returns-in-0-clause-short
returns-in-0-clause-short c =
    omega (arith, at_most_254 c.self.inside.owner c.self.inside.owner c.text.ensures.canonical, ap length c.text.ensures.value)

pub returns-in_default-clause-end : goal.returns-in_default-clause-end
returns-in_default-clause-end c =
    let len = kept_len c.self.invariant ∙ ap (λ (path : PathName). length path.elements) c.self.view_is in
    let ends = c.self.inside.ends.items in
    let place = get_or ends (c.args.n - 1) 0 in
    let end = cut_end-at c.self.invariant c.args.n (omega arith) (omega (arith, len)) place (sym (get_or_default_zero ends (c.args.n - 1) place (omega (arith, len)))) in
    ap (λ xs. get_or xs (c.args.n - 1) 0) c.as_slice.ensures ∙ subst (λ path. place ≡ length (canonical (cut c.args.n path))) c.self.view_is end

pub returns-in_default-clause-short : goal.returns-in_default-clause-short
returns-in_default-clause-short c =
    let end = returns-in_default-clause-end c in
    let short = subst (λ path. length (canonical (cut c.args.n path)) ≤ 4096) c.self.view_is (cut_short c.self.invariant c.args.n) in
    omega (arith, end, short)
