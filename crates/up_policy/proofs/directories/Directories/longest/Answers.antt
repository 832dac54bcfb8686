use Rattle.std.proofs.Common.{◌≡◌, ◌<◌, ◌≤◌, ℕ, length, subst, None}
use Rattle.up_names.specs.PathNames.{cut}
use Rattle.up_policy.specs.Directories.{by_path, text_at}
use Rattle.up_policy.specs.Governors.{first_text, prefixes, prefixes_to}
use Rattle.up_policy.proofs.DirectoryLemmas.{none_past}
use Rattle.up_policy.proofs.GovernorLemmas.{first_text_to}
use Rattle.up_policy.proofs.directories.Directories.longest.Goals as goal

pub returns-clause-same : goal.returns-clause-same
returns-clause-same c =
    let texts = c.self.inside.texts.entries in
    let path = c.args.path.now in
    let n = c.longest.result in
    let none : (m : ℕ) → n < m → m ≤ length path.elements → text_at (by_path texts) (cut m path) ≡ None =
    λ m more within. none_past c.self.inside.marks texts c.self.invariant.pass (cut m path) (c.longest.ensures.beyond m more within) in
    subst (λ seen. first_text (text_at seen) (prefixes_to n path) ≡ first_text (text_at seen) (prefixes path)) c.self.view_is
    (first_text_to (text_at (by_path texts)) path n (length path.elements) c.longest.ensures.within none)
