use Rattle.std.proofs.Common.{◌≡◌, ◌+◌, ◌-◌, ◌≤◌, ◌∷◌, ◌++◌, Ok, length, sym, ap, ◌∙◌, arith}
use Rattle.std.specs.List.{slice_split}
use Rattle.std.proofs.lemmas.List.{length-append}
use Rattle.up_names.specs.PathNames.{PathName, is_slash, path_from, path_of}
use Rattle.up_names.specs.UserNames.{user_of}
use Rattle.up_names.proofs.Owners.{no_slash}
use Rattle.up_names.proofs.PathEdits.{proper_seen}
use Rattle.up_names.proofs.PathLaws.{path_of-parts}
use Rattle.up_names.proofs.paths.Path.try_read.Goals as goal

pub returns-in-Some-clause-read : goal.returns-in-Some-clause-read
returns-in-Some-clause-read c =
    let path = c.args.self.now in
    let text = c.args.text.now in
    let pieces = c.in-Some.pieces.now in
    let owned = (proper_seen c.self.invariant path c.self.view_is).owner in
    let owner = ap (λ (p : PathName). p.owner) c.self.view_is in
    let begins : text ≡ path.owner ++ 47 ∷ pieces = c.in-Some.ensures ∙ ap (λ o. o ++ 47 ∷ pieces) owner in
    let fits : length (path.owner ++ 47 ∷ pieces) ≤ 4096 = omega (arith, ap length begins, c.if-text-gt-MAX_LEN.false) in
    let place : length path.owner + 1 ≡ length text - length pieces = omega (arith, ap length begins, length-append path.owner (47 ∷ pieces)) in
    let same : path_of text ≡ path_from (length text - length pieces) (slice_split is_slash pieces) (Ok c.drop_all.new.self.owner) =
    ap path_of begins
    ∙ path_of-parts path.owner pieces (no_slash path.owner path.owner owned) fits
    ∙ ap (λ n. path_from n (slice_split is_slash pieces) (user_of path.owner)) place
    ∙ ap (path_from (length text - length pieces) (slice_split is_slash pieces)) (owned ∙ sym (ap (λ (p : PathName). Ok p.owner) c.drop_all.ensures)) in
    rw same c.take_pieces.ensures.taken
