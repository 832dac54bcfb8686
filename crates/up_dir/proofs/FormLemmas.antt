-- What is known of a request whose texts were read.
use Rattle.std.proofs.Common.{◌≡◌, List, ℕ, subst}
use Rattle.std.specs.Prelude.{int_le, negsuc, not}
use Rattle.std.specs.Prelude as std
use Rattle.up_entry.proofs.CheckedLemmas.{checked_kept}
use Rattle.up_entry.specs.Checking.{checked_as, path_or, rule}
use Rattle.up_entry.specs.declared.what.What.TheVariants as what
use Rattle.up_policy.specs.Trees.{owns_snapshots}
use Rattle.up_log_tree.specs.Rights.{is_group}
use Rattle.up_wire.specs.declared.requests.Request.{Request}
use Rattle.up_wire.specs.declared.requests.Request.TheVariants as request
use Rattle.up_list.specs.declared.asking.ReadRequest.{ReadRequest}
use Rattle.up_list.specs.declared.asking.ReadRequest.TheVariants.{Lookup, WhichAccess, GroupText, Delete, Put, Glob, Watch}
use Rattle.up_list.specs.Asking.{asked_of, pattern_or_fault}
use Rattle.up_answers.proofs.AnswerLemmas.{asked_same, not_asked, step_ok}
use Rattle.up_dir.specs.Forms.{IsFormed}

pub formed : (user : List ℕ) (request' : Request) (asked : ReadRequest) → asked_of user request' ≡ std.Ok asked → IsFormed asked
unfolding asked_of
formed user (request.Lookup text) asked h = let a = step_ok (path_or what.Name text) _ asked h in subst IsFormed (asked_same (Lookup a.0) asked a.2) tt
formed user (request.WhichAccess text) asked h = let a = step_ok (path_or what.Name text) _ asked h in subst IsFormed (asked_same (WhichAccess a.0) asked a.2) tt
formed user (request.GroupText text) asked h =
    let a = step_ok (path_or what.Name text) _ asked h in
    let b = step_ok (rule what.GroupName (is_group a.0)) _ asked a.2 in
    subst IsFormed (asked_same (GroupText a.0) asked b.2) tt
formed user (request.Delete text) asked h = let a = step_ok (path_or what.Name text) _ asked h in subst IsFormed (asked_same (Delete a.0) asked a.2) tt
formed user (request.Put put) asked h = let a = step_ok (checked_as put user) _ asked h in subst IsFormed (asked_same (Put a.0) asked a.2) ((checked_kept put user).at a.0 a.1).form
formed user (request.Glob text) asked h = let a = step_ok (pattern_or_fault text) _ asked h in subst IsFormed (asked_same (Glob a.0) asked a.2) tt
formed user (request.Watch text sequence) asked h =
    let a = step_ok (path_or what.Name text) _ asked h in
    let b = step_ok (rule what.Sequence (int_le (negsuc 1) sequence)) _ asked a.2 in
    let c = step_ok (rule what.SnapshotWatch (not (owns_snapshots (a.0).owner))) _ asked b.2 in
    subst IsFormed (asked_same (Watch a.0 sequence) asked c.2) tt
formed user (request.Get text) asked h = absurd (not_asked _ asked h)
formed user (request.StorePut bytes) asked h = absurd (not_asked _ asked h)
formed user (request.StoreDelete text) asked h = absurd (not_asked _ asked h)
formed user (request.KeyLookup text) asked h = absurd (not_asked _ asked h)
formed user (request.KeyPut card) asked h = absurd (not_asked _ asked h)
