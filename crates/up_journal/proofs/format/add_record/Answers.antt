use Rattle.std.proofs.Common.{◌+◌, ◌++◌, List, ℕ, ◌∙◌, ap, arith}
use Rattle.up_journal.specs.Gates.{length_bytes, record_bytes}
use Rattle.up_refs.specs.Sha256.{sha256}
use Rattle.up_journal.proofs.Copies.{record_alone, record_joined}
use Rattle.up_journal.proofs.format.add_record.Goals as goal

pub returns-clause-image : goal.returns-clause-image
unfolding length_bytes
returns-clause-image c =
    record_joined c.args.image.now.items c.push.new.self.items c.extend_from_slice.new.self.items c.extend_from_slice-2.new.self.items c.extend_from_slice-3.new.self.items c.to_be_bytes.result c.args.link c.args.payload.now
    c.in_ok-push.ensures.items c.in_ok-extend_from_slice.ensures.items
    (c.in_ok-extend_from_slice-2.ensures.items ∙ ap (λ (l : List ℕ). c.extend_from_slice.new.self.items ++ l) c.bytes.ensures.value)
    c.in_ok-extend_from_slice-3.ensures.items c.to_be_bytes.ensures

pub returns-clause-link : goal.returns-clause-link
returns-clause-link c =
    let image = returns-clause-image c in
    c.of.ensures ∙ ap sha256 (record_alone c.args.image.now.items c.deref.result.now (record_bytes c.args.link c.args.payload.now) (c.len-record.result + 1) (c.deref.ensures.value ∙ image) (omega (arith, c.len-record.ensures)))
