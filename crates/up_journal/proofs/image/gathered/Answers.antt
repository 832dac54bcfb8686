use Rattle.std.proofs.Common.{◌≡◌, ◌+◌, ◌^◌, ◌∷◌, drop, length, get_or, IsErrOf, arith, rules}
use Rattle.std.proofs.lemmas.Grind.{common_steps}
use Rattle.std.proofs.lemmas.List.{drop_more}
use Rattle.up_disk.specs.Disk.{part}
use Rattle.up_lists.proofs.Causes.{HasCause-then, HasCause-weaker}
use Rattle.up_journal.specs.Gates.{record_bytes}
use Rattle.up_journal.specs.declared.fault.ReadWhy.TheVariants as read_why
use Rattle.up_journal.specs.declared.limits.Span.{Span}
use Rattle.up_journal.proofs.Copies.{image_more_told, long_more, name_stays, small_at}
use Rattle.up_journal.proofs.Opened.{as_content}
use Rattle.up_journal.proofs.Runs.{read_both}
use Rattle.up_journal.proofs.image.gathered.Goals as goal

pub gather-requires-clause-fits : goal.gather-requires-clause-fits
gather-requires-clause-fits g c = small_at (2 ^ 32) c.args.spans.now c.loop-span.span-index (record { at = 0; size = 0 }) c.loop-span-test.true c.requires.fitting

pub loop-span-preserved : goal.loop-span-preserved
loop-span-preserved g c =
    let d = g.D.Disk in
    let i = c.loop-span.invariant in
    let e = c.in_ok-gather.ensures in
    let disk = c.args.disk.now in
    let spans = c.args.spans.now in
    let n = c.loop-span.span-index in
    let before = c.loop-span.so_far in
    let after = c.gather.new.so_far in
    let span : Span = get_or spans n (record { at = 0; size = 0 }) in
    record {
      image = image_more_told (d.content disk) before.image.items after.image.items before.link after.link after.payload.items spans (drop n spans) (drop (n + 1) spans) span i.image (drop_more spans n (record { at = 0; size = 0 }) c.loop-span-test.true)
          e.image e.link (as_content (d.content disk) (d.content c.loop-span.disk) (λ bytes. after.payload.items ≡ part span.at span.size bytes) i.read.same e.payload);
      named = name_stays before.image.items after.image.items (1 ∷ record_bytes before.link after.payload.items) e.image (omega (arith, i.long)) i.named;
      long = long_more spans n (record { at = 0; size = 0 }) (length before.image.items) (length after.image.items) c.loop-span-test.true i.long e.long;
      read = read_both d g.met.D.Disk.only_now disk c.loop-span.disk c.gather.new.disk i.read c.gather.ensures.read;
      counts = HasCause-then (d.faults disk) (d.faults c.loop-span.disk) (d.faults c.gather.new.disk) ⊥ ⊥ i.counts
          (HasCause-weaker (d.faults c.loop-span.disk) (d.faults c.gather.new.disk) (IsErrOf c.gather.result read_why.Fault) ⊥ c.gather.ensures.counts (λ none. absurd none));
      quiet = search rules;
    }

pub gather-requires-clause-within : goal.gather-requires-clause-within
gather-requires-clause-within g c = grind (arith, common_steps)

pub returns-clause-image : goal.returns-clause-image
returns-clause-image g c = grind (arith, common_steps)

pub returns-clause-long : goal.returns-clause-long
returns-clause-long g c = grind (arith, common_steps)
