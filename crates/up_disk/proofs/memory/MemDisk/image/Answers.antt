use Rattle.std.proofs.Common.{◌≡◌, Some, rules, ap, ◌∙◌, sym, take, drop, ℕ}
use Rattle.up_disk.proofs.Images.{since_sync, possible}
use Rattle.up_disk.specs.Pending.{content_after, synced_calls}
use Rattle.up_disk.specs.Image.{landed_all, landing_of}
use Rattle.up_disk.proofs.memory.MemDisk.image.Goals as goal

pub returns-clause-possible : goal.returns-clause-possible
returns-clause-possible c = possible (landing_of c.args.choice) c.args.self.now.calls.items c.args.self.now.first c.args.self.now.first

pub returns-clause-image : goal.returns-clause-image
returns-clause-image c =
    let self = c.args.self.now in
    let l = landing_of c.args.choice in
    let is : c.land_all.new.image.items ≡ landed_all l (content_after self.first (take self.synced self.calls.items)) (drop self.synced self.calls.items) = search rules in
    let counted : landed_all l (content_after self.first (take self.synced self.calls.items)) (drop self.synced self.calls.items) ≡ landed_all l (content_after self.first (take (synced_calls self.calls.items) self.calls.items)) (drop (synced_calls self.calls.items) self.calls.items)
    = ap (λ (k : ℕ). landed_all l (content_after self.first (take k self.calls.items)) (drop k self.calls.items)) self.counted in
    c.settled.ensures.content ∙ ap Some (is ∙ counted ∙ sym (since_sync l self.calls.items self.first))
