use Rattle.std.proofs.Common.{◌<◌, Some, length, sym, ap, subst, ◌∙◌, slice_get, slice_set}
use Rattle.std.proofs.lemmas.Option.{slice_get-get_or}
use Rattle.up_peer.proofs.peers.PeerList.fetch_at.Goals as goal

pub returns : goal.returns
returns g c =
    let rows = c.self.inside.rows.items in
    let within : c.args.i < length rows = subst (λ xs. c.args.i < length xs) (sym c.self.view_is) c.requires in
    record {
      before = c.index_mut.result.now;
      after = c.fetch.new.self;
      there = ap (λ xs. slice_get xs c.args.i) (sym c.self.view_is) ∙ (slice_get-get_or rows c.args.i c.index_mut.result.now within ∙ ap Some (sym c.index_mut.ensures.value));
      others = ap (λ xs. slice_set xs c.args.i c.fetch.new.self) c.self.view_is;
      answered = c.fetch.ensures;
    }
