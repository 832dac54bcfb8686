use Rattle.std.proofs.Common.{◌∷◌, ◌++◌, [], List, None, map, sym, ap, ◌∙◌, append_assoc}
use Rattle.up_answers.specs.Fetching.{is_failed}
use Rattle.up_calls.proofs.AsksLemmas.{Tries-Asks, Tries-trans}
use Rattle.up_calls.proofs.BlockLemmas.{blocks_trans}
use Rattle.up_calls.proofs.ShownLemmas.{apart_joined, but_joined, unread_more}
use Rattle.up_calls.specs.Blocks.{Got, block_answer, block_question}
use Rattle.up_calls.specs.Routes.{LogName}
use Rattle.up_calls.specs.Shown.{IsUnread}
use Rattle.up_entry.specs.declared.entries.Location.{Location}
use Rattle.up_calls.proofs.fetching.gather_blocks.Goals as goal

pub loop-location-preserved : goal.loop-location-preserved
loop-location-preserved g c =
    let to = g.met.B.Logs.later None c.args.logs.now c.loop-location.logs c.loop-location.invariant.tie in
    let on = g.met.B.Logs.later None c.loop-location.logs c.gather_next.new.logs c.gather_next.ensures.tie in
    let none = g.met.B.Logs.same in
    record {
      locations = ap (λ (xs : List Location). xs ++ c.pop_front.new.self.items) c.in_ok-gather_next.ensures.location
          ∙ append_assoc (map (λ (got : Got). got.0) c.loop-location.fetched) (c.in-Some.location ∷ []) c.pop_front.new.self.items
          ∙ ap (λ (xs : List Location). map (λ (got : Got). got.0) c.loop-location.fetched ++ xs) (sym c.in-Some.ensures.items)
          ∙ c.loop-location.invariant.locations;
      gathered = blocks_trans g.L.Loader g.met.L.Loader.joined
          (λ h. g.met.B.Logs.rises_within LogName.OfStore None c.args.logs.now c.args.logs.now c.loop-location.logs c.gather_next.new.logs (none c.args.logs.now) h c.gather_next.ensures.tie)
          (λ h. g.met.B.Logs.rises_within LogName.OfStore None c.args.logs.now c.loop-location.logs c.gather_next.new.logs c.gather_next.new.logs c.loop-location.invariant.tie h (none c.gather_next.new.logs))
          (g.B.Logs.views c.args.logs.now).store (g.B.Logs.views c.loop-location.logs).store (g.B.Logs.views c.gather_next.new.logs).store to.store on.store
          c.args.loader.now c.loop-location.loader c.gather_next.new.loader [] c.loop-location.fetched c.gather_next.new.fetched c.loop-location.invariant.gathered c.in_ok-gather_next.ensures.gathered;
      quiet = but_joined g.B.Logs.quiet g.met.B.Logs.quiet_joined c.args.logs.now c.loop-location.logs c.gather_next.new.logs LogName.OfStore
          (IsUnread c.loop-location.fetched) (IsUnread c.gather_next.new.fetched) (IsUnread c.gather_next.new.fetched) c.loop-location.invariant.quiet
          (unread_more c.loop-location.fetched c.gather_next.new.fetched c.in_ok-gather_next.ensures.gathered.more c.in_ok-gather_next.ensures.gathered.whole) c.in_ok-gather_next.ensures.quiet (λ unread. unread);
      apart = apart_joined g.B.Logs.quiet g.met.B.Logs.quiet_joined c.args.logs.now c.loop-location.logs c.gather_next.new.logs LogName.OfStore c.loop-location.invariant.apart c.gather_next.ensures.apart;
      tie = g.met.B.Logs.joined None c.args.logs.now c.loop-location.logs c.gather_next.new.logs c.loop-location.invariant.tie c.gather_next.ensures.tie;
    }

pub returns-in_err-gather_next-clause-tried : goal.returns-in_err-gather_next-clause-tried
returns-in_err-gather_next-clause-tried g c =
    Tries-trans g.L.Loader.fetches g.L.Loader.faults g.L.Loader.tied g.met.L.Loader.joined c.args.loader.now c.loop-location.loader c.gather_next.new.loader
    (Tries-Asks g.L.Loader.fetches g.L.Loader.faults g.L.Loader.tied is_failed block_question block_answer c.args.loader.now c.loop-location.loader c.loop-location.invariant.gathered.more c.loop-location.invariant.gathered.asks)
    c.gather_next.ensures.tried

pub returns-in_err-gather_next-clause-tie : goal.returns-in_err-gather_next-clause-tie
returns-in_err-gather_next-clause-tie g c = g.met.B.Logs.joined None c.args.logs.now c.loop-location.logs c.gather_next.new.logs c.loop-location.invariant.tie c.gather_next.ensures.tie

pub returns-in_err-gather_next-clause-apart : goal.returns-in_err-gather_next-clause-apart
returns-in_err-gather_next-clause-apart g c =
    apart_joined g.B.Logs.quiet g.met.B.Logs.quiet_joined c.args.logs.now c.loop-location.logs c.gather_next.new.logs LogName.OfStore c.loop-location.invariant.apart c.gather_next.ensures.apart
