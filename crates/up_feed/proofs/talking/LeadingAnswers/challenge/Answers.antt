use Rattle.std.proofs.Common.{refl, inr, subst, Ok}
use Rattle.std.specs.declared.alloc.AllocError.{AllocError}
use Rattle.up_feed.proofs.LeadingLemmas.{looks_own}
use Rattle.up_feed.proofs.talking.LeadingAnswers.challenge.Goals as goal
use Rattle.up_feed.specs.declared.talking.Leading.{Leading}
use Rattle.up_shared.specs.Records.{IsKeyOf}
use Rattle.up_together.proofs.AnsweringLemmas.{draws_only, draws_unheld, looks_later}
use Rattle.up_together.proofs.SittingLemmas.{sits_by_marks}

pub key_record-requires : goal.key_record-requires
key_record-requires g c = sits_by_marks c.args.self.now.shared.now c.args.self.now.seats.now c.args.self.now.sits

pub returns-in-Ok-Some-clause-meets : goal.returns-in-Ok-Some-clause-meets
returns-in-Ok-Some-clause-meets g c =
    let draws = draws_only (λ (s : Leading g.row.D.Denot g.row.R.Denot). s.shared.now) (λ (s : Leading g.row.D.Denot g.row.R.Denot). s.seats.now) (λ (s : Leading g.row.D.Denot g.row.R.Denot). tt)
    g.N.Nonces.coming c.args.user.now c.args.self.now _ c.args.nonces.now c.next-nonce.new.self c.in-Ok-Some.card c.next-nonce.result
    (subst (λ found. IsKeyOf {E = AllocError} c.args.self.now.seats.now.keys c.key_record.new.seats.keys c.args.user.now (Ok found)) c.in-Ok-Some.field-0-is c.in-Ok-Some.ensures.found) c.in-Ok-Some.ensures.looks refl refl c.next-nonce.ensures in
    inr (_, (_, draws))

pub returns-clause-meets : goal.returns-clause-meets
returns-clause-meets g c =
    inr (draws_unheld (λ (s : Leading g.row.D.Denot g.row.R.Denot). s.shared.now) (λ (s : Leading g.row.D.Denot g.row.R.Denot). s.seats.now) (λ (s : Leading g.row.D.Denot g.row.R.Denot). tt)
    g.N.Nonces.coming c.args.user.now c.args.self.now _ c.args.nonces.now c.next-nonce-in-Err.new.self c.next-nonce-in-Err.result c.in-Err.failed c.in-Err.ensures.found c.in-Err.ensures.looks refl refl c.next-nonce-in-Err.ensures)

pub returns-in-Ok-clause-tie : goal.returns-in-Ok-clause-tie
returns-in-Ok-clause-tie g c = (refl, refl, looks_later c.args.self.now.seats.now c.key_record.new.seats c.in-Ok-Some.ensures.looks, looks_own c.args.self.now.seats.now c.key_record.new.seats c.in-Ok-Some.ensures.looks)

pub returns-in-Ok-Some-clause-tie : goal.returns-in-Ok-Some-clause-tie
returns-in-Ok-Some-clause-tie g c = (refl, refl, looks_later c.args.self.now.seats.now c.key_record.new.seats c.in-Ok-Some.ensures.looks, looks_own c.args.self.now.seats.now c.key_record.new.seats c.in-Ok-Some.ensures.looks)

pub returns-in-Ok-None-clause-tie : goal.returns-in-Ok-None-clause-tie
returns-in-Ok-None-clause-tie g c = (refl, refl, looks_later c.args.self.now.seats.now c.key_record.new.seats c.in-Ok-None.ensures.looks, looks_own c.args.self.now.seats.now c.key_record.new.seats c.in-Ok-None.ensures.looks)

pub returns-clause-tie : goal.returns-clause-tie
returns-clause-tie g c = (refl, refl, looks_later c.args.self.now.seats.now c.key_record.new.seats c.in-Err.ensures.looks, looks_own c.args.self.now.seats.now c.key_record.new.seats c.in-Err.ensures.looks)
