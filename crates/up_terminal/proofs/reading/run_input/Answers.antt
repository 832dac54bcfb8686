-- Each exit of the loop over reads, by what was read and what the last call did.
use Rattle.std.proofs.Common.{◌≡◌, ◌≢◌, ◌<◌, ℕ, [], length, take, refl, sym, ap, subst, ◌∙◌, arith}
use Rattle.std.proofs.lemmas.List.{length-take-le}
use Rattle.std.specs.Io.KnownBytes.{Consumes}
use Rattle.up_lists.specs.Counts.{count_after}
use Rattle.up_terminal.specs.Sessions.{Reading, code_by}
use Rattle.up_terminal.proofs.InputLemmas.{Means-none, Means-over, Means-spent, Means-stop, Means-unread, SoFar, SoFar-more, SoFar-none, wanting_code}
use Rattle.up_terminal.proofs.reading.run_input.Goals as goal

pub returns-in_err-buffer-clause-means : goal.returns-in_err-buffer-clause-means
returns-in_err-buffer-clause-means g c =
    Means-none g.A.Ask.answers c.args.user.now (g.S.Source.left c.args.source.now) (g.S.Source.given c.args.source.now) (g.K.Sink.held c.args.sink.now) c.args.ask.now (code_by c.from_residual.result)
    (wanting_code c.from_residual.result c.from_residual.ensures.1)

pub loop-reads-init : goal.loop-reads-init
loop-reads-init g c =
    let left = g.S.Source.left c.args.source.now in
    let given = g.S.Source.given c.args.source.now in
    let held = g.K.Sink.held c.args.sink.now in
    let ask = c.args.ask.now in
    record {
      so_far = subst (λ (r : Reading). SoFar g.A.Ask.answers c.args.user.now left left given given held held ask ask r.line r.number 0) (sym c.new-reader.ensures) (SoFar-none g.A.Ask.answers c.args.user.now left given held ask);
      most = omega arith;
      room = let same = c.as_mut_slice-room.ensures.len in let size = c.in_ok-buffer.ensures in omega (arith, same, size);
      tie = g.met.A.Ask.same c.args.ask.now;
      asked = refl;
      read = refl;
      written = refl;
    }

pub returns-in_default-clause-means : goal.returns-in_default-clause-means
returns-in_default-clause-means g c =
    let loop = c.loop-reads in
    Means-unread g.A.Ask.answers c.args.user.now (g.S.Source.left c.args.source.now) (g.S.Source.left loop.source) (g.S.Source.left c.read.new.self) (g.S.Source.given c.args.source.now) (g.S.Source.given loop.source)
    (g.S.Source.given c.read.new.self) (g.K.Sink.held c.args.sink.now) (g.K.Sink.held loop.sink) c.args.ask.now loop.ask loop.reader.line loop.reader.number loop.reads loop.invariant.so_far c.in_default.ensures.bytes c.in_default.ensures.counted

pub returns-then-count-eq0-clause-means : goal.returns-then-count-eq0-clause-means
returns-then-count-eq0-clause-means g c =
    let loop = c.loop-reads in
    let mid = g.S.Source.left loop.source in
    let next = g.S.Source.left c.read.new.self in
    let none : c.in-Ok.count ≡ 0 = c.if-count-eq0.true in
    let nothing : Consumes mid next [] = subst (λ (n : ℕ). Consumes mid next (take n c.read.new.buf)) none c.in-Ok.ensures.bytes.0 in
    let some : 0 < length c.read.new.buf = let same = c.read.auto.buf in let size = loop.invariant.room in omega (arith, same, size) in
    Means-over g.A.Ask.answers c.args.user.now (g.S.Source.left c.args.source.now) mid next (g.S.Source.given c.args.source.now) (g.S.Source.given loop.source) (g.S.Source.given c.read.new.self) (g.K.Sink.held c.args.sink.now)
    (g.K.Sink.held loop.sink) (g.K.Sink.held c.close.new.sink) c.args.ask.now loop.ask c.close.new.ask loop.reader.line loop.reader.number loop.reads c.close.result loop.invariant.so_far nothing (c.in-Ok.ensures.bytes.1 none some)
    (c.in-Ok.ensures.counted ∙ ap (λ (n : ℕ). count_after (g.S.Source.given loop.source) n) none) c.close.ensures.closes

pub loop-reads-preserved : goal.loop-reads-preserved
loop-reads-preserved g c =
    let loop = c.loop-reads in
    let after = c.take.new in
    let given_mid = g.S.Source.given loop.source in
    let piece = take c.in-Ok.count c.read.new.buf in
    let size : length c.read.new.buf ≡ 65536 = let same = c.read.auto.buf in let room = loop.invariant.room in omega (arith, same, room) in
    let bound = c.in-Ok.ensures.bound.0 in
    let other : c.in-Ok.count ≢ 0 = c.if-count-eq0.false in
    let long : length piece ≡ c.in-Ok.count = length-take-le c.in-Ok.count c.read.new.buf bound in
    record {
      so_far = SoFar-more g.A.Ask.answers c.args.user.now (g.S.Source.left c.args.source.now) (g.S.Source.left loop.source) (g.S.Source.left c.read.new.self) (g.S.Source.given c.args.source.now) given_mid (g.S.Source.given c.read.new.self)
          (g.K.Sink.held c.args.sink.now) (g.K.Sink.held loop.sink) (g.K.Sink.held after.sink) c.args.ask.now loop.ask after.ask loop.reader.line piece after.self.line loop.reader.number after.self.number loop.reads
          loop.invariant.so_far c.in-Ok.ensures.bytes.0 (c.in-Ok.ensures.counted ∙ ap (λ (n : ℕ). count_after given_mid n) (sym long)) (omega (arith, long, other)) (omega (arith, long, bound, size))
          c.in-Ok-take.ensures.goes c.in-Ok-take.ensures.line c.in-Ok-take.ensures.number;
      most = omega (arith, c.loop-reads-test.true);
      room = size;
      tie = g.met.A.Ask.joined c.args.ask.now loop.ask after.ask loop.invariant.tie c.take.ensures.tie;
      asked = c.in-Ok-take.ensures.ask_quiet.stays (λ is. cc) ∙ loop.invariant.asked;
      read = c.in-Ok.ensures.quiet.stays (λ is. cc) ∙ loop.invariant.read;
      written = c.in-Ok-take.ensures.sink_quiet.stays (λ is. cc) ∙ loop.invariant.written;
    }

pub returns-in-Err-clause-means : goal.returns-in-Err-clause-means
returns-in-Err-clause-means g c =
    let loop = c.loop-reads in
    let after = c.take.new in
    let given_mid = g.S.Source.given loop.source in
    let piece = take c.in-Ok.count c.read.new.buf in
    let bound = c.in-Ok.ensures.bound.0 in
    let long : length piece ≡ c.in-Ok.count = length-take-le c.in-Ok.count c.read.new.buf bound in
    Means-stop g.A.Ask.answers c.args.user.now (g.S.Source.left c.args.source.now) (g.S.Source.left loop.source) (g.S.Source.left c.read.new.self) (g.S.Source.given c.args.source.now) given_mid (g.S.Source.given c.read.new.self)
    (g.K.Sink.held c.args.sink.now) (g.K.Sink.held loop.sink) (g.K.Sink.held after.sink) c.args.ask.now loop.ask after.ask loop.reader.line piece after.self.line loop.reader.number after.self.number loop.reads c.in-Err.why
    loop.invariant.so_far c.in-Ok.ensures.bytes.0 (c.in-Ok.ensures.counted ∙ ap (λ (n : ℕ). count_after given_mid n) (sym long)) c.in-Err.ensures.goes

pub returns-clause-means : goal.returns-clause-means
returns-clause-means g c =
    let loop = c.loop-reads in
    Means-spent g.A.Ask.answers c.args.user.now (g.S.Source.left c.args.source.now) (g.S.Source.left loop.source) (g.S.Source.given c.args.source.now) (g.S.Source.given loop.source) (g.K.Sink.held c.args.sink.now) (g.K.Sink.held loop.sink) c.args.ask.now
    loop.ask loop.reader.line loop.reader.number loop.reads loop.invariant.so_far (omega (arith, c.loop-reads-test.false))
