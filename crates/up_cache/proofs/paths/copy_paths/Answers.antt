use Rattle.std.proofs.Common.{◌∙◌, rules}
use Rattle.std.specs.Prelude.{map, string_bytes}
use Rattle.up_cache.proofs.Runs.{fewer_words, going_more, going_stop, word_at}
use Rattle.up_cache.proofs.paths.copy_paths.Goals as goal

pub loop-word-preserved : goal.loop-word-preserved
loop-word-preserved g c =
    let loop = c.loop-word in
    let words = map string_bytes c.args.words.now in
    record {
      so =
          going_more g.A.Ask.answers (g.K.Sink.held c.args.sink.now) (g.K.Sink.held loop.sink) (g.K.Sink.held c.copy_path.new.sink) c.args.ask.now loop.ask c.copy_path.new.ask words loop.word-index c.deref.result.now
          (fewer_words string_bytes c.args.words.now loop.word-index c.loop-word-test.true) (word_at string_bytes c.args.words.now loop.word-index c.word-item.result c.deref.result.now (search rules) c.word-item.is) loop.invariant.so c.in-Ok.ensures.copied;
      tie = g.met.A.Ask.joined c.args.ask.now loop.ask c.copy_path.new.ask loop.invariant.tie c.copy_path.ensures.tie;
      asked = c.copy_path.ensures.ask_quiet.stays (λ is. cc) ∙ loop.invariant.asked;
      written = c.copy_path.ensures.sink_quiet.stays (λ is. cc) ∙ loop.invariant.written;
    }

pub returns-in-Err-clause-copied : goal.returns-in-Err-clause-copied
returns-in-Err-clause-copied g c =
    let loop = c.loop-word in
    going_stop g.A.Ask.answers (g.K.Sink.held c.args.sink.now) (g.K.Sink.held loop.sink) (g.K.Sink.held c.copy_path.new.sink) c.args.ask.now loop.ask c.copy_path.new.ask (map string_bytes c.args.words.now) loop.word-index c.deref.result.now c.in-Err.why
    (fewer_words string_bytes c.args.words.now loop.word-index c.loop-word-test.true) (word_at string_bytes c.args.words.now loop.word-index c.word-item.result c.deref.result.now (search rules) c.word-item.is) loop.invariant.so c.in-Err.ensures.copied
