use Rattle.std.proofs.Common.{◌≡◌, Some, ap, ◌∙◌, rules}
use Rattle.std.specs.String.{string_bytes}
use Rattle.std.proofs.Math.Facts.{Fits-lt-pow}
use Rattle.std.proofs.lemmas.Result.{IfOk-weaker}
use Rattle.up_helper.specs.HelperWords.{bytes_in, hex_word}
use Rattle.up_helper.proofs.HexWords.{word_is_read}
use Rattle.up_helper.proofs.hex_words.hex_word.Goals as goal

pub returns-then-is_empty-clause-read : goal.returns-then-is_empty-clause-read
returns-then-is_empty-clause-read c =
    let bytes = c.args.bytes.now in
    IfOk-weaker c.from_str.result (λ word. string_bytes word ≡ hex_word bytes) (λ word. bytes_in (string_bytes word) ≡ Some bytes)
    (λ text same. ap bytes_in same ∙ word_is_read bytes (λ i. Fits-lt-pow (c.type_inv.bytes i))) (search rules)

pub returns-else-is_empty-clause-read : goal.returns-else-is_empty-clause-read
returns-else-is_empty-clause-read c =
    let bytes = c.args.bytes.now in
    IfOk-weaker c.encode_upper.result (λ word. string_bytes word ≡ hex_word bytes) (λ word. bytes_in (string_bytes word) ≡ Some bytes)
    (λ text same. ap bytes_in same ∙ word_is_read bytes (λ i. Fits-lt-pow (c.type_inv.bytes i))) (search rules)
