-- Texts that are printed one after the other.
use Rattle.std.proofs.Common.{◌≡◌, ◌≤◌, ◌<◌, ◌+◌, ℕ, true, false, List, [], ◌∷◌, ◌++◌, length, Option, Result, Ok, Err, sym, ap, subst, ◌∙◌, append_assoc, append-nil, arith}
use Rattle.std.specs.Prelude.{codes}
use Rattle.std.specs.Io.KnownBytes.{Appends}
use Rattle.std.specs.List.{flat_map, list_any}
use Rattle.std.proofs.KnownBytes.{Appends-trans}
use Rattle.std.proofs.lemmas.Grind.{flat_map-append}
use Rattle.up_ends.specs.Writing.{WritesPart}
use Rattle.up_client.specs.declared.fault.ClientFault.{ClientFault}
use Rattle.up_client.specs.declared.fault.ClientFault.TheVariants as client
use Rattle.up_command.specs.Printed.{got_lines}
use Rattle.up_names.specs.Texts.{Text}
use Rattle.up_text.specs.Replies.{done_words, further_words, reply_lines, reply_words}
use Rattle.up_text.specs.Words.{coded, coded_byte, is_coded}
use Rattle.up_text.proofs.CodeLemmas.{coded-other, flat_map-plain}
use Rattle.up_wire.specs.declared.replies.Done.TheVariants as dones
use Rattle.up_wire.specs.declared.replies.Reply.TheVariants as replies
use Rattle.up_cache.specs.Copying.{result_of_get, lines_text}
use Rattle.up_cache.specs.Printing.{PrintedAs, PrintedResult}
use Rattle.up_cache.specs.declared.stop.Stop.{Stop}
use Rattle.up_cache.specs.declared.stop.Stop.TheVariants as stop

-- a text was written, and of the next one a part
pub part_after : (old mid now : Option Text) (all text : Text) → Appends old mid all → WritesPart mid now text → WritesPart old now (all ++ text)
part_after old mid now all text before part = (
  part.0,
  record {
    front = all ++ part.1.front;
    written = Appends-trans old mid now all part.1.front before part.1.written;
    whole = append_assoc all part.1.front part.0 ∙ ap (λ xs. all ++ xs) part.1.whole;
  },
)

-- a part of a text is one of a longer text
part_before : (old now : Option Text) (text more : Text) → WritesPart old now text → WritesPart old now (text ++ more)
part_before old now text more part = (
  part.0 ++ more,
  record {
    front = part.1.front;
    written = part.1.written;
    whole = sym (append_assoc part.1.front part.0 more) ∙ ap (λ xs. xs ++ more) part.1.whole;
  },
)

-- a text was printed, and then another
pub printed_then : (old mid now : Option Text) (one two : Text) (result : Result (Unit {0}) Stop) → PrintedAs old mid one (Ok tt) → PrintedAs mid now two result → PrintedAs old now (one ++ two) result
printed_then old mid now one two (Ok done) first next = Appends-trans old mid now one two first next
printed_then old mid now one two (Err stop.WriteFault) first next = part_after old mid now one two first next
printed_then old mid now one two (Err stop.OutOfMemory) first next = part_after old mid now one two first next
printed_then old mid now one two (Err stop.AskFault) first next = absurd next

-- the first one was not printed whole
pub printed_stop : (old now : Option Text) (one two : Text) (why : Stop) → PrintedAs old now one (Err why) → PrintedAs old now (one ++ two) (Err why)
printed_stop old now one two stop.WriteFault first = part_before old now one two first
printed_stop old now one two stop.OutOfMemory first = part_before old now one two first
printed_stop old now one two stop.AskFault first = absurd first

-- the same text, told otherwise
pub printed_as : (old now : Option Text) (one two : Text) (result : Result (Unit {0}) Stop) → one ≡ two → PrintedAs old now one result → PrintedAs old now two result
printed_as old now one two result same is = subst (λ text. PrintedAs old now text result) same is

-- ---- a file

-- what is told of a file that was got
pub file_line : (bytes : List ℕ) → codes "bytes " ++ (coded bytes ++ codes "\n") ≡ lines_text (got_lines (Ok bytes))
unfolding reply_lines reply_words done_words further_words
file_line bytes =
    sym (append_assoc (codes "bytes ") (coded bytes) (codes "\n"))
    ∙ ap (λ xs. xs ++ codes "\n") (ap (λ xs. codes "bytes" ++ codes " " ++ xs) (sym (append-nil (coded bytes))))
    ∙ sym (append-nil ((codes "bytes " ++ (coded bytes ++ [])) ++ codes "\n"))

pub coded_long : (text : Text) → 2 ≤ length text → flat_map coded_byte text ≡ coded text
coded_long text long = sym (coded-other text (omega (arith, long)) (λ dash. let one : length text ≡ 1 = ap length dash in absurd (omega (arith, one, long))))

-- a piece in which a byte is coded
pub coded_some : (text : Text) → list_any is_coded text ≡ true → coded text ≡ flat_map coded_byte text
coded_some text some = coded-other text (not_empty text some) (λ dash. let plain : list_any is_coded text ≡ false = ap (λ t. list_any is_coded t) dash in let e : true ≡ false = sym some ∙ plain in cc)
  where
    not_empty : (t : Text) → list_any is_coded t ≡ true → 0 < length t
    not_empty [] is = absurd (cc)
    not_empty (b ∷ t) is = omega arith

pub plain_same : (text : Text) → list_any is_coded text ≡ false → text ≡ flat_map coded_byte text
plain_same text none = sym (flat_map-plain text none)

-- Of bytes the first ones were printed, and these are left.
pub record Pieces (old now : Option Text) (bytes rest : Text) : Type 0 where
  pub front : Text
  pub whole : front ++ rest ≡ bytes
  pub written : PrintedAs old now (flat_map coded_byte front) (Ok tt)

pub pieces_more : (old mid now : Option Text) (bytes rest piece behind : Text) → Pieces old mid bytes rest → piece ++ behind ≡ rest → PrintedAs mid now (flat_map coded_byte piece) (Ok tt) → Pieces old now bytes behind
pieces_more old mid now bytes rest piece behind so cut next = record {
  front = so.front ++ piece;
  whole = append_assoc so.front piece behind ∙ ap (λ xs. so.front ++ xs) cut ∙ so.whole;
  written = printed_as old now (flat_map coded_byte so.front ++ flat_map coded_byte piece) (flat_map coded_byte (so.front ++ piece)) (Ok tt) (sym (flat_map-append coded_byte so.front piece))
      (printed_then old mid now (flat_map coded_byte so.front) (flat_map coded_byte piece) (Ok tt) so.written next);
}

pub pieces_stop : (old mid now : Option Text) (bytes rest piece behind : Text) (why : Stop) → Pieces old mid bytes rest → piece ++ behind ≡ rest → PrintedAs mid now (flat_map coded_byte piece) (Err why) → PrintedAs old now (flat_map coded_byte bytes) (Err why)
pieces_stop old mid now bytes rest piece behind why so cut next =
    let both : flat_map coded_byte so.front ++ (flat_map coded_byte piece ++ flat_map coded_byte behind) ≡ flat_map coded_byte bytes =
    ap (λ xs. flat_map coded_byte so.front ++ xs) (sym (flat_map-append coded_byte piece behind))
    ∙ sym (flat_map-append coded_byte so.front (piece ++ behind))
    ∙ ap (λ xs. flat_map coded_byte (so.front ++ xs)) cut
    ∙ ap (λ xs. flat_map coded_byte xs) so.whole in
    printed_as old now _ (flat_map coded_byte bytes) (Err why) both
    (printed_then old mid now (flat_map coded_byte so.front) (flat_map coded_byte piece ++ flat_map coded_byte behind) (Err why) so.written (printed_stop mid now (flat_map coded_byte piece) (flat_map coded_byte behind) why next))

-- ---- what came of getting a file

-- a file that was got is told by its line
pub told_file : (old now : Option Text) (got : Result (List ℕ) ClientFault) (bytes shown : List ℕ) (result : Result (Unit {0}) Stop) → got ≡ Ok bytes → shown ≡ bytes → PrintedAs old now (codes "bytes " ++ (coded shown ++ codes "\n")) result
    → PrintedResult old now (result_of_get got) result
told_file old now got bytes shown result is same wrote =
    let here : PrintedAs old now (lines_text (got_lines (Ok bytes))) result = printed_as old now (codes "bytes " ++ (coded shown ++ codes "\n")) (lines_text (got_lines (Ok bytes))) result (file_line shown ∙ ap (λ xs. lines_text (got_lines (Ok xs))) same) wrote in
    subst (λ (r : Result (List ℕ) ClientFault). PrintedResult old now (result_of_get r) result) (sym is) here
