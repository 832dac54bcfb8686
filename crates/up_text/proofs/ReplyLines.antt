-- The laws of the lines that tell a reply.
use Rattle.std.proofs.Common.{◌≡◌, ◌∙◌, ◌<◌, ◌^◌, ℕ, Bool, true, false, List, [], ◌∷◌, length, map, Option, None, Some, codes, decimal, refl, sym, subst, ap, arith}
use Rattle.std.specs.List.{AllByRecursion}
use Rattle.up_entry.specs.declared.entries.Entry.{Entry}
use Rattle.up_entry.specs.declared.what.What.{What}
use Rattle.up_entry.specs.declared.what.What.TheVariants as what
use Rattle.up_entry.specs.Spelling.{IsEntry}
use Rattle.up_rights.specs.declared.Right.{Right}
use Rattle.up_rights.specs.declared.Right.TheVariants as right
use Rattle.up_rights.specs.Words.{long_word}
use Rattle.up_wire.specs.declared.keys.KeyRecord.{KeyRecord}
use Rattle.up_wire.specs.declared.replies.Done.{Done}
use Rattle.up_wire.specs.declared.replies.Done.TheVariants as done
use Rattle.up_wire.specs.declared.replies.Reply.{Reply}
use Rattle.up_wire.specs.declared.replies.Reply.TheVariants as reply
use Rattle.up_wire.specs.declared.replies.Row.{Row}
use Rattle.up_wire.specs.declared.replies.WatchEvent.{WatchEvent}
use Rattle.up_wire.specs.Spelling.{IsDone, IsEvent, IsOption, IsReply, IsRow, IsSpelledReply, IsWhat}
use Rattle.up_text.specs.Entries.{entry_words}
use Rattle.up_text.specs.Laws.{AreOfBytes, done_told, HasByteReferences, IsLine, IsOfBytes, IsTold, IsWord, LinesAreWords, LinesTellReplies, ReferencesAreBytes, told}
use Rattle.up_text.specs.Lines.{is_space, line_words, spaced}
use Rattle.up_refs.specs.References.{text_of}
use Rattle.up_text.specs.Words.{coded}
use Rattle.up_text.specs.Replies.{access_words, done_words, element_words, event_kind, event_words, further_words, key_words, reply_lines, reply_words, row_words, what_word}
use Rattle.up_text.proofs.EntryTold.{entry_is_words}
use Rattle.up_text.proofs.JoinLemmas.{all_both, all_mapped, map_same, split_joined}
use Rattle.up_text.proofs.KeyTold.{endpoints_are_word, key_alike}
use Rattle.up_text.proofs.ReplyTold.{reply_again, reply_in}
use Rattle.up_text.proofs.WordBytes.{coded_word, decimal_word, literal_word, reference_word, word_whole}

-- ---- the words of each line are words

-- a line has a word, and its words are words
abbrev AreWords : List (List ℕ) → Type 0
AreWords words = (0 < length words) × AllByRecursion IsWord words

one_word : (word : List ℕ) → IsWord word → AreWords (word ∷ [])
one_word word is = (omega arith, (is, tt))

two_words : (word second : List ℕ) → IsWord word → IsWord second → AreWords (word ∷ second ∷ [])
two_words word second is other = (omega arith, (is, (other, tt)))

entry_line : (word : List ℕ) (e : Entry) → IsWord word → IsEntry e → AreOfBytes e → AreWords (word ∷ entry_words e)
entry_line word e is entry bytes = (omega arith, (is, entry_is_words e entry bytes))

what_is_word : (w : What) → IsWord (what_word w)
what_is_word what.Name = literal_word (codes "name") refl refl
what_is_word what.SignedName = literal_word (codes "signedname") refl refl
what_is_word what.Writer = literal_word (codes "writer") refl refl
what_is_word what.Packing = literal_word (codes "packing") refl refl
what_is_word what.Attr = literal_word (codes "attr") refl refl
what_is_word what.Link = literal_word (codes "link") refl refl
what_is_word what.Blocks = literal_word (codes "blocks") refl refl
what_is_word what.Packdata = literal_word (codes "packdata") refl refl
what_is_word what.Root = literal_word (codes "root") refl refl
what_is_word what.Control = literal_word (codes "control") refl refl
what_is_word what.ControlSize = literal_word (codes "controlsize") refl refl
what_is_word what.Sequence = literal_word (codes "sequence") refl refl
what_is_word (what.Pattern element) = literal_word (codes "pattern") refl refl
what_is_word what.Reference = literal_word (codes "reference") refl refl
what_is_word what.Block = literal_word (codes "block") refl refl
what_is_word what.Key = literal_word (codes "key") refl refl
what_is_word what.SnapshotWatch = literal_word (codes "snapshotwatch") refl refl
what_is_word what.GroupName = literal_word (codes "groupname") refl refl

elements_are_words : (w : What) → IsWhat w → AllByRecursion IsWord (element_words w)
elements_are_words what.Name is = tt
elements_are_words what.SignedName is = tt
elements_are_words what.Writer is = tt
elements_are_words what.Packing is = tt
elements_are_words what.Attr is = tt
elements_are_words what.Link is = tt
elements_are_words what.Blocks is = tt
elements_are_words what.Packdata is = tt
elements_are_words what.Root is = tt
elements_are_words what.Control is = tt
elements_are_words what.ControlSize is = tt
elements_are_words what.Sequence is = tt
elements_are_words (what.Pattern element) is = (decimal_word element is, tt)
elements_are_words what.Reference is = tt
elements_are_words what.Block is = tt
elements_are_words what.Key is = tt
elements_are_words what.SnapshotWatch is = tt
elements_are_words what.GroupName is = tt

right_is_word : (r : Right) → IsWord (long_word r)
right_is_word right.Read = literal_word (codes "read") refl refl
right_is_word right.Write = literal_word (codes "write") refl refl
right_is_word right.List = literal_word (codes "list") refl refl
right_is_word right.Create = literal_word (codes "create") refl refl
right_is_word right.Delete = literal_word (codes "delete") refl refl

event_is_word : (delete : Bool) → IsWord (event_kind delete)
event_is_word true = literal_word (codes "delete") refl refl
event_is_word false = literal_word (codes "put") refl refl

row_line : (r : Row) → IsRow r × AreOfBytes r.entry → AreWords (row_words r)
row_line r is = (omega arith, (literal_word (codes "row") refl refl, (decimal_word r.rest is.0.0, entry_is_words r.entry is.0.1 is.1)))

event_line : (e : WatchEvent) → IsEvent e × AreOfBytes e.entry → AreWords (event_words e)
event_line e is = (omega arith, (literal_word (codes "event") refl refl, (decimal_word e.position is.0.0, (event_is_word e.delete, entry_is_words e.entry is.0.1 is.1))))

key_line : (known : KeyRecord) → AreWords (codes "key" ∷ key_words known)
key_line known =
    (omega arith, (literal_word (codes "key") refl refl, (coded_word known.user, (endpoints_are_word known.dirs, (endpoints_are_word known.stores, (coded_word known.key, tt))))))

access_line : (found : Option Entry) → IsOption found → IsOfBytes found → AreWords (codes "access" ∷ access_words found)
access_line None is bytes = two_words (codes "access") (codes "none") (literal_word (codes "access") refl refl) (literal_word (codes "none") refl refl)
access_line (Some e) is bytes = entry_line (codes "access") e (literal_word (codes "access") refl refl) is bytes

-- the lines of what was done
done_lines : (d : Done) → IsDone d → HasByteReferences d → AllByRecursion AreWords (done_words d ∷ further_words d)
unfolding done_words further_words
done_lines (done.Changed position) is bytes = (two_words (codes "ok") (decimal position) (literal_word (codes "ok") refl refl) (decimal_word position is), tt)
done_lines (done.Entry e) is bytes = (entry_line (codes "entry") e (literal_word (codes "entry") refl refl) is bytes, tt)
done_lines (done.Rows rows) is bytes = (
  two_words (codes "glob") (decimal (length rows)) (literal_word (codes "glob") refl refl) (decimal_word (length rows) is.0),
  all_mapped _ _ (λ row. row_words row) row_line rows (all_both _ _ rows is.1 bytes),
)
done_lines (done.Access found) is bytes = (access_line found is bytes, tt)
done_lines (done.Events events next) is bytes = (
  (omega arith, (literal_word (codes "watch") refl refl, (decimal_word (length events) is.0.0, (decimal_word next is.1, tt)))),
  all_mapped _ _ (λ event. event_words event) event_line events (all_both _ _ events is.0.1 bytes),
)
done_lines (done.Text text) is bytes = (two_words (codes "text") (coded text) (literal_word (codes "text") refl refl) (coded_word text), tt)
done_lines (done.Reference reference) is bytes = (two_words (codes "ref") (text_of reference) (literal_word (codes "ref") refl refl) (reference_word reference is bytes), tt)
done_lines (done.Bytes text) is bytes = (two_words (codes "bytes") (coded text) (literal_word (codes "bytes") refl refl) (coded_word text), tt)
done_lines (done.Key known) is bytes = (key_line known, tt)

-- a line of a keyword alone, and of a keyword and a number
alone : (word : List ℕ) → IsWord word → AllByRecursion AreWords ((word ∷ []) ∷ [])
alone word is = (one_word word is, tt)

counted : (word : List ℕ) (n : ℕ) → IsWord word → n < 2 ^ 64 → AllByRecursion AreWords ((word ∷ decimal n ∷ []) ∷ [])
counted word n is small = (two_words word (decimal n) is (decimal_word n small), tt)

reply_lines_words : (given : Reply) → IsReply given → ReferencesAreBytes given → AllByRecursion AreWords (reply_words given)
unfolding reply_words
reply_lines_words (reply.Ok d) is bytes = done_lines d is bytes
reply_lines_words (reply.Invalid w) is bytes = ((omega arith, (literal_word (codes "invalid") refl refl, (what_is_word w, elements_are_words w is))), tt)
reply_lines_words reply.WrongHost is bytes = alone (codes "wronghost") (literal_word (codes "wronghost") refl refl)
reply_lines_words (reply.FollowLink e) is bytes = (entry_line (codes "followlink") e (literal_word (codes "followlink") refl refl) is bytes, tt)
reply_lines_words reply.Private is bytes = alone (codes "private") (literal_word (codes "private") refl refl)
reply_lines_words (reply.Permission r) is bytes = (two_words (codes "permission") (long_word r) (literal_word (codes "permission") refl refl) (right_is_word r), tt)
reply_lines_words reply.NotExist is bytes = alone (codes "notexist") (literal_word (codes "notexist") refl refl)
reply_lines_words reply.NotDir is bytes = alone (codes "notdir") (literal_word (codes "notdir") refl refl)
reply_lines_words reply.IsDir is bytes = alone (codes "isdir") (literal_word (codes "isdir") refl refl)
reply_lines_words reply.Exist is bytes = alone (codes "exist") (literal_word (codes "exist") refl refl)
reply_lines_words (reply.BadSequence current) is bytes = counted (codes "badsequence") current (literal_word (codes "badsequence") refl refl) is
reply_lines_words reply.NotEmpty is bytes = alone (codes "notempty") (literal_word (codes "notempty") refl refl)
reply_lines_words (reply.BadBlock reference) is bytes = (two_words (codes "badblock") (text_of reference) (literal_word (codes "badblock") refl refl) (reference_word reference is bytes), tt)
reply_lines_words (reply.BadText line) is bytes = counted (codes "badtext") line (literal_word (codes "badtext") refl refl) is
reply_lines_words (reply.TooLarge size) is bytes = counted (codes "toolarge") size (literal_word (codes "toolarge") refl refl) is
reply_lines_words (reply.Full records) is bytes = counted (codes "full") records (literal_word (codes "full") refl refl) is
reply_lines_words reply.Io is bytes = alone (codes "io") (literal_word (codes "io") refl refl)
reply_lines_words reply.OutOfMemory is bytes = tt

-- ---- a line is cut into its words again

words_again : (words : List (List ℕ)) → AreWords words → line_words (spaced words) ≡ words
unfolding line_words
words_again [] is = absurd (omega (arith, is.0))
words_again (w ∷ ws) is =
    split_joined is_space 32 refl (λ word. word) w ws (word_whole w is.1.0) IsWord word_whole is.1.1 ∙ ap (λ more. w ∷ more) (map_same ws)

lines_again : (lines : List (List (List ℕ))) → AllByRecursion AreWords lines → map line_words (map (λ words. spaced words) lines) ≡ lines
lines_again [] all = refl
lines_again (line ∷ more) all =
    ap (λ words. words ∷ map line_words (map (λ words. spaced words) more)) (words_again line all.0)
    ∙ ap (λ others. line ∷ others) (lines_again more all.1)

are_lines : (lines : List (List (List ℕ))) → AllByRecursion AreWords lines → AllByRecursion IsLine (map (λ words. spaced words) lines)
are_lines [] all = tt
are_lines (line ∷ more) all = (subst (λ words. AllByRecursion IsWord words) (sym (words_again line all.0)) all.0.1, are_lines more all.1)

pub lines_are_words : LinesAreWords
unfolding reply_lines
lines_are_words given is = are_lines (reply_words given) (reply_lines_words given is.0 is.1)

-- ---- a reply is told by its lines

told_again : (given : Reply) → IsTold given → IsSpelledReply given → reply_in (map line_words (reply_lines given)) ≡ Some (told given)
unfolding reply_lines
told_again given is spelled =
    ap reply_in (lines_again (reply_words given) (reply_lines_words given is.0 is.1)) ∙ reply_again given is.0 spelled is.1

some_reply : {x y : Reply} → Some x ≡ Some y → x ≡ y
some_reply is = cc

done_alike : (d : Done) → done_words (done_told d) ∷ further_words (done_told d) ≡ done_words d ∷ further_words d
unfolding done_words further_words
done_alike (done.Changed position) = refl
done_alike (done.Entry e) = refl
done_alike (done.Rows rows) = refl
done_alike (done.Access found) = refl
done_alike (done.Events events next) = refl
done_alike (done.Text text) = refl
done_alike (done.Reference reference) = refl
done_alike (done.Bytes bytes) = refl
done_alike (done.Key known) = ap (λ words. (codes "key" ∷ words) ∷ []) (key_alike known)

words_alike : (given : Reply) → reply_words (told given) ≡ reply_words given
unfolding reply_words
words_alike (reply.Ok d) = done_alike d
words_alike (reply.Invalid w) = refl
words_alike reply.WrongHost = refl
words_alike (reply.FollowLink e) = refl
words_alike reply.Private = refl
words_alike (reply.Permission r) = refl
words_alike reply.NotExist = refl
words_alike reply.NotDir = refl
words_alike reply.IsDir = refl
words_alike reply.Exist = refl
words_alike (reply.BadSequence current) = refl
words_alike reply.NotEmpty = refl
words_alike (reply.BadBlock reference) = refl
words_alike (reply.BadText line) = refl
words_alike (reply.TooLarge size) = refl
words_alike (reply.Full records) = refl
words_alike reply.Io = refl
words_alike reply.OutOfMemory = refl

lines_alike : (given : Reply) → reply_lines (told given) ≡ reply_lines given
unfolding reply_lines
lines_alike given = ap (λ lines. map (λ words. spaced words) lines) (words_alike given)

pub lines_tell_replies : LinesTellReplies
lines_tell_replies one other is_one is_other spelled_one spelled_other = (
  λ same. some_reply (sym (told_again one is_one spelled_one) ∙ ap (λ lines. reply_in (map line_words lines)) same ∙ told_again other is_other spelled_other),
  λ alike. sym (lines_alike one) ∙ ap reply_lines alike ∙ lines_alike other,
)
