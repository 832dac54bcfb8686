-- A reply is read again of the words of its lines.
use Rattle.std.proofs.Common.{◌≡◌, ◌∙◌, ◌^◌, ℕ, ◌<◌, Bool, true, false, List, [], ◌∷◌, map, Option, None, Some, option_map, codes, bytes_eq, decimal, if◌then◌else◌, refl, ap}
use Rattle.std.specs.List.{AllByRecursion}
use Rattle.up_entry.specs.declared.entries.Entry.{Entry}
use Rattle.up_entry.specs.declared.what.What.{What}
use Rattle.up_entry.specs.declared.what.What.TheVariants as what
use Rattle.up_entry.specs.Spelling.{IsSpelled}
use Rattle.up_refs.specs.References.{reference_in}
use Rattle.up_rights.specs.declared.Right.{Right}
use Rattle.up_rights.specs.declared.Right.TheVariants as right
use Rattle.up_rights.specs.Words.{long_word}
use Rattle.up_wire.specs.declared.replies.Done.{Done}
use Rattle.up_wire.specs.declared.replies.Done.TheVariants as done
use Rattle.up_wire.specs.declared.replies.Reply.{Reply}
use Rattle.up_wire.specs.declared.replies.Reply.TheVariants as reply
use Rattle.up_wire.specs.declared.replies.Row.{Row}
use Rattle.up_wire.specs.declared.replies.WatchEvent.{WatchEvent}
use Rattle.up_wire.specs.Spelling.{IsDone, IsEvent, IsOption, IsReply, IsRow, IsSpelledDone, IsSpelledOption, IsSpelledReply, IsWhat}
use Rattle.up_text.specs.Entries.{entry_words}
use Rattle.up_text.specs.Laws.{AreOfBytes, done_told, HasByteReferences, IsOfBytes, ReferencesAreBytes, told}
use Rattle.up_text.specs.Lists.{◌>>=◌}
use Rattle.up_text.specs.Numbers.{num_of}
use Rattle.up_text.specs.Replies.{access_words, done_words, element_words, event_kind, event_words, further_words, reply_words, row_words, what_word}
use Rattle.up_text.specs.Words.{decoded}
use Rattle.up_text.proofs.CodeLemmas.{decoded-coded}
use Rattle.up_text.proofs.EntryTold.{entry_again, entry_in}
use Rattle.up_text.proofs.JoinLemmas.{all_both, map_same}
use Rattle.up_text.proofs.KeyTold.{key_again, key_in}
use Rattle.up_text.proofs.ListTold.{all_again, all_of}
use Rattle.up_text.proofs.NumberLemmas.{num-every}
use Rattle.up_text.proofs.WordBytes.{reference_again}

-- ---- a single word

abbrev number_in : List (List ℕ) → Option ℕ
number_in (word ∷ []) = num_of word
number_in _ = None

number_again : (n : ℕ) → n < 2 ^ 64 → num_of (decimal n) ≡ Some n
number_again n small = num-every (decimal n) n small refl

abbrev text_in : List (List ℕ) → Option (List ℕ)
text_in (word ∷ []) = decoded word
text_in _ = None

abbrev kept_in : List (List ℕ) → Option (List ℕ)
kept_in (word ∷ []) = reference_in word
kept_in _ = None

-- ---- what is malformed

abbrev what_in : List (List ℕ) → Option What
what_in (word ∷ element ∷ []) = option_map (λ n. what.Pattern n) (num_of element)
what_in (word ∷ []) =
    if bytes_eq word (codes "name") then Some what.Name
    else if bytes_eq word (codes "signedname") then Some what.SignedName
    else if bytes_eq word (codes "writer") then Some what.Writer
    else if bytes_eq word (codes "packing") then Some what.Packing
    else if bytes_eq word (codes "attr") then Some what.Attr
    else if bytes_eq word (codes "link") then Some what.Link
    else if bytes_eq word (codes "blocks") then Some what.Blocks
    else if bytes_eq word (codes "packdata") then Some what.Packdata
    else if bytes_eq word (codes "root") then Some what.Root
    else if bytes_eq word (codes "control") then Some what.Control
    else if bytes_eq word (codes "controlsize") then Some what.ControlSize
    else if bytes_eq word (codes "sequence") then Some what.Sequence
    else if bytes_eq word (codes "reference") then Some what.Reference
    else if bytes_eq word (codes "block") then Some what.Block
    else if bytes_eq word (codes "key") then Some what.Key
    else if bytes_eq word (codes "snapshotwatch") then Some what.SnapshotWatch
    else if bytes_eq word (codes "groupname") then Some what.GroupName
    else None
what_in _ = None

what_again : (w : What) → IsWhat w → what_in (what_word w ∷ element_words w) ≡ Some w
what_again what.Name is = refl
what_again what.SignedName is = refl
what_again what.Writer is = refl
what_again what.Packing is = refl
what_again what.Attr is = refl
what_again what.Link is = refl
what_again what.Blocks is = refl
what_again what.Packdata is = refl
what_again what.Root is = refl
what_again what.Control is = refl
what_again what.ControlSize is = refl
what_again what.Sequence is = refl
what_again (what.Pattern element) is = ap (option_map (λ n. what.Pattern n)) (number_again element is)
what_again what.Reference is = refl
what_again what.Block is = refl
what_again what.Key is = refl
what_again what.SnapshotWatch is = refl
what_again what.GroupName is = refl

-- ---- rights

abbrev right_in : List (List ℕ) → Option Right
right_in (word ∷ []) =
    if bytes_eq word (codes "read") then Some right.Read
    else if bytes_eq word (codes "write") then Some right.Write
    else if bytes_eq word (codes "list") then Some right.List
    else if bytes_eq word (codes "create") then Some right.Create
    else if bytes_eq word (codes "delete") then Some right.Delete
    else None
right_in _ = None

right_again : (r : Right) → right_in (long_word r ∷ []) ≡ Some r
right_again right.Read = refl
right_again right.Write = refl
right_again right.List = refl
right_again right.Create = refl
right_again right.Delete = refl

-- ---- entries

abbrev access_in : List (List ℕ) → Option (Option Entry)
access_in (word ∷ []) = Some None
access_in words = option_map (λ e. Some e) (entry_in words)

access_again : (found : Option Entry) → IsOption found → IsSpelledOption found → IsOfBytes found → access_in (access_words found) ≡ Some found
unfolding entry_words
access_again None is spelled bytes = refl
access_again (Some e) is spelled bytes = ap (option_map (λ e. Some e)) (entry_again e is spelled bytes)

-- ---- rows

abbrev row_in : List (List ℕ) → Option Row
row_in (keyword ∷ rest ∷ words) = do
  left ← num_of rest
  e ← entry_in words
  Some (record { entry = e; rest = left })
row_in _ = None

abbrev IsRowTold : Row → Type 0
IsRowTold r = (IsRow r × IsSpelled r.entry) × AreOfBytes r.entry

row_again : (r : Row) → IsRowTold r → row_in (row_words r) ≡ Some r
row_again r is = rw (number_again r.rest is.0.0.0, entry_again r.entry is.0.0.1 is.0.1 is.1) refl

rows_again : (rows : List Row) → AllByRecursion IsRowTold rows → all_of row_in (map (λ row. row_words row) rows) ≡ Some rows
rows_again rows all = all_again row_in (λ row. row_words row) (λ row. row) IsRowTold row_again rows all ∙ ap Some (map_same rows)

-- ---- events

abbrev kind_in : List ℕ → Option Bool
kind_in word =
    if bytes_eq word (codes "delete") then Some true
    else if bytes_eq word (codes "put") then Some false
    else None

kind_again : (delete : Bool) → kind_in (event_kind delete) ≡ Some delete
kind_again true = refl
kind_again false = refl

abbrev event_in : List (List ℕ) → Option WatchEvent
event_in (keyword ∷ position ∷ kind ∷ words) = do
  n ← num_of position
  delete ← kind_in kind
  e ← entry_in words
  Some (record { position = n; delete = delete; entry = e })
event_in _ = None

abbrev IsEventTold : WatchEvent → Type 0
IsEventTold e = (IsEvent e × IsSpelled e.entry) × AreOfBytes e.entry

event_again : (e : WatchEvent) → IsEventTold e → event_in (event_words e) ≡ Some e
event_again e is = rw (number_again e.position is.0.0.0, kind_again e.delete, entry_again e.entry is.0.0.1 is.0.1 is.1) refl

events_again : (events : List WatchEvent) → AllByRecursion IsEventTold events → all_of event_in (map (λ event. event_words event) events) ≡ Some events
events_again events all = all_again event_in (λ event. event_words event) (λ event. event) IsEventTold event_again events all ∙ ap Some (map_same events)

-- the number of events, and the sequence to go on from
abbrev watched_in : List (List ℕ) → List (List (List ℕ)) → Option Done
watched_in (count ∷ next ∷ []) more = do
  events ← all_of event_in more
  n ← num_of next
  Some (done.Events events n)
watched_in _ more = None

-- ---- what was done

abbrev done_in : List ℕ → List (List ℕ) → List (List (List ℕ)) → Option Done
done_in keyword words more =
    if bytes_eq keyword (codes "ok") then option_map (λ n. done.Changed n) (number_in words)
    else if bytes_eq keyword (codes "entry") then option_map (λ e. done.Entry e) (entry_in words)
    else if bytes_eq keyword (codes "glob") then option_map (λ rows. done.Rows rows) (all_of row_in more)
    else if bytes_eq keyword (codes "access") then option_map (λ found. done.Access found) (access_in words)
    else if bytes_eq keyword (codes "watch") then watched_in words more
    else if bytes_eq keyword (codes "text") then option_map (λ text. done.Text text) (text_in words)
    else if bytes_eq keyword (codes "ref") then option_map (λ reference. done.Reference reference) (kept_in words)
    else if bytes_eq keyword (codes "bytes") then option_map (λ bytes. done.Bytes bytes) (text_in words)
    else if bytes_eq keyword (codes "key") then option_map (λ known. done.Key known) (key_in words)
    else None

-- what was done, of its lines
abbrev lines_done : List (List (List ℕ)) → Option Done
lines_done ((keyword ∷ words) ∷ more) = done_in keyword words more
lines_done _ = None

done_again : (d : Done) → IsDone d → IsSpelledDone d → HasByteReferences d → lines_done (done_words d ∷ further_words d) ≡ Some (done_told d)
unfolding done_words further_words
done_again (done.Changed position) is spelled bytes = ap (option_map (λ n. done.Changed n)) (number_again position is)
done_again (done.Entry e) is spelled bytes = ap (option_map (λ e. done.Entry e)) (entry_again e is spelled bytes)
done_again (done.Rows rows) is spelled bytes = ap (option_map (λ rows. done.Rows rows)) (rows_again rows (all_both _ _ rows (all_both _ _ rows is.1 spelled) bytes))
done_again (done.Access found) is spelled bytes = ap (option_map (λ found. done.Access found)) (access_again found is spelled bytes)
done_again (done.Events events next) is spelled bytes =
    rw (events_again events (all_both _ _ events (all_both _ _ events is.0.1 spelled) bytes), number_again next is.1) refl
done_again (done.Text text) is spelled bytes = ap (option_map (λ text. done.Text text)) (decoded-coded text)
done_again (done.Reference reference) is spelled bytes = ap (option_map (λ reference. done.Reference reference)) (reference_again reference is bytes)
done_again (done.Bytes text) is spelled bytes = ap (option_map (λ text. done.Bytes text)) (decoded-coded text)
done_again (done.Key known) is spelled bytes = ap (option_map (λ known. done.Key known)) (key_again known spelled)

-- ---- replies

-- a reply other than of what was done, by its keyword
abbrev refusal_in : List ℕ → List (List ℕ) → Option Reply
refusal_in keyword words =
    if bytes_eq keyword (codes "invalid") then option_map (λ w. reply.Invalid w) (what_in words)
    else if bytes_eq keyword (codes "wronghost") then Some reply.WrongHost
    else if bytes_eq keyword (codes "followlink") then option_map (λ e. reply.FollowLink e) (entry_in words)
    else if bytes_eq keyword (codes "private") then Some reply.Private
    else if bytes_eq keyword (codes "permission") then option_map (λ r. reply.Permission r) (right_in words)
    else if bytes_eq keyword (codes "notexist") then Some reply.NotExist
    else if bytes_eq keyword (codes "notdir") then Some reply.NotDir
    else if bytes_eq keyword (codes "isdir") then Some reply.IsDir
    else if bytes_eq keyword (codes "exist") then Some reply.Exist
    else if bytes_eq keyword (codes "badsequence") then option_map (λ n. reply.BadSequence n) (number_in words)
    else if bytes_eq keyword (codes "notempty") then Some reply.NotEmpty
    else if bytes_eq keyword (codes "badblock") then option_map (λ reference. reply.BadBlock reference) (kept_in words)
    else if bytes_eq keyword (codes "badtext") then option_map (λ n. reply.BadText n) (number_in words)
    else if bytes_eq keyword (codes "toolarge") then option_map (λ n. reply.TooLarge n) (number_in words)
    else if bytes_eq keyword (codes "full") then option_map (λ n. reply.Full n) (number_in words)
    else if bytes_eq keyword (codes "io") then Some reply.Io
    else None

-- the one where it is, else the other
abbrev either : {X : Type 0} → Option X → Option X → Option X
either (Some x) other = Some x
either None other = other

abbrev refusal_of : List (List (List ℕ)) → Option Reply
refusal_of ((keyword ∷ words) ∷ more) = refusal_in keyword words
refusal_of _ = None

-- a reply of the words of its lines
abbrev pub reply_in : List (List (List ℕ)) → Option Reply
reply_in [] = Some reply.OutOfMemory
reply_in (line ∷ more) = either (option_map (λ d. reply.Ok d) (lines_done (line ∷ more))) (refusal_of (line ∷ more))

pub reply_again : (given : Reply) → IsReply given → IsSpelledReply given → ReferencesAreBytes given → reply_in (reply_words given) ≡ Some (told given)
unfolding reply_words
reply_again (reply.Ok d) is spelled bytes =
    ap (λ found. either (option_map (λ d. reply.Ok d) found) (refusal_of (done_words d ∷ further_words d))) (done_again d is spelled bytes)
reply_again (reply.Invalid w) is spelled bytes = ap (option_map (λ w. reply.Invalid w)) (what_again w is)
reply_again reply.WrongHost is spelled bytes = refl
reply_again (reply.FollowLink e) is spelled bytes = ap (option_map (λ e. reply.FollowLink e)) (entry_again e is spelled bytes)
reply_again reply.Private is spelled bytes = refl
reply_again (reply.Permission r) is spelled bytes = ap (option_map (λ r. reply.Permission r)) (right_again r)
reply_again reply.NotExist is spelled bytes = refl
reply_again reply.NotDir is spelled bytes = refl
reply_again reply.IsDir is spelled bytes = refl
reply_again reply.Exist is spelled bytes = refl
reply_again (reply.BadSequence current) is spelled bytes = ap (option_map (λ n. reply.BadSequence n)) (number_again current is)
reply_again reply.NotEmpty is spelled bytes = refl
reply_again (reply.BadBlock reference) is spelled bytes = ap (option_map (λ reference. reply.BadBlock reference)) (reference_again reference is bytes)
reply_again (reply.BadText line) is spelled bytes = ap (option_map (λ n. reply.BadText n)) (number_again line is)
reply_again (reply.TooLarge size) is spelled bytes = ap (option_map (λ n. reply.TooLarge n)) (number_again size is)
reply_again (reply.Full records) is spelled bytes = ap (option_map (λ n. reply.Full n)) (number_again records is)
reply_again reply.Io is spelled bytes = refl
reply_again reply.OutOfMemory is spelled bytes = refl
