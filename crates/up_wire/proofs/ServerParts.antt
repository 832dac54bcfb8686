-- What a server sends, by its parts.
use Rattle.std.proofs.Common.{◌≡◌, ◌≤◌, ℕ, true, List, ◌++◌, refl, arith}
use Rattle.up_bytes.specs.Num.{num}
use Rattle.up_bytes.specs.Spelling.{byte, list, raw, text, HasLength, IsList, IsText, IsU64}
use Rattle.up_bytes.specs.Reading.{list_at}
use Rattle.up_bytes.specs.Sequences.{AreMessages}
use Rattle.up_bytes.proofs.FieldParts.{num_part, raw_part, text_part}
use Rattle.up_bytes.proofs.Lists.{list_part, all_both, all_first, all_second}
use Rattle.up_bytes.proofs.Messages.{messages}
use Rattle.up_bytes.proofs.Parts.{IsPart, then, last, whole}
use Rattle.up_bytes.proofs.Tables.{Tagged, made_row, plain_row, tagged_part, has_tag}
use Rattle.up_entry.specs.Spelling.{entry, FitsEntry, IsSpelled}
use Rattle.up_entry.proofs.EntryParts.{any_part}
use Rattle.up_rights.specs.declared.Right.{Right}
use Rattle.up_wire.specs.declared.messages.ServerFrame.{ServerFrame}
use Rattle.up_wire.specs.declared.messages.ServerFrame.TheVariants.{Challenge, Welcome, NotSigned, Answer}
use Rattle.up_wire.specs.declared.replies.Done.{Done}
use Rattle.up_wire.specs.declared.replies.Done.TheVariants as done
use Rattle.up_wire.specs.declared.replies.Reply.{Reply}
use Rattle.up_wire.specs.declared.replies.Reply.TheVariants as reply
use Rattle.up_wire.specs.declared.replies.WatchEvent.{WatchEvent}
use Rattle.up_wire.specs.Keys.{key_record, FitsKeyRecord}
use Rattle.up_wire.specs.Reading.{done_at, done_table, event_at, events_at, row_of, server_at, server_of, server_table}
use Rattle.up_wire.specs.Spelling.{done_fields, done_tag, event, reply_tag, right_byte, row, server, server_fields, server_tag, spelled_done, spelled_option, spelled_what, FitsServer, IsDone, IsEvent, IsRow, IsSpelledDone, IsWhat}
use Rattle.up_wire.proofs.KeyParts.{key_record_part}
use Rattle.up_wire.proofs.WordParts.{event_part, option_part, right_part, row_part, what_part, Any, FitsEvent, FitsOption, FitsRow}

-- ---- what was done

abbrev pub FitsDone : Done → Type 0
FitsDone d = IsDone d × IsSpelledDone d

abbrev Shaped : ℕ → Done → Type 0
Shaped = Tagged FitsDone done_tag done_fields

-- of what it is made, where it is made of one part
abbrev SplitDone : {A : Type 0} → (A → Type 0) → (A → List ℕ) → (A → Done) → ℕ → Type 0
SplitDone {A} Fits spelling make tag = (d : Done) → Shaped tag d → (p : A) × Fits p × (make p ≡ d) × (done_fields d ≡ spelling p)

rows_part : IsPart (IsList FitsRow) (list row) (list_at row_of)
rows_part = list_part row_part

events_part : IsPart (IsList FitsEvent) (list event) (list_at event_at)
events_part = list_part event_part

changed_split : SplitDone IsU64 num (λ position. done.Changed position) 1
changed_split (done.Changed position) shaped = (position, shaped.0.0, refl, refl)
changed_split _ shaped = absurd (omega (arith, shaped.1))

entry_split : SplitDone FitsEntry entry (λ e. done.Entry e) 2
entry_split (done.Entry e) shaped = (e, shaped.0, refl, refl)
entry_split _ shaped = absurd (omega (arith, shaped.1))

rows_split : SplitDone (IsList FitsRow) (list row) (λ rows. done.Rows rows) 3
rows_split (done.Rows rows) shaped = (rows, (shaped.0.0.0, all_both IsRow (λ r. IsSpelled r.entry) rows shaped.0.0.1 shaped.0.1), refl, refl)
rows_split _ shaped = absurd (omega (arith, shaped.1))

access_split : SplitDone FitsOption spelled_option (λ found. done.Access found) 4
access_split (done.Access found) shaped = (found, shaped.0, refl, refl)
access_split _ shaped = absurd (omega (arith, shaped.1))

events_split : (d : Done) → Shaped 5 d → (p : List WatchEvent × ℕ) × (IsList FitsEvent p.0 × IsU64 p.1) × (done.Events p.0 p.1 ≡ d) × (done_fields d ≡ list event p.0 ++ num p.1)
events_split (done.Events events next) shaped = ((events, next), ((shaped.0.0.0.0, all_both IsEvent (λ e. IsSpelled e.entry) events shaped.0.0.0.1 shaped.0.1), shaped.0.0.1), refl, refl)
events_split _ shaped = absurd (omega (arith, shaped.1))

text_split : SplitDone IsText text (λ bytes. done.Text bytes) 6
text_split (done.Text bytes) shaped = (bytes, shaped.0.0, refl, refl)
text_split _ shaped = absurd (omega (arith, shaped.1))

reference_split : SplitDone (HasLength 32) raw (λ reference. done.Reference reference) 7
reference_split (done.Reference reference) shaped = (reference, shaped.0.0, refl, refl)
reference_split _ shaped = absurd (omega (arith, shaped.1))

bytes_split : SplitDone IsText text (λ bytes. done.Bytes bytes) 8
bytes_split (done.Bytes bytes) shaped = (bytes, shaped.0.0, refl, refl)
bytes_split _ shaped = absurd (omega (arith, shaped.1))

key_split : SplitDone FitsKeyRecord key_record (λ known. done.Key known) 9
key_split (done.Key known) shaped = (known, shaped.0, refl, refl)
key_split _ shaped = absurd (omega (arith, shaped.1))

events_row : IsPart (Shaped 5) done_fields events_at
unfolding events_at
events_row =
    whole (Shaped 5) done_fields (then events_part λ _ events _. last {B = Done} (λ next. done.Events events next) num_part) events_split
    (λ p fits. (((((fits.0.0, all_first IsEvent (λ e. IsSpelled e.entry) p.0 fits.0.1), fits.1), all_second IsEvent (λ e. IsSpelled e.entry) p.0 fits.0.1), refl), refl))

done_tagged : (d : Done) → FitsDone d → has_tag (done_tag d) done_table ≡ true
done_tagged (done.Changed position) fits = refl
done_tagged (done.Entry e) fits = refl
done_tagged (done.Rows rows) fits = refl
done_tagged (done.Access found) fits = refl
done_tagged (done.Events events next) fits = refl
done_tagged (done.Text bytes) fits = refl
done_tagged (done.Reference reference) fits = refl
done_tagged (done.Bytes bytes) fits = refl
done_tagged (done.Key known) fits = refl

pub done_part : IsPart FitsDone spelled_done done_at
unfolding done_at
done_part =
    tagged_part FitsDone done_tag done_fields done_table (
      made_row FitsDone done_tag done_fields 1 (λ position. done.Changed position) num_part changed_split (λ position fits. (((fits, tt), refl), refl)),
      (
        made_row FitsDone done_tag done_fields 2 (λ e. done.Entry e) any_part entry_split (λ e fits. ((fits, refl), refl)),
        (
          made_row FitsDone done_tag done_fields 3 (λ rows. done.Rows rows) rows_part rows_split (λ rows fits. ((((fits.0, all_first IsRow (λ r. IsSpelled r.entry) rows fits.1), all_second IsRow (λ r. IsSpelled r.entry) rows fits.1), refl), refl)),
          (
            made_row FitsDone done_tag done_fields 4 (λ found. done.Access found) option_part access_split (λ found fits. ((fits, refl), refl)),
            (
              events_row,
              (
                made_row FitsDone done_tag done_fields 6 (λ bytes. done.Text bytes) text_part text_split (λ bytes fits. (((fits, tt), refl), refl)),
                (
                  made_row FitsDone done_tag done_fields 7 (λ reference. done.Reference reference) (raw_part 32) reference_split (λ reference fits. (((fits, tt), refl), refl)),
                  (
                    made_row FitsDone done_tag done_fields 8 (λ bytes. done.Bytes bytes) text_part bytes_split (λ bytes fits. (((fits, tt), refl), refl)),
                    (
                      made_row FitsDone done_tag done_fields 9 (λ known. done.Key known) key_record_part key_split (λ known fits. ((fits, refl), refl)),
                      tt,
                    ),
                  ),
                ),
              ),
            ),
          ),
        ),
      ),
    ) refl done_tagged

-- ---- messages

abbrev Sent : ℕ → ServerFrame → Type 0
Sent = Tagged FitsServer server_tag server_fields

abbrev Split : {A : Type 0} → (A → Type 0) → (A → List ℕ) → (A → ServerFrame) → ℕ → Type 0
Split {A} Fits spelling make tag = (frame : ServerFrame) → Sent tag frame → (p : A) × Fits p × (make p ≡ frame) × (server_fields frame ≡ spelling p)

-- the numbers of replies are no tags
reply_below : (given : Reply) → reply_tag given ≤ 0x11
reply_below (reply.Ok d) = omega arith
reply_below _ = omega arith

challenge_split : Split (HasLength 32) raw (λ bytes. Challenge bytes) 0x81
challenge_split (Challenge bytes) sent = (bytes, sent.0.0, refl, refl)
challenge_split (Answer given) sent = absurd (omega (arith, reply_below given, sent.1))
challenge_split _ sent = absurd (omega (arith, sent.1))

welcome_only : (frame : ServerFrame) → Sent 0x82 frame → Welcome ≡ frame
welcome_only Welcome sent = refl
welcome_only (Answer given) sent = absurd (omega (arith, reply_below given, sent.1))
welcome_only _ sent = absurd (omega (arith, sent.1))

not_signed_only : (frame : ServerFrame) → Sent 0x83 frame → NotSigned ≡ frame
not_signed_only NotSigned sent = refl
not_signed_only (Answer given) sent = absurd (omega (arith, reply_below given, sent.1))
not_signed_only _ sent = absurd (omega (arith, sent.1))

ok_split : Split FitsDone spelled_done (λ d. Answer (reply.Ok d)) 0x00
ok_split (Answer (reply.Ok d)) sent = (d, sent.0, refl, refl)
ok_split _ sent = absurd (omega (arith, sent.1))

invalid_split : Split IsWhat spelled_what (λ w. Answer (reply.Invalid w)) 0x01
invalid_split (Answer (reply.Invalid w)) sent = (w, sent.0.0, refl, refl)
invalid_split _ sent = absurd (omega (arith, sent.1))

wrong_host_only : (frame : ServerFrame) → Sent 0x02 frame → Answer reply.WrongHost ≡ frame
wrong_host_only (Answer reply.WrongHost) sent = refl
wrong_host_only _ sent = absurd (omega (arith, sent.1))

follow_link_split : Split FitsEntry entry (λ e. Answer (reply.FollowLink e)) 0x03
follow_link_split (Answer (reply.FollowLink e)) sent = (e, sent.0, refl, refl)
follow_link_split _ sent = absurd (omega (arith, sent.1))

private_only : (frame : ServerFrame) → Sent 0x04 frame → Answer reply.Private ≡ frame
private_only (Answer reply.Private) sent = refl
private_only _ sent = absurd (omega (arith, sent.1))

permission_split : Split (Any {A = Right}) (λ r. byte (right_byte r)) (λ r. Answer (reply.Permission r)) 0x05
permission_split (Answer (reply.Permission r)) sent = (r, tt, refl, refl)
permission_split _ sent = absurd (omega (arith, sent.1))

not_exist_only : (frame : ServerFrame) → Sent 0x06 frame → Answer reply.NotExist ≡ frame
not_exist_only (Answer reply.NotExist) sent = refl
not_exist_only _ sent = absurd (omega (arith, sent.1))

not_dir_only : (frame : ServerFrame) → Sent 0x07 frame → Answer reply.NotDir ≡ frame
not_dir_only (Answer reply.NotDir) sent = refl
not_dir_only _ sent = absurd (omega (arith, sent.1))

is_dir_only : (frame : ServerFrame) → Sent 0x08 frame → Answer reply.IsDir ≡ frame
is_dir_only (Answer reply.IsDir) sent = refl
is_dir_only _ sent = absurd (omega (arith, sent.1))

exist_only : (frame : ServerFrame) → Sent 0x09 frame → Answer reply.Exist ≡ frame
exist_only (Answer reply.Exist) sent = refl
exist_only _ sent = absurd (omega (arith, sent.1))

bad_sequence_split : Split IsU64 num (λ current. Answer (reply.BadSequence current)) 0x0A
bad_sequence_split (Answer (reply.BadSequence current)) sent = (current, sent.0.0, refl, refl)
bad_sequence_split _ sent = absurd (omega (arith, sent.1))

not_empty_only : (frame : ServerFrame) → Sent 0x0B frame → Answer reply.NotEmpty ≡ frame
not_empty_only (Answer reply.NotEmpty) sent = refl
not_empty_only _ sent = absurd (omega (arith, sent.1))

bad_block_split : Split (HasLength 32) raw (λ reference. Answer (reply.BadBlock reference)) 0x0C
bad_block_split (Answer (reply.BadBlock reference)) sent = (reference, sent.0.0, refl, refl)
bad_block_split _ sent = absurd (omega (arith, sent.1))

bad_text_split : Split IsU64 num (λ line. Answer (reply.BadText line)) 0x0D
bad_text_split (Answer (reply.BadText line)) sent = (line, sent.0.0, refl, refl)
bad_text_split _ sent = absurd (omega (arith, sent.1))

too_large_split : Split IsU64 num (λ size. Answer (reply.TooLarge size)) 0x0E
too_large_split (Answer (reply.TooLarge size)) sent = (size, sent.0.0, refl, refl)
too_large_split _ sent = absurd (omega (arith, sent.1))

full_split : Split IsU64 num (λ records. Answer (reply.Full records)) 0x0F
full_split (Answer (reply.Full records)) sent = (records, sent.0.0, refl, refl)
full_split _ sent = absurd (omega (arith, sent.1))

io_only : (frame : ServerFrame) → Sent 0x10 frame → Answer reply.Io ≡ frame
io_only (Answer reply.Io) sent = refl
io_only _ sent = absurd (omega (arith, sent.1))

out_of_memory_only : (frame : ServerFrame) → Sent 0x11 frame → Answer reply.OutOfMemory ≡ frame
out_of_memory_only (Answer reply.OutOfMemory) sent = refl
out_of_memory_only _ sent = absurd (omega (arith, sent.1))

server_tagged : (frame : ServerFrame) → FitsServer frame → has_tag (server_tag frame) server_table ≡ true
server_tagged (Challenge bytes) fits = refl
server_tagged Welcome fits = refl
server_tagged NotSigned fits = refl
server_tagged (Answer (reply.Ok d)) fits = refl
server_tagged (Answer (reply.Invalid w)) fits = refl
server_tagged (Answer reply.WrongHost) fits = refl
server_tagged (Answer (reply.FollowLink e)) fits = refl
server_tagged (Answer reply.Private) fits = refl
server_tagged (Answer (reply.Permission r)) fits = refl
server_tagged (Answer reply.NotExist) fits = refl
server_tagged (Answer reply.NotDir) fits = refl
server_tagged (Answer reply.IsDir) fits = refl
server_tagged (Answer reply.Exist) fits = refl
server_tagged (Answer (reply.BadSequence current)) fits = refl
server_tagged (Answer reply.NotEmpty) fits = refl
server_tagged (Answer (reply.BadBlock reference)) fits = refl
server_tagged (Answer (reply.BadText line)) fits = refl
server_tagged (Answer (reply.TooLarge size)) fits = refl
server_tagged (Answer (reply.Full records)) fits = refl
server_tagged (Answer reply.Io) fits = refl
server_tagged (Answer reply.OutOfMemory) fits = refl

server_part : IsPart FitsServer server server_at
server_part =
    tagged_part FitsServer server_tag server_fields server_table (
      made_row FitsServer server_tag server_fields 0x81 (λ bytes. Challenge bytes) (raw_part 32) challenge_split (λ bytes fits. (((fits, tt), refl), refl)),
      (
        plain_row FitsServer server_tag server_fields 0x82 Welcome ((tt, tt), refl) refl welcome_only,
        (
          plain_row FitsServer server_tag server_fields 0x83 NotSigned ((tt, tt), refl) refl not_signed_only,
          (
            made_row FitsServer server_tag server_fields 0x00 (λ d. Answer (reply.Ok d)) done_part ok_split (λ d fits. ((fits, refl), refl)),
            (
              made_row FitsServer server_tag server_fields 0x01 (λ w. Answer (reply.Invalid w)) what_part invalid_split (λ w fits. (((fits, tt), refl), refl)),
              (
                plain_row FitsServer server_tag server_fields 0x02 (Answer reply.WrongHost) ((tt, tt), refl) refl wrong_host_only,
                (
                  made_row FitsServer server_tag server_fields 0x03 (λ e. Answer (reply.FollowLink e)) any_part follow_link_split (λ e fits. ((fits, refl), refl)),
                  (
                    plain_row FitsServer server_tag server_fields 0x04 (Answer reply.Private) ((tt, tt), refl) refl private_only,
                    (
                      made_row FitsServer server_tag server_fields 0x05 (λ r. Answer (reply.Permission r)) right_part permission_split (λ r fits. (((tt, tt), refl), refl)),
                      (
                        plain_row FitsServer server_tag server_fields 0x06 (Answer reply.NotExist) ((tt, tt), refl) refl not_exist_only,
                        (
                          plain_row FitsServer server_tag server_fields 0x07 (Answer reply.NotDir) ((tt, tt), refl) refl not_dir_only,
                          (
                            plain_row FitsServer server_tag server_fields 0x08 (Answer reply.IsDir) ((tt, tt), refl) refl is_dir_only,
                            (
                              plain_row FitsServer server_tag server_fields 0x09 (Answer reply.Exist) ((tt, tt), refl) refl exist_only,
                              (
                                made_row FitsServer server_tag server_fields 0x0A (λ current. Answer (reply.BadSequence current)) num_part bad_sequence_split (λ current fits. (((fits, tt), refl), refl)),
                                (
                                  plain_row FitsServer server_tag server_fields 0x0B (Answer reply.NotEmpty) ((tt, tt), refl) refl not_empty_only,
                                  (
                                    made_row FitsServer server_tag server_fields 0x0C (λ reference. Answer (reply.BadBlock reference)) (raw_part 32) bad_block_split (λ reference fits. (((fits, tt), refl), refl)),
                                    (
                                      made_row FitsServer server_tag server_fields 0x0D (λ line. Answer (reply.BadText line)) num_part bad_text_split (λ line fits. (((fits, tt), refl), refl)),
                                      (
                                        made_row FitsServer server_tag server_fields 0x0E (λ size. Answer (reply.TooLarge size)) num_part too_large_split (λ size fits. (((fits, tt), refl), refl)),
                                        (
                                          made_row FitsServer server_tag server_fields 0x0F (λ records. Answer (reply.Full records)) num_part full_split (λ records fits. (((fits, tt), refl), refl)),
                                          (
                                            plain_row FitsServer server_tag server_fields 0x10 (Answer reply.Io) ((tt, tt), refl) refl io_only,
                                            (
                                              plain_row FitsServer server_tag server_fields 0x11 (Answer reply.OutOfMemory) ((tt, tt), refl) refl out_of_memory_only,
                                              tt,
                                            ),
                                          ),
                                        ),
                                      ),
                                    ),
                                  ),
                                ),
                              ),
                            ),
                          ),
                        ),
                      ),
                    ),
                  ),
                ),
              ),
            ),
          ),
        ),
      ),
    ) refl server_tagged

pub server_messages : AreMessages FitsServer server server_of
server_messages = messages server_part
