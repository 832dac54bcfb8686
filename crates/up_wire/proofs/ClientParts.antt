-- What a client sends, by its parts.
use Rattle.std.proofs.Common.{◌≡◌, ◌≤◌, ℕ, ℤ, true, List, ◌++◌, refl, arith}
use Rattle.up_bytes.specs.Spelling.{int, text, IsI64, IsText}
use Rattle.up_bytes.specs.Reading.{made_of, text_at}
use Rattle.up_bytes.specs.Sequences.{AreMessages}
use Rattle.up_bytes.proofs.FieldParts.{int_part, text_part}
use Rattle.up_bytes.proofs.Messages.{messages}
use Rattle.up_bytes.proofs.Parts.{IsPart, then, last, whole}
use Rattle.up_bytes.proofs.Tables.{IsRow, Tagged, has_tag, made_row, plain_row, tagged_part}
use Rattle.up_entry.specs.RawEntries.{raw_entry, FitsRawEntry}
use Rattle.up_entry.proofs.RawParts.{raw_part}
use Rattle.up_wire.specs.declared.messages.ClientFrame.{ClientFrame}
use Rattle.up_wire.specs.declared.messages.ClientFrame.TheVariants.{Hello, Proof, Bye, Ask}
use Rattle.up_wire.specs.declared.requests.Request.{Request}
use Rattle.up_wire.specs.declared.requests.Request.TheVariants as request
use Rattle.up_wire.specs.Keys.{key_card, FitsKeyCard}
use Rattle.up_wire.specs.Reading.{client_at, client_of, client_table, watch_at}
use Rattle.up_wire.specs.Spelling.{client, client_fields, client_tag, request_tag, FitsClient}
use Rattle.up_wire.proofs.KeyParts.{key_card_part}

-- a message with this tag
abbrev Sent : ℕ → ClientFrame → Type 0
Sent = Tagged FitsClient client_tag client_fields

-- of what a message is made, where it is made of one part
abbrev Split : {A : Type 0} → (A → Type 0) → (A → List ℕ) → (A → ClientFrame) → ℕ → Type 0
Split {A} Fits spelling make tag = (frame : ClientFrame) → Sent tag frame → (p : A) × Fits p × (make p ≡ frame) × (client_fields frame ≡ spelling p)

-- the tags of requests are no others
request_from : (asked : Request) → 0x10 ≤ request_tag asked
request_from (request.Lookup path) = omega arith
request_from _ = omega arith

hello_split : Split IsText text (λ user. Hello user) 0x01
hello_split (Hello user) sent = (user, sent.0.0, refl, refl)
hello_split (Ask asked) sent = absurd (omega (arith, request_from asked, sent.1))
hello_split _ sent = absurd (omega (arith, sent.1))

proof_split : Split IsText text (λ signature. Proof signature) 0x02
proof_split (Proof signature) sent = (signature, sent.0.0, refl, refl)
proof_split (Ask asked) sent = absurd (omega (arith, request_from asked, sent.1))
proof_split _ sent = absurd (omega (arith, sent.1))

bye_only : (frame : ClientFrame) → Sent 0x03 frame → Bye ≡ frame
bye_only Bye sent = refl
bye_only (Ask asked) sent = absurd (omega (arith, request_from asked, sent.1))
bye_only _ sent = absurd (omega (arith, sent.1))

lookup_split : Split IsText text (λ path. Ask (request.Lookup path)) 0x10
lookup_split (Ask (request.Lookup path)) sent = (path, sent.0.0, refl, refl)
lookup_split _ sent = absurd (omega (arith, sent.1))

delete_split : Split IsText text (λ path. Ask (request.Delete path)) 0x12
delete_split (Ask (request.Delete path)) sent = (path, sent.0.0, refl, refl)
delete_split _ sent = absurd (omega (arith, sent.1))

glob_split : Split IsText text (λ pattern. Ask (request.Glob pattern)) 0x13
glob_split (Ask (request.Glob pattern)) sent = (pattern, sent.0.0, refl, refl)
glob_split _ sent = absurd (omega (arith, sent.1))

which_split : Split IsText text (λ path. Ask (request.WhichAccess path)) 0x14
which_split (Ask (request.WhichAccess path)) sent = (path, sent.0.0, refl, refl)
which_split _ sent = absurd (omega (arith, sent.1))

group_text_split : Split IsText text (λ path. Ask (request.GroupText path)) 0x16
group_text_split (Ask (request.GroupText path)) sent = (path, sent.0.0, refl, refl)
group_text_split _ sent = absurd (omega (arith, sent.1))

get_split : Split IsText text (λ reference. Ask (request.Get reference)) 0x20
get_split (Ask (request.Get reference)) sent = (reference, sent.0.0, refl, refl)
get_split _ sent = absurd (omega (arith, sent.1))

store_put_split : Split IsText text (λ block. Ask (request.StorePut block)) 0x21
store_put_split (Ask (request.StorePut block)) sent = (block, sent.0.0, refl, refl)
store_put_split _ sent = absurd (omega (arith, sent.1))

store_delete_split : Split IsText text (λ reference. Ask (request.StoreDelete reference)) 0x22
store_delete_split (Ask (request.StoreDelete reference)) sent = (reference, sent.0.0, refl, refl)
store_delete_split _ sent = absurd (omega (arith, sent.1))

key_lookup_split : Split IsText text (λ user. Ask (request.KeyLookup user)) 0x30
key_lookup_split (Ask (request.KeyLookup user)) sent = (user, sent.0.0, refl, refl)
key_lookup_split _ sent = absurd (omega (arith, sent.1))

put_split : Split FitsRawEntry raw_entry (λ put. Ask (request.Put put)) 0x11
put_split (Ask (request.Put put)) sent = (put, sent.0, refl, refl)
put_split _ sent = absurd (omega (arith, sent.1))

key_put_split : Split FitsKeyCard key_card (λ card. Ask (request.KeyPut card)) 0x31
key_put_split (Ask (request.KeyPut card)) sent = (card, sent.0, refl, refl)
key_put_split _ sent = absurd (omega (arith, sent.1))

-- a path and a sequence, as a request and then as a message
abbrev IsWatch : Request → Type 0
IsWatch asked = FitsClient (Ask asked) × (client_tag (Ask asked) ≡ 0x15)

watch_part : IsPart IsWatch (λ asked. client_fields (Ask asked)) watch_at
unfolding watch_at
watch_part =
    whole IsWatch (λ asked. client_fields (Ask asked)) (then text_part λ _ path _. last {B = Request} (λ sequence. request.Watch path sequence) int_part)
    split (λ p fits. (((fits, tt), refl), refl))
  where
    split : (asked : Request) → IsWatch asked → (p : List ℕ × ℤ) × (IsText p.0 × IsI64 p.1) × (request.Watch p.0 p.1 ≡ asked) × (client_fields (Ask asked) ≡ text p.0 ++ int p.1)
    split (request.Watch path sequence) is = ((path, sequence), is.0.0, refl, refl)
    split _ is = absurd (omega (arith, is.1))

watched : (frame : ClientFrame) → Sent 0x15 frame → (asked : Request) × IsWatch asked × (Ask asked ≡ frame) × (client_fields frame ≡ client_fields (Ask asked))
watched (Ask asked) sent = (asked, sent, refl, refl)
watched _ sent = absurd (omega (arith, sent.1))

has_its_tag : (frame : ClientFrame) → FitsClient frame → has_tag (client_tag frame) client_table ≡ true
has_its_tag (Hello user) fits = refl
has_its_tag (Proof signature) fits = refl
has_its_tag Bye fits = refl
has_its_tag (Ask (request.Lookup path)) fits = refl
has_its_tag (Ask (request.Put put)) fits = refl
has_its_tag (Ask (request.Delete path)) fits = refl
has_its_tag (Ask (request.Glob pattern)) fits = refl
has_its_tag (Ask (request.WhichAccess path)) fits = refl
has_its_tag (Ask (request.Watch path sequence)) fits = refl
has_its_tag (Ask (request.GroupText path)) fits = refl
has_its_tag (Ask (request.Get reference)) fits = refl
has_its_tag (Ask (request.StorePut block)) fits = refl
has_its_tag (Ask (request.StoreDelete reference)) fits = refl
has_its_tag (Ask (request.KeyLookup user)) fits = refl
has_its_tag (Ask (request.KeyPut card)) fits = refl

text_row : (tag : ℕ) (make : List ℕ → ClientFrame) → Split IsText text make tag → ((t : List ℕ) → IsText t → Sent tag (make t) × (client_fields (make t) ≡ text t)) → IsRow FitsClient client_tag client_fields (tag, made_of make text_at)
text_row tag make split join = made_row FitsClient client_tag client_fields tag make text_part split join

client_part : IsPart FitsClient client client_at
client_part =
    tagged_part FitsClient client_tag client_fields client_table (
      text_row 0x01 (λ t. Hello t) hello_split (λ t fits. (((fits, tt), refl), refl)),
      (
        text_row 0x02 (λ t. Proof t) proof_split (λ t fits. (((fits, tt), refl), refl)),
        (
          plain_row FitsClient client_tag client_fields 0x03 Bye ((tt, tt), refl) refl bye_only,
          (
            text_row 0x10 (λ t. Ask (request.Lookup t)) lookup_split (λ t fits. (((fits, tt), refl), refl)),
            (
              made_row FitsClient client_tag client_fields 0x11 (λ put. Ask (request.Put put)) raw_part put_split (λ put fits. ((fits, refl), refl)),
              (
                text_row 0x12 (λ t. Ask (request.Delete t)) delete_split (λ t fits. (((fits, tt), refl), refl)),
                (
                  text_row 0x13 (λ t. Ask (request.Glob t)) glob_split (λ t fits. (((fits, tt), refl), refl)),
                  (
                    text_row 0x14 (λ t. Ask (request.WhichAccess t)) which_split (λ t fits. (((fits, tt), refl), refl)),
                    (
                      made_row FitsClient client_tag client_fields 0x15 (λ asked. Ask asked) watch_part watched (λ asked is. (is, refl)),
                      (
                        text_row 0x16 (λ t. Ask (request.GroupText t)) group_text_split (λ t fits. (((fits, tt), refl), refl)),
                        (
                          text_row 0x20 (λ t. Ask (request.Get t)) get_split (λ t fits. (((fits, tt), refl), refl)),
                          (
                            text_row 0x21 (λ t. Ask (request.StorePut t)) store_put_split (λ t fits. (((fits, tt), refl), refl)),
                            (
                              text_row 0x22 (λ t. Ask (request.StoreDelete t)) store_delete_split (λ t fits. (((fits, tt), refl), refl)),
                              (
                                text_row 0x30 (λ t. Ask (request.KeyLookup t)) key_lookup_split (λ t fits. (((fits, tt), refl), refl)),
                                (
                                  made_row FitsClient client_tag client_fields 0x31 (λ card. Ask (request.KeyPut card)) key_card_part key_put_split (λ card fits. ((fits, refl), refl)),
                                  tt,
                                ),
                              ),
                            ),
                          ),
                        ),
                      ),
                    ),
                  ),
                ),
              ),
            ),
          ),
        ),
      ),
    ) refl has_its_tag

pub client_messages : AreMessages FitsClient client client_of
client_messages = messages client_part
