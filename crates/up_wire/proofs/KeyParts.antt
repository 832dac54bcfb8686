-- Users' records with a key server, by their parts.
use Rattle.std.proofs.Common.{◌≡◌, ℕ, List, ◌++◌, refl, ◌∙◌, append_assoc}
use Rattle.std.specs.List.{AllByRecursion}
use Rattle.up_bytes.specs.Spelling.{text, IsList}
use Rattle.up_bytes.specs.Reading.{list_at}
use Rattle.up_bytes.specs.Sequences.{AreMessages}
use Rattle.up_bytes.proofs.FieldParts.{text_part}
use Rattle.up_bytes.proofs.Lists.{list_part, all_both, all_first, all_second}
use Rattle.up_bytes.proofs.Messages.{messages}
use Rattle.up_bytes.proofs.Parts.{IsPart, then, last, whole, one_part}
use Rattle.up_bytes.proofs.Tables.{IsRow, Tagged, tagged_part}
use Rattle.up_entry.specs.declared.entries.Endpoint.{Endpoint}
use Rattle.up_entry.specs.Reading.{endpoint_at}
use Rattle.up_entry.specs.Spelling.{FitsEndpoint, HasAddress}
use Rattle.up_entry.proofs.EntryFields.{endpoint_part, user_part}
use Rattle.up_wire.specs.declared.keys.KeyCard.{KeyCard}
use Rattle.up_wire.specs.declared.keys.KeyRecord.{KeyRecord}
use Rattle.up_wire.specs.Keys.{endpoints, key_card, key_card_at, key_record, key_record_at, logged, logged_at, logged_of, logged_table, FitsKeyCard, FitsKeyRecord, IsEndpoint}

-- parts, each before those behind it
four : (a b c d : List ℕ) → a ++ b ++ c ++ d ≡ a ++ (b ++ (c ++ d))
four a b c d = append_assoc (a ++ b) c d ∙ append_assoc a b (c ++ d)

endpoints_part : IsPart (IsList FitsEndpoint) endpoints (list_at endpoint_at)
endpoints_part = list_part endpoint_part

both : (xs : List Endpoint) → IsList IsEndpoint xs → AllByRecursion HasAddress xs → IsList FitsEndpoint xs
both xs are have = (are.0, all_both IsEndpoint HasAddress xs are.1 have)

first : (xs : List Endpoint) → IsList FitsEndpoint xs → IsList IsEndpoint xs
first xs fit = (fit.0, all_first IsEndpoint HasAddress xs fit.1)

pub key_card_part : IsPart FitsKeyCard key_card key_card_at
unfolding key_card_at key_card
key_card_part =
    whole FitsKeyCard key_card
    (then text_part λ _ user _. then endpoints_part λ _ dirs _. then endpoints_part λ _ stores _.
    last {B = KeyCard} (λ key. record { user = user; dirs = dirs; stores = stores; key = key }) text_part)
    (λ card fits. (
      (card.user, (card.dirs, (card.stores, card.key))),
      (fits.0.user, (both card.dirs fits.0.dirs fits.1.0, (both card.stores fits.0.stores fits.1.1, fits.0.key))),
      refl,
      four (text card.user) (endpoints card.dirs) (endpoints card.stores) (text card.key),
    ))
    (λ p fits. (
      (
        record { user = fits.0; dirs = first p.1.0 fits.1.0; stores = first p.1.1.0 fits.1.1.0; key = fits.1.1.1 },
        (all_second IsEndpoint HasAddress p.1.0 fits.1.0.1, all_second IsEndpoint HasAddress p.1.1.0 fits.1.1.0.1),
      ),
      four (text p.0) (endpoints p.1.0) (endpoints p.1.1.0) (text p.1.1.1),
    ))

pub key_record_part : IsPart FitsKeyRecord key_record key_record_at
unfolding key_record_at key_record
key_record_part =
    whole FitsKeyRecord key_record
    (then user_part λ _ user _. then endpoints_part λ _ dirs _. then endpoints_part λ _ stores _.
    last {B = KeyRecord} (λ key. record { user = user; dirs = dirs; stores = stores; key = key }) text_part)
    (λ known fits. (
      (known.user, (known.dirs, (known.stores, known.key))),
      (fits.0.user, (both known.dirs fits.0.dirs fits.1.0, (both known.stores fits.0.stores fits.1.1, fits.0.key))),
      refl,
      four (text known.user) (endpoints known.dirs) (endpoints known.stores) (text known.key),
    ))
    (λ p fits. (
      (
        record { user = fits.0; dirs = first p.1.0 fits.1.0; stores = first p.1.1.0 fits.1.1.0; key = fits.1.1.1 },
        (all_second IsEndpoint HasAddress p.1.0 fits.1.0.1, all_second IsEndpoint HasAddress p.1.1.0 fits.1.1.0.1),
      ),
      four (text p.0) (endpoints p.1.0) (endpoints p.1.1.0) (text p.1.1.1),
    ))

-- ---- a record of a key server's log

abbrev one : KeyRecord → ℕ
one known = 1

logged_row : IsRow FitsKeyRecord one key_record (1, key_record_at)
logged_row = whole (Tagged FitsKeyRecord one key_record 1) key_record (one_part key_record_part) (λ known fits. (known, fits.0, refl, refl)) (λ known fits. ((fits, refl), refl))

logged_part : IsPart FitsKeyRecord logged logged_at
logged_part = tagged_part FitsKeyRecord one key_record logged_table (logged_row, tt) refl (λ known fits. refl)

pub logged_messages : AreMessages FitsKeyRecord logged logged_of
logged_messages = messages logged_part
