-- Lists of endpoints are read again, but that the host's own store and the address `local` are printed alike.
use Rattle.std.proofs.Common.{◌≡◌, ◌≢◌, ◌∙◌, ℕ, Bool, true, false, List, [], ◌∷◌, ◌++◌, length, map, Option, None, Some, option_map, codes, bytes_eq, cond, refl, sym, ap, arith}
use Rattle.std.specs.List.{flat_map, list_any, AllByRecursion}
use Rattle.std.proofs.lemmas.Bool.{ne_eqb, true≢false}
use Rattle.std.proofs.lemmas.Slice.Eq.{bytes_eq-Decides}
use Rattle.up_entry.specs.declared.entries.Endpoint.{Endpoint}
use Rattle.up_entry.specs.declared.entries.Endpoint.TheVariants.{Local, Address}
use Rattle.up_entry.specs.Spelling.{HasAddress}
use Rattle.up_wire.specs.declared.keys.KeyRecord.{KeyRecord}
use Rattle.up_wire.specs.Keys.{IsSpelledKeyRecord}
use Rattle.up_text.specs.Entries.{endpoint_word, endpoints_word}
use Rattle.up_text.specs.Laws.{endpoint_told, is_blank, key_told, IsWord}
use Rattle.up_text.specs.Lists.{◌>>=◌, address_named, endpoint_named, is_comma}
use Rattle.up_text.specs.Replies.{key_words}
use Rattle.up_text.specs.Words.{coded, decoded, decoded_bytes, field}
use Rattle.up_text.proofs.CodeLemmas.{decoded-coded}
use Rattle.up_text.proofs.CutLemmas.{failed}
use Rattle.up_text.proofs.EntryTold.{field_comma, field_no_dash}
use Rattle.up_text.proofs.FieldLemmas.{decoded-field}
use Rattle.up_text.proofs.ListTold.{list_again, list_in}
use Rattle.up_text.proofs.WordBytes.{field_word, join_free, literal_word, some_decoded, some_front}

some_same : {x y : List ℕ} → Some x ≡ Some y → x ≡ y
some_same is = cc

decoded-local : decoded (codes "local") ≡ Some (codes "local")
unfolding decoded decoded_bytes
decoded-local = refl

field-local : field (codes "local") ≡ codes "local"
unfolding field
field-local = refl

-- ---- an endpoint

local_named : endpoint_named (codes "local") ≡ Some Local
unfolding endpoint_named
local_named = refl

is_local : (word : List ℕ) → bytes_eq word (codes "local") ≡ true → word ≡ codes "local"
is_local word = (bytes_eq-Decides word (codes "local")).0

not_local : (word : List ℕ) → bytes_eq word (codes "local") ≡ false → word ≢ codes "local"
not_local word other is = absurd (true≢false (sym ((bytes_eq-Decides word (codes "local")).1 is) ∙ other))

-- the field of another address is not `local`
field_not_local : (address : List ℕ) → bytes_eq address (codes "local") ≡ false → bytes_eq (field address) (codes "local") ≡ false
field_not_local address other =
    failed _ (λ same. not_local address other (some_same (sym (decoded-field address) ∙ ap decoded (is_local (field address) same) ∙ decoded-local)))

named_by : (address : List ℕ) (test : Bool) → bytes_eq address (codes "local") ≡ test → endpoint_named (field address) ≡ Some (cond test Local (Address address))
unfolding endpoint_named address_named
named_by address true is = ap endpoint_named (ap field (is_local address is) ∙ field-local) ∙ local_named
named_by address false is =
    let some = some_decoded (field address) address (decoded-field address) in
    ap (λ test. cond test (Some Local) (option_map (λ text. Address text) (address_named (field address)))) (field_not_local address is)
    ∙ ap (λ none. option_map (λ text. Address text) (cond none (Some []) (decoded (field address)))) (ne_eqb (length (field address)) 0 (λ none. omega (arith, none, some)))
    ∙ ap (option_map (λ text. Address text)) (decoded-field address)

endpoint_again : (endpoint : Endpoint) → HasAddress endpoint → endpoint_named (endpoint_word endpoint) ≡ Some (endpoint_told endpoint)
unfolding endpoint_word
endpoint_again Local has = local_named
endpoint_again (Address address) has = named_by address (bytes_eq address (codes "local")) refl

endpoint_comma : (endpoint : Endpoint) → HasAddress endpoint → list_any is_comma (endpoint_word endpoint) ≡ false
unfolding endpoint_word
endpoint_comma Local has = refl
endpoint_comma (Address address) has = field_comma address

endpoint_no_dash : (endpoint : Endpoint) → HasAddress endpoint → endpoint_word endpoint ≢ 45 ∷ []
unfolding endpoint_word
endpoint_no_dash Local has is = absurd (true≢false (ap (λ bytes. bytes_eq bytes (codes "local")) is))
endpoint_no_dash (Address address) has is = field_no_dash address has is

-- ---- lists of them

abbrev endpoints_in : List ℕ → Option (List Endpoint)
endpoints_in = list_in endpoint_named

endpoints_again : (endpoints : List Endpoint) → AllByRecursion HasAddress endpoints → endpoints_in (endpoints_word endpoints) ≡ Some (map (λ endpoint. endpoint_told endpoint) endpoints)
unfolding endpoints_word
endpoints_again [] all = refl
endpoints_again (e ∷ es) all =
    list_again endpoint_named (λ endpoint. endpoint_word endpoint) (λ endpoint. endpoint_told endpoint) HasAddress endpoint_again endpoint_comma endpoint_no_dash e es all

-- ---- key records

abbrev pub key_in : List (List ℕ) → Option KeyRecord
key_in (user ∷ dirs ∷ stores ∷ key ∷ []) = do
  name ← decoded user
  directories ← endpoints_in dirs
  places ← endpoints_in stores
  public ← decoded key
  Some (record { user = name; dirs = directories; stores = places; key = public })
key_in _ = None

pub key_again : (known : KeyRecord) → IsSpelledKeyRecord known → key_in (key_words known) ≡ Some (key_told known)
key_again known spelled =
    rw (decoded-coded known.user, endpoints_again known.dirs spelled.0, endpoints_again known.stores spelled.1, decoded-coded known.key) refl

-- ---- what is printed alike has the same words

word_by : (address : List ℕ) (test : Bool) → bytes_eq address (codes "local") ≡ test → endpoint_word (cond test Local (Address address)) ≡ field address
unfolding endpoint_word
word_by address true is = sym (ap field (is_local address is) ∙ field-local)
word_by address false is = refl

endpoint_alike : (endpoint : Endpoint) → endpoint_word (endpoint_told endpoint) ≡ endpoint_word endpoint
unfolding endpoint_word
endpoint_alike Local = refl
endpoint_alike (Address address) = word_by address (bytes_eq address (codes "local")) refl

behind_alike : (endpoints : List Endpoint) → flat_map (λ y. codes "," ++ endpoint_word y) (map (λ endpoint. endpoint_told endpoint) endpoints) ≡ flat_map (λ y. codes "," ++ endpoint_word y) endpoints
behind_alike [] = refl
behind_alike (e ∷ es) =
    ap (λ word. (codes "," ++ word) ++ flat_map (λ y. codes "," ++ endpoint_word y) (map (λ endpoint. endpoint_told endpoint) es)) (endpoint_alike e)
    ∙ ap (λ words. (codes "," ++ endpoint_word e) ++ words) (behind_alike es)

endpoints_alike : (endpoints : List Endpoint) → endpoints_word (map (λ endpoint. endpoint_told endpoint) endpoints) ≡ endpoints_word endpoints
unfolding endpoints_word
endpoints_alike [] = refl
endpoints_alike (e ∷ es) =
    ap (λ word. word ++ flat_map (λ y. codes "," ++ endpoint_word y) (map (λ endpoint. endpoint_told endpoint) es)) (endpoint_alike e)
    ∙ ap (λ words. endpoint_word e ++ words) (behind_alike es)

pub key_alike : (known : KeyRecord) → key_words (key_told known) ≡ key_words known
key_alike known =
    ap (λ dirs. coded known.user ∷ dirs ∷ endpoints_word (map (λ endpoint. endpoint_told endpoint) known.stores) ∷ coded known.key ∷ []) (endpoints_alike known.dirs)
    ∙ ap (λ stores. coded known.user ∷ endpoints_word known.dirs ∷ stores ∷ coded known.key ∷ []) (endpoints_alike known.stores)

-- ---- they are words

endpoint_is_word : (endpoint : Endpoint) → IsWord (endpoint_word endpoint)
unfolding endpoint_word
endpoint_is_word Local = literal_word (codes "local") refl refl
endpoint_is_word (Address address) = field_word address

all_visible : (endpoints : List Endpoint) → AllByRecursion (λ endpoint. list_any is_blank (endpoint_word endpoint) ≡ false) endpoints
all_visible [] = tt
all_visible (e ∷ es) = ((endpoint_is_word e).1, all_visible es)

pub endpoints_are_word : (endpoints : List Endpoint) → IsWord (endpoints_word endpoints)
unfolding endpoints_word
endpoints_are_word [] = literal_word (codes "-") refl refl
endpoints_are_word (e ∷ es) = (
  some_front (endpoint_word e) _ (endpoint_is_word e).0,
  join_free is_blank 44 refl (λ endpoint. endpoint_word endpoint) (e ∷ es) (all_visible (e ∷ es)),
)
