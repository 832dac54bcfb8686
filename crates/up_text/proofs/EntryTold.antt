-- What is told of an entry and its blocks is read again.
use Rattle.std.proofs.Common.{◌≡◌, ◌≢◌, ◌∙◌, ◌^◌, ℕ, ◌<◌, ◌≤◌, Bool, true, false, List, [], ◌∷◌, ◌++◌, length, Option, None, Some, option_map, Ok, codes, bytes_eq, cond, decimal, if◌then◌else◌, refl, sym, ap, arith}
use Rattle.std.specs.Fmt.{digit_glyph, signed_decimal}
use Rattle.std.specs.List.{list_any, slice_split, AllByRecursion}
use Rattle.std.specs.Result.{result_ok}
use Rattle.std.proofs.lemmas.Bool.{ne_eqb, true≢false}
use Rattle.std.proofs.lemmas.Bool.Decides.{nat_tests}
use Rattle.std.proofs.lemmas.Slice.Eq.{bytes_eq-Decides}
use Rattle.up_bytes.specs.Spelling.{IsByte}
use Rattle.up_names.specs.PathNames.{PathName, canonical, path_of, IsCanonical}
use Rattle.up_names.specs.PathOrder.{path_eq}
use Rattle.up_names.specs.PathOrderLaws.{path_eq-Decides}
use Rattle.up_entry.specs.declared.entries.Attr.{Attr}
use Rattle.up_entry.specs.declared.entries.Block.{Block}
use Rattle.up_entry.specs.declared.entries.Endpoint.{Endpoint}
use Rattle.up_entry.specs.declared.entries.Endpoint.TheVariants.{Local, Address}
use Rattle.up_entry.specs.declared.entries.Entry.{Entry}
use Rattle.up_entry.specs.declared.entries.Kind.{Kind}
use Rattle.up_entry.specs.declared.entries.Kind.TheVariants.{File, Directory, Link}
use Rattle.up_entry.specs.Spelling.{link_text, HasAddress, IsBlock, IsEntry, IsSpelled, IsTarget}
use Rattle.up_refs.specs.References.{is_upper_digit, reference_in, text_of}
use Rattle.up_text.specs.Entries.{block_word, blocks_word, entry_words, kind_word, mark, plain_kind, signed_word, store_field}
use Rattle.up_text.specs.Laws.{AreOfBytes, is_blank, IsWord}
use Rattle.up_text.specs.Lists.{◌>>=◌, is_colon, is_comma, is_no_list}
use Rattle.up_text.specs.Numbers.{int_of, num_of}
use Rattle.up_text.specs.Words.{coded, decoded, decoded_bytes, field, is_coded, parts_fields}
use Rattle.up_text.proofs.CodeLemmas.{decoded-coded, decoded-dash_word}
use Rattle.up_text.proofs.CutLemmas.{failed}
use Rattle.up_text.proofs.FieldLemmas.{decoded-field, field_free, PassesNoEscape}
use Rattle.up_text.proofs.IntLemmas.{fits-from, int-every}
use Rattle.up_text.proofs.JoinLemmas.{all_both, all_weaker, map_same, split_joined}
use Rattle.up_text.proofs.ListTold.{list_again, list_in}
use Rattle.up_text.proofs.NumberLemmas.{num-every}
use Rattle.up_text.proofs.WordBytes.{coded_word, decimal_free, decimal_visible, decimal_word, field_visible, int_word, join_free, literal_word, reference_again, reference_free, reference_visible, reference_word, some_front}
use Rattle.up_text.proofs.WordLemmas.{no-dash_from}

-- ---- the word of a kind

abbrev attr_of : Kind → Bool → Attr
attr_of kind incomplete = record { kind = kind; incomplete = incomplete }

abbrev pub kind_in : List ℕ → Option Attr
kind_in word =
    if bytes_eq word (codes "file") then Some (attr_of File false)
    else if bytes_eq word (codes "file?") then Some (attr_of File true)
    else if bytes_eq word (codes "dir") then Some (attr_of Directory false)
    else if bytes_eq word (codes "dir?") then Some (attr_of Directory true)
    else if bytes_eq word (codes "link") then Some (attr_of Link false)
    else if bytes_eq word (codes "link?") then Some (attr_of Link true)
    else None

kind_read : (kind : Kind) (incomplete : Bool) → kind_in (plain_kind kind ++ mark incomplete) ≡ Some (attr_of kind incomplete)
kind_read File false = refl
kind_read File true = refl
kind_read Directory false = refl
kind_read Directory true = refl
kind_read Link false = refl
kind_read Link true = refl

pub kind_again : (attr : Attr) → kind_in (kind_word attr) ≡ Some attr
unfolding kind_word
kind_again attr = kind_read attr.kind attr.incomplete

-- ---- what stands in the parts of a block

-- digits are neither colon nor comma
upper_colon : (b : ℕ) → is_upper_digit b ≡ true → is_colon b ≡ false
upper_colon b is = grind (arith, nat_tests)

upper_comma : (b : ℕ) → is_upper_digit b ≡ true → is_comma b ≡ false
upper_comma b is = grind (arith, nat_tests)

digit_colon : (b : ℕ) → 48 ≤ b → b ≤ 57 → is_colon b ≡ false
digit_colon b low high = ne_eqb b 58 (λ is. omega (arith, is, high))

digit_comma : (b : ℕ) → 48 ≤ b → b ≤ 57 → is_comma b ≡ false
digit_comma b low high = ne_eqb b 44 (λ is. omega (arith, is, low))

glyph_colon : (d : ℕ) → d < 16 → is_colon (digit_glyph true d) ≡ false
glyph_colon d small = grind (arith, nat_tests)

glyph_comma : (d : ℕ) → d < 16 → is_comma (digit_glyph true d) ≡ false
glyph_comma d small = grind (arith, nat_tests)

no_colon : PassesNoEscape is_colon
no_colon = record { percent = refl; glyph = glyph_colon }

no_comma : PassesNoEscape is_comma
no_comma = record { percent = refl; glyph = glyph_comma }

plain_colon : (b : ℕ) → is_coded b ≡ false → parts_fields b ≡ false → is_colon b ≡ false
plain_colon b coded parts = grind (arith, nat_tests)

plain_comma : (b : ℕ) → is_coded b ≡ false → parts_fields b ≡ false → is_comma b ≡ false
plain_comma b coded parts = grind (arith, nat_tests)

field_colon : (text : List ℕ) → list_any is_colon (field text) ≡ false
field_colon text = field_free is_colon no_colon refl plain_colon text

pub field_comma : (text : List ℕ) → list_any is_comma (field text) ≡ false
field_comma text = field_free is_comma no_comma refl plain_comma text

store_colon : (endpoint : Endpoint) → list_any is_colon (store_field endpoint) ≡ false
store_colon Local = refl
store_colon (Address address) = field_colon address

store_comma : (endpoint : Endpoint) → list_any is_comma (store_field endpoint) ≡ false
store_comma Local = refl
store_comma (Address address) = field_comma address

store_visible : (endpoint : Endpoint) → list_any is_blank (store_field endpoint) ≡ false
store_visible Local = refl
store_visible (Address address) = field_visible address

-- ---- a block is read again

-- a block of the program, with a reference of bytes
abbrev pub IsTaken : Block → Type 0
IsTaken b = (IsBlock b × HasAddress b.location.endpoint) × AllByRecursion IsByte b.location.reference

abbrev store_in : List ℕ → Option Endpoint
store_in word = if is_no_list word then Some Local else option_map (λ address. Address address) (decoded word)

some_same : {x y : List ℕ} → Some x ≡ Some y → x ≡ y
some_same is = cc

-- the field of a text that is not empty is not `-`
pub field_no_dash : (text : List ℕ) → 0 < length text → field text ≢ 45 ∷ []
field_no_dash text some is =
    let none : text ≡ [] = some_same (sym (decoded-field text) ∙ ap decoded is ∙ decoded-dash_word) in
    omega (arith, some, ap length none)

store_again : (endpoint : Endpoint) → HasAddress endpoint → store_in (store_field endpoint) ≡ Some endpoint
store_again Local has = refl
store_again (Address address) has =
    ap (λ none. cond none (Some Local) (option_map (λ text. Address text) (decoded (field address)))) (no-dash_from (field address) (field_no_dash address has))
    ∙ ap (option_map (λ text. Address text)) (decoded-field address)

-- the fields of a block
abbrev block_parts : Block → List (List ℕ)
block_parts b = text_of b.location.reference ∷ decimal b.offset ∷ decimal b.size ∷ store_field b.location.endpoint ∷ field b.packdata ∷ []

abbrev parts_in : List (List ℕ) → Option Block
parts_in (reference ∷ offset ∷ size ∷ store ∷ packdata ∷ []) = do
  named ← reference_in reference
  begin ← num_of offset
  bytes ← num_of size
  endpoint ← store_in store
  written ← decoded packdata
  Some (record { location = record { endpoint = endpoint; reference = named }; offset = begin; size = bytes; packdata = written })
parts_in _ = None

abbrev block_in : List ℕ → Option Block
block_in word = parts_in (slice_split is_colon word)

parts_again : (b : Block) → IsTaken b → parts_in (block_parts b) ≡ Some b
parts_again b is =
    let named = reference_again b.location.reference is.0.0.reference is.1 in
    let begin = num-every (decimal b.offset) b.offset is.0.0.offset refl in
    let bytes = num-every (decimal b.size) b.size is.0.0.size refl in
    let store = store_again b.location.endpoint is.0.1 in
    rw (named, begin, bytes, store, decoded-field b.packdata) refl

parts_free : (p : ℕ → Bool) → ((b : ℕ) → is_upper_digit b ≡ true → p b ≡ false) → ((b : ℕ) → 48 ≤ b → b ≤ 57 → p b ≡ false) → ((endpoint : Endpoint) → list_any p (store_field endpoint) ≡ false) → ((text : List ℕ) → list_any p (field text) ≡ false) → (b : Block) → IsBlock b → AllByRecursion IsByte b.location.reference → AllByRecursion (λ part. list_any p part ≡ false) (block_parts b)
parts_free p upper digit store text b is bytes =
    (reference_free p upper b.location.reference is.reference bytes, (decimal_free p digit b.offset is.offset, (decimal_free p digit b.size is.size, (store b.location.endpoint, (text b.packdata, tt)))))

parts_split : (b : Block) → IsTaken b → slice_split is_colon (block_word b) ≡ block_parts b
unfolding block_word
parts_split b is =
    let free = parts_free is_colon upper_colon digit_colon store_colon field_colon b is.0.0 is.1 in
    split_joined is_colon 58 refl (λ part. part) (text_of b.location.reference) (decimal b.offset ∷ decimal b.size ∷ store_field b.location.endpoint ∷ field b.packdata ∷ []) free.0 (λ part. list_any is_colon part ≡ false) (λ part none. none) free.1

block_again : (b : Block) → IsTaken b → block_in (block_word b) ≡ Some b
block_again b is = ap parts_in (parts_split b is) ∙ parts_again b is

block_comma : (b : Block) → IsTaken b → list_any is_comma (block_word b) ≡ false
unfolding block_word
block_comma b is =
    join_free is_comma 58 refl (λ part. part) (block_parts b) (parts_free is_comma upper_comma digit_comma store_comma field_comma b is.0.0 is.1)

none_not_some : {A : Type 0} {b : Block} → None ≡ Some b → A
none_not_some is = absurd (true≢false (sym (ap is_there is))) where
  is_there : Option Block → Bool
  is_there None = false
  is_there (Some b) = true

block_no_dash : (b : Block) → IsTaken b → block_word b ≢ 45 ∷ []
block_no_dash b is same = none_not_some (ap block_in (sym same) ∙ block_again b is)

-- the blocks of a word
abbrev pub blocks_in : List ℕ → Option (List Block)
blocks_in = list_in block_in

pub blocks_again : (blocks : List Block) → AllByRecursion IsTaken blocks → blocks_in (blocks_word blocks) ≡ Some blocks
unfolding blocks_word
blocks_again [] all = refl
blocks_again (b ∷ bs) all =
    list_again block_in (λ b. block_word b) (λ b. b) IsTaken block_again block_comma block_no_dash b bs all
    ∙ ap Some (map_same (b ∷ bs))

-- ---- the paths of an entry are read again

abbrev path_in : List ℕ → Option PathName
path_in word = do
  text ← decoded word
  result_ok (path_of text)

path_again : (path : PathName) → IsCanonical path → path_in (coded (canonical path)) ≡ Some path
path_again path is =
    ap (λ found. found >>= λ text. result_ok (path_of text)) (decoded-coded (canonical path)) ∙ ap result_ok is

-- the path that a text names, none for no text
abbrev target_of : List ℕ → Option (Option PathName)
target_of [] = Some None
target_of (b ∷ bs) = option_map (λ path. Some path) (result_ok (path_of (b ∷ bs)))

abbrev target_in : List ℕ → Option (Option PathName)
target_in word = do
  text ← decoded word
  target_of text

-- a text that is not empty
target_named : (text : List ℕ) (path : PathName) → 0 < length text → path_of text ≡ Ok path → target_of text ≡ Some (Some path)
target_named [] path some is = absurd (omega (arith, some))
target_named (b ∷ bs) path some is = ap (λ found. option_map (λ path. Some path) (result_ok found)) is

pub some_marked : (front : List ℕ) (mark : ℕ) (back : List ℕ) → 0 < length (front ++ mark ∷ back)
some_marked [] mark back = omega arith
some_marked (b ∷ bs) mark back = omega arith

target_again : (link : Option PathName) → IsTarget link → target_in (coded (link_text link)) ≡ Some link
target_again None is = ap (λ found. found >>= λ text. target_of text) (decoded-coded [])
target_again (Some path) is =
    ap (λ found. found >>= λ text. target_of text) (decoded-coded (canonical path))
    ∙ target_named (canonical path) path (some_marked path.owner 47 _) is

-- the signed name, `=` for the name
abbrev signed_in : PathName → List ℕ → Option PathName
signed_in name word = if bytes_eq word (codes "=") then Some name else path_in word

-- a canonical path has a slash, so it is not `=`
slash_not_equals : (front back : List ℕ) → front ++ 47 ∷ back ≢ 61 ∷ []
slash_not_equals [] back is = absurd (true≢false (ap (λ bytes. bytes_eq bytes (61 ∷ [])) (sym is)))
slash_not_equals (b ∷ []) back is = absurd (omega (arith, ap length is))
slash_not_equals (b ∷ c ∷ more) back is = absurd (omega (arith, ap length is))

decoded-equals : decoded (codes "=") ≡ Some (codes "=")
unfolding decoded decoded_bytes
decoded-equals = refl

no-equals : (word : List ℕ) → word ≢ codes "=" → bytes_eq word (codes "=") ≡ false
no-equals word other = failed _ (λ same. other ((bytes_eq-Decides word (codes "=")).0 same))

signed_by : (e : Entry) (same : Bool) → path_eq e.signed_name e.name ≡ same → IsCanonical e.signed_name → signed_in e.name (cond same (codes "=") (coded (canonical e.signed_name))) ≡ Some e.signed_name
signed_by e true is canonical_one = ap Some (sym ((path_eq-Decides e.signed_name e.name).0 is))
signed_by e false is canonical_one =
    let text = canonical e.signed_name in
    let other : coded text ≢ codes "=" = λ same. slash_not_equals e.signed_name.owner _ (some_same (sym (decoded-coded text) ∙ ap decoded same ∙ decoded-equals)) in
    ap (λ test. cond test (Some e.name) (path_in (coded text))) (no-equals (coded text) other) ∙ path_again e.signed_name canonical_one

signed_again : (e : Entry) → IsCanonical e.signed_name → signed_in e.name (signed_word e) ≡ Some e.signed_name
unfolding signed_word
signed_again e is = signed_by e (path_eq e.signed_name e.name) refl is

-- ---- an entry is read again

abbrev pub entry_in : List (List ℕ) → Option Entry
entry_in (name ∷ kind ∷ sequence ∷ time ∷ writer ∷ packing ∷ packdata ∷ link ∷ signed ∷ blocks ∷ []) = do
  path ← path_in name
  attr ← kind_in kind
  position ← num_of sequence
  seconds ← int_of time
  user ← decoded writer
  packed ← num_of packing
  written ← decoded packdata
  target ← target_in link
  signed_name ← signed_in path signed
  list ← blocks_in blocks
  Some (record {
    signed_name = signed_name;
    packing = packed;
    time = seconds;
    blocks = list;
    packdata = written;
    link = target;
    writer = user;
    name = path;
    attr = attr;
    sequence = position;
  })
entry_in _ = None

pub blocks_taken : (e : Entry) → IsEntry e → IsSpelled e → AreOfBytes e → AllByRecursion IsTaken e.blocks
blocks_taken e is spelled bytes = all_both _ _ e.blocks (all_both _ _ e.blocks is.blocks.1 spelled.addresses) bytes

pub entry_again : (e : Entry) → IsEntry e → IsSpelled e → AreOfBytes e → entry_in (entry_words e) ≡ Some e
unfolding entry_words
entry_again e is spelled bytes =
    let packing : e.packing < 2 ^ 64 = omega (arith, is.packing) in
    rw (
      path_again e.name is.name,
      kind_again e.attr,
      num-every (decimal e.sequence) e.sequence is.sequence refl,
      int-every (signed_decimal e.time) e.time (fits-from e.time is.time) refl,
      decoded-coded e.writer,
      num-every (decimal e.packing) e.packing packing refl,
      decoded-coded e.packdata,
      target_again e.link is.link,
      signed_again e is.signed_name,
      blocks_again e.blocks (blocks_taken e is spelled bytes),
    ) refl

-- ---- its words are words

blank_parts : (b : Block) → IsBlock b → AllByRecursion IsByte b.location.reference → AllByRecursion (λ part. list_any is_blank part ≡ false) (block_parts b)
blank_parts b is bytes =
    (reference_visible b.location.reference is.reference bytes, (decimal_visible b.offset is.offset, (decimal_visible b.size is.size, (store_visible b.location.endpoint, (field_visible b.packdata, tt)))))

block_is_word : (b : Block) → IsBlock b × AllByRecursion IsByte b.location.reference → IsWord (block_word b)
unfolding block_word
block_is_word b is = (
  some_front (text_of b.location.reference) _ (reference_word b.location.reference is.0.reference is.1).0,
  join_free is_blank 58 refl (λ part. part) (block_parts b) (blank_parts b is.0 is.1),
)

blocks_are_word : (blocks : List Block) → AllByRecursion (λ b. IsBlock b × AllByRecursion IsByte b.location.reference) blocks → IsWord (blocks_word blocks)
unfolding blocks_word
blocks_are_word [] all = literal_word (codes "-") refl refl
blocks_are_word (b ∷ bs) all = (
  some_front (block_word b) _ (block_is_word b all.0).0,
  join_free is_blank 44 refl (λ b. block_word b) (b ∷ bs) (all_weaker _ _ (λ b is. (block_is_word b is).1) (b ∷ bs) all),
)

kind_is_word : (kind : Kind) (incomplete : Bool) → IsWord (plain_kind kind ++ mark incomplete)
kind_is_word File false = literal_word (codes "file") refl refl
kind_is_word File true = literal_word (codes "file?") refl refl
kind_is_word Directory false = literal_word (codes "dir") refl refl
kind_is_word Directory true = literal_word (codes "dir?") refl refl
kind_is_word Link false = literal_word (codes "link") refl refl
kind_is_word Link true = literal_word (codes "link?") refl refl

attr_is_word : (attr : Attr) → IsWord (kind_word attr)
unfolding kind_word
attr_is_word attr = kind_is_word attr.kind attr.incomplete

signed_is_word : (e : Entry) → IsWord (signed_word e)
unfolding signed_word
signed_is_word e = by_kind (path_eq e.signed_name e.name) where
  by_kind : (same : Bool) → IsWord (cond same (codes "=") (coded (canonical e.signed_name)))
  by_kind true = literal_word (codes "=") refl refl
  by_kind false = coded_word (canonical e.signed_name)

pub entry_is_words : (e : Entry) → IsEntry e → AreOfBytes e → AllByRecursion IsWord (entry_words e)
unfolding entry_words
entry_is_words e is bytes =
    let packing : e.packing < 2 ^ 64 = omega (arith, is.packing) in
    (coded_word (canonical e.name), (attr_is_word e.attr, (decimal_word e.sequence is.sequence, (int_word e.time is.time, (coded_word e.writer, (decimal_word e.packing packing, (coded_word e.packdata, (coded_word (link_text e.link), (signed_is_word e, (blocks_are_word e.blocks (all_both _ _ e.blocks is.blocks.1 bytes), tt))))))))))
