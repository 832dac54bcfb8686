-- `==` on requests decides whether they are one request.
use Rattle.std.proofs.Common.{◌≡◌, ◌≢◌, true, false, true≢false, Bool, ◌&&◌, List, ℕ, ◌==◌, ℤ, sym, refl, subst, ap, ◌∙◌}
use Rattle.std.specs.Bool.{Decides}
use Rattle.std.proofs.lemmas.Bool.Decides.{Decides-eqb, Decides-int_eq}
use Rattle.std.proofs.lemmas.Slice.Eq.{bytes_eq-Decides, slice_eq-Decides}
use Rattle.std.specs.Ordering.{int_eq}
use Rattle.std.specs.Str.{bytes_eq}
use lib.Pointwise.{pointwise}
use Rattle.up_entry.specs.declared.entries.Block.{Block}
use Rattle.up_entry.specs.declared.entries.Endpoint.{Endpoint}
use Rattle.up_entry.specs.declared.entries.Endpoint.TheVariants.{Local, Address}
use Rattle.up_entry.specs.declared.entries.Location.{Location}
use Rattle.up_entry.specs.declared.puts.PutEntry.{PutEntry}
use Rattle.up_wire.specs.declared.keys.KeyCard.{KeyCard}
use Rattle.up_wire.specs.declared.requests.Request.{Request}
use Rattle.up_wire.specs.declared.requests.Request.TheVariants.{Lookup, Put, Delete, Glob, WhichAccess, Watch, GroupText, Get, StorePut, StoreDelete, KeyLookup, KeyPut}
use Rattle.up_entry.specs.contracts.entries.BlockPartialEq.TheImpl as blocks
use Rattle.up_entry.specs.contracts.entries.EndpointPartialEq.TheImpl as endpoints
use Rattle.up_entry.specs.contracts.entries.LocationPartialEq.TheImpl as locations
use Rattle.up_entry.specs.contracts.puts.PutEntryPartialEq.TheImpl as puts
use Rattle.up_wire.specs.contracts.keys.KeyCardPartialEq.TheImpl as cards
use Rattle.up_wire.specs.contracts.requests.RequestPartialEq.TheImpl as requests

-- two tests decide both
both : {P Q : Type 0} (p q : Bool) → Decides p P → Decides q Q → Decides (p && q) (P × Q)
both true q one two = (λ h. (one.0 refl, two.0 h), λ h. two.1 h.1)
both false q one two = (λ h. absurd (cc), λ h. one.1 h.0)

-- a test decides what is the same
via : {P Q : Type 0} (b : Bool) → Decides b P → (P → Q) → (Q → P) → Decides b Q
via b test to from = (λ h. to (test.0 h), λ h. test.1 (from h))

endpoint_Decides : (a b : Endpoint) → Decides (endpoints.ghosts.eq a b) (a ≡ b)
endpoint_Decides Local Local = (λ h. refl, λ h. refl)
endpoint_Decides Local (Address y) = (λ h. cc, λ h. cc)
endpoint_Decides (Address x) Local = (λ h. cc, λ h. cc)
endpoint_Decides (Address x) (Address y) = (λ h. ap Address ((bytes_eq-Decides x y).0 h), λ h. (bytes_eq-Decides x y).1 (cc))

location_Decides : (a b : Location) → Decides (locations.ghosts.eq a b) (a ≡ b)
location_Decides a b =
    via (locations.ghosts.eq a b)
    (both (endpoints.ghosts.eq a.endpoint b.endpoint) (bytes_eq a.reference b.reference) (endpoint_Decides a.endpoint b.endpoint) (bytes_eq-Decides a.reference b.reference))
    (λ h j. record { endpoint = h.0 j; reference = h.1 j }) (λ e. ((λ j. (e j).endpoint), (λ j. (e j).reference)))

block_Decides : (a b : Block) → Decides (blocks.ghosts.eq a b) (a ≡ b)
block_Decides a b =
    via (blocks.ghosts.eq a b)
    (both (locations.ghosts.eq a.location b.location) _ (location_Decides a.location b.location)
    (both (a.offset == b.offset) _ (Decides-eqb a.offset b.offset)
    (both (a.size == b.size) (bytes_eq a.packdata b.packdata) (Decides-eqb a.size b.size) (bytes_eq-Decides a.packdata b.packdata))))
    (λ h j. record { location = h.0 j; offset = h.1.0 j; size = h.1.1.0 j; packdata = h.1.1.1 j })
    (λ e. ((λ j. (e j).location), ((λ j. (e j).offset), ((λ j. (e j).size), (λ j. (e j).packdata)))))

block_list_Decides : (xs ys : List Block) → Decides (pointwise blocks.ghosts.eq xs ys) (xs ≡ ys)
block_list_Decides xs ys = slice_eq-Decides {E = blocks.ghosts.eq} block_Decides xs ys (pointwise blocks.ghosts.eq xs ys) refl

endpoint_list_Decides : (xs ys : List Endpoint) → Decides (pointwise endpoints.ghosts.eq xs ys) (xs ≡ ys)
endpoint_list_Decides xs ys = slice_eq-Decides {E = endpoints.ghosts.eq} endpoint_Decides xs ys (pointwise endpoints.ghosts.eq xs ys) refl

put_Decides : (a b : PutEntry) → Decides (puts.ghosts.eq a b) (a ≡ b)
put_Decides a b =
    via (puts.ghosts.eq a b)
    (both (bytes_eq a.signed_name b.signed_name) _ (bytes_eq-Decides a.signed_name b.signed_name)
    (both (a.packing == b.packing) _ (Decides-eqb a.packing b.packing)
    (both (int_eq a.time b.time) _ (Decides-int_eq a.time b.time)
    (both (pointwise blocks.ghosts.eq a.blocks b.blocks) _ (block_list_Decides a.blocks b.blocks)
    (both (bytes_eq a.packdata b.packdata) _ (bytes_eq-Decides a.packdata b.packdata)
    (both (bytes_eq a.link b.link) _ (bytes_eq-Decides a.link b.link)
    (both (bytes_eq a.writer b.writer) _ (bytes_eq-Decides a.writer b.writer)
    (both (bytes_eq a.name b.name) _ (bytes_eq-Decides a.name b.name)
    (both (a.attr == b.attr) (int_eq a.sequence b.sequence) (Decides-eqb a.attr b.attr) (Decides-int_eq a.sequence b.sequence))))))))))
    (λ h j. record {
      signed_name = h.0 j;
      packing = h.1.0 j;
      time = h.1.1.0 j;
      blocks = h.1.1.1.0 j;
      packdata = h.1.1.1.1.0 j;
      link = h.1.1.1.1.1.0 j;
      writer = h.1.1.1.1.1.1.0 j;
      name = h.1.1.1.1.1.1.1.0 j;
      attr = h.1.1.1.1.1.1.1.1.0 j;
      sequence = h.1.1.1.1.1.1.1.1.1 j;
    })
    (λ e. (
      (λ j. (e j).signed_name),
      (
        (λ j. (e j).packing),
        (
          (λ j. (e j).time),
          (
            (λ j. (e j).blocks),
            (
              (λ j. (e j).packdata),
              ((λ j. (e j).link), ((λ j. (e j).writer), ((λ j. (e j).name), ((λ j. (e j).attr), (λ j. (e j).sequence))))),
            ),
          ),
        ),
      ),
    ))

card_Decides : (a b : KeyCard) → Decides (cards.ghosts.eq a b) (a ≡ b)
card_Decides a b =
    via (cards.ghosts.eq a b)
    (both (bytes_eq a.user b.user) _ (bytes_eq-Decides a.user b.user)
    (both (pointwise endpoints.ghosts.eq a.dirs b.dirs) _ (endpoint_list_Decides a.dirs b.dirs)
    (both (pointwise endpoints.ghosts.eq a.stores b.stores) (bytes_eq a.key b.key) (endpoint_list_Decides a.stores b.stores) (bytes_eq-Decides a.key b.key))))
    (λ h j. record { user = h.0 j; dirs = h.1.0 j; stores = h.1.1.0 j; key = h.1.1.1 j })
    (λ e. ((λ j. (e j).user), ((λ j. (e j).dirs), ((λ j. (e j).stores), (λ j. (e j).key)))))

watch_Decides : (x y : List ℕ) (i k : ℤ) → Decides (bytes_eq x y && int_eq i k) ((x ≡ y) × (i ≡ k))
watch_Decides x y i k = both (bytes_eq x y) (int_eq i k) (bytes_eq-Decides x y) (Decides-int_eq i k)

-- requests of which `==` tells that they are one are one
lookup_is : (x : List ℕ) (b : Request) → requests.ghosts.eq (Lookup x) b ≡ true → Lookup x ≡ b
lookup_is x (Lookup y) h = ap Lookup ((bytes_eq-Decides x y).0 h)
lookup_is x b h = absurd (true≢false (sym h))

put_is : (x : PutEntry) (b : Request) → requests.ghosts.eq (Put x) b ≡ true → Put x ≡ b
put_is x (Put y) h = ap Put ((put_Decides x y).0 h)
put_is x b h = absurd (true≢false (sym h))

delete_is : (x : List ℕ) (b : Request) → requests.ghosts.eq (Delete x) b ≡ true → Delete x ≡ b
delete_is x (Delete y) h = ap Delete ((bytes_eq-Decides x y).0 h)
delete_is x b h = absurd (true≢false (sym h))

glob_is : (x : List ℕ) (b : Request) → requests.ghosts.eq (Glob x) b ≡ true → Glob x ≡ b
glob_is x (Glob y) h = ap Glob ((bytes_eq-Decides x y).0 h)
glob_is x b h = absurd (true≢false (sym h))

which_is : (x : List ℕ) (b : Request) → requests.ghosts.eq (WhichAccess x) b ≡ true → WhichAccess x ≡ b
which_is x (WhichAccess y) h = ap WhichAccess ((bytes_eq-Decides x y).0 h)
which_is x b h = absurd (true≢false (sym h))

watch_is : (x : List ℕ) (i : ℤ) (b : Request) → requests.ghosts.eq (Watch x i) b ≡ true → Watch x i ≡ b
watch_is x i (Watch y k) h = let is = (watch_Decides x y i k).0 h in (λ j. Watch (is.0 j) (is.1 j))
watch_is x i b h = absurd (true≢false (sym h))

group_is : (x : List ℕ) (b : Request) → requests.ghosts.eq (GroupText x) b ≡ true → GroupText x ≡ b
group_is x (GroupText y) h = ap GroupText ((bytes_eq-Decides x y).0 h)
group_is x b h = absurd (true≢false (sym h))

get_is : (x : List ℕ) (b : Request) → requests.ghosts.eq (Get x) b ≡ true → Get x ≡ b
get_is x (Get y) h = ap Get ((bytes_eq-Decides x y).0 h)
get_is x b h = absurd (true≢false (sym h))

store_put_is : (x : List ℕ) (b : Request) → requests.ghosts.eq (StorePut x) b ≡ true → StorePut x ≡ b
store_put_is x (StorePut y) h = ap StorePut ((bytes_eq-Decides x y).0 h)
store_put_is x b h = absurd (true≢false (sym h))

store_delete_is : (x : List ℕ) (b : Request) → requests.ghosts.eq (StoreDelete x) b ≡ true → StoreDelete x ≡ b
store_delete_is x (StoreDelete y) h = ap StoreDelete ((bytes_eq-Decides x y).0 h)
store_delete_is x b h = absurd (true≢false (sym h))

key_lookup_is : (x : List ℕ) (b : Request) → requests.ghosts.eq (KeyLookup x) b ≡ true → KeyLookup x ≡ b
key_lookup_is x (KeyLookup y) h = ap KeyLookup ((bytes_eq-Decides x y).0 h)
key_lookup_is x b h = absurd (true≢false (sym h))

key_put_is : (x : KeyCard) (b : Request) → requests.ghosts.eq (KeyPut x) b ≡ true → KeyPut x ≡ b
key_put_is x (KeyPut y) h = ap KeyPut ((card_Decides x y).0 h)
key_put_is x b h = absurd (true≢false (sym h))

request_is : (a b : Request) → requests.ghosts.eq a b ≡ true → a ≡ b
request_is (Lookup x) b h = lookup_is x b h
request_is (Put x) b h = put_is x b h
request_is (Delete x) b h = delete_is x b h
request_is (Glob x) b h = glob_is x b h
request_is (WhichAccess x) b h = which_is x b h
request_is (Watch x i) b h = watch_is x i b h
request_is (GroupText x) b h = group_is x b h
request_is (Get x) b h = get_is x b h
request_is (StorePut x) b h = store_put_is x b h
request_is (StoreDelete x) b h = store_delete_is x b h
request_is (KeyLookup x) b h = key_lookup_is x b h
request_is (KeyPut x) b h = key_put_is x b h

itself : (a : Request) → requests.ghosts.eq a a ≡ true
itself (Lookup x) = (bytes_eq-Decides x x).1 refl
itself (Put x) = (put_Decides x x).1 refl
itself (Delete x) = (bytes_eq-Decides x x).1 refl
itself (Glob x) = (bytes_eq-Decides x x).1 refl
itself (WhichAccess x) = (bytes_eq-Decides x x).1 refl
itself (Watch x i) = (watch_Decides x x i i).1 (refl, refl)
itself (GroupText x) = (bytes_eq-Decides x x).1 refl
itself (Get x) = (bytes_eq-Decides x x).1 refl
itself (StorePut x) = (bytes_eq-Decides x x).1 refl
itself (StoreDelete x) = (bytes_eq-Decides x x).1 refl
itself (KeyLookup x) = (bytes_eq-Decides x x).1 refl
itself (KeyPut x) = (card_Decides x x).1 refl

-- `==` told that they are one
pub one_request : (a b : Request) (told : Bool) → told ≡ requests.ghosts.eq a b → told ≡ true → a ≡ b
one_request a b told is was = request_is a b (sym is ∙ was)

-- it told that they are not
pub two_requests : (a b : Request) (told : Bool) → told ≡ requests.ghosts.eq a b → told ≡ false → a ≢ b
two_requests a b told is was same =
    true≢false (sym (subst (λ (r : Request). requests.ghosts.eq a r ≡ true) same (itself a)) ∙ (sym is ∙ was))
