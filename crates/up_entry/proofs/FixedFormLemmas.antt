-- The form of each entry of a tree: as a test, by its rules, and what its format asks for.
use Rattle.std.proofs.Common.{◌≡◌, true, List, [], ◌∷◌, length, Option, Some, None, refl, leb-true, eqb-true, arith}
use Rattle.std.specs.Prelude.{◌==◌, ◌↔◌, IsTrue}
use Rattle.std.specs.List.{list_all, AllByRecursion}
use Rattle.std.specs.Cmp.Derive.{both_true}
use Rattle.std.proofs.lemmas.Bool.{and_parts, not-true, not_from_false}
use Rattle.up_names.specs.PathNames.{PathName}
use Rattle.up_names.specs.PathOrderLaws.{path_eq-Decides}
use Rattle.up_entry.specs.declared.entries.Block.{Block}
use Rattle.up_entry.specs.declared.entries.Endpoint.{Endpoint}
use Rattle.up_entry.specs.declared.entries.Endpoint.TheVariants.{Local, Address}
use Rattle.up_entry.specs.declared.entries.Entry.{Entry}
use Rattle.up_entry.specs.declared.entries.Kind.{Kind}
use Rattle.up_entry.specs.declared.entries.Kind.TheVariants.{File, Directory, Link}
use Rattle.up_entry.specs.FixedForm.{has_fixed_form, link_fits, HasFixedForm}
use Rattle.up_entry.specs.Rules.{are_joined, block_fits, blocks_fit, endpoint_fits, is_address}
use Rattle.up_entry.specs.Spelling.{HasAddress, HasItsLink, IsSpelled}

-- ---- links

link_fits-true : (kind : Kind) (link : Option PathName) → link_fits kind link ≡ true → HasItsLink kind link
link_fits-true File None e = refl
link_fits-true File (Some target) e = absurd cc
link_fits-true Directory None e = refl
link_fits-true Directory (Some target) e = absurd cc
link_fits-true Link None e = absurd cc
link_fits-true Link (Some target) e = refl

link_fits-is : (kind : Kind) (link : Option PathName) → HasItsLink kind link → link_fits kind link ≡ true
link_fits-is File None e = refl
link_fits-is File (Some target) e = absurd cc
link_fits-is Directory None e = refl
link_fits-is Directory (Some target) e = absurd cc
link_fits-is Link None e = absurd cc
link_fits-is Link (Some target) e = refl

-- ---- the form

form_rules : (e : Entry) → has_fixed_form e ≡ true → HasFixedForm e
unfolding has_fixed_form
form_rules e all =
    let to_control = and_parts _ _ all in
    let to_root = and_parts _ _ to_control.0 in
    let to_packdata = and_parts _ _ to_root.0 in
    let to_blocks = and_parts _ _ to_packdata.0 in
    let to_link = and_parts _ _ to_blocks.0 in
    let to_mark = and_parts _ _ to_link.0 in
    let to_packing = and_parts _ _ to_mark.0 in
    let first = and_parts _ _ to_packing.0 in
    record {
      signed_name = (path_eq-Decides e.signed_name e.name).0 first.0;
      packing = first.1;
      whole = not-true e.attr.incomplete to_packing.1;
      link = link_fits-true e.attr.kind e.link to_mark.1;
      blocks = to_link.1;
      packdata = to_blocks.1;
      root = to_packdata.1;
      control = to_root.1;
      control_size = to_control.1;
    }

form_test : (e : Entry) → HasFixedForm e → has_fixed_form e ≡ true
unfolding has_fixed_form
form_test e form =
    let named = (path_eq-Decides e.signed_name e.name).1 form.signed_name in
    let packed = both_true named form.packing in
    let whole = both_true packed (not_from_false e.attr.incomplete form.whole) in
    let linked = both_true whole (link_fits-is e.attr.kind e.link form.link) in
    let content = both_true (both_true linked form.blocks) form.packdata in
    both_true (both_true (both_true content form.root) form.control) form.control_size

pub form_is_rules : (e : Entry) → IsTrue (has_fixed_form e) ↔ HasFixedForm e
form_is_rules e = (form_rules e, form_test e)

-- ---- what the format asks for

address_kept : (endpoint : Endpoint) → endpoint_fits endpoint ≡ true → HasAddress endpoint
unfolding is_address
address_kept Local e = tt
address_kept (Address address) e = leb-true 1 (length address) (and_parts _ _ (and_parts _ _ e).0).0

block_kept : (block : Block) → block_fits block ≡ true → HasAddress block.location.endpoint
unfolding block_fits
block_kept block e = address_kept block.location.endpoint (and_parts _ _ e).1

addresses_kept : (blocks : List Block) → list_all block_fits blocks ≡ true → AllByRecursion (λ b. HasAddress b.location.endpoint) blocks
addresses_kept [] e = tt
addresses_kept (block ∷ blocks) e = let parts = and_parts (block_fits block) (list_all block_fits blocks) e in (block_kept block parts.0, addresses_kept blocks parts.1)

no_addresses : (blocks : List Block) → (length blocks == 0) ≡ true → AllByRecursion (λ b. HasAddress b.location.endpoint) blocks
no_addresses [] e = tt
no_addresses (block ∷ blocks) e = absurd (omega (arith, eqb-true (length (block ∷ blocks)) 0 e))

blocks_kept : (kind : Kind) (blocks : List Block) → blocks_fit kind blocks ≡ true → AllByRecursion (λ b. HasAddress b.location.endpoint) blocks
blocks_kept File blocks e = addresses_kept blocks (and_parts (list_all block_fits blocks) (are_joined 0 blocks) e).0
blocks_kept Directory blocks e = no_addresses blocks e
blocks_kept Link blocks e = no_addresses blocks e

-- an entry of that form is one that its format can spell
pub form_spelled : (e : Entry) → HasFixedForm e → IsSpelled e
form_spelled e form = record { link = form.link; addresses = blocks_kept e.attr.kind e.blocks form.blocks }
