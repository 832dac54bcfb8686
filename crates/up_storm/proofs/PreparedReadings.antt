-- What the texts that prepare a storm's trees are read as, and how long they are.
use Rattle.std.proofs.Common.{◌≡◌, ℕ, ◌+◌, ◌%◌, ◌<◌, ◌≤◌, Bool, true, false, not, ◌&&◌, [], ◌∷◌, ◌++◌, length, refl, sym, ap, ◌∙◌, arith, append_assoc, length-append, Some, Ok, codes, bytes_eq, slice_get}
use Rattle.std.specs.Prelude.{if◌then◌else◌, ◌==◌, decimal, nat_le}
use Rattle.std.specs.Fmt.{digits}
use Rattle.std.specs.Str.{chars, is_utf8}
use lib.Utf8.{encode}
use Rattle.std.proofs.lemmas.Bool.{and_from, and_parts, false≢true, leb-true}
use Rattle.std.proofs.lemmas.Bool.Decides.{nat_tests}
use Rattle.std.proofs.lemmas.Slice.Eq.{bytes_eq-Decides}
use Rattle.up_entry.specs.Rules.{block_fits, blocks_fit, control_size_fits}
use Rattle.up_entry.specs.declared.entries.Kind.TheVariants.{File}
use Rattle.up_log_tree.proofs.Paths.{path_apart, some_same}
use Rattle.up_log_tree.specs.Fits.{root_of}
use Rattle.up_log_tree.specs.Rights.{access_path}
use Rattle.up_names.proofs.PathLaws.{proper-canonical}
use Rattle.up_names.specs.PathNames.{PathName, canonical, control_of, is_element, is_name, path_of}
use Rattle.up_names.specs.PathOrder.{path_eq}
use Rattle.up_names.specs.Texts.{Text, UserName}
use Rattle.up_names.specs.declared.paths.Control.TheVariants as control
use Rattle.up_plots.specs.Plots.{file_path, plot_path}
use Rattle.up_storm.proofs.Readings.{all_below, below_holds, decimal_short, not_true, owner_read}
use Rattle.up_storm.specs.Asked.{access_text, directory_text, owner_text}
use Rattle.up_storm.specs.Preparing.{whole_block}

-- ---- the owners

-- what holds of both owners holds of that of each session
pub of_owners : (P : Text → Type 0) → P (codes "a@storm.example") → P (codes "b@storm.example") → (k : ℕ) → P (owner_text k)
of_owners P one two k = go (k % 2 == 0)
  where
    go : (b : Bool) → P (if b then codes "a@storm.example" else codes "b@storm.example")
    go true = one
    go false = two

-- an owner's name has 15 bytes
pub owner_length : (k : ℕ) → length (owner_text k) ≡ 15
owner_length k = of_owners (λ (t : Text). length t ≡ 15) refl refl k

-- a number that is not even is odd
pub odd_is : (n : ℕ) → (n % 2 == 0) ≡ false → n % 2 ≡ 1
odd_is n h = grind (arith, nat_tests)

-- and a number that is even has no rest
pub even_is : (n : ℕ) → (n % 2 == 0) ≡ true → n % 2 ≡ 0
even_is n h = grind (arith, nat_tests)

-- the first byte of an owner's name tells which it is
first_byte : (k : ℕ) → slice_get (owner_text k) 0 ≡ Some (97 + k % 2)
first_byte k = go (k % 2 == 0) refl
  where
    go : (b : Bool) → (k % 2 == 0) ≡ b → slice_get (if b then codes "a@storm.example" else codes "b@storm.example") 0 ≡ Some (97 + k % 2)
    go true h = let even = even_is k h in let e : ◌≡◌ {A = ℕ} 97 (97 + k % 2) = omega (arith, even) in ap (λ (n : ℕ). Some n) e
    go false h = let odd = odd_is k h in let e : ◌≡◌ {A = ℕ} 98 (97 + k % 2) = omega (arith, odd) in ap (λ (n : ℕ). Some n) e

-- sessions of one tree have one owner, and of two trees two
pub owners_apart : (c k : ℕ) → (c % 2 ≡ k % 2 → ⊥) → owner_text c ≡ owner_text k → ⊥
owners_apart c k apart same =
    let sums : 97 + c % 2 ≡ 97 + k % 2 = some_same (97 + c % 2) (97 + k % 2) (sym (first_byte c) ∙ ap (λ (t : Text). slice_get t 0) same ∙ first_byte k) in
    apart (omega (arith, sums))

-- ---- the root

-- the root of an owner's tree
pub root_read : (k : ℕ) → path_of (owner_text k ++ codes "/") ≡ Ok (root_of (owner_text k))
root_read k = proper-canonical (root_of (owner_text k)) (record {
  owner = owner_read k;
  names = refl;
  short = (let a = length-append (owner_text k) (codes "/") in let b = owner_length k in let c : length (codes "/") ≡ 1 = refl in
      let whole : length (owner_text k ++ codes "/") ≤ 4096 = omega (arith, a, b, c) in whole);
})

-- its name is short
pub root_short : (k : ℕ) → length (canonical (root_of (owner_text k))) ≤ 32
root_short k =
    let a = length-append (owner_text k) (codes "/") in
    let b = owner_length k in
    let c : length (codes "/") ≡ 1 = refl in
    let whole : length (owner_text k ++ codes "/") ≤ 32 = omega (arith, a, b, c) in
    whole

-- ---- directories

-- a directory's name is short
pub plot_short : (k : ℕ) → k < 34 → length (canonical (plot_path (owner_text k) (decimal k))) ≤ 32
plot_short k less =
    let a = length-append (owner_text k) (47 ∷ decimal k) in
    let b = owner_length k in
    let c = decimal_short k less in
    let d : length (47 ∷ decimal k) ≡ length (decimal k) + 1 = omega arith in
    let whole : length (owner_text k ++ 47 ∷ decimal k) ≤ 32 = omega (arith, a, b, c, d) in
    whole

-- no number of a session is spelled as an Access file's name
numbers_no_access : all_below (λ k. not (bytes_eq (decimal k) (codes "Access"))) 34 ≡ true
unfolding digits
numbers_no_access = refl

-- no session's directory is named as an Access file
pub plot_no_access : (owner : UserName) (k : ℕ) → k < 34 → path_eq (access_path (root_of owner)) (plot_path owner (decimal k)) ≡ false
plot_no_access owner k less =
    path_apart (access_path (root_of owner)) (plot_path owner (decimal k))
    (λ same. false≢true (sym (not_true (bytes_eq (decimal k) (codes "Access")) (below_holds (λ i. not (bytes_eq (decimal i) (codes "Access"))) 34 k numbers_no_access less))
    ∙ (bytes_eq-Decides (decimal k) (codes "Access")).1 (sym (some_same (codes "Access") (decimal k) (ap (λ (p : PathName). slice_get p.elements 0) same)))))

-- ---- Access files

-- what an Access path is
pub access_control : (owner : UserName) (name : Text) → control_of (file_path owner name (codes "Access")) ≡ control.Access
access_control owner name = refl

-- each is a name
numbers_named : all_below (λ k. is_name (decimal k)) 34 ≡ true
unfolding digits is_element is_utf8 chars encode
numbers_named = refl

-- and so is an Access file's
access_named : (is_name (codes "Access") && true) ≡ true
unfolding is_element is_utf8 chars encode
access_named = refl

module _ (k : ℕ) (less : k < 34) where
  -- the text of a session's Access path is short
  access_long : length (owner_text k ++ 47 ∷ (decimal k ++ 47 ∷ codes "Access")) ≤ 32
  access_long =
      let a = length-append (owner_text k) (47 ∷ (decimal k ++ 47 ∷ codes "Access")) in
      let b = length-append (decimal k) (47 ∷ codes "Access") in
      let c = owner_length k in
      let d = decimal_short k less in
      let e : length (47 ∷ (decimal k ++ 47 ∷ codes "Access")) ≡ length (decimal k ++ 47 ∷ codes "Access") + 1 = omega arith in
      let f : length (47 ∷ codes "Access") ≡ 7 = refl in
      omega (arith, a, b, c, d, e, f)

  -- an Access file's name is short
  pub access_short : length (canonical (file_path (owner_text k) (decimal k) (codes "Access"))) ≤ 32
  access_short = access_long

  -- the path of a session's Access file
  pub access_path_read : path_of (directory_text k ++ codes "/Access") ≡ Ok (file_path (owner_text k) (decimal k) (codes "Access"))
  access_path_read =
      ap path_of (append_assoc (owner_text k) (47 ∷ decimal k) (47 ∷ codes "Access"))
      ∙ proper-canonical (file_path (owner_text k) (decimal k) (codes "Access")) (record {
        owner = owner_read k;
        names = and_from (is_name (decimal k)) (is_name (codes "Access") && true) (below_holds (λ i. is_name (decimal i)) 34 k numbers_named less) access_named;
        short = (let short = access_long in omega (arith, short));
      })

-- ---- their texts

-- the bounds of all 32 texts, by what they are
texts_short : all_below (λ k. nat_le 1 (length (access_text k)) && nat_le (length (access_text k)) 32) 32 ≡ true
unfolding digits
texts_short = refl

module _ (k : ℕ) (less : k < 32) where
  -- the text of a session's Access file is not empty, and short
  text_bounds : (nat_le 1 (length (access_text k)) ≡ true) × (nat_le (length (access_text k)) 32 ≡ true)
  text_bounds = and_parts (nat_le 1 (length (access_text k))) (nat_le (length (access_text k)) 32) (below_holds (λ i. nat_le 1 (length (access_text i)) && nat_le (length (access_text i)) 32) 32 k texts_short less)

  -- it is not empty
  pub text_some : 1 ≤ length (access_text k)
  text_some = leb-true 1 (length (access_text k)) text_bounds.0

  -- it has at most 32 bytes
  pub text_short : length (access_text k) ≤ 32
  text_short = leb-true (length (access_text k)) 32 text_bounds.1

  -- its block is one that an entry may have
  pub text_fits : blocks_fit File (whole_block (access_text k) ∷ []) ≡ true
  unfolding block_fits
  text_fits =
      let size : ℕ = length (access_text k) in
      and_from (block_fits (whole_block (access_text k)) && true) true
      (and_from (block_fits (whole_block (access_text k))) true
      (and_from (nat_le 1 size && nat_le size 1048576) true
      (and_from (nat_le 1 size) (nat_le size 1048576) (le_true 1 size text_some) (le_true size 1048576 (let short = text_short in omega (arith, short)))) refl) refl) refl
    where
      le_true : (a b : ℕ) → a ≤ b → nat_le a b ≡ true
      le_true a b h = grind (arith, nat_tests)

  -- and is no larger than a control file may be
  pub text_small : (owner : UserName) (name : Text) → control_size_fits File (file_path owner name (codes "Access")) (whole_block (access_text k) ∷ []) ≡ true
  text_small owner name = le_true (0 + length (access_text k)) 32768 (let short = text_short in omega (arith, short))
    where
      le_true : (a b : ℕ) → a ≤ b → nat_le a b ≡ true
      le_true a b h = grind (arith, nat_tests)
