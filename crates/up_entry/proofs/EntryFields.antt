-- The fields of an entry that are read from a field's bytes: names, attributes, a link's target, an endpoint.
use Rattle.std.proofs.Common.{◌≡◌, ℕ, ◌<◌, Bool, true, false, cond, eqb, List, [], ◌∷◌, length, Some, None, Option, Result, Ok, Err, refl, sym, ap, subst, ◌∙◌, arith, bytes_eq}
use Rattle.std.specs.Prelude.{not, ◌&&◌, option_map}
use Rattle.std.proofs.lemmas.Bool.{eqb-true, eqb-false, ne_eqb, cond-true, cond-false, true≢false, false≢true}
use Rattle.std.proofs.lemmas.List.{length-append, nil_from_length}
use Rattle.std.proofs.lemmas.Slice.Eq.{bytes_eq-Decides}
use Rattle.up_bytes.specs.Spelling.{byte, text, IsByte, IsText}
use Rattle.up_names.specs.declared.fault.NameFault.{NameFault}
use Rattle.up_names.specs.PathNames.{PathName, canonical, path_of, IsCanonical}
use Rattle.up_names.specs.UserNames.{user_of, name_part, domain_part}
use Rattle.up_names.proofs.PathLaws.{canonical-proper}
use Rattle.up_names.proofs.UserLemmas.{parts-of_user}
use Rattle.up_entry.specs.declared.entries.Attr.{Attr}
use Rattle.up_entry.specs.declared.entries.Endpoint.{Endpoint}
use Rattle.up_entry.specs.declared.entries.Endpoint.TheVariants.{Local, Address}
use Rattle.up_entry.specs.declared.entries.Kind.{Kind}
use Rattle.up_entry.specs.declared.entries.Kind.TheVariants.{File, Directory, Link}
use Rattle.up_entry.specs.Attrs.{attr_byte, attr_of}
use Rattle.up_entry.specs.Reading.{canonical_path, canonical_user, path_at, user_at, attr_in, attr_at, link_in, link_at, endpoint_in, endpoint_at}
use Rattle.up_entry.specs.Spelling.{endpoint_text, link_text, IsTarget, HasItsLink, FitsEndpoint, FitsUser}
use Rattle.up_bytes.proofs.Parts.{IsPart, last, whole, known_part, none_is}
use Rattle.up_bytes.proofs.FieldParts.{byte_part, text_part}

-- a value that a test let through
pub passed : {A : Type 0} (b : Bool) (x y : A) → cond b (Some x) None ≡ Some y → (b ≡ true) × (x ≡ y)
passed true x y e = (refl, cc)
passed false x y e = absurd (none_is y e)

-- ---- names

canonical_path-again : (path : PathName) → IsCanonical path → canonical_path (canonical path) ≡ Some path
unfolding canonical_path
canonical_path-again path c =
    ap (λ (r : Result PathName NameFault). elim r as (λ _. Option PathName) [ Ok found ↦ cond (bytes_eq (canonical found) (canonical path)) (Some found) None | Err fault ↦ None ]) c
    ∙ cond-true (bytes_eq (canonical path) (canonical path)) (Some path) None ((bytes_eq-Decides (canonical path) (canonical path)).1 refl)

-- a text that is the canonical text of a path is read as that path
pub path_of_its_text : (text : List ℕ) (path : PathName) → bytes_eq text (canonical path) ≡ true → IsCanonical path → canonical_path text ≡ Some path
path_of_its_text text path same c = ap canonical_path ((bytes_eq-Decides text (canonical path)).0 same) ∙ canonical_path-again path c

canonical_path-is : (text : List ℕ) (path : PathName) → canonical_path text ≡ Some path → IsCanonical path × (canonical path ≡ text)
unfolding canonical_path
canonical_path-is text path is =
    elim (path_of text) as (λ r. path_of text ≡ r → ◌≡◌ {A = Option PathName} (elim r [ Ok path ↦ cond (bytes_eq (canonical path) text) (Some path) None | Err fault ↦ None ]) (Some path) → IsCanonical path × (canonical path ≡ text)) [
      | Ok found ↦ λ e is.
          let same = passed (bytes_eq (canonical found) text) found path is in
          let text_is : canonical found ≡ text = (bytes_eq-Decides (canonical found) text).0 same.0 in
          subst (λ (p : PathName). IsCanonical p × (canonical p ≡ text)) same.1 (ap path_of text_is ∙ e, text_is)
      | Err fault ↦ λ e is. absurd (none_is path is)
    ] refl is

canonical_user-again : (user : List ℕ) → user_of user ≡ Ok user → canonical_user user ≡ Some user
unfolding canonical_user
canonical_user-again user c =
    ap (λ (r : Result (List ℕ) NameFault). elim r as (λ _. Option (List ℕ)) [ Ok found ↦ cond (bytes_eq found user) (Some found) None | Err fault ↦ None ]) c
    ∙ cond-true (bytes_eq user user) (Some user) None ((bytes_eq-Decides user user).1 refl)

-- a text that is the canonical name of a user is read as that user
pub user_of_its_name : (text user : List ℕ) → bytes_eq text user ≡ true → user_of user ≡ Ok user → canonical_user text ≡ Some user
user_of_its_name text user same c = ap canonical_user ((bytes_eq-Decides text user).0 same) ∙ canonical_user-again user c

canonical_user-is : (text user : List ℕ) → canonical_user text ≡ Some user → (user_of user ≡ Ok user) × (user ≡ text)
unfolding canonical_user
canonical_user-is text user is =
    elim (user_of text) as (λ r. user_of text ≡ r → ◌≡◌ {A = Option (List ℕ)} (elim r [ Ok user ↦ cond (bytes_eq user text) (Some user) None | Err fault ↦ None ]) (Some user) → (user_of user ≡ Ok user) × (user ≡ text)) [
      | Ok found ↦ λ e is.
          let same = passed (bytes_eq found text) found user is in
          let text_is : found ≡ text = (bytes_eq-Decides found text).0 same.0 in
          subst (λ (u : List ℕ). (user_of u ≡ Ok u) × (u ≡ text)) same.1 (ap user_of text_is ∙ e, text_is)
      | Err fault ↦ λ e is. absurd (none_is user is)
    ] refl is

path_fits : (path : PathName) → IsCanonical path → IsText (canonical path)
path_fits path c = let short = (canonical-proper path c).short in omega (arith, short)

user_fits : (user : List ℕ) → user_of user ≡ Ok user → IsText user
user_fits user c =
    let parts = parts-of_user user c in
    let fits = parts.0.fits in
    omega (arith, fits, ap length parts.1, length-append (name_part user) (64 ∷ domain_part user))

pub path_part : IsPart IsCanonical (λ path. text (canonical path)) path_at
unfolding path_at
path_part = known_part text_part IsCanonical canonical_path canonical (λ path c. (path_fits path c, canonical_path-again path c)) (λ t path lt is. canonical_path-is t path is)

pub user_part : IsPart FitsUser text user_at
unfolding user_at
user_part = known_part text_part FitsUser canonical_user (λ user. user) (λ user c. (user_fits user c, canonical_user-again user c)) (λ t user lt is. canonical_user-is t user is)

-- ---- attributes

-- with the mark only where marks may stand
abbrev pub MarkFits : Bool → Attr → Type 0
MarkFits marks attr = marks ≡ false → attr.incomplete ≡ false

pub true_is_false : {A : Type 0} → true ≡ false → A
true_is_false e = absurd (true≢false e)

attr_again : (marks : Bool) (kind : Kind) (incomplete : Bool) → (marks ≡ false → incomplete ≡ false) → attr_in marks (attr_byte (record { kind = kind; incomplete = incomplete })) ≡ Some (record { kind = kind; incomplete = incomplete })
unfolding attr_of
attr_again true File true fits = refl
attr_again true Directory true fits = refl
attr_again true Link true fits = refl
attr_again false kind true fits = true_is_false (fits refl)
attr_again true File false fits = refl
attr_again true Directory false fits = refl
attr_again true Link false fits = refl
attr_again false File false fits = refl
attr_again false Directory false fits = refl
attr_again false Link false fits = refl

attr_small : (kind : Kind) (incomplete : Bool) → IsByte (attr_byte (record { kind = kind; incomplete = incomplete }))
attr_small File true = omega arith
attr_small Directory true = omega arith
attr_small Link true = omega arith
attr_small File false = omega arith
attr_small Directory false = omega arith
attr_small Link false = omega arith

-- one more byte that stands for attributes
one_of : (n m : ℕ) (found : Attr) (others : Option Attr) (attr : Attr) → attr_byte found ≡ m → (others ≡ Some attr → attr_byte attr ≡ n) → cond (eqb n m) (Some found) others ≡ Some attr → attr_byte attr ≡ n
one_of n m found others attr stands rest is =
    elim (eqb n m) as (λ b. eqb n m ≡ b → cond b (Some found) others ≡ Some attr → attr_byte attr ≡ n) [
      | true ↦ λ same is. ap attr_byte (sym (passed true found attr is).1) ∙ stands ∙ sym (eqb-true n m same)
      | false ↦ λ other is. rest is
    ] refl is

attr_of-byte : (n : ℕ) (attr : Attr) → attr_of n ≡ Some attr → attr_byte attr ≡ n
unfolding attr_of
attr_of-byte n attr =
    one_of n 0 (record { kind = File; incomplete = false }) _ attr refl
    (one_of n 1 (record { kind = Directory; incomplete = false }) _ attr refl
    (one_of n 2 (record { kind = Link; incomplete = false }) _ attr refl
    (one_of n 4 (record { kind = File; incomplete = true }) _ attr refl
    (one_of n 5 (record { kind = Directory; incomplete = true }) _ attr refl
    (one_of n 6 (record { kind = Link; incomplete = true }) None attr refl (λ is. absurd (none_is attr is)))))))

mark_fits : (marks mark : Bool) (found attr : Attr) → found.incomplete ≡ mark → cond (mark && not marks) None (Some found) ≡ Some attr → MarkFits marks attr × (found ≡ attr)
mark_fits true mark found attr e is = (λ e. true_is_false e, marked mark is)
  where
    marked : (mark : Bool) → cond (mark && not true) None (Some found) ≡ Some attr → found ≡ attr
    marked true is = (passed true found attr is).1
    marked false is = (passed true found attr is).1
mark_fits false true found attr e is = absurd (none_is attr is)
mark_fits false false found attr e is = let same = (passed true found attr is).1 in (λ _. ap (λ (a : Attr). a.incomplete) (sym same) ∙ e, same)

attr_is : (marks : Bool) (n : ℕ) (attr : Attr) → attr_in marks n ≡ Some attr → MarkFits marks attr × (attr_byte attr ≡ n)
attr_is marks n attr is =
    elim (attr_of n) as (λ o. attr_of n ≡ o → ◌≡◌ {A = Option Attr} (elim o [ Some attr ↦ cond (attr.incomplete && not marks) None (Some attr) | None ↦ None ]) (Some attr) → MarkFits marks attr × (attr_byte attr ≡ n)) [
      | Some found ↦ λ e is.
          let fits = mark_fits marks found.incomplete found attr refl is in
          (fits.0, ap attr_byte (sym fits.1) ∙ attr_of-byte n found e)
      | None ↦ λ e is. absurd (none_is attr is)
    ] refl is

pub attr_part : (marks : Bool) → IsPart (MarkFits marks) (λ attr. byte (attr_byte attr)) (attr_at marks)
unfolding attr_at
attr_part marks =
    known_part byte_part (MarkFits marks) (attr_in marks) attr_byte
    (λ attr fits. (attr_small attr.kind attr.incomplete, attr_again marks attr.kind attr.incomplete fits)) (λ n attr lt is. attr_is marks n attr is)

-- ---- a link's target

abbrev pub LinkFits : Kind → Option PathName → Type 0
LinkFits kind target = IsTarget target × HasItsLink kind target

link_again : (kind : Kind) (target : Option PathName) → LinkFits kind target → IsText (link_text target) × (link_in kind (link_text target) ≡ Some target)
link_again Link (Some path) fits = (path_fits path fits.0, ap (option_map (λ (target : PathName). Some target)) (canonical_path-again path fits.0))
link_again Link None fits = absurd (false≢true fits.1)
link_again File (Some path) fits = absurd (none_is path (sym fits.1))
link_again File None fits = (omega arith, refl)
link_again Directory (Some path) fits = absurd (none_is path (sym fits.1))
link_again Directory None fits = (omega arith, refl)

no_link : (t : List ℕ) (target : Option PathName) → cond (eqb (length t) 0) (Some None) None ≡ Some target → (target ≡ None) × (t ≡ [])
no_link t target is =
    let same = passed (eqb (length t) 0) None target is in
    (sym same.1, nil_from_length t (eqb-true (length t) 0 same.0))

nothing_linked : (t : List ℕ) (target : Option PathName) → (target ≡ None) × (t ≡ []) → (IsTarget target × (target ≡ None)) × (link_text target ≡ t)
nothing_linked t target none = subst (λ (o : Option PathName). (IsTarget o × (o ≡ None)) × (link_text o ≡ t)) (sym none.0) ((tt, refl), sym none.1)

some_target : (o : Option PathName) (t : List ℕ) (target : Option PathName) → canonical_path t ≡ o → option_map (λ (path : PathName). Some path) o ≡ Some target → LinkFits Link target × (link_text target ≡ t)
some_target (Some path) t target e is =
    let named = canonical_path-is t path e in
    let same : Some path ≡ target = (passed true (Some path) target is).1 in
    subst (λ (o : Option PathName). LinkFits Link o × (link_text o ≡ t)) same ((named.0, refl), named.1)
some_target None t target e is = absurd (none_is target is)

link_is : (kind : Kind) (t : List ℕ) (target : Option PathName) → link_in kind t ≡ Some target → LinkFits kind target × (link_text target ≡ t)
link_is Link t target is = some_target (canonical_path t) t target refl is
link_is File t target is = nothing_linked t target (no_link t target is)
link_is Directory t target is = nothing_linked t target (no_link t target is)

pub link_part : (kind : Kind) → IsPart (LinkFits kind) (λ target. text (link_text target)) (link_at kind)
unfolding link_at
link_part kind = known_part text_part (LinkFits kind) (link_in kind) link_text (link_again kind) (λ t target lt is. link_is kind t target is)

-- ---- an endpoint

endpoint_split : (e : Endpoint) → FitsEndpoint e → (t : List ℕ) × IsText t × (endpoint_in t ≡ e) × (text (endpoint_text e) ≡ text t)
endpoint_split Local fits = ([], fits.0, refl, refl)
endpoint_split (Address address) fits = (address, fits.0, cond-false (eqb (length address) 0) Local (Address address) (ne_eqb (length address) 0 (λ e. omega (arith, e, fits.1))), refl)

endpoint_join : (t : List ℕ) → IsText t → FitsEndpoint (endpoint_in t) × (text (endpoint_text (endpoint_in t)) ≡ text t)
endpoint_join t lt =
    elim (eqb (length t) 0) as (λ b. eqb (length t) 0 ≡ b → FitsEndpoint (cond b Local (Address t)) × (text (endpoint_text (cond b Local (Address t))) ≡ text t)) [
      | true ↦ λ none. ((omega arith, tt), ap text (sym (nil_from_length t (eqb-true (length t) 0 none))))
      | false ↦ λ some. ((lt, positive (length t) (eqb-false (length t) 0 some)), refl)
    ] refl
  where
    positive : (n : ℕ) → (n ≡ 0 → ⊥) → 0 < n
    positive n ne = omega (arith, ne)

pub endpoint_part : IsPart FitsEndpoint (λ endpoint. text (endpoint_text endpoint)) endpoint_at
unfolding endpoint_at
endpoint_part = whole FitsEndpoint (λ endpoint. text (endpoint_text endpoint)) (last endpoint_in text_part) endpoint_split endpoint_join
