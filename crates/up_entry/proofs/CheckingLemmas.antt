-- The rules of Put one after another, cut where those of the names end; texts that are canonical ones.
use Rattle.std.proofs.Common.{◌≡◌, ◌∙◌, ℕ, true, List, Option, Result, Ok, Err, ap, refl, sym, bytes_eq}
use Rattle.std.proofs.lemmas.Slice.Eq.{bytes_eq-Decides}
use Rattle.up_names.specs.declared.fault.NameFault.{NameFault}
use Rattle.up_names.specs.PathNames.{PathName, canonical, IsCanonical}
use Rattle.up_names.specs.UserNames.{user_of}
use Rattle.up_entry.specs.declared.entries.Kind.{Kind}
use Rattle.up_entry.specs.declared.puts.PutEntry.{PutEntry}
use Rattle.up_entry.specs.declared.fault.EntryFault.{EntryFault}
use Rattle.up_entry.specs.declared.fault.EntryFault.TheVariants.{Invalid}
use Rattle.up_entry.specs.declared.what.What.{What}
use Rattle.up_entry.specs.declared.what.What.TheVariants as what
use Rattle.up_entry.specs.Checking.{◌>>=◌, path_or, user_or, link_or, signed_name_of, writer_of, kind_of, content_rules, names_of, rest_of, checked_of, checked_as}

-- a rule and those behind it, and then one more
then : {A B C : Type 0} (r : Result A EntryFault) (f : A → Result B EntryFault) (g : B → Result C EntryFault) (h : A → Result C EntryFault) → ((x : A) → (f x >>= g) ≡ h x) → ((r >>= f) >>= g) ≡ (r >>= h)
then (Ok x) f g h is = is x
then (Err fault) f g h is = refl

checked_parts : (put : PutEntry) (user : List ℕ) → checked_as put user ≡ (names_of put user >>= λ names. rest_of put names.0 >>= λ rest. Ok (checked_of put names.0 names.1 names.2 rest.0 rest.1))
unfolding checked_as names_of rest_of
checked_parts put user = sym (
    then (path_or what.Name put.name) _ _ _ (λ name.
    then (signed_name_of put name) _ _ _ (λ signed_name.
    then (writer_of put user) _ _ _ (λ writer.
    then (kind_of put name) _ _ _ (λ kind.
    then (link_or kind put.link) _ _ _ (λ link.
    then (content_rules put kind name) _ _ _ (λ content. refl)))))))

after_ok : {A B : Type 0} (r : Result A EntryFault) (f : A → Result B EntryFault) (x : A) → r ≡ Ok x → (r >>= f) ≡ f x
after_ok r f x e = ap (λ (r : Result _ EntryFault). r >>= f) e

after_err : {A B : Type 0} (r : Result A EntryFault) (f : A → Result B EntryFault) (fault : EntryFault) → r ≡ Err fault → (r >>= f) ≡ Err fault
after_err r f fault e = ap (λ (r : Result _ EntryFault). r >>= f) e

-- the first rule that is broken is one of the names
pub names_break : (put : PutEntry) (user : List ℕ) (fault : EntryFault) → names_of put user ≡ Err fault → checked_as put user ≡ Err fault
names_break put user fault e = checked_parts put user ∙ after_err (names_of put user) _ fault e

-- it is one behind these
pub rest_breaks : (put : PutEntry) (user : List ℕ) (name signed_name : PathName) (writer : List ℕ) (fault : EntryFault) → names_of put user ≡ Ok (name, signed_name, writer) → rest_of put name ≡ Err fault → checked_as put user ≡ Err fault
rest_breaks put user name signed_name writer fault e d = checked_parts put user ∙ after_ok (names_of put user) _ (name, signed_name, writer) e ∙ after_err (rest_of put name) _ fault d

-- none is broken
pub rules_hold : (put : PutEntry) (user : List ℕ) (name signed_name : PathName) (writer : List ℕ) (kind : Kind) (link : Option PathName) → names_of put user ≡ Ok (name, signed_name, writer) → rest_of put name ≡ Ok (kind, link) → checked_as put user ≡ Ok (checked_of put name signed_name writer kind link)
rules_hold put user name signed_name writer kind link e d = checked_parts put user ∙ after_ok (names_of put user) _ (name, signed_name, writer) e ∙ after_ok (rest_of put name) _ (kind, link) d

-- a text that is the canonical text of a path is one of that path
pub path_or_its_text : (what : What) (text : List ℕ) (path : PathName) → bytes_eq text (canonical path) ≡ true → IsCanonical path → path_or what text ≡ Ok path
path_or_its_text what text path same c =
    ap (path_or what) ((bytes_eq-Decides text (canonical path)).0 same)
    ∙ ap (λ (r : Result PathName NameFault). elim r as (λ _. Result PathName EntryFault) [ Ok found ↦ Ok found | Err fault ↦ Err (Invalid what) ]) c

-- a text that is the canonical name of a user is one of that user
pub user_or_its_name : (what : What) (text user : List ℕ) → bytes_eq text user ≡ true → user_of user ≡ Ok user → user_or what text ≡ Ok user
user_or_its_name what text user same c =
    ap (user_or what) ((bytes_eq-Decides text user).0 same)
    ∙ ap (λ (r : Result (List ℕ) NameFault). elim r as (λ _. Result (List ℕ) EntryFault) [ Ok found ↦ Ok found | Err fault ↦ Err (Invalid what) ]) c
