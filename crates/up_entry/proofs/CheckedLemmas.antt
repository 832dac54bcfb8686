-- What an entry that keeps all rules of Put is: its link and the addresses of its blocks are as its format asks for, and
-- all else is what was handed in.
use Rattle.std.proofs.Common.{◌≡◌, ℕ, ℤ, negsuc, int_le, ◌≤ℤ◌, T, Bool, true, false, List, length, Option, Some, None, Result, Ok, Err, cond, refl, ap, subst, eqb-true, bytes_eq}
use Rattle.std.specs.Prelude.{◌==◌, IsSome, ⊤}
use Rattle.std.proofs.lemmas.List.{nil_from_length}
use Rattle.std.proofs.lemmas.Slice.Eq.{bytes_eq-Decides}
use Rattle.up_names.specs.declared.fault.NameFault.{NameFault}
use Rattle.up_entry.specs.declared.entries.Attr.{Attr}
use Rattle.up_entry.specs.declared.entries.Entry.{Entry}
use Rattle.up_names.specs.PathNames.{PathName, control_of, path_of}
use Rattle.up_names.specs.PathOrder.{path_eq}
use Rattle.up_names.specs.PathOrderLaws.{path_eq-Decides}
use Rattle.up_entry.specs.declared.entries.Kind.{Kind}
use Rattle.up_entry.specs.declared.entries.Kind.TheVariants.{File, Directory, Link}
use Rattle.up_entry.specs.declared.puts.Checked.{Checked}
use Rattle.up_entry.specs.declared.puts.PutEntry.{PutEntry}
use Rattle.up_entry.specs.declared.fault.EntryFault.{EntryFault}
use Rattle.up_entry.specs.declared.fault.EntryFault.TheVariants.{Invalid}
use Rattle.up_entry.specs.declared.what.What.{What}
use Rattle.up_entry.specs.declared.what.What.TheVariants as what
use Rattle.up_entry.specs.Attrs.{attr_of}
use Rattle.up_entry.specs.Checking.{◌>>=◌, rule, path_or, link_or, signed_name_of, writer_of, kind_of, content_rules, whole_kind, checked_as, IsLinkText, IsChecked}
use Rattle.up_entry.specs.FixedForm.{HasFixedForm}
use Rattle.up_entry.specs.Rules.{blocks_fit, control_fits, control_size_fits, packdata_fits, packing_fits, root_fits}
use Rattle.up_entry.specs.Spelling.{HasItsLink}
use Rattle.up_entry.proofs.FixedFormLemmas.{form_spelled}

-- what has P, where it is given
pub record Holds {A : Type 0} (P : A → Type 0) (r : Result A EntryFault) : Type 0 where
  pub at : (x : A) → r ≡ Ok x → P x

given : {A : Type 0} → A → Result A EntryFault
given x = Ok x

given_is : {A : Type 0} (x y : A) → given x ≡ given y → x ≡ y
unfolding given
given_is x y e = cc

Holds-ok : {A : Type 0} (P : A → Type 0) (x : A) → P x → Holds P (Ok x)
unfolding given
Holds-ok P x h = record { at = λ y e. subst P (given_is x y e) h }

-- what is given by a rule and those behind it
Holds-then : {A B : Type 0} (P : B → Type 0) (r : Result A EntryFault) (f : A → Result B EntryFault) → ((x : A) → r ≡ Ok x → Holds P (f x)) → Holds P (r >>= f)
Holds-then P (Ok x) f h = h x refl
Holds-then P (Err d) f h = record { at = λ x e. absurd cc }

rule_held : (what : What) (holds : Bool) (x : ⊤) → rule what holds ≡ Ok x → holds ≡ true
rule_held what true x e = refl
rule_held what false x e = absurd cc

-- ---- links

target_kept : (text : List ℕ) → Holds (λ (target : Option PathName). IsSome target) (link_or Link text)
target_kept text = Holds-then (λ (target : Option PathName). IsSome target) (path_or what.Link text) (λ target. Ok (Some target)) (λ target is. Holds-ok (λ (target : Option PathName). IsSome target) (Some target) refl)

none_kept : (text : List ℕ) → Holds (λ (target : Option PathName). target ≡ None) (rule what.Link (length text == 0) >>= λ ok. Ok None)
none_kept text = Holds-then (λ (target : Option PathName). target ≡ None) (rule what.Link (length text == 0)) (λ ok. Ok None) (λ ok is. Holds-ok (λ (target : Option PathName). target ≡ None) None refl)

link_kept : (kind : Kind) (text : List ℕ) (target : Option PathName) → link_or kind text ≡ Ok target → HasItsLink kind target
link_kept Link text target e = (target_kept text).at target e
link_kept File text target e = (none_kept text).at target e
link_kept Directory text target e = (none_kept text).at target e

-- ---- an entry

-- what is known once the rules of all else held
pub record ContentFits (put : PutEntry) (kind : Kind) (name : PathName) : Type 0 where
  pub blocks : blocks_fit kind put.blocks ≡ true
  pub packdata : packdata_fits kind put.packdata ≡ true
  pub root : root_fits kind name ≡ true
  pub control : control_fits kind (control_of name) ≡ true
  pub control_size : control_size_fits kind name put.blocks ≡ true
  pub sequence : int_le (negsuc 0) put.sequence ≡ true

content_held : (put : PutEntry) (kind : Kind) (name : PathName) → Holds (λ done. ContentFits put kind name) (content_rules put kind name)
unfolding content_rules
content_held put kind name =
    let P : ⊤ → Type 0 = λ done. ContentFits put kind name in
    Holds-then P (rule what.Blocks (blocks_fit kind put.blocks)) _ (λ a one.
    Holds-then P (rule what.Packdata (packdata_fits kind put.packdata)) _ (λ b two.
    Holds-then P (rule what.Root (root_fits kind name)) _ (λ c three.
    Holds-then P (rule what.Control (control_fits kind (control_of name))) _ (λ d four.
    Holds-then P (rule what.ControlSize (control_size_fits kind name put.blocks)) _ (λ e five.
    record {
      at = λ f six. record {
        blocks = rule_held what.Blocks (blocks_fit kind put.blocks) a one;
        packdata = rule_held what.Packdata (packdata_fits kind put.packdata) b two;
        root = rule_held what.Root (root_fits kind name) c three;
        control = rule_held what.Control (control_fits kind (control_of name)) d four;
        control_size = rule_held what.ControlSize (control_size_fits kind name put.blocks) e five;
        sequence = rule_held what.Sequence (int_le (negsuc 0) put.sequence) f six;
      };
    })))))

at_least : (a b : ℤ) → int_le a b ≡ true → a ≤ℤ b
at_least a b e = record { le = known (int_le a b) e }
  where
    known : (t : Bool) → t ≡ true → T t
    known true e = tt
    known false e = absurd cc

-- the signed name is that of the name
signed_held : (put : PutEntry) (name : PathName) → Holds (λ signed_name. signed_name ≡ name) (signed_name_of put name)
unfolding signed_name_of
signed_held put name =
    Holds-then (λ (p : PathName). p ≡ name) _ _ (λ signed_name is.
    Holds-then (λ (p : PathName). p ≡ name) (rule what.SignedName (path_eq signed_name name)) (λ same. Ok signed_name) (λ same held.
    Holds-ok (λ (p : PathName). p ≡ name) signed_name ((path_eq-Decides signed_name name).0 (rule_held what.SignedName (path_eq signed_name name) same held))))

-- the writer is this user
writer_held : (put : PutEntry) (user : List ℕ) → Holds (λ writer. writer ≡ user) (writer_of put user)
unfolding writer_of
writer_held put user =
    Holds-then (λ (u : List ℕ). u ≡ user) _ _ (λ writer is.
    Holds-then (λ (u : List ℕ). u ≡ user) (rule what.Writer (bytes_eq writer user)) (λ own. Ok writer) (λ own held.
    Holds-ok (λ (u : List ℕ). u ≡ user) writer ((bytes_eq-Decides writer user).0 (rule_held what.Writer (bytes_eq writer user) own held))))

-- the path is that of the text
path_held : (what : What) (text : List ℕ) (path : PathName) → path_or what text ≡ Ok path → path_of text ≡ Ok path
unfolding given
path_held what text path = of_result (path_of text)
  where
    of_result : (r : Result PathName NameFault) → ◌≡◌ {A = Result PathName EntryFault} (elim r [ Ok found ↦ Ok found | Err fault ↦ Err (Invalid what) ]) (Ok path) → r ≡ Ok path
    of_result (Ok found) e = ap (λ (p : PathName). Ok p) (given_is found path e)
    of_result (Err fault) e = absurd cc

linked : (text : List ℕ) → Holds (IsLinkText text) (link_or Link text)
linked text = Holds-then (IsLinkText text) (path_or what.Link text) (λ target. Ok (Some target)) (λ target is. Holds-ok (IsLinkText text) (Some target) (path_held what.Link text target is))

not_linked : (text : List ℕ) → Holds (IsLinkText text) (rule what.Link (length text == 0) >>= λ ok. Ok None)
not_linked text =
    Holds-then (IsLinkText text) (rule what.Link (length text == 0)) (λ ok. Ok None) (λ ok is.
    Holds-ok (IsLinkText text) None (nil_from_length text (eqb-true (length text) 0 (rule_held what.Link (length text == 0) ok is))))

-- the target is that of the text, and where there is none the text is empty
link_held : (kind : Kind) (text : List ℕ) (link : Option PathName) → link_or kind text ≡ Ok link → IsLinkText text link
link_held Link text link e = (linked text).at link e
link_held File text link e = (not_linked text).at link e
link_held Directory text link e = (not_linked text).at link e

abbrev whole_attr : Kind → Attr
whole_attr kind = record { kind = kind; incomplete = false }

-- the attributes are of this kind, without the mark
whole_held : (attr : Option Attr) → Holds (λ kind. attr ≡ Some (whole_attr kind)) (whole_kind attr)
whole_held None = record { at = λ kind e. absurd cc }
whole_held (Some attr) = of_mark attr.kind attr.incomplete
  where
    of_mark : (kind : Kind) (mark : Bool) → Holds (λ k. ◌≡◌ {A = Option Attr} (Some (record { kind = kind; incomplete = mark })) (Some (whole_attr k))) (cond mark (Err (Invalid what.Attr)) (Ok kind))
    of_mark kind true = record { at = λ k e. absurd cc }
    of_mark kind false = Holds-ok (λ (k : Kind). ◌≡◌ {A = Option Attr} (Some (whole_attr kind)) (Some (whole_attr k))) kind refl

-- a kind, and a packing that it may have
abbrev KindFits : PutEntry → PathName → Kind → Type 0
KindFits put name kind = (attr_of put.attr ≡ Some (whole_attr kind)) × (packing_fits (Some (whole_attr kind)) name put.packing ≡ true)

kind_held : (put : PutEntry) (name : PathName) → Holds (KindFits put name) (kind_of put name)
unfolding kind_of
kind_held put name =
    Holds-then (KindFits put name) (rule what.Packing (packing_fits (attr_of put.attr) name put.packing)) (λ packed. whole_kind (attr_of put.attr)) (λ packed is. record {
      at = λ kind e.
          let marked = (whole_held (attr_of put.attr)).at kind e in
          let fits = rule_held what.Packing (packing_fits (attr_of put.attr) name put.packing) packed is in
          (marked, subst (λ (attr : Option Attr). packing_fits attr name put.packing ≡ true) marked fits);
    })

-- what is given once the link, the kind and so on are known
abbrev with_link : PutEntry → PathName → PathName → List ℕ → Kind → Option PathName → Result Checked EntryFault
with_link put name signed_name writer kind link = content_rules put kind name >>= λ content. Ok (record {
  entry = record {
    signed_name = signed_name;
    packing = put.packing;
    time = put.time;
    blocks = put.blocks;
    packdata = put.packdata;
    link = link;
    writer = writer;
    name = name;
    attr = record { kind = kind; incomplete = false };
    sequence = 0;
  };
  sequence = put.sequence;
})

abbrev with_kind : PutEntry → PathName → PathName → List ℕ → Kind → Result Checked EntryFault
with_kind put name signed_name writer kind = link_or kind put.link >>= with_link put name signed_name writer kind

abbrev with_writer : PutEntry → PathName → PathName → List ℕ → Result Checked EntryFault
with_writer put name signed_name writer = kind_of put name >>= with_kind put name signed_name writer

abbrev with_signed_name : PutEntry → List ℕ → PathName → PathName → Result Checked EntryFault
with_signed_name put user name signed_name = writer_of put user >>= with_writer put name signed_name

abbrev with_name : PutEntry → List ℕ → PathName → Result Checked EntryFault
with_name put user name = signed_name_of put name >>= with_signed_name put user name

-- the entry, of all that the rules gave
all_held : (put : PutEntry) (user : List ℕ) (name signed_name : PathName) (writer : List ℕ) (kind : Kind) (link : Option PathName)
    → path_of put.name ≡ Ok name → signed_name ≡ name → writer ≡ user → KindFits put name kind → HasItsLink kind link → IsLinkText put.link link → Holds (IsChecked put user) (with_link put name signed_name writer kind link)
all_held put user name signed_name writer kind link named signed written marked linked link_text =
    Holds-then (IsChecked put user) (content_rules put kind name) _ (λ content content_is.
    let fits = (content_held put kind name).at content content_is in
    let entry : Entry = record {
      signed_name = signed_name;
      packing = put.packing;
      time = put.time;
      blocks = put.blocks;
      packdata = put.packdata;
      link = link;
      writer = writer;
      name = name;
      attr = whole_attr kind;
      sequence = 0;
    } in
    let form : HasFixedForm entry = record {
      signed_name = signed;
      packing = marked.1;
      whole = refl;
      link = linked;
      blocks = fits.blocks;
      packdata = fits.packdata;
      root = fits.root;
      control = fits.control;
      control_size = fits.control_size;
    } in
    Holds-ok (IsChecked put user) _ (record {
      form = form;
      spelled = form_spelled entry form;
      name = named;
      writer = written;
      attr = marked.0;
      link = link_text;
      blocks = refl;
      packdata = refl;
      packing = refl;
      time = refl;
      sequence = refl;
      given = refl;
      least = at_least (negsuc 0) put.sequence fits.sequence;
    }))

pub checked_kept : (put : PutEntry) (user : List ℕ) → Holds (IsChecked put user) (checked_as put user)
unfolding checked_as
checked_kept put user =
    Holds-then (IsChecked put user) (path_or what.Name put.name) (with_name put user) (λ name name_is.
    Holds-then (IsChecked put user) (signed_name_of put name) (with_signed_name put user name) (λ signed_name signed_is.
    Holds-then (IsChecked put user) (writer_of put user) (with_writer put name signed_name) (λ writer writer_is.
    Holds-then (IsChecked put user) (kind_of put name) (with_kind put name signed_name writer) (λ kind kind_is.
    Holds-then (IsChecked put user) (link_or kind put.link) (with_link put name signed_name writer kind) (λ link link_is.
    all_held put user name signed_name writer kind link (path_held what.Name put.name name name_is) ((signed_held put name).at signed_name signed_is) ((writer_held put user).at writer writer_is)
    ((kind_held put name).at kind kind_is) (link_kept kind put.link link link_is) (link_held kind put.link link link_is))))))
