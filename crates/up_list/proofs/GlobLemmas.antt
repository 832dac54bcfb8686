-- The literal elements in front of a pattern, one after the other.
use Rattle.std.proofs.Common.{◌≡◌, ℕ, zero, suc, ◌+◌, ◌≤◌, List, [], ◌∷◌, ◌++◌, drop, refl, sym, ap, ◌∙◌, arith, Some, None}
use Rattle.std.specs.Prelude.{Bool, true, false, not, nat_lt, length, if◌then◌else◌, slice_get, OnOk, Result, Ok, Err}
use Rattle.std.specs.Option.{option_and_then}
use Rattle.std.proofs.lemmas.List.{append_assoc, append-nil}
use Rattle.up_names.specs.PathNames.{PathName, canonical, extended, is_name, joined}
use Rattle.up_names.specs.declared.fault.NameFault.TheVariants.{Element, TooLong}
use Rattle.up_pattern.specs.declared.terms.Term.{Term}
use Rattle.up_pattern.specs.Elements.{literal_of}
use Rattle.up_pattern.specs.Patterns.{PatternName, literal_at}
use Rattle.up_log_tree.proofs.Paths.{some_none}
use Rattle.up_list.specs.Globs.{literal_path, literals}
use Rattle.up_list.proofs.FrontLemmas.{literals_first, same_path}

-- the elements so far, with those of what is left from a place on, are the literal ones in front
pub record Leads (pattern : PatternName) (path : PathName) (at : ℕ) : Type 0 where
  pub owner : path.owner ≡ pattern.owner
  pub elements : path.elements ++ literals (drop at pattern.elements) ≡ literals pattern.elements

literal_next : (ts : List (List Term)) (at : ℕ) (name : List ℕ) → option_and_then literal_of (slice_get ts at) ≡ Some name → literals (drop at ts) ≡ name ∷ literals (drop (suc at) ts)
literal_next [] at name h = absurd (some_none name (sym h))
literal_next (terms ∷ ts) zero name h = literals_first terms ts (Some name) h
literal_next (terms ∷ ts) (suc at) name h = literal_next ts at name h

literal_last : (ts : List (List Term)) (at : ℕ) → option_and_then literal_of (slice_get ts at) ≡ None → literals (drop at ts) ≡ []
literal_last [] zero h = refl
literal_last [] (suc at) h = refl
literal_last (terms ∷ ts) zero h = literals_first terms ts None h
literal_last (terms ∷ ts) (suc at) h = literal_last ts at h

-- one element more
pub leads_on : (pattern : PatternName) (path : PathName) (at : ℕ) (name : List ℕ) → literal_at pattern at ≡ Some name → Leads pattern path at → Leads pattern (extended path name) (at + 1)
leads_on pattern path at name h so_far = record {
  owner = so_far.owner;
  elements =
      append_assoc path.elements (name ∷ []) (literals (drop (at + 1) pattern.elements))
      ∙ (ap (λ n. path.elements ++ name ∷ literals (drop n pattern.elements)) (let e : at + 1 ≡ suc at = omega arith in e)
      ∙ (ap (λ names. path.elements ++ names) (sym (literal_next pattern.elements at name h)) ∙ so_far.elements));
}

-- no element more
pub leads_there : (pattern : PatternName) (path : PathName) (at : ℕ) → literal_at pattern at ≡ None → Leads pattern path at → path ≡ literal_path pattern
unfolding literal_path
leads_there pattern path at h so_far =
    same_path path (literal_path pattern) so_far.owner
    (sym (append-nil path.elements) ∙ (ap (λ names. path.elements ++ names) (sym (literal_last pattern.elements at h)) ∙ so_far.elements))

literal_past : (ts : List (List Term)) (at : ℕ) → length ts ≤ at → slice_get ts at ≡ None
literal_past [] zero h = refl
literal_past [] (suc at) h = refl
literal_past (terms ∷ ts) zero h = absurd (omega (arith, h))
literal_past (terms ∷ ts) (suc at) h = literal_past ts at (omega (arith, h))

-- all elements were literal
pub leads_end : (pattern : PatternName) (path : PathName) (at : ℕ) → length pattern.elements ≤ at → Leads pattern path at → path ≡ literal_path pattern
leads_end pattern path at h so_far = leads_there pattern path at (ap (option_and_then literal_of) (literal_past pattern.elements at h)) so_far

-- a path with one element more, where there is one
pub joined_is : (dir : PathName) (name : List ℕ) (path : PathName) → joined dir name ≡ Ok path → path ≡ extended dir name
unfolding joined
joined_is dir name path h = by (not (is_name name)) (nat_lt 4096 (length (canonical (extended dir name)))) h
  where
    by : (a b : Bool) → (if a then Err (Element 0) else if b then Err (TooLong (length (canonical (extended dir name)))) else Ok (extended dir name)) ≡ Ok path → path ≡ extended dir name
    by true b k = absurd (cc)
    by false true k = absurd (cc)
    by false false k = cc

-- a clause for what is there where the call is `Ok`
pub on_ok : {T E : Type 0} (result : Result T E) (P Q : Type 0) → (P → Q) → OnOk result P → OnOk result Q
on_ok (Ok x) P Q f h = f h
on_ok (Err e) P Q f h = h
