-- How values are read one after the other.
use Rattle.std.proofs.Common.{◌≡◌, Bool, true, false, List, [], ◌∷◌, ◌++◌, Option, Some, None, option_map, refl, sym, ap, ◌∙◌, append_assoc, append-nil}
use Rattle.std.specs.Prelude.{if◌then◌else◌}
use Rattle.up_command.specs.Words.{◌>>=◌}
use Rattle.up_names.specs.Texts.{Text}
use Rattle.up_serve.specs.Plans.{all_read}

-- things, and others behind them if these are there
abbrev pub behind : {X : Type 0} → List X → Option (List X) → Option (List X)
behind front others = option_map (λ xs. front ++ xs) others

-- what was read so far, and what the values that are left are read as, is all
pub record ReadGoing {X : Type 0} (read : Text → Option X) (all : Option (List X)) (so_far : List X) (left : List Text) : Type 0 where
  pub whole : behind so_far (all_read read left) ≡ all

behind_none : {X : Type 0} (others : Option (List X)) → behind [] others ≡ others
behind_none None = refl
behind_none (Some xs) = refl

pub read_first : {X : Type 0} {read : Text → Option X} {left : List Text} → ReadGoing read (all_read read left) [] left
read_first {read = read} {left = left} = record { whole = behind_none (all_read read left) }

next_read : {X : Type 0} (old new : List X) (left : Option (List X)) (found : Option X) → option_map (λ x. old ++ x ∷ []) found ≡ Some new →
    behind old (found >>= λ first. left >>= λ others. Some (first ∷ others)) ≡ behind new left
next_read old new left None took = absurd (cc)
next_read old new None (Some x) took = refl
next_read old new (Some others) (Some x) took =
    ap Some (sym (append_assoc old (x ∷ []) others) ∙ ap (λ front. front ++ others) (let e : old ++ x ∷ [] ≡ new = cc in e))

pub read_step : {X : Type 0} {read : Text → Option X} {all : Option (List X)} {old new : List X} {values : List Text} {value : Text} {left : List Text} {good : Bool} → ReadGoing read all old values → values ≡ value ∷ left →
    option_map (λ x. old ++ x ∷ []) (read value) ≡ (if good then Some new else None) → good ≡ true → ReadGoing read all new left
read_step {read = read} {old = old} {new = new} {value = value} {left = left} {good = good} going cut took is =
    let found : option_map (λ x. old ++ x ∷ []) (read value) ≡ Some new = took ∙ ap (λ b. if b then Some new else None) is in
    let whole : behind old (all_read read (value ∷ left)) ≡ _ = ap (λ vs. behind old (all_read read vs)) (sym cut) ∙ going.whole in
    record { whole = sym (next_read old new (all_read read left) (read value) found) ∙ whole }

no_read : {X : Type 0} (old : List X) (left : Option (List X)) (found : Option X) → option_map (λ x. old ++ x ∷ []) found ≡ None →
    behind old (found >>= λ first. left >>= λ others. Some (first ∷ others)) ≡ None
no_read old left None none = refl
no_read old left (Some x) none = absurd (cc)

pub read_bad : {X : Type 0} {read : Text → Option X} {all : Option (List X)} {old : List X} {values : List Text} {value : Text} {left : List Text} {good : Bool} (new : List X) → ReadGoing read all old values → values ≡ value ∷ left →
    option_map (λ x. old ++ x ∷ []) (read value) ≡ (if good then Some new else None) → good ≡ false → None ≡ all
read_bad {read = read} {old = old} {value = value} {left = left} {good = good} new going cut took is =
    let found : option_map (λ x. old ++ x ∷ []) (read value) ≡ None = took ∙ ap (λ b. if b then Some new else None) is in
    let whole : behind old (all_read read (value ∷ left)) ≡ _ = ap (λ vs. behind old (all_read read vs)) (sym cut) ∙ going.whole in
    sym (no_read old (all_read read left) (read value) found) ∙ whole

pub read_end : {X : Type 0} {read : Text → Option X} {all : Option (List X)} {old : List X} {values : List Text} → ReadGoing read all old values → values ≡ [] → Some old ≡ all
read_end {read = read} {old = old} going none =
    ap Some (sym (append-nil old)) ∙ (ap (λ vs. behind old (all_read read vs)) (sym none) ∙ going.whole)

pub ruleset reads = (read_first, read_step, read_bad, read_end)
