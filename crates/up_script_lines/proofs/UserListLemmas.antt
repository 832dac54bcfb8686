-- How the users of a list are read one after the other.
use Rattle.std.proofs.Common.{◌≡◌, ℕ, List, [], ◌∷◌, ◌++◌, Option, Some, None, option_map, refl, sym, ap, ◌∙◌, append_assoc, append-nil}
use Rattle.up_names.specs.Texts.{UserName}
use Rattle.up_command.specs.Words.{◌>>=◌, user_named}
use Rattle.up_script_lines.specs.ScriptLines.{users_named}

-- users, and others behind them if these are there
abbrev pub behind : List UserName → Option (List UserName) → Option (List UserName)
behind front others = option_map (λ users. front ++ users) others

-- the users so far, and those of the words that are left, are all of them
pub record UsersGoing (all : Option (List UserName)) (so_far : List UserName) (left : List (List ℕ)) : Type 0 where
  pub whole : behind so_far (users_named left) ≡ all

behind_none : (others : Option (List UserName)) → behind [] others ≡ others
behind_none None = refl
behind_none (Some users) = refl

next_user : (old new : List UserName) (left : Option (List UserName)) (found : Option UserName) → option_map (λ user. old ++ user ∷ []) found ≡ Some new →
    behind old (found >>= λ first. left >>= λ others. Some (first ∷ others)) ≡ behind new left
next_user old new left None took = absurd (cc)
next_user old new None (Some user) took = refl
next_user old new (Some others) (Some user) took =
    ap Some (sym (append_assoc old (user ∷ []) others) ∙ ap (λ front. front ++ others) (let e : old ++ user ∷ [] ≡ new = cc in e))

pub users_step : {all : Option (List UserName)} {old : List UserName} {word : List ℕ} {left : List (List ℕ)} → UsersGoing all old (word ∷ left) → (new : List UserName) →
    option_map (λ user. old ++ user ∷ []) (user_named word) ≡ Some new → UsersGoing all new left
unfolding users_named
users_step {old = old} {word = word} {left = left} going new took = record { whole = sym (next_user old new (users_named left) (user_named word) took) ∙ going.whole }

no_user : (old : List UserName) (left : Option (List UserName)) (found : Option UserName) → option_map (λ user. old ++ user ∷ []) found ≡ None →
    behind old (found >>= λ first. left >>= λ others. Some (first ∷ others)) ≡ None
no_user old left None none = refl
no_user old left (Some user) none = absurd (cc)

pub users_bad : {all : Option (List UserName)} {old : List UserName} {word : List ℕ} {left : List (List ℕ)} → UsersGoing all old (word ∷ left) → option_map (λ user. old ++ user ∷ []) (user_named word) ≡ None → all ≡ None
unfolding users_named
users_bad {old = old} {word = word} {left = left} going none = sym going.whole ∙ no_user old (users_named left) (user_named word) none

pub users_end : {all : Option (List UserName)} {old : List UserName} → UsersGoing all old [] → all ≡ Some old
unfolding users_named
users_end {old = old} going = sym going.whole ∙ ap Some (append-nil old)
