-- A list is read thing by thing.
use Rattle.std.proofs.Common.{◌≡◌, ◌∙◌, ℕ, Bool, true, false, List, [], ◌∷◌, ◌++◌, Option, None, Some, option_map, is_some, refl, sym, ap, append_assoc}
use Rattle.std.proofs.lemmas.Bool.{true≢false}
use Rattle.std.proofs.lemmas.List.{append-nil}
use Rattle.up_entry.specs.declared.entries.Block.{Block}
use Rattle.up_entry.specs.declared.entries.Endpoint.{Endpoint}
use Rattle.up_text.specs.Lists.{◌>>=◌, all_endpoints, block_at, blocks_from, endpoint_named, offset_behind, with_block}

-- what was read so far, and in front of it what is left
abbrev pub behind_front : {X : Type 0} → List X → Option (List X) → Option (List X)
behind_front front rest = option_map (λ others. front ++ others) rest

pub behind_all : {X : Type 0} (front : List X) → behind_front front (Some []) ≡ Some front
behind_all front = ap Some (append-nil front)

pub behind_push : {X : Type 0} (front : List X) (x : X) (rest : Option (List X)) → behind_front front (rest >>= λ others. Some (x ∷ others)) ≡ behind_front (front ++ x ∷ []) rest
behind_push front x None = refl
behind_push front x (Some others) = ap Some (sym (append_assoc front (x ∷ []) others))

some_parts : {X : Type 0} {x y : X} → Some x ≡ Some y → x ≡ y
some_parts is = cc

absurd_none : {X : Type 0} {A : Type 0} {x : X} → None ≡ Some x → A
absurd_none is = absurd (true≢false (sym (ap is_some is)))

-- ---- blocks

-- the blocks so far, and those of the pieces that are left, are all of them
pub record BlocksGoing (all : Option (List Block)) (so_far : List Block) (offset : Option ℕ) (left : List (List ℕ)) : Type 0 where
  pub whole : behind_front so_far (blocks_from offset left) ≡ all

next_block : (old new : List Block) (next : Option ℕ) (left : List (List ℕ)) (found : Option Block) →
    option_map (with_block old) found ≡ Some (new, next) →
    behind_front old (found >>= λ first. blocks_from (offset_behind first) left >>= λ others. Some (first ∷ others)) ≡ behind_front new (blocks_from next left)
next_block old new next left None took = absurd_none took
next_block old new next left (Some b) took =
    behind_push old b (blocks_from (offset_behind b) left)
    ∙ ap (λ state. behind_front state.0 (blocks_from state.1 left)) (some_parts took)

pub blocks_step : {all : Option (List Block)} {old : List Block} {offset : Option ℕ} {piece : List ℕ} {left : List (List ℕ)} →
    BlocksGoing all old offset (piece ∷ left) → (new : List Block) (next : Option ℕ) →
    option_map (with_block old) (block_at offset piece) ≡ Some (new, next) →
    BlocksGoing all new next left
unfolding blocks_from
blocks_step {all = all} {old = old} {offset = offset} {piece = piece} {left = left} going new next took =
    record { whole = sym (next_block old new next left (block_at offset piece) took) ∙ going.whole }

no_block : (old : List Block) (left : List (List ℕ)) (found : Option Block) →
    option_map (with_block old) found ≡ None →
    behind_front old (found >>= λ first. blocks_from (offset_behind first) left >>= λ others. Some (first ∷ others)) ≡ None
no_block old left None none = refl
no_block old left (Some b) none = absurd_none (sym none)

pub blocks_bad : {all : Option (List Block)} {old : List Block} {offset : Option ℕ} {piece : List ℕ} {left : List (List ℕ)} →
    BlocksGoing all old offset (piece ∷ left) →
    option_map (with_block old) (block_at offset piece) ≡ None →
    all ≡ None
unfolding blocks_from
blocks_bad {old = old} {offset = offset} {piece = piece} {left = left} going none =
    sym going.whole ∙ no_block old left (block_at offset piece) none

pub blocks_end : {all : Option (List Block)} {old : List Block} {offset : Option ℕ} → BlocksGoing all old offset [] → all ≡ Some old
unfolding blocks_from
blocks_end {old = old} going = sym going.whole ∙ behind_all old

-- ---- whether there are blocks

pub record FitsGoing (all : Bool) (offset : Option ℕ) (left : List (List ℕ)) : Type 0 where
  pub whole : is_some (blocks_from offset left) ≡ all

next_fits : (next : Option ℕ) (left : List (List ℕ)) (found : Option Block) →
    option_map (λ b. offset_behind b) found ≡ Some next →
    is_some (found >>= λ first. blocks_from (offset_behind first) left >>= λ others. Some (first ∷ others)) ≡ is_some (blocks_from next left)
next_fits next left None took = absurd_none took
next_fits next left (Some b) took = some_others b (blocks_from (offset_behind b) left) ∙ ap (λ o. is_some (blocks_from o left)) (some_parts took) where
  some_others : (b : Block) (rest : Option (List Block)) → is_some (rest >>= λ others. Some (b ∷ others)) ≡ is_some rest
  some_others b None = refl
  some_others b (Some others) = refl

pub fits_step : {all : Bool} {offset : Option ℕ} {piece : List ℕ} {left : List (List ℕ)} →
    FitsGoing all offset (piece ∷ left) → (next : Option ℕ) →
    option_map (λ b. offset_behind b) (block_at offset piece) ≡ Some next → FitsGoing all next left
unfolding blocks_from
fits_step {offset = offset} {piece = piece} {left = left} going next took =
    record { whole = sym (next_fits next left (block_at offset piece) took) ∙ going.whole }

no_fit : (left : List (List ℕ)) (found : Option Block) →
    option_map (λ b. offset_behind b) found ≡ None →
    is_some (found >>= λ first. blocks_from (offset_behind first) left >>= λ others. Some (first ∷ others)) ≡ false
no_fit left None none = refl
no_fit left (Some b) none = absurd_none (sym none)

pub fits_bad : {all : Bool} {offset : Option ℕ} {piece : List ℕ} {left : List (List ℕ)} →
    FitsGoing all offset (piece ∷ left) → option_map (λ b. offset_behind b) (block_at offset piece) ≡ None → all ≡ false
unfolding blocks_from
fits_bad {offset = offset} {piece = piece} {left = left} going none = sym going.whole ∙ no_fit left (block_at offset piece) none

pub fits_end : {all : Bool} {offset : Option ℕ} → FitsGoing all offset [] → all ≡ true
unfolding blocks_from
fits_end going = sym going.whole

-- ---- endpoints

pub record EndpointsGoing (all : Option (List Endpoint)) (so_far : List Endpoint) (left : List (List ℕ)) : Type 0 where
  pub whole : behind_front so_far (all_endpoints left) ≡ all

next_endpoint : (old new : List Endpoint) (left : List (List ℕ)) (found : Option Endpoint) →
    option_map (λ e. old ++ e ∷ []) found ≡ Some new →
    behind_front old (found >>= λ first. all_endpoints left >>= λ others. Some (first ∷ others)) ≡ behind_front new (all_endpoints left)
next_endpoint old new left None took = absurd_none took
next_endpoint old new left (Some e) took =
    behind_push old e (all_endpoints left) ∙ ap (λ state. behind_front state (all_endpoints left)) (some_parts took)

pub endpoints_step : {all : Option (List Endpoint)} {old : List Endpoint} {piece : List ℕ} {left : List (List ℕ)} →
    EndpointsGoing all old (piece ∷ left) → (new : List Endpoint) →
    option_map (λ e. old ++ e ∷ []) (endpoint_named piece) ≡ Some new → EndpointsGoing all new left
unfolding all_endpoints
endpoints_step {old = old} {piece = piece} {left = left} going new took =
    record { whole = sym (next_endpoint old new left (endpoint_named piece) took) ∙ going.whole }

no_endpoint : (old : List Endpoint) (left : List (List ℕ)) (found : Option Endpoint) →
    option_map (λ e. old ++ e ∷ []) found ≡ None →
    behind_front old (found >>= λ first. all_endpoints left >>= λ others. Some (first ∷ others)) ≡ None
no_endpoint old left None none = refl
no_endpoint old left (Some e) none = absurd_none (sym none)

pub endpoints_bad : {all : Option (List Endpoint)} {old : List Endpoint} {piece : List ℕ} {left : List (List ℕ)} →
    EndpointsGoing all old (piece ∷ left) → option_map (λ e. old ++ e ∷ []) (endpoint_named piece) ≡ None → all ≡ None
unfolding all_endpoints
endpoints_bad {old = old} {piece = piece} {left = left} going none = sym going.whole ∙ no_endpoint old left (endpoint_named piece) none

pub endpoints_end : {all : Option (List Endpoint)} {old : List Endpoint} → EndpointsGoing all old [] → all ≡ Some old
unfolding all_endpoints
endpoints_end {old = old} going = sym going.whole ∙ behind_all old

-- whether each piece is one
pub record EachGoing (all : Bool) (left : List (List ℕ)) : Type 0 where
  pub whole : is_some (all_endpoints left) ≡ all

next_each : (left : List (List ℕ)) (found : Option Endpoint) → is_some found ≡ true →
    is_some (found >>= λ first. all_endpoints left >>= λ others. Some (first ∷ others)) ≡ is_some (all_endpoints left)
next_each left None is = absurd (true≢false (sym is))
next_each left (Some e) is = some_others e (all_endpoints left) where
  some_others : (e : Endpoint) (rest : Option (List Endpoint)) → is_some (rest >>= λ others. Some (e ∷ others)) ≡ is_some rest
  some_others e None = refl
  some_others e (Some others) = refl

pub each_step : {all : Bool} {piece : List ℕ} {left : List (List ℕ)} →
    EachGoing all (piece ∷ left) → is_some (endpoint_named piece) ≡ true → EachGoing all left
unfolding all_endpoints
each_step {piece = piece} {left = left} going is = record { whole = sym (next_each left (endpoint_named piece) is) ∙ going.whole }

no_each : (left : List (List ℕ)) (found : Option Endpoint) → is_some found ≡ false →
    is_some (found >>= λ first. all_endpoints left >>= λ others. Some (first ∷ others)) ≡ false
no_each left None is = refl
no_each left (Some e) is = absurd (true≢false is)

pub each_bad : {all : Bool} {piece : List ℕ} {left : List (List ℕ)} →
    EachGoing all (piece ∷ left) → is_some (endpoint_named piece) ≡ false → all ≡ false
unfolding all_endpoints
each_bad {piece = piece} {left = left} going is = sym going.whole ∙ no_each left (endpoint_named piece) is

pub each_end : {all : Bool} → EachGoing all [] → all ≡ true
unfolding all_endpoints
each_end going = sym going.whole
