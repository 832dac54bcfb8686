-- How fetching goes on, while others may write to the store.
use Rattle.std.proofs.Common.{◌≡◌, ◌||◌, ℕ, Bool, true, false, List, [], ◌∷◌, ◌++◌, take, refl, sym, ap, subst, ◌∙◌, inl, inr, arith, append_assoc, append-nil}
use Rattle.std.specs.List.{list_any}
use Rattle.std.proofs.lemmas.Bool.{false≢true}
use Rattle.std.proofs.lemmas.List.{take-append-le}
use Rattle.std.proofs.lemmas.List.Folds.{list_any-append}
use Rattle.up_answers.specs.Fetching.{Fetched, is_failed}
use Rattle.up_calls.proofs.AsksLemmas.{All-append, All-map, Asks-none, Asks-trans, Rose-left, Rose-right}
use Rattle.up_calls.specs.Blocks.{Got, GivenBy, IsFromStore, IsGiven, OwnBlock, OwnBlocks, block_answer, block_question}
use Rattle.up_calls.specs.Gathered.{BlockGathered, BlocksGathered, own_failed}
use Rattle.up_calls.specs.Views.{LaterSeen, SeenStore}
use Rattle.up_entry.specs.declared.entries.Endpoint.{Endpoint}
use Rattle.up_entry.specs.declared.entries.Endpoint.TheVariants as endpoint
use Rattle.up_entry.specs.declared.entries.Location.{Location}
use Rattle.up_entry.specs.declared.fetch.Fetch.{Fetch}
use Rattle.up_lists.proofs.BeginsLemmas.{length-Begins}
use Rattle.up_peer.specs.declared.loader.Loader.{Ghosts}

-- ---- what the store gave is told of a longer call

given_wider : (u v w x : SeenStore) → LaterSeen u v → LaterSeen w x → (reference : List ℕ) (given : Fetch) → IsGiven v w reference given → IsGiven u x reference given
given_wider u v w x before after reference given h =
    let shorter = length-Begins before.begins in
    let longer = length-Begins after.begins in
    let cut : take h.position x.seen ≡ take h.position w.seen = ap (take h.position) (sym after.begins.whole) ∙ take-append-le h.position w.seen after.begins.rest h.to in
    record {
      position = h.position;
      from = omega (arith, h.from, shorter);
      to = omega (arith, h.to, longer);
      by = subst (λ log. GivenBy log reference given) (sym cut) h.by;
    }

from_wider : (u v w x : SeenStore) → LaterSeen u v → LaterSeen v w → LaterSeen w x → (reference : List ℕ) (given : Fetch) → IsFromStore v w reference given → IsFromStore u x reference given
from_wider u v w x before within after reference given (inl h) = inl (given_wider u v w x before after reference given h)
from_wider u v w x before within after reference given (inr h) = inr (h.0, Rose-left u.failed w.failed x.failed (Rose-right u.failed v.failed w.failed before.failed h.1 within.failed) after.failed)

own_wider : (u v w x : SeenStore) → LaterSeen u v → LaterSeen v w → LaterSeen w x → (at : Endpoint) (reference : List ℕ) (given : Fetch) → OwnBlock v w at reference given → OwnBlock u x at reference given
own_wider u v w x before within after endpoint.Local reference given h = from_wider u v w x before within after reference given h
own_wider u v w x before within after (endpoint.Address address) reference given h = tt

pub later_self : (v : SeenStore) → LaterSeen v v
later_self v = record { begins = record { rest = []; whole = append-nil v.seen }; failed = omega arith; fixed = refl }

all_wider : (u v w x : SeenStore) → LaterSeen u v → LaterSeen v w → LaterSeen w x → (fetched : Fetched) → OwnBlocks v w fetched → OwnBlocks u x fetched
all_wider u v w x before within after fetched h =
    All-map (λ (got : Got). OwnBlock v w got.0.endpoint got.0.reference got.1) (λ (got : Got). OwnBlock u x got.0.endpoint got.0.reference got.1)
    (λ got. own_wider u v w x before within after got.0.endpoint got.0.reference got.1) fetched h

-- ---- one block

or_false : (b : Bool) → (b || false) ≡ true → b ≡ true
or_false true h = refl
or_false false h = absurd (cc)

module _ {L : Type 0} (loader : Ghosts L) (rises : Type 0) (v w : SeenStore) where
  -- behind what was fetched
  pub blocks_one : (old new : L) (before : Fetched) (location : Location) (given : Fetch) → BlockGathered loader rises v w old new location given
      → BlocksGathered loader rises v w old new before (before ++ (location, given) ∷ [])
  blocks_one old new before location given h = record {
    more = (location, given) ∷ [];
    whole = refl;
    own = (h.own, tt);
    rose = λ e. h.rose (or_false (own_failed location.endpoint given) e);
    asks = h.asks;
  }

-- ---- all of them

or_cases : (p q : Bool) (C : Type 0) → (p || q) ≡ true → (p ≡ true → C) → (q ≡ true → C) → C
or_cases true q C h f g = f refl
or_cases false q C h f g = g h

module _ {L : Type 0} (loader : Ghosts L) where
  pub blocks_none : ((l : L) → loader.tied l l) → (rises : Type 0) (v w : SeenStore) (l : L) (before : Fetched) → BlocksGathered loader rises v w l l before before
  blocks_none same rises v w l before = record {
    more = [];
    whole = sym (append-nil before);
    own = tt;
    rose = λ h. absurd (false≢true h);
    asks = Asks-none loader.fetches loader.faults loader.tied is_failed block_question block_answer same l;
  }

  pub blocks_trans : ((x y z : L) → loader.tied x y → loader.tied y z → loader.tied x z) → {r s t : Type 0} → (r → t) → (s → t) → (u v w : SeenStore) → LaterSeen u v → LaterSeen v w → (x y z : L) (first second third : Fetched)
      → BlocksGathered loader r u v x y first second → BlocksGathered loader s v w y z second third → BlocksGathered loader t u w x z first third
  blocks_trans joined {r} {s} {t} up over u v w to on x y z first second third one two = record {
    more = one.more ++ two.more;
    whole = two.whole ∙ ap (λ xs. xs ++ two.more) one.whole ∙ append_assoc first one.more two.more;
    own = All-append (λ (got : Got). OwnBlock u w got.0.endpoint got.0.reference got.1) one.more two.more
        (all_wider u u v w (later_self u) to on one.more one.own) (all_wider u v w w to on (later_self w) two.more two.own);
    rose = λ h. or_cases (list_any (λ (got : Got). own_failed got.0.endpoint got.1) one.more) (list_any (λ (got : Got). own_failed got.0.endpoint got.1) two.more) t
        (sym (list_any-append (λ (got : Got). own_failed got.0.endpoint got.1) one.more two.more) ∙ h) (λ e. up (one.rose e)) (λ e. over (two.rose e));
    asks = Asks-trans loader.fetches loader.faults loader.tied is_failed block_question block_answer joined x y z one.more two.more one.asks two.asks;
  }

  -- told of a longer call
  pub blocks_until : {r t : Type 0} → (r → t) → (u v w : SeenStore) → LaterSeen u v → LaterSeen v w → (x y : L) (before after : Fetched) → BlocksGathered loader r u v x y before after → BlocksGathered loader t u w x y before after
  blocks_until up u v w to on x y before after one = record {
    more = one.more;
    whole = one.whole;
    own = all_wider u u v w (later_self u) to on one.more one.own;
    rose = λ h. up (one.rose h);
    asks = one.asks;
  }
