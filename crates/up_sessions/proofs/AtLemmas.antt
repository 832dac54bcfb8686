-- From a list of hosts to all that is kept of them.
use Rattle.std.proofs.Common.{◌≡◌, ◌<◌, ◌++◌, ◌∷◌, [], ℕ, List, length, take, drop, Option, Some, None, refl, sym, ap, subst, ◌∙◌}
use Rattle.std.specs.Option.{option_and_then}
use Rattle.std.specs.Prelude.{IfSome, slice_get}
use Rattle.up_calls.specs.declared.event.Event.{Event}
use Rattle.up_disk.specs.declared.disk.Disk.{Ghosts}
use Rattle.up_host.specs.Alone.{HostState}
use Rattle.up_host.specs.Settled.{StaysSettled}
use Rattle.up_names.specs.Texts.{UserName}
use Rattle.up_peer.specs.declared.loader.Loader as loader
use Rattle.up_sessions.proofs.KeptLemmas.{kept_one, set_length}
use Rattle.up_sessions.proofs.PlaceLemmas.{replaced, the_others, there}
use Rattle.up_sessions.specs.Asking.{AsksOne}
use Rattle.up_sessions.specs.Kept.{IsKept, OneOf}
use Rattle.up_sessions.specs.Others.{others}
use Rattle.up_sessions.specs.Talking.{answers_at}
use Rattle.up_sessions.specs.Worlds.{AtHost, Hosts, session_at, session_in}
use Rattle.up_sessions.specs.declared.opened.Opened.{Opened}
use Rattle.up_wire.specs.declared.requests.Request.{Request}

module _ {D P : Type 0} where
  -- a list of hosts was cut before and behind one of them, and that one became another
  pub one_of : (hosts later before after : List (HostState D)) (host next : HostState D) (place : ℕ) (old new : P) (did : List (HostState D) → HostState D → HostState D → P → P → Type 0)
      → hosts ≡ before ++ host ∷ after → length before ≡ place → later ≡ before ++ next ∷ after → did (before ++ after) host next old new → OneOf place (did (others place hosts)) hosts old later new
  one_of hosts later before after host next place old new did is at then done = record {
    before = host;
    after = next;
    there = there hosts before after host place is at;
    whole = then ∙ replaced hosts before after host next place is at;
    done = subst (λ hs. did hs host next old new) (sym (the_others hosts before after host place is at)) done;
  }

  -- one of the hosts became another one, and all else stays
  pub at_host : (a b : Hosts D) (place : ℕ) (did : HostState D → HostState D → P → P → Type 0) (old new : P) → OneOf place did a.hosts old b.hosts new → b.sessions ≡ a.sessions → b.free ≡ a.free
      → AtHost place (λ host after. did host after old new) a b
  at_host a b place did old new one sessions free = record {
    before = one.before;
    after = one.after;
    there = one.there;
    whole = λ j. record { hosts = one.whole j; sessions = sessions j; free = free j };
    done = one.done;
  }

-- what holds of the session at a number
pub at_session : (found : Option Opened) (opened : Opened) (P : Opened → Type 0) → found ≡ Some opened → P opened → IfSome found P
at_session found opened P is holds = subst (λ f. IfSome f P) (sym is) holds

-- a list that was written in front of another one is its first items
first_of : {X : Type 0} (xs ys : List X) → xs ≡ take (length xs) (xs ++ ys)
first_of [] ys = refl
first_of (x ∷ xs) ys = ap (λ zs. x ∷ zs) (first_of xs ys)

-- a list of as many items was written over another one
written : {X : Type 0} (later items : List X) (many : ℕ) → length later ≡ many → later ≡ take many (later ++ drop (length later) items)
written later items many is = subst (λ n. later ≡ take n (later ++ drop (length later) items)) is (first_of later (drop (length later) items))

module _ {D P : Type 0} where
  -- what came of a call is an answer with its reply
  pub answered : (disks : Ghosts D) (loader : loader.Ghosts P) (place : ℕ) (user : UserName) (moment : ℕ) (request : Request) (e : Event) (hosts later : List (HostState D)) (old new : P)
      → OneOf place (AsksOne disks loader (others place hosts) (record { user = user; request = request }) moment e) hosts old later new → answers_at disks loader place user moment (hosts, old) request (Some e.reply) (later, new)
  answered disks loader place user moment request e hosts later old new one = record {
    before = one.before;
    after = one.after;
    there = one.there;
    whole = one.whole;
    done = (e, refl, one.done);
  }

  -- where a host of a list became another one, the list is as long as before, also as it was at last
  as_long : (place many : ℕ) (did : HostState D → HostState D → P → P → Type 0) (hosts later last : List (HostState D)) (old new : P) → last ≡ later → length hosts ≡ many → OneOf place did hosts old later new → length last ≡ many
  as_long place many did hosts later last old new ends long one = ap length ends ∙ (ap length one.whole ∙ (set_length hosts place one.after ∙ long))

  -- the host of the session at a number became another one, in a list that was written over the old one, and all else stays
  pub at_opened : (a b : Hosts D) (items hosts later last : List (HostState D)) (many number : ℕ) (opened : Opened) (did : Opened → List (HostState D) → HostState D → HostState D → P → P → Type 0) (old new end : P)
      → hosts ≡ items → items ≡ a.hosts → length hosts ≡ many → last ≡ later → b.hosts ≡ take many (last ++ drop (length last) items) → end ≡ new → session_at a number ≡ Some opened → OneOf opened.place (did opened hosts) hosts old later new
      → b.sessions ≡ a.sessions → b.free ≡ a.free → IfSome (session_at a number) (λ opened. AtHost opened.place (λ host after. did opened a.hosts host after old end) a b)
  at_opened a b items hosts later last many number opened did old new end same all long ends whole also is one sessions free =
      at_session (session_at a number) opened (λ opened. AtHost opened.place (λ host after. did opened a.hosts host after old end) a b) is
      (at_host a b opened.place (did opened a.hosts) old end
      (subst (λ p. OneOf opened.place (did opened a.hosts) a.hosts old b.hosts p) (sym also)
      (subst (λ hs. OneOf opened.place (did opened hs) hs old b.hosts new) (same ∙ all)
      (subst (λ hs. OneOf opened.place (did opened hosts) hosts old hs new) (sym ends ∙ (written last items many (as_long opened.place many (did opened hosts) hosts later last old new ends long one) ∙ sym whole)) one))) sessions free)

  -- what is kept of the hosts stays, where the logs of that one stay settled
  pub kept_over : (disks : Ghosts D) (place : ℕ) (did : HostState D → HostState D → P → P → Type 0) (items hosts later last : List (HostState D)) (sessions : List (Option Opened)) (spare many : ℕ) (old new : P)
      → hosts ≡ items → length hosts ≡ many → last ≡ later → IsKept items sessions spare → (one : OneOf place did hosts old later new) → StaysSettled disks one.before one.after
      → IsKept (take many (last ++ drop (length last) items)) sessions spare
  kept_over disks place did items hosts later last sessions spare many old new same long ends kept one stays =
      subst (λ hs. IsKept hs sessions spare) (sym ends ∙ written last items many (as_long place many did hosts later last old new ends long one))
      (kept_one disks place did hosts later sessions spare old new (subst (λ hs. IsKept hs sessions spare) (sym same) kept) one stays)

-- the session at a number stands in the list
open_there : (sessions : List (Option Opened)) (number : ℕ) (opened : Opened) → session_in sessions number ≡ Some opened → slice_get sessions number ≡ Some (Some opened)
open_there sessions number opened is = go (slice_get sessions number) is
  where
    go : (found : Option (Option Opened)) → option_and_then (λ session. session) found ≡ Some opened → found ≡ Some (Some opened)
    go (Some (Some other)) is = ap Some is
    go (Some None) is = absurd (cc)
    go None is = absurd (cc)

-- it is at one of the hosts
pub place_within : {D : Type 0} (items hosts : List (HostState D)) (sessions : List (Option Opened)) (spare number : ℕ) (opened : Opened) → IsKept items sessions spare → hosts ≡ items
    → session_in sessions number ≡ Some opened → opened.place < length hosts
place_within items hosts sessions spare number opened kept same is =
    subst (λ hs. opened.place < length hs) (sym same) (kept.places number opened (open_there sessions number opened is))
