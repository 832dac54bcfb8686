-- A host that many share challenges, and is seen on a connection.
use Rattle.std.proofs.Common.{◌≡◌, ℕ, List, Option, true, false, Some, None, Err, refl, sym, subst, take}
use Rattle.std.specs.Prelude.{is_some, Ok}
use Rattle.std.specs.String.{string_bytes}
use Rattle.std.specs.declared.alloc.AllocError.{AllocError}
use Rattle.up_ends.specs.Telling.{Coming, Gives}
use Rattle.up_keys.specs.Records.{record_in}
use Rattle.up_names.specs.Texts.{UserName}
use Rattle.up_cell.specs.Known.{Onward}
use Rattle.up_shared.specs.Callers.{seats_same}
use Rattle.up_shared.specs.Records.{IsKeyOf, LooksAtKeys}
use Rattle.up_shared.specs.Sharing.{EachPair, SeatsLater, TreeSeatLater}
use Rattle.up_shared.specs.declared.shared.Seats.{Seats}
use Rattle.up_shared.specs.declared.shared.Shared.{Shared}
use Rattle.up_sign.specs.SigningOn.{Signing}
use Rattle.up_talk.proofs.ImageLemmas.{completes_through, order_within, talks_through, through}
use Rattle.up_talk.specs.Around.{Ends, Parties, World}
use Rattle.up_talk.specs.Challenges.{Draws, signing_of}
use Rattle.up_talk.specs.Completing.{Completes, IsInOrder, asks_all}
use Rattle.up_talk.specs.Talks.{Talks}
use Rattle.up_talk.specs.Turns.{around, world}
use Rattle.up_talk.specs.declared.end.TalkEnd.{TalkEnd}
use Rattle.up_talk.specs.declared.message.FromClient.{FromClient}
use Rattle.up_together.specs.Together.{HostTogether, LooksTogether, host_together, together_at}
use Rattle.up_wire.specs.declared.keys.KeyRecord.{KeyRecord}

-- what is there
record Held {X : Type 0} (there : Option X) : Type 0 where
  pub x : X
  pub is : there ≡ Some x

false_true : false ≡ true → ⊥
false_true e = cc

held : {X : Type 0} (there : Option X) → is_some there ≡ true → Held there
held (Some x) e = record { x = x; is = refl }
held None e = absurd (false_true e)

-- a look at the keys leaves the seats as every call does
pub looks_later : {D : Type 0} (a b : Seats D) → LooksAtKeys a b → SeatsLater a b
looks_later a b h =
    let same = seats_same a in
    record {
      trees = subst (λ xs. EachPair TreeSeatLater a.trees.items xs.items) (sym h.trees) same.trees;
      store = subst (Onward a.store) (sym h.store) same.store;
      store_limits = h.store_limits;
      keys = h.keys;
      keys_limits = h.keys_limits;
    }

module _ {A D L N : Type 0} (shared_of : A → Shared D) (seats_of : A → Seats D) (peers_of : A → L) (coming : N → Option (Coming (List ℕ))) where
  -- what is seen of who answers
  abbrev see : A → HostTogether D L
  see x = host_together (shared_of x) (seats_of x) (peers_of x)

  abbrev pub DrawsHere : UserName → A → N → Signing → List ℕ → A → N → Type 0
  DrawsHere user a n signing nonce b m = Draws (λ x. string_bytes (shared_of x).name) (λ x who found y. LooksTogether (see x) who found (see y)) coming user a n signing nonce b m

  -- the next nonce was drawn for a user's record
  pub draws_only : (user : UserName) (a b : A) (n m : N) (card : KeyRecord) (nonce : List ℕ) → IsKeyOf {E = AllocError} (seats_of a).keys (seats_of b).keys user (Ok (Some card)) → LooksAtKeys (seats_of a) (seats_of b)
      → shared_of b ≡ shared_of a → peers_of b ≡ peers_of a → Gives (coming n) nonce (coming m) → DrawsHere user a n (signing_of (string_bytes (shared_of a).name) card nonce) nonce b m
  draws_only user a b n m card nonce is looks same_host same_peers drawn = record {
    card = card;
    found = record { found_is = is; looks = looks; host = same_host; peers = same_peers };
    drawn = drawn;
    signing_is = refl;
  }

  -- so too where there was no memory for a copy of it
  pub draws_unheld : (user : UserName) (a b : A) (n m : N) (nonce : List ℕ) (e : AllocError) → IsKeyOf {E = AllocError} (seats_of a).keys (seats_of b).keys user (Err e) → LooksAtKeys (seats_of a) (seats_of b)
      → shared_of b ≡ shared_of a → peers_of b ≡ peers_of a → Gives (coming n) nonce (coming m) → (signing : Signing) × ((given : List ℕ) × DrawsHere user a n signing given b m)
  draws_unheld user a b n m nonce e is looks same_host same_peers drawn =
      let card = held (record_in (take is.position (seats_of b).keys.seen) user) is.is in
      (_, (nonce, draws_only user a b n m card.x nonce (record { position = is.position; from = is.from; to = is.to; is = sym card.is }) looks same_host same_peers drawn))

module _ {A D L V C N Q R : Type 0} (shared_of : A → Shared D) (seats_of : A → Seats D) (peers_of : A → L) (tied : A → A → Type 0) (who : Parties (HostTogether D L) V C N Q R) where
  abbrev seen : A → HostTogether D L
  seen a = host_together (shared_of a) (seats_of a) (peers_of a)

  abbrev seen_at : HostTogether D L → V → C → N → Ends → World (HostTogether D L) V C N
  seen_at x v c n e = world (record { answerer = x; verifier = v; clock = c; nonces = n }) e

  -- a connection to whoever has seats at a host is one to that host
  pub talks_seen : (start now : A) (host after : Shared D) (seats left : Seats D) (peers then : L) (v w : V) (c d : C) (n m : N) (e f : Ends) (end : TalkEnd)
      → shared_of start ≡ host → seats_of start ≡ seats → peers_of start ≡ peers → shared_of now ≡ after → seats_of now ≡ left → peers_of now ≡ then
      → Talks (through seen tied who) (world (around start v c n) e) (world (around now w d m) f) end → Talks who (world (together_at host seats peers v c n) e) (world (together_at after left then w d m) f) end
  talks_seen start now host after seats left peers then v w c d n m e f end one two three four five six talks =
      subst (λ (x : HostTogether D L). Talks who (seen_at x v c n e) (seen_at (host_together after left then) w d m f) end) (λ i. host_together (one i) (two i) (three i))
      (subst (λ (y : HostTogether D L). Talks who (seen_at (seen start) v c n e) (seen_at y w d m f) end) (λ i. host_together (four i) (five i) (six i))
      (talks_through seen tied who (world (around start v c n) e) (world (around now w d m) f) end talks))

  -- where a client in order gets all its answers
  abbrev EndsWell : World (HostTogether D L) V C N → World (HostTogether D L) V C N → TalkEnd → Type 0
  EndsWell a b end = (text signature : List ℕ) (questions : List Q) (last : List (FromClient Q)) → IsInOrder who a b text signature questions last → Completes who a b (asks_all text signature questions) end

  pub ends_well : (start now : A) (host after : Shared D) (seats left : Seats D) (peers then : L) (v w : V) (c d : C) (n m : N) (e f : Ends) (end : TalkEnd)
      → shared_of start ≡ host → seats_of start ≡ seats → peers_of start ≡ peers → shared_of now ≡ after → seats_of now ≡ left → peers_of now ≡ then
      → ((text signature : List ℕ) (questions : List Q) (last : List (FromClient Q)) → IsInOrder (through seen tied who) (world (around start v c n) e) (world (around now w d m) f) text signature questions last
      → Completes (through seen tied who) (world (around start v c n) e) (world (around now w d m) f) (asks_all text signature questions) end)
      → EndsWell (world (together_at host seats peers v c n) e) (world (together_at after left then w d m) f) end
  ends_well start now host after seats left peers then v w c d n m e f end one two three four five six complete =
      let a = world (around start v c n) e in
      let b = world (around now w d m) f in
      subst (λ (x : HostTogether D L). EndsWell (seen_at x v c n e) (seen_at (host_together after left then) w d m f) end) (λ i. host_together (one i) (two i) (three i))
      (subst (λ (y : HostTogether D L). EndsWell (seen_at (seen start) v c n e) (seen_at y w d m f) end) (λ i. host_together (four i) (five i) (six i))
      (λ text signature questions given order. completes_through seen tied who a b (asks_all text signature questions) end (complete text signature questions given (order_within seen tied who a b text signature questions given order))))
