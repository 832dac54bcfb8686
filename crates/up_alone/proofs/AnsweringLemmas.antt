-- A host that is not shared challenges, and is seen on a connection.
use Rattle.std.proofs.Common.{◌≡◌, ℕ, List, Option, Some, refl, sym, subst}
use Rattle.up_alone.specs.Alone.{HostAlone, LooksAlone, alone_at, host_alone}
use Rattle.up_ends.specs.Telling.{Coming, Gives}
use Rattle.up_host.specs.Alone.{HostState}
use Rattle.up_keys.specs.Records.{record_in}
use Rattle.up_names.specs.Texts.{UserName}
use Rattle.up_talk.proofs.ImageLemmas.{completes_through, order_within, talks_through, through}
use Rattle.up_talk.specs.Around.{Ends, Parties, World}
use Rattle.up_talk.specs.Challenges.{Draws, signing_of}
use Rattle.up_talk.specs.Completing.{Completes, IsInOrder, asks_all}
use Rattle.up_talk.specs.Talks.{Talks}
use Rattle.up_talk.specs.Turns.{around, world}
use Rattle.up_talk.specs.declared.end.TalkEnd.{TalkEnd}
use Rattle.up_talk.specs.declared.message.FromClient.{FromClient}
use Rattle.up_wire.specs.declared.keys.KeyRecord.{KeyRecord}

module _ {A D L N : Type 0} (host_of : A → HostState D) (peers_of : A → L) (coming : N → Option (Coming (List ℕ))) where
  -- the next nonce was drawn for a user's record, and nothing else was touched
  pub draws_only : (user : UserName) (a b : A) (n m : N) (card : KeyRecord) (nonce : List ℕ) → Some card ≡ record_in (host_of a).keys.state.log user → host_of b ≡ host_of a → peers_of b ≡ peers_of a → Gives (coming n) nonce (coming m)
      → Draws (λ x. (host_of x).name) (λ x who found y. LooksAlone (host_alone (host_of x) (peers_of x)) who found (host_alone (host_of y) (peers_of y))) coming user a n (signing_of (host_of a).name card nonce) nonce b m
  draws_only user a b n m card nonce is same_host same_peers drawn = record {
    card = card;
    found = record { found_is = sym is; host = same_host; peers = same_peers };
    drawn = drawn;
    signing_is = refl;
  }

module _ {A D L V C N Q R : Type 0} (host_of : A → HostState D) (peers_of : A → L) (tied : A → A → Type 0) (who : Parties (HostAlone D L) V C N Q R) where
  abbrev see : A → HostAlone D L
  see a = host_alone (host_of a) (peers_of a)

  abbrev seen_at : HostAlone D L → V → C → N → Ends → World (HostAlone D L) V C N
  seen_at x v c n e = world (record { answerer = x; verifier = v; clock = c; nonces = n }) e

  -- a connection to whoever has a host is one to that host
  pub talks_seen : (start now : A) (host after : HostState D) (peers then : L) (v w : V) (c d : C) (n m : N) (e f : Ends) (end : TalkEnd) → host_of start ≡ host → peers_of start ≡ peers → host_of now ≡ after → peers_of now ≡ then
      → Talks (through see tied who) (world (around start v c n) e) (world (around now w d m) f) end → Talks who (world (alone_at host peers v c n) e) (world (alone_at after then w d m) f) end
  talks_seen start now host after peers then v w c d n m e f end one two three four talks =
      subst (λ (x : HostAlone D L). Talks who (seen_at x v c n e) (seen_at (host_alone after then) w d m f) end) (λ i. host_alone (one i) (two i))
      (subst (λ (y : HostAlone D L). Talks who (seen_at (see start) v c n e) (seen_at y w d m f) end) (λ i. host_alone (three i) (four i))
      (talks_through see tied who (world (around start v c n) e) (world (around now w d m) f) end talks))

  -- where a client in order gets all its answers
  abbrev EndsWell : World (HostAlone D L) V C N → World (HostAlone D L) V C N → TalkEnd → Type 0
  EndsWell a b end = (text signature : List ℕ) (questions : List Q) (last : List (FromClient Q)) → IsInOrder who a b text signature questions last → Completes who a b (asks_all text signature questions) end

  pub ends_well : (start now : A) (host after : HostState D) (peers then : L) (v w : V) (c d : C) (n m : N) (e f : Ends) (end : TalkEnd) → host_of start ≡ host → peers_of start ≡ peers → host_of now ≡ after → peers_of now ≡ then
      → ((text signature : List ℕ) (questions : List Q) (last : List (FromClient Q)) → IsInOrder (through see tied who) (world (around start v c n) e) (world (around now w d m) f) text signature questions last
      → Completes (through see tied who) (world (around start v c n) e) (world (around now w d m) f) (asks_all text signature questions) end)
      → EndsWell (world (alone_at host peers v c n) e) (world (alone_at after then w d m) f) end
  ends_well start now host after peers then v w c d n m e f end one two three four complete =
      let a = world (around start v c n) e in
      let b = world (around now w d m) f in
      subst (λ (x : HostAlone D L). EndsWell (seen_at x v c n e) (seen_at (host_alone after then) w d m f) end) (λ i. host_alone (one i) (two i))
      (subst (λ (y : HostAlone D L). EndsWell (seen_at (see start) v c n e) (seen_at y w d m f) end) (λ i. host_alone (three i) (four i))
      (λ text signature questions last order. completes_through see tied who a b (asks_all text signature questions) end (complete text signature questions last (order_within see tied who a b text signature questions last order))))
