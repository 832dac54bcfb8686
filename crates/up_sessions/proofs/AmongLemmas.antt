-- A host among others is asked, over an object that holds what stands behind it; and a client talks with it, over an object that holds all.
use Rattle.std.proofs.Common.{◌≡◌, ◌<◌, ◌++◌, length, ℕ, ℤ, SFits, to_z, of_z, w64, List, Option, Some, Result, refl, sym, ap, subst, ◌∙◌}
use Rattle.std.proofs.Math.Facts.{to_z-of_z}
use Rattle.std.specs.List.{find}
use Rattle.std.specs.Prelude.{slice_get, slice_set}
use Rattle.up_client.specs.Putting.{put_talk}
use Rattle.up_client.specs.Talks.{Held, Talking}
use Rattle.up_client.specs.declared.fault.ClientFault.{ClientFault}
use Rattle.up_disk.specs.declared.disk.Disk as disk
use Rattle.up_host.specs.Alike.{TellsNoMore}
use Rattle.up_host.specs.Alone.{Counts, HostState, IsAlone, RisesAsShown, disk_faults, views}
use Rattle.up_host.specs.Calls.{Asked}
use Rattle.up_host.specs.Routes.{Question}
use Rattle.up_calls.specs.declared.event.Event.{Event}
use Rattle.up_names.specs.PathNames.{PathName}
use Rattle.up_names.specs.Texts.{UserName}
use Rattle.up_peer.specs.declared.loader.Loader.{Ghosts}
use Rattle.up_sessions.proofs.PlaceLemmas.{one_there, others_stay, set_same, set_there, set_twice}
use Rattle.up_sessions.proofs.OddLemmas.{Any, Comes, ComesTo}
use Rattle.up_sessions.proofs.IoLemmas.{IoByReply}
use Rattle.up_sessions.proofs.SeenLemmas.{IsSeenAs, asked_seen}
use Rattle.up_sessions.proofs.TalkLemmas.{held_seen, talks_whole}
use Rattle.up_sessions.specs.Asking.{AsksOne, StaysHost}
use Rattle.up_sessions.specs.Kept.{OneOf}
use Rattle.up_sessions.specs.Others.{LoadsFirst, behind, has_tree, others}
use Rattle.up_sessions.specs.Talking.{TalksTo, answers_as, answers_at}
use Rattle.up_wire.specs.declared.replies.Reply.{Reply}
use Rattle.up_wire.specs.declared.requests.Request.{Request}

-- an object with the hosts before and after the asked one, and the peers
module _ {D P L : Type 0} (near : Ghosts P) (peers : L → P) (before after : L → List (HostState D)) (named : L → L → Type 0) where
  -- as a loader
  abbrev pub far : Ghosts L
  far = record {
    loads = λ old question answer new.
        LoadsFirst near (find (has_tree question.name.owner) (before old ++ after old)) (peers old) question answer (peers new) × (before new ≡ before old) × (after new ≡ after old);
    fetches = λ old question answer new. near.fetches (peers old) question answer (peers new) × (before new ≡ before old) × (after new ≡ after old);
    faults = λ held. near.faults (peers held);
    tied = λ old new. named old new × near.tied (peers old) (peers new) × (before new ≡ before old) × (after new ≡ after old);
  }

  -- it is seen as what stands behind the host
  seen_behind : (hosts : List (HostState D)) → IsSeenAs peers (λ held. before held ++ after held ≡ hosts) far (behind near hosts)
  seen_behind hosts = record {
    loads = λ a b q x is step. (subst (λ hs. LoadsFirst near (find (has_tree q.name.owner) hs) (peers a) q x (peers b)) is step.0, (λ i. step.1 i ++ step.2 i) ∙ is);
    fetches = λ a b q x is step. (step.0, (λ i. step.1 i ++ step.2 i) ∙ is);
    faults = λ a. refl;
    tied = λ a b tie. tie.1;
  }

  -- so a call of the host over the object is one over what stands behind it
  pub asks_among : (disks : disk.Ghosts D) (q : Question) (moment : ℕ) (e : Event) (host then : HostState D) (old new : L) (last : P) → last ≡ peers new
      → Asked far host.operator (views disks host) old q e (views disks then) new → IsAlone (views disks host) (views disks then) q e → TellsNoMore (views disks then) q e
      → Counts (disk_faults disks host) (disk_faults disks then) (near.faults (peers old)) (near.faults (peers new)) e → RisesAsShown (views disks host) (views disks then) q e → e.moment ≡ moment → StaysHost disks host then
      → AsksOne disks near (before old ++ after old) q moment e host then (peers old) last
  asks_among disks q moment e host then old new last is asked alone alike counts quiet moment_is stays =
      subst (λ p. AsksOne disks near (before old ++ after old) q moment e host then (peers old) p) (sym is) (record {
        asked = (asked_seen peers (λ held. before held ++ after held ≡ before old ++ after old) far (behind near (before old ++ after old)) (seen_behind (before old ++ after old)) host.operator (views disks host) (views disks then) old new q e refl asked).0;
        alone = alone;
        alike = alike;
        counts = counts;
        quiet = quiet;
        moment_is = moment_is;
        stays = stays;
      })

-- an object with all hosts, a place among them, the peers, a session and a moment
module _ {D P S N : Type 0} (disks : disk.Ghosts D) (loader : Ghosts P) (hosts : S → List (HostState D)) (peers : S → P) (place : S → ℕ) (session : S → N) (user : N → UserName) (moment : S → ℕ) where
  -- as whom it is asked
  abbrev pub answers_in : S → Request → Option Reply → S → Type 0
  answers_in old request given new =
      answers_at disks loader (place old) (user (session old)) (moment old) (hosts old, peers old) request given (hosts new, peers new)
      × (place new ≡ place old) × (session new ≡ session old) × (moment new ≡ moment old)

  -- what is seen of it: the host at the place, and the peers; all else stays
  record IsAt (all : List (HostState D)) (i : ℕ) (asker : UserName) (at : ℕ) (held : S) (seen : HostState D × P) : Type 0 where
    pub place_is : place held ≡ i
    pub user_is : user (session held) ≡ asker
    pub moment_is : moment held ≡ at
    pub peers_are : peers held ≡ seen.1
    pub there : slice_get (hosts held) i ≡ Some seen.0
    pub whole : hosts held ≡ slice_set all i seen.0

  -- one answer, said of the place, the user, the moment and the others with which the conversation began
  at_place : (all : List (HostState D)) (i : ℕ) (asker : UserName) (at : ℕ) (a b : S) (v : HostState D × P) (request : Request) (given : Option Reply) → IsAt all i asker at a v → answers_in a request given b
      → OneOf i (λ host then old new. answers_as disks loader (others i all) asker at (host, old) request given (then, new)) (hosts a) v.1 (hosts b) (peers b)
  at_place all i asker at a b v request given is step =
      subst (λ p. OneOf i (λ host then old new. answers_as disks loader (others i all) asker at (host, old) request given (then, new)) (hosts a) p (hosts b) (peers b)) is.peers_are
      (subst (λ hs. OneOf i (λ host then old new. answers_as disks loader hs asker at (host, old) request given (then, new)) (hosts a) (peers a) (hosts b) (peers b)) (ap (others i) is.whole ∙ others_stay all i v.0)
      (subst (λ n. OneOf n (λ host then old new. answers_as disks loader (others n (hosts a)) asker at (host, old) request given (then, new)) (hosts a) (peers a) (hosts b) (peers b)) is.place_is
      (subst (λ m. OneOf (place a) (λ host then old new. answers_as disks loader (others (place a) (hosts a)) asker m (host, old) request given (then, new)) (hosts a) (peers a) (hosts b) (peers b)) is.moment_is
      (subst (λ u. OneOf (place a) (λ host then old new. answers_as disks loader (others (place a) (hosts a)) u (moment a) (host, old) request given (then, new)) (hosts a) (peers a) (hosts b) (peers b)) is.user_is step.0))))

  step_seen : (all : List (HostState D)) (i : ℕ) (asker : UserName) (at : ℕ) (a b : S) (v : HostState D × P) (request : Request) (given : Option Reply) → IsAt all i asker at a v → answers_in a request given b
      → (w : HostState D × P) × answers_as disks loader (others i all) asker at v request given w × IsAt all i asker at b w
  step_seen all i asker at a b v request given is step =
      let one = at_place all i asker at a b v request given is step in
      let same : one.before ≡ v.0 = same_one one.before v.0 (sym one.there ∙ is.there) in (
        (one.after, peers b),
        subst (λ (host : HostState D). answers_as disks loader (others i all) asker at (host, v.1) request given (one.after, peers b)) same one.done,
        record {
          place_is = step.1 ∙ is.place_is;
          user_is = ap user step.2 ∙ is.user_is;
          moment_is = step.3 ∙ is.moment_is;
          peers_are = refl;
          there = ap (λ hs. slice_get hs i) one.whole ∙ set_there (hosts a) i v.0 one.after is.there;
          whole = one.whole ∙ (ap (λ hs. slice_set hs i one.after) is.whole ∙ set_twice all i v.0 one.after);
        },
      )
    where
      same_one : (x y : HostState D) → Some x ≡ Some y → x ≡ y
      same_one x y is = cc

  -- so a conversation with the object is one with the host at the place
  pub talks_at : {X : Type 0} (talk said : Talking X) (result : Result X ClientFault) (old new : S) → place old < length (hosts old) → IoByReply talk → ComesTo (Comes Any) talk → said ≡ talk → Held answers_in said old result new
      → OneOf (place old) (TalksTo disks loader (others (place old) (hosts old)) (user (session old)) (moment old) talk result) (hosts old) (peers old) (hosts new) (peers new)
  talks_at {X} talk said result old new within by comes same held =
      let first = one_there (hosts old) (place old) within in
      let seen =
      held_seen (IsAt (hosts old) (place old) (user (session old)) (moment old)) answers_in (answers_as disks loader (others (place old) (hosts old)) (user (session old)) (moment old))
      (step_seen (hosts old) (place old) (user (session old)) (moment old)) talk old new (first.0, peers old) result
      (record { place_is = refl; user_is = refl; moment_is = refl; peers_are = refl; there = first.1; whole = sym (set_same (hosts old) (place old) first.0 first.1) })
      (subst (λ (t : Talking X). Held answers_in t old result new) same held) in
      record {
        before = first.0;
        after = seen.0.0;
        there = first.1;
        whole = seen.2.whole;
        done =
            talks_whole disks loader (others (place old) (hosts old)) (user (session old)) (moment old) talk first.0 seen.0.0 (peers old) (peers new) result by comes
            (subst (λ p. Held (answers_as disks loader (others (place old) (hosts old)) (user (session old)) (moment old)) talk (first.0, peers old) result (seen.0.0, p)) (sym seen.2.peers_are) seen.1);
      }

-- a time and a sequence are passed on as they are
pub same_put : (user : UserName) (path : PathName) (time sequence : ℤ) (bytes : List ℕ) → SFits w64 time → SFits w64 sequence
    → put_talk user path (to_z w64 (of_z w64 time)) (to_z w64 (of_z w64 sequence)) bytes ≡ put_talk user path time sequence bytes
same_put user path time sequence bytes one two =
    ap (λ (t : ℤ). put_talk user path t (to_z w64 (of_z w64 sequence)) bytes) (to_z-of_z one) ∙ ap (λ (s : ℤ). put_talk user path time s bytes) (to_z-of_z two)
