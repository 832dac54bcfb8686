-- What a caller alone learns of a call.
use Rattle.std.proofs.Common.{◌≡◌, ◌≢◌, ◌≤◌, ◌<◌, ◌+◌, ◌-◌, ◌^◌, ◌⊎◌, inl, inr, ℕ, [], length, refl, sym, ap, subst, ◌∙◌, arith, Some, None, option_map}
use Rattle.std.proofs.Math.Seq.{take-length}
use Rattle.up_answers.specs.Needs.{needs}
use Rattle.up_calls.proofs.GatherLemmas.{is_there, log_later}
use Rattle.up_calls.proofs.RoundLemmas.{rounds_alone}
use Rattle.up_calls.specs.Answered.{HasFailed, Leaves, LoadsInRounds, Risen}
use Rattle.up_calls.specs.Calls.{IsTried}
use Rattle.up_calls.specs.Gathered.{missing_over}
use Rattle.up_calls.specs.Routes.{LogName, Question, log_asked, log_by, refusal, refusal_by, route_refusal, service_of}
use Rattle.up_calls.specs.Rounds.{InRounds, LoadedInRounds}
use Rattle.up_calls.specs.Views.{SeenTree, Views, log_after, log_seen}
use Rattle.up_calls.specs.declared.event.Event.{Event}
use Rattle.up_calls.specs.declared.service.Service.{Service}
use Rattle.up_calls.specs.declared.service.Service.TheVariants as service
use Rattle.up_edits.specs.Routes.{route_of}
use Rattle.up_edits.specs.declared.routes.Route.{Route}
use Rattle.up_edits.specs.declared.routes.Route.TheVariants as route
use Rattle.up_disk.specs.declared.disk.Disk as disk
use Rattle.up_host.specs.Alone.{Counts, HostState, IsAlone, disk_faults, ends_at, io_of, views}
use Rattle.up_host.specs.Tied.{DiskRose, IsTied}
use Rattle.up_lists.specs.Counts.{Rose}
use Rattle.up_names.specs.Texts.{UserName}
use Rattle.up_peer.specs.declared.loader.Loader.{Ghosts}
use Rattle.up_log_tree.specs.Logs.{Log}
use Rattle.up_wire.specs.declared.replies.Reply.{Reply}
use Rattle.up_wire.specs.declared.replies.Reply.TheVariants as reply

-- what is not refused goes to a log
pub goes_to : (a : Views) (q : Question) → refusal a q ≡ None → (log : LogName) × (log_asked q ≡ Some log)
unfolding refusal
goes_to a q h = by (service_of q.request) h
  where
    on : (there : Route) → route_refusal a there ≡ None → (log : LogName) × (log_by service.Directory there ≡ Some log)
    on (route.Refused said) none = absurd (cc)
    on (route.Tree owner locations) none = (LogName.OfTree owner, refl)

    by : (who : Service) → refusal_by a q who ≡ None → (log : LogName) × (log_by who (route_of q.user q.request) ≡ Some log)
    by service.Directory none = on (route_of q.user q.request) none
    by service.Store none = (LogName.OfStore, refl)
    by service.Keys none = (LogName.OfKeys, refl)

module _ {D : Type 0} (disks : disk.Ghosts D) (host after : HostState D) (q : Question) (e : Event) (tie : IsTied disks (log_asked q) host after)
    (leaves : Leaves (λ log n. ends_at (Some log) (views disks host) ≡ Some n) (views disks host) q e) (rounds : LoadsInRounds (views disks host) (views disks after) q e) where
  at_end : refusal (views disks host) q ≡ None → e.reply ≢ reply.OutOfMemory → ends_at (log_asked q) (views disks host) ≡ Some e.position
  at_end none enough =
      let to = goes_to (views disks host) q none in
      ap (λ log. ends_at log (views disks host)) to.1 ∙ leaves.leaves to.0 none to.1 enough

  in_rounds : (owner : UserName) (v : SeenTree) → refusal (views disks host) q ≡ None → log_asked q ≡ Some (LogName.OfTree owner) → (views disks host).tree owner ≡ Some v → e.reply ≢ reply.OutOfMemory
      → InRounds (λ so_far. needs (log_seen v) so_far q.user q.request) [] e.loaded
  in_rounds owner v none asks there enough =
      let w = is_there ((views disks host).tree owner) ((views disks after).tree owner) v (tie.later.trees owner) there in
      let end : Some (length v.seen) ≡ Some e.position = sym (ap (option_map (λ (x : SeenTree). length x.seen)) there) ∙ leaves.leaves (LogName.OfTree owner) none asks enough in
      let at : length v.seen ≡ e.position = cc in
      let log : log_after w.0 (length v.seen) ≡ log_seen v =
      log_later v w.0 (length v.seen) w.2 (omega arith) ∙ ap (λ records. let l : Log = record { owner = v.fixed.0; limits = v.fixed.1; records = records } in l) (take-length v.seen) in
      let all : LoadedInRounds (missing_over w.0 q) (length v.seen) (length v.seen) e.loaded =
      subst (λ n. LoadedInRounds (missing_over w.0 q) (length v.seen) n e.loaded) (sym at) (rounds.rounds owner v w.0 none asks enough there w.1) in
      subst (λ (l : Log). InRounds (λ so_far. needs l so_far q.user q.request) [] e.loaded) log (rounds_alone (missing_over w.0 q) (length v.seen) e.loaded all)

  pub alone_by : IsAlone (views disks host) (views disks after) q e
  alone_by = record {
    at_end = at_end;
    trees = tie.trees;
    keys = tie.keys;
    tree_grown = tie.tree_grown;
    store_grown = tie.store_grown;
    keys_grown = tie.keys_grown;
    rounds = in_rounds;
  }

-- ---- the count of a reply

io_or : (said : Reply) → (said ≡ reply.Io) ⊎ (io_of said ≡ 0)
io_or reply.Io = inl refl
io_or (reply.Ok what) = inr refl
io_or reply.OutOfMemory = inr refl
io_or (reply.Invalid what) = inr refl
io_or reply.WrongHost = inr refl
io_or (reply.FollowLink entry) = inr refl
io_or reply.Private = inr refl
io_or (reply.Permission right) = inr refl
io_or reply.NotExist = inr refl
io_or reply.NotDir = inr refl
io_or reply.IsDir = inr refl
io_or reply.Exist = inr refl
io_or (reply.BadSequence sequence) = inr refl
io_or reply.NotEmpty = inr refl
io_or (reply.BadBlock reference) = inr refl
io_or (reply.BadText line) = inr refl
io_or (reply.TooLarge size) = inr refl
io_or (reply.Full records) = inr refl

counts_by : (d m l n : ℕ) (e : Event) → d ≤ m → l ≤ n → (e.reply ≡ reply.Io → m + n < 2 ^ 64 - 1 → d + l + 1 ≤ m + n) → Counts d m l n e
counts_by d m l n e disks loader rose = record { disks = disks; loader = loader; io = by (io_or e.reply) }
  where
    by : (e.reply ≡ reply.Io) ⊎ (io_of e.reply ≡ 0) → m + n < 2 ^ 64 - 1 → d + l + io_of e.reply ≤ m + n
    by (inl io) small =
        let more : d + l + 1 ≤ m + n = rose io small in
        let one : io_of e.reply ≡ 1 = ap io_of io in
        omega (arith, one, more)
    by (inr none) small = omega (arith, none, disks, loader)

-- a disk of the host failed, or the loader
rose_by : (d m l n : ℕ) → d ≤ m → l ≤ n → Rose d m → m + n < 2 ^ 64 - 1 → d + l + 1 ≤ m + n
rose_by d m l n disks loader rose small = let more : d < m = rose (omega (arith, disks, small)) in omega (arith, more, loader)

pub counts_of : {D L : Type 0} (disks : disk.Ghosts D) (loader : Ghosts L) (host after : HostState D) (old new : L) (q : Question) (e : Event) → disk_faults disks host ≤ disk_faults disks after → IsTried loader old new
    → Risen (λ log. DiskRose disks host after) (loader.faults old) (loader.faults new) q e → Counts (disk_faults disks host) (disk_faults disks after) (loader.faults old) (loader.faults new) e
counts_of disks loader host after old new q e later tried risen =
    let d = disk_faults disks host in
    let m = disk_faults disks after in
    let l = loader.faults old in
    let n = loader.faults new in
    let blocks : loader.faults old ≤ loader.faults tried.between = tried.blocks.counts.later in
    let groups : loader.faults tried.between ≤ loader.faults new = tried.groups.counts.later in
    let asked : l ≤ n = omega (arith, blocks, groups) in
    counts_by d m l n e later asked (λ io small. elim (risen.io io) [
      | HasFailed.ByLog log to rose ↦ rose_by d m l n later asked rose.rose small
      | HasFailed.ByBlock rose ↦ rose_by d m l n later asked rose.rose small
      | HasFailed.ByLoader rose ↦ (let more : l < n = rose (omega (arith, asked, small)) in omega (arith, more, later))
    ])
