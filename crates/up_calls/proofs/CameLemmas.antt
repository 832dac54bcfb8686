-- What a call came to.
use Rattle.std.proofs.Common.{◌≡◌, ◌≢◌, ◌⊎◌, ◌||◌, ℕ, Bool, true, false, List, [], ◌∷◌, ◌++◌, length, map, refl, sym, ap, subst, ◌∙◌, inl, inr, Option, Some, None, Result, Ok, Err, option_map}
use Rattle.std.specs.Prelude.{IfOk, OnErr, if◌then◌else◌, is_some}
use Rattle.std.specs.List.{flat_map, list_any}
use Rattle.std.proofs.lemmas.Bool.{false≢true}
use Rattle.up_answers.specs.Answers.{answer, fault_reply, log_owner}
use Rattle.up_answers.specs.Fetching.{Fetched, is_failed}
use Rattle.up_answers.specs.Needs.{IsLoading}
use Rattle.up_answers.specs.Routes.{locations_asked}
use Rattle.up_calls.proofs.AsksLemmas.{Asks-none, Rose-left, Tries-Asks, Tries-none}
use Rattle.up_calls.proofs.BlockLemmas.{blocks_until}
use Rattle.up_calls.proofs.QuietLemmas.{fault_quiet, has_failed, is_io, quiet_answer}
use Rattle.up_calls.proofs.TurnLemmas.{answered_since}
use Rattle.up_calls.specs.Answered.{Came, HasFailed, LoadsInRounds, TreeAnswered, TreeServed}
use Rattle.up_calls.specs.Asks.{Asks}
use Rattle.up_calls.specs.Blocks.{Got, OwnBlocks, answer_at, block_answer, block_question}
use Rattle.up_calls.specs.Calls.{Asked, AsksLoader, IsPlain, IsReady, IsTried, KeysTurn, Outcome, StoreTurn, TreeTurn}
use Rattle.up_calls.specs.Gathered.{BlocksGathered, missing_over, own_failed}
use Rattle.up_calls.specs.Loads.{group_answer, group_question, load_failed}
use Rattle.up_calls.specs.Rounds.{LoadedInRounds}
use Rattle.up_calls.specs.Routes.{LogName, OwnStays, Question, locations_on, log_asked, log_by, refusal, refusal_by, route_refusal, service_of, tree_on}
use Rattle.up_calls.specs.Services.{key_fault, store_fault}
use Rattle.up_calls.specs.Told.{LogTold}
use Rattle.up_calls.specs.Views.{Later, SeenTree, Views, log_after, log_seen}
use Rattle.up_calls.specs.declared.event.Event.{Event}
use Rattle.up_calls.specs.declared.service.Service.{Service}
use Rattle.up_calls.specs.declared.service.Service.TheVariants as service
use Rattle.up_edits.specs.Routes.{route_of}
use Rattle.up_edits.specs.declared.routes.Route.{Route}
use Rattle.up_edits.specs.declared.routes.Route.TheVariants as route
use Rattle.up_entry.specs.declared.entries.Endpoint.{Endpoint}
use Rattle.up_entry.specs.declared.entries.Endpoint.TheVariants as endpoint
use Rattle.up_entry.specs.declared.entries.Location.{Location}
use Rattle.up_entry.specs.declared.fault.EntryFault.{EntryFault}
use Rattle.up_entry.specs.declared.fetch.Fetch.{Fetch}
use Rattle.up_entry.specs.declared.fetch.Fetch.TheVariants as fetch
use Rattle.up_entry.specs.declared.what.What.{What}
use Rattle.up_list.specs.Asking.{asked_of, owner_asked}
use Rattle.up_list.specs.declared.asking.ReadRequest.{ReadRequest as Asking}
use Rattle.up_names.specs.Texts.{UserName}
use Rattle.up_peer.specs.declared.loader.Loader.{Ghosts}
use Rattle.up_policy.specs.Loadings.{Loading}
use Rattle.up_wire.specs.declared.replies.Reply.{Reply}
use Rattle.up_wire.specs.declared.replies.Reply.TheVariants as reply
use Rattle.up_wire.specs.declared.requests.Request.{Request}

not_quiet : (said : Reply) → said ≡ reply.Io → is_io said ≡ false → ⊥
not_quiet said io quiet = false≢true (sym quiet ∙ ap is_io io)

-- ---- refusals tell of no disk

said_quiet : (meant said : Reply) → Some meant ≡ Some said → is_io meant ≡ false → is_io said ≡ false
said_quiet meant said h quiet = let k : meant ≡ said = cc in ap is_io (sym k) ∙ quiet

invalid_quiet : (fault : Option What) (said : Reply) → option_map (λ what. reply.Invalid what) fault ≡ Some said → is_io said ≡ false
invalid_quiet None said h = absurd (cc)
invalid_quiet (Some what) said h = said_quiet (reply.Invalid what) said h refl

host_quiet : (b : Bool) (said : Reply) → (if b then None else Some reply.WrongHost) ≡ Some said → is_io said ≡ false
host_quiet true said h = absurd (cc)
host_quiet false said h = said_quiet reply.WrongHost said h refl

route_quiet : (a : Views) (user : UserName) (asked : Request) (said : Reply) → route_refusal a (route_of user asked) ≡ Some said → is_io said ≡ false
unfolding route_of
route_quiet a user asked said = go (asked_of user asked)
  where
    go : (m : Result Asking EntryFault) → route_refusal a (elim m as (λ _. Route) [ Ok given ↦ route.Tree (log_owner (owner_asked given)) (locations_asked given) | Err fault ↦ route.Refused (fault_reply fault) ]) ≡ Some said → is_io said ≡ false
    go (Ok given) h = host_quiet (is_some (a.tree (log_owner (owner_asked given)))) said h
    go (Err fault) h = said_quiet (fault_reply fault) said h (fault_quiet fault)

by_quiet : (a : Views) (q : Question) (who : Service) (said : Reply) → refusal_by a q who ≡ Some said → is_io said ≡ false
by_quiet a q service.Directory said h = route_quiet a q.user q.request said h
by_quiet a q service.Store said h = invalid_quiet (store_fault q.request) said h
by_quiet a q service.Keys said h = invalid_quiet (key_fault q.request) said h

pub refusal_quiet : (a : Views) (q : Question) (said : Reply) → refusal a q ≡ Some said → is_io said ≡ false
unfolding refusal
refusal_quiet a q said h = by_quiet a q (service_of q.request) said h

-- ---- want of memory, or any other reply

pub data Kind (answered : Reply) : Type 0 where
  Wants : answered ≡ reply.OutOfMemory → Kind answered
  Other : answered ≢ reply.OutOfMemory → Kind answered

pub kind_of : (answered : Reply) → Kind answered
kind_of reply.OutOfMemory = Kind.Wants refl
kind_of reply.Io = Kind.Other (λ e. cc)
kind_of (reply.Ok what) = Kind.Other (λ e. cc)
kind_of (reply.Invalid what) = Kind.Other (λ e. cc)
kind_of reply.WrongHost = Kind.Other (λ e. cc)
kind_of (reply.FollowLink entry) = Kind.Other (λ e. cc)
kind_of reply.Private = Kind.Other (λ e. cc)
kind_of (reply.Permission right) = Kind.Other (λ e. cc)
kind_of reply.NotExist = Kind.Other (λ e. cc)
kind_of reply.NotDir = Kind.Other (λ e. cc)
kind_of reply.IsDir = Kind.Other (λ e. cc)
kind_of reply.Exist = Kind.Other (λ e. cc)
kind_of (reply.BadSequence sequence) = Kind.Other (λ e. cc)
kind_of reply.NotEmpty = Kind.Other (λ e. cc)
kind_of (reply.BadBlock reference) = Kind.Other (λ e. cc)
kind_of (reply.BadText line) = Kind.Other (λ e. cc)
kind_of (reply.TooLarge size) = Kind.Other (λ e. cc)
kind_of (reply.Full records) = Kind.Other (λ e. cc)

-- ---- Io of a tree: a fetch failed

-- the fetch that failed was one of the store, or one that the loader was asked
failed_one : (fetched : Fetched) → has_failed fetched ≡ true → (list_any (λ (got : Got). own_failed got.0.endpoint got.1) fetched ≡ true) ⊎ (list_any is_failed (flat_map block_answer fetched) ≡ true)
failed_one [] h = absurd (false≢true h)
failed_one ((location, given) ∷ fetched) h = by location.endpoint given (is_failed (Some given)) refl h (failed_one fetched)
  where
    rest : List (Option Fetch)
    rest = flat_map block_answer fetched

    others : Bool
    others = list_any (λ (got : Got). own_failed got.0.endpoint got.1) fetched

    or_true : (b : Bool) → (b || true) ≡ true
    or_true true = refl
    or_true false = refl

    behind : (at : Endpoint) (given : Fetch) → list_any is_failed rest ≡ true → list_any is_failed (answer_at given at ++ rest) ≡ true
    behind endpoint.Local given h = h
    behind (endpoint.Address address) given h = ap (λ b. is_failed (Some given) || b) h ∙ or_true (is_failed (Some given))

    here : (at : Endpoint) (given : Fetch) → is_failed (Some given) ≡ true → ((own_failed at given || others) ≡ true) ⊎ (list_any is_failed (answer_at given at ++ rest) ≡ true)
    here endpoint.Local fetch.Failed h = inl refl
    here endpoint.Local (fetch.Got bytes) h = absurd (false≢true h)
    here endpoint.Local fetch.Missing h = absurd (false≢true h)
    here (endpoint.Address address) given h = inr (ap (λ b. b || list_any is_failed rest) h)

    by : (at : Endpoint) (given : Fetch) (b : Bool) → is_failed (Some given) ≡ b → (b || has_failed fetched) ≡ true
        → (has_failed fetched ≡ true → (others ≡ true) ⊎ (list_any is_failed rest ≡ true)) → ((own_failed at given || others) ≡ true) ⊎ (list_any is_failed (answer_at given at ++ rest) ≡ true)
    by at given true e h more = here at given e
    by at given false e h more = elim (more h) [
      | inl own ↦ inl (ap (λ b. own_failed at given || b) own ∙ or_true (own_failed at given))
      | inr failed ↦ inr (behind at given failed)
    ]

-- ---- nothing was asked of the loader

module _ {L : Type 0} (loader : Ghosts L) (same : (l : L) → loader.tied l l) (operator : UserName) (left : LogName → ℕ → Type 0) (rises : LogName → Type 0) (a b : Views) (q : Question) (l : L) (e : Event) where
  tries_nothing : IsTried loader l l
  tries_nothing = record { between = l; blocks = Tries-none loader.fetches loader.faults loader.tied same l; groups = Tries-none loader.loads loader.faults loader.tied same l }

  asks_nothing : IsPlain e → AsksLoader loader operator a l l e
  asks_nothing plain = record {
    all = λ n. record {
      between = l;
      blocks = subst (λ (xs : Fetched). Asks loader.fetches loader.faults loader.tied is_failed block_question block_answer l l xs) (sym plain.fetched)
          (Asks-none loader.fetches loader.faults loader.tied is_failed block_question block_answer same l);
      groups = subst (λ (xs : Loading). Asks loader.loads loader.faults loader.tied load_failed (group_question operator a) (group_answer a) l l xs) (sym plain.loaded)
          (Asks-none loader.loads loader.faults loader.tied load_failed (group_question operator a) (group_answer a) same l);
    };
    some = tries_nothing;
  }

  -- no log was looked at
  pub came_refused : refusal a q ≡ Some e.reply → e.position ≡ 0 → IsPlain e → OwnStays None a b → Came loader operator left rises a b q l l e
  came_refused is at plain stays = record {
    outcome = Outcome.Refused is at plain stays;
    loads = asks_nothing plain;
    leaves = record { leaves = λ log none. let k : Some e.reply ≡ None = sym is ∙ none in absurd (cc) };
    risen = record { io = λ io. absurd (not_quiet e.reply io (refusal_quiet a q e.reply is)) };
    rounds = record { rounds = λ owner v w none. let k : Some e.reply ≡ None = sym is ∙ none in absurd (cc) };
  }

  -- the store or the keys answered
  pub came_to : (log : LogName) → log_asked q ≡ Some log → ((owner : UserName) → log ≢ LogName.OfTree owner) → IsPlain e → (e.reply ≢ reply.OutOfMemory → Outcome operator a b q e) → (e.reply ≡ reply.OutOfMemory → OwnStays None a b)
      → left log e.position → (e.reply ≡ reply.Io → rises log) → Came loader operator left rises a b q l l e
  came_to log to no_tree plain told stays lasts rose = record {
    outcome = by (kind_of e.reply);
    loads = asks_nothing plain;
    leaves = record { leaves = λ other none at enough. let k : Some log ≡ Some other = sym to ∙ at in let is : log ≡ other = cc in subst (λ x. left x e.position) is lasts };
    risen = record { io = λ io. HasFailed.ByLog log to (rose io) };
    rounds = record { rounds = λ owner v w none at. let k : Some log ≡ Some (LogName.OfTree owner) = sym to ∙ at in let is : log ≡ LogName.OfTree owner = cc in absurd (no_tree owner is) };
  }
    where
      by : Kind e.reply → Outcome operator a b q e
      by (Kind.Wants wants) = Outcome.Wanting wants (stays wants)
      by (Kind.Other enough) = told enough

-- memory was wanting
pub came_wanting : {L : Type 0} (loader : Ghosts L) (operator : UserName) (left : LogName → ℕ → Type 0) (rises : LogName → Type 0) (a b : Views) (q : Question) (old new : L) (e : Event) → e.reply ≡ reply.OutOfMemory → OwnStays None a b → IsTried loader old new
    → Came loader operator left rises a b q old new e
came_wanting loader operator left rises a b q old new e wants stays tried = record {
  outcome = Outcome.Wanting wants stays;
  loads = record { all = λ n. absurd (n wants); some = tried };
  leaves = record { leaves = λ log none at enough. absurd (enough wants) };
  risen = record { io = λ io. let k : reply.Io ≡ reply.OutOfMemory = sym io ∙ wants in absurd (cc) };
  rounds = record { rounds = λ owner v w none at enough. absurd (enough wants) };
}

-- ---- a tree answered

module _ {L : Type 0} (loader : Ghosts L) (operator : UserName) (left : LogName → ℕ → Type 0) (rises : LogName → Type 0) (a b : Views) (owner : UserName) (q : Question) (old new : L) (locations : List Location) (now : ℕ) (e : Event)
    (serves : service_of q.request ≡ service.Directory) (goes : route_of q.user q.request ≡ route.Tree owner locations) (h : TreeServed loader operator rises a b owner q old new locations now e) where
  to_tree : log_asked q ≡ Some (LogName.OfTree owner)
  to_tree = ap (λ (s : Service). log_by s (route_of q.user q.request)) serves ∙ ap tree_on goes

  not_refused : refusal a q ≡ None
  unfolding refusal
  not_refused = ap (refusal_by a q) serves ∙ ap (route_refusal a) goes ∙ ap (λ (v : Option SeenTree). if is_some v then None else Some reply.WrongHost) h.answered.before

  ready : (n : ℕ) → e.position ≡ n → IsReady operator a b h.answered.v h.answered.w q e n
  ready n at = record {
    locations = h.located ∙ sym (ap locations_on goes);
    blocks = subst (λ (xs : Fetched). OwnBlocks a.store b.store xs) (sym h.blocks.whole) h.blocks.own;
    loading = subst (λ n. IsLoading (log_seen h.answered.w) (length h.answered.v.seen) n q.user q.request e.loaded) at h.answered.loading;
    few = h.answered.few;
    texts = h.answered.texts;
  }

  turn : TreeTurn operator a b h.answered.v h.answered.w q e
  turn = elim h.answered.said.said [
    | inl replied ↦ inl (replied, ready e.position refl)
    | inr failed ↦ inr (failed.failed, ready (length h.answered.w.seen) failed.at_end)
  ]

  loads : AsksLoader loader operator a old new e
  loads = record {
    all = λ n. record {
      between = h.between;
      blocks = subst (λ (xs : Fetched). Asks loader.fetches loader.faults loader.tied is_failed block_question block_answer old h.between xs) (sym h.blocks.whole) h.blocks.asks;
      groups = h.answered.asks;
    };
    some = record {
      between = h.between;
      blocks = Tries-Asks loader.fetches loader.faults loader.tied is_failed block_question block_answer old h.between h.blocks.more h.blocks.asks;
      groups = Tries-Asks loader.loads loader.faults loader.tied load_failed (group_question operator a) (group_answer a) h.between new e.loaded h.answered.asks;
    };
  }

  has_cause : e.reply ≡ reply.Io → HasFailed rises (loader.faults old) (loader.faults new) q
  has_cause io = elim h.answered.said.said [
    | inr failed ↦ HasFailed.ByLog (LogName.OfTree owner) to_tree failed.rose
    | inl replied ↦ by_fetch (has_failed e.fetched) refl (sym replied.reply.reply ∙ io)
  ]
    where
      by_fetch : (t : Bool) → has_failed e.fetched ≡ t → answer (log_after h.answered.w e.position) e.loaded e.fetched q.user q.request e.moment ≡ reply.Io → HasFailed rises (loader.faults old) (loader.faults new) q
      by_fetch false none is =
          let meant = answer (log_after h.answered.w e.position) e.loaded e.fetched q.user q.request e.moment in
          absurd (not_quiet meant is (quiet_answer (log_after h.answered.w e.position) e.loaded e.fetched q.user q.request e.moment none))
      by_fetch true some is = elim (failed_one e.fetched some) [
        | inl own ↦ HasFailed.ByBlock (h.blocks.rose (sym (ap (λ (xs : Fetched). list_any (λ (got : Got). own_failed got.0.endpoint got.1) xs) h.blocks.whole) ∙ own))
        | inr failed ↦ HasFailed.ByLoader (Rose-left (loader.faults old) (loader.faults h.between) (loader.faults new)
            (h.blocks.asks.counts.rose (sym (ap (λ (xs : Fetched). list_any is_failed (flat_map block_answer xs)) h.blocks.whole) ∙ failed)) h.answered.asks.counts.later)
      ]

  in_rounds : LoadsInRounds a b q e
  in_rounds = record {
    rounds = λ other v w none at enough is_v is_w.
        let k : Some (LogName.OfTree owner) ≡ Some (LogName.OfTree other) = sym to_tree ∙ at in
        let is : owner ≡ other = cc in
        let p : Some h.answered.v ≡ Some v = sym h.answered.before ∙ ap a.tree is ∙ is_v in
        let r : Some h.answered.w ≡ Some w = sym h.answered.after ∙ ap b.tree is ∙ is_w in
        let first : h.answered.v ≡ v = cc in
        let last : h.answered.w ≡ w = cc in
        subst (λ (x : SeenTree). LoadedInRounds (missing_over w q) (length x.seen) e.position e.loaded) first
        (subst (λ (x : SeenTree). LoadedInRounds (missing_over x q) (length h.answered.v.seen) e.position e.loaded) last h.answered.rounds);
  }

  pub came_served : left (LogName.OfTree owner) e.position → Came loader operator left rises a b q old new e
  came_served lasts = record {
    outcome = Outcome.ByTree owner h.answered.v h.answered.w not_refused to_tree h.answered.before h.answered.after turn;
    loads = loads;
    leaves = record {
      leaves = λ log none at enough.
          let k : Some (LogName.OfTree owner) ≡ Some log = sym to_tree ∙ at in
          let is : LogName.OfTree owner ≡ log = cc in
          subst (λ x. left x e.position) is lasts;
    };
    risen = record { io = has_cause };
    rounds = in_rounds;
  }

-- ---- one call

pub asked_by : {L : Type 0} (loader : Ghosts L) (operator : UserName) (left : LogName → ℕ → Type 0) (rises : LogName → Type 0) (a b : Views) (q : Question) (old new : L) (e : Event) → Came loader operator left rises a b q old new e
    → Later a b → OwnStays (log_asked q) a b → Asked loader operator a old q e b new
asked_by loader operator left rises a b q old new e came later stays = record { later = later; others = stays; loads = came.loads; outcome = came.outcome }

pub tied_by : {L : Type 0} (loader : Ghosts L) → ((x y z : L) → loader.tied x y → loader.tied y z → loader.tied x z) → (old new : L) → IsTried loader old new → loader.tied old new
tied_by loader joined old new h = joined old h.between new h.blocks.tie h.groups.tie

-- ---- events with nothing loaded or fetched

abbrev pub bare : Reply → ℕ → ℕ → Event
bare said position now = record { reply = said; position = position; loaded = []; fetched = []; moment = now }

module _ {L : Type 0} (loader : Ghosts L) (same : (l : L) → loader.tied l l) (operator : UserName) (left : LogName → ℕ → Type 0) (rises : LogName → Type 0) (q : Question) (l : L) (now : ℕ) where
  stays_same : (a : Views) → OwnStays None a a
  stays_same a = record { trees = λ owner n. refl; store = λ n. refl; keys = λ n. refl }

  refused_bare : (a : Views) (said : Reply) (e : Event) → e ≡ bare said 0 now → refusal a q ≡ Some said → Came loader operator left rises a a q l l e
  refused_bare a said e is refused =
      subst (Came loader operator left rises a a q l l) (sym is)
      (came_refused loader same operator left rises a a q l (bare said 0 now) refused refl (record { loaded = refl; fetched = refl }) (stays_same a))

  -- something of a request to a tree is malformed
  pub came_malformed : (a : Views) (said : Reply) (e : Event) → service_of q.request ≡ service.Directory → route_of q.user q.request ≡ route.Refused said → e ≡ bare said 0 now → Came loader operator left rises a a q l l e
  unfolding refusal
  came_malformed a said e serves goes is = refused_bare a said e is (ap (refusal_by a q) serves ∙ ap (route_refusal a) goes)

  -- the host does not have the tree
  pub came_elsewhere : (a : Views) (owner : UserName) (locations : List Location) (e : Event) → service_of q.request ≡ service.Directory → route_of q.user q.request ≡ route.Tree owner locations → is_some (a.tree owner) ≡ false
      → e ≡ bare reply.WrongHost 0 now → Came loader operator left rises a a q l l e
  unfolding refusal
  came_elsewhere a owner locations e serves goes none is =
      refused_bare a reply.WrongHost e is (ap (refusal_by a q) serves ∙ ap (route_refusal a) goes ∙ ap (λ found. if found then None else Some reply.WrongHost) none)

  -- something of a request to the store or the keys is malformed
  pub store_malformed : (a : Views) (what : What) (e : Event) → service_of q.request ≡ service.Store → store_fault q.request ≡ Some what → e ≡ bare (reply.Invalid what) 0 now → Came loader operator left rises a a q l l e
  unfolding refusal
  store_malformed a what e serves fault is = refused_bare a (reply.Invalid what) e is (ap (refusal_by a q) serves ∙ ap (option_map (λ x. reply.Invalid x)) fault)

  pub keys_malformed : (a : Views) (what : What) (e : Event) → service_of q.request ≡ service.Keys → key_fault q.request ≡ Some what → e ≡ bare (reply.Invalid what) 0 now → Came loader operator left rises a a q l l e
  unfolding refusal
  keys_malformed a what e serves fault is = refused_bare a (reply.Invalid what) e is (ap (refusal_by a q) serves ∙ ap (option_map (λ x. reply.Invalid x)) fault)

  -- the store answered, or the keys
  pub store_came : (a b : Views) (said : Reply) (position : ℕ) (e : Event) → service_of q.request ≡ service.Store → store_fault q.request ≡ None → e ≡ bare said position now
      → LogTold (StoreTurn operator a.store b.store q) (rises LogName.OfStore) a.store b.store said position → left LogName.OfStore position → OwnStays (Some LogName.OfStore) a b → Came loader operator left rises a b q l l e
  unfolding refusal
  store_came a b said position e serves sound is told lasts others =
      let to : log_asked q ≡ Some LogName.OfStore = ap (λ (s : Service). log_by s (route_of q.user q.request)) serves in
      let none : refusal a q ≡ None = ap (refusal_by a q) serves ∙ ap (option_map (λ what. reply.Invalid what)) sound in
      subst (Came loader operator left rises a b q l l) (sym is)
      (came_to loader same operator left rises a b q l (bare said position now) LogName.OfStore to (λ owner k. cc) (record { loaded = refl; fetched = refl })
      (λ enough. Outcome.ByStore none to (record { loaded = refl; fetched = refl }) (told.told (bare said position now) refl refl enough))
      (λ wants. record { trees = λ owner n. others.trees owner (λ k. cc); store = λ n. told.wanting wants; keys = λ n. others.keys (λ k. cc) })
      lasts told.rose)

  pub keys_came : (a b : Views) (said : Reply) (position : ℕ) (e : Event) → service_of q.request ≡ service.Keys → key_fault q.request ≡ None → e ≡ bare said position now
      → LogTold (KeysTurn a.keys b.keys q) (rises LogName.OfKeys) a.keys b.keys said position → left LogName.OfKeys position → OwnStays (Some LogName.OfKeys) a b → Came loader operator left rises a b q l l e
  unfolding refusal
  keys_came a b said position e serves sound is told lasts others =
      let to : log_asked q ≡ Some LogName.OfKeys = ap (λ (s : Service). log_by s (route_of q.user q.request)) serves in
      let none : refusal a q ≡ None = ap (refusal_by a q) serves ∙ ap (option_map (λ what. reply.Invalid what)) sound in
      subst (Came loader operator left rises a b q l l) (sym is)
      (came_to loader same operator left rises a b q l (bare said position now) LogName.OfKeys to (λ owner k. cc) (record { loaded = refl; fetched = refl })
      (λ enough. Outcome.ByKeys none to (record { loaded = refl; fetched = refl }) (told.told (bare said position now) refl refl enough))
      (λ wants. record { trees = λ owner n. others.trees owner (λ k. cc); store = λ n. others.store (λ k. cc); keys = λ n. told.wanting wants })
      lasts told.rose)

-- memory was wanting, with nothing loaded or fetched
pub wanting_bare : {L : Type 0} (loader : Ghosts L) (operator : UserName) (left : LogName → ℕ → Type 0) (rises : LogName → Type 0) (a b : Views) (q : Question) (old new : L) (e : Event) (now : ℕ) → e ≡ bare reply.OutOfMemory 0 now → OwnStays None a b
    → IsTried loader old new → Came loader operator left rises a b q old new e
wanting_bare loader operator left rises a b q old new e now is stays tried = came_wanting loader operator left rises a b q old new e (ap (λ (x : Event). x.reply) is) stays tried

-- memory was wanting before anything was done
pub nothing_bare : {L : Type 0} (loader : Ghosts L) (same : (l : L) → loader.tied l l) (operator : UserName) (left : LogName → ℕ → Type 0) (rises : LogName → Type 0) (a : Views) (q : Question) (l : L) (e : Event) (now : ℕ) → e ≡ bare reply.OutOfMemory 0 now
    → Came loader operator left rises a a q l l e
nothing_bare loader same operator left rises a q l e now is =
    wanting_bare loader operator left rises a a q l l e now is (record { trees = λ owner n. refl; store = λ n. refl; keys = λ n. refl })
    (record { between = l; blocks = Tries-none loader.fetches loader.faults loader.tied same l; groups = Tries-none loader.loads loader.faults loader.tied same l })

-- where a request goes to whose service is this one
pub asked_tree : (q : Question) (owner : UserName) (locations : List Location) → service_of q.request ≡ service.Directory → route_of q.user q.request ≡ route.Tree owner locations → log_asked q ≡ Some (LogName.OfTree owner)
asked_tree q owner locations serves goes = ap (λ (s : Service). log_by s (route_of q.user q.request)) serves ∙ ap tree_on goes

pub asked_store : (q : Question) → service_of q.request ≡ service.Store → log_asked q ≡ Some LogName.OfStore
asked_store q serves = ap (λ (s : Service). log_by s (route_of q.user q.request)) serves

pub asked_keys : (q : Question) → service_of q.request ≡ service.Keys → log_asked q ≡ Some LogName.OfKeys
asked_keys q serves = ap (λ (s : Service). log_by s (route_of q.user q.request)) serves

-- ---- the blocks, and then the tree

module _ {L E : Type 0} (loader : Ghosts L) (operator : UserName) (rises : LogName → Type 0) (owner : UserName) (q : Question) (locations : List Location) (now : ℕ) where
  pub served_if : {r s : Type 0} → (r → rises LogName.OfStore) → (s → rises (LogName.OfTree owner)) → (other : UserName) → other ≡ operator → (a b c : Views) → Later a b → Later b c → OwnStays None a b → (x y z : L) (fetched : Fetched)
      → map (λ (got : Got). got.0) fetched ≡ locations → BlocksGathered loader r a.store b.store x y [] fetched → (result : Result Event E) → IfOk result (TreeAnswered loader other s b c owner q y z fetched now)
      → IfOk result (TreeServed loader operator rises a c owner q x z locations now)
  served_if up over other is a b c to on own x y z fetched located blocks (Err e) h = tt
  served_if {s = s} up over other is a b c to on own x y z fetched located blocks (Ok e) h =
      let mine : TreeAnswered loader operator s b c owner q y z fetched now e = subst (λ o. TreeAnswered loader o s b c owner q y z fetched now e) is h in
      let since : TreeAnswered loader operator (rises (LogName.OfTree owner)) a c owner q y z fetched now e = answered_since loader operator owner q fetched now over a b c to own y z e mine on in
      let all : BlocksGathered loader (rises LogName.OfStore) a.store c.store x y [] fetched = blocks_until loader up a.store b.store c.store to.store on.store x y [] fetched blocks in
      record {
        between = y;
        blocks = subst (BlocksGathered loader (rises LogName.OfStore) a.store c.store x y []) (sym since.fetched_is) all;
        located = ap (map (λ (got : Got). got.0)) since.fetched_is ∙ located;
        answered = subst (λ (f : Fetched). TreeAnswered loader operator (rises (LogName.OfTree owner)) a c owner q y z f now e) (sym since.fetched_is) since;
      }

pub if_ok : {T E : Type 0} (result : Result T E) (P Q : T → Type 0) → ((x : T) → P x → Q x) → IfOk result P → IfOk result Q
if_ok (Ok x) P Q f h = f x h
if_ok (Err e) P Q f h = tt

pub on_err : {T E P Q : Type 0} (result : Result T E) → (P → Q) → OnErr result P → OnErr result Q
on_err (Ok x) f h = tt
on_err (Err e) f h = f h

pub on_err_now : {T E P : Type 0} (result : Result T E) → P → OnErr result P
on_err_now (Ok x) h = tt
on_err_now (Err e) h = h
