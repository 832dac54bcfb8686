-- A session's run as answers over the whole log of its tree, of which all that it saw is a front.
use Rattle.std.proofs.Common.{◌≡◌, ℕ, zero, suc, ◌+◌, ◌<◌, ◌≤◌, Bool, true, false, List, [], ◌∷◌, length, take, refl, sym, ap, subst, ◌∙◌, inl, inr, arith, Option, Some, None, is_some, slice_get}
use Rattle.std.specs.Prelude.{decimal, if◌then◌else◌, Result, Ok, Err, ◌≢◌, ◌%◌}
use Rattle.std.proofs.lemmas.List.{take-append-le}
use Rattle.up_answers.specs.Answers.{added, answer, fault_reply, log_owner}
use Rattle.up_answers.specs.Routes.{locations_asked}
use Rattle.up_calls.specs.Calls.{Outcome, TreeSays}
use Rattle.up_calls.specs.Routes.{LogName, Question, log_asked, log_by, refusal, refusal_by, route_refusal, service_of}
use Rattle.up_calls.specs.Turns.{IsReplied, Recorded as RecordedBy}
use Rattle.up_calls.specs.Views.{LaterSeen, LaterTree, SeenTree, Views, own_of}
use Rattle.up_calls.specs.declared.event.Event.{Event}
use Rattle.up_calls.specs.declared.service.Service.{Service}
use Rattle.up_calls.specs.declared.service.Service.TheVariants as service
use Rattle.up_commit.specs.Steps.{is_changed}
use Rattle.up_edits.specs.Routes.{route_of}
use Rattle.up_edits.specs.declared.routes.Route.{Route}
use Rattle.up_edits.specs.declared.routes.Route.TheVariants as route
use Rattle.up_entry.specs.declared.entries.Location.{Location}
use Rattle.up_entry.specs.declared.fault.EntryFault.{EntryFault}
use Rattle.up_entry.specs.declared.records.Rec.{Rec}
use Rattle.up_journal.specs.declared.limits.Limits.{Limits}
use Rattle.up_list.specs.Asking.{asked_of, owner_asked}
use Rattle.up_list.specs.declared.asking.ReadRequest.{ReadRequest}
use Rattle.up_list.specs.declared.asking.ReadRequest.TheVariants as asks
use Rattle.up_lists.proofs.BeginsLemmas.{Begins-self, Begins-trans, get-Begins, length-Begins}
use Rattle.up_lists.specs.Begins.{Begins}
use Rattle.up_log_tree.specs.Logs.{Log}
use Rattle.up_names.specs.Texts.{UserName}
use Rattle.up_names.specs.UserNames.{base_of}
use Rattle.up_peer.specs.declared.loader.Loader.{Ghosts}
use Rattle.up_plots.proofs.PlotAnswers.{delete_asked, glob_asked, lookup_asked, put_asked}
use Rattle.up_plots.specs.Asks.{new_file}
use Rattle.up_shared.specs.Sharing.{views_of}
use Rattle.up_shared.specs.declared.shared.Shared.{Shared}
use Rattle.up_storm.proofs.Effects.{Answered, Recorded, log_to}
use Rattle.up_storm.proofs.Grounds.{path_at}
use Rattle.up_storm.proofs.Courses.{small_draw}
use Rattle.up_storm.proofs.PatternReadings.{pattern_read}
use Rattle.up_storm.proofs.Readings.{file_name, file_ordinary, file_read, owner_again, owner_apart, owner_plain, user_read}
use Rattle.up_storm.specs.Asked.{file_text, owner_text, pattern_text, request_of, user_text, wished}
use Rattle.up_storm.specs.Generator.{drawn_of, next_number}
use Rattle.up_storm.specs.Preparing.{storm_limits}
use Rattle.up_storm.specs.Sessions.{HasAsked, HasRun, Session, is_fault}
use Rattle.up_storm.specs.declared.generator.Draw.{Draw}
use Rattle.up_storm.specs.declared.generator.Wish.{Wish}
use Rattle.up_storm.specs.declared.generator.Wish.TheVariants as wish
use Rattle.up_storm.specs.declared.tally.Tally.{Tally}
use Rattle.up_wire.specs.declared.replies.Reply.{Reply}
use Rattle.up_wire.specs.declared.replies.Reply.TheVariants as reply
use Rattle.up_wire.specs.declared.requests.Request.{Request}

-- ---- where a session's requests go

-- a question goes to the tree of session k
pub record IsRouted (k : ℕ) (q : Question) : Type 0 where
  pub served : service_of q.request ≡ service.Directory
  pub locations : List Location
  pub route : route_of q.user q.request ≡ route.Tree (owner_text k) locations

own_owner : (k : ℕ) → log_owner (owner_text k) ≡ owner_text k
own_owner k = ap (λ (b : Bool). if b then base_of (owner_text k) else owner_text k) (owner_plain k)

route_by : (k : ℕ) (user : UserName) (request : Request) (asked : ReadRequest) → asked_of user request ≡ Ok asked → owner_asked asked ≡ owner_text k
    → route_of user request ≡ route.Tree (owner_text k) (locations_asked asked)
unfolding route_of
route_by k user request asked h own =
    ap (λ (r : Result ReadRequest EntryFault). elim r as (λ _. Route) [ Ok a ↦ route.Tree (log_owner (owner_asked a)) (locations_asked a) | Err e ↦ route.Refused (fault_reply e) ]) h
    ∙ ap (λ (o : UserName). route.Tree o (locations_asked asked)) (ap (λ (o : UserName). log_owner o) own ∙ own_owner k)

module _ (k : ℕ) (less : k < 32) (file : ℕ) (small : file < 16) where
  here : k < 34
  here = omega (arith, less)

  next : k + 2 < 34
  next = omega (arith, less)

  pub routed : (w : Wish) → IsRouted k (record { user = user_text k; request = wished k w file })
  routed wish.Put = record {
    served = refl;
    locations = locations_asked (asks.Put (new_file (user_text k) (path_at k file)));
    route = route_by k (user_text k) (wished k wish.Put file) (asks.Put (new_file (user_text k) (path_at k file)))
        (put_asked (user_text k) (owner_text k) (decimal k) (file_name file) (file_text k file) (file_read k here file small) (user_read k here) (file_ordinary k file here small)) refl;
  }
  routed wish.Delete = record {
    served = refl;
    locations = [];
    route = route_by k (user_text k) (wished k wish.Delete file) (asks.Delete (path_at k file)) (delete_asked (user_text k) (file_text k file) (path_at k file) (file_read k here file small)) refl;
  }
  routed wish.Lookup = record {
    served = refl;
    locations = [];
    route = route_by k (user_text k) (wished k wish.Lookup file) (asks.Lookup (path_at k file)) (lookup_asked (user_text k) (file_text k file) (path_at k file) (file_read k here file small)) refl;
  }
  routed wish.LookElsewhere = record {
    served = refl;
    locations = [];
    route = route_by k (user_text k) (wished k wish.LookElsewhere file) (asks.Lookup (path_at (k + 2) file))
        (lookup_asked (user_text k) (file_text (k + 2) file) (path_at (k + 2) file) (file_read (k + 2) next file small)) (owner_again k);
  }
  routed wish.Glob = let pattern = pattern_read k here in record {
    served = refl;
    locations = [];
    route = route_by k (user_text k) (wished k wish.Glob file) (asks.Glob pattern.pattern) (glob_asked (user_text k) (pattern_text k) pattern.pattern pattern.reads) pattern.owner;
  }

-- so it is not refused where the caller has the tree, and goes to that log
module _ (a : Views) (k : ℕ) (q : Question) (r : IsRouted k q) where
  log_is : log_asked q ≡ Some (LogName.OfTree (owner_text k))
  log_is = ap (λ (s : Service). log_by s (route_of q.user q.request)) r.served ∙ ap (λ (on : Route). log_by service.Directory on) r.route

  not_refused : (v : SeenTree) → a.tree (owner_text k) ≡ Some v → refusal a q ≡ None
  unfolding refusal
  not_refused v there =
      ap (λ (s : Service). refusal_by a q s) r.served ∙ ap (λ (on : Route). route_refusal a on) r.route
      ∙ ap (λ (o : Option SeenTree). if is_some o then None else Some reply.WrongHost) there

-- ---- one request

some_none : {X : Type 0} (x : X) → Some x ≡ None → ⊥
some_none x h = absurd (cc)

some_same : {X : Type 0} (x y : X) → Some x ≡ Some y → x ≡ y
some_same x y h = cc

false_true : false ≡ true → ⊥
false_true h = cc

tree_same : (a b : UserName) → ◌≡◌ {A = Option LogName} (Some (LogName.OfTree a)) (Some (LogName.OfTree b)) → a ≡ b
tree_same a b h = cc

tree_store : (a : UserName) → ◌≡◌ {A = Option LogName} (Some (LogName.OfTree a)) (Some LogName.OfStore) → ⊥
tree_store a h = absurd (cc)

tree_keys : (a : UserName) → ◌≡◌ {A = Option LogName} (Some (LogName.OfTree a)) (Some LogName.OfKeys) → ⊥
tree_keys a h = absurd (cc)

-- a tree's reply, at one point of its log
pub record Replies (a b : Views) (k : ℕ) (q : Question) (e : Event) : Type 0 where
  pub v : SeenTree
  pub w : SeenTree
  pub before : a.tree (owner_text k) ≡ Some v
  pub after : b.tree (owner_text k) ≡ Some w
  pub replied : IsReplied (TreeSays w q e) v w e

-- what a session's question came to, unless a disk failed or memory was wanting
pub replied_by : (operator : UserName) (a b : Views) (k : ℕ) (q : Question) (e : Event) (v : SeenTree) → IsRouted k q → a.tree (owner_text k) ≡ Some v → is_fault e.reply ≡ false → Outcome operator a b q e
    → Replies a b k q e
replied_by operator a b k q e v r there sound (Outcome.Refused refused position plain stays) =
    absurd (some_none e.reply (sym refused ∙ not_refused a k q r v there))
replied_by operator a b k q e v r there sound (Outcome.ByTree owner x y accepted asked before after (inl turn)) =
    let same : owner ≡ owner_text k = tree_same owner (owner_text k) (sym asked ∙ log_is a k q r) in
    record {
      v = x;
      w = y;
      before = sym (ap (λ (o : UserName). a.tree o) same) ∙ before;
      after = sym (ap (λ (o : UserName). b.tree o) same) ∙ after;
      replied = turn.0;
    }
replied_by operator a b k q e v r there sound (Outcome.ByTree owner x y accepted asked before after (inr turn)) =
    absurd (false_true (sym sound ∙ ap (λ (s : Reply). is_fault s) turn.0.io))
replied_by operator a b k q e v r there sound (Outcome.ByStore accepted asked plain turn) = absurd (tree_store (owner_text k) (sym (log_is a k q r) ∙ asked))
replied_by operator a b k q e v r there sound (Outcome.ByKeys accepted asked plain turn) = absurd (tree_keys (owner_text k) (sym (log_is a k q r) ∙ asked))
replied_by operator a b k q e v r there sound (Outcome.Wanting wanting stays) = absurd (false_true (sym sound ∙ ap (λ (s : Reply). is_fault s) wanting))

-- ---- what was seen begins the whole log

take_front : {X : Type 0} (n : ℕ) (front all : List X) → Begins front all → n ≤ length front → take n front ≡ take n all
take_front {X} n front all h short = sym (take-append-le n front h.rest short) ∙ ap (λ (xs : List X). take n xs) h.whole

get_below : {X : Type 0} (xs : List X) (n : ℕ) (x : X) → slice_get xs n ≡ Some x → n < length xs
get_below [] n x h = absurd (some_none x (sym h))
get_below (y ∷ xs) zero x h = omega arith
get_below (y ∷ xs) (suc n) x h = let less = get_below xs n x h in omega (arith, less)

module _ (log : List Rec) (v w : SeenTree) (begins : Begins w.seen log) where
  recorded_by : (position : ℕ) (records : List Rec) → RecordedBy v w position records → Recorded log position (length w.seen) v.own w.own records
  recorded_by position [] h = h
  recorded_by position (rec ∷ []) h =
      let low = get_below w.seen position rec h.0 in
      (get-Begins begins position low ∙ h.0, low, h.1)
  recorded_by position (rec ∷ (more ∷ rest)) h = h

  -- the answer over what was seen is that over the whole log's front
  module _ (k : ℕ) (fixed : w.fixed ≡ (owner_text k, storm_limits)) (position : ℕ) (short : position ≤ length w.seen) where
    log_same : record { owner = w.fixed.0; limits = w.fixed.1; records = take position w.seen } ≡ log_to log k position
    log_same =
        ap (λ (f : UserName × Limits). record { owner = f.0; limits = f.1; records = take position w.seen }) fixed
        ∙ ap (λ (rs : List Rec). record { owner = owner_text k; limits = storm_limits; records = rs }) (take_front position w.seen log begins short)

-- the requests of a session, each answered over the whole log's front
abbrev pub AllAnswered : List Rec → ℕ → ℕ → ℕ → ℕ → ℕ → List ℕ → List ℕ → Tally → Tally → Type 0
AllAnswered log k zero x from to own after t u = (to ≡ from) × (after ≡ own) × (u ≡ t)
AllAnswered log k (suc n) x from to own after t u =
    (mid : ℕ) × (between : List ℕ) × (s : Tally) × Answered log k (drawn_of (next_number x)) from mid own between t s
    × AllAnswered log k n (next_number x) mid to between after s u

-- ---- a run

module _ {D L : Type 0} (loader : Ghosts L) (shared : Shared D) (full : Bool) (k : ℕ) (less : k < 32) where
  -- what a session has seen of its own tree
  abbrev pub seen_at : Session D L → Option SeenTree
  seen_at v = (views_of v.seats).tree (owner_text k)

  abbrev asked_by : Session D L → Question
  asked_by v = record { user = v.user; request = request_of k (drawn_of (next_number v.number)) }

  -- it goes to the tree of the session
  goes_to : (v : Session D L) → v.user ≡ user_text k → IsRouted k (asked_by v)
  goes_to v user =
      let draw : Draw = drawn_of (next_number v.number) in
      subst (λ (u : UserName). IsRouted k (record { user = u; request = request_of k draw })) (sym user) (routed k less draw.file (small_draw (next_number v.number)) draw.wish)

  -- one request was answered
  record Stepped (v w : Session D L) (a : SeenTree) (e : Event) : Type 0 where
    b : SeenTree
    after : seen_at w ≡ Some b
    later : LaterSeen a b
    replied : IsReplied (TreeSays b (asked_by v) e) a b e

  step : (v w : Session D L) (a : SeenTree) (h : HasAsked loader shared full k v w) → v.user ≡ user_text k → seen_at v ≡ Some a → Stepped v w a h.event
  step v w a h user there =
      let to_here = goes_to v user in
      let r = replied_by shared.operator (views_of v.seats) (views_of w.seats) k (asked_by v) h.event a to_here there h.sound h.answered.asked.outcome in
      let same : r.v ≡ a = some_same r.v a (sym r.before ∙ there) in
      record {
        b = r.w;
        after = r.after;
        later = subst (λ (o : Option SeenTree). LaterTree o (Some r.w)) there (subst (λ (o : Option SeenTree). LaterTree (seen_at v) o) r.after (h.answered.asked.later.trees (owner_text k)));
        replied = subst (λ (x : SeenTree). IsReplied (TreeSays r.w (asked_by v) h.event) x r.w h.event) same r.replied;
      }

  -- what a session saw stays seen
  pub record Going (w : Session D L) (a : SeenTree) : Type 0 where
    pub b : SeenTree
    pub after : seen_at w ≡ Some b
    pub begins : Begins a.seen b.seen
    pub fixed : b.fixed ≡ a.fixed

  pub goes_on : (n : ℕ) (v w : Session D L) (a : SeenTree) → HasRun loader shared full k n v w → v.user ≡ user_text k → seen_at v ≡ Some a → Going w a
  goes_on zero v w a h user there = record { b = a; after = ap seen_at h ∙ there; begins = Begins-self a.seen; fixed = refl }
  goes_on (suc n) v w a h user there =
      let one = step v h.0 a h.1 user there in
      let rest = goes_on n h.0 w one.b h.2 (h.1.user ∙ user) one.after in
      record { b = rest.b; after = rest.after; begins = Begins-trans one.later.begins rest.begins; fixed = rest.fixed ∙ one.later.fixed }

  answered_over : (log : List Rec) (v w : Session D L) (a : SeenTree) (h : HasAsked loader shared full k v w) → v.user ≡ user_text k → (s : Stepped v w a h.event) → Begins s.b.seen log → a.fixed ≡ (owner_text k, storm_limits)
      → Answered log k (drawn_of (next_number v.number)) (length a.seen) (length s.b.seen) a.own s.b.own v.tally w.tally
  answered_over log v w a h user s begins fixed =
      let draw : Draw = drawn_of (next_number v.number) in
      let e : Event = h.event in
      let same = log_same log a s.b begins k (s.later.fixed ∙ fixed) e.position s.replied.to in
      record {
        position = e.position;
        low = s.replied.from;
        high = s.replied.to;
        within = length-Begins begins;
        loaded = e.loaded;
        fetched = e.fetched;
        moment = e.moment;
        said = e.reply;
        reply = s.replied.reply.reply ∙ ap (λ (l : Log). answer l e.loaded e.fetched v.user (request_of k draw) e.moment) same
            ∙ ap (λ (u : UserName). answer (log_to log k e.position) e.loaded e.fetched u (request_of k draw) e.moment) user;
        recorded = subst (λ (rs : List Rec). Recorded log e.position (length s.b.seen) a.own s.b.own rs)
            (s.replied.reply.added ∙ ap (λ (l : Log). if is_changed e.reply then added l e.loaded e.fetched v.user (request_of k draw) e.moment else []) same
            ∙ ap (λ (u : UserName). if is_changed e.reply then added (log_to log k e.position) e.loaded e.fetched u (request_of k draw) e.moment else []) user)
            (recorded_by log a s.b begins e.position s.replied.added s.replied.recorded);
        counted = h.tally;
      }

  -- A session's run is that of its requests over the whole log.
  pub traced : (log : List Rec) (n : ℕ) (v w : Session D L) (a b : SeenTree) → HasRun loader shared full k n v w → v.user ≡ user_text k → seen_at v ≡ Some a → seen_at w ≡ Some b → Begins b.seen log
      → a.fixed ≡ (owner_text k, storm_limits) → AllAnswered log k n v.number (length a.seen) (length b.seen) a.own b.own v.tally w.tally
  traced log zero v w a b h user there at_end begins fixed =
      let same : b ≡ a = some_same b a (sym at_end ∙ ap seen_at h ∙ there) in
      (ap (λ (x : SeenTree). length x.seen) same, ap (λ (x : SeenTree). x.own) same, ap (λ (s : Session D L). s.tally) h)
  traced log (suc n) v w a b h user there at_end begins fixed =
      let one = step v h.0 a h.1 user there in
      let user_after = h.1.user ∙ user in
      let rest = goes_on n h.0 w one.b h.2 user_after one.after in
      let same : rest.b ≡ b = some_same rest.b b (sym rest.after ∙ at_end) in
      let begins_after : Begins one.b.seen log = Begins-trans rest.begins (subst (λ (x : SeenTree). Begins x.seen log) (sym same) begins) in (
        length one.b.seen,
        one.b.own,
        h.0.tally,
        answered_over log v h.0 a h.1 user one begins_after fixed,
        subst (λ (x : ℕ). AllAnswered log k n x (length one.b.seen) (length b.seen) one.b.own b.own h.0.tally w.tally) h.1.number
            (traced log n h.0 w one.b b h.2 user_after one.after at_end begins (one.later.fixed ∙ fixed)),
      )

  -- to the other tree no record of the session's own comes
  pub own_elsewhere : (c n : ℕ) (v w : Session D L) → k % 2 ≢ c % 2 → HasRun loader shared full k n v w → v.user ≡ user_text k
      → own_of ((views_of w.seats).tree (owner_text c)) ≡ own_of ((views_of v.seats).tree (owner_text c))
  own_elsewhere c zero v w apart h user = ap (λ (s : Session D L). own_of ((views_of s.seats).tree (owner_text c))) h
  own_elsewhere c (suc n) v w apart h user =
      own_elsewhere c n h.0 w apart h.2 (h.1.user ∙ user)
      ∙ h.1.answered.asked.others.trees (owner_text c)
      (λ same. owner_apart k c apart (tree_same (owner_text k) (owner_text c) (sym (log_is (views_of v.seats) k (asked_by v) (goes_to v user)) ∙ same)))
