-- What one call made of a host that is not shared: a request to a tree, and a block that is kept.
use Rattle.std.proofs.Common.{◌≡◌, ◌≢◌, ℕ, ◌+◌, ◌<◌, ◌≤◌, Bool, true, false, List, [], ◌∷◌, ◌++◌, length, map, take, refl, sym, ap, subst, ◌∙◌, inl, inr, arith, length-append, Option, Some, None, is_some}
use Rattle.std.specs.Prelude.{if◌then◌else◌, Result, Ok, Err}
use Rattle.std.specs.List.{AllByRecursion}
use Rattle.std.specs.Option.{option_map}
use Rattle.std.proofs.lemmas.Bool.{le-ltb}
use Rattle.sha2.specs.Sha256.{sha256}
use Rattle.up_answers.specs.Answers.{added, answer, fault_reply, log_owner}
use Rattle.up_answers.specs.Routes.{locations_asked, locations_for}
use Rattle.up_blocks.specs.Records.{IsTold, holds, largest_block, put_record, size_of, sizes_of}
use Rattle.up_blocks.specs.declared.record.BlockRecord.{BlockRecord}
use Rattle.up_calls.specs.Blocks.{Got, OwnBlocks}
use Rattle.up_calls.specs.Calls.{Asked, Outcome, StoreTurn, TreeSays, TreeTurn}
use Rattle.up_calls.specs.Routes.{LogName, Question, locations_on, log_asked, log_by, refusal, refusal_by, route_refusal, service_of}
use Rattle.up_calls.specs.Services.{StoreSays, put_leads, store_leads}
use Rattle.up_calls.specs.Turns.{IsReplied, Recorded}
use Rattle.up_calls.specs.Views.{LaterSeen, LaterTree, SeenTree, Views}
use Rattle.up_calls.specs.declared.event.Event.{Event}
use Rattle.up_calls.specs.declared.service.Service.{Service}
use Rattle.up_calls.specs.declared.service.Service.TheVariants as service
use Rattle.up_commit.specs.Steps.{is_changed}
use Rattle.up_edits.specs.Routes.{route_of}
use Rattle.up_edits.specs.declared.routes.Route.{Route}
use Rattle.up_edits.specs.declared.routes.Route.TheVariants as route
use Rattle.up_entry.specs.declared.entries.Location.{Location}
use Rattle.up_entry.specs.declared.fault.EntryFault.{EntryFault}
use Rattle.up_entry.specs.declared.puts.Checked.{Checked}
use Rattle.up_entry.specs.declared.puts.PutEntry.{PutEntry}
use Rattle.up_entry.specs.declared.records.Rec.{Rec}
use Rattle.up_entry.specs.declared.what.What.{What}
use Rattle.up_entry.specs.declared.what.What.TheVariants.{Block}
use Rattle.up_host.specs.Alone.{AddsOwn, IsAlone, ends_at}
use Rattle.up_host.specs.Opens.{store_limits}
use Rattle.up_journal.specs.Journal.{is_full}
use Rattle.up_journal.specs.declared.limits.Limits.{Limits}
use Rattle.up_list.specs.Asking.{asked_of, owner_asked}
use Rattle.up_list.specs.declared.asking.ReadRequest.{ReadRequest}
use Rattle.up_list.specs.declared.asking.ReadRequest.TheVariants as asks
use Rattle.up_lists.proofs.BeginsLemmas.{take-Begins}
use Rattle.up_lists.specs.Begins.{Begins}
use Rattle.up_log_tree.proofs.Paths.{some_none, some_same}
use Rattle.up_log_tree.specs.Logs.{Log}
use Rattle.up_names.specs.Texts.{Text, UserName}
use Rattle.up_names.specs.UserNames.{base_of}
use Rattle.up_peer.specs.declared.loader.Loader.{Ghosts}
use Rattle.up_plots.specs.Answered.{IsAnswered}
use Rattle.up_policy.specs.Trees.{owns_snapshots}
use Rattle.up_storm.proofs.KeptBlocks.{AreAccessBlocks, IsAccessBlock, blocks_weaker, has_space, holds_last, put_adds, told_whole}
use Rattle.up_storm.proofs.OpeningLemmas.{blank_more}
use Rattle.up_storm.proofs.PreparedReadings.{text_short}
use Rattle.up_storm.proofs.SeenGrowth.{all_last, seen_grows, seen_stays}
use Rattle.up_storm.specs.Asked.{access_text}
use Rattle.up_storm.specs.Preparing.{storm_limits}
use Rattle.up_storm.specs.Sessions.{is_fault}
use Rattle.up_wire.specs.declared.replies.Done.TheVariants as done
use Rattle.up_wire.specs.declared.replies.Reply.{Reply}
use Rattle.up_wire.specs.declared.replies.Reply.TheVariants as reply
use Rattle.up_wire.specs.declared.requests.Request.TheVariants as request

-- false is not true
false_true : false ≡ true → ⊥
false_true h = cc

-- the logs of two trees are one where their owners are
tree_same : (a b : UserName) → ◌≡◌ {A = Option LogName} (Some (LogName.OfTree a)) (Some (LogName.OfTree b)) → a ≡ b
tree_same a b h = cc

-- the log of a tree is not the store's
tree_store : (a : UserName) → ◌≡◌ {A = Option LogName} (Some (LogName.OfTree a)) (Some LogName.OfStore) → ⊥
tree_store a h = absurd (cc)

-- and not that of the keys
tree_keys : (a : UserName) → ◌≡◌ {A = Option LogName} (Some (LogName.OfTree a)) (Some LogName.OfKeys) → ⊥
tree_keys a h = absurd (cc)

-- and the store's is not that of the keys
store_keys : ◌≡◌ {A = Option LogName} (Some LogName.OfStore) (Some LogName.OfKeys) → ⊥
store_keys h = absurd (cc)

-- One call of a host that is not shared, in which no disk failed and memory was there.
pub record Made {L : Type 0} (loader : Ghosts L) (operator : UserName) (a b : Views) (old new : L) (q : Question) (e : Event) : Type 0 where
  pub asked : Asked loader operator a old q e b new
  pub alone : IsAlone a b q e
  pub sound : is_fault e.reply ≡ false

-- ---- where a request goes

-- a question goes to the tree of an owner, for which these blocks have to be fetched
pub record GoesTo (owner : UserName) (locations : List Location) (q : Question) : Type 0 where
  pub served : service_of q.request ≡ service.Directory
  pub route : route_of q.user q.request ≡ route.Tree owner locations

-- the route of a Put is to the tree of its path's owner
put_route : (owner user : UserName) (raw : PutEntry) (put : Checked) → asked_of user (request.Put raw) ≡ Ok (asks.Put put) → put.entry.name.owner ≡ owner → owns_snapshots owner ≡ false
    → route_of user (request.Put raw) ≡ route.Tree owner (locations_for put.entry)
unfolding route_of
put_route owner user raw put h own plain =
    ap (λ (r : Result ReadRequest EntryFault). elim r as (λ _. Route) [ Ok asked ↦ route.Tree (log_owner (owner_asked asked)) (locations_asked asked) | Err fault ↦ route.Refused (fault_reply fault) ]) h
    ∙ ap (λ (o : UserName). route.Tree (log_owner o) (locations_for put.entry)) own
    ∙ ap (λ (b : Bool). route.Tree (if b then base_of owner else owner) (locations_for put.entry)) plain

-- so does a Put on a path of the owner's
pub goes_put : (owner user : UserName) (raw : PutEntry) (put : Checked) → asked_of user (request.Put raw) ≡ Ok (asks.Put put) → put.entry.name.owner ≡ owner → owns_snapshots owner ≡ false
    → GoesTo owner (locations_for put.entry) (record { user = user; request = request.Put raw })
goes_put owner user raw put h own plain = record { served = refl; route = put_route owner user raw put h own plain }

module _ (a : Views) (owner : UserName) (locations : List Location) (q : Question) (goes : GoesTo owner locations q) where
  -- it goes to the log of that tree
  goes_log : log_asked q ≡ Some (LogName.OfTree owner)
  goes_log = ap (λ (s : Service). log_by s (route_of q.user q.request)) goes.served ∙ ap (λ (on : Route). log_by service.Directory on) goes.route

  -- and is not refused where the tree is there
  goes_taken : (v : SeenTree) → a.tree owner ≡ Some v → refusal a q ≡ None
  unfolding refusal
  goes_taken v there =
      ap (λ (s : Service). refusal_by a q s) goes.served ∙ ap (λ (on : Route). route_refusal a on) goes.route
      ∙ ap (λ (o : Option SeenTree). if is_some o then None else Some reply.WrongHost) there

-- ---- a request to a tree

-- What a call of a tree made of it, and that it left all else.
pub record TreeCall (a b : Views) (owner : UserName) (locations : List Location) (q : Question) (e : Event) (v : SeenTree) : Type 0 where
  pub w : SeenTree
  pub after : b.tree owner ≡ Some w
  pub begins : Begins v.seen w.seen
  pub fixed : w.fixed ≡ v.fixed
  pub grown : AddsOwn v w
  pub at_end : e.position ≡ length v.seen
  pub replied : IsReplied (TreeSays w q e) v w e
  pub located : map (λ (got : Got). got.0) e.fetched ≡ locations
  pub blocks : OwnBlocks a.store b.store e.fetched
  pub store : b.store.seen ≡ a.store.seen
  pub store_fixed : b.store.fixed ≡ a.store.fixed
  pub others : (other : UserName) → (other ≡ owner → ⊥) → b.tree other ≡ a.tree other

-- what is later of a tree that is there
later_of : (x y : Option SeenTree) (v w : SeenTree) → LaterTree x y → x ≡ Some v → y ≡ Some w → LaterSeen v w
later_of x y v w later p q = subst (λ (o : Option SeenTree). LaterTree (Some v) o) q (subst (λ (o : Option SeenTree). LaterTree o y) p later)

module _ {L : Type 0} (loader : Ghosts L) (operator : UserName) (a b : Views) (old new : L) (owner : UserName) (locations : List Location) (q : Question) (e : Event) (goes : GoesTo owner locations q)
    (made : Made loader operator a b old new q e) (v : SeenTree) (there : a.tree owner ≡ Some v) where
  -- memory was there
  no_wanting : e.reply ≢ reply.OutOfMemory
  no_wanting h = false_true (sym made.sound ∙ ap is_fault h)

  -- it was answered at the end of the log
  position_is : e.position ≡ length v.seen
  position_is =
      let ends = made.alone.at_end (goes_taken a owner locations q goes v there) no_wanting in
      sym (some_same (length v.seen) e.position
      (sym (ap (λ (log : Option LogName). ends_at log a) (goes_log a owner locations q goes) ∙ ap (λ (o : Option SeenTree). option_map (λ (x : SeenTree). length x.seen) o) there) ∙ ends))

  -- what its turn told is told of it
  turned : (x y : SeenTree) → a.tree owner ≡ Some x → b.tree owner ≡ Some y → TreeTurn operator a b x y q e → TreeCall a b owner locations q e v
  turned x y before after (inr failed) = absurd (false_true (sym made.sound ∙ ap is_fault failed.0.io))
  turned x y before after (inl said) =
      let same : x ≡ v = some_same x v (sym before ∙ there) in
      let later = later_of (a.tree owner) (b.tree owner) v y (made.asked.later.trees owner) there after in
      let stays : b.store.own ≡ a.store.own = made.asked.others.store (λ h. tree_store owner (sym (goes_log a owner locations q goes) ∙ h)) in
      record {
        w = y;
        after = after;
        begins = later.begins;
        fixed = later.fixed;
        grown = made.alone.tree_grown owner v y there after;
        at_end = position_is;
        replied = subst (λ (z : SeenTree). IsReplied (TreeSays y q e) z y e) same said.0;
        located = said.1.locations ∙ ap locations_on goes.route;
        blocks = said.1.blocks;
        store = seen_stays a.store b.store made.asked.later.store.begins made.alone.store_grown stays;
        store_fixed = made.asked.later.store.fixed;
        others = λ other apart. made.alone.trees other (λ h. apart (sym (tree_same owner other (sym (goes_log a owner locations q goes) ∙ h))));
      }

  -- so what came of it was told by a turn of that tree
  came_of : Outcome operator a b q e → TreeCall a b owner locations q e v
  came_of (Outcome.Refused refused position plain stays) = absurd (some_none e.reply (sym refused ∙ goes_taken a owner locations q goes v there))
  came_of (Outcome.ByTree other x y accepted log before after turn) =
      let same : other ≡ owner = tree_same other owner (sym log ∙ goes_log a owner locations q goes) in
      turned x y (sym (ap (λ (o : UserName). a.tree o) same) ∙ before) (sym (ap (λ (o : UserName). b.tree o) same) ∙ after) turn
  came_of (Outcome.ByStore accepted log plain turn) = absurd (tree_store owner (sym (goes_log a owner locations q goes) ∙ log))
  came_of (Outcome.ByKeys accepted log plain turn) = absurd (tree_keys owner (sym (goes_log a owner locations q goes) ∙ log))
  came_of (Outcome.Wanting wanting stays) = absurd (no_wanting wanting)

  -- a call that goes to a tree is answered there
  pub tree_call : TreeCall a b owner locations q e v
  tree_call = came_of made.asked.outcome

-- Its reply is the answer over the log before it.
module _ (a b : Views) (owner : UserName) (locations : List Location) (q : Question) (e : Event) (v : SeenTree) (call : TreeCall a b owner locations q e v)
    (limits : Limits) (fixed : v.fixed ≡ (owner, limits)) where
  -- the log before it
  abbrev log_before : Log
  log_before = record { owner = owner; limits = limits; records = v.seen }

  -- is the one over which it was answered
  log_same : record { owner = call.w.fixed.0; limits = call.w.fixed.1; records = take e.position call.w.seen } ≡ log_before
  log_same =
      ap (λ (f : UserName × Limits). record { owner = f.0; limits = f.1; records = take e.position call.w.seen }) (call.fixed ∙ fixed)
      ∙ ap (λ (rs : List Rec). record { owner = owner; limits = limits; records = rs }) (ap (λ (n : ℕ). take n call.w.seen) call.at_end ∙ take-Begins call.begins)

  module _ (said : Reply) (records : List Rec) (answered : IsAnswered log_before e.loaded e.fetched q.user q.request e.moment said records) where
    pub tree_said : e.reply ≡ said
    tree_said = call.replied.reply.reply ∙ ap (λ (l : Log). answer l e.loaded e.fetched q.user q.request e.moment) log_same ∙ answered.reply

    tree_added : call.replied.added ≡ (if is_changed said then records else [])
    tree_added =
        call.replied.reply.added
        ∙ ap (λ (l : Log). if is_changed e.reply then added l e.loaded e.fetched q.user q.request e.moment else []) log_same
        ∙ ap (λ (rs : List Rec). if is_changed e.reply then rs else []) answered.added
        ∙ ap (λ (r : Reply). if is_changed r then records else []) tree_said

  -- a record that it adds is all that came to the log
  pub tree_grows : (n : ℕ) (rec : Rec) → IsAnswered log_before e.loaded e.fetched q.user q.request e.moment (reply.Ok (done.Changed n)) (rec ∷ []) → call.w.seen ≡ v.seen ++ rec ∷ []
  tree_grows n rec answered =
      let recorded = subst (λ (rs : List Rec). Recorded v call.w e.position rs) (tree_added (reply.Ok (done.Changed n)) (rec ∷ []) answered) call.replied.recorded in
      seen_grows v call.w call.begins call.grown rec (subst (λ (m : ℕ). Recorded v call.w m (rec ∷ [])) call.at_end recorded)

-- ---- a block that is kept

-- What a StorePut of a session's text made of the store's log, and that it left the trees.
pub record BlockCall (a b : Views) (k : ℕ) : Type 0 where
  pub blocks : AreAccessBlocks (k + 1) b.store.seen
  pub few : length b.store.seen ≤ length a.store.seen + 1
  pub held : holds b.store.seen (sha256 (access_text k)) ≡ true
  pub fixed : b.store.fixed ≡ a.store.fixed
  pub trees : (owner : UserName) → b.tree owner ≡ a.tree owner

module _ {L : Type 0} (loader : Ghosts L) (operator : UserName) (a b : Views) (old new : L) (user : UserName) (k : ℕ) (low : k < 32) (e : Event)
    (made : Made loader operator a b old new (record { user = user; request = request.StorePut (access_text k) }) e)
    (blocks : AreAccessBlocks k a.store.seen) (few : length a.store.seen ≤ 31) (limits : a.store.fixed ≡ store_limits storm_limits) (told : AllByRecursion (IsTold true) b.store.seen) where
  -- the request
  abbrev question : Question
  question = record { user = user; request = request.StorePut (access_text k) }

  -- and what is kept
  abbrev text : Text
  text = access_text k

  -- memory was there
  not_wanting : e.reply ≢ reply.OutOfMemory
  not_wanting h = false_true (sym made.sound ∙ ap is_fault h)

  -- the text is not too long for a block
  text_within : length text ≤ 1048576
  text_within = let short = text_short k low in omega (arith, short)

  -- so it is not refused
  accepted : refusal a question ≡ None
  unfolding refusal
  accepted = ap (λ (b : Bool). option_map (λ (what : What). reply.Invalid what) (if b then Some Block else None)) (le-ltb largest_block (length text) text_within)

  -- it was answered at the end of the log
  block_position : e.position ≡ length a.store.seen
  block_position = sym (some_same (length a.store.seen) e.position (made.alone.at_end accepted not_wanting))

  -- what the store had is there still
  later : LaterSeen a.store b.store
  later = made.asked.later.store

  -- and is of the sessions up to this one
  all_weaker : AreAccessBlocks (k + 1) a.store.seen
  all_weaker = blocks_weaker k (k + 1) (omega arith) a.store.seen blocks

  -- no tree was touched
  trees_stay : (owner : UserName) → b.tree owner ≡ a.tree owner
  trees_stay owner = made.alone.trees owner (λ h. tree_store owner (sym h))

  -- by what was added
  came_with : (added : List BlockRecord) → Recorded a.store b.store (length a.store.seen) added
      → StoreSays a.store.seen (put_leads b.store.fixed a.store.seen text) e.reply added → BlockCall a b k
  came_with added recorded says =
      elim (put_adds b.store.fixed a.store.seen text e.reply added room says) [
        | inl old_one ↦
            let same : b.store.seen ≡ a.store.seen = seen_stays a.store b.store later.begins made.alone.store_grown (subst (λ (rs : List BlockRecord). Recorded a.store b.store (length a.store.seen) rs) old_one.1 recorded) in
            let long : length b.store.seen ≡ length a.store.seen = ap (λ (rs : List BlockRecord). length rs) same in
            record {
              blocks = subst (λ (rs : List BlockRecord). AreAccessBlocks (k + 1) rs) (sym same) all_weaker;
              few = omega (arith, long);
              held = ap (λ (rs : List BlockRecord). holds rs (sha256 text)) same ∙ old_one.0;
              fixed = later.fixed;
              trees = trees_stay;
            }
        | inr adds ↦
            let same : b.store.seen ≡ a.store.seen ++ adds.one ∷ [] = seen_grows a.store b.store later.begins made.alone.store_grown adds.one
            (subst (λ (rs : List BlockRecord). Recorded a.store b.store (length a.store.seen) rs) adds.alone recorded) in
            let whole : adds.one ≡ put_record true text = told_whole text adds.one adds.same (all_last (IsTold true) a.store.seen adds.one (subst (λ (rs : List BlockRecord). AllByRecursion (IsTold true) rs) same told)) in
            let all : b.store.seen ≡ a.store.seen ++ put_record true text ∷ [] = same ∙ ap (λ (r : BlockRecord). a.store.seen ++ r ∷ []) whole in
            let long : length b.store.seen ≡ length (a.store.seen ++ put_record true text ∷ []) = ap (λ (rs : List BlockRecord). length rs) all in
            let sum : length (a.store.seen ++ put_record true text ∷ []) ≡ length a.store.seen + 1 = length-append a.store.seen (put_record true text ∷ []) in
            record {
              blocks = subst (λ (rs : List BlockRecord). AreAccessBlocks (k + 1) rs) (sym all) (blank_more (IsAccessBlock (k + 1)) a.store.seen (put_record true text) all_weaker (record { k = k; low = omega arith; is = refl }));
              few = omega (arith, long, sum);
              held = ap (λ (rs : List BlockRecord). holds rs (sha256 text)) all ∙ holds_last a.store.seen text;
              fixed = later.fixed;
              trees = trees_stay;
            }
      ]
    where
      room : is_full b.store.fixed (sizes_of a.store.seen) (size_of (put_record true text)) ≡ false
      room = has_space b.store.fixed (later.fixed ∙ limits) k (omega (arith, low)) a.store.seen blocks (omega (arith, few)) (size_of (put_record true text)) (let short = text_short k low in omega (arith, short))

  -- what a turn of the store told
  block_turn : StoreTurn operator a.store b.store question e → BlockCall a b k
  unfolding store_leads
  block_turn (inr failed) = absurd (false_true (sym made.sound ∙ ap is_fault failed.io))
  block_turn (inl said) =
      let front : take e.position b.store.seen ≡ a.store.seen = ap (λ (n : ℕ). take n b.store.seen) block_position ∙ take-Begins later.begins in
      came_with said.added (subst (λ (n : ℕ). Recorded a.store b.store n said.added) block_position said.recorded)
      (subst (λ (rs : List BlockRecord). StoreSays rs (store_leads operator user (request.StorePut text) b.store.fixed rs) e.reply said.added) front said.reply)

  -- so what came of it was told by a turn of the store
  block_outcome : Outcome operator a b question e → BlockCall a b k
  block_outcome (Outcome.Refused refused position plain stays) = absurd (some_none e.reply (sym refused ∙ accepted))
  block_outcome (Outcome.ByTree owner x y taken log before after turn) = absurd (tree_store owner (sym log))
  block_outcome (Outcome.ByStore taken log plain turn) = block_turn turn
  block_outcome (Outcome.ByKeys taken log plain turn) = absurd (store_keys log)
  block_outcome (Outcome.Wanting wanting stays) = absurd (not_wanting wanting)

  -- the text is kept
  pub block_call : BlockCall a b k
  block_call = block_outcome made.asked.outcome
