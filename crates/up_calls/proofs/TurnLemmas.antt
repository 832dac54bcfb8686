-- How a request to a tree goes on, turn by turn, while others may write to the logs.
use Rattle.std.proofs.Common.{◌≡◌, ◌≢◌, ◌≤◌, ◌<◌, ◌+◌, ℕ, Bool, true, false, List, [], ◌∷◌, ◌++◌, length, take, refl, inl, inr, sym, ap, subst, ◌∙◌, arith, bytes_eq, Option, Some, None, slice_get}
use Rattle.std.specs.Prelude.{Contains, is_some}
use Rattle.std.specs.List.{IsDistinct}
use Rattle.std.specs.Map.{keys_of}
use Rattle.std.proofs.lemmas.Bool.{false≢true}
use Rattle.std.proofs.lemmas.Slice.Eq.{bytes_eq-Decides}
use Rattle.up_answers.specs.Fetching.{Fetched}
use Rattle.up_answers.specs.Needs.{needs}
use Rattle.up_calls.proofs.AsksLemmas.{EachAfter-at, Rose-right}
use Rattle.up_calls.proofs.GatherLemmas.{asks_before, gathered_for, gathered_trans, is_there, log_later, own_texts_earlier, own_texts_later, same_some, was_there}
use Rattle.up_calls.proofs.RoundLemmas.{missing_needed, rounds_earlier, rounds_for, rounds_next, rounds_until}
use Rattle.up_calls.specs.Answered.{TreeAnswered}
use Rattle.up_calls.specs.Asks.{Asks, EachAfter}
use Rattle.up_calls.specs.Gathered.{Gathered, HasRounds, IsWanted, missing_over}
use Rattle.up_calls.specs.Loads.{OwnTexts, Pair, group_answer, group_question, load_failed}
use Rattle.up_calls.specs.Rounds.{IsMissing, LoadsRound, bound}
use Rattle.up_calls.specs.Routes.{LogName, OwnStays, Question}
use Rattle.up_calls.specs.Told.{IsSaid, Misses, TreeTold}
use Rattle.up_calls.specs.Turns.{Recorded}
use Rattle.up_calls.specs.Views.{Later, LaterSeen, LaterTree, Seen, SeenTree, Views, log_after, own_of}
use Rattle.up_calls.specs.declared.event.Event.{Event}
use Rattle.up_calls.specs.declared.logs.Turn.TheVariants as turn
use Rattle.up_lists.proofs.BeginsLemmas.{Begins-trans, length-Begins}
use Rattle.up_names.specs.PathNames.{PathName}
use Rattle.up_names.specs.PathOrder.{path_eq}
use Rattle.up_names.specs.Texts.{UserName}
use Rattle.up_peer.specs.declared.loader.Loader.{Ghosts}
use Rattle.up_policy.specs.Loadings.{Loading}
use Rattle.up_wire.specs.declared.replies.Reply.{Reply}

-- ---- what is seen later

pub some_later : (x y : Option SeenTree) → LaterTree x y → is_some x ≡ true → is_some y ≡ true
some_later None None later h = h
some_later None (Some w) later h = absurd later
some_later (Some v) None later h = absurd later
some_later (Some v) (Some w) later h = refl

later_trees : (x y z : Option SeenTree) → LaterTree x y → LaterTree y z → LaterTree x z
later_trees None None None p q = tt
later_trees (Some x) (Some y) (Some z) p q = record { begins = Begins-trans p.begins q.begins; failed = omega (arith, p.failed, q.failed); fixed = q.fixed ∙ p.fixed }
later_trees None None (Some z) p q = absurd q
later_trees None (Some y) z p q = absurd p
later_trees (Some x) None z p q = absurd p
later_trees (Some x) (Some y) None p q = absurd q

pub later_trans : (a b c : Views) → Later a b → Later b c → Later a c
later_trans a b c p q = record {
  trees = λ owner. later_trees (a.tree owner) (b.tree owner) (c.tree owner) (p.trees owner) (q.trees owner);
  store = record { begins = Begins-trans p.store.begins q.store.begins; failed = omega (arith, p.store.failed, q.store.failed); fixed = q.store.fixed ∙ p.store.fixed };
  keys = record { begins = Begins-trans p.keys.begins q.keys.begins; failed = omega (arith, p.keys.failed, q.keys.failed); fixed = q.keys.fixed ∙ p.keys.fixed };
}

-- what is missing over the first records is the same later
missing_later : (w x : SeenTree) (q : Question) (n : ℕ) → LaterSeen w x → n ≤ length w.seen → missing_over w q n ≡ missing_over x q n
missing_later w x q n later within = ap (λ log so_far. needs log so_far q.user q.request) (sym (log_later w x n later within))

-- a tree that the caller has seen, and has seen more of
tree_later : (a b : Views) (owner : UserName) (v w : SeenTree) → Later a b → a.tree owner ≡ Some v → b.tree owner ≡ Some w → LaterSeen v w
tree_later a b owner v w later is_v is_w = subst (λ x. LaterTree x (Some w)) is_v (subst (LaterTree (a.tree owner)) is_w (later.trees owner))

-- ---- own records

pub stays_more : (but : Option LogName) (a b : Views) → OwnStays None a b → OwnStays but a b
stays_more but a b h = record { trees = λ owner other. h.trees owner (λ e. cc); store = λ other. h.store (λ e. cc); keys = λ other. h.keys (λ e. cc) }

-- a turn of one tree that adds no own record to it adds none
pub own_quiet : (b c : Views) (owner : UserName) (v w : SeenTree) → b.tree owner ≡ Some v → c.tree owner ≡ Some w → OwnStays (Some (LogName.OfTree owner)) b c → w.own ≡ v.own → OwnStays None b c
own_quiet b c owner v w before after others same = record {
  trees = λ o other. by o (bytes_eq o owner) refl;
  store = λ other. others.store (λ e. cc);
  keys = λ other. others.keys (λ e. cc);
}
  where
    by : (o : UserName) (t : Bool) → bytes_eq o owner ≡ t → own_of (c.tree o) ≡ own_of (b.tree o)
    by o false e = others.trees o (λ h. let k : owner ≡ o = cc in false≢true (sym e ∙ (bytes_eq-Decides o owner).1 (sym k)))
    by o true e =
        let is : o ≡ owner = (bytes_eq-Decides o owner).0 e in
        ap (λ p. own_of (c.tree p)) is ∙ ap own_of after ∙ ap (λ own. Some own) same ∙ sym (ap own_of before) ∙ sym (ap (λ p. own_of (b.tree p)) is)

-- what was own at the start is own
own_at : (a b : Views) (owner : UserName) (u v : SeenTree) → a.tree owner ≡ Some u → b.tree owner ≡ Some v → OwnStays None a b → v.own ≡ u.own
own_at a b owner u v is_u is_v h = let k : Some v.own ≡ Some u.own = sym (ap own_of is_v) ∙ (h.trees owner (λ e. cc) ∙ ap own_of is_u) in cc

recorded_back : {E F : Type 0} (u v w : Seen E F) (n : ℕ) (added : List E) → v.own ≡ u.own → Recorded v w n added → Recorded u w n added
recorded_back u v w n [] same h = h ∙ same
recorded_back u v w n (x ∷ []) same h = (h.0, h.1 ∙ ap (λ own. own ++ (n + 1) ∷ []) same)
recorded_back u v w n (x ∷ y ∷ xs) same h = absurd h

-- ---- what a turn said

-- is said of the call since an earlier moment too
pub said_since : {r s : Type 0} → (r → s) → (u v w : SeenTree) → LaterSeen u v → LaterSeen v w → v.own ≡ u.own → (q : Question) (e : Event) → IsSaid r v w q e → IsSaid s u w q e
said_since up u v w to on same q e h =
    let longer = length-Begins to.begins in
    record {
      enough = h.enough;
      said = elim h.said [
        | inl r ↦ inl (record { from = omega (arith, longer, r.from); to = r.to; added = r.added; reply = r.reply; recorded = recorded_back u v w e.position r.added same r.recorded })
        | inr f ↦ inr (record {
          failed = record { io = f.failed.io; rose = Rose-right u.failed v.failed w.failed to.failed f.failed.rose on.failed; own = f.failed.own ∙ same; needs = f.failed.needs };
          from = omega (arith, longer, f.from);
          at_end = f.at_end;
          rose = up f.rose;
        })
      ];
    }

-- the position of what was said is one that was seen
said_from : {r : Type 0} (v w : SeenTree) (q : Question) (e : Event) → IsSaid r v w q e → length v.seen ≤ e.position
said_from v w q e h = elim h.said [ inl r ↦ r.from | inr f ↦ f.from ]

-- ---- what was wanted

wanted_later : (a b c : Views) (owner : UserName) (q : Question) → Later b c → (so_far : Loading) (name : PathName) → IsWanted a b owner q so_far name → IsWanted a c owner q so_far name
wanted_later a b c owner q later so_far name h =
    let t = is_there (b.tree owner) (c.tree owner) h.w (later.trees owner) h.after in
    let longer = length-Begins t.2.begins in
    record {
      v = h.v;
      w = t.0;
      before = h.before;
      after = t.1;
      position = h.position;
      from = h.from;
      to = omega (arith, h.to, longer);
      stood = subst (λ f. Contains (f so_far) name) (missing_later h.w t.0 q h.position t.2 h.to) h.stood;
    }

-- what a turn told to be missing is wanted, as long as it is not loaded
missing_wanted : (a b c : Views) (owner : UserName) (q : Question) (v w : SeenTree) → Later a b → b.tree owner ≡ Some v → c.tree owner ≡ Some w → (loaded : Loading) (names : List PathName) → Misses v w q loaded names
    → (more : Loading) (name : PathName) → IsMissing names (loaded ++ more) name → IsWanted a c owner q (loaded ++ more) name
missing_wanted a b c owner q v w to is_v is_w loaded names h more name missing =
    let t = was_there (a.tree owner) (b.tree owner) v (to.trees owner) is_v in
    let longer = length-Begins t.2.begins in
    record {
      v = t.0;
      w = w;
      before = t.1;
      after = is_w;
      position = h.position;
      from = omega (arith, h.from, longer);
      to = h.to;
      stood = missing_needed (log_after w h.position) q.user q.request names loaded h.needed more name missing;
    }

EachAfter-for : {X : Type 0} (P Q : List X → X → Type 0) (before xs : List X) → ((so_far : List X) (x : X) → P so_far x → Q so_far x) → EachAfter P before xs → EachAfter Q before xs
EachAfter-for P Q before [] f h = tt
EachAfter-for P Q before (x ∷ xs) f h = (f before x h.0, EachAfter-for P Q (before ++ x ∷ []) xs f h.1)

module _ {L : Type 0} (loader : Ghosts L) (joined : (x y z : L) → loader.tied x y → loader.tied y z → loader.tied x z) (operator : UserName) (owner : UserName) (q : Question) where
  -- what was gathered by then is gathered by now
  gathered_on : (a b c : Views) → Later b c → (x y : L) (loaded : Loading) → Gathered loader operator a b (IsWanted a b owner q) x y [] loaded → Gathered loader operator a c (IsWanted a c owner q) x y [] loaded
  gathered_on a b c on x y loaded one = record {
    more = one.more;
    whole = one.whole;
    needed = EachAfter-for (λ so_far (pair : Pair). IsWanted a b owner q so_far pair.0) (λ so_far (pair : Pair). IsWanted a c owner q so_far pair.0) [] one.more (λ so_far pair. wanted_later a b c owner q on so_far pair.0) one.needed;
    own = own_texts_later operator a b c on one.more one.own;
    asks = one.asks;
  }

  -- one round: what a turn told to be missing was loaded
  pub round_gathered : (a b c d : Views) (v w : SeenTree) → Later a b → Later b c → Later c d → b.tree owner ≡ Some v → c.tree owner ≡ Some w → (x y z : L) (loaded after : Loading) (names : List PathName) → Misses v w q loaded names
      → Gathered loader operator a b (IsWanted a b owner q) x y [] loaded → Gathered loader operator c d (IsMissing names) y z loaded after → Gathered loader operator a d (IsWanted a d owner q) x z [] after
  round_gathered a b c d v w to on past is_v is_w x y z loaded after names missing one two =
      gathered_trans loader operator joined a c d (later_trans a b c to on) past (IsWanted a d owner q) x y z [] loaded after
      (let first = gathered_on a b c on x y loaded one in record {
        more = first.more;
        whole = first.whole;
        needed = EachAfter-for (λ so_far (pair : Pair). IsWanted a c owner q so_far pair.0) (λ so_far (pair : Pair). IsWanted a d owner q so_far pair.0) [] first.more (λ so_far pair. wanted_later a c d owner q past so_far pair.0) first.needed;
        own = first.own;
        asks = first.asks;
      })
      (gathered_for loader operator c d (IsMissing names) (IsWanted a d owner q) y z loaded after
      (λ more name h. wanted_later a c d owner q past (loaded ++ more) name (missing_wanted a b c owner q v w to is_v is_w loaded names missing more name h)) two)

-- one round more
pub round_made : (a b c d : Views) (owner : UserName) (q : Question) (v w : SeenTree) → Later a b → Later b c → Later c d → b.tree owner ≡ Some v → c.tree owner ≡ Some w → (loaded after : Loading) (names : List PathName) → length loaded < bound → Misses v w q loaded names
    → LoadsRound names loaded after → HasRounds a b owner q loaded → HasRounds a d owner q after
round_made a b c d owner q v w to on past is_v is_w loaded after names room missing round h =
    let x = is_there (c.tree owner) (d.tree owner) w (past.trees owner) is_w in
    let here : h.w ≡ v = same_some (b.tree owner) h.w v h.after is_v in
    let grown : LaterSeen h.w w = subst (λ z. LaterSeen z w) (sym here) (tree_later b c owner v w on is_v is_w) in
    let seen : length h.w.seen ≤ length w.seen = length-Begins grown.begins in
    let more : length w.seen ≤ length x.0.seen = length-Begins x.2.begins in
    let from : length h.w.seen ≤ missing.position = subst (λ (z : SeenTree). length z.seen ≤ missing.position) (sym here) missing.from in
    record {
      v = h.v;
      w = x.0;
      before = h.before;
      after = x.1;
      position = missing.position;
      within = omega (arith, missing.to, more);
      rounds = rounds_for (missing_over w q) (missing_over x.0 q) (length h.v.seen) missing.position [] after (λ k low. missing_later w x.0 q k x.2 (omega (arith, low, missing.to)))
          (rounds_next (missing_over w q) (length h.v.seen) h.position missing.position [] loaded after (omega (arith, h.within, from)) (subst (λ ns. ns ≢ []) missing.needed missing.some) room
          (subst (λ ns. LoadsRound ns loaded after) missing.needed round)
          (rounds_for (missing_over h.w q) (missing_over w q) (length h.v.seen) h.position [] loaded (λ k low. missing_later h.w w q k grown (omega (arith, low, h.within))) h.rounds));
    }

-- no round yet
pub rounds_none : (a : Views) (owner : UserName) (q : Question) → is_some (a.tree owner) ≡ true → HasRounds a a owner q []
rounds_none a owner q there = by (a.tree owner) refl there
  where
    by : (found : Option SeenTree) → a.tree owner ≡ found → is_some found ≡ true → HasRounds a a owner q []
    by None is h = absurd (false≢true h)
    by (Some v) is h = record { v = v; w = v; before = is; after = is; position = length v.seen; within = omega arith; rounds = record { rounds = []; made = (omega arith, refl) } }

-- ---- the answer

module _ {L : Type 0} (loader : Ghosts L) (operator : UserName) (owner : UserName) (q : Question) (fetched : Fetched) (now : ℕ) where
  -- what the last turn told, after what was loaded in rounds
  pub answered : {r s : Type 0} → (r → s) → (a b c : Views) → Later a b → Later b c → (x y : L) (loaded : Loading) (said : Reply) (position : ℕ) → TreeTold r b c owner q loaded fetched now (turn.Said said position)
      → OwnStays None a b → Gathered loader operator a b (IsWanted a b owner q) x y [] loaded → HasRounds a b owner q loaded → length loaded ≤ bound → IsDistinct path_eq (keys_of loaded)
      → TreeAnswered loader operator s a c owner q x y fetched now (record { reply = said; position = position; loaded = loaded; fetched = fetched; moment = now })
  answered up a b c to on x y loaded said position told own gathered h few names =
      let e : Event = record { reply = said; position = position; loaded = loaded; fetched = fetched; moment = now } in
      let here : h.w ≡ told.v = same_some (b.tree owner) h.w told.v h.after told.before in
      let grown : LaterSeen told.v told.w = tree_later b c owner told.v told.w on told.before told.after in
      let begun : LaterSeen h.v told.v = tree_later a b owner h.v told.v to h.before told.before in
      let low : length told.v.seen ≤ position = said_from told.v told.w q e told.told.1 in
      let within : h.position ≤ length told.v.seen = subst (λ (z : SeenTree). h.position ≤ length z.seen) here h.within in
      record {
        v = h.v;
        w = told.w;
        before = h.before;
        after = told.after;
        enough = told.told.0;
        said = said_since up h.v told.v told.w begun grown (own_at a b owner h.v told.v h.before told.before own) q e told.told.1;
        loading = record {
          names = names;
          stood = λ i pair at.
              let w = EachAfter-at (λ so_far (p : Pair). IsWanted a b owner q so_far p.0) [] gathered.more i pair gathered.needed (ap (λ xs. slice_get xs i) (sym gathered.whole) ∙ at) in
              let first : w.v ≡ h.v = same_some (a.tree owner) w.v h.v w.before h.before in
              let last : w.w ≡ told.v = same_some (b.tree owner) w.w told.v w.after told.before in
              let from : length h.v.seen ≤ w.position = subst (λ (z : SeenTree). length z.seen ≤ w.position) first w.from in
              let until : w.position ≤ length told.v.seen = subst (λ (z : SeenTree). w.position ≤ length z.seen) last w.to in (
                w.position,
                from,
                omega (arith, until, low),
                subst (λ f. Contains (f (take i loaded)) pair.0) (ap (λ (z : SeenTree). missing_over z q w.position) last ∙ missing_later told.v told.w q w.position grown until)
                    (subst (λ xs. Contains (missing_over w.w q w.position (take i xs)) pair.0) (sym gathered.whole) w.stood),
              );
          ended = told.told.1.enough;
        };
        rounds = record {
          rounds = rounds_until (missing_over told.w q) (length h.v.seen) h.position position [] loaded (omega (arith, within, low))
              (rounds_for (missing_over h.w q) (missing_over told.w q) (length h.v.seen) h.position [] loaded
              (λ k below. ap (λ (z : SeenTree). missing_over z q k) here ∙ missing_later told.v told.w q k grown (omega (arith, below, within))) h.rounds);
          whole = record { enough = told.told.1.enough };
        };
        few = few;
        texts = subst (OwnTexts operator a c) (sym gathered.whole) (own_texts_later operator a b c on gathered.more gathered.own);
        asks = subst (Asks loader.loads loader.faults loader.tied load_failed (group_question operator a) (group_answer a) x y) (sym gathered.whole) gathered.asks;
        fetched_is = refl;
        moment_is = refl;
      }

  -- the answer of a call since a moment is that since an earlier one, since which no own record came
  pub answered_since : {r s : Type 0} → (r → s) → (a b c : Views) → Later a b → OwnStays None a b → (x y : L) (e : Event) → TreeAnswered loader operator r b c owner q x y fetched now e → Later b c
      → TreeAnswered loader operator s a c owner q x y fetched now e
  answered_since up a b c to own x y e h on =
      let u = was_there (a.tree owner) (b.tree owner) h.v (to.trees owner) h.before in
      let grown : LaterSeen h.v h.w = tree_later b c owner h.v h.w on h.before h.after in
      let longer : length u.0.seen ≤ length h.v.seen = length-Begins u.2.begins in
      record {
        v = u.0;
        w = h.w;
        before = u.1;
        after = h.after;
        enough = h.enough;
        said = said_since up u.0 h.v h.w u.2 grown (own_at a b owner u.0 h.v u.1 h.before own) q e h.said;
        loading = record {
          names = h.loading.names;
          stood = λ i pair at. let s = h.loading.stood i pair at in (s.0, omega (arith, longer, s.1), s.2, s.3);
          ended = h.loading.ended;
        };
        rounds = record { rounds = rounds_earlier (missing_over h.w q) (length u.0.seen) (length h.v.seen) e.position [] e.loaded longer h.rounds.rounds; whole = h.rounds.whole };
        few = h.few;
        texts = own_texts_earlier operator a b c to e.loaded h.texts;
        asks = asks_before loader operator a b to x y e.loaded h.asks;
        fetched_is = h.fetched_is;
        moment_is = h.moment_is;
      }
