-- How loading goes on, while others may write to the logs.
use Rattle.std.proofs.Common.{◌≡◌, ◌||◌, ◌≤◌, ℕ, Bool, true, false, List, [], ◌∷◌, ◌++◌, length, take, refl, sym, ap, subst, ◌∙◌, arith, append_assoc, append-nil, Option, Some, None, Result, Ok, Err}
use Rattle.std.specs.Prelude.{OnOk, is_ok, is_some, if◌then◌else◌}
use Rattle.std.specs.List.{flat_map, list_any}
use Rattle.std.specs.Option.{option_or}
use Rattle.std.specs.Result.{result_ok}
use Rattle.std.proofs.lemmas.Bool.{false≢true}
use Rattle.std.proofs.lemmas.List.{take-append-le}
use Rattle.up_answers.specs.Answers.{log_owner}
use Rattle.up_lists.specs.Counts.{HasCause, StaysUnless}
use Rattle.up_lists.proofs.Causes.{StaysUnless-more, StaysUnless-same}
use Rattle.up_calls.proofs.AsksLemmas.{All-append, All-map, Asks-none, Asks-trans, EachAfter-append, HasCause-for, HasCause-same, Tries-none, Tries-one}
use Rattle.up_calls.specs.Asks.{Asks, EachAfter, Tries}
use Rattle.up_calls.specs.Gathered.{AddsName, AsksGroup, Gathered, NameLoaded}
use Rattle.up_calls.specs.Loads.{IsFromOwn, IsOld, IsOwn, OwnTexts, Pair, answered_by_others, asked_of_others, group_answer, group_question, group_text_answer, load_failed, load_of, tree_by}
use Rattle.up_calls.specs.Routes.{LogName, OwnStays}
use Rattle.up_calls.specs.Views.{Later, LaterSeen, LaterTree, SeenTree, Views, log_after}
use Rattle.up_lists.proofs.BeginsLemmas.{length-Begins}
use Rattle.up_lists.specs.Runs.{Run}
use Rattle.up_names.specs.PathNames.{PathName}
use Rattle.up_names.specs.Texts.{UserName}
use Rattle.up_peer.specs.Loading.{GroupQuestion}
use Rattle.up_peer.specs.declared.loader.Loader.{Ghosts}
use Rattle.up_policy.specs.Loadings.{Loading}
use Rattle.up_policy.specs.declared.load_answer.LoadAnswer.{LoadAnswer}
use Rattle.up_policy.specs.declared.load_answer.LoadAnswer.TheVariants as loads
use Rattle.up_log_tree.specs.Logs.{Log}

-- ---- what is seen later

-- the first records of what was seen are those of what is seen later
pub log_later : (w x : SeenTree) (n : ℕ) → LaterSeen w x → n ≤ length w.seen → log_after x n ≡ log_after w n
log_later w x n later within =
    let same : take n x.seen ≡ take n w.seen = ap (take n) (sym later.begins.whole) ∙ take-append-le n w.seen later.begins.rest within in
    ap (λ fixed. record { owner = fixed.0; limits = fixed.1; records = take n x.seen }) later.fixed
    ∙ ap (λ records. let log : Log = record { owner = w.fixed.0; limits = w.fixed.1; records = records } in log) same

-- a tree that is there later was there
pub was_there : (before now : Option SeenTree) (w : SeenTree) → LaterTree before now → now ≡ Some w → (v : SeenTree) × (before ≡ Some v) × LaterSeen v w
was_there None None w later is = absurd cc
was_there None (Some x) w later is = absurd later
was_there (Some v) None w later is = absurd later
was_there (Some v) (Some x) w later is = let same : x ≡ w = cc in (v, refl, subst (LaterSeen v) same later)

-- a tree that was there is there later
pub is_there : (before now : Option SeenTree) (v : SeenTree) → LaterTree before now → before ≡ Some v → (w : SeenTree) × (now ≡ Some w) × LaterSeen v w
is_there None now v later is = absurd cc
is_there (Some u) None v later is = absurd later
is_there (Some u) (Some x) v later is = let same : u ≡ v = cc in (x, refl, subst (λ z. LaterSeen z x) same later)

pub own_text_later : (operator : UserName) (v w x : SeenTree) (pair : Pair) → LaterSeen w x → IsFromOwn operator v w pair → IsFromOwn operator v x pair
own_text_later operator v w x pair later h =
    let longer = length-Begins later.begins in
    record {
      position = h.position;
      from = h.from;
      to = omega (arith, h.to, longer);
      given = h.given ∙ ap (λ log. load_of pair.0.owner (group_text_answer log operator pair.0)) (sym (log_later w x h.position later h.to));
    }

pub own_text_earlier : (operator : UserName) (u v w : SeenTree) (pair : Pair) → LaterSeen u v → IsFromOwn operator v w pair → IsFromOwn operator u w pair
own_text_earlier operator u v w pair later h =
    let longer = length-Begins later.begins in
    record { position = h.position; from = omega (arith, h.from, longer); to = h.to; given = h.given }

-- a host has the same trees later
pub none_before : (before now : Option SeenTree) → LaterTree before now → now ≡ None → before ≡ None
none_before None now later is = refl
none_before (Some v) None later is = absurd later
none_before (Some v) (Some w) later is = absurd (cc)

pub none_later : (before now : Option SeenTree) → LaterTree before now → before ≡ None → now ≡ None
none_later None None later is = refl
none_later None (Some w) later is = absurd later
none_later (Some v) now later is = absurd (cc)

pub as_there : (before now : Option SeenTree) → LaterTree before now → is_some now ≡ is_some before
as_there None None later = refl
as_there None (Some w) later = absurd later
as_there (Some v) None later = absurd later
as_there (Some v) (Some w) later = refl

old_later : (a b : Views) → Later a b → (pair : Pair) → IsOld a pair → IsOld b pair
old_later a b later pair h = λ none there.
    h (none_before (a.tree pair.0.owner) (b.tree pair.0.owner) (later.trees pair.0.owner) none)
    (sym (as_there (a.tree (log_owner pair.0.owner)) (b.tree (log_owner pair.0.owner)) (later.trees (log_owner pair.0.owner))) ∙ there)

old_earlier : (a b : Views) → Later a b → (pair : Pair) → IsOld b pair → IsOld a pair
old_earlier a b later pair h = λ none there.
    h (none_later (a.tree pair.0.owner) (b.tree pair.0.owner) (later.trees pair.0.owner) none)
    (as_there (a.tree (log_owner pair.0.owner)) (b.tree (log_owner pair.0.owner)) (later.trees (log_owner pair.0.owner)) ∙ there)

-- what was given by then is given later
pub own_texts_later : (operator : UserName) (a b c : Views) → Later b c → (more : Loading) → OwnTexts operator a b more → OwnTexts operator a c more
own_texts_later operator a b c later more =
    All-map (λ (pair : Pair). IsOwn operator a b pair × IsOld a pair) (λ (pair : Pair). IsOwn operator a c pair × IsOld a pair)
    (λ pair h. (
      (λ v x is_v is_x. let t = was_there (b.tree pair.0.owner) (c.tree pair.0.owner) x (later.trees pair.0.owner) is_x in
          own_text_later operator v t.0 x pair t.2 (h.0 v t.0 is_v t.1)),
      h.1,
    )) more

pub own_texts_earlier : (operator : UserName) (a b c : Views) → Later a b → (more : Loading) → OwnTexts operator b c more → OwnTexts operator a c more
own_texts_earlier operator a b c later more =
    All-map (λ (pair : Pair). IsOwn operator b c pair × IsOld b pair) (λ (pair : Pair). IsOwn operator a c pair × IsOld a pair)
    (λ pair h. (
      (λ u w is_u is_w. let t = is_there (a.tree pair.0.owner) (b.tree pair.0.owner) u (later.trees pair.0.owner) is_u in
          own_text_earlier operator u t.0 w pair t.2 (h.0 t.0 w t.1 is_w)),
      old_earlier a b later pair h.1,
    )) more

-- ---- who is asked stays the same

flat_map-same : {X Y : Type 0} (f g : X → List Y) → ((x : X) → f x ≡ g x) → (xs : List X) → flat_map f xs ≡ flat_map g xs
flat_map-same f g same [] = refl
flat_map-same f g same (x ∷ xs) = ap (λ ys. ys ++ flat_map f xs) (same x) ∙ ap (λ ys. g x ++ ys) (flat_map-same f g same xs)

-- the tree by which a name is asked, later
by_later : (one two x y : Option SeenTree) → LaterTree one x → LaterTree two y → LaterTree (option_or one two) (option_or x y)
by_later None two None y p q = q
by_later None two (Some w) y p q = absurd p
by_later (Some v) two None y p q = absurd p
by_later (Some v) two (Some w) y p q = p

tree_later_by : (a b : Views) → Later a b → (owner : UserName) → LaterTree (tree_by a owner) (tree_by b owner)
tree_later_by a b later owner = by_later (a.tree owner) (a.tree (log_owner owner)) (b.tree owner) (b.tree (log_owner owner)) (later.trees owner) (later.trees (log_owner owner))

question_same : (operator : UserName) (before now : Option SeenTree) (name : PathName) → LaterTree before now → asked_of_others operator now name ≡ asked_of_others operator before name
question_same operator None None name later = refl
question_same operator None (Some w) name later = absurd later
question_same operator (Some v) None name later = absurd later
question_same operator (Some v) (Some w) name later = refl

answer_same : (before now : Option SeenTree) (answer : LoadAnswer) → LaterTree before now → answered_by_others now answer ≡ answered_by_others before answer
answer_same None None answer later = refl
answer_same None (Some w) answer later = absurd later
answer_same (Some v) None answer later = absurd later
answer_same (Some v) (Some w) answer later = refl

pub asks_before : {L : Type 0} (loader : Ghosts L) (operator : UserName) (a b : Views) → Later a b → (old new : L) (more : Loading)
    → Asks loader.loads loader.faults loader.tied load_failed (group_question operator b) (group_answer b) old new more
    → Asks loader.loads loader.faults loader.tied load_failed (group_question operator a) (group_answer a) old new more
asks_before loader operator a b later old new more h =
    let questions = flat_map-same (group_question operator b) (group_question operator a) (λ pair. question_same operator (tree_by a pair.0.owner) (tree_by b pair.0.owner) pair.0 (tree_later_by a b later pair.0.owner)) more in
    let answers = flat_map-same (group_answer b) (group_answer a) (λ pair. answer_same (tree_by a pair.0.owner) (tree_by b pair.0.owner) pair.1 (tree_later_by a b later pair.0.owner)) more in
    record {
      asked = subst (λ qs. Run loader.loads old qs (flat_map (group_answer a) more) new) questions (subst (λ xs. Run loader.loads old (flat_map (group_question operator b) more) xs new) answers h.asked);
      counts = subst (λ xs. HasCause (loader.faults old) (loader.faults new) (list_any load_failed xs ≡ true)) answers h.counts;
      quiet = subst (λ xs. StaysUnless (loader.faults old) (loader.faults new) (list_any load_failed xs ≡ true)) answers h.quiet;
      tie = h.tie;
    }

-- ---- rounds

module _ {L : Type 0} (loader : Ghosts L) (operator : UserName) where
  pub gathered_none : ((l : L) → loader.tied l l) → (a b : Views) (wanted : Loading → PathName → Type 0) (now : L) (loaded : Loading) → Gathered loader operator a b wanted now now loaded loaded
  gathered_none same a b wanted now loaded = record {
    more = [];
    whole = sym (append-nil loaded);
    needed = tt;
    own = tt;
    asks = Asks-none loader.loads loader.faults loader.tied load_failed (group_question operator a) (group_answer a) same now;
  }

  pub gathered_trans : ((x y z : L) → loader.tied x y → loader.tied y z → loader.tied x z) → (a b c : Views) → Later a b → Later b c → (wanted : Loading → PathName → Type 0) (x y z : L) (first second third : Loading)
      → Gathered loader operator a b wanted x y first second → Gathered loader operator b c wanted y z second third → Gathered loader operator a c wanted x z first third
  gathered_trans joined a b c to on wanted x y z first second third one two = record {
    more = one.more ++ two.more;
    whole = two.whole ∙ ap (λ xs. xs ++ two.more) one.whole ∙ append_assoc first one.more two.more;
    needed = EachAfter-append (λ so_far (pair : Pair). wanted so_far pair.0) first one.more two.more one.needed
        (subst (λ b. EachAfter (λ so_far (pair : Pair). wanted so_far pair.0) b two.more) one.whole two.needed);
    own = All-append (λ (pair : Pair). IsOwn operator a c pair × IsOld a pair) one.more two.more
        (own_texts_later operator a b c on one.more one.own) (own_texts_earlier operator a b c to two.more two.own);
    asks = Asks-trans loader.loads loader.faults loader.tied load_failed (group_question operator a) (group_answer a) joined x y z one.more two.more one.asks (asks_before loader operator a b to y z two.more two.asks);
  }

  -- what was wanted for one reason was wanted for another
  pub gathered_for : (a b : Views) (wanted other : Loading → PathName → Type 0) (x y : L) (before after : Loading)
      → ((more : Loading) (name : PathName) → wanted (before ++ more) name → other (before ++ more) name) → Gathered loader operator a b wanted x y before after → Gathered loader operator a b other x y before after
  gathered_for a b wanted other x y before after f one = record {
    more = one.more;
    whole = one.whole;
    needed = subst (λ b. EachAfter (λ so_far (pair : Pair). other so_far pair.0) b one.more) (append-nil before)
        (go [] one.more (subst (λ b. EachAfter (λ so_far (pair : Pair). wanted so_far pair.0) b one.more) (sym (append-nil before)) one.needed));
    own = one.own;
    asks = one.asks;
  }
    where
      go : (so_far more : Loading) → EachAfter (λ so_far (pair : Pair). wanted so_far pair.0) (before ++ so_far) more → EachAfter (λ so_far (pair : Pair). other so_far pair.0) (before ++ so_far) more
      go so_far [] h = tt
      go so_far (pair ∷ more) h = (
        f so_far pair.0 h.0,
        subst (λ b. EachAfter (λ so_far (pair : Pair). other so_far pair.0) b more) (sym (append_assoc before so_far (pair ∷ [])))
            (go (so_far ++ pair ∷ []) more (subst (λ b. EachAfter (λ so_far (pair : Pair). wanted so_far pair.0) b more) (append_assoc before so_far (pair ∷ [])) h.1)),
      )

-- ---- one name

or_false : (b : Bool) → (b || false) ≡ true → b ≡ true
or_false true h = refl
or_false false h = absurd (cc)

pub same_some : {X : Type 0} (x : Option X) (v w : X) → x ≡ Some v → x ≡ Some w → v ≡ w
same_some x v w p q = let k : Some v ≡ Some w = sym p ∙ q in cc

pub not_some : {X : Type 0} (found : Option X) → is_some found ≡ false → found ≡ None
not_some None h = refl
not_some (Some x) h = absurd (false≢true (sym h))

some_of : {X : Type 0} (x : Option X) → is_some x ≡ true → (y : X) × (x ≡ Some y)
some_of None h = absurd (false≢true h)
some_of (Some y) h = (y, refl)

module _ {L : Type 0} (loader : Ghosts L) (same : (l : L) → loader.tied l l) (operator : UserName) (a b : Views) where
  -- what is asked and answered of a name, by whether the host has the tree
  abbrev asked_for : (old new : L) (name : PathName) (answer : LoadAnswer) → Option SeenTree → Type 0
  asked_for old new name answer found = Run loader.loads old (asked_of_others operator found name ++ []) (answered_by_others found answer ++ []) new

  abbrev counted_for : (old new : L) (answer : LoadAnswer) → Option SeenTree → Type 0
  counted_for old new answer found = HasCause (loader.faults old) (loader.faults new) (list_any load_failed (answered_by_others found answer ++ []) ≡ true)

  abbrev quiet_for : (old new : L) (answer : LoadAnswer) → Option SeenTree → Type 0
  quiet_for old new answer found = StaysUnless (loader.faults old) (loader.faults new) (list_any load_failed (answered_by_others found answer ++ []) ≡ true)

  -- nobody else was asked for a name whose owner's tree, or that of its base user, is the host's
  asks_none : (old new : L) (name : PathName) (answer : LoadAnswer) (found : SeenTree) → tree_by a name.owner ≡ Some found → new ≡ old
      → Asks loader.loads loader.faults loader.tied load_failed (group_question operator a) (group_answer a) old new ((name, answer) ∷ [])
  asks_none old new name answer found is still = record {
    asked = subst (asked_for old new name answer) (sym is) still;
    counts = subst (counted_for old new answer) (sym is) (subst (λ l. HasCause (loader.faults old) (loader.faults l) (false ≡ true)) (sym still) (HasCause-same (loader.faults old) (false ≡ true) false≢true));
    quiet = subst (quiet_for old new answer) (sym is) (subst (λ l. StaysUnless (loader.faults old) (loader.faults l) (false ≡ true)) (sym still) (StaysUnless-same (loader.faults old) (false ≡ true)));
    tie = subst (λ l. loader.tied old l) (sym still) (same old);
  }

  -- one name more
  pub gathered_one : (wanted : Loading → PathName → Type 0) (old new : L) (before : Loading) (name : PathName) (answer : LoadAnswer) → wanted before name
      → NameLoaded loader operator a b old new name (Some answer) → Gathered loader operator a b wanted old new before (before ++ (name, answer) ∷ [])
  gathered_one wanted old new before name answer want (NameLoaded.ByTree other is own still) = record {
    more = (name, answer) ∷ [];
    whole = refl;
    needed = (want, tt);
    own = (
      (
        (λ x y is_x is_y.
            let r = same_some (a.tree name.owner) own.0 x own.2 is_x in
            let s = same_some (b.tree name.owner) own.1 y own.3 is_y in
            let k : Some answer ≡ Some other = is in
            let t : other ≡ answer = cc in
            subst (λ z. IsFromOwn operator z y (name, answer)) r (subst (λ z. IsFromOwn operator own.0 z (name, answer)) s (subst (λ z. IsFromOwn operator own.0 own.1 (name, z)) t own.4))),
        (λ none there. let k : Some own.0 ≡ None = sym own.2 ∙ none in absurd (cc)),
      ),
      tt,
    );
    asks = asks_none old new name answer own.0 (ap (λ found. option_or found (a.tree (log_owner name.owner))) own.2) still;
  }
  gathered_one wanted old new before name answer want (NameLoaded.ByUser is none there still) =
      let k : Some answer ≡ Some loads.Missing = is in
      let t : answer ≡ loads.Missing = cc in
      let found = some_of (a.tree (log_owner name.owner)) there in
      record {
        more = (name, answer) ∷ [];
        whole = refl;
        needed = (want, tt);
        own = (((λ x y is_x is_y. let m : None ≡ Some x = sym none ∙ is_x in absurd (cc)), (λ lacks has. t)), tt);
        asks = asks_none old new name answer found.0 (ap (λ one. option_or one (a.tree (log_owner name.owner))) none ∙ found.1) still;
      }
  gathered_one wanted old new before name answer want (NameLoaded.ByLoader none lacks h) =
      let nowhere : tree_by a name.owner ≡ None = ap (λ one. option_or one (a.tree (log_owner name.owner))) none ∙ lacks in
      record {
        more = (name, answer) ∷ [];
        whole = refl;
        needed = (want, tt);
        own = (
          (
            (λ x y is_x is_y. let k : None ≡ Some x = sym none ∙ is_x in absurd (cc)),
            (λ one there. absurd (false≢true (sym (ap is_some lacks) ∙ there))),
          ),
          tt,
        );
        asks = record {
          asked = subst (asked_for old new name answer) (sym nowhere) (new, (h.given_is, refl));
          counts = subst (counted_for old new answer) (sym nowhere) (HasCause-for (loader.faults old) (loader.faults new) (load_failed (Some answer) ≡ true) _ (or_false (load_failed (Some answer))) h.counts);
          quiet = subst (quiet_for old new answer) (sym nowhere) (StaysUnless-more (loader.faults old) (loader.faults new) (load_failed (Some answer) ≡ true) _ h.quiet (ap (λ b. b || false)));
          tie = h.tie;
        };
      }
  gathered_one wanted old new before name answer want (NameLoaded.Wanting is still) = let k : Some answer ≡ None = is in absurd (cc)

  tries_still : (old new : L) → new ≡ old → Tries loader.loads loader.faults loader.tied old new
  tries_still old new still = subst (λ l. Tries loader.loads loader.faults loader.tied old l) (sym still) (Tries-none loader.loads loader.faults loader.tied same old)

  pub tries_loaded : (old new : L) (name : PathName) (given : Option LoadAnswer) → NameLoaded loader operator a b old new name given → Tries loader.loads loader.faults loader.tied old new
  tries_loaded old new name given (NameLoaded.ByTree answer is own still) = tries_still old new still
  tries_loaded old new name given (NameLoaded.ByUser is none there still) = tries_still old new still
  tries_loaded old new name given (NameLoaded.ByLoader none lacks h) =
      Tries-one loader.loads loader.faults loader.tied old new (record { asker = operator; name = name }) given (load_failed given ≡ true) h.given_is h.counts h.tie
  tries_loaded old new name given (NameLoaded.Wanting is still) = tries_still old new still

-- what a longer call loaded: the trees that the host lacks at its end it lacked at its start
pub loaded_since : {L : Type 0} (loader : Ghosts L) (operator : UserName) (a b : Views) → Later a b → (old new : L) (name : PathName) (given : Option LoadAnswer) → a.tree name.owner ≡ None → NameLoaded loader operator b b old new name given
    → NameLoaded loader operator a b old new name given
loaded_since loader operator a b later old new name given none (NameLoaded.ByTree answer is own still) =
    let k : Some own.0 ≡ None = sym own.2 ∙ none_later (a.tree name.owner) (b.tree name.owner) (later.trees name.owner) none in absurd (cc)
loaded_since loader operator a b later old new name given none (NameLoaded.ByUser is lacks there still) =
    NameLoaded.ByUser is none (sym (as_there (a.tree (log_owner name.owner)) (b.tree (log_owner name.owner)) (later.trees (log_owner name.owner))) ∙ there) still
loaded_since loader operator a b later old new name given none (NameLoaded.ByLoader here lacks h) =
    NameLoaded.ByLoader none (none_before (a.tree (log_owner name.owner)) (b.tree (log_owner name.owner)) (later.trees (log_owner name.owner)) lacks) h
loaded_since loader operator a b later old new name given none (NameLoaded.Wanting is still) = NameLoaded.Wanting is still

-- ---- what the loader gave

-- a load that failed is one, and its count rose nowhere else
pub load_asked : {L E : Type 0} (loader : Ghosts L) (old new : L) (question : GroupQuestion) (result : Result LoadAnswer E) → loader.loads old question (result_ok result) new
    → HasCause (loader.faults old) (loader.faults new) (result ≡ Ok loads.Failed) → StaysUnless (loader.faults old) (loader.faults new) (result ≡ Ok loads.Failed) → loader.tied old new
    → AsksGroup loader old new question (result_ok result)
load_asked {E = E} loader old new question result given cause quiet tie = record {
  given_is = given;
  counts = HasCause-for (loader.faults old) (loader.faults new) (result ≡ Ok loads.Failed) (load_failed (result_ok result) ≡ true) (failed result) cause;
  quiet = StaysUnless-more (loader.faults old) (loader.faults new) (result ≡ Ok loads.Failed) (load_failed (result_ok result) ≡ true) quiet (ap (λ r. load_failed (result_ok r)));
  tie = tie;
}
  where
    of_answer : (answer : LoadAnswer) → load_failed (Some answer) ≡ true → answer ≡ loads.Failed
    of_answer loads.Failed e = refl
    of_answer (loads.Text items) e = absurd (false≢true e)
    of_answer loads.Missing e = absurd (false≢true e)
    of_answer (loads.BadText line) e = absurd (false≢true e)

    failed : (result : Result LoadAnswer E) → load_failed (result_ok result) ≡ true → result ≡ Ok loads.Failed
    failed (Ok answer) e = ap Ok (of_answer answer e)
    failed (Err x) e = absurd (false≢true e)

-- ---- own records

pub stays_same : (but : Option LogName) (a : Views) → OwnStays but a a
stays_same but a = record { trees = λ owner other. refl; store = λ other. refl; keys = λ other. refl }

pub stays_trans : (but : Option LogName) (a b c : Views) → OwnStays but a b → OwnStays but b c → OwnStays but a c
stays_trans but a b c one two = record {
  trees = λ owner other. two.trees owner other ∙ one.trees owner other;
  store = λ other. two.store other ∙ one.store other;
  keys = λ other. two.keys other ∙ one.keys other;
}

-- the name was added, or want of memory left all as it was
pub adds_if : {L X E : Type 0} (loader : Ghosts L) (operator : UserName) (a b : Views) (old new : L) (name : PathName) (answer : LoadAnswer) (before after : Loading) (result : Result X E)
    → after ≡ (if is_ok result then before ++ (name, answer) ∷ [] else before) → NameLoaded loader operator a b old new name (Some answer) → OnOk result (AddsName loader operator a b old new name before after)
adds_if loader operator a b old new name answer before after (Ok x) grown h = record { answer = answer; whole = grown; loaded = h }
adds_if loader operator a b old new name answer before after (Err e) grown h = tt

pub gathered_adds : {L : Type 0} (loader : Ghosts L) → ((l : L) → loader.tied l l) → (operator : UserName) (a b : Views) (wanted : Loading → PathName → Type 0) (old new : L) (name : PathName) (before after : Loading) → wanted before name
    → AddsName loader operator a b old new name before after → Gathered loader operator a b wanted old new before after
gathered_adds loader same operator a b wanted old new name before after want h =
    subst (Gathered loader operator a b wanted old new before) (sym h.whole) (gathered_one loader same operator a b wanted old new before name h.answer want h.loaded)

pub adds_of : {L : Type 0} (loader : Ghosts L) (operator other : UserName) (a b : Views) (old new : L) (name : PathName) (before after : Loading) → other ≡ operator
    → AddsName loader other a b old new name before after → AddsName loader operator a b old new name before after
adds_of loader operator other a b old new name before after is h = subst (λ o. AddsName loader o a b old new name before after) is h
