-- What is kept of the groups of other owners: what is known stays known.
use Rattle.std.proofs.Common.{◌≡◌, ◌≢◌, ℕ, zero, suc, ◌+◌, ◌<◌, ◌≤◌, ◌==◌, Bool, true, false, not, cond, ◌&&◌, ◌||◌, List, [], ◌∷◌, ◌++◌, length, filter, refl, sym, ap, subst, ◌∙◌, arith, Option, Some, None, Result, Ok, Err, is_some}
use Rattle.std.proofs.Math.ListN.{set}
use Rattle.std.specs.Prelude.{MatchOption, OnOk, nat_lt, slice_get}
use Rattle.std.specs.List.{list_any}
use Rattle.std.specs.Cmp.{Equal-is, nat_cmp_total, tied_itself}
use Rattle.std.specs.FinMap.Entries.{find, find-put, find-where_key, put, where_key}
use Rattle.std.specs.Map.{keys_of}
use Rattle.std.specs.Option.{option_and_then}
use Rattle.std.specs.Ordering.{eq_by_cmp, is_eq, nat_cmp}
use Rattle.std.specs.declared.cmp.Ordering.TheVariants.{Equal}
use Rattle.std.proofs.lemmas.Bool.{and_from, eqb-false, eqb-true, false≢true, lt-ltb, ne_eqb, or_right}
use Rattle.std.proofs.lemmas.List.Folds.{list_any-append}
use Rattle.up_names.specs.PathNames.{PathName}
use Rattle.up_names.specs.PathOrder.{path_cmp}
use Rattle.up_names.specs.PathOrderLaws.{path_cmp_total, path_exact}
use Rattle.up_log_tree.specs.Orders.{has_path as has}
use Rattle.up_log_tree.proofs.Paths.{some_none, some_same}
use Rattle.up_log_tree.proofs.Rising.{has-filter}
use Rattle.up_log_tree.proofs.Trees.{has_key}
use Rattle.up_mem_tree.specs.declared.gone.Naming.{Naming}
use Rattle.up_mem_tree.specs.declared.others.Named.{Named}
use Rattle.up_mem_tree.specs.declared.others.Others.{Others}
use Rattle.up_mem_tree.specs.Others.{Grows, Releases, kept_of, named_at, named_by, named_then, names_now, was_then}
use Rattle.up_mem_tree.proofs.SlotLemmas.{get-set, get_set}
use Rattle.up_mem_tree.proofs.SnapTimes.{tied}

-- ---- a group

or_first : (a b : Bool) → a ≡ true → (a || b) ≡ true
or_first true b h = refl
or_first false b h = absurd (false≢true h)

-- one of three
one_of : (a b c x y z : Bool) → (a ≡ true → (x || y || z) ≡ true) → (b ≡ true → (x || y || z) ≡ true) → (c ≡ true → (x || y || z) ≡ true) → (a || b || c) ≡ true → (x || y || z) ≡ true
one_of true b c x y z first second third h = first refl
one_of false true c x y z first second third h = second refl
one_of false false c x y z first second third h = third h

first_of : (x y z : Bool) → x ≡ true → (x || y || z) ≡ true
first_of true y z h = refl
first_of false y z h = absurd (false≢true h)

second_of : (x y z : Bool) → y ≡ true → (x || y || z) ≡ true
second_of true y z h = refl
second_of false true z h = refl
second_of false false z h = absurd (false≢true h)

third_of : (x y z : Bool) → z ≡ true → (x || y || z) ≡ true
third_of true y z h = refl
third_of false true z h = refl
third_of false false z h = h

-- a text that is in force still was in force
pub then_by : (n position : ℕ) (o : Option Named) → names_now position o ≡ true → named_then n position o ≡ true
then_by n position None h = absurd (false≢true h)
then_by n position (Some named) h = first_of (names_now position (Some named)) (nat_lt n named.until) (list_any (was_then n position) named.gone) h

-- one more record
module _ (position : ℕ) (old new : List (ℕ × (Unit {0}))) (x : Unit {0}) (by : new ≡ put nat_cmp position x old) where
  put_is : (p : ℕ) → find nat_cmp p new ≡ cond (eq_by_cmp nat_cmp p position) (Some x) (find nat_cmp p old)
  put_is p = ap (find nat_cmp p) by ∙ find-put nat_cmp nat_cmp_total p position x old

  pub record_put : is_some (find nat_cmp position new) ≡ true
  record_put = ap is_some (put_is position) ∙ ap (λ o. is_some (cond (is_eq o) (Some x) (find nat_cmp position old))) (tied_itself nat_cmp_total position)

  pub record_stays : (p : ℕ) → is_some (find nat_cmp p old) ≡ true → is_some (find nat_cmp p new) ≡ true
  record_stays p h = ap is_some (put_is p) ∙ go (eq_by_cmp nat_cmp p position)
    where
      go : (b : Bool) → is_some (cond b (Some x) (find nat_cmp p old)) ≡ true
      go true = refl
      go false = h

  pub then_stays : (texts now : List Naming) → now ≡ texts → (until n p : ℕ) → (is_some (find nat_cmp p old) || nat_lt n until || list_any (was_then n p) texts) ≡ true →
      (is_some (find nat_cmp p new) || nat_lt n until || list_any (was_then n p) now) ≡ true
  then_stays texts now same until n p h =
      let x = is_some (find nat_cmp p new) in
      let y = nat_lt n until in
      let z = list_any (was_then n p) now in
      one_of (is_some (find nat_cmp p old)) y (list_any (was_then n p) texts) x y z (λ there. first_of x y z (record_stays p there)) (second_of x y z) (λ one. third_of x y z (ap (list_any (was_then n p)) same ∙ one)) h

-- a record less
module _ (gone : ℕ) (old new : List (ℕ × (Unit {0}))) (by : new ≡ where_key nat_cmp (λ other. not (eq_by_cmp nat_cmp gone other)) old) where
  pub record_left : (p : ℕ) → p ≢ gone → is_some (find nat_cmp p old) ≡ true → is_some (find nat_cmp p new) ≡ true
  record_left p other h =
      ap (λ es. is_some (find nat_cmp p es)) by
      ∙ (ap is_some (find-where_key nat_cmp (λ other. not (eq_by_cmp nat_cmp gone other)) p (λ x t. ap (λ q. not (eq_by_cmp nat_cmp gone q)) (sym (exact p x t))) old
      ∙ ap (λ b. cond (not b) (find nat_cmp p old) None) (tied gone p ∙ ne_eqb p gone other)) ∙ h)
    where
      exact : (a b : ℕ) → nat_cmp a b ≡ Equal → a ≡ b
      exact a b t = sym (eqb-true b a (sym (tied a b) ∙ ap is_eq t))

  -- that it was there is remembered
  module _ (position : ℕ) (texts texts_now : List Naming) (until until_now : ℕ) where
    pub then_left : ((n : ℕ) → n < position → is_some (find nat_cmp gone old) ≡ true → (nat_lt n until_now || list_any (was_then n gone) texts_now) ≡ true) → ((n : ℕ) → n < position → nat_lt n until ≡ true → nat_lt n until_now ≡ true) →
        ((n p : ℕ) → list_any (was_then n p) texts ≡ true → list_any (was_then n p) texts_now ≡ true) → (n p : ℕ) → n < position → (is_some (find nat_cmp p old) || nat_lt n until || list_any (was_then n p) texts) ≡ true →
        (is_some (find nat_cmp p new) || nat_lt n until_now || list_any (was_then n p) texts_now) ≡ true
    then_left remembered later more n p less h =
        one_of (is_some (find nat_cmp p old)) (nat_lt n until) (list_any (was_then n p) texts) x y z (λ there. by_place (p == gone) refl there) (λ early. second_of x y z (later n less early)) (λ one. third_of x y z (more n p one)) h
      where
        x : Bool
        x = is_some (find nat_cmp p new)

        y : Bool
        y = nat_lt n until_now

        z : Bool
        z = list_any (was_then n p) texts_now

        rest : (a b c : Bool) → (b || c) ≡ true → (a || b || c) ≡ true
        rest true b c h = refl
        rest false b c h = h

        by_place : (b : Bool) → (p == gone) ≡ b → is_some (find nat_cmp p old) ≡ true → (x || y || z) ≡ true
        by_place true same there =
            let e : gone ≡ p = sym (eqb-true p gone same) in
            rest x y z (subst (λ q. (nat_lt n until_now || list_any (was_then n q) texts_now) ≡ true) e (remembered n less (subst (λ q. is_some (find nat_cmp q old) ≡ true) (sym e) there)))
        by_place false other there = first_of x y z (record_left p (eqb-false p gone other) there)

-- a text more that was replaced
pub text_pushed : (texts now : List Naming) (gone position : ℕ) → now ≡ texts ++ record { by = gone; until = position } ∷ [] → (n : ℕ) → n < position → list_any (was_then n gone) now ≡ true
text_pushed texts now gone position is n less =
    ap (list_any (was_then n gone)) is
    ∙ (list_any-append (was_then n gone) texts (record { by = gone; until = position } ∷ [])
    ∙ or_right (list_any (was_then n gone) texts) (((gone == gone) && nat_lt n position) || false) (or_first ((gone == gone) && nat_lt n position) false (and_from (gone == gone) (nat_lt n position) (eqb-itself gone) (lt-ltb n position less))))
  where
    eqb-itself : (n : ℕ) → (n == n) ≡ true
    eqb-itself n = go (n == n) refl
      where
        go : (b : Bool) → (n == n) ≡ b → (n == n) ≡ true
        go true is = is
        go false other = absurd (eqb-false n n other refl)

pub texts_more : (texts now : List Naming) (text : Naming) → now ≡ texts ++ text ∷ [] → (n p : ℕ) → list_any (was_then n p) texts ≡ true → list_any (was_then n p) now ≡ true
texts_more texts now text is n p h = ap (list_any (was_then n p)) is ∙ (list_any-append (was_then n p) texts (text ∷ []) ∙ or_first (list_any (was_then n p) texts) (list_any (was_then n p) (text ∷ [])) h)

-- ---- the groups of which something is known

-- they are those of which it is known
module _ (test : Option Named → Bool) (none_is : test None ≡ false) (others : Others) where
  has_tested : (group : PathName) → has (filter (λ group. test (kept_of others group)) (keys_of others.numbers.entries)) group ≡ test (kept_of others group)
  has_tested group =
      has-filter (λ group. test (kept_of others group)) (keys_of others.numbers.entries) group
      ∙ (ap (λ b. test (kept_of others group) && b) (has_key others.numbers.entries group) ∙ go (find path_cmp group others.numbers.entries))
    where
      and_true : (b : Bool) → (b && true) ≡ b
      and_true true = refl
      and_true false = refl

      and_false : (b : Bool) → (b && false) ≡ false
      and_false true = refl
      and_false false = refl

      go : (found : Option ℕ) → (test (option_and_then (slice_get others.named.items) found) && is_some found) ≡ test (option_and_then (slice_get others.named.items) found)
      go None = and_false (test None) ∙ sym none_is
      go (Some id) = and_true (test (slice_get others.named.items id))

pub has_by : (others : Others) (position : ℕ) (group : PathName) → has (named_by others position) group ≡ names_now position (kept_of others group)
has_by others position group = has_tested (names_now position) refl others group

pub has_at : (others : Others) (n position : ℕ) (group : PathName) → has (named_at others n position) group ≡ named_then n position (kept_of others group)
has_at others n position group = has_tested (named_then n position) refl others group

-- what a record names now it has named, whenever that was
pub by_at : (others : Others) (position n : ℕ) (group : PathName) → has (named_by others position) group ≡ true → has (named_at others n position) group ≡ true
by_at others position n group h = has_at others n position group ∙ then_by n position (kept_of others group) (sym (has_by others position group) ∙ h)

-- it has a number
pub numbered : (others : Others) (n position : ℕ) (group : PathName) → has (named_at others n position) group ≡ true → has (keys_of others.numbers.entries) group ≡ true
numbered others n position group h = second (named_then n position (kept_of others group)) (has (keys_of others.numbers.entries) group)
    (sym (has-filter (λ group. named_then n position (kept_of others group)) (keys_of others.numbers.entries) group) ∙ h)
  where
    second : (a b : Bool) → (a && b) ≡ true → b ≡ true
    second true b h = h
    second false b h = absurd (false≢true h)

-- ---- what is known stays known

pub grows_from : (old new : Others) → ((position : ℕ) (group : PathName) → names_now position (kept_of old group) ≡ true → names_now position (kept_of new group) ≡ true) →
    ((n position : ℕ) (group : PathName) → named_then n position (kept_of old group) ≡ true → named_then n position (kept_of new group) ≡ true) → Grows old new
grows_from old new by at = record {
  by = λ position. record { each = λ group there. has_by new position group ∙ by position group (sym (has_by old position group) ∙ there) };
  at = λ n position. record { each = λ group there. has_at new n position group ∙ at n position group (sym (has_at old n position group) ∙ there) };
}

pub releases_from : (replaced : Option ℕ) (until : ℕ) (old new : Others) → ((position : ℕ) (group : PathName) → replaced ≢ Some position → names_now position (kept_of old group) ≡ true → names_now position (kept_of new group) ≡ true) →
    ((n position : ℕ) (group : PathName) → n < until → named_then n position (kept_of old group) ≡ true → named_then n position (kept_of new group) ≡ true) → Releases replaced until old new
releases_from replaced until old new by at = record {
  by = λ position other. record { each = λ group there. has_by new position group ∙ by position group other (sym (has_by old position group) ∙ there) };
  at = λ n position before. record { each = λ group there. has_at new n position group ∙ at n position group before (sym (has_at old n position group) ∙ there) };
}

pub grows_all : (others : Others) → Grows others others
grows_all others = grows_from others others (λ position group h. h) (λ n position group h. h)

pub grows_then : (one two three : Others) → Grows one two → Grows two three → Grows one three
grows_then one two three first last = record {
  by = λ position. record { each = λ group there. (last.by position).each group ((first.by position).each group there) };
  at = λ n position. record { each = λ group there. (last.at n position).each group ((first.at n position).each group there) };
}

pub releases_all : (replaced : Option ℕ) (until : ℕ) (others : Others) → Releases replaced until others others
releases_all replaced until others = releases_from replaced until others others (λ position group other h. h) (λ n position group before h. h)

pub releases_then : (replaced : Option ℕ) (until : ℕ) (one two three : Others) → Releases replaced until one two → Releases replaced until two three → Releases replaced until one three
releases_then replaced until one two three first last = record {
  by = λ position other. record { each = λ group there. (last.by position other).each group ((first.by position other).each group there) };
  at = λ n position before. record { each = λ group there. (last.at n position before).each group ((first.at n position before).each group there) };
}

-- ---- one of a list is another now

module _ (test : Option Named → Bool) (named : List Named) (id : ℕ) (old new : Named) (there : slice_get named id ≡ Some old) (stays : test (Some old) ≡ true → test (Some new) ≡ true) where
  set_stays : (j : ℕ) → test (slice_get named j) ≡ true → test (slice_get (set named id new) j) ≡ true
  set_stays j h = go (id == j) refl
    where
      go : (b : Bool) → (id == j) ≡ b → test (slice_get (set named id new) j) ≡ true
      go true same =
          let e : id ≡ j = eqb-true id j same in
          subst (λ k. test (slice_get (set named id new) k) ≡ true) e
          (ap test (get_set named id old new there) ∙ stays (sym (ap test there) ∙ subst (λ k. test (slice_get named k) ≡ true) (sym e) h))
      go false other = ap test (get-set named id j new (λ same. eqb-false id j other same)) ∙ h

  found_stays : test None ≡ false → (found : Option ℕ) → test (option_and_then (slice_get named) found) ≡ true → test (option_and_then (slice_get (set named id new)) found) ≡ true
  found_stays none_is None h = absurd (false≢true (sym none_is ∙ h))
  found_stays none_is (Some j) h = set_stays j h

pub noted_at : (old new : Others) (id : ℕ) (was is : Named) → new.numbers ≡ old.numbers → new.named.items ≡ set old.named.items id is → slice_get old.named.items id ≡ Some was →
    ((p : ℕ) → names_now p (Some was) ≡ true → names_now p (Some is) ≡ true) → ((n p : ℕ) → named_then n p (Some was) ≡ true → named_then n p (Some is) ≡ true) → Grows old new
noted_at old new id was is numbers named there by at = grows_from old new
    (λ p group h. moved (names_now p) group (found_stays (names_now p) old.named.items id was is there (by p) refl (find path_cmp group old.numbers.entries) h))
    (λ n p group h. moved (named_then n p) group (found_stays (named_then n p) old.named.items id was is there (at n p) refl (find path_cmp group old.numbers.entries) h))
  where
    moved : (test : Option Named → Bool) (group : PathName) → test (option_and_then (slice_get (set old.named.items id is)) (find path_cmp group old.numbers.entries)) ≡ true → test (kept_of new group) ≡ true
    moved test group h =
        ap (λ items. test (option_and_then (slice_get items) (find path_cmp group new.numbers.entries))) named
        ∙ (ap (λ numbers. test (option_and_then (slice_get (set old.named.items id is)) (find path_cmp group numbers.entries))) numbers ∙ h)

pub released_at : (replaced until : ℕ) (old new : Others) (id : ℕ) (was is : Named) → new.numbers ≡ old.numbers → new.named.items ≡ set old.named.items id is → slice_get old.named.items id ≡ Some was →
    ((p : ℕ) → p ≢ replaced → names_now p (Some was) ≡ true → names_now p (Some is) ≡ true) → ((n p : ℕ) → n < until → named_then n p (Some was) ≡ true → named_then n p (Some is) ≡ true) → Releases (Some replaced) until old new
released_at replaced until old new id was is numbers named there by at = releases_from (Some replaced) until old new
    (λ p group other h. moved (names_now p) group (found_stays (names_now p) old.named.items id was is there (by p (λ same. other (ap Some (sym same)))) refl (find path_cmp group old.numbers.entries) h))
    (λ n p group before h. moved (named_then n p) group (found_stays (named_then n p) old.named.items id was is there (at n p before) refl (find path_cmp group old.numbers.entries) h))
  where
    moved : (test : Option Named → Bool) (group : PathName) → test (option_and_then (slice_get (set old.named.items id is)) (find path_cmp group old.numbers.entries)) ≡ true → test (kept_of new group) ≡ true
    moved test group h =
        ap (λ items. test (option_and_then (slice_get items) (find path_cmp group new.numbers.entries))) named
        ∙ (ap (λ numbers. test (option_and_then (slice_get (set old.named.items id is)) (find path_cmp group numbers.entries))) numbers ∙ h)

-- ---- one more group

module _ {X : Type 0} where
  push_stays : (test : Option X → Bool) (xs : List X) (x : X) (j : ℕ) → test None ≡ false → test (slice_get xs j) ≡ true → test (slice_get (xs ++ x ∷ []) j) ≡ true
  push_stays test [] x j none_is h = absurd (false≢true (sym none_is ∙ h))
  push_stays test (y ∷ xs) x zero none_is h = h
  push_stays test (y ∷ xs) x (suc j) none_is h = push_stays test xs x j none_is h

  past : (xs : List X) (j : ℕ) → length xs ≤ j → slice_get xs j ≡ None
  past [] j le = refl
  past (x ∷ xs) zero le = absurd (omega (arith, le))
  past (x ∷ xs) (suc j) le = past xs j (omega (arith, le))

pub added_one : (old new : Others) (group : PathName) (id : ℕ) (fresh : Named) (items : List Named) → new.numbers.entries ≡ put path_cmp group id old.numbers.entries → new.named.items ≡ items ++ fresh ∷ [] → items ≡ old.named.items →
    ((j : ℕ) → find path_cmp group old.numbers.entries ≡ Some j → length old.named.items ≤ j) → Grows old new
added_one old new group id fresh items numbers behind same_items unknown = grows_from old new (λ p other h. stays (names_now p) refl other h) (λ n p other h. stays (named_then n p) refl other h)
  where
    named : new.named.items ≡ old.named.items ++ fresh ∷ []
    named = behind ∙ ap (λ xs. xs ++ fresh ∷ []) same_items

    stays : (test : Option Named → Bool) → test None ≡ false → (other : PathName) → test (kept_of old other) ≡ true → test (kept_of new other) ≡ true
    stays test none_is other h =
        ap (λ items. test (option_and_then (slice_get items) (find path_cmp other new.numbers.entries))) named
        ∙ (ap (λ es. test (option_and_then (slice_get (old.named.items ++ fresh ∷ [])) (find path_cmp other es))) numbers
        ∙ (ap (λ o. test (option_and_then (slice_get (old.named.items ++ fresh ∷ [])) o)) (find-put path_cmp path_cmp_total other group id old.numbers.entries) ∙ by (eq_by_cmp path_cmp other group) refl))
      where
        none_here : (same : other ≡ group) (found : Option ℕ) → find path_cmp other old.numbers.entries ≡ found → test (option_and_then (slice_get old.named.items) found) ≡ true → ⊥
        none_here same None at told = false≢true (sym none_is ∙ told)
        none_here same (Some j) at told = false≢true (sym (ap test (past old.named.items j (unknown j (ap (λ q. find path_cmp q old.numbers.entries) (sym same) ∙ at))) ∙ none_is) ∙ told)

        pushed : (found : Option ℕ) → test (option_and_then (slice_get old.named.items) found) ≡ true → test (option_and_then (slice_get (old.named.items ++ fresh ∷ [])) found) ≡ true
        pushed None told = told
        pushed (Some j) told = push_stays test old.named.items fresh j none_is told

        by : (b : Bool) → eq_by_cmp path_cmp other group ≡ b → test (option_and_then (slice_get (old.named.items ++ fresh ∷ [])) (cond b (Some id) (find path_cmp other old.numbers.entries))) ≡ true
        by true same = absurd (none_here (path_exact other group ((Equal-is (path_cmp other group)).0 same)) (find path_cmp other old.numbers.entries) refl h)
        by false apart = pushed (find path_cmp other old.numbers.entries) h

pub added_found : (group : PathName) (id : ℕ) (es : List (PathName × ℕ)) → find path_cmp group (put path_cmp group id es) ≡ Some id
added_found group id es = find-put path_cmp path_cmp_total group group id es ∙ ap (λ o. cond (is_eq o) (Some id) (find path_cmp group es)) (tied_itself path_cmp_total group)

-- what is kept is the same, whatever room there is besides
pub grows_alike : (old new : Others) → new.numbers.entries ≡ old.numbers.entries → new.named.items ≡ old.named.items → Grows old new
grows_alike old new numbers named = grows_from old new (λ p group h. ap (names_now p) (alike group) ∙ h) (λ n p group h. ap (named_then n p) (alike group) ∙ h)
  where
    alike : (group : PathName) → kept_of new group ≡ kept_of old group
    alike group = ap (λ items. option_and_then (slice_get items) (find path_cmp group new.numbers.entries)) named ∙ ap (λ es. option_and_then (slice_get old.named.items) (find path_cmp group es)) numbers

-- the record at the position is one of those that name it
pub noted_new : {E : Type 0} (result : Result (Unit {0}) E) (old new : Others) (id position : ℕ) (was is : Named) → new.numbers ≡ old.numbers → new.named.items ≡ set old.named.items id is → slice_get old.named.items id ≡ Some was →
    OnOk result (names_now position (Some is) ≡ true) → OnOk result ((group : PathName) → find path_cmp group old.numbers.entries ≡ Some id → names_now position (kept_of new group) ≡ true)
noted_new (Ok done) old new id position was is numbers named there noted = λ group found.
    ap (λ items. names_now position (option_and_then (slice_get items) (find path_cmp group new.numbers.entries))) named
    ∙ (ap (λ numbers. names_now position (option_and_then (slice_get (set old.named.items id is)) (find path_cmp group numbers.entries))) numbers
    ∙ (ap (λ o. names_now position (option_and_then (slice_get (set old.named.items id is)) o)) found ∙ (ap (names_now position) (get_set old.named.items id was is there) ∙ noted)))
noted_new (Err fault) old new id position was is numbers named there noted = tt

-- ---- the number of a group

-- what is told of it
abbrev pub IsNumber : Others → PathName → Option ℕ → Type 0
IsNumber others group number = MatchOption number ((id : ℕ) → find path_cmp group others.numbers.entries ≡ Some id → length others.named.items ≤ id)
    (λ id. (find path_cmp group others.numbers.entries ≡ Some id) × (id < length others.named.items))

pub unnumbered : (others : Others) (group copy : PathName) (o : Option ℕ) → o ≡ None → IsNumber others group o → copy ≡ group → (id : ℕ) → find path_cmp copy others.numbers.entries ≡ Some id → length others.named.items ≤ id
unnumbered others group copy None is told same id found = told id (ap (λ p. find path_cmp p others.numbers.entries) (sym same) ∙ found)
unnumbered others group copy (Some n) is told same id found = absurd (some_none n is)

pub number_in : (others : Others) (group : PathName) (o : Option ℕ) (id : ℕ) → o ≡ Some id → IsNumber others group o → id < length others.named.items
number_in others group None id is told = absurd (some_none id (sym is))
number_in others group (Some n) id is told = let less : n < length others.named.items = told.1 in omega (arith, less, some_same n id is)
