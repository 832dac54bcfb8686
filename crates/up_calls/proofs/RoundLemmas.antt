-- How rounds of loads go on.
use Rattle.std.proofs.Common.{◌≡◌, ◌≢◌, ◌⊎◌, ◌≤◌, ◌<◌, ◌==◌, ◌||◌, ◌+◌, ◌-◌, ℕ, zero, suc, Bool, true, false, cond, List, [], ◌∷◌, ◌++◌, length, map, take, refl, inl, inr, sym, ap, subst, ◌∙◌, arith, add-one, append_assoc, append-nil, length-append, Option, Some, None, slice_get}
use Rattle.std.specs.Prelude.{Contains}
use Rattle.std.specs.List.{AllByRecursion, IsDistinct, flat_map}
use Rattle.std.specs.Map.{keys_of}
use Rattle.std.proofs.lemmas.Bool.{false≢true}
use Rattle.std.proofs.lemmas.Bool.Decides.{nat_tests}
use Rattle.std.proofs.lemmas.List.{take_all}
use Rattle.up_answers.specs.Needs.{needs}
use Rattle.up_calls.proofs.NeedLemmas.{needs_more, needs_new}
use Rattle.up_calls.proofs.PlaceLemmas.{places_listed}
use Rattle.up_calls.specs.Rounds.{AreNew, AreRounds, AreRoundsOver, InRounds, InRoundsOver, IsMissing, IsRound, IsWhole, LoadedInRounds, LoadsFirst, LoadsRound, RoundMade, bound}
use Rattle.up_names.specs.PathNames.{PathName}
use Rattle.up_names.specs.PathOrder.{path_eq}
use Rattle.up_names.specs.PathOrderLaws.{path_eq-Decides}
use Rattle.up_names.specs.Texts.{UserName}
use Rattle.up_policy.proofs.PathLists.{Contains-at}
use Rattle.up_policy.specs.Loadings.{Loading, answer_for}
use Rattle.up_policy.specs.declared.load_answer.LoadAnswer.{LoadAnswer}
use Rattle.up_log_tree.specs.Logs.{Log}
use Rattle.up_wire.specs.declared.requests.Request.{Request}

-- ---- what is missing

-- what is missing is needed still
pub missing_needed : (log : Log) (user : UserName) (request : Request) (names : List PathName) (before : Loading) → names ≡ needs log before user request
    → (more : Loading) (name : PathName) → IsMissing names (before ++ more) name → Contains (needs log (before ++ more) user request) name
missing_needed log user request names before is more name h =
    needs_more log user request (places_listed log user) before more name (subst (λ ns. Contains ns name) is h.0) h.1

-- what is needed is not loaded yet
pub needed_new : (log : Log) (user : UserName) (request : Request) (names : List PathName) (before : Loading) → names ≡ needs log before user request → AreNew names before
needed_new log user request names before is = record {
  new = λ name h. needs_new log user request (places_listed log user) before name (subst (λ ns. Contains ns name) is h);
}

-- ---- where loading ends

pub not_enough : (names : List PathName) (loaded : Loading) → (length names == 0 || length loaded == bound) ≡ false → length names ≢ 0
not_enough [] loaded h = absurd (false≢true (sym h))
not_enough (name ∷ names) loaded h = λ e. omega (arith, e)

pub not_full : (names : List PathName) (loaded : Loading) → (length names == 0 || length loaded == bound) ≡ false → length loaded ≢ bound
not_full names loaded h full = by (length names == 0) h
  where
    by : (b : Bool) → (b || length loaded == bound) ≡ false → ⊥
    by true k = absurd (false≢true (sym k))
    by false k = grind (arith, nat_tests, k, full)

equal_by_test : (a b : ℕ) → (a == b) ≡ true → a ≡ b
equal_by_test a b h = grind (arith, nat_tests)

pub is_whole : (names missing : List PathName) (loaded : Loading) → names ≡ missing → (length names == 0 || length loaded == bound) ≡ true → IsWhole missing loaded
is_whole [] missing loaded is h = record { enough = inl (sym is) }
is_whole (name ∷ names) missing loaded is h = record { enough = inr (by (length (name ∷ names) == 0) refl h) }
  where
    by : (b : Bool) → (length (name ∷ names) == 0) ≡ b → (b || length loaded == bound) ≡ true → length loaded ≡ bound
    by true e k = let none : length (name ∷ names) ≡ 0 = equal_by_test (length (name ∷ names)) 0 e in absurd (omega (arith, none))
    by false e k = equal_by_test (length loaded) bound k

-- ---- rounds

module _ (missing : ℕ → Loading → List PathName) where
  order : (from to : ℕ) (x : Loading) (rounds : List RoundMade) (y : Loading) → AreRoundsOver missing from to x rounds y → from ≤ to
  order from to x [] y h = h.0
  order from to x (r ∷ rounds) y h = let k = order r.position to (x ++ r.round) rounds y h.1 in omega (arith, h.0.not_before, k)

  pub rounds_order : (from to : ℕ) (x y : Loading) → InRoundsOver missing from to x y → from ≤ to
  rounds_order from to x y h = order from to x h.rounds y h.made

  earlier : (low from to : ℕ) (x : Loading) (rounds : List RoundMade) (y : Loading) → low ≤ from → AreRoundsOver missing from to x rounds y → AreRoundsOver missing low to x rounds y
  earlier low from to x [] y below h = (omega (arith, below, h.0), h.1)
  earlier low from to x (r ∷ rounds) y below h = (record { not_before = omega (arith, below, h.0.not_before); is_round = h.0.is_round }, h.1)

  -- from an earlier position, and to a later one
  pub rounds_earlier : (low from to : ℕ) (x y : Loading) → low ≤ from → InRoundsOver missing from to x y → InRoundsOver missing low to x y
  rounds_earlier low from to x y below h = record { rounds = h.rounds; made = earlier low from to x h.rounds y below h.made }

  until : (from to high : ℕ) (x : Loading) (rounds : List RoundMade) (y : Loading) → to ≤ high → AreRoundsOver missing from to x rounds y → AreRoundsOver missing from high x rounds y
  until from to high x [] y above h = (omega (arith, above, h.0), h.1)
  until from to high x (r ∷ rounds) y above h = (h.0, until r.position to high (x ++ r.round) rounds y above h.1)

  pub rounds_until : (from to high : ℕ) (x y : Loading) → to ≤ high → InRoundsOver missing from to x y → InRoundsOver missing from high x y
  rounds_until from to high x y above h = record { rounds = h.rounds; made = until from to high x h.rounds y above h.made }

  next : (from to at : ℕ) (x : Loading) (rounds : List RoundMade) (y z : Loading) → to ≤ at → missing at y ≢ [] → length y < bound → (loads : LoadsRound (missing at y) y z) → AreRoundsOver missing from to x rounds y
      → AreRoundsOver missing from at x (rounds ++ (record { position = at; round = loads.round }) ∷ []) z
  next from to at x [] y z above some room loads h = (
    record {
      not_before = omega (arith, above, h.0);
      is_round = subst (λ l. IsRound (missing at l) l loads.round) h.1 (record { some = some; room = room; names_are = loads.names_are });
    },
    (omega arith, loads.whole ∙ ap (λ l. l ++ loads.round) h.1),
  )
  next from to at x (r ∷ rounds) y z above some room loads h = (h.0, next r.position to at (x ++ r.round) rounds y z above some room loads h.1)

  -- one round more
  pub rounds_next : (from to at : ℕ) (x y z : Loading) → to ≤ at → missing at y ≢ [] → length y < bound → LoadsRound (missing at y) y z → InRoundsOver missing from to x y → InRoundsOver missing from at x z
  rounds_next from to at x y z above some room loads h = record {
    rounds = h.rounds ++ (record { position = at; round = loads.round }) ∷ [];
    made = next from to at x h.rounds y z above some room loads h.made;
  }

made_for : (missing other : ℕ → Loading → List PathName) (from to : ℕ) (x : Loading) (rounds : List RoundMade) (y : Loading) → ((k : ℕ) → k ≤ to → missing k ≡ other k) → AreRoundsOver missing from to x rounds y → AreRoundsOver other from to x rounds y
made_for missing other from to x [] y alike h = h
made_for missing other from to x (r ∷ rounds) y alike h =
    let is : missing r.position x ≡ other r.position x = ap (λ f. f x) (alike r.position (order missing r.position to (x ++ r.round) rounds y h.1)) in (
      record { not_before = h.0.not_before; is_round = subst (λ names. IsRound names x r.round) is h.0.is_round },
      made_for missing other r.position to (x ++ r.round) rounds y alike h.1,
    )

-- what is missing over as many records is the same
pub rounds_for : (missing other : ℕ → Loading → List PathName) (from to : ℕ) (x y : Loading) → ((k : ℕ) → k ≤ to → missing k ≡ other k) → InRoundsOver missing from to x y → InRoundsOver other from to x y
rounds_for missing other from to x y alike h = record { rounds = h.rounds; made = made_for missing other from to x h.rounds y alike h.made }

-- where the log stays as it is, all rounds are over the same records
alone : (missing : ℕ → Loading → List PathName) (n from to : ℕ) (x : Loading) (rounds : List RoundMade) (y : Loading) → n ≤ from → to ≤ n → IsWhole (missing n y) y → AreRoundsOver missing from to x rounds y
    → AreRounds (missing n) x (map (λ (r : RoundMade). r.round) rounds)
alone missing n from to x [] y low high ends h = subst (λ l. IsWhole (missing n l) l) h.1 ends
alone missing n from to x (r ∷ rounds) y low high ends h =
    let within : r.position ≤ to = order missing r.position to (x ++ r.round) rounds y h.1 in
    let starts : from ≤ r.position = h.0.not_before in
    let here : r.position ≡ n = omega (arith, within, low, high, starts) in (
      subst (λ k. IsRound (missing k x) x r.round) here h.0.is_round,
      alone missing n r.position to (x ++ r.round) rounds y (omega (arith, low, starts)) high ends h.1,
    )

all_of : (missing : ℕ → Loading → List PathName) (from to : ℕ) (x : Loading) (rounds : List RoundMade) (y : Loading) → AreRoundsOver missing from to x rounds y
    → y ≡ x ++ flat_map (λ (round : Loading). round) (map (λ (r : RoundMade). r.round) rounds)
all_of missing from to x [] y h = h.1 ∙ sym (append-nil x)
all_of missing from to x (r ∷ rounds) y h =
    all_of missing r.position to (x ++ r.round) rounds y h.1 ∙ append_assoc x r.round (flat_map (λ (round : Loading). round) (map (λ (r : RoundMade). r.round) rounds))

pub rounds_alone : (missing : ℕ → Loading → List PathName) (n : ℕ) (loaded : Loading) → LoadedInRounds missing n n loaded → InRounds (missing n) [] loaded
rounds_alone missing n loaded h = record {
  rounds = map (λ (r : RoundMade). r.round) h.rounds.rounds;
  whole = all_of missing n n [] h.rounds.rounds loaded h.rounds.made;
  each = alone missing n n n [] h.rounds.rounds loaded (omega arith) (omega arith) h.whole h.rounds.made;
}

-- ---- one round, name by name

pub adds_none : (names : List PathName) (before : Loading) → LoadsFirst 0 names before before
adds_none names before = record { more = []; whole = sym (append-nil before); long = refl; names_are = refl }

take-next : {X : Type 0} (xs : List X) (i : ℕ) (x : X) → slice_get xs i ≡ Some x → take (suc i) xs ≡ take i xs ++ x ∷ []
take-next [] i x h = absurd (cc)
take-next (y ∷ ys) zero x h = let same : y ≡ x = cc in ap (λ z. z ∷ []) same
take-next (y ∷ ys) (suc i) x h = ap (λ zs. y ∷ zs) (take-next ys i x h)

keys-append : (xs ys : Loading) → keys_of (xs ++ ys) ≡ keys_of xs ++ keys_of ys
keys-append [] ys = refl
keys-append (x ∷ xs) ys = ap (λ ks. x.0 ∷ ks) (keys-append xs ys)

keys_length : (xs : Loading) → length xs ≡ length (keys_of xs)
keys_length [] = refl
keys_length (x ∷ xs) = let rest : length xs ≡ length (keys_of xs) = keys_length xs in omega (arith, rest)

take_most : {X : Type 0} (n : ℕ) (xs : List X) → length (take n xs) ≤ n
take_most zero xs = omega arith
take_most (suc n) [] = omega arith
take_most (suc n) (x ∷ xs) = let rest : length (take n xs) ≤ n = take_most n xs in omega (arith, rest)

pub adds_next : (names : List PathName) (i : ℕ) (name : PathName) (answer : LoadAnswer) (old now new : Loading) → slice_get names i ≡ Some name → new ≡ now ++ (name, answer) ∷ []
    → LoadsFirst i names old now → LoadsFirst (i + 1) names old new
adds_next names i name answer old now new at is h = record {
  more = h.more ++ (name, answer) ∷ [];
  whole = is ∙ ap (λ xs. xs ++ (name, answer) ∷ []) h.whole ∙ append_assoc old h.more ((name, answer) ∷ []);
  long = let l : length (h.more ++ (name, answer) ∷ []) ≡ length h.more + 1 = length-append h.more ((name, answer) ∷ []) in omega (arith, l, h.long);
  names_are = keys-append h.more ((name, answer) ∷ []) ∙ ap (λ ks. ks ++ name ∷ []) h.names_are ∙ sym (ap (λ n. take n names) (add-one i) ∙ take-next names i name at);
}

pub adds_length : (names : List PathName) (i : ℕ) (old now : Loading) → LoadsFirst i names old now → length now ≡ length old + i
adds_length names i old now h = let l : length now ≡ length old + length h.more = ap length h.whole ∙ length-append old h.more in omega (arith, l, h.long)

-- all were added, or as many as there was room for
pub round_ends : (names : List PathName) (i : ℕ) (old now : Loading) → length now ≤ bound → (length names ≤ i ⊎ (length now ≡ bound)) → LoadsFirst i names old now → LoadsRound names old now
round_ends names i old now few (inl all) h = record {
  round = h.more;
  whole = h.whole;
  names_are = let l = adds_length names i old now h in
      h.names_are ∙ take_all i names all ∙ sym (take_all (bound - length old) names (omega (arith, l, few, all)));
}
round_ends names i old now few (inr full) h = record {
  round = h.more;
  whole = h.whole;
  names_are = let l = adds_length names i old now h in
      h.names_are ∙ ap (λ n. take n names) (let k : i ≡ bound - length old = omega (arith, l, full) in k);
}

-- ---- a name that is not loaded yet

cond_none : {X : Type 0} (b : Bool) (x : X) (rest : Option X) → cond b (Some x) rest ≡ None → (b ≡ false) × (rest ≡ None)
cond_none true x rest h = absurd (cc)
cond_none false x rest h = (refl, h)

none_append : (old more : Loading) (name : PathName) → answer_for old name ≡ None → answer_for more name ≡ None → answer_for (old ++ more) name ≡ None
none_append [] more name h k = k
none_append (pair ∷ old) more name h k =
    let here = cond_none (path_eq name pair.0) pair.1 (answer_for old name) h in
    ap (λ b. cond b (Some pair.1) (answer_for (old ++ more) name)) here.0 ∙ none_append old more name here.1 k

at_place : {X : Type 0} (P : X → Type 0) (xs : List X) (i : ℕ) (x : X) → AllByRecursion P xs → slice_get xs i ≡ Some x → P x
at_place P [] i x h at = absurd (cc)
at_place P (y ∷ xs) zero x h at = let same : y ≡ x = cc in subst P same h.0
at_place P (y ∷ xs) (suc i) x h at = at_place P xs i x h.1 at

differs_too : (x y : PathName) → path_eq y x ≡ false → path_eq x y ≡ false
differs_too x y h = by (path_eq x y) refl
  where
    by : (b : Bool) → path_eq x y ≡ b → b ≡ false
    by true e = absurd (false≢true (sym h ∙ (path_eq-Decides y x).1 (sym ((path_eq-Decides x y).0 e))))
    by false e = refl

-- the names before it are others
none_before : (names : List PathName) (i : ℕ) (more : Loading) (name : PathName) → IsDistinct path_eq names → keys_of more ≡ take i names → slice_get names i ≡ Some name → answer_for more name ≡ None
unfolding IsDistinct
none_before [] i more name apart same at = absurd (cc)
none_before (y ∷ names) zero [] name apart same at = refl
none_before (y ∷ names) zero (pair ∷ more) name apart same at = absurd (cc)
none_before (y ∷ names) (suc i) [] name apart same at = refl
none_before (y ∷ names) (suc i) (pair ∷ more) name apart same at =
    let first : pair.0 ≡ y = cc in
    let rest : keys_of more ≡ take i names = cc in
    let differs : path_eq y name ≡ false = at_place (λ z. path_eq y z ≡ false) names i name apart.0 at in
    ap (λ b. cond b (Some pair.1) (answer_for more name)) (ap (path_eq name) first ∙ differs_too name y differs) ∙ none_before names i more name apart.1 rest at

pub new_still : (names : List PathName) (i : ℕ) (name : PathName) (old now : Loading) → IsDistinct path_eq names → AreNew names old → LoadsFirst i names old now → slice_get names i ≡ Some name → answer_for now name ≡ None
new_still names i name old now apart fresh h at =
    ap (λ l. answer_for l name) h.whole ∙ none_append old h.more name (fresh.new name (Contains-at names i name at)) (none_before names i h.more name apart h.names_are at)

pub missing_still : (names : List PathName) (i : ℕ) (name : PathName) (old now : Loading) → IsDistinct path_eq names → AreNew names old → LoadsFirst i names old now → slice_get names i ≡ Some name → IsMissing names now name
missing_still names i name old now apart fresh h at = (Contains-at names i name at, new_still names i name old now apart fresh h at)

-- a round adds a name where something is missing and there is room
pub round_grows : (names : List PathName) (before after : Loading) → names ≢ [] → length before ≤ bound → length before ≢ bound → LoadsRound names before after → length before < length after
round_grows [] before after some few room h = absurd (some refl)
round_grows (name ∷ names) before after some few room h = by (bound - length before) refl (keys_length h.round ∙ ap length h.names_are)
  where
    whole : length after ≡ length before + length h.round
    whole = ap length h.whole ∙ length-append before h.round

    by : (n : ℕ) → bound - length before ≡ n → length h.round ≡ length (take n (name ∷ names)) → length before < length after
    by zero e k = absurd (room (omega (arith, few, e)))
    by (suc n) e k = let l : length (take (suc n) (name ∷ names)) ≡ length (take n names) + 1 = omega arith in omega (arith, whole, k, l)

-- and leaves no more than the bound
pub round_few : (names : List PathName) (before after : Loading) → length before ≤ bound → LoadsRound names before after → length after ≤ bound
round_few names before after few h =
    let whole : length after ≡ length before + length h.round = ap length h.whole ∙ length-append before h.round in
    let keys : length h.round ≡ length (take (bound - length before) names) = keys_length h.round ∙ ap length h.names_are in
    let most : length (take (bound - length before) names) ≤ bound - length before = take_most (bound - length before) names in
    omega (arith, whole, keys, most, few)
