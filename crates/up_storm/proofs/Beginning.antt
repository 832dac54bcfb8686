-- Sessions that begin one after the other, and that are taken in again.
use Rattle.std.specs.Prelude.{Ok}
use Rattle.std.proofs.Common.{◌≡◌, ℕ, false, ◌+◌, List, [], ◌∷◌, ◌++◌, length, refl, sym, ap, subst, ◌∙◌, append_assoc, append-nil, arith}
use Rattle.std.specs.Prelude.{All, map}
use Rattle.std.proofs.lemmas.List.Elements.{All-head, All-nil, All-push, All-tail}
use Rattle.up_shared.specs.declared.shared.Seats.{Seats}
use Rattle.up_shared.specs.declared.shared.Shared.{Shared}
use Rattle.up_names.specs.Texts.{UserName}
use Rattle.up_names.specs.UserNames.{user_of}
use Rattle.up_shared.specs.Sharing.{AreSeats, EachPair}
use Rattle.up_shared.specs.Splits.{AreBoth, AreFirsts, AreSeconds, SeatsAdd, SeenAlike}
use Rattle.up_storm.specs.Asked.{user_text}
use Rattle.up_storm.specs.Generator.{first_number}
use Rattle.up_storm.specs.Telling.{none_counted}
use Rattle.up_storm.specs.Seating.{AreBegun, AreJoined, HasBegun}
use Rattle.up_storm.specs.Sessions.{Session, said_of}
use Rattle.up_storm.specs.declared.session.Said.{Said}

length_push : {X : Type 0} (xs : List X) (x : X) → length (xs ++ x ∷ []) ≡ length xs + 1
length_push [] x = refl
length_push (y ∷ xs) x = let rest = length_push xs x in omega (arith, rest)

-- so many were begun: whatever the others are, with these before them they are all
pub record IsBeginning {D L : Type 0} (none : L) (seed : ℕ) (start : Seats D) (k : ℕ) (now : Seats D) (so_far : List (Session D L)) : Type 0 where
  pub goes : (more : List (Session D L)) (left : Seats D) → AreBegun none seed k now more left → AreBegun none seed 0 start (so_far ++ more) left

module _ {D L : Type 0} (none : L) (seed : ℕ) (start : Seats D) where
  pub beginning_none : IsBeginning none seed start 0 start []
  beginning_none = record { goes = λ more left h. h }

  -- what was begun is one session more
  pub begun_one : (shared : Shared D) (k : ℕ) (seats rest other : Seats D) (before after : List (Session D L)) (user : UserName)
      → after ≡ before ++ (record { seats = other; peers = none; user = user; number = first_number seed k; text = []; tally = none_counted; failed = false }) ∷ []
      → AreFirsts seats rest → AreSeconds seats other → SeatsAdd rest other seats → user_of (user_text k) ≡ Ok user → AreSeats shared other
      → HasBegun none shared seed k seats before rest after
  begun_one shared k seats rest other before after user whole first second shares named sits = record {
    session = record { seats = other; peers = none; user = user; number = first_number seed k; text = []; tally = none_counted; failed = false };
    whole = whole;
    first = first;
    second = second;
    shares = shares;
    begun = record { user = named; number = refl; peers = refl; text = refl; tally = refl; failed = refl };
    sits = sits;
  }

  pub beginning_next : (shared : Shared D) (k : ℕ) (seats rest : Seats D) (before after : List (Session D L)) → IsBeginning none seed start k seats before
      → HasBegun none shared seed k seats before rest after → IsBeginning none seed start (k + 1) rest after
  beginning_next shared k seats rest before after h one = record {
    goes = λ more left begun. subst (λ (vs : List (Session D L)). AreBegun none seed 0 start (vs ++ more) left) (sym one.whole)
        (subst (λ (vs : List (Session D L)). AreBegun none seed 0 start vs left) (sym (append_assoc before (one.session ∷ []) more))
        (h.goes (one.session ∷ more) left (rest, one.first, one.second, one.shares, one.begun, begun)));
  }

  pub beginning_all : (k : ℕ) (seats : Seats D) (so_far : List (Session D L)) → IsBeginning none seed start k seats so_far → AreBegun none seed 0 start so_far seats
  beginning_all k seats so_far h = subst (λ (vs : List (Session D L)). AreBegun none seed 0 start vs seats) (append-nil so_far) (h.goes [] seats refl)

-- what holds of each session so far holds of one more
pub none_each : {X : Type 0} (P : X → Type 0) → All P []
none_each P = All-nil P

module _ {D L : Type 0} (none : L) (shared : Shared D) (seed k : ℕ) (seats rest : Seats D) (before after : List (Session D L)) where
  pub number_next : HasBegun none shared seed k seats before rest after → length before ≡ k → length after ≡ k + 1
  number_next one long = ap (λ (vs : List (Session D L)). length vs) one.whole ∙ length_push before one.session ∙ ap (λ (n : ℕ). n + 1) long

  pub each_next : HasBegun none shared seed k seats before rest after → All (λ (v : Session D L). AreSeats shared v.seats) before → All (λ (v : Session D L). AreSeats shared v.seats) after
  each_next one each = subst (All (λ (v : Session D L). AreSeats shared v.seats)) (sym one.whole) (All-push (λ (v : Session D L). AreSeats shared v.seats) before one.session each one.sits)

  pub fresh_next : HasBegun none shared seed k seats before rest after → All (λ (v : Session D L). v.tally ≡ none_counted) before → All (λ (v : Session D L). v.tally ≡ none_counted) after
  fresh_next one each = subst (All (λ (v : Session D L). v.tally ≡ none_counted)) (sym one.whole) (All-push (λ (v : Session D L). v.tally ≡ none_counted) before one.session each one.begun.tally)

-- these are left to be joined: whatever the seats are then, all are joined to the first ones
pub record IsJoining {D L : Type 0} (start : Seats D) (all : List (Session D L)) (now : Seats D) (left : List (Session D L)) : Type 0 where
  pub goes : (end : Seats D) → AreJoined now left end → AreJoined start all end

module _ {D L : Type 0} (start : Seats D) (all : List (Session D L)) where
  pub joining_none : IsJoining start all start all
  joining_none = record { goes = λ end h. h }

  pub joining_next : (seats other both : Seats D) (left more : List (Session D L)) (w : Session D L) → IsJoining start all seats left → left ≡ w ∷ more
      → other ≡ w.seats → AreBoth seats other both → EachPair SeenAlike seats.trees.items other.trees.items → SeatsAdd seats other both → IsJoining start all both more
  joining_next seats other both left more w h is same one alike shares = record {
    goes = λ end rest. h.goes end (subst (λ (ws : List (Session D L)). AreJoined seats ws end) (sym is) (
      both,
      subst (λ (s : Seats D). AreBoth seats s both) same one,
      subst (λ (s : Seats D). SeatsAdd seats s both) same shares,
      subst (λ (s : Seats D). EachPair SeenAlike seats.trees.items s.trees.items) same alike,
      rest,
    ));
  }

  pub joining_all : (seats : Seats D) (left : List (Session D L)) → IsJoining start all seats left → left ≡ [] → AreJoined start all seats
  joining_all seats left h is = h.goes seats (subst (λ (ws : List (Session D L)). AreJoined seats ws seats) (sym is) refl)

-- what those said that were taken in, and what is left, make the whole
pub said_next : {D L : Type 0} (said after whole : List Said) (one : Said) (left more : List (Session D L)) (w : Session D L) → said ++ map (λ (v : Session D L). said_of v) left ≡ whole → left ≡ w ∷ more
    → one ≡ said_of w → after ≡ said ++ one ∷ [] → after ++ map (λ (v : Session D L). said_of v) more ≡ whole
said_next {D} {L} said after whole one left more w h is same pushed =
    ap (λ (xs : List Said). xs ++ map (λ (v : Session D L). said_of v) more) (pushed ∙ ap (λ (x : Said). said ++ x ∷ []) same)
    ∙ append_assoc said (said_of w ∷ []) (map (λ (v : Session D L). said_of v) more) ∙ ap (λ (ws : List (Session D L)). said ++ map (λ (v : Session D L). said_of v) ws) (sym is) ∙ h

pub said_all : {D L : Type 0} (said whole : List Said) (left : List (Session D L)) → said ++ map (λ (v : Session D L). said_of v) left ≡ whole → left ≡ [] → said ≡ whole
said_all {D} {L} said whole left h is = sym (ap (λ (ws : List (Session D L)). said ++ map (λ (v : Session D L). said_of v) ws) is ∙ append-nil said) ∙ h

-- the seats of the next one, and of those behind it
pub next_sits : {D L : Type 0} (shared : Shared D) (left more : List (Session D L)) (w : Session D L) (other : Seats D) → All (λ (v : Session D L). AreSeats shared v.seats) left → left ≡ w ∷ more
    → other ≡ w.seats → AreSeats shared other
next_sits {D} {L} shared left more w other each is same =
    subst (AreSeats shared) (sym same) (All-head (λ (v : Session D L). AreSeats shared v.seats) w more (subst (All (λ (v : Session D L). AreSeats shared v.seats)) is each))

pub more_sit : {D L : Type 0} (shared : Shared D) (left more : List (Session D L)) (w : Session D L) → All (λ (v : Session D L). AreSeats shared v.seats) left → left ≡ w ∷ more
    → All (λ (v : Session D L). AreSeats shared v.seats) more
more_sit {D} {L} shared left more w each is =
    All-tail (λ (v : Session D L). AreSeats shared v.seats) w more (subst (All (λ (v : Session D L). AreSeats shared v.seats)) is each)
