-- Each step keeps the rule.
use Rattle.std.proofs.Common.{◌≡◌, ◌≢◌, ◌⊎◌, ℕ, ◌+◌, ◌-◌, ◌*◌, ◌^◌, ◌<◌, ◌≤◌, eqb, List, [], ◌∷◌, length, zero, suc, get_or, set, true, false, Option, Some, None, sym, refl, ap, ◌∙◌, subst, inl, inr, ⊎_elim, arith, length-set, get_or-set_other, get_or-set_same}
use mathlib.Core.Option.{some, none, some-injective, some-ne-none}
use mathlib.Core.Logic.{dite}
use native.Mathlib.Decide.{ℕ_discrete}
use lib.ListN.{get_elem?}
use lib.Seq.{set-get_or}
use prog.Atomic.{either}
use Rattle.atomic_table.specs.Table.{Splits, Joins, State, Me, step, keeps, takes, gives, Act, Valid, stepped, carried_after, rest, Allows}
use Rattle.atomic_table.proofs.Lists.{at_set, set_here, set_else, set_again, at_longer, at_snoc, exchanged}
use Rattle.up_cell.specs.declared.view.View.{View}
use Rattle.up_cell.specs.Positions.{Rising, above, between, times, positions}
use Rattle.up_cell.specs.Known.{longer}
use Rattle.up_cell.specs.Views.{weight, Complete, in_turn, told, at_rest, looked, settled, first_half, second_half, joined, spent}
use lib.Pow.{pow_pos}
use Rattle.up_cell.specs.Kept.{Kept, Fits, IsHome, IsOld}
use Rattle.up_cell.specs.Plays.{Took, takes_turn, tells, gives_turn, looks, settles, stays}
use Rattle.up_cell.proofs.Longer.{longer-is, longer-length}
use Rattle.up_lists.specs.Begins.{Begins}
use Rattle.up_lists.proofs.BeginsLemmas.{Begins-nil, Begins-self, Begins-shorter, Begins-trans, length-Begins}
use Rattle.up_cell.proofs.Sums.{every_own, there, total-set, term_le, times-append, times-positions, terms_le, total-append, total-double, alone, above-most, above-yes, rising-append, rising-positions, positions-above, times-merged, rising-merged}
use Rattle.up_cell.proofs.Shares.{weight-zero, weight-all, weight-double, weight-first, weight-second, weight-joined, share-positive}
use Rattle.std.proofs.Math.Nat.{pow-succ'}

module _ {S E F : Type 0} (entries : S → List E) (faults : S → ℕ) (fixed : S → F) (base : ℕ) (made : F) where
  abbrev Rule : State (Option S) (View E F) → Type 0
  Rule = Kept entries fixed base made

  abbrev Shelf : Type 0
  Shelf = List (mathlib.Core.Option.Option (Option S))

  abbrev board : List ℕ → Shelf → List (View E F) → State (Option S) (View E F)
  board ws hs vs = record { words = ws; homes = hs; views = vs }

  abbrev pub Seat : Type 0
  Seat = Me (Option S) (View E F)

  -- the seat `holder` has the turn
  abbrev Holds : List (View E F) → ℕ → Type 0
  Holds vs holder = (u : View E F) × (get_elem? vs holder ≡ some u) × (u.turn ≡ true)

  still_held : (vs : List (View E F)) (id : ℕ) (v w : View E F) (holder : ℕ) → get_elem? vs id ≡ some v → w.turn ≡ v.turn → Holds vs holder → Holds (set vs id w) holder
  still_held vs id v w holder me same h = dite (ℕ_discrete holder id)
      (λ e. let is : get_elem? vs id ≡ some h.0 = subst (λ (i : ℕ). get_elem? vs i ≡ some h.0) e h.1 in
      let one : v ≡ h.0 = some-injective v h.0 (sym me ∙ is) in
      (w, subst (λ (i : ℕ). get_elem? (set vs id w) i ≡ some w) (sym e) (there vs id v w me), same ∙ (ap (λ (z : View E F). z.turn) one ∙ h.2)))
      (λ ne. (h.0, set_else vs id holder w ne ∙ h.1, h.2))

  -- a step of the seat id, from the view v to the view w
  moves : (s : State (Option S) (View E F)) (k : Rule s) (ws : List ℕ) (hs : Shelf) (id : ℕ) (v w : View E F) (log : List E) (holder : ℕ)
      → get_elem? s.views id ≡ some v
      → length ws ≡ 3 → length hs ≡ 1 → get_or ws 0 0 ≡ length log → Begins k.log log → get_or ws 1 0 ≤ 1
      → (get_or ws 1 0 ≡ 1 → Holds (set s.views id w) holder)
      → (get_or ws 1 0 ≡ 0 → IsHome entries fixed made log hs)
      → Fits base made log k.depth (get_or ws 1 0) holder id w
      → ((j : ℕ) (u : View E F) → j ≢ id → Fits base made k.log k.depth (get_or s.words 1 0) k.holder j u → u.turn ≡ true → (get_or ws 1 0 ≡ 1) × (j ≡ holder) × (u.seen ≡ log))
      → ((x : ℕ) → times x w.own + above (length log) x ≡ times x v.own + above (length k.log) x)
      → weight k.depth w ≡ weight k.depth v
      → Rule (board ws hs (set s.views id w))
  moves s k ws hs id v w log holder me wide one count grown turn taken home fits others own share =
      let longer = length-Begins grown in
      record {
        log = log;
        depth = k.depth;
        holder = holder;
        wide = wide;
        one_slot = one;
        count = count;
        base_is = omega (arith, k.base_is);
        turn = turn;
        taken = taken;
        home = home;
        each = λ j u at. ⊎_elim
            (λ (t : (j ≡ id) × (w ≡ u)). subst (λ (z : View E F). Fits base made log k.depth (get_or ws 1 0) holder j z) t.1 (subst (λ (i : ℕ). Fits base made log k.depth (get_or ws 1 0) holder i w) (sym t.0) fits))
            (λ (t : (j ≢ id) × (get_elem? s.views j ≡ some u)). let f = k.each j u t.1 in record {
              seen = Begins-trans f.seen grown;
              olds = λ n old is. let o = f.olds n old is in record { begins = Begins-trans o.begins grown; short = o.short };
              floor = omega (arith, f.floor);
              made_at = f.made_at;
              spent = f.spent;
              halvings = f.halvings;
              rising = f.rising;
              in_turn = others j u t.0 f;
            })
            (at_set s.views id j w u at);
        once = λ x. omega (arith, total-set (λ (z : View E F). times x z.own) s.views id v w me, own x, k.once x);
        whole = omega (arith, total-set (weight k.depth) s.views id v w me, k.whole, share);
      }

  same_words : (ws : List ℕ) (i : ℕ) → set ws i (get_or ws i 0) ≡ ws
  same_words ws i = set-get_or ws i 0

  -- a seat's own positions are in the log
  own_below : (s : State (Option S) (View E F)) (k : Rule s) (id : ℕ) (v : View E F) (x : ℕ) → get_elem? s.views id ≡ some v → length k.log < x → times x v.own ≡ 0
  own_below s k id v x me past = let part = term_le (λ (z : View E F). times x z.own) s.views id v me in let most = above-most base x in let all = above-yes (length k.log) x past in omega (arith, k.once x)

  -- who has the whole share has each position
  counted : (s : State (Option S) (View E F)) (k : Rule s) (id : ℕ) (v : View E F) → get_elem? s.views id ≡ some v → v.part ≡ 2 ^ v.halvings
      → (v.base ≡ base) × ((x : ℕ) → times x v.own + above (length k.log) x ≡ above v.base x)
  counted s k id v me all =
      let f = k.each id v me in
      let some-part : 0 < v.part = omega (arith, all, pow_pos v.halvings) in
      let made = (f.made_at some-part).0 in (
        made,
        λ x.
            let t = alone (weight k.depth) (λ (z : View E F). times x z.own) s.views id v me (k.whole ∙ sym (weight-all k.depth v f.halvings all))
            (λ i u at none. ap (times x) ((k.each i u at).spent (weight-zero k.depth u none)).0) in
            omega (arith, t, k.once x, ap (λ (b : ℕ). above b x) made),
      )

  -- so its own list is that of all of them
  complete : (s : State (Option S) (View E F)) (k : Rule s) (id : ℕ) (v : View E F) → get_elem? s.views id ≡ some v → Complete v (length k.log)
  complete s k id v me all =
      let c = counted s k id v me all in
      every_own v.own v.base (length k.log) (omega (arith, k.base_is, c.0)) (k.each id v me).rising c.1

  -- a load of the count
  pub loads : (slots id : ℕ) (v : View E F) → v.olds ≡ [] → Allows Rule slots id (v, []) 0 (λ n. n) (λ n. looks (step slots 0 0 0 none) (v, []) n)
  loads slots id v none-old s k long me small =
      let f = k.each id v me in
      let n : ℕ = get_or s.words 0 0 in
      let w : View E F = looked v n in
      let seen-length = length-Begins f.seen in (
        w,
        keeps,
        tt,
        subst (λ (ws : List ℕ). Rule (board ws s.homes (set s.views id w))) (sym (same_words s.words 0))
            (moves s k s.words s.homes id v w k.log k.holder me k.wide k.one_slot k.count (Begins-self k.log) k.turn
            (λ e. still_held s.views id v w k.holder me refl (k.taken e))
            k.home
            record { seen = f.seen; olds = f.olds; floor = omega (arith, k.count); made_at = f.made_at; spent = f.spent; halvings = f.halvings; rising = f.rising; in_turn = f.in_turn }
            (λ j u ne g. g.in_turn) (λ x. refl) refl),
        (refl, omega (arith, k.count), omega (arith, k.count, f.floor), (λ all. complete s k id v me all ∙ ap (between v.base) (sym k.count)), f.rising),
      )

  -- the turn is taken, or was not free
  pub takes_it : (slots id : ℕ) (v : View E F) → 0 < v.part → v.turn ≡ false
      → Allows Rule slots id (v, []) 1 (λ n. either (eqb n 0) 1 n) (takes_turn entries faults fixed (step slots 1 0 1 none) (v, []))
  takes_it slots id v some-part idle s k long me small =
      let f = k.each id v me in
      let n : ℕ = get_or s.words 1 0 in
      let Goes : ℕ → Type 0 = λ (x : ℕ). (w : View E F) × (a : Act (Option S)) × Valid s.homes [] a × Rule (stepped s 1 x id [] w a) × takes_turn entries faults fixed (step slots 1 0 1 none) (v, []) n (w, carried_after [] a) in
      exchanged n 0 1 Goes
      (λ free.
      let h = k.home free in
      let w : View E F = in_turn v (entries h.state) (faults h.state) in
      let ws : List ℕ = set s.words 1 1 in
      let turn-is : get_or ws 1 0 ≡ 1 = get_or-set_same s.words 1 1 0 (omega (arith, k.wide)) in
      let count-is : get_or ws 0 0 ≡ get_or s.words 0 0 = get_or-set_other s.words 1 0 1 0 (λ e. omega arith) in
      let same-log : entries h.state ≡ k.log = h.log_is in
      let seen-length = length-Begins f.seen in (
        w,
        takes 0 (Some h.state),
        h.home,
        moves s k ws (set s.homes 0 none) id v w k.log id me (length-set s.words 1 1 ∙ k.wide) (length-set s.homes 0 none ∙ k.one_slot) (count-is ∙ k.count) (Begins-self k.log) (omega (arith, turn-is))
            (λ e. (w, there s.views id v w me, refl))
            (λ e. absurd (omega (arith, turn-is)))
            record {
              seen = subst (λ (l : List E). Begins l k.log) (sym same-log) (Begins-self k.log);
              olds = λ i old at. let o = f.olds i old at in record { begins = o.begins; short = omega (arith, o.short, ap length same-log) };
              floor = f.floor;
              made_at = f.made_at;
              spent = λ e. absurd (omega (arith, e));
              halvings = f.halvings;
              rising = f.rising;
              in_turn = λ e. (turn-is, refl, same-log);
            }
            (λ j u ne g e. absurd (omega (arith, (g.in_turn e).0, free)))
            (λ x. refl)
            refl,
        (
          (λ e. record {
            state = h.state;
            lent = record {
              begins = subst (λ (l : List E). Begins v.seen l) (sym same-log) f.seen;
              floor_is = omega (arith, f.floor, ap length same-log);
              fixed_is = (f.made_at some-part).1 ∙ ap (λ (z : F). Some z) (sym h.fixed_is);
            };
            seat = refl;
          }),
          (λ ne. absurd (ne free)),
        ),
      ))
      (λ busy. (
        v,
        keeps,
        tt,
        subst (λ (vs : List (View E F)). Rule (board (set s.words 1 n) s.homes vs)) (sym (set_again s.views id v me)) (subst (λ (ws : List ℕ). Rule (board ws s.homes s.views)) (sym (same_words s.words 1)) k),
        ((λ e. absurd (busy e)), λ ne. refl),
      ))

  abbrev pub out : S → List (ℕ × Option S)
  out a = (0, Some a) ∷ []

  same_state : (a b : S) → out a ≡ out b → a ≡ b
  same_state a b e = let x : Some a ≡ Some b = ap (λ (l : List (ℕ × Option S)). (get_or l 0 (0, Some a)).1) e in cc

  -- the positions that are added are the ones that the log gets
  told_own : (v : View E F) (log : List E) (n f : ℕ) → length v.seen ≤ length log → length v.seen ≡ n → (x : ℕ) → times x (told v log f).own + above (length log) x ≡ times x v.own + above n x
  told_own v log n f longer is x =
      let new = times-positions x (length v.seen) (length log - length v.seen) in
      let sum : length v.seen + (length log - length v.seen) ≡ length log = omega (arith, longer) in
      omega (arith, times-append x v.own (positions (length v.seen) (length log - length v.seen)), new, ap (λ (m : ℕ). above m x) sum, ap (λ (m : ℕ). above m x) is)

  -- the count is stored, once the state that the seat has out has a longer log
  pub tells_it : (slots id : ℕ) (v : View E F) (state : S) (n : ℕ) → 0 < v.part → v.turn ≡ true → Begins v.seen (entries state) → n ≡ length (entries state)
      → Allows Rule slots id (v, (0, Some state) ∷ []) 0 (λ _. n) (λ _. tells entries faults fixed (step slots 0 n 0 none) (v, (0, Some state) ∷ []) n)
  tells_it slots id v state n some-part mine grown n-is s k long me small =
      let f = k.each id v me in
      let at = f.in_turn mine in
      let log : List E = entries state in
      let w : View E F = told v log (faults state) in
      let ws : List ℕ = set s.words 0 n in
      let grown' : Begins k.log log = subst (λ (l : List E). Begins l log) at.2 grown in
      let longer = length-Begins grown in
      let shorter = ap length at.2 in
      let turn-is : get_or ws 1 0 ≡ get_or s.words 1 0 = get_or-set_other s.words 0 1 n 0 (λ e. omega arith) in
      let count-is : get_or ws 0 0 ≡ n = get_or-set_same s.words 0 n 0 (omega (arith, k.wide)) in
      let rising : Rising w.own = rising-append v.own (positions (length v.seen) (length log - length v.seen)) (length v.seen) f.rising (rising-positions (length v.seen) (length log - length v.seen))
      (λ x past. own_below s k id v x me (omega (arith, past, shorter))) (positions-above (length v.seen) (length log - length v.seen)) in (
        w,
        keeps,
        tt,
        moves s k ws s.homes id v w log id me (length-set s.words 0 n ∙ k.wide) k.one_slot (count-is ∙ n-is) grown' (omega (arith, turn-is, at.0))
            (λ e. (w, there s.views id v w me, mine))
            (λ e. absurd (omega (arith, turn-is, at.0)))
            record {
              seen = Begins-self log;
              olds = λ i old is. let o = f.olds i old is in record { begins = Begins-trans o.begins grown'; short = omega (arith, o.short, longer) };
              floor = omega (arith, f.floor, longer, shorter);
              made_at = f.made_at;
              spent = λ e. absurd (omega (arith, e));
              halvings = f.halvings;
              rising = rising;
              in_turn = λ e. (turn-is ∙ at.0, refl, refl);
            }
            (λ j u ne g e. absurd (ne ((g.in_turn e).1 ∙ sym at.1)))
            (told_own v log (length k.log) (faults state) longer shorter)
            refl,
        λ other is.
            let same = same_state state other is in (
              ap (λ (l : S). let r : Seat = (told v (entries l) (faults l), out state) in r) same,
              (λ all. let c = counted s k id v me all in
                  every_own w.own v.base (length log) (omega (arith, k.base_is, c.0, longer, shorter)) rising (λ x. told_own v log (length k.log) (faults state) longer shorter x ∙ c.1 x)
                  ∙ ap (λ (l : S). between v.base (length (entries l))) same),
              rising,
            ),
      )

  same_fixed : (a : F) → Some a ≡ Some made → a ≡ made
  same_fixed a e = cc

  -- the turn is given back, with the state
  pub gives_it : (slots id : ℕ) (v : View E F) (state : S) → 0 < v.part → v.turn ≡ true → entries state ≡ v.seen → v.fixed ≡ Some (fixed state)
      → Allows Rule slots id (v, (0, Some state) ∷ []) 1 (λ _. 0) (λ _. gives_turn (step slots 1 0 0 none) (v, (0, Some state) ∷ []) 0)
  gives_it slots id v state some-part mine log-is fixed-is s k long me small =
      let f = k.each id v me in
      let at = f.in_turn mine in
      let w : View E F = at_rest v in
      let ws : List ℕ = set s.words 1 0 in
      let turn-is : get_or ws 1 0 ≡ 0 = get_or-set_same s.words 1 0 0 (omega (arith, k.wide)) in
      let count-is : get_or ws 0 0 ≡ get_or s.words 0 0 = get_or-set_other s.words 1 0 0 0 (λ e. omega arith) in (
        w,
        gives,
        tt,
        moves s k ws (set s.homes 0 (some (Some state))) id v w k.log id me (length-set s.words 1 0 ∙ k.wide) (length-set s.homes 0 (some (Some state)) ∙ k.one_slot) (count-is ∙ k.count) (Begins-self k.log) (omega (arith, turn-is))
            (λ e. absurd (omega (arith, turn-is, e)))
            (λ e. record { state = state; home = set_here s.homes 0 (some (Some state)) (omega (arith, k.one_slot)); log_is = log-is ∙ at.2; fixed_is = same_fixed (fixed state) (sym fixed-is ∙ (f.made_at some-part).1) })
            record { seen = f.seen; olds = f.olds; floor = f.floor; made_at = f.made_at; spent = λ e. absurd (omega (arith, e)); halvings = f.halvings; rising = f.rising; in_turn = λ e. absurd cc }
            (λ j u ne g e. absurd (ne ((g.in_turn e).1 ∙ sym at.1)))
            (λ x. refl)
            refl,
        refl,
      )

  -- who goes to sleep, or has slept, changes the word that the rule leaves free
  dozes_it : (slots id : ℕ) (v : View E F) (f : ℕ → ℕ) (first : ℕ) → Allows Rule slots id (v, []) 2 f (λ n. stays (step slots 2 first 0 none) (v, []) n)
  dozes_it slots id v f first s k long me small =
      let ws : List ℕ = set s.words 2 (f (get_or s.words 2 0)) in
      let count-is : get_or ws 0 0 ≡ get_or s.words 0 0 = get_or-set_other s.words 2 0 (f (get_or s.words 2 0)) 0 (λ e. omega arith) in
      let turn-is : get_or ws 1 0 ≡ get_or s.words 1 0 = get_or-set_other s.words 2 1 (f (get_or s.words 2 0)) 0 (λ e. omega arith) in (
        v,
        keeps,
        tt,
        moves s k ws s.homes id v v k.log k.holder me (length-set s.words 2 (f (get_or s.words 2 0)) ∙ k.wide) k.one_slot (count-is ∙ k.count) (Begins-self k.log) (omega (arith, turn-is, k.turn))
            (λ e. still_held s.views id v v k.holder me refl (k.taken (sym turn-is ∙ e)))
            (λ e. k.home (sym turn-is ∙ e))
            (subst (λ (t : ℕ). Fits base made k.log k.depth t k.holder id v) (sym turn-is) (k.each id v me))
            (λ j u ne g e. let t = g.in_turn e in (turn-is ∙ t.0, t.1, t.2))
            (λ x. refl)
            refl,
        refl,
      )

  -- the same, for a seat as a whole
  pub dozes : (slots id : ℕ) (m : Seat) (f : ℕ → ℕ) (first : ℕ) → m.1 ≡ [] → Allows Rule slots id m 2 f (λ n. stays (step slots 2 first 0 none) m n)
  dozes slots id m f first empty =
      subst (λ (l : List (ℕ × Option S)). Allows Rule slots id (m.0, l) 2 f (λ n. stays (step slots 2 first 0 none) (m.0, l) n)) (sym empty) (dozes_it slots id m.0 f first)

  pub loads_at : (slots id word : ℕ) (m : Seat) → word ≡ 0 → m.1 ≡ [] → m.0.olds ≡ [] → Allows Rule slots id m word (λ n. n) (λ n. looks (step slots word 0 0 none) m n)
  loads_at slots id word m is empty none-old =
      subst (λ (i : ℕ). Allows Rule slots id m i (λ n. n) (λ n. looks (step slots i 0 0 none) m n)) (sym is)
      (subst (λ (l : List (ℕ × Option S)). Allows Rule slots id (m.0, l) 0 (λ n. n) (λ n. looks (step slots 0 0 0 none) (m.0, l) n)) (sym empty) (loads slots id m.0 none-old))

  pub takes_at : (slots id new : ℕ) (m : Seat) → new ≡ 1 → m.1 ≡ [] → m.0.turn ≡ false → 0 < m.0.part
      → Allows Rule slots id m 1 (λ n. either (eqb n 0) new n) (takes_turn entries faults fixed (step slots 1 0 new none) m)
  takes_at slots id new m is empty idle some-part =
      subst (λ (k : ℕ). Allows Rule slots id m 1 (λ n. either (eqb n 0) k n) (takes_turn entries faults fixed (step slots 1 0 k none) m)) (sym is)
      (subst (λ (l : List (ℕ × Option S)). Allows Rule slots id (m.0, l) 1 (λ n. either (eqb n 0) 1 n) (takes_turn entries faults fixed (step slots 1 0 1 none) (m.0, l))) (sym empty) (takes_it slots id m.0 some-part idle))

  -- what the seat has, once the state lies in the slot again
  pub ready : (m n p q : Seat) (t : Took entries faults fixed m n) (after : S) → m.1 ≡ [] → p ≡ (n.0, (0, None) ∷ rest n.1) → q ≡ (p.0, (0, Some after) ∷ rest p.1)
      → q ≡ (in_turn m.0 (entries t.state) (faults t.state), out after)
  ready m n p q t after empty at-p at-q =
      let Back : Seat → Seat = λ (z : Seat). (z.0, (0, Some after) ∷ rest z.1) in
      let v : View E F = in_turn m.0 (entries t.state) (faults t.state) in
      at-q ∙ (ap Back at-p ∙ (ap Back t.seat ∙ ap (λ (l : List (ℕ × Option S)). let r : Seat = (v, (0, Some after) ∷ l) in r) empty))

  -- the state that was taken out is the one that was lent
  pub same_lent : (m n : Seat) (t : Took entries faults fixed m n) (found : Option S) (before : S) → n.1 ≡ (0, found) ∷ rest n.1 → found ≡ Some before → before ≡ t.state
  same_lent m n t found before there is =
      let First : List (ℕ × Option S) → Option S = λ (l : List (ℕ × Option S)). (get_or l 0 (0, found)).1 in
      let x : found ≡ Some t.state = ap First (sym there ∙ ap (λ (z : Seat). z.1) t.seat) in cc

  pub tells_at : (slots id : ℕ) (v : View E F) (q : Seat) (state : S) (n : ℕ) → q ≡ (v, out state) → 0 < v.part → v.turn ≡ true → Begins v.seen (entries state) → n ≡ length (entries state)
      → Allows Rule slots id q 0 (λ _. n) (λ _. tells entries faults fixed (step slots 0 n 0 none) q n)
  tells_at slots id v q state n is some-part mine grown n-is =
      subst (λ (z : Seat). Allows Rule slots id z 0 (λ _. n) (λ _. tells entries faults fixed (step slots 0 n 0 none) z n)) (sym is) (tells_it slots id v state n some-part mine grown n-is)

  pub gives_at : (slots id new : ℕ) (v : View E F) (q : Seat) (state : S) → new ≡ 0 → q ≡ (v, out state) → 0 < v.part → v.turn ≡ true → entries state ≡ v.seen → v.fixed ≡ Some (fixed state)
      → Allows Rule slots id q 1 (λ _. new) (λ _. gives_turn (step slots 1 new 0 none) q new)
  gives_at slots id new v q state free is some-part mine log-is fixed-is =
      subst (λ (k : ℕ). Allows Rule slots id q 1 (λ _. k) (λ _. gives_turn (step slots 1 k 0 none) q k)) (sym free)
      (subst (λ (z : Seat). Allows Rule slots id z 1 (λ _. 0) (λ _. gives_turn (step slots 1 0 0 none) z 0)) (sym is) (gives_it slots id v state some-part mine log-is fixed-is))

  pub told_out : (v : View E F) (q r : Seat) (after : S) → q ≡ (v, out after) → r ≡ (told q.0 (entries after) (faults after), q.1) → r ≡ (told v (entries after) (faults after), out after)
  told_out v q r after at-q at-r = at-r ∙ ap (λ (z : Seat). let w : Seat = (told z.0 (entries after) (faults after), z.1) in w) at-q

  -- a seat is cut in two
  splits : (id : ℕ) (v : View E F) → Splits Rule id v (first_half v) (second_half v)
  splits id v s k me =
      let left : View E F = first_half v in
      let right : View E F = second_half v in
      let f = k.each id v me in
      let vs : List (View E F) = set s.views id left in
      let d : ℕ = k.depth in
      let e : d + 1 ≡ suc d = omega arith in
      let power : 2 ^ (d + 1) ≡ 2 * 2 ^ d = ap (λ (n : ℕ). 2 ^ n) e ∙ pow-succ' 2 d in
      let own = λ (z : View E F) (x : ℕ). times x z.own in
      record {
        log = k.log;
        depth = d + 1;
        holder = k.holder;
        wide = k.wide;
        one_slot = k.one_slot;
        count = k.count;
        base_is = k.base_is;
        turn = k.turn;
        taken = λ is. let h = still_held s.views id v left k.holder me refl (k.taken is) in (h.0, at_longer vs (right ∷ []) k.holder h.0 h.1, h.2);
        home = k.home;
        each = λ j u at. ⊎_elim
            (λ (old : get_elem? vs j ≡ some u). ⊎_elim
            (λ (t : (j ≡ id) × (left ≡ u)). subst (λ (z : View E F). Fits base made k.log (d + 1) (get_or s.words 1 0) k.holder j z) t.1
            (subst (λ (i : ℕ). Fits base made k.log (d + 1) (get_or s.words 1 0) k.holder i left) (sym t.0)
            record { seen = f.seen; olds = f.olds; floor = f.floor; made_at = f.made_at; spent = f.spent; halvings = omega (arith, f.halvings); rising = f.rising; in_turn = f.in_turn }))
            (λ (t : (j ≢ id) × (get_elem? s.views j ≡ some u)). let g = k.each j u t.1 in
            record { seen = g.seen; olds = g.olds; floor = g.floor; made_at = g.made_at; spent = g.spent; halvings = omega (arith, g.halvings); rising = g.rising; in_turn = g.in_turn })
            (at_set s.views id j left u old))
            (λ (new : right ≡ u). subst (λ (z : View E F). Fits base made k.log (d + 1) (get_or s.words 1 0) k.holder j z) new
            record { seen = f.seen; olds = λ i old at'. absurd (some-ne-none old (sym at')); floor = f.floor; made_at = f.made_at; spent = λ _. (refl, refl); halvings = omega (arith, f.halvings); rising = tt; in_turn = λ is. absurd cc })
            (at_snoc vs right u j at);
        once = λ x. omega (arith, total-append (λ (z : View E F). times x z.own) vs (right ∷ []), total-set (λ (z : View E F). times x z.own) s.views id v left me, k.once x);
        whole = omega (
          arith,
          total-append (weight (d + 1)) vs (right ∷ []),
          total-set (weight (d + 1)) s.views id v left me,
          total-double (weight d) (weight (d + 1)) s.views (λ i u at. weight-double d u (k.each i u at).halvings),
          weight-first d v,
          weight-second d v,
          weight-double d v f.halvings,
          k.whole,
          power,
        );
      }

  pub splits_at : (id : ℕ) (v left right : View E F) → left ≡ first_half v → right ≡ second_half v → Splits Rule id v left right
  splits_at id v left right first second =
      subst (λ (a : View E F). Splits Rule id v a right) (sym first) (subst (λ (b : View E F). Splits Rule id v (first_half v) b) (sym second) (splits id v))

  two_olds : (a b : List E) (i : ℕ) (old : List E) → get_elem? (a ∷ b ∷ []) i ≡ some old → (a ≡ old) ⊎ (b ≡ old)
  two_olds a b zero old e = inl (some-injective a old e)
  two_olds a b (suc zero) old e = inr (some-injective b old e)
  two_olds a b (suc (suc i)) old e = absurd (some-ne-none old (sym e))

  -- two seats are made one
  joins : (id other : ℕ) (v w : View E F) → v.turn ≡ false → w.turn ≡ false → 0 < v.part → Joins Rule id v other w (joined v w) spent
  joins id other v w idle idle' some-part s k me apart them =
      let both : View E F = joined v w in
      let vs : List (View E F) = set s.views id both in
      let there' : get_elem? s.views other ≡ some w = sym (set_else s.views id other both apart) ∙ them in
      let f = k.each id v me in
      let g = k.each other w there' in
      let Suits : ℕ → View E F → Type 0 = λ (j : ℕ) (z : View E F). Fits base made k.log k.depth (get_or s.words 1 0) k.holder j z in
      let long = longer-length v.seen w.seen in
      record {
        log = k.log;
        depth = k.depth;
        holder = k.holder;
        wide = k.wide;
        one_slot = k.one_slot;
        count = k.count;
        base_is = k.base_is;
        turn = k.turn;
        taken = λ is. let h = still_held s.views id v both k.holder me refl (k.taken is) in
            dite (ℕ_discrete k.holder other)
            (λ e. let same : w ≡ h.0 = some-injective w h.0 (sym them ∙ subst (λ (i : ℕ). get_elem? vs i ≡ some h.0) e h.1) in
            let on : w.turn ≡ true = ap (λ (z : View E F). z.turn) same ∙ h.2 in absurd (cc (on, idle')))
            (λ ne. (h.0, set_else vs other k.holder spent ne ∙ h.1, h.2));
        home = k.home;
        each = λ j u at. ⊎_elim
            (λ (t : (j ≡ other) × (spent ≡ u)). subst (Suits j) t.1
            record { seen = Begins-nil k.log; olds = λ i old at'. absurd (some-ne-none old (sym at')); floor = omega arith; made_at = λ p. absurd (omega (arith, p)); spent = λ _. (refl, refl); halvings = omega arith; rising = tt; in_turn = λ is. absurd cc })
            (λ (t : (j ≢ other) × (get_elem? vs j ≡ some u)). ⊎_elim
            (λ (q : (j ≡ id) × (both ≡ u)). subst (Suits j) q.1
            record {
              seen = longer-is (λ (l : List E). Begins l k.log) v.seen w.seen f.seen g.seen;
              olds = λ i old at'. ⊎_elim
                  (λ (a : v.seen ≡ old). subst (IsOld k.log both.seen) a record { begins = f.seen; short = long.0 })
                  (λ (b : w.seen ≡ old). subst (IsOld k.log both.seen) b record { begins = g.seen; short = long.1 })
                  (two_olds v.seen w.seen i old at');
              floor = omega (arith, f.floor, g.floor);
              made_at = λ _. f.made_at some-part;
              spent = λ e. absurd (omega (arith, e, share-positive v w some-part));
              halvings = omega (arith, f.halvings, g.halvings);
              rising = rising-merged v.own w.own f.rising g.rising (λ x. omega (arith, terms_le (λ (z : View E F). times x z.own) s.views id other v w apart me there', k.once x, above-most base x));
              in_turn = λ is. absurd (cc (is, idle));
            })
            (λ (q : (j ≢ id) × (get_elem? s.views j ≡ some u)). k.each j u q.1)
            (at_set s.views id j both u t.1))
            (at_set vs other j spent u at);
        once = λ x. omega (arith, total-set (λ (z : View E F). times x z.own) s.views id v both me, total-set (λ (z : View E F). times x z.own) vs other w spent them, times-merged x v.own w.own, k.once x);
        whole = omega (arith, total-set (weight k.depth) s.views id v both me, total-set (weight k.depth) vs other w spent them, weight-joined k.depth v w f.halvings g.halvings, k.whole);
      }

  pub joins_at : (id other : ℕ) (v w both : View E F) → both ≡ joined v w → v.turn ≡ false → w.turn ≡ false → 0 < v.part → Joins Rule id v other w both spent
  joins_at id other v w both is idle idle' some-part = subst (λ (z : View E F). Joins Rule id v other w z spent) (sym is) (joins id other v w idle idle' some-part)

  -- what the seats had seen begins the log that they have seen together
  pub settles_it : (slots id : ℕ) (v : View E F) → Allows Rule slots id (v, []) 0 (λ n. n) (λ n. settles (step slots 0 0 0 none) (v, []) n)
  settles_it slots id v s k long me small =
      let f = k.each id v me in
      let w : View E F = settled v in (
        w,
        keeps,
        tt,
        subst (λ (ws : List ℕ). Rule (board ws s.homes (set s.views id w))) (sym (same_words s.words 0))
            (moves s k s.words s.homes id v w k.log k.holder me k.wide k.one_slot k.count (Begins-self k.log) k.turn
            (λ e. still_held s.views id v w k.holder me refl (k.taken e))
            k.home
            record { seen = f.seen; olds = λ i old at. absurd (some-ne-none old (sym at)); floor = f.floor; made_at = f.made_at; spent = f.spent; halvings = f.halvings; rising = f.rising; in_turn = f.in_turn }
            (λ j u ne g. g.in_turn) (λ x. refl) refl),
        (refl, (λ i old at. let o = f.olds i old at in Begins-shorter o.begins f.seen o.short), f.rising),
      )

  pub settles_at : (slots id : ℕ) (m : Seat) → m.1 ≡ [] → Allows Rule slots id m 0 (λ n. n) (λ n. settles (step slots 0 0 0 none) m n)
  settles_at slots id m empty =
      subst (λ (l : List (ℕ × Option S)). Allows Rule slots id (m.0, l) 0 (λ n. n) (λ n. settles (step slots 0 0 0 none) (m.0, l) n)) (sym empty) (settles_it slots id m.0)

  -- what was seen before two seats were made one begins what is seen then
  pub joined_seen : (v w : View E F) (m n : Seat) (l : List (ℕ × Option S)) → m ≡ (joined v w, l) → settles (step 1 0 0 0 none) m 0 n → Begins v.seen n.0.seen × Begins w.seen n.0.seen
  joined_seen v w m n l is done =
      let Kept-olds : Seat → Type 0 = λ (z : Seat). (k : ℕ) (old : List E) → get_elem? z.0.olds k ≡ some old → Begins old z.0.seen in
      let all : Kept-olds (joined v w, l) = subst Kept-olds is done.1 in
      let same : n.0.seen ≡ longer v.seen w.seen = ap (λ (z : Seat). z.0.seen) done.0 ∙ ap (λ (z : Seat). z.0.seen) is in
      (subst (Begins v.seen) (sym same) (all 0 v.seen refl), subst (Begins w.seen) (sym same) (all 1 w.seen refl))
