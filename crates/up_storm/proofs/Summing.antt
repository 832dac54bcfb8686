-- What a storm prints begins with the summary of its words.
use Rattle.std.proofs.Common.{◌≡◌, ◌≢◌, ℕ, zero, suc, ◌+◌, ◌%◌, ◌<◌, Bool, true, not, List, [], ◌∷◌, ◌++◌, length, refl, ap, ◌∙◌, inl, inr, arith, Option, Some, slice_get, map}
use Rattle.std.specs.Prelude.{codes, if◌then◌else◌, ◌==◌}
use Rattle.up_command.specs.Statuses.{is_cut_short}
use Rattle.up_disk.specs.declared.disk.Disk as disk
use Rattle.up_log_tree.specs.Trees.{tree_of}
use Rattle.up_names.specs.Texts.{Text}
use Rattle.up_peer.specs.declared.loader.Loader.{Ghosts}
use Rattle.up_storm.proofs.Counts.{added_test}
use Rattle.up_storm.proofs.Ending.{few_requests, few_sessions}
use Rattle.up_storm.proofs.Joins.{AtBoth}
use Rattle.up_storm.proofs.StormLemmas.{both_trees, seated_owners}
use Rattle.up_storm.proofs.Totals.{IsPreparedTree, IsSummed, in_tree, same_or_apart, summed, tally_here}
use Rattle.up_storm.specs.Plans.{is_within}
use Rattle.up_storm.specs.Sessions.{Session, said_of}
use Rattle.up_storm.specs.Storms.{IsStorm, Means}
use Rattle.up_storm.specs.Summary.{BeginsWithSummary, TellsSummary, course_of, is_in_first, records_in, rows_in, summary_of_words, tallies}
use Rattle.up_storm.specs.Telling.{all_counted, both_counted, full_text, heading, numbers_line, summary_text, tally_line}
use Rattle.up_storm.specs.declared.plan.Plan.{Plan}
use Rattle.up_storm.specs.declared.tally.Tally.{Tally}

-- what all sessions counted is what their courses count
counted_all : {D L : Type 0} (plan : Plan) (ws : List (Session D L)) (k : ℕ) → ((i : ℕ) (w : Session D L) → slice_get ws i ≡ Some w → w.tally ≡ (course_of plan (k + i)).tally)
    → all_counted (map (λ (w : Session D L). said_of w) ws) ≡ tallies plan k (length ws)
counted_all plan [] k each = refl
counted_all {D} {L} plan (w ∷ ws) k each =
    let e : k + 0 ≡ k = omega arith in
    let here : w.tally ≡ (course_of plan k).tally = each 0 w refl ∙ ap (λ (n : ℕ). (course_of plan n).tally) e in
    let rest = counted_all plan ws (k + 1) (λ i v there. let next : k + suc i ≡ k + 1 + i = omega arith in each (suc i) v there ∙ ap (λ (n : ℕ). (course_of plan n).tally) next) in
    ap (λ (t : Tally). both_counted t (all_counted (map (λ (v : Session D L). said_of v) ws))) here ∙ ap (λ (t : Tally). both_counted (course_of plan k).tally t) rest

-- the sessions of the second tree are those that are not of the first
not_first : (k : ℕ) → in_tree 1 k ≡ not (is_in_first k)
not_first k = go (k % 2) (omega arith)
  where
    go : (r : ℕ) → r < 2 → (r == 1) ≡ not (r == 0)
    go zero low = refl
    go (suc zero) low = refl
    go (suc (suc r)) low = absurd (omega (arith, low))

module _ {D L : Type 0} (disks : disk.Ghosts D) (loader : Ghosts L) (none : L) (plan : Plan) (within : is_within plan ≡ true) (text : Text)
    (storm : IsStorm disks loader none plan text) (ready : (c : ℕ) → c < 2 → IsPreparedTree disks plan.sessions c storm.host) where
  at_first : AtBoth storm.seats
  at_first = record {
    owners = seated_owners storm.shared.trees.items storm.seats.trees.items storm.is_shared.sits.trees
        ∙ both_trees disks loader none plan.sessions storm.host storm.shared storm.seats storm.prepared storm.is_shared;
  }

  at_last : AtBoth storm.all
  at_last = record { owners = storm.told.owners }

  first : IsSummed plan 0 storm.told.first
  first =
      summed disks loader none plan (few_sessions plan within) (few_requests plan within) storm.host storm.shared storm.seats storm.all storm.is_shared at_first at_last storm.said storm.ended storm.whole
      0 (omega arith) (ready 0 (omega arith)) storm.told.first storm.told.reads_first

  second : IsSummed plan 1 storm.told.second
  second =
      summed disks loader none plan (few_sessions plan within) (few_requests plan within) storm.host storm.shared storm.seats storm.all storm.is_shared at_first at_last storm.said storm.ended storm.whole
      1 (omega arith) (ready 1 (omega arith)) storm.told.second storm.told.reads_second

  tally_of : (k : ℕ) (w : Session D L) → slice_get storm.ended.ended k ≡ Some w → w.tally ≡ (course_of plan k).tally
  tally_of k w there = elim (same_or_apart (k % 2) 0) [
    | inl even ↦
        tally_here disks loader none plan (few_sessions plan within) (few_requests plan within) storm.host storm.shared storm.seats storm.all storm.is_shared at_first at_last storm.said storm.ended storm.whole
        0 (omega arith) (ready 0 (omega arith)) storm.told.first storm.told.reads_first k w there (omega (arith, even))
    | inr odd ↦
        tally_here disks loader none plan (few_sessions plan within) (few_requests plan within) storm.host storm.shared storm.seats storm.all storm.is_shared at_first at_last storm.said storm.ended storm.whole
        1 (omega arith) (ready 1 (omega arith)) storm.told.second storm.told.reads_second k w there (is_odd k odd)
  ]
    where
      is_odd : (k : ℕ) → k % 2 ≢ 0 → k % 2 ≡ 1 % 2
      is_odd k odd = go (k % 2) (omega arith) odd
        where
          go : (r : ℕ) → r < 2 → r ≢ 0 → r ≡ 1 % 2
          go zero low other = absurd (other refl)
          go (suc r) low other = omega (arith, low)

  tallies_are : all_counted storm.said ≡ tallies plan 0 plan.sessions
  tallies_are =
      ap all_counted storm.ended.said_is
      ∙ counted_all plan storm.ended.ended 0 (λ i w there. let e : i ≡ 0 + i = omega arith in tally_of i w there ∙ ap (λ (n : ℕ). (course_of plan n).tally) e)
      ∙ ap (λ (n : ℕ). tallies plan 0 n) storm.ended.all_ended

  first_records : length storm.told.first ≡ records_in plan is_in_first
  first_records =
      first.records ∙ ap (λ (n : ℕ). 1 + n) (added_test (in_tree 0) is_in_first (λ k. 2 + (course_of plan k).records) 0 plan.sessions (λ k. refl))

  first_rows : length (tree_of storm.told.first) ≡ rows_in plan is_in_first
  first_rows =
      first.rows ∙ ap (λ (n : ℕ). 1 + n) (added_test (in_tree 0) is_in_first (λ k. 2 + length (course_of plan k).files) 0 plan.sessions (λ k. refl))

  second_records : length storm.told.second ≡ records_in plan (λ k. not (is_in_first k))
  second_records =
      second.records ∙ ap (λ (n : ℕ). 1 + n) (added_test (in_tree 1) (λ k. not (is_in_first k)) (λ k. 2 + (course_of plan k).records) 0 plan.sessions not_first)

  second_rows : length (tree_of storm.told.second) ≡ rows_in plan (λ k. not (is_in_first k))
  second_rows =
      second.rows ∙ ap (λ (n : ℕ). 1 + n) (added_test (in_tree 1) (λ k. not (is_in_first k)) (λ k. 2 + length (course_of plan k).files) 0 plan.sessions not_first)

  -- one text, from its five numbers and counts
  abbrev summary_by : ℕ → ℕ → ℕ → ℕ → Tally → Text
  summary_by a b c d t = heading plan ++ ((numbers_line (codes "a@storm.example") a b ++ numbers_line (codes "b@storm.example") c d) ++ tally_line t)

  summary_is : summary_text plan storm.told.first storm.told.second (all_counted storm.said) ≡ summary_of_words plan
  summary_is =
      ap (λ (n : ℕ). summary_by n (length (tree_of storm.told.first)) (length storm.told.second) (length (tree_of storm.told.second)) (all_counted storm.said)) first_records
      ∙ ap (λ (n : ℕ). summary_by (records_in plan is_in_first) n (length storm.told.second) (length (tree_of storm.told.second)) (all_counted storm.said)) first_rows
      ∙ ap (λ (n : ℕ). summary_by (records_in plan is_in_first) (rows_in plan is_in_first) n (length (tree_of storm.told.second)) (all_counted storm.said)) second_records
      ∙ ap (λ (n : ℕ). summary_by (records_in plan is_in_first) (rows_in plan is_in_first) (records_in plan (λ k. not (is_in_first k))) n (all_counted storm.said)) second_rows
      ∙ ap (λ (t : Tally). summary_by (records_in plan is_in_first) (rows_in plan is_in_first) (records_in plan (λ k. not (is_in_first k))) (rows_in plan (λ k. not (is_in_first k))) t) tallies_are

  -- The text of a storm begins with the summary of its words.
  pub summary_of_storm : BeginsWithSummary plan text
  summary_of_storm = record {
    rest = if plan.full then full_text storm.told.first storm.told.second storm.said else [];
    whole = storm.told.text_is ∙ ap (λ (s : Text). s ++ (if plan.full then full_text storm.told.first storm.told.second storm.said else [])) summary_is;
    alone = λ off. ap (λ (b : Bool). if b then full_text storm.told.first storm.told.second storm.said else []) off;
  }

-- What was written begins with it, where the command answered 0.
pub tells_summary : {D L : Type 0} (disks : disk.Ghosts D) (loader : Ghosts L) (none : L) (plan : Plan) (old new : Option Text) (status : ℕ) → is_within plan ≡ true
    → (means : Means disks loader none plan old new status) → ((c : ℕ) → c < 2 → IsPreparedTree disks plan.sessions c means.storm.host) → status ≡ 0 → TellsSummary plan old new
tells_summary disks loader none plan old new status within means ready done = record {
  text = means.text;
  summed = summary_of_storm disks loader none plan within means.text means.storm ready;
  written = (means.answers.whole (ap is_cut_short done)).0;
}
