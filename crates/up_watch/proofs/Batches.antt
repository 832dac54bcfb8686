-- Events that are gathered from positions, one after the other, up to the 256th.
use Rattle.std.proofs.Common.{◌≡◌, ℕ, suc, Bool, true, false, ◌+◌, ◌≤◌, List, [], ◌∷◌, ◌++◌, length, take, drop, refl, sym, ap, subst, ◌∙◌, Option, Some, None}
use Rattle.std.specs.Prelude.{if◌then◌else◌, IsSome, nat_lt, slice_get, unwrap_or}
use Rattle.std.specs.List.{cons_option, filter_map}
use Rattle.std.specs.Option.{option_map, option_to_list}
use Rattle.std.proofs.lemmas.Bool.{false≢true}
use Rattle.std.proofs.lemmas.List.{take_all}
use Rattle.std.proofs.lemmas.List.Elements.{filter_map-append}
use Rattle.up_wire.specs.declared.replies.WatchEvent.{WatchEvent}
use Rattle.up_wire.specs.declared.replies.Reply.TheVariants.{Ok}
use Rattle.up_wire.specs.declared.replies.Done.TheVariants.{Events}
use Rattle.up_answers.specs.Watches.{batch, position_at}
use Rattle.up_watch.specs.Batches.{Takes}
use Rattle.up_watch.proofs.Cut.{cut_all, cut_full, made_next, parts_at}

made_one : (o : Option WatchEvent) → cons_option o [] ≡ option_to_list o
made_one None = refl
made_one (Some event) = refl

-- the reply of the first 256, where there is one more
batch_full : (records : ℕ) (found rest : List WatchEvent) (event : WatchEvent) → length found ≡ 256 → Ok (Events found (unwrap_or (position_at found 255) records)) ≡ batch records (found ++ event ∷ rest)
unfolding batch
batch_full records found rest event size =
    let full = cut_full found rest event size in
    sym (ap (λ es. Ok (Events es (if nat_lt 256 (length (found ++ event ∷ rest)) then unwrap_or (position_at (found ++ event ∷ rest) 255) records else records))) full.0
    ∙ (ap (λ b. Ok (Events found (if b then unwrap_or (position_at (found ++ event ∷ rest) 255) records else records))) full.1
    ∙ ap (λ o. Ok (Events found (unwrap_or (option_map (λ (e : WatchEvent). e.position) o) records))) full.2))

batch_all : (records : ℕ) (found : List WatchEvent) → length found ≤ 256 → Ok (Events found records) ≡ batch records found
unfolding batch
batch_all records found size =
    let all = cut_all found size in
    sym (ap (λ es. Ok (Events es (if nat_lt 256 (length found) then unwrap_or (position_at found 255) records else records))) all.0
    ∙ ap (λ b. Ok (Events found (if b then unwrap_or (position_at found 255) records else records))) all.1)

-- what is gathered of the first positions
pub record Gathers (told : ℕ → Option WatchEvent) (positions : List ℕ) (i : ℕ) (found : List WatchEvent) : Type 0 where
  pub all : found ≡ filter_map told (take i positions)
  pub few : length found ≤ 256

module _ (told : ℕ → Option WatchEvent) (positions : List ℕ) (i : ℕ) (found : List WatchEvent) where
  -- one position more
  pub gathers_next : (n : ℕ) (event : Option WatchEvent) (now : List WatchEvent) → slice_get positions i ≡ Some n → event ≡ told n → Gathers told positions i found → (now ≡ found ++ option_to_list event) × (length now ≤ 256) → Gathers told positions (i + 1) now
  gathers_next n event now at is so_far took = record {
    all = took.0 ∙ (ap (λ l. l ++ option_to_list event) so_far.all ∙ (ap (λ o. filter_map told (take i positions) ++ option_to_list o) is ∙ (ap (λ l. filter_map told (take i positions) ++ l) (sym (made_one (told n))) ∙ sym (made_next told i positions n at))));
    few = took.1;
  }

  -- a 257th
  pub gathers_more : (records n : ℕ) (event : Option WatchEvent) → slice_get positions i ≡ Some n → event ≡ told n → Gathers told positions i found → length found ≡ 256 → IsSome event →
      Ok (Events found (unwrap_or (position_at found 255) records)) ≡ batch records (filter_map told positions)
  gathers_more records n event at is so_far size some = go (told n) refl
    where
      rest : List WatchEvent
      rest = filter_map told (drop (suc i) positions)

      whole : (o : Option WatchEvent) → told n ≡ o → filter_map told positions ≡ found ++ cons_option o rest
      whole o e =
          ap (filter_map told) (parts_at i positions n at)
          ∙ (filter_map-append told (take i positions) (n ∷ drop (suc i) positions)
          ∙ (ap (λ l. l ++ cons_option (told n) rest) (sym so_far.all)
          ∙ ap (λ o. found ++ cons_option o rest) e))

      go : (o : Option WatchEvent) → told n ≡ o → Ok (Events found (unwrap_or (position_at found 255) records)) ≡ batch records (filter_map told positions)
      go None none = absurd (some_not (is ∙ none))
        where
          some_not : event ≡ None → ⊥
          some_not e = false≢true (subst IsSome e some)
      go (Some x) e = batch_full records found rest x size ∙ ap (batch records) (sym (whole (Some x) e))

  -- no more positions
  pub gathers_all : (records : ℕ) → length positions ≤ i → Gathers told positions i found → Ok (Events found records) ≡ batch records (filter_map told positions)
  gathers_all records end so_far = batch_all records found so_far.few ∙ ap (batch records) (so_far.all ∙ ap (filter_map told) (take_all i positions end))

-- what became of an event
pub taken_in : (old now : List WatchEvent) (event : Option WatchEvent) (b : Bool) → b ≡ true → Takes old now event b → (now ≡ old ++ option_to_list event) × (length now ≤ 256)
taken_in old now event true is takes = takes
taken_in old now event false is takes = absurd (false≢true is)

pub left_out : (old now : List WatchEvent) (event : Option WatchEvent) (b : Bool) → b ≡ false → Takes old now event b → (now ≡ old) × (length old ≡ 256) × IsSome event
left_out old now event true is takes = absurd (false≢true (sym is))
left_out old now event false is takes = takes
