-- The records that are kept, and the numbers of the blocks that are held: how they go on as the log does.
use Rattle.std.proofs.Common.{◌≡◌, ◌&&◌, ℕ, Bool, true, false, not, cond, leb, eqb, List, [], ◌∷◌, ◌++◌, length, map, Option, Some, None, is_some, option_map, refl, sym, ap, ◌∙◌, subst, arith}
use Rattle.std.proofs.lemmas.Bool.{eqb-true}
use Rattle.std.proofs.lemmas.List.{length-map, map-append}
use Rattle.std.proofs.lemmas.List.Sums.{fold-append}
use Rattle.std.specs.FinMap.Entries.{find}
use Rattle.std.specs.Ordering.{eq_by_cmp}
use Rattle.up_blocks.specs.Kept.{IsIndex, IsTaken, block_of, fits_by, kept_of, numbered, record_of, record_or, size_kept, size_put, spelling, untold}
use Rattle.up_blocks.specs.Records.{after_record, blocks_of, decoded, fits, held_sizes, holds, largest_block, put_record, reference_cmp, size_of, sized_after}
use Rattle.up_blocks.specs.declared.record.BlockRecord.{BlockRecord}
use Rattle.up_blocks.specs.declared.record.BlockRecord.TheVariants.{Put, Delete}
use Rattle.up_blocks.specs.declared.record.Kept.{Kept}
use Rattle.up_blocks.specs.declared.record.Kept.TheVariants as kept
use Rattle.up_journal.specs.Logs.{log_step}
use Rattle.up_journal.proofs.Logs.{added, not_decoded, not_fitted}
use Rattle.up_maps.specs.Numbers.{AreNumbers, given_by}
use Rattle.up_refs.specs.Sha256.{sha256}
use Rattle.up_maps.proofs.Numbered.{numbers_found, numbers_longer, numbers_put, numbers_without}

-- ---- a record without its bytes

pub kept_untold : (change : Kept) → kept_of (untold change) ≡ change
kept_untold (kept.Put reference size) = refl
kept_untold (kept.Delete reference) = refl

pub fits_untold : (log : List BlockRecord) (rec : BlockRecord) → fits log (untold (kept_of rec)) ≡ fits log rec
fits_untold log (Put reference size bytes) = refl
fits_untold log (Delete reference) = refl

pub size_untold : (rec : BlockRecord) → size_kept (kept_of rec) ≡ size_of rec
size_untold (Put reference size bytes) = refl
size_untold (Delete reference) = refl

-- ---- payloads

-- what a payload is
pub record IsPayloadOf (payload : List ℕ) (rec : BlockRecord) : Type 0 where
  pub spelled : payload ≡ spelling rec
  pub size : size_of rec ≡ length payload

pub payload_at : (payload : List ℕ) (rec : BlockRecord) → decoded payload ≡ Some rec → IsPayloadOf payload rec
unfolding decoded
payload_at [] rec is = absurd (cc)
payload_at (tag ∷ bytes) rec is = by_put (eqb tag 1) refl is
  where
    by_delete : (b : Bool) → (eqb tag 2 && eqb (length bytes) 32) ≡ b → cond b (Some (Delete bytes)) None ≡ Some rec → IsPayloadOf (tag ∷ bytes) rec
    by_delete false test is = absurd (cc)
    by_delete true test is = (
        let same : Delete bytes ≡ rec = cc in
        let parts = both (eqb tag 2) (eqb (length bytes) 32) test in
        let two = eqb-true tag 2 parts.0 in
        let long = eqb-true (length bytes) 32 parts.1 in
        subst (λ r. IsPayloadOf (tag ∷ bytes) r) same (record { spelled = ap (λ t. t ∷ bytes) two; size = omega (arith, long) })
        )
      where
        both : (a b : Bool) → (a && b) ≡ true → (a ≡ true) × (b ≡ true)
        both true b h = (refl, h)
        both false b h = absurd (cc)

    by_put : (b : Bool) → eqb tag 1 ≡ b → cond b (Some (put_record true bytes)) (cond (eqb tag 2 && eqb (length bytes) 32) (Some (Delete bytes)) None) ≡ Some rec → IsPayloadOf (tag ∷ bytes) rec
    by_put false test is = by_delete (eqb tag 2 && eqb (length bytes) 32) refl is
    by_put true test is =
        let same : put_record true bytes ≡ rec = cc in
        let one = eqb-true tag 1 test in
        subst (λ r. IsPayloadOf (tag ∷ bytes) r) same (record { spelled = ap (λ t. t ∷ bytes) one; size = omega arith })

-- a payload of which this is kept
pub record Reads (payload : List ℕ) (change : Kept) : Type 0 where
  pub decodes : decoded payload ≡ Some (record_of payload)
  pub keeps : kept_of (record_of payload) ≡ change
  pub spelled : payload ≡ spelling (record_of payload)
  pub size : size_of (record_of payload) ≡ length payload

pub reads : (payload : List ℕ) (change : Kept) → option_map kept_of (decoded payload) ≡ Some change → Reads payload change
reads payload change is = by_found (decoded payload) refl is
  where
    by_found : (found : Option BlockRecord) → decoded payload ≡ found → option_map kept_of found ≡ Some change → Reads payload change
    by_found None found is = absurd (cc)
    by_found (Some rec) found is =
        let same : record_of payload ≡ rec = ap record_or found in
        let keeps : kept_of rec ≡ change = cc in
        let p = payload_at payload rec found in
        record {
          decodes = found ∙ ap Some (sym same);
          keeps = ap kept_of same ∙ keeps;
          spelled = p.spelled ∙ ap spelling (sym same);
          size = ap size_of same ∙ p.size;
        }

pub not_read : (payload : List ℕ) → option_map kept_of (decoded payload) ≡ None → decoded payload ≡ None
not_read payload is = by_found (decoded payload) is
  where
    by_found : (found : Option BlockRecord) → option_map kept_of found ≡ None → found ≡ None
    by_found None is = refl
    by_found (Some rec) is = absurd (cc)

-- the payloads that the store writes
pub put_read : (bytes : List ℕ) → option_map kept_of (decoded (1 ∷ bytes)) ≡ Some (kept.Put (sha256 bytes) (length bytes))
unfolding decoded
put_read bytes = refl

pub delete_read : (reference : List ℕ) → length reference ≡ 32 → option_map kept_of (decoded (2 ∷ reference)) ≡ Some (kept.Delete reference)
unfolding decoded
delete_read reference long = ap (λ (n : ℕ). option_map kept_of (cond (eqb n 32) (Some (Delete reference)) None)) long

pub put_is : (bytes : List ℕ) → record_of (1 ∷ bytes) ≡ put_record true bytes
unfolding decoded
put_is bytes = refl

pub delete_is : (reference : List ℕ) → length reference ≡ 32 → record_of (2 ∷ reference) ≡ Delete reference
unfolding decoded
delete_is reference long = ap (λ (n : ℕ). record_or (cond (eqb n 32) (Some (Delete reference)) None)) long

-- ---- the index

blocks_more : (log : List BlockRecord) (rec : BlockRecord) → blocks_of (log ++ rec ∷ []) ≡ after_record (blocks_of log) rec
blocks_more log rec = fold-append after_record [] log (rec ∷ [])

held_sizes_more : (log : List BlockRecord) (rec : BlockRecord) → held_sizes (log ++ rec ∷ []) ≡ sized_after (held_sizes log) rec
held_sizes_more log rec = fold-append sized_after [] log (rec ∷ [])

pub index_length : (log : List BlockRecord) (records : List Kept) (numbers : List (List ℕ × ℕ)) → IsIndex log records numbers → length log ≡ length records
index_length log records numbers is = sym (length-map log kept_of) ∙ ap length is.same

pub index_more : (log : List BlockRecord) (rec : BlockRecord) (records : List Kept) (numbers : List (List ℕ × ℕ)) → IsIndex log records numbers
    → IsIndex (log ++ rec ∷ []) (records ++ kept_of rec ∷ []) (numbered (length records) (kept_of rec) numbers)
index_more log rec records numbers is = record {
  same = map-append kept_of log (rec ∷ []) ∙ ap (λ ks. ks ++ kept_of rec ∷ []) is.same;
  held = subst (λ n. AreNumbers block_of (log ++ rec ∷ []) (numbered n (kept_of rec) numbers) (blocks_of (log ++ rec ∷ []))) (index_length log records numbers is)
      (subst (λ blocks. AreNumbers block_of (log ++ rec ∷ []) (numbered (length log) (kept_of rec) numbers) blocks) (sym (blocks_more log rec)) (by_record rec));
  sized = subst (λ n. AreNumbers size_put (log ++ rec ∷ []) (numbered n (kept_of rec) numbers) (held_sizes (log ++ rec ∷ []))) (index_length log records numbers is)
      (subst (λ sizes. AreNumbers size_put (log ++ rec ∷ []) (numbered (length log) (kept_of rec) numbers) sizes) (sym (held_sizes_more log rec)) (by_size rec));
}
  where
    by_size : (rec : BlockRecord) → AreNumbers size_put (log ++ rec ∷ []) (numbered (length log) (kept_of rec) numbers) (sized_after (held_sizes log) rec)
    by_size (Put reference size bytes) = numbers_put size_put reference_cmp log (Put reference size bytes) reference size numbers (held_sizes log) is.sized refl
    by_size (Delete reference) =
        numbers_without size_put reference_cmp (λ other. not (eq_by_cmp reference_cmp reference other)) (log ++ Delete reference ∷ []) numbers (held_sizes log)
        (numbers_longer size_put log (Delete reference ∷ []) numbers (held_sizes log) is.sized)

    by_record : (rec : BlockRecord) → AreNumbers block_of (log ++ rec ∷ []) (numbered (length log) (kept_of rec) numbers) (after_record (blocks_of log) rec)
    by_record (Put reference size bytes) = numbers_put block_of reference_cmp log (Put reference size bytes) reference bytes numbers (blocks_of log) is.held refl
    by_record (Delete reference) =
        numbers_without block_of reference_cmp (λ other. not (eq_by_cmp reference_cmp reference other)) (log ++ Delete reference ∷ []) numbers (blocks_of log)
        (numbers_longer block_of log (Delete reference ∷ []) numbers (blocks_of log) is.held)

pub index_holds : (log : List BlockRecord) (records : List Kept) (numbers : List (List ℕ × ℕ)) (reference : List ℕ) → IsIndex log records numbers
    → is_some (find reference_cmp reference numbers) ≡ holds log reference
index_holds log records numbers reference is =
    some_alike (find reference_cmp reference numbers) (find reference_cmp reference (blocks_of log)) (numbers_found block_of reference_cmp reference log numbers (blocks_of log) is.held)
  where
    some_alike : (n : Option ℕ) (b : Option (Option (List ℕ))) → option_map (given_by block_of log) n ≡ option_map Some b → is_some n ≡ is_some b
    some_alike None None h = refl
    some_alike (Some n) (Some b) h = refl
    some_alike None (Some b) h = absurd (cc)
    some_alike (Some n) None h = absurd (cc)

pub index_fits : (log : List BlockRecord) (records : List Kept) (numbers : List (List ℕ × ℕ)) (change : Kept) → IsIndex log records numbers → fits_by numbers change ≡ fits log (untold change)
index_fits log records numbers (kept.Put reference size) is = ap (λ b. leb size largest_block && not b) (index_holds log records numbers reference is)
index_fits log records numbers (kept.Delete reference) is = index_holds log records numbers reference is

-- ---- a payload that is taken

pub taken : (log : List BlockRecord) (payload : List ℕ) (change : Kept) (records : List Kept) (numbers : List (List ℕ × ℕ)) → option_map kept_of (decoded payload) ≡ Some change
    → fits log (untold change) ≡ true → IsIndex log records numbers
    → IsTaken log payload records (records ++ change ∷ []) (numbered (length records) change numbers)
taken log payload change records numbers is fitted index =
    let r = reads payload change is in
    let rec_fits : fits log (record_of payload) ≡ true = sym (fits_untold log (record_of payload)) ∙ ap (λ k. fits log (untold k)) r.keeps ∙ fitted in
    record {
      change = change;
      added = refl;
      fitted = fitted;
      step = added decoded fits log payload (record_of payload) r.decodes rec_fits;
      told = subst (λ k. IsIndex (log ++ record_of payload ∷ []) (records ++ k ∷ []) (numbered (length records) k numbers)) r.keeps (index_more log (record_of payload) records numbers index);
      silent = subst (λ k. IsIndex (log ++ untold change ∷ []) (records ++ k ∷ []) (numbered (length records) k numbers)) (kept_untold change) (index_more log (untold change) records numbers index);
    }

pub not_taken : (log : List BlockRecord) (payload : List ℕ) (change : Kept) → option_map kept_of (decoded payload) ≡ Some change → fits log (untold change) ≡ false → log_step decoded fits log payload ≡ None
not_taken log payload change is unfit =
    let r = reads payload change is in
    not_fitted decoded fits log payload (record_of payload) r.decodes (sym (fits_untold log (record_of payload)) ∙ ap (λ k. fits log (untold k)) r.keeps ∙ unfit)

pub none_taken : (log : List BlockRecord) (payload : List ℕ) → option_map kept_of (decoded payload) ≡ None → log_step decoded fits log payload ≡ None
none_taken log payload is = not_decoded decoded fits log payload (not_read payload is)

pub sizes_more : (records : List Kept) (payload : List ℕ) (change : Kept) → option_map kept_of (decoded payload) ≡ Some change → map size_kept (records ++ change ∷ []) ≡ map size_kept records ++ length payload ∷ []
sizes_more records payload change is =
    let r = reads payload change is in
    map-append size_kept records (change ∷ []) ∙ ap (λ n. map size_kept records ++ n ∷ []) (ap size_kept (sym r.keeps) ∙ size_untold (record_of payload) ∙ r.size)
