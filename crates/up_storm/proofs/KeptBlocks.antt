-- The log of the store while a storm is prepared: it keeps the texts of the sessions' Access files, and no other block.
use Rattle.std.proofs.Common.{◌≡◌, ℕ, ◌+◌, ◌*◌, ◌<◌, ◌≤◌, Bool, true, false, cond, ◌||◌, List, [], ◌∷◌, ◌++◌, length, refl, sym, ap, subst, ◌∙◌, ◌⊎◌, inl, inr, arith, fold, Option, Some, None, IfSome, is_some}
use Rattle.std.specs.Prelude.{if◌then◌else◌, nat_le, nat_lt, sum_by}
use Rattle.std.specs.Cmp.{tied_itself}
use Rattle.std.specs.FinMap.{IsAntisymmetric, nat_cmp-IsAntisymmetric, slice_cmp-IsAntisymmetric}
use Rattle.std.specs.FinMap.Entries.{find, find-put}
use Rattle.std.specs.List.{AllByRecursion}
use Rattle.std.specs.Option.{option_and_then}
use Rattle.std.specs.Ordering.{eq_by_cmp, is_eq}
use Rattle.std.specs.declared.cmp.Ordering.{Ordering}
use Rattle.std.specs.declared.cmp.Ordering.TheVariants.{Equal, Greater, Less}
use Rattle.std.proofs.lemmas.Bool.{false≢true, le-ltb}
use Rattle.std.proofs.lemmas.Bool.Decides.{nat_tests}
use Rattle.std.proofs.lemmas.Cmp.{nat_list_cmp_total}
use Rattle.std.proofs.lemmas.List.{length-map}
use Rattle.std.proofs.lemmas.List.Sums.{fold-append, sum_by-cons}
use Rattle.sha2.specs.Sha256.{sha256}
use Rattle.up_blocks.specs.Records.{IsTold, after_record, block_in, blocks_of, holds, put_record, reference_cmp, size_of, sizes_of}
use Rattle.up_blocks.specs.declared.record.BlockRecord.{BlockRecord}
use Rattle.up_blocks.specs.declared.record.BlockRecord.TheVariants.{Put}
use Rattle.up_calls.specs.Services.{IsBlock, Leads, SameRecord, StoreSays, adding, put_leads}
use Rattle.up_host.specs.Opens.{store_limits}
use Rattle.up_journal.specs.Journal.{bytes_of, is_full}
use Rattle.up_journal.specs.Format2.{head_size}
use Rattle.up_journal.specs.declared.limits.Limits.{Limits}
use Rattle.up_log_tree.proofs.Paths.{some_same}
use Rattle.up_storm.proofs.AccessDigests.{AreApart}
use Rattle.up_storm.proofs.PreparedReadings.{text_short}
use Rattle.up_storm.specs.Asked.{access_text}
use Rattle.up_storm.specs.Preparing.{storm_limits}
use Rattle.up_wire.specs.declared.replies.Done.TheVariants as done
use Rattle.up_wire.specs.declared.replies.Reply.{Reply}
use Rattle.up_wire.specs.declared.replies.Reply.TheVariants as reply

-- a record keeps the text of the Access file of one of the first sessions
pub record IsAccessBlock (sessions : ℕ) (rec : BlockRecord) : Type 0 where
  pub k : ℕ
  pub low : k < sessions
  pub is : rec ≡ put_record true (access_text k)

-- each record of a log does
abbrev pub AreAccessBlocks : ℕ → List BlockRecord → Type 0
AreAccessBlocks sessions log = AllByRecursion (IsAccessBlock sessions) log

-- so they are with more sessions
pub blocks_weaker : (n m : ℕ) → n ≤ m → (log : List BlockRecord) → AreAccessBlocks n log → AreAccessBlocks m log
blocks_weaker n m less [] h = tt
blocks_weaker n m less (rec ∷ log) h = (record { k = h.0.k; low = (let low = h.0.low in omega (arith, low, less)); is = h.0.is }, blocks_weaker n m less log h.1)

-- ---- which bytes stand under a reference

-- references that compare as equal are one
same_reference : IsAntisymmetric reference_cmp
same_reference = slice_cmp-IsAntisymmetric nat_cmp-IsAntisymmetric

-- an order that is told to be equal is
is_equal : (o : Ordering) → is_eq o ≡ true → o ≡ Equal
is_equal Less h = absurd (false≢true h)
is_equal Equal h = refl
is_equal Greater h = absurd (false≢true h)

-- what stands under the reference of a session's text is that text
record IsGood (sessions : ℕ) (blocks : List (List ℕ × Option (List ℕ))) : Type 0 where
  each : (j : ℕ) → j < sessions → (o : Option (List ℕ)) → find reference_cmp (sha256 (access_text j)) blocks ≡ Some o → o ≡ Some (access_text j)

module _ (sessions : ℕ) (apart : AreApart sessions) where
  -- one text more
  good_put : (blocks : List (List ℕ × Option (List ℕ))) (i : ℕ) → i < sessions → IsGood sessions blocks → IsGood sessions (after_record blocks (put_record true (access_text i)))
  good_put blocks i small good = record {
    each = λ j low o there. by j low o (eq_by_cmp reference_cmp (sha256 (access_text j)) (sha256 (access_text i))) refl
        (sym (find-put reference_cmp nat_list_cmp_total (sha256 (access_text j)) (sha256 (access_text i)) (Some (access_text i)) blocks) ∙ there);
  }
    where
      by : (j : ℕ) → j < sessions → (o : Option (List ℕ)) (b : Bool) → eq_by_cmp reference_cmp (sha256 (access_text j)) (sha256 (access_text i)) ≡ b
          → cond b (Some (Some (access_text i))) (find reference_cmp (sha256 (access_text j)) blocks) ≡ Some o → o ≡ Some (access_text j)
      by j low o true is here =
          let one : sha256 (access_text j) ≡ sha256 (access_text i) = same_reference (sha256 (access_text j)) (sha256 (access_text i)) (is_equal (reference_cmp (sha256 (access_text j)) (sha256 (access_text i))) is) in
          sym (some_same (Some (access_text i)) o here) ∙ ap (λ (t : List ℕ). Some t) (sym (apart.apart j i low small one))
      by j low o false is here = good.each j low o here

  -- so it is after a whole log
  good_all : (log : List BlockRecord) (blocks : List (List ℕ × Option (List ℕ))) → AreAccessBlocks sessions log → IsGood sessions blocks → IsGood sessions (fold after_record blocks log)
  good_all [] blocks h good = good
  good_all (rec ∷ log) blocks h good =
      good_all log (after_record blocks rec) h.1 (subst (λ (r : BlockRecord). IsGood sessions (after_record blocks r)) (sym h.0.is) (good_put blocks h.0.k h.0.low good))

  -- where nothing stands, nothing else does
  none_good : IsGood sessions []
  none_good = record { each = λ j low o there. absurd (none_some o there) }
    where
      none_some : (o : Option (List ℕ)) → None ≡ Some o → ⊥
      none_some o h = absurd (cc)

  -- the bytes that are read of a held text are that text
  module _ (log : List BlockRecord) (blocks : AreAccessBlocks sessions log) (j : ℕ) (low : j < sessions) where
    -- the bytes that the log tells
    told_is : (o : Option (Option (List ℕ))) → block_in log (sha256 (access_text j)) ≡ o → is_some o ≡ true → option_and_then (λ told. told) o ≡ Some (access_text j)
    told_is None is some = absurd (false≢true some)
    told_is (Some o) is some = (good_all log [] blocks none_good).each j low o is

    -- the bytes that are read
    pub bytes_are : (bytes : List ℕ) → holds log (sha256 (access_text j)) ≡ true → IsBlock log (sha256 (access_text j)) bytes → bytes ≡ access_text j
    bytes_are bytes held block =
        subst (λ (o : Option (List ℕ)). IfSome o (λ told. bytes ≡ told)) (told_is (block_in log (sha256 (access_text j))) refl held) block.told

-- a block that was put last is held
pub holds_last : (log : List BlockRecord) (bytes : List ℕ) → holds (log ++ put_record true bytes ∷ []) (sha256 bytes) ≡ true
holds_last log bytes =
    ap (λ (blocks : List (List ℕ × Option (List ℕ))). is_some (find reference_cmp (sha256 bytes) blocks)) (fold-append after_record [] log (put_record true bytes ∷ []))
    ∙ ap (λ (o : Option (Option (List ℕ))). is_some o) (find-put reference_cmp nat_list_cmp_total (sha256 bytes) (sha256 bytes) (Some bytes) (blocks_of log))
    ∙ ap (λ (r : Ordering). is_some (cond (is_eq r) (Some (Some bytes)) (find reference_cmp (sha256 bytes) (blocks_of log)))) (tied_itself nat_list_cmp_total (sha256 bytes))

-- ---- there is room

-- so few texts have few bytes together
sum_small : (n : ℕ) → n ≤ 32 → (log : List BlockRecord) → AreAccessBlocks n log → sum_by (λ (size : ℕ). size + head_size) (sizes_of log) ≤ 70 * length log
sum_small n most [] h = omega arith
sum_small n most (rec ∷ log) h =
    let rest = sum_small n most log h.1 in
    let low = h.0.low in
    let short = text_short h.0.k (omega (arith, low, most)) in
    let size : size_of rec ≡ length (access_text h.0.k) + 1 = ap size_of h.0.is in
    let sum : sum_by (λ (s : ℕ). s + head_size) (sizes_of (rec ∷ log)) ≡ (size_of rec + 37) + sum_by (λ (s : ℕ). s + head_size) (sizes_of log) = sum_by-cons (λ (s : ℕ). s + head_size) (size_of rec) (sizes_of log) in
    omega (arith, rest, short, size, sum)

-- a smaller number is not at least as large
not_within : (a b : ℕ) → b < a → nat_le a b ≡ false
not_within a b h = grind (arith, nat_tests)

-- the limits leave room for one more
pub has_space : (limits : Limits) → limits ≡ store_limits storm_limits → (n : ℕ) → n ≤ 32 → (log : List BlockRecord) → AreAccessBlocks n log → length log ≤ 32 → (size : ℕ) → size ≤ 33
    → is_full limits (sizes_of log) size ≡ false
has_space limits same n most log blocks few size small =
    let sum = sum_small n most log blocks in
    let long : length (sizes_of log) ≡ length log = length-map log size_of in
    let space : ((8 + sum_by (λ (s : ℕ). s + head_size) (sizes_of log)) + 1) + size + 37 ≤ 1073741824 = omega (arith, sum, few, small) in
    ap (λ (l : Limits). nat_le l.records (length (sizes_of log)) || nat_lt l.device (bytes_of (sizes_of log) + size + head_size)) same
    ∙ ap (λ (b : Bool). b || nat_lt 1073741824 (bytes_of (sizes_of log) + size + head_size)) (not_within 1048576 (length (sizes_of log)) (omega (arith, long, few)))
    ∙ le-ltb 1073741824 (bytes_of (sizes_of log) + size + head_size) space

-- ---- what a StorePut adds

-- one record was added
pub record AddsOne (bytes : List ℕ) (added : List BlockRecord) : Type 0 where
  pub one : BlockRecord
  pub alone : added ≡ one ∷ []
  pub same : SameRecord (put_record true bytes) one

-- Where there is room, a text that is held adds nothing, and another its record.
pub put_adds : (limits : Limits) (log : List BlockRecord) (bytes : List ℕ) (said : Reply) (added : List BlockRecord) → is_full limits (sizes_of log) (size_of (put_record true bytes)) ≡ false
    → StoreSays log (put_leads limits log bytes) said added → ((holds log (sha256 bytes) ≡ true) × (added ≡ [])) ⊎ AddsOne bytes added
put_adds limits log bytes said added room says = by (holds log (sha256 bytes)) refl says
  where
    by : (held : Bool) → holds log (sha256 bytes) ≡ held
        → StoreSays log (if held then Leads.Says (reply.Ok (done.Reference (sha256 bytes))) else adding (is_full limits (sizes_of log) (size_of (put_record true bytes))) (length log) (put_record true bytes) (reply.Ok (done.Reference (sha256 bytes)))) said added
        → ((holds log (sha256 bytes) ≡ true) × (added ≡ [])) ⊎ AddsOne bytes added
    by true is says = inl (is, says.1)
    by false is says =
        let adds : StoreSays log (Leads.Adds (put_record true bytes) (reply.Ok (done.Reference (sha256 bytes)))) said added
        = subst (λ (full : Bool). StoreSays log (adding full (length log) (put_record true bytes) (reply.Ok (done.Reference (sha256 bytes)))) said added) room says in
        inr (record { one = adds.1.0; alone = adds.1.1; same = adds.1.2 })

-- a record of a text whose bytes are told is its whole record
pub told_whole : (bytes : List ℕ) (one : BlockRecord) → SameRecord (put_record true bytes) one → IsTold true one → one ≡ put_record true bytes
told_whole bytes one same told =
    same.1 ∙ ap (λ (o : Option (List ℕ)). Put (sha256 bytes) (length bytes) o) (by same.0 same.2 (subst (λ (r : BlockRecord). IsTold true r) same.1 told))
  where
    by : (o : Option (List ℕ)) → IfSome o (λ these. Some bytes ≡ Some these) → IsTold true (Put (sha256 bytes) (length bytes) o) → o ≡ Some bytes
    by None h t = absurd (false≢true (sym t))
    by (Some these) h t = sym h
