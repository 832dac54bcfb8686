-- Logs with equal heads are equal, or their records collide.
use Rattle.std.proofs.Common.{◌≡◌, ◌≢◌, ◌⊎◌, inl, inr, ⊎_elim, ℕ, suc, List, [], ◌∷◌, ◌++◌, length, map, take, drop, Option, Some, None, IfSome, refl, sym, ◌∙◌, ap, arith, append_assoc, length-append}
use Rattle.std.proofs.lemmas.Bool.{cases_Bool}
use Rattle.std.proofs.lemmas.List.{drop_at, length-map, length-replicate, take_at}
use Rattle.std.proofs.lemmas.Slice.Eq.{bytes_eq-Decides}
use Rattle.std.specs.List.{Contains}
use Rattle.std.specs.Str.{bytes_eq}
use Rattle.sha2.proofs.Facts256.{length-sha256}
use Rattle.up_refs.specs.Sha256.{sha256}
use Rattle.up_journal.specs.Collisions.{AreSame, AreSameTold}
use Rattle.up_journal.specs.Format2.{format2, head_of}
use Rattle.up_journal.specs.Gates.{length_bytes, link_behind, record_bytes, record_list}
use Rattle.up_journal.proofs.Gates.{length-length_bytes}

at_head : (x : List ℕ) (xs : List (List ℕ)) → Contains (x ∷ xs) x
at_head x xs = (0, omega arith, refl)

behind_head : (x : List ℕ) (xs : List (List ℕ)) (y : List ℕ) → Contains xs y → Contains (x ∷ xs) y
behind_head x xs y there = (suc there.0, omega (arith, there.1), there.2)

-- two different byte strings with one digest, one in each list
record Collide (one other : List (List ℕ)) : Type 0 where
  pub first : List ℕ
  pub second : List ℕ
  pub of_one : Contains one first
  pub of_other : Contains other second
  pub differ : first ≢ second
  pub digest : sha256 first ≡ sha256 second

-- the link and the payload of a record
link_in : (link payload : List ℕ) → length link ≡ 32 → take 32 (drop 4 (record_bytes link payload)) ≡ link
link_in link payload long =
    ap (λ (l : List ℕ). take 32 (drop 4 l)) (append_assoc (length_bytes (length payload)) link payload)
    ∙ ap (λ (l : List ℕ). take 32 l) (drop_at (length_bytes (length payload)) (link ++ payload) 4 (length-length_bytes (length payload))) ∙ take_at link payload 32 long

payload_in : (link payload : List ℕ) → length link ≡ 32 → drop 36 (record_bytes link payload) ≡ payload
payload_in link payload long =
    drop_at (length_bytes (length payload) ++ link) payload 36 (omega (arith, length-append (length_bytes (length payload)) link, length-length_bytes (length payload), long))

-- in equally long logs with one link behind them either all is equal, or records collide
same_behind : (one other : List (List ℕ)) (link second : List ℕ) → length one ≡ length other → length link ≡ 32 → length second ≡ 32 → link_behind format2 link one ≡ link_behind format2 second other
    → ((one ≡ other) × (link ≡ second)) ⊎ Collide (record_list format2 link one) (record_list format2 second other)
same_behind [] [] link second sizes long long_too same = inl (refl, same)
same_behind [] (payload ∷ other) link second sizes long long_too same = absurd (omega arith)
same_behind (payload ∷ one) [] link second sizes long long_too same = absurd (omega arith)
same_behind (payload ∷ one) (with ∷ other) link second sizes long long_too same =
    let a = record_bytes link payload in
    let b = record_bytes second with in
    let left : length one ≡ length other = omega arith in
    let before : length (sha256 a) ≡ 32 = length-sha256 a in
    let after : length (sha256 b) ≡ 32 = length-sha256 b in
    elim (same_behind one other (sha256 a) (sha256 b) left before after same) [
      | inl rest ↦ elim (alike a b) [
        | inl equal ↦
            let links : link ≡ second = sym (link_in link payload long) ∙ ap (λ (l : List ℕ). take 32 (drop 4 l)) equal ∙ link_in second with long_too in
            let payloads : payload ≡ with = sym (payload_in link payload long) ∙ ap (λ (l : List ℕ). drop 36 l) equal ∙ payload_in second with long_too in
            inl (ap (λ (p : List ℕ). p ∷ one) payloads ∙ ap (λ (l : List (List ℕ)). with ∷ l) rest.0, links)
        | inr differ ↦ inr (record {
          first = a;
          second = b;
          of_one = at_head a (record_list format2 (sha256 a) one);
          of_other = at_head b (record_list format2 (sha256 b) other);
          differ = differ;
          digest = rest.1;
        })
      ]
      | inr collide ↦ inr (record {
        first = collide.first;
        second = collide.second;
        of_one = behind_head a (record_list format2 (sha256 a) one) collide.first collide.of_one;
        of_other = behind_head b (record_list format2 (sha256 b) other) collide.second collide.of_other;
        differ = collide.differ;
        digest = collide.digest;
      })
    ]
  where
    alike : (a b : List ℕ) → (a ≡ b) ⊎ (a ≢ b)
    alike a b = elim (cases_Bool (bytes_eq a b)) [ inl equal ↦ inl ((bytes_eq-Decides a b).0 equal) | inr differs ↦ inr (λ same. let equal = (bytes_eq-Decides a b).1 same in cc) ]

pub same_logs : (one other : List (List ℕ)) → length one ≡ length other → head_of one ≡ head_of other → AreSame one other
same_logs one other sizes heads =
    let long : length format2.first_link ≡ 32 = length-replicate {A = ℕ} 32 0 in
    ⊎_elim (λ both. inl both.0)
    (λ collide. inr (record { first = collide.first; second = collide.second; of_one = collide.of_one; of_other = collide.of_other; differ = collide.differ; digest = collide.digest }))
    (same_behind one other format2.first_link format2.first_link sizes long long heads)

-- the same of two journals
pub same_told : (one other : Option (List (List ℕ))) (sizes others : List ℕ) (head heads : List ℕ) → IfSome one (λ log. map length log ≡ sizes) → IfSome other (λ log. map length log ≡ others)
    → IfSome one (λ log. head ≡ head_of log) → IfSome other (λ log. heads ≡ head_of log) → length sizes ≡ length others → head ≡ heads → AreSameTold one other
same_told None other sizes others head heads one_sizes other_sizes one_head other_head same_sizes same = tt
same_told (Some one) None sizes others head heads one_sizes other_sizes one_head other_head same_sizes same = tt
same_told (Some one) (Some other) sizes others head heads one_sizes other_sizes one_head other_head same_sizes same =
    same_logs one other (omega (arith, length-map one (length {A = ℕ}), length-map other (length {A = ℕ}), ap length one_sizes, ap length other_sizes, same_sizes)) (sym one_head ∙ same ∙ other_head)
