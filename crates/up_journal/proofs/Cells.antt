-- What a crash leaves of a gate and of what stands behind it.
use Rattle.std.proofs.Common.{◌≡◌, ◌<◌, ◌+◌, min, ℕ, false, List, [], ◌∷◌, ◌++◌, length, get_or, take, drop, Option, Some, None, option_map, IsSome, IsNone, IfSome, ◌⊎◌, inl, inr, ⊎_elim, refl, sym, ◌∙◌, ap, arith, append_assoc, length-append, length-take-le, take-append-drop}
use Rattle.std.proofs.lemmas.List.{take_at, drop_at, drop_more, drop-drop, take-append-le, take-take}
use Rattle.up_disk.specs.Disk.{Torn, written}
use Rattle.up_journal.specs.Gates.{is_open}
use Rattle.up_journal.specs.Cells.{Closed, Whole, Ready}

module _ (front old : List ℕ) (at : ℕ) (place : length front ≡ at) where
  -- a closed gate stays closed while something is written behind it
  pub torn_behind : (n : ℕ) (new : List ℕ) → Closed front old → Torn (at + 1) n old new → Closed front new
  torn_behind n new shape torn = by_rest shape.rest shape.is shape.some shape.closed
    where
      by_rest : (rest : List ℕ) → old ≡ front ++ rest → 0 < length rest → is_open rest ≡ false → Closed front new
      by_rest [] is some closed = absurd (omega arith)
      by_rest (gate ∷ rest) is some closed =
          let size : length old ≡ at + 1 + length rest = omega (arith, ap length is, length-append front (gate ∷ rest)) in
          let fits : min (at + 1) (length old) ≡ at + 1 = omega arith in
          let ends : length (front ++ gate ∷ []) ≡ at + 1 = omega (arith, length-append front (gate ∷ [])) in
          let head : take (at + 1) new ≡ front ++ gate ∷ [] =
          ap (λ (k : ℕ). take k new) (sym fits) ∙ torn.before ∙ ap (λ (l : List ℕ). take (at + 1) l) (is ∙ sym (append_assoc front (gate ∷ []) rest)) ∙ take_at (front ++ gate ∷ []) rest (at + 1) ends in
          record {
            rest = gate ∷ drop (at + 1) new;
            is = sym (take-append-drop (at + 1) new) ∙ ap (λ (l : List ℕ). l ++ drop (at + 1) new) head ∙ append_assoc front (gate ∷ []) (drop (at + 1) new);
            some = omega arith;
            closed = closed;
          }

  -- what is written behind it stands whole behind it
  pub written_behind : (behind : List ℕ) → Closed front old → Ready behind front (written (at + 1) behind old)
  written_behind behind shape = by_rest shape.rest shape.is shape.some
    where
      by_rest : (rest : List ℕ) → old ≡ front ++ rest → 0 < length rest → Ready behind front (written (at + 1) behind old)
      by_rest [] is some = absurd (omega arith)
      by_rest (gate ∷ rest) is some =
          let ends : length (front ++ gate ∷ []) ≡ at + 1 = omega (arith, length-append front (gate ∷ [])) in
          let head : take (at + 1) old ≡ front ++ gate ∷ [] =
          ap (λ (l : List ℕ). take (at + 1) l) (is ∙ sym (append_assoc front (gate ∷ []) rest)) ∙ take_at (front ++ gate ∷ []) rest (at + 1) ends in
          let tail = drop (at + 1 + length behind) old in
          record {
            gate = gate;
            whole = record {
              rest = tail;
              is = ap (λ (l : List ℕ). l ++ behind ++ tail) head ∙ append_assoc (front ++ gate ∷ []) behind tail ∙ append_assoc front (gate ∷ []) (behind ++ tail);
            };
          }

  module _ (behind : List ℕ) (ready : Ready behind front old) where
    ends : length (front ++ ready.gate ∷ []) ≡ at + 1
    ends = omega (arith, length-append front (ready.gate ∷ []))

    split : old ≡ (front ++ ready.gate ∷ []) ++ (behind ++ ready.whole.rest)
    split = ready.whole.is ∙ sym (append_assoc front (ready.gate ∷ []) (behind ++ ready.whole.rest))

    size : length old ≡ at + 1 + length (behind ++ ready.whole.rest)
    size = omega (arith, ap length split, length-append (front ++ ready.gate ∷ []) (behind ++ ready.whole.rest), ends)

    head : take at old ≡ front
    head = ap (λ (l : List ℕ). take at l) ready.whole.is ∙ take_at front (ready.gate ∷ (behind ++ ready.whole.rest)) at place

    tail : drop (at + 1) old ≡ behind ++ ready.whole.rest
    tail = ap (λ (l : List ℕ). drop (at + 1) l) split ∙ drop_at (front ++ ready.gate ∷ []) (behind ++ ready.whole.rest) (at + 1) ends

    -- a whole record stays whole while its gate is written
    pub torn_gate : (new : List ℕ) → Torn at 1 old new → Ready behind front new
    torn_gate new torn =
        let fits : min at (length old) ≡ at = omega (arith, size) in
        let front_is : take at new ≡ front = ap (λ (k : ℕ). take k new) (sym fits) ∙ torn.before ∙ head in
        let rest_is : drop at new ≡ get_or new at 0 ∷ (behind ++ ready.whole.rest) =
        drop_more new at 0 (omega (arith, torn.no_shorter, size)) ∙ ap (λ (l : List ℕ). get_or new at 0 ∷ l) (torn.after ∙ tail) in
        record {
          gate = get_or new at 0;
          whole = record {
            rest = ready.whole.rest;
            is = sym (take-append-drop at new) ∙ ap (λ (l : List ℕ). l ++ drop at new) front_is ∙ ap (λ (l : List ℕ). front ++ l) rest_is;
          };
        }

    pub written_gate : (byte : ℕ) → Whole byte behind front (written at (byte ∷ []) old)
    written_gate byte = record {
      rest = ready.whole.rest;
      is = ap (λ (l : List ℕ). l ++ byte ∷ [] ++ drop (at + 1) old) head ∙ ap (λ (l : List ℕ). front ++ byte ∷ [] ++ l) tail ∙ append_assoc front (byte ∷ []) (behind ++ ready.whole.rest);
    }

-- behind an open gate the front goes on to the next one
pub whole_next : (bytes front image : List ℕ) → Whole 1 (bytes ++ 0 ∷ []) front image → Closed (front ++ 1 ∷ bytes) image
whole_next bytes front image whole = record {
  rest = 0 ∷ whole.rest;
  is = whole.is ∙ ap (λ (l : List ℕ). front ++ 1 ∷ l) (append_assoc bytes (0 ∷ []) whole.rest) ∙ sym (append_assoc front (1 ∷ bytes) (0 ∷ whole.rest));
  some = omega arith;
  closed = refl;
}

-- ---- bytes that are written in turn

-- a gate, once what stands behind it was written, whatever the gate was before
pub written_record : (at byte : ℕ) (behind bytes other : List ℕ) → at < length bytes → at < length other → take at other ≡ take at bytes → drop (at + 1) other ≡ drop (at + 1) bytes
    → written at (byte ∷ []) (written (at + 1) behind other) ≡ written at (byte ∷ behind) bytes
written_record at byte behind bytes other inside other_inside front_same rest_same =
    let head = take (at + 1) other in
    let tail = drop (at + 1 + length behind) other in
    let head_long : length head ≡ at + 1 = length-take-le (at + 1) other (omega arith) in
    let mid : written (at + 1) behind other ≡ head ++ (behind ++ tail) = append_assoc head behind tail in
    let mid_head : take at (written (at + 1) behind other) ≡ take at bytes =
    ap (λ (l : List ℕ). take at l) mid ∙ take-append-le at head (behind ++ tail) (omega (arith, head_long)) ∙ take-take at (at + 1) other (omega arith) ∙ front_same in
    let mid_tail : drop (at + 1) (written (at + 1) behind other) ≡ behind ++ tail = ap (λ (l : List ℕ). drop (at + 1) l) mid ∙ drop_at head (behind ++ tail) (at + 1) head_long in
    let tail_same : tail ≡ drop (at + length (byte ∷ behind)) bytes =
    sym (drop-drop (length behind) (at + 1) other) ∙ ap (λ (l : List ℕ). drop (length behind) l) rest_same ∙ drop-drop (length behind) (at + 1) bytes ∙ ap (λ (n : ℕ). drop n bytes) (omega arith) in
    ap (λ (l : List ℕ). (l ++ byte ∷ []) ++ drop (at + 1) (written (at + 1) behind other)) mid_head
    ∙ ap (λ (l : List ℕ). (take at bytes ++ byte ∷ []) ++ l) mid_tail
    ∙ append_assoc (take at bytes) (byte ∷ []) (behind ++ tail)
    ∙ sym (append_assoc (take at bytes) (byte ∷ behind) tail)
    ∙ ap (λ (l : List ℕ). (take at bytes ++ byte ∷ behind) ++ l) tail_same

-- a gate that was written alone
pub gate_alone : (at gate : ℕ) (bytes : List ℕ) → at < length bytes
    → (at < length (written at (gate ∷ []) bytes)) × (take at (written at (gate ∷ []) bytes) ≡ take at bytes) × (drop (at + 1) (written at (gate ∷ []) bytes) ≡ drop (at + 1) bytes)
gate_alone at gate bytes inside =
    let front : length (take at bytes) ≡ at = length-take-le at bytes (omega arith) in
    let tail = drop (at + 1) bytes in
    let long : length (take at bytes ++ gate ∷ []) ≡ at + 1 = omega (arith, length-append (take at bytes) (gate ∷ []), front) in (
      omega (arith, length-append (take at bytes ++ gate ∷ []) tail, long),
      ap (λ (l : List ℕ). take at l) (append_assoc (take at bytes) (gate ∷ []) tail) ∙ take_at (take at bytes) (gate ∷ tail) at front,
      drop_at (take at bytes ++ gate ∷ []) tail (at + 1) long,
    )

-- the content once a record is written, where the gate was closed again before, or was not written
pub record_content : (first mid behind_is now : Option (List ℕ)) (gate size : ℕ) (behind : List ℕ) → IfSome first (λ bytes. length bytes ≡ size) → gate < size
    → (mid ≡ first) ⊎ (mid ≡ option_map (written gate (0 ∷ [])) first) → behind_is ≡ option_map (written (gate + 1) behind) mid → now ≡ option_map (written gate (1 ∷ [])) behind_is
    → now ≡ option_map (written gate (1 ∷ behind)) first
record_content None mid behind_is now gate size behind sized inside settled one two =
    let none : mid ≡ None = ⊎_elim (λ same. same) (λ other. other) settled in
    two ∙ ap (option_map (written gate (1 ∷ []))) (one ∙ ap (option_map (written (gate + 1) behind)) none)
record_content (Some bytes) mid behind_is now gate size behind sized inside settled one two =
    let long : gate < length bytes = omega (arith, sized, inside) in
    ⊎_elim
    (λ same. two ∙ ap (option_map (written gate (1 ∷ []))) (one ∙ ap (option_map (written (gate + 1) behind)) same) ∙ ap Some (written_record gate 1 behind bytes bytes long long refl refl))
    (λ shut. let alone = gate_alone gate 0 bytes long in
    two ∙ ap (option_map (written gate (1 ∷ []))) (one ∙ ap (option_map (written (gate + 1) behind)) shut)
    ∙ ap Some (written_record gate 1 behind bytes (written gate (0 ∷ []) bytes) long alone.0 alone.1 alone.2))
    settled

-- whether it was closed again
pub settled_content : {D : Type 0} (content : D → Option (List ℕ)) (doubtful : Option ℕ) (old new : D) (f : List ℕ → List ℕ) → (IsSome doubtful → content new ≡ option_map f (content old)) → (IsNone doubtful → new ≡ old)
    → (content new ≡ content old) ⊎ (content new ≡ option_map f (content old))
settled_content content None old new f closed same = inl (ap content (same refl))
settled_content content (Some n) old new f closed same = inr (closed refl)
