-- What peers are asked, and which of them is asked. This project's own.
use Rattle.std.specs.Prelude.{◌≡◌, ℕ, Bool, List, [], ◌∷◌, Option, Some, None, Result, Ok, Err, slice_get, slice_set}
use Rattle.std.specs.List.{list_any}
use Rattle.std.specs.Str.{bytes_eq}
use Rattle.up_ends.specs.Telling.{Grew}
use Rattle.up_lists.specs.Counts.{HasCause, StaysUnless}
use Rattle.up_peer.specs.declared.answers.PeerAnswer.{PeerAnswer}
use Rattle.up_peer.specs.declared.answers.PeerAnswer.TheVariants.{Nothing, Failed}
use Rattle.up_peer.specs.declared.answers.PeerCall.{PeerCall}
use Rattle.up_peer.specs.declared.answers.PeerQuestion.{PeerQuestion}

-- the call that is told: the question with its answer; none on want of memory
abbrev pub call_of : {E : Type 0} → PeerQuestion → Result PeerAnswer E → List PeerCall
call_of question (Ok answer) = record { question = question; answer = answer } ∷ []
call_of question (Err e) = []

-- a peer, the owners whose trees it has, and the address whose blocks it has
pub record KeptPeer (P : Type 0) : Type 0 where
  pub owners : List (List ℕ)
  pub address : List ℕ
  pub peer : P

-- whether a peer has the tree of an owner
abbrev pub has_owner : {P : Type 0} → List ℕ → KeptPeer P → Bool
has_owner owner kept = list_any (λ one. bytes_eq one owner) kept.owners

-- whether a peer has the blocks of an address
abbrev pub has_address : {P : Type 0} → List ℕ → KeptPeer P → Bool
has_address address kept = bytes_eq kept.address address

-- A peer was asked this question: its record grew by it with the answer, where it tells.
pub record WasAsked {P E : Type 0} (asked : P → Option (List PeerCall)) (faults : P → ℕ)
    (old new : KeptPeer P) (question : PeerQuestion) (result : Result PeerAnswer E) : Type 0 where
  pub told : Grew (asked old.peer) (asked new.peer) (call_of question result)
  pub counts : HasCause (faults old.peer) (faults new.peer) (result ≡ Ok Failed)
  pub quiet : StaysUnless (faults old.peer) (faults new.peer) (result ≡ Ok Failed)
  pub owners : new.owners ≡ old.owners
  pub address : new.address ≡ old.address

-- The peer at a place was asked, and all others stay as they were.
pub record AsksAt {P E : Type 0} (asked : P → Option (List PeerCall)) (faults : P → ℕ) (i : ℕ)
    (old new : List (KeptPeer P)) (question : PeerQuestion) (result : Result PeerAnswer E) : Type 0 where
  pub before : KeptPeer P
  pub after : KeptPeer P
  pub there : slice_get old i ≡ Some before
  pub others : new ≡ slice_set old i after
  pub answered : WasAsked asked faults before after question result

-- The peer at the place, if there is one, was asked and no other; else nobody was, and the answer is that there is nothing.
abbrev pub Asks : {P E : Type 0} → (P → Option (List PeerCall)) → (P → ℕ) → Option ℕ
    → List (KeptPeer P) → List (KeptPeer P) → PeerQuestion → Result PeerAnswer E → Type 0
Asks asked faults None old new question result = (new ≡ old) × (result ≡ Ok Nothing)
Asks asked faults (Some i) old new question result = AsksAt asked faults i old new question result
