-- How a function that holds a conversation ends.
use Rattle.std.proofs.Common.{◌≡◌, ℕ, Bool, true, false, not, ◌==◌, if◌then◌else◌, List, length, Result, Ok, Err, sym, subst, ◌∙◌}
use Rattle.std.specs.Result.{IsErrAnd}
use Rattle.std.specs.Str.{bytes_eq}
use Rattle.sha2.specs.Sha256.{sha256}
use Rattle.up_entry.specs.declared.entries.Block.{Block}
use Rattle.up_entry.specs.declared.entries.Entry.{Entry}
use Rattle.up_entry.specs.declared.entries.Kind.{Kind}
use Rattle.up_entry.specs.declared.entries.Kind.TheVariants as kinds
use Rattle.up_wire.specs.declared.replies.Done.{Done}
use Rattle.up_wire.specs.declared.replies.Done.TheVariants as dones
use Rattle.up_wire.specs.declared.replies.Reply.{Reply}
use Rattle.up_client.specs.declared.ask.Ask.{Ghosts}
use Rattle.up_client.specs.declared.fault.ClientFault.{ClientFault}
use Rattle.up_client.specs.declared.fault.ClientFault.TheVariants as faults
use Rattle.up_client.specs.Getting.{block_from, blocks_in, file_blocks, fitting}
use Rattle.up_client.specs.Putting.{reference_from}
use Rattle.up_client.specs.Replies.{◌>>=◌, bytes_in, outcome, position_in, reference_in}
use Rattle.up_client.specs.Talks.{Talking, Talks, and_then, done}
use Rattle.up_client.proofs.Holding.{IsAnswered, outcome_answered, talks_done, talks_stop, talks_then, talks_wanting}

module _ {S : Type 0} (asked : Ghosts S) (same : (a : S) → asked.tied a a) (joined : (a b c : S) → asked.tied a b → asked.tied b c → asked.tied a c) where
  -- memory was wanting
  pub exit_wanting : {X : Type 0} (talk : Talking X) (a : S) (result : Result X ClientFault) → IsErrAnd result (λ fault. fault ≡ faults.OutOfMemory) → Talks asked talk a result a
  exit_wanting talk a (Ok x) is = absurd is
  exit_wanting talk a (Err fault) is = subst (λ (f : ClientFault). Talks asked talk a (Err f) a) (sym is) (talks_wanting asked same joined talk a)

  -- it ended with a fault, and that is handed on
  pub handed : {X : Type 0} (talk : Talking X) (a b : S) (fault : ClientFault) (result : Result X ClientFault) → Talks asked talk a (Err fault) b → IsErrAnd result (λ other. other ≡ fault) → Talks asked talk a result b
  handed talk a b fault (Ok x) held is = absurd is
  handed talk a b fault (Err other) held is = subst (λ (f : ClientFault). Talks asked talk a (Err f) b) (sym is) held

  -- the first of two conversations ended with a fault
  pub exit_stop : {X Y : Type 0} (talk : Talking X) (more : X → Talking Y) (a b : S) (first : Result X ClientFault) (fault : ClientFault) (result : Result Y ClientFault)
      → Talks asked talk a first b → first ≡ Err fault → IsErrAnd result (λ other. other ≡ fault) → Talks asked (and_then talk more) a result b
  exit_stop talk more a b first fault (Ok y) held was is = absurd is
  exit_stop {X} talk more a b first fault (Err other) held was is =
      talks_stop asked same joined talk more a b other (subst (λ (r : Result X ClientFault). Talks asked talk a r b) (was ∙ (λ j. Err (sym is j))) held)

  -- it ended well, and the second was held
  pub exit_then : {X Y : Type 0} (talk : Talking X) (more : X → Talking Y) (a b c : S) (first : Result X ClientFault) (x : X) (result : Result Y ClientFault)
      → Talks asked talk a first b → first ≡ Ok x → Talks asked (more x) b result c → Talks asked (and_then talk more) a result c
  exit_then {X} talk more a b c first x result held was after =
      talks_then asked same joined talk more a b c x result (subst (λ (r : Result X ClientFault). Talks asked talk a r b) was held) after

  -- what comes of the first is the result
  pub exit_with : {X Y : Type 0} (talk : Talking X) (meant : X → Result Y ClientFault) (a b : S) (first : Result X ClientFault) (x : X) (result : Result Y ClientFault)
      → Talks asked talk a first b → first ≡ Ok x → result ≡ meant x → IsAnswered (meant x) → Talks asked (and_then talk (λ x. done (meant x))) a result b
  exit_with {X} {Y} talk meant a b first x result held was is answered =
      exit_then talk (λ x. done (meant x)) a b b first x result held was
      (subst (λ (r : Result Y ClientFault). Talks asked (done (meant x)) b r b) (sym is) (talks_done asked same joined (meant x) b answered))

  -- nothing was asked
  pub exit_done : {X : Type 0} (meant : Result X ClientFault) (a : S) (result : Result X ClientFault) → result ≡ meant → IsAnswered meant → Talks asked (done meant) a result a
  exit_done {X} meant a result is answered = subst (λ (r : Result X ClientFault). Talks asked (done meant) a r a) (sym is) (talks_done asked same joined meant a answered)

then_answered : {A B : Type 0} (first : Result A ClientFault) (next : A → Result B ClientFault) → IsAnswered first → ((x : A) → IsAnswered (next x)) → IsAnswered (first >>= next)
then_answered (Ok x) next one two = two x
then_answered (Err fault) next one two = λ failed. one (cc)

reference_in_answered : (d : Done) → IsAnswered (reference_in d)
reference_in_answered (dones.Reference reference) failed = cc
reference_in_answered d failed = cc

bytes_in_answered : (d : Done) → IsAnswered (bytes_in d)
bytes_in_answered (dones.Bytes bytes) failed = cc
bytes_in_answered d failed = cc

-- no position is a want of an answer
pub position_answered : (d : Done) → IsAnswered (position_in d)
position_answered (dones.Changed position) failed = cc
position_answered d failed = cc

given_answered : (fits : Bool) (given wanted : List ℕ) → IsAnswered (if fits then Ok given else Err (faults.Corrupt wanted given))
given_answered true given wanted failed = cc
given_answered false given wanted failed = cc

-- no reference that a store gave is one
pub reference_answered : (piece : List ℕ) (reply : Reply) → IsAnswered (reference_from piece reply)
reference_answered piece reply =
    then_answered (outcome reply) (λ d. reference_in d >>= (λ given. if bytes_eq given (sha256 piece) then Ok given else Err (faults.Corrupt (sha256 piece) given))) (outcome_answered reply)
    (λ d. then_answered (reference_in d) (λ given. if bytes_eq given (sha256 piece) then Ok given else Err (faults.Corrupt (sha256 piece) given)) (reference_in_answered d)
    (λ given. given_answered (bytes_eq given (sha256 piece)) given (sha256 piece)))

fits_answered : (sized named : Bool) (i : ℕ) (wanted size : ℕ) (reference digest bytes : List ℕ)
    → IsAnswered (if not sized then Err (faults.BadSize i wanted size) else if not named then Err (faults.Corrupt reference digest) else Ok bytes)
fits_answered false named i wanted size reference digest bytes failed = cc
fits_answered true false i wanted size reference digest bytes failed = cc
fits_answered true true i wanted size reference digest bytes failed = cc

-- no bytes of a block are one
pub block_answered : (i : ℕ) (block : Block) (reply : Reply) → IsAnswered (block_from i block reply)
block_answered i block reply =
    then_answered (outcome reply) (λ d. bytes_in d >>= fitting i block) (outcome_answered reply)
    (λ d. then_answered (bytes_in d) (fitting i block) (bytes_in_answered d)
    (λ bytes. fits_answered (length bytes == block.size) (bytes_eq (sha256 bytes) block.location.reference) i block.size (length bytes) block.location.reference (sha256 bytes) bytes))

-- the same conversation, by what came of it
pub with_result : {S X : Type 0} (asked : Ghosts S) (talk : Talking X) (a b : S) (result other : Result X ClientFault) → Talks asked talk a result b → result ≡ other → Talks asked talk a other b
with_result {S} {X} asked talk a b result other held is = subst (λ (r : Result X ClientFault). Talks asked talk a r b) is held

file_answered : (kind : Kind) (entry : Entry) → IsAnswered (file_blocks kind entry)
file_answered kinds.Link entry failed = cc
file_answered kinds.Directory entry failed = cc
file_answered kinds.File entry failed = shown entry.attr.incomplete (entry.packing == 1) failed
  where
    shown : (hidden plain : Bool) → IsAnswered (if hidden then Err faults.NoRead else if not plain then Err (faults.Opaque entry.packing) else Ok entry.blocks)
    shown true plain failed = cc
    shown false false failed = cc
    shown false true failed = cc

-- no blocks of what was looked up are one
pub blocks_answered : (d : Done) → IsAnswered (blocks_in d)
blocks_answered (dones.Entry entry) = file_answered entry.attr.kind entry
blocks_answered d = λ failed. cc
