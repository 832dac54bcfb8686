-- What a user signs to show that it holds the key of its record. This project's own.
use Rattle.std.specs.Prelude.{◌≡◌, ℕ, List, [], ◌∷◌, ◌++◌, codes, Option, Result, Ok, Err}
use Rattle.std.specs.Str.{byte}
use Rattle.up_refs.specs.References.{text_of}
use Rattle.up_ends.specs.Telling.{Grew}
use Rattle.up_ends.specs.declared.verifier.Judged.{Judged}
use Rattle.up_ends.specs.declared.verifier.Verdict.{Verdict}
use Rattle.up_ends.specs.declared.verifier.Verdict.TheVariants.{Yes, No}
use Rattle.up_sign.specs.declared.fault.SignFault.{SignFault}
use Rattle.up_sign.specs.declared.fault.SignFault.TheVariants as fault

-- a user, the public key of its record, and the message to be signed by that key
pub record Signing : Type 0 where
  pub user : List ℕ
  pub key : List ℕ
  pub message : List ℕ

-- The message: `upspin 1 `, the host's name, a space, the user, a space, and the challenge in 64 upper-case hexadecimal digits.
abbrev pub message_of : List ℕ → List ℕ → List ℕ → List ℕ
message_of host user challenge = codes "upspin 1 " ++ host ++ byte " " ∷ user ++ byte " " ∷ text_of challenge

-- the question whether a signature is that of the message by the key, with its verdict
abbrev pub judged_of : Signing → List ℕ → Verdict → Judged
judged_of signing signature verdict = record { key = signing.key; message = signing.message; signature = signature; verdict = verdict }

-- What the verifier judged, where it tells it: the question with Yes for a session, with No for that refusal, and nothing where it
-- failed.
abbrev pub JudgedAs : Signing → List ℕ → Option (List Judged) → Option (List Judged) → Result Signing SignFault → Type 0
JudgedAs signing signature old new (Ok session) = Grew old new (judged_of signing signature Yes ∷ [])
JudgedAs signing signature old new (Err fault.No) = Grew old new (judged_of signing signature No ∷ [])
JudgedAs signing signature old new (Err fault.Fault) = new ≡ old
