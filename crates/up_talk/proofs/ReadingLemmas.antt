-- What a client says by a payload.
use Rattle.std.proofs.Common.{◌≡◌, ◌≢◌, ◌⊎◌, ℕ, true, false, List, [], append-nil, refl, sym, ap, subst, ◌∙◌, inl, inr, Option, Some, None, Result, Ok, Err, IfOk}
use Rattle.std.proofs.lemmas.Slice.Eq.{bytes_eq-Decides}
use Rattle.std.specs.Str.{bytes_eq}
use Rattle.up_bytes.specs.Forms.{IsBytes}
use Rattle.up_bytes.specs.declared.fault.FieldFault.{FieldFault}
use Rattle.up_sign.specs.SigningOn.{Signing}
use Rattle.up_talk.specs.Messages.{Fits, payload_from}
use Rattle.up_talk.specs.Transcripts.{Standing, may_come}
use Rattle.up_talk.specs.Turns.{AsksOrBye, Greeting, Says, is_greeting, standing_at}
use Rattle.up_talk.specs.declared.message.FromClient.{FromClient}
use Rattle.up_talk.specs.declared.message.FromClient.TheVariants as says
use Rattle.up_talk.specs.declared.stage.Stage.{Stage}
use Rattle.up_talk.specs.declared.stage.Stage.TheVariants as stages
use Rattle.up_wire.proofs.ClientParts.{client_messages}
use Rattle.up_wire.specs.Reading.{client_of}
use Rattle.up_wire.specs.Spelling.{FitsClient, client}
use Rattle.up_wire.specs.declared.messages.ClientFrame.{ClientFrame}
use Rattle.up_wire.specs.declared.messages.ClientFrame.TheVariants as clients

-- a payload is that of one message
pub one_message : (f g : ClientFrame) → FitsClient f → FitsClient g → client f ≡ client g → f ≡ g
one_message f g fits others same = (client_messages.alone f g [] fits others (append-nil (client f) ∙ same)).0

-- the payload is that of no message
pub no_message : (payload : List ℕ) (fault : FieldFault) → IsBytes payload → client_of payload ≡ Err fault → (f : ClientFrame) → is_greeting f ≡ true → FitsClient f → client f ≢ payload
no_message payload fault bytes read f greeting fits same =
    let again : client_of payload ≡ Ok f = (client_messages.exact payload f bytes).1 (fits, sym same) in absurd (cc)

-- it is that of another message
pub other_message : (payload : List ℕ) (g : ClientFrame) → payload ≡ client g → FitsClient g → is_greeting g ≡ false → (f : ClientFrame) → is_greeting f ≡ true → FitsClient f → client f ≢ payload
other_message payload g spelled others late f greeting fits same =
    let one : f ≡ g = one_message f g fits others (same ∙ spelled) in
    let both : is_greeting f ≡ false = ap is_greeting one ∙ late in absurd (cc)

pub bye_spelled : (payload : List ℕ) → bytes_eq payload (client clients.Bye) ≡ true → client clients.Bye ≡ payload
bye_spelled payload e = sym ((bytes_eq-Decides payload (client clients.Bye)).0 e)

pub no_bye : (payload : List ℕ) → bytes_eq payload (client clients.Bye) ≡ false → client clients.Bye ≢ payload
no_bye payload e same = let is : bytes_eq payload (client clients.Bye) ≡ true = (bytes_eq-Decides payload (client clients.Bye)).1 (sym same) in absurd (cc)

module _ {Q : Type 0} (asking : Q → List ℕ) (fits : Q → Type 0) where
  -- ---- once a user has signed on

  none_asked : (signing : Signing) (payload : List ℕ) → client clients.Bye ≢ payload → ((question : Q) → fits question → asking question ≢ payload)
      → (f : FromClient Q) → may_come (Standing.Signed signing) f ≡ true → Fits fits f → payload_from asking f ≢ payload
  none_asked signing payload bye none (says.Hello text) may fit same = absurd (cc)
  none_asked signing payload bye none (says.Proof signature) may fit same = absurd (cc)
  none_asked signing payload bye none (says.Ask question) may fit same = none question fit same
  none_asked signing payload bye none says.Bye may fit same = bye same

  pub signed_says : (signing : Signing) (payload : List ℕ) (found : Option (FromClient Q)) → AsksOrBye asking fits payload found → Says asking fits (Standing.Signed signing) payload found
  signed_says signing payload (Some (says.Hello text)) h = absurd h
  signed_says signing payload (Some (says.Proof signature)) h = absurd h
  signed_says signing payload (Some (says.Ask question)) h = record { spelled = h.0; fit = h.1; unfit = λ late. absurd (cc) }
  signed_says signing payload (Some says.Bye) h = record { spelled = h; fit = (tt, tt); unfit = λ late. absurd (cc) }
  signed_says signing payload None h = none_asked signing payload h.0 h.1

  -- ---- before

  late_hello : (signing : Signing) (payload text : List ℕ) → client (clients.Hello text) ≡ payload → FitsClient (clients.Hello text)
      → (f : FromClient Q) → may_come (Standing.Challenged signing) f ≡ true → Fits fits f → payload_from asking f ≢ payload
  late_hello signing payload text spelled fine (says.Hello other) may fit same = absurd (cc)
  late_hello signing payload text spelled fine (says.Proof signature) may fit same =
      let one : clients.Proof signature ≡ clients.Hello text = one_message (clients.Proof signature) (clients.Hello text) fit fine (same ∙ sym spelled) in absurd (cc)
  late_hello signing payload text spelled fine (says.Ask question) may fit same = absurd (cc)
  late_hello signing payload text spelled fine says.Bye may fit same = absurd (cc)

  early_proof : (payload signature : List ℕ) → client (clients.Proof signature) ≡ payload → FitsClient (clients.Proof signature)
      → (f : FromClient Q) → may_come Standing.Unsaid f ≡ true → Fits fits f → payload_from asking f ≢ payload
  early_proof payload signature spelled fine (says.Hello text) may fit same =
      let one : clients.Hello text ≡ clients.Proof signature = one_message (clients.Hello text) (clients.Proof signature) fit fine (same ∙ sym spelled) in absurd (cc)
  early_proof payload signature spelled fine (says.Proof other) may fit same = absurd (cc)
  early_proof payload signature spelled fine (says.Ask question) may fit same = absurd (cc)
  early_proof payload signature spelled fine says.Bye may fit same = absurd (cc)

  none_said : (payload : List ℕ) → ((f : ClientFrame) → is_greeting f ≡ true → FitsClient f → client f ≢ payload)
      → (f : FromClient Q) → may_come Standing.Unsaid f ≡ true → Fits fits f → payload_from asking f ≢ payload
  none_said payload none (says.Hello text) may fit same = none (clients.Hello text) refl fit same
  none_said payload none (says.Proof signature) may fit same = absurd (cc)
  none_said payload none (says.Ask question) may fit same = absurd (cc)
  none_said payload none says.Bye may fit same = absurd (cc)

  none_proved : (signing : Signing) (payload : List ℕ) → ((f : ClientFrame) → is_greeting f ≡ true → FitsClient f → client f ≢ payload)
      → (f : FromClient Q) → may_come (Standing.Challenged signing) f ≡ true → Fits fits f → payload_from asking f ≢ payload
  none_proved signing payload none (says.Hello text) may fit same = absurd (cc)
  none_proved signing payload none (says.Proof signature) may fit same = none (clients.Proof signature) refl fit same
  none_proved signing payload none (says.Ask question) may fit same = absurd (cc)
  none_proved signing payload none says.Bye may fit same = absurd (cc)

  pub unsaid_says : (payload : List ℕ) (found : Option (FromClient Q)) → Greeting payload found → Says asking fits Standing.Unsaid payload found
  unsaid_says payload (Some (says.Hello text)) h = record { spelled = h.0; fit = h.1; unfit = λ late. absurd (cc) }
  unsaid_says payload (Some (says.Proof signature)) h = record { spelled = h.0; fit = h.1; unfit = λ late. early_proof payload signature h.0 h.1 }
  unsaid_says payload (Some (says.Ask question)) h = absurd h
  unsaid_says payload (Some says.Bye) h = absurd h
  unsaid_says payload None h = none_said payload h

  pub challenged_says : (signing : Signing) (payload : List ℕ) (found : Option (FromClient Q)) → Greeting payload found → Says asking fits (Standing.Challenged signing) payload found
  challenged_says signing payload (Some (says.Hello text)) h = record { spelled = h.0; fit = h.1; unfit = λ late. late_hello signing payload text h.0 h.1 }
  challenged_says signing payload (Some (says.Proof signature)) h = record { spelled = h.0; fit = h.1; unfit = λ late. absurd (cc) }
  challenged_says signing payload (Some (says.Ask question)) h = absurd h
  challenged_says signing payload (Some says.Bye) h = absurd h
  challenged_says signing payload None h = none_proved signing payload h

  pub greeting_said : {E : Type 0} (stage : Stage) (payload : List ℕ) (result : Result (Option (FromClient Q)) E) → (stage ≡ stages.Unsaid) ⊎ ((signing : Signing) × (stage ≡ stages.Challenged signing)) → IfOk result (λ found. Greeting payload found)
      → IfOk result (λ found. Says asking fits (standing_at stage) payload found)
  greeting_said stage payload (Err e) is h = h
  greeting_said stage payload (Ok found) (inl is) h = subst (λ (s : Stage). Says asking fits (standing_at s) payload found) (sym is) (unsaid_says payload found h)
  greeting_said stage payload (Ok found) (inr is) h = subst (λ (s : Stage). Says asking fits (standing_at s) payload found) (sym is.1) (challenged_says is.0 payload found h)
