-- One frame more in a connection, by its kind.
use Rattle.std.proofs.Common.{◌≡◌, ◌⊎◌, ℕ, Bool, true, false, List, [], ◌∷◌, ◌++◌, map, refl, sym, ap, subst, ◌∙◌, inl, inr, Result, Ok, Err}
use Rattle.up_ends.specs.Telling.{Grew}
use Rattle.up_ends.specs.declared.verifier.Verdict.TheVariants.{Yes, No}
use Rattle.up_lists.proofs.RunLemmas.{Run-snoc}
use Rattle.up_sign.specs.SigningOn.{Signing, judged_of}
use Rattle.up_talk.specs.Around.{Around, Parties}
use Rattle.up_talk.specs.Challenges.{Greets, Unmet}
use Rattle.up_talk.specs.Messages.{ToClient}
use Rattle.up_talk.specs.Transcripts.{Answered, IsFailed, IsMet, IsRefused, IsServed, Standing, Transcript, may_come}
use Rattle.up_talk.specs.Turns.{AskCame, ByeCame, Handled, HelloCame, ProofCame, Replied, around, comes, standing_at}
use Rattle.up_talk.specs.declared.fault.Stop.{Stop}
use Rattle.up_talk.specs.declared.fault.Stop.TheVariants as stop
use Rattle.up_talk.specs.declared.message.FromClient.{FromClient}
use Rattle.up_talk.specs.declared.message.FromClient.TheVariants as says
use Rattle.up_talk.specs.declared.stage.Stage.{Stage}
use Rattle.up_talk.specs.declared.stage.Stage.TheVariants as stages

-- which questions there are does not decide when they may come
abbrev pub may_at : (Q : Type 0) → Stage → FromClient Q → Bool
may_at Q stage f = may_come (standing_at stage) f

hello_late : (Q : Type 0) (stage : Stage) (text : List ℕ) → comes stage (says.Hello text) ≡ false → may_at Q stage (says.Hello text) ≡ false
hello_late Q stages.Unsaid text e = e
hello_late Q (stages.Challenged signing) text e = refl
hello_late Q (stages.Signed signing) text e = refl

proof_unfit : (Q : Type 0) (stage : Stage) (signature : List ℕ) → comes stage (says.Proof signature) ≡ false → may_at Q stage (says.Proof signature) ≡ false
proof_unfit Q stages.Unsaid signature e = refl
proof_unfit Q (stages.Challenged signing) signature e = e
proof_unfit Q (stages.Signed signing) signature e = refl

bye_is : (Q : Type 0) (stage : Stage) (b : Bool) → comes stage says.Bye ≡ b → may_at Q stage says.Bye ≡ b
bye_is Q stages.Unsaid b e = e
bye_is Q (stages.Challenged signing) b e = e
bye_is Q (stages.Signed signing) b e = e

module _ {A V C N Q R : Type 0} (who : Parties A V C N Q R) where
  -- the connection at this stage is one that stands so
  at_stage : (a b : Around A V C N) (one other : Stage) (came : List (FromClient Q)) (made : List (ToClient R)) → one ≡ other → Transcript who a (standing_at one) came made b → Transcript who a (standing_at other) came made b
  at_stage a b one other came made is t = subst (λ (s : Stage). Transcript who a (standing_at s) came made b) is t

  -- what holds before the first frame holds of the start
  from_start : (P : Around A V C N → List (FromClient Q) → List (ToClient R) → Type 0) (a b : Around A V C N) (came : List (FromClient Q)) (made : List (ToClient R)) → Transcript who a Standing.Unsaid came made b → P b [] [] → P a came made
  from_start P a b came made t p = subst (λ (s : Around A V C N). P s came made) t.2 (subst (λ (f : List (FromClient Q)). P b f made) (sym t.0) (subst (λ (m : List (ToClient R)). P b [] m) (sym t.1) p))

  -- ---- Hello

  greeted : (a b : A) (n m : N) (v : V) (c : C) (text : List ℕ) (signing : Signing) (nonce : List ℕ) → Greets who.name who.looked who.challenges text a n signing nonce b m
      → IsMet who (around a v c n) signing (says.Hello text ∷ []) (ToClient.Challenge nonce ∷ []) (around b v c m)
  greeted a b n m v c text signing nonce greets = record { text = text; nonce = nonce; came_is = refl; made_is = refl; challenged = record { greets = greets; verifier = refl; clock = refl } }

  unmet : (a b : A) (n m : N) (v : V) (c : C) (text : List ℕ) → Unmet who.name who.looked who.challenges text a n b m
      → IsRefused who (around a v c n) (says.Hello text ∷ []) (ToClient.NotSigned ∷ []) (around b v c m)
  unmet a b n m v c text not_met = IsRefused.unknown refl refl (record { unmet = not_met; verifier = refl; clock = refl })

  pub hello_handled : (text : List ℕ) (stage then : Stage) (a b : A) (v : V) (c : C) (n m : N) (out new : List ℕ) (result : Result (Unit {0}) Stop) → HelloCame who.name who.looked who.challenges text stage a n out result then b m new
      → Handled who (standing_at stage) (around a v c n) (says.Hello text) out result (standing_at then) (around b v c m) new
  hello_handled text stage then a b v c n m out new (Ok done) h = λ start came made t.
      let begun = at_stage start (around a v c n) stage stages.Unsaid came made h.0 t in
      let signing = h.1.0 in
      let nonce = h.1.1.0 in (
        ToClient.Challenge nonce,
        (
          at_stage start (around b v c m) (stages.Challenged signing) then (came ++ says.Hello text ∷ []) (made ++ ToClient.Challenge nonce ∷ []) (sym h.1.1.1.1)
              (from_start (λ (s : Around A V C N) (fs : List (FromClient Q)) (ms : List (ToClient R)). IsMet who s signing (fs ++ says.Hello text ∷ []) (ms ++ ToClient.Challenge nonce ∷ []) (around b v c m)) start (around a v c n) came made begun
              (greeted a b n m v c text signing nonce h.1.1.1.0)),
          h.1.1.1.2,
        ),
      )
  hello_handled text stage then a b v c n m out new (Err stop.Unfit) h = λ start came made t.
      (hello_late Q stage text h.0, (λ i. around (h.1 i) v c (h.2 i)), h.3)
  hello_handled text stage then a b v c n m out new (Err stop.NotSigned) h = λ start came made t.
      let begun = at_stage start (around a v c n) stage stages.Unsaid came made h.0 t in (
        from_start (λ (s : Around A V C N) (fs : List (FromClient Q)) (ms : List (ToClient R)). IsRefused who s (fs ++ says.Hello text ∷ []) (ms ++ ToClient.NotSigned ∷ []) (around b v c m)) start (around a v c n) came made begun (unmet a b n m v c text h.1),
        h.2,
      )
  hello_handled text stage then a b v c n m out new (Err stop.OutOfMemory) h = λ start came made t.
      let begun = at_stage start (around a v c n) stage stages.Unsaid came made h.0 t in
      (h.1, by start came made begun h.2)
    where
      by : (start : Around A V C N) (came : List (FromClient Q)) (made : List (ToClient R)) → Transcript who start Standing.Unsaid came made (around a v c n)
          → ((b ≡ a) × (m ≡ n)) ⊎ (Unmet who.name who.looked who.challenges text a n b m ⊎ ((signing : Signing) × ((nonce : List ℕ) × Greets who.name who.looked who.challenges text a n signing nonce b m)))
          → (around b v c m ≡ around a v c n) ⊎ ((last : Standing) × ((sent : ToClient R) × Transcript who start last (came ++ says.Hello text ∷ []) (made ++ sent ∷ []) (around b v c m)))
      by start came made begun (inl same) = inl (λ i. around (same.0 i) v c (same.1 i))
      by start came made begun (inr (inl not_met)) = inr (
        Standing.Refused,
        (
          ToClient.NotSigned,
          from_start (λ (s : Around A V C N) (fs : List (FromClient Q)) (ms : List (ToClient R)). IsRefused who s (fs ++ says.Hello text ∷ []) (ms ++ ToClient.NotSigned ∷ []) (around b v c m)) start (around a v c n) came made begun (unmet a b n m v c text not_met),
        ),
      )
      by start came made begun (inr (inr met)) = inr (
        Standing.Challenged met.0,
        (
          ToClient.Challenge met.1.0,
          from_start (λ (s : Around A V C N) (fs : List (FromClient Q)) (ms : List (ToClient R)). IsMet who s met.0 (fs ++ says.Hello text ∷ []) (ms ++ ToClient.Challenge met.1.0 ∷ []) (around b v c m)) start (around a v c n) came made begun
              (greeted a b n m v c text met.0 met.1.0 met.1.1),
        ),
      )
  hello_handled text stage then a b v c n m out new (Err stop.Bye) h = absurd h
  hello_handled text stage then a b v c n m out new (Err stop.HelperFault) h = absurd h

  -- ---- Proof

  -- what holds of these two frames and this challenge holds of what came and was made
  from_met : (P : List (FromClient Q) → List (ToClient R) → Type 0) (came : List (FromClient Q)) (made : List (ToClient R)) (text nonce : List ℕ) → came ≡ says.Hello text ∷ [] → made ≡ ToClient.Challenge nonce ∷ []
      → P (says.Hello text ∷ []) (ToClient.Challenge nonce ∷ []) → P came made
  from_met P came made text nonce e g p = subst (λ (f : List (FromClient Q)). P f made) (sym e) (subst (λ (m : List (ToClient R)). P (says.Hello text ∷ []) m) (sym g) p)

  -- the verdict was Yes
  proved : (start : Around A V C N) (a : A) (v w : V) (c : C) (n : N) (signature : List ℕ) (signing : Signing) (came : List (FromClient Q)) (made : List (ToClient R)) → IsMet who start signing came made (around a v c n)
      → Grew (who.judged v) (who.judged w) (judged_of signing signature Yes ∷ []) → IsServed who start signing (came ++ says.Proof signature ∷ []) (made ++ ToClient.Welcome ∷ []) (around a w c n)
  proved start a v w c n signature signing came made met grew =
      from_met (λ (f : List (FromClient Q)) (m : List (ToClient R)). IsServed who start signing (f ++ says.Proof signature ∷ []) (m ++ ToClient.Welcome ∷ []) (around a w c n)) came made met.text met.nonce met.came_is met.made_is
      (record {
        text = met.text;
        nonce = met.nonce;
        signature = signature;
        questions = [];
        answers = [];
        before = around a w c n;
        came_is = refl;
        made_is = refl;
        judged = record { before = around a v c n; challenged = met.challenged; judged = grew; rest = refl };
        run = refl;
      })

  -- it was No
  denied : (start : Around A V C N) (a : A) (v w : V) (c : C) (n : N) (signature : List ℕ) (signing : Signing) (came : List (FromClient Q)) (made : List (ToClient R)) → IsMet who start signing came made (around a v c n)
      → Grew (who.judged v) (who.judged w) (judged_of signing signature No ∷ []) → IsRefused who start (came ++ says.Proof signature ∷ []) (made ++ ToClient.NotSigned ∷ []) (around a w c n)
  denied start a v w c n signature signing came made met grew =
      from_met (λ (f : List (FromClient Q)) (m : List (ToClient R)). IsRefused who start (f ++ says.Proof signature ∷ []) (m ++ ToClient.NotSigned ∷ []) (around a w c n)) came made met.text met.nonce met.came_is met.made_is
      (IsRefused.denied refl refl (record { before = around a v c n; challenged = met.challenged; judged = grew; rest = refl }))

  -- there was none
  unjudged : (start : Around A V C N) (a : A) (v w : V) (c : C) (n : N) (signature : List ℕ) (signing : Signing) (came : List (FromClient Q)) (made : List (ToClient R)) → IsMet who start signing came made (around a v c n)
      → who.judged w ≡ who.judged v → IsFailed who start (came ++ says.Proof signature ∷ []) made (around a w c n)
  unjudged start a v w c n signature signing came made met same =
      from_met (λ (f : List (FromClient Q)) (m : List (ToClient R)). IsFailed who start (f ++ says.Proof signature ∷ []) m (around a w c n)) came made met.text met.nonce met.came_is met.made_is
      (record {
        text = met.text;
        nonce = met.nonce;
        signature = signature;
        signing = signing;
        came_is = refl;
        made_is = refl;
        unjudged = record { before = around a v c n; challenged = met.challenged; judged = same; rest = refl };
      })

  pub proof_handled : (signature : List ℕ) (stage then : Stage) (a : A) (v w : V) (c : C) (n : N) (out new : List ℕ) (result : Result (Unit {0}) Stop) → ProofCame who.judged signature stage v out result then w new
      → Handled who (standing_at stage) (around a v c n) (says.Proof signature) out result (standing_at then) (around a w c n) new
  proof_handled signature stage then a v w c n out new (Ok done) h = λ start came made t.
      let signing = h.0 in
      let met = at_stage start (around a v c n) stage (stages.Challenged signing) came made h.1.0 t in (
        ToClient.Welcome,
        (at_stage start (around a w c n) (stages.Signed signing) then (came ++ says.Proof signature ∷ []) (made ++ ToClient.Welcome ∷ []) (sym h.1.1) (proved start a v w c n signature signing came made met h.1.2), h.1.3),
      )
  proof_handled signature stage then a v w c n out new (Err stop.Unfit) h = λ start came made t. (proof_unfit Q stage signature h.0, (λ i. around a (h.1 i) c n), h.2)
  proof_handled signature stage then a v w c n out new (Err stop.NotSigned) h = λ start came made t.
      let met = at_stage start (around a v c n) stage (stages.Challenged h.0) came made h.1.0 t in
      (denied start a v w c n signature h.0 came made met h.1.1, h.1.2)
  proof_handled signature stage then a v w c n out new (Err stop.HelperFault) h = λ start came made t.
      let met = at_stage start (around a v c n) stage (stages.Challenged h.0) came made h.1.0 t in
      (unjudged start a v w c n signature h.0 came made met h.1.1, h.1.2)
  proof_handled signature stage then a v w c n out new (Err stop.OutOfMemory) h = λ start came made t.
      let met = at_stage start (around a v c n) stage (stages.Challenged h.0) came made h.1.0 t in
      (h.1.1, by start came made met h.1.2)
    where
      by : (start : Around A V C N) (came : List (FromClient Q)) (made : List (ToClient R)) → IsMet who start h.0 came made (around a v c n)
          → Grew (who.judged v) (who.judged w) (judged_of h.0 signature Yes ∷ []) ⊎ Grew (who.judged v) (who.judged w) (judged_of h.0 signature No ∷ [])
          → (around a w c n ≡ around a v c n) ⊎ ((last : Standing) × ((sent : ToClient R) × Transcript who start last (came ++ says.Proof signature ∷ []) (made ++ sent ∷ []) (around a w c n)))
      by start came made met (inl yes_) = inr (Standing.Signed h.0, (ToClient.Welcome, proved start a v w c n signature h.0 came made met yes_))
      by start came made met (inr no_) = inr (Standing.Refused, (ToClient.NotSigned, denied start a v w c n signature h.0 came made met no_))
  proof_handled signature stage then a v w c n out new (Err stop.Bye) h = absurd h

  -- ---- questions

  map_more : {X Y : Type 0} (f : X → Y) (xs : List X) (x : X) → map f (xs ++ x ∷ []) ≡ map f xs ++ f x ∷ []
  map_more f [] x = refl
  map_more f (y ∷ ys) x = ap (λ t. f y ∷ t) (map_more f ys x)

  answered : (start : Around A V C N) (a b : A) (v : V) (c d : C) (n : N) (question : Q) (answer : R) (stage : Stage) (came : List (FromClient Q)) (made : List (ToClient R)) (h : Replied who.answering who.asked who.moments question stage a c answer b d)
      → IsServed who start h.signing came made (around a v c n) → IsServed who start h.signing (came ++ says.Ask question ∷ []) (made ++ ToClient.Answer answer ∷ []) (around b v d n)
  answered start a b v c d n question answer stage came made h served = record {
    text = served.text;
    nonce = served.nonce;
    signature = served.signature;
    questions = served.questions ++ question ∷ [];
    answers = served.answers ++ answer ∷ [];
    before = served.before;
    came_is = ap (λ (t : List (FromClient Q)). t ++ says.Ask question ∷ []) served.came_is ∙ ap (λ (t : List (FromClient Q)). says.Hello served.text ∷ (says.Proof served.signature ∷ t)) (sym (map_more (λ q. says.Ask q) served.questions question));
    made_is = ap (λ (t : List (ToClient R)). t ++ ToClient.Answer answer ∷ []) served.made_is ∙ ap (λ (t : List (ToClient R)). ToClient.Challenge served.nonce ∷ (ToClient.Welcome ∷ t)) (sym (map_more (λ r. ToClient.Answer r) served.answers answer));
    judged = served.judged;
    run = Run-snoc (Answered who h.signing.user) served.before (around a v c n) (around b v d n) served.questions question served.answers answer served.run (record { moment = h.moment; read = h.read; asked = h.asked; verifier = refl; nonces = refl });
  }

  pub ask_handled : (question : Q) (stage : Stage) (a b : A) (v : V) (c d : C) (n : N) (out new : List ℕ) (result : Result (Unit {0}) Stop) → AskCame who.answering who.asked who.moments question stage a c out result b d new
      → Handled who (standing_at stage) (around a v c n) (says.Ask question) out result (standing_at stage) (around b v d n) new
  ask_handled question stage a b v c d n out new (Ok done) h = λ start came made t.
      let served = at_stage start (around a v c n) stage (stages.Signed h.1.0.signing) came made h.1.0.stage_is t in (
        ToClient.Answer h.0,
        (at_stage start (around b v d n) (stages.Signed h.1.0.signing) stage (came ++ says.Ask question ∷ []) (made ++ ToClient.Answer h.0 ∷ []) (sym h.1.0.stage_is) (answered start a b v c d n question h.0 stage came made h.1.0 served), h.1.1),
      )
  ask_handled question stage a b v c d n out new (Err stop.Unfit) h = λ start came made t. (h.0, (λ i. around (h.1 i) v (h.2 i) n), h.3)
  ask_handled question stage a b v c d n out new (Err stop.OutOfMemory) h = λ start came made t.
      let served = at_stage start (around a v c n) stage (stages.Signed h.1.0.signing) came made h.1.0.stage_is t in
      (h.1.1, inr (Standing.Signed h.1.0.signing, (ToClient.Answer h.0, answered start a b v c d n question h.0 stage came made h.1.0 served)))
  ask_handled question stage a b v c d n out new (Err stop.NotSigned) h = absurd h
  ask_handled question stage a b v c d n out new (Err stop.HelperFault) h = absurd h
  ask_handled question stage a b v c d n out new (Err stop.Bye) h = absurd h

  -- ---- Bye

  pub bye_handled : (stage : Stage) (b : Around A V C N) (out : List ℕ) (result : Result (Unit {0}) Stop) → ByeCame stage result → Handled who (standing_at stage) b says.Bye out result (standing_at stage) b out
  bye_handled stage b out (Ok done) h = absurd h
  bye_handled stage b out (Err stop.Unfit) h = λ start came made t. (bye_is Q stage false h, refl, refl)
  bye_handled stage b out (Err stop.Bye) h = λ start came made t. (refl, bye_is Q stage true h, refl, refl)
  bye_handled stage b out (Err stop.NotSigned) h = absurd h
  bye_handled stage b out (Err stop.HelperFault) h = absurd h
  bye_handled stage b out (Err stop.OutOfMemory) h = absurd h
