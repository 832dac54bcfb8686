-- A connection on which nothing is amiss ends well.
use Rattle.std.proofs.Common.{◌≡◌, ◌≢◌, ◌⊎◌, ◌+◌, ◌<◌, ◌≤◌, ◌^◌, ℕ, true, List, [], ◌∷◌, ◌++◌, length, map, take, drop, refl, sym, ap, subst, ◌∙◌, inl, inr, append_assoc, append-nil, length-append, arith, Option, Some, None, Ok}
use Rattle.std.specs.Io.KnownBytes.{Consumes, IsAtEnd}
use Rattle.std.specs.Int.{from_be_bytes, w32}
use Rattle.std.specs.List.{AllByRecursion}
use Rattle.std.proofs.lemmas.List.{take-append-le}
use Rattle.up_ends.specs.Telling.{Grew}
use Rattle.up_ends.specs.declared.verifier.Judged.{Judged}
use Rattle.up_ends.specs.declared.verifier.Verdict.TheVariants.{Yes}
use Rattle.up_frame.specs.Stream.{IsPartial, IsPayload, frame, frames, told}
use Rattle.up_frame.proofs.Cuts.{cut-frame, length-frame, told-frame}
use Rattle.up_names.specs.Texts.{UserName}
use Rattle.up_names.specs.UserNames.{user_of}
use Rattle.up_sign.specs.SigningOn.{Signing}
use Rattle.up_talk.specs.Around.{Around, Parties, World}
use Rattle.up_talk.specs.Challenges.{Unmet}
use Rattle.up_talk.specs.Completing.{Completes, IsInOrder, asks_all}
use Rattle.up_talk.specs.Limits.{longest}
use Rattle.up_talk.specs.Messages.{Fits, ToClient, payload_from}
use Rattle.up_talk.specs.Talks.{NoFrame, SaysBye, Talks, bytes_from, is_open}
use Rattle.up_talk.specs.Transcripts.{IsRefused, Standing, Transcript, may_come}
use Rattle.up_talk.specs.declared.end.TalkEnd.{TalkEnd}
use Rattle.up_talk.specs.declared.end.TalkEnd.TheVariants as talk
use Rattle.up_talk.specs.declared.message.FromClient.{FromClient}
use Rattle.up_talk.specs.declared.message.FromClient.TheVariants as says
use Rattle.up_talk.proofs.ReadingLemmas.{one_message}
use Rattle.up_wire.specs.Spelling.{client}
use Rattle.up_wire.specs.declared.messages.ClientFrame.TheVariants as clients

-- ---- frames

-- bytes that begin with two frames begin with one
frame_front : (x y r s : List ℕ) → length x < 2 ^ 32 → length y < 2 ^ 32 → frame x ++ r ≡ frame y ++ s → (x ≡ y) × (r ≡ s)
frame_front x y r s fx fy same =
    let long : length x ≡ length y = sym (told-frame x r fx) ∙ ap told same ∙ told-frame y s fy in (
      sym (cut-frame x r).0 ∙ ap (λ (t : List ℕ). take (length x) (drop 4 t)) same ∙ ap (λ (n : ℕ). take n (drop 4 (frame y ++ s))) long ∙ (cut-frame y s).0,
      sym (cut-frame x r).1 ∙ ap (λ (t : List ℕ). drop (4 + length x) t) same ∙ ap (λ (n : ℕ). drop (4 + n) (frame y ++ s)) long ∙ (cut-frame y s).1,
    )

-- what is told, whatever follows
told_more : (bytes more : List ℕ) → 4 ≤ length bytes → told (bytes ++ more) ≡ told bytes
unfolding told
told_more bytes more le = ap (from_be_bytes w32) (take-append-le 4 bytes more le)

-- no bytes begin with a frame
no_frame : (x r s : List ℕ) → s ≡ [] → frame x ++ r ≡ s → ⊥
no_frame x r s none same =
    let n : length (frame x ++ r) ≡ 0 = ap length (same ∙ none) in
    omega (arith, n, length-append (frame x) r, length-frame x)

-- what is read of told bytes is their front
record Front (old new : Option (List ℕ)) (bytes all : List ℕ) : Type 0 where
  more : List ℕ
  new_is : new ≡ Some more
  whole : all ≡ bytes ++ more

front_of : (old new : Option (List ℕ)) (bytes all : List ℕ) → old ≡ Some all → Consumes old new bytes → Front old new bytes all
front_of None new bytes all is taken = absurd (cc)
front_of (Some xs) None bytes all is taken = absurd taken
front_of (Some xs) (Some ys) bytes all is taken = let same : xs ≡ all = cc in record { more = ys; new_is = refl; whole = sym same ∙ taken }

at_end : (new : Option (List ℕ)) (more : List ℕ) → new ≡ Some more → IsAtEnd new → more ≡ []
at_end None more is end = absurd (cc)
at_end (Some xs) more is end = let same : xs ≡ more = cc in sym same ∙ end

module _ {A V C N Q R : Type 0} (who : Parties A V C N Q R) (one_question : (one other : Q) → who.fits one → who.fits other → who.asking one ≡ who.asking other → one ≡ other)
    (no_bye : (question : Q) → who.fits question → who.asking question ≢ client clients.Bye) where
  abbrev payload : FromClient Q → List ℕ
  payload f = payload_from who.asking f

  abbrev Good : FromClient Q → Type 0
  Good f = Fits who.fits f × IsPayload longest (payload f)

  module _ (text signature : List ℕ) (questions : List Q) (last : List (FromClient Q)) where
    -- what is left of a client's frames behind those that came: none, and all was asked; or the next may come, and where it is Bye, all was
    -- asked
    abbrev Onward : Standing → List (FromClient Q) → List (FromClient Q) → Type 0
    Onward standing came [] = came ≡ asks_all text signature questions
    Onward standing came (f ∷ fs) =
        (may_come standing f ≡ true) × Good f × (payload f ≡ client clients.Bye → may_come {Q = Q} standing says.Bye ≡ true → came ≡ asks_all text signature questions)

    record Met (standing : Standing) (came : List (FromClient Q)) (tail : List ℕ) : Type 0 where
      left : List (FromClient Q)
      tail_is : tail ≡ frames (map payload left)
      onward : Onward standing came left

    -- ---- what is left, by how the connection stands

    met_unsaid : (tail : List ℕ) → Good (says.Hello text) → tail ≡ frames (map payload (asks_all text signature questions ++ last)) → Met Standing.Unsaid [] tail
    met_unsaid tail good same = record { left = asks_all text signature questions ++ last; tail_is = same; onward = (refl, good, λ bye may. absurd (cc)) }

    hello_is : (other : List ℕ) → Good (says.Hello text) → Good (says.Hello other) → payload (says.Hello other) ≡ payload (says.Hello text) → other ≡ text
    hello_is other good fine same = let one : clients.Hello other ≡ clients.Hello text = one_message (clients.Hello other) (clients.Hello text) fine.0 good.0 same in cc

    proof_is : (other : List ℕ) → Good (says.Proof signature) → Good (says.Proof other) → payload (says.Proof other) ≡ payload (says.Proof signature) → other ≡ signature
    proof_is other good fine same = let one : clients.Proof other ≡ clients.Proof signature = one_message (clients.Proof other) (clients.Proof signature) fine.0 good.0 same in cc

    met_challenged : (signing : Signing) (other tail : List ℕ) → Good (says.Hello text) → Good (says.Proof signature) → Good (says.Hello other)
        → frames (map payload (says.Hello other ∷ [])) ++ tail ≡ frames (map payload (asks_all text signature questions ++ last)) → Met (Standing.Challenged signing) (says.Hello other ∷ []) tail
    met_challenged signing other tail good proof fine same =
        let behind = says.Proof signature ∷ (map says.Ask questions ++ last) in
        let cut = frame_front (payload (says.Hello other)) (payload (says.Hello text)) ([] ++ tail) (frames (map payload behind)) fine.1.counted good.1.counted (sym (append_assoc (frame (payload (says.Hello other))) [] tail) ∙ same) in
        record { left = behind; tail_is = cut.1; onward = (refl, proof, λ bye may. absurd (cc)) }

    -- the questions that came are the first ones
    record Asked (came : List Q) (tail : List ℕ) (asked : List Q) : Type 0 where
      left : List Q
      asked_is : asked ≡ came ++ left
      tail_is : tail ≡ frames (map payload (map says.Ask left ++ last))
      good : AllByRecursion Good (map says.Ask left ++ last)

    no_more : (q : Q) (qs : List Q) (tail : List ℕ) (ends : List (FromClient Q)) → (ends ≡ []) ⊎ (ends ≡ says.Bye ∷ []) → Good (says.Ask q) → AllByRecursion Good ends
        → frame (who.asking q) ++ (frames (map payload (map says.Ask qs)) ++ tail) ≡ frames (map payload ends) → ⊥
    no_more q qs tail [] is fine good same = no_frame (who.asking q) _ [] refl same
    no_more q qs tail (f ∷ fs) (inl none) fine good same = absurd (cc)
    no_more q qs tail (f ∷ fs) (inr bye) fine good same =
        let first : f ≡ says.Bye = cc in
        let cut = frame_front (who.asking q) (payload f) _ _ fine.1.counted good.0.1.counted same in
        no_bye q fine.0 (cut.0 ∙ ap payload first)

    asked : (came asks : List Q) (tail : List ℕ) → (last ≡ []) ⊎ (last ≡ says.Bye ∷ []) → AllByRecursion Good (map says.Ask came) → AllByRecursion Good (map says.Ask asks ++ last)
        → frames (map payload (map says.Ask came)) ++ tail ≡ frames (map payload (map says.Ask asks ++ last)) → Asked came tail asks
    asked [] asks tail is fine good same = record { left = asks; asked_is = refl; tail_is = same; good = good }
    asked (q ∷ qs) [] tail is fine good same =
        absurd (no_more q qs tail last is fine.0 good (sym (append_assoc (frame (who.asking q)) (frames (map payload (map says.Ask qs))) tail) ∙ same))
    asked (q ∷ qs) (r ∷ rs) tail is fine good same =
        let cut = frame_front (who.asking q) (who.asking r) (frames (map payload (map says.Ask qs)) ++ tail) (frames (map payload (map says.Ask rs ++ last))) fine.0.1.counted good.0.1.counted
        (sym (append_assoc (frame (who.asking q)) (frames (map payload (map says.Ask qs))) tail) ∙ same) in
        let one : q ≡ r = one_question q r fine.0.0 good.0.0 cut.0 in
        let rest = asked qs rs tail is fine.1 good.1 cut.1 in
        record { left = rest.left; asked_is = ap (λ (x : Q). x ∷ rs) (sym one) ∙ ap (λ (xs : List Q). q ∷ xs) rest.asked_is; tail_is = rest.tail_is; good = rest.good }

    signed_on : (signing : Signing) (came : List (FromClient Q)) (left : List Q) (ends : List (FromClient Q)) → (ends ≡ []) ⊎ (ends ≡ says.Bye ∷ []) → AllByRecursion Good (map says.Ask left ++ ends)
        → (left ≡ [] → came ≡ asks_all text signature questions) → Onward (Standing.Signed signing) came (map says.Ask left ++ ends)
    signed_on signing came (q ∷ left) ends is good all = (refl, good.0, λ bye may. absurd (no_bye q good.0.0 bye))
    signed_on signing came [] [] is good all = all refl
    signed_on signing came [] (f ∷ fs) (inl none) good all = absurd (cc)
    signed_on signing came [] (f ∷ fs) (inr bye) good all =
        let first : f ≡ says.Bye = cc in (ap (may_come (Standing.Signed signing)) first, good.0, λ same may. all refl)

    met_signed : (signing : Signing) (other proof tail : List ℕ) (came : List Q) → (last ≡ []) ⊎ (last ≡ says.Bye ∷ []) → AllByRecursion Good (asks_all text signature questions ++ last)
        → AllByRecursion Good (asks_all other proof came) → frames (map payload (asks_all other proof came)) ++ tail ≡ frames (map payload (asks_all text signature questions ++ last))
        → Met (Standing.Signed signing) (asks_all other proof came) tail
    met_signed signing other proof tail came is good fine same =
        let asks = frames (map payload (map says.Ask came)) in
        let behind = frames (map payload (map says.Ask questions ++ last)) in
        let hello = frame (payload (says.Hello other)) in
        let proved = frame (payload (says.Proof proof)) in
        let one = frame_front (payload (says.Hello other)) (payload (says.Hello text)) ((proved ++ asks) ++ tail) (frame (payload (says.Proof signature)) ++ behind) fine.0.1.counted good.0.1.counted
        (sym (append_assoc hello (proved ++ asks) tail) ∙ same) in
        let two = frame_front (payload (says.Proof proof)) (payload (says.Proof signature)) (asks ++ tail) behind fine.1.0.1.counted good.1.0.1.counted (sym (append_assoc proved asks tail) ∙ one.1) in
        let rest = asked came questions tail is fine.1.1 good.1.1 two.1 in
        let who_is : other ≡ text = hello_is other good.0 fine.0 one.0 in
        let how : proof ≡ signature = proof_is proof good.1.0 fine.1.0 two.0 in
        record {
          left = map says.Ask rest.left ++ last;
          tail_is = rest.tail_is;
          onward = signed_on signing (asks_all other proof came) rest.left last is rest.good
              (λ none. let all : came ≡ questions = sym (append-nil came) ∙ ap (λ (xs : List Q). came ++ xs) (sym none) ∙ sym rest.asked_is in
              λ i. asks_all (who_is i) (how i) (all i));
        }

    -- ---- the ends

    -- all was read, behind a frame
    all_read : (standing : Standing) (came left : List (FromClient Q)) (tail : List ℕ) → Onward standing came left → tail ≡ frames (map payload left) → tail ≡ [] → came ≡ asks_all text signature questions
    all_read standing came [] tail on same none = on
    all_read standing came (f ∷ fs) tail on same none = absurd (no_frame (payload f) (frames (map payload fs)) tail none (sym same))

    -- Bye was read
    bye_read : (standing : Standing) (came left : List (FromClient Q)) (rest more : List ℕ) → Onward standing came left → rest ++ more ≡ frames (map payload left) → SaysBye who standing rest → came ≡ asks_all text signature questions
    bye_read standing came [] rest more on same bye = on
    bye_read standing came (f ∷ fs) rest more on same bye =
        let bytes = client clients.Bye in
        let joined : frame bytes ++ (bye.begins.more ++ more) ≡ frame (payload f) ++ frames (map payload fs) = sym (append_assoc (frame bytes) bye.begins.more more) ∙ ap (λ (t : List ℕ). t ++ more) bye.begins.whole ∙ same in
        let cut = frame_front bytes (payload f) (bye.begins.more ++ more) (frames (map payload fs)) bye.begins.fits.counted on.1.1.counted joined in
        on.2 (sym cut.0) bye.may

    -- the input did not end within a frame
    not_cut : (standing : Standing) (came left : List (FromClient Q)) (rest : List ℕ) → Onward standing came left → rest ≡ frames (map payload left) → rest ≢ [] → IsPartial longest rest → ⊥
    not_cut standing came [] rest on same some partial = some same
    not_cut standing came (f ∷ fs) rest on same some partial =
        let long : length rest ≡ length (frame (payload f)) + length (frames (map payload fs)) = ap length same ∙ length-append (frame (payload f)) (frames (map payload fs)) in
        let tells : told rest ≡ length (payload f) = ap told same ∙ told-frame (payload f) (frames (map payload fs)) on.1.1.counted in
        elim partial [
          | inl short ↦ omega (arith, short, long, length-frame (payload f))
          | inr begun ↦ (let wanting : length rest < 4 + told rest = begun.wanting in omega (arith, wanting, tells, long, length-frame (payload f)))
        ]

    -- each frame that began might come
    told_on : (rest more : List ℕ) (n : ℕ) → 4 ≤ length rest → told (rest ++ more) ≡ n → told rest ≡ n
    told_on rest more n le is = sym (told_more rest more le) ∙ is

    good_frame : (standing : Standing) (came left : List (FromClient Q)) (rest more : List ℕ) → Onward standing came left → rest ++ more ≡ frames (map payload left) → NoFrame who standing rest → ⊥
    good_frame standing came [] rest more on same (inl bad) = let n : length (rest ++ more) ≡ 0 = ap length same in omega (arith, n, length-append rest more, bad.0)
    good_frame standing came [] rest more on same (inr unfit) =
        let begins = unfit.1.0 in no_frame unfit.0 (begins.more ++ more) [] refl (sym (append_assoc (frame unfit.0) begins.more more) ∙ ap (λ (t : List ℕ). t ++ more) begins.whole ∙ same)
    good_frame standing came (f ∷ fs) rest more on same (inl bad) =
        let tells : told rest ≡ length (payload f) = told_on rest more (length (payload f)) bad.0 (ap told same ∙ told-frame (payload f) (frames (map payload fs)) on.1.1.counted) in
        let some : 0 < length (payload f) = on.1.1.some in
        let most : length (payload f) ≤ longest = on.1.1.most in
        elim bad.1 [ inl none ↦ omega (arith, none, tells, some) | inr over ↦ omega (arith, over, tells, most) ]
    good_frame standing came (f ∷ fs) rest more on same (inr unfit) =
        let begins = unfit.1.0 in
        let cut = frame_front unfit.0 (payload f) (begins.more ++ more) (frames (map payload fs)) begins.fits.counted on.1.1.counted (sym (append_assoc (frame unfit.0) begins.more more) ∙ ap (λ (t : List ℕ). t ++ more) begins.whole ∙ same) in
        unfit.1.1 f on.0 on.1.0 (sym cut.0)

  -- ---- what is left, by the transcript

  met_by : (text signature : List ℕ) (questions : List Q) (last : List (FromClient Q)) (start now : Around A V C N) (standing : Standing) (came : List (FromClient Q)) (made : List (ToClient R)) (tail : List ℕ) → (last ≡ []) ⊎ (last ≡ says.Bye ∷ [])
      → AllByRecursion Good (asks_all text signature questions ++ last) → AllByRecursion Good came → is_open standing ≡ true → Transcript who start standing came made now
      → frames (map payload came) ++ tail ≡ frames (map payload (asks_all text signature questions ++ last)) → Met text signature questions last standing came tail
  met_by text signature questions last start now Standing.Unsaid came made tail is good fine goes t same =
      let all = frames (map payload (asks_all text signature questions ++ last)) in
      subst (λ (c : List (FromClient Q)). Met text signature questions last Standing.Unsaid c tail) (sym t.0)
      (met_unsaid text signature questions last tail good.0 (subst (λ (c : List (FromClient Q)). frames (map payload c) ++ tail ≡ all) t.0 same))
  met_by text signature questions last start now (Standing.Challenged signing) came made tail is good fine goes t same =
      let all = frames (map payload (asks_all text signature questions ++ last)) in
      let first = says.Hello t.text ∷ [] in
      let fine_first : AllByRecursion Good first = subst (AllByRecursion Good) t.came_is fine in
      subst (λ (c : List (FromClient Q)). Met text signature questions last (Standing.Challenged signing) c tail) (sym t.came_is)
      (met_challenged text signature questions last signing t.text tail good.0 good.1.0 fine_first.0 (subst (λ (c : List (FromClient Q)). frames (map payload c) ++ tail ≡ all) t.came_is same))
  met_by text signature questions last start now (Standing.Signed signing) came made tail is good fine goes t same =
      let all = frames (map payload (asks_all text signature questions ++ last)) in
      let some = asks_all t.text t.signature t.questions in
      let fine_all : AllByRecursion Good some = subst (AllByRecursion Good) t.came_is fine in
      subst (λ (c : List (FromClient Q)). Met text signature questions last (Standing.Signed signing) c tail) (sym t.came_is)
      (met_signed text signature questions last signing t.text t.signature tail t.questions is good fine_all (subst (λ (c : List (FromClient Q)). frames (map payload c) ++ tail ≡ all) t.came_is same))
  met_by text signature questions last start now Standing.Refused came made tail is good fine goes t same = absurd (cc)
  met_by text signature questions last start now Standing.Failed came made tail is good fine goes t same = absurd (cc)

  -- ---- who is known and judged Yes is not refused

  known_user : (text other : List ℕ) (user : UserName) (a b : A) (n m : N) → user_of text ≡ Ok user → ((c : A) → who.looked a user None c → ⊥) → other ≡ text → Unmet who.name who.looked who.challenges other a n b m → ⊥
  known_user text other user a b n m is known same (Unmet.no_user none here there) = let yes_ : user_of other ≡ Ok user = ap user_of same ∙ is in absurd (cc)
  known_user text other user a b n m is known same (Unmet.no_record found looked there) =
      known b (subst (λ (u : UserName). who.looked a u None b) (let both : user_of other ≡ Ok user = ap user_of same ∙ is in cc) looked)

  not_refused : (text signature : List ℕ) (questions : List Q) (last : List (FromClient Q)) (user : UserName) (start now : Around A V C N) (came : List (FromClient Q)) (made : List (ToClient R)) (tail : List ℕ)
      → AllByRecursion Good (asks_all text signature questions ++ last) → AllByRecursion Good came → user_of text ≡ Ok user → ((c : A) → who.looked start.answerer user None c → ⊥)
      → ((judged : Judged) → Grew (who.judged start.verifier) (who.judged now.verifier) (judged ∷ []) → judged.verdict ≡ Yes)
      → frames (map payload came) ++ tail ≡ frames (map payload (asks_all text signature questions ++ last)) → IsRefused who start came made now → ⊥
  not_refused text signature questions last user start now came made tail good fine is known judged same (IsRefused.unknown came_is made_is u) = by came_is u.unmet
    where
      by : {other : List ℕ} → came ≡ says.Hello other ∷ [] → Unmet who.name who.looked who.challenges other start.answerer start.nonces now.answerer now.nonces → ⊥
      by {other} first unmet =
          let fine_first : AllByRecursion Good (says.Hello other ∷ []) = subst (AllByRecursion Good) first fine in
          let line : frames (map payload (says.Hello other ∷ [])) ++ tail ≡ frames (map payload (asks_all text signature questions ++ last)) =
          subst (λ (c : List (FromClient Q)). frames (map payload c) ++ tail ≡ frames (map payload (asks_all text signature questions ++ last))) first same in
          let cut = frame_front (payload (says.Hello other)) (payload (says.Hello text)) ([] ++ tail) _ fine_first.0.1.counted good.0.1.counted (sym (append_assoc (frame (payload (says.Hello other))) [] tail) ∙ line) in
          known_user text other user start.answerer now.answerer start.nonces now.nonces is known (hello_is text signature questions last other good.0 fine_first.0 cut.0) unmet
  not_refused text signature questions last user start now came made tail good fine is known judged same (IsRefused.denied came_is made_is j) =
      let no_ = judged _ (subst (λ (v : V). Grew (who.judged v) (who.judged now.verifier) (_ ∷ [])) j.challenged.verifier j.judged) in absurd (cc)

  -- ---- the whole

  module _ (a b : World A V C N) (text signature : List ℕ) (questions : List Q) (last : List (FromClient Q)) (order : IsInOrder who a b text signature questions last) where
    -- what was read of all, and what was not
    abbrev Line : (end : TalkEnd) → Talks who a b end → Type 0
    Line end t = Front a.ends.left b.ends.left (bytes_from who t.came ++ t.rest) (bytes_from who (asks_all text signature questions ++ last))

    line_of : (end : TalkEnd) (t : Talks who a b end) → Line end t
    line_of end t = front_of a.ends.left b.ends.left (bytes_from who t.came ++ t.rest) (bytes_from who (asks_all text signature questions ++ last)) order.told t.has_read.read

    joined : (end : TalkEnd) (t : Talks who a b end) (l : Line end t) → bytes_from who t.came ++ (t.rest ++ l.more) ≡ bytes_from who (asks_all text signature questions ++ last)
    joined end t l = sym (append_assoc (bytes_from who t.came) t.rest l.more) ∙ sym l.whole

    left_of : (end : TalkEnd) (t : Talks who a b end) (l : Line end t) → is_open t.standing ≡ true → Met text signature questions last t.standing t.came (t.rest ++ l.more)
    left_of end t l goes =
        met_by text signature questions last a.around b.around t.standing t.came t.made (t.rest ++ l.more) order.last_is order.fits t.has_read.fits goes t.transcript (joined end t l)

    -- what is left where the input has ended
    ended_rest : (end : TalkEnd) (t : Talks who a b end) (l : Line end t) → IsAtEnd b.ends.left → t.rest ++ l.more ≡ t.rest
    ended_rest end t l at = ap (λ (m : List ℕ). t.rest ++ m) (at_end b.ends.left l.more l.new_is at) ∙ append-nil t.rest

    all_came : (t : Talks who a b talk.Ended) → t.came ≡ asks_all text signature questions
    all_came t =
        let l = line_of talk.Ended t in
        let m = left_of talk.Ended t l t.ends.0 in
        elim t.ends.1 [
          | inl none ↦ all_read text signature questions last t.standing t.came m.left (t.rest ++ l.more) m.onward m.tail_is (ended_rest talk.Ended t l none.1 ∙ none.0)
          | inr bye ↦ bye_read text signature questions last t.standing t.came m.left t.rest l.more m.onward m.tail_is bye
        ]

    not_cut_off : (n : ℕ) (t : Talks who a b (talk.Cut n)) → ⊥
    not_cut_off n t =
        let l = line_of (talk.Cut n) t in
        let m = left_of (talk.Cut n) t l t.ends.0 in
        not_cut text signature questions last t.standing t.came m.left t.rest m.onward (sym (ended_rest (talk.Cut n) t l t.ends.3) ∙ m.tail_is) t.ends.1 t.ends.2

    not_bad : (place : ℕ) (t : Talks who a b (talk.BadFrame place)) → ⊥
    not_bad place t =
        let l = line_of (talk.BadFrame place) t in
        let m = left_of (talk.BadFrame place) t l t.ends.0 in
        good_frame text signature questions last t.standing t.came m.left t.rest l.more m.onward m.tail_is t.ends.1

    refused_at : (standing : Standing) (came : List (FromClient Q)) (made : List (ToClient R)) → standing ≡ Standing.Refused → Transcript who a.around standing came made b.around → IsRefused who a.around came made b.around
    refused_at standing came made is t = subst (λ (s : Standing). Transcript who a.around s came made b.around) is t

    not_no : (t : Talks who a b talk.NotSigned) → ⊥
    not_no t =
        let l = line_of talk.NotSigned t in
        not_refused text signature questions last order.user a.around b.around t.came t.made (t.rest ++ l.more) order.fits t.has_read.fits order.user_is order.known order.verdicts (joined talk.NotSigned t l)
        (refused_at t.standing t.came t.made t.ends t.transcript)

    not_spent : (t : Talks who a b talk.TurnsSpent) → ⊥
    not_spent t =
        let l = line_of talk.TurnsSpent t in
        let n : length (bytes_from who (asks_all text signature questions ++ last)) ≡ length ((bytes_from who t.came ++ t.rest) ++ l.more) = ap length l.whole in
        omega (arith, n, length-append (bytes_from who t.came ++ t.rest) l.more, t.ends.2, order.few)

    pub completes : (end : TalkEnd) → Talks who a b end → Completes who a b (asks_all text signature questions) end
    completes talk.Ended t = (t, all_came t)
    completes (talk.Cut n) t = not_cut_off n t
    completes (talk.BadFrame place) t = not_bad place t
    completes talk.NotSigned t = not_no t
    completes talk.HelperFault t = order.no_verdict_failed t.ends.1
    completes talk.ReadFault t = order.no_read_failed t.ends.2
    completes talk.WriteFault t = order.no_write_failed t.ends
    completes talk.TurnsSpent t = not_spent t
    completes talk.OutOfMemory t = tt
