-- What every line of a script keeps, by what came of it.
use Rattle.std.proofs.Common.{◌≡◌, ◌≢◌, ◌≤◌, ℕ, Bool, true, false, List, length, Option, Some, None, Result, Ok, Err, refl, sym, ap, subst, ◌∙◌, arith}
use Rattle.std.proofs.lemmas.Bool.{false≢true}
use Rattle.up_client.specs.declared.fault.ClientFault.{ClientFault}
use Rattle.up_client.specs.declared.fault.ClientFault.TheVariants as client
use Rattle.up_host.specs.Alone.{io_of}
use Rattle.up_journal.specs.declared.fault.AppendWhy.{AppendWhy}
use Rattle.up_journal.specs.declared.fault.AppendWhy.TheVariants as append
use Rattle.up_journal.specs.declared.limits.Limits.{Limits}
use Rattle.up_ends.specs.Telling.{Gives}
use Rattle.up_names.specs.PathNames.{PathName}
use Rattle.up_names.specs.Texts.{Text}
use Rattle.up_sessions.proofs.CountLemmas.{at_moved, enrol_line, enrols_later, enrols_rose, get_line, host_line, next_later, next_rose, open_fault, open_line, put_line, request_line}
use Rattle.up_sessions.proofs.FitLemmas.{enrol_fits, get_fits, host_fits, open_fits, put_fits, request_fits}
use Rattle.up_sessions.proofs.KeepLemmas.{all_same, enrol_keeps, get_keeps, host_keeps, open_keeps, put_keeps, request_keeps}
use Rattle.up_sessions.specs.Lines.{EnrolLine, GetLine, HostLine, OpenLine, PutLine, RequestLine}
use Rattle.up_sessions.specs.Opening.{EnrolsAt}
use Rattle.up_keys.specs.Records.{record_in}
use Rattle.up_sessions.specs.Signing.{JudgesBy, Signed, SignsOn}
use Rattle.up_sessions.specs.Talking as talking
use Rattle.up_sessions.specs.Worlds.{Around, Hosts, Parties, World, session_at}
use Rattle.up_sessions.specs.declared.opened.Opened.{Opened}
use Rattle.up_text.specs.declared.requests.ClientLine.{ClientLine}
use Rattle.up_sessions.specs.declared.fault.LineFault.{LineFault}
use Rattle.up_sessions.specs.declared.fault.LineFault.TheVariants as fault
use Rattle.up_wire.specs.declared.keys.KeyRecord.{KeyRecord}
use Rattle.up_wire.specs.declared.replies.Reply.{Reply}
use Rattle.up_wire.specs.declared.replies.Reply.TheVariants as reply
use Rattle.up_script.specs.Facts.{Facts, io_came}
use Rattle.up_script.proofs.LineLemmas.{Kept, kept_of}
use Rattle.up_script.specs.ScriptAnswers.{among}
use Rattle.up_script.specs.Scripts.{AskCame, CallCame, CallDone, LineResult, LineDid, EnrolCame, HostCame, LineCame, OpenCame, SaysCame, result_of_get, result_of_put, result_of_reply, did_of_open}
use Rattle.up_script.specs.Standing.{world}
use Rattle.up_script_lines.specs.declared.script_lines.NewHost.{NewHost}
use Rattle.up_script_lines.specs.declared.script_lines.NewSession.{NewSession}
use Rattle.up_script_lines.specs.declared.script_lines.NewUser.{NewUser}
use Rattle.up_script_lines.specs.declared.script_lines.ScriptLine.{ScriptLine}
use Rattle.up_script_lines.specs.declared.script_lines.ScriptLine.TheVariants as lines
use Rattle.up_script.specs.declared.stop.LineStop.TheVariants as stop

-- the lines `io` of what is said of a reply
pub replied_io : (number : ℕ) (given : Reply) → io_came (result_of_reply number given) ≡ io_of given
replied_io number reply.OutOfMemory = refl
replied_io number given = refl

replied_disk : (number : ℕ) (given : Reply) → result_of_reply number given ≡ Err stop.DiskFault → ⊥
replied_disk number reply.OutOfMemory h = cc
replied_disk number given h = cc

replied_helper : (number : ℕ) (given : Reply) → result_of_reply number given ≡ Err stop.HelperFault → ⊥
replied_helper number reply.OutOfMemory h = cc
replied_helper number given h = cc

-- and of what came of a put or get
put_io : (number : ℕ) (result : Result ℕ ClientFault) → io_came (result_of_put number result) ≡ talking.io_in result
put_io number (Err client.OutOfMemory) = refl
put_io number result = refl

got_io : (number : ℕ) (result : Result (List ℕ) ClientFault) → io_came (result_of_get number result) ≡ talking.io_in result
got_io number (Err client.OutOfMemory) = refl
got_io number result = refl

put_no_disk : (number : ℕ) (result : Result ℕ ClientFault) → result_of_put number result ≡ Err stop.DiskFault → ⊥
put_no_disk number (Err client.OutOfMemory) h = cc
put_no_disk number result h = cc

put_no_helper : (number : ℕ) (result : Result ℕ ClientFault) → result_of_put number result ≡ Err stop.HelperFault → ⊥
put_no_helper number (Err client.OutOfMemory) h = cc
put_no_helper number result h = cc

got_no_disk : (number : ℕ) (result : Result (List ℕ) ClientFault) → result_of_get number result ≡ Err stop.DiskFault → ⊥
got_no_disk number (Err client.OutOfMemory) h = cc
got_no_disk number result h = cc

got_no_helper : (number : ℕ) (result : Result (List ℕ) ClientFault) → result_of_get number result ≡ Err stop.HelperFault → ⊥
got_no_helper number (Err client.OutOfMemory) h = cc
got_no_helper number result h = cc

module _ {D P V C N : Type 0} (who : Parties D P V C N) (limits : Limits) where
  -- nothing was done
  pub none_facts : (a : World D P V C N) (came : LineResult) → io_came came ≡ 0 → came ≢ Err stop.DiskFault → came ≢ Err stop.HelperFault → Facts who a came a
  none_facts a came none disk helper = record {
    io = record { later = omega arith; io = λ below. omega (arith, none) };
    disks = omega arith;
    helper = omega arith;
    disk_rose = λ h. absurd (disk h);
    helper_rose = λ h. absurd (helper h);
    stays = all_same who.disks a.state;
    fits = λ done fit. fit;
  }

  pub host_facts : (host : NewHost) (around : Around P V C N) (x y : Hosts D) (came : LineResult) → length host.owners ≤ 8 → HostCame who.disks limits host x came y → Facts who (among x around) came (among y around)
  host_facts host around x y came few (HostCame.opened new opens) =
      let line : HostLine who limits host.name host.operator host.owners (among x around) (Ok tt) (among y around) = record { opens = opens; around = refl } in
      record {
        io = host_line who limits host.name host.operator host.owners (among x around) (among y around) (Ok tt) line;
        disks = next_later who.disks limits host.name host.operator host.owners x y (Ok tt) opens;
        helper = omega arith;
        disk_rose = λ h. absurd (cc);
        helper_rose = λ h. absurd (cc);
        stays = host_keeps who limits host.name host.operator host.owners (among x around) (among y around) (Ok tt) line;
        fits = λ done fit. host_fits who limits host.name host.operator host.owners (among x around) (among y around) few line fit;
      }
  host_facts host around x y came few (HostCame.not_new old) = none_facts (among x around) came refl (λ h. cc) (λ h. cc)
  host_facts host around x y came few (HostCame.failed new opens) =
      let line : HostLine who limits host.name host.operator host.owners (among x around) (Err fault.Fault) (among y around) = record { opens = opens; around = refl } in
      record {
        io = host_line who limits host.name host.operator host.owners (among x around) (among y around) (Err fault.Fault) line;
        disks = next_later who.disks limits host.name host.operator host.owners x y (Err fault.Fault) opens;
        helper = omega arith;
        disk_rose = λ h. next_rose who.disks limits host.name host.operator host.owners x y opens;
        helper_rose = λ h. absurd (cc);
        stays = host_keeps who limits host.name host.operator host.owners (among x around) (among y around) (Err fault.Fault) line;
        fits = λ done fit. absurd (false≢true done);
      }
  host_facts host around x y came few (HostCame.wanting new opens) =
      let line : HostLine who limits host.name host.operator host.owners (among x around) (Err fault.OutOfMemory) (among y around) = record { opens = opens; around = refl } in
      record {
        io = host_line who limits host.name host.operator host.owners (among x around) (among y around) (Err fault.OutOfMemory) line;
        disks = next_later who.disks limits host.name host.operator host.owners x y (Err fault.OutOfMemory) opens;
        helper = omega arith;
        disk_rose = λ h. absurd (cc);
        helper_rose = λ h. absurd (cc);
        stays = host_keeps who limits host.name host.operator host.owners (among x around) (among y around) (Err fault.OutOfMemory) line;
        fits = λ done fit. absurd (false≢true done);
      }

  enrol_made : (user : NewUser) (around : Around P V C N) (x y : Hosts D) (place : ℕ) (result : Result ℕ AppendWhy) (came : LineResult) → EnrolsAt who.disks place user.user user.key x result y → io_came came ≡ 0
      → (came ≡ Err stop.DiskFault → result ≡ Err append.Fault) → came ≢ Err stop.HelperFault → Facts who (among x around) came (among y around)
  enrol_made user around x y place result came enrols none disk helper =
      let line : EnrolLine who place user.user user.key (among x around) result (among y around) = record { enrols = enrols; around = refl } in
      let rose = enrol_line who place user.user user.key (among x around) (among y around) result line in
      record {
        io = record { later = rose.later; io = λ below. let r = rose.io below in omega (arith, none, r) };
        disks = enrols_later who.disks place user.user user.key x y result enrols;
        helper = omega arith;
        disk_rose = λ h. enrols_rose who.disks place user.user user.key x y (subst (λ r. EnrolsAt who.disks place user.user user.key x r y) (disk h) enrols);
        helper_rose = λ h. absurd (helper h);
        stays = enrol_keeps who place user.user user.key (among x around) (among y around) result line;
        fits = λ done fit. enrol_fits who place user.user user.key (among x around) (among y around) result line fit;
      }

  pub enrol_facts : (user : NewUser) (around : Around P V C N) (x y : Hosts D) (came : LineResult) → EnrolCame who.disks user x came y → Facts who (among x around) came (among y around)
  enrol_facts user around x y came (EnrolCame.enrolled {place = place} {position = position} at enrols) = enrol_made user around x y place (Ok position) came enrols refl (λ h. absurd (cc)) (λ h. cc)
  enrol_facts user around x y came (EnrolCame.full {place = place} {records = records} at enrols) = enrol_made user around x y place (Err (append.Full records)) came enrols refl (λ h. absurd (cc)) (λ h. cc)
  enrol_facts user around x y came (EnrolCame.unknown none) = none_facts (among x around) came refl (λ h. cc) (λ h. cc)
  enrol_facts user around x y came (EnrolCame.failed {place = place} at enrols) = enrol_made user around x y place (Err append.Fault) came enrols refl (λ h. refl) (λ h. cc)
  enrol_facts user around x y came (EnrolCame.wanting {place = place} at enrols) = enrol_made user around x y place (Err append.OutOfMemory) came enrols refl (λ h. absurd (cc)) (λ h. cc)
  enrol_facts user around x y came EnrolCame.unmade = none_facts (among x around) came refl (λ h. cc) (λ h. cc)

  judged_later : (host : List ℕ) (card : Option KeyRecord) (signature : List ℕ) (v w : V) (n m : N) (given : Signed) → JudgesBy who.verifiers who.nonces host card signature v n given w m → who.verifiers.faults v ≤ who.verifiers.faults w
  judged_later host (Some card) signature v w n m given judged = judged.counts.later
  judged_later host None signature v w n m given judged = let same : who.verifiers.faults w ≡ who.verifiers.faults v = ap who.verifiers.faults judged.1 in omega (arith, same)

  signed_made : (s : NewSession) (x y : Hosts D) (p : P) (v w : V) (c : C) (n m : N) (place : ℕ) (result : Result Bool LineFault) (came : LineResult) → SignsOn who.verifiers who.nonces s.number place s.user s.proof x v n result y w m
      → io_came came ≡ 0 → came ≢ Err stop.DiskFault → (came ≡ Err stop.HelperFault → result ≡ Err fault.Fault) → Facts who (world x p v c n) came (world y p w c m)
  signed_made s x y p v w c n m place result came signs none disk helper =
      let line : OpenLine who s.number place s.user s.proof (world x p v c n) result (world y p w c m) = record { signs = signs; peers = refl; clock = refl } in
      let rose = open_line who s.number place s.user s.proof (world x p v c n) (world y p w c m) result line in
      record {
        io = record { later = rose.later; io = λ below. let r = rose.io below in omega (arith, none, r) };
        disks = let r = rose.later in omega (arith, r);
        helper = judged_later signs.host.name (record_in signs.host.keys.state.log s.user) s.proof v w n m signs.signed signs.judged;
        disk_rose = λ h. absurd (disk h);
        helper_rose = λ h. open_fault who s.number place s.user s.proof (world x p v c n) (world y p w c m) (subst (λ r. OpenLine who s.number place s.user s.proof (world x p v c n) r (world y p w c m)) (helper h) line);
        stays = open_keeps who s.number place s.user s.proof (world x p v c n) (world y p w c m) result line;
        fits = λ done fit. open_fits who s.number place s.user s.proof (world x p v c n) (world y p w c m) result line fit;
      }

  signed_io : (number : ℕ) (is_open : Bool) → io_came (Ok (did_of_open number is_open)) ≡ 0
  signed_io number true = refl
  signed_io number false = refl

  pub open_facts : (s : NewSession) (x y : Hosts D) (p : P) (v w : V) (c : C) (n m : N) (came : LineResult) → OpenCame who.verifiers who.nonces s x v n came y w m → Facts who (world x p v c n) came (world y p w c m)
  open_facts s x y p v w c n m came (OpenCame.judged {place = place} {is_open = is_open} at signs) = signed_made s x y p v w c n m place (Ok is_open) came signs (signed_io s.number is_open) (λ h. cc) (λ h. absurd (cc))
  open_facts s x y p v w c n m came (OpenCame.unknown none) = none_facts (world x p v c n) came refl (λ h. cc) (λ h. cc)
  open_facts s x y p v w c n m came (OpenCame.failed {place = place} at signs) = signed_made s x y p v w c n m place (Err fault.Fault) came signs refl (λ h. cc) (λ h. refl)
  open_facts s x y p v w c n m came (OpenCame.wanting {place = place} at signs) = signed_made s x y p v w c n m place (Err fault.OutOfMemory) came signs refl (λ h. cc) (λ h. absurd (cc))

  pub ask_facts : (number : ℕ) (words : List Text) (x y : Hosts D) (p q : P) (v : V) (c d : C) (n : N) (came : LineResult) → AskCame who.disks who.peers who.clocks number words x p c came y q d → Facts who (world x p v c n) came (world y q v d n)
  ask_facts number words x y p q v c d n came (AskCame.no_session none) = none_facts (world x p v c n) came refl (λ h. cc) (λ h. cc)
  ask_facts number words x y p q v c d n came (AskCame.asked {opened = opened} {request = request} {moment = moment} {e = e} there is read asks) =
      let line : RequestLine who number request (world x p v c n) e (world y q v d n) = record {
        now = record { opened = opened; is_open = there; moment = moment; read = read; verifier = refl; nonces = refl };
        asks = asks;
      } in
      let rose = request_line who number request (world x p v c n) (world y q v d n) e line in
      let none = replied_io number e.reply in
      record {
        io = record { later = rose.later; io = λ below. let r = rose.io below in omega (arith, none, r) };
        disks = let moved = at_moved who.disks opened.place _ x y asks in let counts = asks.done.counts.disks in omega (arith, moved, counts);
        helper = omega arith;
        disk_rose = λ h. absurd (replied_disk number e.reply h);
        helper_rose = λ h. absurd (replied_helper number e.reply h);
        stays = request_keeps who number request (world x p v c n) (world y q v d n) e line;
        fits = λ done fit. request_fits who number request (world x p v c n) (world y q v d n) e line fit;
      }
  ask_facts number words x y p q v c d n came AskCame.wanting = none_facts (world x p v c n) came refl (λ h. cc) (λ h. cc)

  called_facts : (number : ℕ) (call : ClientLine) (x y : Hosts D) (p q : P) (v : V) (c d : C) (n : N) (came : LineResult) (opened : Opened) (path : PathName) (moment : ℕ) → session_at x number ≡ Some opened → Gives (who.clocks.coming c) moment (who.clocks.coming d)
      → CallDone who.disks who.peers who.clocks opened number moment path x p call came y q → Facts who (world x p v c n) came (world y q v d n)
  called_facts number call x y p q v c d n came opened path moment there read (CallDone.put {name = name} {bytes = bytes} {time = time} {sequence = sequence} {result = result} puts) =
      let line : PutLine who number path time sequence bytes (world x p v c n) result (world y q v d n) = record {
        now = record { opened = opened; is_open = there; moment = moment; read = read; verifier = refl; nonces = refl };
        puts = puts;
      } in
      let rose = put_line who number path time sequence bytes (world x p v c n) (world y q v d n) result line in
      let none = put_io number result in
      record {
        io = record { later = rose.later; io = λ below. let r = rose.io below in omega (arith, none, r) };
        disks = let moved = at_moved who.disks opened.place _ x y puts in let counts = puts.done.counts.disks in omega (arith, moved, counts);
        helper = omega arith;
        disk_rose = λ h. absurd (put_no_disk number result h);
        helper_rose = λ h. absurd (put_no_helper number result h);
        stays = put_keeps who number path time sequence bytes (world x p v c n) (world y q v d n) result line;
        fits = λ done fit. put_fits who number path time sequence bytes (world x p v c n) (world y q v d n) result line fit;
      }
  called_facts number call x y p q v c d n came opened path moment there read (CallDone.got {name = name} {result = result} gets) =
      let line : GetLine who number path (world x p v c n) result (world y q v d n) = record {
        now = record { opened = opened; is_open = there; moment = moment; read = read; verifier = refl; nonces = refl };
        gets = gets;
      } in
      let rose = get_line who number path (world x p v c n) (world y q v d n) result line in
      let none = got_io number result in
      record {
        io = record { later = rose.later; io = λ below. let r = rose.io below in omega (arith, none, r) };
        disks = let moved = at_moved who.disks opened.place _ x y gets in let counts = gets.done.counts.disks in omega (arith, moved, counts);
        helper = omega arith;
        disk_rose = λ h. absurd (got_no_disk number result h);
        helper_rose = λ h. absurd (got_no_helper number result h);
        stays = get_keeps who number path (world x p v c n) (world y q v d n) result line;
        fits = λ done fit. get_fits who number path (world x p v c n) (world y q v d n) result line fit;
      }

  pub call_facts : (number : ℕ) (call : ClientLine) (x y : Hosts D) (p q : P) (v : V) (c d : C) (n : N) (came : LineResult) → CallCame who.disks who.peers who.clocks number call x p c came y q d → Facts who (world x p v c n) came (world y q v d n)
  call_facts number call x y p q v c d n came (CallCame.no_session none) = none_facts (world x p v c n) came refl (λ h. cc) (λ h. cc)
  call_facts number call x y p q v c d n came (CallCame.bad_path {opened = opened} {moment = moment} there bad read) = record {
    io = record { later = omega arith; io = λ below. omega arith };
    disks = omega arith;
    helper = omega arith;
    disk_rose = λ h. absurd (cc);
    helper_rose = λ h. absurd (cc);
    stays = all_same who.disks x;
    fits = λ done fit. fit;
  }
  call_facts number call x y p q v c d n came (CallCame.called {opened = opened} {path = path} {moment = moment} there is read made) = called_facts number call x y p q v c d n came opened path moment there read made
  call_facts number call x y p q v c d n came CallCame.wanting = none_facts (world x p v c n) came refl (λ h. cc) (λ h. cc)

  -- what a line says, among all that stands around
  says_facts : (a b : World D P V C N) (what : ScriptLine) (came : LineResult) → Kept what → SaysCame who limits a what came b → Facts who a came b
  says_facts a b lines.Silent came kept h =
      subst (λ w. Facts who a came w) (sym h.1) (none_facts a came (ap io_came h.0) (λ e. let k : Ok LineDid.Nothing ≡ Err stop.DiskFault = sym h.0 ∙ e in cc) (λ e. let k : Ok LineDid.Nothing ≡ Err stop.HelperFault = sym h.0 ∙ e in cc))
  says_facts a b (lines.Host host) came kept h =
      subst (λ around. Facts who a came (among b.state around)) (sym h.1) (host_facts host a.around a.state b.state came kept h.0)
  says_facts a b (lines.Enrol user) came kept h =
      subst (λ around. Facts who a came (among b.state around)) (sym h.1) (enrol_facts user a.around a.state b.state came h.0)
  says_facts a b (lines.Open session) came kept h =
      subst (λ p. Facts who a came (world b.state p b.around.verifier b.around.clock b.around.nonces)) (sym h.1)
      (subst (λ c. Facts who a came (world b.state a.around.peers b.around.verifier c b.around.nonces)) (sym h.2)
      (open_facts session a.state b.state a.around.peers a.around.verifier b.around.verifier a.around.clock a.around.nonces b.around.nonces came h.0))
  says_facts a b (lines.Request number words) came kept h =
      subst (λ v. Facts who a came (world b.state b.around.peers v b.around.clock b.around.nonces)) (sym h.1)
      (subst (λ n. Facts who a came (world b.state b.around.peers a.around.verifier b.around.clock n)) (sym h.2)
      (ask_facts number words a.state b.state a.around.peers b.around.peers a.around.verifier a.around.clock b.around.clock a.around.nonces came h.0))
  says_facts a b (lines.Client number call) came kept h =
      subst (λ v. Facts who a came (world b.state b.around.peers v b.around.clock b.around.nonces)) (sym h.1)
      (subst (λ n. Facts who a came (world b.state b.around.peers a.around.verifier b.around.clock n)) (sym h.2)
      (call_facts number call a.state b.state a.around.peers b.around.peers a.around.verifier a.around.clock b.around.clock a.around.nonces came h.0))

  -- what every line keeps
  pub line_facts : (a b : World D P V C N) (line : Text) (came : LineResult) → LineCame who limits a line came b → Facts who a came b
  line_facts a b line came (LineCame.malformed none) = none_facts a came refl (λ h. cc) (λ h. cc)
  line_facts a b line came (LineCame.says {what = what} is h) = says_facts a b what came (kept_of line what is) h
  line_facts a b line came LineCame.unread = none_facts a came refl (λ h. cc) (λ h. cc)
