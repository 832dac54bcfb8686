-- The disks that no host has, behind each kind of line.
use Rattle.std.proofs.Common.{◌≡◌, ◌+◌, ℕ, zero, suc, List, [], ◌∷◌, ◌++◌, length, take, drop, Option, Some, None, Result, Ok, Err, refl, sym, ap, subst, ◌∙◌}
use Rattle.std.specs.List.{AllByRecursion}
use Rattle.up_client.specs.declared.fault.ClientFault.{ClientFault}
use Rattle.up_disk.specs.Leaving.{IsBlank}
use Rattle.up_host.specs.Alone.{HostState}
use Rattle.up_journal.specs.declared.limits.Limits.{Limits}
use Rattle.up_names.specs.PathNames.{PathName}
use Rattle.up_names.specs.Texts.{Text, UserName}
use Rattle.up_sessions.proofs.BlankLemmas.{all_first}
use Rattle.up_sessions.proofs.EmptyLemmas.{all_back, all_empty}
use Rattle.up_sessions.proofs.OpeningLemmas.{handed_many}
use Rattle.up_sessions.specs.Handing.{AreFree}
use Rattle.up_sessions.specs.Opening.{HasNoRecord, RefusesNext}
use Rattle.up_sessions.specs.Signing.{Signed, signed_on}
use Rattle.up_sessions.specs.Worlds.{AtHost, Hosts, Parties, World}
use Rattle.up_sessions.specs.declared.fault.LineFault.{LineFault}
use Rattle.up_sessions.specs.declared.opened.Opened.{Opened}
use Rattle.up_text.specs.declared.requests.ClientLine.{ClientLine}
use Rattle.up_script_lines.specs.ScriptLines.{line_of}
use Rattle.up_script_lines.specs.declared.script_lines.NewHost.{NewHost}
use Rattle.up_script_lines.specs.declared.script_lines.NewSession.{NewSession}
use Rattle.up_script_lines.specs.declared.script_lines.NewUser.{NewUser}
use Rattle.up_script_lines.specs.declared.script_lines.ScriptLine.{ScriptLine}
use Rattle.up_script_lines.specs.declared.script_lines.ScriptLine.TheVariants as lines
use Rattle.up_script.specs.ScriptAnswers.{disks_for, disks_next}
use Rattle.up_script.specs.ScriptRuns.{Ends, Scripted}
use Rattle.up_script.specs.Scripts.{AskCame, CallCame, CallDone, EnrolCame, HostCame, LineCame, LineResult, OpenCame, SaysCame}

all_last : {X : Type 0} (P : X → Type 0) (n : ℕ) (xs : List X) → AllByRecursion P xs → AllByRecursion P (drop n xs)
all_last P zero xs all = all
all_last P (suc n) [] all = tt
all_last P (suc n) (x ∷ xs) all = all_last P n xs all.1

front_of : {X : Type 0} (P : X → Type 0) (xs ys : List X) → AllByRecursion P xs → AllByRecursion P (take (length xs) (xs ++ ys))
front_of P [] ys all = tt
front_of P (x ∷ xs) ys all = (all.0, front_of P xs ys all.1)

behind_of : {X : Type 0} (P : X → Type 0) (xs ys : List X) → AllByRecursion P ys → AllByRecursion P (drop (length xs) (xs ++ ys))
behind_of P [] ys all = all
behind_of P (x ∷ xs) ys all = behind_of P xs ys all

-- the disks that no host has
abbrev free_in : {D : Type 0} → Hosts D → List D
free_in a = a.free

signed_free : {D : Type 0} (number place : ℕ) (signed : Signed) (a : Hosts D) → (signed_on number place signed a).free ≡ a.free
signed_free number place (Ok (Some session)) a = refl
signed_free number place (Ok None) a = refl
signed_free number place (Err why) a = refl

module _ {D P V C N : Type 0} (who : Parties D P V C N) (limits : Limits) where
  abbrev AreBlank : List D → Type 0
  AreBlank free = AllByRecursion (IsBlank who.disks) free

  -- all are blank
  all_free : (tried : ℕ) (free : List D) → AreBlank free → AreFree who.disks tried free
  all_free tried free blank = record {
    empty = all_empty who.disks (take tried free) (all_first (IsBlank who.disks) tried free blank);
    blank = all_last (IsBlank who.disks) tried free blank;
  }

  same_free : (tried : ℕ) (a b : Hosts D) → free_in b ≡ free_in a → AreBlank (free_in a) → AreFree who.disks tried (free_in b)
  same_free tried a b same blank = all_free tried (free_in b) (subst AreBlank (sym same) blank)

  -- a host was refused
  refused_free : (owners : List UserName) (why : LineFault) (a b : Hosts D) → RefusesNext who.disks limits owners why a b → AreBlank (free_in a) → AreFree who.disks (length owners + 2) (free_in b)
  refused_free owners why a b refuses blank =
      let handed = refuses.refused.disks.disks in
      let many : length handed ≡ length owners + 2 = handed_many who.disks limits owners refuses.given refuses.refused refuses.refuses ∙ refuses.as_many in
      let left : AreBlank refuses.rest = all_back (IsBlank who.disks) refuses.given refuses.rest (subst AreBlank refuses.free_is blank) in
      let put : AreFree who.disks (length handed) (handed ++ refuses.rest) = record {
        empty = front_of (HasNoRecord who.disks) handed refuses.rest refuses.empty;
        blank = behind_of (IsBlank who.disks) handed refuses.rest left;
      } in
      subst (AreFree who.disks (length owners + 2)) (sym (ap free_in refuses.whole)) (subst (λ n. AreFree who.disks n (handed ++ refuses.rest)) many put)

  host_free : (host : NewHost) (a b : Hosts D) (came : LineResult) → HostCame who.disks limits host a came b → AreBlank (free_in a) → AreFree who.disks (length host.owners + 2) (free_in b)
  host_free host a b came (HostCame.opened new opens) blank = all_free (length host.owners + 2) (free_in b) (all_back (IsBlank who.disks) opens.given (free_in b) (subst AreBlank opens.free_is blank))
  host_free host a b came (HostCame.not_new old) blank = all_free (length host.owners + 2) (free_in a) blank
  host_free host a b came (HostCame.failed new opens) blank = refused_free host.owners _ a b opens blank
  host_free host a b came (HostCame.wanting new opens) blank = refused_free host.owners _ a b opens blank

  at_free : (place : ℕ) (did : HostState D → HostState D → Type 0) (a b : Hosts D) → AtHost place did a b → AreBlank (free_in a) → AreFree who.disks 0 (free_in b)
  at_free place did a b h blank = same_free 0 a b (ap free_in h.whole) blank

  enrol_free : (user : NewUser) (a b : Hosts D) (came : LineResult) → EnrolCame who.disks user a came b → AreBlank (free_in a) → AreFree who.disks 0 (free_in b)
  enrol_free user a b came (EnrolCame.enrolled {place = place} at enrols) blank = at_free place _ a b enrols blank
  enrol_free user a b came (EnrolCame.full {place = place} at enrols) blank = at_free place _ a b enrols blank
  enrol_free user a b came (EnrolCame.unknown none) blank = all_free 0 (free_in a) blank
  enrol_free user a b came (EnrolCame.failed {place = place} at enrols) blank = at_free place _ a b enrols blank
  enrol_free user a b came (EnrolCame.wanting {place = place} at enrols) blank = at_free place _ a b enrols blank
  enrol_free user a b came EnrolCame.unmade blank = all_free 0 (free_in a) blank

  open_free : (s : NewSession) (a b : Hosts D) (v w : V) (n m : N) (came : LineResult) → OpenCame who.verifiers who.nonces s a v n came b w m → AreBlank (free_in a) → AreFree who.disks 0 (free_in b)
  open_free s a b v w n m came (OpenCame.judged {place = place} at signs) blank = same_free 0 a b (ap free_in signs.after ∙ signed_free s.number place signs.signed a) blank
  open_free s a b v w n m came (OpenCame.unknown none) blank = all_free 0 (free_in a) blank
  open_free s a b v w n m came (OpenCame.failed {place = place} at signs) blank = same_free 0 a b (ap free_in signs.after ∙ signed_free s.number place signs.signed a) blank
  open_free s a b v w n m came (OpenCame.wanting {place = place} at signs) blank = same_free 0 a b (ap free_in signs.after ∙ signed_free s.number place signs.signed a) blank

  ask_free : (number : ℕ) (words : List Text) (a b : Hosts D) (p q : P) (c d : C) (came : LineResult) → AskCame who.disks who.peers who.clocks number words a p c came b q d → AreBlank (free_in a) → AreFree who.disks 0 (free_in b)
  ask_free number words a b p q c d came (AskCame.no_session none) blank = all_free 0 (free_in a) blank
  ask_free number words a b p q c d came (AskCame.asked {opened = opened} there is read asks) blank = at_free opened.place _ a b asks blank
  ask_free number words a b p q c d came AskCame.wanting blank = all_free 0 (free_in a) blank

  done_free : (number : ℕ) (call : ClientLine) (a b : Hosts D) (p q : P) (came : LineResult) (opened : Opened) (path : PathName) (moment : ℕ) → CallDone who.disks who.peers who.clocks opened number moment path a p call came b q → AreBlank (free_in a) → AreFree who.disks 0 (free_in b)
  done_free number call a b p q came opened path moment (CallDone.put puts) blank = at_free opened.place _ a b puts blank
  done_free number call a b p q came opened path moment (CallDone.got gets) blank = at_free opened.place _ a b gets blank

  call_free : (number : ℕ) (call : ClientLine) (a b : Hosts D) (p q : P) (c d : C) (came : LineResult) → CallCame who.disks who.peers who.clocks number call a p c came b q d → AreBlank (free_in a) → AreFree who.disks 0 (free_in b)
  call_free number call a b p q c d came (CallCame.no_session none) blank = all_free 0 (free_in a) blank
  call_free number call a b p q c d came (CallCame.bad_path there bad read) blank = all_free 0 (free_in a) blank
  call_free number call a b p q c d came (CallCame.called {opened = opened} {path = path} {moment = moment} there is read made) blank = done_free number call a b p q came opened path moment made blank
  call_free number call a b p q c d came CallCame.wanting blank = all_free 0 (free_in a) blank

  says_free : (a b : World D P V C N) (what : ScriptLine) (came : LineResult) → SaysCame who limits a what came b → AreBlank a.state.free → AreFree who.disks (disks_for (Some what)) b.state.free
  says_free a b lines.Silent came h blank = same_free 0 a.state b.state (ap (λ w. w.state.free) h.1) blank
  says_free a b (lines.Host host) came h blank = host_free host a.state b.state came h.0 blank
  says_free a b (lines.Enrol user) came h blank = enrol_free user a.state b.state came h.0 blank
  says_free a b (lines.Open session) came h blank = open_free session a.state b.state a.around.verifier b.around.verifier a.around.nonces b.around.nonces came h.0 blank
  says_free a b (lines.Request number words) came h blank = ask_free number words a.state b.state a.around.peers b.around.peers a.around.clock b.around.clock came h.0 blank
  says_free a b (lines.Client number call) came h blank = call_free number call a.state b.state a.around.peers b.around.peers a.around.clock b.around.clock came h.0 blank

  line_free : (a b : World D P V C N) (line : Text) (came : LineResult) → LineCame who limits a line came b → AreBlank a.state.free → AreFree who.disks (disks_for (line_of line)) b.state.free
  line_free a b line came (LineCame.malformed none) blank = all_free (disks_for (line_of line)) a.state.free blank
  line_free a b line came (LineCame.says {what = what} is h) blank = subst (λ found. AreFree who.disks (disks_for found) b.state.free) (sym is) (says_free a b what came h blank)
  line_free a b line came LineCame.unread blank = all_free (disks_for (line_of line)) a.state.free blank

  ends_free : (last b : World D P V C N) (number : ℕ) (left : List Text) (tail : Text) (code : ℕ) → Ends who limits last number left tail code b → AreBlank last.state.free → AreFree who.disks (disks_next left) b.state.free
  ends_free last b number left tail code Ends.at_end blank = all_free 0 last.state.free blank
  ends_free last b number left tail code (Ends.stopped {line = line} why came) blank = line_free last b line (Err why) came blank
  ends_free last b number left tail code (Ends.unwritten {left = more}) blank = all_free (disks_next more) last.state.free blank

  -- behind a whole run
  pub rest_free : (old new : Option Text) (a b : World D P V C N) (all : List Text) (status : ℕ) → (s : Scripted who limits old new a all status b) → AreFree who.disks (disks_next s.left) b.state.free
  rest_free old new a b all status s = ends_free s.last b (length s.done + 1) s.left s.tail s.code s.ends s.blank
