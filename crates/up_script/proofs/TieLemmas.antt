-- The hosts that the good lines of a script have named are those that its run has opened.
use Rattle.std.proofs.Common.{◌≡◌, ℕ, zero, suc, ◌+◌, Bool, true, false, not, ◌&&◌, ◌||◌, nat_lt, cond, List, [], ◌∷◌, ◌++◌, length, map, Option, Some, None, is_none, is_some, Result, Ok, Err, arith, refl, sym, ap, subst, ◌∙◌}
use Rattle.std.proofs.lemmas.List.{length-map, map-append}
use Rattle.std.specs.List.{find, list_all, list_any, position, position_or_len}
use Rattle.std.specs.Option.{option_and_then}
use Rattle.std.specs.Prelude.{if◌then◌else◌, slice_get, slice_set}
use Rattle.std.specs.Str.{bytes_eq}
use Rattle.std.specs.Io.KnownBytes.{Appends}
use Rattle.up_client.specs.declared.fault.ClientFault.{ClientFault}
use Rattle.up_client.specs.declared.fault.ClientFault.TheVariants as client
use Rattle.up_command.specs.Printed.{bad_line}
use Rattle.up_disk.specs.declared.disk.Disk.{Ghosts}
use Rattle.up_explain_can.specs.Explaining.{bad_from, number_if, stands}
use Rattle.up_host.specs.Alone.{HostState, is_of}
use Rattle.up_host.specs.Opens.{OpensTrees}
use Rattle.up_host.specs.Settled.{owner_of}
use Rattle.up_host.specs.declared.held.Held.{Held}
use Rattle.up_journal.specs.declared.limits.Limits.{Limits}
use Rattle.up_lists.specs.Runs.{Run}
use Rattle.up_names.proofs.CutLemmas.{list_any-placed}
use Rattle.up_names.specs.Texts.{Text, UserName}
use Rattle.up_script.specs.ScriptAnswers.{Means, among}
use Rattle.up_command.specs.Users.{has_user}
use Rattle.up_command.specs.Statuses.{is_cut}
use Rattle.up_script.specs.ScriptRuns.{Ends, LineDoes, Scripted, printed}
use Rattle.up_script.specs.Scripts.{AskCame, CallCame, CallDone, LineResult, LineDid, EnrolCame, HostCame, LineCame, OpenCame, SaysCame, result_of_get, place_of, result_of_put, result_of_reply}
use Rattle.up_script.specs.Scripts as script
use Rattle.up_script.specs.Standing.{at_first}
use Rattle.up_script_lines.specs.declared.script_lines.NewHost.{NewHost}
use Rattle.up_script_lines.specs.declared.script_lines.NewSession.{NewSession}
use Rattle.up_script_lines.specs.declared.script_lines.NewUser.{NewUser}
use Rattle.up_script_lines.specs.declared.script_lines.ScriptLine.{ScriptLine}
use Rattle.up_script_lines.specs.declared.script_lines.ScriptLine.TheVariants as lines
use Rattle.up_script.specs.declared.stop.LineStop.TheVariants as stop
use Rattle.up_sessions.specs.Others.{has_tree}
use Rattle.up_sessions.specs.Signing.{Signed, signed_on}
use Rattle.up_names.specs.PathNames.{PathName}
use Rattle.up_sessions.specs.declared.opened.Opened.{Opened}
use Rattle.up_sessions.specs.Worlds.{Around, AtHost, Hosts, Parties, World, is_named}
use Rattle.up_text.specs.Lines.{script_lines}
use Rattle.up_text.specs.declared.requests.ClientLine.{ClientLine}
use Rattle.up_tree.specs.States.{State}
use Rattle.up_wire.specs.declared.replies.Reply.{Reply}
use Rattle.up_wire.specs.declared.replies.Reply.TheVariants as reply
use Rattle.up_script.specs.ScriptEnds.{EndsAtFirst}
use Rattle.up_explain_script.specs.ScriptNumbers.{bad_in_script, hosts_behind, is_new, line_behind}
use Rattle.up_explain_script.specs.ScriptNumbers as told

-- ---- lists

any_map : {X Y : Type 0} (test : Y → Bool) (f : X → Y) (xs : List X) → list_any test (map f xs) ≡ list_any (λ x. test (f x)) xs
any_map test f [] = refl
any_map test f (x ∷ xs) = ap (λ b. test (f x) || b) (any_map test f xs)

all_alike : {X : Type 0} (p q : X → Bool) → ((x : X) → p x ≡ q x) → (xs : List X) → list_all p xs ≡ list_all q xs
all_alike p q same [] = refl
all_alike p q same (x ∷ xs) = ap (λ b. b && list_all p xs) (same x) ∙ ap (λ b. q x && b) (all_alike p q same xs)

any_alike : {X : Type 0} (p q : X → Bool) → ((x : X) → p x ≡ q x) → (xs : List X) → list_any p xs ≡ list_any q xs
any_alike p q same [] = refl
any_alike p q same (x ∷ xs) = ap (λ b. b || list_any p xs) (same x) ∙ ap (λ b. q x || b) (any_alike p q same xs)

found_any : {X : Type 0} (test : X → Bool) (xs : List X) → is_some (find test xs) ≡ list_any test xs
found_any test [] = refl
found_any test (x ∷ xs) = by (test x) (found_any test xs)
  where
    by : (b : Bool) → is_some (find test xs) ≡ list_any test xs → is_some (cond b (Some x) (find test xs)) ≡ (b || list_any test xs)
    by true rest = refl
    by false rest = rest

map_set : {X Y : Type 0} (f : X → Y) (xs : List X) (place : ℕ) (before after : X) → slice_get xs place ≡ Some before → f after ≡ f before → map f (slice_set xs place after) ≡ map f xs
map_set f [] place before after there same = absurd (cc)
map_set f (x ∷ xs) zero before after there same = let e : x ≡ before = cc in ap (λ y. y ∷ map f xs) (same ∙ ap f (sym e))
map_set f (x ∷ xs) (suc place) before after there same = ap (λ ys. f x ∷ ys) (map_set f xs place before after there same)

-- the place of the first element that passes is there where one passes
placed : {X : Type 0} (test : X → Bool) (xs : List X) → nat_lt (position_or_len test xs) (length xs) ≡ list_any test xs
placed test xs = sym (list_any-placed test xs)

unplaced : {X : Type 0} (test : X → Bool) (xs : List X) → is_none (position test xs) ≡ not (list_any test xs)
unplaced test xs = by (nat_lt (position_or_len test xs) (length xs)) refl
  where
    by : (b : Bool) → nat_lt (position_or_len test xs) (length xs) ≡ b → is_none (cond b (Some (position_or_len test xs)) None) ≡ not (list_any test xs)
    by true is = ap not (sym is ∙ placed test xs)
    by false is = ap not (sym is ∙ placed test xs)

not_not : (b : Bool) → not (not b) ≡ b
not_not true = refl
not_not false = refl

pair_of : {X Y : Type 0} {a b : X} {c d : Y} → a ≡ b → c ≡ d → ◌≡◌ {A = X × Y} (a, c) (b, d)
pair_of {X} {Y} {a} {b} {c} {d} one other = subst (λ y. ◌≡◌ {A = X × Y} (a, c) (b, y)) other (subst (λ x. ◌≡◌ {A = X × Y} (a, c) (x, c)) one refl)

first_number : (number : ℕ) → number ≡ 0 + number
first_number number = omega arith

next_number : (n number : ℕ) → n + (number + 1) ≡ suc n + number
next_number n number = omega arith

-- ---- what is seen of a host, and of one that is named

abbrev Seen : Type 0
Seen = Text × List UserName

abbrev named : NewHost → Seen
named host = (host.name, host.owners)

abbrev has_name : List Seen → Text → Bool
has_name all name = list_any (λ one. bytes_eq one.0 name) all

abbrev has_owner : List Seen → UserName → Bool
has_owner all owner = list_any (λ one. has_user one.1 owner) all

named_names : (hosts : List NewHost) (name : Text) → told.has_host hosts name ≡ has_name (map named hosts) name
named_names hosts name = sym (any_map (λ one. bytes_eq one.0 name) named hosts)

named_owners : (hosts : List NewHost) (owner : UserName) → told.has_tree hosts owner ≡ has_owner (map named hosts) owner
named_owners hosts owner = sym (any_map (λ one. has_user one.1 owner) named hosts)

module _ {D : Type 0} where
  abbrev seen : HostState D → Seen
  seen host = (host.name, map owner_of host.trees)

  -- the hosts that were named are those that are open
  abbrev Same : List NewHost → Hosts D → Type 0
  Same hosts x = map seen x.hosts ≡ map named hosts

  seen_names : (x : Hosts D) (name : Text) → list_any (is_named name) x.hosts ≡ has_name (map seen x.hosts) name
  seen_names x name = sym (any_map (λ one. bytes_eq one.0 name) seen x.hosts)

  tree_seen : (owner : UserName) (host : HostState D) → has_tree owner host ≡ has_user (map owner_of host.trees) owner
  tree_seen owner host = found_any (is_of owner) host.trees ∙ sym (any_map (λ one. bytes_eq one owner) owner_of host.trees)

  seen_owners : (x : Hosts D) (owner : UserName) → list_any (has_tree owner) x.hosts ≡ has_owner (map seen x.hosts) owner
  seen_owners x owner = any_alike (has_tree owner) (λ host. has_user (map owner_of host.trees) owner) (tree_seen owner) x.hosts ∙ sym (any_map (λ one. has_user one.1 owner) seen x.hosts)

  -- so names are known alike, and trees
  same_names : (hosts : List NewHost) (x : Hosts D) → Same hosts x → (name : Text) → list_any (is_named name) x.hosts ≡ told.has_host hosts name
  same_names hosts x same name = seen_names x name ∙ (ap (λ all. has_name all name) same ∙ sym (named_names hosts name))

  same_owners : (hosts : List NewHost) (x : Hosts D) → Same hosts x → (owner : UserName) → list_any (has_tree owner) x.hosts ≡ told.has_tree hosts owner
  same_owners hosts x same owner = seen_owners x owner ∙ (ap (λ all. has_owner all owner) same ∙ sym (named_owners hosts owner))

  same_size : (hosts : List NewHost) (x : Hosts D) → Same hosts x → length x.hosts ≡ length hosts
  same_size hosts x same = sym (length-map x.hosts seen) ∙ (ap length same ∙ length-map hosts named)

  no_place : (x : Hosts D) (name : Text) → is_none (place_of x name) ≡ not (list_any (is_named name) x.hosts)
  no_place x name = unplaced (is_named name) x.hosts

  same_new : (hosts : List NewHost) (x : Hosts D) → Same hosts x → (host : NewHost) → script.is_new x host ≡ is_new hosts host
  same_new hosts x same host =
      let size = ap (λ n. nat_lt n 8 && is_none (place_of x host.name) && list_all (λ owner. not (list_any (has_tree owner) x.hosts)) host.owners) (same_size hosts x same) in
      let name = ap (λ b. nat_lt (length hosts) 8 && b && list_all (λ owner. not (list_any (has_tree owner) x.hosts)) host.owners) (no_place x host.name ∙ ap not (same_names hosts x same host.name)) in
      let owners = ap (λ b. nat_lt (length hosts) 8 && not (told.has_host hosts host.name) && b)
      (all_alike (λ owner. not (list_any (has_tree owner) x.hosts)) (λ owner. not (told.has_tree hosts owner)) (λ owner. ap not (same_owners hosts x same owner)) host.owners) in
      size ∙ (name ∙ owners)

  -- the place of a host, or none
  known_by : (hosts : List NewHost) (x : Hosts D) → Same hosts x → (name : Text) (place : ℕ) → place_of x name ≡ Some place → told.has_host hosts name ≡ true
  known_by hosts x same name place at = sym (same_names hosts x same name) ∙ (sym (not_not (list_any (is_named name) x.hosts)) ∙ ap not (sym (no_place x name) ∙ ap is_none at))

  unknown_by : (hosts : List NewHost) (x : Hosts D) → Same hosts x → (name : Text) → place_of x name ≡ None → told.has_host hosts name ≡ false
  unknown_by hosts x same name none = sym (same_names hosts x same name) ∙ (sym (not_not (list_any (is_named name) x.hosts)) ∙ ap not (sym (no_place x name) ∙ ap is_none none))

  -- ---- what stays of the hosts

  at_same : (place : ℕ) (did : HostState D → HostState D → Type 0) (x y : Hosts D) → (h : AtHost place did x y) → seen h.after ≡ seen h.before → map seen y.hosts ≡ map seen x.hosts
  at_same place did x y h same = ap (λ a. map seen a.hosts) h.whole ∙ map_set seen x.hosts place h.before h.after h.there same

  signed_same : (number place : ℕ) (given : Signed) (x : Hosts D) → map seen (signed_on number place given x).hosts ≡ map seen x.hosts
  signed_same number place (Ok (Some session)) x = refl
  signed_same number place (Ok None) x = refl
  signed_same number place (Err why) x = refl

  opened_owners : (disks : Ghosts D) (limits : Limits) (owners : List UserName) (given : List D) (trees : List (Held (State D))) → OpensTrees disks limits owners given trees → map owner_of trees ≡ owners
  opened_owners disks limits [] [] [] opens = refl
  opened_owners disks limits (owner ∷ owners) (disk ∷ more) (held ∷ trees) opens = ap (λ one. one ∷ map owner_of trees) opens.0.owner_is ∙ ap (λ others. owner ∷ others) (opened_owners disks limits owners more trees opens.1)
  opened_owners disks limits [] [] (held ∷ trees) opens = absurd opens
  opened_owners disks limits [] (disk ∷ more) trees opens = absurd opens
  opened_owners disks limits (owner ∷ owners) [] trees opens = absurd opens
  opened_owners disks limits (owner ∷ owners) (disk ∷ more) [] opens = absurd opens

  -- ---- a line

  -- what came of a line agrees with what is found of it: the hosts behind it, or none
  abbrev Agrees : Option (List NewHost) → LineResult → Hosts D → Type 0
  Agrees found (Ok did) y = (next : List NewHost) × ((found ≡ Some next) × Same next y)
  Agrees found (Err stop.Malformed) y = found ≡ None
  Agrees found (Err stop.HelperFault) y = Unit {0}
  Agrees found (Err stop.DiskFault) y = Unit {0}
  Agrees found (Err stop.OutOfMemory) y = Unit {0}

  replied_keeps : (hosts : List NewHost) (number : ℕ) (given : Reply) (y : Hosts D) → Same hosts y → Agrees (Some hosts) (result_of_reply number given) y
  replied_keeps hosts number reply.OutOfMemory y same = tt
  replied_keeps hosts number given y same = (hosts, (refl, same))

  put_keeps : (hosts : List NewHost) (number : ℕ) (result : Result ℕ ClientFault) (y : Hosts D) → Same hosts y → Agrees (Some hosts) (result_of_put number result) y
  put_keeps hosts number (Err client.OutOfMemory) y same = tt
  put_keeps hosts number result y same = (hosts, (refl, same))

  got_keeps : (hosts : List NewHost) (number : ℕ) (result : Result (List ℕ) ClientFault) (y : Hosts D) → Same hosts y → Agrees (Some hosts) (result_of_get number result) y
  got_keeps hosts number (Err client.OutOfMemory) y same = tt
  got_keeps hosts number result y same = (hosts, (refl, same))

module _ {D P V C N : Type 0} (who : Parties D P V C N) (limits : Limits) where
  host_agrees : (hosts : List NewHost) (host : NewHost) (x y : Hosts D) (came : LineResult) → Same hosts x → HostCame who.disks limits host x came y → Agrees (hosts_behind hosts (lines.Host host)) came y
  host_agrees hosts host x y came same (HostCame.opened new opens) =
      let behind : map seen y.hosts ≡ map named (hosts ++ host ∷ []) =
      ap (map seen) opens.hosts_are ∙ (map-append seen x.hosts (opens.host ∷ []) ∙ (ap (λ front. front ++ seen opens.host ∷ []) same
      ∙ (ap (λ last. map named hosts ++ last ∷ []) (pair_of opens.opens.name_is (opened_owners who.disks limits host.owners opens.opens.logs.of_trees opens.host.trees opens.opens.logs.trees_are)) ∙ sym (map-append named hosts (host ∷ []))))) in
      (hosts ++ host ∷ [], (ap (λ b. if b then Some (hosts ++ host ∷ []) else None) (sym (same_new hosts x same host) ∙ new), behind))
  host_agrees hosts host x y came same (HostCame.not_new old) = ap (λ b. if b then Some (hosts ++ host ∷ []) else None) (sym (same_new hosts x same host) ∙ old)
  host_agrees hosts host x y came same (HostCame.failed new opens) = tt
  host_agrees hosts host x y came same (HostCame.wanting new opens) = tt

  enrol_agrees : (hosts : List NewHost) (user : NewUser) (x y : Hosts D) (came : LineResult) → Same hosts x → EnrolCame who.disks user x came y → Agrees (hosts_behind hosts (lines.Enrol user)) came y
  enrol_agrees hosts user x y came same (EnrolCame.enrolled {place = place} at enrols) =
      (hosts, (ap (λ b. if b then Some hosts else None) (known_by hosts x same user.host place at), at_same place _ x y enrols (ap seen enrols.done.enrols.whole) ∙ same))
  enrol_agrees hosts user x y came same (EnrolCame.full {place = place} at enrols) =
      (hosts, (ap (λ b. if b then Some hosts else None) (known_by hosts x same user.host place at), at_same place _ x y enrols (ap seen enrols.done.enrols.whole) ∙ same))
  enrol_agrees hosts user x y came same (EnrolCame.unknown none) = ap (λ b. if b then Some hosts else None) (unknown_by hosts x same user.host none)
  enrol_agrees hosts user x y came same (EnrolCame.failed at enrols) = tt
  enrol_agrees hosts user x y came same (EnrolCame.wanting at enrols) = tt
  enrol_agrees hosts user x y came same EnrolCame.unmade = tt

  open_agrees : (hosts : List NewHost) (s : NewSession) (x y : Hosts D) (v w : V) (n m : N) (came : LineResult) → Same hosts x → OpenCame who.verifiers who.nonces s x v n came y w m → Agrees (hosts_behind hosts (lines.Open s)) came y
  open_agrees hosts s x y v w n m came same (OpenCame.judged {place = place} at signs) =
      (hosts, (ap (λ b. if b then Some hosts else None) (known_by hosts x same s.host place at), ap (λ a. map seen a.hosts) signs.after ∙ (signed_same s.number place signs.signed x ∙ same)))
  open_agrees hosts s x y v w n m came same (OpenCame.unknown none) = ap (λ b. if b then Some hosts else None) (unknown_by hosts x same s.host none)
  open_agrees hosts s x y v w n m came same (OpenCame.failed at signs) = tt
  open_agrees hosts s x y v w n m came same (OpenCame.wanting at signs) = tt

  ask_agrees : (hosts : List NewHost) (number : ℕ) (words : List Text) (x y : Hosts D) (p q : P) (c d : C) (came : LineResult) → Same hosts x → AskCame who.disks who.peers who.clocks number words x p c came y q d → Agrees (Some hosts) came y
  ask_agrees hosts number words x y p q c d came same (AskCame.no_session none) = (hosts, (refl, same))
  ask_agrees hosts number words x y p q c d came same (AskCame.asked {opened = opened} {e = e} there is read asks) =
      replied_keeps hosts number e.reply y (at_same opened.place _ x y asks (pair_of asks.done.stays.name_is asks.done.stays.settled.owners) ∙ same)
  ask_agrees hosts number words x y p q c d came same AskCame.wanting = tt

  done_agrees : (hosts : List NewHost) (number : ℕ) (call : ClientLine) (x y : Hosts D) (p q : P) (came : LineResult) (opened : Opened) (path : PathName) (moment : ℕ) → Same hosts x
      → CallDone who.disks who.peers who.clocks opened number moment path x p call came y q → Agrees (Some hosts) came y
  done_agrees hosts number call x y p q came opened path moment same (CallDone.put {result = result} puts) =
      put_keeps hosts number result y (at_same opened.place _ x y puts (pair_of puts.done.stays.name_is puts.done.stays.settled.owners) ∙ same)
  done_agrees hosts number call x y p q came opened path moment same (CallDone.got {result = result} gets) =
      got_keeps hosts number result y (at_same opened.place _ x y gets (pair_of gets.done.stays.name_is gets.done.stays.settled.owners) ∙ same)

  call_agrees : (hosts : List NewHost) (number : ℕ) (call : ClientLine) (x y : Hosts D) (p q : P) (c d : C) (came : LineResult) → Same hosts x → CallCame who.disks who.peers who.clocks number call x p c came y q d → Agrees (Some hosts) came y
  call_agrees hosts number call x y p q c d came same (CallCame.no_session none) = (hosts, (refl, same))
  call_agrees hosts number call x y p q c d came same (CallCame.bad_path there bad read) = (hosts, (refl, same))
  call_agrees hosts number call x y p q c d came same (CallCame.called {opened = opened} {path = path} {moment = moment} there is read made) = done_agrees hosts number call x y p q came opened path moment same made
  call_agrees hosts number call x y p q c d came same CallCame.wanting = tt

  says_agrees : (hosts : List NewHost) (a b : World D P V C N) (what : ScriptLine) (came : LineResult) → Same hosts a.state → SaysCame who limits a what came b → Agrees (hosts_behind hosts what) came b.state
  says_agrees hosts a b lines.Silent came same h = subst (λ c. Agrees (Some hosts) c b.state) (sym h.0) (hosts, (refl, ap (λ w. map seen w.state.hosts) h.1 ∙ same))
  says_agrees hosts a b (lines.Host host) came same h = host_agrees hosts host a.state b.state came same h.0
  says_agrees hosts a b (lines.Enrol user) came same h = enrol_agrees hosts user a.state b.state came same h.0
  says_agrees hosts a b (lines.Open session) came same h = open_agrees hosts session a.state b.state a.around.verifier b.around.verifier a.around.nonces b.around.nonces came same h.0
  says_agrees hosts a b (lines.Request number words) came same h = ask_agrees hosts number words a.state b.state a.around.peers b.around.peers a.around.clock b.around.clock came same h.0
  says_agrees hosts a b (lines.Client number call) came same h = call_agrees hosts number call a.state b.state a.around.peers b.around.peers a.around.clock b.around.clock came same h.0

  line_agrees : (hosts : List NewHost) (a b : World D P V C N) (line : Text) (came : LineResult) → Same hosts a.state → LineCame who limits a line came b → Agrees (line_behind hosts line) came b.state
  line_agrees hosts a b line came same (LineCame.malformed none) = ap (option_and_then (hosts_behind hosts)) none
  line_agrees hosts a b line came same (LineCame.says {what = what} is h) =
      subst (λ found. Agrees found came b.state) (sym (ap (option_and_then (hosts_behind hosts)) is)) (says_agrees hosts a b what came same h)
  line_agrees hosts a b line came same LineCame.unread = tt

  -- ---- the lines

  -- the numbers behind lines that were done are those of the lines that are left
  done_lines : (number : ℕ) (hosts : List NewHost) (a last : World D P V C N) (done left : List Text) (dids : List LineDid) → Same hosts a.state → Run (LineDoes who limits) a done dids last
      → (next : List NewHost) × ((bad_from line_behind number hosts (done ++ left) ≡ bad_from line_behind (length done + number) next left) × Same next last.state)
  unfolding bad_from
  done_lines number hosts a last [] left [] same run = (hosts, (ap (λ n. bad_from line_behind n hosts left) (first_number number), ap (λ w. map seen w.state.hosts) run ∙ same))
  done_lines number hosts a last (line ∷ done) left (did ∷ dids) same run =
      let one = line_agrees hosts a run.0 line (Ok did) same run.1.0 in
      let rest = done_lines (number + 1) one.0 run.0 last done left dids one.1.1 run.1.1 in
      (rest.0, (ap (λ found. number_if number found ++ bad_from line_behind (number + 1) (stands hosts found) (done ++ left)) one.1.0 ∙ (rest.1.0 ∙ ap (λ n. bad_from line_behind n rest.0 left) (next_number (length done) number)), rest.1.1))
  done_lines number hosts a last [] left (did ∷ dids) same run = absurd run
  done_lines number hosts a last (line ∷ done) left [] same run = absurd run

  -- where the numbers are those, the run ends so
  ends_by : (hosts : List NewHost) (last b : World D P V C N) (number : ℕ) (left : List Text) (tail : Text) (code : ℕ) → Same hosts last.state → Ends who limits last number left tail code b → code ≡ 1
      → (more : List ℕ) × ((bad_from line_behind number hosts left ≡ number ∷ more) × (tail ≡ bad_line number))
  unfolding bad_from
  ends_by hosts last b number left tail code same Ends.at_end is = absurd (cc)
  ends_by hosts last b number left tail code same (Ends.stopped {line = line} {more = more} stop.Malformed came) is =
      let found = line_agrees hosts last b line (Err stop.Malformed) same came in
      (bad_from line_behind (number + 1) hosts more, (ap (λ o. number_if number o ++ bad_from line_behind (number + 1) (stands hosts o) more) found, refl))
  ends_by hosts last b number left tail code same (Ends.stopped stop.HelperFault came) is = absurd (cc)
  ends_by hosts last b number left tail code same (Ends.stopped stop.DiskFault came) is = absurd (cc)
  ends_by hosts last b number left tail code same (Ends.stopped stop.OutOfMemory came) is = absurd (cc)
  ends_by hosts last b number left tail code same Ends.unwritten is = absurd (cc)

-- what ends with that line is what the law says, whatever the numbers are
first_of : (numbers : List ℕ) (old new : Option Text) (status number : ℕ) (text tail : Text) → (status ≡ 1 → (more : List ℕ) × ((numbers ≡ number ∷ more) × (tail ≡ bad_line number))) → (status ≡ 1 → Appends old new (text ++ tail)) → EndsAtFirst numbers old new status
first_of [] old new status number text tail found written = λ is. let f = found is in absurd (let e : [] ≡ number ∷ f.0 = f.1.0 in cc)
first_of (first ∷ rest) old new status number text tail found written = λ is.
    let f = found is in
    let e : first ≡ number = let k : first ∷ rest ≡ number ∷ f.0 = f.1.0 in cc in
    (text, subst (λ last. Appends old new (text ++ last)) (f.1.1 ∙ ap bad_line (sym e)) (written is))

module _ {D P V C N : Type 0} (who : Parties D P V C N) where
  scripted_ends : (limits : Limits) (input : Text) (old new : Option Text) (given : List D) (before : Around P V C N) (status : ℕ) (b : World D P V C N)
      → Scripted who limits old new (among (at_first given) before) (script_lines input) status b → EndsAtFirst (bad_in_script input) old new status
  scripted_ends limits input old new given before status b s =
      let lines_done = done_lines who limits 1 [] (among (at_first given) before) s.last s.done s.left s.dids refl s.run in
      let all : bad_in_script input ≡ bad_from line_behind (length s.done + 1) lines_done.0 s.left = ap (bad_from line_behind 1 []) (sym s.cut) ∙ lines_done.1.0 in
      first_of (bad_in_script input) old new status (length s.done + 1) (printed s.dids) s.tail
      (λ is. let e = ends_by who limits lines_done.0 s.last b (length s.done + 1) s.left s.tail s.code lines_done.1.1 s.ends (sym (s.status_is (ap is_cut is)) ∙ is) in (e.0, (all ∙ e.1.0, e.1.1)))
      (λ is. s.whole (ap is_cut is))

  pub ends_at_first : (limits : Limits) (input : Text) (old new : Option Text) (given back : List D) (before after : Around P V C N) (status : ℕ)
      → Means who limits (Some input) old new given back before after status → EndsAtFirst (bad_in_script input) old new status
  ends_at_first limits input old new given back before after status means =
      subst (λ text. EndsAtFirst (bad_in_script text) old new status) means.told (scripted_ends limits means.input old new given before status (among means.state after) means.scripted)
