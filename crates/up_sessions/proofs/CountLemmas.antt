-- How the counts of disks and peers rise over each kind of line.
use Rattle.std.proofs.Common.{◌≡◌, ◌≤◌, ◌+◌, ℕ, ℤ, zero, suc, List, [], ◌∷◌, Option, Some, None, Result, Ok, Err, refl, ap, ◌∙◌, arith}
use Rattle.std.proofs.lemmas.List.Sums.{sum_by-append, sum_by-cons}
use Rattle.std.specs.List.{sum_by}
use Rattle.std.specs.Prelude.{slice_get}
use Rattle.std.specs.Prelude as std
use Rattle.up_client.specs.declared.fault.ClientFault.{ClientFault}
use Rattle.up_disk.specs.declared.disk.Disk.{Ghosts}
use Rattle.up_lists.specs.Counts.{Rose}
use Rattle.up_host.proofs.CountLemmas.{opens_later, refuses_counts}
use Rattle.up_host.specs.Alone.{HostState, disk_faults, io_of}
use Rattle.up_host.specs.Routes.{Question}
use Rattle.up_calls.specs.declared.event.Event.{Event}
use Rattle.up_journal.specs.declared.fault.AppendWhy.{AppendWhy}
use Rattle.up_journal.specs.declared.fault.AppendWhy.TheVariants as append
use Rattle.up_journal.specs.declared.limits.Limits.{Limits}
use Rattle.up_names.specs.PathNames.{PathName}
use Rattle.up_names.specs.Texts.{UserName}
use Rattle.up_peer.specs.declared.loader.Loader as loader
use Rattle.up_sessions.proofs.KeptLemmas.{sum_moved}
use Rattle.up_sessions.specs.Asking.{AsksHost}
use Rattle.up_sessions.specs.Lines.{EnrolLine, GetLine, HostLine, OpenLine, PutLine, RequestLine}
use Rattle.up_sessions.specs.Opening.{EnrolsAt, OpensNext}
use Rattle.up_sessions.specs.Signing.{JudgesBy, Signed, is_open, signed_on}
use Rattle.up_sessions.specs.Talking.{TalksAt, io_in}
use Rattle.up_sessions.specs.Worlds.{AtHost, Hosts, Parties, RosePerIo, World, faults_in, faults_of}
use Rattle.up_sessions.specs.declared.fault.LineFault.{LineFault}
use Rattle.up_sessions.specs.declared.fault.LineFault.TheVariants as line
use Rattle.up_client.specs.Getting.{get_talk}
use Rattle.up_client.specs.Putting.{put_talk}
use Rattle.up_client.specs.Talks.{Talking}
use Rattle.up_keys.specs.Records.{record_in}
use Rattle.up_wire.specs.declared.keys.KeyRecord.{KeyRecord}
use Rattle.up_wire.specs.declared.requests.Request.{Request}

-- one item of a sum
one_of : {X : Type 0} (f : X → ℕ) (xs : List X) (i : ℕ) (x : X) → slice_get xs i ≡ Some x → f x ≤ sum_by f xs
one_of f [] i x is = absurd (cc)
one_of f (y ∷ xs) zero x is = let same : f y ≡ f x = ap f (let e : y ≡ x = cc in e) in let c = sum_by-cons f y xs in omega (arith, same, c)
one_of f (y ∷ xs) (suc i) x is = let rest = one_of f xs i x is in let c = sum_by-cons f y xs in omega (arith, rest, c)

module _ {D : Type 0} (disks : Ghosts D) (limits : Limits) where
  -- ---- a host is opened or refused

  pub next_later : (name : List ℕ) (operator : UserName) (owners : List UserName) (a b : Hosts D) (result : Result (Unit {0}) LineFault) → OpensNext disks limits name operator owners a result b → faults_in disks a ≤ faults_in disks b
  next_later name operator owners a b (Ok done) adds =
      let opened = opens_later disks limits name operator owners adds.given adds.host adds.opens in
      let free = ap (sum_by disks.faults) adds.free_is ∙ sum_by-append disks.faults adds.given b.free in
      let more = ap (sum_by (disk_faults disks)) adds.hosts_are ∙ sum_by-append (disk_faults disks) a.hosts (adds.host ∷ []) in
      let one = sum_by-cons (disk_faults disks) adds.host [] in
      omega (arith, opened, free, more, one)
  next_later name operator owners a b (Err why) refuses =
      let back = (refuses_counts disks limits owners refuses.given refuses.refused refuses.refuses).0 in
      let free = ap (sum_by disks.faults) refuses.free_is ∙ sum_by-append disks.faults refuses.given refuses.rest in
      let after = ap (λ (h : Hosts D). sum_by disks.faults h.free) refuses.whole ∙ sum_by-append disks.faults refuses.refused.disks.disks refuses.rest in
      let same = ap (λ (h : Hosts D). sum_by (disk_faults disks) h.hosts) refuses.whole in
      omega (arith, back, free, after, same)

  pub next_rose : (name : List ℕ) (operator : UserName) (owners : List UserName) (a b : Hosts D) → OpensNext disks limits name operator owners a (Err line.Fault) b → Rose (faults_in disks a) (faults_in disks b)
  next_rose name operator owners a b refuses below =
      let free = ap (sum_by disks.faults) refuses.free_is ∙ sum_by-append disks.faults refuses.given refuses.rest in
      let rose = (refuses_counts disks limits owners refuses.given refuses.refused refuses.refuses).1 refuses.why_is (omega (arith, free, below)) in
      let after = ap (λ (h : Hosts D). sum_by disks.faults h.free) refuses.whole ∙ sum_by-append disks.faults refuses.refused.disks.disks refuses.rest in
      let same = ap (λ (h : Hosts D). sum_by (disk_faults disks) h.hosts) refuses.whole in
      omega (arith, rose, free, after, same)

module _ {D : Type 0} (disks : Ghosts D) where
  -- ---- a host becomes another one

  -- the sum changes as the count of that host does
  pub at_moved : (place : ℕ) (did : HostState D → HostState D → Type 0) (a b : Hosts D) (h : AtHost place did a b) → faults_in disks b + disk_faults disks h.before ≡ faults_in disks a + disk_faults disks h.after
  at_moved place did a b h =
      let moved = sum_moved (disk_faults disks) a.hosts place h.before h.after h.there in
      let hosts = ap (λ (s : Hosts D). sum_by (disk_faults disks) s.hosts) h.whole in
      let free = ap (λ (s : Hosts D). sum_by disks.faults s.free) h.whole in
      omega (arith, moved, hosts, free)

  -- which is one of the whole
  pub after_within : (place : ℕ) (did : HostState D → HostState D → Type 0) (a b : Hosts D) (h : AtHost place did a b) → disk_faults disks h.after ≤ faults_in disks b
  after_within place did a b h =
      let moved = at_moved place did a b h in
      let here = one_of (disk_faults disks) a.hosts place h.before h.there in
      omega (arith, moved, here)

  pub enrols_later : (place : ℕ) (user : UserName) (key : List ℕ) (a b : Hosts D) (result : Result ℕ AppendWhy) → EnrolsAt disks place user key a result b → faults_in disks a ≤ faults_in disks b
  enrols_later place user key a b result h =
      let moved = at_moved place _ a b h in
      let later = h.done.enrols.grows.later in
      let after = ap (disk_faults disks) h.done.enrols.whole in
      omega (arith, moved, later, after)

  pub enrols_rose : (place : ℕ) (user : UserName) (key : List ℕ) (a b : Hosts D) → EnrolsAt disks place user key a (Err append.Fault) b → Rose (faults_in disks a) (faults_in disks b)
  enrols_rose place user key a b h below =
      let moved = at_moved place _ a b h in
      let after = ap (disk_faults disks) h.done.enrols.whole in
      let here = one_of (disk_faults disks) a.hosts place h.before h.there in
      let rose = h.done.enrols.puts.cause.rose refl (omega (arith, here, below)) in
      omega (arith, moved, rose, after)

module _ {D P : Type 0} (disks : Ghosts D) (peers : loader.Ghosts P) where
  pub asks_rose : (place : ℕ) (q : Question) (moment : ℕ) (e : Event) (a b : Hosts D) (old new : P) → AsksHost disks peers place q moment e a old b new
      → RosePerIo (faults_in disks a + peers.faults old) (faults_in disks b + peers.faults new) (io_of e.reply)
  asks_rose place q moment e a b old new h =
      let moved = at_moved disks place _ a b h in
      let counts = h.done.counts in
      let one = counts.disks in let two = counts.loader in
      record {
        later = omega (arith, moved, one, two);
        io = λ below. omega (arith, moved, one, two, below, counts.io (let host = after_within disks place _ a b h in omega (arith, host, below)));
      }

  pub talks_rose : {X : Type 0} (place : ℕ) (user : UserName) (moment : ℕ) (talk : Talking X) (result : Result X ClientFault) (a b : Hosts D) (old new : P) → TalksAt disks peers place user moment talk result a old b new
      → RosePerIo (faults_in disks a + peers.faults old) (faults_in disks b + peers.faults new) (io_in result)
  talks_rose place user moment talk result a b old new h =
      let moved = at_moved disks place _ a b h in
      let counts = h.done.counts in
      let one = counts.disks in let two = counts.peers in
      record {
        later = omega (arith, moved, one, two);
        io = λ below. omega (arith, moved, one, two, below, counts.io (let host = after_within disks place _ a b h in omega (arith, host, below)));
      }

-- ---- a line, among all that stands around the hosts

module _ {D P V C N : Type 0} (who : Parties D P V C N) where
  pub host_line : (limits : Limits) (name : List ℕ) (operator : UserName) (owners : List UserName) (a b : World D P V C N) (result : Result (Unit {0}) LineFault) → HostLine who limits name operator owners a result b → RosePerIo (faults_of who a) (faults_of who b) 0
  host_line limits name operator owners a b result h =
      let state = next_later who.disks limits name operator owners a.state b.state result h.opens in
      let peers = ap (λ around. who.peers.faults around.peers) h.around in
      record { later = omega (arith, state, peers); io = λ below. omega (arith, state, peers) }

  pub enrol_line : (place : ℕ) (user : UserName) (key : List ℕ) (a b : World D P V C N) (result : Result ℕ AppendWhy) → EnrolLine who place user key a result b → RosePerIo (faults_of who a) (faults_of who b) 0
  enrol_line place user key a b result h =
      let state = enrols_later who.disks place user key a.state b.state result h.enrols in
      let peers = ap (λ around. who.peers.faults around.peers) h.around in
      record { later = omega (arith, state, peers); io = λ below. omega (arith, state, peers) }

  signed_same : (number place : ℕ) (signed : Signed) (a : Hosts D) → faults_in who.disks (signed_on number place signed a) ≡ faults_in who.disks a
  signed_same number place (Ok (Some session)) a = refl
  signed_same number place (Ok None) a = refl
  signed_same number place (Err why) a = refl

  pub open_line : (number place : ℕ) (user : UserName) (signature : List ℕ) (a b : World D P V C N) (result : Result std.Bool LineFault) → OpenLine who number place user signature a result b → RosePerIo (faults_of who a) (faults_of who b) 0
  open_line number place user signature a b result h =
      let state = ap (faults_in who.disks) h.signs.after ∙ signed_same number place h.signs.signed a.state in
      let peers = ap who.peers.faults h.peers in
      record { later = omega (arith, state, peers); io = λ below. omega (arith, state, peers) }

  pub request_line : (number : ℕ) (request : Request) (a b : World D P V C N) (e : Event) → RequestLine who number request a e b → RosePerIo (faults_of who a) (faults_of who b) (io_of e.reply)
  request_line number request a b e h =
      asks_rose who.disks who.peers h.now.opened.place (record { user = h.now.opened.session.user; request = request }) h.now.moment e a.state b.state a.around.peers b.around.peers h.asks

  pub put_line : (number : ℕ) (path : PathName) (time sequence : ℤ) (bytes : List ℕ) (a b : World D P V C N) (result : Result ℕ ClientFault) → PutLine who number path time sequence bytes a result b → RosePerIo (faults_of who a) (faults_of who b) (io_in result)
  put_line number path time sequence bytes a b result h =
      talks_rose who.disks who.peers h.now.opened.place h.now.opened.session.user h.now.moment (put_talk h.now.opened.session.user path time sequence bytes) result a.state b.state a.around.peers b.around.peers h.puts

  pub get_line : (number : ℕ) (path : PathName) (a b : World D P V C N) (result : Result (List ℕ) ClientFault) → GetLine who number path a result b → RosePerIo (faults_of who a) (faults_of who b) (io_in result)
  get_line number path a b result h =
      talks_rose who.disks who.peers h.now.opened.place h.now.opened.session.user h.now.moment (get_talk path) result a.state b.state a.around.peers b.around.peers h.gets

  -- ---- a fault has its cause

  by_card : (host : List ℕ) (card : Option KeyRecord) (signature : List ℕ) (v w : V) (n m : N) (signed : Signed) → Err line.Fault ≡ is_open signed → JudgesBy who.verifiers who.nonces host card signature v n signed w m → Rose (who.verifiers.faults v) (who.verifiers.faults w)
  by_card host (Some card) signature v w n m (Err line.Fault) is judged = judged.counts.rose refl
  by_card host None signature v w n m (Err line.Fault) is judged = absurd (let e : Err line.Fault ≡ Ok None = judged.0 in cc)
  by_card host card signature v w n m (Err line.OutOfMemory) is judged = absurd (cc)
  by_card host card signature v w n m (Ok session) is judged = absurd (cc)

  pub open_fault : (number place : ℕ) (user : UserName) (signature : List ℕ) (a b : World D P V C N) → OpenLine who number place user signature a (Err line.Fault) b → Rose (who.verifiers.faults a.around.verifier) (who.verifiers.faults b.around.verifier)
  open_fault number place user signature a b h =
      by_card h.signs.host.name (record_in h.signs.host.keys.state.log user) signature a.around.verifier b.around.verifier a.around.nonces b.around.nonces h.signs.signed h.signs.result_is h.signs.judged
