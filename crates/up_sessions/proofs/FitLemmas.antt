-- What the hosts of a script over 80 empty disks keep, line by line.
use Rattle.std.proofs.Common.{◌≡◌, ◌≤◌, ◌<◌, ◌+◌, ◌*◌, ℕ, ℤ, zero, suc, List, [], ◌∷◌, ◌++◌, length, map, Some, None, Result, Ok, Err, refl, sym, ap, subst, ◌∙◌, arith, length-append}
use Rattle.std.specs.List.{AllByRecursion, AllZip, flat_map}
use Rattle.std.specs.Prelude.{slice_get, slice_set}
use Rattle.std.specs.Prelude as std
use Rattle.up_client.specs.declared.fault.ClientFault.{ClientFault}
use Rattle.up_disk.specs.declared.disk.Disk.{Ghosts}
use Rattle.up_host.specs.Alone.{HostState}
use Rattle.up_host.specs.Settled.{StaysSettled, owner_of}
use Rattle.up_calls.specs.declared.event.Event.{Event}
use Rattle.up_journal.specs.declared.fault.AppendWhy.{AppendWhy}
use Rattle.up_journal.specs.declared.limits.Limits.{Limits}
use Rattle.up_names.specs.PathNames.{PathName}
use Rattle.up_names.specs.Texts.{UserName}
use Rattle.up_sessions.proofs.KeepLemmas.{enrol_keeps, get_keeps, host_keeps, put_keeps, request_keeps}
use Rattle.up_sessions.proofs.KeptLemmas.{as_many, trees_opened}
use Rattle.up_sessions.specs.Fitting.{HasFew, IsFit}
use Rattle.up_sessions.specs.Keeping.{AllStayIn, Place, all_places, place_of, place_of_tree, places_of}
use Rattle.up_sessions.specs.Lines.{EnrolLine, GetLine, HostLine, OpenLine, PutLine, RequestLine}
use Rattle.up_disk.specs.Leaving.{IsBlank}
use Rattle.up_sessions.specs.Signing.{Signed, signed_on}
use Rattle.up_sessions.specs.Worlds.{AtHost, Hosts, Parties, World, no_session}
use Rattle.up_sessions.specs.declared.fault.LineFault.{LineFault}
use Rattle.up_wire.specs.declared.requests.Request.{Request}

zip_length : {X : Type 0} (R : X → X → Type 0) (xs ys : List X) → AllZip R xs ys → length ys ≡ length xs
zip_length R [] [] all = refl
zip_length R (x ∷ xs) (y ∷ ys) all = ap suc (zip_length R xs ys all.1)
zip_length R [] (y ∷ ys) all = absurd all
zip_length R (x ∷ xs) [] all = absurd all

mapped : {X Y : Type 0} (f : X → Y) (xs : List X) → length (map f xs) ≡ length xs
mapped f [] = refl
mapped f (x ∷ xs) = ap suc (mapped f xs)

all_set : {X : Type 0} (P : X → Type 0) (xs : List X) (i : ℕ) (x : X) → AllByRecursion P xs → P x → AllByRecursion P (slice_set xs i x)
all_set P [] i x all one = tt
all_set P (y ∷ xs) zero x all one = (one, all.1)
all_set P (y ∷ xs) (suc i) x all one = (all.0, all_set P xs i x all.1 one)

all_at : {X : Type 0} (P : X → Type 0) (xs : List X) (i : ℕ) (x : X) → AllByRecursion P xs → slice_get xs i ≡ Some x → P x
all_at P [] i x all is = absurd (cc)
all_at {X} P (y ∷ xs) zero x all is = let same : y ≡ x = cc in subst P same all.0
all_at P (y ∷ xs) (suc i) x all is = all_at P xs i x all.1 is

all_more : {X : Type 0} (P : X → Type 0) (xs : List X) (x : X) → AllByRecursion P xs → P x → AllByRecursion P (xs ++ x ∷ [])
all_more P [] x all one = (one, tt)
all_more P (y ∷ xs) x all one = (all.0, all_more P xs x all.1 one)

all_behind : {X : Type 0} (P : X → Type 0) (xs ys : List X) → AllByRecursion P (xs ++ ys) → AllByRecursion P ys
all_behind P [] ys all = all
all_behind P (x ∷ xs) ys all = all_behind P xs ys all.1

-- hosts of at most eight trees have at most ten disks each
few_places : {D : Type 0} (hosts : List (HostState D)) → AllByRecursion HasFew hosts → length (flat_map places_of hosts) ≤ 10 * length hosts
few_places [] all = omega arith
few_places (host ∷ hosts) all =
    let rest = few_places hosts all.1 in
    let few = all.0 in
    let one = length-append (places_of host) (flat_map places_of hosts) in
    let two = length-append (map place_of_tree host.trees) (place_of host.store.state ∷ place_of host.keys.state ∷ []) in
    let three = mapped place_of_tree host.trees in
    omega (arith, rest, few, one, two, three)

module _ {D : Type 0} (disks : Ghosts D) where
  -- there are disks for an eighth host
  pub fit_room : (a : Hosts D) (n : ℕ) → IsFit disks a → length a.hosts < 8 → n ≤ 8 → n + 2 ≤ length a.free
  fit_room a n fit few trees =
      let used = few_places a.hosts fit.few in
      let all = length-append (flat_map places_of a.hosts) (map (λ disk. (disk, std.true)) a.free) in
      let free = mapped {Y = Place D} (λ disk. (disk, std.true)) a.free in
      let eighty = fit.eighty in
      omega (arith, used, all, free, eighty, few, trees)

  pub fit_start : (given : List D) → length given ≡ 80 → AllByRecursion (IsBlank disks) given → IsFit disks (record { hosts = []; sessions = no_session; free = given })
  fit_start given eighty blank = record { few = tt; eighty = mapped {Y = Place D} (λ disk. (disk, std.true)) given ∙ eighty; blank = blank }

  stays_fit : (a b : Hosts D) → IsFit disks a → AllStayIn disks a b → AllByRecursion HasFew b.hosts → AllByRecursion (IsBlank disks) b.free → IsFit disks b
  stays_fit a b fit stay few blank = record { few = few; eighty = zip_length _ (all_places a) (all_places b) stay ∙ fit.eighty; blank = blank }

  at_fit : (place : ℕ) (did : HostState D → HostState D → Type 0) (a b : Hosts D) (h : AtHost place did a b) → StaysSettled disks h.before h.after → AllStayIn disks a b → IsFit disks a → IsFit disks b
  at_fit place did a b h stays stay fit =
      let long = as_many owner_of h.before.trees h.after.trees stays.owners in
      let old : length h.before.trees ≤ 8 = all_at HasFew a.hosts place h.before fit.few h.there in
      stays_fit a b fit stay
      (subst (λ (s : Hosts D). AllByRecursion HasFew s.hosts) (sym h.whole) (all_set HasFew a.hosts place h.after fit.few (omega (arith, long, old))))
      (subst (λ (s : Hosts D). AllByRecursion (IsBlank disks) s.free) (sym h.whole) fit.blank)

  signed_fit : (number place : ℕ) (signed : Signed) (a : Hosts D) → IsFit disks a → IsFit disks (signed_on number place signed a)
  signed_fit number place (Ok (Some session)) a fit = record { few = fit.few; eighty = fit.eighty; blank = fit.blank }
  signed_fit number place (Ok None) a fit = record { few = fit.few; eighty = fit.eighty; blank = fit.blank }
  signed_fit number place (Err why) a fit = fit

module _ {D P V C N : Type 0} (who : Parties D P V C N) where
  -- a host of at most eight trees was opened
  pub host_fits : (limits : Limits) (name : List ℕ) (operator : UserName) (owners : List UserName) (a b : World D P V C N) → length owners ≤ 8 → HostLine who limits name operator owners a (Ok tt) b → IsFit who.disks a.state → IsFit who.disks b.state
  host_fits limits name operator owners a b few h fit =
      let adds = h.opens in
      let many = trees_opened who.disks limits owners adds.opens.logs.of_trees adds.host.trees adds.opens.logs.trees_are in
      stays_fit who.disks a.state b.state fit (host_keeps who limits name operator owners a b (Ok tt) h)
      (subst (AllByRecursion HasFew) (sym adds.hosts_are) (all_more HasFew a.state.hosts adds.host fit.few (omega (arith, many, few))))
      (all_behind (IsBlank who.disks) adds.given b.state.free (subst (AllByRecursion (IsBlank who.disks)) adds.free_is fit.blank))

  pub enrol_fits : (place : ℕ) (user : UserName) (key : List ℕ) (a b : World D P V C N) (result : Result ℕ AppendWhy) → EnrolLine who place user key a result b → IsFit who.disks a.state → IsFit who.disks b.state
  enrol_fits place user key a b result h = at_fit who.disks place _ a.state b.state h.enrols h.enrols.done.settled (enrol_keeps who place user key a b result h)

  pub open_fits : (number place : ℕ) (user : UserName) (signature : List ℕ) (a b : World D P V C N) (result : Result std.Bool LineFault) → OpenLine who number place user signature a result b → IsFit who.disks a.state → IsFit who.disks b.state
  open_fits number place user signature a b result h fit = subst (IsFit who.disks) (sym h.signs.after) (signed_fit who.disks number place h.signs.signed a.state fit)

  pub request_fits : (number : ℕ) (request : Request) (a b : World D P V C N) (e : Event) → RequestLine who number request a e b → IsFit who.disks a.state → IsFit who.disks b.state
  request_fits number request a b e h = at_fit who.disks h.now.opened.place _ a.state b.state h.asks h.asks.done.stays.settled (request_keeps who number request a b e h)

  pub put_fits : (number : ℕ) (path : PathName) (time sequence : ℤ) (bytes : List ℕ) (a b : World D P V C N) (result : Result ℕ ClientFault) → PutLine who number path time sequence bytes a result b → IsFit who.disks a.state → IsFit who.disks b.state
  put_fits number path time sequence bytes a b result h = at_fit who.disks h.now.opened.place _ a.state b.state h.puts h.puts.done.stays.settled (put_keeps who number path time sequence bytes a b result h)

  pub get_fits : (number : ℕ) (path : PathName) (a b : World D P V C N) (result : Result (List ℕ) ClientFault) → GetLine who number path a result b → IsFit who.disks a.state → IsFit who.disks b.state
  get_fits number path a b result h = at_fit who.disks h.now.opened.place _ a.state b.state h.gets h.gets.done.stays.settled (get_keeps who number path a b result h)
