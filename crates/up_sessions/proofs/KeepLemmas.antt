-- Each disk of a script stays settled in its place, but for a fault.
use Rattle.std.proofs.Common.{◌≡◌, ◌⊎◌, ◌≤◌, ℕ, ℤ, zero, suc, Bool, true, false, not, ◌&&◌, is_none, is_some, List, [], ◌∷◌, ◌++◌, length, map, Option, Some, None, Result, Ok, Err, inl, inr, refl, sym, ap, subst, ◌∙◌, arith, append_assoc, append-nil}
use Rattle.std.proofs.lemmas.Grind.{flat_map-append}
use Rattle.std.proofs.lemmas.List.{map-append}
use Rattle.std.specs.List.{AllZip, flat_map}
use Rattle.std.specs.Prelude.{slice_get, slice_set}
use Rattle.std.specs.Prelude as std
use Rattle.up_blocks.specs.Records as blocks
use Rattle.up_client.specs.declared.fault.ClientFault.{ClientFault}
use Rattle.up_disk.specs.declared.disk.Disk.{Ghosts}
use Rattle.up_lists.proofs.Causes.{Rose-after, Rose-before}
use Rattle.up_lists.specs.Counts.{Rose}
use Rattle.up_host.specs.Alone.{HostState}
use Rattle.up_host.specs.Opens.{IsLogOn, IsRefusedAs, OpensHost, OpensTrees, Reader, RefusesHost, WasOpenedAs, WereOpened}
use Rattle.up_host.specs.Routes.{LogName}
use Rattle.up_calls.specs.Settled.{KeepsSettled}
use Rattle.up_host.specs.Settled.{StaysSettled, owner_of}
use Rattle.up_calls.specs.declared.event.Event.{Event}
use Rattle.up_host.specs.declared.fault.HostFault.{HostFault}
use Rattle.up_host.specs.declared.held.Held.{Held}
use Rattle.up_journal.specs.Logs.{IsSettledLog, LogState}
use Rattle.up_journal.specs.declared.fault.AppendWhy.{AppendWhy}
use Rattle.up_journal.specs.declared.fault.OpenFault.{OpenFault}
use Rattle.up_journal.specs.declared.limits.Limits.{Limits}
use Rattle.up_names.specs.PathNames.{PathName}
use Rattle.up_names.specs.Texts.{UserName}
use Rattle.up_host.proofs.CountLemmas.{was_later}
use Rattle.up_sessions.proofs.KeptLemmas.{as_many}
use Rattle.up_sessions.specs.Keeping.{AllStayIn, Place, StaysIn, all_places, place_of, place_of_tree, places_of}
use Rattle.up_sessions.specs.Lines.{EnrolLine, GetLine, HostLine, OpenLine, PutLine, RequestLine}
use Rattle.up_sessions.specs.Opening.{OpensNext}
use Rattle.up_sessions.specs.Signing.{Signed, signed_on}
use Rattle.up_sessions.specs.Worlds.{AtHost, Hosts, Parties, World}
use Rattle.up_sessions.specs.declared.fault.LineFault.{LineFault}
use Rattle.up_tree.specs.States as tree
use Rattle.up_wire.specs.declared.requests.Request.{Request}

-- ---- two lists, place by place

zip_same : {X : Type 0} (R : X → X → Type 0) → ((x : X) → R x x) → (xs : List X) → AllZip R xs xs
zip_same R same [] = tt
zip_same R same (x ∷ xs) = (same x, zip_same R same xs)

zip_append : {X : Type 0} (R : X → X → Type 0) (xs ys zs ws : List X) → AllZip R xs ys → AllZip R zs ws → AllZip R (xs ++ zs) (ys ++ ws)
zip_append R [] [] zs ws one two = two
zip_append R (x ∷ xs) (y ∷ ys) zs ws one two = (one.0, zip_append R xs ys zs ws one.1 two)
zip_append R [] (y ∷ ys) zs ws one two = absurd one
zip_append R (x ∷ xs) [] zs ws one two = absurd one

zip_then : {X : Type 0} (R : X → X → Type 0) → ((x y z : X) → R x y → R y z → R x z) → (xs ys zs : List X) → AllZip R xs ys → AllZip R ys zs → AllZip R xs zs
zip_then R each [] [] [] one two = tt
zip_then R each (x ∷ xs) (y ∷ ys) (z ∷ zs) one two = (each x y z one.0 two.0, zip_then R each xs ys zs one.1 two.1)
zip_then R each [] [] (z ∷ zs) one two = absurd two
zip_then R each [] (y ∷ ys) zs one two = absurd one
zip_then R each (x ∷ xs) [] zs one two = absurd one
zip_then R each (x ∷ xs) (y ∷ ys) [] one two = absurd two

zip_places : {X Y : Type 0} (f : X → Y) (R : Y → Y → Type 0) (xs ys : List X) → length ys ≡ length xs
    → ((i : ℕ) (x y : X) → slice_get xs i ≡ Some x → slice_get ys i ≡ Some y → R (f x) (f y)) → AllZip R (map f xs) (map f ys)
zip_places f R [] [] same each = tt
zip_places f R [] (y ∷ ys) same each = absurd (omega (arith, same))
zip_places f R (x ∷ xs) [] same each = absurd (omega (arith, same))
zip_places f R (x ∷ xs) (y ∷ ys) same each = (each 0 x y refl refl, zip_places f R xs ys (omega (arith, same)) (λ i. each (suc i)))

-- one item of the first list became another one
zip_set : {X Y : Type 0} (f : X → List Y) (R : Y → Y → Type 0) → ((y : Y) → R y y) → (xs : List X) (i : ℕ) (x y : X) → slice_get xs i ≡ Some x → AllZip R (f x) (f y) → AllZip R (flat_map f xs) (flat_map f (slice_set xs i y))
zip_set f R same [] i x y is one = tt
zip_set {X} f R same (z ∷ xs) zero x y is one =
    let here : z ≡ x = cc in
    zip_append R (f z) (f y) (flat_map f xs) (flat_map f xs) (subst (λ (w : X). AllZip R (f w) (f y)) (sym here) one) (zip_same R same (flat_map f xs))
zip_set f R same (z ∷ xs) (suc i) x y is one = zip_append R (f z) (f z) (flat_map f xs) (flat_map f (slice_set xs i y)) (zip_same R same (f z)) (zip_set f R same xs i x y is one)

-- ---- one disk

settled_if : {R : Type 0} (doubtful : Bool) (further : Option R) → (not doubtful && is_none further) ≡ true → (doubtful ≡ false) × (further ≡ None)
settled_if false None is = (refl, refl)
settled_if false (Some rec) is = absurd (cc)
settled_if true further is = absurd (cc)

test_settled : {R : Type 0} (doubtful : Bool) (further : Option R) → doubtful ≡ false → further ≡ None → (not doubtful && is_none further) ≡ true
test_settled false None one two = refl
test_settled false (Some rec) one two = absurd (cc)
test_settled true further one two = absurd (cc)

module _ {D : Type 0} (disks : Ghosts D) where
  place_same : (p : Place D) → StaysIn disks p p
  place_same p = record { later = omega arith; told = refl; settled = λ is. inl is }

  place_then : (p q r : Place D) → StaysIn disks p q → StaysIn disks q r → StaysIn disks p r
  place_then p q r one two = record {
    later = let a = one.later in let b = two.later in omega (arith, a, b);
    told = two.told ∙ one.told;
    settled = λ is. after (one.settled is);
  }
    where
      last : (r.1 ≡ true) ⊎ Rose (disks.faults q.0) (disks.faults r.0) → (r.1 ≡ true) ⊎ Rose (disks.faults p.0) (disks.faults r.0)
      last (inl is) = inl is
      last (inr rose) = inr (Rose-after (disks.faults p.0) (disks.faults q.0) (disks.faults r.0) one.later two.later rose)

      after : (q.1 ≡ true) ⊎ Rose (disks.faults p.0) (disks.faults q.0) → (r.1 ≡ true) ⊎ Rose (disks.faults p.0) (disks.faults r.0)
      after (inl is) = last (two.settled is)
      after (inr rose) = inr (Rose-before (disks.faults p.0) (disks.faults q.0) (disks.faults r.0) rose two.later)

  log_stays : {R : Type 0} (old new : LogState D R) → KeepsSettled disks old new → StaysIn disks (place_of old) (place_of new)
  log_stays old new keeps = record {
    later = keeps.later;
    told = keeps.told;
    settled = λ is. let s = settled_if old.doubtful old.further is in by (keeps.settled (record { settled = s.0; nothing = s.1 }));
  }
    where
      by : IsSettledLog new ⊎ Rose (disks.faults old.disk) (disks.faults new.disk) → ((not new.doubtful && is_none new.further) ≡ true) ⊎ Rose (disks.faults old.disk) (disks.faults new.disk)
      by (inl is) = inl (test_settled new.doubtful new.further is.settled is.nothing)
      by (inr rose) = inr rose

  -- ---- one host

  host_stays : (host after : HostState D) → StaysSettled disks host after → AllZip (StaysIn disks) (places_of host) (places_of after)
  host_stays host after stays =
      zip_append (StaysIn disks) (map place_of_tree host.trees) (map place_of_tree after.trees) (place_of host.store.state ∷ place_of host.keys.state ∷ []) (place_of after.store.state ∷ place_of after.keys.state ∷ [])
      (zip_places place_of_tree (StaysIn disks) host.trees after.trees (as_many owner_of host.trees after.trees stays.owners)
      (λ i one other at also. log_stays (tree.over_journal one.state) (tree.over_journal other.state) (stays.trees i one other at also)))
      (log_stays host.store.state after.store.state stays.store, (log_stays host.keys.state after.keys.state stays.keys, tt))

  at_stays : (place : ℕ) (did : HostState D → HostState D → Type 0) (a b : Hosts D) (h : AtHost place did a b) → StaysSettled disks h.before h.after → AllStayIn disks a b
  at_stays place did a b h stays =
      subst (AllZip (StaysIn disks) (all_places a)) (ap all_places (sym h.whole))
      (zip_append (StaysIn disks) (flat_map places_of a.hosts) (flat_map places_of (slice_set a.hosts place h.after)) (map (λ disk. (disk, true)) a.free) (map (λ disk. (disk, true)) a.free)
      (zip_set places_of (StaysIn disks) place_same a.hosts place h.before h.after h.there (host_stays h.before h.after stays))
      (zip_same (StaysIn disks) place_same (map (λ disk. (disk, true)) a.free)))

  -- ---- disks that are opened

  abbrev pub free_at : D → Place D
  free_at disk = (disk, true)

  opened_stays : {R : Type 0} (read : Reader R) (limits : Limits) (disk : D) (log : LogState D R) → IsLogOn disks read limits disk log → StaysIn disks (free_at disk) (place_of log)
  opened_stays read limits disk log opens = record { later = opens.counts.later; told = opens.opened.told; settled = λ is. inl (test_settled log.doubtful log.further opens.opens.settled.settled opens.opens.settled.nothing) }

  trees_stay : (limits : Limits) (owners : List UserName) (used : List D) (trees : List (Held (tree.State D))) → OpensTrees disks limits owners used trees → AllZip (StaysIn disks) (map free_at used) (map place_of_tree trees)
  trees_stay limits [] [] [] all = tt
  trees_stay limits (o ∷ os) (d ∷ ds) (h ∷ hs) all = (opened_stays (tree.records_in o) limits d (tree.over_journal h.state) all.0.log, trees_stay limits os ds hs all.1)
  trees_stay limits [] [] (h ∷ hs) all = absurd all
  trees_stay limits [] (d ∷ ds) [] all = absurd all
  trees_stay limits [] (d ∷ ds) (h ∷ hs) all = absurd all
  trees_stay limits (o ∷ os) [] [] all = absurd all
  trees_stay limits (o ∷ os) [] (h ∷ hs) all = absurd all
  trees_stay limits (o ∷ os) (d ∷ ds) [] all = absurd all

  -- all were opened
  given_stay : (limits : Limits) (name : List ℕ) (operator : UserName) (owners : List UserName) (given : List D) (host : HostState D) → OpensHost disks limits name operator owners given host → AllZip (StaysIn disks) (map free_at given) (places_of host)
  given_stay limits name operator owners given host opens =
      let logs = opens.logs in
      subst (λ xs. AllZip (StaysIn disks) xs (places_of host)) (sym (ap (map free_at) logs.given_is ∙ map-append free_at logs.of_trees (logs.of_store ∷ logs.of_keys ∷ [])))
      (zip_append (StaysIn disks) (map free_at logs.of_trees) (map place_of_tree host.trees) (free_at logs.of_store ∷ free_at logs.of_keys ∷ []) (place_of host.store.state ∷ place_of host.keys.state ∷ [])
      (trees_stay limits owners logs.of_trees host.trees logs.trees_are)
      (opened_stays blocks.blocks_in _ logs.of_store host.store.state logs.store_is.log, (opened_stays _ limits logs.of_keys host.keys.state logs.keys_are.log, tt)))

  -- or some were handed back
  -- it tells its content exactly where it did before
  abbrev TellsAsBefore : D → D → Type 0
  TellsAsBefore old new = is_some (disks.content new) ≡ is_some (disks.content old)

  back_stays : (one two : D) → disks.faults one ≤ disks.faults two → TellsAsBefore one two → StaysIn disks (free_at one) (free_at two)
  back_stays one two later told = record { later = later; told = told; settled = λ is. inl refl }

  was_told : (limits : Limits) (log : LogName) (disk after : D) → WasOpenedAs disks limits log disk after → TellsAsBefore disk after
  was_told limits (LogName.OfTree owner) disk after was = subst (TellsAsBefore disk) was.disk_is was.opened.opened.told
  was_told limits LogName.OfStore disk after was = subst (TellsAsBefore disk) was.disk_is was.opened.opened.told
  was_told limits LogName.OfKeys disk after was = subst (TellsAsBefore disk) was.disk_is was.opened.opened.told

  were_stay : (limits : Limits) (logs : List LogName) (used opened : List D) → WereOpened disks limits logs used opened → AllZip (StaysIn disks) (map free_at used) (map free_at opened)
  were_stay limits [] [] [] all = tt
  were_stay limits (l ∷ ls) (d ∷ ds) (o ∷ os) all = (back_stays d o (was_later disks limits l d o all.0) (was_told limits l d o all.0), were_stay limits ls ds os all.1)
  were_stay limits [] [] (o ∷ os) all = absurd all
  were_stay limits [] (d ∷ ds) [] all = absurd all
  were_stay limits [] (d ∷ ds) (o ∷ os) all = absurd all
  were_stay limits (l ∷ ls) [] [] all = absurd all
  were_stay limits (l ∷ ls) [] (o ∷ os) all = absurd all
  were_stay limits (l ∷ ls) (d ∷ ds) [] all = absurd all

  refused_later : (limits : Limits) (log : LogName) (disk : D) (fault : OpenFault D) → IsRefusedAs disks limits log disk fault → disks.faults disk ≤ disks.faults fault.disk
  refused_later limits (LogName.OfTree owner) disk fault refused = refused.counts.later
  refused_later limits LogName.OfStore disk fault refused = refused.counts.later
  refused_later limits LogName.OfKeys disk fault refused = refused.counts.later

  refused_told : (limits : Limits) (log : LogName) (disk : D) (fault : OpenFault D) → IsRefusedAs disks limits log disk fault → TellsAsBefore disk fault.disk
  refused_told limits (LogName.OfTree owner) disk fault refused = refused.opened.told
  refused_told limits LogName.OfStore disk fault refused = refused.opened.told
  refused_told limits LogName.OfKeys disk fault refused = refused.opened.told

  handed_stay : (limits : Limits) (owners : List UserName) (given : List D) (fault : HostFault D) → RefusesHost disks limits owners given fault → AllZip (StaysIn disks) (map free_at given) (map free_at fault.disks.disks)
  handed_stay limits owners given fault (inl none) = subst (λ xs. AllZip (StaysIn disks) (map free_at given) (map free_at xs)) (sym none.handed) (zip_same (StaysIn disks) place_same (map free_at given))
  handed_stay limits owners given fault (inr one) =
      subst (λ xs. AllZip (StaysIn disks) xs (map free_at fault.disks.disks)) (sym (ap (map free_at) one.given_is ∙ map-append free_at one.used (one.disk ∷ one.rest)))
      (subst (AllZip (StaysIn disks) (map free_at one.used ++ free_at one.disk ∷ map free_at one.rest)) (sym (ap (map free_at) one.handed ∙ map-append free_at one.opened (one.refused.disk ∷ one.rest)))
      (zip_append (StaysIn disks) (map free_at one.used) (map free_at one.opened) (free_at one.disk ∷ map free_at one.rest) (free_at one.refused.disk ∷ map free_at one.rest)
      (were_stay limits one.before one.used one.opened one.were_opened)
      (back_stays one.disk one.refused.disk (refused_later limits one.log one.disk one.refused one.was_refused) (refused_told limits one.log one.disk one.refused one.was_refused), zip_same (StaysIn disks) place_same (map free_at one.rest))))

  -- a host was opened or refused
  next_stays : (limits : Limits) (name : List ℕ) (operator : UserName) (owners : List UserName) (a b : Hosts D) (result : Result (Unit {0}) LineFault) → OpensNext disks limits name operator owners a result b → AllStayIn disks a b
  next_stays limits name operator owners a b (Ok done) adds =
      let old : all_places a ≡ flat_map places_of a.hosts ++ (map free_at adds.given ++ map free_at b.free) =
      ap (λ xs. flat_map places_of a.hosts ++ xs) (ap (map free_at) adds.free_is ∙ map-append free_at adds.given b.free) in
      let new : all_places b ≡ flat_map places_of a.hosts ++ (places_of adds.host ++ map free_at b.free) =
      ap (λ xs. flat_map places_of xs ++ map free_at b.free) adds.hosts_are
      ∙ ap (λ xs. xs ++ map free_at b.free) (flat_map-append places_of a.hosts (adds.host ∷ []) ∙ ap (λ xs. flat_map places_of a.hosts ++ xs) (append-nil (places_of adds.host)))
      ∙ append_assoc (flat_map places_of a.hosts) (places_of adds.host) (map free_at b.free) in
      subst (λ xs. AllZip (StaysIn disks) xs (all_places b)) (sym old)
      (subst (AllZip (StaysIn disks) (flat_map places_of a.hosts ++ (map free_at adds.given ++ map free_at b.free))) (sym new)
      (zip_append (StaysIn disks) (flat_map places_of a.hosts) (flat_map places_of a.hosts) (map free_at adds.given ++ map free_at b.free) (places_of adds.host ++ map free_at b.free)
      (zip_same (StaysIn disks) place_same (flat_map places_of a.hosts))
      (zip_append (StaysIn disks) (map free_at adds.given) (places_of adds.host) (map free_at b.free) (map free_at b.free)
      (given_stay limits name operator owners adds.given adds.host adds.opens) (zip_same (StaysIn disks) place_same (map free_at b.free)))))
  next_stays limits name operator owners a b (Err why) refuses =
      let handed = refuses.refused.disks.disks in
      let old : all_places a ≡ flat_map places_of a.hosts ++ (map free_at refuses.given ++ map free_at refuses.rest) =
      ap (λ xs. flat_map places_of a.hosts ++ xs) (ap (map free_at) refuses.free_is ∙ map-append free_at refuses.given refuses.rest) in
      let new : all_places b ≡ flat_map places_of a.hosts ++ (map free_at handed ++ map free_at refuses.rest) =
      ap all_places refuses.whole ∙ ap (λ xs. flat_map places_of a.hosts ++ xs) (map-append free_at handed refuses.rest) in
      subst (λ xs. AllZip (StaysIn disks) xs (all_places b)) (sym old)
      (subst (AllZip (StaysIn disks) (flat_map places_of a.hosts ++ (map free_at refuses.given ++ map free_at refuses.rest))) (sym new)
      (zip_append (StaysIn disks) (flat_map places_of a.hosts) (flat_map places_of a.hosts) (map free_at refuses.given ++ map free_at refuses.rest) (map free_at handed ++ map free_at refuses.rest)
      (zip_same (StaysIn disks) place_same (flat_map places_of a.hosts))
      (zip_append (StaysIn disks) (map free_at refuses.given) (map free_at handed) (map free_at refuses.rest) (map free_at refuses.rest)
      (handed_stay limits owners refuses.given refuses.refused refuses.refuses) (zip_same (StaysIn disks) place_same (map free_at refuses.rest)))))

  -- ---- whole runs

  pub all_same : (a : Hosts D) → AllStayIn disks a a
  all_same a = zip_same (StaysIn disks) place_same (all_places a)

  pub all_then : (a b c : Hosts D) → AllStayIn disks a b → AllStayIn disks b c → AllStayIn disks a c
  all_then a b c one two = zip_then (StaysIn disks) place_then (all_places a) (all_places b) (all_places c) one two

  signed_stays : (number place : ℕ) (signed : Signed) (a : Hosts D) → AllStayIn disks a (signed_on number place signed a)
  signed_stays number place (Ok (Some session)) a = all_same a
  signed_stays number place (Ok None) a = all_same a
  signed_stays number place (Err why) a = all_same a

-- ---- a line

module _ {D P V C N : Type 0} (who : Parties D P V C N) where
  pub host_keeps : (limits : Limits) (name : List ℕ) (operator : UserName) (owners : List UserName) (a b : World D P V C N) (result : Result (Unit {0}) LineFault) → HostLine who limits name operator owners a result b → AllStayIn who.disks a.state b.state
  host_keeps limits name operator owners a b result h = next_stays who.disks limits name operator owners a.state b.state result h.opens

  pub enrol_keeps : (place : ℕ) (user : UserName) (key : List ℕ) (a b : World D P V C N) (result : Result ℕ AppendWhy) → EnrolLine who place user key a result b → AllStayIn who.disks a.state b.state
  enrol_keeps place user key a b result h = at_stays who.disks place _ a.state b.state h.enrols h.enrols.done.settled

  pub open_keeps : (number place : ℕ) (user : UserName) (signature : List ℕ) (a b : World D P V C N) (result : Result std.Bool LineFault) → OpenLine who number place user signature a result b → AllStayIn who.disks a.state b.state
  open_keeps number place user signature a b result h = subst (AllStayIn who.disks a.state) (sym h.signs.after) (signed_stays who.disks number place h.signs.signed a.state)

  pub request_keeps : (number : ℕ) (request : Request) (a b : World D P V C N) (e : Event) → RequestLine who number request a e b → AllStayIn who.disks a.state b.state
  request_keeps number request a b e h = at_stays who.disks h.now.opened.place _ a.state b.state h.asks h.asks.done.stays.settled

  pub put_keeps : (number : ℕ) (path : PathName) (time sequence : ℤ) (bytes : List ℕ) (a b : World D P V C N) (result : Result ℕ ClientFault) → PutLine who number path time sequence bytes a result b → AllStayIn who.disks a.state b.state
  put_keeps number path time sequence bytes a b result h = at_stays who.disks h.now.opened.place _ a.state b.state h.puts h.puts.done.stays.settled

  pub get_keeps : (number : ℕ) (path : PathName) (a b : World D P V C N) (result : Result (List ℕ) ClientFault) → GetLine who number path a result b → AllStayIn who.disks a.state b.state
  get_keeps number path a b result h = at_stays who.disks h.now.opened.place _ a.state b.state h.gets h.gets.done.stays.settled
