-- The disks that are taken for a host, and what is kept of the hosts then.
use Rattle.std.proofs.Common.{◌≡◌, ◌≤◌, ◌+◌, ◌&&◌, ℕ, Bool, true, false, List, [], ◌∷◌, ◌++◌, length, take, drop, Option, Some, Result, Ok, Err, inl, inr, refl, sym, ap, subst, ◌∙◌, arith, length-append}
use Rattle.std.proofs.lemmas.Bool.{le-leb}
use Rattle.std.proofs.lemmas.List.{length-take-le, take-append-drop}
use Rattle.std.specs.List.{AllByRecursion}
use Rattle.std.specs.Prelude.{OnOk, is_err, nat_le, slice_get, slice_set}
use Rattle.up_disk.specs.Spare.{Spared}
use Rattle.up_disk.specs.declared.disk.Disk.{Ghosts}
use Rattle.up_entry.specs.declared.entries.Endpoint.{Endpoint}
use Rattle.up_host.specs.Alone.{Enrols, HostState}
use Rattle.up_host.specs.Opens.{RefusesHost, WereOpened}
use Rattle.up_host.specs.Routes.{LogName}
use Rattle.up_host.specs.Settled.{StaysSettled}
use Rattle.up_host.specs.declared.fault.HostFault.{HostFault}
use Rattle.up_journal.specs.declared.fault.AppendWhy.{AppendWhy}
use Rattle.up_journal.specs.declared.fault.OpenWhy.TheVariants as reason
use Rattle.up_journal.specs.declared.limits.Limits.{Limits}
use Rattle.up_keys.specs.Records.{endpoints_fit, has_bounds, keeps_bounds}
use Rattle.up_names.specs.Texts.{UserName}
use Rattle.up_sessions.proofs.BlankLemmas.{all_first, refused_blank}
use Rattle.up_sessions.proofs.EmptyLemmas.{all_empty}
use Rattle.up_sessions.proofs.KeptLemmas.{kept_more, trees_opened}
use Rattle.up_sessions.specs.Kept.{IsKept}
use Rattle.up_disk.specs.Leaving.{IsBlank}
use Rattle.up_sessions.specs.Opening.{AddsHost, EnrolsAt, HasNoRecord, RefusesNext, is_damage, plain_card, why_refused}
use Rattle.up_sessions.specs.Taking.{HandsBack, TakesHost}
use Rattle.up_sessions.specs.Worlds.{Hosts}
use Rattle.up_sessions.specs.declared.fault.LineFault.{LineFault}
use Rattle.up_sessions.specs.declared.fault.LineFault.TheVariants as line
use Rattle.up_sessions.specs.declared.opened.Opened.{Opened}
use Rattle.up_wire.specs.declared.keys.KeyRecord.{KeyRecord}

-- so many were taken
pub taken_many : {X : Type 0} (xs given : List X) (n : ℕ) → n ≤ length xs → given ≡ take n xs → length given ≡ n
taken_many xs given n enough is = ap length is ∙ length-take-le n xs enough

-- what was taken and what is left
pub taken_whole : {X : Type 0} (xs given left : List X) (n : ℕ) → given ≡ take n xs → left ≡ drop n xs → xs ≡ given ++ left
taken_whole xs given left n is rest = sym (ap (λ ys. ys ++ left) is ∙ ap (λ ys. take n xs ++ ys) rest ∙ take-append-drop n xs)

module _ {D : Type 0} (disks : Ghosts D) (limits : Limits) where
  -- as many disks are handed back as were given
  were_many : (logs : List LogName) (used opened : List D) → WereOpened disks limits logs used opened → length opened ≡ length used
  were_many [] [] [] all = refl
  were_many (l ∷ ls) (d ∷ ds) (o ∷ os) all = let rest = were_many ls ds os all.1 in omega (arith, rest)
  were_many [] [] (o ∷ os) all = absurd all
  were_many [] (d ∷ ds) [] all = absurd all
  were_many [] (d ∷ ds) (o ∷ os) all = absurd all
  were_many (l ∷ ls) [] [] all = absurd all
  were_many (l ∷ ls) [] (o ∷ os) all = absurd all
  were_many (l ∷ ls) (d ∷ ds) [] all = absurd all

  pub handed_many : (owners : List UserName) (given : List D) (fault : HostFault D) → RefusesHost disks limits owners given fault → length fault.disks.disks ≡ length given
  handed_many owners given fault (inl none) = ap length none.handed
  handed_many owners given fault (inr one) =
      let were = were_many one.before one.used one.opened one.were_opened in
      let a = ap length one.given_is ∙ length-append one.used (one.disk ∷ one.rest) in
      let b = ap length one.handed ∙ length-append one.opened (one.refused.disk ∷ one.rest) in
      omega (arith, were, a, b)

  -- there is room for those that are handed back
  pub back_room : (owners : List UserName) (given : List D) (fault : HostFault D) (xs : List D) (n spare before : ℕ) → RefusesHost disks limits owners given fault → n ≤ length xs → given ≡ take n xs → spare ≡ before + n → length fault.disks.disks ≤ spare
  back_room owners given fault xs n spare before refuses enough is room =
      let back = handed_many owners given fault refuses in
      let many = taken_many xs given n enough is in
      omega (arith, back, many, room)

  -- there is no damage on the first of empty disks
  pub first_blank : (owners : List UserName) (given : List D) (fault : HostFault D) (xs : List D) (n : ℕ) → RefusesHost disks limits owners given fault → given ≡ take n xs → AllByRecursion (IsBlank disks) xs → is_damage fault.why ≡ false
  first_blank owners given fault xs n refuses is blank =
      refused_blank disks limits owners given fault (subst (AllByRecursion (IsBlank disks)) (sym is) (all_first (IsBlank disks) n xs blank)) refuses

  -- ---- disks are handed back

  -- no host was opened, for want of memory
  pub hands_none : (owners : List UserName) (old new : Spared D) → length owners + 2 ≤ length old.disks → AllByRecursion (IsBlank disks) old.disks → new.disks ≡ old.disks → new.spare ≡ old.spare → HandsBack disks limits owners line.OutOfMemory old new
  hands_none owners old new enough blank same room =
      let n = length owners + 2 in
      record {
        given = take n old.disks;
        rest = drop n old.disks;
        taken = sym (take-append-drop n old.disks);
        as_many = length-take-le n old.disks enough;
        refused = record { disks = record { disks = take n old.disks; spare = 0 }; which = 0; why = reason.OutOfMemory };
        refuses = inl (record { handed = refl; why_is = refl; which_is = refl });
        why_is = refl;
        empty = all_empty disks (take n old.disks) (all_first (IsBlank disks) n old.disks blank);
        back = same ∙ sym (take-append-drop n old.disks);
        room = room;
      }

  -- a host was refused
  pub hands_back : (owners : List UserName) (old mid new : Spared D) (given : List D) (n : ℕ) (fault : HostFault D) (why : LineFault) → n ≡ length owners + 2 → n ≤ length old.disks
      → given ≡ take n old.disks → mid.disks ≡ drop n old.disks → mid.spare ≡ old.spare + n → RefusesHost disks limits owners given fault → AllByRecursion (HasNoRecord disks) fault.disks.disks
      → fault.why ≡ why_refused why → new.disks ≡ fault.disks.disks ++ mid.disks → new.spare + length fault.disks.disks ≡ mid.spare → HandsBack disks limits owners why old new
  hands_back owners old mid new given n fault why many enough is left room refuses empty because put spare =
      let some = taken_many old.disks given n enough is in
      let back = handed_many owners given fault refuses in
      record {
        given = given;
        rest = mid.disks;
        taken = taken_whole old.disks given mid.disks n is left;
        as_many = some ∙ many;
        refused = fault;
        refuses = refuses;
        why_is = because;
        empty = empty;
        back = put;
        room = omega (arith, some, back, room, spare);
      }

  -- ---- the hosts then

  -- one more
  pub adds_next : (name : List ℕ) (operator : UserName) (owners : List UserName) (old new : Spared D) (host : HostState D) (hosts later : List (HostState D)) (sessions : List (Option Opened)) → TakesHost disks limits name operator owners old new host
      → later ≡ hosts ++ host ∷ [] → AddsHost disks limits name operator owners (record { hosts = hosts; sessions = sessions; free = old.disks }) (record { hosts = later; sessions = sessions; free = new.disks })
  adds_next name operator owners old new host hosts later sessions takes put = record {
    given = takes.given;
    free_is = takes.taken;
    host = host;
    opens = takes.opens;
    hosts_are = put;
    sessions_are = refl;
  }

  pub kept_next : (name : List ℕ) (operator : UserName) (owners : List UserName) (old new : Spared D) (host : HostState D) (hosts later : List (HostState D)) (sessions : List (Option Opened)) → TakesHost disks limits name operator owners old new host
      → later ≡ hosts ++ host ∷ [] → IsKept hosts sessions old.spare → IsKept later sessions new.spare
  kept_next name operator owners old new host hosts later sessions takes put kept =
      let trees = trees_opened disks limits owners takes.opens.logs.of_trees host.trees takes.opens.logs.trees_are in
      subst (λ hs. IsKept hs sessions new.spare) (sym put)
      (subst (λ n. IsKept (hosts ++ host ∷ []) sessions n) (sym takes.room) (kept_more hosts sessions old.spare (length owners + 2) host kept (omega (arith, trees))))

  -- or as many as before
  pub refuses_next : (owners : List UserName) (why : LineFault) (old new : Spared D) (hosts later : List (HostState D)) (sessions : List (Option Opened)) → HandsBack disks limits owners why old new
      → later ≡ hosts → RefusesNext disks limits owners why (record { hosts = hosts; sessions = sessions; free = old.disks }) (record { hosts = later; sessions = sessions; free = new.disks })
  refuses_next owners why old new hosts later sessions back same = record {
    given = back.given;
    rest = back.rest;
    free_is = back.taken;
    as_many = back.as_many;
    refused = back.refused;
    refuses = back.refuses;
    why_is = back.why_is;
    empty = back.empty;
    whole = λ j. record { hosts = same j; sessions = sessions; free = back.back j };
  }

module _ {D : Type 0} (disks : Ghosts D) (place : ℕ) (user : UserName) (key : List ℕ) where
  -- a user was enrolled at the host at a place
  pub enrolled : (a : Hosts D) (hosts : List (HostState D)) (sessions : List (Option Opened)) (free : List D) (before after : HostState D) (card : KeyRecord) (result : Result ℕ AppendWhy) → a ≡ record { hosts = hosts; sessions = sessions; free = free }
      → slice_get hosts place ≡ Some before → card ≡ plain_card user key → Enrols disks card before after result → StaysSettled disks before after
      → EnrolsAt disks place user key a result (record { hosts = slice_set hosts place after; sessions = sessions; free = free })
  enrolled a hosts sessions free before after card result is at same enrols settled =
      subst (λ (b : Hosts D). EnrolsAt disks place user key b result (record { hosts = slice_set hosts place after; sessions = sessions; free = free })) (sym is)
      (record {
        before = before;
        after = after;
        there = at;
        whole = refl;
        done = record { enrols = subst (λ k. Enrols disks k before after result) same enrols; settled = settled };
      })

both : (a b : Bool) → a ≡ true → b ≡ true → (a && b) ≡ true
both true true one two = refl
both true false one two = absurd (cc)
both false b one two = absurd (cc)

plain_bounds : (key : List ℕ) → 1 ≤ length key → length key ≤ 1024 → keeps_bounds [] [] key ≡ true
unfolding keeps_bounds endpoints_fit
plain_bounds key some most = both _ _ refl (both (nat_le 1 (length key)) (nat_le (length key) 1024) (le-leb 1 (length key) some) (le-leb (length key) 1024 most))

-- a record without endpoints keeps the bounds of a record where its key does
pub card_bounds : (user : UserName) (dirs stores : List Endpoint) (key : List ℕ) → dirs ≡ [] → stores ≡ [] → 1 ≤ length key → length key ≤ 1024 → has_bounds (record { user = user; dirs = dirs; stores = stores; key = key }) ≡ true
card_bounds user dirs stores key no_dirs no_stores some most =
    subst (λ ds. keeps_bounds ds stores key ≡ true) (sym no_dirs) (subst (λ ss. keeps_bounds [] ss key ≡ true) (sym no_stores) (plain_bounds key some most))

-- what holds where a call did not fail
pub when_ok : {X E : Type 0} (result : Result X E) (failed : Bool) (P : Type 0) → failed ≡ is_err result → failed ≡ false → OnOk result P → P
when_ok (Ok x) failed P is fine holds = holds
when_ok (Err e) failed P is fine holds = absurd (let bad : true ≡ false = sym is ∙ fine in cc)
