-- What a whole script leaves behind, and the causes of its status.
use Rattle.std.proofs.Common.{◌≡◌, ℕ, List, [], ◌∷◌, length, map, IfSome, Option, Some, None, refl, ap, ◌∙◌, arith}
use Rattle.std.specs.List.{AllByRecursion, flat_map, sum_by}
use Rattle.std.proofs.lemmas.List.Sums.{sum_by-append, sum_by-cons}
use Rattle.up_disk.specs.declared.disk.Disk.{Ghosts}
use Rattle.up_ends.proofs.Going.{WritesPart-none}
use Rattle.up_lists.specs.Counts.{Rose}
use Rattle.up_host.specs.Alone.{HostState, disk_faults}
use Rattle.up_host.specs.Opens.{disk_of, disks_of}
use Rattle.up_journal.specs.declared.limits.Limits.{Limits}
use Rattle.up_names.specs.Texts.{Text}
use Rattle.up_sessions.proofs.FitLemmas.{fit_start}
use Rattle.up_sessions.specs.Handing.{LeavesAll, all_disks}
use Rattle.up_disk.specs.Leaving.{IsBlank}
use Rattle.up_sessions.specs.Worlds.{Around, Hosts, Parties, World, faults_in}
use Rattle.up_text.specs.Lines.{script_lines}
use Rattle.up_script.specs.ScriptAnswers.{Means, among}
use Rattle.up_script.specs.ScriptRuns.{Scripted}
use Rattle.up_script.specs.Standing.{at_first}
use Rattle.up_command.specs.Statuses.{IsOneOf, is_cut}
use Rattle.up_script.proofs.FreeLemmas.{rest_free}
use Rattle.up_script.proofs.RunningLemmas.{Running-none, Scripted-cut}

-- a sum over what is made of each item
sum_made : {X Y : Type 0} (f : Y → ℕ) (g : X → Y) (xs : List X) → sum_by f (map g xs) ≡ sum_by (λ x. f (g x)) xs
sum_made f g [] = refl
sum_made f g (x ∷ xs) =
    let a = sum_by-cons f (g x) (map g xs) in
    let b = sum_by-cons (λ y. f (g y)) x xs in
    let rest = sum_made f g xs in
    omega (arith, a, b, rest)

module _ {D : Type 0} (disks : Ghosts D) where
  -- ---- the disks of all hosts failed as often as those in their places

  host_faults : (host : HostState D) → sum_by disks.faults (disks_of host) ≡ disk_faults disks host
  host_faults host =
      let trees = sum_made disks.faults (disk_of {D = D}) host.trees in
      let all = sum_by-append disks.faults (map (disk_of {D = D}) host.trees) (host.store.state.disk ∷ host.keys.state.disk ∷ []) in
      let two = sum_by-cons disks.faults host.store.state.disk (host.keys.state.disk ∷ []) in
      let one = sum_by-cons disks.faults host.keys.state.disk [] in
      omega (arith, trees, all, two, one)

  hosts_faults : (hosts : List (HostState D)) → sum_by disks.faults (flat_map disks_of hosts) ≡ sum_by (disk_faults disks) hosts
  hosts_faults [] = refl
  hosts_faults (host ∷ hosts) =
      let one = host_faults host in
      let rest = hosts_faults hosts in
      let all = sum_by-append disks.faults (disks_of host) (flat_map disks_of hosts) in
      let cons = sum_by-cons (disk_faults disks) host hosts in
      omega (arith, one, rest, all, cons)

  pub faults_all : (a : Hosts D) → sum_by disks.faults (all_disks a) ≡ faults_in disks a
  faults_all a =
      let hosts = hosts_faults a.hosts in
      let all = sum_by-append disks.faults (flat_map disks_of a.hosts) a.free in
      omega (arith, hosts, all)

-- of the statuses with which a script is not read, that which a run may end with as well is want of memory
pub unread_is_4 : (status : ℕ) → IsOneOf (2 ∷ 4 ∷ 7 ∷ []) status → IsOneOf (0 ∷ 1 ∷ 3 ∷ 4 ∷ 5 ∷ 6 ∷ []) status → status ≡ 4
unread_is_4 status unread run = grind (arith)

-- the text that a source tells, or none
abbrev text_of : Option Text → Text
text_of None = []
text_of (Some text) = text

text_told : (left : Option Text) → IfSome left (λ bytes. text_of left ≡ bytes)
text_told None = tt
text_told (Some text) = refl

-- what was read is what the source told
told_by : (input read : Text) (left : Option Text) → input ≡ read → IfSome left (λ bytes. read ≡ bytes) → IfSome left (λ bytes. input ≡ bytes)
told_by input read None same told = tt
told_by input read (Some bytes) same told = same ∙ told

module _ {D P V C N : Type 0} (who : Parties D P V C N) (limits : Limits) where
  -- no line was done, for want of memory
  none_done : (held : Option Text) (given : List D) (before : Around P V C N) (input : Text) (status : ℕ) → status ≡ 4 → length given ≡ 80 → AllByRecursion (IsBlank who.disks) given
      → Scripted who limits held held (among (at_first given) before) (script_lines input) status (among (at_first given) before)
  none_done held given before input status is eighty blank =
      let start : World D P V C N = among (at_first given) before in
      Scripted-cut who limits held held held [] start start (script_lines input) (script_lines input) 1 status (Running-none who limits held [] start (script_lines input) refl (fit_start who.disks given eighty blank)) (ap is_cut is) (WritesPart-none held [])

  -- all lines that were done, and all disks
  pub means_run : (old new : Option Text) (given back : List D) (before after : Around P V C N) (input : Text) (state : Hosts D) (status : ℕ)
      → Scripted who limits old new (among (at_first given) before) (script_lines input) status (among state after) → back ≡ all_disks state → LeavesAll who.disks state
      → Means who limits (Some input) old new given back before after status
  means_run old new given back before after input state status scripted same safe = record {
    input = input;
    told = refl;
    state = state;
    scripted = scripted;
    disks = same;
    safe = safe;
    rest = rest_free who limits old new (among (at_first given) before) (among state after) (script_lines input) status scripted;
  }

  pub means_none : (left held : Option Text) (given back : List D) (before : Around P V C N) (input : Text) (status : ℕ) → IfSome left (λ bytes. input ≡ bytes) → status ≡ 4 → back ≡ given → length given ≡ 80 → AllByRecursion (IsBlank who.disks) given
      → Means who limits left held held given back before before status
  means_none left held given back before input status told is same eighty blank = record {
    input = input;
    told = told;
    state = at_first given;
    scripted = none_done held given before input status is eighty blank;
    disks = same;
    safe = tt;
    rest = rest_free who limits held held (among (at_first given) before) (among (at_first given) before) (script_lines input) status (none_done held given before input status is eighty blank);
  }

  -- nor was the input read
  pub means_unread : (left held : Option Text) (given : List D) (before : Around P V C N) (status : ℕ) → status ≡ 4 → length given ≡ 80 → AllByRecursion (IsBlank who.disks) given → Means who limits left held held given given before before status
  means_unread left held given before status is eighty blank = means_none left held given given before (text_of left) status (text_told left) is refl eighty blank

  -- what was run is what was read, and that is what the source told
  pub means_read : (kept read : Text) (left old new : Option Text) (given back : List D) (before after : Around P V C N) (status : ℕ) → kept ≡ read → IfSome left (λ bytes. read ≡ bytes)
      → Means who limits (Some kept) old new given back before after status → Means who limits left old new given back before after status
  means_read kept read left old new given back before after status same told means = record {
    input = means.input;
    told = told_by means.input read left (means.told ∙ same) told;
    state = means.state;
    scripted = means.scripted;
    disks = means.disks;
    safe = means.safe;
    rest = means.rest;
  }

  -- of statuses with which a run ends, one is that of a fault of a disk: a disk failed
  pub means_disk : (left old new : Option Text) (given back : List D) (before after : Around P V C N) (status : ℕ) → (IsOneOf (0 ∷ 1 ∷ 3 ∷ 4 ∷ 5 ∷ 6 ∷ []) status → Means who limits left old new given back before after status) → status ≡ 6
      → Rose (sum_by who.disks.faults given) (sum_by who.disks.faults back)
  means_disk left old new given back before after status run six below =
      let means = run (grind (arith)) in
      let first = faults_all who.disks (at_first given) in
      let last : sum_by who.disks.faults back ≡ faults_in who.disks means.state = ap (sum_by who.disks.faults) means.disks ∙ faults_all who.disks means.state in
      let rose = means.scripted.disk six (omega (arith, first, below)) in
      omega (arith, first, last, rose)

  -- and one is that of a fault of the verifier
  pub means_helper : (left old new : Option Text) (given back : List D) (before after : Around P V C N) (status : ℕ) → (IsOneOf (0 ∷ 1 ∷ 3 ∷ 4 ∷ 5 ∷ 6 ∷ []) status → Means who limits left old new given back before after status) → status ≡ 5
      → Rose (who.verifiers.faults before.verifier) (who.verifiers.faults after.verifier)
  means_helper left old new given back before after status run five = (run (grind (arith))).scripted.helper five
