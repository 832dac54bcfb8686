-- Which disks did not fail.
use Rattle.std.proofs.Common.{◌≡◌, ◌||◌, ℕ, Bool, true, false, List, [], ◌∷◌, ◌++◌, refl, sym, ap, subst, ◌∙◌, Some, Result, Ok, Err}
use Rattle.std.specs.Prelude.{IfOk}
use Rattle.std.specs.List.{list_any}
use Rattle.std.proofs.lemmas.Bool.{false≢true}
use Rattle.up_answers.specs.Fetching.{Fetched}
use Rattle.up_calls.specs.Blocks.{Got}
use Rattle.up_calls.specs.Gathered.{own_failed}
use Rattle.up_calls.specs.Routes.{LogName, Question, log_asked}
use Rattle.up_calls.specs.Shown.{AllQuiet, FailsAsShown, IsUnread, QuietApart, QuietBut, Shows, TreeQuiet}
use Rattle.up_calls.specs.Steps.{Tried}
use Rattle.up_calls.specs.Told.{tells_io}
use Rattle.up_calls.specs.declared.event.Event.{Event}
use Rattle.up_calls.specs.declared.logs.Turn.{Turn}
use Rattle.up_calls.specs.declared.logs.Turn.TheVariants as turn
use Rattle.up_disk.specs.declared.disk.Disk.{Ghosts}
use Rattle.up_entry.specs.declared.entries.Endpoint.{Endpoint}
use Rattle.up_entry.specs.declared.entries.Endpoint.TheVariants as endpoint
use Rattle.up_entry.specs.declared.entries.Location.{Location}
use Rattle.up_entry.specs.declared.fetch.Fetch.{Fetch}
use Rattle.up_entry.specs.declared.fetch.Fetch.TheVariants as fetch
use Rattle.up_lists.specs.Counts.{StaysUnless}
use Rattle.up_names.specs.Texts.{UserName}
use Rattle.up_policy.specs.Loadings.{Loading}
use Rattle.up_tree.specs.States.{State}
use Rattle.up_wire.specs.declared.replies.Reply.{Reply}
use Rattle.up_wire.specs.declared.replies.Reply.TheVariants as reply

-- ---- one call

module _ (quiet : LogName → Type 0) where
  -- more is called a fault
  pub but_more : (but : LogName) (fault other : Type 0) → QuietBut quiet but fault → (fault → other) → QuietBut quiet but other
  but_more but fault other one more = record { stays = λ log none. one.stays log (λ is failed. none is (more failed)) }

  -- of the other logs' disks
  pub but_apart : (but : LogName) (fault : Type 0) → QuietBut quiet but fault → QuietApart quiet but
  but_apart but fault one = record { others = λ log other. one.stays log (λ is failed. other is) }

  -- where there was no such fault
  pub but_none : (but : LogName) (fault : Type 0) → QuietBut quiet but fault → (fault → ⊥) → AllQuiet quiet
  but_none but fault one none = record { all = λ log. one.stays log (λ is failed. none failed) }

  -- nothing failed
  pub all_shown : (q : Question) (e : Event) → ((log : LogName) → quiet log) → FailsAsShown quiet q e
  all_shown q e all = record { stays = λ log none. all log }

  -- the log that was asked failed where the reply is Io
  pub log_shown : (q : Question) (e : Event) (asked : LogName) (said : Reply) → log_asked q ≡ Some asked → e.reply ≡ said → QuietBut quiet asked (said ≡ reply.Io) → FailsAsShown quiet q e
  log_shown q e asked said to is one = record { stays = λ log none. one.stays log (λ same io. none (Shows.ByReply (to ∙ ap (λ l. Some l) (sym same)) (is ∙ io))) }

  -- a tree answered
  pub tree_shown : (q : Question) (e : Event) (owner : UserName) → log_asked q ≡ Some (LogName.OfTree owner) → TreeQuiet quiet owner e → FailsAsShown quiet q e
  tree_shown q e owner to one = record {
    stays = λ log none.
        one.stays log (λ same io. none (Shows.ByReply (to ∙ ap (λ l. Some l) (sym same)) io)) (λ same unread. none (Shows.ByBlock same unread));
  }

  -- memory was wanting for the answer of a tree
  pub wanting_shown : (q : Question) (e : Event) (owner : UserName) → log_asked q ≡ Some (LogName.OfTree owner) → e.reply ≡ reply.OutOfMemory → QuietApart quiet LogName.OfStore → FailsAsShown quiet q e
  wanting_shown q e owner to wants one = record { stays = λ log none. one.others log (λ same. none (Shows.ByWant owner to wants same)) }

-- ---- two calls, one after the other

module _ {S : Type 0} (quiet : LogName → S → S → Type 0) (joined : (log : LogName) (a b c : S) → quiet log a b → quiet log b c → quiet log a c) (a b c : S) where
  pub all_joined : AllQuiet (λ log. quiet log a b) → AllQuiet (λ log. quiet log b c) → AllQuiet (λ log. quiet log a c)
  all_joined one two = record { all = λ log. joined log a b c (one.all log) (two.all log) }

  pub apart_joined : (but : LogName) → QuietApart (λ log. quiet log a b) but → QuietApart (λ log. quiet log b c) but → QuietApart (λ log. quiet log a c) but
  apart_joined but one two = record { others = λ log other. joined log a b c (one.others log other) (two.others log other) }

  pub apart_all : (but : LogName) → QuietApart (λ log. quiet log a b) but → AllQuiet (λ log. quiet log b c) → QuietApart (λ log. quiet log a c) but
  apart_all but one two = record { others = λ log other. joined log a b c (one.others log other) (two.all log) }

  pub but_joined : (but : LogName) (first second fault : Type 0) → QuietBut (λ log. quiet log a b) but first → (first → fault) → QuietBut (λ log. quiet log b c) but second → (second → fault) → QuietBut (λ log. quiet log a c) but fault
  but_joined but first second fault one of_first two of_second =
      record { stays = λ log none. joined log a b c (one.stays log (λ is failed. none is (of_first failed))) (two.stays log (λ is failed. none is (of_second failed))) }

  pub but_after : (but : LogName) (first fault : Type 0) → AllQuiet (λ log. quiet log a b) → QuietBut (λ log. quiet log b c) but first → (first → fault) → QuietBut (λ log. quiet log a c) but fault
  but_after but first fault one two more = record { stays = λ log none. joined log a b c (one.all log) (two.stays log (λ is failed. none is (more failed))) }

  -- the blocks, and then the tree
  both_quiet : (owner : UserName) (fetched : Fetched) (e : Event) → e.fetched ≡ fetched → QuietBut (λ log. quiet log a b) LogName.OfStore (IsUnread fetched) → QuietBut (λ log. quiet log b c) (LogName.OfTree owner) (e.reply ≡ reply.Io)
      → TreeQuiet (λ log. quiet log a c) owner e
  both_quiet owner fetched e is one two =
      record { stays = λ log tree store. joined log a b c (one.stays log (λ same unread. store same (subst IsUnread (sym is) unread))) (two.stays log tree) }

  pub quiet_if : {E : Type 0} (owner : UserName) (fetched : Fetched) (result : Result Event E) → IfOk result (λ e. e.fetched ≡ fetched) → QuietBut (λ log. quiet log a b) LogName.OfStore (IsUnread fetched)
      → IfOk result (λ e. QuietBut (λ log. quiet log b c) (LogName.OfTree owner) (e.reply ≡ reply.Io)) → IfOk result (TreeQuiet (λ log. quiet log a c) owner)
  quiet_if owner fetched (Ok e) is one two = both_quiet owner fetched e is one two
  quiet_if owner fetched (Err none) is one two = tt

-- ---- blocks

any_front : {X : Type 0} (f : X → Bool) (xs ys : List X) → list_any f xs ≡ true → list_any f (xs ++ ys) ≡ true
any_front f [] ys h = absurd (false≢true h)
any_front f (x ∷ xs) ys h = by (f x) h (any_front f xs ys)
  where
    by : (b : Bool) → (b || list_any f xs) ≡ true → (list_any f xs ≡ true → list_any f (xs ++ ys) ≡ true) → (b || list_any f (xs ++ ys)) ≡ true
    by true h rest = refl
    by false h rest = rest h

any_last : {X : Type 0} (f : X → Bool) (xs : List X) (x : X) → f x ≡ true → list_any f (xs ++ x ∷ []) ≡ true
any_last f [] x h = ap (λ b. b || false) h
any_last f (y ∷ xs) x h = by (f y) (any_last f xs x h)
  where
    by : (b : Bool) → list_any f (xs ++ x ∷ []) ≡ true → (b || list_any f (xs ++ x ∷ [])) ≡ true
    by true rest = refl
    by false rest = rest

-- what was unread is so with more behind it
pub unread_more : (before after more : Fetched) → after ≡ before ++ more → IsUnread before → IsUnread after
unread_more before after more whole h = subst IsUnread (sym whole) (any_front (λ (got : Got). own_failed got.0.endpoint got.1) before more h)

module _ (quiet : LogName → Type 0) where
  -- one block behind the others
  pub next_unread : (before after : Fetched) (location : Location) (given : Fetch) → after ≡ before ++ (location, given) ∷ [] → QuietBut quiet LogName.OfStore (own_failed location.endpoint given ≡ true) → QuietBut quiet LogName.OfStore (IsUnread after)
  next_unread before after location given whole one =
      but_more quiet LogName.OfStore (own_failed location.endpoint given ≡ true) (IsUnread after) one
      (λ failed. subst IsUnread (sym whole) (any_last (λ (got : Got). own_failed got.0.endpoint got.1) before (location, given) failed))

  own_unread : (at : Endpoint) (given : Fetch) → at ≡ endpoint.Local → QuietBut quiet LogName.OfStore (given ≡ fetch.Failed) → QuietBut quiet LogName.OfStore (own_failed at given ≡ true)
  own_unread at given is one =
      but_more quiet LogName.OfStore (given ≡ fetch.Failed) (own_failed at given ≡ true) one
      (λ failed. ap (λ (x : Endpoint). own_failed x given) is ∙ ap (own_failed endpoint.Local) failed)

  -- a block of the own store
  pub local_quiet : {E : Type 0} (at : Endpoint) (result : Result Fetch E) → at ≡ endpoint.Local → QuietBut quiet LogName.OfStore (result ≡ Ok fetch.Failed) → IfOk result (λ given. QuietBut quiet LogName.OfStore (own_failed at given ≡ true))
  local_quiet at (Ok given) is one = own_unread at given is (but_more quiet LogName.OfStore _ (given ≡ fetch.Failed) one (λ failed. let same : given ≡ fetch.Failed = cc in same))
  local_quiet at (Err e) is one = tt

  -- one that the loader was asked for
  pub elsewhere_quiet : {E : Type 0} (at : Endpoint) (result : Result Fetch E) → ((log : LogName) → quiet log) → IfOk result (λ given. QuietBut quiet LogName.OfStore (own_failed at given ≡ true))
  elsewhere_quiet at (Ok given) all = record { stays = λ log none. all log }
  elsewhere_quiet at (Err e) all = tt

-- ---- one turn of a tree

-- one that said Io
pub io_said : (said : Reply) (position : ℕ) → tells_io (turn.Said said position) ≡ true → said ≡ reply.Io
io_said reply.Io position h = refl
io_said reply.OutOfMemory position h = absurd (false≢true h)
io_said (reply.Ok what) position h = absurd (false≢true h)
io_said (reply.Invalid what) position h = absurd (false≢true h)
io_said reply.WrongHost position h = absurd (false≢true h)
io_said (reply.FollowLink entry) position h = absurd (false≢true h)
io_said reply.Private position h = absurd (false≢true h)
io_said (reply.Permission right) position h = absurd (false≢true h)
io_said reply.NotExist position h = absurd (false≢true h)
io_said reply.NotDir position h = absurd (false≢true h)
io_said reply.IsDir position h = absurd (false≢true h)
io_said reply.Exist position h = absurd (false≢true h)
io_said (reply.BadSequence sequence) position h = absurd (false≢true h)
io_said reply.NotEmpty position h = absurd (false≢true h)
io_said (reply.BadBlock reference) position h = absurd (false≢true h)
io_said (reply.BadText line) position h = absurd (false≢true h)
io_said (reply.TooLarge size) position h = absurd (false≢true h)
io_said (reply.Full records) position h = absurd (false≢true h)

-- one that said nothing
pub not_said : (came other : Turn) → came ≡ other → tells_io other ≡ false → tells_io came ≡ true → ⊥
not_said came other is none io = false≢true (sym none ∙ sym (ap tells_io is) ∙ io)

-- the count of its disk is as before, unless it said Io
pub tried_quiet : {D : Type 0} (disks : Ghosts D) (q : Question) (loaded : Loading) (fetched : Fetched) (now : ℕ) (old new : State D) (came : Turn) → Tried disks q loaded fetched now old new came
    → StaysUnless (disks.faults old.disk) (disks.faults new.disk) (tells_io came ≡ true)
tried_quiet {D} disks q loaded fetched now old new (turn.Missing names) h = record { stays = λ none. ap (λ (s : State D). disks.faults s.disk) h.stays }
tried_quiet disks q loaded fetched now old new (turn.Said said position) h = record { stays = λ none. h.quiet.stays (λ io. none (ap (λ r. tells_io (turn.Said r position)) io)) }
tried_quiet disks q loaded fetched now old new turn.Wanting h = record { stays = λ none. h.quiet }
