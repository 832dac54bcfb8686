-- How far a session is: what it has asked and what is left make the whole.
use Rattle.std.proofs.Common.{◌≡◌, ℕ, suc, ◌+◌, ◌-◌, ◌<◌, Bool, refl, subst, arith}
use Rattle.std.specs.Prelude.{OnOk, Result, Ok, Err, is_err, true, false}
use Rattle.up_peer.specs.declared.loader.Loader.{Ghosts}
use Rattle.up_shared.specs.declared.shared.Shared.{Shared}
use Rattle.up_storm.specs.Sessions.{HasAsked, HasRun, Session}

-- what holds of an Ok
true_false : true ≡ false → ⊥
true_false h = cc

pub on_ok : {A E : Type 0} (r : Result A E) (P : Type 0) → is_err r ≡ false → OnOk r P → P
on_ok (Ok a) P h k = k
on_ok (Err e) P h k = absurd (true_false h)

-- so many turns are done: whatever the others come to, with these before them it is the whole run
pub record IsRunning {D L : Type 0} (loader : Ghosts L) (shared : Shared D) (full : Bool) (k requests : ℕ) (start : Session D L) (turns : ℕ) (now : Session D L) : Type 0 where
  pub goes : (end : Session D L) → HasRun loader shared full k (requests - turns) now end → HasRun loader shared full k requests start end

module _ {D L : Type 0} (loader : Ghosts L) (shared : Shared D) (full : Bool) (k requests : ℕ) where
  pub running_none : (start : Session D L) → IsRunning loader shared full k requests start 0 start
  running_none start = let all : requests - 0 ≡ requests = omega arith in record { goes = λ end run. subst (λ (n : ℕ). HasRun loader shared full k n start end) all run }

  pub running_next : (start before after : Session D L) (turns : ℕ) → turns < requests → IsRunning loader shared full k requests start turns before
      → HasAsked loader shared full k before after → IsRunning loader shared full k requests start (turns + 1) after
  running_next start before after turns less running asked =
      let left : suc (requests - (turns + 1)) ≡ requests - turns = omega arith in
      record { goes = λ end run. running.goes end (subst (λ (n : ℕ). HasRun loader shared full k n before end) left (after, asked, run)) }

  pub running_all : (start now : Session D L) → IsRunning loader shared full k requests start requests now → HasRun loader shared full k requests start now
  running_all start now running =
      let none : 0 ≡ requests - requests = omega arith in
      running.goes now (subst (λ (n : ℕ). HasRun loader shared full k n now now) none refl)
