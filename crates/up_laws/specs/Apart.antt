-- Turns of others of which a user sees nothing. This project's own.
use Rattle.std.specs.Prelude.{◌≡◌, ◌≢◌, ◌⊎◌, List, [], ◌∷◌, ⊤, Contains, Some}
use Rattle.up_names.specs.Texts.{UserName}
use Rattle.up_names.specs.PathNames.{PathName, control_of}
use Rattle.up_names.specs.declared.paths.Control.TheVariants as control
use Rattle.up_entry.specs.declared.records.Rec.{Rec}
use Rattle.up_policy.specs.Loadings.{Loading}
use Rattle.up_log_tree.specs.Logs.{Log}
use Rattle.up_log_tree.specs.Sizes.{size_of}
use Rattle.up_answers.specs.Agreement.{Agree, used}
use Rattle.up_answers.specs.Laws.{AreInCalendar, InStep, IsApart, IsWhole, Turn, after_turn, touched}
use Rattle.up_laws.specs.Turns.{added_in}

-- a record of an ordinary path
pub record IsOrdinary (rec : Rec) : Type 0 where
  pub path : PathName
  pub changes : touched rec ≡ Some path
  pub ordinary : control_of path ≡ control.Ordinary

-- What was added to two logs tells a user nothing: nothing was added to either; or one record to each, and either they are the same
-- record of an ordinary path, or the user sees nothing of both, and they have as many bytes.
abbrev pub TellNothing : UserName → List Loading → Log → Log → List Rec → List Rec → Type 0
TellNothing user loadings one two [] [] = ⊤
TellNothing user loadings one two (x ∷ []) (y ∷ []) =
    ((x ≡ y) × IsOrdinary x) ⊎ (IsApart user loadings one x × IsApart user loadings two y × (size_of x ≡ size_of y))
TellNothing user loadings one two [] (y ∷ ys) = ⊥
TellNothing user loadings one two (x ∷ xs) [] = ⊥
TellNothing user loadings one two (x ∷ []) (y ∷ z ∷ ys) = ⊥
TellNothing user loadings one two (x ∷ z ∷ xs) (y ∷ ys) = ⊥

-- At each place both turns are the user's, and equal, and use one of the loadings; or neither is the user's, and what they add tells the
-- user nothing.
abbrev pub AreApart : UserName → List Loading → Log → Log → List Turn → List Turn → Type 0
AreApart user loadings one two [] [] = ⊤
AreApart user loadings one two [] (turn ∷ turns) = ⊥
AreApart user loadings one two (turn ∷ turns) [] = ⊥
AreApart user loadings one two (a ∷ as') (b ∷ bs) =
    (((a.user ≡ user) × (a ≡ b) × Contains loadings (used a.request a.loaded))
    ⊎ ((a.user ≢ user) × (b.user ≢ user) × TellNothing user loadings one two (added_in one a) (added_in two b)))
    × AreApart user loadings (after_turn one a) (after_turn two b) as' bs

-- Under such turns two logs that agree for a user other than the owner at the start are in step: they agree after each of them.
abbrev pub ApartTurnsAreInStep : Type 0
ApartTurnsAreInStep =
    (user : UserName) (loadings : List Loading) (one two : Log) (as' bs : List Turn) → user ≢ one.owner → IsWhole one → IsWhole two →
    AreInCalendar as' → AreInCalendar bs → Agree user loadings one two
    → AreApart user loadings one two as' bs → InStep user loadings one two as' bs
