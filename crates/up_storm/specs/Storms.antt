-- A whole storm: its host is prepared and shared, its sessions run at once, and what came of them is printed. This project's own.
use Rattle.std.specs.Prelude.{◌≡◌, ℕ, List, [], ◌∷◌, map, Option, codes, is_some}
use Rattle.std.specs.List.{AllByRecursion}
use Rattle.up_blocks.specs.Records.{IsTold}
use Rattle.up_command.specs.Statuses.{AnswersWith}
use Rattle.up_disk.specs.declared.disk.Disk as disk
use Rattle.up_entry.specs.declared.records.Rec.{Rec}
use Rattle.up_host.specs.Alone.{HostState}
use Rattle.up_host.specs.Shares.{IsSharedHost}
use Rattle.up_names.specs.Texts.{Text}
use Rattle.up_peer.specs.declared.loader.Loader.{Ghosts}
use Rattle.up_shared.specs.Splits.{AreWhole}
use Rattle.up_shared.specs.declared.shared.Seats.{Seats}
use Rattle.up_shared.specs.declared.shared.Shared.{Shared}
use Rattle.up_shared.specs.declared.shared.TreeSeat.{TreeSeat}
use Rattle.up_storm.specs.Preparing.{IsPrepared}
use Rattle.up_storm.specs.Seating.{HasEnded, IsRead}
use Rattle.up_storm.specs.Telling.{storm_text}
use Rattle.up_storm.specs.declared.plan.Plan.{Plan}
use Rattle.up_storm.specs.declared.session.Said.{Said}

-- What was printed once the sessions had ended: the joined seats are at the trees of both owners, and the logs were read through them.
pub record HasTold {D : Type 0} (plan : Plan) (all : Seats D) (said : List Said) (text : Text) : Type 0 where
  pub owners : map (λ (place : TreeSeat D). place.owner) all.trees.items ≡ codes "a@storm.example" ∷ codes "b@storm.example" ∷ []
  pub first : List Rec
  pub reads_first : IsRead all 0 first
  pub second : List Rec
  pub reads_second : IsRead all 1 second
  pub text_is : text ≡ storm_text plan first second said

-- A storm, and the text that it prints: a host was prepared and shared, with the bytes of each block that its store kept, where the store's
-- disk tells its content; its sessions ran at once and ended, the joined seats have the whole share of each log, so that all records that
-- were added are their own, and what came of it was told.
pub record IsStorm {D L : Type 0} (disks : disk.Ghosts D) (loader : Ghosts L) (none : L) (plan : Plan) (text : Text) : Type 0 where
  pub host : HostState D
  pub prepared : IsPrepared disks loader none plan.sessions host
  pub shared : Shared D
  pub seats : Seats D
  pub is_shared : IsSharedHost host shared seats
  pub kept : AllByRecursion (IsTold (is_some (disks.content host.store.state.disk))) host.store.state.log
  pub all : Seats D
  pub said : List Said
  pub ended : HasEnded loader none shared plan seats all said
  pub whole : AreWhole all
  pub told : HasTold plan all said text

-- What `upspin storm` prints and answers for a plan, unless memory is wanting: the text of a storm, and 0; after a fault of the sink a
-- front of it.
pub record Means {D L : Type 0} (disks : disk.Ghosts D) (loader : Ghosts L)
    (none : L) (plan : Plan) (old new : Option Text) (status : ℕ) : Type 0 where
  pub text : Text
  pub storm : IsStorm disks loader none plan text
  pub answers : AnswersWith old new (record { text = text; status = 0 }) status
