-- What is kept of a search from one turn to the next.
use Rattle.std.proofs.Common.{◌≡◌, ℕ, List, ◌++◌, refl, sym, subst, ◌∙◌, Option, Some, None}
use Rattle.up_calls.specs.Kept.{KeepsSeen, where_missing}
use Rattle.up_calls.specs.Steps.{said_at}
use Rattle.up_calls.specs.Views.{LaterTree, SeenTree}
use Rattle.up_calls.specs.declared.logs.Turn.{Turn}
use Rattle.up_calls.specs.declared.logs.Turn.TheVariants as turn
use Rattle.up_foreign.proofs.KeptLemmas.{keeps_later, keeps_more}
use Rattle.up_foreign.specs.Kept.{Keeps}
use Rattle.up_foreign.specs.declared.kept.KeptSearch.{KeptSearch}
use Rattle.up_journal.specs.declared.limits.Limits.{Limits}
use Rattle.up_log_tree.proofs.Paths.{some_none, some_same}
use Rattle.up_names.specs.PathNames.{PathName}
use Rattle.up_names.specs.Texts.{UserName}
use Rattle.up_policy.specs.Loadings.{Loading}
use Rattle.up_wire.specs.declared.replies.Reply.{Reply}
use Rattle.up_wire.specs.declared.replies.Reply.TheVariants as reply

-- what is kept stays right where more was seen and more is loaded
pub seen_on : (view later : Option SeenTree) (loaded more : Loading) (kept : KeptSearch) → LaterTree view later → KeepsSeen view loaded kept → KeepsSeen later (loaded ++ more) kept
seen_on None None loaded more kept on h = record { seen = λ v is. absurd (some_none v (sym is)) }
seen_on (Some v) (Some w) loaded more kept on h = record {
  seen = λ x is.
      subst (λ (y : SeenTree). Keeps y.fixed.0 y.seen (loaded ++ more) kept) (some_same w x is)
      (subst (λ (f : UserName × Limits). Keeps f.0 w.seen (loaded ++ more) kept) (sym on.fixed) (keeps_more v.fixed.0 w.seen loaded more kept (keeps_later v.fixed.0 v.seen w.seen loaded kept on.begins (h.seen v refl))));
}
seen_on None (Some w) loaded more kept on h = absurd on
seen_on (Some v) None loaded more kept on h = absurd on

-- after a turn and a round of loads
pub kept_next : (view later : Option SeenTree) (names : List PathName) (came : Turn) (loaded more now : Loading) (kept : KeptSearch) → came ≡ turn.Missing names → where_missing came (KeepsSeen view loaded kept) → LaterTree view later → now ≡ loaded ++ more →
    KeepsSeen later now kept
kept_next view later names came loaded more now kept is h on whole =
    subst (λ l. KeepsSeen later l kept) (sym whole) (seen_on view later loaded more kept on (subst (λ t. where_missing t (KeepsSeen view loaded kept)) is h))

-- where a turn told what is missing, what follows holds too
pub missing_then : (came : Turn) (A B : Type 0) → (A → B) → where_missing came A → where_missing came B
missing_then (turn.Missing names) A B f h = f h
missing_then (turn.Said answer position) A B f h = tt
missing_then turn.Wanting A B f h = tt

-- a reply tells of nothing that is missing
pub said_none : (said : Reply) (position : ℕ) (holds : Type 0) → where_missing (said_at said position) holds
said_none reply.OutOfMemory position holds = tt
said_none reply.Io position holds = tt
said_none (reply.Ok what) position holds = tt
said_none (reply.Invalid what) position holds = tt
said_none reply.WrongHost position holds = tt
said_none (reply.FollowLink entry) position holds = tt
said_none reply.Private position holds = tt
said_none (reply.Permission right) position holds = tt
said_none reply.NotExist position holds = tt
said_none reply.NotDir position holds = tt
said_none reply.IsDir position holds = tt
said_none reply.Exist position holds = tt
said_none (reply.BadSequence sequence) position holds = tt
said_none reply.NotEmpty position holds = tt
said_none (reply.BadBlock reference) position holds = tt
said_none (reply.BadText line) position holds = tt
said_none (reply.TooLarge size) position holds = tt
said_none (reply.Full records) position holds = tt

-- what is kept of a whole log, as it is seen
pub seen_whole : (view : Option SeenTree) (v : SeenTree) (loaded : Loading) (kept : KeptSearch) → view ≡ Some v → Keeps v.fixed.0 v.seen loaded kept → KeepsSeen view loaded kept
seen_whole view v loaded kept at h = record {
  seen = λ x is. subst (λ (y : SeenTree). Keeps y.fixed.0 y.seen loaded kept) (some_same v x (sym at ∙ is)) h;
}
