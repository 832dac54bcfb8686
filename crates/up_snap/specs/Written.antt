-- A moment as it is written in a path, read back. (That what is read is the moment is proved; nothing outside rests on these
-- definitions.)
use Rattle.std.specs.Prelude.{◌≡◌, ℕ, ◌+◌, ◌-◌, ◌*◌, true, slice_index_or, Option, Some}
use Rattle.up_names.specs.Texts.{Text, UserName}
use Rattle.up_names.specs.PathNames.{PathName, is_under}
use Rattle.up_ends.specs.Moments.{IsMoment}
use Rattle.up_snap.specs.Shown.{shown_root}

-- what the digit at a place stands for
abbrev pub digit_at : Text → ℕ → ℕ
digit_at text i = slice_index_or text i 0 - 48

-- what the two digits from a place on stand for
abbrev pub two_at : Text → ℕ → ℕ
two_at text i = digit_at text i * 10 + digit_at text (i + 1)

-- what is read of a path is so of each moment whose root the path is under
abbrev pub IsRead : {X : Type 0} → (ℕ → X) → PathName → Option X → Type 0
IsRead meant path found =
    (snap_user : UserName) (time : ℕ) → IsMoment time → is_under path (shown_root snap_user time) ≡ true → found ≡ Some (meant time)
