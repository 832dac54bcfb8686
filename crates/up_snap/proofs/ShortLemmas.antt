-- A canonical path is short.
use Rattle.std.proofs.Common.{◌≡◌, true, length, Ok}
use Rattle.std.proofs.lemmas.Bool.{le-leb}
use Rattle.up_names.specs.PathNames.{PathName, canonical, path_of}
use Rattle.up_names.proofs.PathLaws.{canonical-proper}
use Rattle.up_snap.specs.Shown.{is_short}

pub short_path : (path : PathName) → path_of (canonical path) ≡ Ok path → is_short path ≡ true
short_path path again = let proper = canonical-proper path again in le-leb (length (canonical path)) 4096 proper.short
