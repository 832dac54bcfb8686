use Rattle.std.proofs.Common.{subst, sym, List, ℕ}
use Rattle.up_bytes.specs.Num.{IsNum}
use Rattle.up_bytes.proofs.Numbers.{num_spells, num_only}
use Rattle.up_bytes.proofs.laws.num_has_one_spelling.Goals as goal

pub returns : goal.returns
returns c = λ bytes n. (num_only bytes n, λ h. subst (λ (b : List ℕ). IsNum b n) (sym h.1) (num_spells n h.0))
