-- No owners differ.
use Rattle.std.proofs.Common.{◌≡◌, List, [], sym, subst, bytes_eq}
use Rattle.std.specs.List.{IsDistinct}
use Rattle.up_names.specs.Texts.{UserName}

none_at_all : IsDistinct {K = UserName} bytes_eq []
unfolding IsDistinct
none_at_all = tt

pub none_differ : (owners : List UserName) → owners ≡ [] → IsDistinct bytes_eq owners
none_differ owners none = subst (IsDistinct bytes_eq) (sym none) none_at_all
