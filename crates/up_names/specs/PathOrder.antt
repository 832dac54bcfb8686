-- Equality and order of canonical paths: the order is that of the bytes of their canonical texts (this project's own).
use Rattle.std.specs.Prelude.{ℕ, List, Bool, ◌&&◌, refl}
use Rattle.std.specs.Coded.{Coded, code_by, coded×, coded_list, coded_ℕ}
use Rattle.std.specs.declared.cmp.Ordering.{Ordering}
use Rattle.std.specs.Ordering.{nat_cmp, ordering_then}
use Rattle.std.specs.Cmp.Lexicographic.{slice_cmp}
use Rattle.std.specs.Str.{bytes_eq}
use lib.Pointwise.{pointwise}
use Rattle.up_names.specs.PathNames.{PathName, canonical}

-- a path is stored as its owner and its elements
abbrev pub coded_path : Coded PathName
coded_path =
    code_by (List ℕ × List (List ℕ)) (coded× (coded_list coded_ℕ) (coded_list (coded_list coded_ℕ)))
    (λ path. (path.owner, path.elements)) (λ parts. record { owner = parts.0; elements = parts.1 }) (λ _. refl)

-- two paths are equal: owner and elements are
abbrev pub path_eq : PathName → PathName → Bool
path_eq p q = bytes_eq p.owner q.owner && pointwise bytes_eq p.elements q.elements

-- Paths in order of owner and elements. It breaks no tie between canonical paths, whose texts differ where they differ, and makes the order
-- exact on all values.
abbrev pub parts_cmp : PathName → PathName → Ordering
parts_cmp p q = ordering_then (slice_cmp nat_cmp p.owner q.owner) (slice_cmp (slice_cmp nat_cmp) p.elements q.elements)

-- paths in order of the bytes of their canonical texts
abbrev pub path_cmp : PathName → PathName → Ordering
path_cmp p q = ordering_then (slice_cmp nat_cmp (canonical p) (canonical q)) (parts_cmp p q)
