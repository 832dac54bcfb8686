-- the path so far, with what is left of the other behind it
use Rattle.std.proofs.Common.{◌≡◌, ◌++◌, drop, Ok}
use Rattle.up_client.specs.Links.{short}
use Rattle.up_client.proofs.links.behind.Given as goal

abbrev pub invariant-loop-i : goal.invariant-loop-i
invariant-loop-i l = record {
  owner : l.next.owner ≡ l.target.owner;
  whole : l.next.elements ++ drop l.i l.path.elements ≡ l.target.elements ++ drop l.n l.path.elements;
  fits : short l.next ≡ Ok l.next;
}
