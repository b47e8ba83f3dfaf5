use Rattle.std.proofs.Common.{◌≡◌, ◌++◌, drop, map}
use Rattle.vs_maps.specs.Sites.{waiting_of}
use Rattle.vs_maps.proofs.sites.push_terms.Given as goal

abbrev pub invariant-loop-term : goal.invariant-loop-term
invariant-loop-term l = l.sites.items ++ map (waiting_of l.process l.place) (drop l.term-index l.terms) ≡ l.fn.sites.items ++ map (waiting_of l.process l.place) l.terms
