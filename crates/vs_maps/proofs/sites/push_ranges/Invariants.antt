use Rattle.std.proofs.Common.{◌≡◌, ◌++◌, drop, map}
use Rattle.vs_maps.specs.Sites.{site_of}
use Rattle.vs_maps.proofs.sites.push_ranges.Given as goal

abbrev pub invariant-loop-range : goal.invariant-loop-range
invariant-loop-range l = l.sites.items ++ map (site_of l.process l.place l.usage) (drop l.range-index l.ranges) ≡ l.fn.sites.items ++ map (site_of l.process l.place l.usage) l.ranges
