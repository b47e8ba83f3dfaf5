use Rattle.std.proofs.Common.{◌≡◌, drop}
use Rattle.vs_maps.specs.Sites.{all_filed}
use Rattle.vs_maps.proofs.sites.file.Given as goal

abbrev pub invariant-loop-site : goal.invariant-loop-site
invariant-loop-site l = all_filed (drop l.site-index l.sites) l.rows ≡ all_filed l.sites l.fn.rows
