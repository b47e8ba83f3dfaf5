use Rattle.std.proofs.Common.{ℕ, ◌≡◌, ◌<◌, get_or}
use Rattle.vs_maps.specs.Sites.{IsWrite}
use Rattle.vs_maps.specs.declared.sites.Site.{Site}
use Rattle.vs_maps.proofs.sites.any_write_of.Given as goal

abbrev pub invariant-loop-site : goal.invariant-loop-site
invariant-loop-site l = (k : ℕ) (s : Site) → k < l.site-index → get_or l.sites k s ≡ s → s.process ≡ l.process → IsWrite s.usage → ⊥
