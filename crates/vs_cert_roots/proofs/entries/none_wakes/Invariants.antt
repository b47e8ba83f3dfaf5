use Rattle.std.proofs.Common.{ℕ, ◌≡◌, ◌<◌, Some, slice_get}
use Rattle.vs_drivers.specs.vs_maps.specs.declared.sites.Site.{Site}
use Rattle.vs_cert_roots.specs.First.{WakesSite}
use Rattle.vs_cert_roots.proofs.entries.none_wakes.Given as goal

abbrev pub invariant-loop-site : goal.invariant-loop-site
invariant-loop-site l = (k : ℕ) (s : Site) → k < l.site-index → slice_get l.sites k ≡ Some s → WakesSite l.facts l.digit l.except s → ⊥
