use Rattle.std.proofs.Common.{ℕ, ◌≡◌, ◌<◌, Some, slice_get}
use Rattle.vs_maps.specs.declared.sites.Site.{Site}
use Rattle.vs_slots.specs.Settings.{IsSetAt, IsWriteOf}
use Rattle.vs_slots.proofs.settings.are_set_to.Given as goal

abbrev pub invariant-loop-site : goal.invariant-loop-site
invariant-loop-site l = (k : ℕ) (s : Site) → k < l.site-index → slice_get l.sites k ≡ Some s → IsWriteOf l.j s → IsSetAt l.tables l.v l.digit s
