use Rattle.std.proofs.Common.{refl, ap}
use Rattle.vs_scopes.specs.vs_widths.specs.Names.{meaning_of}
use Rattle.vs_scopes.specs.scopes_passes.Parts.{read_end}
use Rattle.vs_scopes.proofs.SizeLemmas.{size_ranged, size_plain}
use Rattle.vs_scopes.proofs.sizes.sized.Goals as goal

pub returns-in_ok-bounds-in-Some : goal.returns-in_ok-bounds-in-Some
returns-in_ok-bounds-in-Some c =
    size_ranged (meaning_of c.args.names.now) c.args.signed c.args.apart (read_end c.args.range) c.in-Some.range.now c.in_ok-bounds-in-Some.bounds c.in_ok-bounds-in-Some.width _ (ap read_end c.in-Some.is) c.in_ok-bounds-in-Some.ensures refl refl refl

pub returns-in-None : goal.returns-in-None
returns-in-None c = size_plain (meaning_of c.args.names.now) c.args.signed c.args.apart (read_end c.args.range) _ c.requires (ap read_end c.in-None.is) refl refl refl
