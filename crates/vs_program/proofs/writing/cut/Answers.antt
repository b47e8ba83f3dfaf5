use Rattle.std.proofs.Common.{inl, [], refl}
use Rattle.vs_program.proofs.Cuts.{nothing_cut, where_cut}
use Rattle.vs_program.proofs.writing.cut.Goals as goal

pub returns-then-not-cuts : goal.returns-then-not-cuts
returns-then-not-cuts g c = ([], nothing_cut _, inl refl)

pub returns : goal.returns
returns g c = where_cut _ _ c.args.cuts _ c.if-not-cuts.false c.cut.ensures.cut
