use Rattle.std.proofs.Common.{drop, length}
use Rattle.std.proofs.lemmas.Bool.Decides.{Decides-eqb}
use Rattle.std.proofs.lemmas.Slice.Eq.{starts_is}
use Rattle.vs_vcd_lines.proofs.texts.begins.Goals as goal

pub returns : goal.returns
returns c =
    let part = c.args.part.now in
    let whole = c.args.whole.now in
    let h = starts_is Decides-eqb whole part c.starts_with.result c.starts_with.ensures.value in
    (λ e. (drop (length part) whole, h.0 e), λ g. h.1 g.0 g.1)
