use Rattle.std.proofs.Common.{◌≡◌, ◌∙◌, sym, length, arith}
use Rattle.vs_logic4.proofs.Cases.{matches_is, matches_sizes}
use Rattle.vs_logic4.proofs.case.CaseKind.matches.Goals as goal

pub returns-then-width : goal.returns-then-width
returns-then-width c =
    matches_sizes c.args.self c.args.left c.args.right
    (λ h. c.if-width.true (c.width.ensures.digits ∙ h ∙ sym c.width-2.ensures.digits))

pub returns : goal.returns
returns c =
    let long : length c.args.left ≡ length c.args.right = sym c.width.ensures.digits ∙ c.if-width.false ∙ c.width-2.ensures.digits in
    rw (c.ignored.ensures, c.ignored-2.ensures, c.value_plane.ensures, c.value_plane-2.ensures, c.unknown_plane.ensures, c.unknown_plane-2.ensures)
    (matches_is c.args.self c.args.left c.args.right long (omega (arith, c.width.ensures.digits, c.width.ensures.most)))
