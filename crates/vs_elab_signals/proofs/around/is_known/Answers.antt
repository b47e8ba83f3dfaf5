use Rattle.std.proofs.Common.{◌≡◌, true, false, ◌||◌, is_some, ap, sym, ◌∙◌}
use Rattle.vs_elab_constants.specs.vs_widths.specs.Names.{meaning_of}
use Rattle.vs_scopes.specs.Nets.{is_declared}
use Rattle.vs_elab_signals.proofs.around.is_known.Goals as goal

pub returns-then-is_some : goal.returns-then-is_some
returns-then-is_some c ss s a =
    let n = c.args.name.now in
    let own : is_some (meaning_of c.args.text.now n) ≡ true = sym (ap is_some c.find.ensures) ∙ sym c.is_some.ensures ∙ c.if-is_some.true in
    ap (λ t. t || is_declared (s.sight n)) (sym own)

pub returns : goal.returns
returns c ss s a =
    let n = c.args.name.now in
    let own : is_some (meaning_of c.args.text.now n) ≡ false = sym (ap is_some c.find.ensures) ∙ sym c.is_some.ensures ∙ c.if-is_some.false in
    c.is_declared.ensures ss n (s.sight n) (c.sight_around.ensures.sight ss s a.opened a.sight a.kind) ∙ ap (λ t. t || is_declared (s.sight n)) (sym own)
