use Rattle.std.proofs.Common.{◌≡◌, false, is_some, ap, sym, ◌∙◌}
use Rattle.vs_elab_constants.specs.vs_widths.specs.Names.{meaning_of}
use Rattle.vs_elab_signals.proofs.NetLemmas.{adds_used, adds_known, adds_fresh}
use Rattle.vs_elab_signals.proofs.nets.add_net.Goals as goal

pub returns-then-is_some : goal.returns-then-is_some
returns-then-is_some c ss s before a k =
    adds_used c.args.text.now s.sight before c.args.name.now c.args.used.now c.args.pieces.now.items (sym (ap is_some c.find.ensures) ∙ sym c.is_some.ensures ∙ c.if-is_some.true) k

pub returns-then-is_known : goal.returns-then-is_known
returns-then-is_known c ss s before a k =
    adds_known c.args.text.now s.sight before c.args.name.now c.args.used.now c.bind.new.self c.args.pieces.now.items c.is_known.result c.in_ok-bind.ensures (c.is_known.ensures ss s a) c.if-is_known.true k

pub returns : goal.returns
returns c ss s before a k =
    let none : is_some (meaning_of c.args.used.now c.args.name.now) ≡ false = sym (ap is_some c.find.ensures) ∙ sym c.is_some.ensures ∙ c.if-is_some.false in
    adds_fresh c.args.text.now s.sight before c.args.name c.args.used.now c.bind.new.self c.args.pieces.now.items c.push.new.self.items c.is_known.result none c.in_ok-bind.ensures (c.is_known.ensures ss s a) c.if-is_known.false c.in_ok-push.ensures.items k
