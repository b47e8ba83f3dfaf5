use Rattle.std.proofs.Common.{◌≡◌, ap, sym, ◌∙◌}
use Rattle.vs_widths.specs.Senses.{sense}
use Rattle.vs_widths.specs.passes.Forms.{ends_in_test}
use Rattle.vs_widths.proofs.LinkingLemmas.{tested_more}
use Rattle.vs_widths.proofs.linking.tested.Goals as goal

pub returns-then-continues : goal.returns-then-continues
returns-then-continues c =
    let sized = ap (λ z. (sense z).size c.args.shape.width) (sym c.in-Ok.ensures) ∙ c.requires.sized in
    let ends : ends_in_test c.in-Ok.others.items ≡ _ = ap ends_in_test (sym c.deref.ensures.value) ∙ c.continues.ensures.ends c.if-continues.true in
    rw c.in-Ok.ensures (tested_more c.in-Ok.first c.in-Ok.others c.push.new.self c.args.shape c.args.link c.args.right c.in_ok-push-in-Ok.ensures.items
    (c.continues.ensures.unsigned c.if-continues.true) (c.continues.ensures.width c.if-continues.true) ends sized c.requires.test)
