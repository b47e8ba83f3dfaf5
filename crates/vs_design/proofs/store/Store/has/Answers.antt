use Rattle.std.proofs.Common.{◌+◌, ◌&&◌, drop, ◌∙◌, ap, sym}
use Rattle.std.specs.List.{list_all}
use Rattle.std.proofs.Math.ListN.{drop_of_length-le}
use Rattle.std.proofs.lemmas.List.{drop_more}
use Rattle.vs_design.specs.WordWrites.{keeps}
use Rattle.vs_design.proofs.Stores.{keeps_all}
use Rattle.vs_design.proofs.store.Store.has.Goals as goal

pub returns : goal.returns
returns c =
    let store = c.args.self.now in
    let w = c.args.write.now in
    ap (list_all (keeps store w)) (sym (drop_of_length-le c.parts-part-items.result.now c.loop-part-test.false))
    ∙ c.loop-part.invariant
    ∙ ap (list_all (keeps store w)) c.parts-part-items.ensures
    ∙ keeps_all store w

pub returns-then-not-keeps : goal.returns-then-not-keeps
returns-then-not-keeps c =
    let store = c.args.self.now in
    let w = c.args.write.now in
    let items = c.parts-part-items.result.now in
    let i = c.loop-part.part-index in
    let p = c.part-item.result in
    ap (λ b. b && list_all (keeps store w) (drop (i + 1) items)) (sym c.if-not-keeps.true ∙ c.keeps.ensures)
    ∙ ap (λ q. keeps store w q && list_all (keeps store w) (drop (i + 1) items)) c.part-item.is
    ∙ ap (list_all (keeps store w)) (sym (drop_more items i p c.loop-part-test.true))
    ∙ c.loop-part.invariant
    ∙ ap (list_all (keeps store w)) c.parts-part-items.ensures
    ∙ keeps_all store w
