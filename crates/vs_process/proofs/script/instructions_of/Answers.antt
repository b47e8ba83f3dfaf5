use Rattle.std.proofs.Common.{◌≡◌, ◌∙◌, ◌++◌, ◌∷◌, [], ◌+◌, List, length, take, ap, subst, sym}
use Rattle.std.proofs.lemmas.List.{take_more, take_all}
use Rattle.vs_process.specs.declared.draft.Op.{Op}
use Rattle.vs_process.specs.Instructions.{AreInstructionsOf}
use Rattle.vs_process.proofs.ScriptLists.{made_more}
use Rattle.vs_process.proofs.script.instructions_of.Goals as goal

pub loop-op-preserved : goal.loop-op-preserved
loop-op-preserved c =
    let ops = c.args.ops.now in
    let i = c.loop-op.op-index in
    let op = c.op-item.result in
    let next : take (i + 1) ops ≡ take i ops ++ op ∷ [] = take_more ops i op c.loop-op-test.true ∙ ap (λ (x : Op). take i ops ++ x ∷ []) (sym c.op-item.is) in
    rw (next, c.in_ok-push.ensures.items)
    (made_more c.args.design.now.signals (length ops) (take i ops) c.loop-op.all.items op c.in_ok-x.x c.loop-op.invariant c.in_ok-x.ensures)

pub returns : goal.returns
returns c = subst (λ (xs : List Op). AreInstructionsOf c.args.design.now.signals (length c.args.ops.now) xs c.loop-op.all.items)
    (take_all c.loop-op.op-index c.args.ops.now c.loop-op-test.false) c.loop-op.invariant
