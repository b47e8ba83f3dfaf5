use Rattle.vs_process.specs.declared.draft.Draft.{Draft}
use Rattle.vs_process.proofs.Codes.{code_done}
use Rattle.vs_process.proofs.code.compile.Goals as goal

pub invariant_of-result : goal.invariant_of-result
invariant_of-result c =
    let empty : Draft = record { ops = c.new.result; counters = 0 } in
    code_done empty c.emit.new.draft c.args.body.now c.in_ok-start.start c.new.ensures.items c.in_ok-start.ensures.emitted c.in_ok-start.ensures.numbers
