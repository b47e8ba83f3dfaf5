use Rattle.std.proofs.Common.{sym, ap, ◌∙◌, arith}
use Rattle.vs_design.specs.declared.statement.Statement.TheVariants.{rolls-Block}
use Rattle.vs_design.specs.declared.statement.Statement.TheOpen as f
use Rattle.vs_design.specs.vs_logic4.proofs.Basics.{only_one}
use Rattle.vs_slots_constants.specs.Clocks.{is_single}
use Rattle.vs_slots_constants.proofs.Cores.{core_inside, core_itself, core_other, not_one, layer_of}
use Rattle.vs_slots_constants.proofs.clocks.+core_of.Goals as goal

pub returns-then-len-eq1 : goal.returns-then-len-eq1
returns-then-len-eq1 t c =
    core_inside c.args.s.now c.in-Block.all c.index.result.now c.core_of.result.now
    (layer_of c.args.s.now (f.Block c.in-Block.all) (rolls-Block c.in-Block.all ∙ sym c.in-Block.is))
    (only_one c.in-Block.all.items c.index.result.now (omega (arith, c.len.ensures, c.in-Block.all.ok.0, c.if-len-eq1.true)) c.index.ensures)
    c.core_of.ensures

pub returns-else-len-eq1 : goal.returns-else-len-eq1
returns-else-len-eq1 t c =
    core_itself c.args.s.now
    (ap is_single (layer_of c.args.s.now (f.Block c.in-Block.all) (rolls-Block c.in-Block.all ∙ sym c.in-Block.is))
    ∙ not_one c.in-Block.all.items (λ h. c.if-len-eq1.false (omega (arith, c.len.ensures, c.in-Block.all.ok.0, h))))

pub returns-in_default : goal.returns-in_default
returns-in_default t c = core_other c.args.s.now c.in_default.not-Block
