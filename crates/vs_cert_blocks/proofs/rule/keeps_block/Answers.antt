use Rattle.std.proofs.Common.{◌↔◌, IsTrue, refl, sym, arith}
use Rattle.std.proofs.lemmas.Result.{IfOk-weaker}
use Rattle.vs_drivers.specs.vs_rules.specs.Blocks.{K5}
use Rattle.vs_cert_blocks.specs.Blocks.{KeepsBlock}
use Rattle.vs_cert_blocks.proofs.Points.{kept_is}
use Rattle.vs_cert_blocks.proofs.rule.keeps_block.Goals as goal

pub returns-in-Some : goal.returns-in-Some
returns-in-Some c = record {
  exact =
      let f = c.args.facts.now in
      IfOk-weaker c.keeps_process.result (λ b. (IsTrue b ↔ KeepsBlock c.design-design.result.now c.index-processes-i.result c.in-Some.tables.now c.grain.result))
      (λ b. (IsTrue b ↔ K5 f.design f.claims c.args.i))
      (kept_is f.design f.claims c.args.i c.design-design.result.now c.processes-processes.result.now c.index-processes-i.result c.in-Some.tables.now
      c.grain.result c.design-design.ensures c.processes-processes.ensures (omega arith) c.index-processes-i.is
      (λ p at. c.maps.ensures.each c.args.i p c.in-Some.tables.now at (sym c.in-Some.ensures)) c.grain.ensures (c.if-not-is_block.ensures.0 refl))
      c.keeps_process.ensures;
}
