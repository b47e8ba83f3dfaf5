use Rattle.std.proofs.Common.{◌++◌, ◌+◌, drop, ◌∙◌, ap₂, arith}
use Rattle.vs_vcd_writing.specs.CodeTables.{code_table}
use Rattle.vs_vcd_writing.proofs.CodeTableLemmas.{array_next, coded_next, table_done}
use Rattle.vs_vcd_writing.proofs.codes.code_numbers.Goals as goal
use Rattle.vs_vcd_writing.proofs.codes.code_numbers.Goals.{then-is_some+in_ok-push, else-is_some+in_ok-push-2}

pub loop-i-preserved : goal.loop-i-preserved
loop-i-preserved c =
    elim c.if-is_some.branch [
      | then-is_some+in_ok-push w ↦ record {
        most = omega arith;
        rest =
            ap₂ (λ t n. t.items ++ code_table n (drop (c.loop-i.i + 1) c.args.signals.now)) w.table-is w.next-is
            ∙ array_next c.loop-i.table.items w.push.new.self.items c.args.signals.now c.loop-i.next c.loop-i.i c.index-signals-i.result _
            c.loop-i-test.true w.if-is_some.ensures w.in_ok-push.ensures.items c.loop-i.invariant.rest;
      }
      | else-is_some+in_ok-push-2 w ↦ record {
        most = omega arith;
        rest =
            ap₂ (λ t n. t.items ++ code_table n (drop (c.loop-i.i + 1) c.args.signals.now)) w.table-is w.next-is
            ∙ coded_next c.loop-i.table.items w.push-else-is_some.new.self.items c.args.signals.now c.loop-i.next c.loop-i.i c.index-signals-i.result _
            c.loop-i-test.true w.if-is_some.ensures w.in_ok-push-2.ensures.items c.loop-i.invariant.rest;
      }
    ]

pub returns : goal.returns
returns c = table_done c.loop-i.table.items c.args.signals.now c.loop-i.next c.loop-i.i _ c.loop-i-test.false c.loop-i.invariant.rest
