use Rattle.std.proofs.Common.{refl, ap}
use Rattle.vs_syntax.specs.Symbols.{a_word}
use Rattle.vs_syntax.specs.Views.{direction_word}
use Rattle.vs_parser.specs.declared.items_head.DeclarationWord.TheVariants as d
use Rattle.vs_parser.proofs.ItemsHeads.{declared_read}
use Rattle.vs_parser.proofs.item.declared_item.Goals as goal
use Rattle.vs_parser.proofs.item.declared_item.Goals.{in-Port+in_ok-ports-in-Port, in-Genvar+in_ok-indices-in-Genvar, in-Wire+in_ok-nets-in-Wire, in-Reg+in_ok-regs-in-Reg, in-Integer+in_ok-integers-in-Integer, in-Parameter+in_ok-open-in-Parameter, in-Localparam+in_ok-fixed-in-Localparam}

pub returns-clause-reads : goal.returns-clause-reads
returns-clause-reads c = elim c.match-word.branch [
  | in-Port+in_ok-ports-in-Port w ↦ rw w.tree-is (declared_read _ (d.Port w.in-Port.direction) c.args.depth _ _ _ w.in-Port.is w.in_ok-ports-in-Port.ensures.reads)
  | in-Genvar+in_ok-indices-in-Genvar w ↦ rw w.tree-is (declared_read _ d.Genvar c.args.depth _ _ _ w.in-Genvar.is w.in_ok-indices-in-Genvar.ensures)
  | in-Wire+in_ok-nets-in-Wire w ↦ rw w.tree-is (declared_read _ d.Wire c.args.depth _ _ _ w.in-Wire.is w.in_ok-nets-in-Wire.ensures)
  | in-Reg+in_ok-regs-in-Reg w ↦ rw w.tree-is (declared_read _ d.Reg c.args.depth _ _ _ w.in-Reg.is w.in_ok-regs-in-Reg.ensures)
  | in-Integer+in_ok-integers-in-Integer w ↦ rw w.tree-is (declared_read _ d.Integer c.args.depth _ _ _ w.in-Integer.is w.in_ok-integers-in-Integer.ensures)
  | in-Parameter+in_ok-open-in-Parameter w ↦ rw w.tree-is (declared_read _ d.Parameter c.args.depth _ _ _ w.in-Parameter.is w.in_ok-open-in-Parameter.ensures)
  | in-Localparam+in_ok-fixed-in-Localparam w ↦ rw w.tree-is (declared_read _ d.Localparam c.args.depth _ _ _ w.in-Localparam.is w.in_ok-fixed-in-Localparam.ensures)
]

pub returns-clause-symbol : goal.returns-clause-symbol
returns-clause-symbol c = elim c.match-word.branch [
  | in-Port+in_ok-ports-in-Port w ↦ rw (w.tree-is, w.in-Port.is) (ap (λ u. a_word (direction_word u)) w.in_ok-ports-in-Port.ensures.direction)
  | in-Genvar+in_ok-indices-in-Genvar w ↦ rw (w.tree-is, w.in-Genvar.is) refl
  | in-Wire+in_ok-nets-in-Wire w ↦ rw (w.tree-is, w.in-Wire.is) refl
  | in-Reg+in_ok-regs-in-Reg w ↦ rw (w.tree-is, w.in-Reg.is) refl
  | in-Integer+in_ok-integers-in-Integer w ↦ rw (w.tree-is, w.in-Integer.is) refl
  | in-Parameter+in_ok-open-in-Parameter w ↦ rw (w.tree-is, w.in-Parameter.is) refl
  | in-Localparam+in_ok-fixed-in-Localparam w ↦ rw (w.tree-is, w.in-Localparam.is) refl
]
