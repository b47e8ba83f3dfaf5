use Rattle.std.specs.Prelude.{not}
use Rattle.std.proofs.Common.{sym, ◌∙◌, ap}
use Rattle.std.proofs.Math.Bool.{not-not}
use Rattle.vs_syntax.specs.vs_lexer.specs.declared.token.Kind.{Kind}
use Rattle.vs_parser.specs.LeftOut.{is_left_out}
use Rattle.vs_parser.proofs.SystemNames.{left_out_name}
use Rattle.vs_parser.proofs.fault.left_out.Goals as goal

pub returns-in-System : goal.returns-in-System
returns-in-System c =
    sym (ap not c.is_none.ensures ∙ not-not c.is_none.result) ∙ left_out_name c.system_name.result c.args.token.now.bytes.now c.system_name.ensures
    ∙ ap (λ (kind : Kind). is_left_out kind c.args.token.now.bytes.now) (sym c.in-System.is)
