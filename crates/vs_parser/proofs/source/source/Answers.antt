use Rattle.vs_syntax.specs.Reading.{stuck_part}
use Rattle.vs_syntax.specs.Grammar.{part, a_source, a_module}
use Rattle.vs_syntax.proofs.Gets.{gets_part, gets_stop}
use Rattle.std.proofs.lemmas.Result.{err_from_is_err_and}
use Rattle.vs_parser.specs.vs_parse_expressions.specs.Answers.{seen}
use Rattle.vs_parser.specs.vs_parse_expressions.proofs.Exits.{fails_by}
use Rattle.vs_parser.specs.vs_parse_expressions.proofs.Rows.{all_read}
use Rattle.vs_parser.specs.ParserHeads.{module_or_directive}
use Rattle.vs_parser.proofs.Sources.{source_start, directive_push, module_push, module_stuck, head_of}
use Rattle.vs_parser.proofs.source.source.Goals as goal

pub loop-head-init : goal.loop-head-init
loop-head-init c = record { along = source_start c.args.depth _ _ _ _ c.split_at.ensures.back c.new-modules.ensures.items c.new-directives.ensures.items }

pub returns-in_err-inner-in-Module : goal.returns-in_err-inner-in-Module
returns-in_err-inner-in-Module c =
    let p = err_from_is_err_and c.from_residual-in_err-inner-in-Module.result c.from_residual-in_err-inner-in-Module.ensures.1 in
    rw (p.1, p.2) (fails_by (part a_module) (part a_source) c.args.depth c.args.depth (seen c.loop-head.rest.now) (seen c.args.tokens.now)
    (λ deep at s. stuck_part (c.loop-head.invariant.along.stops deep at (module_stuck c.args.depth deep _ _ at (head_of _ _ _ _ c.in-Module.is c.in-Some.ensures) s)))
    c.in_err-inner-in-Module.field-0.0 c.in_err-inner-in-Module.ensures.reads)

pub loop-head-preserved-in-Directive : goal.loop-head-preserved-in-Directive
loop-head-preserved-in-Directive c = record {
  along = directive_push c.args.depth _ _ _ _ _ _ _ c.in_ok-push-in-Directive.ensures.items (head_of _ _ _ _ c.in-Directive.is c.in-Some.ensures) c.loop-head.invariant.along;
}

pub loop-head-preserved : goal.loop-head-preserved
loop-head-preserved c = record {
  along = module_push c.args.depth _ _ _ _ _ _ _ _ _ c.in_ok-push-in-Module.ensures.items c.in_ok-inner-in-Module.ensures.directives c.new-directives-in-Module.ensures.items (head_of _ _ _ _ c.in-Module.is c.in-Some.ensures) c.in_ok-inner-in-Module.ensures.reads c.loop-head.invariant.along;
}

pub returns : goal.returns
returns c = gets_part (all_read module_or_directive c.args.depth _ _ _ _ c.loop-head.invariant.along (gets_stop c.in_default.ensures))
