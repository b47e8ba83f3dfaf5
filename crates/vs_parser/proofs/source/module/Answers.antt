use Rattle.std.proofs.lemmas.Result.{err_from_is_err_and}
use Rattle.vs_syntax.specs.vs_lexer.specs.declared.token.Mark.TheVariants as m
use Rattle.vs_syntax.specs.vs_lexer.specs.declared.token.Word.TheVariants as w
use Rattle.vs_syntax.specs.Grammar.{◌or◌, nothing, part, many, name, mark, word, header_parameters, header_ports, a_module, an_item}
use Rattle.vs_syntax.specs.Reading.{stuck_first, stuck_second}
use Rattle.vs_syntax.proofs.Gets.{gets_seq}
use Rattle.vs_parser.specs.vs_parse_expressions.specs.Answers.{seen}
use Rattle.vs_parser.specs.vs_parse_expressions.proofs.Exits.{fails_by}
use Rattle.vs_parser.proofs.Modules.{module_stuck, module_read}
use Rattle.vs_parser.proofs.source.module.Goals as goal

pub returns-in_err-name-clause-reads : goal.returns-in_err-name-clause-reads
returns-in_err-name-clause-reads c =
    let p = err_from_is_err_and c.from_residual.result c.from_residual.ensures.1 in
    rw (p.1, p.2) (fails_by name (part a_module) c.args.depth c.args.depth (seen c.args.after.now) (seen c.args.tokens.now)
    (λ deep at s. module_stuck c.args.depth deep _ _ at c.requires (stuck_first s))
    c.in_err-name.field-0.0 (c.in_err-name.ensures c.args.depth))

pub returns-in_err-parameters-clause-reads : goal.returns-in_err-parameters-clause-reads
returns-in_err-parameters-clause-reads c =
    let p = err_from_is_err_and c.from_residual-in_err-parameters.result c.from_residual-in_err-parameters.ensures.1 in
    rw (p.1, p.2) (fails_by (header_parameters or nothing) (part a_module) c.args.depth c.args.depth (seen c.in_ok-name.after_name.now) (seen c.args.tokens.now)
    (λ deep at s. module_stuck c.args.depth deep _ _ at c.requires (stuck_second (c.in_ok-name.ensures c.args.depth) (stuck_first s)))
    c.in_err-parameters.field-0.0 c.in_err-parameters.ensures)

pub returns-in_err-ports-clause-reads : goal.returns-in_err-ports-clause-reads
returns-in_err-ports-clause-reads c =
    let p = err_from_is_err_and c.from_residual-in_err-ports.result c.from_residual-in_err-ports.ensures.1 in
    rw (p.1, p.2) (fails_by (header_ports or nothing) (part a_module) c.args.depth c.args.depth (seen c.in_ok-parameters.parameters.rest.now) (seen c.args.tokens.now)
    (λ deep at s. module_stuck c.args.depth deep _ _ at c.requires (stuck_second (c.in_ok-name.ensures c.args.depth) (stuck_second c.in_ok-parameters.ensures (stuck_first s))))
    c.in_err-ports.field-0.0 c.in_err-ports.ensures)

pub returns-in_err-after_header-clause-reads : goal.returns-in_err-after_header-clause-reads
returns-in_err-after_header-clause-reads c =
    let p = err_from_is_err_and c.from_residual-in_err-after_header.result c.from_residual-in_err-after_header.ensures.1 in
    rw (p.1, p.2) (fails_by (mark m.Semicolon) (part a_module) c.args.depth c.args.depth (seen c.in_ok-ports.ports.rest.now) (seen c.args.tokens.now)
    (λ deep at s. module_stuck c.args.depth deep _ _ at c.requires (stuck_second (c.in_ok-name.ensures c.args.depth) (stuck_second c.in_ok-parameters.ensures (stuck_second c.in_ok-ports.ensures (stuck_first s)))))
    c.in_err-after_header.field-0.0 (c.in_err-after_header.ensures c.args.depth))

pub returns-in_err-inner-clause-reads : goal.returns-in_err-inner-clause-reads
returns-in_err-inner-clause-reads c =
    let p = err_from_is_err_and c.from_residual-in_err-inner.result c.from_residual-in_err-inner.ensures.1 in
    rw (p.1, p.2) (fails_by (many (part an_item)) (part a_module) c.args.depth c.args.depth (seen c.in_ok-after_header.after_header.now) (seen c.args.tokens.now)
    (λ deep at s. module_stuck c.args.depth deep _ _ at c.requires (stuck_second (c.in_ok-name.ensures c.args.depth) (stuck_second c.in_ok-parameters.ensures (stuck_second c.in_ok-ports.ensures (stuck_second (c.in_ok-after_header.ensures c.args.depth) (stuck_first s))))))
    c.in_err-inner.field-0.0 c.in_err-inner.ensures)

pub returns-in_err-rest-clause-reads : goal.returns-in_err-rest-clause-reads
returns-in_err-rest-clause-reads c =
    let p = err_from_is_err_and c.from_residual-in_err-rest.result c.from_residual-in_err-rest.ensures.1 in
    rw (p.1, p.2) (fails_by (word w.Endmodule) (part a_module) c.args.depth c.args.depth (seen c.in_ok-inner.inner.rest.now) (seen c.args.tokens.now)
    (λ deep at s. module_stuck c.args.depth deep _ _ at c.requires (stuck_second (c.in_ok-name.ensures c.args.depth) (stuck_second c.in_ok-parameters.ensures (stuck_second c.in_ok-ports.ensures (stuck_second (c.in_ok-after_header.ensures c.args.depth) (stuck_second c.in_ok-inner.ensures s))))))
    c.in_err-rest.field-0.0 (c.in_err-rest.ensures c.args.depth))

pub returns-clause-reads : goal.returns-clause-reads
returns-clause-reads c = module_read c.args.depth _ _ _ _ c.requires (gets_seq (c.in_ok-name.ensures c.args.depth) (gets_seq c.in_ok-parameters.ensures (gets_seq c.in_ok-ports.ensures (gets_seq (c.in_ok-after_header.ensures c.args.depth) (gets_seq c.in_ok-inner.ensures (c.in_ok-rest.ensures c.args.depth))))))
