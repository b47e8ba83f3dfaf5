use Rattle.std.proofs.Common.{refl}
use Rattle.std.proofs.lemmas.Result.{err_from_is_err_and}
use Rattle.vs_syntax.specs.vs_lexer.specs.declared.token.Word.TheVariants as w
use Rattle.vs_syntax.specs.Symbols.{a_word}
use Rattle.vs_syntax.specs.Grammar.{◌·◌, ◌or◌, nothing, part, word, parameter_form, a_header_parameter}
use Rattle.vs_syntax.specs.Reading.{stuck_first, stuck_part}
use Rattle.vs_syntax.specs.Views.{header_parameter_tree}
use Rattle.vs_parse_expressions.specs.Answers.{seen}
use Rattle.vs_parse_expressions.proofs.Exits.{fails_by}
use Rattle.vs_parser.proofs.Declarations.{beyond_present, part_answers}
use Rattle.vs_parser.proofs.Headers as h
use Rattle.vs_parser.proofs.header.parameter_with_word.Goals as goal

pub returns-in_err-form-clause-first : goal.returns-in_err-form-clause-first
returns-in_err-form-clause-first c =
    let p = err_from_is_err_and c.from_residual.result c.from_residual.ensures.1 in
    let b = h.word_beyond c.args.depth (seen c.args.tokens.now) (seen c.args.after.now) c.requires in
    rw (p.1, p.2) (fails_by parameter_form h.first_parameter c.args.depth c.args.depth (seen c.args.after.now) (seen c.args.tokens.now)
    (λ deep at s. stuck_first (b.stops deep at s))
    c.in_err-form.field-0.0 c.in_err-form.ensures)

pub returns-in_err-form-clause-other : goal.returns-in_err-form-clause-other
returns-in_err-form-clause-other c =
    let p = err_from_is_err_and c.from_residual.result c.from_residual.ensures.1 in
    let b = beyond_present (a_word w.Parameter) parameter_form c.args.depth (seen c.args.tokens.now) (seen c.args.after.now) refl c.requires in
    rw (p.1, p.2) (fails_by parameter_form (part a_header_parameter) c.args.depth c.args.depth (seen c.args.after.now) (seen c.args.tokens.now)
    (λ deep at s. stuck_part (stuck_first (b.stops deep at s)))
    c.in_err-form.field-0.0 c.in_err-form.ensures)

pub returns-clause-first : goal.returns-clause-first
returns-clause-first c =
    h.parameter_answers (word w.Parameter · parameter_form) c.args.depth c.args.tokens.now c.in_ok-form.form.rest.now (seen c.args.after.now) c.in_ok-form.form.tree _
    (h.word_beyond c.args.depth (seen c.args.tokens.now) (seen c.args.after.now) c.requires) c.in_ok-form.ensures c.parameter.ensures

pub returns-clause-other : goal.returns-clause-other
returns-clause-other c =
    part_answers a_header_parameter header_parameter_tree c.args.depth c.args.tokens.now _
    (h.parameter_answers (word w.Parameter · parameter_form or nothing) c.args.depth c.args.tokens.now c.in_ok-form.form.rest.now (seen c.args.after.now) c.in_ok-form.form.tree _
    (beyond_present (a_word w.Parameter) parameter_form c.args.depth (seen c.args.tokens.now) (seen c.args.after.now) refl c.requires) c.in_ok-form.ensures c.parameter.ensures)
