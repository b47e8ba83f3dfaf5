use Rattle.std.proofs.lemmas.Result.{err_from_is_err_and}
use Rattle.vs_syntax.specs.Grammar.{local_declaration}
use Rattle.vs_parse_expressions.specs.Answers.{seen}
use Rattle.vs_parse_expressions.proofs.Exits.{fails_by}
use Rattle.vs_parse_expressions.specs.declared.local.LocalWord.TheVariants as l
use Rattle.vs_parse_expressions.proofs.Blocks.{rest_after_word, local_stuck, local_read}
use Rattle.vs_parse_expressions.proofs.local.declaration.Goals as goal

pub returns-in_err-regs-in-Reg : goal.returns-in_err-regs-in-Reg
returns-in_err-regs-in-Reg c =
    let p = err_from_is_err_and c.from_residual.result c.from_residual.ensures.1 in
    rw (p.1, p.2) (fails_by (rest_after_word l.Reg) local_declaration c.args.depth c.args.depth (seen c.args.after.now) (seen c.args.tokens.now)
    (λ deep at s. local_stuck c.args.depth deep _ _ at _ l.Reg c.in-Reg.is c.requires s)
    c.in_err-regs-in-Reg.field-0.0 c.in_err-regs-in-Reg.ensures)

pub returns-in_ok-regs-in-Reg : goal.returns-in_ok-regs-in-Reg
returns-in_ok-regs-in-Reg c = local_read c.args.depth _ _ _ _ l.Reg _ c.in-Reg.is c.requires c.in_ok-regs-in-Reg.ensures

pub returns-in_err-integers-in-Integer : goal.returns-in_err-integers-in-Integer
returns-in_err-integers-in-Integer c =
    let p = err_from_is_err_and c.from_residual-in_err-integers-in-Integer.result c.from_residual-in_err-integers-in-Integer.ensures.1 in
    rw (p.1, p.2) (fails_by (rest_after_word l.Integer) local_declaration c.args.depth c.args.depth (seen c.args.after.now) (seen c.args.tokens.now)
    (λ deep at s. local_stuck c.args.depth deep _ _ at _ l.Integer c.in-Integer.is c.requires s)
    c.in_err-integers-in-Integer.field-0.0 c.in_err-integers-in-Integer.ensures)

pub returns-in_ok-integers-in-Integer : goal.returns-in_ok-integers-in-Integer
returns-in_ok-integers-in-Integer c = local_read c.args.depth _ _ _ _ l.Integer _ c.in-Integer.is c.requires c.in_ok-integers-in-Integer.ensures
