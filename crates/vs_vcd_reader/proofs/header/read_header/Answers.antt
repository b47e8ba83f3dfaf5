use Rattle.std.proofs.lemmas.Result.{err_from_is_err_and}
use Rattle.std.proofs.Common.{refl, sym, ◌∙◌, arith}
use Rattle.std.proofs.lemmas.Bool.{false≢true}
use Rattle.vs_vcd_reader.specs.Headers.{header_place}
use Rattle.vs_vcd_reader.proofs.HeaderLemmas.{closed_made, end_bad, end_goes_on, goes_on, header_bad, header_end, unended_header}
use Rattle.vs_vcd_reader.proofs.header.read_header.Goals as goal

pub returns-in_default : goal.returns-in_default
returns-in_default c =
    let h = c.loop-header.header in
    header_end c.args.text.now c.loop-header.rest.now h c.header_end.result c.loop-header.invariant c.in_default.ensures
    (unended_header (header_place h) c.loop-header.rest.now c.declaration_goes_on-goes_on.result c.header_end.result refl
    (c.declaration_goes_on-goes_on.ensures h.widths.items h.depth (omega arith) (omega (arith, c.loop-header-test.true))) c.header_end.ensures.cut c.header_end.ensures.bad)

pub returns-in_err-line : goal.returns-in_err-line
returns-in_err-line c =
    let p = err_from_is_err_and c.from_residual-in_err-line.result c.from_residual-in_err-line.ensures.1 in
    rw (p.1, p.2)
    (header_bad c.args.text.now c.loop-header.rest.now c.in-Some.line.now c.in-Some.after.now c.loop-header.header _ c.loop-header.invariant c.in-Some.ensures
    c.in_err-line.ensures)

pub loop-header-preserved : goal.loop-header-preserved
loop-header-preserved c =
    goes_on c.args.text.now c.loop-header.rest.now c.in-Some.line.now c.in-Some.after.now c.loop-header.header c.line.new.self c.loop-header.invariant
    c.in-Some.ensures.is c.in_ok-line.ensures

pub returns-in_default-first_line : goal.returns-in_default-first_line
returns-in_default-first_line c =
    let h = c.loop-header.header in
    header_end c.args.text.now c.loop-header.rest.now h c.header_end-in_default-first_line.result c.loop-header.invariant c.in_default-first_line.ensures
    (unended_header (header_place h) c.loop-header.rest.now c.begins-goes_on.result c.header_end-in_default-first_line.result refl
    (end_goes_on h c.loop-header.rest.now c.begins-goes_on.result (omega arith) c.begins-goes_on.ensures) c.header_end-in_default-first_line.ensures.cut c.header_end-in_default-first_line.ensures.bad)

pub returns-then-not-ends : goal.returns-then-not-ends
returns-then-not-ends c =
    end_bad c.args.text.now c.loop-header.rest.now c.in-Some-first_line.line.now c.in-Some-first_line.after.now c.loop-header.header c.loop-header.invariant
    c.in-Some-first_line.ensures (omega arith) (λ e. false≢true (sym c.if-not-ends.true ∙ c.is_same-ends.ensures.1 e))

pub returns : goal.returns
returns c =
    closed_made c.args.text.now c.loop-header.rest.now c.in-Some-first_line.line.now c.in-Some-first_line.after.now c.loop-header.header c.loop-header.invariant
    c.in-Some-first_line.ensures.is (omega arith) (c.is_same-ends.ensures.0 c.if-not-ends.false)
