use Rattle.std.proofs.Common.{length, sym, ◌∙◌, arith}
use Rattle.std.proofs.lemmas.Bool.{false≢true}
use Rattle.vs_vcd_reader.proofs.HeaderLemmas.{header_refuses, none_at, not_fitting, some_at}
use Rattle.vs_vcd_reader.proofs.header.Header.line.Goals as goal

pub returns-in_default : goal.returns-in_default
returns-in_default c =
    header_refuses c.args.alloc c.args.self.now.widths.items c.args.self.now.depth c.args.self.now.own c.args.line.now c.requires.deep (omega arith)
    (none_at c.in_ok-declaration.field-0 c.args.line.now c.len-number.result (length c.args.self.now.widths.items) c.in_ok-declaration.ensures c.in_default.is (omega arith))

pub returns-then-not-fits : goal.returns-then-not-fits
returns-then-not-fits c =
    not_fitting c.args.self.now.widths.items c.args.self.now.depth c.args.self.now.own c.args.line.now c.in-Some.declaration c.requires.deep
    (some_at c.in_ok-declaration.field-0 c.in-Some.declaration c.args.line.now c.len-number.result (length c.args.self.now.widths.items) c.in_ok-declaration.ensures
    c.in-Some.is (omega arith))
    (λ m. false≢true (sym c.if-not-fits.true ∙ c.may_occur-fits.ensures.1 m))
