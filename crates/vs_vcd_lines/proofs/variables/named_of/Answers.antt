use Rattle.std.proofs.Common.{◌++◌, sym, ◌∙◌}
use Rattle.std.proofs.lemmas.Bool.{false≢true}
use Rattle.vs_vcd_writing.specs.Text.{range_text}
use Rattle.vs_vcd_lines.proofs.VariableLemmas.{plain_or_ranged, plain_made, ranged_named}
use Rattle.vs_vcd_lines.proofs.variables.named_of.Goals as goal

pub returns-in_default : goal.returns-in_default
returns-in_default c = λ name range h. c.in_default.ensures (name ++ range_text range) h.is

pub returns-then-named : goal.returns-then-named
returns-then-named c = plain_made c.args.text.now c.in-Some.front.now c.in-Some.ensures (c.is_name-named.ensures.0 c.if-named.true)

pub returns-in-None : goal.returns-in-None
returns-in-None c = λ name range h.
    plain_or_ranged c.args.text.now c.in-Some.front.now name range c.in-Some.ensures
    (λ named. false≢true (sym c.if-named.false ∙ c.is_name-named.ensures.1 named)) c.in-None.ensures h

pub returns-in-Some-ranged_of : goal.returns-in-Some-ranged_of
returns-in-Some-ranged_of c =
    ranged_named c.args.text.now c.in-Some.front.now c.in-Some-ranged_of.name.now c.in-Some-ranged_of.bounds c.in-Some.ensures c.in-Some-ranged_of.ensures
