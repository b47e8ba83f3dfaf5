use Rattle.std.proofs.Common.{sym, ◌∙◌}
use Rattle.std.proofs.lemmas.Bool.{false≢true}
use Rattle.vs_vcd_reader.proofs.BeginningLemmas.{no_variable_tells, scope_tells, upscope_tells, variable_tells}
use Rattle.vs_vcd_reader.proofs.parts.declaration_goes_on.Goals as goal

pub returns-then-begins : goal.returns-then-begins
returns-then-begins c = λ ws depth size opened. upscope_tells ws depth c.args.own c.args.part.now opened (c.begins.ensures.0 c.if-begins.true)

pub returns-then-begins_some_scope : goal.returns-then-begins_some_scope
returns-then-begins_some_scope c = λ ws depth size opened.
    scope_tells ws depth c.args.own c.args.part.now opened (c.begins_some_scope.ensures.0 c.if-begins_some_scope.true)

pub returns-then-own : goal.returns-then-own
returns-then-own c = λ ws depth size opened.
    variable_tells ws depth c.args.number c.args.own c.begins_variable.result c.args.part.now opened size
    (λ h. false≢true (sym c.if-begins.false ∙ c.begins.ensures.1 h)) (λ h. false≢true (sym c.if-begins_some_scope.false ∙ c.begins_some_scope.ensures.1 h))
    c.if-own.true c.begins_variable.ensures

pub returns-else-own : goal.returns-else-own
returns-else-own c = λ ws depth size opened.
    no_variable_tells ws depth c.args.own c.args.part.now opened (λ h. false≢true (sym c.if-begins.false ∙ c.begins.ensures.1 h))
    (λ h. false≢true (sym c.if-begins_some_scope.false ∙ c.begins_some_scope.ensures.1 h)) c.if-own.false
