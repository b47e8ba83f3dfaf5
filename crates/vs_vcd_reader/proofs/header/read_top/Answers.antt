use Rattle.std.proofs.Common.{◌≡◌, [], ◌∷◌, rules, refl, sym, ap, ◌∙◌}
use Rattle.std.proofs.lemmas.Bool.{false≢true}
use Rattle.vs_vcd_reader.specs.declared.fault.VcdFault.TheVariants as f
use Rattle.vs_vcd_reader.specs.Steps.{Place as p}
use Rattle.vs_vcd_reader.proofs.FaultLemmas.{told_bad, told_end}
use Rattle.vs_vcd_reader.proofs.HeaderLemmas.{top_made, top_other, top_refuses, unended_header}
use denote.Enum.Bare.{same_true, sameb}
use Rattle.vs_design.specs.declared.design.ScopeKind.TheVariants.{Module}
use Rattle.vs_vcd_lines.specs.declared.dump.Declaration.TheVariants as v
use Rattle.vs_design.specs.contracts.design.ScopeKind.{the_type}
use Rattle.vs_vcd_reader.proofs.header.read_top.Goals as goal

pub returns-in_default : goal.returns-in_default
returns-in_default c =
    told_end p.Top c.args.text.now c.header_end.result c.in_default.ensures (λ _ h. h)
    (unended_header p.Top c.args.text.now c.top_goes_on-goes_on.result c.header_end.result refl c.top_goes_on-goes_on.ensures c.header_end.ensures.cut c.header_end.ensures.bad)

pub returns-in_default-scope_of : goal.returns-in_default-scope_of
returns-in_default-scope_of c =
    told_bad p.Top c.args.text.now c.in-Some.line.now c.in-Some.rest.now f.Header c.in-Some.ensures (top_refuses c.in-Some.line.now c.in_default-scope_of.ensures) refl

pub returns-then-not-top : goal.returns-then-not-top
returns-then-not-top c =
    told_bad p.Top c.args.text.now c.in-Some.line.now c.in-Some.rest.now f.Header c.in-Some.ensures
    (top_other c.in-Some.line.now c.in-Some-scope_of.kind c.in-Some-scope_of.name.now c.in-Some-scope_of.ensures.1
    (λ e. false≢true (sym c.if-not-top.true ∙ c.eq-top.ensures ∙ ap (λ k. sameb the_type k Module) e))) refl

pub returns : goal.returns
returns c =
    let none : c.new-widths.result.items ≡ [] = search rules in
    let pushed : c.push.new.self.items ≡ v.Scope c.in-Some-scope_of.kind c.in_ok-from_slice.field-0 ∷ [] = search rules in
    top_made c.args.text.now c.in-Some.line.now c.in-Some.rest.now _ c.in-Some-scope_of.kind c.in-Some-scope_of.name.now c.in_ok-from_slice.field-0 c.in-Some.ensures.is
    c.in-Some-scope_of.ensures.1 c.in-Some-scope_of.ensures.0 (same_true the_type (search rules) _ _ (sym c.eq-top.ensures ∙ c.if-not-top.false)) c.in_ok-from_slice.ensures.items
    pushed none refl refl
