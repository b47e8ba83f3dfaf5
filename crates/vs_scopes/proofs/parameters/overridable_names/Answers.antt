use Rattle.std.proofs.Common.{◌+◌, ◌++◌, ◌∙◌, ap, sym, refl, map, drop, arith}
use Rattle.std.proofs.lemmas.List.{drop_all}
use Rattle.vs_scopes.specs.Overrides.{overridable}
use Rattle.vs_scopes.specs.passes.Ends.{borrowed, read_parameter}
use Rattle.vs_scopes.proofs.PassLemmas.{moved, ended, overridable_fixed, overridable_other}
use Rattle.vs_syntax.specs.vs_logic4.proofs.Basics.{front_of as drop_at}
use Rattle.vs_scopes.proofs.parameters.overridable_names.Goals as goal

pub loop-parameter-preserved-then-parameter : goal.loop-parameter-preserved-then-parameter
loop-parameter-preserved-then-parameter c =
    let ps = c.args.parameters.now in
    let i = c.loop-parameter.parameter-index in
    let p = c.parameter-item.result in
    ap (λ z. borrowed c.loop-parameter.names.items ++ z)
    (sym (ap (λ z. overridable (map read_parameter z)) (drop_at ps i p (omega arith) c.parameter-item.is) ∙ overridable_fixed (read_parameter p) (map read_parameter (drop (i + 1) ps)) c.if-parameter.true)) ∙ c.loop-parameter.invariant

pub loop-parameter-preserved : goal.loop-parameter-preserved
loop-parameter-preserved c =
    let ps = c.args.parameters.now in
    let i = c.loop-parameter.parameter-index in
    let p = c.parameter-item.result in
    moved (λ n. n.now) c.loop-parameter.names.items c.push.new.self.items p.name p.name.now _ _ _ c.in_ok-push.ensures.items refl
    (ap (λ z. overridable (map read_parameter z)) (drop_at ps i p (omega arith) c.parameter-item.is) ∙ overridable_other (read_parameter p) (map read_parameter (drop (i + 1) ps)) c.if-parameter.false)
    c.loop-parameter.invariant

pub returns : goal.returns
returns c = ended _ _ _ (ap (λ z. overridable (map read_parameter z)) (drop_all c.loop-parameter.parameter-index c.args.parameters.now (omega arith))) c.loop-parameter.invariant
