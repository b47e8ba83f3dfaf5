use Rattle.std.proofs.Common.{List, ◌++◌, inl, inr, ◌∙◌, ap, subst, arith}
use Rattle.std.specs.List.{Contains}
use Rattle.std.proofs.lemmas.Result.{on_ok_weaker}
use Rattle.vs_design.specs.declared.range.BitRange.{BitRange}
use Rattle.vs_process.specs.Stops.{statement_view}
use Rattle.vs_claims.specs.vs_maps.specs.Ranges.{ranges_of}
use Rattle.vs_cert_blocks.specs.Walks.{statement_sure}
use Rattle.vs_cert_blocks.proofs.early.push_early.Goals as goal

pub returns : goal.returns
returns c =
    let t = c.args.tables.now in
    let X = ranges_of statement_sure (statement_view c.statement.result) in
    let e = c.deref.ensures.value ∙ c.in_ok-push_sure.ensures ∙ ap (λ (l : List BitRange). l ++ X) c.new-sure.ensures.items ∙ ap (ranges_of statement_sure) c.statement.ensures in
    on_ok_weaker c.push_unseen.result
    (λ h r m. elim (h r m) [ inl a ↦ inl a | inr y ↦ inr (omega (arith, c.if-place-least.false), (subst (λ (l : List BitRange). Contains l r) e y.0, y.1)) ])
    c.push_unseen.ensures
