use Rattle.std.proofs.Common.{◌<◌, ◌↔◌, ◌⊎◌, ℕ, Vec, Global, inl, inr, sym, ◌∙◌, ap, subst, refl}
use Rattle.std.specs.List.{Contains}
use Rattle.std.proofs.lemmas.Bool.{false≢true}
use Rattle.vs_design.specs.declared.statement.EventTerm.{EventTerm}
use Rattle.vs_graph.proofs.Sets.{more, up_to}
use Rattle.vs_maps.specs.Reaches.{IsPlace, pause_at}
use Rattle.vs_maps.specs.Ranges.{pause_terms}
use Rattle.vs_maps.proofs.MarkLemmas.{put_more}
use Rattle.vs_maps.proofs.walks.terms.Goals as goal
use Rattle.vs_maps.proofs.walks.terms.Goals.{then-is_point+in_ok-extend_from_slice, else-is_point}

pub loop-p-preserved : goal.loop-p-preserved
loop-p-preserved c term =
    more (λ p. IsPlace c.args.tables.now p × Contains (pause_terms (pause_at c.args.tables.now p)) term) (Contains c.loop-p.all.items term) (Contains c.if-is_point.all.items term)
    c.loop-p.p (c.loop-p.invariant term)
    (elim c.if-is_point.branch [
      | then-is_point+in_ok-extend_from_slice w ↦ put_more (IsPlace c.args.tables.now c.loop-p.p) c.loop-p.all.items w.pause_terms.result.now c.if-is_point.all.items (pause_terms (pause_at c.args.tables.now c.loop-p.p))
          (w.if-is_point.ensures.0 refl) (ap (λ (v : Vec EventTerm Global). v.items) w.all-is ∙ w.in_ok-extend_from_slice.ensures.items)
          (w.pause_terms.ensures ∙ ap pause_terms w.pause.ensures) term
      | else-is_point w ↦ subst (λ (v : Vec EventTerm Global). (Contains v.items term ↔ (Contains c.loop-p.all.items term ⊎ (IsPlace c.args.tables.now c.loop-p.p × Contains (pause_terms (pause_at c.args.tables.now c.loop-p.p)) term))))
          (sym w.all-is) (λ x. inl x, λ y. elim y [ inl a ↦ a | inr b ↦ absurd (false≢true (w.if-is_point.ensures.1 b.0)) ])
    ])

pub returns : goal.returns
returns c term =
    let all = up_to (λ p. IsPlace c.args.tables.now p × Contains (pause_terms (pause_at c.args.tables.now p)) term) (Contains c.loop-p.all.items term) c.loop-p.p c.places-p-end.result
    c.loop-p-test.false c.loop-p.auto.p-end (c.loop-p.invariant term) in (
      λ x. let y = all.0 x in (y.0, y.2.0, y.2.1),
      λ y. all.1 (y.0, subst (λ (n : ℕ). y.0 < n) (sym c.places-p-end.ensures) (c.leads_in.ensures.points y.0 y.1), (y.1, y.2)),
    )
