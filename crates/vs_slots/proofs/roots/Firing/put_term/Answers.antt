use Rattle.std.proofs.Common.{ℕ, List, ap, sym, ◌∙◌, subst}
use Rattle.std.specs.List.{Contains}
use Rattle.std.proofs.lemmas.Result.{on_ok_weaker}
use Rattle.vs_graph.specs.Rows.{row}
use Rattle.vs_slots.specs.Kept.{IsTermIn, table_by}
use Rattle.vs_slots.specs.Lists.{IsOneOf}
use Rattle.vs_slots.proofs.Unions.{same_either}
use Rattle.vs_slots.proofs.roots.Firing.put_term.Goals as goal

pub returns : goal.returns
returns c =
    let f = c.args.facts.now in
    let x = c.args.self.now in
    let t = c.args.term in
    let same = c.table.ensures ∙ ap (table_by x) c.seen_edge.ensures in
    on_ok_weaker c.put_residues.result
    (λ h r. same_either (Contains c.args.out.now r) (IsOneOf c.table.result.now c.deref.result.now r) (IsTermIn f x t r) (Contains c.put_residues.new.out r) (h r) (
      λ y. (
        y.0,
        (c.in_ok-roots.ensures y.0).0 (subst (λ (l : List ℕ). Contains l y.0) c.deref.ensures.value y.1),
        subst (λ (l : List (List ℕ)). Contains (row l y.0) r) same y.2,
      ),
      λ y. (
        y.0,
        subst (λ (l : List ℕ). Contains l y.0) (sym c.deref.ensures.value) ((c.in_ok-roots.ensures y.0).1 y.1),
        subst (λ (l : List (List ℕ)). Contains (row l y.0) r) (sym same) y.2,
      ),
    ))
    c.put_residues.ensures
