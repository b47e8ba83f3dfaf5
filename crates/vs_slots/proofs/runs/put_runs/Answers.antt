use Rattle.std.proofs.Common.{ℕ, inl, inr, Some, List, ◌∙◌, ap, sym, subst}
use Rattle.std.specs.List.{Contains}
use Rattle.std.proofs.lemmas.Option.{none-some, same_Some, slice_get_past, slice_get-get_or}
use Rattle.std.proofs.lemmas.Result.{on_ok_weaker}
use Rattle.vs_graph.specs.Rows.{row}
use Rattle.vs_slots.specs.declared.runs.Runs.{Runs}
use Rattle.vs_slots.specs.Kept.{IsRunIn}
use Rattle.vs_slots.specs.Lists.{IsOneOf}
use Rattle.vs_slots.proofs.Unions.{same_either}
use Rattle.vs_slots.proofs.runs.put_runs.Goals as goal

pub returns-then-i-runs : goal.returns-then-i-runs
returns-then-i-runs c =
    let x = c.index-runs-i.result in
    let at = slice_get-get_or c.args.runs.now c.args.i x c.if-i-runs.true ∙ ap Some (sym c.index-runs-i.is) in
    on_ok_weaker c.put_residues.result
    (λ h r. same_either (Contains c.args.out.now r) (IsOneOf x.ends c.row.result.now r) (IsRunIn c.args.runs.now c.args.i c.args.place r) (Contains c.put_residues.new.out r) (h r) (
      λ a. (x, at, subst (λ (ns : List ℕ). IsOneOf x.ends ns r) c.row.ensures a),
      λ y. subst (λ (ns : List ℕ). IsOneOf x.ends ns r) (sym c.row.ensures)
          (subst (λ (z : Runs). IsOneOf z.ends (row z.before c.args.place) r) (same_Some y.0 x (sym y.1 ∙ at)) y.2),
    ))
    c.put_residues.ensures

pub returns-else-i-runs : goal.returns-else-i-runs
returns-else-i-runs c r = (
  λ h. inl h,
  λ y. elim y [ inl h ↦ h | inr z ↦ absurd (none-some z.0 (sym (slice_get_past c.args.runs.now c.args.i c.if-i-runs.false) ∙ z.1)) ],
)
