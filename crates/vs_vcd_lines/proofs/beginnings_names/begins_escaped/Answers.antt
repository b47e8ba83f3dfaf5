use Rattle.std.proofs.Common.{List, ℕ, [], length, refl, sym, ap, ◌∙◌}
use Rattle.std.specs.Prelude.{◌==◌}
use Rattle.vs_vcd_lines.proofs.CutLemmas.{eqb_gives}
use Rattle.vs_vcd_lines.specs.BeginningsParts.{IsBody, IsFixed}
use Rattle.vs_vcd_lines.proofs.BeginningsNameLemmas.{bodies_lack, body_tells, nothing_tells, printable_tells}
use Rattle.vs_vcd_lines.proofs.TextLemmas.{nil_of}
use Rattle.vs_vcd_lines.proofs.PartLemmas.{joined_cut, joined_other, joined_uncut}
use Rattle.vs_vcd_lines.proofs.beginnings_names.begins_escaped.Goals as goal

pub returns-then-is_body : goal.returns-then-is_body
returns-then-is_body c =
    joined_cut 32 IsBody (IsFixed []) c.args.text.now c.in-Some.body.now c.in-Some.rest.now _ bodies_lack c.in-Some.ensures
    (sym c.is_body.ensures ∙ c.if-is_body.true) (nothing_tells c.in-Some.rest.now c.is_empty.result (
      λ e. nil_of c.in-Some.rest.now (eqb_gives (length c.in-Some.rest.now) 0 (sym c.is_empty.ensures ∙ e)),
      λ none. c.is_empty.ensures ∙ ap (λ (l : List ℕ). length l == 0) none,
    ))

pub returns-else-is_body : goal.returns-else-is_body
returns-else-is_body c =
    joined_other 32 IsBody (IsFixed []) c.args.text.now c.in-Some.body.now c.in-Some.rest.now c.is_body.result bodies_lack c.in-Some.ensures
    c.if-is_body.false (body_tells c.in-Some.body.now c.is_body.result c.is_body.ensures)

pub returns-in-None : goal.returns-in-None
returns-in-None c = joined_uncut 32 IsBody (IsFixed []) c.args.text.now _ c.in-None.ensures ([], refl) (printable_tells c.args.text.now c.are_printable.result c.are_printable.ensures)
