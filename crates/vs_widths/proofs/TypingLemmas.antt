-- Expressions of a design that are what measured ones mean.
use Rattle.std.proofs.Common.{ℕ, Bool, ap, sym, ◌∙◌}
use Rattle.vs_design.specs.declared.expression.Typed.{Typed}
use Rattle.vs_widths.specs.declared.forms.Measured.{Measured}
use Rattle.vs_widths.specs.Senses.{sense, IsFitted}
use Rattle.vs_widths.specs.Findings.{has_width_fault}
use Rattle.vs_widths.specs.Meants.{Meant}
use Rattle.vs_widths.specs.select_passes.Measures.{IsMeasured}
use Rattle.vs_widths.specs.Typing.{IsTypedAs}

pub typed_as : (m : Meant) (x : Measured) (width : ℕ) (signed : Bool) (y : Typed) → IsMeasured m x → IsFitted (sense x.form) width signed y → IsTypedAs m width signed y
typed_as m x width signed y h p = record {
  sound = λ r. ap (λ (z : Meant). has_width_fault r z.finding) h.means;
  size = p.size ∙ h.flexible width;
  value = λ store time. p.value store time ∙ sym (ap (λ (z : Meant). z.at store time width signed) h.means);
  ranges = p.ranges ∙ sym (ap (λ (z : Meant). z.reads) h.means);
  layer = p.layer ∙ sym (ap (λ (z : Meant). z.layer width) h.means);
}
