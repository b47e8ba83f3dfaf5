-- In versions 1 and 2 no signal shows a variable inverted, and an event term's edge is the root's.
use Rattle.std.proofs.Common.{◌≡◌, ℕ, true, false, refl, sym, ◌∙◌}
use Rattle.std.proofs.lemmas.Bool.{false≢true}
use Rattle.vs_design.specs.vs_logic4.specs.declared.edge.Edge.{Edge}
use Rattle.vs_design.specs.declared.statement.EventTerm.{EventTerm}
use Rattle.vs_design.specs.Parts.{Parts}
use Rattle.vs_rules.specs.Copies.{CopiesRoot, itself, copy, inverse, is_odd, IsInverted, SeenAs}

-- no copy is inverse there
pub never_odd : (d : Parts) (root v : ℕ) (c : CopiesRoot d false root v) → is_odd c ≡ false
never_odd d root _ (itself one) = refl
never_odd d root _ (copy v u one link rest) = never_odd d root u rest
never_odd d root _ (inverse v u wide one link rest) = absurd (false≢true wide)

pub never_inverted : (d : Parts) (v : ℕ) → IsInverted d false v → ⊥
never_inverted d v h = false≢true (sym (never_odd d h.root v h.copies) ∙ h.odd)

pub seen_plain : (d : Parts) (t : EventTerm) (edge : Edge) → SeenAs d false t edge → edge ≡ t.edge
seen_plain d t edge h = h.plain (never_inverted d t.range.signal)
