-- What declarations say of their names, and the declarations of named blocks, say the same where they have one tree.
use Rattle.std.specs.Prelude.{◌≡◌, Bool, true, false, Option, None, Some, refl}
use Rattle.vs_syntax.specs.declared.tree.Range.{Range}
use Rattle.vs_syntax.specs.declared.tree.Form.{Form}
use Rattle.vs_syntax.specs.declared.tree.Local.{Local}
use Rattle.vs_syntax.specs.declared.tree.LocalDeclaration.{LocalDeclaration}
use Rattle.vs_syntax.specs.declared.tree.LocalDeclaration.TheVariants as g
use Rattle.vs_syntax.specs.Views.{signed_tree, range_tree, form_tree, local_tree, local_declaration_tree}
use Rattle.vs_syntax.specs.Same.{SameRange, same_no_range, same_range, SameForm, SameLocal, SameLocals, same_local_reg, same_local_integer}
use Rattle.vs_syntax.proofs.Sameness.{same_expr}
use Rattle.vs_syntax.proofs.SameRows.{listed_pairs}

pub same_sign : (s s' : Bool) → signed_tree s ≡ signed_tree s' → s ≡ s'
same_sign true true h = refl
same_sign true false h = cc
same_sign false true h = cc
same_sign false false h = refl

pub same_ranges : (r r' : Option Range) → range_tree r ≡ range_tree r' → SameRange r r'
same_ranges None None h = same_no_range
same_ranges None (Some r') h = cc
same_ranges (Some r) None h = cc
same_ranges (Some r) (Some r') h = same_range r r' (same_expr r.left r'.left (cc)) (same_expr r.right r'.right (cc))

pub same_form : (f f' : Form) → form_tree f ≡ form_tree f' → SameForm f f'
same_form f f' h = record { signed = same_sign f.signed f'.signed (cc); range = same_ranges f.range f'.range (cc) }

same_local : (x x' : Local) → local_tree x ≡ local_tree x' → SameLocal x x'
same_local x x' h = record { name = cc; words = same_ranges x.words x'.words (cc) }

-- Declarations of one tree say the same.
pub same_locals : (x x' : LocalDeclaration) → local_declaration_tree x ≡ local_declaration_tree x' → SameLocals x x'
same_locals (g.Reg f xs) (g.Reg f' xs') h = same_local_reg f f' xs xs' (same_form f f' (cc)) (listed_pairs SameLocal local_tree same_local xs.items xs'.items (cc))
same_locals (g.Reg f xs) (g.Integer xs') h = cc
same_locals (g.Integer xs) (g.Reg f' xs') h = cc
same_locals (g.Integer xs) (g.Integer xs') h = same_local_integer xs xs' (listed_pairs SameLocal local_tree same_local xs.items xs'.items (cc))
