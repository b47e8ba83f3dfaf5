-- Assignments of sources that say the same are one in a design.
use Rattle.std.proofs.Common.{◌≡◌, ℕ, ◌+◌, Bool, false, List, [], ◌∷◌, ◌++◌, pos, map, max, refl, ap, ap₂, sym, subst, ◌∙◌}
use Rattle.std.specs.List.{AllZip}
use Rattle.vs_design.specs.vs_logic4.specs.declared.digit.Digit.{Digit}
use Rattle.vs_design.specs.vs_logic4.specs.Parts.{selected}
use Rattle.vs_syntax.specs.declared.tree.Expr.{Expr}
use Rattle.vs_syntax.specs.Same.{SameExpr, SameLeft}
use Rattle.vs_design.specs.declared.expression.Typed.{Typed}
use Rattle.vs_design.specs.declared.statement.Aim.{Aim}
use Rattle.vs_design.specs.declared.statement.Target.{Target}
use Rattle.vs_design.specs.Stores.{Store}
use Rattle.vs_design.specs.Uses.{joined, aim_reads}
use Rattle.vs_design.specs.WellFormed.{aim_width}
use Rattle.vs_elab_statements.specs.vs_widths.specs.vs_eval.specs.Targets.{part_at, parts_from}
use Rattle.vs_elab_statements.specs.vs_widths.specs.Each.{Each, each_none, each_more}
use Rattle.vs_elab_statements.specs.vs_widths.specs.Environment.{Environment}
use Rattle.vs_elab_statements.specs.vs_widths.specs.Findings.{Finding, Has, Lacks}
use Rattle.vs_elab_statements.specs.vs_widths.specs.Meants.{Meant}
use Rattle.vs_elab_statements.specs.vs_widths.specs.Selects.{Named}
use Rattle.vs_elab_statements.specs.vs_widths.specs.declared.kinds.AssignmentKind.{AssignmentKind}
use Rattle.vs_elab_statements.specs.vs_widths.specs.Aiming.{IsPlace, IsTarget}
use Rattle.vs_elab_statements.specs.vs_widths.specs.Lefts.{Aimed, name_aimed}
use Rattle.vs_elab_statements.specs.vs_widths.specs.Expressions.{meant}
use Rattle.vs_elab_statements.specs.vs_widths.specs.Typing.{IsTypedAs}
use Rattle.vs_elab_statements.specs.Members.{Assignee, places, named_signal}
use Rattle.vs_elab_statements.specs.Statements.{assigned_to, IsSource, IsAssignment}
use Rattle.vs_elaborate.specs.Same.{SameTyped, SameAim, SameTarget, SameSides}
use Rattle.vs_elaborate.proofs.SameTypedLemmas.{same_meant, same_aimed, one_typed}

-- a size and a sign that were found
abbrev pub found_width : Finding → ℕ
found_width (Has w g) = w
found_width (Lacks faults) = 0

abbrev pub found_sign : Finding → Bool
found_sign (Has w g) = g
found_sign (Lacks faults) = false

-- what assignments assign to says the same
abbrev pub SameAssignee : Assignee → Assignee → Type 0
SameAssignee (places l) (places l') = SameLeft l l'
SameAssignee (named_signal n) (named_signal n') = n ≡ n'
SameAssignee _ _ = ⊥

same_assigned : (how : AssignmentKind) (env : Environment) (a a' : Assignee) → SameAssignee a a' → assigned_to how env a ≡ assigned_to how env a'
same_assigned how env (places l) (places l') h = same_aimed env how l l' h
same_assigned how env (named_signal n) (named_signal n') h = ap (λ m. name_aimed how (env m) []) h
same_assigned how env (places l) (named_signal n') h = absurd h
same_assigned how env (named_signal n) (places l') h = absurd h

-- places that are what is named have its size, and read and write what it does
module _ (how : AssignmentKind) (env : Environment) where
  one_indices : (ns : List Named) (aims bims : List Aim) → Each (IsPlace how env) ns aims → Each (IsPlace how env) ns bims → joined (map aim_reads aims) ≡ joined (map aim_reads bims)
  one_indices _ _ _ each_none each_none = refl
  one_indices _ _ _ (each_more n a ns aims p ps) (each_more _ b _ bims q qs) = ap₂ (λ x y. x ++ y) (p.reads ∙ sym q.reads) (one_indices ns aims bims ps qs)

  one_parts : (place : ℕ) (ns : List Named) (aims bims : List Aim) (digits : List Digit) (store : Store) (time : ℕ) → Each (IsPlace how env) ns aims → Each (IsPlace how env) ns bims → parts_from place aims digits store time ≡ parts_from place bims digits store time
  one_parts place _ _ _ digits store time each_none each_none = refl
  one_parts place _ _ _ digits store time (each_more n a ns aims p ps) (each_more _ b _ bims q qs) =
      let width : aim_width a ≡ aim_width b = ap found_width (sym p.found ∙ q.found) in
      let given = selected (pos place) (aim_width a) digits in
      ap₂ (λ x y. x ∷ y) (p.part given store time ∙ sym (q.part given store time) ∙ ap (λ w. part_at b (selected (pos place) w digits) store time) width)
      (one_parts (place + aim_width a) ns aims bims digits store time ps qs ∙ ap (λ w. parts_from (place + w) bims digits store time) width)

  one_aim : (n : Named) (a b : Aim) → IsPlace how env n a → IsPlace how env n b → SameAim a b
  one_aim n a b p q = record {
    width = ap found_width (sym p.found ∙ q.found);
    fixed = p.fixed ∙ sym q.fixed;
    range = p.range ∙ sym q.range;
    part = λ digits store time. p.part digits store time ∙ sym (q.part digits store time);
  }

  one_places : (ns : List Named) (aims bims : List Aim) → Each (IsPlace how env) ns aims → Each (IsPlace how env) ns bims → AllZip SameAim aims bims
  one_places _ _ _ each_none each_none = tt
  one_places _ _ _ (each_more n a ns aims p ps) (each_more _ b _ bims q qs) = (one_aim n a b p q, one_places ns aims bims ps qs)

  pub one_target : (m : Aimed) (t t' : Target) → IsTarget how env m t → IsTarget how env m t' → SameTarget t t'
  one_target m t t' h k = record {
    width = ap found_width (sym h.found ∙ k.found);
    places = one_places m.places t.parts.items t'.parts.items h.places k.places;
    ranges = h.ranges ∙ sym k.ranges;
    indices = one_indices m.places t.parts.items t'.parts.items h.places k.places;
    write = λ digits store time. one_parts 0 m.places t.parts.items t'.parts.items digits store time h.places k.places;
  }

-- sources of assignments that mean one thing, at one size of the target
one_source : (v : Meant) (w w' : ℕ) (x x' : Typed) → w ≡ w' → IsSource v w x → IsSource v w' x' → SameTyped x x'
one_source v w w' x x' i h k =
    let one : Has h.width h.signed ≡ Has k.width k.signed = sym h.has ∙ k.has in
    let width : max w h.width ≡ max w' k.width = ap₂ max i (ap found_width one) in
    let sign : h.signed ≡ k.signed = ap found_sign one in
    one_typed v (max w h.width) h.signed x x' h.typed (subst (λ z. IsTypedAs v z h.signed x') (sym width) (subst (λ z. IsTypedAs v (max w' k.width) z x') (sym sign) k.typed))

-- the sides of assignments whose targets and sources mean one thing
pub one_pair : (how : AssignmentKind) (env : Environment) (a a' : Aimed) (v v' : Meant) (u u' : Target) (x x' : Typed) → a ≡ a' → v ≡ v' → IsTarget how env a u → IsSource v u.width x → IsTarget how env a' u' → IsSource v' u'.width x' → SameSides u u' x x'
one_pair how env a a' v v' u u' x x' i m h y k z =
    let target = one_target how env a' u u' (subst (λ t. IsTarget how env t u) i h) k in
    record { target = target; source = one_source v' u.width u'.width x x' target.width (subst (λ t. IsSource t u.width x) m y) z }

-- the sides of assignments that say the same
pub one_sides : (how : AssignmentKind) (env : Environment) (a a' : Assignee) (v v' : Expr) (u u' : Target) (x x' : Typed) → SameAssignee a a' → SameExpr v v' → IsAssignment how env a v u x → IsAssignment how env a' v' u' x' → SameSides u u' x x'
one_sides how env a a' v v' u u' x x' i m h k =
    one_pair how env (assigned_to how env a) (assigned_to how env a') (meant env v) (meant env v') u u' x x' (same_assigned how env a a' i) (same_meant env v v' m) h.target h.source k.target k.source
