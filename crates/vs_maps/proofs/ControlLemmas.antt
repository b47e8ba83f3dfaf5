-- The delay controls of statements.
use Rattle.std.proofs.Common.{◌≡◌, ◌⊎◌, inl, inr, ℕ, Bool, List, ◌∷◌, map, sym, ◌∙◌, ap}
use Rattle.std.specs.declared.boxed.Box.{Box}
use Rattle.std.specs.declared.vec.Vec.{Vec}
use Rattle.std.specs.declared.alloc.Global.{Global}
use Rattle.vs_design.specs.vs_logic4.specs.declared.case.CaseKind.{CaseKind}
use Rattle.vs_design.specs.declared.expression.Typed.{Typed}
use Rattle.vs_design.specs.declared.statement.EventTerm.{EventTerm}
use Rattle.vs_design.specs.declared.statement.Statement.{Statement}
use Rattle.vs_design.specs.declared.statement.Statement.TheVariants as y
use Rattle.vs_design.specs.declared.statement.Statement.TheVariants.{rolls-Delay, rolls-Event, rolls-Case, rolls-While, rolls-Repeat, rolls-Forever}
use Rattle.vs_design.specs.declared.statement.Statement.TheOpen as f
use Rattle.vs_design.specs.declared.statement.Statement.TheFolds.{fold-roll-Statement}
use Rattle.vs_design.specs.declared.statement.Ticks.{Ticks}
use Rattle.vs_design.specs.Uses.{joined}
use Rattle.vs_design.proofs.UsesLemmas.{joined_each}
use Rattle.vs_design.proofs.StatementLemmas.{Items, fold_layer}
use Rattle.vs_rules.specs.Controls.{controls_in, controls_step}

-- a `case` has the controls of its items' statements
pub controls_Case : (n : ℕ) (kind : CaseKind) (x : Typed) (items : Items) →
    controls_in (y.Case n kind x items) ≡ joined (map (λ (i : Vec Typed Global × Statement). controls_in i.1) items.items)
controls_Case n kind x items =
    ap controls_in (sym (rolls-Case n kind x items)) ∙ fold-roll-Statement (List ℕ) controls_step (f.Case n kind x items)
    ∙ joined_each (λ (i : Vec Typed Global × List ℕ). i.1) (λ (i : Vec Typed Global × Statement). (i.0, controls_in i.1)) items.items

-- a delay control comes before those of its statement
pub controls_Delay : (s : Statement) (n : ℕ) (ticks : Ticks) (body : Box Statement Global) → s ≡ y.Delay n ticks body → controls_in s ≡ n ∷ controls_in body.value
controls_Delay s n ticks body is = fold_layer controls_step s (f.Delay n ticks body) (rolls-Delay n ticks body ∙ sym is)

-- an event control and a loop have the controls of their statement
pub controls_inner : (s : Statement) (body : Box Statement Global) →
    ((n : ℕ) × (terms : Vec EventTerm Global) × (s ≡ y.Event n terms body))
    ⊎ (((n : ℕ) × (e : Typed) × (s ≡ y.While n e body)) ⊎ (((n : ℕ) × (signed : Bool) × (e : Typed) × (s ≡ y.Repeat n signed e body))
    ⊎ ((n : ℕ) × (s ≡ y.Forever n body)))) → controls_in s ≡ controls_in body.value
controls_inner s body (inl (n, terms, is)) = fold_layer controls_step s (f.Event n terms body) (rolls-Event n terms body ∙ sym is)
controls_inner s body (inr (inl (n, e, is))) = fold_layer controls_step s (f.While n e body) (rolls-While n e body ∙ sym is)
controls_inner s body (inr (inr (inl (n, signed, e, is)))) = fold_layer controls_step s (f.Repeat n signed e body) (rolls-Repeat n signed e body ∙ sym is)
controls_inner s body (inr (inr (inr (n, is)))) = fold_layer controls_step s (f.Forever n body) (rolls-Forever n body ∙ sym is)
