-- What a block and a `case` have a `$display` by.
use Rattle.std.proofs.Common.{◌≡◌, ℕ, ◌⊎◌, inl, inr, Bool, List, [], ◌∷◌, map, refl, sym, ◌∙◌, ap}
use Rattle.std.specs.Prelude.{◌||◌}
use Rattle.std.specs.List.{list_any}
use Rattle.std.specs.declared.vec.Vec.{Vec}
use Rattle.std.specs.declared.boxed.Box.{Box}
use Rattle.std.specs.declared.alloc.Global.{Global}
use Rattle.vs_design.specs.vs_logic4.specs.declared.case.CaseKind.{CaseKind}
use Rattle.vs_design.specs.vs_logic4.proofs.Basics.{any_map as any_each}
use Rattle.vs_design.specs.declared.expression.Typed.{Typed}
use Rattle.vs_design.specs.declared.statement.Call.{Call}
use Rattle.vs_design.specs.declared.statement.EventTerm.{EventTerm}
use Rattle.vs_design.specs.declared.statement.Ticks.{Ticks}
use Rattle.vs_design.specs.declared.statement.Statement.{Statement}
use Rattle.vs_design.specs.declared.statement.Statement.TheVariants as y
use Rattle.vs_design.specs.declared.statement.Statement.TheVariants.{rolls-Block, rolls-Call, rolls-Case, rolls-Delay, rolls-Event, rolls-Forever, rolls-Repeat, rolls-While}
use Rattle.vs_design.specs.declared.statement.Statement.TheOpen as f
use Rattle.vs_design.specs.declared.statement.Statement.TheFolds.{fold-roll-Statement}
use Rattle.vs_design.proofs.StatementLemmas.{Items, fold_layer}
use Rattle.vs_sign_off.specs.Displays.{has_display, has_display_step, is_display}

pub display_Block : (all : Vec Statement Global) → has_display (y.Block all) ≡ list_any has_display all.items
display_Block all =
    ap has_display (sym (rolls-Block all)) ∙ fold-roll-Statement Bool has_display_step (f.Block all) ∙ any_each (λ b. b) has_display all.items

pub display_Case : (n : ℕ) (kind : CaseKind) (x : Typed) (items : Items) →
    has_display (y.Case n kind x items) ≡ list_any (λ (i : Vec Typed Global × Statement). has_display i.1) items.items
display_Case n kind x items =
    ap has_display (sym (rolls-Case n kind x items)) ∙ fold-roll-Statement Bool has_display_step (f.Case n kind x items)
    ∙ any_each (λ (i : Vec Typed Global × Bool). i.1) (λ (i : Vec Typed Global × Statement). (i.0, has_display i.1)) items.items

pub display_Call : (n : ℕ) (c : Call) → has_display (y.Call n c) ≡ is_display c.kind
display_Call n c = ap has_display (sym (rolls-Call n c)) ∙ fold-roll-Statement Bool has_display_step (f.Call n c)

-- what has one body has a `$display` where the body has one
pub display_inner : (s : Statement) (body : Box Statement Global) →
    ((n : ℕ) × (ticks : Ticks) × (s ≡ y.Delay n ticks body)) ⊎ (((n : ℕ) × (terms : Vec EventTerm Global) × (s ≡ y.Event n terms body))
    ⊎ (((n : ℕ) × (e : Typed) × (s ≡ y.While n e body)) ⊎ (((n : ℕ) × (signed : Bool) × (e : Typed) × (s ≡ y.Repeat n signed e body)) ⊎ ((n : ℕ) × (s ≡ y.Forever n body))))) →
    has_display s ≡ has_display body.value
display_inner s body (inl (n, ticks, is)) = fold_layer has_display_step s (f.Delay n ticks body) (rolls-Delay n ticks body ∙ sym is)
display_inner s body (inr (inl (n, terms, is))) = fold_layer has_display_step s (f.Event n terms body) (rolls-Event n terms body ∙ sym is)
display_inner s body (inr (inr (inl (n, e, is)))) = fold_layer has_display_step s (f.While n e body) (rolls-While n e body ∙ sym is)
display_inner s body (inr (inr (inr (inl (n, signed, e, is))))) = fold_layer has_display_step s (f.Repeat n signed e body) (rolls-Repeat n signed e body ∙ sym is)
display_inner s body (inr (inr (inr (inr (n, is))))) = fold_layer has_display_step s (f.Forever n body) (rolls-Forever n body ∙ sym is)
