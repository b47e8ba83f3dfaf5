-- Lemmas on what statements and what is to be done can write.
use Rattle.std.proofs.Common.{◌≡◌, ◌⊎◌, inl, inr, ℕ, Bool, List, map, sym, ◌∙◌, ap}
use Rattle.std.specs.declared.boxed.Box.{Box}
use Rattle.std.specs.declared.vec.Vec.{Vec}
use Rattle.std.specs.declared.alloc.Global.{Global}
use Rattle.vs_design.specs.vs_logic4.specs.declared.case.CaseKind.{CaseKind}
use Rattle.vs_design.specs.declared.expression.Typed.{Typed}
use Rattle.vs_design.specs.declared.range.BitRange.{BitRange}
use Rattle.vs_design.specs.declared.statement.Statement.{Statement}
use Rattle.vs_design.specs.declared.statement.Statement.TheVariants as y
use Rattle.vs_design.specs.declared.statement.Statement.TheVariants.{rolls-Assign, rolls-Later, rolls-Delay, rolls-Event, rolls-Case, rolls-While, rolls-Repeat, rolls-Forever}
use Rattle.vs_design.specs.declared.statement.Statement.TheOpen as f
use Rattle.vs_design.specs.declared.statement.Statement.TheFolds.{fold-roll-Statement}
use Rattle.vs_design.specs.declared.statement.EventTerm.{EventTerm}
use Rattle.vs_design.specs.declared.statement.Target.{Target}
use Rattle.vs_design.specs.declared.statement.Ticks.{Ticks}
use Rattle.vs_design.specs.Uses.{joined, writes}
use Rattle.vs_design.proofs.UsesLemmas.{joined_each}
use Rattle.vs_design.proofs.StatementLemmas.{fold_layer}
use Rattle.vs_process.specs.Writes.{statement_writes, statement_writes_step}

-- the items of a `case`: each with its expressions and its statement
abbrev pub Items : Type 0
Items = Vec (Vec Typed Global × Statement) Global

-- a `case` writes what its items' statements write
pub writes_Case : (n : ℕ) (kind : CaseKind) (x : Typed) (items : Items) →
    statement_writes (y.Case n kind x items) ≡ joined (map (λ (i : Vec Typed Global × Statement). statement_writes i.1) items.items)
writes_Case n kind x items =
    ap statement_writes (sym (rolls-Case n kind x items)) ∙ fold-roll-Statement (List BitRange) statement_writes_step (f.Case n kind x items)
    ∙ joined_each (λ (i : Vec Typed Global × List BitRange). i.1) (λ (i : Vec Typed Global × Statement). (i.0, statement_writes i.1)) items.items

-- an assignment writes what its target does
pub writes_assignment : (s : Statement) (t : Target) →
    ((n : ℕ) × (e : Typed) × (s ≡ y.Assign n t e)) ⊎ ((n : ℕ) × (ticks : Ticks) × (e : Typed) × (s ≡ y.Later n ticks t e)) → statement_writes s ≡ writes t
writes_assignment s t (inl (n, e, is)) = fold_layer statement_writes_step s (f.Assign n t e) (rolls-Assign n t e ∙ sym is)
writes_assignment s t (inr (n, ticks, e, is)) = fold_layer statement_writes_step s (f.Later n ticks t e) (rolls-Later n ticks t e ∙ sym is)

-- a delay, an event control and a loop write what their statement does
pub writes_inner : (s : Statement) (body : Box Statement Global) →
    ((n : ℕ) × (ticks : Ticks) × (s ≡ y.Delay n ticks body)) ⊎ (((n : ℕ) × (terms : Vec EventTerm Global) × (s ≡ y.Event n terms body))
    ⊎ (((n : ℕ) × (e : Typed) × (s ≡ y.While n e body)) ⊎ (((n : ℕ) × (signed : Bool) × (e : Typed) × (s ≡ y.Repeat n signed e body))
    ⊎ ((n : ℕ) × (s ≡ y.Forever n body))))) → statement_writes s ≡ statement_writes body.value
writes_inner s body (inl (n, ticks, is)) = fold_layer statement_writes_step s (f.Delay n ticks body) (rolls-Delay n ticks body ∙ sym is)
writes_inner s body (inr (inl (n, terms, is))) = fold_layer statement_writes_step s (f.Event n terms body) (rolls-Event n terms body ∙ sym is)
writes_inner s body (inr (inr (inl (n, e, is)))) = fold_layer statement_writes_step s (f.While n e body) (rolls-While n e body ∙ sym is)
writes_inner s body (inr (inr (inr (inl (n, signed, e, is))))) = fold_layer statement_writes_step s (f.Repeat n signed e body) (rolls-Repeat n signed e body ∙ sym is)
writes_inner s body (inr (inr (inr (inr (n, is))))) = fold_layer statement_writes_step s (f.Forever n body) (rolls-Forever n body ∙ sym is)
