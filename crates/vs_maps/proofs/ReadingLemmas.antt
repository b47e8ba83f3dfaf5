-- What texts read, by their outermost statement.
use Rattle.std.proofs.Common.{◌≡◌, ℕ, ◌⊎◌, inl, inr, Bool, List, ◌++◌, map, sym, ◌∙◌, ap₂}
use Rattle.std.proofs.lemmas.List.{append-nil}
use Rattle.std.specs.declared.boxed.Box.{Box}
use Rattle.std.specs.declared.vec.Vec.{Vec}
use Rattle.std.specs.declared.alloc.Global.{Global}
use Rattle.vs_design.specs.vs_logic4.specs.declared.case.CaseKind.{CaseKind}
use Rattle.vs_design.specs.declared.expression.Typed.{Typed}
use Rattle.vs_design.specs.declared.range.BitRange.{BitRange}
use Rattle.vs_design.specs.declared.statement.EventTerm.{EventTerm}
use Rattle.vs_design.specs.declared.statement.Target.{Target}
use Rattle.vs_design.specs.declared.statement.Ticks.{Ticks}
use Rattle.vs_design.specs.declared.statement.Statement.{Statement}
use Rattle.vs_design.specs.declared.statement.Statement.TheVariants as y
use Rattle.vs_design.specs.declared.statement.Statement.TheVariants.{rolls-Assign, rolls-Later, rolls-Delay, rolls-Event, rolls-If, rolls-Case, rolls-While, rolls-Repeat, rolls-Forever}
use Rattle.vs_design.specs.declared.statement.Statement.TheOpen as f
use Rattle.vs_design.specs.Uses.{reads, joined}
use Rattle.vs_design.specs.Statements.{all_reads, assignment_reads, statement_reads}
use Rattle.vs_design.proofs.UsesLemmas.{joined_each}
use Rattle.vs_design.proofs.StatementLemmas.{Items, fold_layer, reads_assignment}
use Rattle.vs_rules.specs.vs_process.specs.Threads.{item_reads}
use Rattle.vs_rules.specs.Paths.{text_reads, text_reads_step}

-- an assignment
pub text_assignment : (s : Statement) (t : Target) (e : Typed) →
    ((n : ℕ) × (s ≡ y.Assign n t e)) ⊎ ((n : ℕ) × (ticks : Ticks) × (s ≡ y.Later n ticks t e)) → statement_reads s ≡ text_reads s
text_assignment s t e (inl (n, is)) =
    reads_assignment s t e (inl (n, is)) ∙ sym (fold_layer text_reads_step s (f.Assign n t e) (rolls-Assign n t e ∙ sym is) ∙ append-nil (assignment_reads t e))
text_assignment s t e (inr (n, ticks, is)) =
    reads_assignment s t e (inr (n, ticks, is)) ∙ sym (fold_layer text_reads_step s (f.Later n ticks t e) (rolls-Later n ticks t e ∙ sym is) ∙ append-nil (assignment_reads t e))

-- a control and a `forever`
pub text_inner : (s : Statement) (body : Box Statement Global) →
    ((n : ℕ) × (ticks : Ticks) × (s ≡ y.Delay n ticks body)) ⊎ (((n : ℕ) × (terms : Vec EventTerm Global) × (s ≡ y.Event n terms body)) ⊎ ((n : ℕ) × (s ≡ y.Forever n body))) →
    text_reads s ≡ text_reads body.value
text_inner s body (inl (n, ticks, is)) = fold_layer text_reads_step s (f.Delay n ticks body) (rolls-Delay n ticks body ∙ sym is)
text_inner s body (inr (inl (n, terms, is))) = fold_layer text_reads_step s (f.Event n terms body) (rolls-Event n terms body ∙ sym is)
text_inner s body (inr (inr (n, is))) = fold_layer text_reads_step s (f.Forever n body) (rolls-Forever n body ∙ sym is)

-- a `while` and a `repeat`
pub text_loop : (s : Statement) (e : Typed) (body : Box Statement Global) →
    ((n : ℕ) × (s ≡ y.While n e body)) ⊎ ((n : ℕ) × (signed : Bool) × (s ≡ y.Repeat n signed e body)) → text_reads s ≡ reads e ++ text_reads body.value
text_loop s e body (inl (n, is)) = fold_layer text_reads_step s (f.While n e body) (rolls-While n e body ∙ sym is)
text_loop s e body (inr (n, signed, is)) = fold_layer text_reads_step s (f.Repeat n signed e body) (rolls-Repeat n signed e body ∙ sym is)

pub text_If : (s : Statement) (n : ℕ) (e : Typed) (a b : Box Statement Global) → s ≡ y.If n e a b → text_reads s ≡ reads e ++ (text_reads a.value ++ text_reads b.value)
text_If s n e a b is = fold_layer text_reads_step s (f.If n e a b) (rolls-If n e a b ∙ sym is)

pub text_Case : (s : Statement) (n : ℕ) (kind : CaseKind) (x : Typed) (items : Items) → s ≡ y.Case n kind x items →
    text_reads s ≡ (reads x ++ joined (map item_reads items.items)) ++ joined (map (λ (i : Vec Typed Global × Statement). text_reads i.1) items.items)
text_Case s n kind x items is =
    fold_layer text_reads_step s (f.Case n kind x items) (rolls-Case n kind x items ∙ sym is)
    ∙ ap₂ (λ a b. (reads x ++ a) ++ b)
    (joined_each (λ (i : Vec Typed Global × List BitRange). all_reads i.0.items) (λ (i : Vec Typed Global × Statement). (i.0, text_reads i.1)) items.items)
    (joined_each (λ (i : Vec Typed Global × List BitRange). i.1) (λ (i : Vec Typed Global × Statement). (i.0, text_reads i.1)) items.items)
