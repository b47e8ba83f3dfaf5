-- Lemmas on what a statement reads and waits for.
use Rattle.std.proofs.Common.{◌≡◌, ℕ, ◌<◌, ◌≤◌, ◌≢◌, ◌⊎◌, inl, inr, ◌&&◌, Bool, true, false, nat_lt, ◌||◌, List, [], ◌∷◌, ◌++◌, length, map, refl, sym, ◌∙◌, ap, subst, arith}
use Rattle.std.specs.List.{list_any, list_all}
use Rattle.std.specs.declared.vec.Vec.{Vec}
use Rattle.std.specs.declared.boxed.Box.{Box}
use Rattle.std.specs.declared.alloc.Global.{Global}
use Rattle.std.proofs.lemmas.Bool.{and_parts, and_from, ne_eqb}
use borrow.Author.Tests.{ltb-true}
use Rattle.vs_logic4.specs.declared.case.CaseKind.{CaseKind}
use Rattle.vs_design.specs.declared.expression.Typed.{Typed}
use Rattle.vs_design.specs.declared.range.BitRange.{BitRange}
use Rattle.vs_design.specs.declared.signal.Signal.{Signal}
use Rattle.vs_design.specs.declared.statement.EventTerm.{EventTerm}
use Rattle.vs_design.specs.declared.statement.Target.{Target}
use Rattle.vs_design.specs.declared.statement.Ticks.{Ticks}
use Rattle.vs_design.specs.declared.statement.Statement.{Statement}
use Rattle.vs_design.specs.declared.statement.Statement.TheVariants as y
use Rattle.vs_design.specs.declared.statement.Statement.TheVariants.{rolls-Assign, rolls-Later, rolls-Block, rolls-Delay, rolls-Event, rolls-Case, rolls-While, rolls-Repeat, rolls-Forever}
use Rattle.vs_design.specs.declared.statement.Statement.TheViews.{roll-Statement}
use Rattle.vs_design.specs.declared.statement.Statement.TheOpen.{Statement-F}
use Rattle.vs_design.specs.declared.statement.Statement.TheOpen as f
use Rattle.vs_design.specs.declared.statement.Statement.TheFolds.{fold-Statement, fold-roll-Statement, ind-Statement, map-Statement}
use Rattle.vs_design.specs.Uses.{reads, joined, is_of}
use Rattle.vs_design.specs.Statements.{all_reads, assignment_reads, statement_reads, statement_reads_step, event_terms, event_terms_step, has_control, has_control_step, listens}
use Rattle.vs_design.specs.WellFormed.{are_sound_labels, are_sound_terms, is_sound_operand, is_sound_statement, sound_step}
use Rattle.vs_design.proofs.UsesLemmas.{joined_each}
use Rattle.vs_logic4.proofs.Basics.{any_map as any_each}

-- a fold over a statement begins at the outermost layer
pub fold_layer : {A : Type 0} (step : Statement-F A → A) (s : Statement) (layer : Statement-F Statement) → roll-Statement layer ≡ s →
    fold-Statement A step s ≡ step (map-Statement Statement A (fold-Statement A step) layer)
fold_layer {A = A} step s layer is = ap (fold-Statement A step) (sym is) ∙ fold-roll-Statement A step layer

-- the items of a `case`: each with its expressions and its statement
abbrev pub Items : Type 0
Items = Vec (Vec Typed Global × Statement) Global

-- a `case` reads what its expression, the expressions of its items and their statements read
pub reads_Case : (n : ℕ) (kind : CaseKind) (x : Typed) (items : Items) →
    statement_reads (y.Case n kind x items) ≡ reads x ++ joined (map (λ (i : Vec Typed Global × Statement). all_reads i.0.items ++ statement_reads i.1) items.items)
reads_Case n kind x items =
    ap statement_reads (sym (rolls-Case n kind x items)) ∙ fold-roll-Statement (List BitRange) statement_reads_step (f.Case n kind x items)
    ∙ ap (λ rs. reads x ++ rs)
    (joined_each (λ (i : Vec Typed Global × List BitRange). all_reads i.0.items ++ i.1) (λ (i : Vec Typed Global × Statement). (i.0, statement_reads i.1)) items.items)

-- an assignment reads what its expression and its target read
pub reads_assignment : (s : Statement) (t : Target) (e : Typed) →
    ((n : ℕ) × (s ≡ y.Assign n t e)) ⊎ ((n : ℕ) × (ticks : Ticks) × (s ≡ y.Later n ticks t e)) → statement_reads s ≡ assignment_reads t e
reads_assignment s t e (inl (n, is)) = fold_layer statement_reads_step s (f.Assign n t e) (rolls-Assign n t e ∙ sym is)
reads_assignment s t e (inr (n, ticks, is)) = fold_layer statement_reads_step s (f.Later n ticks t e) (rolls-Later n ticks t e ∙ sym is)

-- a delay, an event control and a `forever` read what their statement does
pub reads_inner : (s : Statement) (body : Box Statement Global) →
    ((n : ℕ) × (ticks : Ticks) × (s ≡ y.Delay n ticks body)) ⊎ (((n : ℕ) × (terms : Vec EventTerm Global) × (s ≡ y.Event n terms body)) ⊎ ((n : ℕ) × (s ≡ y.Forever n body))) →
    statement_reads s ≡ statement_reads body.value
reads_inner s body (inl (n, ticks, is)) = fold_layer statement_reads_step s (f.Delay n ticks body) (rolls-Delay n ticks body ∙ sym is)
reads_inner s body (inr (inl (n, terms, is))) = fold_layer statement_reads_step s (f.Event n terms body) (rolls-Event n terms body ∙ sym is)
reads_inner s body (inr (inr (n, is))) = fold_layer statement_reads_step s (f.Forever n body) (rolls-Forever n body ∙ sym is)

-- a `while` and a `repeat` read what their condition or count and their statement read
pub reads_loop : (s : Statement) (e : Typed) (body : Box Statement Global) →
    ((n : ℕ) × (s ≡ y.While n e body)) ⊎ ((n : ℕ) × (signed : Bool) × (s ≡ y.Repeat n signed e body)) → statement_reads s ≡ reads e ++ statement_reads body.value
reads_loop s e body (inl (n, is)) = fold_layer statement_reads_step s (f.While n e body) (rolls-While n e body ∙ sym is)
reads_loop s e body (inr (n, signed, is)) = fold_layer statement_reads_step s (f.Repeat n signed e body) (rolls-Repeat n signed e body ∙ sym is)

-- the event terms of a delay and of a loop are those of their statement
pub terms_inner : (s : Statement) (body : Box Statement Global) →
    ((n : ℕ) × (ticks : Ticks) × (s ≡ y.Delay n ticks body)) ⊎ (((n : ℕ) × (e : Typed) × (s ≡ y.While n e body))
    ⊎ (((n : ℕ) × (signed : Bool) × (e : Typed) × (s ≡ y.Repeat n signed e body)) ⊎ ((n : ℕ) × (s ≡ y.Forever n body)))) → event_terms s ≡ event_terms body.value
terms_inner s body (inl (n, ticks, is)) = fold_layer event_terms_step s (f.Delay n ticks body) (rolls-Delay n ticks body ∙ sym is)
terms_inner s body (inr (inl (n, e, is))) = fold_layer event_terms_step s (f.While n e body) (rolls-While n e body ∙ sym is)
terms_inner s body (inr (inr (inl (n, signed, e, is)))) = fold_layer event_terms_step s (f.Repeat n signed e body) (rolls-Repeat n signed e body ∙ sym is)
terms_inner s body (inr (inr (inr (n, is)))) = fold_layer event_terms_step s (f.Forever n body) (rolls-Forever n body ∙ sym is)

-- the event terms of a `case` are those of its items' statements
pub terms_Case : (n : ℕ) (kind : CaseKind) (x : Typed) (items : Items) →
    event_terms (y.Case n kind x items) ≡ joined (map (λ (i : Vec Typed Global × Statement). event_terms i.1) items.items)
terms_Case n kind x items =
    ap event_terms (sym (rolls-Case n kind x items)) ∙ fold-roll-Statement (List EventTerm) event_terms_step (f.Case n kind x items)
    ∙ joined_each (λ (i : Vec Typed Global × List EventTerm). i.1) (λ (i : Vec Typed Global × Statement). (i.0, event_terms i.1)) items.items

-- a block has a timing control where one of its statements has one
pub control_Block : (all : Vec Statement Global) → has_control (y.Block all) ≡ list_any has_control all.items
control_Block all =
    ap has_control (sym (rolls-Block all)) ∙ fold-roll-Statement Bool has_control_step (f.Block all) ∙ any_each (λ b. b) has_control all.items

-- a `case` has a timing control where one of its items' statements has one
pub control_Case : (n : ℕ) (kind : CaseKind) (x : Typed) (items : Items) →
    has_control (y.Case n kind x items) ≡ list_any (λ (i : Vec Typed Global × Statement). has_control i.1) items.items
control_Case n kind x items =
    ap has_control (sym (rolls-Case n kind x items)) ∙ fold-roll-Statement Bool has_control_step (f.Case n kind x items)
    ∙ any_each (λ (i : Vec Typed Global × Bool). i.1) (λ (i : Vec Typed Global × Statement). (i.0, has_control i.1)) items.items

-- a loop has a timing control where its statement has one
pub control_loop : (s : Statement) (body : Box Statement Global) →
    ((n : ℕ) × (e : Typed) × (s ≡ y.While n e body)) ⊎ (((n : ℕ) × (signed : Bool) × (e : Typed) × (s ≡ y.Repeat n signed e body)) ⊎ ((n : ℕ) × (s ≡ y.Forever n body))) →
    has_control s ≡ has_control body.value
control_loop s body (inl (n, e, is)) = fold_layer has_control_step s (f.While n e body) (rolls-While n e body ∙ sym is)
control_loop s body (inr (inl (n, signed, e, is))) = fold_layer has_control_step s (f.Repeat n signed e body) (rolls-Repeat n signed e body ∙ sym is)
control_loop s body (inr (inr (n, is))) = fold_layer has_control_step s (f.Forever n body) (rolls-Forever n body ∙ sym is)

-- ---- what a sound statement waits for

terms-append : (ss : List Signal) (ts us : List EventTerm) → are_sound_terms ss ts ≡ true → are_sound_terms ss us ≡ true → are_sound_terms ss (ts ++ us) ≡ true
terms-append ss [] us h k = k
terms-append ss (t ∷ ts) us h k =
    let parts = and_parts (nat_lt t.range.signal (length ss)) (are_sound_terms ss ts) h in
    and_from (nat_lt t.range.signal (length ss)) _ parts.0 (terms-append ss ts us parts.1 k)

abbrev AreSound : List Signal → Statement → Type 0
AreSound ss s = is_sound_statement ss s ≡ true → are_sound_terms ss (event_terms s) ≡ true

abbrev Inner : List Signal → Type 0
Inner ss = (s : Statement) × AreSound ss s

abbrev bare : (ss : List Signal) → Statement-F (Inner ss) → Statement-F Statement
bare ss y = map-Statement (Inner ss) Statement (λ p. p.0) y

-- a layer whose own parts are sound
abbrev LayerSound : (ss : List Signal) → Statement-F (Inner ss) → Type 0
LayerSound ss y =
    sound_step ss (map-Statement Statement Bool (is_sound_statement ss) (bare ss y)) ≡ true →
    are_sound_terms ss (event_terms_step (map-Statement Statement (List EventTerm) event_terms (bare ss y))) ≡ true

in_block : (ss : List Signal) (ps : List (Inner ss)) → list_all (λ b. b) (map (is_sound_statement ss) (map (λ (p : Inner ss). p.0) ps)) ≡ true →
    are_sound_terms ss (joined (map event_terms (map (λ (p : Inner ss). p.0) ps))) ≡ true
in_block ss [] h = refl
in_block ss (p ∷ ps) h =
    let parts = and_parts (is_sound_statement ss p.0) _ h in
    terms-append ss (event_terms p.0) _ (p.1 parts.0) (in_block ss ps parts.1)

in_items : (ss : List Signal) (x : Typed) (is : List (Vec Typed Global × Inner ss)) →
    list_all (λ (i : Vec Typed Global × Bool). are_sound_labels ss x i.0.items && i.1) (map (λ (i : Vec Typed Global × Statement). (i.0, is_sound_statement ss i.1)) (map (λ (i : Vec Typed Global × Inner ss). (i.0, i.1.0)) is)) ≡ true →
    are_sound_terms ss (joined (map (λ (i : Vec Typed Global × List EventTerm). i.1) (map (λ (i : Vec Typed Global × Statement). (i.0, event_terms i.1)) (map (λ (i : Vec Typed Global × Inner ss). (i.0, i.1.0)) is)))) ≡ true
in_items ss x [] h = refl
in_items ss x (i ∷ is) h =
    let parts = and_parts (are_sound_labels ss x i.0.items && is_sound_statement ss i.1.0) _ h in
    let own = and_parts (are_sound_labels ss x i.0.items) (is_sound_statement ss i.1.0) parts.0 in
    terms-append ss (event_terms i.1.0) _ (i.1.1 own.1) (in_items ss x is parts.1)

layer : (ss : List Signal) (y : Statement-F (Inner ss)) → LayerSound ss y
layer ss (f.Null n) h = refl
layer ss (f.Assign n t e) h = refl
layer ss (f.Later n ticks t e) h = refl
layer ss (f.Call n c) h = refl
layer ss (f.Finish n) h = refl
layer ss (f.Block all) h = in_block ss all.items h
layer ss (f.Delay n ticks body) h = body.value.1 h
layer ss (f.Event n terms body) h =
    let parts = and_parts (are_sound_terms ss terms.items) (is_sound_statement ss body.value.0) h in
    terms-append ss terms.items (event_terms body.value.0) parts.0 (body.value.1 parts.1)
layer ss (f.If n e a b) h =
    let parts = and_parts (is_sound_operand ss e && is_sound_statement ss a.value.0) (is_sound_statement ss b.value.0) h in
    let first = and_parts (is_sound_operand ss e) (is_sound_statement ss a.value.0) parts.0 in
    terms-append ss (event_terms a.value.0) (event_terms b.value.0) (a.value.1 first.1) (b.value.1 parts.1)
layer ss (f.Case n kind x items) h = in_items ss x items.items (and_parts (is_sound_operand ss x) _ h).1
layer ss (f.While n e body) h = body.value.1 (and_parts (is_sound_operand ss e) (is_sound_statement ss body.value.0) h).1
layer ss (f.Repeat n signed e body) h = body.value.1 (and_parts (is_sound_operand ss e) (is_sound_statement ss body.value.0) h).1
layer ss (f.Forever n body) h = body.value.1 h

settled : (ss : List Signal) (x : Statement-F Statement) (y : Statement-F (Inner ss)) → bare ss y ≡ x → AreSound ss (roll-Statement x)
settled ss x y is =
    subst (λ (u : Statement-F Statement). AreSound ss (roll-Statement u)) is
    (λ h. ap (are_sound_terms ss) (fold-roll-Statement (List EventTerm) event_terms_step (bare ss y)) ∙ layer ss y (sym (fold-roll-Statement Bool (sound_step ss) (bare ss y)) ∙ h))

terms-past : (ss : List Signal) (ts : List EventTerm) (s : ℕ) → are_sound_terms ss ts ≡ true → length ss ≤ s → list_any (λ (t : EventTerm). is_of s t.range) ts ≡ false
terms-past ss [] s h le = refl
terms-past ss (t ∷ ts) s h le =
    let parts = and_parts (nat_lt t.range.signal (length ss)) (are_sound_terms ss ts) h in
    let below : t.range.signal < length ss = ltb-true t.range.signal (length ss) parts.0 in
    let other : t.range.signal ≢ s = omega arith in
    ap (λ b. b || list_any (λ (t : EventTerm). is_of s t.range) ts) (ne_eqb t.range.signal s other) ∙ terms-past ss ts s parts.1 le

-- no event control of a sound statement names a signal past the last one
pub listens-past : (ss : List Signal) (x : Statement) (s : ℕ) → is_sound_statement ss x ≡ true → length ss ≤ s → listens x s ≡ false
listens-past ss x s h le = terms-past ss (event_terms x) s (ind-Statement (AreSound ss) (settled ss) x h) le
