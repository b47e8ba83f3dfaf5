-- A process of a well formed design writes variables, so that no continuous assignment drives what a block writes.
use Rattle.std.proofs.Common.{◌≡◌, ℕ, ◌&&◌, ◌++◌, Bool, true, false, Option, Some, None, List, [], ◌∷◌, map, slice_get, refl, sym, ◌∙◌, ap, subst, inl, inr}
use Rattle.std.specs.List.{list_any, list_all}
use Rattle.std.specs.declared.vec.Vec.{Vec}
use Rattle.std.specs.declared.alloc.Global.{Global}
use Rattle.std.proofs.lemmas.Bool.{and_parts, false≢true, or_cases}
use Rattle.std.proofs.lemmas.List.Folds.{list_any-append}
use Rattle.vs_design.specs.declared.design.Process.{Process}
use Rattle.vs_design.specs.declared.expression.Typed.{Typed}
use Rattle.vs_design.specs.declared.range.BitRange.{BitRange}
use Rattle.vs_design.specs.declared.signal.Signal.{Signal}
use Rattle.vs_design.specs.declared.statement.Statement.{Statement}
use Rattle.vs_design.specs.declared.statement.Statement.TheViews.{roll-Statement}
use Rattle.vs_design.specs.declared.statement.Statement.TheOpen.{Statement-F}
use Rattle.vs_design.specs.declared.statement.Statement.TheFolds.{fold-roll-Statement, ind-Statement, map-Statement}
use Rattle.vs_design.specs.declared.statement.Target.{Target}
use Rattle.vs_design.specs.Parts.{Parts}
use Rattle.vs_design.specs.Uses.{aim_range, is_of, joined, writes}
use Rattle.vs_design.specs.WellFormed.{WellFormed, aim_width, are_sound_labels, are_sound_terms, counts_from, is_body_of, is_sound_assignment, is_sound_operand, is_sound_process, is_sound_statement, is_sound_target, is_source, is_variable_aim, numbers, sound_step}
use Rattle.std.specs.Prelude.{◌==◌, sum}
use Rattle.vs_process.proofs.ProcessLists.{all_slice, map_cases}
use Rattle.vs_design.specs.vs_logic4.proofs.Basics.{all_at, element_of as any_at}
use Rattle.vs_process.proofs.WellFormed.{IsVariable, variable_undriven, variable_place}
use Rattle.vs_process.specs.Writes.{statement_writes, statement_writes_step}
use Rattle.vs_process.specs.BlockDrivers.{outputs_for, puts_out}
use Rattle.vs_design.specs.Stores.{is_driven}
use Rattle.vs_process.proofs.ThreadsNamed.{named}
use Rattle.vs_design.specs.Kinds.{is_variable}

-- what an assignment names is a variable
target_variable : (ss : List Signal) (t : Target) (e : Typed) (v : ℕ) → is_sound_assignment ss t e ≡ true → list_any (is_of v) (writes t) ≡ true → IsVariable ss v
target_variable ss t e v h named =
    let target = (and_parts (is_sound_target (is_variable_aim ss) t) (is_source ss t e) h).0 in
    let places = (and_parts (list_all (is_variable_aim ss) t.parts.items) (sum (map aim_width t.parts.items) == t.width) target).0 in
    let found = any_at (is_of v) (writes t) named in
    let place = map_cases aim_range t.parts.items found.0 found.1 found.2 in
    variable_place ss place.0 v (all_at (is_variable_aim ss) t.parts.items found.0 place.0 place.1 places) (ap (is_of v) place.2 ∙ found.3)

abbrev Named : List Signal → Statement → Type 0
Named ss s = is_sound_statement ss s ≡ true → (v : ℕ) → list_any (is_of v) (statement_writes s) ≡ true → IsVariable ss v

abbrev With : List Signal → Type 0
With ss = (s : Statement) × Named ss s

abbrev bare : (ss : List Signal) → With ss → Statement
bare ss p = p.0

either : (ss : List Signal) (v : ℕ) (xs ys : List BitRange) → (list_any (is_of v) xs ≡ true → IsVariable ss v) → (list_any (is_of v) ys ≡ true → IsVariable ss v) → list_any (is_of v) (xs ++ ys) ≡ true → IsVariable ss v
either ss v xs ys f g h = elim (or_cases (list_any (is_of v) xs) (list_any (is_of v) ys) (sym (list_any-append (is_of v) xs ys) ∙ h)) [
  | inl one ↦ f one
  | inr other ↦ g other
]

rows : (ss : List Signal) (ps : List (With ss)) → list_all (λ b. b) (map (is_sound_statement ss) (map (bare ss) ps)) ≡ true → (v : ℕ) → list_any (is_of v) (joined (map statement_writes (map (bare ss) ps))) ≡ true → IsVariable ss v
rows ss [] h v named = absurd (false≢true named)
rows ss (p ∷ ps) h v named =
    let parts = and_parts (is_sound_statement ss p.0) (list_all (λ b. b) (map (is_sound_statement ss) (map (bare ss) ps))) h in
    either ss v (statement_writes p.0) (joined (map statement_writes (map (bare ss) ps))) (p.1 parts.0 v) (rows ss ps parts.1 v) named

abbrev item_of : (ss : List Signal) → Vec Typed Global × With ss → Vec Typed Global × Statement
item_of ss i = (i.0, i.1.0)

items : (ss : List Signal) (x : Typed) (is : List (Vec Typed Global × With ss)) →
    list_all (λ (i : Vec Typed Global × Bool). are_sound_labels ss x i.0.items && i.1) (map (λ (i : Vec Typed Global × Statement). (i.0, is_sound_statement ss i.1)) (map (item_of ss) is)) ≡ true → (v : ℕ) →
    list_any (is_of v) (joined (map (λ (i : Vec Typed Global × List BitRange). i.1) (map (λ (i : Vec Typed Global × Statement). (i.0, statement_writes i.1)) (map (item_of ss) is)))) ≡ true → IsVariable ss v
items ss x [] h v named = absurd (false≢true named)
items ss x (i ∷ is) h v named =
    let parts = and_parts (are_sound_labels ss x i.0.items && is_sound_statement ss i.1.0)
    (list_all (λ (i : Vec Typed Global × Bool). are_sound_labels ss x i.0.items && i.1) (map (λ (i : Vec Typed Global × Statement). (i.0, is_sound_statement ss i.1)) (map (item_of ss) is))) h in
    either ss v (statement_writes i.1.0) (joined (map (λ (i : Vec Typed Global × List BitRange). i.1) (map (λ (i : Vec Typed Global × Statement). (i.0, statement_writes i.1)) (map (item_of ss) is))))
    (i.1.1 (and_parts (are_sound_labels ss x i.0.items) (is_sound_statement ss i.1.0) parts.0).1 v) (items ss x is parts.1 v) named

abbrev sound_out : List Signal → Statement-F Statement → Bool
sound_out ss f = sound_step ss (map-Statement Statement Bool (is_sound_statement ss) f)

abbrev writes_out : Statement-F Statement → List BitRange
writes_out f = statement_writes_step (map-Statement Statement (List BitRange) statement_writes f)

layer : (ss : List Signal) (y : Statement-F (With ss)) → sound_out ss (map-Statement (With ss) Statement (bare ss) y) ≡ true → (v : ℕ) → list_any (is_of v) (writes_out (map-Statement (With ss) Statement (bare ss) y)) ≡ true → IsVariable ss v
layer ss (Statement-F.Null n) h v named = absurd (false≢true named)
layer ss (Statement-F.Assign n t e) h v named = target_variable ss t e v h named
layer ss (Statement-F.Later n ticks t e) h v named = target_variable ss t e v h named
layer ss (Statement-F.Call n c) h v named = absurd (false≢true named)
layer ss (Statement-F.Finish n) h v named = absurd (false≢true named)
layer ss (Statement-F.Block all) h v named = rows ss all.items h v named
layer ss (Statement-F.Delay n ticks body) h v named = body.value.1 h v named
layer ss (Statement-F.Event n terms body) h v named = body.value.1 (and_parts (are_sound_terms ss terms.items) (is_sound_statement ss body.value.0) h).1 v named
layer ss (Statement-F.If n e a b) h v named =
    let last = and_parts (is_sound_operand ss e && is_sound_statement ss a.value.0) (is_sound_statement ss b.value.0) h in
    either ss v (statement_writes a.value.0) (statement_writes b.value.0) (a.value.1 (and_parts (is_sound_operand ss e) (is_sound_statement ss a.value.0) last.0).1 v) (b.value.1 last.1 v) named
layer ss (Statement-F.Case n kind x is) h v named = items ss x is.items (and_parts (is_sound_operand ss x) _ h).1 v named
layer ss (Statement-F.While n e body) h v named = body.value.1 (and_parts (is_sound_operand ss e) (is_sound_statement ss body.value.0) h).1 v named
layer ss (Statement-F.Repeat n signed e body) h v named = body.value.1 (and_parts (is_sound_operand ss e) (is_sound_statement ss body.value.0) h).1 v named
layer ss (Statement-F.Forever n body) h v named = body.value.1 h v named

rolled : (ss : List Signal) (y : Statement-F (With ss)) → Named ss (roll-Statement (map-Statement (With ss) Statement (bare ss) y))
rolled ss y h v named =
    let x : Statement-F Statement = map-Statement (With ss) Statement (bare ss) y in
    layer ss y (sym (fold-roll-Statement Bool (sound_step ss) x) ∙ h) v (ap (list_any (is_of v)) (sym (fold-roll-Statement (List BitRange) statement_writes_step x)) ∙ named)

-- what a sound statement writes are variables
statement_variable : (ss : List Signal) (s : Statement) → Named ss s
statement_variable ss s = ind-Statement (Named ss) (λ x y is. subst (λ z. Named ss (roll-Statement z)) is (rolled ss y)) s

-- no continuous assignment drives what a process writes
pub outputs_undriven : (d : Parts) → WellFormed d → (k v : ℕ) → puts_out d k v ≡ true → is_driven d.assigns v ≡ false
outputs_undriven d formed k v h = by_process (slice_get d.processes k) refl h
  where
    by_process : (o : Option Process) → slice_get d.processes k ≡ o → list_any (is_of v) (outputs_for o) ≡ true → is_driven d.assigns v ≡ false
    by_process None e g = absurd (false≢true g)
    by_process (Some p) e g =
        let parts = and_parts (is_sound_statement d.signals p.body && counts_from 0 (numbers p.body)) (is_body_of p.kind p.body) (all_slice (λ (p : Process). is_sound_process d.signals p ≡ true) d.processes k p e formed.processes) in
        variable_undriven d formed v (statement_variable d.signals p.body (and_parts (is_sound_statement d.signals p.body) (counts_from 0 (numbers p.body)) parts.0).0 v g)
