-- Event controls name signals of the design.
use Rattle.std.proofs.Common.{◌≡◌, ℕ, ◌<◌, ◌&&◌, ◌++◌, Bool, true, Some, List, [], ◌∷◌, map, length, slice_get, sym, ◌∙◌, subst, inl, inr, nat_lt}
use Rattle.std.specs.List.{Contains, list_all}
use Rattle.std.specs.declared.vec.Vec.{Vec}
use Rattle.std.specs.declared.alloc.Global.{Global}
use Rattle.std.proofs.lemmas.Bool.{and_parts, ltb-true, eqb-true}
use Rattle.std.proofs.lemmas.List.Elements.{Contains-append_cases}
use Rattle.vs_design.specs.declared.design.Process.{Process}
use Rattle.vs_design.specs.declared.expression.Typed.{Typed}
use Rattle.vs_design.specs.declared.range.BitRange.{BitRange}
use Rattle.vs_design.specs.declared.signal.Signal.{Signal}
use Rattle.vs_design.specs.declared.statement.EventTerm.{EventTerm}
use Rattle.vs_design.specs.declared.statement.Statement.{Statement}
use Rattle.vs_design.specs.declared.statement.Statement.TheOpen.{Statement-F}
use Rattle.vs_design.specs.declared.statement.Statement.TheFolds.{fold-roll-Statement, ind-Statement, map-Statement}
use Rattle.vs_design.specs.declared.statement.Statement.TheViews.{roll-Statement}
use Rattle.vs_design.specs.Parts.{Parts}
use Rattle.vs_design.specs.Statements.{event_terms, event_terms_step, listens}
use Rattle.vs_design.specs.Uses.{is_of, joined}
use Rattle.vs_design.specs.WellFormed.{WellFormed, is_sound_operand, is_sound_process, is_sound_statement, sound_step, are_sound_terms, are_sound_labels, numbers, counts_from, is_body_of}
use Rattle.vs_independence.specs.vs_process.proofs.ProcessLists.{all_slice}
use Rattle.vs_design.specs.vs_logic4.proofs.Basics.{all_at, element_of as any_at, none_in, map_at}
use Rattle.vs_rules.specs.vs_process.proofs.ThreadLists.{place_of}
use Rattle.vs_design.specs.vs_logic4.proofs.Basics.{there as got_within}

-- all terms of a list are of signals of the design
abbrev AllWithin : List Signal → List EventTerm → Type 0
AllWithin ss ts = (t : EventTerm) → Contains ts t → t.range.signal < length ss

own_within : (ss : List Signal) (ts : List EventTerm) → are_sound_terms ss ts ≡ true → AllWithin ss ts
own_within ss ts h t c =
    let there = place_of ts t c in
    ltb-true t.range.signal (length ss) (all_at (λ (r : BitRange). nat_lt r.signal (length ss)) (map (λ (t : EventTerm). t.range) ts) there.0 t.range (map_at (λ (t : EventTerm). t.range) ts there.0 t there.1) h)

both_within : (ss : List Signal) (xs ys : List EventTerm) → AllWithin ss xs → AllWithin ss ys → AllWithin ss (xs ++ ys)
both_within ss xs ys hx hy t c = elim (Contains-append_cases xs ys t c) [
  | inl x ↦ hx t x
  | inr y ↦ hy t y
]

none_within : (ss : List Signal) → AllWithin ss []
none_within ss t c = absurd (none_in t c)

abbrev WaitsWithin : List Signal → Statement → Type 0
WaitsWithin ss s = is_sound_statement ss s ≡ true → AllWithin ss (event_terms s)

abbrev Known : List Signal → Type 0
Known ss = (s : Statement) × WaitsWithin ss s

abbrev bare : (ss : List Signal) → Known ss → Statement
bare ss p = p.0

row : (ss : List Signal) (ps : List (Known ss)) → list_all (λ b. b) (map (is_sound_statement ss) (map (bare ss) ps)) ≡ true → AllWithin ss (joined (map event_terms (map (bare ss) ps)))
row ss [] h = none_within ss
row ss (p ∷ ps) h =
    let parts = and_parts (is_sound_statement ss p.0) (list_all (λ b. b) (map (is_sound_statement ss) (map (bare ss) ps))) h in
    both_within ss (event_terms p.0) (joined (map event_terms (map (bare ss) ps))) (p.1 parts.0) (row ss ps parts.1)

items_row : (ss : List Signal) (x : Typed) (ps : List (Vec Typed Global × Known ss)) →
    list_all (λ (i : Vec Typed Global × Bool). are_sound_labels ss x i.0.items && i.1) (map (λ (i : Vec Typed Global × Statement). (i.0, is_sound_statement ss i.1)) (map (λ (i : Vec Typed Global × Known ss). (i.0, bare ss i.1)) ps)) ≡ true →
    AllWithin ss (joined (map (λ (i : Vec Typed Global × List EventTerm). i.1) (map (λ (i : Vec Typed Global × Statement). (i.0, event_terms i.1)) (map (λ (i : Vec Typed Global × Known ss). (i.0, bare ss i.1)) ps))))
items_row ss x [] h = none_within ss
items_row ss x (p ∷ ps) h =
    let rest = list_all (λ (i : Vec Typed Global × Bool). are_sound_labels ss x i.0.items && i.1) (map (λ (i : Vec Typed Global × Statement). (i.0, is_sound_statement ss i.1)) (map (λ (i : Vec Typed Global × Known ss). (i.0, bare ss i.1)) ps)) in
    let parts = and_parts (are_sound_labels ss x p.0.items && is_sound_statement ss p.1.0) rest h in
    both_within ss (event_terms p.1.0) _ (p.1.1 (and_parts (are_sound_labels ss x p.0.items) (is_sound_statement ss p.1.0) parts.0).1) (items_row ss x ps parts.1)

-- by the outermost layer
layered : (ss : List Signal) (y : Statement-F (Known ss)) → sound_step ss (map-Statement Statement Bool (is_sound_statement ss) (map-Statement (Known ss) Statement (bare ss) y)) ≡ true →
    AllWithin ss (event_terms_step (map-Statement Statement (List EventTerm) event_terms (map-Statement (Known ss) Statement (bare ss) y)))
layered ss (Statement-F.Null n) h = none_within ss
layered ss (Statement-F.Assign n t e) h = none_within ss
layered ss (Statement-F.Later n ticks t e) h = none_within ss
layered ss (Statement-F.Call n c) h = none_within ss
layered ss (Statement-F.Finish n) h = none_within ss
layered ss (Statement-F.Block all) h = row ss all.items h
layered ss (Statement-F.Delay n ticks body) h = body.value.1 h
layered ss (Statement-F.Event n terms body) h =
    let parts = and_parts (are_sound_terms ss terms.items) (is_sound_statement ss body.value.0) h in
    both_within ss terms.items (event_terms body.value.0) (own_within ss terms.items parts.0) (body.value.1 parts.1)
layered ss (Statement-F.If n e a b) h =
    let parts = and_parts (is_sound_operand ss e && is_sound_statement ss a.value.0) (is_sound_statement ss b.value.0) h in
    both_within ss (event_terms a.value.0) (event_terms b.value.0) (a.value.1 (and_parts (is_sound_operand ss e) (is_sound_statement ss a.value.0) parts.0).1) (b.value.1 parts.1)
layered ss (Statement-F.Case n kind x items) h = items_row ss x items.items (and_parts (is_sound_operand ss x) _ h).1
layered ss (Statement-F.While n e body) h = body.value.1 (and_parts (is_sound_operand ss e) (is_sound_statement ss body.value.0) h).1
layered ss (Statement-F.Repeat n signed e body) h = body.value.1 (and_parts (is_sound_operand ss e) (is_sound_statement ss body.value.0) h).1
layered ss (Statement-F.Forever n body) h = body.value.1 h

layer : (ss : List Signal) (y : Statement-F (Known ss)) → WaitsWithin ss (roll-Statement (map-Statement (Known ss) Statement (bare ss) y))
layer ss y h =
    let x = map-Statement (Known ss) Statement (bare ss) y in
    subst (AllWithin ss) (sym (fold-roll-Statement (List EventTerm) event_terms_step x))
    (layered ss y (sym (fold-roll-Statement Bool (sound_step ss) x) ∙ h))

sound_waits : (ss : List Signal) (s : Statement) → WaitsWithin ss s
sound_waits ss s = ind-Statement (WaitsWithin ss) (λ x y is. subst (λ z. WaitsWithin ss (roll-Statement z)) is (layer ss y)) s

-- what a process waits for is a signal
pub heard_signal : (d : Parts) → WellFormed d → (i v : ℕ) (p : Process) → slice_get d.processes i ≡ Some p → listens p.body v ≡ true → (s : Signal) × (slice_get d.signals v ≡ Some s)
heard_signal d formed i v p is h =
    let found = any_at (λ (t : EventTerm). is_of v t.range) (event_terms p.body) h in
    let sound = all_slice (λ (p : Process). is_sound_process d.signals p ≡ true) d.processes i p is formed.processes in
    let text = (and_parts (is_sound_statement d.signals p.body) (counts_from 0 (numbers p.body)) (and_parts (is_sound_statement d.signals p.body && counts_from 0 (numbers p.body)) (is_body_of p.kind p.body) sound).0).0 in
    let less = sound_waits d.signals p.body text found.1 (Rattle.vs_rules.specs.vs_process.proofs.ThreadLists.contains_at (event_terms p.body) found.0 found.1 found.2) in
    got_within d.signals v (subst (λ n. n < length d.signals) (eqb-true found.1.range.signal v found.3) less)
