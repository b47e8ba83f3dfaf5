-- Processes write variables.
use Rattle.std.proofs.Common.{◌≡◌, ℕ, ◌==◌, ◌&&◌, ◌++◌, Bool, true, Option, Some, None, List, [], ◌∷◌, map, slice_get, refl, sym, ◌∙◌, subst, inl, inr}
use Rattle.std.specs.Prelude.{sum}
use Rattle.std.specs.List.{Contains, list_all}
use Rattle.std.specs.declared.vec.Vec.{Vec}
use Rattle.std.specs.declared.alloc.Global.{Global}
use Rattle.std.proofs.lemmas.Bool.{and_parts}
use Rattle.std.proofs.lemmas.List.Elements.{Contains-append_cases}
use Rattle.vs_design.specs.declared.design.Process.{Process}
use Rattle.vs_design.specs.declared.expression.Typed.{Typed}
use Rattle.vs_design.specs.declared.range.BitRange.{BitRange}
use Rattle.vs_design.specs.declared.signal.Signal.{Signal}
use Rattle.vs_design.specs.declared.statement.Aim.{Aim}
use Rattle.vs_design.specs.declared.statement.Aim.TheVariants.{Fixed, Chosen}
use Rattle.vs_design.specs.declared.statement.Statement.{Statement}
use Rattle.vs_design.specs.declared.statement.Statement.TheOpen.{Statement-F}
use Rattle.vs_design.specs.declared.statement.Statement.TheFolds.{fold-roll-Statement, ind-Statement, map-Statement}
use Rattle.vs_design.specs.declared.statement.Statement.TheViews.{roll-Statement}
use Rattle.vs_design.specs.declared.statement.Target.{Target}
use Rattle.vs_design.specs.Parts.{Parts}
use Rattle.vs_design.specs.Uses.{aim_range, joined, writes}
use Rattle.vs_design.specs.WellFormed.{WellFormed, aim_width, is_of_variable, is_variable_aim, is_source, is_within, is_sound_target, is_sound_assignment, is_sound_operand, is_sound_process, is_sound_statement, sound_step, are_sound_terms, are_sound_labels, numbers, counts_from, is_body_of}
use Rattle.vs_independence.specs.vs_process.proofs.ProcessLists.{map_cases, all_slice}
use Rattle.vs_design.specs.vs_logic4.proofs.Basics.{all_at, none_in}
use Rattle.vs_independence.specs.vs_process.proofs.WellFormed.{IsVariable, variable_at as variable_signal}
use Rattle.vs_rules.specs.vs_process.specs.Writes.{statement_writes, statement_writes_step}
use Rattle.vs_rules.specs.vs_process.proofs.ThreadLists.{place_of}
use Rattle.vs_rules.specs.Claims.{HasKind}
use Rattle.vs_rules.specs.Paths.{Writes}
use Rattle.vs_rules.specs.vs_process.specs.BlockDrivers.{outputs_for as writes_for}

aim_variable : (ss : List Signal) (x : Aim) → is_variable_aim ss x ≡ true → IsVariable ss (aim_range x).signal
aim_variable ss (Fixed s) h = variable_signal (slice_get ss s.signal) h
aim_variable ss (Chosen s word low) h =
    let a = and_parts (is_of_variable (slice_get ss s.signal) && is_within ss word && is_within ss low && _) _ h in
    variable_signal (slice_get ss s.signal) (and_parts (is_of_variable (slice_get ss s.signal)) (is_within ss word) (and_parts (is_of_variable (slice_get ss s.signal) && is_within ss word) (is_within ss low) (and_parts (is_of_variable (slice_get ss s.signal) && is_within ss word && is_within ss low) _ a.0).0).0).0

-- all ranges of a list are of variables
abbrev AllVariables : List Signal → List BitRange → Type 0
AllVariables ss rs = (r : BitRange) → Contains rs r → IsVariable ss r.signal

target_variables : (ss : List Signal) (target : Target) → is_sound_target (is_variable_aim ss) target ≡ true → AllVariables ss (writes target)
target_variables ss target h r c =
    let there = place_of (writes target) r c in
    let aim = map_cases aim_range target.parts.items there.0 r there.1 in
    subst (λ (q : BitRange). IsVariable ss q.signal) aim.2
    (aim_variable ss aim.0 (all_at (is_variable_aim ss) target.parts.items there.0 aim.0 aim.1 (and_parts (list_all (is_variable_aim ss) target.parts.items) (sum (map aim_width target.parts.items) == target.width) h).0))

both_variables : (ss : List Signal) (xs ys : List BitRange) → AllVariables ss xs → AllVariables ss ys → AllVariables ss (xs ++ ys)
both_variables ss xs ys hx hy r c = elim (Contains-append_cases xs ys r c) [
  | inl x ↦ hx r x
  | inr y ↦ hy r y
]

abbrev WritesVariables : List Signal → Statement → Type 0
WritesVariables ss s = is_sound_statement ss s ≡ true → AllVariables ss (statement_writes s)

abbrev Known : List Signal → Type 0
Known ss = (s : Statement) × WritesVariables ss s

abbrev bare : (ss : List Signal) → Known ss → Statement
bare ss p = p.0

none_written : (ss : List Signal) → AllVariables ss []
none_written ss r c = absurd (none_in r c)

row : (ss : List Signal) (ps : List (Known ss)) → list_all (λ b. b) (map (is_sound_statement ss) (map (bare ss) ps)) ≡ true → AllVariables ss (joined (map statement_writes (map (bare ss) ps)))
row ss [] h = none_written ss
row ss (p ∷ ps) h =
    let parts = and_parts (is_sound_statement ss p.0) (list_all (λ b. b) (map (is_sound_statement ss) (map (bare ss) ps))) h in
    both_variables ss (statement_writes p.0) (joined (map statement_writes (map (bare ss) ps))) (p.1 parts.0) (row ss ps parts.1)

items_row : (ss : List Signal) (x : Typed) (ps : List (Vec Typed Global × Known ss)) →
    list_all (λ (i : Vec Typed Global × Bool). are_sound_labels ss x i.0.items && i.1) (map (λ (i : Vec Typed Global × Statement). (i.0, is_sound_statement ss i.1)) (map (λ (i : Vec Typed Global × Known ss). (i.0, bare ss i.1)) ps)) ≡ true →
    AllVariables ss (joined (map (λ (i : Vec Typed Global × List BitRange). i.1) (map (λ (i : Vec Typed Global × Statement). (i.0, statement_writes i.1)) (map (λ (i : Vec Typed Global × Known ss). (i.0, bare ss i.1)) ps))))
items_row ss x [] h = none_written ss
items_row ss x (p ∷ ps) h =
    let rest = list_all (λ (i : Vec Typed Global × Bool). are_sound_labels ss x i.0.items && i.1) (map (λ (i : Vec Typed Global × Statement). (i.0, is_sound_statement ss i.1)) (map (λ (i : Vec Typed Global × Known ss). (i.0, bare ss i.1)) ps)) in
    let parts = and_parts (are_sound_labels ss x p.0.items && is_sound_statement ss p.1.0) rest h in
    both_variables ss (statement_writes p.1.0) _ (p.1.1 (and_parts (are_sound_labels ss x p.0.items) (is_sound_statement ss p.1.0) parts.0).1) (items_row ss x ps parts.1)

assignment_variables : (ss : List Signal) (t : Target) (e : Typed) → is_sound_assignment ss t e ≡ true → AllVariables ss (writes t)
assignment_variables ss t e h = target_variables ss t (and_parts (is_sound_target (is_variable_aim ss) t) (is_source ss t e) h).0

-- by the outermost layer
layered : (ss : List Signal) (y : Statement-F (Known ss)) → sound_step ss (map-Statement Statement Bool (is_sound_statement ss) (map-Statement (Known ss) Statement (bare ss) y)) ≡ true →
    AllVariables ss (statement_writes_step (map-Statement Statement (List BitRange) statement_writes (map-Statement (Known ss) Statement (bare ss) y)))
layered ss (Statement-F.Null n) h = none_written ss
layered ss (Statement-F.Assign n t e) h = assignment_variables ss t e h
layered ss (Statement-F.Later n ticks t e) h = assignment_variables ss t e h
layered ss (Statement-F.Call n c) h = none_written ss
layered ss (Statement-F.Finish n) h = none_written ss
layered ss (Statement-F.Block all) h = row ss all.items h
layered ss (Statement-F.Delay n ticks body) h = body.value.1 h
layered ss (Statement-F.Event n terms body) h = body.value.1 (and_parts (are_sound_terms ss terms.items) (is_sound_statement ss body.value.0) h).1
layered ss (Statement-F.If n e a b) h =
    let parts = and_parts (is_sound_operand ss e && is_sound_statement ss a.value.0) (is_sound_statement ss b.value.0) h in
    both_variables ss (statement_writes a.value.0) (statement_writes b.value.0) (a.value.1 (and_parts (is_sound_operand ss e) (is_sound_statement ss a.value.0) parts.0).1) (b.value.1 parts.1)
layered ss (Statement-F.Case n kind x items) h = items_row ss x items.items (and_parts (is_sound_operand ss x) _ h).1
layered ss (Statement-F.While n e body) h = body.value.1 (and_parts (is_sound_operand ss e) (is_sound_statement ss body.value.0) h).1
layered ss (Statement-F.Repeat n signed e body) h = body.value.1 (and_parts (is_sound_operand ss e) (is_sound_statement ss body.value.0) h).1
layered ss (Statement-F.Forever n body) h = body.value.1 h

layer : (ss : List Signal) (y : Statement-F (Known ss)) → WritesVariables ss (roll-Statement (map-Statement (Known ss) Statement (bare ss) y))
layer ss y h =
    let x = map-Statement (Known ss) Statement (bare ss) y in
    subst (AllVariables ss) (sym (fold-roll-Statement (List BitRange) statement_writes_step x))
    (layered ss y (sym (fold-roll-Statement Bool (sound_step ss) x) ∙ h))

-- a sound statement writes variables
pub sound_writes : (ss : List Signal) (s : Statement) → WritesVariables ss s
sound_writes ss s = ind-Statement (WritesVariables ss) (λ x y is. subst (λ z. WritesVariables ss (roll-Statement z)) is (layer ss y)) s

-- so a process writes variables
pub writes_variable : (d : Parts) → WellFormed d → (i v : ℕ) → Writes d i v → HasKind true d v
writes_variable d formed i v w = by_process (slice_get d.processes i) refl (w.listed.0)
  where
    by_process : (o : Option Process) → slice_get d.processes i ≡ o → Contains (writes_for o) w.range → HasKind true d v
    by_process None is c = absurd (none_in w.range c)
    by_process (Some p) is c =
        let sound = all_slice (λ (p : Process). is_sound_process d.signals p ≡ true) d.processes i p is formed.processes in
        subst (HasKind true d) w.of
        (sound_writes d.signals p.body (and_parts (is_sound_statement d.signals p.body) (counts_from 0 (numbers p.body)) (and_parts (is_sound_statement d.signals p.body && counts_from 0 (numbers p.body)) (is_body_of p.kind p.body) sound).0).0 w.range c)
