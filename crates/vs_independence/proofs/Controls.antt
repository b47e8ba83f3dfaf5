-- The controls of a text at its points, and that a statement without one has none.
use Rattle.std.proofs.Common.{◌≡◌, ℕ, ◌++◌, Bool, true, false, List, [], ◌∷◌, map, refl, sym, ◌∙◌, ap₂, subst, arith}
use Rattle.std.specs.List.{Contains, list_any}
use Rattle.std.specs.declared.vec.Vec.{Vec}
use Rattle.std.specs.declared.alloc.Global.{Global}
use Rattle.std.proofs.lemmas.Bool.{or_parts, true≢false}
use Rattle.vs_design.specs.declared.expression.Typed.{Typed}
use Rattle.vs_design.specs.declared.statement.EventTerm.{EventTerm}
use Rattle.vs_design.specs.declared.statement.Statement.{Statement}
use Rattle.vs_design.specs.declared.statement.Statement.TheOpen.{Statement-F}
use Rattle.vs_design.specs.declared.statement.Statement.TheFolds.{fold-roll-Statement, ind-Statement, map-Statement}
use Rattle.vs_design.specs.declared.statement.Statement.TheViews.{out-Statement, roll-Statement}
use Rattle.vs_design.specs.Statements.{event_terms, event_terms_step, has_control, has_control_step}
use Rattle.vs_design.specs.Uses.{joined}
use Rattle.vs_process.specs.Nexts.{past, statement_nexts, nexts}
use Rattle.vs_process.specs.Places.{perform, turns, Todo, flat}
use Rattle.vs_process.specs.Steps.{Next, on, after, wait, is_default}
use Rattle.vs_rules.specs.Controls.{controls_in, controls_step}
use Rattle.vs_rules.specs.Points.{Goes}
use Rattle.vs_rules.specs.Paths.{inner_step}
use Rattle.vs_rules.proofs.Texts.{Sub, sub_left, sub_right, Collects, todo_all, layer_of, layer_is, AllBy, one_of, all_append}

-- ---- two more things that texts have

terms_inner : (x : Statement-F (List EventTerm)) → Sub (inner_step x) (event_terms_step x)
terms_inner (Statement-F.Null n) = λ a c. c
terms_inner (Statement-F.Assign n t e) = λ a c. c
terms_inner (Statement-F.Later n ticks t e) = λ a c. c
terms_inner (Statement-F.Call n x) = λ a c. c
terms_inner (Statement-F.Finish n) = λ a c. c
terms_inner (Statement-F.Block all) = λ a c. c
terms_inner (Statement-F.Delay n ticks body) = λ a c. c
terms_inner (Statement-F.Event n terms body) = sub_right terms.items body.value
terms_inner (Statement-F.If n e x y) = λ a c. c
terms_inner (Statement-F.Case n kind x items) = λ a c. c
terms_inner (Statement-F.While n e body) = λ a c. c
terms_inner (Statement-F.Repeat n signed e body) = λ a c. c
terms_inner (Statement-F.Forever n body) = λ a c. c

pub terms_collect : Collects EventTerm event_terms_step
terms_collect = record { block = λ v. refl; inner = λ f. terms_inner (layer_of event_terms_step f) }

delays_inner : (x : Statement-F (List ℕ)) → Sub (inner_step x) (controls_step x)
delays_inner (Statement-F.Null n) = λ a c. c
delays_inner (Statement-F.Assign n t e) = λ a c. c
delays_inner (Statement-F.Later n ticks t e) = λ a c. c
delays_inner (Statement-F.Call n x) = λ a c. c
delays_inner (Statement-F.Finish n) = λ a c. c
delays_inner (Statement-F.Block all) = λ a c. c
delays_inner (Statement-F.Delay n ticks body) = sub_right (n ∷ []) body.value
delays_inner (Statement-F.Event n terms body) = λ a c. c
delays_inner (Statement-F.If n e x y) = λ a c. c
delays_inner (Statement-F.Case n kind x items) = λ a c. c
delays_inner (Statement-F.While n e body) = λ a c. c
delays_inner (Statement-F.Repeat n signed e body) = λ a c. c
delays_inner (Statement-F.Forever n body) = λ a c. c

pub delays_collect : Collects ℕ controls_step
delays_collect = record { block = λ v. refl; inner = λ f. delays_inner (layer_of controls_step f) }

-- ---- a way through a control goes through one of the text

abbrev pub NextIn : List ℕ → List EventTerm → Next → Type 0
NextIn delays terms (on l) = Unit {0}
NextIn delays terms (after number ticks l) = Contains delays number
NextIn delays terms (wait number ts l) = Sub ts terms

cases_in : (delays : List ℕ) (terms : List EventTerm) (items : List (Vec Typed Global × Statement)) (rest : Todo) → AllBy (NextIn delays terms) (map (λ (i : Vec Typed Global × Statement). on (flat i.1 ++ rest)) items)
cases_in delays terms [] rest = tt
cases_in delays terms (i ∷ items) rest = (tt, cases_in delays terms items rest)

past_in : (delays : List ℕ) (terms : List EventTerm) (b : Bool) (rest : Todo) → AllBy (NextIn delays terms) (past b rest)
past_in delays terms true rest = tt
past_in delays terms false rest = (tt, tt)

statement_in : (s : Statement) (f : Statement-F Statement) (rest : Todo) →
    AllBy (NextIn (controls_step (map-Statement Statement (List ℕ) controls_in f)) (event_terms_step (map-Statement Statement (List EventTerm) event_terms f))) (statement_nexts s f rest)
statement_in s (Statement-F.Null n) rest = (tt, tt)
statement_in s (Statement-F.Assign n t e) rest = (tt, tt)
statement_in s (Statement-F.Later n ticks t e) rest = (tt, tt)
statement_in s (Statement-F.Call n c) rest = (tt, tt)
statement_in s (Statement-F.Finish n) rest = (tt, tt)
statement_in s (Statement-F.Block all) rest = (tt, tt)
statement_in s (Statement-F.Delay n ticks body) rest = (sub_left (n ∷ []) (controls_in body.value) n (0, omega arith, refl), tt)
statement_in s (Statement-F.Event n terms body) rest = (sub_left terms.items (event_terms body.value), tt)
statement_in s (Statement-F.If n e a b) rest = (tt, (tt, tt))
statement_in s (Statement-F.Case n kind x items) rest =
    all_append (NextIn _ _) (map (λ (i : Vec Typed Global × Statement). on (flat i.1 ++ rest)) items.items) (past (list_any is_default items.items) rest)
    (cases_in _ _ items.items rest) (past_in _ _ (list_any is_default items.items) rest)
statement_in s (Statement-F.While n e body) rest = (tt, (tt, tt))
statement_in s (Statement-F.Repeat n signed e body) rest = (tt, (tt, tt))
statement_in s (Statement-F.Forever n body) rest = (tt, tt)

more_in : (delays more : List ℕ) (terms others : List EventTerm) (n : Next) → Sub delays more → Sub terms others → NextIn delays terms n → NextIn more others n
more_in delays more terms others (on l) hd ht h = tt
more_in delays more terms others (after number ticks l) hd ht h = hd number h
more_in delays more terms others (wait number ts l) hd ht h = λ t c. ht t (h t c)

-- a way from a point goes through a control that is still to be met
pub next_in : (k : Todo) (n : Next) → Goes k n → NextIn (todo_all controls_step k) (todo_all event_terms_step k) n
next_in [] n g = one_of (NextIn [] []) n (nexts []) (tt, tt) g
next_in (perform s ∷ rest) n g =
    more_in (controls_step (map-Statement Statement (List ℕ) controls_in (out-Statement s))) (controls_in s ++ todo_all controls_step rest)
    (event_terms_step (map-Statement Statement (List EventTerm) event_terms (out-Statement s))) (event_terms s ++ todo_all event_terms_step rest) n
    (λ a c. sub_left (controls_in s) (todo_all controls_step rest) a (subst (λ l. Contains l a) (sym (layer_is controls_step s)) c))
    (λ a c. sub_left (event_terms s) (todo_all event_terms_step rest) a (subst (λ l. Contains l a) (sym (layer_is event_terms_step s)) c))
    (one_of (NextIn _ _) n (statement_nexts s (out-Statement s) rest) (statement_in s (out-Statement s) rest) g)
next_in (turns m s ∷ rest) n g = one_of (NextIn _ _) n (nexts (turns m s ∷ rest)) (tt, (tt, tt)) g

-- ---- a statement without control

abbrev NoControls : Statement → Type 0
NoControls s = has_control s ≡ false → (controls_in s ≡ []) × (event_terms s ≡ [])

abbrev Known : Type 0
Known = (s : Statement) × NoControls s

abbrev bare : Known → Statement
bare p = p.0

none_both : {A : Type 0} (xs ys : List A) → xs ≡ [] → ys ≡ [] → xs ++ ys ≡ []
none_both xs ys hx hy = ap₂ (λ a b. a ++ b) hx hy

abbrev of_delays : List Known → List ℕ
of_delays ps = joined (map controls_in (map bare ps))

abbrev of_terms : List Known → List EventTerm
of_terms ps = joined (map event_terms (map bare ps))

row : (ps : List Known) → list_any (λ b. b) (map has_control (map bare ps)) ≡ false → (of_delays ps ≡ []) × (of_terms ps ≡ [])
row [] h = (refl, refl)
row (p ∷ ps) h =
    let parts = or_parts (has_control p.0) (list_any (λ b. b) (map has_control (map bare ps))) h in
    let one = p.1 parts.0 in
    let rest = row ps parts.1 in
    (none_both (controls_in p.0) (of_delays ps) one.0 rest.0, none_both (event_terms p.0) (of_terms ps) one.1 rest.1)

abbrev item : Vec Typed Global × Known → Vec Typed Global × Statement
item i = (i.0, bare i.1)

items_row : (ps : List (Vec Typed Global × Known)) →
    list_any (λ (i : Vec Typed Global × Bool). i.1) (map (λ (i : Vec Typed Global × Statement). (i.0, has_control i.1)) (map item ps)) ≡ false →
    (joined (map (λ (i : Vec Typed Global × List ℕ). i.1) (map (λ (i : Vec Typed Global × Statement). (i.0, controls_in i.1)) (map item ps))) ≡ [])
    × (joined (map (λ (i : Vec Typed Global × List EventTerm). i.1) (map (λ (i : Vec Typed Global × Statement). (i.0, event_terms i.1)) (map item ps))) ≡ [])
items_row [] h = (refl, refl)
items_row (p ∷ ps) h =
    let parts = or_parts (has_control p.1.0) (list_any (λ (i : Vec Typed Global × Bool). i.1) (map (λ (i : Vec Typed Global × Statement). (i.0, has_control i.1)) (map item ps))) h in
    let one = p.1.1 parts.0 in
    let rest = items_row ps parts.1 in
    (none_both (controls_in p.1.0) _ one.0 rest.0, none_both (event_terms p.1.0) _ one.1 rest.1)

layered : (y : Statement-F Known) → has_control_step (map-Statement Statement Bool has_control (map-Statement Known Statement bare y)) ≡ false →
    (controls_step (map-Statement Statement (List ℕ) controls_in (map-Statement Known Statement bare y)) ≡ [])
    × (event_terms_step (map-Statement Statement (List EventTerm) event_terms (map-Statement Known Statement bare y)) ≡ [])
layered (Statement-F.Null n) h = (refl, refl)
layered (Statement-F.Assign n t e) h = (refl, refl)
layered (Statement-F.Later n ticks t e) h = (refl, refl)
layered (Statement-F.Call n c) h = (refl, refl)
layered (Statement-F.Finish n) h = (refl, refl)
layered (Statement-F.Block all) h = row all.items h
layered (Statement-F.Delay n ticks body) h = absurd (true≢false h)
layered (Statement-F.Event n terms body) h = absurd (true≢false h)
layered (Statement-F.If n e a b) h =
    let parts = or_parts (has_control a.value.0) (has_control b.value.0) h in
    let one = a.value.1 parts.0 in
    let two = b.value.1 parts.1 in
    (none_both (controls_in a.value.0) (controls_in b.value.0) one.0 two.0, none_both (event_terms a.value.0) (event_terms b.value.0) one.1 two.1)
layered (Statement-F.Case n kind x items) h = items_row items.items h
layered (Statement-F.While n e body) h = body.value.1 h
layered (Statement-F.Repeat n signed e body) h = body.value.1 h
layered (Statement-F.Forever n body) h = body.value.1 h

layer : (y : Statement-F Known) → NoControls (roll-Statement (map-Statement Known Statement bare y))
layer y h =
    let x = map-Statement Known Statement bare y in
    let r = layered y (sym (fold-roll-Statement Bool has_control_step x) ∙ h) in
    (fold-roll-Statement (List ℕ) controls_step x ∙ r.0, fold-roll-Statement (List EventTerm) event_terms_step x ∙ r.1)

pub no_controls : (s : Statement) → NoControls s
no_controls s = ind-Statement NoControls (λ x y is. subst (λ z. NoControls (roll-Statement z)) is (layer y)) s
