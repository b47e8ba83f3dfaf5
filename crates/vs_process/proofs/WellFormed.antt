-- What a well formed design says of its continuous assignments and of what its processes write.
use Rattle.std.proofs.Common.{◌≡◌, ℕ, zero, suc, ◌+◌, ◌==◌, ◌&&◌, ◌||◌, not, Bool, true, false, Option, Some, None, List, [], ◌∷◌, map, slice_get, sum, refl, sym, ◌∙◌, ap, subst, inl, inr, eqb-true}
use Rattle.std.specs.Prelude.{is_some, ◌++◌, find}
use Rattle.std.specs.declared.vec.Vec.{Vec}
use Rattle.std.specs.declared.alloc.Global.{Global}
use Rattle.std.specs.List.{list_any, list_all}
use Rattle.std.proofs.lemmas.Bool.{and_parts, and_from, cases_Bool, cond_both, or_cases, true≢false, false≢true, not-true}
use Rattle.std.proofs.lemmas.List.Folds.{list_all-append, list_all-map, list_any-append}
use Rattle.vs_design.specs.vs_logic4.specs.declared.digit.Digit.{Digit}
use Rattle.vs_design.specs.vs_logic4.specs.declared.digit.Digit.TheVariants.{Zero, One, X, Z}
use Rattle.vs_design.specs.vs_logic4.specs.declared.case.CaseKind.{CaseKind}
use Rattle.vs_design.specs.vs_logic4.specs.Comparisons.{truth}
use Rattle.vs_design.specs.declared.signal.Signal.{Signal}
use Rattle.vs_design.specs.declared.design.Assign.{Assign}
use Rattle.vs_design.specs.declared.design.Process.{Process}
use Rattle.vs_design.specs.declared.expression.Typed.{Typed}
use Rattle.vs_design.specs.declared.statement.Aim.{Aim}
use Rattle.vs_design.specs.declared.statement.Aim.TheVariants.{Fixed, Chosen}
use Rattle.vs_design.specs.declared.statement.Target.{Target}
use Rattle.vs_design.specs.declared.statement.Statement.{Statement}
use Rattle.vs_design.specs.declared.statement.Statement.TheVariants.{rolls-Block}
use Rattle.vs_design.specs.declared.statement.Statement.TheViews.{roll-Statement, out-Statement}
use Rattle.vs_design.specs.declared.statement.Statement.TheOpen.{Statement-F}
use Rattle.vs_design.specs.declared.statement.Statement.TheFolds.{fold-roll-Statement, fold_out-Statement, ind-Statement, map-Statement}
use Rattle.vs_design.specs.Kinds.{is_variable}
use Rattle.vs_design.specs.Parts.{Parts}
use Rattle.vs_design.specs.Stores.{Store, is_driven}
use Rattle.vs_design.specs.Uses.{aim_range, covers, is_of, writes, writes_signal}
use Rattle.vs_design.specs.WellFormed.{WellFormed, aim_width, is_of_variable, is_of_net, is_variable_aim, is_net_aim, is_sound_target, is_within, share_a_bit, size_of, is_source, is_sound_assignment, is_sound_assign, sound_step, is_sound_statement, is_sound_process, is_sound_operand, are_sound_labels, are_sound_terms, counts_from, numbers, is_body_of}
use Rattle.vs_design.specs.Writes.{Write, names}
use Rattle.vs_process.specs.declared.gait.Gait.{Gait}
use Rattle.vs_process.specs.declared.gait.Gait.TheVariants.{Fresh, Woken}
use Rattle.vs_process.specs.Places.{Item, perform, turns, Todo, Place, going, sleeping, inactive, waiting, ended, active_at, stepped_gait, start_place, flat}
use Rattle.vs_process.specs.Drafts.{flat_all}
use Rattle.vs_eval.specs.Waking.{wake_any}
use Rattle.vs_process.specs.Steps.{Next, on, after, wait, Out, step, statement_step, assignment, branch, item_matches, is_default, first_of, flat_item, taken, turns_for, repeated}
use Rattle.vs_process.specs.States.{Update, activated, roused, place_after_step, paused, updates_after, wakened, woken_at}
use Rattle.vs_process.specs.Places.{todo_of}
use Rattle.vs_process.specs.Executions.{places_at}
use Rattle.vs_eval.specs.Values.{target_value, value_of}
use Rattle.vs_process.proofs.Assigns.{DrivesApart}
use Rattle.vs_process.proofs.ProcessLists.{all_slice, list_all_like, map_cases}
use Rattle.vs_design.specs.vs_logic4.proofs.Basics.{all_at, element_of as any_at}
use Rattle.vs_process.proofs.Ranges.{assigned_names, distinct_flat, is_fixed, shares_covered}
use Rattle.vs_process.proofs.Shapes.{flat-Block}

-- ---- continuous assignments

-- what an assignment of the design drives are nets
net_places : (d : Parts) → WellFormed d → (j : ℕ) (a : Assign) → slice_get d.assigns j ≡ Some a → list_all (is_net_aim d.signals) a.target.parts.items ≡ true
net_places d formed j a is =
    let sound = all_slice (λ (a : Assign). is_sound_assign d.signals a ≡ true) d.assigns j a is formed.assigns in
    let target = (and_parts (is_sound_target (is_net_aim d.signals) a.target) (is_source d.signals a.target a.source) sound).0 in
    (and_parts (list_all (is_net_aim d.signals) a.target.parts.items) (sum (map aim_width a.target.parts.items) == a.target.width) target).0

net_fixed : (ss : List Signal) (x : Aim) → is_net_aim ss x ≡ true → is_fixed x ≡ true
net_fixed ss (Fixed s) h = refl
net_fixed ss (Chosen s word low) h = absurd (false≢true h)

-- assignments drive constant places, and no bit twice
pub drives_apart : (d : Parts) → WellFormed d → DrivesApart d
drives_apart d formed = record {
  fixed = λ j a is. list_all_like (is_net_aim d.signals) is_fixed a.target.parts.items (net_fixed d.signals) (net_places d formed j a is);
  apart = λ i j a c v w k at_i at_j ne within ha hc.
      distinct_flat (share_a_bit d.signals) (covers v w k) (λ r q. shares_covered d.signals v w k r q within) (λ (a : Assign). writes a.target) d.assigns i j a c formed.drivers at_i at_j ne ha hc;
}

net_at : (o : Option Signal) → is_of_net o ≡ true → (s : Signal) × (o ≡ Some s) × (is_variable s.kind ≡ false)
net_at None h = absurd (false≢true h)
net_at (Some s) h = (s, refl, not-true (is_variable s.kind) (and_parts (not (is_variable s.kind)) (s.count == 1) h).0)

net_place : (ss : List Signal) (x : Aim) (v : ℕ) → is_net_aim ss x ≡ true → is_of v (aim_range x) ≡ true → (s : Signal) × (slice_get ss v ≡ Some s) × (is_variable s.kind ≡ false)
net_place ss (Fixed s) v h at_v =
    let found = net_at (slice_get ss s.signal) (and_parts (is_of_net (slice_get ss s.signal)) (s.word == 0) h).0 in
    (found.0, ap (slice_get ss) (sym (eqb-true s.signal v at_v)) ∙ found.1, found.2)
net_place ss (Chosen s word low) v h at_v = absurd (false≢true h)

-- a signal that a target names is that of one of its places
place_named : (t : Target) (v : ℕ) → writes_signal t v ≡ true → (n : ℕ) × (x : Aim) × (slice_get t.parts.items n ≡ Some x) × (is_of v (aim_range x) ≡ true)
place_named t v h =
    let found = any_at (is_of v) (writes t) h in
    let aim = map_cases aim_range t.parts.items found.0 found.1 found.2 in
    (found.0, aim.0, aim.1, ap (is_of v) aim.2 ∙ found.3)

-- what a continuous assignment drives
pub net_of : (d : Parts) → WellFormed d → (j : ℕ) (a : Assign) (v : ℕ) → slice_get d.assigns j ≡ Some a → writes_signal a.target v ≡ true →
    (s : Signal) × (slice_get d.signals v ≡ Some s) × (is_variable s.kind ≡ false)
net_of d formed j a v is h =
    let place = place_named a.target v h in
    net_place d.signals place.1 v (all_at (is_net_aim d.signals) a.target.parts.items place.0 place.1 place.2 (net_places d formed j a is)) place.3

pub variable_at : (o : Option Signal) → is_of_variable o ≡ true → (s : Signal) × (o ≡ Some s) × (is_variable s.kind ≡ true)
variable_at None h = absurd (false≢true h)
variable_at (Some s) h = (s, refl, h)

-- the signal is a variable of the design
abbrev pub IsVariable : List Signal → ℕ → Type 0
IsVariable ss v = (s : Signal) × (slice_get ss v ≡ Some s) × (is_variable s.kind ≡ true)

pub variable_place : (ss : List Signal) (x : Aim) (v : ℕ) → is_variable_aim ss x ≡ true → is_of v (aim_range x) ≡ true → IsVariable ss v
variable_place ss (Fixed s) v h at_v =
    let found = variable_at (slice_get ss s.signal) h in
    (found.0, ap (slice_get ss) (sym (eqb-true s.signal v at_v)) ∙ found.1, found.2)
variable_place ss (Chosen s word low) v h at_v =
    let four = (and_parts (is_of_variable (slice_get ss s.signal) && is_within ss word && is_within ss low && is_some (size_of word)) (is_some (size_of low)) h).0 in
    let three = (and_parts (is_of_variable (slice_get ss s.signal) && is_within ss word && is_within ss low) (is_some (size_of word)) four).0 in
    let two = (and_parts (is_of_variable (slice_get ss s.signal) && is_within ss word) (is_within ss low) three).0 in
    let found = variable_at (slice_get ss s.signal) (and_parts (is_of_variable (slice_get ss s.signal)) (is_within ss word) two).0 in
    (found.0, ap (slice_get ss) (sym (eqb-true s.signal v at_v)) ∙ found.1, found.2)

-- ---- statements

abbrev pub is_sound_item : List Signal → Item → Bool
is_sound_item ss (perform s) = is_sound_statement ss s
is_sound_item ss (turns n s) = is_sound_statement ss s

abbrev pub is_sound_todo : List Signal → Todo → Bool
is_sound_todo ss todo = list_all (is_sound_item ss) todo

abbrev pub is_sound_place : List Signal → Place → Bool
is_sound_place ss place = is_sound_todo ss (todo_of place)

-- the statements of a block
abbrev block_items : Statement-F Statement → Option (List Statement)
block_items (Statement-F.Block v) = Some v.items
block_items _ = None

flat-leaf : (x : Statement-F Statement) → block_items x ≡ None → flat (roll-Statement x) ≡ perform (roll-Statement x) ∷ []
unfolding roll-Statement denote.Hole.Carrier.roll
flat-leaf (Statement-F.Block v) h = cc
flat-leaf _ h = refl

flat-rolled_block : (x : Statement-F Statement) (xs : List Statement) → block_items x ≡ Some xs → flat (roll-Statement x) ≡ flat_all xs
flat-rolled_block (Statement-F.Null n) xs h = cc
flat-rolled_block (Statement-F.Assign n t e) xs h = cc
flat-rolled_block (Statement-F.Later n ticks t e) xs h = cc
flat-rolled_block (Statement-F.Call n c) xs h = cc
flat-rolled_block (Statement-F.Finish n) xs h = cc
flat-rolled_block (Statement-F.Block v) xs h = let e : v.items ≡ xs = cc in ap flat (rolls-Block v) ∙ flat-Block v ∙ ap flat_all e
flat-rolled_block (Statement-F.Delay n ticks body) xs h = cc
flat-rolled_block (Statement-F.Event n terms body) xs h = cc
flat-rolled_block (Statement-F.If n e a b) xs h = cc
flat-rolled_block (Statement-F.Case n kind e items) xs h = cc
flat-rolled_block (Statement-F.While n e body) xs h = cc
flat-rolled_block (Statement-F.Repeat n signed e body) xs h = cc
flat-rolled_block (Statement-F.Forever n body) xs h = cc

abbrev FlatSound : List Signal → Statement → Type 0
FlatSound ss s = is_sound_statement ss s ≡ true → is_sound_todo ss (flat s) ≡ true

abbrev WithSound : List Signal → Type 0
WithSound ss = (s : Statement) × FlatSound ss s

sound_leaf : (ss : List Signal) (x : Statement-F Statement) → block_items x ≡ None → FlatSound ss (roll-Statement x)
sound_leaf ss x none h = ap (is_sound_todo ss) (flat-leaf x none) ∙ and_from (is_sound_statement ss (roll-Statement x)) true h refl

sound_rows : (ss : List Signal) (ps : List (WithSound ss)) → list_all (λ b. b) (map (is_sound_statement ss) (map (λ (p : WithSound ss). p.0) ps)) ≡ true →
    is_sound_todo ss (flat_all (map (λ (p : WithSound ss). p.0) ps)) ≡ true
sound_rows ss [] h = refl
sound_rows ss (p ∷ ps) h =
    let parts = and_parts (is_sound_statement ss p.0) (list_all (λ b. b) (map (is_sound_statement ss) (map (λ (p : WithSound ss). p.0) ps))) h in
    list_all-append (is_sound_item ss) (flat p.0) (flat_all (map (λ (p : WithSound ss). p.0) ps))
    ∙ and_from (is_sound_todo ss (flat p.0)) (is_sound_todo ss (flat_all (map (λ (p : WithSound ss). p.0) ps))) (p.1 parts.0) (sound_rows ss ps parts.1)

sound_layer : (ss : List Signal) (y : Statement-F (WithSound ss)) → FlatSound ss (roll-Statement (map-Statement (WithSound ss) Statement (λ p. p.0) y))
sound_layer ss (Statement-F.Null n) = sound_leaf ss (Statement-F.Null n) refl
sound_layer ss (Statement-F.Assign n t e) = sound_leaf ss (Statement-F.Assign n t e) refl
sound_layer ss (Statement-F.Later n ticks t e) = sound_leaf ss (Statement-F.Later n ticks t e) refl
sound_layer ss (Statement-F.Call n c) = sound_leaf ss (Statement-F.Call n c) refl
sound_layer ss (Statement-F.Finish n) = sound_leaf ss (Statement-F.Finish n) refl
sound_layer ss (Statement-F.Delay n ticks body) = sound_leaf ss (map-Statement (WithSound ss) Statement (λ p. p.0) (Statement-F.Delay n ticks body)) refl
sound_layer ss (Statement-F.Event n terms body) = sound_leaf ss (map-Statement (WithSound ss) Statement (λ p. p.0) (Statement-F.Event n terms body)) refl
sound_layer ss (Statement-F.If n e a b) = sound_leaf ss (map-Statement (WithSound ss) Statement (λ p. p.0) (Statement-F.If n e a b)) refl
sound_layer ss (Statement-F.Case n kind e items) = sound_leaf ss (map-Statement (WithSound ss) Statement (λ p. p.0) (Statement-F.Case n kind e items)) refl
sound_layer ss (Statement-F.While n e body) = sound_leaf ss (map-Statement (WithSound ss) Statement (λ p. p.0) (Statement-F.While n e body)) refl
sound_layer ss (Statement-F.Repeat n signed e body) = sound_leaf ss (map-Statement (WithSound ss) Statement (λ p. p.0) (Statement-F.Repeat n signed e body)) refl
sound_layer ss (Statement-F.Forever n body) = sound_leaf ss (map-Statement (WithSound ss) Statement (λ p. p.0) (Statement-F.Forever n body)) refl
sound_layer ss (Statement-F.Block all) = λ h.
    let x : Statement-F Statement = map-Statement (WithSound ss) Statement (λ p. p.0) (Statement-F.Block all) in
    ap (is_sound_todo ss) (flat-rolled_block x (map (λ (p : WithSound ss). p.0) all.items) refl)
    ∙ sound_rows ss all.items (sym (fold-roll-Statement Bool (sound_step ss) x) ∙ h)

-- what a sound statement has to do is sound
pub sound_flat : (ss : List Signal) (s : Statement) → is_sound_statement ss s ≡ true → is_sound_todo ss (flat s) ≡ true
sound_flat ss s = ind-Statement (FlatSound ss) (λ x y is. subst (λ z. FlatSound ss (roll-Statement z)) is (sound_layer ss y)) s

pub next_todo : Next → Todo
next_todo (on rest) = rest
next_todo (after n ticks rest) = rest
next_todo (wait n terms rest) = rest

abbrev pub sound_out : List Signal → Statement-F Statement → Bool
sound_out ss f = sound_step ss (map-Statement Statement Bool (is_sound_statement ss) f)

-- one of the two that a condition chooses
pub branch_each : {A : Type 0} (P : A → Type 0) (d : Digit) (a b : A) → P a → P b → P (branch d a b)
branch_each P Zero a b x y = y
branch_each P One a b x y = x
branch_each P X a b x y = y
branch_each P Z a b x y = y

find_each : {A : Type 0} (P : Option A → Type 0) (p : A → Bool) (xs : List A) → P None → ((i : ℕ) (x : A) → slice_get xs i ≡ Some x → P (Some x)) → P (find p xs)
find_each P p [] none some = none
find_each P p (x ∷ xs) none some = cond_both (p x) (Some x) (find p xs) P (λ e. some 0 x refl) (λ e. find_each P p xs none (λ i. some (suc i)))

first_each : {A : Type 0} (P : Option A → Type 0) (a b : Option A) → P a → P b → P (first_of a b)
first_each P None b x y = y
first_each P (Some a) b x y = x

-- the item that a `case` takes is one of its items
pub taken_each : (P : Option (Vec Typed Global × Statement) → Type 0) (kind : CaseKind) (digits : List Digit) (store : Store) (time : ℕ) (items : List (Vec Typed Global × Statement)) →
    P None → ((i : ℕ) (x : Vec Typed Global × Statement) → slice_get items i ≡ Some x → P (Some x)) → P (taken kind digits store time items)
taken_each P kind digits store time items none some =
    first_each P (find (item_matches kind digits store time) items) (find is_default items) (find_each P (item_matches kind digits store time) items none some) (find_each P is_default items none some)

sound_before : (ss : List Signal) (xs ys : Todo) → is_sound_todo ss xs ≡ true → is_sound_todo ss ys ≡ true → is_sound_todo ss (xs ++ ys) ≡ true
sound_before ss xs ys x y = list_all-append (is_sound_item ss) xs ys ∙ and_from (is_sound_todo ss xs) (is_sound_todo ss ys) x y

sound_repeated : (ss : List Signal) (n : ℕ) (s : Statement) (rest : Todo) → is_sound_statement ss s ≡ true → is_sound_todo ss rest ≡ true → is_sound_todo ss (repeated n s rest) ≡ true
sound_repeated ss zero s rest h r = r
sound_repeated ss (suc n) s rest h r = sound_before ss (flat s) (turns n s ∷ rest) (sound_flat ss s h) (and_from (is_sound_statement ss s) (is_sound_todo ss rest) h r)

-- the statements of the items of a sound `case`
sound_items : (ss : List Signal) (x : Typed) (items : List (Vec Typed Global × Statement)) →
    list_all (λ (i : Vec Typed Global × Bool). are_sound_labels ss x i.0.items && i.1) (map (λ (i : Vec Typed Global × Statement). (i.0, is_sound_statement ss i.1)) items) ≡ true →
    (i : ℕ) (z : Vec Typed Global × Statement) → slice_get items i ≡ Some z → is_sound_statement ss z.1 ≡ true
sound_items ss x items h i z is =
    (and_parts (are_sound_labels ss x z.0.items) (is_sound_statement ss z.1)
    (all_at (λ (i : Vec Typed Global × Statement). are_sound_labels ss x i.0.items && is_sound_statement ss i.1) items i z is
    (sym (list_all-map (λ (i : Vec Typed Global × Bool). are_sound_labels ss x i.0.items && i.1) (λ (i : Vec Typed Global × Statement). (i.0, is_sound_statement ss i.1)) items) ∙ h))).1

sound_statement_next : (ss : List Signal) (s : Statement) (f : Statement-F Statement) (rest : Todo) (store : Store) (time : ℕ) →
    is_sound_statement ss s ≡ true → sound_out ss f ≡ true → is_sound_todo ss rest ≡ true → is_sound_todo ss (next_todo (statement_step s f rest store time).next) ≡ true
unfolding next_todo
sound_statement_next ss s (Statement-F.Null n) rest store time whole h r = r
sound_statement_next ss s (Statement-F.Assign n t e) rest store time whole h r = r
sound_statement_next ss s (Statement-F.Later n ticks t e) rest store time whole h r = r
sound_statement_next ss s (Statement-F.Call n c) rest store time whole h r = r
sound_statement_next ss s (Statement-F.Finish n) rest store time whole h r = r
sound_statement_next ss s (Statement-F.Block all) rest store time whole h r = sound_before ss (flat s) rest (sound_flat ss s whole) r
sound_statement_next ss s (Statement-F.Delay n ticks body) rest store time whole h r = sound_before ss (flat body.value) rest (sound_flat ss body.value h) r
sound_statement_next ss s (Statement-F.Event n terms body) rest store time whole h r =
    sound_before ss (flat body.value) rest (sound_flat ss body.value (and_parts (are_sound_terms ss terms.items) (is_sound_statement ss body.value) h).1) r
sound_statement_next ss s (Statement-F.If n e a b) rest store time whole h r =
    let parts = and_parts (is_sound_operand ss e && is_sound_statement ss a.value) (is_sound_statement ss b.value) h in
    let first = (and_parts (is_sound_operand ss e) (is_sound_statement ss a.value) parts.0).1 in
    branch_each (λ (t : Todo). is_sound_todo ss (t ++ rest) ≡ true) (truth (value_of e store time)) (flat a.value) (flat b.value)
    (sound_before ss (flat a.value) rest (sound_flat ss a.value first) r) (sound_before ss (flat b.value) rest (sound_flat ss b.value parts.1) r)
sound_statement_next ss s (Statement-F.Case n kind x items) rest store time whole h r =
    let parts = and_parts (is_sound_operand ss x) _ h in
    taken_each (λ o. is_sound_todo ss (flat_item o ++ rest) ≡ true) kind (value_of x store time) store time items.items r
    (λ i z is. sound_before ss (flat z.1) rest (sound_flat ss z.1 (sound_items ss x items.items parts.1 i z is)) r)
sound_statement_next ss s (Statement-F.While n e body) rest store time whole h r =
    let inner = (and_parts (is_sound_operand ss e) (is_sound_statement ss body.value) h).1 in
    branch_each (λ (t : Todo). is_sound_todo ss t ≡ true) (truth (value_of e store time)) (flat body.value ++ perform s ∷ rest) rest
    (sound_before ss (flat body.value) (perform s ∷ rest) (sound_flat ss body.value inner) (and_from (is_sound_statement ss s) (is_sound_todo ss rest) whole r)) r
sound_statement_next ss s (Statement-F.Repeat n signed e body) rest store time whole h r =
    let inner = (and_parts (is_sound_operand ss e) (is_sound_statement ss body.value) h).1 in
    sound_repeated ss (turns_for signed (value_of e store time)) body.value rest inner r
sound_statement_next ss s (Statement-F.Forever n body) rest store time whole h r =
    sound_before ss (flat body.value) (perform s ∷ rest) (sound_flat ss body.value h) (and_from (is_sound_statement ss s) (is_sound_todo ss rest) whole r)

pub opened : (ss : List Signal) (s : Statement) → is_sound_statement ss s ≡ true → sound_out ss (out-Statement s) ≡ true
opened ss s h = sym (fold_out-Statement Bool (sound_step ss) s) ∙ h

-- so is what it has to do behind a step
pub sound_next : (ss : List Signal) (todo : Todo) (store : Store) (time : ℕ) → is_sound_todo ss todo ≡ true → is_sound_todo ss (next_todo (step todo store time).next) ≡ true
unfolding next_todo
sound_next ss [] store time h = refl
sound_next ss (perform s ∷ rest) store time h =
    let parts = and_parts (is_sound_statement ss s) (is_sound_todo ss rest) h in
    sound_statement_next ss s (out-Statement s) rest store time parts.0 (opened ss s parts.0) parts.1
sound_next ss (turns n s ∷ rest) store time h =
    let parts = and_parts (is_sound_statement ss s) (is_sound_todo ss rest) h in
    sound_repeated ss n s rest parts.0 parts.1

-- the writes and updates of a step name variables alone
pub record NamesVariables (ss : List Signal) (out : Out) : Type 0 where
  pub write : (w : Write) → out.write ≡ Some w → (v : ℕ) → names w v ≡ true → IsVariable ss v
  pub update : (u : ℕ × Write) → out.update ≡ Some u → (v : ℕ) → names u.1 v ≡ true → IsVariable ss v

assigned_variable : (ss : List Signal) (t : Target) (e : Typed) (store : Store) (time v : ℕ) → is_sound_assignment ss t e ≡ true → names (assignment t e store time) v ≡ true → IsVariable ss v
assigned_variable ss t e store time v h named =
    let target = (and_parts (is_sound_target (is_variable_aim ss) t) (is_source ss t e) h).0 in
    let places = (and_parts (list_all (is_variable_aim ss) t.parts.items) (sum (map aim_width t.parts.items) == t.width) target).0 in
    let place = place_named t v (sym (assigned_names t (target_value t e store time) store time v) ∙ named) in
    variable_place ss place.1 v (all_at (is_variable_aim ss) t.parts.items place.0 place.1 place.2 places) place.3

names_none : (ss : List Signal) (out : Out) → out.write ≡ None → out.update ≡ None → NamesVariables ss out
names_none ss out w u = record { write = λ x h. let e : None ≡ Some x = sym w ∙ h in cc; update = λ x h. let e : None ≡ Some x = sym u ∙ h in cc }

statement_names : (ss : List Signal) (s : Statement) (f : Statement-F Statement) (rest : Todo) (store : Store) (time : ℕ) → sound_out ss f ≡ true → NamesVariables ss (statement_step s f rest store time)
statement_names ss s (Statement-F.Null n) rest store time h = names_none ss (statement_step s (Statement-F.Null n) rest store time) refl refl
statement_names ss s (Statement-F.Assign n t e) rest store time h = record {
  write = λ w is v named. let p : assignment t e store time ≡ w = cc in assigned_variable ss t e store time v h (ap (λ x. names x v) p ∙ named);
  update = λ u is. cc;
}
statement_names ss s (Statement-F.Later n ticks t e) rest store time h = record {
  write = λ w is. cc;
  update = λ u is v named. let p : (ticks.count, assignment t e store time) ≡ u = cc in assigned_variable ss t e store time v h (ap (λ x. names x.1 v) p ∙ named);
}
statement_names ss s (Statement-F.Call n c) rest store time h = names_none ss (statement_step s (Statement-F.Call n c) rest store time) refl refl
statement_names ss s (Statement-F.Finish n) rest store time h = names_none ss (statement_step s (Statement-F.Finish n) rest store time) refl refl
statement_names ss s (Statement-F.Block all) rest store time h = names_none ss (statement_step s (Statement-F.Block all) rest store time) refl refl
statement_names ss s (Statement-F.Delay n ticks body) rest store time h = names_none ss (statement_step s (Statement-F.Delay n ticks body) rest store time) refl refl
statement_names ss s (Statement-F.Event n terms body) rest store time h = names_none ss (statement_step s (Statement-F.Event n terms body) rest store time) refl refl
statement_names ss s (Statement-F.If n e a b) rest store time h = names_none ss (statement_step s (Statement-F.If n e a b) rest store time) refl refl
statement_names ss s (Statement-F.Case n kind x items) rest store time h = names_none ss (statement_step s (Statement-F.Case n kind x items) rest store time) refl refl
statement_names ss s (Statement-F.While n e body) rest store time h = names_none ss (statement_step s (Statement-F.While n e body) rest store time) refl refl
statement_names ss s (Statement-F.Repeat n signed e body) rest store time h = names_none ss (statement_step s (Statement-F.Repeat n signed e body) rest store time) refl refl
statement_names ss s (Statement-F.Forever n body) rest store time h = names_none ss (statement_step s (Statement-F.Forever n body) rest store time) refl refl

pub step_names : (ss : List Signal) (todo : Todo) (store : Store) (time : ℕ) → is_sound_todo ss todo ≡ true → NamesVariables ss (step todo store time)
step_names ss [] store time h = names_none ss (step [] store time) refl refl
step_names ss (perform s ∷ rest) store time h =
    let parts = and_parts (is_sound_statement ss s) (is_sound_todo ss rest) h in
    statement_names ss s (out-Statement s) rest store time (opened ss s parts.0)
step_names ss (turns n s ∷ rest) store time h = names_none ss (step (turns n s ∷ rest) store time) refl refl

-- ---- places and updates

pub sound_active : (ss : List Signal) (gait : Gait) (todo : Todo) → is_sound_todo ss todo ≡ true → is_sound_place ss (active_at gait todo) ≡ true
sound_active ss gait [] h = refl
sound_active ss gait (i ∷ rest) h = h

sound_paused : (ss : List Signal) (time ticks : ℕ) (todo : Todo) → is_sound_todo ss todo ≡ true → is_sound_place ss (paused time ticks todo) ≡ true
sound_paused ss time ticks todo h = cond_both (ticks == 0) (inactive todo) (sleeping (time + ticks) todo) (λ p. is_sound_place ss p ≡ true) (λ e. h) (λ e. h)

-- the place behind a step
pub sound_place_behind : (ss : List Signal) (place : Place) (time : ℕ) (next : Next) → is_sound_todo ss (next_todo next) ≡ true → is_sound_place ss (place_after_step place time next) ≡ true
unfolding next_todo
sound_place_behind ss (going gait todo) time (on rest) h = sound_active ss (stepped_gait gait) rest h
sound_place_behind ss (sleeping due todo) time (on rest) h = refl
sound_place_behind ss (inactive todo) time (on rest) h = refl
sound_place_behind ss (waiting terms todo) time (on rest) h = refl
sound_place_behind ss ended time (on rest) h = refl
sound_place_behind ss (going gait todo) time (after n ticks rest) h = sound_paused ss time ticks rest h
sound_place_behind ss (sleeping due todo) time (after n ticks rest) h = sound_paused ss time ticks rest h
sound_place_behind ss (inactive todo) time (after n ticks rest) h = sound_paused ss time ticks rest h
sound_place_behind ss (waiting terms todo) time (after n ticks rest) h = sound_paused ss time ticks rest h
sound_place_behind ss ended time (after n ticks rest) h = sound_paused ss time ticks rest h
sound_place_behind ss (going gait todo) time (wait n terms rest) h = h
sound_place_behind ss (sleeping due todo) time (wait n terms rest) h = h
sound_place_behind ss (inactive todo) time (wait n terms rest) h = h
sound_place_behind ss (waiting t todo) time (wait n terms rest) h = h
sound_place_behind ss ended time (wait n terms rest) h = h

-- the updates behind a step name variables alone
pub sound_made : (ss : List Signal) (i time : ℕ) (us : List Update) (o : Option (ℕ × Write)) → ((u : ℕ × Write) → o ≡ Some u → (v : ℕ) → names u.1 v ≡ true → IsVariable ss v) →
    ((v : ℕ) → list_any (λ (x : Update). names x.what v) us ≡ true → IsVariable ss v) → (v : ℕ) → list_any (λ (x : Update). names x.what v) (updates_after i time o us) ≡ true → IsVariable ss v
sound_made ss i time us None new old v h = old v h
sound_made ss i time us (Some u) new old v h =
    let more : List Update = record { by = i; due = time + u.0; active = false; what = u.1 } ∷ [] in
    elim (or_cases (list_any (λ (x : Update). names x.what v) us) (list_any (λ (x : Update). names x.what v) more) (sym (list_any-append (λ (x : Update). names x.what v) us more) ∙ h)) [
      | inl hit ↦ old v hit
      | inr last ↦ elim (or_cases (names u.1 v) false last) [
        | inl hit ↦ new u refl v hit
        | inr none ↦ absurd (false≢true none)
      ]
    ]

-- activated updates name what they named
pub any_activated : (time : ℕ) (us : List Update) (v : ℕ) → list_any (λ (x : Update). names x.what v) (map (activated time) us) ≡ list_any (λ (x : Update). names x.what v) us
any_activated time [] v = refl
any_activated time (u ∷ us) v = ap (λ b. names u.what v || b) (any_activated time us v)

-- no continuous assignment drives a variable
pub variable_undriven : (d : Parts) → WellFormed d → (v : ℕ) → IsVariable d.signals v → is_driven d.assigns v ≡ false
variable_undriven d formed v (s, is, variable) =
    elim (cases_Bool (is_driven d.assigns v)) [
      | inl hit ↦ absurd (not_both (any_at (λ (a : Assign). writes_signal a.target v) d.assigns hit))
      | inr miss ↦ miss
    ]
  where
    not_both : ((j : ℕ) × (a : Assign) × (slice_get d.assigns j ≡ Some a) × (writes_signal a.target v ≡ true)) → ⊥
    not_both (j, a, at_j, drives) =
        let net = net_of d formed j a v at_j drives in
        let e : Some net.0 ≡ Some s = sym net.1 ∙ is in
        let f : net.0 ≡ s = cc in
        true≢false (sym variable ∙ ap (λ (z : Signal). is_variable z.kind) (sym f) ∙ net.2)

-- ---- whole executions

pub sound_start_places : (d : Parts) → WellFormed d → list_all (is_sound_place d.signals) (map (λ (p : Process). start_place p.body) d.processes) ≡ true
sound_start_places d formed =
    list_all-map (is_sound_place d.signals) (λ (p : Process). start_place p.body) d.processes
    ∙ all_starts d.processes (λ i p is. all_slice (λ (p : Process). is_sound_process d.signals p ≡ true) d.processes i p is formed.processes)
  where
    all_starts : (ps : List Process) → ((i : ℕ) (p : Process) → slice_get ps i ≡ Some p → is_sound_process d.signals p ≡ true) → list_all (λ (p : Process). is_sound_place d.signals (start_place p.body)) ps ≡ true
    all_starts [] h = refl
    all_starts (p ∷ ps) h =
        let parts = and_parts (is_sound_statement d.signals p.body && counts_from 0 (numbers p.body)) (is_body_of p.kind p.body) (h 0 p refl) in
        let body = (and_parts (is_sound_statement d.signals p.body) (counts_from 0 (numbers p.body)) parts.0).0 in
        and_from (is_sound_place d.signals (start_place p.body)) (list_all (λ (p : Process). is_sound_place d.signals (start_place p.body)) ps)
        (sound_active d.signals Fresh (flat p.body) (sound_flat d.signals p.body body)) (all_starts ps (λ i. h (suc i)))

pub sound_roused : (ss : List Signal) (p : Place) → is_sound_place ss p ≡ true → is_sound_place ss (roused p) ≡ true
sound_roused ss (going gait todo) h = h
sound_roused ss (sleeping due todo) h = h
sound_roused ss (inactive todo) h = sound_active ss Woken todo h
sound_roused ss (waiting terms todo) h = h
sound_roused ss ended h = h

-- a place behind a change of the store
pub sound_wakened : (ss : List Signal) (old new : Store) (p : Place) → is_sound_place ss p ≡ true → is_sound_place ss (wakened old new p) ≡ true
sound_wakened ss old new (going gait todo) h = h
sound_wakened ss old new (sleeping due todo) h = h
sound_wakened ss old new (inactive todo) h = h
sound_wakened ss old new (waiting terms todo) h =
    cond_both (wake_any terms old new) (active_at Woken todo) (waiting terms todo) (λ p. is_sound_place ss p ≡ true) (λ e. sound_active ss Woken todo h) (λ e. h)
sound_wakened ss old new ended h = h

-- all places behind a change of the store
pub sound_all_wakened : (ss : List Signal) (old new : Store) (places : List Place) → list_all (is_sound_place ss) places ≡ true → list_all (is_sound_place ss) (map (wakened old new) places) ≡ true
sound_all_wakened ss old new places h =
    list_all-map (is_sound_place ss) (wakened old new) places ∙ list_all_like (is_sound_place ss) (λ p. is_sound_place ss (wakened old new p)) places (sound_wakened ss old new) h

sound_woken : (ss : List Signal) (t : ℕ) (p : Place) → is_sound_place ss p ≡ true → is_sound_place ss (woken_at t p) ≡ true
sound_woken ss t (going gait todo) h = h
sound_woken ss t (inactive todo) h = h
sound_woken ss t (waiting terms todo) h = h
sound_woken ss t ended h = h
sound_woken ss t (sleeping due todo) h = cond_both (due == t) (active_at Woken todo) (sleeping due todo) (λ p. is_sound_place ss p ≡ true) (λ e. sound_active ss Woken todo h) (λ e. h)

pub sound_places_at : (ss : List Signal) (over : Bool) (next : Option ℕ) (places : List Place) → list_all (is_sound_place ss) places ≡ true → list_all (is_sound_place ss) (places_at over next places) ≡ true
sound_places_at ss true next places h = h
sound_places_at ss false None places h = h
sound_places_at ss false (Some t) places h = list_all-map (is_sound_place ss) (woken_at t) places ∙ list_all_like (is_sound_place ss) (λ p. is_sound_place ss (woken_at t p)) places (sound_woken ss t) h
