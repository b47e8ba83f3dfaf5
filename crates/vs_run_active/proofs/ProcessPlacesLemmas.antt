-- Lemmas on where a process stands, and on what it waits for.
use Rattle.std.proofs.Common.{◌≡◌, ℕ, zero, suc, ◌<◌, ◌≤◌, ◌==◌, not, Bool, true, false, Option, Some, None, List, [], ◌∷◌, length, slice_get, nat_lt, if◌then◌else◌, refl, sym, ◌∙◌, ap, subst, arith}
use Rattle.std.proofs.lemmas.Bool.{eqb-true, eq-eqb, false≢true}
use Rattle.std.proofs.lemmas.Option.{none-some, slice_get_past}
use Rattle.vs_design.specs.vs_logic4.specs.declared.digit.Digit.{Digit}
use Rattle.vs_design.specs.declared.statement.EventTerm.{EventTerm}
use Rattle.vs_process.specs.vs_eval.specs.Waking.{word_wakes}
use Rattle.vs_process.specs.declared.gait.Gait.{Gait}
use Rattle.vs_process.specs.declared.gait.Gait.TheVariants.{Fresh, Woken, Inside}
use Rattle.vs_process.specs.declared.script.Instruction.{Instruction}
use Rattle.vs_process.specs.Links.{Link, todo_from, todo_within}
use Rattle.vs_process.specs.Places.{Todo, active_at, is_going, is_inactive, is_inside, waiting}
use Rattle.vs_process.specs.Scripts.{IsScriptOf, todo_on}
use Rattle.vs_process.specs.Steps.{has_nothing}
use Rattle.vs_process.specs.Texts.{AreApart, HasControl, Text}
use Rattle.vs_process.proofs.ControlLemmas.{controls_apart}
use Rattle.vs_process.specs.States.{due_of, roused, terms_of, triggered, woken_at}
use Rattle.vs_run_active.specs.declared.process.Process.{Process}
use Rattle.vs_run_active.specs.declared.process.Wait.{Wait}
use Rattle.vs_run_active.specs.declared.process.Wait.TheVariants.{Nothing, Until, Inactive, Terms}
use Rattle.vs_run_active.specs.ProcessPlaces.{IsWaitOf, gone_on, is_active, place_by, place_in, roused_wait, triggered_at, waits_at, woken_wait}
use Rattle.vs_run_active.specs.Triggers.{triggered_by}

-- ---- active places

pub going_more : (gait : Gait) (todo : Todo) → is_going (active_at gait todo) ≡ not (has_nothing todo)
going_more gait [] = refl
going_more gait (i ∷ rest) = refl

pub inside_more : (todo : Todo) → is_inside (active_at Inside todo) ≡ not (has_nothing todo)
inside_more [] = refl
inside_more (i ∷ rest) = refl

pub not_inside : (gait : Gait) (todo : Todo) → (gait ≡ Inside → ⊥) → is_inside (active_at gait todo) ≡ false
not_inside gait [] h = refl
not_inside Fresh (i ∷ rest) h = refl
not_inside Woken (i ∷ rest) h = refl
not_inside Inside (i ∷ rest) h = absurd (h refl)

pub active_waits : (gait : Gait) (todo : Todo) → terms_of (active_at gait todo) ≡ []
active_waits gait [] = refl
active_waits gait (i ∷ rest) = refl

pub active_still : (gait : Gait) (todo : Todo) → is_inactive (active_at gait todo) ≡ false
active_still gait [] = refl
active_still gait (i ∷ rest) = refl

pub active_due : (gait : Gait) (todo : Todo) → due_of (active_at gait todo) ≡ None
active_due gait [] = refl
active_due gait (i ∷ rest) = refl

active_roused : (gait : Gait) (todo : Todo) → active_at gait todo ≡ roused (active_at gait todo)
active_roused gait [] = refl
active_roused gait (i ∷ rest) = refl

active_woken : (time : ℕ) (gait : Gait) (todo : Todo) → active_at gait todo ≡ woken_at time (active_at gait todo)
active_woken time gait [] = refl
active_woken time gait (i ∷ rest) = refl

-- ---- by what a process waits for

pub inactive_told : (w : Wait) (todo : Todo) → ((w ≡ Inactive) → ⊥) → false ≡ is_inactive (place_by w todo)
inactive_told (Nothing gait) todo h = sym (active_still gait todo)
inactive_told (Until due) todo h = refl
inactive_told Inactive todo h = absurd (h refl)
inactive_told (Terms n terms) todo h = refl

pub roused_told : (w : Wait) (todo : Todo) → place_by (roused_wait w) todo ≡ roused (place_by w todo)
roused_told (Nothing gait) todo = active_roused gait todo
roused_told (Until due) todo = refl
roused_told Inactive todo = refl
roused_told (Terms n terms) todo = refl

woken_if : (time due : ℕ) (todo : Todo) (b : Bool) → place_by (if b then Nothing Woken else Until due) todo ≡ (if b then active_at Woken todo else place_by (Until due) todo)
woken_if time due todo true = refl
woken_if time due todo false = refl

pub woken_told : (time : ℕ) (w : Wait) (todo : Todo) → place_by (woken_wait time w) todo ≡ woken_at time (place_by w todo)
woken_told time (Nothing gait) todo = active_woken time gait todo
woken_told time (Until due) todo = woken_if time due todo (due == time)
woken_told time Inactive todo = refl
woken_told time (Terms n terms) todo = refl

-- ---- where something is left to do

pub none_past : {A : Type 0} (xs : List A) (i : ℕ) → slice_get xs i ≡ None → length xs ≤ i
none_past [] i h = omega arith
none_past (x ∷ xs) zero h = absurd (none-some x (sym h))
none_past (x ∷ xs) (suc i) h = let rest = none_past xs i h in omega (arith, rest)

more_by : (c : Text) (script : List Instruction) (i : ℕ) (counters : List ℕ) (o : Option Instruction) → IsScriptOf c script → i < length script → slice_get script i ≡ o →
    has_nothing (todo_on c counters i) ≡ false
more_by c script i counters (Some x) is below at = is.some i x counters at
more_by c script i counters None is below at = let past = none_past script i at in absurd (omega (arith, below, past))

-- at an instruction something is left to do
pub more_in : (c : Text) (script : List Instruction) (i : ℕ) (counters : List ℕ) → IsScriptOf c script → i < length script → has_nothing (todo_on c counters i) ≡ false
more_in c script i counters is below = more_by c script i counters (slice_get script i) is below refl

-- after the last one nothing
pub none_in : (c : Text) (script : List Instruction) (i : ℕ) (counters : List ℕ) → IsScriptOf c script → length script ≤ i → has_nothing (todo_on c counters i) ≡ true
none_in c script i counters is past = ap (λ (t : Todo). has_nothing t) (is.ends i counters (slice_get_past script i past))

more_if : (c : Text) (script : List Instruction) (i n : ℕ) (counters : List ℕ) (b : Bool) → IsScriptOf c script → n ≡ length script → nat_lt i n ≡ b →
    has_nothing (todo_on c counters i) ≡ not b
more_if c script i n counters true is long e = more_in c script i counters is (grind (arith, e, long))
more_if c script i n counters false is long e = none_in c script i counters is (grind (arith, e, long))

-- what the code tests
pub more_told : (c : Text) (script : List Instruction) (i n : ℕ) (counters : List ℕ) → IsScriptOf c script → n ≡ length script → has_nothing (todo_on c counters i) ≡ not (nat_lt i n)
more_told c script i n counters is long = more_if c script i n counters (nat_lt i n) is long refl

not_twice : (b : Bool) → not (not b) ≡ b
not_twice true = refl
not_twice false = refl

-- an active process by the same test
pub going_told : (gait : Gait) (todo : Todo) (b : Bool) → has_nothing todo ≡ not b → b ≡ is_going (active_at gait todo)
going_told gait todo b h = sym (going_more gait todo ∙ ap not h ∙ not_twice b)

pub inside_by_flags : (todo : Todo) (b : Bool) → has_nothing todo ≡ not b → b ≡ is_inside (active_at Inside todo)
inside_by_flags todo b h = sym (inside_more todo ∙ ap not h ∙ not_twice b)

-- whether something is left to do doesn't depend on the counters

left_from : (cs ds : List ℕ) (rest other : ℕ → Todo) (l : Option Link) → has_nothing (todo_from cs rest l) ≡ has_nothing (todo_from ds other l)
left_from cs ds rest other None = refl
left_from cs ds rest other (Some l) = refl

left_on : (c : Text) (cs ds : List ℕ) (i : ℕ) → has_nothing (todo_on c cs i) ≡ has_nothing (todo_on c ds i)
left_on c cs ds i = left_from cs ds (λ p. todo_within i c.links cs p) (λ p. todo_within i c.links ds p) (slice_get c.links i)

going_by : (w : Wait) (todo other : Todo) → has_nothing todo ≡ has_nothing other → is_going (place_by w todo) ≡ is_going (place_by w other)
going_by (Nothing gait) todo other same = going_more gait todo ∙ ap not same ∙ sym (going_more gait other)
going_by (Until due) todo other same = refl
going_by Inactive todo other same = refl
going_by (Terms n terms) todo other same = refl

pub active_told : (p : Process) (counters : List ℕ) → is_going (place_in p counters) ≡ is_active p
active_told p counters = going_by p.wait (todo_on p.script.now counters p.index) (todo_on p.script.now [] p.index) (left_on p.script.now counters [] p.index)

-- ---- what a change wakes

placed_if : (b : Bool) (n : ℕ) (w : Wait) (terms : List EventTerm) (todo : Todo) → place_by w todo ≡ waiting terms todo →
    (if b then triggered (waiting terms todo) else waiting terms todo) ≡ place_by (if b then Nothing Woken else w) todo
placed_if true n w terms todo h = refl
placed_if false n w terms todo h = sym h

wakes_by : (w : Wait) (todo : Todo) (c : Text) (n : ℕ) (terms : List EventTerm) (signal word : ℕ) (before after : Option (List Digit)) → AreApart c.links → IsWaitOf c w → HasControl c n terms →
    waits_at n w ≡ true → triggered_by signal word before after (place_by w todo) ≡ place_by (if word_wakes terms signal word before after then Nothing Woken else w) todo
wakes_by (Nothing gait) todo c n terms signal word before after apart is has at = absurd (false≢true at)
wakes_by (Until due) todo c n terms signal word before after apart is has at = absurd (false≢true at)
wakes_by Inactive todo c n terms signal word before after apart is has at = absurd (false≢true at)
wakes_by (Terms m ts) todo c n terms signal word before after apart is has at =
    let same : ts.now ≡ terms = controls_apart c n ts.now terms apart (subst (λ (k : ℕ). HasControl c k ts.now) (eqb-true m n at) is) has in
    placed_if (word_wakes ts.now signal word before after) n (Terms m ts) ts.now todo refl
    ∙ ap (λ (l : List EventTerm). place_by (if word_wakes l signal word before after then Nothing Woken else Terms m ts) todo) same

gone_if : (b : Bool) (p : Process) (counters : List ℕ) → place_by (if b then Nothing Woken else p.wait) (todo_on p.script.now counters p.index) ≡ place_in (if b then gone_on p else p) counters
gone_if true p counters = refl
gone_if false p counters = refl

pub wakes_told : (p : Process) (counters : List ℕ) (n : ℕ) (terms : List EventTerm) (signal word : ℕ) (before after : Option (List Digit)) → AreApart p.script.now.links →
    IsWaitOf p.script.now p.wait → HasControl p.script.now n terms → waits_at n p.wait ≡ true →
    triggered_by signal word before after (place_in p counters) ≡ place_in (if word_wakes terms signal word before after then triggered_at n p else p) counters
wakes_told p counters n terms signal word before after apart is has at =
    wakes_by p.wait (todo_on p.script.now counters p.index) p.script.now n terms signal word before after apart is has at
    ∙ gone_if (word_wakes terms signal word before after) p counters
    ∙ ap (λ (b : Bool). place_in (if word_wakes terms signal word before after then (if b then gone_on p else p) else p) counters) (sym at)

active_stays : (gait : Gait) (todo : Todo) (signal word : ℕ) (before after : Option (List Digit)) → triggered_by signal word before after (active_at gait todo) ≡ active_at gait todo
active_stays gait [] signal word before after = refl
active_stays gait (i ∷ rest) signal word before after = refl

stays_by : (w : Wait) (todo : Todo) (signal word : ℕ) (before after : Option (List Digit)) → ((n : ℕ) → waits_at n w ≡ false) →
    triggered_by signal word before after (place_by w todo) ≡ place_by w todo
stays_by (Nothing gait) todo signal word before after none = active_stays gait todo signal word before after
stays_by (Until due) todo signal word before after none = refl
stays_by Inactive todo signal word before after none = refl
stays_by (Terms m ts) todo signal word before after none = absurd (false≢true (sym (none m) ∙ eq-eqb m m refl))

pub others_stay : (p : Process) (counters : List ℕ) (signal word : ℕ) (before after : Option (List Digit)) → ((n : ℕ) → waits_at n p.wait ≡ false) →
    triggered_by signal word before after (place_in p counters) ≡ place_in p counters
others_stay p counters signal word before after none = stays_by p.wait (todo_on p.script.now counters p.index) signal word before after none
