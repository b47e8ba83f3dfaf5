-- Processes run alone, step by step.
use Rattle.std.proofs.Common.{◌≡◌, ℕ, zero, suc, ◌-◌, ◌<◌, Bool, true, false, Option, Some, None, option_map, [], ◌∷◌, refl, sym, ◌∙◌, ap, ap₂, arith}
use Rattle.vs_design.specs.declared.statement.Statement.{Statement}
use Rattle.vs_design.specs.Stores.{Store}
use Rattle.vs_design.specs.Writes.{Write}
use Rattle.vs_rules.specs.vs_process.specs.Changes.{store_after}
use Rattle.vs_rules.specs.vs_process.specs.Places.{Todo, flat}
use Rattle.vs_rules.specs.vs_process.specs.Steps.{Next, on, after, wait, step, has_nothing}
use Rattle.std.proofs.lemmas.Option.{same_Some}
use Rattle.vs_rules.specs.vs_process.specs.Threads as threads
use Rattle.vs_rules.specs.Blocks.{arrived, run_alone}
use Rattle.vs_rules_of_starts.specs.Alone.{Arrival, arrives, arrival, arrived_if, store_if, ReachesControl}

-- ---- a run

-- a run by its first step
pub by_step : (most : ℕ) (k : Todo) (store : Store) (next : Next) (new : Store) → (step k store 0).next ≡ next → new ≡ store_after store (step k store 0).write →
    arrival (suc most) k store ≡ arrives next (λ l. arrival most l new) new
by_step most k store next new leads makes = ap₂ (λ (n : Next) (s : Store). arrives n (λ l. arrival most l s) s) leads (sym makes)

-- where nothing is left to do, it arrives nowhere
pub never : (most : ℕ) (store : Store) → arrival most [] store ≡ None
never zero store = refl
never (suc most) store = never most store

nothing_is : (k : Todo) → has_nothing k ≡ true → k ≡ []
nothing_is [] h = refl
nothing_is (i ∷ k) h = let e : false ≡ true = h in cc

pub nowhere : (most : ℕ) (k : Todo) (store : Store) → has_nothing k ≡ true → None ≡ arrival most k store
nowhere most k store h = sym (ap (λ (x : Todo). arrival most x store) (nothing_is k h) ∙ never most store)

-- the store of an arrival
abbrev pub store_at : Option Arrival → Option Store
store_at a = option_map (λ (x : Arrival). x.store) a

by_next : (next : Next) (rest : Todo → Option Arrival) (alone : Todo → Store → Option Store) (store : Store) → ((l : Todo) → alone l store ≡ store_at (rest l)) →
    arrived next alone store ≡ store_at (arrives next rest store)
by_next (on l) rest alone store same = same l
by_next (after number ticks l) rest alone store same = refl
by_next (wait number terms l) rest alone store same = refl

-- the store behind a step as the rule has it
behind_is : (store : Store) (o : Option Write) → threads.store_after store o ≡ store_after store o
behind_is store None = refl
behind_is store (Some w) = refl

-- it is the run of the rule
pub alone_is : (most : ℕ) (k : Todo) (store : Store) → run_alone most k store ≡ store_at (arrival most k store)
alone_is zero k store = refl
alone_is (suc most) k store =
    let new : Store = store_after store (step k store 0).write in
    ap (arrived (step k store 0).next (λ l s. run_alone most l s)) (behind_is store (step k store 0).write)
    ∙ by_next (step k store 0).next (λ l. arrival most l new) (λ l s. run_alone most l s) new (λ l. alone_is most l new)

-- ---- as it is told

-- after one step of several
pub further : (left : ℕ) (k : Todo) (store : Store) (next : Next) (new : Store) → 0 < left → (step k store 0).next ≡ next → new ≡ store_after store (step k store 0).write →
    arrives next (λ l. arrival (left - 1) l new) new ≡ arrival left k store
further zero k store next new some leads makes = absurd (omega (arith, some))
further (suc left) k store next new some leads makes =
    ap (λ (n : ℕ). arrives next (λ l. arrival n l new) new) (omega arith) ∙ sym (by_step left k store next new leads makes)

pub store_of : (b : Bool) (k : Todo) (store : Store) → store_at (arrived_if b k store) ≡ store_if b store
store_of true k store = refl
store_of false k store = refl

abbrev at : Todo → Store → Arrival
at k store = record { todo = k; store = store }

same_arrival : (k l : Todo) (a b : Store) → Some (at k a) ≡ Some (at l b) → (k ≡ l) × (a ≡ b)
same_arrival k l a b e =
    let same : at k a ≡ at l b = same_Some (at k a) (at l b) e in
    (ap (λ (x : Arrival). x.todo) same, ap (λ (x : Arrival). x.store) same)

-- where it waits after two steps
pub came : (most : ℕ) (waits : Bool) → waits ≡ true → (start mid behind : Todo) (old here : Store) (body : Statement) → start ≡ flat body →
    arrived_if waits mid here ≡ arrival 2 start old → ReachesControl body old behind →
    (b : Bool) (k : Todo) (new : Store) → arrived_if b k new ≡ arrival most mid here → store_if b new ≡ run_alone most behind old
came most waits is start mid behind old here body begins told comes b k new again =
    let same = same_arrival mid behind here old (ap (λ (w : Bool). arrived_if w mid here) (sym is) ∙ told ∙ ap (λ (t : Todo). arrival 2 t old) begins ∙ comes.is) in
    sym (store_of b k new) ∙ ap store_at (again ∙ ap₂ (λ (t : Todo) (s : Store). arrival most t s) same.0 same.1) ∙ sym (alone_is most behind old)
