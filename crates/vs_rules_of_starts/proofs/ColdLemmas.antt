-- Combinational blocks that a run on the settled first store leaves as they are.
use Rattle.std.proofs.Common.{◌≡◌, ◌↔◌, ℕ, zero, suc, ◌<◌, Bool, true, false, IsTrue, Option, Some, None, List, [], length, get_or, slice_get, refl, sym, ◌∙◌, ap, ap₂, subst, arith}
use Rattle.std.proofs.lemmas.Option.{none-some, same_Some, slice_get-get_or}
use Rattle.vs_design.specs.declared.design.Process.{Process}
use Rattle.vs_design.specs.declared.statement.Statement.{Statement}
use Rattle.vs_design.specs.Parts.{Parts}
use Rattle.vs_design.specs.Stores.{Store, start_store}
use Rattle.vs_design.specs.Writes.{Write}
use Rattle.vs_rules.specs.vs_process.specs.Places.{Todo, flat}
use Rattle.vs_rules.specs.vs_process.specs.Steps.{Next, on, after, wait, step}
use Rattle.vs_rules.specs.vs_process.specs.Executions.{is_combinational}
use Rattle.vs_rules.specs.vs_process.proofs.Stores.{shape, shape-put}
use Rattle.vs_rules.specs.vs_process.specs.BlockDrivers.{sizes}
use Rattle.vs_rules.specs.vs_process.specs.Threads.{store_after}
use Rattle.vs_rules.specs.Points.{Point}
use Rattle.vs_rules.specs.Blocks.{arrived, run_alone, StaysCold}
use Rattle.vs_rules.proofs.Texts.{begins_with}
use Rattle.vs_design.specs.vs_logic4.proofs.Basics.{inside}
use Rattle.vs_rules_of_starts.specs.Alone.{store_if, ReachesControl}
use Rattle.vs_rules_of_starts.specs.Cold.{SameWritten, StaysWithin, StaysAtEach, IsAfterControl, AreFirst}
use Rattle.vs_rules_of_starts.proofs.ControlLemmas.{IsLoop, loop_of, todo_after_control, waits_once, waits_there, comes_in_two}

-- ---- sizes

sized_behind : (store : Store) (o : Option Write) → shape (store_after store o) ≡ shape store
sized_behind store None = refl
sized_behind store (Some w) = shape-put store w

by_next : (next : Next) (most : ℕ) (store new : Store) → ((l : Todo) → run_alone most l store ≡ Some new → shape new ≡ shape store) → arrived next (λ l s. run_alone most l s) store ≡ Some new → shape new ≡ shape store
by_next (on l) most store new again h = again l h
by_next (after number ticks l) most store new again h = absurd (none-some new h)
by_next (wait number terms l) most store new again h = ap shape (sym (same_Some store new h))

-- a run keeps the sizes
alone_sized : (most : ℕ) (k : Todo) (store new : Store) → run_alone most k store ≡ Some new → shape new ≡ shape store
alone_sized zero k store new h = absurd (none-some new h)
alone_sized (suc most) k store new h =
    let behind : Store = store_after store (step k store 0).write in
    by_next (step k store 0).next most behind new (λ l. alone_sized most l behind new) h ∙ sized_behind store (step k store 0).write

-- ---- the control of a block

pub process_at : (xs ys : List Process) (i : ℕ) (q : Process) → ys ≡ xs → i < length xs → q ≡ get_or ys i q → slice_get xs i ≡ Some q
process_at xs ys i q same lt is = slice_get-get_or xs i q lt ∙ ap (λ x. Some x) (sym (is ∙ ap (λ l. get_or l i q) same))

behind_is : (d : Parts) (i : ℕ) (q : Process) → slice_get d.processes i ≡ Some q → (b : IsLoop q.body) (behind : Todo) → IsAfterControl d i behind → behind ≡ todo_after_control q.body b
behind_is d i q is b behind h = waits_once q.body b h.control behind h.number h.terms (subst (λ (f : Todo). Point f h.control) (begins_with d i q is) h.point) h.goes

there_is : (d : Parts) (i : ℕ) (q : Process) → slice_get d.processes i ≡ Some q → (b : IsLoop q.body) → IsAfterControl d i (todo_after_control q.body b)
there_is d i q is b =
    let w = waits_there q.body b in
    record { control = w.at; number = b.control; terms = b.terms.items; point = subst (λ (f : Todo). Point f w.at) (sym (begins_with d i q is)) w.point; goes = w.goes }

-- ---- a run on a store

-- what a run from the start, past two steps, says of one from after the control
pub ran : (d : Parts) (i : ℕ) (q : Process) → slice_get d.processes i ≡ Some q → is_combinational q ≡ true → (body : Statement) (old settled : Store) → body ≡ q.body → old ≡ settled →
    (most : ℕ) (arrives : Bool) (new : Store) → ((behind : Todo) → ReachesControl body old behind → store_if arrives new ≡ run_alone most behind old) →
    (behind : Todo) → IsAfterControl d i behind → store_if arrives new ≡ run_alone most behind settled
ran d i q is shape body old settled same copied most arrives new told behind h =
    let b = loop_of q shape in
    told behind (record { is = ap₂ (λ (s : Statement) (x : Store). Rattle.vs_rules_of_starts.specs.Alone.arrival 2 (flat s) x) same refl ∙ comes_in_two q.body b old ∙ ap (λ (k : Todo). Rattle.vs_rules_of_starts.specs.Alone.arrived_if true k old) (sym (behind_is d i q is b behind h)) })
    ∙ ap (run_alone most behind) copied

pub run_sized : (d : Parts) (i : ℕ) (q : Process) → slice_get d.processes i ≡ Some q → is_combinational q ≡ true → (settled : Store) → sizes settled ≡ sizes (start_store d) → (most : ℕ) (arrives : Bool) → arrives ≡ true → (new : Store) →
    ((behind : Todo) → IsAfterControl d i behind → store_if arrives new ≡ run_alone most behind settled) → sizes new ≡ sizes (start_store d)
run_sized d i q is shape settled sized most arrives does new told =
    let b = loop_of q shape in
    alone_sized most (todo_after_control q.body b) settled new (sym (told (todo_after_control q.body b) (there_is d i q is b)) ∙ ap (λ (x : Bool). store_if x new) does) ∙ sized

pub stays_is : (d : Parts) (i : ℕ) (settled start : Store) → start ≡ start_store d → (most : ℕ) (arrives : Bool) → arrives ≡ true → (new : Store) →
    ((behind : Todo) → IsAfterControl d i behind → store_if arrives new ≡ run_alone most behind settled) → (t : Bool) → (IsTrue t ↔ SameWritten d i new start) →
    (behind : Todo) → IsAfterControl d i behind → (IsTrue t ↔ StaysWithin most d i behind settled)
stays_is d i settled start begins most arrives does new told t same behind h =
    let ends : run_alone most behind settled ≡ Some new = sym (told behind h) ∙ ap (λ (x : Bool). store_if x new) does in (
      λ s. record { store = new; arrives = ends; same = subst (SameWritten d i new) begins (same.0 s) },
      λ w. same.1 (subst (SameWritten d i new) (sym begins) (subst (λ (x : Store). SameWritten d i x (start_store d)) (same_Some w.store new (sym w.arrives ∙ ends)) w.same)),
    )

pub stays_not : (d : Parts) (i : ℕ) (settled : Store) (most : ℕ) (arrives : Bool) → arrives ≡ false → (new : Store) →
    ((behind : Todo) → IsAfterControl d i behind → store_if arrives new ≡ run_alone most behind settled) →
    (behind : Todo) → IsAfterControl d i behind → (IsTrue false ↔ StaysWithin most d i behind settled)
stays_not d i settled most arrives never new told behind h = (
  λ t. absurd (grind (arith, t)),
  λ w. absurd (none-some w.store (ap (λ (x : Bool). store_if x new) (sym never) ∙ told behind h ∙ w.arrives)),
)

-- ---- on the settled first store

-- where it stays at each of its controls, it stays at one
one_stays : (d : Parts) (i : ℕ) → i < length d.processes → ((q : Process) → slice_get d.processes i ≡ Some q → is_combinational q ≡ true) → StaysAtEach d i → (behind : Todo) × IsAfterControl d i behind × StaysCold d i behind
one_stays d i lt shape all = by_process (slice_get d.processes i) refl
  where
    by_process : (o : Option Process) → slice_get d.processes i ≡ o → (behind : Todo) × IsAfterControl d i behind × StaysCold d i behind
    by_process None none = absurd (inside d.processes i lt none)
    by_process (Some q) at =
        let b = loop_of q (shape q at) in
        let h = there_is d i q at b in
        (todo_after_control q.body b, h, all h.control (todo_after_control q.body b) h.number h.terms h.point h.goes)

pub each_is : (d : Parts) (i : ℕ) → i < length d.processes → ((q : Process) → slice_get d.processes i ≡ Some q → is_combinational q ≡ true) → (start : Store) (settled : Option Store) → AreFirst d start settled →
    (first : Store) → settled ≡ Some first → (t : Bool) → ((behind : Todo) → IsAfterControl d i behind → (IsTrue t ↔ StaysWithin 10000 d i behind first)) → (IsTrue t ↔ StaysAtEach d i)
each_is d i lt shape start settled firsts first is t told = (
  λ h k l number terms point goes.
      let w = (told l (record { control = k; number = number; terms = terms; point = point; goes = goes })).0 h in
      record { settled = first; is = (firsts.settled_is first).1 is; store = w.store; arrives = w.arrives; same = w.same },
  λ all.
      let one = one_stays d i lt shape all in
      let s = one.2 in
      let same : s.settled ≡ first = same_Some s.settled first (sym ((firsts.settled_is s.settled).0 s.is) ∙ is) in
      (told one.0 one.1).1 (record { store = s.store; arrives = ap (run_alone 10000 one.0) (sym same) ∙ s.arrives; same = s.same }),
)

pub none_is : (d : Parts) (i : ℕ) → i < length d.processes → ((q : Process) → slice_get d.processes i ≡ Some q → is_combinational q ≡ true) → (start : Store) (settled : Option Store) → AreFirst d start settled →
    settled ≡ None → (IsTrue false ↔ StaysAtEach d i)
none_is d i lt shape start settled firsts is = (
  λ t. absurd (grind (arith, t)),
  λ all.
      let one = one_stays d i lt shape all in
      absurd (none-some one.2.settled (sym is ∙ (firsts.settled_is one.2.settled).0 one.2.is)),
)
