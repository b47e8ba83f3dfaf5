-- The clocks of a design that keeps the rules turn in phase.
use Rattle.std.proofs.Common.{None, ◌≡◌, ℕ, zero, suc, ◌<◌, ◌⊎◌, ◌++◌, ◌&&◌, Bool, true, false, Some, List, [], ◌∷◌, map, get_or, slice_get, refl, sym, ◌∙◌, ap, subst, inl, inr, arith}
use Rattle.std.specs.declared.vec.Vec.{Vec}
use Rattle.std.specs.declared.alloc.Global.{Global}
use Rattle.std.proofs.lemmas.Bool.{and_parts, eqb-true, false≢true}
use Rattle.std.proofs.lemmas.Option.{get_or_from_slice_get, same_Some, none-some}
use Rattle.vs_design.specs.vs_logic4.specs.declared.digit.Digit.{Digit}
use Rattle.vs_design.specs.declared.design.Process.{Process}
use Rattle.vs_design.specs.declared.statement.Statement.{Statement}
use Rattle.vs_design.specs.declared.statement.Statement.TheVariants.{rolls-Block}
use Rattle.vs_design.specs.declared.statement.Statement.TheOpen.{Statement-F}
use Rattle.vs_design.specs.declared.statement.Statement.TheViews.{roll-Statement, roll-out-Statement}
use Rattle.vs_design.specs.Parts.{Parts}
use Rattle.vs_design.specs.Stores.{Store, put}
use Rattle.vs_design.specs.WellFormed.{WellFormed, is_sound_statement}
use Rattle.vs_design.specs.Writes.{Write}
use Rattle.vs_process.specs.Drafts.{flat_all}
use Rattle.vs_process.specs.declared.gait.Gait.{Gait}
use Rattle.vs_process.specs.declared.gait.Gait.TheVariants.{Fresh}
use Rattle.vs_process.specs.Nexts.{erased_next, erased}
use Rattle.vs_process.specs.Places.{todo_of, perform, Todo, Place, going, sleeping, inactive, waiting, ended, active_at, start_place, flat}
use Rattle.vs_rules.specs.Paths as q
use Rattle.vs_process.specs.Steps.{on, after, goes, Out, step, statement_step}
use Rattle.vs_process.proofs.Shapes.{flat-Block}
use Rattle.vs_independence.specs.vs_process.specs.declared.moves.Grain.{Grain}
use Rattle.vs_independence.specs.vs_process.specs.declared.moves.Move.{Move}
use Rattle.vs_independence.specs.vs_process.specs.States.{State, start, roused, wakened, woken_at, place_after_step}
use Rattle.vs_independence.specs.vs_process.specs.Executions.{after as reached, Legal}
use Rattle.vs_independence.specs.vs_process.proofs.WellFormed.{variable_undriven}
use Rattle.vs_rules.specs.vs_process.specs.Threads.{store_after, Thread, opening, writes, IsTimed}
use Rattle.vs_rules.specs.vs_process.proofs.Threads.{is_stopped}
use Rattle.vs_independence.proofs.Times.{is_after}
use Rattle.vs_rules.specs.Claims.{Claims, IsWriter, IsSecond, IsDelay, IsRoot, IsWide, blocks_of, is_wide}
use Rattle.vs_rules.specs.Constants.{IsBare, itself, inside, IsKnown, Sets, IsClock, alone, two, HasBody, SetsAfter, SetsAlike, SetsAndTurns, SetsFirst, TurnsForever}
use Rattle.vs_independence.specs.RuleLaws.{TimeRises, ClockTurns, StaysUnset}
use Rattle.vs_rules.specs.Paths.{Writes, IsSlot0, WritesNow, PathBy, begins, is_zero_time, statement_now, todo_now}
use Rattle.vs_rules.specs.Copies.{IsOneBit, CopiesRoot}
use Rattle.vs_rules.specs.Copies as r
use Rattle.vs_independence.proofs.Beside.{Beside, beside_is, beside_seen, Unset, unset_watched}
use Rattle.vs_independence.proofs.Beginning.{delay_steady, closed_of, start_stands, still_at_end}
use Rattle.vs_independence.proofs.Boundary.{holds_after}
use Rattle.vs_independence.proofs.Clocks.{Bared, bare_flat, flat_inside, not_both, Loop, loop_of}
use Rattle.vs_independence.proofs.RulesFire.{zero_less, bit_digit, seq_found}
use Rattle.vs_rules.specs.vs_process.proofs.ThreadLinks.{root_bit}
use Rattle.vs_independence.proofs.Firing.{one_writer, one_second}
use Rattle.vs_independence.proofs.Walks.{At, at_zero, at_later, Here, IsAtPlace}
use Rattle.vs_independence.proofs.Seconds.{LedAt, RootOf, led_at, alone_now, role_now, updates_miss}
use Rattle.vs_independence.proofs.Turned.{turned, Phase, turn_sized, bare_sound}
use Rattle.vs_independence.proofs.Turning.{IsBefore, Turner, Guard, guard_of, SetAt, Clocked, clocked_watched, Setter, Before, bit_put, set_gives, before_is, before_goes_on, BitIn, Early, early_any, early_is, early_goes_on, HasAtEnd, Has, thread_has, Ahead}
use Rattle.vs_independence.proofs.Watch.{IsWatched, IsLeft, Nowhere, nowhere_watched, Seen, seen_after, thread_watched}
use Rattle.vs_independence.proofs.Words.{step_now, lists_signal}
use Rattle.std.specs.List.{list_all, list_any}
use Rattle.vs_design.specs.vs_logic4.specs.declared.digit.Digit.TheVariants.{X}
use Rattle.vs_design.specs.declared.design.ProcessKind.{ProcessKind}
use Rattle.vs_design.specs.declared.design.ProcessKind.TheVariants.{Initial}
use Rattle.vs_design.specs.Uses.{is_of}
use Rattle.vs_independence.specs.Discipline.{BeginsSlot}
use Rattle.vs_rules.specs.vs_process.specs.Edges.{one_bit, IsBit}
use Rattle.vs_rules.specs.Points.{Among, Point, first_todo, nexts_by}
use Rattle.vs_rules.proofs.Points.{step_goes}
use Rattle.vs_rules.specs.Verdict.{Keeping}
use Rattle.vs_independence.proofs.Inverses.{copies_root}
use Rattle.vs_independence.proofs.Roots.{whole_writes}
use Rattle.vs_rules.proofs.Texts.{writes_now}
use Rattle.vs_rules.specs.vs_process.proofs.Filled.{body_sound as process_sound}

-- ---- texts

-- `begin`, two statements and `end`
pub block_flat : (s : Statement) (all : Vec Statement Global) (one other : Statement) → IsBare s (Statement-F.Block all) → all.items ≡ one ∷ other ∷ [] → flat s ≡ flat one ++ (flat other ++ [])
block_flat s all one other bare items = by_bare s (Statement-F.Block all) bare refl
  where
    by_bare : (s : Statement) (x : Statement-F Statement) → IsBare s x → x ≡ Statement-F.Block all → flat s ≡ flat one ++ (flat other ++ [])
    by_bare _ _ (itself s x is) e = ap flat (sym (roll-out-Statement s) ∙ ap roll-Statement (is ∙ e) ∙ rolls-Block all) ∙ flat-Block all ∙ ap flat_all items
    by_bare _ _ (inside s outer inner x is only deep) e = flat_inside s outer inner is only ∙ by_bare inner x deep e

-- the statement that sets a clock
pub record Sets_Flat (d : Parts) (v : ℕ) (digit : Digit) (s : Statement) : Type 0 where
  pub sets : Sets d v digit s
  pub set : Statement
  pub flat_is : flat s ≡ perform set ∷ []
  pub now : (rest : Todo) → WritesNow d (perform set ∷ rest) v
  pub writes : (rest : Todo) (store : Store) (time : ℕ) →
      step (perform set ∷ rest) store time ≡ record (goes (on rest)) { write = Some (Rattle.vs_process.specs.Steps.assignment sets.target sets.value store time) }

pub sets_flat : (d : Parts) (v : ℕ) (digit : Digit) (s : Statement) → Sets d v digit s → Sets_Flat d v digit s
sets_flat d v digit s h =
    let b = bare_flat s (Statement-F.Assign h.number h.target h.value) h.is refl in
    record {
      sets = h;
      set = b.bare;
      flat_is = b.flat_is;
      now = λ rest. lists_signal d (todo_now (perform b.bare ∷ rest)) v (ap (λ x. list_any (is_of v) (statement_now x)) b.is ∙ whole_writes d v h.target h.whole);
      writes = λ rest store time. ap (λ x. statement_step b.bare x rest store time) b.is;
    }

-- the start of a process
start_there : (ps : List Process) (i : ℕ) (p : Process) → slice_get ps i ≡ Some p → get_or (map (λ (p : Process). start_place p.body) ps) i ended ≡ start_place p.body
start_there [] i p is = absurd (none-some p is)
start_there (q ∷ ps) zero p is = ap (λ (x : Process). start_place x.body) (same_Some q p is)
start_there (q ∷ ps) (suc i) p is = start_there ps i p is

starts_at : (d : Parts) (i : ℕ) (p : Process) (todo : Todo) → slice_get d.processes i ≡ Some p → flat p.body ≡ todo → get_or (start d).places i ended ≡ active_at Fresh todo
starts_at d i p todo is e = start_there d.processes i p is ∙ ap (active_at Fresh) e

-- the process that turns a signal
abbrev turner : (d : Parts) (wide : Bool) (root process : ℕ) (digit : Digit) (offset half : ℕ) → IsKnown digit → (text : Statement) → Loop d wide root half text → IsOneBit d root → Turner d
turner d wide root process digit offset half known text loop one = record {
  wide = wide;
  root = root;
  process = process;
  digit = digit;
  offset = offset;
  half = half;
  known = known;
  text = text;
  loop = loop;
  turned = λ store time z is. turned d wide root loop.target loop.value one loop.whole loop.inverse loop.sized store time z is;
}

-- ---- a clock that its process sets

-- in every execution
one_seen : (grain : Grain) (d : Parts) (c : Claims) (T : Turner d) → RootOf d c T.root → TimeRises grain d → IsWriter d c T.root T.process → (S : Setter d T) →
    ((time : ℕ) → time ≡ T.offset → Guard d T time) → Before d T S 0 (get_or (start d).places T.process ended) (start d).store →
    (moves : List Move) → Legal grain d moves → Seen (Clocked d T (Before d T S) Nowhere) T.process (reached d moves)
one_seen grain d c T root up writer S guard first =
    seen_after grain d root.formed up T.root (λ time store. Unit {0}) (Clocked d T (Before d T S) Nowhere)
    (clocked_watched d T (λ time store. Unit {0}) (Before d T S) Nowhere (before_is d T S guard) (nowhere_watched T.root (λ time store. Unit {0})) (λ time t p store still due less known h. inl (before_goes_on d T S time t p store still h)))
    (λ moves l e. tt) T.process left (inl first)
  where
    stays : (time j : ℕ) (k : Todo) (p : Place) (store : Store) (w : Write) → LedAt d c j time k → WritesNow d k T.root → (T.process ≡ j → ⊥) → Clocked d T (Before d T S) Nowhere time p store → Clocked d T (Before d T S) Nowhere time p (put store w)
    stays time j k p store w led now ne (inl h) = inl (h.0, bit_put d T store w h.1)
    stays time j k p store w led now ne (inr (inl h)) = absurd (alone_now d c T.root root T.process writer time j k led now (guard_of d T time p store h) ne)
    stays time j k p store w led now ne (inr (inr h)) = absurd h

    left : IsLeft grain d T.root T.process (Clocked d T (Before d T S) Nowhere)
    left = record {
      undriven = variable_undriven d root.formed T.root root.sound.variable;
      updates = λ moves l j u is. updates_miss grain d c T.root root moves l j u is;
      others = λ moves l j gait k w ne at is hit h.
          let s = reached d moves in
          stays s.time j (erased k) (get_or s.places T.process ended) s.store w (led_at grain d c moves l j gait k at) (step_now d k s.store s.time w T.root is hit) ne h;
    }

-- ---- a clock that another process sets

-- that process has still to set it, in the first slot, or it has set it
abbrev First : (d : Parts) (T : Turner d) → Setter d T → ℕ → Place → Store → Type 0
First d T S time (going gait k) store = (k ≡ perform S.set ∷ []) × (time ≡ 0) × BitIn d T store
First d T S time ended store = HasAtEnd d T time store
First d T S time (sleeping due k) store = ⊥
First d T S time (inactive k) store = ⊥
First d T S time (waiting terms k) store = ⊥

not_zero : (time t : ℕ) → time < t → t ≡ 0 → ⊥
not_zero time t less z = omega (arith, less, z)

first_watched : (d : Parts) (T : Turner d) (S : Setter d T) → IsWatched T.root (λ time store. Unit {0}) (First d T S)
first_watched d T S = record { steps = steps; kept = kept; rouses = rouses; wakes = wakes; goes_on = goes_on }
  where
    steps : (time : ℕ) (gait : Gait) (k : Todo) (store : Store) → First d T S time (going gait k) store →
        First d T S time (place_after_step (going gait k) time (step k store time).next) (store_after store (step k store time).write)
    steps time gait k store (e, z, bit) =
        subst (λ (l : Todo). First d T S time (place_after_step (going gait l) time (step l store time).next) (store_after store (step l store time).write)) (sym e)
        (subst (λ (o : Out). First d T S time (place_after_step (going gait (perform S.set ∷ [])) time o.next) (store_after store o.write)) (sym (S.writes [] store time)) (λ zero_time. set_gives d T S store time bit))

    kept : (time : ℕ) (p : Place) (a b : Store) → slice_get b T.root ≡ slice_get a T.root → First d T S time p a → First d T S time p b
    kept time (going gait k) a b e h = (h.0, h.1, (h.2.0, e ∙ h.2.1))
    kept time ended a b e h = λ z. e ∙ h z
    kept time (sleeping due k) a b e h = absurd h
    kept time (inactive k) a b e h = absurd h
    kept time (waiting terms k) a b e h = absurd h

    rouses : (time : ℕ) (p : Place) (store : Store) → First d T S time p store → First d T S time (roused p) store
    rouses time (going gait k) store h = h
    rouses time ended store h = h
    rouses time (sleeping due k) store h = absurd h
    rouses time (inactive k) store h = absurd h
    rouses time (waiting terms k) store h = absurd h

    wakes : (time : ℕ) (old new : Store) (p : Place) (store : Store) → First d T S time p store → First d T S time (wakened old new p) store
    wakes time old new (going gait k) store h = h
    wakes time old new ended store h = h
    wakes time old new (sleeping due k) store h = absurd h
    wakes time old new (inactive k) store h = absurd h
    wakes time old new (waiting terms k) store h = absurd h

    goes_on : (time t : ℕ) (p : Place) (store : Store) → is_stopped p ≡ true → is_after t p ≡ true → time < t → Unit {0} → First d T S time p store → First d T S t (woken_at t p) store
    goes_on time t (going gait k) store still up less known h = absurd (false≢true still)
    goes_on time t ended store still up less known h = λ z. absurd (not_zero time t less z)
    goes_on time t (sleeping due k) store still up less known h = absurd h
    goes_on time t (inactive k) store still up less known h = absurd h
    goes_on time t (waiting terms k) store still up less known h = absurd h

first_seen : (grain : Grain) (d : Parts) (c : Claims) (T : Turner d) → RootOf d c T.root → TimeRises grain d → IsWriter d c T.root T.process → (S : Setter d T) → (j : ℕ) → IsSecond d c T.root j →
    First d T S 0 (get_or (start d).places j ended) (start d).store → (moves : List Move) → Legal grain d moves → Seen (First d T S) j (reached d moves)
first_seen grain d c T root up writer S j second first =
    seen_after grain d root.formed up T.root (λ time store. Unit {0}) (First d T S) (first_watched d T S) (λ moves l e. tt) j left first
  where
    kind : IsDelay d c T.process
    kind =
        let known = root.sound.writer in
        subst (IsDelay d c) (one_writer d c root.formed T.root known.0 T.process known.1 writer) known.2

    -- the writer writes it later alone
    silent : (time : ℕ) (k : Todo) → Here d c T.process time k → WritesNow d k T.root → time ≡ 0 → ⊥
    silent time k here now z = by_at here.at
      where
        by_at : At d c T.process time k → ⊥
        by_at (at_zero same s) = (root.rules.writers T.root).first_alone j T.process k second writer s now
        by_at (at_later later late slot) = zero_less time later z

    stands : (moves : List Move) → Legal grain d moves → IsAtPlace d c T.process (reached d moves).time (get_or (reached d moves).places T.process ended)
    stands moves l =
        holds_after grain d (IsAtPlace d c T.process) (delay_steady d c T.process kind (closed_of d c T.process (inr (inl kind)) (root.rules.edges T.process) (root.rules.residues T.process)) (root.rules.residues T.process)) T.process
        (start_stands d c T.process) moves l

    stays : (moves : List Move) → Legal grain d moves → (time i : ℕ) (gait : Gait) (k : Todo) (p : Place) (store : Store) (w : Write) → (reached d moves).time ≡ time → slice_get (reached d moves).places i ≡ Some (going gait k) →
        WritesNow d (erased k) T.root → (j ≡ i → ⊥) → First d T S time p store → First d T S time p (put store w)
    stays moves l time i gait k (going other todo) store w at is now ne h = (h.0, h.1, bit_put d T store w h.2)
    stays moves l time i gait k ended store w at is now ne h =
        λ z. absurd (by_role z (role_now d c T.root root (reached d moves).time i (erased k) (led_at grain d c moves l i gait k is) now))
      where
        by_role : time ≡ 0 → IsWriter d c T.root i ⊎ (IsSecond d c T.root i × ((reached d moves).time ≡ 0) × IsSlot0 d (is_wide c) i (erased k)) → ⊥
        by_role z (inr (other, same, s)) = ne (one_second d c root.formed T.root j i second other)
        by_role z (inl other) =
            let same : i ≡ T.process = one_writer d c root.formed T.root i T.process other writer in
            let place : get_or (reached d moves).places T.process ended ≡ going gait k = ap (λ n. get_or (reached d moves).places n ended) (sym same) ∙ get_or_from_slice_get (reached d moves).places i (going gait k) ended is in
            silent (reached d moves).time (erased k) (subst (IsAtPlace d c T.process (reached d moves).time) place (stands moves l)) now (at ∙ z)
    stays moves l time i gait k (sleeping due todo) store w at is now ne h = absurd h
    stays moves l time i gait k (inactive todo) store w at is now ne h = absurd h
    stays moves l time i gait k (waiting terms todo) store w at is now ne h = absurd h

    left : IsLeft grain d T.root j (First d T S)
    left = record {
      undriven = variable_undriven d root.formed T.root root.sound.variable;
      updates = λ moves l i u is. updates_miss grain d c T.root root moves l i u is;
      others = λ moves l i gait k w ne at is hit h.
          let s = reached d moves in
          stays moves l s.time i gait k (get_or s.places j ended) s.store w refl at (step_now d k s.store s.time w T.root is hit) ne h;
    }

two_seen : (grain : Grain) (d : Parts) (c : Claims) (T : Turner d) → RootOf d c T.root → TimeRises grain d → IsWriter d c T.root T.process → (S : Setter d T) → (j : ℕ) → IsSecond d c T.root j → T.offset ≡ 0 →
    First d T S 0 (get_or (start d).places j ended) (start d).store → Early d T 0 (get_or (start d).places T.process ended) (start d).store →
    (moves : List Move) → Legal grain d moves → Seen (Clocked d T (Early d T) Nowhere) T.process (reached d moves)
two_seen grain d c T root up writer S j second none first early =
    seen_after grain d root.formed up T.root (HasAtEnd d T) (Clocked d T (Early d T) Nowhere)
    (clocked_watched d T (HasAtEnd d T) (Early d T) Nowhere (early_is d T) (nowhere_watched T.root (HasAtEnd d T))
    (λ time t p store still due less known h. inr (inl (early_goes_on d T none time t p store still less known h))))
    (λ moves l e. at_ends (reached d moves).time (get_or (reached d moves).places j ended) (reached d moves).store (still_at_end (reached d moves) e j) (first_seen grain d c T root up writer S j second first moves l))
    T.process left (inl early)
  where
    at_ends : (time : ℕ) (p : Place) (store : Store) → is_stopped p ≡ true → First d T S time p store → HasAtEnd d T time store
    at_ends time (going gait k) store still h = absurd (false≢true still)
    at_ends time ended store still h = h
    at_ends time (sleeping due k) store still h = absurd h
    at_ends time (inactive k) store still h = absurd h
    at_ends time (waiting terms k) store still h = absurd h

    stays : (time i : ℕ) (k : Todo) (p : Place) (store : Store) (w : Write) → LedAt d c i time k → WritesNow d k T.root → (T.process ≡ i → ⊥) → Clocked d T (Early d T) Nowhere time p store → Clocked d T (Early d T) Nowhere time p (put store w)
    stays time i k p store w led now ne (inl h) = inl (early_any d T time p store (put store w) h)
    stays time i k p store w led now ne (inr (inl h)) = absurd (alone_now d c T.root root T.process writer time i k led now (guard_of d T time p store h) ne)
    stays time i k p store w led now ne (inr (inr h)) = absurd h

    left : IsLeft grain d T.root T.process (Clocked d T (Early d T) Nowhere)
    left = record {
      undriven = variable_undriven d root.formed T.root root.sound.variable;
      updates = λ moves l i u is. updates_miss grain d c T.root root moves l i u is;
      others = λ moves l i gait k w ne at is hit h.
          let s = reached d moves in
          stays s.time i (erased k) (get_or s.places T.process ended) s.store w (led_at grain d c moves l i gait k at) (step_now d k s.store s.time w T.root is hit) ne h;
    }

-- ---- a thread

-- a property of the process where the slot begins and behind the thread
abbrev Stays : (ℕ → Place → Store → Type 0) → ℕ → State → Thread → Type 0
Stays U i b by = Seen U i b × U b.time by.place by.view

-- what a timed thread that has written the signal leaves
phase_at : (grain : Grain) (d : Parts) (c : Claims) (b : State) → BeginsSlot grain d b → (T : Turner d) (E : ℕ → Store → Type 0) (P U : ℕ → Place → Store → Type 0) → IsBefore d T P → IsWatched T.root E U → IsDelay d c T.process →
    ((moves : List Move) → Legal grain d moves → Seen (Clocked d T P U) T.process (reached d moves)) → (by : Thread) → IsTimed (blocks_of d c) b T.process by → writes by T.root ≡ true →
    Has d T b.time by.view ⊎ Stays U T.process b by
phase_at grain d c b h T E P U before other kind seen by timed wrote = by_state (subst (λ (s : State). Seen (Clocked d T P U) T.process s) h.is (seen h.moves h.legal))
  where
    first : Thread
    first = opening (blocks_of d c) b T.process None

    place : get_or b.places T.process ended ≡ first.place
    place = sym (seq_found d c b T.process (inr (inl kind)))

    has : P b.time first.place b.store ⊎ SetAt d T b.time first.place b.store → Has d T b.time by.view
    has at =
        subst (λ (t : Thread). Has d T b.time t.view) timed.is
        (thread_has d T P before b.time T.process timed.count first refl at (subst (λ (t : Thread). writes t T.root ≡ true) (sym timed.is) wrote))

    by_state : Clocked d T P U b.time (get_or b.places T.process ended) b.store → Has d T b.time by.view ⊎ Stays U T.process b by
    by_state (inl at) = inl (has (inl (subst (λ p. P b.time p b.store) place at)))
    by_state (inr (inl at)) = inl (has (inr (subst (λ p. SetAt d T b.time p b.store) place at)))
    by_state (inr (inr at)) =
        inr (
          at,
          subst (λ (t : Thread). U b.time t.place t.view) timed.is
              (thread_watched T.root E U other b.time T.process timed.count first (subst (λ p. U b.time p b.store) place at)),
        )

-- where there is no other property
phase_always : (grain : Grain) (d : Parts) (c : Claims) (b : State) → BeginsSlot grain d b → (T : Turner d) (P : ℕ → Place → Store → Type 0) → IsBefore d T P → IsDelay d c T.process →
    ((moves : List Move) → Legal grain d moves → Seen (Clocked d T P Nowhere) T.process (reached d moves)) → (by : Thread) → IsTimed (blocks_of d c) b T.process by → writes by T.root ≡ true → Has d T b.time by.view
phase_always grain d c b h T P before kind seen by timed wrote =
    elim (phase_at grain d c b h T (λ time store. Unit {0}) P Nowhere before (nowhere_watched T.root (λ time store. Unit {0})) kind seen by timed wrote) [
      | inl has ↦ has
      | inr none ↦ absurd none.0
    ]

-- all that is given
record Given (grain : Grain) (d : Parts) (c : Claims) (root : ℕ) (b : State) : Type 0 where
  up : TimeRises grain d
  known : RootOf d c root
  one : IsOneBit d root
  bit : IsBit d root
  begin : BeginsSlot grain d b

writer_kind : (d : Parts) (c : Claims) (root i : ℕ) → RootOf d c root → IsWriter d c root i → IsDelay d c i
writer_kind d c root i known writer =
    let there = known.sound.writer in
    subst (IsDelay d c) (one_writer d c known.formed root there.0 i there.1 writer) there.2

-- of a clock that its process sets
one_phase : (grain : Grain) (d : Parts) (c : Claims) (b : State) (T : Turner d) → Given grain d c T.root b → IsWriter d c T.root T.process → (S : Setter d T) → ((time : ℕ) → time ≡ T.offset → Guard d T time) →
    Ahead d T S 0 (get_or (start d).places T.process ended) → (by : Thread) → IsTimed (blocks_of d c) b T.process by → writes by T.root ≡ true → Has d T b.time by.view
one_phase grain d c b T g writer S guard ahead by timed wrote =
    phase_always grain d c b g.begin T (Before d T S) (before_is d T S guard) (writer_kind d c T.root T.process g.known writer)
    (one_seen grain d c T g.known g.up writer S guard (ahead, (X, g.bit))) by timed wrote

-- of one that another process sets
two_phase : (grain : Grain) (d : Parts) (c : Claims) (b : State) (T : Turner d) → Given grain d c T.root b → IsWriter d c T.root T.process → (S : Setter d T) → (j : ℕ) → IsSecond d c T.root j → T.offset ≡ 0 →
    First d T S 0 (get_or (start d).places j ended) (start d).store → Early d T 0 (get_or (start d).places T.process ended) (start d).store →
    (by : Thread) → IsTimed (blocks_of d c) b T.process by → writes by T.root ≡ true → Has d T b.time by.view
two_phase grain d c b T g writer S j second none first early by timed wrote =
    phase_always grain d c b g.begin T (Early d T) (early_is d T) (writer_kind d c T.root T.process g.known writer)
    (two_seen grain d c T g.known g.up writer S j second none first early) by timed wrote

-- of one that another process sets beside other statements
beside_phase : (grain : Grain) (d : Parts) (c : Claims) (b : State) (T : Turner d) → Given grain d c T.root b → IsWriter d c T.root T.process → (j : ℕ) → SetsAlike d T.root T.digit j →
    ((k : ℕ) → Writes d k T.root → (k ≡ T.process) ⊎ (k ≡ j)) → T.offset ≡ 0 → Early d T 0 (get_or (start d).places T.process ended) (start d).store →
    (by : Thread) → IsTimed (blocks_of d c) b T.process by → writes by T.root ≡ true → Has d T b.time by.view ⊎ Stays (Unset d T) T.process b by
beside_phase grain d c b T g writer j alike only none early by timed wrote =
    phase_at grain d c b g.begin T (λ time store. Unit {0}) (Beside d T) (Unset d T) (beside_is d T) (unset_watched d T) (writer_kind d c T.root T.process g.known writer)
    (beside_seen grain d c T g.known g.up writer j alike only none (early, inl g.bit)) by timed wrote

-- ---- by their texts

abbrev Turning : (c : Claims) (b : State) (root : ℕ) (digit : Digit) (offset half : ℕ) → Store → Type 0
Turning c b root digit offset half store =
    (z : Digit) × (slice_get store root ≡ Some (one_bit z)) × IsKnown digit × (StaysUnset c b root z ⊎ Phase digit offset half b.time z)

-- `begin u = c; forever #h u = ~u; end`
set_now : (grain : Grain) (d : Parts) (c : Claims) (b : State) (root i : ℕ) (digit : Digit) (offset half : ℕ) → Given grain d c root b → IsWriter d c root i → (body : HasBody d i Initial (SetsAndTurns d (is_wide c) root offset half digit)) →
    (loop : Loop d (is_wide c) root half body.body.second) → offset ≡ 0 → Sets d root digit body.body.first → (by : Thread) → IsTimed (blocks_of d c) b i by → writes by root ≡ true →
    Turning c b root digit offset half by.view
set_now grain d c b root i digit offset half g writer body loop none sets by timed wrote = (has.z, has.is, f.sets.known, inr has.phase)
  where
    f : Sets_Flat d root digit body.body.first
    f = sets_flat d root digit body.body.first sets

    todo : Todo
    todo = perform f.set ∷ perform loop.forever ∷ []

    begin_at : get_or (start d).places i ended ≡ active_at Fresh todo
    begin_at = starts_at d i body.process todo body.is
        (block_flat body.process.body body.body.all body.body.first body.body.second body.body.is body.body.two
        ∙ ap (λ (l : Todo). flat body.body.first ++ (l ++ [])) loop.first ∙ ap (λ (l : Todo). l ++ (perform loop.forever ∷ [])) f.flat_is)

    slot : IsSlot0 d true i todo
    slot = subst (λ (k : Todo). PathBy (nexts_by true) is_zero_time k todo) (sym (ap todo_of begin_at)) begins

    has : Has d (turner d (is_wide c) root i digit offset half f.sets.known body.body.second loop g.one) b.time by.view
    has =
        one_phase grain d c b (turner d (is_wide c) root i digit offset half f.sets.known body.body.second loop g.one) g writer
        (record { set = f.set; target = f.sets.target; value = f.sets.value; gives = f.sets.gives; writes = f.writes })
        (λ time at. inr (todo, slot, f.now (perform loop.forever ∷ [])))
        (subst (Ahead d (turner d (is_wide c) root i digit offset half f.sets.known body.body.second loop g.one) (record { set = f.set; target = f.sets.target; value = f.sets.value; gives = f.sets.gives; writes = f.writes }) 0) (sym begin_at) (inr (refl, sym none)))
        by timed wrote

-- `begin #o u = c; forever #h u = ~u; end`
set_after : (grain : Grain) (d : Parts) (c : Claims) (b : State) (root i : ℕ) (digit : Digit) (offset half : ℕ) → Given grain d c root b → IsWriter d c root i → (body : HasBody d i Initial (SetsAndTurns d (is_wide c) root offset half digit)) →
    (loop : Loop d (is_wide c) root half body.body.second) → SetsAfter d root offset digit body.body.first → (by : Thread) → IsTimed (blocks_of d c) b i by → writes by root ≡ true →
    Turning c b root digit offset half by.view
set_after grain d c b root i digit offset half g writer body loop later by timed wrote = (has.z, has.is, f.sets.known, inr has.phase)
  where
    f : Sets_Flat d root digit later.inner.value
    f = sets_flat d root digit later.inner.value later.sets

    pause : Bared body.body.first (Statement-F.Delay later.number later.ticks later.inner)
    pause = bare_flat body.body.first (Statement-F.Delay later.number later.ticks later.inner) later.is refl

    pauses : (rest : Todo) (store : Store) (time : ℕ) → step (perform pause.bare ∷ rest) store time ≡ goes (after later.number offset (perform f.set ∷ rest))
    pauses rest store time =
        ap (λ x. statement_step pause.bare x rest store time) pause.is ∙ ap (λ l. goes (after later.number later.ticks.count (l ++ rest))) f.flat_is
        ∙ ap (λ n. goes (after later.number n (perform f.set ∷ rest))) later.offset_is

    todo : Todo
    todo = perform pause.bare ∷ perform loop.forever ∷ []

    sets : Todo
    sets = perform f.set ∷ perform loop.forever ∷ []

    begin_at : get_or (start d).places i ended ≡ active_at Fresh todo
    begin_at = starts_at d i body.process todo body.is
        (block_flat body.process.body body.body.all body.body.first body.body.second body.body.is body.body.two
        ∙ ap (λ (l : Todo). flat body.body.first ++ (l ++ [])) loop.first ∙ ap (λ (l : Todo). l ++ (perform loop.forever ∷ [])) pause.flat_is)

    way : Among (after later.number offset sets) (nexts_by true todo)
    way = subst (λ (o : Out). Among (erased_next o.next) (nexts_by true todo)) (pauses (perform loop.forever ∷ []) [] 0) (step_goes true todo [] 0)

    slot : offset ≡ 0 → IsSlot0 d true i sets
    slot none =
        subst (λ (k : Todo). PathBy (nexts_by true) is_zero_time k sets) (sym (ap todo_of begin_at))
        (q.goes todo sets (after later.number 0 sets) begins (subst (λ n. Among (after later.number n sets) (nexts_by true todo)) none way) refl refl)

    guard : (n time : ℕ) → offset ≡ n → time ≡ offset → (0 < time) ⊎ ((l : Todo) × IsSlot0 d true i l × WritesNow d l root)
    guard zero time none at = inr (sets, slot none, f.now (perform loop.forever ∷ []))
    guard (suc n) time some at = inl (omega (arith, some, at))

    has : Has d (turner d (is_wide c) root i digit offset half f.sets.known body.body.second loop g.one) b.time by.view
    has =
        one_phase grain d c b (turner d (is_wide c) root i digit offset half f.sets.known body.body.second loop g.one) g writer
        (record { set = f.set; target = f.sets.target; value = f.sets.value; gives = f.sets.gives; writes = f.writes })
        (λ time at. guard offset time refl at)
        (subst (Ahead d (turner d (is_wide c) root i digit offset half f.sets.known body.body.second loop g.one) (record { set = f.set; target = f.sets.target; value = f.sets.value; gives = f.sets.gives; writes = f.writes }) 0) (sym begin_at)
        (inl (record { pause = pause.bare; number = later.number; is = refl; pauses = pauses }, refl)))
        by timed wrote

-- `initial u = c; always #h u = ~u;`, or `initial forever #h u = ~u;` for the `always`
set_beside : (grain : Grain) (d : Parts) (c : Claims) (b : State) (root i j : ℕ) (kind : ProcessKind) (digit : Digit) (offset half : ℕ) → Given grain d c root b → IsWriter d c root i →
    (body : HasBody d i kind (TurnsForever d (is_wide c) root half)) → Loop d (is_wide c) root half body.process.body → HasBody d j Initial (Sets d root digit) → offset ≡ 0 → (by : Thread) → IsTimed (blocks_of d c) b i by → writes by root ≡ true →
    Turning c b root digit offset half by.view
set_beside grain d c b root i j kind digit offset half g writer body loop other none by timed wrote = (has.z, has.is, f.sets.known, inr has.phase)
  where
    f : Sets_Flat d root digit other.process.body
    f = sets_flat d root digit other.process.body other.body

    todo : Todo
    todo = perform f.set ∷ []

    begin_at : get_or (start d).places j ended ≡ active_at Fresh todo
    begin_at = starts_at d j other.process todo other.is f.flat_is

    turns_at : get_or (start d).places i ended ≡ active_at Fresh (perform loop.forever ∷ [])
    turns_at = starts_at d i body.process (perform loop.forever ∷ []) body.is loop.first

    other_writes : Writes d j root
    other_writes = writes_now d j (first_todo d j) root Point.begins (subst (λ (k : Todo). WritesNow d k root) (sym (ap todo_of begin_at)) (f.now []))

    second : IsSecond d c root j
    second = by_role ((g.known.rules.writers root).named j other_writes)
      where
        by_role : IsWriter d c root j ⊎ IsSecond d c root j → IsSecond d c root j
        by_role (inr is) = is
        by_role (inl is) =
            let same : i ≡ j = one_writer d c g.known.formed root i j writer is in
            let process : body.process ≡ other.process = same_Some body.process other.process (sym body.is ∙ ap (slice_get d.processes) same ∙ other.is) in
            absurd (not_both d (is_wide c) root half digit other.process.body (subst (λ (p : Process). TurnsForever d (is_wide c) root half p.body) process body.body) other.body)

    has : Has d (turner d (is_wide c) root i digit offset half f.sets.known body.process.body loop g.one) b.time by.view
    has =
        two_phase grain d c b (turner d (is_wide c) root i digit offset half f.sets.known body.process.body loop g.one) g writer
        (record { set = f.set; target = f.sets.target; value = f.sets.value; gives = f.sets.gives; writes = f.writes })
        j second none
        (subst (λ p. First d (turner d (is_wide c) root i digit offset half f.sets.known body.process.body loop g.one) (record { set = f.set; target = f.sets.target; value = f.sets.value; gives = f.sets.gives; writes = f.writes }) 0 p (start d).store) (sym begin_at)
        (refl, refl, (X, g.bit)))
        (subst (λ p. Early d (turner d (is_wide c) root i digit offset half f.sets.known body.process.body loop g.one) 0 p (start d).store) (sym turns_at) (refl, inl refl))
        by timed wrote

-- `begin .. u = c; .. end` or `if (e) u = c;` for the `initial`
set_among : (grain : Grain) (d : Parts) (c : Claims) (b : State) (root i j : ℕ) (kind : ProcessKind) (digit : Digit) (offset half : ℕ) → Given grain d c root b → IsWriter d c root i → IsWide c →
    (body : HasBody d i kind (TurnsForever d (is_wide c) root half)) → Loop d (is_wide c) root half body.process.body → SetsAlike d root digit j → ((k : ℕ) → Writes d k root → (k ≡ i) ⊎ (k ≡ j)) → offset ≡ 0 →
    (by : Thread) → IsTimed (blocks_of d c) b i by → writes by root ≡ true → Turning c b root digit offset half by.view
set_among grain d c b root i j kind digit offset half g writer wide body loop alike only none by timed wrote = by_end
    (beside_phase grain d c b T g writer j alike only none (subst (λ p. Early d T 0 p (start d).store) (sym turns_at) (refl, inl refl)) by timed wrote)
  where
    T : Turner d
    T = turner d (is_wide c) root i digit offset half alike.known body.process.body loop g.one

    turns_at : get_or (start d).places i ended ≡ active_at Fresh (perform loop.forever ∷ [])
    turns_at = starts_at d i body.process (perform loop.forever ∷ []) body.is loop.first

    by_end : Has d T b.time by.view ⊎ Stays (Unset d T) i b by → Turning c b root digit offset half by.view
    by_end (inl has) = (has.z, has.is, alike.known, inr has.phase)
    by_end (inr unset) = (X, unset.1.2, alike.known, inl (wide, refl, bit_digit b.store root X unset.0.2))

-- ---- all forms

root_one_bit : (d : Parts) (wide : Bool) (root n : ℕ) → CopiesRoot d wide root n → IsOneBit d root
root_one_bit d wide root _ (r.itself one) = one
root_one_bit d wide root n (r.copy v u one link more) = root_one_bit d wide root u more
root_one_bit d wide root n (r.inverse v u is one link more) = root_one_bit d wide root u more

given_of : (grain : Grain) (d : Parts) (c : Claims) → WellFormed d → Keeping d c → TimeRises grain d → (b : State) → BeginsSlot grain d b → (root : ℕ) → IsRoot d c root → Given grain d c root b
given_of grain d c formed rules up b h root is =
    let sound = (rules.roots is.0).root root is.1 in
    let copies = (rules.roots is.0).copies root is.1 in
    record {
      up = up;
      known = record { formed = formed; rules = rules; is_root = is; sound = sound };
      one = root_one_bit d (is_wide c) root is.0 copies;
      bit = root_bit d root is.0 (copies_root d formed (is_wide c) root is.0 sound.variable copies);
      begin = h;
    }

clock_turning : (grain : Grain) (d : Parts) (c : Claims) (b : State) (root w : ℕ) (digit : Digit) (offset half : ℕ) → Given grain d c root b → IsClock d c root digit offset half → IsWriter d c root w → (by : Thread) →
    IsTimed (blocks_of d c) b w by → writes by root ≡ true → Turning c b root digit offset half by.view
clock_turning grain d c b root w digit offset half g (alone i is body) writer by timed wrote = by_sets body.body.sets
  where
    same : w ≡ i
    same = one_writer d c g.known.formed root w i writer is

    here : IsTimed (blocks_of d c) b i by
    here = subst (λ n. IsTimed (blocks_of d c) b n by) same timed

    sound : is_sound_statement d.signals body.body.second ≡ true
    sound =
        let all = bare_sound d.signals body.process.body (Statement-F.Block body.body.all) body.body.is (process_sound d g.known.formed i body.process body.is) in
        let row = subst (λ (l : List Statement). list_all (λ b. b) (map (is_sound_statement d.signals) l) ≡ true) body.body.two all in
        let rest = (and_parts (is_sound_statement d.signals body.body.first) (is_sound_statement d.signals body.body.second && true) row).1 in
        (and_parts (is_sound_statement d.signals body.body.second) true rest).0

    loop : Loop d (is_wide c) root half body.body.second
    loop = loop_of d (is_wide c) root half body.body.second body.body.turns (turn_sized d (is_wide c) root half body.body.second body.body.turns sound)

    by_sets : ((offset ≡ 0) × Sets d root digit body.body.first) ⊎ SetsAfter d root offset digit body.body.first → Turning c b root digit offset half by.view
    by_sets (inl (none, sets)) = set_now grain d c b root i digit offset half g is body loop none sets by here wrote
    by_sets (inr later) = set_after grain d c b root i digit offset half g is body loop later by here wrote
clock_turning grain d c b root w digit offset half g (two i j kind is may body other none only) writer by timed wrote =
    by_wide (is_wide c) refl other
  where
    here : IsTimed (blocks_of d c) b i by
    here = subst (λ n. IsTimed (blocks_of d c) b n by) (one_writer d c g.known.formed root w i writer is) timed

    loop : Loop d (is_wide c) root half body.process.body
    loop = loop_of d (is_wide c) root half body.process.body body.body (turn_sized d (is_wide c) root half body.process.body body.body (process_sound d g.known.formed i body.process body.is))

    by_wide : (wide : Bool) → is_wide c ≡ wide → SetsFirst d wide root digit j → Turning c b root digit offset half by.view
    by_wide false narrow first = set_beside grain d c b root i j kind digit offset half g is body loop first none by here wrote
    by_wide true wide first = set_among grain d c b root i j kind digit offset half g is (eqb-true c.version 3 wide) body loop first only none by here wrote

-- where a clock's process has written it, it is in phase
pub clock_turns : (grain : Grain) (d : Parts) (c : Claims) → WellFormed d → Keeping d c → TimeRises grain d → (b : State) → BeginsSlot grain d b → ClockTurns d c b
clock_turns grain d c formed rules up b h root w by digit z offset half timed writer wrote is_root clock has =
    let t = clock_turning grain d c b root w digit offset half (given_of grain d c formed rules up b h root is_root) clock writer by timed wrote in
    let same : z ≡ t.0 = same_Some z t.0 (sym has ∙ bit_digit by.view root t.0 t.1) in
    (t.2, subst (λ x. StaysUnset c b root x ⊎ Phase digit offset half b.time x) (sym same) t.3)
