-- The process of a clock: where it can be, and what its bit is then.
use Rattle.std.proofs.Common.{◌≡◌, ℕ, zero, suc, ◌+◌, ◌*◌, ◌%◌, ◌<◌, ◌==◌, ◌⊎◌, Bool, true, Option, Some, None, List, [], ◌∷◌, slice_get, refl, sym, ◌∙◌, ap, subst, inl, inr, arith}
use Rattle.std.specs.List.{list_any}
use Rattle.std.proofs.lemmas.Bool.{cond_both, eqb-true, false≢true}
use Rattle.std.proofs.lemmas.Option.{same_Some}
use Rattle.vs_design.specs.vs_logic4.specs.declared.digit.Digit.{Digit}
use Rattle.vs_design.specs.vs_logic4.specs.Tables.{not_digit}
use Rattle.vs_design.specs.declared.expression.Typed.{Typed}
use Rattle.vs_design.specs.declared.statement.Statement.{Statement}
use Rattle.vs_design.specs.declared.statement.Target.{Target}
use Rattle.vs_design.specs.Parts.{Parts}
use Rattle.vs_design.specs.Stores.{Store, put}
use Rattle.vs_design.specs.Writes.{Write, names}
use Rattle.vs_process.specs.declared.gait.Gait.{Gait}
use Rattle.vs_process.specs.declared.gait.Gait.TheVariants.{Woken}
use Rattle.vs_process.specs.Places.{perform, Todo, Place, going, sleeping, inactive, waiting, ended, active_at}
use Rattle.vs_process.specs.Steps.{goes, on, after, assignment, Out, step}
use Rattle.vs_independence.specs.vs_process.specs.States.{place_after_step, paused, roused, woken_at, wakened}
use Rattle.vs_independence.specs.vs_process.proofs.Digits.{digit-put, laid}
use Rattle.vs_independence.specs.vs_process.proofs.Stores.{shape-put}
use Rattle.vs_independence.specs.vs_process.specs.vs_eval.specs.Laws.{digit_of}
use Rattle.std.specs.Prelude.{option_map}
use Rattle.vs_rules.specs.vs_process.specs.Edges.{one_bit}
use Rattle.vs_rules.specs.vs_process.specs.Threads.{Thread, store_after, log_after, turn_at, turn, iterate, writes}
use Rattle.vs_rules.specs.vs_process.proofs.Threads.{is_stopped}
use Rattle.vs_independence.proofs.Times.{is_after}
use Rattle.vs_rules.specs.Constants.{bit_of, GivesDigit, IsKnown}
use Rattle.vs_rules.specs.Paths.{IsSlot0, WritesNow}
use Rattle.vs_independence.proofs.Clocks.{Loop}
use Rattle.vs_independence.proofs.RulesFire.{bit_shape, bit_digit}
use Rattle.vs_independence.proofs.Gave.{assignment_gives}
use Rattle.vs_independence.proofs.Turned.{Phase, phase_turns}
use Rattle.vs_independence.proofs.Watch.{IsWatched}

-- ---- a clock that turns

-- a process turns a signal of one bit, from this digit at this time on
pub record Turner (d : Parts) : Type 0 where
  pub wide : Bool
  pub root : ℕ
  pub process : ℕ
  pub digit : Digit
  pub offset : ℕ
  pub half : ℕ
  pub known : IsKnown digit
  pub text : Statement
  pub loop : Loop d wide root half text
  pub turned : (store : Store) (time : ℕ) (z : Digit) → slice_get store root ≡ Some (one_bit z) → slice_get (put store (assignment loop.target loop.value store time)) root ≡ Some (one_bit (not_digit z))

-- what the process has to do: to begin, to pause, to turn
abbrev pub begins_todo : (d : Parts) → Turner d → Todo
begins_todo d T = perform T.loop.forever ∷ []

abbrev pub pauses_todo : (d : Parts) → Turner d → Todo
pauses_todo d T = perform T.loop.delay ∷ perform T.loop.forever ∷ []

abbrev pub turns_todo : (d : Parts) → Turner d → Todo
turns_todo d T = perform T.loop.turn ∷ perform T.loop.forever ∷ []

-- the signal is in phase
pub record Has (d : Parts) (T : Turner d) (time : ℕ) (store : Store) : Type 0 where
  pub z : Digit
  pub is : slice_get store T.root ≡ Some (one_bit z)
  pub phase : Phase T.digit T.offset T.half time z

-- it is in phase where it is turned
pub record Owes (d : Parts) (T : Turner d) (time : ℕ) (store : Store) : Type 0 where
  pub up : 0 < time
  pub z : Digit
  pub is : slice_get store T.root ≡ Some (one_bit z)
  pub phase : Phase T.digit T.offset T.half time (not_digit z)

-- why no other process writes the signal: the first slot is over, or this process writes the signal in it, on a path of every version
abbrev pub Guard : (d : Parts) → Turner d → ℕ → Type 0
Guard d T time = (0 < time) ⊎ ((l : Todo) × IsSlot0 d true T.process l × WritesNow d l T.root)

abbrev pub GoesOn : (d : Parts) → Turner d → ℕ → Todo → Store → Type 0
GoesOn d T time k store =
    (((k ≡ begins_todo d T) ⊎ (k ≡ pauses_todo d T)) × Guard d T time × Has d T time store) ⊎ ((k ≡ turns_todo d T) × Owes d T time store)

abbrev pub SetAt : (d : Parts) → Turner d → ℕ → Place → Store → Type 0
SetAt d T time (going gait k) store = GoesOn d T time k store
SetAt d T time (sleeping due k) store = (k ≡ turns_todo d T) × Guard d T time × Owes d T due store
SetAt d T time (inactive k) store = ⊥
SetAt d T time (waiting terms k) store = ⊥
SetAt d T time ended store = ⊥

pub guard_of : (d : Parts) (T : Turner d) (time : ℕ) (p : Place) (store : Store) → SetAt d T time p store → Guard d T time
guard_of d T time (going gait k) store (inl h) = h.1
guard_of d T time (going gait k) store (inr h) = inl h.1.up
guard_of d T time (sleeping due k) store h = h.1
guard_of d T time (inactive k) store h = absurd h
guard_of d T time (waiting terms k) store h = absurd h
guard_of d T time ended store h = absurd h

has_kept : (d : Parts) (T : Turner d) (time : ℕ) (a b : Store) → slice_get b T.root ≡ slice_get a T.root → Has d T time a → Has d T time b
has_kept d T time a b e h = record { z = h.z; is = e ∙ h.is; phase = h.phase }

owes_kept : (d : Parts) (T : Turner d) (time : ℕ) (a b : Store) → slice_get b T.root ≡ slice_get a T.root → Owes d T time a → Owes d T time b
owes_kept d T time a b e h = record { up = h.up; z = h.z; is = e ∙ h.is; phase = h.phase }

set_kept : (d : Parts) (T : Turner d) (time : ℕ) (p : Place) (a b : Store) → slice_get b T.root ≡ slice_get a T.root → SetAt d T time p a → SetAt d T time p b
set_kept d T time (going gait k) a b e (inl h) = inl (h.0, h.1, has_kept d T time a b e h.2)
set_kept d T time (going gait k) a b e (inr h) = inr (h.0, owes_kept d T time a b e h.1)
set_kept d T time (sleeping due k) a b e h = (h.0, h.1, owes_kept d T due a b e h.2)
set_kept d T time (inactive k) a b e h = absurd h
set_kept d T time (waiting terms k) a b e h = absurd h
set_kept d T time ended a b e h = absurd h

set_rouses : (d : Parts) (T : Turner d) (time : ℕ) (p : Place) (store : Store) → SetAt d T time p store → SetAt d T time (roused p) store
set_rouses d T time (going gait k) store h = h
set_rouses d T time (sleeping due k) store h = h
set_rouses d T time (inactive k) store h = absurd h
set_rouses d T time (waiting terms k) store h = absurd h
set_rouses d T time ended store h = absurd h

set_wakes : (d : Parts) (T : Turner d) (time : ℕ) (old new : Store) (p : Place) (store : Store) → SetAt d T time p store → SetAt d T time (wakened old new p) store
set_wakes d T time old new (going gait k) store h = h
set_wakes d T time old new (sleeping due k) store h = h
set_wakes d T time old new (inactive k) store h = absurd h
set_wakes d T time old new (waiting terms k) store h = absurd h
set_wakes d T time old new ended store h = absurd h

-- what sleeps till a time, at another
set_later : (d : Parts) (T : Turner d) (t due : ℕ) (k : Todo) (store : Store) → k ≡ turns_todo d T → 0 < t → Owes d T due store → SetAt d T t (woken_at t (sleeping due k)) store
set_later d T t due k store e later h =
    cond_both (due == t) (active_at Woken k) (sleeping due k) (λ p. SetAt d T t p store)
    (λ same. subst (λ (l : Todo). SetAt d T t (active_at Woken l) store) (sym e) (inr (refl, subst (λ n. Owes d T n store) (eqb-true due t same) h)))
    (λ other. (e, inl later, h))

set_goes_on : (d : Parts) (T : Turner d) (time t : ℕ) (p : Place) (store : Store) → is_stopped p ≡ true → time < t → SetAt d T time p store → SetAt d T t (woken_at t p) store
set_goes_on d T time t (going gait k) store still less h = absurd (false≢true still)
set_goes_on d T time t (sleeping due k) store still less h = set_later d T t due k store h.0 (omega (arith, less)) h.2
set_goes_on d T time t (inactive k) store still less h = absurd h
set_goes_on d T time t (waiting terms k) store still less h = absurd h
set_goes_on d T time t ended store still less h = absurd h

-- the process behind a step: it has gone on, and the signal is in phase
pub record TurnedAfterStep (d : Parts) (T : Turner d) (time : ℕ) (gait : Gait) (k : Todo) (store : Store) (out : Out) : Type 0 where
  pub at : SetAt d T time (place_after_step (going gait k) time out.next) (store_after store out.write)
  pub has : Has d T time (store_after store out.write)

plus_none : (n m : ℕ) → n ≡ 0 → n + m ≡ m
plus_none n m z = omega (arith, z)

more : (time half : ℕ) → 0 < half → 0 < time + half
more time half h = omega (arith, h)

pub set_steps : (d : Parts) (T : Turner d) (time : ℕ) (gait : Gait) (k : Todo) (store : Store) → GoesOn d T time k store → TurnedAfterStep d T time gait k store (step k store time)
set_steps d T time gait k store (inl (inl e, guard, has)) =
    subst (λ (l : Todo). TurnedAfterStep d T time gait l store (step l store time)) (sym e)
    (subst (TurnedAfterStep d T time gait (begins_todo d T) store) (sym (T.loop.begins [] store time)) (record { at = inl (inr refl, guard, has); has = has }))
set_steps d T time gait k store (inl (inr e, guard, has)) =
    subst (λ (l : Todo). TurnedAfterStep d T time gait l store (step l store time)) (sym e)
    (subst (TurnedAfterStep d T time gait (pauses_todo d T) store) (sym (T.loop.pauses (begins_todo d T) store time)) (record { at = sleeps; has = has }))
  where
    sleeps : SetAt d T time (paused time T.half (turns_todo d T)) store
    sleeps =
        cond_both (T.half == 0) (inactive (turns_todo d T)) (sleeping (time + T.half) (turns_todo d T)) (λ p. SetAt d T time p store)
        (λ none. let zero_half : T.half ≡ 0 = eqb-true T.half 0 none in let some : 0 < T.half = T.loop.above in absurd (omega (arith, zero_half, some)))
        (λ some. (refl, guard, record { up = more time T.half T.loop.above; z = has.z; is = has.is; phase = phase_turns T.digit T.offset T.half time has.z T.known has.phase }))
set_steps d T time gait k store (inr (e, owes)) =
    subst (λ (l : Todo). TurnedAfterStep d T time gait l store (step l store time)) (sym e)
    (subst (TurnedAfterStep d T time gait (turns_todo d T) store) (sym (T.loop.writes (begins_todo d T) store time))
    (record { at = inl (inl refl, inl owes.up, has); has = has }))
  where
    has : Has d T time (put store (assignment T.loop.target T.loop.value store time))
    has = record { z = not_digit owes.z; is = T.turned store time owes.z owes.is; phase = owes.phase }

-- ---- before the signal is set

-- what a step of it leads to: nothing is written, or the signal is set
abbrev pub Stepped : (d : Parts) → Turner d → (ℕ → Place → Store → Type 0) → ℕ → Gait → Todo → Store → Out → Type 0
Stepped d T P time gait k store out = (P time (place_after_step (going gait k) time out.next) store × (out.write ≡ None)) ⊎ TurnedAfterStep d T time gait k store out

-- a property of the process before that
pub record IsBefore (d : Parts) (T : Turner d) (P : ℕ → Place → Store → Type 0) : Type 0 where
  pub steps : (time : ℕ) (gait : Gait) (k : Todo) (store : Store) → P time (going gait k) store → Stepped d T P time gait k store (step k store time)
  pub rouses : (time : ℕ) (p : Place) (store : Store) → P time p store → P time (roused p) store
  pub wakes : (time : ℕ) (old new : Store) (p : Place) (store : Store) → P time p store → P time (wakened old new p) store
  pub kept : (time : ℕ) (p : Place) (a b : Store) → slice_get b T.root ≡ slice_get a T.root → P time p a → P time p b

-- it is before that, or set, or the process goes on by another property, once the first slot is over
abbrev pub Clocked : (d : Parts) → Turner d → (P U : ℕ → Place → Store → Type 0) → ℕ → Place → Store → Type 0
Clocked d T P U time p store = P time p store ⊎ (SetAt d T time p store ⊎ U time p store)

pub clocked_watched : (d : Parts) (T : Turner d) (E : ℕ → Store → Type 0) (P U : ℕ → Place → Store → Type 0) → IsBefore d T P → IsWatched T.root E U →
    ((time t : ℕ) (p : Place) (store : Store) → is_stopped p ≡ true → is_after t p ≡ true → time < t → E time store → P time p store → Clocked d T P U t (woken_at t p) store) →
    IsWatched T.root E (Clocked d T P U)
clocked_watched d T E P U before other goes_on = record {
  steps = steps;
  kept = kept;
  rouses = rouses;
  wakes = wakes;
  goes_on = later;
}
  where
    steps : (time : ℕ) (gait : Gait) (k : Todo) (store : Store) → Clocked d T P U time (going gait k) store →
        Clocked d T P U time (place_after_step (going gait k) time (step k store time).next) (store_after store (step k store time).write)
    steps time gait k store (inr (inl h)) = inr (inl (set_steps d T time gait k store h).at)
    steps time gait k store (inr (inr h)) = inr (inr (other.steps time gait k store h))
    steps time gait k store (inl h) = elim (before.steps time gait k store h) [
      | inl quiet ↦ inl (subst (λ (o : Option Write). P time (place_after_step (going gait k) time (step k store time).next) (store_after store o)) (sym quiet.1) quiet.0)
      | inr set ↦ inr (inl set.at)
    ]

    kept : (time : ℕ) (p : Place) (a b : Store) → slice_get b T.root ≡ slice_get a T.root → Clocked d T P U time p a → Clocked d T P U time p b
    kept time p a b e (inl h) = inl (before.kept time p a b e h)
    kept time p a b e (inr (inl h)) = inr (inl (set_kept d T time p a b e h))
    kept time p a b e (inr (inr h)) = inr (inr (other.kept time p a b e h))

    rouses : (time : ℕ) (p : Place) (store : Store) → Clocked d T P U time p store → Clocked d T P U time (roused p) store
    rouses time p store (inl h) = inl (before.rouses time p store h)
    rouses time p store (inr (inl h)) = inr (inl (set_rouses d T time p store h))
    rouses time p store (inr (inr h)) = inr (inr (other.rouses time p store h))

    wakes : (time : ℕ) (old new : Store) (p : Place) (store : Store) → Clocked d T P U time p store → Clocked d T P U time (wakened old new p) store
    wakes time old new p store (inl h) = inl (before.wakes time old new p store h)
    wakes time old new p store (inr (inl h)) = inr (inl (set_wakes d T time old new p store h))
    wakes time old new p store (inr (inr h)) = inr (inr (other.wakes time old new p store h))

    later : (time t : ℕ) (p : Place) (store : Store) → is_stopped p ≡ true → is_after t p ≡ true → time < t → E time store → Clocked d T P U time p store → Clocked d T P U t (woken_at t p) store
    later time t p store still up less known (inl h) = goes_on time t p store still up less known h
    later time t p store still up less known (inr (inl h)) = inr (inl (set_goes_on d T time t p store still less h))
    later time t p store still up less known (inr (inr h)) = inr (inr (other.goes_on time t p store still up less known h))

-- ---- a thread of the process

-- it has written nothing, or the signal is set, and in phase where the thread has written it
abbrev pub Threaded : (d : Parts) → Turner d → (ℕ → Place → Store → Type 0) → ℕ → Thread → Type 0
Threaded d T P time th = (P time th.place th.view × (th.log ≡ [])) ⊎ (SetAt d T time th.place th.view × (writes th T.root ≡ true → Has d T time th.view))

threaded_turn : (d : Parts) (T : Turner d) (P : ℕ → Place → Store → Type 0) → IsBefore d T P → (time i : ℕ) (p : Place) (th : Thread) → th.place ≡ p → Threaded d T P time th →
    Threaded d T P time (turn_at time i p th)
threaded_turn d T P before time i (going gait k) th e (inr h) =
    let b = set_steps d T time gait k th.view (subst (λ p. SetAt d T time p th.view) e h.0) in
    inr (b.at, λ any. b.has)
threaded_turn d T P before time i (going gait k) th e (inl h) = elim (before.steps time gait k th.view (subst (λ p. P time p th.view) e h.0)) [
  | inl quiet ↦
      inl (
        subst (λ (o : Option Write). P time (place_after_step (going gait k) time (step k th.view time).next) (store_after th.view o)) (sym quiet.1) quiet.0,
        ap (log_after th.log) quiet.1 ∙ h.1,
      )
  | inr set ↦ inr (set.at, λ any. set.has)
]
threaded_turn d T P before time i (inactive k) th e (inl h) = inl (before.rouses time (inactive k) th.view (subst (λ p. P time p th.view) e h.0), h.1)
threaded_turn d T P before time i (inactive k) th e (inr h) = absurd (subst (λ p. SetAt d T time p th.view) e h.0)
threaded_turn d T P before time i (sleeping due k) th e h = h
threaded_turn d T P before time i (waiting terms k) th e h = h
threaded_turn d T P before time i ended th e h = h

pub threaded : (d : Parts) (T : Turner d) (P : ℕ → Place → Store → Type 0) → IsBefore d T P → (time i n : ℕ) (th : Thread) → th.log ≡ [] → P time th.place th.view ⊎ SetAt d T time th.place th.view →
    Threaded d T P time (iterate n (turn time i) th)
threaded d T P before time i zero th no_log (inl h) = inl (h, no_log)
threaded d T P before time i zero th no_log (inr h) = inr (h, λ any. absurd (false≢true (subst (λ (log : List Write). list_any (λ w. names w T.root) log ≡ true) no_log any)))
threaded d T P before time i (suc n) th no_log h =
    let one = iterate n (turn time i) th in
    threaded_turn d T P before time i one.place one refl (threaded d T P before time i n th no_log h)

-- a thread that has written the signal leaves it in phase
pub thread_has : (d : Parts) (T : Turner d) (P : ℕ → Place → Store → Type 0) → IsBefore d T P → (time i n : ℕ) (th : Thread) → th.log ≡ [] → P time th.place th.view ⊎ SetAt d T time th.place th.view →
    writes (iterate n (turn time i) th) T.root ≡ true → Has d T time (iterate n (turn time i) th).view
thread_has d T P before time i n th no_log h wrote = by_case (threaded d T P before time i n th no_log h)
  where
    one : Thread
    one = iterate n (turn time i) th

    by_case : Threaded d T P time one → Has d T time one.view
    by_case (inl quiet) = absurd (false≢true (subst (λ (log : List Write). list_any (λ w. names w T.root) log ≡ true) quiet.1 wrote))
    by_case (inr set) = set.1 wrote

-- ---- a clock that its process sets

-- it has a digit
abbrev pub BitIn : (d : Parts) → Turner d → Store → Type 0
BitIn d T store = (y : Digit) × (slice_get store T.root ≡ Some (one_bit y))

-- the statement that sets it
pub record Setter (d : Parts) (T : Turner d) : Type 0 where
  pub set : Statement
  pub target : Target
  pub value : Typed
  pub gives : GivesDigit target value (bit_of T.root) T.digit
  pub writes : (rest : Todo) (store : Store) (time : ℕ) → step (perform set ∷ rest) store time ≡ record (goes (on rest)) { write = Some (assignment target value store time) }

-- a write leaves it a digit
pub bit_put : (d : Parts) (T : Turner d) (store : Store) (w : Write) → BitIn d T store → BitIn d T (put store w)
bit_put d T store w h = bit_shape (put store w) store T.root h.0 (shape-put store w) h.1

-- it is what the lowest digit behind the write is
pub bit_known : (d : Parts) (T : Turner d) (store : Store) (w : Write) (z : Digit) → BitIn d T store → digit_of (put store w) T.root 0 0 ≡ Some z → slice_get (put store w) T.root ≡ Some (one_bit z)
bit_known d T store w z h there =
    let new = bit_put d T store w h in
    let same : new.0 ≡ z = same_Some new.0 z (sym (bit_digit (put store w) T.root new.0 new.1) ∙ there) in
    new.1 ∙ ap (λ x. Some (one_bit x)) same

-- where it is set, it has the digit
pub set_gives : (d : Parts) (T : Turner d) (S : Setter d T) (store : Store) (time : ℕ) → BitIn d T store → slice_get (put store (assignment S.target S.value store time)) T.root ≡ Some (one_bit T.digit)
set_gives d T S store time h =
    let w : Write = assignment S.target S.value store time in
    let there : digit_of (put store w) T.root 0 0 ≡ Some (laid w T.root 0 0 h.0) = digit-put store w T.root 0 0 ∙ ap (option_map (laid w T.root 0 0)) (bit_digit store T.root h.0 h.1) in
    bit_known d T store w T.digit h (there ∙ ap (λ x. Some x) (assignment_gives S.target S.value store time (bit_of T.root) T.digit h.0 S.gives))

-- what the process has to do where it sets it
abbrev pub sets_todo : (d : Parts) (T : Turner d) → Setter d T → Todo
sets_todo d T S = perform S.set ∷ perform T.loop.forever ∷ []

-- it begins with a delay
pub record Pauses (d : Parts) (T : Turner d) (S : Setter d T) (k : Todo) : Type 0 where
  pub pause : Statement
  pub number : ℕ
  pub is : k ≡ perform pause ∷ perform T.loop.forever ∷ []
  pub pauses : (rest : Todo) (store : Store) (time : ℕ) → step (perform pause ∷ rest) store time ≡ goes (after number T.offset (perform S.set ∷ rest))

abbrev pub SetsAt : (d : Parts) (T : Turner d) → Setter d T → ℕ → Todo → Type 0
SetsAt d T S time k = (k ≡ sets_todo d T S) × (time ≡ T.offset)

abbrev pub Ahead : (d : Parts) (T : Turner d) → Setter d T → ℕ → Place → Type 0
Ahead d T S time (going gait k) = (Pauses d T S k × (time ≡ 0)) ⊎ SetsAt d T S time k
Ahead d T S time (inactive k) = SetsAt d T S time k
Ahead d T S time (sleeping due k) = SetsAt d T S due k
Ahead d T S time (waiting terms k) = ⊥
Ahead d T S time ended = ⊥

abbrev pub Before : (d : Parts) (T : Turner d) → Setter d T → ℕ → Place → Store → Type 0
Before d T S time p store = Ahead d T S time p × BitIn d T store

ahead_active : (d : Parts) (T : Turner d) (S : Setter d T) (time : ℕ) (k : Todo) → SetsAt d T S time k → Ahead d T S time (active_at Woken k)
ahead_active d T S time k h = subst (λ (l : Todo). Ahead d T S time (active_at Woken l)) (sym h.0) (inr (refl, h.1))

ahead_rouses : (d : Parts) (T : Turner d) (S : Setter d T) (time : ℕ) (p : Place) → Ahead d T S time p → Ahead d T S time (roused p)
ahead_rouses d T S time (going gait k) h = h
ahead_rouses d T S time (inactive k) h = ahead_active d T S time k h
ahead_rouses d T S time (sleeping due k) h = h
ahead_rouses d T S time (waiting terms k) h = absurd h
ahead_rouses d T S time ended h = absurd h

ahead_wakes : (d : Parts) (T : Turner d) (S : Setter d T) (time : ℕ) (old new : Store) (p : Place) → Ahead d T S time p → Ahead d T S time (wakened old new p)
ahead_wakes d T S time old new (going gait k) h = h
ahead_wakes d T S time old new (inactive k) h = h
ahead_wakes d T S time old new (sleeping due k) h = h
ahead_wakes d T S time old new (waiting terms k) h = absurd h
ahead_wakes d T S time old new ended h = absurd h

pub before_goes_on : (d : Parts) (T : Turner d) (S : Setter d T) (time t : ℕ) (p : Place) (store : Store) → is_stopped p ≡ true → Before d T S time p store → Before d T S t (woken_at t p) store
before_goes_on d T S time t (going gait k) store still h = absurd (false≢true still)
before_goes_on d T S time t (inactive k) store still h = absurd (false≢true still)
before_goes_on d T S time t (waiting terms k) store still h = absurd h.0
before_goes_on d T S time t ended store still h = absurd h.0
before_goes_on d T S time t (sleeping due k) store still h = (
  cond_both (due == t) (active_at Woken k) (sleeping due k) (λ p. Ahead d T S t p)
      (λ same. ahead_active d T S t k (subst (λ n. SetsAt d T S n k) (eqb-true due t same) h.0))
      (λ other. h.0),
  h.1,
)

pub before_is : (d : Parts) (T : Turner d) (S : Setter d T) → ((time : ℕ) → time ≡ T.offset → Guard d T time) → IsBefore d T (Before d T S)
before_is d T S guard = record {
  steps = steps;
  rouses = λ time p store h. (ahead_rouses d T S time p h.0, h.1);
  wakes = λ time old new p store h. (ahead_wakes d T S time old new p h.0, h.1);
  kept = λ time p a b e h. (h.0, (h.1.0, e ∙ h.1.1));
}
  where
    pausing : (time number : ℕ) (store : Store) → time ≡ 0 → BitIn d T store → Before d T S time (paused time T.offset (sets_todo d T S)) store
    pausing time number store z bit = (
      cond_both (T.offset == 0) (inactive (sets_todo d T S)) (sleeping (time + T.offset) (sets_todo d T S)) (λ p. Ahead d T S time p)
          (λ none. let zero_offset : T.offset ≡ 0 = eqb-true T.offset 0 none in (refl, z ∙ sym zero_offset))
          (λ some. (refl, plus_none time T.offset z)),
      bit,
    )

    steps : (time : ℕ) (gait : Gait) (k : Todo) (store : Store) → Before d T S time (going gait k) store → Stepped d T (Before d T S) time gait k store (step k store time)
    steps time gait k store (inl (p, z), bit) =
        subst (λ (l : Todo). Stepped d T (Before d T S) time gait l store (step l store time)) (sym p.is)
        (subst (Stepped d T (Before d T S) time gait (perform p.pause ∷ perform T.loop.forever ∷ []) store) (sym (p.pauses (begins_todo d T) store time))
        (inl (pausing time p.number store z bit, refl)))
    steps time gait k store (inr (e, at), bit) =
        subst (λ (l : Todo). Stepped d T (Before d T S) time gait l store (step l store time)) (sym e)
        (subst (Stepped d T (Before d T S) time gait (sets_todo d T S) store) (sym (S.writes (begins_todo d T) store time))
        (inr (record { at = inl (inl refl, guard time at, has); has = has })))
      where
        has : Has d T time (put store (assignment S.target S.value store time))
        has = record { z = T.digit; is = set_gives d T S store time bit; phase = inl (refl, ap (λ n. n % (2 * T.half)) at) }

-- ---- a clock that another process sets

abbrev pub Early : (d : Parts) (T : Turner d) → ℕ → Place → Store → Type 0
Early d T time (going gait k) store = (time ≡ 0) × ((k ≡ begins_todo d T) ⊎ (k ≡ pauses_todo d T))
Early d T time (sleeping due k) store = (time ≡ 0) × (k ≡ turns_todo d T) × (due ≡ T.half)
Early d T time (inactive k) store = ⊥
Early d T time (waiting terms k) store = ⊥
Early d T time ended store = ⊥

pub early_any : (d : Parts) (T : Turner d) (time : ℕ) (p : Place) (a b : Store) → Early d T time p a → Early d T time p b
early_any d T time (going gait k) a b h = h
early_any d T time (sleeping due k) a b h = h
early_any d T time (inactive k) a b h = absurd h
early_any d T time (waiting terms k) a b h = absurd h
early_any d T time ended a b h = absurd h

pub early_is : (d : Parts) (T : Turner d) → IsBefore d T (Early d T)
early_is d T = record { steps = steps; rouses = rouses; wakes = wakes; kept = λ time p a b e h. early_any d T time p a b h }
  where
    pausing : (time : ℕ) (store : Store) → time ≡ 0 → Early d T time (paused time T.half (turns_todo d T)) store
    pausing time store z =
        cond_both (T.half == 0) (inactive (turns_todo d T)) (sleeping (time + T.half) (turns_todo d T)) (λ p. Early d T time p store)
        (λ none. let zero_half : T.half ≡ 0 = eqb-true T.half 0 none in let some : 0 < T.half = T.loop.above in absurd (omega (arith, zero_half, some)))
        (λ some. (z, refl, plus_none time T.half z))

    steps : (time : ℕ) (gait : Gait) (k : Todo) (store : Store) → Early d T time (going gait k) store → Stepped d T (Early d T) time gait k store (step k store time)
    steps time gait k store (z, inl e) =
        subst (λ (l : Todo). Stepped d T (Early d T) time gait l store (step l store time)) (sym e)
        (subst (Stepped d T (Early d T) time gait (begins_todo d T) store) (sym (T.loop.begins [] store time)) (inl ((z, inr refl), refl)))
    steps time gait k store (z, inr e) =
        subst (λ (l : Todo). Stepped d T (Early d T) time gait l store (step l store time)) (sym e)
        (subst (Stepped d T (Early d T) time gait (pauses_todo d T) store) (sym (T.loop.pauses (begins_todo d T) store time)) (inl (pausing time store z, refl)))

    rouses : (time : ℕ) (p : Place) (store : Store) → Early d T time p store → Early d T time (roused p) store
    rouses time (going gait k) store h = h
    rouses time (sleeping due k) store h = h
    rouses time (inactive k) store h = absurd h
    rouses time (waiting terms k) store h = absurd h
    rouses time ended store h = absurd h

    wakes : (time : ℕ) (old new : Store) (p : Place) (store : Store) → Early d T time p store → Early d T time (wakened old new p) store
    wakes time old new (going gait k) store h = h
    wakes time old new (sleeping due k) store h = h
    wakes time old new (inactive k) store h = absurd h
    wakes time old new (waiting terms k) store h = absurd h
    wakes time old new ended store h = absurd h

-- the first slot ends where the signal has its digit
abbrev pub HasAtEnd : (d : Parts) (T : Turner d) → ℕ → Store → Type 0
HasAtEnd d T time store = time ≡ 0 → slice_get store T.root ≡ Some (one_bit T.digit)

pub early_goes_on : (d : Parts) (T : Turner d) → T.offset ≡ 0 → (time t : ℕ) (p : Place) (store : Store) → is_stopped p ≡ true → time < t → HasAtEnd d T time store →
    Early d T time p store → SetAt d T t (woken_at t p) store
early_goes_on d T none time t (going gait k) store still less known h = absurd (false≢true still)
early_goes_on d T none time t (inactive k) store still less known h = absurd h
early_goes_on d T none time t (waiting terms k) store still less known h = absurd h
early_goes_on d T none time t ended store still less known h = absurd h
early_goes_on d T none time t (sleeping due k) store still less known (z, e, at) =
    set_later d T t due k store e (omega (arith, less)) (record {
      up = let some : 0 < T.half = T.loop.above in omega (arith, at, some);
      z = T.digit;
      is = known z;
      phase = inr (refl, ap (λ n. n % (2 * T.half)) (at ∙ sym (plus_none T.offset T.half none)));
    })
