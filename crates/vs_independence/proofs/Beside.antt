-- A clock that another process sets beside other statements: in the first slot, or never.
use Rattle.std.proofs.Common.{◌≡◌, ℕ, ◌+◌, ◌<◌, ◌==◌, ◌⊎◌, true, Some, List, [], get_or, slice_get, refl, sym, ◌∙◌, subst, inl, inr, arith}
use Rattle.std.proofs.lemmas.Bool.{cond_both, eqb-true, false≢true}
use Rattle.vs_design.specs.vs_logic4.specs.declared.digit.Digit.TheVariants.{X}
use Rattle.vs_design.specs.Parts.{Parts}
use Rattle.vs_design.specs.Stores.{Store, put}
use Rattle.vs_design.specs.Writes.{Write}
use Rattle.vs_process.specs.declared.gait.Gait.{Gait}
use Rattle.vs_process.specs.declared.gait.Gait.TheVariants.{Woken}
use Rattle.vs_process.specs.Nexts.{erased}
use Rattle.vs_process.specs.Places.{Todo, Place, going, sleeping, inactive, waiting, ended, active_at}
use Rattle.vs_process.specs.Steps.{Out, step}
use Rattle.vs_independence.specs.vs_process.specs.declared.moves.Grain.{Grain}
use Rattle.vs_independence.specs.vs_process.specs.declared.moves.Move.{Move}
use Rattle.vs_independence.specs.vs_process.specs.States.{place_after_step, paused, roused, start, wakened, woken_at}
use Rattle.vs_independence.specs.vs_process.specs.Executions.{after as reached, Legal}
use Rattle.vs_independence.specs.vs_process.proofs.WellFormed.{variable_undriven}
use Rattle.vs_rules.specs.vs_process.specs.Edges.{one_bit}
use Rattle.vs_rules.specs.vs_process.specs.Threads.{store_after}
use Rattle.vs_rules.specs.vs_process.proofs.Threads.{is_stopped}
use Rattle.vs_rules.specs.Claims.{Claims, IsWriter}
use Rattle.vs_rules.specs.Constants.{bit_of, Gives, SetsAlike}
use Rattle.vs_rules.specs.Paths.{IsPoint, Writes, WritesNow}
use Rattle.vs_independence.specs.RuleLaws.{TimeRises}
use Rattle.vs_independence.proofs.RulesFire.{bit_digit}
use Rattle.vs_independence.proofs.Gave.{step_gives}
use Rattle.vs_independence.proofs.Seconds.{LedAt, RootOf, led_at, alone_now, updates_miss}
use Rattle.vs_rules.proofs.Texts.{writes_now}
use Rattle.vs_independence.proofs.Turning.{Turner, begins_todo, pauses_todo, turns_todo, guard_of, Stepped, IsBefore, Clocked, clocked_watched, BitIn, bit_known, Early, early_any, early_is, early_goes_on}
use Rattle.vs_independence.proofs.Watch.{IsWatched, IsLeft, Seen, seen_after}
use Rattle.vs_independence.proofs.Words.{step_now}

-- ---- a clock that was never set

-- its process goes round its loop
abbrev Round : (d : Parts) → Turner d → Place → Type 0
Round d T (going gait k) = (k ≡ begins_todo d T) ⊎ ((k ≡ pauses_todo d T) ⊎ (k ≡ turns_todo d T))
Round d T (sleeping due k) = k ≡ turns_todo d T
Round d T (inactive k) = ⊥
Round d T (waiting terms k) = ⊥
Round d T ended = ⊥

-- above time 0 it is x: what turns it leaves it x
abbrev pub Unset : (d : Parts) → Turner d → ℕ → Place → Store → Type 0
Unset d T time p store = (0 < time) × Round d T p × (slice_get store T.root ≡ Some (one_bit X))

-- so it is behind a step
abbrev Went : (d : Parts) → Turner d → ℕ → Gait → Todo → Store → Out → Type 0
Went d T time gait k store out = Unset d T time (place_after_step (going gait k) time out.next) (store_after store out.write)

unset_steps : (d : Parts) (T : Turner d) (time : ℕ) (gait : Gait) (k : Todo) (store : Store) → Unset d T time (going gait k) store → Went d T time gait k store (step k store time)
unset_steps d T time gait k store (up, inl e, x) =
    subst (λ (l : Todo). Went d T time gait l store (step l store time)) (sym e)
    (subst (Went d T time gait (begins_todo d T) store) (sym (T.loop.begins [] store time)) (up, inr (inl refl), x))
unset_steps d T time gait k store (up, inr (inl e), x) =
    subst (λ (l : Todo). Went d T time gait l store (step l store time)) (sym e)
    (subst (Went d T time gait (pauses_todo d T) store) (sym (T.loop.pauses (begins_todo d T) store time)) sleeps)
  where
    sleeps : Unset d T time (paused time T.half (turns_todo d T)) store
    sleeps =
        cond_both (T.half == 0) (inactive (turns_todo d T)) (sleeping (time + T.half) (turns_todo d T)) (λ p. Unset d T time p store)
        (λ none. let zero_half : T.half ≡ 0 = eqb-true T.half 0 none in let some : 0 < T.half = T.loop.above in absurd (omega (arith, zero_half, some)))
        (λ some. (up, refl, x))
unset_steps d T time gait k store (up, inr (inr e), x) =
    subst (λ (l : Todo). Went d T time gait l store (step l store time)) (sym e)
    (subst (Went d T time gait (turns_todo d T) store) (sym (T.loop.writes (begins_todo d T) store time)) (up, inl refl, T.turned store time X x))

round_rouses : (d : Parts) (T : Turner d) (p : Place) → Round d T p → Round d T (roused p)
round_rouses d T (going gait k) h = h
round_rouses d T (sleeping due k) h = h
round_rouses d T (inactive k) h = absurd h
round_rouses d T (waiting terms k) h = absurd h
round_rouses d T ended h = absurd h

round_wakes : (d : Parts) (T : Turner d) (old new : Store) (p : Place) → Round d T p → Round d T (wakened old new p)
round_wakes d T old new (going gait k) h = h
round_wakes d T old new (sleeping due k) h = h
round_wakes d T old new (inactive k) h = absurd h
round_wakes d T old new (waiting terms k) h = absurd h
round_wakes d T old new ended h = absurd h

-- what sleeps till a time, at another
round_later : (d : Parts) (T : Turner d) (t due : ℕ) (k : Todo) → k ≡ turns_todo d T → Round d T (woken_at t (sleeping due k))
round_later d T t due k e =
    cond_both (due == t) (active_at Woken k) (sleeping due k) (Round d T) (λ same. subst (λ (l : Todo). Round d T (active_at Woken l)) (sym e) (inr (inr refl))) (λ other. e)

round_goes_on : (d : Parts) (T : Turner d) (t : ℕ) (p : Place) → is_stopped p ≡ true → Round d T p → Round d T (woken_at t p)
round_goes_on d T t (going gait k) still h = absurd (false≢true still)
round_goes_on d T t (sleeping due k) still h = round_later d T t due k h
round_goes_on d T t (inactive k) still h = absurd h
round_goes_on d T t (waiting terms k) still h = absurd h
round_goes_on d T t ended still h = absurd h

pub unset_watched : (d : Parts) (T : Turner d) → IsWatched T.root (λ time store. Unit {0}) (Unset d T)
unset_watched d T = record {
  steps = λ time gait k store h. unset_steps d T time gait k store h;
  kept = λ time p a b e h. (h.0, h.1, e ∙ h.2);
  rouses = λ time p store h. (h.0, round_rouses d T p h.1, h.2);
  wakes = λ time old new p store h. (h.0, round_wakes d T old new p h.1, h.2);
  goes_on = λ time t p store still due less known h. (omega (arith, less), round_goes_on d T t p still h.1, h.2);
}

-- ---- the first slot

-- its process has still to turn it, and it is x, or it has its digit
abbrev pub Beside : (d : Parts) → Turner d → ℕ → Place → Store → Type 0
Beside d T time p store = Early d T time p store × ((slice_get store T.root ≡ Some (one_bit X)) ⊎ (slice_get store T.root ≡ Some (one_bit T.digit)))

pub beside_is : (d : Parts) (T : Turner d) → IsBefore d T (Beside d T)
beside_is d T = record {
  steps = steps;
  rouses = λ time p store h. (early.rouses time p store h.0, h.1);
  wakes = λ time old new p store h. (early.wakes time old new p store h.0, h.1);
  kept = λ time p a b e h. (early.kept time p a b e h.0, either a b e h.1);
}
  where
    early : IsBefore d T (Early d T)
    early = early_is d T

    either : (a b : Store) → slice_get b T.root ≡ slice_get a T.root → (slice_get a T.root ≡ Some (one_bit X)) ⊎ (slice_get a T.root ≡ Some (one_bit T.digit)) →
        (slice_get b T.root ≡ Some (one_bit X)) ⊎ (slice_get b T.root ≡ Some (one_bit T.digit))
    either a b e (inl x) = inl (e ∙ x)
    either a b e (inr set) = inr (e ∙ set)

    steps : (time : ℕ) (gait : Gait) (k : Todo) (store : Store) → Beside d T time (going gait k) store → Stepped d T (Beside d T) time gait k store (step k store time)
    steps time gait k store h = elim (early.steps time gait k store h.0) [
      | inl quiet ↦ inl ((quiet.0, h.1), quiet.1)
      | inr set ↦ inr set
    ]

-- the first slot ends: it is set then, or never
beside_goes_on : (d : Parts) (T : Turner d) → T.offset ≡ 0 → (time t : ℕ) (p : Place) (store : Store) → is_stopped p ≡ true → time < t → Beside d T time p store → Clocked d T (Beside d T) (Unset d T) t (woken_at t p) store
beside_goes_on d T none time t p store still less (early, inr set) = inr (inl (early_goes_on d T none time t p store still less (λ z. set) early))
beside_goes_on d T none time t (going gait k) store still less (early, inl x) = absurd (false≢true still)
beside_goes_on d T none time t (sleeping due k) store still less (early, inl x) = inr (inr (omega (arith, less), round_later d T t due k early.1, x))
beside_goes_on d T none time t (inactive k) store still less (early, inl x) = absurd early
beside_goes_on d T none time t (waiting terms k) store still less (early, inl x) = absurd early
beside_goes_on d T none time t ended store still less (early, inl x) = absurd early

-- in every execution
pub beside_seen : (grain : Grain) (d : Parts) (c : Claims) (T : Turner d) → RootOf d c T.root → TimeRises grain d → IsWriter d c T.root T.process → (j : ℕ) → SetsAlike d T.root T.digit j →
    ((k : ℕ) → Writes d k T.root → (k ≡ T.process) ⊎ (k ≡ j)) → T.offset ≡ 0 → Beside d T 0 (get_or (start d).places T.process ended) (start d).store →
    (moves : List Move) → Legal grain d moves → Seen (Clocked d T (Beside d T) (Unset d T)) T.process (reached d moves)
beside_seen grain d c T root up writer j alike only none first =
    seen_after grain d root.formed up T.root (λ time store. Unit {0}) (Clocked d T (Beside d T) (Unset d T))
    (clocked_watched d T (λ time store. Unit {0}) (Beside d T) (Unset d T) (beside_is d T) (unset_watched d T) (λ time t p store still due less known h. beside_goes_on d T none time t p store still less h))
    (λ moves l e. tt) T.process left (inl first)
  where
    -- what another process writes to it is its digit
    gives : (i : ℕ) (k : Todo) → IsPoint d i k → WritesNow d k T.root → (T.process ≡ i → ⊥) → Gives k (bit_of T.root) T.digit
    gives i k point now ne = by_who (only i (writes_now d i k T.root point now))
      where
        by_who : (i ≡ T.process) ⊎ (i ≡ j) → Gives k (bit_of T.root) T.digit
        by_who (inl own) = absurd (ne (sym own))
        by_who (inr other) = alike.gives k (subst (λ n. IsPoint d n k) other point) now

    bit : (store : Store) → (slice_get store T.root ≡ Some (one_bit X)) ⊎ (slice_get store T.root ≡ Some (one_bit T.digit)) → BitIn d T store
    bit store (inl x) = (X, x)
    bit store (inr set) = (T.digit, set)

    set_by : (time i : ℕ) (k : Todo) (store : Store) (w : Write) → IsPoint d i (erased k) → WritesNow d (erased k) T.root → (T.process ≡ i → ⊥) → (step k store time).write ≡ Some w → BitIn d T store →
        slice_get (put store w) T.root ≡ Some (one_bit T.digit)
    set_by time i k store w point now ne is h =
        bit_known d T store w T.digit h (step_gives k store time T.root w T.digit h.0 (gives i (erased k) point now ne) is (bit_digit store T.root h.0 h.1))

    stays : (time i : ℕ) (k : Todo) (p : Place) (store : Store) (w : Write) → LedAt d c i time (erased k) → WritesNow d (erased k) T.root → (T.process ≡ i → ⊥) → (step k store time).write ≡ Some w →
        Clocked d T (Beside d T) (Unset d T) time p store → Clocked d T (Beside d T) (Unset d T) time p (put store w)
    stays time i k p store w led now ne is (inl h) = inl (early_any d T time p store (put store w) h.0, inr (set_by time i k store w led.0 now ne is (bit store h.1)))
    stays time i k p store w led now ne is (inr (inl h)) = absurd (alone_now d c T.root root T.process writer time i (erased k) led now (guard_of d T time p store h) ne)
    stays time i k p store w led now ne is (inr (inr h)) = absurd (alone_now d c T.root root T.process writer time i (erased k) led now (inl h.0) ne)

    left : IsLeft grain d T.root T.process (Clocked d T (Beside d T) (Unset d T))
    left = record {
      undriven = variable_undriven d root.formed T.root root.sound.variable;
      updates = λ moves l i u is. updates_miss grain d c T.root root moves l i u is;
      others = λ moves l i gait k w ne at is hit h.
          let s = reached d moves in
          stays s.time i k (get_or s.places T.process ended) s.store w (led_at grain d c moves l i gait k at) (step_now d k s.store s.time w T.root is hit) ne is h;
    }
