-- What is said of nets is kept: each is calm, or something stirred reaches it.
use Rattle.std.proofs.Common.{◌≡◌, ℕ, ◌⊎◌, true, Option, Some, None, option_map, List, map, slice_get, slice_set, refl, sym, ◌∙◌, ap, subst, inl, inr, Bool, false}
use Rattle.std.specs.List.{list_any, Contains}
use Rattle.std.proofs.lemmas.Bool.{cases_Bool, false_from_ne_true, or_from, true≢false}
use Rattle.vs_design.specs.vs_logic4.specs.declared.digit.Digit.{Digit}
use Rattle.vs_design.specs.declared.design.Assign.{Assign}
use Rattle.vs_design.specs.declared.range.BitRange.{BitRange}
use Rattle.vs_design.specs.declared.statement.Target.{Target}
use Rattle.vs_design.specs.Parts.{Parts}
use Rattle.vs_design.specs.Stores.{Store, put, is_changed}
use Rattle.vs_design.specs.Writes.{Write, names}
use Rattle.vs_design.specs.Uses.{covers, reads}
use Rattle.vs_design.specs.Uses as uses
use Rattle.vs_process.specs.vs_eval.specs.Laws.{digit_of}
use Rattle.vs_process.specs.vs_eval.specs.Targets.{assigned}
use Rattle.vs_process.specs.States.{State, AssignState, touched, evaluated, settled, wakened}
use Rattle.vs_process.proofs.Digits.{digit-put, kept_digit, laid, unnamed_keeps}
use Rattle.vs_process.proofs.ProcessLists.{map_cases, set_cases}
use Rattle.vs_design.specs.vs_logic4.proofs.Basics.{element_of as any_at}
use Rattle.vs_process.proofs.Ranges.{assigned_fixed, covered_signal, fixed_write, uncovered_keeps}
use Rattle.vs_process.proofs.Stores.{put_other}
use Rattle.vs_process.proofs.Values.{not_changed}
use Rattle.vs_process.proofs.Assigns.{AssignsSound, link_of, assign_driven, assign_fixed, IsUndriven, misses, apart_targets}
use Rattle.vs_process.specs.Feeds.{writes_into}
use Rattle.vs_process.specs.Threads.{store_after, Thread, writes}
use Rattle.vs_independence.specs.Discipline.{here, through, past}
use Rattle.vs_process.proofs.ThreadAssigns.{DrivesWell, assigns_after_write}
use Rattle.vs_process.proofs.Feeds.{changed_into}
use Rattle.vs_process.proofs.ThreadLists.{contains_at}
use Rattle.vs_independence.proofs.Running.{Stirred, IsCalm, IsStirred, Nets, by_write, by_start, IsAwake, Rests, by_rest, IsRested}
use Rattle.vs_process.specs.BlockDrivers.{control, puts_into, puts_out}
use Rattle.vs_process.specs.Places.{Place, ended}
use Rattle.vs_process.proofs.Texts.{Text, home_stays}
use Rattle.std.proofs.Math.ListN.{get_or-map}

-- more that threads have written stirs more
stirred_more : (d : Parts) (blocks : ℕ → Bool) (b : State) (th more : ℕ → Thread) → ((i u : ℕ) → writes (th i) u ≡ true → writes (more i) u ≡ true) → (r : BitRange) → Stirred d blocks b th r → Stirred d blocks b more r
stirred_more d blocks b th more f r (by_write i u wrote reach) = by_write i u (f i u wrote) reach
stirred_more d blocks b th more f r (by_start j u y at_j needs named reach) = by_start j u y at_j needs named reach
stirred_more d blocks b th more f r (by_rest k u is goes named reach) = by_rest k u is goes named reach

pub all_stirred_more : (d : Parts) (blocks : ℕ → Bool) (b : State) (th more : ℕ → Thread) → ((i u : ℕ) → writes (th i) u ≡ true → writes (more i) u ≡ true) → (x : AssignState) → IsStirred d blocks b th x → IsStirred d blocks b more x
all_stirred_more d blocks b th more f x stirred r into = stirred_more d blocks b th more f r (stirred r into)

-- what is stirred stirs what reads it
stirred_through : (d : Parts) (blocks : ℕ → Bool) (b : State) (th : ℕ → Thread) (q r : BitRange) (j : ℕ) (a : Assign) → slice_get d.assigns j ≡ Some a → Contains (reads a.source) q → writes_into d a.target r ≡ true → Stirred d blocks b th q → Stirred d blocks b th r
stirred_through d blocks b th q r j a is reads into (by_write i u wrote reach) = by_write i u wrote (through q r j a reach is reads into)
stirred_through d blocks b th q r j a is reads into (by_start k u y at_k needs named reach) = by_start k u y at_k needs named (through q r j a reach is reads into)
stirred_through d blocks b th q r j a is reads into (by_rest k u at_k goes named reach) = by_rest k u at_k goes named (through q r j a reach is reads into)

-- the same of an assignment of a state
stirs : (d : Parts) (blocks : ℕ → Bool) (b : State) (th : ℕ → Thread) (store : Store) (assigns : List AssignState) → AssignsSound d store assigns → (j : ℕ) (q : BitRange) (x : AssignState) → slice_get assigns j ≡ Some x →
    Contains (reads x.source) q → Stirred d blocks b th q → IsStirred d blocks b th x
stirs d blocks b th store assigns sound j q x is reads_q stirred r into =
    let a = link_of d.assigns assigns j x sound.linked is in
    stirred_through d blocks b th q r j a.0 a.1 (subst (λ e. Contains (reads e) q) (sym a.3) reads_q) (ap (λ (t : Target). writes_into d t r) a.2 ∙ into) stirred

-- it reads a range that is changed
abbrev ReadsChanged : Store → Store → AssignState → Type 0
ReadsChanged old new x = (q : BitRange) × Contains (reads x.source) q × (is_changed old new q ≡ true)

-- a calm assignment behind a change of the store that leaves its bits: it is calm still, or it reads something that is changed
calm_touched : (b : State) (old new : Store) (x : AssignState) → ((v w k : ℕ) → list_any (covers v w k) (uses.writes x.target) ≡ true → digit_of new v w k ≡ digit_of old v w k) → IsCalm b old x →
    IsCalm b new (touched old new x) ⊎ ReadsChanged old new x
calm_touched b old new x same calm =
    elim (cases_Bool (list_any (is_changed old new) (reads x.source))) [
      | inl hit ↦ let found = any_at (is_changed old new) (reads x.source) hit in inr (found.1, contains_at (reads x.source) found.0 found.1 found.2, found.3)
      | inr miss ↦ inl (or_from x.needs (list_any (is_changed old new) (reads x.source)) calm.0 miss, calm.1, λ v w k h. same v w k h ∙ calm.2 v w k h)
    ]

-- what a write of a thread changes is stirred
pub stirred_written : (d : Parts) (blocks : ℕ → Bool) (b : State) (store : Store) (more : ℕ → Thread) (w : Write) → ((v : ℕ) → names w v ≡ true → (i : ℕ) × (writes (more i) v ≡ true)) →
    (q : BitRange) → is_changed store (put store w) q ≡ true → Stirred d blocks b more q
stirred_written d blocks b store more w wrote q changed =
    elim (cases_Bool (names w q.signal)) [
      | inl hit ↦ let by = wrote q.signal hit in by_write by.0 q.signal by.1 (here q refl)
      | inr miss ↦ absurd (true≢false (sym changed ∙ not_changed store (put store w) q (put_other store w q.signal miss)))
    ]

-- behind a write of a process
pub nets_written : (d : Parts) (blocks : ℕ → Bool) (b : State) (store : Store) (assigns : List AssignState) (th more : ℕ → Thread) → AssignsSound d store assigns → (w : Write) → IsUndriven d w →
    ((q : BitRange) → is_changed store (put store w) q ≡ true → Stirred d blocks b more q) → ((i u : ℕ) → writes (th i) u ≡ true → writes (more i) u ≡ true) →
    Nets d blocks b store assigns th → Nets d blocks b (put store w) (map (touched store (put store w)) assigns) more
nets_written d blocks b store assigns th more sound w undriven wrote grows nets j y is = at_assign (map_cases (touched store (put store w)) assigns j y is)
  where
    read_written : (x : AssignState) → slice_get assigns j ≡ Some x → ReadsChanged store (put store w) x → IsStirred d blocks b more x
    read_written x at_j (q, reads, changed) = stirs d blocks b more store assigns sound j q x at_j reads (wrote q changed)

    kept : (x : AssignState) → slice_get assigns j ≡ Some x → (v n k : ℕ) → list_any (covers v n k) (uses.writes x.target) ≡ true → digit_of (put store w) v n k ≡ digit_of store v n k
    kept x at_j v n k h = kept_digit store w v n k (unnamed_keeps w v n k (misses d w undriven v (assign_driven d store assigns sound j x v at_j (covered_signal v n k x.target h))))

    calm_or_stirred : (x : AssignState) → slice_get assigns j ≡ Some x → (IsCalm b store x ⊎ IsStirred d blocks b th x) → IsCalm b (put store w) (touched store (put store w) x) ⊎ IsStirred d blocks b more x
    calm_or_stirred x at_j (inr stirred) = inr (all_stirred_more d blocks b th more grows x stirred)
    calm_or_stirred x at_j (inl calm) =
        elim (calm_touched b store (put store w) x (kept x at_j) calm) [
          | inl still ↦ inl still
          | inr read ↦ inr (read_written x at_j read)
        ]

    at_assign : ((x : AssignState) × (slice_get assigns j ≡ Some x) × (touched store (put store w) x ≡ y)) → IsCalm b (put store w) y ⊎ IsStirred d blocks b more y
    at_assign (x, at_j, e) = subst (λ (z : AssignState). IsCalm b (put store w) z ⊎ IsStirred d blocks b more z) e (calm_or_stirred x at_j (nets j x at_j))

pub nets_behind : (d : Parts) (blocks : ℕ → Bool) (b : State) (store : Store) (assigns : List AssignState) (th more : ℕ → Thread) → AssignsSound d store assigns → (o : Option Write) → ((w : Write) → o ≡ Some w → IsUndriven d w) →
    ((w : Write) → o ≡ Some w → (q : BitRange) → is_changed store (put store w) q ≡ true → Stirred d blocks b more q) → ((i u : ℕ) → writes (th i) u ≡ true → writes (more i) u ≡ true) →
    Nets d blocks b store assigns th → Nets d blocks b (store_after store o) (assigns_after_write store o assigns) more
nets_behind d blocks b store assigns th more sound None undriven wrote grows nets j x is = elim (nets j x is) [
  | inl calm ↦ inl calm
  | inr stirred ↦ inr (all_stirred_more d blocks b th more grows x stirred)
]
nets_behind d blocks b store assigns th more sound (Some w) undriven wrote grows nets j x is = nets_written d blocks b store assigns th more sound w (undriven w refl) (wrote w refl) grows nets j x is

-- behind an evaluation: what has to be evaluated isn't calm
pub nets_evaluated : (d : Parts) (blocks : ℕ → Bool) (b : State) (store : Store) (time : ℕ) (assigns : List AssignState) (th : ℕ → Thread) (j : ℕ) (x : AssignState) → slice_get assigns j ≡ Some x → x.needs ≡ true →
    Nets d blocks b store assigns th → Nets d blocks b store (slice_set assigns j (evaluated store time x)) th
nets_evaluated d blocks b store time assigns th j x is needs nets k y at_k = elim (set_cases assigns j k x (evaluated store time x) y is at_k) [
  | inl same ↦ inr (subst (λ (z : AssignState). IsStirred d blocks b th z) (sym same.1) (stirred_of (nets j x is)))
  | inr other ↦ nets k y other.1
]
  where
    stirred_of : (IsCalm b store x ⊎ IsStirred d blocks b th x) → IsStirred d blocks b th x
    stirred_of (inl calm) = absurd (true≢false (sym needs ∙ calm.0))
    stirred_of (inr stirred) = stirred

-- behind an update of an assignment: what waits to be written isn't calm
nets_fixed : (d : Parts) (blocks : ℕ → Bool) (well : DrivesWell d) (b : State) (store : Store) (assigns : List AssignState) (th : ℕ → Thread) → AssignsSound d store assigns → (j : ℕ) (x : AssignState) (digits : List Digit) →
    slice_get assigns j ≡ Some x → x.pending ≡ Some digits → Nets d blocks b store assigns th →
    Nets d blocks b (put store (fixed_write x.target digits)) (map (touched store (put store (fixed_write x.target digits))) (slice_set assigns j (settled x))) th
nets_fixed d blocks well b store assigns th sound j x digits is waits nets k y at_k = at_assign (map_cases (touched store new) (slice_set assigns j (settled x)) k y at_k)
  where
    new : Store
    new = put store (fixed_write x.target digits)

    source : (IsCalm b store x ⊎ IsStirred d blocks b th x) → IsStirred d blocks b th x
    source (inl calm) = let e : None ≡ Some digits = sym calm.1 ∙ waits in cc
    source (inr stirred) = stirred

    read_written : (z : AssignState) → slice_get assigns k ≡ Some z → ReadsChanged store new z → IsStirred d blocks b th z
    read_written z at_z (q, reads, changed) =
        stirs d blocks b th store assigns sound k q z at_z reads (source (nets j x is) q (changed_into d store sound.shaped x.target digits q (assign_fixed d well.places store assigns sound j x is) changed))

    kept : (z : AssignState) → (k ≡ j → ⊥) → slice_get assigns k ≡ Some z → (v w n : ℕ) → list_any (covers v w n) (uses.writes z.target) ≡ true → digit_of new v w n ≡ digit_of store v w n
    kept z ne at_z v w n h = at_digit (digit_of store v w n) refl
      where
        at_digit : (o : Option Digit) → digit_of store v w n ≡ o → digit_of new v w n ≡ digit_of store v w n
        at_digit None none = digit-put store (fixed_write x.target digits) v w n ∙ ap (option_map (laid (fixed_write x.target digits) v w n)) none ∙ sym none
        at_digit (Some y) there =
            kept_digit store (fixed_write x.target digits) v w n
            (uncovered_keeps x.target digits v w n (assign_fixed d well.places store assigns sound j x is)
            (false_from_ne_true (list_any (covers v w n) (uses.writes x.target)) (λ own. apart_targets d well.places store assigns sound j k x z is at_z (λ e. ne (sym e)) v w n y there own h)))

    calm_or_stirred : (z : AssignState) → (k ≡ j → ⊥) → slice_get assigns k ≡ Some z → (IsCalm b store z ⊎ IsStirred d blocks b th z) → IsCalm b new (touched store new z) ⊎ IsStirred d blocks b th z
    calm_or_stirred z ne at_z (inr stirred) = inr stirred
    calm_or_stirred z ne at_z (inl calm) =
        elim (calm_touched b store new z (kept z ne at_z) calm) [
          | inl still ↦ inl still
          | inr read ↦ inr (read_written z at_z read)
        ]

    at_set : (z : AssignState) → (((k ≡ j) × (z ≡ settled x)) ⊎ ((k ≡ j → ⊥) × (slice_get assigns k ≡ Some z))) → IsCalm b new (touched store new z) ⊎ IsStirred d blocks b th z
    at_set z (inl own) = inr (subst (λ (z : AssignState). IsStirred d blocks b th z) (sym own.1) (source (nets j x is)))
    at_set z (inr other) = calm_or_stirred z other.0 other.1 (nets k z other.1)

    at_assign : ((z : AssignState) × (slice_get (slice_set assigns j (settled x)) k ≡ Some z) × (touched store new z ≡ y)) → IsCalm b new y ⊎ IsStirred d blocks b th y
    at_assign (z, at_z, e) = subst (λ (z : AssignState). IsCalm b new z ⊎ IsStirred d blocks b th z) e (at_set z (set_cases assigns j k x (settled x) z is at_z))

pub nets_propagated : (d : Parts) (blocks : ℕ → Bool) (well : DrivesWell d) (b : State) (store : Store) (time : ℕ) (assigns : List AssignState) (th : ℕ → Thread) → AssignsSound d store assigns → (j : ℕ) (x : AssignState) (digits : List Digit) →
    slice_get assigns j ≡ Some x → x.pending ≡ Some digits → Nets d blocks b store assigns th →
    Nets d blocks b (put store (assigned x.target digits store time)) (map (touched store (put store (assigned x.target digits store time))) (slice_set assigns j (settled x))) th
nets_propagated d blocks well b store time assigns th sound j x digits is waits nets =
    subst (λ w. Nets d blocks b (put store w) (map (touched store (put store w)) (slice_set assigns j (settled x))) th)
    (sym (assigned_fixed x.target digits store time (assign_fixed d well.places store assigns sound j x is))) (nets_fixed d blocks well b store assigns th sound j x digits is waits nets)

-- ---- blocks

-- what is stirred stirs the block whose control names it
pub stirred_past : (d : Parts) (blocks : ℕ → Bool) (b : State) (th : ℕ → Thread) (q r : BitRange) (k : ℕ) → blocks k ≡ true → Contains (control d k) q → puts_into d k r ≡ true → Stirred d blocks b th q → Stirred d blocks b th r
stirred_past d blocks b th q r k is named into (by_write i u wrote reach) = by_write i u wrote (past q r k reach is named into)
stirred_past d blocks b th q r k is named into (by_start j u y at_j needs hit reach) = by_start j u y at_j needs hit (past q r k reach is named into)
stirred_past d blocks b th q r k is named into (by_rest l u at_l goes hit reach) = by_rest l u at_l goes hit (past q r k reach is named into)

pub awake_more : (d : Parts) (blocks : ℕ → Bool) (b : State) (th more : ℕ → Thread) → ((i u : ℕ) → writes (th i) u ≡ true → writes (more i) u ≡ true) → (k : ℕ) → IsAwake d blocks b th k → IsAwake d blocks b more k
awake_more d blocks b th more f k awake r into = stirred_more d blocks b th more f r (awake r into)

-- the blocks behind a write that is none of theirs
pub rests_written : (d : Parts) (blocks : ℕ → Bool) (b : State) (store : Store) (places : List Place) (th more : ℕ → Thread) (w : Write) →
    ((k : ℕ) → blocks k ≡ true → Text d k) → ((q : BitRange) → is_changed store (put store w) q ≡ true → Stirred d blocks b more q) → ((i u : ℕ) → writes (th i) u ≡ true → writes (more i) u ≡ true) →
    ((k : ℕ) → blocks k ≡ true → IsAwake d blocks b more k ⊎ ((v : ℕ) → puts_out d k v ≡ true → names w v ≡ false)) →
    Rests d blocks b store places th → Rests d blocks b (put store w) (map (wakened store (put store w)) places) more
rests_written d blocks b store places th more w texts wrote grows apart rests k is = by_other (rests k is) (apart k is)
  where
    new : Store
    new = put store w

    woken : Bool → Type 0
    woken t = list_any (is_changed store new) (control d k) ≡ t

    by_change : IsRested d b store places k → ((v : ℕ) → puts_out d k v ≡ true → names w v ≡ false) → (woken true ⊎ woken false) →
        IsRested d b new (map (wakened store new) places) k ⊎ IsAwake d blocks b more k
    by_change rested free (inl hit) =
        let found = any_at (is_changed store new) (control d k) hit in
        inr (λ r into. stirred_past d blocks b more found.1 r k is (contains_at (control d k) found.0 found.1 found.2) into (wrote found.1 found.3))
    by_change rested free (inr miss) = inl (
      get_or-map (wakened store new) places k ended ∙ ap (wakened store new) rested.0 ∙ home_stays d k (texts k is) store new miss,
      λ v h. put_other store w v (free v h) ∙ rested.1 v h,
    )

    by_other : (IsRested d b store places k ⊎ IsAwake d blocks b th k) → (IsAwake d blocks b more k ⊎ ((v : ℕ) → puts_out d k v ≡ true → names w v ≡ false)) →
        IsRested d b new (map (wakened store new) places) k ⊎ IsAwake d blocks b more k
    by_other (inr awake) other = inr (awake_more d blocks b th more grows k awake)
    by_other (inl rested) (inl awake) = inr awake
    by_other (inl rested) (inr free) = by_change rested free (cases_Bool (list_any (is_changed store new) (control d k)))
