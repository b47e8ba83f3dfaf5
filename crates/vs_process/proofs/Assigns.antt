-- Continuous assignments: each has to be evaluated, or waits to be written, or agrees with what it reads.
use Rattle.std.proofs.Common.{◌≡◌, ℕ, zero, suc, ◌<◌, ◌==◌, ◌⊎◌, Bool, true, false, Option, Some, None, option_map, List, [], ◌∷◌, map, slice_get, slice_set, not, refl, sym, ◌∙◌, ap, ap₂, subst, inl, inr, eqb-true, if◌then◌else◌}
use Rattle.std.specs.List.{list_any}
use Rattle.std.proofs.lemmas.Bool.{cases_Bool, or_left, or_right, not-true, true≢false}
use Rattle.vs_design.specs.vs_logic4.specs.declared.digit.Digit.{Digit}
use Rattle.vs_design.specs.declared.design.Assign.{Assign}
use Rattle.vs_design.specs.declared.expression.Typed.{Typed}
use Rattle.vs_design.specs.declared.statement.Target.{Target}
use Rattle.vs_design.specs.declared.write.Part.{Part}
use Rattle.vs_design.specs.Parts.{Parts}
use Rattle.vs_design.specs.Stores.{Store, put, is_driven, start_store, words_in, is_changed, changes_nothing}
use Rattle.vs_design.specs.Uses.{all_words, covers, reads, writes, writes_signal}
use Rattle.vs_design.specs.WellFormed.{width_at}
use Rattle.vs_design.specs.Writes.{Write, names}
use Rattle.vs_eval.specs.Laws.{digit_of}
use Rattle.vs_eval.specs.Targets.{assigned}
use Rattle.vs_eval.specs.Values.{target_value}
use Rattle.vs_process.specs.States.{State, AssignState, start_assign, touched, evaluated, settled, written_after}
use Rattle.vs_process.specs.Steps.{assignment}
use Rattle.vs_process.specs.Idle.{IsIdle}
use Rattle.vs_process.proofs.Digits.{Keeps, kept_digit, put_again, put_swapped, unnamed_keeps}
use Rattle.vs_process.proofs.ProcessLists.{map_cases, none_at, none_from, set_cases}
use Rattle.std.proofs.lemmas.Map.Keys.{any_passes_from_place as at_any}
use Rattle.vs_design.specs.vs_logic4.proofs.Basics.{element_of as any_at, same_lists as same_gets, map_at}
use Rattle.vs_process.proofs.Ranges.{IsFixed, assigned_fixed, assigned_names, fixed_write, present, same_sizes, uncovered_keeps}
use Rattle.vs_process.proofs.Stores.{put_other, shape, shape-put}
use Rattle.vs_process.proofs.Values.{not_changed, target_value_unchanged, unchanged}
use Rattle.vs_design.proofs.Stores.{map_none as all_content}

-- the places that continuous assignments drive are constant, and no two of them drive one bit of a net
pub record DrivesApart (d : Parts) : Type 0 where
  pub fixed : (j : ℕ) (a : Assign) → slice_get d.assigns j ≡ Some a → IsFixed a.target
  pub apart : (i j : ℕ) (a c : Assign) (v w k : ℕ) → slice_get d.assigns i ≡ Some a → slice_get d.assigns j ≡ Some c → (i ≡ j → ⊥) → k < width_at (slice_get d.signals v) →
      list_any (covers v w k) (writes a.target) ≡ true → list_any (covers v w k) (writes c.target) ≡ true → ⊥

-- whether a continuous assignment drives this bit of a word of a signal
abbrev pub drives : List Assign → ℕ → ℕ → ℕ → Bool
drives assigns v w k = list_any (λ (a : Assign). list_any (covers v w k) (writes a.target)) assigns

-- what is assigned where; no move changes it
abbrev pub links : List AssignState → List (Target × Typed)
links xs = map (λ (x : AssignState). (x.target, x.source)) xs

-- the value that its source asks for: it doesn't hang on the time
abbrev pub wanted : Store → AssignState → List Digit
wanted store x = target_value x.target x.source store 0

-- the write of some digits would change nothing
abbrev pub Leaves : Store → Target → List Digit → Type 0
Leaves store t digits = put store (fixed_write t digits) ≡ store

-- the write of that value would change nothing
abbrev pub LeavesTarget : Store → AssignState → Type 0
LeavesTarget store x = Leaves store x.target (wanted store x)

abbrev pub Fed : Store → AssignState → Type 0
Fed store x = ((x.pending ≡ None) × LeavesTarget store x) ⊎ (x.pending ≡ Some (wanted store x))

abbrev pub Consistent : Store → AssignState → Type 0
Consistent store x = (x.needs ≡ true) ⊎ Fed store x

-- what left a store leaves another one
abbrev pub LeftToo : Store → Store → Target → Type 0
LeftToo old new t = (digits : List Digit) → Leaves old t digits → Leaves new t digits

fed_touched : (old new : Store) (x : AssignState) → list_any (is_changed old new) (reads x.source) ≡ false → LeftToo old new x.target → Fed old x → Fed new x
fed_touched old new x none stays (inl idle) = inl (idle.0, subst (Leaves new x.target) (target_value_unchanged old new 0 0 x.target x.source none) (stays (wanted old x) idle.1))
fed_touched old new x none stays (inr waits) = inr (waits ∙ ap (λ t. Some t) (target_value_unchanged old new 0 0 x.target x.source none))

-- an assignment whose own target stays is consistent behind a change of the store
pub consistent_touched : (old new : Store) (x : AssignState) → LeftToo old new x.target → Consistent old x → Consistent new (touched old new x)
consistent_touched old new x stays (inl needs) = inl (or_left x.needs (list_any (is_changed old new) (reads x.source)) needs)
consistent_touched old new x stays (inr fed) =
    elim (cases_Bool (list_any (is_changed old new) (reads x.source))) [
      | inl hit ↦ inl (or_right x.needs (list_any (is_changed old new) (reads x.source)) hit)
      | inr miss ↦ inr (fed_touched old new x miss stays fed)
    ]

-- ---- writes that change nothing

same_slot : {N : Type 0} (f : List (List Digit) → N) (a b : Option (List (List Digit))) → option_map f a ≡ option_map f b → words_in a ≡ words_in b → a ≡ b
same_slot f None None h same = refl
same_slot f None (Some y) h same = cc
same_slot f (Some x) None h same = cc
same_slot f (Some x) (Some y) h same = ap (λ l. Some l) same

-- a signal of which no word is changed by a write stays
pub signal_kept : (store : Store) (w : Write) (v : ℕ) → is_changed store (put store w) (all_words v) ≡ false → slice_get (put store w) v ≡ slice_get store v
signal_kept store w v same =
    sym (same_slot _ (slice_get store v) (slice_get (put store w) v) (sym (same_sizes (put store w) store v (shape-put store w)))
    (sym (all_content (words_in (slice_get store v))) ∙ unchanged store (put store w) (all_words v) same ∙ all_content (words_in (slice_get (put store w) v))))

-- a write that would change nothing leaves the store
pub nothing_changed : (store : Store) (w : Write) → changes_nothing store w ≡ true → put store w ≡ store
nothing_changed store w h = same_gets (put store w) store (λ v.
    elim (cases_Bool (names w v)) [
      | inl hit ↦ named v (any_at (λ (p : Part). p.signal == v) w hit)
      | inr miss ↦ put_other store w v miss
    ])
  where
    none : list_any (λ (p : Part). is_changed store (put store w) (all_words p.signal)) w ≡ false
    none = not-true (list_any (λ (p : Part). is_changed store (put store w) (all_words p.signal)) w) h

    named : (v : ℕ) → ((i : ℕ) × (p : Part) × (slice_get w i ≡ Some p) × ((p.signal == v) ≡ true)) → slice_get (put store w) v ≡ slice_get store v
    named v (i, p, is, at_v) = signal_kept store w v (subst (λ n. is_changed store (put store w) (all_words n) ≡ false) (eqb-true p.signal v at_v) (none_at (λ (p : Part). is_changed store (put store w) (all_words p.signal)) w i p is none))

-- and one that leaves it changes nothing
pub left_unchanged : (store : Store) (w : Write) → put store w ≡ store → changes_nothing store w ≡ true
left_unchanged store w same =
    ap not (none_from (λ (p : Part). is_changed store (put store w) (all_words p.signal)) w (λ i p is. not_changed store (put store w) (all_words p.signal) (ap (λ (s : Store). slice_get s p.signal) same)))

-- an evaluated assignment is consistent
pub consistent_evaluated : (store : Store) (time : ℕ) (x : AssignState) → IsFixed x.target → Consistent store (evaluated store time x)
consistent_evaluated store time x fixed =
    let digits = target_value x.target x.source store time in
    let value : digits ≡ wanted store x = refl in
    elim (cases_Bool (changes_nothing store (assigned x.target digits store time))) [
      | inl hit ↦ inr (inl (
        ap (λ b. if b then None else Some digits) hit,
        subst (Leaves store x.target) value (ap (put store) (sym (assigned_fixed x.target digits store time fixed)) ∙ nothing_changed store (assigned x.target digits store time) hit),
      ))
      | inr miss ↦ inr (inr (ap (λ b. if b then None else Some digits) miss ∙ ap (λ ds. Some ds) value))
    ]

-- ---- the assignments of a state

-- an assignment of a state and what it is in the design
pub link_of : (assigns : List Assign) (xs : List AssignState) (j : ℕ) (x : AssignState) → links xs ≡ links (map start_assign assigns) → slice_get xs j ≡ Some x →
    (a : Assign) × (slice_get assigns j ≡ Some a) × (a.target ≡ x.target) × (a.source ≡ x.source)
link_of assigns xs j x same is =
    let there : slice_get (links (map start_assign assigns)) j ≡ Some (x.target, x.source) = ap (λ l. slice_get l j) (sym same) ∙ map_at (λ (x : AssignState). (x.target, x.source)) xs j x is in
    let y = map_cases (λ (x : AssignState). (x.target, x.source)) (map start_assign assigns) j (x.target, x.source) there in
    let a = map_cases start_assign assigns j y.0 y.1 in
    (a.0, a.1, ap (λ (z : AssignState). z.target) a.2 ∙ ap (λ p. p.0) y.2, ap (λ (z : AssignState). z.source) a.2 ∙ ap (λ p. p.1) y.2)

pub driven : (assigns : List Assign) (j : ℕ) (a : Assign) (v : ℕ) → slice_get assigns j ≡ Some a → writes_signal a.target v ≡ true → is_driven assigns v ≡ true
driven assigns j a v is h = at_any (λ (c : Assign). writes_signal c.target v) assigns j a is h

-- the continuous assignments of a state, and its store
pub record AssignsSound (d : Parts) (store : Store) (assigns : List AssignState) : Type 0 where
  pub linked : links assigns ≡ links (map start_assign d.assigns)
  pub consistent : (j : ℕ) (x : AssignState) → slice_get assigns j ≡ Some x → Consistent store x
  pub shaped : shape store ≡ shape (start_store d)
  pub bare : (v w k : ℕ) → is_driven d.assigns v ≡ true → drives d.assigns v w k ≡ false → digit_of store v w k ≡ digit_of (start_store d) v w k

pub links_touched : (old new : Store) (xs : List AssignState) → links (map (touched old new) xs) ≡ links xs
links_touched old new [] = refl
links_touched old new (x ∷ xs) = ap (λ l. (x.target, x.source) ∷ l) (links_touched old new xs)

abbrev pub link_at : AssignState → Target × Typed
link_at x = (x.target, x.source)

same_link : (y x : AssignState) → y.target ≡ x.target → y.source ≡ x.source → link_at y ≡ link_at x
same_link y x t s = ap₂ (λ (t : Target) (s : Typed). (t, s)) t s

pub links_set : (xs : List AssignState) (j : ℕ) (x y : AssignState) → slice_get xs j ≡ Some x → y.target ≡ x.target → y.source ≡ x.source → links (slice_set xs j y) ≡ links xs
links_set [] j x y is t s = refl
links_set (z ∷ xs) zero x y is t s =
    let e : z ≡ x = cc in
    ap (λ p. p ∷ links xs) (same_link y x t s ∙ ap link_at (sym e))
links_set (z ∷ xs) (suc j) x y is t s = ap (λ l. (z.target, z.source) ∷ l) (links_set xs j x y is t s)

-- what a continuous assignment of a state names is driven
pub assign_driven : (d : Parts) (store : Store) (assigns : List AssignState) → AssignsSound d store assigns → (j : ℕ) (x : AssignState) (v : ℕ) → slice_get assigns j ≡ Some x → writes_signal x.target v ≡ true → is_driven d.assigns v ≡ true
assign_driven d store assigns sound j x v is h =
    let a = link_of d.assigns assigns j x sound.linked is in
    driven d.assigns j a.0 v a.1 (ap (λ (t : Target). writes_signal t v) a.2 ∙ h)

-- its places are constant
pub assign_fixed : (d : Parts) → DrivesApart d → (store : Store) (assigns : List AssignState) → AssignsSound d store assigns → (j : ℕ) (x : AssignState) → slice_get assigns j ≡ Some x → IsFixed x.target
assign_fixed d well store assigns sound j x is =
    let a = link_of d.assigns assigns j x sound.linked is in
    subst IsFixed a.2 (well.fixed j a.0 a.1)

-- two of them have no bit in common
pub apart_targets : (d : Parts) → DrivesApart d → (store : Store) (assigns : List AssignState) → AssignsSound d store assigns → (j k : ℕ) (x z : AssignState) →
    slice_get assigns j ≡ Some x → slice_get assigns k ≡ Some z → (j ≡ k → ⊥) → (v w n : ℕ) (y : Digit) → digit_of store v w n ≡ Some y →
    list_any (covers v w n) (writes x.target) ≡ true → list_any (covers v w n) (writes z.target) ≡ true → ⊥
apart_targets d well store assigns sound j k x z at_j at_k ne v w n y there hx hz =
    let a = link_of d.assigns assigns j x sound.linked at_j in
    let c = link_of d.assigns assigns k z sound.linked at_k in
    well.apart j k a.0 c.0 v w n a.1 c.1 ne (present d store sound.shaped v w n y there)
    (ap (λ (t : Target). list_any (covers v w n) (writes t)) a.2 ∙ hx) (ap (λ (t : Target). list_any (covers v w n) (writes t)) c.2 ∙ hz)

-- one of two assignments keeps each digit of the store
pub either_keeps : (d : Parts) → DrivesApart d → (store : Store) (assigns : List AssignState) → AssignsSound d store assigns → (j k : ℕ) (x z : AssignState) →
    slice_get assigns j ≡ Some x → slice_get assigns k ≡ Some z → (j ≡ k → ⊥) → (ds es : List Digit) (v w n : ℕ) (y : Digit) → digit_of store v w n ≡ Some y →
    Keeps (fixed_write x.target ds) v w n ⊎ Keeps (fixed_write z.target es) v w n
either_keeps d well store assigns sound j k x z at_j at_k ne ds es v w n y there =
    elim (cases_Bool (list_any (covers v w n) (writes x.target))) [
      | inl hx ↦ elim (cases_Bool (list_any (covers v w n) (writes z.target))) [
        | inl hz ↦ absurd (apart_targets d well store assigns sound j k x z at_j at_k ne v w n y there hx hz)
        | inr mz ↦ inr (uncovered_keeps z.target es v w n (assign_fixed d well store assigns sound k z at_k) mz)
      ]
      | inr mx ↦ inl (uncovered_keeps x.target ds v w n (assign_fixed d well store assigns sound j x at_j) mx)
    ]

-- what names undriven signals alone
abbrev pub IsUndriven : Parts → Write → Type 0
IsUndriven d w = (v : ℕ) → names w v ≡ true → is_driven d.assigns v ≡ false

-- it names no target
pub misses : (d : Parts) (w : Write) → IsUndriven d w → (v : ℕ) → is_driven d.assigns v ≡ true → names w v ≡ false
misses d w u v h =
    elim (cases_Bool (names w v)) [
      | inl hit ↦ absurd (true≢false (sym h ∙ u v hit))
      | inr miss ↦ miss
    ]

-- what leaves the store before leaves the store behind such a write
left_written : (d : Parts) (store : Store) (assigns : List AssignState) (w : Write) → IsUndriven d w → AssignsSound d store assigns → (j : ℕ) (x : AssignState) → slice_get assigns j ≡ Some x → LeftToo store (put store w) x.target
left_written d store assigns w u sound j x is digits left =
    put_swapped store w (fixed_write x.target digits) (λ v n k y there.
    elim (cases_Bool (names w v)) [
      | inl hit ↦ inr (unnamed_keeps (fixed_write x.target digits) v n k (unnamed v (u v hit)))
      | inr miss ↦ inl (unnamed_keeps w v n k miss)
    ])
    ∙ ap (λ (s : Store). put s w) left
  where
    unnamed : (v : ℕ) → is_driven d.assigns v ≡ false → names (fixed_write x.target digits) v ≡ false
    unnamed v undriven =
        elim (cases_Bool (writes_signal x.target v)) [
          | inl hit ↦ absurd (true≢false (sym (assign_driven d store assigns sound j x v is hit) ∙ undriven))
          | inr miss ↦ assigned_names x.target digits [] 0 v ∙ miss
        ]

pub sound_written : (d : Parts) (store : Store) (assigns : List AssignState) (w : Write) → IsUndriven d w → AssignsSound d store assigns →
    AssignsSound d (put store w) (map (touched store (put store w)) assigns)
sound_written d store assigns w u sound = record {
  linked = links_touched store (put store w) assigns ∙ sound.linked;
  consistent = λ j y is. consistent_at j y (map_cases (touched store (put store w)) assigns j y is);
  shaped = shape-put store w ∙ sound.shaped;
  bare = λ v n k driven undriven. kept_digit store w v n k (unnamed_keeps w v n k (misses d w u v driven)) ∙ sound.bare v n k driven undriven;
}
  where
    consistent_at : (j : ℕ) (y : AssignState) → ((x : AssignState) × (slice_get assigns j ≡ Some x) × (touched store (put store w) x ≡ y)) → Consistent (put store w) y
    consistent_at j y (x, at_j, is) =
        subst (λ z. Consistent (put store w) z) is
        (consistent_touched store (put store w) x (left_written d store assigns w u sound j x at_j) (sound.consistent j x at_j))

pub sound_behind : (d : Parts) (s : State) (o : Option Write) → ((w : Write) → o ≡ Some w → IsUndriven d w) → AssignsSound d s.store s.assigns →
    AssignsSound d (written_after s o).store (written_after s o).assigns
sound_behind d s None u sound = sound
sound_behind d s (Some w) u sound = sound_written d s.store s.assigns w (u w refl) sound

pub sound_evaluated : (d : Parts) → DrivesApart d → (store : Store) (time : ℕ) (assigns : List AssignState) (j : ℕ) (x : AssignState) → slice_get assigns j ≡ Some x → AssignsSound d store assigns →
    AssignsSound d store (slice_set assigns j (evaluated store time x))
sound_evaluated d well store time assigns j x is sound = record {
  linked = links_set assigns j x (evaluated store time x) is refl refl ∙ sound.linked;
  consistent = λ k y at_k. elim (set_cases assigns j k x (evaluated store time x) y is at_k) [
    | inl same ↦ subst (λ z. Consistent store z) (sym same.1) (consistent_evaluated store time x (assign_fixed d well store assigns sound j x is))
    | inr other ↦ sound.consistent k y other.1
  ];
  shaped = sound.shaped;
  bare = sound.bare;
}

-- the update of an assignment changes what its target names alone
pub assigned_other : (store : Store) (t : Target) (digits : List Digit) (before : Store) (time v : ℕ) → writes_signal t v ≡ false → slice_get (put store (assigned t digits before time)) v ≡ slice_get store v
assigned_other store t digits before time v miss = put_other store (assigned t digits before time) v (assigned_names t digits before time v ∙ miss)

propagated_own : (store : Store) (x : AssignState) (digits : List Digit) → x.pending ≡ Some digits → Consistent store x →
    Consistent (put store (fixed_write x.target digits)) (touched store (put store (fixed_write x.target digits)) (settled x))
propagated_own store x digits waits (inl needs) = inl (or_left x.needs (list_any (is_changed store (put store (fixed_write x.target digits))) (reads x.source)) needs)
propagated_own store x digits waits (inr (inl idle)) = let e : None ≡ Some digits = sym idle.0 ∙ waits in cc
propagated_own store x digits waits (inr (inr value)) =
    let f : Some digits ≡ Some (wanted store x) = sym waits ∙ value in
    let e : digits ≡ wanted store x = cc in
    subst (λ ds. Consistent (put store (fixed_write x.target ds)) (touched store (put store (fixed_write x.target ds)) (settled x))) (sym e) at_value
  where
    at_value : Consistent (put store (fixed_write x.target (wanted store x))) (touched store (put store (fixed_write x.target (wanted store x))) (settled x))
    at_value =
        let new : Store = put store (fixed_write x.target (wanted store x)) in
        elim (cases_Bool (list_any (is_changed store new) (reads x.source))) [
          | inl hit ↦ inl (or_right x.needs (list_any (is_changed store new) (reads x.source)) hit)
          | inr miss ↦ inr (inl (refl, subst (Leaves new x.target) (target_value_unchanged store new 0 0 x.target x.source miss) (put_again store (fixed_write x.target (wanted store x)))))
        ]

sound_fixed : (d : Parts) → DrivesApart d → (store : Store) (assigns : List AssignState) (j : ℕ) (x : AssignState) (digits : List Digit) → slice_get assigns j ≡ Some x → x.pending ≡ Some digits → AssignsSound d store assigns →
    AssignsSound d (put store (fixed_write x.target digits)) (map (touched store (put store (fixed_write x.target digits))) (slice_set assigns j (settled x)))
sound_fixed d well store assigns j x digits is waits sound = record {
  linked = links_touched store new (slice_set assigns j (settled x)) ∙ links_set assigns j x (settled x) is refl refl ∙ sound.linked;
  consistent = λ k y at_k.
      let z = map_cases (touched store new) (slice_set assigns j (settled x)) k y at_k in
      subst (λ z. Consistent new z) z.2 (consistent_at k z.0 (set_cases assigns j k x (settled x) z.0 is z.1));
  shaped = shape-put store (fixed_write x.target digits) ∙ sound.shaped;
  bare = λ v w n driven undriven.
      kept_digit store (fixed_write x.target digits) v w n (uncovered_keeps x.target digits v w n (assign_fixed d well store assigns sound j x is) (uncovered v w n undriven))
      ∙ sound.bare v w n driven undriven;
}
  where
    new : Store
    new = put store (fixed_write x.target digits)

    uncovered : (v w n : ℕ) → drives d.assigns v w n ≡ false → list_any (covers v w n) (writes x.target) ≡ false
    uncovered v w n none =
        let a = link_of d.assigns assigns j x sound.linked is in
        ap (λ (t : Target). list_any (covers v w n) (writes t)) (sym a.2) ∙ none_at (λ (a : Assign). list_any (covers v w n) (writes a.target)) d.assigns j a.0 a.1 none

    consistent_at : (k : ℕ) (z : AssignState) → (((k ≡ j) × (z ≡ settled x)) ⊎ ((k ≡ j → ⊥) × (slice_get assigns k ≡ Some z))) → Consistent new (touched store new z)
    consistent_at k z (inl own) = subst (λ z. Consistent new (touched store new z)) (sym own.1) (propagated_own store x digits waits (sound.consistent j x is))
    consistent_at k z (inr other) =
        consistent_touched store new z
        (λ es left.
        put_swapped store (fixed_write x.target digits) (fixed_write z.target es) (λ v w n y there. either_keeps d well store assigns sound j k x z is other.1 (λ e. other.0 (sym e)) digits es v w n y there)
        ∙ ap (λ (s : Store). put s (fixed_write x.target digits)) left)
        (sound.consistent k z other.1)

-- behind the update of an assignment
pub sound_propagated : (d : Parts) → DrivesApart d → (store : Store) (time : ℕ) (assigns : List AssignState) (j : ℕ) (x : AssignState) (digits : List Digit) → slice_get assigns j ≡ Some x → x.pending ≡ Some digits → AssignsSound d store assigns →
    AssignsSound d (put store (assigned x.target digits store time)) (map (touched store (put store (assigned x.target digits store time))) (slice_set assigns j (settled x)))
sound_propagated d well store time assigns j x digits is waits sound =
    subst (λ w. AssignsSound d (put store w) (map (touched store (put store w)) (slice_set assigns j (settled x))))
    (sym (assigned_fixed x.target digits store time (assign_fixed d well store assigns sound j x is))) (sound_fixed d well store assigns j x digits is waits sound)

-- the continuous assignments at the start of all
pub sound_start : (d : Parts) → AssignsSound d (start_store d) (map start_assign d.assigns)
sound_start d = record {
  linked = refl;
  consistent = λ j y is. let a = map_cases start_assign d.assigns j y is in subst (λ z. Consistent (start_store d) z) a.2 (inl refl);
  shaped = refl;
  bare = λ v w k driven undriven. refl;
}

-- what an assignment of the design is in a state
pub assign_of : (assigns : List Assign) (xs : List AssignState) (j : ℕ) (a : Assign) → links xs ≡ links (map start_assign assigns) → slice_get assigns j ≡ Some a →
    (x : AssignState) × (slice_get xs j ≡ Some x) × (x.target ≡ a.target) × (x.source ≡ a.source)
assign_of assigns xs j a same is =
    let there : slice_get (links xs) j ≡ Some (a.target, a.source) =
    ap (λ l. slice_get l j) same ∙ map_at (λ (x : AssignState). (x.target, x.source)) (map start_assign assigns) j (start_assign a) (map_at start_assign assigns j a is) in
    let x = map_cases (λ (x : AssignState). (x.target, x.source)) xs j (a.target, a.source) there in
    (x.0, x.1, ap (λ p. p.0) x.2, ap (λ p. p.1) x.2)

-- an idle assignment that is consistent has its value
pub idle_leaves : (store : Store) (x : AssignState) → IsIdle x → Consistent store x → LeavesTarget store x
idle_leaves store x idle (inl needs) = absurd (true≢false (sym needs ∙ idle.0))
idle_leaves store x idle (inr (inl fed)) = fed.1
idle_leaves store x idle (inr (inr waits)) = let e : None ≡ Some (wanted store x) = sym idle.1 ∙ waits in cc

-- so an evaluation of it at any time would change nothing
pub idle_value : (store : Store) (time : ℕ) (x : AssignState) → IsFixed x.target → IsIdle x → Consistent store x → changes_nothing store (assignment x.target x.source store time) ≡ true
idle_value store time x fixed idle consistent =
    left_unchanged store (assignment x.target x.source store time) (ap (put store) (assigned_fixed x.target (target_value x.target x.source store time) store time fixed) ∙ idle_leaves store x idle consistent)
