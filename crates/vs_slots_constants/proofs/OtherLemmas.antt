-- The one other number of a list, and clocks by their writers.
use Rattle.std.proofs.Common.{◌≡◌, ℕ, ◌<◌, ◌≤◌, ◌⊎◌, ◌↔◌, inl, inr, Bool, Option, Some, None, List, [], length, map, get_or, slice_get, refl, sym, ◌∙◌, ap, subst, arith}
use Rattle.std.specs.List.{Contains}
use Rattle.std.proofs.lemmas.Option.{same_Some, slice_get-get_or}
use Rattle.std.proofs.lemmas.List.Elements.{Contains-append_left}
use borrow.Author.Tests.{ltb-true}
use Rattle.std.proofs.Common.{true, false, ltb}
use Rattle.vs_design.specs.vs_logic4.specs.declared.digit.Digit.{Digit}
use Rattle.vs_design.specs.declared.design.Process.{Process}
use Rattle.vs_design.specs.declared.design.ProcessKind.{ProcessKind}
use Rattle.vs_design.specs.declared.design.ProcessKind.TheVariants.{Initial, Always}
use Rattle.vs_design.specs.declared.range.BitRange.{BitRange}
use Rattle.vs_design.specs.declared.statement.Statement.{Statement}
use Rattle.vs_design.specs.declared.statement.Statement.TheOpen.{Statement-F}
use Rattle.vs_design.specs.declared.statement.Statement.TheFolds.{fold_out-Statement, map-Statement}
use Rattle.vs_design.specs.declared.statement.Statement.TheViews.{out-Statement}
use Rattle.vs_design.specs.Uses.{aim_range, joined, slice_range}
use Rattle.vs_design.specs.Parts.{Parts}
use Rattle.vs_rules.specs.vs_process.specs.BlockDrivers.{outputs_for}
use Rattle.vs_process.specs.Writes.{statement_writes, statement_writes_step}
use Rattle.vs_rules.specs.Constants.{HasBody, IsBare, itself, inside, MayTurn, Sets, SetsFirst, SetsAndTurns, TurnsForever}
use Rattle.vs_rules.specs.Constants as k
use Rattle.vs_rules.specs.Claims.{is_wide}
use Rattle.vs_rules.specs.Paths.{Writes}
use Rattle.vs_slots_constants.specs.Clocks.{IsOther, IsBodyOf, IsTurnedBy, IsBegunBy, IsClockBy, alone, two, ClocksByWriters}
use Rattle.vs_slots_constants.proofs.ClockLemmas.{sets_or_turns, set_or_turns}
use Rattle.vs_slots_constants.proofs.TurnLemmas.{alike_writes, alike_apart}

-- ---- the one other number

pub same_read : (xs : List ℕ) (n d e : ℕ) → n < length xs → get_or xs n d ≡ get_or xs n e
same_read xs n d e h = same_Some (get_or xs n d) (get_or xs n e) (sym (slice_get-get_or xs n d h) ∙ slice_get-get_or xs n e h)

pub contains_at : (xs : List ℕ) (n : ℕ) → n < length xs → Contains xs (get_or xs n 0)
contains_at xs n h = (n, h, same_read xs n (get_or xs n 0) 0 h)

-- of the numbers of a list below an index, the one other number that was found
abbrev pub SoFar : List ℕ → ℕ → ℕ → Option ℕ → Type 0
SoFar xs i n None = (k : ℕ) → k < n → get_or xs k 0 ≡ i
SoFar xs i n (Some j) = (Contains xs j) × (j ≡ i → ⊥) × ((k : ℕ) → k < n → (get_or xs k 0 ≡ i) ⊎ (get_or xs k 0 ≡ j))

second : (A B : Type 0) → A ⊎ B → (A → ⊥) → B
second A B (inl a) not = absurd (not a)
second A B (inr b) not = b

pub found_is : (xs : List ℕ) (i n : ℕ) (found : Option ℕ) → length xs ≤ n → SoFar xs i n found → (j : ℕ) → (IsOther xs i j ↔ found ≡ Some j)
found_is xs i n None long none j = (
  λ h. let c = h.0 in absurd (h.1 (sym c.2 ∙ same_read xs c.0 j 0 c.1 ∙ none c.0 (omega (arith, c.1, long)))),
  λ h. cc,
)
found_is xs i n (Some f) long so j = (
  λ h. ap Some (second (f ≡ i) (f ≡ j) (h.2 f so.0) so.1),
  λ h. let e = same_Some f j h in subst (IsOther xs i) e (
    so.0,
    so.1,
    λ k c.
        let at = so.2 c.0 (omega (arith, c.1, long)) in
        subst (λ (z : ℕ). (z ≡ i) ⊎ (z ≡ f)) (same_read xs c.0 0 k c.1 ∙ c.2) at,
  ),
)

pub two_others : (xs : List ℕ) (i f x : ℕ) → Contains xs f → (f ≡ i → ⊥) → Contains xs x → (x ≡ i → ⊥) → (f ≡ x → ⊥) → (j : ℕ) → (IsOther xs i j ↔ None ≡ Some j)
two_others xs i f x in_f not_f in_x not_x apart j = (
  λ h. absurd (apart (second (f ≡ i) (f ≡ j) (h.2 f in_f) not_f ∙ sym (second (x ≡ i) (x ≡ j) (h.2 x in_x) not_x))),
  λ h. cc,
)

-- ---- bodies

pub found_there : {A : Type 0} (xs : List A) (i : ℕ) (x : A) → true ≡ ltb i (length xs) → x ≡ get_or xs i x → slice_get xs i ≡ Some x
found_there xs i x within is = slice_get-get_or xs i x (ltb-true i (length xs) (sym within)) ∙ ap Some (sym is)

pub body_is : (d : Parts) (i : ℕ) (p : Process) (kind : ProcessKind) → slice_get d.processes i ≡ Some p → p.kind ≡ kind → (P : Statement → Type 0) → (HasBody d i kind P ↔ P p.body)
body_is d i p kind is same P = (
  λ h. subst (λ (q : Process). P q.body) (same_Some h.process p (sym h.is ∙ is)) h.body,
  λ h. record { process = p; is = is; kind_is = same; body = h },
)

pub kind_is : (d : Parts) (i : ℕ) (p : Process) (kind : ProcessKind) (P : Statement → Type 0) → slice_get d.processes i ≡ Some p → HasBody d i kind P → p.kind ≡ kind
kind_is d i p kind P is h = ap (λ (q : Process). q.kind) (same_Some p h.process (sym is ∙ h.is)) ∙ h.kind_is

-- ---- what sets a signal writes it

layer_writes : (s : Statement) (x : Statement-F Statement) → out-Statement s ≡ x → statement_writes s ≡ statement_writes_step (map-Statement Statement (List BitRange) statement_writes x)
layer_writes s x is =
    fold_out-Statement (List BitRange) statement_writes_step s
    ∙ ap (λ (y : Statement-F Statement). statement_writes_step (map-Statement Statement (List BitRange) statement_writes y)) is

bare_writes : (s : Statement) (x : Statement-F Statement) (r : BitRange) → IsBare s x → Contains (statement_writes_step (map-Statement Statement (List BitRange) statement_writes x)) r →
    Contains (statement_writes s) r
bare_writes _ _ r (itself s x is) h = subst (λ (l : List BitRange). Contains l r) (sym (layer_writes s x is)) h
bare_writes _ _ r (inside s all inner x is one deep) h =
    subst (λ (l : List BitRange). Contains l r) (sym (layer_writes s (Statement-F.Block all) is))
    (subst (λ (l : List Statement). Contains (joined (map statement_writes l)) r) (sym one)
    (Contains-append_left (statement_writes inner) [] r (bare_writes inner x r deep h)))

pub sets_writes : (d : Parts) (v j : ℕ) (digit : Digit) → HasBody d j Initial (Sets d v digit) → Writes d j v
sets_writes d v j digit h =
    let s = h.body in
    record {
      range = slice_range s.whole.slice;
      listed = (
        subst (λ (o : Option Process). Contains (outputs_for o) (slice_range s.whole.slice)) (sym h.is)
            (bare_writes h.process.body (Statement-F.Assign s.number s.target s.value) (slice_range s.whole.slice) s.is
            (subst (λ (l : List BitRange). Contains l (slice_range s.whole.slice)) (sym (ap (map aim_range) s.whole.only)) (0, omega arith, refl))),
        tt,
      );
      of = s.whole.whole.of;
    }

-- ---- clocks

-- a body that turns a signal doesn't set it
apart : (d : Parts) (wide : Bool) (v i half : ℕ) (digit : Digit) (body : Statement) → IsBodyOf d i body → TurnsForever d wide v half body → HasBody d i Initial (Sets d v digit) → ⊥
apart d wide v i half digit body its turns sets =
    set_or_turns d wide v half digit body (subst (Sets d v digit) (its sets.process sets.is) sets.body) turns

-- what sets a signal first writes it
first_writes : (d : Parts) (wide : Bool) (v j : ℕ) (digit : Digit) → SetsFirst d wide v digit j → Writes d j v
first_writes d false v j digit h = sets_writes d v j digit h
first_writes d true v j digit h = alike_writes d v j digit h

first_apart : (d : Parts) (wide : Bool) (v i half : ℕ) (digit : Digit) (body : Statement) → IsBodyOf d i body → TurnsForever d wide v half body → SetsFirst d wide v digit i → ⊥
first_apart d false v i half digit body its turns sets = apart d false v i half digit body its turns sets
first_apart d true v i half digit body its turns sets = alike_apart d true v i half digit body its turns sets

-- the process that sets the signal is the one other writer of it
pub other_writer : (d : Parts) (wide : Bool) (v i j half : ℕ) (digit : Digit) (body : Statement) (writers : List ℕ) → ((k : ℕ) → (Contains writers k ↔ Writes d k v)) → IsBodyOf d i body →
    TurnsForever d wide v half body → SetsFirst d wide v digit j → ((k : ℕ) → Writes d k v → (k ≡ i) ⊎ (k ≡ j)) → IsOther writers i j
other_writer d wide v i j half digit body writers are its turns sets all = (
  (are j).1 (first_writes d wide v j digit sets),
  λ e. first_apart d wide v i half digit body its turns (subst (SetsFirst d wide v digit) e sets),
  λ k h. all k ((are k).0 h),
)

-- what a process of this kind turns, by the number of the writer
turned_there : (d : Parts) (wide : Bool) (v i j k half offset : ℕ) (writer : Option ℕ) (p : Process) (kind : ProcessKind) (digit : Digit) → writer ≡ Some i → slice_get d.processes i ≡ Some p →
    writer ≡ Some k → HasBody d k kind (TurnsForever d wide v half) → SetsFirst d wide v digit j → (offset ≡ 0) → ((n : ℕ) → Writes d n v → (n ≡ k) ⊎ (n ≡ j)) →
    (p.kind ≡ kind) × IsTurnedBy d wide v i p.body offset half digit
turned_there d wide v i j k half offset writer p kind digit is at w turns sets none all =
    let e = same_Some k i (sym w ∙ is) in
    let here = subst (λ (n : ℕ). HasBody d n kind (TurnsForever d wide v half)) e turns in
    let same = kind_is d i p kind (TurnsForever d wide v half) at here in (
      same,
      (
        none,
        (body_is d i p kind at same (TurnsForever d wide v half)).0 here,
        (j, sets, λ n h. subst (λ (m : ℕ). (n ≡ m) ⊎ (n ≡ j)) e (all n h)),
      ),
    )

turned_back : (d : Parts) (wide : Bool) (v i half offset : ℕ) (writer : Option ℕ) (p : Process) (digit : Digit) → writer ≡ Some i → slice_get d.processes i ≡ Some p →
    MayTurn wide p.kind → IsTurnedBy d wide v i p.body offset half digit → IsClockBy d wide v writer digit offset half
turned_back d wide v i half offset writer p digit is at may h =
    two i h.2.0 p.kind is may ((body_is d i p p.kind at refl (TurnsForever d wide v half)).1 h.1) h.2.1 h.0 h.2.2

may_wide : (wide : Bool) (kind : ProcessKind) → kind ≡ Initial → MayTurn wide kind → wide ≡ true
may_wide wide kind e (inl a) = cc
may_wide wide kind e (inr w) = w

pub by_initial : (d : Parts) (wide : Bool) (v i : ℕ) (writer : Option ℕ) (p : Process) → writer ≡ Some i → slice_get d.processes i ≡ Some p → p.kind ≡ Initial → (digit : Digit) (offset half : ℕ) →
    (IsClockBy d wide v writer digit offset half ↔ IsBegunBy d wide v i p.body offset half digit)
by_initial d wide v i writer p is at initial digit offset half = (there, back) where
  there : IsClockBy d wide v writer digit offset half → IsBegunBy d wide v i p.body offset half digit
  there (alone k w body) =
      inl ((body_is d i p Initial at initial (SetsAndTurns d wide v offset half digit)).0
      (subst (λ (n : ℕ). HasBody d n Initial (SetsAndTurns d wide v offset half digit)) (same_Some k i (sym w ∙ is)) body))
  there (two k j kind w may turns sets none all) =
      let t = turned_there d wide v i j k half offset writer p kind digit is at w turns sets none all in
      inr (may_wide wide kind (sym t.0 ∙ initial) may, t.1)

  back : IsBegunBy d wide v i p.body offset half digit → IsClockBy d wide v writer digit offset half
  back (inl h) = alone i is ((body_is d i p Initial at initial (SetsAndTurns d wide v offset half digit)).1 h)
  back (inr h) = turned_back d wide v i half offset writer p digit is at (inr h.0) h.1

pub by_always : (d : Parts) (wide : Bool) (v i : ℕ) (writer : Option ℕ) (p : Process) → writer ≡ Some i → slice_get d.processes i ≡ Some p → p.kind ≡ Always → (digit : Digit) (offset half : ℕ) →
    (IsClockBy d wide v writer digit offset half ↔ IsTurnedBy d wide v i p.body offset half digit)
by_always d wide v i writer p is at always digit offset half = (there, λ h. turned_back d wide v i half offset writer p digit is at (inl always) h) where
  there : IsClockBy d wide v writer digit offset half → IsTurnedBy d wide v i p.body offset half digit
  there (alone k w body) =
      let h = subst (λ (n : ℕ). HasBody d n Initial (SetsAndTurns d wide v offset half digit)) (same_Some k i (sym w ∙ is)) body in
      let e : Initial ≡ Always = sym (kind_is d i p Initial (SetsAndTurns d wide v offset half digit) at h) ∙ always in
      cc
  there (two k j kind w may turns sets none all) = (turned_there d wide v i j k half offset writer p kind digit is at w turns sets none all).1

-- an `initial` process that sets and turns a signal turns no other one's
pub begun_alone : (d : Parts) (wide : Bool) (v i : ℕ) (body : Statement) (o h : ℕ) (z : Digit) → SetsAndTurns d wide v o h z body → (offset half : ℕ) (digit : Digit) →
    (IsBegunBy d wide v i body offset half digit ↔ SetsAndTurns d wide v offset half digit body)
begun_alone d wide v i body o h z has offset half digit = (there, λ a. inl a) where
  there : IsBegunBy d wide v i body offset half digit → SetsAndTurns d wide v offset half digit body
  there (inl a) = a
  there (inr b) = absurd (sets_or_turns d wide v o h half z body has b.1.1)

pub begun_turned : (d : Parts) (wide : Bool) (v i : ℕ) (body : Statement) (offset half : ℕ) (digit : Digit) → (SetsAndTurns d wide v offset half digit body → ⊥) → wide ≡ true →
    (IsBegunBy d wide v i body offset half digit ↔ IsTurnedBy d wide v i body offset half digit)
begun_turned d wide v i body offset half digit not is = (there, λ b. inr (is, b)) where
  there : IsBegunBy d wide v i body offset half digit → IsTurnedBy d wide v i body offset half digit
  there (inl a) = absurd (not a)
  there (inr b) = b.1

pub begun_never : (d : Parts) (wide : Bool) (v i : ℕ) (body : Statement) (offset half : ℕ) (digit : Digit) → (SetsAndTurns d wide v offset half digit body → ⊥) → wide ≡ false →
    IsBegunBy d wide v i body offset half digit → ⊥
begun_never d wide v i body offset half digit not narrow (inl a) = not a
begun_never d wide v i body offset half digit not narrow (inr b) = let e : false ≡ true = sym narrow ∙ b.0 in cc

pub clocks_by_writers : ClocksByWriters
clocks_by_writers d c v writer same digit offset half = (there, back) where
  there : IsClockBy d (is_wide c) v writer digit offset half → k.IsClock d c v digit offset half
  there (alone i is body) = k.alone i ((same i).1 is) body
  there (two i j kind is may turns sets at all) = k.two i j kind ((same i).1 is) may turns sets at all

  back : k.IsClock d c v digit offset half → IsClockBy d (is_wide c) v writer digit offset half
  back (k.alone i is body) = alone i ((same i).0 is) body
  back (k.two i j kind is may turns sets at all) = two i j kind ((same i).0 is) may turns sets at all
