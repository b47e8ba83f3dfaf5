-- Clocks, by the cores of statements.
use Rattle.std.proofs.Common.{◌≡◌, ℕ, ◌<◌, ◌⊎◌, ◌↔◌, inl, inr, Bool, true, false, if◌then◌else◌, Option, Some, None, List, [], ◌∷◌, refl, sym, ◌∙◌, ap, subst}
use Rattle.std.specs.declared.vec.Vec.{Vec}
use Rattle.std.specs.declared.boxed.Box.{Box}
use Rattle.std.specs.declared.alloc.Global.{Global}
use Rattle.std.proofs.lemmas.Bool.{and_parts, and_from, eqb-true}
use Rattle.std.proofs.lemmas.Option.{same_Some}
use Rattle.vs_design.specs.vs_logic4.specs.declared.digit.Digit.{Digit}
use Rattle.vs_design.specs.vs_logic4.specs.declared.digit.Digit.TheVariants.{Zero, One, X, Z}
use Rattle.vs_design.specs.vs_logic4.proofs.Basics.{same_self}
use Rattle.vs_design.specs.declared.expression.Typed.{Typed}
use Rattle.vs_design.specs.declared.expression.Typed.TheViews.{out-Typed}
use Rattle.vs_design.specs.declared.statement.Statement.{Statement}
use Rattle.vs_design.specs.declared.statement.Statement.TheOpen.{Statement-F}
use Rattle.vs_design.specs.declared.statement.Statement.TheViews.{out-Statement}
use Rattle.vs_design.specs.declared.statement.Target.{Target}
use Rattle.vs_design.specs.declared.statement.Ticks.{Ticks}
use Rattle.vs_design.specs.Parts.{Parts}
use Rattle.vs_rules.specs.Constants.{bit_of, given, GivesDigit, IsKnown, IsWholeTarget, IsBare, Sets, Turns, SetsAfter, TurnsForever, SetsAndTurns}
use Rattle.vs_rules.specs.Constants as k
use Rattle.vs_slots_constants.specs.Wholes.{whole_parts, turn_layer}
use Rattle.vs_slots_constants.specs.Clocks.{IsCore, is_one, is_single, is_it, known, setting, setting_layer, turning, turning_layer, IsTurning, TurnsLayer, ForeverLayer, BeginsLayer, Begins, ArePair, PairLayer}
use Rattle.vs_slots_constants.proofs.WholeLemmas.{target_is, turn_is}
use Rattle.vs_slots_constants.proofs.Cores.{core_has, core_bare, one_core}

-- ---- digits

it_is : (o : Option ℕ) (v : ℕ) → o ≡ Some v → is_it o v ≡ true
it_is o v e = ap (λ x. is_it x v) e ∙ same_self v v refl

it_back : (o : Option ℕ) (v : ℕ) → is_it o v ≡ true → o ≡ Some v
it_back None v h = cc
it_back (Some u) v h = ap Some (eqb-true u v h)

pub known_is : (o : Option Digit) (digit : Digit) → o ≡ Some digit → IsKnown digit → known o ≡ Some digit
known_is o _ e k.zero = ap known e
known_is o _ e k.one = ap known e

pub known_back : (o : Option Digit) (digit : Digit) → known o ≡ Some digit → (o ≡ Some digit) × IsKnown digit
known_back None digit h = cc
known_back (Some Zero) digit h = (h, subst IsKnown (same_Some Zero digit h) k.zero)
known_back (Some One) digit h = (h, subst IsKnown (same_Some One digit h) k.one)
known_back (Some X) digit h = cc
known_back (Some Z) digit h = cc

-- ---- `u = c`

setting_is : (d : Parts) (v : ℕ) (target : Target) (value : Typed) (digit : Digit) → IsWholeTarget d v target → IsKnown digit → GivesDigit target value (bit_of v) digit → setting d v target value ≡ Some digit
setting_is d v target value digit whole sure gives =
    ap (λ (b : Bool). if b then known (given target value (bit_of v)) else None) (it_is (whole_parts d target.parts.items) v ((target_is d v target).0 whole))
    ∙ known_is (given target value (bit_of v)) digit gives sure

chosen_digit : (b : Bool) (o : Option Digit) (digit : Digit) → (if b then o else None) ≡ Some digit → (b ≡ true) × (o ≡ Some digit)
chosen_digit true o digit h = (refl, h)
chosen_digit false o digit h = cc

setting_back : (d : Parts) (v : ℕ) (target : Target) (value : Typed) (digit : Digit) → setting d v target value ≡ Some digit → IsWholeTarget d v target × IsKnown digit × GivesDigit target value (bit_of v) digit
setting_back d v target value digit h =
    let c = chosen_digit (is_it (whole_parts d target.parts.items) v) (known (given target value (bit_of v))) digit h in
    let sure = known_back (given target value (bit_of v)) digit c.1 in
    ((target_is d v target).1 (it_back (whole_parts d target.parts.items) v c.0), sure.1, sure.0)

setting_at : (d : Parts) (v : ℕ) (digit : Digit) (x : Statement-F Statement) → setting_layer d v x ≡ Some digit →
    (n : ℕ) × (target : Target) × (value : Typed) × (x ≡ Statement-F.Assign n target value) × (setting d v target value ≡ Some digit)
setting_at d v digit (Statement-F.Assign n target value) h = (n, target, value, refl, h)
setting_at d v digit _ h = cc

pub sets_is : (d : Parts) (v : ℕ) (digit : Digit) (s core : Statement) → IsCore s core → (Sets d v digit s ↔ setting_layer d v (out-Statement core) ≡ Some digit)
sets_is d v digit s core c = (
  λ h. ap (setting_layer d v) (core_has s core (Statement-F.Assign h.number h.target h.value) c refl h.is) ∙ setting_is d v h.target h.value digit h.whole h.known h.gives,
  λ h.
      let a = setting_at d v digit (out-Statement core) h in
      let b = setting_back d v a.1 a.2 digit a.4 in
      record { number = a.0; target = a.1; value = a.2; is = core_bare s core (Statement-F.Assign a.0 a.1 a.2) c a.3; whole = b.0; known = b.1; gives = b.2 },
)

-- ---- `u = ~u`

turning_at : (d : Parts) (wide : Bool) (v : ℕ) (x : Statement-F Statement) → turning_layer d wide v x ≡ true →
    (n : ℕ) × (target : Target) × (value : Typed) × (x ≡ Statement-F.Assign n target value) × (turning d wide v target value ≡ true)
turning_at d wide v (Statement-F.Assign n target value) h = (n, target, value, refl, h)
turning_at d wide v _ h = cc

pub turning_is : (d : Parts) (wide : Bool) (v : ℕ) (s core : Statement) → IsCore s core → (IsTurning d wide v s ↔ turning_layer d wide v (out-Statement core) ≡ true)
turning_is d wide v s core c = (
  λ h.
      ap (turning_layer d wide v) (core_has s core (Statement-F.Assign h.number h.target h.value) c refl h.is)
      ∙ and_from (is_it (whole_parts d h.target.parts.items) v) (is_it (turn_layer d wide (out-Typed h.value)) v)
      (it_is (whole_parts d h.target.parts.items) v ((target_is d v h.target).0 h.whole))
      (it_is (turn_layer d wide (out-Typed h.value)) v ((turn_is d wide v h.value).0 h.inverse)),
  λ h.
      let a = turning_at d wide v (out-Statement core) h in
      let both = and_parts (is_it (whole_parts d a.1.parts.items) v) (is_it (turn_layer d wide (out-Typed a.2)) v) a.4 in
      record {
        number = a.0;
        target = a.1;
        value = a.2;
        is = core_bare s core (Statement-F.Assign a.0 a.1 a.2) c a.3;
        whole = (target_is d v a.1).1 (it_back (whole_parts d a.1.parts.items) v both.0);
        inverse = (turn_is d wide v a.2).1 (it_back (turn_layer d wide (out-Typed a.2)) v both.1);
      },
)

-- ---- `#h u = ~u`

turns_at : (d : Parts) (wide : Bool) (v half : ℕ) (x : Statement-F Statement) → TurnsLayer d wide v half x →
    (n : ℕ) × (ticks : Ticks) × (inner : Box Statement Global) × (x ≡ Statement-F.Delay n ticks inner) × (ticks.count ≡ half) × (0 < half) × IsTurning d wide v inner.value
turns_at d wide v half (Statement-F.Delay n ticks inner) h = (n, ticks, inner, refl, h.0, h.1, h.2)
turns_at d wide v half _ h = absurd h

pub turns_is : (d : Parts) (wide : Bool) (v half : ℕ) (s core : Statement) → IsCore s core → (Turns d wide v half s ↔ TurnsLayer d wide v half (out-Statement core))
turns_is d wide v half s core c = (
  λ h. subst (TurnsLayer d wide v half) (sym (core_has s core (Statement-F.Delay h.number h.ticks h.inner) c refl h.is))
      (h.half_is, h.above, record { number = h.assigns; target = h.target; value = h.value; is = h.body; whole = h.whole; inverse = h.inverse }),
  λ h.
      let a = turns_at d wide v half (out-Statement core) h in
      record {
        number = a.0;
        ticks = a.1;
        inner = a.2;
        is = core_bare s core (Statement-F.Delay a.0 a.1 a.2) c a.3;
        half_is = a.4;
        above = a.5;
        assigns = a.6.number;
        target = a.6.target;
        value = a.6.value;
        body = a.6.is;
        whole = a.6.whole;
        inverse = a.6.inverse;
      },
)

-- ---- `forever #h u = ~u`

forever_at : (d : Parts) (wide : Bool) (v half : ℕ) (x : Statement-F Statement) → ForeverLayer d wide v half x → (n : ℕ) × (inner : Box Statement Global) × (x ≡ Statement-F.Forever n inner) × Turns d wide v half inner.value
forever_at d wide v half (Statement-F.Forever n inner) h = (n, inner, refl, h)
forever_at d wide v half _ h = absurd h

pub forever_is : (d : Parts) (wide : Bool) (v half : ℕ) (s core : Statement) → IsCore s core → (TurnsForever d wide v half s ↔ ForeverLayer d wide v half (out-Statement core))
forever_is d wide v half s core c = (
  λ h. subst (ForeverLayer d wide v half) (sym (core_has s core (Statement-F.Forever h.number h.inner) c refl h.is)) h.turns,
  λ h.
      let a = forever_at d wide v half (out-Statement core) h in
      record { number = a.0; inner = a.1; is = core_bare s core (Statement-F.Forever a.0 a.1) c a.2; turns = a.3 },
)

-- ---- `[#o] u = c`

begins_at : (d : Parts) (v offset : ℕ) (digit : Digit) (x : Statement-F Statement) → BeginsLayer d v offset digit x →
    ((offset ≡ 0) × (setting_layer d v x ≡ Some digit))
    ⊎ ((n : ℕ) × (ticks : Ticks) × (inner : Box Statement Global) × (x ≡ Statement-F.Delay n ticks inner) × (ticks.count ≡ offset) × Sets d v digit inner.value)
begins_at d v offset digit (Statement-F.Assign n target value) h = inl h
begins_at d v offset digit (Statement-F.Delay n ticks inner) h = inr (n, ticks, inner, refl, h.0, h.1)
begins_at d v offset digit _ h = absurd h

begins_there : (d : Parts) (v offset : ℕ) (digit : Digit) (s core : Statement) → IsCore s core → Begins d v offset digit s → BeginsLayer d v offset digit (out-Statement core)
begins_there d v offset digit s core c (inl h) =
    subst (BeginsLayer d v offset digit) (sym (core_has s core (Statement-F.Assign h.1.number h.1.target h.1.value) c refl h.1.is))
    (h.0, setting_is d v h.1.target h.1.value digit h.1.whole h.1.known h.1.gives)
begins_there d v offset digit s core c (inr h) =
    subst (BeginsLayer d v offset digit) (sym (core_has s core (Statement-F.Delay h.number h.ticks h.inner) c refl h.is)) (h.offset_is, h.sets)

begins_back : (d : Parts) (v offset : ℕ) (digit : Digit) (s core : Statement) → IsCore s core →
    ((offset ≡ 0) × (setting_layer d v (out-Statement core) ≡ Some digit))
    ⊎ ((n : ℕ) × (ticks : Ticks) × (inner : Box Statement Global) × (out-Statement core ≡ Statement-F.Delay n ticks inner) × (ticks.count ≡ offset) × Sets d v digit inner.value) → Begins d v offset digit s
begins_back d v offset digit s core c (inl h) = inl (h.0, (sets_is d v digit s core c).1 h.1)
begins_back d v offset digit s core c (inr a) =
    inr (record { number = a.0; ticks = a.1; inner = a.2; is = core_bare s core (Statement-F.Delay a.0 a.1 a.2) c a.3; offset_is = a.4; sets = a.5 })

pub begins_is : (d : Parts) (v offset : ℕ) (digit : Digit) (s core : Statement) → IsCore s core → (Begins d v offset digit s ↔ BeginsLayer d v offset digit (out-Statement core))
begins_is d v offset digit s core c = (begins_there d v offset digit s core c, λ h. begins_back d v offset digit s core c (begins_at d v offset digit (out-Statement core) h))

-- ---- `begin [#o] u = c; forever #h u = ~u; end`

two_not_one : (all : Vec Statement Global) (a b : Statement) → all.items ≡ a ∷ b ∷ [] → is_single (Statement-F.Block all) ≡ false
two_not_one all a b e = ap is_one e

pair_in : (d : Parts) (wide : Bool) (v offset half : ℕ) (digit : Digit) (all : List Statement) → ArePair d wide v offset half digit all →
    (a : Statement) × (b : Statement) × (all ≡ a ∷ b ∷ []) × Begins d v offset digit a × TurnsForever d wide v half b
pair_in d wide v offset half digit [] h = absurd h
pair_in d wide v offset half digit (a ∷ []) h = absurd h
pair_in d wide v offset half digit (a ∷ b ∷ []) h = (a, b, refl, h.0, h.1)
pair_in d wide v offset half digit (a ∷ b ∷ x ∷ rest) h = absurd h

pair_at : (d : Parts) (wide : Bool) (v offset half : ℕ) (digit : Digit) (x : Statement-F Statement) → PairLayer d wide v offset half digit x →
    (all : Vec Statement Global) × (x ≡ Statement-F.Block all) × ArePair d wide v offset half digit all.items
pair_at d wide v offset half digit (Statement-F.Block all) h = (all, refl, h)
pair_at d wide v offset half digit _ h = absurd h

pub pair_is : (d : Parts) (wide : Bool) (v offset half : ℕ) (digit : Digit) (s core : Statement) → IsCore s core → (SetsAndTurns d wide v offset half digit s ↔ PairLayer d wide v offset half digit (out-Statement core))
pair_is d wide v offset half digit s core c = (
  λ h. subst (PairLayer d wide v offset half digit) (sym (core_has s core (Statement-F.Block h.all) c (two_not_one h.all h.first h.second h.two) h.is))
      (subst (ArePair d wide v offset half digit) (sym h.two) (h.sets, h.turns)),
  λ h.
      let a = pair_at d wide v offset half digit (out-Statement core) h in
      let b = pair_in d wide v offset half digit a.0.items a.2 in
      record { all = a.0; is = core_bare s core (Statement-F.Block a.0) c a.1; first = b.0; second = b.1; two = b.2; sets = b.3; turns = b.4 },
)

-- ---- a statement has one form

-- what sets and turns a clock isn't what turns one alone
pub sets_or_turns : (d : Parts) (wide : Bool) (v offset half ticks : ℕ) (digit : Digit) (s : Statement) → SetsAndTurns d wide v offset half digit s → TurnsForever d wide v ticks s → ⊥
sets_or_turns d wide v offset half ticks digit s a b =
    let e = one_core s (Statement-F.Block a.all) (Statement-F.Forever b.number b.inner) a.is (two_not_one a.all a.first a.second a.two) b.is refl in
    cc

-- nor is what sets one
pub set_or_turns : (d : Parts) (wide : Bool) (v half : ℕ) (digit : Digit) (s : Statement) → Sets d v digit s → TurnsForever d wide v half s → ⊥
set_or_turns d wide v half digit s a b =
    let e = one_core s (Statement-F.Assign a.number a.target a.value) (Statement-F.Forever b.number b.inner) a.is refl b.is refl in
    cc
