-- What the turn of a clock makes of its bit, and its phases.
use Rattle.std.proofs.Common.{◌≡◌, ℕ, ◌+◌, ◌*◌, ◌%◌, ◌==◌, ◌⊎◌, pos, Bool, true, false, Some, List, [], ◌∷◌, map, slice_get, refl, sym, ◌∙◌, ap, subst, inl, inr, arith}
use Rattle.std.specs.Prelude.{sum}
use Rattle.std.specs.List.{list_all}
use Rattle.std.proofs.Math.Nat.{add-mod_right}
use Rattle.std.proofs.lemmas.Bool.{and_parts, eqb-true}
use Rattle.vs_design.specs.vs_logic4.specs.declared.digit.Digit.{Digit}
use Rattle.vs_design.specs.vs_logic4.specs.declared.operators.Unary.TheVariants as u
use Rattle.vs_design.specs.vs_logic4.specs.Parts.{selected}
use Rattle.vs_design.specs.vs_logic4.specs.Tables.{not_digit}
use Rattle.vs_design.specs.vs_logic4.specs.Vectors.{resized}
use Rattle.vs_design.specs.declared.expression.Slice.{Slice}
use Rattle.vs_design.specs.declared.expression.Typed.{Typed, Typed-F}
use Rattle.vs_design.specs.declared.expression.Typed.TheOpen as t
use Rattle.vs_design.specs.declared.expression.Typed.TheViews.{out-Typed}
use Rattle.vs_design.specs.declared.signal.Signal.{Signal}
use Rattle.vs_design.specs.declared.statement.Aim.{Aim}
use Rattle.vs_design.specs.declared.statement.Aim.TheVariants.{Fixed}
use Rattle.vs_design.specs.declared.statement.Statement.{Statement}
use Rattle.vs_design.specs.declared.statement.Statement.TheOpen.{Statement-F}
use Rattle.vs_design.specs.declared.statement.Statement.TheFolds.{fold_out-Statement, map-Statement}
use Rattle.vs_design.specs.declared.statement.Statement.TheViews.{out-Statement}
use Rattle.vs_design.specs.declared.statement.Target.{Target}
use Rattle.vs_design.specs.Parts.{Parts}
use Rattle.vs_design.specs.Stores.{Store, put}
use Rattle.vs_design.specs.WellFormed.{aim_width, is_sound_statement, is_sound_target, is_source, is_variable_aim, sound_step}
use Rattle.vs_independence.specs.vs_process.specs.vs_eval.specs.Targets.{part_at, parts_from}
use Rattle.vs_independence.specs.vs_process.specs.vs_eval.specs.Values.{target_value}
use Rattle.vs_process.specs.Steps.{assignment}
use Rattle.vs_rules.specs.vs_process.specs.Edges.{one_bit}
use Rattle.vs_rules.proofs.Points.{mod_sum}
use Rattle.vs_rules.specs.Constants.{IsBare, itself, inside, IsKnown, IsInverse, IsInverseLayer, Inverts, InvertsLayer, IsTurn, IsWholeTarget, TurnsForever}
use Rattle.vs_rules.specs.Constants as k
use Rattle.vs_rules.specs.Copies.{IsOneBit}
use Rattle.vs_independence.proofs.Links.{put_one, inverts_value, one_resized, one_selected, same_signal}

-- ---- `~u` and `!u`

inverse_inverts : (d : Parts) (v : ℕ) (e : Typed) → IsInverse d v e → Inverts d v e
inverse_inverts d v e h = by_layer (out-Typed e) h
  where
    by_layer : (x : Typed-F Typed) → IsInverseLayer d v x → InvertsLayer d v x
    by_layer (t.Unary u.Not x) w = w
    by_layer _ w = absurd w

-- what turns a clock in one version or the other inverts it
pub turn_inverts : (d : Parts) (wide : Bool) (v : ℕ) (e : Typed) → IsTurn d wide v e → Inverts d v e
turn_inverts d false v e h = inverse_inverts d v e h
turn_inverts d true v e h = h

-- the turn gives the bit the other digit
pub turned : (d : Parts) (wide : Bool) (v : ℕ) (target : Target) (value : Typed) → IsOneBit d v → IsWholeTarget d v target → IsTurn d wide v value → sum (map aim_width target.parts.items) ≡ target.width →
    (store : Store) (time : ℕ) (z : Digit) → slice_get store v ≡ Some (one_bit z) → slice_get (put store (assignment target value store time)) v ≡ Some (one_bit (not_digit z))
turned d wide v target value one whole inverse sized store time z is =
    subst (λ (parts : List Aim). slice_get (put store (parts_from 0 parts (target_value target value store time) store time)) v ≡ Some (one_bit (not_digit z))) (sym whole.only)
    (put_one store (part_at (Fixed s) (selected (pos 0) s.width (target_value target value store time)) store time) v z (not_digit z) whole.whole.of whole.whole.word whole.whole.low digits is)
  where
    s : Slice
    s = whole.slice

    width : s.width ≡ 1
    width = whole.whole.width ∙ ap (λ (x : Signal). x.width) (same_signal d v whole.whole.signal one.0 whole.whole.is one.1) ∙ one.2

    total : target.width ≡ 1
    total =
        let parts : sum (map aim_width (Fixed s ∷ [])) ≡ target.width = subst (λ (ps : List Aim). sum (map aim_width ps) ≡ target.width) whole.only sized in
        let added : 0 + s.width ≡ target.width = parts in
        omega (arith, width, added)

    given : target_value target value store time ≡ not_digit z ∷ []
    given = ap (resized false target.width) (inverts_value d v value store time z (turn_inverts d wide v value inverse) one is) ∙ one_resized false target.width (not_digit z) total

    digits : selected (pos 0) s.width (target_value target value store time) ≡ not_digit z ∷ []
    digits = ap (selected (pos 0) s.width) given ∙ one_selected (pos 0) s.width (not_digit z) refl width

-- ---- the text is sound

pub sound_layer : (ss : List Signal) (s : Statement) (x : Statement-F Statement) → is_sound_statement ss s ≡ true → out-Statement s ≡ x → sound_step ss (map-Statement Statement Bool (is_sound_statement ss) x) ≡ true
sound_layer ss s x h is =
    ap (λ y. sound_step ss (map-Statement Statement Bool (is_sound_statement ss) y)) (sym is) ∙ sym (fold_out-Statement Bool (sound_step ss) s) ∙ h

pub bare_sound : (ss : List Signal) (s : Statement) (x : Statement-F Statement) → IsBare s x → is_sound_statement ss s ≡ true → sound_step ss (map-Statement Statement Bool (is_sound_statement ss) x) ≡ true
bare_sound ss _ _ (itself s x is) h = sound_layer ss s x h is
bare_sound ss _ _ (inside s all inner x is one deep) h =
    bare_sound ss inner x deep (and_parts (is_sound_statement ss inner) true
    (subst (λ (l : List Statement). list_all (λ b. b) (map (is_sound_statement ss) l) ≡ true) one (sound_layer ss s (Statement-F.Block all) h is))).0

assignment_sized : (ss : List Signal) (target : Target) (value : Typed) (n : ℕ) → sound_step ss (map-Statement Statement Bool (is_sound_statement ss) (Statement-F.Assign n target value)) ≡ true →
    sum (map aim_width target.parts.items) ≡ target.width
assignment_sized ss target value n h =
    let a = (and_parts (is_sound_target (is_variable_aim ss) target) (is_source ss target value) h).0 in
    eqb-true (sum (map aim_width target.parts.items)) target.width (and_parts (list_all (is_variable_aim ss) target.parts.items) (sum (map aim_width target.parts.items) == target.width) a).1

-- the target of the turn has its own size
pub turn_sized : (d : Parts) (wide : Bool) (v half : ℕ) (s : Statement) (h : TurnsForever d wide v half s) → is_sound_statement d.signals s ≡ true → sum (map aim_width h.turns.target.parts.items) ≡ h.turns.target.width
turn_sized d wide v half s h sound =
    let delay = bare_sound d.signals s (Statement-F.Forever h.number h.inner) h.is sound in
    let turn = bare_sound d.signals h.inner.value (Statement-F.Delay h.turns.number h.turns.ticks h.turns.inner) h.turns.is delay in
    assignment_sized d.signals h.turns.target h.turns.value h.turns.assigns (bare_sound d.signals h.turns.inner.value (Statement-F.Assign h.turns.assigns h.turns.target h.turns.value) h.turns.body turn)

-- ---- phases

abbrev pub Phase : Digit → ℕ → ℕ → ℕ → Digit → Type 0
Phase digit offset half time z = ((z ≡ digit) × (time % (2 * half) ≡ offset % (2 * half))) ⊎ ((z ≡ not_digit digit) × (time % (2 * half) ≡ (offset + half) % (2 * half)))

twice_not : (z : Digit) → IsKnown z → not_digit (not_digit z) ≡ z
twice_not _ k.zero = refl
twice_not _ k.one = refl

add_both : (a b h m : ℕ) → a % m ≡ b % m → (a + h) % m ≡ (b + h) % m
add_both a b h m e = sym (mod_sum a h m) ∙ ap (λ n. (n + h) % m) e ∙ mod_sum b h m

-- half a period later it is the other digit's
pub phase_turns : (digit : Digit) (offset half time : ℕ) (z : Digit) → IsKnown digit → Phase digit offset half time z → Phase digit offset half (time + half) (not_digit z)
phase_turns digit offset half time z known (inl (same, at)) = inr (ap not_digit same, add_both time offset half (2 * half) at)
phase_turns digit offset half time z known (inr (same, at)) =
    let turn : (offset + half) + half ≡ offset + 2 * half = omega arith in
    inl (ap not_digit same ∙ twice_not digit known, add_both time (offset + half) half (2 * half) at ∙ ap (λ n. n % (2 * half)) turn ∙ add-mod_right offset (2 * half))
