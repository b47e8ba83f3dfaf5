-- What the one assignment to a net of one bit makes of it.
use Rattle.std.proofs.Common.{◌≡◌, ℕ, zero, ◌+◌, ◌==◌, ℤ, pos, Bool, true, false, Some, option_map, List, [], ◌∷◌, map, replicate, slice_get, refl, sym, ◌∙◌, ap, subst, inl, inr, arith}
use Rattle.std.specs.Prelude.{sum}
use Rattle.std.specs.List.{list_any, list_all}
use Rattle.std.proofs.lemmas.Bool.{and_parts, cases_Bool, eqb-true, true≢false, false≢true}
use Rattle.std.proofs.lemmas.Option.{same_Some}
use Rattle.vs_design.specs.vs_logic4.specs.declared.digit.Digit.{Digit}
use Rattle.vs_design.specs.vs_logic4.specs.declared.digit.Digit.TheVariants.{Zero, One, X, Z}
use Rattle.vs_design.specs.vs_logic4.specs.declared.operators.Unary.TheVariants as op
use Rattle.vs_design.specs.vs_logic4.specs.Comparisons.{truth}
use Rattle.vs_design.specs.vs_logic4.specs.Operators.{unary}
use Rattle.vs_design.specs.vs_logic4.specs.Parts.{selected}
use Rattle.vs_design.specs.vs_logic4.specs.Tables.{not_digit}
use Rattle.vs_design.specs.vs_logic4.specs.Vectors.{resized}
use Rattle.vs_design.specs.declared.design.Assign.{Assign}
use Rattle.vs_design.specs.declared.expression.Slice.{Slice}
use Rattle.vs_design.specs.declared.expression.Typed.{Typed, Typed-F}
use Rattle.vs_design.specs.declared.expression.Typed.TheOpen as t
use Rattle.vs_design.specs.declared.expression.Typed.TheViews.{out-Typed}
use Rattle.vs_design.specs.declared.expression.Typed.TheFolds.{fold_out-Typed, map-Typed}
use Rattle.vs_design.specs.declared.range.BitRange.{BitRange}
use Rattle.vs_design.specs.declared.signal.Signal.{Signal}
use Rattle.vs_design.specs.declared.signal.SignalKind.{SignalKind}
use Rattle.vs_design.specs.declared.signal.SignalKind.TheVariants.{Wire, Reg, Integer}
use Rattle.vs_design.specs.declared.statement.Aim.{Aim}
use Rattle.vs_design.specs.declared.statement.Aim.TheVariants.{Fixed}
use Rattle.vs_design.specs.declared.statement.Target.{Target}
use Rattle.vs_design.specs.declared.write.Part.{Part}
use Rattle.vs_design.specs.Kinds.{is_variable}
use Rattle.vs_design.specs.Parts.{Parts}
use Rattle.vs_design.specs.Stores.{Store, changed_at, drives_bit, overlaid, put, start_digit, start_digits, word_in, word_of}
use Rattle.vs_design.specs.Uses.{aim_range, bits_from, covers, has_bit, is_of, reads, slice_range, writes, writes_signal}
use Rattle.vs_design.specs.WellFormed.{WellFormed, aim_width, is_net_aim, is_sound_assign, is_sound_target, is_source}
use Rattle.vs_independence.specs.vs_process.specs.vs_eval.specs.Targets.{part_at, parts_from}
use Rattle.vs_independence.specs.vs_process.specs.vs_eval.specs.Values.{bits_value, operand_value, target_value, value_of, value_step}
use Rattle.vs_process.specs.Steps.{assignment}
use Rattle.vs_independence.specs.vs_process.proofs.ProcessLists.{all_slice}
use Rattle.std.proofs.lemmas.Map.Keys.{any_passes_from_place as at_any}
use Rattle.vs_design.proofs.Stores.{slice_get-changed_at as changed_same}
use Rattle.vs_rules.specs.Claims.{HasKind}
use Rattle.vs_rules.specs.Constants.{IsWholeSlice, IsWholeLayer, IsWhole, IsNegationLayer, Inverts, InvertsLayer, IsWholeTarget}
use Rattle.vs_rules.specs.Copies.{IsOneBit, IsCopyBy}
use Rattle.vs_rules.specs.vs_process.specs.Edges.{one_bit, IsBit, IsLink, inverted, one_more}
use Rattle.vs_independence.proofs.Roots.{selects_whole, whole_writes}
use Rattle.vs_independence.proofs.Words.{lists_signal}
use Rattle.vs_rules.specs.vs_process.proofs.Copying.{start_at}
use Rattle.vs_design.specs.vs_logic4.proofs.Basics.{same_self}

-- ---- the start of a signal of one bit

one_start : (driven : ℕ → Bool) (kind : SignalKind) (count width : ℕ) → count ≡ 1 → width ≡ 1 → start_digit (driven 0) kind ≡ X → replicate count (start_digits driven kind 0 width) ≡ one_bit X
one_start driven kind count width c w x =
    ap (λ n. replicate n (start_digits driven kind 0 width)) c ∙ ap (λ n. start_digits driven kind 0 n ∷ []) w ∙ ap (λ y. one_bit y) x

pub variable_start : (driven : Bool) (kind : SignalKind) → is_variable kind ≡ true → start_digit driven kind ≡ X
variable_start driven Wire h = absurd (false≢true h)
variable_start driven Reg h = refl
variable_start driven Integer h = refl

pub driven_start : (driven : Bool) (kind : SignalKind) → driven ≡ true → start_digit driven kind ≡ X
driven_start true Wire h = refl
driven_start true Reg h = refl
driven_start true Integer h = refl
driven_start false kind h = absurd (false≢true h)

bit_starts : (d : Parts) (v : ℕ) (s : Signal) → slice_get d.signals v ≡ Some s → s.width ≡ 1 → s.count ≡ 1 → start_digit (drives_bit d.assigns (0 + v) 0) s.kind ≡ X → IsBit d v
bit_starts d v s is width count x = start_at d.assigns 0 d.signals v s is ∙ ap (λ w. Some w) (one_start (drives_bit d.assigns (0 + v)) s.kind s.count s.width count width x)

pub same_signal : (d : Parts) (v : ℕ) (s x : Signal) → slice_get d.signals v ≡ Some s → slice_get d.signals v ≡ Some x → s ≡ x
same_signal d v s x a b = same_Some s x (sym a ∙ b)

-- ---- a copy makes its net what it copies, an inverse copy its inverse

pub one_resized : (signed : Bool) (width : ℕ) (z : Digit) → width ≡ 1 → resized signed width (z ∷ []) ≡ z ∷ []
one_resized signed width z e = ap (λ n. resized signed n (z ∷ [])) e

pub one_selected : (low : ℤ) (width : ℕ) (z : Digit) → low ≡ pos 0 → width ≡ 1 → selected low width (z ∷ []) ≡ z ∷ []
one_selected low width z l w = ap (λ n. selected n width (z ∷ [])) l ∙ ap (λ n. selected (pos 0) n (z ∷ [])) w

pub whole_value : (d : Parts) (m : ℕ) (e : Typed) (store : Store) (time : ℕ) (z : Digit) → IsWhole d m e → IsOneBit d m → slice_get store m ≡ Some (one_bit z) → value_of e store time ≡ z ∷ []
whole_value d m e store time z h one is = by_layer (out-Typed e) h (fold_out-Typed (List Digit) (value_step store time) e)
  where
    word : (n : ℕ) → n ≡ m → word_of store n 0 ≡ Some (z ∷ [])
    word n e = ap (λ k. word_in (slice_get store k) 0) e ∙ ap (λ o. word_in o 0) is

    bit_wide : (s : Slice) → IsWholeSlice d m s → s.width ≡ 1
    bit_wide s w = w.width ∙ ap (λ (s : Signal). s.width) (same_signal d m w.signal one.0 w.is one.1) ∙ one.2

    bits : (s : Slice) → IsWholeSlice d m s → bits_value s.low s.width (word_of store s.signal s.word) ≡ z ∷ []
    bits s w =
        ap (λ n. bits_value s.low s.width (word_of store s.signal n)) w.word ∙ ap (bits_value s.low s.width) (word s.signal w.of)
        ∙ one_selected s.low s.width z w.low (bit_wide s w)

    by_layer : (x : Typed-F Typed) → IsWholeLayer d m x → value_of e store time ≡ value_step store time (map-Typed Typed (List Digit) (λ y. value_of y store time) x) → value_of e store time ≡ z ∷ []
    by_layer (t.Signal o) w step =
        let width : o.width ≡ 1 = w.width ∙ ap (λ (s : Signal). s.width) (same_signal d m w.signal one.0 w.is one.1) ∙ one.2 in
        step ∙ ap (operand_value o.signed o.width) (word o.signal w.of) ∙ one_resized o.signed o.width z width
    by_layer (t.Slice s) w step = step ∙ bits s w
    by_layer (t.Resized size x) w step =
        let s = selects_whole d m size.width x.value w in
        step ∙ ap (resized size.signed size.width) (s.value store time ∙ bits s.slice s.whole) ∙ one_resized size.signed size.width z (sym s.size ∙ bit_wide s.slice s.whole)
    by_layer _ w step = absurd w

-- what `!` makes of one digit is its inverse
truth_not : (z : Digit) → not_digit (truth (z ∷ [])) ≡ not_digit z
truth_not Zero = refl
truth_not One = refl
truth_not X = refl
truth_not Z = refl

negation_value : (d : Parts) (v : ℕ) (e : Typed) (store : Store) (time : ℕ) (z : Digit) → IsNegationLayer d v (out-Typed e) → IsOneBit d v → slice_get store v ≡ Some (one_bit z) →
    value_of e store time ≡ not_digit z ∷ []
negation_value d v e store time z h one is = by_layer (out-Typed e) h (fold_out-Typed (List Digit) (value_step store time) e)
  where
    by_layer : (x : Typed-F Typed) → IsNegationLayer d v x → value_of e store time ≡ value_step store time (map-Typed Typed (List Digit) (λ y. value_of y store time) x) →
        value_of e store time ≡ not_digit z ∷ []
    by_layer (t.Unary op.LogicalNot x) w step = step ∙ ap (unary op.LogicalNot) (whole_value d v x.value store time z w one is) ∙ ap (λ y. y ∷ []) (truth_not z)
    by_layer _ w step = absurd w

-- the inverse of a whole signal of one bit
pub inverts_value : (d : Parts) (v : ℕ) (e : Typed) (store : Store) (time : ℕ) (z : Digit) → Inverts d v e → IsOneBit d v → slice_get store v ≡ Some (one_bit z) →
    value_of e store time ≡ not_digit z ∷ []
inverts_value d v e store time z h one is = by_layer (out-Typed e) h (fold_out-Typed (List Digit) (value_step store time) e)
  where
    by_layer : (x : Typed-F Typed) → InvertsLayer d v x → value_of e store time ≡ value_step store time (map-Typed Typed (List Digit) (λ y. value_of y store time) x) →
        value_of e store time ≡ not_digit z ∷ []
    by_layer (t.Unary op.Not x) w step = step ∙ ap (unary op.Not) (whole_value d v x.value store time z w one is)
    by_layer (t.Resized size x) w step =
        step ∙ ap (resized size.signed size.width) (negation_value d v x.value store time z w.1 one is) ∙ one_resized size.signed size.width (not_digit z) w.0
    by_layer _ w step = absurd w

pub put_one : (store : Store) (p : Part) (n : ℕ) (y z : Digit) → p.signal ≡ n → p.word ≡ 0 → p.low ≡ pos 0 → p.digits ≡ z ∷ [] → slice_get store n ≡ Some (one_bit y) → slice_get (put store (p ∷ [])) n ≡ Some (one_bit z)
put_one store p n y z s w l digits is =
    subst (λ k. slice_get (changed_at (changed_at (overlaid p.low p.digits) p.word) k store) n ≡ Some (one_bit z)) (sym s)
    (changed_same (changed_at (overlaid p.low p.digits) p.word) n store ∙ ap (option_map (changed_at (overlaid p.low p.digits) p.word)) is
    ∙ ap (λ k. Some (changed_at (overlaid p.low p.digits) k (one_bit y))) w ∙ ap (λ k. Some (overlaid k p.digits (y ∷ []) ∷ [])) l ∙ ap (λ ds. Some (overlaid (pos 0) ds (y ∷ []) ∷ [])) digits)

pub target_width : (d : Parts) → WellFormed d → (j : ℕ) (x : Assign) → slice_get d.assigns j ≡ Some x → sum (map aim_width x.target.parts.items) ≡ x.target.width
target_width d formed j x is =
    let sound = all_slice (λ (x : Assign). is_sound_assign d.signals x ≡ true) d.assigns j x is formed.assigns in
    let target = (and_parts (is_sound_target (is_net_aim d.signals) x.target) (is_source d.signals x.target x.source) sound).0 in
    eqb-true (sum (map aim_width x.target.parts.items)) x.target.width (and_parts (list_all (is_net_aim d.signals) x.target.parts.items) (sum (map aim_width x.target.parts.items) == x.target.width) target).1

-- what the one assignment to a net makes of it, whole, where its expression has one bit
copies_one : (d : Parts) → WellFormed d → {is_of : ℕ → Typed → Type 0} (n m : ℕ) → IsOneBit d n → (c : IsCopyBy d is_of n m) →
    (store : Store) (time : ℕ) (y z : Digit) → value_of c.assign.source store time ≡ z ∷ [] → slice_get store n ≡ Some (one_bit y) → slice_get (put store (assignment c.assign.target c.assign.source store time)) n ≡ Some (one_bit z)
copies_one d formed n m one_n c store time y z made hn =
    subst (λ (parts : List Aim). slice_get (put store (parts_from 0 parts (target_value c.assign.target c.assign.source store time) store time)) n ≡ Some (one_bit z)) (sym c.whole.only)
    (put_one store (part_at (Fixed s) (selected (pos 0) s.width (target_value c.assign.target c.assign.source store time)) store time) n y z c.whole.whole.of c.whole.whole.word c.whole.whole.low digits hn)
  where
    s : Slice
    s = c.whole.slice

    width : s.width ≡ 1
    width = c.whole.whole.width ∙ ap (λ (x : Signal). x.width) (same_signal d n c.whole.whole.signal one_n.0 c.whole.whole.is one_n.1) ∙ one_n.2

    total : c.assign.target.width ≡ 1
    total =
        let parts : sum (map aim_width (Fixed s ∷ [])) ≡ c.assign.target.width = subst (λ (ps : List Aim). sum (map aim_width ps) ≡ c.assign.target.width) c.whole.only (target_width d formed c.number c.assign c.is) in
        let added : 0 + s.width ≡ c.assign.target.width = parts in
        omega (arith, width, added)

    value : target_value c.assign.target c.assign.source store time ≡ z ∷ []
    value = ap (resized false c.assign.target.width) made ∙ one_resized false c.assign.target.width z total

    digits : selected (pos 0) s.width (target_value c.assign.target c.assign.source store time) ≡ z ∷ []
    digits = ap (selected (pos 0) s.width) value ∙ one_selected (pos 0) s.width z refl width

pub only_of : (d : Parts) (n v : ℕ) (target : Target) → IsWholeTarget d n target → writes_signal target v ≡ true → v ≡ n
only_of d n v target h w = by_list (subst (λ (ps : List Aim). list_any (is_of v) (map aim_range ps) ≡ true) h.only w)
  where
    by_list : list_any (is_of v) (slice_range h.slice ∷ []) ≡ true → v ≡ n
    by_list e = elim (cases_Bool (h.slice.signal == v)) [
      | inl hit ↦ sym (eqb-true h.slice.signal v hit) ∙ h.whole.of
      | inr miss ↦ absurd (true≢false (sym e ∙ rw miss refl))
    ]

-- a link that inverts or not
abbrev pub LinkBy : Parts → Bool → ℕ → ℕ → Type 0
LinkBy d inverts m n = (l : IsLink d m n) × (l.inverts ≡ inverts)

-- a net that is a copy, or an inverse copy, of a signal of one bit, by what its expression reads and what it is
pub link_by : (d : Parts) → WellFormed d → {is_of : ℕ → Typed → Type 0} (n m : ℕ) → IsOneBit d n → (c : IsCopyBy d is_of n m) →
    (range : BitRange) × (reads c.assign.source ≡ range ∷ []) × (range.signal ≡ m) → (inverts : Bool) →
    ((store : Store) (time : ℕ) (z : Digit) → slice_get store m ≡ Some (one_bit z) → value_of c.assign.source store time ≡ inverted (one_more inverts zero) z ∷ []) →
    LinkBy d inverts m n
link_by d formed n m one_n c range inverts value = (
  record {
    number = c.number;
    assign = c.assign;
    is = c.is;
    range = range.0;
    reads = range.1;
    of_source = range.2;
    writes = whole_writes d n c.assign.target c.whole;
    only = λ v w. only_of d n v c.assign.target c.whole w;
    alone = λ j x is w. c.alone j x is (lists_signal d (writes x.target) n w);
    inverts = inverts;
    copies = λ store time y z hm hn. copies_one d formed n m one_n c store time y (inverted (one_more inverts zero) z) (value store time z hm) hn;
  },
  refl,
)

-- a net that is a copy is driven
net_driven : (d : Parts) {is_of : ℕ → Typed → Type 0} (n m : ℕ) → IsOneBit d n → IsCopyBy d is_of n m → drives_bit d.assigns (0 + n) 0 ≡ true
net_driven d n m one c = at_any (λ (x : Assign). list_any (covers (0 + n) 0 0) (writes x.target)) d.assigns c.number c.assign c.is (subst (λ (ps : List Aim). list_any (covers (0 + n) 0 0) (map aim_range ps) ≡ true) (sym c.whole.only) (by_slice c.whole.slice c.whole.whole))
  where
    by_slice : (s : Slice) → IsWholeSlice d n s → list_any (covers (0 + n) 0 0) (slice_range s ∷ []) ≡ true
    by_slice s w =
        let plain : n ≡ 0 + n = omega arith in
        let signal : (s.signal == 0 + n) ≡ true = same_self s.signal (0 + n) (w.of ∙ plain) in
        let word : (s.word == 0) ≡ true = same_self s.word 0 w.word in
        let width : s.width ≡ 1 = w.width ∙ ap (λ (x : Signal). x.width) (same_signal d n w.signal one.0 w.is one.1) ∙ one.2 in
        let bit : has_bit (Some (bits_from s.low s.width)) 0 ≡ true = ap (λ l. has_bit (Some (bits_from l s.width)) 0) w.low ∙ ap (λ k. has_bit (Some (bits_from (pos 0) k)) 0) width in
        rw (signal, word, bit) refl

-- so it starts at x, as a variable does
pub net_bit : (d : Parts) {is_of : ℕ → Typed → Type 0} (n m : ℕ) → IsOneBit d n → IsCopyBy d is_of n m → IsBit d n
net_bit d n m one c = bit_starts d n one.0 one.1 one.2 one.3 (driven_start (drives_bit d.assigns (0 + n) 0) one.0.kind (net_driven d n m one c))

pub variable_bit : (d : Parts) (v : ℕ) → IsOneBit d v → HasKind true d v → IsBit d v
variable_bit d v one kind =
    bit_starts d v one.0 one.1 one.2 one.3
    (variable_start (drives_bit d.assigns (0 + v) 0) one.0.kind (ap (λ (s : Signal). is_variable s.kind) (same_signal d v one.0 kind.0 one.1 kind.1) ∙ kind.2))
