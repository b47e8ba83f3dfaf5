-- The copies of a variable at its size show it, whatever their width.
use Rattle.vs_process.proofs.Quick.{selected_whole}
use Rattle.std.proofs.Common.{ap, ap₂, subst, Bool, List, None, Option, Some, [], arith, eq-eqb, false, le-leb, length, lt-ltb, map, nat_le, nat_lt, option_map, pos, refl, replicate, suc, sym, true, zero, ℕ, ◌&&◌, ◌+◌, ◌<◌, ◌==◌, ◌∙◌, ◌∷◌, ◌≡◌, ◌≤◌, slice_get}
use Rattle.std.proofs.lemmas.Bool.{and_parts, eqb-true, and_from}
use Rattle.std.proofs.lemmas.List.{length-replicate}
use Rattle.std.proofs.lemmas.Option.{none-some, same_Some, slice_get-map}
use Rattle.std.specs.List.{Contains, list_any}
use Rattle.std.specs.Prelude.{sum}
use Rattle.vs_independence.proofs.Links.{driven_start, only_of, same_signal, target_width, variable_start}
use Rattle.vs_rules.specs.vs_process.proofs.Copying.{start_at}
use Rattle.vs_independence.proofs.Roots.{selects_whole, whole_writes}
use Rattle.vs_independence.proofs.Words.{lists_signal}
use Rattle.vs_rules.specs.Blocks.{CopiesWhole, copy, itself}
use Rattle.vs_rules.specs.Claims.{Claims, HasKind}
use Rattle.vs_rules.specs.Constants.{IsWhole, IsWholeLayer, IsWholeSlice}
use Rattle.vs_rules.specs.Drivers.{InCone, IsSource}
use Rattle.vs_rules.specs.Paths.{IsBit}
use Rattle.vs_rules.specs.Copies.{IsCopy}
use Rattle.vs_design.specs.Kinds.{is_variable}
use Rattle.vs_design.specs.Parts.{Parts}
use Rattle.vs_design.specs.Stores.{Store, changed_at, drives_bit, overlaid, put, start_digit, start_digits, start_store, word_in, word_of}
use Rattle.vs_design.specs.Uses.{writes, aim_range, bits_from, covers, has_bit, has_word, reads, reads_step, slice_range, whole}
use Rattle.vs_design.specs.WellFormed.{WellFormed, aim_width}
use Rattle.vs_design.specs.declared.design.Assign.{Assign}
use Rattle.vs_design.specs.declared.expression.Slice.{Slice}
use Rattle.vs_design.specs.declared.expression.Typed.{Typed, Typed-F}
use Rattle.vs_design.specs.declared.expression.Typed.TheFolds.{fold_out-Typed, map-Typed}
use Rattle.vs_design.specs.declared.expression.Typed.TheViews.{out-Typed}
use Rattle.vs_design.specs.declared.range.BitRange.{BitRange}
use Rattle.vs_design.specs.declared.signal.Signal.{Signal}
use Rattle.vs_design.specs.declared.signal.SignalKind.{SignalKind}
use Rattle.vs_design.specs.declared.statement.Aim.{Aim}
use Rattle.vs_design.specs.declared.statement.Aim.TheVariants.{Fixed}
use Rattle.vs_design.specs.declared.write.Part.{Part}
use Rattle.vs_independence.specs.vs_process.specs.vs_eval.specs.Targets.{part_at, parts_from}
use Rattle.vs_independence.specs.vs_process.specs.vs_eval.specs.Values.{bits_value, operand_value, target_value, value_of, value_step}
use Rattle.vs_process.specs.Steps.{assignment}
use Rattle.vs_rules.specs.vs_process.proofs.ThreadLists.{contains_at}
use Rattle.vs_rules.specs.vs_process.specs.BlockDrivers.{Shows, copied, sizes}
use Rattle.vs_design.specs.vs_logic4.proofs.Properties.{resized-own_width, selected-with_part}
use Rattle.vs_design.specs.vs_logic4.specs.Lengths.{length-with_part}
use Rattle.vs_design.specs.vs_logic4.specs.Parts.{selected, with_part}
use Rattle.vs_design.specs.vs_logic4.specs.Vectors.{resized}
use Rattle.vs_design.specs.vs_logic4.specs.declared.digit.Digit.{Digit}
use Rattle.vs_design.specs.vs_logic4.specs.declared.digit.Digit.TheVariants.{X}
use Rattle.std.proofs.lemmas.Map.Keys.{any_passes_from_place as at_any}
use Rattle.vs_rules.specs.vs_process.proofs.Bits.{meets_bit}
use Rattle.vs_design.proofs.Stores.{slice_get-changed_at as changed_same}
use Rattle.vs_rules.specs.Drivers as v
use Rattle.vs_rules.specs.vs_process.specs.BlockDrivers as a
use Rattle.vs_design.specs.declared.expression.Typed.TheOpen as t

-- ---- a bit of a whole signal

slice_covers : (d : Parts) (v w p : ℕ) (s : Slice) → IsWholeSlice d v s → IsBit d (record { signal = v; word = w; place = p }) → covers v w p (slice_range s) ≡ true
slice_covers d v w p s h bit =
    let same : h.signal ≡ bit.signal = same_signal d v h.signal bit.signal h.is bit.is in
    let one : bit.signal.count ≡ 1 = ap (λ (x : Signal). x.count) (sym same) ∙ h.count in
    let size : bit.signal.width ≡ s.width = ap (λ (x : Signal). x.width) (sym same) ∙ sym h.width in
    let below : w < bit.signal.count = bit.word in
    let zero_word : s.word ≡ w = (let e : 0 ≡ w = omega (arith, below, one) in h.word ∙ e) in
    let short : p < bit.signal.width = bit.place in
    let within : p < 0 + s.width = omega (arith, short, size) in
    let bits : has_bit (Some (bits_from s.low s.width)) p ≡ true =
    ap (λ low. has_bit (Some (bits_from low s.width)) p) h.low ∙ and_from (nat_le 0 p) (nat_lt p (0 + s.width)) (le-leb 0 p (omega arith)) (lt-ltb p (0 + s.width) within) in
    and_from (s.signal == v && s.word == w) (has_bit (Some (bits_from s.low s.width)) p) (and_from (s.signal == v) (s.word == w) (eq-eqb s.signal v h.of) (eq-eqb s.word w zero_word)) bits

name_covers : (d : Parts) (v w p n : ℕ) (s : Signal) → slice_get d.signals v ≡ Some s → s.count ≡ 1 → n ≡ v → IsBit d (record { signal = v; word = w; place = p }) → covers v w p (whole n) ≡ true
name_covers d v w p n s is count e bit =
    let same : s ≡ bit.signal = same_signal d v s bit.signal is bit.is in
    let one : bit.signal.count ≡ 1 = ap (λ (x : Signal). x.count) (sym same) ∙ count in
    let below : w < bit.signal.count = bit.word in
    let zero_word : 0 ≡ w = omega (arith, below, one) in
    and_from (n == v && 0 == w) true (and_from (n == v) (0 == w) (eq-eqb n v e) (eq-eqb 0 w zero_word)) refl

-- what a whole signal reads has each of its bits
whole_covers : (d : Parts) (v w p : ℕ) (e : Typed) → IsWhole d v e → IsBit d (record { signal = v; word = w; place = p }) → (range : BitRange) × (reads e ≡ range ∷ []) × (range.signal ≡ v) × (covers v w p range ≡ true)
whole_covers d v w p e h bit = by_layer (out-Typed e) h (fold_out-Typed (List BitRange) reads_step e)
  where
    by_layer : (x : Typed-F Typed) → IsWholeLayer d v x → reads e ≡ reads_step (map-Typed Typed (List BitRange) reads x) →
        (range : BitRange) × (reads e ≡ range ∷ []) × (range.signal ≡ v) × (covers v w p range ≡ true)
    by_layer (t.Signal o) h is = (whole o.signal, is, h.of, name_covers d v w p o.signal h.signal h.is h.count h.of bit)
    by_layer (t.Slice s) h is = (slice_range s, is, h.of, slice_covers d v w p s h bit)
    by_layer (t.Resized size x) h is =
        let s = selects_whole d v size.width x.value h in
        (slice_range s.slice, is ∙ s.reads_it, s.whole.of, slice_covers d v w p s.slice s.whole bit)
    by_layer _ h is = absurd h

-- what a whole signal is of: one word
whole_signal : (d : Parts) (v : ℕ) (e : Typed) → IsWhole d v e → (s : Signal) × (slice_get d.signals v ≡ Some s) × (s.count ≡ 1)
whole_signal d v e h = by_layer (out-Typed e) h
  where
    by_layer : (x : Typed-F Typed) → IsWholeLayer d v x → (s : Signal) × (slice_get d.signals v ≡ Some s) × (s.count ≡ 1)
    by_layer (t.Signal o) h = (h.signal, h.is, h.count)
    by_layer (t.Slice s) h = (h.signal, h.is, h.count)
    by_layer (t.Resized size x) h = let s = selects_whole d v size.width x.value h in (s.whole.signal, s.whole.is, s.whole.count)
    by_layer _ h = absurd h

-- the value of a whole signal is its word
whole_word : (d : Parts) (v : ℕ) (e : Typed) (store : Store) (time : ℕ) (s : Signal) (word : List Digit) → IsWhole d v e → slice_get d.signals v ≡ Some s → slice_get store v ≡ Some (word ∷ []) → length word ≡ s.width → value_of e store time ≡ word
whole_word d v e store time s word h at is size = by_layer (out-Typed e) h (fold_out-Typed (List Digit) (value_step store time) e)
  where
    found : (n : ℕ) → n ≡ v → word_of store n 0 ≡ Some word
    found n e = ap (λ k. word_in (slice_get store k) 0) e ∙ ap (λ o. word_in o 0) is

    long : (z : Slice) → IsWholeSlice d v z → length word ≡ z.width
    long z w = size ∙ sym (w.width ∙ ap (λ (s : Signal). s.width) (same_signal d v w.signal s w.is at))

    bits : (z : Slice) → IsWholeSlice d v z → bits_value z.low z.width (word_of store z.signal z.word) ≡ word
    bits z w =
        ap (λ n. bits_value z.low z.width (word_of store z.signal n)) w.word ∙ ap (bits_value z.low z.width) (found z.signal w.of)
        ∙ ap (λ n. selected n z.width word) w.low ∙ sym (selected_whole z.width word (long z w))

    by_layer : (x : Typed-F Typed) → IsWholeLayer d v x → value_of e store time ≡ value_step store time (map-Typed Typed (List Digit) (λ y. value_of y store time) x) → value_of e store time ≡ word
    by_layer (t.Signal o) w step =
        let width : o.width ≡ length word = w.width ∙ ap (λ (s : Signal). s.width) (same_signal d v w.signal s w.is at) ∙ sym size in
        step ∙ ap (operand_value o.signed o.width) (found o.signal w.of) ∙ ap (λ n. resized o.signed n word) width ∙ resized-own_width o.signed word
    by_layer (t.Slice z) w step = step ∙ bits z w
    by_layer (t.Resized size x) w step =
        let s = selects_whole d v size.width x.value w in
        step ∙ ap (resized size.signed size.width) (s.value store time ∙ bits s.slice s.whole)
        ∙ ap (λ n. resized size.signed n word) (sym s.size ∙ sym (long s.slice s.whole)) ∙ resized-own_width size.signed word
    by_layer _ w step = absurd w

-- ---- what starts

start_all : (driven : ℕ → Bool) (kind : SignalKind) (from width : ℕ) → ((p : ℕ) → p < width → start_digit (driven (from + p)) kind ≡ X) → start_digits driven kind from width ≡ replicate width X
start_all driven kind from zero h = refl
start_all driven kind from (suc width) h =
    let e : from + 0 ≡ from = omega arith in
    ap₂ (λ z zs. z ∷ zs) (ap (λ n. start_digit (driven n) kind) (sym e) ∙ h 0 (omega arith))
    (start_all driven kind (suc from) width (λ p lt. let m : suc from + p ≡ from + suc p = omega arith in ap (λ n. start_digit (driven n) kind) m ∙ h (suc p) (omega (arith, lt))))

-- a net that is a copy is driven, whole
copy_driven : (d : Parts) (v u : ℕ) (s : Signal) → slice_get d.signals v ≡ Some s → IsCopy d v u → (p : ℕ) → p < s.width → drives_bit d.assigns (0 + v) p ≡ true
copy_driven d v u s is c p lt =
    let plain : v ≡ 0 + v = omega arith in
    let w = c.whole.whole in
    let same : w.signal ≡ s = same_signal d v w.signal s w.is is in
    let one : s.count ≡ 1 = ap (λ (x : Signal). x.count) (sym same) ∙ w.count in
    let bit : IsBit d (record { signal = v; word = 0; place = p }) = record { signal = s; is = is; word = omega (arith, one); place = lt } in
    subst (λ n. drives_bit d.assigns n p ≡ true) plain
    (at_any (λ (x : Assign). list_any (covers v 0 p) (writes x.target)) d.assigns c.number c.assign c.is
    (subst (λ (ps : List Aim). list_any (covers v 0 p) (map aim_range ps) ≡ true) (sym c.whole.only)
    (at_any (covers v 0 p) (slice_range c.whole.slice ∷ []) 0 (slice_range c.whole.slice) refl (slice_covers d v 0 p c.whole.slice w bit))))

starts_x : (d : Parts) (v : ℕ) (s : Signal) → slice_get d.signals v ≡ Some s → ((p : ℕ) → p < s.width → start_digit (drives_bit d.assigns (0 + v) p) s.kind ≡ X) → slice_get (start_store d) v ≡ Some (replicate s.count (replicate s.width X))
starts_x d v s is h = start_at d.assigns 0 d.signals v s is ∙ ap (λ word. Some (replicate s.count word)) (start_all (drives_bit d.assigns (0 + v)) s.kind 0 s.width (λ p lt. let plain : p ≡ 0 + p = omega arith in ap (λ n. start_digit (drives_bit d.assigns (0 + v) n) s.kind) (sym plain) ∙ h p lt))

-- a copy of a variable starts as x, as the variable does
pub copies_start : (d : Parts) (g v : ℕ) (s : Signal) → HasKind true d g → slice_get d.signals v ≡ Some s → CopiesWhole d g v → slice_get (start_store d) v ≡ Some (replicate s.count (replicate s.width X))
copies_start d g _ s kind is itself =
    starts_x d g s is (λ p lt. variable_start (drives_bit d.assigns (0 + g) p) s.kind (ap (λ (x : Signal). is_variable x.kind) (same_signal d g s kind.0 is kind.1) ∙ kind.2))
copies_start d g v s kind is (copy v' u c more) = starts_x d v s is (λ p lt. driven_start (drives_bit d.assigns (0 + v) p) s.kind (copy_driven d v u s is c p lt))

-- ---- a copy shows what it copies

one_word_of : (o : Option (List (List Digit))) (n : ℕ) → option_map (λ words. map length words) o ≡ Some (n ∷ []) → (word : List Digit) × (o ≡ Some (word ∷ [])) × (length word ≡ n)
one_word_of None n e = absurd (none-some (n ∷ []) e)
one_word_of (Some []) n e = let none : [] ≡ n ∷ [] = same_Some [] (n ∷ []) e in cc none
one_word_of (Some (word ∷ [])) n e = (word, refl, (let l : length word ∷ [] ≡ n ∷ [] = same_Some (length word ∷ []) (n ∷ []) e in cc l))
one_word_of (Some (word ∷ (other ∷ words))) n e = let l : length word ∷ (length other ∷ map length words) ≡ n ∷ [] = same_Some (length word ∷ (length other ∷ map length words)) (n ∷ []) e in cc l

held_word : (d : Parts) (store : Store) (v : ℕ) (s : Signal) → sizes store ≡ sizes (start_store d) → s.count ≡ 1 → slice_get (start_store d) v ≡ Some (replicate s.count (replicate s.width X)) →
    (word : List Digit) × (slice_get store v ≡ Some (word ∷ [])) × (length word ≡ s.width)
held_word d store v s sized one at = one_word_of (slice_get store v) s.width
    (sym (slice_get-map (λ words. map length words) store v) ∙ ap (λ z. slice_get z v) sized ∙ slice_get-map (λ words. map length words) (start_store d) v
    ∙ ap (option_map (λ words. map length words)) (at ∙ ap (λ n. Some (replicate n (replicate s.width X))) one) ∙ ap (λ n. Some (n ∷ [])) (length-replicate s.width X))

overlaid_whole : (part ds : List Digit) → length part ≡ length ds → overlaid (pos 0) part ds ≡ part
overlaid_whole part ds e =
    let fits : 0 + length part ≤ length ds = omega (arith, e) in
    selected_whole (length part) (with_part (pos 0) part ds) (length-with_part (pos 0) part ds ∙ sym e) ∙ selected-with_part 0 part ds fits

put_whole : (store : Store) (p : Part) (n : ℕ) (old word : List Digit) → p.signal ≡ n → p.word ≡ 0 → p.low ≡ pos 0 → p.digits ≡ word → length word ≡ length old → slice_get store n ≡ Some (old ∷ []) →
    slice_get (put store (p ∷ [])) n ≡ Some (word ∷ [])
put_whole store p n old word s w l digits size is =
    subst (λ k. slice_get (changed_at (changed_at (overlaid p.low p.digits) p.word) k store) n ≡ Some (word ∷ [])) (sym s)
    (changed_same (changed_at (overlaid p.low p.digits) p.word) n store ∙ ap (option_map (changed_at (overlaid p.low p.digits) p.word)) is
    ∙ ap (λ k. Some (changed_at (overlaid p.low p.digits) k (old ∷ []))) w ∙ ap (λ k. Some (overlaid k p.digits old ∷ [])) l ∙ ap (λ ds. Some (overlaid (pos 0) ds old ∷ [])) digits
    ∙ ap (λ ds. Some (ds ∷ [])) (overlaid_whole word old size))

copy_put : (d : Parts) → WellFormed d → (n m : ℕ) (c : IsCopy d n m) (s t : Signal) → slice_get d.signals n ≡ Some s → slice_get d.signals m ≡ Some t → (store : Store) (time : ℕ) (old word : List Digit) →
    slice_get store n ≡ Some (old ∷ []) → length old ≡ s.width → slice_get store m ≡ Some (word ∷ []) → length word ≡ t.width →
    slice_get (put store (assignment c.assign.target c.assign.source store time)) n ≡ Some (word ∷ [])
copy_put d formed n m c s t at_n at_m store time old word is_n size_n is_m size_m =
    subst (λ (parts : List Aim). slice_get (put store (parts_from 0 parts (target_value c.assign.target c.assign.source store time) store time)) n ≡ Some (word ∷ [])) (sym c.whole.only)
    (put_whole store (part_at (Fixed z) (selected (pos 0) z.width (target_value c.assign.target c.assign.source store time)) store time) n old word c.whole.whole.of c.whole.whole.word c.whole.whole.low digits (same_size ∙ sym size_n) is_n)
  where
    z : Slice
    z = c.whole.slice

    same_size : length word ≡ s.width
    same_size = size_m ∙ sym (c.same s t at_n at_m)

    width : length word ≡ z.width
    width = same_size ∙ sym (c.whole.whole.width ∙ ap (λ (x : Signal). x.width) (same_signal d n c.whole.whole.signal s c.whole.whole.is at_n))

    total : c.assign.target.width ≡ length word
    total =
        let parts : sum (map aim_width (Fixed z ∷ [])) ≡ c.assign.target.width = subst (λ (ps : List Aim). sum (map aim_width ps) ≡ c.assign.target.width) c.whole.only (target_width d formed c.number c.assign c.is) in
        let added : 0 + z.width ≡ c.assign.target.width = parts in
        omega (arith, width, added)

    value : target_value c.assign.target c.assign.source store time ≡ word
    value =
        ap (resized false c.assign.target.width) (whole_word d m c.assign.source store time t word c.copies at_m is_m size_m) ∙ ap (λ k. resized false k word) total
        ∙ resized-own_width false word

    digits : selected (pos 0) z.width (target_value c.assign.target c.assign.source store time) ≡ word
    digits = ap (selected (pos 0) z.width) value ∙ sym (selected_whole z.width word width)

copy_shows : (d : Parts) → WellFormed d → (g n m : ℕ) → HasKind true d g → (c : IsCopy d n m) → CopiesWhole d g m → a.IsCopy d m n c.number c.assign
copy_shows d formed g n m kind c more = record {
  is = c.is;
  into = whole_writes d n c.assign.target c.whole;
  only = λ v w. only_of d n v c.assign.target c.whole w;
  alone = λ j x is w. c.alone j x is (lists_signal d (writes x.target) n w);
  alike = start_m ∙ ap₂ (λ k l. Some (replicate k (replicate l X))) (from.2 ∙ sym one) (sym (c.same s from.0 is_n from.1)) ∙ sym start_n;
  copies = λ store time sized.
      let old = held_word d store n s sized one start_n in
      let word = held_word d store m from.0 sized from.2 start_m in
      copy_put d formed n m c s from.0 is_n from.1 store time old.0 word.0 old.1 old.2 word.1 word.2 ∙ sym word.1;
}
  where
    s : Signal
    s = c.whole.whole.signal

    is_n : slice_get d.signals n ≡ Some s
    is_n = c.whole.whole.is

    one : s.count ≡ 1
    one = c.whole.whole.count

    from : (t : Signal) × (slice_get d.signals m ≡ Some t) × (t.count ≡ 1)
    from = whole_signal d m c.assign.source c.copies

    start_m : slice_get (start_store d) m ≡ Some (replicate from.0.count (replicate from.0.width X))
    start_m = copies_start d g m from.0 kind from.1 more

    start_n : slice_get (start_store d) n ≡ Some (replicate s.count (replicate s.width X))
    start_n = copies_start d g n s kind is_n (copy n m c more)

pub shows : (d : Parts) → WellFormed d → (g n : ℕ) → HasKind true d g → CopiesWhole d g n → Shows d g n
shows d formed g _ kind itself = a.itself g refl
shows d formed g n kind (copy n' m c more) = copied m n c.number c.assign (shows d formed g m kind more) (copy_shows d formed g n m kind c more)

-- ---- and the variable stands in the cone of what has its bits

-- a copy has each bit of what it copies
pub copy_bit : (d : Parts) (g n w p : ℕ) → CopiesWhole d g n → IsBit d (record { signal = g; word = w; place = p }) → IsBit d (record { signal = n; word = w; place = p })
copy_bit d g _ w p itself bit = bit
copy_bit d g n w p (copy n' m c more) bit = by_bit (copy_bit d g m w p more bit)
  where
    by_bit : IsBit d (record { signal = m; word = w; place = p }) → IsBit d (record { signal = n; word = w; place = p })
    by_bit b =
        let z = c.whole.whole in
        let from = whole_signal d m c.assign.source c.copies in
        let same : from.0 ≡ b.signal = same_signal d m from.0 b.signal from.1 b.is in
        let below : w < b.signal.count = b.word in
        let one : b.signal.count ≡ 1 = ap (λ (x : Signal). x.count) (sym same) ∙ from.2 in
        let own : z.signal.count ≡ 1 = z.count in
        let short : p < b.signal.width = b.place in
        let size : z.signal.width ≡ b.signal.width = c.same z.signal b.signal z.is b.is in
        record { signal = z.signal; is = z.is; word = omega (arith, below, one, own); place = omega (arith, short, size) }

pub copies_cone : (d : Parts) (c : Claims) (g n w p : ℕ) (r : BitRange) → IsSource d c g → CopiesWhole d g n → IsBit d (record { signal = g; word = w; place = p }) → covers n w p r ≡ true → InCone d c g r
copies_cone d c g _ w p r source itself bit cov =
    v.here r source (eqb-true r.signal g (and_parts (r.signal == g) (has_word r.word w) (and_parts (r.signal == g && has_word r.word w) (has_bit r.bits p) cov).0).0) tt
copies_cone d c g n w p r source (copy n' m link more) bit cov =
    let b = copy_bit d g m w p more bit in
    let own = copy_bit d g n w p (copy n m link more) bit in
    let q = whole_covers d m w p link.assign.source link.copies b in
    let z = slice_range link.whole.slice in
    v.through r z q.0 (v.assign link.number) tt (link.assign, link.is, (subst (λ (ps : List Aim). Contains (map aim_range ps) z) (sym link.whole.only) (contains_at (z ∷ []) 0 z refl), tt))
    (meets_bit d n w p z r own (slice_covers d n w p link.whole.slice link.whole.whole own) cov)
    (link.assign, link.is, (subst (λ rs. Contains rs q.0) (sym q.1) (contains_at (q.0 ∷ []) 0 q.0 refl), tt))
    (copies_cone d c g m w p q.0 source more bit q.3)
