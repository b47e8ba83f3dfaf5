-- What a name with selects names.
use Rattle.std.proofs.Common.{◌≡◌, ℕ, suc, ◌≤◌, ◌<◌, ℤ, pos, ◌-ℤ◌, unsigned_abs, Bool, true, false, List, [], ◌∷◌, ◌++◌, Option, Some, None, is_some, length, take, drop, slice_index_or, refl, ap, ap₂, sym, subst, ◌∙◌, arith}
use Rattle.std.specs.List.{All}
use Rattle.std.proofs.lemmas.Bool.{le-leb, lt-leb}
use Rattle.std.proofs.lemmas.List.Elements.{All-drop}
use Rattle.vs_design.specs.vs_logic4.specs.declared.digit.Digit.{Digit}
use Rattle.vs_design.specs.vs_logic4.specs.declared.digit.Digit.TheVariants.{Zero}
use Rattle.vs_syntax.specs.declared.tree.PartSelect.{PartSelect}
use Rattle.vs_design.specs.declared.expression.Axis.{Axis}
use Rattle.vs_design.specs.declared.range.BitRange.{BitRange}
use Rattle.vs_design.specs.declared.signal.Bounds.{Bounds}
use Rattle.vs_design.specs.Selects.{index_number, reached, place_of, from_zero}
use Rattle.vs_design.specs.Stores.{Store}
use Rattle.vs_widths.specs.declared.shape.Shape.{Shape}
use Rattle.vs_widths.specs.declared.forms.Sizable.TheVariants as v
use Rattle.vs_widths.specs.declared.forms.Sizable.TheOpen as f
use Rattle.vs_widths.specs.declared.forms.Measured.{Measured}
use Rattle.vs_widths.specs.Senses.{sense}
use Rattle.vs_widths.proofs.FittingLemmas.{layer}
use Rattle.vs_widths.specs.declared.faults.WidthReason.{WidthReason}
use Rattle.vs_widths.specs.declared.faults.WidthReason.TheVariants.{WrongKind, TooWide}
use Rattle.vs_widths.specs.declared.faults.WidthFault.{WidthFault}
use Rattle.vs_widths.specs.declared.faults.WidthFault.TheVariants.{Memory, Refused}
use Rattle.vs_widths.specs.declared.bindings.Meaning.{Meaning}
use Rattle.vs_widths.specs.declared.places.Extent.{Extent}
use Rattle.vs_widths.specs.declared.places.ChosenBits.{ChosenBits}
use Rattle.vs_widths.specs.Findings.{Finding, Has, Lacks, has_width_fault, together, alone, second, Refuses}
use Rattle.vs_widths.specs.Meants.{own}
use Rattle.vs_widths.specs.Constants.{where_none, where_some, whole_of, natural_of, positive, constant_finding, whole_finding, count_finding}
use Rattle.vs_widths.specs.Selects.{below_base, base_span, Select, Span, lowest_of, lowest_at, between, bounds_finding, bounds_span, is_reversed, counted, base_finding, all_bits, span_of, in_signal, in_word, in_array, of_words}
use Rattle.vs_widths.specs.select_passes.Measures.{meaning, IsFlexible, IsCount, IsWhole}
use Rattle.vs_widths.specs.select_passes.Places.{select_meaning, selects_meaning, IsFlexibleSelect, IsZero, IsAxis, IsExtent, IsPlaced}

pub refused_by : (a b : Finding) (d : WidthFault) → ((r : WidthReason) → has_width_fault r a ≡ true → has_width_fault r b ≡ true) → Refuses a d → Refuses b d
refused_by a b Memory h k = tt
refused_by a b (Refused r) h k = h r k

-- ---- axes

pub zero_is : (s : Shape) (ds : List Digit) → s.width ≡ 1 → s.signed ≡ false → ds ≡ Zero ∷ [] → IsZero (record { shape = s; form = v.Number ds })
zero_is s ds h k e =
    let same = layer (f.Number ds) (v.Number ds) (v.rolls-Number ds) in
    record {
      ranges = ap (λ z. z.reads) same;
      value = λ store time. ap (λ z. z.at store time s.width s.signed) same ∙ rw (h, k, e) refl;
      flexible = λ width. ap (λ z. z.size width) same;
    }

pub whole_word : (s : Shape) (a : Axis) (x : Measured) → a.right ≡ pos 0 → a.ascending ≡ false → a.length ≡ 1 → a.below ≡ 0 → a.signed ≡ false → IsZero x →
    IsExtent (all_bits s) (record { shape = s; axis = a; index = x })
whole_word s a x r u l b g z = record {
  found = refl;
  ranges = sym z.ranges;
  low = λ store time. rw (z.value store time, g, u, r, l, b) refl;
  flexible = z.flexible;
}

reached_same : (b : Bounds) (size width below : ℕ) (a : Axis) → IsAxis b size below a → (n : Option ℤ) → lowest_of b size width below n ≡ reached a width n
reached_same b size width below a h None = ap (λ z. pos z) (sym h.length_is)
reached_same b size width below a h (Some n) = rw (h.length_is, h.ascending, h.right, h.below_is) refl

-- an index chooses what its axis says
pub lowest_same : (b : Bounds) (size width below : ℕ) (a : Axis) (x : Measured) → IsAxis b size below a → a.signed ≡ x.shape.signed → (store : Store) (time : ℕ) →
    lowest_at b size width below (meaning x) store time ≡ place_of a width (own (meaning x) store time)
lowest_same b size width below a x h k store time =
    reached_same b size width below a h (index_number x.shape.signed (own (meaning x) store time)) ∙ ap (λ g. reached a width (index_number g (own (meaning x) store time))) (sym k)

-- ---- faults of part-selects

left_fault : (b : Bounds) (n m : Option ℤ) (c : Finding) (rs : List BitRange) (w : ℕ) (s : Bool) (r : WidthReason) → has_width_fault r (alone (where_some n) c) ≡ true →
    has_width_fault r (together (λ width signed size sign. between b n m) c (where_none rs w s)) ≡ true
left_fault b None m (Has v t) [] w s r h = h
left_fault b None m (Has v t) (q ∷ qs) w s r h = h
left_fault b (Some n) m (Has v t) rs w s r h = cc
left_fault b n m (Lacks p) [] w s r h = h
left_fault b n m (Lacks p) (q ∷ qs) w s r h = rw h refl

right_fault : (b : Bounds) (n : ℤ) (m : Option ℤ) (v : ℕ) (t : Bool) (c : Finding) (r : WidthReason) → has_width_fault r (alone (where_some m) c) ≡ true →
    has_width_fault r (together (λ width signed size sign. between b (Some n) m) (Has v t) c) ≡ true
right_fault b n None v t (Has w s) r h = h
right_fault b n (Some m) v t (Has w s) r h = cc
right_fault b n m v t (Lacks p) r h = h

count_fault : (n : Option ℕ) (v : ℕ) (t : Bool) (c : Finding) (r : WidthReason) → has_width_fault r (alone (where_some n) c) ≡ true →
    has_width_fault r (together (λ width signed size sign. counted n) (Has v t) c) ≡ true
count_fault None v t (Has w s) r h = h
count_fault (Some n) v t (Has w s) r h = cc
count_fault n v t (Lacks p) r h = h

pub left_refused : (b : Bounds) (x y : Measured) (d : WidthFault) → Refuses (whole_finding (meaning x)) d → Refuses (bounds_finding b (meaning x) (meaning y)) d
left_refused b x y d h =
    refused_by (whole_finding (meaning x)) (bounds_finding b (meaning x) (meaning y)) d
    (left_fault b (whole_of (meaning x)) (whole_of (meaning y)) (constant_finding (meaning x)) (sense y.form).reads y.shape.width y.shape.signed) h

pub right_refused : (b : Bounds) (x y : Measured) (n : ℤ) (d : WidthFault) → IsWhole (meaning x) n → Refuses (whole_finding (meaning y)) d → Refuses (bounds_finding b (meaning x) (meaning y)) d
right_refused b x y n d p h =
    refused_by (whole_finding (meaning y)) (bounds_finding b (meaning x) (meaning y)) d
    (λ r k. rw (p.ranges, p.number) (right_fault b n (whole_of (meaning y)) x.shape.width x.shape.signed (constant_finding (meaning y)) r k)) h

pub count_refused : (x y : Measured) (d : WidthFault) → Refuses (count_finding (meaning y)) d → Refuses (base_finding (meaning x) (meaning y)) d
count_refused x y d h =
    refused_by (count_finding (meaning y)) (base_finding (meaning x) (meaning y)) d
    (count_fault (positive (natural_of (meaning y))) x.shape.width x.shape.signed (constant_finding (meaning y))) h

-- ---- bounds

pub bounds_found : (b : Bounds) (x y : Measured) (n m : ℤ) → IsWhole (meaning x) n → IsWhole (meaning y) m → is_reversed b n m ≡ false → suc (unsigned_abs (n -ℤ m)) ≤ 64 →
    bounds_finding b (meaning x) (meaning y) ≡ Has (suc (unsigned_abs (n -ℤ m))) false
bounds_found b x y n m p q h k = rw (p.ranges, q.ranges, p.number, q.number, h, le-leb (suc (unsigned_abs (n -ℤ m))) 64 k) refl

pub bounds_extent : (b : Bounds) (size : ℕ) (x y : Measured) (n m : ℤ) (s : Shape) (a : Axis) → IsWhole (meaning x) n → IsWhole (meaning y) m → is_reversed b n m ≡ false → suc (unsigned_abs (n -ℤ m)) ≤ 64 →
    s.width ≡ suc (unsigned_abs (n -ℤ m)) → s.signed ≡ false → IsAxis b size 0 a → a.signed ≡ y.shape.signed → IsFlexible y.form →
    IsExtent (bounds_span b size (meaning x) (meaning y)) (record { shape = s; axis = a; index = y })
bounds_extent b size x y n m s a p q h k w g i j l =
    let found : bounds_finding b (meaning x) (meaning y) ≡ Has s.width s.signed = bounds_found b x y n m p q h k ∙ ap₂ (λ z u. Has z u) (sym w) (sym g) in
    record {
      found = found;
      ranges = sym q.ranges;
      low = λ store time. rw found (lowest_same b size s.width 0 a y i j store time);
      flexible = l;
    }

-- ---- selects of a word

pub no_range : (s : Shape) (xs : List (Measured × Option (PartSelect × Measured))) → (length xs ≡ 0 → ⊥) → has_width_fault WrongKind (span_of None s (selects_meaning xs)).finding ≡ true
no_range s [] h = absurd (h refl)
no_range s (x ∷ xs) h = refl

pub too_many : (b : Bounds) (s : Shape) (xs : List (Measured × Option (PartSelect × Measured))) → 1 < length xs → has_width_fault WrongKind (span_of (Some b) s (selects_meaning xs)).finding ≡ true
too_many b s [] h = absurd (omega arith)
too_many b s (x ∷ []) h = absurd (omega arith)
too_many b s (x ∷ y ∷ xs) h = refl

-- ---- bits of a signal

pub placed_in_signal : (signal : ℕ) (a : Axis) (x : Measured) (e : Extent) → a.right ≡ pos 0 → a.ascending ≡ false → a.length ≡ 1 → a.below ≡ 0 → a.signed ≡ false → IsZero x →
    (s : Span) → IsExtent s e → IsPlaced (in_signal signal s) (record { signal = signal; words = a; word = x; extent = e })
placed_in_signal signal a x e r u l b g z s p = record {
  found = p.found;
  signal = refl;
  ranges = p.ranges ∙ ap (λ q. q ++ (sense e.index.form).reads) (sym z.ranges);
  word = λ store time. rw (z.value store time, g, u, r, l, b) refl;
  low = p.low;
  word_flexible = z.flexible;
  flexible = p.flexible;
}

pub placed_in_word : (b : Bounds) (count signal : ℕ) (a : Axis) (x : Measured) (e : Extent) (s : Span) → IsAxis b count 0 a → a.signed ≡ x.shape.signed → IsFlexible x.form → IsExtent s e →
    IsPlaced (in_word b count signal (meaning x) s) (record { signal = signal; words = a; word = x; extent = e })
placed_in_word b count signal a x e s h k l p = record {
  found = ap (together second (Has x.shape.width x.shape.signed)) p.found;
  signal = refl;
  ranges = ap (λ q. (sense x.form).reads ++ q) p.ranges;
  word = λ store time. ap from_zero (lowest_same b count 1 0 a x h k store time);
  low = p.low;
  word_flexible = l;
  flexible = p.flexible;
}

-- ---- selects of an array

array_placed_by : (b : Bounds) (x : Meaning) (signal : ℕ) (y : Measured × Option (PartSelect × Measured)) (ys : List (Measured × Option (PartSelect × Measured))) (i : Measured) (a : Axis) (e : Extent) → y ≡ (i, None) →
    IsAxis b x.count 0 a → a.signed ≡ i.shape.signed → IsFlexible i.form → IsExtent (span_of x.bits x.shape (selects_meaning ys)) e →
    IsPlaced (in_array b x signal (select_meaning y ∷ selects_meaning ys)) (record { signal = signal; words = a; word = i; extent = e })
array_placed_by b x signal y ys i a e h k l m p =
    rw h (placed_in_word b x.count signal a i e (span_of x.bits x.shape (selects_meaning ys)) k l m p)

pub array_placed : (b : Bounds) (x : Meaning) (signal : ℕ) (xs rest : List (Measured × Option (PartSelect × Measured))) (i : Measured) (o : Option (PartSelect × Measured)) (a : Axis) (e : Extent) → (length xs ≡ 0 → ⊥) →
    (i, o) ≡ slice_index_or xs 0 (i, o) → rest ≡ take 0 xs ++ drop 1 xs → is_some o ≡ false → All IsFlexibleSelect xs → IsAxis b x.count 0 a → a.signed ≡ i.shape.signed →
    IsExtent (span_of x.bits x.shape (selects_meaning rest)) e → IsPlaced (in_array b x signal (selects_meaning xs)) (record { signal = signal; words = a; word = i; extent = e })
array_placed b x signal [] rest i o a e h k r n m l g p = absurd (h refl)
array_placed b x signal (y ∷ ys) rest i (Some z) a e h k r n m l g p = cc
array_placed b x signal (y ∷ ys) rest i None a e h k r n m l g p =
    let flexible : IsFlexibleSelect (i, None) = subst IsFlexibleSelect (sym k) (m 0 (i, None) (omega arith)) in
    array_placed_by b x signal y ys i a e (sym k) l g flexible (subst (λ z. IsExtent (span_of x.bits x.shape (selects_meaning z)) e) r p)

pub words_placed : (o : Option Bounds) (m : Meaning) (signal : ℕ) (ss : List Select) (p : ChosenBits) → o ≡ None → IsPlaced (in_signal signal (span_of m.bits m.shape ss)) p → IsPlaced (of_words o m signal ss) p
words_placed o m signal ss p h q = rw h q

-- ---- faults of arrays

-- selects of which the first chooses no word
pub no_word : (b : Bounds) (x : Meaning) (signal : ℕ) (xs : List (Measured × Option (PartSelect × Measured))) → length xs ≡ 0 → has_width_fault WrongKind (in_array b x signal (selects_meaning xs)).finding ≡ true
no_word b x signal [] h = refl
no_word b x signal (y ∷ ys) h = absurd (omega arith)

pub words_refused : (b : Bounds) (x : Meaning) (signal : ℕ) (xs : List (Measured × Option (PartSelect × Measured))) (i : Measured) (o : Option (PartSelect × Measured)) → (i, o) ≡ slice_index_or xs 0 (i, o) → is_some o ≡ true →
    has_width_fault WrongKind (in_array b x signal (selects_meaning xs)).finding ≡ true
words_refused b x signal [] i o h k = refl
words_refused b x signal (y ∷ ys) i None h k = cc
words_refused b x signal (y ∷ ys) i (Some (how, m)) h k = rw (← h) refl

behind_first : (width : ℕ) (signed : Bool) (f : Finding) (r : WidthReason) → has_width_fault r f ≡ true → has_width_fault r (together second (Has width signed) f) ≡ true
behind_first width signed (Has w s) r h = h
behind_first width signed (Lacks p) r h = h

rest_refused_by : (b : Bounds) (x : Meaning) (signal : ℕ) (y : Measured × Option (PartSelect × Measured)) (ys : List (Measured × Option (PartSelect × Measured))) (i : Measured) (d : WidthFault) → y ≡ (i, None) →
    Refuses (span_of x.bits x.shape (selects_meaning ys)).finding d → Refuses (in_array b x signal (select_meaning y ∷ selects_meaning ys)).finding d
rest_refused_by b x signal y ys i d h p =
    rw h (refused_by (span_of x.bits x.shape (selects_meaning ys)).finding (in_word b x.count signal (meaning i) (span_of x.bits x.shape (selects_meaning ys))).finding d
    (behind_first i.shape.width i.shape.signed (span_of x.bits x.shape (selects_meaning ys)).finding) p)

-- selects behind the first one that have a fault
pub rest_refused : (b : Bounds) (x : Meaning) (signal : ℕ) (xs rest : List (Measured × Option (PartSelect × Measured))) (i : Measured) (o : Option (PartSelect × Measured)) (d : WidthFault) → (length xs ≡ 0 → ⊥) →
    (i, o) ≡ slice_index_or xs 0 (i, o) → rest ≡ take 0 xs ++ drop 1 xs → is_some o ≡ false → Refuses (span_of x.bits x.shape (selects_meaning rest)).finding d → Refuses (in_array b x signal (selects_meaning xs)).finding d
rest_refused b x signal [] rest i o d e h r n p = absurd (e refl)
rest_refused b x signal (y ∷ ys) rest i (Some z) d e h r n p = cc
rest_refused b x signal (y ∷ ys) rest i None d e h r n p = rest_refused_by b x signal y ys i d (sym h) (subst (λ z. Refuses (span_of x.bits x.shape (selects_meaning z)).finding d) r p)

-- what stands behind the first select is as flexible
pub rest_flexible : (xs rest : List (Measured × Option (PartSelect × Measured))) → rest ≡ take 0 xs ++ drop 1 xs → All IsFlexibleSelect xs → All IsFlexibleSelect rest
rest_flexible xs rest e h = subst (All IsFlexibleSelect) (sym e) (All-drop IsFlexibleSelect 1 xs h)

-- ---- counts behind a base

count_found : (x y : Measured) (n : ℕ) → IsCount (meaning y) n → n ≤ 64 → base_finding (meaning x) (meaning y) ≡ Has n false
count_found x y n p k = rw (p.ranges, p.times, le-leb n 64 k) refl

pub count_too_wide : (x y : Measured) (n : ℕ) → IsCount (meaning y) n → 64 < n → has_width_fault TooWide (base_finding (meaning x) (meaning y)) ≡ true
count_too_wide x y n p k = rw (p.ranges, p.times, lt-leb n 64 k) refl

pub base_extent : (how : PartSelect) (b : Bounds) (size : ℕ) (x y : Measured) (n : ℕ) (s : Shape) (a : Axis) → IsCount (meaning y) n → n ≤ 64 → s.width ≡ n → s.signed ≡ false → IsAxis b size (below_base how b n) a →
    a.signed ≡ x.shape.signed → IsFlexible x.form → IsExtent (base_span how b size (meaning x) (meaning y)) (record { shape = s; axis = a; index = x })
base_extent how b size x y n s a p k w g i j l =
    let found : base_finding (meaning x) (meaning y) ≡ Has n false = count_found x y n p k in
    record {
      found = found ∙ ap₂ (λ z u. Has z u) (sym w) (sym g);
      ranges = refl;
      low = λ store time. rw (found, w) (lowest_same b size n (below_base how b n) a x i j store time);
      flexible = l;
    }
