-- Lemmas on nodes that stand for words and bits.
use Rattle.std.proofs.Common.{◌≡◌, ℕ, ℤ, zero, suc, ◌+◌, ◌-◌, ◌<◌, ◌≤◌, ◌==◌, Bool, true, false, pos, ◌+ℤ◌, nat_lt, if◌then◌else◌, Option, Some, None, List, [], ◌∷◌, map, length, replicate, slice_get, refl, sym, ◌∙◌, ap, ap₂, subst, arith}
use Rattle.std.proofs.lemmas.Bool.{and_parts, le-ltb, lt-ltb, ltb-false, ltb-true}
use Rattle.std.proofs.lemmas.Int.{ints}
use Rattle.std.proofs.lemmas.List.{ext_get_or, get_or_past, length-map, length-replicate}
use Rattle.std.proofs.lemmas.Option.{none-some, same_Some, slice_get_past}
use Rattle.std.specs.declared.alloc.Global.{Global}
use Rattle.std.specs.declared.boxed.Box.{Box}
use Rattle.vs_design.specs.vs_logic4.specs.declared.digit.Digit.{Digit}
use Rattle.vs_design.specs.vs_logic4.specs.declared.digit.Digit.TheVariants.{X}
use Rattle.vs_design.specs.vs_logic4.specs.Extensions.{length-resized}
use Rattle.vs_design.specs.vs_logic4.specs.Lengths.{length-all_unknown, length-selected}
use Rattle.vs_design.specs.vs_logic4.specs.Parts.{digit_at, selected}
use Rattle.vs_design.specs.vs_logic4.specs.Planes.{value_plane, unknown_plane}
use Rattle.vs_design.specs.vs_logic4.specs.Vectors.{all_unknown, resized}
use Rattle.vs_design.specs.vs_logic4.proofs.Parts.{get_or-selected}
use Rattle.vs_design.specs.vs_logic4.proofs.Basics.{same_first, tail_is}
use Rattle.vs_design.specs.declared.expression.Axis.{Axis}
use Rattle.vs_design.specs.declared.expression.Operand.{Operand}
use Rattle.vs_design.specs.declared.expression.Selection.{Selection}
use Rattle.vs_design.specs.declared.expression.Slice.{Slice}
use Rattle.vs_design.specs.declared.expression.Typed.{Typed}
use Rattle.vs_design.specs.declared.signal.Signal.{Signal}
use Rattle.vs_design.specs.InOrder.{IsStoreOf, numbered_word, word_sizes, sizes_of_signals}
use Rattle.vs_design.specs.Selects.{from_zero, place_of, word_place}
use Rattle.vs_design.specs.Stores.{Store, word_of}
use Rattle.vs_eval.specs.Values.{bits_value, operand_value, selection_value, value_of}
use Rattle.vs_eval.specs.declared.node.Array.{Array}
use Rattle.vs_eval.specs.declared.node.Field.{Field}
use Rattle.vs_eval.specs.declared.node.Index.{Index}
use Rattle.vs_eval.specs.declared.node.Range.{Range}
use Rattle.vs_eval.specs.declared.node.Node.{Node}
use Rattle.vs_eval.specs.declared.node.Node.TheVariants as v
use Rattle.vs_eval.specs.declared.node.Planes.{Planes}
use Rattle.vs_eval.specs.declared.node.Size.{Size}
use Rattle.vs_eval.specs.Meant.{Means, Values, IsArrayOf, IsBitsOf, IsCounting, IsElementOf, IsMeant, IsPlain, IsWordOf, part_value, word_value}
use Rattle.vs_eval.specs.Nodes.{planes_in, planes_from, word_planes, counted, element_planes, bit_planes, nth_planes}
use Rattle.vs_eval.specs.PlanesOf.{digits_of, planes_of}
use Rattle.vs_eval.proofs.IndexLemmas.{plain_place, place_by_plane}
use Rattle.vs_eval.proofs.MeantLemmas.{word_named}
use Rattle.vs_eval.proofs.NodeLemmas.{in_bit, in_bits, in_element, in_indexed, in_ranged, in_word}
use Rattle.vs_eval.proofs.OperandLemmas.{means_as}
use Rattle.vs_eval.proofs.PlanesLemmas.{bits_are, own_digits}

-- ---- bits of a word

-- all bits of a word are the word
pub all_selected : (ds : List Digit) → ds ≡ selected (pos 0) (length ds) ds
all_selected ds =
    ext_get_or X ds (selected (pos 0) (length ds) ds) (sym (length-selected (pos 0) (length ds) ds))
    (λ i below. let place : pos i ≡ pos 0 +ℤ pos i = omega (arith, ints) in ap (λ z. digit_at z ds X) place ∙ sym (get_or-selected (pos 0) (length ds) ds i below))

-- as many bits as there are, all in range, are the word
pub whole_bits : (low : ℤ) (l width size : ℕ) (ds : List Digit) → low ≡ pos l → l + width ≤ size → width ≡ size → length ds ≡ size → planes_of ds ≡ planes_of (selected low width ds)
whole_bits low l width size ds is within same long =
    let lowest : 0 ≡ l = omega (arith, within, same) in
    let all : length ds ≡ width = long ∙ sym same in
    ap planes_of (all_selected ds) ∙ ap (λ n. planes_of (selected (pos 0) n ds)) all ∙ ap (λ n. planes_of (selected (pos n) width ds)) lowest ∙ ap (λ z. planes_of (selected z width ds)) (sym is)

-- some of the bits, all in range
pub some_bits : (low : ℤ) (l width size : ℕ) (ds : List Digit) → low ≡ pos l → l + width ≤ size → length ds ≡ size → planes_from l width (planes_of ds) ≡ planes_of (selected low width ds)
some_bits low l width size ds is within long =
    bits_are l width ds (omega (arith, within, long)) ∙ ap (λ z. planes_of (selected z width ds)) (sym is)

-- how long what is made of a word is
pub operand_long : (signed : Bool) (width : ℕ) (o : Option (List Digit)) → length (operand_value signed width o) ≡ width
operand_long signed width None = length-all_unknown width
operand_long signed width (Some ds) = length-resized signed width ds

pub bits_long : (low : ℤ) (width : ℕ) (o : Option (List Digit)) → length (bits_value low width o) ≡ width
bits_long low width None = length-all_unknown width
bits_long low width (Some ds) = length-selected low width ds

-- ---- words

-- a node that has the planes of a word's image has the planes of a value that is made of the word
module _ (signals : List Signal) (values : Values) (signal word number width size : ℕ) (n : IsWordOf signals signal word number size)
    (f : Option (List Digit) → List Digit) (law : (store : Store) (time : ℕ) → values store time ≡ f (word_of store signal word)) (long : (o : Option (List Digit)) → length (f o) ≡ width) where
  pub word_means : (node : Node) (g : List Digit → Planes) → ((store : Store) (time : ℕ) → planes_in node store time ≡ g (numbered_word store number)) →
      ((ds : List Digit) → length ds ≡ size → g ds ≡ planes_of (f (Some ds))) → Means signals values node width
  word_means node g made same = record {
    sized = λ store time is. ap length (law store time) ∙ long (word_of store signal word);
    same = λ store time is.
        let found = word_named signals store signal word number size is n in
        made store time
        ∙ same (numbered_word store number) found.1
        ∙ ap (λ o. planes_of (f o)) (sym found.0)
        ∙ ap planes_of (sym (law store time));
  }

-- a word that stands for itself
pub word_alone : (signals : List Signal) (signal word number size : ℕ) → IsWordOf signals signal word number size → Means signals (λ store time. numbered_word store number) (v.Word number) size
word_alone signals signal word number size n = record {
  sized = λ store time is. (word_named signals store signal word number size is n).1;
  same = λ store time is. in_word store time number;
}

-- a whole signal, where its word is brought to a size
pub whole_means : (signals : List Signal) (e : Typed) (o : Operand) (number size : ℕ) (node : Node) (width : ℕ) → IsWordOf signals o.signal 0 number size →
    Means signals (λ store time. resized o.signed o.width (numbered_word store number)) node width →
    ((store : Store) (time : ℕ) → value_of e store time ≡ operand_value o.signed o.width (word_of store o.signal 0)) → IsMeant signals e node width
whole_means signals e o number size node width n m law =
    let values : (store : Store) (time : ℕ) → IsStoreOf signals store → resized o.signed o.width (numbered_word store number) ≡ value_of e store time =
    λ store time is. ap (operand_value o.signed o.width) (sym (word_named signals store o.signal 0 number size is n).0) ∙ sym (law store time) in
    record {
      sized = λ store time is. ap length (sym (values store time is)) ∙ m.sized store time is;
      same = λ store time is. m.same store time is ∙ ap planes_of (values store time is);
    }

-- bits by constant indices, all in range
module _ (signals : List Signal) (e : Typed) (s : Slice) (number size low : ℕ) (n : IsWordOf signals s.signal s.word number size) (is : s.low ≡ pos low) (within : low + s.width ≤ size)
    (law : (store : Store) (time : ℕ) → value_of e store time ≡ bits_value s.low s.width (word_of store s.signal s.word)) where
  pub all_bits_mean : s.width ≡ size → IsMeant signals e (v.Word number) s.width
  all_bits_mean same =
      word_means signals (λ store time. value_of e store time) s.signal s.word number s.width size n (bits_value s.low s.width) law (bits_long s.low s.width) (v.Word number) planes_of
      (λ store time. in_word store time number) (λ ds long. whole_bits s.low low s.width size ds is within same long)

  pub some_bits_mean : (field : Field) → field.number ≡ number → field.low ≡ low → field.width ≡ s.width → IsMeant signals e (v.Bits field) s.width
  some_bits_mean field of at wide =
      word_means signals (λ store time. value_of e store time) s.signal s.word number s.width size n (bits_value s.low s.width) law (bits_long s.low s.width) (v.Bits field)
      (λ ds. planes_from low s.width (planes_of ds))
      (λ store time.
      in_bits store time field
      ∙ ap₂ (λ l w. planes_from l w (word_planes store field.number)) at wide
      ∙ ap (λ m. planes_from low s.width (word_planes store m)) of)
      (λ ds long. some_bits s.low low s.width size ds is within long)

-- ---- what an index chooses

-- past the words of a signal there is none
no_word : (signals : List Signal) (store : Store) (signal word : ℕ) (s : Signal) → IsStoreOf signals store → slice_get signals signal ≡ Some s → s.count ≤ word → word_of store signal word ≡ None
no_word [] store signal word s is at past = absurd (none-some s at)
no_word (x ∷ xs) [] signal word s is at past = cc
no_word (x ∷ xs) (ws ∷ rest) zero word s is at past =
    let sizes = same_first (map length ws) (replicate x.count x.width) (word_sizes rest) (sizes_of_signals xs) is in
    let long : length ws ≡ x.count = sym (length-map ws length) ∙ ap length sizes ∙ length-replicate x.count x.width in
    let count : x.count ≡ s.count = ap (λ (y : Signal). y.count) (same_Some x s at) in
    slice_get_past ws word (omega (arith, long, count, past))
no_word (x ∷ xs) (ws ∷ rest) (suc i) word s is at past =
    no_word xs rest i word s (tail_is (map length ws) (replicate x.count x.width) (word_sizes rest) (sizes_of_signals xs) is) at past

place_below : (n : ℕ) (ds : List Digit) → plain_place n ds ≡ true → value_plane ds < n
place_below n ds h = ltb-true (value_plane ds) n (and_parts (unknown_plane ds == 0) (nat_lt (value_plane ds) n) h).1

counted_below : (falls : Bool) (n k : ℕ) → k < n → counted falls n k < n
counted_below true n k h = omega arith
counted_below false n k h = h

module _ (signals : List Signal) (signal : ℕ) (a : Array) (r : IsArrayOf signals signal a) (store : Store) (is : IsStoreOf signals store) where
  array_word : (k : ℕ) → k < a.count → IsWordOf signals signal k (a.first + k) a.width
  array_word k below = record {
    declared = r.declared;
    at = r.at;
    below = omega (arith, below, r.count);
    numbered = ap (λ n. n + k) r.first;
    wide = r.width;
  }

  -- the word of a number
  nth_by : (b : Bool) (n : ℕ) → nat_lt n a.count ≡ b →
      (if b then word_planes store (a.first + n) else planes_of (all_unknown a.width)) ≡ planes_of (bits_value (pos 0) a.width (word_of store signal n))
  nth_by true n is_below =
      let found = word_named signals store signal n (a.first + n) a.width is (array_word n (ltb-true n a.count is_below)) in
      let within : 0 + a.width ≤ a.width = omega arith in
      whole_bits (pos 0) 0 a.width a.width (numbered_word store (a.first + n)) refl within refl found.1
      ∙ ap (λ o. planes_of (bits_value (pos 0) a.width o)) (sym found.0)
  nth_by false n is_past =
      let past : r.declared.count ≤ n = omega (arith, r.count, ltb-false n a.count is_past) in
      ap (λ o. planes_of (bits_value (pos 0) a.width o)) (sym (no_word signals store signal n r.declared is r.at past))

  pub nth_same : (n : ℕ) → nth_planes a n store ≡ planes_of (bits_value (pos 0) a.width (word_of store signal n))
  nth_same n = nth_by (nat_lt n a.count) n refl

  counted_nth : (b : Bool) (place : ℕ) → (b ≡ true → place < a.count) →
      (if b then word_planes store (a.first + place) else planes_of (all_unknown a.width)) ≡ nth_planes a (from_zero (if b then pos place else pos a.count)) store
  counted_nth true place below = ap (λ c. if c then word_planes store (a.first + place) else planes_of (all_unknown a.width)) (sym (lt-ltb place a.count (below refl)))
  counted_nth false place below =
      let past : a.count ≤ a.count = omega arith in
      ap (λ c. if c then word_planes store (a.first + a.count) else planes_of (all_unknown a.width)) (sym (le-ltb a.count a.count past))

  -- the word that an index's value counts is the one that it chooses
  pub element_same : (axis : Axis) (ds : List Digit) → a.falls ≡ axis.ascending → IsPlain axis a.count →
      element_planes a (planes_of ds) store ≡ nth_planes a (word_place axis ds) store
  element_same axis ds falls plain =
      ap (λ f. if plain_place a.count ds then word_planes store (a.first + counted f a.count (value_plane ds)) else planes_of (all_unknown a.width)) falls
      ∙ counted_nth (plain_place a.count ds) (counted axis.ascending a.count (value_plane ds)) (λ h. counted_below axis.ascending a.count (value_plane ds) (place_below a.count ds h))
      ∙ ap (λ z. nth_planes a (from_zero z) store) (sym (place_by_plane axis a.count a.some plain ds))

  first_named : (word_of store signal 0 ≡ Some (numbered_word store a.first)) × (length (numbered_word store a.first) ≡ a.width)
  first_named =
      let lowest : a.first + 0 ≡ a.first = omega arith in
      subst (λ n. (word_of store signal 0 ≡ Some (numbered_word store n)) × (length (numbered_word store n) ≡ a.width)) lowest
      (word_named signals store signal 0 (a.first + 0) a.width is (array_word 0 a.some))

  bit_by : (b : Bool) (k : ℕ) (ds : List Digit) → length ds ≡ a.width → (b ≡ true → k < a.width) →
      (if b then planes_from k 1 (planes_of ds) else planes_of (all_unknown 1)) ≡ planes_of (selected (if b then pos k else pos a.width) 1 ds)
  bit_by true k ds long below = let inside : k + 1 ≤ length ds = omega (arith, long, below refl) in bits_are k 1 ds inside
  bit_by false k ds long below = ap (λ d. planes_of (d ∷ [])) (sym (get_or_past ds a.width X (omega (arith, long))))

  -- the bit that an index's value counts is the one that it chooses
  pub bit_same : (axis : Axis) (ds : List Digit) → a.falls ≡ axis.ascending → IsPlain axis a.width →
      bit_planes a (planes_of ds) store ≡ planes_of (bits_value (place_of axis 1 ds) 1 (word_of store signal 0))
  bit_same axis ds falls plain =
      ap (λ f. if plain_place a.width ds then planes_from (counted f a.width (value_plane ds)) 1 (word_planes store a.first) else planes_of (all_unknown 1)) falls
      ∙ bit_by (plain_place a.width ds) (counted axis.ascending a.width (value_plane ds)) (numbered_word store a.first) first_named.1
      (λ h. counted_below axis.ascending a.width (value_plane ds) (place_below a.width ds h))
      ∙ ap (λ z. planes_of (selected z 1 (numbered_word store a.first))) (sym (place_by_plane axis a.width a.sized.0 plain ds))
      ∙ ap (λ o. planes_of (bits_value (place_of axis 1 ds) 1 o)) (sym first_named.0)

  -- so many bits of the first word
  pub part_same : (axis : Axis) (width : ℕ) (ds : List Digit) →
      planes_of (selected (place_of axis width ds) width (digits_of a.width (word_planes store a.first))) ≡ planes_of (bits_value (place_of axis width ds) width (word_of store signal 0))
  part_same axis width ds =
      ap (λ word. planes_of (selected (place_of axis width ds) width word)) (own_digits a.width (numbered_word store a.first) first_named.1)
      ∙ ap (λ o. planes_of (bits_value (place_of axis width ds) width o)) (sym first_named.0)

module _ (signals : List Signal) (signal : ℕ) (values : Values) (a : Array) (axis : Axis) (x : Box Node Global) (made : Node) (size : ℕ) (same : x.value ≡ made)
    (m : Means signals values made size) (r : IsArrayOf signals signal a) where
  of_index : (store : Store) (time : ℕ) → IsStoreOf signals store → planes_in x.value store time ≡ planes_of (values store time)
  of_index store time is = ap (λ n. planes_in n store time) same ∙ m.same store time is

  array_like : (b : Array) → IsCounting b a axis.ascending → IsArrayOf signals signal b
  array_like b c = record { declared = r.declared; at = r.at; first = c.first ∙ r.first; count = c.count ∙ r.count; width = c.width ∙ r.width }

  pub element_means : (b : Array) → IsCounting b a axis.ascending → IsPlain axis a.count →
      Means signals (λ store time. word_value signal a.width axis store (values store time)) (v.Element b x) a.width
  element_means b c plain = record {
    sized = λ store time is. bits_long (pos 0) a.width (word_of store signal (word_place axis (values store time)));
    same = λ store time is.
        in_element store time b x
        ∙ ap (λ p. element_planes b p store) (of_index store time is)
        ∙ element_same signals signal b (array_like b c) store is axis (values store time) c.falls (subst (IsPlain axis) (sym c.count) plain)
        ∙ nth_same signals signal b (array_like b c) store is (word_place axis (values store time))
        ∙ ap (λ n. planes_of (bits_value (pos 0) n (word_of store signal (word_place axis (values store time))))) c.width;
  }

  pub indexed_means : (index : Box Index Global) → index.value.axis ≡ axis → index.value.size ≡ size →
      Means signals (λ store time. word_value signal a.width axis store (values store time)) (v.Indexed a index x) a.width
  indexed_means index by long = record {
    sized = λ store time is. bits_long (pos 0) a.width (word_of store signal (word_place axis (values store time)));
    same = λ store time is.
        in_indexed store time a index x
        ∙ ap₂ (λ b p. nth_planes a (word_place b (digits_of index.value.size p)) store) by (of_index store time is)
        ∙ ap (λ n. nth_planes a (word_place axis (digits_of n (planes_of (values store time)))) store) long
        ∙ ap (λ ds. nth_planes a (word_place axis ds) store) (own_digits size (values store time) (m.sized store time is))
        ∙ nth_same signals signal a r store is (word_place axis (values store time));
  }

  pub bit_means : (b : Array) (width : ℕ) → IsCounting b a axis.ascending → width ≡ 1 → IsPlain axis a.width →
      Means signals (λ store time. part_value signal width axis store (values store time)) (v.Bit b x) width
  bit_means b width c one plain = record {
    sized = λ store time is. bits_long (place_of axis width (values store time)) width (word_of store signal 0);
    same = λ store time is.
        in_bit store time b x
        ∙ ap (λ p. bit_planes b p store) (of_index store time is)
        ∙ bit_same signals signal b (array_like b c) store is axis (values store time) c.falls (subst (IsPlain axis) (sym c.width) plain)
        ∙ ap (λ n. planes_of (bits_value (place_of axis n (values store time)) n (word_of store signal 0))) (sym one);
  }

  abbrev part : Store → Axis → ℕ → List Digit → Planes
  part store b n ds = planes_of (selected (place_of b n ds) n (digits_of a.width (word_planes store a.first)))

  pub ranged_means : (range : Box Range Global) (width : ℕ) → range.value.index.axis ≡ axis → range.value.index.size ≡ size → range.value.width ≡ width →
      Means signals (λ store time. part_value signal width axis store (values store time)) (v.Ranged a range x) width
  ranged_means range width by long wide = record {
    sized = λ store time is. bits_long (place_of axis width (values store time)) width (word_of store signal 0);
    same = λ store time is.
        in_ranged store time a range x
        ∙ ap₂ (λ b p. part store b range.value.width (digits_of range.value.index.size p)) by (of_index store time is)
        ∙ ap₂ (λ n m. part store axis n (digits_of m (planes_of (values store time)))) wide long
        ∙ ap (part store axis width) (own_digits size (values store time) (m.sized store time is))
        ∙ part_same signals signal a r store is axis width (values store time);
  }

-- ---- what two indices choose

module _ (signals : List Signal) (s : Selection) (a : Array) (e word low : Typed)
    (law : (store : Store) (time : ℕ) → value_of e store time ≡ selection_value s store (value_of word store time) (value_of low store time)) (node : Node) where
  pub whole_word : IsElementOf signals s low a → Means signals (λ store time. word_value s.signal a.width s.words store (value_of word store time)) node a.width → IsMeant signals e node s.width
  whole_word r m =
      subst (IsMeant signals e node) (sym r.wide)
      (means_as signals (λ store time. word_value s.signal a.width s.words store (value_of word store time)) (λ store time. value_of e store time) node a.width
      (λ store time.
      ap₂ (λ z n. bits_value z n (word_of store s.signal (word_place s.words (value_of word store time)))) (sym (r.lowest store time)) (sym r.wide)
      ∙ sym (law store time)) m)

  pub part_of_word : IsBitsOf signals s word a → Means signals (λ store time. part_value s.signal s.width s.bits store (value_of low store time)) node s.width → IsMeant signals e node s.width
  part_of_word r m =
      means_as signals (λ store time. part_value s.signal s.width s.bits store (value_of low store time)) (λ store time. value_of e store time) node s.width
      (λ store time.
      ap (λ z. bits_value (place_of s.bits s.width (value_of low store time)) s.width (word_of store s.signal (from_zero z))) (sym (r.lowest store time))
      ∙ sym (law store time)) m
