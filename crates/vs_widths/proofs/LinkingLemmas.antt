-- Operators of two operands, by their sizing.
use Rattle.std.proofs.Common.{◌≡◌, ℕ, zero, suc, ◌+◌, ◌<◌, ◌≤◌, Bool, true, false, if◌then◌else◌, List, [], ◌∷◌, ◌++◌, Option, Some, None, option_map, length, map, get_or, refl, ap, ap₂, sym, ◌∙◌, append_assoc, arith}
use Rattle.std.proofs.lemmas.List.{append-nil}
use Rattle.std.proofs.lemmas.Bool.{eq-eqb}
use Rattle.std.proofs.lemmas.Option.{none-some}
use Rattle.std.specs.declared.vec.Vec.{Vec}
use Rattle.std.specs.declared.boxed.Box.{Box}
use Rattle.std.specs.declared.alloc.Global.{Global}
use Rattle.vs_design.specs.vs_logic4.specs.declared.digit.Digit.{Digit}
use Rattle.vs_design.specs.vs_logic4.specs.declared.operators.Binary.{Binary}
use Rattle.vs_design.specs.vs_logic4.specs.declared.operators.Binary.TheVariants as b
use Rattle.vs_design.specs.vs_logic4.specs.declared.operators.Sizing.{Sizing}
use Rattle.vs_design.specs.vs_logic4.specs.declared.operators.Sizing.TheVariants.{Alike, Shift, Comparison, Logical}
use Rattle.vs_design.specs.vs_logic4.specs.Operators.{binary, sizing_of, is_one_bit}
use Rattle.vs_design.specs.vs_logic4.specs.Vectors.{resized}
use Rattle.vs_design.specs.declared.expression.Link.{Link}
use Rattle.vs_design.specs.declared.range.BitRange.{BitRange}
use Rattle.vs_design.specs.Stores.{Store}
use Rattle.vs_design.specs.Uses.{joined}
use Rattle.vs_design.specs.WellFormed.{sized_by, linked_size, chain_size}
use Rattle.vs_widths.specs.vs_eval.specs.Values.{left_side, right_side, linked, chained}
use Rattle.vs_widths.specs.declared.shape.Shape.{Shape}
use Rattle.vs_widths.specs.declared.forms.Sizable.{Sizable}
use Rattle.vs_widths.specs.declared.forms.Sizable.TheVariants as v
use Rattle.vs_widths.specs.declared.forms.Sizable.TheOpen as f
use Rattle.vs_widths.specs.declared.forms.Measured.{Measured}
use Rattle.vs_widths.specs.Findings.{Has, alike, linked_shape}
use Rattle.vs_widths.specs.Meants.{Meant}
use Rattle.vs_widths.specs.Operations.{operated}
use Rattle.vs_widths.specs.Senses.{Sense, sense, open_size, open_link, open_value}
use Rattle.vs_widths.specs.Expressions.{linked_value, linked_meant}
use Rattle.vs_widths.specs.passes.Forms.{ends_in_test, IsOperated, IsTestLink, IsTested}
use Rattle.vs_widths.specs.select_passes.Measures.{meaning, IsFlexible, IsMeasured, IsOwnPart}
use Rattle.vs_widths.proofs.FittingLemmas.{layer, links_sensed, tests_sensed}
use Rattle.vs_widths.proofs.FixingLemmas.{meant_same}

-- ---- meanings

-- ---- lists

pub joined_push : {A : Type 0} (g : A → List BitRange) (xs : List A) (x : A) → joined (map g (xs ++ x ∷ [])) ≡ joined (map g xs) ++ g x
joined_push g [] x = append-nil (g x)
joined_push g (y ∷ ys) x = ap (λ z. g y ++ z) (joined_push g ys x) ∙ sym (append_assoc (g y) (joined (map g ys)) (g x))

-- ---- operands of one context

open_size_push : (w : ℕ) (s : Option ℕ) (ls : List (Binary × Sizable)) (op : Binary) (x : Sizable) →
    open_size w s (map (λ (l : Binary × Sense). (l.0, l.1.size w)) (links_sensed (ls ++ (op, x) ∷ [])))
    ≡ open_link w (open_size w s (map (λ (l : Binary × Sense). (l.0, l.1.size w)) (links_sensed ls))) (op, (sense x).size w)
open_size_push w s [] op x = refl
open_size_push w s (l ∷ ls) op x = open_size_push w (open_link w s (l.0, (sense l.1).size w)) ls op x

open_value_push : (w : ℕ) (g : Bool) (store : Store) (time : ℕ) (first : List Digit) (ls : List (Binary × Sizable)) (op : Binary) (x : Sizable) →
    open_value w g first (map (λ (l : Binary × Sense). (l.0, l.1.at store time w g)) (links_sensed (ls ++ (op, x) ∷ [])))
    ≡ operated op w g (open_value w g first (map (λ (l : Binary × Sense). (l.0, l.1.at store time w g)) (links_sensed ls))) ((sense x).at store time w g)
open_value_push w g store time first [] op x = refl
open_value_push w g store time first (l ∷ ls) op x = open_value_push w g store time (operated l.0 w g first ((sense l.1).at store time w g)) ls op x

links_read_push : (ls : List (Binary × Sizable)) (op : Binary) (x : Sizable) →
    joined (map (λ (l : Binary × Sense). l.1.reads) (links_sensed (ls ++ (op, x) ∷ []))) ≡ joined (map (λ (l : Binary × Sense). l.1.reads) (links_sensed ls)) ++ (sense x).reads
links_read_push [] op x = append-nil (sense x).reads
links_read_push (l ∷ ls) op x = ap (λ z. (sense l.1).reads ++ z) (links_read_push ls op x) ∙ sym (append_assoc (sense l.1).reads (joined (map (λ (l : Binary × Sense). l.1.reads) (links_sensed ls))) (sense x).reads)

pub operated_more : (c : Box Sizable Global) (ls ns : Vec (Binary × Sizable) Global) (op : Binary) (right : Sizable) → ns.items ≡ ls.items ++ (op, right) ∷ [] → IsOperated (v.Chain c ls) op right (v.Chain c ns)
operated_more c ls ns op right k =
    let old = layer (f.Chain c ls) (v.Chain c ls) (v.rolls-Chain c ls) in
    let new = layer (f.Chain c ns) (v.Chain c ns) (v.rolls-Chain c ns) in
    let x = sense c.value in
    record {
      size = λ w.
          ap (λ z. z.size w) new ∙ ap (λ l. open_size w (x.size w) (map (λ (l : Binary × Sense). (l.0, l.1.size w)) (links_sensed l))) k
          ∙ open_size_push w (x.size w) ls.items op right ∙ ap (λ z. open_link w (z.size w) (op, (sense right).size w)) (sym old);
      ranges =
          ap (λ z. z.reads) new ∙ ap (λ l. x.reads ++ joined (map (λ (l : Binary × Sense). l.1.reads) (links_sensed l))) k
          ∙ ap (λ z. x.reads ++ z) (links_read_push ls.items op right)
          ∙ sym (append_assoc x.reads (joined (map (λ (l : Binary × Sense). l.1.reads) (links_sensed ls.items))) (sense right).reads)
          ∙ ap (λ z. z.reads ++ (sense right).reads) (sym old);
      value = λ store time w g.
          ap (λ z. z.at store time w g) new ∙ ap (λ l. open_value w g (x.at store time w g) (map (λ (l : Binary × Sense). (l.0, l.1.at store time w g)) (links_sensed l))) k
          ∙ open_value_push w g store time (x.at store time w g) ls.items op right ∙ ap (λ z. operated op w g (z.at store time w g) ((sense right).at store time w g)) (sym old);
      layer = λ w. ap (λ z. z.layer w) new;
    }

sized_alike : (z : Sizing) (w : ℕ) → z ≡ Alike → sized_by z w w w ≡ Some w
sized_alike z w h = rw (h, eq-eqb w w refl) refl

sized_shift : (z : Sizing) (w n : ℕ) → z ≡ Shift → sized_by z w w n ≡ Some w
sized_shift z w n h = rw (h, eq-eqb w w refl) refl

-- an operator whose operands have the size and sign of the context
pub alike_measured : (left right : Measured) (op : Binary) (s : Shape) (y : Sizable) → sizing_of op ≡ Alike → IsFlexible left.form → IsFlexible right.form →
    alike left.shape.width left.shape.signed right.shape.width right.shape.signed ≡ Has s.width s.signed → IsOperated left.form op right.form y →
    IsMeasured (linked_meant (meaning left) (op, meaning right)) (record { shape = s; form = y })
alike_measured left right op s y h p q a o = record {
  means = meant_same (linked_meant (meaning left) (op, meaning right)) (meaning (record { shape = s; form = y }))
      (ap (λ z. linked_shape z left.shape.width left.shape.signed right.shape.width right.shape.signed) h ∙ a) (sym o.ranges)
      (λ store time w g. ap (λ z. linked_value z op (meaning left) (meaning right) store time w g) h ∙ sym (o.value store time w g))
      (λ w. sym (o.layer w));
  flexible = λ w. o.size w ∙ ap₂ (λ b c. open_link w b (op, c)) (p w) (q w) ∙ sized_alike (sizing_of op) w h;
}

-- a shift, whose amount has its own size and sign
pub shift_measured : (left right : Measured) (op : Binary) (a y : Sizable) → sizing_of op ≡ Shift → IsFlexible left.form → IsFlexible right.form → IsOwnPart right a → IsOperated left.form op a y →
    IsMeasured (linked_meant (meaning left) (op, meaning right)) (record { shape = left.shape; form = y })
shift_measured left right op a y h p q k o = record {
  means = meant_same (linked_meant (meaning left) (op, meaning right)) (meaning (record { shape = left.shape; form = y }))
      (ap (λ z. linked_shape z left.shape.width left.shape.signed right.shape.width right.shape.signed) h) (ap (λ z. (sense left.form).reads ++ z) (sym k.ranges) ∙ sym o.ranges)
      (λ store time w g. ap (λ z. linked_value z op (meaning left) (meaning right) store time w g) h
      ∙ ap (operated op w g ((sense left.form).at store time w g)) (sym (k.value store time w g)) ∙ sym (o.value store time w g))
      (λ w. sym (o.layer w));
  flexible = λ w. o.size w ∙ ap₂ (λ b c. open_link w b (op, c)) (p w) (k.size w ∙ q right.shape.width) ∙ sized_shift (sizing_of op) w right.shape.width h;
}

-- ---- operators that give one bit

-- one bit, where there is a size
abbrev pub IsOne : Option ℕ → Type 0
IsOne None = Unit {0}
IsOne (Some n) = n ≡ 1

if_one : (b : Bool) → IsOne (if b then Some 1 else None)
if_one true = refl
if_one false = tt

sized_one : (z : Sizing) (w l r : ℕ) → is_one_bit z ≡ true → IsOne (sized_by z w l r)
sized_one Alike w l r h = cc
sized_one Shift w l r h = cc
sized_one Comparison w l r h = if_one _
sized_one Logical w l r h = refl

linked_one : (s r : Option ℕ) (l : Link) → is_one_bit (sizing_of l.operator) ≡ true → IsOne (linked_size s (l, r))
linked_one None None l h = tt
linked_one None (Some y) l h = tt
linked_one (Some x) None l h = tt
linked_one (Some x) (Some y) l h = sized_one (sizing_of l.operator) l.width x y h

abbrev pub sizes_at : List (Link × Sizable) → List (Link × Option ℕ)
sizes_at ls = map (λ (l : Link × Sense). (l.0, l.1.size l.0.width)) (tests_sensed ls)

abbrev pub values_at : Store → ℕ → List (Link × Sizable) → List (Link × List Digit)
values_at store time ls = map (λ (l : Link × Sense). (l.0, l.1.at store time l.0.width l.0.signed)) (tests_sensed ls)

ends_one : (s : Option ℕ) (ls : List (Link × Sizable)) → ends_in_test ls ≡ true → IsOne (chain_size s (sizes_at ls))
ends_one s [] h = cc
ends_one s (l ∷ []) h = linked_one s ((sense l.1).size l.0.width) l.0 h
ends_one s (l ∷ k ∷ ls) h = ends_one (linked_size s (l.0, (sense l.1).size l.0.width)) (k ∷ ls) h

one_is : (o : Option ℕ) (n : ℕ) → IsOne o → option_map (λ m. n) o ≡ Some n → o ≡ Some 1
one_is None n h k = absurd (none-some n k)
one_is (Some m) n h k = ap Some h

-- a vector of one digit
pub record IsDigit (ds : List Digit) : Type 0 where
  pub digit : Digit
  pub is : ds ≡ digit ∷ []

binary_one : (op : Binary) (g : Bool) (ds es : List Digit) → is_one_bit (sizing_of op) ≡ true → IsDigit (binary op g ds es)
binary_one b.Multiply g ds es h = cc
binary_one b.Divide g ds es h = cc
binary_one b.Remainder g ds es h = cc
binary_one b.Add g ds es h = cc
binary_one b.Subtract g ds es h = cc
binary_one b.ShiftLeft g ds es h = cc
binary_one b.ShiftRight g ds es h = cc
binary_one b.SignedShiftLeft g ds es h = cc
binary_one b.SignedShiftRight g ds es h = cc
binary_one b.Less g ds es h = record { digit = _; is = refl }
binary_one b.LessEqual g ds es h = record { digit = _; is = refl }
binary_one b.Greater g ds es h = record { digit = _; is = refl }
binary_one b.GreaterEqual g ds es h = record { digit = _; is = refl }
binary_one b.Equal g ds es h = record { digit = _; is = refl }
binary_one b.NotEqual g ds es h = record { digit = _; is = refl }
binary_one b.CaseEqual g ds es h = record { digit = _; is = refl }
binary_one b.CaseNotEqual g ds es h = record { digit = _; is = refl }
binary_one b.And g ds es h = cc
binary_one b.Xor g ds es h = cc
binary_one b.Xnor g ds es h = cc
binary_one b.Or g ds es h = cc
binary_one b.LogicalAnd g ds es h = record { digit = _; is = refl }
binary_one b.LogicalOr g ds es h = record { digit = _; is = refl }

ends_digit : (store : Store) (time : ℕ) (first : List Digit) (ls : List (Link × Sizable)) → ends_in_test ls ≡ true → IsDigit (chained first (values_at store time ls))
ends_digit store time first [] h = cc
ends_digit store time first (l ∷ []) h = binary_one l.0.operator l.0.signed _ _ h
ends_digit store time first (l ∷ k ∷ ls) h = ends_digit store time (linked first (l.0, (sense l.1).at store time l.0.width l.0.signed)) (k ∷ ls) h

test_size_push : (s : Option ℕ) (ls : List (Link × Sizable)) (link : Link) (x : Sizable) → chain_size s (sizes_at (ls ++ (link, x) ∷ [])) ≡ linked_size (chain_size s (sizes_at ls)) (link, (sense x).size link.width)
test_size_push s [] link x = refl
test_size_push s (l ∷ ls) link x = test_size_push (linked_size s (l.0, (sense l.1).size l.0.width)) ls link x

test_value_push : (store : Store) (time : ℕ) (first : List Digit) (ls : List (Link × Sizable)) (link : Link) (x : Sizable) →
    chained first (values_at store time (ls ++ (link, x) ∷ [])) ≡ linked (chained first (values_at store time ls)) (link, (sense x).at store time link.width link.signed)
test_value_push store time first [] link x = refl
test_value_push store time first (l ∷ ls) link x = test_value_push store time (linked first (l.0, (sense l.1).at store time l.0.width l.0.signed)) ls link x

tests_read_push : (ls : List (Link × Sizable)) (link : Link) (x : Sizable) →
    joined (map (λ (l : Link × Sense). l.1.reads) (tests_sensed (ls ++ (link, x) ∷ []))) ≡ joined (map (λ (l : Link × Sense). l.1.reads) (tests_sensed ls)) ++ (sense x).reads
tests_read_push [] link x = append-nil (sense x).reads
tests_read_push (l ∷ ls) link x = ap (λ z. (sense l.1).reads ++ z) (tests_read_push ls link x) ∙ sym (append_assoc (sense l.1).reads (joined (map (λ (l : Link × Sense). l.1.reads) (tests_sensed ls))) (sense x).reads)

pub tested_more : (c : Box Sizable Global) (ls ns : Vec (Link × Sizable) Global) (s : Shape) (link : Link) (right : Sizable) → ns.items ≡ ls.items ++ (link, right) ∷ [] → s.signed ≡ false → s.width ≡ link.width → ends_in_test ls.items ≡ true →
    (sense (v.Tests c ls)).size s.width ≡ Some s.width → IsTestLink s.width link ((sense right).size link.width) → IsTested (v.Tests c ls) s link right (v.Tests c ns)
tested_more c ls ns s link right k sign wide ends sized test =
    let old = layer (f.Tests c ls) (v.Tests c ls) (v.rolls-Tests c ls) in
    let new = layer (f.Tests c ns) (v.Tests c ns) (v.rolls-Tests c ns) in
    let x = sense c.value in
    let one : chain_size (x.size 1) (sizes_at ls.items) ≡ Some 1 =
    one_is _ s.width (ends_one (x.size 1) ls.items ends) (sym (ap (λ z. z.size s.width) old) ∙ sized) in
    record {
      size = λ w.
          ap (λ z. z.size w) new ∙ ap (λ l. option_map (λ n. w) (chain_size (x.size 1) (sizes_at l))) k
          ∙ ap (option_map (λ n. w)) (test_size_push (x.size 1) ls.items link right ∙ ap (λ z. linked_size z (link, (sense right).size link.width)) one ∙ test.narrow);
      ranges =
          ap (λ z. z.reads) new ∙ ap (λ l. x.reads ++ joined (map (λ (l : Link × Sense). l.1.reads) (tests_sensed l))) k
          ∙ ap (λ z. x.reads ++ z) (tests_read_push ls.items link right)
          ∙ sym (append_assoc x.reads (joined (map (λ (l : Link × Sense). l.1.reads) (tests_sensed ls.items))) (sense right).reads)
          ∙ ap (λ z. z.reads ++ (sense right).reads) (sym old);
      value = λ store time w g.
          let r = (sense right).at store time link.width link.signed in
          let before = chained (x.at store time 1 false) (values_at store time ls.items) in
          let one = ends_digit store time (x.at store time 1 false) ls.items ends in
          let side : List Digit → List Digit = λ z. binary link.operator link.signed (left_side (sizing_of link.operator) link.width z) (right_side (sizing_of link.operator) link.width r) in
          let kept : side before ≡ side (resized false link.width before) =
          ap side one.is ∙ ap (λ z. binary link.operator link.signed z (right_side (sizing_of link.operator) link.width r)) (sym (test.same one.digit)) ∙ ap (λ z. side (resized false link.width z)) (sym one.is) in
          ap (λ z. z.at store time w g) new ∙ ap (λ l. resized g w (chained (x.at store time 1 false) (values_at store time l))) k
          ∙ ap (resized g w) (
          test_value_push store time (x.at store time 1 false) ls.items link right ∙ kept
          ∙ ap₂ (λ a b. side (resized a b before)) (sym sign) (sym wide) ∙ ap (λ z. side (z.at store time s.width s.signed)) (sym old)
          );
      layer = λ w. ap (λ z. z.layer w) new;
    }

-- ---- `&&` and `||`

-- a link as its parts say
pub record IsLinkOf (link : Link) (op : Binary) (width : ℕ) (signed : Bool) : Type 0 where
  pub operator : link.operator ≡ op
  pub width_is : link.width ≡ width
  pub sign_is : link.signed ≡ signed

logical_size : (z : Sizing) (w l r : ℕ) → z ≡ Logical → sized_by z w l r ≡ Some 1
logical_size z w l r h = rw h refl

logical_same : (z : Sizing) (w : ℕ) (d : Digit) → z ≡ Logical → w ≡ 1 → left_side z w (resized false w (d ∷ [])) ≡ left_side z w (d ∷ [])
logical_same z w d h k = rw (h, k) refl

pub combines : (left : ℕ) (right : Measured) (op : Binary) (link : Link) (a : Sizable) → sizing_of op ≡ Logical → IsLinkOf link op 1 false → IsFlexible right.form → IsOwnPart right a → IsTestLink left link ((sense a).size link.width)
combines left right op link a h l q o =
    let z : sizing_of link.operator ≡ Logical = ap sizing_of l.operator ∙ h in
    let r : (sense a).size link.width ≡ Some right.shape.width = o.size link.width ∙ q right.shape.width in
    record {
      bit = ap is_one_bit z;
      whole = ap (λ c. linked_size (Some left) (link, c)) r ∙ logical_size (sizing_of link.operator) link.width left right.shape.width z;
      narrow = ap (λ c. linked_size (Some 1) (link, c)) r ∙ logical_size (sizing_of link.operator) link.width 1 right.shape.width z;
      same = λ d. logical_same (sizing_of link.operator) link.width d z l.width_is;
    }

-- where the last of the operators stands
pub ends_at : {A : Type 0} (ls : List (Link × A)) (i : ℕ) (l : Link × A) → i < length ls → length ls ≤ i + 1 → l ≡ get_or ls i l → ends_in_test ls ≡ is_one_bit (sizing_of l.0.operator)
ends_at [] i l h k e = absurd (omega arith)
ends_at (a ∷ []) zero l h k e = ap (λ z. is_one_bit (sizing_of z.0.operator)) (sym e)
ends_at (a ∷ []) (suc i) l h k e = absurd (omega arith)
ends_at (a ∷ c ∷ ls) zero l h k e = absurd (omega arith)
ends_at (a ∷ c ∷ ls) (suc i) l h k e = ends_at (c ∷ ls) i l (omega arith) (omega arith) e
