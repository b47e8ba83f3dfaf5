-- Lemmas on what resolved expressions stand for.
use Rattle.std.proofs.Common.{◌≡◌, ℕ, ◌≤◌, ◌⊎◌, inl, inr, if◌then◌else◌, Some, List, length, refl, sym, ◌∙◌, ap, ap₂}
use Rattle.std.specs.Prelude.{Bool, false}
use Rattle.vs_design.specs.vs_logic4.specs.Bitwise.{merged}
use Rattle.vs_design.specs.vs_logic4.specs.declared.digit.Digit.{Digit}
use Rattle.vs_design.specs.vs_logic4.specs.declared.digit.Digit.TheVariants.{Zero, One, X, Z}
use Rattle.vs_design.specs.vs_logic4.specs.declared.operators.Sizing.{Sizing}
use Rattle.vs_design.specs.vs_logic4.specs.declared.operators.Sizing.TheVariants.{Alike, Shift, Comparison, Logical}
use Rattle.vs_design.specs.vs_logic4.specs.declared.operators.Unary.{Unary}
use Rattle.vs_design.specs.vs_logic4.specs.Extensions.{length-resized}
use Rattle.vs_design.specs.vs_logic4.specs.Lengths.{length-binary, length-digitwise, length-unary}
use Rattle.vs_design.specs.vs_logic4.specs.Operators.{unary, binary, gives_bit, is_one_bit, sizing_of}
use Rattle.vs_design.specs.vs_logic4.specs.Tables.{merged_digit}
use Rattle.vs_design.specs.vs_logic4.specs.Vectors.{resized}
use Rattle.vs_design.specs.vs_logic4.proofs.Properties.{resized-own_width}
use Rattle.vs_design.proofs.InOrderLemmas.{word_numbered}
use Rattle.vs_design.specs.declared.expression.Link.{Link}
use Rattle.vs_design.specs.declared.signal.Signal.{Signal}
use Rattle.vs_design.specs.InOrder.{IsStoreOf, numbered_word}
use Rattle.vs_design.specs.Stores.{Store, word_of}
use Rattle.vs_eval.specs.Values.{operand_value, left_side, right_side, linked, picked}
use Rattle.vs_eval.proofs.SizesHold.{one_size}
use Rattle.vs_eval.specs.declared.node.Node.{Node}
use Rattle.vs_eval.specs.declared.node.Node.TheVariants as v
use Rattle.vs_eval.specs.declared.node.Planes.{Planes}
use Rattle.vs_eval.specs.declared.node.Sides.{Sides}
use Rattle.vs_eval.specs.declared.node.Size.{Size}
use Rattle.vs_eval.specs.Meant.{Means, Values, IsWordOf}
use Rattle.vs_eval.specs.Nodes.{planes_in, unary_planes, combined, chosen}
use Rattle.vs_eval.specs.PlanesOf.{planes_of, digits_of}
use Rattle.vs_eval.proofs.NodeLemmas.{in_number}
use Rattle.vs_eval.proofs.PlanesLemmas.{own_digits, other_digits, wide_planes}

-- ---- words

-- a word that a number names
pub word_named : (signals : List Signal) (store : Store) (signal word number width : ℕ) → IsStoreOf signals store → (n : IsWordOf signals signal word number width) →
    (word_of store signal word ≡ Some (numbered_word store number)) × (length (numbered_word store number) ≡ width)
word_named signals store signal word number width is n =
    let found = word_numbered signals store signal word n.declared is n.at n.below in (
      found.is ∙ ap (λ k. Some (numbered_word store k)) (sym n.numbered),
      ap (λ k. length (numbered_word store k)) n.numbered ∙ found.size ∙ sym n.wide,
    )

-- at a size that isn't smaller, without a sign or at its own size, a word has the planes of the signal's value
pub word_meant : (signed : Bool) (width : ℕ) (ds : List Digit) → (length ds ≡ width) ⊎ ((length ds ≤ width) × (signed ≡ false)) →
    planes_of ds ≡ planes_of (operand_value signed width (Some ds))
word_meant signed width ds (inl same) = ap planes_of (sym (resized-own_width signed ds) ∙ ap (λ w. resized signed w ds) same)
word_meant signed width ds (inr wide) = sym (wide_planes width ds wide.0) ∙ ap (λ s. planes_of (resized s width ds)) (sym wide.1)

-- ---- literals

-- a literal of some digits means a value that has these
pub literal_means : (signals : List Signal) (values : Values) (digits : List Digit) (p : Planes) (width : ℕ) → p ≡ planes_of digits → width ≡ length digits →
    ((store : Store) (time : ℕ) → values store time ≡ digits) → Means signals values (v.Number p) width
literal_means signals values digits p width is long law = record {
  sized = λ store time _. ap length (law store time) ∙ sym long;
  same = λ store time _. in_number store time p ∙ is ∙ ap planes_of (sym (law store time));
}

-- ---- operators

module _ (signals : List Signal) (values : Values) (x node : Node) (size : Size) (operator : Unary) (width : ℕ) where
  -- an operator of an operand that has its meaning
  pub unary_means : ((store : Store) (time : ℕ) → planes_in node store time ≡ unary_planes operator size (planes_in x store time)) →
      width ≡ (if gives_bit operator then 1 else size.width) → Means signals values x size.width →
      Means signals (λ store time. unary operator (values store time)) node width
  unary_means made wide m = record {
    sized = λ store time is. length-unary operator (values store time) ∙ ap (λ n. if gives_bit operator then 1 else n) (m.sized store time is) ∙ sym wide;
    same = λ store time is.
        made store time
        ∙ ap (unary_planes operator size) (m.same store time is)
        ∙ ap (λ ds. planes_of (unary operator ds)) (own_digits size.width (values store time) (m.sized store time is));
  }

-- an operand that has its meaning, brought to another size
pub resized_means : (signals : List Signal) (values : Values) (x node : Node) (from to : ℕ) (signed : Bool) →
    ((store : Store) (time : ℕ) → planes_in node store time ≡ planes_of (resized signed to (digits_of from (planes_in x store time)))) → Means signals values x from →
    Means signals (λ store time. resized signed to (values store time)) node to
resized_means signals values x node from to signed made m = record {
  sized = λ store time _. length-resized signed to (values store time);
  same = λ store time is.
      made store time
      ∙ ap (λ p. planes_of (resized signed to (digits_of from p))) (m.same store time is)
      ∙ ap (λ ds. planes_of (resized signed to ds)) (own_digits from (values store time) (m.sized store time is));
}

-- the same of one that has its planes at the other size too
pub kept_means : (signals : List Signal) (values : Values) (x : Node) (from to : ℕ) (signed : Bool) →
    ((ds : List Digit) → length ds ≡ from → planes_of ds ≡ planes_of (resized signed to ds)) → Means signals values x from →
    Means signals (λ store time. resized signed to (values store time)) x to
kept_means signals values x from to signed keeps m = record {
  sized = λ store time _. length-resized signed to (values store time);
  same = λ store time is. m.same store time is ∙ keeps (values store time) (m.sized store time is);
}

-- what a link gives of planes is that of the values on its sides
pub linked_planes : (sides : Sides) (link : Link) (left right : List Digit) → sides.operator ≡ link.operator → sides.signed ≡ link.signed →
    resized false sides.left left ≡ left_side (sizing_of link.operator) link.width left →
    resized false sides.right right ≡ right_side (sizing_of link.operator) link.width right →
    combined (planes_of left) (sides, planes_of right) ≡ planes_of (linked left (link, right))
linked_planes sides link left right operator signed on_left on_right =
    ap₂ (λ l r. planes_of (binary sides.operator sides.signed l r)) (other_digits sides.left left ∙ on_left) (other_digits sides.right right ∙ on_right)
    ∙ ap₂ (λ o s. planes_of (binary o s (left_side (sizing_of link.operator) link.width left) (right_side (sizing_of link.operator) link.width right))) operator signed

-- what `?:` gives of planes is that of the values of its operands
pub chosen_planes : (d : Digit) (size : Size) (value other : List Digit) → length value ≡ size.width →
    chosen d size (planes_of value) (planes_of other) ≡ planes_of (picked d value other)
chosen_planes One size value other h = refl
chosen_planes Zero size value other h = refl
chosen_planes X size value other h =
    ap₂ (λ v o. planes_of (merged v o)) (own_digits size.width value h) (other_digits size.width other ∙ ap (λ w. resized false w other) (sym h))
chosen_planes Z size value other h =
    ap₂ (λ v o. planes_of (merged v o)) (own_digits size.width value h) (other_digits size.width other ∙ ap (λ w. resized false w other) (sym h))

-- `?:` of operands of one size gives one of that size
pub picked_long : (d : Digit) (value other : List Digit) (width : ℕ) → length value ≡ width → length other ≡ width → length (picked d value other) ≡ width
picked_long One value other width h k = h
picked_long Zero value other width h k = k
picked_long X value other width h k = length-digitwise merged_digit value (resized false (length value) other) (sym (length-resized false (length value) other)) ∙ h
picked_long Z value other width h k = length-digitwise merged_digit value (resized false (length value) other) (sym (length-resized false (length value) other)) ∙ h

-- ---- sizes

left_long : (z : Sizing) (width : ℕ) (left : List Digit) → (if is_one_bit z then 1 else length (left_side z width left)) ≡ (if is_one_bit z then 1 else width)
left_long Alike width left = length-resized false width left
left_long Shift width left = length-resized false width left
left_long Comparison width left = refl
left_long Logical width left = refl

-- how long what a link gives is
pub linked_long : (link : Link) (left right : List Digit) → length (linked left (link, right)) ≡ (if is_one_bit (sizing_of link.operator) then 1 else link.width)
linked_long link left right =
    let z = sizing_of link.operator in
    length-binary link.operator link.signed (left_side z link.width left) (right_side z link.width right) (one_size z link.width left right) ∙ left_long z link.width left

-- ---- values

-- the vectors that the planes of a node hold
module _ (signals : List Signal) (values : Values) (node : Node) (width : ℕ) (m : Means signals values node width) (store : Store) (time : ℕ) (is : IsStoreOf signals store) where
  -- at its own size the value
  pub own_value : digits_of width (planes_in node store time) ≡ values store time
  own_value = ap (digits_of width) (m.same store time is) ∙ own_digits width (values store time) (m.sized store time is)

  -- at another size the value cut or extended by 0
  pub other_value : (size : ℕ) → digits_of size (planes_in node store time) ≡ resized false size (values store time)
  other_value size = ap (digits_of size) (m.same store time is) ∙ other_digits size (values store time)
