-- Lemmas on the values of resolved expressions.
use Rattle.std.proofs.Common.{◌≡◌, ℕ, map, sym, ◌∙◌, ap}
use Rattle.std.specs.declared.alloc.Global.{Global}
use Rattle.std.specs.declared.boxed.Box.{Box}
use Rattle.std.specs.declared.vec.Vec.{Vec}
use Rattle.vs_design.specs.vs_logic4.specs.Comparisons.{truth}
use Rattle.vs_design.specs.vs_logic4.specs.declared.operators.Unary.{Unary}
use Rattle.vs_design.specs.declared.expression.Count.{Count}
use Rattle.vs_design.specs.Stores.{Store}
use Rattle.vs_eval.specs.declared.node.Array.{Array}
use Rattle.vs_eval.specs.declared.node.Change.{Change}
use Rattle.vs_eval.specs.declared.node.Field.{Field}
use Rattle.vs_eval.specs.declared.node.Index.{Index}
use Rattle.vs_eval.specs.declared.node.Range.{Range}
use Rattle.vs_eval.specs.declared.node.Node.{Node, Node-F}
use Rattle.vs_eval.specs.declared.node.Node.TheOpen as f
use Rattle.vs_eval.specs.declared.node.Node.TheVariants as v
use Rattle.vs_eval.specs.declared.node.Node.TheViews.{roll-Node}
use Rattle.vs_eval.specs.declared.node.Node.TheFolds.{fold-roll-Node, map-Node}
use Rattle.vs_eval.specs.declared.node.Planes.{Planes}
use Rattle.vs_eval.specs.declared.node.Sides.{Sides}
use Rattle.vs_eval.specs.declared.node.Size.{Size}
use Rattle.vs_eval.specs.Nodes.{planes_step, planes_in, word_planes, field_planes, element_planes, bit_planes, indexed_planes, ranged_planes, unary_planes, combined, chained, chosen, changed_planes, joined, repeated}
use Rattle.vs_eval.specs.PlanesOf.{digits_of}

-- the planes of a resolved expression are what its outermost layer gives
pub node_layer : (e : Node) (store : Store) (time : ℕ) (layer : Node-F Node) → roll-Node layer ≡ e →
    planes_in e store time ≡ planes_step store time (map-Node Node Planes (λ x. planes_in x store time) layer)
node_layer e store time layer is = ap (λ x. planes_in x store time) (sym is) ∙ fold-roll-Node Planes (planes_step store time) layer

module _ (store : Store) (time : ℕ) where
  pub in_number : (p : Planes) → planes_in (v.Number p) store time ≡ p
  in_number p = node_layer (v.Number p) store time (f.Number p) (v.rolls-Number p)

  pub in_word : (number : ℕ) → planes_in (v.Word number) store time ≡ word_planes store number
  in_word number = node_layer (v.Word number) store time (f.Word number) (v.rolls-Word number)

  pub in_bits : (field : Field) → planes_in (v.Bits field) store time ≡ field_planes field store
  in_bits field = node_layer (v.Bits field) store time (f.Bits field) (v.rolls-Bits field)

  pub in_element : (array : Array) (x : Box Node Global) → planes_in (v.Element array x) store time ≡ element_planes array (planes_in x.value store time) store
  in_element array x = node_layer (v.Element array x) store time (f.Element array x) (v.rolls-Element array x)

  pub in_bit : (array : Array) (x : Box Node Global) → planes_in (v.Bit array x) store time ≡ bit_planes array (planes_in x.value store time) store
  in_bit array x = node_layer (v.Bit array x) store time (f.Bit array x) (v.rolls-Bit array x)

  pub in_indexed : (array : Array) (index : Box Index Global) (x : Box Node Global) →
      planes_in (v.Indexed array index x) store time ≡ indexed_planes array index.value (planes_in x.value store time) store
  in_indexed array index x = node_layer (v.Indexed array index x) store time (f.Indexed array index x) (v.rolls-Indexed array index x)

  pub in_ranged : (array : Array) (range : Box Range Global) (x : Box Node Global) →
      planes_in (v.Ranged array range x) store time ≡ ranged_planes array range.value (planes_in x.value store time) store
  in_ranged array range x = node_layer (v.Ranged array range x) store time (f.Ranged array range x) (v.rolls-Ranged array range x)

  pub in_unary : (operator : Unary) (size : Size) (x : Box Node Global) → planes_in (v.Unary operator size x) store time ≡ unary_planes operator size (planes_in x.value store time)
  in_unary operator size x = node_layer (v.Unary operator size x) store time (f.Unary operator size x) (v.rolls-Unary operator size x)

  pub in_two : (sides : Sides) (x y : Box Node Global) →
      planes_in (v.Two sides x y) store time ≡ combined (planes_in x.value store time) (sides, planes_in y.value store time)
  in_two sides x y = node_layer (v.Two sides x y) store time (f.Two sides x y) (v.rolls-Two sides x y)

  pub in_chain : (x : Box Node Global) (links : Vec (Sides × Node) Global) →
      planes_in (v.Chain x links) store time ≡ chained (planes_in x.value store time) (map (λ l. (l.0, planes_in l.1 store time)) links.items)
  in_chain x links = node_layer (v.Chain x links) store time (f.Chain x links) (v.rolls-Chain x links)

  pub in_if : (size width : Size) (c x y : Box Node Global) → planes_in (v.If size width c x y) store time ≡
      chosen (truth (digits_of size.width (planes_in c.value store time))) width (planes_in x.value store time) (planes_in y.value store time)
  in_if size width c x y = node_layer (v.If size width c x y) store time (f.If size width c x y) (v.rolls-If size width c x y)

  pub in_resized : (change : Change) (x : Box Node Global) → planes_in (v.Resized change x) store time ≡ changed_planes change (planes_in x.value store time)
  in_resized change x = node_layer (v.Resized change x) store time (f.Resized change x) (v.rolls-Resized change x)

  pub in_concat : (size : Size) (x : Box Node Global) (parts : Vec (Size × Node) Global) →
      planes_in (v.Concat size x parts) store time ≡ joined size (planes_in x.value store time) (map (λ p. (p.0, planes_in p.1 store time)) parts.items)
  in_concat size x parts = node_layer (v.Concat size x parts) store time (f.Concat size x parts) (v.rolls-Concat size x parts)

  pub in_repeat : (count : Count) (size : Size) (x : Box Node Global) → planes_in (v.Repeat count size x) store time ≡ repeated count size (planes_in x.value store time)
  in_repeat count size x = node_layer (v.Repeat count size x) store time (f.Repeat count size x) (v.rolls-Repeat count size x)
