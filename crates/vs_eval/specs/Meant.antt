-- What a resolved expression stands for.
use Rattle.std.specs.Prelude.{◌≡◌, ℕ, ◌+◌, ◌<◌, Bool, pos, false, Some, List, length, slice_get}
use Rattle.vs_design.specs.vs_logic4.specs.declared.digit.Digit.{Digit}
use Rattle.vs_design.specs.vs_logic4.specs.Operators.{sizing_of}
use Rattle.vs_design.specs.vs_logic4.specs.Vectors.{resized}
use Rattle.vs_design.specs.declared.expression.Link.{Link}
use Rattle.vs_design.specs.declared.expression.Typed.{Typed}
use Rattle.vs_design.specs.declared.expression.Axis.{Axis}
use Rattle.vs_design.specs.declared.expression.Selection.{Selection}
use Rattle.vs_design.specs.declared.signal.Signal.{Signal}
use Rattle.vs_design.specs.InOrder.{IsStoreOf, words_before}
use Rattle.vs_design.specs.Selects.{place_of, word_place}
use Rattle.vs_design.specs.Stores.{Store, word_of}
use Rattle.vs_eval.specs.Values.{bits_value, left_side, right_side, value_of}
use Rattle.vs_eval.specs.declared.node.Array.{Array}
use Rattle.vs_eval.specs.declared.node.Node.{Node}
use Rattle.vs_eval.specs.declared.node.Sides.{Sides}
use Rattle.vs_eval.specs.Nodes.{counted, planes_in}
use Rattle.vs_eval.specs.PlanesOf.{planes_of}

-- what an expression, or a part of one, gives in a store at a time
abbrev pub Values : Type 0
Values = Store → ℕ → List Digit

-- whether in each store of some signals a value has so many bits
abbrev pub AreSized : List Signal → Values → ℕ → Type 0
AreSized signals values width = (store : Store) (time : ℕ) → IsStoreOf signals store → length (values store time) ≡ width

-- whether in each store of some signals a node has the planes of a value of so many bits
pub record Means (signals : List Signal) (values : Values) (node : Node) (width : ℕ) : Type 0 where
  pub sized : AreSized signals values width
  pub same : (store : Store) (time : ℕ) → IsStoreOf signals store → planes_in node store time ≡ planes_of (values store time)

-- so of an expression
abbrev pub IsMeant : List Signal → Typed → Node → ℕ → Type 0
IsMeant signals e node width = Means signals (λ store time. value_of e store time) node width

-- an expression with the signals of its design
pub record Meaning : Type 0 where
  pub signals : List Signal
  pub expression : Typed

-- whether an index of a range counts the elements, from the first one up or from the last one down, and the range has so many of them
pub record IsPlain (axis : Axis) (length : ℕ) : Type 0 where
  pub right : axis.right ≡ pos (counted axis.ascending length 0)
  pub below : axis.below ≡ 0
  pub signed : axis.signed ≡ false
  pub long : axis.length ≡ length

-- the word of a signal that an index with these digits chooses; x in so many bits where there is no such word (clause 5.2.1)
abbrev pub word_value : ℕ → ℕ → Axis → Store → List Digit → List Digit
word_value signal width axis store index = bits_value (pos 0) width (word_of store signal (word_place axis index))

-- so many bits of a signal's first word that an index with these digits chooses (clause 5.2.1)
abbrev pub part_value : ℕ → ℕ → Axis → Store → List Digit → List Digit
part_value signal width axis store index = bits_value (place_of axis width index) width (word_of store signal 0)

-- whether a signal has a word, of this size and number
pub record IsWordOf (signals : List Signal) (signal word number width : ℕ) : Type 0 where
  pub declared : Signal
  pub at : slice_get signals signal ≡ Some declared
  pub below : word < declared.count
  pub numbered : number ≡ words_before signals signal + word
  pub wide : width ≡ declared.width

-- whether an array has the words of a signal
pub record IsArrayOf (signals : List Signal) (signal : ℕ) (array : Array) : Type 0 where
  pub declared : Signal
  pub at : slice_get signals signal ≡ Some declared
  pub first : array.first ≡ words_before signals signal
  pub count : array.count ≡ declared.count
  pub width : array.width ≡ declared.width

-- whether an array has the words of another one, counted from the first one up or from the last one down
pub record IsCounting (b a : Array) (falling : Bool) : Type 0 where
  pub first : b.first ≡ a.first
  pub count : b.count ≡ a.count
  pub width : b.width ≡ a.width
  pub falls : b.falls ≡ falling

-- whether two indices choose a whole one of the words that an array has, by the first one
pub record IsElementOf (signals : List Signal) (s : Selection) (low : Typed) (array : Array) : Type 0 where
  pub words : IsArrayOf signals s.signal array
  pub wide : s.width ≡ array.width
  pub lowest : (store : Store) (time : ℕ) → place_of s.bits s.width (value_of low store time) ≡ pos 0

-- whether two indices choose bits of the first word that an array has, by the second one
pub record IsBitsOf (signals : List Signal) (s : Selection) (word : Typed) (array : Array) : Type 0 where
  pub words : IsArrayOf signals s.signal array
  pub lowest : (store : Store) (time : ℕ) → place_of s.words 1 (value_of word store time) ≡ pos 0

-- whether sides take what stands on the left and on the right, of these sizes, as a link does
pub record AreSides (link : Link) (sides : Sides) (left right : ℕ) : Type 0 where
  pub operator : sides.operator ≡ link.operator
  pub signed : sides.signed ≡ link.signed
  pub left_is : (ds : List Digit) → length ds ≡ left → resized false sides.left ds ≡ left_side (sizing_of link.operator) link.width ds
  pub right_is : (ds : List Digit) → length ds ≡ right → resized false sides.right ds ≡ right_side (sizing_of link.operator) link.width ds
