-- The values of resolved expressions.
use Rattle.std.specs.Prelude.{ℕ, suc, ◌+◌, ◌-◌, ◌/◌, ◌^◌, ◌&&◌, ◌==◌, Bool, nat_lt, if◌then◌else◌, List, [], ◌∷◌, map, take}
use Rattle.vs_design.specs.vs_logic4.specs.declared.digit.Digit.{Digit}
use Rattle.vs_design.specs.vs_logic4.specs.declared.digit.Digit.TheVariants.{Zero, One, X, Z}
use Rattle.vs_design.specs.vs_logic4.specs.declared.operators.Unary.{Unary}
use Rattle.vs_design.specs.vs_logic4.specs.Bitwise.{merged}
use Rattle.vs_design.specs.vs_logic4.specs.Comparisons.{truth}
use Rattle.vs_design.specs.vs_logic4.specs.Operators.{unary, binary}
use Rattle.vs_design.specs.vs_logic4.specs.Parts.{replication, selected}
use Rattle.vs_design.specs.vs_logic4.specs.Planes.{digits_of_planes}
use Rattle.vs_design.specs.vs_logic4.specs.Vectors.{all_unknown, resized}
use Rattle.vs_design.specs.declared.expression.Count.{Count}
use Rattle.vs_design.specs.InOrder.{numbered_word}
use Rattle.vs_design.specs.Selects.{place_of, word_place}
use Rattle.vs_design.specs.Stores.{Store}
use Rattle.vs_eval.specs.Values.{concatenated, value_of}
use Rattle.vs_eval.specs.declared.node.Array.{Array}
use Rattle.vs_eval.specs.declared.node.Change.{Change}
use Rattle.vs_eval.specs.declared.node.Field.{Field}
use Rattle.vs_eval.specs.declared.node.Index.{Index}
use Rattle.vs_eval.specs.declared.node.Range.{Range}
use Rattle.vs_eval.specs.declared.node.Node.{Node, Node-F, fold-Node}
use Rattle.vs_eval.specs.declared.node.Node.TheOpen as n
use Rattle.vs_eval.specs.declared.node.Planes.{Planes}
use Rattle.vs_eval.specs.declared.node.Sides.{Sides}
use Rattle.vs_eval.specs.declared.node.Size.{Size}
use Rattle.vs_eval.specs.PlanesOf.{planes_of, digits_of}

-- the planes of the word of a number; past the end both are empty
abbrev pub word_planes : Store → ℕ → Planes
word_planes store number = planes_of (numbered_word store number)

-- so many bits of planes from a place on
abbrev pub planes_from : ℕ → ℕ → Planes → Planes
planes_from low width p = planes_of (digits_of_planes width (p.value / 2 ^ low) (p.unknown / 2 ^ low))

-- bits of a word
abbrev pub field_planes : Field → Store → Planes
field_planes f store = planes_from f.low f.width (word_planes store f.number)

-- the number of the element that an index of this value counts among so many, from the first one up or from the last one down
abbrev pub counted : Bool → ℕ → ℕ → ℕ
counted falls n value = if falls then n - suc value else value

-- the word that the value of an index counts; x where there is no such word
abbrev pub element_planes : Array → Planes → Store → Planes
element_planes a index store =
    if (index.unknown == 0) && nat_lt index.value a.count
    then word_planes store (a.first + counted a.falls a.count index.value)
    else planes_of (all_unknown a.width)

-- the bit that the value of an index counts; x where there is no such bit
abbrev pub bit_planes : Array → Planes → Store → Planes
bit_planes a index store =
    if (index.unknown == 0) && nat_lt index.value a.width
    then planes_from (counted a.falls a.width index.value) 1 (word_planes store a.first)
    else planes_of (all_unknown 1)

-- the word of a number among those of an array; x where there is no such word
abbrev pub nth_planes : Array → ℕ → Store → Planes
nth_planes a n store = if nat_lt n a.count then word_planes store (a.first + n) else planes_of (all_unknown a.width)

-- the word that any index chooses
abbrev pub indexed_planes : Array → Index → Planes → Store → Planes
indexed_planes a i p store = nth_planes a (word_place i.axis (digits_of i.size p)) store

-- the bits of the first word that any index chooses
abbrev pub ranged_planes : Array → Range → Planes → Store → Planes
ranged_planes a r p store =
    planes_of (selected (place_of r.index.axis r.width (digits_of r.index.size p)) r.width (digits_of a.width (word_planes store a.first)))

-- what an operator gives of an operand of this size
abbrev pub unary_planes : Unary → Size → Planes → Planes
unary_planes operator size p = planes_of (unary operator (digits_of size.width p))

-- what an operator gives of what stands on its left and on its right
abbrev pub combined : Planes → Sides × Planes → Planes
combined left l = planes_of (binary l.0.operator l.0.signed (digits_of l.0.left left) (digits_of l.0.right l.1))

-- what operands and the operators between them give, from left to right
abbrev pub chained : Planes → List (Sides × Planes) → Planes
chained first [] = first
chained first (l ∷ ls) = chained (combined first l) ls

-- what `?:` gives of two operands of one size by the truth of its condition
abbrev pub chosen : Digit → Size → Planes → Planes → Planes
chosen One size value other = value
chosen Zero size value other = other
chosen X size value other = planes_of (merged (digits_of size.width value) (digits_of size.width other))
chosen Z size value other = planes_of (merged (digits_of size.width value) (digits_of size.width other))

-- a value brought to another size
abbrev pub changed_planes : Change → Planes → Planes
changed_planes c p = planes_of (resized c.signed c.to (digits_of c.from p))

-- what parts of their sizes give, the first of them the highest, cut to the lowest 64 bits
abbrev pub joined : Size → Planes → List (Size × Planes) → Planes
joined size first parts = planes_of (concatenated (digits_of size.width first) (map (λ p. digits_of p.0.width p.1) parts))

-- what an operand of this size gives that is repeated, cut to the lowest 64 bits
abbrev pub repeated : Count → Size → Planes → Planes
repeated n size p = planes_of (take 64 (replication n.times (digits_of size.width p)))

-- one layer of a resolved expression: its planes in a store at a time, with those of each inner one in its place
abbrev pub planes_step : Store → ℕ → Node-F Planes → Planes
planes_step store time (n.Number p) = p
planes_step store time (n.Word number) = word_planes store number
planes_step store time (n.Bits field) = field_planes field store
planes_step store time (n.Element array x) = element_planes array x.value store
planes_step store time (n.Bit array x) = bit_planes array x.value store
planes_step store time (n.Indexed array index x) = indexed_planes array index.value x.value store
planes_step store time (n.Ranged array range x) = ranged_planes array range.value x.value store
planes_step store time (n.Unary operator size x) = unary_planes operator size x.value
planes_step store time (n.Two sides x y) = combined x.value (sides, y.value)
planes_step store time (n.Chain x links) = chained x.value links.items
planes_step store time (n.If size width c x y) = chosen (truth (digits_of size.width c.value)) width x.value y.value
planes_step store time (n.Resized change x) = changed_planes change x.value
planes_step store time (n.Concat size x parts) = joined size x.value parts.items
planes_step store time (n.Repeat count size x) = repeated count size x.value
planes_step store time (n.Other e) = planes_of (value_of e.value store time)

-- the planes of a resolved expression in a store at a time in ticks
abbrev pub planes_in : Node → Store → ℕ → Planes
planes_in node store time = fold-Node Planes (planes_step store time) node
