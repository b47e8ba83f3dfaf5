-- The size, the sign and the value of an expression of a source.
use Rattle.std.specs.Prelude.{ℕ, Bool, true, false, List, [], ◌∷◌, ◌++◌, Option, Some, None, length, map, take}
use Rattle.vs_design.specs.vs_logic4.specs.declared.digit.Digit.{Digit}
use Rattle.vs_design.specs.vs_logic4.specs.declared.operators.Unary.{Unary}
use Rattle.vs_design.specs.vs_logic4.specs.declared.operators.Binary.{Binary}
use Rattle.vs_design.specs.vs_logic4.specs.declared.operators.Sizing.{Sizing}
use Rattle.vs_design.specs.vs_logic4.specs.declared.operators.Sizing.TheVariants.{Alike, Shift, Comparison, Logical}
use Rattle.vs_design.specs.vs_logic4.specs.Operators.{unary, gives_bit, sizing_of}
use Rattle.vs_design.specs.vs_logic4.specs.Vectors.{resized}
use Rattle.vs_design.specs.vs_logic4.specs.Parts.{replication}
use Rattle.vs_syntax.specs.vs_lexer.specs.declared.token.Literal.{Literal}
use Rattle.vs_syntax.specs.declared.tree.Expr.{Expr}
use Rattle.vs_syntax.specs.declared.tree.Expr.TheOpen.{Expr-F}
use Rattle.vs_syntax.specs.declared.tree.Expr.TheOpen as f
use Rattle.vs_syntax.specs.declared.tree.Expr.TheFolds.{fold-Expr}
use Rattle.vs_syntax.specs.declared.tree.PartSelect.{PartSelect}
use Rattle.vs_design.specs.declared.range.BitRange.{BitRange}
use Rattle.vs_design.specs.declared.signal.Bounds.{Bounds}
use Rattle.vs_design.specs.Stores.{Store, word_of}
use Rattle.vs_design.specs.Uses.{whole, joined}
use Rattle.vs_widths.specs.vs_eval.specs.Values.{operand_value, chosen, concatenated}
use Rattle.vs_widths.specs.Operations.{operated}
use Rattle.vs_widths.specs.declared.shape.Shape.{Shape}
use Rattle.vs_widths.specs.declared.bindings.Binding.{Binding}
use Rattle.vs_widths.specs.declared.bindings.Binding.TheVariants.{Signal, Constant, Pending, Other, Genvar}
use Rattle.vs_widths.specs.Environment.{Environment}
use Rattle.vs_widths.specs.Findings.{Finding, Has, Lacks, unknown, wrong_kind, not_constant, together, alone, alike, linked_shape, second, beside, repeated, at_found}
use Rattle.vs_widths.specs.Layers.{Layer, name, other, brought, operator_layer}
use Rattle.vs_widths.specs.Meants.{Meant, own}
use Rattle.vs_widths.specs.Constants.{natural_of, positive, count_finding}
use Rattle.vs_widths.specs.Selects.{Select, size_found, select_meant}

-- ---- names

-- the size and sign of a signal that is no array; an array has no value without a select (clauses 4.9 and 5.2.2)
abbrev pub signal_finding : Option Bounds → Shape → Finding
signal_finding None s = Has s.width s.signed
signal_finding (Some words) s = Lacks wrong_kind

-- the size and sign of the signal or the constant of a name (clauses 12.2 and 12.7)
abbrev pub name_finding : Option Binding → Finding
name_finding None = Lacks unknown
name_finding (Some (Signal m signal)) = signal_finding m.words m.shape
name_finding (Some (Constant c)) = Has (length c.value) c.signed
name_finding (Some Pending) = Lacks not_constant
name_finding (Some Other) = Lacks wrong_kind
name_finding (Some Genvar) = Lacks wrong_kind

-- what a name reads: the whole of its signal, and nothing where it has none
abbrev pub name_reads : Option Binding → List BitRange
name_reads (Some (Signal m signal)) = whole signal ∷ []
name_reads _ = []

-- the value of the signal or the constant of a name, at the size and with the sign of its context (clause 5.5.2)
abbrev pub name_value : Option Binding → Store → ℕ → ℕ → Bool → List Digit
name_value (Some (Signal m signal)) store time width signed = operand_value signed width (word_of store signal 0)
name_value (Some (Constant c)) store time width signed = resized signed width c.value
name_value _ store time width signed = []

-- what is outermost in a name, at the size of its context
abbrev pub name_layer : Option Binding → ℕ → Layer
name_layer (Some (Signal m signal)) width = name signal width
name_layer _ width = other

-- ---- operators of one operand

-- the size and sign of the result, at those of the operand: one bit where the operator gives one (clause 5.4.1)
abbrev pub unary_finding : Bool → Finding → Finding
unary_finding true found = alone (λ width signed. Has 1 false) found
unary_finding false found = found

-- the value of the result: an operator that gives one bit takes its operand at its own size (clauses 5.1 and 5.4.1)
abbrev pub unary_value : Bool → Unary → Meant → Store → ℕ → ℕ → Bool → List Digit
unary_value true op m store time width signed = resized signed width (unary op (own m store time))
unary_value false op m store time width signed = unary op (m.at store time width signed)

-- what is outermost in the result: an operator that gives one bit takes its operand at its own size, and is brought to its context
abbrev pub unary_layer : Bool → Unary → Meant → ℕ → Layer
unary_layer true op m width = brought width (operator_layer op (m.layer (size_found m.finding)))
unary_layer false op m width = operator_layer op (m.layer width)

-- ---- operators of two operands

-- the value of the result: operands of one context have its size and sign, those of a comparison their own larger size and common sign, a
-- shift's amount and the sides of `&&` and `||` their own (clauses 5.4.1 and 5.5.1)
abbrev pub linked_value : Sizing → Binary → Meant → Meant → Store → ℕ → ℕ → Bool → List Digit
linked_value Alike op a b store time width signed = operated op width signed (a.at store time width signed) (b.at store time width signed)
linked_value Shift op a b store time width signed = operated op width signed (a.at store time width signed) (own b store time)
linked_value Comparison op a b store time width signed =
    resized signed width (
    at_found (together alike a.finding b.finding)
    (λ size sign. operated op size sign (a.at store time size sign) (b.at store time size sign))
    )
linked_value Logical op a b store time width signed = resized signed width (operated op 1 false (own a store time) (own b store time))

-- what stands on the left of an operator, with the operator and its right operand
abbrev pub linked_meant : Meant → Binary × Meant → Meant
linked_meant a l = record {
  finding = together (linked_shape (sizing_of l.0)) a.finding l.1.finding;
  reads = a.reads ++ l.1.reads;
  at = linked_value (sizing_of l.0) l.0 a l.1;
  layer = λ width. other;
}

-- operands with operators between them, from left to right (clause 5.1.2)
abbrev pub chain_meant : Meant → List (Binary × Meant) → Meant
chain_meant first [] = first
chain_meant first (l ∷ ls) = chain_meant (linked_meant first l) ls

-- ---- `?:`

-- a size and sign with those of operands behind conditions, of which each has a size of its own (clauses 5.4.1 and 5.5.1)
abbrev pub choice_finding : Finding → List (Meant × Meant) → Finding
choice_finding found [] = found
choice_finding found (p ∷ ps) = choice_finding (together second p.0.finding (together alike found p.1.finding)) ps

-- `c ? v : .. : last` (clause 5.1.13)
abbrev pub choice_meant : List (Meant × Meant) → Meant → Meant
choice_meant pairs last = record {
  finding = choice_finding last.finding pairs;
  reads = joined (map (λ (p : Meant × Meant). p.0.reads ++ p.1.reads) pairs) ++ last.reads;
  at = λ store time width signed.
      chosen (map (λ (p : Meant × Meant). (own p.0 store time, p.1.at store time width signed)) pairs) (last.at store time width signed);
  layer = λ width. other;
}

-- ---- concatenations

-- the sum of the sizes of parts (clause 5.4.1)
abbrev pub sum_finding : Finding → List Meant → Finding
sum_finding found [] = found
sum_finding found (m ∷ ms) = sum_finding (together beside found m.finding) ms

-- the digits of parts, each at its own size, the first of them the highest (clause 5.1.14)
abbrev pub joined_value : Meant → List Meant → Store → ℕ → List Digit
joined_value first rest store time = concatenated (own first store time) (map (λ (m : Meant). own m store time) rest)

-- `{first, ..}` (clause 5.1.14)
abbrev pub concat_meant : Meant → List Meant → Meant
concat_meant first rest = record {
  finding = sum_finding (alone (λ width signed. Has width false) first.finding) rest;
  reads = first.reads ++ joined (map (λ (m : Meant). m.reads) rest);
  at = λ store time width signed. resized signed width (joined_value first rest store time);
  layer = λ width. other;
}

-- ---- replications

-- digits so many times; none where the number isn't known (clause 5.1.14)
abbrev pub repeated_value : Option ℕ → List Digit → List Digit
repeated_value None digits = []
repeated_value (Some count) digits = take 64 (replication count digits)

-- `{count{first, ..}}`; the count reads nothing (clause 5.1.14)
abbrev pub repeat_meant : Meant → Meant → List Meant → Meant
repeat_meant count first rest = record {
  finding =
      together (λ size sign width signed. repeated (positive (natural_of count)) width) (count_finding count)
      (concat_meant first rest).finding;
  reads = (concat_meant first rest).reads;
  at = λ store time width signed.
      resized signed width (repeated_value (positive (natural_of count)) (joined_value first rest store time));
  layer = λ width. other;
}

-- ---- expressions

-- digits that are a number of this sign (clause 5.5.1)
abbrev pub digits_meant : List Digit → Bool → Meant
digits_meant value sign = record {
  finding = Has (length value) sign;
  reads = [];
  at = λ store time width signed. resized signed width value;
  layer = λ width. other;
}

-- a number (clauses 3.5.1 and 5.5.1)
abbrev pub number_meant : Literal → Meant
number_meant l = digits_meant l.value l.signed

-- a name (clause 12.7)
abbrev pub name_meant : Option Binding → Meant
name_meant b = record { finding = name_finding b; reads = name_reads b; at = name_value b; layer = name_layer b }

-- an operator and its operand
abbrev pub unary_meant : Unary → Meant → Meant
unary_meant op x = record {
  finding = unary_finding (gives_bit op) x.finding;
  reads = x.reads;
  at = unary_value (gives_bit op) op x;
  layer = unary_layer (gives_bit op) op x;
}

-- `$signed(x)` or `$unsigned(x)` (clause 5.5)
abbrev pub cast_meant : Bool → Meant → Meant
cast_meant sign x = record {
  finding = alone (λ width signed. Has width sign) x.finding;
  reads = x.reads;
  at = λ store time width signed. resized signed width (own x store time);
  layer = λ width. brought width (x.layer (size_found x.finding));
}

-- one layer of an expression, with what each inner expression means in its place
abbrev pub meant_step : Environment → Expr-F Meant → Meant
meant_step env (f.Number l) = number_meant l
meant_step env (f.Name n) = name_meant (env n.items)
meant_step env (f.Select n ss) = select_meant (env n.items) ss.items
meant_step env (f.Group x) = x.value
meant_step env (f.Unary op x) = unary_meant op x.value
meant_step env (f.Chain x links) = chain_meant x.value links.items
meant_step env (f.Choice pairs last) = choice_meant pairs.items last.value
meant_step env (f.Concat x rest) = concat_meant x.value rest.items
meant_step env (f.Repeat count x rest) = repeat_meant count.value x.value rest.items
meant_step env (f.Cast sign x) = cast_meant sign x.value

-- what an expression means, by its form (clauses 5.1, 5.4 and 5.5)
abbrev pub meant : Environment → Expr → Meant
meant env = fold-Expr Meant (meant_step env)

-- what a select means
abbrev pub meant_select : Environment → Expr × Option (PartSelect × Expr) → Select
meant_select env (e, None) = (meant env e, None)
meant_select env (e, Some (how, m)) = (meant env e, Some (how, meant env m))

-- what the selects behind a name mean
abbrev pub meant_selects : Environment → List (Expr × Option (PartSelect × Expr)) → List Select
meant_selects env ss = map (meant_select env) ss
