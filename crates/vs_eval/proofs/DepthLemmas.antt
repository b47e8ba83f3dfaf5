-- Depths of the parts of expressions.
use Rattle.std.proofs.Common.{ℕ, max, List}
use denote.Param.Weighed.{most}
use Rattle.vs_design.specs.declared.expression.Link.{Link}
use Rattle.vs_design.specs.declared.expression.Typed.{Typed, size-Typed}

-- the depth of the deepest of some expressions
abbrev pub parts_depth : List Typed → ℕ
parts_depth es = most size-Typed es

-- that of the deepest behind operators
abbrev pub links_depth : List (Link × Typed) → ℕ
links_depth ls = most (λ (l : Link × Typed). max 0 (max (size-Typed l.1) 0)) ls

-- that of the deepest among conditions and the operands behind them
abbrev pub pairs_depth : List (Typed × Typed) → ℕ
pairs_depth ps = most (λ (p : Typed × Typed). max (size-Typed p.0) (max (size-Typed p.1) 0)) ps
