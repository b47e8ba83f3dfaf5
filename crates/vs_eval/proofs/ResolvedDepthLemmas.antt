-- Depths of the parts of resolved expressions.
use Rattle.std.proofs.Common.{ℕ, max, List}
use denote.Param.Weighed.{most}
use Rattle.vs_eval.specs.declared.node.Node.{Node, size-Node}
use Rattle.vs_eval.specs.declared.node.Sides.{Sides}
use Rattle.vs_eval.specs.declared.node.Size.{Size}

-- the depth of the deepest of operands after operators
abbrev pub links_depth : List (Sides × Node) → ℕ
links_depth ls = most (λ (l : Sides × Node). max 0 (max (size-Node l.1) 0)) ls

-- that of the deepest of parts with their sizes
abbrev pub sized_depth : List (Size × Node) → ℕ
sized_depth ps = most (λ (p : Size × Node). max 0 (max (size-Node p.1) 0)) ps
