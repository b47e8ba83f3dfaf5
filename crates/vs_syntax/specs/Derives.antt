-- Which source tokens derive, and which tokens begin one.
use Rattle.std.specs.Prelude.{◌≡◌, ℕ, ◌≤◌, List, [], ◌++◌}
use Rattle.vs_syntax.specs.Symbols.{Symbol}
use Rattle.vs_syntax.specs.Grammar.{part, a_source}
use Rattle.vs_syntax.specs.Derivation.{Tree, tokens, height, Is}
use Rattle.vs_syntax.specs.Views.{source_tree}
use Rattle.vs_syntax.specs.declared.tree.Source.{Source}

-- The tree is one of a source, of at most this nesting.
pub record IsSource (most : ℕ) (x : Tree) : Type 0 where
  pub is : Is (part a_source) x []
  pub nesting : height x ≤ most

-- The symbols derive the source, of a nesting of at most 256.
pub record Derives (ts : List Symbol) (s : Source) : Type 0 where
  pub source : IsSource 256 (source_tree s)
  pub text : ts ≡ tokens (source_tree s)

-- The symbols begin a source of at most this nesting.
pub record BeginsSource (most : ℕ) (ts : List Symbol) : Type 0 where
  pub tree : Tree
  pub tail : List Symbol
  pub source : IsSource most tree
  pub text : tokens tree ≡ ts ++ tail
