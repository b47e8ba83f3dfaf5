-- Named blocks that have their scopes.
use Rattle.std.specs.Prelude.{◌≡◌, ℕ, List, Some, slice_get}
use Rattle.vs_syntax.specs.declared.tree.Stmt.{Stmt}
use Rattle.vs_elab_statements.specs.vs_widths.specs.Names.{meaning_of}
use Rattle.vs_scopes.specs.Pieces.{NamedBlock, blocks_among}
use Rattle.vs_elab_statements.specs.vs_elab_signals.specs.declared.opened.ElabScope.{ElabScope as FoundScope}

-- The named block of this name and these statements, which stands in the scope at a place of a list, has its scope there, found by its name, and so
-- has each named block in it (clause 9.8.3).
pub data HasScope (list : List FoundScope) : ℕ → List ℕ → List Stmt → Type 0 where
  stands : (place : ℕ) (name : List ℕ) (statements : List Stmt) (outer : FoundScope) (inner : ℕ) →
      slice_get list place ≡ Some outer → meaning_of outer.blocks name ≡ Some inner →
      ((k : ℕ) (x : NamedBlock) → slice_get (blocks_among statements) k ≡ Some x → HasScope list inner x.name x.statements) →
      HasScope list place name statements

-- so has each of these
abbrev pub HaveScopes : List FoundScope → ℕ → List NamedBlock → Type 0
HaveScopes list place bs = (k : ℕ) (x : NamedBlock) → slice_get bs k ≡ Some x → HasScope list place x.name x.statements
