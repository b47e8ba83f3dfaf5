-- What stands in a scope: items, with regions dissolved, generate constructs and named blocks.
use Rattle.std.specs.Prelude.{ℕ, List, [], ◌∷◌, ◌++◌, Option, None, Some, map}
use Rattle.std.specs.List.{flat_map}
use Rattle.std.specs.Option.{option_map}
use Rattle.std.specs.declared.boxed.Box.{Box}
use Rattle.std.specs.declared.vec.Vec.{Vec}
use Rattle.std.specs.declared.alloc.Global.{Global}
use Rattle.vs_syntax.specs.declared.tree.Expr.{Expr}
use Rattle.vs_syntax.specs.declared.tree.CaseLabel.{CaseLabel}
use Rattle.vs_syntax.specs.declared.tree.LocalDeclaration.{LocalDeclaration}
use Rattle.vs_syntax.specs.declared.tree.Stmt.{Stmt}
use Rattle.vs_syntax.specs.declared.tree.Stmt.TheOpen.{Stmt-F}
use Rattle.vs_syntax.specs.declared.tree.Stmt.TheOpen as f
use Rattle.vs_syntax.specs.declared.tree.Stmt.TheFolds.{fold-Stmt}
use Rattle.vs_syntax.specs.declared.tree.Stmt.TheViews.{out-Stmt}
use Rattle.vs_syntax.specs.declared.tree.Item.{Item}
use Rattle.vs_syntax.specs.declared.tree.Item.TheVariants as i
use Rattle.vs_syntax.specs.declared.tree.LoopHeader.{LoopHeader}
use Rattle.vs_syntax.specs.declared.tree.ModuleItem.{ModuleItem}
use Rattle.vs_syntax.specs.declared.tree.ModuleItem.TheOpen.{ModuleItem-F}
use Rattle.vs_syntax.specs.declared.tree.ModuleItem.TheOpen as m
use Rattle.vs_syntax.specs.declared.tree.ModuleItem.TheFolds.{fold-ModuleItem}
use Rattle.vs_syntax.specs.declared.tree.ModuleItem.TheViews.{out-ModuleItem}

-- what functions give of values, one each
abbrev pub each_of : {A B : Type 0} → List (A → List B) → List A → List B
each_of [] xs = []
each_of (g ∷ gs) [] = []
each_of (g ∷ gs) (x ∷ xs) = g x ++ each_of gs xs

-- ---- named blocks

-- a named block: its name, what it declares, and its statements (clause 9.8.3)
pub record NamedBlock : Type 0 where
  pub name : List ℕ
  pub locals : List LocalDeclaration
  pub statements : List Stmt

-- what a function gives of the statement behind `else`, where there is one
abbrev pub else_of : {B : Type 0} → Option (Box (Stmt → List B) Global) → Option (Box Stmt Global) → List B
else_of (Some g) (Some x) = g.value x.value
else_of _ _ = []

-- one layer of a statement: its outermost named blocks, by what gives those of each inner statement in its place
abbrev pub blocks_step : Stmt-F (Stmt → List NamedBlock) → Stmt-F Stmt → List NamedBlock
blocks_step (f.Block gs) (f.Block xs) = each_of gs.items xs.items
blocks_step (f.Named n ls gs) (f.Named n' ls' xs) = record { name = n'.items; locals = ls'.items; statements = xs.items } ∷ []
blocks_step (f.If e g h) (f.If e' x o) = g.value x.value ++ else_of h o
blocks_step (f.Case k e gs) (f.Case k' e' xs) =
    each_of (map (λ (g : CaseLabel × (Stmt → List NamedBlock)). g.1) gs.items) (map (λ (x : CaseLabel × Stmt). x.1) xs.items)
blocks_step (f.For k g) (f.For k' x) = g.value x.value
blocks_step (f.While e g) (f.While e' x) = g.value x.value
blocks_step (f.Repeat e g) (f.Repeat e' x) = g.value x.value
blocks_step (f.Forever g) (f.Forever x) = g.value x.value
blocks_step (f.Delay d g) (f.Delay d' x) = g.value x.value
blocks_step (f.Event v g) (f.Event v' x) = g.value x.value
blocks_step _ _ = []

-- the outermost named blocks of a statement, in the order of the text (clause 9.8.3)
abbrev pub blocks_in : Stmt → List NamedBlock
blocks_in x = fold-Stmt (Stmt → List NamedBlock) (λ l y. blocks_step l (out-Stmt y)) x x

-- the outermost named blocks of statements, in the order of the text
abbrev pub blocks_among : List Stmt → List NamedBlock
blocks_among xs = flat_map blocks_in xs

-- the outermost named blocks of the process of an item (clauses 9.8.3 and 9.9)
abbrev pub blocks_of : Item → List NamedBlock
blocks_of (i.Initial x) = blocks_in x
blocks_of (i.Always x) = blocks_in x
blocks_of _ = []

-- ---- generate constructs

-- a part of a scope: an item, or a generate construct with what it generates (clause 12.4); in a named block, a declaration, or a named block inside
-- (clause 9.8.3); or an implicit net of a name, which stands before the item that uses it first (clause 4.5)
pub data Piece : Type 0 where
  plain : Item → Piece
  loop : LoopHeader → ModuleItem → Piece
  choice : Expr → ModuleItem → Option ModuleItem → Piece
  local : LocalDeclaration → Piece
  inside : NamedBlock → Piece
  net : List ℕ → Piece

-- a value in a box, where there is one
abbrev pub unboxed : {A : Type 0} → Option (Box A Global) → Option A
unboxed {A = A} o = option_map (λ (b : Box A Global). b.value) o

-- one layer of a module item: its pieces, by what gives those of each inner one in its place; what a construct generates is none of them
abbrev pub pieces_step : ModuleItem-F (ModuleItem → List Piece) → ModuleItem-F ModuleItem → List Piece
pieces_step (m.Plain y) (m.Plain x) = plain x ∷ []
pieces_step (m.Region gs) (m.Region xs) = each_of gs.items xs.items
pieces_step (m.For k g) (m.For h x) = loop h x.value ∷ []
pieces_step (m.If c g h) (m.If e x o) = choice e x.value (unboxed o) ∷ []
pieces_step _ _ = []

-- the pieces of a module item: a region is no scope (clause 12.4)
abbrev pub pieces_in : ModuleItem → List Piece
pieces_in x = fold-ModuleItem (ModuleItem → List Piece) (λ l y. pieces_step l (out-ModuleItem y)) x x

-- the pieces of module items, in the order of the text
abbrev pub pieces_of : List ModuleItem → List Piece
pieces_of xs = flat_map pieces_in xs

-- the pieces of a named block: its declarations, then the named blocks in its statements (clause 9.8.3)
abbrev pub block_pieces : NamedBlock → List Piece
block_pieces b = map local b.locals ++ map inside (blocks_among b.statements)

-- what a generate construct generates in a turn or a branch: nothing; or a block, of its name, where it has one, and its items (clauses 12.4.1 and
-- 12.4.2)
pub data Content : Type 0 where
  nothing : Content
  block : Option (List ℕ) → List ModuleItem → Content

-- a name, where there is one
abbrev pub name_given : Option (Vec ℕ Global) → Option (List ℕ)
name_given o = option_map (λ (n : Vec ℕ Global). n.items) o

-- what one layer of a module item is behind `for`, `if` or `else`: an item that is no block is a block of its own, without a name
abbrev pub content_step : ModuleItem-F ModuleItem → ModuleItem → Content
content_step m.Null x = nothing
content_step (m.Block n xs) x = block (name_given n) xs.items
content_step _ x = block None (x ∷ [])

-- what a module item is behind `for`, `if` or `else` (clauses 12.4.1 and 12.4.2)
abbrev pub content_of : ModuleItem → Content
content_of x = content_step (out-ModuleItem x) x

-- the name of a block, where it has one
abbrev pub block_name : Content → List (List ℕ)
block_name nothing = []
block_name (block None xs) = []
block_name (block (Some n) xs) = n ∷ []

-- the names behind `else`, where it stands
abbrev pub else_names : Option (Box (List (List ℕ)) Global) → List (List ℕ)
else_names None = []
else_names (Some ns) = ns.value

-- one layer of a branch of an `if`: the names of the blocks that it may generate. An `if` without `begin` belongs to the one before it (clause 12.4.2; profile).
abbrev pub names_step : ModuleItem-F (List (List ℕ)) → List (List ℕ)
names_step (m.If e ns o) = ns.value ++ else_names o
names_step (m.Block (Some n) xs) = n.items ∷ []
names_step _ = []

-- the names of the blocks that a branch of an `if` may generate
abbrev pub branch_names : ModuleItem → List (List ℕ)
branch_names = fold-ModuleItem (List (List ℕ)) names_step

-- the names of the blocks that stand behind `else`
abbrev pub other_names : Option ModuleItem → List (List ℕ)
other_names None = []
other_names (Some x) = branch_names x
