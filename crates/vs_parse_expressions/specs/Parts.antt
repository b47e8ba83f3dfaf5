-- Parts of statements that were read.
use Rattle.std.specs.Prelude.{◌≡◌, ℕ, Bool, List, Option, None, Some, Result, Ok, Err}
use Rattle.std.specs.declared.boxed.Box.{Box}
use Rattle.std.specs.declared.alloc.Global.{Global}
use Rattle.vs_syntax.specs.vs_lexer.specs.declared.token.Token.{Token}
use Rattle.vs_syntax.specs.vs_lexer.specs.declared.token.Mark.{Mark}
use Rattle.vs_syntax.specs.vs_lexer.specs.declared.token.Mark.TheVariants as m
use Rattle.vs_syntax.specs.vs_lexer.specs.declared.token.Word.TheVariants as w
use Rattle.vs_syntax.specs.Symbols.{Symbol, a_mark, a_word}
use Rattle.vs_syntax.specs.Grammar.{Grammar}
use Rattle.vs_syntax.specs.Derivation.{Tree, empty, leaf, both, down}
use Rattle.vs_syntax.specs.Reading.{Gets, Stuck}
use Rattle.vs_syntax.specs.Views.{expr_tree, left_tree, labelled_tree, stmt_tree}
use Rattle.vs_syntax.specs.declared.tree.CaseLabel.{CaseLabel}
use Rattle.vs_syntax.specs.declared.tree.Expr.{Expr}
use Rattle.vs_syntax.specs.declared.tree.Left.{Left}
use Rattle.vs_syntax.specs.declared.tree.Stmt.{Stmt}
use Rattle.vs_parse_expressions.specs.declared.reading.Parsed.{Parsed}
use Rattle.vs_parse_expressions.specs.declared.reading.ReadFault.{ReadFault}
use Rattle.vs_parse_expressions.specs.Answers.{seen, FailsToRead}

-- A part's tree is made of what was read behind its first symbol.
pub record Within {X : Type 0} (tree : X → Tree) (wrap : Tree → Tree) (g : Grammar) (depth : ℕ) (ts : List Symbol) (x : X)
    (rest : List Symbol) : Type 0 where
  pub inner : Tree
  pub whole : tree x ≡ wrap inner
  pub gets : Gets g depth ts inner rest

-- what stands behind the first symbol of a part, or why and where reading it stopped
abbrev pub ReadsWithin : {X : Type 0} → (X → Tree) → (Tree → Tree) → Grammar → ℕ → List Token → Result (Parsed X) ReadFault → Type 0
ReadsWithin tree wrap g depth ts (Ok r) = Within tree wrap g depth (seen ts) r.tree (seen r.rest.now)
ReadsWithin tree wrap g depth ts (Err e) = FailsToRead g depth (seen ts) e

-- The symbols up to the rest were read, so a part that is read next makes the whole.
pub record Beyond (a g : Grammar) (wrap : Tree → Tree) (depth : ℕ) (ts rest : List Symbol) : Type 0 where
  pub reads : (y : Tree) (at : List Symbol) → Gets a depth rest y at → Gets g depth ts (wrap y) at
  pub stops : (deep : Bool) (at : List Symbol) → Stuck a depth deep rest at → Stuck g depth deep ts at

-- what stands before a part, or why and where reading it stopped
abbrev pub Leads : {X : Type 0} → Grammar → Grammar → (X → Tree → Tree) → ℕ → List Token → Result (Parsed X) ReadFault → Type 0
Leads a g wrap depth ts (Ok r) = Beyond a g (wrap r.tree) depth (seen ts) (seen r.rest.now)
Leads a g wrap depth ts (Err e) = FailsToRead g depth (seen ts) e

-- a statement behind its first symbol
abbrev pub headed : Symbol → Tree → Tree
headed s x = down (both (leaf s) x)

-- a mark, and what stands behind it
abbrev pub marked : Mark → Tree → Tree
marked sign y = both (leaf (a_mark sign)) y

-- two sides of an assignment
abbrev pub sides_tree : Left × Expr → Tree
sides_tree x = both (left_tree x.0) (marked m.Assign (expr_tree x.1))

-- a statement in a box
abbrev pub boxed_tree : Box Stmt Global → Tree
boxed_tree x = stmt_tree x.value

-- the statement behind `else`, where there is one
abbrev pub other_tree : Option (Box Stmt Global) → Tree
other_tree None = empty
other_tree (Some x) = both (leaf (a_word w.Else)) (boxed_tree x)

-- an item of a `case` statement
abbrev pub labelled_stmt_tree : CaseLabel × Stmt → Tree
labelled_stmt_tree x = labelled_tree x.0 (stmt_tree x.1)
