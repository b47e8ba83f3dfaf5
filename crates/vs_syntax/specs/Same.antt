-- When two syntax trees say the same: they differ at most in where their parts lie in memory.
use Rattle.std.specs.Prelude.{◌≡◌, ℕ, Bool, List, [], ◌∷◌, Option, None, Some}
use Rattle.std.specs.declared.vec.Vec.{Vec}
use Rattle.std.specs.declared.boxed.Box.{Box}
use Rattle.std.specs.declared.alloc.Global.{Global}
use Rattle.vs_logic4.specs.declared.operators.Unary.{Unary}
use Rattle.vs_logic4.specs.declared.operators.Binary.{Binary}
use Rattle.vs_lexer.specs.declared.token.Literal.{Literal}
use Rattle.vs_syntax.specs.declared.tree.Expr.{Expr}
use Rattle.vs_syntax.specs.declared.tree.Expr.TheVariants as e
use Rattle.vs_syntax.specs.declared.tree.PartSelect.{PartSelect}
use Rattle.vs_syntax.specs.declared.tree.Left.{Left}
use Rattle.vs_syntax.specs.declared.tree.Left.TheVariants as l
use Rattle.vs_syntax.specs.declared.tree.Range.{Range}
use Rattle.vs_syntax.specs.declared.tree.Form.{Form}
use Rattle.vs_syntax.specs.declared.tree.Declarator.{Declarator}
use Rattle.vs_syntax.specs.declared.tree.NetAssignment.{NetAssignment}
use Rattle.vs_syntax.specs.declared.tree.ParameterForm.{ParameterForm}
use Rattle.vs_syntax.specs.declared.tree.ParameterForm.TheVariants as q
use Rattle.vs_syntax.specs.declared.tree.HeaderParameter.{HeaderParameter}
use Rattle.vs_syntax.specs.declared.tree.Constant.{Constant}
use Rattle.vs_syntax.specs.declared.tree.PortForm.{PortForm}
use Rattle.vs_syntax.specs.declared.tree.Port.{Port}
use Rattle.vs_syntax.specs.declared.tree.Connection.{Connection}
use Rattle.vs_syntax.specs.declared.tree.Connections.{Connections}
use Rattle.vs_syntax.specs.declared.tree.Connections.TheVariants as c
use Rattle.vs_syntax.specs.declared.tree.Instance.{Instance}
use Rattle.vs_logic4.specs.declared.case.CaseKind.{CaseKind}
use Rattle.vs_syntax.specs.declared.tree.DelayValue.{DelayValue}
use Rattle.vs_syntax.specs.declared.tree.DelayValue.TheVariants as d
use Rattle.vs_syntax.specs.declared.tree.Argument.{Argument}
use Rattle.vs_syntax.specs.declared.tree.Argument.TheVariants as a
use Rattle.vs_syntax.specs.declared.tree.PrintTask.{PrintTask}
use Rattle.vs_syntax.specs.declared.tree.PrintArguments.{PrintArguments}
use Rattle.vs_syntax.specs.declared.tree.PrintArguments.TheVariants as p
use Rattle.vs_syntax.specs.declared.tree.DumpTask.{DumpTask}
use Rattle.vs_syntax.specs.declared.tree.DumpArgument.{DumpArgument}
use Rattle.vs_syntax.specs.declared.tree.DumpArgument.TheVariants as u
use Rattle.vs_syntax.specs.declared.tree.Separator.{Separator}
use Rattle.vs_syntax.specs.declared.tree.EventExpr.{EventExpr}
use Rattle.vs_syntax.specs.declared.tree.EventControl.{EventControl}
use Rattle.vs_syntax.specs.declared.tree.EventControl.TheVariants as v
use Rattle.vs_syntax.specs.declared.tree.CaseLabel.{CaseLabel}
use Rattle.vs_syntax.specs.declared.tree.CaseLabel.TheVariants as n
use Rattle.vs_syntax.specs.declared.tree.ForHeader.{ForHeader}
use Rattle.vs_syntax.specs.declared.tree.Stmt.{Stmt}
use Rattle.vs_syntax.specs.declared.tree.Stmt.TheVariants as s
use Rattle.vs_syntax.specs.declared.tree.Local.{Local}
use Rattle.vs_syntax.specs.declared.tree.LocalDeclaration.{LocalDeclaration}
use Rattle.vs_syntax.specs.declared.tree.LocalDeclaration.TheVariants as g
use Rattle.vs_syntax.specs.declared.tree.LoopHeader.{LoopHeader}
use Rattle.vs_syntax.specs.declared.tree.ModuleItem.{ModuleItem}
use Rattle.vs_syntax.specs.declared.tree.ModuleItem.TheVariants as t
use Rattle.vs_syntax.specs.declared.tree.Item.{Item}
use Rattle.vs_syntax.specs.declared.tree.Item.TheVariants as i
use Rattle.vs_syntax.specs.declared.tree.Module.{Module}
use Rattle.vs_syntax.specs.declared.tree.Source.{Source}

mutual
  -- The expressions say the same: a name by its bytes, a literal by itself (profile).
  pub data SameExpr : Expr → Expr → Type 0 where
    same_number : (l : Literal) → SameExpr (e.Number l) (e.Number l)
    same_name : (n n' : Vec ℕ Global) → n.items ≡ n'.items → SameExpr (e.Name n) (e.Name n')
    same_select : (n n' : Vec ℕ Global) (ss ss' : Vec (Expr × Option (PartSelect × Expr)) Global) →
        n.items ≡ n'.items → SameSelects ss.items ss'.items → SameExpr (e.Select n ss) (e.Select n' ss')
    same_group : (x x' : Box Expr Global) → SameExpr x.value x'.value → SameExpr (e.Group x) (e.Group x')
    same_unary : (op : Unary) (x x' : Box Expr Global) → SameExpr x.value x'.value → SameExpr (e.Unary op x) (e.Unary op x')
    same_chain : (x x' : Box Expr Global) (ls ls' : Vec (Binary × Expr) Global) →
        SameExpr x.value x'.value → SameLinks ls.items ls'.items → SameExpr (e.Chain x ls) (e.Chain x' ls')
    same_choice : (ps ps' : Vec (Expr × Expr) Global) (x x' : Box Expr Global) →
        SamePairs ps.items ps'.items → SameExpr x.value x'.value → SameExpr (e.Choice ps x) (e.Choice ps' x')
    same_concat : (x x' : Box Expr Global) (xs xs' : Vec Expr Global) →
        SameExpr x.value x'.value → SameExprs xs.items xs'.items → SameExpr (e.Concat x xs) (e.Concat x' xs')
    same_repeat : (n n' x x' : Box Expr Global) (xs xs' : Vec Expr Global) → SameExpr n.value n'.value →
        SameExpr x.value x'.value → SameExprs xs.items xs'.items → SameExpr (e.Repeat n x xs) (e.Repeat n' x' xs')
    same_cast : (s : Bool) (x x' : Box Expr Global) → SameExpr x.value x'.value → SameExpr (e.Cast s x) (e.Cast s x')

  -- The same of selects: as many, each of them in its place (profile).
  pub data SameSelects : List (Expr × Option (PartSelect × Expr)) → List (Expr × Option (PartSelect × Expr)) → Type 0 where
    same_no_select : SameSelects [] []
    same_more_selects : (x x' : Expr × Option (PartSelect × Expr)) (xs xs' : List (Expr × Option (PartSelect × Expr))) →
        SameExpr x.0 x'.0 → SameSecond x.1 x'.1 → SameSelects xs xs' → SameSelects (x ∷ xs) (x' ∷ xs')

  -- The same of the second expression of a part-select, with what stands before it: none, or the same (profile).
  pub data SameSecond : Option (PartSelect × Expr) → Option (PartSelect × Expr) → Type 0 where
    same_no_second : SameSecond None None
    same_second : (x x' : PartSelect × Expr) → x.0 ≡ x'.0 → SameExpr x.1 x'.1 → SameSecond (Some x) (Some x')

  -- The same of operands, each with the operator before it: as many, each of them in its place (profile).
  pub data SameLinks : List (Binary × Expr) → List (Binary × Expr) → Type 0 where
    same_no_link : SameLinks [] []
    same_link : (l l' : Binary × Expr) (ls ls' : List (Binary × Expr)) →
        l.0 ≡ l'.0 → SameExpr l.1 l'.1 → SameLinks ls ls' → SameLinks (l ∷ ls) (l' ∷ ls')

  -- The same of conditions, each with the operand for it (profile).
  pub data SamePairs : List (Expr × Expr) → List (Expr × Expr) → Type 0 where
    same_no_pair : SamePairs [] []
    same_pair : (p p' : Expr × Expr) (ps ps' : List (Expr × Expr)) →
        SameExpr p.0 p'.0 → SameExpr p.1 p'.1 → SamePairs ps ps' → SamePairs (p ∷ ps) (p' ∷ ps')

  -- The same of expressions one after another (profile).
  pub data SameExprs : List Expr → List Expr → Type 0 where
    same_no_expr : SameExprs [] []
    same_more_exprs : (x x' : Expr) (xs xs' : List Expr) → SameExpr x x' → SameExprs xs xs' → SameExprs (x ∷ xs) (x' ∷ xs')

mutual
  -- The left sides say the same (profile).
  pub data SameLeft : Left → Left → Type 0 where
    same_place : (n n' : Vec ℕ Global) (ss ss' : Vec (Expr × Option (PartSelect × Expr)) Global) →
        n.items ≡ n'.items → SameSelects ss.items ss'.items → SameLeft (l.Name n ss) (l.Name n' ss')
    same_places : (x x' : Box Left Global) (xs xs' : Vec Left Global) →
        SameLeft x.value x'.value → SameLefts xs.items xs'.items → SameLeft (l.Concat x xs) (l.Concat x' xs')

  -- The same of left sides one after another (profile).
  pub data SameLefts : List Left → List Left → Type 0 where
    same_no_left : SameLefts [] []
    same_more_lefts : (x x' : Left) (xs xs' : List Left) → SameLeft x x' → SameLefts xs xs' → SameLefts (x ∷ xs) (x' ∷ xs')

-- Lists of one length whose elements are related, each with the one in its place (profile).
pub data Pairwise {A : Type 0} (R : A → A → Type 0) : List A → List A → Type 0 where
  no_pair : Pairwise R [] []
  pair_more : (x x' : A) (xs xs' : List A) → R x x' → Pairwise R xs xs' → Pairwise R (x ∷ xs) (x' ∷ xs')

-- The delays say the same (profile).
pub data SameDelay : DelayValue → DelayValue → Type 0 where
  same_delay_number : (l : Literal) → SameDelay (d.Number l) (d.Number l)
  same_delay_name : (n n' : Vec ℕ Global) → n.items ≡ n'.items → SameDelay (d.Name n) (d.Name n')
  same_delay_group : (x x' : Box Expr Global) → SameExpr x.value x'.value → SameDelay (d.Group x) (d.Group x')

-- The terms of event controls say the same (profile).
pub record SameEventExpr (x x' : EventExpr) : Type 0 where
  pub edge : x.edge ≡ x'.edge
  pub name : x.name.items ≡ x'.name.items
  pub selects : SameSelects x.selects.items x'.selects.items

-- The same of terms with what stands before them (profile).
pub record SameOtherEvent (x x' : Separator × EventExpr) : Type 0 where
  pub separator : x.0 ≡ x'.0
  pub event : SameEventExpr x.1 x'.1

-- The event controls wait for the same (profile).
pub data SameEvent : EventControl → EventControl → Type 0 where
  same_star : SameEvent v.Star v.Star
  same_grouped_star : SameEvent v.GroupedStar v.GroupedStar
  same_event_name : (n n' : Vec ℕ Global) → n.items ≡ n'.items → SameEvent (v.Name n) (v.Name n')
  same_terms : (x x' : Box EventExpr Global) (xs xs' : Vec (Separator × EventExpr) Global) →
      SameEventExpr x.value x'.value → Pairwise SameOtherEvent xs.items xs'.items → SameEvent (v.Terms x xs) (v.Terms x' xs')

-- What stands before the statements of `case` items is the same (profile).
pub data SameLabel : CaseLabel → CaseLabel → Type 0 where
  same_expressions : (x x' : Expr) (xs xs' : Vec Expr Global) →
      SameExpr x x' → SameExprs xs.items xs'.items → SameLabel (n.Expressions x xs) (n.Expressions x' xs')
  same_default : (colon : Bool) → SameLabel (n.Default colon) (n.Default colon)

-- Both absent, or both there and related (profile).
pub data SameOption {A : Type 0} (R : A → A → Type 0) : Option A → Option A → Type 0 where
  both_absent : SameOption R None None
  both_there : (x x' : A) → R x x' → SameOption R (Some x) (Some x')

-- The arguments of `$display` or `$strobe` say the same (profile).
pub data SameArgument : Argument → Argument → Type 0 where
  same_value_argument : (x x' : Expr) → SameExpr x x' → SameArgument (a.Value x) (a.Value x')
  same_time_argument : SameArgument a.Time a.Time

-- What stands behind `$display` or `$strobe` is the same (profile).
pub data SamePrint : PrintArguments → PrintArguments → Type 0 where
  same_missing : SamePrint p.Missing p.Missing
  same_empty : SamePrint p.Empty p.Empty
  same_printed : (n n' : Vec ℕ Global) (xs xs' : Vec Argument Global) → n.items ≡ n'.items → Pairwise SameArgument xs.items xs'.items →
      SamePrint (p.Text n xs) (p.Text n' xs')

-- The arguments of `$dumpfile` or `$dumpvars` say the same (profile).
pub data SameDumpArgument : DumpArgument → DumpArgument → Type 0 where
  same_dump_text : (n n' : Vec ℕ Global) → n.items ≡ n'.items → SameDumpArgument (u.Text n) (u.Text n')
  same_dump_value : (x x' : Box Expr Global) → SameExpr x.value x'.value → SameDumpArgument (u.Value x) (u.Value x')

-- The same of the first argument and the others (profile).
pub record SameDump (xs xs' : DumpArgument × Vec DumpArgument Global) : Type 0 where
  pub first : SameDumpArgument xs.0 xs'.0
  pub others : Pairwise SameDumpArgument xs.1.items xs'.1.items

-- Expressions that are both absent, or say the same (profile).
pub data SameValue : Option Expr → Option Expr → Type 0 where
  same_no_value : SameValue None None
  same_value : (x x' : Expr) → SameExpr x x' → SameValue (Some x) (Some x')

-- Ranges that are both absent, or say the same (profile).
pub data SameRange : Option Range → Option Range → Type 0 where
  same_no_range : SameRange None None
  same_range : (r r' : Range) → SameExpr r.left r'.left → SameExpr r.right r'.right → SameRange (Some r) (Some r')

-- What declarations say of their names is the same (profile).
pub record SameForm (f f' : Form) : Type 0 where
  pub signed : f.signed ≡ f'.signed
  pub range : SameRange f.range f'.range

-- The names are the same (profile).
abbrev pub SameName : Vec ℕ Global → Vec ℕ Global → Type 0
SameName n n' = n.items ≡ n'.items

-- The names of declarations of a named block say the same (profile).
pub record SameLocal (x x' : Local) : Type 0 where
  pub name : x.name.items ≡ x'.name.items
  pub words : SameRange x.words x'.words

-- The declarations of a named block say the same (profile).
pub data SameLocals : LocalDeclaration → LocalDeclaration → Type 0 where
  same_local_reg : (f f' : Form) (xs xs' : Vec Local Global) → SameForm f f' → Pairwise SameLocal xs.items xs'.items →
      SameLocals (g.Reg f xs) (g.Reg f' xs')
  same_local_integer : (xs xs' : Vec Local Global) → Pairwise SameLocal xs.items xs'.items → SameLocals (g.Integer xs) (g.Integer xs')

mutual
  -- The statements say the same (profile).
  pub data SameStmt : Stmt → Stmt → Type 0 where
    same_null : SameStmt s.Null s.Null
    same_assign : (l l' : Box Left Global) (x x' : Expr) → SameLeft l.value l'.value → SameExpr x x' →
        SameStmt (s.Assign l x) (s.Assign l' x')
    same_later : (l l' : Box Left Global) (v v' : Option DelayValue) (x x' : Box Expr Global) → SameLeft l.value l'.value →
        SameOption SameDelay v v' → SameExpr x.value x'.value → SameStmt (s.Later l v x) (s.Later l' v' x')
    same_block : (xs xs' : Vec Stmt Global) → SameStmts xs.items xs'.items → SameStmt (s.Block xs) (s.Block xs')
    same_named_block : (n n' : Vec ℕ Global) (ls ls' : Vec LocalDeclaration Global) (xs xs' : Vec Stmt Global) → n.items ≡ n'.items →
        Pairwise SameLocals ls.items ls'.items → SameStmts xs.items xs'.items → SameStmt (s.Named n ls xs) (s.Named n' ls' xs')
    same_if : (c c' : Box Expr Global) (x x' : Box Stmt Global) (o o' : Option (Box Stmt Global)) →
        SameExpr c.value c'.value → SameStmt x.value x'.value → SameElse o o' → SameStmt (s.If c x o) (s.If c' x' o')
    same_case : (kind : CaseKind) (x x' : Box Expr Global) (is is' : Vec (CaseLabel × Stmt) Global) →
        SameExpr x.value x'.value → SameCaseItems is.items is'.items → SameStmt (s.Case kind x is) (s.Case kind x' is')
    same_for : (h h' : Box ForHeader Global) (b b' : Box Stmt Global) →
        SameLeft h.value.first.0 h'.value.first.0 → SameExpr h.value.first.1 h'.value.first.1 →
        SameExpr h.value.condition h'.value.condition → SameLeft h.value.step.0 h'.value.step.0 →
        SameExpr h.value.step.1 h'.value.step.1 → SameStmt b.value b'.value → SameStmt (s.For h b) (s.For h' b')
    same_while : (c c' : Expr) (x x' : Box Stmt Global) →
        SameExpr c c' → SameStmt x.value x'.value → SameStmt (s.While c x) (s.While c' x')
    same_repeated : (c c' : Expr) (x x' : Box Stmt Global) →
        SameExpr c c' → SameStmt x.value x'.value → SameStmt (s.Repeat c x) (s.Repeat c' x')
    same_forever : (x x' : Box Stmt Global) → SameStmt x.value x'.value → SameStmt (s.Forever x) (s.Forever x')
    same_delay : (v v' : DelayValue) (x x' : Box Stmt Global) →
        SameDelay v v' → SameStmt x.value x'.value → SameStmt (s.Delay v x) (s.Delay v' x')
    same_event : (v v' : EventControl) (x x' : Box Stmt Global) →
        SameEvent v v' → SameStmt x.value x'.value → SameStmt (s.Event v x) (s.Event v' x')
    same_print : (task : PrintTask) (xs xs' : PrintArguments) → SamePrint xs xs' → SameStmt (s.Print task xs) (s.Print task xs')
    same_finish : (n : Option Literal) → SameStmt (s.Finish n) (s.Finish n)
    same_dump : (task : DumpTask) (xs xs' : Option (DumpArgument × Vec DumpArgument Global)) → SameOption SameDump xs xs' →
        SameStmt (s.Dump task xs) (s.Dump task xs')

  -- The same of statements one after another (profile).
  pub data SameStmts : List Stmt → List Stmt → Type 0 where
    same_no_stmt : SameStmts [] []
    same_more_stmts : (x x' : Stmt) (xs xs' : List Stmt) → SameStmt x x' → SameStmts xs xs' → SameStmts (x ∷ xs) (x' ∷ xs')

  -- The same of the statements behind `else`: both absent, or both there (profile).
  pub data SameElse : Option (Box Stmt Global) → Option (Box Stmt Global) → Type 0 where
    same_no_else : SameElse None None
    same_else : (x x' : Box Stmt Global) → SameStmt x.value x'.value → SameElse (Some x) (Some x')

  -- The same of `case` items: as many, each of them in its place (profile).
  pub data SameCaseItems : List (CaseLabel × Stmt) → List (CaseLabel × Stmt) → Type 0 where
    same_no_item : SameCaseItems [] []
    same_more_items : (x x' : CaseLabel × Stmt) (xs xs' : List (CaseLabel × Stmt)) →
        SameLabel x.0 x'.0 → SameStmt x.1 x'.1 → SameCaseItems xs xs' → SameCaseItems (x ∷ xs) (x' ∷ xs')

-- The names of a declaration say the same (profile).
pub record SameDeclarator (d d' : Declarator) : Type 0 where
  pub name : d.name.items ≡ d'.name.items
  pub words : SameRange d.words d'.words
  pub value : SameValue d.value d'.value

-- The types of parameters are the same (profile).
pub data SameParameterForm : ParameterForm → ParameterForm → Type 0 where
  same_integer_word : SameParameterForm q.Integer q.Integer
  same_vector : (f f' : Form) → SameForm f f' → SameParameterForm (q.Vector f) (q.Vector f')

-- The names of a declaration of parameters and their values say the same (profile).
pub record SameConstant (x x' : Constant) : Type 0 where
  pub name : x.name.items ≡ x'.name.items
  pub value : SameExpr x.value x'.value

-- The parameters in the header of a module say the same (profile).
pub record SameHeaderParameter (x x' : HeaderParameter) : Type 0 where
  pub form : SameOption SameParameterForm x.form x'.form
  pub name : x.name.items ≡ x'.name.items
  pub value : SameExpr x.value x'.value

-- What stands before the names of ports is the same (profile).
pub record SamePortForm (f f' : PortForm) : Type 0 where
  pub direction : f.direction ≡ f'.direction
  pub kind : f.kind ≡ f'.kind
  pub form : SameForm f.form f'.form

-- The ports say the same (profile).
pub record SamePort (x x' : Port) : Type 0 where
  pub form : SameOption SamePortForm x.form x'.form
  pub name : x.name.items ≡ x'.name.items
  pub value : SameValue x.value x'.value

-- The same of ports one after another (profile).
abbrev pub SamePorts : Vec Port Global → Vec Port Global → Type 0
SamePorts xs xs' = Pairwise SamePort xs.items xs'.items

-- The connections by name say the same (profile).
pub record SameConnection (x x' : Connection) : Type 0 where
  pub name : x.name.items ≡ x'.name.items
  pub value : SameValue x.value x'.value

-- What ports are connected to, or the values of parameters, say the same (profile).
pub data SameConnections : Connections → Connections → Type 0 where
  same_ordered : (x x' : Option Expr) (xs xs' : Vec (Option Expr) Global) → SameValue x x' → Pairwise SameValue xs.items xs'.items →
      SameConnections (c.Ordered x xs) (c.Ordered x' xs')
  same_named : (x x' : Connection) (xs xs' : Vec Connection Global) →
      SameConnection x x' → Pairwise SameConnection xs.items xs'.items → SameConnections (c.Named x xs) (c.Named x' xs')

-- The instances say the same (profile).
pub record SameInstance (x x' : Instance) : Type 0 where
  pub name : x.name.items ≡ x'.name.items
  pub ports : SameConnections x.ports x'.ports

-- The assignments of an `assign` item say the same (profile).
pub record SameAssignment (a a' : NetAssignment) : Type 0 where
  pub target : SameLeft a.target a'.target
  pub value : SameExpr a.value a'.value

-- The items say the same (profile).
pub data SameItem : Item → Item → Type 0 where
  same_port_item : (f f' : PortForm) (ns ns' : Vec (Vec ℕ Global) Global) →
      SamePortForm f f' → Pairwise SameName ns.items ns'.items → SameItem (i.Port f ns) (i.Port f' ns')
  same_genvars : (ns ns' : Vec (Vec ℕ Global) Global) → Pairwise SameName ns.items ns'.items → SameItem (i.Genvar ns) (i.Genvar ns')
  same_wire : (f f' : Form) (ds ds' : Vec Declarator Global) →
      SameForm f f' → Pairwise SameDeclarator ds.items ds'.items → SameItem (i.Wire f ds) (i.Wire f' ds')
  same_reg : (f f' : Form) (ds ds' : Vec Declarator Global) →
      SameForm f f' → Pairwise SameDeclarator ds.items ds'.items → SameItem (i.Reg f ds) (i.Reg f' ds')
  same_integer : (ds ds' : Vec Declarator Global) →
      Pairwise SameDeclarator ds.items ds'.items → SameItem (i.Integer ds) (i.Integer ds')
  same_parameters : (f f' : ParameterForm) (xs xs' : Vec Constant Global) →
      SameParameterForm f f' → Pairwise SameConstant xs.items xs'.items → SameItem (i.Parameter f xs) (i.Parameter f' xs')
  same_localparams : (f f' : ParameterForm) (xs xs' : Vec Constant Global) →
      SameParameterForm f f' → Pairwise SameConstant xs.items xs'.items → SameItem (i.Localparam f xs) (i.Localparam f' xs')
  same_instances : (n n' : Vec ℕ Global) (o o' : Option Connections) (xs xs' : Vec Instance Global) → n.items ≡ n'.items →
      SameOption SameConnections o o' → Pairwise SameInstance xs.items xs'.items →
      SameItem (i.Instances n o xs) (i.Instances n' o' xs')
  same_assigns : (xs xs' : Vec NetAssignment Global) →
      Pairwise SameAssignment xs.items xs'.items → SameItem (i.Assign xs) (i.Assign xs')
  same_initial : (x x' : Stmt) → SameStmt x x' → SameItem (i.Initial x) (i.Initial x')
  same_always : (x x' : Stmt) → SameStmt x x' → SameItem (i.Always x) (i.Always x')

-- The headers of generate loops say the same (profile).
pub record SameLoopHeader (h h' : LoopHeader) : Type 0 where
  pub name : h.name.items ≡ h'.name.items
  pub first : SameExpr h.first h'.first
  pub condition : SameExpr h.condition h'.condition
  pub next : h.next.items ≡ h'.next.items
  pub step : SameExpr h.step h'.step

mutual
  -- The module items say the same (profile).
  pub data SameModuleItem : ModuleItem → ModuleItem → Type 0 where
    same_plain : (x x' : Item) → SameItem x x' → SameModuleItem (t.Plain x) (t.Plain x')
    same_region : (xs xs' : Vec ModuleItem Global) → SameModuleItems xs.items xs'.items → SameModuleItem (t.Region xs) (t.Region xs')
    same_generate_loop : (h h' : LoopHeader) (x x' : Box ModuleItem Global) → SameLoopHeader h h' → SameModuleItem x.value x'.value →
        SameModuleItem (t.For h x) (t.For h' x')
    same_generate_if : (e e' : Expr) (x x' : Box ModuleItem Global) (o o' : Option (Box ModuleItem Global)) → SameExpr e e' →
        SameModuleItem x.value x'.value → SameOther o o' → SameModuleItem (t.If e x o) (t.If e' x' o')
    same_no_content : SameModuleItem t.Null t.Null
    same_generate_block : (n n' : Option (Vec ℕ Global)) (xs xs' : Vec ModuleItem Global) → SameOption SameName n n' →
        SameModuleItems xs.items xs'.items → SameModuleItem (t.Block n xs) (t.Block n' xs')

  -- The same of what stands behind `else` (profile).
  pub data SameOther : Option (Box ModuleItem Global) → Option (Box ModuleItem Global) → Type 0 where
    same_no_other : SameOther None None
    same_other : (x x' : Box ModuleItem Global) → SameModuleItem x.value x'.value → SameOther (Some x) (Some x')

  -- The same of module items one after another (profile).
  pub data SameModuleItems : List ModuleItem → List ModuleItem → Type 0 where
    same_no_module_item : SameModuleItems [] []
    same_more_module_items : (x x' : ModuleItem) (xs xs' : List ModuleItem) → SameModuleItem x x' → SameModuleItems xs xs' →
        SameModuleItems (x ∷ xs) (x' ∷ xs')

-- The modules say the same (profile).
pub record SameModule (m m' : Module) : Type 0 where
  pub directives : m.directives.items ≡ m'.directives.items
  pub name : m.name.items ≡ m'.name.items
  pub parameters : Pairwise SameHeaderParameter m.parameters.items m'.parameters.items
  pub ports : SameOption SamePorts m.ports m'.ports
  pub items : SameModuleItems m.items.items m'.items.items

-- The sources say the same (profile).
pub record SameSource (s s' : Source) : Type 0 where
  pub modules : Pairwise SameModule s.modules.items s'.modules.items
  pub directives : s.directives.items ≡ s'.directives.items
