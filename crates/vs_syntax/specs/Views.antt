-- The tree of the grammar that a syntax tree stands for.
use Rattle.std.specs.Prelude.{ℕ, Bool, true, false, List, [], ◌∷◌, ◌++◌, Option, None, Some, map}
use Rattle.std.specs.Option.{option_map}
use Rattle.std.specs.List.{flat_map}
use Rattle.vs_logic4.specs.declared.operators.Unary.{Unary}
use Rattle.vs_logic4.specs.declared.operators.Unary.TheVariants as u
use Rattle.vs_logic4.specs.declared.operators.Binary.{Binary}
use Rattle.vs_logic4.specs.declared.operators.Binary.TheVariants as b
use Rattle.vs_lexer.specs.declared.token.Mark.{Mark}
use Rattle.vs_lexer.specs.declared.token.Mark.TheVariants as m
use Rattle.vs_lexer.specs.declared.token.Word.{Word}
use Rattle.vs_lexer.specs.declared.token.Word.TheVariants as w
use Rattle.vs_logic4.specs.declared.case.CaseKind.{CaseKind}
use Rattle.vs_logic4.specs.declared.case.CaseKind.TheVariants as h
use Rattle.vs_logic4.specs.declared.edge.Edge.{Edge}
use Rattle.vs_logic4.specs.declared.edge.Edge.TheVariants as g
use Rattle.vs_lexer.specs.declared.token.Directive.{Directive}
use Rattle.vs_lexer.specs.declared.token.Literal.{Literal}
use Rattle.vs_syntax.specs.Symbols.{Symbol, a_mark, a_word, a_name, a_number, a_cast, a_text, a_print, a_finish, a_dump, a_time, a_directive}
use Rattle.vs_syntax.specs.Derivation.{Tree, empty, leaf, both, down}
use Rattle.vs_syntax.specs.declared.tree.Expr.{Expr, Expr-F, fold-Expr}
use Rattle.vs_syntax.specs.declared.tree.Expr.TheOpen as e
use Rattle.vs_syntax.specs.declared.tree.PartSelect.{PartSelect}
use Rattle.vs_syntax.specs.declared.tree.PartSelect.TheVariants as p
use Rattle.vs_syntax.specs.declared.tree.Left.{Left, Left-F, fold-Left}
use Rattle.vs_syntax.specs.declared.tree.Left.TheOpen as l
use Rattle.vs_syntax.specs.declared.tree.Range.{Range}
use Rattle.vs_syntax.specs.declared.tree.Form.{Form}
use Rattle.vs_syntax.specs.declared.tree.Declarator.{Declarator}
use Rattle.vs_syntax.specs.declared.tree.NetAssignment.{NetAssignment}
use Rattle.std.specs.declared.vec.Vec.{Vec}
use Rattle.std.specs.declared.alloc.Global.{Global}
use Rattle.vs_syntax.specs.declared.tree.ParameterForm.{ParameterForm}
use Rattle.vs_syntax.specs.declared.tree.ParameterForm.TheVariants as q
use Rattle.vs_syntax.specs.declared.tree.HeaderParameter.{HeaderParameter}
use Rattle.vs_syntax.specs.declared.tree.Constant.{Constant}
use Rattle.vs_syntax.specs.declared.tree.Direction.{Direction}
use Rattle.vs_syntax.specs.declared.tree.Direction.TheVariants as o
use Rattle.vs_syntax.specs.declared.tree.PortKind.{PortKind}
use Rattle.vs_syntax.specs.declared.tree.PortKind.TheVariants as k
use Rattle.vs_syntax.specs.declared.tree.PortForm.{PortForm}
use Rattle.vs_syntax.specs.declared.tree.Port.{Port}
use Rattle.vs_syntax.specs.declared.tree.Connection.{Connection}
use Rattle.vs_syntax.specs.declared.tree.Connections.{Connections}
use Rattle.vs_syntax.specs.declared.tree.Connections.TheVariants as c
use Rattle.vs_syntax.specs.declared.tree.Instance.{Instance}
use Rattle.std.specs.declared.boxed.Box.{Box}
use Rattle.vs_syntax.specs.declared.tree.DelayValue.{DelayValue}
use Rattle.vs_syntax.specs.declared.tree.DelayValue.TheVariants as d
use Rattle.vs_syntax.specs.declared.tree.Argument.{Argument}
use Rattle.vs_syntax.specs.declared.tree.Argument.TheVariants as a
use Rattle.vs_syntax.specs.declared.tree.PrintArguments.{PrintArguments}
use Rattle.vs_syntax.specs.declared.tree.PrintArguments.TheVariants as t
use Rattle.vs_syntax.specs.declared.tree.DumpArgument.{DumpArgument}
use Rattle.vs_syntax.specs.declared.tree.DumpArgument.TheVariants as x
use Rattle.vs_syntax.specs.declared.tree.Separator.{Separator}
use Rattle.vs_syntax.specs.declared.tree.Separator.TheVariants as r
use Rattle.vs_syntax.specs.declared.tree.EventExpr.{EventExpr}
use Rattle.vs_syntax.specs.declared.tree.EventControl.{EventControl}
use Rattle.vs_syntax.specs.declared.tree.EventControl.TheVariants as v
use Rattle.vs_syntax.specs.declared.tree.CaseLabel.{CaseLabel}
use Rattle.vs_syntax.specs.declared.tree.CaseLabel.TheVariants as n
use Rattle.vs_syntax.specs.declared.tree.Stmt.{Stmt, Stmt-F, fold-Stmt}
use Rattle.vs_syntax.specs.declared.tree.Stmt.TheOpen as s
use Rattle.vs_syntax.specs.declared.tree.Local.{Local}
use Rattle.vs_syntax.specs.declared.tree.LocalDeclaration.{LocalDeclaration}
use Rattle.vs_syntax.specs.declared.tree.LocalDeclaration.TheVariants as ld
use Rattle.vs_syntax.specs.declared.tree.LoopHeader.{LoopHeader}
use Rattle.vs_syntax.specs.declared.tree.ModuleItem.{ModuleItem, ModuleItem-F, fold-ModuleItem}
use Rattle.vs_syntax.specs.declared.tree.ModuleItem.TheOpen as y
use Rattle.vs_syntax.specs.declared.tree.Item.{Item}
use Rattle.vs_syntax.specs.declared.tree.Item.TheVariants as i
use Rattle.vs_syntax.specs.declared.tree.Module.{Module}
use Rattle.vs_syntax.specs.declared.tree.Source.{Source}

-- parts that follow one another
abbrev pub row_of : List Tree → Tree
row_of [] = empty
row_of (x ∷ xs) = both x (row_of xs)

-- a name by its bytes
abbrev pub name_tree : List ℕ → Tree
name_tree bytes = leaf (a_name bytes)

-- parts with a comma before each of them
abbrev pub commas_tree : List Tree → Tree
commas_tree xs = row_of (map (both (leaf (a_mark m.Comma))) xs)

-- parts with commas between, and the semicolon behind them; without a part no tree of the grammar
abbrev pub comma_list_tree : List Tree → Tree
comma_list_tree [] = empty
comma_list_tree (x ∷ xs) = both x (both (commas_tree xs) (leaf (a_mark m.Semicolon)))

-- the mark of an operator of one operand (clause 5.1)
abbrev pub unary_mark : Unary → Mark
unary_mark u.Plus = m.Plus
unary_mark u.Minus = m.Minus
unary_mark u.Not = m.Tilde
unary_mark u.LogicalNot = m.Not
unary_mark u.ReduceAnd = m.And
unary_mark u.ReduceNand = m.Nand
unary_mark u.ReduceOr = m.Or
unary_mark u.ReduceNor = m.Nor
unary_mark u.ReduceXor = m.Xor
unary_mark u.ReduceXnor = m.Xnor

-- the mark of an operator of two operands (clause 5.1)
abbrev pub binary_mark : Binary → Mark
binary_mark b.Multiply = m.Star
binary_mark b.Divide = m.Slash
binary_mark b.Remainder = m.Percent
binary_mark b.Add = m.Plus
binary_mark b.Subtract = m.Minus
binary_mark b.ShiftLeft = m.ShiftLeft
binary_mark b.ShiftRight = m.ShiftRight
binary_mark b.SignedShiftLeft = m.ArithmeticShiftLeft
binary_mark b.SignedShiftRight = m.ArithmeticShiftRight
binary_mark b.Less = m.Less
binary_mark b.LessEqual = m.LessEqual
binary_mark b.Greater = m.Greater
binary_mark b.GreaterEqual = m.GreaterEqual
binary_mark b.Equal = m.Equal
binary_mark b.NotEqual = m.NotEqual
binary_mark b.CaseEqual = m.CaseEqual
binary_mark b.CaseNotEqual = m.CaseNotEqual
binary_mark b.And = m.And
binary_mark b.Xor = m.Xor
binary_mark b.Xnor = m.Xnor
binary_mark b.Or = m.Or
binary_mark b.LogicalAnd = m.LogicalAnd
binary_mark b.LogicalOr = m.LogicalOr

-- an operator and the operand behind it
abbrev pub link_tree : Binary × Tree → Tree
link_tree l = both (leaf (a_mark (binary_mark l.0))) l.1

-- what stands behind a condition: the operand for it, and the next condition or the last operand (clause 5.1.13)
abbrev pub arm_tree : Tree → Tree → Tree
arm_tree value other = both (leaf (a_mark m.Question)) (both value (both (leaf (a_mark m.Colon)) other))

-- the first condition, or the last operand where there is none
abbrev pub head_of : List (Tree × Tree) → Tree → Tree
head_of [] last = last
head_of (p ∷ ps) last = p.0

-- what stands behind each of the conditions
abbrev pub arms_of : List (Tree × Tree) → Tree → List Tree
arms_of [] last = []
arms_of (p ∷ ps) last = arm_tree p.1 (head_of ps last) ∷ arms_of ps last

-- conditions, each with the operand for it, and the last operand; without a condition no tree of the grammar
abbrev pub choice_tree : List (Tree × Tree) → Tree → Tree
choice_tree [] last = both last empty
choice_tree (p ∷ ps) last = down (both p.0 (row_of (arms_of (p ∷ ps) last)))

-- the parts of a concatenation behind the first one, and the brace behind them
abbrev pub others_tree : List Tree → Tree
others_tree xs = both (commas_tree xs) (leaf (a_mark m.CloseBrace))

-- the parts of a multiple concatenation, the first and the others, and the braces behind them
abbrev pub repeated_tree : Tree → List Tree → Tree
repeated_tree x xs = both x (both (others_tree xs) (leaf (a_mark m.CloseBrace)))

-- what stands between the two expressions of a part-select (clause 5.2.1)
abbrev pub part_mark : PartSelect → Mark
part_mark p.Bounds = m.Colon
part_mark p.Upward = m.PlusColon
part_mark p.Downward = m.MinusColon

-- the second expression of a part-select, behind what stands before it; nothing where there is one index
abbrev pub second_tree : Option (PartSelect × Tree) → Tree
second_tree None = empty
second_tree (Some x) = both (leaf (a_mark (part_mark x.0))) x.1

-- a select (clauses 5.2.1 and 5.2.2)
abbrev pub select_tree : Tree × Option (PartSelect × Tree) → Tree
select_tree x = both (leaf (a_mark m.OpenBracket)) (both x.0 (both (second_tree x.1) (leaf (a_mark m.CloseBracket))))

-- one or more parts that follow one another; without a part no tree of the grammar
abbrev pub some_tree : List Tree → Tree
some_tree [] = down empty
some_tree (x ∷ xs) = both x (row_of xs)

-- an expression and the parenthesis behind it
abbrev pub closed_tree : Tree → Tree
closed_tree x = both x (leaf (a_mark m.Close))

-- an expression, where the trees of the inner ones stand in their place
abbrev pub expr_step : Expr-F Tree → Tree
expr_step (e.Number l) = leaf (a_number l)
expr_step (e.Name n) = name_tree n.items
expr_step (e.Select n ss) = down (both (name_tree n.items) (some_tree (map select_tree ss.items)))
expr_step (e.Group x) = down (both (leaf (a_mark m.Open)) (closed_tree x.value))
expr_step (e.Unary op x) = down (both (leaf (a_mark (unary_mark op))) x.value)
expr_step (e.Chain x ls) = down (both x.value (row_of (map link_tree ls.items)))
expr_step (e.Choice ps x) = choice_tree ps.items x.value
expr_step (e.Concat x xs) = down (both (leaf (a_mark m.OpenBrace)) (both x.value (others_tree xs.items)))
expr_step (e.Repeat n x xs) = down (both (leaf (a_mark m.OpenBrace)) (both n.value
    (both (leaf (a_mark m.OpenBrace)) (repeated_tree x.value xs.items))))
expr_step (e.Cast s x) = down (both (leaf (a_cast s)) (both (leaf (a_mark m.Open)) (closed_tree x.value)))

-- an expression
abbrev pub expr_tree : Expr → Tree
expr_tree = fold-Expr Tree expr_step

-- the second expression of a part-select as a tree
abbrev pub second_trees : Option (PartSelect × Expr) → Option (PartSelect × Tree)
second_trees o = option_map (λ (p : PartSelect × Expr). (p.0, expr_tree p.1)) o

-- a select by its expressions
abbrev pub chosen_tree : Expr × Option (PartSelect × Expr) → Tree
chosen_tree x = select_tree (expr_tree x.0, second_trees x.1)

-- the left side of an assignment, where the trees of the inner ones stand in their place
abbrev pub left_step : Left-F Tree → Tree
left_step (l.Name n ss) = down (both (name_tree n.items) (row_of (map chosen_tree ss.items)))
left_step (l.Concat x xs) = down (both (leaf (a_mark m.OpenBrace)) (both x.value (others_tree xs.items)))

-- the left side of an assignment
abbrev pub left_tree : Left → Tree
left_tree = fold-Left Tree left_step

-- a declaration assignment, where there is one
abbrev pub value_tree : Option Expr → Tree
value_tree None = empty
value_tree (Some x) = both (leaf (a_mark m.Assign)) (expr_tree x)

-- a range, where there is one
abbrev pub range_tree : Option Range → Tree
range_tree None = empty
range_tree (Some r) = both (leaf (a_mark m.OpenBracket)) (both (expr_tree r.left)
    (both (leaf (a_mark m.Colon)) (both (expr_tree r.right) (leaf (a_mark m.CloseBracket)))))

-- what stands behind a name of a declaration: the range of its words, or a declaration assignment; with both no tree of the grammar
abbrev pub declarator_rest_tree : Option Range → Option Expr → Tree
declarator_rest_tree None v = value_tree v
declarator_rest_tree (Some r) None = range_tree (Some r)
declarator_rest_tree (Some r) (Some x) = down (both (range_tree (Some r)) (value_tree (Some x)))

-- a name of a declaration
abbrev pub declarator_tree : Declarator → Tree
declarator_tree d = both (name_tree d.name.items) (declarator_rest_tree d.words d.value)

-- the word `signed`, where it is there
abbrev pub signed_tree : Bool → Tree
signed_tree true = leaf (a_word w.Signed)
signed_tree false = empty

-- what a declaration says of its names
abbrev pub form_tree : Form → Tree
form_tree f = both (signed_tree f.signed) (range_tree f.range)

-- names of a declaration behind what it says of them
abbrev pub declared_tree : Form → List Declarator → Tree
declared_tree f ds = both (form_tree f) (comma_list_tree (map declarator_tree ds))

-- an assignment of an `assign` item
abbrev pub net_assignment_tree : NetAssignment → Tree
net_assignment_tree a = both (left_tree a.target) (both (leaf (a_mark m.Assign)) (expr_tree a.value))

-- an assignment as a statement
abbrev pub assigned_tree : Left → Tree → Expr → Tree
assigned_tree l sign x = down (both (left_tree l) (both sign (both (expr_tree x) (leaf (a_mark m.Semicolon)))))

-- an expression in parentheses that are no node, and what stands behind them
abbrev pub guarded_tree : Tree → Tree → Tree
guarded_tree x rest = both (leaf (a_mark m.Open)) (both x (both (leaf (a_mark m.Close)) rest))

-- the statement behind `else`, where there is one
abbrev pub else_tree : Option (Box Tree Global) → Tree
else_tree None = empty
else_tree (Some x) = both (leaf (a_word w.Else)) x.value

-- the word that a `case` statement begins with
abbrev pub case_word : CaseKind → Word
case_word h.Case = w.Case
case_word h.Casez = w.Casez
case_word h.Casex = w.Casex

-- a colon, where it is there
abbrev pub colon_tree : Bool → Tree
colon_tree true = leaf (a_mark m.Colon)
colon_tree false = empty

-- an item of a `case` statement by what stands before its statement
abbrev pub labelled_tree : CaseLabel → Tree → Tree
labelled_tree (n.Expressions x xs) body =
    both (expr_tree x) (both (commas_tree (map expr_tree xs.items)) (both (leaf (a_mark m.Colon)) body))
labelled_tree (n.Default colon) body = both (leaf (a_word w.Default)) (both (colon_tree colon) body)

-- an item of a `case` statement
abbrev pub case_item_tree : CaseLabel × Tree → Tree
case_item_tree i = labelled_tree i.0 i.1

-- the items of a `case` statement, and the word behind them
abbrev pub case_items_tree : List (CaseLabel × Tree) → Tree
case_items_tree items = both (some_tree (map case_item_tree items)) (leaf (a_word w.Endcase))

-- an assignment without a semicolon, and what stands behind it
abbrev pub assignment_tree : Left → Expr → Tree → Tree
assignment_tree l x rest = both (both (left_tree l) (both (leaf (a_mark m.Assign)) (expr_tree x))) rest

-- a semicolon, and what stands behind it
abbrev pub semicolon_tree : Tree → Tree
semicolon_tree rest = both (leaf (a_mark m.Semicolon)) rest

-- what stands behind `for`
abbrev pub for_tree : Left → Expr → Expr → Left → Expr → Tree → Tree
for_tree l x c k y body = both (leaf (a_mark m.Open))
    (assignment_tree l x (semicolon_tree (both (expr_tree c) (semicolon_tree (assignment_tree k y (both (leaf (a_mark m.Close)) body))))))

-- a delay
abbrev pub delay_tree : DelayValue → Tree
delay_tree (d.Number l) = leaf (a_number l)
delay_tree (d.Name n) = name_tree n.items
delay_tree (d.Group x) = both (leaf (a_mark m.Open)) (closed_tree (expr_tree x.value))

-- the delay of a nonblocking assignment, where it has one
abbrev pub late_tree : Option DelayValue → Tree
late_tree None = empty
late_tree (Some v) = both (leaf (a_mark m.Hash)) (delay_tree v)

-- the sign of a nonblocking assignment, and its delay
abbrev pub later_tree : Option DelayValue → Tree
later_tree v = both (leaf (a_mark m.LessEqual)) (late_tree v)

-- an argument of `$display` or `$strobe`
abbrev pub argument_tree : Argument → Tree
argument_tree (a.Value x) = expr_tree x
argument_tree a.Time = leaf a_time

-- what stands behind `$display` or `$strobe`
abbrev pub print_tree : PrintArguments → Tree
print_tree t.Missing = empty
print_tree t.Empty = both (leaf (a_mark m.Open)) (both empty (leaf (a_mark m.Close)))
print_tree (t.Text n xs) = both (leaf (a_mark m.Open)) (both (both (leaf (a_text n.items)) (commas_tree (map argument_tree xs.items))) (leaf (a_mark m.Close)))

-- the number of a `$finish`, where it has one
abbrev pub finish_tree : Option Literal → Tree
finish_tree None = empty
finish_tree (Some l) = both (leaf (a_mark m.Open)) (both (leaf (a_number l)) (leaf (a_mark m.Close)))

-- an argument of `$dumpfile` or `$dumpvars`
abbrev pub dump_argument_tree : DumpArgument → Tree
dump_argument_tree (x.Text n) = leaf (a_text n.items)
dump_argument_tree (x.Value e) = expr_tree e.value

-- what stands behind `$dumpfile` or `$dumpvars`
abbrev pub dump_tree : Option (DumpArgument × Vec DumpArgument Global) → Tree
dump_tree None = empty
dump_tree (Some xs) = both (leaf (a_mark m.Open)) (both (dump_argument_tree xs.0) (both (commas_tree (map dump_argument_tree xs.1.items)) (leaf (a_mark m.Close))))

-- a statement that is a system name with what stands behind it
abbrev pub task_tree : Symbol → Tree → Tree
task_tree s x = down (both (leaf s) (both x (leaf (a_mark m.Semicolon))))

-- the word of an edge, where it has one
abbrev pub edge_tree : Edge → Tree
edge_tree g.Any = empty
edge_tree g.Posedge = leaf (a_word w.Posedge)
edge_tree g.Negedge = leaf (a_word w.Negedge)

-- a term of an event control
abbrev pub event_expr_tree : EventExpr → Tree
event_expr_tree x = both (edge_tree x.edge) (both (name_tree x.name.items) (row_of (map chosen_tree x.selects.items)))

-- what stands between two terms of an event control
abbrev pub separator_tree : Separator → Tree
separator_tree r.Or = leaf (a_word w.Or)
separator_tree r.Comma = leaf (a_mark m.Comma)

-- a term of an event control, behind what stands before it
abbrev pub other_event_tree : Separator × EventExpr → Tree
other_event_tree x = both (separator_tree x.0) (event_expr_tree x.1)

-- what an event control waits for
abbrev pub event_tree : EventControl → Tree
event_tree v.Star = leaf (a_mark m.Star)
event_tree v.GroupedStar = both (leaf (a_mark m.Open)) (closed_tree (leaf (a_mark m.Star)))
event_tree (v.Name n) = name_tree n.items
event_tree (v.Terms x xs) =
    both (leaf (a_mark m.Open)) (closed_tree (both (event_expr_tree x.value) (row_of (map other_event_tree xs.items))))

-- a name of a declaration of a named block
abbrev pub local_tree : Local → Tree
local_tree x = both (name_tree x.name.items) (range_tree x.words)

-- a declaration of a named block
abbrev pub local_declaration_tree : LocalDeclaration → Tree
local_declaration_tree (ld.Reg f xs) = both (leaf (a_word w.Reg)) (both (form_tree f) (comma_list_tree (map local_tree xs.items)))
local_declaration_tree (ld.Integer xs) = both (leaf (a_word w.Integer)) (comma_list_tree (map local_tree xs.items))

-- the name of a block, and its declarations
abbrev pub block_head_tree : List ℕ → List LocalDeclaration → Tree
block_head_tree n xs = both (leaf (a_mark m.Colon)) (both (name_tree n) (row_of (map local_declaration_tree xs)))

-- a block, by what stands before its statements, and these
abbrev pub block_tree : Tree → List Tree → Tree
block_tree x xs = down (both (leaf (a_word w.Begin)) (both x (both (row_of xs) (leaf (a_word w.End)))))

-- a statement, where the trees of the inner ones stand in their place
abbrev pub stmt_step : Stmt-F Tree → Tree
stmt_step s.Null = down (both (leaf (a_mark m.Semicolon)) empty)
stmt_step (s.Assign l x) = assigned_tree l.value (leaf (a_mark m.Assign)) x
stmt_step (s.Later l v x) = assigned_tree l.value (later_tree v) x.value
stmt_step (s.Block xs) = block_tree empty xs.items
stmt_step (s.Named n ds xs) = block_tree (block_head_tree n.items ds.items) xs.items
stmt_step (s.If c x o) = down (both (leaf (a_word w.If)) (guarded_tree (expr_tree c.value) (both x.value (else_tree o))))
stmt_step (s.Case kind x items) =
    down (both (leaf (a_word (case_word kind))) (guarded_tree (expr_tree x.value) (case_items_tree items.items)))
stmt_step (s.For f body) = down (both (leaf (a_word w.For))
    (for_tree f.value.first.0 f.value.first.1 f.value.condition f.value.step.0 f.value.step.1 body.value))
stmt_step (s.While c x) = down (both (leaf (a_word w.While)) (guarded_tree (expr_tree c) x.value))
stmt_step (s.Repeat c x) = down (both (leaf (a_word w.Repeat)) (guarded_tree (expr_tree c) x.value))
stmt_step (s.Forever x) = down (both (leaf (a_word w.Forever)) x.value)
stmt_step (s.Delay v x) = down (both (leaf (a_mark m.Hash)) (both (delay_tree v) x.value))
stmt_step (s.Event v x) = down (both (leaf (a_mark m.At)) (both (event_tree v) x.value))
stmt_step (s.Print task xs) = task_tree (a_print task) (print_tree xs)
stmt_step (s.Finish n) = task_tree a_finish (finish_tree n)
stmt_step (s.Dump task xs) = task_tree (a_dump task) (dump_tree xs)

-- a statement
abbrev pub stmt_tree : Stmt → Tree
stmt_tree = fold-Stmt Tree stmt_step

-- the type of parameters
abbrev pub parameter_form_tree : ParameterForm → Tree
parameter_form_tree q.Integer = leaf (a_word w.Integer)
parameter_form_tree (q.Vector f) = form_tree f

-- a name and its value
abbrev pub valued_tree : List ℕ → Expr → Tree
valued_tree n x = both (name_tree n) (both (leaf (a_mark m.Assign)) (expr_tree x))

-- a name of a declaration of parameters, with its value
abbrev pub constant_tree : Constant → Tree
constant_tree x = valued_tree x.name.items x.value

-- the word `parameter` with the type behind it, where it is there
abbrev pub parameter_word_tree : Option ParameterForm → Tree
parameter_word_tree None = empty
parameter_word_tree (Some f) = both (leaf (a_word w.Parameter)) (parameter_form_tree f)

-- a parameter in the header of a module
abbrev pub header_parameter_tree : HeaderParameter → Tree
header_parameter_tree p = both (parameter_word_tree p.form) (valued_tree p.name.items p.value)

-- the parameters in the header of a module
abbrev pub header_parameters_tree : List Tree → Tree
header_parameters_tree [] = empty
header_parameters_tree (x ∷ xs) =
    both (leaf (a_mark m.Hash)) (both (leaf (a_mark m.Open)) (both x (both (commas_tree xs) (leaf (a_mark m.Close)))))

-- the word of a direction
abbrev pub direction_word : Direction → Word
direction_word o.Input = w.Input
direction_word o.Output = w.Output

-- the word of a port's kind, where it is there
abbrev pub kind_tree : Option PortKind → Tree
kind_tree None = empty
kind_tree (Some k.Wire) = leaf (a_word w.Wire)
kind_tree (Some k.Reg) = leaf (a_word w.Reg)
kind_tree (Some k.Integer) = leaf (a_word w.Integer)

-- what stands before the name of a port, where it is there, and the name with what stands behind it
abbrev pub port_form_tree : Option PortForm → Tree → Tree
port_form_tree None rest = rest
port_form_tree (Some f) rest = both (leaf (a_word (direction_word f.direction))) (both (kind_tree f.kind) (both (form_tree f.form) rest))

-- a port in the header of a module, and those behind it
abbrev pub port_tree : Port → Tree → Tree
port_tree p rest = port_form_tree p.form (both (name_tree p.name.items) (both (value_tree p.value) rest))

-- ports behind another one, each behind its comma
abbrev pub more_ports_tree : List Port → Tree
more_ports_tree [] = empty
more_ports_tree (p ∷ ps) = both (leaf (a_mark m.Comma)) (port_tree p (more_ports_tree ps))

-- ports with commas between
abbrev pub ports_tree : List Port → Tree
ports_tree [] = empty
ports_tree (p ∷ ps) = port_tree p (more_ports_tree ps)

-- the ports in the header of a module, where it has a list of them
abbrev pub header_ports_tree : Option (List Port) → Tree
header_ports_tree None = empty
header_ports_tree (Some xs) = both (leaf (a_mark m.Open)) (both (ports_tree xs) (leaf (a_mark m.Close)))

-- an expression, or nothing
abbrev pub end_tree : Option Expr → Tree
end_tree None = empty
end_tree (Some x) = expr_tree x

-- a connection by name
abbrev pub connection_tree : Connection → Tree
connection_tree c = both (leaf (a_mark m.Dot)) (both (name_tree c.name.items)
    (both (leaf (a_mark m.Open)) (both (end_tree c.value) (leaf (a_mark m.Close)))))

-- what ports are connected to, or the values of parameters
abbrev pub connections_tree : Connections → Tree
connections_tree (c.Ordered x xs) = both (end_tree x) (commas_tree (map end_tree xs.items))
connections_tree (c.Named x xs) = both (connection_tree x) (commas_tree (map connection_tree xs.items))

-- the values of the parameters of instances, where they are there
abbrev pub overrides_tree : Option Connections → Tree
overrides_tree None = empty
overrides_tree (Some x) = both (leaf (a_mark m.Hash)) (both (leaf (a_mark m.Open)) (both (connections_tree x) (leaf (a_mark m.Close))))

-- an instance
abbrev pub instance_tree : Instance → Tree
instance_tree x = both (name_tree x.name.items) (both (leaf (a_mark m.Open)) (both (connections_tree x.ports) (leaf (a_mark m.Close))))

-- the symbol that an item begins with: its word, or the name of a module
abbrev pub item_symbol : Item → Symbol
item_symbol (i.Port f ns) = a_word (direction_word f.direction)
item_symbol (i.Genvar ns) = a_word w.Genvar
item_symbol (i.Wire f ds) = a_word w.Wire
item_symbol (i.Reg f ds) = a_word w.Reg
item_symbol (i.Integer ds) = a_word w.Integer
item_symbol (i.Parameter f xs) = a_word w.Parameter
item_symbol (i.Localparam f xs) = a_word w.Localparam
item_symbol (i.Instances n o xs) = a_name n.items
item_symbol (i.Assign xs) = a_word w.Assign
item_symbol (i.Initial x) = a_word w.Initial
item_symbol (i.Always x) = a_word w.Always

-- names of a declaration of parameters behind their type
abbrev pub constants_tree : ParameterForm → List Constant → Tree
constants_tree f xs = both (parameter_form_tree f) (comma_list_tree (map constant_tree xs))

-- names alone
abbrev pub bare_name_tree : Vec ℕ Global → Tree
bare_name_tree n = name_tree n.items

-- what stands behind the first symbol of an item
abbrev pub body_tree : Item → Tree
body_tree (i.Port f ns) = both (kind_tree f.kind) (both (form_tree f.form) (comma_list_tree (map bare_name_tree ns.items)))
body_tree (i.Genvar ns) = comma_list_tree (map bare_name_tree ns.items)
body_tree (i.Wire f ds) = declared_tree f ds.items
body_tree (i.Reg f ds) = declared_tree f ds.items
body_tree (i.Integer ds) = comma_list_tree (map declarator_tree ds.items)
body_tree (i.Parameter f xs) = constants_tree f xs.items
body_tree (i.Localparam f xs) = constants_tree f xs.items
body_tree (i.Instances n o xs) = both (overrides_tree o) (comma_list_tree (map instance_tree xs.items))
body_tree (i.Assign xs) = comma_list_tree (map net_assignment_tree xs.items)
body_tree (i.Initial x) = stmt_tree x
body_tree (i.Always x) = stmt_tree x

-- an item of a module
abbrev pub item_tree : Item → Tree
item_tree x = down (both (leaf (item_symbol x)) (body_tree x))

-- a name and its value, before a mark
abbrev pub loop_tree : LoopHeader → Tree → Tree
loop_tree h rest = both (leaf (a_mark m.Open)) (both (valued_tree h.name.items h.first) (semicolon_tree (both (expr_tree h.condition)
    (semicolon_tree (both (valued_tree h.next.items h.step) (both (leaf (a_mark m.Close)) rest))))))

-- the name of a generate block, where it has one
abbrev pub block_name_tree : Option (Vec ℕ Global) → Tree
block_name_tree None = empty
block_name_tree (Some n) = both (leaf (a_mark m.Colon)) (name_tree n.items)

-- a module item, where the trees of the inner ones stand in their place
abbrev pub module_item_step : ModuleItem-F Tree → Tree
module_item_step (y.Plain x) = item_tree x
module_item_step (y.Region xs) = down (both (leaf (a_word w.Generate)) (both (row_of xs.items) (leaf (a_word w.Endgenerate))))
module_item_step (y.For h x) = down (both (leaf (a_word w.For)) (loop_tree h x.value))
module_item_step (y.If c x o) = down (both (leaf (a_word w.If)) (guarded_tree (expr_tree c) (both x.value (else_tree o))))
module_item_step y.Null = leaf (a_mark m.Semicolon)
module_item_step (y.Block n xs) = both (leaf (a_word w.Begin)) (both (block_name_tree n) (both (row_of xs.items) (leaf (a_word w.End))))

-- an item of a module, or what a generate construct generates
abbrev pub module_item_tree : ModuleItem → Tree
module_item_tree = fold-ModuleItem Tree module_item_step

-- a directive
abbrev pub directive_tree : Directive → Tree
directive_tree x = leaf (a_directive x)

-- the parts of a module's header behind its name
abbrev pub header_tree : Module → Tree → Tree
header_tree x rest = both (header_parameters_tree (map header_parameter_tree x.parameters.items))
    (both (header_ports_tree (option_map (λ (ps : Vec Port Global). ps.items) x.ports)) rest)

-- a module
abbrev pub module_tree : Module → Tree
module_tree x = both (leaf (a_word w.Module)) (both (name_tree x.name.items) (header_tree x
    (both (leaf (a_mark m.Semicolon)) (both (row_of (map module_item_tree x.items.items)) (leaf (a_word w.Endmodule))))))

-- a module behind its directives
abbrev pub directed_trees : Module → List Tree
directed_trees x = map directive_tree x.directives.items ++ module_tree x ∷ []

-- a source
abbrev pub source_tree : Source → Tree
source_tree x = row_of (flat_map directed_trees x.modules.items ++ map directive_tree x.directives.items)
