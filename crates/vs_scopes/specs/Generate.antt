-- What generate constructs generate.
use Rattle.std.specs.Prelude.{ℕ, zero, suc, ℤ, Bool, true, false, ◌&&◌, ◌||◌, not, nat_lt, List, [], ◌∷◌, ◌++◌, length, Option, Some, None, is_none, map, sum, codes, decimal, replicate, if◌then◌else◌}
use Rattle.std.specs.List.{list_any}
use Rattle.std.specs.Str.{bytes_eq}
use Rattle.std.specs.declared.boxed.Box.{Box}
use Rattle.std.specs.declared.alloc.Global.{Global}
use Rattle.vs_design.specs.vs_logic4.specs.declared.digit.Digit.TheVariants.{One}
use Rattle.vs_design.specs.vs_logic4.specs.Vectors.{same_digit}
use Rattle.vs_syntax.specs.declared.tree.Expr.{Expr}
use Rattle.vs_syntax.specs.declared.tree.LoopHeader.{LoopHeader}
use Rattle.vs_syntax.specs.declared.tree.ModuleItem.{ModuleItem}
use Rattle.vs_syntax.specs.declared.tree.ModuleItem.TheOpen.{ModuleItem-F}
use Rattle.vs_syntax.specs.declared.tree.ModuleItem.TheOpen as m
use Rattle.vs_syntax.specs.declared.tree.ModuleItem.TheFolds.{fold-ModuleItem}
use Rattle.vs_syntax.specs.declared.tree.ModuleItem.TheViews.{out-ModuleItem}
use Rattle.vs_widths.specs.declared.bindings.Binding.{Binding}
use Rattle.vs_widths.specs.declared.bindings.Binding.TheVariants as b
use Rattle.vs_widths.specs.declared.constants.Const.{Const}
use Rattle.vs_widths.specs.declared.faults.WidthReason.{WidthReason}
use Rattle.vs_widths.specs.declared.faults.WidthReason.TheVariants.{Unknown, WrongKind}
use Rattle.vs_widths.specs.Environment.{Environment}
use Rattle.vs_widths.specs.Findings.{has_width_fault}
use Rattle.vs_widths.specs.Meants.{own}
use Rattle.vs_widths.specs.Constants.{constant_finding, whole_number}
use Rattle.vs_scopes.specs.vs_widths.specs.Expressions.{meant}
use Rattle.vs_scopes.specs.Pieces.{NamedBlock, blocks_of, Piece, plain, loop, choice, local, inside, net, Content, nothing, block, content_step, content_of}
use Rattle.vs_scopes.specs.declared.faults.Reason.{Reason}
use Rattle.vs_scopes.specs.declared.faults.Reason.TheVariants.{Endless, Unnamed, Width}
use Rattle.vs_scopes.specs.Printed.{PathName}
use Rattle.vs_scopes.specs.Ranges.{sized_as, number_fault}
use Rattle.vs_scopes.specs.Parameters.{neither, constant_by, with_constant, any_fault}
use Rattle.vs_scopes.specs.Declarations.{Use, uses_by_item}

-- ---- conditions

-- whether the condition of a generate construct holds: some bit of its value is 1 (clauses 12.4.1 and 12.4.2; of x and z: profile)
abbrev pub holds : Environment → Expr → Bool
holds env e = list_any (same_digit One) (own (meant env e) [] 0)

-- a fault of a condition
abbrev pub condition_fault : Environment → Expr → WidthReason → Bool
condition_fault env e w = has_width_fault w (constant_finding (meant env e))

-- ---- loops

-- the value that an expression gives a genvar: 32 bits with a sign, as an assignment does (clause 12.4.1; 32: profile)
abbrev pub genvar_value : Environment → Expr → Const
genvar_value env e = constant_by (neither (sized_as env true 31 None)) (meant env e)

-- the number that a genvar is, where its value has no x and no z
abbrev pub genvar_number : Const → Option ℤ
genvar_number c = whole_number true c.value

-- a fault of such an expression: one of its own, or its value has an x or a z (profile)
abbrev pub genvar_fault : Environment → Expr → WidthReason → Bool
genvar_fault env e w = number_fault w (constant_finding (meant env e)) (genvar_number (genvar_value env e))

-- what the turns of a loop are: it ends behind these values of its genvar, or its header has a fault, or it doesn't end in time
pub data Turns : Type 0 where
  turns : List Const → Turns
  faulty : (WidthReason → Bool) → Turns
  endless : Turns

-- turns with one before them
abbrev pub one_more : Const → Turns → Turns
one_more c (turns cs) = turns (c ∷ cs)
one_more c (faulty w) = faulty w
one_more c endless = endless

-- the turns from this value of the genvar on, of which there may be so many (clause 12.4.1)
unfoldable pub turns_from : ℕ → Environment → LoopHeader → Const → Turns
turns_from zero env h c =
    let inner = with_constant env h.name.items c in
    if any_fault (condition_fault inner h.condition) then faulty (condition_fault inner h.condition)
    else if holds inner h.condition then endless
    else turns []
turns_from (suc n) env h c =
    let inner = with_constant env h.name.items c in
    if any_fault (condition_fault inner h.condition) then faulty (condition_fault inner h.condition)
    else if not (holds inner h.condition) then turns []
    else if any_fault (genvar_fault inner h.step) then faulty (genvar_fault inner h.step)
    else one_more c (turns_from n env h (genvar_value inner h.step))

-- a fault of a name that is to be a genvar (clause 12.4.1)
abbrev pub wrong_genvar : Option Binding → WidthReason → Bool
wrong_genvar None Unknown = true
wrong_genvar (Some b.Genvar) w = false
wrong_genvar (Some x) WrongKind = true
wrong_genvar x w = false

-- a fault of a name that is to be one and isn't
abbrev pub wrong_name : Option Binding → WidthReason → Bool
wrong_name None Unknown = true
wrong_name (Some x) WrongKind = true
wrong_name x w = false

-- a fault of the names of a header: both name one genvar (clause 12.4.1)
abbrev pub header_fault : Environment → LoopHeader → WidthReason → Bool
header_fault env h w =
    wrong_genvar (env h.name.items) w || (not (bytes_eq h.name.items h.next.items) && wrong_name (env h.next.items) w)

-- a design has at most so many turns of generate loops (profile)
abbrev pub turn_limit : ℕ
turn_limit = 65536

-- the turns of a loop (clause 12.4.1)
abbrev pub turns_of : Environment → LoopHeader → Turns
turns_of env h =
    if any_fault (header_fault env h) then faulty (header_fault env h)
    else if any_fault (genvar_fault env h.first) then faulty (genvar_fault env h.first)
    else turns_from turn_limit env h (genvar_value env h.first)

-- how many turns a loop has; none where it has a fault or doesn't end in time
abbrev pub turn_number : Turns → ℕ
turn_number (turns cs) = length cs
turn_number (faulty w) = 0
turn_number endless = 0

-- how many turns a piece has, which may be a loop
abbrev pub piece_turns : Environment → Piece → ℕ
piece_turns env (loop h x) = turn_number (turns_of env h)
piece_turns env _ = 0

-- how many turns the loops among pieces have, whether one opens a scope or not
abbrev pub turns_among : Environment → List Piece → ℕ
turns_among env ps = sum (map (piece_turns env) ps)

-- ---- branches

-- what an `if` generates, or the faults of a condition
pub data Taken : Type 0 where
  takes : Content → Taken
  refused : (WidthReason → Bool) → Taken

abbrev pub decided : Environment → Expr → Taken → Taken → Taken
decided env e x y =
    if any_fault (condition_fault env e) then refused (condition_fault env e) else if holds env e then x else y

abbrev pub else_taken : Option (Box (ModuleItem → Taken) Global) → Option (Box ModuleItem Global) → Taken
else_taken (Some g) (Some x) = g.value x.value
else_taken _ _ = takes nothing

-- one layer of a branch: an `if` without `begin` decides again, as part of the one before it (clause 12.4.2; profile)
abbrev pub taken_step : Environment → ModuleItem-F (ModuleItem → Taken) → ModuleItem-F ModuleItem → ModuleItem → Taken
taken_step env (m.If c g h) (m.If e x o) y = decided env e (g.value x.value) (else_taken h o)
taken_step env l k y = takes (content_step k y)

-- what a branch generates
abbrev pub branch_taken : Environment → ModuleItem → Taken
branch_taken env x = fold-ModuleItem (ModuleItem → Taken) (λ l y. taken_step env l (out-ModuleItem y) y) x x

abbrev pub other_taken : Environment → Option ModuleItem → Taken
other_taken env None = takes nothing
other_taken env (Some x) = branch_taken env x

-- what an `if` generates (clause 12.4.2)
abbrev pub chosen : Environment → Expr → ModuleItem → Option ModuleItem → Taken
chosen env e x o = decided env e (branch_taken env x) (other_taken env o)

-- ---- names of blocks

-- `genblk`, zeros, and a number (clause 12.4.3)
abbrev pub numbered_name : ℕ → ℕ → List ℕ
numbered_name padding k = codes "genblk" ++ replicate padding 48 ++ decimal k

-- the first such name, from so many zeros on, that is none of these and has at most 1,024 bytes, among so many
unfoldable pub free_name : ℕ → List (List ℕ) → ℕ → ℕ → Option (List ℕ)
free_name zero names padding k = None
free_name (suc n) names padding k =
    if nat_lt 1024 (length (numbered_name padding k)) then None
    else if list_any (bytes_eq (numbered_name padding k)) names then free_name n names (suc padding) k
    else Some (numbered_name padding k)

-- the name of an unnamed block of the generate construct of this number in its scope, where the text declares these names there
-- (clause 12.4.3; the bound: profile)
abbrev pub unnamed_name : List (List ℕ) → ℕ → Option (List ℕ)
unnamed_name names k = free_name 1024 names 0 k

-- the name of a block
abbrev pub name_of_block : List (List ℕ) → ℕ → Option (List ℕ) → Option (List ℕ)
name_of_block names k None = unnamed_name names k
name_of_block names k (Some n) = Some n

-- ---- inner scopes

-- what opens a scope in another one: an instance; a generate block, by the place of its construct among the pieces of the scope, its name in the path,
-- the genvar of a loop with its value, and its items; or a named block
pub data Inner : Type 0 where
  instance : Use → Inner
  generated : ℕ → PathName → List (List ℕ × Const) → List ModuleItem → Inner
  named : NamedBlock → Inner

-- a generate block, where it has a name
abbrev pub generates : ℕ → Option (List ℕ) → Option ℤ → List (List ℕ × Const) → List ModuleItem → List Inner
generates i None turn cs xs = []
generates i (Some n) turn cs xs = generated i (record { name = n; turn = turn }) cs xs ∷ []

-- what a turn or a branch of the construct of this place and number generates, where the text declares these names
abbrev pub content_inner : ℕ → List (List ℕ) → ℕ → Option ℤ → List (List ℕ × Const) → Content → List Inner
content_inner i names k turn cs nothing = []
content_inner i names k turn cs (block n xs) = generates i (name_of_block names k n) turn cs xs

-- what the turns of a loop generate, each with its genvar as a constant (clause 12.4.1)
abbrev pub turns_inner : ℕ → List (List ℕ) → ℕ → List ℕ → Content → List Const → List Inner
turns_inner i names k n x [] = []
turns_inner i names k n x (c ∷ cs) = content_inner i names k (genvar_number c) ((n, c) ∷ []) x ++ turns_inner i names k n x cs

abbrev pub loop_inner : ℕ → List (List ℕ) → ℕ → List ℕ → Content → Turns → List Inner
loop_inner i names k n x (turns cs) = turns_inner i names k n x cs
loop_inner i names k n x (faulty w) = []
loop_inner i names k n x endless = []

abbrev pub choice_inner : ℕ → List (List ℕ) → ℕ → Taken → List Inner
choice_inner i names k (takes x) = content_inner i names k None [] x
choice_inner i names k (refused w) = []

-- what a piece opens, where names are bound so, the text declares these names, and it is the construct of this number if it is one
abbrev pub inner_in : ℕ → Environment → List (List ℕ) → ℕ → Piece → List Inner
inner_in i env names k (plain x) = map instance (uses_by_item x) ++ map named (blocks_of x)
inner_in i env names k (loop h x) = loop_inner i names k h.name.items (content_of x) (turns_of env h)
inner_in i env names k (choice e x o) = choice_inner i names k (chosen env e x o)
inner_in i env names k (local x) = []
inner_in i env names k (inside b) = named b ∷ []
inner_in i env names k (net n) = []

-- the number of the next generate construct, behind a piece (clause 12.4.3)
abbrev pub after_piece : ℕ → Piece → ℕ
after_piece k (loop h x) = suc k
after_piece k (choice e x o) = suc k
after_piece k _ = k

-- what pieces open, in the order of the text, where the first has this place and the first generate construct this number
abbrev pub inner_from : ℕ → Environment → List (List ℕ) → ℕ → List Piece → List Inner
inner_from i env names k [] = []
inner_from i env names k (p ∷ ps) = inner_in i env names k p ++ inner_from (suc i) env names (after_piece k p) ps

-- ---- faults of generate constructs

-- whether what is generated is a block that has no name
abbrev pub is_nameless : List (List ℕ) → ℕ → Content → Bool
is_nameless names k nothing = false
is_nameless names k (block (Some n) xs) = false
is_nameless names k (block None xs) = is_none (unnamed_name names k)

-- a fault of the turns of a loop: one of its header, more turns than there may be, or a block without a name for a turn (profile)
abbrev pub turns_fault : Reason → List (List ℕ) → ℕ → Content → Turns → Bool
turns_fault (Width w) names k x (faulty faults) = faults w
turns_fault Endless names k x endless = true
turns_fault Unnamed names k x (turns (c ∷ cs)) = is_nameless names k x
turns_fault r names k x t = false

-- a fault of an `if`: one of a condition, or a block without a name
abbrev pub taken_fault : Reason → List (List ℕ) → ℕ → Taken → Bool
taken_fault (Width w) names k (refused faults) = faults w
taken_fault Unnamed names k (takes x) = is_nameless names k x
taken_fault r names k t = false

-- a fault of a generate construct
abbrev pub construct_fault : Reason → Environment → List (List ℕ) → ℕ → Piece → Bool
construct_fault r env names k (loop h x) = turns_fault r names k (content_of x) (turns_of env h)
construct_fault r env names k (choice e x o) = taken_fault r names k (chosen env e x o)
construct_fault r env names k _ = false

-- a fault of one of the generate constructs of a scope, of which the first has this number
abbrev pub constructs_fault : Reason → Environment → List (List ℕ) → ℕ → List Piece → Bool
constructs_fault r env names k [] = false
constructs_fault r env names k (p ∷ ps) = construct_fault r env names k p || constructs_fault r env names (after_piece k p) ps
