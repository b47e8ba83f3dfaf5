-- What holds of every design.
use Rattle.std.specs.Prelude.{◌≡◌, ℕ, suc, ◌+◌, ◌*◌, Bool, true, false, ◌&&◌, ◌==◌, not, if◌then◌else◌, nat_lt, nat_le, nat_eq, min, max, sum, List, [], ◌∷◌, ◌++◌, Option, Some, None, is_some, option_map, length, map, slice_get, ◌<◌}
use Rattle.std.specs.List.{list_all, flat_map, IsDistinct, All, Contains}
use Rattle.std.specs.Str.{bytes_eq}
use Rattle.std.specs.declared.vec.Vec.{Vec}
use Rattle.std.specs.declared.alloc.Global.{Global}
use Rattle.vs_logic4.specs.declared.operators.Sizing.{Sizing}
use Rattle.vs_logic4.specs.declared.operators.Sizing.TheVariants.{Alike, Shift, Comparison, Logical}
use Rattle.vs_logic4.specs.Operators.{gives_bit, sizing_of}
use Rattle.vs_design.specs.declared.signal.Signal.{Signal}
use Rattle.vs_design.specs.declared.expression.Link.{Link}
use Rattle.vs_design.specs.declared.expression.Typed.{Typed, Typed-F, fold-Typed}
use Rattle.vs_design.specs.declared.expression.Typed.TheOpen as t
use Rattle.vs_design.specs.declared.range.Bits.{Bits}
use Rattle.vs_design.specs.declared.statement.Aim.{Aim}
use Rattle.vs_design.specs.declared.statement.Aim.TheVariants.{Fixed, Chosen}
use Rattle.vs_design.specs.declared.statement.Target.{Target}
use Rattle.vs_design.specs.declared.statement.EventTerm.{EventTerm}
use Rattle.vs_design.specs.declared.statement.FormatArg.{FormatArg}
use Rattle.vs_design.specs.declared.statement.FormatArg.TheVariants as arg
use Rattle.vs_design.specs.declared.statement.Call.{Call}
use Rattle.vs_design.specs.declared.statement.Statement.{Statement}
use Rattle.vs_design.specs.declared.statement.Statement.TheOpen.{Statement-F}
use Rattle.vs_design.specs.declared.statement.Statement.TheOpen as f
use Rattle.vs_design.specs.declared.statement.Statement.TheFolds.{fold-Statement}
use Rattle.vs_design.specs.declared.statement.Statement.TheViews.{out-Statement}
use Rattle.vs_design.specs.declared.design.Assign.{Assign}
use Rattle.vs_design.specs.declared.design.Process.{Process}
use Rattle.vs_design.specs.declared.design.ProcessKind.{ProcessKind}
use Rattle.vs_design.specs.declared.design.ProcessKind.TheVariants.{Initial, Always}
use Rattle.vs_design.specs.declared.design.Entry.{Entry}
use Rattle.vs_design.specs.declared.design.Entry.TheVariants.{Enter, Declare, Leave}
use Rattle.vs_design.specs.Kinds.{is_variable}
use Rattle.vs_design.specs.Parts.{Parts}
use Rattle.vs_design.specs.declared.range.BitRange.{BitRange}
use Rattle.vs_design.specs.Uses.{joined, reads, writes}

-- ---- sizes

-- the size of an operator's result at the operands' sizes, where the operands of a link of this size have the right ones (clause 5.4.1); the left
-- operand of a comparison may be a smaller one, which has no sign
abbrev pub sized_by : Sizing → ℕ → ℕ → ℕ → Option ℕ
sized_by Alike width left right = if (left == width) && (right == width) then Some width else None
sized_by Shift width left right = if left == width then Some width else None
sized_by Comparison width left right = if nat_le left width && (right == width) then Some 1 else None
sized_by Logical width left right = Some 1

-- the size of what a link gives of what stands on its left and of the operand on its right, where both have one
abbrev pub linked_size : Option ℕ → Link × Option ℕ → Option ℕ
linked_size (Some left) (l, Some right) = sized_by (sizing_of l.operator) l.width left right
linked_size _ _ = None

-- the size of a chain, from left to right (clause 5.1.2)
abbrev pub chain_size : Option ℕ → List (Link × Option ℕ) → Option ℕ
chain_size first [] = first
chain_size first (l ∷ ls) = chain_size (linked_size first l) ls

-- the size of an operand behind a condition, where the condition has a size and the other operand the same one (clause 5.4.1)
abbrev pub picked_size : Option ℕ → Option ℕ → Option ℕ → Option ℕ
picked_size (Some condition) (Some value) (Some other) = if value == other then Some value else None
picked_size _ _ _ = None

-- the one size of the operands of a `?:` (clauses 5.1.13 and 5.4.1)
abbrev pub choice_size : List (Option ℕ × Option ℕ) → Option ℕ → Option ℕ
choice_size [] last = last
choice_size (p ∷ ps) last = picked_size p.0 p.1 (choice_size ps last)

-- the sum of sizes, where each is known
abbrev pub sum_size : List (Option ℕ) → Option ℕ
sum_size [] = Some 0
sum_size (None ∷ sizes) = None
sum_size (Some n ∷ sizes) = option_map (λ m. n + m) (sum_size sizes)

-- the size of chosen bits, where both indices have one
abbrev pub indexed_size : ℕ → Option ℕ → Option ℕ → Option ℕ
indexed_size width (Some word) (Some low) = Some width
indexed_size width _ _ = None

-- a size of at most 64 bits (profile)
abbrev pub at_most_64 : Option ℕ → Option ℕ
at_most_64 None = None
at_most_64 (Some n) = if nat_le n 64 then Some n else None

-- one layer of an expression: its size, where its operands have those that they must have, with that of each inner expression in its place
abbrev pub size_step : Typed-F (Option ℕ) → Option ℕ
size_step (t.Number digits) = Some (length digits)
size_step (t.Signal o) = Some o.width
size_step (t.Slice s) = Some s.width
size_step (t.Select s word low) = indexed_size s.width word.value low.value
size_step (t.Excerpt s low) = option_map (λ n. s.width) low.value
size_step (t.Unary op x) = option_map (λ n. if gives_bit op then 1 else n) x.value
size_step (t.Chain x links) = chain_size x.value links.items
size_step (t.Choice pairs last) = choice_size pairs.items last.value
size_step (t.Concat x xs) = at_most_64 (sum_size (x.value ∷ xs.items))
size_step (t.Repeat n x) = at_most_64 (option_map (λ m. n.times * m) x.value)
size_step (t.Resized size x) = option_map (λ n. size.width) x.value

-- the size of an expression in bits, where its operands have those that they must have (clause 5.4.1)
abbrev pub size_of : Typed → Option ℕ
size_of = fold-Typed (Option ℕ) size_step

-- whether two sizes are known and equal
abbrev pub same_size : Option ℕ → Option ℕ → Bool
same_size (Some n) (Some m) = n == m
same_size _ _ = false

-- whether a size is known, and isn't below this one
abbrev pub is_at_least : ℕ → Option ℕ → Bool
is_at_least width None = false
is_at_least width (Some n) = nat_le width n

-- ---- names

-- whether the signals of ranges are signals of the design
abbrev pub are_within : List Signal → List BitRange → Bool
are_within ss ranges = list_all (λ (r : BitRange). nat_lt r.signal (length ss)) ranges

-- whether the signals of an expression are signals of the design
abbrev pub is_within : List Signal → Typed → Bool
is_within ss e = are_within ss (reads e)

-- ---- targets

-- whether a signal of the design is a variable
abbrev pub is_of_variable : Option Signal → Bool
is_of_variable None = false
is_of_variable (Some s) = is_variable s.kind

-- whether a signal of the design is a net, of one word
abbrev pub is_of_net : Option Signal → Bool
is_of_net None = false
is_of_net (Some s) = not (is_variable s.kind) && (s.count == 1)

-- how many bits a place has
abbrev pub aim_width : Aim → ℕ
aim_width (Fixed s) = s.width
aim_width (Chosen s word low) = s.width

-- whether a place is one of a variable, with indices that have sizes (clauses 6.2 and 9.2)
abbrev pub is_variable_aim : List Signal → Aim → Bool
is_variable_aim ss (Fixed s) = is_of_variable (slice_get ss s.signal)
is_variable_aim ss (Chosen s word low) =
    is_of_variable (slice_get ss s.signal) && is_within ss word && is_within ss low && is_some (size_of word) && is_some (size_of low)

-- whether a place is one of a net, with constant indices (clause 6.1)
abbrev pub is_net_aim : List Signal → Aim → Bool
is_net_aim ss (Fixed s) = is_of_net (slice_get ss s.signal) && (s.word == 0)
is_net_aim ss (Chosen s word low) = false

-- whether a target has places, all of this sort, whose sizes add up to its own (clause 5.4.1)
abbrev pub is_sound_target : (Aim → Bool) → Target → Bool
is_sound_target test t = list_all test t.parts.items && (sum (map aim_width t.parts.items) == t.width)

-- ---- assignments

-- whether a right side reads signals of the design alone, and has a size that isn't below the target's (clause 5.4.1)
abbrev pub is_source : List Signal → Target → Typed → Bool
is_source ss t e = is_within ss e && is_at_least t.width (size_of e)

-- whether an assignment of a process writes variables of the design (clauses 6.2 and 9.2)
abbrev pub is_sound_assignment : List Signal → Target → Typed → Bool
is_sound_assignment ss t e = is_sound_target (is_variable_aim ss) t && is_source ss t e

-- whether a continuous assignment drives nets of the design (clause 6.1)
abbrev pub is_sound_assign : List Signal → Assign → Bool
is_sound_assign ss a = is_sound_target (is_net_aim ss) a.target && is_source ss a.target a.source

-- ---- drivers

-- the size of a signal
abbrev pub width_at : Option Signal → ℕ
width_at None = 0
width_at (Some s) = s.width

-- whether two ranges of bits have a bit below this number
abbrev pub have_common : ℕ → Bits → Bits → Bool
have_common size a b = nat_lt (max a.low b.low) (min size (min (a.low + a.width) (b.low + b.width)))

-- the bits of a range; all of a word where it has none
abbrev pub bits_or_all : ℕ → Option Bits → Bits
bits_or_all size None = record { low = 0; width = size }
bits_or_all size (Some b) = b

-- whether two ranges have a bit of a net of the design (clause 6.1)
abbrev pub share_a_bit : List Signal → BitRange → BitRange → Bool
share_a_bit ss r q =
    let size = width_at (slice_get ss r.signal) in
    (r.signal == q.signal) && have_common size (bits_or_all size r.bits) (bits_or_all size q.bits)

-- the ranges that continuous assignments drive
abbrev pub driven : List Assign → List BitRange
driven assigns = flat_map (λ (a : Assign). writes a.target) assigns

-- ---- statements

-- whether a condition or a count reads signals of the design alone, and has a size (clauses 5.4.1, 9.4 and 9.6)
abbrev pub is_sound_operand : List Signal → Typed → Bool
is_sound_operand ss e = is_within ss e && is_some (size_of e)

-- whether an argument of a call reads signals of the design alone, and has a size (clauses 5.4.1 and 17.1)
abbrev pub is_sound_arg : List Signal → FormatArg → Bool
is_sound_arg ss (arg.Value signed e) = is_sound_operand ss e
is_sound_arg ss arg.Time = true

-- whether the arguments of a call are sound (clause 17.1)
abbrev pub is_sound_call : List Signal → Call → Bool
is_sound_call ss c = list_all (is_sound_arg ss) c.args.items

-- whether the size of an expression of a `case` item is that of the `case` expression (clause 9.5)
abbrev pub is_alike : Typed → Typed → Bool
is_alike x e = same_size (size_of x) (size_of e)

-- whether the expressions of a `case` item are sound, where the `case` expression is this one (clause 9.5)
abbrev pub are_sound_labels : List Signal → Typed → List Typed → Bool
are_sound_labels ss x es = list_all (λ e. is_sound_operand ss e && is_alike x e) es

-- whether the bits of event terms are of signals of the design (clause 9.7.2)
abbrev pub are_sound_terms : List Signal → List EventTerm → Bool
are_sound_terms ss terms = are_within ss (map (λ (t : EventTerm). t.range) terms)

-- one layer of a statement: whether its assignments and its expressions are sound, with the answer for each inner statement in its place
abbrev pub sound_step : List Signal → Statement-F Bool → Bool
sound_step ss (f.Null n) = true
sound_step ss (f.Assign n t e) = is_sound_assignment ss t e
sound_step ss (f.Later n ticks t e) = is_sound_assignment ss t e
sound_step ss (f.Call n c) = is_sound_call ss c
sound_step ss (f.Finish n) = true
sound_step ss (f.Block all) = list_all (λ b. b) all.items
sound_step ss (f.Delay n ticks body) = body.value
sound_step ss (f.Event n terms body) = are_sound_terms ss terms.items && body.value
sound_step ss (f.If n e a b) = is_sound_operand ss e && a.value && b.value
sound_step ss (f.Case n kind x items) =
    is_sound_operand ss x && list_all (λ (i : Vec Typed Global × Bool). are_sound_labels ss x i.0.items && i.1) items.items
sound_step ss (f.While n e body) = is_sound_operand ss e && body.value
sound_step ss (f.Repeat n signed e body) = is_sound_operand ss e && body.value
sound_step ss (f.Forever n body) = body.value

-- whether the assignments and the expressions of a statement are sound
abbrev pub is_sound_statement : List Signal → Statement → Bool
is_sound_statement ss = fold-Statement Bool (sound_step ss)

-- one layer of a statement: its number and those in it, in their order
abbrev pub numbers_step : Statement-F (List ℕ) → List ℕ
numbers_step (f.Null n) = n ∷ []
numbers_step (f.Assign n t e) = n ∷ []
numbers_step (f.Later n ticks t e) = n ∷ []
numbers_step (f.Call n c) = n ∷ []
numbers_step (f.Finish n) = n ∷ []
numbers_step (f.Block all) = joined all.items
numbers_step (f.Delay n ticks body) = n ∷ body.value
numbers_step (f.Event n terms body) = n ∷ body.value
numbers_step (f.If n e a b) = n ∷ a.value ++ b.value
numbers_step (f.Case n kind x items) = n ∷ joined (map (λ (i : Vec Typed Global × List ℕ). i.1) items.items)
numbers_step (f.While n e body) = n ∷ body.value
numbers_step (f.Repeat n signed e body) = n ∷ body.value
numbers_step (f.Forever n body) = n ∷ body.value

-- the numbers of a statement and of those in it, in their order
abbrev pub numbers : Statement → List ℕ
numbers = fold-Statement (List ℕ) numbers_step

-- whether numbers count up from one on
abbrev pub counts_from : ℕ → List ℕ → Bool
counts_from first [] = true
counts_from first (n ∷ ns) = (n == first) && counts_from (suc first) ns

abbrev pub is_forever : {A : Type 0} → Statement-F A → Bool
is_forever (f.Forever n body) = true
is_forever _ = false

-- whether a body is one of a process of this kind: that of an `always` is a `forever` (clause 9.9.2)
abbrev pub is_body_of : ProcessKind → Statement → Bool
is_body_of Initial body = true
is_body_of Always body = is_forever (out-Statement body)

-- whether a process is sound: its assignments and expressions, its statements' numbers, its kind
abbrev pub is_sound_process : List Signal → Process → Bool
is_sound_process ss p = is_sound_statement ss p.body && counts_from 0 (numbers p.body) && is_body_of p.kind p.body

-- ---- the outline

-- the signal that a line of an outline declares
abbrev pub declared_by : Entry → List ℕ
declared_by (Enter kind name) = []
declared_by (Declare signal) = signal ∷ []
declared_by Leave = []

-- the signals that an outline declares
abbrev pub declared_in : List Entry → List ℕ
declared_in outline = flat_map declared_by outline

-- a design whose numbers are those of its signals; whose processes write variables alone, and whose continuous assignments drive nets alone, each
-- bit of a net at most once; whose outline declares each signal once; and whose printed names differ
pub record WellFormed (d : Parts) : Type 0 where
  pub processes : All (λ (p : Process). is_sound_process d.signals p ≡ true) d.processes
  pub assigns : All (λ (a : Assign). is_sound_assign d.signals a ≡ true) d.assigns
  pub drivers : IsDistinct (share_a_bit d.signals) (driven d.assigns)
  pub declared : All (λ n. nat_lt n (length d.signals) ≡ true) (declared_in d.outline)
  pub declared_once : IsDistinct nat_eq (declared_in d.outline)
  pub all_declared : (n : ℕ) → n < length d.signals → Contains (declared_in d.outline) n
  pub paths : IsDistinct bytes_eq (map (λ (s : Signal). s.path.items) d.signals)
  pub names : IsDistinct bytes_eq (map (λ (p : Process). p.name.items) d.processes)
  pub assign_names : IsDistinct bytes_eq (map (λ (a : Assign). a.name.items) d.assigns)
