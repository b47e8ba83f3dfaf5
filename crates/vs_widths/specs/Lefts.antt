-- What the left side of an assignment means, and an expression that has its form.
use Rattle.std.specs.Prelude.{Bool, true, false, ◌&&◌, ◌||◌, not, if◌then◌else◌, List, [], ◌∷◌, ◌++◌, Option, Some, None, map}
use Rattle.std.specs.List.{list_all}
use Rattle.vs_syntax.specs.declared.tree.Expr.{Expr}
use Rattle.vs_syntax.specs.declared.tree.Expr.TheOpen.{Expr-F}
use Rattle.vs_syntax.specs.declared.tree.Expr.TheOpen as e
use Rattle.vs_syntax.specs.declared.tree.Expr.TheFolds.{fold-Expr, para-Expr}
use Rattle.vs_syntax.specs.declared.tree.PartSelect.{PartSelect}
use Rattle.vs_syntax.specs.declared.tree.Left.{Left}
use Rattle.vs_syntax.specs.declared.tree.Left.TheOpen.{Left-F}
use Rattle.vs_syntax.specs.declared.tree.Left.TheOpen as f
use Rattle.vs_syntax.specs.declared.tree.Left.TheFolds.{fold-Left}
use Rattle.vs_design.specs.Kinds.{is_variable}
use Rattle.vs_design.specs.declared.range.BitRange.{BitRange}
use Rattle.vs_design.specs.declared.signal.SignalKind.{SignalKind}
use Rattle.vs_widths.specs.declared.bindings.Binding.{Binding}
use Rattle.vs_widths.specs.declared.bindings.Binding.TheVariants.{Signal, Constant, Pending, Other, Genvar}
use Rattle.vs_widths.specs.declared.faults.WidthReason.{WidthReason}
use Rattle.vs_widths.specs.Environment.{Environment}
use Rattle.vs_widths.specs.Findings.{Finding, Lacks, has_width_fault, wrong_kind, not_constant, together, beside}
use Rattle.vs_widths.specs.Selects.{Select, Named, named}
use Rattle.vs_widths.specs.Expressions.{meant_selects}
use Rattle.vs_widths.specs.declared.kinds.AssignmentKind.{AssignmentKind}
use Rattle.vs_widths.specs.declared.kinds.AssignmentKind.TheVariants.{Procedural, Continuous, Event}

-- What the left side of an assignment means: its size, and what its places are, the lowest first (clauses 6.1 and 9.2).
pub record Aimed : Type 0 where
  pub finding : Finding
  pub places : List Named

-- a size and sign where a test holds; otherwise a fault, beside those that stand
abbrev pub wanted : (WidthReason → Bool) → Bool → Finding → Finding
wanted faults true found = found
wanted faults false found = Lacks (λ r. faults r || has_width_fault r found)

-- whether an assignment of this kind may assign to a signal of that kind: procedural to variables, continuous to nets; an event control
-- waits for any (clauses 6.1, 9.2 and 9.7.2)
abbrev pub takes : AssignmentKind → SignalKind → Bool
takes Procedural kind = is_variable kind
takes Continuous kind = not (is_variable kind)
takes Event kind = true

-- the same of what a name is bound to: what is no signal is assigned nothing; a name that isn't declared has a fault of its own
abbrev pub takes_bound : AssignmentKind → Option Binding → Bool
takes_bound how None = true
takes_bound how (Some (Signal m signal)) = takes how m.kind
takes_bound how (Some (Constant c)) = false
takes_bound how (Some Pending) = false
takes_bound how (Some Other) = false
takes_bound how (Some Genvar) = false

-- whether the target of an assignment of this kind may have indices that read this: of a continuous one, and of what an event control waits
-- for, they are constant (clause 6.1; events: profile)
abbrev pub takes_reads : AssignmentKind → List BitRange → Bool
takes_reads Procedural reads = true
takes_reads Continuous [] = true
takes_reads Continuous (r ∷ rs) = false
takes_reads Event [] = true
takes_reads Event (r ∷ rs) = false

-- what a name with its selects means as a target, by what the name is bound to (clauses 6.1 and 9.2)
abbrev pub name_aimed : AssignmentKind → Option Binding → List Select → Aimed
name_aimed how b ss = record {
  finding = wanted wrong_kind (takes_bound how b) (wanted not_constant (takes_reads how (named b ss).reads) (named b ss).finding);
  places = named b ss ∷ [];
}

-- the sum of the sizes of parts (clause 5.1.14; at most 64: profile)
abbrev pub sum_found : Finding → List Finding → Finding
sum_found found [] = found
sum_found found (x ∷ xs) = sum_found (together beside found x) xs

-- the places of parts, those of the last one the lowest (clause 5.1.14)
abbrev pub from_last : List (List Named) → List Named
from_last [] = []
from_last (ns ∷ nss) = from_last nss ++ ns

-- `{first, ..}` (clause 5.1.14)
abbrev pub concat_aimed : Aimed → List Aimed → Aimed
concat_aimed first rest = record {
  finding = sum_found first.finding (map (λ (a : Aimed). a.finding) rest);
  places = from_last (map (λ (a : Aimed). a.places) (first ∷ rest));
}

-- one layer of a left side, with what each inner one means in its place
abbrev pub aimed_step : AssignmentKind → Environment → Left-F Aimed → Aimed
aimed_step how env (f.Name n ss) = name_aimed how (env n.items) (meant_selects env ss.items)
aimed_step how env (f.Concat x xs) = concat_aimed x.value xs.items

-- what the left side of an assignment means, by its form (clauses 6.1 and 9.2)
abbrev pub aimed : AssignmentKind → Environment → Left → Aimed
aimed how env = fold-Left Aimed (aimed_step how env)

-- ---- what an output port is connected to

-- one layer of an expression, with whether each inner one has the form of a left side
abbrev pub is_left_step : Expr-F Bool → Bool
is_left_step (e.Name n) = true
is_left_step (e.Select n ss) = true
is_left_step (e.Concat x xs) = x.value && list_all (λ b. b) xs.items
is_left_step _ = false

-- whether an expression has the form of a left side: a name, a name with selects, or a concatenation of such (clauses 6.1 and 12.3.9.2)
abbrev pub is_left : Expr → Bool
is_left = fold-Expr Bool is_left_step

-- the expressions of a select
abbrev pub bare_select : (Expr × Aimed) × Option (PartSelect × (Expr × Aimed)) → Expr × Option (PartSelect × Expr)
bare_select (i, None) = (i.0, None)
bare_select (i, Some (how, m)) = (i.0, Some (how, m.0))

-- what means no target
abbrev pub no_target : Aimed
no_target = record { finding = Lacks (λ r. false); places = [] }

-- one layer of an expression, each inner one with what it means as a target
abbrev pub as_left_step : AssignmentKind → Environment → Expr-F (Expr × Aimed) → Aimed
as_left_step how env (e.Name n) = name_aimed how (env n.items) []
as_left_step how env (e.Select n ss) = name_aimed how (env n.items) (meant_selects env (map bare_select ss.items))
as_left_step how env (e.Concat x xs) = concat_aimed x.value.1 (map (λ (p : Expr × Aimed). p.1) xs.items)
as_left_step how env _ = no_target

-- what an expression means as a target, by its form, where that is the form of a left side: what the left side of the same text does
abbrev pub as_left : AssignmentKind → Environment → Expr → Aimed
as_left how env = para-Expr Aimed (as_left_step how env)

-- what an expression means as a target: what the left side of the same text does, and where it hasn't that form, none (clause 12.3.9.2)
abbrev pub expr_aimed : AssignmentKind → Environment → Expr → Aimed
expr_aimed how env x = if is_left x then as_left how env x else no_target
