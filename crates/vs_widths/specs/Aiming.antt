-- Targets of a design that are what those of a source are.
use Rattle.std.specs.Prelude.{◌≡◌, ℕ, Bool, true, false, ◌&&◌, List, [], ◌∷◌, Some, None, is_some, map, sum}
use Rattle.std.specs.List.{list_all}
use Rattle.vs_design.specs.vs_logic4.specs.declared.digit.Digit.{Digit}
use Rattle.vs_design.specs.declared.statement.Aim.{Aim}
use Rattle.vs_design.specs.declared.statement.Aim.TheVariants.{Fixed, Chosen}
use Rattle.vs_design.specs.declared.statement.Target.{Target}
use Rattle.vs_design.specs.declared.range.BitRange.{BitRange}
use Rattle.vs_design.specs.declared.write.Part.{Part}
use Rattle.vs_design.specs.Stores.{Store}
use Rattle.vs_design.specs.Uses.{aim_range, aim_reads, writes}
use Rattle.vs_design.specs.WellFormed.{aim_width, size_of}
use Rattle.vs_widths.specs.vs_eval.specs.Targets.{part_at}
use Rattle.vs_widths.specs.declared.bindings.Meaning.{Meaning}
use Rattle.vs_widths.specs.declared.bindings.Binding.TheVariants.{Signal}
use Rattle.vs_widths.specs.Environment.{Environment}
use Rattle.vs_widths.specs.Findings.{Has}
use Rattle.vs_widths.specs.Selects.{Named, named_range}
use Rattle.vs_widths.specs.Typing.{HoldsOfSignals}
use Rattle.vs_widths.specs.Each.{Each}
use Rattle.vs_widths.specs.declared.kinds.AssignmentKind.{AssignmentKind}
use Rattle.vs_widths.specs.Lefts.{Aimed, takes, takes_reads}

-- whether nothing is read
abbrev pub is_none_read : List BitRange → Bool
is_none_read [] = true
is_none_read (r ∷ rs) = false

-- whether a place has constant indices
abbrev pub is_fixed : Aim → Bool
is_fixed (Fixed s) = true
is_fixed (Chosen s word low) = false

-- whether the indices of a place have sizes
abbrev pub has_sized_indices : Aim → Bool
has_sized_indices (Fixed s) = true
has_sized_indices (Chosen s word low) = is_some (size_of word) && is_some (size_of low)

-- the part of a write that gives what is named these digits, its indices read in the store before (clause 9.2)
abbrev pub named_part : Named → List Digit → Store → ℕ → Part
named_part n digits store time = record { signal = n.signal; word = n.word store time; low = n.low store time; digits = digits }

-- A place of a design that is what a name with its selects names: it has their size, range and indices, and in each store its part of a
-- write is the one that they name; the name is bound to a signal of a kind that the assignment takes, and the indices read signals to which
-- names are bound (clauses 5.2.1, 6.1 and 9.2).
pub record IsPlace (how : AssignmentKind) (env : Environment) (n : Named) (a : Aim) : Type 0 where
  pub signed : Bool
  pub found : n.finding ≡ Has (aim_width a) signed
  pub name : List ℕ
  pub meaning : Meaning
  pub number : ℕ
  pub bound : env name ≡ Some (Signal meaning number)
  pub signal : n.signal ≡ number
  pub taken : takes how meaning.kind ≡ true
  pub within : (test : ℕ → Bool) → HoldsOfSignals env test → list_all (λ (r : BitRange). test r.signal) n.reads ≡ true
  pub constant : takes_reads how n.reads ≡ true
  pub scalar : meaning.words ≡ None → (store : Store) (time : ℕ) → n.word store time ≡ 0
  pub fixed : is_fixed a ≡ is_none_read n.reads
  pub range : aim_range a ≡ named_range n
  pub reads : aim_reads a ≡ n.reads
  pub sizes : has_sized_indices a ≡ true
  pub part : (digits : List Digit) (store : Store) (time : ℕ) → part_at a digits store time ≡ named_part n digits store time

-- The target of a design that is what a left side means: no fault stands, it has this size, it writes what is named, and its places are
-- those that are named, the lowest first (clauses 6.1 and 9.2).
pub record IsTarget (how : AssignmentKind) (env : Environment) (m : Aimed) (t : Target) : Type 0 where
  pub signed : Bool
  pub found : m.finding ≡ Has t.width signed
  pub places : Each (IsPlace how env) m.places t.parts.items
  pub width : sum (map aim_width t.parts.items) ≡ t.width
  pub ranges : writes t ≡ map named_range m.places
