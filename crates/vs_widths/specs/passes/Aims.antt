-- Places and targets as they are made.
use Rattle.std.specs.Prelude.{◌≡◌, ℕ, ◌+◌, Bool, true, false, ◌&&◌, List, ◌++◌, Some, None, Result, Ok, Err}
use Rattle.std.specs.List.{list_all}
use Rattle.vs_design.specs.vs_logic4.specs.declared.digit.Digit.{Digit}
use Rattle.vs_design.specs.declared.range.BitRange.{BitRange}
use Rattle.vs_design.specs.declared.statement.Aim.{Aim}
use Rattle.vs_design.specs.declared.statement.Aim.TheVariants.{Fixed, Chosen}
use Rattle.vs_design.specs.declared.statement.Target.{Target}
use Rattle.vs_design.specs.Stores.{Store}
use Rattle.vs_design.specs.Uses.{aim_range, aim_reads}
use Rattle.vs_design.specs.WellFormed.{aim_width}
use Rattle.vs_widths.specs.vs_eval.specs.Targets.{part_at}
use Rattle.vs_widths.specs.declared.bindings.Binding.{Binding}
use Rattle.vs_widths.specs.declared.faults.WidthFault.{WidthFault}
use Rattle.vs_widths.specs.Environment.{Environment}
use Rattle.vs_widths.specs.Findings.{Has, unsigned, Refuses}
use Rattle.vs_widths.specs.Selects.{Select, Named, named, named_range}
use Rattle.vs_widths.specs.Typing.{HoldsOfSignals}
use Rattle.vs_widths.specs.declared.kinds.AssignmentKind.{AssignmentKind}
use Rattle.vs_widths.specs.declared.kinds.AssignmentKind.TheVariants.{Procedural, Continuous, Event}
use Rattle.vs_widths.specs.Lefts.{Aimed, takes_bound, takes_reads, name_aimed}
use Rattle.vs_widths.specs.Aiming.{is_none_read, is_fixed, has_sized_indices, named_part, IsTarget}

-- a place of a design that is what is named
pub record IsAim (n : Named) (a : Aim) : Type 0 where
  pub signed : Bool
  pub found : n.finding ≡ Has (aim_width a) signed
  pub fixed : is_fixed a ≡ is_none_read n.reads
  pub range : aim_range a ≡ named_range n
  pub reads : aim_reads a ≡ n.reads
  pub sizes : has_sized_indices a ≡ true
  pub part : (digits : List Digit) (store : Store) (time : ℕ) → part_at a digits store time ≡ named_part n digits store time

-- whether the target of an assignment of this kind may have such a place: that of a continuous one, and what an event control waits for,
-- has constant indices alone (clause 6.1; events: profile)
abbrev pub takes_aim : AssignmentKind → Aim → Bool
takes_aim how (Fixed s) = true
takes_aim Procedural (Chosen s word low) = true
takes_aim Continuous (Chosen s word low) = false
takes_aim Event (Chosen s word low) = false

-- the same of what is bound to a name, where an assignment takes it
pub record IsTakenAim (how : AssignmentKind) (b : Binding) (ss : List Select) (a : Aim) : Type 0 where
  pub is : IsAim (named (Some b) ss) a
  pub taken : takes_bound how (Some b) ≡ true
  pub constant : takes_reads how (named (Some b) ss).reads ≡ true

-- such a place, or a fault
abbrev pub AimsAt : AssignmentKind → Binding → List Select → Result Aim WidthFault → Type 0
AimsAt how b ss (Ok a) = IsTakenAim how b ss a
AimsAt how b ss (Err e) = Refuses (name_aimed how (Some b) ss).finding e

-- a select whose expressions read signals of which a test holds
abbrev pub select_passes : (ℕ → Bool) → Select → Bool
select_passes test (i, None) = list_all (λ (r : BitRange). test r.signal) i.reads
select_passes test (i, Some (how, m)) =
    list_all (λ (r : BitRange). test r.signal) i.reads && list_all (λ (r : BitRange). test r.signal) m.reads

-- selects whose expressions read signals to which names are bound
abbrev pub AreWithin : Environment → List Select → Type 0
AreWithin env ss = (test : ℕ → Bool) → HoldsOfSignals env test → list_all (select_passes test) ss ≡ true

-- the target of what a left side means, or a fault
abbrev pub Aims : AssignmentKind → Environment → Aimed → Result Target WidthFault → Type 0
Aims how env m (Ok t) = IsTarget how env m t
Aims how env m (Err e) = Refuses m.finding e

-- two targets beside one another
pub record IsJoined (high low t : Target) : Type 0 where
  pub parts : t.parts.items ≡ low.parts.items ++ high.parts.items
  pub width : t.width ≡ high.width + low.width

-- two targets beside one another, or the fault that they are too wide
abbrev pub Joins : Target → Target → Result Target WidthFault → Type 0
Joins high low (Ok t) = IsJoined high low t
Joins high low (Err e) = Refuses (unsigned (high.width + low.width)) e
