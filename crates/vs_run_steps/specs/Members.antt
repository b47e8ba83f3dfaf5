-- The continuous assignments of a group, and what they have to do.
use Rattle.std.specs.Prelude.{ℕ, List, length, get_or, is_some, slice_get, if◌then◌else◌}
use Rattle.vs_run_active.specs.vs_process.specs.declared.moves.Move.{Move}
use Rattle.vs_run_active.specs.vs_process.specs.declared.moves.Move.TheVariants.{Evaluate, Propagate}
use Rattle.vs_run_active.specs.vs_process.specs.Executions.{if_some}
use Rattle.vs_run_active.specs.vs_process.specs.States.{AssignState}
use Rattle.vs_run_active.specs.declared.tables.Tables.{Tables}
use Rattle.vs_run_active.specs.Groups.{group_members, no_group}

-- the members of a group
abbrev pub members_in : Tables → ℕ → List ℕ
members_in tables group = group_members (get_or tables.groups.groups.items group no_group) tables.groups.members.items

-- what a continuous assignment has to do next: its update, where a value waits to be written
abbrev pub assign_move : List AssignState → ℕ → Move
assign_move assigns j = if if_some (λ (x : AssignState). is_some x.pending) (slice_get assigns j) then Propagate j else Evaluate j

-- so of a group: what its first member has to do; one without members has nothing to do
abbrev pub group_move : Tables → List AssignState → ℕ → Move
group_move tables assigns group = assign_move assigns (get_or (members_in tables group) 0 (length assigns))
