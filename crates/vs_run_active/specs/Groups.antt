-- Groups of continuous assignments that are woken as one.
use Rattle.std.specs.Prelude.{ℕ, ◌≡◌, ◌<◌, ◌-◌, ◌&&◌, List, [], ◌∷◌, ◌++◌, map, length, get_or, nat_le, nat_lt, if◌then◌else◌}
use Rattle.vs_design.specs.Uses.{joined}
use Rattle.vs_run_active.specs.declared.groups.Group.{Group}
use Rattle.vs_run_active.specs.declared.groups.Groups.{Groups}
use Rattle.vs_run_active.specs.declared.watchers.Watcher.{Watcher}
use Rattle.vs_run_active.specs.Watchers.{between}

-- a group without members
abbrev pub no_group : Group
no_group = record { from = 0; to = 0 }

-- the members of a group, where they are there
abbrev pub group_members : Group → List ℕ → List ℕ
group_members g members = if nat_le g.from g.to && nat_le g.to (length members) then between g.from g.to members else []

-- the continuous assignments that a number stands for: one, or the members of a group
abbrev pub meant_by : ℕ → List Group → List ℕ → ℕ → List ℕ
meant_by assigns groups members number =
    if nat_lt number assigns then number ∷ [] else group_members (get_or groups (number - assigns) no_group) members

-- what numbers stand for by some groups
abbrev pub meaning : Groups → ℕ → List ℕ
meaning g number = meant_by g.assigns g.groups.items g.members.items number

-- a watcher of another number
abbrev pub numbered_as : Watcher → ℕ → Watcher
numbered_as w number = record w { number = number }

-- a watcher of a group as those of its members
abbrev pub spelled_one : (ℕ → List ℕ) → Watcher → List Watcher
spelled_one meant w = map (numbered_as w) (meant w.number)

-- watchers of which those of groups are spelled out
abbrev pub spelled : (ℕ → List ℕ) → List Watcher → List Watcher
spelled meant ws = joined (map (spelled_one meant) ws)

-- watchers are those of continuous assignments
abbrev pub AllAssigns : ℕ → List Watcher → Type 0
AllAssigns assigns [] = Unit {0}
AllAssigns assigns (w ∷ ws) = (w.number < assigns) × AllAssigns assigns ws

-- watchers differ from one in their numbers alone
abbrev pub AreLike : Watcher → List Watcher → Type 0
AreLike w ws = map (λ (v : Watcher). numbered_as w v.number) ws ≡ ws

-- watchers spell others by some groups, whatever groups and members come later
abbrev pub Spells : Groups → List Watcher → List Watcher → Type 0
Spells g ws plain =
    (more : List Group) (rest : List ℕ) → spelled (meant_by g.assigns (g.groups.items ++ more) (g.members.items ++ rest)) ws ≡ plain

-- some watchers have come, which spell others
pub record Adds (old new : Groups) (before after plain : List Watcher) : Type 0 where
  pub groups : List Group
  pub members : List ℕ
  pub watchers : List Watcher
  pub groups_are : new.groups.items ≡ old.groups.items ++ groups
  pub members_are : new.members.items ≡ old.members.items ++ members
  pub watchers_are : after ≡ before ++ watchers
  pub assigns_are : new.assigns ≡ old.assigns
  pub spell : Spells new watchers plain
