-- What holds of the paths and the scopes of every source.
use Rattle.std.specs.Prelude.{◌≡◌, ℕ, suc, ◌<◌, ◌≤◌, ◌^◌, ℤ, true, ◌⊎◌, List, ◌∷◌, Option, Some, None, IsSome, length, take, map, slice_get, if◌then◌else◌}
use Rattle.std.specs.List.{All, IsDistinct}
use Rattle.std.specs.Str.{bytes_eq}
use Rattle.std.specs.Int.Signed.{mag}
use Rattle.vs_syntax.specs.declared.tree.Module.{Module}
use Rattle.vs_syntax.specs.declared.tree.LoopHeader.{LoopHeader}
use Rattle.vs_scopes.specs.vs_widths.specs.declared.constants.Const.{Const}
use Rattle.vs_scopes.specs.vs_widths.specs.Environment.{Environment}
use Rattle.vs_scopes.specs.Printed.{PathName, Path, same_turn, same_path, printed, part_name}
use Rattle.vs_scopes.specs.Generate.{genvar_number, turns, turn_limit, turns_of}
use Rattle.vs_scopes.specs.Scopes.{Scope, is_instance, all_names_of, named_at, environment, scopes_of, signal_count, instance_count, turn_count, signal_paths}

-- ---- paths as they are printed

-- whether a turn has a number that 64 bits with a sign hold, if it has one
abbrev pub FitsTurn : Option ℤ → Type 0
FitsTurn None = Unit {0}
FitsTurn (Some v) = mag v < 2 ^ 63

-- paths whose turns have such numbers
abbrev pub HasTurnsThatFit : Path → Type 0
HasTurnsThatFit p = All (λ (n : PathName). FitsTurn n.turn) p

-- Paths that are printed alike are equal (clause 12.5).
abbrev pub PrintedPathsDiffer : Type 0
PrintedPathsDiffer = (p q : Path) → HasTurnsThatFit p → HasTurnsThatFit q → printed p ≡ printed q → p ≡ q

-- Parts that are printed alike have one path, and one name there: each name begins with `#` (profile).
abbrev pub PrintedPartsDiffer : Type 0
PrintedPartsDiffer = (p q : Path) (m n : List ℕ) → HasTurnsThatFit p → HasTurnsThatFit q →
    part_name p (35 ∷ m) ≡ part_name q (35 ∷ n) → (p ≡ q) × (m ≡ n)

-- ---- turns

-- a value of a genvar that has a number, which 64 bits hold
abbrev pub IsTurn : Const → Type 0
IsTurn c = IsSome (genvar_number c) × FitsTurn (genvar_number c)

-- The turns of a generate loop that ends have different numbers, and there are at most as many as there may be (clause 12.4.1; the bound:
-- profile).
abbrev pub TurnsDiffer : Type 0
TurnsDiffer = (env : Environment) (h : LoopHeader) (cs : List Const) → turns_of env h ≡ turns cs →
    All IsTurn cs × IsDistinct same_turn (map genvar_number cs) × (length cs ≤ turn_limit)

-- ---- paths of scopes and of signals

-- scopes of which each declares a name once
abbrev pub DeclareOnce : List Scope → Type 0
DeclareOnce ss = All (λ s. IsDistinct bytes_eq (all_names_of s)) ss

-- scopes in each of which fewer than 2^63 parts stand, so that the numbers of generate constructs are written with all their digits
abbrev pub HaveCountedPieces : List Scope → Type 0
HaveCountedPieces ss = All (λ s. length s.pieces < 2 ^ 63) ss

-- the paths of scopes
abbrev pub scope_paths : List Scope → List Path
scope_paths ss = map (λ (s : Scope). s.path) ss

-- Where each scope of a source declares a name once, the paths of the scopes differ, and so do those of the signals (clauses 12.4.3 and
-- 12.5).
abbrev pub PathsDiffer : Type 0
PathsDiffer = (ms : List Module) (top : List ℕ) → DeclareOnce (scopes_of ms top) → HaveCountedPieces (scopes_of ms top) →
    IsDistinct same_path (scope_paths (scopes_of ms top)) × IsDistinct same_path (signal_paths (scopes_of ms top))

-- The turns in the paths of the scopes and signals of a source have numbers that 64 bits hold (clause 12.4.1).
abbrev pub TurnsFit : Type 0
TurnsFit = (ms : List Module) (top : List ℕ) →
    All HasTurnsThatFit (scope_paths (scopes_of ms top)) × All HasTurnsThatFit (signal_paths (scopes_of ms top))

-- ---- scopes

-- The number of each scope of a source is its place in design order; its base is how many signals the scopes before it declare; and it is
-- counted how many instances and turns stand before it.
abbrev pub ScopesAreNumbered : Type 0
ScopesAreNumbered = (ms : List Module) (top : List ℕ) (i : ℕ) (s : Scope) → slice_get (scopes_of ms top) i ≡ Some s →
    (s.number ≡ i) × (s.base ≡ signal_count (take i (scopes_of ms top))) ×
    (s.instances ≡ instance_count (take i (scopes_of ms top))) × (s.turns ≡ turn_count (take i (scopes_of ms top)))

-- a scope is inside another one: an instance is its own home, and one instance deeper; a block has the home and the depth of the scope
-- around it
pub record IsWithin (outer inner : Scope) : Type 0 where
  pub path : inner.path ≡ named_at outer inner.title
  pub around : inner.around ≡ outer.path
  pub bound : inner.outer ≡ environment outer
  pub home : inner.home ≡ (if is_instance inner.kind then inner.path else outer.home)
  pub depth : inner.depth ≡ (if is_instance inner.kind then suc outer.depth else outer.depth)

-- nothing is bound to a name around it, and it is an instance
pub record IsTop (s : Scope) : Type 0 where
  pub bound : (n : List ℕ) → s.outer n ≡ None
  pub kind : is_instance s.kind ≡ true
  pub home : s.home ≡ s.path
  pub depth : s.depth ≡ 1

-- Each scope of a source is its top, or stands in another scope of the source (clauses 12.1.2, 12.4 and 9.8.3).
abbrev pub ScopesAreNested : Type 0
ScopesAreNested = (ms : List Module) (top : List ℕ) (i : ℕ) (s : Scope) → slice_get (scopes_of ms top) i ≡ Some s →
    IsTop s ⊎ ((j : ℕ) × (outer : Scope) × (slice_get (scopes_of ms top) j ≡ Some outer) × IsWithin outer s)
