-- Scopes as statements see them.
use Rattle.std.specs.Prelude.{◌≡◌, ℕ, ◌<◌, List, Some, length, slice_get}
use Rattle.std.specs.List.{AllZip}
use Rattle.vs_widths.specs.Names.{meaning_of}
use Rattle.vs_scopes.specs.Printed.{Path}
use Rattle.vs_scopes.specs.Scopes.{Scope, environment}
use Rattle.vs_elab_signals.specs.declared.opened.ElabScope.{ElabScope as FoundScope}
use Rattle.vs_elab_signals.specs.Opened.{AreOpened, AreSeated, HasBlocks}
use Rattle.vs_elab_statements.specs.Surroundings.{Surroundings}
use Rattle.vs_elab_statements.specs.declared.views.View.{View}

-- the scopes of a list stand for these, with these surroundings in the scope of each path, and named blocks are found by their names
pub record AreSites (list : List FoundScope) (ss : List Scope) (envs : Path → Surroundings) : Type 0 where
  pub opened : AreOpened list ss
  pub blocks : AllZip (HasBlocks ss) list ss
  pub ratio : ℕ
  pub names : (place : ℕ) (s : Scope) → slice_get ss place ≡ Some s → (envs s.path).names ≡ environment s
  pub ratios : (place : ℕ) (s : Scope) → slice_get ss place ≡ Some s → (envs s.path).ratio ≡ ratio

-- the scope of a path has this place in a list
pub record IsSite (list : List FoundScope) (envs : Path → Surroundings) (place : ℕ) (p : Path) : Type 0 where
  pub scopes : List Scope
  pub sites : AreSites list scopes envs
  pub scope : Scope
  pub stands : slice_get scopes place ≡ Some scope
  pub path : scope.path ≡ p

-- a view of the scope of a path
pub record IsView (v : View) (envs : Path → Surroundings) (p : Path) : Type 0 where
  pub site : IsSite v.list.now envs v.place p
  pub names : meaning_of v.names.now ≡ (envs p).names
  pub ratio : v.ratio.ticks ≡ (envs p).ratio

-- a place of a list of scopes that stand in ones before them, and have the places of the scopes inside
pub record IsPlaced (list : List FoundScope) (place : ℕ) : Type 0 where
  pub within : place < length list
  pub seated : AreSeated list
  pub blocks : (k : ℕ) (o : FoundScope) (n : List ℕ) (inner : ℕ) → slice_get list k ≡ Some o → meaning_of o.blocks n ≡ Some inner → inner < length list
