-- A module with three signals.
use Rattle.std.specs.Prelude.{◌≡◌, ℕ, List, [], ◌∷◌, codes}
use Rattle.std.specs.declared.vec.Vec.{Vec}
use Rattle.std.specs.declared.alloc.Global.{Global}
use Rattle.vs_design.specs.declared.signal.Signal.{Signal}
use Rattle.vs_design.specs.declared.design.ScopeKind.TheVariants.{Module}
use Rattle.vs_design.specs.declared.design.Entry.{Entry}
use Rattle.vs_design.specs.declared.design.Entry.TheVariants.{Enter, Declare, Leave}

-- an outline of one module that declares three signals
pub record IsOutline (outline : List Entry) : Type 0 where
  pub name : Vec ℕ Global
  pub lines : outline ≡ Enter Module name ∷ Declare 0 ∷ Declare 1 ∷ Declare 2 ∷ Leave ∷ []

-- three signals, whose names in full are `t.m`, `t.a` and `t.b`
pub record AreSignals (signals : List Signal) : Type 0 where
  pub m : Signal
  pub a : Signal
  pub b : Signal
  pub all : signals ≡ m ∷ a ∷ b ∷ []
  pub path_m : m.path.items ≡ codes "t.m"
  pub path_a : a.path.items ≡ codes "t.a"
  pub path_b : b.path.items ≡ codes "t.b"
