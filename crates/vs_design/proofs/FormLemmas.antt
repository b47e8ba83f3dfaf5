-- What folds over statements give, by the form of the statement: numbers, and whether it is sound.
use Rattle.std.proofs.Common.{◌≡◌, ℕ, Bool, true, List, [], ◌∷◌, map, ap, sym, ◌∙◌}
use Rattle.std.specs.declared.vec.Vec.{Vec}
use Rattle.std.specs.declared.boxed.Box.{Box}
use Rattle.std.specs.declared.alloc.Global.{Global}
use Rattle.vs_design.specs.declared.expression.Typed.{Typed}
use Rattle.vs_design.specs.declared.signal.Signal.{Signal}
use Rattle.vs_design.specs.declared.statement.Call.{Call}
use Rattle.vs_design.specs.declared.statement.EventTerm.{EventTerm}
use Rattle.vs_design.specs.declared.statement.Target.{Target}
use Rattle.vs_design.specs.declared.statement.Ticks.{Ticks}
use Rattle.vs_design.specs.declared.statement.Statement.{Statement}
use Rattle.vs_design.specs.declared.statement.Statement.TheVariants as y
use Rattle.vs_design.specs.declared.statement.Statement.TheOpen as f
use Rattle.vs_design.specs.declared.statement.Statement.TheFolds.{fold-roll-Statement}
use Rattle.vs_design.specs.Uses.{joined}
use Rattle.vs_design.specs.WellFormed.{is_sound_assignment, is_sound_call, is_sound_statement, numbers, numbers_step, sound_step}

-- ---- numbers

pub numbers_Null : (k : ℕ) → numbers (y.Null k) ≡ k ∷ []
numbers_Null k = ap numbers (sym (y.rolls-Null k)) ∙ fold-roll-Statement (List ℕ) numbers_step (f.Null k)

pub numbers_Assign : (k : ℕ) (t : Target) (x : Typed) → numbers (y.Assign k t x) ≡ k ∷ []
numbers_Assign k t x = ap numbers (sym (y.rolls-Assign k t x)) ∙ fold-roll-Statement (List ℕ) numbers_step (f.Assign k t x)

pub numbers_Later : (k : ℕ) (n : Ticks) (t : Target) (x : Typed) → numbers (y.Later k n t x) ≡ k ∷ []
numbers_Later k n t x = ap numbers (sym (y.rolls-Later k n t x)) ∙ fold-roll-Statement (List ℕ) numbers_step (f.Later k n t x)

pub numbers_Call : (k : ℕ) (c : Call) → numbers (y.Call k c) ≡ k ∷ []
numbers_Call k c = ap numbers (sym (y.rolls-Call k c)) ∙ fold-roll-Statement (List ℕ) numbers_step (f.Call k c)

pub numbers_Finish : (k : ℕ) → numbers (y.Finish k) ≡ k ∷ []
numbers_Finish k = ap numbers (sym (y.rolls-Finish k)) ∙ fold-roll-Statement (List ℕ) numbers_step (f.Finish k)

pub numbers_Block : (xs : Vec Statement Global) → numbers (y.Block xs) ≡ joined (map numbers xs.items)
numbers_Block xs = ap numbers (sym (y.rolls-Block xs)) ∙ fold-roll-Statement (List ℕ) numbers_step (f.Block xs)

pub numbers_Forever : (k : ℕ) (x : Box Statement Global) → numbers (y.Forever k x) ≡ k ∷ numbers x.value
numbers_Forever k x = ap numbers (sym (y.rolls-Forever k x)) ∙ fold-roll-Statement (List ℕ) numbers_step (f.Forever k x)

pub numbers_Event : (k : ℕ) (ts : Vec EventTerm Global) (x : Box Statement Global) → numbers (y.Event k ts x) ≡ k ∷ numbers x.value
numbers_Event k ts x = ap numbers (sym (y.rolls-Event k ts x)) ∙ fold-roll-Statement (List ℕ) numbers_step (f.Event k ts x)

-- ---- soundness

pub sound_Null : (ss : List Signal) (k : ℕ) → is_sound_statement ss (y.Null k) ≡ true
sound_Null ss k = ap (is_sound_statement ss) (sym (y.rolls-Null k)) ∙ fold-roll-Statement Bool (sound_step ss) (f.Null k)

pub sound_Assign : (ss : List Signal) (k : ℕ) (u : Target) (x : Typed) → is_sound_statement ss (y.Assign k u x) ≡ is_sound_assignment ss u x
sound_Assign ss k u x = ap (is_sound_statement ss) (sym (y.rolls-Assign k u x)) ∙ fold-roll-Statement Bool (sound_step ss) (f.Assign k u x)

pub sound_Later : (ss : List Signal) (k : ℕ) (n : Ticks) (u : Target) (x : Typed) → is_sound_statement ss (y.Later k n u x) ≡ is_sound_assignment ss u x
sound_Later ss k n u x = ap (is_sound_statement ss) (sym (y.rolls-Later k n u x)) ∙ fold-roll-Statement Bool (sound_step ss) (f.Later k n u x)

pub sound_Call : (ss : List Signal) (k : ℕ) (c : Call) → is_sound_statement ss (y.Call k c) ≡ is_sound_call ss c
sound_Call ss k c = ap (is_sound_statement ss) (sym (y.rolls-Call k c)) ∙ fold-roll-Statement Bool (sound_step ss) (f.Call k c)

pub sound_Finish : (ss : List Signal) (k : ℕ) → is_sound_statement ss (y.Finish k) ≡ true
sound_Finish ss k = ap (is_sound_statement ss) (sym (y.rolls-Finish k)) ∙ fold-roll-Statement Bool (sound_step ss) (f.Finish k)

pub sound_Forever : (ss : List Signal) (k : ℕ) (x : Box Statement Global) → is_sound_statement ss (y.Forever k x) ≡ is_sound_statement ss x.value
sound_Forever ss k x = ap (is_sound_statement ss) (sym (y.rolls-Forever k x)) ∙ fold-roll-Statement Bool (sound_step ss) (f.Forever k x)
