-- The designs are well formed, and what folds give at their statements.
use Rattle.std.proofs.Common.{◌≡◌, ◌&&◌, ℕ, List, [], ◌∷◌, ◌++◌, sym, ◌∙◌, ap}
use Rattle.std.specs.declared.alloc.Global.{Global}
use Rattle.vs_design.specs.vs_logic4.specs.declared.digit.Digit.TheVariants.{One}
use Rattle.vs_design.specs.declared.expression.Typed.{Typed}
use Rattle.vs_design.specs.declared.signal.Signal.{Signal}
use Rattle.vs_design.specs.declared.statement.Statement.{Statement}
use Rattle.vs_design.specs.declared.statement.Statement.TheVariants as y
use Rattle.vs_design.specs.declared.statement.Statement.TheOpen as f
use Rattle.vs_design.specs.declared.statement.Statement.TheFolds.{fold-roll-Statement}
use Rattle.vs_design.specs.WellFormed.{WellFormed, is_sound_operand, is_sound_statement, numbers, numbers_step, sound_step}
use Rattle.vs_design.proofs.FormLemmas.{numbers_Null, numbers_Call, numbers_Finish, sound_Null, sound_Call, sound_Finish}
use Rattle.vs_laws.specs.Race.{boxed, initially, set_to}
use Rattle.vs_laws.proofs.Race.{SoundInitial, formed_initials, reads_operand, size_operand, sound_set}
use Rattle.vs_laws.specs.Alone.{strobes_bit, testing, where_set}

sound_if : (g : Global) (ss : List Signal) (n : ℕ) (e : Typed) (a b : Statement) →
    is_sound_statement ss (y.If n e (boxed g a) (boxed g b)) ≡ is_sound_operand ss e && is_sound_statement ss a && is_sound_statement ss b
sound_if g ss n e a b =
    ap (is_sound_statement ss) (sym (y.rolls-If n e (boxed g a) (boxed g b))) ∙ fold-roll-Statement _ (sound_step ss) (f.If n e (boxed g a) (boxed g b))

numbers_if : (g : Global) (n : ℕ) (e : Typed) (a b : Statement) → numbers (y.If n e (boxed g a) (boxed g b)) ≡ n ∷ numbers a ++ numbers b
numbers_if g n e a b =
    ap numbers (sym (y.rolls-If n e (boxed g a) (boxed g b))) ∙ fold-roll-Statement (List ℕ) numbers_step (f.If n e (boxed g a) (boxed g b))

sound_strobing : (g : Global) → SoundInitial g (initially g 49 (where_set g (strobes_bit g)))
sound_strobing g = simp (sound_if, sound_Call, sound_Null, numbers_if, numbers_Call, numbers_Null, reads_operand, size_operand)

sound_finishing : (g : Global) → SoundInitial g (initially g 49 (where_set g (y.Finish 1)))
sound_finishing g = simp (sound_if, sound_Finish, sound_Null, numbers_if, numbers_Finish, numbers_Null, reads_operand, size_operand)

pub formed_strobing : (g : Global) → WellFormed (testing g (strobes_bit g))
formed_strobing g = formed_initials g (set_to g 0 One) (where_set g (strobes_bit g)) (sound_set g 48 One) (sound_strobing g)

pub formed_finishing : (g : Global) → WellFormed (testing g (y.Finish 1))
formed_finishing g = formed_initials g (set_to g 0 One) (where_set g (y.Finish 1)) (sound_set g 48 One) (sound_finishing g)
