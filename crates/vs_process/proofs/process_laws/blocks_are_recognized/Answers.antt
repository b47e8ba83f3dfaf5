use Rattle.std.proofs.Common.{◌≡◌, ℕ, Bool, ◌||◌, ◌&&◌, true, false, List, [], ◌∷◌, map, refl, sym, ◌∙◌, ap}
use Rattle.std.specs.List.{list_any}
use Rattle.std.specs.declared.alloc.Global.{Global}
use Rattle.std.specs.declared.vec.Vec.{Vec}
use Rattle.vs_design.specs.declared.design.Process.{Process}
use Rattle.vs_design.specs.declared.design.ProcessKind.TheVariants.{Initial}
use Rattle.vs_design.specs.declared.expression.Typed.{Typed}
use Rattle.vs_design.specs.declared.statement.Statement.{Statement}
use Rattle.vs_design.specs.declared.statement.Statement.TheFolds.{fold-roll-Statement}
use Rattle.vs_design.specs.declared.statement.Statement.TheOpen.{Statement-F}
use Rattle.vs_design.specs.declared.statement.Statement.TheVariants.{Assign, Block, rolls-Assign, rolls-Block}
use Rattle.vs_design.specs.declared.statement.Statement.TheViews.{out-Statement}
use Rattle.vs_design.specs.declared.statement.Target.{Target}
use Rattle.vs_design.specs.Statements.{has_control, has_control_step}
use Rattle.vs_process.specs.Examples.{mixer, register, toggler}
use Rattle.vs_process.specs.Executions.{is_combinational, is_always, is_block_body}
use Rattle.vs_process.proofs.process_laws.blocks_are_recognized.Goals as goal

any_each : {A B : Type 0} (p : B → Bool) (f : A → B) (xs : List A) → list_any p (map f xs) ≡ list_any (λ x. p (f x)) xs
any_each p f [] = refl
any_each p f (x ∷ xs) = ap (λ b. p (f x) || b) (any_each p f xs)

control_block : (v : Vec Statement Global) → has_control (Block v) ≡ list_any has_control v.items
control_block v =
    ap has_control (sym (rolls-Block v)) ∙ fold-roll-Statement Bool has_control_step (Statement-F.Block v) ∙ any_each (λ (b : Bool). b) has_control v.items

control_assign : (n : ℕ) (t : Target) (e : Typed) → has_control (Assign n t e) ≡ false
control_assign n t e = ap has_control (sym (rolls-Assign n t e)) ∙ fold-roll-Statement Bool has_control_step (Statement-F.Assign n t e)

mixer_is : (g : Global) → is_combinational (mixer g) ≡ true
unfolding out-Statement denote.Hole.Carrier.out
mixer_is g = simp (control_block, control_assign)

register_is_not : (g : Global) (to from : ℕ) → is_combinational (register g to from) ≡ false
unfolding out-Statement denote.Hole.Carrier.out
register_is_not g to from = refl

toggler_is_not : (g : Global) → is_combinational (toggler g) ≡ false
unfolding out-Statement denote.Hole.Carrier.out
toggler_is_not g = refl

initial_is_not : (p : Process) → p.kind ≡ Initial → is_combinational p ≡ false
initial_is_not p k = ap (λ z. is_always z && is_block_body (out-Statement p.body)) k

pub returns : goal.returns
returns c = λ g. (mixer_is g, toggler_is_not g, register_is_not g 0 1, register_is_not g 1 0, initial_is_not)
