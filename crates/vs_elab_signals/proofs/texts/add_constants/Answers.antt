use Rattle.std.proofs.Common.{ℕ, List, [], ◌∷◌, arith}
use Rattle.std.specs.Borrow.{Bor}
use Rattle.vs_scopes.specs.vs_widths.specs.declared.bindings.Binding.TheVariants as b
use Rattle.vs_scopes.specs.vs_widths.specs.declared.constants.Const.{Const}
use Rattle.vs_elab_constants.specs.vs_widths.specs.Names.{by_bytes}
use Rattle.vs_scopes.specs.Declarations.{Bindings}
use Rattle.vs_scopes.specs.Scopes.{constant_names}
use Rattle.vs_scopes.proofs.PassLemmas.{maps_two}
use Rattle.vs_scopes.proofs.DeclaredLemmas.{adds_step, adds_all}
use Rattle.vs_elab_signals.proofs.texts.add_constants.Goals as goal

-- constants by the bytes of their names
abbrev names_of : List (Bor (List ℕ) × Const) → Bindings
names_of cs = constant_names (by_bytes cs)

pub loop-constant-preserved : goal.loop-constant-preserved
loop-constant-preserved c =
    let x = c.constant-item.result in
    adds_step c.args.names.now c.loop-constant.names c.add_first.new.names c.args.constants.now c.loop-constant.constant-index x names_of ((x.0.now, b.Constant x.1) ∷ []) (omega arith) c.constant-item.is
    (maps_two (λ (e : Bor (List ℕ) × Const). (e.0.now, e.1)) (λ (e : List ℕ × Const). (e.0, b.Constant e.1)) x) c.loop-constant.invariant c.in_ok-add_first.ensures

pub returns : goal.returns
returns c = adds_all c.args.names.now c.loop-constant.names c.args.constants.now c.loop-constant.constant-index names_of (omega arith) c.loop-constant.invariant
