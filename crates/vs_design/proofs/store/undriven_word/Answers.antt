use Rattle.std.proofs.Common.{false, ◌∙◌, ap, sym, ⊎_elim}
use Rattle.vs_design.specs.Stores.{start_digits}
use Rattle.vs_design.proofs.Drivers.{net_digits, reg_digits, integer_digits}
use Rattle.vs_design.proofs.store.undriven_word.Goals as goal

pub returns-in-Wire : goal.returns-in-Wire
returns-in-Wire c =
    let n = c.args.signal.now.width in
    c.high_impedance.ensures ∙ net_digits 0 n ∙ ap (λ k. start_digits (λ place. false) k 0 n) (sym c.in-Wire.is)

pub returns-in-Reg : goal.returns-in-Reg
returns-in-Reg c =
    let n = c.args.signal.now.width in
    c.unknown.ensures
    ∙ ⊎_elim
    (λ reg. reg_digits 0 n ∙ ap (λ k. start_digits (λ place. false) k 0 n) (sym reg))
    (λ integer. integer_digits 0 n ∙ ap (λ k. start_digits (λ place. false) k 0 n) (sym integer))
    c.in-Reg.is
