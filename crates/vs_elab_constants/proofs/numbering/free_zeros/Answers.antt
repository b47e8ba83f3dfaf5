use Rattle.std.proofs.Common.{◌≡◌, ℕ, List, true, false, not, is_some, ap, sym, ◌∙◌, arith}
use Rattle.vs_widths.specs.Names.{meaning_of}
use Rattle.vs_elab_constants.proofs.NumberingLemmas.{taken_more, taken_long, taken_free, taken_all}
use Rattle.vs_elab_constants.proofs.numbering.free_zeros.Goals as goal

pub returns-then-len-gt-NAME_LIMIT : goal.returns-then-len-gt-NAME_LIMIT
returns-then-len-gt-NAME_LIMIT c = taken_long c.args.limit c.loop-zeros.zeros c.args.number c.args.own.now c.in_ok-name.name.items (omega arith) c.in_ok-name.ensures (omega arith) c.loop-zeros.invariant

pub returns-then-is_none : goal.returns-then-is_none
returns-then-is_none c =
    let free : is_some (meaning_of c.args.own.now c.in_ok-name.name.items) ≡ false = ap (λ (n : List ℕ). is_some (meaning_of c.args.own.now n)) (sym c.deref.ensures.value) ∙ ap is_some (sym c.find.ensures) ∙ c.is_none.ensures ∙ ap not c.if-is_none.true in
    taken_free c.args.limit c.loop-zeros.zeros c.args.number c.args.own.now c.in_ok-name.name.items (omega arith) c.in_ok-name.ensures (omega arith) free c.loop-zeros.invariant

pub loop-zeros-preserved : goal.loop-zeros-preserved
loop-zeros-preserved c =
    let taken : is_some (meaning_of c.args.own.now c.in_ok-name.name.items) ≡ true = ap (λ (n : List ℕ). is_some (meaning_of c.args.own.now n)) (sym c.deref.ensures.value) ∙ ap is_some (sym c.find.ensures) ∙ c.is_none.ensures ∙ ap not c.if-is_none.false in
    taken_more c.args.limit c.loop-zeros.zeros c.args.number c.args.own.now c.in_ok-name.name.items (omega arith) c.in_ok-name.ensures (omega arith) taken c.loop-zeros.invariant

pub returns : goal.returns
returns c = taken_all c.args.limit c.loop-zeros.zeros c.args.number c.args.own.now (omega arith) c.loop-zeros.invariant
