use Rattle.std.proofs.Common.{◌≡◌, ◌∙◌, Some, ap, arith}
use Rattle.vs_strobe.specs.Pieces.{wanted, fault_for, pieces_of}
use Rattle.vs_strobe.proofs.PieceLemmas.{too_few, too_many, no_fault}
use Rattle.vs_strobe.proofs.piece.checked_pieces.Goals as goal

pub returns-in_default : goal.returns-in_default
returns-in_default c = record { read = ap (λ o. fault_for o c.args.given) (rw c.in_default.is at c.in_ok-pieces.ensures) }

pub returns-then-given-wanted : goal.returns-then-given-wanted
returns-then-given-wanted c =
    let ps = c.in-Some.pieces.items in
    let read : pieces_of c.args.text.now ≡ Some ps = rw c.in-Some.is at c.in_ok-pieces.ensures in
    let number : c.wanted-wanted.result ≡ wanted ps = c.wanted-wanted.ensures.is ∙ ap wanted c.deref.ensures.value in
    record { read = ap (λ o. fault_for o c.args.given) read ∙ too_few ps c.args.given (omega (arith, number, c.if-given-wanted.true)) }

pub returns-then-wanted-given : goal.returns-then-wanted-given
returns-then-wanted-given c =
    let ps = c.in-Some.pieces.items in
    let read : pieces_of c.args.text.now ≡ Some ps = rw c.in-Some.is at c.in_ok-pieces.ensures in
    let number : c.wanted-wanted.result ≡ wanted ps = c.wanted-wanted.ensures.is ∙ ap wanted c.deref.ensures.value in
    record { read = ap (λ o. fault_for o c.args.given) read ∙ too_many ps c.args.given (omega (arith, number, c.if-wanted-given.true)) }

pub returns : goal.returns
returns c =
    let ps = c.in-Some.pieces.items in
    let read : pieces_of c.args.text.now ≡ Some ps = rw c.in-Some.is at c.in_ok-pieces.ensures in
    let number : c.wanted-wanted.result ≡ wanted ps = c.wanted-wanted.ensures.is ∙ ap wanted c.deref.ensures.value in
    record { read = (read, ap (λ o. fault_for o c.args.given) read ∙ no_fault ps c.args.given (omega (arith, number, c.if-given-wanted.false)) (omega (arith, number, c.if-wanted-given.false))) }
