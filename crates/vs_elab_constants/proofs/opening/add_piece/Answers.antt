use Rattle.std.proofs.Common.{◌≡◌, ◌++◌, refl, ap, sym, subst, ◌∙◌}
use Rattle.std.proofs.lemmas.List.{map-append}
use Rattle.vs_widths.specs.Names.{meaning_of}
use Rattle.vs_scopes.specs.Pieces.{Piece, unboxed, loop, choice}
use Rattle.vs_scopes.specs.Reads.{read_piece}
use Rattle.vs_scopes.specs.Generate.{construct_fault, inner_in}
use Rattle.vs_scopes.specs.scopes_passes.Answers.{Elaborates}
use Rattle.vs_elab_constants.specs.Reads.{read_inner, read_inners}
use Rattle.vs_elab_constants.proofs.opening.add_piece.Goals as goal

pub returns-in-Loop : goal.returns-in-Loop
returns-in-Loop c = λ ns a.
    let env = meaning_of c.args.names.now in
    let S : Piece → Type 0 =
    λ p. Elaborates (λ r. construct_fault r env ns c.args.number p) (λ (u : Unit {0}). read_inners c.add_loop.new.inners.items ≡ read_inners c.args.inners.now.items ++ inner_in c.args.place env ns c.args.number p) c.add_loop.result in
    subst S (ap (loop c.in-Loop.header.now) c.deref.ensures ∙ ap read_piece (sym c.in-Loop.is)) (c.add_loop.ensures ns a)

pub returns-in_ok-add_plain-in-Plain : goal.returns-in_ok-add_plain-in-Plain
returns-in_ok-add_plain-in-Plain c = λ ns a. rw c.in-Plain.is (λ r. refl, c.in_ok-add_plain-in-Plain.ensures)

pub returns-in-Choice : goal.returns-in-Choice
returns-in-Choice c = λ ns a.
    let env = meaning_of c.args.names.now in
    let S : Piece → Type 0 =
    λ p. Elaborates (λ r. construct_fault r env ns c.args.number p) (λ (u : Unit {0}). read_inners c.add_choice.new.inners.items ≡ read_inners c.args.inners.now.items ++ inner_in c.args.place env ns c.args.number p) c.add_choice.result in
    subst S (ap (λ x. choice c.in-Choice.condition.now x (unboxed c.in-Choice.other.now)) c.deref-in-Choice.ensures ∙ ap read_piece (sym c.in-Choice.is)) (c.add_choice.ensures ns a)

pub returns-in_ok-append-in-Inside : goal.returns-in_ok-append-in-Inside
returns-in_ok-append-in-Inside c = λ ns a. rw c.in-Inside.is (λ r. refl, ap read_inners c.in_ok-append-in-Inside.ensures ∙ map-append read_inner c.args.inners.now.items _)
