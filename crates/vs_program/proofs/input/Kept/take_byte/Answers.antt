use Rattle.std.proofs.Common.{◌≡◌, ◌++◌, [], ◌∷◌, refl, take}
use Rattle.vs_program.specs.Inputs.{after_line, first_line}
use Rattle.vs_program.specs.declared.input.Kept as input
use Rattle.vs_program.proofs.Reading.{line_ends, more_certificate, more_source, on_ok}
use Rattle.vs_program.proofs.input.Kept.take_byte.Goals as goal

pub returns-then-self : goal.returns-then-self
returns-then-self c = λ seen h.
    let old = c.args.self.now in
    let new : input.Kept = record { certificate = old.certificate; source = c.keep.new.text; places = old.places; line_ended = old.line_ended } in
    on_ok {P = c.keep.new.text.items ≡ take 8388609 (after_line seen ++ c.args.byte ∷ [])} c.keep.result
    (λ more. more_source seen c.args.byte old new h c.if-self.true refl refl more) (c.keep.ensures (after_line seen) h.source)

pub returns-then-byte-eq10 : goal.returns-then-byte-eq10
returns-then-byte-eq10 c = λ seen h. line_ends seen c.args.byte c.args.self.now _ h c.if-self.false c.if-byte-eq10.true refl refl refl

pub returns-else-byte-eq10 : goal.returns-else-byte-eq10
returns-else-byte-eq10 c = λ seen h.
    let old = c.args.self.now in
    let new : input.Kept = record { certificate = c.keep-else-byte-eq10.new.text; source = old.source; places = old.places; line_ended = old.line_ended } in
    on_ok {P = c.keep-else-byte-eq10.new.text.items ≡ take 16777217 (first_line seen ++ c.args.byte ∷ [])} c.keep-else-byte-eq10.result
    (λ more. more_certificate seen c.args.byte old new h c.if-self.false c.if-byte-eq10.false refl refl more)
    (c.keep-else-byte-eq10.ensures (first_line seen) h.certificate)
