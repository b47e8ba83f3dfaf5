use Rattle.std.proofs.Common.{◌++◌, ◌∷◌, [], sym, ◌∙◌}
use Rattle.vs_prep_macros.specs.Formals.{marked, next_formal}
use Rattle.vs_prep_macros.specs.Spaces.{skip_joined}
use Rattle.vs_prep_macros.proofs.FormalsRead.{formal_fresh, formal_known, numbers_pushed, reads_marks}
use Rattle.vs_prep_macros.proofs.formals.read_formal.Goals as goal

pub returns-then-contains_key-clause-read : goal.returns-then-contains_key-clause-read
returns-then-contains_key-clause-read c = λ names n.
    formal_known c.args.formals.now.entries (λ k. k.items) names c.args.bytes.now c.skip_joined-at.result.now c.in-Some.name.now c.in-Some.after.now n c.skip_joined-at.ensures.behind c.in-Some.ensures.read
    (sym c.if-contains_key.true ∙ c.contains_key.ensures)

pub returns-in_ok-insert-in-Some-clause-read : goal.returns-in_ok-insert-in-Some-clause-read
returns-in_ok-insert-in-Some-clause-read c = λ names n.
    let entries = c.args.formals.now.entries in
    let new = c.insert.new.self.entries in
    let name = c.in-Some.name.now in
    let after = c.in-Some.after.now in
    let key = c.in_ok-from_slice-in-Some.field-0 in
    let fresh = sym c.if-contains_key.false ∙ c.contains_key.ensures in
    let inserted = c.in_ok-insert-in-Some.ensures in
    reads_marks new (λ k. k.items) (names ++ name ∷ []) (next_formal names c.args.bytes.now) (marked (names ++ name ∷ []) (skip_joined after)) c.after_formal.result
    (numbers_pushed entries new (λ k. k.items) names name key c.len-number.result c.in_ok-insert-in-Some.field-0 n fresh c.in_ok-from_slice-in-Some.ensures.items c.len-number.ensures.len inserted.entries inserted.old inserted.len)
    (formal_fresh entries (λ k. k.items) names c.args.bytes.now c.skip_joined-at.result.now name after n c.skip_joined-at.ensures.behind c.in-Some.ensures.read fresh)
    (c.after_formal.ensures.read (names ++ name ∷ []))
