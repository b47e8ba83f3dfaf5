use Rattle.std.proofs.Common.{◌≡◌, ◌∷◌, Some}
use Rattle.vs_prep_macros.proofs.FormalsRead.{formals_opened}
use Rattle.vs_prep_macros.proofs.formals.formals_of.Goals as goal

pub returns-in_ok-formals-in-Some-eq40-default-clause-read : goal.returns-in_ok-formals-in-Some-eq40-default-clause-read
returns-in_ok-formals-in-Some-eq40-default-clause-read c =
    let read = c.in_ok-formals-in-Some-eq40-default.ensures.read in
    let inside = c.in-Some-eq40-default.inside.now in
    let opened : c.args.bytes.now ≡ 40 ∷ inside = cc (c.in-Some-eq40-default.ensures, c.in-Some-eq40-default.field-0-0-test) in
    (Some read.0, read.1, formals_opened c.args.bytes.now inside c.in_ok-formals-in-Some-eq40-default.rest.now read.0 opened read.2)
