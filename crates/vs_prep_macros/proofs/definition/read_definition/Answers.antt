use Rattle.std.proofs.Common.{◌≡◌, false, is_some, refl}
use Rattle.vs_prep_macros.specs.Directives.{directive_of}
use Rattle.vs_prep_macros.proofs.DefinitionsRead.{macro_read}
use Rattle.vs_prep_macros.proofs.definition.read_definition.Goals as goal

pub returns-clause-read : goal.returns-clause-read
returns-clause-read c =
    let name = c.in_ok-name.name.now in
    let read = c.in_ok-formals.ensures.read in
    let text = c.in_ok-body.body.items in
    let plain : is_some (directive_of name) ≡ false = cc (c.of.ensures, c.is_some.ensures, c.if-is_some.false) in (
      record { name = name; formals = read.0; body = text },
      (c.in_ok-name-2.ensures.items, read.1, refl),
      macro_read c.args.bytes.now name c.in_ok-name.after.now c.in_ok-formals.after.now text c.in_ok-body.rest.now read.0 c.in_ok-name.ensures.read plain read.2 c.in_ok-body.ensures.read,
    )
