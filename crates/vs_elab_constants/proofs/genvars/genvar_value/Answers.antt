use Rattle.vs_widths.specs.Names.{meaning_of}
use Rattle.vs_elab_constants.proofs.TurnsLemmas.{genvar_fine, genvar_unknown}
use Rattle.vs_elab_constants.proofs.genvars.genvar_value.Goals as goal

pub returns-in-Some : goal.returns-in-Some
returns-in-Some c = (genvar_fine (meaning_of c.args.names.now) c.args.e.now c.in_ok-value.value c.to_signed.result c.in-Some.field-0 c.in_ok-value.ensures.ok c.to_signed.ensures c.in-Some.is, c.in_ok-value.ensures.ok.value)

pub returns-in-None : goal.returns-in-None
returns-in-None c = genvar_unknown (meaning_of c.args.names.now) c.args.e.now c.in_ok-value.value c.to_signed.result c.in_ok-value.ensures.ok c.to_signed.ensures c.in-None.is
