use Rattle.vs_elaborate.specs.PrintableNames.{is_printable_name}
use Rattle.vs_vcd_reader.proofs.PrintedLemmas.{names_printed, numbered_printable}
use Rattle.vs_vcd_reader.proofs.outline_laws.names_are_printed.Goals as goal

pub returns : goal.returns
returns c =
    λ bytes top d text short.
    let printable = c.names_are_printable.ensures bytes text.tokens text.spelled in
    let modules = c.names_of_modules_are_tokens.ensures is_printable_name text.tokens text.source printable text.derived in
    names_printed d (c.names_are_of_source.ensures is_printable_name text.source top d numbered_printable modules text.defined) short
