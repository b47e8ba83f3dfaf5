use Rattle.vs_vcd_reader.proofs.outline_laws.outlines_of_texts_are_in_order.Goals as goal

pub returns : goal.returns
returns c =
    λ bytes top d text short.
    c.outlines_are_in_order.ensures text.source top d text.defined (c.names_are_printed.ensures bytes top d text short)
