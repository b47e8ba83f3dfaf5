use Rattle.std.proofs.Common.{[], ◌∷◌, length, ap, arith}
use Rattle.std.proofs.lemmas.List.{length-replicate}
use Rattle.vs_design.specs.vs_logic4.specs.declared.digit.Digit.TheVariants.{X}
use Rattle.vs_vcd_writing.proofs.WordLemmas.{codes_of-kept_of}
use Rattle.vs_vcd_writing.proofs.kept.Written.new.Goals as goal

pub returns : goal.returns
returns c =
    codes_of-kept_of c.args.table.items c.in_ok-words.words
    (omega (arith, ap length c.in_ok-words.ensures, length-replicate c.len.result (X ∷ []), c.len.ensures))
