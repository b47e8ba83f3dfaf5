use Rattle.std.proofs.Common.{List, ℕ, length, true, sym, ap, ◌∙◌}
use Rattle.std.specs.Prelude.{◌==◌}
use Rattle.std.proofs.lemmas.Bool.{false≢true}
use Rattle.vs_vcd_lines.proofs.CutLemmas.{eqb_gives}
use Rattle.vs_vcd_lines.specs.BeginningsParts.{BeginsSome, IsSomeSize}
use Rattle.vs_vcd_lines.proofs.SignedLemmas.{size_empty, size_told}
use Rattle.vs_vcd_lines.proofs.TextLemmas.{as_tells, nil_of}
use Rattle.vs_vcd_lines.proofs.beginnings_variables.begins_size.Goals as goal

pub returns-then-is_empty : goal.returns-then-is_empty
returns-then-is_empty c =
    as_tells (BeginsSome IsSomeSize c.args.text.now) c.is_empty.result true c.if-is_empty.true
    (size_empty c.args.text.now (nil_of c.args.text.now (eqb_gives (length c.args.text.now) 0 (sym c.is_empty.ensures ∙ c.if-is_empty.true))))

pub returns-else-is_empty : goal.returns-else-is_empty
returns-else-is_empty c =
    size_told c.args.text.now c.is_size.result
    (λ none. false≢true (sym c.if-is_empty.false ∙ c.is_empty.ensures ∙ ap (λ (l : List ℕ). length l == 0) none))
    c.is_size.ensures
