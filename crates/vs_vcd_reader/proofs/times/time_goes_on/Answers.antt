use Rattle.std.proofs.Common.{length, sym, ap, ◌∙◌, List, ℕ}
use Rattle.std.specs.Prelude.{◌==◌}
use Rattle.std.proofs.lemmas.Bool.{false≢true}
use Rattle.std.proofs.lemmas.Bool.Decides.{Decides-ltb}
use Rattle.vs_vcd_lines.proofs.CutLemmas.{eqb_gives}
use Rattle.vs_vcd_reader.proofs.TimeLemmas.{bare_on, digits_on, empty_on, hash_on, no_time_on}
use Rattle.vs_vcd_lines.proofs.TextLemmas.{nil_of}
use Rattle.vs_vcd_reader.proofs.times.time_goes_on.Goals as goal

pub returns-then-is_empty : goal.returns-then-is_empty
returns-then-is_empty c = λ ws vs from away.
    let part = c.args.part.now in
    empty_on ws vs c.args.last from c.args.bare part (nil_of part (eqb_gives (length part) 0 (sym c.is_empty.ensures ∙ c.if-is_empty.true)))

pub returns-then-bare : goal.returns-then-bare
returns-then-bare c = λ ws vs from away.
    bare_on ws vs c.args.last from c.args.bare c.args.part.now away
    (λ none. false≢true (sym c.if-is_empty.false ∙ c.is_empty.ensures ∙ ap (λ (l : List ℕ). length l == 0) none)) c.if-bare.true

pub returns-then-alone : goal.returns-then-alone
returns-then-alone c = λ ws vs from away.
    hash_on ws vs c.args.last from c.args.bare _ c.args.part.now away (c.is_same-alone.ensures.0 c.if-alone.true) c.if-bare.false
    (Decides-ltb c.args.last 18446744073709551615)

pub returns-in-Some : goal.returns-in-Some
returns-in-Some c = λ ws vs from away.
    digits_on ws vs c.args.last from c.in-Some.time c.args.bare c.reaches.result c.args.part.now away c.in-Some.ensures.1 c.if-bare.false c.reaches.ensures

pub returns-in-None : goal.returns-in-None
returns-in-None c = λ ws vs from away.
    no_time_on ws vs c.args.last from c.args.bare c.args.part.now away
    (λ none. false≢true (sym c.if-is_empty.false ∙ c.is_empty.ensures ∙ ap (λ (l : List ℕ). length l == 0) none))
    (λ e. false≢true (sym c.if-alone.false ∙ c.is_same-alone.ensures.1 e)) c.in-None.ensures
