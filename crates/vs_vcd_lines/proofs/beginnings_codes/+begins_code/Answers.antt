use Rattle.std.proofs.Common.{◌-◌, ℕ, List, get_or, length, take, drop, sym, ap, ◌∙◌, arith}
use Rattle.std.specs.Prelude.{◌==◌}
use Rattle.vs_vcd_lines.proofs.CutLemmas.{eqb_gives}
use Rattle.vs_vcd_lines.proofs.BeginningsCodeLemmas.{code_empty, code_last, code_more}
use Rattle.vs_vcd_lines.proofs.CodeLemmas.{parts_of}
use Rattle.vs_vcd_lines.proofs.TextLemmas.{nil_of}
use Rattle.vs_vcd_lines.proofs.beginnings_codes.+begins_code.Goals as goal

abbrev rest_of : List ℕ → List ℕ
rest_of part = take (length part - 1) (drop 1 part)

pub returns-in_default : goal.returns-in_default
returns-in_default t c = code_empty c.args.part.now c.args.number (nil_of c.args.part.now (omega (arith, c.in_default.len_below)))

pub returns-then-character-number : goal.returns-then-character-number
returns-then-character-number t c =
    let part = c.args.part.now in
    code_last part (rest_of part) (get_or part 0 0) c.args.number c.is_empty.result c.if-number-lt94.true (parts_of part c.in-len1-up.len_at_least)
    c.if-character-number.true (
      λ e. nil_of (rest_of part) (eqb_gives (length (rest_of part)) 0 (sym c.is_empty.ensures ∙ e)),
      λ none. c.is_empty.ensures ∙ ap (λ (l : List ℕ). length l == 0) none,
    )

pub returns-then-character-number-2 : goal.returns-then-character-number-2
returns-then-character-number-2 t c =
    let part = c.args.part.now in
    code_more part (rest_of part) (get_or part 0 0) c.args.number c.begins_code.result c.if-number-lt94.false (parts_of part c.in-len1-up.len_at_least)
    c.if-character-number-2.true c.begins_code.ensures
