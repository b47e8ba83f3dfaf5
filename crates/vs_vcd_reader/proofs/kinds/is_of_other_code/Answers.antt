use Rattle.std.proofs.Common.{◌-◌, ℕ, List, get_or, length, take, drop, sym, ◌∙◌}
use Rattle.std.proofs.lemmas.Bool.{false≢true}
use Rattle.vs_vcd_reader.proofs.KindLemmas.{bit_told, character_is, character_told, characters_are, characters_told, line_parts, no_word, uncut_word, word_told}
use Rattle.vs_vcd_reader.proofs.kinds.is_of_other_code.Goals as goal

abbrev rest_of : List ℕ → List ℕ
rest_of line = take (length line - 1) (drop 1 line)

pub returns-then-is_digit : goal.returns-then-is_digit
returns-then-is_digit c =
    let line = c.args.line.now in
    bit_told line c.args.count (get_or line 0 0) (rest_of line) c.is_other_code.result (line_parts line c.in-len1-up.len_at_least)
    (character_told (get_or line 0 0) (sym c.is_digit.ensures ∙ c.if-is_digit.true)) c.is_other_code.ensures

pub returns-then-are_digits : goal.returns-then-are_digits
returns-then-are_digits c =
    let line = c.args.line.now in
    word_told line c.args.count (get_or line 0 0) (rest_of line) c.in-Some.digits.now c.in-Some.code.now c.is_other_code-then-are_digits.result
    (line_parts line c.in-len1-up.len_at_least) c.if-first-ne98.false
    (λ d. false≢true (sym c.if-is_digit.false ∙ c.is_digit.ensures ∙ character_is (get_or line 0 0) d)) c.in-Some.ensures
    (characters_told c.in-Some.digits.now (sym c.are_digits.ensures ∙ c.if-are_digits.true)) c.is_other_code-then-are_digits.ensures

pub returns-else-are_digits : goal.returns-else-are_digits
returns-else-are_digits c =
    let line = c.args.line.now in (
      (λ t. absurd (false≢true (sym c.if-are_digits.false ∙ t))),
      (λ o. absurd
          (no_word line c.args.count (get_or line 0 0) (rest_of line) c.in-Some.digits.now c.in-Some.code.now (line_parts line c.in-len1-up.len_at_least)
          (λ d. false≢true (sym c.if-is_digit.false ∙ c.is_digit.ensures ∙ character_is (get_or line 0 0) d)) c.in-Some.ensures
          (λ a. false≢true (sym c.if-are_digits.false ∙ c.are_digits.ensures ∙ characters_are c.in-Some.digits.now a)) o)),
    )

pub returns-in-None : goal.returns-in-None
returns-in-None c =
    let line = c.args.line.now in (
      (λ t. absurd (false≢true t)),
      (λ o. absurd
          (uncut_word line c.args.count (get_or line 0 0) (rest_of line) (line_parts line c.in-len1-up.len_at_least)
          (λ d. false≢true (sym c.if-is_digit.false ∙ c.is_digit.ensures ∙ character_is (get_or line 0 0) d)) c.in-None.ensures o)),
    )
