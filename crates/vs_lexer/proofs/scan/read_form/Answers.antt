use Rattle.std.proofs.Common.{sym, ◌∙◌}
use Rattle.vs_lexer.proofs.Forms.{form_of_white, form_of_name, form_of_digit, form_of_text, form_of_system, form_of_apostrophe, form_of_parenthesis, form_of_slash, form_of_escaped, form_of_directive, form_of_mark}
use Rattle.vs_lexer.proofs.scan.read_form.Goals as goal

pub returns-then-is_white : goal.returns-then-is_white
returns-then-is_white c = rw (form_of_white _ (sym c.is_white.ensures ∙ c.if-is_white.true)) c.read_white.ensures

pub returns-then-starts_name : goal.returns-then-starts_name
returns-then-starts_name c = rw (form_of_name _ (sym c.is_white.ensures ∙ c.if-is_white.false) (sym c.starts_name.ensures ∙ c.if-starts_name.true)) c.read_name.ensures

pub returns-then-is_ascii_digit : goal.returns-then-is_ascii_digit
returns-then-is_ascii_digit c = rw (form_of_digit _ (sym c.is_white.ensures ∙ c.if-is_white.false) (sym c.starts_name.ensures ∙ c.if-starts_name.false) (sym c.is_ascii_digit.ensures.value ∙ c.if-is_ascii_digit.true)) c.read_number.ensures

pub returns-then-first-eq34 : goal.returns-then-first-eq34
returns-then-first-eq34 c = rw (form_of_text _ (sym c.is_white.ensures ∙ c.if-is_white.false) (sym c.starts_name.ensures ∙ c.if-starts_name.false) (sym c.is_ascii_digit.ensures.value ∙ c.if-is_ascii_digit.false) (c.if-first-eq34.true)) (rw (← c.requires) at c.read_text.ensures)

pub returns-then-first-eq36 : goal.returns-then-first-eq36
returns-then-first-eq36 c = rw (form_of_system _ (sym c.is_white.ensures ∙ c.if-is_white.false) (sym c.starts_name.ensures ∙ c.if-starts_name.false) (sym c.is_ascii_digit.ensures.value ∙ c.if-is_ascii_digit.false) (c.if-first-eq34.false) (c.if-first-eq36.true)) c.read_system.ensures

pub returns-then-first-eq39 : goal.returns-then-first-eq39
returns-then-first-eq39 c = rw (form_of_apostrophe _ (sym c.is_white.ensures ∙ c.if-is_white.false) (sym c.starts_name.ensures ∙ c.if-starts_name.false) (sym c.is_ascii_digit.ensures.value ∙ c.if-is_ascii_digit.false) (c.if-first-eq34.false) (c.if-first-eq36.false) (c.if-first-eq39.true)) (rw (← c.requires) at c.read_apostrophe.ensures)

pub returns-then-first-eq40 : goal.returns-then-first-eq40
returns-then-first-eq40 c = rw (form_of_parenthesis _ (sym c.is_white.ensures ∙ c.if-is_white.false) (sym c.starts_name.ensures ∙ c.if-starts_name.false) (sym c.is_ascii_digit.ensures.value ∙ c.if-is_ascii_digit.false) (c.if-first-eq34.false) (c.if-first-eq36.false) (c.if-first-eq39.false) (c.if-first-eq40.true)) (rw (← c.requires) at c.read_parenthesis.ensures)

pub returns-then-first-eq47 : goal.returns-then-first-eq47
returns-then-first-eq47 c = rw (form_of_slash _ (sym c.is_white.ensures ∙ c.if-is_white.false) (sym c.starts_name.ensures ∙ c.if-starts_name.false) (sym c.is_ascii_digit.ensures.value ∙ c.if-is_ascii_digit.false) (c.if-first-eq34.false) (c.if-first-eq36.false) (c.if-first-eq39.false) (c.if-first-eq40.false) (c.if-first-eq47.true)) (rw (← c.requires) at c.read_slash.ensures)

pub returns-then-first-eq92 : goal.returns-then-first-eq92
returns-then-first-eq92 c = rw (form_of_escaped _ (sym c.is_white.ensures ∙ c.if-is_white.false) (sym c.starts_name.ensures ∙ c.if-starts_name.false) (sym c.is_ascii_digit.ensures.value ∙ c.if-is_ascii_digit.false) (c.if-first-eq34.false) (c.if-first-eq36.false) (c.if-first-eq39.false) (c.if-first-eq40.false) (c.if-first-eq47.false) (c.if-first-eq92.true)) c.read_escaped.ensures

pub returns-then-first-eq96 : goal.returns-then-first-eq96
returns-then-first-eq96 c = rw (form_of_directive _ (sym c.is_white.ensures ∙ c.if-is_white.false) (sym c.starts_name.ensures ∙ c.if-starts_name.false) (sym c.is_ascii_digit.ensures.value ∙ c.if-is_ascii_digit.false) (c.if-first-eq34.false) (c.if-first-eq36.false) (c.if-first-eq39.false) (c.if-first-eq40.false) (c.if-first-eq47.false) (c.if-first-eq92.false) (c.if-first-eq96.true)) (rw (← c.requires) at c.read_directive.ensures)

pub returns : goal.returns
returns c = rw (form_of_mark _ (sym c.is_white.ensures ∙ c.if-is_white.false) (sym c.starts_name.ensures ∙ c.if-starts_name.false) (sym c.is_ascii_digit.ensures.value ∙ c.if-is_ascii_digit.false) (c.if-first-eq34.false) (c.if-first-eq36.false) (c.if-first-eq39.false) (c.if-first-eq40.false) (c.if-first-eq47.false) (c.if-first-eq92.false) (c.if-first-eq96.false)) c.read_mark.ensures
