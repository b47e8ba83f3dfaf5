use Rattle.std.proofs.Common.{inl, inr, sym, ◌∙◌}
use Rattle.vs_lexer.proofs.Escaped.{escaped_none, escaped_empty, escaped_stuck, escaped_whole}
use Rattle.vs_lexer.proofs.names.escaped_piece.Goals as goal
use Rattle.vs_lexer.proofs.names.escaped_piece.Goals.{in_default-rest, in-len1-up-rest+else-not-is_white}

pub returns-in_default : goal.returns-in_default
returns-in_default c = escaped_none c.args.text.now c.args.rest.now c.in_default.len_below

pub returns-then-is_empty : goal.returns-then-is_empty
returns-then-is_empty c = escaped_empty c.args.text.now c.args.rest.now c.in-len1-up.len_at_least (sym c.is_empty.ensures ∙ c.if-is_empty.true)

pub returns-then-not-is_white : goal.returns-then-not-is_white
returns-then-not-is_white c = escaped_stuck c.args.text.now c.args.rest.now c.in-len1-up.len_at_least c.in-len1-up-rest.len_at_least (sym c.is_white.ensures ∙ c.if-not-is_white.true)

pub returns : goal.returns
returns c =
    c.limited.ensures
    ∙ escaped_whole c.args.text.now c.args.rest.now c.in-len1-up.len_at_least (sym c.is_empty.ensures ∙ c.if-is_empty.false)
    (elim c.if-rest-lt1.branch [ in_default-rest w ↦ inl w.in_default-rest.len_below | in-len1-up-rest+else-not-is_white w ↦ inr (sym w.is_white.ensures ∙ w.if-not-is_white.false) ])
