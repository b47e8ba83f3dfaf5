use Rattle.std.proofs.Common.{◌∷◌, ◌++◌, codes, sym, ◌∙◌}
use Rattle.std.proofs.lemmas.Bool.{false≢true}
use Rattle.vs_vcd_writing.specs.Text.{scope_word}
use Rattle.vs_vcd_lines.proofs.CutLemmas.{lacks_cut}
use Rattle.vs_vcd_lines.proofs.LineLemmas.{scope_assoc, scope_middle, scope_parts, scope_made, scope_named}
use Rattle.vs_vcd_lines.proofs.lines.scope_of.Goals as goal

pub returns-in_default : goal.returns-in_default
returns-in_default c = λ kind name named is.
    c.in_default.ensures (scope_word kind ++ (32 ∷ name)) (is ∙ scope_assoc (codes "$scope ") (scope_word kind) name (codes " $end"))

pub returns-in_default-cut : goal.returns-in_default-cut
returns-in_default-cut c = λ kind name named is.
    lacks_cut 32 c.in-Some.middle.now (scope_word kind) name c.in_default-cut.ensures (scope_middle c.args.line.now c.in-Some.middle.now kind name c.in-Some.ensures is)

pub returns-in_default-scope_kind_of : goal.returns-in_default-scope_kind_of
returns-in_default-scope_kind_of c = λ kind name named is.
    c.in_default-scope_kind_of.ensures kind
    (scope_parts c.args.line.now c.in-Some.middle.now c.in-Some-cut.word.now c.in-Some-cut.name.now kind name c.in-Some.ensures c.in-Some-cut.ensures is).0

pub returns-then-named : goal.returns-then-named
returns-then-named c = (
  c.is_scope_name-named.ensures.0 c.if-named.true,
  scope_made c.args.line.now c.in-Some.middle.now c.in-Some-cut.word.now c.in-Some-cut.name.now c.in-Some-scope_kind_of.kind
      c.in-Some.ensures c.in-Some-cut.ensures c.in-Some-scope_kind_of.ensures,
)

pub returns-else-named : goal.returns-else-named
returns-else-named c = λ kind name named is.
    let parts = scope_parts c.args.line.now c.in-Some.middle.now c.in-Some-cut.word.now c.in-Some-cut.name.now kind name c.in-Some.ensures c.in-Some-cut.ensures is in
    false≢true (sym c.if-named.false ∙ c.is_scope_name-named.ensures.1
    (scope_named c.in-Some-cut.word.now c.in-Some-scope_kind_of.kind kind c.in-Some-cut.name.now name c.in-Some-scope_kind_of.ensures parts.0 parts.1 named))
