use Rattle.std.proofs.Common.{◌∷◌, ◌++◌, decimal, sym, ◌∙◌}
use Rattle.std.proofs.lemmas.Bool.{false≢true}
use Rattle.vs_vcd_writing.specs.Codes.{code}
use Rattle.vs_vcd_writing.specs.Text.{kind_word}
use Rattle.vs_vcd_lines.proofs.VariableLemmas.{shape_three, shape_parts, shape_made}
use Rattle.vs_vcd_lines.proofs.variables.shape_of.Goals as goal

pub returns-in_default : goal.returns-in_default
returns-in_default c = λ kind width rest s. c.in_default.ensures (kind_word kind ++ (32 ∷ (decimal width ++ (32 ∷ (code c.args.number ++ (32 ∷ rest)))))) s.is

pub returns-in_default-three_words : goal.returns-in_default-three_words
returns-in_default-three_words c = λ kind width rest s.
    c.in_default-three_words.ensures (kind_word kind) (decimal width) (code c.args.number) rest
    (shape_three c.args.line.now c.in-Some.words.now c.args.number kind width rest c.in-Some.ensures s)

pub returns-in_default-kind_of : goal.returns-in_default-kind_of
returns-in_default-kind_of c = λ kind width rest s.
    c.in_default-kind_of.ensures kind
    (shape_parts c.args.line.now c.in-Some.words.now c.in-Some-three_words.kind_word.now c.in-Some-three_words.size.now c.in-Some-three_words.code.now
    c.in-Some-three_words.rest.now c.args.number kind width rest c.in-Some.ensures c.in-Some-three_words.ensures s).0

pub returns-in_default-size_of_word : goal.returns-in_default-size_of_word
returns-in_default-size_of_word c = λ kind width rest s.
    let some = s.some in
    let most = s.most in
    c.in_default-size_of_word.ensures width (record {
      some = some;
      most = most;
      is = (shape_parts c.args.line.now c.in-Some.words.now c.in-Some-three_words.kind_word.now c.in-Some-three_words.size.now c.in-Some-three_words.code.now
          c.in-Some-three_words.rest.now c.args.number kind width rest c.in-Some.ensures c.in-Some-three_words.ensures s).1;
    })

pub returns-then-coded : goal.returns-then-coded
returns-then-coded c =
    shape_made c.args.line.now c.in-Some.words.now c.in-Some-three_words.kind_word.now c.in-Some-three_words.size.now c.in-Some-three_words.code.now
    c.in-Some-three_words.rest.now c.args.number c.in-Some-kind_of.kind c.in-Some-size_of_word.width c.in-Some.ensures c.in-Some-three_words.ensures
    c.in-Some-kind_of.ensures c.in-Some-size_of_word.ensures (c.is_code-coded.ensures.0 c.if-coded.true)

pub returns-else-coded : goal.returns-else-coded
returns-else-coded c = λ kind width rest s.
    false≢true (sym c.if-coded.false ∙ c.is_code-coded.ensures.1
    (shape_parts c.args.line.now c.in-Some.words.now c.in-Some-three_words.kind_word.now c.in-Some-three_words.size.now c.in-Some-three_words.code.now
    c.in-Some-three_words.rest.now c.args.number kind width rest c.in-Some.ensures c.in-Some-three_words.ensures s).2)
