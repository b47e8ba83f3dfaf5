use Rattle.std.proofs.Common.{arith}
use Rattle.vs_vcd_lines.proofs.WordLemmas.{size_once}
use Rattle.vs_vcd_lines.proofs.words.size_of_word.Goals as goal

pub returns-then-width-eq0 : goal.returns-then-width-eq0
returns-then-width-eq0 c = λ w s.
    let same = size_once c.args.word.now c.in-Some.width w c.in-Some.ensures.0 c.in-Some.ensures.1 s in
    let some = s.some in
    absurd (omega (arith, same, some, c.if-width-eq0.true))

pub returns-then-width-gt64 : goal.returns-then-width-gt64
returns-then-width-gt64 c = λ w s.
    let same = size_once c.args.word.now c.in-Some.width w c.in-Some.ensures.0 c.in-Some.ensures.1 s in
    let most = s.most in
    absurd (omega (arith, same, most, c.if-width-gt64.true))
