use Rattle.std.proofs.Common.{◌≡◌, map, drop}
use Rattle.vs_lexer.specs.declared.token.Kind.TheVariants as k
use Rattle.vs_lexer.specs.Reserved.{kind_in}
use Rattle.vs_lexer.proofs.reserved.left_out_in.Given as goal

abbrev pub invariant-loop-word : goal.invariant-loop-word
invariant-loop-word l = kind_in (map (λ word. (word.now, k.LeftOut)) (drop l.word-index l.words)) l.text ≡ kind_in (map (λ word. (word.now, k.LeftOut)) l.words) l.text
