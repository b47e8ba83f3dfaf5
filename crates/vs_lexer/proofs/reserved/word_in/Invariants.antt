use Rattle.std.proofs.Common.{◌≡◌, map, drop}
use Rattle.vs_lexer.specs.declared.token.Kind.TheVariants as k
use Rattle.vs_lexer.specs.Reserved.{kind_in}
use Rattle.vs_lexer.proofs.reserved.word_in.Given as goal

abbrev pub invariant-loop-spelling : goal.invariant-loop-spelling
invariant-loop-spelling l = kind_in (map (λ entry. (entry.0.now, k.Word entry.1)) (drop l.spelling-index l.table)) l.text ≡ kind_in (map (λ entry. (entry.0.now, k.Word entry.1)) l.table) l.text
