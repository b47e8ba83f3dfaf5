-- How what stands behind the `begin` of a block is made, and where it stops.
use Rattle.std.specs.Prelude.{◌≡◌, ℕ, ◌≤◌, Bool, true, List, ◌∷◌, Result, Ok, Err, refl}
use Rattle.std.proofs.Common.{ap, subst, arith}
use Rattle.vs_syntax.specs.vs_lexer.specs.declared.token.Token.{Token}
use Rattle.vs_syntax.specs.vs_lexer.specs.declared.token.Word.TheVariants as w
use Rattle.vs_syntax.specs.Symbols.{Symbol, a_word}
use Rattle.vs_syntax.specs.Grammar.{Grammar, ◌·◌, many, word, name, form, comma_list, local_declaration, a_local}
use Rattle.vs_syntax.specs.Tables.{goes}
use Rattle.vs_syntax.specs.Derivation.{Tree, leaf, both}
use Rattle.vs_syntax.specs.Reading.{Gets, Stuck, stuck_second, stuck_left, stuck_right}
use Rattle.vs_syntax.proofs.Gets.{gets_token, gets_seq, gets_left, gets_right}
use Rattle.vs_parse_expressions.specs.declared.local.LocalWord.{LocalWord}
use Rattle.vs_parse_expressions.specs.declared.local.LocalWord.TheVariants as l
use Rattle.vs_parse_expressions.specs.Blocks.{local_word}

-- the name of a block, and its declarations
abbrev pub name_and_locals : Grammar
name_and_locals = name · many local_declaration

-- what stands behind the word of a declaration
abbrev pub rest_after_word : LocalWord → Grammar
rest_after_word l.Reg = form · comma_list a_local
rest_after_word l.Integer = comma_list a_local

pub local_goes : (ts after : List Symbol) (k : LocalWord) → ts ≡ a_word (local_word k) ∷ after → goes local_declaration ts ≡ true
local_goes ts after l.Reg e = ap (goes local_declaration) e
local_goes ts after l.Integer e = ap (goes local_declaration) e

pub local_stuck : (depth : ℕ) (deep : Bool) (ts after at : List Symbol) (k k' : LocalWord) → k ≡ k' → ts ≡ a_word (local_word k) ∷ after → Stuck (rest_after_word k') depth deep after at → Stuck local_declaration depth deep ts at
local_stuck depth deep ts after at l.Reg l.Reg i e s =
    let none : 0 ≤ depth = omega arith in
    rw e (stuck_left refl none (stuck_second (gets_token refl) s))
local_stuck depth deep ts after at l.Integer l.Integer i e s =
    let none : 0 ≤ depth = omega arith in
    rw e (stuck_right refl none (stuck_second (gets_token refl) s))
local_stuck depth deep ts after at _ _ i e s = cc

pub local_read : (depth : ℕ) (ts after rest : List Symbol) (k k' : LocalWord) (x : Tree) → k ≡ k' → ts ≡ a_word (local_word k) ∷ after → Gets (rest_after_word k') depth after x rest → Gets local_declaration depth ts (both (leaf (a_word (local_word k'))) x) rest
local_read depth ts after rest l.Reg l.Reg x i e p = rw e (gets_left refl (gets_seq (gets_token refl) p))
local_read depth ts after rest l.Integer l.Integer x i e p = rw e (gets_right refl (gets_seq (gets_token refl) p))
local_read depth ts after rest _ _ x i e p = cc
