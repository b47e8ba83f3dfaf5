-- How the parts of modules make them, and where they stop.
use Rattle.std.specs.Prelude.{◌≡◌, ℕ, Bool, List, ◌∷◌, refl}
use Rattle.vs_syntax.specs.vs_lexer.specs.declared.token.Mark.TheVariants as m
use Rattle.vs_syntax.specs.vs_lexer.specs.declared.token.Word.TheVariants as w
use Rattle.vs_syntax.specs.Symbols.{Symbol, a_word}
use Rattle.vs_syntax.specs.Grammar.{Grammar, nothing, ◌·◌, ◌or◌, many, part, mark, word, name, header_parameters, header_ports, an_item, a_module}
use Rattle.vs_syntax.specs.Derivation.{Tree, leaf, both}
use Rattle.vs_syntax.specs.Reading.{Gets, Stuck, stuck_second, stuck_part}
use Rattle.vs_syntax.proofs.Gets.{gets_token, gets_seq, gets_part}

-- what stands behind the name of a module
abbrev pub module_rest : Grammar
module_rest = (header_parameters or nothing) · (header_ports or nothing) · mark m.Semicolon · many (part an_item) · word w.Endmodule

-- a module
pub module_stuck : (depth : ℕ) (deep : Bool) (ts after at : List Symbol) → ts ≡ a_word w.Module ∷ after → Stuck (name · module_rest) depth deep after at → Stuck (part a_module) depth deep ts at
module_stuck depth deep ts after at e s = rw e (stuck_part (stuck_second (gets_token refl) s))

pub module_read : (depth : ℕ) (ts after rest : List Symbol) (x : Tree) → ts ≡ a_word w.Module ∷ after → Gets (name · module_rest) depth after x rest → Gets (part a_module) depth ts (both (leaf (a_word w.Module)) x) rest
module_read depth ts after rest x e p = rw e (gets_part (gets_seq (gets_token refl) p))
