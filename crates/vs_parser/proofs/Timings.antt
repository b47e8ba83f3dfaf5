-- How the signs of assignments are read, and where they stop.
use Rattle.std.specs.Prelude.{◌≡◌, ℕ, Bool, false, List, ◌∷◌, refl}
use Rattle.std.proofs.Common.{arith}
use Rattle.vs_syntax.specs.vs_lexer.specs.declared.token.Mark.TheVariants as m
use Rattle.vs_syntax.specs.Symbols.{Symbol, a_mark}
use Rattle.vs_syntax.specs.Grammar.{seq, mark, late}
use Rattle.vs_syntax.specs.Tables.{goes}
use Rattle.vs_syntax.specs.Derivation.{Tree, leaf, both}
use Rattle.vs_syntax.specs.Reading.{Gets, Stuck, stuck_right}
use Rattle.vs_syntax.proofs.Gets.{gets_token, gets_seq, gets_left, gets_right}
use Rattle.vs_parser.specs.Timings.{timing}

-- the sign of an assignment
pub at_once : (depth : ℕ) (ts rest : List Symbol) → ts ≡ a_mark m.Assign ∷ rest → Gets timing depth ts (leaf (a_mark m.Assign)) rest
at_once depth ts rest e = rw e (gets_left refl (gets_token refl))

pub later_stuck : (depth : ℕ) (deep : Bool) (ts at : List Symbol) → goes (mark m.Assign) ts ≡ false → Stuck (seq (mark m.LessEqual) late) depth deep ts at → Stuck timing depth deep ts at
later_stuck depth deep ts at h s = stuck_right h (omega arith) s

pub later_read : (depth : ℕ) (ts after rest : List Symbol) (x y : Tree) → goes (mark m.Assign) ts ≡ false → Gets (mark m.LessEqual) depth ts x after → Gets late depth after y rest → Gets timing depth ts (both x y) rest
later_read depth ts after rest x y h p q = gets_right h (gets_seq p q)
