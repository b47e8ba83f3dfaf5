-- How a fault is told.
use Rattle.std.specs.Prelude.{ℕ, List, ◌++◌, codes, decimal}
use Rattle.vs_lexer.specs.declared.fault.LexFault.{LexFault}
use Rattle.vs_lexer.specs.declared.fault.LexFault.TheVariants as f
use Rattle.vs_lexer.specs.Tokens.{refusal_text}

-- the text of a fault: the number of its refusal and its place (profile)
abbrev pub fault_text : LexFault → List ℕ
fault_text (f.Refused why place) = refusal_text why ++ codes " at " ++ decimal place
fault_text f.Memory = codes "memory"
