-- When each fault is answered.
use Rattle.std.specs.Prelude.{◌≡◌, ℕ, ◌+◌, ◌<◌, ◌^◌, ◌≤◌, Bool, true, false, List, [], ◌∷◌, ◌++◌, length, codes, decimal}
use Rattle.vs_syntax.specs.vs_lexer.specs.Tokens.{Lexeme}
use Rattle.vs_syntax.specs.Symbols.{Symbol, no_token, first, symbols}
use Rattle.vs_syntax.specs.Grammar.{part, a_source}
use Rattle.vs_syntax.specs.Derivation.{Tree, tokens, height, Is}
use Rattle.vs_syntax.specs.Derives.{IsSource, BeginsSource}
use Rattle.vs_parser.specs.declared.fault.ParseFault.{ParseFault}
use Rattle.vs_parser.specs.declared.fault.ParseFault.TheVariants as f
use Rattle.vs_parser.specs.vs_parse_expressions.specs.declared.reading.ReadFault.{ReadFault}
use Rattle.vs_parser.specs.vs_parse_expressions.specs.declared.reading.ReadFault.TheVariants as stop
use Rattle.vs_parser.specs.vs_parse_expressions.specs.Answers.{seen}
use Rattle.vs_parser.specs.LeftOut.{is_left_out}

-- The token is the first one with which the tokens begin no source; those before it begin one of a nesting of at most 256.
pub record IsWrong (ts : List Lexeme) (x : Lexeme) : Type 0 where
  pub front : List Lexeme
  pub after : List Lexeme
  pub text : ts ≡ front ++ x ∷ after
  pub begins : BeginsSource 256 (symbols front)
  pub ends : (most : ℕ) → BeginsSource most (symbols (front ++ x ∷ [])) → ⊥

-- The token is the first one with which the tokens begin no source of a nesting of at most 256, but one of a deeper nesting.
pub record IsTooDeep (ts : List Lexeme) (x : Lexeme) : Type 0 where
  pub front : List Lexeme
  pub after : List Lexeme
  pub text : ts ≡ front ++ x ∷ after
  pub begins : BeginsSource 256 (symbols front)
  pub ends : BeginsSource 256 (symbols (front ++ x ∷ [])) → ⊥
  pub deeper : (most : ℕ) × BeginsSource most (symbols (front ++ x ∷ []))

-- The tokens begin a source of a nesting of at most 256 and are none, and this is where the last of them ends, where that is
-- a number of 64 bits.
pub record IsUnfinished (ts : List Lexeme) (place : ℕ) : Type 0 where
  pub begins : BeginsSource 256 (symbols ts)
  pub ends : (most : ℕ) (x : Tree) → IsSource most x → tokens x ≡ symbols ts → ⊥
  pub front : List Lexeme
  pub last : Lexeme
  pub text : ts ≡ front ++ last ∷ []
  pub at : last.place + length last.bytes < 2 ^ 64 → place ≡ last.place + length last.bytes

-- the condition of each fault; none of want of memory
abbrev pub IsRefused : List Lexeme → ParseFault → Type 0
IsRefused ts (f.Unexpected place) = (x : Lexeme) × IsWrong ts x × (place ≡ x.place) × (is_left_out x.kind x.bytes ≡ false)
IsRefused ts (f.LeftOut place text) =
    (x : Lexeme) × IsWrong ts x × (place ≡ x.place) × (is_left_out x.kind x.bytes ≡ true) × (text.now ≡ x.bytes)
IsRefused ts (f.TooDeep place) = (x : Lexeme) × IsTooDeep ts x × (place ≡ x.place)
IsRefused ts (f.UnexpectedEnd place) = IsUnfinished ts place
IsRefused ts f.Memory = Unit {0}

-- The tree is one of a source that is all of the tokens, of a nesting of at most 256.
pub record IsTreeOf (ts : List Lexeme) (x : Tree) : Type 0 where
  pub source : IsSource 256 x
  pub text : symbols ts ≡ tokens x

-- The symbols before the rest begin a source, and with the next one, or the end, they begin none, or none of a nesting that is allowed.
pub record Halts (deep : Bool) (ts rest : List Symbol) : Type 0 where
  pub front : List Symbol
  pub text : ts ≡ front ++ rest
  pub begins : BeginsSource 256 front
  pub ends : (x : Tree) (r : List Symbol) → Is (part a_source) x [] → (deep ≡ true → height x ≤ 256) →
      tokens x ≡ front ++ r → first r ≡ first rest → ⊥
  pub there : deep ≡ true → first rest ≡ no_token → ⊥
  pub deeper : deep ≡ true → (s : Symbol) (ss : List Symbol) → rest ≡ s ∷ ss → (most : ℕ) × BeginsSource most (front ++ s ∷ [])

-- why and where reading a whole source stopped
abbrev pub StopsAt : List Symbol → ReadFault → Type 0
StopsAt ts stop.Memory = Unit {0}
StopsAt ts (stop.Unexpected at) = Halts false ts (seen at.now)
StopsAt ts (stop.TooDeep at) = Halts true ts (seen at.now)

-- the text of a fault: its number, its place, and what the grammar leaves out (profile)
abbrev pub fault_text : ParseFault → List ℕ
fault_text (f.Unexpected place) = codes "P1 at " ++ decimal place
fault_text (f.LeftOut place text) = codes "P2 at " ++ decimal place ++ codes ": " ++ text.now
fault_text (f.TooDeep place) = codes "P3 at " ++ decimal place
fault_text (f.UnexpectedEnd place) = codes "P4 at " ++ decimal place
fault_text f.Memory = codes "memory"
