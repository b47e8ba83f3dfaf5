-- What the readers of pieces answer.
use Rattle.std.specs.Prelude.{ℕ, ◌≡◌, ◌<◌, length, Bool, List, [], ◌∷◌, ◌++◌, None}
use Rattle.vs_lexer.specs.declared.refusal.Refusal.TheVariants as r
use Rattle.vs_lexer.specs.declared.texts.TextStep.{TextStep}
use Rattle.vs_lexer.specs.declared.texts.TextStep.TheVariants as s
use Rattle.vs_lexer.specs.declared.piece.Piece.TheVariants.{Refused}
use Rattle.vs_lexer.specs.declared.piece.Lexed.{Lexed}
use Rattle.vs_lexer.specs.declared.resolving.Escape.{Escape}
use Rattle.vs_lexer.specs.declared.resolving.Escape.TheVariants as i
use Rattle.vs_lexer.specs.declared.runs.ByteClass.{ByteClass}
use Rattle.vs_lexer.specs.declared.runs.ByteClass.TheVariants as c
use Rattle.vs_lexer.specs.Bytes.{is_white, in_name, in_escaped, in_decimal, in_line, in_comment, in_attribute, is_filler}
use Rattle.vs_lexer.specs.Numbers.{in_digits}
use Rattle.vs_lexer.specs.Forms.{Form, Begins}
use Rattle.vs_lexer.specs.Texts.{text_end, ended, open_yet, resolved, no_escape}

-- the piece with which the bytes begin, and the bytes after it
pub record Reads (form : Form) (bytes : List ℕ) (read : Lexed) : Type 0 where
  pub text : List ℕ
  pub begins : Begins form read.piece text read.rest.now bytes

-- no text at the front is a piece of the form
abbrev pub HasNone : Form → List ℕ → Type 0
HasNone form bytes = (text rest : List ℕ) → bytes ≡ text ++ rest → form text rest ≡ None

-- the bytes of a class
abbrev pub in_class : ByteClass → ℕ → Bool
in_class c.White = is_white
in_class c.Name = in_name
in_class c.Escaped = in_escaped
in_class c.Decimal = in_decimal
in_class c.Line = in_line
in_class c.Comment = in_comment
in_class c.Attribute = in_attribute
in_class c.Filler = is_filler
in_class (c.Digits base) = in_digits base

-- what has been read of a text is what ends it, or all of it where it is not closed
pub data ReadsText (bytes : List ℕ) : Lexed → Type 0 where
  to_end : (read : Lexed) → text_end bytes ≡ ended read.piece read.rest.now → ReadsText bytes read
  unclosed : (read : Lexed) → text_end bytes ≡ open_yet → read.piece ≡ Refused r.Unclosed → read.rest.now ≡ [] → ReadsText bytes read

-- one step through a text
abbrev pub Steps : List ℕ → TextStep → Type 0
Steps bytes (s.Ends read) = ReadsText bytes read
Steps bytes (s.Goes rest) = (text_end rest.now ≡ text_end bytes) × (length rest.now < length bytes)

-- an item of a text is the first of what the text stands for, and fewer bytes are left
abbrev pub Resolves : List ℕ → ℕ → Escape → Type 0
Resolves values size i.Over = values ≡ []
Resolves values size (i.Byte byte rest) = (values ≡ byte ∷ resolved no_escape rest.now) × (length rest.now < size)
