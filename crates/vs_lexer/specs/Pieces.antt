-- The pieces of a source: its tokens, what is skipped between them, and what is refused (IEEE 1364-2005, clause 3).
use Rattle.std.specs.Prelude.{ℕ, ◌==◌, ◌&&◌, Bool, true, not, List, [], ◌∷◌, ◌++◌, length, Option, None, Some, if◌then◌else◌, nat_lt}
use Rattle.std.specs.Char.{is_ascii_digit}
use Rattle.std.specs.List.{list_all}
use Rattle.vs_lexer.specs.declared.refusal.Refusal.TheVariants as r
use Rattle.vs_lexer.specs.declared.piece.Piece.{Piece}
use Rattle.vs_lexer.specs.declared.piece.Piece.TheVariants.{Skipped, Token, Refused}
use Rattle.vs_lexer.specs.declared.token.Kind.{Kind}
use Rattle.vs_lexer.specs.declared.token.Kind.TheVariants as k
use Rattle.vs_lexer.specs.declared.token.Directive.{Directive}
use Rattle.vs_lexer.specs.declared.token.Mark.TheVariants as m
use Rattle.vs_lexer.specs.Bytes.{is_white, starts_name, in_name, in_escaped, in_line, in_comment, in_attribute}
use Rattle.vs_lexer.specs.Forms.{Form, run_of}
use Rattle.vs_lexer.specs.Literals.{number_form, apostrophe_form}
use Rattle.vs_lexer.specs.Texts.{text_form}
use Rattle.vs_lexer.specs.Directives.{directive_at}
use Rattle.vs_lexer.specs.Reserved.{kind_in, words, left_out_words_to_h, left_out_words_to_r, left_out_words_to_x, one_byte_marks, two_byte_marks, three_byte_marks}

-- a token where there is one
abbrev pub token_of : Option Kind → Option Piece
token_of None = None
token_of (Some kind) = Some (Token kind)

-- white space (clause 3.2)
abbrev pub white_piece : List ℕ → List ℕ → Piece
white_piece text rest = Skipped

-- a name over its limit is refused (profile: 1,024 bytes)
abbrev pub limited : List ℕ → Kind → Piece
limited name kind = if nat_lt 1024 (length name) then Refused r.TooLong else Token kind

-- the kind of a simple name: a reserved word, or else a name (clauses 3.7 and 3.7.2)
unfoldable pub word_or_name : List ℕ → Kind
word_or_name text =
    word_or (kind_in words text)
    (word_or (kind_in left_out_words_to_h text)
    (word_or (kind_in left_out_words_to_r text)
    (word_or (kind_in left_out_words_to_x text) k.Name)))
  where
    word_or : Option Kind → Kind → Kind
    word_or None kind = kind
    word_or (Some kind) _ = kind

-- a simple name (clause 3.7)
abbrev pub name_piece : List ℕ → List ℕ → Piece
name_piece text rest = limited text (word_or_name text)

-- the name of a system task or function; a `$` alone is no token (clause 3.7.3)
abbrev pub system_piece : List ℕ → List ℕ → Piece
system_piece text rest = if nat_lt 1 (length text) then limited text k.System else Refused r.BadByte

-- an escaped name, after its backslash: at least one byte, up to white space or the source's end (clause 3.7.1)
abbrev pub escaped_piece : List ℕ → List ℕ → Piece
escaped_piece [] rest = Refused r.BadByte
escaped_piece (b ∷ bs) [] = if nat_lt 0 (length bs) then limited bs k.Name else Refused r.BadByte
escaped_piece (b ∷ bs) (c ∷ cs) = if nat_lt 0 (length bs) && is_white c then limited bs k.Name else Refused r.BadByte

-- a text with a byte that may not stand in it is refused
abbrev pub among : (ℕ → Bool) → List ℕ → Piece → Piece
among allowed text piece = if list_all allowed text then piece else Refused r.BadByte

-- a comment to the line's end, behind its slashes (clause 3.3)
abbrev pub line_piece : List ℕ → List ℕ → Piece
line_piece text rest = among in_comment text Skipped

-- what stands behind the first place where two bytes stand side by side
abbrev pub after_pair : ℕ → ℕ → List ℕ → Option (List ℕ)
after_pair c d [] = None
after_pair c d (x ∷ []) = None
after_pair c d (x ∷ y ∷ ys) = if x == c && y == d then Some ys else after_pair c d (y ∷ ys)

-- what is skipped, by what stands behind its close: nothing, where it has one
abbrev pub closed_piece : (ℕ → Bool) → List ℕ → Option (List ℕ) → Option Piece
closed_piece allowed body None = Some (among allowed body (Refused r.Unclosed))
closed_piece allowed body (Some []) = Some (among allowed body Skipped)
closed_piece allowed body (Some (_ ∷ _)) = None

-- what is skipped up to two bytes that close it, behind its opening
abbrev pub closed_by : (ℕ → Bool) → ℕ → ℕ → Form
closed_by allowed c d body rest = closed_piece allowed body (after_pair c d body)

-- what a slash begins: both comments, and the mark (clause 3.3)
unfoldable pub slash_form : Form
slash_form [] rest = None
slash_form (b ∷ []) rest = Some (Token (k.Mark m.Slash))
slash_form (b ∷ c ∷ bs) rest =
    if c == 47 then run_of in_line line_piece bs rest
    else (if c == 42 then closed_by in_comment 42 47 bs rest
    else None)

-- `(*` opens an attribute unless the first byte after white space is `)`, as in an event control (clause 3.8, profile)
abbrev pub opens_attribute : List ℕ → Bool
opens_attribute [] = true
opens_attribute (b ∷ bs) = if is_white b then opens_attribute bs else not (b == 41)

-- what a parenthesis begins: an attribute, and the mark (clause 3.8)
unfoldable pub parenthesis_form : Form
parenthesis_form [] rest = None
parenthesis_form (b ∷ []) rest = Some (Token (k.Mark m.Open))
parenthesis_form (b ∷ c ∷ bs) rest =
    if c == 42 && opens_attribute (bs ++ rest) then closed_by in_attribute 42 41 bs rest else None

-- a byte that is no mark begins no token
abbrev pub one_byte_piece : Option Kind → Piece
one_byte_piece None = Refused r.BadByte
one_byte_piece (Some kind) = Token kind

-- a mark or an operator (clause 3.4)
unfoldable pub mark_form : Form
mark_form [] rest = None
mark_form (a ∷ []) rest = Some (one_byte_piece (kind_in one_byte_marks (a ∷ [])))
mark_form (a ∷ b ∷ []) rest = token_of (kind_in two_byte_marks (a ∷ b ∷ []))
mark_form (a ∷ b ∷ c ∷ []) rest = token_of (kind_in three_byte_marks (a ∷ b ∷ c ∷ []))
mark_form (a ∷ b ∷ c ∷ d ∷ bs) rest = None

-- a directive that is all of the bytes
abbrev pub directive_piece : Option (Directive × List ℕ) → Option Piece
directive_piece None = None
directive_piece (Some x) = whole x.0 x.1
  where
    whole : Directive → List ℕ → Option Piece
    whole directive [] = Some (Token (k.Directive directive))
    whole directive (_ ∷ _) = None

-- a directive; no other backquote is in scope (clause 19, profile)
unfoldable pub directive_form : Form
directive_form [] rest = None
directive_form (b ∷ []) rest = Some (Refused r.BadDirective)
directive_form (b ∷ c ∷ bs) rest = directive_piece (directive_at (c ∷ bs))

-- the form of a piece, by its first byte
unfoldable pub form_of : ℕ → Form
form_of b =
    if is_white b then run_of is_white white_piece
    else (if starts_name b then run_of in_name name_piece
    else (if is_ascii_digit b then number_form
    else (if b == 34 then text_form
    else (if b == 36 then run_of in_name system_piece
    else (if b == 39 then apostrophe_form
    else (if b == 40 then parenthesis_form
    else (if b == 47 then slash_form
    else (if b == 92 then run_of in_escaped escaped_piece
    else (if b == 96 then directive_form
    else mark_form)))))))))

-- what piece a text is, where these bytes follow it
abbrev pub piece_of : Form
piece_of [] rest = None
piece_of (b ∷ bs) rest = form_of b (b ∷ bs) rest
