-- Names hold no line feed: a name is a run of bytes of a class without it, and no other form gives a name.
use Rattle.std.proofs.Common.{◌≡◌, ℕ, ◌^◌, Bool, true, false, not, ◌&&◌, ◌||◌, nat_eq, nat_lt, if◌then◌else◌, List, [], ◌∷◌, ◌++◌, Option, Some, None, refl, subst}
use Rattle.std.proofs.lemmas.Bool.{and_parts, ne_eqb}
use Rattle.std.specs.Prelude.{◌==◌}
use Rattle.std.specs.List.{list_all}
use Rattle.std.specs.Str.{bytes_eq}
use Rattle.vs_lexer.specs.declared.base.Base.{Base}
use Rattle.vs_lexer.specs.declared.piece.Piece.{Piece}
use Rattle.vs_lexer.specs.declared.piece.Piece.TheVariants.{Skipped, Token, Refused}
use Rattle.vs_lexer.specs.declared.refusal.Refusal.{Refusal}
use Rattle.vs_lexer.specs.declared.refusal.Refusal.TheVariants as r
use Rattle.vs_lexer.specs.declared.token.Directive.{Directive}
use Rattle.vs_lexer.specs.declared.token.Kind.{Kind}
use Rattle.vs_lexer.specs.declared.token.Kind.TheVariants as k
use Rattle.vs_lexer.specs.declared.token.Literal.{Literal}
use Rattle.vs_lexer.specs.Bytes.{is_white, in_name, in_escaped, in_decimal, in_line, in_comment, in_attribute, front_run, after_run}
use Rattle.vs_lexer.specs.Forms.{run_of}
use Rattle.vs_lexer.specs.Literals.{number_form, after_size, quote_form, base_form, digits_form, literal_piece, decimal_piece, continues_number, apostrophe_form}
use Rattle.vs_lexer.specs.Numbers.{base_of, is_sign, starts_digits, in_digits, is_well_formed, fits_unsized, value_after, plain_literal, based_literal}
use Rattle.vs_lexer.specs.Texts.{TextEnd, ended, open_yet, after_octal, is_escape, is_octal, is_above_377, text_end, text_piece, text_form}
use Rattle.vs_lexer.specs.Tokens.{Lexeme, name_of}
use Rattle.vs_lexer.specs.Directives.{directive_at}
use Rattle.vs_lexer.specs.NameLines.{is_one_line, has_one_line_name, is_one_line_token}
use Rattle.vs_lexer.specs.Pieces.{white_piece, name_piece, system_piece, escaped_piece, among, after_pair, closed_piece, slash_form, opens_attribute, parenthesis_form, token_of, one_byte_piece, mark_form, directive_piece, directive_form, piece_of}
use Rattle.vs_lexer.specs.Reserved.{kind_in, one_byte_marks, two_byte_marks, three_byte_marks}
use Rattle.vs_lexer.specs.Spelling.{Spells, ends, skips, reads}
use Rattle.vs_lexer.proofs.Forms.{by_form}

-- whether it is no token that is a name
abbrev pub no_name : Option Piece → Bool
no_name (Some (Token k.Name)) = false
no_name _ = true

pub record NoName (piece : Option Piece) : Type 0 where
  pub is : no_name piece ≡ true

pub none : NoName None
none = record { is = refl }

skipped : NoName (Some Skipped)
skipped = record { is = refl }

pub refused : (why : Refusal) → NoName (Some (Refused why))
refused why = record { is = refl }

number : (literal : Literal) → NoName (Some (Token (k.Number literal)))
number literal = record { is = refl }

-- whether it is no name, or the text is a name without line feed
abbrev one_line : List ℕ → Option Piece → Bool
one_line text (Some (Token kind)) = has_one_line_name kind text
one_line text _ = true

record OneLine (text : List ℕ) (piece : Option Piece) : Type 0 where
  is : one_line text piece ≡ true

pub either : {A : Type 0} (P : A → Type 0) (t : Bool) {x y : A} → P x → P y → P (if t then x else y)
either P true p q = p
either P false p q = q

abbrev pub NoNamePiece : Piece → Type 0
NoNamePiece piece = NoName (Some piece)

-- ---- numbers

decimal_no_name : (text rest : List ℕ) → NoNamePiece (decimal_piece text rest)
decimal_no_name text rest =
    let small = either NoNamePiece (nat_lt (value_after 0 text) (2 ^ 32)) (number (plain_literal (value_after 0 text))) (refused r.TooLarge) in
    either NoNamePiece (continues_number rest) (refused r.BadLiteral) small

literal_no_name : (size : Option (List ℕ)) (signed : Bool) (base : Base) (digits : List ℕ) → NoNamePiece (literal_piece size signed base digits)
unfolding literal_piece
literal_no_name None signed base digits =
    let fits = either NoNamePiece (fits_unsized base digits) (number (based_literal base 32 signed digits)) (refused r.TooLarge) in
    either NoNamePiece (is_well_formed base digits) fits (refused r.BadLiteral)
literal_no_name (Some size) signed base digits =
    let n : ℕ = value_after 0 size in
    let fits = either NoNamePiece (n == 0 || nat_lt 64 n) (refused r.TooLarge) (number (based_literal base n signed digits)) in
    either NoNamePiece (is_well_formed base digits) fits (refused r.BadLiteral)

digits_no_name : (size : Option (List ℕ)) (signed : Bool) (base : Option Base) (digits : List ℕ) → NoName (digits_form size signed base digits)
digits_no_name size signed None digits = none
digits_no_name size signed (Some base) [] = none
digits_no_name size signed (Some base) (d ∷ ds) =
    either NoName (starts_digits base d && list_all (in_digits base) ds) (literal_no_name size signed base (d ∷ ds)) none

base_no_name : (size : Option (List ℕ)) (signed : Bool) (text rest : List ℕ) → NoName (base_form size signed text rest)
unfolding base_form
base_no_name size signed [] rest = none
base_no_name size signed (b ∷ bs) rest = digits_no_name size signed (base_of b) (after_run is_white bs)

quote_no_name : (size : Option (List ℕ)) (text rest : List ℕ) → NoName (quote_form size text rest)
unfolding quote_form
quote_no_name size [] rest = refused r.BadLiteral
quote_no_name size (b ∷ bs) rest = either NoName (is_sign b) (base_no_name size true bs rest) (base_no_name size false (b ∷ bs) rest)

behind_size_no_name : (size text rest : List ℕ) → NoName (after_size size text rest)
unfolding after_size
behind_size_no_name size [] rest = none
behind_size_no_name size (b ∷ bs) rest = either NoName (b == 39) (quote_no_name (Some size) bs rest) none

pub number_no_name : (text rest : List ℕ) → NoName (number_form text rest)
unfolding number_form
number_no_name text rest =
    either NoName (list_all in_decimal text) (decimal_no_name text rest) (behind_size_no_name (front_run in_decimal text) (after_run is_white (after_run in_decimal text)) rest)

pub apostrophe_no_name : (text rest : List ℕ) → NoName (apostrophe_form text rest)
unfolding apostrophe_form
apostrophe_no_name [] rest = none
apostrophe_no_name (b ∷ bs) rest = quote_no_name None bs rest

-- ---- texts

record NoNameEnd (end : TextEnd) : Type 0 where
  is : NoName (text_piece end)

open_no_name : NoNameEnd open_yet
open_no_name = record { is = refused r.Unclosed }

ended_no_name : (piece : Piece) (rest : List ℕ) → NoNamePiece piece → NoNameEnd (ended piece rest)
ended_no_name piece [] h = record { is = h }
ended_no_name piece (b ∷ bs) h = record { is = none }

text_ended : (rest : List ℕ) → NoNameEnd (ended (Token k.Text) rest)
text_ended rest = ended_no_name (Token k.Text) rest (record { is = refl })

refused_ended : (why : Refusal) (rest : List ℕ) → NoNameEnd (ended (Refused why) rest)
refused_ended why rest = ended_no_name (Refused why) rest (refused why)

octal_no_name : (text : List ℕ) → NoNameEnd (after_octal text)
octal_no_name [] = open_no_name
octal_no_name (b ∷ []) = open_no_name
octal_no_name (b ∷ c ∷ bs) = refused_ended r.BadLiteral bs

end_no_name : (text : List ℕ) → NoNameEnd (text_end text)
end_no_name [] = open_no_name
end_no_name (b ∷ []) =
    let plain = either NoNameEnd (in_comment b) open_no_name (refused_ended r.BadByte []) in
    either NoNameEnd (b == 34) (text_ended []) (either NoNameEnd (b == 10) (refused_ended r.Unclosed []) plain)
end_no_name (b ∷ c ∷ bs) =
    let octal = either NoNameEnd (is_above_377 c bs) (octal_no_name bs) (end_no_name bs) in
    let bad = either NoNameEnd (is_octal c) octal (refused_ended r.BadLiteral bs) in
    let escape = either NoNameEnd (is_escape c) (end_no_name bs) bad in
    let plain = either NoNameEnd (in_comment b) (end_no_name (c ∷ bs)) (refused_ended r.BadByte (c ∷ bs)) in
    let behind = either NoNameEnd (b == 92) escape plain in
    either NoNameEnd (b == 34) (text_ended (c ∷ bs)) (either NoNameEnd (b == 10) (refused_ended r.Unclosed (c ∷ bs)) behind)

pub text_no_name : (text rest : List ℕ) → NoName (text_form text rest)
unfolding text_form
text_no_name [] rest = none
text_no_name (b ∷ bs) rest = (end_no_name bs).is

-- ---- white space, comments, attributes, marks and directives

pub white_no_name : (text rest : List ℕ) → NoName (run_of is_white white_piece text rest)
white_no_name text rest = either NoName (list_all is_white text) skipped none

among_no_name : (allowed : ℕ → Bool) (text : List ℕ) (piece : Piece) → NoNamePiece piece → NoNamePiece (among allowed text piece)
among_no_name allowed text piece h = either NoNamePiece (list_all allowed text) h (refused r.BadByte)

closed_no_name : (allowed : ℕ → Bool) (body : List ℕ) (behind : Option (List ℕ)) → NoName (closed_piece allowed body behind)
closed_no_name allowed body None = among_no_name allowed body (Refused r.Unclosed) (refused r.Unclosed)
closed_no_name allowed body (Some []) = among_no_name allowed body Skipped skipped
closed_no_name allowed body (Some (b ∷ bs)) = none

pub slash_no_name : (text rest : List ℕ) → NoName (slash_form text rest)
unfolding slash_form
slash_no_name [] rest = none
slash_no_name (b ∷ []) rest = record { is = refl }
slash_no_name (b ∷ c ∷ bs) rest =
    let line = either NoName (list_all in_line bs) (among_no_name in_comment bs Skipped skipped) none in
    let block = either NoName (c == 42) (closed_no_name in_comment bs (after_pair 42 47 bs)) none in
    either NoName (c == 47) line block

pub parenthesis_no_name : (text rest : List ℕ) → NoName (parenthesis_form text rest)
unfolding parenthesis_form
parenthesis_no_name [] rest = none
parenthesis_no_name (b ∷ []) rest = record { is = refl }
parenthesis_no_name (b ∷ c ∷ bs) rest =
    either NoName (c == 42 && opens_attribute (bs ++ rest)) (closed_no_name in_attribute bs (after_pair 42 41 bs)) none

abbrev NoNameKind : Option Kind → Type 0
NoNameKind kind = NoName (token_of kind)

table_no_name : (table : List (List ℕ × Kind)) (text : List ℕ) → list_all (λ e. no_name (Some (Token e.1))) table ≡ true → NoNameKind (kind_in table text)
table_no_name [] text h = none
table_no_name (e ∷ es) text h =
    let parts = and_parts (no_name (Some (Token e.1))) (list_all (λ e. no_name (Some (Token e.1))) es) h in
    either NoNameKind (bytes_eq e.0 text) {x = Some e.1} {y = kind_in es text} (record { is = parts.0 }) (table_no_name es text parts.1)

one_byte_no_name : (kind : Option Kind) → NoNameKind kind → NoNamePiece (one_byte_piece kind)
one_byte_no_name None h = refused r.BadByte
one_byte_no_name (Some kind) h = h

pub mark_no_name : (text rest : List ℕ) → NoName (mark_form text rest)
unfolding mark_form
mark_no_name [] rest = none
mark_no_name (a ∷ []) rest = one_byte_no_name (kind_in one_byte_marks (a ∷ [])) (table_no_name one_byte_marks (a ∷ []) refl)
mark_no_name (a ∷ b ∷ []) rest = table_no_name two_byte_marks (a ∷ b ∷ []) refl
mark_no_name (a ∷ b ∷ c ∷ []) rest = table_no_name three_byte_marks (a ∷ b ∷ c ∷ []) refl
mark_no_name (a ∷ b ∷ c ∷ d ∷ bs) rest = none

directive_piece_no_name : (read : Option (Directive × List ℕ)) → NoName (directive_piece read)
directive_piece_no_name None = none
directive_piece_no_name (Some x) = whole x.0 x.1
  where
    whole : (directive : Directive) (rest : List ℕ) → NoName (directive_piece (Some (directive, rest)))
    whole directive [] = record { is = refl }
    whole directive (b ∷ bs) = none

pub directive_no_name : (text rest : List ℕ) → NoName (directive_form text rest)
unfolding directive_form
directive_no_name [] rest = none
directive_no_name (b ∷ []) rest = refused r.BadDirective
directive_no_name (b ∷ c ∷ bs) rest = directive_piece_no_name (directive_at (c ∷ bs))

-- ---- names

-- what is no name is no name with a line feed
no_name_one_line : (text : List ℕ) (piece : Option Piece) → NoName piece → OneLine text piece
no_name_one_line text None h = record { is = refl }
no_name_one_line text (Some Skipped) h = record { is = refl }
no_name_one_line text (Some (Refused why)) h = record { is = refl }
no_name_one_line text (Some (Token kind)) h = record { is = by_kind kind h.is }
  where
    by_kind : (kind : Kind) → no_name (Some (Token kind)) ≡ true → has_one_line_name kind text ≡ true
    by_kind k.Name h = absurd cc
    by_kind _ h = refl

-- a text without line feed is no name with one
text_one_line : (text : List ℕ) (piece : Option Piece) → is_one_line text ≡ true → OneLine text piece
text_one_line text None h = record { is = refl }
text_one_line text (Some Skipped) h = record { is = refl }
text_one_line text (Some (Refused why)) h = record { is = refl }
text_one_line text (Some (Token kind)) h = record { is = by_kind kind }
  where
    name : (bytes : List ℕ) → is_one_line bytes ≡ true → is_one_line (name_of bytes) ≡ true
    name [] h = refl
    name (b ∷ bs) h = either (λ bytes. is_one_line bytes ≡ true) (nat_eq b 92) {x = bs} {y = b ∷ bs} (and_parts (not (nat_eq b 10)) (is_one_line bs) h).1 h

    by_kind : (kind : Kind) → has_one_line_name kind text ≡ true
    by_kind k.Name = name text h
    by_kind _ = refl

-- a run of bytes of a class without line feed
module _ (p : ℕ → Bool) (within : (b : ℕ) → p b ≡ true → not (nat_eq b 10) ≡ true) where
  class_one_line : (text : List ℕ) → list_all p text ≡ true → is_one_line text ≡ true
  class_one_line [] h = refl
  class_one_line (b ∷ bs) h =
      let parts = and_parts (p b) (list_all p bs) h in
      rw (within b parts.0) (class_one_line bs parts.1)

  run_one_line : (piece : List ℕ → List ℕ → Piece) (text rest : List ℕ) → OneLine text (run_of p piece text rest)
  run_one_line piece text rest = split (list_all p text) refl
    where
      split : (t : Bool) → list_all p text ≡ t → OneLine text (if t then Some (piece text rest) else None)
      split true h = text_one_line text (Some (piece text rest)) (class_one_line text h)
      split false h = record { is = refl }

not_line_feed : (b : ℕ) → (b ≡ 10 → ⊥) → not (nat_eq b 10) ≡ true
not_line_feed b h = rw (ne_eqb b 10 h) refl

in_name_one_line : (b : ℕ) → in_name b ≡ true → not (nat_eq b 10) ≡ true
in_name_one_line b h = not_line_feed b (λ e. absurd (cc (subst (λ (c : ℕ). in_name c ≡ true) e h)))

in_escaped_one_line : (b : ℕ) → in_escaped b ≡ true → not (nat_eq b 10) ≡ true
in_escaped_one_line b h = not_line_feed b (λ e. absurd (cc (subst (λ (c : ℕ). in_escaped c ≡ true) e h)))

-- a piece that is a name holds no line feed
piece_one_line : (text rest : List ℕ) → OneLine text (piece_of text rest)
piece_one_line [] rest = record { is = refl }
piece_one_line (b ∷ bs) rest =
    by_form (λ form. OneLine (b ∷ bs) (form (b ∷ bs) rest)) b
    (λ _. no_name_one_line (b ∷ bs) _ (white_no_name (b ∷ bs) rest))
    (λ _. run_one_line in_name in_name_one_line name_piece (b ∷ bs) rest)
    (λ _. no_name_one_line (b ∷ bs) _ (number_no_name (b ∷ bs) rest))
    (no_name_one_line (b ∷ bs) _ (text_no_name (b ∷ bs) rest))
    (λ _. run_one_line in_name in_name_one_line system_piece (b ∷ bs) rest)
    (no_name_one_line (b ∷ bs) _ (apostrophe_no_name (b ∷ bs) rest))
    (no_name_one_line (b ∷ bs) _ (parenthesis_no_name (b ∷ bs) rest))
    (no_name_one_line (b ∷ bs) _ (slash_no_name (b ∷ bs) rest))
    (λ _. run_one_line in_escaped in_escaped_one_line escaped_piece (b ∷ bs) rest)
    (no_name_one_line (b ∷ bs) _ (directive_no_name (b ∷ bs) rest))
    (no_name_one_line (b ∷ bs) _ (mark_no_name (b ∷ bs) rest))

-- the tokens of a source
pub all_one_line : {place : ℕ} {bytes : List ℕ} {tokens : List Lexeme} → Spells place bytes tokens → list_all is_one_line_token tokens ≡ true
all_one_line ends = refl
all_one_line (skips text rest begins s) = all_one_line s
all_one_line (reads kind text rest begins s) =
    let one : has_one_line_name kind text ≡ true = (subst (OneLine text) begins.reads.is (piece_one_line text rest)).is in
    rw one (all_one_line s)
