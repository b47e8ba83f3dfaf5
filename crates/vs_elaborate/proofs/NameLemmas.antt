-- Names can be printed: a name is a run of bytes of a class of printable ones, and no other form gives a name.
use Rattle.std.proofs.Common.{◌≡◌, ℕ, Bool, true, false, nat_eq, if◌then◌else◌, List, [], ◌∷◌, Option, Some, None, refl, subst, arith}
use Rattle.std.proofs.lemmas.Bool.{and_parts, and_from, ne_eqb}
use Rattle.std.specs.List.{list_all}
use Rattle.vs_lexer.specs.declared.piece.Piece.{Piece}
use Rattle.vs_lexer.specs.declared.piece.Piece.TheVariants.{Skipped, Token, Refused}
use Rattle.vs_lexer.specs.declared.token.Kind.{Kind}
use Rattle.vs_lexer.specs.declared.token.Kind.TheVariants as k
use Rattle.vs_lexer.specs.Bytes.{starts_name, in_name, in_escaped}
use Rattle.vs_lexer.specs.Forms.{run_of}
use Rattle.vs_lexer.specs.Tokens.{Lexeme, name_of}
use Rattle.vs_lexer.specs.Pieces.{name_piece, escaped_piece, piece_of}
use Rattle.vs_lexer.specs.Spelling.{Spells, ends, skips, reads}
use Rattle.vs_lexer.proofs.Forms.{by_form}
use Rattle.vs_lexer.proofs.NameLines.{NoName, no_name, white_no_name, number_no_name, text_no_name, apostrophe_no_name, parenthesis_no_name, slash_no_name, directive_no_name, mark_no_name}
use Rattle.vs_elaborate.specs.PrintableNames.{is_printable_name, name_passes, token_passes}
use Rattle.vs_elaborate.proofs.OtherLemmas.{system_no_name}

-- whether it is no name, or the text is a name that can be printed
abbrev is_printable : List ℕ → Option Piece → Bool
is_printable text (Some (Token kind)) = name_passes is_printable_name kind text
is_printable text _ = true

record Printable (text : List ℕ) (piece : Option Piece) : Type 0 where
  is : is_printable text piece ≡ true

-- what is no name is none that can't be printed
no_name_printable : (text : List ℕ) (piece : Option Piece) → NoName piece → Printable text piece
no_name_printable text None h = record { is = refl }
no_name_printable text (Some Skipped) h = record { is = refl }
no_name_printable text (Some (Refused why)) h = record { is = refl }
no_name_printable text (Some (Token kind)) h = record { is = by_kind kind h.is }
  where
    by_kind : (kind : Kind) → no_name (Some (Token kind)) ≡ true → name_passes is_printable_name kind text ≡ true
    by_kind k.Name h = absurd cc
    by_kind _ h = refl

-- a text that can be printed is no name that can't
text_printable : (text : List ℕ) (piece : Option Piece) → is_printable_name (name_of text) ≡ true → Printable text piece
text_printable text None h = record { is = refl }
text_printable text (Some Skipped) h = record { is = refl }
text_printable text (Some (Refused why)) h = record { is = refl }
text_printable text (Some (Token kind)) h = record { is = by_kind kind }
  where
    by_kind : (kind : Kind) → name_passes is_printable_name kind text ≡ true
    by_kind k.Name = h
    by_kind _ = refl

-- ---- simple names

name_in_escaped : (b : ℕ) → in_name b ≡ true → in_escaped b ≡ true
name_in_escaped b h = grind (arith, h)

all_in_escaped : (bs : List ℕ) → list_all in_name bs ≡ true → list_all in_escaped bs ≡ true
all_in_escaped [] h = refl
all_in_escaped (b ∷ bs) h =
    let parts = and_parts (in_name b) (list_all in_name bs) h in
    and_from (in_escaped b) (list_all in_escaped bs) (name_in_escaped b parts.0) (all_in_escaped bs parts.1)

-- a simple name has no backslash
no_backslash : (b : ℕ) → starts_name b ≡ true → nat_eq b 92 ≡ false
no_backslash b h = ne_eqb b 92 (λ e. absurd (cc (subst (λ (c : ℕ). starts_name c ≡ true) e h)))

name_printable : (b : ℕ) (bs rest : List ℕ) → starts_name b ≡ true → Printable (b ∷ bs) (run_of in_name name_piece (b ∷ bs) rest)
name_printable b bs rest first = split (list_all in_name (b ∷ bs)) refl
  where
    split : (t : Bool) → list_all in_name (b ∷ bs) ≡ t → Printable (b ∷ bs) (if t then Some (name_piece (b ∷ bs) rest) else None)
    split true h = text_printable (b ∷ bs) (Some (name_piece (b ∷ bs) rest)) (rw (no_backslash b first) (all_in_escaped (b ∷ bs) h))
    split false h = record { is = refl }

-- ---- escaped names

-- what stands behind the backslash
body_printable : (b : ℕ) (bs rest : List ℕ) → nat_eq b 92 ≡ true → list_all in_escaped bs ≡ true → Printable (b ∷ bs) (Some (escaped_piece (b ∷ bs) rest))
body_printable b [] [] first h = record { is = refl }
body_printable b [] (r ∷ rs) first h = record { is = refl }
body_printable b (c ∷ cs) rest first h = text_printable (b ∷ c ∷ cs) (Some (escaped_piece (b ∷ c ∷ cs) rest)) (rw first h)

escaped_printable : (b : ℕ) (bs rest : List ℕ) → nat_eq b 92 ≡ true → Printable (b ∷ bs) (run_of in_escaped escaped_piece (b ∷ bs) rest)
escaped_printable b bs rest first = split (list_all in_escaped (b ∷ bs)) refl
  where
    split : (t : Bool) → list_all in_escaped (b ∷ bs) ≡ t → Printable (b ∷ bs) (if t then Some (escaped_piece (b ∷ bs) rest) else None)
    split true h = body_printable b bs rest first (and_parts (in_escaped b) (list_all in_escaped bs) h).1
    split false h = record { is = refl }

-- ---- pieces

piece_printable : (text rest : List ℕ) → Printable text (piece_of text rest)
piece_printable [] rest = record { is = refl }
piece_printable (b ∷ bs) rest =
    by_form (λ form. Printable (b ∷ bs) (form (b ∷ bs) rest)) b
    (λ _. no_name_printable (b ∷ bs) _ (white_no_name (b ∷ bs) rest))
    (λ first. name_printable b bs rest first)
    (λ _. no_name_printable (b ∷ bs) _ (number_no_name (b ∷ bs) rest))
    (no_name_printable (b ∷ bs) _ (text_no_name (b ∷ bs) rest))
    (λ _. no_name_printable (b ∷ bs) _ (system_no_name (b ∷ bs) rest))
    (no_name_printable (b ∷ bs) _ (apostrophe_no_name (b ∷ bs) rest))
    (no_name_printable (b ∷ bs) _ (parenthesis_no_name (b ∷ bs) rest))
    (no_name_printable (b ∷ bs) _ (slash_no_name (b ∷ bs) rest))
    (λ first. escaped_printable b bs rest first)
    (no_name_printable (b ∷ bs) _ (directive_no_name (b ∷ bs) rest))
    (no_name_printable (b ∷ bs) _ (mark_no_name (b ∷ bs) rest))

-- the tokens of a source
pub all_printable : {place : ℕ} {bytes : List ℕ} {tokens : List Lexeme} → Spells place bytes tokens → list_all (token_passes is_printable_name) tokens ≡ true
all_printable ends = refl
all_printable (skips text rest begins s) = all_printable s
all_printable (reads kind text rest begins s) =
    let one : name_passes is_printable_name kind text ≡ true = (subst (Printable text) begins.reads.is (piece_printable text rest)).is in
    rw one (all_printable s)
