-- The pieces of a text for a preprocessor (clauses 3 and 19): what the piece at the front is, and what stands behind it.
use Rattle.std.specs.Prelude.{ℕ, ◌≡◌, ◌==◌, ◌&&◌, ◌||◌, Bool, false, not, List, [], ◌∷◌, ◌++◌, Option, None, Some, if◌then◌else◌}
use Rattle.std.specs.Char.{is_ascii_digit}
use Rattle.vs_lexer.specs.Bytes.{is_white, starts_name, in_name, in_escaped, in_line, after_run}
use Rattle.vs_prep_macros.specs.Classes.{is_blank, in_based}
use Rattle.vs_prep_macros.specs.declared.piece.Form.{Form}
use Rattle.vs_prep_macros.specs.declared.piece.Form.TheVariants as f

-- what a piece is, and the bytes behind it
abbrev pub Cut : Type 0
Cut = Form × List ℕ

-- the bytes behind the first place where two bytes stand side by side
abbrev pub after_close : ℕ → ℕ → List ℕ → Option (List ℕ)
after_close c d [] = None
after_close c d (x ∷ []) = None
after_close c d (x ∷ y ∷ ys) = if x == c && y == d then Some ys else after_close c d (y ∷ ys)

-- the bytes behind the quote that closes a text on its line; the flag says that a backslash escapes the next byte (clause 3.6)
abbrev pub after_quote : Bool → List ℕ → Option (List ℕ)
after_quote escaped [] = None
after_quote escaped (b ∷ bs) =
    if b == 10 then None
    else (if not escaped && b == 34 then Some bs
    else after_quote (not escaped && b == 92) bs)

-- a comment between `/*` and `*/`, which takes all that is left where it isn't closed (clause 3.3)
abbrev pub block_cut : Option (List ℕ) → Cut
block_cut None = (f.OpenComment, [])
block_cut (Some rest) = (f.BlockComment, rest)

-- what a slash begins (clause 3.3)
abbrev pub slash_cut : List ℕ → Cut
slash_cut [] = (f.Other, [])
slash_cut (b ∷ bs) =
    if b == 47 then (f.LineComment, after_run in_line bs)
    else (if b == 42 then block_cut (after_close 42 47 bs)
    else (f.Other, b ∷ bs))

-- a text, which goes on to the line's end where that cuts it (clause 3.6)
abbrev pub text_cut : List ℕ → Option (List ℕ) → Cut
text_cut after None = (f.CutText, after_run in_line after)
text_cut after (Some rest) = (f.Text, rest)

-- what a quote begins
abbrev pub quote_cut : List ℕ → Cut
quote_cut after = text_cut after (after_quote false after)

-- the bytes behind a letter that says that a number is signed (clause 3.5.1)
abbrev pub skip_sign : List ℕ → List ℕ
skip_sign [] = []
skip_sign (b ∷ bs) = if b == 115 || b == 83 then bs else b ∷ bs

-- the letters of bases (clause 3.5.1)
abbrev pub is_base : ℕ → Bool
is_base b = b == 98 || b == 66 || b == 111 || b == 79 || b == 100 || b == 68 || b == 104 || b == 72

-- a base with its digits, or the apostrophe alone
abbrev pub based_cut : List ℕ → List ℕ → Cut
based_cut after [] = (f.Other, after)
based_cut after (b ∷ bs) = if is_base b then (f.Digits, after_run in_based bs) else (f.Other, after)

-- what an apostrophe begins
abbrev pub apostrophe_cut : List ℕ → Cut
apostrophe_cut after = based_cut after (skip_sign after)

-- what the piece is that a byte begins, with these bytes after it, and what stands behind it
unfoldable pub cut_by : ℕ → List ℕ → Cut
cut_by b after =
    if b == 10 then (f.LineFeed, after)
    else (if b == 47 then slash_cut after
    else (if b == 34 then quote_cut after
    else (if b == 92 then (f.Escaped, after_run in_escaped after)
    else (if b == 39 then apostrophe_cut after
    else (if b == 96 then (f.Backquote, after)
    else (if is_ascii_digit b then (f.Digits, after_run in_name after)
    else (if starts_name b then (f.Name, after_run in_name after)
    else (if is_blank b then (f.Blank, after_run is_blank after)
    else (f.Other, after)))))))))

-- what the piece at the front is, and what stands behind it
abbrev pub cut_of : List ℕ → Cut
cut_of [] = (f.Other, [])
cut_of (b ∷ bs) = cut_by b bs

-- The bytes are these pieces, one after another, each as long as it goes on.
pub data Pieces : List ℕ → List (Form × List ℕ) → Type 0 where
  none : Pieces [] []
  one : {bytes rest : List ℕ} {pieces : List (Form × List ℕ)} (form : Form) (first : ℕ) (text : List ℕ) →
      bytes ≡ first ∷ text ++ rest → cut_of bytes ≡ (form, rest) → Pieces rest pieces → Pieces bytes ((form, first ∷ text) ∷ pieces)
