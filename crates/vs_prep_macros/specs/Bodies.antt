-- The texts of macros, as definitions give them (IEEE 1364-2005, clause 19.3.1).
use Rattle.std.specs.Borrow.{Bor}
use Rattle.std.specs.Prelude.{ℕ, ◌≡◌, ◌==◌, ◌&&◌, ◌||◌, ◌-◌, Bool, not, List, [], ◌∷◌, ◌++◌, Option, None, Some, Result, Ok, Err, length, take, if◌then◌else◌, reverse}
use Rattle.vs_lexer.specs.Bytes.{after_run, begins}
use Rattle.vs_prep_macros.specs.Classes.{is_return}
use Rattle.vs_prep_macros.specs.Parts.{Part, parts_of, bytes_from}
use Rattle.vs_prep_macros.specs.declared.piece.Form.{Form}
use Rattle.vs_prep_macros.specs.declared.piece.Form.TheVariants as f
use Rattle.vs_prep_macros.specs.declared.fault.Fault.{Fault}
use Rattle.vs_prep_macros.specs.declared.fault.Fault.TheVariants as d
use Rattle.vs_prep_macros.specs.declared.fault.Halt.{Halt}
use Rattle.vs_prep_macros.specs.declared.fault.Halt.TheVariants as h
use Rattle.vs_prep_macros.specs.Answers.{Stops}
use Rattle.vs_prep_macros.specs.Folds.{Turn, Goes, Ends, Through}
use Rattle.vs_prep_macros.specs.Names.{split_name}
use Rattle.vs_prep_macros.specs.Spaces.{has_line_feed, after_joint, without_end}

-- the byte makes a backquote before it one of a newer language: a backquote, a quote, a backslash
abbrev pub is_mark : ℕ → Bool
is_mark b = b == 96 || (b == 34 || b == 92)

-- the bytes behind a name, or behind a mark, from those behind a backquote
abbrev pub after_use : List ℕ → List ℕ
after_use [] = []
after_use (b ∷ bs) = if is_mark b then bs else (split_name (b ∷ bs)).1

-- those that stand before them
abbrev pub front_used : List ℕ → List ℕ
front_used after = take (length after - length (after_use after)) after

-- a line comment ends in a backslash before its carriage returns, and another line follows
abbrev pub goes_on : List ℕ → List ℕ → Bool
goes_on text rest = not (length rest == 0) && begins (λ b. b == 92) (after_run is_return (reverse text))

-- a text with white space behind it, but none at its front
abbrev pub spaced : List ℕ → List ℕ → List ℕ
spaced body space = if length body == 0 then [] else body ++ space

-- what is known behind a piece of a macro's text, or what is found at its end: the text, and the bytes that end it
abbrev pub Found : Type 0
Found = Result (List ℕ × List ℕ) Halt

-- why a piece may not stand in a macro's text
abbrev pub refused_if : Bool → Fault → Option Fault
refused_if refused fault = if refused then Some fault else None

abbrev pub refused_form : Form → Part → Option Fault
refused_form f.OpenComment p = Some d.OpenComment
refused_form f.CutText p = Some d.CutText
refused_form f.LineComment p = refused_if (goes_on p.text p.rest) d.CommentContinued
refused_form f.BlockComment p = refused_if (has_line_feed p.text) d.CommentOverLines
refused_form f.Escaped p = refused_if (length p.text == 1) d.LoneBackslash
refused_form _ p = None

-- a piece behind a text: a comment between `/*` and `*/` is one space, a line comment nothing
abbrev pub put_form : Form → List ℕ → Part → Turn (List ℕ × List ℕ) Found
put_form f.LineFeed body p = Ends (Ok (without_end body, bytes_from p))
put_form f.LineComment body p = Goes (body, p.rest)
put_form f.BlockComment body p = Goes (spaced body (32 ∷ []), p.rest)
put_form f.Blank body p = Goes (spaced body p.text, p.rest)
put_form f.Backquote body p = Goes (body ++ 96 ∷ front_used p.rest, after_use p.rest)
put_form _ body p = Goes (body ++ p.text, p.rest)

-- the same, or the fault at the piece
abbrev pub put_unless : Option Fault → List ℕ → Part → Turn (List ℕ × List ℕ) Found
put_unless None body p = put_form p.form body p
put_unless (Some fault) body p = Ends (Err (h.At fault (length (bytes_from p))))

abbrev pub put_part : List ℕ → Part → Turn (List ℕ × List ℕ) Found
put_part body p = put_unless (refused_form p.form p) body p

abbrev pub put_first : List ℕ → List Part → Turn (List ℕ × List ℕ) Found
put_first body [] = Ends (Ok (without_end body, []))
put_first body (p ∷ ps) = put_part body p

-- a line end that is joined is a line feed
abbrev pub put_joint : List ℕ → List ℕ → Option (List ℕ) → Turn (List ℕ × List ℕ) Found
put_joint body bytes None = put_first body (parts_of bytes)
put_joint body bytes (Some rest) = Goes (spaced body (10 ∷ []), rest)

-- what comes next behind a text
unfoldable pub put_next : List ℕ → List ℕ → Turn (List ℕ × List ℕ) Found
put_next body bytes = put_joint body bytes (after_joint bytes)

abbrev pub PutsNext : List ℕ → List ℕ → Turn (List ℕ × List ℕ) Found → Type 0
PutsNext body bytes turn = put_next body bytes ≡ turn

-- the text of a macro up to the end of its line, with the bytes there, or the first fault
abbrev pub IsBody : List ℕ → Found → Type 0
IsBody bytes found = Through PutsNext [] bytes found

-- what is answered where a piece is put behind a text, which then is the new one: the bytes behind it; none, where the text ends before these bytes
abbrev pub PutsSo : Turn (List ℕ × List ℕ) Found → List ℕ → List ℕ → Option (Bor (List ℕ)) → Type 0
PutsSo turn bytes new (Some rest) = turn ≡ Goes (new, rest.now)
PutsSo turn bytes new None = turn ≡ Ends (Ok (without_end new, bytes))

-- the same, or why reading stops
abbrev pub Puts : Turn (List ℕ × List ℕ) Found → List ℕ → List ℕ → Result (Option (Bor (List ℕ))) Halt → Type 0
Puts turn bytes new (Ok x) = PutsSo turn bytes new x
Puts turn bytes new (Err e) = Stops (λ r. turn ≡ Ends r) e
