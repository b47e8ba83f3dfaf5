-- What stands between the parts of a directive or of a use (IEEE 1364-2005, clause 19).
use Rattle.std.specs.Prelude.{ℕ, ◌==◌, Bool, true, false, not, List, [], ◌∷◌, Option, None, Some, is_some, length, if◌then◌else◌, reverse}
use Rattle.vs_lexer.specs.Bytes.{is_white, in_line, after_run}
use Rattle.vs_prep_macros.specs.Parts.{Part, parts_of, bytes_from}
use Rattle.vs_prep_macros.specs.declared.piece.Form.{Form}
use Rattle.vs_prep_macros.specs.declared.piece.Form.TheVariants as f
use Rattle.vs_prep_macros.specs.Folds.{Turn, Goes, Ends, over}

-- bytes hold a line feed
abbrev pub has_line_feed : List ℕ → Bool
has_line_feed bytes = not (length (after_run in_line bytes) == 0)

-- white space, or a comment that ends on its line
abbrev pub blank_form : Form → List ℕ → Bool
blank_form f.Blank text = true
blank_form f.BlockComment text = not (has_line_feed text)
blank_form _ text = false

abbrev pub is_blank : Part → Bool
is_blank p = blank_form p.form p.text

-- white space, a line feed, or a comment
abbrev pub space_form : Form → Bool
space_form f.Blank = true
space_form f.LineFeed = true
space_form f.LineComment = true
space_form f.BlockComment = true
space_form _ = false

abbrev pub is_space : Part → Bool
is_space p = space_form p.form

-- the bytes from the first piece on that doesn't pass
abbrev pub skip_while : (Part → Bool) → List Part → List ℕ
skip_while test [] = []
skip_while test (p ∷ ps) = if test p then skip_while test ps else bytes_from p

-- the bytes behind white space and comments that end on their line
unfoldable pub skip_blank : List ℕ → List ℕ
skip_blank bytes = skip_while is_blank (parts_of bytes)

-- the bytes behind white space, line feeds and comments
unfoldable pub skip_space : List ℕ → List ℕ
skip_space bytes = skip_while is_space (parts_of bytes)

-- the bytes without the white space at their end
abbrev pub without_end : List ℕ → List ℕ
without_end bytes = reverse (after_run is_white (reverse bytes))

-- the bytes without the white space at both ends
abbrev pub trimmed : List ℕ → List ℕ
trimmed bytes = without_end (after_run is_white bytes)

-- the bytes behind a line feed
abbrev pub after_feed : List ℕ → Option (List ℕ)
after_feed [] = None
after_feed (b ∷ bs) = if b == 10 then Some bs else None

-- the bytes behind the end of a line: a line feed, or a carriage return and a line feed
abbrev pub after_line_end : List ℕ → Option (List ℕ)
after_line_end [] = None
after_line_end (b ∷ bs) = if b == 10 then Some bs else (if b == 13 then after_feed bs else None)

-- the bytes behind a backslash and the end of a line, which join it with the next one (clause 19.3.1)
abbrev pub after_joint : List ℕ → Option (List ℕ)
after_joint [] = None
after_joint (b ∷ bs) = if b == 92 then after_line_end bs else None

-- whether a line end is being joined behind a piece among white space, comments and joints; none, where it is none of these
abbrev pub joins_by : Form → Bool → Part → Option Bool
joins_by f.Blank joins p = Some joins
joins_by f.BlockComment joins p = if has_line_feed p.text then None else Some joins
joins_by f.LineFeed joins p = if joins then Some false else None
joins_by f.Escaped joins p = if is_some (after_joint (bytes_from p)) then Some true else None
joins_by _ joins p = None

-- the same, or the bytes from the piece on
abbrev pub joined : Bool → Part → Turn Bool (List ℕ)
joined joins p = elim (joins_by p.form joins p) [ Some next ↦ Goes next | None ↦ Ends (bytes_from p) ]

-- the bytes behind white space, comments that end on their line, and joints
unfoldable pub skip_joined : List ℕ → List ℕ
skip_joined bytes = over joined (λ joins. []) false (parts_of bytes)
