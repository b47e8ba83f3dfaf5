-- Directives (IEEE 1364-2005, clause 19).
use Rattle.std.specs.Prelude.{ℕ, ◌==◌, Bool, List, [], ◌∷◌, Option, None, Some, if◌then◌else◌, codes, nat_lt}
use Rattle.vs_lexer.specs.declared.token.Directive.{Directive}
use Rattle.vs_lexer.specs.declared.token.Directive.TheVariants as d
use Rattle.vs_lexer.specs.declared.token.ImplicitNet.TheVariants as i
use Rattle.vs_lexer.specs.declared.token.TextMagnitude.{TextMagnitude}
use Rattle.vs_lexer.specs.declared.token.TextMagnitude.TheVariants as m
use Rattle.vs_lexer.specs.declared.token.Time.{Time}
use Rattle.vs_lexer.specs.declared.token.TextUnit.{TextUnit}
use Rattle.vs_lexer.specs.declared.token.TextUnit.TheVariants as t
use Rattle.vs_lexer.specs.Bytes.{is_white, begins, after_run}
use Rattle.vs_lexer.specs.Times.{exponent}

-- what the bytes begin with, and the bytes behind it; or they don't begin so
abbrev pub Reader : Type 0 → Type 0
Reader A = List ℕ → Option (A × List ℕ)

-- nothing more
abbrev pub done : {A : Type 0} → A → Reader A
done x bytes = Some (x, bytes)

abbrev pub nowhere : {A : Type 0} → Reader A
nowhere bytes = None

-- a reader where there are bytes for it
abbrev pub with_rest : {A : Type 0} → Option (List ℕ) → Reader A → Option (A × List ℕ)
with_rest None next = None
with_rest (Some rest) next = next rest

-- the bytes behind a text
unfoldable pub after_prefix : List ℕ → List ℕ → Option (List ℕ)
after_prefix [] bytes = Some bytes
after_prefix (c ∷ cs) [] = None
after_prefix (c ∷ cs) (b ∷ bs) = if b == c then after_prefix cs bs else None

-- a text, and then more
abbrev pub text : {A : Type 0} → List ℕ → Reader A → Reader A
text cs next bytes = with_rest (after_prefix cs bytes) next

-- the bytes behind white space, if there is any
unfoldable pub skip_white : List ℕ → List ℕ
skip_white bytes = after_run is_white bytes

-- white space, if there is any, and then more
abbrev pub white : {A : Type 0} → Reader A → Reader A
white next bytes = next (skip_white bytes)

-- the next byte is this one
unfoldable pub next_is : ℕ → List ℕ → Bool
next_is c bytes = begins (λ b. b == c) bytes

-- the next byte is white space
unfoldable pub next_is_white : List ℕ → Bool
next_is_white bytes = begins is_white bytes

-- the one or the other, by the next byte
abbrev pub by_next : {A : Type 0} → (List ℕ → Bool) → Reader A → Reader A → Reader A
by_next test one other bytes = if test bytes then one bytes else other bytes

-- white space, and then more
abbrev pub some_white : {A : Type 0} → Reader A → Reader A
some_white next = by_next next_is_white (white next) nowhere

-- a part and then what follows from it
abbrev pub follow : {A B : Type 0} → Option (A × List ℕ) → (A → Reader B) → Option (B × List ℕ)
follow None next = None
follow (Some x) next = next x.0 x.1

infixl 10 ◌then◌
abbrev pub ◌then◌ : {A B : Type 0} → Reader A → (A → Reader B) → Reader B
◌then◌ part next bytes = follow (part bytes) next

-- the number of a time: 1, 10 or 100 (clause 19.8)
unfoldable pub number_at : Reader TextMagnitude
number_at =
    text (codes "1") (by_next (next_is 48) (text (codes "0") (by_next (next_is 48) (text (codes "0") (done m.Hundred)) (done m.Ten))) (done m.One))

-- the unit of a time (clause 19.8)
unfoldable pub unit_at : Reader TextUnit
unit_at =
    by_next (next_is 115) (text (codes "s") (done t.Seconds))
    (by_next (next_is 109) (text (codes "ms") (done t.Milliseconds))
    (by_next (next_is 117) (text (codes "us") (done t.Microseconds))
    (by_next (next_is 110) (text (codes "ns") (done t.Nanoseconds))
    (by_next (next_is 112) (text (codes "ps") (done t.Picoseconds))
    (text (codes "fs") (done t.Femtoseconds))))))

-- a number and a unit
unfoldable pub time_at : Reader Time
time_at = number_at then λ number. white unit_at then λ unit. done (record { number = number; unit = unit })

-- a unit and a precision that is not coarser (clause 19.8)
abbrev pub timescale_of : Time → Time → Reader Directive
timescale_of unit precision bytes = if nat_lt (exponent unit) (exponent precision) then None else Some (d.Timescale unit precision, bytes)

-- `timescale, behind the backquote (clause 19.8)
unfoldable pub timescale_at : Reader Directive
timescale_at =
    text (codes "timescale") (some_white (time_at then λ unit. white (text (codes "/") (white (time_at then λ precision. timescale_of unit precision)))))

-- `default_nettype with wire or none, behind the backquote (clause 19.2; other nets: profile)
unfoldable pub nettype_at : Reader Directive
nettype_at =
    text (codes "default_nettype") (some_white
    (by_next (next_is 119) (text (codes "wire") (done (d.DefaultNettype i.Wire))) (text (codes "none") (done (d.DefaultNettype i.Forbidden)))))

-- a directive behind its backquote
unfoldable pub directive_at : Reader Directive
directive_at = by_next (next_is 116) timescale_at nettype_at
