-- Single tokens as symbols.
use Rattle.std.specs.Prelude.{◌≡◌, ℕ, Bool, true, false, not, ◌&&◌, ◌∷◌, if◌then◌else◌, List, [], refl}
use Rattle.std.proofs.Common.{sym, ◌∙◌, ap}
use Rattle.std.specs.Str.{bytes_eq}
use Rattle.std.proofs.lemmas.Bool.{not-true as not_true}
use Rattle.vs_syntax.specs.vs_lexer.specs.declared.token.Kind.{Kind}
use Rattle.vs_syntax.specs.vs_lexer.specs.declared.token.Kind.TheVariants as k
use Rattle.vs_syntax.specs.vs_lexer.specs.declared.token.Literal.{Literal}
use Rattle.vs_syntax.specs.vs_lexer.specs.declared.token.Mark.{Mark}
use Rattle.vs_syntax.specs.vs_lexer.specs.declared.token.Token.{Token}
use Rattle.vs_syntax.specs.vs_lexer.specs.declared.token.Word.{Word}
use Rattle.vs_syntax.specs.vs_lexer.specs.Tokens.{name_of}
use Rattle.vs_syntax.specs.Symbols.{Symbol, a_name, a_number, Class, the_mark, the_word, any_name, any_number, any_other, class_of, system_names, symbol_named, system_symbol, symbol_of, same_class}
use Rattle.vs_syntax.specs.Grammar.{token, name, number}
use Rattle.vs_syntax.specs.Tables.{goes}
use Rattle.vs_syntax.specs.Derivation.{leaf}
use Rattle.vs_syntax.specs.Reading.{Gets}
use Rattle.vs_syntax.proofs.Gets.{gets_token}
use Rattle.vs_syntax.specs.vs_logic4.proofs.Basics.{and_left, and_right}
use Rattle.vs_parse_expressions.specs.Answers.{seen}

-- the first token's symbol is the first of the symbols
pub seen_is : (ts : List Token) (t : Token) (rest : List Token) (s : Symbol) → ts ≡ t ∷ rest → symbol_of t.kind t.bytes.now ≡ s → seen ts ≡ s ∷ seen rest
seen_is ts t rest s e f = ap seen e ∙ ap (λ u. u ∷ seen rest) f

-- of a kind that is known
pub seen_kind : (ts : List Token) (t : Token) (rest : List Token) (kind : Kind) → ts ≡ t ∷ rest → t.kind ≡ kind → seen ts ≡ symbol_of kind t.bytes.now ∷ seen rest
seen_kind ts t rest kind e f = seen_is ts t rest (symbol_of kind t.bytes.now) e (ap (λ u. symbol_of u t.bytes.now) f)

-- a token that was read
pub read_token : (c : Class) (depth : ℕ) (ts : List Symbol) (s : Symbol) (rest : List Symbol) → ts ≡ s ∷ rest → class_of s ≡ c → Gets (token c) depth ts (leaf s) rest
read_token c depth ts s rest e f = rw e (gets_token f)

-- a name that was read
pub read_name : (depth : ℕ) (ts : List Token) (t : Token) (rest : List Token) (bytes : List ℕ) → ts ≡ t ∷ rest → t.kind ≡ k.Name → bytes ≡ name_of t.bytes.now → Gets name depth (seen ts) (leaf (a_name bytes)) (seen rest)
read_name depth ts t rest bytes e f g = read_token any_name depth (seen ts) (a_name bytes) (seen rest) (seen_kind ts t rest k.Name e f ∙ ap (λ u. a_name u ∷ seen rest) (sym g)) refl

-- a number that was read
pub read_number : (depth : ℕ) (ts : List Token) (t : Token) (rest : List Token) (l : Literal) → ts ≡ t ∷ rest → t.kind ≡ k.Number l → Gets number depth (seen ts) (leaf (a_number l)) (seen rest)
read_number depth ts t rest l e f = read_token any_number depth (seen ts) (a_number l) (seen rest) (seen_kind ts t rest (k.Number l) e f) refl

-- whether the class is none of a system name of these, and not that of other tokens
abbrev pub is_apart : Class → List (List ℕ × Symbol) → Bool
is_apart c [] = not (same_class any_other c)
is_apart c (x ∷ xs) = not (same_class (class_of x.1) c) && is_apart c xs

named_apart : (c : Class) (xs : List (List ℕ × Symbol)) (bytes : List ℕ) → is_apart c xs ≡ true → same_class (class_of (symbol_named xs bytes)) c ≡ false
named_apart c [] bytes h = not_true (same_class any_other c) h
named_apart c (x ∷ xs) bytes h =
    elim (bytes_eq x.0 bytes) as (λ b. same_class (class_of (if b then x.1 else symbol_named xs bytes)) c ≡ false) [
      | true ↦ not_true (same_class (class_of x.1) c) (and_left (not (same_class (class_of x.1) c)) (is_apart c xs) h)
      | false ↦ named_apart c xs bytes (and_right (not (same_class (class_of x.1) c)) (is_apart c xs) h)
    ]

-- a system name is no name, no number and no mark
pub system_class : (c : Class) (bytes : List ℕ) → is_apart c system_names ≡ true → same_class (class_of (system_symbol bytes)) c ≡ false
system_class c bytes h = named_apart c system_names bytes h

-- no name and no number
pub no_name : (kind : Kind) (bytes : List ℕ) → (kind ≡ k.Name → ⊥) → same_class (class_of (symbol_of kind bytes)) any_name ≡ false
no_name k.Name bytes f = absurd (f refl)
no_name k.System bytes f = system_class any_name bytes refl
no_name _ bytes f = refl

pub no_number : (kind : Kind) (bytes : List ℕ) → ((l : Literal) → kind ≡ k.Number l → ⊥) → same_class (class_of (symbol_of kind bytes)) any_number ≡ false
no_number (k.Number l) bytes f = absurd (f l refl)
no_number k.System bytes f = system_class any_number bytes refl
no_number _ bytes f = refl

-- no mark
pub no_mark : (kind : Kind) (bytes : List ℕ) (x : Mark) → ((y : Mark) → kind ≡ k.Mark y → ⊥) → same_class (class_of (symbol_of kind bytes)) (the_mark x) ≡ false
no_mark (k.Mark y) bytes x f = absurd (f y refl)
no_mark k.System bytes x f = system_class (the_mark x) bytes refl
no_mark _ bytes x f = refl

-- no reserved word
pub no_word : (kind : Kind) (bytes : List ℕ) (x : Word) → ((y : Word) → kind ≡ k.Word y → ⊥) → same_class (class_of (symbol_of kind bytes)) (the_word x) ≡ false
no_word (k.Word y) bytes x f = absurd (f y refl)
no_word k.System bytes x f = system_class (the_word x) bytes refl
no_word _ bytes x f = refl

-- no token
pub none_at : (ts : List Token) (g : _) (b : Bool) → ts ≡ [] → goes g [] ≡ b → goes g (seen ts) ≡ b
none_at ts g b e h = ap (λ u. goes g (seen u)) e ∙ h

-- a next token that isn't of the class
pub other_at : (c : Class) (ts : List Token) (t : Token) (rest : List Token) → ts ≡ t ∷ rest → same_class (class_of (symbol_of t.kind t.bytes.now)) c ≡ false → goes (token c) (seen ts) ≡ false
other_at c ts t rest e h = ap (λ u. goes (token c) (seen u)) e ∙ rw h refl
