-- Names as a value change dump has them.
use Rattle.std.specs.Prelude.{◌≡◌, ◌⊎◌, ℕ, ◌==◌, ◌&&◌, ◌||◌, ◌<◌, ◌^◌, nat_le, Bool, true, false, List, [], ◌∷◌, ◌++◌, codes, ℤ}
use Rattle.std.specs.List.{list_all}
use Rattle.std.specs.Fmt.{signed_decimal}
use Rattle.vs_design.specs.declared.design.ScopeKind.{ScopeKind}
use Rattle.vs_design.specs.declared.design.ScopeKind.TheVariants.{Module, Begin}

-- whether a byte is between two others
abbrev pub is_between : ℕ → ℕ → ℕ → Bool
is_between first last b = nat_le first b && nat_le b last

-- whether a byte can begin a simple identifier: a letter or `_` (clause 3.7)
abbrev pub is_first : ℕ → Bool
is_first b = is_between 65 90 b || is_between 97 122 b || b == 95

-- whether it can go on in one: a letter, a digit, `_` or `$` (clause 3.7)
abbrev pub is_further : ℕ → Bool
is_further b = is_first b || is_between 48 57 b || b == 36

-- whether it can stand in an escaped identifier: printable, and no white space (clause 3.7.1)
abbrev pub is_printable : ℕ → Bool
is_printable b = is_between 33 126 b

-- a simple identifier
abbrev pub is_simple : List ℕ → Bool
is_simple [] = false
is_simple (b ∷ bs) = is_first b && list_all is_further bs

-- the body of an escaped identifier (clause 3.7.1)
abbrev pub is_body : List ℕ → Bool
is_body [] = false
is_body (b ∷ bs) = list_all is_printable (b ∷ bs)

-- an escaped identifier with its backslash and one space after it
pub record IsEscaped (text : List ℕ) : Type 0 where
  pub body : List ℕ
  pub printable : is_body body ≡ true
  pub is : text ≡ codes "\\" ++ body ++ codes " "

-- a name as it is printed: a simple identifier, or an escaped one with its backslash and one space after it (profile)
abbrev pub IsName : List ℕ → Type 0
IsName text = (is_simple text ≡ true) ⊎ IsEscaped text

-- a number from -2^63 to 2^63 - 1
pub data IsShort : ℤ → Type 0 where
  short : (low : ℕ) → low < 2 ^ 63 → IsShort (ℤ.pos low)
  negative : (below : ℕ) → below < 2 ^ 63 → IsShort (ℤ.negsuc below)

-- a text writes a number from -2^63 to 2^63 - 1
pub record IsNumber (text : List ℕ) : Type 0 where
  pub value : ℤ
  pub short : IsShort value
  pub is : text ≡ signed_decimal value

-- the name of the scope of a turn of a generate loop: a name, and the value of its genvar in brackets after it (profile)
pub record IsTurn (text : List ℕ) : Type 0 where
  pub name : List ℕ
  pub value : ℤ
  pub named : IsName name
  pub short : IsShort value
  pub is : text ≡ name ++ codes "[" ++ signed_decimal value ++ codes "]"

-- the name of a scope: a name, and of a generate block the name of a turn too (profile)
abbrev pub IsScopeName : ScopeKind → List ℕ → Type 0
IsScopeName Module text = IsName text
IsScopeName Begin text = IsName text ⊎ IsTurn text
