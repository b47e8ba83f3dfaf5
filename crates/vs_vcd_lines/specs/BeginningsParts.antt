-- The parts of lines that texts begin: nothing that is promised rests on these.
use Rattle.std.specs.Prelude.{◌≡◌, ◌⊎◌, ℕ, true, false, List, [], ◌∷◌, ◌++◌, codes}
use Rattle.std.specs.List.{list_all}
use Rattle.vs_design.specs.declared.design.ScopeKind.{ScopeKind}
use Rattle.vs_design.specs.declared.design.ScopeKind.TheVariants.{Module, Begin}
use Rattle.vs_design.specs.declared.signal.SignalKind.{SignalKind}
use Rattle.vs_vcd_lines.specs.vs_vcd_writing.specs.Codes.{code}
use Rattle.vs_vcd_lines.specs.vs_vcd_writing.specs.Text.{kind_word}
use Rattle.vs_vcd_lines.specs.Names.{is_body, is_further, IsName, IsNumber}
use Rattle.vs_vcd_lines.specs.Parts.{IsSize}
use Rattle.vs_vcd_lines.specs.Beginnings.{Begins}

-- ---- sets of texts

-- a text begins one of a set
pub record BeginsSome (L : List ℕ → Type 0) (text : List ℕ) : Type 0 where
  pub whole : List ℕ
  pub is : L whole
  pub begins : Begins text whole

-- a text is another
abbrev pub IsFixed : List ℕ → List ℕ → Type 0
IsFixed whole text = text ≡ whole

-- a text is of one set or of another
abbrev pub IsEither : (List ℕ → Type 0) → (List ℕ → Type 0) → List ℕ → Type 0
IsEither L M text = L text ⊎ M text

-- a text is a beginning and one of a set
pub record IsPrefixed (beginning : List ℕ) (L : List ℕ → Type 0) (text : List ℕ) : Type 0 where
  pub rest : List ℕ
  pub is : L rest
  pub are : text ≡ beginning ++ rest

-- a text is a word of a set, a byte, and one of another set
pub record IsJoined (byte : ℕ) (W L : List ℕ → Type 0) (text : List ℕ) : Type 0 where
  pub word : List ℕ
  pub rest : List ℕ
  pub is_word : W word
  pub is_rest : L rest
  pub are : text ≡ word ++ byte ∷ rest

-- a text is a name and one of a set
pub record IsNamedThen (L : List ℕ → Type 0) (text : List ℕ) : Type 0 where
  pub name : List ℕ
  pub rest : List ℕ
  pub named : IsName name
  pub is : L rest
  pub are : text ≡ name ++ rest

-- ---- names

-- the body of an escaped identifier
abbrev pub IsBody : List ℕ → Type 0
IsBody text = is_body text ≡ true

-- an escaped identifier after its backslash: its body and one space
abbrev pub IsEscapedRest : List ℕ → Type 0
IsEscapedRest = IsJoined 32 IsBody (IsFixed [])

-- a text begins with a byte that can't go on in a simple identifier
pub record IsTail (text : List ℕ) : Type 0 where
  pub first : ℕ
  pub rest : List ℕ
  pub are : text ≡ first ∷ rest
  pub other : is_further first ≡ false

-- a text goes on as a simple identifier up to a byte that can't, from which on this stands
pub record IsFurtherCut (text rest : List ℕ) : Type 0 where
  pub front : List ℕ
  pub is : text ≡ front ++ rest
  pub further : list_all is_further front ≡ true
  pub tail : IsTail rest

-- a text begins with a name, and whatever name it begins with, this stands after it
pub record IsAfterName (text rest : List ℕ) : Type 0 where
  pub name : List ℕ
  pub named : IsName name
  pub is : text ≡ name ++ rest
  pub once : (n tail more : List ℕ) → IsName n → IsTail tail → text ++ more ≡ n ++ tail → rest ++ more ≡ tail

-- a text ends within each name that it can begin with
abbrev pub IsWithinName : List ℕ → Type 0
IsWithinName text = (n tail more : List ℕ) → IsName n → IsTail tail → text ++ more ≡ n ++ tail → Begins text n

-- ---- ends of declarations

-- the end of a declaration
abbrev pub IsEnd : List ℕ → Type 0
IsEnd = IsFixed (codes " $end")

-- a number, a bracket, and the end
abbrev pub IsLast : List ℕ → Type 0
IsLast = IsJoined 93 IsNumber IsEnd

-- the bounds of a range, a bracket, and the end
abbrev pub AreBoundsEnd : List ℕ → Type 0
AreBoundsEnd = IsJoined 58 IsNumber IsLast

-- the value of a genvar in brackets, and the end
abbrev pub IsTurnEnd : List ℕ → Type 0
IsTurnEnd = IsPrefixed (codes "[") IsLast

-- a range, and the end
abbrev pub IsRangeEnd : List ℕ → Type 0
IsRangeEnd = IsPrefixed (codes " [") AreBoundsEnd

-- ---- scopes

-- what the line of a scope of a kind begins with
abbrev pub scope_beginning : ScopeKind → List ℕ
scope_beginning Module = codes "$scope module "
scope_beginning Begin = codes "$scope begin "

-- what stands in the line of a scope of a kind after a name
abbrev pub IsScopeEnd : ScopeKind → List ℕ → Type 0
IsScopeEnd Module = IsEnd
IsScopeEnd Begin = IsEither IsEnd IsTurnEnd

-- ---- variables

-- a word says what a variable was declared as (clause 18.2.3)
abbrev pub IsKind : List ℕ → Type 0
IsKind word = (kind : SignalKind) × (word ≡ kind_word kind)

-- a word writes some size of 1 to 64 bits
abbrev pub IsSomeSize : List ℕ → Type 0
IsSomeSize word = (width : ℕ) × IsSize word width

-- a word is the code of this number
abbrev pub IsCode : ℕ → List ℕ → Type 0
IsCode number word = word ≡ code number

-- what stands in the line of a variable after its name
abbrev pub IsVariableEnd : List ℕ → Type 0
IsVariableEnd = IsEither IsEnd IsRangeEnd

-- what stands in the line of a variable from its name on
abbrev pub IsNamedRest : List ℕ → Type 0
IsNamedRest = IsNamedThen IsVariableEnd

-- the same from its code on
abbrev pub IsCodedRest : ℕ → List ℕ → Type 0
IsCodedRest number = IsJoined 32 (IsCode number) IsNamedRest

-- the same from its size on
abbrev pub IsSizedRest : ℕ → List ℕ → Type 0
IsSizedRest number = IsJoined 32 IsSomeSize (IsCodedRest number)

-- the same from its kind on
abbrev pub IsKindRest : ℕ → List ℕ → Type 0
IsKindRest number = IsJoined 32 IsKind (IsSizedRest number)
