-- The formals of macros (IEEE 1364-2005, clause 19.3.1).
use Rattle.std.specs.Prelude.{ℕ, ◌≡◌, ◌==◌, ◌+◌, List, [], ◌∷◌, ◌++◌, Bool, true, false, Option, None, Some, Result, Ok, Err, is_some, length, option_map, if◌then◌else◌}
use Rattle.std.specs.Borrow.{Bor}
use Rattle.std.specs.Cmp.Lexicographic.{slice_cmp}
use Rattle.std.specs.Map.{lookup}
use Rattle.std.specs.Ordering.{is_eq, nat_cmp}
use Rattle.std.specs.Str.{bytes_eq}
use Rattle.vs_prep_macros.specs.declared.fault.Fault.TheVariants as d
use Rattle.vs_prep_macros.specs.declared.fault.Halt.{Halt}
use Rattle.vs_prep_macros.specs.declared.fault.Halt.TheVariants as h
use Rattle.vs_prep_macros.specs.Answers.{Stops}
use Rattle.vs_prep_macros.specs.Folds.{Turn, Goes, Ends, Through}
use Rattle.vs_prep_macros.specs.Names.{name_at}
use Rattle.vs_prep_macros.specs.Spaces.{skip_joined}

-- the number of a name among names, from 0
abbrev pub number_of : List (List ℕ) → List ℕ → Option ℕ
number_of [] name = None
number_of (n ∷ ns) name = if bytes_eq name n then Some 0 else option_map (λ i. i + 1) (number_of ns name)

-- the entries of a map have just these names, each with its number
pub record Numbers {K : Type 0} (entries : List (K × ℕ)) (items : K → List ℕ) (names : List (List ℕ)) : Type 0 where
  pub at : (name : List ℕ) → lookup (λ k. is_eq (slice_cmp nat_cmp name (items k))) entries ≡ number_of names name
  pub count : length entries ≡ length names

-- the formals, and the bytes behind the parenthesis that closes them
abbrev pub FoundFormals : Type 0
FoundFormals = Result (List (List ℕ) × List ℕ) Halt

-- what stands behind a formal: a comma, or the parenthesis that closes them (`=`: a default)
abbrev pub marked : List (List ℕ) → List ℕ → Turn (List (List ℕ) × List ℕ) FoundFormals
marked names [] = Ends (Err (h.Here d.Formals))
marked names (b ∷ bs) =
    if b == 44 then Goes (names, bs)
    else (if b == 41 then Ends (Ok (names, bs))
    else (if b == 61 then Ends (Err (h.Here d.FormalDefault))
    else Ends (Err (h.Here d.Formals))))

-- a formal that stands at these bytes: none has two numbers
abbrev pub formal_at : List (List ℕ) → List ℕ → Option (List ℕ × List ℕ) → Turn (List (List ℕ) × List ℕ) FoundFormals
formal_at names at None = Ends (Err (h.Here d.Formals))
formal_at names at (Some x) =
    if is_some (number_of names x.0) then Ends (Err (h.At d.SameFormals (length at)))
    else marked (names ++ x.0 ∷ []) (skip_joined x.1)

-- the next formal, behind white space, comments and joined line ends
unfoldable pub next_formal : List (List ℕ) → List ℕ → Turn (List (List ℕ) × List ℕ) FoundFormals
next_formal names bytes = formal_at names (skip_joined bytes) (name_at (skip_joined bytes))

abbrev pub ReadsFormal : List (List ℕ) → List ℕ → Turn (List (List ℕ) × List ℕ) FoundFormals → Type 0
ReadsFormal names bytes turn = next_formal names bytes ≡ turn

-- the formals behind the parenthesis that opens them, with the bytes behind the one that closes them, or the first fault
abbrev pub AreFormals : List ℕ → FoundFormals → Type 0
AreFormals inside found = Through ReadsFormal [] inside found

-- what is answered behind a formal, with the bytes behind its mark: whether another one follows
abbrev pub MarkSo : Turn (List (List ℕ) × List ℕ) FoundFormals → List (List ℕ) → Bool → List ℕ → Type 0
MarkSo turn names true rest = turn ≡ Goes (names, rest)
MarkSo turn names false rest = turn ≡ Ends (Ok (names, rest))

abbrev pub Marks : Turn (List (List ℕ) × List ℕ) FoundFormals → List (List ℕ) → Result (Bool × Bor (List ℕ)) Halt → Type 0
Marks turn names (Ok x) = MarkSo turn names x.0 x.1.now
Marks turn names (Err e) = Stops (λ r. turn ≡ Ends r) e

-- what is answered where a formal is read behind others, by which the map has these entries
abbrev pub Reads : {K : Type 0} → List (K × ℕ) → (K → List ℕ) → Turn (List (List ℕ) × List ℕ) FoundFormals → Result (Bool × Bor (List ℕ)) Halt → Type 0
Reads entries items turn (Ok x) = (names : List (List ℕ)) × Numbers entries items names × MarkSo turn names x.0 x.1.now
Reads entries items turn (Err e) = Stops (λ r. turn ≡ Ends r) e
