-- Texts cut at a byte.
use Rattle.std.specs.Prelude.{◌≡◌, ℕ, ◌==◌, Bool, true, false, if◌then◌else◌, List, [], ◌∷◌, ◌++◌}

-- whether a byte stands nowhere in a text
abbrev pub lacks : ℕ → List ℕ → Bool
lacks byte [] = true
lacks byte (b ∷ bs) = if b == byte then false else lacks byte bs

-- a text is cut at the first of a byte
pub record IsCut (byte : ℕ) (text before after : List ℕ) : Type 0 where
  pub is : text ≡ before ++ byte ∷ after
  pub first : lacks byte before ≡ true

-- a text is cut at the last of a byte
pub record IsCutLast (byte : ℕ) (text before after : List ℕ) : Type 0 where
  pub is : text ≡ before ++ byte ∷ after
  pub last : lacks byte after ≡ true
