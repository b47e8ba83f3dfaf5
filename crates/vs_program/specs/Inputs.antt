-- What the program reads of its input.
use Rattle.std.specs.Borrow.{Bor}
use Rattle.vs_program_words.specs.declared.words.Subcommand.{Subcommand}
use Rattle.vs_program_words.specs.declared.words.Subcommand.TheVariants.{Check, RunCertified}
use Rattle.std.specs.Prelude.{ℕ, ◌≡◌, ◌==◌, ◌||◌, Bool, false, Option, Some, None, List, [], ◌∷◌, take, if◌then◌else◌}

-- the bytes that are kept of an input: where its bytes are known, the first 8,388,609 of them (profile)
abbrev pub IsKept : Option (List ℕ) → List ℕ → Type 0
IsKept None kept = Unit {0}
IsKept (Some bytes) kept = kept ≡ take 8388609 bytes

-- the first line: the bytes before the first line feed, all of them where there is none
abbrev pub first_line : List ℕ → List ℕ
first_line [] = []
first_line (x ∷ xs) = if x == 10 then [] else x ∷ first_line xs

-- what follows the first line: the bytes after the first line feed, none where there is none
abbrev pub after_line : List ℕ → List ℕ
after_line [] = []
after_line (x ∷ xs) = if x == 10 then xs else after_line xs

-- whether there is a line feed
abbrev pub has_line_feed : List ℕ → Bool
has_line_feed [] = false
has_line_feed (x ∷ xs) = x == 10 || has_line_feed xs

-- the bytes that are kept of an input that begins with a certificate: where its bytes are known, the first 16,777,217 of its first line, and the
-- first 8,388,609 of what follows it (profile)
abbrev pub AreKept : Option (List ℕ) → List ℕ → List ℕ → Type 0
AreKept None certificate source = Unit {0}
AreKept (Some bytes) certificate source = (certificate ≡ take 16777217 (first_line bytes)) × (source ≡ take 8388609 (after_line bytes))

-- the bytes that are kept of the front of an input, where its bytes are known
abbrev pub IsFront : ℕ → Option (List ℕ) → List ℕ → Type 0
IsFront most None bytes = Unit {0}
IsFront most (Some all) bytes = bytes ≡ take most all

-- the bytes of a certificate that a subcommand which takes one keeps of an input that is nothing else: the first 16,777,217 (profile); nothing is
-- said of one that is in a file
abbrev pub IsCertificateFor : Subcommand → Option (Bor (List ℕ)) → Option (List ℕ) → List ℕ → Type 0
IsCertificateFor (RunCertified q) None input certificate = IsFront 16777217 input certificate
IsCertificateFor (Check top rules) None input certificate = IsFront 16777217 input certificate
IsCertificateFor call file input certificate = Unit {0}

-- the bytes of a call whose source is the text of files: that text, and the certificate that is kept of the input
abbrev pub AreOfFiles : Subcommand → Option (Bor (List ℕ)) → Option (List ℕ) → List ℕ → List ℕ → List ℕ → Type 0
AreOfFiles call file input text certificate bytes = (bytes ≡ text) × IsCertificateFor call file input certificate
