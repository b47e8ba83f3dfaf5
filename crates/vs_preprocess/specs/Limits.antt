-- The limits of the preprocessor (profile).
use Rattle.std.specs.Prelude.{ℕ}

-- the most bytes of a text: 4 MiB
abbrev pub text_limit : ℕ
text_limit = 4194304

-- the most bytes of all files that are opened, with those that expansions handle
abbrev pub work_limit : ℕ
work_limit = 67108864
