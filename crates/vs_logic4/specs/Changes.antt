-- Which words of two equally long lists differ.
use Rattle.std.specs.Prelude.{ℕ, ◌==◌, if◌then◌else◌}

-- 1 where two words differ, else 0 (profile)
abbrev pub change : ℕ → ℕ → ℕ
change old new = if old == new then 0 else 1
