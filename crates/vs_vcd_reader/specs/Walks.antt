-- Declarations, gone through one by one: nothing that is promised rests on these.
use Rattle.std.specs.Prelude.{ℕ, zero, suc, Bool, true, false, ◌&&◌, List, [], ◌∷◌}
use Rattle.vs_vcd_lines.specs.Names.{IsScopeName}
use Rattle.vs_vcd_reader.specs.Plain.{PlainDeclaration}
use Rattle.vs_vcd_reader.specs.Plain.{PlainDeclaration as d}
use Rattle.vs_vcd_reader.specs.Layout.{IsPlainVariable}

-- whether declarations close so many open scopes and end there, where variables may or may not stand first
abbrev pub closes : ℕ → Bool → List PlainDeclaration → Bool
closes zero own [] = true
closes zero own (x ∷ ds) = false
closes (suc depth) own [] = false
closes (suc depth) own (d.Scope kind name ∷ ds) = closes (suc (suc depth)) true ds
closes (suc depth) own (d.Variable v ∷ ds) = own && closes (suc depth) true ds
closes (suc depth) own (d.Upscope ∷ ds) = closes depth false ds

-- a declaration has names as they are printed, and a size of 1 to 64 bits
abbrev pub IsGood : PlainDeclaration → Type 0
IsGood (d.Scope kind name) = IsScopeName kind name
IsGood (d.Variable v) = IsPlainVariable v
IsGood d.Upscope = Unit {0}

abbrev pub AreGood : List PlainDeclaration → Type 0
AreGood [] = Unit {0}
AreGood (x ∷ ds) = IsGood x × AreGood ds
