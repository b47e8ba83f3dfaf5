-- The words of lines.
use Rattle.std.proofs.Common.{◌≡◌, ℕ, ◌+◌, ◌-◌, ◌/◌, ◌%◌, ◌<◌, ◌^◌, true, suc, zero, List, [], ◌∷◌, ◌++◌, decimal, refl, sym, ap, ◌∙◌, arith, inl, inr}
use Rattle.std.proofs.lemmas.Bool.{cases_lt, lt-ltb, le-ltb, cond-true, cond-false}
use Rattle.std.specs.Prelude.{nat_lt}
use Rattle.std.specs.Int.{IsInRange}
use Rattle.std.proofs.lemmas.Fmt.{decimal_injective}
use Rattle.vs_design.specs.declared.signal.SignalKind.{SignalKind}
use Rattle.vs_design.specs.declared.signal.SignalKind.TheVariants.{Wire, Reg, Integer}
use Rattle.vs_design.specs.declared.design.ScopeKind.{ScopeKind}
use Rattle.vs_design.specs.declared.design.ScopeKind.TheVariants.{Module, Begin}
use Rattle.vs_design.specs.declared.timescale.Magnitude.{Magnitude}
use Rattle.vs_design.specs.declared.timescale.Magnitude.TheVariants.{One, Ten, Hundred}
use Rattle.vs_vcd_writing.specs.Codes.{code, code_with_fuel}
use Rattle.vs_vcd_writing.specs.Text.{kind_word, scope_word, magnitude_word}
use Rattle.vs_vcd_lines.specs.Cuts.{lacks, IsCut}
use Rattle.vs_vcd_lines.specs.Parts.{AreThree, IsSize}
use Rattle.vs_vcd_lines.proofs.CutLemmas.{cut_once, lacks_more}

pub kind_lacks : (kind : SignalKind) → lacks 32 (kind_word kind) ≡ true
kind_lacks Wire = refl
kind_lacks Reg = refl
kind_lacks Integer = refl

pub scope_lacks : (kind : ScopeKind) → lacks 32 (scope_word kind) ≡ true
scope_lacks Module = refl
scope_lacks Begin = refl

pub magnitude_lacks : (m : Magnitude) → lacks 32 (magnitude_word m) ≡ true
magnitude_lacks One = refl
magnitude_lacks Ten = refl
magnitude_lacks Hundred = refl

pub no_space : IsInRange 48 57 32 → ⊥
no_space h = omega (arith, h)

-- no code holds a space
lacks-code_with_fuel : (f n : ℕ) → lacks 32 (code_with_fuel f n) ≡ true
lacks-code_with_fuel zero n = lacks_more 32 (33 + n % 94) [] (λ e. absurd (omega (arith, e))) refl
lacks-code_with_fuel (suc f) n =
    elim (cases_lt n 94) [
      | inl below ↦
          ap (lacks 32) (cond-true (nat_lt n 94) ((33 + n) ∷ []) ((33 + n % 94) ∷ code_with_fuel f (n / 94 - 1)) (lt-ltb n 94 below))
          ∙ lacks_more 32 (33 + n) [] (λ e. absurd (omega (arith, e))) refl
      | inr least ↦
          ap (lacks 32) (cond-false (nat_lt n 94) ((33 + n) ∷ []) ((33 + n % 94) ∷ code_with_fuel f (n / 94 - 1)) (le-ltb n 94 least))
          ∙ lacks_more 32 (33 + n % 94) (code_with_fuel f (n / 94 - 1)) (λ e. absurd (omega (arith, e))) (lacks-code_with_fuel f (n / 94 - 1))
    ]

pub lacks-code : (n : ℕ) → lacks 32 (code n) ≡ true
lacks-code n = lacks-code_with_fuel n n

-- a word writes one number
pub size_once : (word : List ℕ) (m w : ℕ) → m < 2 ^ 64 → word ≡ decimal m → IsSize word w → m ≡ w
size_once word m w small e s = let most = s.most in decimal_injective m w small (omega (arith, most)) (sym e ∙ s.is)

pub three_rest : (text f r a b c rest : List ℕ) → IsCut 32 text f r → AreThree text a b c rest → (f ≡ a) × (r ≡ b ++ (32 ∷ (c ++ (32 ∷ rest))))
three_rest text f r a b c rest cut t = cut_once 32 f a r (b ++ (32 ∷ (c ++ (32 ∷ rest)))) cut.first t.first (sym cut.is ∙ t.is)

pub three_last : (text f r g s a b c rest : List ℕ) → IsCut 32 text f r → IsCut 32 r g s → AreThree text a b c rest → (g ≡ b) × (s ≡ c ++ (32 ∷ rest))
three_last text f r g s a b c rest cut more t =
    cut_once 32 g b s (c ++ (32 ∷ rest)) more.first t.second (sym more.is ∙ (three_rest text f r a b c rest cut t).1)

pub three_made : (text f r g s h rest : List ℕ) → IsCut 32 text f r → IsCut 32 r g s → IsCut 32 s h rest → AreThree text f g h rest
three_made text f r g s h rest cut more last = record {
  is = cut.is ∙ ap (λ l. f ++ (32 ∷ l)) (more.is ∙ ap (λ l. g ++ (32 ∷ l)) last.is);
  first = cut.first;
  second = more.first;
  third = last.first;
}

-- three words in one way
pub three_once : (text a b c rest d e f left : List ℕ) → AreThree text a b c rest → AreThree text d e f left → (a ≡ d) × (b ≡ e) × (c ≡ f) × (rest ≡ left)
three_once text a b c rest d e f left s t =
    let one = cut_once 32 a d (b ++ (32 ∷ (c ++ (32 ∷ rest)))) (e ++ (32 ∷ (f ++ (32 ∷ left)))) s.first t.first (sym s.is ∙ t.is) in
    let two = cut_once 32 b e (c ++ (32 ∷ rest)) (f ++ (32 ∷ left)) s.second t.second one.1 in
    let three = cut_once 32 c f rest left s.third t.third two.1 in
    (one.0, two.0, three.0, three.1)
