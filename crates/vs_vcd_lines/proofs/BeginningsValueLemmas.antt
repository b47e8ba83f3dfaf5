-- Values as lines have them.
use Rattle.std.proofs.Common.{◌≡◌, ℕ, true, List, [], ◌∷◌, length, map, reverse, refl, sym, ap, ◌∙◌}
use Rattle.std.proofs.lemmas.List.{length-reverse, reverse-reverse}
use Rattle.vs_design.specs.vs_logic4.specs.declared.digit.Digit.{Digit}
use Rattle.vs_design.specs.vs_logic4.specs.declared.digit.Digit.TheVariants.{Zero, One, X, Z}
use Rattle.vs_vcd_lines.specs.vs_vcd_writing.specs.Shown.{extended}
use Rattle.vs_vcd_lines.specs.vs_vcd_writing.specs.Values.{digit_character, shortened}
use Rattle.vs_vcd_lines.specs.vs_vcd_writing.proofs.ExtendLemmas.{extended-shortened}
use Rattle.vs_vcd_lines.specs.Cuts.{lacks}

pub character_lacks : (d : Digit) (bs : List ℕ) → lacks 32 bs ≡ true → lacks 32 (digit_character d ∷ bs) ≡ true
character_lacks Zero bs h = h
character_lacks One bs h = h
character_lacks X bs h = h
character_lacks Z bs h = h

pub characters_lack : (ds : List Digit) → lacks 32 (map digit_character ds) ≡ true
characters_lack [] = refl
characters_lack (d ∷ ds) = character_lacks d (map digit_character ds) (characters_lack ds)

-- values of one size are written in one way
pub values_once : (v w : List Digit) → shortened (reverse v) ≡ shortened (reverse w) → length v ≡ length w → v ≡ w
values_once v w short size =
    let turned : reverse v ≡ reverse w =
    sym (extended-shortened (length (reverse v)) (reverse v) refl)
    ∙ ap (extended (length (reverse v))) short
    ∙ extended-shortened (length (reverse v)) (reverse w) (length-reverse v ∙ size ∙ sym (length-reverse w)) in
    sym (reverse-reverse v) ∙ ap reverse turned ∙ reverse-reverse w
