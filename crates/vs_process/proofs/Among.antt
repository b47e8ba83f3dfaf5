-- Ranges that are among those of a list.
use Rattle.std.proofs.Common.{◌≡◌, Bool, false, List, ◌++◌, sym, ◌∙◌, subst, inl, inr}
use Rattle.std.specs.List.{Contains, list_any}
use Rattle.std.proofs.lemmas.Bool.{cases_Bool, false≢true}
use Rattle.std.proofs.lemmas.List.Elements.{Contains-append_left, Contains-append_right, Contains-append_cases}
use Rattle.std.proofs.lemmas.List.Folds.{Any-from_list_any, list_any-from_Any}
use Rattle.vs_design.specs.declared.range.BitRange.{BitRange}

abbrev pub Among : List BitRange → List BitRange → Type 0
Among some all = (r : BitRange) → Contains some r → Contains all r

pub left_of : (xs ys : List BitRange) → Among xs (xs ++ ys)
left_of xs ys r h = Contains-append_left xs ys r h

pub right_of : (xs ys : List BitRange) → Among ys (xs ++ ys)
right_of xs ys r h = Contains-append_right xs ys r h

pub both_among : (xs ys all : List BitRange) → Among xs all → Among ys all → Among (xs ++ ys) all
both_among xs ys all hx hy r h =
    elim (Contains-append_cases xs ys r h) [
      | inl x ↦ hx r x
      | inr y ↦ hy r y
    ]

pub same_among : (xs ys all : List BitRange) → xs ≡ ys → Among ys all → Among xs all
same_among xs ys all e h r c = h r (subst (λ l. Contains l r) e c)

-- a test that no range of a list passes, none of those among them passes
pub none_among : (p : BitRange → Bool) (some all : List BitRange) → Among some all → list_any p all ≡ false → list_any p some ≡ false
none_among p some all among h =
    elim (cases_Bool (list_any p some)) [
      | inl hit ↦
          let one = Any-from_list_any p some hit in
          let there = among one.1 (one.0, one.2, one.3) in
          absurd (false≢true (sym h ∙ list_any-from_Any p all (there.0, one.1, there.1, there.2, one.4)))
      | inr miss ↦ miss
    ]
