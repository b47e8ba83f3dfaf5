-- Names of unnamed blocks, one after another.
use Rattle.std.proofs.Common.{◌≡◌, ℕ, zero, suc, ◌+◌, ◌-◌, ◌<◌, ◌≤◌, nat_lt, cond, Bool, true, false, List, Option, Some, None, is_some, length, refl, ap, sym, ◌∙◌, arith}
use Rattle.std.specs.List.{list_any}
use Rattle.std.specs.Str.{bytes_eq}
use Rattle.std.proofs.lemmas.Bool.Decides.{nat_tests}
use Rattle.vs_widths.specs.Names.{meaning_of}
use Rattle.vs_scopes.specs.Generate.{numbered_name, free_name}
use Rattle.vs_elab_constants.specs.generate_passes.Numbering.{AreNames}
use Rattle.vs_design.specs.vs_logic4.proofs.Basics.{none_left, one_less}

is_over : (n : ℕ) → 1024 < n → nat_lt 1024 n ≡ true
is_over n h = grind (arith, nat_tests)

is_within : (n : ℕ) → n ≤ 1024 → nat_lt 1024 n ≡ false
is_within n h = grind (arith, nat_tests)

over_step : (over taken : Bool) (a b : Option (List ℕ)) → over ≡ true → cond over None (cond taken a b) ≡ None
over_step over taken a b h = rw h refl

taken_step : (over taken : Bool) (a b : Option (List ℕ)) → over ≡ false → taken ≡ true → cond over None (cond taken a b) ≡ a
taken_step over taken a b h t = rw (h, t) refl

free_step : (over taken : Bool) (a b : Option (List ℕ)) → over ≡ false → taken ≡ false → cond over None (cond taken a b) ≡ b
free_step over taken a b h t = rw (h, t) refl

free_long : (n z k : ℕ) (ns : List (List ℕ)) → 1024 < length (numbered_name z k) → free_name (suc n) ns z k ≡ None
unfolding free_name
free_long n z k ns h =
    over_step (nat_lt 1024 (length (numbered_name z k))) (list_any (bytes_eq (numbered_name z k)) ns) (free_name n ns (suc z) k) (Some (numbered_name z k)) (is_over (length (numbered_name z k)) h)

free_taken : (n z k : ℕ) (ns : List (List ℕ)) → length (numbered_name z k) ≤ 1024 → list_any (bytes_eq (numbered_name z k)) ns ≡ true → free_name (suc n) ns z k ≡ free_name n ns (suc z) k
unfolding free_name
free_taken n z k ns h t =
    taken_step (nat_lt 1024 (length (numbered_name z k))) (list_any (bytes_eq (numbered_name z k)) ns) (free_name n ns (suc z) k) (Some (numbered_name z k)) (is_within (length (numbered_name z k)) h) t

free_here : (n z k : ℕ) (ns : List (List ℕ)) → length (numbered_name z k) ≤ 1024 → list_any (bytes_eq (numbered_name z k)) ns ≡ false → free_name (suc n) ns z k ≡ Some (numbered_name z k)
unfolding free_name
free_here n z k ns h t =
    free_step (nat_lt 1024 (length (numbered_name z k))) (list_any (bytes_eq (numbered_name z k)) ns) (free_name n ns (suc z) k) (Some (numbered_name z k)) (is_within (length (numbered_name z k)) h) t

free_none : (z k : ℕ) (ns : List (List ℕ)) → free_name zero ns z k ≡ None
unfolding free_name
free_none z k ns = refl

module _ {V : Type 0} where
  -- the names with fewer zeros are all taken
  abbrev pub AllTaken : ℕ → ℕ → ℕ → List (List ℕ × V) → Type 0
  AllTaken limit z k own = (ns : List (List ℕ)) → AreNames ns own → free_name limit ns 0 k ≡ free_name (limit - z) ns z k

  pub taken_more : (limit z k : ℕ) (own : List (List ℕ × V)) (name : List ℕ) → z < limit → name ≡ numbered_name z k → length name ≤ 1024 → is_some (meaning_of own name) ≡ true → AllTaken limit z k own → AllTaken limit (z + 1) k own
  taken_more limit z k own name h e l t inv ns a =
      let more : suc z ≡ z + 1 = omega arith in
      inv ns a ∙ ap (λ n. free_name n ns z k) (one_less limit z h)
      ∙ free_taken (limit - (z + 1)) z k ns (rw e at l) (sym (a (numbered_name z k)) ∙ rw e at t)
      ∙ ap (λ m. free_name (limit - (z + 1)) ns m k) more

  pub taken_long : (limit z k : ℕ) (own : List (List ℕ × V)) (name : List ℕ) → z < limit → name ≡ numbered_name z k → 1024 < length name → AllTaken limit z k own → (ns : List (List ℕ)) → AreNames ns own → None ≡ free_name limit ns 0 k
  taken_long limit z k own name h e l inv ns a = sym (inv ns a ∙ ap (λ n. free_name n ns z k) (one_less limit z h) ∙ free_long (limit - (z + 1)) z k ns (rw e at l))

  pub taken_free : (limit z k : ℕ) (own : List (List ℕ × V)) (name : List ℕ) → z < limit → name ≡ numbered_name z k → length name ≤ 1024 → is_some (meaning_of own name) ≡ false → AllTaken limit z k own →
      (ns : List (List ℕ)) → AreNames ns own → Some (numbered_name z k) ≡ free_name limit ns 0 k
  taken_free limit z k own name h e l t inv ns a =
      sym (inv ns a ∙ ap (λ n. free_name n ns z k) (one_less limit z h) ∙ free_here (limit - (z + 1)) z k ns (rw e at l) (sym (a (numbered_name z k)) ∙ rw e at t))

  pub taken_all : (limit z k : ℕ) (own : List (List ℕ × V)) → limit ≤ z → AllTaken limit z k own → (ns : List (List ℕ)) → AreNames ns own → None ≡ free_name limit ns 0 k
  taken_all limit z k own h inv ns a = sym (inv ns a ∙ ap (λ n. free_name n ns z k) (none_left limit z h) ∙ free_none z k ns)
