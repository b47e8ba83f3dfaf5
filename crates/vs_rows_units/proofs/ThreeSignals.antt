-- A module with three signals is well formed.
use Rattle.std.proofs.Common.{◌≡◌, ℕ, zero, suc, ◌<◌, List, [], ◌∷◌, refl, arith}
use Rattle.std.specs.Prelude.{true, codes, nat_eq, nat_lt, slice_index_or}
use Rattle.std.specs.Str.{bytes_eq}
use Rattle.std.specs.List.{IsDistinct, All}
use Rattle.vs_design.specs.declared.signal.Signal.{Signal}
use Rattle.vs_design.specs.declared.design.Assign.{Assign}
use Rattle.vs_design.specs.declared.design.Process.{Process}
use Rattle.vs_design.specs.declared.design.Entry.{Entry}
use Rattle.vs_design.specs.declared.timescale.Timescale.{Timescale}
use Rattle.vs_design.specs.WellFormed.{WellFormed, share_a_bit}
use Rattle.vs_logic4.proofs.Basics.{declared_3}
use Rattle.vs_rows_units.specs.ThreeSignals.{AreSignals, IsOutline}

none_of : {X : Type 0} (P : X → Type 0) → All P []
none_of P = λ k d h. absurd (omega (arith, h))

-- the texts differ
three_paths : IsDistinct bytes_eq (codes "t.m" ∷ codes "t.a" ∷ codes "t.b" ∷ [])
unfolding IsDistinct
three_paths = ((refl, (refl, tt)), ((refl, tt), (tt, tt)))

three_numbers : IsDistinct nat_eq (0 ∷ 1 ∷ 2 ∷ [])
unfolding IsDistinct
three_numbers = ((refl, (refl, tt)), ((refl, tt), (tt, tt)))

no_ranges : (signals : List Signal) → IsDistinct (share_a_bit signals) []
unfolding IsDistinct
no_ranges signals = tt

no_texts : IsDistinct bytes_eq []
unfolding IsDistinct
no_texts = tt

three_within : (k d : ℕ) → k < 3 → nat_lt (slice_index_or (0 ∷ 1 ∷ 2 ∷ []) k d) 3 ≡ true
three_within zero d h = refl
three_within (suc zero) d h = refl
three_within (suc (suc zero)) d h = refl
three_within (suc (suc (suc k))) d h = absurd (omega (arith, h))

pub three_well_formed : (t : Timescale) (signals : List Signal) (assigns : List Assign) (processes : List Process) (outline : List Entry)
    → AreSignals signals → assigns ≡ [] → processes ≡ [] → IsOutline outline
    → WellFormed (record { timescale = t; signals = signals; assigns = assigns; processes = processes; outline = outline })
three_well_formed t signals assigns processes outline s a p o =
    rw (s.all, a, p, o.lines) (record {
      processes = none_of _;
      assigns = none_of _;
      drivers = no_ranges (s.m ∷ s.a ∷ s.b ∷ []);
      declared = three_within;
      declared_once = three_numbers;
      all_declared = declared_3;
      paths = rw (s.path_m, s.path_a, s.path_b) three_paths;
      names = no_texts;
      assign_names = no_texts;
    })
