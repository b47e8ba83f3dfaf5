-- Designs of a clock and two processes at its rising edges are well formed, and run to their first rising edge.
use Rattle.std.proofs.Common.{◌≡◌, ℕ, true, List, [], ◌∷◌, refl, ◌∙◌, ap, nat_lt}
use Rattle.std.proofs.lemmas.List.Elements.{All-nil, All-cons}
use Rattle.std.specs.declared.alloc.Global.{Global}
use Rattle.std.specs.List.{All, IsDistinct}
use Rattle.vs_design.specs.vs_logic4.specs.declared.digit.Digit.TheVariants.{Zero, One}
use Rattle.vs_design.specs.declared.design.Process.{Process}
use Rattle.vs_design.specs.declared.signal.Signal.{Signal}
use Rattle.vs_design.specs.declared.statement.Statement.{Statement, out-Statement}
use Rattle.vs_design.specs.WellFormed.{WellFormed, is_sound_process, is_sound_statement, numbers}
use Rattle.vs_design.specs.vs_logic4.proofs.Basics.{declared_3}
use Rattle.vs_design.proofs.FormLemmas.{numbers_Assign as numbers_assign, sound_Assign as sound_assign}
use Rattle.vs_laws.specs.Mirror.{one_of}
use Rattle.vs_laws.specs.Race.{initially, target}
use Rattle.vs_laws.specs.Rise.{rise}
use Rattle.vs_laws.proofs.Race.{reads_number, size_number}
use Rattle.vs_laws.specs.Swap.{always, clock, each_rise, five, half, inverse, on_rise, sets, swapping, turned}
use Rattle.vs_laws.proofs.Texts.{numbers_delay, numbers_event, numbers_forever, reads_inverse, size_inverse, sound_delay, sound_event, sound_forever}

-- ---- they are well formed

abbrev pub signals_of : Global → List Signal
signals_of g = (swapping g (sets g 0 Zero) (sets g 0 Zero)).signals

abbrev Sound : Global → Process → Type 0
Sound g p = is_sound_process (signals_of g) p ≡ true

-- what may be the statement of `@(posedge c)`
pub record IsSoundBody (g : Global) (body : Statement) : Type 0 where
  pub sound : is_sound_statement (signals_of g) body ≡ true
  pub number : numbers body ≡ 2 ∷ []

sets_c : (g : Global) → Sound g (initially g 48 (sets g 0 Zero))
sets_c g = simp (sound_assign, numbers_assign, reads_number, size_number)

sets_a : (g : Global) → Sound g (initially g 49 (sets g 1 Zero))
sets_a g = simp (sound_assign, numbers_assign, reads_number, size_number)

sets_b : (g : Global) → Sound g (initially g 50 (sets g 2 One))
sets_b g = simp (sound_assign, numbers_assign, reads_number, size_number)

clock_sound : (g : Global) → is_sound_statement (signals_of g) (clock g) ≡ true
clock_sound g =
    sound_forever (signals_of g) g 0 (half g) ∙ sound_delay (signals_of g) g 1 five (turned g) ∙ sound_assign (signals_of g) 2 (target g 0) (inverse g)
    ∙ rw (reads_inverse g, size_inverse g) refl

clock_numbers : (g : Global) → numbers (clock g) ≡ 0 ∷ 1 ∷ 2 ∷ []
clock_numbers g = numbers_forever g 0 (half g) ∙ ap (λ l. 0 ∷ l) (numbers_delay g 1 five (turned g) ∙ ap (λ l. 1 ∷ l) (numbers_assign 2 (target g 0) (inverse g)))

clock_process : (g : Global) → Sound g (always g 51 (clock g))
unfolding out-Statement denote.Hole.Carrier.out
clock_process g = rw (clock_sound g, clock_numbers g) refl

rise_sound : (g : Global) (body : Statement) → IsSoundBody g body → is_sound_statement (signals_of g) (each_rise g body) ≡ true
rise_sound g body h = sound_forever (signals_of g) g 0 (on_rise g body) ∙ sound_event (signals_of g) g 1 (one_of g rise) body refl ∙ h.sound

rise_numbers : (g : Global) (body : Statement) → IsSoundBody g body → numbers (each_rise g body) ≡ 0 ∷ 1 ∷ 2 ∷ []
rise_numbers g body h = numbers_forever g 0 (on_rise g body) ∙ ap (λ l. 0 ∷ l) (numbers_event g 1 (one_of g rise) body ∙ ap (λ l. 1 ∷ l) h.number)

rise_process : (g : Global) (digit : ℕ) (body : Statement) → IsSoundBody g body → Sound g (always g digit (each_rise g body))
unfolding out-Statement denote.Hole.Carrier.out
rise_process g digit body h = rw (rise_sound g body h, rise_numbers g body h) refl

abbrev edge_processes : Global → Statement → Statement → List Process
edge_processes g first second = always g 52 (each_rise g first) ∷ always g 53 (each_rise g second) ∷ []

edges_sound : (g : Global) (first second : Statement) → IsSoundBody g first → IsSoundBody g second → All (Sound g) (edge_processes g first second)
edges_sound g first second h also =
    All-cons (Sound g) (always g 52 (each_rise g first)) (always g 53 (each_rise g second) ∷ []) (rise_process g 52 first h)
    (All-cons (Sound g) (always g 53 (each_rise g second)) [] (rise_process g 53 second also) (All-nil (Sound g)))

pub formed : (g : Global) (first second : Statement) → IsSoundBody g first → IsSoundBody g second → WellFormed (swapping g first second)
unfolding IsDistinct
formed g first second h also = record {
  processes =
      All-cons (Sound g) (initially g 48 (sets g 0 Zero)) (initially g 49 (sets g 1 Zero) ∷ initially g 50 (sets g 2 One) ∷ always g 51 (clock g) ∷ edge_processes g first second) (sets_c g)
      (All-cons (Sound g) (initially g 49 (sets g 1 Zero)) (initially g 50 (sets g 2 One) ∷ always g 51 (clock g) ∷ edge_processes g first second) (sets_a g)
      (All-cons (Sound g) (initially g 50 (sets g 2 One)) (always g 51 (clock g) ∷ edge_processes g first second) (sets_b g)
      (All-cons (Sound g) (always g 51 (clock g)) (edge_processes g first second) (clock_process g) (edges_sound g first second h also))));
  assigns = All-nil _;
  drivers = tt;
  declared =
      All-cons (λ n. nat_lt n 3 ≡ true) 0 (1 ∷ 2 ∷ []) refl
      (All-cons (λ n. nat_lt n 3 ≡ true) 1 (2 ∷ []) refl (All-cons (λ n. nat_lt n 3 ≡ true) 2 [] refl (All-nil (λ n. nat_lt n 3 ≡ true))));
  declared_once = ((refl, (refl, tt)), ((refl, tt), (tt, tt)));
  all_declared = declared_3;
  paths = ((refl, (refl, tt)), ((refl, tt), (tt, tt)));
  names =
      ((refl, (refl, (refl, (refl, (refl, tt))))), ((refl, (refl, (refl, (refl, tt)))), ((refl, (refl, (refl, tt))), ((refl, (refl, tt)), ((refl, tt), (tt, tt))))));
  assign_names = tt;
}
