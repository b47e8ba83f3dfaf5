-- Lemmas on modules that are none of others, each once.
use Rattle.std.proofs.Common.{◌≡◌, ◌∙◌, ℕ, ◌+◌, ◌<◌, ◌≤◌, List, [], ◌∷◌, ◌++◌, Bool, length, get_or, drop, ap, sym, subst, append_assoc}
use Rattle.std.proofs.lemmas.List.{append-nil, drop_all, drop_more}
use Rattle.vs_syntax.specs.declared.tree.Module.{Module}
use Rattle.vs_program_words.specs.Tops.{own_top, tops_among}
use Rattle.vs_program_words.specs.targets_passes.Names.{AreIndexed}

module _ (names : List (List ℕ)) (ms : List Module) where
  -- the names of those that were told are names too, and those of the others are still to be told
  abbrev pub AreReported : List (List ℕ) → ℕ → List (List ℕ × Bool) → Type 0
  AreReported told i index = AreIndexed (names ++ told) index × (told ++ tops_among (names ++ told) (drop i ms) ≡ tops_among names ms)

  pub none_told : (told : List (List ℕ)) (index : List (List ℕ × Bool)) → told ≡ [] → AreIndexed names index → AreReported told 0 index
  none_told told index none all =
      let same : names ++ told ≡ names = ap (λ (l : List (List ℕ)). names ++ l) none ∙ append-nil names in
      (subst (λ (l : List (List ℕ)). AreIndexed l index) (sym same) all, λ j. none j ++ tops_among (same j) ms)

  pub one_told : (old new : List (List ℕ)) (i : ℕ) (m : Module) (before after : List (List ℕ × Bool)) → i < length ms → m ≡ get_or ms i m → AreReported old i before
      → new ≡ old ++ own_top (names ++ old) m → AreIndexed ((names ++ old) ++ own_top (names ++ old) m) after → AreReported new (i + 1) after
  one_told old new i m before after within here so_far added all =
      let own = own_top (names ++ old) m in
      let rest = drop (i + 1) ms in
      let more : names ++ new ≡ (names ++ old) ++ own = ap (λ (l : List (List ℕ)). names ++ l) added ∙ sym (append_assoc names old own) in
      let split : drop i ms ≡ m ∷ rest = drop_more ms i m within ∙ ap (λ (x : Module). x ∷ rest) (sym here) in (
        subst (λ (l : List (List ℕ)). AreIndexed l after) (sym more) all,
        (λ j. added j ++ tops_among (more j) rest) ∙ append_assoc old own (tops_among ((names ++ old) ++ own) rest)
            ∙ ap (λ (l : List Module). old ++ tops_among (names ++ old) l) (sym split) ∙ so_far.1,
      )

  pub all_told : (told : List (List ℕ)) (i : ℕ) (index : List (List ℕ × Bool)) → length ms ≤ i → AreReported told i index → told ≡ tops_among names ms
  all_told told i index end so_far =
      sym (append-nil told) ∙ ap (λ (l : List Module). told ++ tops_among (names ++ told) l) (sym (drop_all i ms end)) ∙ so_far.1
