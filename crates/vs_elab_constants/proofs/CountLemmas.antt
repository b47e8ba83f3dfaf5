-- How many turns generate loops have.
use Rattle.std.proofs.Common.{◌≡◌, ℕ, zero, suc, ◌+◌, ◌<◌, ◌≤◌, cond, Bool, true, false, true≢false, not, List, [], ◌∷◌, ◌++◌, length, map, take, drop, get_or, refl, ap, ap₂, sym, subst, ◌∙◌, arith}
use Rattle.std.specs.List.{sum, sum_by}
use Rattle.std.proofs.lemmas.List.{map-append, take-append-drop, take_all}
use Rattle.std.proofs.lemmas.List.Sums.{sum-map, sum_by-append}
use Rattle.vs_syntax.specs.declared.tree.LoopHeader.{LoopHeader}
use Rattle.vs_syntax.specs.declared.tree.ModuleItem.{ModuleItem}
use Rattle.vs_scopes.specs.vs_widths.specs.declared.constants.Const.{Const}
use Rattle.vs_scopes.specs.vs_widths.specs.declared.faults.WidthReason.{WidthReason}
use Rattle.vs_scopes.specs.vs_widths.specs.Environment.{Environment}
use Rattle.vs_scopes.specs.declared.scope.ScopePiece.{ScopePiece as FoundPiece}
use Rattle.vs_scopes.specs.Pieces.{Piece, plain, loop, choice, local, inside, net}
use Rattle.vs_scopes.specs.Reads.{read_piece}
use Rattle.vs_scopes.specs.declared.faults.Reason.{Reason}
use Rattle.vs_scopes.specs.Parameters.{with_constant, any_fault}
use Rattle.vs_scopes.specs.Generate.{holds, condition_fault, genvar_value, genvar_fault, header_fault, Turns, turns, faulty, endless, one_more, turn_limit, turns_from, turns_of, turn_number, piece_turns, turns_among}
use Rattle.vs_design.specs.vs_logic4.proofs.Basics.{take_push}
use Rattle.vs_elab_constants.specs.generate_passes.Turns.{turn_fault}

-- ---- at most as many as a loop may have

one_few : (n : ℕ) (v : Const) (t : Turns) → turn_number t ≤ n → turn_number (one_more v t) ≤ suc n
one_few n v (turns cs) h = omega (arith, h)
one_few n v (faulty w) h = omega arith
one_few n v endless h = omega arith

few_last : (a b : Bool) (f : WidthReason → Bool) → turn_number (cond a (faulty f) (cond b endless (turns []))) ≤ 0
few_last true b f = omega arith
few_last false true f = omega arith
few_last false false f = omega arith

few_more : (a b c : Bool) (f g : WidthReason → Bool) (n : ℕ) (t : Turns) → turn_number t ≤ n → turn_number (cond a (faulty f) (cond b (turns []) (cond c (faulty g) t))) ≤ n
few_more true b c f g n t h = omega arith
few_more false true c f g n t h = omega arith
few_more false false true f g n t h = omega arith
few_more false false false f g n t h = h

few_from : (n : ℕ) (env : Environment) (h : LoopHeader) (c : Const) → turn_number (turns_from n env h c) ≤ n
unfolding turns_from
few_from zero env h c =
    let inner : Environment = with_constant env h.name.items c in
    few_last (any_fault (condition_fault inner h.condition)) (holds inner h.condition) (condition_fault inner h.condition)
few_from (suc n) env h c =
    let inner : Environment = with_constant env h.name.items c in
    few_more (any_fault (condition_fault inner h.condition)) (not (holds inner h.condition)) (any_fault (genvar_fault inner h.step)) (condition_fault inner h.condition) (genvar_fault inner h.step) (suc n)
    (one_more c (turns_from n env h (genvar_value inner h.step))) (one_few n c (turns_from n env h (genvar_value inner h.step)) (few_from n env h (genvar_value inner h.step)))

few_first : (a b : Bool) (f g : WidthReason → Bool) (n : ℕ) (t : Turns) → turn_number t ≤ n → turn_number (cond a (faulty f) (cond b (faulty g) t)) ≤ n
few_first true b f g n t h = omega arith
few_first false true f g n t h = omega arith
few_first false false f g n t h = h

pub loop_few : (env : Environment) (h : LoopHeader) → turn_number (turns_of env h) ≤ 65536
loop_few env h =
    few_first (any_fault (header_fault env h)) (any_fault (genvar_fault env h.first)) (header_fault env h) (genvar_fault env h.first) 65536 (turns_from turn_limit env h (genvar_value env h.first))
    (few_from turn_limit env h (genvar_value env h.first))

-- a piece that is no loop has none
pub no_loop : (env : Environment) (p : Piece) → ((h : LoopHeader) (x : ModuleItem) → p ≡ loop h x → ⊥) → 0 ≡ piece_turns env p
no_loop env (plain x) h = refl
no_loop env (loop g x) h = absurd (h g x refl)
no_loop env (choice e x o) h = refl
no_loop env (local x) h = refl
no_loop env (inside b) h = refl
no_loop env (net n) h = refl

-- a loop that has a fault has none
pub refused_none : (t : Turns) (r : Reason) → turn_fault t r ≡ true → 0 ≡ turn_number t
refused_none (turns cs) r h = absurd (true≢false (sym h))
refused_none (faulty w) r h = refl
refused_none endless r h = refl

-- ---- those of pieces, one after another

among_append : (env : Environment) (xs ys : List Piece) → turns_among env (xs ++ ys) ≡ turns_among env xs + turns_among env ys
among_append env xs ys =
    sum-map (piece_turns env) (xs ++ ys) ∙ sum_by-append (piece_turns env) xs ys ∙ ap₂ (λ m n. m + n) (sym (sum-map (piece_turns env) xs)) (sym (sum-map (piece_turns env) ys))

module _ (env : Environment) (ps : List FoundPiece) (i : ℕ) (x : FoundPiece) (h : i < length ps) (k : x ≡ get_or ps i x) where
  -- with one piece more
  pub turns_more : (turns_among env (map read_piece (take (i + 1) ps))) ≡ turns_among env (map read_piece (take i ps)) + piece_turns env (read_piece x)
  turns_more =
      ap (λ z. turns_among env (map read_piece z)) (take_push ps i x h k) ∙ ap (turns_among env) (map-append read_piece (take i ps) (x ∷ []))
      ∙ among_append env (map read_piece (take i ps)) (read_piece x ∷ []) ∙ ap (λ n. turns_among env (map read_piece (take i ps)) + n) (omega arith)

  -- too many among some are too many among all
  pub turns_over : (before n more : ℕ) → n ≡ before + turns_among env (map read_piece (take i ps)) → more ≡ piece_turns env (read_piece x) → 65536 < n + more → 65536 < before + turns_among env (map read_piece ps)
  turns_over before n more e m over =
      let all : turns_among env (map read_piece ps) ≡ turns_among env (map read_piece (take (i + 1) ps)) + turns_among env (map read_piece (drop (i + 1) ps)) =
      ap (λ z. turns_among env (map read_piece z)) (sym (take-append-drop (i + 1) ps)) ∙ ap (turns_among env) (map-append read_piece (take (i + 1) ps) (drop (i + 1) ps))
      ∙ among_append env (map read_piece (take (i + 1) ps)) (map read_piece (drop (i + 1) ps)) in
      omega (arith, all, turns_more, e, m, over)

-- all of them
pub turns_all : (env : Environment) (ps : List FoundPiece) (i before n : ℕ) → length ps ≤ i → n ≡ before + turns_among env (map read_piece (take i ps)) → n ≡ before + turns_among env (map read_piece ps)
turns_all env ps i before n h e = e ∙ ap (λ z. before + turns_among env (map read_piece z)) (take_all i ps h)
