-- What scopes of sources that say the same open.
use Rattle.std.proofs.Common.{◌≡◌, ℕ, zero, suc, ℤ, Bool, true, false, ◌&&◌, ◌||◌, not, cond, List, [], ◌∷◌, Option, Some, None, map, refl, ap, ap₂, sym, subst, ◌∙◌}
use Rattle.std.specs.Prelude.{sum}
use Rattle.std.proofs.Math.Path.{fun_ext}
use Rattle.std.specs.List.{list_any}
use Rattle.std.specs.Str.{bytes_eq}
use Rattle.std.specs.declared.boxed.Box.{Box}
use Rattle.std.specs.declared.alloc.Global.{Global}
use Rattle.vs_design.specs.vs_logic4.specs.declared.digit.Digit.TheVariants.{One}
use Rattle.vs_design.specs.vs_logic4.specs.Vectors.{same_digit}
use Rattle.vs_syntax.specs.declared.tree.Expr.{Expr}
use Rattle.vs_syntax.specs.declared.tree.LoopHeader.{LoopHeader}
use Rattle.vs_syntax.specs.declared.tree.ModuleItem.{ModuleItem}
use Rattle.vs_syntax.specs.declared.tree.ModuleItem.TheOpen.{ModuleItem-F}
use Rattle.vs_syntax.specs.declared.tree.ModuleItem.TheOpen as mf
use Rattle.vs_syntax.specs.declared.tree.ModuleItem.TheVariants.{rolls-Plain, rolls-Region, rolls-For as rolls-Loop, rolls-If as rolls-Condition, rolls-Null as rolls-Nothing, rolls-Block as rolls-Generated}
use Rattle.vs_syntax.specs.declared.tree.ModuleItem.TheViews.{roll-ModuleItem}
use Rattle.vs_syntax.specs.Same.{SameExpr, Pairwise, no_pair, pair_more, SameOption, both_absent, both_there, SameLoopHeader, SameModuleItem, same_plain, same_region, same_generate_loop, same_generate_if, same_no_content, same_generate_block, SameOther, same_no_other, same_other, SameModuleItems}
use Rattle.vs_scopes.specs.Pieces.{NamedBlock, blocks_of, Piece, Content, nothing, content_step, content_of}
use Rattle.vs_elab_statements.specs.vs_widths.specs.declared.constants.Const.{Const}
use Rattle.vs_elab_statements.specs.vs_widths.specs.declared.faults.WidthReason.{WidthReason}
use Rattle.vs_elab_statements.specs.vs_widths.specs.Environment.{Environment}
use Rattle.vs_elab_statements.specs.vs_widths.specs.Findings.{has_width_fault}
use Rattle.vs_elab_statements.specs.vs_widths.specs.Meants.{Meant, own}
use Rattle.vs_elab_statements.specs.vs_widths.specs.Constants.{constant_finding}
use Rattle.vs_elab_statements.specs.vs_widths.specs.Expressions.{meant}
use Rattle.vs_elaborate.specs.vs_scopes.specs.Printed.{PathName}
use Rattle.vs_elaborate.specs.vs_scopes.specs.Ranges.{sized_as, number_fault}
use Rattle.vs_elaborate.specs.vs_scopes.specs.Parameters.{neither, constant_by, with_constant, any_fault}
use Rattle.vs_elaborate.specs.vs_scopes.specs.Declarations.{Use, uses_by_item}
use Rattle.vs_elaborate.specs.vs_scopes.specs.Generate.{genvar_number, Turns, turns, faulty, endless, one_more, turns_from, wrong_genvar, wrong_name, turn_limit, turns_of, turn_number, piece_turns, turns_among, Taken, takes, refused, decided, branch_taken, other_taken, chosen, name_of_block, Inner, instance, generated, named, generates, content_inner, turns_inner, loop_inner, choice_inner, inner_in, after_piece, inner_from}
use Rattle.vs_elaborate.proofs.LayerLemmas.{content_layer, taken_layered, taken_layer}
use Rattle.vs_elaborate.proofs.PairLemmas.{pair_append, pair_map, pair_same}
use Rattle.vs_elaborate.proofs.SameTypedLemmas.{by_both, same_meant}
use Rattle.vs_elaborate.proofs.SamePieceLemmas.{one_pair, SameBlock, item_blocks_of, SamePiece, plain_same, loop_same, choice_same, local_same, inside_same, net_same, SameContent, nothing_same, content_same, contents_same}
use Rattle.vs_elaborate.proofs.SamePortLemmas.{SameUse, item_uses}

-- ---- turns of loops

-- the faults of a condition, and whether it holds, by what it means
abbrev faults_by : Meant → WidthReason → Bool
faults_by m w = has_width_fault w (constant_finding m)

abbrev holds_by : Meant → Bool
holds_by m = list_any (same_digit One) (own m [] 0)

-- the value of a genvar, and its faults, by what the expression means
abbrev value_by : Meant → Const
value_by m = constant_by (neither (sized_as (λ n. None) true 31 None)) m

abbrev value_faults_by : Meant → WidthReason → Bool
value_faults_by m w = number_fault w (constant_finding m) (genvar_number (value_by m))

-- the last turn by what the condition means
abbrev last_by : Meant → Turns
last_by m = cond (any_fault (faults_by m)) (faulty (faults_by m)) (cond (holds_by m) endless (turns []))

-- the turns from a value on, by what the condition and the step mean and what follows
abbrev turns_by : Const → Meant → Meant → (Const → Turns) → Turns
turns_by c m v next =
    cond (any_fault (faults_by m)) (faulty (faults_by m))
    (cond (not (holds_by m)) (turns []) (cond (any_fault (value_faults_by v)) (faulty (value_faults_by v)) (one_more c (next (value_by v)))))

-- what an expression means where a genvar is a constant
with_genvar : (env : Environment) (c : Const) (n n' : List ℕ) (e e' : Expr) → n ≡ n' → SameExpr e e' → meant (with_constant env n c) e ≡ meant (with_constant env n' c) e'
with_genvar env c n n' e e' i m = ap (λ z. meant (with_constant env z c) e) i ∙ same_meant (with_constant env n' c) e e' m

turns_from_same : (n : ℕ) (env : Environment) (h h' : LoopHeader) → SameLoopHeader h h' → (c : Const) → turns_from n env h c ≡ turns_from n env h' c
unfolding turns_from
turns_from_same zero env h h' m c = ap last_by (with_genvar env c h.name.items h'.name.items h.condition h'.condition m.name m.condition)
turns_from_same (suc n) env h h' m c =
    ap₂ (λ a v. turns_by c a v (turns_from n env h)) (with_genvar env c h.name.items h'.name.items h.condition h'.condition m.name m.condition)
    (with_genvar env c h.name.items h'.name.items h.step h'.step m.name m.step)
    ∙ ap (turns_by c (meant (with_constant env h'.name.items c) h'.condition) (meant (with_constant env h'.name.items c) h'.step)) (fun_ext (turns_from_same n env h h' m))

-- the faults of the names of a header
abbrev header_by : Environment → List ℕ → List ℕ → WidthReason → Bool
header_by env n k w = wrong_genvar (env n) w || (not (bytes_eq n k) && wrong_name (env k) w)

-- the turns of a loop by the names of its header, what the first value means, and what follows
abbrev loop_by : Environment → List ℕ → List ℕ → Meant → (Const → Turns) → Turns
loop_by env n k v next =
    cond (any_fault (header_by env n k)) (faulty (header_by env n k)) (cond (any_fault (value_faults_by v)) (faulty (value_faults_by v)) (next (value_by v)))

pub turns_same : (env : Environment) (h h' : LoopHeader) → SameLoopHeader h h' → turns_of env h ≡ turns_of env h'
turns_same env h h' m =
    ap₂ (λ n k. loop_by env n k (meant env h.first) (turns_from turn_limit env h)) m.name m.next
    ∙ ap₂ (loop_by env h'.name.items h'.next.items) (same_meant env h.first h'.first m.first) (fun_ext (turns_from_same turn_limit env h h' m))

-- ---- branches

pub data SameTaken : Taken → Taken → Type 0 where
  takes_same : (x x' : Content) → SameContent x x' → SameTaken (takes x) (takes x')
  refused_same : (w : WidthReason → Bool) → SameTaken (refused w) (refused w)

-- what is decided by what a condition means
abbrev decided_by : Meant → Taken → Taken → Taken
decided_by m x y = cond (any_fault (faults_by m)) (refused (faults_by m)) (cond (holds_by m) x y)

decided_same : (env : Environment) (e e' : Expr) (x x' y y' : Taken) → SameExpr e e' → SameTaken x x' → SameTaken y y' → SameTaken (decided env e x y) (decided env e' x' y')
decided_same env e e' x x' y y' m h k =
    subst (λ v. SameTaken (decided_by (meant env e) x y) (decided_by v x' y')) (same_meant env e e' m) (by (any_fault (faults_by (meant env e))) (holds_by (meant env e)))
  where
    by : (a b : Bool) → SameTaken (cond a (refused (faults_by (meant env e))) (cond b x y)) (cond a (refused (faults_by (meant env e))) (cond b x' y'))
    by true b = refused_same (faults_by (meant env e))
    by false true = h
    by false false = k

module _ (env : Environment) where
  both_taken : (l l' : ModuleItem-F ModuleItem) (x x' : ModuleItem) → roll-ModuleItem l ≡ x → roll-ModuleItem l' ≡ x' → SameTaken (taken_layered env l x) (taken_layered env l' x') →
      SameTaken (branch_taken env x) (branch_taken env x')
  both_taken l l' x x' h h' m = by_both SameTaken (branch_taken env x) (branch_taken env x') (taken_layered env l x) (taken_layered env l' x') (taken_layer env l x h) (taken_layer env l' x' h') m

  plainly_taken : (l l' : ModuleItem-F ModuleItem) (x x' : ModuleItem) → roll-ModuleItem l ≡ x → roll-ModuleItem l' ≡ x' → SameModuleItem x x' → SameTaken (takes (content_step l x)) (takes (content_step l' x'))
  plainly_taken l l' x x' h h' m =
      by_both SameTaken (takes (content_step l x)) (takes (content_step l' x')) (takes (content_of x)) (takes (content_of x'))
      (ap takes (sym (content_layer l x h))) (ap takes (sym (content_layer l' x' h'))) (takes_same (content_of x) (content_of x') (contents_same x x' m))

  mutual
    pub branch_same : (x x' : ModuleItem) → SameModuleItem x x' → SameTaken (branch_taken env x) (branch_taken env x')
    branch_same x x' (same_plain y y' m) =
        both_taken (mf.Plain y) (mf.Plain y') x x' (rolls-Plain y) (rolls-Plain y') (plainly_taken (mf.Plain y) (mf.Plain y') x x' (rolls-Plain y) (rolls-Plain y') (same_plain y y' m))
    branch_same x x' (same_region ys ys' r) =
        both_taken (mf.Region ys) (mf.Region ys') x x' (rolls-Region ys) (rolls-Region ys') (plainly_taken (mf.Region ys) (mf.Region ys') x x' (rolls-Region ys) (rolls-Region ys') (same_region ys ys' r))
    branch_same x x' (same_generate_loop h h' y y' i m) =
        both_taken (mf.For h y) (mf.For h' y') x x' (rolls-Loop h y) (rolls-Loop h' y') (plainly_taken (mf.For h y) (mf.For h' y') x x' (rolls-Loop h y) (rolls-Loop h' y') (same_generate_loop h h' y y' i m))
    branch_same x x' (same_generate_if e e' y y' o o' i m r) =
        both_taken (mf.If e y o) (mf.If e' y' o') x x' (rolls-Condition e y o) (rolls-Condition e' y' o') (condition_same e e' x x' y y' o o' i (branch_same y.value y'.value m) r)
    branch_same x x' same_no_content = both_taken mf.Null mf.Null x x' rolls-Nothing rolls-Nothing (plainly_taken mf.Null mf.Null x x' rolls-Nothing rolls-Nothing same_no_content)
    branch_same x x' (same_generate_block n n' ys ys' i r) =
        both_taken (mf.Block n ys) (mf.Block n' ys') x x' (rolls-Generated n ys) (rolls-Generated n' ys')
        (plainly_taken (mf.Block n ys) (mf.Block n' ys') x x' (rolls-Generated n ys) (rolls-Generated n' ys') (same_generate_block n n' ys ys' i r))

    condition_same : (e e' : Expr) (x x' : ModuleItem) (y y' : Box ModuleItem Global) (o o' : Option (Box ModuleItem Global)) → SameExpr e e' → SameTaken (branch_taken env y.value) (branch_taken env y'.value) → SameOther o o' →
        SameTaken (taken_layered env (mf.If e y o) x) (taken_layered env (mf.If e' y' o') x')
    condition_same e e' x x' y y' _ _ i m same_no_other =
        decided_same env e e' (branch_taken env y.value) (branch_taken env y'.value) (takes nothing) (takes nothing) i m (takes_same nothing nothing nothing_same)
    condition_same e e' x x' y y' _ _ i m (same_other z z' r) =
        decided_same env e e' (branch_taken env y.value) (branch_taken env y'.value) (branch_taken env z.value) (branch_taken env z'.value) i m (branch_same z.value z'.value r)

  other_branch : (o o' : Option ModuleItem) → SameOption SameModuleItem o o' → SameTaken (other_taken env o) (other_taken env o')
  other_branch _ _ both_absent = takes_same nothing nothing nothing_same
  other_branch _ _ (both_there x x' m) = branch_same x x' m

  chosen_same : (e e' : Expr) (x x' : ModuleItem) (o o' : Option ModuleItem) → SameExpr e e' → SameModuleItem x x' → SameOption SameModuleItem o o' → SameTaken (chosen env e x o) (chosen env e' x' o')
  chosen_same e e' x x' o o' i m r =
      decided_same env e e' (branch_taken env x) (branch_taken env x') (other_taken env o) (other_taken env o') i (branch_same x x' m) (other_branch o o' r)

-- ---- what is opened

pub data SameInner : Inner → Inner → Type 0 where
  instance_same : (u u' : Use) → SameUse u u' → SameInner (instance u) (instance u')
  generated_same : (i : ℕ) (n : PathName) (cs : List (List ℕ × Const)) (xs xs' : List ModuleItem) → SameModuleItems xs xs' → SameInner (generated i n cs xs) (generated i n cs xs')
  named_same : (b b' : NamedBlock) → SameBlock b b' → SameInner (named b) (named b')

abbrev AreSameInner : List Inner → List Inner → Type 0
AreSameInner = Pairwise SameInner

generates_same : (place : ℕ) (n : Option (List ℕ)) (turn : Option ℤ) (cs : List (List ℕ × Const)) (xs xs' : List ModuleItem) → SameModuleItems xs xs' → AreSameInner (generates place n turn cs xs) (generates place n turn cs xs')
generates_same place None turn cs xs xs' r = no_pair
generates_same place (Some n) turn cs xs xs' r = one_pair SameInner _ _ (generated_same place (record { name = n; turn = turn }) cs xs xs' r)

content_inner_same : (place : ℕ) (names : List (List ℕ)) (k : ℕ) (turn : Option ℤ) (cs : List (List ℕ × Const)) (x x' : Content) → SameContent x x' → AreSameInner (content_inner place names k turn cs x) (content_inner place names k turn cs x')
content_inner_same place names k turn cs _ _ nothing_same = no_pair
content_inner_same place names k turn cs _ _ (content_same n xs xs' r) = generates_same place (name_of_block names k n) turn cs xs xs' r

turns_inner_same : (place : ℕ) (names : List (List ℕ)) (k : ℕ) (n : List ℕ) (x x' : Content) → SameContent x x' → (cs : List Const) → AreSameInner (turns_inner place names k n x cs) (turns_inner place names k n x' cs)
turns_inner_same place names k n x x' m [] = no_pair
turns_inner_same place names k n x x' m (c ∷ cs) =
    pair_append SameInner (content_inner place names k (genvar_number c) ((n, c) ∷ []) x) (content_inner place names k (genvar_number c) ((n, c) ∷ []) x') (turns_inner place names k n x cs) (turns_inner place names k n x' cs)
    (content_inner_same place names k (genvar_number c) ((n, c) ∷ []) x x' m) (turns_inner_same place names k n x x' m cs)

loop_inner_same : (place : ℕ) (names : List (List ℕ)) (k : ℕ) (n : List ℕ) (x x' : Content) → SameContent x x' → (t : Turns) → AreSameInner (loop_inner place names k n x t) (loop_inner place names k n x' t)
loop_inner_same place names k n x x' m (turns cs) = turns_inner_same place names k n x x' m cs
loop_inner_same place names k n x x' m (faulty w) = no_pair
loop_inner_same place names k n x x' m endless = no_pair

choice_inner_same : (place : ℕ) (names : List (List ℕ)) (k : ℕ) (x x' : Taken) → SameTaken x x' → AreSameInner (choice_inner place names k x) (choice_inner place names k x')
choice_inner_same place names k _ _ (takes_same x x' m) = content_inner_same place names k None [] x x' m
choice_inner_same place names k _ _ (refused_same w) = no_pair

piece_inner : (place : ℕ) (env : Environment) (names : List (List ℕ)) (k : ℕ) (p p' : Piece) → SamePiece p p' → AreSameInner (inner_in place env names k p) (inner_in place env names k p')
piece_inner place env names k _ _ (plain_same x x' m) =
    pair_append SameInner (map instance (uses_by_item x)) (map instance (uses_by_item x')) (map named (blocks_of x)) (map named (blocks_of x'))
    (pair_map SameUse SameInner instance instance instance_same (uses_by_item x) (uses_by_item x') (item_uses x x' m))
    (pair_map SameBlock SameInner named named named_same (blocks_of x) (blocks_of x') (item_blocks_of x x' m))
piece_inner place env names k _ _ (loop_same h h' x x' i m) =
    subst (λ t. AreSameInner (loop_inner place names k h.name.items (content_of x) (turns_of env h)) (loop_inner place names k h'.name.items (content_of x') t)) (turns_same env h h' i)
    (subst (λ n. AreSameInner (loop_inner place names k h.name.items (content_of x) (turns_of env h)) (loop_inner place names k n (content_of x') (turns_of env h))) i.name
    (loop_inner_same place names k h.name.items (content_of x) (content_of x') (contents_same x x' m) (turns_of env h)))
piece_inner place env names k _ _ (choice_same e e' x x' o o' i m r) = choice_inner_same place names k (chosen env e x o) (chosen env e' x' o') (chosen_same env e e' x x' o o' i m r)
piece_inner place env names k _ _ (local_same x x' m) = no_pair
piece_inner place env names k _ _ (inside_same b b' m) = one_pair SameInner (named b) (named b') (named_same b b' m)
piece_inner place env names k _ _ (net_same x) = no_pair

behind_same : (k : ℕ) (p p' : Piece) → SamePiece p p' → after_piece k p ≡ after_piece k p'
behind_same k _ _ (plain_same x x' m) = refl
behind_same k _ _ (loop_same h h' x x' i m) = refl
behind_same k _ _ (choice_same e e' x x' o o' i m r) = refl
behind_same k _ _ (local_same x x' m) = refl
behind_same k _ _ (inside_same b b' m) = refl
behind_same k _ _ (net_same x) = refl

piece_turns_same : (env : Environment) (p p' : Piece) → SamePiece p p' → piece_turns env p ≡ piece_turns env p'
piece_turns_same env _ _ (plain_same x x' m) = refl
piece_turns_same env _ _ (loop_same h h' x x' i m) = ap turn_number (turns_same env h h' i)
piece_turns_same env _ _ (choice_same e e' x x' o o' i m r) = refl
piece_turns_same env _ _ (local_same x x' m) = refl
piece_turns_same env _ _ (inside_same b b' m) = refl
piece_turns_same env _ _ (net_same x) = refl

-- how many turns the loops have among pieces that say the same
pub same_turns : (env : Environment) (ps ps' : List Piece) → Pairwise SamePiece ps ps' → turns_among env ps ≡ turns_among env ps'
same_turns env ps ps' r = ap sum (pair_same SamePiece (piece_turns env) (piece_turns_same env) ps ps' r)

-- what pieces that say the same open, where names are bound so
pub inner_same : (place : ℕ) (env : Environment) (names : List (List ℕ)) (k : ℕ) (ps ps' : List Piece) → Pairwise SamePiece ps ps' → Pairwise SameInner (inner_from place env names k ps) (inner_from place env names k ps')
inner_same place env names k _ _ no_pair = no_pair
inner_same place env names k _ _ (pair_more p p' ps ps' h r) =
    pair_append SameInner (inner_in place env names k p) (inner_in place env names k p') (inner_from (suc place) env names (after_piece k p) ps) (inner_from (suc place) env names (after_piece k p') ps') (piece_inner place env names k p p' h)
    (subst (λ j. AreSameInner (inner_from (suc place) env names (after_piece k p) ps) (inner_from (suc place) env names j ps')) (behind_same k p p' h) (inner_same (suc place) env names (after_piece k p) ps ps' r))
