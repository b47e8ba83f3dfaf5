-- The names of what opens scopes are names of the text.
use Rattle.std.proofs.Common.{◌≡◌, ℕ, Bool, true, false, List, [], ◌∷◌, ◌++◌, None, map, refl, ap, ap₂, sym, subst, ◌∙◌}
use Rattle.std.specs.List.{list_any, flat_map}
use Rattle.std.specs.Str.{bytes_eq}
use Rattle.std.proofs.lemmas.List.{map-append}
use Rattle.std.proofs.lemmas.List.Concat.{flat_map-append}
use Rattle.vs_scopes.specs.vs_widths.specs.declared.bindings.Binding.{Binding}
use Rattle.vs_scopes.specs.vs_widths.specs.declared.bindings.Binding.TheVariants.{Genvar, Other}
use Rattle.vs_scopes.specs.vs_widths.specs.declared.constants.Const.{Const}
use Rattle.vs_scopes.specs.Pieces.{Piece, net}
use Rattle.vs_scopes.specs.Uses.{names_used}
use Rattle.vs_scopes.specs.Parameters.{Parameter}
use Rattle.vs_scopes.specs.Ports.{ModulePort}
use Rattle.vs_scopes.specs.Declarations.{Bindings, declared_by_port, declared_among, unsized_of, signal_names, pending_names, genvars_in, inner_names_in, inner_names_among, bound_to, early_names}
use Rattle.vs_scopes.specs.Nets.{Sight, new_among, with_nets, is_known, pieces_with_nets}
use Rattle.vs_scopes.specs.Scopes.{Scope, keys, text_names, constant_names}
use Rattle.vs_elab_hierarchy.proofs.BranchLemmas.{Among, among_left, among_right}

-- the names of bindings that are joined
pub keys_append : (xs ys : Bindings) → keys (xs ++ ys) ≡ keys xs ++ keys ys
keys_append xs ys = map-append (λ (b : List ℕ × Binding). b.0) xs ys

pub keys_bound : (x : Binding) (ns : List (List ℕ)) → keys (bound_to x ns) ≡ ns
keys_bound x [] = refl
keys_bound x (n ∷ ns) = ap (λ ms. n ∷ ms) (keys_bound x ns)

-- the names of what the pieces of a scope open are names of its text
abbrev pub HasText : Scope → Type 0
HasText s = (n : List ℕ) → Among n (inner_names_among s.pieces) → Among n (text_names s)

-- ---- implicit nets open nothing

nets_open_nothing : (ns : List (List ℕ)) → inner_names_among (map net ns) ≡ []
nets_open_nothing [] = refl
nets_open_nothing (n ∷ ns) = nets_open_nothing ns

same_with_nets : (known : List ℕ → Bool) (before : List (List ℕ)) (ps : List Piece) → inner_names_among (with_nets known before ps) ≡ inner_names_among ps
same_with_nets known before [] = refl
same_with_nets known before (p ∷ ps) =
    let new = map net (new_among known before (names_used p)) in
    let others = with_nets known (before ++ names_used p) ps in
    flat_map-append inner_names_in new (p ∷ others) ∙ ap₂ (λ xs ys. xs ++ (inner_names_in p ++ ys)) (nets_open_nothing (new_among known before (names_used p))) (same_with_nets known (before ++ names_used p) ps)

pub same_pieces : (nets : Bool) (text : Bindings) (around : List ℕ → Sight) (ps : List Piece) → inner_names_among (pieces_with_nets nets text around ps) ≡ inner_names_among ps
same_pieces false text around ps = refl
same_pieces true text around ps = same_with_nets (is_known text around) [] ps

-- ---- names of the text

pub early_known : (xs : List Parameter) (ports : List ModulePort) (ps : List Piece) (n : List ℕ) → Among n (inner_names_among ps) → Among n (keys (early_names unsized_of xs ports ps))
early_known xs ports ps n h =
    let others = pending_names xs ++ signal_names unsized_of (map (declared_by_port (λ n. None)) ports ++ declared_among (λ n. None) ps) ++ bound_to Genvar (flat_map genvars_in ps) in
    let inner = bound_to Other (inner_names_among ps) in
    subst (Among n) (sym (keys_append others inner)) (among_right n (keys others) (keys inner) (subst (Among n) (sym (keys_bound Other (inner_names_among ps))) h))

pub block_known : (cs : List (List ℕ × Const)) (xs : List Parameter) (ps : List Piece) (n : List ℕ) → Among n (inner_names_among ps) → Among n (keys (early_names unsized_of xs [] ps ++ constant_names cs))
block_known cs xs ps n h =
    let early = early_names unsized_of xs [] ps in
    subst (Among n) (sym (keys_append early (constant_names cs))) (among_left n (keys early) (keys (constant_names cs)) (early_known xs [] ps n h))
