-- Connections and parameters of modules that say the same.
use Rattle.std.proofs.Common.{◌≡◌, ℕ, zero, suc, Bool, true, false, ◌||◌, true≢false, cond, List, [], ◌∷◌, ◌++◌, Option, Some, None, length, map, refl, ap, ap₂, sym, subst, ◌∙◌}
use Rattle.std.specs.Prelude.{nat_lt}
use Rattle.std.proofs.Math.Path.{fun_ext}
use Rattle.std.specs.List.{list_any}
use Rattle.std.specs.Str.{bytes_eq}
use Rattle.vs_syntax.specs.declared.tree.Constant.{Constant}
use Rattle.vs_syntax.specs.declared.tree.Connection.{Connection}
use Rattle.vs_syntax.specs.declared.tree.Connections.{Connections}
use Rattle.vs_syntax.specs.declared.tree.Expr.{Expr}
use Rattle.vs_syntax.specs.declared.tree.HeaderParameter.{HeaderParameter}
use Rattle.vs_syntax.specs.declared.tree.Item.{Item}
use Rattle.vs_syntax.specs.declared.tree.Module.{Module}
use Rattle.vs_syntax.specs.declared.tree.ParameterForm.{ParameterForm}
use Rattle.vs_syntax.specs.declared.tree.Range.{Range}
use Rattle.vs_syntax.specs.Same.{SameExpr, Pairwise, no_pair, pair_more, SameOption, both_absent, both_there, SameValue, same_no_value, same_value, SameRange, same_no_range, same_range, SameParameterForm, same_integer_word, same_vector, SameConstant, SameHeaderParameter, SameConnection, SameConnections, same_ordered, same_named, SameItem, same_port_item, same_genvars, same_wire, same_reg, same_integer, same_parameters, same_localparams, same_instances, same_assigns, same_initial, same_always, SameModule}
use Rattle.vs_design.specs.declared.signal.SignalKind.{SignalKind}
use Rattle.vs_elab_statements.specs.vs_widths.specs.declared.bindings.Binding.{Binding}
use Rattle.vs_elab_statements.specs.vs_widths.specs.declared.bindings.Binding.TheVariants as b
use Rattle.vs_elab_statements.specs.vs_widths.specs.declared.constants.Const.{Const}
use Rattle.vs_elab_statements.specs.vs_widths.specs.declared.faults.WidthReason.{WidthReason}
use Rattle.vs_elab_statements.specs.vs_widths.specs.declared.faults.WidthReason.TheVariants.{TooWide, Unknown, NotConstant, WrongKind}
use Rattle.vs_elab_statements.specs.vs_widths.specs.Environment.{Environment}
use Rattle.vs_elab_statements.specs.vs_widths.specs.Findings.{has_width_fault}
use Rattle.vs_elab_statements.specs.vs_widths.specs.Meants.{Meant}
use Rattle.vs_elab_statements.specs.vs_widths.specs.Constants.{constant_finding}
use Rattle.vs_elaborate.specs.vs_scopes.specs.Ranges.{sized_as}
use Rattle.vs_elaborate.specs.vs_scopes.specs.Connections.{in_text, in_order, by_name, ends_of, has_twice, has_other, is_mismatch}
use Rattle.vs_elaborate.specs.vs_scopes.specs.Parameters.{Parameter, said, header_parameters, item_parameter, parameters_in, piece_parameters, parameters_among, parameters_of, overridable, Given, first_end, other_ends, given_from, overriding, given_to, is_override_mismatch, the_size, neither, vector_takes, takes_by, constant_by, takes_fault, given_meant, constant_given, own_fault, outer_fault, with_given, bound_given, known_after, known_in_module, blamed_given, blamed_after, known_for, constants_of, own_faults, outer_faults, any_fault}
use Rattle.vs_elaborate.specs.vs_scopes.specs.Ports.{ModulePort, ports_of}
use Rattle.vs_elaborate.specs.vs_scopes.specs.Declarations.{Bindings, DeclaredName, bound_to, unsized_of, valueless_of, signal_names, pending_names, early_names}
use Rattle.vs_elaborate.specs.vs_scopes.specs.Scopes.{Scope, nowhere, outward, text_of, early, environment, constant_names, has_no_values, block_given, with_constants, early_block, block_text, block_fault}
use Rattle.vs_scopes.specs.Pieces.{Piece, pieces_of}
use Rattle.vs_elaborate.proofs.PairLemmas.{pair_append, pair_map, pair_flat, pair_length, pair_same}
use Rattle.vs_elaborate.proofs.SamePieceLemmas.{SamePiece, plain_same, loop_same, choice_same, local_same, inside_same, net_same}
use Rattle.vs_elaborate.proofs.SameTypedLemmas.{same_meant}
use Rattle.vs_elaborate.proofs.SamePortLemmas.{range_sizes, SameModulePort, same_said, same_pieces, same_ports, ports_declare, among_declares, same_genvar_names, same_inner_names}

-- ---- connections

same_in_text : (o o' : Option Expr) (xs xs' : List (Option Expr)) → SameValue o o' → Pairwise SameValue xs xs' → Pairwise SameValue (in_text o xs) (in_text o' xs')
same_in_text _ _ _ _ same_no_value no_pair = no_pair
same_in_text _ _ _ _ same_no_value (pair_more x x' xs xs' h r) = pair_more None None (x ∷ xs) (x' ∷ xs') same_no_value (pair_more x x' xs xs' h r)
same_in_text _ _ xs xs' (same_value x x' h) r = pair_more (Some x) (Some x') xs xs' (same_value x x' h) r

same_in_order : (ns : List (List ℕ)) (xs xs' : List (Option Expr)) → Pairwise SameValue xs xs' → Pairwise SameValue (in_order xs ns) (in_order xs' ns)
same_in_order [] xs xs' r = no_pair
same_in_order (n ∷ ns) _ _ no_pair = pair_more None None (in_order [] ns) (in_order [] ns) same_no_value (same_in_order ns [] [] no_pair)
same_in_order (n ∷ ns) _ _ (pair_more x x' xs xs' h r) = pair_more x x' (in_order xs ns) (in_order xs' ns) h (same_in_order ns xs xs' r)

same_by_name : (n : List ℕ) (cs cs' : List Connection) → Pairwise SameConnection cs cs' → SameValue (by_name cs n) (by_name cs' n)
same_by_name n _ _ no_pair = same_no_value
same_by_name n _ _ (pair_more c c' cs cs' h r) = by (bytes_eq n c.name.items) (bytes_eq n c'.name.items) (ap (bytes_eq n) h.name) (same_by_name n cs cs' r)
  where
    by : (p p' : Bool) → p ≡ p' → SameValue (by_name cs n) (by_name cs' n) → SameValue (cond p c.value (by_name cs n)) (cond p' c'.value (by_name cs' n))
    by true true i rest = h.value
    by true false i rest = absurd (true≢false i)
    by false true i rest = absurd (true≢false (sym i))
    by false false i rest = rest

same_by_names : (cs cs' : List Connection) → Pairwise SameConnection cs cs' → (ns : List (List ℕ)) → Pairwise SameValue (map (by_name cs) ns) (map (by_name cs') ns)
same_by_names cs cs' h [] = no_pair
same_by_names cs cs' h (n ∷ ns) = pair_more (by_name cs n) (by_name cs' n) (map (by_name cs) ns) (map (by_name cs') ns) (same_by_name n cs cs' h) (same_by_names cs cs' h ns)

pub same_ends : (c c' : Connections) (ns : List (List ℕ)) → SameConnections c c' → Pairwise SameValue (ends_of c ns) (ends_of c' ns)
same_ends _ _ ns (same_ordered x x' xs xs' h r) = same_in_order ns (in_text x xs.items) (in_text x' xs'.items) (same_in_text x x' xs.items xs'.items h r)
same_ends _ _ ns (same_named c c' cs cs' h r) = same_by_names (c ∷ cs.items) (c' ∷ cs'.items) (pair_more c c' cs.items cs'.items h r) ns

same_mismatch : (c c' : Connections) (ns : List (List ℕ)) → SameConnections c c' → is_mismatch c ns ≡ is_mismatch c' ns
same_mismatch _ _ ns (same_ordered x x' xs xs' h r) = ap (nat_lt (length ns)) (pair_length SameValue (in_text x xs.items) (in_text x' xs'.items) (same_in_text x x' xs.items xs'.items h r))
same_mismatch _ _ ns (same_named c c' cs cs' h r) =
    ap (λ given. has_twice given || has_other given ns) (pair_same SameConnection (λ (z : Connection). z.name.items) (λ z z' q. q.name) (c ∷ cs.items) (c' ∷ cs'.items) (pair_more c c' cs.items cs'.items h r))

-- ---- parameters

record SameParameter (p p' : Parameter) : Type 0 where
  fixed : p.fixed ≡ p'.fixed
  form : SameOption SameParameterForm p.form p'.form
  name : p.name ≡ p'.name
  value : SameExpr p.value p'.value

same_header : (a a' : Option ParameterForm) (ps ps' : List HeaderParameter) → SameOption SameParameterForm a a' → Pairwise SameHeaderParameter ps ps' → Pairwise SameParameter (header_parameters a ps) (header_parameters a' ps')
same_header a a' _ _ h no_pair = no_pair
same_header a a' _ _ h (pair_more p p' ps ps' i r) =
    let next = same_said SameParameterForm a a' p.form p'.form h i.form in
    pair_more _ _ (header_parameters (said a p.form) ps) (header_parameters (said a' p'.form) ps') (record { fixed = refl; form = next; name = i.name; value = i.value })
    (same_header (said a p.form) (said a' p'.form) ps ps' next r)

same_constants : (fixed : Bool) (f f' : ParameterForm) (xs xs' : List Constant) → SameParameterForm f f' → Pairwise SameConstant xs xs' → Pairwise SameParameter (map (item_parameter fixed f) xs) (map (item_parameter fixed f') xs')
same_constants fixed f f' xs xs' h r =
    pair_map SameConstant SameParameter (item_parameter fixed f) (item_parameter fixed f') (λ x x' i. record { fixed = refl; form = both_there f f' h; name = i.name; value = i.value }) xs xs' r

item_parameters : (x x' : Item) → SameItem x x' → Pairwise SameParameter (parameters_in x) (parameters_in x')
item_parameters _ _ (same_port_item f f' ns ns' g p) = no_pair
item_parameters _ _ (same_genvars ns ns' p) = no_pair
item_parameters _ _ (same_wire f f' ds ds' g p) = no_pair
item_parameters _ _ (same_reg f f' ds ds' g p) = no_pair
item_parameters _ _ (same_integer ds ds' p) = no_pair
item_parameters _ _ (same_parameters f f' xs xs' g p) = same_constants false f f' xs.items xs'.items g p
item_parameters _ _ (same_localparams f f' xs xs' g p) = same_constants true f f' xs.items xs'.items g p
item_parameters _ _ (same_instances n n' o o' xs xs' i g p) = no_pair
item_parameters _ _ (same_assigns xs xs' p) = no_pair
item_parameters _ _ (same_initial x x' p) = no_pair
item_parameters _ _ (same_always x x' p) = no_pair

piece_parameters_same : (x x' : Piece) → SamePiece x x' → Pairwise SameParameter (piece_parameters x) (piece_parameters x')
piece_parameters_same _ _ (plain_same x x' m) = item_parameters x x' m
piece_parameters_same _ _ (loop_same h h' x x' i m) = no_pair
piece_parameters_same _ _ (choice_same e e' x x' o o' i m r) = no_pair
piece_parameters_same _ _ (local_same x x' m) = no_pair
piece_parameters_same _ _ (inside_same b b' m) = no_pair
piece_parameters_same _ _ (net_same x) = no_pair

among_parameters : (xs xs' : List Piece) → Pairwise SamePiece xs xs' → Pairwise SameParameter (parameters_among xs) (parameters_among xs')
among_parameters xs xs' r = pair_flat SamePiece SameParameter piece_parameters piece_parameters_same xs xs' r

all_parameters : (m m' : Module) → SameModule m m' → Pairwise SameParameter (parameters_of m) (parameters_of m')
all_parameters m m' h =
    let xs = pieces_of m.items.items in
    let xs' = pieces_of m'.items.items in
    pair_append SameParameter (header_parameters None m.parameters.items) (header_parameters None m'.parameters.items) (parameters_among xs) (parameters_among xs')
    (same_header None None m.parameters.items m'.parameters.items both_absent h.parameters) (among_parameters xs xs' (same_pieces m m' h))

same_overridable : (ps ps' : List Parameter) → Pairwise SameParameter ps ps' → overridable ps ≡ overridable ps'
same_overridable _ _ no_pair = refl
same_overridable _ _ (pair_more p p' ps ps' h r) =
    ap (λ c. cond c (overridable ps) (p.name ∷ overridable ps)) h.fixed ∙ ap₂ (λ n ns. cond p'.fixed ns (n ∷ ns)) h.name (same_overridable ps ps' r)

abbrev SameGiven : Given → Given → Type 0
SameGiven g g' = SameParameter g.0 g'.0 × SameValue g.1 g'.1

same_first : (xs xs' : List (Option Expr)) → Pairwise SameValue xs xs' → SameValue (first_end xs) (first_end xs')
same_first _ _ no_pair = same_no_value
same_first _ _ (pair_more x x' xs xs' h r) = h

same_others : (xs xs' : List (Option Expr)) → Pairwise SameValue xs xs' → Pairwise SameValue (other_ends xs) (other_ends xs')
same_others _ _ no_pair = no_pair
same_others _ _ (pair_more x x' xs xs' h r) = r

same_given_from : (ps ps' : List Parameter) (xs xs' : List (Option Expr)) → Pairwise SameParameter ps ps' → Pairwise SameValue xs xs' → Pairwise SameGiven (given_from ps xs) (given_from ps' xs')
same_given_from _ _ xs xs' no_pair r = no_pair
same_given_from _ _ xs xs' (pair_more p p' ps ps' h k) r =
    by p.fixed p'.fixed h.fixed (same_given_from ps ps' xs xs' k r) (same_given_from ps ps' (other_ends xs) (other_ends xs') k (same_others xs xs' r))
  where
    by : (c c' : Bool) → c ≡ c' → Pairwise SameGiven (given_from ps xs) (given_from ps' xs') → Pairwise SameGiven (given_from ps (other_ends xs)) (given_from ps' (other_ends xs')) →
        Pairwise SameGiven (cond c ((p, None) ∷ given_from ps xs) ((p, first_end xs) ∷ given_from ps (other_ends xs))) (cond c' ((p', None) ∷ given_from ps' xs') ((p', first_end xs') ∷ given_from ps' (other_ends xs')))
    by true true i kept taken = pair_more (p, None) (p', None) (given_from ps xs) (given_from ps' xs') (h, same_no_value) kept
    by true false i kept taken = absurd (true≢false i)
    by false true i kept taken = absurd (true≢false (sym i))
    by false false i kept taken = pair_more (p, first_end xs) (p', first_end xs') (given_from ps (other_ends xs)) (given_from ps' (other_ends xs')) (h, same_first xs xs' r) taken

same_overriding : (o o' : Option Connections) (ps ps' : List Parameter) → SameOption SameConnections o o' → Pairwise SameParameter ps ps' → Pairwise SameValue (overriding o ps) (overriding o' ps')
same_overriding _ _ ps ps' both_absent r = no_pair
same_overriding _ _ ps ps' (both_there c c' h) r = subst (λ ns. Pairwise SameValue (ends_of c (overridable ps)) (ends_of c' ns)) (same_overridable ps ps' r) (same_ends c c' (overridable ps) h)

same_given : (o o' : Option Connections) (m m' : Module) → SameOption SameConnections o o' → SameModule m m' → Pairwise SameGiven (given_to o m) (given_to o' m')
same_given o o' m m' h k =
    let ps = all_parameters m m' k in
    same_given_from (parameters_of m) (parameters_of m') (overriding o (parameters_of m)) (overriding o' (parameters_of m')) ps (same_overriding o o' (parameters_of m) (parameters_of m') h ps)

same_override_mismatch : (o o' : Option Connections) (m m' : Module) → SameOption SameConnections o o' → SameModule m m' → is_override_mismatch o m ≡ is_override_mismatch o' m'
same_override_mismatch _ _ m m' both_absent k = refl
same_override_mismatch _ _ m m' (both_there c c' h) k =
    same_mismatch c c' (overridable (parameters_of m)) h ∙ ap (is_mismatch c') (same_overridable (parameters_of m) (parameters_of m') (all_parameters m m' k))

-- ---- values of parameters

vector_same : (env : Environment) (g g' : Bool) (o o' : Option Range) → g ≡ g' → SameRange o o' → vector_takes env g o ≡ vector_takes env g' o'
vector_same env g g' _ _ i same_no_range = ap the_size i
vector_same env g g' _ _ i (same_range r r' h k) = ap neither (ap (λ z. sized_as env z 0 (Some r)) i ∙ range_sizes env g' 0 (Some r) (Some r') (same_range r r' h k))

takes_same : (env : Environment) (o o' : Option ParameterForm) → SameOption SameParameterForm o o' → takes_by env o ≡ takes_by env o'
takes_same env _ _ both_absent = refl
takes_same env _ _ (both_there _ _ same_integer_word) = refl
takes_same env _ _ (both_there _ _ (same_vector f f' h)) = vector_same env f.signed f'.signed f.range f'.range h.signed h.range

meant_same : (around env : Environment) (p p' : Parameter) (o o' : Option Expr) → SameParameter p p' → SameValue o o' → given_meant around env (p, o) ≡ given_meant around env (p', o')
meant_same around env p p' _ _ h same_no_value = same_meant env p.value p'.value h.value
meant_same around env p p' _ _ h (same_value x x' k) = same_meant around x x' k

constant_same : (around env : Environment) (g g' : Given) → SameGiven g g' → constant_given around env g ≡ constant_given around env g'
constant_same around env (p, o) (p', o') h = ap₂ constant_by (takes_same env p.form p'.form h.0.form) (meant_same around env p p' o o' h.0 h.1)

own_fault_same : (w : WidthReason) (env : Environment) (p p' : Parameter) (o o' : Option Expr) → SameParameter p p' → SameValue o o' → own_fault w env (p, o) ≡ own_fault w env (p', o')
own_fault_same w env p p' _ _ h same_no_value = ap₂ (λ t m. takes_fault w t || has_width_fault w (constant_finding m)) (takes_same env p.form p'.form h.form) (same_meant env p.value p'.value h.value)
own_fault_same w env p p' _ _ h (same_value x x' k) = ap (takes_fault w) (takes_same env p.form p'.form h.form)

outer_fault_same : (w : WidthReason) (around : Environment) (p p' : Parameter) (o o' : Option Expr) → SameValue o o' → outer_fault w around (p, o) ≡ outer_fault w around (p', o')
outer_fault_same w around p p' _ _ same_no_value = refl
outer_fault_same w around p p' _ _ (same_value x x' k) = ap (λ (m : Meant). has_width_fault w (constant_finding m)) (same_meant around x x' k)

outer_faults_same : (w : WidthReason) (around : Environment) (gs gs' : List Given) → Pairwise SameGiven gs gs' → outer_faults w around gs ≡ outer_faults w around gs'
outer_faults_same w around _ _ no_pair = refl
outer_faults_same w around _ _ (pair_more (p, o) (p', o') gs gs' h r) = ap₂ (λ a c. a || c) (outer_fault_same w around p p' o o' h.1) (outer_faults_same w around gs gs' r)

-- names that are bound alike with two lists of parameters
with_given_same : (f f' : Given → Binding) → ((g g' : Given) → SameGiven g g' → f g ≡ f' g') → (env : Environment) (gs gs' : List Given) → Pairwise SameGiven gs gs' → with_given f gs env ≡ with_given f' gs' env
with_given_same f f' each env _ _ no_pair = fun_ext (λ n. refl)
with_given_same f f' each env _ _ (pair_more g g' gs gs' h r) =
    fun_ext (λ n. ap (λ z. cond (bytes_eq n z) (Some (f g)) (with_given f gs env n)) h.0.name ∙ ap (λ z. cond (bytes_eq n g'.0.name) (Some z) (with_given f gs env n)) (each g g' h)
    ∙ ap (cond (bytes_eq n g'.0.name) (Some (f' g'))) (ap (λ (z : Environment). z n) (with_given_same f f' each env gs gs' r)))

bound_same : (around env : Environment) (g g' : Given) → SameGiven g g' → bound_given around env g ≡ bound_given around env g'
bound_same around env (p, o) (p', o') h =
    ap₂ (λ t c. cond t b.Pending (b.Constant c))
    (ap any_fault (fun_ext (λ w. ap₂ (λ a c. a || c) (own_fault_same w env p p' o o' h.0 h.1) (outer_fault_same w around p p' o o' h.1))))
    (constant_same around env (p, o) (p', o') h)

blamed_same : (around env : Environment) (g g' : Given) → SameGiven g g' → blamed_given around env g ≡ blamed_given around env g'
blamed_same around env (p, o) (p', o') h =
    ap (λ a. cond a b.Pending (cond (any_fault (λ w. own_fault w env (p, o) || outer_fault w around (p, o))) b.Other (b.Constant (constant_given around env (p, o))))) (own_fault_same NotConstant env p p' o o' h.0 h.1)
    ∙ ap₂ (λ t c. cond (own_fault NotConstant env (p', o')) b.Pending (cond t b.Other (b.Constant c)))
    (ap any_fault (fun_ext (λ w. ap₂ (λ a c. a || c) (own_fault_same w env p p' o o' h.0 h.1) (outer_fault_same w around p p' o o' h.1))))
    (constant_same around env (p, o) (p', o') h)

after_same : (n : ℕ) (around env : Environment) (gs gs' : List Given) → Pairwise SameGiven gs gs' → known_after n around env gs ≡ known_after n around env gs'
after_same zero around env gs gs' r = with_given_same (λ g. b.Pending) (λ g. b.Pending) (λ g g' h. refl) env gs gs' r
after_same (suc n) around env gs gs' r =
    ap (λ z. with_given (bound_given around z) gs env) (after_same n around env gs gs' r)
    ∙ with_given_same (bound_given around (known_after n around env gs')) (bound_given around (known_after n around env gs')) (λ g g' h. bound_same around (known_after n around env gs') g g' h) env gs gs' r

known_same : (around env : Environment) (gs gs' : List Given) → Pairwise SameGiven gs gs' → known_in_module around env gs ≡ known_in_module around env gs'
known_same around env gs gs' r = ap (λ n. known_after n around env gs) (pair_length SameGiven gs gs' r) ∙ after_same (length gs') around env gs gs' r

blamed_after_same : (n : ℕ) (around env : Environment) (gs gs' : List Given) → Pairwise SameGiven gs gs' → blamed_after n around env gs ≡ blamed_after n around env gs'
blamed_after_same zero around env gs gs' r = with_given_same (λ g. b.Pending) (λ g. b.Pending) (λ g g' h. refl) env gs gs' r
blamed_after_same (suc n) around env gs gs' r =
    ap (λ z. with_given (blamed_given around z) gs env) (blamed_after_same n around env gs gs' r)
    ∙ with_given_same (blamed_given around (blamed_after n around env gs')) (blamed_given around (blamed_after n around env gs')) (λ g g' h. blamed_same around (blamed_after n around env gs') g g' h) env gs gs' r

known_for_same : (w : WidthReason) (around env : Environment) (gs gs' : List Given) → Pairwise SameGiven gs gs' → known_for w around env gs ≡ known_for w around env gs'
known_for_same TooWide around env gs gs' r = known_same around env gs gs' r
known_for_same Unknown around env gs gs' r = known_same around env gs gs' r
known_for_same NotConstant around env gs gs' r = ap (λ n. blamed_after n around env gs) (pair_length SameGiven gs gs' r) ∙ blamed_after_same (length gs') around env gs gs' r
known_for_same WrongKind around env gs gs' r = known_same around env gs gs' r

listed_same : (around env : Environment) (gs gs' : List Given) → Pairwise SameGiven gs gs' → map {B = List ℕ × Const} (λ (g : Given). (g.0.name, constant_given around env g)) gs ≡ map {B = List ℕ × Const} (λ (g : Given). (g.0.name, constant_given around env g)) gs'
listed_same around env gs gs' r =
    let one : Given → List ℕ × Const = λ g. (g.0.name, constant_given around env g) in
    pair_same SameGiven one (λ g g' h. ap₂ (λ (n : List ℕ) (c : Const). let t : List ℕ × Const = (n, c) in t) h.0.name (constant_same around env g g' h)) gs gs' r

constants_same : (around env : Environment) (gs gs' : List Given) → Pairwise SameGiven gs gs' → constants_of around env gs ≡ constants_of around env gs'
constants_same around env gs gs' r =
    ap (λ (z : Environment). map {B = List ℕ × Const} (λ (g : Given). (g.0.name, constant_given around z g)) gs) (known_same around env gs gs' r) ∙ listed_same around (known_in_module around env gs') gs gs' r

any_own_same : (w : WidthReason) (env : Environment) (gs gs' : List Given) → Pairwise SameGiven gs gs' → list_any (own_fault w env) gs ≡ list_any (own_fault w env) gs'
any_own_same w env _ _ no_pair = refl
any_own_same w env _ _ (pair_more (p, o) (p', o') gs gs' h r) = ap₂ (λ a c. a || c) (own_fault_same w env p p' o o' h.0 h.1) (any_own_same w env gs gs' r)

own_faults_same : (w : WidthReason) (around env : Environment) (gs gs' : List Given) → Pairwise SameGiven gs gs' → own_faults w around env gs ≡ own_faults w around env gs'
own_faults_same w around env gs gs' r = ap (λ (z : Environment). list_any (own_fault w z) gs) (known_for_same w around env gs gs' r) ∙ any_own_same w (known_for w around env gs') gs gs' r

early_names_same : (bound : SignalKind → Binding) (ps ps' : List Parameter) (qs qs' : List ModulePort) (xs xs' : List Piece) → Pairwise SameParameter ps ps' → Pairwise SameModulePort qs qs' → Pairwise SamePiece xs xs' →
    early_names bound ps qs xs ≡ early_names bound ps' qs' xs'
early_names_same bound ps ps' qs qs' xs xs' h k r =
    let parameters : pending_names ps ≡ pending_names ps' = pair_same SameParameter (λ (p : Parameter). (p.name, b.Pending)) (λ p p' i. ap (λ n. (n, b.Pending)) i.name) ps ps' h in
    let declared = ap₂ (λ (a c : List DeclaredName). a ++ c) (ports_declare (λ n. None) qs qs' k) (among_declares (λ n. None) xs xs' r) in
    let genvars = ap (bound_to b.Genvar) (same_genvar_names xs xs' r) in
    let others = ap (bound_to b.Other) (same_inner_names xs xs' r) in
    ap₂ (λ (a c : Bindings). a ++ c) (ap₂ (λ (a c : Bindings). a ++ c) (ap₂ (λ (a c : Bindings). a ++ c) parameters (ap (signal_names bound) declared)) genvars) others

pub same_text : (m m' : Module) → SameModule m m' → text_of m ≡ text_of m'
same_text m m' h =
    early_names_same unsized_of (parameters_of m) (parameters_of m') (ports_of m) (ports_of m') (pieces_of m.items.items) (pieces_of m'.items.items) (all_parameters m m' h) (same_ports m m' h) (same_pieces m m' h)

same_early : (m m' : Module) → SameModule m m' → early m ≡ early m'
same_early m m' h =
    ap (λ names. outward names nowhere) (
    early_names_same valueless_of (parameters_of m) (parameters_of m') (ports_of m) (ports_of m') (pieces_of m.items.items) (pieces_of m'.items.items) (all_parameters m m' h) (same_ports m m' h) (same_pieces m m' h)
    )

-- ---- modules that are instantiated

module _ (around : Environment) (o o' : Option Connections) (m m' : Module) (h : SameOption SameConnections o o') (k : SameModule m m') where
  pub same_known : known_in_module around (early m) (given_to o m) ≡ known_in_module around (early m') (given_to o' m')
  same_known = ap (λ env. known_in_module around env (given_to o m)) (same_early m m' k) ∙ known_same around (early m') (given_to o m) (given_to o' m') (same_given o o' m m' h k)

  pub same_values : constants_of around (early m) (given_to o m) ≡ constants_of around (early m') (given_to o' m')
  same_values = ap (λ env. constants_of around env (given_to o m)) (same_early m m' k) ∙ constants_same around (early m') (given_to o m) (given_to o' m') (same_given o o' m m' h k)

  faults_same : (w : WidthReason) → (own_faults w around (early m) (given_to o m) || outer_faults w around (given_to o m)) ≡ (own_faults w around (early m') (given_to o' m') || outer_faults w around (given_to o' m'))
  faults_same w =
      let gs = same_given o o' m m' h k in
      ap (λ env. own_faults w around env (given_to o m) || outer_faults w around (given_to o m)) (same_early m m' k)
      ∙ ap₂ (λ a c. a || c) (own_faults_same w around (early m') (given_to o m) (given_to o' m') gs) (outer_faults_same w around (given_to o m) (given_to o' m') gs)

  pub same_no_values : has_no_values around o m ≡ has_no_values around o' m'
  same_no_values = ap₂ (λ a c. a || c) (same_override_mismatch o o' m m' h k) (ap any_fault (fun_ext faults_same))

-- ---- blocks

module _ (s s' : Scope) (environments : environment s ≡ environment s') (cs : List (List ℕ × Const)) (ps ps' : List Piece) (h : Pairwise SamePiece ps ps') where
  same_block_given : Pairwise SameGiven (block_given ps) (block_given ps')
  same_block_given = same_given_from (parameters_among ps) (parameters_among ps') [] [] (among_parameters ps ps' h) no_pair

  same_early_names : (bound : SignalKind → Binding) → early_names bound (parameters_among ps) [] ps ≡ early_names bound (parameters_among ps') [] ps'
  same_early_names bound = early_names_same bound (parameters_among ps) (parameters_among ps') [] [] ps ps' (among_parameters ps ps' h) no_pair h

  pub same_block_text : block_text cs ps ≡ block_text cs ps'
  same_block_text = ap (λ (z : Bindings). z ++ constant_names cs) (same_early_names unsized_of)

  same_early_block : early_block s cs ps ≡ early_block s' cs ps'
  same_early_block = ap₂ (λ names env. with_constants (outward names env) cs) (same_early_names valueless_of) environments

  pub same_block_known : known_in_module nowhere (early_block s cs ps) (block_given ps) ≡ known_in_module nowhere (early_block s' cs ps') (block_given ps')
  same_block_known =
      ap (λ env. known_in_module nowhere env (block_given ps)) same_early_block ∙ known_same nowhere (early_block s' cs ps') (block_given ps) (block_given ps') same_block_given

  pub same_block_values : constants_of nowhere (early_block s cs ps) (block_given ps) ≡ constants_of nowhere (early_block s' cs ps') (block_given ps')
  same_block_values =
      ap (λ env. constants_of nowhere env (block_given ps)) same_early_block ∙ constants_same nowhere (early_block s' cs ps') (block_given ps) (block_given ps') same_block_given

  block_fault_same : (w : WidthReason) → block_fault s cs ps w ≡ block_fault s' cs ps' w
  block_fault_same w =
      ap (λ env. own_faults w nowhere env (block_given ps)) same_early_block ∙ own_faults_same w nowhere (early_block s' cs ps') (block_given ps) (block_given ps') same_block_given

  pub same_block_fault : any_fault (block_fault s cs ps) ≡ any_fault (block_fault s' cs ps')
  same_block_fault = ap any_fault (fun_ext block_fault_same)
