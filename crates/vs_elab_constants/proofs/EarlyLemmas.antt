-- Names before the values of parameters are known.
use Rattle.std.proofs.Common.{◌≡◌, ℕ, ◌+◌, ◌<◌, ◌≤◌, ◌^◌, Bool, true, false, ◌||◌, cond, List, [], ◌∷◌, ◌++◌, Some, None, length, map, take, get_or, refl, ap, sym, subst, ◌∙◌, Bor}
use Rattle.std.specs.List.{flat_map, list_any}
use Rattle.std.specs.Str.{bytes_eq}
use Rattle.std.proofs.lemmas.Slice.Eq.{bytes_eq-Decides}
use Rattle.std.proofs.lemmas.List.{append-nil, map-append, get_or_default}
use Rattle.std.proofs.lemmas.List.Concat.{flat_map-append}
use Rattle.std.specs.declared.vec.Vec.{Vec}
use Rattle.std.specs.declared.alloc.Global.{Global}
use Rattle.vs_syntax.specs.declared.tree.Declarator.{Declarator}
use Rattle.vs_syntax.specs.declared.tree.Form.{Form}
use Rattle.vs_syntax.specs.declared.tree.Item.{Item}
use Rattle.vs_syntax.specs.declared.tree.Item.TheVariants as t
use Rattle.vs_syntax.specs.declared.tree.LocalDeclaration.{LocalDeclaration}
use Rattle.vs_scopes.specs.declared.scope.ScopePiece.{ScopePiece as FoundPiece}
use Rattle.vs_scopes.specs.declared.scope.ScopePiece.TheVariants as p
use Rattle.vs_scopes.specs.Reads.{read_piece}
use Rattle.vs_design.specs.declared.signal.SignalKind.{SignalKind}
use Rattle.vs_scopes.specs.Pieces.{Piece}
use Rattle.vs_scopes.specs.vs_widths.specs.declared.bindings.Meaning.{Meaning}
use Rattle.vs_scopes.specs.vs_widths.specs.declared.bindings.Binding.{Binding}
use Rattle.vs_scopes.specs.vs_widths.specs.declared.bindings.Binding.TheVariants.{Signal, Genvar, Other}
use Rattle.vs_widths.specs.Names.{meaning_of}
use Rattle.vs_scopes.specs.Parameters.{Parameter}
use Rattle.vs_scopes.specs.Ports.{ModulePort}
use Rattle.vs_scopes.specs.Declarations.{Bindings, DeclaredName, declared_by_port, declared_by_item, declared_in, declared_among, scalar, unsized_of, signal_names, pending_names, bound_to, each_once, genvars_in, inner_names_among}
use Rattle.vs_scopes.specs.scopes_passes.Answers.{borrowed}
use Rattle.vs_scopes.specs.scopes_passes.Declared.{first_of, AddsNames}
use Rattle.vs_scopes.proofs.DeclaredLemmas.{first_none, adds_then, adds_step}
use Rattle.vs_scopes.proofs.PassLemmas.{maps_two}
use Rattle.vs_scopes.proofs.SizeLemmas.{shape_is, meaning_is}
use Rattle.vs_elab_constants.specs.passes.Early.{AreEarly}

-- what a signal's name is bound to, whatever shows that it has a size and a word
pub unsized_is : (kind : SignalKind) (h : (0 < 1) × (1 ≤ 64)) (k : (0 < 1) × (1 ≤ 2 ^ 16)) →
    Signal (record { kind = kind; shape = record { width = 1; signed = false; sized = h }; bits = None; words = None; count = 1; counted = k }) 0 ≡ unsized_of kind
unsized_is kind h k =
    let P : Meaning → Binding = λ z. Signal z 0 in
    ap P (meaning_is kind (record { width = 1; signed = false; sized = h }) scalar None None None None 1 1 k _ (shape_is 1 1 false h scalar.sized refl) refl refl refl)

-- names that are added behind others, bound alike
pub adds_both : (a b c : Bindings) (x : Binding) (ms ns : List (List ℕ)) → AddsNames a b (bound_to x ms) → AddsNames b c (bound_to x ns) → AddsNames a c (bound_to x (ms ++ ns))
adds_both a b c x ms ns h k = subst (AddsNames a c) (sym (map-append (λ (n : List ℕ). (n, x)) ms ns)) (adds_then a b c (bound_to x ms) (bound_to x ns) h k)

-- names of scopes, with one more of them
pub names_step : (xs : List (Bor (List ℕ))) (i : ℕ) (d : Bor (List ℕ)) (a b c : Bindings) → i < length xs → AddsNames b c (((get_or xs i d).now, Other) ∷ []) → AddsNames a b (bound_to Other (borrowed (take i xs))) → AddsNames a c (bound_to Other (borrowed (take (i + 1) xs)))
names_step xs i d a b c h one before =
    let x : Bor (List ℕ) = get_or xs i d in
    adds_step a b c xs i x (λ (zs : List (Bor (List ℕ))). bound_to Other (borrowed zs)) ((x.now, Other) ∷ []) h (get_or_default xs i d x h) (maps_two (λ (n : Bor (List ℕ)). n.now) (λ (n : List ℕ). (n, Other)) x) before one

-- what f gives of a list that is read, with one more element
pub maps_read : {A B C D : Type 0} (r : A → B) (f : B → List C) (g : C → D) (x : A) (ys : List A) → map g (flat_map f (map r (ys ++ x ∷ []))) ≡ map g (flat_map f (map r ys)) ++ map g (f (r x))
maps_read r f g x ys =
    ap (λ z. map g (flat_map f z)) (map-append r ys (x ∷ [])) ∙ ap (map g) (flat_map-append f (map r ys) (r x ∷ []) ∙ ap (λ z. flat_map f (map r ys) ++ z) (append-nil (f (r x)))) ∙ map-append g (flat_map f (map r ys)) (f (r x))

-- ---- names, each once

meaning_bound : (x : Binding) (ns : List (List ℕ)) (n : List ℕ) → meaning_of (bound_to x ns) n ≡ cond (list_any (bytes_eq n) ns) (Some x) None
meaning_bound x [] n = refl
meaning_bound x (m ∷ ms) n = by (bytes_eq n m) (meaning_bound x ms n)
  where
    by : (t : Bool) → meaning_of (bound_to x ms) n ≡ cond (list_any (bytes_eq n) ms) (Some x) None → cond t (Some x) (meaning_of (bound_to x ms) n) ≡ cond (t || list_any (bytes_eq n) ms) (Some x) None
    by true h = refl
    by false h = h

any_once : (ns : List (List ℕ)) (n : List ℕ) → list_any (bytes_eq n) (each_once ns) ≡ list_any (bytes_eq n) ns
any_once [] n = refl
any_once (m ∷ ms) n = by (list_any (bytes_eq m) ms) refl (any_once ms n)
  where
    same : (t : Bool) → bytes_eq n m ≡ t → list_any (bytes_eq m) ms ≡ true → list_any (bytes_eq n) ms ≡ (t || list_any (bytes_eq n) ms)
    same true e h = ap (λ z. list_any (bytes_eq z) ms) ((bytes_eq-Decides n m).0 e) ∙ h
    same false e h = refl

    by : (t : Bool) → list_any (bytes_eq m) ms ≡ t → list_any (bytes_eq n) (each_once ms) ≡ list_any (bytes_eq n) ms → list_any (bytes_eq n) (cond t (each_once ms) (m ∷ each_once ms)) ≡ (bytes_eq n m || list_any (bytes_eq n) ms)
    by true h rest = rest ∙ same (bytes_eq n m) refl h
    by false h rest = ap (λ z. bytes_eq n m || z) rest

-- names that are added, each once
pub adds_once : (a b : Bindings) (x : Binding) (ns : List (List ℕ)) → AddsNames a b (bound_to x ns) → AddsNames a b (bound_to x (each_once ns))
adds_once a b x ns h n =
    h n ∙ ap (first_of (meaning_of a n)) (meaning_bound x ns n ∙ ap (λ t. cond t (Some x) None) (sym (any_once ns n)) ∙ sym (meaning_bound x (each_once ns) n))

-- names of parameters, ports, signals, genvars and inner scopes behind one another
pub early_is : (bound : SignalKind → Binding) (xs : List Parameter) (ports : List ModulePort) (ps : List Piece) (a b c d e f : Bindings) → a ≡ [] → AddsNames a b (pending_names xs) → AddsNames b c (signal_names bound (map (declared_by_port (λ n. None)) ports)) →
    AddsNames c d (signal_names bound (declared_among (λ n. None) ps)) → AddsNames d e (bound_to Genvar (flat_map genvars_in ps)) → AddsNames e f (bound_to Other (inner_names_among ps)) → AreEarly bound xs ports ps f
early_is bound xs ports ps a b c d e f empty p q s g i n =
    let first : List DeclaredName = map (declared_by_port (λ n. None)) ports in
    let signals : List DeclaredName = declared_among (λ n. None) ps in
    let genvars : Bindings = bound_to Genvar (flat_map genvars_in ps) in
    let inner : Bindings = bound_to Other (inner_names_among ps) in
    let both : AddsNames b d (signal_names bound (first ++ signals)) = subst (AddsNames b d) (sym (map-append (λ (x : DeclaredName). (x.name, bound x.kind)) first signals)) (adds_then b c d (signal_names bound first) (signal_names bound signals) q s) in
    let some : AddsNames a d (pending_names xs ++ signal_names bound (first ++ signals)) = adds_then a b d (pending_names xs) (signal_names bound (first ++ signals)) p both in
    let more : AddsNames a e ((pending_names xs ++ signal_names bound (first ++ signals)) ++ genvars) = adds_then a d e (pending_names xs ++ signal_names bound (first ++ signals)) genvars some g in
    let all : AddsNames a f (((pending_names xs ++ signal_names bound (first ++ signals)) ++ genvars) ++ inner) = adds_then a e f ((pending_names xs ++ signal_names bound (first ++ signals)) ++ genvars) inner more i in
    all n ∙ ap (λ z. first_of (meaning_of z n) (meaning_of (((pending_names xs ++ signal_names bound (first ++ signals)) ++ genvars) ++ inner) n)) empty

-- ---- what declares nothing

pub adds_none : (a bs : Bindings) → bs ≡ [] → AddsNames a a bs
adds_none a bs e n = sym (ap (λ z. first_of (meaning_of a n) (meaning_of z n)) e ∙ first_none (meaning_of a n))

pub quiet_item : (bound : SignalKind → Binding) (x : Item) → ((f : Form) (ds : Vec Declarator Global) → x ≡ t.Wire f ds → ⊥) → ((f : Form) (ds : Vec Declarator Global) → x ≡ t.Reg f ds → ⊥) → ((ds : Vec Declarator Global) → x ≡ t.Integer ds → ⊥) → signal_names bound (declared_by_item (λ n. None) x) ≡ []
quiet_item bound (t.Wire f ds) a b c = absurd (a f ds refl)
quiet_item bound (t.Reg f ds) a b c = absurd (b f ds refl)
quiet_item bound (t.Integer ds) a b c = absurd (c ds refl)
quiet_item bound _ a b c = refl

pub quiet_signals : (bound : SignalKind → Binding) (x : FoundPiece) → ((i : Bor Item) → x ≡ p.Plain i → ⊥) → ((d : Bor LocalDeclaration) → x ≡ p.Local d → ⊥) → ((n : Bor (List ℕ)) → x ≡ p.Net n → ⊥) → signal_names bound (declared_in (λ n. None) (read_piece x)) ≡ []
quiet_signals bound (p.Plain i) a b c = absurd (a i refl)
quiet_signals bound (p.Local d) a b c = absurd (b d refl)
quiet_signals bound (p.Net n) a b c = absurd (c n refl)
quiet_signals bound _ a b c = refl
