-- Names that are added where they aren't there, and what the first of some pieces says of a name.
use Rattle.std.proofs.Common.{◌≡◌, ℕ, ◌+◌, ◌<◌, ◌≤◌, Bool, true, false, true≢false, ◌||◌, cond, is_some, List, [], ◌∷◌, ◌++◌, Option, Some, None, option_map, length, map, take, get_or, refl, ap, sym, subst, ◌∙◌, Bor}
use Rattle.std.specs.Str.{bytes_eq}
use Rattle.std.specs.declared.vec.Vec.{Vec}
use Rattle.std.specs.declared.alloc.Global.{Global}
use Rattle.std.proofs.lemmas.Slice.Eq.{bytes_eq-Decides}
use Rattle.std.proofs.lemmas.List.{take_all, map-append}
use Rattle.vs_syntax.specs.declared.tree.Declarator.{Declarator}
use Rattle.vs_syntax.specs.declared.tree.Form.{Form}
use Rattle.vs_syntax.specs.declared.tree.Item.{Item}
use Rattle.vs_syntax.specs.declared.tree.PortForm.{PortForm}
use Rattle.vs_design.specs.declared.signal.SignalKind.{SignalKind}
use Rattle.vs_scopes.specs.Pieces.{Piece}
use Rattle.vs_scopes.specs.Reads.{read_piece}
use Rattle.vs_scopes.specs.declared.scope.ScopePiece.{ScopePiece as FoundPiece}
use Rattle.vs_scopes.specs.declared.scope.ScopePiece.TheVariants as pieces
use Rattle.vs_scopes.specs.vs_widths.specs.Names.{meaning_of, Declares}
use Rattle.vs_scopes.specs.Parameters.{said}
use Rattle.vs_scopes.specs.Ports.{is_among, said_in, port_said, KindSaid, kind_among, kind_in, kind_said}
use Rattle.vs_scopes.specs.declared.declared.KindSaid.{KindSaid as FoundSaid}
use Rattle.vs_scopes.specs.scopes_passes.Parts.{read_end}
use Rattle.vs_scopes.specs.scopes_passes.Declared.{first_of, AddsNames, said_by, read_kind, read_said}
use Rattle.vs_design.specs.vs_logic4.proofs.Basics.{take_push}
pub use Rattle.vs_scopes.proofs.ConnectionLemmas.{bytes_eq-sym}

pub first_none : {A : Type 0} (o : Option A) → first_of o None ≡ o
first_none None = refl
first_none (Some x) = refl

pub first_assoc : {A : Type 0} (o p q : Option A) → first_of (first_of o p) q ≡ first_of o (first_of p q)
first_assoc None p q = refl
first_assoc (Some x) p q = refl

pub meaning_of-append : {V : Type 0} (xs ys : List (List ℕ × V)) (n : List ℕ) → meaning_of (xs ++ ys) n ≡ first_of (meaning_of xs n) (meaning_of ys n)
meaning_of-append [] ys n = refl
meaning_of-append (x ∷ xs) ys n = by (bytes_eq n x.0) (meaning_of-append xs ys n)
  where
    by : (t : Bool) → meaning_of (xs ++ ys) n ≡ first_of (meaning_of xs n) (meaning_of ys n) → cond t (Some x.1) (meaning_of (xs ++ ys) n) ≡ first_of (cond t (Some x.1) (meaning_of xs n)) (meaning_of ys n)
    by true rest = refl
    by false rest = rest

pub adds_nothing : {V : Type 0} (names : List (List ℕ × V)) → AddsNames names names []
adds_nothing names n = sym (first_none (meaning_of names n))

pub adds_then : {V : Type 0} (a b c xs ys : List (List ℕ × V)) → AddsNames a b xs → AddsNames b c ys → AddsNames a c (xs ++ ys)
adds_then a b c xs ys h k n =
    k n ∙ ap (λ o. first_of o (meaning_of ys n)) (h n) ∙ first_assoc (meaning_of a n) (meaning_of xs n) (meaning_of ys n) ∙ ap (first_of (meaning_of a n)) (sym (meaning_of-append xs ys n))

-- a fresh name
pub adds_fresh : {V : Type 0} (old new : List (List ℕ × V)) (m : List ℕ) (b : V) → Declares true old new m b → AddsNames old new ((m, b) ∷ [])
adds_fresh old new m b h n = h.1 n ∙ by (bytes_eq n m) refl
  where
    by : (t : Bool) → bytes_eq n m ≡ t → cond (bytes_eq m n) (Some b) (meaning_of old n) ≡ first_of (meaning_of old n) (cond t (Some b) None)
    by true e =
        let same : n ≡ m = (bytes_eq-Decides n m).0 e in
        let none : meaning_of old n ≡ None = ap (meaning_of old) same ∙ h.0 in
        ap (λ t. cond t (Some b) (meaning_of old n)) (bytes_eq-sym m n ∙ e) ∙ sym (ap (λ o. first_of o (Some b)) none)
    by false e = ap (λ t. cond t (Some b) (meaning_of old n)) (bytes_eq-sym m n ∙ e) ∙ sym (first_none (meaning_of old n))

-- a name that was declared where it was not there
pub adds_declared : {V : Type 0} (old new : List (List ℕ × V)) (m : List ℕ) (b : V) (fresh : Bool) → is_some (meaning_of old m) ≡ false → Declares fresh old new m b → AddsNames old new ((m, b) ∷ [])
adds_declared old new m b true h k = adds_fresh old new m b k
adds_declared old new m b false h k = absurd (true≢false (sym k ∙ h))

-- a name that is there already
pub adds_known : {V : Type 0} (names : List (List ℕ × V)) (m : List ℕ) (b : V) → is_some (meaning_of names m) ≡ true → AddsNames names names ((m, b) ∷ [])
adds_known names m b h n = by (bytes_eq n m) refl
  where
    some : {A : Type 0} (o p : Option A) → is_some o ≡ true → o ≡ first_of o p
    some None p k = absurd (true≢false (sym k))
    some (Some x) p k = refl

    by : (t : Bool) → bytes_eq n m ≡ t → meaning_of names n ≡ first_of (meaning_of names n) (cond t (Some b) None)
    by true e = some (meaning_of names n) (Some b) (ap (λ z. is_some (meaning_of names z)) ((bytes_eq-Decides n m).0 e) ∙ h)
    by false e = sym (first_none (meaning_of names n))

module _ {V X : Type 0} (a b c : List (List ℕ × V)) (xs : List X) (i : ℕ) (x : X) (g : List X → List (List ℕ × V)) (new : List (List ℕ × V)) where
  -- names of one element more
  pub adds_step : i < length xs → x ≡ get_or xs i x → ((ys : List X) → g (ys ++ x ∷ []) ≡ g ys ++ new) → AddsNames a b (g (take i xs)) → AddsNames b c new → AddsNames a c (g (take (i + 1) xs))
  adds_step h k e p q = subst (AddsNames a c) (sym (ap g (take_push xs i x h k) ∙ e (take i xs))) (adds_then a b c (g (take i xs)) new p q)

-- names of all elements
pub adds_all : {V X : Type 0} (a b : List (List ℕ × V)) (xs : List X) (i : ℕ) (g : List X → List (List ℕ × V)) → length xs ≤ i → AddsNames a b (g (take i xs)) → AddsNames a b (g xs)
adds_all a b xs i g h p = subst (λ l. AddsNames a b (g l)) (take_all i xs h) p

-- ---- what is said first

pub first_map : {A B : Type 0} (f : A → B) (o p : Option A) → option_map f (first_of o p) ≡ first_of (option_map f o) (option_map f p)
first_map f None p = refl
first_map f (Some x) p = refl

pub said_first : {A : Type 0} (o p : Option A) → said p o ≡ first_of o p
said_first None p = refl
said_first (Some x) p = refl

module _ {A : Type 0} (here : Piece → List ℕ → Option A) (all : List Piece → List ℕ → Option A)
    (none : (n : List ℕ) → all [] n ≡ None) (more : (p : Piece) (ps : List Piece) (n : List ℕ) → all (p ∷ ps) n ≡ said (all ps n) (here p n)) where
  said_push : (ps : List Piece) (p : Piece) (n : List ℕ) → all (ps ++ p ∷ []) n ≡ first_of (all ps n) (here p n)
  said_push [] p n = more p [] n ∙ ap (λ z. said z (here p n)) (none n) ∙ said_first (here p n) None ∙ first_none (here p n) ∙ sym (ap (λ z. first_of z (here p n)) (none n))
  said_push (q ∷ qs) p n =
      more q (qs ++ p ∷ []) n ∙ said_first (here q n) (all (qs ++ p ∷ []) n) ∙ ap (first_of (here q n)) (said_push qs p n) ∙ sym (first_assoc (here q n) (all qs n) (here p n))
      ∙ ap (λ z. first_of z (here p n)) (sym (said_first (here q n) (all qs n)) ∙ sym (more q qs n))

  -- what pieces say with one more of them
  pub said_step : {X : Type 0} (f : X → Piece) (xs : List X) (i : ℕ) (x : X) (n : List ℕ) (old new : Option A) → i < length xs → x ≡ get_or xs i x → old ≡ all (map f (take i xs)) n →
      new ≡ first_of old (here (f x) n) → new ≡ all (map f (take (i + 1) xs)) n
  said_step f xs i x n old new h k e g =
      g ∙ ap (λ z. first_of z (here (f x) n)) e ∙ sym (said_push (map f (take i xs)) (f x) n) ∙ ap (λ z. all z n) (sym (ap (map f) (take_push xs i x h k) ∙ map-append f (take i xs) (x ∷ [])))

pub port_said_step : {X : Type 0} (f : X → Piece) (xs : List X) (i : ℕ) (x : X) (n : List ℕ) (old new : Option PortForm) → i < length xs → x ≡ get_or xs i x → old ≡ port_said (map f (take i xs)) n →
    new ≡ first_of old (said_in (f x) n) → new ≡ port_said (map f (take (i + 1) xs)) n
port_said_step = said_step said_in port_said (λ n. refl) (λ p ps n. refl)

pub kind_said_step : {X : Type 0} (f : X → Piece) (xs : List X) (i : ℕ) (x : X) (n : List ℕ) (old new : Option KindSaid) → i < length xs → x ≡ get_or xs i x → old ≡ kind_said (map f (take i xs)) n →
    new ≡ first_of old (kind_in (f x) n) → new ≡ kind_said (map f (take (i + 1) xs)) n
kind_said_step = said_step kind_in kind_said (λ n. refl) (λ p ps n. refl)

-- other pieces than items say nothing of a name
no_port : (x : FoundPiece) (n : List ℕ) → ((i : Bor Item) → x ≡ pieces.Plain i → ⊥) → said_in (read_piece x) n ≡ None
no_port (pieces.Plain i) n h = absurd (h i refl)
no_port _ n h = refl

pub no_ports : (x : FoundPiece) (n : List ℕ) (old : Option PortForm) → ((i : Bor Item) → x ≡ pieces.Plain i → ⊥) → old ≡ first_of old (said_in (read_piece x) n)
no_ports x n old h = sym (ap (first_of old) (no_port x n h) ∙ first_none old)

no_kind : (x : FoundPiece) (n : List ℕ) → ((i : Bor Item) → x ≡ pieces.Plain i → ⊥) → kind_in (read_piece x) n ≡ None
no_kind (pieces.Plain i) n h = absurd (h i refl)
no_kind _ n h = refl

pub no_kinds : (x : FoundPiece) (n : List ℕ) (old : Option KindSaid) → ((i : Bor Item) → x ≡ pieces.Plain i → ⊥) → old ≡ first_of old (kind_in (read_piece x) n)
no_kinds x n old h = sym (ap (first_of old) (no_kind x n h) ∙ first_none old)

-- what an item says of one of its ports
among_push : (ns : List (Vec ℕ Global)) (m : Vec ℕ Global) (form : PortForm) (n : List ℕ) → said_by form (ns ++ m ∷ []) n ≡ first_of (said_by form ns n) (said_by form (m ∷ []) n)
among_push [] m form n = refl
among_push (k ∷ ks) m form n = by (bytes_eq n k.items) (among_push ks m form n)
  where
    by : (t : Bool) → said_by form (ks ++ m ∷ []) n ≡ first_of (said_by form ks n) (said_by form (m ∷ []) n) →
        cond (t || is_among n (ks ++ m ∷ [])) (Some form) None ≡ first_of (cond (t || is_among n ks) (Some form) None) (said_by form (m ∷ []) n)
    by true h = refl
    by false h = h

pub forms_step : (form : PortForm) (ns : List (Vec ℕ Global)) (i : ℕ) (m : Vec ℕ Global) (x : Bor PortForm) (first old new : List (List ℕ × Bor PortForm)) → i < length ns → m ≡ get_or ns i m → x.now ≡ form →
    AddsNames old new ((m.items, x) ∷ []) → ((n : List ℕ) → read_end (meaning_of old n) ≡ first_of (read_end (meaning_of first n)) (said_by form (take i ns) n)) → (n : List ℕ) →
    read_end (meaning_of new n) ≡ first_of (read_end (meaning_of first n)) (said_by form (take (i + 1) ns) n)
forms_step form ns i m x first old new h k is adds before n =
    let one : read_end (cond (bytes_eq n m.items) (Some x) None) ≡ said_by form (m ∷ []) n = by (bytes_eq n m.items) in
    ap read_end (adds n) ∙ first_map (λ (z : Bor PortForm). z.now) (meaning_of old n) (cond (bytes_eq n m.items) (Some x) None) ∙ ap (λ z. first_of z (read_end (cond (bytes_eq n m.items) (Some x) None))) (before n)
    ∙ first_assoc (read_end (meaning_of first n)) (said_by form (take i ns) n) (read_end (cond (bytes_eq n m.items) (Some x) None))
    ∙ ap (first_of (read_end (meaning_of first n))) (ap (first_of (said_by form (take i ns) n)) one ∙ sym (among_push (take i ns) m form n) ∙ ap (λ z. said_by form z n) (sym (take_push ns i m h k)))
  where
    by : (t : Bool) → read_end (cond t (Some x) None) ≡ cond (t || false) (Some form) None
    by true = ap Some is
    by false = refl

-- what a declaration says of one of its names
kind_push : (kind : SignalKind) (f : Form) (ds : List Declarator) (d : Declarator) (n : List ℕ) → kind_among kind f (ds ++ d ∷ []) n ≡ first_of (kind_among kind f ds n) (kind_among kind f (d ∷ []) n)
kind_push kind f [] d n = refl
kind_push kind f (e ∷ es) d n = by (bytes_eq n e.name.items) (kind_push kind f es d n)
  where
    x : KindSaid
    x = record { kind = kind; form = f; words = e.words }

    by : (t : Bool) → kind_among kind f (es ++ d ∷ []) n ≡ first_of (kind_among kind f es n) (kind_among kind f (d ∷ []) n) →
        cond t (Some x) (kind_among kind f (es ++ d ∷ []) n) ≡ first_of (cond t (Some x) (kind_among kind f es n)) (kind_among kind f (d ∷ []) n)
    by true h = refl
    by false h = h

pub kinds_step : (kind : SignalKind) (f : Form) (ds : List Declarator) (i : ℕ) (d : Declarator) (x : FoundSaid) (first old new : List (List ℕ × FoundSaid)) → i < length ds → d ≡ get_or ds i d →
    read_kind x ≡ record { kind = kind; form = f; words = d.words } → AddsNames old new ((d.name.items, x) ∷ []) →
    ((n : List ℕ) → read_said (meaning_of old n) ≡ first_of (read_said (meaning_of first n)) (kind_among kind f (take i ds) n)) → (n : List ℕ) →
    read_said (meaning_of new n) ≡ first_of (read_said (meaning_of first n)) (kind_among kind f (take (i + 1) ds) n)
kinds_step kind f ds i d x first old new h k is adds before n =
    let one : read_said (cond (bytes_eq n d.name.items) (Some x) None) ≡ kind_among kind f (d ∷ []) n = by (bytes_eq n d.name.items) in
    ap read_said (adds n) ∙ first_map read_kind (meaning_of old n) (cond (bytes_eq n d.name.items) (Some x) None) ∙ ap (λ z. first_of z (read_said (cond (bytes_eq n d.name.items) (Some x) None))) (before n)
    ∙ first_assoc (read_said (meaning_of first n)) (kind_among kind f (take i ds) n) (read_said (cond (bytes_eq n d.name.items) (Some x) None))
    ∙ ap (first_of (read_said (meaning_of first n))) (ap (first_of (kind_among kind f (take i ds) n)) one ∙ sym (kind_push kind f (take i ds) d n) ∙ ap (λ z. kind_among kind f z n) (sym (take_push ds i d h k)))
  where
    by : (t : Bool) → read_said (cond t (Some x) None) ≡ cond t (Some (record { kind = kind; form = f; words = d.words })) None
    by true = ap Some is
    by false = refl
