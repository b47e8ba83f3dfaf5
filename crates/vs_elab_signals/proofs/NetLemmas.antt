-- Implicit nets among pieces.
use Rattle.std.proofs.Common.{◌≡◌, ℕ, ◌+◌, ◌<◌, ◌≤◌, Bool, true, false, ◌||◌, cond, is_some, List, [], ◌∷◌, ◌++◌, length, map, take, drop, get_or, refl, ap, sym, subst, ◌∙◌, append_assoc}
use Rattle.std.proofs.Math.Path.{fun_ext}
use Rattle.std.specs.List.{list_any, flat_map}
use Rattle.std.specs.Str.{bytes_eq}
use Rattle.std.proofs.lemmas.List.{append-nil, map-append, take_more, drop_more, drop_all}
use Rattle.std.proofs.lemmas.List.Folds.{list_any-append}
use Rattle.std.proofs.lemmas.Slice.Eq.{bytes_eq-Decides}
use Rattle.vs_syntax.specs.vs_lexer.specs.declared.token.Directive.{Directive}
use Rattle.vs_elab_constants.specs.vs_widths.specs.Names.{meaning_of, Binds}
use Rattle.vs_elab_signals.specs.vs_scopes.specs.Pieces.{Piece, net}
use Rattle.vs_elab_signals.specs.vs_scopes.specs.Uses.{names_used}
use Rattle.vs_elab_signals.specs.vs_scopes.specs.Reads.{read_piece}
use Rattle.vs_elab_signals.specs.vs_scopes.specs.declared.scope.ScopePiece.{ScopePiece as FoundPiece}
use Rattle.vs_elab_signals.specs.vs_scopes.specs.declared.scope.ScopePiece.TheVariants.{Net}
use Rattle.std.specs.Borrow.{Bor}
use Rattle.vs_scopes.specs.Declarations.{Bindings}
use Rattle.vs_scopes.specs.Scopes.{Scope}
use Rattle.vs_scopes.specs.scopes_passes.Answers.{borrowed}
use Rattle.vs_elab_signals.specs.declared.sights.Sight.TheVariants as f
use Rattle.vs_elab_signals.specs.signal_passes.Sights.{IsSight}
use Rattle.vs_scopes.specs.Nets.{permits, permits_after, Sight, unseen, seen, coming, new_among, with_nets, is_known, is_declared, pieces_with_nets, first_net}
use Rattle.vs_scopes.specs.scopes_passes.Parts.{IsSet}
use Rattle.vs_scopes.proofs.Folds.{flat_more}
use Rattle.std.proofs.lemmas.Bool.{or_right as right_true}
use Rattle.vs_scopes.proofs.PassLemmas.{map_at}
use Rattle.vs_scopes.proofs.ConnectionLemmas.{set_more}
use Rattle.vs_elab_signals.specs.nets_passes.Nets.{AddsNets, AreMembers, MeansAs}
use Rattle.vs_elab_signals.specs.declared.members.Members.{Members}

-- ---- directives

-- one directive more
pub permits_more : (ds : List Directive) (i : ℕ) (d : Directive) (before after whole : Bool) → i < length ds → after ≡ permits before (get_or ds i d) → permits_after before (drop i ds) ≡ whole → permits_after after (drop (i + 1) ds) ≡ whole
permits_more ds i d before after whole h e k = ap (λ z. permits_after z (drop (i + 1) ds)) e ∙ sym (ap (permits_after before) (drop_more ds i d h)) ∙ k

-- ---- names that are declared

pub declared_unseen : (ss : List Scope) (n : List ℕ) (x : Sight) → IsSight ss n x f.Unseen → false ≡ is_declared x
declared_unseen ss n unseen h = refl
declared_unseen ss n seen h = absurd h
declared_unseen ss n (coming p) h = absurd h

pub declared_seen : (ss : List Scope) (n : List ℕ) (x : Sight) → IsSight ss n x f.Seen → true ≡ is_declared x
declared_seen ss n unseen h = absurd h
declared_seen ss n seen h = refl
declared_seen ss n (coming p) h = absurd h

pub declared_coming : (ss : List Scope) (n : List ℕ) (x : Sight) (place : ℕ) → IsSight ss n x (f.Coming place) → true ≡ is_declared x
declared_coming ss n unseen place h = absurd h
declared_coming ss n seen place h = absurd h
declared_coming ss n (coming p) place h = refl

-- ---- names that were used

-- one that was used before
set_same : (ns : List (List ℕ)) (n : List ℕ) (there : List (List ℕ × Bool)) → IsSet ns there → list_any (bytes_eq n) ns ≡ true → IsSet (ns ++ n ∷ []) there
set_same ns n there h among m = h m ∙ by (bytes_eq m n) refl ∙ sym (list_any-append (bytes_eq m) ns (n ∷ []))
  where
    or_none : (a : Bool) → a ≡ (a || (false || false))
    or_none true = refl
    or_none false = refl

    by : (t : Bool) → bytes_eq m n ≡ t → list_any (bytes_eq m) ns ≡ (list_any (bytes_eq m) ns || (bytes_eq m n || false))
    by true e =
        let yes : list_any (bytes_eq m) ns ≡ true = ap (λ z. list_any (bytes_eq z) ns) ((bytes_eq-Decides m n).0 e) ∙ among in
        yes ∙ sym (ap (λ t. t || (bytes_eq m n || false)) yes)
    by false e = or_none (list_any (bytes_eq m) ns) ∙ ap (λ t. list_any (bytes_eq m) ns || (t || false)) (sym e)

-- ---- nets of names

module _ (known : List ℕ → Bool) where
  -- nets of names, with more behind them
  new_append : (before ms ns : List (List ℕ)) → new_among known before (ms ++ ns) ≡ new_among known before ms ++ new_among known (before ++ ms) ns
  new_append before [] ns = ap (λ z. new_among known z ns) (sym (append-nil before))
  new_append before (m ∷ ms) ns =
      by (known m || list_any (bytes_eq m) before) (new_append (before ++ m ∷ []) ms ns ∙ ap (λ z. new_among known (before ++ m ∷ []) ms ++ new_among known z ns) (append_assoc before (m ∷ []) ms))
    where
      rest : List (List ℕ)
      rest = new_among known (before ++ m ∷ []) ms

      by : (t : Bool) → new_among known (before ++ m ∷ []) (ms ++ ns) ≡ rest ++ new_among known (before ++ m ∷ ms) ns →
          cond t (new_among known (before ++ m ∷ []) (ms ++ ns)) (m ∷ new_among known (before ++ m ∷ []) (ms ++ ns)) ≡ cond t rest (m ∷ rest) ++ new_among known (before ++ m ∷ ms) ns
      by true e = e
      by false e = ap (λ z. m ∷ z) e

  module _ (before : List (List ℕ)) (n : List ℕ) where
    one : Bool → Bool → List (List ℕ)
    one a b = cond (a || b) [] (n ∷ [])

    new_used : list_any (bytes_eq n) before ≡ true → new_among known before (n ∷ []) ≡ []
    new_used h = ap (λ t. cond t [] (n ∷ [])) (right_true (known n) (list_any (bytes_eq n) before) h)

    new_known : known n ≡ true → new_among known before (n ∷ []) ≡ []
    new_known h = ap (λ t. cond (t || list_any (bytes_eq n) before) [] (n ∷ [])) h

    new_fresh : list_any (bytes_eq n) before ≡ false → known n ≡ false → new_among known before (n ∷ []) ≡ n ∷ []
    new_fresh h k = ap (λ t. cond (t || list_any (bytes_eq n) before) [] (n ∷ [])) k ∙ ap (λ t. cond t [] (n ∷ [])) h

module _ (text : Bindings) (around : List ℕ → Sight) where
  -- a name that was used before
  pub adds_used : (before : List (List ℕ)) (n : List ℕ) (there : List (List ℕ × Bool)) (old : List FoundPiece) → is_some (meaning_of there n) ≡ true → IsSet before there → AddsNets text around before (n ∷ []) there old old
  adds_used before n there old h k =
      let among : list_any (bytes_eq n) before ≡ true = sym (k n) ∙ h in
      record { used = set_same before n there k among; nets = sym (append-nil (map read_piece old)) ∙ ap (λ z. map read_piece old ++ map net z) (sym (new_used (is_known text around) before n among)) }

  -- one that is known
  pub adds_known : (before : List (List ℕ)) (n : List ℕ) (there new : List (List ℕ × Bool)) (old : List FoundPiece) (b : Bool) → Binds there new n true → b ≡ is_known text around n → b ≡ true → IsSet before there → AddsNets text around before (n ∷ []) new old old
  adds_known before n there new old b h e f k = record {
    used = set_more there new before n true h k;
    nets = sym (append-nil (map read_piece old)) ∙ ap (λ z. map read_piece old ++ map net z) (sym (new_known (is_known text around) before n (sym e ∙ f)));
  }

  -- one that isn't
  pub adds_fresh : (before : List (List ℕ)) (n : Bor (List ℕ)) (there new : List (List ℕ × Bool)) (old all : List FoundPiece) (b : Bool) → is_some (meaning_of there n.now) ≡ false → Binds there new n.now true → b ≡ is_known text around n.now → b ≡ false → all ≡ old ++ Net n ∷ [] → IsSet before there →
      AddsNets text around before (n.now ∷ []) new old all
  adds_fresh before n there new old all b none h e f a k = record {
    used = set_more there new before n.now true h k;
    nets = ap (map read_piece) a ∙ map-append read_piece old (Net n ∷ []) ∙ ap (λ z. map read_piece old ++ map net z) (sym (new_fresh (is_known text around) before n.now (sym (k n.now) ∙ none) (sym e ∙ f)));
  }

  -- no names
  pub adds_none : (before : List (List ℕ)) (there : List (List ℕ × Bool)) (old : List FoundPiece) → IsSet before there → AddsNets text around before [] there old old
  adds_none before there old k = record { used = subst (λ z. IsSet z there) (sym (append-nil before)) k; nets = sym (append-nil (map read_piece old)) }

  -- names behind others
  pub adds_more : (before ms ns : List (List ℕ)) (mid new : List (List ℕ × Bool)) (old some all : List FoundPiece) → AddsNets text around before ms mid old some → AddsNets text around (before ++ ms) ns new some all → AddsNets text around before (ms ++ ns) new old all
  adds_more before ms ns mid new old some all h k = record {
    used = subst (λ z. IsSet z new) (append_assoc before ms ns) k.used;
    nets = k.nets ∙ ap (λ z. z ++ map net (new_among (is_known text around) (before ++ ms) ns)) h.nets ∙ append_assoc (map read_piece old) (map net (new_among (is_known text around) before ms)) (map net (new_among (is_known text around) (before ++ ms) ns))
        ∙ ap (λ z. map read_piece old ++ z) (sym (map-append net (new_among (is_known text around) before ms) (new_among (is_known text around) (before ++ ms) ns)) ∙ ap (map net) (sym (new_append (is_known text around) before ms ns)));
  }

  -- one name of a list more
  pub adds_at : (before : List (List ℕ)) (ns : List (Bor (List ℕ))) (i : ℕ) (d : Bor (List ℕ)) (mid new : List (List ℕ × Bool)) (old some all : List FoundPiece) → i < length ns → AddsNets text around before (borrowed (take i ns)) mid old some →
      AddsNets text around (before ++ borrowed (take i ns)) ((get_or ns i d).now ∷ []) new some all → AddsNets text around before (borrowed (take (i + 1) ns)) new old all
  adds_at before ns i d mid new old some all h m k =
      let one : borrowed (take (i + 1) ns) ≡ borrowed (take i ns) ++ (get_or ns i d).now ∷ [] = ap borrowed (take_more ns i d h) ∙ map-append (λ (n : Bor (List ℕ)). n.now) (take i ns) (get_or ns i d ∷ []) in
      subst (λ z. AddsNets text around before z new old all) (sym one) (adds_more before (borrowed (take i ns)) ((get_or ns i d).now ∷ []) mid new old some all m k)

  -- ---- pieces

  -- pieces that were made so far, and the rest
  pub record Made (ps : List FoundPiece) (i : ℕ) (there : List (List ℕ × Bool)) (all : List FoundPiece) : Type 0 where
    pub used : IsSet (flat_map names_used (map read_piece (take i ps))) there
    pub made : map read_piece all ++ with_nets (is_known text around) (flat_map names_used (map read_piece (take i ps))) (map read_piece (drop i ps)) ≡ with_nets (is_known text around) [] (map read_piece ps)

  pub made_none : (ps : List FoundPiece) → Made ps 0 [] []
  made_none ps = record { used = λ n. refl; made = refl }

  used_more : (ps : List FoundPiece) (i : ℕ) (x : FoundPiece) → i < length ps → x ≡ get_or ps i x → flat_map names_used (map read_piece (take (i + 1) ps)) ≡ flat_map names_used (map read_piece (take i ps)) ++ names_used (read_piece x)
  used_more ps i x h k = two (take (i + 1) ps) ∙ flat_more (λ y. names_used (read_piece y)) ps i x h k ∙ ap (λ z. z ++ names_used (read_piece x)) (sym (two (take i ps)))
    where
      two : (ys : List FoundPiece) → flat_map names_used (map read_piece ys) ≡ flat_map (λ y. names_used (read_piece y)) ys
      two [] = refl
      two (y ∷ ys) = ap (λ z. names_used (read_piece y) ++ z) (two ys)

  pub made_more : (ps : List FoundPiece) (i : ℕ) (x : FoundPiece) (there new : List (List ℕ × Bool)) (all some next : List FoundPiece) → i < length ps → x ≡ get_or ps i x → next ≡ some ++ x ∷ [] →
      AddsNets text around (flat_map names_used (map read_piece (take i ps))) (names_used (read_piece x)) new all some → Made ps i there all → Made ps (i + 1) new next
  made_more ps i x there new all some next h k e a m =
      let known = is_known text around in
      let before = flat_map names_used (map read_piece (take i ps)) in
      let ns = names_used (read_piece x) in
      let rest = with_nets known (before ++ ns) (map read_piece (drop (i + 1) ps)) in
      let nets = map net (new_among known before ns) in
      let here : with_nets known before (map read_piece (drop i ps)) ≡ nets ++ read_piece x ∷ rest = ap (with_nets known before) (map_at read_piece ps i x h k) in
      let now : map read_piece next ≡ (map read_piece all ++ nets) ++ read_piece x ∷ [] = ap (map read_piece) e ∙ map-append read_piece some (x ∷ []) ∙ ap (λ z. z ++ read_piece x ∷ []) a.nets in
      record {
        used = subst (λ z. IsSet z new) (sym (used_more ps i x h k)) a.used;
        made = ap (λ z. map read_piece next ++ with_nets known z (map read_piece (drop (i + 1) ps))) (used_more ps i x h k) ∙ ap (λ z. z ++ rest) now ∙ append_assoc (map read_piece all ++ nets) (read_piece x ∷ []) rest
            ∙ append_assoc (map read_piece all) nets (read_piece x ∷ rest) ∙ ap (λ z. map read_piece all ++ z) (sym here) ∙ m.made;
      }

  pub made_all : (ps : List FoundPiece) (i : ℕ) (there : List (List ℕ × Bool)) (all : List FoundPiece) → length ps ≤ i → Made ps i there all → map read_piece all ≡ with_nets (is_known text around) [] (map read_piece ps)
  made_all ps i there all h m =
      sym (append-nil (map read_piece all))
      ∙ ap (λ z. map read_piece all ++ with_nets (is_known text around) (flat_map names_used (map read_piece (take i ps))) (map read_piece z)) (sym (drop_all i ps h)) ∙ m.made

-- names that mean what those do
known_same : (text bs : Bindings) (around : List ℕ → Sight) → MeansAs bs text → is_known text around ≡ is_known bs around
known_same text bs around h = fun_ext (λ n. ap (λ z. is_some z || is_declared (around n)) (h n))

pub pieces_same : (nets : Bool) (text bs : Bindings) (around : List ℕ → Sight) (ps : List Piece) → MeansAs bs text → pieces_with_nets nets text around ps ≡ pieces_with_nets nets bs around ps
pieces_same false text bs around ps h = refl
pieces_same true text bs around ps h = ap (λ z. with_nets z [] ps) (known_same text bs around h)

pub are_members : (nets : Bool) (bs : Bindings) (around : List ℕ → Sight) (ps : List Piece) (m : Members) (text : Bindings) → m.text ≡ text → MeansAs bs text → map read_piece m.pieces.items ≡ pieces_with_nets nets text around ps →
    ((n : List ℕ) → meaning_of m.told n ≡ first_net (map read_piece m.pieces.items) n) → AreMembers nets bs around ps m
are_members nets bs around ps m text e h made told =
    let same = made ∙ pieces_same nets text bs around ps h in
    record { text = λ n. ap (λ (z : Bindings). meaning_of z n) e ∙ h n; pieces = same; told = λ n. told n ∙ ap (λ z. first_net z n) same }
