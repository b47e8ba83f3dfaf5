-- Which event controls the change of a word of a signal wakes: their terms and the watchers of these say the same.
use Rattle.std.proofs.Common.{◌≡◌, ℕ, ◌^◌, ◌<◌, ◌≤◌, ◌&&◌, ◌||◌, Bool, true, false, Some, List, [], ◌∷◌, ◌++◌, length, if◌then◌else◌, inl, inr, refl, sym, ◌∙◌, ap, ap₂, subst}
use Rattle.std.specs.List.{list_any}
use Rattle.std.proofs.lemmas.Bool.{and_left, and_right, eqb-true, cases_Bool}
use Rattle.std.proofs.Math.Bool.{and_comm}
use Rattle.vs_design.specs.vs_logic4.specs.declared.digit.Digit.{Digit}
use Rattle.vs_design.specs.vs_logic4.specs.declared.edge.Edge.{Edge}
use Rattle.vs_design.specs.vs_logic4.specs.declared.edge.Edge.TheVariants.{Any, Posedge, Negedge}
use Rattle.vs_design.specs.declared.range.BitRange.{BitRange}
use Rattle.vs_design.specs.declared.statement.EventTerm.{EventTerm}
use Rattle.vs_design.specs.Uses.{is_of}
use Rattle.vs_run_active.specs.vs_eval.specs.Masks.{AreEdges, every_word, has_bits}
use Rattle.vs_run_active.specs.vs_eval.specs.Waking.{range_wakes, term_wakes, word_wakes}
use Rattle.vs_run_active.proofs.MasksTell.{term_mask-wakes}
use Rattle.vs_run_active.specs.declared.watchers.ProcessTerm.{ProcessTerm}
use Rattle.vs_run_active.specs.declared.watchers.Watcher.{Watcher}
use Rattle.vs_run_active.specs.Lists.{named}
use Rattle.vs_run_active.specs.Waking.{is_term_of, is_watching, kinds_watched, control_wakes, terms_at}
use Rattle.vs_run_active.specs.Watchers.{kind_watchers, names, same_edge, term_watcher}

-- ---- terms that name another signal

quiet_range : (edge : Edge) (signal word : ℕ) (before after : List Digit) (r : BitRange) → is_of signal r ≡ false →
    range_wakes edge signal word (Some before) (Some after) r ≡ false
quiet_range Any signal word before after r h = and_left (is_of signal r) _ h
quiet_range Posedge signal word before after r h = and_left (is_of signal r) _ h
quiet_range Negedge signal word before after r h = and_left (is_of signal r) _ h

-- ---- a term among those of its kind

-- what one of three tests says, by a kind
abbrev by_kind : Edge → Bool → Bool → Bool → Bool
by_kind Any a b c = a
by_kind Posedge a b c = b
by_kind Negedge a b c = c

or_any : (a x y z : Bool) → (((a || x) || y) || z) ≡ (a || ((x || y) || z))
or_any true x y z = refl
or_any false x y z = refl

or_rising : (a x y z : Bool) → ((x || (a || y)) || z) ≡ (a || ((x || y) || z))
or_rising true true y z = refl
or_rising true false y z = refl
or_rising false x y z = refl

or_falling : (a x y z : Bool) → ((x || y) || (a || z)) ≡ (a || ((x || y) || z))
or_falling true true y z = refl
or_falling true false true z = refl
or_falling true false false z = refl
or_falling false x y z = refl

-- one watcher more in the list of its kind
one_more : (e : Edge) (w : Watcher) (f g h : Watcher → Bool) (any rising falling : List Watcher) →
    ((list_any f ((if same_edge Any e then w ∷ [] else []) ++ any) || list_any g ((if same_edge Posedge e then w ∷ [] else []) ++ rising))
    || list_any h ((if same_edge Negedge e then w ∷ [] else []) ++ falling))
    ≡ (by_kind e (f w) (g w) (h w) || ((list_any f any || list_any g rising) || list_any h falling))
one_more Any w f g h any rising falling = or_any (f w) (list_any f any) (list_any g rising) (list_any h falling)
one_more Posedge w f g h any rising falling = or_rising (g w) (list_any f any) (list_any g rising) (list_any h falling)
one_more Negedge w f g h any rising falling = or_falling (h w) (list_any f any) (list_any g rising) (list_any h falling)

module _ (process control signal word differing rising falling : ℕ) (before after : List Digit) (within : word < every_word)
    (d : differing < 2 ^ 64) (r : rising < 2 ^ 64) (f : falling < 2 ^ 64) (same : length before ≡ length after) (short : length before ≤ 64)
    (differ : AreEdges Any before after differing) (rise : AreEdges Posedge before after rising) (fall : AreEdges Negedge before after falling) where
  -- the mask of a term tells, by the number of its kind
  mask_tells : (t : ProcessTerm) (e : Edge) → e ≡ t.term.edge →
      by_kind e (has_bits (term_watcher t).mask word differing && is_watching process control (term_watcher t))
      (has_bits (term_watcher t).mask word rising && is_watching process control (term_watcher t))
      (has_bits (term_watcher t).mask word falling && is_watching process control (term_watcher t))
      ≡ (is_term_of process control t && term_wakes t.term.range.signal word (Some before) (Some after) t.term)
  mask_tells t Any h =
      ap (λ (b : Bool). b && is_term_of process control t)
      (term_mask-wakes t.term word differing before after within d same short (subst (λ (e : Edge). AreEdges e before after differing) h differ))
      ∙ and_comm (term_wakes t.term.range.signal word (Some before) (Some after) t.term) (is_term_of process control t)
  mask_tells t Posedge h =
      ap (λ (b : Bool). b && is_term_of process control t)
      (term_mask-wakes t.term word rising before after within r same short (subst (λ (e : Edge). AreEdges e before after rising) h rise))
      ∙ and_comm (term_wakes t.term.range.signal word (Some before) (Some after) t.term) (is_term_of process control t)
  mask_tells t Negedge h =
      ap (λ (b : Bool). b && is_term_of process control t)
      (term_mask-wakes t.term word falling before after within f same short (subst (λ (e : Edge). AreEdges e before after falling) h fall))
      ∙ and_comm (term_wakes t.term.range.signal word (Some before) (Some after) t.term) (is_term_of process control t)

  -- the watchers of the terms that name a signal say which controls a change of it wakes
  pub kinds_wake : (ts : List ProcessTerm) →
      kinds_watched process control word differing rising falling (named signal ts) ≡ control_wakes process control signal word before after ts
  kinds_wake [] = refl
  kinds_wake (t ∷ ts) = elim (cases_Bool (names signal t)) [
    | inl here ↦
        let at : t.term.range.signal ≡ signal = eqb-true t.term.range.signal signal here in
        ap (λ (b : Bool). kinds_watched process control word differing rising falling (if b then t ∷ named signal ts else named signal ts)) here
        ∙ one_more t.term.edge (term_watcher t) (λ w. has_bits w.mask word differing && is_watching process control w)
        (λ w. has_bits w.mask word rising && is_watching process control w) (λ w. has_bits w.mask word falling && is_watching process control w)
        (kind_watchers Any (named signal ts)) (kind_watchers Posedge (named signal ts)) (kind_watchers Negedge (named signal ts))
        ∙ ap₂ (λ (a b : Bool). a || b)
        (mask_tells t t.term.edge refl ∙ ap (λ (s : ℕ). is_term_of process control t && term_wakes s word (Some before) (Some after) t.term) at)
        (kinds_wake ts)
    | inr other ↦
        ap (λ (b : Bool). kinds_watched process control word differing rising falling (if b then t ∷ named signal ts else named signal ts)) other
        ∙ kinds_wake ts
        ∙ sym (ap (λ (b : Bool). b || control_wakes process control signal word before after ts)
        (and_right (is_term_of process control t) (term_wakes signal word (Some before) (Some after) t.term)
        (quiet_range t.term.edge signal word before after t.term.range other)))
  ]

one_listed : (b t rest : Bool) (term : EventTerm) (terms : List EventTerm) (f : EventTerm → Bool) → t ≡ f term → rest ≡ list_any f terms →
    ((b && t) || rest) ≡ list_any f (if b then term ∷ terms else terms)
one_listed true t rest term terms f h k = ap₂ (λ (a b : Bool). a || b) h k
one_listed false t rest term terms f h k = k

-- the terms of a control wake as those do that are listed for it
pub listed_wake : (process control signal word : ℕ) (before after : List Digit) (ts : List ProcessTerm) →
    control_wakes process control signal word before after ts ≡ word_wakes (terms_at process control ts) signal word (Some before) (Some after)
listed_wake process control signal word before after [] = refl
listed_wake process control signal word before after (t ∷ ts) =
    one_listed (is_term_of process control t) (term_wakes signal word (Some before) (Some after) t.term)
    (control_wakes process control signal word before after ts) t.term (terms_at process control ts)
    (term_wakes signal word (Some before) (Some after)) refl (listed_wake process control signal word before after ts)
