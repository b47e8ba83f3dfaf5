-- Lines that lead from a place to an end are those of a part of a dump.
use Rattle.std.proofs.Common.{◌≡◌, ℕ, suc, ◌<◌, ◌^◌, Bool, true, false, List, [], ◌∷◌, ◌++◌, length, refl, sym, ap, subst, ◌∙◌, append_assoc, length-append, arith}
use Rattle.std.proofs.lemmas.List.{append-nil}
use Rattle.std.proofs.lemmas.Option.{slice_get_within}
use Rattle.vs_design.specs.vs_logic4.specs.declared.digit.Digit.{Digit}
use Rattle.vs_design.specs.declared.design.ScopeKind.TheVariants.{Module}
use Rattle.vs_design.specs.declared.timescale.TimeSpan.{TimeSpan}
use Rattle.vs_vcd_lines.specs.declared.dump.ValueChange.{ValueChange}
use Rattle.vs_vcd_reader.specs.Plain.{PlainDeclaration, PlainDump, PlainMoment}
use Rattle.vs_vcd_reader.specs.Plain.{PlainDeclaration as d}
use Rattle.vs_vcd_reader.specs.Layout.{moment_at, with_change, written, values_of, widths_of, AreAll, AreChanges, AreDeclared, AreLater, AreMoments}
use Rattle.vs_vcd_reader.specs.Layout.{AreAll as a, AreChanges as c, AreLater as l}
use Rattle.vs_vcd_reader.specs.Walks.{closes, AreGood}
use Rattle.vs_vcd_reader.specs.Steps.{Item, Place, Steps, IsLast, change_items, later_items, body_items, declared_items, items_of}
use Rattle.vs_vcd_reader.specs.Steps.{Item as i, Place as p, Step as s, Steps as t}
use Rattle.vs_vcd_reader.proofs.WalkLemmas.{closed_is_declared}

-- ---- later times

record IsLaterPart (ws : List ℕ) (vs : List (List Digit)) (last from : ℕ) (bare : Bool) (items : List Item) : Type 0 where
  pub changes : List ValueChange
  pub moments : List PlainMoment
  pub are : items ≡ change_items changes ++ later_items moments
  pub changed : AreChanges ws vs from changes
  pub later : AreLater ws (written vs changes) last moments
  pub alone : bare ≡ true → changes ≡ [] → moments ≡ []

at_time : (ws : List ℕ) (vs : List (List Digit)) (last time : ℕ) (cs : List ValueChange) (ms : List PlainMoment) → last < time → time < 2 ^ 64
    → AreChanges ws vs 0 cs → AreLater ws (written vs cs) time ms → (cs ≡ [] → ms ≡ []) → AreLater ws vs last (moment_at time cs ∷ ms)
at_time ws vs last time [] ms after small changed later alone =
    subst (λ m. AreLater ws vs last (moment_at time [] ∷ m)) (sym (alone refl)) (l.end vs last time after small)
at_time ws vs last time (x ∷ cs) ms after small changed later alone = l.more vs last time x cs ms after small changed later

later_part : (ws : List ℕ) (vs : List (List Digit)) (last from : ℕ) (bare : Bool) (items : List Item) (q : Place) → Steps (p.Later ws vs last from bare) items q
    → IsLast q → IsLaterPart ws vs last from bare items
later_part ws vs last from bare _ _ (t.stay _) h =
    record { changes = []; moments = []; are = refl; changed = c.none vs from; later = l.none vs last; alone = λ _ _. refl }
later_part ws vs last from _ _ q (t.go _ _ _ items _ (s.time _ _ _ _ time after small) more) h =
    let r = later_part ws vs time 0 true items q more h in
    record {
      changes = [];
      moments = moment_at time r.changes ∷ r.moments;
      are = ap (λ x. i.Time time ∷ x) r.are;
      changed = c.none vs from;
      later = at_time ws vs last time r.changes r.moments after small r.changed r.later (r.alone refl);
      alone = λ e _. absurd cc;
    }
later_part ws vs last from bare _ q (t.go _ _ _ items _ (s.change _ _ _ _ _ x least is) more) h =
    let r = later_part ws (with_change vs x) last (suc x.number) false items q more h in
    record {
      changes = x ∷ r.changes;
      moments = r.moments;
      are = ap (λ y. i.Change x ∷ y) r.are;
      changed = c.more vs from x r.changes least is r.changed;
      later = r.later;
      alone = λ _ e. absurd cc;
    }

-- ---- the first values

record IsValuesPart (ws : List ℕ) (vs : List (List Digit)) (items : List Item) : Type 0 where
  pub changes : List ValueChange
  pub moments : List PlainMoment
  pub are : items ≡ change_items changes ++ (i.End ∷ later_items moments)
  pub all : AreAll ws (length vs) changes
  pub later : AreLater ws (vs ++ values_of changes) 0 moments

no_more : (ws : List ℕ) (vs : List (List Digit)) (cs : List ValueChange) → AreChanges ws vs (length ws) cs → cs ≡ []
no_more ws vs _ (c.none _ _) = refl
no_more ws vs _ (c.more _ _ x cs least is more) =
    let within = slice_get_within ws x.number (length x.value) is.sized in absurd (omega (arith, least, within))

values_part : (ws : List ℕ) (vs : List (List Digit)) (items : List Item) (q : Place) → Steps (p.Values ws vs) items q → IsLast q → IsValuesPart ws vs items
values_part ws vs _ _ (t.stay _) h = absurd h
values_part ws vs _ q (t.go _ _ _ items _ (s.value _ _ x numbered sized) more) h =
    let r = values_part ws (vs ++ x.value ∷ []) items q more h in
    let size : length (vs ++ x.value ∷ []) ≡ suc x.number = omega (arith, length-append vs (x.value ∷ []), numbered) in
    record {
      changes = x ∷ r.changes;
      moments = r.moments;
      are = ap (λ y. i.Change x ∷ y) r.are;
      all = subst (λ n. AreAll ws n (x ∷ r.changes)) numbered (a.more x r.changes sized (subst (λ n. AreAll ws n r.changes) size r.all));
      later = subst (λ v. AreLater ws v 0 r.moments) (append_assoc vs (x.value ∷ []) (values_of r.changes)) r.later;
    }
values_part ws vs _ q (t.go _ _ _ items _ (s.end _ _ full) more) h =
    let r = later_part ws vs 0 (length ws) false items q more h in
    let none = no_more ws vs r.changes r.changed in
    record {
      changes = [];
      moments = r.moments;
      are = ap (λ y. i.End ∷ y) (r.are ∙ ap (λ y. change_items y ++ later_items r.moments) none);
      all = subst (λ n. AreAll ws n []) (sym full) a.none;
      later = subst (λ v. AreLater ws v 0 r.moments) (ap (written vs) none ∙ sym (append-nil vs)) r.later;
    }

-- ---- the body

record IsBodyPart (ws : List ℕ) (items : List Item) : Type 0 where
  pub moments : List PlainMoment
  pub are : items ≡ body_items moments
  pub kept : AreMoments ws moments

after_values : (ws : List ℕ) (items : List Item) → IsValuesPart ws [] items → IsBodyPart ws (i.Time 0 ∷ i.Values ∷ items)
after_values ws items r = record {
  moments = moment_at 0 r.changes ∷ r.moments;
  are = ap (λ y. i.Time 0 ∷ i.Values ∷ y) r.are;
  kept = record { first = r.changes; later = r.moments; are = refl; all = r.all; changes = r.later };
}

first_part : (ws : List ℕ) (items : List Item) (q : Place) → Steps (p.First ws) items q → IsLast q → IsBodyPart ws (i.Time 0 ∷ items)
first_part ws _ _ (t.stay _) h = absurd h
first_part ws _ q (t.go _ _ _ items _ (s.values _) more) h = after_values ws items (values_part ws [] items q more h)

body_part : (ws : List ℕ) (items : List Item) (q : Place) → Steps (p.Zero ws) items q → IsLast q → IsBodyPart ws items
body_part ws _ _ (t.stay _) h = absurd h
body_part ws _ q (t.go _ _ _ items _ (s.at_zero _) more) h = first_part ws items q more h

-- ---- declarations

record IsHeaderPart (ws : List ℕ) (depth : ℕ) (own : Bool) (items : List Item) : Type 0 where
  pub declarations : List PlainDeclaration
  pub moments : List PlainMoment
  pub are : items ≡ declared_items (length ws) declarations ++ (i.Definitions ∷ body_items moments)
  pub closed : closes depth own declarations ≡ true
  pub good : AreGood declarations
  pub kept : AreMoments (ws ++ widths_of declarations) moments

header_part : (ws : List ℕ) (depth : ℕ) (own : Bool) (items : List Item) (q : Place) → Steps (p.Header ws depth own) items q → IsLast q → IsHeaderPart ws depth own items
header_part ws depth own _ _ (t.stay _) h = absurd h
header_part ws _ own _ q (t.go _ _ _ items _ (s.definitions _ _) more) h =
    let r = body_part ws items q more h in
    record {
      declarations = [];
      moments = r.moments;
      are = ap (λ y. i.Definitions ∷ y) r.are;
      closed = refl;
      good = tt;
      kept = subst (λ w. AreMoments w r.moments) (sym (append-nil ws)) r.kept;
    }
header_part ws _ own _ q (t.go _ _ _ items _ (s.scope _ above _ kind name named) more) h =
    let r = header_part ws (suc (suc above)) true items q more h in
    record {
      declarations = d.Scope kind name ∷ r.declarations;
      moments = r.moments;
      are = ap (λ y. i.Scope kind name ∷ y) r.are;
      closed = r.closed;
      good = (named, r.good);
      kept = r.kept;
    }
header_part ws _ own _ q (t.go _ _ _ items _ (s.upscope _ above _) more) h =
    let r = header_part ws above false items q more h in
    record {
      declarations = d.Upscope ∷ r.declarations;
      moments = r.moments;
      are = ap (λ y. i.Upscope ∷ y) r.are;
      closed = r.closed;
      good = (tt, r.good);
      kept = r.kept;
    }
header_part ws _ _ _ q (t.go _ _ _ items _ (s.variable _ above v is) more) h =
    let r = header_part (ws ++ v.width ∷ []) (suc above) true items q more h in
    let size : length (ws ++ v.width ∷ []) ≡ suc (length ws) = omega (arith, length-append ws (v.width ∷ [])) in
    record {
      declarations = d.Variable v ∷ r.declarations;
      moments = r.moments;
      are = ap (λ y. i.Variable v (length ws) ∷ y) (r.are ∙ ap (λ n. declared_items n r.declarations ++ (i.Definitions ∷ body_items r.moments)) size);
      closed = r.closed;
      good = (is, r.good);
      kept = subst (λ w. AreMoments w r.moments) (append_assoc ws (v.width ∷ []) (widths_of r.declarations)) r.kept;
    }

-- ---- the whole

pub record IsWholePart (items : List Item) : Type 0 where
  pub dump : PlainDump
  pub are : items ≡ items_of dump
  pub declared : AreDeclared dump.declarations
  pub moments : AreMoments (widths_of dump.declarations) dump.moments

top_part : (span : TimeSpan) (items : List Item) (q : Place) → Steps p.Top items q → IsLast q → IsWholePart (i.Tick span ∷ items)
top_part span _ _ (t.stay _) h = absurd h
top_part span _ q (t.go _ _ _ items _ (s.top name named) more) h =
    let r = header_part [] 1 true items q more h in
    record {
      dump = record { tick = span; declarations = d.Scope Module name ∷ r.declarations; moments = r.moments };
      are = ap (λ y. i.Tick span ∷ i.Scope Module name ∷ y) r.are;
      declared = closed_is_declared (d.Scope Module name ∷ r.declarations) r.declarations name refl (named, r.good) r.closed;
      moments = r.kept;
    }

pub whole_part : (items : List Item) (q : Place) → Steps p.Start items q → IsLast q → IsWholePart items
whole_part _ _ (t.stay _) h = absurd h
whole_part _ q (t.go _ _ _ items _ (s.tick span) more) h = top_part span items q more h
