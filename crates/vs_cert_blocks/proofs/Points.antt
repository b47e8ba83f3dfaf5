-- The rule K5 of points is that of places.
use Rattle.std.proofs.Common.{◌≡◌, ℕ, ◌⊎◌, inl, inr, ◌↔◌, ◌&&◌, not, Bool, true, false, IsTrue, Some, List, [], ◌∷◌, ◌<◌, length, get_or, slice_get, refl, sym, ◌∙◌, ap, subst, arith, if◌then◌else◌}
use Rattle.std.specs.List.{Contains, list_any}
use Rattle.std.proofs.lemmas.Bool.{and_parts, false≢true, not-true}
use Rattle.std.proofs.lemmas.Option.{same_Some, slice_get_read}
use Rattle.vs_design.specs.declared.design.Process.{Process}
use Rattle.vs_design.specs.declared.range.BitRange.{BitRange}
use Rattle.vs_design.specs.Parts.{Parts}
use Rattle.vs_design.specs.Uses.{is_of}
use Rattle.vs_process.specs.Places.{perform, turns, Todo}
use Rattle.vs_process.specs.Steps.{Next, on, after, wait}
use Rattle.vs_process.specs.Stops.{Stop, stop_at, stop_statement, stops_tos, next_statement, IsText}
use Rattle.vs_process.specs.Ways.{Pause, none, delay, event, next_by}
use Rattle.vs_drivers.specs.vs_rules.specs.vs_process.specs.BlockDrivers.{outputs_for}
use Rattle.vs_drivers.specs.vs_rules.specs.vs_process.specs.Threads.{todo_reads}
use Rattle.vs_process.specs.Writes.{statement_writes}
use Rattle.vs_claims.specs.vs_process.specs.declared.moves.Grain.{Grain}
use Rattle.vs_claims.specs.vs_process.specs.Executions.{is_combinational}
use Rattle.vs_drivers.specs.vs_rules.specs.Blocks.{todo_surely, has_late_effect, K5}
use Rattle.vs_drivers.specs.vs_rules.specs.Blocks as rule
use Rattle.vs_drivers.specs.vs_rules.specs.Claims.{Claims, IsBlock}
use Rattle.vs_drivers.specs.vs_rules.specs.Paths.{Bit, ListsSignal, Writes, is_plain, reads_for}
use Rattle.vs_drivers.specs.vs_rules.specs.Points.{Goes}
use Rattle.vs_claims.specs.vs_maps.specs.Ranges.{HasSignal}
use Rattle.vs_claims.specs.vs_maps.specs.Reaches.{Chart, pause_of}
use Rattle.vs_claims.specs.vs_maps.proofs.EachPoint.{reads_here}
use Rattle.vs_claims.specs.vs_maps.proofs.EachWalk.{terms_exact}
use Rattle.vs_claims.specs.vs_maps.proofs.RangeLemmas.{has_signal, lists_signal}
use Rattle.vs_claims.specs.vs_maps.proofs.Texts.{place_of, place_back, step_on, step_back, control_on, behind_step}
use Rattle.vs_drivers.proofs.Words.{parted}
use Rattle.vs_cert_blocks.specs.Blocks.{KeepsBlock, BlocksByPlaces}
use Rattle.vs_cert_blocks.specs.Walks.{surely_at, has_late_effect_at, is_at_once, is_open, open_tos, IsUnwritten, begins, goes_on}

-- ---- of one point

abbrev pause_in : Next → Pause
pause_in (on l) = none
pause_in (after n u l) = delay n u
pause_in (wait n ts l) = event n ts

-- the pause of a way
paused : (pause : Pause) (l : Todo) → pause_in (next_by pause l) ≡ pause
paused none l = refl
paused (delay n u) l = refl
paused (event n ts) l = refl

pause_as : (pause : Pause) (l : Todo) (next : Next) → next_by pause l ≡ next → pause ≡ pause_in next
pause_as pause l next e = sym (paused pause l) ∙ ap pause_in e

surely_told : (b : Bit) (k : Todo) → todo_surely b k ≡ surely_at b (next_statement k)
surely_told b [] = refl
surely_told b (perform s ∷ rest) = refl
surely_told b (turns n s ∷ rest) = refl

late_told : (k : Todo) → has_late_effect k ≡ has_late_effect_at (next_statement k)
late_told [] = refl
late_told (perform s ∷ rest) = refl
late_told (turns n s ∷ rest) = refl

-- ---- walks that go on

open_leads : (b : Bit) (stops : List Stop) (p q : ℕ) → surely_at b (stop_statement (stop_at stops p)) ≡ false → pause_of (stop_statement (stop_at stops p)) ≡ none →
    Contains (stops_tos stops p) q → Contains (open_tos b stops p) q
open_leads b stops p q sure pause c =
    let s = stop_statement (stop_at stops p) in
    let goes : is_open b s ≡ true = ap (λ (x : Bool). not x && is_at_once (pause_of s)) sure ∙ ap is_at_once pause in
    subst (λ (x : Bool). Contains (if x then stops_tos stops p else []) q) (sym goes) c

if_in : (x : Bool) (xs : List ℕ) (q : ℕ) → Contains (if x then xs else []) q → (x ≡ true) × Contains xs q
if_in true xs q c = (refl, c)
if_in false xs q c = absurd (omega (arith, c.1))

at_once_is : (pause : Pause) → is_at_once pause ≡ true → pause ≡ none
at_once_is none h = refl
at_once_is (delay n u) h = absurd (false≢true h)
at_once_is (event n ts) h = absurd (false≢true h)

-- a walk on points is one on places, and back
unwritten_on : (d : Parts) (i : ℕ) (q : Process) (stops : List Stop) (start : ℕ) (t : IsText q.body stops start) → slice_get d.processes i ≡ Some q → (b : Bit) (k : Todo) →
    rule.Unwritten d i b k → (p : ℕ) × IsUnwritten (record { stops = stops; start = start }) b p × (t.at p ≡ k)
unwritten_on d i q stops start t is b _ (rule.begins k l number terms point goes) =
    let y = place_of d i q stops start t is k point in
    let s = step_on q.body stops start t y.0 (wait number terms l) (subst (λ (z : Todo). Goes z (wait number terms l)) (sym y.2) goes) in
    let pause = pause_of (stop_statement (stop_at stops y.0)) in (
      s.0,
      begins s.0 (y.0, record { number = number; terms = terms; is_place = y.1; pauses = pause_as pause (t.at s.0) (wait number terms l) s.2; leads = s.1 }),
      sym (behind_step pause (t.at s.0) (wait number terms l) s.2),
    )
unwritten_on d i q stops start t is b _ (rule.goes_on k l h not_sure goes) =
    let y = unwritten_on d i q stops start t is b k h in
    let s = step_on q.body stops start t y.0 (on l) (subst (λ (z : Todo). Goes z (on l)) (sym y.2) goes) in
    let pause = pause_of (stop_statement (stop_at stops y.0)) in
    let sure : surely_at b (stop_statement (stop_at stops y.0)) ≡ false =
    sym (surely_told b (t.at y.0) ∙ ap (surely_at b) (t.says y.0)) ∙ ap (todo_surely b) y.2 ∙ not_sure in (
      s.0,
      goes_on y.0 s.0 y.1 (open_leads b stops y.0 s.0 sure (pause_as pause (t.at s.0) (on l) s.2) s.1),
      sym (behind_step pause (t.at s.0) (on l) s.2),
    )

unwritten_back : (d : Parts) (i : ℕ) (q : Process) (stops : List Stop) (start : ℕ) (t : IsText q.body stops start) → slice_get d.processes i ≡ Some q → (b : Bit) (p : ℕ) →
    IsUnwritten (record { stops = stops; start = start }) b p → rule.Unwritten d i b (t.at p)
unwritten_back d i q stops start t is b _ (begins p w) =
    rule.begins (t.at w.0) (t.at p) w.1.number w.1.terms (place_back d i q stops start t is w.0 w.1.is_place)
    (subst (λ (x : Pause). Goes (t.at w.0) (next_by x (t.at p))) w.1.pauses (step_back q.body stops start t w.0 p w.1.leads))
unwritten_back d i q stops start t is b _ (goes_on p r h c) =
    let s = stop_statement (stop_at stops p) in
    let o = if_in (is_open b s) (stops_tos stops p) r c in
    let parts = and_parts (not (surely_at b s)) (is_at_once (pause_of s)) o.0 in
    rule.goes_on (t.at p) (t.at r) (unwritten_back d i q stops start t is b p h)
    (surely_told b (t.at p) ∙ ap (surely_at b) (t.says p) ∙ not-true (surely_at b s) parts.0)
    (subst (λ (x : Pause). Goes (t.at p) (next_by x (t.at r))) (at_once_is (pause_of s) parts.1) (step_back q.body stops start t p r o.1))

-- where no control follows, ways go on at once
end_none : (q : Process) (stops : List Stop) (start : ℕ) (t : IsText q.body stops start) (p : ℕ) (pause : Pause) → pause_of (stop_statement (stop_at stops p)) ≡ pause →
    ((next : Next) → Goes (t.at p) next → is_plain next ≡ false → ⊥) → pause ≡ none
end_none q stops start t p none e h = refl
end_none q stops start t p (delay n u) e h =
    let w = control_on q.body stops start t p (delay n u) e refl in
    absurd (h (next_by (pause_of (stop_statement (stop_at stops p))) (t.at w.0)) (step_back q.body stops start t p w.0 w.1) (ap (λ (x : Pause). is_plain (next_by x (t.at w.0))) e))
end_none q stops start t p (event n ts) e h =
    let w = control_on q.body stops start t p (event n ts) e refl in
    absurd (h (next_by (pause_of (stop_statement (stop_at stops p))) (t.at w.0)) (step_back q.body stops start t p w.0 w.1) (ap (λ (x : Pause). is_plain (next_by x (t.at w.0))) e))

-- ---- what a block writes

writes_on : (d : Parts) (i : ℕ) (q : Process) → slice_get d.processes i ≡ Some q → (v : ℕ) → Writes d i v → HasSignal (statement_writes q.body) v
writes_on d i q is v h = (lists_signal d (statement_writes q.body) v).1 (subst (λ (l : List BitRange). ListsSignal d l v) (ap outputs_for is) h)

writes_back : (d : Parts) (i : ℕ) (q : Process) → slice_get d.processes i ≡ Some q → (v : ℕ) → HasSignal (statement_writes q.body) v → Writes d i v
writes_back d i q is v h = subst (λ (l : List BitRange). ListsSignal d l v) (sym (ap outputs_for is)) ((lists_signal d (statement_writes q.body) v).0 h)

-- a signal is one of some ranges, or of none
either_signal : (rs : List BitRange) (v : ℕ) → HasSignal rs v ⊎ (HasSignal rs v → ⊥)
either_signal rs v = by_any (list_any (is_of v) rs) refl where
  by_any : (x : Bool) → x ≡ list_any (is_of v) rs → HasSignal rs v ⊎ (HasSignal rs v → ⊥)
  by_any true e = inl ((has_signal rs v true e).0 refl)
  by_any false e = inr (λ h. false≢true ((has_signal rs v false e).1 h))

-- ---- the rule

to_rule : (d : Parts) (c : Claims) (i : ℕ) (q : Process) (stops : List Stop) (start : ℕ) → slice_get d.processes i ≡ Some q → IsText q.body stops start →
    KeepsBlock d q (record { stops = stops; start = start }) c.grain → K5 d c i
to_rule d c i q stops start is t m = record {
  grain = λ block. m.at_block;
  shape = λ p block at. subst (λ (x : Process). is_combinational x ≡ true) (same_Some q p (sym is ∙ at)) m.shape;
  quiet = λ k block point. let y = place_of d i q stops start t is k point in
      subst (λ (z : Todo). has_late_effect z ≡ false) y.2 (late_told (t.at y.0) ∙ ap has_late_effect_at (t.says y.0) ∙ m.quiet y.0 y.1);
  covered = λ r b block lists bit has.
      elim (m.text.0 r (subst (λ (l : List BitRange). Contains l r) (ap reads_for is) lists.0)) [
        | inl s ↦ inl (writes_back d i q is b.signal (subst (HasSignal (statement_writes q.body)) (parted r b.signal b.word b.place has).of s))
        | inr n ↦ let x = n b bit has in inr (x.0, (terms_exact d i q stops start t is x.0).0 x.1, x.2)
      ];
  before_reads = λ b k r block bit writes unwritten reads same. let y = unwritten_on d i q stops start t is b k unwritten in
      (m.text.1 b bit (writes_on d i q is b.signal writes) y.0 y.1).0 (
        r,
        subst (λ (l : List BitRange). Contains l r) (reads_here q.body stops start t y.0) (subst (λ (z : Todo). Contains (todo_reads z) r) (sym y.2) reads.0),
        same,
      );
  before_end = λ b k next block bit writes unwritten goes not_plain. let y = unwritten_on d i q stops start t is b k unwritten in
      let s = step_on q.body stops start t y.0 next (subst (λ (z : Todo). Goes z next) (sym y.2) goes) in
      let at_once = (m.text.1 b bit (writes_on d i q is b.signal writes) y.0 y.1).1 in
      false≢true (sym not_plain ∙ ap is_plain (sym s.2) ∙ ap (λ (x : Pause). is_plain (next_by x (t.at s.0))) at_once);
}

from_rule : (d : Parts) (c : Claims) (i : ℕ) (q : Process) (stops : List Stop) (start : ℕ) → slice_get d.processes i ≡ Some q → IsText q.body stops start → IsBlock d c i →
    K5 d c i → KeepsBlock d q (record { stops = stops; start = start }) c.grain
from_rule d c i q stops start is t block k = record {
  at_block = k.grain block;
  shape = k.shape q block is;
  quiet = λ p place. sym (late_told (t.at p) ∙ ap has_late_effect_at (t.says p)) ∙ k.quiet (t.at p) block (place_back d i q stops start t is p place);
  text = (
    λ r c. elim (either_signal (statement_writes q.body) r.signal) [
      | inl s ↦ inl s
      | inr not_written ↦ inr (λ b bit has.
          elim (k.covered r b block (subst (λ (l : List BitRange). Contains l r) (sym (ap reads_for is)) c, tt) bit has) [
            | inl w ↦ absurd (not_written (subst (HasSignal (statement_writes q.body)) (sym (parted r b.signal b.word b.place has).of) (writes_on d i q is b.signal w)))
            | inr x ↦ (x.0, (terms_exact d i q stops start t is x.0).1 x.1, x.2)
          ])
    ],
    λ b bit written p u. (
      λ s. k.before_reads b (t.at p) s.0 block bit (writes_back d i q is b.signal written) (unwritten_back d i q stops start t is b p u)
          (subst (λ (l : List BitRange). Contains l s.0) (sym (reads_here q.body stops start t p)) s.1, tt) s.2,
      end_none q stops start t p (pause_of (stop_statement (stop_at stops p))) refl
          (λ next goes not_plain. k.before_end b (t.at p) next block bit (writes_back d i q is b.signal written) (unwritten_back d i q stops start t is b p u) goes not_plain),
    ),
  );
}

pub blocks_by_places : BlocksByPlaces
blocks_by_places d c i q stops start is t = record {
  blocks = λ block. (to_rule d c i q stops start is t, from_rule d c i q stops start is t block);
  others = λ other. record {
    grain = λ block. absurd (other block);
    shape = λ p block at. absurd (other block);
    quiet = λ k block point. absurd (other block);
    covered = λ r b block lists bit has. absurd (other block);
    before_reads = λ b k r block bit writes unwritten reads same. other block;
    before_end = λ b k next block bit writes unwritten goes not_plain. other block;
  };
}

-- a process of a list, by what is read there
pub kept_is : (d : Parts) (c : Claims) (i : ℕ) (e : Parts) (ps : List Process) (q : Process) (t : Chart) (grain : Grain) → e ≡ d → ps ≡ e.processes → i < length ps → q ≡ get_or ps i q →
    ((p : Process) → slice_get d.processes i ≡ Some p → IsText p.body t.stops t.start) → grain ≡ c.grain → IsBlock d c i → (good : Bool) → (IsTrue good ↔ KeepsBlock e q t grain) →
    (IsTrue good ↔ K5 d c i)
kept_is d c i e ps q t grain same list within read text at block good h =
    let is : slice_get d.processes i ≡ Some q =
    ap (λ (x : Parts). slice_get x.processes i) (sym same) ∙ ap (λ (l : List Process). slice_get l i) (sym list) ∙ slice_get_read ps (length ps) i q refl within read in
    let rule : (KeepsBlock d q t c.grain ↔ K5 d c i) = (blocks_by_places d c i q t.stops t.start is (text q is)).blocks block in
    let here : (IsTrue good ↔ KeepsBlock d q t c.grain) =
    subst (λ (x : Parts). (IsTrue good ↔ KeepsBlock x q t c.grain)) same (subst (λ (g : Grain). (IsTrue good ↔ KeepsBlock e q t g)) at h) in
    (λ y. rule.0 (here.0 y), λ k. here.1 (rule.1 k))
