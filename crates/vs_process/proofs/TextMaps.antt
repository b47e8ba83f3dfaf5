-- The stops of a code are a map of its text.
use Rattle.std.proofs.Common.{◌≡◌, ℕ, zero, suc, ◌++◌, ◌<◌, ◌≤◌, inl, inr, Bool, true, false, Option, Some, None, List, [], ◌∷◌, map, length, slice_get, refl, sym, ◌∙◌, ap, ap₂, subst, arith, if◌then◌else◌, nat_le}
use Rattle.std.specs.Prelude.{option_map}
use Rattle.std.specs.List.{Contains, list_any}
use Rattle.std.proofs.lemmas.List.{map-append, length-map}
use Rattle.std.proofs.lemmas.Option.{slice_get_past, slice_get_cases, slice_get-map}
use Rattle.vs_design.specs.WellFormed.{numbers, counts_from}
use Rattle.vs_design.specs.declared.statement.Statement.{Statement}
use Rattle.vs_design.specs.declared.statement.Statement.TheOpen.{Statement-F}
use Rattle.vs_design.specs.declared.statement.Statement.TheViews.{out-Statement}
use Rattle.vs_process.specs.declared.draft.Op.{Op}
use Rattle.vs_process.specs.declared.draft.Task.{Task}
use Rattle.vs_process.specs.declared.draft.Task.TheVariants.{Perform, Turns}
use Rattle.vs_process.specs.Extras.{starts_in}
use Rattle.vs_process.specs.Places.{Todo, flat}
use Rattle.vs_process.specs.Steps.{Next, is_default}
use Rattle.vs_process.specs.Links.{Link, item_of, todo_from, todo_within}
use Rattle.vs_process.specs.Codes.{IsCodeOf, links_of, link_of, job_of}
use Rattle.vs_process.specs.Ways.{Way, Pause, none, way_on, past_ways, statement_ways, task_ways, op_ways, ways, point_at, next_by, next_at}
use Rattle.vs_process.proofs.Links.{todo_here}
use Rattle.vs_process.proofs.Drafts.{link_here}
use Rattle.vs_process.proofs.Ways.{has_ways, link_none}
use Rattle.vs_process.proofs.Numbers.{one_place}
use Rattle.vs_process.specs.Maps.{statement_pause, todo_pause, IsMap}
use Rattle.vs_process.specs.Stops.{inside, code_tos, op_next, code_next, Stop, stop_of, stop_at, stop_next, stop_tos, stop_statement, stops_next, stops_tos, next_statement, task_statement, IsText, code_stops, tos_in}

-- ---- places past the end

-- after the last instruction nothing is to be done
past_end : (ops : List Op) (i : ℕ) → slice_get ops i ≡ None → point_at (links_of ops) (suc i) ≡ []
past_end ops i e = ap (λ (l : Option Link). todo_from [] (λ p. todo_within i (links_of ops) [] p) l) (link_none ops i e)

inside_cases : (b : Bool) (ops : List Op) (place : ℕ) → nat_le place (length ops) ≡ b → point_at (links_of ops) (if b then place else 0) ≡ point_at (links_of ops) place
inside_cases true ops place e = refl
inside_cases false ops zero e = refl
inside_cases false ops (suc i) e = sym (past_end ops i (slice_get_past ops i (grind (arith, e))))

inside_same : (ops : List Op) (place : ℕ) → point_at (links_of ops) (inside (length ops) place) ≡ point_at (links_of ops) place
inside_same ops place = inside_cases (nat_le place (length ops)) ops place refl

inside_in : (n place : ℕ) → inside n place < suc n
inside_in n place = go (nat_le place n) refl where
  go : (b : Bool) → nat_le place n ≡ b → (if b then place else 0) < suc n
  go true e = grind (arith, e)
  go false e = omega arith

-- ---- all ways of a place go on alike

abbrev Alike : Pause → List Way → Type 0
Alike pause ws = (links : List Link) → map (next_at links) ws ≡ map (λ (w : Way). next_by pause (point_at links w.to)) ws

on_alike : (starts : List ℕ) → Alike none (map way_on starts)
on_alike [] links = refl
on_alike (p ∷ starts) links = ap (λ (l : List Next). next_by none (point_at links p) ∷ l) (on_alike starts links)

past_alike : (b : Bool) (behind : ℕ) → Alike none (past_ways b behind)
past_alike true behind links = refl
past_alike false behind links = refl

joined_alike : (xs ys : List Way) → Alike none xs → Alike none ys → Alike none (xs ++ ys)
joined_alike xs ys a b links = map-append (next_at links) xs ys ∙ ap₂ (λ (l r : List Next). l ++ r) (a links) (b links) ∙ sym (map-append (λ (w : Way). next_by none (point_at links w.to)) xs ys)

statement_alike : (x : Op) (f : Statement-F Statement) → Alike (statement_pause f) (statement_ways x f)
statement_alike x (Statement-F.Null n) links = refl
statement_alike x (Statement-F.Assign n t e) links = refl
statement_alike x (Statement-F.Later n ticks t e) links = refl
statement_alike x (Statement-F.Call n c) links = refl
statement_alike x (Statement-F.Finish n) links = refl
statement_alike x (Statement-F.Block all) links = refl
statement_alike x (Statement-F.Delay n ticks body) links = refl
statement_alike x (Statement-F.Event n terms body) links = refl
statement_alike x (Statement-F.If n e a b) links = refl
statement_alike x (Statement-F.Case n kind e items) links =
    joined_alike (map way_on (starts_in x)) (past_ways (list_any is_default items.items) x.behind) (on_alike (starts_in x)) (past_alike (list_any is_default items.items) x.behind) links
statement_alike x (Statement-F.While n e body) links = refl
statement_alike x (Statement-F.Repeat n signed e body) links = refl
statement_alike x (Statement-F.Forever n body) links = refl

task_alike : (x : Op) (task : Task) (rest : Todo) → Alike (todo_pause (item_of [] (job_of x.counter task) ∷ rest)) (task_ways x task)
task_alike x (Perform s) rest links = statement_alike x (out-Statement s.now) links
task_alike x (Turns s) rest links = refl

-- at a place of an instruction its thing is to be done
here : (s : Statement) (ops : List Op) (n start i : ℕ) (x : Op) → IsCodeOf s ops n start → slice_get ops i ≡ Some x →
    point_at (links_of ops) (suc i) ≡ item_of [] (job_of x.counter x.task) ∷ point_at (links_of ops) x.behind
here s ops n start i x h e = todo_here (links_of ops) [] i (link_of x) h.code.linked (link_here ops i x e)

op_alike : (s : Statement) (ops : List Op) (n start i : ℕ) (o : Option Op) → IsCodeOf s ops n start → slice_get ops i ≡ o → Alike (todo_pause (point_at (links_of ops) (suc i))) (op_ways o)
op_alike s ops n start i None h e = subst (λ (t : Todo). Alike (todo_pause t) (way_on 0 ∷ [])) (sym (past_end ops i e)) (λ links. refl)
op_alike s ops n start i (Some x) h e = subst (λ (t : Todo). Alike (todo_pause t) (task_ways x x.task)) (sym (here s ops n start i x h e)) (task_alike x x.task (point_at (links_of ops) x.behind))

code_alike : (s : Statement) (ops : List Op) (n start p : ℕ) → IsCodeOf s ops n start → Alike (todo_pause (point_at (links_of ops) p)) (ways ops p)
code_alike s ops n start zero h = λ links. refl
code_alike s ops n start (suc i) h = op_alike s ops n start i (slice_get ops i) h refl

-- ---- the map

to_inside : (ops : List Op) (pause : Pause) (ws : List Way) →
    map (λ (w : Way). next_by pause (point_at (links_of ops) w.to)) ws ≡ map (λ (t : ℕ). next_by pause (point_at (links_of ops) t)) (map (λ (w : Way). inside (length ops) w.to) ws)
to_inside ops pause [] = refl
to_inside ops pause (w ∷ ws) = ap₂ (λ (n : Next) (l : List Next). n ∷ l) (ap (next_by pause) (sym (inside_same ops w.to))) (to_inside ops pause ws)

-- the tail of what is to be done
abbrev tail_of : Todo → Todo
tail_of [] = []
tail_of (i ∷ rest) = rest

rest_of : (s : Statement) (ops : List Op) (n start i : ℕ) (o : Option Op) → IsCodeOf s ops n start → slice_get ops i ≡ o →
    point_at (links_of ops) (op_next o) ≡ tail_of (point_at (links_of ops) (suc i))
rest_of s ops n start i None h e = sym (ap tail_of (past_end ops i e))
rest_of s ops n start i (Some x) h e = sym (ap tail_of (here s ops n start i x h e))

code_rest : (s : Statement) (ops : List Op) (n start p : ℕ) → IsCodeOf s ops n start → point_at (links_of ops) (code_next ops p) ≡ tail_of (point_at (links_of ops) p)
code_rest s ops n start zero h = refl
code_rest s ops n start (suc i) h = rest_of s ops n start i (slice_get ops i) h refl

pub code_map : (s : Statement) (ops : List Op) (n start : ℕ) → IsCodeOf s ops n start → counts_from 0 (numbers s) ≡ true →
    IsMap (flat s) (point_at (links_of ops)) (inside (length ops) start) (code_next ops) (code_tos ops)
code_map s ops n start h counts = record {
  start_is = inside_same ops start ∙ (has_ways s ops n start h).starts;
  ways = λ p. (has_ways s ops n start h).ways p ∙ code_alike s ops n start p h (links_of ops) ∙ to_inside ops (todo_pause (point_at (links_of ops) p)) (ways ops p);
  rest = λ p i rest e. code_rest s ops n start p h ∙ ap tail_of e;
  stays = λ p e. code_rest s ops n start p h ∙ ap tail_of e;
  one = one_place s ops n start h counts;
}

-- ---- the map as data

long_as : (ops : List Op) (stops : List Stop) → stops ≡ code_stops ops → length stops ≡ length ops
long_as ops stops e = ap length e ∙ length-map ops (stop_of (length ops))

each_as : (ops : List Op) (stops : List Stop) → stops ≡ code_stops ops → (i : ℕ) (x : Op) → slice_get ops i ≡ Some x → slice_get stops i ≡ Some (stop_of (length ops) x)
each_as ops stops e i x is = ap (λ (l : List Stop). slice_get l i) e ∙ slice_get-map (stop_of (length ops)) ops i ∙ ap (option_map (stop_of (length ops))) is

stops_none : (ops : List Op) (stops : List Stop) (i : ℕ) → stops ≡ code_stops ops → length ops ≤ i → slice_get stops i ≡ None
stops_none ops stops i a e = slice_get_past stops i (omega (arith, (long_as ops stops a), e))

none_inside : (n : ℕ) → inside n 0 ≡ 0
none_inside n = go (nat_le 0 n) where
  go : (b : Bool) → ◌≡◌ {A = ℕ} (if b then 0 else 0) 0
  go true = refl
  go false = refl

-- a stop is that of its instruction
record AtStop (ops : List Op) (stops : List Stop) (p : ℕ) : Type 0 where
  behind : stops_next stops p ≡ code_next ops p
  tos : stops_tos stops p ≡ code_tos ops p
  says : next_statement (point_at (links_of ops) p) ≡ stop_statement (stop_at stops p)

said : (x : Op) (task : Task) (rest : Todo) → next_statement (item_of [] (job_of x.counter task) ∷ rest) ≡ task_statement task
said x (Perform s) rest = refl
said x (Turns s) rest = refl

at_stop : (s : Statement) (ops : List Op) (n start : ℕ) (stops : List Stop) → IsCodeOf s ops n start → stops ≡ code_stops ops → (p : ℕ) → AtStop ops stops p
at_stop s ops n start stops h a zero = record { behind = refl; tos = ap (λ (t : ℕ). t ∷ []) (sym (none_inside (length ops))); says = refl }
at_stop s ops n start stops h a (suc i) = elim (slice_get_cases ops i).1 [
  | inl y ↦ record {
    behind = ap stop_next (each_as ops stops a i y.0 y.2) ∙ sym (ap op_next y.2);
    tos = ap stop_tos (each_as ops stops a i y.0 y.2) ∙ sym (ap (λ (o : Option Op). tos_in (length ops) (op_ways o)) y.2);
    says = ap next_statement (here s ops n start i y.0 h y.2) ∙ said y.0 y.0.task (point_at (links_of ops) y.0.behind) ∙ sym (ap stop_statement (each_as ops stops a i y.0 y.2));
  }
  | inr z ↦ record {
    behind = ap stop_next (stops_none ops stops i a z.0) ∙ sym (ap op_next z.1);
    tos = ap stop_tos (stops_none ops stops i a z.0) ∙ ap (λ (t : ℕ). t ∷ []) (sym (none_inside (length ops))) ∙ sym (ap (λ (o : Option Op). map (λ (w : Way). inside (length ops) w.to) (op_ways o)) z.1);
    says = ap next_statement (past_end ops i z.1) ∙ sym (ap stop_statement (stops_none ops stops i a z.0));
  }
]

map_in : (n : ℕ) (ws : List Way) (q : ℕ) → Contains (map (λ (w : Way). inside n w.to) ws) q → q < suc n
map_in n [] q h = absurd (omega (arith, h.1))
map_in n (w ∷ ws) q (zero, l, e) = subst (λ (x : ℕ). x < suc n) e (inside_in n w.to)
map_in n (w ∷ ws) q (suc k, l, e) = map_in n ws q (k, omega (arith, l), e)

put_headed_within : (s : Statement) (ops : List Op) (n start : ℕ) (h : IsCodeOf s ops n start) (p : ℕ) → code_next ops p < suc (length ops)
put_headed_within s ops n start h zero = omega arith
put_headed_within s ops n start h (suc i) = elim (slice_get_cases ops i).1 [
  | inl y ↦ let b = h.code.linked i (link_of y.0) (link_here ops i y.0 y.2) in subst (λ (o : Option Op). op_next o < suc (length ops)) (sym y.2) (omega (arith, b, y.1))
  | inr z ↦ subst (λ (o : Option Op). op_next o < suc (length ops)) (sym z.1) (omega arith)
]

pub code_text : (s : Statement) (ops : List Op) (n start : ℕ) (stops : List Stop) → IsCodeOf s ops n start → counts_from 0 (numbers s) ≡ true → stops ≡ code_stops ops →
    IsText s stops (inside (length ops) start)
code_text s ops n start stops h counts a =
    let m = code_map s ops n start h counts in
    let at : ℕ → Todo = point_at (links_of ops) in record {
      at = at;
      is_map = record {
        start_is = m.start_is;
        ways = λ p. m.ways p ∙ ap (map (λ (t : ℕ). next_by (todo_pause (point_at (links_of ops) p)) (point_at (links_of ops) t))) (sym (at_stop s ops n start stops h a p).tos);
        rest = λ p i rest e. ap at (at_stop s ops n start stops h a p).behind ∙ m.rest p i rest e;
        stays = λ p e. ap at (at_stop s ops n start stops h a p).behind ∙ m.stays p e;
        one = m.one;
      };
      says = λ p. (at_stop s ops n start stops h a p).says;
      starts_in = subst (λ (n : ℕ). inside (length ops) start < suc n) (sym (long_as ops stops a)) (inside_in (length ops) start);
      leads_in = record {
        ways = λ p q c. subst (λ (n : ℕ). q < suc n) (sym (long_as ops stops a)) (map_in (length ops) (ways ops p) q (subst (λ (l : List ℕ). Contains l q) (at_stop s ops n start stops h a p).tos c));
        behind = λ p. subst (λ (n : ℕ). n < suc (length stops)) (sym (at_stop s ops n start stops h a p).behind) (subst (λ (n : ℕ). code_next ops p < suc n) (sym (long_as ops stops a)) (put_headed_within s ops n start h p));
      };
    }
