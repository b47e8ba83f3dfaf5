-- Beginnings of the line that says what a tick stands for.
use Rattle.std.proofs.Common.{◌≡◌, inl, inr, ℕ, Bool, List, ◌++◌, codes, drop, sym, ap, ◌∙◌}
use Rattle.vs_design.specs.declared.timescale.Magnitude.TheVariants.{One}
use Rattle.vs_design.specs.declared.timescale.TimeUnit.TheVariants.{Second}
use Rattle.vs_design.specs.declared.timescale.TimeSpan.{TimeSpan}
use Rattle.vs_vcd_lines.specs.vs_vcd_writing.specs.Text.{span_text}
use Rattle.vs_vcd_lines.specs.Lines.{span_line}
use Rattle.vs_vcd_lines.specs.Beginnings.{Begins, BeginsSpan}
use Rattle.vs_vcd_lines.proofs.TextLemmas.{begins_more, begins_nil, either_begins, Tells}
use Rattle.vs_vcd_reader.specs.Steps.{Item, Place, Step, line_of}
use Rattle.vs_vcd_reader.specs.Steps.{Item as i, Place as p, Step as s}
use Rattle.vs_vcd_reader.specs.Stops.{GoesOn}

tick_by : (part rest : List ℕ) (x : Item) (next : Place) → Step p.Start x next → part ++ rest ≡ line_of x → (span : TimeSpan) × Begins part (span_line span)
tick_by part rest _ _ (s.tick span) is = (span, (rest, sym is))

tick_with : (part : List ℕ) (span : TimeSpan) → Begins part (span_line span) → GoesOn p.Start part
tick_with part span h =
    inr (record { rest = h.0; follows = record { item = i.Tick span; next = p.Top; step = s.tick span; is = sym h.1 } })

span_by : (part rest : List ℕ) → part ≡ codes "$timescale " ++ rest → GoesOn p.Start part → BeginsSpan rest
span_by part rest is (inl none) = absurd (let e = sym is ∙ none in cc)
span_by part rest is (inr h) =
    let t = tick_by part h.rest h.follows.item h.follows.next h.follows.step h.follows.is in
    (t.0, (t.1.0, ap (drop 11) (t.1.1 ∙ ap (λ l. l ++ t.1.0) is)))

pub tick_after : (part rest : List ℕ) (b : Bool) → part ≡ codes "$timescale " ++ rest → Tells b (BeginsSpan rest) → Tells b (GoesOn p.Start part)
tick_after part rest b is tells = (
  λ e.
      let h = tells.0 e in
      tick_with part h.0 (h.1.0, ap (λ l. codes "$timescale " ++ l) h.1.1 ∙ ap (λ l. l ++ h.1.0) (sym is)),
  λ g. tells.1 (span_by part rest is g),
)

word_by : (part : List ℕ) → ((rest : List ℕ) → part ≡ codes "$timescale " ++ rest → ⊥) → GoesOn p.Start part → Begins part (codes "$timescale ")
word_by part none (inl nil) = begins_nil part (codes "$timescale ") nil
word_by part none (inr h) =
    let t = tick_by part h.rest h.follows.item h.follows.next h.follows.step h.follows.is in
    elim (either_begins part t.1.0 (codes "$timescale ") (span_text t.0 ++ codes " $end") (sym t.1.1)) [
      | inl begins ↦ begins
      | inr other ↦ absurd (none other.0 other.1)
    ]

pub tick_before : (part : List ℕ) (b : Bool) → ((rest : List ℕ) → part ≡ codes "$timescale " ++ rest → ⊥) → Tells b (Begins part (codes "$timescale "))
    → Tells b (GoesOn p.Start part)
tick_before part b none tells = (
  λ e. tick_with part (record { magnitude = One; unit = Second }) (begins_more part (codes "$timescale ") (codes "1 s $end") (tells.0 e)),
  λ g. tells.1 (word_by part none g),
)
