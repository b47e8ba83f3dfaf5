-- The event controls of a text are told apart by their numbers.
use Rattle.std.proofs.Common.{◌≡◌, ℕ, Option, Some, None, List, refl, sym, ◌∙◌, ap}
use Rattle.std.specs.Prelude.{slice_get, option_map}
use Rattle.std.proofs.lemmas.Option.{none-some, same_Some, slice_get-map}
use Rattle.vs_design.specs.declared.statement.EventTerm.{EventTerm}
use Rattle.vs_design.specs.declared.statement.Statement.{Statement}
use Rattle.vs_design.specs.declared.statement.Statement.TheOpen.{Statement-F}
use Rattle.vs_design.specs.declared.statement.Statement.TheViews.{out-Statement}
use Rattle.vs_process.specs.Links.{Job, Link, performs, tests}
use Rattle.vs_process.specs.Numbers.{number_at, number_of}
use Rattle.vs_process.specs.Texts.{AreApart, Control, HasControl, Text, job_control, layer_control, link_control}

layer_number : (f : Statement-F Statement) (k : Control) → layer_control f ≡ Some k → number_of f ≡ Some k.0
layer_number (Statement-F.Event n terms body) k h = ap (λ (c : Control). Some c.0) (same_Some (n, terms.items) k h)
layer_number (Statement-F.Null m) k h = absurd (none-some k h)
layer_number (Statement-F.Assign m t v) k h = absurd (none-some k h)
layer_number (Statement-F.Later m ticks t v) k h = absurd (none-some k h)
layer_number (Statement-F.Call m call) k h = absurd (none-some k h)
layer_number (Statement-F.Finish m) k h = absurd (none-some k h)
layer_number (Statement-F.Block all) k h = absurd (none-some k h)
layer_number (Statement-F.Delay m ticks body) k h = absurd (none-some k h)
layer_number (Statement-F.If m v p q) k h = absurd (none-some k h)
layer_number (Statement-F.Case m kind v items) k h = absurd (none-some k h)
layer_number (Statement-F.While m v body) k h = absurd (none-some k h)
layer_number (Statement-F.Repeat m signed v body) k h = absurd (none-some k h)
layer_number (Statement-F.Forever m body) k h = absurd (none-some k h)

job_number : (j : Job) (k : Control) → job_control j ≡ Some k → number_at j ≡ Some k.0
job_number (performs s) k h = layer_number (out-Statement s) k h
job_number (tests m s) k h = absurd (none-some k h)

-- a link that is found
record Found (links : List Link) (i : ℕ) (k : Control) : Type 0 where
  link : Link
  at : slice_get links i ≡ Some link
  control : link_control link ≡ Some k

found_in : (links : List Link) (i : ℕ) (k : Control) (o : Option Link) → slice_get links i ≡ o → option_map link_control o ≡ Some (Some k) → Found links i k
found_in links i k None at h = absurd (none-some (Some k) h)
found_in links i k (Some l) at h = record { link = l; at = at; control = same_Some (link_control l) (Some k) h }

found : (c : Text) (n : ℕ) (terms : List EventTerm) (h : HasControl c n terms) → Found c.links h.index (n, terms)
found c n terms h = found_in c.links h.index (n, terms) (slice_get c.links h.index) refl (sym (slice_get-map link_control c.links h.index) ∙ h.at)

pub controls_at_one : (c : Text) (n : ℕ) (terms others : List EventTerm) → AreApart c.links → (a : HasControl c n terms) → (b : HasControl c n others) → a.index ≡ b.index
controls_at_one c n terms others apart a b =
    let k = found c n terms a in
    let l = found c n others b in
    apart a.index b.index n k.link l.link k.at l.at (job_number k.link.job (n, terms) k.control) (job_number l.link.job (n, others) l.control)

pub controls_apart : (c : Text) (n : ℕ) (terms others : List EventTerm) → AreApart c.links → HasControl c n terms → HasControl c n others → terms ≡ others
controls_apart c n terms others apart a b =
    let k = found c n terms a in
    let l = found c n others b in
    let is : k.link ≡ l.link = same_Some k.link l.link (sym k.at ∙ ap (slice_get c.links) (controls_at_one c n terms others apart a b) ∙ l.at) in
    ap (λ (d : Control). d.1) (same_Some (n, terms) (n, others) (sym k.control ∙ ap (λ (m : Link). link_control m) is ∙ l.control))
