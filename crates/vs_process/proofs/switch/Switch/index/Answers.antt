use Rattle.std.proofs.Common.{◌≡◌, ℕ, List, sym, ap, subst, ◌∙◌}
use Rattle.std.specs.List.{All}
use Rattle.std.proofs.lemmas.List.Elements.{All-weaker}
use Rattle.vs_design.specs.vs_logic4.specs.declared.digit.Digit.{Digit}
use Rattle.vs_design.specs.declared.expression.Typed.{Typed}
use Rattle.vs_design.specs.declared.signal.Signal.{Signal}
use Rattle.vs_design.specs.InOrder.{IsStoreOf}
use Rattle.vs_eval.specs.Meant.{Meaning}
use Rattle.vs_strobe.specs.vs_eval.specs.Values.{value_of}
use Rattle.vs_process.specs.declared.switch.Labels.{Labels}
use Rattle.vs_process.specs.Switches.{AreOfSignals, any_index, switch_index, table_index}
use Rattle.vs_process.proofs.switch.Switch.index.Goals as goal

pub walked-requires : goal.walked-requires
walked-requires c =
    let s = c.args.self.now in
    let known = subst (λ (l : Labels). AreOfSignals s.subject.signals l) c.in-Any.is s.made.known in
    subst (λ (l : List (Meaning × ℕ)). All (λ (x : Meaning × ℕ). IsStoreOf x.0.signals c.args.store.now) l) (sym c.deref-in-Any.ensures.value)
    (All-weaker (λ (x : Meaning × ℕ). x.0.signals ≡ s.subject.signals) (λ (x : Meaning × ℕ). IsStoreOf x.0.signals c.args.store.now)
    (λ x same. subst (λ (ss : List Signal). IsStoreOf ss c.args.store.now) (sym same) c.requires) c.in-Any.labels.items known)

pub returns-in-Numbers : goal.returns-in-Numbers
returns-in-Numbers c =
    let s = c.args.self.now in
    c.looked_up.ensures
    ∙ ap (λ (ds : List Digit). table_index ds c.in-Numbers.width c.deref.result.now s.otherwise)
    (c.value-digits.ensures ∙ ap (λ (e : Typed). value_of e c.args.store.now c.args.time) s.made.same)
    ∙ ap (λ (l : List ℕ). table_index (value_of s.case.e.now c.args.store.now c.args.time) c.in-Numbers.width l s.otherwise) c.deref.ensures.value
    ∙ ap (λ (l : Labels). switch_index s.case.kind (value_of s.case.e.now c.args.store.now c.args.time) c.args.store.now c.args.time l s.otherwise) (sym c.in-Numbers.is)
    ∙ s.made.leads c.args.store.now c.args.time

pub returns-in-Any : goal.returns-in-Any
returns-in-Any c =
    let s = c.args.self.now in
    c.walked.ensures
    ∙ ap (λ (ds : List Digit). any_index s.case.kind ds c.args.store.now c.args.time c.deref-in-Any.result.now s.otherwise)
    (c.value-digits.ensures ∙ ap (λ (e : Typed). value_of e c.args.store.now c.args.time) s.made.same)
    ∙ ap (λ (l : List (Meaning × ℕ)). any_index s.case.kind (value_of s.case.e.now c.args.store.now c.args.time) c.args.store.now c.args.time l s.otherwise) c.deref-in-Any.ensures.value
    ∙ ap (λ (l : Labels). switch_index s.case.kind (value_of s.case.e.now c.args.store.now c.args.time) c.args.store.now c.args.time l s.otherwise) (sym c.in-Any.is)
    ∙ s.made.leads c.args.store.now c.args.time
