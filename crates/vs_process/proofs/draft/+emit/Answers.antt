use Rattle.std.proofs.Common.{ℕ, inl, inr, ◌≢◌, Some, slice_get, add-one, Global, ◌-◌, rules, ap, ap₂, refl, sym, ◌∙◌, ◌++◌, ◌≡◌, ◌∷◌, [], ◌<◌, ◌+◌, length, arith, subst, take, drop, List}
use Rattle.std.specs.Prelude.{Vec}
use Rattle.std.proofs.Math.Seq.{drop-length}
use Rattle.std.proofs.lemmas.List.{take_more}
use Rattle.vs_design.specs.WellFormed.{numbers}
use Rattle.vs_design.specs.declared.expression.Typed.{Typed}
use Rattle.vs_design.specs.declared.statement.Statement.{Statement}
use Rattle.vs_design.specs.declared.statement.Statement.TheFolds as folds
use Rattle.vs_design.specs.declared.statement.Statement.TheVariants as d
use Rattle.vs_design.specs.declared.statement.Statement.TheViews.{out-Statement}
use Rattle.vs_process.specs.Places.{Todo, flat}
use Rattle.vs_design.specs.declared.statement.Statement.TheOpen.{Statement-F}
use Rattle.vs_process.specs.Links.{Leads}
use Rattle.vs_process.specs.Codes.{LeadAll}
use Rattle.vs_process.specs.declared.draft.Op.{Op}
use Rattle.vs_process.specs.declared.draft.Draft.{Draft}
use Rattle.vs_process.specs.Drafts.{flat_all, numbers_all, numbers_in, IsEmitted, drafted, IsReady, Written, AlwaysLeadAll, AlwaysLeads, AlwaysTurn, Adds, numbers_inside}
use Rattle.vs_process.proofs.Shapes.{flat-Block, flat_all-drop, layer_of}
use Rattle.vs_process.proofs.Drafts.{always_later, none_ok, ok_after, emitted_none, emitted_then, ready_more, written_then, grows_then, lead_all-snoc, written_raised}
use Rattle.vs_process.proofs.Heads.{next_of_layer, head_ready, test_ready, emitted_loop, emitted_turns, plain_known, control_known, known_next, loop_of}
use Rattle.vs_process.proofs.Numbers.{adds_head, adds_item, adds_none, adds_same, adds_test, adds_then, inside-Case, inside-If, inside-Repeat, numbers-Block, numbers_all-drop, ok_known, ok_single, ok_whole}
use Rattle.vs_process.proofs.draft.+emit.Goals as goal

pub emit-returns-in-Block-clause-emitted : goal.emit-returns-in-Block-clause-emitted
emit-returns-in-Block-clause-emitted t c = rw (c.in-Block.is, flat-Block) (rw c.deref.ensures.value at c.emit_all.ensures.emitted)

pub emit-returns-in-Block-clause-numbers : goal.emit-returns-in-Block-clause-numbers
emit-returns-in-Block-clause-numbers t c = rw (c.in-Block.is, numbers-Block) (rw c.deref.ensures.value at c.emit_all.ensures.numbers)

pub emit-returns-in_ok-first-in-Delay-clause-emitted : goal.emit-returns-in_ok-first-in-Delay-clause-emitted
emit-returns-in_ok-first-in-Delay-clause-emitted t c =
    ok_after c.args.draft.now c.emit-in-Delay.new.draft c.put_statement-in-Delay.new.draft (flat c.args.s.now) c.args.next c.put_statement-in-Delay.result
    c.in_ok-first-in-Delay.ensures.emitted.written c.put_statement-in-Delay.ensures.emitted

pub emit-returns-in_ok-first-in-Delay-clause-numbers : goal.emit-returns-in_ok-first-in-Delay-clause-numbers
emit-returns-in_ok-first-in-Delay-clause-numbers t c =
    ok_known c.args.draft.now c.emit-in-Delay.new.draft c.put_statement-in-Delay.new.draft c.args.s.now (numbers c.deref-in-Delay.result.now) c.put_statement-in-Delay.result
    ((control_known c.args.s.now c.in-Delay.body c.in-Delay.is).inside ∙ ap numbers (sym c.deref-in-Delay.ensures)) c.in_ok-first-in-Delay.ensures.numbers c.put_statement-in-Delay.ensures.number

pub emit-returns-in_ok-starts-in-Case-clause-emitted : goal.emit-returns-in_ok-starts-in-Case-clause-emitted
emit-returns-in_ok-starts-in-Case-clause-emitted t c =
    ok_after c.args.draft.now c.emit_items.new.draft c.put_statement-in-Case.new.draft (flat c.args.s.now) c.args.next c.put_statement-in-Case.result
    c.in_ok-starts-in-Case.ensures.written c.put_statement-in-Case.ensures.emitted

pub emit-returns-in_ok-starts-in-Case-clause-numbers : goal.emit-returns-in_ok-starts-in-Case-clause-numbers
emit-returns-in_ok-starts-in-Case-clause-numbers t c =
    ok_whole c.args.draft.now c.emit_items.new.draft c.put_statement-in-Case.new.draft c.args.s.now c.put_statement-in-Case.result
    (subst (λ (ns : List ℕ). Adds c.args.draft.now c.emit_items.new.draft ns)
    (sym (ap (λ (s : Statement). numbers_inside (out-Statement s)) c.in-Case.is ∙ inside-Case _ _ _ _ ∙ ap numbers_in (sym c.deref-in-Case.ensures.value)))
    c.in_ok-starts-in-Case.ensures.numbers)
    c.put_statement-in-Case.ensures.number

pub emit-returns-in_ok-first-in-Repeat-clause-emitted : goal.emit-returns-in_ok-first-in-Repeat-clause-emitted
emit-returns-in_ok-first-in-Repeat-clause-emitted t c =
    ok_after c.args.draft.now c.emit_turns.new.draft c.put_statement-in-Repeat.new.draft (flat c.args.s.now) c.args.next c.put_statement-in-Repeat.result
    c.in_ok-first-in-Repeat.ensures.written c.put_statement-in-Repeat.ensures.emitted

pub emit-returns-in_ok-first-in-Repeat-clause-numbers : goal.emit-returns-in_ok-first-in-Repeat-clause-numbers
emit-returns-in_ok-first-in-Repeat-clause-numbers t c =
    ok_whole c.args.draft.now c.emit_turns.new.draft c.put_statement-in-Repeat.new.draft c.args.s.now c.put_statement-in-Repeat.result
    (subst (λ (ns : List ℕ). Adds c.args.draft.now c.emit_turns.new.draft ns)
    (sym (ap (λ (s : Statement). numbers_inside (out-Statement s)) c.in-Repeat.is ∙ inside-Repeat _ _ _ _ ∙ ap numbers (sym c.deref-in-Repeat.ensures)))
    c.in_ok-first-in-Repeat.ensures.numbers)
    c.put_statement-in-Repeat.ensures.number

pub emit-returns-in_ok-first-in-If-clause-emitted : goal.emit-returns-in_ok-first-in-If-clause-emitted
emit-returns-in_ok-first-in-If-clause-emitted t c =
    ok_after c.args.draft.now c.emit-in-If.new.draft c.put_statement-in-If.new.draft (flat c.args.s.now) c.args.next c.put_statement-in-If.result
    (written_then c.args.draft.now c.emit.new.draft c.emit-in-If.new.draft c.in_ok-second-in-If.ensures.emitted.written c.in_ok-first-in-If.ensures.emitted.written)
    c.put_statement-in-If.ensures.emitted

pub emit-returns-in_ok-first-in-If-clause-numbers : goal.emit-returns-in_ok-first-in-If-clause-numbers
emit-returns-in_ok-first-in-If-clause-numbers t c =
    ok_whole c.args.draft.now c.emit-in-If.new.draft c.put_statement-in-If.new.draft c.args.s.now c.put_statement-in-If.result
    (subst (λ (ns : List ℕ). Adds c.args.draft.now c.emit-in-If.new.draft ns)
    (sym (ap (λ (s : Statement). numbers_inside (out-Statement s)) c.in-If.is ∙ inside-If _ _ _ _
    ∙ ap₂ (λ (ms ns : List ℕ). ms ++ ns) (ap numbers (sym c.deref-in-If-2.ensures)) (ap numbers (sym c.deref-in-If.ensures))))
    (adds_then c.args.draft.now c.emit.new.draft c.emit-in-If.new.draft _ _ c.in_ok-second-in-If.ensures.numbers c.in_ok-first-in-If.ensures.numbers))
    c.put_statement-in-If.ensures.number

pub emit-put_statement-requires-clause-next : goal.emit-put_statement-requires-clause-next
emit-put_statement-requires-clause-next t c =
    next_of_layer c.args.draft.now _ _ (Statement-F.Call c.in-Call.field-0 c.in-Call.call) (layer_of _ _ _ c.in-Call.is (d.rolls-Call _ _)) refl
    (λ later linked more. c.in_ok-extra-in-Call.ensures)

pub emit-returns-in-Null-clause-numbers : goal.emit-returns-in-Null-clause-numbers
emit-returns-in-Null-clause-numbers t c =
    ok_known c.args.draft.now c.args.draft.now c.put_statement-in-Null.new.draft c.args.s.now [] c.put_statement-in-Null.result
    (plain_known c.args.s.now c.in-Null.is).inside (adds_none c.args.draft.now) c.put_statement-in-Null.ensures.number

pub emit-returns-in_ok-extra-in-Call-clause-numbers : goal.emit-returns-in_ok-extra-in-Call-clause-numbers
emit-returns-in_ok-extra-in-Call-clause-numbers t c =
    ok_single c.args.draft.now c.put_statement.new.draft c.args.s.now (Statement-F.Call c.in-Call.field-0 c.in-Call.call) c.put_statement.result (layer_of _ _ _ c.in-Call.is (d.rolls-Call _ _)) refl c.put_statement.ensures.number

pub emit-put_statement-requires-in-Delay-clause-ready : goal.emit-put_statement-requires-in-Delay-clause-ready
emit-put_statement-requires-in-Delay-clause-ready t c = ready_more c.args.draft.now c.emit-in-Delay.new.draft c.args.next c.args.depth c.requires.ready c.in_ok-first-in-Delay.ensures.emitted.written.more

pub emit-put_statement-requires-in-Delay-clause-next : goal.emit-put_statement-requires-in-Delay-clause-next
emit-put_statement-requires-in-Delay-clause-next t c =
    known_next c.emit-in-Delay.new.draft _ c.args.s.now (λ later x here. Leads later.links (flat c.in-Delay.body.value) x.first x.behind) (numbers c.in-Delay.body.value)
    (control_known c.args.s.now c.in-Delay.body c.in-Delay.is)
    (subst (λ (b : Statement). AlwaysLeads (drafted c.emit-in-Delay.new.draft) (flat b) c.in_ok-first-in-Delay.first c.args.next) c.deref-in-Delay.ensures c.in_ok-first-in-Delay.ensures.emitted.leads)

pub emit-put_statement-requires-in-If-clause-ready : goal.emit-put_statement-requires-in-If-clause-ready
emit-put_statement-requires-in-If-clause-ready t c =
    ready_more c.emit.new.draft c.emit-in-If.new.draft c.args.next c.args.depth
    (ready_more c.args.draft.now c.emit.new.draft c.args.next c.args.depth c.requires.ready c.in_ok-second-in-If.ensures.emitted.written.more)
    c.in_ok-first-in-If.ensures.emitted.written.more

pub emit-put_statement-requires-in-If-clause-next : goal.emit-put_statement-requires-in-If-clause-next
emit-put_statement-requires-in-If-clause-next t c =
    let second : AlwaysLeads (drafted c.emit-in-If.new.draft) (flat c.in-If.b.value) c.in_ok-second-in-If.second c.args.next =
    subst (λ (b : Statement). AlwaysLeads (drafted c.emit-in-If.new.draft) (flat b) c.in_ok-second-in-If.second c.args.next) c.deref-in-If.ensures
    (always_later (λ later. Leads later.links (flat c.deref-in-If.result.now) c.in_ok-second-in-If.second c.args.next) (drafted c.emit.new.draft) (drafted c.emit-in-If.new.draft)
    c.in_ok-first-in-If.ensures.emitted.written.more.grows c.in_ok-second-in-If.ensures.emitted.leads) in
    let first : AlwaysLeads (drafted c.emit-in-If.new.draft) (flat c.in-If.a.value) c.in_ok-first-in-If.first c.args.next =
    subst (λ (b : Statement). AlwaysLeads (drafted c.emit-in-If.new.draft) (flat b) c.in_ok-first-in-If.first c.args.next) c.deref-in-If-2.ensures c.in_ok-first-in-If.ensures.emitted.leads in
    next_of_layer c.emit-in-If.new.draft _ _ (Statement-F.If c.in-If.field-0 c.in-If.field-1 c.in-If.a c.in-If.b) (layer_of _ _ _ c.in-If.is (d.rolls-If _ _ _ _)) refl
    (λ later linked more. (first later linked more, second later linked more))

pub emit-put_statement-requires-in-Case-clause-ready : goal.emit-put_statement-requires-in-Case-clause-ready
emit-put_statement-requires-in-Case-clause-ready t c = ready_more c.args.draft.now c.emit_items.new.draft c.args.next c.args.depth c.requires.ready c.in_ok-starts-in-Case.ensures.written.more

pub emit-put_statement-requires-in-Case-clause-next : goal.emit-put_statement-requires-in-Case-clause-next
emit-put_statement-requires-in-Case-clause-next t c =
    next_of_layer c.emit_items.new.draft _ _ (Statement-F.Case c.in-Case.field-0 c.in-Case.field-1 c.in-Case.field-2 c.in-Case.items) (layer_of _ _ _ c.in-Case.is (d.rolls-Case _ _ _ _)) refl
    (subst (λ (items : List (Vec Typed Global × Statement)). AlwaysLeadAll (drafted c.emit_items.new.draft) items c.in_ok-starts-in-Case.starts.items c.args.next) c.deref-in-Case.ensures.value c.in_ok-starts-in-Case.ensures.leads)

pub emit-put_statement-requires-in-Repeat-clause-ready : goal.emit-put_statement-requires-in-Repeat-clause-ready
emit-put_statement-requires-in-Repeat-clause-ready t c = ready_more c.args.draft.now c.emit_turns.new.draft c.args.next c.args.depth c.requires.ready c.in_ok-first-in-Repeat.ensures.written.more

pub emit-put_statement-requires-in-Repeat-clause-next : goal.emit-put_statement-requires-in-Repeat-clause-next
emit-put_statement-requires-in-Repeat-clause-next t c =
    next_of_layer c.emit_turns.new.draft _ _ (Statement-F.Repeat c.in-Repeat.field-0 c.in-Repeat.field-1 c.in-Repeat.field-2 c.in-Repeat.body) (layer_of _ _ _ c.in-Repeat.is (d.rolls-Repeat _ _ _ _)) refl
    (subst (λ (b : Statement). AlwaysTurn (drafted c.emit_turns.new.draft) c.args.depth b c.in_ok-first-in-Repeat.first c.args.next) c.deref-in-Repeat.ensures c.in_ok-first-in-Repeat.ensures.turn)

pub emit-put_statement-requires-in-Null-clause-next : goal.emit-put_statement-requires-in-Null-clause-next
emit-put_statement-requires-in-Null-clause-next t c = known_next c.args.draft.now _ c.args.s.now (λ later x here. Unit {0}) [] (plain_known c.args.s.now c.in-Null.is) (λ later linked more. tt)

pub emit-emit_all-requires : goal.emit-emit_all-requires
emit-emit_all-requires t c = (search (rules, folds.the_lemmas), c.requires.ready)

pub emit-emit-requires : goal.emit-emit-requires
emit-emit-requires t c = (search (rules, folds.the_lemmas), c.requires.ready)

pub emit-emit-requires-in-If : goal.emit-emit-requires-in-If
emit-emit-requires-in-If t c = (
  search (rules, folds.the_lemmas),
  ready_more c.args.draft.now c.emit.new.draft c.args.next c.args.depth c.requires.ready c.in_ok-second-in-If.ensures.emitted.written.more,
)

pub emit-emit_items-requires : goal.emit-emit_items-requires
emit-emit_items-requires t c = (search (rules, folds.the_lemmas), c.requires.ready)

pub emit-emit_turns-requires : goal.emit-emit_turns-requires
emit-emit_turns-requires t c = (search (rules, folds.the_lemmas), c.requires.ready)

pub emit-emit_loop-requires : goal.emit-emit_loop-requires
emit-emit_loop-requires t c = (
  elim c.in-While.is [ inl w ↦ search (rules, folds.the_lemmas) | inr w ↦ search (rules, folds.the_lemmas) ],
  (c.requires.ready, loop_of c.args.s.now c.in-While.body c.deref-in-While.result.now c.deref-in-While.ensures c.in-While.is),
)

pub emit-emit-requires-in-Delay : goal.emit-emit-requires-in-Delay
emit-emit-requires-in-Delay t c = (elim c.in-Delay.is [ inl w ↦ search (rules, folds.the_lemmas) | inr w ↦ search (rules, folds.the_lemmas) ], c.requires.ready)

pub emit-returns-in_err-extra-in-Call : goal.emit-returns-in_err-extra-in-Call
emit-returns-in_err-extra-in-Call t c = record { emitted = none_ok _ _ c.from_residual.result c.from_residual.ensures.1; numbers = none_ok _ _ c.from_residual.result c.from_residual.ensures.1 }

pub emit-returns-in_err-second-in-If : goal.emit-returns-in_err-second-in-If
emit-returns-in_err-second-in-If t c = record { emitted = none_ok _ _ c.from_residual-in_err-second-in-If.result c.from_residual-in_err-second-in-If.ensures.1; numbers = none_ok _ _ c.from_residual-in_err-second-in-If.result c.from_residual-in_err-second-in-If.ensures.1 }

pub emit-returns-in_err-first-in-If : goal.emit-returns-in_err-first-in-If
emit-returns-in_err-first-in-If t c = record { emitted = none_ok _ _ c.from_residual-in_err-first-in-If.result c.from_residual-in_err-first-in-If.ensures.1; numbers = none_ok _ _ c.from_residual-in_err-first-in-If.result c.from_residual-in_err-first-in-If.ensures.1 }

pub emit-returns-in_err-starts-in-Case : goal.emit-returns-in_err-starts-in-Case
emit-returns-in_err-starts-in-Case t c = record { emitted = none_ok _ _ c.from_residual-in_err-starts-in-Case.result c.from_residual-in_err-starts-in-Case.ensures.1; numbers = none_ok _ _ c.from_residual-in_err-starts-in-Case.result c.from_residual-in_err-starts-in-Case.ensures.1 }

pub emit-returns-in_err-first-in-Repeat : goal.emit-returns-in_err-first-in-Repeat
emit-returns-in_err-first-in-Repeat t c = record { emitted = none_ok _ _ c.from_residual-in_err-first-in-Repeat.result c.from_residual-in_err-first-in-Repeat.ensures.1; numbers = none_ok _ _ c.from_residual-in_err-first-in-Repeat.result c.from_residual-in_err-first-in-Repeat.ensures.1 }

pub emit-returns-in_err-first-in-Delay : goal.emit-returns-in_err-first-in-Delay
emit-returns-in_err-first-in-Delay t c = record { emitted = none_ok _ _ c.from_residual-in_err-first-in-Delay.result c.from_residual-in_err-first-in-Delay.ensures.1; numbers = none_ok _ _ c.from_residual-in_err-first-in-Delay.result c.from_residual-in_err-first-in-Delay.ensures.1 }

pub emit-returns-in-While : goal.emit-returns-in-While
emit-returns-in-While t c = record { emitted = c.emit_loop.ensures.emitted; numbers = c.emit_loop.ensures.numbers }

pub emit-returns-in-Null-clause-emitted : goal.emit-returns-in-Null-clause-emitted
emit-returns-in-Null-clause-emitted t c = c.put_statement-in-Null.ensures.emitted

pub emit-returns-in_ok-extra-in-Call-clause-emitted : goal.emit-returns-in_ok-extra-in-Call-clause-emitted
emit-returns-in_ok-extra-in-Call-clause-emitted t c = c.put_statement.ensures.emitted

pub emit-put_statement-requires-clause-ready : goal.emit-put_statement-requires-clause-ready
emit-put_statement-requires-clause-ready t c = c.requires.ready

pub emit-put_statement-requires-in-Null-clause-ready : goal.emit-put_statement-requires-in-Null-clause-ready
emit-put_statement-requires-in-Null-clause-ready t c = c.requires.ready

pub emit_all-loop-i-init : goal.emit_all-loop-i-init
emit_all-loop-i-init t c =
    let emitted : IsEmitted c.args.draft.now c.args.draft.now (flat_all (drop (length c.args.all.now) c.args.all.now)) c.args.next c.args.next =
    subst (λ (k : Todo). IsEmitted c.args.draft.now c.args.draft.now k c.args.next c.args.next) (sym (ap flat_all (drop-length c.args.all.now)))
    (emitted_none c.args.draft.now c.args.next c.args.depth c.requires.ready) in
    let none : Adds c.args.draft.now c.args.draft.now (numbers_all (drop (length c.args.all.now) c.args.all.now)) =
    subst (λ (ns : List ℕ). Adds c.args.draft.now c.args.draft.now ns) (sym (ap numbers_all (drop-length c.args.all.now))) (adds_none c.args.draft.now) in
    record { emitted = emitted; numbers = none }

pub emit_all-loop-i-preserved : goal.emit_all-loop-i-preserved
emit_all-loop-i-preserved t c =
    let within : c.loop-i.i - 1 < length c.args.all.now = omega arith in
    let back : c.loop-i.i - 1 + 1 ≡ c.loop-i.i = omega arith in
    let cut : flat_all (drop (c.loop-i.i - 1) c.args.all.now) ≡ flat c.index-all-i.result ++ flat_all (drop c.loop-i.i c.args.all.now) =
    flat_all-drop c.args.all.now (c.loop-i.i - 1) c.index-all-i.result within
    ∙ ap (λ (x : Statement). flat x ++ flat_all (drop (c.loop-i.i - 1 + 1) c.args.all.now)) (sym c.index-all-i.is)
    ∙ ap (λ (n : ℕ). flat c.index-all-i.result ++ flat_all (drop n c.args.all.now)) back in
    let counted : numbers_all (drop (c.loop-i.i - 1) c.args.all.now) ≡ numbers c.index-all-i.result ++ numbers_all (drop c.loop-i.i c.args.all.now) =
    numbers_all-drop c.args.all.now (c.loop-i.i - 1) c.index-all-i.result within
    ∙ ap (λ (x : Statement). numbers x ++ numbers_all (drop (c.loop-i.i - 1 + 1) c.args.all.now)) (sym c.index-all-i.is)
    ∙ ap (λ (n : ℕ). numbers c.index-all-i.result ++ numbers_all (drop n c.args.all.now)) back in
    let emitted : IsEmitted c.args.draft.now c.emit.new.draft (flat_all (drop (c.loop-i.i - 1) c.args.all.now)) c.args.next c.in_ok-place.place =
    subst (λ (k : Todo). IsEmitted c.args.draft.now c.emit.new.draft k c.args.next c.in_ok-place.place) (sym cut)
    (emitted_then c.args.draft.now c.loop-i.draft c.emit.new.draft (flat c.index-all-i.result) (flat_all (drop c.loop-i.i c.args.all.now)) c.args.next c.loop-i.place c.in_ok-place.place
    c.loop-i.invariant.emitted c.in_ok-place.ensures.emitted) in
    let adds : Adds c.args.draft.now c.emit.new.draft (numbers_all (drop (c.loop-i.i - 1) c.args.all.now)) =
    subst (λ (ns : List ℕ). Adds c.args.draft.now c.emit.new.draft ns) (sym counted)
    (adds_then c.args.draft.now c.loop-i.draft c.emit.new.draft (numbers c.index-all-i.result) (numbers_all (drop c.loop-i.i c.args.all.now))
    c.loop-i.invariant.numbers c.in_ok-place.ensures.numbers) in
    record { emitted = emitted; numbers = adds }

pub emit_all-returns-in_err-place : goal.emit_all-returns-in_err-place
emit_all-returns-in_err-place t c = record { emitted = none_ok _ _ c.from_residual.result c.from_residual.ensures.1; numbers = none_ok _ _ c.from_residual.result c.from_residual.ensures.1 }

pub emit_items-loop-s-preserved : goal.emit_items-loop-s-preserved
emit_items-loop-s-preserved t c = record {
  ready = ready_more c.loop-s.draft c.emit.new.draft c.args.next c.args.depth c.loop-s.invariant.ready c.in_ok-start.ensures.emitted.written.more;
  written = written_then c.args.draft.now c.loop-s.draft c.emit.new.draft c.loop-s.invariant.written c.in_ok-start.ensures.emitted.written;
  leads = λ later linked more.
      let taken : take (c.loop-s.s-index + 1) c.args.items.now ≡ take c.loop-s.s-index c.args.items.now ++ c.loop-s-item.result ∷ [] =
      take_more c.args.items.now c.loop-s.s-index c.loop-s-item.result c.loop-s-test.true
      ∙ ap (λ (x : Vec Typed Global × Statement). take c.loop-s.s-index c.args.items.now ++ x ∷ []) (sym c.loop-s-item.is) in
      subst (λ (k : List (Vec Typed Global × Statement)). LeadAll later.links k c.push.new.self.items c.args.next) (sym taken)
      (subst (λ (k : List ℕ). LeadAll later.links (take c.loop-s.s-index c.args.items.now ++ c.loop-s-item.result ∷ []) k c.args.next) (sym c.in_ok-push.ensures.items)
      (lead_all-snoc later.links (take c.loop-s.s-index c.args.items.now) c.loop-s.starts.items c.loop-s-item.result c.in_ok-start.start c.args.next
      (c.loop-s.invariant.leads later linked (grows_then (drafted c.loop-s.draft) (drafted c.emit.new.draft) later c.in_ok-start.ensures.emitted.written.more.grows more))
      (c.in_ok-start.ensures.emitted.leads later linked more)));
  numbers =
      let taken : take (c.loop-s.s-index + 1) c.args.items.now ≡ take c.loop-s.s-index c.args.items.now ++ c.loop-s-item.result ∷ [] =
      take_more c.args.items.now c.loop-s.s-index c.loop-s-item.result c.loop-s-test.true
      ∙ ap (λ (x : Vec Typed Global × Statement). take c.loop-s.s-index c.args.items.now ++ x ∷ []) (sym c.loop-s-item.is) in
      subst (λ (k : List (Vec Typed Global × Statement)). Adds c.args.draft.now c.emit.new.draft (numbers_in k)) (sym taken)
      (adds_item c.args.draft.now c.loop-s.draft c.emit.new.draft (take c.loop-s.s-index c.args.items.now) c.loop-s-item.result c.loop-s.invariant.numbers c.in_ok-start.ensures.numbers);
}

pub emit_items-returns-in_err-start : goal.emit_items-returns-in_err-start
emit_items-returns-in_err-start t c = record { written = none_ok _ _ c.from_residual.result c.from_residual.ensures.1; leads = none_ok _ _ c.from_residual.result c.from_residual.ensures.1; numbers = none_ok _ _ c.from_residual.result c.from_residual.ensures.1 }

pub emit_items-returns-in_err-push : goal.emit_items-returns-in_err-push
emit_items-returns-in_err-push t c = record { written = none_ok _ _ c.from_residual-in_err-push.result c.from_residual-in_err-push.ensures.1; leads = none_ok _ _ c.from_residual-in_err-push.result c.from_residual-in_err-push.ensures.1; numbers = none_ok _ _ c.from_residual-in_err-push.result c.from_residual-in_err-push.ensures.1 }

pub emit_loop-emit-requires : goal.emit_loop-emit-requires
emit_loop-emit-requires t c = (search rules, head_ready c.args.draft.now c.put_head.new.draft c.args.s c.args.next c.args.depth c.in_ok-head.head c.requires.ready c.in_ok-head.ensures.head)

pub emit_loop-returns-clause-emitted : goal.emit_loop-returns-clause-emitted
emit_loop-returns-clause-emitted t c =
    let at : c.len-i.result ≡ length c.args.draft.now.ops.items = omega (arith, c.len-i.ensures, c.args.draft.now.ops.ok.0) in
    let old = c.emit.new.draft.ops.items in
    let new = c.set_first.new.ops.items in
    emitted_loop c.args.draft.now c.put_head.new.draft c.emit.new.draft (record { ops = c.set_first.new.ops; counters = c.emit.new.draft.counters }) c.args.s c.args.body.now c.args.next c.args.depth
    c.in_ok-head.head c.in_ok-first.first c.requires.single c.in_ok-head.ensures.head c.in_ok-first.ensures.emitted c.set_first.ensures.links refl
    (subst (λ (n : ℕ). (j : ℕ) → j ≢ n → slice_get new j ≡ slice_get old j) at c.set_first.ensures.others)
    (subst (λ (n : ℕ). (x : Op) → slice_get old n ≡ Some x → slice_get new n ≡ Some (record x { first = c.in_ok-first.first })) at c.set_first.ensures.here)

pub emit_loop-returns-clause-numbers : goal.emit_loop-returns-clause-numbers
emit_loop-returns-clause-numbers t c =
    let last : Draft = record { ops = c.set_first.new.ops; counters = c.emit.new.draft.counters } in
    adds_head c.args.draft.now c.put_head.new.draft last c.args.s.now c.in_ok-head.ensures.number
    (subst (λ (ns : List ℕ). Adds c.put_head.new.draft last ns) (sym c.requires.single.inside)
    (adds_same c.put_head.new.draft c.emit.new.draft last (numbers c.args.body.now) c.set_first.ensures.links c.in_ok-first.ensures.numbers))

pub emit_loop-returns-in_err-head : goal.emit_loop-returns-in_err-head
emit_loop-returns-in_err-head t c = record { emitted = none_ok _ _ c.from_residual.result c.from_residual.ensures.1; numbers = none_ok _ _ c.from_residual.result c.from_residual.ensures.1 }

pub emit_loop-returns-in_err-first : goal.emit_loop-returns-in_err-first
emit_loop-returns-in_err-first t c = record { emitted = none_ok _ _ c.from_residual-in_err-first.result c.from_residual-in_err-first.ensures.1; numbers = none_ok _ _ c.from_residual-in_err-first.result c.from_residual-in_err-first.ensures.1 }

pub emit_turns-emit-requires : goal.emit_turns-emit-requires
emit_turns-emit-requires t c =
    let d : Draft = record c.args.draft.now { counters = c.max-draft.result } in (
      search rules,
      subst (λ (n : ℕ). IsReady c.put_head.new.draft c.in_ok-test.test n) (sym (add-one c.args.depth))
          (test_ready d c.put_head.new.draft c.args.body c.args.next c.args.depth c.in_ok-test.test
          (ready_more c.args.draft.now d c.args.next c.args.depth c.requires.ready (written_raised c.args.draft.now c.max-draft.result c.requires.ready.linked (omega (arith, c.max-draft.ensures))).more)
          c.in_ok-test.ensures.head),
    )

turned : (t : ℕ) (c : goal.emit_turns-After-set_first t) → Written c.args.draft.now (record { ops = c.set_first.new.ops; counters = c.emit.new.draft.counters })
    × AlwaysTurn (drafted (record { ops = c.set_first.new.ops; counters = c.emit.new.draft.counters })) c.args.depth c.args.body.now c.in_ok-first.first c.args.next
turned t c =
    let at : c.len-i.result ≡ length c.args.draft.now.ops.items = omega (arith, c.len-i.ensures, c.args.draft.now.ops.ok.0) in
    let old = c.emit.new.draft.ops.items in
    let new = c.set_first.new.ops.items in
    let d : Draft = record c.args.draft.now { counters = c.max-draft.result } in
    let last : Draft = record { ops = c.set_first.new.ops; counters = c.emit.new.draft.counters } in
    let raised : Written c.args.draft.now d = written_raised c.args.draft.now c.max-draft.result c.requires.ready.linked (omega (arith, c.max-draft.ensures)) in
    let both : Written d last × AlwaysTurn (drafted last) c.args.depth c.args.body.now c.in_ok-first.first c.args.next =
    emitted_turns d c.put_head.new.draft c.emit.new.draft last c.args.body c.args.next c.args.depth
    c.in_ok-test.test c.in_ok-first.first (ready_more c.args.draft.now d c.args.next c.args.depth c.requires.ready raised.more) (omega (arith, c.max-draft.ensures)) c.in_ok-test.ensures.head c.in_ok-first.ensures.emitted
    c.set_first.ensures.links refl
    (subst (λ (n : ℕ). (j : ℕ) → j ≢ n → slice_get new j ≡ slice_get old j) at c.set_first.ensures.others)
    (subst (λ (n : ℕ). (x : Op) → slice_get old n ≡ Some x → slice_get new n ≡ Some (record x { first = c.in_ok-first.first })) at c.set_first.ensures.here) in
    (written_then c.args.draft.now d last raised both.0, both.1)

pub emit_turns-returns-clause-written : goal.emit_turns-returns-clause-written
emit_turns-returns-clause-written t c = (turned t c).0

pub emit_turns-returns-clause-turn : goal.emit_turns-returns-clause-turn
emit_turns-returns-clause-turn t c = (turned t c).1

pub emit_turns-returns-clause-numbers : goal.emit_turns-returns-clause-numbers
emit_turns-returns-clause-numbers t c =
    let d : Draft = record c.args.draft.now { counters = c.max-draft.result } in
    let last : Draft = record { ops = c.set_first.new.ops; counters = c.emit.new.draft.counters } in
    adds_test d c.put_head.new.draft last (numbers c.args.body.now) c.in_ok-test.ensures.number
    (adds_same c.put_head.new.draft c.emit.new.draft last (numbers c.args.body.now) c.set_first.ensures.links c.in_ok-first.ensures.numbers)

pub emit_turns-returns-in_err-test : goal.emit_turns-returns-in_err-test
emit_turns-returns-in_err-test t c = record { written = none_ok _ _ c.from_residual.result c.from_residual.ensures.1; turn = none_ok _ _ c.from_residual.result c.from_residual.ensures.1; numbers = none_ok _ _ c.from_residual.result c.from_residual.ensures.1 }

pub emit_turns-returns-in_err-first : goal.emit_turns-returns-in_err-first
emit_turns-returns-in_err-first t c = record { written = none_ok _ _ c.from_residual-in_err-first.result c.from_residual-in_err-first.ensures.1; turn = none_ok _ _ c.from_residual-in_err-first.result c.from_residual-in_err-first.ensures.1; numbers = none_ok _ _ c.from_residual-in_err-first.result c.from_residual-in_err-first.ensures.1 }
