-- Lemmas on the code of a whole process.
use Rattle.std.proofs.Common.{◌≡◌, ℕ, ◌≤◌, List, [], length, refl, sym, ◌∙◌, subst, arith}
use Rattle.std.proofs.lemmas.List.{append-nil}
use Rattle.vs_design.specs.WellFormed.{numbers}
use Rattle.vs_design.specs.declared.statement.Statement.{Statement}
use Rattle.vs_process.specs.declared.draft.Op.{Op}
use Rattle.vs_process.specs.declared.draft.Draft.{Draft}
use Rattle.vs_process.specs.Places.{flat}
use Rattle.vs_process.specs.Links.{AreLinked, todo_at}
use Rattle.vs_process.specs.Codes.{IsCodeOf, links_of}
use Rattle.vs_process.specs.Drafts.{drafted, IsReady, IsEmitted, Adds}
use Rattle.vs_process.proofs.Drafts.{grows_self}
use Rattle.vs_process.proofs.Numbers.{all_stand}

pub ready_empty : (d : Draft) → d.ops.items ≡ [] → IsReady d 0 0
ready_empty d e = record {
  linked = subst (λ (ops : List Op). AreLinked (links_of ops)) (sym e) (λ i l at. absurd (cc));
  within = omega arith;
  deep = omega arith;
  free = λ later linked more counters k left le. refl;
}

pub code_done : (a d : Draft) (s : Statement) (start : ℕ) → a.ops.items ≡ [] → IsEmitted a d (flat s) 0 start → Adds a d (numbers s) → IsCodeOf s d.ops.items d.counters start
code_done a d s start e h k = record {
  code = record {
    linked = h.written.more.linked;
    fits = λ i x at.
        let le : length a.ops.items ≤ i = subst (λ (ops : List Op). length ops ≤ i) (sym e) (omega arith) in
        h.written.fits i x le at (drafted d) h.written.more.linked (grows_self (drafted d));
  };
  starts = h.leads (drafted d) h.written.more.linked (grows_self (drafted d));
  stand = all_stand a d s e k;
}

-- at the start of the code the whole process is to be done
pub todo_start : (s : Statement) (ops : List Op) (n start : ℕ) (counters : List ℕ) → IsCodeOf s ops n start → todo_at (links_of ops) counters start ≡ flat s
todo_start s ops n start counters h = h.starts counters ∙ append-nil (flat s)
