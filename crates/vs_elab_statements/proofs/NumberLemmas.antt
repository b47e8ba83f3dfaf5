-- Statements that have nothing but a number.
use Rattle.std.proofs.Common.{◌≡◌, ℕ, List, Option, Result, Ok, Err, refl, sym, subst}
use Rattle.std.specs.Prelude.{IfErr, MatchResult}
use Rattle.std.specs.declared.vec.Vec.{Vec}
use Rattle.std.specs.declared.alloc.Global.{Global}
use Rattle.vs_syntax.specs.declared.tree.Stmt.TheVariants as s
use Rattle.vs_syntax.specs.declared.tree.DumpTask.{DumpTask}
use Rattle.vs_syntax.specs.declared.tree.DumpArgument.{DumpArgument}
use Rattle.vs_syntax.specs.vs_lexer.specs.declared.token.Literal.{Literal}
use Rattle.vs_design.specs.declared.statement.Statement.{Statement}
use Rattle.vs_design.specs.declared.statement.Statement.TheVariants as d
use Rattle.vs_elab_statements.specs.vs_scopes.specs.Printed.{Path}
use Rattle.vs_elab_statements.specs.vs_elab_signals.specs.declared.opened.ElabScope.{ElabScope as FoundScope}
use Rattle.vs_elab_statements.specs.declared.faults.StatementFault.{StatementFault}
use Rattle.vs_elab_statements.specs.Surroundings.{Surroundings}
use Rattle.vs_elab_statements.specs.passes.Faults.{IsBelow}
use Rattle.vs_elab_statements.specs.passes.Bodies.{statement_burden, Answers, MeansStatement}
use Rattle.vs_elab_statements.proofs.StatementLemmas.{States, states_Null, null_refused, states_Finish, finish_refused, states_Dump, dump_refused}
use Rattle.vs_elab_statements.specs.forms_passes.Forms.{TakesOne, TakesOneNot}

module _ (list : List FoundScope) (envs : Path → Surroundings) (p : Path) (first next : ℕ) where
  pub null_answers : (r : Result Statement StatementFault) → MatchResult r (λ y. (y ≡ d.Null first) × TakesOne first next) (TakesOneNot first) → Answers list envs p (statement_burden (envs p) first s.Null) (λ y. MeansStatement envs p first s.Null y next) r
  null_answers (Ok y) h = subst (λ z. States list envs p first s.Null z next) (sym h.0) (states_Null list envs p first first next (refl, h.1))
  null_answers (Err e) h = null_refused list envs p first e h

  pub finish_answers : (n : Option Literal) (r : Result Statement StatementFault) → MatchResult r (λ y. (y ≡ d.Finish first) × TakesOne first next) (TakesOneNot first) →
      Answers list envs p (statement_burden (envs p) first (s.Finish n)) (λ y. MeansStatement envs p first (s.Finish n) y next) r
  finish_answers n (Ok y) h = subst (λ z. States list envs p first (s.Finish n) z next) (sym h.0) (states_Finish list envs p first first next n (refl, h.1))
  finish_answers n (Err e) h = finish_refused list envs p first n e h

  pub dump_answers : (task : DumpTask) (xs : Option (DumpArgument × Vec DumpArgument Global)) (r : Result Statement StatementFault) → MatchResult r (λ y. (y ≡ d.Null first) × TakesOne first next) (TakesOneNot first) →
      Answers list envs p (statement_burden (envs p) first (s.Dump task xs)) (λ y. MeansStatement envs p first (s.Dump task xs) y next) r
  dump_answers task xs (Ok y) h = subst (λ z. States list envs p first (s.Dump task xs) z next) (sym h.0) (states_Dump list envs p first first next task xs (refl, h.1))
  dump_answers task xs (Err e) h = dump_refused list envs p first task xs e h

-- one that isn't made has no fault further inside
pub none_below : (n first : ℕ) (P : Statement → Type 0) (r : Result Statement StatementFault) → MatchResult r P (TakesOneNot first) → IfErr r (IsBelow n)
none_below n first P (Ok y) h = tt
none_below n first P (Err e) h = subst (IsBelow n) (sym h.0) tt
