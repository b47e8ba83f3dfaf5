use Rattle.std.proofs.Common.{subst}
use Rattle.std.proofs.lemmas.Result.{err_from_is_err_and}
use Rattle.vs_syntax.specs.vs_lexer.specs.Tokens.{lexemes}
use Rattle.vs_syntax.specs.Symbols.{symbols}
use Rattle.vs_syntax.specs.Derives.{Derives}
use Rattle.vs_simulate.proofs.simulation.design_of.Goals as goal

pub returns-in_err-design : goal.returns-in_err-design
returns-in_err-design c =
    let p = err_from_is_err_and c.from_residual-in_err-design.result c.from_residual-in_err-design.ensures.1 in
    rw (p.1, p.2) (record {
      source = c.in_ok-tree.tree;
      read = record {
        tokens = lexemes c.in_ok-tokens.tokens.items;
        spelled = c.in_ok-tokens.ensures;
        derived = subst (λ ts. Derives (symbols (lexemes ts)) c.in_ok-tree.tree) c.deref.ensures.value c.in_ok-tree.ensures.exact;
      };
      refused = c.in_err-design.ensures;
    })

pub returns : goal.returns
returns c = record {
  source = c.in_ok-tree.tree;
  read = record {
    tokens = lexemes c.in_ok-tokens.tokens.items;
    spelled = c.in_ok-tokens.ensures;
    derived = subst (λ ts. Derives (symbols (lexemes ts)) c.in_ok-tree.tree) c.deref.ensures.value c.in_ok-tree.ensures.exact;
  };
  defined = c.in_ok-design.ensures;
}
