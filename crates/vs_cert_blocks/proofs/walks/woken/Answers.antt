use Rattle.std.proofs.Common.{ℕ, ◌<◌, ◌↔◌}
use Rattle.std.proofs.lemmas.Result.{IfOk-weaker}
use Rattle.std.specs.List.{Contains}
use Rattle.vs_cert_blocks.specs.Walks.{WakesFrom, AreWoken}
use Rattle.vs_cert_blocks.proofs.Gathered.{all_woken}
use Rattle.vs_cert_blocks.proofs.walks.woken.Goals as goal

pub returns : goal.returns
returns c =
    IfOk-weaker c.gather.result (λ seeds. (q : ℕ) → (Contains seeds.items q ↔ ((p : ℕ) × (p < c.places.result) × WakesFrom c.args.tables.now p q)))
    (λ seeds. AreWoken c.args.tables.now seeds.items) (λ seeds h. all_woken c.args.tables.now c.places.result seeds.items c.places.ensures h) c.gather.ensures
