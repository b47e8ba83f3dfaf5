-- The certificate of a design in which a process waits for an edge.
use Rattle.std.specs.Prelude.{true, Some, None, [], ◌∷◌}
use Rattle.std.specs.declared.alloc.Global.{Global}
use Rattle.vs_independence.specs.vs_process.specs.declared.moves.Grain.{Grain}
use Rattle.vs_laws.specs.Rise.{rising}
use Rattle.vs_rules.specs.Claims.{Claims, Mode, edges, delays, blocking, nonblocking, private}
use Rattle.vs_rules.specs.Verdict.{IsVerdict, k3, no_verdict}
use Rattle.vs_laws.specs.Kept.{KeepsRules}
use Rattle.vs_laws.specs.Names.{signal_in_t, process_in_t}

-- the modulus is 2; `t.a` is an edge signal, its own root, which t#p0 writes by `=`; the list of its `#1` is `[1]`; t#p1 waits for edges, and writes
-- `t.b`, of which a mode is claimed
abbrev pub rise_claims : Mode → Grain → Claims
rise_claims mode grain = record {
  version = 2;
  displays = true;
  grain = grain;
  modulus = 2;
  edges = record { root = signal_in_t 97; signal = signal_in_t 97 } ∷ [];
  order = [];
  processes = record { name = process_in_t 48; kind = delays ((1 ∷ []) ∷ []) } ∷ record { name = process_in_t 49; kind = edges } ∷ [];
  signals =
      record { name = signal_in_t 97; mode = blocking; writer = Some (process_in_t 48); second = None }
      ∷ record { name = signal_in_t 98; mode = mode; writer = Some (process_in_t 49); second = None }
      ∷ [];
}

-- a design in which a write of one process fires another one keeps the rules of a certificate, at either grain
abbrev pub ARiseKeepsTheRules : Type 0
ARiseKeepsTheRules = (g : Global) (grain : Grain) → KeepsRules (rising g) (rise_claims private grain)

-- where the mode of `t.b` is `nonblocking`, the verdict is no K3 at `t.b`: t#p1 writes it by `=`
abbrev pub AWrongModeIsReported : Type 0
AWrongModeIsReported = (g : Global) (grain : Grain) → IsVerdict (rising g) (rise_claims nonblocking grain) (no_verdict k3 (signal_in_t 98))
