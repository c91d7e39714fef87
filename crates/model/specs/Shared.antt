-- What the tables and calls of the code are to the definitions. Assumes nothing.
use Rattle.std.specs.Prelude.{List, map, reverse}
use Rattle.operations.specs.declared.step.Step.{Step}
use Rattle.model.specs.declared.call.Action.{Action}
use Rattle.model.specs.declared.call.Action.TheVariants.{Start, Run, Press}
use Rattle.model.specs.declared.call.Call.{Call}
use Rattle.model.specs.declared.sidecar.Sidecar.{Sidecar}
use Rattle.model.specs.declared.tables.Tables.{Tables}
use Rattle.model.specs.Driving.{HostCall, start, run, press}
use Rattle.model.specs.Machine.{Core}
use Rattle.model.specs.Sheet.{State}

-- the tables over a heap and a rack in some states
abbrev pub viewed : {S R : Type 0} → Tables → S → R → State Sidecar (Core S R)
viewed t s r = record {
  common = record { words = map (λ x. x.word) t.registers; returns = reverse t.returns.items };
  tags = map (λ x. x.sidecar) t.registers;
  store = record { memory = t.memory; shadow = t.shadow; locks = t.locks; issued = t.issued; ceiling = t.ceiling; heap = s; rack = r };
}

abbrev pub asked : List Step → Action → HostCall
asked os (Start x) = start os x
asked os (Run k) = run os k
asked os (Press r) = press r

abbrev pub call_of : Call → HostCall
call_of c = asked c.program.now c.action

abbrev pub calls_of : List Call → List HostCall
calls_of = map call_of
