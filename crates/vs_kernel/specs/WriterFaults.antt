-- Faults of the writer of a value change dump, as those of a run.
use Rattle.vs_vcd_writing.specs.declared.fault.WriterFault.{WriterFault}
use Rattle.vs_vcd_writing.specs.declared.fault.WriterFault.TheVariants as vcd
use Rattle.vs_kernel.specs.declared.outcome.RunFault.{RunFault}
use Rattle.vs_kernel.specs.declared.outcome.RunFault.TheVariants.{Memory, Write}

-- the fault of a run that a fault of the writer is
abbrev pub fault_of : WriterFault → RunFault
fault_of vcd.Memory = Memory
fault_of vcd.Write = Write
