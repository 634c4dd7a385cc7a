-- Faults of acts as those of subprograms.
use Rattle.flow_acts.specs.declared.fault.ActFault.{ActFault}
use Rattle.flow_acts.specs.declared.fault.ActFault.TheVariants as act_fault
use Rattle.sub_layout.specs.declared.fault.SubFault.{SubFault}
use Rattle.sub_layout.specs.declared.fault.SubFault.TheVariants as sub_fault

abbrev pub fault_by : ActFault → SubFault
fault_by act_fault.Memory = sub_fault.Memory
fault_by act_fault.TooDeep = sub_fault.TooDeep
