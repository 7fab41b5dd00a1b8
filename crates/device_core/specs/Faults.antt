-- What the faults of devices are called.
use Rattle.std.specs.Prelude.{ℕ, List, codes}
use Rattle.device_core.specs.declared.hand.HandFault.{HandFault}
use Rattle.device_core.specs.declared.hand.HandFault.TheVariants.{Device, Memory}

abbrev pub fault_number : HandFault → ℕ
fault_number Device = 1
fault_number Memory = 2

abbrev pub fault_name : HandFault → List ℕ
fault_name Device = codes "Device"
fault_name Memory = codes "Memory"
