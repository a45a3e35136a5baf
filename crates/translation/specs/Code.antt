-- Helpers of the code's contracts: the translation that the code's result stands for. No definition names them.
use Rattle.std.specs.Prelude.{Result, Ok, Err}
use Rattle.translation.specs.declared.Physical.{Physical}
use Rattle.translation.specs.declared.Fault.{Fault}
use Rattle.translation.specs.declared.Fault.TheVariants as fault
use Rattle.translation.specs.Translation.{Translation}
use Rattle.translation.specs.Translation as translation

abbrev pub fault_of : Fault → Translation
fault_of fault.TlbMiss = translation.TlbMiss
fault_of fault.TlbWrite = translation.TlbWrite
fault_of fault.TlbInvalid = translation.TlbInvalid
fault_of fault.IllegalAddress = translation.IllegalAddress
fault_of fault.PrivilegedAddress = translation.PrivilegedAddress

abbrev pub translation_of : Result Physical Fault → Translation
translation_of (Ok p) = translation.Physical p.address p.slot
translation_of (Err f) = fault_of f
