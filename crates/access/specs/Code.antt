-- Helpers of the code's contracts: the read that the code's result stands for, and the surroundings that its references do. No definition names them.
use Rattle.std.specs.Prelude.{Result, Ok, Err, ℕ}
use Rattle.words.specs.Identifiers.{bus_timeout}
use Rattle.translation.specs.Translation.{translation_eid}
use Rattle.translation.specs.Code.{fault_of}
use Rattle.instructions.specs.Operands as operands
use Rattle.access.specs.declared.Surroundings.{Surroundings}
use Rattle.access.specs.declared.Fetched.{Fetched}
use Rattle.access.specs.declared.Fault.{Fault}
use Rattle.access.specs.declared.Fault.TheVariants.{Translation, BusTimeout}
use Rattle.access.specs.Read.{Read}
use Rattle.access.specs.Read as read

abbrev pub surroundings_of : Surroundings → operands.Surroundings
surroundings_of s = operands.around s.psw s.highs.now s.lows.now s.timer s.ram.now s.rom.now s.belt.now

abbrev pub fault_eid : Fault → ℕ
fault_eid (Translation f) = translation_eid (fault_of f)
fault_eid BusTimeout = bus_timeout

abbrev pub read_of : Result Fetched Fault → Read
read_of (Ok f) = read.Value f.value f.slot
read_of (Err f) = read.Fault (fault_eid f)
