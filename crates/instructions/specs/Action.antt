-- What a step does, once it is known. To name an action changes nothing.
use Rattle.std.specs.Prelude.{ℕ}

-- the privileged instructions, with what they take from the instruction word and the registers (manual, 3.6.2 to 3.6.8)
pub data SystemInstruction : Type 0 where
  Rfx : SystemInstruction
  -- a special register's number, and that of the register that takes its value
  Mvfs : ℕ → ℕ → SystemInstruction
  -- a special register's number, and the value for it
  Mvts : ℕ → ℕ → SystemInstruction
  Tbs : SystemInstruction
  Tbwr : SystemInstruction
  Tbri : SystemInstruction
  Tbwi : SystemInstruction

pub data Action : Type 0 where
  -- a register's number and value, the PC after the instruction, and the slot that served a load; of another instruction, the slot for none
  Write : ℕ → ℕ → ℕ → ℕ → Action
  -- a width, a physical address, the value, and the slot that served it; the PC goes on to the next instruction
  Store : ℕ → ℕ → ℕ → ℕ → Action
  -- a privileged instruction in Kernel Mode
  System : SystemInstruction → Action
  -- an exception's identifier and address
  Exception : ℕ → ℕ → Action
