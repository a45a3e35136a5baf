-- What a store through the translation comes to (manual, 3.5.6 to 3.5.8; document 01, "One step"): a write at a physical address, with
-- the slot that served it (document 02, job 2), or a fault.
use Rattle.std.specs.Prelude.{true, ℕ}
use Rattle.translation.specs.Translation.{translated, resolved, Translation}
use Rattle.memory.specs.Map.{Memory}
use Rattle.memory.specs.Access.{store_answer, stored_eid}
use Rattle.memory.specs.Stored.{Stored}
use Rattle.memory.specs.Stored as stored
use Rattle.instructions.specs.Operands.{Surroundings}
use Rattle.instructions.specs.Action.{Action, Store, Exception}

-- at a physical address: done, or the bus timeout
abbrev pub settled : ℕ → ℕ → ℕ → ℕ → ℕ → Stored → Action
settled width physical value slot address stored.Done = Store width physical value slot
settled width physical value slot address stored.Timeout = Exception (stored_eid stored.Timeout) address

abbrev pub store_through : ℕ → Memory → ℕ → ℕ → Translation → Action
store_through width m value address t =
    resolved (λ physical slot. settled width physical value slot address (store_answer width m physical)) (λ eid. Exception eid address) t

-- a value to a virtual address
unfoldable pub store_to : ℕ → Surroundings → ℕ → ℕ → Action
store_to width s value address =
    store_through width s.memory value address (translated s.psw s.highs s.lows width true address)
