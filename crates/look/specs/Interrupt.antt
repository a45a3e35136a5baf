-- Which interrupt is accepted (manual, 2.7.3; document 01, "One step" and "Closed by us").
use Rattle.std.specs.Prelude.{cond, ℕ, zero, suc, ◌/◌, ◌%◌, eqb}
use Rattle.std.specs.Int.Bits.{bit_and}
use Rattle.words.specs.Identifiers.{no_exception}
use Rattle.status.specs.Psw.{interrupt_current, enabled}

-- an interrupt channel is below 16; this stands for none
abbrev pub no_channel : ℕ
no_channel = no_exception

-- the lowest of the n channels from i on whose bit is set, or `no_channel`; bit j of ready is channel i + j
unfoldable pub lowest : ℕ → ℕ → ℕ → ℕ
lowest zero i ready = no_channel
lowest (suc n) i ready = cond (eqb (ready % 2) 1) i (lowest n (suc i) (ready / 2))

-- the channel that is accepted, or `no_channel`: I_C and a line with its bit of IEN
unfoldable pub channel : ℕ → ℕ → ℕ
channel psw lines = cond (eqb (interrupt_current psw) 1) (lowest 16 0 (bit_and lines (enabled psw))) no_channel
