-- An instruction does the same in two memories where every read and every store comes to the same.
use mathlib.Core.Path.{◌≡◌, refl, ap}
use mathlib.Core.List.{List, [], ◌∷◌}
use Prim.Native.Nat.{ℕ, ◌*◌}
use Rattle.timer.specs.declared.Timer.{Timer}
use Rattle.memory.specs.Map.{Memory}
use Rattle.instructions.specs.Operands.{Surroundings, surroundings, Operands, Simple, Meaning, simple, opcode_of, field_y}
use Rattle.compute.specs.Compute.{computations}
use Rattle.control.specs.Control.{controls}
use Rattle.access.specs.Reads.{read_from}
use Rattle.transfer.specs.Transfer.{address_of, landed, load, transfers}
use Rattle.access.specs.Writes.{store_to}
use Rattle.system.specs.System.{SystemMeaning, traps, systems}
use Rattle.decode.specs.Table.{by_psw, executed}
use Rattle.words.specs.Lists.{Every}
use Rattle.words.proofs.Every.{◌&◌}
use Rattle.decode.proofs.Rows.{row_at}

module _ (psw : ℕ) (highs lows : List ℕ) (timer : Timer) (m n : Memory)
    (reads : (width blocks : ℕ) → blocks * width ≡ 4096 → (address : ℕ)
    → read_from width (surroundings psw highs lows timer m) address ≡ read_from width (surroundings psw highs lows timer n) address)
    (stores : (width value address : ℕ)
    → store_to width (surroundings psw highs lows timer m) value address
    ≡ store_to width (surroundings psw highs lows timer n) value address) where
  abbrev s : Surroundings
  s = surroundings psw highs lows timer m

  abbrev t : Surroundings
  t = surroundings psw highs lows timer n

  abbrev Row : Meaning → Type 0
  Row f = (o : Operands) → f s o ≡ f t o

  -- a row that reads no memory
  every_simple : (l : List Simple) → Every (λ f. Row (simple f)) l
  every_simple [] = tt
  every_simple (f ∷ fs) = (λ o. refl, every_simple fs)

  every_system : (l : List SystemMeaning) → Every (λ f. Row (by_psw f)) l
  every_system [] = tt
  every_system (f ∷ fs) = (λ o. refl, every_system fs)

  loads_same : (width blocks : ℕ) (extend : ℕ → ℕ) → blocks * width ≡ 4096 → Row (load width extend)
  unfolding load
  loads_same width blocks extend d o =
      ap (landed extend (field_y o.word) (address_of o) o.next) (reads width blocks d (address_of o))

  transfers_same : Every Row transfers
  unfolding transfers
  transfers_same =
      loads_same 4 1024 _ refl & loads_same 2 2048 _ refl & loads_same 2 2048 _ refl & loads_same 1 4096 _ refl & loads_same 1 4096 _ refl
      & (λ o. stores 4 _ _) & (λ o. stores 2 _ _) & (λ o. stores 1 _ _) & tt

  pub executed_same : Row executed
  unfolding executed
  executed_same o =
      row_at Row (every_simple computations) (every_simple controls) (every_system traps) transfers_same (every_system systems) (λ o. refl)
      (opcode_of o.word) o
