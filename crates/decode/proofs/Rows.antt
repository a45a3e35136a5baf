-- What holds of every row of the opcode table holds of every instruction.
use mathlib.Core.List.{List, [], ◌∷◌, map}
use Prim.Native.Nat.{ℕ}
use lib.ListN.{get_or}
use Rattle.words.specs.Lists.{Every}
use Rattle.words.proofs.Every.{◌&◌, every_at, joined, every_joined, every_map}
use Rattle.instructions.specs.Operands.{Surroundings, Operands, Meaning, simple, illegal, opcode_of}
use Rattle.compute.specs.Compute.{computations}
use Rattle.control.specs.Control.{controls}
use Rattle.transfer.specs.Transfer.{transfers}
use Rattle.system.specs.System.{traps, systems}
use Rattle.decode.specs.Table.{by_psw, meanings, executed}
use Rattle.instructions.specs.Action.{Action}

-- the opcode table's parts
abbrev pub parts : List (List Meaning)
parts = map simple computations ∷ map simple controls ∷ map by_psw traps ∷ map (λ f. f) transfers ∷ map by_psw systems ∷ []

module _ (P : Meaning → Type 0) where
  pub row_at : Every (λ f. P (simple f)) computations → Every (λ f. P (simple f)) controls → Every (λ f. P (by_psw f)) traps
      → Every P transfers → Every (λ f. P (by_psw f)) systems → P (simple illegal) → (n : ℕ) → P (get_or meanings n (simple illegal))
  unfolding meanings transfers systems
  row_at a b c d e none n =
      every_at P (joined parts) n (simple illegal)
      (every_joined P parts
      (every_map simple P computations a & every_map simple P controls b & every_map by_psw P traps c & d & every_map by_psw P systems e & tt))
      none

-- of each action that an instruction names
abbrev pub Always : (Surroundings → Operands → Action → Type 0) → Meaning → Type 0
Always Q f = (s : Surroundings) (o : Operands) → Q s o (f s o)

module _ (Q : Surroundings → Operands → Action → Type 0) where
  pub executed_always : Every (λ f. Always Q (simple f)) computations → Every (λ f. Always Q (simple f)) controls
      → Every (λ f. Always Q (by_psw f)) traps → Every (Always Q) transfers → Every (λ f. Always Q (by_psw f)) systems
      → Always Q (simple illegal) → Always Q executed
  unfolding executed
  executed_always a b c d e none s o = row_at (Always Q) a b c d e none (opcode_of o.word) s o
