-- The table's parts: which list answers for each range of opcodes.
use mathlib.Core.Path.{◌≡◌, refl, ap, sym, ◌∙◌}
use mathlib.Core.List.{List, [], ◌∷◌, ◌++◌, map}
use Prim.Native.Nat.{ℕ, zero, suc, ◌+◌, ◌-◌, ◌≤◌, ◌<◌}
use native.Mathlib.Omega.{arith}
use lib.ListN.{length, get_or, length-map, get_or-append, get_or-eq_default}
use lib.Seq.{get_or-append-add}
use Rattle.instructions.specs.Operands.{Meaning, Surroundings, Operands, simple, illegal}
use Rattle.compute.specs.Compute.{computations}
use Rattle.control.specs.Control.{controls}
use Rattle.transfer.specs.Transfer.{transfers}
use Rattle.system.specs.System.{traps, systems}
use Rattle.system.specs.Code.{illegal_system}
use Rattle.words.proofs.Every.{joined}
use Rattle.decode.specs.Table.{by_psw, meanings}
use Rattle.decode.proofs.Rows.{parts}

-- ---- a list made of parts

-- where part k begins
abbrev start : {A : Type 0} → List (List A) → ℕ → ℕ
start [] k = 0
start (p ∷ ps) zero = 0
start (p ∷ ps) (suc k) = length p + start ps k

-- place m of part k is place n of the whole
located : {A : Type 0} (ps : List (List A)) (k n m : ℕ) (d : A) → n ≡ start ps k + m → m < length (get_or ps k [])
    → get_or (joined ps) n d ≡ get_or (get_or ps k []) m d
located [] k n m d e h = absurd (omega arith)
located (p ∷ ps) zero n m d e h = ap (λ (i : ℕ). get_or (p ++ joined ps) i d) (omega arith) ∙ get_or-append p (joined ps) d m h
located (p ∷ ps) (suc k) n m d e h =
    let far : n ≡ length p + (start ps k + m) = omega arith in
    ap (λ (i : ℕ). get_or (p ++ joined ps) i d) far ∙ get_or-append-add p (joined ps) (start ps k + m) d ∙ located ps k (start ps k + m) m d refl h

-- an element of a mapped list
mapped_at : {A B : Type 0} (f : A → B) (l : List A) (n : ℕ) (d : A) (e : B) → n < length l → get_or (map f l) n e ≡ f (get_or l n d)
mapped_at f [] n d e h = absurd (omega arith)
mapped_at f (x ∷ xs) zero d e h = refl
mapped_at f (x ∷ xs) (suc n) d e h = mapped_at f xs n d e (omega arith)

-- ---- the opcode table, as the decoder meets it

module _ (s : Surroundings) (o : Operands) (op : ℕ) where
  abbrev d : Meaning
  d = simple illegal

  -- place m of part k, in which each element x of a list stands as g x
  row : {A : Type 0} (g : A → Meaning) (l : List A) (none : A) (k m : ℕ) → get_or parts k [] ≡ map g l
      → op ≡ start parts k + m → m < length l → g (get_or l m none) s o ≡ get_or meanings op d s o
  unfolding meanings transfers systems
  row g l none k m same e h =
      let within : m < length (get_or parts k []) = rw (same, length-map) h in
      ap (λ (f : Meaning). f s o)
      (sym (located parts k op m d e within ∙ ap (λ (p : List Meaning). get_or p m d) same ∙ mapped_at g l m none d h))

  pub by_computation : op < 32 → get_or computations op illegal o ≡ get_or meanings op d s o
  unfolding computations
  by_computation h = row simple computations illegal 0 op refl (omega arith) h

  pub by_control : 32 ≤ op → op < 46 → get_or controls (op - 32) illegal o ≡ get_or meanings op d s o
  unfolding computations controls
  by_control h k = row simple controls illegal 1 (op - 32) refl (omega arith) (omega arith)

  pub by_trap : 46 ≤ op → op < 48 → get_or traps (op - 46) illegal_system s.psw o.y o.word ≡ get_or meanings op d s o
  unfolding computations controls traps
  by_trap h k = row by_psw traps illegal_system 2 (op - 46) refl (omega arith) (omega arith)

  pub by_transfer : 48 ≤ op → op < 56 → get_or transfers (op - 48) d s o ≡ get_or meanings op d s o
  unfolding computations controls traps transfers
  by_transfer h k = row (λ f. f) transfers d 3 (op - 48) refl (omega arith) (omega arith)

  pub by_system : 56 ≤ op → op < 62 → get_or systems (op - 56) illegal_system s.psw o.y o.word ≡ get_or meanings op d s o
  unfolding computations controls traps transfers systems
  by_system h k = row by_psw systems illegal_system 4 (op - 56) refl (omega arith) (omega arith)

  pub by_none : 62 ≤ op → illegal o ≡ get_or meanings op d s o
  unfolding meanings computations controls traps transfers systems
  by_none h = ap (λ (f : Meaning). f s o) (sym (get_or-eq_default meanings d {n = op} h))
