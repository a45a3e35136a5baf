-- Tests joined by `&` and by `both` are the same: those of fitness, of the special registers and of the TLB's words.
use mathlib.Core.Path.{◌≡◌, refl, ap, ap₂, sym, ◌∙◌}
use mathlib.Core.Bool.{Bool, true, false, ◌&&◌}
use mathlib.Core.List.{List}
use Prim.Native.Nat.{ℕ, zero, suc, ◌+◌}
use native.Mathlib.Omega.{arith}
use lib.Dec.{eqb, leb}
use lib.ListN.{length, get_or, drop, drop_of_length-le}
use lib.Seq.{drop-cons}
use Rattle.std.specs.List.{list_all}
use Rattle.words.specs.Logic.{both}
use Rattle.words.proofs.Conjunction.{two, four, five}
use Rattle.kept_bits.specs.Kept.{kept_psw, kept_index, kept_high, kept_low, only, only_from}
use Rattle.kept_bits.specs.Code.{only_special}
use Rattle.timer.specs.Timer.{timer_fit}
use Rattle.timer.specs.declared.Timer.{Timer}
use Rattle.machine.specs.Machine.{fit_with}
use Rattle.processor.specs.State.{fit}
use Rattle.processor.specs.declared.Processor.{Processor}
use Rattle.processor.proofs.FitLaws.{fit_parts}

-- ---- the TLB's words

module _ (kept : ℕ → ℕ) (l : List ℕ) (h : length l ≡ 32) where
  rest_all : (n i : ℕ) → i + n ≡ 32 → list_all (only kept) (drop i l) ≡ only_from kept n l i
  unfolding only_from
  rest_all zero i e = ap (list_all (only kept)) (drop_of_length-le l (omega (arith, h)))
  rest_all (suc n) i e =
      rw (drop-cons l i 0 (omega (arith, h)), rest_all n (suc i) (omega arith)) (two (only kept (get_or l i 0)) (only_from kept n l (suc i)))

  all_only : list_all (only kept) l ≡ only_from kept 32 l 0
  all_only = rest_all 32 0 refl

-- from what is found of the high words and of the low words
pub only_all : (highs lows : List ℕ) → length highs ≡ 32 → length lows ≡ 32 → {a b : Bool}
    → a ≡ list_all (only kept_high) highs → b ≡ list_all (only kept_low) lows
    → (a && b) ≡ both (only_from kept_high 32 highs 0) (only_from kept_low 32 lows 0)
only_all highs lows h k {a} {b} p q = two a b ∙ ap₂ both (p ∙ all_only kept_high highs h) (q ∙ all_only kept_low lows k)

-- ---- fitness

-- the two ends of the range are one test of the definition
ranged : (a b c rest : Bool) → both a (both b (both c rest)) ≡ both a (both (both b c) rest)
ranged a true c rest = refl
ranged a false c rest = refl

-- from what is found of the special registers and of the TLB
pub only_fit : (p : Processor) {special tlb : Bool}
    → special ≡ only_special p.psw p.index p.entryhigh p.entrylow
    → tlb ≡ both (only_from kept_high 32 p.tlbhigh 0) (only_from kept_low 32 p.tlblow 0)
    → (((eqb (get_or p.registers 0 0) 0 && leb 4 p.replacement) && leb p.replacement 31) && special) && tlb ≡ fit p
only_fit p {special} {tlb} s t =
    five (eqb (get_or p.registers 0 0) 0) (leb 4 p.replacement) (leb p.replacement 31) special tlb
    ∙ ranged (eqb (get_or p.registers 0 0) 0) (leb 4 p.replacement) (leb p.replacement 31) (both special tlb)
    ∙ rw (s, t) (sym (fit_parts p))

-- with the timer
pub fit_with_lem : (p : Processor) (t : Timer) {a b : Bool} → a ≡ fit p → b ≡ timer_fit t → (a && b) ≡ fit_with p t
unfolding fit_with
fit_with_lem p t e f = rw (e, f) (two (fit p) (timer_fit t))

-- ---- the special registers

-- from the kept bits of each
pub only_four : (psw index high low : ℕ) {a b c d : ℕ}
    → a ≡ kept_psw psw
    → b ≡ kept_index index
    → c ≡ kept_high high
    → d ≡ kept_low low
    → ((eqb a psw && eqb b index) && eqb c high) && eqb d low ≡ only_special psw index high low
unfolding only_special
only_four psw index high low p q r s =
    rw (p, q, r, s) (four (eqb (kept_psw psw) psw) (eqb (kept_index index) index) (eqb (kept_high high) high) (eqb (kept_low low) low))
