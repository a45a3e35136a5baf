-- Every operation keeps a fit state fit, and the state at reset is fit.
use Rattle.std.proofs.Common.{◌≡◌, ℕ, ◌%◌, ◌≤◌, Bool, true, cond, eqb, leb, List, get_or, sym, refl, ◌∙◌, arith, get_or-set_other, le-ltb, lt-ltb}
use borrow.Author.Tests.{eqb-false}
use Rattle.words.proofs.Cases.{chosen, case, below_or_not}
use Rattle.words.specs.Logic.{both}
use Rattle.status.specs.Psw.{pushed, popped}
use Rattle.status.proofs.PswLaws.{pushed_lt, popped_lt}
use Rattle.kept_bits.specs.Kept.{only_from, kept_psw, kept_index, kept_high, kept_low}
use Rattle.kept_bits.proofs.KeptLaws.{psw_kept, psw_again, index_again, index_kept, index_none, high_again, low_again}
use Rattle.kept_bits.proofs.OnlyLaws.{Only, set_only}
use Rattle.tlb.specs.Lookup.{lookup, page_of, found_index}
use Rattle.processor.specs.State.{at_reset, fit, with_registers, with_pc, with_specials, with_tlb, with_replacement}
use Rattle.processor.specs.Exception.{entered, returned}
use Rattle.processor.specs.Register.{put, written, jumped, special_written}
use Rattle.processor.specs.Tlb.{entry_written, indexed_written, random_written, index_moved, entry_read, searched}
use Rattle.tlb.proofs.Replacement.{index_range}
use Rattle.processor.specs.declared.Processor.{Processor}
use Rattle.processor.proofs.FitLaws.{Fit, fits}

-- one of two kept values is kept
either : (kept : ℕ → ℕ) (t : Bool) {x y : ℕ} → kept x ≡ x → kept y ≡ y → kept (cond t x y) ≡ cond t x y
either kept t = chosen (λ (v : ℕ). kept v ≡ v) t

pub reset_fit : fit at_reset ≡ true
unfolding fit at_reset only_from kept_psw kept_index kept_high kept_low
reset_fit = refl

-- ---- a state with one part changed

pub registers_fit : {p : Processor} → Fit p → {registers : List ℕ} → get_or registers 0 0 ≡ 0 → Fit (with_registers p registers)
registers_fit f zeroed = fits zeroed f.from f.upto f.psw f.index f.high f.low f.highs f.lows

pub pc_fit : {p : Processor} → Fit p → {pc : ℕ} → Fit (with_pc p pc)
pc_fit f = fits f.zeroed f.from f.upto f.psw f.index f.high f.low f.highs f.lows

pub specials_fit : {p : Processor} → Fit p → {psw index high low bad : ℕ}
    → kept_psw psw ≡ psw → kept_index index ≡ index → kept_high high ≡ high → kept_low low ≡ low
    → Fit (with_specials p psw index high low bad)
specials_fit f psw index high low = fits f.zeroed f.from f.upto psw index high low f.highs f.lows

pub tlb_fit : {p : Processor} → Fit p → {highs lows : List ℕ} → Only kept_high highs → Only kept_low lows → Fit (with_tlb p highs lows)
tlb_fit f highs lows = fits f.zeroed f.from f.upto f.psw f.index f.high f.low highs lows

pub index_fit : {p : Processor} → Fit p → {replacement : ℕ} → 4 ≤ replacement → replacement ≤ 31 → Fit (with_replacement p replacement)
index_fit f from upto = fits f.zeroed from upto f.psw f.index f.high f.low f.highs f.lows

-- ---- the operations

module _ (p : Processor) (f : Fit p) where
  pub entered_fit : (eid address : ℕ) → Fit (entered p eid address)
  unfolding entered
  entered_fit eid address =
      specials_fit (pc_fit (registers_fit f (get_or-set_other p.registers 30 0 p.pc 0 (λ e. omega arith) ∙ f.zeroed)))
      (psw_kept (pushed p.psw eid) (pushed_lt p.psw eid)) f.index
      (either kept_high (both (leb 21 eid) (leb eid 23)) (high_again address) f.high) f.low

  pub returned_fit : Fit (returned p)
  unfolding returned
  returned_fit = specials_fit (pc_fit f) (psw_kept (popped p.psw) (popped_lt p.psw)) f.index f.high f.low

  -- register 0 stays 0
  put_zero : (n v : ℕ) → get_or (put p.registers n v) 0 0 ≡ 0
  unfolding put
  put_zero n v =
      case (λ (l : List ℕ). get_or l 0 0 ≡ 0) (eqb (n % 32) 0) (λ e. f.zeroed)
      (λ e. get_or-set_other p.registers (n % 32) 0 v 0 (λ z. eqb-false (n % 32) 0 e (sym z)) ∙ f.zeroed)

  pub written_fit : (n v next : ℕ) → Fit (written p n v next)
  unfolding written
  written_fit n v next = pc_fit (registers_fit f (put_zero n v))

  pub jumped_fit : (next : ℕ) → Fit (jumped p next)
  unfolding jumped
  jumped_fit next = pc_fit f

  pub special_fit : (z v : ℕ) → Fit (special_written p z v)
  unfolding special_written
  special_fit z v =
      specials_fit f (either kept_psw (eqb z 0) (psw_again v) f.psw) (either kept_index (eqb z 1) (index_again v) f.index)
      (either kept_high (eqb z 2) (high_again v) f.high) (either kept_low (eqb z 3) (low_again v) f.low)

  entry_fit : (i : ℕ) → Fit (entry_written p i)
  unfolding entry_written
  entry_fit i =
      tlb_fit f (set_only kept_high p.tlbhigh (i % 32) p.entryhigh f.high f.highs)
      (set_only kept_low p.tlblow (i % 32) p.entrylow f.low f.lows)

  pub indexed_fit : Fit (indexed_written p)
  unfolding indexed_written
  indexed_fit = entry_fit p.index

  pub random_fit : Fit (random_written p)
  unfolding random_written
  random_fit = entry_fit p.replacement

  -- the index moves within 4..31
  pub moved_fit : Fit (index_moved p)
  moved_fit = let (from, upto) = index_range p.replacement f.from in index_fit f from upto

  pub read_fit : Fit (entry_read p)
  unfolding entry_read
  read_fit = specials_fit f f.psw f.index (f.highs (p.index % 32) (omega arith)) (f.lows (p.index % 32) (omega arith))

  found_kept : (i : ℕ) → kept_index (found_index i) ≡ found_index i
  unfolding found_index
  found_kept i =
      below_or_not i 32
      (λ h. rw (lt-ltb _ _ h) (index_kept i h))
      (λ h. rw (le-ltb _ _ h) index_none)

  pub searched_fit : Fit (searched p)
  unfolding searched
  searched_fit = specials_fit f f.psw (found_kept (lookup p.tlbhigh (page_of p.entryhigh))) f.high f.low
