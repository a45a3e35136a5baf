-- What the test of fitness says, as facts.
use Rattle.std.proofs.Common.{◌≡◌, ◌≤◌, Bool, true, eqb, leb, List, [], ◌∷◌, get_or, ap, eq-eqb, eqb-true, le-leb, leb-true}
use Rattle.words.specs.Logic.{both}
use Rattle.words.proofs.Conjunction.{both_true, true_both, all_true, true_all}
use Rattle.words.proofs.Every.{◌&◌}
use Rattle.kept_bits.specs.Kept.{kept_psw, kept_index, kept_high, kept_low, only, only_from}
use Rattle.kept_bits.specs.Code.{only_special}
use Rattle.kept_bits.proofs.OnlyLaws.{special_first, Only, only_means, means_only}
use Rattle.processor.specs.State.{fit}
use Rattle.processor.specs.declared.Processor.{Processor}

-- the test with the special registers as one part
pub fit_parts : (p : Processor)
    → fit p
    ≡ both (eqb (get_or p.registers 0 0) 0)
    (both (both (leb 4 p.replacement) (leb p.replacement 31))
    (both (only_special p.psw p.index p.entryhigh p.entrylow)
    (both (only_from kept_high 32 p.tlbhigh 0) (only_from kept_low 32 p.tlblow 0))))
unfolding fit
fit_parts p =
    ap (λ t. both (eqb (get_or p.registers 0 0) 0) (both (both (leb 4 p.replacement) (leb p.replacement 31)) t))
    (special_first p.psw p.index p.entryhigh p.entrylow (both (only_from kept_high 32 p.tlbhigh 0) (only_from kept_low 32 p.tlblow 0)))

pub record Fit (p : Processor) : Type 0 where
  pub zeroed : get_or p.registers 0 0 ≡ 0
  pub from : 4 ≤ p.replacement
  pub upto : p.replacement ≤ 31
  pub psw : kept_psw p.psw ≡ p.psw
  pub index : kept_index p.index ≡ p.index
  pub high : kept_high p.entryhigh ≡ p.entryhigh
  pub low : kept_low p.entrylow ≡ p.entrylow
  pub highs : Only kept_high p.tlbhigh
  pub lows : Only kept_low p.tlblow

pub fits : {p : Processor} → get_or p.registers 0 0 ≡ 0 → 4 ≤ p.replacement → p.replacement ≤ 31
    → kept_psw p.psw ≡ p.psw → kept_index p.index ≡ p.index → kept_high p.entryhigh ≡ p.entryhigh → kept_low p.entrylow ≡ p.entrylow
    → Only kept_high p.tlbhigh → Only kept_low p.tlblow → Fit p
fits zeroed from upto psw index high low highs lows =
    record { zeroed = zeroed; from = from; upto = upto; psw = psw; index = index; high = high; low = low; highs = highs; lows = lows }

-- ---- the test and the facts are the same

abbrev tests : Processor → List Bool
tests p =
    eqb (get_or p.registers 0 0) 0 ∷ both (leb 4 p.replacement) (leb p.replacement 31) ∷ only kept_psw p.psw ∷ only kept_index p.index
    ∷ only kept_high p.entryhigh ∷ only kept_low p.entrylow ∷ only_from kept_high 32 p.tlbhigh 0 ∷ only_from kept_low 32 p.tlblow 0 ∷ []

pub fit_means : (p : Processor) → fit p ≡ true → Fit p
unfolding fit
fit_means p e =
    let t = all_true (tests p) e in
    let range = both_true _ _ t.1.0 in
    let special = t.1.1 in
    let tlb = special.1.1.1.1 in
    fits (eqb-true _ _ t.0) (leb-true _ _ range.0) (leb-true _ _ range.1)
    (eqb-true _ _ special.0) (eqb-true _ _ special.1.0) (eqb-true _ _ special.1.1.0) (eqb-true _ _ special.1.1.1.0)
    (only_means kept_high p.tlbhigh tlb.0) (only_means kept_low p.tlblow tlb.1.0)

pub means_fit : (p : Processor) → Fit p → fit p ≡ true
unfolding fit
means_fit p f =
    true_all (tests p)
    (eq-eqb _ _ f.zeroed & true_both _ _ (le-leb _ _ f.from) (le-leb _ _ f.upto) & eq-eqb _ _ f.psw & eq-eqb _ _ f.index
    & eq-eqb _ _ f.high & eq-eqb _ _ f.low & means_only kept_high p.tlbhigh f.highs & means_only kept_low p.tlblow f.lows & tt)
