-- The test that the derives make is the test of the definitions; and a machine that passes it is equal to the one that it is compared with.
use mathlib.Core.Path.{◌≡◌, refl, ap, ap₂, sym, ◌∙◌}
use mathlib.Core.Bool.{Bool, true, false, ◌&&◌}
use mathlib.Core.List.{List}
use Prim.Native.Nat.{ℕ}
use lib.Dec.{eqb}
use borrow.Author.Tests.{eqb-true}
use Rattle.std.specs.Cmp.Lexicographic.{pointwise}
use Rattle.words.specs.Logic.{both}
use Rattle.words.proofs.Conjunction.{both_true, two}
use Rattle.byte_slices.specs.Same.{same}
use Rattle.byte_slices.proofs.SameLaws.{same_equal, numbers_first, lists_first, same_pointwise}
use Rattle.timer.specs.declared.Timer.{Timer}
use Rattle.processor.specs.declared.Processor.{Processor}
use Rattle.machine.specs.declared.State.{State}
use Rattle.machine.specs.Machine.{Machine, machine_of}
use Rattle.machines.specs.Unchanged.{same_special, same_tlb, same_processor, same_timer, same_state, same_machine}

-- ---- what the definitions say

pub same_processor_equal : (p q : Processor) → same_processor p q ≡ true → p ≡ q
unfolding same_processor same_special same_tlb
same_processor_equal p q e =
    let (registers, r1) = lists_first p.registers q.registers _ e in
    let (pc, r2) = numbers_first p.pc q.pc _ r1 in
    let (special, tlb) = both_true (same_special p q) (same_tlb p q) r2 in
    let (psw, r3) = numbers_first p.psw q.psw _ special in
    let (index, r4) = numbers_first p.index q.index _ r3 in
    let (high, r5) = numbers_first p.entryhigh q.entryhigh _ r4 in
    let (low, bad) = numbers_first p.entrylow q.entrylow _ r5 in
    let (highs, r6) = lists_first p.tlbhigh q.tlbhigh _ tlb in
    let (lows, replacement) = lists_first p.tlblow q.tlblow _ r6 in
    let address = eqb-true p.badaddress q.badaddress bad in
    let last = eqb-true p.replacement q.replacement replacement in
    λ i. record {
      registers = registers i;
      pc = pc i;
      psw = psw i;
      index = index i;
      entryhigh = high i;
      entrylow = low i;
      badaddress = address i;
      tlbhigh = highs i;
      tlblow = lows i;
      replacement = last i;
    }

pub same_timer_equal : (t u : Timer) → same_timer t u ≡ true → t ≡ u
unfolding same_timer
same_timer_equal t u e =
    let (divisor, r1) = numbers_first t.divisor u.divisor _ e in
    let (counter, r2) = numbers_first t.counter u.counter _ r1 in
    let control = eqb-true t.control u.control r2 in
    λ i. record { divisor = divisor i; counter = counter i; control = control i }

pub same_machine_equal : (p : Processor) (t : Timer) (ram belt : List ℕ) (m : Machine) → same_machine p t ram belt m ≡ true
    → (p ≡ m.processor) × (t ≡ m.timer) × (ram ≡ m.memory.ram) × (belt ≡ m.memory.belt)
unfolding same_machine same_state
same_machine_equal p t ram belt m e =
    let (state, rest) = both_true (same_state p t m.processor m.timer) _ e in
    let (processor, timer) = both_true (same_processor p m.processor) (same_timer t m.timer) state in
    let (first, second) = lists_first ram m.memory.ram _ rest in
    (same_processor_equal p m.processor processor, same_timer_equal t m.timer timer, first, same_equal _ _ second)

-- ---- the tests that the derives make

abbrev pub processors : Processor → Processor → Bool
processors p q =
    pointwise eqb p.registers q.registers && (eqb p.pc q.pc && (eqb p.psw q.psw && (eqb p.index q.index && (eqb p.entryhigh q.entryhigh
    && (eqb p.entrylow q.entrylow && (eqb p.badaddress q.badaddress && (pointwise eqb p.tlbhigh q.tlbhigh
    && (pointwise eqb p.tlblow q.tlblow && eqb p.replacement q.replacement))))))))

abbrev pub timers : Timer → Timer → Bool
timers t u = eqb t.divisor u.divisor && (eqb t.counter u.counter && eqb t.control u.control)

abbrev pub states : State → State → Bool
states a b = processors a.processor b.processor && timers a.timer b.timer

-- by the parts of the definition
grouped : (a b c d e f g h i j : Bool) → (a && (b && (c && (d && (e && (f && (g && (h && (i && j)))))))))
    ≡ both a (both b (both (both c (both d (both e (both f g)))) (both h (both i j))))
grouped false b c d e f g h i j = refl
grouped true false c d e f g h i j = refl
grouped true true false d e f g h i j = refl
grouped true true true false e f g h i j = refl
grouped true true true true false f g h i j = refl
grouped true true true true true false g h i j = refl
grouped true true true true true true false h i j = refl
grouped true true true true true true true false i j = refl
grouped true true true true true true true true false j = refl
grouped true true true true true true true true true j = refl

processors_tested : (p q : Processor) → processors p q ≡ same_processor p q
unfolding same_processor same_special same_tlb
processors_tested p q =
    (λ i. same_pointwise p.registers q.registers i && (eqb p.pc q.pc && (eqb p.psw q.psw && (eqb p.index q.index && (eqb p.entryhigh q.entryhigh
    && (eqb p.entrylow q.entrylow && (eqb p.badaddress q.badaddress && (same_pointwise p.tlbhigh q.tlbhigh i
    && (same_pointwise p.tlblow q.tlblow i && eqb p.replacement q.replacement)))))))))
    ∙ grouped (same p.registers q.registers) (eqb p.pc q.pc) (eqb p.psw q.psw) (eqb p.index q.index) (eqb p.entryhigh q.entryhigh)
    (eqb p.entrylow q.entrylow) (eqb p.badaddress q.badaddress) (same p.tlbhigh q.tlbhigh) (same p.tlblow q.tlblow) (eqb p.replacement q.replacement)

timers_tested : (t u : Timer) → timers t u ≡ same_timer t u
unfolding same_timer
timers_tested t u =
    let first = eqb t.divisor u.divisor in
    let second = eqb t.counter u.counter in
    let third = eqb t.control u.control in
    two first (second && third) ∙ ap (both first) (two second third)

pub states_tested : (a b : State) → states a b ≡ same_state a.processor a.timer b.processor b.timer
unfolding same_state
states_tested a b =
    two (processors a.processor b.processor) (timers a.timer b.timer)
    ∙ ap₂ both (processors_tested a.processor b.processor) (timers_tested a.timer b.timer)

-- the test of a run: the state, RAM and belt
pub machine_tested : (a b : State) (ram belt : List ℕ) {ram₁ rom belt₁ : List ℕ} {m : Machine} {r s t : Bool}
    → r ≡ same_state a.processor a.timer b.processor b.timer → s ≡ same ram ram₁ → t ≡ same belt belt₁ → machine_of b ram₁ rom belt₁ ≡ m
    → (r && (s && t)) ≡ same_machine a.processor a.timer ram belt m
unfolding same_machine
machine_tested a b ram belt {ram₁} {rom} {belt₁} {m} {r} {s} {t} e f g h =
    two r (s && t) ∙ ap (both r) (two s t) ∙ (λ i. both (e i) (both (f i) (g i))) ∙ ap (same_machine a.processor a.timer ram belt) h

-- ---- what they say

pub states_equal : (a b : State) → states a b ≡ true → b ≡ a
unfolding same_state
states_equal a b e =
    let (first, second) = both_true (same_processor a.processor b.processor) (same_timer a.timer b.timer) (sym (states_tested a b) ∙ e) in
    let processor = same_processor_equal a.processor b.processor first in
    let timer = same_timer_equal a.timer b.timer second in
    sym (λ i. record { processor = processor i; timer = timer i })

pub all_equal : (a b : State) (ram ram₁ belt belt₁ : List ℕ) {r s t : Bool} → r ≡ states a b → s ≡ same ram ram₁ → t ≡ same belt belt₁
    → (r && (s && t)) ≡ true → (b ≡ a) × (ram₁ ≡ ram) × (belt₁ ≡ belt)
all_equal a b ram ram₁ belt belt₁ {r} {s} {t} f g h e =
    let (first, rest) = both_true r (s && t) (sym (two r (s && t)) ∙ e) in
    let (second, third) = both_true s t (sym (two s t) ∙ rest) in
    (states_equal a b (sym f ∙ first), sym (same_equal ram ram₁ (sym g ∙ second)), sym (same_equal belt belt₁ (sym h ∙ third)))
