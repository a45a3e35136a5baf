-- What holds before each turn of the loop, and what a turn makes of it.
use mathlib.Core.Path.{◌≡◌, refl, ap, sym, ◌∙◌}
use mathlib.Core.Bool.{true, false}
use Prim.Native.Nat.{ℕ, ◌+◌, ◌*◌, ◌-◌, ◌^◌, ◌≤◌, ◌<◌}
use native.Mathlib.Omega.{arith}
use Rattle.machine.specs.Machine.{Machine}
use Rattle.charges.specs.Charges.{charge_of}
use Rattle.refusals.specs.Request.{Request}
use Rattle.step.specs.Step.{Stepped, stepped, step_of}
use Rattle.run_loop.specs.Run.{outcome, ends, begun, run_from}
use Rattle.run_loop.proofs.Loop.{run_more, run_stop, run_end, run_start}

-- of the machine that the run began with, and of the one that it has come to
pub record Going (q : Request) (began m : Machine) (steps eid slot total : ℕ) : Type 0 where
  pub none : eid ≡ 32
  pub rest : run_from q q.wanted (begun began 0) ≡ run_from q (q.wanted - steps) (outcome m 0 steps 32 slot total)
  -- so the sum fits in 64 bits
  pub within : total ≤ steps * 65535

pub room : {q : Request} {began m : Machine} {steps eid slot total : ℕ} → Going q began m steps eid slot total → steps < q.wanted
    → q.wanted < 2 ^ 32 → total < 2 ^ 63
room g more fits = omega (arith, g.within)

-- it holds of the machine that the run begins with
pub started : (q : Request) (began : Machine) {m : Machine} → m ≡ began → {made : ℕ} → made ≡ 0 → Going q began m made 32 33 0
started q began e f =
    record {
      none = refl;
      rest = run_start q 0 began ∙ (λ i. run_from q (q.wanted - sym f i) (outcome (sym e i) 0 (sym f i) 32 33 0));
      within = omega arith;
    }

-- a turn, which makes a step more
module _ {q : Request} {began m : Machine} {steps eid slot total : ℕ} (g : Going q began m steps eid slot total) (more : steps < q.wanted)
    {n : Machine} {told by opcode : ℕ} (e : stepped n told by opcode ≡ step_of m q.lines)
    {sum : ℕ} (s : (sum ≡ total + charge_of q.charging opcode) × (sum ≤ total + 65535))
    {made : ℕ} (f : made ≡ steps + 1) where
  charged : sum ≡ total + charge_of q.charging (step_of m q.lines).event.opcode
  charged = s.0 ∙ ap (λ (t : Stepped). total + charge_of q.charging t.event.opcode) e

  -- the run goes on
  pub again : ends q.kind told ≡ false → Going q began n made eid by sum
  again on =
      rw f
      (record {
        none = g.none;
        rest =
            g.rest
            ∙ run_more q steps m slot total n told by sum (ap (λ (t : Stepped). t.machine) e) (ap (λ (t : Stepped). t.event.eid) e)
            (ap (λ (t : Stepped). t.event.slot) e) charged more on;
        within = omega (arith, g.within, s.1);
      })

  -- the run ends
  pub stops : ends q.kind told ≡ true → outcome n 0 made told by sum ≡ run_from q q.wanted (begun began 0)
  stops last =
      ap (λ (k : ℕ). outcome n 0 k told by sum) f
      ∙ sym (g.rest ∙ run_stop q steps m slot total n told by sum (ap (λ (t : Stepped). t.machine) e) (ap (λ (t : Stepped). t.event.eid) e)
      (ap (λ (t : Stepped). t.event.slot) e) charged more last)

-- and after the wanted steps
pub ended : {q : Request} {began m : Machine} {steps eid slot total : ℕ} → Going q began m steps eid slot total → q.wanted ≤ steps
    → outcome m 0 steps eid slot total ≡ run_from q q.wanted (begun began 0)
ended {q} {began} {m} {steps} {eid} {slot} {total} g h = sym (g.rest ∙ run_end q steps m eid slot total g.none h)
