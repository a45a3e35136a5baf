-- Every entry point comes to the same run: what an exported run reads from the record is the machine, and so is what it hands back.
use mathlib.Core.Path.{◌≡◌, refl, ap}
use mathlib.Core.Bool.{Bool, true, false, cond}
use mathlib.Core.List.{List}
use Prim.Native.Nat.{ℕ, ◌^◌, ◌≤◌, ◌<◌}
use native.Mathlib.Omega.{arith}
use lib.Dec.{eqb}
use lib.ListN.{length, get_or, get_or-eq_default}
use borrow.Author.Tests.{eq-eqb}
use Rattle.words.proofs.Cases.{below_or_not}
use Rattle.record_layout.specs.Record.{record_of, kinds_in_place, processor_of, timer_of}
use Rattle.record_layout.proofs.KindLaws.{Kinds, means_kinds}
use Rattle.record_layout.proofs.Written.{record_length_lem}
use Rattle.record.proofs.WrittenRead.{Value, holds}
use Rattle.machine.specs.Machine.{Machine, Words32, Representable}
use Rattle.refusals.specs.Refusal.{run_refusal}
use Rattle.refusals.specs.Request.{Request}
use Rattle.run_loop.specs.Run.{Outcome, steps_of, begun, run_from, run_of}
use Rattle.run_loop.proofs.Loop.{run_is}
use Rattle.run_loop.proofs.Kept.{run_representable}
use Rattle.run_calls.specs.Runs.{machine_in, recorded, called, call_refusal, call_steps, call_of}
use Rattle.isolation.specs.Trace.{EntryPoint, ByValue, Exported, Call, handed_back, outcome_by, steps_by, made_with, call_outcome, call_trace}

-- ---- the record of a machine holds the machine

everywhere : (l : List ℕ) → Words32 l → (i : ℕ) → get_or l i 0 < 2 ^ 32
everywhere l w i =
    below_or_not i 32 (λ h. w.1 i h) (λ h. let past : length l ≤ i = omega (arith, w.0) in rw (get_or-eq_default l 0 past) (omega arith))

pub value : (m : Machine) → Representable m → Value m.processor
value m r =
    record {
      arrays = record { registers = r.registers.0; highs = r.tlbhigh.0; lows = r.tlblow.0 };
      registers = everywhere m.processor.registers r.registers;
      pc = r.pc;
      psw = r.psw;
      index = r.index;
      entryhigh = r.entryhigh;
      entrylow = r.entrylow;
      badaddress = r.badaddress;
      highs = everywhere m.processor.tlbhigh r.tlbhigh;
      lows = everywhere m.processor.tlblow r.tlblow;
      replacement = r.replacement;
    }

module _ (m : Machine) (r : Representable m) where
  abbrev s : List ℕ
  s = record_of m.processor m.timer

  -- its kind bytes, processor and timer
  held : Kinds s × (processor_of s ≡ m.processor) × (timer_of s ≡ m.timer)
  held = holds m.processor m.timer (value m r) r.timer

  machine_is : machine_in s m.memory ≡ m
  machine_is = λ i. record { processor = held.1 i; timer = held.2 i; memory = m.memory }

  -- only fitness can be missing in it
  pub refusal_is : (q : Request) → call_refusal s m.memory q ≡ run_refusal m q
  unfolding call_refusal run_refusal
  refusal_is q =
      let kinds : kinds_in_place s ≡ true = means_kinds s held.0 in
      rw (eq-eqb (length s) 424 (record_length_lem m.timer m.processor (value m r).arrays), kinds, held.1, held.2)

-- ---- an exported run is the run by value

handed_back_lem : (o : Outcome) → Representable o.machine → handed_back (recorded o) ≡ o
handed_back_lem o r = λ i. record { machine = machine_is o.machine r i; answer = o.answer }

handed_refused : (m : Machine) (number : ℕ) → Representable m
    → handed_back (called (record_of m.processor m.timer) m.memory number 0 32 33 0) ≡ begun m number
handed_refused m number r = λ i. record { machine = machine_is m r i; answer = (begun m number).answer }

module _ (q : Request) (m : Machine) (r : Representable m) where
  exported_outcome : outcome_by Exported q m ≡ run_of q m
  unfolding call_of
  exported_outcome = rw (refusal_is m r q, machine_is m r, run_is q m) (go (eqb (run_refusal m q) 0))
    where
      go : (t : Bool)
          → handed_back (cond t (recorded (run_from q q.wanted (begun m 0)))
          (called (record_of m.processor m.timer) m.memory (run_refusal m q) 0 32 33 0))
          ≡ cond t (run_from q q.wanted (begun m 0)) (begun m (run_refusal m q))
      go true = handed_back_lem (run_from q q.wanted (begun m 0)) (run_representable q q.wanted (begun m 0) r)
      go false = handed_refused m (run_refusal m q) r

  exported_steps : steps_by Exported q m ≡ steps_of q m
  unfolding call_steps steps_of
  exported_steps = rw (refusal_is m r q, machine_is m r)

outcome_by_lem : (e : EntryPoint) (q : Request) (m : Machine) → Representable m → outcome_by e q m ≡ run_of q m
outcome_by_lem ByValue q m r = refl
outcome_by_lem Exported q m r = exported_outcome q m r

steps_by_lem : (e : EntryPoint) (q : Request) (m : Machine) → Representable m → steps_by e q m ≡ steps_of q m
steps_by_lem ByValue q m r = refl
steps_by_lem Exported q m r = exported_steps q m r

module _ (c : Call) (m : Machine) (r : Representable m) where
  pub outcome_is : call_outcome c m ≡ run_of c.request m
  unfolding call_outcome
  outcome_is = outcome_by_lem c.point c.request m r

  pub trace_is : call_trace c m ≡ made_with c.request.lines (steps_of c.request m)
  unfolding call_trace
  trace_is = ap (made_with c.request.lines) (steps_by_lem c.point c.request m r)
