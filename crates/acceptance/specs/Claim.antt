-- Which calls are accepted, of every call of the part (document 01, "Refused calls").
use Rattle.std.specs.Prelude.{◌≡◌, true, List, [], ◌∷◌, ◌⊎◌, ℕ, length}
use Rattle.words.specs.Logic.{Exactly}
use Rattle.memory.specs.Map.{Memory}
use Rattle.processor.specs.declared.Processor.{Processor}
use Rattle.timer.specs.declared.Timer.{Timer}
use Rattle.machine.specs.Machine.{Machine, Bytes, Representable, fit_with}
use Rattle.refusals.specs.Refusal.{run_tests}
use Rattle.refusals.specs.Cause.{OnlyForItsCause, RamLength, RomLength, BeltLength, Steps, ChargesLength, Asked}
use Rattle.charges.specs.Charges.{Charging, Uncharged, ChargedBy}
use Rattle.refusals.specs.Request.{Request}
use Rattle.run_loop.specs.Run.{run_of}
use Rattle.run_calls.specs.Runs.{call_tests, call_of}
use Rattle.record_layout.specs.Record.{kinds_in_place, processor_of, timer_of}
use Rattle.record.specs.Calls.{record_tests, read_refusal, write_tests, write_refusal}
use Rattle.record_calls.specs.Records.{reset_tests, reset_refusal, copy_tests, copy_refusal}
use Rattle.record_calls.specs.Views.{call_view_tests, call_view_of}
use Rattle.page_view.specs.View.{view_tests, view_of}
use Rattle.isolation.specs.Trace.{Call, call_outcome}

-- a charged run may answer 9 too, last
abbrev pub of_charging : Charging → List ℕ
of_charging Uncharged = []
of_charging (ChargedBy s) = 9 ∷ []

-- "a refusal comes only for its cause": for each call the numbers that it may answer, in the order of their tests
pub record OnlyForCauses : Type 0 where
  pub run : (q : Request) (m : Machine) → OnlyForItsCause (1 ∷ 2 ∷ 3 ∷ 6 ∷ 7 ∷ of_charging q.charging) (run_tests m q) (run_of q m).answer.refusal
  pub exported_run : (q : Request) (s : List ℕ) (m : Memory)
      → OnlyForItsCause (1 ∷ 2 ∷ 3 ∷ 4 ∷ 5 ∷ 6 ∷ 7 ∷ of_charging q.charging) (call_tests s m q) (call_of q s m).answer.refusal
  pub read : (s : List ℕ) → OnlyForItsCause (4 ∷ 5 ∷ 6 ∷ []) (record_tests s) (read_refusal s)
  pub write : (p : Processor) (t : Timer) (s : List ℕ) → OnlyForItsCause (4 ∷ 6 ∷ []) (write_tests p t s) (write_refusal p t s)
  pub exported_reset : (buffer : List ℕ) → OnlyForItsCause (4 ∷ []) (reset_tests buffer) (reset_refusal buffer)
  -- reading and writing, from one list of bytes to another
  pub exported_copy : (from buffer : List ℕ) → OnlyForItsCause (4 ∷ 4 ∷ 5 ∷ 6 ∷ []) (copy_tests from buffer) (copy_refusal from buffer)
  pub view : (ram : List ℕ) (p : Processor) (page : ℕ)
      → OnlyForItsCause (1 ∷ 6 ∷ 8 ∷ []) (view_tests ram p page) (view_of ram p page).refusal
  pub exported_view : (ram s : List ℕ) (page : ℕ)
      → OnlyForItsCause (1 ∷ 4 ∷ 5 ∷ 6 ∷ 8 ∷ []) (call_view_tests ram s page) (call_view_of ram s page).refusal

-- "Success is 0": when a run, a reading and a writing are accepted, in the words of the table
pub record Accepted : Type 0 where
  pub run : (q : Request) (m : Machine) → Exactly ((run_of q m).answer.refusal ≡ 0) (
      RamLength (length m.memory.ram) × RomLength (length m.memory.rom) × BeltLength (length m.memory.belt)
      × (fit_with m.processor m.timer ≡ true) × Steps q.wanted × ChargesLength q.charging)
  pub exported_run : (q : Request) (s : List ℕ) (m : Memory) → Exactly ((call_of q s m).answer.refusal ≡ 0) (
      RamLength (length m.ram) × RomLength (length m.rom) × BeltLength (length m.belt)
      × (length s ≡ 424) × (kinds_in_place s ≡ true) × (fit_with (processor_of s) (timer_of s) ≡ true) × Steps q.wanted × ChargesLength q.charging)
  -- a record has either length (document 02, job 1)
  pub read : (s : List ℕ) → Exactly (read_refusal s ≡ 0) (
      ((length s ≡ 414) ⊎ (length s ≡ 424)) × (kinds_in_place s ≡ true) × (fit_with (processor_of s) (timer_of s) ≡ true))
  pub write : (p : Processor) (t : Timer) (s : List ℕ) → Exactly (write_refusal p t s ≡ 0) ((length s ≡ 424) × (fit_with p t ≡ true))

-- "a faulting program .. is never refused": after an accepted run, every run of at most 1,000,000 steps on what it left is accepted, with a list of
-- charges of the right length if it is charged
pub record NeverRefused : Type 0 where
  pub by_value : (q : Request) (m : Machine) → (run_of q m).answer.refusal ≡ 0
      → (later : Request) → Asked later → (run_of later (run_of q m).machine).answer.refusal ≡ 0
  -- any bytes that were accepted as a machine's record, and what the call left in the buffer and in the lent memory
  pub exported : (q : Request) (s : List ℕ) (m : Memory) → Bytes s → Bytes m.ram → Bytes m.rom → Bytes m.belt
      → (call_of q s m).answer.refusal ≡ 0
      → (later : Request) → Asked later → (call_of later (call_of q s m).buffer (call_of q s m).memory).answer.refusal ≡ 0
  -- two runs, each by value or exported
  pub by_any : (c : Call) (m : Machine) → Representable m → (call_outcome c m).answer.refusal ≡ 0
      → (later : Call) → Asked later.request → (call_outcome later (call_outcome c m).machine).answer.refusal ≡ 0
