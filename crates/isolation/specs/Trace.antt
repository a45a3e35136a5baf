-- A list of runs, every step of it, and the answers that are compared (document 01, "Runs and views"; document 02, job 3).
use Rattle.std.specs.Prelude.{Bool, true, cond, List, [], ◌∷◌, ◌++◌, ℕ}
use Rattle.words.specs.Logic.{both}
use Rattle.status.specs.Psw.{user_mode}
use Rattle.machine.specs.Machine.{Machine}
use Rattle.step.specs.Step.{Stepped}
use Rattle.refusals.specs.Request.{Request}
use Rattle.run_loop.specs.Run.{Answer, Outcome, steps_of, run_of}
use Rattle.record_layout.specs.Record.{record_of}
use Rattle.run_calls.specs.Runs.{Called, machine_in, call_steps, call_of}

-- PSW bit 26 is 1
abbrev pub in_user_mode : Machine → Bool
in_user_mode m = user_mode m.processor.psw

-- where a run is entered: with processor and timer by value, or as an exported call with the machine as its record
pub data EntryPoint : Type 0 where
  ByValue : EntryPoint
  Exported : EntryPoint

-- a run of the list: its entry point, and what it is asked, its charges among it
pub record Call : Type 0 where
  pub point : EntryPoint
  pub request : Request

-- ---- one run

-- the machine of a record, and the memory, after an exported run
abbrev pub handed_back : Called → Outcome
handed_back c = record { machine = machine_in c.buffer c.memory; answer = c.answer }

abbrev pub outcome_by : EntryPoint → Request → Machine → Outcome
outcome_by ByValue q m = run_of q m
outcome_by Exported q m = handed_back (call_of q (record_of m.processor m.timer) m.memory)

-- a refused run makes no step
abbrev pub steps_by : EntryPoint → Request → Machine → List Stepped
steps_by ByValue q m = steps_of q m
steps_by Exported q m = call_steps q (record_of m.processor m.timer) m.memory

unfoldable pub call_outcome : Call → Machine → Outcome
call_outcome c m = outcome_by c.point c.request m

-- a step of a list: the lines of its run, and the machine after it
pub record Made : Type 0 where
  pub lines : ℕ
  pub machine : Machine

abbrev pub made_with : ℕ → List Stepped → List Made
made_with lines [] = []
made_with lines (s ∷ ss) = record { lines = lines; machine = s.machine } ∷ made_with lines ss

unfoldable pub call_trace : Call → Machine → List Made
call_trace c m = made_with c.request.lines (steps_by c.point c.request m)

-- ---- the list: each run takes the machine that the one before it returned and the bytes that it left

unfoldable pub trace_of : List Call → Machine → List Made
trace_of [] m = []
trace_of (c ∷ cs) m = call_trace c m ++ trace_of cs (call_outcome c m).machine

-- up to and including the first step after which the machine is not in User Mode
unfoldable pub up_to_leaving : List Made → List Made
up_to_leaving [] = []
up_to_leaving (s ∷ ss) = s ∷ cond (in_user_mode s.machine) (up_to_leaving ss) []

-- every step of a trace from m on is made in User Mode: none comes after the leaving one
unfoldable pub made_in_user_mode : Machine → List Made → Bool
made_in_user_mode m [] = true
made_in_user_mode m (s ∷ ss) = both (in_user_mode m) (made_in_user_mode s.machine ss)

-- the answers of the runs that end before any step after the leaving one is made
unfoldable pub answers_of : List Call → Machine → List Answer
answers_of [] m = []
answers_of (c ∷ cs) m =
    cond (made_in_user_mode m (call_trace c m)) ((call_outcome c m).answer ∷ answers_of cs (call_outcome c m).machine) []
