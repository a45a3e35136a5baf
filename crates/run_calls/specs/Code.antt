-- Helpers of the code's contracts and laws: what a call comes to, with the Result that it answers, and the first of two refusals. No definition names them.
use Rattle.std.specs.Prelude.{List, ℕ, Result, cond, eqb}
use Rattle.memory.specs.Map.{Memory}
use Rattle.refusals.specs.declared.Refusal.{Refusal}
use Rattle.run_loop.specs.declared.Ran.{Ran}
use Rattle.run_loop.specs.Code.{answer_of}
use Rattle.run_calls.specs.Runs.{Called}

abbrev pub called_as : List ℕ → Memory → Result Ran Refusal → Called
called_as buffer m made = record { buffer = buffer; memory = m; answer = answer_of made }

-- the first of two refusals that is not 0, or 0
unfoldable pub first_of : ℕ → ℕ → ℕ
first_of a b = cond (eqb a 0) b a
