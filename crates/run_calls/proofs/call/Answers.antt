-- `run_calls::call` meets its contract, by the laws of CallLaws.
use Rattle.memory.specs.Map.{memory}
use Rattle.refusals.specs.Code.{asked}
use Rattle.run_calls.proofs.CallLaws.{size_of_read, left_index, left_control, call_written}
use Rattle.run_calls.proofs.call.Goals as goal

pub put-requires : goal.put-requires
put-requires c =
    let q = asked c.args.request in
    let m = memory c.args.ram.now c.args.rom.now c.args.belt.now in
    let read = c.in_ok-state.ensures in (
      size_of_read _ read.refusal,
      left_index _ read.refusal m q read.processor read.timer c.advance-ran.ensures,
      left_control _ read.refusal m q read.processor read.timer c.advance-ran.ensures,
    )

pub returns : goal.returns
returns c =
    let m = memory c.args.ram.now c.args.rom.now c.args.belt.now in
    let held = c.in_ok-state.ensures in
    call_written _ m (asked c.args.request) c.in_ok-of_lengths.ensures held.refusal c.in_ok-of_request.ensures held.processor held.timer
    c.advance-ran.ensures c.put.ensures
