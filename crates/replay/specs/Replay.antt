-- The replay of a file of commands of 8 bytes: a kind byte, a number of 24 bits and one of 32 bits, big-endian.
use Rattle.std.specs.Prelude.{Bool, true, false, cond, List, ℕ, zero, suc, ◌+◌, ◌/◌, ◌%◌, ◌^◌, eqb, length}
use Rattle.words.specs.Logic.{both}
use Rattle.endian.specs.BigEndian.{read_at}
use Rattle.memory.specs.Lent.{Lent}
use Rattle.machine.specs.Machine.{Machine, machine_of}
use Rattle.record.specs.Calls.{read_refusal}
use Rattle.replay.specs.Tally.{case_begun, step_made, end_read, judged}
use Rattle.expected.specs.Expected.{Expected, expected, clear, patch_fits, patched, started_in}
use Rattle.replay.specs.Agreement.{machine_after, step_agrees}
use Rattle.replay.specs.declared.Counts.{Counts}
use Rattle.replay.specs.declared.Progress.{Progress}
use Rattle.replay.specs.Tallies.{Tallies, tallies, step_tallied}

-- ---- the state of a replay

pub record Replay : Type 0 where
  pub expected : Expected
  pub model : Machine
  pub counts : Counts
  pub tallies : Tallies

abbrev pub replay : Expected → Machine → Counts → Tallies → Replay
replay x m c t = record { expected = x; model = m; counts = c; tallies = t }

-- the replay in slices that a call was lent, or as it left them; the slices of the expected machine are named by an x
abbrev pub replay_in : Progress → Lent → Lent → Lent → Lent → Lent → Lent → Lent → Lent → Lent → Replay
replay_in p xrecord xram xrom xbelt ram rom belt opcodes exceptions =
    replay (expected xrecord xram xrom xbelt) (machine_of p.state ram rom belt) p.counts (tallies opcodes exceptions)

-- ---- a command

abbrev pub clear_kind : ℕ
clear_kind = 0

abbrev pub start_kind : ℕ
start_kind = 6

abbrev pub step_kind : ℕ
step_kind = 7

abbrev pub end_kind : ℕ
end_kind = 8

-- whether a command is in its place, and, if it is a step, agrees
unfoldable pub good : Replay → ℕ → ℕ → ℕ → Bool
good r kind a b =
    cond r.counts.ended false
    (cond (eqb kind clear_kind) true
    (cond (eqb kind start_kind) (eqb (read_refusal r.expected.bytes) 0)
    (cond (eqb kind step_kind) (step_agrees r.expected b r.model a)
    (cond (eqb kind end_kind) (eqb r.counts.cases b)
    (patch_fits r.expected kind a)))))

-- what it changes
unfoldable pub done : Replay → ℕ → ℕ → ℕ → Replay
done r kind a b =
    cond r.counts.ended r
    (cond (eqb kind clear_kind) (replay (clear r.expected) r.model (case_begun r.counts) r.tallies)
    (cond (eqb kind start_kind) (replay r.expected (started_in r.model.memory r.expected) r.counts r.tallies)
    (cond (eqb kind step_kind)
    (replay r.expected (machine_after r.model a) (step_made r.counts) (step_tallied r.tallies r.model a))
    (cond (eqb kind end_kind) (replay r.expected r.model (end_read r.counts) r.tallies)
    (replay (patched r.expected kind a b) r.model r.counts r.tallies)))))

-- a replay with its counts judged
unfoldable pub after_judging : Bool → Bool → Replay → Replay
after_judging step fine r = replay r.expected r.model (judged step fine r.counts) r.tallies

-- a command that is not good is a mismatch
unfoldable pub commanded : Replay → ℕ → ℕ → ℕ → Replay
commanded r kind a b = after_judging (eqb kind step_kind) (good r kind a b) (done r kind a b)

-- ---- commands one after the other

-- the word at an offset holds the kind and the first number, and the word after it the second
unfoldable pub commanded_at : List ℕ → ℕ → Replay → Replay
commanded_at s at r = commanded r (read_at 4 s at / 2 ^ 24) (read_at 4 s at % 2 ^ 24) (read_at 4 s (at + 4))

unfoldable pub good_at : List ℕ → ℕ → Replay → Bool
good_at s at r = good r (read_at 4 s at / 2 ^ 24) (read_at 4 s at % 2 ^ 24) (read_at 4 s (at + 4))

-- n commands from an offset on
unfoldable pub replayed_from : ℕ → List ℕ → ℕ → Replay → Replay
replayed_from zero s at r = r
replayed_from (suc n) s at r = replayed_from n s (at + 8) (commanded_at s at r)

-- each of them good when its turn comes
unfoldable pub all_good_from : ℕ → List ℕ → ℕ → Replay → Bool
all_good_from zero s at r = true
all_good_from (suc n) s at r = both (good_at s at r) (all_good_from n s (at + 8) (commanded_at s at r))

-- the commands of a part of the file; a rest of fewer than 8 bytes is a mismatch
unfoldable pub replayed : List ℕ → Replay → Replay
replayed s r = after_judging false (eqb (length s % 8) 0) (replayed_from (length s / 8) s 0 r)

-- a file that ends without an end is a mismatch
unfoldable pub finished : Counts → Counts
finished c = judged false c.ended c
