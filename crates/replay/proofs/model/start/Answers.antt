-- `replay::model::start` meets its contract, by what a reading hands back.
use Rattle.expected.specs.Expected.{started_in}
use Rattle.expected.proofs.RecordCompared.{accepted}
use Rattle.replay.proofs.model.start.Goals as goal

pub returns : goal.returns
unfolding started_in
returns c =
    let handed = c.read_or_reset-progress.ensures in
    record {
      state = rw (c.copy.ensures, c.copy-2.ensures, c.copy-3.ensures, handed.processor, handed.timer);
      counts = rw (c.judge.ensures, c.is_ok.ensures.value, accepted c.read-reading.result, c.read-reading.ensures.refusal);
    }
