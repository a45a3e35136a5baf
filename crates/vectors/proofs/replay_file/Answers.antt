-- `vectors::replay_file` meets its contract, by the law of Ended.
use Rattle.vectors.proofs.Ended.{none_means_ended}
use Rattle.vectors.proofs.replay_file.Goals as goal

pub returns : goal.returns
returns g c = none_means_ended _ _ c.finish-total.ensures
