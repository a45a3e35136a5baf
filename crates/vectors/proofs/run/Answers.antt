-- `vectors::run` meets its contract, by the law of Ended.
use Rattle.vectors.proofs.Ended.{none_means_ended}
use Rattle.vectors.proofs.run.Goals as goal

pub returns-in_ok-write_all-in-Err : goal.returns-in_ok-write_all-in-Err
returns-in_ok-write_all-in-Err g c = none_means_ended _ _ c.finish.ensures
