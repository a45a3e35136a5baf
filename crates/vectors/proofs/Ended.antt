-- No mismatch is counted only where the end of the file was read.
use mathlib.Core.Path.{◌≡◌, ap, sym, ◌∙◌}
use mathlib.Core.Bool.{true}
use Rattle.replay.specs.declared.Counts.{Counts}
use Rattle.replay.specs.Tally.{judged}
use Rattle.replay.specs.Replay.{finished}
use Rattle.replay.proofs.Mismatches.{none_in_file}

pub none_means_ended : (c r : Counts) → r ≡ finished c → r.mismatches ≡ 0 → r.ended ≡ true
unfolding finished judged
none_means_ended c r e h =
    let ended : c.ended ≡ true = (none_in_file c (sym (ap (λ (k : Counts). k.mismatches) e) ∙ h)).0 in
    ap (λ (k : Counts). k.ended) e ∙ rw ended
