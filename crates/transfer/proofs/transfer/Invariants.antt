-- What each load's function makes of the value that was read.
use Rattle.words.specs.Numbers.{zero_extend, sign_extend}
use Rattle.transfer.proofs.transfer.Given as goal

abbrev pub ghost-land : goal.ghost-land
ghost-land a = λ v. v

abbrev pub ghost-land-2 : goal.ghost-land-2
ghost-land-2 a = sign_extend 16

abbrev pub ghost-land-3 : goal.ghost-land-3
ghost-land-3 a = zero_extend 16

abbrev pub ghost-land-4 : goal.ghost-land-4
ghost-land-4 a = sign_extend 8

abbrev pub ghost-land-5 : goal.ghost-land-5
ghost-land-5 a = zero_extend 8
