-- Helpers of the code's contracts: the action that the code's enum stands for, and the operands that its struct holds. No definition
-- names them.
use Rattle.instructions.specs.Action.{Action, Write, Store, System, Exception, Rfx, Mvfs, Mvts, Tbs, Tbwr, Tbri, Tbwi}
use Rattle.instructions.specs.Operands.{Operands, operands}
use Rattle.instructions.specs.declared.Coded.{Coded}
use Rattle.instructions.specs.declared.Coded.TheVariants as coded
use Rattle.instructions.specs.declared.Operands as code

abbrev pub action_of : Coded → Action
action_of (coded.Write n v next slot) = Write n v next slot
action_of (coded.Store width physical v slot) = Store width physical v slot
action_of coded.Rfx = System Rfx
action_of (coded.Mvfs z n) = System (Mvfs z n)
action_of (coded.Mvts z v) = System (Mvts z v)
action_of coded.Tbs = System Tbs
action_of coded.Tbwr = System Tbwr
action_of coded.Tbri = System Tbri
action_of coded.Tbwi = System Tbwi
action_of (coded.Exception eid address) = Exception eid address

abbrev pub operands_of : code.Operands → Operands
operands_of o = operands o.x o.y o.word o.next
