-- Worked values, by computation: document 01's case of a shift.
use mathlib.Core.Path.{◌≡◌, refl}
use Rattle.words.specs.Numbers.{bit, signed, word_of}
use Rattle.shifts.specs.Shifts.{shift_arithmetic}

pub arithmetic_shift_by_33 : shift_arithmetic 0x80000000 33 ≡ 0xC0000000
unfolding shift_arithmetic signed bit word_of
arithmetic_shift_by_33 = refl
