-- Places by computation, at the greatest lengths that a run accepts (document 01, "What the host lends").
use mathlib.Core.Path.{◌≡◌, refl}
use Prim.Native.Nat.{ℕ}
use Rattle.memory.specs.Map.{within, register_at, locate, place_of}
use Rattle.memory.specs.declared.Place.{Place}
use Rattle.memory.specs.declared.Place.TheVariants.{Ram, Rom, Belt, Timer, Nothing}

-- the place of w bytes from an address
abbrev at : ℕ → ℕ → Place
at w address = place_of w 0x20000000 0x10000000 1024 address

pub last_word_of_ram : at 4 0x1FFFFFFC ≡ Ram 0x1FFFFFFC
unfolding place_of locate within register_at
last_word_of_ram = refl

pub word_over_the_end_of_ram : at 4 0x1FFFFFFE ≡ Nothing
unfolding place_of locate within register_at
word_over_the_end_of_ram = refl

pub first_word_of_rom : at 4 0x20000000 ≡ Rom 0
unfolding place_of locate within register_at
first_word_of_rom = refl

pub last_word_of_rom : at 4 0x2FFFFFFC ≡ Rom 0x0FFFFFFC
unfolding place_of locate within register_at
last_word_of_rom = refl

pub byte_of_the_timer : at 1 0x30000000 ≡ Nothing
unfolding place_of locate within register_at
byte_of_the_timer = refl

pub half_word_of_the_timer : at 2 0x30000004 ≡ Nothing
unfolding place_of locate within register_at
half_word_of_the_timer = refl

pub timer_control : at 4 0x30000000 ≡ Timer 0
unfolding place_of locate within register_at
timer_control = refl

pub timer_divisor : at 4 0x30000004 ≡ Timer 4
unfolding place_of locate within register_at
timer_divisor = refl

pub past_the_divisor : at 4 0x30000008 ≡ Nothing
unfolding place_of locate within register_at
past_the_divisor = refl

pub last_word_of_the_timer : at 4 0x300FFFFC ≡ Nothing
unfolding place_of locate within register_at
last_word_of_the_timer = refl

pub byte_of_the_belt : at 1 0x30500000 ≡ Nothing
unfolding place_of locate within register_at
byte_of_the_belt = refl

pub half_word_of_the_belt : at 2 0x30500000 ≡ Nothing
unfolding place_of locate within register_at
half_word_of_the_belt = refl

pub first_belt_register : at 4 0x30500000 ≡ Belt 0
unfolding place_of locate within register_at
first_belt_register = refl

pub last_belt_register : at 4 0x305003FC ≡ Belt 1020
unfolding place_of locate within register_at
last_belt_register = refl

pub past_the_belt : at 4 0x30500400 ≡ Nothing
unfolding place_of locate within register_at
past_the_belt = refl

pub last_address : at 4 0xFFFFFFFC ≡ Nothing
unfolding place_of locate within register_at
last_address = refl
