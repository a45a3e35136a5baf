-- In memory that holds bytes, with a timer that holds words, a load brings a number of its width, and a store leaves both so.
use mathlib.Core.Path.{refl, sym, subst}
use Prim.Native.Nat.{ℕ, ◌^◌, ◌≤◌, ◌<◌}
use lib.ListN.{length, get_or}
use Rattle.timer.specs.declared.Timer as timer
use Rattle.timer.specs.Timer.{register_read, register_written, TimerWords}
use Rattle.timer.proofs.Registers.{read_word, written_words, written_fits}
use Rattle.endian.proofs.Widths.{read_lt, write_bytes}
use Rattle.memory.specs.Map.{Memory, place_in}
use Rattle.memory.specs.Access.{read_in, load_of, write_in, memory_after, written_in, timer_after}
use Rattle.memory.specs.declared.Place.{Place}
use Rattle.memory.specs.declared.Place.TheVariants.{Ram, Rom, Belt, Timer, Nothing}
use Rattle.memory.specs.Loaded.{Loaded}
use Rattle.memory.specs.Loaded as loaded
use Rattle.memory.proofs.Places.{Lies, place_lies}

pub record Bytewise (m : Memory) : Type 0 where
  pub ram : (j : ℕ) → get_or m.ram j 0 < 256
  pub rom : (j : ℕ) → get_or m.rom j 0 < 256
  pub belt : (j : ℕ) → get_or m.belt j 0 < 256

-- what is loaded has w bytes
abbrev pub Fits : ℕ → Loaded → Type 0
Fits w (loaded.Value v) = v < 256 ^ w
Fits w loaded.Timeout = Unit {0}

module _ (w : ℕ) (t : timer.Timer) (words : TimerWords t) (m : Memory) (b : Bytewise m) where
  read_fits : (a : ℕ) (p : Place) → Lies w (length m.ram) (length m.rom) (length m.belt) a p → Fits w (read_in w t m p)
  read_fits a (Ram at) h = read_lt w m.ram at b.ram
  read_fits a (Rom at) h = read_lt w m.rom at b.rom
  read_fits a (Belt at) h = read_lt w m.belt at b.belt
  read_fits a (Timer at) h = subst (λ (n : ℕ). register_read t at < 256 ^ n) (sym h.0) (read_word t words at)
  read_fits a Nothing h = tt

  pub load_fits : (a : ℕ) → Fits w (load_of w t m a)
  unfolding load_of
  load_fits a = read_fits a (place_in w m a) (place_lies w (length m.ram) (length m.rom) (length m.belt) a (place_in w m a) refl)

module _ (w : ℕ) (m : Memory) (b : Bytewise m) where
  write_bytewise : (p : Place) (v : ℕ) → Bytewise (write_in w m p v)
  write_bytewise (Ram at) v = record { ram = write_bytes w m.ram at v b.ram; rom = b.rom; belt = b.belt }
  write_bytewise (Rom at) v = b
  write_bytewise (Belt at) v = record { ram = b.ram; rom = b.rom; belt = write_bytes w m.belt at v b.belt }
  write_bytewise (Timer at) v = b
  write_bytewise Nothing v = b

  pub store_bytewise : (a v : ℕ) → Bytewise (memory_after w m a v)
  unfolding memory_after
  store_bytewise a v = write_bytewise (place_in w m a) v

-- what every register write keeps of the timer, a store keeps
kept : (P : timer.Timer → Type 0) → ((t : timer.Timer) → P t → (at v : ℕ) → P (register_written t at v))
    → (t : timer.Timer) → P t → (p : Place) (v : ℕ) → P (written_in t p v)
kept P f t h (Ram at) v = h
kept P f t h (Rom at) v = h
kept P f t h (Belt at) v = h
kept P f t h (Timer at) v = f t h at v
kept P f t h Nothing v = h

pub store_words : (w : ℕ) (t : timer.Timer) → TimerWords t → (m : Memory) (a v : ℕ) → TimerWords (timer_after w t m a v)
unfolding timer_after
store_words w t h m a v = kept TimerWords written_words t h (place_in w m a) v

pub store_fits : (w : ℕ) (t : timer.Timer) → t.control ≤ 3 → (m : Memory) (a v : ℕ) → (timer_after w t m a v).control ≤ 3
unfolding timer_after
store_fits w t h m a v = kept (λ u. u.control ≤ 3) written_fits t h (place_in w m a) v
