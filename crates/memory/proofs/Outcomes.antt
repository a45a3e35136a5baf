-- What a load and a store come to at each place, over the width.
use mathlib.Core.Path.{◌≡◌, refl, ap, sym, ◌∙◌}
use mathlib.Core.List.{List}
use Prim.Native.Nat.{ℕ}
use lib.ListN.{length}
use Rattle.endian.specs.BigEndian.{read_at, write_at}
use Rattle.timer.specs.Timer.{register_read, register_written}
use Rattle.timer.specs.declared.Timer as timer
use Rattle.memory.specs.Map.{Memory, memory, locate, place_of, place_in}
use Rattle.memory.specs.Access.{read_in, load_of, completes, store_answer, write_in, memory_after, written_in, timer_after, loaded_eid, loaded_value, stored_eid}
use Rattle.memory.specs.declared.Place.{Place}
use Rattle.memory.specs.declared.Place.TheVariants.{Ram, Rom, Belt, Timer, Nothing}
use Rattle.memory.specs.Loaded.{Loaded}
use Rattle.memory.specs.Loaded as loaded
use Rattle.memory.specs.Stored.{Stored}
use Rattle.memory.specs.Stored as stored
use Rattle.memory.proofs.Places.{place_by, narrow_belt}

-- ---- stores

module _ (w : ℕ) (m : Memory) (a : ℕ) where
  pub answer_at : (p : Place) → place_in w m a ≡ p → store_answer w m a ≡ completes p
  unfolding store_answer
  answer_at p e = ap completes e

  pub stored_at : (p : Place) (v : ℕ) → place_in w m a ≡ p → memory_after w m a v ≡ write_in w m p v
  unfolding memory_after
  stored_at p v e = ap (λ (q : Place). write_in w m q v) e

  pub timer_at : (t : timer.Timer) (p : Place) (v : ℕ) → place_in w m a ≡ p → timer_after w t m a v ≡ written_in t p v
  unfolding timer_after
  timer_at t p v e = ap (λ (q : Place). written_in t q v) e

  -- a bus timeout is 16
  pub store_times_out : place_in w m a ≡ Nothing → stored_eid (store_answer w m a) ≡ 16
  store_times_out e = ap stored_eid (answer_at Nothing e)

  pub store_to_rom_completes : (at : ℕ) → place_in w m a ≡ Rom at → stored_eid (store_answer w m a) ≡ 32
  store_to_rom_completes at e = ap stored_eid (answer_at (Rom at) e)

  -- a byte or half-word access to a belt register goes nowhere
  unanswered : (w ≡ 4 → ⊥) → (at : ℕ) → locate w (length m.ram) (length m.rom) (length m.belt) a ≡ Belt at → place_in w m a ≡ Nothing
  unanswered narrow at belt = place_by w (length m.ram) (length m.rom) (length m.belt) a belt ∙ narrow_belt w at narrow

-- ---- loads

module _ (w : ℕ) (t : timer.Timer) (m : Memory) (a : ℕ) where
  pub load_at : (p : Place) → place_in w m a ≡ p → load_of w t m a ≡ read_in w t m p
  unfolding load_of
  load_at p e = ap (read_in w t m) e

  pub load_times_out : place_in w m a ≡ Nothing → loaded_eid (load_of w t m a) ≡ 16
  load_times_out e = ap loaded_eid (load_at Nothing e)

  -- an answered access names no exception, and a load brings the number that is there
  abbrev Brings : ℕ → Type 0
  Brings v = (loaded_eid (load_of w t m a) ≡ 32) × (loaded_value (load_of w t m a) ≡ v)

  pub load_brings_ram : (at : ℕ) → place_in w m a ≡ Ram at → Brings (read_at w m.ram at)
  load_brings_ram at e = (ap loaded_eid (load_at (Ram at) e), ap loaded_value (load_at (Ram at) e))

  pub load_brings_rom : (at : ℕ) → place_in w m a ≡ Rom at → Brings (read_at w m.rom at)
  load_brings_rom at e = (ap loaded_eid (load_at (Rom at) e), ap loaded_value (load_at (Rom at) e))

  pub load_brings_belt : (at : ℕ) → place_in w m a ≡ Belt at → Brings (read_at w m.belt at)
  load_brings_belt at e = (ap loaded_eid (load_at (Belt at) e), ap loaded_value (load_at (Belt at) e))

  pub load_brings_register : (at : ℕ) → place_in w m a ≡ Timer at → Brings (register_read t at)
  load_brings_register at e = (ap loaded_eid (load_at (Timer at) e), ap loaded_value (load_at (Timer at) e))

  -- a byte or half-word access to a belt register times out
  module _ (narrow : w ≡ 4 → ⊥) (at : ℕ)
      (belt : locate w (length m.ram) (length m.rom) (length m.belt) a ≡ Belt at) where
    pub belt_load_times_out : loaded_eid (load_of w t m a) ≡ 16
    belt_load_times_out = load_times_out (unanswered w m a narrow at belt)

    pub belt_store_times_out : stored_eid (store_answer w m a) ≡ 16
    belt_store_times_out = store_times_out w m a (unanswered w m a narrow at belt)

-- ---- as the code meets them: the place it was told, and what it read or wrote there

module _ (w : ℕ) (t : timer.Timer) (ram rom belt : List ℕ) (a : ℕ) where
  abbrev At : Place → Type 0
  At p = place_of w (length ram) (length rom) (length belt) a ≡ p

  abbrev Loads : Loaded → Type 0
  Loads answer = answer ≡ load_of w t (memory ram rom belt) a

  pub loads_ram : (at v : ℕ) → At (Ram at) → v ≡ read_at w ram at → Loads (loaded.Value v)
  loads_ram at v e h = ap loaded.Value h ∙ sym (load_at w t (memory ram rom belt) a (Ram at) e)

  pub loads_rom : (at v : ℕ) → At (Rom at) → v ≡ read_at w rom at → Loads (loaded.Value v)
  loads_rom at v e h = ap loaded.Value h ∙ sym (load_at w t (memory ram rom belt) a (Rom at) e)

  pub loads_belt : (at v : ℕ) → At (Belt at) → v ≡ read_at w belt at → Loads (loaded.Value v)
  loads_belt at v e h = ap loaded.Value h ∙ sym (load_at w t (memory ram rom belt) a (Belt at) e)

  pub loads_register : (at v : ℕ) → At (Timer at) → v ≡ register_read t at → Loads (loaded.Value v)
  loads_register at v e h = ap loaded.Value h ∙ sym (load_at w t (memory ram rom belt) a (Timer at) e)

  pub loads_nothing : At Nothing → Loads loaded.Timeout
  loads_nothing e = sym (load_at w t (memory ram rom belt) a Nothing e)

  -- the answer, the timer, and the contents of the three slices
  abbrev Stores : ℕ → Stored → timer.Timer → List ℕ → List ℕ → Type 0
  Stores v answer t' ram' belt' =
      (answer ≡ store_answer w (memory ram rom belt) a)
      × ((t' ≡ timer_after w t (memory ram rom belt) a v)
      × (memory ram' rom belt' ≡ memory_after w (memory ram rom belt) a v))

  -- by what is written at the place
  stores_at : (p : Place) (v : ℕ) {t' : timer.Timer} {m' : Memory} → At p → t' ≡ written_in t p v → m' ≡ write_in w (memory ram rom belt) p v
      → (completes p ≡ store_answer w (memory ram rom belt) a)
      × ((t' ≡ timer_after w t (memory ram rom belt) a v)
      × (m' ≡ memory_after w (memory ram rom belt) a v))
  stores_at p v e h k = (
    sym (answer_at w (memory ram rom belt) a p e),
    (h ∙ sym (timer_at w (memory ram rom belt) a t p v e), k ∙ sym (stored_at w (memory ram rom belt) a p v e)),
  )

  pub stores_ram : (at v : ℕ) (ram' : List ℕ) → At (Ram at) → ram' ≡ write_at w ram at v → Stores v stored.Done t ram' belt
  stores_ram at v ram' e h = stores_at (Ram at) v e refl (ap (λ (l : List ℕ). memory l rom belt) h)

  pub stores_rom : (at v : ℕ) → At (Rom at) → Stores v stored.Done t ram belt
  stores_rom at v e = stores_at (Rom at) v e refl refl

  pub stores_belt : (at v : ℕ) (belt' : List ℕ) → At (Belt at) → belt' ≡ write_at w belt at v → Stores v stored.Done t ram belt'
  stores_belt at v belt' e h = stores_at (Belt at) v e refl (ap (memory ram rom) h)

  pub stores_register : (at v : ℕ) (t' : timer.Timer) → At (Timer at) → t' ≡ register_written t at v → Stores v stored.Done t' ram belt
  stores_register at v t' e h = stores_at (Timer at) v e h refl

  pub stores_nothing : (v : ℕ) → At Nothing → Stores v stored.Timeout t ram belt
  stores_nothing v e = stores_at Nothing v e refl refl
