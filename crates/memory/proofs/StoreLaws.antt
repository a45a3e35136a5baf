-- A store changes its own bytes alone, and a load there gives back what was stored.
use mathlib.Core.Path.{◌≡◌, refl, ap, ◌∙◌}
use Prim.Native.Nat.{ℕ, ◌+◌, ◌%◌, ◌^◌, ◌≤◌, ◌<◌}
use native.Mathlib.Omega.{arith}
use lib.ListN.{length}
use Rattle.endian.specs.BigEndian.{read_at}
use Rattle.timer.specs.declared.Timer as timer
use Rattle.endian.proofs.Widths.{length_write, write_other, read_write}
use Rattle.memory.specs.Map.{Memory, locate, place_in, byte_in, byte_at, timer_base}
use Rattle.memory.specs.Access.{load_of, write_in, memory_after, written_in, timer_after}
use Rattle.memory.specs.declared.Place.{Place}
use Rattle.memory.specs.declared.Place.TheVariants.{Ram, Rom, Belt, Timer, Nothing}
use Rattle.memory.specs.Loaded as loaded
use Rattle.memory.proofs.Places.{Lies, lies, place_lies}
use Rattle.memory.proofs.Outcomes.{load_at, stored_at}
use Rattle.memory.proofs.OwnBytes.{SameLengths, same_locate, same_place}

module _ (w : ℕ) (m : Memory) (a v : ℕ) where
  -- the lengths stay
  write_lengths : (p : Place) → SameLengths (write_in w m p v) m
  write_lengths (Ram at) = (length_write w m.ram at v, refl, refl)
  write_lengths (Rom at) = (refl, refl, refl)
  write_lengths (Belt at) = (refl, refl, length_write w m.belt at v)
  write_lengths (Timer at) = (refl, refl, refl)
  write_lengths Nothing = (refl, refl, refl)

  pub store_lengths : SameLengths (memory_after w m a v) m
  unfolding memory_after
  store_lengths = write_lengths (place_in w m a)

  -- ROM stays
  write_rom : (p : Place) → (write_in w m p v).rom ≡ m.rom
  write_rom (Ram at) = refl
  write_rom (Rom at) = refl
  write_rom (Belt at) = refl
  write_rom (Timer at) = refl
  write_rom Nothing = refl

  pub store_rom : (memory_after w m a v).rom ≡ m.rom
  unfolding memory_after
  store_rom = write_rom (place_in w m a)

  -- a byte that is not among the w from the address stays
  kept_in : (j : ℕ) → ((i : ℕ) → i < w → j ≡ a + i → ⊥) → (p q : Place)
      → Lies w (length m.ram) (length m.rom) (length m.belt) a p
      → Lies 1 (length m.ram) (length m.rom) (length m.belt) j q
      → byte_in (write_in w m p v) q ≡ byte_in m q
  kept_in j other (Ram at) (Ram x) h k = write_other w m.ram at v x (λ i l e. other i l (omega arith))
  kept_in j other (Ram at) (Rom x) h k = refl
  kept_in j other (Ram at) (Belt x) h k = refl
  kept_in j other (Ram at) (Timer x) h k = refl
  kept_in j other (Ram at) Nothing h k = refl
  kept_in j other (Rom at) q h k = refl
  kept_in j other (Belt at) (Ram x) h k = refl
  kept_in j other (Belt at) (Rom x) h k = refl
  kept_in j other (Belt at) (Belt x) h k = write_other w m.belt at v x (λ i l e. other i l (omega arith))
  kept_in j other (Belt at) (Timer x) h k = refl
  kept_in j other (Belt at) Nothing h k = refl
  kept_in j other (Timer at) q h k = refl
  kept_in j other Nothing q h k = refl

  pub store_keeps : (j : ℕ) → ((i : ℕ) → i < w → j ≡ a + i → ⊥) → byte_at (memory_after w m a v) j ≡ byte_at m j
  unfolding byte_at memory_after
  store_keeps j other =
      let r : ℕ = length m.ram in
      let o : ℕ = length m.rom in
      let b : ℕ = length m.belt in
      ap (byte_in (write_in w m (place_in w m a) v)) (same_locate (memory_after w m a v) m store_lengths 1 j)
      ∙ kept_in j other (place_in w m a) (locate 1 r o b j) (place_lies w r o b a (place_in w m a) refl) (lies 1 r o b j)

  -- the timer stays, but for a store to one of its registers
  kept_timer : (t : timer.Timer) (p : Place) → Lies w (length m.ram) (length m.rom) (length m.belt) a p
      → ((at : ℕ) → at ≤ 4 → timer_base + at ≡ a → ⊥) → written_in t p v ≡ t
  kept_timer t (Ram at) h other = refl
  kept_timer t (Rom at) h other = refl
  kept_timer t (Belt at) h other = refl
  kept_timer t (Timer at) h other = absurd (other at h.1 h.2)
  kept_timer t Nothing h other = refl

  pub store_keeps_timer : (t : timer.Timer) → ((at : ℕ) → at ≤ 4 → timer_base + at ≡ a → ⊥) → timer_after w t m a v ≡ t
  unfolding timer_after
  store_keeps_timer t other =
      kept_timer t (place_in w m a) (place_lies w (length m.ram) (length m.rom) (length m.belt) a (place_in w m a) refl) other

  -- a load from where a store went gives its low w bytes
  pub load_stored_ram : (at : ℕ) → place_in w m a ≡ Ram at → (t : timer.Timer) → load_of w t (memory_after w m a v) a ≡ loaded.Value (v % 256 ^ w)
  load_stored_ram at e t =
      load_at w t (memory_after w m a v) a (Ram at) (same_place (memory_after w m a v) m store_lengths w a ∙ e)
      ∙ ap (λ (n : Memory). loaded.Value (read_at w n.ram at)) (stored_at w m a (Ram at) v e)
      ∙ ap loaded.Value (read_write w m.ram at v
      (place_lies w (length m.ram) (length m.rom) (length m.belt) a (Ram at) e).1)

  pub load_stored_belt : (at : ℕ) → place_in w m a ≡ Belt at → (t : timer.Timer) → load_of w t (memory_after w m a v) a ≡ loaded.Value (v % 256 ^ w)
  load_stored_belt at e t =
      load_at w t (memory_after w m a v) a (Belt at) (same_place (memory_after w m a v) m store_lengths w a ∙ e)
      ∙ ap (λ (n : Memory). loaded.Value (read_at w n.belt at)) (stored_at w m a (Belt at) v e)
      ∙ ap loaded.Value (read_write w m.belt at v
      (place_lies w (length m.ram) (length m.rom) (length m.belt) a (Belt at) e).1)

-- where a store goes depends on the three lengths alone
pub timer_after_same : (m n : Memory) → SameLengths m n → (w : ℕ) (t : timer.Timer) (a v : ℕ) → timer_after w t m a v ≡ timer_after w t n a v
unfolding timer_after
timer_after_same m n lengths w t a v = ap (λ (p : Place). written_in t p v) (same_place m n lengths w a)
