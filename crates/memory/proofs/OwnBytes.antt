-- A load depends on its own bytes, the timer and the three lengths alone.
use mathlib.Core.Path.{◌≡◌, refl, ap, sym, ◌∙◌}
use Prim.Native.Nat.{ℕ, ◌+◌, ◌≤◌, ◌<◌}
use native.Mathlib.Omega.{arith}
use lib.ListN.{length, get_or}
use Rattle.timer.specs.declared.Timer as timer
use Rattle.endian.proofs.Widths.{read_same}
use Rattle.memory.specs.Map.{Memory, locate, place_in, byte_in, byte_at, rom_base, belt_base}
use Rattle.memory.specs.Access.{read_in, load_of}
use Rattle.memory.specs.declared.Place.{Place}
use Rattle.memory.specs.declared.Place.TheVariants.{Ram, Rom, Belt, Timer, Nothing}
use Rattle.memory.specs.Loaded as loaded
use Rattle.memory.proofs.Places.{locate_ram, locate_rom, locate_belt, true_within, within_past, Lies, place_lies}
use Rattle.memory.proofs.Outcomes.{load_at}

-- no two of the three share an address
abbrev pub Apart : Memory → Type 0
Apart m = (length m.ram ≤ rom_base) × (rom_base + length m.rom ≤ belt_base)

-- so it is at every length that a run accepts (document 01, "What the host lends")
pub accepted_apart : (m : Memory) → length m.ram ≤ 536870912 → length m.rom ≤ 268435456 → Apart m
accepted_apart m ram rom = (ram, omega arith)

-- the same three lengths
abbrev pub SameLengths : Memory → Memory → Type 0
SameLengths m n =
    (length m.ram ≡ length n.ram) × (length m.rom ≡ length n.rom) × (length m.belt ≡ length n.belt)

pub same_locate : (m n : Memory) → SameLengths m n → (w a : ℕ)
    → locate w (length m.ram) (length m.rom) (length m.belt) a
    ≡ locate w (length n.ram) (length n.rom) (length n.belt) a
same_locate m n lengths w a = rw (lengths.0, lengths.1, lengths.2)

pub same_place : (m n : Memory) → SameLengths m n → (w a : ℕ) → place_in w m a ≡ place_in w n a
same_place m n lengths w a = rw (lengths.0, lengths.1, lengths.2)

module _ (m : Memory) (apart : Apart m) where
  abbrev r : ℕ
  r = length m.ram

  abbrev o : ℕ
  o = length m.rom

  abbrev b : ℕ
  b = length m.belt

  byte_ram : (j : ℕ) → j < r → byte_at m j ≡ get_or m.ram j 0
  unfolding byte_at
  byte_ram j h = ap (byte_in m) (locate_ram 1 r o b j (true_within 0 r 1 j (omega arith) (omega arith)))

  byte_rom : (x : ℕ) → x < o → byte_at m (rom_base + x) ≡ get_or m.rom x 0
  unfolding byte_at
  byte_rom x h =
      ap (byte_in m) (locate_rom 1 r o b (rom_base + x)
      (within_past 0 r 1 (rom_base + x) (omega arith) (omega arith))
      (true_within rom_base o 1 (rom_base + x) (omega arith) (omega arith)))
      ∙ ap (λ (i : ℕ). get_or m.rom i 0) (omega arith)

  byte_belt : (x : ℕ) → x < b → byte_at m (belt_base + x) ≡ get_or m.belt x 0
  unfolding byte_at
  byte_belt x h =
      ap (byte_in m) (locate_belt 1 r o b (belt_base + x)
      (within_past 0 r 1 (belt_base + x) (omega arith) (omega arith))
      (within_past rom_base o 1 (belt_base + x) (omega arith) (omega arith))
      (true_within belt_base b 1 (belt_base + x) (omega arith) (omega arith)))
      ∙ ap (λ (i : ℕ). get_or m.belt i 0) (omega arith)

  -- the bytes of an access are those that its place names
  abbrev Own : ℕ → ℕ → ℕ → Place → Type 0
  Own w a i (Ram at) = byte_at m (a + i) ≡ get_or m.ram (at + i) 0
  Own w a i (Rom at) = byte_at m (a + i) ≡ get_or m.rom (at + i) 0
  Own w a i (Belt at) = byte_at m (a + i) ≡ get_or m.belt (at + i) 0
  Own w a i (Timer at) = Unit {0}
  Own w a i Nothing = Unit {0}

  own_by : (w a i : ℕ) → i < w → (p : Place) → Lies w r o b a p → Own w a i p
  own_by w a i hi (Ram at) h =
      ap (byte_at m) (omega arith) ∙ byte_ram (at + i) (omega arith)
  own_by w a i hi (Rom at) h =
      ap (byte_at m) (omega arith) ∙ byte_rom (at + i) (omega arith)
  own_by w a i hi (Belt at) h =
      ap (byte_at m) (omega arith) ∙ byte_belt (at + i) (omega arith)
  own_by w a i hi (Timer at) h = tt
  own_by w a i hi Nothing h = tt

  pub own : (w a i : ℕ) → i < w → (p : Place) → place_in w m a ≡ p → Own w a i p
  own w a i hi p e = own_by w a i hi p (place_lies w r o b a p e)

module _ (m n : Memory) (apart : Apart m) (apart' : Apart n) (lengths : SameLengths m n) (t : timer.Timer) where
  -- two memories of the same lengths that agree in the w bytes from an address give the same there
  pub load_same : (w a : ℕ) → ((i : ℕ) → i < w → byte_at m (a + i) ≡ byte_at n (a + i)) → load_of w t m a ≡ load_of w t n a
  load_same w a same = go (place_in w m a) refl
    where
      also : {p : Place} → place_in w m a ≡ p → place_in w n a ≡ p
      also e = sym (same_place m n lengths w a) ∙ e

      reads : (p : Place) → place_in w m a ≡ p → read_in w t m p ≡ read_in w t n p
      reads (Ram at) e =
          ap loaded.Value (read_same w m.ram n.ram at (λ i h.
          sym (own m apart w a i h (Ram at) e) ∙ same i h ∙ own n apart' w a i h (Ram at) (also e)))
      reads (Rom at) e =
          ap loaded.Value (read_same w m.rom n.rom at (λ i h.
          sym (own m apart w a i h (Rom at) e) ∙ same i h ∙ own n apart' w a i h (Rom at) (also e)))
      reads (Belt at) e =
          ap loaded.Value (read_same w m.belt n.belt at (λ i h.
          sym (own m apart w a i h (Belt at) e) ∙ same i h ∙ own n apart' w a i h (Belt at) (also e)))
      reads (Timer at) e = refl
      reads Nothing e = refl

      go : (p : Place) → place_in w m a ≡ p → load_of w t m a ≡ load_of w t n a
      go p e = load_at w t m a p e ∙ reads p e ∙ sym (load_at w t n a p (also e))
