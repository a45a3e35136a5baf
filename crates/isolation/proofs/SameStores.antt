-- The same store into two memories leaves them the same where they were.
use mathlib.Core.Path.{◌≡◌, refl, ap, sym, ◌∙◌}
use mathlib.Core.List.{List, [], ◌∷◌}
use Prim.Native.Nat.{ℕ, zero, suc, ◌+◌, ◌/◌, ◌%◌}
use native.Mathlib.Omega.{arith}
use lib.ListN.{length, get_or, set, length-set}
use Rattle.endian.specs.BigEndian.{write_at}
use Rattle.memory.specs.Map.{Memory, place_in, locate, byte_in, byte_at}
use Rattle.memory.specs.Access.{write_in, memory_after}
use Rattle.memory.specs.declared.Place.{Place}
use Rattle.memory.specs.declared.Place.TheVariants.{Ram, Rom, Belt, Timer, Nothing}
use Rattle.memory.proofs.OwnBytes.{SameLengths, same_locate, same_place}
use Rattle.memory.proofs.StoreLaws.{store_lengths}
use Rattle.isolation.specs.Frames.{SameIn}

set_same : (l k : List ℕ) (i v x : ℕ) → length l ≡ length k → get_or l x 0 ≡ get_or k x 0 → get_or (set l i v) x 0 ≡ get_or (set k i v) x 0
set_same [] [] i v x e h = refl
set_same [] (b ∷ k) i v x e h = absurd (omega arith)
set_same (a ∷ l) [] i v x e h = absurd (omega arith)
set_same (a ∷ l) (b ∷ k) zero v zero e h = refl
set_same (a ∷ l) (b ∷ k) zero v (suc x) e h = h
set_same (a ∷ l) (b ∷ k) (suc i) v zero e h = h
set_same (a ∷ l) (b ∷ k) (suc i) v (suc x) e h = set_same l k i v x (omega arith) h

write_same : (w : ℕ) (l k : List ℕ) (at v x : ℕ) → length l ≡ length k → get_or l x 0 ≡ get_or k x 0
    → get_or (write_at w l at v) x 0 ≡ get_or (write_at w k at v) x 0
unfolding write_at
write_same zero l k at v x e h = h
write_same (suc w) l k at v x e h =
    write_same w (set l (at + w) (v % 256)) (set k (at + w) (v % 256)) at (v / 256) x
    (length-set l (at + w) (v % 256) ∙ e ∙ sym (length-set k (at + w) (v % 256)))
    (set_same l k (at + w) (v % 256) x e h)

module _ (w a v : ℕ) (m n : Memory) (lengths : SameLengths m n) where
  write_in_same : (p q : Place) → byte_in m q ≡ byte_in n q → byte_in (write_in w m p v) q ≡ byte_in (write_in w n p v) q
  write_in_same (Ram at) (Ram x) h = write_same w m.ram n.ram at v x lengths.0 h
  write_in_same (Ram at) (Rom x) h = h
  write_in_same (Ram at) (Belt x) h = h
  write_in_same (Ram at) (Timer x) h = h
  write_in_same (Ram at) Nothing h = h
  write_in_same (Rom at) q h = h
  write_in_same (Belt at) (Ram x) h = h
  write_in_same (Belt at) (Rom x) h = h
  write_in_same (Belt at) (Belt x) h = write_same w m.belt n.belt at v x lengths.2 h
  write_in_same (Belt at) (Timer x) h = h
  write_in_same (Belt at) Nothing h = h
  write_in_same (Timer at) q h = h
  write_in_same Nothing q h = h

  -- where a byte is
  abbrev at : Memory → ℕ → Place
  at k j = locate 1 (length k.ram) (length k.rom) (length k.belt) j

  byte_same : (j : ℕ) → byte_at m j ≡ byte_at n j → byte_at (memory_after w m a v) j ≡ byte_at (memory_after w n a v) j
  unfolding byte_at memory_after
  byte_same j h =
      ap (byte_in (write_in w m (place_in w m a) v)) (same_locate (memory_after w m a v) m (store_lengths w m a v) 1 j)
      ∙ write_in_same (place_in w m a) (at m j) (h ∙ sym (ap (byte_in n) (same_locate m n lengths 1 j)))
      ∙ ap (λ (p : Place). byte_in (write_in w n p v) (at m j)) (same_place m n lengths w a)
      ∙ ap (byte_in (write_in w n (place_in w n a) v)) (same_locate m n lengths 1 j
      ∙ sym (same_locate (memory_after w n a v) n (store_lengths w n a v) 1 j))

pub store_same : (w a v : ℕ) (F : ℕ → Type 0) (m n : Memory) → SameIn F m n
    → SameIn F (memory_after w m a v) (memory_after w n a v)
store_same w a v F m n same =
    let l = store_lengths w m a v in
    let k = store_lengths w n a v in
    record {
      ram = l.0 ∙ same.ram ∙ sym k.0;
      rom = l.1 ∙ same.rom ∙ sym k.1;
      belt = l.2 ∙ same.belt ∙ sym k.2;
      bytes = λ j h. byte_same w a v m n (same.ram, same.rom, same.belt) j (same.bytes j h);
    }
