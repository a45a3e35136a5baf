-- The slot of a granted address names the TLB entry that served it, or says that the address is direct-mapped; and but for the slot the translation
-- is what it was without one (document 02, job 2).
use mathlib.Core.Path.{◌≡◌, refl, sym, subst}
use mathlib.Core.Logic.{⊎_elim}
use mathlib.Core.Bool.{Bool, true, false, not, cond}
use mathlib.Core.List.{List}
use Prim.Native.Nat.{ℕ, ◌+◌, ◌*◌, ◌-◌, ◌%◌, ◌≤◌, ◌<◌}
use native.Mathlib.Omega.{arith}
use lib.Dec.{leb, ltb, eqb}
use lib.ListN.{get_or}
use Rattle.words.specs.Logic.{both, Exactly}
use Rattle.words.specs.Identifiers.{tlb_miss, tlb_write, tlb_invalid, illegal_address, privileged_address}
use Rattle.tlb.specs.Lookup.{page_of, no_entry, direct_mapped, lookup}
use Rattle.tlb.proofs.Lowest.{lookup_has, lookup_first}
use Rattle.translation.specs.Translation.{frame_of, valid, writable, through, mapped, forbidden, translated, resolved, Translation, Physical}
use Rattle.translation.proofs.Granted.{Mapped, Passed, passed}

-- ---- which entry

-- the lowest entry with the access's page; its low word gave the frame and the rights
pub record Served (highs lows : List ℕ) (store : Bool) (address physical slot : ℕ) : Type 0 where
  pub page : page_of (get_or highs slot 0) ≡ page_of address
  pub lowest : (j : ℕ) → j < slot → page_of (get_or highs j 0) ≡ page_of address → ⊥
  pub allowed : valid (get_or lows slot 0) ≡ true
  pub may_write : store ≡ true → writable (get_or lows slot 0) ≡ true
  pub place : physical ≡ frame_of (get_or lows slot 0) * 4096 + address % 4096

by_entry : (highs lows : List ℕ) (store : Bool) (address physical slot : ℕ) → Mapped highs lows store address physical slot
    → Served highs lows store address physical slot
by_entry highs lows store address physical slot m =
    subst (Served highs lows store address physical) (sym m.served) (record {
      page = lookup_has highs (page_of address) m.found;
      lowest = lookup_first highs (page_of address);
      allowed = m.allowed;
      may_write = m.may_write;
      place = m.place;
    })

module _ (psw : ℕ) (highs lows : List ℕ) (width : ℕ) (store : Bool) (address physical slot : ℕ)
    (granted : translated psw highs lows width store address ≡ Physical physical slot) where
  abbrev facts : Passed psw highs lows width store address physical slot
  facts = passed psw highs lows width store address physical slot granted

  pub slot_serves : slot < 32 → Served highs lows store address physical slot
  slot_serves h =
      ⊎_elim (λ d. absurd (omega (arith, d.served))) (λ m. by_entry highs lows store address physical slot m.1) facts.way

  pub slot_direct : Exactly (slot ≡ direct_mapped) (0xC0000000 ≤ address)
  slot_direct = (
    λ e. ⊎_elim (λ d. d.above) (λ m. absurd (omega (arith, m.1.served, m.1.found))) facts.way,
    λ h. ⊎_elim (λ d. d.served) (λ m. absurd (omega (arith, m.0))) facts.way,
  )

  pub slot_below : slot ≤ direct_mapped
  slot_below = ⊎_elim (λ d. omega (arith, d.served)) (λ m. omega (arith, m.1.served, m.1.found)) facts.way

-- ---- nothing else moved

-- a translation without its slot: a physical address, or the number of a fault
pub data Former : Type 0 where
  Place : ℕ → Former
  Fault : ℕ → Former

abbrev pub forgotten : Translation → Former
forgotten t = resolved (λ address slot. Place address) Fault t

-- the tests as they were before a slot was answered, in their order
abbrev pub former : ℕ → List ℕ → List ℕ → ℕ → Bool → ℕ → Former
former psw highs lows width store address =
    cond (not (eqb (address % width) 0)) (Fault illegal_address)
    (cond (forbidden psw address) (Fault privileged_address)
    (cond (leb 0xC0000000 address) (Place (address - 0xC0000000))
    (cond (ltb (lookup highs (page_of address)) no_entry)
    (cond (not (valid (get_or lows (lookup highs (page_of address)) 0))) (Fault tlb_invalid)
    (cond (both store (not (writable (get_or lows (lookup highs (page_of address)) 0)))) (Fault tlb_write)
    (Place (frame_of (get_or lows (lookup highs (page_of address)) 0) * 4096 + address % 4096))))
    (Fault tlb_miss))))

-- a function past a test
past : {A B : Type 0} (f : A → B) (t : Bool) {x y : A} {u v : B} → f x ≡ u → f y ≡ v → f (cond t x y) ≡ cond t u v
past f true h k = h
past f false h k = k

pub slot_forgotten : (psw : ℕ) (highs lows : List ℕ) (width : ℕ) (store : Bool) (address : ℕ)
    → forgotten (translated psw highs lows width store address) ≡ former psw highs lows width store address
unfolding translated mapped through
slot_forgotten psw highs lows width store address =
    past forgotten (not (eqb (address % width) 0)) refl
    (past forgotten (forbidden psw address) refl
    (past forgotten (leb 0xC0000000 address) refl
    (past forgotten (ltb (lookup highs (page_of address)) no_entry)
    (past forgotten (not (valid _)) refl (past forgotten (both store (not (writable _))) refl refl)) refl)))
