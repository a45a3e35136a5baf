-- What a granted address tells, and what the translation reads.
use mathlib.Core.Path.{◌≡◌, ap, sym}
use mathlib.Core.Logic.{◌⊎◌, inl, inr, ⊎_elim}
use mathlib.Core.Bool.{Bool, true, false, not}
use mathlib.Core.List.{List}
use Prim.Native.Nat.{ℕ, ◌+◌, ◌*◌, ◌-◌, ◌%◌, ◌≤◌, ◌<◌}
use native.Mathlib.Omega.{arith}
use lib.Dec.{leb, ltb, eqb}
use lib.ListN.{get_or}
use borrow.Author.Tests.{ltb-true, leb-true, leb-false, eqb-true}
use Rattle.words.specs.Logic.{both}
use Rattle.status.specs.Psw.{user_mode}
use Rattle.tlb.specs.Lookup.{page_of, lookup}
use Rattle.translation.specs.Translation.{frame_of, valid, writable, through, mapped, forbidden, translated, physical_of, translation_slot}
use Rattle.words.proofs.Cases.{by_test}
use Rattle.words.proofs.Conjunction.{first_fails, second_fails, not_false}
use Rattle.translation.proofs.Resolved.{refused}
use Rattle.translation.specs.Translation.{Physical, TlbMiss, TlbWrite, TlbInvalid, IllegalAddress, PrivilegedAddress}

-- a mapped address: its slot is the lookup's, whose entry is valid, writable for a store, and names the frame of the physical address
pub record Mapped (highs lows : List ℕ) (store : Bool) (address physical slot : ℕ) : Type 0 where
  pub found : lookup highs (page_of address) < 32
  pub allowed : valid (get_or lows (lookup highs (page_of address)) 0) ≡ true
  pub may_write : store ≡ true → writable (get_or lows (lookup highs (page_of address)) 0) ≡ true
  pub place : physical ≡ frame_of (get_or lows (lookup highs (page_of address)) 0) * 4096 + address % 4096
  pub served : slot ≡ lookup highs (page_of address)

-- a direct-mapped one
pub record Direct (address physical slot : ℕ) : Type 0 where
  pub above : 0xC0000000 ≤ address
  pub place : physical ≡ address - 0xC0000000
  pub served : slot ≡ 32

-- what a granted address is, in either mode
pub record Passed (psw : ℕ) (highs lows : List ℕ) (width : ℕ) (store : Bool) (address physical slot : ℕ) : Type 0 where
  pub aligned : address % width ≡ 0
  pub free : forbidden psw address ≡ false
  pub way : Direct address physical slot ⊎ ((address < 0xC0000000) × Mapped highs lows store address physical slot)

-- in User Mode: an aligned address, in a page below 80000 with such an entry
pub record Granted (highs lows : List ℕ) (width : ℕ) (store : Bool) (address physical slot : ℕ) : Type 0 where
  pub aligned : address % width ≡ 0
  pub below : page_of address < 0x80000
  pub mapped : Mapped highs lows store address physical slot

module _ (psw : ℕ) (highs lows : List ℕ) (width : ℕ) (store : Bool) (address physical slot : ℕ) where
  abbrev low : ℕ
  low = get_or lows (lookup highs (page_of address)) 0

  pub passed : translated psw highs lows width store address ≡ Physical physical slot → Passed psw highs lows width store address physical slot
  unfolding translated mapped through
  passed e =
      by_test (not (eqb (address % width) 0)) e
      (λ _ no. refused IllegalAddress (omega arith) no)
      (λ straight e1. by_test (forbidden psw address) e1
      (λ _ no. refused PrivilegedAddress (omega arith) no)
      (λ free e2.
      let aligned : address % width ≡ 0 = eqb-true (address % width) 0 (not_false (eqb (address % width) 0) straight) in
      by_test (leb 0xC0000000 address) e2
      (λ direct e3. record {
        aligned = aligned;
        free = free;
        way = inl (record { above = leb-true 0xC0000000 address direct; place = sym (ap physical_of e3); served = sym (ap translation_slot e3) });
      })
      (λ under e3. by_test (ltb (lookup highs (page_of address)) 32) e3
      (λ found e4. by_test (not (valid low)) e4
      (λ _ no. refused TlbInvalid (omega arith) no)
      (λ ok e5. by_test (both store (not (writable low))) e5
      (λ _ no. refused TlbWrite (omega arith) no)
      (λ may e6. record {
        aligned = aligned;
        free = free;
        way = inr (
          leb-false 0xC0000000 address under,
          record {
            found = ltb-true _ _ found;
            allowed = not_false (valid low) ok;
            may_write = λ s. not_false (writable low) (second_fails store (not (writable low)) may s);
            place = sym (ap physical_of e6);
            served = sym (ap translation_slot e6);
          },
        );
      })))
      (λ _ no. refused TlbMiss (omega arith) no))))

  pub user_granted : user_mode psw ≡ true → translated psw highs lows width store address ≡ Physical physical slot
      → Granted highs lows width store address physical slot
  unfolding forbidden
  user_granted user e =
      let p = passed e in
      let under : address < 0x80000000 = leb-false 0x80000000 address (first_fails _ _ p.free user) in
      ⊎_elim (λ d. absurd (omega (arith, d.above))) (λ m. record { aligned = p.aligned; below = omega arith; mapped = m.1 }) p.way

-- of the PSW the translation reads U_C alone
pub reads_user_mode : (psw psw' : ℕ) (highs lows : List ℕ) (width : ℕ) (store : Bool) (address : ℕ) → user_mode psw ≡ user_mode psw'
    → translated psw highs lows width store address ≡ translated psw' highs lows width store address
unfolding translated forbidden
reads_user_mode psw psw' highs lows width store address e = rw e
