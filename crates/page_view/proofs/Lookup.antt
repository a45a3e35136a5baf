-- The Kernel Mode lookup of a load, by the page and the offset in it: all bytes of a page lie in one frame, in order.
use mathlib.Core.Path.{◌≡◌, refl, ap, ap₂, sym, ◌∙◌}
use mathlib.Core.Bool.{Bool, true, false, not, cond}
use mathlib.Core.List.{List}
use Prim.Native.Nat.{ℕ, ◌+◌, ◌*◌, ◌-◌, ◌/◌, ◌%◌, ◌<◌}
use native.Mathlib.Omega.{arith}
use native.Mathlib.Nat.{add-zero}
use lib.Dec.{leb, ltb}
use lib.ListN.{get_or}
use borrow.Author.Tests.{eq-eqb, leb-true}
use Rattle.words.proofs.Cases.{same_leb}
use Rattle.status.specs.Psw.{user_mode, user_current}
use Rattle.tlb.specs.Lookup.{lookup}
use Rattle.translation.specs.Translation.{frame_of, valid, through, mapped, forbidden, translated, physical_of, translation_slot}
use Rattle.processor.specs.declared.Processor.{Processor}
use Rattle.translation.specs.Translation.{Translation, Physical, TlbMiss, TlbInvalid}
use Rattle.page_view.specs.View.{kernel_mode, looked_up}
use Rattle.words.proofs.Conjunction.{second_false}

-- the answer by three tests: a direct page of frame f, an entry of frame g in slot k, its valid bit clear; i is the offset in the page
abbrev picked : Bool → Bool → Bool → ℕ → ℕ → ℕ → ℕ → Translation
picked direct found invalid f g k i =
    cond direct (Physical (f * 4096 + i) 32) (cond found (cond invalid TlbInvalid (Physical (g * 4096 + i) k)) TlbMiss)

direct_place : (t : Bool) (x y : ℕ) (z : Translation) → (t ≡ true → x ≡ y) → cond t (Physical x 32) z ≡ cond t (Physical y 32) z
direct_place true x y z h = ap (λ (n : ℕ). Physical n 32) (h refl)
direct_place false x y z h = refl

-- where the first byte is found, its address is a multiple of 4,096, and byte i is i further
picked_frame : (t u v : Bool) (f g k i a slot : ℕ) → picked t u v f g k 0 ≡ Physical a slot
    → (a % 4096 ≡ 0) × (picked t u v f g k i ≡ Physical (a + i) slot)
picked_frame true u v f g k i a slot e =
    let h : f * 4096 + 0 ≡ a = ap physical_of e in (omega arith, ap₂ Physical (omega arith) (ap translation_slot e))
picked_frame false true true f g k i a slot e = absurd (let z : ◌≡◌ {A = ℕ} 0 1 = cc in omega arith)
picked_frame false true false f g k i a slot e =
    let h : g * 4096 + 0 ≡ a = ap physical_of e in (omega arith, ap₂ Physical (omega arith) (ap translation_slot e))
picked_frame false false v f g k i a slot e = absurd (let z : ◌≡◌ {A = ℕ} 0 1 = cc in omega arith)

module _ (highs lows : List ℕ) where
  kernel : (psw address : ℕ) → user_mode psw ≡ false
      → translated psw highs lows 1 false address ≡ cond (leb 0xC0000000 address) (Physical (address - 0xC0000000) 32) (mapped highs lows false address)
  unfolding translated forbidden
  kernel psw address h = simp (eq-eqb (address % 1) 0 (omega arith), second_false (leb 0x80000000 address) (user_mode psw) h)

  module _ (page : ℕ) where
    abbrev low : ℕ
    low = get_or lows (lookup highs page) 0

    -- the answer for offset i of the page
    abbrev answer : ℕ → Translation
    answer = picked (leb 0xC0000 page) (ltb (lookup highs page) 32) (not (valid low)) (page - 0xC0000) (frame_of low) (lookup highs page)

    in_order : (i a slot : ℕ) → answer 0 ≡ Physical a slot → (a % 4096 ≡ 0) × (answer i ≡ Physical (a + i) slot)
    in_order =
        picked_frame (leb 0xC0000 page) (ltb (lookup highs page) 32) (not (valid low)) (page - 0xC0000) (frame_of low) (lookup highs page)

    module _ (i : ℕ) (small : i < 4096) where
      direct_page : leb 0xC0000000 (page * 4096 + i) ≡ leb 0xC0000 page
      direct_page = same_leb 0xC0000000 (page * 4096 + i) 0xC0000 page (λ h. omega arith) (λ h. omega arith)

      mapped_page : mapped highs lows false (page * 4096 + i)
          ≡ cond (ltb (lookup highs page) 32) (cond (not (valid low)) TlbInvalid (Physical (frame_of low * 4096 + i) (lookup highs page))) TlbMiss
      unfolding mapped through
      mapped_page = rw (page_is, offset_is)
        where
          page_is : (page * 4096 + i) / 4096 ≡ page
          page_is = omega arith

          offset_is : (page * 4096 + i) % 4096 ≡ i
          offset_is = omega arith

      by_page : (psw : ℕ) → user_mode psw ≡ false → translated psw highs lows 1 false (page * 4096 + i) ≡ answer i
      by_page psw h =
          kernel psw (page * 4096 + i) h
          ∙ rw (direct_page, mapped_page) (direct_place (leb 0xC0000 page) _ _ _ (λ t. let k = leb-true 0xC0000 page t in omega arith))

-- ---- the page of a view

kernel_mode_lem : user_mode kernel_mode ≡ false
unfolding user_mode user_current
kernel_mode_lem = refl

module _ (p : Processor) (page a slot : ℕ) (granted : looked_up p page ≡ Physical a slot) where
  at_first : translated kernel_mode p.tlbhigh p.tlblow 1 false (page * 4096 + 0) ≡ Physical a slot
  unfolding looked_up
  at_first = rw (add-zero (page * 4096)) granted

  frames : (i : ℕ) → (a % 4096 ≡ 0) × (answer p.tlbhigh p.tlblow page i ≡ Physical (a + i) slot)
  frames i =
      in_order p.tlbhigh p.tlblow page i a slot
      (sym (by_page p.tlbhigh p.tlblow page 0 (omega arith) kernel_mode kernel_mode_lem) ∙ at_first)

  -- the frame begins at a multiple of 4,096
  pub frame_start : a % 4096 ≡ 0
  frame_start = (frames 0).0

  -- any PSW of Kernel Mode finds the bytes of the page in the frame, in order
  pub frame_byte : (psw i : ℕ) → user_mode psw ≡ false → i < 4096
      → translated psw p.tlbhigh p.tlblow 1 false (page * 4096 + i) ≡ Physical (a + i) slot
  frame_byte psw i k h = by_page p.tlbhigh p.tlblow page i h psw k ∙ (frames i).1
