-- The answer of a view, for each way to it.
use mathlib.Core.Path.{◌≡◌, refl, ap, sym, ◌∙◌}
use native.Mathlib.Omega.{arith}
use mathlib.Core.Bool.{Bool, true, false, cond}
use mathlib.Core.List.{List}
use Prim.Native.Nat.{ℕ, ◌≤◌, ◌<◌}
use lib.Dec.{leb, ltb, eqb}
use lib.ListN.{length}
use borrow.Author.Tests.{lt-ltb, le-ltb, le-leb, lt-leb, eqb-true}
use Rattle.words.proofs.Conjunction.{second_false}
use Rattle.processor.specs.State.{fit}
use Rattle.processor.specs.declared.Processor.{Processor}
use Rattle.std.specs.Prelude.{Result, Ok, Err}
use Rattle.translation.specs.Translation.{Translation, Physical}
use Rattle.translation.specs.Code.{translation_of}
use Rattle.translation.specs.declared.Physical as code
use Rattle.translation.specs.declared.Fault.{Fault}
use Rattle.translation.specs.declared.Fault.TheVariants.{TlbMiss, TlbWrite, TlbInvalid, IllegalAddress, PrivilegedAddress}
use Rattle.translation.proofs.Resolved.{IsFault, at_fault}
use Rattle.refusals.specs.Refusal.{ram_accepted}
use Rattle.refusals.specs.Code.{answer_number}
use Rattle.refusals.specs.declared.Refusal.{Refusal}
use Rattle.page_view.specs.declared.Frame.{Frame}
use Rattle.page_view.specs.Code.{viewed_as}
use Rattle.page_view.specs.View.{looked_up, in_ram, has_frame, view_refusal, Viewed, viewed, viewed_in, no_view, viewed_at, view_of}

-- ---- whether a RAM frame is behind the page

fault_outside : (n : ℕ) (t : Translation) → IsFault t → in_ram n t ≡ false
fault_outside n t h = sym (at_fault (λ a slot. ltb a n) (λ eid. false) t h)

fault_of_error : (r : Result code.Physical Fault) → ((a : code.Physical) → r ≡ Ok a → ⊥) → IsFault (translation_of r)
fault_of_error (Ok a) h = absurd (h a refl)
fault_of_error (Err TlbMiss) h = λ a slot e. absurd (let z : ◌≡◌ {A = ℕ} 0 1 = cc in omega arith)
fault_of_error (Err TlbWrite) h = λ a slot e. absurd (let z : ◌≡◌ {A = ℕ} 0 1 = cc in omega arith)
fault_of_error (Err TlbInvalid) h = λ a slot e. absurd (let z : ◌≡◌ {A = ℕ} 0 1 = cc in omega arith)
fault_of_error (Err IllegalAddress) h = λ a slot e. absurd (let z : ◌≡◌ {A = ℕ} 0 1 = cc in omega arith)
fault_of_error (Err PrivilegedAddress) h = λ a slot e. absurd (let z : ◌≡◌ {A = ℕ} 0 1 = cc in omega arith)

module _ (n : ℕ) (p : Processor) (page : ℕ) where
  pub no_such_page : 0xFFFFF < page → has_frame n p page ≡ false
  unfolding has_frame
  no_such_page h = simp (lt-leb page 0xFFFFF h)

  pub load_faults : (t : Translation) → looked_up p page ≡ t → IsFault t → has_frame n p page ≡ false
  unfolding has_frame
  load_faults t e h = second_false (leb page 0xFFFFF) _ (ap (in_ram n) e ∙ fault_outside n t h)

  -- as the code has the lookup's answer
  pub no_address : (r : Result code.Physical Fault) → looked_up p page ≡ translation_of r
      → ((a : code.Physical) → r ≡ Ok a → ⊥) → has_frame n p page ≡ false
  no_address r e h = load_faults (translation_of r) e (fault_of_error r h)

  pub not_in_ram : (a slot : ℕ) → looked_up p page ≡ Physical a slot → n ≤ a → has_frame n p page ≡ false
  unfolding has_frame
  not_in_ram a slot e h = second_false (leb page 0xFFFFF) _ (ap (in_ram n) e ∙ le-ltb a n h)

  pub in_ram_lem : (a slot : ℕ) → page ≤ 0xFFFFF → looked_up p page ≡ Physical a slot → a < n → has_frame n p page ≡ true
  unfolding has_frame
  in_ram_lem a slot h e k = simp (le-leb page 0xFFFFF h, ap (in_ram n) e, lt-ltb a n k)

pub address : (p : Processor) (page : ℕ) (r : Result code.Physical Fault) → looked_up p page ≡ translation_of r
    → (a : code.Physical) → r ≡ Ok a → looked_up p page ≡ Physical a.address a.slot
address p page r e a h = e ∙ ap translation_of h

-- ---- the answer, for each way to it

-- its refusal is that of the tests
pub viewed_refusal : (n : ℕ) (t : Translation) → (viewed_at n t).refusal ≡ n
viewed_refusal n t = go (eqb n 0) refl
  where
    go : (b : Bool) → eqb n 0 ≡ b → (cond b (viewed_in t) (no_view n)).refusal ≡ n
    go true h = sym (eqb-true n 0 h)
    go false h = refl

module _ (ram : List ℕ) (p : Processor) (page : ℕ) where
  pub refused_1 : ram_accepted (length ram) ≡ false → no_view 1 ≡ view_of ram p page
  unfolding view_of view_refusal
  refused_1 h = simp h

  pub refused_6 : ram_accepted (length ram) ≡ true → fit p ≡ false → no_view 6 ≡ view_of ram p page
  unfolding view_of view_refusal
  refused_6 h k = simp (h, k)

  module _ (h : ram_accepted (length ram) ≡ true) (k : fit p ≡ true) where
    pub refused_8 : has_frame (length ram) p page ≡ false → no_view 8 ≡ view_of ram p page
    unfolding view_of view_refusal
    refused_8 l = simp (h, k, l)

    pub accepted : (a slot : ℕ) → looked_up p page ≡ Physical a slot → has_frame (length ram) p page ≡ true → viewed 0 slot a 4096 ≡ view_of ram p page
    unfolding view_of view_refusal
    accepted a slot e l = simp (h, k, l, e)

  -- the four numbers
  module _ {x i y z : ℕ} (e : viewed x i y z ≡ view_of ram p page) where
    pub the_refusal : x ≡ view_refusal ram p page
    unfolding view_of
    the_refusal = ap (λ (v : Viewed). v.refusal) e ∙ viewed_refusal (view_refusal ram p page) (looked_up p page)

    pub the_slot : i ≡ (view_of ram p page).slot
    the_slot = ap (λ (v : Viewed). v.slot) e

    pub the_offset : y ≡ (view_of ram p page).offset
    the_offset = ap (λ (v : Viewed). v.offset) e

    pub the_size : z ≡ (view_of ram p page).size
    the_size = ap (λ (v : Viewed). v.size) e

  -- the number that the code's answer stands for
  pub number_told : (r : Result Frame Refusal) → viewed_as r ≡ view_of ram p page → answer_number r ≡ view_refusal ram p page
  number_told (Ok f) e = the_refusal e
  number_told (Err x) e = the_refusal e
