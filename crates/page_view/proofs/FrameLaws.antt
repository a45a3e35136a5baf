-- The part of a view: an accepted one is a frame of RAM, 4,096 bytes from a multiple of 4,096; a refused one is empty.
use mathlib.Core.Path.{◌≡◌, refl, ap, ap₂, sym, subst, ◌∙◌}
use mathlib.Core.Bool.{Bool, true, false, true≢false}
use mathlib.Core.List.{List, []}
use Prim.Native.Nat.{ℕ, ◌+◌, ◌*◌, ◌-◌, ◌%◌, ◌≤◌, ◌<◌}
use native.Mathlib.Omega.{arith}
use native.Mathlib.Nat.{add-zero, add_comm, add-sub_cancel_left}
use lib.Dec.{leb, ltb, eqb}
use lib.ListN.{length, take, drop, length-drop}
use lib.Seq.{length-take-le}
use borrow.Author.Tests.{eq-eqb, ne_eqb, ltb-true, eqb-true}
use Rattle.std.specs.Prelude.{Result, Ok, Err}
use Rattle.std.specs.Result.{result_unwrap_or, result_and}
use Rattle.words.specs.Logic.{both, Exactly}
use Rattle.processor.specs.declared.Processor.{Processor}
use Rattle.translation.specs.Translation.{Translation, Physical}
use Rattle.translation.proofs.Resolved.{walk}
use Rattle.translation.proofs.Slots.{slot_below}
use Rattle.refusals.specs.Refusal.{ram_accepted, pages_up_to}
use Rattle.refusals.specs.declared.Refusal.{Refusal}
use Rattle.refusals.specs.Code.{answer_number}
use Rattle.refusals.proofs.FirstFailed.{all_pass}
use Rattle.words.specs.Lists.{Every}
use Rattle.words.proofs.Conjunction.{both_true}
use Rattle.tlb.specs.Lookup.{no_slot}
use Rattle.translation.specs.Translation.{physical_of, translation_slot}
use Rattle.page_view.specs.View.{kernel_mode, looked_up, in_ram, has_frame, view_tests, view_refusal, viewed, view_of}
use Rattle.page_view.specs.Part.{view_part, part_ptr}
use Rattle.page_view.specs.declared.Frame.{Frame}
use Rattle.page_view.specs.Code.{viewed_as, slot_of}
use Rattle.page_view.proofs.Answers.{the_refusal, the_slot, the_offset, the_size}
use Rattle.page_view.proofs.Lookup.{frame_start}

-- ---- what the tests tell

multiple : (n : ℕ) → ram_accepted n ≡ true → n % 4096 ≡ 0
unfolding pages_up_to
multiple n e =
    let rest = (both_true (leb 4096 n) (both (leb n 536870912) (eqb (n % 4096) 0)) e).1 in
    eqb-true (n % 4096) 0 (both_true (leb n 536870912) (eqb (n % 4096) 0) rest).1

found : (n : ℕ) (t : Translation) → in_ram n t ≡ true → (t ≡ Physical (physical_of t) (translation_slot t)) × (physical_of t < n)
found n t e =
    walk (λ a slot. ltb a n) (λ eid. false) (λ (b : Bool). b ≡ true → (t ≡ Physical (physical_of t) (translation_slot t)) × (physical_of t < n)) t
    (λ a slot p h. (p ∙ ap₂ Physical (sym (ap physical_of p)) (sym (ap translation_slot p)), subst (λ (k : ℕ). k < n) (sym (ap physical_of p)) (ltb-true a n h)))
    (λ eid low high h. absurd (true≢false (sym h))) e

module _ (ram : List ℕ) (p : Processor) (page : ℕ) where
  -- ---- an accepted view

  module _ (ok : view_refusal ram p page ≡ 0) where
    passed : Every (λ t. t.passes ≡ true) (view_tests ram p page)
    unfolding view_refusal
    passed = all_pass (view_tests ram p page) refl ok

    pub length_accepted : ram_accepted (length ram) ≡ true
    length_accepted = passed.0

    pub frame_behind : has_frame (length ram) p page ≡ true
    frame_behind = passed.1.1.0

    offset_is : (view_of ram p page).offset ≡ physical_of (looked_up p page)
    unfolding view_of
    offset_is = simp (eq-eqb _ 0 ok)

    slot_is : (view_of ram p page).slot ≡ translation_slot (looked_up p page)
    unfolding view_of
    slot_is = simp (eq-eqb _ 0 ok)

    in_ram_lem : (looked_up p page ≡ Physical (physical_of (looked_up p page)) (translation_slot (looked_up p page))) × (physical_of (looked_up p page) < length ram)
    unfolding has_frame
    in_ram_lem = found (length ram) (looked_up p page) (both_true (leb page 0xFFFFF) _ frame_behind).1

    -- the Kernel Mode load of the page's first byte is granted, at the offset and by the slot
    pub first_byte : looked_up p page ≡ Physical (view_of ram p page).offset (view_of ram p page).slot
    first_byte = in_ram_lem.0 ∙ ap₂ Physical (sym offset_is) (sym slot_is)

    pub aligned : (view_of ram p page).offset % 4096 ≡ 0
    aligned = frame_start p page _ _ first_byte

    pub whole : (view_of ram p page).offset + 4096 ≤ length ram
    whole =
        let start = aligned in
        let size = multiple (length ram) length_accepted in
        let below : (view_of ram p page).offset < length ram = rw offset_is in_ram_lem.1 in
        omega arith

    pub length_is : (view_of ram p page).size ≡ 4096
    unfolding view_of
    length_is = simp (eq-eqb _ 0 ok)

    pub part_is : view_part ram p page ≡ take 4096 (drop (view_of ram p page).offset ram)
    unfolding view_part
    part_is = simp (eq-eqb _ 0 ok)

    pub part_length : length (view_part ram p page) ≡ 4096
    part_length =
        let k = whole in
        let l = length-drop (view_of ram p page).offset ram in
        ap length part_is ∙ length-take-le 4096 (drop (view_of ram p page).offset ram) (omega arith)

  -- as the code makes it, of the numbers that it was told
  module _ {x i y z : ℕ} (e : viewed x i y z ≡ view_of ram p page) (none : x ≡ 0) where
    ok : view_refusal ram p page ≡ 0
    ok = sym (the_refusal ram p page e) ∙ none

    pub lies_in_ram : y + z ≤ length ram
    lies_in_ram =
        let l = the_size ram p page e ∙ length_is ok in
        omega (arith, whole ok, the_offset ram p page e)

    pub frame_part : take (y + z - y) (drop y ram) ≡ view_part ram p page
    frame_part =
        ap (λ (k : ℕ). take k (drop y ram)) (add-sub_cancel_left y z ∙ the_size ram p page e ∙ length_is ok)
        ∙ ap (λ (k : ℕ). take 4096 (drop k ram)) (the_offset ram p page e) ∙ sym (part_is ok)

    pub frame_pointer : (start : ℕ × ℕ) → ◌≡◌ {A = ℕ × ℕ} (start.0, y + start.1) (part_ptr start ram p page)
    frame_pointer start =
        ap {B = ℕ × ℕ} (λ (k : ℕ). (start.0, k)) (add_comm y start.1 ∙ ap (λ (k : ℕ). start.1 + k) (the_offset ram p page e))

  -- ---- a refused view

  module _ (no : view_refusal ram p page ≡ 0 → ⊥) where
    pub no_slot_lem : (view_of ram p page).slot ≡ no_slot
    unfolding view_of
    no_slot_lem = simp (ne_eqb _ 0 no)

    pub no_offset : (view_of ram p page).offset ≡ 0
    unfolding view_of
    no_offset = simp (ne_eqb _ 0 no)

    pub no_length : (view_of ram p page).size ≡ 0
    unfolding view_of
    no_length = simp (ne_eqb _ 0 no)

    pub no_part : view_part ram p page ≡ []
    unfolding view_part
    no_part = simp (ne_eqb _ 0 no)

    pub empty_part : (start : ℕ × ℕ) → ([] ≡ view_part ram p page) × (start ≡ part_ptr start ram p page)
    empty_part start = (
      sym no_part,
      ap {B = ℕ × ℕ} (λ (k : ℕ). (start.0, k)) (sym (ap (λ (k : ℕ). start.1 + k) no_offset ∙ add-zero start.1)),
    )

  -- ---- the slot is 33 exactly where the view is refused

  pub slot_exactly : Exactly ((view_of ram p page).slot ≡ no_slot) (view_refusal ram p page ≡ 0 → ⊥)
  unfolding looked_up
  slot_exactly = (λ e ok. omega (arith, e, slot_below kernel_mode p.tlbhigh p.tlblow 1 false (page * 4096) _ _ (first_byte ok)), no_slot_lem)

-- ---- a frame that is one of two: it lies in RAM, and its part is that of the page asked for only if both are of that page

module _ (ram : List ℕ) (p : Processor) (page other : ℕ) (f : Frame) (e : viewed_as (Ok f) ≡ view_of ram p page) where
  one_fits : (r : Result Frame Refusal) → viewed_as r ≡ view_of ram p other
      → (result_unwrap_or r f).offset + (result_unwrap_or r f).length ≤ length ram
  one_fits (Ok g) h = lies_in_ram ram p other h refl
  one_fits (Err x) h = lies_in_ram ram p page e refl

  one_part : (r : Result Frame Refusal) → viewed_as r ≡ view_of ram p other → other ≡ page
      → take ((result_unwrap_or r f).offset + (result_unwrap_or r f).length - (result_unwrap_or r f).offset) (drop (result_unwrap_or r f).offset ram)
      ≡ view_part ram p page
  one_part (Ok g) h same = frame_part ram p other h refl ∙ ap (view_part ram p) same
  one_part (Err x) h same = frame_part ram p page e refl

  module _ (r : Result Frame Refusal) (h : viewed_as r ≡ view_of ram p other) (g : Frame) (made : g ≡ result_unwrap_or r f) where
    pub either_fits : g.offset + g.length ≤ length ram
    either_fits = subst (λ (g : Frame). g.offset + g.length ≤ length ram) (sym made) (one_fits r h)

    pub either_part : other ≡ page → take (g.offset + g.length - g.offset) (drop g.offset ram) ≡ view_part ram p page
    either_part same = ap (λ (g : Frame). take (g.offset + g.length - g.offset) (drop g.offset ram)) made ∙ one_part r h same

-- ---- the number and the slot of a frame, where another answer may refuse it

module _ (ram : List ℕ) (p : Processor) (page other : ℕ) (f : Frame) (e : viewed_as (Ok f) ≡ view_of ram p page)
    (r : Result Frame Refusal) (h : viewed_as r ≡ view_of ram p other) where
  number_of : (r : Result Frame Refusal) → viewed_as r ≡ view_of ram p other → answer_number (result_and r (Ok f.slot)) ≡ view_refusal ram p other
  number_of (Ok g) h = the_refusal ram p other h
  number_of (Err x) h = the_refusal ram p other h

  slot_told : (r : Result Frame Refusal) → viewed_as r ≡ view_of ram p other → other ≡ page
      → slot_of (result_and r (Ok f.slot)) ≡ (view_of ram p page).slot
  slot_told (Ok g) h same = the_slot ram p page e
  slot_told (Err x) h same = the_slot ram p other h ∙ ap (λ (n : ℕ). (view_of ram p n).slot) same

  module _ (k : Result ℕ Refusal) (made : k ≡ result_and r (Ok f.slot)) (same : other ≡ page) where
    pub either_number : answer_number k ≡ view_refusal ram p page
    either_number = ap answer_number made ∙ number_of r h ∙ ap (view_refusal ram p) same

    pub either_slot : slot_of k ≡ (view_of ram p page).slot
    either_slot = ap slot_of made ∙ slot_told r h same
