-- The page view: where its part of RAM lies, and what it refuses (document 01, "Runs and views" and "Refused calls"; document 02,
-- job 2).
use Rattle.std.specs.Prelude.{Bool, false, cond, List, [], ◌∷◌, ℕ, ◌*◌, leb, ltb, eqb, length}
use Rattle.words.specs.Logic.{both}
use Rattle.tlb.specs.Lookup.{no_slot}
use Rattle.translation.specs.Translation.{translated, resolved, physical_of, translation_slot}
use Rattle.processor.specs.State.{fit}
use Rattle.processor.specs.declared.Processor.{Processor}
use Rattle.translation.specs.Translation.{Translation}
use Rattle.refusals.specs.Refusal.{Test, first_failed, ram_test, fit_test, frame_test}

-- ---- the lookup: "a Kernel Mode load of its first byte"

-- a PSW of Kernel Mode: U_C is 0, and the translation reads no other bit
abbrev pub kernel_mode : ℕ
kernel_mode = 0

-- the physical address of the page's first byte and the slot that served it, or the fault
unfoldable pub looked_up : Processor → ℕ → Translation
looked_up p page = translated kernel_mode p.tlbhigh p.tlblow 1 false (page * 4096)

-- the address lies in RAM, n bytes from 0. So it does not where nothing answers, the bus timeout (16)
abbrev pub in_ram : ℕ → Translation → Bool
in_ram n t = resolved (λ address slot. ltb address n) (λ eid. false) t

-- a RAM frame is behind the page: cause 8 is that the number exceeds FFFFF, or the load would fault, or its address is not RAM
unfoldable pub has_frame : ℕ → Processor → ℕ → Bool
has_frame n p page = both (leb page 0xFFFFF) (in_ram n (looked_up p page))

-- ---- the answer

abbrev pub view_tests : List ℕ → Processor → ℕ → List Test
view_tests ram p page = ram_test (length ram) ∷ fit_test (fit p) ∷ frame_test (has_frame (length ram) p page) ∷ []

unfoldable pub view_refusal : List ℕ → Processor → ℕ → ℕ
view_refusal ram p page = first_failed (view_tests ram p page)

-- the refusal or 0, the slot that served the lookup, and where the part begins in RAM and how long it is
pub record Viewed : Type 0 where
  pub refusal : ℕ
  pub slot : ℕ
  pub offset : ℕ
  pub size : ℕ

abbrev pub viewed : ℕ → ℕ → ℕ → ℕ → Viewed
viewed refusal slot offset size = record { refusal = refusal; slot = slot; offset = offset; size = size }

-- the answer for a frame: RAM begins at 0, so the physical address is the offset
abbrev pub viewed_in : Translation → Viewed
viewed_in t = viewed 0 (translation_slot t) (physical_of t) 4096

-- where refused, there is no slot, and offset and length are 0
abbrev pub no_view : ℕ → Viewed
no_view refusal = viewed refusal no_slot 0 0

abbrev pub viewed_at : ℕ → Translation → Viewed
viewed_at refusal t = cond (eqb refusal 0) (viewed_in t) (no_view refusal)

unfoldable pub view_of : List ℕ → Processor → ℕ → Viewed
view_of ram p page = viewed_at (view_refusal ram p page) (looked_up p page)
