-- Helpers of the code's contracts: its answers in the words of the definitions. No definition names them.
use Rattle.std.specs.Prelude.{ℕ, Result, Ok, Err}
use Rattle.tlb.specs.Lookup.{no_slot}
use Rattle.refusals.specs.declared.Refusal.{Refusal}
use Rattle.refusals.specs.Code.{refusal_number}
use Rattle.page_view.specs.View.{Viewed, viewed, no_view}
use Rattle.page_view.specs.declared.Frame.{Frame}

abbrev pub viewed_as : Result Frame Refusal → Viewed
viewed_as (Ok f) = viewed 0 f.slot f.offset f.length
viewed_as (Err e) = no_view (refusal_number e)

-- the slot: where refused, none
abbrev pub slot_of : Result ℕ Refusal → ℕ
slot_of (Ok slot) = slot
slot_of (Err e) = no_slot
