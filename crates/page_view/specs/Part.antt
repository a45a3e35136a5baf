-- The part of RAM that the page view hands out (document 01, "Runs and views").
use Rattle.std.specs.Prelude.{cond, List, [], ℕ, ◌+◌, eqb, take, drop}
use Rattle.processor.specs.declared.Processor.{Processor}
use Rattle.page_view.specs.View.{view_refusal, view_of}

-- the bytes of the part: the 4,096 from the offset, or none where refused
unfoldable pub view_part : List ℕ → Processor → ℕ → List ℕ
view_part ram p page = cond (eqb (view_refusal ram p page) 0) (take 4096 (drop (view_of ram p page).offset ram)) []

-- the pointer to the part, from that to RAM (a block of memory and an offset in it): so the part is in RAM itself
abbrev pub part_ptr : ℕ × ℕ → List ℕ → Processor → ℕ → ℕ × ℕ
part_ptr start ram p page = (start.0, start.1 + (view_of ram p page).offset)
