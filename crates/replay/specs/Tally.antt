-- What is counted. No count goes past 2 ^ 32 - 1.
use Rattle.std.specs.Prelude.{Bool, true, false, cond, List, ℕ, ◌+◌, ltb, eqb, length, get_or, set}
use Rattle.replay.specs.declared.Counts.{Counts}

unfoldable pub raised : ℕ → ℕ
raised n = cond (ltb n 4294967295) (n + 1) n

-- one more at an index; a list that has no such index is left as it is
unfoldable pub raised_at : List ℕ → ℕ → List ℕ
raised_at counts i = cond (ltb i (length counts)) (set counts i (raised (get_or counts i 0))) counts

unfoldable pub at_zero : Counts
at_zero = record { cases = 0; steps = 0; turn = 0; mismatches = 0; bad = 0; firstcase = 0; firststep = 0; ended = false }

-- how far the file has been read: the case, the steps, the step in the case, and whether the end was read
abbrev pub with_place : Counts → ℕ → ℕ → ℕ → Bool → Counts
with_place c n s t e =
    record { cases = n; steps = s; turn = t; mismatches = c.mismatches; bad = c.bad; firstcase = c.firstcase; firststep = c.firststep; ended = e }

-- the mismatches, the bad commands among them, and the case and step of the first
abbrev pub with_mismatches : Counts → ℕ → ℕ → ℕ → ℕ → Counts
with_mismatches c n b f s =
    record { cases = c.cases; steps = c.steps; turn = c.turn; mismatches = n; bad = b; firstcase = f; firststep = s; ended = c.ended }

-- a case begins
unfoldable pub case_begun : Counts → Counts
case_begun c = with_place c (raised c.cases) c.steps 0 c.ended

-- a step of the case is made
unfoldable pub step_made : Counts → Counts
step_made c = with_place c c.cases (raised c.steps) (raised c.turn) c.ended

-- the end is read
unfoldable pub end_read : Counts → Counts
end_read c = with_place c c.cases c.steps c.turn true

-- a mismatch, of a step or of a bad command; the first of them leaves the case and the step in it
unfoldable pub failed : Bool → Counts → Counts
failed step c =
    with_mismatches c (raised c.mismatches) (cond step c.bad (raised c.bad))
    (cond (eqb c.mismatches 0) c.cases c.firstcase) (cond (eqb c.mismatches 0) c.turn c.firststep)

unfoldable pub judged : Bool → Bool → Counts → Counts
judged step good c = cond good c (failed step c)
