-- The lines of a trace written one after the other, and the answer to an input.
use mathlib.Core.Path.{◌≡◌, refl, sym, ◌∙◌, subst}
use mathlib.Core.List.{List, ◌++◌, append_assoc, append-nil}
use Prim.Native.Nat.{ℕ, suc, ◌+◌, ◌*◌, ◌-◌, ◌<◌, ◌≤◌}
use lib.ListN.{length, take, drop, replicate, length-append, take-append-drop}
use lib.Seq.{paste, length_paste_head, take_at, drop_at, take_all, drop-drop}
use native.Mathlib.Omega.{arith}
use borrow.Author.Tests.{lt-ltb, le-ltb}
use Rattle.processor.specs.State.{at_reset}
use Rattle.timer.specs.Timer.{timer_at_reset}
use Rattle.machine.specs.declared.State.{State}
use Rattle.machine.specs.Machine.{Machine, machine_of, state}
use Rattle.belt_text.specs.Text.{short_input}
use Rattle.belt_step.specs.Line.{following, step_line}
use Rattle.belt_step.proofs.LineLaws.{line_length}
use Rattle.belt_trace.specs.Trace.{lines_from, at_start, belt_text, answer_of}

-- ---- line after line

-- what holds after n steps of the trace: of the text at its start, the machine, and the text so far
pub record Tracing (rom s : List ℕ) (m : Machine) (t : List ℕ) (n : ℕ) : Type 0 where
  pub kept : length t ≡ length s
  pub ram : length m.memory.ram ≡ 4096
  pub belt : length m.memory.belt ≡ 1024
  pub lines : belt_text rom ≡ take (n * 14) t ++ lines_from (4 - n) (n + 1) m
  pub rest : drop (n * 14) t ≡ drop (n * 14) s

pub started : (rom s : List ℕ) {st : State} → st ≡ state at_reset timer_at_reset
    → Tracing rom s (machine_of st (replicate 4096 0) rom (replicate 1024 0)) s 0
unfolding belt_text at_start
started rom s e = record { kept = refl; ram = refl; belt = refl; lines = rw e; rest = refl }

module _ {rom s : List ℕ} {m : Machine} {t : List ℕ} {n : ℕ} (so : Tracing rom s m t n) where
  -- the text of a step more
  module _ {after : Machine} {u : List ℕ} (room : 56 ≤ length s) (h : n < 4) (e : after ≡ following m) (f : u ≡ paste t (n * 14) (step_line (n + 1) m) 14) where
    line : take 14 (step_line (n + 1) m) ≡ step_line (n + 1) m
    line = take_all 14 (step_line (n + 1) m) (omega (arith, line_length (n + 1) m))

    head : length (take (n * 14) t ++ step_line (n + 1) m) ≡ (n + 1) * 14
    head =
        rw (sym line)
        (length_paste_head t (n * 14) (step_line (n + 1) m) 14 (omega (arith, so.kept)) (omega (arith, line_length (n + 1) m)) ∙ omega arith)

    whole : u ≡ (take (n * 14) t ++ step_line (n + 1) m) ++ drop ((n + 1) * 14) t
    whole =
        let next : n * 14 + 14 ≡ (n + 1) * 14 = omega arith in
        f ∙ rw (line, next)

    pub more : length u ≡ length t → length after.memory.ram ≡ length m.memory.ram → length after.memory.belt ≡ length m.memory.belt
        → Tracing rom s after u (n + 1)
    unfolding lines_from
    more k ram belt =
        let left : 4 - n ≡ suc (4 - (n + 1)) = omega arith in
        let next : (n + 1) * 14 ≡ n * 14 + 14 = omega arith in
        record {
          kept = k ∙ so.kept;
          ram = ram ∙ so.ram;
          belt = belt ∙ so.belt;
          lines = so.lines ∙ rw (left, whole, take_at _ _ _ head, e) (sym (append_assoc (take (n * 14) t) _ _));
          rest = rw (whole, drop_at _ _ _ head, next, ← drop-drop 14 (n * 14) t, so.rest) (drop-drop 14 (n * 14) s);
        }

  pub four : n ≡ 4 → t ≡ belt_text rom ++ drop 56 s
  unfolding lines_from
  four end =
      let text : belt_text rom ≡ take 56 t = subst (λ k. belt_text rom ≡ take (k * 14) t ++ lines_from (4 - k) (k + 1) m) end so.lines ∙ append-nil (take 56 t) in
      let rest : drop 56 t ≡ drop 56 s = subst (λ k. drop (k * 14) t ≡ drop (k * 14) s) end so.rest in
      sym (take-append-drop 56 t) ∙ rw (← text, rest)

pub text_length : (rom : List ℕ) → length (belt_text rom) ≡ 56
unfolding belt_text lines_from
text_length rom = simp (length-append, line_length)

-- ---- what is written, and which answer

pub answer_short : (input : List ℕ) → length input < 4096 → answer_of input ≡ short_input
unfolding answer_of
answer_short input h = simp (lt-ltb _ _ h)

pub answer_full : (input : List ℕ) → 4096 ≤ length input → answer_of input ≡ belt_text (take 4096 input)
unfolding answer_of
answer_full input h = simp (le-ltb _ _ h)
