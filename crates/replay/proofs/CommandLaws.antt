-- A command of each kind, and the commands one after the other.
use mathlib.Core.Path.{◌≡◌, ◌∙◌}
use mathlib.Core.Bool.{true, false}
use mathlib.Core.List.{List}
use Prim.Native.Nat.{ℕ, suc, ◌+◌, ◌*◌, ◌-◌, ◌/◌, ◌%◌, ◌≤◌, ◌<◌}
use native.Mathlib.Omega.{arith}
use lib.Dec.{eqb}
use lib.ListN.{length}
use borrow.Author.Tests.{ne_eqb}
use Rattle.endian.specs.BigEndian.{read_at}
use Rattle.machine.specs.Machine.{Machine}
use Rattle.record.specs.Calls.{read_refusal}
use Rattle.expected.specs.Expected.{Expected, clear, patch_fits, patched, started_in}
use Rattle.replay.specs.declared.Counts.{Counts}
use Rattle.replay.specs.Agreement.{machine_after, step_agrees}
use Rattle.replay.specs.Tally.{case_begun, step_made, end_read, judged}
use Rattle.replay.specs.Tallies.{Tallies, step_tallied}
use Rattle.replay.specs.Replay.{Replay, replay, good, done, after_judging, commanded, commanded_at, replayed_from, replayed}

-- ---- one command

module _ (x : Expected) (m : Machine) (c : Counts) (t : Tallies) (kind a b : ℕ) where
  -- what a command leaves
  abbrev Leaves : Expected → Machine → Counts → Tallies → Type 0
  Leaves y n d u = replay y n d u ≡ commanded (replay x m c t) kind a b

  pub after_end : {d : Counts} → c.ended ≡ true → d ≡ judged (eqb kind 7) false c → Leaves x m d t
  unfolding commanded good done after_judging
  after_end e f = simp (e, f)

  module _ (on : c.ended ≡ false) where
    pub command_clear : {y : Expected} {d : Counts} → kind ≡ 0 → y ≡ clear x → d ≡ case_begun c → Leaves y m d t
    unfolding commanded good done after_judging judged
    command_clear k f g = simp (on, k, f, g)

    pub command_start : {n : Machine} {d : Counts} → kind ≡ 6 → n ≡ started_in m.memory x
        → d ≡ judged false (eqb (read_refusal x.bytes) 0) c → Leaves x n d t
    unfolding commanded good done after_judging
    command_start k f g = simp (on, k, f, g)

    pub command_step : {n : Machine} {d : Counts} {u : Tallies} → kind ≡ 7 → n ≡ machine_after m a
        → d ≡ judged true (step_agrees x b m a) (step_made c) → u ≡ step_tallied t m a → Leaves x n d u
    unfolding commanded good done after_judging
    command_step k f g h = simp (on, k, f, g, h)

    pub command_end : {d : Counts} → kind ≡ 8 → d ≡ judged false (eqb c.cases b) (end_read c) → Leaves x m d t
    unfolding commanded good done after_judging
    command_end k f = simp (on, k, f)

    pub command_patch : {y : Expected} {d : Counts} → (kind ≡ 0 → ⊥) → (kind ≡ 6 → ⊥) → (kind ≡ 7 → ⊥) → (kind ≡ 8 → ⊥)
        → y ≡ patched x kind a b → d ≡ judged false (patch_fits x kind a) c → Leaves y m d t
    unfolding commanded good done after_judging
    command_patch k0 k6 k7 k8 f g = simp (on, ne_eqb kind 0 k0, ne_eqb kind 6 k6, ne_eqb kind 7 k7, ne_eqb kind 8 k8, f, g)

-- ---- the commands of a part

-- what holds before command i of a part: of the replay that the part began with, and of the one that it has come to
abbrev pub Going : List ℕ → Replay → Replay → ℕ → Type 0
Going s began r i = replayed_from (length s / 8) s 0 began ≡ replayed_from (length s / 8 - i) s (i * 8) r

module _ (s : List ℕ) (began r : Replay) (i : ℕ) (g : Going s began r i) where
  pub again : {q : Replay} {word number : ℕ} → i < length s / 8 → word ≡ read_at 4 s (i * 8) → number ≡ read_at 4 s (i * 8 + 4)
      → q ≡ commanded r (word / 16777216) (word % 16777216) number → Going s began q (i + 1)
  unfolding replayed_from commanded_at
  again h e f c =
      let left : length s / 8 - i ≡ suc (length s / 8 - (i + 1)) = omega arith in
      let next : i * 8 + 8 ≡ (i + 1) * 8 = omega arith in
      g ∙ rw (left, ← next, c, e, f)

  pub part_judged : {d : Counts} → length s / 8 ≤ i → d ≡ judged false (eqb (length s % 8) 0) r.counts
      → replay r.expected r.model d r.tallies ≡ replayed s began
  unfolding replayed after_judging replayed_from
  part_judged h e =
      let none : length s / 8 - i ≡ 0 = omega arith in
      rw (g, none, e)
