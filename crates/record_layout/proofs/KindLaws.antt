-- What the test of the kind bytes says, as facts.
use mathlib.Core.Path.{◌≡◌, refl, ap, sym, ◌∙◌}
use mathlib.Core.Bool.{Bool, true, false, ◌&&◌}
use mathlib.Core.List.{List}
use Prim.Native.Nat.{ℕ, ◌≤◌, ◌<◌}
use lib.Dec.{ltb, eqb}
use lib.ListN.{length}
use borrow.Author.Tests.{eqb-true, eq-eqb, ltb-false, lt-ltb, le-ltb}
use Rattle.words.specs.Logic.{either}
use Rattle.words.proofs.Conjunction.{both_true, six}
use Rattle.endian.specs.BigEndian.{read_at}
use Rattle.record_layout.specs.Record.{timerless, kinds_in_place}

-- the sixth stands only in a record with the timer
pub record Kinds (s : List ℕ) : Type 0 where
  pub first : read_at 1 s 0 ≡ 1
  pub second : read_at 1 s 129 ≡ 2
  pub third : read_at 1 s 134 ≡ 3
  pub fourth : read_at 1 s 155 ≡ 4
  pub fifth : read_at 1 s 412 ≡ 5
  pub sixth : 424 ≤ length s → read_at 1 s 414 ≡ 6

-- ---- the timer's kind byte

abbrev timer_kind : List ℕ → Bool
timer_kind s = either (timerless s) (eqb (read_at 1 s 414) 6)

timer_kind_means : (s : List ℕ) → timer_kind s ≡ true → 424 ≤ length s → read_at 1 s 414 ≡ 6
timer_kind_means s e h = eqb-true _ _ (sym (ap (λ (t : Bool). either t (eqb (read_at 1 s 414) 6)) (le-ltb (length s) 424 h)) ∙ e)

means_timer_kind : (s : List ℕ) → (424 ≤ length s → read_at 1 s 414 ≡ 6) → timer_kind s ≡ true
means_timer_kind s h = go (ltb (length s) 424) refl
  where
    go : (t : Bool) → ltb (length s) 424 ≡ t → either t (eqb (read_at 1 s 414) 6) ≡ true
    go true e = refl
    go false e = eq-eqb _ _ (h (ltb-false _ _ e))

-- as the code tests it
pub timer_kind_absent : (s : List ℕ) → length s < 424 → true ≡ timer_kind s
timer_kind_absent s h = rw (lt-ltb (length s) 424 h)

pub timer_kind_tested : (s : List ℕ) {a : ℕ} → 424 ≤ length s → a ≡ read_at 1 s 414 → eqb a 6 ≡ timer_kind s
timer_kind_tested s h e = rw (le-ltb (length s) 424 h, e)

-- ---- all six

pub kinds_mean : (s : List ℕ) → kinds_in_place s ≡ true → Kinds s
unfolding kinds_in_place
kinds_mean s e =
    let t1 = both_true _ _ e in
    let t2 = both_true _ _ t1.1 in
    let t3 = both_true _ _ t2.1 in
    let t4 = both_true _ _ t3.1 in
    let t5 = both_true _ _ t4.1 in
    record {
      first = eqb-true _ _ t1.0;
      second = eqb-true _ _ t2.0;
      third = eqb-true _ _ t3.0;
      fourth = eqb-true _ _ t4.0;
      fifth = eqb-true _ _ t5.0;
      sixth = timer_kind_means s t5.1;
    }

-- as the code tests them
pub kind_tests : (s : List ℕ) {a b c d e : ℕ} {f : Bool}
    → a ≡ read_at 1 s 0
    → b ≡ read_at 1 s 129
    → c ≡ read_at 1 s 134
    → d ≡ read_at 1 s 155
    → e ≡ read_at 1 s 412
    → f ≡ timer_kind s
    → ((((eqb a 1 && eqb b 2) && eqb c 3) && eqb d 4) && eqb e 5) && f ≡ kinds_in_place s
unfolding kinds_in_place
kind_tests s {a} {b} {c} {d} {e} {f} p q r t u v = six (eqb a 1) (eqb b 2) (eqb c 3) (eqb d 4) (eqb e 5) f ∙ rw (p, q, r, t, u, v)

-- with five in their places, the sixth decides
five_kinds : (s : List ℕ) → read_at 1 s 0 ≡ 1 → read_at 1 s 129 ≡ 2 → read_at 1 s 134 ≡ 3 → read_at 1 s 155 ≡ 4 → read_at 1 s 412 ≡ 5
    → kinds_in_place s ≡ timer_kind s
unfolding kinds_in_place
five_kinds s a b c d e = rw (a, b, c, d, e)

pub means_kinds : (s : List ℕ) → Kinds s → kinds_in_place s ≡ true
means_kinds s k = five_kinds s k.first k.second k.third k.fourth k.fifth ∙ means_timer_kind s k.sixth
