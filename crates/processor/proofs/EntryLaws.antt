-- Where exception service begins.
use Rattle.std.proofs.Common.{◌≡◌, ℕ, ◌+◌, ◌^◌, ◌<◌, ◌≤◌, eqb, refl, arith}
use Rattle.words.proofs.Cases.{chosen}
use Rattle.status.specs.Psw.{vector}
use Rattle.processor.specs.Entry.{service_base, user_miss, service_address}

pub base_small : (psw : ℕ) → service_base psw ≤ 0xE0000000
unfolding service_base
base_small psw = chosen (λ (n : ℕ). n ≤ 3758096384) (eqb (vector psw) 0) (omega arith) (omega arith)

-- a miss below 80000000 goes to base + 8, and one from there up to base + 4, whatever the PSW: in either mode
pub miss_below : (psw : ℕ) → service_address psw 21 0x00001000 ≡ service_base psw + 8
unfolding service_address user_miss
miss_below psw = refl

pub miss_above : (psw : ℕ) → service_address psw 21 0x80000000 ≡ service_base psw + 4
unfolding service_address user_miss
miss_above psw = refl

-- it is a word
pub service_lt : (psw eid address : ℕ) → service_address psw eid address < 2 ^ 32
unfolding service_address
service_lt psw eid address =
    let base : service_base psw ≤ 3758096384 = base_small psw in
    chosen (λ (n : ℕ). service_base psw + n < 2 ^ 32) (user_miss eid address) (omega arith) (omega arith)
