-- A helper of the code's contracts. No definition names it.
use Rattle.std.specs.Prelude.{Bool, ℕ}
use Rattle.words.specs.Logic.{both}
use Rattle.kept_bits.specs.Kept.{kept_psw, kept_index, kept_high, kept_low, only}

-- PSW, TLB Index, Entry High and Entry Low have no bit but those that they keep
unfoldable pub only_special : ℕ → ℕ → ℕ → ℕ → Bool
only_special psw index high low =
    both (only kept_psw psw) (both (only kept_index index) (both (only kept_high high) (only kept_low low)))
