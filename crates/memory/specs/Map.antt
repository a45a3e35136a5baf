-- The physical address map (document 01, "What the host lends" and "Closed by us"; manual, 2.2; document 02, job 1).
use Rattle.std.specs.Prelude.{Bool, cond, List, ℕ, ◌+◌, ◌-◌, leb, eqb, length, get_or}
use Rattle.words.specs.Logic.{both}
use Rattle.timer.specs.Timer.{control_at, divisor_at}
use Rattle.memory.specs.declared.Place.{Place}
use Rattle.memory.specs.declared.Place.TheVariants.{Ram, Rom, Belt, Timer, Nothing}

-- the bytes that the host lends
pub record Memory : Type 0 where
  pub ram : List ℕ
  pub rom : List ℕ
  pub belt : List ℕ

abbrev pub memory : List ℕ → List ℕ → List ℕ → Memory
memory ram rom belt = record { ram = ram; rom = rom; belt = belt }

-- where each begins; RAM begins at 0
abbrev pub rom_base : ℕ
rom_base = 0x20000000

abbrev pub belt_base : ℕ
belt_base = 0x30500000

abbrev pub timer_base : ℕ
timer_base = 0x30000000

-- all w bytes from an address lie in the n bytes from a base
unfoldable pub within : ℕ → ℕ → ℕ → ℕ → Bool
within base n w address = both (leb base address) (leb (address - base + w) n)

-- the timer answers a word at either of its registers, and nothing else
unfoldable pub register_at : ℕ → ℕ → Place
register_at w address =
    cond (eqb w 4)
    (cond (eqb address (timer_base + control_at))
    (Timer control_at)
    (cond (eqb address (timer_base + divisor_at))
    (Timer divisor_at)
    Nothing))
    Nothing

-- what holds the w bytes from an address, by the lengths of RAM, ROM and belt, and at which offset
unfoldable pub locate : ℕ → ℕ → ℕ → ℕ → ℕ → Place
locate w ram rom belt address =
    cond (within 0 ram w address)
    (Ram address)
    (cond (within rom_base rom w address)
    (Rom (address - rom_base))
    (cond (within belt_base belt w address)
    (Belt (address - belt_base))
    (register_at w address)))

-- only a word is answered by a belt register
abbrev pub words_only : ℕ → Place → Place
words_only w (Ram at) = Ram at
words_only w (Rom at) = Rom at
words_only w (Belt at) = cond (eqb w 4) (Belt at) Nothing
words_only w (Timer at) = Timer at
words_only w Nothing = Nothing

-- what answers an access of w bytes
unfoldable pub place_of : ℕ → ℕ → ℕ → ℕ → ℕ → Place
place_of w ram rom belt address = words_only w (locate w ram rom belt address)

-- the place of an access in a memory
abbrev pub place_in : ℕ → Memory → ℕ → Place
place_in w m address = place_of w (length m.ram) (length m.rom) (length m.belt) address

-- the byte at a place; 0 where nothing answers. No byte of the timer's answers
abbrev pub byte_in : Memory → Place → ℕ
byte_in m (Ram at) = get_or m.ram at 0
byte_in m (Rom at) = get_or m.rom at 0
byte_in m (Belt at) = get_or m.belt at 0
byte_in m (Timer at) = 0
byte_in m Nothing = 0

-- the byte at a physical address, belt registers included
unfoldable pub byte_at : Memory → ℕ → ℕ
byte_at m address = byte_in m (locate 1 (length m.ram) (length m.rom) (length m.belt) address)
