-- Which index a translation may go by, when it was found before.
use Rattle.std.specs.Prelude.{◌≡◌, List, ℕ, ◌<◌}
use Rattle.tlb.specs.Lookup.{page_of, lookup}

-- the one of the address's page; a direct-mapped address needs none
abbrev pub Serves : List ℕ → ℕ → ℕ → Type 0
Serves highs i address = address < 0xC0000000 → i ≡ lookup highs (page_of address)
