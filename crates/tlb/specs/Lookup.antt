-- The TLB entry of a page, what TBS answers for it, and the replacement index, which goes round by itself (manual, 2.9, 3.6.5 and 3.6.6;
-- document 01, "Closed by us"; document 02, jobs 2 and 4).
use Rattle.std.specs.Prelude.{cond, List, ℕ, zero, suc, ◌+◌, ◌/◌, ltb, eqb, get_or}

-- the page number of a high word, or of an address
abbrev pub page_of : ℕ → ℕ
page_of word = word / 4096

-- a TLB index is below 32; this stands for none
abbrev pub no_entry : ℕ
no_entry = 32

-- the slot of an access is the index of the TLB entry that served it; this one is that of a direct-mapped address, which needs no entry
abbrev pub direct_mapped : ℕ
direct_mapped = 32

-- and this stands for none: no data access, one that faulted, no step, or a refused call
abbrev pub no_slot : ℕ
no_slot = 33

-- the first of the n TLB entries from i on that has a page number, or i + n
unfoldable pub find_from : ℕ → List ℕ → ℕ → ℕ → ℕ
find_from zero highs i page = i
find_from (suc n) highs i page = cond (eqb (page_of (get_or highs i 0)) page) i (find_from n highs (suc i) page)

-- the lowest index of a page's TLB entry, or `no_entry`. The valid bit plays no part
unfoldable pub lookup : List ℕ → ℕ → ℕ
lookup highs page = find_from no_entry highs 0 page

-- TBS: the index of the TLB entry for Entry High's page, or 80000000; direct-mapped page numbers are found too
unfoldable pub found_index : ℕ → ℕ
found_index i = cond (ltb i no_entry) i 0x80000000

-- the replacement index after one step more: up by 1, and from 31 to 4
unfoldable pub next_replacement : ℕ → ℕ
next_replacement r = cond (ltb r 31) (r + 1) 4

-- after n steps
unfoldable pub replacement_after : ℕ → ℕ → ℕ
replacement_after zero r = r
replacement_after (suc n) r = next_replacement (replacement_after n r)
