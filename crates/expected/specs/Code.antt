-- A helper of the code's contracts: the expected machine in the slices that it is compared in. No definition names it.
use Rattle.expected.specs.Expected.{Expected, expected}
use Rattle.expected.specs.declared.Expectation.{Expectation}

abbrev pub expected_of : Expectation → Expected
expected_of e = expected e.record.now e.ram.now e.rom.now e.belt.now
