-- `load_store::store` meets its contract, by the laws of memory/proofs: Outcomes and Places.
use native.Mathlib.Omega.{arith}
use Rattle.memory.specs.declared.Place.TheVariants.{Ram, Belt}
use Rattle.memory.proofs.Outcomes.{stores_ram, stores_rom, stores_belt, stores_register, stores_nothing}
use Rattle.memory.proofs.Places.{place_lies}
use Rattle.load_store.proofs.Widths.{told}
use Rattle.load_store.proofs.store.Goals as goal

pub write-requires : goal.write-requires
write-requires c =
    let inside = (place_lies _ _ _ _ _ (Ram _) (told _ _ _ _ _ c.bytes_of.ensures c.place_of-place.ensures c.in-Ram.is)).1 in
    omega arith

pub write-requires-in-Belt : goal.write-requires-in-Belt
write-requires-in-Belt c =
    let inside = (place_lies _ _ _ _ _ (Belt _) (told _ _ _ _ _ c.bytes_of.ensures c.place_of-place.ensures c.in-Belt.is)).1 in
    omega arith

pub returns-in-Ram : goal.returns-in-Ram
returns-in-Ram c =
    let args = c.args in
    let (answer, (timer, contents)) = stores_ram _ args.timer args.ram.now args.rom.now args.belt.now args.address _ args.value _
    (told _ _ _ _ _ c.bytes_of.ensures c.place_of-place.ensures c.in-Ram.is) c.write.ensures in
    record { answer = answer; timer = timer; contents = contents }

pub returns-in-Rom : goal.returns-in-Rom
returns-in-Rom c =
    let args = c.args in
    let (answer, (timer, contents)) = stores_rom _ args.timer args.ram.now args.rom.now args.belt.now args.address _ args.value
    (told _ _ _ _ _ c.bytes_of.ensures c.place_of-place.ensures c.in-Rom.is) in
    record { answer = answer; timer = timer; contents = contents }

pub returns-in-Belt : goal.returns-in-Belt
returns-in-Belt c =
    let args = c.args in
    let (answer, (timer, contents)) = stores_belt _ args.timer args.ram.now args.rom.now args.belt.now args.address _ args.value _
    (told _ _ _ _ _ c.bytes_of.ensures c.place_of-place.ensures c.in-Belt.is) c.write-in-Belt.ensures in
    record { answer = answer; timer = timer; contents = contents }

pub returns-in-Timer : goal.returns-in-Timer
returns-in-Timer c =
    let args = c.args in
    let (answer, (timer, contents)) = stores_register _ args.timer args.ram.now args.rom.now args.belt.now args.address _ args.value _
    (told _ _ _ _ _ c.bytes_of.ensures c.place_of-place.ensures c.in-Timer.is) c.write-in-Timer.ensures in
    record { answer = answer; timer = timer; contents = contents }

pub returns-in-Nothing : goal.returns-in-Nothing
returns-in-Nothing c =
    let args = c.args in
    let (answer, (timer, contents)) = stores_nothing _ args.timer args.ram.now args.rom.now args.belt.now args.address args.value
    (told _ _ _ _ _ c.bytes_of.ensures c.place_of-place.ensures c.in-Nothing.is) in
    record { answer = answer; timer = timer; contents = contents }
