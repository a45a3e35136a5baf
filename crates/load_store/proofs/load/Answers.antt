-- `load_store::load` meets its contract, by the laws of memory/proofs: Outcomes and Places.
use native.Mathlib.Omega.{arith}
use Rattle.memory.specs.declared.Place.TheVariants.{Ram, Rom, Belt}
use Rattle.memory.proofs.Outcomes.{loads_ram, loads_rom, loads_belt, loads_register, loads_nothing}
use Rattle.memory.proofs.Places.{place_lies}
use Rattle.load_store.proofs.Widths.{told}
use Rattle.load_store.proofs.load.Goals as goal

pub read-requires : goal.read-requires
read-requires c =
    let inside = (place_lies _ _ _ _ _ (Ram _) (told _ _ _ _ _ c.bytes_of.ensures c.place_of-place.ensures c.in-Ram.is)).1 in
    omega arith

pub read-requires-in-Rom : goal.read-requires-in-Rom
read-requires-in-Rom c =
    let inside = (place_lies _ _ _ _ _ (Rom _) (told _ _ _ _ _ c.bytes_of.ensures c.place_of-place.ensures c.in-Rom.is)).1 in
    omega arith

pub read-requires-in-Belt : goal.read-requires-in-Belt
read-requires-in-Belt c =
    let inside = (place_lies _ _ _ _ _ (Belt _) (told _ _ _ _ _ c.bytes_of.ensures c.place_of-place.ensures c.in-Belt.is)).1 in
    omega arith

pub returns-in-Ram : goal.returns-in-Ram
returns-in-Ram c = loads_ram _ _ _ _ _ _ _ _ (told _ _ _ _ _ c.bytes_of.ensures c.place_of-place.ensures c.in-Ram.is) c.read.ensures

pub returns-in-Rom : goal.returns-in-Rom
returns-in-Rom c =
    loads_rom _ _ _ _ _ _ _ _ (told _ _ _ _ _ c.bytes_of.ensures c.place_of-place.ensures c.in-Rom.is) c.read-in-Rom.ensures

pub returns-in-Belt : goal.returns-in-Belt
returns-in-Belt c =
    loads_belt _ _ _ _ _ _ _ _ (told _ _ _ _ _ c.bytes_of.ensures c.place_of-place.ensures c.in-Belt.is) c.read-in-Belt.ensures

pub returns-in-Timer : goal.returns-in-Timer
returns-in-Timer c =
    loads_register _ _ _ _ _ _ _ _ (told _ _ _ _ _ c.bytes_of.ensures c.place_of-place.ensures c.in-Timer.is) c.read-in-Timer.ensures

pub returns-in-Nothing : goal.returns-in-Nothing
returns-in-Nothing c = loads_nothing _ _ _ _ _ _ (told _ _ _ _ _ c.bytes_of.ensures c.place_of-place.ensures c.in-Nothing.is)
