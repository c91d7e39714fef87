-- The row of a stack rack and of a ring rack, for contracts that speak of one. Assumes nothing.
use Rattle.racks.specs.Row.{Row, row_of}
use Rattle.racks.specs.declared.place_rack.PlaceRack.{PlaceRack}

abbrev pub rack_state : {J : Type 0} → PlaceRack J → Row
rack_state r = row_of r.back r.out
