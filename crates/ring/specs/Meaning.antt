-- What a ring transport means.
use Rattle.std.specs.Prelude.{vec_items, Option}
use Rattle.body.specs.declared.kind.Body.{Ghosts}
use Rattle.transport.specs.Nets.{Net}
use Rattle.ring.specs.Rings.{ring_net}
use Rattle.ring.specs.declared.ring.RingTransport.{RingTransport}

-- remade gives the body of a row
abbrev pub ring_meaning : {B R : Type 0} {g : Ghosts B R} → (R → Option B) → RingTransport B R g → Net B
ring_meaning remade t = ring_net remade t.members t.limit t.circles (vec_items t.cells)
