-- The faults of a transport.
use Rattle.std.specs.Prelude.{ℕ}
use Rattle.transport.specs.declared.faults.Layer.{Layer}
use Rattle.transport.specs.declared.faults.Layer.TheVariants.{Transport, Hall}
use Rattle.transport.specs.declared.faults.TransportRefusal.{TransportRefusal}
use Rattle.transport.specs.declared.faults.TransportRefusal.TheVariants.{PrinterCount, NoLimit, PostRefused, NothingWaits}

abbrev pub refusal_number : TransportRefusal → ℕ
refusal_number PrinterCount = 1
refusal_number NoLimit = 3
refusal_number PostRefused = 16
refusal_number NothingWaits = 17

abbrev pub refusal_layer : TransportRefusal → Layer
refusal_layer PrinterCount = Hall
refusal_layer NoLimit = Hall
refusal_layer PostRefused = Transport
refusal_layer NothingWaits = Transport
