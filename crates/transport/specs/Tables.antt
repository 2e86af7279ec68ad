-- Tables of what is kept for each ordered pair of up to eight printers.
use Rattle.std.specs.Prelude.{ℕ, ◌+◌, ◌*◌, slice_index_or}
use Rattle.transport.specs.declared.pairs.PairTable.{PairTable}

-- what a table has for sender i and receiver j; none beyond its last place
unfoldable pub at_pair : {T : Type 0} → T → PairTable T → ℕ → ℕ → T
at_pair none t i j = slice_index_or t.places (i * 8 + j) none
