-- What a function that reads a text may answer.
use Rattle.std.specs.Prelude.{◌≡◌, Some, None, Option, Result, MatchResult}
use Rattle.dump.specs.declared.faults.LineFault.{LineFault}
use Rattle.dump.specs.declared.faults.LineFault.TheVariants.{NotHex}

-- The text means `meant`. An `Ok` holds just that, as `shown` tells of its value, and `NotHex` says that the text means
-- nothing. `Memory` may come at any text.
abbrev pub Reads : {A B : Type 0} → Option B → (A → B) → Result A LineFault → Type 0
Reads meant shown r = MatchResult r (λ x. meant ≡ Some (shown x)) (λ e. e ≡ NotHex → meant ≡ None)
