-- What an accepted `ok_or` was given.
use Rattle.std.proofs.Common.{◌≡◌, ℕ, Ok, Result, Some, None, Option, arith}
use Rattle.std.specs.Option.{ok_or}

pub given_of_ok : {A E : Type 0} (o : Option A) (e : E) (x : A) → Ok x ≡ ok_or o e → o ≡ Some x
given_of_ok {A} {E} (Some y) e x h = let inner : ◌≡◌ {A = Result A E} (Ok x) (Ok y) = h in cc
given_of_ok None e x h = absurd (let z : ◌≡◌ {A = ℕ} 0 1 = cc in omega arith)
