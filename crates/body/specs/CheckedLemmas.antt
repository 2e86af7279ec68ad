-- What a checked choice gives where the outcome of its test is known.
use Rattle.std.specs.Prelude.{◌≡◌, Bool, true, false, Some, None, refl}
use Rattle.std.proofs.Common.{ap}
use Rattle.std.proofs.Math.Bool.{Bool-set}
use Rattle.std.proofs.lemmas.Bool.{both_ways}
use Rattle.body.specs.Checked.{checked}

pub checked_true : {A : Type 0} (b : Bool) (f : b ≡ true → A) (d : A) (p : b ≡ true) → checked b f d ≡ f p
checked_true true f d p = ap f (Bool-set true true refl p)
checked_true false f d p = absurd (both_ways false refl p)

-- what was made was made under the test
pub checked_some : {A : Type 0} (b : Bool) (f : b ≡ true → A) (x : A) → checked b (λ p. Some (f p)) None ≡ Some x → (p : b ≡ true) × (f p ≡ x)
checked_some true f x e = (refl, (cc))
checked_some false f x e = absurd (let z : ◌≡◌ {A = Bool} true false = cc in both_ways true z refl)
