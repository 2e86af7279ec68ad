-- Role numbers after a record: they rise by one at most.
use Rattle.std.proofs.Common.{◌≡◌, ℕ, ◌+◌, ◌≤◌, Some, None, Option, refl, arith}
use Rattle.std.proofs.lemmas.Bool.Decides.{nat_tests}
use Rattle.frame.specs.declared.RoleNumber.{RoleNumber}
use Rattle.roles.specs.declared.seats.Rank.{Rank}
use Rattle.roles.specs.declared.seats.Rank.TheVariants.{Removed, Active, Passive}
use Rattle.roles.specs.declared.seats.RecordKind.{RecordKind}
use Rattle.roles.specs.declared.seats.RecordKind.TheVariants.{Data, Up, Down, Gone}
use Rattle.roles.specs.Functions.{highest}
use Rattle.roles.specs.Configurations.{Conf, remains, raised, without, promoted_by, changed}
use Rattle.roles.proofs.Functions.{put_other}

-- one who is removed keeps the role number
pub without_role : (c : Conf) (x a : ℕ) → (without c x a).role.0 ≡ (c a).role.0
without_role c x a = grind (arith, nat_tests)

raised_rise : (k : Rank) (r : RoleNumber) → (raised k r).role.0 ≤ r.0 + 1
raised_rise Removed r = omega arith
raised_rise Active r = omega arith
raised_rise Passive r = omega arith

promoted_rise : (c : Conf) (o : Option ℕ) (a : ℕ) → (promoted_by c o a).role.0 ≤ (c a).role.0 + 1
promoted_rise c None a = omega arith
promoted_rise c (Some b) a = grind (arith, nat_tests)

-- a record raises a role number by one at most
pub changed_rise : (n : ℕ) (c : Conf) (k : RecordKind) (x a : ℕ) → (changed n c k x a).role.0 ≤ (c a).role.0 + 1
changed_rise n c Data x a = omega arith
changed_rise n c Up x a = grind (arith, nat_tests, raised_rise (c x).rank (c x).role)
changed_rise n c Down x a = grind (arith, nat_tests)
changed_rise n c Gone x a =
    let left = without c x in
    grind (arith, without_role c x a, promoted_rise left (highest n (λ b. remains (left b).rank)) a)

-- so a bound on all role numbers rises by one
pub changed_bound : (n : ℕ) (c : Conf) (k : RecordKind) (x m : ℕ) → ((a : ℕ) → (c a).role.0 ≤ m) → (a : ℕ) →
    (changed n c k x a).role.0 ≤ m + 1
changed_bound n c k x m h a = omega (arith, changed_rise n c k x a, h a)

-- a record other than a leaving concerns one printer
pub changed_other : (n : ℕ) (c : Conf) (k : RecordKind) (x a : ℕ) → (k ≡ Gone → ⊥) → (a ≡ x → ⊥) → changed n c k x a ≡ c a
changed_other n c Data x a g h = refl
changed_other n c Up x a g h = put_other c x _ a h
changed_other n c Down x a g h = put_other c x _ a h
changed_other n c Gone x a g h = absurd (g refl)
