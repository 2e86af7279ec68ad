-- The nearest active printer is the one with the least delay, and no other is.
use Rattle.std.proofs.Common.{◌≡◌, ℕ, zero, suc, ◌<◌, cond, Some, None, Option, refl, ap, inl, inr, arith}
use Rattle.std.proofs.lemmas.Bool.{cases_order, both_ways}
use Rattle.std.proofs.lemmas.Bool.Decides.{nat_tests}
use Rattle.roles.specs.Configurations.{Conf, is_active}
use Rattle.roles.specs.Nearest.{nearest, nearer, Nearest}

-- at most one answer is the nearest
pub nearest_only : (n : ℕ) (c : Conf) (delay : ℕ → ℕ) (r s : Option ℕ) → Nearest n c delay r → Nearest n c delay s → r ≡ s
nearest_only n c delay None None h k = refl
nearest_only n c delay None (Some b) h k = absurd (both_ways (is_active c b) (h b k.0) k.1)
nearest_only n c delay (Some a) None h k = absurd (both_ways (is_active c a) (k a h.0) h.1)
nearest_only n c delay (Some a) (Some b) h k =
    elim (cases_order a b) [
      | inl e ↦ ap Some e
      | inr (inl l) ↦ absurd (omega (arith, h.2 b k.0 k.1, k.3 a l h.1))
      | inr (inr l) ↦ absurd (omega (arith, k.2 a h.0 h.1, h.3 b l k.1))
    ]

-- one printer more
nearest_more : (k : ℕ) (c : Conf) (delay : ℕ → ℕ) (r : Option ℕ) → Nearest k c delay r →
    Nearest (suc k) c delay (cond (is_active c k) (nearer delay k r) r)
nearest_more k c delay None h = grind (arith, nat_tests)
nearest_more k c delay (Some b) h = grind (arith, nat_tests)

-- what `nearest` gives is the nearest
pub nearest_least : (n : ℕ) (c : Conf) (delay : ℕ → ℕ) → Nearest n c delay (nearest n c delay)
nearest_least zero c delay = λ a h. absurd (let z : a < 0 = h in omega arith)
nearest_least (suc k) c delay = nearest_more k c delay (nearest k c delay) (nearest_least k c delay)

-- and nothing else is
pub nearest_is : (n : ℕ) (c : Conf) (delay : ℕ → ℕ) (r : Option ℕ) → Nearest n c delay r → r ≡ nearest n c delay
nearest_is n c delay r h = nearest_only n c delay r (nearest n c delay) h (nearest_least n c delay)
