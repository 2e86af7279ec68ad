-- The nearest active printer.
use Rattle.std.specs.Prelude.{◌≡◌, ℕ, zero, suc, ◌<◌, ◌≤◌, true, false, cond, List, Some, None, Option, nat_lt, slice_index}
use Rattle.roles.specs.Configurations.{Conf, is_active}

-- the delay to each printer, by a row of delays
abbrev pub delay_in : List ℕ → ℕ → ℕ
delay_in delays a = slice_index delays a

abbrev pub nearer : (ℕ → ℕ) → ℕ → Option ℕ → Option ℕ
nearer delay k None = Some k
nearer delay k (Some b) = cond (nat_lt (delay k) (delay b)) (Some k) (Some b)

-- of the active printers below n the one with the least delay, and the lowest number among equals
abbrev pub nearest : ℕ → Conf → (ℕ → ℕ) → Option ℕ
nearest zero c delay = None
nearest (suc k) c delay = cond (is_active c k) (nearer delay k (nearest k c delay)) (nearest k c delay)

-- in other words: none is active; or this one is, none is nearer, and those below it are farther
abbrev pub Nearest : ℕ → Conf → (ℕ → ℕ) → Option ℕ → Type 0
Nearest n c delay None = (a : ℕ) → a < n → is_active c a ≡ false
Nearest n c delay (Some b) =
    (b < n) × (is_active c b ≡ true)
    × ((a : ℕ) → a < n → is_active c a ≡ true → delay b ≤ delay a)
    × ((a : ℕ) → a < b → is_active c a ≡ true → delay b < delay a)
