-- Opening a hall.
use Rattle.std.specs.Prelude.{ℕ, Bool, not, ◌||◌, List, [], ◌∷◌, is_some, ◌==◌, nat_lt}
use Rattle.transport.specs.Nets.{Net, is_open, oldest}
use Rattle.roles.specs.Functions.{any_below}
use Rattle.table.specs.Printers.{opening}
use Rattle.table.specs.declared.Record.{Record}
use Rattle.order.specs.Refusals.{Outcome, accepted, past}
use Rattle.order.specs.Scenes.{Scene, standing}

module _ {B : Type 0} (t : Net B) (n : ℕ) where
  -- a frame waits between some of n printers, or one of them is closed
  abbrev pub is_used : Bool
  is_used = any_below n (λ p. not (is_open t p) || any_below n (λ q. is_some (oldest t p q)))

  abbrev pub open_outcome : ℕ → Outcome (Unit {0})
  open_outcome places = past 0 (
      (nat_lt n 2 || nat_lt 8 n, 1)
      ∷ (places == 0 || nat_lt 65536 places, 2)
      ∷ (not (t.size == n) || is_used, 3)
      ∷ []) (accepted tt)

-- a hall just opened, with stores that hold anything
abbrev pub opened : {B R : Type 0} → ℕ → ℕ → ℕ → (ℕ → ℕ → ℕ) → Net B → List (Record R) → List R → Scene B R
opened n places start delay t lists shelf = record {
  size = n;
  places = places;
  delay = delay;
  printer = λ p. opening p start;
  presence = λ p. standing;
  net = t;
  lists = lists;
  shelf = shelf;
}
