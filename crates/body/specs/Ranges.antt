-- The ranges of bodies.
use Rattle.std.specs.Prelude.{ℕ, Bool, true, cond, ◌&&◌, Some, None, Option, ◌==◌, nat_le, nat_lt}
use Rattle.body.specs.Words.{is_word}
use Rattle.body.specs.declared.change.ChangeKind.{ChangeKind}
use Rattle.body.specs.declared.change.ChangeKind.TheVariants.{Set, ClearField, DropTemplate}

abbrev pub change_number : ChangeKind → ℕ
change_number Set = 0
change_number ClearField = 1
change_number DropTemplate = 2

abbrev pub change_named : ℕ → Option ChangeKind
change_named w = cond (w == 0) (Some Set) (cond (w == 1) (Some ClearField) (cond (w == 2) (Some DropTemplate) None))

-- what a kind of change does not use is 0
abbrev pub uses : ChangeKind → ℕ → ℕ → Bool
uses Set field value = true
uses ClearField field value = value == 0
uses DropTemplate field value = field == 0 && value == 0

abbrev pub change_ok : ChangeKind → ℕ → ℕ → ℕ → Bool
change_ok what template field value =
    uses what field value && (is_word template && (is_word field && is_word value))

abbrev pub claim_ok : ℕ → ℕ → Bool
claim_ok series count = nat_lt series 16 && (nat_le 1 count && nat_le count 1000000)
