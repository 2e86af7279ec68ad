-- Template changes: made of plain numbers, and seen as words and as rows.
use Rattle.std.specs.Prelude.{ℕ, Bool, true, false, not, ◌||◌, List, [], ◌∷◌, Some, None, Option, ◌==◌, nat_le}
use Rattle.body.specs.Checked.{checked}
use Rattle.body.specs.Ranges.{change_number, change_named, change_ok}
use Rattle.body.specs.declared.change.ChangeKind.{ChangeKind}
use Rattle.body.specs.declared.change.TemplateChange.{TemplateChange}
use Rattle.body.specs.declared.change.ChangeRow.{ChangeRow}

-- a change of a kind, if there is that kind
abbrev pub change_with : Option ChangeKind → ℕ → ℕ → ℕ → Option TemplateChange
change_with (Some k) t f v =
    checked (change_ok k t f v) (λ p. Some (record { what = k; template = t; field = f; value = v; ok = p })) None
change_with None t f v = None

abbrev pub change_of : ℕ → ℕ → ℕ → ℕ → Option TemplateChange
change_of w t f v = change_with (change_named w) t f v

abbrev pub change_words : TemplateChange → List ℕ
change_words b = change_number b.what ∷ (b.template ∷ (b.field ∷ (b.value ∷ [])))

abbrev pub change_allows : List ℕ → ℕ → Bool
change_allows [] w = nat_le w 2
change_allows (k ∷ []) w = true
change_allows (k ∷ t ∷ []) w = not (k == 2) || w == 0
change_allows (k ∷ t ∷ f ∷ []) w = k == 0 || w == 0
change_allows (k ∷ t ∷ f ∷ v ∷ more) w = false

abbrev pub change_rebuilt : List ℕ → Option TemplateChange
change_rebuilt [] = None
change_rebuilt (k ∷ []) = None
change_rebuilt (k ∷ t ∷ []) = None
change_rebuilt (k ∷ t ∷ f ∷ []) = None
change_rebuilt (k ∷ t ∷ f ∷ v ∷ []) = change_of k t f v
change_rebuilt (k ∷ t ∷ f ∷ v ∷ x ∷ more) = None

abbrev pub change_row : TemplateChange → ChangeRow
change_row b = record { what = change_number b.what; template = b.template; field = b.field; value = b.value }

abbrev pub change_remade : ChangeRow → Option TemplateChange
change_remade x = change_of x.what x.template x.field x.value
