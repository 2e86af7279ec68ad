-- A change is what its words and its row make.
use Rattle.std.specs.Prelude.{◌≡◌, ℕ, true, List, [], ◌∷◌, length, Some, None, Option, refl}
use Rattle.std.proofs.Common.{sym, ap, ◌∙◌, inl, inr, arith}
use Rattle.std.proofs.lemmas.Bool.{cases_eq}
use Rattle.std.proofs.lemmas.Bool.Decides.{nat_tests}
use Rattle.body.specs.Words.{in_order}
use Rattle.body.specs.Ranges.{change_number, change_named, change_ok}
use Rattle.body.specs.Changes.{change_of, change_with, change_words, change_allows, change_row, change_remade}
use Rattle.body.specs.declared.change.ChangeKind.{ChangeKind}
use Rattle.body.specs.declared.change.ChangeKind.TheVariants.{Set, ClearField, DropTemplate}
use Rattle.body.specs.declared.change.TemplateChange.{TemplateChange}
use Rattle.body.specs.declared.change.ChangeRow.{ChangeRow}
use Rattle.body.specs.CheckedLemmas.{checked_true, checked_some}

pub change_named_number : (k : ChangeKind) → change_named (change_number k) ≡ Some k
change_named_number Set = refl
change_named_number ClearField = refl
change_named_number DropTemplate = refl

pub change_number_named : (w : ℕ) (k : ChangeKind) → change_named w ≡ Some k → change_number k ≡ w
change_number_named w k e = grind (arith, nat_tests)

pub change_with_self : (b : TemplateChange) → change_with (Some b.what) b.template b.field b.value ≡ Some b
change_with_self b = checked_true (change_ok b.what b.template b.field b.value) _ None b.ok

pub change_of_self : (b : TemplateChange) → change_of (change_number b.what) b.template b.field b.value ≡ Some b
change_of_self b =
    ap (λ k. change_with k b.template b.field b.value) (change_named_number b.what) ∙ change_with_self b

-- what was made has the parts that it was made of
made_of : (o : Option ChangeKind) (w t f v : ℕ) (b : TemplateChange) → change_named w ≡ o → change_with o t f v ≡ Some b →
    change_row b ≡ record { what = w; template = t; field = f; value = v }
made_of None w t f v b n e = absurd (let z : ◌≡◌ {A = ℕ} 0 1 = cc in omega arith)
made_of (Some k) w t f v b n e =
    let m = checked_some (change_ok k t f v) (λ p. record { what = k; template = t; field = f; value = v; ok = p }) b e in
    let q : change_row b ≡ record { what = change_number k; template = t; field = f; value = v } = ap change_row (sym m.1) in
    let p = change_number_named w k n in
    q ∙ ap (λ (x : ℕ). record { what = x; template = t; field = f; value = v }) p

pub change_plain : (x : ChangeRow) (b : TemplateChange) → change_remade x ≡ Some b → change_row b ≡ x
change_plain x b e = made_of (change_named x.what) x.what x.template x.field x.value b refl e

-- words in range name a kind, and leave what it does not use at 0
known : (k t f v : ℕ) → in_order change_allows [] (k ∷ t ∷ f ∷ v ∷ []) ≡ true →
    (c : ChangeKind) × (change_number c ≡ k) × (change_ok c t f v ≡ true)
known k t f v h =
    elim (cases_eq k 0) [
      | inl z ↦ (Set, (omega arith), (grind (arith, nat_tests)))
      | inr n ↦ elim (cases_eq k 1) [
        | inl z ↦ (ClearField, (omega arith), (grind (arith, nat_tests)))
        | inr m ↦ (DropTemplate, (grind (arith, nat_tests)), (grind (arith, nat_tests)))
      ]
    ]

pub change_written : (ws : List ℕ) → length ws ≡ 4 → in_order change_allows [] ws ≡ true → (b : TemplateChange) × (change_words b ≡ ws)
change_written [] l h = absurd (omega arith)
change_written (k ∷ []) l h = absurd (omega arith)
change_written (k ∷ t ∷ []) l h = absurd (omega arith)
change_written (k ∷ t ∷ f ∷ []) l h = absurd (omega arith)
change_written (k ∷ t ∷ f ∷ v ∷ []) l h =
    let m = known k t f v h in
    (record { what = m.0; template = t; field = f; value = v; ok = m.2 }, ap (λ n. n ∷ (t ∷ (f ∷ (v ∷ [])))) m.1)
change_written (k ∷ t ∷ f ∷ v ∷ x ∷ more) l h = absurd (omega arith)
