-- Writing one element, and one record.
use Rattle.std.proofs.Common.{◌≡◌, ℕ, zero, suc, ◌<◌, List, [], ◌∷◌, length, get_or, set, refl, ap, ◌∙◌, arith}
use Rattle.std.proofs.lemmas.List.{get_or_default}
use Rattle.frame.specs.declared.MessageNumber.{MessageNumber}
use Rattle.roles.specs.declared.RecordKind.{RecordKind}
use Rattle.table.specs.Records.{modify, body_for, written, shelf_place}
use Rattle.table.specs.declared.records.Record.{Record}

-- to modify an element is to set it
pub modify_set : {A : Type 0} (xs : List A) (i : ℕ) (f : A → A) (a : A) → i < length xs → a ≡ get_or xs i a → set xs i (f a) ≡ modify xs i f
modify_set [] i f a h e = refl
modify_set (x ∷ xs) zero f a h e = ap (λ y. f y ∷ xs) e
modify_set (x ∷ xs) (suc i) f a h e = ap (λ ys. x ∷ ys) (modify_set xs i f a (omega arith) e)

pub modify_length : {A : Type 0} (xs : List A) (i : ℕ) (f : A → A) → length (modify xs i f) ≡ length xs
modify_length [] i f = refl
modify_length (x ∷ xs) zero f = refl
modify_length (x ∷ xs) (suc i) f = ap suc (modify_length xs i f)

-- a record made of its parts and written over an old one
pub record_written : {R : Type 0} (list : List (Record R)) (at : ℕ) (kind : RecordKind) (x : ℕ) (k : MessageNumber) (shelf : List R) (d : Record R)
    (place : ℕ) (body : R) → at < length list → place ≡ shelf_place x k.0 → body ≡ body_for kind shelf place (get_or list at d).body →
    set list at (record { kind = kind; printer = x; number = k; body = body }) ≡ modify list at (written kind x k shelf)
record_written list at kind x k shelf d place body h p b =
    let old = get_or list at d in
    ap (λ y. set list at (record { kind = kind; printer = x; number = k; body = y })) (b ∙ ap (λ i. body_for kind shelf i old.body) p) ∙
    modify_set list at (written kind x k shelf) old h (get_or_default list at d old h)
