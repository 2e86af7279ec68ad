-- Records in a list.
use Rattle.std.specs.Prelude.{ℕ, zero, suc, ◌+◌, ◌*◌, ◌%◌, List, [], ◌∷◌, slice_index_or}
use Rattle.frame.specs.declared.MessageNumber.{MessageNumber}
use Rattle.roles.specs.declared.RecordKind.{RecordKind}
use Rattle.roles.specs.declared.RecordKind.TheVariants.{Data, Up, Down, Gone}
use Rattle.table.specs.declared.records.Record.{Record}

-- the place on a printer's shelf for the body of message k of x
abbrev pub shelf_place : ℕ → ℕ → ℕ
shelf_place x k = x * 8 + k % 8

-- one element changed
abbrev pub modify : {A : Type 0} → List A → ℕ → (A → A) → List A
modify [] i f = []
modify (a ∷ rest) zero f = f a ∷ rest
modify (a ∷ rest) (suc i) f = a ∷ modify rest i f

module _ {R : Type 0} where
  -- the body of a record: of data what lies on the shelf; any other leaves the place as it was
  abbrev pub body_for : RecordKind → List R → ℕ → R → R
  body_for Data shelf i old = slice_index_or shelf i old
  body_for Up shelf i old = old
  body_for Down shelf i old = old
  body_for Gone shelf i old = old

  -- a record written over what stood in its place
  abbrev pub written : RecordKind → ℕ → MessageNumber → List R → Record R → Record R
  written kind x k shelf old =
      record { kind = kind; printer = x; number = k; body = body_for kind shelf (shelf_place x k.0) old.body }
