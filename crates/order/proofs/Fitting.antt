-- The stores keep their lengths, so stores that fit a hall go on to fit it.
use Rattle.std.proofs.Common.{◌≡◌, ℕ, zero, suc, ◌+◌, ◌*◌, ◌<◌, ◌≤◌, false, eqb, List, [], ◌∷◌, length, drop, refl, ap, ◌∙◌, length-drop, arith}
use Rattle.std.proofs.Math.Nat.{mul-le-mul_right}
use Rattle.std.proofs.lemmas.Bool.{cond_both, and_parts, not-false, eqb-true}
use Rattle.std.proofs.lemmas.List.{length-take-le}
use Rattle.table.specs.Departures.{left_by}
use Rattle.table.specs.Desks.{Desk}
use Rattle.order.specs.Calls.{Call, send, raise, lower, change, transmit, take, stop, remove, stepped}
use Rattle.order.specs.Leaving.{seen_leaving}
use Rattle.order.specs.Scenes.{Scene, with_part, with_desk, stands, list_of, desk_at, stores_misfit}

with_part_length : {A : Type 0} (store : List A) (from : ℕ) (new : List A) → length (with_part store from new) ≡ length store
with_part_length [] from new = refl
with_part_length (a ∷ rest) (suc from) new = ap suc (with_part_length rest from new)
with_part_length (a ∷ rest) zero [] = refl
with_part_length (a ∷ rest) zero (b ∷ new) = ap suc (with_part_length rest zero new)

-- two scenes of one size whose stores are equally long
record SameStores {B R : Type 0} (s t : Scene B R) : Type 0 where
  size : t.size ≡ s.size
  places : t.places ≡ s.places
  lists : length t.lists ≡ length s.lists
  shelf : length t.shelf ≡ length s.shelf

module _ {B R : Type 0} where
  unmoved : (s : Scene B R) → SameStores s s
  unmoved s = record { size = refl; places = refl; lists = refl; shelf = refl }

  and_then : (s t u : Scene B R) → SameStores s t → SameStores t u → SameStores s u
  and_then s t u a b = record { size = b.size ∙ a.size; places = b.places ∙ a.places; lists = b.lists ∙ a.lists; shelf = b.shelf ∙ a.shelf }

  desk_moved : (s : Scene B R) (p : ℕ) (d : Desk R) → SameStores s (with_desk s p d)
  desk_moved s p d = record {
    size = refl;
    places = refl;
    lists = with_part_length s.lists _ d.list;
    shelf = with_part_length s.shelf _ d.shelf;
  }

  leaving_moved : (x k : ℕ) (s : Scene B R) → SameStores s (seen_leaving x k s)
  leaving_moved x zero s = unmoved s
  leaving_moved x (suc k) s =
      let t = seen_leaving x k s in
      let d = left_by t.size (t.delay k) k (desk_at t k) x in
      and_then s t _ (leaving_moved x k s)
      (cond_both (stands t k) (with_desk t k d) t (SameStores t) (λ _. desk_moved t k d) (λ _. unmoved t))

  moved : (row : B → R) (s : Scene B R) (c : Call B) → SameStores s (stepped row s c)
  moved row s (send p b) = record { size = refl; places = refl; lists = refl; shelf = with_part_length s.shelf _ _ }
  moved row s (raise p) = record { size = refl; places = refl; lists = refl; shelf = refl }
  moved row s (lower p) = record { size = refl; places = refl; lists = refl; shelf = refl }
  moved row s (change p q) = record { size = refl; places = refl; lists = refl; shelf = refl }
  moved row s (transmit p) = record { size = refl; places = refl; lists = with_part_length s.lists _ _; shelf = with_part_length s.shelf _ _ }
  moved row s (take p x) = record { size = refl; places = refl; lists = with_part_length s.lists _ _; shelf = with_part_length s.shelf _ _ }
  moved row s (stop p) = record { size = refl; places = refl; lists = refl; shelf = refl }
  moved row s (remove m) =
      let t = leaving_moved m.printer s.size s in record { size = t.size; places = t.places; lists = t.lists; shelf = t.shelf }

  pub still_fits : (row : B → R) (s : Scene B R) (c : Call B) → stores_misfit s ≡ false → stores_misfit (stepped row s c) ≡ false
  still_fits row s c e = let m = moved row s c in cc

  pub desk_fits : (s : Scene B R) (p : ℕ) (d : Desk R) → stores_misfit s ≡ false → stores_misfit (with_desk s p d) ≡ false
  desk_fits s p d e = let m = desk_moved s p d in cc

-- the list of a printer has its places
pub list_length : {B R : Type 0} (s : Scene B R) (p : ℕ) → stores_misfit s ≡ false → p < s.size → length (list_of s p) ≡ s.places
list_length s p e h =
    let long : length s.lists ≡ s.size * s.places =
    eqb-true _ _ (and_parts (eqb (length s.lists) (s.size * s.places)) (eqb (length s.shelf) (s.size * s.size * 8)) (not-false _ e)).0 in
    let below : (p + 1) * s.places ≤ s.size * s.places = mul-le-mul_right s.places (omega arith) in
    length-take-le s.places (drop (p * s.places) s.lists) (omega (arith, length-drop (p * s.places) s.lists))
