-- One take after another.
use Rattle.std.proofs.Common.{◌≡◌, ℕ, zero, suc, ◌+◌, ◌<◌, ◌≤◌, Bool, true, false, cond, ◌&&◌, eqb, List, [], ◌∷◌, length, drop, is_some, sym, refl, ap, ◌∙◌, ap₂, arith}
use Rattle.std.proofs.lemmas.List.{drop-drop, drop_all}
use Rattle.std.proofs.lemmas.Bool.{and_parts, cond-true}
use Rattle.transport.specs.Nets.{Net, first, rest, has, queue, oldest, after_take, after_takes}
use Rattle.transport.proofs.NetLaws.{net_path}
use Rattle.transport.proofs.TableLaws.{pair_true, pair_self}

rest_drop : {A : Type 0} (k : ℕ) (xs : List A) → rest (drop k xs) ≡ drop (k + 1) xs
rest_drop k xs = one (drop k xs) ∙ drop-drop 1 k xs
  where
    one : {A : Type 0} (ys : List A) → rest ys ≡ drop 1 ys
    one [] = refl
    one (y ∷ ys) = refl

-- an element is left exactly where fewer were dropped than there are
pub some_left : {A : Type 0} (k : ℕ) (xs : List A) → is_some (first (drop k xs)) ≡ true → k < length xs
some_left zero [] e = absurd (let z : ◌≡◌ {A = ℕ} 0 1 = cc in omega arith)
some_left zero (x ∷ xs) e = omega arith
some_left (suc k) [] e = absurd (let z : ◌≡◌ {A = ℕ} 0 1 = cc in omega arith)
some_left (suc k) (x ∷ xs) e = let h = some_left k xs e in omega arith

pub none_left : {A : Type 0} (k : ℕ) (xs : List A) → is_some (first (drop k xs)) ≡ false → length xs ≤ k
none_left zero [] e = omega arith
none_left zero (x ∷ xs) e = absurd (let z : ◌≡◌ {A = ℕ} 0 1 = cc in omega arith)
none_left (suc k) [] e = omega arith
none_left (suc k) (x ∷ xs) e = let h = none_left k xs e in omega arith

module _ {B : Type 0} (t : Net B) (s d : ℕ) where
  pub takes_none : after_takes t s d 0 ≡ t
  takes_none = net_path _ _ refl refl (λ j. refl) (λ i j. same ((eqb i s && eqb j d) && (has t i && has t j)) (t.waiting i j))
    where
      same : {A : Type 0} (b : Bool) (xs : List A) → cond b (drop 0 xs) xs ≡ xs
      same true xs = refl
      same false xs = refl

  pub takes_more : (k : ℕ) → after_take (after_takes t s d k) s d ≡ after_takes t s d (k + 1)
  takes_more k = net_path _ _ refl refl (λ j. refl) (λ i j. same ((eqb i s && eqb j d) && (has t i && has t j)) (t.waiting i j))
    where
      same : {A : Type 0} (b : Bool) (xs : List A) → cond b (rest (cond b (drop k xs) xs)) (cond b (drop k xs) xs) ≡ cond b (drop (k + 1) xs) xs
      same true xs = rest_drop k xs
      same false xs = refl

  pub takes_queue : (k : ℕ) → queue (after_takes t s d k) s d ≡ drop k (queue t s d)
  takes_queue k = same (has t s && has t d) (eqb s s && eqb d d) (pair_self s d) (t.waiting s d)
    where
      drop_nil : {A : Type 0} (xs : List A) (n : ℕ) → xs ≡ [] → drop n xs ≡ []
      drop_nil xs n e = drop_all n xs (omega (arith, ap length e))

      same : {A : Type 0} (b c : Bool) → c ≡ true → (xs : List A) → cond b (cond (c && b) (drop k xs) xs) [] ≡ drop k (cond b xs [])
      same true true e xs = refl
      same false c e xs = sym (drop_nil (cond false xs []) k refl)
      same true false e xs = absurd (let z : ◌≡◌ {A = ℕ} 0 1 = cc in omega arith)

  -- what is the oldest after so many takes
  pub takes_oldest : (k : ℕ) (m : Net B) → m ≡ after_takes t s d k → oldest m s d ≡ first (drop k (queue t s d))
  takes_oldest k m e = ap (λ m. oldest m s d) e ∙ ap first (takes_queue k)

  -- where no more are left, one more take changes nothing
  pub takes_over : (k : ℕ) → length (queue t s d) ≤ k → after_takes t s d (k + 1) ≡ after_takes t s d k
  takes_over k h = net_path _ _ refl refl (λ j. refl) (λ i j. go i j ((eqb i s && eqb j d) && (has t i && has t j)) refl)
    where
      go : (i j : ℕ) (b : Bool) → ((eqb i s && eqb j d) && (has t i && has t j)) ≡ b →
          cond b (drop (k + 1) (t.waiting i j)) (t.waiting i j) ≡ cond b (drop k (t.waiting i j)) (t.waiting i j)
      go i j false e = refl
      go i j true e =
          let p = and_parts (eqb i s && eqb j d) (has t i && has t j) e in
          let q = pair_true i s j d p.0 in
          let w : queue t s d ≡ t.waiting i j =
          ap₂ (queue t) (sym q.0) (sym q.1) ∙ cond-true (has t i && has t j) _ _ p.1 in
          let l : length (t.waiting i j) ≤ k = omega (arith, ap length w) in
          drop_all (k + 1) (t.waiting i j) (omega arith) ∙ sym (drop_all k (t.waiting i j) l)
