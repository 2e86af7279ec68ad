-- What searches of the numbers of a range answer.
use Rattle.std.proofs.Common.{◌≡◌, ℕ, zero, suc, ◌+◌, ◌-◌, ◌*◌, ◌<◌, ◌≤◌, Bool, true, false, ◌||◌, IfSome, IsSomeAnd, MatchOption, IsTrue, Some, None, Option, sym, refl, ap, ap₂, ◌∙◌, arith}
use mathlib.Core.Path.{fun_ext}
use Rattle.std.specs.Fn.{Called, CalledAt}
use Rattle.std.specs.Iterator.{ChecksAny, FindsItem, FoldsItems}
use Rattle.std.specs.Iterator.Adapters.{rev_steps, RevKeepsRuns}
use Rattle.std.specs.Iterator.Runs.{Run, SomeRun, CallKeepsClosure, NoItemPasses, EndsAtFirstPassing}
use Rattle.std.specs.List.{list_any, find, fold, sum_by, range_with_len}
use Rattle.std.specs.declared.iter.Rev.{Rev}
use Rattle.std.specs.declared.ops.Range.{Range}
use denote.Param.Members.{Mut}
use denote.Ref.{Bor}
use Rattle.std.proofs.iter.Yields.{nat_range_steps}
use Rattle.std.proofs.iter.runs.Sources.{nat_range_steps_back, range_runs_back}
use Rattle.std.proofs.lemmas.Iterator.{YieldsList-from_range}
use Rattle.std.proofs.lemmas.Iterator.Search.{any_from_yields_List, find_from_yields_List}
use Rattle.std.proofs.lemmas.Iterator.Consumers.{fold_from_yields_List}
use Rattle.std.proofs.lemmas.Iterator.Adapters.{option_map_id}
use Rattle.roles.specs.Functions.{any_below, highest}
use Rattle.roles.proofs.Functions.{highest_is}

-- a test that holds of some number, begun with the lowest number
pub any_below_first : (n : ℕ) (p : ℕ → Bool) → any_below (suc n) p ≡ (p 0 || any_below n (λ j. p (suc j)))
any_below_first zero p = refl
any_below_first (suc n) p = let e = any_below_first n p in grind arith

any_from : (n a : ℕ) (p : ℕ → Bool) → list_any p (range_with_len a n) ≡ any_below n (λ j. p (a + j))
any_from zero a p = refl
any_from (suc n) a p =
    let e = any_from n (a + 1) p in
    let f = any_below_first n (λ j. p (a + j)) in
    let s : any_below n (λ j. p (a + 1 + j)) ≡ any_below n (λ j. p (a + suc j)) = ap (any_below n) (fun_ext (λ j. ap p (omega arith))) in
    let z : p (a + 0) ≡ p a = ap p (omega arith) in
    ap₂ (λ x y. x || y) (sym z) (e ∙ s) ∙ sym f

-- what `any` answers of the n numbers from a on
pub any_in_range : {F : Type 0} {g : Mut F (ℕ × Unit {0}) Bool} (a n : ℕ) (p : ℕ → Bool) (s u : Range ℕ) (f : F) (r : Bool) →
    ChecksAny nat_range_steps g s f r u → s.start ≡ a → s.end ≡ a + n →
    ((x : ℕ) (b : Bool) (q : F) → Called g f (x, tt) b q → (q ≡ f) × (b ≡ p x)) → r ≡ any_below n (λ j. p (a + j))
any_in_range a n p s u f r ran start end closed =
    any_from_yields_List p u f r ran (YieldsList-from_range s.start s.end n refl (omega arith)) closed ∙ ap (λ k. list_any p (range_with_len k n)) start ∙ any_from n a p

-- the same, of the numbers below n
pub any_below_range : {F : Type 0} {g : Mut F (ℕ × Unit {0}) Bool} (n : ℕ) (p : ℕ → Bool) (s u : Range ℕ) (f : F) (r : Bool) →
    ChecksAny nat_range_steps g s f r u → s.start ≡ 0 → s.end ≡ n →
    ((x : ℕ) (b : Bool) (q : F) → Called g f (x, tt) b q → (q ≡ f) × (b ≡ p x)) → r ≡ any_below n p
any_below_range n p s u f r ran start end closed =
    any_in_range 0 n p s u f r ran start (omega arith) closed ∙ ap (any_below n) (fun_ext (λ j. ap p (omega arith)))

-- what `fold` makes of the numbers below n, where `upto` says it of one number more
fold_from : {B : Type 0} (f : B → ℕ → B) (upto : ℕ → B) → ((k : ℕ) → upto (k + 1) ≡ f (upto k) k) → (n k : ℕ) →
    fold f (upto k) (range_with_len k n) ≡ upto (k + n)
fold_from f upto more zero k = ap upto (omega arith)
fold_from f upto more (suc n) k =
    ap (λ b. fold f b (range_with_len (k + 1) n)) (sym (more k)) ∙ fold_from f upto more n (k + 1) ∙ ap upto (omega arith)

pub fold_below_range : {B F : Type 0} {g : Mut F (B × (ℕ × Unit {0})) B} (n : ℕ) (h : B → ℕ → B) (upto : ℕ → B) (s : Range ℕ) (f : F) (r : B) →
    ((k : ℕ) → upto (k + 1) ≡ h (upto k) k) →
    FoldsItems nat_range_steps g s f (upto 0) r → s.start ≡ 0 → s.end ≡ n →
    ((a : B) (x : ℕ) (b : B) (q : F) → Called g f (a, (x, tt)) b q → (q ≡ f) × (b ≡ h a x)) → r ≡ upto n
fold_below_range {g = g} n h upto s f r more ran start end closed =
    fold_from_yields_List g h (upto 0) r ran (YieldsList-from_range s.start s.end n refl (omega arith)) closed
    ∙ ap (λ k. fold h (upto 0) (range_with_len k n)) start ∙ fold_from h upto more n 0 ∙ ap upto (omega arith)

-- what `find` answers of the n numbers from k on
pub find_in_range : {F : Type 0} {g : Mut F (Bor ℕ × Unit {0}) Bool} (k n : ℕ) (p : ℕ → Bool) (s u : Range ℕ) (f : F) (r : Option ℕ) →
    FindsItem nat_range_steps g s f r u → s.start ≡ k → s.end ≡ k + n →
    ((x : ℕ) (b : Bool) (q : F) → CalledAt g f x b q → (q ≡ f) × (b ≡ p x)) → r ≡ find p (range_with_len k n)
find_in_range k n p s u f r ran start end closed =
    sym (option_map_id r) ∙ find_from_yields_List p u f r ran (YieldsList-from_range s.start s.end n refl (omega arith)) closed
    ∙ ap (λ a. find p (range_with_len a n)) start

-- what `sum` makes of the numbers below n, where `upto` says it of one number more
pub sum_below : (h upto : ℕ → ℕ) → upto 0 ≡ 0 → ((k : ℕ) → upto (k + 1) ≡ upto k + h k) → (n : ℕ) → sum_by h (range_with_len 0 n) ≡ upto n
sum_below h upto none more n =
    ap (λ a. fold (λ b x. b + h x) a (range_with_len 0 n)) (sym none) ∙ fold_from (λ b x. b + h x) upto more n 0 ∙ ap upto (omega arith)

-- it is bounded where each part is
fold_at_most : (h : ℕ → ℕ) (m : ℕ) → ((k : ℕ) → h k ≤ m) → (n k a : ℕ) → fold (λ b x. b + h x) a (range_with_len k n) ≤ a + m * n
fold_at_most h m few zero k a = omega arith
fold_at_most h m few (suc n) k a =
    let later = fold_at_most h m few n (k + 1) (a + h k) in
    let one : m * suc n ≡ m + m * n = omega arith in
    omega (arith, few k)

pub sum_at_most : (h : ℕ → ℕ) (m : ℕ) → ((k : ℕ) → h k ≤ m) → (n : ℕ) → sum_by h (range_with_len 0 n) ≤ m * n
sum_at_most h m few n = let z = fold_at_most h m few n 0 0 in omega arith

pub some_is : (P : ℕ → Type 0) (o : Option ℕ) → IsSomeAnd o P → IfSome o P
some_is P None h = absurd h
some_is P (Some x) h = h

-- what `rev` and then `find` answer of the numbers below n
module _ {F : Type 0} {g : Mut F (Bor ℕ × Unit {0}) Bool} (n : ℕ) (p : ℕ → Bool) (s : Range ℕ) (f : F)
    (start : s.start ≡ 0) (end : s.end ≡ n) (closed : (x : ℕ) (b : Bool) (q : F) → CalledAt g f x b q → (q ≡ f) × (b ≡ p x)) where
  keeps : CallKeepsClosure g f
  keeps a b q c = (closed a.0.now b q (record { shown = a.0; shows = refl; called = c })).0

  -- where an answer was given at an item
  given : (b : Bool) (x : ℕ) (o : Option ℕ) → o ≡ Some x → IfSome o (λ y. CalledAt g f y b f) → p x ≡ b
  given b x None e c = absurd (let z : ◌≡◌ {A = ℕ} 0 1 = cc in omega arith)
  given b x (Some y) e c = let d : y ≡ x = cc in sym (ap p d) ∙ sym (closed y b f c).1

  -- the numbers come from n - 1 down
  down : (t : Rev (Range ℕ)) (u : Run (rev_steps nat_range_steps_back)) → RevKeepsRuns nat_range_steps_back s t → u.from ≡ t →
      (u.len ≤ n) × (u.whole ≡ true → u.len ≡ n) × ((k : ℕ) → k < u.len → u.at k ≡ Some (n - 1 - k))
  down t u kept from =
      let q = kept u u.seen from in
      let r = range_runs_back q.0 q.0.seen in
      let a : q.0.from.start ≡ 0 = ap (λ (z : Range ℕ). z.start) q.1 ∙ start in
      let b : q.0.from.end ≡ n = ap (λ (z : Range ℕ). z.end) q.1 ∙ end in
      let len : q.0.len ≡ u.len = q.2.0.0 in (
        omega (arith, r.0),
        (λ w. let v : q.0.whole ≡ true = q.2.1 ∙ w in omega (arith, r.1 v)),
        λ k l. sym (q.2.0.2 k) ∙ sym (option_map_id (q.0.at k)) ∙ r.3 k (omega arith) ∙ ap Some (omega arith),
      )

  pub find_back_below : (t : Rev (Range ℕ)) (r : Option ℕ) → RevKeepsRuns nat_range_steps_back s t →
      SomeRun (rev_steps nat_range_steps_back) t (λ u. MatchOption r (IsTrue u.whole × NoItemPasses u g f) (EndsAtFirstPassing u g f)) → r ≡ highest n p
  find_back_below t None kept (u, from, all) =
      let d = down t u kept from in
      let len : u.len ≡ n = d.1 all.0 in
      highest_is n p None (λ a l. given false a (u.at (n - 1 - a)) (d.2 (n - 1 - a) (omega arith) ∙ ap Some (omega arith)) (all.1 keeps (n - 1 - a)))
  find_back_below t (Some x) kept (u, from, (i, len, hit, passes)) =
      let d = down t u kept from in
      let few : u.len ≤ n = d.0 in
      let same : Some x ≡ Some (n - 1 - i) = sym hit ∙ d.2 i (omega arith) in
      let place : x ≡ n - 1 - i = cc in
      let miss : (j : ℕ) → x < j → j < n → p j ≡ false = λ j a l.
      let k : ℕ = n - 1 - j in
      let at : u.at k ≡ Some j = d.2 k (omega arith) ∙ ap Some (omega arith) in
      given false j (u.at k) at (some_is _ (u.at k) ((passes keeps).1 k (omega arith))) in
      let low : x < n = omega arith in
      highest_is n p (Some x) (low, sym (closed x true f (passes keeps).0).1, miss)
