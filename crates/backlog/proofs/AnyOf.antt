-- What `any` answers of the first elements of an array, and of the numbers of a range from the last one down.
use Rattle.std.proofs.Common.{◌≡◌, ℕ, zero, suc, ◌-◌, ◌<◌, ◌≤◌, Bool, true, false, ◌||◌, List, [], ◌∷◌, length, get_or, take, IfSome, MatchBool, IsTrue, Some, None, Option, sym, refl, ap, ◌∙◌, arith}
use denote.Param.Members.{Mut}
use Rattle.std.specs.Fn.{Called}
use Rattle.std.specs.Iterator.Adapters.{rev_steps, RevKeepsRuns}
use Rattle.std.specs.Iterator.Runs.{Run, SomeRun, CallKeepsClosure, AllItemsGive, AnyItemGives}
use Rattle.std.specs.List.{list_any}
use Rattle.std.specs.declared.iter.Rev.{Rev}
use Rattle.std.specs.declared.ops.Range.{Range}
use Rattle.std.proofs.iter.runs.Sources.{nat_range_steps_back, range_runs_back}
use Rattle.std.proofs.lemmas.Iterator.Adapters.{option_map_id}
use Rattle.roles.specs.Functions.{any_below}
use Rattle.roles.proofs.Functions.{any_below_at, any_below_none}
use Rattle.roles.proofs.Ranges.{any_below_first, some_is}

-- a test that some of the first n elements passes, by their places
pub any_taken : {A : Type 0} (p : A → Bool) (xs : List A) (d : A) (n : ℕ) → n ≤ length xs → list_any p (take n xs) ≡ any_below n (λ i. p (get_or xs i d))
any_taken p xs d zero l = refl
any_taken p [] d (suc n) l = absurd (omega arith)
any_taken p (x ∷ xs) d (suc n) l = ap (λ b. p x || b) (any_taken p xs d n (omega arith)) ∙ sym (any_below_first n (λ i. p (get_or (x ∷ xs) i d)))

-- what `rev` and then `any` answer of the numbers below n
module _ {F : Type 0} {g : Mut F (ℕ × Unit {0}) Bool} (n : ℕ) (p : ℕ → Bool) (s : Range ℕ) (f : F)
    (start : s.start ≡ 0) (end : s.end ≡ n) (closed : (x : ℕ) (b : Bool) (q : F) → Called g f (x, tt) b q → (q ≡ f) × (b ≡ p x)) where
  keeps : CallKeepsClosure g f
  keeps a r q c = (closed a.0 r q c).0

  -- where an answer was given at an item
  given : (b : Bool) (x : ℕ) (o : Option ℕ) → o ≡ Some x → IfSome o (λ y. Called g f (y, tt) b f) → p x ≡ b
  given b x None e c = absurd (let z : ◌≡◌ {A = ℕ} 0 1 = cc in omega arith)
  given b x (Some y) e c = let d : y ≡ x = cc in sym (ap p d) ∙ sym (closed y b f c).1

  -- the numbers come from n - 1 down
  down : (t : Rev (Range ℕ)) (u : Run (rev_steps nat_range_steps_back)) → RevKeepsRuns nat_range_steps_back s t → u.from ≡ t →
      (u.len ≤ n) × (u.whole ≡ true → u.len ≡ n) × ((k : ℕ) → k < u.len → u.at k ≡ Some (n - 1 - k))
  down t u kept from =
      let q = kept u u.seen from in
      let r = range_runs_back q.0 q.0.seen in
      let a : q.0.from.start ≡ 0 = ap (λ (z : Range ℕ). z.start) q.1 ∙ start in
      let b : q.0.from.end ≡ n = ap (λ (z : Range ℕ). z.end) q.1 ∙ end in
      let len : q.0.len ≡ u.len = q.2.0.0 in (
        omega (arith, r.0),
        (λ w. let v : q.0.whole ≡ true = q.2.1 ∙ w in omega (arith, r.1 v)),
        λ k l. sym (q.2.0.2 k) ∙ sym (option_map_id (q.0.at k)) ∙ r.3 k (omega arith) ∙ ap Some (omega arith),
      )

  pub any_back_below : (t : Rev (Range ℕ)) (r : Bool) → RevKeepsRuns nat_range_steps_back s t →
      SomeRun (rev_steps nat_range_steps_back) t (λ u. MatchBool r (AnyItemGives u g f true) (IsTrue u.whole × AllItemsGive u g f false)) → r ≡ any_below n p
  any_back_below t true kept (u, from, some) =
      let d = down t u kept from in
      let few : u.len ≤ n = d.0 in
      let hit = some keeps in
      let k : ℕ = hit.0 in
      let below : k < u.len = hit.1 in
      sym (any_below_at n p (n - 1 - k) (omega arith) (given true (n - 1 - k) (u.at k) (d.2 k below) (some_is _ (u.at k) hit.2)))
  any_back_below t false kept (u, from, all) =
      let d = down t u kept from in
      let len : u.len ≡ n = d.1 all.0 in
      sym (any_below_none n p (λ i l. given false i (u.at (n - 1 - i)) (d.2 (n - 1 - i) (omega arith) ∙ ap Some (omega arith)) (all.1 keeps (n - 1 - i))))
