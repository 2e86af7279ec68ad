-- What `most_posts` tells: as many posts can be made in a row.
use Rattle.std.proofs.Common.{◌≡◌, ℕ, zero, suc, ◌-◌, ◌<◌, ◌≤◌, Bool, true, false, cond, eqb, [], ◌∷◌, ◌++◌, length, refl, ap, ◌∙◌, arith}
use Rattle.std.proofs.lemmas.List.{length_push}
use Rattle.std.proofs.lemmas.Bool.{and_parts, and_from, eqb-true, lt-ltb}
use Rattle.frame.specs.declared.Frame.{Frame}
use Rattle.transport.specs.Nets.{Net, least_below, has, hears, accepts, after_post, room, most_posts}
use Rattle.transport.specs.Series.{all_sent_by, AcceptsSeries}
use Rattle.transport.proofs.NetLaws.{accepts_spare}

least_most : (n : ℕ) (f : ℕ → ℕ) (most : ℕ) → least_below n f most ≤ most
least_most zero f most = omega arith
least_most (suc n) f most = let p = least_most n f most in omega arith

least_lower : (n : ℕ) (f g : ℕ → ℕ) (most : ℕ) → ((j : ℕ) → j < n → f j ≤ suc (g j)) → least_below n f most ≤ suc (least_below n g most)
least_lower zero f g most h = omega arith
least_lower (suc n) f g most h =
    let p = h n (omega arith) in
    let q = least_lower n f g most (λ j l. h j (omega arith)) in
    omega arith

module _ {B : Type 0} (t : Net B) (s : ℕ) where
  within_limit : most_posts t s ≤ t.limit
  within_limit = go (has t s) where
    go : (b : Bool) → cond b (least_below t.size (room t s) t.limit) 0 ≤ t.limit
    go true = least_most t.size (room t s) t.limit
    go false = omega arith

  pub some_accepted : 0 < most_posts t s → accepts t s ≡ true
  some_accepted h = accepts_spare t s (let l = within_limit in omega arith) ∙ lt-ltb 0 (most_posts t s) h

  -- a post takes at most one from what can still be posted
  pub one_fewer : (f : Frame B) → f.sender.value ≡ s → most_posts t s ≤ suc (most_posts (after_post t f) s)
  one_fewer f e = go (has t s) where
    held : (j : ℕ) (b : Bool) → length (cond b (t.waiting s j ++ f ∷ []) (t.waiting s j)) ≤ suc (length (t.waiting s j))
    held j true = omega (arith, length_push (t.waiting s j) f)
    held j false = omega arith

    fewer : (b : Bool) (limit a c : ℕ) → c ≤ suc a → cond b (limit - a) limit ≤ suc (cond b (limit - c) limit)
    fewer true limit a c l = omega arith
    fewer false limit a c l = omega arith

    go : (b : Bool) → cond b (least_below t.size (room t s) t.limit) 0 ≤ suc (cond b (least_below t.size (room (after_post t f) s) t.limit) 0)
    go true = least_lower t.size (room t s) (room (after_post t f) s) t.limit (λ j l.
        fewer (hears t s j) t.limit (length (t.waiting s j)) _ (held j _))
    go false = omega arith

pub spare_holds : {B : Type 0} (t : Net B) (s count : ℕ) → count ≤ most_posts t s → AcceptsSeries t s count
spare_holds t s count h [] e l = refl
spare_holds t s count h (f ∷ fs) e l =
    let p = and_parts (eqb f.sender.value s) (all_sent_by s fs) e in
    let q = eqb-true f.sender.value s p.0 in
    let a : accepts t f.sender.value ≡ true = ap (accepts t) q ∙ some_accepted t s (omega arith) in
    let m = one_fewer t s f q in
    and_from (accepts t f.sender.value) _ a (spare_holds (after_post t f) s (count - 1) (omega arith) fs p.1 (omega arith))
