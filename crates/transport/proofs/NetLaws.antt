-- Meanings that are the same, and what the tests of a net tell.
use Rattle.std.proofs.Common.{◌≡◌, ℕ, zero, suc, ◌+◌, ◌-◌, ◌<◌, ◌≤◌, min, Bool, true, false, cond, not, ◌&&◌, eqb, ltb, leb, length, Ok, Err, Result, sym, refl, ap, ◌∙◌, ap₂, inl, inr, add-one, arith}
use mathlib.Core.Path.{fun_ext}
use Rattle.std.proofs.lemmas.Bool.{and_parts, and_left, and_right, cases_eq, cond_both, cond-false, eqb-true, ltb-true, lt-ltb, both_ways}
use Rattle.std.proofs.lemmas.Bool.Decides.{nat_tests}
use Rattle.frame.specs.declared.Frame.{Frame}
use Rattle.transport.specs.Nets.{Net, all_below, least_below, accepts, hears, is_full, room, most_posts, post_judged, post_answer, after_post, after_close}
use Rattle.transport.specs.declared.faults.TransportFault.{TransportFault}

-- functions equal at every argument are equal
pub net_path : {B : Type 0} (a b : Net B) → a.size ≡ b.size → a.limit ≡ b.limit → ((j : ℕ) → a.opened j ≡ b.opened j) →
    ((i j : ℕ) → a.waiting i j ≡ b.waiting i j) → a ≡ b
net_path a b p q r s = λ k. record { size = p k; limit = q k; opened = fun_ext r k; waiting = fun_ext (λ i. fun_ext (s i)) k }

pub all_below_at : (n : ℕ) (p : ℕ → Bool) (j : ℕ) → j < n → all_below n p ≡ true → p j ≡ true
all_below_at zero p j h e = absurd (let z : j < 0 = h in omega arith)
all_below_at (suc n) p j h e =
    let q = and_parts (p n) (all_below n p) e in
    elim (cases_eq j n) [ inl r ↦ ap p r ∙ q.0 | inr r ↦ all_below_at n p j (omega arith) q.1 ]

pub all_below_fails : (n : ℕ) (p : ℕ → Bool) (j : ℕ) → j < n → p j ≡ false → all_below n p ≡ false
all_below_fails zero p j h e = absurd (let z : j < 0 = h in omega arith)
all_below_fails (suc n) p j h e =
    elim (cases_eq j n) [
      | inl r ↦ and_left (p n) (all_below n p) (sym (ap p r) ∙ e)
      | inr r ↦ and_right (p n) (all_below n p) (all_below_fails n p j (omega arith) e)
    ]

pub all_below_more : (n : ℕ) (p : ℕ → Bool) → all_below n p ≡ true → p n ≡ true → all_below (n + 1) p ≡ true
all_below_more n p h e = rw add-one (ap₂ ◌&&◌ e h)

pub least_below_more : (n : ℕ) (f : ℕ → ℕ) (most : ℕ) → least_below (n + 1) f most ≡ min (f n) (least_below n f most)
least_below_more n f most = rw add-one refl

-- the least is no more than any of the numbers
pub least_at : (n : ℕ) (f : ℕ → ℕ) (most j : ℕ) → j < n → least_below n f most ≤ f j
least_at zero f most j h = absurd (let z : j < 0 = h in omega arith)
least_at (suc n) f most j h =
    elim (cases_eq j n) [
      | inl e ↦ (let p : f j ≡ f n = ap f e in omega arith)
      | inr e ↦ (let p = least_at n f most j (omega arith) in omega arith)
    ]

pub cond_same : {X : Type 0} (b : Bool) (x y z : X) → (b ≡ true → x ≡ y) → cond b x z ≡ cond b y z
cond_same true x y z h = h refl
cond_same false x y z h = refl

pub accepts_below : {B : Type 0} (t : Net B) (s : ℕ) → accepts t s ≡ true → s < t.size
accepts_below t s h = ltb-true s t.size (and_parts (ltb s t.size) _ h).0

-- a post that is not accepted changes nothing
pub post_refused : {B : Type 0} (t : Net B) (f : Frame B) → accepts t f.sender.value ≡ false → t ≡ after_post t f
post_refused t f h = net_path _ _ refl refl (λ j. refl) (λ i j.
    cond_both (eqb i f.sender.value && (accepts t i && hears t i j)) _ _ (λ z. t.waiting i j ≡ z)
    (λ e.
    let p = and_parts (eqb i f.sender.value) (accepts t i && hears t i j) e in
    let q = and_parts (accepts t i) (hears t i j) p.1 in
    absurd (both_ways (accepts t i) (ap (accepts t) (eqb-true i f.sender.value p.0) ∙ h) q.0))
    (λ _. refl))

-- closing a printer that there is not changes nothing
pub close_none : {B : Type 0} (t : Net B) (p : ℕ) → t.size ≤ p → t ≡ after_close t p
close_none t p h = net_path _ _ refl refl (λ j. sym (cond-false _ _ _ (past j))) (λ i j. sym (cond-false _ _ _ (past j)))
  where
    past : (j : ℕ) → (eqb j p && ltb j t.size) ≡ false
    past j = grind (arith, nat_tests)

-- where a post is accepted, each pair that it lengthens has room
pub accepts_room : {B : Type 0} (t : Net B) (s j : ℕ) → accepts t s ≡ true → j < t.size → hears t s j ≡ true →
    length (t.waiting s j) < t.limit
accepts_room t s j ha hj hh =
    go (hears t s j) t.limit (length (t.waiting s j)) hh
    (all_below_at t.size _ j hj (and_parts (ltb s t.size) _ ha).1)
  where
    go : (h : Bool) (a b : ℕ) → h ≡ true → not (h && leb a b) ≡ true → b < a
    go h a b p q = grind (arith, nat_tests)

-- a post is accepted where one could be made
pub accepts_spare : {B : Type 0} (t : Net B) (s : ℕ) → 1 ≤ t.limit → accepts t s ≡ ltb 0 (most_posts t s)
accepts_spare t s l = both (ltb s t.size) _ _ (all t.size)
  where
    one : (h : Bool) (limit held : ℕ) → 1 ≤ limit → not (h && leb limit held) ≡ ltb 0 (cond h (limit - held) limit)
    one true limit held l = grind (arith, nat_tests)
    one false limit held l = grind (arith, nat_tests)

    least : (a b : ℕ) → (ltb 0 a && ltb 0 b) ≡ ltb 0 (min a b)
    least a b = grind (arith, nat_tests)

    all : (n : ℕ) → all_below n (λ j. not (hears t s j && is_full t s j)) ≡ ltb 0 (least_below n (room t s) t.limit)
    all zero = sym (lt-ltb 0 t.limit l)
    all (suc n) =
        ap₂ ◌&&◌ (one (hears t s n) t.limit (length (t.waiting s n)) l) (all n) ∙
        least (room t s n) (least_below n (room t s) t.limit)

    both : (h a : Bool) (x : ℕ) → a ≡ ltb 0 x → (h && a) ≡ ltb 0 (cond h x 0)
    both true a x e = e
    both false a x e = refl

-- a post whose judge was told how many are left
module _ {B : Type 0} (t : Net B) (s left : ℕ) (limited : 1 ≤ t.limit) (told : left ≡ most_posts t s) where
  pub judged_right : (r : Result Unit TransportFault) → r ≡ post_judged (ltb 0 left) s → r ≡ post_answer t s
  judged_right r h = h ∙ ap (λ b. post_judged b s) (ap (ltb 0) told ∙ sym (accepts_spare t s limited))

  pub judged_accepts : Ok tt ≡ post_judged (ltb 0 left) s → accepts t s ≡ true
  judged_accepts h = go (accepts t s) (judged_right (Ok tt) h)
    where
      go : (b : Bool) → Ok tt ≡ post_judged b s → b ≡ true
      go true e = refl
      go false e = absurd (cc)

  judged_refuses : (e : TransportFault) → Err e ≡ post_judged (ltb 0 left) s → accepts t s ≡ false
  judged_refuses e h = go (accepts t s) (judged_right (Err e) h)
    where
      go : (b : Bool) → Err e ≡ post_judged b s → b ≡ false
      go true h = absurd (cc)
      go false h = refl

  pub judged_same : (f : Frame B) → f.sender.value ≡ s → (e : TransportFault) → Err e ≡ post_judged (ltb 0 left) s → t ≡ after_post t f
  judged_same f p e h = post_refused t f (ap (accepts t) p ∙ judged_refuses e h)
