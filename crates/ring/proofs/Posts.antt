-- A post, receiver by receiver.
use Rattle.std.proofs.Common.{◌≡◌, ℕ, ◌+◌, ◌<◌, Bool, true, false, cond, not, ◌&&◌, eqb, ltb, [], ◌∷◌, ◌++◌, length, sym, refl, ap, ◌∙◌, subst, ap₂}
use Rattle.std.proofs.lemmas.Bool.{and_parts, and_from, and_right, lt-ltb, cond-true, cond-false}
use Rattle.frame.specs.declared.Frame.{Frame}
use Rattle.transport.specs.Members.{is_open_in, hears_in, reaches}
use Rattle.transport.specs.declared.Members.{Members}
use Rattle.transport.specs.Nets.{Net, hears, accepts, after_post}
use Rattle.transport.proofs.NetLaws.{net_path, accepts_room}
use Rattle.transport.proofs.TableLaws.{at_one, below_none, below_last, below_here, below_next, below_apart}
use Rattle.ring.specs.Rings.{pushed}

-- a post as far as the receivers below k
abbrev pub part_posted : {B : Type 0} → Net B → Frame B → ℕ → Net B
part_posted t f k = record {
  size = t.size;
  limit = t.limit;
  opened = t.opened;
  waiting = λ i j.
      cond (eqb i f.sender.value && (ltb j k && (accepts t i && hears t i j))) (t.waiting i j ++ f ∷ []) (t.waiting i j);
}

module _ {B : Type 0} (t : Net B) (f : Frame B) where
  pub part_none : part_posted t f 0 ≡ t
  part_none = net_path _ _ refl refl (λ j. refl) (λ i j.
      cond-false _ (t.waiting i j ++ f ∷ []) (t.waiting i j)
      (below_none i j f.sender.value (accepts t i && hears t i j)))

  pub part_all : part_posted t f t.size ≡ after_post t f
  part_all = net_path _ _ refl refl (λ j. refl) (λ i j.
      ap (λ b. cond b (t.waiting i j ++ f ∷ []) (t.waiting i j))
      (twice (eqb i f.sender.value) (ltb j t.size) (accepts t i) (t.opened j) (not (eqb j i))))
    where
      twice : (a e x y z : Bool) → (a && (e && (x && ((e && y) && z)))) ≡ (a && (x && ((e && y) && z)))
      twice a true x y z = refl
      twice a false true y z = refl
      twice a false false y z = refl

  pub part_skip : (k : ℕ) → hears t f.sender.value k ≡ false → part_posted t f k ≡ part_posted t f (k + 1)
  part_skip k h = net_path _ _ refl refl (λ j. refl) (λ i j.
      ap (λ b. cond b (t.waiting i j ++ f ∷ []) (t.waiting i j))
      (below_next i j f.sender.value k (accepts t i && hears t i j) (λ p q. and_right (accepts t i) _ (ap₂ (hears t) p q ∙ h))))

  pub part_step : (k : ℕ) → accepts t f.sender.value ≡ true → hears t f.sender.value k ≡ true →
      pushed (part_posted t f k) f.sender.value k f ≡ part_posted t f (k + 1)
  part_step k ha hh = net_path _ _ refl refl (λ j. refl) (λ i j.
      sym (at_one (part_posted t f (k + 1)).waiting (λ i j. (part_posted t f k).waiting i j ++ f ∷ []) (part_posted t f k).waiting s k here else i j))
    where
      s : ℕ
      s = f.sender.value

      here : (part_posted t f (k + 1)).waiting s k ≡ (part_posted t f k).waiting s k ++ f ∷ []
      here =
          cond-true _ _ _ (below_here s k s k _ refl refl (and_from (accepts t s) (hears t s k) ha hh)) ∙
          ap (λ w. w ++ f ∷ []) (sym (cond-false _ _ _ (below_last s k (accepts t s && hears t s k))))

      else : (i j : ℕ) → (i ≡ s → j ≡ k → ⊥) → (part_posted t f (k + 1)).waiting i j ≡ (part_posted t f k).waiting i j
      else i j ne = ap (λ b. cond b (t.waiting i j ++ f ∷ []) (t.waiting i j)) (below_apart i j s k (accepts t i && hears t i j) ne)

  -- where a post is accepted, each receiver still to come has room
  pub part_room : (k : ℕ) (m : Net B) → m ≡ part_posted t f k → k < t.size → hears m f.sender.value k ≡ true →
      accepts t f.sender.value ≡ true → length (m.waiting f.sender.value k) < m.limit
  part_room k m e hk hh ha =
      subst (λ x. length (x.waiting f.sender.value k) < x.limit) (sym e)
      (subst (λ w. length w < t.limit) (sym (cond-false _ _ _ (below_last f.sender.value k (accepts t f.sender.value && hears t f.sender.value k))))
      (accepts_room t f.sender.value k ha hk (sym (ap (λ x. hears x f.sender.value k) e) ∙ hh)))

-- the pairs that hear a sender are reached
pub hears_reaches : (m : Members) (s j : ℕ) → s < m.size → hears_in m s j ≡ true → reaches m s j ≡ true
hears_reaches m s j hs h =
    and_from (ltb s m.size) _ (lt-ltb s m.size hs) (and_parts (ltb j m.size) _ (and_parts (is_open_in m j) _ h).0).1
