-- One turn of the reader, and its end.
use Rattle.std.proofs.Common.{◌≡◌, ℕ, ◌+◌, ◌<◌, ◌≤◌, Bool, List, [], ◌∷◌, ◌++◌, length, get_or, drop, Ok, Err, Result, arith}
use Rattle.std.proofs.lemmas.List.{drop_more, length-drop, drop_all, length_push}
use Rattle.std.proofs.lemmas.Bool.Decides.{nat_tests}
use Rattle.body.specs.declared.WireFault.{WireFault}
use Rattle.body.specs.declared.WireRefusal.TheVariants.{EndsTooSoon, LeftOver}
use Rattle.wire.specs.Reading.{words_on, place}
use Rattle.wire.specs.Filling.{next_word}

pub drop_four : (bs : List ℕ) (i : ℕ) → i + 4 ≤ length bs →
    drop i bs ≡ get_or bs i 0 ∷ (get_or bs (i + 1) 0 ∷ (get_or bs (i + 2) 0 ∷ (get_or bs (i + 3) 0 ∷ drop (i + 4) bs)))
drop_four bs i h =
    let p = drop_more bs i 0 (omega arith) in
    let q = drop_more bs (i + 1) 0 (omega arith) in
    let r = drop_more bs (i + 2) 0 (omega arith) in
    let s = drop_more bs (i + 3) 0 (omega arith) in
    grind arith

module _ (allows : List ℕ → ℕ → Bool) (due : ℕ) where
  -- what the bytes behind these words give
  abbrev pub read_on : List ℕ → List ℕ → Result (List ℕ) WireFault
  read_on before bs = words_on allows due before (drop (place before) bs)

  -- too few bytes for a word that is due
  cut_off : (before xs : List ℕ) → length xs < 4 → (length before ≡ due → ⊥) →
      words_on allows due before xs ≡ Err (record { refusal = EndsTooSoon; byte = place before })
  unfolding words_on
  cut_off before [] h n = grind (arith, nat_tests)
  cut_off before (a ∷ []) h n = grind (arith, nat_tests)
  cut_off before (a ∷ b ∷ []) h n = grind (arith, nat_tests)
  cut_off before (a ∷ b ∷ c ∷ []) h n = grind (arith, nat_tests)
  cut_off before (a ∷ b ∷ c ∷ d ∷ xs) h n = absurd (omega arith)

  -- no byte, or some, behind all words that are due
  pub all_read : (before bs : List ℕ) → length before ≡ due → length bs ≤ place before → read_on before bs ≡ Ok before
  unfolding words_on
  all_read before bs n h =
      let e = drop_all (place before) bs h in
      grind (arith, nat_tests)

  more_left : (before xs : List ℕ) → length before ≡ due → 0 < length xs →
      words_on allows due before xs ≡ Err (record { refusal = LeftOver; byte = place before })
  unfolding words_on
  more_left before [] n h = absurd (omega arith)
  more_left before (a ∷ []) n h = grind (arith, nat_tests)
  more_left before (a ∷ b ∷ []) n h = grind (arith, nat_tests)
  more_left before (a ∷ b ∷ c ∷ []) n h = grind (arith, nat_tests)
  more_left before (a ∷ b ∷ c ∷ d ∷ xs) n h = grind (arith, nat_tests)

  pub left_over : (before bs : List ℕ) → length before ≡ due → place before < length bs →
      read_on before bs ≡ Err (record { refusal = LeftOver; byte = place before })
  left_over before bs n h = more_left before (drop (place before) bs) n (omega (arith, length-drop (place before) bs))

  -- the next word, read or refused
  abbrev After : List ℕ → List ℕ → Result ℕ WireFault → Type 0
  After before bs (Ok w) = read_on before bs ≡ read_on (before ++ w ∷ []) bs
  After before bs (Err e) = read_on before bs ≡ Err e

  pub one_turn : (before bs : List ℕ) → (length before ≡ due → ⊥) → (r : Result ℕ WireFault) → r ≡ next_word allows before bs →
      After before bs r
  unfolding words_on
  one_turn before bs n (Ok w) e =
      let h : place before + 4 ≤ length bs = grind (arith, nat_tests) in
      let p = drop_four bs (place before) h in
      let k : place (before ++ w ∷ []) ≡ place before + 4 = omega (arith, length_push before w) in
      grind (arith, nat_tests)
  one_turn before bs n (Err x) e =
      let p = drop_four bs (place before) in
      let c : length bs < place before + 4 → read_on before bs ≡ Err (record { refusal = EndsTooSoon; byte = place before }) =
      λ h. cut_off before (drop (place before) bs) (omega (arith, length-drop (place before) bs)) n in
      grind (arith, nat_tests)
