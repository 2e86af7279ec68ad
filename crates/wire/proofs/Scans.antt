-- Reading words and writing them undo each other.
use Rattle.std.proofs.Common.{◌≡◌, ℕ, suc, ◌+◌, Bool, true, eqb, List, [], ◌∷◌, ◌++◌, length, Ok, sym, refl, ap, ◌∙◌, arith}
use Rattle.std.proofs.lemmas.List.{append-nil, append_assoc, length_push}
use Rattle.std.proofs.lemmas.Bool.{and_parts, and_from, eq-eqb, ltb-true, lt-ltb, cond-true}
use Rattle.std.proofs.lemmas.Bool.Decides.{nat_tests}
use Rattle.body.specs.Words.{in_order, is_word}
use Rattle.wire.specs.Bytes.{word_of, words_bytes}
use Rattle.wire.specs.Reading.{words_on}
use Rattle.wire.proofs.WordBytes.{Bytes, word_again, bytes_again, four_small, word_small}

module _ (allows : List ℕ → ℕ → Bool) (due : ℕ) where
  -- words in range, as many as are due, are read as they were written
  pub scan_written : (vs before : List ℕ) → in_order allows before vs ≡ true → length before + length vs ≡ due →
      words_on allows due before (words_bytes vs) ≡ Ok (before ++ vs)
  unfolding words_on words_bytes
  scan_written [] before h l =
      cond-true (eqb (length before) due) _ _ (eq-eqb (length before) due (omega arith)) ∙ ap Ok (sym (append-nil before))
  scan_written (w ∷ vs) before h l =
      let p = and_parts (is_word w) _ h in
      let q = and_parts (allows before w) _ p.1 in
      let e = word_again w (ltb-true w 4294967296 p.0) in
      let n : length (before ++ w ∷ []) + length vs ≡ due = omega (arith, length_push before w) in
      let rest = scan_written vs (before ++ w ∷ []) q.1 n in
      let a = append_assoc before (w ∷ []) vs in
      grind (arith, nat_tests)

  -- what is read as words is what is written of them
  pub record Scanned (before bs ws : List ℕ) : Type 0 where
    pub vs : List ℕ
    pub all : ws ≡ before ++ vs
    pub ranged : in_order allows before vs ≡ true
    pub long : length before + length vs ≡ due
    pub bytes : bs ≡ words_bytes vs

  one_more : (a b c d : ℕ) (bs before ws : List ℕ) → Bytes (a ∷ b ∷ c ∷ d ∷ bs) → allows before (word_of a b c d) ≡ true →
      Scanned (before ++ word_of a b c d ∷ []) bs ws → Scanned before (a ∷ b ∷ c ∷ d ∷ bs) ws
  unfolding words_bytes
  one_more a b c d bs before ws small p m =
      let w = word_of a b c d in
      let small_word = lt-ltb w 4294967296 (word_small a b c d (small 0) (small 1) (small 2) (small 3)) in
      let e = bytes_again a b c d (four_small a b c d bs small) in
      record {
        vs = w ∷ m.vs;
        all = m.all ∙ append_assoc before (w ∷ []) m.vs;
        ranged = and_from (is_word w) _ small_word (and_from (allows before w) _ p m.ranged);
        long = omega (arith, length_push before w, m.long);
        bytes = ap (λ xs. a ∷ (b ∷ (c ∷ (d ∷ xs)))) m.bytes ∙ ap (λ xs. xs ++ words_bytes m.vs) (sym e);
      }

  pub scan_read : (bs before ws : List ℕ) → Bytes bs → words_on allows due before bs ≡ Ok ws → Scanned before bs ws
  unfolding words_on words_bytes
  scan_read [] before ws small e =
      let a = append-nil before in
      record { vs = []; all = grind (arith, nat_tests); ranged = refl; long = grind (arith, nat_tests); bytes = refl }
  scan_read (a ∷ []) before ws small e = grind arith
  scan_read (a ∷ b ∷ []) before ws small e = grind arith
  scan_read (a ∷ b ∷ c ∷ []) before ws small e = grind arith
  scan_read (a ∷ b ∷ c ∷ d ∷ bs) before ws small e =
      let p : allows before (word_of a b c d) ≡ true = grind (arith, nat_tests) in
      let q : words_on allows due (before ++ word_of a b c d ∷ []) bs ≡ Ok ws = grind (arith, nat_tests) in
      one_more a b c d bs before ws small p (scan_read bs (before ++ word_of a b c d ∷ []) ws (λ i. small (suc (suc (suc (suc i))))) q)
