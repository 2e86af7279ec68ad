-- Words one after the other into the front of a buffer.
use Rattle.std.proofs.Common.{◌≡◌, ℕ, ◌+◌, ◌*◌, ◌<◌, ◌≤◌, List, [], ◌∷◌, ◌++◌, length, get_or, take, drop, sym, refl, ap, ◌∙◌, ap₂, arith}
use Rattle.std.proofs.lemmas.List.{append_assoc, take_at, drop-drop, drop_at, take_more, length-take-le, take_all}
use Rattle.wire.specs.Bytes.{word_bytes, words_bytes}

pub length_words_bytes : (ws : List ℕ) → length (words_bytes ws) ≡ 4 * length ws
unfolding words_bytes
length_words_bytes [] = refl
length_words_bytes (w ∷ ws) = omega (arith, length_words_bytes ws)

pub words_bytes_more : (ws : List ℕ) (w : ℕ) → words_bytes (ws ++ w ∷ []) ≡ words_bytes ws ++ word_bytes w
unfolding words_bytes
words_bytes_more [] w = refl
words_bytes_more (x ∷ ws) w = ap (λ bs. word_bytes x ++ bs) (words_bytes_more ws w)

-- the buffer e after the first i words of ws
abbrev pub front : List ℕ → List ℕ → ℕ → List ℕ
front ws e i = words_bytes (take i ws) ++ drop (4 * i) e

front_long : (ws : List ℕ) (i : ℕ) → i ≤ length ws → length (words_bytes (take i ws)) ≡ 4 * i
front_long ws i h = length_words_bytes (take i ws) ∙ ap (λ k. 4 * k) (length-take-le i ws h)

pub front_more : (ws e : List ℕ) (i : ℕ) → i < length ws →
    take (4 * i) (front ws e i) ++ (word_bytes (get_or ws i 0) ++ drop (4 * i + 4) (front ws e i)) ≡ front ws e (i + 1)
front_more ws e i h =
    let l = front_long ws i (omega arith) in
    let p = take_at (words_bytes (take i ws)) (drop (4 * i) e) (4 * i) l in
    let q : drop (4 * i + 4) (front ws e i) ≡ drop (4 * (i + 1)) e =
    sym (drop-drop 4 (4 * i) (front ws e i)) ∙
    (ap (drop 4) (drop_at (words_bytes (take i ws)) (drop (4 * i) e) (4 * i) l) ∙
    (drop-drop 4 (4 * i) e ∙ ap (λ k. drop k e) (omega arith))) in
    let r : words_bytes (take i ws) ++ word_bytes (get_or ws i 0) ≡ words_bytes (take (i + 1) ws) =
    sym (words_bytes_more (take i ws) (get_or ws i 0)) ∙ ap words_bytes (sym (take_more ws i 0 h)) in
    ap₂ (λ xs ys. xs ++ (word_bytes (get_or ws i 0) ++ ys)) p q ∙
    (sym (append_assoc (words_bytes (take i ws)) (word_bytes (get_or ws i 0)) (drop (4 * (i + 1)) e)) ∙
    ap (λ xs. xs ++ drop (4 * (i + 1)) e) r)

pub front_none : (ws e : List ℕ) → front ws e 0 ≡ e
unfolding words_bytes
front_none ws e = refl

pub front_all : (ws e : List ℕ) (n : ℕ) → n ≡ length ws → front ws e n ≡ words_bytes ws ++ drop (length (words_bytes ws)) e
front_all ws e n h =
    let l : 4 * n ≡ length (words_bytes ws) = omega (arith, length_words_bytes ws) in
    ap₂ (λ xs k. words_bytes xs ++ drop k e) (take_all n ws (omega arith)) l

-- what `put_words` keeps, from its start to its end
pub ruleset fronts = (length_words_bytes, front_none, front_more, front_all)
