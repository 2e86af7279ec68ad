-- One word more, with its comma.
use Rattle.std.proofs.Common.{◌≡◌, ℕ, ◌+◌, ◌-◌, ◌<◌, ◌≤◌, List, [], ◌∷◌, ◌++◌, length, get_or, take, drop, codes, sym, ap, ◌∙◌, arith}
use Rattle.std.specs.List.{flat_map}
use Rattle.std.proofs.lemmas.List.{flat_map_more, take_more, get_or-drop, length-drop, take_all}
use Rattle.frame.specs.Texts.{led}

abbrev pub comma : List ℕ
comma = codes ","

pub commas_more : (t ws : List ℕ) (i : ℕ) → 1 ≤ i → i < length ws →
    (t ++ flat_map (led comma) (take (i - 1) (drop 1 ws))) ++ led comma (get_or ws i 0) ≡ t ++ flat_map (led comma) (take (i + 1 - 1) (drop 1 ws))
commas_more t ws i h l =
    let e : get_or (drop 1 ws) (i - 1) 0 ≡ get_or ws i 0 = get_or-drop 1 ws (i - 1) 0 ∙ ap (λ k. get_or ws k 0) (omega arith) in
    let n : i - 1 < length (drop 1 ws) = omega (arith, length-drop 1 ws) in
    let m = take_more (drop 1 ws) (i - 1) 0 n in
    let k : i - 1 + 1 ≡ i + 1 - 1 = omega arith in
    flat_map_more (led comma) t (take (i - 1) (drop 1 ws)) (get_or ws i 0) ∙
    (ap (λ w. t ++ flat_map (led comma) (take (i - 1) (drop 1 ws) ++ w ∷ [])) (sym e) ∙
    (ap (λ xs. t ++ flat_map (led comma) xs) (sym m) ∙ ap (λ j. t ++ flat_map (led comma) (take j (drop 1 ws))) k))

pub commas_all : (ws : List ℕ) (i : ℕ) → length ws ≤ i → take (i - 1) (drop 1 ws) ≡ drop 1 ws
commas_all ws i l = take_all (i - 1) (drop 1 ws) (omega (arith, length-drop 1 ws))
