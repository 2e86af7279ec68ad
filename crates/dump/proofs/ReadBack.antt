-- Every block that is written as a line is read back.
use Rattle.std.proofs.Common.{◌≡◌, ℕ, ◌+◌, ◌*◌, ◌/◌, ◌%◌, ◌<◌, false, List, [], ◌∷◌, ◌++◌, Some, fold, sym, refl, ap, ◌∙◌, codes, div-add-mod', arith}
use Rattle.std.specs.Option.{option_map, option_and_then}
use Rattle.std.specs.List.{prefix_len, suffix_len, AllByRecursion}
use Rattle.std.proofs.lemmas.List.{append_assoc, append-nil, reverse-append, take_all}
use Rattle.std.proofs.lemmas.Bool.{cond-false}
use Rattle.std.proofs.lemmas.Bool.Decides.{nat_tests}
use Rattle.dump.specs.Trim.{blank, space, without_end}
use Rattle.dump.specs.Hex.{digit_value, with_char, digits_step, bytes_of, hex_block}
use Rattle.dump.specs.Lines.{of_kind, text_means}
use Rattle.dump.specs.Written.{digit_char, hex_of, ReadBack}
use Rattle.dump.specs.declared.line.BodyKind.TheVariants.{Change, Claim}

-- the two digits of each byte
abbrev nibbles : List ℕ → List ℕ
nibbles [] = []
nibbles (b ∷ bs) = b / 16 ∷ (b % 16 ∷ nibbles bs)

step_back : (ds : List ℕ) (d : ℕ) → d < 16 → digits_step (Some ds) (digit_char d) ≡ Some (ds ++ d ∷ [])
step_back ds d h =
    let read : digit_value (digit_char d) ≡ Some d = grind (arith, nat_tests) in
    ap (with_char ds (digit_char d)) read

digits_back : (ds bs : List ℕ) → AllByRecursion (λ b. b < 256) bs
    → fold digits_step (Some ds) (hex_of bs) ≡ Some (ds ++ nibbles bs)
digits_back ds [] a = ap (λ xs. Some xs) (sym (append-nil ds))
digits_back ds (b ∷ bs) (h, a) =
    ap (λ o. fold digits_step (digits_step o (digit_char (b % 16))) (hex_of bs)) (step_back ds (b / 16) (omega arith))
    ∙ ap (λ o. fold digits_step o (hex_of bs)) (step_back (ds ++ b / 16 ∷ []) (b % 16) (omega arith))
    ∙ digits_back ((ds ++ b / 16 ∷ []) ++ b % 16 ∷ []) bs a
    ∙ ap (λ xs. Some xs) (simp append_assoc)

bytes_back : (bs : List ℕ) → bytes_of (nibbles bs) ≡ Some bs
bytes_back [] = refl
bytes_back (b ∷ bs) =
    ap (option_map (λ more. (b / 16 * 16 + b % 16) ∷ more)) (bytes_back bs) ∙ ap (λ x. Some (x ∷ bs)) (div-add-mod' b 16)

hex_back : (bs : List ℕ) → AllByRecursion (λ b. b < 256) bs → hex_block (hex_of bs) ≡ Some bs
hex_back bs a = ap (option_and_then bytes_of) (digits_back [] bs a) ∙ bytes_back bs

digit_dark : (d : ℕ) → d < 16 → blank (digit_char d) ≡ false
digit_dark d h = grind (arith, nat_tests)

no_blank_at_end : (front : List ℕ) (b : ℕ) (bs : List ℕ) → AllByRecursion (λ x. x < 256) (b ∷ bs)
    → suffix_len blank (front ++ hex_of (b ∷ bs)) ≡ 0
no_blank_at_end front b [] (h, a) =
    ap (prefix_len blank) (reverse-append front (hex_of (b ∷ [])))
    ∙ cond-false (blank (digit_char (b % 16))) _ 0 (digit_dark (b % 16) (omega arith))
no_blank_at_end front b (x ∷ bs) (h, a) =
    ap (suffix_len blank) (sym (append_assoc front (hex_of (b ∷ [])) (hex_of (x ∷ bs))))
    ∙ no_blank_at_end (front ++ hex_of (b ∷ [])) x bs a

uncut : (front : List ℕ) (b : ℕ) (bs : List ℕ) → AllByRecursion (λ x. x < 256) (b ∷ bs)
    → without_end (front ++ hex_of (b ∷ bs)) ≡ front ++ hex_of (b ∷ bs)
uncut front b bs a =
    let e = no_blank_at_end front b bs a in
    take_all _ (front ++ hex_of (b ∷ bs)) (omega arith)

pub read_back : ReadBack
read_back Change [] a = refl
read_back Claim [] a = refl
read_back Change (b ∷ bs) a =
    ap text_means (uncut (codes "change" ++ space ∷ []) b bs a) ∙ ap (of_kind Change) (hex_back (b ∷ bs) a)
read_back Claim (b ∷ bs) a =
    ap text_means (uncut (codes "claim" ++ space ∷ []) b bs a) ∙ ap (of_kind Claim) (hex_back (b ∷ bs) a)
