-- What is read of bytes is the frame that they were written of.
use Rattle.std.proofs.Common.{◌≡◌, ℕ, suc, ◌+◌, ◌/◌, ◌%◌, ◌<◌, ◌≤◌, Bool, true, cond, leb, List, [], ◌∷◌, ◌++◌, length, take, drop, IfOk, Some, None, Ok, Err, Option, Result, sym, refl, ap, ◌∙◌, subst, ap₂, arith}
use Rattle.std.specs.Option.{IsSome}
use Rattle.std.proofs.lemmas.List.{get_or-drop, take_at}
use Rattle.std.proofs.lemmas.Bool.Decides.{nat_tests}
use Rattle.body.specs.Words.{in_order}
use Rattle.body.specs.declared.WireFault.{WireFault}
use Rattle.frame.specs.Kinds.{kind_named, kind_number}
use Rattle.frame.specs.Contents.{kind_of}
use Rattle.frame.specs.declared.Frame.{Frame}
use Rattle.frame.specs.declared.FrameKind.{FrameKind}
use Rattle.frame.specs.declared.FrameKind.TheVariants as kinds
use Rattle.wire.specs.Bytes.{word_of, word_at, word_bytes, words_bytes}
use Rattle.wire.specs.Layout.{kind_count, kind_allows, rest_words, frame_words, frame_bytes}
use Rattle.wire.specs.Rebuilt.{frame_rebuilt}
use Rattle.wire.specs.Reading.{words_on, words_read, words_by_kind, behind_kind, Reads, ReadsBack}
use Rattle.wire.specs.Filling.{RestReads}
use Rattle.wire.proofs.WordBytes.{Bytes, bytes_again, four_small}
use Rattle.wire.proofs.Scans.{scan_read, scan_written}
use Rattle.wire.proofs.FrameWords.{frame_ranged, frame_long, frame_rebuilds, frame_spelled}

pub bytes_drop : (n : ℕ) (bs : List ℕ) → Bytes bs → Bytes (drop n bs)
bytes_drop n bs small i = subst (λ x. x < 256) (sym (get_or-drop n bs i 0)) (small (n + i))

some_same : {A : Type 0} {x y : A} → Some x ≡ Some y → x ≡ y
some_same e = cc

pub kind_named_number : (k : FrameKind) → kind_named (kind_number k) ≡ Some k
kind_named_number kinds.Data = refl
kind_named_number kinds.Up = refl
kind_named_number kinds.Down = refl
kind_named_number kinds.Ticket = refl
kind_named_number kinds.Reassign = refl
kind_named_number kinds.Clock = refl

pub kind_number_named : (w : ℕ) (k : FrameKind) → kind_named w ≡ Some k → kind_number k ≡ w
kind_number_named w k e = grind (arith, nat_tests)

-- what was found at the front
pub word_found : (bs : List ℕ) (w : ℕ) → Some w ≡ cond (leb 4 (length bs)) (Some (word_at bs 0)) None → (4 ≤ length bs) × (w ≡ word_at bs 0)
word_found bs w e = (grind (arith, nat_tests), grind (arith, nat_tests))

-- a kind's number is a word
kind_word : (k : FrameKind) →
    word_of (kind_number k / 16777216 % 256) (kind_number k / 65536 % 256) (kind_number k / 256 % 256) (kind_number k % 256) ≡ kind_number k
kind_word kinds.Data = refl
kind_word kinds.Up = refl
kind_word kinds.Down = refl
kind_word kinds.Ticket = refl
kind_word kinds.Reassign = refl
kind_word kinds.Clock = refl

module _ {B : Type 0} (words : B → List ℕ) (allows : List ℕ → ℕ → Bool) (count : ℕ) (rebuilt : List ℕ → Option B)
    (counted : (b : B) → length (words b) ≡ count)
    (ranged : (b : B) → in_order allows [] (words b) ≡ true)
    (written : (ws : List ℕ) → length ws ≡ count → in_order allows [] ws ≡ true → (b : B) × (words b ≡ ws))
    (rebuilding : (b : B) → rebuilt (words b) ≡ Some b) where
  -- words that were read make a frame
  pub rest_made : (kind : FrameKind) (bs ws : List ℕ) (o : Option (Frame B)) → Bytes bs →
      words_on (kind_allows allows kind) (kind_count count kind) [] (drop 4 bs) ≡ Ok ws → o ≡ frame_rebuilt rebuilt kind ws →
      (f : Frame B) × (o ≡ Some f) × RestReads words allows count kind bs (Ok f)
  rest_made kind bs ws o small e q =
      let m = scan_read (kind_allows allows kind) (kind_count count kind) (drop 4 bs) [] ws (bytes_drop 4 bs small) e in
      let t = frame_spelled words allows count written kind m.vs m.ranged (omega (arith, m.long)) in
      let p : ws ≡ rest_words words t.0 = m.all ∙ sym t.2 in
      let r = ap₂ (λ k xs. frame_rebuilt rebuilt k xs) (sym t.1) p ∙ frame_rebuilds words allows count rebuilt rebuilding t.0 in
      (t.0, q ∙ r, (t.1, e ∙ ap Ok p))

  -- there is one
  pub rest_there : (kind : FrameKind) (bs ws : List ℕ) (o : Option (Frame B)) → Bytes bs →
      words_on (kind_allows allows kind) (kind_count count kind) [] (drop 4 bs) ≡ Ok ws → o ≡ frame_rebuilt rebuilt kind ws → IsSome o
  rest_there kind bs ws o small e q =
      subst IsSome (sym (rest_made kind bs ws o small e q).1) refl

  pub rest_read : (kind : FrameKind) (bs ws : List ℕ) (o : Option (Frame B)) → Bytes bs →
      words_on (kind_allows allows kind) (kind_count count kind) [] (drop 4 bs) ≡ Ok ws → o ≡ frame_rebuilt rebuilt kind ws →
      (f : Frame B) → o ≡ Some f → RestReads words allows count kind bs (Ok f)
  rest_read kind bs ws o small e q f r =
      let m = rest_made kind bs ws o small e q in
      subst (λ x. RestReads words allows count kind bs (Ok x)) (some_same (sym m.1 ∙ r)) m.2

  by_first : (bs : List ℕ) → 4 ≤ length bs →
      words_read allows count bs ≡ words_by_kind allows count (kind_named (word_at bs 0)) (drop 4 bs)
  by_first [] l = absurd (omega arith)
  by_first (a ∷ []) l = absurd (omega arith)
  by_first (a ∷ b ∷ []) l = absurd (omega arith)
  by_first (a ∷ b ∷ c ∷ []) l = absurd (omega arith)
  by_first (a ∷ b ∷ c ∷ d ∷ bs) l = refl

  -- a frame's kind and the rest of it make the frame
  pub reads_rest : (bs : List ℕ) (kind : FrameKind) → 4 ≤ length bs → kind_named (word_at bs 0) ≡ Some kind →
      (r : Result (Frame B) WireFault) → RestReads words allows count kind bs r → Reads words allows count bs r
  reads_rest bs kind l e (Ok f) h =
      by_first bs l ∙
      (ap (λ k. words_by_kind allows count k (drop 4 bs)) e ∙
      (ap (behind_kind kind) h.1 ∙ ap (λ k. Ok (kind_number k ∷ rest_words words f)) (sym h.0)))
  reads_rest bs kind l e (Err x) h =
      by_first bs l ∙ (ap (λ k. words_by_kind allows count k (drop 4 bs)) e ∙ ap (behind_kind kind) h)

  -- what reads as some words is what is written of them
  rest_exact : (a b c d : ℕ) (bs ws : List ℕ) (kind : FrameKind) → Bytes (a ∷ b ∷ c ∷ d ∷ bs) →
      kind_number kind ≡ word_of a b c d → (r : Result (List ℕ) WireFault) →
      words_on (kind_allows allows kind) (kind_count count kind) [] bs ≡ r → behind_kind kind r ≡ Ok ws →
      a ∷ b ∷ c ∷ d ∷ bs ≡ words_bytes ws
  unfolding words_bytes
  rest_exact a b c d bs ws kind small n (Ok vs) e h =
      let m = scan_read (kind_allows allows kind) (kind_count count kind) bs [] vs (λ i. small (suc (suc (suc (suc i))))) e in
      let q : kind_number kind ∷ vs ≡ ws = cc in
      let t = ap word_bytes n ∙ bytes_again a b c d (four_small a b c d bs small) in
      grind arith
  rest_exact a b c d bs ws kind small n (Err x) e h = grind arith

  kind_exact : (a b c d : ℕ) (bs ws : List ℕ) → Bytes (a ∷ b ∷ c ∷ d ∷ bs) → (o : Option FrameKind) → kind_named (word_of a b c d) ≡ o →
      words_by_kind allows count o bs ≡ Ok ws → a ∷ b ∷ c ∷ d ∷ bs ≡ words_bytes ws
  kind_exact a b c d bs ws small (Some kind) e h =
      rest_exact a b c d bs ws kind small (kind_number_named (word_of a b c d) kind e)
      (words_on (kind_allows allows kind) (kind_count count kind) [] bs) refl h
  kind_exact a b c d bs ws small None e h = grind arith

  pub words_exact : (bs ws : List ℕ) → Bytes bs → words_read allows count bs ≡ Ok ws → bs ≡ words_bytes ws
  words_exact [] ws small h = grind arith
  words_exact (a ∷ []) ws small h = grind arith
  words_exact (a ∷ b ∷ []) ws small h = grind arith
  words_exact (a ∷ b ∷ c ∷ []) ws small h = grind arith
  words_exact (a ∷ b ∷ c ∷ d ∷ bs) ws small h = kind_exact a b c d bs ws small (kind_named (word_of a b c d)) refl h

  pub reads_exact : (bs : List ℕ) → Bytes bs → (r : Result (Frame B) WireFault) → Reads words allows count bs r →
      IfOk r (λ f. bs ≡ frame_bytes words f)
  reads_exact bs small (Ok f) h = words_exact bs (frame_words words f) small h
  reads_exact bs small (Err x) h = tt

  -- what is written of a frame gives the frame's words again
  pub words_again : (f : Frame B) → words_read allows count (frame_bytes words f) ≡ Ok (frame_words words f)
  unfolding words_bytes
  words_again f =
      let kind = kind_of f.payload.content in
      let e = scan_written (kind_allows allows kind) (kind_count count kind) (rest_words words f) []
      (frame_ranged words allows count ranged f) (omega (arith, frame_long words allows count counted f)) in
      ap (λ k. words_by_kind allows count (kind_named k) (words_bytes (rest_words words f))) (kind_word kind) ∙
      (ap (λ k. words_by_kind allows count k (words_bytes (rest_words words f))) (kind_named_number kind) ∙
      ap (behind_kind kind) e)

  -- frames with the same words are the same
  pub same_words : (f g : Frame B) → frame_words words f ≡ frame_words words g → f ≡ g
  same_words f g e =
      let p : kind_number (kind_of f.payload.content) ≡ kind_number (kind_of g.payload.content) = cc in
      let q : rest_words words f ≡ rest_words words g = cc in
      let k = some_same (sym (kind_named_number (kind_of f.payload.content)) ∙ (ap kind_named p ∙ kind_named_number (kind_of g.payload.content))) in
      some_same (sym (frame_rebuilds words allows count rebuilt rebuilding f) ∙
      (ap₂ (λ x xs. frame_rebuilt rebuilt x xs) k q ∙ frame_rebuilds words allows count rebuilt rebuilding g))

  -- whatever reading answers to what is written of a frame, it is that frame
  pub reads_back : (f : Frame B) (r : Result (Frame B) WireFault) → Reads words allows count (frame_bytes words f) r → r ≡ Ok f
  reads_back f (Ok g) h =
      let a = words_again f in
      let e : frame_words words g ≡ frame_words words f = grind arith in
      ap Ok (same_words g f e)
  reads_back f (Err x) h = absurd (let a = words_again f in let z : ◌≡◌ {A = ℕ} 0 1 = cc in omega arith)

  -- what stands at the front of a buffer after writing
  pub write_back : (f : Frame B) (after more : List ℕ) (n : ℕ) → after ≡ frame_bytes words f ++ more →
      n ≡ length (frame_bytes words f) → ReadsBack words allows count (take n after) f
  write_back f after more n e l r h =
      let front : take n after ≡ frame_bytes words f = ap (take n) e ∙ take_at (frame_bytes words f) more n (sym l) in
      reads_back f r (subst (λ bs. Reads words allows count bs r) front h)
