-- What a transport means, and what each call does to it.
use Rattle.std.specs.Prelude.{ℕ, zero, suc, ◌-◌, min, Bool, true, false, cond, not, ◌&&◌, ◌||◌, List, [], ◌∷◌, ◌++◌, length, drop, Some, None, Ok, Err, Option, Result, ◌==◌, nat_le, nat_lt}
use Rattle.frame.specs.declared.Frame.{Frame}
use Rattle.transport.specs.declared.faults.TransportFault.{TransportFault}
use Rattle.transport.specs.declared.faults.TransportRefusal.TheVariants.{PrinterCount, NoLimit, PostRefused}

-- How many printers there are, how many frames a pair may hold, which printers are open, and the frames that wait for
-- each ordered pair, sender first, the oldest frame first.
pub record Net (B : Type 0) : Type 0 where
  pub size : ℕ
  pub limit : ℕ
  pub opened : ℕ → Bool
  pub waiting : ℕ → ℕ → List (Frame B)

-- n printers, all open, and nothing waits
abbrev pub fresh : {B : Type 0} → ℕ → ℕ → Net B
fresh n limit = record { size = n; limit = limit; opened = λ j. nat_lt j n; waiting = λ i j. [] }

-- what the making of a transport of n printers answers, where the cells give this limit
abbrev pub making_answer : ℕ → ℕ → Result (Unit {0}) TransportFault
making_answer n limit =
    cond (nat_lt n 2 || nat_lt 8 n) (Err (record { refusal = PrinterCount; printer = 0 })) (
    cond (limit == 0) (Err (record { refusal = NoLimit; printer = 0 })) (Ok tt))

-- what a post by s answers, where it is accepted or not
abbrev pub post_judged : Bool → ℕ → Result (Unit {0}) TransportFault
post_judged accepted s = cond accepted (Ok tt) (Err (record { refusal = PostRefused; printer = s }))

-- a test that holds of each number below n
abbrev pub all_below : ℕ → (ℕ → Bool) → Bool
all_below zero p = true
all_below (suc n) p = p n && all_below n p

-- the least of a number and of what f gives below n
abbrev pub least_below : ℕ → (ℕ → ℕ) → ℕ → ℕ
least_below zero f most = most
least_below (suc n) f most = min (f n) (least_below n f most)

abbrev pub first : {A : Type 0} → List A → Option A
first [] = None
first (x ∷ xs) = Some x

abbrev pub rest : {A : Type 0} → List A → List A
rest [] = []
rest (x ∷ xs) = xs

module _ {B : Type 0} (t : Net B) where
  abbrev pub has : ℕ → Bool
  has p = nat_lt p t.size

  abbrev pub is_open : ℕ → Bool
  is_open p = has p && t.opened p

  -- whether printer j is to get what s posts
  abbrev pub hears : ℕ → ℕ → Bool
  hears s j = is_open j && not (j == s)

  abbrev pub is_full : ℕ → ℕ → Bool
  is_full s j = nat_le t.limit (length (t.waiting s j))

  -- whether a post by s is accepted: it is refused if one of the pairs that it would lengthen is full
  abbrev pub accepts : ℕ → Bool
  accepts s = has s && all_below t.size (λ j. not (hears s j && is_full s j))

  abbrev pub post_answer : ℕ → Result (Unit {0}) TransportFault
  post_answer s = post_judged (accepts s) s

  -- a frame at the end of the pairs from its sender to every other open printer, if its sender may post
  abbrev pub after_post : Frame B → Net B
  after_post f = record {
    size = t.size;
    limit = t.limit;
    opened = t.opened;
    waiting = λ i j. cond (i == f.sender.value && (accepts i && hears i j)) (t.waiting i j ++ f ∷ []) (t.waiting i j);
  }

  -- the frames that wait for a pair of the printers that there are
  abbrev pub queue : ℕ → ℕ → List (Frame B)
  queue s d = cond (has s && has d) (t.waiting s d) []

  abbrev pub oldest : ℕ → ℕ → Option (Frame B)
  oldest s d = first (queue s d)

  -- the oldest frame of a pair removed, if there is one
  abbrev pub after_take : ℕ → ℕ → Net B
  after_take s d = record {
    size = t.size;
    limit = t.limit;
    opened = t.opened;
    waiting = λ i j. cond ((i == s && j == d) && (has i && has j)) (rest (t.waiting i j)) (t.waiting i j);
  }

  -- a printer closed, and the pairs to it emptied
  abbrev pub after_close : ℕ → Net B
  after_close p = record {
    size = t.size;
    limit = t.limit;
    opened = λ j. cond (j == p && has j) false (t.opened j);
    waiting = λ i j. cond (j == p && has j) [] (t.waiting i j);
  }

  -- how many more frames a pair that hears may get
  abbrev pub room : ℕ → ℕ → ℕ
  room s j = cond (hears s j) (t.limit - length (t.waiting s j)) t.limit

  -- how many posts s could make in a row, at most the limit
  abbrev pub most_posts : ℕ → ℕ
  most_posts s = cond (has s) (least_below t.size (room s) t.limit) 0

  -- so many of the oldest frames of a pair removed
  abbrev pub after_takes : ℕ → ℕ → ℕ → Net B
  after_takes s d k = record {
    size = t.size;
    limit = t.limit;
    opened = t.opened;
    waiting = λ i j. cond ((i == s && j == d) && (has i && has j)) (drop k (t.waiting i j)) (t.waiting i j);
  }
