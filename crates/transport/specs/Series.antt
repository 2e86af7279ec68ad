-- Posts one after the other.
use Rattle.std.specs.Prelude.{◌≡◌, ℕ, ◌≤◌, Bool, true, ◌&&◌, List, [], ◌∷◌, length, ◌==◌}
use Rattle.frame.specs.declared.Frame.{Frame}
use Rattle.transport.specs.Nets.{Net, accepts, after_post}

-- whether all of these frames are sent by s and would be accepted, posted one after the other
abbrev pub all_sent_by : {B : Type 0} → ℕ → List (Frame B) → Bool
all_sent_by s [] = true
all_sent_by s (f ∷ fs) = f.sender.value == s && all_sent_by s fs

abbrev pub all_accepted : {B : Type 0} → Net B → List (Frame B) → Bool
all_accepted t [] = true
all_accepted t (f ∷ fs) = accepts t f.sender.value && all_accepted (after_post t f) fs

-- so many posts by s, and fewer, would be accepted one after the other
abbrev pub AcceptsSeries : {B : Type 0} → Net B → ℕ → ℕ → Type 0
AcceptsSeries {B} t s count = (fs : List (Frame B)) → all_sent_by s fs ≡ true → length fs ≤ count → all_accepted t fs ≡ true
