-- A frame from its words.
use Rattle.std.specs.Prelude.{ℕ, List, [], ◌∷◌, Some, None, Option}
use Rattle.frame.specs.Rows.{with_body, frame_with}
use Rattle.frame.specs.declared.Frame.{Frame}
use Rattle.frame.specs.declared.Content.{Content}
use Rattle.frame.specs.declared.Content.TheVariants.{Up, Down, Ticket, Reassign, Clock}
use Rattle.frame.specs.declared.FrameKind.{FrameKind}
use Rattle.frame.specs.declared.FrameKind.TheVariants as kinds

-- the first word, if there is one, and the rest
abbrev pub first : {A : Type 0} → List ℕ → (ℕ → List ℕ → Option A) → Option A
first [] f = None
first (w ∷ ws) f = f w ws

-- a value, if there are no words left
abbrev pub finally : {A : Type 0} → List ℕ → A → Option A
finally [] x = Some x
finally (w ∷ ws) x = None

abbrev pub content_rebuilt : {B : Type 0} → (List ℕ → Option B) → FrameKind → List ℕ → Option (Content B)
content_rebuilt rebuilt kinds.Data ws =
    first ws (λ n xs. first xs (λ q ys. first ys (λ r zs. with_body (record { 0 = n }) q (record { 0 = r }) (rebuilt zs))))
content_rebuilt rebuilt kinds.Up ws =
    first ws (λ n xs. first xs (λ q ys. first ys (λ r zs. finally zs (Up (record { 0 = n }) q (record { 0 = r })))))
content_rebuilt rebuilt kinds.Down ws =
    first ws (λ n xs. first xs (λ q ys. first ys (λ r zs. finally zs (Down (record { 0 = n }) q (record { 0 = r })))))
content_rebuilt rebuilt kinds.Ticket ws =
    first ws (λ s xs. first xs (λ n ys. finally ys (Ticket s (record { 0 = n }))))
content_rebuilt rebuilt kinds.Reassign ws =
    first ws (λ l vs. first vs (λ c xs. first xs (λ q ys. first ys (λ r zs.
    finally zs (Reassign (record { 0 = l }) (record { 0 = c }) q (record { 0 = r }))))))
content_rebuilt rebuilt kinds.Clock ws = finally ws Clock

abbrev pub frame_rebuilt : {B : Type 0} → (List ℕ → Option B) → FrameKind → List ℕ → Option (Frame B)
frame_rebuilt rebuilt kind ws =
    first ws (λ s xs. first xs (λ k ys. frame_with s (record { 0 = k }) (content_rebuilt rebuilt kind ys)))
