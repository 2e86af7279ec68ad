-- A frame as words: its kind, its sender, its clock, and what its kind adds.
use Rattle.std.specs.Prelude.{ℕ, ◌+◌, Bool, true, false, ◌&&◌, List, [], ◌∷◌, nat_le, nat_lt}
use Rattle.frame.specs.Kinds.{kind_number}
use Rattle.frame.specs.Contents.{kind_of}
use Rattle.frame.specs.declared.Frame.{Frame}
use Rattle.frame.specs.declared.Content.{Content}
use Rattle.frame.specs.declared.Content.TheVariants.{Data, Up, Down, Ticket, Reassign, Clock}
use Rattle.frame.specs.declared.FrameKind.{FrameKind}
use Rattle.frame.specs.declared.FrameKind.TheVariants as kinds
use Rattle.wire.specs.Bytes.{words_bytes}

abbrev pub content_words : {B : Type 0} → (B → List ℕ) → Content B → List ℕ
content_words words (Data n q r b) = n.0 ∷ (q ∷ (r.0 ∷ words b))
content_words words (Up n q r) = n.0 ∷ (q ∷ (r.0 ∷ []))
content_words words (Down n q r) = n.0 ∷ (q ∷ (r.0 ∷ []))
content_words words (Ticket s n) = s ∷ (n.0 ∷ [])
content_words words (Reassign l c q r) = l.0 ∷ (c.0 ∷ (q ∷ (r.0 ∷ [])))
content_words words Clock = []

-- the words behind the kind
abbrev pub rest_words : {B : Type 0} → (B → List ℕ) → Frame B → List ℕ
rest_words words f = f.sender.value ∷ (f.payload.clock.0 ∷ content_words words f.payload.content)

abbrev pub frame_words : {B : Type 0} → (B → List ℕ) → Frame B → List ℕ
frame_words words f = kind_number (kind_of f.payload.content) ∷ rest_words words f

-- what is written of a frame
abbrev pub frame_bytes : {B : Type 0} → (B → List ℕ) → Frame B → List ℕ
frame_bytes words f = words_bytes (frame_words words f)

-- how many words follow the kind, where a body has n words
abbrev pub kind_count : ℕ → FrameKind → ℕ
kind_count n kinds.Data = 5 + n
kind_count n kinds.Up = 5
kind_count n kinds.Down = 5
kind_count n kinds.Ticket = 4
kind_count n kinds.Reassign = 6
kind_count n kinds.Clock = 2

abbrev pub none_allowed : List ℕ → ℕ → Bool
none_allowed before w = false

-- number, sequencer and role number of a message, then its body
abbrev pub assigned_allows : (List ℕ → ℕ → Bool) → List ℕ → ℕ → Bool
assigned_allows body [] w = nat_le 1 w
assigned_allows body (n ∷ []) w = nat_le w 7
assigned_allows body (n ∷ q ∷ []) w = true
assigned_allows body (n ∷ q ∷ r ∷ before) w = body before w

-- sender and number of a ticket's message
abbrev pub ticket_allows : List ℕ → ℕ → Bool
ticket_allows [] w = nat_le w 7
ticket_allows (s ∷ []) w = nat_le 1 w
ticket_allows (s ∷ n ∷ before) w = false

-- the last message passed on, the last one sent, sequencer and role number
abbrev pub reassign_allows : List ℕ → ℕ → Bool
reassign_allows [] w = true
reassign_allows (l ∷ []) w = nat_lt l w && nat_le w (l + 7)
reassign_allows (l ∷ c ∷ []) w = nat_le w 7
reassign_allows (l ∷ c ∷ q ∷ []) w = true
reassign_allows (l ∷ c ∷ q ∷ r ∷ before) w = false

abbrev pub content_allows : (List ℕ → ℕ → Bool) → FrameKind → List ℕ → ℕ → Bool
content_allows body kinds.Data before w = assigned_allows body before w
content_allows body kinds.Up before w = assigned_allows none_allowed before w
content_allows body kinds.Down before w = assigned_allows none_allowed before w
content_allows body kinds.Ticket before w = ticket_allows before w
content_allows body kinds.Reassign before w = reassign_allows before w
content_allows body kinds.Clock before w = false

-- a ticket's number is the clock, and is at least 1
abbrev pub clock_allowed : FrameKind → ℕ → Bool
clock_allowed kinds.Data w = true
clock_allowed kinds.Up w = true
clock_allowed kinds.Down w = true
clock_allowed kinds.Ticket w = nat_le 1 w
clock_allowed kinds.Reassign w = true
clock_allowed kinds.Clock w = true

-- whether a word is in range after those between it and the kind
abbrev pub kind_allows : (List ℕ → ℕ → Bool) → FrameKind → List ℕ → ℕ → Bool
kind_allows body kind [] w = nat_le w 7
kind_allows body kind (s ∷ []) w = clock_allowed kind w
kind_allows body kind (s ∷ k ∷ before) w = content_allows body kind before w
