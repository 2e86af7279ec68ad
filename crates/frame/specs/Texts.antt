-- A frame as a line of text.
use Rattle.std.specs.Prelude.{ℕ, List, [], ◌++◌, drop, codes, decimal, slice_index}
use Rattle.std.specs.List.{flat_map}
use Rattle.frame.specs.Contents.{kind_of}
use Rattle.frame.specs.declared.counters.MessageNumber.{MessageNumber}
use Rattle.frame.specs.declared.counters.RoleNumber.{RoleNumber}
use Rattle.frame.specs.declared.content.Content.{Content}
use Rattle.frame.specs.declared.content.Content.TheVariants.{Data, Up, Down, Ticket, Reassign, Clock}
use Rattle.frame.specs.declared.frame.Frame.{Frame}
use Rattle.frame.specs.declared.frame_kind.FrameKind.{FrameKind}
use Rattle.frame.specs.declared.frame_kind.FrameKind.TheVariants as kinds

abbrev pub kind_name : FrameKind → List ℕ
kind_name kinds.Data = codes "data"
kind_name kinds.Up = codes "up"
kind_name kinds.Down = codes "down"
kind_name kinds.Ticket = codes "ticket"
kind_name kinds.Reassign = codes "reassign"
kind_name kinds.Clock = codes "clock"

-- what every line begins with
abbrev pub head_text : List ℕ → ℕ → ℕ → List ℕ
head_text name sender clock = name ++ (codes " sender=" ++ (decimal sender ++ (codes " clock=" ++ decimal clock)))

abbrev pub message_text : MessageNumber → ℕ → RoleNumber → List ℕ
message_text n q r = codes " number=" ++ (decimal n.0 ++ (codes " sequencer=" ++ (decimal q ++ (codes " role=" ++ decimal r.0))))

abbrev pub ticket_text : ℕ → MessageNumber → List ℕ
ticket_text s n = codes " of=" ++ (decimal s ++ (codes " number=" ++ decimal n.0))

abbrev pub reassign_text : MessageNumber → MessageNumber → ℕ → RoleNumber → List ℕ
reassign_text l c q r =
    codes " last=" ++ (decimal l.0 ++ (codes " sent=" ++ (decimal c.0 ++
    (codes " sequencer=" ++ (decimal q ++ (codes " role=" ++ decimal r.0))))))

abbrev pub led : List ℕ → ℕ → List ℕ
led lead w = lead ++ decimal w

-- a body's words with commas between them
abbrev pub body_text : List ℕ → List ℕ
body_text ws = led (codes " body=") (slice_index ws 0) ++ flat_map (led (codes ",")) (drop 1 ws)

abbrev pub content_text : {B : Type 0} → (B → List ℕ) → Content B → List ℕ
content_text words (Data n q r b) = message_text n q r ++ body_text (words b)
content_text words (Up n q r) = message_text n q r
content_text words (Down n q r) = message_text n q r
content_text words (Ticket s n) = ticket_text s n
content_text words (Reassign l c q r) = reassign_text l c q r
content_text words Clock = []

abbrev pub frame_text : {B : Type 0} → (B → List ℕ) → Frame B → List ℕ
frame_text words f =
    head_text (kind_name (kind_of f.payload.content)) f.sender.value f.payload.clock.0 ++ content_text words f.payload.content
