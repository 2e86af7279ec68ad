-- Which held message is to get a ticket.
use Rattle.std.specs.Prelude.{ℕ, ◌+◌, ◌%◌, Bool, true, false, cond, not, ◌&&◌, Some, None, Option}
use Rattle.frame.specs.declared.MessageNumber.{MessageNumber}
use Rattle.frame.specs.declared.RoleNumber.{RoleNumber}
use Rattle.roles.specs.Configurations.{same_pair}
use Rattle.roles.specs.Functions.{any_below}
use Rattle.roles.specs.declared.RecordKind.{RecordKind}
use Rattle.roles.specs.declared.RecordKind.TheVariants.{Data, Up, Down, Gone}
use Rattle.backlog.specs.Firsts.{first_from}
use Rattle.backlog.specs.Holdings.{Holding, message_at}
use Rattle.backlog.specs.Tickets.{ticketed}

abbrev pub is_down : RecordKind → Bool
is_down Data = false
is_down Up = false
is_down Down = true
is_down Gone = false

-- message k of x is assigned to s and has no ticket
abbrev pub wants : ℕ → Holding → ℕ × RoleNumber → ℕ → ℕ → Bool
wants n h s x k = same_pair (message_at h x k).assigned s && not (ticketed n h x k)

-- such a message, with its sender
abbrev pub wanted_at : ℕ → Holding → ℕ × RoleNumber → ℕ → ℕ → Option (ℕ × MessageNumber)
wanted_at n h s x k = cond (wants n h s x k) (Some (x, record { 0 = k })) None

-- the lowest such message of x
abbrev pub wanted_of : ℕ → Holding → ℕ × RoleNumber → ℕ → Option (ℕ × MessageNumber)
wanted_of n h s x = first_from (h.messages x).count ((h.messages x).passed + 1) (wanted_at n h s x)

-- the first such message of the senders from, from + 1, .. in a circle
abbrev pub wanted : ℕ → Holding → ℕ × RoleNumber → ℕ → Option (ℕ × MessageNumber)
wanted n h s from = first_from n from (λ y. wanted_of n h s (y % n))

-- message k of x is a down that has a ticket
abbrev pub is_ticketed_down : ℕ → Holding → ℕ → ℕ → Bool
is_ticketed_down n h x k = is_down (message_at h x k).kind && ticketed n h x k

-- such a message of x is held
abbrev pub down_ticketed : ℕ → Holding → ℕ → Bool
down_ticketed n h x = any_below (h.messages x).count (λ i. is_ticketed_down n h x ((h.messages x).passed + 1 + i))
