-- Configurations: who is active, passive or removed, and what each kind of record changes in that.
use Rattle.std.specs.Prelude.{ℕ, ◌+◌, Bool, true, false, cond, not, ◌&&◌, Some, None, Option, ◌==◌, nat_lt, slice_index_or}
use Rattle.frame.specs.declared.RoleNumber.{RoleNumber}
use Rattle.roles.specs.Functions.{put, any_below, highest}
use Rattle.roles.specs.declared.seats.Configuration.{Configuration}
use Rattle.roles.specs.declared.seats.Rank.{Rank}
use Rattle.roles.specs.declared.seats.Rank.TheVariants.{Removed, Active, Passive}
use Rattle.roles.specs.declared.seats.RecordKind.{RecordKind}
use Rattle.roles.specs.declared.seats.RecordKind.TheVariants.{Data, Up, Down, Gone}
use Rattle.roles.specs.declared.seats.Seat.{Seat}

-- what is said of a printer that there is not
abbrev pub no_seat : Seat
no_seat = record { rank = Removed; role = record { 0 = 0 } }

abbrev pub Conf : Type 0
Conf = ℕ → Seat

-- what a configuration says of each printer
abbrev pub conf_of : Configuration → Conf
conf_of c a = slice_index_or c.seats a no_seat

abbrev pub next_role : RoleNumber → RoleNumber
next_role r = record { 0 = r.0 + 1 }

abbrev pub acts : Rank → Bool
acts Removed = false
acts Active = true
acts Passive = false

abbrev pub remains : Rank → Bool
remains Removed = false
remains Active = true
remains Passive = true

abbrev pub is_active : Conf → ℕ → Bool
is_active c a = acts (c a).rank

-- a printer with its role number, as messages are assigned to it
abbrev pub own_pair : Conf → ℕ → ℕ × RoleNumber
own_pair c p = (p, (c p).role)

abbrev pub same_pair : ℕ × RoleNumber → ℕ × RoleNumber → Bool
same_pair s t = s.0 == t.0 && s.1.0 == t.1.0

-- the printer of a pair is active under its role number
abbrev pub serves : Conf → ℕ × RoleNumber → Bool
serves c s = is_active c s.0 && (c s.0).role.0 == s.1.0

-- all printers are active at first, under role number 0
abbrev pub opening_conf : Conf
opening_conf a = cond (nat_lt a 8) (record { rank = Active; role = record { 0 = 0 } }) no_seat

-- a passive printer becomes active; an up of any other changes nothing
abbrev pub raised : Rank → RoleNumber → Seat
raised Removed r = record { rank = Removed; role = r }
raised Active r = record { rank = Active; role = r }
raised Passive r = record { rank = Active; role = next_role r }

abbrev pub after_up : Conf → ℕ → Conf
after_up c x = put c x (raised (c x).rank (c x).role)

abbrev pub another_active : ℕ → Conf → ℕ → Bool
another_active n c x = any_below n (λ a. is_active c a && not (a == x))

-- a printer becomes passive if another is active
abbrev pub after_down : ℕ → Conf → ℕ → Conf
after_down n c x = put c x (cond (another_active n c x) (record { rank = Passive; role = next_role (c x).role }) (c x))

abbrev pub without : Conf → ℕ → Conf
without c x = put c x (record { rank = Removed; role = (c x).role })

-- a printer gets a rank, under its next role number
abbrev pub appointed : Conf → ℕ → Rank → Conf
appointed c x k = put c x (record { rank = k; role = next_role (c x).role })

abbrev pub promoted_by : Conf → Option ℕ → Conf
promoted_by c None = c
promoted_by c (Some h) = appointed c h Active

-- if none is active, the highest number that remains becomes active
abbrev pub promoted : ℕ → Conf → Conf
promoted n c = cond (any_below n (is_active c)) c (promoted_by c (highest n (λ a. remains (c a).rank)))

abbrev pub after_gone : ℕ → Conf → ℕ → Conf
after_gone n c x = promoted n (without c x)

-- the configuration after a record
abbrev pub changed : ℕ → Conf → RecordKind → ℕ → Conf
changed n c Data x = c
changed n c Up x = after_up c x
changed n c Down x = after_down n c x
changed n c Gone x = after_gone n c x
