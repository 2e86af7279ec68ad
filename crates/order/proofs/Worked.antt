-- The worked examples: computed.
use Rattle.std.proofs.Common.{◌≡◌, ℕ, false, List, [], ◌∷◌, ◌++◌, Some, refl, ap, ◌∙◌, lit<}
use Rattle.frame.specs.declared.Content.TheVariants as contents
use Rattle.frame.specs.declared.Frame.{Frame}
use Rattle.roles.specs.declared.Rank.TheVariants as rank
use Rattle.roles.specs.declared.RecordKind.TheVariants.{Down}
use Rattle.backlog.specs.Firsts.{first_from}
use Rattle.backlog.specs.Tickets.{first_ticket}
use Rattle.table.specs.Desks.{passing}
use Rattle.printer.specs.Posts.{frame_from}
use Rattle.order.specs.Calls.{Call, send, lower, transmit, take, stop, remove, done}
use Rattle.order.specs.Examples.{Examples, hall, played, answer, times, whose, what, refusal, same_number, zero_alone, far_ahead, zero_removed}
use Rattle.order.specs.Questions.{record_at, configuration_outcome, length_outcome}
use Rattle.order.specs.Refusals.{accepted}
use Rattle.order.proofs.Playing.{Body, Room, answer_by, Fits, answer_fitting, run, Accepts, run_fits, played_run, played_append, took_all, AllQuiet, played_quietly}

abbrev Calls : Type 0
Calls = List (Call Body)

first_delivers : length_outcome (played (hall 2 2 0) (send 0 tt ∷ transmit 0 ∷ [])) 0 ≡ accepted 1
unfolding passing first_from first_ticket
first_delivers = refl

second_waits : length_outcome (played (hall 2 2 0) (send 1 tt ∷ transmit 1 ∷ [])) 1 ≡ accepted 0
unfolding passing first_from first_ticket
second_waits = refl

abbrev two_tickets : Calls
two_tickets = send 0 tt ∷ transmit 0 ∷ send 2 tt ∷ transmit 2 ∷ take 1 2 ∷ take 1 2 ∷ take 1 0 ∷ take 1 0 ∷ []

two_tickets_accepted : Accepts (hall 3 2 4) two_tickets
unfolding passing first_from first_ticket
two_tickets_accepted = (refl, (refl, (refl, (refl, (refl, (refl, (refl, (refl, tt))))))))

same_number_is : same_number ≡ run (hall 3 2 4) two_tickets
same_number_is = played_run (hall 3 2 4) two_tickets refl two_tickets_accepted

zero_first : whose (record_at (run (hall 3 2 4) two_tickets) 1 1) ≡ Some 0
unfolding passing first_from first_ticket
zero_first = refl

two_second : whose (record_at (run (hall 3 2 4) two_tickets) 1 2) ≡ Some 2
unfolding passing first_from first_ticket
two_second = refl

by_issuer : (whose (record_at same_number 1 1) ≡ Some 0) × (whose (record_at same_number 1 2) ≡ Some 2)
by_issuer = (ap (λ s. whose (record_at s 1 1)) same_number_is ∙ zero_first, ap (λ s. whose (record_at s 1 2)) same_number_is ∙ two_second)

down_recorded : what (record_at (played zero_alone (lower 0 ∷ transmit 0 ∷ [])) 0 2) ≡ Some Down
unfolding passing first_from first_ticket
down_recorded = refl

active_before : configuration_outcome zero_alone 0 0 ≡ accepted (record { rank = rank.Active; role = record { 0 = 0 } })
unfolding passing first_from first_ticket
active_before = refl

active_after : configuration_outcome (played zero_alone (lower 0 ∷ transmit 0 ∷ [])) 0 0 ≡ accepted (record { rank = rank.Active; role = record { 0 = 0 } })
unfolding passing first_from first_ticket
active_after = refl

last_active :
    (what (record_at (played zero_alone (lower 0 ∷ transmit 0 ∷ [])) 0 2) ≡ Some Down)
    × (configuration_outcome zero_alone 0 0 ≡ accepted (record { rank = rank.Active; role = record { 0 = 0 } }))
    × (configuration_outcome (played zero_alone (lower 0 ∷ transmit 0 ∷ [])) 0 0 ≡ accepted (record { rank = rank.Active; role = record { 0 = 0 } }))
last_active = (down_recorded, active_before, active_after)

six_undelivered : answer (played (hall 2 2 0) (times 6 (send 1 tt))) (send 1 tt) ≡ accepted done
unfolding passing first_from first_ticket
six_undelivered = refl

seven_undelivered : answer (played (hall 2 2 0) (times 7 (send 1 tt))) (send 1 tt) ≡ refusal 10 1
unfolding passing first_from first_ticket
seven_undelivered = refl

seven_own :
    (answer (played (hall 2 2 0) (times 6 (send 1 tt))) (send 1 tt) ≡ accepted done) × (answer (played (hall 2 2 0) (times 7 (send 1 tt))) (send 1 tt) ≡ refusal 10 1)
seven_own = (six_undelivered, seven_undelivered)

-- printer 1 sends seven, and printer 0 takes them
abbrev seven_sent : Calls
seven_sent = times 7 (send 1 tt) ++ (transmit 1 ∷ times 8 (take 0 1))

-- 0 tells its clock, 1 delivers one and sends its eighth, and 0 tells its clock again
abbrev eight_sent : Calls
eight_sent = transmit 0 ∷ take 1 0 ∷ send 1 tt ∷ transmit 1 ∷ take 0 1 ∷ take 0 1 ∷ transmit 0 ∷ take 1 0 ∷ []

-- 2 tells its clock, and 1 sends its ninth
abbrev nine_sent : Calls
nine_sent = transmit 2 ∷ take 1 2 ∷ send 1 tt ∷ []

-- a message of printer 1, under its clock, and a ticket of it
abbrev message : ℕ → ℕ → Frame Body
message clock k = frame_from 1 (record { 0 = clock }) (contents.Data (record { 0 = k }) 1 (record { 0 = 0 }) tt)

abbrev ticket : ℕ → ℕ → Frame Body
ticket number k = frame_from 1 (record { 0 = number }) (contents.Ticket 1 (record { 0 = k }))

-- what printer 2 takes: seven messages and the ticket of the first
abbrev taken_by_two : List (Frame Body)
taken_by_two =
    message 0 1 ∷ message 0 2 ∷ message 0 3 ∷ message 0 4 ∷ message 0 5 ∷ message 0 6 ∷ message 0 7 ∷ ticket 1 1 ∷ []

-- and later the eighth, and the ticket of the second
abbrev taken_later : List (Frame Body)
taken_later = message 1 8 ∷ ticket 2 2 ∷ []

abbrev after_seven : Room
after_seven = run (hall 3 3 0) seven_sent

abbrev after_eight : Room
after_eight = run after_seven eight_sent

abbrev after_taking : Room
after_taking = took_all 2 1 after_eight taken_by_two

abbrev after_nine : Room
after_nine = run after_taking nine_sent

seven_accepted : Accepts (hall 3 3 0) seven_sent
unfolding passing first_from first_ticket
seven_accepted = (refl, (refl, (refl, (refl, (refl, (refl, (refl, (refl, (refl, (refl, (refl, (refl, (refl, (refl, (refl, (refl, tt))))))))))))))))

eight_accepted : Accepts after_seven eight_sent
unfolding passing first_from first_ticket
eight_accepted = (refl, (refl, (refl, (refl, (refl, (refl, (refl, (refl, tt))))))))

all_quiet : AllQuiet 2 1 after_eight taken_by_two
unfolding passing first_from first_ticket
all_quiet = (record { there = lit< tt; accepts = refl; found = refl; stuck = refl }, (record { there = lit< tt; accepts = refl; found = refl; stuck = refl }, (record { there = lit< tt; accepts = refl; found = refl; stuck = refl }, (record { there = lit< tt; accepts = refl; found = refl; stuck = refl }, (record { there = lit< tt; accepts = refl; found = refl; stuck = refl }, (record { there = lit< tt; accepts = refl; found = refl; stuck = refl }, (record { there = lit< tt; accepts = refl; found = refl; stuck = refl }, (record { there = lit< tt; accepts = refl; found = refl; stuck = refl }, tt))))))))

nine_accepted : Accepts after_taking nine_sent
unfolding passing first_from first_ticket
nine_accepted = (refl, (refl, (refl, tt)))

seven_fits : Fits after_seven
seven_fits = run_fits (hall 3 3 0) seven_sent refl

eight_fits : Fits after_eight
eight_fits = run_fits after_seven eight_sent seven_fits

taking_played : (played after_eight (times 8 (take 2 1)) ≡ after_taking) × Fits after_taking
taking_played = played_quietly 2 1 after_eight taken_by_two eight_fits all_quiet

nine_fits : Fits after_nine
nine_fits = run_fits after_taking nine_sent taking_played.1

far_ahead_is : far_ahead ≡ after_nine
far_ahead_is =
    played_append (hall 3 3 0) (seven_sent ++ eight_sent ++ times 8 (take 2 1)) nine_sent
    ∙ (ap (λ s. played s nine_sent) (
    played_append (hall 3 3 0) (seven_sent ++ eight_sent) (times 8 (take 2 1))
    ∙ (ap (λ s. played s (times 8 (take 2 1))) (
    played_append (hall 3 3 0) seven_sent eight_sent
    ∙ (ap (λ s. played s eight_sent) (played_run (hall 3 3 0) seven_sent refl seven_accepted)
    ∙ played_run after_seven eight_sent seven_fits eight_accepted))
    ∙ taking_played.0))
    ∙ played_run after_taking nine_sent taking_played.1 nine_accepted)

seven_held : answer_by false after_nine (take 2 1) ≡ accepted done
unfolding passing first_from first_ticket
seven_held = refl

abbrev after_later : Room
after_later = took_all 2 1 after_nine taken_later

later_quiet : AllQuiet 2 1 after_nine taken_later
unfolding passing first_from first_ticket
later_quiet = (record { there = lit< tt; accepts = refl; found = refl; stuck = refl }, (record { there = lit< tt; accepts = refl; found = refl; stuck = refl }, tt))

later_played : (played after_nine (times 2 (take 2 1)) ≡ after_later) × Fits after_later
later_played = played_quietly 2 1 after_nine taken_later nine_fits later_quiet

eight_full : answer_by false after_later (take 2 1) ≡ refusal 18 2
unfolding passing first_from first_ticket
eight_full = refl

eight_held : (answer far_ahead (take 2 1) ≡ accepted done) × (answer (played far_ahead (times 2 (take 2 1))) (take 2 1) ≡ refusal 18 2)
eight_held = (
  ap (λ s. answer s (take 2 1)) far_ahead_is ∙ (answer_fitting after_nine (take 2 1) nine_fits ∙ seven_held),
  ap (λ s. answer (played s (times 2 (take 2 1))) (take 2 1)) far_ahead_is
      ∙ (ap (λ s. answer s (take 2 1)) later_played.0 ∙ (answer_fitting after_later (take 2 1) later_played.1 ∙ eight_full)),
)

-- of three printers 1 lowers itself, and 2
abbrev one_lowered : Calls
one_lowered = lower 1 ∷ transmit 1 ∷ take 0 1 ∷ take 0 1 ∷ take 2 1 ∷ take 2 1 ∷ transmit 0 ∷ take 1 0 ∷ take 2 0 ∷ []

abbrev two_lowered : Calls
two_lowered = lower 2 ∷ transmit 2 ∷ take 0 2 ∷ take 0 2 ∷ take 1 2 ∷ take 1 2 ∷ transmit 0 ∷ take 1 0 ∷ take 2 0 ∷ []

abbrev zero_leaves : Calls
zero_leaves = stop 0 ∷ remove (record { printer = 0; spent = false }) ∷ []

abbrev after_one : Room
after_one = run (hall 3 4 0) one_lowered

abbrev after_both : Room
after_both = run after_one two_lowered

abbrev after_zero : Room
after_zero = run after_both zero_leaves

one_accepted : Accepts (hall 3 4 0) one_lowered
unfolding passing first_from first_ticket
one_accepted = (refl, (refl, (refl, (refl, (refl, (refl, (refl, (refl, (refl, tt)))))))))

both_accepted : Accepts after_one two_lowered
unfolding passing first_from first_ticket
both_accepted = (refl, (refl, (refl, (refl, (refl, (refl, (refl, (refl, (refl, tt)))))))))

zero_accepted : Accepts after_both zero_leaves
unfolding passing first_from first_ticket
zero_accepted = (refl, (refl, tt))

one_fits : Fits after_one
one_fits = run_fits (hall 3 4 0) one_lowered refl

both_fits : Fits after_both
both_fits = run_fits after_one two_lowered one_fits

zero_removed_is : zero_removed ≡ after_zero
zero_removed_is =
    ap (λ s. played s zero_leaves) (
    played_append (hall 3 4 0) one_lowered two_lowered
    ∙ (ap (λ s. played s two_lowered) (played_run (hall 3 4 0) one_lowered refl one_accepted)
    ∙ played_run after_one two_lowered one_fits both_accepted))
    ∙ played_run after_both zero_leaves both_fits zero_accepted

highest_by_one : configuration_outcome after_zero 1 2 ≡ accepted (record { rank = rank.Active; role = record { 0 = 2 } })
unfolding passing first_from first_ticket
highest_by_one = refl

highest_by_two : configuration_outcome after_zero 2 2 ≡ accepted (record { rank = rank.Active; role = record { 0 = 2 } })
unfolding passing first_from first_ticket
highest_by_two = refl

promotes_highest :
    (configuration_outcome zero_removed 1 2 ≡ accepted (record { rank = rank.Active; role = record { 0 = 2 } }))
    × (configuration_outcome zero_removed 2 2 ≡ accepted (record { rank = rank.Active; role = record { 0 = 2 } }))
promotes_highest = (
  ap (λ s. configuration_outcome s 1 2) zero_removed_is ∙ highest_by_one,
  ap (λ s. configuration_outcome s 2 2) zero_removed_is ∙ highest_by_two,
)

one_ticket : answer (played (hall 2 3 4294967294) (send 0 tt ∷ send 0 tt ∷ [])) (transmit 0) ≡ accepted done
unfolding passing first_from first_ticket
one_ticket = refl

clock_spent : answer (played (hall 2 3 4294967294) (send 0 tt ∷ send 0 tt ∷ transmit 0 ∷ [])) (transmit 0) ≡ refusal 15 0
unfolding passing first_from first_ticket
clock_spent = refl

pub examples : Examples
examples = record {
  first_delivers = first_delivers;
  second_waits = second_waits;
  by_issuer = by_issuer;
  last_active = last_active;
  seven_own = seven_own;
  eight_held = eight_held;
  promotes_highest = promotes_highest;
  clock_ends = (one_ticket, clock_spent);
}
