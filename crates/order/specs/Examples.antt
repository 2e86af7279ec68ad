-- Eight worked examples, computed from opening on.
use Rattle.std.specs.Prelude.{◌≡◌, ℕ, ◌*◌, false, List, [], ◌∷◌, ◌++◌, replicate, Some, None, Option}
use Rattle.transport.specs.Nets.{fresh}
use Rattle.transport.specs.declared.Layer.TheVariants as layers
use Rattle.roles.specs.declared.Rank.TheVariants as rank
use Rattle.roles.specs.declared.RecordKind.{RecordKind}
use Rattle.roles.specs.declared.RecordKind.TheVariants.{Up, Down}
use Rattle.table.specs.declared.Record.{Record}
use Rattle.order.specs.Calls.{Call, send, lower, transmit, take, stop, remove, Reply, done, outcome, after}
use Rattle.order.specs.Opening.{opened}
use Rattle.order.specs.Questions.{length_outcome, record_at, configuration_outcome}
use Rattle.order.specs.Refusals.{Outcome, accepted, refused}
use Rattle.order.specs.Scenes.{Scene}

abbrev Body : Type 0
Body = Unit {0}

abbrev Room : Type 0
Room = Scene Body Body

-- stores may hold anything at first
abbrev anything : Record Body
anything = record { kind = Up; printer = 5; number = record { 0 = 9 }; body = tt }

-- n printers with lists of so many places, pairs that hold 32 frames, and all clocks at the start
abbrev pub hall : ℕ → ℕ → ℕ → Room
hall n places start = opened n places start (λ p q. 0) (fresh n 32) (replicate (n * places) anything) (replicate (n * n * 8) tt)

-- the scene after these calls
abbrev pub played : Room → List (Call Body) → Room
played s [] = s
played s (c ∷ rest) = played (after (λ b. b) s c) rest

abbrev pub answer : Room → Call Body → Outcome Reply
answer s c = outcome (λ b. b) s c

abbrev pub times : ℕ → Call Body → List (Call Body)
times n c = replicate n c

abbrev pub whose : Option (Record Body) → Option ℕ
whose None = None
whose (Some r) = Some r.printer

abbrev pub what : Option (Record Body) → Option RecordKind
what None = None
what (Some r) = Some r.kind

-- the refusal of a printer's own
abbrev pub refusal : ℕ → ℕ → Outcome Reply
refusal number p = refused (record { number = number; printer = p; layer = layers.Printer })

-- printers 0 and 2 ticket under the same number, and printer 1 takes from 2 first
abbrev pub same_number : Room
same_number = played (hall 3 2 4) (send 0 tt ∷ transmit 0 ∷ send 2 tt ∷ transmit 2 ∷ take 1 2 ∷ take 1 2 ∷ take 1 0 ∷ take 1 0 ∷ [])

-- of two printers only 0 is active any more
abbrev pub zero_alone : Room
zero_alone = played (hall 2 3 0) (lower 1 ∷ transmit 1 ∷ take 0 1 ∷ take 0 1 ∷ [])

-- printer 1 has sent as many as it can: each time that the clocks of 0 and 2 let it deliver one, it sends one more;
-- printer 2 has taken seven messages of 1 and a ticket, but hears nothing of 0 and can deliver nothing
abbrev pub far_ahead : Room
far_ahead = played (hall 3 3 0) (
    times 7 (send 1 tt) ++ (transmit 1 ∷ times 8 (take 0 1))
    ++ (transmit 0 ∷ take 1 0 ∷ send 1 tt ∷ transmit 1 ∷ take 0 1 ∷ take 0 1 ∷ transmit 0 ∷ take 1 0 ∷ [])
    ++ times 8 (take 2 1) ++ (transmit 2 ∷ take 1 2 ∷ send 1 tt ∷ []))

-- of three printers only 0 is active any more, and nothing waits
abbrev pub one_of_three : Room
one_of_three = played (hall 3 4 0) (
    lower 1 ∷ transmit 1 ∷ take 0 1 ∷ take 0 1 ∷ take 2 1 ∷ take 2 1 ∷ transmit 0 ∷ take 1 0 ∷ take 2 0
    ∷ lower 2 ∷ transmit 2 ∷ take 0 2 ∷ take 0 2 ∷ take 1 2 ∷ take 1 2 ∷ transmit 0 ∷ take 1 0 ∷ take 2 0 ∷ [])

abbrev pub zero_removed : Room
zero_removed = played one_of_three (stop 0 ∷ remove (record { printer = 0; spent = false }) ∷ [])

pub record Examples : Type 0 where
  -- two printers, send and transmit by 0: its list has one record
  pub first_delivers : length_outcome (played (hall 2 2 0) (send 0 tt ∷ transmit 0 ∷ [])) 0 ≡ accepted 1
  -- the same by 1: its list stays empty
  pub second_waits : length_outcome (played (hall 2 2 0) (send 1 tt ∷ transmit 1 ∷ [])) 1 ≡ accepted 0
  -- two tickets with number 5, of issuers 2 and 0: issuer 0's comes first
  pub by_issuer : (whose (record_at same_number 1 1) ≡ Some 0) × (whose (record_at same_number 1 2) ≡ Some 2)
  -- a down of the only active printer is recorded; it is still active, under the same role number
  pub last_active :
      (what (record_at (played zero_alone (lower 0 ∷ transmit 0 ∷ [])) 0 2) ≡ Some Down)
      × (configuration_outcome zero_alone 0 0 ≡ accepted (record { rank = rank.Active; role = record { 0 = 0 } }))
      × (configuration_outcome (played zero_alone (lower 0 ∷ transmit 0 ∷ [])) 0 0 ≡ accepted (record { rank = rank.Active; role = record { 0 = 0 } }))
  -- with six own messages undelivered a send is accepted, with seven it is refused
  pub seven_own :
      (answer (played (hall 2 2 0) (times 6 (send 1 tt))) (send 1 tt) ≡ accepted done) × (answer (played (hall 2 2 0) (times 7 (send 1 tt))) (send 1 tt) ≡ refusal 10 1)
  -- with seven messages of a sender held its next is taken, with eight it is refused
  pub eight_held :
      (answer far_ahead (take 2 1) ≡ accepted done) × (answer (played far_ahead (times 2 (take 2 1))) (take 2 1) ≡ refusal 18 2)
  -- three printers, only 0 active, 0 removed: 2 is active
  pub promotes_highest :
      (configuration_outcome zero_removed 1 2 ≡ accepted (record { rank = rank.Active; role = record { 0 = 2 } }))
      × (configuration_outcome zero_removed 2 2 ≡ accepted (record { rank = rank.Active; role = record { 0 = 2 } }))
  -- with the clock at 4,294,967,294 and two sent there is one ticket, and then a refusal
  pub clock_ends :
      (answer (played (hall 2 3 4294967294) (send 0 tt ∷ send 0 tt ∷ [])) (transmit 0) ≡ accepted done)
      × (answer (played (hall 2 3 4294967294) (send 0 tt ∷ send 0 tt ∷ transmit 0 ∷ [])) (transmit 0) ≡ refusal 15 0)
