-- Calls with any arguments: what each answers, and the scene after it, which is the same scene if it is refused.
use Rattle.std.specs.Prelude.{ℕ, cond}
use Rattle.roles.specs.declared.RecordKind.TheVariants.{Up, Down}
use Rattle.order.specs.Leaving.{Notice, stop_outcome, after_stop, remove_outcome, after_remove}
use Rattle.order.specs.Refusals.{Outcome, accepted, refused, is_accepted}
use Rattle.order.specs.Scenes.{Scene}
use Rattle.order.specs.Steps.{send_outcome, switch_outcome, change_outcome, transmit_outcome, take_outcome, after_send, after_raise, after_lower, after_change, after_transmits, after_takes}

pub data Call (B : Type 0) : Type 0 where
  send : ℕ → B → Call B
  raise : ℕ → Call B
  lower : ℕ → Call B
  change : ℕ → ℕ → Call B
  transmit : ℕ → Call B
  take : ℕ → ℕ → Call B
  stop : ℕ → Call B
  remove : Notice → Call B

-- an accepted call answers nothing, but for a stop, which answers its notice
pub data Reply : Type 0 where
  done : Reply
  notice : Notice → Reply

abbrev pub replied : {A : Type 0} → (A → Reply) → Outcome A → Outcome Reply
replied f (accepted a) = accepted (f a)
replied f (refused r) = refused r

module _ {B R : Type 0} (row : B → R) (s : Scene B R) where
  abbrev pub outcome : Call B → Outcome Reply
  outcome (send p b) = replied (λ u. done) (send_outcome s p)
  outcome (raise p) = replied (λ u. done) (switch_outcome s Up p)
  outcome (lower p) = replied (λ u. done) (switch_outcome s Down p)
  outcome (change p q) = replied (λ u. done) (change_outcome s p q)
  outcome (transmit p) = replied (λ u. done) (transmit_outcome s p)
  outcome (take p x) = replied (λ u. done) (take_outcome s p x)
  outcome (stop p) = replied notice (stop_outcome s p)
  outcome (remove m) = replied (λ u. done) (remove_outcome s m)

  -- the scene after a call that is accepted
  abbrev pub stepped : Call B → Scene B R
  stepped (send p b) = after_send s row p b
  stepped (raise p) = after_raise s p
  stepped (lower p) = after_lower s p
  stepped (change p q) = after_change s p q
  stepped (transmit p) = after_transmits s p
  stepped (take p x) = after_takes s row p x
  stepped (stop p) = after_stop s p
  stepped (remove m) = after_remove s m.printer

  abbrev pub after : Call B → Scene B R
  after c = cond (is_accepted (outcome c)) (stepped c) s
