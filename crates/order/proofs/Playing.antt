-- Calls that are all accepted, played one after the other.
use Rattle.std.specs.Prelude.{◌==◌}
use Rattle.std.proofs.Common.{◌≡◌, ℕ, ◌<◌, Bool, true, false, not, ◌||◌, List, [], ◌∷◌, ◌++◌, length, Some, None, refl, ap, ◌∙◌}
use Rattle.std.proofs.lemmas.Bool.{cond-true}
use Rattle.frame.specs.declared.Frame.{Frame}
use Rattle.transport.specs.Nets.{oldest, after_take}
use Rattle.roles.specs.declared.RecordKind.TheVariants.{Data}
use Rattle.table.specs.Desks.{desk, next_to_pass}
use Rattle.table.specs.declared.Heed.TheVariants.{Clocks}
use Rattle.table.proofs.Passings.{pass_stops}
use Rattle.printer.specs.Taking.{received, shelf_after, take_answer, taken}
use Rattle.printer.specs.Transmitting.{transmit_answer}
use Rattle.order.specs.Calls.{Call, send, raise, lower, change, transmit, take, stop, remove, Reply, done, replied, stepped, after}
use Rattle.order.specs.Examples.{played, answer, times}
use Rattle.order.specs.Leaving.{some_frame_waits, some_lacks_places}
use Rattle.order.specs.Refusals.{Outcome, accepted, past, told, is_accepted}
use Rattle.order.specs.Scenes.{Scene, is_stopped, list_of, shelf_of, desk_at, with_desk, with_net, stores_misfit}
use Rattle.order.specs.Steps.{no_printer, not_standing, make_told}
use Rattle.order.proofs.Fitting.{still_fits, desk_fits, list_length}

abbrev pub Body : Type 0
Body = Unit {0}

abbrev pub Room : Type 0
Room = Scene Body Body

-- what a call answers, by whether the stores misfit
abbrev pub answer_by : Bool → Room → Call Body → Outcome Reply
answer_by b s (send p x) =
    replied (λ u. done) (past p ((no_printer s p, 4) ∷ (not_standing s p, 5) ∷ (b, 6) ∷ []) (make_told s Data p))
answer_by b s (raise p) = answer s (raise p)
answer_by b s (lower p) = answer s (lower p)
answer_by b s (change p q) = answer s (change p q)
answer_by b s (transmit p) =
    replied (λ u. done) (past p ((no_printer s p, 4) ∷ (not_standing s p, 5) ∷ (b, 6) ∷ [])
    (told (transmit_answer s.size p (s.printer p) s.places s.net)))
answer_by b s (take p x) =
    replied (λ u. done) (past p ((no_printer s p || (no_printer s x || p == x), 4) ∷ (not_standing s p, 5) ∷ (b, 6) ∷ [])
    (told (take_answer p x (s.printer p) s.places s.net)))
answer_by b s (stop p) = answer s (stop p)
answer_by b s (remove m) =
    replied (λ u. done) (past m.printer (
    (b, 6)
    ∷ (m.spent, 20)
    ∷ (no_printer s m.printer || not (is_stopped (s.presence m.printer)), 21)
    ∷ (some_frame_waits s, 22)
    ∷ (some_lacks_places s, 23)
    ∷ []) (accepted (tt {0})))

answer_is : (s : Room) (c : Call Body) → answer s c ≡ answer_by (stores_misfit s) s c
answer_is s (send p x) = refl
answer_is s (raise p) = refl
answer_is s (lower p) = refl
answer_is s (change p q) = refl
answer_is s (transmit p) = refl
answer_is s (take p x) = refl
answer_is s (stop p) = refl
answer_is s (remove m) = refl

abbrev pub Fits : Room → Type 0
Fits s = stores_misfit s ≡ false

pub answer_fitting : (s : Room) (c : Call Body) → Fits s → answer s c ≡ answer_by false s c
answer_fitting s c e = answer_is s c ∙ ap (λ b. answer_by b s c) e

abbrev pub step : Room → Call Body → Room
step s c = stepped (λ b. b) s c

-- the scene after calls that are accepted
abbrev pub run : Room → List (Call Body) → Room
run s [] = s
run s (c ∷ rest) = run (step s c) rest

abbrev pub Accepts : Room → List (Call Body) → Type 0
Accepts s [] = Unit {0}
Accepts s (c ∷ rest) = (is_accepted (answer_by false s c) ≡ true) × Accepts (step s c) rest

pub run_fits : (s : Room) (calls : List (Call Body)) → Fits s → Fits (run s calls)
run_fits s [] e = e
run_fits s (c ∷ rest) e = run_fits (step s c) rest (still_fits (λ b. b) s c e)

step_taken : (s : Room) (c : Call Body) → Fits s → is_accepted (answer_by false s c) ≡ true → after (λ b. b) s c ≡ step s c
step_taken s c e a = cond-true (is_accepted (answer s c)) (step s c) s (ap is_accepted (answer_fitting s c e) ∙ a)

pub played_run : (s : Room) (calls : List (Call Body)) → Fits s → Accepts s calls → played s calls ≡ run s calls
played_run s [] e a = refl
played_run s (c ∷ rest) e a =
    ap (λ t. played t rest) (step_taken s c e a.0) ∙ played_run (step s c) rest (still_fits (λ b. b) s c e) a.1

pub played_append : (s : Room) (first then : List (Call Body)) → played s (first ++ then) ≡ played (played s first) then
played_append s [] then = refl
played_append s (c ∷ rest) then = played_append (after (λ b. b) s c) rest then

-- printer p takes this frame of x, and passes nothing on
module _ (p x : ℕ) where
  abbrev pub took : Room → Frame Body → Room
  took s f =
      with_net (with_desk s p (desk (received x f (s.printer p)) (list_of s p) (shelf_after (λ b. b) x f (shelf_of s p)))) (after_take s.net x p)

  pub record Quiet (s : Room) (f : Frame Body) : Type 0 where
    pub there : p < s.size
    pub accepts : is_accepted (answer_by false s (take p x)) ≡ true
    pub found : oldest s.net x p ≡ Some f
    pub stuck : next_to_pass Clocks s.size p (received x f (s.printer p)) s.places ≡ None

  pub took_quietly : (s : Room) (f : Frame Body) → Fits s → Quiet s f → after (λ b. b) s (take p x) ≡ took s f
  took_quietly s f e q =
      step_taken s (take p x) e q.accepts
      ∙ (ap (λ o. with_net (with_desk s p (taken (λ b. b) s.size (s.delay p) p x (desk_at s p) o)) (after_take s.net x p)) q.found
      ∙ ap (λ d. with_net (with_desk s p d) (after_take s.net x p))
      (pass_stops Clocks s.size (s.delay p) p (desk (received x f (s.printer p)) (list_of s p) (shelf_after (λ b. b) x f (shelf_of s p)))
      (ap (next_to_pass Clocks s.size p (received x f (s.printer p))) (list_length s p e q.there) ∙ q.stuck)))

  -- and so with one frame after the other
  abbrev pub took_all : Room → List (Frame Body) → Room
  took_all s [] = s
  took_all s (f ∷ rest) = took_all (took s f) rest

  abbrev pub AllQuiet : Room → List (Frame Body) → Type 0
  AllQuiet s [] = Unit {0}
  AllQuiet s (f ∷ rest) = Quiet s f × AllQuiet (took s f) rest

  took_fits : (s : Room) (f : Frame Body) → Fits s → Fits (took s f)
  took_fits s f e = desk_fits s p (desk (received x f (s.printer p)) (list_of s p) (shelf_after (λ b. b) x f (shelf_of s p))) e

  pub played_quietly : (s : Room) (frames : List (Frame Body)) → Fits s → AllQuiet s frames →
      (played s (times (length frames) (take p x)) ≡ took_all s frames) × Fits (took_all s frames)
  played_quietly s [] e q = (refl, e)
  played_quietly s (f ∷ rest) e q =
      let k = played_quietly (took s f) rest (took_fits s f e) q.1 in
      (ap (λ t. played t (times (length rest) (take p x))) (took_quietly s f e q.0) ∙ k.0, k.1)
