-- One record passed on, put together from its parts, and the bounds that it keeps.
use Rattle.std.proofs.Common.{◌≡◌, ℕ, ◌+◌, ◌<◌, ◌≤◌, true, ◌||◌, eqb, ltb, Some, None, Option, refl, ap, ◌∙◌, arith}
use Rattle.std.proofs.lemmas.Bool.{cond_both, and_parts, ltb-true}
use Rattle.std.proofs.lemmas.Bool.Decides.{nat_tests}
use Rattle.frame.specs.declared.RoleNumber.{RoleNumber}
use Rattle.roles.specs.Configurations.{Conf, changed, own_pair}
use Rattle.roles.specs.Functions.{put}
use Rattle.roles.specs.Nearest.{nearest, Nearest}
use Rattle.roles.proofs.Functions.{put_all}
use Rattle.roles.proofs.NearestLaws.{nearest_least}
use Rattle.roles.specs.declared.RecordKind.{RecordKind}
use Rattle.roles.specs.declared.RecordKind.TheVariants.{Data, Up, Down, Gone}
use Rattle.backlog.specs.Holdings.{Holding, Row, popped, pass_first}
use Rattle.backlog.specs.declared.Ticket.{Ticket}
use Rattle.table.specs.Passing.{passed_on, kind_held, duty_after, ruled, sequencer_after, unserved, pair_or}
use Rattle.table.specs.Printers.{Printer}
use Rattle.table.specs.declared.duty.Duty.{Duty}
use Rattle.table.specs.declared.duty.PrinterState.{PrinterState}
use Rattle.table.specs.declared.duty.PrinterState.TheVariants.{Active, Passive, Rising, Falling}
use Rattle.roles.proofs.RoleBounds.{changed_bound}
use Rattle.table.proofs.Paths.{printer_path}
use Rattle.table.proofs.Sound.{Sound}

module _ (n : ℕ) (delay : ℕ → ℕ) (me : ℕ) (p : Printer) (t : Ticket) where
  -- what each part became is what passing on says
  pub delivered : (kind : RecordKind) (c : Conf) (d e : Duty) (h : Holding) (undelivered m : ℕ) →
      kind ≡ kind_held p t → m ≡ n → c ≡ changed n p.conf kind t.sender → d ≡ duty_after me c kind t.sender p.duty →
      h ≡ pass_first p.holding t.sender t.issuer → undelivered ≡ (h.messages me).count → e ≡ ruled m delay me c undelivered d →
      record { clocks = p.clocks; duty = e; conf = c; holding = h; length = p.length + 1 } ≡ passed_on n delay me p t
  delivered kind c d e h undelivered m ek em ec ed eh eu ee =
      let c' = ec ∙ ap (λ k. changed n p.conf k t.sender) ek in
      let d' = ed ∙ (λ i. duty_after me (c' i) (ek i) t.sender p.duty) in
      let u' = eu ∙ ap (λ (g : Holding). (g.messages me).count) eh in
      printer_path _ _ refl (ee ∙ (λ i. ruled (em i) delay me (c' i) (u' i) (d' i))) c' eh refl

-- a sequencer is a printer of the hall
pub sequencer_own : (s : PrinterState) (k : RecordKind) (own q : ℕ × RoleNumber) → own.0 ≤ 7 → q.0 ≤ 7 → (sequencer_after s k own q).0 ≤ 7
sequencer_own s Data own q h l = l
sequencer_own Active Up own q h l = l
sequencer_own Passive Up own q h l = h
sequencer_own Rising Up own q h l = h
sequencer_own Falling Up own q h l = l
sequencer_own s Down own q h l = l
sequencer_own s Gone own q h l = l

pub sequencer_kept : (me : ℕ) (c : Conf) (k : RecordKind) (x : ℕ) (d : Duty) → me ≤ 7 → d.sequencer.0 ≤ 7 → (duty_after me c k x d).sequencer.0 ≤ 7
sequencer_kept me c k x d h l =
    cond_both (eqb x me) (sequencer_after d.state k (own_pair c me) d.sequencer) d.sequencer (λ (q : ℕ × RoleNumber). q.0 ≤ 7)
    (λ _. sequencer_own d.state k (own_pair c me) d.sequencer h l) (λ _. l)

pub sequencer_near : (n : ℕ) (delay : ℕ → ℕ) (me : ℕ) (c : Conf) (u : ℕ) (d : Duty) → n < 9 → d.sequencer.0 ≤ 7 →
    (ruled n delay me c u d).sequencer.0 ≤ 7
sequencer_near n delay me c u d h l =
    cond_both (unserved me c d) (pair_or c d.sequencer (nearest n c delay)) d.sequencer (λ (q : ℕ × RoleNumber). q.0 ≤ 7)
    (λ _. near (nearest n c delay) (nearest_least n c delay)) (λ _. l)
  where
    near : (o : Option ℕ) → Nearest n c delay o → (pair_or c d.sequencer o).0 ≤ 7
    near None f = l
    near (Some a) f = let b = f.0 in omega arith

-- who owes a reassignment has a message that is not delivered
pub owes_some : (n : ℕ) (delay : ℕ → ℕ) (me : ℕ) (c : Conf) (u : ℕ) (d : Duty) → (ruled n delay me c u d).owes ≡ true → 1 ≤ u
owes_some n delay me c u d e = ltb-true 0 u (and_parts (ltb 0 u) (d.owes || unserved me c d) e).0

-- rows of which one is passed on
pub passed_bound : {A : Type 0} (rows : ℕ → Row A) (x m : ℕ) → ((y : ℕ) → (rows y).passed ≤ m) → (y : ℕ) → (put rows x (popped (rows x)) y).passed ≤ m + 1
passed_bound rows x m h y =
    put_all (λ r. r.passed ≤ m + 1) rows x (popped (rows x)) (let b = h x in omega arith) (λ z. let b = h z in omega arith) y

pub count_bound : {A : Type 0} (rows : ℕ → Row A) (x y m : ℕ) → (rows y).count ≤ m → (put rows x (popped (rows x)) y).count ≤ m
count_bound rows x y m h = grind (arith, nat_tests)

-- one record more keeps the bounds
pub passed_sound : (n : ℕ) (delay : ℕ → ℕ) (me : ℕ) (p : Printer) (t : Ticket) → n < 9 → me ≤ 7 → p.length < 65536 → Sound me p →
    Sound me (passed_on n delay me p t)
passed_sound n delay me p t small few room s = record {
  length_ok = omega arith;
  sequencer_ok = sequencer_near n delay me c u d small (sequencer_kept me c kind t.sender p.duty few s.sequencer_ok);
  turn_ok = s.turn_ok;
  roles_ok = changed_bound n p.conf kind t.sender p.length s.roles_ok;
  messages_ok = passed_bound p.holding.messages t.sender p.length s.messages_ok;
  tickets_ok = passed_bound p.holding.tickets t.issuer p.length s.tickets_ok;
  own_ok = count_bound p.holding.messages t.sender me 7 s.own_ok;
  owes_ok = owes_some n delay me c u d;
}
  where
    kind : RecordKind
    kind = kind_held p t

    c : Conf
    c = changed n p.conf kind t.sender

    d : Duty
    d = duty_after me c kind t.sender p.duty

    u : ℕ
    u = ((pass_first p.holding t.sender t.issuer).messages me).count
