-- What the definitions over issuers say of one issuer more.
use Rattle.std.proofs.Common.{◌≡◌, ℕ, zero, suc, ◌+◌, ◌%◌, ◌<◌, ◌≤◌, false, eqb, List, [], ◌∷◌, length, get_or, IfSome, Some, None, Option, sym, refl, ap, ◌∙◌, inl, inr, add-one, arith}
use Rattle.std.specs.List.{fold, range_with_len, zip}
use Rattle.std.proofs.lemmas.Bool.{cond_both, cases_eq, eqb-false}
use Rattle.roles.proofs.Functions.{put_same, put_other}
use Rattle.backlog.specs.Blanks.{no_row}
use Rattle.backlog.specs.Holdings.{Holding, Row, ticket_row, popped, pass_first}
use Rattle.backlog.specs.Tickets.{first_ticket, first_or, lesser, before, issued_by, tickets_held}
use Rattle.backlog.specs.declared.rows.Row as rows
use Rattle.backlog.specs.declared.rows.Stub.{Stub}
use Rattle.backlog.specs.declared.rows.Ticket.{Ticket}

pub first_ticket_more : (b : ℕ) (h : Holding) → first_ticket (b + 1) h ≡ first_or b (h.tickets b) (first_ticket b h)
unfolding first_ticket
first_ticket_more b h = rw add-one refl

-- the rows of the issuers from k on, one after the other
pub first_of_rows : (h : Holding) (xs : List (rows.Row Stub 16)) (k n : ℕ) → n ≤ length xs →
    ((i : ℕ) → i < n → ticket_row (get_or xs i (no_row 16)) ≡ h.tickets (k + i)) →
    fold (λ o (p : rows.Row Stub 16 × ℕ). first_or p.1 (ticket_row p.0) o) (first_ticket k h) (zip xs (range_with_len k n)) ≡ first_ticket (k + n) h
first_of_rows h [] k zero l same = ap (λ m. first_ticket m h) (omega arith)
first_of_rows h (x ∷ xs) k zero l same = ap (λ m. first_ticket m h) (omega arith)
first_of_rows h [] k (suc n) l same = absurd (omega arith)
first_of_rows h (x ∷ xs) k (suc n) l same =
    let row : ticket_row x ≡ h.tickets k = same 0 (omega arith) ∙ ap h.tickets (omega arith) in
    let one : first_or k (ticket_row x) (first_ticket k h) ≡ first_ticket (k + 1) h = ap (λ r. first_or k r (first_ticket k h)) row ∙ sym (first_ticket_more k h) in
    ap (λ o. fold (λ o (p : rows.Row Stub 16 × ℕ). first_or p.1 (ticket_row p.0) o) o (zip xs (range_with_len (k + 1) n))) one
    ∙ first_of_rows h xs (k + 1) n (omega arith) (λ i m. same (suc i) (omega arith) ∙ ap h.tickets (omega arith)) ∙ ap (λ m. first_ticket m h) (omega arith)

pub tickets_held_more : (b : ℕ) (h : Holding) → tickets_held (b + 1) h ≡ (h.tickets b).count + tickets_held b h
tickets_held_more b h = rw add-one refl

-- of the first held ticket: it is of one of the issuers, of which some ticket is held
abbrev pub There : ℕ → Holding → Option Ticket → Type 0
There n h o = IfSome o (λ t. (t.issuer < n) × (0 < (h.tickets t.issuer).count))

pub first_ticket_there : (n : ℕ) (h : Holding) → There n h (first_ticket n h)
unfolding first_ticket
first_ticket_there zero h = tt
first_ticket_there (suc b) h =
    cond_both (eqb (h.tickets b).count 0) (first_ticket b h) (lesser own (first_ticket b h)) (There (suc b) h)
    (λ _. weaker (first_ticket b h) (first_ticket_there b h)) (λ e. least e (first_ticket b h) (first_ticket_there b h))
  where
    own : Ticket
    own = issued_by b ((h.tickets b).slot ((h.tickets b).passed % 16))

    weaker : (o : Option Ticket) → There b h o → There (suc b) h o
    weaker None l = tt
    weaker (Some t) l = let m = l.0 in (omega arith, l.1)

    mine : eqb (h.tickets b).count 0 ≡ false → There (suc b) h (Some own)
    mine e = let f = eqb-false (h.tickets b).count 0 e in (omega arith, grind arith)

    least : eqb (h.tickets b).count 0 ≡ false → (o : Option Ticket) → There b h o → There (suc b) h (lesser own o)
    least e None l = mine e
    least e (Some t) l = cond_both (before own t) (Some own) (Some t) (There (suc b) h) (λ _. mine e) (λ _. weaker (Some t) l)

-- one ticket of an issuer passed on
pub tickets_held_pass : (n : ℕ) (h : Holding) (x b : ℕ) → b < n → 0 < (h.tickets b).count →
    tickets_held n (pass_first h x b) + 1 ≡ tickets_held n h
tickets_held_pass zero h x b l c = absurd (let z : b < 0 = l in omega arith)
tickets_held_pass (suc n) h x b l c = elim (cases_eq b n) [
  | inl e ↦ last e
  | inr e ↦ earlier e (tickets_held_pass n h x b (omega arith) c)
]
  where
    same : (m : ℕ) → m ≤ b → tickets_held m (pass_first h x b) ≡ tickets_held m h
    same zero k = refl
    same (suc m) k =
        let e : (m ≡ b → ⊥) = λ z. absurd (omega arith) in
        let o = ap (λ (r : Row Stub). r.count) (put_other h.tickets b (popped (h.tickets b)) m e) in
        let i = same m (omega arith) in
        omega arith

    last : b ≡ n → tickets_held (suc n) (pass_first h x b) + 1 ≡ tickets_held (suc n) h
    last e =
        let i = same n (omega arith) in
        let o = ap (λ (r : Row Stub). r.count) (put_same h.tickets b (popped (h.tickets b))) in
        let j = ap (λ (m : ℕ). ((pass_first h x b).tickets m).count) e in
        let k = ap (λ (m : ℕ). (h.tickets m).count) e in
        omega arith

    earlier : (b ≡ n → ⊥) → tickets_held n (pass_first h x b) + 1 ≡ tickets_held n h → tickets_held (suc n) (pass_first h x b) + 1 ≡ tickets_held (suc n) h
    earlier e i =
        let o = ap (λ (r : Row Stub). r.count) (put_other h.tickets b (popped (h.tickets b)) n (λ z. e (sym z))) in
        omega arith
