-- Rows that hold nothing.
use Rattle.std.proofs.Common.{◌≡◌, ℕ, zero, suc, get_or, replicate, refl, ap, ◌∙◌}
use mathlib.Core.Path.{fun_ext}
use Rattle.backlog.specs.Blanks.{no_held, no_stub, no_row}
use Rattle.backlog.specs.Holdings.{message_row, ticket_row, holding_of, nothing_in, nothing_held}
use Rattle.backlog.specs.declared.rows.Held.{Held}
use Rattle.backlog.specs.declared.rows.Row as rows
use Rattle.backlog.specs.declared.rows.Stub.{Stub}

-- what f gives of each of n equal things, and of what stands beyond them
pub alike : {A C : Type 0} (f : A → C) (n : ℕ) (a d : A) (c : C) → f a ≡ c → f d ≡ c → (i : ℕ) → f (get_or (replicate n a) i d) ≡ c
alike f zero a d c p q i = q
alike f (suc n) a d c p q zero = p
alike f (suc n) a d c p q (suc i) = alike f n a d c p q i

-- a row of no tickets, written out
pub blank_tickets : (r : rows.Row Stub 16) → r.passed ≡ 0 → r.count ≡ 0 → r.slots ≡ replicate 16 no_stub → ticket_row r ≡ nothing_in no_stub
blank_tickets r p c s = λ k. record {
  passed = p k;
  count = c k;
  slot = fun_ext (λ i. ap (λ xs. get_or xs i no_stub) s ∙ alike (λ t. t) 16 no_stub no_stub no_stub refl refl i) k;
}

-- all rows alike, and each with nothing
pub nothing_in_rows : (m : rows.Row Held 8) (t : rows.Row Stub 16) → message_row m ≡ nothing_in no_held → ticket_row t ≡ nothing_in no_stub →
    holding_of (record { messages = replicate 8 m; tickets = replicate 8 t }) ≡ nothing_held
nothing_in_rows m t p q =
    let a = fun_ext (alike message_row 8 m (no_row 8) (nothing_in no_held) p refl) in
    let b = fun_ext (alike ticket_row 8 t (no_row 16) (nothing_in no_stub) q refl) in
    λ k. record { messages = a k; tickets = b k }
