-- What a backlog means: rows of held things as functions from their places.
use Rattle.std.specs.Prelude.{ℕ, ◌+◌, ◌-◌, ◌%◌, min, Bool, cond, ◌&&◌, nat_le, nat_lt, slice_index_or}
use Rattle.frame.specs.declared.RoleNumber.{RoleNumber}
use Rattle.roles.specs.Functions.{put}
use Rattle.backlog.specs.Blanks.{no_held, no_stub, no_row}
use Rattle.backlog.specs.declared.backlog.Backlog.{Backlog}
use Rattle.backlog.specs.declared.rows.Held.{Held}
use Rattle.backlog.specs.declared.rows.Row as rows
use Rattle.backlog.specs.declared.rows.Stub.{Stub}

-- things that follow each other: how many were passed on, how many are held, and what lies at each place
pub record Row (A : Type 0) : Type 0 where
  pub passed : ℕ
  pub count : ℕ
  pub slot : ℕ → A

-- the messages held of each sender, and the tickets held of each issuer
pub record Holding : Type 0 where
  pub messages : ℕ → Row Held
  pub tickets : ℕ → Row Stub

-- what a row means, where d stands beyond its last slot
abbrev pub row_of : {A : Type 0} {n : ℕ} → A → rows.Row A n → Row A
row_of d r = record { passed = r.passed; count = r.count; slot = λ i. slice_index_or r.slots i d }

abbrev pub message_row : rows.Row Held 8 → Row Held
message_row = row_of no_held

abbrev pub ticket_row : rows.Row Stub 16 → Row Stub
ticket_row = row_of no_stub

abbrev pub holding_of : Backlog → Holding
holding_of b = record {
  messages = λ x. message_row (slice_index_or b.messages x (no_row 8));
  tickets = λ i. ticket_row (slice_index_or b.tickets i (no_row 16));
}

abbrev pub nothing_in : {A : Type 0} → A → Row A
nothing_in d = record { passed = 0; count = 0; slot = λ i. d }

abbrev pub nothing_held : Holding
nothing_held = record { messages = λ x. nothing_in no_held; tickets = λ b. nothing_in no_stub }

module _ {A : Type 0} where
  -- one more held, at a place
  abbrev pub stored : Row A → ℕ → A → Row A
  stored r i a = record { passed = r.passed; count = r.count + 1; slot = put r.slot i a }

  -- the first held passed on
  abbrev pub popped : Row A → Row A
  popped r = record { passed = r.passed + 1; count = r.count - 1; slot = r.slot }

  -- none held any more
  abbrev pub dropped : Row A → Row A
  dropped r = record { passed = r.passed; count = 0; slot = r.slot }

abbrev pub with_messages : Holding → (ℕ → Row Held) → Holding
with_messages h m = record { messages = m; tickets = h.tickets }

abbrev pub with_tickets : Holding → (ℕ → Row Stub) → Holding
with_tickets h t = record { messages = h.messages; tickets = t }

-- one of the messages after l up to c
abbrev pub is_between : ℕ → ℕ → ℕ → Bool
is_between l c k = nat_lt l k && nat_le k c

-- message k of x is held
abbrev pub holds_message : Holding → ℕ → ℕ → Bool
holds_message h x k = is_between (h.messages x).passed ((h.messages x).passed + (h.messages x).count) k

abbrev pub message_at : Holding → ℕ → ℕ → Held
message_at h x k = (h.messages x).slot (k % 8)

abbrev pub hold_message : Holding → ℕ → ℕ → Held → Holding
hold_message h x k m = with_messages h (put h.messages x (stored (h.messages x) (k % 8) m))

abbrev pub hold_ticket : Holding → ℕ → Stub → Holding
hold_ticket h b s = with_tickets h (put h.tickets b (stored (h.tickets b) (((h.tickets b).passed + (h.tickets b).count) % 16) s))

-- message and ticket are passed on
abbrev pub pass_first : Holding → ℕ → ℕ → Holding
pass_first h x b = record {
  messages = put h.messages x (popped (h.messages x));
  tickets = put h.tickets b (popped (h.tickets b));
}

abbrev pub drop_messages : Holding → ℕ → Holding
drop_messages h x = with_messages h (put h.messages x (dropped (h.messages x)))

-- of the eight numbers after p the one that lies at place i
abbrev pub number_at : ℕ → ℕ → ℕ
number_at p i = p + 1 + (i + 8 - (p + 1) % 8) % 8

abbrev pub assign_to : ℕ × RoleNumber → Held → Held
assign_to s m = record { kind = m.kind; assigned = s }

-- the held messages after l up to c
abbrev pub reassigned_row : Row Held → ℕ → ℕ → ℕ × RoleNumber → Row Held
reassigned_row r l c s = record {
  passed = r.passed;
  count = r.count;
  slot = λ i. cond (nat_lt i 8 && is_between l (min c (r.passed + r.count)) (number_at r.passed i)) (assign_to s (r.slot i)) (r.slot i);
}

-- the held messages of x after l up to c get another sequencer
abbrev pub reassigned : Holding → ℕ → ℕ → ℕ → ℕ × RoleNumber → Holding
reassigned h x l c s = with_messages h (put h.messages x (reassigned_row (h.messages x) l c s))

-- all held messages of x get another sequencer
abbrev pub reassigned_all : Holding → ℕ → ℕ × RoleNumber → Holding
reassigned_all h x s = reassigned h x (h.messages x).passed ((h.messages x).passed + (h.messages x).count) s
