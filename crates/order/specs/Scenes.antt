-- All that a call can read or change: the hall, its transport and the two stores.
use Rattle.std.specs.Prelude.{ℕ, zero, suc, ◌*◌, Bool, true, false, not, ◌&&◌, List, [], ◌∷◌, length, take, drop, ◌==◌, nat_lt}
use Rattle.transport.specs.Nets.{Net}
use Rattle.roles.specs.Functions.{put}
use Rattle.table.specs.Desks.{Desk, desk}
use Rattle.table.specs.Printers.{Printer}
use Rattle.table.specs.declared.Record.{Record}

-- a printer stands, is stopped, or is removed
pub data Presence : Type 0 where
  standing : Presence
  stopped : Presence
  removed : Presence

abbrev pub is_standing : Presence → Bool
is_standing standing = true
is_standing stopped = false
is_standing removed = false

abbrev pub is_stopped : Presence → Bool
is_stopped standing = false
is_stopped stopped = true
is_stopped removed = false

-- n printers, the places of a list, the delay from one printer to another, what each printer keeps, who stands, what the
-- transport means, and the lists and the shelf of all printers one after the other
pub record Scene (B R : Type 0) : Type 0 where
  pub size : ℕ
  pub places : ℕ
  pub delay : ℕ → ℕ → ℕ
  pub printer : ℕ → Printer
  pub presence : ℕ → Presence
  pub net : Net B
  pub lists : List (Record R)
  pub shelf : List R

-- the part of a store that begins at a place
abbrev pub part : {A : Type 0} → List A → ℕ → ℕ → List A
part store from many = take many (drop from store)

-- the store with a new part from that place on, as far as the store reaches
abbrev pub with_part : {A : Type 0} → List A → ℕ → List A → List A
with_part [] from new = []
with_part (a ∷ rest) (suc from) new = a ∷ with_part rest from new
with_part (a ∷ rest) zero [] = a ∷ rest
with_part (a ∷ rest) zero (b ∷ new) = b ∷ with_part rest zero new

module _ {B R : Type 0} (s : Scene B R) where
  abbrev pub stands : ℕ → Bool
  stands p = nat_lt p s.size && is_standing (s.presence p)

  -- the stores are not those of a hall of this size
  abbrev pub stores_misfit : Bool
  stores_misfit = not (length s.lists == s.size * s.places && length s.shelf == s.size * s.size * 8)

  abbrev pub list_of : ℕ → List (Record R)
  list_of p = part s.lists (p * s.places) s.places

  abbrev pub shelf_of : ℕ → List R
  shelf_of p = part s.shelf (p * (s.size * 8)) (s.size * 8)

  -- a printer with its parts of the two stores
  abbrev pub desk_at : ℕ → Desk R
  desk_at p = desk (s.printer p) (list_of p) (shelf_of p)

  abbrev pub with_printer : ℕ → Printer → Scene B R
  with_printer p r = record {
    size = s.size;
    places = s.places;
    delay = s.delay;
    printer = put s.printer p r;
    presence = s.presence;
    net = s.net;
    lists = s.lists;
    shelf = s.shelf;
  }

  abbrev pub with_list : ℕ → List (Record R) → Scene B R
  with_list p list = record {
    size = s.size;
    places = s.places;
    delay = s.delay;
    printer = s.printer;
    presence = s.presence;
    net = s.net;
    lists = with_part s.lists (p * s.places) list;
    shelf = s.shelf;
  }

  abbrev pub with_shelf : ℕ → List R → Scene B R
  with_shelf p shelf = record {
    size = s.size;
    places = s.places;
    delay = s.delay;
    printer = s.printer;
    presence = s.presence;
    net = s.net;
    lists = s.lists;
    shelf = with_part s.shelf (p * (s.size * 8)) shelf;
  }

  abbrev pub with_net : Net B → Scene B R
  with_net t = record {
    size = s.size;
    places = s.places;
    delay = s.delay;
    printer = s.printer;
    presence = s.presence;
    net = t;
    lists = s.lists;
    shelf = s.shelf;
  }

  abbrev pub with_presence : ℕ → Presence → Scene B R
  with_presence p x = record {
    size = s.size;
    places = s.places;
    delay = s.delay;
    printer = s.printer;
    presence = put s.presence p x;
    net = s.net;
    lists = s.lists;
    shelf = s.shelf;
  }

-- a printer and its parts of both stores
abbrev pub with_desk : {B R : Type 0} → Scene B R → ℕ → Desk R → Scene B R
with_desk s p d = with_shelf (with_list (with_printer s p d.printer) p d.list) p d.shelf
