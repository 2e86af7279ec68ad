-- What a line of a dump means: a body kind and the bytes of a block, or nothing.
use Rattle.std.specs.Prelude.{ℕ, cond, List, [], ◌∷◌, length, drop, Some, None, vec_items, codes, nat_eq, Option, ◌==◌}
use Rattle.std.specs.List.{starts_with}
use Rattle.std.specs.Option.{option_map}
use Rattle.dump.specs.declared.line.BodyKind.{BodyKind}
use Rattle.dump.specs.declared.line.BodyKind.TheVariants.{Change, Claim}
use Rattle.dump.specs.declared.line.Dump.{Dump}
use Rattle.dump.specs.Hex.{hex_block}
use Rattle.dump.specs.Trim.{space, trimmed}

-- what follows a name, where the text begins with it
abbrev pub after : List ℕ → List ℕ → Option (List ℕ)
after name cs = cond (starts_with nat_eq cs name) (Some (drop (length name) cs)) None

-- the block that follows the name of a kind: the empty block, or a space and the block in hex
abbrev pub block_after : List ℕ → Option (List ℕ)
block_after [] = Some []
block_after (c ∷ cs) = cond (c == space) (hex_block cs) None

abbrev pub of_kind : BodyKind → Option (List ℕ) → Option (BodyKind × List ℕ)
of_kind k block = option_map (λ bs. (k, bs)) block

-- by what follows `change` in a text, and by what follows `claim`
abbrev pub by_name : Option (List ℕ) → Option (List ℕ) → Option (BodyKind × List ℕ)
by_name (Some rest) other = of_kind Change (block_after rest)
by_name None (Some rest) = of_kind Claim (block_after rest)
by_name None None = None

abbrev pub text_means : List ℕ → Option (BodyKind × List ℕ)
text_means cs = by_name (after (codes "change") cs) (after (codes "claim") cs)

abbrev pub line_means : List ℕ → Option (BodyKind × List ℕ)
line_means cs = text_means (trimmed cs)

abbrev pub contents : Dump → BodyKind × List ℕ
contents d = (d.kind, vec_items d.block)
