-- Widths and cells of the kinds of units: 0 adder, 1 multiplier, 2 register.
use Rattle.std.specs.Prelude.{◌≡◌, ℕ, ◌*◌, ◌<◌, Bool, true, cond, ◌&&◌, List, ◌++◌, Ok, Err, codes, decimal, Result, ◌==◌, nat_le}
use Rattle.widths.specs.declared.Sides.{Sides}
use Rattle.widths.specs.declared.UnitKind.{UnitKind}
use Rattle.widths.specs.declared.UnitKind.TheVariants.{Adder, Multiplier, Register}
use Rattle.widths.specs.declared.UnknownKind.{UnknownKind}

-- the number of a kind
abbrev pub code_of : UnitKind → ℕ
code_of Adder = 0
code_of Multiplier = 1
code_of Register = 2

-- the kind as it is written
abbrev pub name_of : UnitKind → List ℕ
name_of Adder = codes "adder"
name_of Multiplier = codes "multiplier"
name_of Register = codes "register"

-- a number of no kind, as it is told
abbrev pub unknown_text : UnknownKind → List ℕ
unknown_text u = codes "no kind of unit has number " ++ decimal u.0

-- a number is that of a kind, or of none
abbrev pub Decodes : ℕ → Result UnitKind UnknownKind → Type 0
Decodes n (Ok k) = n ≡ code_of k
Decodes n (Err u) = (2 < n) × (u.0 ≡ n)

-- a width or a cell with these sides; the second is 0 where the kind has one side
abbrev pub sides_of : ℕ → ℕ → Sides
sides_of p q = record { p = p; q = q }

-- w covers v: none of its sides is smaller
unfoldable pub covers : Sides → Sides → Bool
covers w v = nat_le v.p w.p && nat_le v.q w.q

-- the cell c lies under the width w: none of its sides is larger
abbrev pub lies_under : Sides → Sides → Bool
lies_under c w = covers w c

-- the largest first side of a kind; 0 where there is no such kind
abbrev pub widest : ℕ → ℕ
widest k = cond (k == 2) 64 (cond (nat_le k 1) 40 0)

-- how many second sides the cells of a kind have
abbrev pub deepest : ℕ → ℕ
deepest k = cond (k == 1) 24 1

-- p is the first side of some width of the kind
abbrev pub first_side : ℕ → ℕ → Bool
first_side k p = nat_le 1 p && nat_le p (widest k)

-- q is the second side of a width of the kind with the first side p
abbrev pub second_side : ℕ → ℕ → ℕ → Bool
second_side k p q = cond (k == 1) ((nat_le 1 q && nat_le q 24) && nat_le q p) (q == 0)

-- these are no more sides than a width or a cell of the kind has
abbrev pub has_sides : ℕ → Sides → Bool
has_sides k s = cond (k == 1) true (s.q == 0)

-- w is a width of the kind k
abbrev pub valid : ℕ → Sides → Bool
valid k w = first_side k w.p && second_side k w.p w.q

-- c is a cell of the kind k
abbrev pub is_cell : ℕ → Sides → Bool
is_cell k c = first_side k c.p && cond (k == 1) (nat_le 1 c.q && nat_le c.q 24) (c.q == 0)

-- how many cells the kind k has
abbrev pub cell_count : ℕ → ℕ
cell_count k = widest k * deepest k
