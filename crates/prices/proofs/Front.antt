-- A sum over the first entries of a table, counted entry by entry, and a table's charge so.
use Rattle.std.specs.Prelude.{◌≡◌, ℕ, zero, suc, ◌≤◌, true, List, length, sum, take, slice_index_or, refl}
use Rattle.std.specs.List.{sum_by}
use Rattle.std.proofs.Common.{add-one, arith, sym, ◌∙◌}
use Rattle.std.proofs.lemmas.List.Sums.{sum_by_more}
use Rattle.widths.specs.declared.Sides.{Sides}
use Rattle.widths.specs.Kinds.{valid}
use Rattle.prices.specs.Sums.{total}
use Rattle.prices.specs.Prices.{charge}
use Rattle.prices.specs.Lists.{by_kind, table}
use Rattle.prices.specs.TableLaw.{table_charge}

pub front_total : {A : Type 0} (f : A → ℕ) (xs : List A) (d : A) (n : ℕ) → n ≤ length xs → sum_by f (take n xs) ≡ total (λ i. f (slice_index_or xs i d)) n
front_total f xs d zero h = refl
front_total f xs d (suc n) h = rw (← add-one) (omega (arith, sum_by_more f xs n d (omega arith), front_total f xs d n (omega arith)))

pub charge_front : (adders firsts registers adder_steps multiplier_steps : List ℕ) (k : ℕ) (w : Sides)
    → valid k w ≡ true → w.p ≤ length (by_kind k adders firsts registers)
    → charge (table adders firsts registers adder_steps multiplier_steps) k w ≡ sum (take w.p (by_kind k adders firsts registers))
charge_front adders firsts registers adder_steps multiplier_steps k w v h =
    table_charge adders firsts registers adder_steps multiplier_steps k w v ∙ sym (front_total (λ x. x) (by_kind k adders firsts registers) 0 w.p h)
