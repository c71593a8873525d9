-- Sums over a table of units, as a chain takes them and as the charges say them.
use Rattle.std.proofs.Common.{◌≡◌, ℕ, ◌*◌, ◌≤◌, Some, None, Option, List, length, get_or, ap, ◌∙◌, sym, arith}
use Rattle.std.specs.List.{sum_by}
use Rattle.std.specs.Option.{option_map}
use Rattle.std.proofs.lemmas.List.{take_all}
use Rattle.widths.specs.declared.Sides.{Sides}
use Rattle.prices.specs.Prices.{Prices, Sound}
use Rattle.prices.specs.Sums.{total}
use Rattle.prices.specs.Totals.{total_most}
use Rattle.prices.proofs.Front.{front_total}
use Rattle.plans.specs.Plans.{units}
use Rattle.plans.specs.Charges.{unit_charge}

module _ {A : Type 0} (f : A → ℕ) (xs : List A) (d : A) where
  -- a sum over a table of all the numbers of units
  pub units_total : length xs ≡ 64 → sum_by f xs ≡ total (λ i. f (get_or xs i d)) units
  unfolding units
  units_total h = ap (sum_by f) (sym (take_all 64 xs (omega arith))) ∙ front_total f xs d 64 (omega arith)

  units_most : (m : ℕ) → length xs ≡ 64 → ((x : A) → f x ≤ m) → sum_by f xs ≤ 64 * m
  unfolding units
  units_most m h k = omega (arith, units_total h, total_most (λ i. f (get_or xs i d)) m 64 (λ i l. k (get_or xs i d)))

-- what the units of a kind may cost
pub charged_most : {A : Type 0} (P : Prices) → Sound P → (k : ℕ) (shape : A → Sides) (xs : List (Option A)) → length xs ≡ 64 → sum_by (λ u. unit_charge P k (option_map shape u)) xs ≤ 64 * 4194304
charged_most P s k shape xs h = units_most (λ u. unit_charge P k (option_map shape u)) xs None 4194304 h (λ u. most (option_map shape u))
  where
    most : (u : Option Sides) → unit_charge P k u ≤ 4194304
    most None = omega arith
    most (Some w) = s.bounded k w
