-- What the formula list charges, and that it is sound: every cell under a width costs the same, so the charge is a product.
use Rattle.std.specs.Prelude.{◌≡◌, ℕ, ◌*◌, ◌≤◌, max, true}
use Rattle.std.proofs.Common.{mul_assoc, arith, ap, sym, ◌∙◌}
use Rattle.std.proofs.lemmas.Bool.Decides.{nat_tests}
use Rattle.std.proofs.lemmas.Nat.{mul-le}
use Rattle.widths.specs.declared.Sides.{Sides}
use Rattle.widths.specs.Kinds.{covers, valid}
use Rattle.prices.specs.Sums.{total}
use Rattle.prices.specs.Prices.{Sound, charge, latency}
use Rattle.prices.specs.Lists.{by_kind, formula}
use Rattle.prices.specs.Refusals.{is_rate}
use Rattle.prices.specs.Totals.{total_alike}
use Rattle.prices.specs.Under.{charge_under, bounded_by}

-- as many cells as lie under the width, at the rate of the kind
pub formula_charge : (a r k : ℕ) (w : Sides) → valid k w ≡ true → charge (formula a r) k w ≡ w.p * max w.q 1 * by_kind k a 1 r
formula_charge a r k w v =
    let c : ℕ = by_kind k a 1 r in
    charge_under (formula a r) k w v
    ∙ ap (λ z. total (λ i. z) w.p) (total_alike c (max w.q 1))
    ∙ total_alike (max w.q 1 * c) w.p
    ∙ sym (mul_assoc w.p (max w.q 1) c)

module _ (a r : ℕ) (rate_a : is_rate a ≡ true) (rate_r : is_rate r ≡ true) where
  -- the bounds of the three factors
  sides_most : (k : ℕ) (w : Sides) → valid k w ≡ true → (w.p ≤ 64) × (max w.q 1 ≤ 24) × (by_kind k a 1 r ≤ 64)
  sides_most k w v = (grind (arith, nat_tests), grind (arith, nat_tests), grind (arith, nat_tests))

  -- so the product is bounded
  charge_most : (k : ℕ) (w : Sides) → valid k w ≡ true → charge (formula a r) k w ≤ 4194304
  charge_most k w v =
      let s = sides_most k w v in
      let m = mul-le w.p (max w.q 1) 64 24 s.0 s.1 in
      let n = mul-le (w.p * max w.q 1) (by_kind k a 1 r) (64 * 24) 64 m s.2 in
      rw (formula_charge a r k w v) (omega (arith, n))

  -- no latency is 0, none above 255, and none shorter on a covering width
  late_least : (k : ℕ) (w : Sides) → k ≤ 1 → valid k w ≡ true → 1 ≤ latency (formula a r) k w
  unfolding latency
  late_least k w h v = grind (arith, nat_tests)

  late_most : (k : ℕ) (w : Sides) → latency (formula a r) k w ≤ 255
  unfolding latency
  late_most k w = grind (arith, nat_tests)

  late_rises : (k : ℕ) (v w : Sides) → k ≤ 1 → valid k v ≡ true → valid k w ≡ true → covers w v ≡ true → latency (formula a r) k v ≤ latency (formula a r) k w
  unfolding latency covers
  late_rises k v w h a b c = grind (arith, nat_tests)

  -- the formula list is sound
  pub formula_sound : Sound (formula a r)
  formula_sound = record {
    least = late_least;
    most = late_most;
    rises = late_rises;
    bounded = bounded_by (formula a r) 4194304 charge_most;
  }
