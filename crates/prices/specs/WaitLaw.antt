-- What a wait keeps of the list below: holding a sum at 255 keeps its order, and charges are not touched.
use Rattle.std.specs.Prelude.{◌≡◌, ℕ, ◌+◌, ◌≤◌, min, true, ◌&&◌, ◌≢◌, nat_le, refl}
use Rattle.std.proofs.Common.{arith, ap, sym, ◌∙◌, inl, inr}
use Rattle.std.proofs.lemmas.Bool.{cases_Bool, cond-true, cond-false, and_from, le-leb, and_parts, leb-true}
use Rattle.std.proofs.lemmas.Bool.Decides.{nat_tests}
use Rattle.widths.specs.declared.Sides.{Sides}
use Rattle.widths.specs.Kinds.{valid}
use Rattle.prices.specs.Prices.{Prices, Sound, charge, cell_charge, latency}
use Rattle.prices.specs.Lists.{waiting}

-- the charges of a wait are those of the list below
pub wait_charge : (s : ℕ) (P : Prices) (k : ℕ) (w : Sides) → charge P k w ≡ charge (waiting s P) k w
unfolding charge
wait_charge s P k w = refl

-- of a cell too
pub wait_cell : (s : ℕ) (P : Prices) (k : ℕ) (c : Sides) → cell_charge P k c ≡ cell_charge (waiting s P) k c
unfolding cell_charge
wait_cell s P k c = refl

-- a width that takes steps takes the wait's steps too
pub wait_latency : (s : ℕ) (P : Prices) (k : ℕ) (w : Sides) → k ≤ 1 → valid k w ≡ true → latency (waiting s P) k w ≡ min (latency P k w + s) 255
unfolding latency
wait_latency s P k w h v =
    let t : (nat_le k 1 && valid k w) ≡ true = and_from (nat_le k 1) (valid k w) (le-leb k 1 h) v in
    cond-true (nat_le k 1 && valid k w) _ 0 t ∙ ap (λ l. min (l + s) 255) (sym (cond-true (nat_le k 1 && valid k w) (P.late k w) 0 t))

-- no latency passes 255
late_most : (s : ℕ) (P : Prices) (k : ℕ) (w : Sides) → latency (waiting s P) k w ≤ 255
unfolding latency
late_most s P k w = grind (arith, nat_tests)

-- a wait over a sound list is sound
pub wait_sound : (s : ℕ) (P : Prices) → Sound P → Sound (waiting s P)
wait_sound s P d = record {
  least = λ k w h v. omega (arith, wait_latency s P k w h v, d.least k w h v);
  most = late_most s P;
  rises = λ k v w h a b c. omega (arith, wait_latency s P k v h a, wait_latency s P k w h b, d.rises k v w h a b c);
  bounded = λ k w. omega (arith, wait_charge s P k w, d.bounded k w);
}

-- a width for which the list below answers 0 takes none
pub wait_none : (s : ℕ) (P : Prices) → Sound P → (k : ℕ) (w : Sides) → latency P k w ≡ 0 → latency (waiting s P) k w ≡ 0
unfolding latency
wait_none s P d k w e =
    elim (cases_Bool (nat_le k 1 && valid k w)) [
      | inl t ↦ let u = and_parts (nat_le k 1) (valid k w) t in absurd (late_none (leb-true k 1 u.0) u.1)
      | inr f ↦ cond-false (nat_le k 1 && valid k w) _ 0 f
    ] where
      late_none : k ≤ 1 → valid k w ≢ true
      late_none h v = omega (arith, d.least k w h v)

-- a width for which the list below answers some steps is one that takes them
pub wait_some : (s : ℕ) (P : Prices) (k : ℕ) (w : Sides) → 1 ≤ latency P k w → latency (waiting s P) k w ≡ min (latency P k w + s) 255
unfolding latency
wait_some s P k w e =
    elim (cases_Bool (nat_le k 1 && valid k w)) [
      | inl t ↦ let u = and_parts (nat_le k 1) (valid k w) t in wait_latency s P k w (leb-true k 1 u.0) u.1
      | inr f ↦ absurd (absent (cond-false (nat_le k 1 && valid k w) (P.late k w) 0 f))
    ] where
      absent : latency P k w ≡ 0 → ⊥
      absent h = omega arith
