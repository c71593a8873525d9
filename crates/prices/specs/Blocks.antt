-- Sums over blocks: where the terms of each block of g are gathered at its first place, the sum of the first n terms is the
-- plain sum up to the next multiple of g. On a grid of cells this holds along each side, and so for both.
use Rattle.std.specs.Prelude.{◌≡◌, ℕ, zero, suc, ◌+◌, ◌%◌, true, cond, ◌⊎◌, ◌==◌, ◌≢◌, refl}
use Rattle.std.proofs.Common.{arith, ap, sym, subst, ◌∙◌, inl, inr}
use Rattle.std.proofs.lemmas.Bool.{cases_eq, cond-true, cond-false, eq-eqb, ne_eqb}
use Rattle.std.proofs.lemmas.Bool.Decides.{nat_tests}
use Rattle.prices.specs.Sums.{total}
use Rattle.prices.specs.Lists.{is_grain, up}
use Rattle.prices.specs.Totals.{total_same, total_cond, total_swap, total_block}

-- what holds of 1, 2, 4 and 8 holds of a grain
pub by_grain : (P : ℕ → Type 0) → P 1 → P 2 → P 4 → P 8 → (g : ℕ) → is_grain g ≡ true → P g
by_grain P a b c d g ok =
    let e : (g ≡ 1) ⊎ ((g ≡ 2) ⊎ ((g ≡ 4) ⊎ (g ≡ 8))) = grind (arith, nat_tests) in
    elim e [ inl h ↦ subst P (sym h) a | inr r ↦ elim r [ inl h ↦ subst P (sym h) b | inr t ↦ elim t [ inl h ↦ subst P (sym h) c | inr h ↦ subst P (sym h) d ] ] ]

-- how rounding up goes from one place to the next
record Steps (g : ℕ) : Type 0 where
  none : up g 0 ≡ 0
  at : (n : ℕ) → n % g ≡ 0 → (up g n ≡ n) × (up g (suc n) ≡ n + g)
  off : (n : ℕ) → (n % g ≢ 0) → up g (suc n) ≡ up g n

-- by cases of the grain, since division by a literal is decided
steps : (g : ℕ) → is_grain g ≡ true → Steps g
steps =
    by_grain Steps
    (record { none = refl; at = λ n h. (omega arith, omega arith); off = λ n h. omega arith })
    (record { none = refl; at = λ n h. (omega arith, omega arith); off = λ n h. omega arith })
    (record { none = refl; at = λ n h. (omega arith, omega arith); off = λ n h. omega arith })
    (record { none = refl; at = λ n h. (omega arith, omega arith); off = λ n h. omega arith })

-- the block's sum where a block starts, and elsewhere 0
abbrev pub gathered : (ℕ → ℕ) → ℕ → ℕ → ℕ
gathered f g i = cond (i % g == 0) (total (λ a. f (i + a)) g) 0

-- along one side
pub gathered_total : (f : ℕ → ℕ) (g : ℕ) → is_grain g ≡ true → (n : ℕ) → total (gathered f g) n ≡ total f (up g n)
gathered_total f g ok zero = rw (steps g ok).none
gathered_total f g ok (suc n) =
    let a = gathered_total f g ok n in
    elim (cases_eq (n % g) 0) [
      | inl h ↦
          let u = (steps g ok).at n h in
          let b : total f (up g n) ≡ total f n = ap (total f) u.0 in
          let d : total f (up g (suc n)) ≡ total f n + total (λ a. f (n + a)) g = ap (total f) u.1 ∙ total_block f n g in
          let e = cond-true (n % g == 0) (total (λ a. f (n + a)) g) 0 (eq-eqb (n % g) 0 h) in
          omega (arith, a, b, d, e)
      | inr h ↦
          let b : total f (up g (suc n)) ≡ total f (up g n) = ap (total f) ((steps g ok).off n h) in
          let e = cond-false (n % g == 0) (total (λ a. f (n + a)) g) 0 (ne_eqb (n % g) 0 h) in
          omega (arith, a, b, e)
    ]

-- the sum across a row of gathered columns is the gathered sum across the rows
gathered_across : (c : ℕ → ℕ → ℕ) (g i n : ℕ) → total (λ j. gathered (λ a. c a j) g i) n ≡ gathered (λ a. total (c a) n) g i
gathered_across c g i n =
    total_cond (i % g == 0) (λ j. total (λ a. c (i + a) j) g) n
    ∙ ap (λ x. cond (i % g == 0) x 0) (total_swap (λ j a. c (i + a) j) n g)

-- equal terms gather alike
gathered_same : (f h : ℕ → ℕ) → ((i : ℕ) → f i ≡ h i) → (g i : ℕ) → gathered f g i ≡ gathered h g i
gathered_same f h e g i = ap (λ x. cond (i % g == 0) x 0) (total_same (λ a. f (i + a)) (λ a. h (i + a)) g (λ a l. e (i + a)))

-- gathered along both sides, by a grain for each
pub gathered_grid : (c : ℕ → ℕ → ℕ) (g h : ℕ) → is_grain g ≡ true → is_grain h ≡ true → (p d : ℕ)
    → total (λ i. total (λ j. gathered (λ a. gathered (c a) h j) g i) d) p ≡ total (λ i. total (c i) (up h d)) (up g p)
gathered_grid c g h g_ok h_ok p d =
    total_same _ (gathered (λ a. total (c a) (up h d)) g) p (λ i l.
    gathered_across (λ a j. gathered (c a) h j) g i d
    ∙ gathered_same (λ a. total (gathered (c a) h) d) (λ a. total (c a) (up h d)) (λ a. gathered_total (c a) h h_ok d) g i)
    ∙ gathered_total (λ a. total (c a) (up h d)) g g_ok p
