-- Runs on units: what a window of steps can hold. At any step at most one run is on a unit, so runs share with a window of n steps at most n steps for each unit that serves them.
use Rattle.std.proofs.Common.{◌≡◌, ℕ, zero, suc, ◌+◌, ◌*◌, ◌<◌, ◌≤◌, min, Bool, true, false, cond, ◌&&◌, eqb, ltb, leb, ◌⊎◌, sym, refl, ap, ◌∙◌, inl, inr, add-zero, add-suc, arith}
use Rattle.std.proofs.lemmas.Bool.{cases_lt, leb-true, leb-false, ltb-true, ltb-false, eqb-true, eq-eqb, and_parts, and_from, and_cases}
use Rattle.prices.specs.Sums.{total}
use Rattle.prices.specs.Totals.{total_swap, total_most, total_has}
use Rattle.floors.specs.Floors.{overlap}
use Rattle.floors.proofs.Sums.{total_le, total_once}
use Rattle.floors.proofs.Cells.{bit}

before : (a b e s l : ℕ) → e ≤ s → s ≤ a → overlap a b e l ≤ overlap a b s l
unfolding overlap
before a b e s l h k = omega arith

inside : (a b e s l : ℕ) → a ≤ s → s + l ≤ b → overlap a b e l ≤ overlap a b s l
unfolding overlap
inside a b e s l h k = omega arith

behind : (a b s t l : ℕ) → a ≤ s → b ≤ s + l → s ≤ t → overlap a b t l ≤ overlap a b s l
unfolding overlap
behind a b s t l h k g = omega arith

-- for a start between the two ends the overlap is at least the smaller of the ends'
pub between : (a b e s t l : ℕ) → e ≤ s → s ≤ t → min (overlap a b e l) (overlap a b t l) ≤ overlap a b s l
between a b e s t l h k =
    elim (cases_lt s a) [
      | inl g ↦ omega (arith, before a b e s l h (omega arith))
      | inr g ↦ elim (cases_lt (s + l) b) [
        | inl x ↦ omega (arith, inside a b e s l g (omega arith))
        | inr x ↦ omega (arith, behind a b s t l g x k)
      ]
    ]

pub bit_pos : (b : Bool) → 1 ≤ bit b → b ≡ true
bit_pos true h = refl
bit_pos false h = absurd (omega arith)

bit_most : (b : Bool) → bit b ≤ 1
bit_most true = omega arith
bit_most false = omega arith

bit_le : (b : Bool) (n : ℕ) → (b ≡ true → 1 ≤ n) → bit b ≤ n
bit_le true n h = h refl
bit_le false n h = omega arith

-- whether a run of l steps from s is on at the step t
pub on : ℕ → ℕ → ℕ → Bool
on s l t = leb s t && ltb t (s + l)

on_within : (s l t : ℕ) → on s l t ≡ true → (s ≤ t) × (t < s + l)
unfolding on
on_within s l t h = let p = and_parts (leb s t) (ltb t (s + l)) h in (leb-true s t p.0, ltb-true t (s + l) p.1)

on_outside : (s l t : ℕ) → on s l t ≡ false → (t < s) ⊎ (s + l ≤ t)
unfolding on
on_outside s l t h = elim (and_cases (leb s t) (ltb t (s + l)) h) [ inl x ↦ inl (leb-false s t x) | inr x ↦ inr (ltb-false t (s + l) x) ]

one_more : (a b s l : ℕ) → overlap a (suc b) s l ≤ suc (overlap a b s l)
unfolding overlap
one_more a b s l = omega arith

no_more : (a b s l : ℕ) → (b < s) ⊎ (s + l ≤ b) → overlap a (suc b) s l ≤ overlap a b s l
unfolding overlap
no_more a b s l (inl h) = omega arith
no_more a b s l (inr h) = omega arith

none_yet : (a s l : ℕ) → overlap a a s l ≤ 0
unfolding overlap
none_yet a s l = omega arith

step : (a b s l : ℕ) → overlap a (suc b) s l ≤ overlap a b s l + bit (on s l b)
step a b s l = at_step (on s l b) refl
  where
    at_step : (v : Bool) → on s l b ≡ v → overlap a (suc b) s l ≤ overlap a b s l + bit v
    at_step true e = omega (arith, one_more a b s l)
    at_step false e = omega (arith, no_more a b s l (on_outside s l b e))

pub overlap_steps : (a s l m : ℕ) → overlap a (a + m) s l ≤ total (λ j. bit (on s l (a + j))) m
overlap_steps a s l zero = rw add-zero (none_yet a s l)
overlap_steps a s l (suc m) = rw add-suc (omega (arith, step a (a + m) s l, overlap_steps a s l m))

run_at : (v : Bool) (a d s l : ℕ) → cond v (overlap a (a + d) s l) 0 ≤ total (λ j. bit (v && on s l (a + j))) d
run_at true a d s l = overlap_steps a s l d
run_at false a d s l = omega arith

-- Runs that are counted, each on a unit of its own while it is on.
module _ (n : ℕ) (tally : ℕ → Bool) (s l u : ℕ → ℕ) (fit : ℕ → ℕ) (m : ℕ)
    (named : (o : ℕ) → o < n → tally o ≡ true → u o < m)
    (fits : (o : ℕ) → o < n → tally o ≡ true → 1 ≤ fit (u o))
    (apart : (o r : ℕ) → o < r → r < n → tally o ≡ true → tally r ≡ true → u o ≡ u r → (s o + l o ≤ s r) ⊎ (s r + l r ≤ s o)) where
  busy : ℕ → ℕ → Bool
  busy t o = tally o && on (s o) (l o) t

  share : ℕ → ℕ → ℕ → ℕ
  share t o v = bit (eqb (u o) v && busy t o)

  share_parts : (t o v : ℕ) → 1 ≤ share t o v → (u o ≡ v) × (tally o ≡ true) × (s o ≤ t) × (t < s o + l o)
  unfolding share busy
  share_parts t o v h =
      let p = and_parts (eqb (u o) v) (busy t o) (bit_pos (eqb (u o) v && busy t o) h) in
      let q = and_parts (tally o) (on (s o) (l o) t) p.1 in
      let w = on_within (s o) (l o) t q.1 in
      (eqb-true (u o) v p.0, q.0, w.0, w.1)

  share_fits : (t o v : ℕ) → o < n → share t o v ≤ fit v
  unfolding share
  share_fits t o v h =
      bit_le (eqb (u o) v && busy t o) (fit v) (λ e.
      let p = share_parts t o v (rw e (omega arith)) in
      let f : 1 ≤ fit (u o) = fits o h p.1 in
      rw p.0 at f)

  one_unit : (t v : ℕ) → total (λ o. share t o v) n ≤ fit v
  one_unit t v = total_once (λ o. share t o v) (fit v) n (λ o h. share_fits t o v h) (λ i j x y g h.
      let p = share_parts t i v g in
      let q = share_parts t j v h in
      elim (apart i j x y p.1 q.1 (p.0 ∙ sym q.0)) [ inl z ↦ omega arith | inr z ↦ omega arith ])

  busy_shares : (t o : ℕ) → o < n → bit (busy t o) ≤ total (share t o) m
  unfolding share busy
  busy_shares t o h =
      bit_le (busy t o) (total (share t o) m) (λ e.
      let q = and_parts (tally o) (on (s o) (l o) t) e in
      let w : eqb (u o) (u o) && busy t o ≡ true = and_from (eqb (u o) (u o)) (busy t o) (eq-eqb (u o) (u o) refl) e in
      let x : share t o (u o) ≡ 1 = ap bit w in
      omega (arith, x, total_has (share t o) m (u o) (named o h q.0)))

  one_step : (t : ℕ) → total (λ o. bit (busy t o)) n ≤ total fit m
  one_step t =
      omega (arith, total_le (λ o. bit (busy t o)) (λ o. total (share t o) m) n (busy_shares t), total_swap (share t) n m, total_le (λ v. total (λ o. share t o v) n) fit m (λ v h. one_unit t v))

  run_steps : (a d o : ℕ) → cond (tally o) (overlap a (a + d) (s o) (l o)) 0 ≤ total (λ j. bit (busy (a + j) o)) d
  unfolding busy
  run_steps a d o = run_at (tally o) a d (s o) (l o)

  pub window : (a d : ℕ) → total (λ o. cond (tally o) (overlap a (a + d) (s o) (l o)) 0) n ≤ d * total fit m
  window a d =
      omega (
        arith,
        total_le (λ o. cond (tally o) (overlap a (a + d) (s o) (l o)) 0) (λ o. total (λ j. bit (busy (a + j) o)) d) n (λ o h. run_steps a d o),
        total_swap (λ o j. bit (busy (a + j) o)) n d,
        total_most (λ j. total (λ o. bit (busy (a + j) o)) n) (total fit m) d (λ j h. one_step (a + j)),
      )
