-- Spans meet their equations: looking further back or ahead than there are operations changes nothing.
use Rattle.std.proofs.Common.{◌≡◌, ℕ, zero, suc, ◌+◌, ◌<◌, ◌≤◌, max, Bool, true, false, cond, ℤ, pos, ◌-ℤ◌, sym, refl, ap, ◌∙◌, ap₂, arith}
use native.Mathlib.Decide.{le_ind}
use Rattle.std.specs.Int.{int_min}
use Rattle.graphs.specs.declared.Source.{Source}
use Rattle.graphs.specs.declared.Source.TheVariants.{Input, Earlier}
use Rattle.graphs.specs.Graphs.{Graph, WellFormed, operation_at, count}
use Rattle.prices.specs.Prices.{Prices}
use Rattle.plans.specs.Plans.{reads}
use Rattle.plans.proofs.Rules.{reads_earlier}
use Rattle.floors.specs.Spans.{own_steps, first_source, second_source, there_at, after_operands, earliest_within, earliest, smallest, latest_within, latest}
use Rattle.floors.specs.Law.{SpansLaw}
use Rattle.floors.proofs.Shapes.{Before, shape}

module _ (G : Graph) (P : Prices) where
  there_same : (g h : ℕ → ℕ) (o : ℕ) → ((e : ℕ) → e < o → g e ≡ h e) → (x : Source) → Before o x → there_at (λ e. g e + own_steps G P e) x ≡ there_at (λ e. h e + own_steps G P e) x
  there_same g h o s (Input i) y = refl
  there_same g h o s (Earlier e) y = ap (λ z. z + own_steps G P e) (s e y)

  smallest_same : (t : ℕ → Bool) (g h : ℕ → ℤ) (d : ℤ) (n : ℕ) → ((r : ℕ) → r < n → t r ≡ true → g r ≡ h r) → smallest t g d n ≡ smallest t h d n
  smallest_same t g h d zero s = refl
  smallest_same t g h d (suc n) s = at_end (t n) (λ e. s n (omega arith) e) (smallest_same t g h d n (λ r l. s r (omega arith)))
    where
      at_end : (b : Bool) → (b ≡ true → g n ≡ h n) → smallest t g d n ≡ smallest t h d n → cond b (int_min (smallest t g d n) (g n)) (smallest t g d n) ≡ cond b (int_min (smallest t h d n) (h n)) (smallest t h d n)
      at_end true e f = ap₂ int_min f (e refl)
      at_end false e f = f

  module _ (wf : WellFormed G) where
    operands_same : (g h : ℕ → ℕ) (o : ℕ) → o < count G → ((e : ℕ) → e < o → g e ≡ h e) → after_operands G (λ e. g e + own_steps G P e) o ≡ after_operands G (λ e. h e + own_steps G P e) o
    operands_same g h o k same =
        let s = shape G wf o k in
        ap₂ max (there_same g h o same (first_source (operation_at G o)) s.first) (there_same g h o same (second_source (operation_at G o)) s.second)

    early_stable : (n o : ℕ) → o < n → o < count G → earliest_within G P n o ≡ earliest_within G P (suc n) o
    early_stable zero o h k = absurd (omega arith)
    early_stable (suc n) o h k = operands_same (earliest_within G P n) (earliest_within G P (suc n)) o k (λ e l. early_stable n e (omega arith) (omega arith))

    early_reach : (n o : ℕ) → o < count G → suc o ≤ n → earliest_within G P n o ≡ earliest_within G P (suc o) o
    early_reach n o k h = le_ind {n = suc o} (λ m. earliest_within G P m o ≡ earliest_within G P (suc o) o) refl (λ m l ih. sym (early_stable m o l k) ∙ ih) n h

    late_stable : (n o : ℕ) → o < count G → count G ≤ n + o → latest_within G P n o ≡ latest_within G P (suc n) o
    late_stable zero o k h = absurd (omega arith)
    late_stable (suc n) o k h =
        ap (λ z. z -ℤ pos (own_steps G P o)) (smallest_same (λ r. reads G r o) (latest_within G P n) (latest_within G P (suc n)) (pos G.limit) (count G)
        (λ r l e. late_stable n r l (omega (arith, reads_earlier G wf r o l e))))

    pub spans_law : SpansLaw G P
    unfolding earliest latest
    spans_law = record {
      earliest_is = λ o k. operands_same (earliest_within G P o) (λ e. earliest_within G P (suc e) e) o k (λ e l. early_reach o e (omega arith) l);
      latest_is = λ o k.
          ap (λ z. z -ℤ pos (own_steps G P o)) (smallest_same (λ r. reads G r o) (latest_within G P (count G)) (latest_within G P (suc (count G))) (pos G.limit) (count G)
          (λ r l e. late_stable (count G) r l (omega arith)));
    }
