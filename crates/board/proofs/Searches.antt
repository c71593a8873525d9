-- Searches and largest values from below, as a loop makes them.
use Rattle.std.proofs.Common.{◌≡◌, ℕ, zero, suc, ◌+◌, ◌<◌, ◌≤◌, max, Bool, true, false, ◌||◌, List, Some, None, Option, MatchOption, sym, refl, subst, ap₂, inl, inr, add-one, arith}
use denote.Param.Members.{Mut}
use denote.Ref.{Bor}
use Rattle.std.specs.Bool.{⊤}
use Rattle.std.specs.Fn.{CalledAt}
use Rattle.std.specs.Iterator.{YieldsThen}
use Rattle.std.specs.List.{FoldsTo}
use Rattle.std.specs.declared.ops.Range.{Range}
use Rattle.std.proofs.iter.Yields.{nat_range_steps}
use Rattle.std.proofs.lemmas.Bool.{cases_lt, or_left, or_right}
use Rattle.std.proofs.lemmas.Iterator.{first_from_Range}
use Rattle.prices.specs.Sums.{lowest, any, most}
use Rattle.prices.proofs.Searches.{lowest_found, lowest_is}
use Rattle.plans.specs.Plans.{units}

-- what `find` finds in a range from 0, where its closure computes f
pub lowest_from_find : {F : Type 0} {g : Mut F (Bor ℕ × Unit {0}) Bool} (f : ℕ → Bool) (n : ℕ) (s u : Range ℕ) (h : F) (r : Option ℕ)
    → s.start ≡ 0 → s.end ≡ n
    → (xs : List ℕ) × (j : F) × YieldsThen nat_range_steps s xs r u × FoldsTo (λ p x q. CalledAt g p x false q) h xs j × MatchOption r ⊤ (λ x. (k : F) × CalledAt g j x true k)
    → ((x : ℕ) (b : Bool) (q : F) → CalledAt g h x b q → (q ≡ h) × (b ≡ f x)) → r ≡ lowest f n
lowest_from_find f n s u h None from to ran computes =
    let none = first_from_Range s u h None (λ i. f i ≡ true) (λ i. f i ≡ false) ran (λ x q k. sym (computes x true q k).1) (λ x q k. let c = computes x false q k in (c.0, sym c.1)) in
    lowest_is f n None (λ k l. none k (omega arith) (omega arith))
lowest_from_find f n s u h (Some i) from to ran computes =
    let first = first_from_Range s u h (Some i) (λ i. f i ≡ true) (λ i. f i ≡ false) ran (λ x q k. sym (computes x true q k).1) (λ x q k. let c = computes x false q k in (c.0, sym c.1)) in
    lowest_is f n (Some i) (omega (arith, first.1), first.2, λ k l. first.3 k (omega arith) l)

pub any_more : (f : ℕ → Bool) (n : ℕ) → any f n ≡ false → f n ≡ false → any f (n + 1) ≡ false
any_more f n e h = rw (add-one, h) e

pub any_end : (f : ℕ → Bool) (n m : ℕ) → any f n ≡ false → m ≤ n → n ≤ m → any f m ≡ false
any_end f n m e h k = let s : m ≡ n = omega arith in rw s e

pub any_hit : (f : ℕ → Bool) (n i : ℕ) → i < n → f i ≡ true → any f n ≡ true
any_hit f zero i h e = absurd (omega arith)
any_hit f (suc n) i h e = elim (cases_lt i n) [
  | inl l ↦ or_right (f n) (any f n) (any_hit f n i l e)
  | inr g ↦ let s : i ≡ n = omega arith in or_left (f n) (any f n) (rw s at e)
]

-- where two searches ask the same
pub any_same : (f g : ℕ → Bool) (n : ℕ) → ((i : ℕ) → i < n → f i ≡ g i) → any f n ≡ any g n
any_same f g zero h = refl
any_same f g (suc n) h = ap₂ ◌||◌ (h n (omega arith)) (any_same f g n (λ i l. h i (omega arith)))

pub any_none : (f : ℕ → Bool) (n : ℕ) → ((i : ℕ) → i < n → f i ≡ false) → any f n ≡ false
any_none f zero h = refl
any_none f (suc n) h = rw (h n (omega arith)) (any_none f n (λ i l. h i (omega arith)))

pub most_more : (f : ℕ → ℕ) (n : ℕ) → most f (n + 1) ≡ max (most f n) (f n)
most_more f n = rw add-one

-- over all the numbers of units
pub units_none : (f : ℕ → Bool) (n : ℕ) → lowest f n ≡ None → 64 ≤ n → n ≤ 64 → lowest f units ≡ None
unfolding units
units_none f n e h k = let s : n ≡ 64 = omega arith in subst (λ m. lowest f m ≡ None) s e

pub units_hit : (f : ℕ → Bool) (n : ℕ) → n < 64 → lowest f n ≡ None → f n ≡ true → lowest f units ≡ Some n
unfolding units
units_hit f n h e t = lowest_found f n 64 e t h
