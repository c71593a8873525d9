-- Searches from below, as a loop makes them: nothing holds before, and what is found stays found. And lists of what may be there.
use Rattle.std.proofs.Common.{◌≡◌, ℕ, zero, suc, ◌+◌, ◌<◌, Bool, true, false, List, [], ◌∷◌, Some, None, Option, sym, refl, ◌∙◌, inl, inr, add-one, arith}
use Rattle.std.specs.Option.{MatchOption}
use Rattle.std.proofs.lemmas.Bool.{cases_lt}
use Rattle.prices.specs.Sums.{or_else, flag, lowest, first_of, AllNone}

pub flag_none : {A : Type 0} (b : Bool) (x : A) → flag b x ≡ None → b ≡ false
flag_none true x e = absurd cc
flag_none false x e = refl

or_else_none : {A : Type 0} (x y : Option A) → or_else x y ≡ None → (x ≡ None) × (y ≡ None)
or_else_none None y e = (refl, e)
or_else_none (Some z) y e = absurd cc

none_or_else : {A : Type 0} (x y : Option A) → x ≡ None → y ≡ None → or_else x y ≡ None
none_or_else x y e f = rw (e, f)

pub lowest_none : (f : ℕ → Bool) (n : ℕ) → lowest f n ≡ None → (i : ℕ) → i < n → f i ≡ false
lowest_none f zero e i h = absurd (omega arith)
lowest_none f (suc n) e i h =
    let p = or_else_none (lowest f n) (flag (f n) n) e in
    elim (cases_lt i n) [ inl l ↦ lowest_none f n p.0 i l | inr g ↦ let q : i ≡ n = omega arith in rw q (flag_none (f n) n p.1) ]

pub lowest_clear : (f : ℕ → Bool) (n : ℕ) → ((i : ℕ) → i < n → f i ≡ false) → lowest f n ≡ None
lowest_clear f zero h = refl
lowest_clear f (suc n) h =
    none_or_else (lowest f n) (flag (f n) n) (lowest_clear f n (λ i l. h i (omega arith))) (rw (h n (omega arith)))

some_flag : {A : Type 0} (b : Bool) (x y : A) → flag b x ≡ Some y → (b ≡ true) × (x ≡ y)
some_flag true x y e = (refl, cc)
some_flag false x y e = absurd cc

-- what is found holds
pub lowest_some : (f : ℕ → Bool) (n i : ℕ) → lowest f n ≡ Some i → (i < n) × (f i ≡ true)
lowest_some f zero i e = absurd cc
lowest_some f (suc n) i e = go (lowest f n) (λ j p. lowest_some f n j p) refl e
  where
    go : (x : Option ℕ) → ((j : ℕ) → lowest f n ≡ Some j → (j < n) × (f j ≡ true)) → lowest f n ≡ x → or_else x (flag (f n) n) ≡ Some i → (i < suc n) × (f i ≡ true)
    go (Some j) ih p q = let r = ih i (p ∙ q) in (omega arith, r.1)
    go None ih p q = let r = some_flag (f n) n i q in (omega (arith, r.1), rw (← r.1) r.0)

-- a loop's step, and its hit
pub lowest_more : (f : ℕ → Bool) (n : ℕ) → lowest f n ≡ None → f n ≡ false → lowest f (n + 1) ≡ None
lowest_more f n e h = rw (add-one, e, h)

pub lowest_found : (f : ℕ → Bool) (i n : ℕ) → lowest f i ≡ None → f i ≡ true → i < n → lowest f n ≡ Some i
lowest_found f i zero e h l = absurd (omega arith)
lowest_found f i (suc n) e h l =
    elim (cases_lt i n) [ inl k ↦ rw (lowest_found f i n e h k) | inr k ↦ let q : n ≡ i = omega arith in rw (q, e, h) ]

-- a search's answer, by what it tells of the numbers that it passed
pub lowest_is : (f : ℕ → Bool) (n : ℕ) (r : Option ℕ)
    → MatchOption r ((i : ℕ) → i < n → f i ≡ false) (λ i. (i < n) × (f i ≡ true) × ((j : ℕ) → j < i → f j ≡ false)) → r ≡ lowest f n
lowest_is f n None h = sym (lowest_clear f n h)
lowest_is f n (Some i) h = sym (lowest_found f i n (lowest_clear f i h.2) h.1 h.0)

pub first_none : {A : Type 0} (xs : List (Option A)) → first_of xs ≡ None → AllNone xs
first_none [] e = tt
first_none (x ∷ xs) e = let p = or_else_none x (first_of xs) e in (p.0, first_none xs p.1)

pub none_first : {A : Type 0} (xs : List (Option A)) → AllNone xs → first_of xs ≡ None
none_first [] h = refl
none_first (x ∷ xs) h = none_or_else x (first_of xs) h.0 (none_first xs h.1)
