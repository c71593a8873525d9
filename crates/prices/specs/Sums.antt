-- Sums, maxima and searches over the first numbers, and lists of what may be there. They go over numbers and not, as the
-- library's, over lists: a sum over cells or steps needs no list of them, and one number more adds its term at the end, by computation.
use Rattle.std.specs.Prelude.{◌≡◌, ℕ, zero, suc, ◌+◌, max, Bool, false, cond, ◌||◌, List, [], ◌∷◌, Some, None, Option}

-- the sum of f at 0 up to but not including n
abbrev pub total : (ℕ → ℕ) → ℕ → ℕ
total f zero = 0
total f (suc n) = total f n + f n

-- the largest of f there, 0 where there is none
abbrev pub most : (ℕ → ℕ) → ℕ → ℕ
most f zero = 0
most f (suc n) = max (most f n) (f n)

-- f holds somewhere there
abbrev pub any : (ℕ → Bool) → ℕ → Bool
any f zero = false
any f (suc n) = f n || any f n

-- x, if the test holds
abbrev pub flag : {A : Type 0} → Bool → A → Option A
flag b x = cond b (Some x) None

-- the first of two that is there
abbrev pub or_else : {A : Type 0} → Option A → Option A → Option A
or_else (Some x) d = Some x
or_else None d = d

-- the lowest number below n at which f holds, if any
abbrev pub lowest : (ℕ → Bool) → ℕ → Option ℕ
lowest f zero = None
lowest f (suc n) = or_else (lowest f n) (flag (f n) n)

-- the first of a list that is there
abbrev pub first_of : {A : Type 0} → List (Option A) → Option A
first_of [] = None
first_of (x ∷ xs) = or_else x (first_of xs)

-- none of a list is there
abbrev pub AllNone : {A : Type 0} → List (Option A) → Type 0
AllNone [] = Unit {0}
AllNone (x ∷ xs) = (x ≡ None) × AllNone xs
