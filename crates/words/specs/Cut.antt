-- What it means to cut a value: to divide it by a power of two, rounded down, and to keep the low bits as two's complement.
use Rattle.std.specs.Prelude.{ℕ, suc, ◌-◌, ◌/◌, ◌%◌, ◌^◌, cond, ℤ, pos, negsuc, nat_lt}

-- z divided by n, rounded toward minus infinity
abbrev pub floor_div : ℤ → ℕ → ℤ
floor_div (pos a) n = pos (a / n)
floor_div (negsuc a) n = negsuc (a / n)

-- what that division leaves of z, from 0 up to but not including n
abbrev pub floor_mod : ℤ → ℕ → ℕ
floor_mod (pos a) n = a % n
floor_mod (negsuc a) n = n - suc (a % n)

-- the number that the w bits m stand for in two's complement
abbrev pub signed_of : ℕ → ℕ → ℤ
signed_of w m = cond (nat_lt m (2 ^ (w - 1))) (pos m) (negsuc (2 ^ w - suc m))

-- v divided by 2 ^ d, rounded down, and of that the low w bits as two's complement
unfoldable pub cut_to : ℤ → ℕ → ℕ → ℤ
cut_to v d w = signed_of w (floor_mod (floor_div v (2 ^ d)) (2 ^ w))
