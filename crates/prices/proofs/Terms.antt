-- A sum over the first numbers as the chain `(0..n).map(..).sum()` makes it.
use Rattle.std.specs.Prelude.{◌≡◌, ℕ, zero, suc, ◌+◌, ◌^◌, ◌<◌, ◌≤◌, List, sum, map, refl}
use Rattle.std.specs.declared.ops.Range.{Range}
use Rattle.std.specs.declared.iter.Map.{Map}
use Rattle.std.specs.Bool.{⊤}
use Rattle.std.specs.Fn.{Called}
use Rattle.std.specs.Iterator.{Drains}
use Rattle.std.specs.Iterator.Adapters.{map_source, map_callee, map_steps}
use Rattle.std.specs.Iterator.Runs.{EachRunFrom}
use Rattle.std.specs.List.{fold, range_with_len}
use Rattle.std.proofs.Common.{add-one, arith, ap, ◌∙◌}
use Rattle.std.proofs.iter.Yields.{nat_range_steps}
use Rattle.std.proofs.lemmas.Iterator.{YieldsList-from_range, YieldsList-from_map}
use Rattle.std.proofs.lemmas.Iterator.Adapters.{at_most_from_yields_List, fits_from_length, total_from_yields_List}
use Rattle.std.proofs.lemmas.List.FromFn.{length-range_with_len, sum_by-map-range_with_len_more}
use denote.Param.Members.{Mut}
use Rattle.prices.specs.Sums.{total}

sum_terms : (f : ℕ → ℕ) (n : ℕ) → sum (map f (range_with_len 0 n)) ≡ total f n
sum_terms f zero = refl
sum_terms f (suc n) =
    let e : sum (map f (range_with_len 0 (n + 1))) ≡ sum (map f (range_with_len 0 n)) + f n = sum_by-map-range_with_len_more (λ x. x) f 0 n n (omega arith) in
    rw add-one at e ∙ ap (λ t. t + f n) (sum_terms f n)

-- where each call of the closure answers the term
pub sum_is_total : {F : Type 0} {s : Map (Range ℕ) F} (g : Mut F (ℕ × Unit {0}) ℕ) {f : F} (term : ℕ → ℕ) (n r : ℕ)
    → ((xs : List ℕ) × (⊤ → Drains (map_steps nat_range_steps g) s xs) × (r ≡ fold (λ a x. a + x) 0 xs))
    → map_source s ≡ record { start = 0; end = n } → map_callee s ≡ f
    → ((x y : ℕ) (q : F) → Called g f (x, tt) y q → (q ≡ f) × (y ≡ term x)) → r ≡ total term n
sum_is_total g term n r ran source callee answers =
    total_from_yields_List ◌+◌ 0 r ran (YieldsList-from_map g term (YieldsList-from_range 0 n n source (omega arith)) callee answers) ∙ sum_terms term n

-- at most eight terms fit, where each is at most an eighth of the largest number
pub sum_fits : {F : Type 0} {s : Map (Range ℕ) F} (g : Mut F (ℕ × Unit {0}) ℕ) {f : F} (n : ℕ) → n ≤ 8
    → map_source s ≡ record { start = 0; end = n } → map_callee s ≡ f
    → ((x y : ℕ) (q : F) → Called g f (x, tt) y q → (q ≡ f) × (y ≤ 2305843009213693951))
    → EachRunFrom (map_steps nat_range_steps g) s (λ p. fold (λ a x. a + x) 0 p.items < 2 ^ 64)
sum_fits g {f} n few source callee answers =
    fits_from_length g f 8 (2 ^ 64) (at_most_from_yields_List (YieldsList-from_range 0 n n source (omega arith)) (omega (arith, length-range_with_len 0 n))) callee (omega arith) answers
