-- Lives in a table are those of the plan that the tables hold.
use Rattle.std.proofs.Common.{◌≡◌, ℕ, zero, suc, ◌+◌, ◌-◌, ◌<◌, ◌≤◌, max, Bool, true, false, cond, ◌||◌, eqb, List, length, get_or, is_some, Some, None, Option, IsTrue, ◌↔◌, sym, refl, subst, ap, ◌∙◌, ap₂, inl, inr, add-one, arith}
use Rattle.std.specs.Bool.{MatchBool}
use Rattle.std.specs.List.{range_with_len, AllWithin, HoldsAt}
use Rattle.std.proofs.lemmas.List.FromFn.{length-range_with_len, get_or-range_with_len}
use Rattle.std.proofs.Math.Bool.{and-false}
use Rattle.std.proofs.lemmas.Bool.{cases_Bool, or_from, false≢true}
use Rattle.graphs.specs.declared.Operation.{Operation}
use Rattle.graphs.specs.Graphs.{Graph, count, no_operation}
use Rattle.prices.specs.Prices.{Prices}
use Rattle.prices.specs.Totals.{total_has, total_most}
use Rattle.prices.specs.Sums.{lowest, any, most}
use Rattle.plans.specs.declared.Life.{Life}
use Rattle.plans.specs.declared.Placing.{Placing}
use Rattle.std.proofs.lemmas.Option.{none-some}
use Rattle.plans.proofs.Placings.{there, absent}
use Rattle.plans.specs.Plans.{Plan, Complete, operation_reads, reads, is_output, start_of, units}
use Rattle.plans.specs.Calls.{life, meet, clash}
use Rattle.board.specs.Lives.{stands_in, standing}
use Rattle.board.proofs.Searches.{any_same, any_none, most_more}

-- a value that does not stand in a register meets no other there
apart : (q : ℕ) (x y : Option Life) → stands_in q x ≡ false → meet q x y ≡ false
apart q None y e = refl
apart q (Some x) None e = refl
apart q (Some x) (Some y) e = rw e

pub alone : (q : ℕ) (x : Option Life) (lives : List (Option Life)) (n : ℕ) → stands_in q x ≡ false → any (λ y. meet q x (get_or lives y None)) n ≡ false
alone q x lives n e = any_none (λ y. meet q x (get_or lives y None)) n (λ y h. apart q x (get_or lives y None) e)

apart_from : (q : ℕ) (x y : Option Life) → stands_in q y ≡ false → meet q x y ≡ false
apart_from q None y e = refl
apart_from q (Some x) None e = refl
apart_from q (Some x) (Some y) e = rw (e, and-false (eqb x.register q))

one_or_none : (b : Bool) → cond b 1 0 ≤ 0 → b ≡ false
one_or_none true h = absurd (omega arith)
one_or_none false h = refl

-- where one value at most stands in a register, none meets another there
pub lone : (q : ℕ) (lives : List (Option Life)) (n : ℕ) → standing lives q n < 2 → any (λ x. any (λ y. meet q (get_or lives x None) (get_or lives y None)) x) n ≡ false
lone q lives zero h = refl
lone q lives (suc n) h =
    or_from (any (λ y. meet q (get_or lives n None) (get_or lives y None)) n) (any (λ x. any (λ y. meet q (get_or lives x None) (get_or lives y None)) x) n)
    (elim (cases_Bool (stands_in q (get_or lives n None))) [
      | inl e ↦ let one : ◌≡◌ {A = ℕ} (cond (stands_in q (get_or lives n None)) 1 0) 1 = rw e in
          any_none (λ y. meet q (get_or lives n None) (get_or lives y None)) n (λ y l.
          apart_from q (get_or lives n None) (get_or lives y None) (one_or_none (stands_in q (get_or lives y None)) (omega (arith, one, total_has (λ x. cond (stands_in q (get_or lives x None)) 1 0) n y l))))
      | inr e ↦ alone q (get_or lives n None) lives n e
    ])
    (lone q lives n (omega arith))

-- no more values stand in a register than there are
pub few_stand : (lives : List (Option Life)) (q n : ℕ) → standing lives q n ≤ n
few_stand lives q n = omega (arith, total_most (λ x. cond (stands_in q (get_or lives x None)) 1 0) 1 n (λ x l. at_most (stands_in q (get_or lives x None))))
  where
    at_most : (b : Bool) → cond b 1 0 ≤ 1
    at_most true = omega arith
    at_most false = omega arith

pub lives_clash : (G : Graph) (P : Prices) (pl : Plan) (lives : List (Option Life)) (n : ℕ) → n ≡ count G → ((x : ℕ) → x < count G → get_or lives x None ≡ life G P pl x (pl.placed x)) → lowest (λ q. any (λ x. any (λ y. meet q (get_or lives x None) (get_or lives y None)) x) n) units ≡ lowest (clash G P pl) units
lives_clash G P pl lives n e h =
    let same : (q : ℕ) → any (λ x. any (λ y. meet q (get_or lives x None) (get_or lives y None)) x) n ≡ clash G P pl q = λ q. ap (any (λ x. any (λ y. meet q (get_or lives x None) (get_or lives y None)) x)) e ∙ any_same _ _ (count G) (λ x l. any_same _ _ x (λ y m. ap₂ (meet q) (h x l) (h y (omega arith)))) in
    λ i. lowest (λ q. same q i) units

-- one reader more, which starts at s
pub read_more : (G : Graph) (placed : ℕ → Option Placing) (operations : List Operation) → operations ≡ G.operations → (r x s before now after : ℕ) → s ≡ start_of (placed r) → now ≡ max before (most (λ i. cond (reads G i x) (start_of (placed i)) 0) r) → after ≡ max now (cond (operation_reads (get_or operations r no_operation) x) s 0) → after ≡ max before (most (λ i. cond (reads G i x) (start_of (placed i)) 0) (r + 1))
unfolding reads
read_more G placed operations same r x s before now after start h k =
    let last : cond (operation_reads (get_or operations r no_operation) x) s 0 ≡ cond (reads G r x) (start_of (placed r)) 0 = ap₂ (λ xs n. cond (operation_reads (get_or xs r no_operation) x) n 0) same start in
    omega (arith, last, h, k, most_more (λ i. cond (reads G i x) (start_of (placed i)) 0) r)

either : (a b : Bool) (m n : ℕ) → max (max m (cond b n 0)) (cond a n 0) ≡ max m (cond (a || b) n 0)
either true true m n = omega arith
either true false m n = omega arith
either false b m n = omega arith

-- one output more
pub output_more : (outputs given : List ℕ) → given ≡ outputs → (k x limit before now after : ℕ) → now ≡ max before (cond (any (λ i. eqb (get_or outputs i 0) x) k) limit 0) → after ≡ max now (cond (eqb (get_or given k 0) x) limit 0) → after ≡ max before (cond (any (λ i. eqb (get_or outputs i 0) x) (k + 1)) limit 0)
output_more outputs given same k x limit before now after h e =
    let f : ℕ → Bool = λ i. eqb (get_or outputs i 0) x in
    let last = ap (λ xs. cond (eqb (get_or xs k 0) x) limit 0) same in
    let both = either (f k) (any f k) before limit in
    let more : any f (k + 1) ≡ (f k || any f k) = rw add-one in
    e ∙ ap₂ max h last ∙ both ∙ ap (λ b. max before (cond b limit 0)) (sym more)

-- every output
pub output_all : (G : Graph) (given : List ℕ) → given ≡ G.outputs → (k x before now : ℕ) → length given ≤ k → k ≤ length given → now ≡ max before (cond (any (λ i. eqb (get_or G.outputs i 0) x) k) G.limit 0) → now ≡ max before (cond (is_output G x) G.limit 0)
unfolding is_output
output_all G given same k x before now h l e =
    let s : k ≡ length G.outputs = omega (arith, ap length same) in
    e ∙ ap (λ n. max before (cond (any (λ i. eqb (get_or G.outputs i 0) x) n) G.limit 0)) s

number_at : (n k : ℕ) → k < n → get_or (range_with_len 0 (n - 0)) k 0 ≡ k
number_at n k l = omega (arith, get_or-range_with_len 0 (n - 0) k 0 (omega arith))

-- every operation is placed, where `all` over their numbers says so
pub whole : (G : Graph) (pl : Plan) (n : ℕ) (b : Bool) → n ≡ count G → MatchBool b (AllWithin (λ o. is_some (pl.placed o) ≡ true) (range_with_len 0 (n - 0)) 0 (length (range_with_len 0 (n - 0)))) ((k : ℕ) × (k < length (range_with_len 0 (n - 0))) × HoldsAt (λ o. is_some (pl.placed o) ≡ false) (range_with_len 0 (n - 0)) k) → IsTrue b ↔ Complete G pl
whole G pl n true e all = ((λ t o l. there (pl.placed o) (subst (λ k. is_some (pl.placed k) ≡ true) (number_at n o (omega arith)) (all o 0 (omega arith) (omega (arith, length-range_with_len 0 (n - 0)))))), λ c. refl)
whole G pl n false e some =
    let k : some.0 < n = omega (arith, some.1, length-range_with_len 0 (n - 0)) in
    let none = subst (λ i. is_some (pl.placed i) ≡ false) (number_at n some.0 k) (some.2 0) in
    ((λ t. absurd (false≢true t)), λ c. absurd (none-some _ (sym (absent (pl.placed some.0) none) ∙ (c some.0 (omega arith)).1)))
