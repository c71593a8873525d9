-- A part of a lawful plan, with the same units, is lawful.
use Rattle.std.proofs.Common.{◌≡◌, ℕ, zero, suc, ◌+◌, ◌<◌, ◌≤◌, Bool, true, false, cond, Some, None, Option, sym, refl, ap, ◌∙◌, inl, inr, arith}
use Rattle.graphs.specs.Graphs.{Graph, count}
use Rattle.prices.specs.Prices.{Prices}
use Rattle.plans.specs.declared.Placing.{Placing}
use Rattle.prices.specs.Sums.{most}
use Rattle.plans.specs.Plans.{Plan, kind_at, reads, start_of, steps_of, finish_with, finish, last}
use Rattle.plans.specs.Law.{Part}
use Rattle.std.proofs.lemmas.Bool.{cases_lt}
use Rattle.plans.proofs.Rules.{Rules}

pub most_le : (f : ℕ → ℕ) (m n : ℕ) → ((i : ℕ) → i < n → f i ≤ m) → most f n ≤ m
most_le f m zero h = omega arith
most_le f m (suc n) h = omega (arith, most_le f m n (λ i l. h i (omega arith)), h n (omega arith))

most_has : (f : ℕ → ℕ) (n i : ℕ) → i < n → f i ≤ most f n
most_has f zero i h = omega arith
most_has f (suc n) i h =
    elim (cases_lt i n) [ inl l ↦ omega (arith, most_has f n i l) | inr g ↦ let e : i ≡ n = omega arith in rw e (omega arith) ]

most_le_most : (f g : ℕ → ℕ) (n : ℕ) → ((i : ℕ) → i < n → f i ≤ g i) → most f n ≤ most g n
most_le_most f g n h = most_le f (most g n) n (λ i l. omega (arith, h i l, most_has g n i l))

cond_mono : (b : Bool) (x y : ℕ) → x ≤ y → cond b x 0 ≤ cond b y 0
cond_mono true x y h = h
cond_mono false x y h = omega arith

module _ (G : Graph) (P : Prices) (pl full : Plan) (part : Part pl full) where
  pub finish_same : (o : ℕ) (p : Placing) → finish G P pl o p ≡ finish G P full o p
  unfolding finish_with
  finish_same o p = ap (λ x. p.start + steps_of P (kind_at G o) (x)) (part.units_same (kind_at G o) p.unit)

  start_le : (o : ℕ) → start_of (pl.placed o) ≤ start_of (full.placed o)
  start_le o = go (pl.placed o) refl
    where
      go : (x : Option Placing) → pl.placed o ≡ x → start_of x ≤ start_of (full.placed o)
      go None e = omega arith
      go (Some p) e = rw (part.placings_in o p e) (omega arith)

  pub last_le : (o : ℕ) (p : Placing) → last G P pl o p ≤ last G P full o p
  unfolding last
  last_le o p =
      omega (arith, finish_same o p, most_le_most (λ r. cond (reads G r o) (start_of (pl.placed r)) 0) (λ r. cond (reads G r o) (start_of (full.placed r)) 0) (count G) (λ r h. cond_mono (reads G r o) (start_of (pl.placed r)) (start_of (full.placed r)) (start_le r)))

  pub part_lawful : Rules G P full → Rules G P pl
  part_lawful law = record {
    hirings = λ k n w e. law.hirings k n w (sym (part.units_same k n) ∙ e);
    placings = λ o p e. law.placings o p (part.placings_in o p e);
    unit_covers = λ o p e. let u = law.unit_covers o p (part.placings_in o p e) in (u.0, part.units_same (kind_at G o) p.unit ∙ u.1, u.2);
    register_covers = λ o p e. let u = law.register_covers o p (part.placings_in o p e) in (u.0, part.units_same 2 p.register ∙ u.1, u.2);
    in_time = λ o p e. omega (arith, finish_same o p, law.in_time o p (part.placings_in o p e));
    in_order = λ o r p q e f rd. omega (arith, finish_same o p, law.in_order o r p q (part.placings_in o p e) (part.placings_in r q f) rd);
    apart = λ o r p q e f ne k u. elim (law.apart o r p q (part.placings_in o p e) (part.placings_in r q f) ne k u) [
      | inl h ↦ inl (omega (arith, finish_same o p))
      | inr h ↦ inr (omega (arith, finish_same r q))
    ];
    separate = λ o r p q e f ne u. elim (law.separate o r p q (part.placings_in o p e) (part.placings_in r q f) ne u) [
      | inl h ↦ inl (omega (arith, finish_same r q, last_le o p))
      | inr h ↦ inr (omega (arith, finish_same o p, last_le r q))
    ];
  }
