-- The rules as the checks meet them: two runs or two lives are apart when one ends before the other begins. That is the same as having no step in common, since no run is empty and no life is.
use Rattle.std.proofs.Common.{◌≡◌, ℕ, ◌<◌, ◌≤◌, max, true, leb, ◌⊎◌, length, Some, ap, inl, inr, arith}
use Rattle.widths.specs.declared.Sides.{Sides}
use Rattle.widths.specs.Kinds.{sides_of, valid}
use Rattle.graphs.specs.Graphs.{Graph, WellFormed, count}
use Rattle.prices.specs.Prices.{Prices, Sound}
use Rattle.plans.specs.declared.Placing.{Placing}
use Rattle.std.proofs.lemmas.Bool.{cases_lt, cases_eq, and_parts, or_cases, ltb-true, eqb-true}
use Rattle.graphs.specs.declared.Source.{Source}
use Rattle.graphs.specs.declared.Source.TheVariants.{Input, Earlier}
use Rattle.graphs.specs.declared.Operand.{Operand}
use Rattle.graphs.specs.declared.Operation.{Operation}
use Rattle.graphs.specs.declared.Operation.TheVariants.{Add, Multiply}
use Rattle.graphs.specs.Graphs.{kind_of, is_named, good_operand, good_operation, operation_at}
use Rattle.plans.specs.Plans.{Plan, Lawful, Covered, names, operation_reads, kind_at, own_at, value_at, reads, units, register, steps_of, finish_with, finish, last}

pub record Rules (G : Graph) (P : Prices) (pl : Plan) : Type 0 where
  pub hirings : (k n : ℕ) (w : Sides) → pl.hired k n ≡ Some w → (k ≤ 2) × (n < units) × (valid k w ≡ true)
  pub placings : (o : ℕ) (p : Placing) → pl.placed o ≡ Some p → o < count G
  pub unit_covers : (o : ℕ) (p : Placing) → pl.placed o ≡ Some p → Covered pl (kind_at G o) p.unit (own_at G o)
  pub register_covers : (o : ℕ) (p : Placing) → pl.placed o ≡ Some p → Covered pl register p.register (value_at G o)
  pub in_time : (o : ℕ) (p : Placing) → pl.placed o ≡ Some p → finish G P pl o p ≤ G.limit
  pub in_order : (o r : ℕ) (p q : Placing) → pl.placed o ≡ Some p → pl.placed r ≡ Some q → reads G r o ≡ true → finish G P pl o p ≤ q.start
  pub apart : (o r : ℕ) (p q : Placing) → pl.placed o ≡ Some p → pl.placed r ≡ Some q → (o ≡ r → ⊥) → kind_at G o ≡ kind_at G r → p.unit ≡ q.unit → (finish G P pl o p ≤ q.start) ⊎ (finish G P pl r q ≤ p.start)
  pub separate : (o r : ℕ) (p q : Placing) → pl.placed o ≡ Some p → pl.placed r ≡ Some q → (o ≡ r → ⊥) → p.register ≡ q.register → (last G P pl o p < finish G P pl r q) ⊎ (last G P pl r q < finish G P pl o p)

-- an operation runs on an adder or a multiplier
pub arithmetic : (x : Operation) → kind_of x ≤ 1
arithmetic (Add p a b) = omega arith
arithmetic (Multiply p q a b) = omega arith

-- a value lives at least through its finish
pub lives_on : (G : Graph) (P : Prices) (pl : Plan) (o : ℕ) (p : Placing) → finish G P pl o p ≤ last G P pl o p
unfolding last
lives_on G P pl o p = omega arith

module _ (G : Graph) (P : Prices) (pl : Plan) (sound : Sound P) (law : Lawful G P pl) where
  -- a run takes a step at least
  runs_on : (o : ℕ) (p : Placing) → pl.placed o ≡ Some p → p.start < finish G P pl o p
  unfolding finish_with
  runs_on o p e =
      let u = law.unit_covers o p e in
      let h = law.units_there (kind_at G o) p.unit u.0 u.1 in
      let l = sound.least (kind_at G o) u.0 (arithmetic (operation_at G o)) h.2 in
      let s = ap (steps_of P (kind_at G o)) u.1 in
      omega (arith, l, s)

  pub rules : Rules G P pl
  rules = record {
    hirings = law.units_there;
    placings = law.placings_there;
    unit_covers = law.unit_covers;
    register_covers = law.register_covers;
    in_time = law.in_time;
    in_order = law.operands_first;
    apart = λ o r p q e f ne k u.
        elim (cases_lt q.start (finish G P pl o p)) [
          | inl a ↦ elim (cases_lt p.start (finish G P pl r q)) [
            | inl b ↦ absurd (ne (law.runs_apart o r p q (max p.start q.start) e f k u
                (record { begun = omega arith; unfinished = omega (arith, a, runs_on o p e) }) (record { begun = omega arith; unfinished = omega (arith, b, runs_on r q f) })))
            | inr b ↦ inr b
          ]
          | inr a ↦ inl a
        ];
    separate = λ o r p q e f ne u.
        elim (cases_lt (last G P pl o p) (finish G P pl r q)) [
          | inl a ↦ inl a
          | inr a ↦ elim (cases_lt (last G P pl r q) (finish G P pl o p)) [
            | inl b ↦ inr b
            | inr b ↦ absurd (ne (law.lives_apart o r p q (max (finish G P pl o p) (finish G P pl r q)) e f u
                (record { finished = omega arith; wanted = omega (arith, a, lives_on G P pl o p) }) (record { finished = omega arith; wanted = omega (arith, b, lives_on G P pl r q) })))
          ]
        ];
  }

module _ (G : Graph) (P : Prices) (pl : Plan) (law : Rules G P pl) where
  pub lawful : Lawful G P pl
  lawful = record {
    units_there = law.hirings;
    placings_there = law.placings;
    unit_covers = law.unit_covers;
    register_covers = law.register_covers;
    in_time = law.in_time;
    operands_first = law.in_order;
    runs_apart = λ o r p q t e f k u a b.
        elim (cases_eq o r) [
          | inl z ↦ z
          | inr ne ↦ elim (law.apart o r p q e f ne k u) [
            | inl z ↦ absurd (omega (arith, z, a.unfinished, b.begun))
            | inr z ↦ absurd (omega (arith, z, b.unfinished, a.begun))
          ]
        ];
    lives_apart = λ o r p q t e f u a b.
        elim (cases_eq o r) [
          | inl z ↦ z
          | inr ne ↦ elim (law.separate o r p q e f ne u) [
            | inl z ↦ absurd (omega (arith, z, a.wanted, b.finished))
            | inr z ↦ absurd (omega (arith, z, b.wanted, a.finished))
          ]
        ];
  }

-- what an operation reads comes before it
named_before : (n o e : ℕ) (x : Source) → is_named n o x ≡ true → names x e ≡ true → e < o
named_before n o e (Input i) h k = let z : ◌≡◌ {A = ℕ} 0 1 = cc in absurd (omega arith)
named_before n o e (Earlier y) h k = let a = ltb-true y o h in let b = eqb-true y e k in omega arith

operand_before : (n o e : ℕ) (x : Operand) → good_operand n o x ≡ true → names x.source e ≡ true → e < o
operand_before n o e x h k = named_before n o e x.source (and_parts (leb x.drop 63) _ h).1 k

operation_before : (n o e : ℕ) (x : Operation) → good_operation n o x ≡ true → operation_reads x e ≡ true → e < o
operation_before n o e (Add p a b) h k =
    let g = and_parts (good_operand n o a) (good_operand n o b) (and_parts (valid 0 (sides_of p 0)) _ h).1 in
    elim (or_cases (names a.source e) (names b.source e) k) [ inl z ↦ operand_before n o e a g.0 z | inr z ↦ operand_before n o e b g.1 z ]
operation_before n o e (Multiply p q a b) h k =
    let g = and_parts (good_operand n o a) (good_operand n o b) (and_parts (valid 1 (sides_of p q)) _ h).1 in
    elim (or_cases (names a.source e) (names b.source e) k) [ inl z ↦ operand_before n o e a g.0 z | inr z ↦ operand_before n o e b g.1 z ]

pub reads_earlier : (G : Graph) → WellFormed G → (r e : ℕ) → r < count G → reads G r e ≡ true → e < r
unfolding reads
reads_earlier G wf r e h k = operation_before (length G.inputs) r e (operation_at G r) (wf.operation r h) k
