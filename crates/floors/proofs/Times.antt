-- Starts of a complete lawful plan lie between the earliest and the latest steps.
use Rattle.std.proofs.Common.{◌≡◌, ℕ, zero, suc, ◌+◌, ◌-◌, ◌<◌, ◌≤◌, max, Bool, true, false, cond, ℤ, pos, negsuc, ◌-ℤ◌, Some, None, Option, refl, ap, arith}
use lib.Signed.{lt_z}
use borrow.Author.Differences.{ints}
use Rattle.std.specs.Int.{int_min}
use Rattle.std.proofs.lemmas.Int.{clamps}
use Rattle.std.proofs.lemmas.Bool.{eq-eqb}
use Rattle.widths.specs.declared.Sides.{Sides}
use Rattle.widths.specs.Kinds.{covers}
use Rattle.graphs.specs.declared.Source.{Source}
use Rattle.graphs.specs.declared.Source.TheVariants.{Input, Earlier}
use Rattle.graphs.specs.Graphs.{Graph, WellFormed, operation_at, count}
use Rattle.prices.specs.Sums.{most}
use Rattle.prices.specs.Prices.{Prices, Sound}
use Rattle.plans.specs.declared.Placing.{Placing}
use Rattle.plans.specs.Plans.{Plan, Complete, names, reads, kind_at, own_at, units, start_of, steps_of, finish_with, finish}
use Rattle.plans.proofs.Parts.{most_le}
use Rattle.plans.proofs.Rules.{Rules, arithmetic}
use Rattle.floors.specs.Spans.{own_steps, first_source, second_source, there_at, earliest_within, earliest, smallest, latest_within, latest, step_of, latest_step}
use Rattle.floors.proofs.Sums.{cond_le}
use Rattle.floors.proofs.Shapes.{Before, shape, reads_first, reads_second}

-- the steps from an operation's start to the end, at least, looking ahead through at most n operations
abbrev pub left_within : Graph → Prices → ℕ → ℕ → ℕ
left_within G P zero o = 0
left_within G P (suc n) o = own_steps G P o + most (λ r. cond (reads G r o) (left_within G P n r) 0) (count G)

unfoldable pub left : Graph → Prices → ℕ → ℕ
left G P o = left_within G P (suc (count G)) o

smallest_more : (b : Bool) (x y : ℤ) (l m k : ℕ) → x ≡ pos l -ℤ pos m → y ≡ pos l -ℤ pos k → cond b (int_min x y) x ≡ pos l -ℤ pos (max m (cond b k 0))
smallest_more true x y l m k e f = omega (arith, ints, clamps)
smallest_more false x y l m k e f = omega (arith, ints)

smallest_is : (t : ℕ → Bool) (g : ℕ → ℤ) (h : ℕ → ℕ) (l : ℕ) → ((r : ℕ) → g r ≡ pos l -ℤ pos (h r)) → (n : ℕ) → smallest t g (pos l) n ≡ pos l -ℤ pos (most (λ r. cond (t r) (h r) 0) n)
smallest_is t g h l e zero = omega (arith, ints)
smallest_is t g h l e (suc n) =
    smallest_more (t n) (smallest t g (pos l) n) (g n) l (most (λ r. cond (t r) (h r) 0) n) (h n) (smallest_is t g h l e n) (e n)

latest_within_is : (G : Graph) (P : Prices) (n o : ℕ) → latest_within G P n o ≡ pos G.limit -ℤ pos (left_within G P n o)
latest_within_is G P zero o = omega (arith, ints)
latest_within_is G P (suc n) o =
    let s = smallest_is (λ r. reads G r o) (latest_within G P n) (left_within G P n) G.limit (latest_within_is G P n) (count G) in
    omega (arith, ints, s)

pub latest_left : (G : Graph) (P : Prices) (o : ℕ) → latest G P o ≡ pos G.limit -ℤ pos (left G P o)
unfolding latest left
latest_left G P o = latest_within_is G P (suc (count G)) o

step_of_is : (z : ℤ) (a b : ℕ) → z ≡ pos a -ℤ pos b → step_of z ≡ a - b
step_of_is (pos n) a b e = omega (arith, ints)
step_of_is (negsuc n) a b e = omega (arith, ints)

pub latest_step_is : (G : Graph) (P : Prices) (o : ℕ) → latest_step G P o ≡ G.limit - left G P o
unfolding latest_step
latest_step_is G P o = step_of_is (latest G P o) G.limit (left G P o) (latest_left G P o)

pub late_true : (G : Graph) (P : Prices) (o : ℕ) → lt_z (latest G P o) (pos (earliest G P o)) ≡ true → G.limit < earliest G P o + left G P o
late_true G P o h = let e = latest_left G P o in omega (arith, ints)

pub late_false : (G : Graph) (P : Prices) (o : ℕ) → lt_z (latest G P o) (pos (earliest G P o)) ≡ false → earliest G P o + left G P o ≤ G.limit
late_false G P o h = let e = latest_left G P o in omega (arith, ints)

-- starts that keep the order and the limit
pub record Timed (G : Graph) (P : Prices) (S : ℕ → ℕ) : Type 0 where
  pub order : (r e : ℕ) → r < count G → e < count G → reads G r e ≡ true → S e + own_steps G P e ≤ S r
  pub ends : (o : ℕ) → o < count G → S o + own_steps G P o ≤ G.limit

module _ (G : Graph) (P : Prices) (S : ℕ → ℕ) (wf : WellFormed G) (ok : Timed G P S) where
  there_le : (g : ℕ → ℕ) (o : ℕ) → o < count G → ((e : ℕ) → e < count G → g e ≤ S e) → (x : Source) → Before o x → ((e : ℕ) → names x e ≡ true → reads G o e ≡ true) → there_at (λ e. g e + own_steps G P e) x ≤ S o
  there_le g o h ih (Input i) y rd = omega arith
  there_le g o h ih (Earlier e) y rd = omega (arith, ih e (omega arith), ok.order o e h (omega arith) (rd e (eq-eqb e e refl)))

  within_le : (n o : ℕ) → o < count G → earliest_within G P n o ≤ S o
  within_le zero o h = omega arith
  within_le (suc n) o h =
      let s = shape G wf o h in
      omega (arith, there_le (earliest_within G P n) o h (within_le n) (first_source (operation_at G o)) s.first (reads_first G o), there_le (earliest_within G P n) o h (within_le n) (second_source (operation_at G o)) s.second (reads_second G o))

  left_le : (n o : ℕ) → o < count G → S o + left_within G P n o ≤ G.limit
  left_le zero o h = omega (arith, ok.ends o h)
  left_le (suc n) o h =
      omega (
        arith,
        ok.ends o h,
        most_le (λ r. cond (reads G r o) (left_within G P n r) 0) (G.limit - (S o + own_steps G P o)) (count G) (λ r k.
            cond_le (reads G r o) (left_within G P n r) (G.limit - (S o + own_steps G P o)) (λ e. omega (arith, left_le n r k, ok.order r o k h e))),
      )

  pub from_earliest : (o : ℕ) → o < count G → earliest G P o ≤ S o
  unfolding earliest
  from_earliest o h = within_le (suc o) o h

  pub to_latest : (o : ℕ) → o < count G → S o + left G P o ≤ G.limit
  unfolding left
  to_latest o h = left_le (suc (count G)) o h

abbrev pub unit_of : Option Placing → ℕ
unit_of None = 0
unit_of (Some p) = p.unit

-- what a lawful plan says of a placed operation
pub record Seat (G : Graph) (P : Prices) (pl : Plan) (o : ℕ) : Type 0 where
  pub p : Placing
  pub is : pl.placed o ≡ Some p
  pub w : Sides
  pub hired_is : pl.hired (kind_at G o) p.unit ≡ Some w
  pub covering : covers w (own_at G o) ≡ true
  pub low : p.unit < units
  pub start_is : start_of (pl.placed o) ≡ p.start
  pub unit_is : unit_of (pl.placed o) ≡ p.unit
  pub longer : p.start + own_steps G P o ≤ finish G P pl o p

module _ (G : Graph) (P : Prices) (pl : Plan) (wf : WellFormed G) (sound : Sound P) (law : Rules G P pl) where
  pub seat : (o : ℕ) (p : Placing) → pl.placed o ≡ Some p → Seat G P pl o
  unfolding finish_with own_steps
  seat o p e =
      let u = law.unit_covers o p e in
      let h = law.hirings (kind_at G o) p.unit u.0 u.1 in
      let i = law.placings o p e in
      let r = sound.rises (kind_at G o) (own_at G o) u.0 (arithmetic (operation_at G o)) (shape G wf o i).width h.2 u.2 in
      let s = ap (steps_of P (kind_at G o)) u.1 in
      record { p = p; is = e; w = u.0; hired_is = u.1; covering = u.2; low = h.1; start_is = ap start_of e; unit_is = ap unit_of e; longer = omega (arith, r, s) }

  pub timed : Complete G pl → Timed G P (λ o. start_of (pl.placed o))
  timed full = record {
    order = λ r e h k rd.
        let x = seat r (full r h).0 (full r h).1 in
        let y = seat e (full e k).0 (full e k).1 in
        omega (arith, x.start_is, y.start_is, y.longer, law.in_order e r y.p x.p y.is x.is rd);
    ends = λ o h.
        let y = seat o (full o h).0 (full o h).1 in
        omega (arith, y.start_is, y.longer, law.in_time o y.p y.is);
  }
