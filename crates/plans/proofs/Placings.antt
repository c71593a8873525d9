-- A placing is taken exactly when the plan with it is lawful.
use Rattle.std.proofs.Common.{◌≡◌, ℕ, zero, suc, ◌<◌, ◌≤◌, Bool, true, false, ◌&&◌, ◌||◌, eqb, ltb, leb, ◌⊎◌, is_some, Some, None, Option, sym, refl, ap, ◌∙◌, inl, inr, arith}
use Rattle.std.specs.Option.{option_map}
use Rattle.faults.specs.declared.Fault.{Fault}
use Rattle.widths.specs.declared.Sides.{Sides}
use Rattle.widths.specs.Kinds.{covers}
use Rattle.graphs.specs.Graphs.{Graph, WellFormed, count}
use Rattle.prices.specs.Prices.{Prices}
use Rattle.plans.specs.declared.Placing.{Placing}
use Rattle.std.proofs.lemmas.Bool.{false≢true, and_cases, and_left, and_right, cases_lt, cases_order, eqb-true, eqb-false, eq-eqb, ne_eqb, leb-false, lt-leb, ltb-false, le-ltb, or_parts, or_from, not-false, not_from_true, cond-true, cond-false}
use Rattle.faults.specs.declared.Fault.TheVariants.{NotReady, UnitBusy, RegisterBusy}
use Rattle.prices.specs.Sums.{any, flag, AllNone}
use Rattle.plans.specs.Plans.{Plan, kind_at, own_at, value_at, reads, units, register, wide, finish_with, finish, last}
use Rattle.plans.specs.Calls.{with_placing, disorder, crowding, sharing, clash, place_causes}
use Rattle.std.proofs.lemmas.Option.{none-some}
use Rattle.prices.proofs.Searches.{flag_none, lowest_none, lowest_clear}
use Rattle.plans.proofs.Looks.{unit_low, low_unit, some_same, cond_some}
use Rattle.plans.proofs.Rules.{Rules, reads_earlier}

pub fault_none : (f : ℕ → Fault) (x : Option ℕ) → option_map f x ≡ None → x ≡ None
fault_none f None e = refl
fault_none f (Some a) e = absurd (none-some _ (sym e))

pub none_fault : (f : ℕ → Fault) (x : Option ℕ) → x ≡ None → option_map f x ≡ None
none_fault f None e = refl
none_fault f (Some a) e = absurd (none-some _ (sym e))

pub none_flag : {A : Type 0} (b : Bool) (x : A) → b ≡ false → flag b x ≡ None
none_flag b x e = cond-false b (Some x) None e

pub there : {A : Type 0} (x : Option A) → is_some x ≡ true → (y : A) × (x ≡ Some y)
there None e = absurd (let z : ◌≡◌ {A = ℕ} 0 1 = cc in omega arith)
there (Some y) e = (y, refl)

pub absent : {A : Type 0} (x : Option A) → is_some x ≡ false → x ≡ None
absent None e = refl
absent (Some y) e = absurd (let z : ◌≡◌ {A = ℕ} 0 1 = cc in omega arith)

any_false : (f : ℕ → Bool) (n : ℕ) → any f n ≡ false → (i : ℕ) → i < n → f i ≡ false
any_false f zero e i h = absurd (omega arith)
any_false f (suc n) e i h =
    let p = or_parts (f n) (any f n) e in
    elim (cases_lt i n) [ inl l ↦ any_false f n p.1 i l | inr g ↦ let q : i ≡ n = omega arith in rw q p.0 ]

any_clear : (f : ℕ → Bool) (n : ℕ) → ((i : ℕ) → i < n → f i ≡ false) → any f n ≡ false
any_clear f zero h = refl
any_clear f (suc n) h = or_from (f n) (any f n) (h n (omega arith)) (any_clear f n (λ i l. h i (omega arith)))

half_false : (x : Bool) (a b : ℕ) → x && ltb a b ≡ false → x ≡ true → b ≤ a
half_false true a b e h = ltb-false a b e
half_false false a b e h = absurd (false≢true h)

half_clear : (x : Bool) (a b : ℕ) → (x ≡ true → b ≤ a) → x && ltb a b ≡ false
half_clear true a b h = le-ltb a b (h refl)
half_clear false a b h = refl

order_false : (x y : Bool) (a b c d : ℕ) → (x && ltb a b) || (y && ltb c d) ≡ false → (x ≡ true → b ≤ a) × (y ≡ true → d ≤ c)
order_false x y a b c d e = let p = or_parts (x && ltb a b) (y && ltb c d) e in (half_false x a b p.0, half_false y c d p.1)

order_clear : (x y : Bool) (a b c d : ℕ) → (x ≡ true → b ≤ a) → (y ≡ true → d ≤ c) → (x && ltb a b) || (y && ltb c d) ≡ false
order_clear x y a b c d h k = or_from (x && ltb a b) (y && ltb c d) (half_clear x a b h) (half_clear y c d k)

pair_false : (x y : Bool) (a b c d : ℕ) → (x && y) && (leb a b && leb c d) ≡ false → x ≡ true → y ≡ true → (b < a) ⊎ (d < c)
pair_false true true a b c d e h k = elim (and_cases (leb a b) (leb c d) e) [ inl z ↦ inl (leb-false a b z) | inr z ↦ inr (leb-false c d z) ]
pair_false true false a b c d e h k = absurd (false≢true k)
pair_false false y a b c d e h k = absurd (false≢true h)

pair_clear : (x y : Bool) (a b c d : ℕ) → (x ≡ true → y ≡ true → (b < a) ⊎ (d < c)) → (x && y) && (leb a b && leb c d) ≡ false
pair_clear true true a b c d h = elim (h refl refl) [ inl z ↦ and_left (leb a b) (leb c d) (lt-leb a b z) | inr z ↦ and_right (leb a b) (leb c d) (lt-leb c d z) ]
pair_clear true false a b c d h = refl
pair_clear false y a b c d h = refl

pub record Clear (G : Graph) (P : Prices) (pl : Plan) (o : ℕ) (p : Placing) : Type 0 where
  pub in_job : o < count G
  pub unit_low : p.unit < units
  pub register_low : p.register < units
  pub new : pl.placed o ≡ None
  pub unit_there : is_some (pl.hired (kind_at G o) p.unit) ≡ true
  pub register_there : is_some (pl.hired register p.register) ≡ true
  pub unit_wide : wide (pl.hired (kind_at G o) p.unit) (own_at G o) ≡ true
  pub register_wide : wide (pl.hired register p.register) (value_at G o) ≡ true
  pub ends : finish G P pl o p ≤ G.limit
  pub ordered : (e : ℕ) → e < count G → disorder G P pl o p e (pl.placed e) ≡ false
  pub alone : (e : ℕ) → e < count G → crowding G P pl o p e (pl.placed e) ≡ false
  pub free : (r : ℕ) → r < units → clash G P (with_placing pl o (Some p)) r ≡ false

module _ (G : Graph) (P : Prices) (pl : Plan) (o : ℕ) (p : Placing) where
  pub clear : AllNone (place_causes G P pl o p) → Clear G P pl o p
  clear a = record {
    in_job = leb-false (count G) o (flag_none _ _ a.0);
    unit_low = unit_low p.unit (flag_none _ _ a.1.0);
    register_low = unit_low p.register (flag_none _ _ a.1.1.0);
    new = absent (pl.placed o) (flag_none _ _ a.1.1.1.0);
    unit_there = not-false _ (flag_none _ _ a.1.1.1.1.0);
    register_there = not-false _ (flag_none _ _ a.1.1.1.1.1.0);
    unit_wide = not-false _ (flag_none _ _ a.1.1.1.1.1.1.0);
    register_wide = not-false _ (flag_none _ _ a.1.1.1.1.1.1.1.0);
    ends = ltb-false G.limit (finish G P pl o p) (flag_none _ _ a.1.1.1.1.1.1.1.1.0);
    ordered = lowest_none (λ e. disorder G P pl o p e (pl.placed e)) (count G) (fault_none NotReady _ a.1.1.1.1.1.1.1.1.1.0);
    alone = lowest_none (λ e. crowding G P pl o p e (pl.placed e)) (count G) (fault_none UnitBusy _ a.1.1.1.1.1.1.1.1.1.1.0);
    free = lowest_none (clash G P (with_placing pl o (Some p))) units (fault_none RegisterBusy _ a.1.1.1.1.1.1.1.1.1.1.1.0);
  }

  pub cleared : Clear G P pl o p → AllNone (place_causes G P pl o p)
  cleared c = (
    none_flag _ _ (lt-leb (count G) o c.in_job),
    (
      none_flag _ _ (low_unit p.unit c.unit_low),
      (
        none_flag _ _ (low_unit p.register c.register_low),
        (
          none_flag _ _ (ap is_some c.new),
          (
            none_flag _ _ (not_from_true _ c.unit_there),
            (
              none_flag _ _ (not_from_true _ c.register_there),
              (
                none_flag _ _ (not_from_true _ c.unit_wide),
                (
                  none_flag _ _ (not_from_true _ c.register_wide),
                  (
                    none_flag _ _ (le-ltb G.limit (finish G P pl o p) c.ends),
                    (
                      none_fault NotReady _ (lowest_clear (λ e. disorder G P pl o p e (pl.placed e)) (count G) c.ordered),
                      (
                        none_fault UnitBusy _ (lowest_clear (λ e. crowding G P pl o p e (pl.placed e)) (count G) c.alone),
                        (
                          none_fault RegisterBusy _ (lowest_clear (clash G P (with_placing pl o (Some p))) units c.free),
                          tt,
                        ),
                      ),
                    ),
                  ),
                ),
              ),
            ),
          ),
        ),
      ),
    ),
  )

-- Where no register has a clash, and where the plan is lawful.
module _ (G : Graph) (P : Prices) (pl : Plan) where
  below_apart : (x y : ℕ) (p q : Placing) → pl.placed x ≡ Some p → pl.placed y ≡ Some q → x < count G → y < x → p.register ≡ q.register → clash G P pl q.register ≡ false → (last G P pl y q < finish G P pl x p) ⊎ (last G P pl x p < finish G P pl y q)
  below_apart x y p q e f h k u c =
      let r : ℕ = q.register in
      let s = any_false (λ b. sharing G P pl r x b (pl.placed x) (pl.placed b)) x (any_false (λ a. any (λ b. sharing G P pl r a b (pl.placed a) (pl.placed b)) a) (count G) c x h) y k in
      let t : sharing G P pl r x y (Some p) (Some q) ≡ false = rw (e, f) at s in
      pair_false (eqb p.register r) (eqb q.register r) (finish G P pl x p) (last G P pl y q) (finish G P pl y q) (last G P pl x p) t (eq-eqb p.register r u) (eq-eqb q.register r refl)

  pub no_clash : Rules G P pl → (r : ℕ) → clash G P pl r ≡ false
  no_clash law r =
      any_clear (λ a. any (λ b. sharing G P pl r a b (pl.placed a) (pl.placed b)) a) (count G) (λ x h.
      any_clear (λ b. sharing G P pl r x b (pl.placed x) (pl.placed b)) x (λ y k. go x y k (pl.placed x) (pl.placed y) refl refl))
    where
      go : (x y : ℕ) → y < x → (a b : Option Placing) → pl.placed x ≡ a → pl.placed y ≡ b → sharing G P pl r x y a b ≡ false
      go x y k None b e f = refl
      go x y k (Some p) None e f = refl
      go x y k (Some p) (Some q) e f =
          pair_clear (eqb p.register r) (eqb q.register r) (finish G P pl x p) (last G P pl y q) (finish G P pl y q) (last G P pl x p) (λ u v.
          law.separate y x q p f e (λ z. omega arith) (eqb-true q.register r v ∙ sym (eqb-true p.register r u)))

with_some : (pl : Plan) (o x : ℕ) (p q : Placing) → (with_placing pl o (Some p)).placed x ≡ Some q → ((x ≡ o) × (p ≡ q)) ⊎ ((x ≡ o → ⊥) × (pl.placed x ≡ Some q))
with_some pl o x p q e =
    elim (cond_some (eqb x o) (Some p) (pl.placed x) q e) [
      | inl z ↦ inl (eqb-true x o z.0, some_same z.1)
      | inr z ↦ inr (eqb-false x o z.0, z.1)
    ]

module _ (G : Graph) (P : Prices) (pl : Plan) (o : ℕ) (p : Placing) where
  -- a placing that keeps the plan lawful is taken
  module _ (law : Rules G P (with_placing pl o (Some p))) (none : pl.placed o ≡ None) where
    here : (with_placing pl o (Some p)).placed o ≡ Some p
    here = cond-true (eqb o o) (Some p) (pl.placed o) (eq-eqb o o refl)

    apart_from : (e : ℕ) (q : Placing) → pl.placed e ≡ Some q → e ≡ o → ⊥
    apart_from e q f z = none-some _ (sym none ∙ sym (ap pl.placed z) ∙ f)

    elsewhere : (e : ℕ) (q : Placing) → pl.placed e ≡ Some q → (with_placing pl o (Some p)).placed e ≡ Some q
    elsewhere e q f = cond-false (eqb e o) (Some p) (pl.placed e) (ne_eqb e o (apart_from e q f)) ∙ f

    ordered_so : (e : ℕ) (x : Option Placing) → pl.placed e ≡ x → disorder G P pl o p e x ≡ false
    unfolding finish_with
    ordered_so e None f = refl
    ordered_so e (Some q) f =
        order_clear (reads G o e) (reads G e o) p.start (finish G P pl e q) q.start (finish G P pl o p)
        (law.in_order e o q p (elsewhere e q f) here) (law.in_order o e p q here (elsewhere e q f))

    alone_so : (e : ℕ) (x : Option Placing) → pl.placed e ≡ x → crowding G P pl o p e x ≡ false
    unfolding finish_with
    alone_so e None f = refl
    alone_so e (Some q) f =
        pair_clear (eqb (kind_at G e) (kind_at G o)) (eqb q.unit p.unit) (suc p.start) (finish G P pl e q) (suc q.start) (finish G P pl o p) (λ u v.
        elim (law.apart e o q p (elsewhere e q f) here (apart_from e q f) (eqb-true (kind_at G e) (kind_at G o) u) (eqb-true q.unit p.unit v)) [
          | inl z ↦ inl (omega arith)
          | inr z ↦ inr (omega arith)
        ])

    pub lawful_taken : AllNone (place_causes G P pl o p)
    unfolding finish_with
    lawful_taken =
        let u = law.unit_covers o p here in
        let v = law.register_covers o p here in
        cleared G P pl o p (record {
          in_job = law.placings o p here;
          unit_low = (law.hirings (kind_at G o) p.unit u.0 u.1).1;
          register_low = (law.hirings register p.register v.0 v.1).1;
          new = none;
          unit_there = ap is_some u.1;
          register_there = ap is_some v.1;
          unit_wide = rw u.1 u.2;
          register_wide = rw v.1 v.2;
          ends = law.in_time o p here;
          ordered = λ e h. ordered_so e (pl.placed e) refl;
          alone = λ e h. alone_so e (pl.placed e) refl;
          free = λ r h. no_clash G P (with_placing pl o (Some p)) law r;
        })

  -- a placing that is taken keeps the plan lawful
  module _ (wf : WellFormed G) (law : Rules G P pl) (c : Clear G P pl o p) where
    new_unit : (w : Sides) × (pl.hired (kind_at G o) p.unit ≡ Some w) × (covers w (own_at G o) ≡ true)
    new_unit = let w = there (pl.hired (kind_at G o) p.unit) c.unit_there in (w.0, w.1, rw w.1 at c.unit_wide)

    new_register : (w : Sides) × (pl.hired register p.register ≡ Some w) × (covers w (value_at G o) ≡ true)
    new_register = let w = there (pl.hired register p.register) c.register_there in (w.0, w.1, rw w.1 at c.register_wide)

    order_with : (e : ℕ) (q : Placing) → pl.placed e ≡ Some q → (reads G o e ≡ true → finish G P pl e q ≤ p.start) × (reads G e o ≡ true → finish G P pl o p ≤ q.start)
    order_with e q f =
        let d : disorder G P pl o p e (Some q) ≡ false = rw f at (c.ordered e (law.placings e q f)) in
        order_false (reads G o e) (reads G e o) p.start (finish G P pl e q) q.start (finish G P pl o p) d

    apart_with : (e : ℕ) (q : Placing) → pl.placed e ≡ Some q → kind_at G e ≡ kind_at G o → q.unit ≡ p.unit → (finish G P pl e q ≤ p.start) ⊎ (finish G P pl o p ≤ q.start)
    apart_with e q f k u =
        let d : crowding G P pl o p e (Some q) ≡ false = rw f at (c.alone e (law.placings e q f)) in
        elim (pair_false (eqb (kind_at G e) (kind_at G o)) (eqb q.unit p.unit) (suc p.start) (finish G P pl e q) (suc q.start) (finish G P pl o p) d (eq-eqb (kind_at G e) (kind_at G o) k) (eq-eqb q.unit p.unit u)) [
          | inl z ↦ inl (omega arith)
          | inr z ↦ inr (omega arith)
        ]

    placed_low : (x : ℕ) (q : Placing) → (with_placing pl o (Some p)).placed x ≡ Some q → (x < count G) × (q.register < units)
    placed_low x q e = elim (with_some pl o x p q e) [
      | inl z ↦ rw (z.0, ← z.1) (c.in_job, c.register_low)
      | inr z ↦ let r = law.register_covers x q z.1 in (law.placings x q z.1, (law.hirings register q.register r.0 r.1).1)
    ]

    pub taken_lawful : Rules G P (with_placing pl o (Some p))
    unfolding finish_with
    taken_lawful = record {
      hirings = law.hirings;
      placings = λ x q e. (placed_low x q e).0;
      unit_covers = λ x q e. elim (with_some pl o x p q e) [ inl z ↦ rw (z.0, ← z.1) new_unit | inr z ↦ law.unit_covers x q z.1 ];
      register_covers = λ x q e. elim (with_some pl o x p q e) [ inl z ↦ rw (z.0, ← z.1) new_register | inr z ↦ law.register_covers x q z.1 ];
      in_time = λ x q e. elim (with_some pl o x p q e) [ inl z ↦ rw (z.0, ← z.1) c.ends | inr z ↦ law.in_time x q z.1 ];
      in_order = λ x y q r e f rd. elim (with_some pl o x p q e) [
        | inl a ↦ elim (with_some pl o y p r f) [
          | inl b ↦ absurd (omega (arith, reads_earlier G wf y x (placed_low y r f).0 rd, a.0, b.0))
          | inr b ↦ rw (a.0, ← a.1) ((order_with y r b.1).1 (rw a.0 at rd))
        ]
        | inr a ↦ elim (with_some pl o y p r f) [
          | inl b ↦ rw (← b.1) ((order_with x q a.1).0 (rw b.0 at rd))
          | inr b ↦ law.in_order x y q r a.1 b.1 rd
        ]
      ];
      apart = λ x y q r e f ne k u. elim (with_some pl o x p q e) [
        | inl a ↦ elim (with_some pl o y p r f) [
          | inl b ↦ absurd (ne (a.0 ∙ sym b.0))
          | inr b ↦ rw (a.0, ← a.1) (elim (apart_with y r b.1 (sym k ∙ ap (kind_at G) a.0) (sym u ∙ sym (ap (λ z. z.unit) a.1))) [ inl g ↦ inr g | inr g ↦ inl g ])
        ]
        | inr a ↦ elim (with_some pl o y p r f) [
          | inl b ↦ rw (b.0, ← b.1) (apart_with x q a.1 (k ∙ ap (kind_at G) b.0) (u ∙ sym (ap (λ z. z.unit) b.1)))
          | inr b ↦ law.apart x y q r a.1 b.1 ne k u
        ]
      ];
      separate = λ x y q r e f ne u. elim (cases_order x y) [
        | inl z ↦ absurd (ne z)
        | inr w ↦ elim w [
          | inl l ↦ below_apart G P (with_placing pl o (Some p)) y x r q f e (placed_low y r f).0 l (sym u) (c.free q.register (placed_low x q e).1)
          | inr l ↦ elim (below_apart G P (with_placing pl o (Some p)) x y q r e f (placed_low x q e).0 l u (c.free r.register (placed_low y r f).1)) [ inl g ↦ inr g | inr g ↦ inl g ]
        ]
      ];
    }
