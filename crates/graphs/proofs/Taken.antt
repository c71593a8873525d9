-- A command that is taken: the tests that it passed, and the bytes that it was written with.
use Rattle.std.proofs.Common.{◌≡◌, ℕ, ◌+◌, ◌-◌, ◌≤◌, Bool, true, false, cond, eqb, leb, ◌⊎◌, List, [], ◌∷◌, ◌++◌, length, get_or, drop, Some, None, Option, sym, refl, ap, ◌∙◌, subst, inl, inr, arith}
use Rattle.std.proofs.lemmas.Bool.{cases_Bool, eqb-true, cond-true, cond-false, cond_both, leb-true, leb-false, or_cases, or_left, or_right, and_parts, and_from, ltb-true, lt-leb, le-leb}
use Rattle.graphs.specs.declared.Source.{Source}
use Rattle.graphs.specs.declared.Source.TheVariants.{Input, Earlier}
use Rattle.graphs.specs.declared.Feed.{Feed}
use Rattle.graphs.specs.declared.Command.{Command}
use Rattle.graphs.specs.declared.Command.TheVariants as command
use Rattle.graphs.specs.Graphs.{is_named}
use Rattle.graphs.specs.Commands.{operands, command_of, source_range, source_of}
use Rattle.graphs.specs.Reading.{Sofar, in_order, has_room, in_range, names_earlier, cause}
use Rattle.graphs.specs.Writing.{source_byte}

pub record Passes (d : Sofar) (c : Command) : Type 0 where
  pub order : in_order d c ≡ true
  pub room : has_room d c ≡ true
  pub range : in_range c ≡ true
  pub named : names_earlier d c ≡ true

all_four : {A : Type 0} (x y z w : Bool) (p q r s : A) → cond x (cond y (cond z (cond w None (Some p)) (Some q)) (Some r)) (Some s) ≡ None → (x ≡ true) × (y ≡ true) × (z ≡ true) × (w ≡ true)
all_four true true true true p q r s e = (refl, refl, refl, refl)
all_four true true true false p q r s e = let z : ◌≡◌ {A = ℕ} 0 1 = cc in absurd (omega arith)
all_four true true false w p q r s e = let z : ◌≡◌ {A = ℕ} 0 1 = cc in absurd (omega arith)
all_four true false z w p q r s e = let z : ◌≡◌ {A = ℕ} 0 1 = cc in absurd (omega arith)
all_four false y z w p q r s e = let z : ◌≡◌ {A = ℕ} 0 1 = cc in absurd (omega arith)

pub passes : (d : Sofar) (at : ℕ) (c : Command) → cause d at c ≡ None → Passes d c
passes d at c e =
    let h = all_four (in_order d c) (has_room d c) (in_range c) (names_earlier d c) _ _ _ _ e in
    record { order = h.0; room = h.1; range = h.2; named = h.3 }

pub no_cause_since : (d : Sofar) (at : ℕ) (c : Command) → Passes d c → cause d at c ≡ None
no_cause_since d at c h =
    cond-true (in_order d c) _ _ h.order
    ∙ cond-true (has_room d c) _ _ h.room
    ∙ cond-true (in_range c) _ _ h.range
    ∙ cond-true (names_earlier d c) _ _ h.named

abbrev pub feed_bytes : Feed → List ℕ → List ℕ
feed_bytes x r = x.source ∷ x.drop ∷ r

abbrev pub command_bytes : Command → List ℕ
command_bytes (command.Steps n) = 0x10 ∷ n ∷ []
command_bytes (command.Input w) = 0x11 ∷ w ∷ []
command_bytes (command.Add p a b) = 0x12 ∷ p ∷ feed_bytes a (feed_bytes b [])
command_bytes (command.Multiply p q a b) = 0x13 ∷ p ∷ q ∷ feed_bytes a (feed_bytes b [])
command_bytes (command.Output s) = 0x14 ∷ s ∷ []
command_bytes command.End = 0x1F ∷ []

-- a source in its range is its byte
pub byte_source : (s : ℕ) → source_range s ≡ true → source_byte (source_of s) ≡ s
byte_source s h =
    cond_both (leb s 15) (Input s) (Earlier (s - 64)) (λ x. source_byte x ≡ s)
    (λ t. refl)
    (λ t. elim (or_cases (leb s 15) _ h) [
      | inl u ↦ (let l = leb-true s 15 u in let m = leb-false s 15 t in absurd (omega arith))
      | inr u ↦ (let l = leb-true 64 s (and_parts (leb 64 s) (leb s 127) u).0 in omega arith)
    ])

-- and the byte of a source that names something lies in the range, and gives the source back
pub byte_range : (ins ops : ℕ) (x : Source) → ins ≤ 16 → ops ≤ 64 → is_named ins ops x ≡ true → source_range (source_byte x) ≡ true
byte_range ins ops (Input i) a b h = let l = ltb-true i ins h in or_left _ _ (le-leb i 15 (omega arith))
byte_range ins ops (Earlier o) a b h =
    let l = ltb-true o ops h in
    or_right (leb (64 + o) 15) _ (and_from (leb 64 (64 + o)) (leb (64 + o) 127) (le-leb 64 (64 + o) (omega arith)) (le-leb (64 + o) 127 (omega arith)))

pub source_back : (ins ops : ℕ) (x : Source) → ins ≤ 16 → is_named ins ops x ≡ true → source_of (source_byte x) ≡ x
source_back ins ops (Input i) a h = let l = ltb-true i ins h in cond-true (leb i 15) _ _ (le-leb i 15 (omega arith))
source_back ins ops (Earlier o) a h =
    let e : (64 + o) - 64 ≡ o = omega arith in
    cond-false (leb (64 + o) 15) _ _ (lt-leb (64 + o) 15 (omega arith)) ∙ ap Earlier e

-- the byte of a command tells which it is and how many operands it has
picked : (b v m n : ℕ) (rest : Option ℕ) → cond (eqb b v) (Some m) rest ≡ Some n → ((v ≡ b) × (m ≡ n)) ⊎ (rest ≡ Some n)
picked b v m n rest h =
    elim (cases_Bool (eqb b v)) [
      | inl t ↦ (let e : Some m ≡ Some n = sym (cond-true (eqb b v) (Some m) rest t) ∙ h in inl (sym (eqb-true b v t), cc))
      | inr t ↦ inr (sym (cond-false (eqb b v) (Some m) rest t) ∙ h)
    ]

pub by_byte : (P : ℕ → ℕ → Type 0) → P 0x10 1 → P 0x11 1 → P 0x12 5 → P 0x13 6 → P 0x14 1 → P 0x1F 0 → (b n : ℕ) → operands b ≡ Some n → P b n
by_byte P steps input add multiply output end b n h =
    elim (picked b 0x10 1 n _ h) [
      | inl e ↦ at 0x10 1 e steps
      | inr h ↦
          elim (picked b 0x11 1 n _ h) [
            | inl e ↦ at 0x11 1 e input
            | inr h ↦
                elim (picked b 0x12 5 n _ h) [
                  | inl e ↦ at 0x12 5 e add
                  | inr h ↦
                      elim (picked b 0x13 6 n _ h) [
                        | inl e ↦ at 0x13 6 e multiply
                        | inr h ↦
                            elim (picked b 0x14 1 n _ h) [
                              | inl e ↦ at 0x14 1 e output
                              | inr h ↦
                                  elim (picked b 0x1F 0 n None h) [ inl e ↦ at 0x1F 0 e end | inr h ↦ (let z : ◌≡◌ {A = ℕ} 0 1 = cc in absurd (omega arith)) ]
                            ]
                      ]
                ]
          ]
    ]
  where
    at : (v m : ℕ) → (v ≡ b) × (m ≡ n) → P v m → P b n
    at v m e p = subst (λ x. P x n) e.0 (subst (P v) e.1 p)

-- a list of at least so many bytes begins with them
front_one : (bs : List ℕ) → 1 ≤ length bs → get_or bs 0 0 ∷ drop 1 bs ≡ bs
front_one [] h = absurd (omega arith)
front_one (u ∷ bs) h = refl

front_five : (bs : List ℕ) → 5 ≤ length bs → get_or bs 0 0 ∷ get_or bs 1 0 ∷ get_or bs 2 0 ∷ get_or bs 3 0 ∷ get_or bs 4 0 ∷ drop 5 bs ≡ bs
front_five [] h = absurd (omega arith)
front_five (u ∷ []) h = absurd (omega arith)
front_five (u ∷ v ∷ []) h = absurd (omega arith)
front_five (u ∷ v ∷ w ∷ []) h = absurd (omega arith)
front_five (u ∷ v ∷ w ∷ x ∷ []) h = absurd (omega arith)
front_five (u ∷ v ∷ w ∷ x ∷ y ∷ bs) h = refl

front_six : (bs : List ℕ) → 6 ≤ length bs → get_or bs 0 0 ∷ get_or bs 1 0 ∷ get_or bs 2 0 ∷ get_or bs 3 0 ∷ get_or bs 4 0 ∷ get_or bs 5 0 ∷ drop 6 bs ≡ bs
front_six [] h = absurd (omega arith)
front_six (u ∷ bs) h = ap (λ x. u ∷ x) (front_five bs (omega arith))

-- a command is written with its byte and its operands
pub decoded : (bs : List ℕ) (b n : ℕ) → operands b ≡ Some n → n ≤ length bs → command_bytes (command_of b bs) ++ drop n bs ≡ b ∷ bs
decoded bs =
    by_byte (λ b n. n ≤ length bs → command_bytes (command_of b bs) ++ drop n bs ≡ b ∷ bs)
    (λ h. ap (λ x. 0x10 ∷ x) (front_one bs h))
    (λ h. ap (λ x. 0x11 ∷ x) (front_one bs h))
    (λ h. ap (λ x. 0x12 ∷ x) (front_five bs h))
    (λ h. ap (λ x. 0x13 ∷ x) (front_six bs h))
    (λ h. ap (λ x. 0x14 ∷ x) (front_one bs h))
    (λ h. refl)
