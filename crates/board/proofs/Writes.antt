-- What the tables hold at first, and when a placing is taken out again.
use Rattle.std.proofs.Common.{◌≡◌, ℕ, zero, suc, Bool, true, false, cond, eqb, get_or, set, replicate, None, Option, sym, refl, ap, ◌∙◌}
use Rattle.std.proofs.lemmas.List.{set-set, set-get_or}
use Rattle.plans.specs.declared.Placing.{Placing}
use Rattle.plans.specs.Plans.{empty}
use Rattle.board.specs.declared.tables.Tables.{Tables}
use Rattle.board.specs.Tables.{plan_of, one_side, two_sides, with_entry}

-- a table of one value
pub all_alike : {A : Type 0} (n i : ℕ) (x : A) → get_or (replicate n x) i x ≡ x
all_alike zero i x = refl
all_alike (suc n) zero x = refl
all_alike (suc n) (suc i) x = all_alike n i x

pub nothing_yet : plan_of (record { adders = replicate 64 None; multipliers = replicate 64 None; registers = replicate 64 None; placings = replicate 64 None }) ≡ empty
nothing_yet = λ i. record {
  hired = λ k n. none (eqb k 0) (eqb k 1) (eqb k 2) n i;
  placed = λ o. all_alike 64 o None i;
}
  where
    none : (a b c : Bool) (n : ℕ) → cond a (one_side (get_or (replicate 64 None) n None)) (cond b (two_sides (get_or (replicate 64 None) n None)) (cond c (one_side (get_or (replicate 64 None) n None)) None)) ≡ None
    none true b c n = ap one_side (all_alike 64 n None)
    none false true c n = ap two_sides (all_alike 64 n None)
    none false false true n = ap one_side (all_alike 64 n None)
    none false false false n = refl

-- a placing that is taken out again leaves the tables as they were
pub put_back : (t : Tables) (o : ℕ) (p : Option Placing) → (plan_of t).placed o ≡ None → with_entry (with_entry t o p) o None ≡ t
put_back t o p e = ap (λ xs. record { adders = t.adders; multipliers = t.multipliers; registers = t.registers; placings = xs }) (set-set t.placings o p None ∙ ap (set t.placings o) (sym e) ∙ set-get_or t.placings o None)
